use Rattle.std.proofs.Common.{◌≡◌, ◌+◌, ◌++◌, ◌∷◌, [], List, Some, length, length-append, refl, ap, sym, ◌∙◌, arith}
use Rattle.std.specs.Prelude.{slice_get}
use Rattle.std.proofs.lemmas.Option.{slice_get_read}
use Rattle.reclaimer.specs.declared.holder.Holder.{Holder}
use Rattle.work_moments.specs.Moments.{silent}
use Rattle.codec_desk.specs.Items.{holder_if}
use Rattle.codec_desk.specs.ItemLaws.{meanwhile_none, meanwhile_then, saw_more, holders_more, holders_few, number_at}
use Rattle.codec_desk.proofs.rooms.look_at_holders.Goals as goal

pub loop-codec-init : goal.loop-codec-init
loop-codec-init g c = record {
  meanwhile = λ t. meanwhile_none c.args.desk.now t c.args.seats.now c.requires.sits;
  end = c.len-codec-end.ensures ∙ c.args.desk.now.codecs.ok.0;
  below = omega arith;
  room = refl;
  saw = ([], refl, refl, c.requires.empty);
}

pub look_at_holding-seen-requires-clause-sits : goal.look_at_holding-seen-requires-clause-sits
look_at_holding-seen-requires-clause-sits g c κs within = (c.loop-codec.invariant.meanwhile silent).sits

pub look_at_holding-seen-requires-clause-codec : goal.look_at_holding-seen-requires-clause-codec
look_at_holding-seen-requires-clause-codec g c =
    let lt = c.loop-codec-test.true in
    let end = c.loop-codec.invariant.end in
    omega (arith, lt, end)

pub add_holder-requires : goal.add_holder-requires
add_holder-requires g c =
    let i = c.loop-codec.invariant in
    let few = holders_few 0 i.saw.0 in
    let many = ap (λ (l : List Holder). length l) i.saw.3 in
    let all = i.saw.1 in
    let lt = c.loop-codec-test.true in
    let end = i.end in
    let room = i.room in
    let free = c.requires.room in
    omega (arith, few, many, all, lt, end, room, free)

pub loop-codec-preserved : goal.loop-codec-preserved
loop-codec-preserved g c =
    let i = c.loop-codec.invariant in
    let e = c.look_at_holding-seen.ensures in
    let lt = c.loop-codec-test.true in
    let end = i.end in
    let seen = c.look_at_holding-seen.result in
    let codec_is : slice_get c.args.desk.now.codecs.items c.loop-codec.codec ≡ Some c.index.result.now = slice_get_read _ _ c.loop-codec.codec c.index.result.now refl (omega (arith, lt, end)) c.index.ensures in
    let number : c.number.result ≡ c.loop-codec.codec = c.number.ensures ∙ number_at c.args.desk.now c.args.seats.now c.loop-codec.codec c.index.result.now c.requires.sits codec_is in
    let all : 0 + length i.saw.0 ≡ c.loop-codec.codec = (let z = i.saw.1 in omega (arith, z)) in
    record {
      meanwhile = λ t. meanwhile_then c.args.desk.now t t t c.args.seats.now c.loop-codec.seats c.look_at_holding-seen.new.seats (i.meanwhile t) (e.meanwhile t);
      end = i.end;
      below = omega (arith, lt);
      room = c.add_holder.ensures.room ∙ i.room;
      saw = (
        i.saw.0 ++ seen ∷ [],
        (let z = i.saw.1 in let one = length-append i.saw.0 (seen ∷ []) in omega (arith, z, one)),
        saw_more i.saw.0 seen c.loop-codec.codec c.args.desk.now.codecs.items c.args.seats.now.codecs.items c.loop-codec.seats.codecs.items c.look_at_holding-seen.new.seats.codecs.items i.saw.1 i.saw.2 e.looked,
        c.add_holder.ensures.items ∙ ((λ j. i.saw.3 j ++ holder_if ((number ∙ sym all) j) seen.0 seen.1 seen.2) ∙ sym (holders_more 0 i.saw.0 seen)),
      );
    }

pub returns-clause-saw : goal.returns-clause-saw
returns-clause-saw g c =
    let i = c.loop-codec.invariant in
    let over = c.loop-codec-test.false in
    let end = i.end in
    let below = i.below in
    let all = i.saw.1 in
    record { seen = i.saw.0; all = omega (arith, over, end, below, all); saw = i.saw.2; are = i.saw.3 }

pub returns-clause-meanwhile : goal.returns-clause-meanwhile
returns-clause-meanwhile g c t = c.loop-codec.invariant.meanwhile t
