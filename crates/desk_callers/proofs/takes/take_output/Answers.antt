use Rattle.std.proofs.Common.{◌≡◌, Some, refl, length, vec_len, arith}
use Rattle.std.specs.Prelude.{slice_get}
use Rattle.std.proofs.lemmas.Option.{slice_get_read}
use Rattle.shared_codec.specs.Keeps.{keeps_none}
use Rattle.shared_codec.specs.Takes.{TakeTells}
use Rattle.shared_codec.specs.Settles.{settles_rest}
use Rattle.codec_desk.specs.DeskLaws.{settled_one, sit_after}
use Rattle.codec_desk.specs.RunLaws.{none_at}
use Rattle.desk_callers.proofs.Runners.{none_took}
use Rattle.desk_callers.proofs.Sitting.{sit_length, sit_get}
use Rattle.desk_callers.proofs.Taking.{took_at}
use Rattle.desk_callers.proofs.Ends.{took_ends, ends_at}
use Rattle.desk_callers.proofs.takes.take_output.Goals as goal

pub index_mut-requires : goal.index_mut-requires
index_mut-requires g c =
    let l = sit_length c.args.desk.now c.args.seats.now c.requires.sits in
    let r = c.requires.codec in
    let e : vec_len c.args.seats.now.codecs ≡ length c.args.seats.now.codecs.items = c.args.seats.now.codecs.ok.0 in
    omega (arith, l, r, e)

pub take-requires-after_bounds : goal.take-requires-after_bounds
take-requires-after_bounds g c κs within =
    let l = sit_length c.args.desk.now c.args.seats.now c.requires.sits in
    let r = c.requires.codec in
    let codec_is : slice_get c.args.desk.now.codecs.items c.args.codec ≡ Some c.index.result.now = slice_get_read _ _ c.args.codec c.index.result.now refl r c.index.ensures in
    let seat_is : slice_get c.args.seats.now.codecs.items c.args.codec ≡ Some c.index_mut.result.now = slice_get_read _ _ c.args.codec c.index_mut.result.now refl (omega (arith, l, r)) c.index_mut.ensures.value in
    (sit_get c.args.desk.now c.args.seats.now c.args.codec c.index.result.now c.index_mut.result.now c.requires.sits codec_is seat_is).idle

pub returns-clause-taken : goal.returns-clause-taken
returns-clause-taken g c =
    let l = sit_length c.args.desk.now c.args.seats.now c.requires.sits in
    let r = c.requires.codec in
    let codec_is : slice_get c.args.desk.now.codecs.items c.args.codec ≡ Some c.index.result.now = slice_get_read _ _ c.args.codec c.index.result.now refl r c.index.ensures in
    let seat_is : slice_get c.args.seats.now.codecs.items c.args.codec ≡ Some c.index_mut.result.now = slice_get_read _ _ c.args.codec c.index_mut.result.now refl (omega (arith, l, r)) c.index_mut.ensures.value in
    record {
      partner = c.index.result.now;
      before = c.index_mut.result.now;
      after = c.take.new.seat;
      partner_is = codec_is;
      before_is = seat_is;
      after_is = refl;
      so = c.take.ensures.taken;
    }

pub returns-clause-settled : goal.returns-clause-settled
returns-clause-settled g c =
    let l = sit_length c.args.desk.now c.args.seats.now c.requires.sits in
    let r = c.requires.codec in
    let codec_is : slice_get c.args.desk.now.codecs.items c.args.codec ≡ Some c.index.result.now = slice_get_read _ _ c.args.codec c.index.result.now refl r c.index.ensures in
    let seat_is : slice_get c.args.seats.now.codecs.items c.args.codec ≡ Some c.index_mut.result.now = slice_get_read _ _ c.args.codec c.index_mut.result.now refl (omega (arith, l, r)) c.index_mut.ensures.value in
    settled_one c.args.desk.now c.args.seats.now _ c.args.codec c.index.result.now c.index_mut.result.now c.take.new.seat c.dues_add_up.ensures.slots c.dues_add_up.ensures.media c.requires.sits codec_is seat_is refl
    c.take.ensures.kept (keeps_none c.args.desk.now.slots.id c.args.seats.now.slots c.requires.sits.slots.0) (keeps_none c.args.desk.now.pool c.args.seats.now.pool c.requires.sits.pool.0)
    (settles_rest c.index.result.now c.index_mut.result.now.me.0 c.take.new.seat.me.0 c.args.seats.now.slots.me.0 c.args.seats.now.pool.me.0 c.take.ensures.owes)

pub returns-clause-calls : goal.returns-clause-calls
returns-clause-calls g c =
    took_at c.args.desk.now.pool c.args.desk.now.slots.id c.args.codec c.args.who c.args.number c.take.result c.args.desk.now.codecs.items c.args.seats.now.codecs.items _ c.requires.sits.codecs (returns-clause-taken g c)

pub returns-clause-sits : goal.returns-clause-sits
returns-clause-sits g c = sit_after c.args.desk.now c.args.seats.now _ c.requires.sits (returns-clause-settled g c) c.requires.sits.pool c.requires.sits.slots

pub returns-clause-runs : goal.returns-clause-runs
returns-clause-runs g c none =
    none_at (λ s a b. TakeTells s c.args.who c.args.number c.take.result a b) (λ s a b told. none_took s c.args.who c.args.number c.take.result a b told) c.args.codec c.args.desk.now.codecs.items c.args.seats.now.codecs.items _ (returns-clause-taken g c) none

pub returns-clause-ends : goal.returns-clause-ends
returns-clause-ends g c =
    ends_at c.args.desk.now c.args.seats.now _ c.requires.sits c.args.codec (λ s a b. TakeTells s c.args.who c.args.number c.take.result a b) (took_ends c.args.who c.args.number c.take.result) (returns-clause-taken g c)
