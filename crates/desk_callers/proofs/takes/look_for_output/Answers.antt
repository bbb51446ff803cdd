use Rattle.std.proofs.Common.{◌≡◌, [], Some, refl, length, vec_len, arith}
use Rattle.std.specs.Prelude.{slice_get}
use Rattle.std.proofs.lemmas.Option.{slice_get_read}
use Rattle.shared_codec.specs.Keeps.{keeps_none}
use Rattle.shared_codec.specs.Takes.{OutputTells}
use Rattle.shared_codec.specs.Settles.{settles_rest}
use Rattle.codec_desk.specs.DeskLaws.{settled_one, sit_after}
use Rattle.codec_desk.specs.RunLaws.{none_at, none_looked}
use Rattle.codec_desk.specs.NamedLaws.{named_one}
use Rattle.shared_codec.specs.NameLaws.{saw_names}
use Rattle.desk_callers.proofs.Sitting.{sit_length, sit_get}
use Rattle.desk_callers.proofs.Ends.{looked_ends, ends_at}
use Rattle.desk_callers.proofs.takes.look_for_output.Goals as goal

pub index_mut-requires : goal.index_mut-requires
index_mut-requires g c =
    let l = sit_length c.args.desk.now c.args.seats.now c.requires.sits in
    let r = c.requires.codec in
    let e : vec_len c.args.seats.now.codecs ≡ length c.args.seats.now.codecs.items = c.args.seats.now.codecs.ok.0 in
    omega (arith, l, r, e)

pub look_for_output-requires-after_bounds : goal.look_for_output-requires-after_bounds
look_for_output-requires-after_bounds g c κs within =
    let l = sit_length c.args.desk.now c.args.seats.now c.requires.sits in
    let r = c.requires.codec in
    let codec_is : slice_get c.args.desk.now.codecs.items c.args.codec ≡ Some c.index.result.now = slice_get_read _ _ c.args.codec c.index.result.now refl r c.index.ensures in
    let seat_is : slice_get c.args.seats.now.codecs.items c.args.codec ≡ Some c.index_mut.result.now = slice_get_read _ _ c.args.codec c.index_mut.result.now refl (omega (arith, l, r)) c.index_mut.ensures.value in
    (sit_get c.args.desk.now c.args.seats.now c.args.codec c.index.result.now c.index_mut.result.now c.requires.sits codec_is seat_is).idle

pub returns-clause-looked : goal.returns-clause-looked
returns-clause-looked g c =
    let l = sit_length c.args.desk.now c.args.seats.now c.requires.sits in
    let r = c.requires.codec in
    let codec_is : slice_get c.args.desk.now.codecs.items c.args.codec ≡ Some c.index.result.now = slice_get_read _ _ c.args.codec c.index.result.now refl r c.index.ensures in
    let seat_is : slice_get c.args.seats.now.codecs.items c.args.codec ≡ Some c.index_mut.result.now = slice_get_read _ _ c.args.codec c.index_mut.result.now refl (omega (arith, l, r)) c.index_mut.ensures.value in
    record {
      partner = c.index.result.now;
      before = c.index_mut.result.now;
      after = c.look_for_output.new.seat;
      partner_is = codec_is;
      before_is = seat_is;
      after_is = refl;
      so = c.look_for_output.ensures.tells;
    }

pub returns-clause-helped : goal.returns-clause-helped
returns-clause-helped g c =
    let l = sit_length c.args.desk.now c.args.seats.now c.requires.sits in
    let r = c.requires.codec in
    let codec_is : slice_get c.args.desk.now.codecs.items c.args.codec ≡ Some c.index.result.now = slice_get_read _ _ c.args.codec c.index.result.now refl r c.index.ensures in
    let seat_is : slice_get c.args.seats.now.codecs.items c.args.codec ≡ Some c.index_mut.result.now = slice_get_read _ _ c.args.codec c.index_mut.result.now refl (omega (arith, l, r)) c.index_mut.ensures.value in
    record {
      settled = settled_one c.args.desk.now c.args.seats.now _ c.args.codec c.index.result.now c.index_mut.result.now c.look_for_output.new.seat c.dues_add_up.ensures.slots c.dues_add_up.ensures.media c.requires.sits codec_is seat_is refl
          c.look_for_output.ensures.kept (keeps_none c.args.desk.now.slots.id c.args.seats.now.slots c.requires.sits.slots.0) (keeps_none c.args.desk.now.pool c.args.seats.now.pool c.requires.sits.pool.0)
          (settles_rest c.index.result.now c.index_mut.result.now.me.0 c.look_for_output.new.seat.me.0 c.args.seats.now.slots.me.0 c.args.seats.now.pool.me.0 c.look_for_output.ensures.owes);
      calls = named_one [] (λ s a b. OutputTells s c.look_for_output.result a b) (λ s a b told. saw_names s _ a b told) c.args.codec c.args.desk.now.codecs.items c.args.seats.now.codecs.items _ (returns-clause-looked g c);
    }

pub returns-clause-sits : goal.returns-clause-sits
returns-clause-sits g c = sit_after c.args.desk.now c.args.seats.now _ c.requires.sits (returns-clause-helped g c).settled c.requires.sits.pool c.requires.sits.slots

pub returns-clause-runs : goal.returns-clause-runs
returns-clause-runs g c none =
    none_at (λ s a b. OutputTells s c.look_for_output.result a b) (λ s a b told. none_looked s a b told.looked) c.args.codec c.args.desk.now.codecs.items c.args.seats.now.codecs.items _ (returns-clause-looked g c) none

pub returns-clause-ends : goal.returns-clause-ends
returns-clause-ends g c =
    ends_at c.args.desk.now c.args.seats.now _ c.requires.sits c.args.codec (λ s a b. OutputTells s c.look_for_output.result a b) (λ s a b told. looked_ends s a b told.looked) (returns-clause-looked g c)
