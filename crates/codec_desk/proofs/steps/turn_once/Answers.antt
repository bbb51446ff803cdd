use Rattle.std.proofs.Common.{◌≡◌, Some, refl, length, vec_len, arith}
use Rattle.std.specs.Prelude.{slice_get}
use Rattle.std.proofs.lemmas.Option.{slice_get_read}
use Rattle.shared_codec.specs.Settled.{TurnOnceTells}
use Rattle.codec_desk.specs.DeskLaws.{settled_one, sit_after}
use Rattle.codec_desk.specs.NamedLaws.{turned_calls}
use Rattle.codec_desk.specs.RunLaws.{none_at, none_turned}
use Rattle.codec_desk.proofs.Going.{sit_length, sit_get}
use Rattle.codec_desk.proofs.steps.turn_once.Goals as goal

pub index_mut-requires : goal.index_mut-requires
index_mut-requires g c =
    let l = sit_length c.args.desk.now c.args.seats.now c.requires.sits in
    let r = c.requires.codec in
    let e : vec_len c.args.seats.now.codecs ≡ length c.args.seats.now.codecs.items = c.args.seats.now.codecs.ok.0 in
    omega (arith, l, r, e)

pub turn_once-requires-clause-seat : goal.turn_once-requires-clause-seat
turn_once-requires-clause-seat g c κs within =
    let l = sit_length c.args.desk.now c.args.seats.now c.requires.sits in
    let r = c.requires.codec in
    let codec_is : slice_get c.args.desk.now.codecs.items c.args.codec ≡ Some c.index.result.now = slice_get_read _ _ c.args.codec c.index.result.now refl r c.index.ensures in
    let seat_is : slice_get c.args.seats.now.codecs.items c.args.codec ≡ Some c.index_mut.result.now = slice_get_read _ _ c.args.codec c.index_mut.result.now refl (omega (arith, l, r)) c.index_mut.ensures.value in
    (sit_get c.args.desk.now c.args.seats.now c.args.codec c.index.result.now c.index_mut.result.now c.requires.sits codec_is seat_is).idle

pub turn_once-requires-clause-slots : goal.turn_once-requires-clause-slots
turn_once-requires-clause-slots g c κs within =
    let l = sit_length c.args.desk.now c.args.seats.now c.requires.sits in
    let r = c.requires.codec in
    let codec_is : slice_get c.args.desk.now.codecs.items c.args.codec ≡ Some c.index.result.now = slice_get_read _ _ c.args.codec c.index.result.now refl r c.index.ensures in
    let seat_is : slice_get c.args.seats.now.codecs.items c.args.codec ≡ Some c.index_mut.result.now = slice_get_read _ _ c.args.codec c.index_mut.result.now refl (omega (arith, l, r)) c.index_mut.ensures.value in
    (sit_get c.args.desk.now c.args.seats.now c.args.codec c.index.result.now c.index_mut.result.now c.requires.sits codec_is seat_is).slots_is

pub turn_once-requires-clause-pool : goal.turn_once-requires-clause-pool
turn_once-requires-clause-pool g c κs within =
    let l = sit_length c.args.desk.now c.args.seats.now c.requires.sits in
    let r = c.requires.codec in
    let codec_is : slice_get c.args.desk.now.codecs.items c.args.codec ≡ Some c.index.result.now = slice_get_read _ _ c.args.codec c.index.result.now refl r c.index.ensures in
    let seat_is : slice_get c.args.seats.now.codecs.items c.args.codec ≡ Some c.index_mut.result.now = slice_get_read _ _ c.args.codec c.index_mut.result.now refl (omega (arith, l, r)) c.index_mut.ensures.value in
    (sit_get c.args.desk.now c.args.seats.now c.args.codec c.index.result.now c.index_mut.result.now c.requires.sits codec_is seat_is).pool_is

pub returns-clause-turned : goal.returns-clause-turned
returns-clause-turned g c =
    let l = sit_length c.args.desk.now c.args.seats.now c.requires.sits in
    let r = c.requires.codec in
    let codec_is : slice_get c.args.desk.now.codecs.items c.args.codec ≡ Some c.index.result.now = slice_get_read _ _ c.args.codec c.index.result.now refl r c.index.ensures in
    let seat_is : slice_get c.args.seats.now.codecs.items c.args.codec ≡ Some c.index_mut.result.now = slice_get_read _ _ c.args.codec c.index_mut.result.now refl (omega (arith, l, r)) c.index_mut.ensures.value in
    record {
      partner = c.index.result.now;
      before = c.index_mut.result.now;
      after = c.turn_once.new.seat;
      partner_is = codec_is;
      before_is = seat_is;
      after_is = refl;
      so = c.turn_once.ensures.turn;
    }

pub returns-clause-settled : goal.returns-clause-settled
returns-clause-settled g c =
    let l = sit_length c.args.desk.now c.args.seats.now c.requires.sits in
    let r = c.requires.codec in
    let codec_is : slice_get c.args.desk.now.codecs.items c.args.codec ≡ Some c.index.result.now = slice_get_read _ _ c.args.codec c.index.result.now refl r c.index.ensures in
    let seat_is : slice_get c.args.seats.now.codecs.items c.args.codec ≡ Some c.index_mut.result.now = slice_get_read _ _ c.args.codec c.index_mut.result.now refl (omega (arith, l, r)) c.index_mut.ensures.value in
    settled_one c.args.desk.now c.args.seats.now _ c.args.codec c.index.result.now c.index_mut.result.now c.turn_once.new.seat c.dues_add_up.ensures.slots c.dues_add_up.ensures.media c.requires.sits codec_is seat_is refl
    c.turn_once.ensures.kept c.turn_once.ensures.kept_slots c.turn_once.ensures.kept_pool c.turn_once.ensures.settles

pub returns-clause-sits : goal.returns-clause-sits
returns-clause-sits g c =
    let l = sit_length c.args.desk.now c.args.seats.now c.requires.sits in
    let r = c.requires.codec in
    let codec_is : slice_get c.args.desk.now.codecs.items c.args.codec ≡ Some c.index.result.now = slice_get_read _ _ c.args.codec c.index.result.now refl r c.index.ensures in
    let seat_is : slice_get c.args.seats.now.codecs.items c.args.codec ≡ Some c.index_mut.result.now = slice_get_read _ _ c.args.codec c.index_mut.result.now refl (omega (arith, l, r)) c.index_mut.ensures.value in
    sit_after c.args.desk.now c.args.seats.now _ c.requires.sits
    (settled_one c.args.desk.now c.args.seats.now _ c.args.codec c.index.result.now c.index_mut.result.now c.turn_once.new.seat c.dues_add_up.ensures.slots c.dues_add_up.ensures.media c.requires.sits codec_is seat_is refl
    c.turn_once.ensures.kept c.turn_once.ensures.kept_slots c.turn_once.ensures.kept_pool c.turn_once.ensures.settles) c.turn_once.ensures.free_pool c.turn_once.ensures.free_slots

pub returns-clause-runs : goal.returns-clause-runs
returns-clause-runs g c none =
    none_at (λ s a b. TurnOnceTells s c.turn_once.result a b) (λ s a b told. none_turned s c.turn_once.result a b told) c.args.codec c.args.desk.now.codecs.items c.args.seats.now.codecs.items _ (returns-clause-turned g c) none

pub returns-clause-calls : goal.returns-clause-calls
returns-clause-calls g c =
    turned_calls c.args.codec c.turn_once.result c.args.desk.now.codecs.items c.args.seats.now.codecs.items _ (returns-clause-turned g c)
