use Rattle.std.proofs.Common.{◌≡◌, Some, refl, length, vec_len, arith}
use Rattle.std.specs.Prelude.{slice_get}
use Rattle.std.proofs.lemmas.Option.{slice_get_read}
use Rattle.codec_desk.proofs.Going.{sit_length, sit_get}
use Rattle.shared_codec.specs.Keeps.{keeps_none}
use Rattle.codec_desk.specs.DeskLaws.{settled_one, sit_after}
use Rattle.codec_desk.proofs.items.start_item.Goals as goal

pub index_mut-requires : goal.index_mut-requires
index_mut-requires g c =
    let l = sit_length c.args.desk.now c.args.seats.now c.requires.sits in
    let r = c.requires.codec in
    let e : vec_len c.args.seats.now.codecs ≡ length c.args.seats.now.codecs.items = c.args.seats.now.codecs.ok.0 in
    omega (arith, l, r, e)

pub start_once-requires-clause-seat : goal.start_once-requires-clause-seat
start_once-requires-clause-seat g c κs within =
    let l = sit_length c.args.desk.now c.args.seats.now c.requires.sits in
    let r = c.requires.codec in
    let codec_is : slice_get c.args.desk.now.codecs.items c.args.codec ≡ Some c.index.result.now = slice_get_read _ _ c.args.codec c.index.result.now refl r c.index.ensures in
    let seat_is : slice_get c.args.seats.now.codecs.items c.args.codec ≡ Some c.index_mut.result.now = slice_get_read _ _ c.args.codec c.index_mut.result.now refl (omega (arith, l, r)) c.index_mut.ensures.value in
    (sit_get c.args.desk.now c.args.seats.now c.args.codec c.index.result.now c.index_mut.result.now c.requires.sits codec_is seat_is).idle

pub start_once-requires-clause-slots : goal.start_once-requires-clause-slots
start_once-requires-clause-slots g c κs within =
    let l = sit_length c.args.desk.now c.args.seats.now c.requires.sits in
    let r = c.requires.codec in
    let codec_is : slice_get c.args.desk.now.codecs.items c.args.codec ≡ Some c.index.result.now = slice_get_read _ _ c.args.codec c.index.result.now refl r c.index.ensures in
    let seat_is : slice_get c.args.seats.now.codecs.items c.args.codec ≡ Some c.index_mut.result.now = slice_get_read _ _ c.args.codec c.index_mut.result.now refl (omega (arith, l, r)) c.index_mut.ensures.value in
    (sit_get c.args.desk.now c.args.seats.now c.args.codec c.index.result.now c.index_mut.result.now c.requires.sits codec_is seat_is).slots_is

pub returns-clause-begins : goal.returns-clause-begins
returns-clause-begins g c =
    let l = sit_length c.args.desk.now c.args.seats.now c.requires.sits in
    let r = c.requires.codec in
    let codec_is : slice_get c.args.desk.now.codecs.items c.args.codec ≡ Some c.index.result.now = slice_get_read _ _ c.args.codec c.index.result.now refl r c.index.ensures in
    let seat_is : slice_get c.args.seats.now.codecs.items c.args.codec ≡ Some c.index_mut.result.now = slice_get_read _ _ c.args.codec c.index_mut.result.now refl (omega (arith, l, r)) c.index_mut.ensures.value in
    record {
      partner = c.index.result.now;
      before = c.index_mut.result.now;
      after = c.start_once.new.seat;
      partner_is = codec_is;
      before_is = seat_is;
      after_is = refl;
      so = c.start_once.ensures.begins;
    }

pub returns-clause-settled : goal.returns-clause-settled
returns-clause-settled g c =
    let l = sit_length c.args.desk.now c.args.seats.now c.requires.sits in
    let r = c.requires.codec in
    let codec_is : slice_get c.args.desk.now.codecs.items c.args.codec ≡ Some c.index.result.now = slice_get_read _ _ c.args.codec c.index.result.now refl r c.index.ensures in
    let seat_is : slice_get c.args.seats.now.codecs.items c.args.codec ≡ Some c.index_mut.result.now = slice_get_read _ _ c.args.codec c.index_mut.result.now refl (omega (arith, l, r)) c.index_mut.ensures.value in
    settled_one c.args.desk.now c.args.seats.now _ c.args.codec c.index.result.now c.index_mut.result.now c.start_once.new.seat c.dues_add_up.ensures.slots c.dues_add_up.ensures.media c.requires.sits codec_is seat_is refl
    c.start_once.ensures.kept c.start_once.ensures.kept_slots (keeps_none c.args.desk.now.pool c.args.seats.now.pool c.requires.sits.pool.0) (c.start_once.ensures.settles c.args.seats.now.pool.me.0)

pub returns-clause-sits : goal.returns-clause-sits
returns-clause-sits g c =
    let l = sit_length c.args.desk.now c.args.seats.now c.requires.sits in
    let r = c.requires.codec in
    let codec_is : slice_get c.args.desk.now.codecs.items c.args.codec ≡ Some c.index.result.now = slice_get_read _ _ c.args.codec c.index.result.now refl r c.index.ensures in
    let seat_is : slice_get c.args.seats.now.codecs.items c.args.codec ≡ Some c.index_mut.result.now = slice_get_read _ _ c.args.codec c.index_mut.result.now refl (omega (arith, l, r)) c.index_mut.ensures.value in
    sit_after c.args.desk.now c.args.seats.now _ c.requires.sits
    (settled_one c.args.desk.now c.args.seats.now _ c.args.codec c.index.result.now c.index_mut.result.now c.start_once.new.seat c.dues_add_up.ensures.slots c.dues_add_up.ensures.media c.requires.sits codec_is seat_is refl
    c.start_once.ensures.kept c.start_once.ensures.kept_slots (keeps_none c.args.desk.now.pool c.args.seats.now.pool c.requires.sits.pool.0) (c.start_once.ensures.settles c.args.seats.now.pool.me.0)) c.requires.sits.pool c.start_once.ensures.free_slots
