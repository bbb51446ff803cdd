use Rattle.std.proofs.Common.{◌≡◌, Some, refl, length, vec_len, arith}
use Rattle.std.specs.Prelude.{slice_get}
use Rattle.std.proofs.lemmas.Option.{slice_get_read}
use Rattle.codec_desk.proofs.Going.{sit_length, sit_get}
use Rattle.codec_logs.specs.Logs.{acquires_of}
use Rattle.codec_desk.specs.ItemLaws.{may_end_here}
use Rattle.codec_desk.proofs.items.end_item.Goals as goal

pub index_mut-requires : goal.index_mut-requires
index_mut-requires g c =
    let l = sit_length c.args.desk.now c.args.seats.now c.requires.sits in
    let r = c.requires.codec in
    let e : vec_len c.args.seats.now.codecs ≡ length c.args.seats.now.codecs.items = c.args.seats.now.codecs.ok.0 in
    omega (arith, l, r, e)

pub end_once-requires-clause-seat : goal.end_once-requires-clause-seat
end_once-requires-clause-seat g c κs within =
    let l = sit_length c.args.desk.now c.args.seats.now c.requires.sits in
    let r = c.requires.codec in
    let codec_is : slice_get c.args.desk.now.codecs.items c.args.codec ≡ Some c.index.result.now = slice_get_read _ _ c.args.codec c.index.result.now refl r c.index.ensures in
    let seat_is : slice_get c.args.seats.now.codecs.items c.args.codec ≡ Some c.index_mut.result.now = slice_get_read _ _ c.args.codec c.index_mut.result.now refl (omega (arith, l, r)) c.index_mut.ensures.value in
    (sit_get c.args.desk.now c.args.seats.now c.args.codec c.index.result.now c.index_mut.result.now c.requires.sits codec_is seat_is).idle

pub end_once-requires-clause-slots : goal.end_once-requires-clause-slots
end_once-requires-clause-slots g c κs within =
    let l = sit_length c.args.desk.now c.args.seats.now c.requires.sits in
    let r = c.requires.codec in
    let codec_is : slice_get c.args.desk.now.codecs.items c.args.codec ≡ Some c.index.result.now = slice_get_read _ _ c.args.codec c.index.result.now refl r c.index.ensures in
    let seat_is : slice_get c.args.seats.now.codecs.items c.args.codec ≡ Some c.index_mut.result.now = slice_get_read _ _ c.args.codec c.index_mut.result.now refl (omega (arith, l, r)) c.index_mut.ensures.value in
    (sit_get c.args.desk.now c.args.seats.now c.args.codec c.index.result.now c.index_mut.result.now c.requires.sits codec_is seat_is).slots_is

pub end_once-requires-clause-pool : goal.end_once-requires-clause-pool
end_once-requires-clause-pool g c κs within =
    let l = sit_length c.args.desk.now c.args.seats.now c.requires.sits in
    let r = c.requires.codec in
    let codec_is : slice_get c.args.desk.now.codecs.items c.args.codec ≡ Some c.index.result.now = slice_get_read _ _ c.args.codec c.index.result.now refl r c.index.ensures in
    let seat_is : slice_get c.args.seats.now.codecs.items c.args.codec ≡ Some c.index_mut.result.now = slice_get_read _ _ c.args.codec c.index_mut.result.now refl (omega (arith, l, r)) c.index_mut.ensures.value in
    (sit_get c.args.desk.now c.args.seats.now c.args.codec c.index.result.now c.index_mut.result.now c.requires.sits codec_is seat_is).pool_is

pub end_once-requires-clause-own : goal.end_once-requires-clause-own
end_once-requires-clause-own g c κs within =
    let l = sit_length c.args.desk.now c.args.seats.now c.requires.sits in
    let r = c.requires.codec in
    let codec_is : slice_get c.args.desk.now.codecs.items c.args.codec ≡ Some c.index.result.now = slice_get_read _ _ c.args.codec c.index.result.now refl r c.index.ensures in
    let seat_is : slice_get c.args.seats.now.codecs.items c.args.codec ≡ Some c.index_mut.result.now = slice_get_read _ _ c.args.codec c.index_mut.result.now refl (omega (arith, l, r)) c.index_mut.ensures.value in
    (may_end_here c.args.desk.now c.args.codec c.args.done (acquires_of c.args.acquires) c.args.seats.now c.index.result.now c.index_mut.result.now c.requires.may codec_is seat_is).0

pub end_once-requires-clause-told : goal.end_once-requires-clause-told
end_once-requires-clause-told g c κs within =
    let l = sit_length c.args.desk.now c.args.seats.now c.requires.sits in
    let r = c.requires.codec in
    let codec_is : slice_get c.args.desk.now.codecs.items c.args.codec ≡ Some c.index.result.now = slice_get_read _ _ c.args.codec c.index.result.now refl r c.index.ensures in
    let seat_is : slice_get c.args.seats.now.codecs.items c.args.codec ≡ Some c.index_mut.result.now = slice_get_read _ _ c.args.codec c.index_mut.result.now refl (omega (arith, l, r)) c.index_mut.ensures.value in
    (may_end_here c.args.desk.now c.args.codec c.args.done (acquires_of c.args.acquires) c.args.seats.now c.index.result.now c.index_mut.result.now c.requires.may codec_is seat_is).1

pub returns-clause-ends : goal.returns-clause-ends
returns-clause-ends g c =
    let l = sit_length c.args.desk.now c.args.seats.now c.requires.sits in
    let r = c.requires.codec in
    let codec_is : slice_get c.args.desk.now.codecs.items c.args.codec ≡ Some c.index.result.now = slice_get_read _ _ c.args.codec c.index.result.now refl r c.index.ensures in
    let seat_is : slice_get c.args.seats.now.codecs.items c.args.codec ≡ Some c.index_mut.result.now = slice_get_read _ _ c.args.codec c.index_mut.result.now refl (omega (arith, l, r)) c.index_mut.ensures.value in
    record {
      partner = c.index.result.now;
      before = c.index_mut.result.now;
      after = c.end_once.new.seat;
      partner_is = codec_is;
      before_is = seat_is;
      after_is = refl;
      so = record { finish = c.end_once.ensures.ended; kept = c.end_once.ensures.kept; settles = c.end_once.ensures.settles };
    }
