use Rattle.std.proofs.Common.{◌≡◌, Some, refl, length, vec_len, arith, [], ◌∷◌}
use Rattle.std.specs.Prelude.{slice_get}
use Rattle.std.proofs.lemmas.Option.{slice_get_read}
use Rattle.codec_desk.proofs.Going.{sit_length, sit_get}
use Rattle.shared_codec.specs.NameLaws.{reclaim_once_names}
use Rattle.shared_codec.specs.Settled.{ReclaimOnceTells}
use Rattle.codec_desk.specs.DeskLaws.{settled_one, sit_after}
use Rattle.codec_desk.specs.ItemLaws.{leaves_reclaimed, meanwhile_at}
use Rattle.codec_desk.specs.StepLaws.{ends_reclaimed}
use Rattle.codec_desk.proofs.items.reclaim_codec.Goals as goal

pub index_mut-requires : goal.index_mut-requires
index_mut-requires g c =
    let l = sit_length c.args.desk.now c.args.seats.now c.requires.sits in
    let r = c.requires.codec in
    let e : vec_len c.args.seats.now.codecs ≡ length c.args.seats.now.codecs.items = c.args.seats.now.codecs.ok.0 in
    omega (arith, l, r, e)

pub reclaim_once-requires-clause-seat : goal.reclaim_once-requires-clause-seat
reclaim_once-requires-clause-seat g c κs within =
    let l = sit_length c.args.desk.now c.args.seats.now c.requires.sits in
    let r = c.requires.codec in
    let codec_is : slice_get c.args.desk.now.codecs.items c.args.codec ≡ Some c.index.result.now = slice_get_read _ _ c.args.codec c.index.result.now refl r c.index.ensures in
    let seat_is : slice_get c.args.seats.now.codecs.items c.args.codec ≡ Some c.index_mut.result.now = slice_get_read _ _ c.args.codec c.index_mut.result.now refl (omega (arith, l, r)) c.index_mut.ensures.value in
    (sit_get c.args.desk.now c.args.seats.now c.args.codec c.index.result.now c.index_mut.result.now c.requires.sits codec_is seat_is).idle

pub reclaim_once-requires-clause-slots : goal.reclaim_once-requires-clause-slots
reclaim_once-requires-clause-slots g c κs within =
    let l = sit_length c.args.desk.now c.args.seats.now c.requires.sits in
    let r = c.requires.codec in
    let codec_is : slice_get c.args.desk.now.codecs.items c.args.codec ≡ Some c.index.result.now = slice_get_read _ _ c.args.codec c.index.result.now refl r c.index.ensures in
    let seat_is : slice_get c.args.seats.now.codecs.items c.args.codec ≡ Some c.index_mut.result.now = slice_get_read _ _ c.args.codec c.index_mut.result.now refl (omega (arith, l, r)) c.index_mut.ensures.value in
    (sit_get c.args.desk.now c.args.seats.now c.args.codec c.index.result.now c.index_mut.result.now c.requires.sits codec_is seat_is).slots_is

pub reclaim_once-requires-clause-pool : goal.reclaim_once-requires-clause-pool
reclaim_once-requires-clause-pool g c κs within =
    let l = sit_length c.args.desk.now c.args.seats.now c.requires.sits in
    let r = c.requires.codec in
    let codec_is : slice_get c.args.desk.now.codecs.items c.args.codec ≡ Some c.index.result.now = slice_get_read _ _ c.args.codec c.index.result.now refl r c.index.ensures in
    let seat_is : slice_get c.args.seats.now.codecs.items c.args.codec ≡ Some c.index_mut.result.now = slice_get_read _ _ c.args.codec c.index_mut.result.now refl (omega (arith, l, r)) c.index_mut.ensures.value in
    (sit_get c.args.desk.now c.args.seats.now c.args.codec c.index.result.now c.index_mut.result.now c.requires.sits codec_is seat_is).pool_is

pub returns-clause-reclaimed : goal.returns-clause-reclaimed
returns-clause-reclaimed g c =
    let l = sit_length c.args.desk.now c.args.seats.now c.requires.sits in
    let r = c.requires.codec in
    let codec_is : slice_get c.args.desk.now.codecs.items c.args.codec ≡ Some c.index.result.now = slice_get_read _ _ c.args.codec c.index.result.now refl r c.index.ensures in
    let seat_is : slice_get c.args.seats.now.codecs.items c.args.codec ≡ Some c.index_mut.result.now = slice_get_read _ _ c.args.codec c.index_mut.result.now refl (omega (arith, l, r)) c.index_mut.ensures.value in
    record {
      partner = c.index.result.now;
      before = c.index_mut.result.now;
      after = c.reclaim_once.new.seat;
      partner_is = codec_is;
      before_is = seat_is;
      after_is = refl;
      so = c.reclaim_once.ensures.reclaim;
    }

pub returns-clause-meanwhile : goal.returns-clause-meanwhile
returns-clause-meanwhile g c t u given =
    let l = sit_length c.args.desk.now c.args.seats.now c.requires.sits in
    let r = c.requires.codec in
    let codec_is : slice_get c.args.desk.now.codecs.items c.args.codec ≡ Some c.index.result.now = slice_get_read _ _ c.args.codec c.index.result.now refl r c.index.ensures in
    let seat_is : slice_get c.args.seats.now.codecs.items c.args.codec ≡ Some c.index_mut.result.now = slice_get_read _ _ c.args.codec c.index_mut.result.now refl (omega (arith, l, r)) c.index_mut.ensures.value in
    meanwhile_at (λ s a b. ReclaimOnceTells s c.args.now c.reclaim_once.result a b) (c.args.now ∷ []) (λ s a b told. reclaim_once_names s c.args.now c.reclaim_once.result a b told) (λ s a b told. ends_reclaimed c.args.now c.reclaim_once.result s a b told) (λ s a b told. leaves_reclaimed c.args.now c.reclaim_once.result s a b told)
    c.args.desk.now t u c.args.seats.now _ c.args.codec c.requires.sits
    (sit_after c.args.desk.now c.args.seats.now _ c.requires.sits
    (settled_one c.args.desk.now c.args.seats.now _ c.args.codec c.index.result.now c.index_mut.result.now c.reclaim_once.new.seat c.dues_add_up.ensures.slots c.dues_add_up.ensures.media c.requires.sits codec_is seat_is refl
    c.reclaim_once.ensures.kept c.reclaim_once.ensures.kept_slots c.reclaim_once.ensures.kept_pool c.reclaim_once.ensures.settles) c.reclaim_once.ensures.free_pool c.reclaim_once.ensures.free_slots)
    (settled_one c.args.desk.now c.args.seats.now _ c.args.codec c.index.result.now c.index_mut.result.now c.reclaim_once.new.seat c.dues_add_up.ensures.slots c.dues_add_up.ensures.media c.requires.sits codec_is seat_is refl
    c.reclaim_once.ensures.kept c.reclaim_once.ensures.kept_slots c.reclaim_once.ensures.kept_pool c.reclaim_once.ensures.settles)
    (returns-clause-reclaimed g c) given
