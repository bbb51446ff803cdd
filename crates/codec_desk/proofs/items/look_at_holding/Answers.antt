use Rattle.std.proofs.Common.{◌≡◌, Some, refl, length, vec_len, arith, []}
use Rattle.std.specs.Prelude.{slice_get}
use Rattle.std.proofs.lemmas.Option.{slice_get_read}
use Rattle.codec_desk.proofs.Going.{sit_length, sit_get}
use Rattle.shared_codec.specs.Keeps.{keeps_none}
use Rattle.shared_codec.specs.Looks.{HoldingTells}
use Rattle.shared_codec.specs.NameLaws.{saw_names}
use Rattle.shared_codec.specs.Settles.{settles_rest}
use Rattle.work_moments.specs.MomentLaws.{given_none}
use Rattle.codec_desk.specs.DeskLaws.{settled_one, sit_after}
use Rattle.codec_desk.specs.ItemLaws.{leaves_looked, meanwhile_at}
use Rattle.codec_desk.specs.StepLaws.{ends_held}
use Rattle.codec_desk.proofs.items.look_at_holding.Goals as goal

pub index_mut-requires : goal.index_mut-requires
index_mut-requires g c =
    let l = sit_length c.args.desk.now c.args.seats.now c.requires.sits in
    let r = c.requires.codec in
    let e : vec_len c.args.seats.now.codecs ≡ length c.args.seats.now.codecs.items = c.args.seats.now.codecs.ok.0 in
    omega (arith, l, r, e)

pub holding-requires-after_bounds : goal.holding-requires-after_bounds
holding-requires-after_bounds g c κs within =
    let l = sit_length c.args.desk.now c.args.seats.now c.requires.sits in
    let r = c.requires.codec in
    let codec_is : slice_get c.args.desk.now.codecs.items c.args.codec ≡ Some c.index.result.now = slice_get_read _ _ c.args.codec c.index.result.now refl r c.index.ensures in
    let seat_is : slice_get c.args.seats.now.codecs.items c.args.codec ≡ Some c.index_mut.result.now = slice_get_read _ _ c.args.codec c.index_mut.result.now refl (omega (arith, l, r)) c.index_mut.ensures.value in
    (sit_get c.args.desk.now c.args.seats.now c.args.codec c.index.result.now c.index_mut.result.now c.requires.sits codec_is seat_is).idle

pub returns-clause-looked : goal.returns-clause-looked
returns-clause-looked g c =
    let l = sit_length c.args.desk.now c.args.seats.now c.requires.sits in
    let r = c.requires.codec in
    let codec_is : slice_get c.args.desk.now.codecs.items c.args.codec ≡ Some c.index.result.now = slice_get_read _ _ c.args.codec c.index.result.now refl r c.index.ensures in
    let seat_is : slice_get c.args.seats.now.codecs.items c.args.codec ≡ Some c.index_mut.result.now = slice_get_read _ _ c.args.codec c.index_mut.result.now refl (omega (arith, l, r)) c.index_mut.ensures.value in
    record {
      partner = c.index.result.now;
      before = c.index_mut.result.now;
      after = c.holding.new.seat;
      partner_is = codec_is;
      before_is = seat_is;
      after_is = refl;
      so = c.holding.ensures.tells;
    }

pub returns-clause-meanwhile : goal.returns-clause-meanwhile
returns-clause-meanwhile g c t =
    let l = sit_length c.args.desk.now c.args.seats.now c.requires.sits in
    let r = c.requires.codec in
    let codec_is : slice_get c.args.desk.now.codecs.items c.args.codec ≡ Some c.index.result.now = slice_get_read _ _ c.args.codec c.index.result.now refl r c.index.ensures in
    let seat_is : slice_get c.args.seats.now.codecs.items c.args.codec ≡ Some c.index_mut.result.now = slice_get_read _ _ c.args.codec c.index_mut.result.now refl (omega (arith, l, r)) c.index_mut.ensures.value in
    meanwhile_at (λ s a b. HoldingTells s c.holding.result a b) [] (λ s a b told. saw_names s _ a b told) (λ s a b told. ends_held c.holding.result s a b told) (λ s a b told. leaves_looked s a b told.looked)
    c.args.desk.now t t c.args.seats.now _ c.args.codec c.requires.sits
    (sit_after c.args.desk.now c.args.seats.now _ c.requires.sits
    (settled_one c.args.desk.now c.args.seats.now _ c.args.codec c.index.result.now c.index_mut.result.now c.holding.new.seat c.dues_add_up.ensures.slots c.dues_add_up.ensures.media c.requires.sits codec_is seat_is refl
    c.holding.ensures.kept (keeps_none c.args.desk.now.slots.id c.args.seats.now.slots c.requires.sits.slots.0) (keeps_none c.args.desk.now.pool c.args.seats.now.pool c.requires.sits.pool.0)
    (settles_rest c.index.result.now c.index_mut.result.now.me.0 c.holding.new.seat.me.0 c.args.seats.now.slots.me.0 c.args.seats.now.pool.me.0 c.holding.ensures.owes)) c.requires.sits.pool c.requires.sits.slots)
    (settled_one c.args.desk.now c.args.seats.now _ c.args.codec c.index.result.now c.index_mut.result.now c.holding.new.seat c.dues_add_up.ensures.slots c.dues_add_up.ensures.media c.requires.sits codec_is seat_is refl
    c.holding.ensures.kept (keeps_none c.args.desk.now.slots.id c.args.seats.now.slots c.requires.sits.slots.0) (keeps_none c.args.desk.now.pool c.args.seats.now.pool c.requires.sits.pool.0)
    (settles_rest c.index.result.now c.index_mut.result.now.me.0 c.holding.new.seat.me.0 c.args.seats.now.slots.me.0 c.args.seats.now.pool.me.0 c.holding.ensures.owes))
    (returns-clause-looked g c) (given_none t)
