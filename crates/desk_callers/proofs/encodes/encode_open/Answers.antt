use Rattle.std.proofs.Common.{◌≡◌, List, Option, Some, refl, ap, sym, subst, ◌∙◌, length, vec_len, arith}
use Rattle.std.specs.Prelude.{slice_get, Ok, Err}
use Rattle.std.proofs.lemmas.Option.{slice_get_read}
use Rattle.codec_media.specs.Holding.{ReplyValue}
use Rattle.shared_codec.specs.Encodes.{EncodeTells}
use Rattle.shared_codec.specs.Keeps.{keeps_none}
use Rattle.codec_desk.specs.DeskLaws.{settled_one}
use Rattle.codec_desk.specs.RunLaws.{none_at}
use Rattle.shared_pool.specs.Refs.{IsPoolRef}
use Rattle.media_variables.specs.Held.{AreOf, WholeMedium, seen_in}
use Rattle.media_variables.specs.Variables.{lendable_at}
use Rattle.desk_callers.specs.Lending.{LendsMedium}
use Rattle.desk_callers.proofs.Encoding.{encoded_from}
use Rattle.desk_callers.proofs.Lent.{lends_as}
use Rattle.desk_callers.proofs.Runners.{none_encoded}
use Rattle.desk_callers.proofs.Sitting.{sit_length, sit_get}
use Rattle.desk_callers.proofs.Staying.{sit_stay, stay_encode}
use Rattle.desk_callers.proofs.Ends.{encoded_ends, ends_at}
use Rattle.desk_callers.proofs.encodes.encode_open.Goals as goal

pub index_mut-requires : goal.index_mut-requires
index_mut-requires g c =
    let l = sit_length c.args.desk.now c.args.seats.now c.requires.sits in
    let r = c.requires.codec in
    let e : vec_len c.args.seats.now.codecs ≡ length c.args.seats.now.codecs.items = c.args.seats.now.codecs.ok.0 in
    omega (arith, l, r, e)

pub encode-requires-clause-seat : goal.encode-requires-clause-seat
encode-requires-clause-seat g c κs within =
    let l = sit_length c.args.desk.now c.args.seats.now c.requires.sits in
    let r = c.requires.codec in
    let codec_is : slice_get c.args.desk.now.codecs.items c.args.codec ≡ Some c.index.result.now = slice_get_read _ _ c.args.codec c.index.result.now refl r c.index.ensures in
    let seat_is : slice_get c.args.seats.now.codecs.items c.args.codec ≡ Some c.index_mut.result.now = slice_get_read _ _ c.args.codec c.index_mut.result.now refl (omega (arith, l, r)) c.index_mut.ensures.value in
    (sit_get c.args.desk.now c.args.seats.now c.args.codec c.index.result.now c.index_mut.result.now c.requires.sits codec_is seat_is).idle

pub encode-requires-clause-pool : goal.encode-requires-clause-pool
encode-requires-clause-pool g c κs within =
    let l = sit_length c.args.desk.now c.args.seats.now c.requires.sits in
    let r = c.requires.codec in
    let codec_is : slice_get c.args.desk.now.codecs.items c.args.codec ≡ Some c.index.result.now = slice_get_read _ _ c.args.codec c.index.result.now refl r c.index.ensures in
    let seat_is : slice_get c.args.seats.now.codecs.items c.args.codec ≡ Some c.index_mut.result.now = slice_get_read _ _ c.args.codec c.index_mut.result.now refl (omega (arith, l, r)) c.index_mut.ensures.value in
    (sit_get c.args.desk.now c.args.seats.now c.args.codec c.index.result.now c.index_mut.result.now c.requires.sits codec_is seat_is).pool_is

pub encode-requires-clause-open : goal.encode-requires-clause-open
encode-requires-clause-open g c κs within = rw (c.new-lender.ensures.variables, c.new-lender.ensures.variable) (c.requires.held, c.requires.open)

pub returns-in-Ok-clause-stay : goal.returns-in-Ok-clause-stay
returns-in-Ok-clause-stay g c =
    let l = sit_length c.args.desk.now c.args.seats.now c.requires.sits in
    let r = c.requires.codec in
    let codec_is : slice_get c.args.desk.now.codecs.items c.args.codec ≡ Some c.index.result.now = slice_get_read _ _ c.args.codec c.index.result.now refl r c.index.ensures in
    let seat_is : slice_get c.args.seats.now.codecs.items c.args.codec ≡ Some c.index_mut.result.now = slice_get_read _ _ c.args.codec c.index_mut.result.now refl (omega (arith, l, r)) c.index_mut.ensures.value in
    stay_encode c.args.desk.now c.args.seats.now _ c.args.codec c.index.result.now c.index_mut.result.now c.encode.new.seat (Ok c.in-Ok.reply) c.requires.sits codec_is seat_is refl refl
    c.in-Ok.ensures.kept c.in-Ok.ensures.kept_pool c.in-Ok.ensures.settles tt

pub returns-in-Ok-clause-sits : goal.returns-in-Ok-clause-sits
returns-in-Ok-clause-sits g c = sit_stay c.args.desk.now c.args.seats.now _ c.requires.sits (returns-in-Ok-clause-stay g c) c.in-Ok.ensures.free c.requires.sits.slots

pub returns-in-Ok-clause-runs : goal.returns-in-Ok-clause-runs
returns-in-Ok-clause-runs g c none =
    let l = sit_length c.args.desk.now c.args.seats.now c.requires.sits in
    let r = c.requires.codec in
    let codec_is : slice_get c.args.desk.now.codecs.items c.args.codec ≡ Some c.index.result.now = slice_get_read _ _ c.args.codec c.index.result.now refl r c.index.ensures in
    let seat_is : slice_get c.args.seats.now.codecs.items c.args.codec ≡ Some c.index_mut.result.now = slice_get_read _ _ c.args.codec c.index_mut.result.now refl (omega (arith, l, r)) c.index_mut.ensures.value in
    none_at (λ s u v. EncodeTells s c.args.who (LendsMedium c.new-lender.result) (Ok c.in-Ok.reply) u v c.args.seats.now.pool.me.0 c.encode.new.pool_seat.me.0)
    (λ s u v told. none_encoded s c.args.who (LendsMedium c.new-lender.result) (Ok c.in-Ok.reply) u v c.args.seats.now.pool.me.0 c.encode.new.pool_seat.me.0 told) c.args.codec c.args.desk.now.codecs.items c.args.seats.now.codecs.items _ (record {
      partner = c.index.result.now;
      before = c.index_mut.result.now;
      after = c.encode.new.seat;
      partner_is = codec_is;
      before_is = seat_is;
      after_is = refl;
      so = c.in-Ok.ensures.reply;
    }) none

pub returns-in-Ok-clause-encoded : goal.returns-in-Ok-clause-encoded
returns-in-Ok-clause-encoded g c =
    let l = sit_length c.args.desk.now c.args.seats.now c.requires.sits in
    let r = c.requires.codec in
    let codec_is : slice_get c.args.desk.now.codecs.items c.args.codec ≡ Some c.index.result.now = slice_get_read _ _ c.args.codec c.index.result.now refl r c.index.ensures in
    let seat_is : slice_get c.args.seats.now.codecs.items c.args.codec ≡ Some c.index_mut.result.now = slice_get_read _ _ c.args.codec c.index_mut.result.now refl (omega (arith, l, r)) c.index_mut.ensures.value in
    let medium = lendable_at (seen_in c.args.variables.now) c.args.variable in
    let settled = settled_one c.args.desk.now c.args.seats.now _ c.args.codec c.index.result.now c.index_mut.result.now c.encode.new.seat c.dues_add_up.ensures.slots c.dues_add_up.ensures.media c.requires.sits codec_is seat_is refl
    c.in-Ok.ensures.kept (keeps_none c.args.desk.now.slots.id c.args.seats.now.slots c.requires.sits.slots.0) c.in-Ok.ensures.kept_pool (c.in-Ok.ensures.settles c.args.seats.now.slots.me.0) in
    encoded_from c.args.desk.now c.args.who c.args.codec medium (LendsMedium c.new-lender.result) c.in-Ok.reply c.args.seats.now.pool.me.0 c.encode.new.pool_seat.me.0 c.args.seats.now _ c.requires.sits settled c.requires.open
    (lends_as c.new-lender.result c.args.variables.now c.args.variable c.new-lender.ensures.variables c.new-lender.ensures.variable) (record {
      partner = c.index.result.now;
      before = c.index_mut.result.now;
      after = c.encode.new.seat;
      partner_is = codec_is;
      before_is = seat_is;
      after_is = refl;
      so = c.in-Ok.ensures.reply;
    }) c.reply.inside.place c.reply.inside.exception (ap (λ (v : ReplyValue). v.place) c.reply.view_is) (ap (λ (v : ReplyValue). v.exception) c.reply.view_is)

pub returns-in-Err-clause-stay : goal.returns-in-Err-clause-stay
returns-in-Err-clause-stay g c =
    let l = sit_length c.args.desk.now c.args.seats.now c.requires.sits in
    let r = c.requires.codec in
    let codec_is : slice_get c.args.desk.now.codecs.items c.args.codec ≡ Some c.index.result.now = slice_get_read _ _ c.args.codec c.index.result.now refl r c.index.ensures in
    let seat_is : slice_get c.args.seats.now.codecs.items c.args.codec ≡ Some c.index_mut.result.now = slice_get_read _ _ c.args.codec c.index_mut.result.now refl (omega (arith, l, r)) c.index_mut.ensures.value in
    stay_encode c.args.desk.now c.args.seats.now _ c.args.codec c.index.result.now c.index_mut.result.now c.encode.new.seat (Err (record {})) c.requires.sits codec_is seat_is refl refl
    c.in-Err.ensures.kept c.in-Err.ensures.kept_pool tt c.in-Err.ensures.err

pub returns-in-Err-clause-sits : goal.returns-in-Err-clause-sits
returns-in-Err-clause-sits g c = sit_stay c.args.desk.now c.args.seats.now _ c.requires.sits (returns-in-Err-clause-stay g c) c.in-Err.ensures.free c.requires.sits.slots

pub returns-in-Err-clause-runs : goal.returns-in-Err-clause-runs
returns-in-Err-clause-runs g c none =
    let l = sit_length c.args.desk.now c.args.seats.now c.requires.sits in
    let r = c.requires.codec in
    let codec_is : slice_get c.args.desk.now.codecs.items c.args.codec ≡ Some c.index.result.now = slice_get_read _ _ c.args.codec c.index.result.now refl r c.index.ensures in
    let seat_is : slice_get c.args.seats.now.codecs.items c.args.codec ≡ Some c.index_mut.result.now = slice_get_read _ _ c.args.codec c.index_mut.result.now refl (omega (arith, l, r)) c.index_mut.ensures.value in
    none_at (λ s u v. EncodeTells s c.args.who (LendsMedium c.new-lender.result) (Err (record {})) u v c.args.seats.now.pool.me.0 c.encode.new.pool_seat.me.0)
    (λ s u v told. none_encoded s c.args.who (LendsMedium c.new-lender.result) (Err (record {})) u v c.args.seats.now.pool.me.0 c.encode.new.pool_seat.me.0 told) c.args.codec c.args.desk.now.codecs.items c.args.seats.now.codecs.items _ (record {
      partner = c.index.result.now;
      before = c.index_mut.result.now;
      after = c.encode.new.seat;
      partner_is = codec_is;
      before_is = seat_is;
      after_is = refl;
      so = c.in-Err.ensures.reply;
    }) none

pub returns-in-Ok-clause-held : goal.returns-in-Ok-clause-held
returns-in-Ok-clause-held g c =
    let last = c.variables-1.given.1 (sym (c.in-Ok.ensures.stays.borrowed ∙ c.new-lender.ensures.borrowed)) in
    subst (λ (l : List (Option WholeMedium)). AreOf (IsPoolRef c.args.desk.now.pool) l) (sym last) c.in-Ok.ensures.still.0

pub returns-in-Ok-clause-same : goal.returns-in-Ok-clause-same
returns-in-Ok-clause-same g c =
    let last = c.variables-1.given.1 (sym (c.in-Ok.ensures.stays.borrowed ∙ c.new-lender.ensures.borrowed)) in
    ap seen_in last ∙ (c.in-Ok.ensures.stays.seen ∙ ap seen_in c.new-lender.ensures.variables)

pub returns-in-Err-clause-held : goal.returns-in-Err-clause-held
returns-in-Err-clause-held g c =
    let last = c.variables-1.given.1 (sym (c.in-Err.ensures.stays.borrowed ∙ c.new-lender.ensures.borrowed)) in
    subst (λ (l : List (Option WholeMedium)). AreOf (IsPoolRef c.args.desk.now.pool) l) (sym last) c.in-Err.ensures.still.0

pub returns-in-Err-clause-same : goal.returns-in-Err-clause-same
returns-in-Err-clause-same g c =
    let last = c.variables-1.given.1 (sym (c.in-Err.ensures.stays.borrowed ∙ c.new-lender.ensures.borrowed)) in
    ap seen_in last ∙ (c.in-Err.ensures.stays.seen ∙ ap seen_in c.new-lender.ensures.variables)

pub returns-in-Ok-clause-ends : goal.returns-in-Ok-clause-ends
returns-in-Ok-clause-ends g c =
    let l = sit_length c.args.desk.now c.args.seats.now c.requires.sits in
    let r = c.requires.codec in
    let codec_is : slice_get c.args.desk.now.codecs.items c.args.codec ≡ Some c.index.result.now = slice_get_read _ _ c.args.codec c.index.result.now refl r c.index.ensures in
    let seat_is : slice_get c.args.seats.now.codecs.items c.args.codec ≡ Some c.index_mut.result.now = slice_get_read _ _ c.args.codec c.index_mut.result.now refl (omega (arith, l, r)) c.index_mut.ensures.value in
    ends_at c.args.desk.now c.args.seats.now _ c.requires.sits c.args.codec (λ s u v. EncodeTells s c.args.who (LendsMedium c.new-lender.result) (Ok c.in-Ok.reply) u v c.args.seats.now.pool.me.0 c.encode.new.pool_seat.me.0)
    (encoded_ends c.args.who (LendsMedium c.new-lender.result) (Ok c.in-Ok.reply) c.args.seats.now.pool.me.0 c.encode.new.pool_seat.me.0) (record {
      partner = c.index.result.now;
      before = c.index_mut.result.now;
      after = c.encode.new.seat;
      partner_is = codec_is;
      before_is = seat_is;
      after_is = refl;
      so = c.in-Ok.ensures.reply;
    })

pub returns-in-Err-clause-ends : goal.returns-in-Err-clause-ends
returns-in-Err-clause-ends g c =
    let l = sit_length c.args.desk.now c.args.seats.now c.requires.sits in
    let r = c.requires.codec in
    let codec_is : slice_get c.args.desk.now.codecs.items c.args.codec ≡ Some c.index.result.now = slice_get_read _ _ c.args.codec c.index.result.now refl r c.index.ensures in
    let seat_is : slice_get c.args.seats.now.codecs.items c.args.codec ≡ Some c.index_mut.result.now = slice_get_read _ _ c.args.codec c.index_mut.result.now refl (omega (arith, l, r)) c.index_mut.ensures.value in
    ends_at c.args.desk.now c.args.seats.now _ c.requires.sits c.args.codec (λ s u v. EncodeTells s c.args.who (LendsMedium c.new-lender.result) (Err (record {})) u v c.args.seats.now.pool.me.0 c.encode.new.pool_seat.me.0)
    (encoded_ends c.args.who (LendsMedium c.new-lender.result) (Err (record {})) c.args.seats.now.pool.me.0 c.encode.new.pool_seat.me.0) (record {
      partner = c.index.result.now;
      before = c.index_mut.result.now;
      after = c.encode.new.seat;
      partner_is = codec_is;
      before_is = seat_is;
      after_is = refl;
      so = c.in-Err.ensures.reply;
    })
