-- What encodes of open media told.
use Rattle.std.proofs.Common.{ℕ, ◌≡◌, Bool, true, false, List, Option, Some, None, refl, ap, sym, subst, arith}
use Rattle.std.specs.Prelude.{Result, Ok, Err, IfOk}
use Rattle.atomic_table.specs.declared.shared.Seat.{Seat}
use Rattle.wc_base.specs.declared.error.DomError.{DomError}
use Rattle.wc_base.specs.declared.error.NoMemory.{NoMemory}
use Rattle.wc_base.specs.declared.seat.View.{View}
use Rattle.wc_base.specs.declared.who.Who.{Who}
use Rattle.wc_pool.specs.declared.entry.PoolEntry.{PoolEntry}
use Rattle.wc_pool.specs.declared.reference.MediaRef.{MediaRef}
use Rattle.codec_model.specs.declared.entry.{Call.Call, Handed.Handed, HeldMedium.HeldMedium}
use Rattle.codec_media.specs.Holding.{ReplyValue}
use Rattle.codec_logs.specs.declared.event.Event.{Event}
use Rattle.shared_codec.specs.Calls.{RepliedIn}
use Rattle.shared_codec.specs.Encodes.{Hands, EncodeTells}
use Rattle.shared_codec.specs.Names.{Names, called}
use Rattle.shared_codec.specs.NameLaws.{encode_names}
use Rattle.shared_codec.specs.Shared.{Shared}
use Rattle.codec_desk.specs.declared.desk.Desk.{Desk}
use Rattle.codec_desk.specs.declared.desk.Seats.{Seats}
use Rattle.codec_desk.specs.Desks.{SitsAt, SitAt, Settled}
use Rattle.codec_desk.specs.Each.{OneAt}
use Rattle.codec_desk.specs.EachLaws.{pairs_get}
use Rattle.codec_desk.specs.Named.{Calls}
use Rattle.codec_desk.specs.NamedLaws.{named_one}
use Rattle.media_variables.specs.declared.lending.MediumFound.TheVariants as found
use Rattle.media_variables.specs.Variables.{Reference, Lendable, handed_of, handed_by}
use Rattle.media_variables.specs.Held.{medium_found, found_by}
use Rattle.report_text.specs.declared.result.StepResult.{StepResult}
use Rattle.desk_callers.specs.Acts.{CalledAs, EncodedAs}
use Rattle.desk_callers.proofs.Calling.{stood, stood_as}

-- ---- what is found of a variable's medium

pub record IsOpenMedium (medium : Option Lendable) : Type 0 where
  pub lent : Lendable
  pub is : medium ≡ Some lent
  pub reference : Reference
  pub held : lent.held ≡ Some reference

held_open : (o : Option Reference) → found_by o ≡ found.Open → (r : Reference) × (o ≡ Some r)
held_open None is = absurd cc
held_open (Some r) is = (r, refl)

pub open_medium : (medium : Option Lendable) → medium_found medium ≡ found.Open → IsOpenMedium medium
open_medium None is = absurd cc
open_medium (Some y) is = let r = held_open y.held is in record { lent = y; is = refl; reference = r.0; held = r.1 }

held_gone : (o : Option Reference) → found_by o ≡ found.Detached → o ≡ None
held_gone None is = refl
held_gone (Some r) is = absurd cc

pub gone_medium : (medium : Option Lendable) → medium_found medium ≡ found.Detached → (y : Lendable) × (medium ≡ Some y) × (y.held ≡ None)
gone_medium None is = absurd cc
gone_medium (Some y) is = (y, refl, held_gone y.held is)

pub absent_medium : (medium : Option Lendable) → medium_found medium ≡ found.Absent → medium ≡ None
absent_medium None is = refl
absent_medium (Some y) is = absurd (no_absent y.held is)
  where
    no_absent : (o : Option Reference) → found_by o ≡ found.Absent → ⊥
    no_absent None is = cc
    no_absent (Some r) is = cc

-- ---- what a codec was handed

-- what is lent with a reference is what an accepted encode of the medium is handed
abbrev pub LendsAs : Lendable → (HeldMedium → MediaRef → Type 0) → Type 0
LendsAs y lends = (held : HeldMedium) (clone : MediaRef) → lends held clone → handed_of clone.number true y ≡ Handed.Cloned held

pub given_is : (k place : ℕ) (y : Lendable) (r : Reference) (lends : HeldMedium → MediaRef → Type 0) (given : Handed) (v w : View PoolEntry) → y.held ≡ Some r → LendsAs y lends → Hands k place lends given v w → (number : ℕ) × (accepts : Bool) × (given ≡ handed_of number accepts y)
given_is k place y r lends (Handed.Cloned held) v w held_is same hands = (hands.0.number, true, sym (same held hands.0 hands.1))
given_is k place y r lends Handed.Kept v w held_is same hands = (0, false, sym (ap (λ (o : Option Reference). handed_by 0 false y.shape o) held_is))
given_is k place y r lends Handed.Gone v w held_is same hands = absurd hands

module _ {S : Type 0} where
  -- the encode's entry, by what the codec was handed
  pub replied_to : (who : Who) (codec : ℕ) (lends : HeldMedium → MediaRef → Type 0) (r : ReplyValue) (p q : View PoolEntry) (xs : List Shared) (us vs : List (Seat (Option S) (View Event))) → (one : OneAt codec (λ s u v. EncodeTells s who lends (Ok r) u v p q) xs us vs) → OneAt codec (λ s u v. RepliedIn s who (Call.Encode one.so.given) r u v) xs us vs
  replied_to who codec lends r p q xs us vs one = record {
    partner = one.partner;
    before = one.before;
    after = one.after;
    partner_is = one.partner_is;
    before_is = one.before_is;
    after_is = one.after_is;
    so = one.so.replied;
  }

module _ {C : Type 0} where
  encode_calls : (desk : Desk C) (who : Who) (codec : ℕ) (lends : HeldMedium → MediaRef → Type 0) (r : ReplyValue) (p q : View PoolEntry) (a b : Seats C) → SitAt desk a → (one : OneAt codec (λ s u v. EncodeTells s who lends (Ok r) u v p q) desk.codecs.items a.codecs.items b.codecs.items)
      → Calls desk (called codec r.place who (Call.Encode one.so.given)) a b
  encode_calls desk who codec lends r p q a b sits one =
      let number : one.partner.codec ≡ codec = (pairs_get (SitsAt desk.pool desk.slots.id) 0 codec codec desk.codecs.items a.codecs.items one.partner one.before sits.codecs (omega arith) one.partner_is one.before_is).number in
      let x : Call = Call.Encode one.so.given in
      let here : OneAt codec (λ s u v. Names s (called codec r.place who x) u.me.0 v.me.0) desk.codecs.items a.codecs.items b.codecs.items =
      record {
        partner = one.partner;
        before = one.before;
        after = one.after;
        partner_is = one.partner_is;
        before_is = one.before_is;
        after_is = one.after_is;
        so = subst (λ (n : ℕ). Names one.partner (called n r.place who x) one.before.me.0 one.after.me.0) number (encode_names one.partner who lends r one.before one.after p q one.so);
      } in
      named_one (called codec r.place who x) (λ s u v. Names s (called codec r.place who x) u.me.0 v.me.0) (λ s u v names. names) codec desk.codecs.items a.codecs.items b.codecs.items here

  pub encoded_as : (desk : Desk C) (who : Who) (codec : ℕ) (medium : Option Lendable) (lends : HeldMedium → MediaRef → Type 0) (r : ReplyValue) (p q : View PoolEntry) (a b : Seats C) → SitAt desk a → Settled desk a b → medium_found medium ≡ found.Open → ((y : Lendable) → medium ≡ Some y → LendsAs y lends)
      → OneAt codec (λ s u v. EncodeTells s who lends (Ok r) u v p q) desk.codecs.items a.codecs.items b.codecs.items → EncodedAs desk who codec medium a b (StepResult.Call codec r.place r.exception)
  encoded_as desk who codec medium lends r p q a b sits settled opened same one =
      let m = open_medium medium opened in
      let y : Lendable = m.lent in
      let x : Call = Call.Encode one.so.given in
      let given = given_is one.partner.codec r.place y m.reference lends one.so.given p q m.held (same y m.is) one.so.hands in
      let st = stood who codec x r desk.codecs.items a.codecs.items b.codecs.items (replied_to who codec lends r p q desk.codecs.items a.codecs.items b.codecs.items one) in
      let done : CalledAs desk who codec x a b (StepResult.Call codec r.place r.exception) = stood_as desk who codec x r.place r.exception a b settled (encode_calls desk who codec lends r p q a b sits one) st in
      record {
        lent = y;
        lent_is = m.is;
        number = given.0;
        accepts = given.1;
        called = subst (λ (z : Handed). CalledAs desk who codec (Call.Encode z) a b (StepResult.Call codec r.place r.exception)) given.2 done;
      }

  -- an encode of a detached medium hands nothing
  pub gone_as : (desk : Desk C) (who : Who) (codec : ℕ) (medium : Option Lendable) (a b : Seats C) (r : StepResult) → medium_found medium ≡ found.Detached → CalledAs desk who codec (Call.Encode Handed.Gone) a b r → EncodedAs desk who codec medium a b r
  gone_as desk who codec medium a b r gone done =
      let m = gone_medium medium gone in
      let y : Lendable = m.0 in
      let given : Handed.Gone ≡ handed_of 0 false y = sym (ap (λ (o : Option Reference). handed_by 0 false y.shape o) m.2) in
      record {
        lent = y;
        lent_is = m.1;
        number = 0;
        accepts = false;
        called = subst (λ (z : Handed). CalledAs desk who codec (Call.Encode z) a b r) given done;
      }

  pub if_gone : (desk : Desk C) (who : Who) (codec : ℕ) (medium : Option Lendable) (a b : Seats C) (r : Result StepResult NoMemory) → medium_found medium ≡ found.Detached → IfOk r (CalledAs desk who codec (Call.Encode Handed.Gone) a b) → IfOk r (EncodedAs desk who codec medium a b)
  if_gone desk who codec medium a b (Ok r) gone done = gone_as desk who codec medium a b r gone done
  if_gone desk who codec medium a b (Err e) gone done = tt

  -- the same, by what a reply has
  pub encoded_from : (desk : Desk C) (who : Who) (codec : ℕ) (medium : Option Lendable) (lends : HeldMedium → MediaRef → Type 0) (r : ReplyValue) (p q : View PoolEntry) (a b : Seats C) → SitAt desk a → Settled desk a b → medium_found medium ≡ found.Open → ((y : Lendable) → medium ≡ Some y → LendsAs y lends)
      → OneAt codec (λ s u v. EncodeTells s who lends (Ok r) u v p q) desk.codecs.items a.codecs.items b.codecs.items → (place : ℕ) (error : Option DomError) → place ≡ r.place → error ≡ r.exception → EncodedAs desk who codec medium a b (StepResult.Call codec place error)
  encoded_from desk who codec medium lends r p q a b sits settled opened same one place error at is =
      subst (λ (z : ℕ × Option DomError). EncodedAs desk who codec medium a b (StepResult.Call codec z.0 z.1)) (λ i. (sym at i, sym is i)) (encoded_as desk who codec medium lends r p q a b sits settled opened same one)
