-- What the calls of callers make: their entry, its effect on the callers' media, and their answer.
use Rattle.std.proofs.Common.{ℕ, ◌≡◌, Bool, true, false, not, List, [], length, Option, Some, None, is_some, refl, ap}
use Rattle.std.specs.Prelude.{option_map, IfSome, if◌then◌else◌}
use Rattle.wc_base.specs.declared.{error.DomError.DomError, who.Who.Who}
use Rattle.wc_pool.specs.Bag.{references_made}
use Rattle.codec_model.specs.declared.entry.{Entry.Entry, Call.Call, Handed.Handed, HeldMedium.HeldMedium, MediaShape.MediaShape}
use Rattle.codec_model.specs.{Control.Control, Held.adds_held, Shown.exception_of}
use Rattle.codec_model.specs.Replay.{call_error, may_call, encode_error, refused_as, is_configured}
use Rattle.slot_registry.specs.Slots.{SlotsValue}
use Rattle.codec_accounts.specs.Owed.{append_at}
use Rattle.codec_accounts.specs.Codec.{CodecValue, codec_at, codecs_after, state_of, slots_by}
use Rattle.report_text.specs.declared.result.StepResult.{StepResult}
use Rattle.media_variables.specs.{declared.lending.MediumFound.MediumFound, Variables.Media, Variables.Reference, Variables.Lendable, Variables.handed_by, Variables.handed_of, Held.medium_found}
use Rattle.run_model.specs.Follow.{Course, Ask, after_move, encode_of, result_of, media_by}

-- a call of a caller, what it makes of all, and what the caller is answered
pub asked : (v : Course) (who : Who) (k place : ℕ) (x : Call) (error : Option DomError) (callers : List (List StepResult)) (codecs : List CodecValue) (m : Media) (slots : SlotsValue)
    → codecs ≡ codecs_after k (Entry.Call who x) v.slots v.codecs → slots ≡ slots_by k (Entry.Call who x) v.slots (codec_at k v.codecs) → m ≡ media_by k (Entry.Call who x) (codec_at k v.codecs) v.media
    → place ≡ length (codec_at k v.codecs).history → error ≡ exception_of x (call_error x (state_of (codec_at k v.codecs)).control) → callers ≡ append_at who.caller (StepResult.Call k place error) v.callers
    → ◌≡◌ {A = Course} (record { callers = callers; codecs = codecs; media = m; slots = slots; ports = v.ports }) (after_move (Ask who k x) v)
asked v who k place x error callers codecs m slots made went left at shown noted =
    let told : callers ≡ append_at who.caller (result_of k x (codec_at k v.codecs)) v.callers = rw (noted, at, shown) refl in
    λ i. record { callers = told i; codecs = made i; media = left i; slots = went i; ports = v.ports }

-- ---- what is handed

-- what is open and refused is kept
kept_of : (number : ℕ) (b : Bool) (shape : MediaShape) (held : Option Reference) → medium_found (Some (record { shape = shape; held = held })) ≡ MediumFound.Open → is_some (if b then None else Some DomError.InvalidState) ≡ true → handed_by number b shape held ≡ refused_as false
kept_of number false shape (Some r) is refused = refl
kept_of number b shape held is refused = absurd cc

pub hands_kept : (v : Course) (k : ℕ) (o : Option Lendable) → medium_found o ≡ MediumFound.Open → is_some (encode_error false (state_of (codec_at k v.codecs)).control) ≡ true
    → option_map (encode_of v.media.pool (codec_at k v.codecs)) o ≡ Some (Call.Encode (refused_as false))
hands_kept v k None is refused = absurd cc
hands_kept v k (Some s) is refused = ap (λ h. Some (Call.Encode h)) (kept_of (references_made v.media.pool) (is_configured (state_of (codec_at k v.codecs)).control) s.shape s.held is refused)

accepted_is : (b : Bool) → ◌≡◌ {A = Option DomError} (if b then None else Some DomError.InvalidState) None → b ≡ true
accepted_is true h = refl
accepted_is false h = absurd cc

pub hands_clone : (v : Course) (k : ℕ) (o : Option Lendable) (x : HeldMedium) → medium_found o ≡ MediumFound.Open → encode_error false (state_of (codec_at k v.codecs)).control ≡ None
    → IfSome o (λ s. handed_of (references_made v.media.pool) true s ≡ Handed.Cloned x)
    → option_map (encode_of v.media.pool (codec_at k v.codecs)) o ≡ Some (Call.Encode (Handed.Cloned x))
hands_clone v k None x is accepted clones = absurd cc
hands_clone v k (Some s) x is accepted clones = rw (accepted_is (is_configured (state_of (codec_at k v.codecs)).control) accepted, clones) refl

-- an encode that is not refused may be told that its data is cloned, and one that is refused that it is not
pub may_clone : (c : Control) → encode_error false c ≡ None → is_configured c ≡ true
may_clone c e = accepted_is (is_configured c) e

pub may_refuse : (detached : Bool) (c : Control) → is_some (encode_error detached c) ≡ true → may_call (Call.Encode (refused_as detached)) c ≡ true
may_refuse true c e = refl
may_refuse false c e = by (is_configured c) e
  where
    by : (b : Bool) → is_some (if b then None else Some DomError.InvalidState) ≡ true → not b ≡ true
    by true e = absurd cc
    by false e = refl

pub refusal_adds : (who : Who) (detached : Bool) → adds_held (Entry.Call who (Call.Encode (refused_as detached))) ≡ []
refusal_adds who true = refl
refusal_adds who false = refl
