-- The laws by places, of every legal history (our choice; W3C WebCodecs says them by its algorithms alone).
use Rattle.std.specs.Prelude.{ℕ, ◌≡◌, ◌≤◌, ◌<◌, ◌+◌, ◌&&◌, ◌⊎◌, Bool, true, List, [], ◌∷◌, ◌++◌, length, take, slice_get, Some, None, is_some, is_none, unwrap_or, option_map, if◌then◌else◌, ◌==◌}
use Rattle.wc_base.specs.declared.error.DomError.{DomError}
use Rattle.wc_base.specs.declared.error.DomError.TheVariants as dom
use Rattle.codec_definitions.specs.declared.unit.Unit as media
use Rattle.codec_definitions.specs.Answers.{units_of}
use Rattle.codec_model.specs.declared.entry.Opening.{Opening}
use Rattle.codec_model.specs.declared.entry.Call.{Call}
use Rattle.codec_model.specs.declared.entry.Call.TheVariants as call
use Rattle.codec_model.specs.declared.entry.HeldMedium.{HeldMedium}
use Rattle.codec_model.specs.declared.entry.Entry.{Entry}
use Rattle.codec_model.specs.declared.entry.Entry.TheVariants as entry
use Rattle.codec_model.specs.declared.entry.Handed.TheVariants as handed
use Rattle.codec_model.specs.declared.entry.WorkKind.TheVariants as kind
use Rattle.codec_model.specs.declared.entry.PromiseState.{PromiseState}
use Rattle.codec_model.specs.declared.entry.PromiseState.TheVariants as promise
use Rattle.codec_model.specs.Replay.{State, answers_to, replay, IsLegal}
use Rattle.codec_model.specs.Shown.{shown, outputs_of}
use Rattle.codec_model.specs.Facts.{IsQuiet}
use Rattle.codec_laws.specs.declared.sight.Sight.{Sight}
use Rattle.codec_laws.specs.declared.source.{Source.Source, Output.Output}
use Rattle.codec_laws.specs.Sights.{sights, falls_at, dequeues_at, removes_at, asks_at, NoneRemoves}
use Rattle.codec_laws.specs.Sources.{outputs, given, own_ends, ends_in, end_at, end_from}
use Rattle.codec_laws.specs.Contents.{configuration_at, bare}

-- ---- nothing old

-- The call that gave an output stands between the configure of its configuration and the turn that shows it, and no
-- removal stands there.
pub record IsOwn (xs : List Sight) (y : Output) : Type 0 where
  pub before : y.source.configure < y.source.call
  pub after : y.source.call < y.turn
  pub configures : asks_at xs y.source.configure ≡ Some kind.Configure
  pub asks : is_some (asks_at xs y.source.call) ≡ true
  pub none_removes : NoneRemoves xs y.source.configure y.turn

-- each output is of the configuration that stands when it is shown
abbrev pub NothingOld : Type 0
NothingOld = (o : Opening) (h : List Entry) → IsLegal o h → (n : ℕ) (y : Output) → slice_get (outputs (sights o h)) n ≡ Some y → IsOwn (sights o h) y

-- a flush that is pending at a removal is rejected there, once
abbrev pub RemovalsReject : Type 0
RemovalsReject = (o : Opening) (h : List Entry) → IsLegal o h → (p k : ℕ) (x : Sight) (error : DomError) → asks_at (sights o h) p ≡ Some kind.Flush → p < k → ends_in p (take k (sights o h)) ≡ 0 → slice_get (sights o h) k ≡ Some x → x.removes ≡ Some error
    → (own_ends p x.ends ≡ 1) × (end_at p k x.ends ≡ Some (k, promise.Rejected error))

-- ---- flushes

-- a promise has one end at most
abbrev pub EndsOnce : Type 0
EndsOnce = (o : Opening) (h : List Entry) → IsLegal o h → (p : ℕ) → ends_in p (sights o h) ≤ 1

-- its flush was refused: it is rejected at its own place
pub record IsRefusedThere (xs : List Sight) (p t : ℕ) (error : DomError) : Type 0 where
  pub own : t ≡ p
  pub refused : asks_at xs p ≡ None
  pub invalid : error ≡ dom.InvalidState

-- its flush was accepted: the first removal behind it rejects it, with the removal's error
pub record IsRemovedThere (xs : List Sight) (p t : ℕ) (error : DomError) : Type 0 where
  pub accepted : asks_at xs p ≡ Some kind.Flush
  pub after : p < t
  pub none_removes : NoneRemoves xs p t
  pub removes : removes_at xs t ≡ Some error

abbrev pub IsRejected : List Sight → ℕ → ℕ → DomError → Type 0
IsRejected xs p t error = IsRefusedThere xs p t error ⊎ IsRemovedThere xs p t error

-- a promise is rejected at its own place, or by the first removal after it
abbrev pub RejectedOnly : Type 0
RejectedOnly = (o : Opening) (h : List Entry) → IsLegal o h → (p t : ℕ) (error : DomError) → end_from p 0 (sights o h) ≡ Some (t, promise.Rejected error) → IsRejected (sights o h) p t error

-- an output is shown there or before
pub record IsShownBy (ys : List Output) (y : Source) (turn : ℕ) : Type 0 where
  pub number : ℕ
  pub output : Output
  pub shown : slice_get ys number ≡ Some output
  pub same : output.source ≡ y
  pub before : output.turn ≤ turn

-- Where a promise is resolved, all is shown that calls before its flush gave, but for what a removal took.
abbrev pub ResolvedLast : Type 0
ResolvedLast = (o : Opening) (h : List Entry) → IsLegal o h → (p t n : ℕ) (y : Source) → end_from p 0 (sights o h) ≡ Some (t, promise.Resolved) → slice_get (given (sights o h)) n ≡ Some y → y.call < p → NoneRemoves (sights o h) y.call p → IsShownBy (outputs (sights o h)) y t

-- ---- order

-- how many of these outputs are of the configuration that begins at a place
abbrev pub count_of : ℕ → List Output → ℕ
count_of f [] = 0
count_of f (y ∷ ys) = (if y.source.configure == f then 1 else 0) + count_of f ys

-- outputs of one configuration have the indexes 0, 1, 2, .. in the order in which they are shown
abbrev pub IndexesRise : Type 0
IndexesRise = (o : Opening) (h : List Entry) → IsLegal o h → (n : ℕ) (y : Output) → slice_get (outputs (sights o h)) n ≡ Some y → y.source.index ≡ count_of y.source.configure (take n (outputs (sights o h)))

-- ---- contents

-- What is shown with this number is, metadata aside, the unit of its index among all that the codec's definition gives for
-- its configuration, up to the call that gave it.
pub record IsGiven (o : Opening) (h : List Entry) (n : ℕ) (unit : media.Unit) : Type 0 where
  pub output : Output
  pub numbered : slice_get (outputs (sights o h)) n ≡ Some output
  pub configure : (configuration_at o h output.source.call).place ≡ output.source.configure
  pub given : option_map bare (slice_get (units_of (answers_to (configuration_at o h output.source.call).given)) output.source.index) ≡ Some (bare unit)

pub record EachIsGiven (o : Opening) (h : List Entry) : Type 0 where
  pub as_many : length (outputs (sights o h)) ≡ length (outputs_of (shown o h))
  pub each : (n : ℕ) (unit : media.Unit) → slice_get (outputs_of (shown o h)) n ≡ Some unit → IsGiven o h n unit

-- outputs hold what the codec's definition gives
abbrev pub ContentsAreGiven : Type 0
ContentsAreGiven = (o : Opening) (h : List Entry) → IsLegal o h → EachIsGiven o h

-- ---- dequeue

-- at this place, between two others, the size falls
pub record IsFall (xs : List Sight) (i j place : ℕ) : Type 0 where
  pub after : i < place
  pub before : place < j
  pub falls : falls_at xs place ≡ true

abbrev pub FallsBetween : List Sight → ℕ → ℕ → Type 0
FallsBetween xs i j = (place : ℕ) × IsFall xs i j place

-- between two dequeue events the size falls
abbrev pub SizeFalls : Type 0
SizeFalls = (o : Opening) (h : List Entry) → 1 ≤ o.saturation → IsLegal o h → (i j : ℕ) → i < j → dequeues_at (sights o h) i ≡ true → dequeues_at (sights o h) j ≡ true → FallsBetween (sights o h) i j

-- ---- same outputs

-- a medium with no reference to it
abbrev pub unnamed : HeldMedium → HeldMedium
unnamed medium = record medium { pair = record { resource = 0; reference = 0 } }

-- what a call asks for or would ask for, apart from who makes it; an encode's medium apart from its reference
abbrev pub call_alone : Entry → List Call
call_alone (entry.Call who (call.Configure config)) = call.Configure config ∷ []
call_alone (entry.Call who (call.Decode chunk)) = call.Decode chunk ∷ []
call_alone (entry.Call who (call.Encode handed.Gone)) = call.Encode handed.Gone ∷ []
call_alone (entry.Call who (call.Encode handed.Kept)) = call.Encode handed.Kept ∷ []
call_alone (entry.Call who (call.Encode (handed.Cloned medium))) = call.Encode (handed.Cloned (unnamed medium)) ∷ []
call_alone (entry.Call who call.Flush) = call.Flush ∷ []
call_alone e = []

abbrev pub calls_alone : List Entry → List Call
calls_alone [] = []
calls_alone (e ∷ es) = call_alone e ++ calls_alone es

-- no removal stands there
abbrev pub is_calm : List Sight → Bool
is_calm [] = true
is_calm (x ∷ xs) = is_none x.removes && is_calm xs

-- how the promise of the entry at this place ends, if it is a flush
abbrev pub flush_end : ℕ → Entry → List Sight → List PromiseState
flush_end place (entry.Call who call.Flush) xs = unwrap_or (option_map (λ (e : ℕ × PromiseState). e.1) (end_from place 0 xs)) promise.Pending ∷ []
flush_end place e xs = []

-- the ends of flushes, one after another
abbrev pub flush_ends_from : ℕ → List Entry → List Sight → List PromiseState
flush_ends_from place [] xs = []
flush_ends_from place (e ∷ es) xs = flush_end place e xs ++ flush_ends_from (place + 1) es xs

abbrev pub flush_ends : Opening → List Entry → List PromiseState
flush_ends o h = flush_ends_from 0 h (sights o h)

-- a calm history that ends quiet
pub record EndsCalm (o : Opening) (h : List Entry) : Type 0 where
  pub state : State
  pub replays : replay o h ≡ Some state
  pub quiet : IsQuiet state.control
  pub calm : is_calm (sights o h) ≡ true

-- two calm histories of one opening, with the same calls, show the same outputs, and their flushes end alike
pub record ShowSame (o : Opening) (g h : List Entry) : Type 0 where
  pub outputs : outputs_of (shown o g) ≡ outputs_of (shown o h)
  pub ends : flush_ends o g ≡ flush_ends o h

abbrev pub SameShown : Type 0
SameShown = (o : Opening) (g h : List Entry) → 1 ≤ o.saturation → EndsCalm o g → EndsCalm o h → calls_alone g ≡ calls_alone h → ShowSame o g h
