-- What steps ask of codecs.
use Rattle.std.proofs.Common.{ℕ, ◌≡◌, ◌<◌, false, List, length, Option, Some, None, refl, ap, subst}
use Rattle.std.specs.Prelude.{slice_get, IfSome, Result, Ok, Err, IfOk, OnErr}
use Rattle.wc_base.specs.declared.error.NoMemory.{NoMemory}
use Rattle.wc_base.specs.declared.who.Who.{Who}
use Rattle.wc_chunk.specs.declared.chunk.Chunk.{Chunk}
use Rattle.codec_model.specs.declared.entry.Call.{Call}
use Rattle.codec_model.specs.Replay.{may_call}
use Rattle.codec_accounts.specs.ListLaws.{get_some}
use Rattle.shared_codec.specs.Calls.{MayAlways}
use Rattle.shared_codec.specs.Shared.{Shared}
use Rattle.codec_desk.specs.declared.desk.Desk.{Desk}
use Rattle.codec_desk.specs.declared.desk.Seats.{Seats}
use Rattle.script_types.specs.declared.script.ScriptData.{ScriptData}
use Rattle.script_types.specs.declared.steps.MediaStep.{MediaStep}
use Rattle.script_types.specs.declared.steps.Step.{Step}
use Rattle.script_types.specs.declared.steps.Variable.{Variable}
use Rattle.script_types.specs.declared.steps.VariableKind.{VariableKind}
use Rattle.script_types.specs.Names.{called, names_codec, taken_from}
use Rattle.report_text.specs.declared.result.StepResult.{StepResult}
use Rattle.media_variables.specs.Variables.{Medium, uses_port}
use Rattle.media_accounts.specs.Accounts.{media_of}
use Rattle.run_model.specs.Fits.{HasArguments}
use Rattle.desk_callers.specs.Acts.{AreOpened, CalledAs, Did, Helped, NamesWithin, StaySeats}
use Rattle.desk_callers.proofs.Acting.{call_acted}
use Rattle.desk_callers.proofs.Staying.{stay_settled, stay_helped}

-- a call of a step that is none on media can be made in each state
pub asked_may : (s : ScriptData) (media : List (List Chunk)) (vs : List (Option Medium)) (c : ℕ) (x : Call) (y : Step) → media_of y ≡ None → HasArguments s media vs c x y → MayAlways x
asked_may s media vs c x (Step.Configure on config) none has = λ d. ap (λ (z : Call). may_call z d) has
asked_may s media vs c x (Step.Decode on chunk) none has = λ d. ap (λ (z : Call). may_call z d) has.2
asked_may s media vs c x (Step.Flush on bind) none has = λ d. ap (λ (z : Call). may_call z d) has
asked_may s media vs c x (Step.Reset on) none has = λ d. ap (λ (z : Call). may_call z d) has
asked_may s media vs c x (Step.Close on) none has = λ d. ap (λ (z : Call). may_call z d) has
asked_may s media vs c x (Step.Ground on to) none has = λ d. ap (λ (z : Call). may_call z d) has
asked_may s media vs c x (Step.Media z) none has = absurd cc
asked_may s media vs c x y none has = absurd has

module _ {C : Type 0} where
  pub asked_acted : (s : ScriptData) (media : List (List Chunk)) (desk : Desk C) (rs : List StepResult) (a b : Seats C) (vs : List (Option Medium)) (who : Who) (y : Step) (k : ℕ) (x : Call) (r : StepResult) (c : Shared) → slice_get desk.codecs.items k ≡ Some c → AreOpened s desk.codecs.items
      → CalledAs desk who k x a b r → media_of y ≡ None → called y ≡ Some k → HasArguments s media vs who.caller x y → Did s media desk who y rs a b vs vs r
  asked_acted s media desk rs a b vs who (Step.Configure on config) k x r c there opened done none calls has = call_acted s media desk rs a b vs who (Step.Configure on config) k x r c there opened done refl calls (λ q. refl) (λ p e w. tt) (λ p e o. tt) (λ p e. tt) has
  asked_acted s media desk rs a b vs who (Step.Decode on chunk) k x r c there opened done none calls has = call_acted s media desk rs a b vs who (Step.Decode on chunk) k x r c there opened done refl calls (λ q. refl) (λ p e w. tt) (λ p e o. tt) (λ p e. tt) has
  asked_acted s media desk rs a b vs who (Step.Flush on bind) k x r c there opened done none calls has = call_acted s media desk rs a b vs who (Step.Flush on bind) k x r c there opened done refl calls (λ q. refl) (λ p e w. tt) (λ p e o. tt) (λ p e. tt) has
  asked_acted s media desk rs a b vs who (Step.Reset on) k x r c there opened done none calls has = call_acted s media desk rs a b vs who (Step.Reset on) k x r c there opened done refl calls (λ q. refl) (λ p e w. tt) (λ p e o. tt) (λ p e. tt) has
  asked_acted s media desk rs a b vs who (Step.Close on) k x r c there opened done none calls has = call_acted s media desk rs a b vs who (Step.Close on) k x r c there opened done refl calls (λ q. refl) (λ p e w. tt) (λ p e o. tt) (λ p e. tt) has
  asked_acted s media desk rs a b vs who (Step.Ground on to) k x r c there opened done none calls has = call_acted s media desk rs a b vs who (Step.Ground on to) k x r c there opened done refl calls (λ q. refl) (λ p e w. tt) (λ p e o. tt) (λ p e. tt) has
  asked_acted s media desk rs a b vs who (Step.Media z) k x r c there opened done none calls has = absurd cc
  asked_acted s media desk rs a b vs who y k x r c there opened done none calls has = absurd has

  -- whatever a call answers, the seats stay
  pub stay_called : (desk : Desk C) (who : Who) (k : ℕ) (x : Call) (a b : Seats C) (r : Result StepResult NoMemory) → IfOk r (CalledAs desk who k x a b) → OnErr r (Helped desk a b) → StaySeats desk a b
  stay_called desk who k x a b (Ok v) called err = stay_settled desk a b called.settled
  stay_called desk who k x a b (Err e) called err = stay_helped desk a b err

  pub did_called : (s : ScriptData) (media : List (List Chunk)) (desk : Desk C) (rs : List StepResult) (a b : Seats C) (vs : List (Option Medium)) (who : Who) (y : Step) (k : ℕ) (x : Call) (r : Result StepResult NoMemory) → k < length desk.codecs.items → AreOpened s desk.codecs.items
      → IfOk r (CalledAs desk who k x a b) → media_of y ≡ None → called y ≡ Some k → HasArguments s media vs who.caller x y → IfOk r (Did s media desk who y rs a b vs vs)
  did_called s media desk rs a b vs who y k x (Ok v) lt opened done none calls has = (let there = get_some desk.codecs.items k lt in asked_acted s media desk rs a b vs who y k x v there.0 there.1 opened done none calls has)
  did_called s media desk rs a b vs who y k x (Err e) lt opened done none calls has = tt

-- the codec that a step names is one of so many
pub named_at : (n : ℕ) (x : Step) (k : ℕ) → names_codec x ≡ Some k → NamesWithin n x → k < n
named_at n x k is within = subst (λ (o : Option ℕ). IfSome o (λ j. j < n)) is within

-- the port that a step names is one of so many
pub port_there : (n : ℕ) (o : Option ℕ) (q : ℕ) → o ≡ Some q → IfSome o (λ j. j < n) → q < n
port_there n o q is within = subst (λ (x : Option ℕ). IfSome x (λ j. j < n)) is within

-- ---- steps of no such kind

pub no_take : (x : MediaStep) → ((on : ℕ) (bind : List ℕ) (kind : VariableKind) → x ≡ MediaStep.Take on bind kind → ⊥) → taken_from (Step.Media x) ≡ None
no_take (MediaStep.Take on bind kind) never = absurd (never on bind kind refl)
no_take x never = refl

pub no_call : (x : MediaStep) → ((on : ℕ) (content : Variable) → x ≡ MediaStep.Encode on content → ⊥) → called (Step.Media x) ≡ None
no_call (MediaStep.Encode on content) never = absurd (never on content refl)
no_call x never = refl

pub no_port : (x : MediaStep) → ((to : ℕ) (content : Variable) → x ≡ MediaStep.Post to content → ⊥) → ((from : ℕ) (bind : List ℕ) (kind : VariableKind) → x ≡ MediaStep.Receive from bind kind → ⊥) → uses_port x ≡ false
no_port (MediaStep.Post to content) posts receives = absurd (posts to content refl)
no_port (MediaStep.Receive from bind kind) posts receives = absurd (receives from bind kind refl)
no_port x posts receives = refl

pub no_media : (x : Step) → ((y : MediaStep) → x ≡ Step.Media y → ⊥) → media_of x ≡ None
no_media (Step.Media y) never = absurd (never y refl)
no_media x never = refl
