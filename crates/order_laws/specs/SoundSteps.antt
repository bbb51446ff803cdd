-- A script in which nothing is at fault has what each of its steps needs.
use Rattle.std.proofs.Common.{ℕ, zero, suc, ◌≡◌, ◌<◌, true, List, [], ◌∷◌, length, take, Some, ap, sym, subst, ◌∙◌, refl}
use Rattle.std.specs.Prelude.{slice_get}
use Rattle.std.proofs.lemmas.Option.{slice_get_within}
use Rattle.wc_base.specs.Options.{some_same}
use Rattle.script_types.specs.declared.script.CallerItem.{CallerItem}
use Rattle.script_types.specs.declared.script.ScriptData.{ScriptData}
use Rattle.script_types.specs.declared.steps.{Step.Step, MediaStep.MediaStep}
use Rattle.script_types.specs.declared.steps.Variable.{Variable}
use Rattle.script_types.specs.declared.steps.VariableKind.TheVariants as holds
use Rattle.script_types.specs.Names.{is_promise, looked_at, IsFlush}
use Rattle.script_types.specs.Sound.{is_sound, is_sound_step, is_sound_use}
use Rattle.script_types.specs.SoundLaws.{Defines, step_at, named_within, variable_is, promise_kind, promise_there, promise_of_flush, use_at, port_there}
use Rattle.run_model.specs.Recorded.{steps_in, steps_of}
use Rattle.run_model.specs.Fits.{step_in, port_posted, port_received}
use Rattle.codec_accounts.specs.ListLaws.{taken_before, get_from_front}
use Rattle.order_laws.specs.Sound.{IsSound}

-- ---- steps by their caller's number

pub record StandsIn (callers : List CallerItem) (i j : ℕ) (x : Step) : Type 0 where
  pub caller : CallerItem
  pub is_caller : slice_get callers i ≡ Some caller
  pub its_steps : steps_in callers i ≡ caller.steps
  pub is_step : slice_get caller.steps j ≡ Some x

pub stands_in : (callers : List CallerItem) (i j : ℕ) (x : Step) → slice_get (steps_in callers i) j ≡ Some x → StandsIn callers i j x
stands_in [] i j x h = absurd cc
stands_in (c ∷ cs) zero j x h = record { caller = c; is_caller = refl; its_steps = refl; is_step = h }
stands_in (c ∷ cs) (suc i) j x h =
    let rest = stands_in cs i j x h in
    record { caller = rest.caller; is_caller = rest.is_caller; its_steps = rest.its_steps; is_step = rest.is_step }

-- a step is sound after its caller's earlier steps
pub sound_step : (s : ScriptData) (c j : ℕ) (x : Step) → is_sound s ≡ true → step_in s c j ≡ Some x → is_sound_step s.codecs (take j (steps_of s c)) x ≡ true
sound_step s c j x h is =
    let there = stands_in s.callers c j x is in
    ap (λ (ss : List Step). is_sound_step s.codecs (take j ss) x) there.its_steps ∙ step_at s c j there.caller x h there.is_caller there.is_step

-- ---- promises

-- an earlier step of the same caller defines the promise
promise_defined : (s : ScriptData) (c j : ℕ) (x : Step) (v : Variable) → is_sound s ≡ true → step_in s c j ≡ Some x → looked_at x ≡ Some v → Defines (take j (steps_of s c)) v.step holds.Promise
promise_defined s c j x v h is looks =
    let found = variable_is (take j (steps_of s c)) is_promise v (promise_there s.codecs (take j (steps_of s c)) x v (sound_step s c j x h is) looks) in
    subst (Defines (take j (steps_of s c)) v.step) (promise_kind v.kind found.1) found.0

promise_made : (s : ScriptData) (c j : ℕ) (x : Step) (v : Variable) → is_sound s ≡ true → step_in s c j ≡ Some x → looked_at x ≡ Some v → (y : Step) × (step_in s c v.step ≡ Some y) × IsFlush y
promise_made s c j x v h is looks =
    let made = promise_defined s c j x v h is looks in
    let stands = get_from_front (steps_of s c) j v.step made.definer made.stands in
    let flush = promise_of_flush s.codecs (take v.step (steps_of s c)) made.definer made.name (sound_step s c v.step made.definer h stands) made.defines in
    (made.definer, stands, subst IsFlush (sym flush.1) tt)

-- ---- ports

-- a step posts and receives at ports that are there
sound_use : (s : ScriptData) (c j : ℕ) (x : Step) → is_sound s ≡ true → step_in s c j ≡ Some x → is_sound_use s.ports x ≡ true
sound_use s c j x h is = let there = stands_in s.callers c j x is in use_at s c j there.caller x h there.is_caller there.is_step

post_there : (s : ScriptData) (port : ℕ) (x : Step) → is_sound_use s.ports x ≡ true → port_posted x ≡ Some port → port < length s.ports
post_there s port (Step.Media (MediaStep.Post to content)) h is =
    let there = port_there s content.kind to h in
    subst (λ (n : ℕ). n < length s.ports) (some_same to port is) (slice_get_within s.ports to there.0 there.1)
post_there s port (Step.Media x) h is = absurd cc
post_there s port x h is = absurd cc

receive_there : (s : ScriptData) (port : ℕ) (x : Step) → is_sound_use s.ports x ≡ true → port_received x ≡ Some port → port < length s.ports
receive_there s port (Step.Media (MediaStep.Receive from bind kind)) h is =
    let there = port_there s kind from h in
    subst (λ (n : ℕ). n < length s.ports) (some_same from port is) (slice_get_within s.ports from there.0 there.1)
receive_there s port (Step.Media x) h is = absurd cc
receive_there s port x h is = absurd cc

pub sound_of : (s : ScriptData) → is_sound s ≡ true → IsSound s
sound_of s h = record {
  names = λ c j k x is named. named_within s.codecs (take j (steps_of s c)) x k (sound_step s c j x h is) named;
  earlier = λ c j x v is looks. (let made = promise_defined s c j x v h is looks in taken_before (steps_of s c) j v.step made.definer made.stands);
  promised = λ c j x v is looks. promise_made s c j x v h is looks;
  posts = λ c j port x is at. post_there s port x (sound_use s c j x h is) at;
  receives = λ c j port x is at. receive_there s port x (sound_use s c j x h is) at;
}
