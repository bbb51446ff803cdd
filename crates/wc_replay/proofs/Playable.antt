-- A script in which nothing is at fault can be played.
use Rattle.std.proofs.Common.{ℕ, ◌≡◌, ◌<◌, true, List, [], ◌∷◌, ◌++◌, take, Option, Some, None, refl, arith}
use Rattle.std.specs.Prelude.{length, slice_get, unwrap_or}
use Rattle.std.specs.List.{list_all}
use Rattle.std.proofs.lemmas.Bool.{and_parts, and_from, ltb-true, lt-ltb}
use Rattle.std.proofs.lemmas.Option.{slice_get_within}
use Rattle.script_types.specs.declared.{script.CodecItem.CodecItem, script.OrderItem.OrderItem, script.ScriptData.ScriptData, steps.MediaStep.MediaStep, steps.Step.Step}
use Rattle.script_types.specs.Sound.{is_sound, are_sound_codecs, is_sound_item}
use Rattle.script_types.specs.SoundLaws.{parts_of, names_within, few_steps, item_at}
use Rattle.run_model.specs.Recorded.{steps_of}
use Rattle.run_model.specs.Fits.{step_in, port_posted, port_received}
use Rattle.order_laws.specs.SoundSteps.{stands_in, sound_step, sound_of}
use Rattle.wc_replay.specs.Player.{IsPlayable, IsInRange, is_openable, is_use_within}

-- a caller that has a step is one of the script's
pub caller_within : (s : ScriptData) (c j : ℕ) (x : Step) → step_in s c j ≡ Some x → c < length s.callers
caller_within s c j x is = let there = stands_in s.callers c j x is in slice_get_within s.callers c there.caller there.is_caller

-- ---- the order

item_within : (n m : ℕ) (x : OrderItem) → is_sound_item n m x ≡ true → IsInRange n x
item_within n m (OrderItem.Caller c) h = tt
item_within n m (OrderItem.Start k) h = ltb-true k n h
item_within n m (OrderItem.Done k moment) h = ltb-true k n h
item_within n m (OrderItem.Turn k) h = ltb-true k n h
item_within n m (OrderItem.Reclaim k moment) h = ltb-true k n h

items_within : (s : ScriptData) (o : Option (List OrderItem)) (i : ℕ) (x : OrderItem) → is_sound s ≡ true → s.order ≡ o → slice_get (unwrap_or o []) i ≡ Some x → IsInRange (length s.codecs) x
items_within s None i x h is at = absurd cc
items_within s (Some items) i x h is at = item_within (length s.codecs) (length s.callers) x (item_at s items i x h is at)

-- ---- ports

use_within : (n : ℕ) (x : Step) → ((port : ℕ) → port_posted x ≡ Some port → port < n) → ((port : ℕ) → port_received x ≡ Some port → port < n) → is_use_within n x ≡ true
use_within n (Step.Media (MediaStep.Post to content)) posts receives = lt-ltb to n (posts to refl)
use_within n (Step.Media (MediaStep.Receive from bind kind)) posts receives = lt-ltb from n (receives from refl)
use_within n (Step.Media x) posts receives = refl
use_within n x posts receives = refl

pub playable_of : (s : ScriptData) → is_sound s ≡ true → IsPlayable s
playable_of s h = record {
  sound = sound_of s h;
  faultless = h;
  ports = λ c j x is. use_within (length s.ports) x (λ port posts. (sound_of s h).posts c j port x is posts) (λ port gets. (sound_of s h).receives c j port x is gets);
  names = λ c j x is. names_within s.codecs (take j (steps_of s c)) x (sound_step s c j x h is);
  few = λ c j x is. (let there = stands_in s.callers c j x is in omega (arith, few_steps s c there.caller h there.is_caller, slice_get_within there.caller.steps j x there.is_step));
  items = λ i x at. items_within s s.order i x h refl at;
}

-- ---- codecs

all_openable : (before codecs : List CodecItem) → are_sound_codecs before codecs ≡ true → list_all is_openable codecs ≡ true
all_openable before [] h = refl
all_openable before (c ∷ cs) h =
    let parts = and_parts _ _ h in
    and_from (is_openable c) (list_all is_openable cs) (and_parts _ _ (and_parts _ _ parts.0).1).1 (all_openable (before ++ c ∷ []) cs parts.1)

pub openable_of : (s : ScriptData) → is_sound s ≡ true → list_all is_openable s.codecs ≡ true
openable_of s h = all_openable [] s.codecs (parts_of s h).codecs
