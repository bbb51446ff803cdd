-- A script in which nothing is at fault can be run.
use Rattle.std.proofs.Common.{ℕ, zero, suc, ◌≡◌, ◌≤◌, ◌^◌, true, List, [], ◌∷◌, ◌++◌, map, length, Some, refl, subst, arith}
use Rattle.std.specs.Prelude.{slice_get}
use Rattle.std.proofs.lemmas.Bool.{and_parts, leb-true}
use Rattle.codec_model.specs.declared.entry.Opening.{Opening}
use Rattle.script_types.specs.declared.{script.CallerItem.CallerItem, script.CodecItem.CodecItem, script.ScriptData.ScriptData}
use Rattle.script_types.specs.Sound.{is_sound, are_sound_codecs}
use Rattle.script_types.specs.SoundLaws.{parts_of, few_steps}
use Rattle.run_model.specs.Recorded.{steps_in, opening_of}
use Rattle.order_laws.specs.SoundSteps.{sound_of}
use Rattle.desk_run.specs.Opened.{MayOpen}
use Rattle.wc_run.specs.Runnable.{IsRunnable}

may_from : (before codecs : List CodecItem) → are_sound_codecs before codecs ≡ true → MayOpen (map opening_of codecs)
may_from before [] h i o there = absurd cc
may_from before (c ∷ cs) h zero o there =
    let parts = and_parts _ _ h in
    let both = and_parts _ _ (and_parts _ _ (and_parts _ _ parts.0).1).1 in
    let same : opening_of c ≡ o = cc in
    subst (λ (x : Opening). (1 ≤ x.saturation) × (x.saturation ≤ 64)) same (leb-true 1 c.saturation both.0, leb-true c.saturation 64 both.1)
may_from before (c ∷ cs) h (suc i) o there = may_from (before ++ c ∷ []) cs (and_parts _ _ h).1 i o there

pub may_open : (s : ScriptData) → is_sound s ≡ true → MayOpen (map opening_of s.codecs)
may_open s h = may_from [] s.codecs (parts_of s h).codecs

pub few_codecs : (s : ScriptData) → is_sound s ≡ true → length s.codecs ≤ 64
few_codecs s h = leb-true (length s.codecs) 64 (and_parts _ _ (parts_of s h).few).0

pub few_callers : (s : ScriptData) → is_sound s ≡ true → length s.callers ≤ 16
few_callers s h = leb-true (length s.callers) 16 (and_parts _ _ (and_parts _ _ (parts_of s h).few).1).0

steps_short : (cs : List CallerItem) (c : ℕ) → ((i : ℕ) (x : CallerItem) → slice_get cs i ≡ Some x → length x.steps ≤ 100000) → length (steps_in cs c) ≤ 100000
steps_short [] c h = omega arith
steps_short (x ∷ cs) zero h = h 0 x refl
steps_short (x ∷ cs) (suc c) h = steps_short cs c (λ i y there. h (suc i) y there)

pub runnable_of : (s : ScriptData) → is_sound s ≡ true → IsRunnable s
runnable_of s h = record {
  sound = sound_of s h;
  few = λ c. (let short = steps_short s.callers c (λ i x there. few_steps s i x h there) in
      let limit : 2 ^ 32 ≡ 4294967296 = refl in
      omega (arith, short, limit));
}
