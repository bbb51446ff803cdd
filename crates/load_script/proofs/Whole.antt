-- That nothing is at fault in the script of a load.
use Rattle.std.proofs.Common.{ℕ, ◌≡◌, ◌+◌, ◌*◌, ◌≤◌, true, List, [], ◌∷◌, ◌++◌, length, Some, refl, ap, ◌∙◌, arith, codes}
use Rattle.std.specs.Prelude.{option_and_then}
use Rattle.std.specs.List.{sum_by}
use Rattle.std.proofs.lemmas.Bool.{and_from, le-leb}
use Rattle.std.proofs.lemmas.List.Sums.{sum_by-cons}
use Rattle.script_types.specs.declared.script.CallerItem.{CallerItem}
use Rattle.script_types.specs.declared.steps.VariableKind.TheVariants as holds
use Rattle.script_types.specs.Names.{decodes as decodes_kind}
use Rattle.script_types.specs.Sound.{is_sound, is_codec, any_kind, gives, is_sound_step, are_sound_steps, are_sound_callers, are_few, is_small_media, files_in, is_count, bytes_of_caller, are_sound_uses}
use Rattle.load_script.specs.Draws.{state_after}
use Rattle.load_script.specs.Script.{decoders, callers, caller, load_script, steps_with, configures, take_steps, flush_steps, maker}
use Rattle.load_script.proofs.Names.{fresh_next, nothing_before, AreFresh, nothing}
use Rattle.load_script.proofs.Steps.{sound_chunks, sound_flush, sound_takes}
use Rattle.load_script.proofs.Counts.{length-steps_with, bytes_of_steps, small_steps, no_uses, no_files}

-- the steps of the caller of a decoder that is there
sound_steps : (on : ℕ) (codec : List ℕ) (n x : ℕ) → is_sound_step decoders [] (configures on codec) ≡ true → is_codec decoders decodes_kind on ≡ true → is_codec decoders any_kind on ≡ true → is_codec decoders (gives holds.Audio) on ≡ true → n ≤ 5000
    → are_sound_steps decoders [] (steps_with on codec n x) ≡ true
sound_steps on codec n x s d a g few =
    let first : AreFresh (configures on codec ∷ []) = fresh_next [] (configures on codec) nothing_before (nothing refl) in
    and_from _ _ s (sound_chunks decoders on n 0 x (flush_steps on (maker n) ++ take_steps on n (maker n + 2)) d (omega (arith, few))
    (λ before fresh len. sound_flush decoders on (maker n) (take_steps on n (maker n + 2)) a (omega (arith, few))
    (sound_takes decoders on n (maker n + 2) g (omega (arith, few))) before fresh (len ∙ omega arith)) (configures on codec ∷ []) first refl)

sound_callers : (start n : ℕ) → n ≤ 5000 → are_sound_callers decoders [] (callers start n) ≡ true
sound_callers start n few =
    and_from _ _ (sound_steps 0 (codes "ulaw") n (state_after (0 * (n * 160)) start) refl refl refl refl few)
    (and_from _ _ (sound_steps 1 (codes "alaw") n (state_after (1 * (n * 160)) start) refl refl refl refl few)
    (and_from _ _ (sound_steps 2 (codes "pcm-s16") n (state_after (2 * (n * 160)) start) refl refl refl refl few)
    (and_from _ _ (sound_steps 3 (codes "pcm-u8") n (state_after (3 * (n * 160)) start) refl refl refl refl few) refl)))

-- the state with which a caller begins
abbrev from : ℕ → ℕ → ℕ → ℕ
from on start n = state_after (on * (n * 160)) start

-- what each of four callers comes to
four : (f : CallerItem → ℕ) (start n m : ℕ) → ((on : ℕ) (name codec : List ℕ) → f (caller on name codec n start) ≡ m) → sum_by f (callers start n) ≡ 4 * m
four f start n m each =
    let a : CallerItem = caller 0 (codes "c0") (codes "ulaw") n start in
    let b : CallerItem = caller 1 (codes "c1") (codes "alaw") n start in
    let c : CallerItem = caller 2 (codes "c2") (codes "pcm-s16") n start in
    let d : CallerItem = caller 3 (codes "c3") (codes "pcm-u8") n start in
    omega (
      arith,
      each 0 (codes "c0") (codes "ulaw"),
      each 1 (codes "c1") (codes "alaw"),
      each 2 (codes "c2") (codes "pcm-s16"),
      each 3 (codes "c3") (codes "pcm-u8"),
      sum_by-cons f a (b ∷ c ∷ d ∷ []),
      sum_by-cons f b (c ∷ d ∷ []),
      sum_by-cons f c (d ∷ []),
      sum_by-cons f d [],
    )

all_steps : (start n : ℕ) → sum_by (λ (c : CallerItem). length c.steps) (callers start n) ≡ 4 * (3 * n + 3)
all_steps start n = four (λ (c : CallerItem). length c.steps) start n (3 * n + 3) (λ on name codec. length-steps_with on codec n (from on start n))

all_bytes : (start n : ℕ) → sum_by bytes_of_caller (callers start n) ≡ 4 * (160 * n)
all_bytes start n = four bytes_of_caller start n (160 * n) (λ on name codec. bytes_of_steps on codec n (from on start n))

few_steps : (start n : ℕ) → n ≤ 5000 → are_few decoders (callers start n) ≡ true
few_steps start n few = le-leb (sum_by (λ (c : CallerItem). length c.steps) (callers start n)) 100000 (omega (arith, few, all_steps start n))

small_media : (start n : ℕ) → n ≤ 5000 → is_small_media (640 * n) (callers start n) ≡ true
small_media start n few =
    and_from _ _ (and_from _ _ (small_steps 0 (codes "ulaw") n (from 0 start n)) (and_from _ _ (small_steps 1 (codes "alaw") n (from 1 start n))
    (and_from _ _ (small_steps 2 (codes "pcm-s16") n (from 2 start n)) (and_from _ _ (small_steps 3 (codes "pcm-u8") n (from 3 start n)) refl))))
    (and_from _ _ (le-leb (sum_by bytes_of_caller (callers start n)) (640 * n) (omega (arith, all_bytes start n))) (le-leb (640 * n) 268435456 (omega (arith, few))))

-- a caller that mentions no file
mentions_none : (start n on : ℕ) (name codec : List ℕ) (cs : List CallerItem) → files_in 0 cs ≡ Some 0 → files_in 0 (caller on name codec n start ∷ cs) ≡ Some 0
mentions_none start n on name codec cs rest = ap (option_and_then (λ m. files_in m cs)) (no_files on codec n (from on start n)) ∙ rest

no_files_at_all : (start n : ℕ) → files_in 0 (callers start n) ≡ Some 0
no_files_at_all start n =
    let d : List CallerItem = caller 3 (codes "c3") (codes "pcm-u8") n start ∷ [] in
    let c : List CallerItem = caller 2 (codes "c2") (codes "pcm-s16") n start ∷ d in
    let b : List CallerItem = caller 1 (codes "c1") (codes "alaw") n start ∷ c in
    mentions_none start n 0 (codes "c0") (codes "ulaw") b (mentions_none start n 1 (codes "c1") (codes "alaw") c
    (mentions_none start n 2 (codes "c2") (codes "pcm-s16") d (mentions_none start n 3 (codes "c3") (codes "pcm-u8") [] refl)))

-- no step uses a port
sound_uses : (start n : ℕ) → are_sound_uses [] (callers start n) ≡ true
sound_uses start n =
    and_from _ _ (no_uses 0 (codes "ulaw") n (from 0 start n)) (and_from _ _ (no_uses 1 (codes "alaw") n (from 1 start n))
    (and_from _ _ (no_uses 2 (codes "pcm-s16") n (from 2 start n)) (and_from _ _ (no_uses 3 (codes "pcm-u8") n (from 3 start n)) refl)))

pub load_is_sound : (start n : ℕ) → n ≤ 5000 → is_sound (load_script start n) ≡ true
load_is_sound start n few =
    and_from _ _ refl (and_from _ _ (sound_callers start n few) (and_from _ _ (few_steps start n few) (and_from _ _ (small_media start n few)
    (and_from _ _ (ap (is_count 0) (no_files_at_all start n)) (sound_uses start n)))))
