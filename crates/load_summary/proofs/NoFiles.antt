-- No step of a load takes a chunk of a file.
use Rattle.std.proofs.Common.{ℕ, zero, suc, ◌≡◌, ◌+◌, ◌*◌, List, [], ◌∷◌, ◌++◌, None, refl, codes}
use Rattle.script_types.specs.declared.script.CallerItem.{CallerItem}
use Rattle.script_types.specs.declared.steps.Step.{Step}
use Rattle.run_model.specs.Missing.{missing_step, missing_caller}
use Rattle.load_script.specs.Draws.{state_after}
use Rattle.load_script.specs.Script.{caller, steps_with, chunk_steps, take_steps, flush_steps, maker}
use Rattle.load_summary.specs.Lacks.{LoadsLackNothing}

-- from any number on, these steps lack no chunk
abbrev LackNone : ℕ → List Step → Type 0
LackNone i steps = (j : ℕ) → missing_step [] i j steps ≡ None

of_chunks : (i on n chunk x : ℕ) (rest : List Step) → LackNone i rest → LackNone i (chunk_steps on n chunk x ++ rest)
unfolding chunk_steps
of_chunks i on zero chunk x rest none j = none j
of_chunks i on (suc n) chunk x rest none j = of_chunks i on n (suc chunk) (state_after 160 x) rest none (j + 1 + 1)

of_takes : (i on n number : ℕ) → LackNone i (take_steps on n number)
unfolding take_steps
of_takes i on zero number j = refl
of_takes i on (suc n) number j = of_takes i on n (suc number) (j + 1)

of_steps : (i on : ℕ) (codec : List ℕ) (n x : ℕ) → missing_step [] i 0 (steps_with on codec n x) ≡ None
of_steps i on codec n x = of_chunks i on n 0 x (flush_steps on (maker n) ++ take_steps on n (maker n + 2)) (λ j. of_takes i on n (maker n + 2) (j + 1 + 1)) 1

of_caller : (start n i on : ℕ) (name codec : List ℕ) (cs : List CallerItem) → missing_caller [] (i + 1) cs ≡ None → missing_caller [] i (caller on name codec n start ∷ cs) ≡ None
of_caller start n i on name codec cs rest = rw (of_steps i on codec n (state_after (on * (n * 160)) start), rest) refl

pub lack_nothing : LoadsLackNothing
lack_nothing start n =
    let d : List CallerItem = caller 3 (codes "c3") (codes "pcm-u8") n start ∷ [] in
    let c : List CallerItem = caller 2 (codes "c2") (codes "pcm-s16") n start ∷ d in
    let b : List CallerItem = caller 1 (codes "c1") (codes "alaw") n start ∷ c in
    of_caller start n 0 0 (codes "c0") (codes "ulaw") b (of_caller start n 1 1 (codes "c1") (codes "alaw") c
    (of_caller start n 2 2 (codes "c2") (codes "pcm-s16") d (of_caller start n 3 3 (codes "c3") (codes "pcm-u8") [] refl)))
