-- How many steps a caller of a load has, and how many bytes these hold.
use Rattle.std.proofs.Common.{ℕ, zero, suc, ◌≡◌, ◌+◌, ◌*◌, Bool, true, List, [], ◌∷◌, ◌++◌, length, Some, refl, ap, ◌∙◌, arith, nat_le, length-append}
use Rattle.std.specs.List.{list_all, sum_by}
use Rattle.std.proofs.lemmas.Bool.{and_from, le-leb}
use Rattle.std.proofs.lemmas.List.Sums.{sum_by-cons, sum_by-append}
use Rattle.std.proofs.lemmas.List.Folds.{list_all-append}
use Rattle.script_types.specs.declared.steps.Step.{Step}
use Rattle.script_types.specs.Sound.{bytes_of_step, most_chunk, files_after, is_sound_use}
use Rattle.load_script.specs.Draws.{drawn, state_after, bytes_drawn}
use Rattle.load_script.specs.Script.{makes, decodes, configures, chunk_steps, takes, take_steps, flush_steps, maker, steps_with}

length-bytes_drawn : (n x : ℕ) → length (bytes_drawn n x) ≡ n
unfolding bytes_drawn
length-bytes_drawn zero x = refl
length-bytes_drawn (suc n) x = ap suc (length-bytes_drawn n (drawn x))

length-chunk_steps : (on n chunk x : ℕ) → length (chunk_steps on n chunk x) ≡ 2 * n
unfolding chunk_steps
length-chunk_steps on zero chunk x = refl
length-chunk_steps on (suc n) chunk x = omega (arith, length-chunk_steps on n (suc chunk) (state_after 160 x))

length-take_steps : (on n number : ℕ) → length (take_steps on n number) ≡ n
unfolding take_steps
length-take_steps on zero number = refl
length-take_steps on (suc n) number = ap suc (length-take_steps on n (suc number))

pub length-steps_with : (on : ℕ) (codec : List ℕ) (n x : ℕ) → length (steps_with on codec n x) ≡ 3 * n + 3
length-steps_with on codec n x =
    let rest : List Step = flush_steps on (maker n) ++ take_steps on n (maker n + 2) in
    omega (arith, length-append (chunk_steps on n 0 x) rest, length-chunk_steps on n 0 x, length-take_steps on n (maker n + 2))

bytes_of_chunks : (on n chunk x : ℕ) → sum_by bytes_of_step (chunk_steps on n chunk x) ≡ 160 * n
unfolding chunk_steps
bytes_of_chunks on zero chunk x = refl
bytes_of_chunks on (suc n) chunk x =
    let rest : List Step = chunk_steps on n (suc chunk) (state_after 160 x) in
    omega (arith, sum_by-cons bytes_of_step (makes chunk x) (decodes on chunk ∷ rest), sum_by-cons bytes_of_step (decodes on chunk) rest, length-bytes_drawn 160 x, bytes_of_chunks on n (suc chunk) (state_after 160 x))

bytes_of_takes : (on n number : ℕ) → sum_by bytes_of_step (take_steps on n number) ≡ 0
unfolding take_steps
bytes_of_takes on zero number = refl
bytes_of_takes on (suc n) number = omega (arith, sum_by-cons bytes_of_step (takes on number) (take_steps on n (suc number)), bytes_of_takes on n (suc number))

bytes_of_rest : (on number : ℕ) (rest : List Step) → sum_by bytes_of_step (flush_steps on number ++ rest) ≡ sum_by bytes_of_step rest
bytes_of_rest on number rest = grind (arith, sum_by-cons)

pub bytes_of_steps : (on : ℕ) (codec : List ℕ) (n x : ℕ) → sum_by bytes_of_step (steps_with on codec n x) ≡ 160 * n
bytes_of_steps on codec n x =
    let takes : List Step = take_steps on n (maker n + 2) in
    let rest : List Step = flush_steps on (maker n) ++ takes in
    omega (
      arith,
      sum_by-cons bytes_of_step (configures on codec) (chunk_steps on n 0 x ++ rest),
      sum_by-append bytes_of_step (chunk_steps on n 0 x) rest,
      bytes_of_rest on (maker n) takes,
      bytes_of_chunks on n 0 x,
      bytes_of_takes on n (maker n + 2),
    )

abbrev is_small : Step → Bool
is_small s = nat_le (bytes_of_step s) most_chunk

small_chunks : (on n chunk x : ℕ) → list_all is_small (chunk_steps on n chunk x) ≡ true
unfolding chunk_steps
small_chunks on zero chunk x = refl
small_chunks on (suc n) chunk x =
    and_from _ _ (le-leb (length (bytes_drawn 160 x)) 16777216 (omega (arith, length-bytes_drawn 160 x))) (small_chunks on n (suc chunk) (state_after 160 x))

small_takes : (on n number : ℕ) → list_all is_small (take_steps on n number) ≡ true
unfolding take_steps
small_takes on zero number = refl
small_takes on (suc n) number = small_takes on n (suc number)

pub small_steps : (on : ℕ) (codec : List ℕ) (n x : ℕ) → list_all is_small (steps_with on codec n x) ≡ true
small_steps on codec n x =
    list_all-append is_small (chunk_steps on n 0 x) (flush_steps on (maker n) ++ take_steps on n (maker n + 2))
    ∙ and_from _ _ (small_chunks on n 0 x) (small_takes on n (maker n + 2))

uses_none : (on n chunk x : ℕ) → list_all (is_sound_use []) (chunk_steps on n chunk x) ≡ true
unfolding chunk_steps
uses_none on zero chunk x = refl
uses_none on (suc n) chunk x = uses_none on n (suc chunk) (state_after 160 x)

takes_use_none : (on n number : ℕ) → list_all (is_sound_use []) (take_steps on n number) ≡ true
unfolding take_steps
takes_use_none on zero number = refl
takes_use_none on (suc n) number = takes_use_none on n (suc number)

-- no step uses a port
pub no_uses : (on : ℕ) (codec : List ℕ) (n x : ℕ) → list_all (is_sound_use []) (steps_with on codec n x) ≡ true
no_uses on codec n x =
    list_all-append (is_sound_use []) (chunk_steps on n 0 x) (flush_steps on (maker n) ++ take_steps on n (maker n + 2))
    ∙ and_from _ _ (uses_none on n 0 x) (takes_use_none on n (maker n + 2))

no_files_in_chunks : (on n chunk x : ℕ) (rest : List Step) → files_after 0 (chunk_steps on n chunk x ++ rest) ≡ files_after 0 rest
unfolding chunk_steps
no_files_in_chunks on zero chunk x rest = refl
no_files_in_chunks on (suc n) chunk x rest = no_files_in_chunks on n (suc chunk) (state_after 160 x) rest

no_files_in_takes : (on n number : ℕ) → files_after 0 (take_steps on n number) ≡ Some 0
unfolding take_steps
no_files_in_takes on zero number = refl
no_files_in_takes on (suc n) number = no_files_in_takes on n (suc number)

pub no_files : (on : ℕ) (codec : List ℕ) (n x : ℕ) → files_after 0 (steps_with on codec n x) ≡ Some 0
no_files on codec n x = no_files_in_chunks on n 0 x (flush_steps on (maker n) ++ take_steps on n (maker n + 2)) ∙ no_files_in_takes on n (maker n + 2)
