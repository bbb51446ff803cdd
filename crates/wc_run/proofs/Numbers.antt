-- The numbers in callers' entries of the pool are those of their deeds.
use Rattle.std.proofs.Common.{◌≡◌, List, [], ◌∷◌, map, Option, Some, None, refl, ap, sym, subst, ◌∙◌}
use Rattle.std.specs.Prelude.{option_and_then}
use Rattle.wc_base.specs.declared.who.Who.{Who}
use Rattle.wc_pool.specs.declared.entry.PoolOp.{PoolOp}
use Rattle.wc_pool.specs.declared.entry.PoolOp.TheVariants as op
use Rattle.script_types.specs.declared.steps.MediaStep.{MediaStep}
use Rattle.media_variables.specs.Variables.{Medium, Numbers, Brought, media_came}
use Rattle.media_variables.specs.CameLaws.{HasNumbers, does_of, came_by_numbers}
use Rattle.media_accounts.specs.Accounts.{done_by, numbers_in, numbers_of, without_last}

its_numbers : (o : PoolOp) (os : List PoolOp) → HasNumbers (numbers_in o) (o ∷ os)
its_numbers (op.Make r f) os = (refl, refl)
its_numbers (op.Clone r f) os = refl
its_numbers (op.End r f last) os = tt

flag_aside : (o : PoolOp) → numbers_in (without_last o) ≡ numbers_in o
flag_aside (op.Make r f) = refl
flag_aside (op.Clone r f) = refl
flag_aside (op.End r f last) = refl

head_same : (a b : PoolOp) (l m : List PoolOp) → a ∷ l ≡ b ∷ m → a ≡ b
head_same a b l m is = cc

-- what a step did has the numbers of what it calls for
pub has_numbers : (os does : List PoolOp) → map without_last os ≡ map without_last does → HasNumbers (numbers_of os) does
has_numbers os [] same = tt
has_numbers [] (a ∷ does) same = absurd cc
has_numbers (b ∷ bs) (a ∷ does) same =
    let head : without_last b ≡ without_last a = head_same (without_last b) (without_last a) (map without_last bs) (map without_last does) same in
    let numbers : numbers_in a ≡ numbers_in b = sym (flag_aside a) ∙ (ap numbers_in (sym head) ∙ flag_aside b) in
    subst (λ (n : Numbers). HasNumbers n (a ∷ does)) numbers (its_numbers a does)

-- a step comes to the same with the numbers in what it did
pub came_told : (n : Numbers) (who : Who) (given : MediaStep → Brought) (o : Option MediaStep) (vs : List (Option Medium)) (os : List PoolOp)
    → map without_last os ≡ map without_last (done_by (option_and_then (λ x. media_came n who (given x) x vs) o)) → option_and_then (λ x. media_came (numbers_of os) who (given x) x vs) o ≡ option_and_then (λ x. media_came n who (given x) x vs) o
came_told n who given None vs os same = refl
came_told n who given (Some x) vs os same = came_by_numbers who (given x) x vs n (numbers_of os) (has_numbers os (does_of (media_came n who (given x) x vs)) same)
