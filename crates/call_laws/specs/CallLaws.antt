-- From one bag of calls over all codecs to each codec's calls.
use Rattle.std.proofs.Common.{ℕ, zero, suc, ◌+◌, ◌≡◌, ◌≢◌, ◌<◌, ◌==◌, Bool, true, false, cond, List, [], ◌∷◌, map, Some, refl, ap, sym, subst, ◌∙◌, arith, eq-eqb}
use Rattle.std.specs.List.{sum_by}
use Rattle.std.proofs.lemmas.Bool.{ne_eqb}
use Rattle.std.proofs.lemmas.List.Sums.{sum_by-cons}
use Rattle.wc_base.specs.declared.who.Who.{Who}
use Rattle.wc_chunk.specs.declared.chunk.Chunk.{Chunk}
use Rattle.codec_model.specs.declared.entry.Call.{Call}
use Rattle.codec_model.specs.declared.entry.Entry.{Entry}
use Rattle.codec_model.specs.declared.entry.Entry.TheVariants as entry
use Rattle.codec_accounts.specs.BagsLaws.{weigh_append}
use Rattle.codec_accounts.specs.Owed.{at}
use Rattle.codec_accounts.specs.Calls.{Mark, Call as CallMark, Look as LookMark, Local, call_in, calls_on, all_calls, named}
use Rattle.script_types.specs.declared.script.ScriptData.{ScriptData}
use Rattle.run_model.specs.Recorded.{Recorded}
use Rattle.run_model.specs.Fits.{marks_of, variables_at, HasArguments, CallsAreIn, ArgumentsAreIn}
use Rattle.run_model.specs.FitsLaws.{calls_by_places}
use Rattle.call_laws.specs.Callers.{all_named, told_by, told_of, all_told, CallersAnswer}

-- ---- weights of one codec's calls

abbrev only_of : (ℕ × Who → ℕ) → ℕ → ℕ × (ℕ × Who) → ℕ
only_of t k x = cond (x.0 == k) (t x.1) 0

here_weighs : (t : ℕ × Who → ℕ) (k : ℕ) (l : List (ℕ × Who)) → sum_by (only_of t k) (map (λ x. (k, x)) l) ≡ sum_by t l
here_weighs t k [] = refl
here_weighs t k (x ∷ xs) =
    let rest = here_weighs t k xs in
    let a = sum_by-cons (only_of t k) (k, x) (map (λ x. (k, x)) xs) in
    let b = sum_by-cons t x xs in
    let one = ap (λ (c : Bool). cond c (t x) 0) (eq-eqb k k refl) in
    omega (arith, rest, a, b, one)

other_weighs : (t : ℕ × Who → ℕ) (k n : ℕ) (l : List (ℕ × Who)) → n ≢ k → sum_by (only_of t k) (map (λ x. (n, x)) l) ≡ 0
other_weighs t k n [] other = refl
other_weighs t k n (x ∷ xs) other =
    let rest = other_weighs t k n xs other in
    let a = sum_by-cons (only_of t k) (n, x) (map (λ x. (n, x)) xs) in
    let one = ap (λ (c : Bool). cond c (t x) 0) (ne_eqb n k other) in
    omega (arith, rest, a, one)

none_before : (t : ℕ × Who → ℕ) (k first : ℕ) (hs : List (List Entry)) → k < first → sum_by (only_of t k) (all_named first hs) ≡ 0
none_before t k first [] lt = refl
none_before t k first (h ∷ hs) lt =
    let rest = none_before t k (suc first) hs (omega (arith, lt)) in
    let split = weigh_append (only_of t k) (map (λ x. (first, x)) (named h)) (all_named (suc first) hs) in
    let one = other_weighs t k first (named h) (λ same. omega (arith, lt, same)) in
    omega (arith, rest, split, one)

named_weighs : (t : ℕ × Who → ℕ) (k first i : ℕ) (hs : List (List Entry)) → k ≡ first + i → sum_by (only_of t k) (all_named first hs) ≡ sum_by t (named (at i hs))
named_weighs t k first i [] is = refl
named_weighs t k first zero (h ∷ hs) is =
    let here : first ≡ k = omega (arith, is) in
    let rest = none_before t k (suc first) hs (omega (arith, is)) in
    let split = weigh_append (only_of t k) (map (λ x. (first, x)) (named h)) (all_named (suc first) hs) in
    let one = subst (λ (n : ℕ). sum_by (only_of t k) (map (λ x. (n, x)) (named h)) ≡ sum_by t (named h)) (sym here) (here_weighs t k (named h)) in
    omega (arith, rest, split, one)
named_weighs t k first (suc i) (h ∷ hs) is =
    let rest = named_weighs t k (suc first) i hs (omega (arith, is)) in
    let split = weigh_append (only_of t k) (map (λ x. (first, x)) (named h)) (all_named (suc first) hs) in
    let one = other_weighs t k first (named h) (λ same. omega (arith, is, same)) in
    omega (arith, rest, split, one)

one_told : (t : ℕ × Who → ℕ) (k : ℕ) (who : Who) (m : Mark) → sum_by (only_of t k) (told_by who m) ≡ sum_by t (call_in k who m)
one_told t k who (CallMark on p) = cases (on == k) refl
  where
    cases : (b : Bool) → (on == k) ≡ b → sum_by (only_of t k) ((on, (p, who)) ∷ []) ≡ sum_by t (cond b ((p, who) ∷ []) [])
    cases true is =
        let a = sum_by-cons (only_of t k) (on, (p, who)) [] in
        let b = sum_by-cons t (p, who) [] in
        let one = ap (λ (c : Bool). cond c (t (p, who)) 0) is in
        omega (arith, a, b, one)
    cases false is =
        let a = sum_by-cons (only_of t k) (on, (p, who)) [] in
        let one = ap (λ (c : Bool). cond c (t (p, who)) 0) is in
        omega (arith, a, one)
one_told t k who (LookMark on n) = refl
one_told t k who Local = refl

told_weighs : (t : ℕ × Who → ℕ) (k c j : ℕ) (rs : List Mark) → sum_by (only_of t k) (told_of c j rs) ≡ sum_by t (calls_on k c j rs)
told_weighs t k c j [] = refl
told_weighs t k c j (r ∷ rs) =
    let who : Who = record { caller = c; step = j } in
    let rest = told_weighs t k c (suc j) rs in
    let one = one_told t k who r in
    let a = weigh_append (only_of t k) (told_by who r) (told_of c (suc j) rs) in
    let b = weigh_append t (call_in k who r) (calls_on k c (suc j) rs) in
    omega (arith, rest, one, a, b)

all_weighs : (t : ℕ × Who → ℕ) (k c : ℕ) (rss : List (List Mark)) → sum_by (only_of t k) (all_told c rss) ≡ sum_by t (all_calls k c rss)
all_weighs t k c [] = refl
all_weighs t k c (rs ∷ rest) =
    let more = all_weighs t k (suc c) rest in
    let one = told_weighs t k c 0 rs in
    let a = weigh_append (only_of t k) (told_of c 0 rs) (all_told (suc c) rest) in
    let b = weigh_append t (calls_on k c 0 rs) (all_calls k (suc c) rest) in
    omega (arith, more, one, a, b)

-- ---- calls and arguments

pub calls_are_in : (s : ScriptData) (media : List (List Chunk)) (w : Recorded) → CallersAnswer s media w → CallsAreIn s w
calls_are_in s media w all = record {
  made = all.made;
  once = λ k t. (sym (named_weighs t k 0 k w.codecs (omega arith)) ∙ (all.calls (only_of t k) ∙ all_weighs t k 0 (marks_of w)));
}

some_call : (who : Who) (a b : Call) → Some (entry.Call who a) ≡ Some (entry.Call who b) → a ≡ b
some_call who a b h = cc

pub arguments_are_in : (s : ScriptData) (media : List (List Chunk)) (w : Recorded) → CallersAnswer s media w → ArgumentsAreIn s media w
arguments_are_in s media w all k p who x is =
    let there = (calls_by_places s w (calls_are_in s media w all)).only k p who x is in
    let given = all.given who.caller who.step k p there.0 there.1 there.2 in
    let same : given.call ≡ x = some_call who given.call x (sym given.stands ∙ is) in
    (given.step, given.step_is, subst (λ (c : Call). HasArguments s media (variables_at s media w who.caller who.step) who.caller c given.step) same given.given)
