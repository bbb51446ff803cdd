-- The first of least length, part by part.
use Rattle.std.proofs.Common.{ℕ, zero, suc, ℤ, pos, ◌≡◌, ◌<◌, ◌≤◌, ◌+◌, ◌*◌, ◌/◌, ◌%◌, ◌^◌, ◌&&◌, Bool, true, false, cond, eqb, ltb, min, List, [], ◌∷◌, ◌++◌, length, map, inl, inr, refl, ap, sym, subst, ◌∙◌, arith, append-nil, zero-add}
use Rattle.std.specs.List.{flat_map, filter, range_with_len}
use Rattle.std.proofs.Math.Nat.{div-le_self, mul-le-mul_left}
use Rattle.std.proofs.lemmas.Bool.{cases_lt, lt-ltb, le-ltb}
use Rattle.std.proofs.lemmas.List.{map-append}
use Rattle.std.proofs.lemmas.List.Concat.{flat_map-append}
use Rattle.flac_definitions.specs.Plans.{fits, finest, plan_bits, best_partition, first_least, IsPlan, IsUsable}
use Rattle.flac_plans.specs.FitLaws.{fitting_orders, range_more}
use Rattle.flac_definitions.specs.FixedPredictors.{at, residuals, folded_residual, are_in_range}
use Rattle.flac_definitions.specs.Candidates.{are_all, is_constant, fixed_candidates, candidate_bits, shorter, first_shortest, shortest_of, best_candidate, IsChoice}
use Rattle.flac_subframes.specs.Search.{plain_candidate}
use Rattle.flac_definitions.specs.declared.candidate.Candidate.{Candidate}
use Rattle.flac_definitions.specs.declared.candidate.Choice.{Choice}
use Rattle.std.specs.Ordering.{int_eq}
use Rattle.std.proofs.Common.{drop, drop-cons, add-one}
use Rattle.flac_definitions.specs.declared.candidate.Candidate.TheVariants.{Constant, Verbatim, Fixed}

pub takes : {A : Type 0} (f : A → ℕ) (a b : A) → f b < f a → shorter f a b ≡ b
takes f a b h = ap (λ (t : Bool). cond t b a) (lt-ltb (f b) (f a) h)

pub keeps : {A : Type 0} (f : A → ℕ) (a b : A) → f a ≤ f b → shorter f a b ≡ a
keeps f a b h = ap (λ (t : Bool). cond t b a) (le-ltb (f b) (f a) h)

pub shorter_assoc : {A : Type 0} (f : A → ℕ) (a b c : A) → shorter f (shorter f a b) c ≡ shorter f a (shorter f b c)
shorter_assoc {A} f a b c = elim (cases_lt (f b) (f a)) [
  | inl l ↦ (elim (cases_lt (f c) (f b)) [
    | inl m ↦ ap (λ (x : A). shorter f x c) (takes f a b l) ∙ (takes f b c m ∙ sym (ap (shorter f a) (takes f b c m) ∙ takes f a c (omega (arith, l, m))))
    | inr n ↦ ap (λ (x : A). shorter f x c) (takes f a b l) ∙ (keeps f b c n ∙ sym (ap (shorter f a) (keeps f b c n) ∙ takes f a b l))
  ])
  | inr g ↦ (elim (cases_lt (f c) (f b)) [
    | inl m ↦ ap (λ (x : A). shorter f x c) (keeps f a b g) ∙ sym (ap (shorter f a) (takes f b c m))
    | inr n ↦ ap (λ (x : A). shorter f x c) (keeps f a b g) ∙ (keeps f a c (omega (arith, g, n)) ∙ sym (ap (shorter f a) (keeps f b c n) ∙ keeps f a b g))
  ])
]

pub shortest_none : {A : Type 0} (f : A → ℕ) (a : A) → first_shortest f a [] ≡ a
unfolding first_shortest
shortest_none f a = refl

pub shortest_next : {A : Type 0} (f : A → ℕ) (a b : A) (bs : List A) → first_shortest f a (b ∷ bs) ≡ first_shortest f (shorter f a b) bs
unfolding first_shortest
shortest_next f a b bs = refl

pub shortest-append : {A : Type 0} (f : A → ℕ) (a : A) (xs ys : List A) → first_shortest f a (xs ++ ys) ≡ first_shortest f (first_shortest f a xs) ys
unfolding first_shortest
shortest-append f a [] ys = refl
shortest-append f a (x ∷ xs) ys = shortest-append f (shorter f a x) xs ys

least_zero : (g : ℕ → ℕ) → first_least g 0 ≡ 0
unfolding first_least
least_zero g = refl

least_next : (g : ℕ → ℕ) (n : ℕ) → first_least g (suc n) ≡ cond (ltb (g (suc n)) (g (first_least g n))) (suc n) (first_least g n)
unfolding first_least
least_next g n = refl

-- the shorter of two partition orders
two_orders : (f : Candidate → ℕ) (g : ℕ → ℕ) (head o m k : ℕ) → ((p : ℕ) → f (Fixed o p) ≡ head + g p) → shorter f (Fixed o m) (Fixed o k) ≡ Fixed o (cond (ltb (g k) (g m)) k m)
two_orders f g head o m k is = elim (cases_lt (g k) (g m)) [
  | inl l ↦ takes f (Fixed o m) (Fixed o k) (omega (arith, l, is m, is k)) ∙ sym (ap (λ (t : Bool). Fixed o (cond t k m)) (lt-ltb (g k) (g m) l))
  | inr n ↦ keeps f (Fixed o m) (Fixed o k) (omega (arith, n, is m, is k)) ∙ sym (ap (λ (t : Bool). Fixed o (cond t k m)) (le-ltb (g k) (g m) n))
]

pub shortest_order : (f : Candidate → ℕ) (g : ℕ → ℕ) (head o : ℕ) (a : Candidate) (n : ℕ) → ((p : ℕ) → f (Fixed o p) ≡ head + g p)
    → first_shortest f a (map (Fixed o) (range_with_len 0 (n + 1))) ≡ shorter f a (Fixed o (first_least g n))
shortest_order f g head o a zero is =
    shortest_next f a (Fixed o 0) [] ∙ (shortest_none f (shorter f a (Fixed o 0)) ∙ ap (λ (k : ℕ). shorter f a (Fixed o k)) (sym (least_zero g)))
shortest_order f g head o a (suc n) is =
    let m = first_least g n in
    let here : range_with_len 0 (suc n + 1) ≡ range_with_len 0 (n + 1) ++ suc n ∷ [] = range_more 0 (suc n) (suc n) (zero-add (suc n)) ∙ ap (λ (k : ℕ). range_with_len 0 k ++ suc n ∷ []) (let s : suc n ≡ n + 1 = omega arith in s) in
    let split : map (Fixed o) (range_with_len 0 (suc n + 1)) ≡ map (Fixed o) (range_with_len 0 (n + 1)) ++ Fixed o (suc n) ∷ [] = ap (map (Fixed o)) here ∙ map-append (Fixed o) (range_with_len 0 (n + 1)) (suc n ∷ []) in
    ap (first_shortest f a) split
    ∙ (shortest-append f a (map (Fixed o) (range_with_len 0 (n + 1))) (Fixed o (suc n) ∷ [])
    ∙ (ap (λ (x : Candidate). first_shortest f x (Fixed o (suc n) ∷ [])) (shortest_order f g head o a n is)
    ∙ (shortest_next f (shorter f a (Fixed o m)) (Fixed o (suc n)) [] ∙ (shortest_none f (shorter f (shorter f a (Fixed o m)) (Fixed o (suc n)))
    ∙ (shorter_assoc f a (Fixed o m) (Fixed o (suc n)) ∙ (ap (shorter f a) (two_orders f g head o m (suc n) is) ∙ ap (λ (k : ℕ). shorter f a (Fixed o k)) (sym (least_next g n))))))))

-- the candidates of one order
pub order_in_range : (depth : ℕ) (xs : List ℤ) (most o : ℕ) (a : Candidate) → o < length xs → are_in_range (residuals o xs) ≡ true
    → first_shortest (candidate_bits depth xs) a (fixed_candidates most xs o) ≡ shorter (candidate_bits depth xs) a (Fixed o (best_partition (length xs) o most (folded_residual o xs)))
order_in_range depth xs most o a some range =
    let f = candidate_bits depth xs in
    let kept : fixed_candidates most xs o ≡ map (Fixed o) (range_with_len 0 (finest (length xs) o most + 1)) =
    ap (λ (t : Bool). cond t (map (Fixed o) (filter (fits (length xs) o) (range_with_len 0 (most + 1)))) []) range ∙ ap (map (Fixed o)) (fitting_orders (length xs) o most some) in
    ap (first_shortest f a) kept ∙ shortest_order f (plan_bits (length xs) o (folded_residual o xs)) (8 + depth * o) o a (finest (length xs) o most) (λ p. refl)

pub order_out_of_range : (depth : ℕ) (xs : List ℤ) (most o : ℕ) (a : Candidate) → are_in_range (residuals o xs) ≡ false → first_shortest (candidate_bits depth xs) a (fixed_candidates most xs o) ≡ a
order_out_of_range depth xs most o a range =
    let f = candidate_bits depth xs in
    ap (λ (t : Bool). first_shortest f a (cond t (map (Fixed o) (filter (fits (length xs) o) (range_with_len 0 (most + 1)))) [])) range ∙ shortest_none f a

none_kept : (test : ℕ → Bool) (ns : List ℕ) → ((n : ℕ) → test n ≡ false) → filter test ns ≡ []
none_kept test [] h = refl
none_kept test (n ∷ ns) h = ap (λ (t : Bool). cond t (n ∷ filter test ns) (filter test ns)) (h n) ∙ none_kept test ns h

and_false : (t : Bool) → (t && false) ≡ false
and_false true = refl
and_false false = refl

none_fits : (block order p : ℕ) → block ≤ order → fits block order p ≡ false
none_fits block order p h =
    let size : block / 2 ^ p ≤ block = div-le_self block (2 ^ p) in
    ap (λ (t : Bool). eqb (block % 2 ^ p) 0 && t) (le-ltb order (block / 2 ^ p) (omega (arith, size, h))) ∙ and_false (eqb (block % 2 ^ p) 0)

no_choice : (t : Bool) (ns : List Candidate) → ns ≡ [] → cond t ns [] ≡ []
no_choice true ns e = e
no_choice false ns e = refl

pub order_too_large : (depth : ℕ) (xs : List ℤ) (most o : ℕ) (a : Candidate) → length xs ≤ o → first_shortest (candidate_bits depth xs) a (fixed_candidates most xs o) ≡ a
order_too_large depth xs most o a h =
    let f = candidate_bits depth xs in
    let none : filter (fits (length xs) o) (range_with_len 0 (most + 1)) ≡ [] = none_kept (fits (length xs) o) (range_with_len 0 (most + 1)) (λ p. none_fits (length xs) o p h) in
    ap (first_shortest f a) (no_choice (are_in_range (residuals o xs)) (map (Fixed o) (filter (fits (length xs) o) (range_with_len 0 (most + 1)))) (ap (map (Fixed o)) none)) ∙ shortest_none f a

-- one more order
pub next_order : (f : Candidate → ℕ) (a : Candidate) (g : ℕ → List Candidate) (n : ℕ) → first_shortest f a (flat_map g (range_with_len 0 (n + 1))) ≡ first_shortest f (first_shortest f a (flat_map g (range_with_len 0 n))) (g n)
next_order f a g n =
    ap (λ (l : List ℕ). first_shortest f a (flat_map g l)) (range_more 0 n n (zero-add n))
    ∙ (ap (first_shortest f a) (flat_map-append g (range_with_len 0 n) (n ∷ []) ∙ ap (λ (l : List Candidate). flat_map g (range_with_len 0 n) ++ l) (append-nil (g n)))
    ∙ shortest-append f a (flat_map g (range_with_len 0 n)) (g n))

-- before all orders: a constant is no longer than verbatim
start_by : (depth : ℕ) (xs : List ℤ) (t : Bool) (rest : List Candidate) → 0 < length xs
    → shortest_of (candidate_bits depth xs) (cond t (Constant ∷ []) [] ++ Verbatim ∷ rest) ≡ first_shortest (candidate_bits depth xs) (cond t Constant Verbatim) rest
start_by depth xs true rest some =
    let f = candidate_bits depth xs in
    let less : depth * 1 ≤ depth * length xs = mul-le-mul_left depth some in
    shortest_next f Constant Verbatim rest ∙ ap (λ (x : Candidate). first_shortest f x rest) (keeps f Constant Verbatim (omega (arith, less)))
start_by depth xs false rest some = refl

pub start : (depth level : ℕ) (xs : List ℤ) → 0 < length xs
    → best_candidate depth level xs ≡ first_shortest (candidate_bits depth xs) (plain_candidate xs) (flat_map (fixed_candidates (min level 6) xs) (range_with_len 0 (min level 4 + 1)))
start depth level xs some = start_by depth xs (is_constant xs) (flat_map (fixed_candidates (min level 6) xs) (range_with_len 0 (min level 4 + 1))) some

-- ---- samples that are one

rest_here : (xs : List ℤ) (i : ℕ) → i < length xs → drop i xs ≡ at xs i ∷ drop (i + 1) xs
rest_here xs i h = rw add-one (drop-cons xs i (pos 0) h)

pub same_so_far : (first : ℤ) (xs : List ℤ) (i : ℕ) (t : Bool) → i < length xs → t ≡ int_eq (at xs i) first → t ≡ true → are_all first (drop i xs) ≡ are_all first (drop (i + 1) xs)
same_so_far first xs i t h e f = ap (are_all first) (rest_here xs i h) ∙ ap (λ (s : Bool). cond s (are_all first (drop (i + 1) xs)) false) (sym e ∙ f)

pub another : (first : ℤ) (xs : List ℤ) (i : ℕ) (t : Bool) → i < length xs → t ≡ int_eq (at xs i) first → t ≡ false → are_all first (drop i xs) ≡ false
another first xs i t h e f = ap (are_all first) (rest_here xs i h) ∙ ap (λ (s : Bool). cond s (are_all first (drop (i + 1) xs)) false) (sym e ∙ f)

-- ---- choices

pub choice_as : (depth : ℕ) (xs : List ℤ) (a b : Candidate) (choice : Choice) → a ≡ b → IsChoice depth xs a choice → IsChoice depth xs b choice
choice_as depth xs a b choice e h = subst (λ (x : Candidate). IsChoice depth xs x choice) e h

pub own_choice : (depth : ℕ) (xs : List ℤ) (a : Candidate) (choice : Choice) → IsChoice depth xs a choice → IsChoice depth xs choice.candidate choice
own_choice depth xs a choice h = choice_as depth xs a choice.candidate choice (sym h.candidate_is) h

pub kept_choice : (depth : ℕ) (xs : List ℤ) (other : Candidate) (best : Choice) → IsChoice depth xs best.candidate best → best.bits ≤ candidate_bits depth xs other
    → IsChoice depth xs (shorter (candidate_bits depth xs) best.candidate other) best
kept_choice depth xs other best h more =
    choice_as depth xs best.candidate (shorter (candidate_bits depth xs) best.candidate other) best (sym (keeps (candidate_bits depth xs) best.candidate other (omega (arith, more, h.bits)))) h

pub shorter_choice : (depth : ℕ) (xs : List ℤ) (other : Candidate) (best choice result : Choice) → IsChoice depth xs best.candidate best → IsChoice depth xs other choice
    → (best.bits ≤ choice.bits → result ≡ best) → (choice.bits < best.bits → result ≡ choice) → IsChoice depth xs (shorter (candidate_bits depth xs) best.candidate other) result
shorter_choice depth xs other best choice result h k first second = elim (cases_lt choice.bits best.bits) [
  | inl l ↦ subst (λ (x : Choice). IsChoice depth xs (shorter (candidate_bits depth xs) best.candidate other) x) (sym (second l))
      (choice_as depth xs other (shorter (candidate_bits depth xs) best.candidate other) choice (sym (takes (candidate_bits depth xs) best.candidate other (omega (arith, l, h.bits, k.bits)))) k)
  | inr g ↦ subst (λ (x : Choice). IsChoice depth xs (shorter (candidate_bits depth xs) best.candidate other) x) (sym (first g)) (kept_choice depth xs other best h (omega (arith, g, k.bits)))
]

-- the choice of an order with its plan
pub order_choice : (depth : ℕ) (xs : List ℤ) (o p : ℕ) (choice : Choice) → o ≤ 4 → o < length xs → are_in_range (residuals o xs) ≡ true → IsPlan (length xs) o (folded_residual o xs) p choice.plan → IsUsable (length xs) o choice.plan
    → choice.candidate ≡ Fixed o choice.plan.partition → choice.bits ≡ 8 + depth * o + choice.plan.bits → choice.bits < 2 ^ 63 + 2 ^ 32 → IsChoice depth xs (Fixed o p) choice
order_choice depth xs o p choice few some range plan usable is bits small = record {
  candidate_is = is ∙ ap (Fixed o) plan.partition;
  bits = bits ∙ ap (λ (n : ℕ). 8 + depth * o + n) plan.bits;
  small = small;
  plan = (few, some, range, plan, usable);
}

pub next_choice : (depth : ℕ) (xs : List ℤ) (most m o : ℕ) (a before : Candidate) (choice : Choice) → before ≡ first_shortest (candidate_bits depth xs) a (flat_map (fixed_candidates most xs) (range_with_len 0 o)) → m ≡ most
    → IsChoice depth xs (first_shortest (candidate_bits depth xs) before (fixed_candidates m xs o)) choice → IsChoice depth xs (first_shortest (candidate_bits depth xs) a (flat_map (fixed_candidates most xs) (range_with_len 0 (o + 1)))) choice
next_choice depth xs most m o a before choice e s h =
    let f = candidate_bits depth xs in
    choice_as depth xs (first_shortest f before (fixed_candidates m xs o)) (first_shortest f a (flat_map (fixed_candidates most xs) (range_with_len 0 (o + 1)))) choice
    (ap (λ (k : ℕ). first_shortest f before (fixed_candidates k xs o)) s ∙ (ap (λ (x : Candidate). first_shortest f x (fixed_candidates most xs o)) e ∙ sym (next_order f a (fixed_candidates most xs) o))) h

-- the orders behind the plain candidate
pub whole_search : (depth level : ℕ) (xs : List ℤ) (most last : ℕ) (before : Candidate) → 0 < length xs → before ≡ plain_candidate xs → most ≡ min level 6 → last ≡ min level 4
    → first_shortest (candidate_bits depth xs) before (flat_map (fixed_candidates most xs) (range_with_len 0 (last + 1))) ≡ best_candidate depth level xs
whole_search depth level xs most last before some e m l =
    let f = candidate_bits depth xs in
    ap (λ (x : Candidate). first_shortest f x (flat_map (fixed_candidates most xs) (range_with_len 0 (last + 1)))) e
    ∙ (ap (λ (k : ℕ). first_shortest f (plain_candidate xs) (flat_map (fixed_candidates k xs) (range_with_len 0 (last + 1)))) m
    ∙ (ap (λ (k : ℕ). first_shortest f (plain_candidate xs) (flat_map (fixed_candidates (min level 6) xs) (range_with_len 0 (k + 1)))) l ∙ sym (start depth level xs some)))
