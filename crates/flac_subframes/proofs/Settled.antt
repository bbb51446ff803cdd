-- Samples that all are one: no candidate of any order is shorter than a constant.
use Rattle.std.proofs.Common.{ℕ, zero, suc, ℤ, ◌≡◌, ◌<◌, ◌≤◌, ◌+◌, ◌-◌, ◌*◌, ◌/◌, ◌^◌, Bool, true, false, cond, min, List, [], ◌∷◌, length, length-take, length-drop, drop, map, sum_by, refl, ap, sym, ◌∙◌, arith, zero-add}
use Rattle.std.specs.List.{flat_map, filter, range_with_len}
use Rattle.std.proofs.Math.Nat.{mul-le-mul_left, mul-le-mul_right}
use Rattle.std.proofs.lemmas.List.{length-map}
use Rattle.std.proofs.lemmas.List.Sums.{sum_by-append}
use Rattle.flac_definitions.specs.ResidualSpelling.{folded_value}
use Rattle.flac_definitions.specs.Plans.{fits, cost, value_size, best_parameter, part_of, part_bits, plan_bits}
use Rattle.flac_plans.specs.FitLaws.{fits_whole, range_more}
use Rattle.flac_definitions.specs.FixedPredictors.{residuals, folded_residual, are_in_range}
use Rattle.flac_definitions.specs.Candidates.{fixed_candidates, candidate_bits, first_shortest, best_candidate}
use Rattle.flac_subframes.specs.Search.{plain_candidate}
use Rattle.flac_definitions.specs.declared.candidate.Candidate.{Candidate}
use Rattle.flac_definitions.specs.declared.candidate.Candidate.TheVariants.{Constant, Fixed}
use Rattle.flac_subframes.proofs.Ranges.{residual_count}
use Rattle.flac_subframes.proofs.Shortest.{keeps, shortest_none, shortest_next, next_order, start}

sum_more : (f : ℕ → ℕ) (n : ℕ) → sum_by f (range_with_len 0 (n + 1)) ≡ sum_by f (range_with_len 0 n) + f n
sum_more f n = ap (sum_by f) (range_more 0 n n (zero-add n)) ∙ (sum_by-append f (range_with_len 0 n) (n ∷ []) ∙ omega arith)

sums_at_least : (f : ℕ → ℕ) (s n : ℕ) → ((j : ℕ) → j < n → s ≤ f j) → s * n ≤ sum_by f (range_with_len 0 n)
sums_at_least f s zero h = omega arith
sums_at_least f s (suc n) h =
    let count : suc n ≡ n + 1 = omega arith in
    let more : sum_by f (range_with_len 0 (suc n)) ≡ sum_by f (range_with_len 0 n) + f n = ap (λ (k : ℕ). sum_by f (range_with_len 0 k)) count ∙ sum_more f n in
    omega (arith, sums_at_least f s n (λ j l. h j (omega (arith, l))), h n (omega arith), more)

cost_at_least : (k : ℕ) (zs : List ℕ) → length zs ≤ cost k zs
cost_at_least k [] = omega arith
cost_at_least k (z ∷ zs) =
    let e : cost k (z ∷ zs) ≡ value_size k z + cost k zs = sum_by-append (value_size k) (z ∷ []) zs ∙ omega arith in
    omega (arith, e, cost_at_least k zs)

part_count : (size : ℕ) (zs : List ℕ) (j : ℕ) → (j + 1) * size ≤ length zs → length (part_of size 0 zs j) ≡ size
part_count size zs j h =
    let behind = drop (j * size - 0) zs in
    omega (arith, h, length-take ((j + 1) * size - 0 - (j * size - 0)) behind, length-drop (j * size - 0) zs)

-- a value takes a bit at least
plan_at_least : (block p : ℕ) (zs : List ℕ) → length zs ≡ block → fits block 0 p ≡ true → block ≤ plan_bits block 0 zs p
plan_at_least block p zs e fit =
    let s = block / 2 ^ p in
    let w = fits_whole block 0 p fit in
    let each : s * 2 ^ p ≤ sum_by (λ j. part_bits (part_of s 0 zs j)) (range_with_len 0 (2 ^ p)) =
    sums_at_least (λ (j : ℕ). part_bits (part_of s 0 zs j)) s (2 ^ p) (λ j l.
    let part = part_of s 0 zs j in
    let within : (j + 1) * s ≤ 2 ^ p * s = mul-le-mul_right s (omega (arith, l)) in
    omega (arith, part_count s zs j (omega (arith, within, w.0, e)), cost_at_least (best_parameter part) part)) in
    omega (arith, each, w.0)

no_shorter : (depth o p : ℕ) (xs : List ℤ) → depth ≤ length xs → fits (length xs) o p ≡ true → 8 + depth ≤ candidate_bits depth xs (Fixed o p)
no_shorter depth zero p xs long fit =
    let count : length (folded_residual 0 xs) ≡ length xs = length-map (residuals 0 xs) folded_value ∙ (residual_count 0 xs ∙ omega arith) in
    omega (arith, plan_at_least (length xs) p (folded_residual 0 xs) count fit, long)
no_shorter depth (suc o) p xs long fit =
    let more : depth * 1 ≤ depth * suc o = mul-le-mul_left depth (omega arith) in
    omega (arith, more)

-- ---- a first stays where none behind it is shorter

stays_by : (f : Candidate → ℕ) (o p : ℕ) (a : Candidate) (rest : List ℕ) (t : Bool) → (t ≡ true → f a ≤ f (Fixed o p)) → first_shortest f a (map (Fixed o) rest) ≡ a
    → first_shortest f a (map (Fixed o) (cond t (p ∷ rest) rest)) ≡ a
stays_by f o p a rest true h r = shortest_next f a (Fixed o p) (map (Fixed o) rest) ∙ (ap (λ (x : Candidate). first_shortest f x (map (Fixed o) rest)) (keeps f a (Fixed o p) (h refl)) ∙ r)
stays_by f o p a rest false h r = r

stays_each : (f : Candidate → ℕ) (o : ℕ) (test : ℕ → Bool) (a : Candidate) (ps : List ℕ) → ((p : ℕ) → test p ≡ true → f a ≤ f (Fixed o p)) → first_shortest f a (map (Fixed o) (filter test ps)) ≡ a
stays_each f o test a [] h = shortest_none f a
stays_each f o test a (p ∷ ps) h = stays_by f o p a (filter test ps) (test p) (h p) (stays_each f o test a ps h)

stays_if : (f : Candidate → ℕ) (a : Candidate) (ys : List Candidate) (t : Bool) → first_shortest f a ys ≡ a → first_shortest f a (cond t ys []) ≡ a
stays_if f a ys true h = h
stays_if f a ys false h = shortest_none f a

stays : (depth most : ℕ) (xs : List ℤ) (n : ℕ) → depth ≤ length xs → first_shortest (candidate_bits depth xs) Constant (flat_map (fixed_candidates most xs) (range_with_len 0 n)) ≡ Constant
stays depth most xs zero long = shortest_none (candidate_bits depth xs) Constant
stays depth most xs (suc n) long =
    let f = candidate_bits depth xs in
    let g = fixed_candidates most xs in
    let count : suc n ≡ n + 1 = omega arith in
    let here : first_shortest f Constant (g n) ≡ Constant =
    stays_if f Constant (map (Fixed n) (filter (fits (length xs) n) (range_with_len 0 (most + 1)))) (are_in_range (residuals n xs))
    (stays_each f n (fits (length xs) n) Constant (range_with_len 0 (most + 1)) (λ p e. no_shorter depth n p xs long e)) in
    ap (λ (k : ℕ). first_shortest f Constant (flat_map g (range_with_len 0 k))) count
    ∙ (next_order f Constant g n ∙ (ap (λ (x : Candidate). first_shortest f x (g n)) (stays depth most xs n long) ∙ here))

-- the best candidate of samples that all are one, where they are as many as a sample has bits
pub settled : (depth level : ℕ) (xs : List ℤ) → 0 < length xs → depth ≤ length xs → plain_candidate xs ≡ Constant → plain_candidate xs ≡ best_candidate depth level xs
settled depth level xs some long e =
    let f = candidate_bits depth xs in
    let behind = flat_map (fixed_candidates (min level 6) xs) (range_with_len 0 (min level 4 + 1)) in
    e ∙ sym (start depth level xs some ∙ (ap (λ (x : Candidate). first_shortest f x behind) e ∙ stays depth (min level 6) xs (min level 4 + 1) long))
