-- What is written of a residual spells it.
use Rattle.std.proofs.Common.{ℕ, zero, suc, ℤ, ◌≡◌, ◌<◌, ◌≤◌, ◌+◌, ◌-◌, ◌*◌, ◌/◌, ◌^◌, Bool, eqb, ltb, List, [], ◌∷◌, ◌++◌, Some, length, take, drop, map, slice_index, refl, sym, ap, subst, ◌∙◌, arith, append_assoc, take-append-drop, drop-drop, length-take, length-drop}
use Rattle.std.specs.List.{flat_map, range_with_len, All, take-map}
use Rattle.std.proofs.lemmas.Bool.{ne_eqb}
use Rattle.std.proofs.lemmas.Nat.{pow_pos}
use Rattle.std.proofs.lemmas.List.{drop-map, drop_all}
use Rattle.std.proofs.lemmas.List.Elements.{All-take, All-drop}
use Rattle.flac_definitions.specs.Bits.{bits_of}
use Rattle.flac_definitions.specs.Grammar.{IsNumber, IsGiven, IsNothing, InOrder, Either}
use Rattle.flac_definitions.specs.Residual.{can_be_partitioned, parameter_size}
use Rattle.flac_definitions.specs.ResidualSpelling.{folded_value, IsInRange, IsValue, IsSigned, AreEach, IsPartition, ArePartitions, IsPartitioned, IsResidual}
use Rattle.flac_write.specs.SpellingLaws.{in_order, in_order_given, one_of, other_of}
use Rattle.flac_definitions.specs.Plans.{part_of}
use Rattle.flac_definitions.specs.ResidualWriting.{rice_bits, part_spelled, residual_bits}
use Rattle.flac_plans.specs.ResidualLaws.{IsWritable}
use Rattle.flac_plans.specs.FitLaws.{fits_whole}

values_spelled : (k : ℕ) (xs : List ℤ) → All IsInRange xs → AreEach (IsValue k) (length xs) xs (flat_map (rice_bits k) (map folded_value xs))
values_spelled k [] h = (refl, refl)
values_spelled k (x ∷ xs) h =
    in_order (IsValue k) (λ y. InOrder (AreEach (IsValue k) (length xs)) (λ ys. IsGiven (Some (y ∷ ys)))) x (x ∷ xs) (rice_bits k (folded_value x)) (flat_map (rice_bits k) (map folded_value xs))
    (h 0 x (omega arith), refl)
    (in_order_given (AreEach (IsValue k) (length xs)) (λ ys. IsGiven (Some (x ∷ ys))) xs (x ∷ xs) (flat_map (rice_bits k) (map folded_value xs)) (values_spelled k xs (λ j d l. h (suc j) d (omega (arith, l)))) (refl, refl))

part_is_spelled : (k n : ℕ) (xs : List ℤ) → k ≤ 14 → length xs ≡ n → All IsInRange xs → IsPartition 4 n xs (part_spelled k (map folded_value xs))
part_is_spelled k n xs small count h =
    in_order (IsNumber 4) (λ k. Either (eqb k 15) (InOrder (IsNumber 5) (λ width. AreEach (IsSigned width) n)) (AreEach (IsValue k) n)) k xs (bits_of 4 k) (flat_map (rice_bits k) (map folded_value xs))
    (omega (arith, small), refl)
    (other_of (eqb k 15) _ _ xs _ (ne_eqb k 15 (λ e. omega (arith, e, small)))
    (subst (λ (m : ℕ). AreEach (IsValue k) m xs (flat_map (rice_bits k) (map folded_value xs))) count (values_spelled k xs h)))

-- a part of plain values
abbrev values_of_part : ℕ → ℕ → List ℤ → ℕ → List ℤ
values_of_part size order xs j = take ((j + 1) * size - order - (j * size - order)) (drop (j * size - order) xs)

part_folded : (size order : ℕ) (xs : List ℤ) (j : ℕ) → map folded_value (values_of_part size order xs j) ≡ part_of size order (map folded_value xs) j
part_folded size order xs j =
    let b = j * size - order in
    let n = (j + 1) * size - order - b in
    sym (ap (λ (l : List ℕ). take n l) (drop-map folded_value b xs) ∙ take-map folded_value n (drop b xs))

part_there : (size order : ℕ) (xs : List ℤ) (ks : List ℕ) (j n : ℕ) → slice_index ks j ≤ 14 → length (values_of_part size order xs j) ≡ n → All IsInRange xs
    → IsPartition 4 n (values_of_part size order xs j) (part_spelled (slice_index ks j) (part_of size order (map folded_value xs) j))
part_there size order xs ks j n small count h =
    let b = j * size - order in
    subst (λ (zs : List ℕ). IsPartition 4 n (values_of_part size order xs j) (part_spelled (slice_index ks j) zs)) (part_folded size order xs j)
    (part_is_spelled (slice_index ks j) n (values_of_part size order xs j) small count (All-take IsInRange ((j + 1) * size - order - b) (drop b xs) (All-drop IsInRange b xs h)))

some_given : (xs ys : List ℤ) → xs ≡ ys → Some xs ≡ Some ys
some_given xs ys e = ap Some e

parts_spelled : (size order : ℕ) (xs : List ℤ) (ks : List ℕ) (m a : ℕ) → order ≤ a * size → (a + m) * size ≡ length xs + order → ((j : ℕ) → j < a + m → slice_index ks j ≤ 14) → All IsInRange xs
    → ArePartitions 4 size m (drop (a * size - order) xs) (flat_map (λ j. part_spelled (slice_index ks j) (part_of size order (map folded_value xs) j)) (range_with_len a m))
parts_spelled size order xs ks zero a low count small h = (some_given [] (drop (a * size - order) xs) (sym (drop_all (a * size - order) xs (omega (arith, count)))), refl)
parts_spelled size order xs ks (suc m) a low count small h =
    let f : ℕ → List Bool = λ (j : ℕ). part_spelled (slice_index ks j) (part_of size order (map folded_value xs) j) in
    let b = a * size - order in
    let n = (a + 1) * size - order - b in
    let v = drop b xs in
    let rest = drop ((a + 1) * size - order) xs in
    let size_is : n ≡ size = omega (arith, low) in
    let few : b + size ≤ length xs = omega (arith, low, count) in
    let long : length (take n v) ≡ size = omega (arith, length-take n v, length-drop b xs, few, size_is) in
    let place : (a + 1) * size - order ≡ n + b = omega (arith, low) in
    let behind : drop n v ≡ rest = drop-drop n b xs ∙ ap (λ (k : ℕ). drop k xs) (let e : b + n ≡ (a + 1) * size - order = omega (arith, low) in e) in
    let whole : take n v ++ rest ≡ v = ap (λ (l : List ℤ). take n v ++ l) (sym behind) ∙ take-append-drop n v in
    in_order (IsPartition 4 size) (λ ys. InOrder (ArePartitions 4 size m) (λ zs. IsGiven (Some (ys ++ zs)))) (take n v) v (f a) (flat_map f (range_with_len (a + 1) m))
    (part_there size order xs ks a size (small a (omega arith)) long h)
    (in_order_given (ArePartitions 4 size m) (λ zs. IsGiven (Some (take n v ++ zs))) rest v (flat_map f (range_with_len (a + 1) m))
    (parts_spelled size order xs ks m (a + 1) (omega (arith, low)) (ap (λ (k : ℕ). k * size) (let e : a + 1 + m ≡ a + suc m = omega arith in e) ∙ count) (λ j l. small j (omega (arith, l))) h)
    (some_given (take n v ++ rest) v whole, refl))

partitioned : (block order p parts : ℕ) (xs : List ℤ) (ks : List ℕ) → 2 ^ p ≡ suc parts → IsWritable block order p xs ks
    → IsPartitioned 4 block order p xs (flat_map (λ j. part_spelled (slice_index ks j) (part_of (block / 2 ^ p) order (map folded_value xs) j)) (range_with_len 0 (2 ^ p)))
partitioned block order p parts xs ks power w =
    let size = block / 2 ^ p in
    let f : ℕ → List Bool = λ (j : ℕ). part_spelled (slice_index ks j) (part_of size order (map folded_value xs) j) in
    let whole = fits_whole block order p w.fitting in
    let total : (1 + parts) * size ≡ length xs + order = ap (λ (k : ℕ). k * size) (let e : 1 + parts ≡ 2 ^ p = omega (arith, power) in e) ∙ omega (arith, whole.0, w.count) in
    let first = values_of_part size order xs 0 in
    let b : 0 * size - order ≡ 0 = omega arith in
    let e : (0 + 1) * size - order ≡ size - order = omega arith in
    let rest = drop (1 * size - order) xs in
    let few : size - order ≤ length xs = omega (arith, total, whole.1) in
    let front : first ≡ take (size - order) xs = ap (λ (k : ℕ). take ((0 + 1) * size - order - k) (drop k xs)) b ∙ ap (λ (k : ℕ). take k xs) (let s : (0 + 1) * size - order - 0 ≡ size - order = omega arith in s) in
    let behind : rest ≡ drop (size - order) xs = ap (λ (k : ℕ). drop k xs) (let s : 1 * size - order ≡ size - order = omega arith in s) in
    let long : length first ≡ size - order = ap (λ (l : List ℤ). length l) front ∙ omega (arith, length-take (size - order) xs, few) in
    let all : first ++ rest ≡ xs = ap (λ (l : List ℤ). l ++ rest) front ∙ (ap (λ (l : List ℤ). take (size - order) xs ++ l) behind ∙ take-append-drop (size - order) xs) in
    let bits : f 0 ++ flat_map f (range_with_len 1 parts) ≡ flat_map f (range_with_len 0 (2 ^ p)) = ap (λ (k : ℕ). flat_map f (range_with_len 0 k)) (sym power) in
    one_of (can_be_partitioned block order p) _ IsNothing xs _ w.fitting
    (subst (λ (l : List Bool). InOrder (IsPartition 4 (size - order)) (λ ys. InOrder (ArePartitions 4 size (2 ^ p - 1)) (λ zs. IsGiven (Some (ys ++ zs)))) xs l) bits
    (in_order (IsPartition 4 (size - order)) (λ ys. InOrder (ArePartitions 4 size (2 ^ p - 1)) (λ zs. IsGiven (Some (ys ++ zs)))) first xs (f 0) (flat_map f (range_with_len 1 parts))
    (part_there size order xs ks 0 (size - order) (w.small 0 (pow_pos p)) long w.range)
    (in_order_given (ArePartitions 4 size (2 ^ p - 1)) (λ zs. IsGiven (Some (first ++ zs))) rest xs (flat_map f (range_with_len 1 parts))
    (subst (λ (m : ℕ). ArePartitions 4 size m rest (flat_map f (range_with_len 1 parts))) (let s : parts ≡ 2 ^ p - 1 = omega (arith, power) in s)
    (parts_spelled size order xs ks parts 1 (omega (arith, whole.1)) total (λ j l. w.small j (omega (arith, l, power))) w.range))
    (some_given (first ++ rest) xs all, refl))))

partitioned_somehow : (block order p n : ℕ) (xs : List ℤ) (ks : List ℕ) → 2 ^ p ≡ n → 0 < n → IsWritable block order p xs ks
    → IsPartitioned 4 block order p xs (flat_map (λ j. part_spelled (slice_index ks j) (part_of (block / 2 ^ p) order (map folded_value xs) j)) (range_with_len 0 (2 ^ p)))
partitioned_somehow block order p zero xs ks e some w = absurd (omega (arith, some))
partitioned_somehow block order p (suc n) xs ks e some w = partitioned block order p n xs ks e w

pub residual_spelled : (block order p : ℕ) (xs : List ℤ) (ks : List ℕ) → IsWritable block order p xs ks → IsResidual block order xs (residual_bits block order (map folded_value xs) p ks)
residual_spelled block order p xs ks w =
    let parts = flat_map (λ j. part_spelled (slice_index ks j) (part_of (block / 2 ^ p) order (map folded_value xs) j)) (range_with_len 0 (2 ^ p)) in
    subst (λ (l : List Bool). IsResidual block order xs l) (sym (append_assoc (bits_of 2 0) (bits_of 4 p) parts))
    (in_order (IsNumber 2) (λ method. Either (ltb method 2) (InOrder (IsNumber 4) (λ parts. IsPartitioned (parameter_size method) block order parts)) IsNothing) 0 xs (bits_of 2 0) (bits_of 4 p ++ parts) (omega arith, refl)
    (in_order (IsNumber 4) (λ parts. IsPartitioned 4 block order parts) p xs (bits_of 4 p) parts (omega (arith, w.partition), refl)
    (partitioned_somehow block order p (2 ^ p) xs ks refl (pow_pos p) w)))
