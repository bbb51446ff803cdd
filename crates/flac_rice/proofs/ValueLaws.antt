-- How values are read one after another.
use Rattle.std.proofs.Common.{◌≡◌, ℕ, suc, ℤ, ◌+◌, ◌-◌, ◌*◌, ◌/◌, ◌%◌, ◌^◌, ◌<◌, ◌≤◌, Bool, true, false, cond, List, [], ◌∷◌, ◌++◌, length, take, drop, set, Option, Some, Result, Ok, Err, refl, sym, ap, subst, ◌∙◌, arith, append_assoc, ltb, append-nil}
use Rattle.std.proofs.lemmas.Bool.{lt-ltb, le-ltb}
use Rattle.std.proofs.lemmas.List.{take_more_set, take_all}
use Rattle.std.specs.Int.Count.{count_leading_zeros}
use Rattle.flac_definitions.specs.Bits.{Place, bits_in, number_of, number_at, zeros_at, behind_one}
use Rattle.flac_definitions.specs.declared.fault.ResidualFault.{ResidualFault}
use Rattle.flac_definitions.specs.declared.fault.ResidualFault.TheVariants as fault
use Rattle.flac_definitions.specs.Results.{◌>>=◌, or_fault}
use Rattle.flac_definitions.specs.Residual.{behind_values, each_at, residual_at, behind_coding_method, behind_partition_order, can_be_partitioned, parameter_size, all_partitions_at, partition_at, partitions_at, plain_at, signed_number, value_at, value_in_range, unfolded_value}
use Rattle.flac_bits.specs.Window.{IsWindow}
use Rattle.flac_bits.specs.WindowLaws.{IsCode, code_at_front, no_window, later_window}
use Rattle.flac_rice.specs.Reading.{IsAhead}
use Rattle.flac_rice.specs.declared.value.Ahead.{Ahead}

pub front_twice : (xs ys : List ℤ) (r : Result (List ℤ × Place) ResidualFault) → behind_values xs (behind_values ys r) ≡ behind_values (xs ++ ys) r
front_twice xs ys (Ok x) = ap (λ (zs : List ℤ). Ok (zs, x.1)) (sym (append_assoc xs ys x.0))
front_twice xs ys (Err e) = refl

pub front_none : (r : Result (List ℤ × Place) ResidualFault) → behind_values [] r ≡ r
front_none (Ok x) = refl
front_none (Err e) = refl

-- one more value was read
pub each_next : (one : Place → Result (ℤ × Place) ResidualFault) (out : List ℤ) (i : ℕ) (p next : Place) (v : ℤ) → i < length out → one p ≡ Ok (v, next)
    → behind_values (take (i + 1) (set out i v)) (each_at one (length out - (i + 1)) next) ≡ behind_values (take i out) (each_at one (length out - i) p)
each_next one out i p next v h e =
    let n : length out - i ≡ suc (length out - (i + 1)) = omega arith in
    sym (ap (λ k. behind_values (take i out) (each_at one k p)) n
    ∙ ap (λ (r : Result (ℤ × Place) ResidualFault). behind_values (take i out) (r >>= λ x. behind_values (x.0 ∷ []) (each_at one (length out - (i + 1)) x.1))) e
    ∙ front_twice (take i out) (v ∷ []) (each_at one (length out - (i + 1)) next)
    ∙ ap (λ (xs : List ℤ). behind_values xs (each_at one (length out - (i + 1)) next)) (sym (take_more_set out i v h)))

-- a fault ends it
pub each_fault : (one : Place → Result (ℤ × Place) ResidualFault) (out : List ℤ) (i : ℕ) (p : Place) (e : ResidualFault) → i < length out → one p ≡ Err e
    → behind_values (take i out) (each_at one (length out - i) p) ≡ Err e
each_fault one out i p e h q =
    let n : length out - i ≡ suc (length out - (i + 1)) = omega arith in
    ap (λ k. behind_values (take i out) (each_at one k p)) n
    ∙ ap (λ (r : Result (ℤ × Place) ResidualFault). behind_values (take i out) (r >>= λ x. behind_values (x.0 ∷ []) (each_at one (length out - (i + 1)) x.1))) q

pub each_done : (one : Place → Result (ℤ × Place) ResidualFault) (out : List ℤ) (i : ℕ) (p : Place) → length out ≤ i → behind_values (take i out) (each_at one (length out - i) p) ≡ Ok (out, p)
each_done one out i p h =
    let z : length out - i ≡ 0 = omega arith in
    ap (λ k. behind_values (take i out) (each_at one k p)) z ∙ ap (λ (xs : List ℤ). Ok (xs, p)) (append-nil (take i out) ∙ take_all i out h)

-- a value whose code was found
pub value_of_code : (bytes : List ℕ) (at q k low : ℕ) → IsCode bytes at q k low → at + q + 1 + k ≤ 8 * length bytes
    → value_at k (record { bytes = bytes; at = at }) ≡ value_in_range at (q * 2 ^ k + low) (low, record { bytes = bytes; at = at + (q + 1 + k) })
value_of_code bytes at q k low c h =
    let p : Place = record { bytes = bytes; at = at } in
    let z : zeros_at p ≡ Some (q, record { bytes = bytes; at = at + (q + 1) }) = ap (λ (o : Option ℕ). behind_one p o) c.zeros in
    let t : ltb (8 * length bytes - (at + (q + 1))) k ≡ false = le-ltb (8 * length bytes - (at + (q + 1))) k (omega arith) in
    let n : number_at k (record { bytes = bytes; at = at + (q + 1) }) ≡ Some (low, record { bytes = bytes; at = at + (q + 1 + k) }) =
    rw t (ap (λ (x : ℕ). Some (number_of (take k (drop (at + (q + 1)) (bits_in bytes))), record { bytes = bytes; at = x })) (let s : at + (q + 1) + k ≡ at + (q + 1 + k) = omega arith in s)
    ∙ ap (λ (x : ℕ). Some (x, record { bytes = bytes; at = at + (q + 1 + k) })) (ap (λ x. number_of (take k (drop x (bits_in bytes)))) (let s : at + (q + 1) ≡ at + q + 1 = omega arith in s) ∙ sym c.behind)) in
    ap (λ (o : Option (ℕ × Place)). or_fault (fault.Short at) o >>= λ q. or_fault (fault.Short at) (number_at k q.1) >>= λ low. value_in_range at (q.0 * 2 ^ k + low.0) low) z
    ∙ ap (λ (o : Option (ℕ × Place)). or_fault (fault.Short at) o >>= λ low. value_in_range at (q * 2 ^ k + low.0) low) n

pub folded_small : (at z : ℕ) (x : ℕ × Place) → z < 2 ^ 32 - 1 → value_in_range at z x ≡ Ok (unfolded_value z, x.1)
folded_small at z x h = rw (lt-ltb z (2 ^ 32 - 1) h) refl

pub folded_large : (at z : ℕ) (x : ℕ × Place) → 2 ^ 32 - 1 ≤ z → value_in_range at z x ≡ Err (fault.Range at)
folded_large at z x h = rw (le-ltb z (2 ^ 32 - 1) h) refl

-- a value whose code stands at a window's front
pub value_at_front : (bytes : List ℕ) (at word valid k q z : ℕ) → IsWindow bytes at word valid → word < 2 ^ 64 → q ≡ count_leading_zeros 64 word → q + 1 + k ≤ valid
    → z ≡ q * 2 ^ k + (word * 2 ^ q % 2 ^ 64 / 2 ^ (63 - k) - 2 ^ k)
    → value_at k (record { bytes = bytes; at = at }) ≡ value_in_range at z (word * 2 ^ q % 2 ^ 64 / 2 ^ (63 - k) - 2 ^ k, record { bytes = bytes; at = at + (q + 1 + k) })
value_at_front bytes at word valid k q z w fits e h f =
    let low = word * 2 ^ q % 2 ^ 64 / 2 ^ (63 - k) - 2 ^ k in
    let code : IsCode bytes at q k low = subst (λ (n : ℕ). IsCode bytes at n k (word * 2 ^ n % 2 ^ 64 / 2 ^ (63 - k) - 2 ^ k)) (sym e) (code_at_front bytes at word valid k w fits (omega (arith, e, h))) in
    value_of_code bytes at q k low code (omega (arith, w.there, h))
    ∙ ap (λ n. value_in_range at n (low, record { bytes = bytes; at = at + (q + 1 + k) })) (sym f)

-- the same of bits ahead
pub value_ahead : (bytes : List ℕ) (here end word valid k q z : ℕ) → IsAhead bytes end word valid → end - valid ≡ here → word < 2 ^ 64 → q ≡ count_leading_zeros 64 word → q + 1 + k ≤ valid
    → z ≡ q * 2 ^ k + (word * 2 ^ q % 2 ^ 64 / 2 ^ (63 - k) - 2 ^ k)
    → value_at k (record { bytes = bytes; at = here }) ≡ value_in_range here z (word * 2 ^ q % 2 ^ 64 / 2 ^ (63 - k) - 2 ^ k, record { bytes = bytes; at = end - (valid - (q + 1 + k)) })
value_ahead bytes here end word valid k q z a e fits f h g =
    let low = word * 2 ^ q % 2 ^ 64 / 2 ^ (63 - k) - 2 ^ k in
    value_at_front bytes here word valid k q z (subst (λ (n : ℕ). IsWindow bytes n word valid) e a.window) fits f h g
    ∙ ap (λ n. value_in_range here z (low, record { bytes = bytes; at = n })) (let s : here + (q + 1 + k) ≡ end - (valid - (q + 1 + k)) = omega (arith, a.behind) in s)

-- the bits ahead, some further on
pub later_ahead : (bytes : List ℕ) (end word valid u : ℕ) → IsAhead bytes end word valid → u ≤ valid → IsAhead bytes end (word * 2 ^ u % 2 ^ 64) (valid - u)
later_ahead bytes end word valid u a h = record {
  behind = omega (arith, a.behind);
  window = subst (λ (n : ℕ). IsWindow bytes n (word * 2 ^ u % 2 ^ 64) (valid - u)) (let s : end - valid + u ≡ end - (valid - u) = omega (arith, a.behind) in s) (later_window bytes (end - valid) word valid u a.window h);
}

-- no bits ahead of a place
pub nothing_ahead : (bytes : List ℕ) (at : ℕ) (a : Ahead) → a ≡ record { window = record { word = 0; valid = 0 }; end = at } → at ≤ 8 * length bytes → IsAhead bytes a.end a.window.word a.window.valid × (a.end - a.window.valid ≡ at)
nothing_ahead bytes at a e h =
    let v : a.window.valid ≡ 0 = ap (λ (b : Ahead). b.window.valid) e in
    let f : a.end ≡ at = ap (λ (b : Ahead). b.end) e in
    let w : a.window.word ≡ 0 = ap (λ (b : Ahead). b.window.word) e in
    let p : a.end - a.window.valid ≡ at = omega (arith, v, f) in
    let i : IsWindow bytes (a.end - a.window.valid) 0 0 = subst (λ (n : ℕ). IsWindow bytes n 0 0) (sym p) (no_window bytes at h) in
    let j : IsWindow bytes (a.end - a.window.valid) a.window.word 0 = subst (λ (n : ℕ). IsWindow bytes (a.end - a.window.valid) n 0) (sym w) i in
    (record { behind = omega (arith, v); window = subst (λ (n : ℕ). IsWindow bytes (a.end - a.window.valid) a.window.word n) (sym v) j }, p)

pub plain_there : (bytes : List ℕ) (at k n : ℕ) → k ≤ 8 * length bytes - at → n ≡ number_of (take k (drop at (bits_in bytes))) → plain_at k (record { bytes = bytes; at = at }) ≡ Ok (signed_number k n, record { bytes = bytes; at = at + k })
plain_there bytes at k n h e = rw (le-ltb (8 * length bytes - at) k h) (ap (λ (x : ℕ). Ok (signed_number k x, record { bytes = bytes; at = at + k })) (sym e))

-- one more partition was read
pub parts_next : (size each n m : ℕ) (front values : List ℤ) (p next : Place) → n ≡ suc m → partition_at size each p ≡ Ok (values, next)
    → behind_values (front ++ values) (partitions_at size each m next) ≡ behind_values front (partitions_at size each n p)
parts_next size each n m front values p next h e =
    sym (ap (λ k. behind_values front (partitions_at size each k p)) h
    ∙ ap (λ (r : Result (List ℤ × Place) ResidualFault). behind_values front (r >>= λ x. behind_values x.0 (partitions_at size each m x.1))) e
    ∙ front_twice front values (partitions_at size each m next))

pub parts_fault : (size each n m : ℕ) (front : List ℤ) (p : Place) (e : ResidualFault) → n ≡ suc m → partition_at size each p ≡ Err e
    → behind_values front (partitions_at size each n p) ≡ Err e
parts_fault size each n m front p e h q =
    ap (λ k. behind_values front (partitions_at size each k p)) h
    ∙ ap (λ (r : Result (List ℤ × Place) ResidualFault). behind_values front (r >>= λ x. behind_values x.0 (partitions_at size each m x.1))) q

pub parts_done : (size each n : ℕ) (front out : List ℤ) (p : Place) → n ≡ 0 → front ≡ out → behind_values front (partitions_at size each n p) ≡ Ok (out, p)
parts_done size each n front out p h e = ap (λ k. behind_values front (partitions_at size each k p)) h ∙ ap (λ (xs : List ℤ). Ok (xs, p)) (append-nil front ∙ e)

-- a residual whose partitions can be read
pub residual_there : (bytes : List ℕ) (at block order method parts : ℕ) → 6 ≤ 8 * length bytes - at → method ≡ number_of (take 2 (drop at (bits_in bytes))) → method < 2
    → parts ≡ number_of (take 4 (drop (at + 2) (bits_in bytes))) → can_be_partitioned block order parts ≡ true
    → residual_at block order (record { bytes = bytes; at = at }) ≡ all_partitions_at (parameter_size method) (block / 2 ^ parts - order) (block / 2 ^ parts) (2 ^ parts - 1) (record { bytes = bytes; at = at + 6 })
residual_there bytes at block order method parts h em small ep fits =
    let behind : Place = record { bytes = bytes; at = at + 2 } in
    let cut : behind_partition_order method block order (at + 2) (parts, record { bytes = bytes; at = at + 2 + 4 }) ≡ all_partitions_at (parameter_size method) (block / 2 ^ parts - order) (block / 2 ^ parts) (2 ^ parts - 1) (record { bytes = bytes; at = at + 6 }) =
    ap (λ (t : Bool). cond t (all_partitions_at (parameter_size method) (block / 2 ^ parts - order) (block / 2 ^ parts) (2 ^ parts - 1) (record { bytes = bytes; at = at + 2 + 4 })) (Err (fault.Reserved (at + 2)))) fits
    ∙ ap (λ n. all_partitions_at (parameter_size method) (block / 2 ^ parts - order) (block / 2 ^ parts) (2 ^ parts - 1) (record { bytes = bytes; at = n })) (let s : at + 2 + 4 ≡ at + 6 = omega arith in s) in
    let second : behind_coding_method block order at (method, behind) ≡ behind_partition_order method block order (at + 2) (parts, record { bytes = bytes; at = at + 2 + 4 }) =
    rw (lt-ltb method 2 small) (rw (le-ltb (8 * length bytes - (at + 2)) 4 (omega arith)) (ap (λ n. behind_partition_order method block order (at + 2) (n, record { bytes = bytes; at = at + 2 + 4 })) (sym ep))) in
    let first : residual_at block order (record { bytes = bytes; at = at }) ≡ behind_coding_method block order at (method, behind) =
    rw (le-ltb (8 * length bytes - at) 2 (omega arith)) (ap (λ n. behind_coding_method block order at (n, behind)) (sym em)) in
    first ∙ second ∙ cut
