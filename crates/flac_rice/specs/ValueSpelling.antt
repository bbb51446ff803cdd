-- Values: what is read is spelled, and what is spelled is read.
use Rattle.std.proofs.Common.{◌≡◌, ℕ, ℤ, pos, negsuc, ◌+◌, ◌-◌, ◌*◌, ◌/◌, ◌%◌, ◌^◌, ◌<◌, Bool, true, false, cond, eqb, ltb, List, ◌++◌, Option, Some, None, Result, Ok, Err, length, refl, sym, ap, subst, ◌∙◌, arith, length-append, mod-eq_of_lt}
use Rattle.std.proofs.lemmas.Bool.{eqb-true, eqb-false, eq-eqb, ne_eqb, ltb-true, lt-ltb}
use Rattle.std.proofs.lemmas.Nat.{mod_low, shr_high, shr_split, pow_pos, mod_below}
use Rattle.flac_definitions.specs.Bits.{Place, forward, bits_of, number_at, zeros_at, Begins}
use Rattle.flac_definitions.specs.BitLaws.{length-bits_of, number_of-bits_of, same_number}
use Rattle.flac_definitions.specs.declared.fault.ResidualFault.{ResidualFault}
use Rattle.flac_definitions.specs.declared.fault.ResidualFault.TheVariants as fault
use Rattle.flac_definitions.specs.Results.{◌>>=◌, or_fault}
use Rattle.flac_definitions.specs.Residual.{unfolded_value, value_in_range, value_at}
use Rattle.flac_definitions.specs.ResidualSpelling.{folded_value, value_bits, IsInRange}
use Rattle.flac_definitions.specs.PlaceLaws.{begins_first, begins_second, begins_both, forward_twice, number_read, number_spelled, unary_bits, length_unary, zeros_read, zeros_spelled}

-- a value
folded_cases : (t : Bool) (z : ℕ) → eqb (z % 2) 0 ≡ t → folded_value (cond t (pos (z / 2)) (negsuc (z / 2))) ≡ z
folded_cases true z e = omega (arith, eqb-true (z % 2) 0 e)
folded_cases false z e = omega (arith, eqb-false (z % 2) 0 e)

folded_unfolded : (z : ℕ) → folded_value (unfolded_value z) ≡ z
folded_unfolded z = folded_cases (eqb (z % 2) 0) z refl

unfolded_folded : (v : ℤ) → unfolded_value (folded_value v) ≡ v
unfolded_folded (pos n) = ap (λ t. cond t (pos (2 * n / 2)) (negsuc (2 * n / 2))) (eq-eqb (2 * n % 2) 0 (omega arith)) ∙ ap (λ (m : ℕ). pos m) (omega arith)
unfolded_folded (negsuc n) = ap (λ t. cond t (pos ((2 * n + 1) / 2)) (negsuc ((2 * n + 1) / 2))) (ne_eqb ((2 * n + 1) % 2) 0 (λ e. omega (arith, e))) ∙ ap (λ (m : ℕ). negsuc m) (omega arith)

low_bits : (k z : ℕ) → bits_of k (z % 2 ^ k) ≡ bits_of k z
low_bits k z =
    same_number (bits_of k (z % 2 ^ k)) (bits_of k z) (length-bits_of k (z % 2 ^ k) ∙ sym (length-bits_of k z))
    (number_of-bits_of k (z % 2 ^ k) ∙ mod-eq_of_lt (mod_below z (2 ^ k) (pow_pos k)) ∙ sym (number_of-bits_of k z))

length_value : (k : ℕ) (v : ℤ) → length (value_bits k v) ≡ folded_value v / 2 ^ k + 1 + k
length_value k v = omega (arith, length-append (unary_bits (folded_value v / 2 ^ k)) (bits_of k (folded_value v)), length_unary (folded_value v / 2 ^ k), length-bits_of k (folded_value v))

pub value_spelled : (k : ℕ) (p : Place) (v : ℤ) → IsInRange v → Begins p (value_bits k v) → value_at k p ≡ Ok (v, forward (length (value_bits k v)) p)
value_spelled k p v h b =
    let z = folded_value v in let q = z / 2 ^ k in let low = z % 2 ^ k in
    let us = unary_bits q in
    let one = zeros_spelled p q (begins_first p us (bits_of k z) b) in
    let next : Begins (forward (q + 1) p) (bits_of k low) =
    subst (λ (xs : List Bool). Begins (forward (q + 1) p) xs) (sym (low_bits k z)) (subst (λ (m : ℕ). Begins (forward m p) (bits_of k z)) (length_unary q) (begins_second p us (bits_of k z) b)) in
    let two = number_spelled k (forward (q + 1) p) low (mod_below z (2 ^ k) (pow_pos k)) next in
    let whole : q * 2 ^ k + low ≡ z = shr_split z k in
    let place : forward k (forward (q + 1) p) ≡ forward (length (value_bits k v)) p = forward_twice (q + 1) k p ∙ ap (λ m. forward m p) (sym (length_value k v)) in
    ap (λ (o : Option (ℕ × Place)). or_fault (fault.Short p.at) o >>= λ q. or_fault (fault.Short p.at) (number_at k q.1) >>= λ low. value_in_range p.at (q.0 * 2 ^ k + low.0) low) one
    ∙ ap (λ (o : Option (ℕ × Place)). or_fault (fault.Short p.at) o >>= λ low. value_in_range p.at (q * 2 ^ k + low.0) low) two
    ∙ ap (λ m. value_in_range p.at m (low, forward k (forward (q + 1) p))) whole
    ∙ ap (λ t. cond {A = Result (ℤ × Place) ResidualFault} t (Ok (unfolded_value z, forward k (forward (q + 1) p))) (Err (fault.Range p.at))) (lt-ltb z (2 ^ 32 - 1) h)
    ∙ ap (λ (x : ℤ). Ok (x, forward k (forward (q + 1) p))) (unfolded_folded v)
    ∙ ap (λ (x : Place). Ok (v, x)) place

pub record IsReadAs (k : ℕ) (p q : Place) (v : ℤ) : Type 0 where
  pub range : IsInRange v
  pub place : q ≡ forward (length (value_bits k v)) p
  pub bits : Begins p (value_bits k v)

same_ok : (x y : ℤ × Place) → (let r : Result (ℤ × Place) ResidualFault = Ok x in r) ≡ Ok y → x ≡ y
same_ok x y e = cc

folded_read : (t : Bool) (k n low : ℕ) (p q : Place) (v : ℤ) → ltb (n * 2 ^ k + low) (2 ^ 32 - 1) ≡ t
    → cond {A = Result (ℤ × Place) ResidualFault} t (Ok (unfolded_value (n * 2 ^ k + low), forward k (forward (n + 1) p))) (Err (fault.Range p.at)) ≡ Ok (v, q)
    → low < 2 ^ k → Begins p (unary_bits n) → Begins (forward (n + 1) p) (bits_of k low) → IsReadAs k p q v
folded_read false k n low p q v t e h a b = absurd (let z : ⊥ = cc in z)
folded_read true k n low p q v t e h a b =
    let z = n * 2 ^ k + low in
    let pair = same_ok (unfolded_value z, forward k (forward (n + 1) p)) (v, q) e in
    let fv : folded_value v ≡ z = ap folded_value (sym (ap (λ (x : ℤ × Place). x.0) pair)) ∙ folded_unfolded z in
    let high : folded_value v / 2 ^ k ≡ n = ap (λ m. m / 2 ^ k) fv ∙ shr_high n k low h in
    let bits : bits_of k (folded_value v) ≡ bits_of k low = ap (λ m. bits_of k m) fv ∙ sym (low_bits k z) ∙ ap (λ m. bits_of k m) (mod_low n k low h) in
    let text : unary_bits n ++ bits_of k low ≡ value_bits k v = ap (λ m. unary_bits m ++ bits_of k low) (sym high) ∙ ap (λ (xs : List Bool). unary_bits (folded_value v / 2 ^ k) ++ xs) (sym bits) in
    record {
      range = omega (arith, fv, ltb-true z (2 ^ 32 - 1) t);
      place = sym (ap (λ (x : ℤ × Place). x.1) pair) ∙ forward_twice (n + 1) k p ∙ ap (λ m. forward m p) (sym (length_value k v ∙ ap (λ m. m + 1 + k) high));
      bits = subst (λ (xs : List Bool). Begins p xs) text (begins_both p (unary_bits n) (bits_of k low) a (subst (λ (m : ℕ). Begins (forward m p) (bits_of k low)) (sym (length_unary n)) b));
    }

low_read : (o : Option (ℕ × Place)) (k n : ℕ) (p q : Place) (v : ℤ) → number_at k (forward (n + 1) p) ≡ o
    → (or_fault (fault.Short p.at) o >>= λ low. value_in_range p.at (n * 2 ^ k + low.0) low) ≡ Ok (v, q) → Begins p (unary_bits n) → IsReadAs k p q v
low_read None k n p q v h e a = absurd (let z : ⊥ = cc in z)
low_read (Some x) k n p q v h e a =
    let r = number_read k (forward (n + 1) p) x.1 x.0 h in
    folded_read (ltb (n * 2 ^ k + x.0) (2 ^ 32 - 1)) k n x.0 p q v refl
    (ap (λ (y : Place). value_in_range p.at (n * 2 ^ k + x.0) (x.0, y)) (sym r.1) ∙ e) r.0 a r.2

zeros_then : (o : Option (ℕ × Place)) (k : ℕ) (p q : Place) (v : ℤ) → zeros_at p ≡ o
    → (or_fault (fault.Short p.at) o >>= λ q. or_fault (fault.Short p.at) (number_at k q.1) >>= λ low. value_in_range p.at (q.0 * 2 ^ k + low.0) low) ≡ Ok (v, q) → IsReadAs k p q v
zeros_then None k p q v h e = absurd (let z : ⊥ = cc in z)
zeros_then (Some x) k p q v h e =
    let r = zeros_read p x.1 x.0 h in
    low_read (number_at k (forward (x.0 + 1) p)) k x.0 p q v refl
    (ap (λ (y : Place). or_fault (fault.Short p.at) (number_at k y) >>= λ low. value_in_range p.at (x.0 * 2 ^ k + low.0) low) (sym r.0) ∙ e) r.1

pub value_read : (k : ℕ) (p q : Place) (v : ℤ) → value_at k p ≡ Ok (v, q) → IsReadAs k p q v
value_read k p q v e = zeros_then (zeros_at p) k p q v refl e
