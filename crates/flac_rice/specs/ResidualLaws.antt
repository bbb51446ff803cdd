-- Residuals are read exactly where they are spelled.
use Rattle.std.proofs.Common.{◌≡◌, ℕ, zero, suc, ℤ, ◌-◌, ◌/◌, ◌^◌, Bool, cond, eqb, ltb, List, [], ◌∷◌, ◌++◌, Some, Result, Ok, Err, length, refl, sym, ap, subst, ◌∙◌}
use Rattle.flac_definitions.specs.Bits.{Place, forward, number_at, Begins}
use Rattle.flac_definitions.specs.declared.fault.ResidualFault.{ResidualFault}
use Rattle.flac_definitions.specs.declared.fault.ResidualFault.TheVariants as fault
use Rattle.flac_definitions.specs.Results.{◌>>=◌, or_fault}
use Rattle.flac_definitions.specs.Residual.{behind_values, each_at, value_at, plain_at, escaped_partition_at, partition_at, partitions_at, all_partitions_at, behind_partition_order, behind_coding_method, residual_at, signed_number, can_be_partitioned, parameter_size}
use Rattle.flac_definitions.specs.ResidualSpelling.{value_bits, IsValue, IsSigned, AreEach, IsPartition, ArePartitions, IsPartitioned, IsResidual}
use Rattle.flac_rice.specs.ValueSpelling.{value_read, value_spelled}
use Rattle.flac_definitions.specs.Grammar.{IsNumber, IsGiven, IsNothing, InOrder, Either, ReadsOr}
use Rattle.flac_definitions.specs.GrammarLaws.{number}
use Rattle.flac_definitions.specs.ResultLaws.{or_reads, or_then_by, or_then, or_as, given_or, or_given, or_fails, or_chosen}

-- values
pub value : (k : ℕ) → ReadsOr (value_at k) (IsValue k)
value k = record {
  sound = λ p q v e. let r = value_read k p q v e in record { bits = value_bits k v; fine = (r.range, refl); place = r.place; next = r.bits };
  whole = λ p v bits h b. value_spelled k p v h.0 (subst (λ (z : List Bool). Begins p z) h.1 b) ∙ ap (λ n. Ok (v, forward n p)) (sym (ap length h.1));
}

front_is : {E : Type 0} (front : List ℤ) (r : Result (List ℤ × Place) E) → behind_values front r ≡ (r >>= λ x. given_or (front ++ x.0) x.1)
front_is front (Ok x) = refl
front_is front (Err e) = refl

pub or_front : {E : Type 0} (front : List ℤ) (read : Place → Result (List ℤ × Place) E) (is : List ℤ → List Bool → Type 0) → ReadsOr read is → ReadsOr (λ p. behind_values front (read p)) (InOrder is (λ ys. IsGiven (Some (front ++ ys))))
or_front {E} front read is f =
    or_as (λ p. read p >>= λ x. given_or (front ++ x.0) x.1) (λ p. behind_values front (read p)) (InOrder is (λ ys. IsGiven (Some (front ++ ys)))) (λ p. front_is front (read p))
    (or_then read (λ x p. given_or (front ++ x) p) is (λ ys. IsGiven (Some (front ++ ys))) f (λ x. or_given {E = E} (front ++ x)))

pub each : {E : Type 0} (one : Place → Result (ℤ × Place) E) (is : ℤ → List Bool → Type 0) (n : ℕ) → ReadsOr one is → ReadsOr (each_at one n) (AreEach is n)
each {E} one is zero f = or_given {E = E} []
each {E} one is (suc n) f =
    or_then one (λ x p. behind_values (x ∷ []) (each_at one n p)) is (λ x. InOrder (AreEach is n) (λ xs. IsGiven (Some (x ∷ xs)))) f
    (λ x. or_front (x ∷ []) (each_at one n) (AreEach is n) (each one is n f))

pub field : (n : ℕ) → ReadsOr (λ p. or_fault (fault.Short p.at) (number_at n p)) (IsNumber n)
field n = or_reads (λ p. fault.Short p.at) (number_at n) (IsNumber n) (number n)

pub plain : (size : ℕ) → ReadsOr (plain_at size) (IsSigned size)
plain size = or_then (λ p. or_fault (fault.Short p.at) (number_at size p)) (λ x p. given_or (signed_number size x) p) (IsNumber size) (λ n. IsGiven (Some (signed_number size n))) (field size) (λ x. or_given {E = ResidualFault} (signed_number size x))

plain_partition : (n : ℕ) → ReadsOr (escaped_partition_at n) (InOrder (IsNumber 5) (λ width. AreEach (IsSigned width) n))
plain_partition n = or_then (λ p. or_fault (fault.Short p.at) (number_at 5 p)) (λ width p. each_at (plain_at width) n p) (IsNumber 5) (λ width. AreEach (IsSigned width) n) (field 5) (λ width. each (plain_at width) (IsSigned width) n (plain width))

pub partition : (size n : ℕ) → ReadsOr (partition_at size n) (IsPartition size n)
partition size n =
    or_then (λ p. or_fault (fault.Short p.at) (number_at size p)) (λ k p. cond (eqb k (2 ^ size - 1)) (escaped_partition_at n p) (each_at (value_at k) n p)) (IsNumber size)
    (λ k. Either (eqb k (2 ^ size - 1)) (InOrder (IsNumber 5) (λ width. AreEach (IsSigned width) n)) (AreEach (IsValue k) n)) (field size)
    (λ k. or_chosen (eqb k (2 ^ size - 1)) (escaped_partition_at n) (each_at (value_at k) n) (InOrder (IsNumber 5) (λ width. AreEach (IsSigned width) n)) (AreEach (IsValue k) n) (plain_partition n) (each (value_at k) (IsValue k) n (value k)))

partitions : (size each n : ℕ) → ReadsOr (partitions_at size each n) (ArePartitions size each n)
partitions size each zero = or_given {E = ResidualFault} []
partitions size each (suc n) =
    or_then (partition_at size each) (λ xs p. behind_values xs (partitions_at size each n p)) (IsPartition size each) (λ xs. InOrder (ArePartitions size each n) (λ ys. IsGiven (Some (xs ++ ys)))) (partition size each)
    (λ xs. or_front xs (partitions_at size each n) (ArePartitions size each n) (partitions size each n))

cut : (method block order start parts : ℕ) → ReadsOr (λ p. behind_partition_order method block order start (parts, p)) (IsPartitioned (parameter_size method) block order parts)
cut method block order start parts =
    let size = parameter_size method in let each = block / 2 ^ parts in
    or_chosen (can_be_partitioned block order parts) (all_partitions_at size (each - order) each (2 ^ parts - 1)) (λ p. Err (fault.Reserved start))
    (InOrder (IsPartition size (each - order)) (λ xs. InOrder (ArePartitions size each (2 ^ parts - 1)) (λ ys. IsGiven (Some (xs ++ ys))))) IsNothing
    (or_then (partition_at size (each - order)) (λ xs p. behind_values xs (partitions_at size each (2 ^ parts - 1) p)) (IsPartition size (each - order)) (λ xs. InOrder (ArePartitions size each (2 ^ parts - 1)) (λ ys. IsGiven (Some (xs ++ ys)))) (partition size (each - order))
    (λ xs. or_front xs (partitions_at size each (2 ^ parts - 1)) (ArePartitions size each (2 ^ parts - 1)) (partitions size each (2 ^ parts - 1))))
    (or_fails (λ p. fault.Reserved start))

pub residual : (block order : ℕ) → ReadsOr (residual_at block order) (IsResidual block order)
residual block order =
    or_then_by (λ p. or_fault (fault.Short p.at) (number_at 2 p)) (λ s m p. behind_coding_method block order s.at (m, p)) (IsNumber 2)
    (λ m. Either (ltb m 2) (InOrder (IsNumber 4) (λ parts. IsPartitioned (parameter_size m) block order parts)) IsNothing) (field 2)
    (λ s m. or_chosen (ltb m 2) (λ p. or_fault (fault.Short p.at) (number_at 4 p) >>= behind_partition_order m block order p.at) (λ p. Err (fault.Reserved s.at)) (InOrder (IsNumber 4) (λ parts. IsPartitioned (parameter_size m) block order parts)) IsNothing
    (or_then_by (λ p. or_fault (fault.Short p.at) (number_at 4 p)) (λ t parts p. behind_partition_order m block order t.at (parts, p)) (IsNumber 4) (λ parts. IsPartitioned (parameter_size m) block order parts) (field 4) (λ t parts. cut m block order t.at parts))
    (or_fails (λ p. fault.Reserved s.at)))
