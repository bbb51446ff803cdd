-- Coded numbers, byte by byte.
use Rattle.std.proofs.Common.{◌≡◌, ℕ, suc, ◌+◌, ◌*◌, ◌/◌, ◌%◌, ◌^◌, ◌<◌, ◌≤◌, cond, eqb, Result, Ok, Err, sym, ap, ◌∙◌, arith}
use Rattle.std.proofs.Math.Nat.{pow-suc, pow-le-pow_right}
use Rattle.std.proofs.lemmas.Bool.{eq-eqb, ne_eqb}
use Rattle.flac_definitions.specs.Bits.{Place}
use Rattle.flac_definitions.specs.declared.fault.HeaderFault.{HeaderFault}
use Rattle.flac_definitions.specs.declared.fault.HeaderFault.TheVariants as fault
use Rattle.flac_definitions.specs.Results.{◌>>=◌}
use Rattle.flac_definitions.specs.Header.{part_at, further_bytes_at}

pub more_next : (start n m number b : ℕ) (p q : Place) → n ≡ suc m → part_at start 8 p ≡ Ok (b, q) → b / 64 ≡ 2 → further_bytes_at start m (64 * number + b % 64) q ≡ further_bytes_at start n number p
more_next start n m number b p q h e t =
    sym (ap (λ k. further_bytes_at start k number p) h
    ∙ ap (λ (r : Result (ℕ × Place) HeaderFault). r >>= λ b. cond (eqb (b.0 / 64) 2) (further_bytes_at start m (64 * number + b.0 % 64) b.1) (Err fault.Number)) e
    ∙ ap (λ t. cond t (further_bytes_at start m (64 * number + b % 64) q) (Err fault.Number)) (eq-eqb (b / 64) 2 t))

pub more_wrong : (start n m number b : ℕ) (p q : Place) → n ≡ suc m → part_at start 8 p ≡ Ok (b, q) → (b / 64 ≡ 2 → ⊥) → further_bytes_at start n number p ≡ Err fault.Number
more_wrong start n m number b p q h e t =
    ap (λ k. further_bytes_at start k number p) h
    ∙ ap (λ (r : Result (ℕ × Place) HeaderFault). r >>= λ b. cond (eqb (b.0 / 64) 2) (further_bytes_at start m (64 * number + b.0 % 64) b.1) (Err fault.Number)) e
    ∙ ap (λ t. cond t (further_bytes_at start m (64 * number + b % 64) q) (Err fault.Number)) (ne_eqb (b / 64) 2 t)

-- six bits more fit
pub six_more : (n i b : ℕ) → n < 64 ^ (i + 1) → i < 6 → (64 * n + b % 64 < 64 ^ (i + 1 + 1)) × (64 * n + b % 64 < 2 ^ 64)
six_more n i b h k =
    let p : 64 ^ (i + 1 + 1) ≡ 64 ^ (i + 1) * 64 = ap (λ m. 64 ^ m) (let s : i + 1 + 1 ≡ suc (i + 1) = omega arith in s) ∙ pow-suc 64 (i + 1) in
    let q : 64 ^ (i + 1) ≤ 64 ^ 6 = pow-le-pow_right {n = 64} (omega arith) (let s : i + 1 ≤ 6 = omega arith in s) in
    (omega (arith, p), omega (arith, q))
