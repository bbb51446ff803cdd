-- Shifts of words.
use Rattle.std.proofs.Common.{ℕ, ◌≡◌, ◌<◌, ◌≤◌, ◌+◌, ◌-◌, ◌*◌, ◌/◌, ◌%◌, ◌^◌, bit_and, bit_or, ap, subst, ◌∙◌, arith}
use Rattle.std.proofs.Math.Nat.{mul-le-mul_right}
use Rattle.std.proofs.lemmas.Nat.{pow-add, shl_whole, or_shifted, one_shl, and_mask, shr_below}

pub joined_value : (last used n v : ℕ) → last < 2 ^ used → used + n ≤ 63 → v < 2 ^ n → bit_or (last * 2 ^ n % 2 ^ 64) v ≡ last * 2 ^ n + v
joined_value last used n v small room fits = ap (λ (x : ℕ). bit_or x v) (shl_whole last used n 64 small (omega (arith, room))) ∙ or_shifted last n v fits

pub joined_bound : (last used n v : ℕ) → last < 2 ^ used → v < 2 ^ n → last * 2 ^ n + v < 2 ^ (used + n)
joined_bound last used n v small fits =
    let up : (last + 1) * 2 ^ n ≤ 2 ^ used * 2 ^ n = mul-le-mul_right (2 ^ n) (omega (arith, small)) in
    omega (arith, up, fits, pow-add 2 used n)

pub filled_value : (last used n v : ℕ) → used ≤ 63 → last < 2 ^ used → 64 ≤ used + n → v < 2 ^ n → bit_or (last * 2 ^ (63 - used) % 2 ^ 64 * 2 % 2 ^ 64) (v / 2 ^ (n - (64 - used))) ≡ last * 2 ^ (64 - used) + v / 2 ^ (n - (64 - used))
filled_value last used n v low small room fits =
    let rest = n - (64 - used) in
    let first : last * 2 ^ (63 - used) % 2 ^ 64 ≡ last * 2 ^ (63 - used) = shl_whole last used (63 - used) 64 small (omega (arith, low)) in
    let step : 64 - used ≡ (63 - used) + 1 = omega (arith, low) in
    let power : 2 ^ (64 - used) ≡ 2 ^ (63 - used) * 2 = ap (λ (x : ℕ). 2 ^ x) step ∙ pow-add 2 (63 - used) 1 in
    let double : last * 2 ^ (63 - used) * 2 ≡ last * 2 ^ (64 - used) = omega (arith, ap (λ (x : ℕ). last * x) power) in
    let whole : last * 2 ^ (64 - used) % 2 ^ 64 ≡ last * 2 ^ (64 - used) = shl_whole last used (64 - used) 64 small (omega (arith, low)) in
    let top : v / 2 ^ rest < 2 ^ (64 - used) = shr_below v (64 - used) rest (subst (λ (m : ℕ). v < 2 ^ m) (omega (arith, low, room)) fits) in
    ap (λ (x : ℕ). bit_or (x * 2 % 2 ^ 64) (v / 2 ^ rest)) first ∙ (ap (λ (x : ℕ). bit_or (x % 2 ^ 64) (v / 2 ^ rest)) double ∙ (ap (λ (x : ℕ). bit_or x (v / 2 ^ rest)) whole ∙ or_shifted last (64 - used) (v / 2 ^ rest) top))

pub low_value : (v n w : ℕ) → n < w → bit_and v (1 * 2 ^ n % 2 ^ w - 1) ≡ v % 2 ^ n
low_value v n w fits = ap (λ (x : ℕ). bit_and v (x - 1)) (one_shl n w fits) ∙ and_mask v n
