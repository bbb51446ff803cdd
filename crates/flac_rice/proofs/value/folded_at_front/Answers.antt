use Rattle.std.proofs.Common.{◌≡◌, ◌≤◌, ◌<◌, ◌+◌, ◌-◌, ◌*◌, ◌/◌, ◌%◌, ◌^◌, ℕ, arith, ap, subst, sym, ◌∙◌}
use Rattle.std.specs.Prelude.{bit_and}
use Rattle.std.proofs.lemmas.Nat.{one_shl, and_mask, mod_low, mod_below, pow_pos, pow-add}
use Rattle.flac_bits.specs.WindowLaws.{from_one, small_shift}
use Rattle.flac_rice.proofs.value.folded_at_front.Goals as goal

bounds : (word q z k : ℕ) → z ≡ q → (2 ^ k ≤ word * 2 ^ q % 2 ^ 64 / 2 ^ (63 - k)) × (word * 2 ^ q % 2 ^ 64 / 2 ^ (63 - k) < 2 ^ (k + 1)) → (2 ^ k ≤ word * 2 ^ z % 2 ^ 64 / 2 ^ (63 - k)) × (word * 2 ^ z % 2 ^ 64 / 2 ^ (63 - k) < 2 ^ (k + 1))
bounds word q z k e h = subst (λ (n : ℕ). (2 ^ k ≤ word * 2 ^ n % 2 ^ 64 / 2 ^ (63 - k)) × (word * 2 ^ n % 2 ^ 64 / 2 ^ (63 - k) < 2 ^ (k + 1))) (sym e) h

-- the bits behind a 1
behind_one : (x k : ℕ) → 2 ^ k ≤ x → x < 2 ^ (k + 1) → x % 2 ^ k ≡ x - 2 ^ k
behind_one x k l h =
    let b = x - 2 ^ k in
    let e : x ≡ 1 * 2 ^ k + b = omega (arith, l) in
    let s : b < 2 ^ k = omega (arith, l, h, pow-add 2 k 1) in
    ap (λ n. n % 2 ^ k) e ∙ mod_low 1 k b s

masked : (x k : ℕ) → k < 64 → bit_and x (1 * 2 ^ k % 2 ^ 64 - 1) ≡ x % 2 ^ k
masked x k h = ap (λ m. bit_and x (m - 1)) (one_shl k 64 h) ∙ and_mask x k

pub overflow_sub-result : goal.overflow_sub-result
overflow_sub-result c = omega (arith, one_shl c.args.parameter 64 (omega arith), pow_pos c.args.parameter)

pub overflow_add-result : goal.overflow_add-result
overflow_add-result c =
    let k = c.args.parameter in
    let x = c.args.word * 2 ^ c.args.zeros % 2 ^ 64 / 2 ^ (63 - k) in
    let m : x % 2 ^ k < 2 ^ k = mod_below x (2 ^ k) (pow_pos k) in
    let b : bit_and x (1 * 2 ^ k % 2 ^ 64 - 1) ≡ x % 2 ^ k = masked x k (omega arith) in
    let s = small_shift c.args.zeros k (omega arith) (omega arith) in
    let t = small_shift 1 k (omega arith) (omega arith) in
    omega (arith, m, b, s.0, s.1, t.1)

pub returns : goal.returns
returns c =
    let k = c.args.parameter in
    let x = c.args.word * 2 ^ c.args.zeros % 2 ^ 64 / 2 ^ (63 - k) in
    let h = bounds c.args.word _ c.args.zeros k c.requires.zeros (from_one c.args.word k (omega arith) (omega (arith, c.requires.zeros))) in
    let b : bit_and x (1 * 2 ^ k % 2 ^ 64 - 1) ≡ x - 2 ^ k = masked x k (omega arith) ∙ behind_one x k h.0 h.1 in
    let s = small_shift c.args.zeros k (omega arith) (omega arith) in
    omega (arith, b, s.0)
