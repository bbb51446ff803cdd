use Rattle.std.proofs.Common.{◌≡◌, ◌≤◌, ◌<◌, ◌+◌, ◌-◌, ◌/◌, ◌^◌, ℕ, arith, sym, subst, mod-eq_of_lt}
use Rattle.std.proofs.lemmas.Nat.{shr_below}
use Rattle.flac_bits.proofs.window.front.Goals as goal

below : (word n : ℕ) → n ≤ 64 → word < 2 ^ 64 → word / 2 ^ (64 - n) < 2 ^ n
below word n h fits = shr_below word n (64 - n) (subst (λ (k : ℕ). word < 2 ^ k) (let s : 64 ≡ n + (64 - n) = omega arith in s) fits)

pub returns-else-n-eq0-clause-number : goal.returns-else-n-eq0-clause-number
returns-else-n-eq0-clause-number c = sym (mod-eq_of_lt (below c.args.word c.args.n c.requires (omega arith)))

pub returns-else-n-eq0-clause-fits : goal.returns-else-n-eq0-clause-fits
returns-else-n-eq0-clause-fits c = below c.args.word c.args.n c.requires (omega arith)
