use Rattle.std.proofs.Common.{◌≡◌, ◌*◌, ◌%◌, ◌^◌, arith, sym, ap, ◌∙◌}
use Rattle.std.proofs.Math.Nat.{mul-mod_left}
use Rattle.flac_bits.proofs.window.move_up.Goals as goal

pub returns-then-n-eq64 : goal.returns-then-n-eq64
returns-then-n-eq64 c =
    let e : c.args.n ≡ 64 = omega arith in
    sym (ap (λ k. c.args.word * 2 ^ k % 2 ^ 64) e ∙ mul-mod_left c.args.word (2 ^ 64))
