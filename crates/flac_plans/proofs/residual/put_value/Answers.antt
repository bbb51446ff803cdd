use Rattle.std.proofs.Common.{ℕ, ap, ◌∙◌, sym, ◌/◌, ◌^◌, ◌+◌, ◌++◌, arith}
use Rattle.flac_definitions.specs.Bits.{bits_of}
use Rattle.flac_plans.proofs.Spelled.{on_err, rice_short, tail_fits, begun_zeros, zeros_and_tail}
use Rattle.flac_plans.proofs.HeldLaws.{all_held, held_behind}
use Rattle.flac_plans.proofs.residual.put_value.Goals as goal

pub returns-then-zeros-le48-clause-ok : goal.returns-then-zeros-le48-clause-ok
returns-then-zeros-le48-clause-ok c =
    let k = c.args.k in
    let z = c.args.z in
    all_held c.args.w.now _ _ (sym (ap (bits_of (z / 2 ^ k + k + 1)) c.tail_of-tail.ensures.value ∙ rice_short k z))

pub returns-then-zeros-le48-clause-word : goal.returns-then-zeros-le48-clause-word
returns-then-zeros-le48-clause-word c = record { short = omega arith; small = tail_fits c.args.k (c.args.z / 2 ^ c.args.k) c.tail_of-tail.result c.tail_of-tail.ensures.bound }

pub returns-clause-ok : goal.returns-clause-ok
returns-clause-ok c =
    let k = c.args.k in
    let z = c.args.z in
    held_behind c.args.w.now (bits_of (z / 2 ^ k) 0) _ c.put_zeros.new.w _ c.in_ok-put_zeros.ensures.ok
    (sym (ap (λ (x : ℕ). bits_of (z / 2 ^ k) 0 ++ bits_of (k + 1) x) c.tail_of-tail.ensures.value ∙ zeros_and_tail k z))

pub returns-in_err-put_zeros-clause-err : goal.returns-in_err-put_zeros-clause-err
returns-in_err-put_zeros-clause-err c = on_err c.from_residual.result (begun_zeros c.args.w.now c.put_zeros.new.w c.args.k c.args.z c.in_err-put_zeros.ensures.err)
