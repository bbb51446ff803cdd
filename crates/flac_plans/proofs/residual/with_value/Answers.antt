use Rattle.std.proofs.Common.{List, Bool, ◌++◌, ap, sym, ◌∙◌, arith}
use Rattle.flac_definitions.specs.Bits.{bits_of}
use Rattle.flac_definitions.specs.ResidualWriting.{rice_bits}
use Rattle.std.proofs.lemmas.Result.{IfOk-weaker, on_err_weaker}
use Rattle.flac_plans.specs.Held.{IsHeld}
use Rattle.flac_plans.proofs.Spelled.{on_err}
use Rattle.flac_plans.proofs.HeldLaws.{all_held, written_held, written_begun, not_written, rice_held, rice_fits}
use Rattle.flac_plans.proofs.residual.with_value.Goals as goal

pub joined-both-requires-clause-value : goal.joined-both-requires-clause-value
joined-both-requires-clause-value c = rice_fits c.args.k c.args.z _ c.tail_of-tail.result (omega arith) c.tail_of-tail.ensures.bound

pub returns-then-count-room-clause-ok : goal.returns-then-count-room-clause-ok
returns-then-count-room-clause-ok c =
    let a = c.args in
    let held = bits_of a.held.count a.held.word in
    all_held a.w.now (held ++ rice_bits a.k a.z) c.joined-both.result
    (sym (c.joined-both.ensures.bits ∙ ap (λ (l : List Bool). held ++ l) (rice_held a.k a.z _ c.tail_of-tail.result (omega arith) c.tail_of-tail.ensures.value)))

pub returns-in_err-put-clause-err : goal.returns-in_err-put-clause-err
returns-in_err-put-clause-err c =
    let a = c.args in
    on_err c.from_residual.result (not_written a.w.now (bits_of a.held.count a.held.word) (rice_bits a.k a.z) c.put.new.self c.in_err-put.ensures.err)

pub returns-clause-ok : goal.returns-clause-ok
returns-clause-ok c =
    let a = c.args in
    let held = bits_of a.held.count a.held.word in
    IfOk-weaker c.put_value.result (IsHeld c.put.new.self (rice_bits a.k a.z) c.put_value.new.w) (IsHeld a.w.now (held ++ rice_bits a.k a.z) c.put_value.new.w)
    (λ more h. written_held a.w.now held (rice_bits a.k a.z) c.put.new.self c.put_value.new.w more c.in_ok-put.ensures.ok h) c.put_value.ensures.ok

pub returns-clause-err : goal.returns-clause-err
returns-clause-err c =
    let a = c.args in
    on_err_weaker c.put_value.result (λ h. written_begun a.w.now (bits_of a.held.count a.held.word) (rice_bits a.k a.z) c.put.new.self c.put_value.new.w c.in_ok-put.ensures.ok h) c.put_value.ensures.err
