use Rattle.std.proofs.Common.{ℕ, List, Bool, ◌++◌, ap, ◌∙◌, ◌≡◌, sym, subst, ◌/◌, ◌*◌, ◌%◌, append-nil, arith, ◌+◌}
use Rattle.std.specs.Result.{OnOk}
use Rattle.std.proofs.lemmas.Result.{on_err_weaker}
use Rattle.flac_definitions.specs.Bits.{bits_of}
use Rattle.flac_write.specs.WriterLaws.{zeros_more, bits_none}
use Rattle.flac_plans.proofs.Spelled.{on_err, some_zeros}
use Rattle.flac_plans.proofs.residual.put_zeros.Goals as goal

pub loop-i-init : goal.loop-i-init
loop-i-init c = sym (ap (λ (l : List Bool). c.args.w.now ++ l) (bits_none 0) ∙ append-nil c.args.w.now)

pub loop-i-preserved : goal.loop-i-preserved
loop-i-preserved c =
    let now = c.args.w.now in
    let i = c.loop-i._i in
    c.in_ok-put.ensures.ok ∙ (ap (λ (l : List Bool). l ++ bits_of 32 0) c.loop-i.invariant ∙ (zeros_more now (32 * i) 32 ∙ ap (λ (n : ℕ). now ++ bits_of n 0) (let e : 32 * i + 32 ≡ 32 * (i + 1) = omega arith in e)))

pub returns-in_err-put-clause-err : goal.returns-in_err-put-clause-err
returns-in_err-put-clause-err c = on_err c.from_residual.result (some_zeros c.args.w.now c.loop-i.w c.put.new.self (32 * c.loop-i._i) c.args.n (omega arith) c.loop-i.invariant c.in_err-put.ensures.err)

pub returns-clause-err : goal.returns-clause-err
returns-clause-err c = on_err_weaker c.put-2.result (λ e. some_zeros c.args.w.now c.loop-i.w c.put-2.new.self (32 * c.loop-i._i) c.args.n (omega arith) c.loop-i.invariant e) c.put-2.ensures.err

pub returns-clause-ok : goal.returns-clause-ok
returns-clause-ok c =
    let now = c.args.w.now in
    let n = c.args.n in
    let i = c.loop-i._i in
    let count : i ≡ n / 32 = omega arith in
    let same : c.loop-i.w ++ bits_of (n % 32) 0 ≡ now ++ bits_of n 0 =
    ap (λ (l : List Bool). l ++ bits_of (n % 32) 0) c.loop-i.invariant ∙ (zeros_more now (32 * i) (n % 32) ∙ ap (λ (m : ℕ). now ++ bits_of m 0) (let e : 32 * i + n % 32 ≡ n = omega (arith, count) in e)) in
    subst (λ (l : List Bool). OnOk c.put-2.result (c.put-2.new.self ≡ l)) same c.put-2.ensures.ok
