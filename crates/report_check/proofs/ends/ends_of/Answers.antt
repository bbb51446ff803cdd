use Rattle.std.proofs.Common.{ℕ, ◌≡◌, ◌+◌, ap, ◌∙◌, rules}
use Rattle.report_check.proofs.EndLaws.{ends_further}
use Rattle.report_check.proofs.ends.ends_of.Goals as goal

pub loop-trace-preserved : goal.loop-trace-preserved
loop-trace-preserved c =
    let at = c.loop-trace in
    let more : c.in_ok-codec.codec ≡ at.codec + 1 = search rules in
    record {
      so_far = ends_further c.args.codecs.now at.trace-index at.codec c.trace-item.result at.ends.items c.push_ends.new.ends.items c.loop-trace-test.true c.trace-item.is at.invariant.number at.invariant.so_far c.in_ok-push_ends.ensures;
      number = more ∙ ap (λ (n : ℕ). n + 1) at.invariant.number;
    }
