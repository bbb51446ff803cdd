use Rattle.std.proofs.Common.{ℕ, ◌≡◌}
use Rattle.media_accounts.specs.Contents.{From, bytes_kept, kept_before}
use Rattle.report_reader.proofs.clones.find_bytes.Given as goal

abbrev pub invariant-loop-number : goal.invariant-loop-number
invariant-loop-number l = (from : ℕ → From) → bytes_kept (kept_before l.steps from l.end l.number) ≡ bytes_kept (kept_before l.steps from l.before l.step)

abbrev pub decreases-loop-number : goal.decreases-loop-number
decreases-loop-number l = l.end
