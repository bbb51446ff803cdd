use Rattle.std.proofs.Common.{rules}
use Rattle.trace_text.proofs.Steps.{next_piece, so_far_part}
use Rattle.trace_text.proofs.report.write_lines.Goals as goal

pub returns-in_err-write_all : goal.returns-in_err-write_all
returns-in_err-write_all g c =
    let next = rw c.if-branch.true at c.in_ok-next_text.ensures.next in
    record {
      ok = search rules;
      part = so_far_part _ _ _ _ _ _ (next_piece _ _ _ _ _ next.0 c.loop-text.invariant.so_far) (rw c.as_slice.ensures.value at c.in_err-write_all.ensures.part);
      later = search rules;
      failed = search rules;
    }
