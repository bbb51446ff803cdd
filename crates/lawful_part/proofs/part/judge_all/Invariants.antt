use Rattle.std.proofs.Common.{◌≡◌, take}
use Rattle.lawful_part.specs.Lawful.{lawful_traces}
use Rattle.lawful_part.proofs.part.judge_all.Given as goal

abbrev pub invariant-loop-place : goal.invariant-loop-place
invariant-loop-place g l = record {
  judged : l.traces.items ≡ lawful_traces l.fn.lender.home (take l.place l.script.codecs) l.fn.traces.items;
  same : l.lender ≡ l.fn.lender;
}
