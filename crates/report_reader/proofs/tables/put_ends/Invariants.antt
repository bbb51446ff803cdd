use Rattle.std.proofs.Common.{ℕ, ◌≡◌}
use Rattle.std.specs.BTreeMap.{get}
use Rattle.std.specs.Option.{option_or}
use Rattle.report_reader.specs.Tables.{key_cmp, end_of}
use Rattle.report_reader.proofs.tables.put_ends.Given as goal

abbrev pub invariant-loop-number : goal.invariant-loop-number
invariant-loop-number l = (k j : ℕ) → get key_cmp l.ends (k, j) ≡ option_or (get key_cmp l.fn.ends (k, j)) (end_of l.caller l.steps l.results l.number k j)
