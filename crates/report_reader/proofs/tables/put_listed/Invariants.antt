use Rattle.std.proofs.Common.{ℕ, ◌≡◌, length}
use Rattle.std.specs.BTreeMap.{get}
use Rattle.std.specs.Option.{option_or}
use Rattle.media_variables.specs.Variables.{steps_in}
use Rattle.report_reader.specs.Tables.{key_cmp, is_named, named_at}
use Rattle.report_reader.proofs.tables.put_listed.Given as goal

abbrev pub invariant-loop-rest : goal.invariant-loop-rest
invariant-loop-rest l = (k j : ℕ) → option_or (get key_cmp l.ends (k, j)) (named_at l.caller k (is_named j (steps_in l.rest)) l.number)
    ≡ option_or (get key_cmp l.fn.ends (k, j)) (named_at l.caller k (is_named j (steps_in l.listed)) l.number)

abbrev pub decreases-loop-rest : goal.decreases-loop-rest
decreases-loop-rest l = length l.rest
