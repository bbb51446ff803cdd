use Rattle.std.proofs.Common.{ℤ, List, ◌≡◌, ◌++◌, subst}
use Rattle.std.specs.Prelude.{OnOk}
use Rattle.flac_encode.proofs.Runs.{run_count, values_in_turn}
use Rattle.flac_encode.proofs.values.push_in_turn.Goals as goal

pub push_run-requires-clause-whole : goal.push_run-requires-clause-whole
push_run-requires-clause-whole c = run_count c.args.shape.now c.args.bytes.now c.format_size-size.result c.requires.whole c.format_size-size.ensures.value

pub returns-clause-values : goal.returns-clause-values
returns-clause-values c =
    subst (λ (l : List ℤ). OnOk c.push_run.result (c.push_run.new.out.items ≡ c.args.out.now.items ++ l))
    (values_in_turn c.args.config.now (record { shape = c.args.shape.now; bytes = c.args.bytes.now }) c.format_size-size.result c.requires.in_turn c.requires.same c.format_size-size.ensures.value)
    c.push_run.ensures.values
