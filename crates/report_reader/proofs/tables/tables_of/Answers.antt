use Rattle.std.specs.BTreeMap.{get}
use Rattle.run_model.specs.Recorded.{steps_of}
use Rattle.report_reader.specs.{Arguments.results_of, Tables.key_cmp}
use Rattle.report_reader.proofs.TableLaws.{ends_tell}
use Rattle.report_reader.proofs.tables.tables_of.Goals as goal

pub returns : goal.returns
returns c = record {
  clones = rw c.as_slice.ensures at c.in_ok-clones.ensures;
  ends = λ k n j.
      ends_tell (steps_of c.args.script.now k) (results_of c.args.known.now.callers k) (get key_cmp c.in_ok-ends.ends (k, j)) n j (rw c.as_slice-2.ensures at c.in_ok-ends.ensures k j);
  depth = rw c.as_slice-3.ensures at c.in_ok-depth.ensures;
}
