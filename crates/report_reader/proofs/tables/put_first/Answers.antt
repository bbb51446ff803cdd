use Rattle.std.proofs.Common.{sym, ◌∙◌}
use Rattle.std.specs.BTreeMap.{get}
use Rattle.report_reader.specs.Tables.{key_cmp}
use Rattle.report_reader.proofs.TableLaws.{absent, put_first}
use Rattle.report_reader.proofs.tables.put_first.Goals as goal

pub returns-in-Ok : goal.returns-in-Ok
returns-in-Ok g c = put_first c.args.table.now c.insert.new.self c.args.key c.args.value (absent (get key_cmp c.args.table.now c.args.key) (sym c.if-contains_key.false ∙ c.contains_key.ensures)) c.in-Ok.ensures.updates.0
