use Rattle.std.proofs.Common.{map, Err, Ok, sym, subst}
use Rattle.run_model.specs.Fits.{FitsInOrder, IsLegalRun}
use Rattle.report_reader.specs.{Fault.Gives, declared.fault.ReportFault.ReportFault}
use Rattle.report_check.proofs.ReplayLaws.{right_is_read}
use Rattle.report_check.proofs.checking.check.Goals as goal

pub returns-in-Ok-clause-only : goal.returns-in-Ok-clause-only
returns-in-Ok-clause-only g c within right =
    let s = c.args.script.now in
    let media = c.args.media.now in
    let made = map g.C.Coder.coder c.args.coders.items in
    let same = right_is_read c.legal_runs_are_told.ensures.told s media made c.args.report.now (Ok c.in-Ok.run') c.data-data.ensures.sound within c.in-Ok.ensures.only right in
    c.compare.ensures.only (subst (IsLegalRun s) (sym same) right.legal) (subst (FitsInOrder s media made) (sym same) right.fits)

pub returns-in-Err-BadLine-clause-only : goal.returns-in-Err-BadLine-clause-only
returns-in-Err-BadLine-clause-only g c within right =
    let made = map g.C.Coder.coder c.args.coders.items in
    let read = right_is_read c.legal_runs_are_told.ensures.told c.args.script.now c.args.media.now made c.args.report.now (Err c.in-Err-BadLine.field-0) c.data-data.ensures.sound within c.in-Err-BadLine.ensures.only right in
    absurd (subst (λ (f : ReportFault). Gives (Err f) right.run) c.in-Err-BadLine.field-0-is read)
