use Rattle.std.proofs.Common.{◌≡◌, Err, ap}
use Rattle.trace_text.specs.declared.report.WriteFault.{WriteFault}
use Rattle.wcrun.proofs.Texts.{text_failed, text_cut}
use Rattle.wcrun.proofs.calls.report.Goals as goal

pub returns-in-Err-Failed : goal.returns-in-Err-Failed
returns-in-Err-Failed g c =
    let h = c.in-Err-Failed.field-0-is in
    let q : c.in-Err-Failed.field-0 ≡ WriteFault.Failed = cc in
    text_failed _ _ _ _ _ c.in-Err-Failed.ensures.part (c.in-Err-Failed.ensures.failed (ap Err q))

pub returns-in-Ok-write_all : goal.returns-in-Ok-write_all
returns-in-Ok-write_all g c = text_cut _ _ _ _ _ _ c.in-Err-NoMemory.ensures.part c.in-Ok-write_all.ensures.ok
