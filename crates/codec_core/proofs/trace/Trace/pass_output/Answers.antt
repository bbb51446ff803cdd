use Rattle.std.proofs.Common.{refl, map}
use Rattle.codec_model.specs.Shown.{shown_of}
use Rattle.codec_core.proofs.Outputs.{behind_passed}
use Rattle.codec_core.proofs.trace.Trace.pass_output.Goals as goal

pub returns : goal.returns
returns c =
    rw (← c.self.view_is, behind_passed c.seek-entry.result.0 c.seek-entry.result.1 (map shown_of c.self.inside.shown.items), c.seek-entry.ensures.same) refl
