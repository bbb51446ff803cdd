use Rattle.std.proofs.Common.{◌∙◌}
use Rattle.std.proofs.lemmas.Int.{to_z-of_z}
use mir.Syntax.{w64}
use Rattle.flac_decode.proofs.FrameLaws.{shifted_value}
use Rattle.flac_decode.proofs.output.shift_up.Goals as goal

pub overflow_mul-result : goal.overflow_mul-result
overflow_mul-result c = (shifted_value c.args.sample c.args.up c.ranges.sample c.requires.up c.requires.small).1

pub returns : goal.returns
returns c =
    let v = shifted_value c.args.sample c.args.up c.ranges.sample c.requires.up c.requires.small in to_z-of_z w64 _ v.1 ∙ v.0
