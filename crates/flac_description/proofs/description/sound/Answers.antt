use Rattle.std.proofs.Common.{arith, ◌-◌}
use Rattle.flac_description.proofs.Writing.{sound_fields}
use Rattle.flac_description.proofs.description.sound.Goals as goal

pub returns : goal.returns
returns c =
    let info = c.args.info.now in
    sound_fields info.rate (info.channels - 1) (info.depth - 1) info.total
    (omega (arith, c.requires.few_channels)) (omega (arith, c.requires.few_depth)) c.requires.total
