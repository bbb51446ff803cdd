use Rattle.std.proofs.Common.{◌∙◌, ap}
use Rattle.wc_demux.specs.Wav.{joined}
use Rattle.wc_demux.proofs.PieceLaws.{all_joined}
use Rattle.wc_demux.proofs.wav.read_wav.Goals as goal

pub returns-clause-joined : goal.returns-clause-joined
returns-clause-joined c =
    let s = c.in-Ok.sound in (
      (s.0, s.1.now),
      c.in-Ok.ensures.sound,
      ap joined (c.of.ensures ∙ c.in_ok-chunks.ensures) ∙ all_joined c.args.per_chunk s.0 s.1.now c.requires c.in-Ok.ensures.whole,
    )
