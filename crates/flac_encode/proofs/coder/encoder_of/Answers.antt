use Rattle.std.proofs.Common.{arith, subst, sym}
use Rattle.std.proofs.Math.Nat.{zero-mod}
use Rattle.wc_config.specs.declared.config.AudioEncoderConfig.{AudioEncoderConfig}
use Rattle.flac_definitions.specs.SubframeWriting.{HaveDepth}
use Rattle.flac_encode.specs.Steps.{IsRanged}
use Rattle.flac_encode.proofs.Filled.{fits_none}
use Rattle.flac_encode.proofs.Served.{served_range}
use Rattle.flac_encode.proofs.Steps.{samples_pos}
use Rattle.flac_encode.proofs.coder.encoder_of.Goals as goal

pub returns-clause-ready : goal.returns-clause-ready
returns-clause-ready c =
    let copy = c.in_ok-copy.field-0 in
    let g : IsRanged copy = subst (λ (x : AudioEncoderConfig). IsRanged x) (sym c.in_ok-copy.ensures) (served_range c.args.config.now c.requires) in
    record {
      ranged = g;
      whole = rw c.new.ensures.items (zero-mod copy.channels);
      short = rw c.new.ensures.items (samples_pos copy g.channels);
      fit = subst (HaveDepth copy.depth) (sym c.new.ensures.items) (fits_none copy.depth);
      number = omega arith;
    }
