use Rattle.std.proofs.Common.{ℤ, List, ◌++◌, sym, subst, ap, ◌∙◌}
use Rattle.flac_definitions.specs.SubframeWriting.{HaveDepth}
use Rattle.codec_definitions.specs.FlacCode.{channel_apart}
use Rattle.flac_encode.proofs.Filled.{one_more, fits_none}
use Rattle.flac_encode.proofs.block.apart.Goals as goal

pub loop-channel-init : goal.loop-channel-init
loop-channel-init c = record {
  values = c.in_ok-out.ensures.items;
  fit = subst (HaveDepth c.args.depth) (sym c.in_ok-out.ensures.items) (fits_none c.args.depth);
}

pub loop-channel-preserved : goal.loop-channel-preserved
loop-channel-preserved c =
    let f = channel_apart c.args.channels c.args.values.now in
    let n = c.loop-channel.channel in
    record {
      values = c.in_ok-push_channel.ensures.value ∙ (ap (λ (l : List ℤ). l ++ f n) c.loop-channel.invariant.values ∙ sym (one_more f n));
      fit = c.in_ok-push_channel.ensures.fit;
    }
