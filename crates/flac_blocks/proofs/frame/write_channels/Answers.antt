use Rattle.flac_definitions.specs.FrameWriting.{channel_spelled}
use Rattle.flac_blocks.proofs.Written.{part_more}
use Rattle.flac_blocks.proofs.frame.write_channels.Goals as goal

pub loop-c-preserved : goal.loop-c-preserved
loop-c-preserved c =
    part_more (channel_spelled c.args.format c.args.choice.now.mode c.args.block c.args.choice.now.coded.items) c.args.w.now c.loop-c.w c.write_channel.new.w c.loop-c.c c.loop-c.invariant c.in_ok-write_channel.ensures
