use Rattle.std.proofs.Common.{◌≡◌, ◌++◌}
use Rattle.flac_definitions.specs.FrameWriting.{channels_spelled}
use Rattle.flac_blocks.proofs.frame.write_channels.Given as goal

abbrev pub invariant-loop-c : goal.invariant-loop-c
invariant-loop-c l = l.w ≡ l.fn.w ++ channels_spelled l.format l.choice.mode l.block l.choice.coded.items l.c
