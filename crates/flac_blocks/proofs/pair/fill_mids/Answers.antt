use Rattle.std.proofs.Common.{arith}
use Rattle.flac_definitions.specs.Modes.{mid_of}
use Rattle.flac_blocks.specs.CodedLaws.{pairwise_filled}
use Rattle.flac_blocks.proofs.pair.fill_mids.Goals as goal

pub returns : goal.returns
returns c =
    let v = c.loop-i.invariant in
    pairwise_filled mid_of c.args.left.now c.args.right.now c.loop-i.out c.requires.same v.count (λ k l. v.values k (omega (arith, l, v.count)))
