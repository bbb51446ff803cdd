use Rattle.std.proofs.Common.{ℕ, ◌+◌, ◌*◌, ◌<◌, subst, sym}
use Rattle.codec_definitions.specs.FlacCode.{block_samples}
use Rattle.flac_encode.proofs.Counts.{left_frame}
use Rattle.flac_encode.proofs.encoder.left_place.Goals as goal

pub place-requires : goal.place-requires
place-requires c =
    let c0 = c.args.config.now in
    let less : block_samples c0 * c.args.blocks < c.args.count = subst (λ (n : ℕ). n * c.args.blocks < c.args.count) c.block_samples.ensures.value c.if-block_samples-blocks.true in
    subst (λ (n : ℕ). c.args.blocks * n < c.args.begin.now.kept + c.args.frames) (sym c.block_frames.ensures) (left_frame c0 (c.args.begin.now.kept + c.args.frames) c.args.count c.args.blocks c.requires.count less)
