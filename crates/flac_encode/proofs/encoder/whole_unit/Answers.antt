use Rattle.std.proofs.Common.{ℕ, ◌<◌, ◌≤◌, ◌+◌, ◌*◌, ◌%◌, subst, sym, ap, ◌∙◌, length, arith}
use Rattle.std.proofs.Math.Nat.{mul-mod_left}
use Rattle.codec_definitions.specs.FlacCode.{block_frames, block_samples}
use Rattle.flac_encode.proofs.Counts.{block_frame, block_end, total_below}
use Rattle.flac_encode.proofs.encoder.whole_unit.Goals as goal

pub place-place-requires : goal.place-place-requires
place-place-requires c =
    subst (λ (n : ℕ). c.args.j * n < c.args.begin.now.kept + c.args.frames) (sym c.block_frames.ensures) (block_frame c.args.config.now (c.args.begin.now.kept + c.args.frames) (length c.args.values.now) c.args.j c.requires.ranged c.requires.count c.requires.within)

pub overflow_mul-j : goal.overflow_mul-j
overflow_mul-j c =
    let total = c.args.begin.now.kept + c.args.frames in
    let less : c.args.j * c.block_frames.result < total =
    subst (λ (n : ℕ). c.args.j * n < total) (sym c.block_frames.ensures) (block_frame c.args.config.now total (length c.args.values.now) c.args.j c.requires.ranged c.requires.count c.requires.within) in
    let below = total_below total (length c.args.values.now) c.args.config.now.channels c.requires.ranged.channels c.requires.count in
    omega (arith, less, below)

pub block-block-requires : goal.block-block-requires
block-block-requires c =
    subst (λ (n : ℕ). n * c.args.j + n ≤ length c.args.values.now) (sym c.block_samples-size.ensures.value) (block_end (block_samples c.args.config.now) (length c.args.values.now) c.args.j c.requires.within)

pub block_unit-requires-clause-whole : goal.block_unit-requires-clause-whole
block_unit-requires-clause-whole c =
    let k = c.args.config.now in
    ap (λ (n : ℕ). n % k.channels) (c.block-block.ensures.count ∙ c.block_samples-size.ensures.value) ∙ mul-mod_left (block_frames k) k.channels
