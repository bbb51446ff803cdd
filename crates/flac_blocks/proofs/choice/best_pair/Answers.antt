use Rattle.std.proofs.Common.{◌+◌, arith, ◌∙◌}
use Rattle.flac_blocks.proofs.Choices.{are_parts, are_pair, if_best, small_bits, depth_small, AreParts}
use Rattle.flac_blocks.proofs.choice.best_pair.Goals as goal

pub pair_choices-requires-clause-side : goal.pair_choices-requires-clause-side
pair_choices-requires-clause-side c =
    let f = c.args.format in
    let l = c.split_at.result.0.now in
    let r = c.split_at.result.1.now in
    let s = c.as_slice-side.result.now in
    let t = c.as_slice-mid.result.now in
    let p : AreParts f c.args.block c.args.samples.now l r s t = are_parts f c.args.block c.args.samples.now l r s t c.requires.pairs c.requires.block c.split_at.ensures.front c.split_at.ensures.back (c.as_slice-side.ensures.value ∙ c.in_ok-sides.ensures) (c.as_slice-mid.ensures.value ∙ c.in_ok-mids.ensures) in
    omega (arith, p.side, p.left)

pub pair_choices-requires-clause-mid : goal.pair_choices-requires-clause-mid
pair_choices-requires-clause-mid c =
    let f = c.args.format in
    let l = c.split_at.result.0.now in
    let r = c.split_at.result.1.now in
    let s = c.as_slice-side.result.now in
    let t = c.as_slice-mid.result.now in
    let p : AreParts f c.args.block c.args.samples.now l r s t = are_parts f c.args.block c.args.samples.now l r s t c.requires.pairs c.requires.block c.split_at.ensures.front c.split_at.ensures.back (c.as_slice-side.ensures.value ∙ c.in_ok-sides.ensures) (c.as_slice-mid.ensures.value ∙ c.in_ok-mids.ensures) in
    omega (arith, p.mid, p.left)

pub chosen-requires-clause-left : goal.chosen-requires-clause-left
chosen-requires-clause-left c =
    let f = c.args.format in
    let l = c.split_at.result.0.now in
    let r = c.split_at.result.1.now in
    let s = c.as_slice-side.result.now in
    let t = c.as_slice-mid.result.now in
    let p : AreParts f c.args.block c.args.samples.now l r s t = are_parts f c.args.block c.args.samples.now l r s t c.requires.pairs c.requires.block c.split_at.ensures.front c.split_at.ensures.back (c.as_slice-side.ensures.value ∙ c.in_ok-sides.ensures) (c.as_slice-mid.ensures.value ∙ c.in_ok-mids.ensures) in
    small_bits f.depth f.level l c.in_ok-choices.choices.left (omega (arith, depth_small f c.requires.format c.requires.pairs)) (omega (arith, p.left, c.requires.block.few)) c.in_ok-choices.ensures.left

pub chosen-requires-clause-right : goal.chosen-requires-clause-right
chosen-requires-clause-right c =
    let f = c.args.format in
    let l = c.split_at.result.0.now in
    let r = c.split_at.result.1.now in
    let s = c.as_slice-side.result.now in
    let t = c.as_slice-mid.result.now in
    let p : AreParts f c.args.block c.args.samples.now l r s t = are_parts f c.args.block c.args.samples.now l r s t c.requires.pairs c.requires.block c.split_at.ensures.front c.split_at.ensures.back (c.as_slice-side.ensures.value ∙ c.in_ok-sides.ensures) (c.as_slice-mid.ensures.value ∙ c.in_ok-mids.ensures) in
    small_bits f.depth f.level r c.in_ok-choices.choices.right (omega (arith, depth_small f c.requires.format c.requires.pairs)) (omega (arith, p.right, c.requires.block.few)) c.in_ok-choices.ensures.right

pub chosen-requires-clause-side : goal.chosen-requires-clause-side
chosen-requires-clause-side c =
    let f = c.args.format in
    let l = c.split_at.result.0.now in
    let r = c.split_at.result.1.now in
    let s = c.as_slice-side.result.now in
    let t = c.as_slice-mid.result.now in
    let p : AreParts f c.args.block c.args.samples.now l r s t = are_parts f c.args.block c.args.samples.now l r s t c.requires.pairs c.requires.block c.split_at.ensures.front c.split_at.ensures.back (c.as_slice-side.ensures.value ∙ c.in_ok-sides.ensures) (c.as_slice-mid.ensures.value ∙ c.in_ok-mids.ensures) in
    small_bits (f.depth + 1) f.level s c.in_ok-choices.choices.side (omega (arith, depth_small f c.requires.format c.requires.pairs)) (omega (arith, p.side, c.requires.block.few)) c.in_ok-choices.ensures.side

pub chosen-requires-clause-mid : goal.chosen-requires-clause-mid
chosen-requires-clause-mid c =
    let f = c.args.format in
    let l = c.split_at.result.0.now in
    let r = c.split_at.result.1.now in
    let s = c.as_slice-side.result.now in
    let t = c.as_slice-mid.result.now in
    let p : AreParts f c.args.block c.args.samples.now l r s t = are_parts f c.args.block c.args.samples.now l r s t c.requires.pairs c.requires.block c.split_at.ensures.front c.split_at.ensures.back (c.as_slice-side.ensures.value ∙ c.in_ok-sides.ensures) (c.as_slice-mid.ensures.value ∙ c.in_ok-mids.ensures) in
    small_bits f.depth f.level t c.in_ok-choices.choices.mid (omega (arith, depth_small f c.requires.format c.requires.pairs)) (omega (arith, p.mid, c.requires.block.few)) c.in_ok-choices.ensures.mid

pub returns : goal.returns
returns c =
    let f = c.args.format in
    let l = c.split_at.result.0.now in
    let r = c.split_at.result.1.now in
    let s = c.as_slice-side.result.now in
    let t = c.as_slice-mid.result.now in
    let p : AreParts f c.args.block c.args.samples.now l r s t = are_parts f c.args.block c.args.samples.now l r s t c.requires.pairs c.requires.block c.split_at.ensures.front c.split_at.ensures.back (c.as_slice-side.ensures.value ∙ c.in_ok-sides.ensures) (c.as_slice-mid.ensures.value ∙ c.in_ok-mids.ensures) in
    let o = c.in_ok-choices.choices in
    let q = are_pair f c.args.block c.args.samples.now l r s t o.left o.right o.side o.mid p c.in_ok-choices.ensures.left c.in_ok-choices.ensures.right c.in_ok-choices.ensures.side c.in_ok-choices.ensures.mid in
    if_best f c.args.block c.args.samples.now l r s t o.left o.right o.side o.mid c.chosen.result c.requires.format c.requires.pairs q c.chosen.ensures.mode c.chosen.ensures.coded c.chosen.ensures.choices
