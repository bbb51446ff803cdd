use Rattle.std.proofs.Common.{length, ◌/◌, ◌≡◌, ◌∙◌, sym, subst, rules}
use Rattle.flac_definitions.specs.Bits.{bits_in}
use Rattle.flac_definitions.specs.SubframeWriting.{HaveDepth}
use Rattle.flac_definitions.specs.Modes.{IsBlock}
use Rattle.flac_definitions.specs.declared.mode.BlockFormat.{BlockFormat}
use Rattle.codec_definitions.specs.FlacCode.{apart, bytes_with}
use Rattle.flac_encode.proofs.Filled.{block_stands, block_code}
use Rattle.flac_encode.proofs.block.code_block.Goals as goal

pub encode_block-requires-clause-block : goal.encode_block-requires-clause-block
encode_block-requires-clause-block c =
    let values = c.args.values.now in
    let config = c.args.config.now in
    let is : c.as_slice.result.now ≡ apart config.channels values = c.as_slice.ensures.value ∙ c.in_ok-samples.ensures.value in
    let fit : HaveDepth config.depth c.as_slice.result.now = subst (HaveDepth config.depth) (sym c.as_slice.ensures.value) c.in_ok-samples.ensures.fit in
    subst (λ (f : BlockFormat). IsBlock f (length values / config.channels) c.as_slice.result.now) (sym c.format_of.ensures.value)
    (block_stands config values c.as_slice.result.now c.requires.ranged c.requires.some c.requires.few c.requires.whole is fit)

pub returns-in-Ok : goal.returns-in-Ok
returns-in-Ok c =
    let own : c.in_ok-bytes.bytes.items ≡ bytes_with (bits_in c.in_ok-bytes.bytes.items) = search rules in
    c.in-Ok.ensures.ok ∙ block_code c.args.config.now c.args.number c.args.values.now c.in_ok-samples.samples.items c.as_slice.result.now c.format_of.result c.in_ok-bytes.bytes.items own c.format_of.ensures.value c.as_slice.ensures.value c.in_ok-samples.ensures.value c.in_ok-bytes.ensures
