use Rattle.std.proofs.Common.{◌∙◌, length, arith}
use Rattle.codec_definitions.specs.Pcm.{format_size, place_of}
use Rattle.sample_conversion.specs.Sizes.{size_of}
use Rattle.sample_conversion.proofs.Layouts.{format_some, place_there, place_small, channel_there, channel_copied}
use Rattle.sample_conversion.proofs.copy.copy_channel.Goals as goal

pub place_at-place-requires : goal.place_at-place-requires
place_at-place-requires c =
    let shape = c.args.shape.now in
    let some = format_some shape c.format_size-s.result c.format_size-s.ensures.value c.format_size-s.ensures.size in
    let there = place_there shape c.args.bytes.now c.args.first c.args.channel c.requires.whole (omega (arith, c.requires.frames, c.if-count-eq0.false)) (omega (arith, c.requires.channel)) in
    let small = place_small (format_size shape.format) (place_of shape c.args.first c.args.channel) (length c.args.bytes.now) some there in
    omega (arith, small)

pub copy_run-requires-clause-there : goal.copy_run-requires-clause-there
copy_run-requires-clause-there c = λ i below.
    rw (c.format_size-s.ensures.value, c.place_at-place.ensures, c.frame_step.ensures)
    (channel_there c.args.shape.now c.args.bytes.now c.args.first i c.args.channel c.requires.whole (omega (arith, below, c.requires.frames)) (omega (arith, c.requires.channel)))

pub returns : goal.returns
returns c =
    c.copy_run.ensures ∙ rw (c.format_size-s.ensures.value, c.place_at-place.ensures, c.frame_step.ensures) (channel_copied c.args.shape.now c.args.bytes.now (size_of c.args.size) c.args.first c.args.count c.args.channel)
