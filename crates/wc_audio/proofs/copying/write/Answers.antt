use Rattle.std.proofs.Common.{◌≡◌, ◌∙◌, true, length, arith, sym}
use Rattle.codec_definitions.specs.Pcm.{format_size, is_planar}
use Rattle.wc_audio.proofs.Plans.{channel_room, frames_room, copied_channel, copied_frames}
use Rattle.wc_audio.proofs.copying.write.Goals as goal

pub copy_channel-requires-clause-channel : goal.copy_channel-requires-clause-channel
copy_channel-requires-clause-channel c =
    let planar : is_planar c.args.p.now.format ≡ true = sym c.is_planar.ensures ∙ c.if-is_planar.true in
    let there = c.requires.plan.plane planar in
    omega (arith, there)

pub copy_channel-requires-clause-room : goal.copy_channel-requires-clause-room
copy_channel-requires-clause-room c =
    let p = c.args.p.now in
    channel_room (is_planar p.format) (format_size p.format) _ c.args.shape.now.channels p.count (length c.args.to.now) (sym c.is_planar.ensures ∙ c.if-is_planar.true) c.sample_size-size.ensures c.requires.room

pub copy_frames-requires-clause-room : goal.copy_frames-requires-clause-room
copy_frames-requires-clause-room c =
    let p = c.args.p.now in
    frames_room (is_planar p.format) (format_size p.format) _ c.args.shape.now.channels p.count (length c.args.to.now) (sym c.is_planar.ensures ∙ c.if-is_planar.false) c.sample_size-size.ensures c.requires.room

pub returns-then-is_planar : goal.returns-then-is_planar
returns-then-is_planar c =
    c.copy_channel.ensures ∙ copied_channel c.args.shape.now c.args.bytes.now c.args.p.now _ (sym c.is_planar.ensures ∙ c.if-is_planar.true) c.sample_size-size.ensures

pub returns-else-is_planar : goal.returns-else-is_planar
returns-else-is_planar c =
    c.copy_frames.ensures ∙ copied_frames c.args.shape.now c.args.bytes.now c.args.p.now _ (sym c.is_planar.ensures ∙ c.if-is_planar.false) c.sample_size-size.ensures
