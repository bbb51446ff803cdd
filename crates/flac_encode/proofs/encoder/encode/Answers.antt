use Rattle.std.proofs.Common.{◌≡◌, length, rules, ◌++◌}
use Rattle.wc_base.specs.declared.media.Samples.{Samples}
use Rattle.codec_definitions.specs.FlacEncoder.{values_in}
use Rattle.flac_encode.proofs.Counts.{joined_count}
use Rattle.flac_encode.proofs.encoder.encode.Goals as goal

pub leave-requires-clause-count : goal.leave-requires-clause-count
leave-requires-clause-count c =
    let e = c.args.e.now in
    let s : Samples = record { shape = c.args.shape.now; bytes = c.args.bytes.now } in
    let new : c.push_values.new.out.items ≡ e.rest.items ++ values_in e.config s = search rules in
    let kept : c.len.result ≡ length e.rest.items = search rules in
    rw kept (joined_count e.config s e.rest.items c.push_values.new.out.items c.requires.ranged.channels c.requires.whole new)

pub push_blocks-requires-clause-count : goal.push_blocks-requires-clause-count
push_blocks-requires-clause-count c =
    let e = c.args.e.now in
    let s : Samples = record { shape = c.args.shape.now; bytes = c.args.bytes.now } in
    let new : c.as_slice.result.now ≡ e.rest.items ++ values_in e.config s = search rules in
    let kept : c.len.result ≡ length e.rest.items = search rules in
    rw kept (joined_count e.config s e.rest.items c.as_slice.result.now c.requires.ranged.channels c.requires.whole new)
