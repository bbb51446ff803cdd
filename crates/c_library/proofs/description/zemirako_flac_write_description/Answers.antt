use Rattle.std.proofs.Common.{◌≡◌, ◌≤◌, Some, refl, ap, ◌∙◌, length, arith}
use Rattle.wc_config.specs.Streams.{streaminfo_of}
use Rattle.wc_config.specs.declared.stream_info.StreamInfo.{StreamInfo}
use Rattle.c_library.proofs.Described.{read_in_room}
use Rattle.c_library.proofs.description.zemirako_flac_write_description.Goals as goal

pub returns-clause-read : goal.returns-clause-read
returns-clause-read c all =
    let info = c.stream_of-info.result in
    let written = c.write_streaminfo.new.out in
    let can = c.if-not-can_be_described.ensures.yes refl in
    let read : streaminfo_of written ≡ Some info = c.write_streaminfo.ensures.read can.usable in
    let long : 42 ≤ length written = omega (arith, c.write_streaminfo.array_long) in
    ap streaminfo_of c.put_bytes.ensures.room
    ∙ (read_in_room written c.args.bytes.now info c.put_bytes.result c.put_bytes.ensures.status all long read
    ∙ ap (λ (i : StreamInfo). Some i) c.stream_of-info.ensures)
