use Rattle.std.proofs.Common.{rules, ◌≡◌, ◌∙◌}
use Rattle.flac_encode.proofs.Described.{written_description}
use Rattle.flac_encode.proofs.description.description.Goals as goal

pub returns-in-Ok : goal.returns-in-Ok
returns-in-Ok c =
    let same : c.in-Ok.bytes ≡ c.write_streaminfo.new.out = search rules in
    same ∙ written_description c.args.config.now c.stream_of.result c.write_streaminfo.new.out c.bytes_are_of_bits.ensures c.stream_of.ensures.value c.write_streaminfo.ensures.bits
