use Rattle.std.proofs.Common.{◌≡◌, sym, ap, ◌∙◌}
use Rattle.byteorder.specs.Endian.{little_number}
use Rattle.wc_demux.specs.Wav.{size_of}
use Rattle.wc_demux.proofs.WavLaws.{whole_format}
use Rattle.wc_demux.proofs.format.format_of.Goals as goal

pub returns-clause-format : goal.returns-clause-format
returns-clause-format c =
    let body = c.tail-body.ensures in
    let size : c.read_u32-size.result ≡ size_of c.args.part.now = c.read_u32-size.ensures ∙ ap (little_number 4) c.tail.ensures in
    rw body at c.format_by.ensures.format
    ∙ sym (whole_format c.args.at c.read_u32-size.result c.args.part.now size (rw body at c.if-body-size.false) (rw (c.least_size.ensures, body) at c.if-size-least_size.false))
