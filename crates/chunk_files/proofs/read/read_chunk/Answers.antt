use Rattle.std.proofs.Common.{rules, refl, ◌∙◌, ap, take, arith, w64, SFits}
use Rattle.std.proofs.Math.Facts.{to_z-of_z}
use Rattle.byteorder.specs.Endian.{big_number}
use Rattle.chunk_files.proofs.Faults.{type_back, content_of}
use Rattle.chunk_files.proofs.read.read_chunk.Goals as goal

pub returns : goal.returns
returns c =
    let fits : SFits w64 c.read_i64.result = search rules in
    let count = c.read_u32-count.ensures ∙ ap (big_number 4) c.tail.ensures in
    let content = c.in_ok-copy_from_slice.ensures ∙ ap (take c.read_u32-count.result) c.tail-2.ensures in
    let parts = content_of c.args.bytes.now _ c.read_u32-count.result content (omega (arith, c.requires.content, count)) in
    record {
      header = c.requires.header;
      chunk_type = type_back _ c.requires.type_byte;
      timestamp = rw (to_z-of_z fits, c.read_i64.ensures, c.tail-3.ensures) refl;
      duration = c.duration_of.ensures;
      count = parts.0 ∙ count;
      content = parts.1;
    }
