use Rattle.flac_write.proofs.Words.{whole_bytes}
use Rattle.flac_write.proofs.writer.BitWriter.into_bytes.Goals as goal

pub append_bits-requires-clause-whole : goal.append_bits-requires-clause-whole
append_bits-requires-clause-whole c =
    let w = c.self.inside in
    whole_bytes _ w.bytes.items w.used w.last c.self.view_is c.requires
