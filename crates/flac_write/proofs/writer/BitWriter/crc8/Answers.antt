use Rattle.std.proofs.Common.{sym, ◌∙◌}
use Rattle.flac_write.proofs.Words.{whole_bytes, no_bits}
use Rattle.flac_write.proofs.writer.BitWriter.crc8.Goals as goal

pub append_bits-requires-clause-whole : goal.append_bits-requires-clause-whole
append_bits-requires-clause-whole c =
    let w = c.self.inside in
    whole_bytes _ w.bytes.items w.used w.last c.self.view_is c.requires

pub returns-clause-same : goal.returns-clause-same
returns-clause-same c = sym (no_bits c.append_bits.new.bytes.items 0) ∙ (c.append_bits.ensures ∙ c.self.view_is)
