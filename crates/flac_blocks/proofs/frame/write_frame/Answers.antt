use Rattle.std.proofs.Common.{sym, subst}
use Rattle.flac_definitions.specs.HeaderWriting.{IsWritable}
use Rattle.flac_blocks.specs.CodedLaws.{header_writable}
use Rattle.flac_blocks.proofs.frame.write_frame.Goals as goal

pub write_header-requires-clause-writable : goal.write_header-requires-clause-writable
write_header-requires-clause-writable c =
    subst IsWritable (sym c.header_of.ensures) (header_writable c.args.format c.args.choice.now.mode c.args.block c.args.number c.requires.format c.requires.some c.requires.few c.requires.number)
