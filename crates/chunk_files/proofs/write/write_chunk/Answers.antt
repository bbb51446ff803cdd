use Rattle.std.proofs.Common.{rules, w64, SFits}
use Rattle.chunk_files.proofs.WrittenLaws.{written_begins}
use Rattle.chunk_files.proofs.write.write_chunk.Goals as goal

pub returns-clause-begun : goal.returns-clause-begun
returns-clause-begun c = λ rest.
    let fits : SFits w64 c.args.chunk.now.timestamp = search rules in
    written_begins c.args.chunk.now.key c.args.chunk.now.timestamp c.args.chunk.now.duration c.args.chunk.now.bytes rest fits c.in_ok-write_duration.ensures.fits c.requires
