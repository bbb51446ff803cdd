use Rattle.flac_block_laws.proofs.Written.{written_frames}
use Rattle.flac_block_laws.proofs.laws.written_frames_are_read.Goals as goal

pub returns : goal.returns
returns c = written_frames c.written_subframes_are_read.ensures c.written_headers_are_read.ensures c.frames_are_spelled.ensures
