use Rattle.std.proofs.Common.{ℕ, ◌≡◌, ◌≤◌, ◌+◌, ◌*◌, ◌/◌, length, subst, arith}
use Rattle.c_library.specs.Blocks.{format_of}
use Rattle.c_library.proofs.RoomLaws.{frame_most}
use Rattle.c_library.proofs.blocks.zemirako_flac_most_bytes.Goals as goal

pub returns-clause-room : goal.returns-clause-room
returns-clause-room c = λ number xs frame can e.
    let f = format_of c.args.format.now in
    let same : (127 + f.channels * (8 + f.depth * c.args.block)) / 8 ≡ (f.channels * (f.depth * c.args.block + 8) + 127) / 8 = grind arith in
    subst (λ (n : ℕ). length frame ≤ n) same (frame_most c.written_frames_are_read.ensures f c.args.block number xs frame can.format e)
