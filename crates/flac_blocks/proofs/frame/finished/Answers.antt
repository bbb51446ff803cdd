use Rattle.std.proofs.Common.{Bool, List, length, ◌%◌, ◌≡◌, sym, subst}
use Rattle.flac_blocks.proofs.Written.{whole_more}
use Rattle.flac_blocks.proofs.frame.finished.Goals as goal

pub into_bytes-requires : goal.into_bytes-requires
into_bytes-requires c =
    whole_more c.crc16-sum.new.self c.put.new.self _ c.in_ok-put.ensures.ok
    (subst (λ (l : List Bool). length l % 8 ≡ 0) (sym c.crc16-sum.ensures.same) c.in_ok-pad.ensures.whole)
