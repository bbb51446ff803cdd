use Rattle.wc_demux.proofs.MediaLaws.{ChunkLaws, one_medium, one_media_fault, media_apart, each_medium_is_read}
use Rattle.wc_demux.proofs.laws.files_have_one_reading.Goals as goal

pub returns : goal.returns
returns c =
    let h = c.bytes_have_one_reading.ensures in
    let chunks : ChunkLaws = record { chunks = h.chunks; fault = h.fault; apart = h.apart; some = h.some } in
    let frames = c.frames_are_found.ensures in
    record { media = one_medium frames chunks; fault = one_media_fault frames chunks; apart = media_apart frames chunks; some = each_medium_is_read frames chunks }
