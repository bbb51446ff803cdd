-- Heads of FLAC streams, frames found behind damage, and sums of samples, as C sees them.
use Rattle.std.specs.Prelude.{ℕ, ℤ, ◌≡◌, ◌==◌, ◌||◌, List, Option, Some, None, IsTrue}
use Rattle.wc_config.specs.declared.stream_info.StreamInfo.{StreamInfo}
use Rattle.flac_stream.specs.Head.{IsHeadRead}
use Rattle.flac_stream.specs.Next.{IsNextFrame}
use Rattle.flac_stream.specs.Sums.{sample_sum}
use Rattle.flac_stream.specs.declared.head.SeekTable.{SeekTable}
use Rattle.flac_stream.specs.declared.head.StreamHead.{StreamHead}
use Rattle.flac_stream.specs.declared.head.HeadRead.TheVariants as read
use Rattle.flac_stream.specs.declared.next.NextFrame.TheVariants as next
use Rattle.c_library.specs.declared.description.FlacDescription.{FlacDescription}
use Rattle.c_library.specs.declared.streams.FlacPlaces.{FlacPlaces}
use Rattle.c_library.specs.Descriptions.{stream_of}
use Rattle.c_library.specs.Status.{done, refused, invalid, need_more, fill_status, filled}

-- the places of a head's parts; without a seek table its place is 0, and it has no points
abbrev pub places_with : ℕ → Option SeekTable → FlacPlaces
places_with first None = record { first_frame = first; seek_table = 0; seek_points = 0 }
places_with first (Some table) = record { first_frame = first; seek_table = table.at; seek_points = table.count }

abbrev pub places_of : StreamHead → FlacPlaces
places_of h = places_with h.first_frame h.seek_table

-- bytes begin with a head, which has this description and these places
abbrev pub IsWholeHead : List ℕ → FlacDescription → FlacPlaces → Type 0
IsWholeHead bytes d places =
    (h : StreamHead) × ((IsHeadRead bytes (read.Head h)) × ((stream_of d ≡ h.info) × (places ≡ places_of h)))

-- bytes end within a head; no head begins with them, whatever follows
abbrev pub IsCutHead : List ℕ → Type 0
IsCutHead bytes = IsHeadRead bytes read.NeedMore

abbrev pub IsNoHead : List ℕ → Type 0
IsNoHead bytes = IsHeadRead bytes read.Refused

-- the next frame's place; or no header is whole, and the place from which on one may be cut
abbrev pub IsFound : StreamInfo → List ℕ → ℕ → ℕ → Type 0
IsFound info bytes from at = IsNextFrame info bytes from (next.Found at)

abbrev pub IsMissing : StreamInfo → List ℕ → ℕ → ℕ → Type 0
IsMissing info bytes from at = IsNextFrame info bytes from (next.Missing at)

-- the sum of samples of a depth, at the front of some room, if it fits
abbrev pub IsSummed : ℕ → List ℤ → ℕ → List ℕ → List ℕ → Type 0
IsSummed depth samples status old new =
    (status ≡ fill_status (sample_sum depth samples) old) × (new ≡ filled (sample_sum depth samples) old)

-- what a call answers that reads a head
abbrev pub IsHeadStatus : ℕ → Type 0
IsHeadStatus s = IsTrue ((s == done) || (s == refused) || (s == need_more))

-- what a call answers that looks for a frame
abbrev pub IsNextStatus : ℕ → Type 0
IsNextStatus s = IsTrue ((s == done) || (s == invalid) || (s == need_more))
