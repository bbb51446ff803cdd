-- What a reading call answered, by what the definition reads. Want of memory says nothing.
use Rattle.std.specs.Prelude.{ℕ, ℤ, ◌≡◌, ◌<◌, ◌≤◌, Bool, true, false, List, ◌++◌, take, reverse, Option, Some, None, Result, Ok, Err}
use Rattle.wc_config.specs.declared.stream_info.StreamInfo.{StreamInfo}
use Rattle.flac_definitions.specs.Bits.{Place}
use Rattle.flac_definitions.specs.Header.{channels_of}
use Rattle.flac_definitions.specs.Prediction.{samples_behind}
use Rattle.flac_definitions.specs.Options.{◌>>=◌}
use Rattle.flac_definitions.specs.Frame.{frame_of}
use Rattle.flac_definitions.specs.declared.header.FrameHeader.{FrameHeader}
use Rattle.codec_definitions.specs.Flac.{bytes_of_frame}
use Rattle.flac_decode.specs.FrameEnd.{EndsAt}
use Rattle.flac_decode.specs.Shortness.{is_short}
use Rattle.flac_decode.specs.declared.end.FrontFrame.{FrontFrame}
use Rattle.flac_decode.specs.declared.fault.FrameFault.{FrameFault}
use Rattle.flac_decode.specs.declared.fault.FrameFault.TheVariants as fault
use Rattle.flac_decode.specs.declared.fault.ReadFault.{ReadFault}
use Rattle.flac_decode.specs.declared.fault.ReadFault.TheVariants as end

-- a value, and where the reader stands then
abbrev pub Gives : {X : Type 0} → Option (X × Place) → Result X ReadFault → Place → Type 0
Gives read (Ok x) new = read ≡ Some (x, new)
Gives read (Err end.Refused) new = read ≡ None
Gives read (Err end.Short) new = read ≡ None
Gives read (Err end.NoMemory) new = Unit {0}

-- the same of a call that fills in a list
abbrev pub Fills : {X : Type 0} → Option (X × Place) → Result (Unit {0}) ReadFault → Place → X → Type 0
Fills read (Ok t) new x = read ≡ Some (x, new)
Fills read (Err end.Refused) new x = read ≡ None
Fills read (Err end.Short) new x = read ≡ None
Fills read (Err end.NoMemory) new x = Unit {0}

-- the same of a call that fills in a list, and answers with a number
abbrev pub FillsWith : Option ((List ℤ × ℕ) × Place) → Result ℕ ReadFault → Place → List ℤ → Type 0
FillsWith read (Ok n) new xs = read ≡ Some ((xs, n), new)
FillsWith read (Err end.Refused) new xs = read ≡ None
FillsWith read (Err end.Short) new xs = read ≡ None
FillsWith read (Err end.NoMemory) new xs = Unit {0}

-- the same of a frame
abbrev pub FillsFrame : Option ((FrameHeader × List ℤ) × Place) → Result FrameHeader ReadFault → Place → List ℤ → Type 0
FillsFrame read (Ok h) new samples = read ≡ Some ((h, samples), new)
FillsFrame read (Err end.Refused) new samples = read ≡ None
FillsFrame read (Err end.Short) new samples = read ≡ None
FillsFrame read (Err end.NoMemory) new samples = Unit {0}

-- the same of the frame that bytes are
abbrev pub ReadsFrame : Option (FrameHeader × List ℤ) → Result FrameHeader FrameFault → List ℤ → Type 0
ReadsFrame read (Ok h) samples = read ≡ Some (h, samples)
ReadsFrame read (Err fault.Refused) samples = read ≡ None
ReadsFrame read (Err fault.NoMemory) samples = Unit {0}

abbrev pub block_and_bytes : FrameHeader × List ℤ → Option (ℕ × List ℕ)
block_and_bytes f = Some (f.0.block, bytes_of_frame f.0 f.1)

-- the samples of a channel, and the bytes of all
abbrev pub Decodes : Option (FrameHeader × List ℤ) → Result ℕ FrameFault → List ℕ → Type 0
Decodes read (Ok n) out = (read >>= block_and_bytes) ≡ Some (n, out)
Decodes read (Err fault.Refused) out = read ≡ None
Decodes read (Err fault.NoMemory) out = Unit {0}

-- whether all samples fitted, and what was filled in behind those in front
abbrev pub Restores : Option (List ℤ) → Bool → List ℤ → List ℤ → Type 0
Restores read true front new = (tail : List ℤ) × (read ≡ Some tail) × (new ≡ front ++ tail)
Restores read false front new = read ≡ None

-- the same of the samples behind the first n of a list
abbrev pub RestoresBehind : ℕ → List ℤ → ℕ → ℕ → List ℤ → Bool → List ℤ → List ℤ → Type 0
RestoresBehind n coefficients shift depth residual result old new =
    Restores (samples_behind coefficients shift depth (reverse (take n old)) residual) result (take n old) new

-- whether all samples fitted, and the channel in place of another
abbrev pub Combines : Option (List ℤ) → Bool → List ℤ → Type 0
Combines read true new = read ≡ Some new
Combines read false new = read ≡ None

-- what is known of a header that was read
abbrev pub IsWithinLimits : FrameHeader → Type 0
IsWithinLimits h = (h.block < 65536) × (h.assignment < 11) × (0 < h.depth) × (h.depth ≤ 32)

abbrev pub IsOfStream : StreamInfo → FrameHeader → Type 0
IsOfStream info h = (channels_of h.assignment ≡ info.channels) × (h.depth ≡ info.depth)

-- a reading that ends for want of bits is told from one that is refused
abbrev pub TellsShort : {X : Type 0} → Result X ReadFault → Bool → Type 0
TellsShort (Err end.Short) short = short ≡ true
TellsShort (Err end.Refused) short = short ≡ false
TellsShort (Err end.NoMemory) short = Unit {0}
TellsShort (Ok x) short = Unit {0}

-- The frame in front of bytes, with its samples' bytes; or none, and whether reading them ended for want of bits.
abbrev pub DecodesFront : StreamInfo → List ℕ → Result FrontFrame ReadFault → List ℕ → Type 0
DecodesFront info bytes (Ok front) out =
    EndsAt info bytes (Some front.size)
    × ((f : FrameHeader × List ℤ)
    × (frame_of info (take front.size bytes) ≡ Some f) × (front.block ≡ f.0.block) × (out ≡ bytes_of_frame f.0 f.1))
DecodesFront info bytes (Err end.Refused) out = EndsAt info bytes None × (is_short info bytes ≡ false)
DecodesFront info bytes (Err end.Short) out = EndsAt info bytes None × (is_short info bytes ≡ true)
DecodesFront info bytes (Err end.NoMemory) out = Unit {0}
