-- WAV files: RIFF files of the form WAVE (Microsoft and IBM, "Multimedia Programming Interface and Data Specifications 1.0"),
-- and their formats, with WAVE_FORMAT_EXTENSIBLE (Microsoft, `mmreg.h`). All numbers are little-endian. The size of the
-- whole file, the byte rate and what follows the data are not looked at (our choice).
use Rattle.std.specs.Prelude.{ℕ, pos, true, ◌+◌, ◌*◌, ◌/◌, ◌%◌, ◌==◌, ◌&&◌, ◌||◌, nat_lt, Bool, not, List, [], ◌∷◌, length, take, drop, map, Option, Some, None, Result, Ok, Err, if◌then◌else◌, codes, bytes_eq}
use Rattle.std.specs.List.{flat_map, range_with_len}
use Rattle.std.specs.Int.{div_ceil}
use Rattle.byteorder.specs.Endian.{little_number}
use Rattle.chunk_files.specs.declared.fault.DemuxFault.{DemuxFault}
use Rattle.chunk_files.specs.declared.fault.DemuxFault.TheVariants as fault
use Rattle.wc_chunk.specs.declared.chunk.Chunk.{Chunk}
use Rattle.wc_config.specs.declared.codec.CodecId.{CodecId}
use Rattle.wc_config.specs.declared.codec.CodecId.TheVariants as codec
use Rattle.wc_demux.specs.Parts.{Part, parts_in}
use Rattle.wc_demux.specs.declared.format.Format.{Format}
use Rattle.wc_demux.specs.declared.wav.Wav.{Wav}

-- ---- a part: its id in four bytes, its size in four, its own bytes, and one more byte where their number is odd

abbrev pub has_id : List ℕ → List ℕ → Bool
has_id id part = bytes_eq (take 4 part) id

abbrev pub size_of : List ℕ → ℕ
size_of part = little_number 4 (drop 4 part)

abbrev pub whole_size : List ℕ → ℕ
whole_size part = 8 + (size_of part + size_of part % 2)

abbrev pub is_cut : List ℕ → Bool
is_cut part = nat_lt (length part) 8

-- ---- the format that a part `fmt ` says, by its own bytes

-- the codecs of format tags and bits a sample: linear PCM, A-law and mu-law
abbrev pub codec_of : ℕ → ℕ → Option CodecId
codec_of tag bits =
    if (tag == 1) && (bits == 8) then Some codec.PcmU8
    else if (tag == 1) && (bits == 16) then Some codec.PcmS16
    else if (tag == 1) && (bits == 24) then Some codec.PcmS24
    else if (tag == 1) && (bits == 32) then Some codec.PcmS32
    else if (tag == 6) && (bits == 8) then Some codec.Alaw
    else if (tag == 7) && (bits == 8) then Some codec.Ulaw
    else None

abbrev pub first_tag : List ℕ → ℕ
first_tag body = little_number 2 body

-- the tag; that of an extensible format stands in its sub-format
abbrev pub tag_of : List ℕ → ℕ
tag_of body = if first_tag body == 0xFFFE then little_number 2 (drop 24 body) else first_tag body

abbrev pub least_size : List ℕ → ℕ
least_size body = if first_tag body == 0xFFFE then 40 else 16

abbrev pub format_with : List ℕ → CodecId → Format
format_with body c =
    record { codec = c; channels = little_number 2 (drop 2 body); rate = little_number 4 (drop 4 body); frame_size = little_number 2 (drop 12 body) }

abbrev pub bits_in : List ℕ → ℕ
bits_in body = little_number 2 (drop 14 body)

-- there are channels and a rate, and a frame is one sample of each channel
abbrev pub is_sound : Format → ℕ → Bool
is_sound f bits = not (f.channels == 0) && not (f.rate == 0) && (f.frame_size == f.channels * bits / 8)

abbrev pub checked : ℕ → Format → ℕ → Result Format DemuxFault
checked at f bits = if is_sound f bits then Ok f else Err (fault.BadWav at)

abbrev pub format_by : ℕ → List ℕ → Option CodecId → Result Format DemuxFault
format_by at body None = Err (fault.Unsupported (tag_of body) (bits_in body))
format_by at body (Some c) = checked at (format_with body c) (bits_in body)

-- of a part `fmt ` at a place of its file: cut, too short, of no codec, or with numbers that do not agree
abbrev pub format_of : ℕ → List ℕ → Result Format DemuxFault
format_of at part =
    let body = drop 8 part in
    if nat_lt (length body) (size_of part) || nat_lt (size_of part) (least_size body) then Err (fault.BadWav at)
    else format_by at body (codec_of (tag_of body) (bits_in body))

-- ---- what the parts of a file say

-- the parts from a place on
abbrev pub parts_from : List ℕ → ℕ → List Part
parts_from bytes at = parts_in whole_size 0 at (drop at bytes)

abbrev pub with_rest : List Part → Result Format DemuxFault → Result (Format × List Part) DemuxFault
with_rest rest (Ok f) = Ok (f, rest)
with_rest rest (Err e) = Err e

-- the format of the first part `fmt `, which no part `data` stands before, and the parts behind it
abbrev pub format_in : ℕ → List Part → Result (Format × List Part) DemuxFault
format_in end [] = Err (fault.BadWav end)
format_in end (part ∷ parts) =
    if is_cut part.bytes then Err (fault.BadWav part.at)
    else if has_id (codes "fmt ") part.bytes then with_rest parts (format_of part.at part.bytes)
    else if has_id (codes "data") part.bytes then Err (fault.BadWav part.at)
    else format_in end parts

-- the bytes of the first part `data`, up to its size or the end of the file
abbrev pub data_in : ℕ → List Part → Result (List ℕ) DemuxFault
data_in end [] = Err (fault.BadWav end)
data_in end (part ∷ parts) =
    if is_cut part.bytes then Err (fault.BadWav part.at)
    else if has_id (codes "data") part.bytes then Ok (take (size_of part.bytes) (drop 8 part.bytes))
    else data_in end parts

-- whole frames
abbrev pub whole_frames : Format → List ℕ → List ℕ
whole_frames f bytes = take (length bytes / f.frame_size * f.frame_size) bytes

abbrev pub with_format : Format → Result (List ℕ) DemuxFault → Result (Format × List ℕ) DemuxFault
with_format f (Ok bytes) = Ok (f, whole_frames f bytes)
with_format f (Err e) = Err e

abbrev pub data_behind : ℕ → Result (Format × List Part) DemuxFault → Result (Format × List ℕ) DemuxFault
data_behind end (Ok found) = with_format found.0 (data_in end found.1)
data_behind end (Err e) = Err e

-- the format and the data of a file, or its first fault
abbrev pub sound_in : List ℕ → Result (Format × List ℕ) DemuxFault
sound_in bytes =
    if not (bytes_eq (take 4 bytes) (codes "RIFF")) then Err (fault.BadWav 0)
    else if not (bytes_eq (take 4 (drop 8 bytes)) (codes "WAVE")) then Err (fault.BadWav 8)
    else data_behind (length bytes) (format_in (length bytes) (parts_from bytes 12))

-- ---- its chunks

-- the chunk of these bytes, before which there are so many frames
abbrev pub sound_chunk : Format → ℕ → List ℕ → Chunk
sound_chunk f before bytes = record {
  key = true;
  timestamp = pos (before * 1000000 / f.rate);
  duration = Some (length bytes / f.frame_size * 1000000 / f.rate);
  bytes = bytes;
}

-- chunk `i` of data: so many frames, or what is left
abbrev pub chunk_at : ℕ → Format → List ℕ → ℕ → Chunk
chunk_at per_chunk f bytes i =
    let size = per_chunk * f.frame_size in sound_chunk f (i * per_chunk) (take size (drop (i * size) bytes))

abbrev pub chunks_of : ℕ → Format → List ℕ → List Chunk
chunks_of per_chunk f bytes = map (chunk_at per_chunk f bytes) (range_with_len 0 (div_ceil (length bytes / f.frame_size) per_chunk))

abbrev pub wav_with : ℕ → Format × List ℕ → Wav
wav_with per_chunk sound =
    let f = sound.0 in record {
      codec = f.codec;
      rate = f.rate;
      channels = f.channels;
      frames = length sound.1 / f.frame_size;
      chunks = chunks_of per_chunk f sound.1;
    }

abbrev pub wav_by : ℕ → Result (Format × List ℕ) DemuxFault → Result Wav DemuxFault
wav_by per_chunk (Ok sound) = Ok (wav_with per_chunk sound)
wav_by per_chunk (Err e) = Err e

-- what a file gives, in chunks of so many frames, or its first fault
abbrev pub wav_of : ℕ → List ℕ → Result Wav DemuxFault
wav_of per_chunk bytes = wav_by per_chunk (sound_in bytes)

-- the bytes of chunks, joined
abbrev pub joined : List Chunk → List ℕ
joined chunks = flat_map (λ c. c.bytes) chunks
