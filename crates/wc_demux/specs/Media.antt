-- Media files: WAV where they begin with `RIFF`, native FLAC where they begin with `fLaC`, and else chunk files (our choice).
use Rattle.std.specs.Prelude.{ℕ, true, false, ◌≡◌, ◌⊎◌, ◌||◌, Bool, List, take, Ok, Err, codes, bytes_eq}
use Rattle.chunk_files.specs.declared.fault.DemuxFault.{DemuxFault}
use Rattle.chunk_files.specs.declared.fault.MediaFault.{MediaFault}
use Rattle.chunk_files.specs.declared.fault.MediaFault.TheVariants as fault
use Rattle.chunk_files.specs.Grammar.{IsChunkFile, IsFirstFault}
use Rattle.wc_chunk.specs.declared.chunk.Chunk.{Chunk}
use Rattle.wc_demux.specs.Wav.{wav_of}
use Rattle.wc_demux.specs.Flac.{IsFlacFile, IsFlacFault}
use Rattle.wc_demux.specs.declared.flac.Flac.{Flac}
use Rattle.wc_demux.specs.declared.media.MediaFile.{MediaFile}
use Rattle.wc_demux.specs.declared.media.MediaFile.TheVariants as media

abbrev pub is_wav : List ℕ → Bool
is_wav bytes = bytes_eq (take 4 bytes) (codes "RIFF")

abbrev pub is_flac : List ℕ → Bool
is_flac bytes = bytes_eq (take 4 bytes) (codes "fLaC")

-- the frames of a chunk of a WAV file
abbrev pub frames_per_chunk : ℕ
frames_per_chunk = 1024

-- the bytes are the file of this medium
abbrev pub IsMediaFile : MediaFile → List ℕ → Type 0
IsMediaFile (media.Wav wav) bytes = (is_wav bytes ≡ true) × (wav_of frames_per_chunk bytes ≡ Ok wav)
IsMediaFile (media.Flac flac) bytes = (is_flac bytes ≡ true) × IsFlacFile flac bytes
IsMediaFile (media.Chunks chunks) bytes = ((is_wav bytes || is_flac bytes) ≡ false) × IsChunkFile chunks bytes

-- the first fault of bytes that are no such file
abbrev pub IsMediaFault : List ℕ → MediaFault → Type 0
IsMediaFault bytes (fault.Sound e) =
    ((is_wav bytes ≡ true) × (wav_of frames_per_chunk bytes ≡ Err e)) ⊎ ((is_flac bytes ≡ true) × IsFlacFault bytes e)
IsMediaFault bytes (fault.Chunks e) = ((is_wav bytes || is_flac bytes) ≡ false) × IsFirstFault bytes e

-- the bytes are a FLAC file, or have a first fault
abbrev pub IsFlacRead : List ℕ → Type 0
IsFlacRead bytes = ((flac : Flac) × IsFlacFile flac bytes) ⊎ ((e : DemuxFault) × IsFlacFault bytes e)

-- the bytes are a media file, or have a first fault
abbrev pub IsMediaRead : List ℕ → Type 0
IsMediaRead bytes = ((medium : MediaFile) × IsMediaFile medium bytes) ⊎ ((e : MediaFault) × IsMediaFault bytes e)

-- the chunks of a medium
abbrev pub media_chunks : MediaFile → List Chunk
media_chunks (media.Wav wav) = wav.chunks
media_chunks (media.Flac flac) = flac.chunks
media_chunks (media.Chunks chunks) = chunks
