-- The line that tells what a media file holds (our choice): the kind of file, its codec, its rate, its channels, and how many
-- chunks and frames it has; the line of a FLAC file ends with its description, and of a chunk file the chunks are counted.
use Rattle.std.specs.Prelude.{ℕ, ◌≡◌, ◌≤◌, List, length, take, codes, decimal}
use Rattle.hex.specs.Hex.{encode_lower}
use Rattle.report_text.specs.Words.{◌<>◌, codec_text}
use Rattle.script_types.specs.Limits.{most_file}
use Rattle.wc_demux.specs.Media.{IsMediaFile}
use Rattle.wc_demux.specs.declared.media.MediaFile.{MediaFile}
use Rattle.wc_demux.specs.declared.media.MediaFile.TheVariants as media

-- the 42 bytes of a FLAC file's description, in hex
abbrev pub description_text : List ℕ → List ℕ
description_text bytes = encode_lower (take 42 bytes)

-- the line of a media file with these bytes
abbrev pub media_line : MediaFile → List ℕ → List ℕ
media_line (media.Wav w) bytes =
    codes "wav " <> codec_text w.codec <> codes " " <> decimal w.rate <> codes " " <> decimal w.channels <> codes " chunks " <> decimal (length w.chunks) <> codes " frames " <> decimal w.frames <> codes "\n"
media_line (media.Flac f) bytes =
    codes "flac flac " <> decimal f.info.rate <> codes " " <> decimal f.info.channels <> codes " chunks " <> decimal (length f.chunks) <> codes " frames " <> decimal f.frames <> codes " " <> description_text bytes <> codes "\n"
media_line (media.Chunks chunks) bytes = codes "chunks " <> decimal (length chunks) <> codes "\n"

-- the text is the line of the media file with these bytes, which are no more than a file may have
pub record IsMediaLine (bytes text : List ℕ) : Type 0 where
  pub short : length bytes ≤ most_file
  pub medium : MediaFile
  pub file : IsMediaFile medium bytes
  pub whole : text ≡ media_line medium bytes
