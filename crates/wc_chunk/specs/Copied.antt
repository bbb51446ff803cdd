-- Bytes copied to a destination (W3C WebCodecs, EncodedAudioChunk and EncodedVideoChunk, `copyTo`).
use Rattle.std.specs.Prelude.{ℕ, ◌++◌, nat_lt, List, length, drop, Result, Ok, Err, if◌then◌else◌}
use Rattle.wc_base.specs.declared.error.DomError.{DomError}
use Rattle.wc_base.specs.declared.error.DomError.TheVariants as error

-- their count; a TypeError exactly where the destination is shorter
abbrev pub copied_count : List ℕ → List ℕ → Result ℕ DomError
copied_count bytes to = if nat_lt (length to) (length bytes) then Err error.TypeErr else Ok (length bytes)

-- the destination afterwards: the bytes, and what was behind them; as it was where it is shorter
abbrev pub copied_to : List ℕ → List ℕ → List ℕ
copied_to bytes to = if nat_lt (length to) (length bytes) then to else bytes ++ drop (length bytes) to
