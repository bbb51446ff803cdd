-- The law of descriptions that are written and read.
use Rattle.std.specs.Prelude.{ℕ, ◌≡◌, Bool, true, List, take, length, Some}
use Rattle.flac_definitions.specs.Bits.{bits_in}
use Rattle.flac_definitions.specs.BitLaws.{IsBytes}
use Rattle.wc_config.specs.Streams.{is_usable, streaminfo_of}
use Rattle.wc_config.specs.declared.stream_info.StreamInfo.{StreamInfo}
use Rattle.flac_definitions.specs.Descriptions.{CanBeWritten, description_bits}

-- bytes spell a description in their first 42, whose sum has 16 bytes
pub record Spells (bytes : List ℕ) (info : StreamInfo) : Type 0 where
  pub fields : CanBeWritten info
  pub usable : is_usable info ≡ true
  pub sum : length info.md5 ≡ 16
  pub sum_bytes : IsBytes info.md5
  pub last : Bool
  pub bits : bits_in (take 42 bytes) ≡ description_bits last info

-- what spells a description is read as it, and what is read as one spells it
pub record DescriptionsAreSpelled : Type 0 where
  pub read : (info : StreamInfo) (bytes : List ℕ) → IsBytes bytes → Spells bytes info → streaminfo_of bytes ≡ Some info
  pub spelled : (info : StreamInfo) (bytes : List ℕ) → IsBytes bytes → streaminfo_of bytes ≡ Some info → Spells bytes info
