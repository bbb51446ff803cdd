-- Descriptions of FLAC streams, as C sees them.
use Rattle.std.specs.Prelude.{ℕ, Bool, true, ◌≡◌, ◌&&◌, ◌||◌, ◌==◌, nat_le, IsTrue, List, Option, Some, None}
use Rattle.flac_definitions.specs.Bits.{bits_in}
use Rattle.flac_definitions.specs.Descriptions.{CanBeWritten, description_bits}
use Rattle.wc_config.specs.Streams.{is_usable, streaminfo_of}
use Rattle.wc_config.specs.declared.stream_info.StreamInfo.{StreamInfo}
use Rattle.c_library.specs.declared.description.FlacDescription.{FlacDescription}
use Rattle.c_library.specs.Status.{done, refused, too_small, invalid, fill_status, filled}

-- the stream that a description describes
abbrev pub stream_of : FlacDescription → StreamInfo
stream_of d = record {
  min_block = d.min_block;
  max_block = d.max_block;
  min_frame = d.min_frame;
  max_frame = d.max_frame;
  rate = d.rate;
  channels = d.channels;
  depth = d.depth;
  total = d.total;
  md5 = d.md5;
}

-- 1 to 32 bits a sample
abbrev pub has_depth : FlacDescription → Bool
has_depth d = nat_le 1 d.depth && nat_le d.depth 32

-- what was read of a description, by what its bytes say
abbrev pub Reads : Option StreamInfo → FlacDescription → FlacDescription → ℕ → Type 0
Reads (Some info) old new status = (status ≡ done) × (stream_of new ≡ info)
Reads None old new status = (status ≡ refused) × (new ≡ old)

abbrev pub IsDescription : List ℕ → FlacDescription → FlacDescription → ℕ → Type 0
IsDescription bytes old new status = Reads (streaminfo_of bytes) old new status

-- what a description can say: each field fits its bits, and the rate and the depth are those of sound
pub record IsDescribable (info : StreamInfo) : Type 0 where
  pub fields : CanBeWritten info
  pub usable : is_usable info ≡ true

-- the bytes of a stream's description, as the last block, at the front of some room
abbrev pub IsWritten : StreamInfo → ℕ → List ℕ → List ℕ → Type 0
IsWritten info status old new =
    (written : List ℕ)
    × ((bits_in written ≡ description_bits true info)
    × ((status ≡ fill_status written old)
    × (new ≡ filled written old)))

-- what a call answers that writes a description
abbrev pub IsWriteStatus : ℕ → Type 0
IsWriteStatus s = IsTrue ((s == done) || (s == too_small) || (s == invalid))
