-- The STREAMINFO block of a FLAC stream (RFC 9639, sections 8.1 and 8.2).
use Rattle.std.specs.Prelude.{ℕ, Bool, ◌+◌, ◌-◌, ◌*◌, ◌/◌, ◌%◌, ◌^◌, ◌==◌, ◌&&◌, nat_le, List, [], ◌∷◌, take, drop, length, Option, Some, None, if◌then◌else◌, codes, bytes_eq}
use Rattle.wc_config.specs.declared.stream_info.StreamInfo.{StreamInfo}

-- the number that bytes spell, the most significant first
abbrev pub big_endian_after : ℕ → List ℕ → ℕ
big_endian_after n [] = n
big_endian_after n (b ∷ bs) = big_endian_after (256 * n + b) bs

abbrev pub big_endian : List ℕ → ℕ
big_endian bytes = big_endian_after 0 bytes

-- `count` bits of a number of `size` bits, from the bit `from` on, bit 0 being the most significant
abbrev pub bits_of : ℕ → ℕ → ℕ → ℕ → ℕ
bits_of size from count n = (n / 2 ^ (size - (from + count))) % 2 ^ count

-- the fields of the block's 34 bytes
abbrev pub stream_info_of : List ℕ → StreamInfo
stream_info_of block =
    let n = big_endian (take 18 block) in record {
      min_block = bits_of 144 0 16 n;
      max_block = bits_of 144 16 16 n;
      min_frame = bits_of 144 32 24 n;
      max_frame = bits_of 144 56 24 n;
      rate = bits_of 144 80 20 n;
      channels = bits_of 144 100 3 n + 1;
      depth = bits_of 144 103 5 n + 1;
      total = bits_of 144 108 36 n;
      md5 = drop 18 block;
    }

abbrev pub is_usable : StreamInfo → Bool
is_usable info = nat_le 1 info.rate && nat_le 4 info.depth

-- `fLaC`, then the header of a block of type 0 with 34 bytes, with or without the mark of the last block, then the block
abbrev pub streaminfo_of : List ℕ → Option StreamInfo
streaminfo_of bytes =
    let header = take 4 (drop 4 bytes) in
    let info = stream_info_of (take 34 (drop 8 bytes)) in
    if nat_le 42 (length bytes) && bytes_eq (take 4 bytes) (codes "fLaC") && (big_endian header % 2 ^ 31 == 34) && is_usable info then Some info else None
