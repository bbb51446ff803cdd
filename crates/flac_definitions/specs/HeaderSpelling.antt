-- How frame headers are spelled (RFC 9639, section 9.1).
use Rattle.std.specs.Prelude.{ℕ, zero, suc, ◌≡◌, ◌≤◌, ◌+◌, ◌-◌, ◌*◌, ◌/◌, ◌%◌, ◌==◌, nat_lt, Bool, List, ◌++◌, length, Some, Ok}
use Rattle.flac_definitions.specs.Bits.{Place, forward, bits_of, Begins, start_of}
use Rattle.flac_definitions.specs.Sums.{bits_sum}
use Rattle.flac_definitions.specs.Header.{is_block_size_code, is_long_block_size, is_sample_rate_code, is_channel_code, is_depth_code, common_block_size, common_sample_rate, channels_of, header_with, header_at}
use Rattle.flac_definitions.specs.Grammar.{IsNumber, IsGiven, IsNothing, InOrder, Either, Found}
use Rattle.flac_definitions.specs.declared.header.FrameHeader.{FrameHeader}
use Rattle.flac_definitions.specs.declared.header.HeaderCodes.{HeaderCodes}
use Rattle.wc_config.specs.declared.stream_info.StreamInfo.{StreamInfo}

-- a number that passes a test
abbrev pub IsTested : (ℕ → Bool) → ℕ → ℕ → List Bool → Type 0
IsTested good n = InOrder (IsNumber n) (λ x. Either (good x) (IsGiven (Some x)) IsNothing)

-- the first 32 bits of a header
abbrev pub AreCodes : HeaderCodes → List Bool → Type 0
AreCodes =
    InOrder (IsTested (λ n. n == 0x7ffc) 15) (λ _. InOrder (IsNumber 1) (λ _.
    InOrder (IsTested is_block_size_code 4) (λ block. InOrder (IsTested is_sample_rate_code 4) (λ rate.
    InOrder (IsTested is_channel_code 4) (λ channel. InOrder (IsTested is_depth_code 3) (λ depth.
    InOrder (IsTested (λ n. n == 0) 1) (λ _. IsGiven (Some (record { block = block; rate = rate; assignment = channel; depth = depth })))))))))

-- a coded number: its first byte says how many bytes follow, each with 6 bits of it (section 9.1.5)
abbrev pub AreFurtherBytes : ℕ → ℕ → ℕ → List Bool → Type 0
AreFurtherBytes zero number = IsGiven (Some number)
AreFurtherBytes (suc n) number = InOrder (IsNumber 8) (λ b. Either (b / 64 == 2) (AreFurtherBytes n (64 * number + b % 64)) IsNothing)

abbrev pub IsBehindFirstByte : ℕ → ℕ → List Bool → Type 0
IsBehindFirstByte b =
    Either (nat_lt b 128) (IsGiven (Some b))
    (Either (nat_lt b 192) IsNothing
    (Either (nat_lt b 224) (AreFurtherBytes 1 (b - 192))
    (Either (nat_lt b 240) (AreFurtherBytes 2 (b - 224))
    (Either (nat_lt b 248) (AreFurtherBytes 3 (b - 240))
    (Either (nat_lt b 252) (AreFurtherBytes 4 (b - 248))
    (Either (nat_lt b 254) (AreFurtherBytes 5 (b - 252))
    (Either (nat_lt b 255) (AreFurtherBytes 6 (b - 254)) IsNothing)))))))

abbrev pub IsCodedNumber : ℕ → List Bool → Type 0
IsCodedNumber = InOrder (IsNumber 8) IsBehindFirstByte

-- the block size and the rate that stand behind the coded number, where their codes say so (sections 9.1.6 and 9.1.7)
abbrev pub IsBlockSize : ℕ → ℕ → List Bool → Type 0
IsBlockSize code =
    Either (code == 6) (InOrder (IsNumber 8) (λ x. IsGiven (Some (x + 1))))
    (Either (code == 7) (InOrder (IsTested is_long_block_size 16) (λ x. IsGiven (Some (x + 1))))
    (IsGiven (Some (common_block_size code))))

abbrev pub IsSampleRate : ℕ → ℕ → ℕ → List Bool → Type 0
IsSampleRate described code =
    Either (code == 0) (IsGiven (Some described))
    (Either (code == 12) (InOrder (IsNumber 8) (λ x. IsGiven (Some (1000 * x))))
    (Either (code == 13) (IsNumber 16)
    (Either (code == 14) (InOrder (IsNumber 16) (λ x. IsGiven (Some (10 * x))))
    (IsGiven (Some (common_sample_rate code))))))

-- a header up to its sum
abbrev pub IsFront : StreamInfo → FrameHeader → List Bool → Type 0
IsFront info =
    InOrder AreCodes (λ codes. InOrder IsCodedNumber (λ number. InOrder (IsBlockSize codes.block) (λ block. InOrder (IsSampleRate info.rate codes.rate) (λ rate.
    IsGiven (Some (header_with info codes number block rate))))))

-- what the description says of a header: its own rate, channels and depth, which is 1 to 32 (our choice)
abbrev pub IsDescribed : StreamInfo → FrameHeader → Type 0
IsDescribed info h =
    (h.rate ≡ info.rate) × (channels_of h.assignment ≡ info.channels) × (h.depth ≡ info.depth) × (1 ≤ info.depth) × (info.depth ≤ 32)

-- a header: its fields, and the sum of their bits (section 9.1.8)
pub record IsHeader (info : StreamInfo) (h : FrameHeader) (bits : List Bool) : Type 0 where
  pub front : List Bool
  pub fields : IsFront info h front
  pub summed : bits ≡ front ++ bits_of 8 (bits_sum 8 0x07 front)
  pub described : IsDescribed info h

-- A header that is read at the start of bytes is spelled there; and where a header's spelling is there, it is read.
pub record HeadersAreSpelled : Type 0 where
  pub sound : (info : StreamInfo) (bytes : List ℕ) (q : Place) (h : FrameHeader) → header_at info (start_of bytes) ≡ Ok (h, q) → Found (IsHeader info) (start_of bytes) q h
  pub whole : (info : StreamInfo) (bytes : List ℕ) (h : FrameHeader) (bits : List Bool) → IsHeader info h bits → Begins (start_of bytes) bits → header_at info (start_of bytes) ≡ Ok (h, forward (length bits) (start_of bytes))
