-- A frame's header (RFC 9639, section 9.1), as it is read: each reader gives a value and the place behind it, or the first
-- fault in reading order.
use Rattle.std.specs.Prelude.{ℕ, zero, suc, ◌+◌, ◌-◌, ◌*◌, ◌/◌, ◌%◌, ◌==◌, ◌&&◌, nat_lt, nat_le, Bool, not, List, take, drop, Result, Ok, Err, if◌then◌else◌}
use Rattle.flac_definitions.specs.Bits.{Place, number_at}
use Rattle.flac_definitions.specs.Results.{◌>>=◌, or_fault}
use Rattle.flac_definitions.specs.Sums.{crc8_of}
use Rattle.wc_config.specs.declared.stream_info.StreamInfo.{StreamInfo}
use Rattle.flac_definitions.specs.declared.fault.HeaderFault.{HeaderFault}
use Rattle.flac_definitions.specs.declared.fault.HeaderFault.TheVariants as fault
use Rattle.flac_definitions.specs.declared.fault.HeaderField.TheVariants as which
use Rattle.flac_definitions.specs.declared.header.FrameHeader.{FrameHeader}
use Rattle.flac_definitions.specs.declared.header.HeaderCodes.{HeaderCodes}

-- a number of so many bits, of a field that begins at a place
abbrev pub part_at : ℕ → ℕ → Place → Result (ℕ × Place) HeaderFault
part_at start n p = or_fault (fault.Short start) (number_at n p)

abbrev pub field_at : ℕ → Place → Result (ℕ × Place) HeaderFault
field_at n p = part_at p.at n p

-- a field whose number passes a test, and else a fault
abbrev pub tested_at : (ℕ → Bool) → (ℕ → HeaderFault) → ℕ → Place → Result (ℕ × Place) HeaderFault
tested_at good bad n p = field_at n p >>= λ x. if good x.0 then Ok x else Err (bad p.at)

-- the codes that are not reserved or forbidden (sections 9.1.1 to 9.1.4), and the block sizes that are not (section 9.1.6)
abbrev pub is_block_size_code : ℕ → Bool
is_block_size_code n = nat_lt 0 n

abbrev pub is_long_block_size : ℕ → Bool
is_long_block_size n = nat_lt n 65535

abbrev pub is_sample_rate_code : ℕ → Bool
is_sample_rate_code n = nat_lt n 15

abbrev pub is_channel_code : ℕ → Bool
is_channel_code n = nat_lt n 11

abbrev pub is_depth_code : ℕ → Bool
is_depth_code n = not (n == 3)

-- the first 32 bits: sync code, blocking strategy, the codes, and a reserved bit that is 0
unfoldable pub codes_at : Place → Result (HeaderCodes × Place) HeaderFault
codes_at p = do
  sync ← tested_at (λ n. n == 0x7ffc) (λ _. fault.Sync) 15 p
  blocking ← field_at 1 sync.1
  block ← tested_at is_block_size_code fault.Reserved 4 blocking.1
  rate ← tested_at is_sample_rate_code fault.Reserved 4 block.1
  channel ← tested_at is_channel_code fault.Reserved 4 rate.1
  depth ← tested_at is_depth_code fault.Reserved 3 channel.1
  zero_bit ← tested_at (λ n. n == 0) fault.Reserved 1 depth.1
  Ok (record { block = block.0; rate = rate.0; assignment = channel.0; depth = depth.0 }, zero_bit.1)

-- so many further bytes of a coded number that begins at a place, behind the bits so far (section 9.1.5)
abbrev pub further_bytes_at : ℕ → ℕ → ℕ → Place → Result (ℕ × Place) HeaderFault
further_bytes_at start zero number p = Ok (number, p)
further_bytes_at start (suc n) number p = part_at start 8 p >>= λ b. if b.0 / 64 == 2 then further_bytes_at start n (64 * number + b.0 % 64) b.1 else Err fault.Number

-- what the first byte says of those behind it
abbrev pub behind_first_byte : ℕ → ℕ → Place → Result (ℕ × Place) HeaderFault
behind_first_byte start b p =
    if nat_lt b 128 then Ok (b, p)
    else if nat_lt b 192 then Err fault.Number
    else if nat_lt b 224 then further_bytes_at start 1 (b - 192) p
    else if nat_lt b 240 then further_bytes_at start 2 (b - 224) p
    else if nat_lt b 248 then further_bytes_at start 3 (b - 240) p
    else if nat_lt b 252 then further_bytes_at start 4 (b - 248) p
    else if nat_lt b 254 then further_bytes_at start 5 (b - 252) p
    else if nat_lt b 255 then further_bytes_at start 6 (b - 254) p
    else Err fault.Number

unfoldable pub coded_number_at : Place → Result (ℕ × Place) HeaderFault
coded_number_at p = field_at 8 p >>= λ b. behind_first_byte p.at b.0 b.1

-- the block size of a code (section 9.1.1), which may stand behind the coded number (section 9.1.6)
abbrev pub common_block_size : ℕ → ℕ
common_block_size code =
    if code == 1 then 192 else if code == 2 then 576 else if code == 3 then 1152 else if code == 4 then 2304
    else if code == 5 then 4608 else if code == 8 then 256 else if code == 9 then 512 else if code == 10 then 1024
    else if code == 11 then 2048 else if code == 12 then 4096 else if code == 13 then 8192 else if code == 14 then 16384
    else 32768

unfoldable pub block_size_at : ℕ → Place → Result (ℕ × Place) HeaderFault
block_size_at code p =
    if code == 6 then (field_at 8 p >>= λ x. Ok (x.0 + 1, x.1))
    else if code == 7 then (tested_at is_long_block_size fault.Reserved 16 p >>= λ x. Ok (x.0 + 1, x.1))
    else Ok (common_block_size code, p)

-- the rate of a code (section 9.1.2), which may stand in the description or behind the block size (section 9.1.7)
abbrev pub common_sample_rate : ℕ → ℕ
common_sample_rate code =
    if code == 1 then 88200 else if code == 2 then 176400 else if code == 3 then 192000 else if code == 4 then 8000
    else if code == 5 then 16000 else if code == 6 then 22050 else if code == 7 then 24000 else if code == 8 then 32000
    else if code == 9 then 44100 else if code == 10 then 48000 else 96000

unfoldable pub sample_rate_at : ℕ → ℕ → Place → Result (ℕ × Place) HeaderFault
sample_rate_at described code p =
    if code == 0 then Ok (described, p)
    else if code == 12 then (field_at 8 p >>= λ x. Ok (1000 * x.0, x.1))
    else if code == 13 then field_at 16 p
    else if code == 14 then (field_at 16 p >>= λ x. Ok (10 * x.0, x.1))
    else Ok (common_sample_rate code, p)

-- the bits a sample of a code (section 9.1.4)
abbrev pub depth_of : ℕ → ℕ → ℕ
depth_of described code =
    if code == 0 then described else if code == 1 then 8 else if code == 2 then 12 else if code == 4 then 16
    else if code == 5 then 20 else if code == 6 then 24 else 32

-- the channels of an assignment (section 9.1.3)
abbrev pub channels_of : ℕ → ℕ
channels_of assignment = if nat_lt assignment 8 then assignment + 1 else 2

-- the bytes from one place to another
abbrev pub bytes_between : List ℕ → ℕ → ℕ → List ℕ
bytes_between bytes start end = take (end / 8 - start / 8) (drop (start / 8) bytes)

-- the sum of the bytes from `start` on (section 9.1.8)
unfoldable pub header_sum_at : ℕ → Place → Result (Unit {0} × Place) HeaderFault
header_sum_at start p = field_at 8 p >>= λ kept.
    let counted = crc8_of (bytes_between p.bytes start p.at) in
    if kept.0 == counted then Ok (tt, kept.1) else Err (fault.HeaderSum kept.0 counted)

-- the depths that a description can say (section 8.2)
abbrev pub is_stream_depth : ℕ → Bool
is_stream_depth n = nat_le 1 n && nat_le n 32

-- a header, if it is one of the stream that is described; a description with another depth describes none (our choice)
abbrev pub if_described : StreamInfo → FrameHeader × Place → Result (FrameHeader × Place) HeaderFault
if_described info h =
    if not (h.0.rate == info.rate) then Err (fault.Differs which.Rate)
    else if not (channels_of h.0.assignment == info.channels) then Err (fault.Differs which.Channels)
    else if not (is_stream_depth info.depth && (h.0.depth == info.depth)) then Err (fault.Differs which.Depth)
    else Ok h

-- the header that the codes, the coded number, the block size and the rate make
abbrev pub header_with : StreamInfo → HeaderCodes → ℕ → ℕ → ℕ → FrameHeader
header_with info codes number block rate =
    record { block = block; rate = rate; assignment = codes.assignment; depth = depth_of info.depth codes.depth; number = number }

-- a header of a described stream
unfoldable pub header_at : StreamInfo → Place → Result (FrameHeader × Place) HeaderFault
header_at info p = do
  codes ← codes_at p
  number ← coded_number_at codes.1
  block ← block_size_at codes.0.block number.1
  rate ← sample_rate_at info.rate codes.0.rate block.1
  sum ← header_sum_at p.at rate.1
  if_described info (header_with info codes.0 number.0 block.0 rate.0, sum.1)
