-- How many bytes the frame of a block has at most.
use Rattle.flac_definitions.specs.Candidates.{candidate_bits, best_candidate}
use Rattle.std.proofs.Common.{ℕ, zero, suc, ℤ, ◌≡◌, ◌≤◌, ◌+◌, ◌-◌, ◌*◌, ◌/◌, ◌%◌, ◌^◌, Bool, List, ◌++◌, length, drop, refl, ap, sym, subst, ◌∙◌, arith, length-append, length-take}
use Rattle.std.specs.Prelude.{sum_by}
use Rattle.std.specs.List.{range_with_len}
use Rattle.std.proofs.Math.Nat.{mul-le-mul_left, suc-mul}
use Rattle.std.proofs.lemmas.Bool.Decides.{nat_tests}
use Rattle.std.proofs.lemmas.List.Sums.{sum_by-cons}
use Rattle.flac_definitions.specs.Bits.{bits_in, bits_of, bits_to_byte}
use Rattle.flac_definitions.specs.BitLaws.{length-bits_in, length-bits_of}
use Rattle.flac_definitions.specs.Sums.{bits_sum}
use Rattle.flac_definitions.specs.declared.header.FrameHeader.{FrameHeader}
use Rattle.flac_definitions.specs.HeaderWriting.{further_bits, further_count, long_number_bits, number_bits, size_bits, block_size_code, code_bits, front_bits, header_bits}
use Rattle.flac_blocks.specs.CodedLaws.{few_bits, plain_depth}
use Rattle.flac_definitions.specs.FrameWriting.{header_of, channels_spelled, padded, frame_bits}
use Rattle.flac_definitions.specs.Modes.{channel_of, coded_of, channel_bits, mode_bits, best_mode, IsFormat}
use Rattle.flac_definitions.specs.declared.mode.BlockFormat.{BlockFormat}
use Rattle.flac_definitions.specs.declared.mode.ChannelMode.TheVariants.{Independent}
use Rattle.flac_block_laws.specs.Laws.{WrittenFramesAreRead}

further_most : (n : ℕ) → further_count n ≤ 5
further_most n = grind (arith, nat_tests)

further_length : (k n : ℕ) → length (further_bits k n) ≡ 8 * k
further_length zero n = omega arith
further_length (suc k) n =
    let b = 128 + n / 2 ^ (6 * k) % 64 in
    length-append (bits_of 8 b) (further_bits k n) ∙ omega (arith, length-bits_of 8 b, further_length k n)

long_most : (k n : ℕ) → k ≤ 5 → length (long_number_bits k n) ≤ 48
long_most k n h =
    let b = (256 - 2 ^ (7 - k)) + n / 2 ^ (6 * k) in
    omega (arith, h, length-append (bits_of 8 b) (further_bits k n), length-bits_of 8 b, further_length k n)

number_most : (n : ℕ) → length (number_bits n) ≤ 48
unfolding number_bits
number_most n =
    let k = further_count n in
    grind (arith, nat_tests, length-bits_of 8 n, long_most k n (further_most n))

size_most : (code n : ℕ) → length (size_bits code n) ≤ 16
size_most code n = grind (arith, nat_tests, length-bits_of 8 (n - 1), length-bits_of 16 (n - 1))

code_length : (h : FrameHeader) → length (code_bits h) ≡ 32
code_length h = simp (length-append, length-bits_of) refl

header_most : (h : FrameHeader) → length (header_bits h) ≤ 104
unfolding header_bits
header_most h =
    let a = code_bits h in
    let b = number_bits h.number in
    let c = size_bits (block_size_code h.block) h.block in
    let sum = bits_sum 8 0x07 (front_bits h) in
    omega (arith, length-append (front_bits h) (bits_of 8 sum), length-bits_of 8 sum, length-append (a ++ b) c, length-append a b, code_length h, number_most h.number, size_most (block_size_code h.block) h.block)

sum_most : (g : ℕ → ℕ) (m a n : ℕ) → ((j : ℕ) → g j ≤ m) → sum_by g (range_with_len a n) ≤ n * m
sum_most g m a zero h = omega arith
sum_most g m a (suc n) h =
    let e : sum_by g (range_with_len a (suc n)) ≡ g a + sum_by g (range_with_len (a + 1) n) = sum_by-cons g a (range_with_len (a + 1) n) in
    omega (arith, e, suc-mul n m, h a, sum_most g m (a + 1) n h)

channel_most : (f : BlockFormat) (block : ℕ) (xs : List ℤ) (c : ℕ) → IsFormat f → channel_bits f Independent block xs c ≤ 8 + f.depth * block
channel_most f block xs c h =
    let few = few_bits f.depth f.level (channel_of block xs c) in
    let count : length (channel_of block xs c) ≤ block = omega (arith, length-take block (drop (c * block) xs)) in
    let most : f.depth * length (channel_of block xs c) ≤ f.depth * block = mul-le-mul_left f.depth count in
    let at_depth : channel_bits f Independent block xs c ≤ 8 + f.depth * length (channel_of block xs c) =
    subst (λ (d : ℕ). candidate_bits d (channel_of block xs c) (best_candidate d f.level (channel_of block xs c)) ≤ 8 + f.depth * length (channel_of block xs c)) (sym (plain_depth f c h)) few in
    omega (arith, at_depth, most)

frame_length : WrittenFramesAreRead → (f : BlockFormat) (block number : ℕ) (xs : List ℤ) → IsFormat f
    → length (frame_bits f block number xs) ≤ 127 + f.channels * (8 + f.depth * block)
frame_length laws f block number xs h =
    let mode = best_mode f block xs in
    let head = header_bits (header_of f mode block number) in
    let body = channels_spelled f mode block (coded_of mode block xs) f.channels in
    let front = head ++ body in
    let sum = bits_sum 16 0x8005 (padded front) in
    let least : mode_bits f block xs mode ≤ mode_bits f block xs Independent = (laws.least f block xs).0 in
    let plain : mode_bits f block xs Independent ≤ f.channels * (8 + f.depth * block) = sum_most (channel_bits f Independent block xs) (8 + f.depth * block) 0 f.channels (λ c. channel_most f block xs c h) in
    omega (arith, length-append (padded front) (bits_of 16 sum), length-bits_of 16 sum, length-append front (bits_of (bits_to_byte (length front)) 0), length-bits_of (bits_to_byte (length front)) 0, length-append head body, header_most (header_of f mode block number), laws.mode_lengths f mode block xs, least, plain)

-- the bytes that a block's frame has at most
pub frame_most : WrittenFramesAreRead → (f : BlockFormat) (block number : ℕ) (xs : List ℤ) (frame : List ℕ) → IsFormat f
    → bits_in frame ≡ frame_bits f block number xs → length frame ≤ (127 + f.channels * (8 + f.depth * block)) / 8
frame_most laws f block number xs frame h e =
    omega (arith, length-bits_in frame, ap (λ (bits : List Bool). length bits) e, frame_length laws f block number xs h)
