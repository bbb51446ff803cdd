-- The bytes that FLAC's encoder makes of bits, and the description of its stream.
use Rattle.std.proofs.Common.{ℕ, ℤ, zero, suc, ◌≡◌, ◌+◌, ◌*◌, ◌/◌, ◌<◌, Bool, true, false, cond, List, length, length-append, take, drop, map, Option, Some, None, refl, ap, ◌∙◌, lit<}
use Rattle.std.specs.List.{range_with_len}
use Rattle.std.proofs.lemmas.List.FromFn.{length-map-range_with_len}
use Rattle.wc_config.specs.declared.config.AudioEncoderConfig.{AudioEncoderConfig}
use Rattle.wc_config.specs.Configs.{audio_codec, is_flac}
use Rattle.flac_definitions.specs.Bits.{number_of}
use Rattle.flac_definitions.specs.BitLaws.{IsBytes, length-bits_of, length-bits_in, number_of_take-lt}
use Rattle.flac_definitions.specs.Descriptions.{description_bits}
use Rattle.flac_definitions.specs.FrameWriting.{frame_bits}
use Rattle.codec_definitions.specs.FlacCode.{format_of, apart, bytes_with, flac_code, stream_of, stream_description}
use Rattle.coder_api.specs.Meaning.{description_for}

pub length-bytes_with : (bits : List Bool) → length (bytes_with bits) ≡ length bits / 8
length-bytes_with bits = length-map-range_with_len (λ i. number_of (take 8 (drop (8 * i) bits))) 0 (length bits / 8)

range_fits : (f : ℕ → ℕ) → ((i : ℕ) → f i < 256) → (a n : ℕ) → IsBytes (map f (range_with_len a n))
range_fits f small a zero zero = lit< tt
range_fits f small a zero (suc i) = lit< tt
range_fits f small a (suc n) zero = small a
range_fits f small a (suc n) (suc i) = range_fits f small (a + 1) n i

pub bytes_with_fit : (bits : List Bool) → IsBytes (bytes_with bits)
bytes_with_fit bits = range_fits (λ i. number_of (take 8 (drop (8 * i) bits))) (λ i. number_of_take-lt 8 (drop (8 * i) bits)) 0 (length bits / 8)

-- a block's frame holds bytes
pub code_fits : (c : AudioEncoderConfig) (number : ℕ) (values : List ℤ) → IsBytes (flac_code c number values)
unfolding flac_code
code_fits c number values = bytes_with_fit (frame_bits (format_of c) (length values / c.channels) number (apart c.channels values))

-- the description of a stream has 42 bytes
pub length-stream_description : (c : AudioEncoderConfig) → length (stream_description c) ≡ 42
unfolding stream_description
length-stream_description c =
    let count : length (description_bits true (stream_of c)) ≡ 336 = simp (length-append, length-bits_of, length-bits_in) refl in
    length-bytes_with (description_bits true (stream_of c)) ∙ ap (λ (n : ℕ). n / 8) count

pub stream_description_fits : (c : AudioEncoderConfig) → IsBytes (stream_description c)
unfolding stream_description
stream_description_fits c = bytes_with_fit (description_bits true (stream_of c))

-- what holds of no description, and of a FLAC stream's, holds of what decoding asks for
pub described_where : (P : Option (List ℕ) → Type 0) (c : AudioEncoderConfig) → P None → P (Some (stream_description c)) → P (description_for c)
described_where P c none some = by (is_flac (audio_codec c.codec))
  where
    by : (b : Bool) → P (cond b (Some (stream_description c)) None)
    by true = some
    by false = none
