-- The description of a stream.
use Rattle.std.proofs.Common.{ℕ, ◌≡◌, ◌<◌, ◌≤◌, ◌^◌, ◌==◌, ◌||◌, Bool, true, false, cond, List, inl, inr, refl, ap, ◌∙◌, arith}
use Rattle.std.specs.Prelude.{Some, None}
use Rattle.std.proofs.lemmas.Bool.{eqb-true, or_cases}
use Rattle.flac_definitions.specs.Bits.{bits_in}
use Rattle.wc_config.specs.Configs.{audio_codec, is_depth, is_flac}
use Rattle.wc_config.specs.declared.config.AudioEncoderConfig.{AudioEncoderConfig}
use Rattle.wc_config.specs.declared.stream_info.StreamInfo.{StreamInfo}
use Rattle.flac_definitions.specs.Descriptions.{CanBeWritten, description_bits}
use Rattle.codec_definitions.specs.FlacCode.{bytes_with, stream_of, stream_description}
use Rattle.coder_api.specs.Meaning.{description_for}
use Rattle.flac_encode.specs.Steps.{IsRanged}

chosen_most : (b : Bool) (n : ℕ) → n ≤ 65535 → cond b 4096 n < 2 ^ 16
chosen_most true n h = omega arith
chosen_most false n h = omega (arith, h)

depth_range : (n : ℕ) → is_depth n ≡ true → (1 ≤ n) × (n ≤ 32)
depth_range n h = elim (or_cases ((n == 8) || (n == 16) || (n == 24)) (n == 32) h) [
  | inl a ↦ elim (or_cases ((n == 8) || (n == 16)) (n == 24) a) [
    | inl b ↦ elim (or_cases (n == 8) (n == 16) b) [
      | inl c ↦ at 8 (eqb-true n 8 c) (omega arith) (omega arith)
      | inr c ↦ at 16 (eqb-true n 16 c) (omega arith) (omega arith)
    ]
    | inr b ↦ at 24 (eqb-true n 24 b) (omega arith) (omega arith)
  ]
  | inr a ↦ at 32 (eqb-true n 32 a) (omega arith) (omega arith)
]
  where
    at : (k : ℕ) → n ≡ k → 1 ≤ k → k ≤ 32 → (1 ≤ n) × (n ≤ 32)
    at k e low high = (omega (arith, e, low), omega (arith, e, high))

pub written_fields : (c : AudioEncoderConfig) → IsRanged c → CanBeWritten (stream_of c)
written_fields c g =
    let block = chosen_most (c.block_size == 0) c.block_size g.most_block in
    let depth = depth_range c.depth g.depth in
    record {
      min_block = block;
      max_block = block;
      min_frame = omega arith;
      max_frame = omega arith;
      rate = omega (arith, g.most_rate);
      some_channels = g.channels;
      few_channels = g.most_channels;
      some_depth = depth.0;
      few_depth = depth.1;
      total = omega arith;
    }

pub written_description : (c : AudioEncoderConfig) (info : StreamInfo) (bytes : List ℕ) → bytes ≡ bytes_with (bits_in bytes) → info ≡ stream_of c → bits_in bytes ≡ description_bits true info → bytes ≡ stream_description c
unfolding stream_description
written_description c info bytes own is e = own ∙ ap bytes_with (e ∙ ap (λ (s : StreamInfo). description_bits true s) is)

chosen_flac : (b : Bool) (d : List ℕ) → b ≡ true → Some d ≡ cond b (Some d) None
chosen_flac true d e = refl
chosen_flac false d e = cc

-- FLAC's configs have it
pub described : (c : AudioEncoderConfig) → IsRanged c → Some (stream_description c) ≡ description_for c
described c g = chosen_flac (is_flac (audio_codec c.codec)) (stream_description c) g.flac
