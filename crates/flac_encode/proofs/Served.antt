-- What a config is that a FLAC encoder serves.
use Rattle.std.proofs.Common.{ℕ, ◌≡◌, ◌≤◌, Bool, true, false, ◌&&◌, ◌==◌, not, nat_le, cond, inl, inr, Option, Some, None, is_some, refl, arith}
use Rattle.std.proofs.lemmas.Bool.{leb-true, eqb-true, or_cases}
use Rattle.wc_config.specs.declared.codec.CodecId.{CodecId}
use Rattle.wc_config.specs.declared.codec.CodecId.TheVariants as codec
use Rattle.wc_config.specs.declared.codec.Role.TheVariants as role
use Rattle.wc_config.specs.declared.config.AudioEncoderConfig.{AudioEncoderConfig}
use Rattle.wc_config.specs.declared.config.Config.TheVariants as config
use Rattle.wc_config.specs.Configs.{audio_codec, id_with, is_flac, is_blank, is_block_size, is_depth, is_valid, is_within, coder_id_of, is_supported}
use Rattle.coder_api.specs.Meaning.{asks_for, serves}
use Rattle.flac_encode.specs.Steps.{IsRanged}
use Rattle.flac_encode.specs.Value.{encoder_id}

no : false ≡ true → ⊥
no e = cc

both : (a b : Bool) → (a && b) ≡ true → (a ≡ true) × (b ≡ true)
both true true e = (refl, refl)
both true false e = absurd (no e)
both false b e = absurd (no e)

asked_flac : (o : Option CodecId) → asks_for encoder_id (id_with role.Encode o) ≡ true → is_flac o ≡ true
asked_flac None asks = absurd (no asks)
asked_flac (Some codec.Flac) asks = refl
asked_flac (Some _) asks = absurd (no asks)

asked : (o : Option CodecId) (x y : Bool) → asks_for encoder_id (id_with role.Encode o) ≡ true → cond (is_flac o) x y ≡ true → x ≡ true
asked None x y asks bound = absurd (no asks)
asked (Some codec.Flac) x y asks bound = bound
asked (Some _) x y asks bound = absurd (no asks)

block_bound : (n : ℕ) → is_block_size n ≡ true → n ≤ 65535
block_bound n e = elim (or_cases (n == 0) (nat_le 16 n && nat_le n 65535) e) [
  | inl z ↦ omega (arith, eqb-true n 0 z)
  | inr r ↦ leb-true n 65535 (both (nat_le 16 n) (nat_le n 65535) r).1
]

pub served_range : (c : AudioEncoderConfig) → serves encoder_id (config.AudioEncoder c) ≡ true → IsRanged c
served_range c s =
    let parts = both (is_supported (config.AudioEncoder c)) (asks_for encoder_id (coder_id_of (config.AudioEncoder c))) s in
    let known = both (is_valid (config.AudioEncoder c) && is_some (coder_id_of (config.AudioEncoder c))) (is_within (config.AudioEncoder c)) parts.0 in
    let valid = both (is_valid (config.AudioEncoder c)) (is_some (coder_id_of (config.AudioEncoder c))) known.0 in
    let options = both (not (is_blank c.codec) && nat_le 1 c.rate && nat_le 1 c.channels && is_block_size c.block_size && nat_le c.level 8) (is_depth c.depth) valid.0 in
    let level = both (not (is_blank c.codec) && nat_le 1 c.rate && nat_le 1 c.channels && is_block_size c.block_size) (nat_le c.level 8) options.0 in
    let block = both (not (is_blank c.codec) && nat_le 1 c.rate && nat_le 1 c.channels) (is_block_size c.block_size) level.0 in
    let numbers = both (not (is_blank c.codec) && nat_le 1 c.rate) (nat_le 1 c.channels) block.0 in
    let rate = both (not (is_blank c.codec)) (nat_le 1 c.rate) numbers.0 in
    let bounds = both (nat_le c.channels 8) (nat_le c.rate 1048575) (asked (audio_codec c.codec) (nat_le c.channels 8 && nat_le c.rate 1048575) (nat_le c.channels 32) parts.1 known.1) in
    record {
      flac = asked_flac (audio_codec c.codec) parts.1;
      level = leb-true c.level 8 level.1;
      rate = leb-true 1 c.rate rate.1;
      most_rate = leb-true c.rate 1048575 bounds.1;
      channels = leb-true 1 c.channels numbers.1;
      most_channels = leb-true c.channels 8 bounds.0;
      most_block = block_bound c.block_size block.1;
      depth = options.1;
    }
