-- What a config is that a sample coder serves.
use Rattle.std.proofs.Common.{◌≡◌, ◌≤◌, ◌<◌, Bool, true, false, ◌&&◌, not, nat_le, cond, Option, Some, None, is_some, refl, arith, bytes_eq, codes}
use Rattle.std.proofs.lemmas.Bool.Decides.{nat_tests}
use Rattle.std.proofs.lemmas.Bool.{leb-true, and_parts}
use Rattle.wc_config.specs.declared.{codec.CodecId.CodecId, codec.Role.Role, codec.CoderId.CoderId, config.AudioDecoderConfig.AudioDecoderConfig}
use Rattle.wc_config.specs.declared.config.{AudioEncoderConfig.AudioEncoderConfig, VideoDecoderConfig.VideoDecoderConfig, Config.Config}
use Rattle.wc_config.specs.Configs.{audio_codec, id_with, is_flac, has_streaminfo, is_blank, is_block_size, is_depth, is_valid, is_within, coder_id_of, is_supported}
use Rattle.coder_api.specs.Meaning.{is_codec, is_role, asks_for, serves}
use Rattle.codec_definitions.specs.SampleCodecs.{sample_codec}
use Rattle.sample_conversion.specs.declared.size.SampleSize.{SampleSize}
use Rattle.g711.specs.declared.law.Law.{Law}
use Rattle.sample_coder.specs.{declared.coding.Coding.Coding, Coding.id_of, Value.IsInRange, declared.coder.Setting.Setting}

-- a codec of which each sample is coded by itself
abbrev pub is_sampled : CodecId → Bool
is_sampled k = is_some (sample_codec k)

-- a codec that equals one is one
pub same_kind : (k w : CodecId) → is_sampled k ≡ true → is_codec k w ≡ true → is_sampled w ≡ true
same_kind CodecId.PcmU8 CodecId.PcmU8 p e = refl
same_kind k CodecId.PcmU8 p e = refl
same_kind k w p e = cc

pub asked_is_sampled : (id : CoderId) (r : Role) (w : CodecId) → is_sampled id.codec ≡ true → asks_for id (id_with r (Some w)) ≡ true → is_sampled w ≡ true
asked_is_sampled id r w pcm asks = same_kind id.codec w pcm (and_parts (is_role id.role r) (is_codec id.codec w) asks).1

-- of no codec that is coded block by block
sampled_plain : (id : CoderId) (r : Role) (o : Option CodecId) → is_sampled id.codec ≡ true → asks_for id (id_with r o) ≡ true → is_flac o ≡ false
sampled_plain id r None pcm asks = absurd cc
sampled_plain id r (Some CodecId.Flac) pcm asks = (let no = asked_is_sampled id r CodecId.Flac pcm asks in absurd cc)
sampled_plain id r (Some _) pcm asks = refl

-- where FLAC has a bound of its own, the other one holds
sampled_bound : (o : Option CodecId) (x y : Bool) → is_flac o ≡ false → cond (is_flac o) x y ≡ true → y ≡ true
sampled_bound o x y plain bound = rw plain at bound

pub decoder_range : (id : CoderId) (c : AudioDecoderConfig) → is_sampled id.codec ≡ true → serves id (Config.AudioDecoder c) ≡ true → (0 < c.rate) × (0 < c.channels) × (c.channels ≤ 32)
decoder_range id c pcm s =
    let parts = and_parts (is_supported (Config.AudioDecoder c)) (asks_for id (coder_id_of (Config.AudioDecoder c))) s in
    let plain = sampled_plain id Role.Decode (audio_codec c.codec) pcm parts.1 in
    let supported = rw plain at parts.0 in
    grind (arith, nat_tests, supported)

pub encoder_range : (id : CoderId) (c : AudioEncoderConfig) → is_sampled id.codec ≡ true → serves id (Config.AudioEncoder c) ≡ true → IsInRange (Setting.Encoder c)
encoder_range id c pcm s =
    let parts = and_parts (is_supported (Config.AudioEncoder c)) (asks_for id (coder_id_of (Config.AudioEncoder c))) s in
    let plain = sampled_plain id Role.Encode (audio_codec c.codec) pcm parts.1 in
    let known = and_parts (is_valid (Config.AudioEncoder c) && is_some (coder_id_of (Config.AudioEncoder c))) (is_within (Config.AudioEncoder c)) parts.0 in
    let valid = and_parts (is_valid (Config.AudioEncoder c)) (is_some (coder_id_of (Config.AudioEncoder c))) known.0 in
    let numbers : (not (is_blank c.codec) && nat_le 1 c.rate && nat_le 1 c.channels) ≡ true = (and_parts _ (is_block_size c.block_size) (and_parts _ (nat_le c.level 8) (and_parts _ (is_depth c.depth) valid.0).0).0).0 in
    let bound = rw plain at known.1 in
    grind (arith, nat_tests, numbers, bound, plain)

pub sampled : (k : Coding) → is_sampled (id_of k) ≡ true
sampled (Coding.Pcm SampleSize.One) = refl
sampled (Coding.G711 Law.Alaw) = refl
sampled k = refl
