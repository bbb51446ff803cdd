-- What a config has that the decoder serves.
use Rattle.std.proofs.Common.{◌≡◌, Bool, true, false, ◌&&◌, nat_le, cond, Option, Some, None, is_some, refl}
use Rattle.wc_config.specs.declared.codec.CodecId.{CodecId}
use Rattle.wc_config.specs.declared.codec.CodecId.TheVariants as codec
use Rattle.wc_config.specs.declared.codec.Role.{Role}
use Rattle.wc_config.specs.declared.codec.Role.TheVariants as role
use Rattle.wc_config.specs.declared.config.AudioDecoderConfig.{AudioDecoderConfig}
use Rattle.wc_config.specs.declared.config.Config.TheVariants as config
use Rattle.wc_config.specs.Configs.{audio_codec, id_with, is_flac, has_streaminfo, is_valid, is_within, coder_id_of, is_supported}
use Rattle.coder_api.specs.Meaning.{asks_for, serves}
use Rattle.flac_decode.specs.Coder.{decoder_id}

pub no : false ≡ true → ⊥
no e = cc

pub both : (a b : Bool) → (a && b) ≡ true → (a ≡ true) × (b ≡ true)
both true true e = (refl, refl)
both true false e = absurd (no e)
both false b e = absurd (no e)

asked_flac : (r : Role) (o : Option CodecId) → asks_for decoder_id (id_with r o) ≡ true → (r ≡ role.Decode) × (is_flac o ≡ true)
asked_flac r None e = absurd (no e)
asked_flac role.Decode (Some codec.Flac) e = (refl, refl)
asked_flac role.Encode (Some w) e = absurd (no e)
asked_flac role.Decode (Some _) e = cc

flac_bound : (t x y : Bool) → t ≡ true → cond t x y ≡ true → x ≡ true
flac_bound true x y e h = h
flac_bound false x y e h = absurd (no e)

pub has_description : (c : AudioDecoderConfig) → serves decoder_id (config.AudioDecoder c) ≡ true → has_streaminfo c.description ≡ true
has_description c s =
    let parts = both (is_supported (config.AudioDecoder c)) (asks_for decoder_id (coder_id_of (config.AudioDecoder c))) s in
    let known = both (is_valid (config.AudioDecoder c) && is_some (coder_id_of (config.AudioDecoder c))) (is_within (config.AudioDecoder c)) parts.0 in
    let asked = asked_flac role.Decode (audio_codec c.codec) parts.1 in
    flac_bound (is_flac (audio_codec c.codec)) (has_streaminfo c.description) (nat_le c.channels 32) asked.1 known.1
