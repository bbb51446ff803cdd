-- A config that was read is one of its codec's kind, or breaks a rule of WebIDL.
use Rattle.std.proofs.Common.{◌≡◌, ℕ, true, codes, List, Option, IfOk, arith}
use Rattle.serde_json.specs.Data.{Data}
use Rattle.wc_config.specs.declared.kind.Kind.{Kind}
use Rattle.script_types.specs.Sound.{suits}
use Rattle.script_steps.specs.ConfigRead.{codec_in, rate_in, channels_in, flac_in, flac_number, pixels_in, size_in, key_interval_in, audio_encoder_with, video_decoder_with, video_encoder_with, config_of}
use Rattle.script_steps.proofs.ReferenceLaws.{by_part}

encoder_suits : (codec : Option (List ℕ)) (rate channels block_size level depth : Option ℕ) → suits (audio_encoder_with codec rate channels block_size level depth) Kind.AudioEncoder ≡ true
encoder_suits codec rate channels block_size level depth = grind arith

decoder_suits : (codec : Option (List ℕ)) (width height aspect_width aspect_height : Option (Option ℕ)) → suits (video_decoder_with codec width height aspect_width aspect_height) Kind.VideoDecoder ≡ true
decoder_suits codec width height aspect_width aspect_height = grind arith

video_encoder_suits : (codec : Option (List ℕ)) (width height key_interval : Option ℕ) → suits (video_encoder_with codec width height key_interval) Kind.VideoEncoder ≡ true
video_encoder_suits codec width height key_interval = grind arith

pub config_suits : (k : Kind) (d : Data) → IfOk (config_of k d) (λ c. suits c k ≡ true)
config_suits Kind.AudioDecoder d = grind arith
config_suits Kind.AudioEncoder d =
    by_part (codec_in d) _ _ (λ codec a. by_part (rate_in d) _ _ (λ rate b. by_part (channels_in d) _ _ (λ channels c. by_part (flac_in d) _ _ (λ flac e.
    by_part (flac_number (codes "blockSize") 0 flac) _ _ (λ block_size f. by_part (flac_number (codes "compressLevel") 5 flac) _ _ (λ level g.
    by_part (flac_number (codes "bitsPerSample") 16 flac) _ _ (λ depth h. encoder_suits codec rate channels block_size level depth)))))))
config_suits Kind.VideoDecoder d =
    by_part (codec_in d) _ _ (λ codec a. by_part (pixels_in (codes "codedWidth") d) _ _ (λ width b. by_part (pixels_in (codes "codedHeight") d) _ _ (λ height c.
    by_part (pixels_in (codes "displayAspectWidth") d) _ _ (λ aspect_width e. by_part (pixels_in (codes "displayAspectHeight") d) _ _ (λ aspect_height f.
    decoder_suits codec width height aspect_width aspect_height)))))
config_suits Kind.VideoEncoder d =
    by_part (codec_in d) _ _ (λ codec a. by_part (size_in (codes "width") d) _ _ (λ width b. by_part (size_in (codes "height") d) _ _ (λ height c.
    by_part (key_interval_in d) _ _ (λ key_interval e. video_encoder_suits codec width height key_interval))))
