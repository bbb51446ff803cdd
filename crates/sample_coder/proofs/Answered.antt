-- What a sample coder's commands give by its codec's definition, whatever came before.
use Rattle.std.proofs.Common.{ℕ, ◌≡◌, Bool, true, false, cond, List, [], ◌∷◌, ◌++◌, refl, ap, sym, subst, ◌∙◌, append-nil}
use Rattle.std.specs.Prelude.{Option, Some, None, Result, Ok, Err}
use Rattle.wc_config.specs.declared.{codec.Role.Role, codec.CoderId.CoderId, config.AudioDecoderConfig.AudioDecoderConfig}
use Rattle.wc_config.specs.declared.config.{AudioEncoderConfig.AudioEncoderConfig, Config.Config}
use Rattle.wc_config.specs.Configs.{audio_codec, is_flac}
use Rattle.codec_definitions.specs.declared.unit.Unit as unit
use Rattle.codec_definitions.specs.{declared.command.Command.Command, Answers.answer_after, SampleCodecs.sample_decoder, SampleCodecs.sample_encoder}
use Rattle.codec_definitions.specs.FlacCode.{stream_description}
use Rattle.coder_api.specs.declared.coder.CoderFault.{CoderFault}
use Rattle.coder_api.specs.Meaning.{CoderState, NothingKept, Configured, IsConfigured, IsReadyAfter, IsAt, Answers, Goes, Takes, state_after, setup_of}
use Rattle.sample_conversion.specs.declared.size.SampleSize.{SampleSize}
use Rattle.g711.specs.declared.law.Law.{Law}
use Rattle.sample_coder.specs.{declared.coding.Coding.Coding, declared.coder.Setting.Setting, Coding.id_of, Coding.definition}
use Rattle.sample_coder.specs.Value.{meaning_of, answer_in}

abbrev coder_of : Role → Coding → CoderId
coder_of r k = record { role = r; codec = id_of k }

decoder_answer : (r : Role) (k : Coding) (c : AudioDecoderConfig) (before : List Command) (x : Command) → answer_after (coder_of r k) (Config.AudioDecoder c) before x ≡ sample_decoder (definition k) c x
decoder_answer r (Coding.Pcm SampleSize.One) c before x = refl
decoder_answer r (Coding.G711 Law.Alaw) c before x = refl
decoder_answer r k c before x = refl

encoder_answer : (r : Role) (k : Coding) (c : AudioEncoderConfig) (before : List Command) (x : Command) → answer_after (coder_of r k) (Config.AudioEncoder c) before x ≡ sample_encoder (definition k) c x
encoder_answer r (Coding.Pcm SampleSize.One) c before x = refl
encoder_answer r (Coding.G711 Law.Alaw) c before x = refl
encoder_answer r k c before x = refl

-- nothing is kept
encoder_state : (r : Role) (k : Coding) (c : AudioEncoderConfig) (commands : List Command) → NothingKept ≡ state_after (coder_of r k) (Config.AudioEncoder c) commands
encoder_state r (Coding.Pcm SampleSize.One) c commands = refl
encoder_state r (Coding.G711 Law.Alaw) c commands = refl
encoder_state r k c commands = refl

same_config : (a b : Config) (s t : CoderState) → Configured a s ≡ Configured b t → a ≡ b
same_config a b s t e = cc

same_answer : (r : Role) (k : Coding) (s : Setting) (c : Config) (before : List Command) (x : Command) → IsAt (coder_of r k) c before (meaning_of s) → answer_in k s x ≡ answer_after (coder_of r k) c before x
same_answer r k Setting.Stopped c before x at = cc
same_answer r k (Setting.Decoder d) c before x at =
    sym (decoder_answer r k d before x) ∙ ap (λ (y : Config). answer_after (coder_of r k) y before x) (same_config (Config.AudioDecoder d) c NothingKept (state_after (coder_of r k) c before) at)
same_answer r k (Setting.Encoder d) c before x at =
    sym (encoder_answer r k d before x) ∙ ap (λ (y : Config). answer_after (coder_of r k) y before x) (same_config (Config.AudioEncoder d) c NothingKept (state_after (coder_of r k) c before) at)

pub decoder_at : (r : Role) (k : Coding) (d : AudioDecoderConfig) (commands : List Command) → IsAt (coder_of r k) (Config.AudioDecoder d) commands (meaning_of (Setting.Decoder d))
decoder_at r k d commands = refl

pub encoder_at : (r : Role) (k : Coding) (d : AudioEncoderConfig) (commands : List Command) → IsAt (coder_of r k) (Config.AudioEncoder d) commands (meaning_of (Setting.Encoder d))
encoder_at r k d commands = ap (Configured (Config.AudioEncoder d)) (encoder_state r k d commands)

-- it stands where it stood, since nothing is kept
same_place : (r : Role) (k : Coding) (s : Setting) (c : Config) (before later : List Command) → IsAt (coder_of r k) c before (meaning_of s) → IsAt (coder_of r k) c later (meaning_of s)
same_place r k Setting.Stopped c before later at = cc
same_place r k (Setting.Decoder d) c before later at =
    subst (λ (y : Config). IsAt (coder_of r k) y later (meaning_of (Setting.Decoder d))) (same_config (Config.AudioDecoder d) c NothingKept (state_after (coder_of r k) c before) at) (decoder_at r k d later)
same_place r k (Setting.Encoder d) c before later at =
    subst (λ (y : Config). IsAt (coder_of r k) y later (meaning_of (Setting.Encoder d))) (same_config (Config.AudioEncoder d) c NothingKept (state_after (coder_of r k) c before) at) (encoder_at r k d later)

-- the setting after a command
abbrev pub setting_after : Result (Unit {0}) CoderFault → Setting → Setting
setting_after (Ok t) s = s
setting_after (Err e) s = Setting.Stopped

goes_on : (r : Role) (k : Coding) (s : Setting) (c : Config) (before : List Command) (x : Command) (result : Result (Unit {0}) CoderFault) → IsAt (coder_of r k) c before (meaning_of s) → Goes (coder_of r k) c before x result (meaning_of (setting_after result s))
goes_on r k s c before x (Ok t) at = same_place r k s c before (before ++ x ∷ []) at
goes_on r k s c before x (Err e) at = refl

stays_ready : (s : Setting) (result : Result (Unit {0}) CoderFault) → IsConfigured (meaning_of s) → IsReadyAfter result (meaning_of (setting_after result s))
stays_ready s (Ok t) ready = ready
stays_ready s (Err e) ready = refl

-- one command, taken
pub takes : (r : Role) (k : Coding) (s : Setting) (x : Command) (result : Result (Unit {0}) CoderFault) (old new : List unit.Unit) → IsConfigured (meaning_of s) → Answers (answer_in k s x) result old new → Takes (coder_of r k) (meaning_of s) x result old new (meaning_of (setting_after result s))
takes r k s x result old new ready given = record {
  answer = λ c before at. subst (λ (a : Option (List unit.Unit)). Answers a result old new) (same_answer r k s c before x at) given;
  goes = λ c before at. goes_on r k s c before x result at;
  ready = stays_ready s result ready;
}
