-- A drain of the decoder, which keeps nothing.
use Rattle.std.proofs.Common.{◌≡◌, List, [], ◌∷◌, ◌++◌, refl, sym, subst, append-nil}
use Rattle.std.specs.Prelude.{Ok}
use Rattle.wc_config.specs.declared.config.Config.{Config}
use Rattle.wc_config.specs.declared.config.Config.TheVariants as config
use Rattle.codec_definitions.specs.declared.unit.Unit as unit
use Rattle.codec_definitions.specs.declared.command.Command.TheVariants as command
use Rattle.codec_definitions.specs.Answers.{answer_after}
use Rattle.coder_api.specs.Meaning.{CoderState, Configured, new_state, IsConfigured, IsAt, Answers, Takes, state_after}
use Rattle.flac_decode.specs.Coder.{decoder_id, meaning_of}
use Rattle.flac_decode.specs.declared.coder.Setting.{Setting}
use Rattle.flac_decode.specs.declared.coder.Setting.TheVariants as setting

same_config : (a b : Config) (s t : CoderState) → Configured a s ≡ Configured b t → a ≡ b
same_config a b s t e = cc

pub drains : (s : Setting) (out : List unit.Unit) → IsConfigured (meaning_of s) → Takes decoder_id (meaning_of s) command.Drain (Ok tt) out out (meaning_of s)
drains setting.Stopped out ready = elim ready [ ]
drains (setting.Decoder c info) out ready = record {
  answer = λ d before at.
      let same = same_config (config.AudioDecoder c) d new_state (state_after decoder_id d before) at in
      subst (λ (y : Config). Answers (answer_after decoder_id y before command.Drain) (Ok tt) out out) same ([], refl, sym (append-nil out));
  goes = λ d before at.
      let same = same_config (config.AudioDecoder c) d new_state (state_after decoder_id d before) at in
      subst (λ (y : Config). IsAt decoder_id y (before ++ command.Drain ∷ []) (meaning_of (setting.Decoder c info))) same refl;
  ready = tt;
}
