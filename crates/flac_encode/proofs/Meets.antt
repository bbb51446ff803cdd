-- An encoder that does each command by what it keeps meets the definition over all commands.
use Rattle.std.proofs.Common.{◌≡◌, List, [], ◌∷◌, ◌++◌, Option, Result, Ok, Err, ap, sym, subst, ◌∙◌}
use Rattle.std.specs.Result.{OnOk, OnErr}
use Rattle.wc_config.specs.declared.config.AudioEncoderConfig.{AudioEncoderConfig}
use Rattle.wc_config.specs.declared.config.Config.{Config}
use Rattle.wc_config.specs.declared.config.Config.TheVariants as config
use Rattle.codec_definitions.specs.declared.unit.Unit as unit
use Rattle.codec_definitions.specs.declared.command.Command.{Command}
use Rattle.codec_definitions.specs.Answers.{answer_after}
use Rattle.codec_definitions.specs.FlacEncoder.{Kept, nothing_kept, blocks_state}
use Rattle.coder_api.specs.declared.coder.CoderFault.{CoderFault}
use Rattle.coder_api.specs.Meaning.{CoderState, SamplesKept, Meaning, Stopped, Configured, IsConfigured, IsAt, Goes, IsReadyAfter, Takes, Answers, state_after}
use Rattle.flac_encode.specs.Steps.{IsRanged, step_answer, step_after}
use Rattle.flac_encode.specs.declared.encoder.Encoder.{Encoder}
use Rattle.flac_encode.specs.declared.coder.Setting.{Setting}
use Rattle.flac_encode.specs.declared.coder.Setting.TheVariants as setting
use Rattle.flac_encode.specs.Value.{encoder_id, state_of, meaning_of, IsInRange, answer_in, after_in}
use Rattle.flac_encode.proofs.Steps.{none_kept, answer_step, after_step}

same_config : (a b : Config) (s t : CoderState) → Configured a s ≡ Configured b t → (a ≡ b) × (s ≡ t)
same_config a b s t e = let p : a ≡ b = cc in let q : s ≡ t = cc in (p, q)

same_kept : (s t : Kept) → SamplesKept s ≡ SamplesKept t → s ≡ t
same_kept s t e = cc

-- where an encoder stands: its config, and what it keeps after the commands
record Stands (e : Encoder) (c : Config) (before : List Command) : Type 0 where
  config : config.AudioEncoder e.config ≡ c
  kept : state_of e ≡ blocks_state e.config before

stands : (e : Encoder) (c : Config) (before : List Command) → IsAt encoder_id c before (meaning_of (setting.Encoder e)) → Stands e c before
stands e c before at =
    let parts = same_config (config.AudioEncoder e.config) c (SamplesKept (state_of e)) (state_after encoder_id c before) at in
    record {
      config = parts.0;
      kept = same_kept (state_of e) (blocks_state e.config before) (parts.1 ∙ ap (λ (x : Config). state_after encoder_id x before) (sym parts.0));
    }

answers_there : (e : Encoder) (c : Config) (before : List Command) (x : Command) → IsRanged e.config → Stands e c before → answer_after encoder_id c before x ≡ answer_in (setting.Encoder e) x
answers_there e c before x g s =
    ap (λ (k : Config). answer_after encoder_id k before x) (sym s.config)
    ∙ (answer_step e.config before x g.channels ∙ ap (λ (k : Kept). step_answer e.config k x) (sym s.kept))

leaves_there : (e : Encoder) (c : Config) (before : List Command) (x : Command) (new : Meaning) → IsRanged e.config → Stands e c before → new ≡ after_in (setting.Encoder e) x → IsAt encoder_id c (before ++ x ∷ []) new
leaves_there e c before x new g s is =
    let all = before ++ x ∷ [] in
    let kept : step_after e.config (state_of e) x ≡ blocks_state e.config all =
    ap (λ (k : Kept). step_after e.config k x) s.kept ∙ sym (after_step e.config before x g.channels) in
    is ∙ (ap (λ (k : Kept). Configured (config.AudioEncoder e.config) (SamplesKept k)) kept ∙ ap (λ (k : Config). Configured k (state_after encoder_id k all)) s.config)

goes : (e : Encoder) (c : Config) (before : List Command) (x : Command) (result : Result (Unit {0}) CoderFault) (new : Meaning) → IsRanged e.config → Stands e c before → OnOk result (new ≡ after_in (setting.Encoder e) x) → OnErr result (new ≡ Stopped) → Goes encoder_id c before x result new
goes e c before x (Ok t) new g s ok err = leaves_there e c before x new g s ok
goes e c before x (Err f) new g s ok err = err

ready_after : (e : Encoder) (x : Command) (result : Result (Unit {0}) CoderFault) (new : Meaning) → OnOk result (new ≡ after_in (setting.Encoder e) x) → OnErr result (new ≡ Stopped) → IsReadyAfter result new
ready_after e x (Ok t) new ok err = subst IsConfigured (sym ok) tt
ready_after e x (Err f) new ok err = err

pub takes_from : (s : Setting) (x : Command) (result : Result (Unit {0}) CoderFault) (out after : List unit.Unit) (new : Meaning) → IsInRange s → IsConfigured (meaning_of s) → Answers (answer_in s x) result out after → OnOk result (new ≡ after_in s x) → OnErr result (new ≡ Stopped) → Takes encoder_id (meaning_of s) x result out after new
takes_from setting.Stopped x result out after new g configured a ok err = absurd configured
takes_from (setting.Encoder e) x result out after new g configured a ok err = record {
  answer = λ c before at. subst (λ (o : Option (List unit.Unit)). Answers o result out after) (sym (answers_there e c before x g.ranged (stands e c before at))) a;
  goes = λ c before at. goes e c before x result new g.ranged (stands e c before at) ok err;
  ready = ready_after e x result new ok err;
}

-- an encoder that keeps nothing has been given nothing
pub begins : (e : Encoder) (c : AudioEncoderConfig) → IsRanged c → e.config ≡ c → state_of e ≡ nothing_kept → IsAt encoder_id (config.AudioEncoder c) [] (meaning_of (setting.Encoder e))
begins e c g same none =
    ap (λ (k : AudioEncoderConfig). Configured (config.AudioEncoder k) (SamplesKept (state_of e))) same
    ∙ ap (λ (k : Kept). Configured (config.AudioEncoder c) (SamplesKept k)) (none ∙ sym (none_kept c g.channels))
