-- Outputs by the kinds of their codecs: the lines that show them, and those of a legal run that fits its script.
use Rattle.std.proofs.Common.{ℕ, suc, ◌≡◌, Bool, true, cond, List, [], ◌∷◌, ◌++◌, map, Option, Some, None, refl, ap, sym, subst, ◌∙◌, arith}
use Rattle.std.specs.Prelude.{nat_lt, flat_map, unwrap_or, option_to_list}
use Rattle.std.specs.List.{AllByRecursion, slice_get}
use Rattle.std.proofs.lemmas.Bool.{lt-ltb, ltb-true}
use Rattle.wc_base.specs.{Options.some_same, declared.media.Samples.Samples, declared.who.Who.Who}
use Rattle.wc_config.specs.declared.{config.AudioDecoderConfig.AudioDecoderConfig, config.Config.Config, kind.Kind.Kind}
use Rattle.wc_chunk.specs.declared.chunk.Chunk.{Chunk}
use Rattle.codec_definitions.specs.declared.unit.Unit as media
use Rattle.codec_definitions.specs.declared.unit.Unit.TheVariants as unit
use Rattle.codec_model.specs.{declared.entry.Call.Call, declared.entry.Entry.Entry, declared.entry.Event.Event, declared.entry.Shown.Shown, Shown.units_in, Shown.units_shown}
use Rattle.codec_follow.specs.Outputs.{is_codec_string, IsPlainDescription, IsPlainConfig, IsOutputOf, IsConfigOf, ConfiguresAs, empty_output}
use Rattle.codec_follow.specs.Laws.{OutputsAreOfKind}
use Rattle.script_types.specs.declared.{script.ScriptData.ScriptData, script.CodecItem.CodecItem, steps.Step.Step}
use Rattle.script_types.specs.{Sound.is_sound, Sound.suits, SoundLaws.step_at, SoundLaws.codec_there}
use Rattle.report_text.specs.declared.{result.StepResult.StepResult, line.EventLine.EventLine, line.Line.Line}
use Rattle.report_lines.specs.Fits.{FitsEventLine, FitsLine}
use Rattle.media_variables.specs.Variables.{Medium}
use Rattle.codec_accounts.specs.Owed.{at}
use Rattle.run_model.specs.declared.run.CodecTrace.{CodecTrace}
use Rattle.run_model.specs.declared.run.Run.{Run}
use Rattle.run_model.specs.Recorded.{Recorded}
use Rattle.run_model.specs.FitsLaws.{made_at, calls_by_places}
use Rattle.run_model.specs.Fits.{CallsAreIn, ArgumentsAreIn, HasArguments, variables_at, IsAnswerOf, IsResultOf, entry_in, step_in, Fits, IsLegalTrace, AreLegalTraces, IsLegalRun}
use Rattle.trace_text.specs.Report.{config_lines, output_lines, event_lines}
use Rattle.run_ranges.specs.Counts.{caller_of_step, all_from}
use Rattle.report_reader.specs.Read.{description_of, config_in, unit_of, outputs_in}
use Rattle.report_reader.specs.Told.{IsPlainTrace}

-- ---- the outputs that lines show

-- no config stands in front, since each stands behind its chunk
config_events : (es : List Event) (ls : List Line) → config_in ls ≡ None → config_in (flat_map event_lines es ++ ls) ≡ None
config_events [] ls none = none
config_events (Event.Refusal x ∷ es) ls none = config_events es ls none
config_events (Event.Output n (unit.Sound samples) ∷ es) ls none = refl
config_events _ ls none = refl

description_again : (d : Option (List ℕ)) → IsPlainDescription d → description_of (unwrap_or d []) ≡ d
description_again d plain = grind (arith, plain)

pub outputs_events : (k : Kind) (es : List Event) (ls : List Line) → config_in ls ≡ None → AllByRecursion (IsOutputOf k) (units_in es) → outputs_in k (flat_map event_lines es ++ ls) ≡ units_in es ++ outputs_in k ls
outputs_events Kind.AudioDecoder (Event.Output n (unit.Sound samples) ∷ es) ls none plain = rw (lt-ltb 0 samples.shape.rate plain.0) (ap (λ (us : List media.Unit). unit.Sound samples ∷ us) (outputs_events Kind.AudioDecoder es ls none plain.1))
outputs_events Kind.VideoDecoder (Event.Output n (unit.Image picture) ∷ es) ls none plain = ap (λ (us : List media.Unit). unit.Image picture ∷ us) (outputs_events Kind.VideoDecoder es ls none plain.1)
outputs_events Kind.AudioEncoder (Event.Output n (unit.Coded chunk None) ∷ es) ls none plain = rw (config_events es ls none) (ap (λ (us : List media.Unit). unit.Coded chunk None ∷ us) (outputs_events Kind.AudioEncoder es ls none plain.1))
outputs_events Kind.AudioEncoder (Event.Output n (unit.Coded chunk (Some c)) ∷ es) ls none plain = rw (plain.0.0, description_again c.description plain.0.1) (ap (λ (us : List media.Unit). unit.Coded chunk (Some c) ∷ us) (outputs_events Kind.AudioEncoder es ls none plain.1))
outputs_events Kind.VideoEncoder (Event.Output n (unit.Coded chunk None) ∷ es) ls none plain = ap (λ (us : List media.Unit). unit.Coded chunk None ∷ us) (outputs_events Kind.VideoEncoder es ls none plain.1)
outputs_events k (Event.Output n u ∷ es) ls none plain = absurd plain.0
outputs_events k (e ∷ es) ls none plain = outputs_events k es ls none plain
outputs_events k [] ls none plain = refl

-- ---- the lines of outputs fit

abbrev pub AreFit : ScriptData → List Line → Type 0
AreFit script ls = AllByRecursion (FitsLine script) ls

pub record FitsUnit (script : ScriptData) (k : Kind) (u : media.Unit) : Type 0 where
  pub plain : IsOutputOf k u
  pub fits : AreFit script (output_lines u)

record FitsConfig (script : ScriptData) (c : Option AudioDecoderConfig) : Type 0 where
  plain : IsPlainConfig c
  fits : AreFit script (config_lines c)

description_told : (d : List ℕ) → IsPlainDescription (description_of d) × (unwrap_or (description_of d) [] ≡ d)
description_told d = grind arith

config_of_fits : (script : ScriptData) (codec : List ℕ) (rate channels : ℕ) (description : List ℕ) (q : Bool) → is_codec_string codec ≡ q → FitsEventLine (EventLine.Config codec rate channels description)
    → FitsConfig script (cond q (Some (record { codec = codec; rate = rate; channels = channels; description = description_of description })) None)
config_of_fits script codec rate channels description q is fits = grind (arith, description_told description, is, fits)

config_fits : (script : ScriptData) (ls : List Line) → AreFit script ls → FitsConfig script (config_in ls)
config_fits script (Line.Event (EventLine.Config codec rate channels description) ∷ ls) fits = config_of_fits script codec rate channels description (is_codec_string codec) refl fits.0
config_fits script ls fits = record { plain = tt; fits = tt }

sound_fits : (script : ScriptData) (samples : Samples) (q : Bool) → nat_lt 0 samples.shape.rate ≡ q → FitsEventLine (EventLine.Sound samples)
    → AllByRecursion (FitsUnit script Kind.AudioDecoder) (option_to_list (cond q (Some (unit.Sound samples)) None))
sound_fits script samples q is own = grind (arith, ltb-true, is, own)

pub unit_fits : (script : ScriptData) (k : Kind) (s : EventLine) (ls : List Line) → FitsEventLine s → AreFit script ls → AllByRecursion (FitsUnit script k) (option_to_list (unit_of k s (config_in ls)))
unit_fits script Kind.AudioDecoder (EventLine.Sound samples) ls own fits = sound_fits script samples (nat_lt 0 samples.shape.rate) refl own
unit_fits script Kind.VideoDecoder (EventLine.Image picture) ls own fits = (record { plain = tt; fits = (own, tt) }, tt)
unit_fits script Kind.AudioEncoder (EventLine.Chunk chunk) ls own fits =
    let config = config_fits script ls fits in
    (record { plain = config.plain; fits = (own, config.fits) }, tt)
unit_fits script Kind.VideoEncoder (EventLine.Chunk chunk) ls own fits = (record { plain = tt; fits = (own, tt) }, tt)
unit_fits script _ _ ls own fits = tt

pub empty_fits : (script : ScriptData) (k : Kind) → FitsUnit script k (empty_output k)
empty_fits script k = grind arith

-- ---- the outputs of a legal run

suits_kind : (c : Config) (k : Kind) → suits c k ≡ true → IsConfigOf k c
suits_kind c k h = grind (arith, h)

-- a result that names an entry, of a step that calls a codec, names that codec
same_codec : (script : ScriptData) (w : Recorded) (on k p : ℕ) (r : StepResult) → IsAnswerOf script w (Some on) r → made_at r ≡ Some (k, p) → on ≡ k
same_codec script w on k p r kept is = grind (arith, kept, is)

-- the step of a configure, which names its codec, has a config of that codec's kind
step_suits : (script : ScriptData) (files : List (List Chunk)) (vs : List (Option Medium)) (w : Recorded) (who : Who) (k p : ℕ) (r : StepResult) (c : CodecItem) (given : Config) (x : Step)
    → is_sound script ≡ true → step_in script who.caller who.step ≡ Some x → IsResultOf script w who x r → made_at r ≡ Some (k, p) → HasArguments script files vs who.caller (Call.Configure given) x
    → slice_get script.codecs k ≡ Some c → IsConfigOf c.kind given
step_suits script files vs w who k p r c given (Step.Configure on config) sound is kept named has at =
    let caller = caller_of_step script.callers who.caller who.step (Step.Configure on config) is in
    let there = codec_there script.codecs (suits config) on (step_at script who.caller who.step caller.0 (Step.Configure on config) sound caller.1 caller.2) in
    let same : there.0 ≡ c = some_same there.0 c (sym there.1 ∙ ap (λ n. slice_get script.codecs n) (same_codec script w on k p r kept named) ∙ at) in
    let own = subst (λ (y : CodecItem). IsConfigOf y.kind config) same (suits_kind config there.0.kind there.2) in
    let kept_config : config ≡ given = cc in
    subst (λ (y : Config). IsConfigOf c.kind y) kept_config own
step_suits script files vs w who k p r c given _ sound is kept named has at = absurd (grind (arith, has))

configures : (script : ScriptData) (files : List (List Chunk)) (w : Recorded) (k p : ℕ) (c : CodecItem) (e : Entry)
    → is_sound script ≡ true → CallsAreIn script w → ArgumentsAreIn script files w → entry_in w k p ≡ Some e → slice_get script.codecs k ≡ Some c → ConfiguresAs c.kind e
configures script files w k p c (Entry.Call who (Call.Configure given)) sound calls arguments is at =
    let kept = (calls_by_places script w calls).only k p who (Call.Configure given) is in
    let made = calls.made who.caller who.step kept.0 kept.1 in
    let gave = arguments k p who (Call.Configure given) is in
    let same : gave.0 ≡ made.0 = some_same gave.0 made.0 (sym gave.1 ∙ made.1) in
    let vs = variables_at script files w who.caller who.step in
    step_suits script files vs w who k p kept.0 c given made.0 sound made.1 made.2 kept.2 (subst (λ (x : Step). HasArguments script files vs who.caller (Call.Configure given) x) same gave.2) at
configures script files w k p c _ sound calls arguments is at = tt

trace_plain : OutputsAreOfKind → (c : CodecItem) (t : CodecTrace) → IsLegalTrace c t → ((p : ℕ) (e : Entry) → slice_get t.entries p ≡ Some e → ConfiguresAs c.kind e) → IsPlainTrace t
trace_plain kinds c t legal h =
    let own : AllByRecursion (ConfiguresAs t.opening.kind) t.entries = rw legal.opening (all_from (ConfiguresAs c.kind) t.entries h) in
    subst (λ (xs : List Shown). AllByRecursion (IsOutputOf t.opening.kind) (units_shown xs)) (sym legal.shown) (kinds t.opening t.entries own)

traces_plain : OutputsAreOfKind → (cs : List CodecItem) (ts : List CodecTrace) → AreLegalTraces cs ts
    → ((k p : ℕ) (c : CodecItem) (e : Entry) → slice_get (at k (map (λ t. t.entries) ts)) p ≡ Some e → slice_get cs k ≡ Some c → ConfiguresAs c.kind e) → AllByRecursion IsPlainTrace ts
traces_plain kinds [] (t ∷ ts) legal h = absurd legal
traces_plain kinds (c ∷ cs) (t ∷ ts) legal h = (trace_plain kinds c t legal.0 (λ p e is. h 0 p c e is refl), traces_plain kinds cs ts legal.1 (λ k p d e is at. h (suc k) p d e is at))
traces_plain kinds _ _ legal h = tt

pub legal_plain : OutputsAreOfKind → (script : ScriptData) (files : List (List Chunk)) (made : List Rattle.wc_config.specs.declared.codec.CoderId.CoderId) (run : Run) → is_sound script ≡ true → IsLegalRun script run → Fits script files made run → AllByRecursion IsPlainTrace run.codecs
legal_plain kinds script files made run sound legal fits =
    traces_plain kinds script.codecs run.codecs legal.codecs (λ k p c e is at. configures script files _ k p c e sound fits.calls fits.arguments is at)
