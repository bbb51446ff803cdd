-- What a load comes to: its summary, or want of memory.
use Rattle.std.proofs.Common.{◌≡◌, ◌≢◌, ℕ, zero, suc, List, [], Option, None, Some, Result, Ok, Err, IfOk, refl, sym, ap, ◌∙◌, subst, inl, inr, arith}
use Rattle.wc_base.specs.Causes.{Rose}
use Rattle.wc_chunk.specs.declared.chunk.Chunk.{Chunk}
use Rattle.script_types.specs.declared.script.ScriptData.{ScriptData}
use Rattle.run_model.specs.declared.run.Run.{Run}
use Rattle.run_model.specs.{Fits.IsLegalRun, Missing.missing_in}
use Rattle.wc_run.specs.Fits.{FitsByThreads}
use Rattle.load_script.specs.Script.{load_script}
use Rattle.load_script.specs.declared.words.Load.{Load}
use Rattle.load_summary.specs.{Lacks.LoadsLackNothing, Summary.load_text}
use Rattle.wcrun.specs.Headline.{Reading, Writing, Holding, Headline, Decides, IsComplete, IsStatusFor, verb_in}
use Rattle.wcrun.specs.Load.{Supply, IsLoaded}
use Rattle.wcrun.specs.Outcome.{Outcome, Loads, ComesBy, IsOutcome}
use Rattle.wcrun.specs.Refusals.{memory_line}
use Rattle.wcrun.specs.Words.{Command}
use Rattle.wcrun.specs.Writing.{WritesText, WritesLine}
use Rattle.wcrun.specs.declared.command.Verb.{Verb}
use Rattle.wcrun.proofs.Files.{if_file}
use Rattle.wcrun.proofs.Headlines.{headline_of_whole}
use Rattle.wcrun.proofs.Outcomes.{end_zero}

-- the script of a load, with no chunk files, lacks nothing
pub lacks_nothing : (s : ScriptData) (start n : ℕ) (media : List (List Chunk)) → LoadsLackNothing → s ≡ load_script start n → media ≡ [] → missing_in s media ≡ None
lacks_nothing s start n media law is none =
    subst (λ (m : List (List Chunk)). missing_in s m ≡ None) (sym none) (subst (λ (t : ScriptData). missing_in t [] ≡ None) (sym is) (law start n))

-- the text of a run of the load's script is its summary
pub summed : (load : Load) (supply : Supply) (s : ScriptData) (media : List (List Chunk)) (run : Run) (text : List ℕ) → s ≡ load_script load.start load.chunks → media ≡ []
    → IsLegalRun s run → FitsByThreads s media supply.coders supply.clocks run → text ≡ load_text load.start load.chunks run → IsLoaded load supply text
summed load supply s media run text is none legal fits whole = record {
  run = run;
  legal = subst (λ (t : ScriptData). IsLegalRun t run) is legal;
  fits = subst (λ (m : List (List Chunk)). FitsByThreads (load_script load.start load.chunks) m supply.coders supply.clocks run) none (subst (λ (t : ScriptData). FitsByThreads t media supply.coders supply.clocks run) is fits);
  whole = whole;
}

pub if_summed : {E X : Type 0} (bytes : X → List ℕ) (load : Load) (supply : Supply) (r : Result X E) (wanted : List ℕ) → ((text : List ℕ) → text ≡ wanted → IsLoaded load supply text) → IfOk r (λ x. bytes x ≡ wanted) → IfOk r (λ x. IsLoaded load supply (bytes x))
if_summed bytes load supply (Ok x) wanted f h = f (bytes x) h
if_summed bytes load supply (Err e) wanted f h = tt

pub headline_of_load : (r : Reading) (supply : Supply) (w : Writing) (load : Load) (text : List ℕ) → verb_in r.command ≡ Some (Verb.Load load) → IsLoaded load supply text → WritesText text w → Headline r supply w
headline_of_load r supply w load text asked loaded p =
    headline_of_whole r supply w text (inr (inr (inl (record { load = load; asked = asked; loaded = loaded })))) p

-- so many is none, where only 5 and 6 are others
only_none : (n : ℕ) → (n ≢ 0 → n ≢ 6 → n ≡ 5) → n ≢ 5 → n ≢ 6 → n ≡ 0
only_none zero only n5 n6 = refl
only_none (suc n) only n5 n6 = absurd (n5 (only (λ e. omega arith) n6))

pub ends_whole : (text : List ℕ) (w : Writing) → WritesText text w → w.answer ≢ 5 → w.answer ≢ 6 → w.answer ≡ 0
ends_whole text w p n5 n6 = only_none w.answer p.only n5 n6

pub ends_cut : (w : Writing) → WritesLine 6 memory_line w → w.answer ≢ 5 → w.answer ≢ 6 → w.answer ≡ 0
ends_cut w p n5 n6 = absurd (n6 (p.done n5 n6))

-- the command is the load
is_load : (r : Reading) (load : Load) (c : Command) → verb_in r.command ≡ Some (Verb.Load load) → r.command ≡ Some c → Verb.Load load ≡ c.verb
is_load r load c asked is = let both : Some (Verb.Load load) ≡ Some c.verb = sym asked ∙ ap verb_in is in cc

load_outcome : (c : Command) (load : Load) (files : Holding) (bytes : List ℕ) (outcome : Outcome) → Verb.Load load ≡ c.verb → IsOutcome c files bytes outcome → outcome ≡ Ok Loads
load_outcome c load files bytes outcome same h = subst (λ (v : Verb). ComesBy v c.file c.report files bytes outcome) (sym same) h

some_load : (c : Command) (load : Load) (files : Holding) (bytes : List ℕ) → Verb.Load load ≡ c.verb → (outcome : Outcome) × IsOutcome c files bytes outcome
some_load c load files bytes same = (Ok Loads, subst (λ (v : Verb). ComesBy v c.file c.report files bytes (Ok Loads)) same refl)

no_words : (r : Reading) (load : Load) → verb_in r.command ≡ Some (Verb.Load load) → r.command ≡ None → ⊥
no_words r load asked none = let both : ◌≡◌ {A = Option Verb} None (Some (Verb.Load load)) = sym (ap verb_in none) ∙ asked in absurd cc

pub decides_load : (r : Reading) (supply : Supply) (w : Writing) (load : Load) → verb_in r.command ≡ Some (Verb.Load load) → (w.answer ≢ 5 → w.answer ≢ 6 → w.answer ≡ 0) → Decides r supply w
decides_load r supply w load asked ends = record {
  words = λ none n5 n6. absurd (no_words r load asked none);
  file = if_file r _ (λ c files bytes is holds there outcome h n4 n5 n6.
      subst (λ (o : Outcome). IsStatusFor supply files o w.answer) (sym (load_outcome c load files bytes outcome (is_load r load c asked is) h)) (ends n5 n6));
  some = if_file r _ (λ c files bytes is holds there. some_load c load files bytes (is_load r load c asked is));
}

pub complete_load : (r : Reading) (w : Writing) (load : Load) → (w.answer ≢ 5 → w.answer ≢ 6 → w.answer ≡ 0) → (w.answer ≡ 5 → Rose w.faults_before w.faults_after) → IsComplete r w
complete_load r w load ends failed = if_file r _ (λ c files bytes is holds there ending h reads writes n6. end_zero ending w.answer (ends (λ five. writes (failed five)) n6))
