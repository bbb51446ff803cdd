-- What `load START N` writes (our choice): the summary of a run of the script of this load.
use Rattle.std.specs.Prelude.{ℕ, ◌≡◌, ◌≢◌, List, [], Option, Some, None}
use Rattle.wc_config.specs.declared.codec.CoderId.{CoderId}
use Rattle.work_moments.specs.Moments.{Telling}
use Rattle.load_script.specs.declared.words.Load.{Load}
use Rattle.load_script.specs.Script.{load_script}
use Rattle.load_summary.specs.Summary.{load_text}
use Rattle.run_model.specs.declared.run.Run.{Run}
use Rattle.run_model.specs.Fits.{IsLegalRun}
use Rattle.wc_run.specs.Fits.{FitsByThreads}
use Rattle.wcrun.specs.Words.{Command}
use Rattle.wcrun.specs.declared.command.Verb.{Verb}
use Rattle.wcrun.specs.declared.command.Verb.TheVariants as verb

-- What a call is given: the ids of the coders, and what the clocks tell of themselves before it.
pub record Supply : Type 0 where
  pub coders : List CoderId
  pub clocks : List Telling

-- the same, for contracts
abbrev pub supply_of : List CoderId → List Telling → Supply
supply_of coders clocks = record { coders = coders; clocks = clocks }

-- The text is the summary of a legal run of the load's script that threads made and that fits it.
pub record IsLoaded (load : Load) (supply : Supply) (text : List ℕ) : Type 0 where
  pub run : Run
  pub legal : IsLegalRun (load_script load.start load.chunks) run
  pub fits : FitsByThreads (load_script load.start load.chunks) [] supply.coders supply.clocks run
  pub whole : text ≡ load_text load.start load.chunks run

abbrev pub EndsBy : Verb → ℕ → Type 0
EndsBy (verb.Load load) answer = answer ≢ 5 → answer ≢ 6 → answer ≡ 0
EndsBy _ answer = Unit {0}

-- Where the words are a load, the status is 0, 5 or 6.
abbrev pub EndsLoad : Option Command → ℕ → Type 0
EndsLoad None answer = Unit {0}
EndsLoad (Some c) answer = EndsBy c.verb answer
