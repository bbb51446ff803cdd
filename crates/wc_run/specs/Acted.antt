-- What the callers of a run did.
use Rattle.std.specs.Prelude.{ℕ, suc, ◌≡◌, List, [], ◌∷◌, ◌++◌, length}
use Rattle.wc_chunk.specs.declared.chunk.Chunk.{Chunk}
use Rattle.codec_model.specs.declared.entry.Entry.{Entry}
use Rattle.shared_codec.specs.Dues.{Called}
use Rattle.script_types.specs.declared.script.ScriptData.{ScriptData}
use Rattle.report_text.specs.declared.result.StepResult.{StepResult}
use Rattle.run_model.specs.Recorded.{steps_of}
use Rattle.run_model.specs.declared.run.CallerTrace.{CallerTrace}
use Rattle.desk_callers.specs.Deeds.{Deed, AreDeeds, calls_of, results_of}

-- The caller with this number made all its steps: these are its deeds, in order, by histories of the codecs of which these are the
-- whole ones; and these are their results.
pub record HasActed (s : ScriptData) (media : List (List Chunk)) (hs : List (List Entry)) (c : ℕ) (rs : List StepResult) (ds : List Deed) : Type 0 where
  pub results : rs ≡ results_of ds
  pub are : AreDeeds s media c hs ds
  pub all : length rs ≡ length (steps_of s c)

-- So did the callers from this number on.
abbrev pub HaveActed : ScriptData → List (List Chunk) → List (List Entry) → ℕ → List CallerTrace → List (List Deed) → Type 0
HaveActed s media hs c [] [] = Unit {0}
HaveActed s media hs c (t ∷ ts) (ds ∷ all) = HasActed s media hs c t.results ds × HaveActed s media hs (suc c) ts all
HaveActed s media hs c _ _ = ⊥

-- the calls of all of them
abbrev pub calls_of_all : List (List Deed) → List Called
calls_of_all [] = []
calls_of_all (ds ∷ all) = calls_of ds ++ calls_of_all all
