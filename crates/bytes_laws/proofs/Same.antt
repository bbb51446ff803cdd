-- Two runs of what the same bytes spell, with the same report, are equal.
use Rattle.std.proofs.Common.{◌≡◌, List, Option, Some, None, Result, Ok, refl, sym, subst, ◌∙◌}
use Rattle.std.specs.Prelude.{IsTrue}
use Rattle.serde_json.specs.Data.{Data}
use Rattle.json_data.specs.View.{value_of}
use Rattle.wc_chunk.specs.declared.chunk.Chunk.{Chunk}
use Rattle.script_types.specs.{declared.script.ScriptData.ScriptData, Sound.is_sound}
use Rattle.wc_script.specs.{Read.script_of_value, Laws.ScriptsAreSound}
use Rattle.media_files.specs.{Laws.OneReading, Media.GivesMedia}
use Rattle.trace_text.specs.Report.{report_of}
use Rattle.run_model.specs.Fits.{FitsInOrder, IsLegalRun}
use Rattle.report_reader.specs.Laws.{LegalReportsDetermineRuns}
use Rattle.bytes_laws.specs.Runs.{SpelledIsWithin, BytesDetermineRuns}

-- what is well has one value
ok_same : {X E : Type 0} (a b : X) (r : Result X E) → r ≡ Ok a → r ≡ Ok b → a ≡ b
ok_same a b r is so = cc

-- and so have two that are equal
ok_alike : {X E : Type 0} (a b : X) (r s : Result X E) → r ≡ s → r ≡ Ok a → s ≡ Ok b → a ≡ b
ok_alike a b r s is p q = cc

pub sound : ScriptsAreSound → (o : Option Data) (s : ScriptData) → script_of_value o ≡ Ok s → IsTrue (is_sound s)
sound law None s is = absurd cc
sound law (Some d) s is = law d s is

pub runs_same : LegalReportsDetermineRuns → ScriptsAreSound → OneReading → SpelledIsWithin → BytesDetermineRuns
runs_same told sounds one within files bytes made other report a b x y =
    let same : y.script ≡ x.script = ok_same _ _ _ y.spelled.reads x.spelled.reads in
    let given = subst (λ (s : ScriptData). GivesMedia files s (Ok y.media)) same y.spelled.gives in
    let media : y.media ≡ x.media = ok_alike _ _ _ _ (one files x.script (Ok y.media) (Ok x.media) given x.spelled.gives) refl refl in
    told x.script x.media made other a b (sound sounds (value_of bytes) x.script x.spelled.reads) (within files bytes x.script x.media made x.spelled x.boxes) (within files bytes x.script x.media other x.spelled y.boxes) x.legal x.fits
    (subst (λ (s : ScriptData). IsLegalRun s b) same y.legal)
    (subst (λ (s : ScriptData). FitsInOrder s x.media other b) same (subst (λ (m : List (List Chunk)). FitsInOrder y.script m other b) media y.fits))
    (x.reported ∙ sym (subst (λ (s : ScriptData). report_of s b ≡ report) same y.reported))
