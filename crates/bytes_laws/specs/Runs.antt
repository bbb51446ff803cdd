-- The runs of the scripts and chunk files that bytes spell.
use Rattle.std.specs.Prelude.{ℕ, ◌≡◌, ◌<◌, ◌^◌, List, length, Option, Ok}
use Rattle.wc_chunk.specs.declared.chunk.Chunk.{Chunk}
use Rattle.wc_config.specs.declared.codec.CoderId.{CoderId}
use Rattle.script_types.specs.declared.script.ScriptData.{ScriptData}
use Rattle.wc_script.specs.Read.{script_of}
use Rattle.media_files.specs.Media.{GivesMedia}
use Rattle.media_files.specs.Within.{HoldBytes}
use Rattle.run_model.specs.declared.run.Run.{Run}
use Rattle.trace_text.specs.Report.{report_of}
use Rattle.run_model.specs.Fits.{FitsInOrder, IsLegalRun}
use Rattle.run_ranges.specs.Ranges.{AreWithin}

-- the bytes spell this script, whose chunk files give these chunks; files hold bytes
pub record IsSpelled (files : List ℕ → Option (List ℕ)) (bytes : List ℕ) (script : ScriptData) (media : List (List Chunk)) : Type 0 where
  pub hold : HoldBytes files
  pub reads : script_of bytes ≡ Ok script
  pub gives : GivesMedia files script (Ok media)

-- what is spelled is within its types, where there are fewer boxes than 2^64
abbrev pub SpelledIsWithin : Type 0
SpelledIsWithin =
    (files : List ℕ → Option (List ℕ)) (bytes : List ℕ) (script : ScriptData) (media : List (List Chunk)) (made : List CoderId)
    → IsSpelled files bytes script media → length made < 2 ^ 64 → AreWithin script media made

-- a legal replay of what is spelled, with boxes of these coders, and its report
pub record IsRunOf (files : List ℕ → Option (List ℕ)) (bytes : List ℕ) (made : List CoderId) (report : List ℕ) (run : Run) : Type 0 where
  pub script : ScriptData
  pub media : List (List Chunk)
  pub spelled : IsSpelled files bytes script media
  pub boxes : length made < 2 ^ 64
  pub legal : IsLegalRun script run
  pub fits : FitsInOrder script media made run
  pub reported : report_of script run ≡ report

-- two such runs with the same report are equal
abbrev pub BytesDetermineRuns : Type 0
BytesDetermineRuns =
    (files : List ℕ → Option (List ℕ)) (bytes : List ℕ) (made other : List CoderId) (report : List ℕ) (a b : Run)
    → IsRunOf files bytes made report a → IsRunOf files bytes other report b → a ≡ b
