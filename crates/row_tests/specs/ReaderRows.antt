-- The ordinary run and its report.
use Rattle.std.specs.Prelude.{◌≡◌, [], ◌∷◌, codes}
use Rattle.row_tests.specs.ReportRows.{ordinary_script, file_script, two_chunks, ordinary_run, taking_script, taking_run}
use Rattle.row_tests.specs.EncodingRows.{encoding_script, encoding_run}
use Rattle.trace_text.specs.Report.{lines_of}
use Rattle.report_reader.specs.Read.{run_of}
use Rattle.report_reader.specs.Told.{IsTold}
use Rattle.report_reader.specs.Fault.{line_of_difference}

-- its lines show it, its chunk made or from a file
abbrev pub OrdinaryAgain : Type 0
OrdinaryAgain = run_of ordinary_script [] (lines_of ordinary_run) ≡ ordinary_run

abbrev pub FileAgain : Type 0
FileAgain = run_of file_script (two_chunks ∷ []) (lines_of ordinary_run) ≡ ordinary_run

-- and so do those of the run whose caller takes the output
abbrev pub TakingAgain : Type 0
TakingAgain = run_of taking_script [] (lines_of taking_run) ≡ taking_run

-- and those of the run whose caller encodes, and takes the chunk
abbrev pub EncodingAgain : Type 0
EncodingAgain = run_of encoding_script [] (lines_of encoding_run) ≡ encoding_run

-- the run is told by its report
abbrev pub OrdinaryTold : Type 0
OrdinaryTold = IsTold ordinary_script [] ordinary_run

-- texts that differ in a line, and one that lacks its last
abbrev pub SecondDiffers : Type 0
SecondDiffers = line_of_difference (codes "a\nb\nc\n") (codes "a\nd\nc\n") ≡ 2

abbrev pub ThirdIsMissing : Type 0
ThirdIsMissing = line_of_difference (codes "a\nb\nc\n") (codes "a\nb\n") ≡ 3
