use Rattle.std.proofs.Common.{◌<◌, ℕ, zero, suc, [], ◌∷◌, refl, arith}
use Rattle.std.specs.Prelude.{slice_index}
use Rattle.row_tests.specs.ReportRows.{ordinary_script, ordinary_run}
use Rattle.report_reader.specs.{Read.run_of, Told.IsTold}
use Rattle.row_tests.proofs.reader_rows.ordinary_run_again.Goals as goal

small : (i : ℕ) → slice_index (1 ∷ 0 ∷ 2 ∷ 0 ∷ []) i < 256
small (suc (suc (suc zero))) = omega arith
small _ = omega arith

ordinary_told : IsTold ordinary_script [] ordinary_run
ordinary_told = record {
  told = record {
    callers = refl;
    codecs = refl;
    traces = (record { arguments = (refl, (refl, (refl, (refl, (refl, (refl, (refl, (refl, (refl, (refl, (refl, (refl, (refl, (refl, tt)))))))))))))); follows = refl; shows = refl }, tt);
  };
  whole = record {
    plain = ((omega arith, tt), tt);
    fits = (tt, ((omega arith, omega arith), ((omega arith, ((omega arith, omega arith), omega arith)), ((omega arith, tt), ((omega arith, ((omega arith, omega arith), omega arith)), ((omega arith, ((omega arith, omega arith), omega arith)), ((omega arith, ((omega arith, omega arith), omega arith)), (((omega arith, omega arith), omega arith), ((omega arith, ((omega arith, omega arith), omega arith)), ((omega arith, ((omega arith, omega arith), omega arith)), ((omega arith, ((omega arith, omega arith), omega arith)), ((omega arith, (omega arith, omega arith)), ((omega arith, (omega arith, omega arith, omega arith, omega arith)), ((omega arith, tt), ((omega arith, tt), ((omega arith, (omega arith, omega arith)), ((omega arith, (omega arith, omega arith, omega arith, omega arith)), ((omega arith, tt), (tt, ((omega arith, tt), (record { rate = omega arith; channels = omega arith; frames = omega arith; timestamp = omega arith; are_bytes = small }, ((omega arith, (omega arith, omega arith)), ((omega arith, (omega arith, omega arith, omega arith, omega arith)), ((omega arith, tt), (omega arith, (tt, (tt, ((omega arith, ((omega arith, omega arith), omega arith), omega arith), (omega arith, (tt, tt))))))))))))))))))))))))))))));
  };
}

pub returns : goal.returns
unfolding run_of
returns c = record { made = refl; file = refl; takes = refl; encodes = refl; told = ordinary_told; second = refl; third = refl }
