-- No end wants memory, and the codec has its box in the end.
use Rattle.std.proofs.Common.{refl, false, [], ◌∷◌, Some, None}
use Rattle.wc_base.specs.declared.who.By.{By}
use Rattle.row_tests.specs.CodecRows.{four, ordinary}
use Rattle.row_tests.specs.ReportRows.{coder, results, acquire_entry}
use Rattle.row_tests.proofs.report_rows.run_from_a_file.Goals as goal

pub returns-clause-follows : goal.returns-clause-follows
returns-clause-follows c = record {
  course = record {
    callers = results ∷ [];
    codecs = record { opening = four; history = ordinary; holding = record { box = Some (record { id = coder; number = 0; by = By.Codec 0 3 }); refusal = None } } ∷ [];
    media = record { variables = [] ∷ []; pool = [] };
    slots = record { made = coder ∷ []; history = acquire_entry ∷ [] };
    ports = [];
  };
  follows = (false, (false, (false, (false, (false, (false, (false, (false, (false, (false, (false, (false, (false, (false, (false, (false, refl))))))))))))))));
  is_recorded = refl;
}
