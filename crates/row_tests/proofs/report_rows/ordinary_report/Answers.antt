-- The texts of numbers and bytes compute once their digits are opened.
use Rattle.std.proofs.Common.{refl, false, [], ◌∷◌, Some, None}
use Rattle.std.specs.Fmt.{digits}
use Rattle.hex.specs.Hex.{encode_with}
use Rattle.wc_base.specs.declared.who.By.{By}
use Rattle.row_tests.specs.CodecRows.{four, ordinary}
use Rattle.row_tests.specs.ReportRows.{coder, results, acquire_entry}
use Rattle.row_tests.proofs.report_rows.ordinary_report.Goals as goal

pub returns-clause-report : goal.returns-clause-report
unfolding digits encode_with
returns-clause-report c = refl

-- no end wants memory, and the codec has its box in the end
pub returns-clause-follows : goal.returns-clause-follows
returns-clause-follows c = record {
  course = record {
    callers = results ∷ [];
    codecs = record { opening = four; history = ordinary; holding = record { box = Some (record { id = coder; number = 0; by = By.Codec 0 3 }); refusal = None } } ∷ [];
    media = record { variables = [] ∷ []; pool = [] };
    slots = record { made = coder ∷ []; history = acquire_entry ∷ [] };
    ports = [];
  };
  follows = (false, (false, (false, (false, (false, (false, (false, (false, (false, (false, (false, (false, (false, (false, (false, (false, refl))))))))))))))));
  is_recorded = refl;
}
