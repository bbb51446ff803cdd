-- The texts of numbers and bytes compute once their digits are opened.
use Rattle.std.proofs.Common.{refl, false, [], ◌∷◌, Some, None}
use Rattle.std.specs.Fmt.{digits}
use Rattle.hex.specs.Hex.{encode_with}
use Rattle.wc_base.specs.declared.who.By.{By}
use Rattle.media_variables.specs.Variables.{SoundOf, ChunkOf}
use Rattle.row_tests.specs.ReportRows.{sound}
use Rattle.row_tests.specs.EncodingRows.{results, opened, entries, coded, references, coder, acquire_entry}
use Rattle.row_tests.proofs.report_rows.run_with_encodes.Goals as goal

pub returns-clause-report : goal.returns-clause-report
unfolding digits encode_with
returns-clause-report c = refl

pub returns-clause-legal : goal.returns-clause-legal
returns-clause-legal c = record {
  callers = refl;
  codecs = (record { opening = refl; legal = refl; shown = refl }, tt);
  held = refl;
}

-- no end wants memory, the codec has its box in the end, the audio data is detached, and the step that took the chunk holds it
pub returns-clause-follows : goal.returns-clause-follows
returns-clause-follows c = record {
  course = record {
    callers = results ∷ [];
    codecs = record { opening = opened; history = entries; holding = record { box = Some (record { id = coder; number = 0; by = By.Codec 0 2 }); refusal = None } } ∷ [];
    media = record {
      variables = (None ∷ Some (record { shape = SoundOf sound.shape; held = None }) ∷ None ∷ None ∷ Some (record { shape = ChunkOf coded; held = None }) ∷ []) ∷ [];
      pool = references;
    };
    slots = record { made = coder ∷ []; history = acquire_entry ∷ [] };
    ports = [];
  };
  follows = (false, (false, (false, (false, (false, (false, (false, (false, (false, (false, (false, (false, (false, (false, refl))))))))))))));
  is_recorded = refl;
}
