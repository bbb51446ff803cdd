-- Whole histories of one codec: which entries ask for a box, and by which it leaves.
use Rattle.std.specs.Prelude.{◌≡◌, List, [], ◌∷◌, Some, None, codes}
use Rattle.wc_config.specs.declared.config.Config.{Config}
use Rattle.wc_config.specs.declared.config.Config.TheVariants as config
use Rattle.codec_model.specs.declared.entry.Outcome.TheVariants as outcome
use Rattle.codec_model.specs.declared.entry.Call.TheVariants as call
use Rattle.codec_model.specs.declared.entry.Entry.{Entry}
use Rattle.codec_model.specs.declared.entry.Entry.TheVariants as entry
use Rattle.row_tests.specs.CodecRows.{four, pcm, step_of, ordinary, resetting}
use Rattle.row_tests.specs.ReportRows.{coder}
use Rattle.codec_accounts.specs.Boxes.{asks_at, lets}

-- the first start asks for the one box of the run, which its codec keeps
pub record KeepsOne : Type 0 where
  pub asks : asks_at four ordinary 3 ≡ Some coder
  pub once : asks_at four ordinary 7 ≡ None
  pub keeps : lets four ordinary 3 ≡ None

-- a reset while an item is at work: the box leaves at the item's end, and the next configure asks for another
pub record LeavesAtTheEnd : Type 0 where
  pub asks : asks_at four resetting 2 ≡ Some coder
  pub lets_go : lets four resetting 2 ≡ Some 10
  pub again : asks_at four resetting 12 ≡ Some coder
  pub keeps : lets four resetting 12 ≡ None

abbrev pub ulaw : Config
ulaw = config.AudioDecoder (record { codec = codes "ulaw"; rate = 8000; channels = 1; description = None })

abbrev pub changing : List Entry
changing =
    entry.Call (step_of 0) (call.Configure pcm) ∷ entry.Start 0 0 ∷ entry.Done 0 0 1 (outcome.Ran 0) ∷ entry.Turn ∷ entry.Turn
    ∷ entry.Call (step_of 1) (call.Configure ulaw) ∷ entry.Start 0 1 ∷ entry.Done 0 1 2 (outcome.Ran 0) ∷ entry.Turn ∷ entry.Turn
    ∷ entry.Call (step_of 2) call.Close ∷ []

-- a start that asks for another coder lets the box go, and a close with no item at work lets go the other
pub record LeavesForAnother : Type 0 where
  pub another : lets four changing 1 ≡ Some 6
  pub closes : lets four changing 6 ≡ Some 10
