-- That no medium goes round in a circle.
use Rattle.std.specs.Prelude.{ℕ, ◌≡◌, ◌<◌, length, Some}
use Rattle.codec_accounts.specs.Owed.{at}
use Rattle.media_variables.specs.Variables.{Received}
use Rattle.run_model.specs.Recorded.{Recorded}

-- All steps that were made have a rank, by caller and step. It rises along the steps of each caller, and each post has a lower one than
-- its receive.
pub record IsRanked (w : Recorded) : Type 0 where
  pub rank : ℕ → ℕ → ℕ
  pub rises : (c i j : ℕ) → i < j → j < length (at c w.callers) → rank c i < rank c j
  pub posts : (c j : ℕ) (p : Received) → w.received c j ≡ Some p → rank p.poster.caller p.poster.step < rank c j
