-- Whose box a codec's box is: the start that asked for it, and the entry by which it goes back.
use Rattle.std.specs.Prelude.{ℕ, ◌≡◌, true, Option, Some, None, is_some}
use Rattle.coder_api.specs.Lent.{Lent}
use Rattle.codec_accounts.specs.Boxes.{lets}
use Rattle.codec_accounts.specs.Asked.{asked_at}
use Rattle.codec_core.specs.Job.{JobValue, missing_id}
use Rattle.codec_core.specs.declared.out.Out.{Out}
use Rattle.codec_core.specs.declared.out.Out.TheVariants as out
use Rattle.codec_core.specs.Codec.{Codec, IsBy, IsBack}

-- the place of the start that asked for the box which the codec has, or its item at work
abbrev pub asked_of : Codec → Option ℕ
asked_of c = asked_at c.opening c.history

-- The job is its codec's own: where it lacks a box its start is the one that asks for it, and where it lacks none it has the
-- box that went out with it.
pub record IsOwnJob (o : Out) (job : JobValue) : Type 0 where
  pub asks : is_some (missing_id job) ≡ true → o ≡ out.Asked job.place
  pub has : missing_id job ≡ None → IsBack o job.coder

-- the box, if there is one, goes back by the codec's entry at this place, as `lets` says
abbrev pub GoesBack : Codec → ℕ → Option Lent → Type 0
GoesBack c at None = Unit {0}
GoesBack c at (Some lent) = (asked : ℕ) × IsBy lent.by (Some asked) × (lets c.opening c.history asked ≡ Some at)
