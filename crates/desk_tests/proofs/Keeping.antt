-- Laws of seats that make calls at their desk.
use Rattle.codec_desk.specs.declared.desk.Desk.{Desk}
use Rattle.codec_desk.specs.declared.desk.Seats.{Seats}
use Rattle.codec_desk.specs.Desks.{SitAt}
use Rattle.codec_desk.specs.DeskLaws.{settled_none, settled_then}
use Rattle.desk_tests.specs.Kept.{IsKept}

module _ {C : Type 0} (desk : Desk C) where
  pub kept_none : (a : Seats C) → SitAt desk a → IsKept desk a a
  kept_none a at = record { sits = at; settled = settled_none desk a at; runs = λ x. x }

  pub kept_then : (a b c : Seats C) → IsKept desk a b → IsKept desk b c → IsKept desk a c
  kept_then a b c x y = record {
    sits = y.sits;
    settled = settled_then desk a b c x.settled y.settled;
    runs = λ h. y.runs (x.runs h);
  }
