-- What stays of a thread's seats at a desk as it makes calls.
use Rattle.codec_desk.specs.declared.desk.Desk.{Desk}
use Rattle.codec_desk.specs.declared.desk.Seats.{Seats}
use Rattle.codec_desk.specs.Desks.{SitAt, Settled}
use Rattle.codec_desk.specs.Runs.{EachRunsNone}

-- The seats are at the desk still, and what their calls call for has been done. None of their own
-- items is at work if none was.
pub record IsKept {C : Type 0} (desk : Desk C) (a b : Seats C) : Type 0 where
  pub sits : SitAt desk b
  pub settled : Settled desk a b
  pub runs : EachRunsNone desk.codecs.items a.codecs.items → EachRunsNone desk.codecs.items b.codecs.items
