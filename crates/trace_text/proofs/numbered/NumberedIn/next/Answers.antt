use Rattle.std.proofs.Common.{refl, sym}
use Rattle.trace_text.proofs.LinesLaws.{dropped_at}
use Rattle.trace_text.proofs.numbered.NumberedIn.next.Goals as goal

pub returns-in-Some : goal.returns-in-Some
returns-in-Some g c =
    rw (← c.self.view_is, c.in_ok-list.was)
    (dropped_at c.in_ok-list.list.now c.self.inside.number c.in-Some.item.now (sym c.in-Some.ensures), refl, refl)
