use Rattle.std.proofs.Common.{◌∙◌}
use Rattle.engine.proofs.Cases.{turned_made}
use Rattle.engine.proofs.made.turn_core.Goals as goal

pub returns-in-Some : goal.returns-in-Some
returns-in-Some c =
    turned_made _ _ _ _ _ c.told.ensures.status (record {
      goes = rw (← c.step.view_is) at c.in-Some.ensures.made;
      told = c.told.ensures.told;
      place_is = c.told.ensures.place ∙ (rw (← c.step.view_is) at c.in-Some.ensures.place);
    })
