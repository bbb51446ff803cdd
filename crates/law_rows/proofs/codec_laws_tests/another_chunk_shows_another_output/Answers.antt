use Rattle.std.proofs.Common.{◌∙◌}
use Rattle.law_rows.specs.Rows.{two, saturating, other, sounds}
use Rattle.law_rows.proofs.RowLaws.{legal_of, shows_of}
use Rattle.law_rows.proofs.codec_laws_tests.another_chunk_shows_another_output.Goals as goal

pub same_shown-same-requires-clause-legal : goal.same_shown-same-requires-clause-legal
same_shown-same-requires-clause-legal g c = legal_of c.opening.result two _ saturating c.opening.ensures (c.segments.ensures.joined ∙ (c.in_ok-saturating-2.ensures ∙ c.in_ok-saturating.ensures)) c.saturating_run.ensures.legal

pub same_shown-same-requires-clause-other_legal : goal.same_shown-same-requires-clause-other_legal
same_shown-same-requires-clause-other_legal g c = legal_of c.opening.result two _ other c.opening.ensures (c.segments-2.ensures.joined ∙ (c.in_ok-other.ensures ∙ c.in_ok-early.ensures)) c.early_run.ensures.other_legal

pub same_shown-same-requires-clause-units : goal.same_shown-same-requires-clause-units
same_shown-same-requires-clause-units g c = shows_of c.opening.result two _ saturating _ (sounds 3) c.opening.ensures (c.segments.ensures.joined ∙ (c.in_ok-saturating-2.ensures ∙ c.in_ok-saturating.ensures)) (c.deref.ensures.value ∙ c.in_ok-units.ensures) c.early_run.ensures.shows.saturated

pub same_shown-same-requires-clause-other_units : goal.same_shown-same-requires-clause-other_units
same_shown-same-requires-clause-other_units g c = shows_of c.opening.result two _ other _ (sounds 4) c.opening.ensures (c.segments-2.ensures.joined ∙ (c.in_ok-other.ensures ∙ c.in_ok-early.ensures)) (c.deref-2.ensures.value ∙ c.in_ok-others.ensures) c.early_run.ensures.shows.otherwise
