use Rattle.std.proofs.Common.{◌∙◌, ap, sym, map}
use Rattle.codec_model.specs.Shown.{shown_of}
use Rattle.codec_judge.specs.Lender.{LenderValue, id_in}
use Rattle.codec_judge.proofs.Judging.{settled_home}
use Rattle.codec_judge.proofs.Walking.{front_of_all, home_was_out, all_back}
use Rattle.codec_judge.proofs.walk.finish.Goals as goal

pub settle-requires-after_bounds : goal.settle-requires-after_bounds
settle-requires-after_bounds g c κs within = home_was_out c.into_parts-showings.result.2 c.retire.new.lender (c.in_ok-retire.ensures.out ∙ ap id_in (sym c.into_parts-showings.ensures.slot))

pub returns-clause-shows : goal.returns-clause-shows
returns-clause-shows g c = front_of_all c.args.judge.core c.retire.new.core (map shown_of c.into_parts-showings.result.1) c.in_ok-retire.ensures.front c.into_parts-showings.ensures.shows

pub returns-clause-back : goal.returns-clause-back
returns-clause-back g c =
    all_back c.into_parts-showings.result.2 c.retire.new.lender c.settle.new.self (c.in_ok-retire.ensures.out ∙ ap id_in (sym c.into_parts-showings.ensures.slot)) c.in_ok-settle.ensures

pub returns-clause-home : goal.returns-clause-home
returns-clause-home g c = ap (λ (l : LenderValue). l.home) c.in_ok-settle.ensures ∙ (settled_home c.into_parts-showings.result.2 c.retire.new.lender ∙ c.in_ok-retire.ensures.home)
