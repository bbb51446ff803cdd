use Rattle.std.proofs.Common.{◌∙◌, Some, sym}
use Rattle.media_variables.specs.Held.{seen_in}
use Rattle.media_variables.specs.Variables.{unit_came}
use Rattle.shared_variables.proofs.Acted.{take_acts_at, take_made}
use Rattle.shared_variables.proofs.seats.take_at.Goals as goal

pub returns-clause-acts : goal.returns-clause-acts
returns-clause-acts g c =
    let m = take_made c.new-at.result c.take.new.pool c.args.who (λ n. Some (unit_came n c.args.who.step c.args.answer c.args.unit (seen_in c.args.variables.now))) (seen_in c.args.variables.now) (seen_in c.take.new.self) c.take.result c.take.ensures.acts c.take.ensures.err in
    take_acts_at c.new-at.result c.take.new.pool c.args.seat.now c.seat-1.given.0 c.args.who (λ n. Some (unit_came n c.args.who.step c.args.answer c.args.unit (seen_in c.args.variables.now))) (seen_in c.args.variables.now) (seen_in c.take.new.self) c.take.result
    c.new-at.ensures.seat_is (c.seat-1.given.1 (sym (m.1.borrowed ∙ c.new-at.ensures.borrowed))) c.take.ensures.acts
