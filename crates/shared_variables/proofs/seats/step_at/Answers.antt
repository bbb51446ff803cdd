use Rattle.std.proofs.Common.{◌∙◌, None, inr, sym}
use Rattle.media_variables.specs.Held.{seen_in}
use Rattle.media_variables.specs.Variables.{Brought, media_came}
use Rattle.shared_variables.proofs.Acted.{step_made, same_at, free_at, acts_at, held_at, lasts_at}
use Rattle.shared_variables.proofs.seats.step_at.Goals as goal

pub step-requires-clause-apart : goal.step-requires-clause-apart
step-requires-clause-apart g c = inr lasts_at

pub returns-clause-seat : goal.returns-clause-seat
returns-clause-seat g c =
    let b : Brought = record { chunk = c.args.chunk.now; taken = None; received = None } in
    let m = step_made c.new-at.result c.step.new.pool c.args.who (λ n. media_came n c.args.who b c.args.asked.now (seen_in c.args.variables.now)) (seen_in c.args.variables.now) (seen_in c.step.new.self) c.step.result c.step.ensures.acts c.step.ensures.err in
    same_at c.new-at.result c.step.new.pool c.args.seat.now c.seat-1.given.0 m.0 c.new-at.ensures.seat_is (c.seat-1.given.1 (sym (m.1.borrowed ∙ c.new-at.ensures.borrowed))) m.1

pub returns-clause-free : goal.returns-clause-free
returns-clause-free g c =
    let b : Brought = record { chunk = c.args.chunk.now; taken = None; received = None } in
    let m = step_made c.new-at.result c.step.new.pool c.args.who (λ n. media_came n c.args.who b c.args.asked.now (seen_in c.args.variables.now)) (seen_in c.args.variables.now) (seen_in c.step.new.self) c.step.result c.step.ensures.acts c.step.ensures.err in
    free_at c.new-at.result c.step.new.pool c.args.pool.now c.seat-1.given.0 m.0 c.new-at.ensures.pool_is (c.seat-1.given.1 (sym (m.1.borrowed ∙ c.new-at.ensures.borrowed))) m.1 c.step.new.pool.free

pub returns-clause-held : goal.returns-clause-held
returns-clause-held g c =
    let b : Brought = record { chunk = c.args.chunk.now; taken = None; received = None } in
    let m = step_made c.new-at.result c.step.new.pool c.args.who (λ n. media_came n c.args.who b c.args.asked.now (seen_in c.args.variables.now)) (seen_in c.args.variables.now) (seen_in c.step.new.self) c.step.result c.step.ensures.acts c.step.ensures.err in
    held_at c.new-at.result c.step.new.pool c.args.pool.now c.args.variables.now c.step.new.self m.0 c.new-at.ensures.pool_is m.1 c.step.ensures.of

pub returns-clause-acts : goal.returns-clause-acts
returns-clause-acts g c =
    let b : Brought = record { chunk = c.args.chunk.now; taken = None; received = None } in
    let m = step_made c.new-at.result c.step.new.pool c.args.who (λ n. media_came n c.args.who b c.args.asked.now (seen_in c.args.variables.now)) (seen_in c.args.variables.now) (seen_in c.step.new.self) c.step.result c.step.ensures.acts c.step.ensures.err in
    acts_at c.new-at.result c.step.new.pool c.args.seat.now c.seat-1.given.0 c.args.who (λ n. media_came n c.args.who b c.args.asked.now (seen_in c.args.variables.now)) (seen_in c.args.variables.now) (seen_in c.step.new.self) c.step.result
    c.new-at.ensures.seat_is (c.seat-1.given.1 (sym (m.1.borrowed ∙ c.new-at.ensures.borrowed))) c.step.ensures.acts
