use Rattle.std.proofs.Common.{Some, List, Option, IfOk, map, sym, subst}
use Rattle.media_variables.specs.Variables.{Medium, Taken, IsCome, next_numbers, taken_came, variables_of}
use Rattle.media_variables.specs.Held.{AreHeld, seen_in, media_of}
use Rattle.media_variables.proofs.HeldLaws.{take_held, take_came, caller_live, seen_back, within}
use Rattle.media_variables.proofs.Places.{seen_read, callers_set}
use Rattle.media_variables.proofs.callers.caller_take.Goals as goal

pub take-requires-clause-held : goal.take-requires-clause-held
take-requires-clause-held c =
    let all = c.args.callers.now.items in
    caller_live c.args.pool.now (map seen_in all) c.args.who.caller _ (seen_read c.args.who.caller all _ c.requires.there c.in-Some.ensures.value) c.requires.held

pub returns-clause-came : goal.returns-clause-came
returns-clause-came c =
    let all = c.args.callers.now.items in
    let k = c.args.who.caller in
    let vs = c.in-Some.variables.now in
    let after = c.take.new.self in
    let t : Taken = record { unit = c.args.unit; answer = c.args.answer } in
    let came = taken_came (next_numbers c.args.pool.now) c.args.who.step (Some t) (variables_of k (map seen_in all)) in
    subst (λ (l : List (List (Option Medium))). IfOk c.take.result (λ r. IsCome (media_of all c.args.pool.now) (record { variables = l; pool = c.take.new.pool }) c.args.who came (Some r))) (sym (callers_set k after all))
    (take_came c.args.pool.now c.take.new.pool c.args.who (map seen_in all) (seen_in vs) (seen_in after) t c.take.result (seen_read k all vs c.requires.there c.in-Some.ensures.value) c.take.ensures.acts)

pub returns-clause-callers : goal.returns-clause-callers
returns-clause-callers c =
    let all = c.args.callers.now.items in
    let vs = c.in-Some.variables.now in
    seen_back c.take.result c.args.who.caller all vs c.take.new.self (seen_read c.args.who.caller all vs c.requires.there c.in-Some.ensures.value) c.take.ensures.same

pub returns-clause-held : goal.returns-clause-held
returns-clause-held c =
    let all = c.args.callers.now.items in
    let k = c.args.who.caller in
    let vs = c.in-Some.variables.now in
    let after = c.take.new.self in
    let t : Taken = record { unit = c.args.unit; answer = c.args.answer } in
    let read = seen_read k all vs c.requires.there c.in-Some.ensures.value in
    subst (AreHeld c.take.new.pool) (sym (callers_set k after all))
    (take_held c.references_are_apart.ensures.live c.args.pool.now c.take.new.pool c.args.who (map seen_in all) (seen_in vs) (seen_in after) t c.take.result c.entries-legal.ensures.legal (within k all c.requires.there) c.requires.held read c.take.ensures.acts c.take.ensures.err c.take.ensures.same)
