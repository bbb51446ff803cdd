use Rattle.std.proofs.Common.{None, inl, List, Option, IfOk, map, sym, subst}
use Rattle.media_variables.specs.Variables.{Medium, Brought, CameTo}
use Rattle.media_variables.specs.Held.{AreHeld, seen_in, media_of}
use Rattle.media_variables.proofs.HeldLaws.{step_held, step_came, caller_live, caller_once, made_new, seen_back, within}
use Rattle.media_variables.proofs.Places.{seen_read, callers_set}
use Rattle.media_variables.proofs.callers.caller_step.Goals as goal

pub step-requires-clause-held : goal.step-requires-clause-held
step-requires-clause-held c =
    let all = c.args.callers.now.items in
    caller_live c.args.pool.now (map seen_in all) c.args.who.caller _ (seen_read c.args.who.caller all _ c.requires.there c.in-Some.ensures.value) c.requires.held

pub step-requires-clause-apart : goal.step-requires-clause-apart
step-requires-clause-apart c =
    let all = c.args.callers.now.items in
    let read = seen_read c.args.who.caller all _ c.requires.there c.in-Some.ensures.value in
    inl (caller_once c.args.pool.now (map seen_in all) c.args.who.caller _ read c.requires.held, made_new c.references_are_apart.ensures.live c.args.pool.now c.entries-legal.ensures.legal)

pub returns-clause-came : goal.returns-clause-came
returns-clause-came c =
    let all = c.args.callers.now.items in
    let k = c.args.who.caller in
    let vs = c.in-Some.variables.now in
    let after = c.step.new.self in
    let read = seen_read k all vs c.requires.there c.in-Some.ensures.value in
    let b : Brought = record { chunk = c.args.chunk.now; taken = None; received = None } in
    subst (λ (l : List (List (Option Medium))). IfOk c.step.result (CameTo (media_of all c.args.pool.now) (record { variables = l; pool = c.step.new.pool }) c.args.who b c.args.step.now)) (sym (callers_set k after all))
    (step_came c.args.pool.now c.step.new.pool c.args.who (map seen_in all) (seen_in vs) (seen_in after) b c.args.step.now c.step.result read c.step.ensures.acts)

pub returns-clause-callers : goal.returns-clause-callers
returns-clause-callers c =
    let all = c.args.callers.now.items in
    let vs = c.in-Some.variables.now in
    seen_back c.step.result c.args.who.caller all vs c.step.new.self (seen_read c.args.who.caller all vs c.requires.there c.in-Some.ensures.value) c.step.ensures.same

pub returns-clause-held : goal.returns-clause-held
returns-clause-held c =
    let all = c.args.callers.now.items in
    let k = c.args.who.caller in
    let vs = c.in-Some.variables.now in
    let after = c.step.new.self in
    let read = seen_read k all vs c.requires.there c.in-Some.ensures.value in
    let b : Brought = record { chunk = c.args.chunk.now; taken = None; received = None } in
    subst (AreHeld c.step.new.pool) (sym (callers_set k after all))
    (step_held c.references_are_apart.ensures.live c.args.pool.now c.step.new.pool c.args.who (map seen_in all) (seen_in vs) (seen_in after) b c.args.step.now c.step.result c.entries-legal.ensures.legal (within k all c.requires.there) c.requires.held tt read c.step.ensures.acts c.step.ensures.err c.step.ensures.same)
