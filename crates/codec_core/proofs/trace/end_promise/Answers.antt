use Rattle.std.proofs.Common.{rules, ◌≡◌, get_or, refl, arith}
use Rattle.std.proofs.lemmas.Grind.{common_steps}
use Rattle.codec_model.specs.declared.entry.PromiseState.TheVariants.{Pending, Resolved, Rejected}
use Rattle.codec_core.proofs.Promises.{end_set, ended_kept}
use Rattle.codec_core.proofs.trace.end_promise.Goals as goal

pub returns-in-Pending-clause-states : goal.returns-in-Pending-clause-states
returns-in-Pending-clause-states c =
    let is : get_or c.args.states.now.items c.args.promise Pending ≡ Pending = grind (arith, common_steps) in
    λ ends h. rw c.state_of.ensures (end_set c.args.states.now.items ends c.args.promise c.args.error (search rules) is h)

pub returns-in-Resolved-clause-states : goal.returns-in-Resolved-clause-states
returns-in-Resolved-clause-states c =
    let is : get_or c.args.states.now.items c.args.promise Pending ≡ Resolved = grind (arith, common_steps) in
    λ ends h. ended_kept c.args.states.now.items ends c.args.promise c.args.error (rw is refl) h

pub returns-in-Rejected-clause-states : goal.returns-in-Rejected-clause-states
returns-in-Rejected-clause-states c =
    let is : get_or c.args.states.now.items c.args.promise Pending ≡ Rejected c.in-Rejected.field-0 = grind (arith, common_steps) in
    λ ends h. ended_kept c.args.states.now.items ends c.args.promise c.args.error (rw is refl) h
