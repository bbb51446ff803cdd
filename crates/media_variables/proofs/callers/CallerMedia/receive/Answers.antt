use Rattle.std.proofs.Common.{Some, IfOk, map, refl, sym, subst}
use Rattle.report_text.specs.declared.result.StepResult.TheVariants as result
use Rattle.media_variables.specs.Variables.{Media, Received, IsCome, received_came, variables_of}
use Rattle.media_variables.specs.Held.{AreApart, pairs_in, seen, seen_in}
use Rattle.media_variables.proofs.HeldLaws.{caller_there, within}
use Rattle.media_variables.proofs.PortLaws.{quietly_if, receive_held}
use Rattle.media_variables.proofs.callers.CallerMedia.receive.Goals as goal

pub caller_receive-requires : goal.caller_receive-requires
caller_receive-requires c = caller_there _ c.self.inside.pool c.self.inside.callers.items c.args.who.caller c.self.view_is c.requires.there

pub returns-clause-came : goal.returns-clause-came
returns-clause-came c =
    let inner = c.self.inside in
    let all = map seen_in inner.callers.items in
    let new = map seen_in c.caller_receive.new.callers.items in
    let k = c.args.who.caller in
    let p : Received = record { poster = c.args.poster; medium = seen c.args.medium } in
    let came = quietly_if inner.pool all new c.args.who (received_came c.args.who.step (Some p) (variables_of k all)) c.caller_receive.result refl c.caller_receive.ensures.came in
    subst (λ (m : Media). IfOk c.caller_receive.result (λ r. IsCome m (record { variables = new; pool = inner.pool }) c.args.who (Some (received_came c.args.who.step (Some p) (variables_of k m.variables))) (Some r))) c.self.view_is came

pub invariant_of-self : goal.invariant_of-self
invariant_of-self c =
    let inner = c.self.inside in
    let k = c.args.who.caller in
    let lt = caller_there _ inner.pool inner.callers.items k c.self.view_is c.requires.there in
    let apart : AreApart inner.pool (map seen_in inner.callers.items) (pairs_in (Some c.args.medium)) = subst (λ (m : Media). AreApart m.pool m.variables (pairs_in (Some c.args.medium))) (sym c.self.view_is) c.requires.apart in
    receive_held inner.pool (map seen_in inner.callers.items) (map seen_in c.caller_receive.new.callers.items) k c.args.who.step c.args.medium (result.From c.args.poster) c.caller_receive.result (within k inner.callers.items lt) c.self.invariant apart c.caller_receive.ensures.came c.caller_receive.ensures.err
