use Rattle.std.proofs.Common.{◌≡◌, Some, map, subst}
use Rattle.std.specs.Prelude.{option_map}
use Rattle.media_variables.specs.Variables.{Media, IsCome, medium_at, post_came, posted_from, variables_of}
use Rattle.media_variables.specs.Held.{seen, seen_in}
use Rattle.media_variables.proofs.HeldLaws.{caller_there, within}
use Rattle.media_variables.proofs.PortLaws.{came_quietly, post_apart, post_does, post_kept}
use Rattle.media_variables.proofs.callers.CallerMedia.post.Goals as goal

pub caller_post-requires : goal.caller_post-requires
caller_post-requires c = caller_there _ c.self.inside.pool c.self.inside.callers.items c.args.who.caller c.self.view_is c.requires

pub returns-clause-came : goal.returns-clause-came
returns-clause-came c =
    let inner = c.self.inside in
    let all = map seen_in inner.callers.items in
    let new = map seen_in c.caller_post.new.callers.items in
    let k = c.args.who.caller in
    let of = c.args.variable in
    let vs = variables_of k all in
    let came = came_quietly inner.pool all new c.args.who (post_came of vs) c.caller_post.result.0 (post_does of vs (medium_at vs of)) c.caller_post.ensures.came.0 c.caller_post.ensures.came.1 in
    subst (λ (m : Media). IsCome m (record { variables = new; pool = inner.pool }) c.args.who (Some (post_came of (variables_of k m.variables))) (Some c.caller_post.result.0)) c.self.view_is came

pub returns-clause-posted : goal.returns-clause-posted
returns-clause-posted c =
    subst (λ (m : Media). option_map seen c.caller_post.result.1 ≡ posted_from (variables_of c.args.who.caller m.variables) c.args.variable) c.self.view_is c.caller_post.ensures.posted

pub returns-clause-apart : goal.returns-clause-apart
returns-clause-apart c =
    let inner = c.self.inside in
    let k = c.args.who.caller in
    let lt = caller_there _ inner.pool inner.callers.items k c.self.view_is c.requires in
    post_apart inner.pool (map seen_in inner.callers.items) (map seen_in c.caller_post.new.callers.items) k c.args.variable c.caller_post.result.1 (within k inner.callers.items lt) c.self.invariant c.caller_post.ensures.came.1 c.caller_post.ensures.posted

pub invariant_of-self : goal.invariant_of-self
invariant_of-self c =
    let inner = c.self.inside in
    let k = c.args.who.caller in
    let lt = caller_there _ inner.pool inner.callers.items k c.self.view_is c.requires in
    post_kept inner.pool (map seen_in inner.callers.items) (map seen_in c.caller_post.new.callers.items) k c.args.variable (within k inner.callers.items lt) c.self.invariant c.caller_post.ensures.came.1
