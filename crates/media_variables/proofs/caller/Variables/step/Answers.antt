use Rattle.std.proofs.Common.{List, Option, None, IfOk, subst}
use Rattle.media_variables.specs.Variables.{Brought, media_came}
use Rattle.media_variables.specs.Held.{WholeMedium, seen_in}
use Rattle.media_variables.specs.Given.{Acts, DoesAll}
use Rattle.media_variables.proofs.caller.Variables.step.Goals as goal

pub returns-clause-acts : goal.returns-clause-acts
returns-clause-acts g c =
    let b : Brought = record { chunk = c.args.chunk.now; taken = None; received = None } in
    let did = DoesAll g.P.RefPool.adds c.args.who c.args.pool.now c.media_step.new.pool in
    subst (λ (vs : List (Option WholeMedium)). IfOk c.media_step.result (Acts did (λ n. media_came n c.args.who b c.args.step.now (seen_in vs)) (seen_in vs) (seen_in c.media_step.new.variables.items))) c.self.view_is c.media_step.ensures.ok
