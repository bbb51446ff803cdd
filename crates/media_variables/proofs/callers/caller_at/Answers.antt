use Rattle.std.proofs.Common.{ℕ, ◌≤◌, map, sym, subst}
use Rattle.std.proofs.lemmas.List.{length-map}
use Rattle.media_variables.specs.Held.{seen_in}
use Rattle.media_variables.proofs.Places.{seen_read, variables_past}
use Rattle.media_variables.proofs.callers.caller_at.Goals as goal

pub returns-in-Some : goal.returns-in-Some
returns-in-Some c =
    let read = c.in-Some.ensures.lookup in
    seen_read c.args.caller c.args.callers.now c.in-Some.variables.now read.3.0 read.1

pub returns-in-None : goal.returns-in-None
returns-in-None c =
    let all = c.args.callers.now in
    variables_past c.args.caller (map seen_in all) (subst (λ (n : ℕ). n ≤ c.args.caller) (sym (length-map all seen_in)) c.in-None.ensures.lookup.3)
