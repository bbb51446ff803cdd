use Rattle.std.proofs.Common.{◌≡◌, ◌≤◌, ◌<◌, ℕ, List, [], ◌∷◌, Option, IfOk, length, map, refl, sym, subst, arith}
use Rattle.std.proofs.lemmas.List.{length-map}
use Rattle.media_variables.specs.declared.lending.MediumFound.TheVariants as found
use Rattle.media_variables.specs.Variables.{Medium, lendable_at}
use Rattle.media_variables.specs.Held.{AreHeld, AreApart, medium_found, pair_of, seen_in, IsLent}
use Rattle.media_variables.proofs.HeldLaws.{caller_live, put_back}
use Rattle.media_variables.proofs.LendLaws.{lent_as, lent_held, lent_apart, none_open}
use Rattle.media_variables.proofs.Places.{seen_read, callers_set}
use Rattle.media_variables.proofs.StepLaws.{not_there}
use Rattle.media_variables.proofs.callers.caller_lend.Goals as goal

pub lend-requires-clause-open : goal.lend-requires-clause-open
lend-requires-clause-open c =
    let all = c.args.callers.now in
    let there = c.in-Some.ensures in
    let lt : c.args.caller < length all.items = omega (arith, all.ok.0, there.variant.0 refl) in
    let read = seen_read c.args.caller all.items c.in-Some.variables.now lt there.value in
    subst (λ (l : List (Option Medium)). medium_found (lendable_at l c.args.variable) ≡ found.Open) read c.requires.open

pub lend-requires-clause-held : goal.lend-requires-clause-held
lend-requires-clause-held c =
    let all = c.args.callers.now in
    let there = c.in-Some.ensures in
    let lt : c.args.caller < length all.items = omega (arith, all.ok.0, there.variant.0 refl) in
    caller_live c.args.pool.now (map seen_in all.items) c.args.caller _ (seen_read c.args.caller all.items _ lt there.value) c.requires.held

pub unreachable-requires : goal.unreachable-requires
unreachable-requires c =
    let all = c.args.callers.now in
    let past : length all.items ≤ c.args.caller = omega (arith, all.ok.0, not_there _ _ c.in-None.ensures.variant.1) in
    none_open (map seen_in all.items) c.args.caller c.args.variable (subst (λ (n : ℕ). n ≤ c.args.caller) (sym (length-map all.items seen_in)) past) c.requires.open

pub returns-clause-ok : goal.returns-clause-ok
returns-clause-ok c =
    let all = c.args.callers.now in
    let there = c.in-Some.ensures in
    let lt : c.args.caller < length all.items = omega (arith, all.ok.0, there.variant.0 refl) in
    let read = seen_read c.args.caller all.items c.in-Some.variables.now lt there.value in
    subst (λ (l : List (Option Medium)). IfOk c.lend.result (IsLent c.args.by c.args.pool.now c.lend.new.pool (lendable_at l c.args.variable))) (sym read) (lent_as c.args.by c.args.pool.now c.lend.new.pool _ c.lend.result c.lend.ensures.lent)

pub returns-clause-same : goal.returns-clause-same
returns-clause-same c =
    let all = c.args.callers.now in
    let there = c.in-Some.ensures in
    let lt : c.args.caller < length all.items = omega (arith, all.ok.0, there.variant.0 refl) in
    put_back c.args.caller all.items c.in-Some.variables.now c.lend.new.self (seen_read c.args.caller all.items _ lt there.value) c.lend.ensures.same

pub returns-clause-held : goal.returns-clause-held
returns-clause-held c =
    let all = c.args.callers.now in
    let there = c.in-Some.ensures in
    let vs = c.in-Some.variables.now in
    let lt : c.args.caller < length all.items = omega (arith, all.ok.0, there.variant.0 refl) in
    let read = seen_read c.args.caller all.items vs lt there.value in
    let lent = lent_as c.args.by c.args.pool.now c.lend.new.pool _ c.lend.result c.lend.ensures.lent in
    subst (AreHeld c.lend.new.pool) (sym (callers_set c.args.caller c.lend.new.self all.items))
    (lent_held c.references_are_apart.ensures.live c.args.pool.now c.lend.new.pool (map seen_in all.items) c.args.caller (seen_in vs) (seen_in c.lend.new.self) c.args.by _ c.lend.result c.entries-legal.ensures.legal c.requires.held read c.lend.ensures.same lent c.lend.ensures.err)

pub returns-clause-apart : goal.returns-clause-apart
returns-clause-apart c =
    let all = c.args.callers.now in
    let there = c.in-Some.ensures in
    let vs = c.in-Some.variables.now in
    let lt : c.args.caller < length all.items = omega (arith, all.ok.0, there.variant.0 refl) in
    let read = seen_read c.args.caller all.items vs lt there.value in
    let lent = lent_as c.args.by c.args.pool.now c.lend.new.pool _ c.lend.result c.lend.ensures.lent in
    subst (λ (l : List (List (Option Medium))). IfOk c.lend.result (λ x. AreApart c.lend.new.pool l (pair_of x.1 ∷ []))) (sym (callers_set c.args.caller c.lend.new.self all.items))
    (lent_apart c.references_are_apart.ensures.live c.args.pool.now c.lend.new.pool (map seen_in all.items) c.args.caller (seen_in vs) (seen_in c.lend.new.self) c.args.by _ c.lend.result c.entries-legal.ensures.legal c.requires.held read c.lend.ensures.same lent)
