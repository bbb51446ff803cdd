use Rattle.std.proofs.Common.{◌≡◌, ◌∙◌, ◌∷◌, [], List, inl, inr, length, length-append, sym, ap, subst, arith}
use Rattle.std.specs.Prelude.{slice_get}
use Rattle.std.proofs.lemmas.Bool.{cases_lt}
use Rattle.std.proofs.lemmas.Option.{slice_get_within}
use Rattle.shared_variables.specs.Ports.{WholeParcel}
use Rattle.shared_port.specs.declared.port.PortPass.{PortPass}
use Rattle.shared_port.specs.Ports.{PortId, seen}
use Rattle.wc_base.specs.Options.{some_same}
use Rattle.wc_run.specs.Ports.{HasAccount}
use Rattle.wc_run.proofs.Passes.{end_there, front_there}
use Rattle.wc_run.proofs.ports.finish_ports.Goals as goal

pub loop-port-init : goal.loop-port-init
loop-port-init g c =
    let are = c.requires.passes.1 in
    record {
      many = are.many;
      each = are.each;
      left = λ q p at. at;
      done = λ q p le at. (let lt = slice_get_within c.args.passes.items q p at in absurd (omega (arith, lt, le)));
    }

pub finish-requires-clause-pass : goal.finish-requires-clause-pass
finish-requires-clause-pass g c =
    let P = PortPass WholeParcel in
    let i = c.loop-port.invariant in
    let fewer = ap (λ (l : List PortId). length l) c.in-Some.ensures.items ∙ length-append c.pop.new.self.items (c.in-Some.port ∷ []) in
    let less = ap (λ (l : List P). length l) c.in-Some-pop.ensures.items ∙ length-append c.pop-in-Some.new.self.items (c.in-Some-pop.pass ∷ []) in
    let many = i.many in
    let same : length c.pop-in-Some.new.self.items ≡ length c.pop.new.self.items = omega (arith, fewer, less, many) in
    let there = end_there c.loop-port.ports.items c.pop.new.self.items c.in-Some.port c.in-Some.ensures.items in
    let now = end_there c.loop-port.passes.items c.pop-in-Some.new.self.items c.in-Some-pop.pass c.in-Some-pop.ensures.items in
    i.each (length c.pop.new.self.items) c.in-Some.port c.in-Some-pop.pass there (ap (slice_get c.loop-port.passes.items) (sym same) ∙ now)

pub finish-requires-clause-parts : goal.finish-requires-clause-parts
finish-requires-clause-parts g c =
    let i = c.loop-port.invariant in
    let now = end_there c.loop-port.passes.items c.pop-in-Some.new.self.items c.in-Some-pop.pass c.in-Some-pop.ensures.items in
    c.requires.parts (length c.pop-in-Some.new.self.items) c.in-Some-pop.pass (i.left (length c.pop-in-Some.new.self.items) c.in-Some-pop.pass now)

pub loop-port-preserved : goal.loop-port-preserved
loop-port-preserved g c =
    let P = PortPass WholeParcel in
    let i = c.loop-port.invariant in
    let ports = c.pop.new.self.items in
    let front = c.pop-in-Some.new.self.items in
    let pass = c.in-Some-pop.pass in
    let fewer = ap (λ (l : List PortId). length l) c.in-Some.ensures.items ∙ length-append ports (c.in-Some.port ∷ []) in
    let less = ap (λ (l : List P). length l) c.in-Some-pop.ensures.items ∙ length-append front (pass ∷ []) in
    let many = i.many in
    let now = i.left (length front) pass (end_there c.loop-port.passes.items front pass c.in-Some-pop.ensures.items) in
    let e = c.finish.ensures in
    let account : HasAccount (seen pass) = (e.got, (e.left, c.last_passes_account.ensures (seen pass) e.got e.left e.stood (c.requires.parts (length front) pass now))) in
    record {
      many = omega (arith, fewer, less, many);
      each = λ q port p at there. i.each q port p (front_there c.loop-port.ports.items ports c.in-Some.port q port c.in-Some.ensures.items at) (front_there c.loop-port.passes.items front pass q p c.in-Some-pop.ensures.items there);
      left = λ q p at. i.left q p (front_there c.loop-port.passes.items front pass q p c.in-Some-pop.ensures.items at);
      done = λ q p le at. (elim (cases_lt (length front) q) [
        | inl behind ↦ i.done q p (omega (arith, less, behind)) at
        | inr here ↦ (
            let place : q ≡ length front = omega (arith, le, here) in
            let is : pass ≡ p = some_same pass p (sym now ∙ (ap (slice_get c.args.passes.items) (sym place) ∙ at)) in
            subst (λ (r : P). HasAccount (seen r)) is account
            )
      ]);
    }

pub loop-port-smaller : goal.loop-port-smaller
loop-port-smaller g c =
    let fewer = ap (λ (l : List PortId). length l) c.in-Some.ensures.items ∙ length-append c.pop.new.self.items (c.in-Some.port ∷ []) in
    omega (arith, fewer)

pub unreachable-unreachable : goal.unreachable-unreachable
unreachable-unreachable g c =
    let none : length c.loop-port.passes.items ≡ 0 = sym c.loop-port.passes.ok.0 ∙ c.in_default-pop.ensures.cases.0 in
    let fewer = ap (λ (l : List PortId). length l) c.in-Some.ensures.items ∙ length-append c.pop.new.self.items (c.in-Some.port ∷ []) in
    let many = c.loop-port.invariant.many in
    omega (arith, none, fewer, many)

pub returns : goal.returns
returns g c q p at =
    let i = c.loop-port.invariant in
    let none : length c.loop-port.ports.items ≡ 0 = sym c.loop-port.ports.ok.0 ∙ c.in_default.ensures.cases.0 in
    let many = i.many in
    i.done q p (omega (arith, none, many)) at
