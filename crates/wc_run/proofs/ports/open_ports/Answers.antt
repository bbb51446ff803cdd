use Rattle.std.proofs.Common.{◌≡◌, ◌^◌, ◌∙◌, ◌∷◌, [], List, length, length-append, refl, sym, ap, subst, arith}
use Rattle.desk_callers.specs.Passes.{ArePasses, AreUnused}
use Rattle.shared_variables.specs.Ports.{WholeParcel}
use Rattle.shared_port.specs.declared.port.PortPass.{PortPass}
use Rattle.shared_port.specs.declared.rule.PortView.{PortView}
use Rattle.shared_port.specs.Ports.{PortId, seen}
use Rattle.wc_run.specs.Ports.{PassesHave}
use Rattle.wc_run.proofs.Passes.{no_passes, nothing_there, one_more, passes_more}
use Rattle.wc_run.proofs.ports.open_ports.Goals as goal

pub loop-init : goal.loop-init
loop-init c =
    let P = PortPass WholeParcel in
    let bare = c.requires.empty.0 in
    let none = c.requires.empty.1 in
    let empty = ap (λ (l : List P). length l) none in
    let zero = ap (λ (l : List PortId). length l) bare in
    record {
      passes = no_passes c.args.pool.now c.args.ports.now.items c.args.passes.now.items bare none;
      parts = λ q p at. absurd (nothing_there c.args.passes.now.items q p empty at);
      unused = λ q p at. absurd (nothing_there c.args.passes.now.items q p empty at);
      many = zero;
      below = omega arith;
      room = refl;
      places = refl;
    }

pub loop-preserved : goal.loop-preserved
loop-preserved c =
    let P = PortPass WholeParcel in
    let i = c.loop.invariant in
    let e = c.in-Ok.ensures in
    let port = c.in-Ok.port in
    let pass = c.in-Ok.pass in
    let xs = c.loop.ports.items in
    let us = c.loop.passes.items in
    let p = c.push_reserved.ensures in
    let q = c.push_reserved-in-loop.ensures in
    let longer = ap (λ (l : List PortId). length l) p.items ∙ length-append xs (port ∷ []) in
    let parts = ap (λ (v : PortView WholeParcel). v.parts) e.pass.1 in
    let posted = ap (λ (v : PortView WholeParcel). v.posted) e.pass.1 in
    let received = ap (λ (v : PortView WholeParcel). v.received) e.pass.1 in
    record {
      passes = subst (λ (z : List PortId × List P). ArePasses c.args.pool.now z.0 z.1) (λ n. (sym p.items n, sym q.items n)) (passes_more c.args.pool.now xs us port pass e.pool e.pass.0 i.passes);
      parts = subst (PassesHave (2 ^ 32)) (sym q.items) (one_more (λ r u. (seen u).parts ≡ 2 ^ 32) us pass i.parts parts);
      unused = subst AreUnused (sym q.items) (one_more (λ r u. ((seen u).posted ≡ []) × ((seen u).received ≡ [])) us pass i.unused (posted, received));
      many = omega (arith, longer, i.many);
      below = omega arith;
      room = p.capacity ∙ i.room;
      places = q.capacity ∙ i.places;
    }

pub returns-in_default-clause-passes : goal.returns-in_default-clause-passes
returns-in_default-clause-passes c = c.loop.invariant.passes

pub returns-in_default-clause-parts : goal.returns-in_default-clause-parts
returns-in_default-clause-parts c = c.loop.invariant.parts

pub returns-in_default-clause-unused : goal.returns-in_default-clause-unused
returns-in_default-clause-unused c = c.loop.invariant.unused

pub returns-clause-passes : goal.returns-clause-passes
returns-clause-passes c = c.loop.invariant.passes

pub returns-clause-parts : goal.returns-clause-parts
returns-clause-parts c = c.loop.invariant.parts

pub returns-clause-unused : goal.returns-clause-unused
returns-clause-unused c = c.loop.invariant.unused

pub returns-clause-all : goal.returns-clause-all
returns-clause-all c =
    let i = c.loop.invariant in
    let many = i.many in
    let below = i.below in
    let t = c.loop-test.false in
    omega (arith, many, below, t)

pub push_reserved-requires : goal.push_reserved-requires
push_reserved-requires c =
    let i = c.loop.invariant in
    let many = i.many in
    let room = i.room in
    let places = c.requires.room.0 in
    let t = c.loop-test.true in
    let e = c.loop.ports.ok.0 in
    omega (arith, many, room, places, t, e)

pub push_reserved-requires-in-loop : goal.push_reserved-requires-in-loop
push_reserved-requires-in-loop c =
    let i = c.loop.invariant in
    let many = i.many in
    let same = i.passes.many in
    let room = i.places in
    let places = c.requires.room.1 in
    let t = c.loop-test.true in
    let e = c.loop.passes.ok.0 in
    omega (arith, many, same, room, places, t, e)
