use Rattle.std.proofs.Common.{rules, ◌∙◌, ◌∷◌, ◌++◌, [], List, map, refl, length, length-append, sym, ap, arith}
use Rattle.work_moments.specs.declared.gate.Watch.{Watch}
use Rattle.wc_run.proofs.Lists.{told_more, told_all}
use Rattle.wc_run.proofs.running.watches_of.Goals as goal

pub loop-clock-init : goal.loop-clock-init
loop-clock-init g c =
    let W = Watch g.row.K.Denot g.row.G.Denot in
    let all = ap (λ (l : List g.row.K.Denot). length l) c.into_iter-clock-iterator.ensures.into_iter_gives.0 in
    let none = ap (λ (l : List (Watch g.row.K.Denot g.row.G.Denot)). length l) c.in_ok-watches.ensures.items in
    let enough = c.requires in
    let room = c.in_ok-watches.ensures.capacity in
    let len = c.len.ensures in
    let long = c.args.clocks.ok.0 in
    record {
      long = search rules;
      many = omega (arith, none, all);
      tells = (λ i. map (λ (w : W). g.K.Clock.told w.clock) (c.in_ok-watches.ensures.items i) ++ map g.K.Clock.told (c.into_iter-clock-iterator.ensures.into_iter_gives.0 i));
      enough = omega (arith, all, enough);
      room = omega (arith, room, len, long);
    }

pub unreachable-requires : goal.unreachable-requires
unreachable-requires g c =
    let short = ap (λ (l : List g.row.K.Denot). length l) c.in-Some.ensures.steps.0 in
    let none = sym c.loop-clock.gates.ok.0 ∙ c.in_default.ensures.cases.0 in
    let enough = c.loop-clock.invariant.enough in
    omega (arith, short, none, enough)

pub loop-clock-preserved : goal.loop-clock-preserved
loop-clock-preserved g c =
    let W = Watch g.row.K.Denot g.row.G.Denot in
    let i = c.loop-clock.invariant in
    let p = c.push_reserved.ensures in
    let w : W = record { clock = c.in-Some.clock; gate = c.in-Some-pop.gate } in
    let short = ap (λ (l : List g.row.K.Denot). length l) c.in-Some.ensures.steps.0 in
    let fewer = ap (λ (l : List g.row.G.Denot). length l) c.in-Some-pop.ensures.items ∙ length-append c.pop.new.self.items (c.in-Some-pop.gate ∷ []) in
    let more = ap (λ (l : List W). length l) p.items ∙ length-append c.loop-clock.watches.items (w ∷ []) in
    let step = c.in-Some.ensures.steps.1 in
    let long = i.long in
    let many = i.many in
    let enough = i.enough in
    let room = i.room in
    let same = p.capacity in
    record {
      long = omega (arith, short, step, long);
      many = omega (arith, more, short, many);
      tells = told_more (λ (w : W). g.K.Clock.told w.clock) g.K.Clock.told c.loop-clock.watches.items _ w _ _ c.in-Some.clock _ p.items c.in-Some.ensures.steps.0 refl i.tells;
      enough = omega (arith, short, fewer, enough);
      room = omega (arith, same, room);
    }

pub returns-clause-many : goal.returns-clause-many
returns-clause-many g c =
    let none = c.in-None.ensures.steps.0 in
    let long = c.loop-clock.invariant.long in
    let many = c.loop-clock.invariant.many in
    omega (arith, none, long, many)

pub returns-clause-same : goal.returns-clause-same
returns-clause-same g c =
    let none = c.in-None.ensures.steps.0 in
    let long = c.loop-clock.invariant.long in
    let W = Watch g.row.K.Denot g.row.G.Denot in
    told_all (λ (w : W). g.K.Clock.told w.clock) g.K.Clock.told c.loop-clock.watches.items _ _ (omega (arith, none, long)) c.loop-clock.invariant.tells
