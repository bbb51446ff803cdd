use Rattle.std.proofs.Common.{ℕ, ap, sym, ◌∙◌, ◌*◌, ◌+◌, ◌-◌, ◌/◌, ◌^◌, ◌≡◌, ◌<◌, subst, refl, arith}
use Rattle.std.proofs.Math.Nat.{div-le_self}
use Rattle.flac_definitions.specs.Plans.{part_of}
use Rattle.flac_plans.specs.Search.{table, IsWindow}
use Rattle.flac_plans.proofs.Rows.{windows_joined}
use Rattle.flac_plans.proofs.Descent.{fits_whole, one_shifted, halved_parts, doubled_size, plan_is, first_plan, better_plan, best_is, usable}
use Rattle.flac_plans.proofs.plan.searched.Goals as goal

pub loop-p-init : goal.loop-p-init
loop-p-init c =
    let a = c.args in
    let zs = a.zs.now in
    let f = c.finest-finest.result in
    let w = fits_whole a.block a.order f c.finest-finest.ensures.fits in
    let parts = one_shifted f c.finest-finest.ensures.most in
    let best = c.in_ok-best.best in
    let p = plan_is a.block a.order zs f (a.block / 2 ^ f) _ best refl parts c.in_ok-best.ensures.partition c.in_ok-best.ensures.parameters c.in_ok-best.ensures.bits in
    let first = first_plan a.block a.order zs f best p in
    record {
      within = omega arith;
      size = refl;
      parts = parts;
      count = ap (λ (x : ℕ). x * (a.block / 2 ^ f)) parts ∙ omega (arith, w.0, c.requires.count);
      order = w.1;
      windows = c.window-window.ensures.fits;
      sums = c.in_ok-sums.ensures;
      best = first.0;
      plan = first.1;
      small = c.in_ok-best.ensures.small;
    }

pub merged-requires-clause-count : goal.merged-requires-clause-count
merged-requires-clause-count c =
    let v = c.loop-p.invariant in
    let h = halved_parts c.loop-p.p c.loop-p.parts c.loop-p-test.true v.parts in
    ap (λ (x : ℕ). x * c.loop-p.size) h.1 ∙ v.count

pub merged-requires-clause-sums : goal.merged-requires-clause-sums
merged-requires-clause-sums c =
    let v = c.loop-p.invariant in
    let w = c.window-window.result in
    let h = halved_parts c.loop-p.p c.loop-p.parts c.loop-p-test.true v.parts in
    c.as_slice-in-loop-p.ensures.value ∙ (v.sums ∙ ap (λ (x : ℕ). table w.low (w.high - w.low + 1) c.loop-p.size c.args.order c.args.zs.now x) (sym h.1))

pub level-requires-in-loop-p-clause-size : goal.level-requires-in-loop-p-clause-size
level-requires-in-loop-p-clause-size c =
    let v = c.loop-p.invariant in
    let d = doubled_size c.args.block c.loop-p.p c.loop-p.parts c.loop-p.size c.loop-p-test.true v.parts (v.count ∙ c.requires.count) in
    omega (arith, d.0, div-le_self c.args.block (2 ^ (c.loop-p.p - 1)), c.requires.block)

pub level-requires-in-loop-p-clause-count : goal.level-requires-in-loop-p-clause-count
level-requires-in-loop-p-clause-count c =
    let v = c.loop-p.invariant in
    let d = doubled_size c.args.block c.loop-p.p c.loop-p.parts c.loop-p.size c.loop-p-test.true v.parts (v.count ∙ c.requires.count) in
    d.1 ∙ sym c.requires.count

pub level-requires-in-loop-p-clause-window : goal.level-requires-in-loop-p-clause-window
level-requires-in-loop-p-clause-window c = λ j l.
    let v = c.loop-p.invariant in
    let w = c.window-window.result in
    let zs = c.args.zs.now in
    let size = c.loop-p.size in
    let h = halved_parts c.loop-p.p c.loop-p.parts c.loop-p-test.true v.parts in
    let whole : (i : ℕ) → i < 2 * (c.loop-p.parts / 2) → IsWindow w.low w.high (part_of size c.args.order zs i) = λ i m. v.windows i (omega (arith, m, h.1)) in
    let turned : 2 * size ≡ size * 2 = omega arith in
    subst (λ (x : ℕ). IsWindow w.low w.high (part_of x c.args.order zs j)) turned (windows_joined w.low w.high size c.args.order zs (c.loop-p.parts / 2) whole j l)

pub loop-p-preserved : goal.loop-p-preserved
loop-p-preserved c =
    let v = c.loop-p.invariant in
    let a = c.args in
    let zs = a.zs.now in
    let w = c.window-window.result in
    let p = c.loop-p.p in
    let size = c.loop-p.size in
    let some = c.loop-p-test.true in
    let h = halved_parts p c.loop-p.parts some v.parts in
    let d = doubled_size a.block p c.loop-p.parts size some v.parts (v.count ∙ c.requires.count) in
    let plan = c.in_ok-plan.plan in
    let next = plan_is a.block a.order zs (p - 1) (size * 2) (c.loop-p.parts / 2) plan d.0 h.0 c.in_ok-plan.ensures.partition c.in_ok-plan.ensures.parameters c.in_ok-plan.ensures.bits in
    let whole : (i : ℕ) → i < 2 * (c.loop-p.parts / 2) → IsWindow w.low w.high (part_of size a.order zs i) = λ i m. v.windows i (omega (arith, m, h.1)) in
    let turned : 2 * size ≡ size * 2 = omega arith in
    let r = better_plan a.block a.order zs p c.finest-finest.result plan c.loop-p.best c.better-best.result some v.best v.plan next c.better-best.ensures.first c.better-best.ensures.second in
    record {
      within = omega (arith, v.within);
      size = d.0;
      parts = h.0;
      count = d.1 ∙ sym c.requires.count;
      order = omega (arith, v.order);
      windows = λ j l. subst (λ (x : ℕ). IsWindow w.low w.high (part_of x a.order zs j)) turned (windows_joined w.low w.high size a.order zs (c.loop-p.parts / 2) whole j l);
      sums = c.in_ok-sums-2.ensures ∙ ap (λ (x : ℕ). table w.low (w.high - w.low + 1) x a.order zs (c.loop-p.parts / 2)) turned;
      best = r.0;
      plan = r.1;
      small = c.better-best.ensures.small c.in_ok-plan.ensures.small v.small;
    }

pub returns-clause-plan : goal.returns-clause-plan
returns-clause-plan c =
    let v = c.loop-p.invariant in
    let a = c.args in
    let none : c.loop-p.p ≡ 0 = omega arith in
    best_is a.block a.order a.most a.zs.now c.loop-p.p c.finest-finest.result c.loop-p.best none c.finest-finest.ensures.value v.best v.plan

pub returns-clause-usable : goal.returns-clause-usable
returns-clause-usable c =
    let v = c.loop-p.invariant in
    let a = c.args in
    usable a.block a.order a.zs.now c.loop-p.best.partition c.finest-finest.result c.loop-p.best v.plan v.best.to_ge c.finest-finest.ensures.most c.finest-finest.ensures.fits
