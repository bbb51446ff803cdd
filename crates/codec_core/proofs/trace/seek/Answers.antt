use Rattle.std.proofs.Common.{◌≡◌, ◌∙◌, length, map, slice_get, Some, sym, ap, arith}
use Rattle.std.specs.Prelude.{option_map}
use Rattle.std.proofs.lemmas.Option.{slice_get-map, slice_get_past}
use Rattle.codec_model.specs.Shown.{shown_of, units_in}
use Rattle.codec_core.proofs.Outputs.{behind_next, within_next}
use Rattle.codec_core.proofs.trace.seek.Goals as goal
use Rattle.codec_core.proofs.trace.seek.Goals.{After-outputs_of-count}

here : (c : After-outputs_of-count) → slice_get c.args.shown.now.items c.loop-entry.entry ≡ Some c.in-Some.showing.now
here c = sym c.in-Some.ensures

own : (c : After-outputs_of-count) → length c.outputs_of-count.result.now ≡ length (units_in (shown_of c.in-Some.showing.now).events)
own c = ap (λ us. length us) c.outputs_of-count.ensures

pub loop-entry-preserved : goal.loop-entry-preserved
loop-entry-preserved c =
    let p = (goal.at.loop-entry-preserved c).After-outputs_of-count in
    let xs = c.args.shown.now.items in
    let x = shown_of c.in-Some.showing.now in
    let there : slice_get (map shown_of xs) c.loop-entry.entry ≡ Some x = slice_get-map shown_of xs c.loop-entry.entry ∙ ap (option_map shown_of) (here p) in
    record {
      entry = omega (arith, c.loop-entry-test.true);
      unit = rw (own p) (within_next c.loop-entry.entry c.loop-entry.unit (map shown_of xs) x there c.loop-entry.invariant.unit);
      same = rw (own p) (behind_next c.loop-entry.entry c.loop-entry.unit (map shown_of xs) x there (omega (arith, own p, c.if-unit-count.false)) ∙ c.loop-entry.invariant.same);
    }

pub returns-after-loop-entry-clause-own : goal.returns-after-loop-entry-clause-own
returns-after-loop-entry-clause-own c = rw (slice_get_past c.args.shown.now.items c.loop-entry.entry (omega (arith, c.loop-entry-test.false))) tt

pub returns-then-unit-count-clause-own : goal.returns-then-unit-count-clause-own
returns-then-unit-count-clause-own c =
    let p = (goal.at.returns-then-unit-count-clause-own c).After-outputs_of-count in
    rw (here p) (omega (arith, own p, c.if-unit-count.true))
