use Rattle.std.proofs.Common.{sym, ◌∙◌, arith}
use Rattle.report_reader.proofs.PlaceLaws.{place_read, place_past, place_undefined}
use Rattle.report_reader.proofs.clones.find_content.Goals as goal

pub returns-in_default : goal.returns-in_default
returns-in_default c = sym (place_past c.args.script.now c.args.known.now c.loop-at.at c.loop-at-test.true (rw c.steps_of.ensures at c.in_default.ensures.lookup.3)) ∙ c.loop-at.invariant

pub loop-at-preserved : goal.loop-at-preserved
loop-at-preserved c =
    let read = c.in-Some.ensures.lookup in
    let here = place_read c.args.script.now c.args.known.now c.loop-at.at c.in-Some.step.now c.loop-at-test.true (rw c.steps_of.ensures at read.3.0) (rw c.steps_of.ensures at read.1) in
    sym c.in-Some-source_of.ensures.some ∙ sym here ∙ c.loop-at.invariant

pub returns-in-None : goal.returns-in-None
returns-in-None c =
    let read = c.in-Some.ensures.lookup in
    let here = place_read c.args.script.now c.args.known.now c.loop-at.at c.in-Some.step.now c.loop-at-test.true (rw c.steps_of.ensures at read.3.0) (rw c.steps_of.ensures at read.1) in
    rw (sym c.loop-at.invariant ∙ here ∙ c.in-None.ensures.none) c.own_content.ensures

pub returns : goal.returns
returns c = sym (place_undefined c.args.script.now c.args.known.now c.loop-at.at (omega (arith, c.loop-at-test.false))) ∙ c.loop-at.invariant
