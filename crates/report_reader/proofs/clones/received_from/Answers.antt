use Rattle.std.proofs.Common.{◌<◌, ◌-◌, ap, sym, ◌∙◌, arith}
use Rattle.std.specs.Prelude.{option_and_then}
use Rattle.report_reader.specs.Arguments.{from_in, posted_by}
use Rattle.report_reader.proofs.PlaceLaws.{received_on}
use Rattle.report_reader.proofs.clones.received_from.Goals as goal

pub returns-in-Some-clause-some : goal.returns-in-Some-clause-some
returns-in-Some-clause-some c =
    let s = c.args.script.now in
    let known = c.args.known.now in
    let some : 0 < c.args.at.left = omega (arith, c.if-at-eq0.false) in
    rw (received_on s known c.args.at some ∙ ap (option_and_then (posted_by s (from_in s known (c.args.at.left - 1)))) (sym c.in-Some.ensures)) (c.posted_place.ensures.some known)

pub returns-in-Some-clause-none : goal.returns-in-Some-clause-none
returns-in-Some-clause-none c =
    let s = c.args.script.now in
    let known = c.args.known.now in
    let some : 0 < c.args.at.left = omega (arith, c.if-at-eq0.false) in
    rw (received_on s known c.args.at some ∙ ap (option_and_then (posted_by s (from_in s known (c.args.at.left - 1)))) (sym c.in-Some.ensures)) (c.posted_place.ensures.none known)
