use Rattle.std.proofs.Common.{◌≡◌, ◌+◌, ◌∙◌, subst, Bool, rules}
use Rattle.codec_judge.specs.Judge.{Judges}
use Rattle.codec_judge.proofs.Walking.{walk_begins, walk_more, walk_stops, walk_ends}
use Rattle.codec_judge.proofs.walk.walk.Goals as goal

pub loop-entry-init : goal.loop-entry-init
loop-entry-init g c =
    walk_begins c.args.lender.now c.args.judge.now.core c.args.judge.now.job c.args.entries.now c.of-left.result c.requires.stands c.requires.empty (c.of-left.ensures ∙ c.segments.ensures.joined)

pub loop-entry-preserved : goal.loop-entry-preserved
loop-entry-preserved g c =
    let at = c.loop-entry in
    let new = c.take.new.self in
    let more : c.in_ok-count.count ≡ at.count + 1 = search rules in
    walk_more c.args.lender.now c.args.judge.now.core c.args.entries.now at.left at.count at.judge.core at.judge.job at.lender at.invariant
    c.in-Some.entry.now c.next.new.self new.core new.job c.take.new.lender c.in_ok-count.count c.in-Some.ensures.some more
    (subst (λ (b : Bool). Judges at.lender at.judge.core c.in-Some.entry.now b new.core new.job c.take.new.lender) c.if-not-lawful.false c.in_ok-lawful.ensures)

pub returns-then-not-lawful : goal.returns-then-not-lawful
returns-then-not-lawful g c =
    let at = c.loop-entry in
    let new = c.take.new.self in
    walk_stops c.args.lender.now c.args.judge.now.core c.args.entries.now at.left at.count at.judge.core at.judge.job at.lender at.invariant
    c.in-Some.entry.now c.next.new.self new.core new.job c.take.new.lender c.in-Some.ensures.some
    (subst (λ (b : Bool). Judges at.lender at.judge.core c.in-Some.entry.now b new.core new.job c.take.new.lender) c.if-not-lawful.true c.in_ok-lawful.ensures)

pub returns : goal.returns
returns g c =
    let at = c.loop-entry in
    walk_ends c.args.lender.now c.args.judge.now.core c.args.entries.now at.left at.count at.judge.core at.judge.job at.lender at.invariant c.in_default.ensures.none
