use Rattle.std.proofs.Common.{ap, sym, ◌∙◌, arith}
use Rattle.media_accounts.specs.Contents.{bytes_kept, kept_before}
use Rattle.report_reader.proofs.TableLaws.{defined_read, defined_past, undefined_at}
use Rattle.report_reader.proofs.clones.find_bytes.Goals as goal

pub returns-in_default : goal.returns-in_default
returns-in_default c = λ from. c.new.ensures ∙ sym (ap bytes_kept (defined_past c.args.steps.now from c.loop-number.end c.loop-number.number c.loop-number-test.true c.in_default.ensures.lookup.3)) ∙ c.loop-number.invariant from

pub loop-number-preserved : goal.loop-number-preserved
loop-number-preserved c = λ from.
    let read = c.in-Some.ensures.lookup in
    let here = defined_read c.args.steps.now from c.loop-number.end c.loop-number.number c.in-Some.defining.now c.loop-number-test.true read.3.0 read.1 in
    sym (ap bytes_kept (c.in-Some-buffer_source.ensures.some (kept_before c.args.steps.now from c.loop-number.number) (from c.loop-number.number))) ∙ sym (ap bytes_kept here) ∙ c.loop-number.invariant from

pub returns-in-None : goal.returns-in-None
returns-in-None c = λ from.
    let read = c.in-Some.ensures.lookup in
    let here = defined_read c.args.steps.now from c.loop-number.end c.loop-number.number c.in-Some.defining.now c.loop-number-test.true read.3.0 read.1 in
    rw (sym (c.loop-number.invariant from) ∙ ap bytes_kept here ∙ c.in-None.ensures.none (kept_before c.args.steps.now from c.loop-number.number) (from c.loop-number.number)) c.own_bytes.ensures

pub returns : goal.returns
returns c = λ from. c.new-2.ensures ∙ sym (ap bytes_kept (undefined_at c.args.steps.now from c.loop-number.end c.loop-number.number (omega (arith, c.loop-number-test.false)))) ∙ c.loop-number.invariant from
