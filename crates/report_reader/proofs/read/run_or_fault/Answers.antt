use Rattle.std.proofs.Common.{ℕ, ◌<◌, ◌^◌, List, length, ◌∙◌, ap, sym, subst, inr, arith}
use Rattle.trace_text.specs.Report.{report_of}
use Rattle.report_reader.specs.Fault.{IsForms, line_of_difference}
use Rattle.report_reader.proofs.FitLaws.{forms_told}
use Rattle.report_reader.proofs.read.run_or_fault.Goals as goal

pub returns-in-Some-clause-bad : goal.returns-in-Some-clause-bad
returns-in-Some-clause-bad c =
    let forms = subst (IsForms c.args.script.now c.args.bytes.now) c.in-Lines.is (rw c.data.ensures.data at c.in_ok-line.ensures) in
    let run = rw (c.data-in-Lines.ensures.data, c.deref.ensures.value) at c.in_ok-run-in-Lines.ensures.run in
    let text = c.deref-in-Lines.ensures.value ∙ c.in_ok-again-in-Lines.ensures ∙ ap (report_of c.args.script.now) run in
    inr (record { lines = c.in-Lines.lines.items; forms = forms; differs = λ e. c.in-Some.ensures.differs (text ∙ e); number = c.in-Some.ensures.line ∙ ap (λ (x : List ℕ). line_of_difference x c.args.bytes.now) text })

pub returns-clause-ok : goal.returns-clause-ok
returns-clause-ok c = record {
  lines = c.in-Lines.lines.items;
  forms = subst (IsForms c.args.script.now c.args.bytes.now) c.in-Lines.is (rw c.data.ensures.data at c.in_ok-line.ensures);
  shown = rw (c.data-in-Lines.ensures.data, c.deref.ensures.value) at c.in_ok-run-in-Lines.ensures.run;
  text = sym c.in-None.ensures.none ∙ c.deref-in-Lines.ensures.value ∙ c.in_ok-again-in-Lines.ensures;
}

pub returns-clause-told : goal.returns-clause-told
returns-clause-told c =
    let forms = subst (IsForms c.args.script.now c.args.bytes.now) c.in-Lines.is (rw c.data.ensures.data at c.in_ok-line.ensures) in
    let run = rw (c.data-in-Lines.ensures.data, c.deref.ensures.value) at c.in_ok-run-in-Lines.ensures.run in
    let few : length c.in-Lines.lines.items < 2 ^ 64 = omega arith in
    forms_told c.lines_that_are_read_fit.ensures c.lines_are_read_again.ensures.again c.args.script.now c.args.media.now c.args.bytes.now c.in-Lines.lines.items _ c.data.ensures.sound forms few run c.in_ok-run-in-Lines.ensures.fits (sym c.in-None.ensures.none ∙ c.deref-in-Lines.ensures.value ∙ c.in_ok-again-in-Lines.ensures)
