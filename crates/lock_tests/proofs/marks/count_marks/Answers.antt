use Rattle.std.proofs.Common.{rules, List, length, sym, ap, ◌∙◌}
use Rattle.wc_base.specs.declared.seat.Passage.TheVariants.{Look}
use Rattle.seat_lock.specs.Logs.{entries_of}
use Rattle.seat_lock.specs.Own.{inside_of, passes_of, view_of_passage}
use Rattle.seat_lock.specs.Seats.{Sitting}
use Rattle.lock_tests.specs.declared.marks.Mark.{Mark}
use Rattle.lock_tests.specs.Marks.{never_mints, never_spends}
use Rattle.lock_tests.proofs.Steps.{look_seen}
use Rattle.lock_tests.proofs.marks.count_marks.Goals as goal

pub leave-requires-clause-log : goal.leave-requires-clause-log
leave-requires-clause-log g c =
    let e = c.enter-held.ensures.log in
    record { log = e.log; inside = inside_of e.log _ _ e.goes_in; stands = c.state.ensures.value ∙ e.stands ∙ sym (look_seen e.log _); has_claim = tt }

pub returns-clause-passage : goal.returns-clause-passage
returns-clause-passage g c =
    passes_of never_mints never_spends Look _ _ c.args.seat.now c.enter-held.new.seat c.leave.new.seat c.enter-held.ensures.log c.leave.ensures.log

pub returns-clause-count : goal.returns-clause-count
returns-clause-count g c =
    let e = c.enter-held.ensures.log in
    ap (λ (m : Sitting _ Mark). length (entries_of m.0.log)) (view_of_passage never_mints never_spends Look e.log c.args.seat.now c.enter-held.new.seat c.leave.new.seat e.goes_in c.leave.ensures.log)
    ∙ ap (λ (l : List Mark). length l) (look_seen e.log _ ∙ sym (c.state.ensures.value ∙ e.stands) ∙ search rules)
