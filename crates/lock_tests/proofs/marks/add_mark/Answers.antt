use Rattle.std.proofs.Common.{◌∙◌, subst}
use Rattle.wc_base.specs.declared.seat.Passage.{Passage}
use Rattle.seat_lock.specs.Own.{inside_of, passes_of}
use Rattle.seat_lock.specs.Passages.{Passes}
use Rattle.lock_tests.specs.declared.marks.Mark.{Mark}
use Rattle.lock_tests.specs.Marks.{never_mints, never_spends}
use Rattle.lock_tests.proofs.Steps.{adds, no_claim}
use Rattle.lock_tests.proofs.marks.add_mark.Goals as goal

pub leave-requires-clause-log : goal.leave-requires-clause-log
leave-requires-clause-log g c =
    let e = c.enter-held.ensures.log in
    record {
      log = e.log;
      inside = inside_of e.log _ _ e.goes_in;
      stands = adds c.add-added.result c.args.mark _ _ c.add-added.ensures e.log _ _ c.passage_if.ensures (c.state.ensures.value ∙ e.stands);
      has_claim = no_claim e.log _ _;
    }

pub returns-clause-passage : goal.returns-clause-passage
returns-clause-passage g c =
    subst (λ (p : Passage Mark). Passes never_mints never_spends p c.args.seat.now c.leave.new.seat) c.passage_if.ensures
    (passes_of never_mints never_spends _ _ _ c.args.seat.now c.enter-held.new.seat c.leave.new.seat c.enter-held.ensures.log c.leave.ensures.log)
