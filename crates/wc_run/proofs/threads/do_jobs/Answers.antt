use Rattle.std.proofs.Common.{◌∙◌, ℕ, List, length, sym, ap, subst, arith}
use Rattle.std.proofs.lemmas.List.{with_items_is}
use Rattle.wc_run.specs.declared.jobs.Job.{Job}
use Rattle.wc_run.specs.Jobs.{AreNew, AreReady, AreInTime, AreDone, AllDone}
use Rattle.wc_run.specs.Ports.{HoldParts}
use Rattle.wc_run.proofs.JobLists.{all_ready, all_done, all_in_time}
use Rattle.wc_run.proofs.threads.do_jobs.Goals as goal

pub run_jobs-requires-clause-new : goal.run_jobs-requires-clause-new
run_jobs-requires-clause-new g c κs within = subst (λ (l : List (Job g.row.C.Denot g.row.K.Denot g.row.G.Denot)). AreNew c.args.desk.now c.args.ports.now l) (sym c.as_mut_slice.ensures.value) c.requires.new

pub join_jobs-requires-clause-ready : goal.join_jobs-requires-clause-ready
join_jobs-requires-clause-ready g c κs within =
    let J = Job g.row.C.Denot g.row.K.Denot g.row.G.Denot in
    let before = c.args.jobs in
    let after = c.run_jobs.new.jobs in
    let value = c.as_mut_slice.ensures.value in
    let many = c.run_jobs.ensures.many ∙ ap (λ (l : List J). length l) value in
    let same = with_items_is before after (many ∙ sym before.ok.0) in
    let done = subst (λ (l : List J). AreDone g.K.Clock.told c.args.script.now c.args.media.now c.args.desk.now c.args.ports.now l after) value c.run_jobs.ensures.done in
    subst (λ (l : List J). AreReady c.args.desk.now c.args.ports.now l) (sym same) (all_ready g.K.Clock.told c.args.script.now c.args.media.now c.args.desk.now c.args.ports.now before.items after many done)

pub join_jobs-requires-clause-few : goal.join_jobs-requires-clause-few
join_jobs-requires-clause-few g c κs within =
    let J = Job g.row.C.Denot g.row.K.Denot g.row.G.Denot in
    let before = c.args.jobs in
    let after = c.run_jobs.new.jobs in
    let many = c.run_jobs.ensures.many ∙ ap (λ (l : List J). length l) c.as_mut_slice.ensures.value in
    let same = ap (λ (l : List J). length l) (with_items_is before after (many ∙ sym before.ok.0)) in
    let few = c.requires.few in
    omega (arith, many, same, few)

pub join_jobs-requires-clause-room : goal.join_jobs-requires-clause-room
join_jobs-requires-clause-room g c κs within =
    let J = Job g.row.C.Denot g.row.K.Denot g.row.G.Denot in
    let before = c.args.jobs in
    let after = c.run_jobs.new.jobs in
    let many = c.run_jobs.ensures.many ∙ ap (λ (l : List J). length l) c.as_mut_slice.ensures.value in
    let same = ap (λ (l : List J). length l) (with_items_is before after (many ∙ sym before.ok.0)) in
    let room = c.requires.room in
    omega (arith, many, same, room)

pub returns-then-join_jobs-clause-parts : goal.returns-then-join_jobs-clause-parts
returns-then-join_jobs-clause-parts g c n has =
    let J = Job g.row.C.Denot g.row.K.Denot g.row.G.Denot in
    let before = c.args.jobs in
    let after = c.run_jobs.new.jobs in
    let many = c.run_jobs.ensures.many ∙ ap (λ (l : List J). length l) c.as_mut_slice.ensures.value in
    let same = ap (λ (l : List J). length l) (with_items_is before after (many ∙ sym before.ok.0)) in
    subst (λ (m : ℕ). HoldParts m c.join_jobs.new.seats c.join_jobs.new.passes.items) (omega (arith, many, same)) (c.join_jobs.ensures.parts n has)

pub returns-clause-parts : goal.returns-clause-parts
returns-clause-parts g c n has =
    let J = Job g.row.C.Denot g.row.K.Denot g.row.G.Denot in
    let before = c.args.jobs in
    let after = c.run_jobs.new.jobs in
    let many = c.run_jobs.ensures.many ∙ ap (λ (l : List J). length l) c.as_mut_slice.ensures.value in
    let same = ap (λ (l : List J). length l) (with_items_is before after (many ∙ sym before.ok.0)) in
    subst (λ (m : ℕ). HoldParts m c.join_jobs.new.seats c.join_jobs.new.passes.items) (omega (arith, many, same)) (c.join_jobs.ensures.parts n has)

pub returns-clause-many : goal.returns-clause-many
returns-clause-many g c =
    let J = Job g.row.C.Denot g.row.K.Denot g.row.G.Denot in
    let before = c.args.jobs in
    let after = c.run_jobs.new.jobs in
    let many = c.run_jobs.ensures.many ∙ ap (λ (l : List J). length l) c.as_mut_slice.ensures.value in
    let same = ap (λ (l : List J). length l) (with_items_is before after (many ∙ sym before.ok.0)) in
    let traces = c.join_jobs.ensures.many in
    let all = c.requires.many in
    omega (arith, many, same, traces, all)

pub returns-clause-ran : goal.returns-clause-ran
returns-clause-ran g c =
    let J = Job g.row.C.Denot g.row.K.Denot g.row.G.Denot in
    let s = c.args.script.now in
    let media = c.args.media.now in
    let desk = c.args.desk.now in
    let before = c.args.jobs in
    let after = c.run_jobs.new.jobs in
    let value = c.as_mut_slice.ensures.value in
    let many = c.run_jobs.ensures.many ∙ ap (λ (l : List J). length l) value in
    let same = with_items_is before after (many ∙ sym before.ok.0) in
    let done = subst (λ (l : List J). AreDone g.K.Clock.told s media desk c.args.ports.now l after) value c.run_jobs.ensures.done in
    c.join_jobs.ensures.ran s media (subst (λ (l : List J). AllDone s media desk c.args.workers l) (sym same) (all_done g.K.Clock.told s media desk c.args.ports.now c.args.workers before.items after many done c.requires.roles)) c.if-join_jobs.false c.requires.unused

pub returns-then-join_jobs-clause-timed : goal.returns-then-join_jobs-clause-timed
returns-then-join_jobs-clause-timed g c fits fit x =
    let J = Job g.row.C.Denot g.row.K.Denot g.row.G.Denot in
    let desk = c.args.desk.now in
    let before = c.args.jobs in
    let after = c.run_jobs.new.jobs in
    let value = c.as_mut_slice.ensures.value in
    let many = c.run_jobs.ensures.many ∙ ap (λ (l : List J). length l) value in
    let same = with_items_is before after (many ∙ sym before.ok.0) in
    let done = subst (λ (l : List J). AreDone g.K.Clock.told c.args.script.now c.args.media.now desk c.args.ports.now l after) value c.run_jobs.ensures.done in
    c.join_jobs.ensures.timed fits
    (subst (λ (l : List J). AreInTime desk fits l) (sym same) (all_in_time g.K.Clock.told c.args.script.now c.args.media.now desk c.args.ports.now c.time_stands.ensures fits before.items after many c.requires.new fit done)) x

pub returns-clause-timed : goal.returns-clause-timed
returns-clause-timed g c fits fit x =
    let J = Job g.row.C.Denot g.row.K.Denot g.row.G.Denot in
    let desk = c.args.desk.now in
    let before = c.args.jobs in
    let after = c.run_jobs.new.jobs in
    let value = c.as_mut_slice.ensures.value in
    let many = c.run_jobs.ensures.many ∙ ap (λ (l : List J). length l) value in
    let same = with_items_is before after (many ∙ sym before.ok.0) in
    let done = subst (λ (l : List J). AreDone g.K.Clock.told c.args.script.now c.args.media.now desk c.args.ports.now l after) value c.run_jobs.ensures.done in
    c.join_jobs.ensures.timed fits
    (subst (λ (l : List J). AreInTime desk fits l) (sym same) (all_in_time g.K.Clock.told c.args.script.now c.args.media.now desk c.args.ports.now c.time_stands.ensures fits before.items after many c.requires.new fit done)) x
