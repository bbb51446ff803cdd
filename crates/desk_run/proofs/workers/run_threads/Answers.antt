use Rattle.std.proofs.Common.{◌∙◌, ℕ, List, length, sym, ap, subst, arith}
use Rattle.std.proofs.lemmas.List.{with_items_is}
use Rattle.desk_threads.specs.declared.jobs.Job.{Job}
use Rattle.desk_threads.specs.Jobs.{AreReady, AreDone}
use Rattle.desk_threads.specs.Parts.{HaveParts}
use Rattle.desk_run.specs.Going.{AllMayJoin}
use Rattle.desk_run.proofs.Goings.{goes_none, goes_then, still_join}
use Rattle.desk_run.proofs.workers.run_threads.Goals as goal

pub run_jobs-requires-after_bounds : goal.run_jobs-requires-after_bounds
run_jobs-requires-after_bounds g c κs within =
    let J = Job g.row.C.Denot g.row.K.Denot g.row.G.Denot in
    let e = c.make_jobs.ensures in
    subst (λ (l : List J). AreReady c.args.desk.now l) (sym c.as_mut_slice.ensures.value) (λ i job at. (e.joins i job at).ready)

pub join_all-requires-clause-jobs : goal.join_all-requires-clause-jobs
join_all-requires-clause-jobs g c κs within =
    let J = Job g.row.C.Denot g.row.K.Denot g.row.G.Denot in
    let desk = c.args.desk.now in
    let before = c.make_jobs.new.jobs in
    let after = c.run_jobs.new.jobs in
    let value = c.as_mut_slice.ensures.value in
    let many = c.run_jobs.ensures.many ∙ ap (λ (l : List J). length l) value in
    let same = with_items_is before after (many ∙ sym before.ok.0) in
    let done = subst (λ (l : List J). AreDone g.K.Clock.told desk l after) value c.run_jobs.ensures.done in
    subst (λ (l : List J). AllMayJoin desk l) (sym same) (still_join desk g.K.Clock.told c.order_stands.ensures before.items after many c.make_jobs.ensures.joins c.run_jobs.ensures.ready done)

pub returns-clause-goes : goal.returns-clause-goes
returns-clause-goes g c = goes_then c.args.desk.now c.args.seats.now c.make_jobs.new.seats c.join_all.new.seats c.make_jobs.ensures.goes c.join_all.ensures.goes

pub returns-clause-parts : goal.returns-clause-parts
returns-clause-parts g c =
    let J = Job g.row.C.Denot g.row.K.Denot g.row.G.Denot in
    let before = c.make_jobs.new.jobs in
    let after = c.run_jobs.new.jobs in
    let p = c.make_jobs.ensures.parts in
    let many = c.run_jobs.ensures.many ∙ ap (λ (l : List J). length l) c.as_mut_slice.ensures.value in
    let same = ap (λ (l : List J). length l) (with_items_is before after (many ∙ sym before.ok.0)) in
    let all = p.2 in
    subst (λ (n : ℕ). HaveParts n c.join_all.new.seats) (omega (arith, all, many, same)) (c.join_all.ensures.parts p.0 p.1)

pub returns-in_default-clause-goes : goal.returns-in_default-clause-goes
returns-in_default-clause-goes g c = goes_none c.args.desk.now c.args.seats.now c.requires.sits
