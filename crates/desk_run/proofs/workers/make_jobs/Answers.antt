use Rattle.work_moments.specs.declared.gate.Watch.{Watch}
use Rattle.std.proofs.Common.{rules, ◌∙◌, ◌∷◌, [], ℕ, List, length, length-append, refl, sym, ap, subst, arith}
use Rattle.desk_threads.specs.declared.jobs.Job.{Job}
use Rattle.desk_threads.specs.Parts.{HaveParts}
use Rattle.desk_run.specs.Going.{MayJoin, AllMayJoin}
use Rattle.desk_run.proofs.Goings.{goes_none, goes_then}
use Rattle.desk_run.proofs.Lists.{none_of_none, snoc_each}
use Rattle.desk_run.proofs.workers.make_jobs.Goals as goal

pub loop-watch-init : goal.loop-watch-init
loop-watch-init g c =
    let gives = c.into_iter-watch-iterator.ensures.into_iter_gives in
    let J = Job g.row.C.Denot g.row.K.Denot g.row.G.Denot in
    let empty = c.requires.empty in
    let none = ap (λ (l : List J). length l) empty in
    let all = ap (λ (l : List (Watch g.row.K.Denot g.row.G.Denot)). length l) gives.0 in
    record {
      goes = goes_none c.args.desk.now c.args.seats.now c.requires.sits;
      parts = c.requires.parts;
      left = omega (arith, none);
      joins = none_of_none (λ (j : J). MayJoin c.args.desk.now j) c.args.jobs.now.items empty;
      long = search rules;
      clocks = omega (arith, none, all);
      room = refl;
    }

pub make_job-requires-clause-two : goal.make_job-requires-clause-two
make_job-requires-clause-two g c =
    let i = c.loop-watch.invariant in
    let short = ap (λ (l : List (Watch g.row.K.Denot g.row.G.Denot)). length l) c.in-Some.ensures.steps.0 in
    let few = c.requires.few in
    let left = i.left in
    let clocks = i.clocks in
    omega (arith, left, clocks, short, few)

pub loop-watch-preserved : goal.loop-watch-preserved
loop-watch-preserved g c =
    let J = Job g.row.C.Denot g.row.K.Denot g.row.G.Denot in
    let i = c.loop-watch.invariant in
    let e = c.in-Ok.ensures in
    let p = c.push_reserved.ensures in
    let job = c.in-Ok.job in
    let xs = c.loop-watch.jobs.items in
    let steps = c.in-Some.ensures.steps in
    let short = ap (λ (l : List (Watch g.row.K.Denot g.row.G.Denot)). length l) steps.0 in
    let many = ap (λ (l : List J). length l) p.items ∙ length-append xs (job ∷ []) in
    let few = c.requires.few in
    let fewer = e.parts.pool in
    let left = i.left in
    let clocks = i.clocks in
    let long = i.long in
    let step = steps.1 in
    record {
      goes = goes_then c.args.desk.now c.args.seats.now c.loop-watch.seats c.make_job.new.seats i.goes e.goes;
      parts = subst (λ (n : ℕ). HaveParts n c.make_job.new.seats) (sym e.parts.pool) e.parts;
      left = omega (arith, many, left, clocks, short, few, fewer);
      joins = subst (λ (l : List J). AllMayJoin c.args.desk.now l) (sym p.items) (snoc_each (λ (j : J). MayJoin c.args.desk.now j) xs job e.joins i.joins);
      long = omega (arith, short, step, long);
      clocks = omega (arith, many, short, clocks);
      room = p.capacity ∙ i.room;
    }
