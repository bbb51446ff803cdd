use Rattle.std.proofs.Common.{rules, ℕ, ◌+◌, List, length, sym, ap, subst, arith}
use Rattle.desk_threads.specs.declared.jobs.Job.{Job}
use Rattle.desk_threads.specs.CallLaws.{named_same}
use Rattle.desk_threads.specs.LongerLaws.{saw_joined}
use Rattle.desk_threads.specs.Parts.{HaveParts}
use Rattle.desk_run.proofs.Goings.{goes_none, goes_then, EachMayJoin, each_may_join, parts_more}
use Rattle.desk_run.proofs.workers.join_all.Goals as goal

pub loop-job-init : goal.loop-job-init
loop-job-init g c =
    let gives = c.into_iter-job-iterator.ensures.into_iter_gives in
    let J = Job g.row.C.Denot g.row.K.Denot g.row.G.Denot in
    record {
      long = search rules;
      goes = goes_none c.args.desk.now c.args.seats.now c.requires.sits;
      parts = λ n has. (n, ap (λ (l : List J). n + length l) gives.0, has);
      rest = subst (λ (l : List J). EachMayJoin c.args.desk.now l) (sym gives.0) (each_may_join c.args.desk.now c.args.jobs.items c.requires.jobs);
    }

pub join_seats-requires-clause-sits : goal.join_seats-requires-clause-sits
join_seats-requires-clause-sits g c κs within = c.loop-job.invariant.goes.sits

pub join_seats-requires-clause-other : goal.join_seats-requires-clause-other
join_seats-requires-clause-other g c κs within =
    let J = Job g.row.C.Denot g.row.K.Denot g.row.G.Denot in
    (subst (λ (l : List J). EachMayJoin c.args.desk.now l) c.in-Some.ensures.steps.0 c.loop-job.invariant.rest).0.ready.sits

pub loop-job-preserved : goal.loop-job-preserved
loop-job-preserved g c =
    let J = Job g.row.C.Denot g.row.K.Denot g.row.G.Denot in
    let desk = c.args.desk.now in
    let i = c.loop-job.invariant in
    let steps = c.in-Some.ensures.steps.0 in
    let short = ap (λ (l : List J). length l) steps in
    let d = subst (λ (l : List J). EachMayJoin desk l) steps i.rest in
    let e = c.join_seats.ensures in
    let a = c.loop-job.seats in
    let b = c.join_seats.new.seats in
    record {
      long = omega (arith, short, c.in-Some.ensures.steps.1, i.long);
      goes = goes_then desk c.args.seats.now a b i.goes (record {
        sits = e.sits;
        seen = saw_joined desk a _ b e.joined;
        balanced = λ x. e.balanced x d.0.ready.balanced;
        order = λ x. c.order_stands.ensures.joined desk a _ b e.joined x d.0.order;
        calls = λ calls was. named_same desk a _ b calls e.joined was d.0.uncalled;
        runs = λ none. e.runs none d.0.ready.runs;
      });
      parts = λ n has. (let p = i.parts n has in (p.0 + 1, parts_more p.0 n (length c.args.jobs.items) _ _ p.1 short, e.parts p.0 1 p.2 d.0.ready.one));
      rest = d.1;
    }

pub returns-clause-goes : goal.returns-clause-goes
returns-clause-goes g c = c.loop-job.invariant.goes

pub returns-clause-parts : goal.returns-clause-parts
returns-clause-parts g c n has =
    let i = c.loop-job.invariant in
    let p = i.parts n has in
    let none = c.in-None.ensures.steps.0 in
    let long = i.long in
    let is = p.1 in
    subst (λ (m : ℕ). HaveParts m c.loop-job.seats) (omega (arith, none, long, is)) p.2
