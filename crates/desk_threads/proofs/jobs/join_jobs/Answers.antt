use Rattle.std.proofs.Common.{rules, ℕ, ◌+◌, List, length, sym, ap, subst, arith}
use Rattle.desk_threads.specs.declared.jobs.Job.{Job}
use Rattle.desk_threads.specs.CallLaws.{named_same}
use Rattle.desk_threads.specs.LongerLaws.{saw_same, saw_then, saw_joined}
use Rattle.desk_threads.specs.Parts.{HaveParts}
use Rattle.desk_threads.proofs.Joining.{AllReady, AllUncalled, all_ready, all_uncalled, parts_more}
use Rattle.desk_threads.proofs.jobs.join_jobs.Goals as goal

pub loop-job-init : goal.loop-job-init
loop-job-init g c =
    let gives = c.into_iter-job-iterator.ensures.into_iter_gives in
    let J = Job g.row.C.Denot g.row.K.Denot g.row.G.Denot in
    record {
      long = search rules;
      sits = c.requires.sits;
      parts = λ n has. (n, ap (λ (l : List J). n + length l) gives.0, has);
      balanced = λ x. x;
      calls = λ none calls was. was;
      uncalled = λ none. subst (λ (l : List J). AllUncalled c.args.desk.now l) (sym gives.0) (all_uncalled c.args.desk.now c.args.jobs.items none);
      runs = λ none. none;
      seen = saw_same c.args.desk.now c.args.seats.now c.requires.sits;
      rest = subst (λ (l : List J). AllReady c.args.desk.now l) (sym gives.0) (all_ready c.args.desk.now c.args.jobs.items c.requires.jobs);
    }

pub join_seats-requires-clause-sits : goal.join_seats-requires-clause-sits
join_seats-requires-clause-sits g c κs within = c.loop-job.invariant.sits

pub join_seats-requires-clause-other : goal.join_seats-requires-clause-other
join_seats-requires-clause-other g c κs within =
    let J = Job g.row.C.Denot g.row.K.Denot g.row.G.Denot in
    (subst (λ (l : List J). AllReady c.args.desk.now l) c.in-Some.ensures.steps.0 c.loop-job.invariant.rest).0.sits

pub loop-job-preserved : goal.loop-job-preserved
loop-job-preserved g c =
    let J = Job g.row.C.Denot g.row.K.Denot g.row.G.Denot in
    let i = c.loop-job.invariant in
    let steps = c.in-Some.ensures.steps.0 in
    let short = ap (λ (l : List J). length l) steps in
    let d = subst (λ (l : List J). AllReady c.args.desk.now l) steps i.rest in
    let e = c.join_seats.ensures in
    record {
      long = omega (arith, short, c.in-Some.ensures.steps.1, i.long);
      sits = e.sits;
      parts = λ n has. (let p = i.parts n has in (p.0 + 1, parts_more p.0 n (length c.args.jobs.items) _ _ p.1 short, e.parts p.0 1 p.2 d.0.one));
      balanced = λ x. e.balanced (i.balanced x) d.0.balanced;
      calls = λ none calls was. named_same c.args.desk.now c.loop-job.seats _ c.join_seats.new.seats calls e.joined (i.calls none calls was) (subst (λ (l : List J). AllUncalled c.args.desk.now l) steps (i.uncalled none)).0;
      uncalled = λ none. (subst (λ (l : List J). AllUncalled c.args.desk.now l) steps (i.uncalled none)).1;
      runs = λ none. e.runs (i.runs none) d.0.runs;
      seen = saw_then c.args.desk.now c.args.seats.now c.loop-job.seats c.join_seats.new.seats i.seen (saw_joined c.args.desk.now c.loop-job.seats _ c.join_seats.new.seats e.joined);
      rest = d.1;
    }

pub returns-clause-sits : goal.returns-clause-sits
returns-clause-sits g c = c.loop-job.invariant.sits

pub returns-clause-parts : goal.returns-clause-parts
returns-clause-parts g c n has =
    let i = c.loop-job.invariant in
    let p = i.parts n has in
    let none = c.in-None.ensures.steps.0 in
    let long = i.long in
    let is = p.1 in
    subst (λ (m : ℕ). HaveParts m c.loop-job.seats) (omega (arith, none, long, is)) p.2

pub returns-clause-balanced : goal.returns-clause-balanced
returns-clause-balanced g c x = c.loop-job.invariant.balanced x

pub returns-clause-runs : goal.returns-clause-runs
returns-clause-runs g c none = c.loop-job.invariant.runs none

pub returns-clause-calls : goal.returns-clause-calls
returns-clause-calls g c none calls was = c.loop-job.invariant.calls none calls was

pub returns-clause-seen : goal.returns-clause-seen
returns-clause-seen g c = c.loop-job.invariant.seen
