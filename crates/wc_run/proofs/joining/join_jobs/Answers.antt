use Rattle.std.proofs.Common.{rules, ℕ, ◌≡◌, ◌+◌, ◌-◌, false, List, length, refl, sym, ap, subst, ◌∙◌, arith}
use Rattle.desk_threads.specs.Timely.{InTime}
use Rattle.run_model.specs.declared.run.CallerTrace.{CallerTrace}
use Rattle.wc_run.specs.declared.jobs.Job.{Job}
use Rattle.wc_run.specs.declared.jobs.Role.{Role}
use Rattle.wc_run.specs.Jobs.{IsReady, HasDone}
use Rattle.wc_run.specs.Paid.{IsPaid}
use Rattle.wc_run.specs.Ports.{HoldParts, KnowAll}
use Rattle.wc_run.specs.Roles.{role_at, noted}
use Rattle.wc_run.specs.Threads.{HaveRun}
use Rattle.wc_run.proofs.Passes.{parts_joined}
use Rattle.wc_run.proofs.Together.{AreJoinedTo, join_more, run_none}
use Rattle.wc_run.proofs.Lists.{From, from_start, noted_many}
use Rattle.wc_run.proofs.joining.join_jobs.Goals as goal

pub loop-job-init : goal.loop-job-init
loop-job-init g c =
    let J = Job g.row.C.Denot g.row.K.Denot g.row.G.Denot in
    let desk = c.args.desk.now in
    let gives = c.into_iter-job-iterator.ensures.into_iter_gives in
    let all = ap (λ (l : List J). length l) gives.0 in
    let empty = ap (λ (l : List CallerTrace). length l) c.requires.empty in
    record {
      long = search rules;
      place = omega (arith, all);
      sits = c.requires.sits;
      passes = c.requires.passes;
      parts = λ n has. (n, ap (λ (l : List J). n + length l) gives.0, has);
      runs = λ none. none;
      rest = subst (λ (l : List J). From (λ i j. IsReady desk c.args.ports.now j) 0 l) (sym gives.0) (from_start (λ i j. IsReady desk c.args.ports.now j) c.args.jobs.items c.requires.ready);
      many = omega (arith, empty);
      room = refl;
      timed = λ fits time. (
        subst (λ (l : List J). From (λ i j. InTime fits desk j.seats) 0 l) (sym gives.0) (from_start (λ i (j : J). InTime fits desk j.seats) c.args.jobs.items time),
        λ x. x,
      );
      ran = λ s media done. (
        subst (λ (l : List J). From (λ i j. j.wanted ≡ false → HasDone s media desk (role_at c.args.workers i) j) 0 l) (sym gives.0)
            (from_start (λ i (j : J). j.wanted ≡ false → HasDone s media desk (role_at c.args.workers i) j) c.args.jobs.items done),
        λ paid none own unused any. subst (λ (l : List CallerTrace). HaveRun s media (KnowAll s media c.args.passes.now.items) desk l c.args.seats.now) (sym c.requires.empty) (run_none s media desk c.args.seats.now c.args.passes.now.items unused paid none own),
      );
    }

pub join_seats-requires-clause-sits : goal.join_seats-requires-clause-sits
join_seats-requires-clause-sits g c κs within = c.loop-job.invariant.sits

pub join_seats-requires-clause-other : goal.join_seats-requires-clause-other
join_seats-requires-clause-other g c κs within =
    let J = Job g.row.C.Denot g.row.K.Denot g.row.G.Denot in
    (subst (λ (l : List J). From (λ i j. IsReady c.args.desk.now c.args.ports.now j) c.loop-job.place l) c.in-Some.ensures.steps.0 c.loop-job.invariant.rest).0.sits

pub join_passes-requires : goal.join_passes-requires
join_passes-requires g c =
    let J = Job g.row.C.Denot g.row.K.Denot g.row.G.Denot in
    let ready = (subst (λ (l : List J). From (λ i j. IsReady c.args.desk.now c.args.ports.now j) c.loop-job.place l) c.in-Some.ensures.steps.0 c.loop-job.invariant.rest).0 in
    record { passes = (c.args.desk.now.pool, c.loop-job.invariant.passes, ready.passes) }

pub role_at-requires : goal.role_at-requires
role_at-requires g c =
    let J = Job g.row.C.Denot g.row.K.Denot g.row.G.Denot in
    let short = ap (λ (l : List J). length l) c.in-Some.ensures.steps.0 in
    let place = c.loop-job.invariant.place in
    let few = c.requires.few in
    omega (arith, short, place, few)

pub note-requires : goal.note-requires
note-requires g c =
    let J = Job g.row.C.Denot g.row.K.Denot g.row.G.Denot in
    let i = c.loop-job.invariant in
    let short = ap (λ (l : List J). length l) c.in-Some.ensures.steps.0 in
    let place = i.place in
    let many = i.many in
    let same = i.room in
    let room = c.requires.room in
    omega (arith, short, place, many, same, room)

pub loop-job-preserved : goal.loop-job-preserved
loop-job-preserved g c =
    let J = Job g.row.C.Denot g.row.K.Denot g.row.G.Denot in
    let i = c.loop-job.invariant in
    let desk = c.args.desk.now in
    let w = c.args.workers in
    let n = c.loop-job.place in
    let ts = c.loop-job.traces.items in
    let job = c.in-Some.job in
    let a = c.loop-job.seats in
    let b = c.join_seats.new.seats in
    let steps = c.in-Some.ensures.steps.0 in
    let short = ap (λ (l : List J). length l) steps in
    let e = c.join_seats.ensures in
    let ready = subst (λ (l : List J). From (λ i j. IsReady desk c.args.ports.now j) n l) steps i.rest in
    let noted_as : c.note.new.traces.items ≡ noted (role_at w n) job.results.items ts = c.note.ensures.noted ∙ ap (λ (r : Role). noted r job.results.items ts) c.role_at.ensures in
    let count = ap (λ (l : List CallerTrace). length l) noted_as in
    let more = noted_many w n job.results.items ts i.many in
    let place = i.place in
    let ps = c.loop-job.passes.items in
    let qs = c.join_passes.new.passes.items in
    let passes = c.join_passes.ensures.passes desk.pool i.passes in
    let take : AreJoinedTo ps job.passes.items qs = record { many = i.passes.many ∙ sym passes.many; others = ready.0.passes.many ∙ sym passes.many; both = c.join_passes.ensures.joined } in
    record {
      long = omega (arith, short, c.in-Some.ensures.steps.1, i.long);
      place = omega (arith, short, place);
      sits = e.sits;
      passes = passes;
      parts = λ k has. (
          let p = i.parts k has in
          let is = p.1 in
          (p.0 + 1, omega (arith, is, short), record { seats = e.parts p.0 1 p.2.seats ready.0.one.seats; passes = parts_joined p.0 1 ps job.passes.items qs take.many take.others take.both p.2.passes ready.0.one.passes })
          );
      runs = λ none. e.runs (i.runs none) ready.0.runs;
      rest = ready.1;
      many = omega (arith, count, more);
      room = c.note.ensures.room ∙ i.room;
      timed = λ fits time. (
          let r = i.timed fits time in
          let d = subst (λ (l : List J). From (λ i j. InTime fits desk j.seats) n l) steps r.0 in
          (d.1, λ x. c.time_stands.ensures.joined fits desk a job.seats b e.joined (r.1 x) d.0)
          );
      ran = λ s media done. (
          let r = i.ran s media done in
          let d = subst (λ (l : List J). From (λ i j. j.wanted ≡ false → HasDone s media desk (role_at w i) j) n l) steps r.0 in (
            d.1,
            λ paid none own unused any. (
                let both = c.either-any.ensures any in
                let x : HaveRun s media (KnowAll s media ps) desk ts a = r.1 paid none own unused both.0 in
                let y : HasDone s media desk (role_at w n) job = d.0 both.1 in
                let now : IsPaid desk b = record { balanced = e.balanced x.paid.balanced y.paid.balanced; ordered = c.order_stands.ensures.joined desk a job.seats b e.joined x.paid.ordered y.paid.ordered } in
                subst (λ (l : List CallerTrace). HaveRun s media (KnowAll s media qs) desk l b) (sym noted_as) (join_more s media desk n w ts job a b ps qs i.many e.joined take now y.did x)
                ),
          ));
    }

pub returns-clause-sits : goal.returns-clause-sits
returns-clause-sits g c = c.loop-job.invariant.sits

pub returns-clause-passes : goal.returns-clause-passes
returns-clause-passes g c = c.loop-job.invariant.passes

pub returns-clause-parts : goal.returns-clause-parts
returns-clause-parts g c n has =
    let i = c.loop-job.invariant in
    let p = i.parts n has in
    let none = c.in-None.ensures.steps.0 in
    let long = i.long in
    let is = p.1 in
    subst (λ (m : ℕ). HoldParts m c.loop-job.seats c.loop-job.passes.items) (omega (arith, none, long, is)) p.2

pub returns-clause-runs : goal.returns-clause-runs
returns-clause-runs g c none = c.loop-job.invariant.runs none

pub returns-clause-many : goal.returns-clause-many
returns-clause-many g c =
    let i = c.loop-job.invariant in
    let none = c.in-None.ensures.steps.0 in
    let long = i.long in
    let place = i.place in
    let many = i.many in
    let all : c.loop-job.place ≡ length c.args.jobs.items = omega (arith, none, long, place) in
    many ∙ ap (λ (n : ℕ). n - (c.args.workers + 1)) all

pub returns-clause-timed : goal.returns-clause-timed
returns-clause-timed g c fits time x = (c.loop-job.invariant.timed fits time).1 x

pub returns-clause-ran : goal.returns-clause-ran
returns-clause-ran g c s media done none unused paid called own = (c.loop-job.invariant.ran s media done).1 paid called own unused none
