use Rattle.work_moments.specs.declared.gate.Watch.{Watch}
use Rattle.std.proofs.Common.{rules, ◌≡◌, ◌∙◌, ◌∷◌, ◌++◌, [], map, ℕ, List, Some, length, length-append, refl, sym, ap, subst, arith}
use Rattle.std.specs.Prelude.{slice_get}
use Rattle.wc_run.specs.declared.jobs.Job.{Job}
use Rattle.wc_run.specs.Jobs.{IsNew, AreNew}
use Rattle.wc_run.specs.Ports.{HoldParts}
use Rattle.wc_run.specs.Roles.{role_at}
use Rattle.wc_run.proofs.Lists.{told_more, none_at, more_at}
use Rattle.wc_run.proofs.JobLists.{stays_none, stays_then}
use Rattle.wc_run.proofs.making.make_jobs.Goals as goal

pub loop-watch-init : goal.loop-watch-init
loop-watch-init g c =
    let gives = c.into_iter-watch-iterator.ensures.into_iter_gives in
    let J = Job g.row.C.Denot g.row.K.Denot g.row.G.Denot in
    let W = Watch g.row.K.Denot g.row.G.Denot in
    let empty = c.requires.empty in
    let none = ap (λ (l : List J). length l) empty in
    let all = ap (λ (l : List (Watch g.row.K.Denot g.row.G.Denot)). length l) gives.0 in
    record {
      stays = stays_none c.args.desk.now c.args.seats.now c.requires.sits;
      passes = c.requires.passes;
      unused = λ x. x;
      parts = c.requires.parts;
      left = omega (arith, none);
      new = none_at (λ i j. IsNew c.args.desk.now c.args.ports.now j) c.args.jobs.now.items empty;
      roles = none_at (λ i (j : J). j.role ≡ role_at c.args.workers i) c.args.jobs.now.items empty;
      long = search rules;
      clocks = omega (arith, none, all);
      tells = (λ i. map (λ (j : J). g.K.Clock.told j.watch.clock) (empty i) ++ map (λ (w : W). g.K.Clock.told w.clock) (gives.0 i));
      room = refl;
    }

pub role_at-role-requires : goal.role_at-role-requires
role_at-role-requires g c =
    let i = c.loop-watch.invariant in
    let clocks = i.clocks in
    let short = c.requires.short in
    let len : c.len.result ≡ length c.loop-watch.jobs.items = c.len.ensures ∙ c.loop-watch.jobs.ok.0 in
    omega (arith, clocks, short, len)

pub make_job-requires-clause-sits : goal.make_job-requires-clause-sits
make_job-requires-clause-sits g c κs within = c.loop-watch.invariant.stays.sits

pub make_job-requires-clause-passes : goal.make_job-requires-clause-passes
make_job-requires-clause-passes g c κs within = c.loop-watch.invariant.passes

pub make_job-requires-clause-parts : goal.make_job-requires-clause-parts
make_job-requires-clause-parts g c κs within = c.loop-watch.invariant.parts

pub make_job-requires-clause-two : goal.make_job-requires-clause-two
make_job-requires-clause-two g c κs within =
    let i = c.loop-watch.invariant in
    let short = ap (λ (l : List (Watch g.row.K.Denot g.row.G.Denot)). length l) c.in-Some.ensures.steps.0 in
    let few = c.requires.few in
    let left = i.left in
    let clocks = i.clocks in
    omega (arith, left, clocks, short, few)

pub loop-watch-preserved : goal.loop-watch-preserved
loop-watch-preserved g c =
    let J = Job g.row.C.Denot g.row.K.Denot g.row.G.Denot in
    let W = Watch g.row.K.Denot g.row.G.Denot in
    let i = c.loop-watch.invariant in
    let e = c.in-Ok.ensures in
    let p = c.push_reserved.ensures in
    let job = c.in-Ok.job in
    let xs = c.loop-watch.jobs.items in
    let steps = c.in-Some.ensures.steps in
    let short = ap (λ (l : List (Watch g.row.K.Denot g.row.G.Denot)). length l) steps.0 in
    let many = ap (λ (l : List J). length l) p.items ∙ length-append xs (job ∷ []) in
    let few = c.requires.few in
    let fewer = e.parts.seats.pool in
    let left = i.left in
    let clocks = i.clocks in
    let long = i.long in
    let step = steps.1 in
    record {
      stays = stays_then c.args.desk.now c.args.seats.now c.loop-watch.seats c.make_job.new.seats i.stays c.make_job.ensures.stays;
      passes = c.make_job.ensures.passes;
      unused = λ x. c.make_job.ensures.unused (i.unused x);
      parts = subst (λ (n : ℕ). HoldParts n c.make_job.new.seats c.make_job.new.passes.items) (sym e.parts.seats.pool) e.parts;
      left = omega (arith, many, left, clocks, short, few, fewer);
      new = subst (λ (l : List J). AreNew c.args.desk.now c.args.ports.now l) (sym p.items) (more_at (λ i j. IsNew c.args.desk.now c.args.ports.now j) xs job e.new i.new);
      roles = subst (λ (l : List J). (i : ℕ) (j : J) → slice_get l i ≡ Some j → j.role ≡ role_at c.args.workers i) (sym p.items) (more_at (λ i (j : J). j.role ≡ role_at c.args.workers i) xs job (e.role ∙ (c.role_at-role.ensures ∙ ap (role_at c.args.workers) (c.len.ensures ∙ c.loop-watch.jobs.ok.0))) i.roles);
      long = omega (arith, short, step, long);
      clocks = omega (arith, many, short, clocks);
      tells = told_more (λ (j : J). g.K.Clock.told j.watch.clock) (λ (w : W). g.K.Clock.told w.clock) xs _ job _ _ c.in-Some.watch _ p.items steps.0 (ap (λ (w : W). g.K.Clock.told w.clock) e.watch) i.tells;
      room = p.capacity ∙ i.room;
    }

pub returns-clause-clocks : goal.returns-clause-clocks
returns-clause-clocks g c = (map (λ (w : Watch g.row.K.Denot g.row.G.Denot). g.K.Clock.told w.clock) _, c.loop-watch.invariant.tells)

pub returns-in_default-clause-unused : goal.returns-in_default-clause-unused
returns-in_default-clause-unused g c x = c.make_job.ensures.unused (c.loop-watch.invariant.unused x)

pub returns-in_default-clause-clocks : goal.returns-in_default-clause-clocks
returns-in_default-clause-clocks g c = (map (λ (w : Watch g.row.K.Denot g.row.G.Denot). g.K.Clock.told w.clock) _, c.loop-watch.invariant.tells)
