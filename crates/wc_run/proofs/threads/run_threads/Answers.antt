use Rattle.std.proofs.Common.{◌≡◌, ◌^◌, [], ℕ, List, map, refl, sym, subst, ◌∙◌, arith}
use Rattle.std.proofs.lemmas.Result.{IfOk-weaker}
use Rattle.work_moments.specs.Moments.{Telling}
use Rattle.wc_run.specs.declared.jobs.Job.{Job}
use Rattle.wc_run.specs.InTime.{FitEach}
use Rattle.wc_run.specs.Owned.{none_owned}
use Rattle.wc_run.specs.Ports.{HoldParts, KnowAll}
use Rattle.wc_run.specs.Threads.{RunsFrom}
use Rattle.wc_run.proofs.JobLists.{new_ready, new_in_time, fit_front}
use Rattle.wc_run.proofs.threads.run_threads.Goals as goal

pub make_jobs-requires-clause-few : goal.make_jobs-requires-clause-few
make_jobs-requires-clause-few g c κs within =
    let all = c.requires.parts.seats.pool in
    let few = c.requires.few in
    let limit : 2 ^ 32 ≡ 4294967296 = refl in
    omega (arith, all, few, limit)

pub make_jobs-requires-clause-passes : goal.make_jobs-requires-clause-passes
make_jobs-requires-clause-passes g c κs within = c.requires.passes

pub make_jobs-requires-clause-parts : goal.make_jobs-requires-clause-parts
make_jobs-requires-clause-parts g c κs within = subst (λ (n : ℕ). HoldParts n c.args.seats.now c.args.passes.now.items) (sym c.requires.parts.seats.pool) c.requires.parts

pub do_jobs-requires-clause-sits : goal.do_jobs-requires-clause-sits
do_jobs-requires-clause-sits g c κs within = c.make_jobs.ensures.stays.sits

pub do_jobs-requires-clause-passes : goal.do_jobs-requires-clause-passes
do_jobs-requires-clause-passes g c κs within = c.make_jobs.ensures.passes

pub do_jobs-requires-clause-unused : goal.do_jobs-requires-clause-unused
do_jobs-requires-clause-unused g c κs within = c.make_jobs.ensures.unused c.requires.unused

pub do_jobs-requires-clause-new : goal.do_jobs-requires-clause-new
do_jobs-requires-clause-new g c κs within = c.make_jobs.ensures.new

pub do_jobs-requires-clause-roles : goal.do_jobs-requires-clause-roles
do_jobs-requires-clause-roles g c κs within = c.make_jobs.ensures.roles

pub join_jobs-requires-clause-sits : goal.join_jobs-requires-clause-sits
join_jobs-requires-clause-sits g c κs within = c.make_jobs.ensures.stays.sits

pub join_jobs-requires-clause-passes : goal.join_jobs-requires-clause-passes
join_jobs-requires-clause-passes g c κs within = c.make_jobs.ensures.passes

pub join_jobs-requires-clause-ready : goal.join_jobs-requires-clause-ready
join_jobs-requires-clause-ready g c κs within = new_ready c.args.desk.now c.args.ports.now c.make_jobs.new.jobs.items c.make_jobs.ensures.new

pub returns-in-Ok-make_jobs-clause-parts : goal.returns-in-Ok-make_jobs-clause-parts
returns-in-Ok-make_jobs-clause-parts g c =
    let p = c.make_jobs.ensures.parts in
    subst (λ (n : ℕ). HoldParts n c.do_jobs.new.seats c.do_jobs.new.passes.items) (p.2 ∙ c.requires.parts.seats.pool) (c.do_jobs.ensures.parts p.0 p.1)

pub returns-in-Ok-make_jobs-clause-ran : goal.returns-in-Ok-make_jobs-clause-ran
returns-in-Ok-make_jobs-clause-ran g c =
    let s = c.args.script.now in
    let media = c.args.media.now in
    let desk = c.args.desk.now in
    let stays = c.make_jobs.ensures.stays in
    let a = c.args.seats.now in
    let m = c.make_jobs.new.seats in
    let b = c.do_jobs.new.seats in
    let known = KnowAll s media c.do_jobs.new.passes.items in
    IfOk-weaker c.do_jobs.result (λ ts. RunsFrom s media known desk m ts.items b) (λ ts. RunsFrom s media known desk a ts.items b) (λ ts x paid none own. x (stays.paid paid) (stays.calls [] none) (stays.owned none_owned own)) c.do_jobs.ensures.ran

pub returns-in-Err-clause-parts : goal.returns-in-Err-clause-parts
returns-in-Err-clause-parts g c =
    let p = c.make_jobs.ensures.parts in
    subst (λ (n : ℕ). HoldParts n c.join_jobs.new.seats c.join_jobs.new.passes.items) (p.2 ∙ c.requires.parts.seats.pool) (c.join_jobs.ensures.parts p.0 p.1)

pub returns-in-Err-clause-runs : goal.returns-in-Err-clause-runs
returns-in-Err-clause-runs g c none = c.join_jobs.ensures.runs (c.make_jobs.ensures.stays.runs none)

pub returns-in-Ok-make_jobs-clause-timed : goal.returns-in-Ok-make_jobs-clause-timed
returns-in-Ok-make_jobs-clause-timed g c fits fit x =
    let e = c.make_jobs.ensures in
    let all = subst (λ (l : List Telling). FitEach fits l) (sym e.clocks.1) fit in
    c.do_jobs.ensures.timed fits (fit_front fits (map (λ (j : Job g.row.C.Denot g.row.K.Denot g.row.G.Denot). g.K.Clock.told j.watch.clock) c.make_jobs.new.jobs.items) e.clocks.0 all) (e.stays.timed fits x)

pub returns-in-Err-clause-timed : goal.returns-in-Err-clause-timed
returns-in-Err-clause-timed g c fits fit x =
    let e = c.make_jobs.ensures in
    c.join_jobs.ensures.timed fits (new_in_time c.args.desk.now c.args.ports.now fits c.make_jobs.new.jobs.items e.new) (e.stays.timed fits x)
