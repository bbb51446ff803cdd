use Rattle.std.proofs.Common.{rules, ◌∙◌, length, refl, subst}
use Rattle.std.proofs.lemmas.Option.{get_or_from_slice_get, slice_get_read, slice_get_within}
use Rattle.wc_run.specs.declared.jobs.Job.{Job}
use Rattle.wc_run.specs.Jobs.{IsDone}
use Rattle.wc_run.proofs.jobs.run_jobs.Goals as goal

pub for_each_mut-requires-clause-accepts : goal.for_each_mut-requires-clause-accepts
for_each_mut-requires-clause-accepts g c κs within i p lt is = (
  (c.requires.runnable, (c.requires.desk, (c.requires.ports, c.requires.new i p.now (slice_get_read c.args.jobs.now (length c.args.jobs.now) i p.now refl lt is)))),
  (search rules, search rules, search rules, search rules),
)

pub returns-clause-many : goal.returns-clause-many
returns-clause-many g c = c.for_each_mut.auto.s

pub returns-clause-done : goal.returns-clause-done
returns-clause-done g c i was job at there =
    let J = Job g.row.C.Denot g.row.K.Denot g.row.G.Denot in
    let e = (c.for_each_mut.ensures i was (slice_get_within c.args.jobs.now i was at)).1 in
    let old = e.argument_is ∙ get_or_from_slice_get c.args.jobs.now i was was at in
    let now = e.left ∙ get_or_from_slice_get c.for_each_mut.new.s i job was there in
    subst (λ (z : J × J). IsDone g.K.Clock.told c.args.script.now c.args.media.now c.args.desk.now c.args.ports.now z.0 z.1) (λ n. (old n, now n)) e.call
