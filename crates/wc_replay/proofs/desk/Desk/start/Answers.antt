use Rattle.std.proofs.Common.{Option, length, sym, subst}
use Rattle.std.specs.Prelude.{Some}
use Rattle.wc_base.specs.declared.who.By.{By}
use Rattle.codec_accounts.specs.Codec.{CodecValue, next_by, IsGivable}
use Rattle.codec_core.specs.{Codec.state_at, Job.JobValue}
use Rattle.codec_model.specs.Control.{start_item}
use Rattle.wc_replay.specs.Desk.{box_of}
use Rattle.std.proofs.lemmas.Result.{IfOk-at_ok}
use Rattle.run_model.specs.Follow.{start_entry}
use Rattle.wc_replay.proofs.Desks.{seen, makes_seen, started_makes, some_item, idle_job}
use Rattle.wc_replay.proofs.desk.Desk.start.Goals as goal

pub fill-job-requires-clause-givable : goal.fill-job-requires-clause-givable
fill-job-requires-clause-givable g c κs within =
    let d = c.self.inside in
    let k = c.args.codec in
    let core = d.core.codec in
    let said = c.in-Some.ensures in
    let item = some_item (start_item (state_at core).control) c.in-Some.job.number c.in-Some.job.work said.item in
    let idle = idle_job (state_at core) d.job item.0 c.self.invariant.matches item.1 in
    let here = subst (λ (v : CodecValue). IsGivable c.args.slots.now.history (next_by k v) v.holding.box) (sym c.self.view_is) c.requires.givable in
    rw (said.coder, c.place-place.ensures, said.place) (subst (λ (o : Option JobValue). IsGivable c.args.slots.now.history (By.Codec k (length core.history)) (box_of core.slot o)) idle here)

pub returns : goal.returns
returns g c = λ m.
    let d = c.self.inside in
    let said = c.in-Some.ensures in
    makes_seen c.args.codec (λ v. start_entry v) c.args.slots.now c.fill-job.new.slots m m (seen d.core.codec d.job d.refusal) c.args.self.now (seen c.start.new.self.codec (Some c.fill-job.result.0) c.in_ok-self-inside.field-0) c.self.view_is
    (started_makes c.args.codec d.core.codec c.start.new.self.codec d.job d.refusal c.in_ok-self-inside.field-0 c.in-Some.job c.fill-job.result.0 c.place-place.result c.args.slots.now c.fill-job.new.slots m c.self.invariant said.epoch said.place said.item said.coder said.lacks c.place-place.ensures said.some
    (IfOk-at_ok _ c.in_ok-self-inside.was c.fill-job.ensures.holding) (IfOk-at_ok _ c.in_ok-self-inside.was c.fill-job.ensures.slots))
