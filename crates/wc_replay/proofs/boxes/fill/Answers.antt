use Rattle.std.proofs.Common.{sym, ◌∙◌, option_map}
use Rattle.std.proofs.lemmas.Result.{on_ok_weaker}
use Rattle.codec_core.specs.Job.{missing_id}
use Rattle.wc_replay.specs.Desk.{box_out}
use Rattle.wc_replay.proofs.Desks.{renewed}
use Rattle.wc_replay.proofs.boxes.fill.Goals as goal

pub returns-in-Some-clause-slots : goal.returns-in-Some-clause-slots
returns-in-Some-clause-slots g c =
    on_ok_weaker c.lend.result.1
    (renewed c.args.slots.now c.give.new.slots c.lend.new.slots c.args.by c.in-Some.id (missing_id c.args.job) (option_map box_out c.args.job.coder) (option_map box_out c.emptied-job.result.1)
    (sym c.lacks.ensures ∙ c.in-Some.is) c.emptied-job.ensures.slot c.give.ensures) c.lend.ensures.slots
