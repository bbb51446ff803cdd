use Rattle.codec_logs.specs.Logs.{acquires_of}
use Rattle.codec_core.specs.Job.{missing_id}
use Rattle.seat_lock.specs.Logs.{entries_of}
use Rattle.shared_codec.specs.Settles.{settles_work}
use Rattle.shared_codec.specs.WorkLaws.{may_end, end_told}
use Rattle.shared_codec.proofs.codec.SharedCodec.work_once.Goals as goal

pub returns-clause-settles : goal.returns-clause-settles
returns-clause-settles g c =
    settles_work c.args.self.now c.args.seat.now.me.0 c.start_once.new.seat.me.0 c.end_once.new.seat.me.0 c.args.slot_seat.now.me.0 c.start_once.new.slot_seat.me.0 c.try_once-tried.new.slot_seat.me.0 c.end_once.new.slot_seat.me.0 c.args.pool_seat.now.me.0 c.args.pool_seat.now.me.0 c.end_once.new.pool_seat.me.0 (acquires_of c.try_once-tried.result.acquires)
    (c.start_once.ensures.settles c.args.pool_seat.now.me.0) c.try_once-tried.ensures.made c.end_once.ensures.settles

pub end_once-requires-clause-own : goal.end_once-requires-clause-own
end_once-requires-clause-own g c κs within =
    may_end c.args.self.now c.start_once.new.seat.me.0 (missing_id c.in-Some.job) c.try_once-tried.new.job (acquires_of c.try_once-tried.result.acquires) c.work_job-done.result
    c.try_once-tried.ensures.work c.work_job-done.ensures.end c.work_job-done.ensures.same

pub end_once-requires-clause-told : goal.end_once-requires-clause-told
end_once-requires-clause-told g c κs within =
    end_told (entries_of c.try_once-tried.new.slot_seat.me.0.log) c.args.self.now c.start_once.new.seat.me.0 (missing_id c.in-Some.job) c.try_once-tried.new.job (acquires_of c.try_once-tried.result.acquires) c.try_once-tried.result.lack c.work_job-done.result
    c.try_once-tried.ensures.work c.try_once-tried.ensures.lack c.work_job-done.ensures.ends
