use Rattle.std.proofs.Common.{[], Some, Option, List, sym, subst, ◌∙◌}
use Rattle.coder_api.specs.declared.slot.SlotEntry.{SlotEntry}
use Rattle.wc_config.specs.declared.codec.CoderId.{CoderId}
use Rattle.seat_lock.specs.Logs.{entries_of}
use Rattle.shared_codec.specs.declared.workers.Lack.TheVariants as lack
use Rattle.shared_codec.specs.Workers.{LackIs}
use Rattle.shared_codec.specs.WorkLaws.{refusal_at}
use Rattle.shared_codec.proofs.codec.SharedCodec.try_once.Goals as goal

pub returns-in-Refused-clause-lack : goal.returns-in-Refused-clause-lack
returns-in-Refused-clause-lack g c =
    let miss = sym c.lacks.ensures ∙ c.in-Some.is in
    subst (λ (z : Option CoderId × List SlotEntry). LackIs (entries_of c.acquire_once.new.slot_seat.me.0.log) z.0 z.1 (Some (lack.NoSlot c.in-Refused.place))) (λ i. (sym miss i, sym c.one_acquire-in-Refused.ensures i))
    (refusal_at c.args.slots.now c.args.self.now.codec c.in-Some.id [] c.in-Refused.entry c.in-Refused.place c.args.job.now c.acquire_once.new.job c.args.slot_seat.now.me.0 c.acquire_once.new.slot_seat.me.0 c.in-Refused.ensures.acquired tt)
