-- Logs that begin with others, and what looks tell of them.
use Rattle.std.proofs.Common.{ℕ, [], ◌∷◌, ◌++◌, Option, ap, ◌∙◌, append_assoc}
use Rattle.atomic_table.specs.declared.shared.Seat.{Seat}
use Rattle.seat_lock.specs.Seats.{Sitting}
use Rattle.wc_base.specs.Views.{Log}
use Rattle.wc_base.specs.declared.seat.Passage.TheVariants.{Look}
use Rattle.wc_base.specs.declared.seat.View.{View}
use Rattle.codec_logs.specs.declared.event.Event.{Event}
use Rattle.shared_codec.specs.Looks.{EndTells, Saw}
use Rattle.shared_codec.specs.Shared.{Shared}
use Rattle.flush_promise.specs.Ends.{ended_state}
use Rattle.flush_promise.specs.declared.promise.FlushEnd.{FlushEnd}
use Rattle.flush_future.specs.Polls.{BeginsWith, MayEndAs}

pub begins_then : (a b c : Log Event) → BeginsWith b a → BeginsWith c b → BeginsWith c a
begins_then a b c h k = (h.0 ++ k.0, k.1 ∙ (ap (λ (l : Log Event). l ++ k.0) h.1 ∙ append_assoc a h.0 k.0))

pub ends_go_on : (s : Shared) (place : ℕ) (seen later : Log Event) (end : FlushEnd) → BeginsWith later seen → MayEndAs s place later end → MayEndAs s place seen end
ends_go_on s place seen later end h k = record { log = k.log; begins = begins_then seen later k.log h k.begins; legal = k.legal; ended = k.ended }

module _ {S : Type 0} where
  -- a look leaves its seat with a log that begins with what the seat had seen
  pub look_goes_on : (s : Shared) (P : Log Event → Type 0) (a b : Seat (Option S) (View Event)) → Saw s P a b → BeginsWith b.me.0.log a.me.0.log
  look_goes_on s P a b h =
      let p = h.looked.passes in
      (p.continues.more ++ (a.me.0.number, Look) ∷ [], ap (λ (m : Sitting S Event). m.0.log) p.view ∙ (ap (λ (l : Log Event). l ++ (a.me.0.number, Look) ∷ []) p.continues.is ∙ append_assoc a.me.0.log p.continues.more ((a.me.0.number, Look) ∷ [])))

  -- an end that a look told may be seen by who has seen what the seat had
  pub may_end : (s : Shared) (place : ℕ) (end : FlushEnd) (a b : Seat (Option S) (View Event)) → EndTells s place (ended_state end) a b → MayEndAs s place a.me.0.log end
  may_end s place end a b h = record { log = h.looked.passes.log; begins = (h.looked.passes.continues.more, h.looked.passes.continues.is); legal = h.looked.legal; ended = h.is }
