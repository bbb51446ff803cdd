-- What starts and ends of items through a shared codec tell.
use Rattle.std.specs.Prelude.{ℕ, ◌≡◌, true, List, [], ◌++◌, length, map, Option, Some, None, is_some}
use Rattle.atomic_table.specs.declared.shared.Seat.{Seat}
use Rattle.wc_base.specs.declared.seat.View.{View}
use Rattle.coder_api.specs.declared.slot.SlotEntry.{SlotEntry}
use Rattle.codec_model.specs.declared.entry.Entry.TheVariants as entry
use Rattle.codec_model.specs.Control.{start_item}
use Rattle.codec_model.specs.Held.{in_order}
use Rattle.codec_core.specs.Job.{JobValue, DoneValue, outcome_of, missing_id}
use Rattle.codec_core.specs.Owning.{GoesBack}
use Rattle.codec_media.specs.Holding.{pair_of, EndedValue}
use Rattle.codec_logs.specs.declared.event.Event.{Event}
use Rattle.codec_logs.specs.Logs.{history_of, track}
use Rattle.shared_pool.specs.Refs.{IfOf}
use Rattle.shared_slots.specs.Boxes.{IfOut}
use Rattle.shared_codec.specs.Dues.{slot_dues, media_dues, ends_at, given_if, gives_of, IsLater}
use Rattle.shared_codec.specs.Shared.{Shared, HasJob, MadeIn, NoneIn, codec_of}

module _ {S : Type 0} where
  -- a start: none where no item may start; else the seat's own item is at work, with this job
  pub record StartedIn (s : Shared) (job : JobValue) (a b : Seat (Option S) (View Event)) : Type 0 where
    pub made : MadeIn s (entry.Start job.epoch job.number) [] a b
    pub has : HasJob s b.me.0 job
    pub is_place : job.place ≡ length (history_of made.passes.log)
    -- where it lacks a box, the one that it came with goes back by this entry
    pub gives : slot_dues s.codec made.event (track s.opening made.passes.log) ≡ given_if s.codec (missing_id job) job.place job.coder
    pub later : is_some (missing_id job) ≡ true → IsLater s.codec job.place job.coder
    pub ends : media_dues s.codec made.event (track s.opening made.passes.log) ≡ []

  abbrev pub StartTells : Shared → Option JobValue → Seat (Option S) (View Event) → Seat (Option S) (View Event) → Type 0
  StartTells s (Some job) a b = StartedIn s job a b
  StartTells s None a b = NoneIn s (λ c. start_item c ≡ None) a b

  -- an end: what it hands back
  pub record DoneIn (s : Shared) (d : DoneValue) (acquires : List SlotEntry) (moment : ℕ) (back : EndedValue) (a b : Seat (Option S) (View Event)) : Type 0 where
    pub made : MadeIn s (entry.Done d.epoch d.number moment (outcome_of d.ended)) acquires a b
    pub is_place : back.place ≡ length (history_of made.passes.log)
    pub media : IfOf s.pool back.media
    pub out : IfOut s.slots back.coder
    pub goes : GoesBack (codec_of s b.me.0.log) back.place back.coder
    pub gives : slot_dues s.codec made.event (track s.opening made.passes.log) ≡ acquires ++ gives_of s.codec back.place back.coder
    pub later : IsLater s.codec back.place back.coder
    -- the reference that it hands back is that of the item that ended
    pub ends : media_dues s.codec made.event (track s.opening made.passes.log) ≡ ends_at back.place (map pair_of (in_order back.media))
