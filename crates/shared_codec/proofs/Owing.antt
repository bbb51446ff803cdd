-- What each call of a shared codec calls for, by what it tells.
use Rattle.std.proofs.Common.{ℕ, ◌≡◌, cond, List, [], ◌∷◌, ◌++◌, map, Option, Some, None, refl, ap, subst, ◌∙◌}
use Rattle.std.specs.Prelude.{Result, Ok, Err}
use Rattle.atomic_table.specs.declared.shared.Seat.{Seat}
use Rattle.wc_base.specs.declared.error.NoMemory.{NoMemory}
use Rattle.wc_base.specs.declared.seat.Passage.TheVariants.{Made, Look}
use Rattle.wc_base.specs.declared.seat.View.{View}
use Rattle.wc_base.specs.declared.who.Who.{Who}
use Rattle.wc_base.specs.Views.{Log}
use Rattle.wc_config.specs.declared.codec.CoderId.{CoderId}
use Rattle.wc_config.specs.Configs.{coder_id_of}
use Rattle.wc_pool.specs.declared.entry.PoolOp.{PoolOp}
use Rattle.wc_pool.specs.declared.reference.MediaRef.{MediaRef}
use Rattle.coder_api.specs.Lent.{Lent}
use Rattle.coder_api.specs.declared.slot.SlotEntry.{SlotEntry}
use Rattle.codec_model.specs.declared.entry.{Entry.Entry, Call.Call, Pair.Pair}
use Rattle.codec_model.specs.Held.{adds_held}
use Rattle.codec_core.specs.Job.{JobValue, DoneValue, outcome_of}
use Rattle.codec_media.specs.Holding.{ReplyValue, RemovedValue, TurnedValue, EndedValue, pair_of}
use Rattle.codec_logs.specs.declared.event.Event.{Event}
use Rattle.codec_logs.specs.Logs.{Track, opening_track, track, track_from, IsLog}
use Rattle.codec_logs.specs.LogLaws.{track_append, follows_rest, item_stays}
use Rattle.shared_codec.specs.Shared.{Shared, MadeIn, LookedIn, MayEnd, no_mint, no_spend}
use Rattle.shared_codec.specs.Calls.{GaveIn, MayAlways, CallTells, TurnTells, ReclaimTells}
use Rattle.shared_codec.specs.Dues.{OwedSince, slot_dues, media_dues, clones_at, ends_at, gives_of}
use Rattle.shared_codec.specs.DueLaws.{owed_passage}
use Rattle.shared_codec.specs.Jobs.{StartTells, DoneIn}
use Rattle.shared_codec.specs.Owes.{Owes, OwesBack, CallOwes, TurnOwes, ReclaimOwes, StartOwes, DoneOwes}
use Rattle.shared_codec.specs.Takes.{TakeTells}
use Rattle.shared_codec.specs.Told.{Ending, ending_of, asked_in, ending_in, end_dues}
use Rattle.shared_codec.proofs.Taken.{brings_none}

module _ {S : Type 0} (s : Shared) where
  pub look_owes : (a b : Seat (Option S) (View Event)) → LookedIn s a b → Owes s [] [] [] a.me.0 b.me.0
  look_owes a b looked = record {
    slots = owed_passage slot_dues s.codec s.opening no_mint no_spend Look a b looked.passes;
    pool = owed_passage media_dues s.codec s.opening no_mint no_spend Look a b looked.passes;
    ended = owed_passage end_dues s.codec s.opening no_mint no_spend Look a b looked.passes;
  }

  pub made_owes : (e : Entry) (acquires entries : List SlotEntry) (calls : List (ℕ × PoolOp)) (ends : List Ending) (a b : Seat (Option S) (View Event)) (made : MadeIn s e acquires a b) → slot_dues s.codec made.event (track s.opening made.passes.log) ≡ entries → media_dues s.codec made.event (track s.opening made.passes.log) ≡ calls → ending_in e acquires (track s.opening made.passes.log) ≡ ends → Owes s entries calls ends a.me.0 b.me.0
  made_owes e acquires entries calls ends a b made slots pool is = record {
    slots = subst (λ (l : List SlotEntry). OwedSince slot_dues s.codec s.opening a.me.0 b.me.0 l) slots (owed_passage slot_dues s.codec s.opening no_mint no_spend (Made made.event) a b made.passes);
    pool = subst (λ (l : List (ℕ × PoolOp)). OwedSince media_dues s.codec s.opening a.me.0 b.me.0 l) pool (owed_passage media_dues s.codec s.opening no_mint no_spend (Made made.event) a b made.passes);
    ended = subst (λ (l : List Ending). OwedSince end_dues s.codec s.opening a.me.0 b.me.0 l) ((λ i. ending_in (made.entry_is i) (made.acquires_are i) (track s.opening made.passes.log)) ∙ is)
        (owed_passage end_dues s.codec s.opening no_mint no_spend (Made made.event) a b made.passes);
  }

  -- an entry that brings no reference
  pub gave_owes : (e : Entry) (place : ℕ) (media : List MediaRef) (coder : Option Lent) (a b : Seat (Option S) (View Event)) → adds_held e ≡ [] → ((x : Track) → ending_in e [] x ≡ []) → GaveIn s e place media coder a b → OwesBack s place media coder a.me.0 b.me.0
  gave_owes e place media coder a b none no_end gave =
      made_owes e [] (gives_of s.codec place coder) (ends_at place (map pair_of media)) [] a b gave.made gave.gives (gave.ends ∙ ap (λ (l : List Pair). clones_at place l ++ ends_at place (map pair_of media)) none) (no_end (track s.opening gave.made.passes.log))

  pub call_owes : (who : Who) (x : Call) (result : Result ReplyValue NoMemory) (a b : Seat (Option S) (View Event)) → MayAlways x → CallTells s who x result a b → CallOwes s result a.me.0 b.me.0
  call_owes who x (Ok r) a b may told = gave_owes (Entry.Call who x) r.place r.media r.coder a b (brings_none s.opening who x may) (λ y. refl) told.gave
  call_owes who x (Err e) a b may told = look_owes a b told.looked

  pub turn_owes : (result : Option TurnedValue) (a b : Seat (Option S) (View Event)) → TurnTells s result a b → TurnOwes s result a.me.0 b.me.0
  turn_owes (Some t) a b told = gave_owes Entry.Turn t.place _ _ a b refl (λ x. refl) told.gave
  turn_owes None a b told = look_owes a b told.looked

  pub reclaim_owes : (now : ℕ) (result : Option RemovedValue) (a b : Seat (Option S) (View Event)) → ReclaimTells s now result a b → ReclaimOwes s result a.me.0 b.me.0
  reclaim_owes now (Some r) a b told = gave_owes (Entry.Reclaim now) r.place r.media r.coder a b refl (λ x. refl) told
  reclaim_owes now None a b told = look_owes a b told.looked

  pub take_owes : (who : Who) (number : ℕ) (result : Result (Option ℕ) NoMemory) (a b : Seat (Option S) (View Event)) → TakeTells s who number result a b → Owes s [] [] [] a.me.0 b.me.0
  take_owes who number (Ok (Some place)) a b told = gave_owes (Entry.Call who (Call.Take number)) place [] None a b refl (λ x. refl) told.gave
  take_owes who number (Ok None) a b told = look_owes a b told.looked
  take_owes who number (Err e) a b told = look_owes a b told.looked

  pub start_owes : (result : Option JobValue) (a b : Seat (Option S) (View Event)) → StartTells s result a b → StartOwes s result a.me.0 b.me.0
  start_owes (Some job) a b told = made_owes (Entry.Start job.epoch job.number) [] _ [] [] a b told.made told.gives told.ends refl
  start_owes None a b told = look_owes a b told.looked

  pub done_owes : (d : DoneValue) (acquires : List SlotEntry) (moment : ℕ) (back : EndedValue) (a b : Seat (Option S) (View Event)) → MayEnd s a.me.0 d acquires → DoneIn s d acquires moment back a b → DoneOwes s d acquires back a.me.0 b.me.0
  done_owes d acquires moment back a b may told =
      let was : Track = track s.opening a.me.0.log in
      let goes = told.made.passes.continues in
      let grown : track s.opening told.made.passes.log ≡ track_from was goes.more = ap (track s.opening) goes.is ∙ track_append (opening_track s.opening) a.me.0.log goes.more in
      let rest = follows_rest s.codec (opening_track s.opening) a.me.0.log goes.more (subst (λ (l : Log Event). IsLog s.codec s.opening l) goes.is told.made.before) in
      let same = item_stays s.codec a.me.0.number a.me.0.numbers was goes.more may.runner may.runs told.made.passes.has_number goes.by_others rest in
      let asked : asked_in (track s.opening told.made.passes.log) ≡ asked_in was = ap asked_in grown ∙ (λ i. cond (same.waits i) (coder_id_of (same.given i).config) None) in
      made_owes _ acquires _ _ _ a b told.made told.gives told.ends (ap (λ (z : Option CoderId). ending_of z acquires (outcome_of d.ended) ∷ []) asked)
