-- What each call of a shared codec names of callers, by what it tells: a call of a caller is that call; a look, a start, an end, a
-- turn and a reclaim are none.
use Rattle.std.proofs.Common.{ℕ, suc, ◌≡◌, List, [], ◌∷◌, ◌++◌, map, length, Option, Some, None, refl, ap, sym, subst, ◌∙◌}
use Rattle.std.specs.Prelude.{Result, Ok, Err}
use Rattle.atomic_table.specs.declared.shared.Seat.{Seat}
use Rattle.wc_base.specs.declared.error.NoMemory.{NoMemory}
use Rattle.wc_base.specs.declared.seat.Passage.TheVariants.{Made, Look}
use Rattle.wc_base.specs.declared.seat.View.{View}
use Rattle.wc_base.specs.declared.who.Who.{Who}
use Rattle.wc_base.specs.Views.{Log}
use Rattle.wc_pool.specs.declared.entry.PoolEntry.{PoolEntry}
use Rattle.wc_pool.specs.declared.reference.MediaRef.{MediaRef}
use Rattle.coder_api.specs.Lent.{Lent}
use Rattle.coder_api.specs.declared.slot.SlotEntry.{SlotEntry}
use Rattle.codec_model.specs.declared.entry.{Call.Call, Entry.Entry, HeldMedium.HeldMedium, Opening.Opening}
use Rattle.codec_model.specs.Control.{Control}
use Rattle.codec_core.specs.Job.{JobValue, DoneValue}
use Rattle.codec_media.specs.Holding.{ReplyValue, RemovedValue, TurnedValue, EndedValue}
use Rattle.codec_logs.specs.declared.event.Event.{Event}
use Rattle.codec_logs.specs.Logs.{Track, entry_of, history_of, track, track_made, opening_track, IsLog, Follows}
use Rattle.codec_logs.specs.LogLaws.{track_append, follows_more, legal_log}
use Rattle.seat_lock.specs.Logs.{entries_of}
use Rattle.seat_lock.specs.Own.{entries_of-append}
use Rattle.work_moments.specs.Moments.{Telling}
use Rattle.shared_codec.specs.declared.settling.Answer.{Answer}
use Rattle.shared_codec.specs.Shared.{Shared, MadeIn, LookedIn, NoneIn, no_mint, no_spend}
use Rattle.shared_codec.specs.Calls.{GaveIn, CallTells, TurnTells, ReclaimTells}
use Rattle.shared_codec.specs.Dues.{Called, call_in, call_dues, OwedSince}
use Rattle.shared_codec.specs.DueLaws.{owed_none, owed_then, owed_passage}
use Rattle.shared_codec.specs.Encodes.{EncodedIn, NotEncoded}
use Rattle.shared_codec.specs.Jobs.{StartTells, DoneIn}
use Rattle.shared_codec.specs.Looks.{Saw}
use Rattle.shared_codec.specs.Names.{Names, called, calls_in, replied_calls, answered_calls, taken_calls}
use Rattle.shared_codec.specs.Sums.{all_dues}
use Rattle.shared_codec.specs.Settled.{AnswerTells, TurnOnceTells, ReclaimOnceTells}
use Rattle.shared_codec.specs.Takes.{TakeTells}
use Rattle.shared_codec.specs.Workers.{BeginsIn, FinishTells, WorkTells}

pub names_none : (s : Shared) (v : View Event) → Names s [] v v
names_none s v = owed_none call_dues s.codec s.opening v

pub names_then : (s : Shared) (u v w : View Event) (xs ys : List Called) → Names s xs u v → Names s ys v w → Names s (xs ++ ys) u w
names_then s u v w xs ys x y = owed_then call_dues s.codec s.opening u v w xs ys x y

-- ---- the calls in a log are those in its history

one_longer : (es : List Event) (e : Event) → length (map entry_of (es ++ e ∷ [])) ≡ suc (length (map entry_of es))
one_longer [] e = refl
one_longer (x ∷ es) e = ap suc (one_longer es e)

named_from : (k : ℕ) (o : Opening) (m : ℕ) (before rest : Log Event) → length (history_of before) ≡ m → IsLog k o before → Follows k (track o before) rest → all_dues call_dues k (track o before) rest ≡ calls_in k m (history_of rest)
named_from k o m before [] long legal f = refl
named_from k o m before ((n, Look) ∷ ps) long legal f = named_from k o m before ps long legal f.1
named_from k o m before ((n, Made e) ∷ ps) long legal f =
    let after : Log Event = before ++ (n, Made e) ∷ [] in
    let now : track o after ≡ track_made n e (track o before) = track_append (opening_track o) before ((n, Made e) ∷ []) in
    let more : length (history_of after) ≡ suc m = ap (λ (es : List Event). length (map entry_of es)) (entries_of-append before n (Made e)) ∙ (one_longer (entries_of before) e ∙ ap suc long) in
    let place : (track o before).holds.place ≡ m = (legal_log k o before legal).place ∙ long in
    let rest = named_from k o (suc m) after ps more (follows_more k (opening_track o) before ((n, Made e) ∷ []) legal (f.0, tt)) (subst (λ (y : Track). Follows k y ps) (sym now) f.1) in
    let behind = ap (λ (y : Track). all_dues call_dues k y ps) (sym now) ∙ rest in
    (λ i. call_in k (place i) (entry_of e) ++ behind i)

pub calls_in_log : (k : ℕ) (o : Opening) (log : Log Event) → IsLog k o log → all_dues call_dues k (opening_track o) log ≡ calls_in k 0 (history_of log)
calls_in_log k o log f = named_from k o 0 [] log refl tt f

module _ {S : Type 0} (s : Shared) where
  -- ---- looks

  pub looked_names : (a b : Seat (Option S) (View Event)) → LookedIn s a b → Names s [] a.me.0 b.me.0
  looked_names a b looked = owed_passage call_dues s.codec s.opening no_mint no_spend Look a b looked.passes

  pub saw_names : (P : Log Event → Type 0) (a b : Seat (Option S) (View Event)) → Saw s P a b → Names s [] a.me.0 b.me.0
  saw_names P a b seen = looked_names a b seen.looked

  pub idle_names : (P : Control → Type 0) (a b : Seat (Option S) (View Event)) → NoneIn s P a b → Names s [] a.me.0 b.me.0
  idle_names P a b none = looked_names a b none.looked

  -- ---- entries

  pub made_names : (e : Entry) (acquires : List SlotEntry) (a b : Seat (Option S) (View Event)) (made : MadeIn s e acquires a b) → Names s (call_in s.codec (length (history_of made.passes.log)) e) a.me.0 b.me.0
  made_names e acquires a b made =
      let place = (legal_log s.codec s.opening made.passes.log made.before).place in
      subst (λ (l : List Called). OwedSince call_dues s.codec s.opening a.me.0 b.me.0 l) (λ i. call_in s.codec (place i) (made.entry_is i))
      (owed_passage call_dues s.codec s.opening no_mint no_spend (Made made.event) a b made.passes)

  pub gave_names : (e : Entry) (place : ℕ) (media : List MediaRef) (coder : Option Lent) (a b : Seat (Option S) (View Event)) → GaveIn s e place media coder a b → Names s (call_in s.codec place e) a.me.0 b.me.0
  gave_names e place media coder a b gave =
      subst (λ (n : ℕ). Names s (call_in s.codec n e) a.me.0 b.me.0) (sym gave.is_place) (made_names e [] a b gave.made)

  -- ---- calls of callers

  pub call_names : (who : Who) (x : Call) (result : Result ReplyValue NoMemory) (a b : Seat (Option S) (View Event)) → CallTells s who x result a b → Names s (replied_calls s.codec who x result) a.me.0 b.me.0
  call_names who x (Ok r) a b told = gave_names (Entry.Call who x) r.place r.media r.coder a b told.gave
  call_names who x (Err e) a b told = looked_names a b told.looked

  pub answer_names : (who : Who) (x : Call) (result : Result Answer NoMemory) (a b : Seat (Option S) (View Event)) → AnswerTells s who x result a b → Names s (answered_calls s.codec who x result) a.me.0 b.me.0
  answer_names who x (Ok answer) a b told =
      subst (λ (z : Answer). Names s (called s.codec z.place who x) a.me.0 b.me.0) (sym told.1) (gave_names (Entry.Call who x) told.0.place told.0.media told.0.coder a b told.2.gave)
  answer_names who x (Err e) a b told = looked_names a b told.looked

  pub take_names : (who : Who) (number : ℕ) (result : Result (Option ℕ) NoMemory) (a b : Seat (Option S) (View Event)) → TakeTells s who number result a b → Names s (taken_calls s.codec who number result) a.me.0 b.me.0
  take_names who number (Ok (Some place)) a b told = gave_names (Entry.Call who (Call.Take number)) place [] None a b told.gave
  take_names who number (Ok None) a b told = looked_names a b told.looked
  take_names who number (Err e) a b told = looked_names a b told.looked

  pub encode_names : (who : Who) (lends : HeldMedium → MediaRef → Type 0) (r : ReplyValue) (a b : Seat (Option S) (View Event)) (v w : View PoolEntry) (told : EncodedIn s who lends r a b v w) → Names s (called s.codec r.place who (Call.Encode told.given)) a.me.0 b.me.0
  encode_names who lends r a b v w told = gave_names (Entry.Call who (Call.Encode told.given)) r.place r.media r.coder a b told.replied.gave

  pub not_encoded_names : (a b : Seat (Option S) (View Event)) (v w : View PoolEntry) → NotEncoded s a b v w → Names s [] a.me.0 b.me.0
  not_encoded_names a b v w told = looked_names a b told.looked

  -- ---- what is no call of a caller

  pub turn_names : (result : Option TurnedValue) (a b : Seat (Option S) (View Event)) → TurnTells s result a b → Names s [] a.me.0 b.me.0
  turn_names (Some t) a b told = made_names Entry.Turn [] a b told.gave.made
  turn_names None a b told = looked_names a b told.looked

  pub turn_once_names : (result : Option ℕ) (a b : Seat (Option S) (View Event)) → TurnOnceTells s result a b → Names s [] a.me.0 b.me.0
  turn_once_names (Some place) a b told = made_names Entry.Turn [] a b told.2.gave.made
  turn_once_names None a b told = looked_names a b told.looked

  pub reclaim_names : (now : ℕ) (result : Option RemovedValue) (a b : Seat (Option S) (View Event)) → ReclaimTells s now result a b → Names s [] a.me.0 b.me.0
  reclaim_names now (Some r) a b told = made_names (Entry.Reclaim now) [] a b told.made
  reclaim_names now None a b told = looked_names a b told.looked

  pub reclaim_once_names : (now : ℕ) (result : Option ℕ) (a b : Seat (Option S) (View Event)) → ReclaimOnceTells s now result a b → Names s [] a.me.0 b.me.0
  reclaim_once_names now (Some place) a b told = made_names (Entry.Reclaim now) [] a b told.2.made
  reclaim_once_names now None a b told = looked_names a b told.looked

  pub start_names : (result : Option JobValue) (a b : Seat (Option S) (View Event)) → StartTells s result a b → Names s [] a.me.0 b.me.0
  start_names (Some job) a b told = made_names (Entry.Start job.epoch job.number) [] a b told.made
  start_names None a b told = looked_names a b told.looked

  pub done_names : (d : DoneValue) (acquires : List SlotEntry) (moment : ℕ) (back : EndedValue) (a b : Seat (Option S) (View Event)) → DoneIn s d acquires moment back a b → Names s [] a.me.0 b.me.0
  done_names d acquires moment back a b told = made_names _ acquires a b told.made

  pub begin_names : (job : JobValue) (a b : Seat (Option S) (View Event)) → BeginsIn s job a b → Names s [] a.me.0 b.me.0
  begin_names job a b told = start_names (Some told.came) a b told.started

  pub finish_names : (d : DoneValue) (acquires : List SlotEntry) (moment place : ℕ) (a b : Seat (Option S) (View Event)) → FinishTells s d acquires moment place a b → Names s [] a.me.0 b.me.0
  finish_names d acquires moment place a b told = done_names d acquires moment told.0 a b told.2

  pub work_names : (result : Option ℕ) (old now : Telling) (a b : Seat (Option S) (View Event)) → WorkTells s result old now a b → Names s [] a.me.0 b.me.0
  work_names (Some place) old now a b told =
      names_then s a.me.0 told.middle.me.0 b.me.0 [] [] (begin_names told.job a told.middle told.begins) (finish_names told.done told.acquires told.moment place told.middle b told.finish)
  work_names None old now a b told = looked_names a b told.0.looked
