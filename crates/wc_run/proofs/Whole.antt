-- A whole run.
use Rattle.std.proofs.Common.{ℕ, ◌≡◌, ◌+◌, ◌<◌, ◌≤◌, Bool, true, inl, inr, List, [], map, Some, length, ap, sym, subst, ◌∙◌, arith}
use Rattle.std.specs.Prelude.{slice_get}
use Rattle.std.specs.List.{flat_map, sum_by}
use Rattle.std.proofs.lemmas.Bool.{cases_lt}
use Rattle.wc_base.specs.Views.{Log}
use Rattle.wc_config.specs.declared.codec.CoderId.{CoderId}
use Rattle.wc_chunk.specs.declared.chunk.Chunk.{Chunk}
use Rattle.wc_pool.specs.Bag.{held_in, is_legal_pool}
use Rattle.slot_registry.specs.Slots.{is_legal_slots}
use Rattle.wc_base.specs.declared.who.By.TheVariants as by
use Rattle.coder_api.specs.declared.slot.SlotEntry.{SlotEntry}
use Rattle.codec_model.specs.declared.entry.{Entry.Entry, Opening.Opening}
use Rattle.codec_accounts.specs.Bags.{SameBag}
use Rattle.codec_accounts.specs.Codec.{state_after}
use Rattle.codec_accounts.specs.Owed.{at}
use Rattle.seat_lock.specs.Logs.{AllBy, entries_of}
use Rattle.codec_logs.specs.declared.event.Event.{Event}
use Rattle.codec_logs.specs.Logs.{IsLog, opening_track}
use Rattle.shared_codec.specs.Order.{done_at, slot_at}
use Rattle.shared_codec.specs.Dues.{slot_dues}
use Rattle.shared_codec.specs.Shared.{Shared}
use Rattle.shared_codec.specs.Sums.{all_dues}
use Rattle.shared_codec.specs.Told.{end_dues, AreTold}
use Rattle.codec_desk.specs.declared.desk.Desk.{Desk}
use Rattle.codec_desk.specs.declared.desk.Seats.{Seats}
use Rattle.codec_desk.specs.Desks.{SitAt}
use Rattle.shared_codec.specs.Tallies.{reclaims, refusals, untimely}
use Rattle.desk_threads.specs.Timely.{tally_all, WholeInTime}
use Rattle.desk_threads.specs.Accounts.{AllBalanced, all_calls}
use Rattle.desk_threads.specs.Orders.{WholeInOrder}
use Rattle.desk_threads.specs.Runs.{EachIsQuiet}
use Rattle.desk_run.specs.declared.finishing.Finished.{Finished}
use Rattle.desk_run.specs.Finished.{IsFinished}
use Rattle.script_types.specs.declared.script.ScriptData.{ScriptData}
use Rattle.order_laws.specs.Sound.{IsSound}
use Rattle.run_model.specs.declared.run.Run.{Run}
use Rattle.run_model.specs.declared.run.CallerTrace.{CallerTrace}
use Rattle.run_model.specs.declared.run.CodecTrace.{CodecTrace}
use Rattle.run_model.specs.Fits.{AreLegalTraces, IsLegalRun}
use Rattle.run_model.specs.Recorded.{Recorded, opening_at}
use Rattle.media_accounts.specs.Accounts.{own_in}
use Rattle.desk_callers.specs.Deeds.{Deed}
use Rattle.port_laws.specs.PortAccounts.{PortsMade}
use Rattle.run_laws.specs.Fits.{AreAtRest}
use Rattle.run_laws.specs.Paid.{by_cause, histories_of}
use Rattle.run_laws.specs.Told.{LogTellsEnds}
use Rattle.run_laws.specs.Quiet.{IsAtRest}
use Rattle.run_laws.specs.Reclaims.{IsTimely, in_logs}
use Rattle.wc_run.specs.Acted.{HaveActed, calls_of_all}
use Rattle.wc_run.specs.Made.{IsMade, recorded_by}
use Rattle.wc_run.specs.Owned.{owns_at}
use Rattle.wc_run.specs.Runnable.{IsDeskOf}
use Rattle.wc_run.specs.Threads.{HaveRun}
use Rattle.wc_run.specs.Traces.{IsLeftBy}
use Rattle.wc_run.proofs.PoolEntries.{media_past, none_beyond}
use Rattle.wc_run.proofs.Finishing.{Opens, opens_many, opening_there, logs_in, logs_many, logs_count, histories_are, legal_traces, entries_are, all_well, logs_legal, logs_rest, slots_in_order, media_in_order, ends_told, slots_same, calls_same}
use Rattle.wc_run.proofs.Owning.{owned_all}

-- a law of run_laws
abbrev pub CodecsRest : Type 0
CodecsRest = (script : ScriptData) (logs : List (Log Event)) (run : Recorded) → run.codecs ≡ histories_of logs → ((k : ℕ) → k < length logs → IsLog k (opening_at script k) (at k logs)) → AreAtRest script logs
    → (k : ℕ) → k < length run.codecs → IsAtRest (state_after (opening_at script k) (at k run.codecs)).control

-- another one
abbrev pub EndsTell : Type 0
EndsTell = (k : ℕ) (opening : Opening) (log : Log Event) (slots : List SlotEntry) → IsLog k opening log → AreTold slots (all_dues end_dues k (opening_track opening) log)
    → ((place : ℕ) → by_cause (by.Codec k place) (all_dues slot_dues k (opening_track opening) log) ≡ by_cause (by.Codec k place) slots) → LogTellsEnds k opening slots log

-- and one on moments
abbrev pub MomentsFit : Type 0
MomentsFit = (fits : ℕ → Bool) (logs : List (Log Event)) → in_logs (untimely fits) logs ≡ 0 → IsTimely fits (histories_of logs)

module _ {C : Type 0} where
  pub desk_of : (s : ScriptData) (desk : Desk C) → Opens s.codecs desk.codecs.items → IsDeskOf s desk
  desk_of s desk o = record { opened = λ k x there. opening_there s.codecs desk.codecs.items k x o there; codecs = opens_many s.codecs desk.codecs.items o }

  pub is_legal : (s : ScriptData) (desk : Desk C) (b : Seats C) (f : Finished C) (ts : List CallerTrace) (run : Run) → Opens s.codecs desk.codecs.items → IsFinished desk b f → length ts ≡ length s.callers → IsLeftBy ts f run → IsLegalRun s run
  is_legal s desk b f ts run o finished many left = record {
    callers = ap (λ (l : List CallerTrace). length l) left.callers_are ∙ many;
    codecs = subst (λ (l : List CodecTrace). AreLegalTraces s.codecs l) (sym left.codecs) (legal_traces s.codecs desk.codecs.items b.codecs.items f.codecs.items o finished.codecs);
    held = left.held ∙ ap held_in (sym left.pool);
  }

  -- the recorded histories are those of the logs that the seats have seen
  histories_left : (deeds : List (List Deed)) (desk : Desk C) (b : Seats C) (f : Finished C) (ts : List CallerTrace) (run : Run) → IsFinished desk b f → IsLeftBy ts f run → (recorded_by deeds run).codecs ≡ histories_of (logs_in b.codecs.items)
  histories_left deeds desk b f ts run finished left = ap (map (λ (t : CodecTrace). t.entries)) left.codecs ∙ entries_are desk.codecs.items b.codecs.items f.codecs.items finished.codecs

  pub is_timely : MomentsFit → (fits : ℕ → Bool) (deeds : List (List Deed)) (desk : Desk C) (b : Seats C) (f : Finished C) (ts : List CallerTrace) (run : Run) → SitAt desk b → IsFinished desk b f → IsLeftBy ts f run → WholeInTime fits desk b → IsTimely fits (recorded_by deeds run).codecs
  is_timely law fits deeds desk b f ts run sits finished left time = subst (IsTimely fits) (sym (histories_left deeds desk b f ts run finished left)) (law fits (logs_in b.codecs.items) (logs_count (untimely fits) desk.pool desk.slots.id 0 desk.codecs.items b.codecs.items sits.codecs ∙ time.timely))

  pub is_made : CodecsRest → EndsTell → (s : ScriptData) (media : List (List Chunk)) (made : List CoderId) (desk : Desk C) (b : Seats C) (f : Finished C) (ts : List CallerTrace) (run : Run)
      → IsSound s → Opens s.codecs desk.codecs.items → SitAt desk b → desk.slots.made ≡ made → IsFinished desk b f → AllBalanced desk b → WholeInOrder desk b → EachIsQuiet desk.codecs.items b.codecs.items
      → (x : HaveRun s media (PortsMade s media) desk ts b) → SameBag (all_calls desk.codecs.items b.codecs.items) (calls_of_all x.deeds) → tally_all reclaims desk.codecs.items b.codecs.items ≤ tally_all refusals desk.codecs.items b.codecs.items → AllBy b.pool.me.0.numbers b.pool.me.0.log → IsLeftBy ts f run → IsMade s media made run
  is_made rest tell s media made desk b f ts run sound o sits made_is finished balanced whole quiet x calls few all left =
      let xs = desk.codecs.items in
      let us = b.codecs.items in
      let sl = b.slots.me.0.log in
      let pl = b.pool.me.0.log in
      let logs : List (Log Event) = logs_in us in
      let well = all_well desk.pool desk.slots.id sl pl 0 xs us f.codecs.items sits.codecs finished.codecs quiet whole in
      let recorded : (recorded_by x.deeds run).codecs ≡ histories_of logs = histories_left x.deeds desk b f ts run finished left in
      let legal = logs_legal desk.pool desk.slots.id sl pl s.codecs xs us o well in
      let openings : (k : ℕ) (y : Shared) → slice_get xs k ≡ Some y → y.opening ≡ opening_at s (0 + k) = λ k y there. opening_there s.codecs xs k y o there ∙ (let e : k ≡ 0 + k = omega arith in ap (opening_at s) e) in
      let slots : run.slots ≡ entries_of sl = left.slots ∙ finished.slots in
      let pool : run.pool ≡ entries_of pl = left.pool ∙ finished.pool in
      let made_as : f.slots.made ≡ made = finished.made ∙ made_is in
      let acted_as = histories_are us ∙ sym recorded in
      let callers_as = sym left.callers_are in
      let legal_slots : is_legal_slots f.slots.made f.slots.history ≡ true = left.slots_are_legal in
      record {
        sound = sound;
        deeds = x.deeds;
        logs = logs;
        codecs = recorded;
        logs_are = legal;
        quiet = rest s logs (recorded_by x.deeds run) recorded legal (logs_rest desk.pool desk.slots.id sl pl s.codecs xs us o well);
        slots_are_legal = (λ i. is_legal_slots (sym made_as i) (left.slots i)) ∙ legal_slots;
        pool_is_legal = ap is_legal_pool left.pool ∙ left.pool_is_legal;
        slots_called = λ t. sym (ap (sum_by t) (slots_same (opening_at s) 0 desk.pool desk.slots.id xs us sits.codecs openings)) ∙ (balanced.slots t ∙ sym (ap (sum_by t) slots));
        slot_causes = λ k place lt. slots_in_order desk.pool desk.slots.id sl pl s.codecs xs us o well k place lt ∙ sym (ap (flat_map (slot_at k place)) slots);
        media_causes = λ k place. (elim (cases_lt k (length logs)) [
          | inl lt ↦ (media_in_order desk.pool desk.slots.id sl pl s.codecs xs us o well k place lt ∙ sym (ap (flat_map (done_at k place)) pool))
          | inr past ↦ (
              let long : length logs ≡ length us = logs_many us in
              let none : flat_map (done_at k place) (entries_of pl) ≡ [] = none_beyond k place desk.pool desk.slots.id xs us (entries_of pl) sits.codecs (omega (arith, past, long)) balanced.pool in
              media_past (opening_at s) k place logs past ∙ sym (ap (flat_map (done_at k place)) pool ∙ none)
              )
        ]);
        told = λ k lt. tell k (opening_at s k) (at k logs) run.slots (legal k lt) (subst (λ (l : List SlotEntry). AreTold l (all_dues end_dues k (opening_track (opening_at s k)) (at k logs))) (sym slots) (ends_told desk.pool desk.slots.id sl pl s.codecs xs us o well k lt))
            (λ place. slots_in_order desk.pool desk.slots.id sl pl s.codecs xs us o well k place lt ∙ sym (ap (flat_map (slot_at k place)) slots));
        few = (let a = logs_count reclaims desk.pool desk.slots.id 0 xs us sits.codecs in let c = logs_count refusals desk.pool desk.slots.id 0 xs us sits.codecs in omega (arith, few, a, c));
        acted = subst (λ (z : List (List Entry) × List CallerTrace). HaveActed s media z.0 0 z.1 x.deeds) (λ i. (acted_as i, callers_as i)) x.acted;
        calls = λ t. sym (ap (sum_by t) (calls_same (opening_at s) 0 desk.pool desk.slots.id xs us sits.codecs openings)) ∙ calls t;
        own = λ c. ap (own_in c) pool ∙ owned_all (owns_at s media x.deeds) b all x.own c;
        ports = x.ports;
      }
