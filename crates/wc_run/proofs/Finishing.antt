-- What a desk leaves that was finished with nothing left to do.
use Rattle.std.proofs.Common.{ℕ, zero, suc, ◌≡◌, ◌+◌, ◌<◌, true, List, [], ◌∷◌, ◌++◌, map, Option, Some, length, is_some, refl, ap, sym, subst, ◌∙◌, arith}
use Rattle.std.specs.Prelude.{slice_get}
use Rattle.std.specs.List.{flat_map, sum_by}
use Rattle.std.proofs.lemmas.List.Sums.{sum_by-cons, sum_by-append}
use Rattle.atomic_table.specs.Seated.{TableId}
use Rattle.atomic_table.specs.declared.shared.Seat.{Seat}
use Rattle.wc_base.specs.Views.{Log}
use Rattle.wc_base.specs.declared.seat.View.{View}
use Rattle.coder_api.specs.declared.slot.SlotEntry.{SlotEntry}
use Rattle.wc_pool.specs.declared.entry.PoolEntry.{PoolEntry}
use Rattle.codec_media.specs.Holding.{Holding}
use Rattle.codec_model.specs.declared.entry.Opening.{Opening}
use Rattle.codec_model.specs.declared.entry.Entry.{Entry}
use Rattle.codec_model.specs.Replay.{State, IsLegal, replay}
use Rattle.codec_accounts.specs.Owed.{at}
use Rattle.seat_lock.specs.Logs.{entries_of}
use Rattle.codec_logs.specs.declared.event.Event.{Event}
use Rattle.codec_logs.specs.Logs.{opening_track, history_of, IsLog}
use Rattle.codec_logs.specs.LogLaws.{legal_log}
use Rattle.shared_codec.specs.Dues.{slot_dues, media_dues, call_dues}
use Rattle.shared_codec.specs.Order.{slot_at, asked_at, done_at}
use Rattle.shared_codec.specs.Shared.{Shared, FinishedAs}
use Rattle.shared_codec.specs.Sums.{all_dues}
use Rattle.shared_codec.specs.Told.{end_dues, AreTold}
use Rattle.codec_desk.specs.Desks.{SitsAt}
use Rattle.codec_desk.specs.Each.{Pairs, total_of}
use Rattle.desk_threads.specs.Timely.{tally_all}
use Rattle.desk_threads.specs.Accounts.{all_slot_calls, all_calls}
use Rattle.desk_threads.specs.Orders.{IsWholeInOrder}
use Rattle.desk_threads.specs.Runs.{EachIsQuiet, IsQuiet}
use Rattle.desk_run.specs.Finished.{AreFinished}
use Rattle.desk_run.specs.Opened.{HaveOpenings}
use Rattle.desk_callers.specs.Acts.{histories_in}
use Rattle.script_types.specs.declared.script.CodecItem.{CodecItem}
use Rattle.run_model.specs.declared.run.CodecTrace.{CodecTrace}
use Rattle.run_model.specs.Fits.{AreLegalTraces}
use Rattle.run_model.specs.Recorded.{opening_of, opening_in}
use Rattle.run_laws.specs.Paid.{histories_of, slots_of, all_slots}
use Rattle.run_laws.specs.Quiet.{LogRests}
use Rattle.run_laws.specs.Reclaims.{in_logs}
use Rattle.wc_run.specs.Made.{calls_in}
use Rattle.wc_run.specs.Traces.{trace_of}

-- ---- openings

-- each codec is opened as the script says
abbrev pub Opens : List CodecItem → List Shared → Type 0
Opens [] [] = Unit {0}
Opens (c ∷ cs) (x ∷ xs) = (x.opening ≡ opening_of c) × Opens cs xs
Opens _ _ = ⊥

pub opens_of : (calls : ℕ) (cs : List CodecItem) (xs : List Shared) → HaveOpenings (map opening_of cs) calls xs → Opens cs xs
opens_of calls [] [] h = tt
opens_of calls [] (x ∷ xs) h = (let many = h.0 in absurd (omega (arith, many)))
opens_of calls (c ∷ cs) [] h = (let many = h.0 in absurd (omega (arith, many)))
opens_of calls (c ∷ cs) (x ∷ xs) h =
    let many = h.0 in
    let here : Some (opening_of c) ≡ Some x.opening = (h.1 0 x refl).0 in
    let same : opening_of c ≡ x.opening = cc in
    (sym same, opens_of calls cs xs (omega (arith, many), λ i s there. h.1 (suc i) s there))

pub opening_there : (cs : List CodecItem) (xs : List Shared) (k : ℕ) (x : Shared) → Opens cs xs → slice_get xs k ≡ Some x → x.opening ≡ opening_in cs k
opening_there [] [] k x o there = absurd cc
opening_there [] (y ∷ xs) k x o there = absurd o
opening_there (c ∷ cs) [] k x o there = absurd o
opening_there (c ∷ cs) (y ∷ xs) zero x o there =
    let same : y ≡ x = cc in
    ap (λ (z : Shared). z.opening) (sym same) ∙ o.0
opening_there (c ∷ cs) (y ∷ xs) (suc k) x o there = opening_there cs xs k x o.1 there

pub opens_many : (cs : List CodecItem) (xs : List Shared) → Opens cs xs → length cs ≡ length xs
opens_many [] [] o = refl
opens_many [] (x ∷ xs) o = absurd o
opens_many (c ∷ cs) [] o = absurd o
opens_many (c ∷ cs) (x ∷ xs) o = ap suc (opens_many cs xs o.1)

-- ---- what was recorded

-- the logs that seats have seen
abbrev pub logs_in : {S : Type 0} → List (Seat (Option S) (View Event)) → List (Log Event)
logs_in us = map (λ u. u.me.0.log) us

module _ {S : Type 0} where
  pub histories_are : (us : List (Seat (Option S) (View Event))) → histories_in us ≡ histories_of (logs_in us)
  histories_are [] = refl
  histories_are (u ∷ us) = ap (λ (l : List (List Entry)). history_of u.me.0.log ∷ l) (histories_are us)

  pub logs_many : (us : List (Seat (Option S) (View Event))) → length (logs_in us) ≡ length us
  logs_many [] = refl
  logs_many (u ∷ us) = ap suc (logs_many us)

  -- what the events of these logs count for
  pub logs_count : (counts : Event → ℕ) (pool slots : TableId) (n : ℕ) (xs : List Shared) (us : List (Seat (Option S) (View Event))) → Pairs (SitsAt pool slots) n xs us → in_logs counts (logs_in us) ≡ tally_all counts xs us
  logs_count counts pool slots n [] [] p = refl
  logs_count counts pool slots n [] (u ∷ us) p = absurd p
  logs_count counts pool slots n (x ∷ xs) [] p = absurd p
  logs_count counts pool slots n (x ∷ xs) (u ∷ us) p =
      let a = sum_by-cons (λ (l : Log Event). sum_by counts (entries_of l)) u.me.0.log (logs_in us) in
      let b = sum_by-append counts (entries_of u.me.0.log) (total_of (λ (s : Shared) (v : Seat (Option S) (View Event)). entries_of v.me.0.log) xs us) in
      let c = logs_count counts pool slots (suc n) xs us p.1 in
      omega (arith, a, b, c)

  log_at : (us : List (Seat (Option S) (View Event))) (k : ℕ) (u : Seat (Option S) (View Event)) → slice_get us k ≡ Some u → at k (logs_in us) ≡ u.me.0.log
  log_at [] k u there = absurd cc
  log_at (v ∷ us) zero u there =
      let same : v ≡ u = cc in
      ap (λ (w : Seat (Option S) (View Event)). w.me.0.log) same
  log_at (v ∷ us) (suc k) u there = log_at us k u there

  legal_holding : (x : Shared) (h : Holding) (u : Seat (Option S) (View Event)) → FinishedAs x h u.me.0 → IsLegal h.codec.opening h.codec.history
  legal_holding x h u f =
      let legal : is_some (replay x.opening (history_of u.me.0.log)) ≡ true = ap (λ (o : Option State). is_some o) (legal_log x.codec x.opening u.me.0.log f.stands.legal).replays in
      subst (λ (z : Opening × List Entry). IsLegal z.0 z.1) (λ i. (sym f.stands.opening i, sym f.stands.history i)) legal

  pub legal_traces : (cs : List CodecItem) (xs : List Shared) (us : List (Seat (Option S) (View Event))) (hs : List Holding) → Opens cs xs → AreFinished xs us hs → AreLegalTraces cs (map trace_of hs)
  legal_traces [] [] [] [] o f = tt
  legal_traces (c ∷ cs) (x ∷ xs) (u ∷ us) (h ∷ hs) o f = (
    record { opening = f.0.stands.opening ∙ o.0; legal = legal_holding x h u f.0; shown = refl },
    legal_traces cs xs us hs o.1 f.1,
  )
  legal_traces [] [] [] (h ∷ hs) o f = absurd f
  legal_traces [] [] (u ∷ us) hs o f = absurd f
  legal_traces [] (x ∷ xs) us hs o f = absurd o
  legal_traces (c ∷ cs) [] us hs o f = absurd o
  legal_traces (c ∷ cs) (x ∷ xs) [] hs o f = absurd f
  legal_traces (c ∷ cs) (x ∷ xs) (u ∷ us) [] o f = absurd f

  pub entries_are : (xs : List Shared) (us : List (Seat (Option S) (View Event))) (hs : List Holding) → AreFinished xs us hs → map (λ (t : CodecTrace). t.entries) (map trace_of hs) ≡ histories_of (logs_in us)
  entries_are [] [] [] f = refl
  entries_are (x ∷ xs) (u ∷ us) (h ∷ hs) f = (λ i. f.0.stands.history i ∷ entries_are xs us hs f.1 i)
  entries_are [] [] (h ∷ hs) f = absurd f
  entries_are [] (u ∷ us) hs f = absurd f
  entries_are (x ∷ xs) [] hs f = absurd f
  entries_are (x ∷ xs) (u ∷ us) [] f = absurd f

-- ---- each codec

-- by its log a codec is legal and quiet, and the histories elsewhere have what it calls for in order
pub record IsWell {S : Type 0} (pool slots : TableId) (slot_log : Log SlotEntry) (pool_log : Log PoolEntry) (n : ℕ) (x : Shared) (u : Seat (Option S) (View Event)) : Type 0 where
  pub number : x.codec ≡ n
  pub legal : IsLog x.codec x.opening u.me.0.log
  pub quiet : IsQuiet x u.me.0.log
  pub whole : IsWholeInOrder slot_log pool_log n x u

module _ {S : Type 0} where
  pub all_well : (pool slots : TableId) (slot_log : Log SlotEntry) (pool_log : Log PoolEntry) (n : ℕ) (xs : List Shared) (us : List (Seat (Option S) (View Event))) (hs : List Holding)
      → Pairs (SitsAt pool slots) n xs us → AreFinished xs us hs → EachIsQuiet xs us → Pairs (IsWholeInOrder slot_log pool_log) n xs us → Pairs (IsWell pool slots slot_log pool_log) n xs us
  all_well pool slots sl pl n [] [] hs sits f quiet whole = tt
  all_well pool slots sl pl n [] (u ∷ us) hs sits f quiet whole = absurd sits
  all_well pool slots sl pl n (x ∷ xs) [] hs sits f quiet whole = absurd sits
  all_well pool slots sl pl n (x ∷ xs) (u ∷ us) [] sits f quiet whole = absurd f
  all_well pool slots sl pl n (x ∷ xs) (u ∷ us) (h ∷ hs) sits f quiet whole = (
    record { number = sits.0.number; legal = f.0.stands.legal; quiet = quiet.0; whole = whole.0 },
    all_well pool slots sl pl (suc n) xs us hs sits.1 f.1 quiet.1 whole.1,
  )

  -- a place, its codec and its seat
  pub record Place (Q : ℕ → Shared → Seat (Option S) (View Event) → Type 0) (n k : ℕ) (xs : List Shared) (us : List (Seat (Option S) (View Event))) : Type 0 where
    pub codec : Shared
    pub seat : Seat (Option S) (View Event)
    pub codec_is : slice_get xs k ≡ Some codec
    pub seat_is : slice_get us k ≡ Some seat
    pub so : Q (n + k) codec seat

  place_at : (Q : ℕ → Shared → Seat (Option S) (View Event) → Type 0) (n k : ℕ) (xs : List Shared) (us : List (Seat (Option S) (View Event))) → Pairs Q n xs us → k < length us → Place Q n k xs us
  place_at Q n k [] [] p lt = absurd (omega (arith, lt))
  place_at Q n k [] (u ∷ us) p lt = absurd p
  place_at Q n k (x ∷ xs) [] p lt = absurd p
  place_at Q n zero (x ∷ xs) (u ∷ us) p lt =
      let e : n ≡ n + 0 = omega arith in
      record { codec = x; seat = u; codec_is = refl; seat_is = refl; so = subst (λ (m : ℕ). Q m x u) e p.0 }
  place_at Q n (suc k) (x ∷ xs) (u ∷ us) p lt =
      let r = place_at Q (suc n) k xs us p.1 (omega (arith, lt)) in
      let e : suc n + k ≡ n + suc k = omega arith in
      record { codec = r.codec; seat = r.seat; codec_is = r.codec_is; seat_is = r.seat_is; so = subst (λ (m : ℕ). Q m r.codec r.seat) e r.so }

  module _ (pool slots : TableId) (sl : Log SlotEntry) (pl : Log PoolEntry) (cs : List CodecItem) (xs : List Shared) (us : List (Seat (Option S) (View Event))) (opens : Opens cs xs) (well : Pairs (IsWell pool slots sl pl) 0 xs us) where
    -- the codec with a number
    here : (k : ℕ) → k < length (logs_in us) → Place (IsWell pool slots sl pl) 0 k xs us
    here k lt = place_at (IsWell pool slots sl pl) 0 k xs us well (subst (λ (n : ℕ). k < n) (logs_many us) lt)

    -- what is so of a codec by its own number, opening and log
    as_numbered : (P : ℕ → Opening → Log Event → Type 0) (k : ℕ) (lt : k < length (logs_in us)) → P (here k lt).codec.codec (here k lt).codec.opening (here k lt).seat.me.0.log → P k (opening_in cs k) (at k (logs_in us))
    as_numbered P k lt h =
        let p = here k lt in
        let none_before : 0 + k ≡ k = omega arith in
        let number : p.codec.codec ≡ k = p.so.number ∙ none_before in
        let opening = opening_there cs xs k p.codec opens p.codec_is in
        let log = sym (log_at us k p.seat p.seat_is) in
        subst (λ (z : ℕ × (Opening × Log Event)). P z.0 z.1.0 z.1.1) (λ i. (number i, (opening i, log i))) h

    pub logs_legal : (k : ℕ) → k < length (logs_in us) → IsLog k (opening_in cs k) (at k (logs_in us))
    logs_legal k lt = as_numbered (λ n o l. IsLog n o l) k lt (here k lt).so.legal

    pub logs_rest : (k : ℕ) → k < length (logs_in us) → LogRests (opening_in cs k) (at k (logs_in us))
    logs_rest k lt = (let q = (here k lt).so.quiet in as_numbered (λ n o l. LogRests o l) k lt (record { running = q.running; item = q.item; tasks = q.task }))

    pub slots_in_order : (k place : ℕ) → k < length (logs_in us) → flat_map (slot_at k place) (all_dues slot_dues k (opening_track (opening_in cs k)) (at k (logs_in us))) ≡ flat_map (slot_at k place) (entries_of sl)
    slots_in_order k place lt =
        as_numbered (λ n o l. flat_map (slot_at n place) (all_dues slot_dues n (opening_track o) l) ≡ flat_map (slot_at n place) (entries_of sl)) k lt (((here k lt).so.whole (here k lt).so.legal).0 place)

    pub media_in_order : (k place : ℕ) → k < length (logs_in us) → flat_map (asked_at k place) (all_dues media_dues k (opening_track (opening_in cs k)) (at k (logs_in us))) ≡ flat_map (done_at k place) (entries_of pl)
    media_in_order k place lt =
        as_numbered (λ n o l. flat_map (asked_at n place) (all_dues media_dues n (opening_track o) l) ≡ flat_map (done_at n place) (entries_of pl)) k lt (((here k lt).so.whole (here k lt).so.legal).1 place)

    pub ends_told : (k : ℕ) → k < length (logs_in us) → AreTold (entries_of sl) (all_dues end_dues k (opening_track (opening_in cs k)) (at k (logs_in us)))
    ends_told k lt = as_numbered (λ n o l. AreTold (entries_of sl) (all_dues end_dues n (opening_track o) l)) k lt ((here k lt).so.whole (here k lt).so.legal).2

-- ---- all codecs together

module _ {S : Type 0} (opening : ℕ → Opening) where
  pub slots_same : (n : ℕ) (pool slots : TableId) (xs : List Shared) (us : List (Seat (Option S) (View Event))) → Pairs (SitsAt pool slots) n xs us → ((k : ℕ) (x : Shared) → slice_get xs k ≡ Some x → x.opening ≡ opening (n + k)) → all_slot_calls xs us ≡ all_slots opening n (logs_in us)
  slots_same n pool slots [] [] p o = refl
  slots_same n pool slots [] (u ∷ us) p o = absurd p
  slots_same n pool slots (x ∷ xs) [] p o = absurd p
  slots_same n pool slots (x ∷ xs) (u ∷ us) p o =
      let zero_more : n + 0 ≡ n = omega arith in
      let e : x.opening ≡ opening n = o 0 x refl ∙ ap opening zero_more in
      let one : all_dues slot_dues x.codec (opening_track x.opening) u.me.0.log ≡ slots_of opening n u.me.0.log = (λ i. all_dues slot_dues (p.0.number i) (opening_track (e i)) u.me.0.log) in
      let rest = slots_same (suc n) pool slots xs us p.1 (λ k y there. o (suc k) y there ∙ (let f : n + suc k ≡ suc n + k = omega arith in ap opening f)) in
      (λ i. one i ++ rest i)

  pub calls_same : (n : ℕ) (pool slots : TableId) (xs : List Shared) (us : List (Seat (Option S) (View Event))) → Pairs (SitsAt pool slots) n xs us → ((k : ℕ) (x : Shared) → slice_get xs k ≡ Some x → x.opening ≡ opening (n + k)) → all_calls xs us ≡ calls_in opening n (logs_in us)
  calls_same n pool slots [] [] p o = refl
  calls_same n pool slots [] (u ∷ us) p o = absurd p
  calls_same n pool slots (x ∷ xs) [] p o = absurd p
  calls_same n pool slots (x ∷ xs) (u ∷ us) p o =
      let zero_more : n + 0 ≡ n = omega arith in
      let e : x.opening ≡ opening n = o 0 x refl ∙ ap opening zero_more in
      let one : all_dues call_dues x.codec (opening_track x.opening) u.me.0.log ≡ all_dues call_dues n (opening_track (opening n)) u.me.0.log = (λ i. all_dues call_dues (p.0.number i) (opening_track (e i)) u.me.0.log) in
      let rest = calls_same (suc n) pool slots xs us p.1 (λ k y there. o (suc k) y there ∙ (let f : n + suc k ≡ suc n + k = omega arith in ap opening f)) in
      (λ i. one i ++ rest i)
