-- Starts and ends of items, in one passage.
use Rattle.std.proofs.Common.{ℕ, ◌≡◌, Bool, true, eqb, not, List, [], ◌∷◌, ◌++◌, map, length, Option, Some, None, is_some, ap, sym, subst, ◌∙◌}
use Rattle.std.specs.Prelude.{option_map, IfSome, IfNone, OnSome}
use Rattle.atomic_table.specs.Seated.{TableId}
use Rattle.atomic_table.specs.declared.shared.Seat.{Seat}
use Rattle.wc_base.specs.Views.{Log}
use Rattle.wc_base.specs.declared.seat.Passage.{Passage}
use Rattle.wc_base.specs.declared.seat.Passage.TheVariants.{Made}
use Rattle.wc_base.specs.declared.seat.View.{View}
use Rattle.wc_pool.specs.declared.reference.MediaRef.{MediaRef}
use Rattle.coder_api.specs.Lent.{Lent}
use Rattle.codec_model.specs.declared.entry.{Opening.Opening, Entry.Entry}
use Rattle.codec_model.specs.Control.{start_item}
use Rattle.codec_model.specs.Replay.{State, missing_coder}
use Rattle.codec_model.specs.Held.{in_order, running_pairs, adds_held, lets_go}
use Rattle.codec_core.specs.Job.{JobValue, DoneValue, IsJobOf, missing_id, outcome_of}
use Rattle.codec_core.specs.Codec.{state_at, Makes, item_parts, kept_box, handed_back, went_out}
use Rattle.codec_core.specs.Owning.{GoesBack}
use Rattle.codec_media.specs.Holding.{Holding, EndedValue, all_of, pair_of}
use Rattle.seat_lock.specs.Passages.{Passes}
use Rattle.seat_lock.specs.Seats.{Sitting, after_passage}
use Rattle.codec_logs.specs.declared.event.Acquires.{Acquires}
use Rattle.codec_logs.specs.declared.event.Event.{Event}
use Rattle.codec_model.specs.declared.entry.Running.{Running}
use Rattle.codec_accounts.specs.Codec.{is_old}
use Rattle.codec_accounts.specs.Boxes as boxes
use Rattle.codec_accounts.specs.Boxes.{act_of, start_act, lets_go_by, newer}
use Rattle.codec_logs.specs.Logs.{entry_of, history_of, acquires_of, box_of, Track, track, act_in, BoxIs}
use Rattle.codec_logs.specs.LogLaws.{legal_log}
use Rattle.shared_codec.specs.Dues.{give_by, slot_dues, media_dues, clones_at, ends_at, given_if, gives_of}
use Rattle.shared_codec.proofs.Dues.{OfCodec, of_box, of_back, later_of, due_start, due_end}
use Rattle.shared_pool.specs.Refs.{AreOf, IfOf}
use Rattle.shared_slots.specs.Boxes.{IfOut}
use Rattle.shared_codec.specs.Shared.{Shared, no_mint, no_spend, StandsFor, PassageIs, MayEndAt, HasJob, codec_of}
use Rattle.shared_codec.specs.Jobs.{StartTells, DoneIn}
use Rattle.shared_codec.proofs.Stands.{StandsAt, event_is, stands_look, made_in, looked_in, are_split, if_of, goes_in, start_act_is, start_idle, home_box, stands_start, has_job, stands_done, out_back}

-- what a start of the codec gives
pub record Starts (old new : Holding) (job : JobValue) : Type 0 where
  pub made : Makes old.codec new.codec (Entry.Start job.epoch job.number)
  pub job_is : IsJobOf (state_at new.codec) job
  pub item : option_map item_parts (start_item (state_at old.codec).control) ≡ Some (job.number, job.work)
  pub place : job.place ≡ length old.codec.history
  pub coder : job.coder ≡ old.codec.slot
  pub lacks : missing_id job ≡ missing_coder (state_at old.codec).given job.work
  pub slot : new.codec.slot ≡ None
  pub out : new.codec.out ≡ went_out (is_some (missing_id job)) job.place job.coder
  pub held : all_of new ≡ old.waiting
  pub lets : is_some (missing_id job) ≡ true → GoesBack new.codec job.place job.coder

abbrev pub StartGives : Holding → Holding → Option JobValue → Type 0
StartGives old new None = (start_item (state_at old.codec).control ≡ None) × (new ≡ old)
StartGives old new (Some job) = Starts old new job × (new.codec.spare ≡ old.codec.spare)

pub start_gives : (result : Option JobValue) (old new : Holding)
    → IfNone result (start_item (state_at old.codec).control ≡ None) → IfNone result (new ≡ old) → IfSome result (λ job. Makes old.codec new.codec (Entry.Start job.epoch job.number)) → IfSome result (IsJobOf (state_at new.codec))
    → IfSome result (λ job. option_map item_parts (start_item (state_at old.codec).control) ≡ Some (job.number, job.work)) → IfSome result (λ job. job.place ≡ length old.codec.history) → IfSome result (λ job. job.coder ≡ old.codec.slot)
    → IfSome result (λ job. missing_id job ≡ missing_coder (state_at old.codec).given job.work) → OnSome result (new.codec.slot ≡ None) → IfSome result (λ job. new.codec.out ≡ went_out (is_some (missing_id job)) job.place job.coder) → new.codec.spare ≡ old.codec.spare → OnSome result (all_of new ≡ old.waiting) → OnSome result (old.working ≡ None) → IfSome result (λ job. is_some (missing_id job) ≡ true → GoesBack new.codec job.place job.coder) → StartGives old new result
start_gives None old new none same some job item place coder lacks slot out spare held was lets = (none, same)
start_gives (Some x) old new none same some job item place coder lacks slot out spare held was lets =
    (record { made = some; job_is = job; item = item; place = place; coder = coder; lacks = lacks; slot = slot; out = out; held = held; lets = lets }, spare)

-- what an end of the codec gives
pub record Ends (old new : Holding) (d : DoneValue) (moment : ℕ) (back : EndedValue) : Type 0 where
  pub made : Makes old.codec new.codec (Entry.Done d.epoch d.number moment (outcome_of d.ended))
  pub place : back.place ≡ length old.codec.history
  pub slot : new.codec.slot ≡ kept_box (eqb d.epoch (state_at old.codec).control.epoch) d.coder
  pub hands : back.coder ≡ handed_back (eqb d.epoch (state_at old.codec).control.epoch) d.coder
  pub lets : GoesBack new.codec back.place back.coder
  pub spare : new.codec.spare ≡ old.codec.spare
  pub media : back.media ≡ old.working
  pub working : new.working ≡ None
  pub waiting : new.waiting ≡ old.waiting
  pub gone : map pair_of (in_order back.media) ≡ running_pairs (state_at old.codec)

module _ (k : ℕ) (o : Opening) (calls : ℕ) (pool slots : TableId) where
  abbrev Sj : Holding → Log Event → Type 0
  Sj h log = StandsFor k o calls pool slots h log

  pub stands_starts : (n : ℕ) (result : Option JobValue) (old new : Holding) (log : Log Event) (p : Passage Event) (acq : Acquires) → acquires_of acq ≡ [] → StartGives old new result → PassageIs (is_some result) new.codec.history acq p → Sj old log → Sj new (log ++ (n, p) ∷ [])
  stands_starts n None old new log p acq none gives is st =
      subst (λ (q : Passage Event). Sj new (log ++ (n, q) ∷ [])) (sym is)
      (stands_look k o calls pool slots n old new log st (ap (λ (h : Holding). h.codec) gives.1) (subst (λ (h : Holding). AreOf pool (all_of h)) (sym gives.1) st.held))
  stands_starts n (Some job) old new log p acq none gives is st =
      let g = gives.0 in
      subst (λ (q : Passage Event). Sj new (log ++ (n, q) ∷ [])) (sym is.1)
      (stands_start k o calls pool slots n old new is.0 job log st g.made (event_is old.codec new.codec (entry_of is.0) (Entry.Start job.epoch job.number) is.2 g.made) (ap acquires_of is.3 ∙ none)
      (start_act_is k o calls pool slots old job g.item g.lacks) g.slot g.out g.coder g.place (subst (λ (l : List MediaRef). AreOf pool l) (sym g.held) (are_split pool (in_order old.working) old.waiting st.held).1) gives.1)

  pub stands_ends : (n : ℕ) (old new : Holding) (d : DoneValue) (acq : Acquires) (moment : ℕ) (back : EndedValue) (log : Log Event) (p : Passage Event) → Sj old log → MayEndAt k o slots n log d (acquires_of acq) → Ends old new d moment back → PassageIs true new.codec.history acq p → Sj new (log ++ (n, p) ∷ [])
  stands_ends n old new d acq moment back log p st may g is =
      subst (λ (q : Passage Event). Sj new (log ++ (n, q) ∷ [])) (sym is.1)
      (stands_done k o calls pool slots n old new is.0 d (acquires_of acq) moment log st may g.made (event_is old.codec new.codec (entry_of is.0) (Entry.Done d.epoch d.number moment (outcome_of d.ended)) is.2 g.made) (ap acquires_of is.3) g.slot g.working g.waiting g.spare)

  start_box : (old new : Holding) (job : JobValue) (log : Log Event) → Sj old log → Starts old new job → BoxIs k (track o log).holds.since (track o log).holds.box job.coder
  start_box old new job log st g =
      let idle = start_idle k o calls pool slots old new job log st g.made (start_act_is k o calls pool slots old job g.item g.lacks) in
      subst (λ (z : Option Lent). BoxIs k (track o log).holds.since (track o log).holds.box z) (sym g.coder) (home_box k o calls pool slots (track o log).holds old.codec.slot idle.runs st.box)

  start_due : (old new : Holding) (ev : Event) (job : JobValue) (log : Log Event) → Sj old log → Starts old new job → entry_of ev ≡ Entry.Start job.epoch job.number → acquires_of ev.acquires ≡ [] → slot_dues k ev (track o log) ≡ given_if k (missing_id job) job.place job.coder
  start_due old new ev job log st g eq none =
      let x : Track = track o log in
      let here : act_in ev x ≡ start_act (missing_id job) = (λ i. act_of (eq i) (sym st.state i)) ∙ start_act_is k o calls pool slots old job g.item g.lacks in
      let at : x.holds.place ≡ job.place = (legal_log k o log st.legal).place ∙ (ap length (sym st.history) ∙ sym g.place) in
      (λ i. none i ++ map (give_by k x.holds.place) (lets_go_by (here i) (box_of (none i)) x.holds))
      ∙ due_start k (missing_id job) x.holds job.place job.coder (start_box old new job log st g) at

  start_ends : (ev : Event) (job : JobValue) (log : Log Event) → entry_of ev ≡ Entry.Start job.epoch job.number → media_dues k ev (track o log) ≡ []
  start_ends ev job log eq = let x : Track = track o log in ap (λ (e : Entry). clones_at x.holds.place (adds_held e) ++ ends_at x.holds.place (lets_go e x.state)) eq

  done_ends : (old new : Holding) (ev : Event) (d : DoneValue) (moment : ℕ) (back : EndedValue) (log : Log Event) → Sj old log → Ends old new d moment back → entry_of ev ≡ Entry.Done d.epoch d.number moment (outcome_of d.ended) → media_dues k ev (track o log) ≡ ends_at back.place (map pair_of (in_order back.media))
  done_ends old new ev d moment back log st g eq =
      let x : Track = track o log in
      let at : x.holds.place ≡ back.place = (legal_log k o log st.legal).place ∙ (ap length (sym st.history) ∙ sym g.place) in
      let gone : lets_go (entry_of ev) x.state ≡ map pair_of (in_order back.media) = (λ i. lets_go (eq i) (sym st.state i)) ∙ sym g.gone in
      (λ i. clones_at (at i) (adds_held (eq i)) ++ ends_at (at i) (gone i))

  done_due : (n : ℕ) (old new : Holding) (ev : Event) (d : DoneValue) (acq : Acquires) (moment : ℕ) (back : EndedValue) (log : Log Event) → Sj old log → MayEndAt k o slots n log d (acquires_of acq) → Ends old new d moment back → entry_of ev ≡ Entry.Done d.epoch d.number moment (outcome_of d.ended) → acquires_of ev.acquires ≡ acquires_of acq
      → slot_dues k ev (track o log) ≡ acquires_of acq ++ gives_of k back.place back.coder
  done_due n old new ev d acq moment back log st may g eq asks =
      let x : Track = track o log in
      let legal = legal_log k o log st.legal in
      let current : Bool = eqb d.epoch (state_at old.codec).control.epoch in
      let old_is : x.holds.old ≡ not current =
      legal.old
      ∙ (ap (λ (r : Option Running). is_old r x.state.control.epoch) may.end.is_running
      ∙ (λ i. not (eqb (may.end.same_epoch i) (sym st.state i).control.epoch))) in
      let here : act_in ev x ≡ boxes.Ends = (λ i. act_of (eq i) x.state) in
      let at : x.holds.place ≡ back.place = legal.place ∙ (ap length (sym st.history) ∙ sym g.place) in
      (λ i. asks i ++ map (give_by k x.holds.place) (lets_go_by (here i) (box_of (asks i)) x.holds))
      ∙ ((λ i. acquires_of acq ++ due_end k x.holds.since (newer (box_of (acquires_of acq)) x.holds.box) x.holds.place back.place d.coder x.holds.old current old_is may.box at i)
      ∙ (λ i. acquires_of acq ++ gives_of k back.place (sym g.hands i)))

module _ {S : Type 0} (s : Shared) where
  pub tells_start : (result : Option JobValue) (old new : Holding) (p : Passage Event) (acq : Acquires) (a c : Seat (Option S) (View Event)) (passes : Passes no_mint no_spend p a c) → acquires_of acq ≡ [] → StartGives old new result → PassageIs (is_some result) new.codec.history acq p
      → StandsAt s old passes.log → StandsAt s new (passes.log ++ (a.me.0.number, p) ∷ []) → StartTells s result a c
  tells_start None old new p acq a c passes none gives is st next = record {
    looked = looked_in s p a c passes is st.legal;
    none = ap (λ (t : State). start_item t.control) (sym st.state) ∙ gives.0;
  }
  tells_start (Some job) old new p acq a c passes none gives is st next =
      let g = gives.0 in
      let eq = event_is old.codec new.codec (entry_of is.0) (Entry.Start job.epoch job.number) is.2 g.made in
      let made : StandsAt s new (passes.log ++ (a.me.0.number, Made is.0) ∷ []) = subst (λ (q : Passage Event). StandsAt s new (passes.log ++ (a.me.0.number, q) ∷ [])) is.1 next in
      let has = has_job s.codec s.opening s.calls s.pool s.slots a.me.0.number old new is.0 job passes.log st g.made eq (ap acquires_of is.3 ∙ none) (start_act_is s.codec s.opening s.calls s.pool s.slots old job g.item g.lacks) g.coder g.place g.job_is made in
      record {
        made = made_in s (Entry.Start job.epoch job.number) [] p is.0 new a c passes is.1 eq (ap acquires_of is.3 ∙ none) st.legal next;
        has = subst (λ (v : View Event). HasJob s v job) (sym (ap (λ (m : Sitting S Event). m.0) passes.view ∙ ap (λ (q : Passage Event). after_passage no_mint no_spend a.me.0 passes.log q) is.1)) has;
        is_place = g.place ∙ ap length st.history;
        gives = start_due s.codec s.opening s.calls s.pool s.slots old new is.0 job passes.log st g eq (ap acquires_of is.3 ∙ none);
        later = λ lacks. later_of s.codec new.codec job.place job.coder (of_box s.codec _ _ job.coder (start_box s.codec s.opening s.calls s.pool s.slots old new job passes.log st g)) (g.lets lacks);
        ends = start_ends s.codec s.opening s.calls s.pool s.slots is.0 job passes.log eq;
      }

  pub tells_done : (old new : Holding) (d : DoneValue) (acq : Acquires) (moment : ℕ) (back : EndedValue) (p : Passage Event) (a c : Seat (Option S) (View Event)) (passes : Passes no_mint no_spend p a c) → StandsAt s old passes.log → MayEndAt s.codec s.opening s.slots a.me.0.number passes.log d (acquires_of acq) → Ends old new d moment back
      → PassageIs true new.codec.history acq p → StandsAt s new (passes.log ++ (a.me.0.number, p) ∷ []) → DoneIn s d (acquires_of acq) moment back a c
  tells_done old new d acq moment back p a c passes st may g is next = record {
    made = made_in s (Entry.Done d.epoch d.number moment (outcome_of d.ended)) (acquires_of acq) p is.0 new a c passes is.1 (event_is old.codec new.codec (entry_of is.0) (Entry.Done d.epoch d.number moment (outcome_of d.ended)) is.2 g.made) (ap acquires_of is.3) st.legal next;
    is_place = g.place ∙ ap length st.history;
    media = subst (λ (r : Option MediaRef). IfOf s.pool r) (sym g.media) (if_of s.pool old.working (are_split s.pool (in_order old.working) old.waiting st.held).0);
    out = subst (λ (z : Option Lent). IfOut s.slots z) (sym g.hands) (out_back s.slots (eqb d.epoch (state_at old.codec).control.epoch) d.coder may.out);
    goes = goes_in new.codec (codec_of s c.me.0.log) back.place back.coder (sym next.opening) (ap (λ (m : Sitting S Event). history_of m.0.log) passes.view ∙ sym next.history) g.lets;
    gives = done_due s.codec s.opening s.calls s.pool s.slots a.me.0.number old new is.0 d acq moment back passes.log st may g (event_is old.codec new.codec (entry_of is.0) (Entry.Done d.epoch d.number moment (outcome_of d.ended)) is.2 g.made) (ap acquires_of is.3);
    later = later_of s.codec new.codec back.place back.coder (subst (λ (z : Option Lent). OfCodec s.codec z) (sym g.hands) (of_back s.codec (eqb d.epoch (state_at old.codec).control.epoch) d.coder (of_box s.codec _ _ d.coder may.box))) g.lets;
    ends = done_ends s.codec s.opening s.calls s.pool s.slots old new is.0 d moment back passes.log st g (event_is old.codec new.codec (entry_of is.0) (Entry.Done d.epoch d.number moment (outcome_of d.ended)) is.2 g.made);
  }
