-- Where a promise is resolved, all is shown that calls before its flush gave.
use Rattle.std.proofs.Common.{ℕ, suc, ◌≡◌, ◌+◌, ◌≤◌, ◌<◌, ◌&&◌, Bool, true, false, eqb, cond, List, [], ◌∷◌, ◌++◌, append_assoc, append-nil, length, take, drop, slice_get, Option, Some, None, is_some, refl, ap, sym, subst, ◌∙◌, inl, inr, arith}
use Rattle.std.specs.Prelude.{option_and_then}
use Rattle.std.specs.List.{AllByRecursion}
use Rattle.std.proofs.lemmas.Bool.{cases_lt, and_parts, eqb-true}
use Rattle.std.proofs.lemmas.Option.{option_and_then_some}
use Rattle.wc_base.specs.{declared.error.DomError.DomError, Options.some_same}
use Rattle.codec_definitions.specs.declared.unit.Unit as media
use Rattle.codec_model.specs.declared.entry.{WorkKind.WorkKind, Running.Running, Call.Call, Entry.Entry, Outcome.Outcome, Event.Event, Task.Task, PromiseEnd.PromiseEnd, PromiseState.PromiseState}
use Rattle.codec_model.specs.Control.{Control, kind_of, at_next_place, done_running, carried}
use Rattle.codec_model.specs.Replay.{State, with_control, call_error, opening_state, step, replay_from}
use Rattle.codec_model.specs.Shown.{shows, shown_at, ends_of, units_in, rejections, call_shows, refused_shows, promise_of, promise_ended, outputs_from as output_events, turn_shows}
use Rattle.codec_model.specs.StepLaws.{EachStep, by_steps}
use Rattle.codec_laws.specs.declared.source.{Source.Source, Output.Output}
use Rattle.codec_laws.specs.declared.sight.{Sight.Sight, Ran.Ran}
use Rattle.codec_laws.specs.Sights.{rejects_with, ran, sight_of, sights, sights_from, removes_at, NoneRemoves}
use Rattle.codec_laws.specs.Sources.{Book, given_by, shown_by, outputs, outputs_at, outputs_from, given_at, given_from, empty_book, book_after, kept, removed, after_item, after_ran, after_asked, end_at, end_from, first_of}
use Rattle.codec_laws.specs.Laws.{IsShownBy, ResolvedLast}
use Rattle.codec_laws.proofs.Course.{Asked, waiting_asked, Course, course_after, past_after, fresh}
use Rattle.codec_laws.proofs.FlowLaws.{Flow, mid_now, step_flow}
use Rattle.codec_laws.proofs.OutLaws.{Outs, step_outs, flushed_units, carried_long, kinds_at, take_and_drop}
use Rattle.codec_laws.proofs.PlaceLaws.{Fine, Rising, rising_high, rising_front, Calls, Here, here_first, here_rest, since_after, calls_more, step_phases, waits_fine, all_at, all_front, all_back, all_both, next_book}
use Rattle.codec_laws.proofs.PromiseLaws.{Promises, count, flushed_at, none_before, step_promises, step_conserves, ends_balance}
use Rattle.codec_laws.proofs.RejectLaws.{removal_rejects}
use Rattle.codec_laws.proofs.OnlyLaws.{none_found}
use Rattle.codec_laws.proofs.LineLaws.{behind, behind_up, rising_behind, IsOf, IsLate, LinedUp, Lined, all_map, lined_low, lined_late, brought, mid_behind, given_own, step_lined}
use Rattle.codec_laws.proofs.OldLaws.{opening_course, opening_flow, opening_outs}
use Rattle.codec_laws.proofs.EndLaws.{legal_state, opening_promises}

-- ---- what resolves a promise

no_rejection : (p q t : ℕ) (error : DomError) (ps : List ℕ) (xs : List Event) → ends_of xs ≡ [] → end_at p q (ends_of (rejections error ps ++ xs)) ≡ Some (t, PromiseState.Resolved) → ⊥
no_rejection p q t error [] xs none h = let e : ◌≡◌ {A = Option (ℕ × PromiseState)} None (Some (t, PromiseState.Resolved)) = ap (λ (l : List PromiseEnd). end_at p q l) (sym none) ∙ h in absurd cc
no_rejection p q t error (r ∷ ps) xs none h = by (eqb r p) h (no_rejection p q t error ps xs none)
  where
    by : (b : Bool) → cond b (Some (q, PromiseState.Rejected error)) (end_at p q (ends_of (rejections error ps ++ xs))) ≡ Some (t, PromiseState.Resolved) → (end_at p q (ends_of (rejections error ps ++ xs)) ≡ Some (t, PromiseState.Resolved) → ⊥) → ⊥
    by true h rest = absurd (let same : PromiseState.Rejected error ≡ PromiseState.Resolved = ap (λ (e : ℕ × PromiseState). e.1) (some_same _ _ h) in cc)
    by false h rest = rest h

no_removal : (p q t : ℕ) (error : DomError) (ps : List ℕ) → end_at p q (ends_of (rejections error ps)) ≡ Some (t, PromiseState.Resolved) → ⊥
no_removal p q t error ps h = no_rejection p q t error ps [] refl (ap (λ (xs : List Event). end_at p q (ends_of xs)) (append-nil (rejections error ps)) ∙ h)

no_call : (p q t place : ℕ) (y : Call) (ps : List ℕ) (o : Option DomError) → end_at p q (ends_of (call_shows y place ps o)) ≡ Some (t, PromiseState.Resolved) → ⊥
no_call p q t place y ps (Some error) h = refused (promise_of y place) h
  where
    refused : (r : Option ℕ) → end_at p q (ends_of (refused_shows r error)) ≡ Some (t, PromiseState.Resolved) → ⊥
    refused None h = absurd cc
    refused (Some r) h = no_removal p q t error (r ∷ []) h
no_call p q t place Call.Reset ps None h = no_removal p q t DomError.Abort ps h
no_call p q t place Call.Close ps None h = no_removal p q t DomError.Abort ps h
no_call p q t place y ps None h = absurd cc

-- its task
pub record Resolves (p : ℕ) (ts : List Task) : Type 0 where
  units : List media.Unit
  rest : List Task
  is : ts ≡ Task.Flushed p units ∷ rest

outputs_none : (n : ℕ) (us : List media.Unit) (xs : List Event) → ends_of (output_events n us ++ xs) ≡ ends_of xs
outputs_none n [] xs = refl
outputs_none n (u ∷ us) xs = outputs_none (n + 1) us xs

by_turn : (p q t : ℕ) (ts : List Task) (c : Control) → end_at p q (ends_of (turn_shows ts c)) ≡ Some (t, PromiseState.Resolved) → Resolves p ts
by_turn p q t [] c h = absurd cc
by_turn p q t (Task.Output us ∷ ts) c h = let e : ◌≡◌ {A = Option (ℕ × PromiseState)} None (Some (t, PromiseState.Resolved)) = sym (ap (λ (l : List PromiseEnd). end_at p q l) (ap (λ (xs : List Event). ends_of xs) (sym (append-nil (output_events c.shown (carried c.active us)))) ∙ outputs_none c.shown (carried c.active us) [])) ∙ h in absurd cc
by_turn p q t (Task.Flushed r us ∷ ts) c h = by (eqb r p) refl (sym (ap (λ (l : List PromiseEnd). end_at p q l) (outputs_none c.shown (carried c.active us) (Event.Resolve r ∷ []))) ∙ h)
  where
    by : (b : Bool) → eqb r p ≡ b → cond {A = Option (ℕ × PromiseState)} b (Some (q, PromiseState.Resolved)) None ≡ Some (t, PromiseState.Resolved) → Resolves p (Task.Flushed r us ∷ ts)
    by true e h = record { units = us; rest = ts; is = ap (λ (n : ℕ). Task.Flushed n us ∷ ts) (eqb-true r p e) }
    by false e h = absurd cc
by_turn p q t (Task.Close error ∷ ts) c h = absurd (no_rejection p q t error c.pending (Event.ErrorCall error ∷ []) refl h)
by_turn p q t (u ∷ ts) c h = absurd cc

-- what a resolving turn shows
pub record Turns (e : Entry) (s : State) (p : ℕ) : Type 0 where
  by : Resolves p s.control.tasks
  ran_none : ran e ≡ None
  many : length (units_in (shows e s)) ≡ length by.units
  stays : rejects_with e (shown_at e s) ≡ None

pub turns : (p t : ℕ) (e : Entry) (s : State) → end_at p s.control.place (ends_of (shows e s)) ≡ Some (t, PromiseState.Resolved) → Turns e s p
turns p t (Entry.Call who y) s h = absurd (no_call p s.control.place t s.control.place y s.control.pending (call_error y s.control) h)
turns p t Entry.Turn s h =
    let k = by_turn p s.control.place t s.control.tasks s.control h in
    record {
      by = k;
      ran_none = refl;
      many = ap (λ (ts : List Task). length (units_in (turn_shows ts s.control))) k.is ∙ (ap (λ (us : List media.Unit). length us) (flushed_units s.control.shown p (carried s.control.active k.units)) ∙ carried_long s.control.active k.units);
      stays = rw k.is refl;
    }
turns p t (Entry.Reclaim moment) s h = absurd (no_rejection p s.control.place t DomError.QuotaExceeded s.control.pending (Event.ErrorCall DomError.QuotaExceeded ∷ []) refl h)
turns p t e s h = absurd cc

end_place : (p q : ℕ) (es : List PromiseEnd) (e : ℕ × PromiseState) → end_at p q es ≡ Some e → e.0 ≡ q
end_place p q [] e h = absurd cc
end_place p q (x ∷ xs) e h = by (eqb x.promise p) h (end_place p q xs e)
  where
    by : (b : Bool) → cond b (Some (q, promise_ended x.error)) (end_at p q xs) ≡ Some e → (end_at p q xs ≡ Some e → e.0 ≡ q) → e.0 ≡ q
    by true h rest = sym (ap (λ (f : ℕ × PromiseState). f.0) (some_same _ e h))
    by false h rest = rest h

end_late : (p n : ℕ) (xs : List Sight) (e : ℕ × PromiseState) → end_from p n xs ≡ Some e → n ≤ e.0
end_late p n [] e h = absurd cc
end_late p n (x ∷ xs) e h = by (end_at p n x.ends) refl h (end_late p (n + 1) xs e)
  where
    by : (o : Option (ℕ × PromiseState)) → end_at p n x.ends ≡ o → first_of o (end_from p (n + 1) xs) ≡ Some e → (end_from p (n + 1) xs ≡ Some e → n + 1 ≤ e.0) → n ≤ e.0
    by None is h rest = let k = rest h in omega (arith, k)
    by (Some f) is h rest = let k = end_place p n x.ends f is in let same : f ≡ e = some_same f e h in omega (arith, k, ap (λ (g : ℕ × PromiseState). g.0) same)

removal_flushes : (p place : ℕ) (e : Entry) (s : State) (error : DomError) → rejects_with e (shown_at e s) ≡ Some error → flushed_at p e place ≡ 0
removal_flushes p place (Entry.Call who Call.Flush) s error is = absurd cc
removal_flushes p place e s error is = refl

removal_ran : (e : Entry) (s : State) (error : DomError) → rejects_with e (shown_at e s) ≡ Some error → ran e ≡ None
removal_ran (Entry.Done epoch item moment (Outcome.Ran n)) s error is = absurd cc
removal_ran e s error is = refl

-- ---- what is given from a place on

item_late : (k : WorkKind) (n a p : ℕ) (b : Book) → p < a → AllByRecursion (IsLate (p + 1)) (after_item n (Some (a, k)) (record b { waiting = [] })).waiting
item_late WorkKind.Configure n a p b lt = tt
item_late WorkKind.Coded n a p b lt = all_map (IsOf a) (IsLate (p + 1)) (given_by a b.configure b.given n) (λ y is. omega (arith, lt, is)) (given_own a b.configure b.given n)
item_late WorkKind.Flush n a p b lt = all_map (IsOf a) (IsLate (p + 1)) (given_by a b.configure b.given n) (λ y is. omega (arith, lt, is)) (given_own a b.configure b.given n)

call_here : (x : Course) (s : State) (a : Asked) (item : ℕ) → Flow x s → x.mid ≡ a ∷ [] → item ≡ length x.past → slice_get x.book.calls item ≡ Some (a.0, kind_of a.1)
call_here x s a item f mid number = rw (f.calls, f.works, mid, number) (kinds_at x.past a (waiting_asked s.control))

abbrev GivesLate : Entry → State → State → Type 0
GivesLate e s t = (x : Course) (since p : ℕ) → Flow x s → Rising since x.works s.control.place → p < behind x.past since → AllByRecursion (IsLate (p + 1)) (after_ran (ran e) (record x.book { waiting = [] })).waiting

done_late : (r : Running) (epoch item moment : ℕ) (o : Outcome) (s t : State) → s.control.running ≡ Some r → (eqb r.epoch epoch && eqb r.number item) ≡ true → GivesLate (Entry.Done epoch item moment o) s t
done_late r epoch item moment (Outcome.Ran n) s t running own x since p f rises lt = by (eqb epoch x.book.epoch) refl
  where
    by : (b : Bool) → eqb epoch x.book.epoch ≡ b → AllByRecursion (IsLate (p + 1)) (cond b (after_item n (slice_get x.book.calls item) (record x.book { waiting = [] })) (record x.book { waiting = [] })).waiting
    by false is = tt
    by true is =
        let parts = and_parts (eqb r.epoch epoch) (eqb r.number item) own in
        let now : r.epoch ≡ s.control.epoch = eqb-true r.epoch epoch parts.0 ∙ (eqb-true epoch x.book.epoch is ∙ f.epoch) in
        let k = mid_now x.mid (length x.past) s r running now f.mid in
        let same : k.2.r ≡ r = some_same k.2.r r (sym k.2.is ∙ running) in
        let number : item ≡ length x.past = sym (eqb-true r.number item parts.1) ∙ (ap (λ (q : Running). q.number) (sym same) ∙ k.2.number) in
        let calls = call_here x s k.0 item f k.1 number in
        let far = mid_behind since x s k.0 f rises k.1 in
        subst (λ (q : Option (ℕ × WorkKind)). AllByRecursion (IsLate (p + 1)) (after_item n q (record x.book { waiting = [] })).waiting) (sym calls) (item_late (kind_of k.0.1) n k.0.0 p x.book (omega (arith, far, lt)))
done_late r epoch item moment o s t running own x since p f rises lt = tt

each_late : EachStep GivesLate
each_late = record {
  refused = λ who y error s may e x since p f rises lt. tt;
  sent = λ who y w s m may e x since p f rises lt. tt;
  removes_all = λ who y s is e x since p f rises lt. tt;
  takes = λ who unit s may x since p f rises lt. tt;
  grounds = λ who to s x since p f rises lt. tt;
  start = λ i is epoch item s first may x since p f rises lt. tt;
  done = λ r e epoch item moment o s running own is. done_late r epoch item moment o s (with_control (done_running r e moment (at_next_place s.control)) s) running own;
  turn = λ t ts s first x since p f rises lt. tt;
  reclaim = λ moment s may x since p f rises lt. tt;
}

step_late : (e : Entry) (s t : State) → step e s ≡ Some t → GivesLate e s t
step_late = by_steps GivesLate each_late

-- the calls that ran only get more
behind_low : (qs : List Asked) (low high : ℕ) → Rising low qs high → low ≤ behind qs low
behind_low [] low high h = omega arith
behind_low (a ∷ qs) low high h = let k = behind_low qs (a.0 + 1) high h.1 in let l = h.0 in omega (arith, k, l)

behind_both : (qs more : List Asked) (low high : ℕ) → Rising low (qs ++ more) high → behind qs low ≤ behind (qs ++ more) low
behind_both [] more low high h = behind_low more low high h
behind_both (a ∷ qs) more low high h = behind_both qs more (a.0 + 1) high h.1

past_behind : (e : Entry) (s : State) (x : Course) (since : ℕ) → Flow x s → Rising since x.works s.control.place → behind x.past since ≤ behind (past_after e s x) since
past_behind (Entry.Done epoch item moment (Outcome.Ran n)) s x since f rises = by (eqb epoch s.control.epoch)
  where
    by : (b : Bool) → behind x.past since ≤ behind (cond b (x.past ++ x.mid) x.past) since
    by true = behind_both x.past x.mid since s.control.place (rising_front since s.control.place (x.past ++ x.mid) (waiting_asked s.control) (subst (λ (qs : List Asked). Rising since qs s.control.place) f.works rises))
    by false = omega arith
past_behind e s x since f rises = omega arith

-- ---- shown

shown_next : (ys : List Output) (z : Output) (y : Source) (t : ℕ) → IsShownBy ys y t → IsShownBy (z ∷ ys) y t
shown_next ys z y t h = record { number = suc h.number; output = h.output; shown = h.shown; same = h.same; before = h.before }

shown_behind : (zs ys : List Output) (y : Source) (t : ℕ) → IsShownBy ys y t → IsShownBy (zs ++ ys) y t
shown_behind [] ys y t h = h
shown_behind (z ∷ zs) ys y t h = shown_next (zs ++ ys) z y t (shown_behind zs ys y t h)

shown_all : (place t : ℕ) (ws : List Source) (rest : List Output) → place ≤ t → AllByRecursion (λ (y : Source). IsShownBy (shown_by place ws ++ rest) y t) ws
shown_all place t [] rest le = tt
shown_all place t (w ∷ ws) rest le = (
  record { number = 0; output = record { source = w; turn = place }; shown = refl; same = refl; before = le },
  all_map (λ (y : Source). IsShownBy (shown_by place ws ++ rest) y t) (λ (y : Source). IsShownBy (shown_by place (w ∷ ws) ++ rest) y t) ws (λ y h. shown_next (shown_by place ws ++ rest) (record { source = w; turn = place }) y t h) (shown_all place t ws rest le),
)

-- what waits after an entry that is no removal
ran_waiting : (r : Option Ran) (b : Book) (ws : List Source) → (after_ran r (record b { waiting = ws })).waiting ≡ ws ++ (after_ran r (record b { waiting = [] })).waiting
ran_waiting None b ws = sym (append-nil ws)
ran_waiting (Some r) b ws = by (eqb r.epoch b.epoch)
  where
    item : (o : Option (ℕ × WorkKind)) → (after_item r.units o (record b { waiting = ws })).waiting ≡ ws ++ (after_item r.units o (record b { waiting = [] })).waiting
    item None = sym (append-nil ws)
    item (Some (a, WorkKind.Configure)) = sym (append-nil ws)
    item (Some (a, WorkKind.Coded)) = refl
    item (Some (a, WorkKind.Flush)) = refl

    by : (c : Bool) → (cond c (after_item r.units (slice_get b.calls r.item) (record b { waiting = ws })) (record b { waiting = ws })).waiting ≡ ws ++ (cond c (after_item r.units (slice_get b.calls r.item) (record b { waiting = [] })) (record b { waiting = [] })).waiting
    by true = item (slice_get b.calls r.item)
    by false = sym (append-nil ws)

asked_waiting : (k : Option WorkKind) (b : Book) → (after_asked k b).waiting ≡ b.waiting
asked_waiting None b = refl
asked_waiting (Some k) b = refl

kept_waiting : (v : Sight) (b : Book) → (kept v b).waiting ≡ drop v.outputs b.waiting ++ given_at v b
kept_waiting v b = asked_waiting v.asks (after_ran v.ran (record b { waiting = drop v.outputs b.waiting })) ∙ ran_waiting v.ran b (drop v.outputs b.waiting)

-- ---- the walk

module _ (whole : List Sight) (p t : ℕ) where
  -- what a call gave before the flush, but for what a removal took, is shown
  abbrev Early : List Output → Source → Type 0
  Early ys y = y.call < p → NoneRemoves whole y.call p → IsShownBy ys y t

  late_early : (ys : List Output) (ws : List Source) → AllByRecursion (IsLate (p + 1)) ws → AllByRecursion (Early ys) ws
  late_early ys ws h = all_map (IsLate (p + 1)) (Early ys) ws (λ y late lt none. absurd (omega (arith, late, lt))) h

  early_behind : (zs ys : List Output) (ws : List Source) → AllByRecursion (Early ys) ws → AllByRecursion (Early (zs ++ ys)) ws
  early_behind zs ys ws h = all_map (Early ys) (Early (zs ++ ys)) ws (λ y k lt none. shown_behind zs ys y t (k lt none)) h

  shown_early : (place : ℕ) (ws : List Source) (rest : List Output) → place ≤ t → AllByRecursion (Early (shown_by place ws ++ rest)) ws
  shown_early place ws rest le = all_map (λ (y : Source). IsShownBy (shown_by place ws ++ rest) y t) (Early (shown_by place ws ++ rest)) ws (λ y k lt none. k) (shown_all place t ws rest le)

  assembled : (E : Source → Type 0) (n : ℕ) (ws gs more : List Source) → AllByRecursion E (take n ws) → AllByRecursion E (drop n ws) → AllByRecursion E gs → AllByRecursion E more → AllByRecursion E (ws ++ (gs ++ more))
  assembled E n ws gs more a b c d = all_both E ws (gs ++ more) (subst (λ (l : List Source). AllByRecursion E l) (take_and_drop n ws) (all_both E (take n ws) (drop n ws) a b)) (all_both E gs more c d)

  -- the calls that ran stand behind this place
  since_behind : (e : Entry) (s r : State) (since : ℕ) (x : Course) → Flow x s → Calls whole since x s → p < behind x.past since → p < behind (course_after e s x).past (since_after whole (sight_of e (shown_at e s) r.control.size) s.control.place since)
  since_behind e s r since x f c lt = by (is_some (rejects_with e (shown_at e s))) refl
    where
      by : (b : Bool) → is_some (rejects_with e (shown_at e s)) ≡ b → p < behind (course_after e s x).past (since_after whole (sight_of e (shown_at e s) r.control.size) s.control.place since)
      by true is =
          let works : Rising since (x.past ++ (x.mid ++ waiting_asked s.control)) s.control.place = subst (λ (qs : List Asked). Rising since qs s.control.place) (f.works ∙ append_assoc x.past x.mid (waiting_asked s.control)) c.rises in
          let high = rising_high (behind x.past since) s.control.place (x.mid ++ waiting_asked s.control) (rising_behind since s.control.place x.past (x.mid ++ waiting_asked s.control) works) in
          rw is (omega (arith, lt, high))
      by false is = let more = past_behind e s x since f c.rises in rw is (omega (arith, lt, more))

  later_from : (es : List Entry) (s u : State) (since : ℕ) (x : Course) → Flow x s → Calls whole since x s → Here whole s.control.place (sights_from es s) → replay_from es s ≡ Some u → p < behind x.past since → AllByRecursion (IsLate (p + 1)) (given_from (sights_from es s) x.book)
  later_from [] s u since x f c here legal lt = tt
  later_from (e ∷ es) s u since x f c here legal lt = option_and_then_some (replay_from es) (step e s) u legal (λ r is more.
      let v = sight_of e (shown_at e s) r.control.size in
      let q = step_phases e s r is in
      let here_now : Here whole s.control.place (v ∷ sights_from es r) = λ n. rw is at (here n) in
      let calls = calls_more whole e s r v since x q refl refl (here_first whole s.control.place v (sights_from es r) here_now) f.place c in
      let rest = later_from es r u (since_after whole v s.control.place since) (course_after e s x) (step_flow e s r is x f) calls (here_rest whole s.control.place r.control.place v (sights_from es r) q.place here_now) more (since_behind e s r since x f c lt) in
      let book : (course_after e s x).book ≡ book_after v x.book = next_book whole (is_some v.removes) (fresh x) _ (removed x.book) (kept v x.book) refl refl in
      rw is (all_both (IsLate (p + 1)) (given_at v x.book) (given_from (sights_from es r) (book_after v x.book)) (step_late e s r is x since p f c.rises lt) (subst (λ (b : Book). AllByRecursion (IsLate (p + 1)) (given_from (sights_from es r) b)) book rest)))

  -- from this place on, the promise is first resolved at t
  abbrev Found : ℕ → List Sight → Type 0
  Found place xs = end_from p place xs ≡ Some (t, PromiseState.Resolved)

  removes_here : (place : ℕ) (v : Sight) → slice_get whole place ≡ Some v → removes_at whole place ≡ v.removes
  removes_here place v here = ap (λ (o : Option Sight). option_and_then (λ (y : Sight). y.removes) o) here

  -- nothing is resolved behind a removal that was pending at it
  gone : (e : Entry) (es : List Entry) (s r u : State) (x : Course) (error : DomError) → step e s ≡ Some r → Flow x s → Promises x s.control → replay_from es r ≡ Some u → rejects_with e (shown_at e s) ≡ Some error → p < r.control.place → Found r.control.place (sights_from es r) → ⊥
  gone e es s r u x error is f h more removal lt found =
      let conserves = step_conserves p e s r is x h in
      let number = (removal_rejects p s.control.place error e s removal).number in
      let none : count p r.control.pending ≡ 0 = omega (arith, conserves, number, removal_flushes p s.control.place e s error removal) in
      let balance = (ends_balance p es r u (course_after e s x) (step_flow e s r is x f) (step_promises e s r is x f h) more).balance in
      let nowhere = none_found p r.control.place (sights_from es r) (omega (arith, balance, none, none_before p es r.control.place lt)) in
      let e : ◌≡◌ {A = Option (ℕ × PromiseState)} None (Some (t, PromiseState.Resolved)) = sym nowhere ∙ found in absurd cc

  resolved_from : (es : List Entry) (s u : State) (since : ℕ) (x : Course) → Flow x s → Outs x s.control → Lined x s.control → Promises x s.control → Calls whole since x s → Here whole s.control.place (sights_from es s) → replay_from es s ≡ Some u → Found s.control.place (sights_from es s) → AllByRecursion (Early (outputs_from (sights_from es s) x.book)) (x.book.waiting ++ given_from (sights_from es s) x.book)
  resolved_from [] s u since x f o l h c here legal found = absurd cc
  resolved_from (e ∷ es) s u since x f o l h c here legal found = option_and_then_some (replay_from es) (step e s) u legal (λ r is more.
      let v = sight_of e (shown_at e s) r.control.size in
      let q = step_phases e s r is in
      let here_now : Here whole s.control.place (v ∷ sights_from es r) = λ n. rw is at (here n) in
      let first = here_first whole s.control.place v (sights_from es r) here_now in
      let next = here_rest whole s.control.place r.control.place v (sights_from es r) q.place here_now in
      let calls = calls_more whole e s r v since x q refl refl first f.place c in
      let g = step_flow e s r is x f in
      let book : (course_after e s x).book ≡ book_after v x.book = next_book whole (is_some v.removes) (fresh x) _ (removed x.book) (kept v x.book) refl refl in
      let now : first_of (end_at p s.control.place v.ends) (end_from p (s.control.place + 1) (sights_from es r)) ≡ Some (t, PromiseState.Resolved) = rw is at found in
      let rest = λ (k : Found r.control.place (sights_from es r)). subst (λ (b : Book). AllByRecursion (Early (outputs_from (sights_from es r) b)) (b.waiting ++ given_from (sights_from es r) b)) book (resolved_from es r u (since_after whole v s.control.place since) (course_after e s x) g (step_outs e s r is x f o) (step_lined e s r is x since f c.rises l) (step_promises e s r is x f h) calls next more k) in
      let later = λ (lt : p < behind x.past since). subst (λ (b : Book). AllByRecursion (IsLate (p + 1)) (given_from (sights_from es r) b)) book (later_from es r u (since_after whole v s.control.place since) (course_after e s x) g calls next more (since_behind e s r since x f c lt)) in
      let given = λ (lt : p < behind x.past since). step_late e s r is x since p f c.rises lt in
      rw is (by r v (end_at p s.control.place v.ends) refl now refl q.place first rest later given (λ error removal lt k. gone e es s r u x error is f h more removal lt k)))
    where
      goal : State → Sight → Type 0
      goal r v = AllByRecursion (Early (outputs_at v x.book ++ outputs_from (sights_from es r) (book_after v x.book))) (x.book.waiting ++ (given_at v x.book ++ given_from (sights_from es r) (book_after v x.book)))

      resolved : (r : State) → end_at p s.control.place (ends_of (shows e s)) ≡ Some (t, PromiseState.Resolved)
          → (p < behind x.past since → AllByRecursion (IsLate (p + 1)) (given_from (sights_from es r) (book_after (sight_of e (shown_at e s) r.control.size) x.book)))
          → (p < behind x.past since → AllByRecursion (IsLate (p + 1)) (given_at (sight_of e (shown_at e s) r.control.size) x.book))
          → goal r (sight_of e (shown_at e s) r.control.size)
      resolved r own later given =
          let v = sight_of e (shown_at e s) r.control.size in
          let k = turns p t e s own in
          let at : t ≡ s.control.place = end_place p s.control.place (ends_of (shows e s)) (t, PromiseState.Resolved) own in
          let lined : LinedUp 0 (Task.Flushed p k.by.units ∷ k.by.rest) x.book.waiting (behind x.past 0) = subst (λ (ts : List Task). LinedUp 0 ts x.book.waiting (behind x.past 0)) k.by.is l in
          let low = lined_low k.by.rest (p + 1) lined.0 (behind x.past 0) lined.2 in
          let up = behind_up x.past 0 since (omega arith) in
          let lt : p < behind x.past since = omega (arith, low, up) in
          let left : drop v.outputs x.book.waiting ≡ lined.0 = brought p k.by.units (units_in (shows e s)) 0 x.book.waiting lined.0 k.many lined.1 in
          let out = outputs_at v x.book ++ outputs_from (sights_from es r) (book_after v x.book) in
          assembled (Early out) v.outputs x.book.waiting (given_at v x.book) (given_from (sights_from es r) (book_after v x.book))
          (shown_early x.book.place (take v.outputs x.book.waiting) (outputs_from (sights_from es r) (book_after v x.book)) (omega (arith, at, f.place)))
          (late_early out (drop v.outputs x.book.waiting) (subst (λ (ws : List Source). AllByRecursion (IsLate (p + 1)) ws) (sym left) (lined_late k.by.rest (p + 1) lined.0 (behind x.past 0) lined.2)))
          (late_early out (given_at v x.book) (given lt))
          (late_early out (given_from (sights_from es r) (book_after v x.book)) (later lt))

      waits : (r : State) (v : Sight) → v ≡ sight_of e (shown_at e s) r.control.size → v.removes ≡ None → s.control.place ≤ t → AllByRecursion (Early (outputs_from (sights_from es r) (book_after v x.book))) ((book_after v x.book).waiting ++ given_from (sights_from es r) (book_after v x.book)) → goal r v
      waits r v seen stays le rest =
          let after : (book_after v x.book).waiting ≡ drop v.outputs x.book.waiting ++ given_at v x.book = rw stays (kept_waiting v x.book) in
          let out = outputs_from (sights_from es r) (book_after v x.book) in
          let more = given_from (sights_from es r) (book_after v x.book) in
          let all : AllByRecursion (Early out) ((drop v.outputs x.book.waiting ++ given_at v x.book) ++ more) = subst (λ (ws : List Source). AllByRecursion (Early out) (ws ++ more)) after rest in
          let both = all_front (Early out) (drop v.outputs x.book.waiting ++ given_at v x.book) more all in
          let shown = outputs_at v x.book in
          assembled (Early (shown ++ out)) v.outputs x.book.waiting (given_at v x.book) more
          (shown_early x.book.place (take v.outputs x.book.waiting) out (omega (arith, le, f.place)))
          (early_behind shown out (drop v.outputs x.book.waiting) (all_front (Early out) (drop v.outputs x.book.waiting) (given_at v x.book) both))
          (early_behind shown out (given_at v x.book) (all_back (Early out) (drop v.outputs x.book.waiting) (given_at v x.book) both))
          (early_behind shown out more (all_back (Early out) (drop v.outputs x.book.waiting ++ given_at v x.book) more all))

      -- what waits at a removal was given by calls before it
      taken : (r : State) (v : Sight) (error : DomError) → v.ran ≡ None → v.removes ≡ Some error → slice_get whole s.control.place ≡ Some v → s.control.place < p → AllByRecursion (Early (outputs_from (sights_from es r) (book_after v x.book))) ((book_after v x.book).waiting ++ given_from (sights_from es r) (book_after v x.book)) → goal r v
      taken r v error ran_none removal first lt rest =
          let out = outputs_from (sights_from es r) (book_after v x.book) in
          let more = given_from (sights_from es r) (book_after v x.book) in
          let none : (book_after v x.book).waiting ≡ [] = rw removal refl in
          let behind_it : AllByRecursion (Early out) more = subst (λ (ws : List Source). AllByRecursion (Early out) (ws ++ more)) none rest in
          let shown = outputs_at v x.book in
          let given_none : given_at v x.book ≡ [] = rw ran_none refl in
          let waiting : AllByRecursion (Early (shown ++ out)) x.book.waiting = all_map (Fine whole since s.control.place) (Early (shown ++ out)) x.book.waiting (λ y fine below calm. absurd (let b = fine.below in let e : ◌≡◌ {A = Option DomError} None (Some error) = sym (calm s.control.place b lt) ∙ (removes_here s.control.place v first ∙ removal) in cc)) (waits_fine whole since x s f o c) in
          all_both (Early (shown ++ out)) x.book.waiting (given_at v x.book ++ more) waiting (subst (λ (gs : List Source). AllByRecursion (Early (shown ++ out)) (gs ++ more)) (sym given_none) (early_behind shown out more behind_it))

      by : (r : State) (v : Sight) (a : Option (ℕ × PromiseState)) → end_at p s.control.place (ends_of (shows e s)) ≡ a → first_of a (end_from p (s.control.place + 1) (sights_from es r)) ≡ Some (t, PromiseState.Resolved) → v ≡ sight_of e (shown_at e s) r.control.size → r.control.place ≡ s.control.place + 1 → slice_get whole s.control.place ≡ Some v
          → (Found r.control.place (sights_from es r) → AllByRecursion (Early (outputs_from (sights_from es r) (book_after v x.book))) ((book_after v x.book).waiting ++ given_from (sights_from es r) (book_after v x.book)))
          → (p < behind x.past since → AllByRecursion (IsLate (p + 1)) (given_from (sights_from es r) (book_after v x.book)))
          → (p < behind x.past since → AllByRecursion (IsLate (p + 1)) (given_at v x.book))
          → ((error : DomError) → rejects_with e (shown_at e s) ≡ Some error → p < r.control.place → Found r.control.place (sights_from es r) → ⊥)
          → goal r v
      by r v (Some a) own now seen place first rest later given gone_by = subst (λ (w : Sight). goal r w) (sym seen) (resolved r (own ∙ now) (subst (λ (w : Sight). p < behind x.past since → AllByRecursion (IsLate (p + 1)) (given_from (sights_from es r) (book_after w x.book))) seen later) (subst (λ (w : Sight). p < behind x.past since → AllByRecursion (IsLate (p + 1)) (given_at w x.book)) seen given))
      by r v None own now seen place first rest later given gone_by =
          let found : Found r.control.place (sights_from es r) = subst (λ (n : ℕ). Found n (sights_from es r)) (sym place) now in
          let late = end_late p (s.control.place + 1) (sights_from es r) (t, PromiseState.Resolved) now in
          removal (rejects_with e (shown_at e s)) refl found (omega (arith, late))
        where
          removal : (q : Option DomError) → rejects_with e (shown_at e s) ≡ q → Found r.control.place (sights_from es r) → s.control.place ≤ t → goal r v
          removal None stays found le = waits r v seen (ap (λ (w : Sight). w.removes) seen ∙ stays) le (rest found)
          removal (Some error) gone_is found le = elim (cases_lt s.control.place p) [
            | inl lt ↦ taken r v error (ap (λ (w : Sight). w.ran) seen ∙ removal_ran e s error gone_is) (ap (λ (w : Sight). w.removes) seen ∙ gone_is) first lt (rest found)
            | inr ge ↦ absurd (gone_by error gone_is (omega (arith, place, ge)) found)
          ]

pub resolved_last : ResolvedLast
resolved_last o h legal p t n y found there early calm =
    let some = legal_state o h legal in
    let all = resolved_from (sights o h) p t h (opening_state o) some.0 0 opening_course (opening_flow o) (opening_outs o) (refl, omega arith) (opening_promises o)
    (record { none_removes = λ k low high. absurd (omega (arith, high)); rises = omega arith; begins = λ e. absurd cc; there = tt })
    (λ k. ap (λ (m : ℕ). slice_get (sights o h) m) (omega arith)) some.1 found in
    all_at (Early (sights o h) p t (outputs (sights o h))) (given_from (sights o h) empty_book) n y all there early calm
