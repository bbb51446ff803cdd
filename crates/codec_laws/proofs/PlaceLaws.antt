-- Where the calls of an epoch stand, and what outputs have of it.
use Rattle.std.proofs.Common.{ℕ, zero, suc, ◌≡◌, ◌+◌, ◌≤◌, ◌<◌, Bool, true, false, eqb, cond, List, [], ◌∷◌, ◌++◌, append_assoc, length, take, slice_get, Option, Some, None, is_some, refl, ap, sym, subst, ◌∙◌, inl, inr, ◌⊎◌, arith}
use Rattle.std.specs.Prelude.{option_map, option_and_then, unwrap_or, max}
use Rattle.std.proofs.lemmas.Bool.{cases_lt}
use Rattle.std.specs.List.{AllByRecursion}
use Rattle.wc_base.specs.{declared.error.DomError.DomError, declared.who.Who.Who, Options.some_same}
use Rattle.codec_model.specs.declared.entry.{WorkKind.WorkKind, Work.Work, Running.Running, Call.Call, Handed.Handed, Entry.Entry, Ended.Ended, Task.Task, CodecState.CodecState}
use Rattle.codec_model.specs.Control.{Control, kind_of, process_queue, at_next_place, done_running, after_end}
use Rattle.codec_model.specs.Replay.{State, Given, nothing_given, with_control, accepted, call_error, may_call, message_of, decode_error, flush_error, is_configured, removes, removed as removed_state, step}
use Rattle.codec_model.specs.Shown.{shows, shown_at, call_shows, accepted_shows, rejections, turn_word, turn_shows}
use Rattle.codec_model.specs.StepLaws.{by_items, by_removals, senders_stay, Sends, asked, call_sends, task_ran, EachStep, by_steps}
use Rattle.codec_laws.specs.declared.source.{Source.Source}
use Rattle.codec_laws.specs.declared.sight.Sight.{Sight}
use Rattle.codec_laws.specs.Sights.{asked_for, rejects_with, aborts, sight_of, sights_from, removes_at, asks_at}
use Rattle.codec_laws.specs.Sources.{Book, given_by, shown_by, outputs_from, outputs_at, book_after, kept, removed}
use Rattle.codec_laws.specs.Laws.{IsOwn}
use Rattle.codec_laws.proofs.Course.{Asked, waiting_asked, more_asked, Course, course_after, fresh}
use Rattle.codec_laws.proofs.FlowLaws.{Flow, step_flow}
use Rattle.codec_laws.proofs.OutLaws.{Outs, yields, sources_of, step_outs}

-- ---- what an entry does to the place and the phase

-- what a call asks for is a configure, or the codec is configured; nothing else but a removal changes the phase
pub record Phases (asks : Option Work) (removed : Bool) (s t : State) : Type 0 where
  pub place : t.control.place ≡ s.control.place + 1
  pub closed : removed ≡ true → t.control.phase ≡ CodecState.Configured → ⊥
  pub on : (w : Work) → asks ≡ Some w → (kind_of w ≡ WorkKind.Configure) ⊎ (s.control.phase ≡ CodecState.Configured)
  pub same : asks ≡ None → removed ≡ false → t.control.phase ≡ s.control.phase

abbrev pub EntryPhases : Entry → State → State → Type 0
EntryPhases e s t = Phases (asked_for e (shows e s)) (is_some (rejects_with e (shown_at e s))) s t

record Keeps (c d : Control) : Type 0 where
  place : d.place ≡ c.place
  phase : d.phase ≡ c.phase

processed : (c : Control) → Keeps c (process_queue c.messages c)
processed c = by_items (λ (d : Control). Keeps c d) (λ m ms d blocked saturated scheduled event size few e h. record { place = h.place; phase = h.phase }) c.messages c refl (record { place = refl; phase = refl })

quiet_phases : (s t : State) → t.control.place ≡ s.control.place + 1 → t.control.phase ≡ s.control.phase → Phases None false s t
quiet_phases s t place phase = record { place = place; closed = λ e. absurd cc; on = λ w e. absurd cc; same = λ e f. phase }

sent_place : (w : Work) (c d : Control) → Sends w c d → d.place ≡ c.place + 1
sent_place w c d k = let before = asked c k.phase k.key_required k.size k.pending in rw k.is ((processed (record before { messages = before.messages ++ record { place = c.place; work = w } ∷ [] })).place)

asked_phases : (w : Work) (s t : State) → t.control.place ≡ s.control.place + 1 → (kind_of w ≡ WorkKind.Configure) ⊎ (s.control.phase ≡ CodecState.Configured) → Phases (Some w) false s t
asked_phases w s t place on = record { place = place; closed = λ e. absurd cc; on = λ v e. let same : w ≡ v = cc in subst (λ (u : Work). (kind_of u ≡ WorkKind.Configure) ⊎ (s.control.phase ≡ CodecState.Configured)) same on; same = λ e. absurd cc }

removed_phases : (s t : State) → t.control.place ≡ s.control.place + 1 → (t.control.phase ≡ CodecState.Configured → ⊥) → Phases None true s t
removed_phases s t place off = record { place = place; closed = λ e. off; on = λ w e. absurd cc; same = λ e f. absurd cc }

-- a codec that is neither unconfigured nor closed is configured
phase_on : (P : CodecState → Type 0) (c : Control) → P c.phase → (P CodecState.Unconfigured → ⊥) → (P CodecState.Closed → ⊥) → c.phase ≡ CodecState.Configured
phase_on P c h off closed = by c.phase refl
  where
    by : (p : CodecState) → c.phase ≡ p → c.phase ≡ CodecState.Configured
    by CodecState.Unconfigured e = absurd (off (subst P e h))
    by CodecState.Configured e = e
    by CodecState.Closed e = absurd (closed (subst P e h))

-- a call that sends a message configures, or its codec is configured
sent_on : (y : Call) (w : Work) (c : Control) → message_of y ≡ Some w → may_call y c ≡ true → call_error y c ≡ None → (kind_of w ≡ WorkKind.Configure) ⊎ (c.phase ≡ CodecState.Configured)
sent_on y w c m may e = subst (λ (v : Work). (kind_of v ≡ WorkKind.Configure) ⊎ (c.phase ≡ CodecState.Configured)) (by y m may e).1 (by y m may e).0
  where
    by : (y : Call) → message_of y ≡ Some w → may_call y c ≡ true → call_error y c ≡ None → ((kind_of (unwrap_or (message_of y) w) ≡ WorkKind.Configure) ⊎ (c.phase ≡ CodecState.Configured)) × (unwrap_or (message_of y) w ≡ w)
    by (Call.Configure config) m may e = (inl refl, some_same _ w m)
    by (Call.Decode chunk) m may e = (inr (phase_on (λ p. decode_error chunk (record c { phase = p }) ≡ None) c e (λ k. absurd cc) (λ k. absurd cc)), some_same _ w m)
    by (Call.Encode (Handed.Cloned medium)) m may e = (inr (phase_on (λ p. is_configured (record c { phase = p }) ≡ true) c may (λ k. absurd cc) (λ k. absurd cc)), some_same _ w m)
    by Call.Flush m may e = (inr (phase_on (λ p. flush_error (record c { phase = p }) ≡ None) c e (λ k. absurd cc) (λ k. absurd cc)), some_same _ w m)
    by y m may e = absurd cc

-- ---- what the laws see of a call

-- of a call that is refused
pub refused_asks : (who : Who) (y : Call) (error : DomError) (s : State) → call_error y s.control ≡ Some error → (asked_for (Entry.Call who y) (shows (Entry.Call who y) s) ≡ None) × (rejects_with (Entry.Call who y) (shown_at (Entry.Call who y) s) ≡ None)
refused_asks who y error s e = rw e (by y)
  where
    by : (y : Call) → (asked_for (Entry.Call who y) (call_shows y s.control.place s.control.pending (Some error)) ≡ None) × (cond (removes y) (aborts (call_shows y s.control.place s.control.pending (Some error))) None ≡ None)
    by Call.Flush = (refl, refl)
    by y = (refl, refl)

-- of one that sends its message
pub sent_asks : (who : Who) (y : Call) (w : Work) (s : State) → message_of y ≡ Some w → call_error y s.control ≡ None → (asked_for (Entry.Call who y) (shows (Entry.Call who y) s) ≡ Some w) × (rejects_with (Entry.Call who y) (shown_at (Entry.Call who y) s) ≡ None)
sent_asks who y w s m e = rw (e, senders_stay y w m) (by y m, refl)
  where
    by : (y : Call) → message_of y ≡ Some w → asked_for (Entry.Call who y) (accepted_shows y s.control.pending) ≡ Some w
    by Call.Reset m = absurd cc
    by Call.Close m = absurd cc
    by y m = m

-- of one that removes what is queued
pub removal_asks : (who : Who) (y : Call) (s : State) → removes y ≡ true → call_error y s.control ≡ None → (asked_for (Entry.Call who y) (shows (Entry.Call who y) s) ≡ None) × (rejects_with (Entry.Call who y) (shown_at (Entry.Call who y) s) ≡ Some DomError.Abort)
removal_asks who y s is e = rw e (by_removals (λ y. (asked_for (Entry.Call who y) (accepted_shows y s.control.pending) ≡ None) × (cond (removes y) (aborts (accepted_shows y s.control.pending)) None ≡ Some DomError.Abort)) (by Call.Reset refl s.control.pending) (by Call.Close refl s.control.pending) y is)
  where
    by : (y : Call) → message_of y ≡ None → (ps : List ℕ) → (asked_for (Entry.Call who y) (rejections DomError.Abort ps) ≡ None) × (aborts (rejections DomError.Abort ps) ≡ Some DomError.Abort)
    by y m [] = (m, refl)
    by y m (p ∷ ps) = (refl, refl)

seen_phases : (asks asks_is : Option Work) (rejects rejects_is : Option DomError) (s t : State) → asks ≡ asks_is → rejects ≡ rejects_is → Phases asks_is (is_some rejects_is) s t → Phases asks (is_some rejects) s t
seen_phases asks asks_is rejects rejects_is s t a r h = rw (a, r) h

done_phases : (r : Running) (e : Ended) (moment : ℕ) (s : State) → Phases None false s (with_control (done_running r e moment (at_next_place s.control)) s)
done_phases r e moment s = by (eqb r.epoch s.control.epoch)
  where
    by : (b : Bool) → Phases None false s (with_control (cond b (after_end r e (record (record (at_next_place s.control) { running = None }) { progress = Some (max moment (unwrap_or s.control.progress moment)) })) (record (at_next_place s.control) { running = None })) s)
    by true = quiet_phases s _ refl refl
    by false = quiet_phases s _ refl refl

turn_phases : (t : Task) (ts : List Task) (s : State) → Phases None (is_some (rejects_with Entry.Turn (record { turn = turn_word (t ∷ ts); events = turn_shows (t ∷ ts) s.control }))) s (task_ran t ts s)
turn_phases Task.Unblock ts s = quiet_phases s _ refl refl
turn_phases Task.Process ts s = let k = processed (record (at_next_place s.control) { tasks = ts }) in quiet_phases s _ k.place k.phase
turn_phases Task.Desaturate ts s = let k = processed (record (at_next_place s.control) { tasks = ts; saturated = false }) in quiet_phases s _ k.place k.phase
turn_phases (Task.Output us) ts s = quiet_phases s _ refl refl
turn_phases (Task.Flushed p us) ts s = quiet_phases s _ refl refl
turn_phases Task.Dequeue ts s = quiet_phases s _ refl refl
turn_phases (Task.Close error) ts s = removed_phases s _ refl (λ e. absurd cc)

each_phases : EachStep EntryPhases
each_phases = record {
  refused = λ who y error s may e. let k = refused_asks who y error s e in seen_phases _ None _ None s _ k.0 k.1 (quiet_phases s _ refl refl);
  sent = λ who y w s m may e. let k = sent_asks who y w s m e in seen_phases _ (Some w) _ None s _ k.0 k.1 (asked_phases w s _ (sent_place w s.control (accepted y s.control) (call_sends y w s.control m)) (sent_on y w s.control m may e));
  removes_all = λ who y s is e. let k = removal_asks who y s is e in seen_phases _ None _ (Some DomError.Abort) s _ k.0 k.1 (by_removals (λ y. Phases None true s (removed_state (accepted y s.control) s)) (removed_phases s _ refl (λ f. absurd cc)) (removed_phases s _ refl (λ f. absurd cc)) y is);
  takes = λ who unit s may. quiet_phases s _ refl refl;
  grounds = λ who to s. quiet_phases s _ refl refl;
  start = λ i is epoch item s first may. quiet_phases s _ refl refl;
  done = λ r e epoch item moment o s running own is. done_phases r e moment s;
  turn = λ t ts s first. subst (λ (l : List Task). Phases None (is_some (rejects_with Entry.Turn (record { turn = turn_word l; events = turn_shows l s.control }))) s (task_ran t ts s)) (sym first) (turn_phases t ts s);
  reclaim = λ moment s may. removed_phases s _ refl (λ e. absurd cc);
}

pub step_phases : (e : Entry) (s t : State) → step e s ≡ Some t → EntryPhases e s t
step_phases = by_steps EntryPhases each_phases

-- ---- the calls of an epoch

-- places that rise, from this one on and below that one
abbrev pub Rising : ℕ → List Asked → ℕ → Type 0
Rising low [] high = low ≤ high
Rising low (a ∷ qs) high = (low ≤ a.0) × Rising (a.0 + 1) qs high

rising_more : (low high : ℕ) (qs : List Asked) (w : Work) → Rising low qs high → Rising low (qs ++ (high, w) ∷ []) (high + 1)
rising_more low high [] w h = (h, omega arith)
rising_more low high (a ∷ qs) w h = (h.0, rising_more (a.0 + 1) high qs w h.1)

rising_next : (low high : ℕ) (qs : List Asked) → Rising low qs high → Rising low qs (high + 1)
rising_next low high [] h = omega (arith, h)
rising_next low high (a ∷ qs) h = (h.0, rising_next (a.0 + 1) high qs h.1)

pub rising_high : (low high : ℕ) (qs : List Asked) → Rising low qs high → low ≤ high
rising_high low high [] h = h
rising_high low high (a ∷ qs) h = let k = rising_high (a.0 + 1) high qs h.1 in omega (arith, k, h.0)

pub rising_front : (low high : ℕ) (qs more : List Asked) → Rising low (qs ++ more) high → Rising low qs high
rising_front low high [] more h = rising_high low high more h
rising_front low high (a ∷ qs) more h = (h.0, rising_front (a.0 + 1) high qs more h.1)

-- an epoch begins with a configure
abbrev pub Begins : List Asked → CodecState → Type 0
Begins [] phase = phase ≡ CodecState.Configured → ⊥
Begins (a ∷ qs) phase = kind_of a.1 ≡ WorkKind.Configure

begins_more : (qs : List Asked) (a : Asked) (before after : CodecState) → (kind_of a.1 ≡ WorkKind.Configure) ⊎ (before ≡ CodecState.Configured) → Begins qs before → Begins (qs ++ a ∷ []) after
begins_more [] a before after (inl configures) h = configures
begins_more [] a before after (inr on) h = absurd (h on)
begins_more (b ∷ qs) a before after on h = h

begins_same : (qs : List Asked) (before after : CodecState) → after ≡ before → Begins qs before → Begins qs after
begins_same [] before after same h = λ on. h (sym same ∙ on)
begins_same (b ∷ qs) before after same h = h

all_snoc : {X : Type 0} (P : X → Type 0) (xs : List X) (x : X) → AllByRecursion P xs → P x → AllByRecursion P (xs ++ x ∷ [])
all_snoc P [] x h p = (p, tt)
all_snoc P (y ∷ xs) x h p = (h.0, all_snoc P xs x h.1 p)

pub all_front : {X : Type 0} (P : X → Type 0) (xs ys : List X) → AllByRecursion P (xs ++ ys) → AllByRecursion P xs
all_front P [] ys h = tt
all_front P (x ∷ xs) ys h = (h.0, all_front P xs ys h.1)

pub all_back : {X : Type 0} (P : X → Type 0) (xs ys : List X) → AllByRecursion P (xs ++ ys) → AllByRecursion P ys
all_back P [] ys h = h
all_back P (x ∷ xs) ys h = all_back P xs ys h.1

pub all_both : {X : Type 0} (P : X → Type 0) (xs ys : List X) → AllByRecursion P xs → AllByRecursion P ys → AllByRecursion P (xs ++ ys)
all_both P [] ys h k = k
all_both P (x ∷ xs) ys h k = (h.0, all_both P xs ys h.1 k)

pub all_take : {X : Type 0} (P : X → Type 0) (n : ℕ) (xs : List X) → AllByRecursion P xs → AllByRecursion P (take n xs)
all_take P zero xs h = tt
all_take P (suc n) [] h = tt
all_take P (suc n) (x ∷ xs) h = (h.0, all_take P n xs h.1)

pub all_at : {X : Type 0} (P : X → Type 0) (xs : List X) (i : ℕ) (x : X) → AllByRecursion P xs → slice_get xs i ≡ Some x → P x
all_at P [] i x h is = absurd cc
all_at P (y ∷ ys) zero x h is = let same : y ≡ x = cc in subst P same h.0
all_at P (y ∷ ys) (suc i) x h is = all_at P ys i x h.1 is

module _ (whole : List Sight) where
  abbrev pub AskedThere : Asked → Type 0
  AskedThere a = asks_at whole a.0 ≡ Some (kind_of a.1)

  -- the calls since the last removal, which stands just before this place, stand where they are seen
  pub record Calls (since : ℕ) (x : Course) (s : State) : Type 0 where
    pub none_removes : (k : ℕ) → since ≤ k → k < s.control.place → removes_at whole k ≡ None
    pub rises : Rising since x.works s.control.place
    pub begins : Begins x.works s.control.phase
    pub there : AllByRecursion AskedThere x.works

  abbrev pub since_after : Sight → ℕ → ℕ → ℕ
  since_after v place since = cond (is_some v.removes) (place + 1) since

  -- one entry more, which is seen so
  pub calls_more : (e : Entry) (s t : State) (v : Sight) (since : ℕ) (x : Course) → EntryPhases e s t → v.removes ≡ rejects_with e (shown_at e s) → v.asks ≡ option_map kind_of (asked_for e (shows e s)) → slice_get whole s.control.place ≡ Some v → x.book.place ≡ s.control.place → Calls since x s → Calls (since_after v s.control.place since) (course_after e s x) t
  calls_more e s t v since x p removed asks here at h = by_removed (is_some (rejects_with e (shown_at e s))) refl
    where
      works_more : (o : Option Work) → asked_for e (shows e s) ≡ o → is_some (rejects_with e (shown_at e s)) ≡ false → Rising since (more_asked s.control.place o x.works) t.control.place × Begins (more_asked s.control.place o x.works) t.control.phase × AllByRecursion AskedThere (more_asked s.control.place o x.works)
      works_more None is none = (subst (Rising since x.works) (sym p.place) (rising_next since s.control.place x.works h.rises), begins_same x.works s.control.phase t.control.phase (p.same is none) h.begins, h.there)
      works_more (Some w) is none = (
        subst (Rising since (x.works ++ (s.control.place, w) ∷ [])) (sym p.place) (rising_more since s.control.place x.works w h.rises),
        begins_more x.works (s.control.place, w) s.control.phase t.control.phase (p.on w is) h.begins,
        all_snoc AskedThere x.works (s.control.place, w) h.there (ap (λ (o : Option Sight). option_and_then (λ (y : Sight). y.asks) o) here ∙ (asks ∙ ap (λ (o : Option Work). option_map kind_of o) is)),
      )

      quiet : (k : ℕ) → rejects_with e (shown_at e s) ≡ None → since ≤ k → k < t.control.place → removes_at whole k ≡ None
      quiet k none low high = elim (cases_lt k s.control.place) [
        | inl lt ↦ h.none_removes k low lt
        | inr le ↦ (let same : k ≡ s.control.place = omega (arith, le, high, p.place) in ap (λ (n : ℕ). removes_at whole n) same ∙ (ap (λ (o : Option Sight). option_and_then (λ (y : Sight). y.removes) o) here ∙ (removed ∙ none)))
      ]

      none_of : {X : Type 0} (o : Option X) → is_some o ≡ false → o ≡ None
      none_of None e = refl
      none_of (Some y) e = absurd cc

      by_removed : (b : Bool) → is_some (rejects_with e (shown_at e s)) ≡ b → Calls (since_after v s.control.place since) (course_after e s x) t
      by_removed true is = rw (removed, is) (record {
        none_removes = λ k low high. absurd (omega (arith, low, high, p.place));
        rises = omega (arith, p.place);
        begins = p.closed is;
        there = tt;
      })
      by_removed false is =
          let more = works_more (asked_for e (shows e s)) refl is in
          rw (removed, is, at) (record {
            none_removes = λ k low high. quiet k (none_of _ is) low high;
            rises = more.0;
            begins = more.1;
            there = more.2;
          })

  -- ---- where outputs come from

  pub record Fine (since high : ℕ) (y : Source) : Type 0 where
    pub late : since ≤ y.configure
    pub before : y.configure < y.call
    pub below : y.call < high
    pub configures : asks_at whole y.configure ≡ Some WorkKind.Configure
    pub asks : is_some (asks_at whole y.call) ≡ true

  given_fine : (since high p f n k : ℕ) → since ≤ f → f < p → p < high → asks_at whole f ≡ Some WorkKind.Configure → is_some (asks_at whole p) ≡ true → AllByRecursion (Fine since high) (given_by p f n k)
  given_fine since high p f n zero late before below configures asks = tt
  given_fine since high p f n (suc k) late before below configures asks = (record { late = late; before = before; below = below; configures = configures; asks = asks }, given_fine since high p f (n + 1) k late before below configures asks)

  all_fine : (since high : ℕ) (qs : List Asked) (g : Given) (f n low : ℕ) → since ≤ f → f < low → asks_at whole f ≡ Some WorkKind.Configure → Rising low qs high → AllByRecursion AskedThere qs → AllByRecursion (Fine since high) (sources_of qs g f n)
  all_fine since high [] g f n low late before configures rises there = tt
  all_fine since high ((p, Work.Configure c) ∷ qs) g f n low late before configures rises there = all_fine since high qs _ p 0 (p + 1) (omega (arith, late, before, rises.0)) (omega arith) there.0 rises.1 there.1
  all_fine since high ((p, Work.Coded input) ∷ qs) g f n low late before configures rises there =
      let high_enough = rising_high (p + 1) high qs rises.1 in
      all_both (Fine since high) (given_by p f n (length (yields (Work.Coded input) g))) _ (given_fine since high p f n _ late (omega (arith, before, rises.0)) (omega (arith, high_enough)) configures (ap (λ (o : Option WorkKind). is_some o) there.0)) (all_fine since high qs _ f _ (p + 1) late (omega (arith, before, rises.0)) configures rises.1 there.1)
  all_fine since high ((p, Work.Flush) ∷ qs) g f n low late before configures rises there =
      let high_enough = rising_high (p + 1) high qs rises.1 in
      all_both (Fine since high) (given_by p f n (length (yields Work.Flush g))) _ (given_fine since high p f n _ late (omega (arith, before, rises.0)) (omega (arith, high_enough)) configures (ap (λ (o : Option WorkKind). is_some o) there.0)) (all_fine since high qs _ f _ (p + 1) late (omega (arith, before, rises.0)) configures rises.1 there.1)

  epoch_fine : (since high : ℕ) (qs : List Asked) (phase : CodecState) → Begins qs phase → Rising since qs high → AllByRecursion AskedThere qs → AllByRecursion (Fine since high) (sources_of qs nothing_given 0 0)
  epoch_fine since high [] phase begins rises there = tt
  epoch_fine since high ((p, Work.Configure c) ∷ qs) phase begins rises there = all_fine since high qs _ p 0 (p + 1) rises.0 (omega arith) there.0 rises.1 there.1
  epoch_fine since high ((p, Work.Coded input) ∷ qs) phase begins rises there = absurd cc
  epoch_fine since high ((p, Work.Flush) ∷ qs) phase begins rises there = absurd cc

  begins_front : (qs more : List Asked) (phase : CodecState) → Begins (qs ++ more) phase → Begins qs CodecState.Unconfigured
  begins_front [] more phase h = λ e. absurd cc
  begins_front (a ∷ qs) more phase h = h

  -- what is known of the calls that ran, and of where their outputs come from, shown or waiting
  pub record Epoch (since : ℕ) (x : Course) (s : State) : Type 0 where
    pub begins : Begins x.past CodecState.Unconfigured
    pub rises : Rising since x.past s.control.place
    pub fine : AllByRecursion (Fine since s.control.place) (x.sources ++ x.book.waiting)

  pub epoch_here : (since : ℕ) (x : Course) (s : State) → Flow x s → Outs x s.control → Calls since x s → Epoch since x s
  epoch_here since x s f o c =
      let works : x.works ≡ x.past ++ (x.mid ++ waiting_asked s.control) = f.works ∙ append_assoc x.past x.mid (waiting_asked s.control) in
      let more = x.mid ++ waiting_asked s.control in
      let rises = rising_front since s.control.place x.past more (subst (λ (qs : List Asked). Rising since qs s.control.place) works c.rises) in
      let begins = begins_front x.past more s.control.phase (subst (λ (qs : List Asked). Begins qs s.control.phase) works c.begins) in
      let there = all_front AskedThere x.past more (subst (λ (qs : List Asked). AllByRecursion AskedThere qs) works c.there) in
      record { begins = begins; rises = rises; fine = subst (λ (l : List Source). AllByRecursion (Fine since s.control.place) l) (sym o.sources) (epoch_fine since s.control.place x.past CodecState.Unconfigured begins rises there) }

  -- what waits to be shown
  pub waits_fine : (since : ℕ) (x : Course) (s : State) → Flow x s → Outs x s.control → Calls since x s → AllByRecursion (Fine since s.control.place) x.book.waiting
  waits_fine since x s f o c = all_back (Fine since s.control.place) x.sources x.book.waiting (epoch_here since x s f o c).fine

  own_all : (since place : ℕ) (ys : List Source) → ((k : ℕ) → since ≤ k → k < place → removes_at whole k ≡ None) → AllByRecursion (Fine since place) ys → AllByRecursion (IsOwn whole) (shown_by place ys)
  own_all since place [] none h = tt
  own_all since place (y ∷ ys) none h = (
    record {
      before = h.0.before;
      after = h.0.below;
      configures = h.0.configures;
      asks = h.0.asks;
      none_removes = λ k low high. none k (omega (arith, low, h.0.late)) high;
    },
    own_all since place ys none h.1,
  )

  -- the sights from this place on
  abbrev pub Here : ℕ → List Sight → Type 0
  Here place xs = (k : ℕ) → slice_get whole (place + k) ≡ slice_get xs k

  pub here_first : (place : ℕ) (v : Sight) (xs : List Sight) → Here place (v ∷ xs) → slice_get whole place ≡ Some v
  here_first place v xs h = subst (λ (n : ℕ). slice_get whole n ≡ Some v) (omega arith) (h 0)

  pub here_rest : (place next : ℕ) (v : Sight) (xs : List Sight) → next ≡ place + 1 → Here place (v ∷ xs) → Here next xs
  here_rest place next v xs e h = λ k. subst (λ (n : ℕ). slice_get whole n ≡ slice_get xs k) (omega (arith, e)) (h (suc k))

  pub next_book : (b : Bool) (x y : Course) (c d : Book) → x.book ≡ c → y.book ≡ d → (cond b x y).book ≡ cond b c d
  next_book true x y c d e f = e
  next_book false x y c d e f = f

  pub own_from : (es : List Entry) (s : State) (since : ℕ) (x : Course) → Flow x s → Outs x s.control → Calls since x s → Here s.control.place (sights_from es s) → AllByRecursion (IsOwn whole) (outputs_from (sights_from es s) x.book)
  own_from [] s since x f o c here = tt
  own_from (e ∷ es) s since x f o c here = by (step e s) refl here (λ t is. own_from es t (since_after (sight_of e (shown_at e s) t.control.size) s.control.place since) (course_after e s x) (step_flow e s t is x f) (step_outs e s t is x f o))
    where
      next : (t : State) → List Sight
      next t = sight_of e (shown_at e s) t.control.size ∷ sights_from es t

      by : (u : Option State) → step e s ≡ u → Here s.control.place (unwrap_or (option_map next u) [])
          → ((t : State) → step e s ≡ Some t → Calls (since_after (sight_of e (shown_at e s) t.control.size) s.control.place since) (course_after e s x) t → Here t.control.place (sights_from es t) → AllByRecursion (IsOwn whole) (outputs_from (sights_from es t) (course_after e s x).book))
          → AllByRecursion (IsOwn whole) (outputs_from (unwrap_or (option_map next u) []) x.book)
      by None is here rest = tt
      by (Some t) is here rest =
          let v = sight_of e (shown_at e s) t.control.size in
          let p = step_phases e s t is in
          let calls = calls_more e s t v since x p refl refl (here_first s.control.place v (sights_from es t) here) f.place c in
          let more = rest t is calls (here_rest s.control.place t.control.place v (sights_from es t) p.place here) in
          let book : (course_after e s x).book ≡ book_after v x.book = next_book (is_some v.removes) (fresh x) _ (removed x.book) (kept v x.book) refl refl in
          let first : AllByRecursion (IsOwn whole) (outputs_at v x.book) = subst (λ (n : ℕ). AllByRecursion (IsOwn whole) (shown_by n (take v.outputs x.book.waiting))) (sym f.place) (own_all since s.control.place (take v.outputs x.book.waiting) c.none_removes (all_take (Fine since s.control.place) v.outputs x.book.waiting (waits_fine since x s f o c))) in
          all_both (IsOwn whole) (outputs_at v x.book) (outputs_from (sights_from es t) (book_after v x.book)) first (subst (λ (b : Book). AllByRecursion (IsOwn whole) (outputs_from (sights_from es t) b)) book more)
