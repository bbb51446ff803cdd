-- What was asked for since the last removal is what ran, what is at work, and what waits.
use Rattle.std.proofs.Common.{ℕ, ◌≡◌, ◌+◌, ◌<◌, ◌&&◌, ◌||◌, not, Bool, true, false, eqb, cond, eq-eqb, List, [], ◌∷◌, ◌++◌, append_assoc, append-nil, length, length-append, slice_get, Option, Some, None, is_none, refl, ap, sym, subst, ◌∙◌, inl, inr, ◌⊎◌, arith}
use Rattle.std.specs.Prelude.{IfSome}
use Rattle.std.proofs.lemmas.Bool.{and_parts, not-true, eqb-true}
use Rattle.wc_base.specs.{declared.ground.Ground.Ground, Options.some_same, Options.cond_is}
use Rattle.codec_definitions.specs.declared.unit.Unit as media
use Rattle.codec_model.specs.declared.entry.{WorkKind.WorkKind, Work.Work, Item.Item, Message.Message, Running.Running, Call.Call, Entry.Entry, Outcome.Outcome, Ended.Ended, Task.Task}
use Rattle.codec_model.specs.Control.{Control, kind_of, process_queue, at_next_place, done_running, halts}
use Rattle.codec_model.specs.Replay.{State, Given, nothing_given, given_more, answer_to, ended_of, ended_run, ended_refused, with_control, accepted, removes, removed, step}
use Rattle.codec_model.specs.Facts.{IsNumbered}
use Rattle.codec_model.specs.StepLaws.{by_items, by_removals, Sends, asked, call_sends, no_slot_end, begins_free, begun, task_ran, EachStep, by_steps}
use Rattle.codec_laws.specs.declared.sight.Ran.{Ran}
use Rattle.codec_laws.specs.Sources.{Book, after_item, after_ran}
use Rattle.codec_laws.proofs.Course.{Asked, items_asked, messages_asked, waiting_asked, kinds, given_all, front_asked, Course, course_after, plain, turned, settled, fresh, done_course_is, turn_course_is, task_units, refused_course, sent_course, take_course, ground_course, removal_course, start_course, done_course, turn_course}

-- no item of this epoch is at work
abbrev pub IsOther : ℕ → Option Running → Type 0
IsOther epoch running = IfSome running (λ r. r.epoch < epoch)

-- the item of this call is at work, the one of this number
pub record RunsNow (a : Asked) (n : ℕ) (s : State) : Type 0 where
  pub r : Running
  pub is : s.control.running ≡ Some r
  pub now : r.epoch ≡ s.control.epoch
  pub number : r.number ≡ n
  pub place : r.place ≡ a.0
  pub kind : r.kind ≡ kind_of a.1
  pub awake : s.control.halted ≡ false
  pub same : s.running_given ≡ s.given

pub record Rests (halted : Bool) (s : State) : Type 0 where
  pub other : IsOther s.control.epoch s.control.running
  pub is : s.control.halted ≡ halted

abbrev pub IsMid : List Asked → ℕ → State → Type 0
IsMid [] n s = Rests false s
IsMid (a ∷ []) n s = RunsNow a n s ⊎ Rests true s
IsMid (a ∷ b ∷ qs) n s = ⊥

pub record Flow (x : Course) (s : State) : Type 0 where
  pub place : x.book.place ≡ s.control.place
  pub epoch : x.book.epoch ≡ s.control.epoch
  pub works : x.works ≡ (x.past ++ x.mid) ++ waiting_asked s.control
  pub calls : x.book.calls ≡ kinds x.works
  pub numbered : IsNumbered (length x.past + length x.mid) s.control.work s.control.next_item
  pub given : s.given ≡ given_all (x.past ++ x.mid) nothing_given
  pub mid : IsMid x.mid (length x.past) s

-- ---- lists

pub items_more : (is : List Item) (i : Item) → items_asked (is ++ i ∷ []) ≡ items_asked is ++ (i.place, i.work) ∷ []
items_more [] i = refl
items_more (j ∷ is) i = ap (λ (qs : List Asked). (j.place, j.work) ∷ qs) (items_more is i)

pub messages_more : (ms : List Message) (m : Message) → messages_asked (ms ++ m ∷ []) ≡ messages_asked ms ++ (m.place, m.work) ∷ []
messages_more [] m = refl
messages_more (j ∷ ms) m = ap (λ (qs : List Asked). (j.place, j.work) ∷ qs) (messages_more ms m)

pub kinds_more : (qs : List Asked) (a : Asked) → kinds (qs ++ a ∷ []) ≡ kinds qs ++ (a.0, kind_of a.1) ∷ []
kinds_more [] a = refl
kinds_more (b ∷ qs) a = ap (λ (ks : List (ℕ × WorkKind)). (b.0, kind_of b.1) ∷ ks) (kinds_more qs a)

pub given_more_all : (qs : List Asked) (a : Asked) (g : Given) → given_all (qs ++ a ∷ []) g ≡ given_more a.1 (given_all qs g)
given_more_all [] a g = refl
given_more_all (b ∷ qs) a g = given_more_all qs a (given_more b.1 g)

pub numbered_more : (first next : ℕ) (is : List Item) (i : Item) → IsNumbered first is next → i.number ≡ next → IsNumbered first (is ++ i ∷ []) (next + 1)
numbered_more first next [] i h e = (e ∙ sym h, ap (λ n. n + 1) h)
numbered_more first next (j ∷ is) i h e = (h.0, numbered_more (first + 1) next is i h.1 e)

-- a message becomes an item
pub moved : (is : List Item) (i : Item) (m : Message) (ms : List Message) → i.place ≡ m.place → i.work ≡ m.work → items_asked (is ++ i ∷ []) ++ messages_asked ms ≡ items_asked is ++ messages_asked (m ∷ ms)
moved is i m ms at w = rw (items_more is i, append_assoc, at, w) refl

-- ---- what a mid reads of a state

pub other_older : (o : Option Running) (epoch : ℕ) → IsOther epoch o → IsOther (epoch + 1) o
other_older None epoch h = tt
other_older (Some r) epoch h = omega (arith, h)

pub mid_same : (qs : List Asked) (n : ℕ) (s t : State) → t.control.running ≡ s.control.running → t.control.epoch ≡ s.control.epoch → t.control.halted ≡ s.control.halted → t.running_given ≡ s.running_given → t.given ≡ s.given → IsMid qs n s → IsMid qs n t
mid_same [] n s t running epoch halted busy given h = record { other = rw (running, epoch) (h.other); is = halted ∙ h.is }
mid_same (a ∷ []) n s t running epoch halted busy given (inl h) = inl (record { r = h.r; is = running ∙ h.is; now = h.now ∙ sym epoch; number = h.number; place = h.place; kind = h.kind; awake = halted ∙ h.awake; same = busy ∙ (h.same ∙ sym given) })
mid_same (a ∷ []) n s t running epoch halted busy given (inr h) = inr (record { other = rw (running, epoch) (h.other); is = halted ∙ h.is })
mid_same (a ∷ b ∷ qs) n s t running epoch halted busy given h = h

-- ---- processing

processed_flow : (x : Course) (s : State) → Flow x s → Flow x (with_control (process_queue s.control.messages s.control) s)
processed_flow x s h = by_items (λ (d : Control). Flow x (with_control d s)) (λ m ms d blocked saturated scheduled event size few e k. record {
  place = k.place;
  epoch = k.epoch;
  works = k.works ∙ ap (λ (qs : List Asked). (x.past ++ x.mid) ++ qs) (ap (λ (l : List Message). items_asked d.work ++ messages_asked l) e ∙ sym (moved d.work (record { number = d.next_item; place = m.place; work = m.work }) m ms refl refl));
  calls = k.calls;
  numbered = numbered_more _ d.next_item d.work _ k.numbered refl;
  given = k.given;
  mid = mid_same x.mid (length x.past) (with_control d s) _ refl refl refl refl refl k.mid;
}) s.control.messages s.control refl h

-- ---- entries that are no removal, start or end

-- an entry that asks for nothing
plain_flow : (x : Course) (s : State) → Flow x s → Flow (plain None x) (with_control (at_next_place s.control) s)
plain_flow x s h = record {
  place = ap (λ (n : ℕ). n + 1) h.place;
  epoch = h.epoch;
  works = h.works;
  calls = h.calls;
  numbered = h.numbered;
  given = h.given;
  mid = mid_same x.mid (length x.past) s _ refl refl refl refl refl h.mid;
}

-- a turn that neither closes nor processes
turned_flow : (us : List media.Unit) (x : Course) (s : State) (c : Control) → c.place ≡ s.control.place + 1 → c.epoch ≡ s.control.epoch → c.work ≡ s.control.work → c.messages ≡ s.control.messages → c.next_item ≡ s.control.next_item → c.running ≡ s.control.running → c.halted ≡ s.control.halted → Flow x s → Flow (turned us x) (with_control c s)
turned_flow us x s c place epoch work messages next running halted h = record {
  place = ap (λ (n : ℕ). n + 1) h.place ∙ sym place;
  epoch = h.epoch ∙ sym epoch;
  works = rw (work, messages) (h.works);
  calls = h.calls;
  numbered = rw (work, next) (h.numbered);
  given = h.given;
  mid = mid_same x.mid (length x.past) s _ running epoch halted refl refl h.mid;
}

-- one message more
queued_flow : (x : Course) (s : State) (w : Work) (d : Control) → Sends w s.control d → Flow x s → Flow (plain (Some w) x) (with_control d s)
queued_flow x s w d k h =
    let before = asked s.control k.phase k.key_required k.size k.pending in
    let m : Message = record { place = s.control.place; work = w } in
    let c : Control = record before { messages = before.messages ++ m ∷ [] } in
    rw k.is (processed_flow (plain (Some w) x) (with_control c s) (record {
      place = ap (λ (n : ℕ). n + 1) h.place;
      epoch = h.epoch;
      works = rw (h.works, h.place, messages_more s.control.messages m) (simp append_assoc);
      calls = rw (kinds_more x.works (x.book.place, w), h.calls) refl;
      numbered = h.numbered;
      given = h.given;
      mid = mid_same x.mid (length x.past) s _ refl refl refl refl refl h.mid;
    }))

-- ---- removals

mid_older : (qs : List Asked) (n : ℕ) (s : State) → IsMid qs n s → IsOther (s.control.epoch + 1) s.control.running
mid_older [] n s h = other_older s.control.running s.control.epoch h.other
mid_older (a ∷ []) n s (inl h) = rw h.is (omega (arith, h.now))
mid_older (a ∷ []) n s (inr h) = other_older s.control.running s.control.epoch h.other
mid_older (a ∷ b ∷ qs) n s h = absurd h

removed_flow : (x : Course) (s t : State) → t.control.place ≡ s.control.place + 1 → t.control.epoch ≡ s.control.epoch + 1 → t.control.work ≡ [] → t.control.messages ≡ [] → t.control.next_item ≡ 0 → t.control.running ≡ s.control.running → t.control.halted ≡ false → t.given ≡ nothing_given → Flow x s → Flow (fresh x) t
removed_flow x s t place epoch work messages next running halted given h = record {
  place = ap (λ (n : ℕ). n + 1) h.place ∙ sym place;
  epoch = ap (λ (n : ℕ). n + 1) h.epoch ∙ sym epoch;
  works = rw (work, messages) refl;
  calls = refl;
  numbered = rw (work, next) refl;
  given = given;
  mid = record { other = rw (running, epoch) (mid_older x.mid (length x.past) s h.mid); is = halted };
}

remove_flow : (y : Call) (x : Course) (s : State) → removes y ≡ true → Flow x s → Flow (fresh x) (removed (accepted y s.control) s)
remove_flow y x s is h = by_removals (λ y. Flow (fresh x) (removed (accepted y s.control) s)) (removed_flow x s _ refl refl refl refl refl refl refl refl h) (removed_flow x s _ refl refl refl refl refl refl refl refl h) y is

-- ---- starts

none_some : {X : Type 0} (o : Option X) (y : X) → o ≡ None → o ≡ Some y → ⊥
none_some o y none is = let e = sym none ∙ is in absurd cc

-- nothing is at work where an item may begin
pub mid_free : (qs : List Asked) (n : ℕ) (s : State) → s.control.running ≡ None → s.control.halted ≡ false → IsMid qs n s → qs ≡ []
mid_free [] n s idle awake h = refl
mid_free (a ∷ []) n s idle awake (inl h) = absurd (none_some s.control.running h.r idle h.is)
mid_free (a ∷ []) n s idle awake (inr h) = absurd (let e : true ≡ false = sym h.is ∙ awake in cc)
mid_free (a ∷ b ∷ qs) n s idle awake h = absurd h

begun_flow : (i : Item) (is : List Item) (x : Course) (s : State) → s.control.work ≡ i ∷ is → s.control.running ≡ None → s.control.halted ≡ false → Flow x s → Flow (record (plain None x) { mid = front_asked s.control.work }) (begun (i ∷ is) i s)
begun_flow i is x s first idle awake h =
    let none = mid_free x.mid (length x.past) s idle awake h.mid in
    let numbered : IsNumbered (length x.past + 0) (i ∷ is) s.control.next_item = rw (none, first) at h.numbered in
    let number : i.number ≡ length x.past = omega (arith, numbered.0) in
    rw first (record {
      place = ap (λ (n : ℕ). n + 1) h.place;
      epoch = h.epoch;
      works = rw (h.works, none, first, append-nil, append_assoc) refl;
      calls = h.calls;
      numbered = subst (λ (n : ℕ). IsNumbered n is s.control.next_item) (omega arith) numbered.1;
      given = rw (h.given, none, append-nil, given_more_all x.past (i.place, i.work) nothing_given) refl;
      mid = inl (record { r = _; is = refl; now = refl; number = number; place = refl; kind = refl; awake = awake; same = refl });
    })

-- ---- ends of items

-- an item that ran halts nothing, and one that did not does
pub ran_halts : (k : WorkKind) (g : Given) (n : ℕ) (e : Ended) → ended_of k g (Outcome.Ran n) ≡ Some e → halts e ≡ false
ran_halts k g n e h = by (answer_to k g) h
  where
    by : (a : Option (List media.Unit)) → ended_run n a ≡ Some e → halts e ≡ false
    by None h = absurd cc
    by (Some us) h = ap halts (sym (some_same (Ended.Ran us) e (cond_is _ _ e h).1))

abbrev pub is_ran : Outcome → Bool
is_ran (Outcome.Ran n) = true
is_ran o = false

pub other_halts : (k : WorkKind) (g : Given) (o : Outcome) (e : Ended) → is_ran o ≡ false → ended_of k g o ≡ Some e → halts e ≡ true
other_halts k g (Outcome.Ran n) e not h = absurd cc
other_halts k g Outcome.Refused e not h = by (answer_to k g) h
  where
    by : (a : Option (List media.Unit)) → ended_refused a ≡ Some e → halts e ≡ true
    by None h = ap halts (sym (some_same Ended.Refused e h))
    by (Some us) h = absurd cc
other_halts k g (Outcome.NoSlot n) e not h = ap halts (no_slot_end k g n e h)
other_halts k g Outcome.NoMemory e not h = ap halts (sym (some_same Ended.NoMemory e h))

pub ran_same : (q : Option Ran) (b : Book) → ((after_ran q b).place ≡ b.place) × ((after_ran q b).epoch ≡ b.epoch) × ((after_ran q b).calls ≡ b.calls)
ran_same None b = (refl, refl, refl)
ran_same (Some q) b = by (eqb q.epoch b.epoch)
  where
    item : (o : Option (ℕ × WorkKind)) → ((after_item q.units o b).place ≡ b.place) × ((after_item q.units o b).epoch ≡ b.epoch) × ((after_item q.units o b).calls ≡ b.calls)
    item None = (refl, refl, refl)
    item (Some (call, WorkKind.Configure)) = (refl, refl, refl)
    item (Some (call, WorkKind.Coded)) = (refl, refl, refl)
    item (Some (call, WorkKind.Flush)) = (refl, refl, refl)

    by : (c : Bool) → let d : Book = cond c (after_item q.units (slice_get b.calls q.item) b) b in (d.place ≡ b.place) × (d.epoch ≡ b.epoch) × (d.calls ≡ b.calls)
    by true = item (slice_get b.calls q.item)
    by false = (refl, refl, refl)

-- the item at work is of this epoch
pub mid_now : (qs : List Asked) (n : ℕ) (s : State) (r : Running) → s.control.running ≡ Some r → r.epoch ≡ s.control.epoch → IsMid qs n s → (a : Asked) × (qs ≡ a ∷ []) × RunsNow a n s
mid_now [] n s r is now h = absurd (let other : IsOther s.control.epoch (Some r) = rw is at h.other in omega (arith, other, now))
mid_now (a ∷ []) n s r is now (inl h) = (a, refl, h)
mid_now (a ∷ []) n s r is now (inr h) = absurd (let other : IsOther s.control.epoch (Some r) = rw is at h.other in omega (arith, other, now))
mid_now (a ∷ b ∷ qs) n s r is now h = absurd h

-- an item of an older epoch ended
mid_old : (qs : List Asked) (n : ℕ) (s t : State) (r : Running) → s.control.running ≡ Some r → (r.epoch ≡ s.control.epoch → ⊥) → t.control.running ≡ None → t.control.halted ≡ s.control.halted → IsMid qs n s → IsMid qs n t
mid_old [] n s t r is old idle halted h = record { other = rw idle tt; is = halted ∙ h.is }
mid_old (a ∷ []) n s t r is old idle halted (inl h) = absurd (let same : h.r ≡ r = some_same h.r r (sym h.is ∙ is) in old (ap (λ (q : Running). q.epoch) (sym same) ∙ h.now))
mid_old (a ∷ []) n s t r is old idle halted (inr h) = inr (record { other = rw idle tt; is = halted ∙ h.is })
mid_old (a ∷ b ∷ qs) n s t r is old idle halted h = absurd h

abbrev pub ended_state : Running → Ended → ℕ → State → State
ended_state r e moment s = with_control (done_running r e moment (at_next_place s.control)) s

-- the end of an item, as a state: the same but for these
record Ends (s t : State) (halted : Bool) : Type 0 where
  place : t.control.place ≡ s.control.place + 1
  epoch : t.control.epoch ≡ s.control.epoch
  work : t.control.work ≡ s.control.work
  messages : t.control.messages ≡ s.control.messages
  next : t.control.next_item ≡ s.control.next_item
  idle : t.control.running ≡ None
  is_halted : t.control.halted ≡ halted
  given : t.given ≡ s.given

ends_now : (r : Running) (e : Ended) (moment : ℕ) (s : State) → eqb r.epoch s.control.epoch ≡ true → Ends s (ended_state r e moment s) (halts e || s.control.halted)
ends_now r e moment s now = rw now (record { place = refl; epoch = refl; work = refl; messages = refl; next = refl; idle = refl; is_halted = refl; given = refl })

ends_old : (r : Running) (e : Ended) (moment : ℕ) (s : State) → eqb r.epoch s.control.epoch ≡ false → Ends s (ended_state r e moment s) s.control.halted
ends_old r e moment s old = rw old (record { place = refl; epoch = refl; work = refl; messages = refl; next = refl; idle = refl; is_halted = refl; given = refl })

module _ (x : Course) (s t : State) (h : Flow x s) where
  -- the item did not run, or is old
  stays_flow : (halted : Bool) → Ends s t halted → IsMid x.mid (length x.past) t → Flow (plain None x) t
  stays_flow halted k mid = record {
    place = ap (λ (n : ℕ). n + 1) h.place ∙ sym k.place;
    epoch = h.epoch ∙ sym k.epoch;
    works = rw (k.work, k.messages) (h.works);
    calls = h.calls;
    numbered = rw (k.work, k.next) (h.numbered);
    given = k.given ∙ h.given;
    mid = mid;
  }

  ran_flow : (item units : ℕ) → Ends s t false → Flow (settled s.control.epoch item units s x) t
  ran_flow item units k =
      let same = ran_same (Some (record { epoch = s.control.epoch; item = item; units = units })) x.book in
      rw (eq-eqb s.control.epoch s.control.epoch refl) (record {
        place = ap (λ (n : ℕ). n + 1) (same.0 ∙ h.place) ∙ sym k.place;
        epoch = same.1 ∙ (h.epoch ∙ sym k.epoch);
        works = rw (k.work, k.messages, append-nil) (h.works);
        calls = same.2 ∙ h.calls;
        numbered = rw (k.work, k.next) (subst (λ (n : ℕ). IsNumbered n s.control.work s.control.next_item) (omega (arith, length-append x.past x.mid)) h.numbered);
        given = rw append-nil (k.given ∙ h.given);
        mid = record { other = rw k.idle tt; is = k.is_halted };
      })

  old_flow : (epoch item units : ℕ) → eqb epoch s.control.epoch ≡ false → Ends s t s.control.halted → IsMid x.mid (length x.past) t → Flow (settled epoch item units s x) t
  old_flow epoch item units old k mid =
      let same = ran_same (Some (record { epoch = epoch; item = item; units = units })) x.book in
      rw old (record {
        place = ap (λ (n : ℕ). n + 1) (same.0 ∙ h.place) ∙ sym k.place;
        epoch = same.1 ∙ (h.epoch ∙ sym k.epoch);
        works = rw (k.work, k.messages) (h.works);
        calls = same.2 ∙ h.calls;
        numbered = rw (k.work, k.next) (h.numbered);
        given = k.given ∙ h.given;
        mid = mid;
      })

halted_now : (e : Ended) (b c : Bool) → halts e ≡ b → c ≡ false → (halts e || c) ≡ b
halted_now e b c is awake = rw (is, awake) (by b)
  where
    by : (b : Bool) → (b || false) ≡ b
    by true = refl
    by false = refl

-- The end of an item of this epoch.
now_flow : (r : Running) (e : Ended) (item moment : ℕ) (o : Outcome) (x : Course) (s : State) → s.control.running ≡ Some r → r.epoch ≡ s.control.epoch → ended_of r.kind s.running_given o ≡ Some e → Flow x s → Flow (done_course_is s.control.epoch item o s x) (ended_state r e moment s)
now_flow r e item moment o x s running now is h =
    let k = mid_now x.mid (length x.past) s r running now h.mid in
    let ends = ends_now r e moment s (eq-eqb r.epoch s.control.epoch now) in
    let stops : halts e ≡ true → Flow (plain None x) (ended_state r e moment s) = λ stops. stays_flow x s _ h _ ends (rw k.1 (inr (record { other = rw ends.idle tt; is = ends.is_halted ∙ halted_now e true s.control.halted stops k.2.awake }))) in
    by o is stops (λ n ran. ran_flow x s _ h item n (subst (λ (b : Bool). Ends s (ended_state r e moment s) b) (halted_now e false s.control.halted (ran_halts r.kind s.running_given n e ran) k.2.awake) ends))
  where
    by : (o : Outcome) → ended_of r.kind s.running_given o ≡ Some e → (halts e ≡ true → Flow (plain None x) (ended_state r e moment s)) → ((n : ℕ) → ended_of r.kind s.running_given (Outcome.Ran n) ≡ Some e → Flow (settled s.control.epoch item n s x) (ended_state r e moment s)) → Flow (done_course_is s.control.epoch item o s x) (ended_state r e moment s)
    by (Outcome.Ran n) is stops ran = ran n is
    by Outcome.Refused is stops ran = stops (other_halts r.kind s.running_given Outcome.Refused e refl is)
    by (Outcome.NoSlot m) is stops ran = stops (other_halts r.kind s.running_given (Outcome.NoSlot m) e refl is)
    by Outcome.NoMemory is stops ran = stops (other_halts r.kind s.running_given Outcome.NoMemory e refl is)

-- the end of an item of an older epoch
past_flow : (r : Running) (e : Ended) (item moment : ℕ) (o : Outcome) (x : Course) (s : State) → s.control.running ≡ Some r → eqb r.epoch s.control.epoch ≡ false → Flow x s → Flow (done_course_is r.epoch item o s x) (ended_state r e moment s)
past_flow r e item moment o x s running old h =
    let ends = ends_old r e moment s old in
    let mid = mid_old x.mid (length x.past) s (ended_state r e moment s) r running (λ now. let k = eq-eqb r.epoch s.control.epoch now in let e : true ≡ false = sym k ∙ old in absurd cc) ends.idle ends.is_halted h.mid in
    by o mid ends
  where
    by : (o : Outcome) → IsMid x.mid (length x.past) (ended_state r e moment s) → Ends s (ended_state r e moment s) s.control.halted → Flow (done_course_is r.epoch item o s x) (ended_state r e moment s)
    by (Outcome.Ran n) mid ends = old_flow x s _ h r.epoch item n old ends mid
    by o mid ends = stays_flow x s _ h _ ends mid

done_flow : (r : Running) (e : Ended) (epoch item moment : ℕ) (o : Outcome) (x : Course) (s : State) → s.control.running ≡ Some r → (eqb r.epoch epoch && eqb r.number item) ≡ true → ended_of r.kind s.running_given o ≡ Some e → Flow x s → Flow (done_course_is epoch item o s x) (ended_state r e moment s)
done_flow r e epoch item moment o x s running own is h =
    let same : r.epoch ≡ epoch = eqb-true r.epoch epoch (and_parts _ _ own).0 in
    by (eqb r.epoch s.control.epoch) refl same
  where
    by : (b : Bool) → eqb r.epoch s.control.epoch ≡ b → r.epoch ≡ epoch → Flow (done_course_is epoch item o s x) (ended_state r e moment s)
    by true t same = let now = eqb-true r.epoch s.control.epoch t in subst (λ (n : ℕ). Flow (done_course_is n item o s x) (ended_state r e moment s)) (sym now ∙ same) (now_flow r e item moment o x s running now is h)
    by false t same = subst (λ (n : ℕ). Flow (done_course_is n item o s x) (ended_state r e moment s)) same (past_flow r e item moment o x s running t h)

-- ---- turns

turn_flow : (t : Task) (ts : List Task) (x : Course) (s : State) → Flow x s → Flow (turn_course_is t s x) (task_ran t ts s)
turn_flow Task.Unblock ts x s h = turned_flow [] x s _ refl refl refl refl refl refl refl h
turn_flow Task.Process ts x s h = processed_flow (turned [] x) (with_control (record (at_next_place s.control) { tasks = ts }) s) (turned_flow [] x s _ refl refl refl refl refl refl refl h)
turn_flow Task.Desaturate ts x s h = processed_flow (turned [] x) (with_control (record (at_next_place s.control) { tasks = ts; saturated = false }) s) (turned_flow [] x s _ refl refl refl refl refl refl refl h)
turn_flow (Task.Output units) ts x s h = turned_flow (task_units (Task.Output units) s.control) x s _ refl refl refl refl refl refl refl h
turn_flow (Task.Flushed promise units) ts x s h = turned_flow (task_units (Task.Flushed promise units) s.control) x s _ refl refl refl refl refl refl refl h
turn_flow Task.Dequeue ts x s h = turned_flow [] x s _ refl refl refl refl refl refl refl h
turn_flow (Task.Close error) ts x s h = removed_flow x s _ refl refl refl refl refl refl refl refl h

-- ---- each entry

-- an entry that counts a take, or tells the codec's ground
noted_flow : (taken : ℕ) (to : Ground) (x : Course) (s : State) → Flow x s → Flow (plain None x) (with_control (record (at_next_place s.control) { taken = taken; own_ground = to }) s)
noted_flow taken to x s h = record {
  place = ap (λ (n : ℕ). n + 1) h.place;
  epoch = h.epoch;
  works = h.works;
  calls = h.calls;
  numbered = h.numbered;
  given = h.given;
  mid = mid_same x.mid (length x.past) s _ refl refl refl refl refl h.mid;
}

each_flow : EachStep (λ e s t. (x : Course) → Flow x s → Flow (course_after e s x) t)
each_flow = record {
  refused = λ who y error s may e x h. rw (refused_course who y error s x e) (plain_flow x s h);
  sent = λ who y w s m may e x h. rw (sent_course who y w s x m e) (queued_flow x s w (accepted y s.control) (call_sends y w s.control m) h);
  removes_all = λ who y s is e x h. rw (removal_course who y s x is e) (remove_flow y x s is h);
  takes = λ who unit s may x h. rw (take_course who unit s x) (noted_flow (s.control.taken + 1) s.control.own_ground x s h);
  grounds = λ who to s x h. rw (ground_course who to s x) (noted_flow s.control.taken to x s h);
  start = λ i is epoch item s first may x h.
      let free = and_parts (is_none s.control.running) (not s.control.halted) (begins_free epoch item i s.control may) in
      rw (start_course epoch item s x) (begun_flow i is x s first (idle_of s.control.running free.0) (not-true _ free.1) h);
  done = λ r e epoch item moment o s running own is x h. rw (done_course epoch item moment o s x) (done_flow r e epoch item moment o x s running own is h);
  turn = λ t ts s first x h. rw (turn_course t ts s x first) (turn_flow t ts x s h);
  reclaim = λ moment s may x h. removed_flow x s _ refl refl refl refl refl refl refl refl h;
}
  where
    idle_of : (o : Option Running) → is_none o ≡ true → o ≡ None
    idle_of None h = refl
    idle_of (Some r) h = absurd cc

pub step_flow : (e : Entry) (s t : State) → step e s ≡ Some t → (x : Course) → Flow x s → Flow (course_after e s x) t
step_flow = by_steps (λ e s t. (x : Course) → Flow x s → Flow (course_after e s x) t) each_flow
