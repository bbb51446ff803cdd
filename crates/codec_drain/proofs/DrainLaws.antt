-- What a codec makes that does what is left to it.
use Rattle.std.proofs.Common.{ℕ, ◌≡◌, ◌≢◌, ◌+◌, ◌-◌, ◌*◌, ◌≤◌, ◌&&◌, not, Bool, true, false, eqb, cond, eq-eqb, List, [], ◌∷◌, ◌++◌, append_assoc, append-nil, length, length-append, map, count_by, Option, Some, None, is_some, is_none, refl, ap, sym, subst, ◌∙◌, arith}
use Rattle.std.specs.Prelude.{IfSome, unwrap_or, nat_lt}
use Rattle.std.proofs.lemmas.Bool.{and_from, lt-ltb}
use Rattle.std.proofs.lemmas.List.{map_push}
use Rattle.std.specs.List.{AllByRecursion}
use Rattle.coder_api.specs.Lent.{Lent, stopped_lent}
use Rattle.slot_registry.specs.Slots.{SlotsValue, is_later}
use Rattle.wc_base.specs.declared.who.By.{By}
use Rattle.wc_pool.specs.declared.entry.PoolEntry.{PoolEntry}
use Rattle.wc_pool.specs.declared.reference.MediaRef.{MediaRef}
use Rattle.wc_pool.specs.Pools.{IsLive, Adds, KeepsOthers, ended_by}
use Rattle.codec_media.specs.Holding.{Holding, RemovedValue, LetsGo, pair_of}
use Rattle.codec_model.specs.declared.entry.{Pair.Pair, Entry.Entry, Outcome.Outcome, Running.Running, Item.Item, Task.Task}
use Rattle.codec_model.specs.Control.{Control, left, front, may_start, start_item, is_close}
use Rattle.codec_model.specs.Replay.{State, step, replay, opening_state, IsLegal}
use Rattle.codec_model.specs.Held.{held_in, held_by, items_held, messages_held, running_pairs, waiting_held, closes_codec, HeldStays}
use Rattle.codec_model.specs.Facts.{bit, is_step, IsNeverStuck, IsQuiet, OwesNothing, EndsQuiet, Always, LeavesFewer}
use Rattle.codec_core.specs.Codec.{Codec, state_at, Makes, kept_box, handed_back, closes_now}
use Rattle.codec_core.specs.Job.{stopped_box}
use Rattle.codec_drain.specs.Drains.{IsOwnBox, AreLive, IsAtHome, box_in, pairs_in, is_step_at, EndThem, Steps, Ends, Moves, Drained}

-- ---- entries

all_both : {X : Type 0} (P : X → Type 0) (xs ys : List X) → AllByRecursion P xs → AllByRecursion P ys → AllByRecursion P (xs ++ ys)
all_both P [] ys h k = k
all_both P (x ∷ xs) ys h k = (h.0, all_both P xs ys h.1 k)

steps_at : (moment : ℕ) (e : Entry) → is_step_at moment e ≡ true → is_step e ≡ true
steps_at moment (Entry.Done epoch item at outcome) h = refl
steps_at moment e h = h

pub legal_at : (c : Codec) → IsLegal c.opening c.history → replay c.opening c.history ≡ Some (state_at c)
legal_at c legal = by (replay c.opening c.history) legal
  where
    by : (u : Option State) → is_some u ≡ true → u ≡ Some (unwrap_or u (opening_state c.opening))
    by None h = absurd cc
    by (Some s) h = refl

pub no_steps : (moment : ℕ) (c : Codec) → replay c.opening c.history ≡ Some (state_at c) → Steps moment c c []
no_steps moment c legal = record { same_opening = refl; longer = sym (append-nil c.history); each = tt; legal = legal; fewer = omega arith }

pub one_step : LeavesFewer → (moment : ℕ) (old new : Codec) (e : Entry) → 1 ≤ old.opening.saturation → replay old.opening old.history ≡ Some (state_at old) → Makes old new e → is_step_at moment e ≡ true → Steps moment old new (e ∷ [])
one_step fewer moment old new e some legal m is = record {
  same_opening = m.same_opening;
  longer = m.longer;
  each = (is, tt);
  legal = m.legal;
  fewer = fewer old.opening old.history (state_at old) e (state_at new) some legal (steps_at moment e is) m.steps;
}

pub more_steps : (moment : ℕ) (a b c : Codec) (es fs : List Entry) → Steps moment a b es → Steps moment b c fs → Steps moment a c (es ++ fs)
more_steps moment a b c es fs h k = record {
  same_opening = k.same_opening ∙ h.same_opening;
  longer = k.longer ∙ (ap (λ (l : List Entry). l ++ fs) h.longer ∙ append_assoc a.history es fs);
  each = all_both (λ e. is_step_at moment e ≡ true) es fs h.each k.each;
  legal = k.legal;
  fewer = (let first = h.fewer in let second = k.fewer in let all = length-append es fs in omega (arith, first, second, all));
}

-- where no entry was made the state is the same
pub same_at : (moment : ℕ) (old new : Codec) (es : List Entry) → Steps moment old new es → length es ≡ 0 → state_at new ≡ state_at old
same_at moment old new [] h none =
    let history : new.history ≡ old.history = h.longer ∙ append-nil old.history in
    ap (λ (l : List Entry). unwrap_or (replay new.opening l) (opening_state new.opening)) history ∙ ap (λ o. unwrap_or (replay o old.history) (opening_state o)) h.same_opening
same_at moment old new (e ∷ es) h none = absurd (omega (arith, none))

-- ---- references

pub live_front : (pool : List PoolEntry) (ps qs : List Pair) → AreLive pool (ps ++ qs) → AreLive pool ps
live_front pool [] qs h = tt
live_front pool (p ∷ ps) qs h = (h.0, all_front ps h.1, live_front pool ps qs h.2)
  where
    all_front : (rs : List Pair) → AllByRecursion (λ (q : Pair). q.reference ≢ p.reference) (rs ++ qs) → AllByRecursion (λ (q : Pair). q.reference ≢ p.reference) rs
    all_front [] k = tt
    all_front (r ∷ rs) k = (k.0, all_front rs k.1)

end_both : (k : ℕ) (ps qs : List Pair) (es fs : List PoolEntry) → EndThem k ps es → EndThem k qs fs → EndThem k (ps ++ qs) (es ++ fs)
end_both k [] qs [] fs h g = g
end_both k [] qs (e ∷ es) fs h g = absurd h
end_both k (p ∷ ps) qs [] fs h g = absurd h
end_both k (p ∷ ps) qs (e ∷ es) fs h g = (h.0, end_both k ps qs es fs h.1 g)

pub no_ends : (k : ℕ) (pool : List PoolEntry) → Ends k [] pool pool
no_ends k pool = record { entries = []; longer = sym (append-nil pool); ends = tt }

pub more_ends : (k : ℕ) (ps qs : List Pair) (a b c : List PoolEntry) → Ends k ps a b → Ends k qs b c → Ends k (ps ++ qs) a c
more_ends k ps qs a b c h g = record {
  entries = h.entries ++ g.entries;
  longer = g.longer ∙ (ap (λ (l : List PoolEntry). l ++ g.entries) h.longer ∙ append_assoc a h.entries g.entries);
  ends = end_both k ps qs h.entries g.entries h.ends g.ends;
}

-- ---- boxes

own_later : (k n m : ℕ) (slots : SlotsValue) (lent other : Lent) → n ≤ m → other.id ≡ lent.id → other.number ≡ lent.number → other.by ≡ lent.by → IsOwnBox k n slots lent → IsOwnBox k m slots other
own_later k n m slots lent other le id number by h = record {
  held = rw (id, number, by) h.held;
  place = h.place;
  by = by ∙ h.by;
  earlier = (let lt = h.earlier in omega (arith, lt, le));
}

pub own_stopped : (k n m : ℕ) (slots : SlotsValue) (coder : Option Lent) → n ≤ m → IfSome coder (IsOwnBox k n slots) → IfSome (stopped_box coder) (IsOwnBox k m slots)
own_stopped k n m slots None le h = tt
own_stopped k n m slots (Some lent) le h = own_later k n m slots lent (stopped_lent lent) le refl refl refl h

pub own_handed : (b : Bool) (k n m : ℕ) (slots : SlotsValue) (coder : Option Lent) → n ≤ m → IfSome coder (IsOwnBox k n slots) → IfSome (handed_back b coder) (IsOwnBox k m slots)
own_handed true k n m slots coder le h = tt
own_handed false k n m slots coder le h = own_stopped k n m slots coder le h

pub own_kept : (b : Bool) (k n m : ℕ) (slots after : SlotsValue) (coder : Option Lent) → n ≤ m → (handed_back b coder ≡ None → after ≡ slots) → IfSome coder (IsOwnBox k n slots) → IfSome (kept_box b coder) (IsOwnBox k m after)
own_kept false k n m slots after coder le same h = tt
own_kept true k n m slots after None le same h = tt
own_kept true k n m slots after (Some lent) le same h = rw (same refl) (own_later k n m slots lent lent le refl refl refl h)

-- ---- moves

pub more_moves : (k moment : ℕ) (a b c : Codec) (s t : SlotsValue) (p q r : List PoolEntry) (m n : ℕ) → Moves k moment a b s p q m → Moves k moment b c t q r n → Moves k moment a c t p r (m + n)
more_moves k moment a b c s t p q r m n h g = record {
  entries = h.entries ++ g.entries;
  steps = more_steps moment a b c h.entries g.entries h.steps g.steps;
  counted = (let first = h.counted in let second = g.counted in let all = length-append h.entries g.entries in omega (arith, first, second, all));
  gone = h.gone ++ g.gone;
  held = h.held ∙ (ap (λ (l : List Pair). h.gone ++ l) g.held ∙ sym (append_assoc h.gone g.gone (held_in (state_at c))));
  ended = more_ends k h.gone g.gone p q r h.ended g.ended;
  home = g.home;
}

pub no_moves : (k moment : ℕ) (c : Codec) (s : SlotsValue) (p : List PoolEntry) → replay c.opening c.history ≡ Some (state_at c) → IsAtHome k c s p → Moves k moment c c s p p 0
no_moves k moment c s p legal home = record {
  entries = [];
  steps = no_steps moment c legal;
  counted = refl;
  gone = [];
  held = refl;
  ended = no_ends k p;
  home = home;
}

-- ---- a start and the end of its item

pub started_held : HeldStays → (epoch item : ℕ) (s t : State) → step (Entry.Start epoch item) s ≡ Some t → held_in t ≡ held_in s
started_held stays epoch item s t is = stays (Entry.Start epoch item) s t is ∙ append-nil (held_in s)

pub done_held : HeldStays → (epoch item moment : ℕ) (o : Outcome) (s t : State) → step (Entry.Done epoch item moment o) s ≡ Some t → held_in s ≡ running_pairs s ++ held_in t
done_held stays epoch item moment o s t is = ap (λ (l : List Pair). running_pairs s ++ l) (sym (stays (Entry.Done epoch item moment o) s t is ∙ append-nil (waiting_held s.control)))

pub worked : HeldStays → LeavesFewer → (k moment : ℕ) (old mid new : Codec) (epoch item last number : ℕ) (o : Outcome) (b : Bool) (coder : Option Lent) (given after : SlotsValue) (pool ended : List PoolEntry) (pairs : List Pair)
    → 1 ≤ old.opening.saturation → replay old.opening old.history ≡ Some (state_at old) → Makes old mid (Entry.Start epoch item) → Makes mid new (Entry.Done last number moment o)
    → pairs ≡ running_pairs (state_at mid) → AreLive pool (held_in (state_at old)) → Ends k pairs pool ended → ((ps : List Pair) → AreLive pool (pairs ++ ps) → AreLive ended ps)
    → (state_at new).control.running ≡ None → new.slot ≡ kept_box b coder → (handed_back b coder ≡ None → after ≡ given) → IfSome coder (IsOwnBox k (length old.history + 1) given)
    → Moves k moment old new after pool ended 2
worked stays fewer k moment old mid new epoch item last number o b coder given after pool ended pairs some legal started done pairs_are live ends others idle slot same own =
    let first = one_step fewer moment old mid (Entry.Start epoch item) some legal started refl in
    let second = one_step fewer moment mid new (Entry.Done last number moment o) (rw (started.same_opening) some) started.legal done (eq-eqb moment moment refl) in
    let held : held_in (state_at old) ≡ pairs ++ held_in (state_at new) = sym (started_held stays epoch item (state_at old) (state_at mid) started.steps) ∙ (done_held stays last number moment o (state_at mid) (state_at new) done.steps ∙ ap (λ (l : List Pair). l ++ held_in (state_at new)) (sym pairs_are)) in
    let long : length new.history ≡ length old.history + 2 = ap length (done.longer ∙ (ap (λ (l : List Entry). l ++ Entry.Done last number moment o ∷ []) started.longer)) ∙ omega (arith, length-append (old.history ++ Entry.Start epoch item ∷ []) (Entry.Done last number moment o ∷ []), length-append old.history (Entry.Start epoch item ∷ [])) in
    record {
      entries = Entry.Start epoch item ∷ Entry.Done last number moment o ∷ [];
      steps = more_steps moment old mid new (Entry.Start epoch item ∷ []) (Entry.Done last number moment o ∷ []) first second;
      counted = refl;
      gone = pairs;
      held = held;
      ended = ends;
      home = record {
        idle = idle;
        box = subst (λ (c : Option Lent). IfSome c (IsOwnBox k (length new.history) after)) (sym slot) (own_kept b k (length old.history + 1) (length new.history) given after coder (omega (arith, long)) same own);
        live = others (held_in (state_at new)) (subst (AreLive pool) held live);
      };
    }

-- ---- a turn

closes_same : (ts : List Task) (c : Control) → c.tasks ≡ ts → closes_now c ≡ closes_codec ts
closes_same [] c is = rw is refl
closes_same (t ∷ ts) c is = rw is refl

pub idle_pairs : (s : State) → s.control.running ≡ None → running_pairs s ≡ []
idle_pairs s idle = ap (λ (o : Option Running). held_by o s.running_held) idle

-- a turn lets go what waits where it closes the codec
pub turned_held : HeldStays → (s t : State) → step Entry.Turn s ≡ Some t → s.control.running ≡ None → held_in s ≡ cond (closes_now s.control) (waiting_held s.control) [] ++ held_in t
turned_held stays s t is idle = by (closes_now s.control) (sym (closes_same s.control.tasks s.control refl)) (stays Entry.Turn s t is)
  where
    none : running_pairs s ≡ []
    none = idle_pairs s idle

    by : (b : Bool) → closes_codec s.control.tasks ≡ b → held_in t ≡ cond (closes_codec s.control.tasks) (running_pairs s) (held_in s) ++ [] → held_in s ≡ cond b (waiting_held s.control) [] ++ held_in t
    by true closes held = ap (λ (l : List Pair). l ++ waiting_held s.control) none ∙ (sym (append-nil (waiting_held s.control)) ∙ ap (λ (l : List Pair). waiting_held s.control ++ l) (sym (held ∙ (append-nil _ ∙ (ap (λ (c : Bool). cond c (running_pairs s) (held_in s)) closes ∙ none)))))
    by false closes held = sym (held ∙ (append-nil _ ∙ ap (λ (c : Bool). cond c (running_pairs s) (held_in s)) closes))

pub turned : HeldStays → LeavesFewer → (k moment : ℕ) (old new : Codec) (given after : SlotsValue) (pool ended : List PoolEntry) (pairs : List Pair)
    → 1 ≤ old.opening.saturation → replay old.opening old.history ≡ Some (state_at old) → Makes old new Entry.Turn → IsAtHome k old given pool
    → pairs ≡ cond (closes_now (state_at old).control) (waiting_held (state_at old).control) [] → Ends k pairs pool ended → ((ps : List Pair) → AreLive pool (pairs ++ ps) → AreLive ended ps)
    → (state_at new).control.running ≡ (state_at old).control.running → new.slot ≡ kept_box (not (closes_now (state_at old).control)) old.slot → (handed_back (not (closes_now (state_at old).control)) old.slot ≡ None → after ≡ given)
    → Moves k moment old new after pool ended 1
turned stays fewer k moment old new given after pool ended pairs some legal made home pairs_are ends others same_running slot same =
    let held : held_in (state_at old) ≡ pairs ++ held_in (state_at new) = turned_held stays (state_at old) (state_at new) made.steps home.idle ∙ ap (λ (l : List Pair). l ++ held_in (state_at new)) (sym pairs_are) in
    let long : length new.history ≡ length old.history + 1 = ap length made.longer ∙ length-append old.history (Entry.Turn ∷ []) in
    record {
      entries = Entry.Turn ∷ [];
      steps = one_step fewer moment old new Entry.Turn some legal made refl;
      counted = refl;
      gone = pairs;
      held = held;
      ended = ends;
      home = record {
        idle = same_running ∙ home.idle;
        box = subst (λ (c : Option Lent). IfSome c (IsOwnBox k (length new.history) after)) (sym slot) (own_kept (not (closes_now (state_at old).control)) k (length old.history) (length new.history) given after old.slot (omega (arith, long)) same home.box);
        live = others (held_in (state_at new)) (subst (AreLive pool) held home.live);
      };
    }

-- ---- the end

awake_of : (b : Bool) → 0 ≡ bit b → b ≡ false
awake_of true h = absurd (omega (arith, h))
awake_of false h = refl

no_front : (is : List Item) → front is ≡ None → is ≡ []
no_front [] h = refl
no_front (i ∷ is) h = absurd cc

pub quiet_by : (c : Control) → IsNeverStuck c → c.running ≡ None → c.tasks ≡ [] → start_item c ≡ None → IsQuiet c
quiet_by c facts idle tasks none =
    let awake = awake_of c.halted (sym (ap (count_by is_close) tasks) ∙ facts.halts.closes) in
    let may : may_start c ≡ true = ap (λ (o : Option Running). is_none o && not c.halted) idle ∙ ap not awake in
    record { no_work = no_front c.work (sym (ap (λ (b : Bool). cond b (front c.work) None) may) ∙ none); idle = idle; no_tasks = tasks }

-- ---- references that end, one after another

later_live : (r : MediaRef) (now next : List PoolEntry) → KeepsOthers r.number (IsLive now) (IsLive next) → (qs : List Pair) → AllByRecursion (λ q. q.reference ≢ r.number) qs → AreLive now qs → AreLive next qs
later_live r now next keeps [] apart h = tt
later_live r now next keeps (q ∷ qs) apart h = (keeps.stay (record r { resource = q.resource; number = q.reference }) apart.0 h.0, h.1, later_live r now next keeps qs apart.1 h.2)

-- so far: these references have ended, and these are left
pub record Ending (k : ℕ) (all rest : List MediaRef) (old now : List PoolEntry) : Type 0 where
  pub gone : List MediaRef
  pub all_are : all ≡ gone ++ rest
  pub ends : Ends k (map pair_of gone) old now
  pub others : (ps : List Pair) → AreLive old (map pair_of all ++ ps) → AreLive now (map pair_of rest ++ ps)

pub ending_start : (k : ℕ) (all : List MediaRef) (old : List PoolEntry) → Ending k all all old old
ending_start k all old = record { gone = []; all_are = refl; ends = no_ends k old; others = λ ps h. h }

pub ending_more : (k place : ℕ) (last : Bool) (all : List MediaRef) (r : MediaRef) (rest : List MediaRef) (old now next : List PoolEntry) → Ending k all (r ∷ rest) old now → Adds now next (ended_by (By.Codec k place) r last) → KeepsOthers r.number (IsLive now) (IsLive next) → Ending k all rest old next
ending_more k place last all r rest old now next h adds keeps = record {
  gone = h.gone ++ r ∷ [];
  all_are = h.all_are ∙ sym (append_assoc h.gone (r ∷ []) rest);
  ends = subst (λ (l : List Pair). Ends k l old next) (sym (map_push pair_of h.gone r)) (more_ends k (map pair_of h.gone) (pair_of r ∷ []) old now next h.ends (record { entries = ended_by (By.Codec k place) r last ∷ []; longer = adds.longer; ends = (record { place = place; last = last; is = refl }, tt) }));
  others = λ ps live. (let here = h.others ps live in later_live r now next keeps (map pair_of rest ++ ps) here.1 here.2);
}

pub ending_live : (k : ℕ) (all : List MediaRef) (r : MediaRef) (rest : List MediaRef) (old now : List PoolEntry) → AreLive old (map pair_of all) → Ending k all (r ∷ rest) old now → IsLive now r
ending_live k all r rest old now live h = (h.others [] (subst (AreLive old) (sym (append-nil (map pair_of all))) live)).0

pub ended_all : (k : ℕ) (all rest : List MediaRef) (old now : List PoolEntry) → rest ≡ [] → Ending k all rest old now → Ends k (map pair_of all) old now
ended_all k all [] old now none h = subst (λ (l : List MediaRef). Ends k (map pair_of l) old now) (sym (h.all_are ∙ append-nil h.gone)) h.ends
ended_all k all (r ∷ rest) old now none h = absurd cc

pub ended_others : (k : ℕ) (all rest : List MediaRef) (old now : List PoolEntry) → rest ≡ [] → Ending k all rest old now → (ps : List Pair) → AreLive old (map pair_of all ++ ps) → AreLive now ps
ended_others k all [] old now none h = h.others
ended_others k all (r ∷ rest) old now none h = absurd cc

-- one alone
pub ended_one : (k place : ℕ) (last : Bool) (r : MediaRef) (old next : List PoolEntry) → Adds old next (ended_by (By.Codec k place) r last) → KeepsOthers r.number (IsLive old) (IsLive next) → Ending k (r ∷ []) [] old next
ended_one k place last r old next adds keeps = ending_more k place last (r ∷ []) r [] old old next (ending_start k (r ∷ []) old) adds keeps

-- a box may go back that its codec's earlier entry asked for
pub goes_later : (k next : ℕ) (slots : SlotsValue) (lent : Lent) → IsOwnBox k next slots lent → is_later lent.by (By.Codec k next) ≡ true
goes_later k next slots lent h = ap (λ (b : By). is_later b (By.Codec k next)) h.by ∙ and_from (eqb k k) (nat_lt h.place next) (eq-eqb k k refl) (lt-ltb h.place next h.earlier)

pub none_left : {X : Type 0} (xs : List X) → length xs ≡ 0 → xs ≡ []
none_left [] h = refl
none_left (x ∷ xs) h = absurd (omega (arith, h))

-- ---- what a turn let go

pub turn_pairs : (closes : Bool) (removed : Option RemovedValue) (waiting : List Pair) → is_some removed ≡ closes → IfSome removed (λ r. map pair_of r.media ≡ waiting) → pairs_in removed ≡ cond closes waiting []
turn_pairs true None waiting is h = absurd cc
turn_pairs false None waiting is h = refl
turn_pairs true (Some r) waiting is h = h
turn_pairs false (Some r) waiting is h = absurd cc

pub turn_box : (closes : Bool) (removed : Option RemovedValue) (slot : Option Lent) → is_some removed ≡ closes → IfSome removed (λ r. r.coder ≡ stopped_box slot) → box_in removed ≡ handed_back (not closes) slot
turn_box true None slot is h = absurd cc
turn_box false None slot is h = refl
turn_box true (Some r) slot is h = h
turn_box false (Some r) slot is h = absurd cc

pub gone_pairs : (old new : Holding) (s : State) (removed : Option RemovedValue) → s ≡ state_at old.codec → IfSome removed (λ r. LetsGo old new r.media) → IfSome removed (λ r. map pair_of r.media ≡ waiting_held s.control)
gone_pairs old new s None is h = tt
gone_pairs old new s (Some r) is h = rw is h.pairs

pub gone_box : (place : ℕ) (slot : Option Lent) (removed : Option RemovedValue) → IfSome removed (λ r. (r.place ≡ place) × (r.coder ≡ stopped_box slot)) → IfSome removed (λ r. r.coder ≡ stopped_box slot)
gone_box place slot None h = tt
gone_box place slot (Some r) h = h.1

-- ---- the loop

-- so far: so many entries were made, and where the last step made none the codec is quiet
pub record Going (k moment : ℕ) (old new : Codec) (slots : SlotsValue) (pool after : List PoolEntry) (made : ℕ) : Type 0 where
  pub count : ℕ
  pub moves : Moves k moment old new slots pool after count
  pub some : 1 ≤ new.opening.saturation
  pub quiet : made ≡ 0 → IsQuiet (state_at new).control

pub going_start : (k moment : ℕ) (c : Codec) (slots : SlotsValue) (pool : List PoolEntry) → 1 ≤ c.opening.saturation → IsLegal c.opening c.history → IsAtHome k c slots pool → Going k moment c c slots pool pool 1
going_start k moment c slots pool some legal home = record { count = 0; moves = no_moves k moment c slots pool (legal_at c legal) home; some = some; quiet = λ none. absurd (omega (arith, none)) }

quiet_same : (s t : State) → t ≡ s → IsQuiet s.control → IsQuiet t.control
quiet_same s t is h = subst (λ (u : State). IsQuiet u.control) (sym is) h

pub going_on : (k moment : ℕ) (old mid new : Codec) (slots later : SlotsValue) (pool after next : List PoolEntry) (made now : ℕ) → Going k moment old mid slots pool after made → Moves k moment mid new later after next now → (now ≡ 0 → IsQuiet (state_at mid).control) → Going k moment old new later pool next now
going_on k moment old mid new slots later pool after next made now h m quiet = record {
  count = h.count + now;
  moves = more_moves k moment old mid new slots later pool after next h.count now h.moves m;
  some = rw (m.steps.same_opening) h.some;
  quiet = λ none. quiet_same (state_at mid) (state_at new) (same_at moment mid new m.entries m.steps (m.counted ∙ none)) (quiet none);
}

-- how far a drain is
abbrev pub far : Codec → ℕ → ℕ
far c made = 2 * left (state_at c).control + cond (eqb made 0) 0 1

-- by how much a history grew
pub grown : (k moment : ℕ) (old new : Codec) (slots : SlotsValue) (pool after : List PoolEntry) (made a b : ℕ) → Going k moment old new slots pool after made → a ≡ length old.history → b ≡ length new.history → length old.history + (b - a) ≡ length new.history
grown k moment old new slots pool after made a b h first last =
    let long = ap length h.moves.steps.longer in
    let both = length-append old.history h.moves.entries in
    omega (arith, long, both, first, last)

pub drained : (k moment : ℕ) (old new : Codec) (slots : SlotsValue) (pool after : List PoolEntry) (made count : ℕ) → Going k moment old new slots pool after made → made ≡ 0 → length old.history + count ≡ length new.history → EndsQuiet (state_at new).control → Drained k moment old new slots pool after count
drained k moment old new slots pool after made count h none counts ends =
    let m = h.moves in
    let quiet : IsQuiet (state_at new).control = h.quiet none in
    let all : length m.entries ≡ count = (let long = ap length m.steps.longer in let both = length-append old.history m.entries in omega (arith, long, both, counts)) in
    let held : held_in (state_at new) ≡ [] = ap (λ (l : List Pair). l ++ waiting_held (state_at new).control) (idle_pairs (state_at new) quiet.idle) ∙ none_waiting (state_at new).control quiet (ends quiet) in
    record {
      entries = m.entries;
      steps = m.steps;
      counted = all;
      at_most = (let fewer = m.steps.fewer in omega (arith, fewer, all));
      quiet = quiet;
      ended = subst (λ (l : List Pair). Ends k l pool after) (sym (m.held ∙ (ap (λ (l : List Pair). m.gone ++ l) held ∙ append-nil m.gone))) m.ended;
      none_held = held;
      home = m.home;
    }
  where
    none_waiting : (c : Control) → IsQuiet c → OwesNothing c → waiting_held c ≡ []
    none_waiting c q o = ap (λ (is : List Item). items_held is ++ messages_held c.messages) q.no_work ∙ ap messages_held o.no_messages

-- ---- what a call to each function asks for and leaves

pub legal_of : (seen c : Codec) → seen ≡ c → IsLegal seen.opening seen.history → replay c.opening c.history ≡ Some (state_at c)
legal_of seen c is legal = legal_at c (subst (λ (x : Codec). IsLegal x.opening x.history) is legal)

pub stays_put : (k moment : ℕ) (old new : Holding) (slots : SlotsValue) (pool : List PoolEntry) → new ≡ old → replay old.codec.opening old.codec.history ≡ Some (state_at old.codec) → IsAtHome k old.codec slots pool → Moves k moment old.codec new.codec slots pool pool 0
stays_put k moment old new slots pool same legal home = subst (λ (h : Holding). Moves k moment old.codec h.codec slots pool pool 0) (sym same) (no_moves k moment old.codec slots pool legal home)

pub work_live : HeldStays → (old mid : Codec) (epoch item : ℕ) (pool : List PoolEntry) (pairs : List Pair) → Makes old mid (Entry.Start epoch item) → AreLive pool (held_in (state_at old)) → pairs ≡ running_pairs (state_at mid) → AreLive pool pairs
work_live stays old mid epoch item pool pairs made live is =
    subst (AreLive pool) (sym is) (live_front pool (running_pairs (state_at mid)) (waiting_held (state_at mid).control) (subst (AreLive pool) (sym (started_held stays epoch item (state_at old) (state_at mid) made.steps)) live))

pub step_quiet : Always IsNeverStuck → (k moment : ℕ) (old mid : Codec) (slots : SlotsValue) (pool after : List PoolEntry) (n : ℕ) → 1 ≤ old.opening.saturation → n ≡ 0 → Moves k moment old mid slots pool after n → start_item (state_at old).control ≡ None → (state_at mid).control.tasks ≡ [] → IsQuiet (state_at old).control
step_quiet facts k moment old mid slots pool after n some none m item tasks =
    let same : state_at mid ≡ state_at old = same_at moment old mid m.entries m.steps (m.counted ∙ none) in
    let stuck = facts mid.opening mid.history (state_at mid) (rw (m.steps.same_opening) some) m.steps.legal in
    let quiet : IsQuiet (state_at mid).control = quiet_by (state_at mid).control stuck m.home.idle tasks (ap (λ (s : State). start_item s.control) same ∙ item) in
    subst (λ (s : State). IsQuiet s.control) same quiet

pub step_moves : (k moment : ℕ) (a b c : Codec) (s t : SlotsValue) (p q r : List PoolEntry) (n m : ℕ) → n ≡ 0 → Moves k moment a b s p q n → Moves k moment b c t q r m → Moves k moment a c t p r m
step_moves k moment a b c s t p q r n m none h g =
    let sum : n + m ≡ m = omega (arith, none) in
    subst (λ (j : ℕ). Moves k moment a c t p r j) sum (more_moves k moment a b c s t p q r n m h g)
