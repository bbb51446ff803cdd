-- By which entry a clone ends. All is counted: how often the clone waits, and is held by the running item.
use Rattle.std.proofs.Common.{ℕ, zero, suc, ◌+◌, ◌≡◌, ◌≢◌, ◌<◌, ◌≤◌, ◌⊎◌, inl, inr, Bool, true, false, if◌then◌else◌, List, [], ◌∷◌, ◌++◌, Option, Some, None, option_map, option_and_then, unwrap_or, refl, ap, sym, subst, ◌∙◌, append-nil, append_assoc, arith}
use Rattle.wc_base.specs.Options.{some_same}
use Rattle.codec_model.specs.declared.entry.{Pair.Pair, Item.Item, Message.Message, Outcome.Outcome, Entry.Entry}
use Rattle.codec_model.specs.Control.{held_of}
use Rattle.codec_model.specs.Replay.{State, opening_state, step, replay_from}
use Rattle.codec_model.specs.Held.{in_order, running_pairs, waiting_held, held_in, front_held, behind_held, items_held, messages_held, adds_held, is_removal, HeldStays, HeldMoves}
use Rattle.history_laws.specs.Clones.{is_same, times, Deed, deed, deeds_from, deeds, made_at, begun_at, ended_at, ends_item_at, removes_at, IsEndOfItem, IsRemovalBefore, IsKept, EndsOnce, ClonesByPlaces}

-- ---- counts

times_append : (p : Pair) (a b : List Pair) → times p (a ++ b) ≡ times p a + times p b
times_append p [] b = omega arith
times_append p (x ∷ a) b = let h = times_append p a b in omega arith

one_most : (b : Bool) → (if b then 1 else 0) ≤ 1
one_most true = omega arith
one_most false = omega arith

front_few : (p : Pair) (is : List Item) → times p (front_held is) ≤ 1
front_few p [] = omega arith
front_few p (i ∷ is) = by (held_of i.work)
  where
    by : (o : Option Pair) → times p (in_order o) ≤ 1
    by None = omega arith
    by (Some q) = let h = one_most (is_same p q) in omega arith

-- what the front item holds, before what waits behind it
front_behind : (is : List Item) (ms : List Message) → front_held is ++ (behind_held is ++ messages_held ms) ≡ items_held is ++ messages_held ms
front_behind [] ms = refl
front_behind (i ∷ is) ms = sym (append_assoc (in_order (held_of i.work)) (items_held is) (messages_held ms))

-- ---- one entry: how often the clone waits and is held by the running item, before it and after it

data Kind : Type 0 where
  at_start : Kind
  at_end : Kind
  at_removal : Kind
  at_other : Kind

record IsStart (w r : ℕ) (d : Deed) (w' r' : ℕ) : Type 0 where
  pub made : d.made ≡ 0
  pub few : d.begun ≤ 1
  pub ended : d.ended ≡ 0
  pub ends_item : d.ends_item ≡ false
  pub removes : d.removes ≡ false
  pub idle : r ≡ 0
  pub waits : w' + d.begun ≡ w
  pub runs : r' ≡ d.begun

record IsEnd (w r : ℕ) (d : Deed) (w' r' : ℕ) : Type 0 where
  pub made : d.made ≡ 0
  pub begun : d.begun ≡ 0
  pub ended : d.ended ≡ r
  pub ends_item : d.ends_item ≡ true
  pub removes : d.removes ≡ false
  pub waits : w' ≡ w
  pub runs : r' ≡ 0

record IsRemoval (w r : ℕ) (d : Deed) (w' r' : ℕ) : Type 0 where
  pub begun : d.begun ≡ 0
  pub ended : d.ended ≡ w
  pub ends_item : d.ends_item ≡ false
  pub removes : d.removes ≡ true
  pub waits : w' ≡ d.made
  pub runs : r' ≡ r

record IsOther (w r : ℕ) (d : Deed) (w' r' : ℕ) : Type 0 where
  pub begun : d.begun ≡ 0
  pub ended : d.ended ≡ 0
  pub ends_item : d.ends_item ≡ false
  pub removes : d.removes ≡ false
  pub waits : w' ≡ w + d.made
  pub runs : r' ≡ r

abbrev Moves : Kind → ℕ → ℕ → Deed → ℕ → ℕ → Type 0
Moves at_start w r d w' r' = IsStart w r d w' r'
Moves at_end w r d w' r' = IsEnd w r d w' r'
Moves at_removal w r d w' r' = IsRemoval w r d w' r'
Moves at_other w r d w' r' = IsOther w r d w' r'

-- the entries lead from these counts to so many references held
abbrev Goes : ℕ → ℕ → List Deed → ℕ → Type 0
Goes w r [] held = held ≡ w + r
Goes w r (d ∷ ds) held = (k : Kind) × (w' : ℕ) × (r' : ℕ) × Moves k w r d w' r' × Goes w' r' ds held

abbrev waits_in : Pair → State → ℕ
waits_in p s = times p (waiting_held s.control)

abbrev runs_in : Pair → State → ℕ
runs_in p s = times p (running_pairs s)

held_is : (p : Pair) (s : State) → times p (held_in s) ≡ waits_in p s + runs_in p s
held_is p s = let h = times_append p (running_pairs s) (waiting_held s.control) in omega arith

module _ (stays : HeldStays) (moves : HeldMoves) (p : Pair) where
  -- nothing runs where an item starts
  idle : (epoch item : ℕ) (s t : State) → step (Entry.Start epoch item) s ≡ Some t → runs_in p s ≡ 0
  idle epoch item s t h =
      let k = moves (Entry.Start epoch item) s t h in
      let all : times p (held_in t) ≡ times p (held_in s ++ []) = ap (times p) (stays (Entry.Start epoch item) s t h) in
      let none = times_append p (held_in s) [] in
      let front = times_append p (front_held s.control.work) (behind_held s.control.work ++ messages_held s.control.messages) in
      let now = held_is p t in
      let was = held_is p s in
      let waits : waits_in p t ≡ times p (behind_held s.control.work ++ messages_held s.control.messages) = ap (times p) k.waits in
      let runs : runs_in p t ≡ times p (front_held s.control.work) = ap (times p) k.runs in
      let whole : times p (front_held s.control.work ++ (behind_held s.control.work ++ messages_held s.control.messages)) ≡ waits_in p s = ap (times p) (front_behind s.control.work s.control.messages) in
      omega arith

  start_moves : (epoch item : ℕ) (s t : State) → step (Entry.Start epoch item) s ≡ Some t → IsStart (waits_in p s) (runs_in p s) (deed p (Entry.Start epoch item) s) (waits_in p t) (runs_in p t)
  start_moves epoch item s t h =
      let k = moves (Entry.Start epoch item) s t h in
      let front = times_append p (front_held s.control.work) (behind_held s.control.work ++ messages_held s.control.messages) in
      let waits : waits_in p t ≡ times p (behind_held s.control.work ++ messages_held s.control.messages) = ap (times p) k.waits in
      let whole : times p (front_held s.control.work ++ (behind_held s.control.work ++ messages_held s.control.messages)) ≡ waits_in p s = ap (times p) (front_behind s.control.work s.control.messages) in
      record { made = refl; few = front_few p s.control.work; ended = refl; ends_item = refl; removes = refl; idle = idle epoch item s t h; waits = omega arith; runs = ap (times p) k.runs }

  end_moves : (epoch item moment : ℕ) (x : Outcome) (s t : State) → step (Entry.Done epoch item moment x) s ≡ Some t → IsEnd (waits_in p s) (runs_in p s) (deed p (Entry.Done epoch item moment x) s) (waits_in p t) (runs_in p t)
  end_moves epoch item moment x s t h =
      let k = moves (Entry.Done epoch item moment x) s t h in
      record { made = refl; begun = refl; ended = refl; ends_item = refl; removes = refl; waits = ap (times p) (k.waits ∙ append-nil (waiting_held s.control)); runs = ap (times p) k.runs }

  -- of any other entry, by whether it is a removal
  rest_moves : (b : Bool) (made waiting : List Pair) (d : Deed) (r w' r' : ℕ) → d.removes ≡ b → d.begun ≡ 0 → d.ends_item ≡ false → d.made ≡ times p made → d.ended ≡ times p (if b then waiting else []) → w' ≡ times p ((if b then [] else waiting) ++ made) → r' ≡ r
      → (k : Kind) × Moves k (times p waiting) r d w' r'
  rest_moves true made waiting d r w' r' is begun off m ended waits runs = (at_removal, record { begun = begun; ended = ended; ends_item = off; removes = is; waits = omega arith; runs = runs })
  rest_moves false made waiting d r w' r' is begun off m ended waits runs =
      let sum = times_append p waiting made in
      (at_other, record { begun = begun; ended = ended; ends_item = off; removes = is; waits = omega arith; runs = runs })

  entry_moves : (e : Entry) (s t : State) → step e s ≡ Some t → (k : Kind) × Moves k (waits_in p s) (runs_in p s) (deed p e s) (waits_in p t) (runs_in p t)
  entry_moves (Entry.Start epoch item) s t h = (at_start, start_moves epoch item s t h)
  entry_moves (Entry.Done epoch item moment x) s t h = (at_end, end_moves epoch item moment x s t h)
  entry_moves e s t h =
      let k = moves e s t h in
      rest_moves (is_removal e s) (adds_held e) (waiting_held s.control) (deed p e s) (runs_in p s) (waits_in p t) (runs_in p t) refl refl refl refl refl (ap (times p) k.waits) (ap (times p) k.runs)

  goes_from : (es : List Entry) (s last : State) → replay_from es s ≡ Some last → Goes (waits_in p s) (runs_in p s) (deeds_from p es s) (times p (held_in last))
  goes_from [] s last h = subst (λ (t : State). times p (held_in t) ≡ waits_in p s + runs_in p s) (some_same s last h) (held_is p s)
  goes_from (e ∷ es) s last h = by (step e s) refl h (λ t. goes_from es t last)
    where
      by : (o : Option State) → step e s ≡ o → option_and_then (replay_from es) o ≡ Some last → ((t : State) → replay_from es t ≡ Some last → Goes (waits_in p t) (runs_in p t) (deeds_from p es t) (times p (held_in last)))
          → Goes (waits_in p s) (runs_in p s) (deed p e s ∷ unwrap_or (option_map (deeds_from p es) o) []) (times p (held_in last))
      by None is k more = absurd cc
      by (Some t) is k more = let m = entry_moves e s t is in (m.0, waits_in p t, runs_in p t, m.1, more t k)

-- ---- places, one entry later

at_next : (P : ℕ → Type 0) → P 0 → ((n : ℕ) → P (suc n)) → (n : ℕ) → P n
at_next P here rest zero = here
at_next P here rest (suc n) = rest n

only_next : (P : ℕ → Type 0) (end : ℕ) → P 0 → ((n : ℕ) → n ≢ end → P (suc n)) → (n : ℕ) → n ≢ suc end → P n
only_next P end here rest zero k = here
only_next P end here rest (suc n) k = rest n (λ e. k (ap (λ (m : ℕ). suc m) e))

only_here : (P : ℕ → Type 0) → ((n : ℕ) → P (suc n)) → (n : ℕ) → n ≢ 0 → P n
only_here P rest zero k = absurd (k refl)
only_here P rest (suc n) k = rest n

below_next : (P : ℕ → Type 0) (b : ℕ) → P 0 → ((n : ℕ) → n < b → P (suc n)) → (n : ℕ) → n < suc b → P n
below_next P b here rest zero k = here
below_next P b here rest (suc n) k = rest n (omega arith)

above_first : (P : ℕ → Type 0) (b : ℕ) → ((n : ℕ) → n < b → P (suc n)) → (n : ℕ) → 0 < n → n < suc b → P n
above_first P b rest zero j k = absurd (omega arith)
above_first P b rest (suc n) j k = rest n (omega arith)

between_next : (P : ℕ → Type 0) (a b : ℕ) → ((n : ℕ) → a < n → n < b → P (suc n)) → (n : ℕ) → suc a < n → n < suc b → P n
between_next P a b rest zero j k = absurd (omega arith)
between_next P a b rest (suc n) j k = rest n (omega arith) (omega arith)

-- ---- a clone that is nowhere

record IsNowhere (ds : List Deed) (held : ℕ) : Type 0 where
  pub never : (n : ℕ) → ended_at ds n ≡ 0
  pub gone : held ≡ 0

record IsIdle (d : Deed) (w' r' : ℕ) : Type 0 where
  pub waits : w' ≡ 0
  pub runs : r' ≡ 0
  pub ended : d.ended ≡ 0

idle_by : (k : Kind) (d : Deed) (w r w' r' : ℕ) → Moves k w r d w' r' → w ≡ 0 → r ≡ 0 → d.made ≡ 0 → IsIdle d w' r'
idle_by at_start d w r w' r' m a b c = let x = m.waits in let y = m.runs in record { waits = omega arith; runs = omega arith; ended = m.ended }
idle_by at_end d w r w' r' m a b c = record { waits = m.waits ∙ a; runs = m.runs; ended = m.ended ∙ b }
idle_by at_removal d w r w' r' m a b c = record { waits = m.waits ∙ c; runs = m.runs ∙ b; ended = m.ended ∙ a }
idle_by at_other d w r w' r' m a b c = let x = m.waits in record { waits = omega arith; runs = m.runs ∙ b; ended = m.ended }

nowhere : (ds : List Deed) (w r held : ℕ) → Goes w r ds held → w ≡ 0 → r ≡ 0 → ((n : ℕ) → made_at ds n ≡ 0) → IsNowhere ds held
nowhere [] w r held g a b none = record { never = λ n. refl; gone = omega arith }
nowhere (d ∷ ds) w r held (k, w', r', m, g) a b none =
    let i = idle_by k d w r w' r' m a b (none 0) in
    let rest = nowhere ds w' r' held g i.waits i.runs (λ n. none (suc n)) in
    record { never = at_next (λ n. ended_at (d ∷ ds) n ≡ 0) i.ended rest.never; gone = rest.gone }

-- ---- a clone that the running item holds

record RunEnds (ds : List Deed) (held : ℕ) : Type 0 where
  pub end : ℕ
  pub ends : ended_at ds end ≡ 1
  pub only : (n : ℕ) → n ≢ end → ended_at ds n ≡ 0
  pub gone : held ≡ 0
  pub ends_item : ends_item_at ds end ≡ true
  pub first : (n : ℕ) → n < end → ends_item_at ds n ≡ false

run_later : (d : Deed) (ds : List Deed) (held : ℕ) → d.ended ≡ 0 → d.ends_item ≡ false → IsKept ds held ⊎ RunEnds ds held → IsKept (d ∷ ds) held ⊎ RunEnds (d ∷ ds) held
run_later d ds held z off (inl k) = inl record { never = at_next (λ n. ended_at (d ∷ ds) n ≡ 0) z k.never; once = k.once }
run_later d ds held z off (inr k) = inr record {
  end = suc k.end;
  ends = k.ends;
  only = only_next (λ n. ended_at (d ∷ ds) n ≡ 0) k.end z k.only;
  gone = k.gone;
  ends_item = k.ends_item;
  first = below_next (λ n. ends_item_at (d ∷ ds) n ≡ false) k.end off k.first;
}

running : (ds : List Deed) (w r held : ℕ) → Goes w r ds held → w ≡ 0 → r ≡ 1 → ((n : ℕ) → made_at ds n ≡ 0) → IsKept ds held ⊎ RunEnds ds held
running [] w r held g a b none = inl record { never = λ n. refl; once = omega arith }
running (d ∷ ds) w r held (at_start, w', r', m, g) a b none = absurd (let x = m.idle in omega arith)
running (d ∷ ds) w r held (at_end, w', r', m, g) a b none =
    let rest = nowhere ds w' r' held g (m.waits ∙ a) m.runs (λ n. none (suc n)) in
    inr record {
      end = 0;
      ends = m.ended ∙ b;
      only = only_here (λ n. ended_at (d ∷ ds) n ≡ 0) rest.never;
      gone = rest.gone;
      ends_item = m.ends_item;
      first = λ n k. absurd (omega arith);
    }
running (d ∷ ds) w r held (at_removal, w', r', m, g) a b none =
    run_later d ds held (m.ended ∙ a) m.ends_item (running ds w' r' held g (m.waits ∙ none 0) (m.runs ∙ b) (λ n. none (suc n)))
running (d ∷ ds) w r held (at_other, w', r', m, g) a b none =
    let z : w' ≡ 0 = (let x = m.waits in let y : d.made ≡ 0 = none 0 in omega arith) in
    run_later d ds held m.ended m.ends_item (running ds w' r' held g z (m.runs ∙ b) (λ n. none (suc n)))

-- ---- a clone that waits

record ByItem (ds : List Deed) (end : ℕ) : Type 0 where
  pub start : ℕ
  pub before : start < end
  pub begins : begun_at ds start ≡ 1
  pub kept : (n : ℕ) → n < start → removes_at ds n ≡ false
  pub ends_item : ends_item_at ds end ≡ true
  pub first : (n : ℕ) → start < n → n < end → ends_item_at ds n ≡ false

record ByRemoval (ds : List Deed) (end : ℕ) : Type 0 where
  pub removes : removes_at ds end ≡ true
  pub first : (n : ℕ) → n < end → removes_at ds n ≡ false
  pub waits : (n : ℕ) → n < end → begun_at ds n ≡ 0

record WaitEnds (ds : List Deed) (held : ℕ) : Type 0 where
  pub end : ℕ
  pub ends : ended_at ds end ≡ 1
  pub only : (n : ℕ) → n ≢ end → ended_at ds n ≡ 0
  pub gone : held ≡ 0
  pub how : ByItem ds end ⊎ ByRemoval ds end

how_later : (d : Deed) (ds : List Deed) (end : ℕ) → d.begun ≡ 0 → d.removes ≡ false → ByItem ds end ⊎ ByRemoval ds end → ByItem (d ∷ ds) (suc end) ⊎ ByRemoval (d ∷ ds) (suc end)
how_later d ds end z off (inl k) = inl record {
  start = suc k.start;
  before = let x = k.before in omega arith;
  begins = k.begins;
  kept = below_next (λ n. removes_at (d ∷ ds) n ≡ false) k.start off k.kept;
  ends_item = k.ends_item;
  first = between_next (λ n. ends_item_at (d ∷ ds) n ≡ false) k.start end k.first;
}
how_later d ds end z off (inr k) = inr record {
  removes = k.removes;
  first = below_next (λ n. removes_at (d ∷ ds) n ≡ false) end off k.first;
  waits = below_next (λ n. begun_at (d ∷ ds) n ≡ 0) end z k.waits;
}

wait_later : (d : Deed) (ds : List Deed) (held : ℕ) → d.ended ≡ 0 → d.begun ≡ 0 → d.removes ≡ false → IsKept ds held ⊎ WaitEnds ds held → IsKept (d ∷ ds) held ⊎ WaitEnds (d ∷ ds) held
wait_later d ds held e z off (inl k) = inl record { never = at_next (λ n. ended_at (d ∷ ds) n ≡ 0) e k.never; once = k.once }
wait_later d ds held e z off (inr k) = inr record {
  end = suc k.end;
  ends = k.ends;
  only = only_next (λ n. ended_at (d ∷ ds) n ≡ 0) k.end e k.only;
  gone = k.gone;
  how = how_later d ds k.end z off k.how;
}

-- its item began
run_begins : (d : Deed) (ds : List Deed) (held : ℕ) → d.ended ≡ 0 → d.begun ≡ 1 → IsKept ds held ⊎ RunEnds ds held → IsKept (d ∷ ds) held ⊎ WaitEnds (d ∷ ds) held
run_begins d ds held e one (inl k) = inl record { never = at_next (λ n. ended_at (d ∷ ds) n ≡ 0) e k.never; once = k.once }
run_begins d ds held e one (inr k) = inr record {
  end = suc k.end;
  ends = k.ends;
  only = only_next (λ n. ended_at (d ∷ ds) n ≡ 0) k.end e k.only;
  gone = k.gone;
  how = inl record {
    start = 0;
    before = omega arith;
    begins = one;
    kept = λ n x. absurd (omega arith);
    ends_item = k.ends_item;
    first = above_first (λ n. ends_item_at (d ∷ ds) n ≡ false) k.end k.first;
  };
}

waiting : (ds : List Deed) (w r held : ℕ) → Goes w r ds held → w ≡ 1 → r ≡ 0 → ((n : ℕ) → made_at ds n ≡ 0) → IsKept ds held ⊎ WaitEnds ds held
waiting [] w r held g a b none = inl record { never = λ n. refl; once = omega arith }
waiting (d ∷ ds) w r held (at_start, w', r', m, g) a b none =
    by d.begun refl (λ x y. waiting ds w' r' held g x y (λ n. none (suc n)))
  where
    by : (n : ℕ) → d.begun ≡ n → (w' ≡ 1 → r' ≡ 0 → IsKept ds held ⊎ WaitEnds ds held) → IsKept (d ∷ ds) held ⊎ WaitEnds (d ∷ ds) held
    by zero e more = let x = m.waits in let y = m.runs in wait_later d ds held m.ended e m.removes (more (omega arith) (omega arith))
    by (suc zero) e more = let x = m.waits in let y = m.runs in run_begins d ds held m.ended e (running ds w' r' held g (omega arith) (omega arith) (λ n. none (suc n)))
    by (suc (suc n)) e more = absurd (let x = m.few in omega arith)
waiting (d ∷ ds) w r held (at_end, w', r', m, g) a b none =
    wait_later d ds held (m.ended ∙ b) m.begun m.removes (waiting ds w' r' held g (m.waits ∙ a) m.runs (λ n. none (suc n)))
waiting (d ∷ ds) w r held (at_removal, w', r', m, g) a b none =
    let rest = nowhere ds w' r' held g (m.waits ∙ none 0) (m.runs ∙ b) (λ n. none (suc n)) in
    inr record {
      end = 0;
      ends = m.ended ∙ a;
      only = only_here (λ n. ended_at (d ∷ ds) n ≡ 0) rest.never;
      gone = rest.gone;
      how = inr record { removes = m.removes; first = λ n k. absurd (omega arith); waits = λ n k. absurd (omega arith) };
    }
waiting (d ∷ ds) w r held (at_other, w', r', m, g) a b none =
    let one : w' ≡ 1 = (let x = m.waits in let y : d.made ≡ 0 = none 0 in omega arith) in
    wait_later d ds held m.ended m.begun m.removes (waiting ds w' r' held g one (m.runs ∙ b) (λ n. none (suc n)))

-- ---- a clone from the entry that made it

-- it was made by the first of these entries
made_first : (d : Deed) (ds : List Deed) (held : ℕ) → d.ended ≡ 0 → IsKept ds held ⊎ WaitEnds ds held → IsKept (d ∷ ds) held ⊎ EndsOnce (d ∷ ds) held 0
made_first d ds held e (inl k) = inl record { never = at_next (λ n. ended_at (d ∷ ds) n ≡ 0) e k.never; once = k.once }
made_first d ds held e (inr k) = inr record {
  end = suc k.end;
  after = omega arith;
  ends = k.ends;
  only = only_next (λ n. ended_at (d ∷ ds) n ≡ 0) k.end e k.only;
  gone = k.gone;
  how = by k.how;
}
  where
    by : ByItem ds k.end ⊎ ByRemoval ds k.end → IsEndOfItem (d ∷ ds) 0 (suc k.end) ⊎ IsRemovalBefore (d ∷ ds) 0 (suc k.end)
    by (inl i) = inl record {
      start = suc i.start;
      after = omega arith;
      before = let x = i.before in omega arith;
      begins = i.begins;
      kept = above_first (λ n. removes_at (d ∷ ds) n ≡ false) i.start i.kept;
      ends_item = i.ends_item;
      first = between_next (λ n. ends_item_at (d ∷ ds) n ≡ false) i.start k.end i.first;
    }
    by (inr i) = inr record {
      removes = i.removes;
      first = above_first (λ n. removes_at (d ∷ ds) n ≡ false) k.end i.first;
      waits = above_first (λ n. begun_at (d ∷ ds) n ≡ 0) k.end i.waits;
    }

made_later : (d : Deed) (ds : List Deed) (held place : ℕ) → d.ended ≡ 0 → IsKept ds held ⊎ EndsOnce ds held place → IsKept (d ∷ ds) held ⊎ EndsOnce (d ∷ ds) held (suc place)
made_later d ds held place e (inl k) = inl record { never = at_next (λ n. ended_at (d ∷ ds) n ≡ 0) e k.never; once = k.once }
made_later d ds held place e (inr k) = inr record {
  end = suc k.end;
  after = let x = k.after in omega arith;
  ends = k.ends;
  only = only_next (λ n. ended_at (d ∷ ds) n ≡ 0) k.end e k.only;
  gone = k.gone;
  how = by k.how;
}
  where
    by : IsEndOfItem ds place k.end ⊎ IsRemovalBefore ds place k.end → IsEndOfItem (d ∷ ds) (suc place) (suc k.end) ⊎ IsRemovalBefore (d ∷ ds) (suc place) (suc k.end)
    by (inl i) = inl record {
      start = suc i.start;
      after = let x = i.after in omega arith;
      before = let x = i.before in omega arith;
      begins = i.begins;
      kept = between_next (λ n. removes_at (d ∷ ds) n ≡ false) place i.start i.kept;
      ends_item = i.ends_item;
      first = between_next (λ n. ends_item_at (d ∷ ds) n ≡ false) i.start k.end i.first;
    }
    by (inr i) = inr record {
      removes = i.removes;
      first = between_next (λ n. removes_at (d ∷ ds) n ≡ false) place k.end i.first;
      waits = between_next (λ n. begun_at (d ∷ ds) n ≡ 0) place k.end i.waits;
    }

no_suc : (n : ℕ) → suc n ≢ 0
no_suc n e = omega arith

told : (ds : List Deed) (w r held place : ℕ) → Goes w r ds held → w ≡ 0 → r ≡ 0 → made_at ds place ≡ 1 → ((n : ℕ) → n ≢ place → made_at ds n ≡ 0) → IsKept ds held ⊎ EndsOnce ds held place
told [] w r held place g a b one none = absurd cc
told (d ∷ ds) w r held zero (at_start, w', r', m, g) a b one none = absurd (let x = m.made in let y : d.made ≡ 1 = one in omega arith)
told (d ∷ ds) w r held zero (at_end, w', r', m, g) a b one none = absurd (let x = m.made in let y : d.made ≡ 1 = one in omega arith)
told (d ∷ ds) w r held zero (at_removal, w', r', m, g) a b one none =
    made_first d ds held (m.ended ∙ a) (waiting ds w' r' held g (m.waits ∙ one) (m.runs ∙ b) (λ n. none (suc n) (no_suc n)))
told (d ∷ ds) w r held zero (at_other, w', r', m, g) a b one none =
    let there : w' ≡ 1 = (let x = m.waits in let y : d.made ≡ 1 = one in omega arith) in
    made_first d ds held m.ended (waiting ds w' r' held g there (m.runs ∙ b) (λ n. none (suc n) (no_suc n)))
told (d ∷ ds) w r held (suc place) (k, w', r', m, g) a b one none =
    let i = idle_by k d w r w' r' m a b (none 0 (λ e. no_suc place (sym e))) in
    made_later d ds held place i.ended (told ds w' r' held place g i.waits i.runs one (λ n x. none (suc n) (λ e. x (omega arith))))

pub clones_told : HeldStays → HeldMoves → ClonesByPlaces
clones_told stays moves o history s p place h one none =
    told (deeds p o history) 0 0 (times p (held_in s)) place (goes_from stays moves p history (opening_state o) s h) refl refl one none
