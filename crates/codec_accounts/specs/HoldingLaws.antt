-- What a codec holds of the registry, entry after entry, and what the registry's history has of it.
use Rattle.std.proofs.Common.{ℕ, suc, ◌≡◌, ◌≤◌, ◌<◌, ◌==◌, not, Bool, true, false, eq-eqb, cond, List, [], ◌∷◌, ◌++◌, map, length, Option, Some, None, is_some, refl, ap, sym, subst, ◌∙◌, arith, append-nil}
use Rattle.std.specs.Prelude.{nat_lt, ◌||◌}
use Rattle.std.proofs.lemmas.Bool.{and_from, lt-ltb, ne_eqb}
use Rattle.wc_base.specs.declared.who.By.{By}
use Rattle.wc_base.specs.declared.who.By.TheVariants as by
use Rattle.wc_config.specs.declared.codec.CoderId.{CoderId}
use Rattle.coder_api.specs.declared.slot.SlotEntry.{SlotEntry}
use Rattle.coder_api.specs.declared.slot.SlotOp.TheVariants as slot
use Rattle.slot_registry.specs.Boxes.{holder_of, least_free}
use Rattle.slot_registry.specs.Slots.{SlotsValue, is_later, acquired, acquire_op}
use Rattle.slot_registry.specs.HistoryLaws.{holder_more, box_same}
use Rattle.codec_model.specs.declared.entry.Running.{Running}
use Rattle.codec_model.specs.declared.entry.Outcome.TheVariants as outcome
use Rattle.codec_model.specs.Replay.{State, Given, ended_of}
use Rattle.codec_accounts.specs.Boxes.{Act, Asks, Begins, Ends, Removes, Other, asks_of, Holds, holds_after_end, holds_removed, holds_by, box_with, lets_go_by, gets_since, MayCome}
use Rattle.codec_accounts.specs.Registry.{BoxOut, Return, Box, in_list, out_at, back_at}
use Rattle.codec_accounts.specs.Codec.{Holding, nothing_held, BoxStep, Keep, Give, is_old, box_step, after_give, holding_by, after_ask, slots_after, holding_after}
use Rattle.codec_accounts.specs.ActLaws.{NeedsBox, Starts, KeepsItem, ActMakes}
use Rattle.codec_accounts.specs.SlotLaws.{Moves, moves_none, moves_give, moves_ask, moves_then, out_for}

-- What a codec in a state has of the registry is what its events say.
pub record Has (k : ℕ) (t : State) (x : Holds Box) (h : Holding) (slots : List SlotEntry) : Type 0 where
  pub runs : x.runs ≡ is_some t.control.running
  pub old : x.old ≡ is_old t.control.running t.control.epoch
  pub epochs : (r : Running) → t.control.running ≡ Some r → r.epoch ≤ t.control.epoch
  pub box : in_list h.box ≡ map (out_at k) (box_with x.since x.box)
  pub out : (b : BoxOut) → h.box ≡ Some b → holder_of b.id b.number slots ≡ Some b.by
  pub either : (n : ℕ) → h.refusal ≡ Some n → h.box ≡ None
  pub needs : (n : ℕ) → h.refusal ≡ Some n → NeedsBox t

-- the box was asked for before
abbrev pub AskedBefore : Holds Box → Type 0
AskedBefore x = (p : ℕ) → x.since ≡ Some p → p < x.place

-- What an entry makes of it: the event, what the codec has then, and what the registry's history has then.
pub record HasMore (k : ℕ) (a : Act) (t u : State) (x : Holds Box) (h : Holding) (s : SlotsValue) : Type 0 where
  pub box : Option Box
  pub may : MayCome a box x
  pub has : Has k u (holds_by a box x) (holding_after (by.Codec k x.place) (box_step a t.control h.refusal) h s) (slots_after (by.Codec k x.place) (box_step a t.control h.refusal) h.box s).history
  pub moves : Moves (by.Codec k x.place) (in_list (asks_of a)) (map (out_at k) (box_with (gets_since a x.place x.since) box)) (map (back_at k) (map (λ b. (x.place, b)) (lets_go_by a box x))) s
      (slots_after (by.Codec k x.place) (box_step a t.control h.refusal) h.box s)

-- ---- the box goes back

abbrev return_to : By → BoxOut → Return
return_to giver b = record { box = b; giver = giver }

backs_are : (k place : ℕ) (l : List (ℕ × Box)) → map (return_to (by.Codec k place)) (map (out_at k) l) ≡ map (back_at k) (map (λ b. (place, b)) l)
backs_are k place [] = refl
backs_are k place (b ∷ bs) = ap (λ (l : List Return). return_to (by.Codec k place) (out_at k b) ∷ l) (backs_are k place bs)

later_is : (k p place : ℕ) → p < place → is_later (by.Codec k p) (by.Codec k place) ≡ true
later_is k p place lt = and_from (k == k) (nat_lt p place) (eq-eqb k k refl) (lt-ltb p place lt)

-- the place at which a box was asked for is in its cause
pub place_of : (k : ℕ) (b : BoxOut) (since : Option ℕ) (box : Option Box) → b ∷ [] ≡ map (out_at k) (box_with since box) → (p : ℕ) × (since ≡ Some p) × (b.by ≡ by.Codec k p)
place_of k b None box is = absurd cc
place_of k b (Some p) None is = absurd cc
place_of k b (Some p) (Some c) is = let same : b ≡ out_at k (p, c) = cc in (p, refl, ap (λ (o : BoxOut). o.by) same)

pub may_give : (k : ℕ) (t : State) (x : Holds Box) (h : Holding) (slots : List SlotEntry) → Has k t x h slots → AskedBefore x → (b : BoxOut) → h.box ≡ Some b → (p : ℕ) × (b.by ≡ by.Codec k p) × (is_later b.by (by.Codec k x.place) ≡ true)
may_give k t x h slots has before b is =
    let there = place_of k b x.since x.box (ap in_list (sym is) ∙ has.box) in
    (there.0, there.2, ap (λ (c : By). is_later c (by.Codec k x.place)) there.2 ∙ later_is k there.0 x.place (before there.0 there.1))

gives_back : (k : ℕ) (t : State) (x : Holds Box) (h : Holding) (s : SlotsValue) → Has k t x h s.history → AskedBefore x
    → Moves (by.Codec k x.place) [] [] (map (back_at k) (map (λ b. (x.place, b)) (box_with x.since x.box))) s (after_give (by.Codec k x.place) h.box s)
gives_back k t x h s has before =
    let cause : By = by.Codec k x.place in
    let returns : Option BoxOut → List Return = λ o. map (return_to cause) (in_list o) in
    let is : returns h.box ≡ map (back_at k) (map (λ b. (x.place, b)) (box_with x.since x.box)) = ap (map (return_to cause)) has.box ∙ backs_are k x.place (box_with x.since x.box) in
    subst (λ (l : List Return). Moves cause [] [] l s (after_give cause h.box s)) is (by_box h.box refl)
  where
    by_box : (o : Option BoxOut) → h.box ≡ o → Moves (by.Codec k x.place) [] [] (map (return_to (by.Codec k x.place)) (in_list o)) s (after_give (by.Codec k x.place) o s)
    by_box None is = subst (λ (l : List SlotEntry). Moves (by.Codec k x.place) [] [] [] s (record s { history = l })) (sym (append-nil s.history)) (moves_none (by.Codec k x.place) s)
    by_box (Some b) is =
        let may = may_give k t x h s.history has before b is in
        moves_give k x.place may.0 b s may.1 (has.out b is) may.2

nothing_lets : (k : ℕ) (o : Option ℕ) → map (out_at k) (box_with o None) ≡ []
nothing_lets k None = refl
nothing_lets k (Some p) = refl

-- ---- each act

-- the epoch of the item that is at work is the codec's
old_now : (r : Running) (epoch : ℕ) → r.epoch ≡ epoch → is_old (Some r) epoch ≡ false
old_now r epoch h = ap not (eq-eqb r.epoch epoch h)

idle_is : (o : Option Running) (b : Bool) → b ≡ is_some o → o ≡ None → b ≡ false
idle_is o b h none = h ∙ ap is_some none

starts_has : (k : ℕ) (t u : State) (x y : Holds Box) (h : Holding) (slots : List SlotEntry) → Starts t u → y.runs ≡ true → y.old ≡ false → in_list h.box ≡ map (out_at k) (box_with y.since y.box)
    → ((b : BoxOut) → h.box ≡ Some b → holder_of b.id b.number slots ≡ Some b.by) → ((n : ℕ) → h.refusal ≡ Some n → h.box ≡ None) → ((n : ℕ) → h.refusal ≡ Some n → NeedsBox u) → Has k u y h slots
starts_has k t u x y h slots starts runs old box out either needs = record {
  runs = runs ∙ sym (ap is_some starts.runs);
  old = old ∙ sym (ap (λ (o : Option Running). is_old o u.control.epoch) starts.runs ∙ old_now starts.item u.control.epoch starts.current);
  epochs = λ r is. (let same : starts.item ≡ r = some_run (sym starts.runs ∙ is) in let e = ap (λ (i : Running). i.epoch) same in let c = starts.current in omega (arith, e, c));
  box = box;
  out = out;
  either = either;
  needs = needs;
}
  where
    some_run : {a b : Running} → Some a ≡ Some b → a ≡ b
    some_run h = cc

-- the box that goes out for an acquire
abbrev pub box_for : CoderId → Option ℕ → Option Box
box_for id None = None
box_for id (Some n) = Some (record { id = id; number = n })

-- the box of an acquire goes out to the cause
out_is : (k place : ℕ) (id : CoderId) (o : Option ℕ) → out_for (by.Codec k place) id o ≡ map (out_at k) (box_with (Some place) (box_for id o))
out_is k place id None = refl
out_is k place id (Some n) = refl

held_is : (k place : ℕ) (id : CoderId) (n : ℕ) (o : Option ℕ) → in_list (holding_by (by.Codec k place) id n o).box ≡ map (out_at k) (box_with (Some place) (box_for id o))
held_is k place id n None = refl
held_is k place id n (Some m) = refl

held_out : (cause : By) (id : CoderId) (out all : ℕ) (o : Option ℕ) (n : ℕ) (h : List SlotEntry) (b : BoxOut) → (holding_by cause id n o).box ≡ Some b → holder_of b.id b.number (h ++ record { by = cause; op = acquire_op id out all o } ∷ []) ≡ Some b.by
held_out cause id out all None n h b is = absurd cc
held_out cause id out all (Some m) n h b is =
    let same : ◌≡◌ {A = BoxOut} (record { id = id; number = m; by = cause }) b = cc in
    subst (λ (c : BoxOut). holder_of c.id c.number (h ++ record { by = cause; op = slot.Acquire id m } ∷ []) ≡ Some c.by) same
    (holder_more id m h (record { by = cause; op = slot.Acquire id m }) ∙ ap (λ (c : Bool). cond c (Some cause) (holder_of id m h)) (box_same id m))

refusal_or_box : (cause : By) (id : CoderId) (n : ℕ) (o : Option ℕ) (m : ℕ) → (holding_by cause id n o).refusal ≡ Some m → (holding_by cause id n o).box ≡ None
refusal_or_box cause id n None m is = refl
refusal_or_box cause id n (Some number) m is = absurd cc

asks_more : (k : ℕ) (id : CoderId) (t u : State) (x : Holds Box) (h : Holding) (s : SlotsValue) → Has k t x h s.history → AskedBefore x → ActMakes (Asks id) t u → HasMore k (Asks id) t u x h s
asks_more k id t u x h s has before makes =
    let cause : By = by.Codec k x.place in
    let given = after_give cause h.box s in
    let o = least_free id given.made given.history in
    let n = length given.history in
    let box = box_for id o in
    let both = moves_then cause [] (id ∷ []) [] (out_for cause id o) _ [] s given (acquired cause id given) (gives_back k t x h s has before) (moves_ask cause id given) in
    let moves = subst (λ (l : List Return). Moves cause (id ∷ []) (out_for cause id o) l s (acquired cause id given)) (append-nil _) both in
    record {
      box = box;
      may = idle_is t.control.running x.runs has.runs makes.0.idle;
      has = starts_has k t u x (holds_by (Asks id) box x) (after_ask cause id given) (acquired cause id given).history makes.0 refl refl (held_is k x.place id n o)
          (λ b is. held_out cause id _ _ o n given.history b is) (λ m is. refusal_or_box cause id n o m is) (λ m is. makes.1);
      moves = subst (λ (l : List BoxOut). Moves cause (id ∷ []) l (map (back_at k) (map (λ b. (x.place, b)) (box_with x.since x.box))) s (acquired cause id given)) (out_is k x.place id o) moves;
    }

idle_refusal : (t : State) (o : Option Running) → t.control.running ≡ o → o ≡ None → NeedsBox t → ⊥
idle_refusal t o is none needs = let bad = sym needs.is_running ∙ (is ∙ none) in absurd cc

begins_more : (k : ℕ) (t u : State) (x : Holds Box) (h : Holding) (s : SlotsValue) → Has k t x h s.history → Starts t u → HasMore k Begins t u x h s
begins_more k t u x h s has starts = record {
  box = None;
  may = (idle_is t.control.running x.runs has.runs starts.idle, refl);
  has = starts_has k t u x (holds_by Begins None x) h s.history starts refl refl has.box has.out has.either (λ n is. absurd (idle_refusal t t.control.running refl starts.idle (has.needs n is)));
  moves = subst (λ (l : List BoxOut). Moves (by.Codec k x.place) [] l [] s s) (sym (nothing_lets k x.since)) (moves_none (by.Codec k x.place) s);
}

-- no item is at work
idle_has : (k : ℕ) (u : State) (y : Holds Box) (h : Holding) (slots : List SlotEntry) → u.control.running ≡ None → y.runs ≡ false → y.old ≡ false → in_list h.box ≡ map (out_at k) (box_with y.since y.box)
    → ((b : BoxOut) → h.box ≡ Some b → holder_of b.id b.number slots ≡ Some b.by) → h.refusal ≡ None → Has k u y h slots
idle_has k u y h slots idle runs old box out refusal = record {
  runs = runs ∙ sym (ap is_some idle);
  old = old ∙ sym (ap (λ (o : Option Running). is_old o u.control.epoch) idle);
  epochs = λ r is. absurd (let bad = sym idle ∙ is in cc);
  box = box;
  out = out;
  either = λ n is. absurd (let bad = sym refusal ∙ is in cc);
  needs = λ n is. absurd (let bad = sym refusal ∙ is in cc);
}

ends_more : (k : ℕ) (t u : State) (x : Holds Box) (h : Holding) (s : SlotsValue) → Has k t x h s.history → AskedBefore x → ActMakes Ends t u → HasMore k Ends t u x h s
ends_more k t u x h s has before makes = by_case x.old h.refusal refl refl
  where
    cause : By
    cause = by.Codec k x.place

    step_is : (o : Bool) (r : Option ℕ) → x.old ≡ o → h.refusal ≡ r → box_step Ends t.control h.refusal ≡ cond (o || is_some r) Give Keep
    step_is o r old is = ap (λ (b : Bool). cond (b || is_some h.refusal) Give Keep) (sym has.old ∙ old) ∙ ap (λ (q : Option ℕ). cond (o || is_some q) Give Keep) is

    more : (b : BoxStep) → box_step Ends t.control h.refusal ≡ b → Has k u (holds_by Ends None x) (holding_after cause b h s) (slots_after cause b h.box s).history
        → Moves cause [] [] (map (back_at k) (map (λ b. (x.place, b)) (lets_go_by Ends None x))) s (slots_after cause b h.box s) → HasMore k Ends t u x h s
    more b is has' moves' = record {
      box = None;
      may = (has.runs ∙ makes.0, λ bad. absurd cc);
      has = subst (λ (c : BoxStep). Has k u (holds_by Ends None x) (holding_after cause c h s) (slots_after cause c h.box s).history) (sym is) has';
      moves = subst (λ (l : List BoxOut). Moves cause [] l (map (back_at k) (map (λ b. (x.place, b)) (lets_go_by Ends None x))) s (slots_after cause (box_step Ends t.control h.refusal) h.box s)) (sym (nothing_lets k x.since))
          (subst (λ (c : BoxStep). Moves cause [] [] (map (back_at k) (map (λ b. (x.place, b)) (lets_go_by Ends None x))) s (slots_after cause c h.box s)) (sym is) moves');
    }

    at_old : (o : Bool) → x.old ≡ o → (P : Holds Box → List (ℕ × Box) → Type 0) → P (holds_after_end o None x) (cond o (box_with x.since x.box) []) → P (holds_by Ends None x) (lets_go_by Ends None x)
    at_old o is P p = subst (λ (b : Bool). P (holds_after_end b None x) (cond b (box_with x.since x.box) [])) (sym is) p

    by_case : (o : Bool) (r : Option ℕ) → x.old ≡ o → h.refusal ≡ r → HasMore k Ends t u x h s
    by_case true r old is =
        more Give (step_is true r old is)
        (at_old true old (λ y l. Has k u y nothing_held (after_give cause h.box s).history) (idle_has k u (holds_after_end true None x) nothing_held _ makes.1 refl refl refl (λ b bad. absurd cc) refl))
        (at_old true old (λ y l. Moves cause [] [] (map (back_at k) (map (λ b. (x.place, b)) l)) s (after_give cause h.box s)) (gives_back k t x h s has before))
    by_case false None old is =
        more Keep (step_is false None old is)
        (at_old false old (λ y l. Has k u y h s.history) (idle_has k u (holds_after_end false None x) h s.history makes.1 refl refl has.box has.out is))
        (at_old false old (λ y l. Moves cause [] [] (map (back_at k) (map (λ b. (x.place, b)) l)) s s) (moves_none cause s))
    by_case false (Some n) old is =
        let none : h.box ≡ None = has.either n is in
        let same : after_give cause h.box s ≡ s = ap (λ (o : Option BoxOut). after_give cause o s) none ∙ ap (λ (l : List SlotEntry). record s { history = l }) (append-nil s.history) in
        more Give (step_is false (Some n) old is)
        (at_old false old (λ y l. Has k u y nothing_held (after_give cause h.box s).history)
        (idle_has k u (holds_after_end false None x) nothing_held _ makes.1 refl refl (ap in_list (sym none) ∙ has.box) (λ b bad. absurd cc) refl))
        (at_old false old (λ y l. Moves cause [] [] (map (back_at k) (map (λ b. (x.place, b)) l)) s (after_give cause h.box s)) (subst (λ (v : SlotsValue). Moves cause [] [] [] s v) (sym same) (moves_none cause s)))

-- a new epoch makes the running item an old one
old_then : (o : Option Running) (epoch next : ℕ) → next ≡ suc epoch → ((r : Running) → o ≡ Some r → r.epoch ≤ epoch) → is_old o next ≡ is_some o
old_then None epoch next is le = refl
old_then (Some r) epoch next is le = ap not (apart r.epoch next (let l = le r refl in omega (arith, l, is)))
  where
    apart : (m n : ℕ) → m < n → (m == n) ≡ false
    apart m n lt = ne_eqb m n (λ e. omega (arith, e, lt))

kept_has : (k : ℕ) (t u : State) (x y : Holds Box) (h : Holding) (slots : List SlotEntry) → Has k t x h slots → KeepsItem t u → t.control.epoch ≤ u.control.epoch → y.runs ≡ x.runs → y.since ≡ x.since → y.box ≡ x.box
    → y.old ≡ is_old t.control.running u.control.epoch → Has k u y h slots
kept_has k t u x y h slots has keeps up runs since box old = record {
  runs = runs ∙ (has.runs ∙ sym (ap is_some keeps.running));
  old = old ∙ sym (ap (λ (o : Option Running). is_old o u.control.epoch) keeps.running);
  epochs = λ r is. (let e = has.epochs r (sym keeps.running ∙ is) in omega (arith, e, up));
  box = has.box ∙ sym (ap (λ (o : Option ℕ). map (out_at k) (box_with o y.box)) since ∙ ap (λ (o : Option Box). map (out_at k) (box_with x.since o)) box);
  out = has.out;
  either = has.either;
  needs = λ n is. (let needs = has.needs n is in record {
    running = needs.running;
    is_running = keeps.running ∙ needs.is_running;
    refusable = λ m. ap (λ (g : Given). ended_of needs.running.kind g (outcome.NoSlot m)) keeps.given ∙ needs.refusable m;
  });
}

removes_more : (k : ℕ) (t u : State) (x : Holds Box) (h : Holding) (s : SlotsValue) → Has k t x h s.history → AskedBefore x → ActMakes Removes t u → HasMore k Removes t u x h s
removes_more k t u x h s has before makes = by_run t.control.running refl
  where
    cause : By
    cause = by.Codec k x.place

    more : (r : Bool) (b : BoxStep) → x.runs ≡ r → box_step Removes t.control h.refusal ≡ b → Has k u (holds_removed r x) (holding_after cause b h s) (slots_after cause b h.box s).history
        → Moves cause [] [] (map (back_at k) (map (λ b. (x.place, b)) (cond r [] (box_with x.since x.box)))) s (slots_after cause b h.box s) → HasMore k Removes t u x h s
    more r b runs is has' moves' = record {
      box = None;
      may = refl;
      has = subst (λ (c : BoxStep). Has k u (holds_by Removes None x) (holding_after cause c h s) (slots_after cause c h.box s).history) (sym is)
          (subst (λ (q : Bool). Has k u (holds_removed q x) (holding_after cause b h s) (slots_after cause b h.box s).history) (sym runs) has');
      moves = subst (λ (l : List BoxOut). Moves cause [] l (map (back_at k) (map (λ b. (x.place, b)) (lets_go_by Removes None x))) s (slots_after cause (box_step Removes t.control h.refusal) h.box s)) (sym (nothing_lets k x.since))
          (subst (λ (c : BoxStep). Moves cause [] [] (map (back_at k) (map (λ b. (x.place, b)) (lets_go_by Removes None x))) s (slots_after cause c h.box s)) (sym is)
          (subst (λ (q : Bool). Moves cause [] [] (map (back_at k) (map (λ b. (x.place, b)) (cond q [] (box_with x.since x.box)))) s (slots_after cause b h.box s)) (sym runs) moves'));
    }

    by_run : (o : Option Running) → t.control.running ≡ o → HasMore k Removes t u x h s
    by_run (Some r) is =
        let up : t.control.epoch ≤ u.control.epoch = (let e = makes.1 in omega (arith, e)) in
        more true Keep (has.runs ∙ ap is_some is) (ap (λ (o : Option Running). cond (is_some o) Keep Give) is)
        (kept_has k t u x (holds_removed true x) h s.history has makes.0 up refl refl refl (sym (old_then t.control.running t.control.epoch u.control.epoch makes.1 has.epochs ∙ ap is_some is)))
        (moves_none cause s)
    by_run None is =
        more false Give (has.runs ∙ ap is_some is) (ap (λ (o : Option Running). cond (is_some o) Keep Give) is)
        (idle_has k u (holds_removed false x) nothing_held _ (makes.0.running ∙ is) (has.runs ∙ ap is_some is) (has.old ∙ ap (λ (o : Option Running). is_old o t.control.epoch) is) refl (λ b bad. absurd cc) refl)
        (gives_back k t x h s has before)

other_more : (k : ℕ) (t u : State) (x : Holds Box) (h : Holding) (s : SlotsValue) → Has k t x h s.history → ActMakes Other t u → HasMore k Other t u x h s
other_more k t u x h s has makes = record {
  box = None;
  may = refl;
  has = kept_has k t u x (holds_by Other None x) h s.history has makes.0 (let e = makes.1 in omega (arith, e)) refl refl refl (has.old ∙ ap (λ (n : ℕ). is_old t.control.running n) (sym makes.1));
  moves = subst (λ (l : List BoxOut). Moves (by.Codec k x.place) [] l [] s s) (sym (nothing_lets k x.since)) (moves_none (by.Codec k x.place) s);
}

-- What a codec has of the registry after an entry, and what the registry's history has then, for each kind of entry.
pub has_more : (k : ℕ) (a : Act) (t u : State) (x : Holds Box) (h : Holding) (s : SlotsValue) → Has k t x h s.history → AskedBefore x → ActMakes a t u → HasMore k a t u x h s
has_more k (Asks id) t u x h s has before makes = asks_more k id t u x h s has before makes
has_more k Begins t u x h s has before makes = begins_more k t u x h s has makes
has_more k Ends t u x h s has before makes = ends_more k t u x h s has before makes
has_more k Removes t u x h s has before makes = removes_more k t u x h s has before makes
has_more k Other t u x h s has before makes = other_more k t u x h s has makes
