-- A codec's box goes back by the entry that `lets` names.
use Rattle.std.proofs.Common.{ℕ, suc, ◌+◌, ◌<◌, ◌≤◌, ◌≡◌, not, Bool, true, false, cond, List, [], ◌∷◌, ◌++◌, length, Option, Some, None, is_some, refl, ap, sym, subst, ◌∙◌, arith, leb, eq-eqb}
use Rattle.std.specs.Prelude.{option_and_then, unwrap_or}
use Rattle.std.proofs.lemmas.Bool.{le-leb, lt-leb, ne_eqb}
use Rattle.codec_model.specs.declared.entry.Opening.{Opening}
use Rattle.codec_model.specs.declared.entry.Entry.{Entry}
use Rattle.codec_model.specs.declared.entry.Running.{Running}
use Rattle.codec_model.specs.Replay.{State, step, replay, replay_from, opening_state}
use Rattle.codec_accounts.specs.Owed.{state_on, owed}
use Rattle.codec_accounts.specs.OwedLaws.{owed_more}
use Rattle.codec_accounts.specs.Boxes.{Act, Asks, Begins, Ends, Removes, Other, Stay, Kept, Leaving, Left, runs_after, stay_at, stays, left_by, lets, act_of, after, acts_of}
use Rattle.codec_accounts.specs.BoxesLaws.{stays_snoc}
use Rattle.codec_accounts.specs.Codec.{is_old}
use Rattle.codec_accounts.specs.ActLaws.{Starts, ActMakes, act_makes}
use Rattle.codec_accounts.specs.Asked.{Asked, nothing_asked, asked_by, asked_from, asked_in, asked_at}

-- What is known of a codec's box, asked for at p, before the entry at a place.
pub record IsAsked (p place : ℕ) (t : State) (x : Asked) (s : Stay) : Type 0 where
  pub runs : x.runs ≡ is_some t.control.running
  pub old : x.old ≡ is_old t.control.running t.control.epoch
  pub epochs : (r : Running) → t.control.running ≡ Some r → r.epoch ≤ t.control.epoch
  pub here : x.since ≡ Some p → s ≡ cond x.old Leaving Kept
  pub below : (q : ℕ) → x.since ≡ Some q → q < place
  pub later : place ≤ p → s ≡ Kept

some_run : (a b : Running) → Some a ≡ Some b → a ≡ b
some_run a b h = cc

some_place : (a b : ℕ) → Some a ≡ Some b → a ≡ b
some_place a b h = cc

-- the stay after one entry more
abbrev next_stay : ℕ → ℕ → Act → Bool → Stay → Stay
next_stay p place a runs s = cond (leb place p) s (stay_at a runs place s)

by_later : (p place : ℕ) (a : Act) (runs : Bool) (s : Stay) → place ≤ p → s ≡ Kept → next_stay p place a runs s ≡ Kept
by_later p place a runs s le h = ap (λ (b : Bool). cond b s (stay_at a runs place s)) (le-leb place p le) ∙ h

by_earlier : (p place : ℕ) (a : Act) (runs : Bool) (s : Stay) → p < place → next_stay p place a runs s ≡ stay_at a runs place s
by_earlier p place a runs s lt = ap (λ (b : Bool). cond b s (stay_at a runs place s)) (lt-leb place p lt)

old_none : (o : Option Running) (epoch : ℕ) → o ≡ None → is_old o epoch ≡ false
old_none o epoch none = ap (λ (r : Option Running). is_old r epoch) none

old_now : (o : Option Running) (r : Running) (epoch : ℕ) → o ≡ Some r → r.epoch ≡ epoch → is_old o epoch ≡ false
old_now o r epoch is same = ap (λ (r : Option Running). is_old r epoch) is ∙ ap not (eq-eqb r.epoch epoch same)

epochs_now : (t : State) (i : Running) → t.control.running ≡ Some i → i.epoch ≡ t.control.epoch → (r : Running) → t.control.running ≡ Some r → r.epoch ≤ t.control.epoch
epochs_now t i runs same r is = let e = ap (λ (x : Running). x.epoch) (some_run i r (sym runs ∙ is)) in omega (arith, e, same)

none_some : {X : Type 0} (o : Option X) (x : X) → o ≡ None → o ≡ Some x → ⊥
none_some o x none is = let e = sym none ∙ is in absurd cc

module _ (p place : ℕ) (t u : State) (x : Asked) (s : Stay) (h : IsAsked p place t x s) where
  asks : Starts t u → (a : Act) → IsAsked p (suc place) u (record { runs = true; old = false; since = Some place }) (next_stay p place a x.runs s)
  asks starts a = record {
    runs = sym (ap is_some starts.runs);
    old = sym (old_now u.control.running starts.item u.control.epoch starts.runs starts.current);
    epochs = epochs_now u starts.item starts.runs starts.current;
    here = λ is. (let e = some_place place p is in by_later p place a x.runs s (omega (arith, e)) (h.later (omega (arith, e))));
    below = λ q is. (let e = some_place place q is in omega (arith, e));
    later = λ le. by_later p place a x.runs s (omega (arith, le)) (h.later (omega (arith, le)));
  }

  was_idle : t.control.running ≡ None → s ≡ cond x.old Leaving Kept → s ≡ Kept
  was_idle idle is = is ∙ ap (λ (b : Bool). cond b Leaving Kept) (h.old ∙ old_none t.control.running t.control.epoch idle)

  begins : Starts t u → IsAsked p (suc place) u (record { runs = true; old = false; since = x.since }) (next_stay p place Begins x.runs s)
  begins starts = record {
    runs = sym (ap is_some starts.runs);
    old = sym (old_now u.control.running starts.item u.control.epoch starts.runs starts.current);
    epochs = epochs_now u starts.item starts.runs starts.current;
    here = λ is. by_earlier p place Begins x.runs s (h.below p is) ∙ was_idle starts.idle (h.here is);
    below = λ q is. (let lt = h.below q is in omega (arith, lt));
    later = λ le. by_later p place Begins x.runs s (omega (arith, le)) (h.later (omega (arith, le)));
  }

  ends_since : (b : Bool) (q : ℕ) → cond b None x.since ≡ Some q → (b ≡ false) × (x.since ≡ Some q)
  ends_since true q is = absurd cc
  ends_since false q is = (refl, is)

  ends_kept : s ≡ Kept → stay_at Ends x.runs place s ≡ Kept
  ends_kept is = ap (stay_at Ends x.runs place) is

  ends : u.control.running ≡ None → IsAsked p (suc place) u (record { runs = false; old = false; since = cond x.old None x.since }) (next_stay p place Ends x.runs s)
  ends idle = record {
    runs = sym (ap is_some idle);
    old = sym (old_none u.control.running u.control.epoch idle);
    epochs = λ r is. absurd (none_some u.control.running r idle is);
    here = λ is. (let both = ends_since x.old p is in
        by_earlier p place Ends x.runs s (h.below p both.1) ∙ ends_kept (h.here both.1 ∙ ap (λ (b : Bool). cond b Leaving Kept) both.0));
    below = λ q is. (let lt = h.below q (ends_since x.old q is).1 in omega (arith, lt));
    later = λ le. by_later p place Ends x.runs s (omega (arith, le)) (h.later (omega (arith, le)));
  }

  leaves : (b runs : Bool) → runs ≡ true → stay_at Removes runs place (cond b Leaving Kept) ≡ Leaving
  leaves true runs is = refl
  leaves false runs is = ap (λ (r : Bool). cond r Leaving (Left place)) is

  old_next : (o : Option Running) → t.control.running ≡ o → u.control.running ≡ t.control.running → u.control.epoch ≡ suc t.control.epoch → is_some t.control.running ≡ is_old u.control.running u.control.epoch
  old_next None is same more = ap is_some is ∙ sym (old_none u.control.running u.control.epoch (same ∙ is))
  old_next (Some r) is same more =
      let le = h.epochs r is in
      let ne : r.epoch ≡ u.control.epoch → ⊥ = λ e. omega (arith, le, more, e) in
      ap is_some is ∙ sym (ap (λ (o : Option Running). is_old o u.control.epoch) (same ∙ is) ∙ ap not (ne_eqb r.epoch u.control.epoch ne))

  removed_since : (b : Bool) (q : ℕ) → cond b x.since None ≡ Some q → (b ≡ true) × (x.since ≡ Some q)
  removed_since true q is = (refl, is)
  removed_since false q is = absurd cc

  removes : u.control.running ≡ t.control.running → u.control.epoch ≡ suc t.control.epoch
      → IsAsked p (suc place) u (record { runs = x.runs; old = x.runs; since = cond x.runs x.since None }) (next_stay p place Removes x.runs s)
  removes same more = record {
    runs = h.runs ∙ sym (ap is_some same);
    old = h.runs ∙ old_next t.control.running refl same more;
    epochs = λ r is. (let le = h.epochs r (sym same ∙ is) in omega (arith, le, more));
    here = λ is. (let both = removed_since x.runs p is in
        by_earlier p place Removes x.runs s (h.below p both.1) ∙ (ap (stay_at Removes x.runs place) (h.here both.1)
        ∙ (leaves x.old x.runs both.0 ∙ sym (ap (λ (b : Bool). cond b Leaving Kept) both.0))));
    below = λ q is. (let lt = h.below q (removed_since x.runs q is).1 in omega (arith, lt));
    later = λ le. by_later p place Removes x.runs s (omega (arith, le)) (h.later (omega (arith, le)));
  }

  stay_other : (v : Stay) → stay_at Other x.runs place v ≡ v
  stay_other Kept = refl
  stay_other Leaving = refl
  stay_other (Left q) = refl

  other : u.control.running ≡ t.control.running → u.control.epoch ≡ t.control.epoch → IsAsked p (suc place) u x (next_stay p place Other x.runs s)
  other same epoch = record {
    runs = h.runs ∙ sym (ap is_some same);
    old = h.old ∙ (ap (λ (o : Option Running). is_old o t.control.epoch) (sym same) ∙ ap (is_old u.control.running) (sym epoch));
    epochs = λ r is. (let le = h.epochs r (sym same ∙ is) in omega (arith, le, epoch));
    here = λ is. by_earlier p place Other x.runs s (h.below p is) ∙ (stay_other s ∙ h.here is);
    below = λ q is. (let lt = h.below q is in omega (arith, lt));
    later = λ le. by_later p place Other x.runs s (omega (arith, le)) (h.later (omega (arith, le)));
  }

  pub more : (a : Act) → ActMakes a t u → IsAsked p (suc place) u (asked_by a place x) (next_stay p place a x.runs s)
  more (Asks id) m = asks m.0 (Asks id)
  more Begins m = begins m
  more Ends m = ends m.1
  more Removes m = removes m.0.running m.1
  more Other m = other m.0.running m.1

-- ---- whole histories

pub step_of : {S : Type 0} (f : S → Option S) (o : Option S) (u : S) → option_and_then f o ≡ Some u → (t : S) × (o ≡ Some t) × (f t ≡ Some u)
step_of f None u h = absurd cc
step_of f (Some t) u h = (t, refl, h)

abbrev act_list : ℕ → Entry → State → List Act
act_list place e t = act_of e t ∷ []

after_is : (e : Entry) (t u : State) → step e t ≡ Some u → after e t ≡ u
after_is e t u is = ap (λ (o : Option State). unwrap_or o t) is

runs_same : (a : Act) (place : ℕ) (x : Asked) → (asked_by a place x).runs ≡ runs_after a x.runs
runs_same (Asks id) place x = refl
runs_same Begins place x = refl
runs_same Ends place x = refl
runs_same Removes place x = refl
runs_same Other place x = refl

asked_on : (p place n : ℕ) (t u : State) (x : Asked) (s : Stay) (h : List Entry) → n ≡ place + length h → replay_from h t ≡ Some u → IsAsked p place t x s
    → IsAsked p n u (asked_from place x (owed after act_list place t h)) (stays p place x.runs (owed after act_list place t h) s)
asked_on p place n t u x s [] is runs k =
    let same : t ≡ u = cc in
    let e : place ≡ n = omega (arith, is) in
    subst (λ m. IsAsked p m u x s) e (subst (λ v. IsAsked p place v x s) same k)
asked_on p place n t u x s (e ∷ h) is runs k =
    let d = step_of (replay_from h) (step e t) u runs in
    let a = act_of e t in
    let one = more p place t d.0 x s k a (act_makes e t d.0 d.1) in
    let rest = asked_on p (suc place) n d.0 u (asked_by a place x) (next_stay p place a x.runs s) h (omega (arith, is)) d.2 one in
    let at = sym (after_is e t d.0 d.1) in
    let moved = subst (λ v. IsAsked p n u (asked_from (suc place) (asked_by a place x) (owed after act_list (suc place) v h)) (stays p (suc place) (asked_by a place x).runs (owed after act_list (suc place) v h) (next_stay p place a x.runs s))) at rest in
    subst (λ r. IsAsked p n u (asked_from (suc place) (asked_by a place x) (owed after act_list (suc place) (after e t) h)) (stays p (suc place) r (owed after act_list (suc place) (after e t) h) (next_stay p place a x.runs s))) (runs_same a place x) moved

pub asked_is : (p : ℕ) (o : Opening) (h : List Entry) (u : State) → replay o h ≡ Some u → IsAsked p (length h) u (asked_in (acts_of o h)) (stays p 0 false (acts_of o h) Kept)
asked_is p o h u is = asked_on p 0 (length h) (opening_state o) u nothing_asked Kept h (omega arith) is (record {
  runs = refl;
  old = refl;
  epochs = λ r e. absurd cc;
  here = λ e. absurd cc;
  below = λ q e. absurd cc;
  later = λ le. refl;
})

-- ---- one entry more

asked_snoc : (place n : ℕ) (x : Asked) (acts : List Act) (a : Act) → n ≡ place + length acts → asked_from place x (acts ++ a ∷ []) ≡ asked_by a n (asked_from place x acts)
asked_snoc place n x [] a h = let e : place ≡ n = omega (arith, h) in ap (λ (m : ℕ). asked_by a m x) e
asked_snoc place n x (b ∷ acts) a h = asked_snoc (suc place) n (asked_by b place x) acts a (omega (arith, h))

acts_length : (place : ℕ) (t : State) (h : List Entry) → length (owed after act_list place t h) ≡ length h
acts_length place t [] = refl
acts_length place t (e ∷ h) = ap suc (acts_length (suc place) (after e t) h)

state_is : (t u : State) (h : List Entry) → replay_from h t ≡ Some u → state_on after t h ≡ u
state_is t u [] is = cc
state_is t u (e ∷ h) is =
    let d = step_of (replay_from h) (step e t) u is in
    ap (λ (v : State). state_on after v h) (after_is e t d.0 d.1) ∙ state_is d.0 u h d.2

acts_more : (o : Opening) (h : List Entry) (t : State) (e : Entry) → replay o h ≡ Some t → acts_of o (h ++ e ∷ []) ≡ acts_of o h ++ act_of e t ∷ []
acts_more o h t e is =
    owed_more after act_list (opening_state o) h e
    ∙ ap (λ (v : State). acts_of o h ++ act_of e v ∷ []) (state_is (opening_state o) t h is)

-- what the codec's box was asked for at, after one entry more
pub asked_more : (o : Opening) (h : List Entry) (t : State) (e : Entry) → replay o h ≡ Some t → asked_at o (h ++ e ∷ []) ≡ (asked_by (act_of e t) (length h) (asked_in (acts_of o h))).since
asked_more o h t e is =
    ap (λ (l : List Act). (asked_in l).since) (acts_more o h t e is)
    ∙ ap (λ (x : Asked). x.since) (asked_snoc 0 (length h) nothing_asked (acts_of o h) (act_of e t) (let l = acts_length 0 (opening_state o) h in omega (arith, l)))

-- when an entry lets the box go
abbrev pub LetsGo : Act → State → Type 0
LetsGo (Asks id) t = Unit {0}
LetsGo Begins t = ⊥
LetsGo Ends t = is_old t.control.running t.control.epoch ≡ true
LetsGo Removes t = is_some t.control.running ≡ false
LetsGo Other t = ⊥

leaves_by : (a : Act) (t u : State) (runs old : Bool) (place : ℕ) → runs ≡ is_some t.control.running → old ≡ is_old t.control.running t.control.epoch → ActMakes a t u → LetsGo a t
    → stay_at a runs place (cond old Leaving Kept) ≡ Left place
leaves_by (Asks id) t u runs old place r o m l =
    ap (λ (b : Bool). stay_at (Asks id) runs place (cond b Leaving Kept)) (o ∙ old_none t.control.running t.control.epoch m.0.idle)
leaves_by Begins t u runs old place r o m l = elim l [ ]
leaves_by Ends t u runs old place r o m l = ap (λ (b : Bool). stay_at Ends runs place (cond b Leaving Kept)) (o ∙ l)
leaves_by Removes t u runs old place r o m l =
    ap (λ (b : Bool). stay_at Removes runs place (cond b Leaving Kept)) (o ∙ idle_old t.control.running l)
    ∙ ap (λ (b : Bool). cond b Leaving (Left place)) (r ∙ l)
  where
    idle_old : (q : Option Running) → is_some q ≡ false → is_old q t.control.epoch ≡ false
    idle_old None h = refl
    idle_old (Some x) h = absurd cc
leaves_by Other t u runs old place r o m l = elim l [ ]

-- the box goes back by the entry that `lets` names
pub lets_now : (o : Opening) (h : List Entry) (t u : State) (e : Entry) (p : ℕ) → replay o h ≡ Some t → step e t ≡ Some u → asked_at o h ≡ Some p → LetsGo (act_of e t) t
    → lets o (h ++ e ∷ []) p ≡ Some (length h)
lets_now o h t u e p is steps since l =
    let k = asked_is p o h t is in
    let x = asked_in (acts_of o h) in
    let a = act_of e t in
    let n = length h in
    let len = acts_length 0 (opening_state o) h in
    let stay = stays p 0 false (acts_of o h) Kept in
    let runs = state_on runs_after false (acts_of o h) in
    ap (λ (acts : List Act). left_by (stays p 0 false acts Kept)) (acts_more o h t e is)
    ∙ (ap left_by (stays_snoc p 0 n false (acts_of o h) a Kept (omega (arith, len)))
    ∙ (ap left_by (by_earlier p n a runs stay (k.below p since))
    ∙ ap left_by (ap (stay_at a runs n) (k.here since) ∙ leaves_by a t u runs x.old n (runs_on 0 nothing_asked (acts_of o h) ∙ k.runs) k.old (act_makes e t u steps) l)))
  where
    runs_on : (place : ℕ) (x : Asked) (acts : List Act) → state_on runs_after x.runs acts ≡ (asked_from place x acts).runs
    runs_on place x [] = refl
    runs_on place x (b ∷ acts) = ap (λ (r : Bool). state_on runs_after r acts) (sym (runs_same b place x)) ∙ runs_on (suc place) (asked_by b place x) acts
