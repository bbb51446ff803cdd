-- A codec's boxes go back by the entries that let them go.
use Rattle.std.proofs.Common.{ℕ, suc, ◌+◌, ◌<◌, ◌≤◌, ◌≡◌, Bool, true, false, cond, List, [], ◌∷◌, ◌++◌, length, map, Option, Some, None, is_some, refl, ap, sym, subst, ◌∙◌, arith, append_assoc, append-nil, leb, length-append}
use Rattle.std.proofs.lemmas.Bool.{le-leb, lt-leb}
use Rattle.std.proofs.lemmas.List.Concat.{flat_map-append}
use Rattle.codec_accounts.specs.Owed.{state_on}
use Rattle.codec_accounts.specs.Boxes.{Act, Asks, Begins, Ends, Removes, Other, Stay, Kept, Leaving, Left, runs_after, stay_at, stays, left_by, lets_in, Event, Holds, holds_nothing, newer, holds_after_end, holds_removed, holds_by, holds_after, box_with, lets_go_by, lets_go, gets, all_let_go, all_gets, gets_since, acts_in, goes_at, returns_of, MayCome, Legal, Nothing, More}
use Rattle.codec_accounts.specs.OwedLaws.{state_append, owed_more}

le_true : (n p : ℕ) → n ≤ p → leb n p ≡ true
le_true n p h = le-leb n p h

le_false : (n p : ℕ) → p < n → leb n p ≡ false
le_false n p h = lt-leb n p h

pub stays_snoc : (p place n : ℕ) (runs : Bool) (acts : List Act) (a : Act) (stay : Stay) → n ≡ place + length acts → stays p place runs (acts ++ a ∷ []) stay ≡ cond (leb n p) (stays p place runs acts stay) (stay_at a (state_on runs_after runs acts) n (stays p place runs acts stay))
stays_snoc p place n runs [] a stay h = let e : place ≡ n = omega (arith, h) in ap (λ (m : ℕ). cond (leb m p) stay (stay_at a runs m stay)) e
stays_snoc p place n runs (x ∷ xs) a stay h = stays_snoc p (suc place) n (runs_after x runs) xs a (cond (leb place p) stay (stay_at x runs place stay)) (omega (arith, h))

-- entries up to its place leave a box
stays_before : (p place : ℕ) (runs : Bool) (acts : List Act) (stay : Stay) → place + length acts ≤ suc p → stays p place runs acts stay ≡ stay
stays_before p place runs [] stay h = refl
stays_before p place runs (x ∷ xs) stay h =
    ap (λ (b : Bool). stays p (suc place) (runs_after x runs) xs (cond b stay (stay_at x runs place stay))) (le_true place p (omega (arith, h)))
    ∙ stays_before p (suc place) (runs_after x runs) xs stay (omega (arith, h))

left_stays : (a : Act) (runs b : Bool) (n : ℕ) (stay : Stay) → is_some (left_by stay) ≡ true → left_by (cond b stay (stay_at a runs n stay)) ≡ left_by stay
left_stays a runs b n Kept h = absurd cc
left_stays a runs b n Leaving h = absurd cc
left_stays a runs true n (Left q) h = refl
left_stays (Asks id) runs false n (Left q) h = refl
left_stays Begins runs false n (Left q) h = refl
left_stays Ends runs false n (Left q) h = refl
left_stays Removes runs false n (Left q) h = refl
left_stays Other runs false n (Left q) h = refl

-- what has lets_go back has lets_go back by the same entry in a longer history
lets_more : (acts : List Act) (a : Act) (p : ℕ) → is_some (lets_in acts p) ≡ true → lets_in (acts ++ a ∷ []) p ≡ lets_in acts p
lets_more acts a p h =
    ap left_by (stays_snoc p 0 (length acts) false acts a Kept (omega arith))
    ∙ left_stays a (state_on runs_after false acts) (leb (length acts) p) (length acts) (stays p 0 false acts Kept) h

longer : (acts : List Act) (a : Act) → length (acts ++ a ∷ []) ≡ suc (length acts)
longer acts a = let e = length-append acts (a ∷ []) in omega (arith, e)

runs_more : (acts : List Act) (a : Act) (r : Bool) → r ≡ state_on runs_after false acts → runs_after a r ≡ state_on runs_after false (acts ++ a ∷ [])
runs_more acts a r h = ap (runs_after a) h ∙ sym (state_append runs_after false acts (a ∷ []))

module _ {B : Type 0} where
  -- each of these boxes has lets_go back, or goes back by the entry at a place
  abbrev pub AllBack : List Act → List (ℕ × B) → Type 0
  AllBack acts [] = Unit {0}
  AllBack acts (b ∷ bs) = (is_some (lets_in acts b.0) ≡ true) × AllBack acts bs

  abbrev pub AllAt : List Act → ℕ → List (ℕ × B) → Type 0
  AllAt acts place [] = Unit {0}
  AllAt acts place (b ∷ bs) = (lets_in acts b.0 ≡ Some place) × AllAt acts place bs

  back_more : (acts : List Act) (a : Act) (bs : List (ℕ × B)) → AllBack acts bs → AllBack (acts ++ a ∷ []) bs
  back_more acts a [] h = tt
  back_more acts a (b ∷ bs) h = (ap is_some (lets_more acts a b.0 h.0) ∙ h.0, back_more acts a bs h.1)

  back_append : (acts : List Act) (bs cs : List (ℕ × B)) → AllBack acts bs → AllBack acts cs → AllBack acts (bs ++ cs)
  back_append acts [] cs h k = k
  back_append acts (b ∷ bs) cs h k = (h.0, back_append acts bs cs h.1 k)

  back_at : (acts : List Act) (place : ℕ) (bs : List (ℕ × B)) → AllAt acts place bs → AllBack acts bs
  back_at acts place [] h = tt
  back_at acts place (b ∷ bs) h = (ap is_some h.0, back_at acts place bs h.1)

  returns_more : (acts : List Act) (a : Act) (bs : List (ℕ × B)) → AllBack acts bs → returns_of (acts ++ a ∷ []) bs ≡ returns_of acts bs
  returns_more acts a [] h = refl
  returns_more acts a (b ∷ bs) h =
      ap (λ (o : Option ℕ). goes_at o b ++ returns_of (acts ++ a ∷ []) bs) (lets_more acts a b.0 h.0)
      ∙ ap (λ (l : List (ℕ × (ℕ × B))). goes_at (lets_in acts b.0) b ++ l) (returns_more acts a bs h.1)

  returns_at : (acts : List Act) (place : ℕ) (bs : List (ℕ × B)) → AllAt acts place bs → returns_of acts bs ≡ map (λ b. (place, b)) bs
  returns_at acts place [] h = refl
  returns_at acts place (b ∷ bs) h =
      ap (λ (o : Option ℕ). goes_at o b ++ returns_of acts bs) h.0
      ∙ ap (λ (l : List (ℕ × (ℕ × B))). (place, b) ∷ l) (returns_at acts place bs h.1)

  -- what is known of a codec's box, with the history so far
  record At (acts : List Act) (x : Holds B) : Type 0 where
    place_is : x.place ≡ length acts
    runs_is : x.runs ≡ state_on runs_after false acts
    old_runs : x.old ≡ true → x.runs ≡ true
    since_in : (p : ℕ) → x.since ≡ Some p → (p < x.place) × (stays p 0 false acts Kept ≡ cond x.old Leaving Kept)

  -- the entry at the end does this to a box that was asked for before
  stay_now : (acts : List Act) (x : Holds B) (a : Act) (p : ℕ) → At acts x → x.since ≡ Some p → stays p 0 false (acts ++ a ∷ []) Kept ≡ stay_at a x.runs x.place (cond x.old Leaving Kept)
  stay_now acts x a p at is =
      let s = at.since_in p is in
      let past : leb x.place p ≡ false = le_false x.place p s.0 in
      stays_snoc p 0 x.place false acts a Kept (let e = at.place_is in omega (arith, e))
      ∙ (ap (λ (b : Bool). cond b (stays p 0 false acts Kept) (stay_at a (state_on runs_after false acts) x.place (stays p 0 false acts Kept))) past
      ∙ (ap (λ (r : Bool). stay_at a r x.place (stays p 0 false acts Kept)) (sym at.runs_is)
      ∙ ap (λ (st : Stay). stay_at a x.runs x.place st) s.1))

  none_with : (s : Option ℕ) → box_with {B = B} s None ≡ []
  none_with None = refl
  none_with (Some p) = refl

  -- a box that a codec has goes back by this entry, where the entry does so to what was asked for
  all_at : (acts : List Act) (place : ℕ) (s : Option ℕ) (b : Option B) → ((p : ℕ) → s ≡ Some p → lets_in acts p ≡ Some place) → AllAt acts place (box_with s b)
  all_at acts place None b h = tt
  all_at acts place (Some p) None h = tt
  all_at acts place (Some p) (Some b) h = (h p refl, tt)

  idle_fresh : (acts : List Act) (x : Holds B) → At acts x → x.runs ≡ false → x.old ≡ false
  idle_fresh acts x at idle = by_case x.old refl
    where
      by_case : (b : Bool) → x.old ≡ b → x.old ≡ false
      by_case true is = absurd (let r = at.old_runs is in let bad : false ≡ true = sym idle ∙ r in cc)
      by_case false is = is

  leaves_by : (acts : List Act) (x : Holds B) (a : Act) (p : ℕ) → At acts x → x.since ≡ Some p → stay_at a x.runs x.place (cond x.old Leaving Kept) ≡ Left x.place → lets_in (acts ++ a ∷ []) p ≡ Some x.place
  leaves_by acts x a p at is e = ap left_by (stay_now acts x a p at is ∙ e)

  out_at : (acts : List Act) (x : Holds B) (a : Act) (b : Option B) → At acts x → MayCome a b x → AllAt (acts ++ a ∷ []) x.place (lets_go_by a b x)
  out_at acts x (Asks id) b at may = all_at (acts ++ Asks id ∷ []) x.place x.since x.box (λ p is. leaves_by acts x (Asks id) p at is (ap (λ (o : Bool). stay_at (Asks id) x.runs x.place (cond o Leaving Kept)) (idle_fresh acts x at may)))
  out_at acts x Begins b at may = tt
  out_at acts x Ends b at may = by_old x.old refl
    where
      by_old : (o : Bool) → x.old ≡ o → AllAt (acts ++ Ends ∷ []) x.place (cond o (box_with x.since (newer b x.box)) [])
      by_old true is = all_at (acts ++ Ends ∷ []) x.place x.since (newer b x.box) (λ p since. leaves_by acts x Ends p at since (ap (λ (o : Bool). stay_at Ends x.runs x.place (cond o Leaving Kept)) is))
      by_old false is = tt
  out_at acts x Removes b at may = by_runs x.runs refl
    where
      by_runs : (r : Bool) → x.runs ≡ r → AllAt (acts ++ Removes ∷ []) x.place (cond r [] (box_with x.since x.box))
      by_runs true is = tt
      by_runs false is = all_at (acts ++ Removes ∷ []) x.place x.since x.box (λ p since. leaves_by acts x Removes p at since (ap (λ (o : Bool). stay_at Removes x.runs x.place (cond o Leaving Kept)) (idle_fresh acts x at is) ∙ ap (λ (r : Bool). cond r Leaving (Left x.place)) is))
  out_at acts x Other b at may = tt

  -- what a codec had and what came is what went and what it has
  balance : (acts : List Act) (x : Holds B) (a : Act) (b : Option B) → At acts x → MayCome a b x → box_with x.since x.box ++ box_with (gets_since a x.place x.since) b ≡ lets_go_by a b x ++ box_with (holds_by a b x).since (holds_by a b x).box
  balance acts x (Asks id) b at may = refl
  balance acts x Begins b at may = ap (λ (o : Option B). box_with x.since x.box ++ box_with x.since o) may.1 ∙ (ap (λ (l : List (ℕ × B)). box_with x.since x.box ++ l) (none_with x.since) ∙ append-nil (box_with x.since x.box))
  balance acts x Ends b at may = by_old x.old ∙ refl
    where
      newest : (c : Option B) → (is_some c ≡ true → (x.waits ≡ true) × (x.box ≡ None)) → box_with x.since x.box ++ box_with x.since c ≡ box_with x.since (newer c x.box)
      newest None h = ap (λ (l : List (ℕ × B)). box_with x.since x.box ++ l) (none_with x.since) ∙ append-nil (box_with x.since x.box)
      newest (Some v) h = ap (λ (o : Option B). box_with x.since o ++ box_with x.since (Some v)) (h refl).1 ∙ ap (λ (l : List (ℕ × B)). l ++ box_with x.since (Some v)) (none_with x.since)

      by_old : (o : Bool) → box_with x.since x.box ++ box_with x.since b ≡ cond o (box_with x.since (newer b x.box)) [] ++ box_with (holds_after_end o b x).since (holds_after_end o b x).box
      by_old true = newest b may.1 ∙ sym (append-nil (box_with x.since (newer b x.box)))
      by_old false = newest b may.1
  balance acts x Removes b at may = ap (λ (o : Option B). box_with x.since x.box ++ box_with x.since o) may ∙ (ap (λ (l : List (ℕ × B)). box_with x.since x.box ++ l) (none_with x.since) ∙ (append-nil (box_with x.since x.box) ∙ by_runs x.runs))
    where
      by_runs : (r : Bool) → box_with x.since x.box ≡ cond r [] (box_with x.since x.box) ++ box_with (holds_removed r x).since (holds_removed r x).box
      by_runs true = refl
      by_runs false = sym (append-nil (box_with x.since x.box))
  balance acts x Other b at may = ap (λ (o : Option B). box_with x.since x.box ++ box_with x.since o) may ∙ (ap (λ (l : List (ℕ × B)). box_with x.since x.box ++ l) (none_with x.since) ∙ append-nil (box_with x.since x.box))

  next_place : (acts : List Act) (x : Holds B) (a : Act) → At acts x → suc x.place ≡ length (acts ++ a ∷ [])
  next_place acts x a at = ap suc at.place_is ∙ sym (longer acts a)

  at_more : (acts : List Act) (x : Holds B) (a : Act) (b : Option B) → At acts x → MayCome a b x → At (acts ++ a ∷ []) (holds_by a b x)
  at_more acts x (Asks id) b at may = record {
    place_is = next_place acts x (Asks id) at;
    runs_is = runs_more acts (Asks id) x.runs at.runs_is;
    old_runs = λ h. refl;
    since_in = λ p is. let e : x.place ≡ p = cc in (omega (arith, e), stays_before p 0 false (acts ++ Asks id ∷ []) Kept (let l = longer acts (Asks id) in let k = at.place_is in omega (arith, l, k, e)));
  }
  at_more acts x Begins b at may = record {
    place_is = next_place acts x Begins at;
    runs_is = runs_more acts Begins x.runs at.runs_is;
    old_runs = λ h. refl;
    since_in = λ p is. let s = at.since_in p is in (let lt = s.0 in omega (arith, lt), stay_now acts x Begins p at is ∙ ap (λ (o : Bool). stay_at Begins x.runs x.place (cond o Leaving Kept)) (idle_fresh acts x at may.0));
  }
  at_more acts x Ends b at may = by_old x.old refl
    where
      by_old : (o : Bool) → x.old ≡ o → At (acts ++ Ends ∷ []) (holds_after_end o b x)
      by_old true is = record {
        place_is = next_place acts x Ends at;
        runs_is = runs_more acts Ends x.runs at.runs_is;
        old_runs = λ h. absurd cc;
        since_in = λ p since. absurd cc;
      }
      by_old false is = record {
        place_is = next_place acts x Ends at;
        runs_is = runs_more acts Ends x.runs at.runs_is;
        old_runs = λ h. absurd cc;
        since_in = λ p since. let s = at.since_in p since in (let lt = s.0 in omega (arith, lt), stay_now acts x Ends p at since ∙ ap (λ (o : Bool). stay_at Ends x.runs x.place (cond o Leaving Kept)) is);
      }
  at_more acts x Removes b at may = by_runs x.runs refl
    where
      removed : (o : Bool) (n : ℕ) → stay_at Removes true n (cond o Leaving Kept) ≡ Leaving
      removed true n = refl
      removed false n = refl

      by_runs : (r : Bool) → x.runs ≡ r → At (acts ++ Removes ∷ []) (holds_removed r x)
      by_runs true is = record {
        place_is = next_place acts x Removes at;
        runs_is = runs_more acts Removes x.runs at.runs_is;
        old_runs = λ h. is;
        since_in = λ p since. let s = at.since_in p since in (let lt = s.0 in omega (arith, lt), stay_now acts x Removes p at since ∙ (ap (λ (r : Bool). stay_at Removes r x.place (cond x.old Leaving Kept)) is ∙ removed x.old x.place));
      }
      by_runs false is = record {
        place_is = next_place acts x Removes at;
        runs_is = runs_more acts Removes x.runs at.runs_is;
        old_runs = at.old_runs;
        since_in = λ p since. absurd cc;
      }
  at_more acts x Other b at may = record {
    place_is = next_place acts x Other at;
    runs_is = runs_more acts Other x.runs at.runs_is;
    old_runs = at.old_runs;
    since_in = λ p is. let s = at.since_in p is in (let lt = s.0 in omega (arith, lt), stay_now acts x Other p at is ∙ same x.old x.place);
  }
    where
      same : (o : Bool) (n : ℕ) → stay_at Other x.runs n (cond o Leaving Kept) ≡ cond o Leaving Kept
      same true n = refl
      same false n = refl

  abbrev pub now : List (Event B) → Holds B
  now es = state_on holds_after holds_nothing es

  record Sound (es : List (Event B)) : Type 0 where
    at : At (acts_in es) (now es)
    given : List (ℕ × B)
    gets_is : all_gets es ≡ given ++ box_with (now es).since (now es).box
    let_go_is : all_let_go es ≡ returns_of (acts_in es) given
    back : AllBack (acts_in es) given

  pub acts_more : (es : List (Event B)) (e : Event B) → acts_in (es ++ e ∷ []) ≡ acts_in es ++ e.act ∷ []
  acts_more [] e = refl
  acts_more (x ∷ xs) e = ap (λ (l : List Act). x.act ∷ l) (acts_more xs e)

  pub length_acts : (es : List (Event B)) → length (acts_in es) ≡ length es
  length_acts [] = refl
  length_acts (x ∷ xs) = ap suc (length_acts xs)

  sound_more : (es : List (Event B)) (e : Event B) → Sound es → MayCome e.act e.box (now es) → Sound (es ++ e ∷ [])
  sound_more es e s may =
      let x = now es in
      let acts = acts_in es in
      let longer_acts = acts_more es e in
      let next : now (es ++ e ∷ []) ≡ holds_by e.act e.box x = state_append holds_after holds_nothing es (e ∷ []) in
      let out = lets_go_by e.act e.box x in
      let since = gets_since e.act x.place x.since in
      let held' = box_with (holds_by e.act e.box x).since (holds_by e.act e.box x).box in
      let outs = out_at acts x e.act e.box s.at may in
      let place : length es ≡ x.place = sym (s.at.place_is ∙ length_acts es) in
      record {
        at = subst (λ (z : List Act × Holds B). At z.0 z.1) (λ i. (sym longer_acts i, sym next i)) (at_more acts x e.act e.box s.at may);
        given = s.given ++ out;
        gets_is = owed_more holds_after gets holds_nothing es e
            ∙ (ap (λ (n : ℕ). all_gets es ++ box_with (gets_since e.act n x.since) e.box) place
            ∙ (ap (λ (l : List (ℕ × B)). l ++ box_with since e.box) s.gets_is
            ∙ (append_assoc s.given (box_with x.since x.box) (box_with since e.box)
            ∙ (ap (λ (l : List (ℕ × B)). s.given ++ l) (balance acts x e.act e.box s.at may)
            ∙ (sym (append_assoc s.given out held')
            ∙ ap (λ (z : Holds B). (s.given ++ out) ++ box_with z.since z.box) (sym next))))));
        let_go_is = owed_more holds_after lets_go holds_nothing es e
            ∙ (ap (λ (n : ℕ). all_let_go es ++ map (λ b. (n, b)) out) place
            ∙ (ap (λ (l : List (ℕ × (ℕ × B))). l ++ map (λ b. (x.place, b)) out) (s.let_go_is ∙ sym (returns_more acts e.act s.given s.back))
            ∙ (ap (λ (l : List (ℕ × (ℕ × B))). returns_of (acts ++ e.act ∷ []) s.given ++ l) (sym (returns_at (acts ++ e.act ∷ []) x.place out outs))
            ∙ (sym (flat_map-append (λ b. goes_at (lets_in (acts ++ e.act ∷ []) b.0) b) s.given out)
            ∙ ap (λ (l : List Act). returns_of l (s.given ++ out)) (sym longer_acts)))));
        back = subst (λ (l : List Act). AllBack l (s.given ++ out)) (sym longer_acts) (back_append (acts ++ e.act ∷ []) s.given out (back_more acts e.act s.given s.back) (back_at (acts ++ e.act ∷ []) x.place out outs));
      }

  sound : (es : List (Event B)) → Legal es → Sound es
  sound _ Nothing = record {
    at = record { place_is = refl; runs_is = refl; old_runs = λ h. absurd cc; since_in = λ p is. absurd cc };
    given = [];
    gets_is = refl;
    let_go_is = refl;
    back = tt;
  }
  sound _ (More es e legal may) = sound_more es e (sound es legal) may

  kept_calls : (acts : List Act) (old : Bool) (s : Option ℕ) (b : Option B) → ((p : ℕ) → s ≡ Some p → stays p 0 false acts Kept ≡ cond old Leaving Kept) → returns_of acts (box_with s b) ≡ []
  kept_calls acts old None b h = refl
  kept_calls acts old (Some p) None h = refl
  kept_calls acts old (Some p) (Some b) h = ap (λ (st : Stay). goes_at (left_by st) (p, b) ++ []) (h p refl) ∙ none old
    where
      none : (o : Bool) → goes_at (left_by (cond o Leaving Kept)) (p, b) ++ [] ≡ []
      none true = refl
      none false = refl

  -- In every history the boxes that entries let go are those that went out, each by the entry that `lets` names.
  pub boxes_return : (es : List (Event B)) → Legal es → all_let_go es ≡ returns_of (acts_in es) (all_gets es)
  boxes_return es legal =
      let s = sound es legal in
      let x = now es in
      s.let_go_is
      ∙ (sym (append-nil (returns_of (acts_in es) s.given))
      ∙ (ap (λ (l : List (ℕ × (ℕ × B))). returns_of (acts_in es) s.given ++ l) (sym (kept_calls (acts_in es) x.old x.since x.box (λ p is. (s.at.since_in p is).1)))
      ∙ (sym (flat_map-append (λ b. goes_at (lets_in (acts_in es) b.0) b) s.given (box_with x.since x.box))
      ∙ ap (returns_of (acts_in es)) (sym s.gets_is))))

  -- the place of the next entry, and a box was asked for before it
  pub place_is : (es : List (Event B)) → Legal es → (now es).place ≡ length es
  place_is es legal = (sound es legal).at.place_is ∙ length_acts es

  pub before_is : (es : List (Event B)) → Legal es → (p : ℕ) → (now es).since ≡ Some p → p < (now es).place
  before_is es legal p is = ((sound es legal).at.since_in p is).0
