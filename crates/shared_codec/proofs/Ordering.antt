-- Entries elsewhere by the entries of codecs, in order.
use Rattle.std.proofs.Common.{ℕ, suc, ◌≡◌, ◌≢◌, ◌≤◌, ◌<◌, eqb, inl, inr, Bool, true, false, cond, List, [], ◌∷◌, ◌++◌, ◌⊎◌, map, Option, Some, None, refl, ap, sym, subst, ◌∙◌, arith, append-nil, eq-eqb}
use Rattle.std.specs.List.{flat_map}
use Rattle.std.proofs.lemmas.Bool.{cases_eq, ne_eqb}
use Rattle.std.proofs.lemmas.List.Concat.{flat_map-append}
use Rattle.wc_base.specs.Views.{Log}
use Rattle.wc_base.specs.declared.who.By.TheVariants as by
use Rattle.wc_base.specs.declared.seat.Passage.{Passage}
use Rattle.wc_base.specs.declared.seat.Passage.TheVariants.{Made, Look}
use Rattle.wc_base.specs.declared.seat.View.{View}
use Rattle.coder_api.specs.declared.slot.SlotEntry.{SlotEntry}
use Rattle.codec_model.specs.declared.entry.Opening.{Opening}
use Rattle.codec_accounts.specs.Boxes.{Act, Asks, Begins, Ends, Removes, Other, Holds, holds_by, holds_after_end, holds_removed, lets_go_by}
use Rattle.codec_accounts.specs.Registry.{Box, is_cause}
use Rattle.seat_lock.specs.Logs.{IsNotIn, AreApart, NoneBy, Continues, entry_in}
use Rattle.seat_lock.specs.Own.{is_in}
use Rattle.seat_lock.specs.Since.{entries_by}
use Rattle.codec_logs.specs.declared.event.Event.{Event}
use Rattle.codec_logs.specs.Logs.{Track, opening_track, track_from, track_made, act_in, acquires_of, box_of, runner_by, IsOwn, AreAsked, Tells, MayMake, Follows, IsLog}
use Rattle.shared_codec.specs.Dues.{dues_by, give_by, slot_dues, media_dues}
use Rattle.shared_codec.specs.DueLaws.{not_in, none_due, due_append}
use Rattle.shared_codec.specs.Sums.{AreJoined, dues_of}
use Rattle.shared_codec.specs.Order.{made_by, IsInOrder, AuthorIs, HaveAuthors, OrderIsKept, slot_at, asked_at, done_at, SlotOrderIsKept, MediaOrderIsKept}
use Rattle.shared_codec.specs.OrderLaws.{place_by, other_place, event_other}

-- ---- numbers in two lists

where_is : (n : ℕ) (l : List ℕ) → (is_in n l ≡ true) ⊎ IsNotIn n l
where_is n [] = inr tt
where_is n (m ∷ ms) = cases (cases_eq n m) (where_is n ms)
  where
    cases : (n ≡ m) ⊎ (n ≢ m) → (is_in n ms ≡ true) ⊎ IsNotIn n ms → (cond (eqb n m) true (is_in n ms) ≡ true) ⊎ IsNotIn n (m ∷ ms)
    cases (inl same) rest = inl (ap (λ (b : Bool). cond b true (is_in n ms)) (eq-eqb n m same))
    cases (inr other) (inl there) = inl (ap (λ (b : Bool). cond b true (is_in n ms)) (ne_eqb n m other) ∙ there)
    cases (inr other) (inr outside) = inr (other, outside)

no_both : {X : Type 0} (b : Bool) → b ≡ true → b ≡ false → X
no_both b t f = absurd (let bad = sym t ∙ f in cc)

apart_from : (n : ℕ) (a b : List ℕ) → AreApart a b → is_in n b ≡ true → IsNotIn n a
apart_from n [] b apart there = tt
apart_from n (m ∷ ms) b apart there =
    ((λ same. no_both (is_in n b) there (subst (λ (i : ℕ). is_in i b ≡ false) (sym same) (not_in m b apart.0))), apart_from n ms b apart.1 there)

in_left : (n : ℕ) (a b : List ℕ) → IsNotIn n b → is_in n (a ++ b) ≡ is_in n a
in_left n [] b outside = not_in n b outside
in_left n (m ∷ ms) b outside = ap (λ (c : Bool). cond (eqb n m) true c) (in_left n ms b outside)

in_right : (n : ℕ) (a b : List ℕ) → IsNotIn n a → is_in n (a ++ b) ≡ is_in n b
in_right n [] b outside = refl
in_right n (m ∷ ms) b outside = ap (λ (c : Bool). cond c true (is_in n (ms ++ b))) (ne_eqb n m outside.0) ∙ in_right n ms b outside.1

none_if : {X Y : Type 0} (f : X → List Y) (c : Bool) (l : List X) → flat_map f l ≡ [] → flat_map f (cond c l []) ≡ []
none_if f true l none = none
none_if f false l none = refl

first_none : {R : Type 0} (x y : List R) → x ++ y ≡ [] → x ≡ []
first_none [] y h = refl
first_none (a ∷ x) y h = absurd cc

rest_none : {R : Type 0} (x y : List R) → x ++ y ≡ [] → y ≡ []
rest_none [] y h = h
rest_none (a ∷ x) y h = absurd cc

in_both : (n : ℕ) (a b : List ℕ) → is_in n (a ++ b) ≡ cond (is_in n a) true (is_in n b)
in_both n [] b = refl
in_both n (m ∷ ms) b = ap (λ (c : Bool). cond (eqb n m) true c) (in_both n ms b) ∙ cases (eqb n m)
  where
    cases : (c : Bool) → cond c true (cond (is_in n ms) true (is_in n b)) ≡ cond (cond c true (is_in n ms)) true (is_in n b)
    cases true = refl
    cases false = refl

either_way : (a b : Bool) → cond a true b ≡ cond b true a
either_way true true = refl
either_way true false = refl
either_way false true = refl
either_way false false = refl

-- ---- entries that seats made elsewhere

module _ {E R : Type 0} (f : E → List R) where
  after_none : (c : Bool) (p : Passage E) (l : List E) → flat_map f (cond c (entry_in p l) l) ≡ [] → flat_map f l ≡ []
  after_none true (Made e) l h = rest_none (f e) (flat_map f l) h
  after_none true Look l h = h
  after_none false p l h = h

  here_none : (p : Passage E) (l : List E) → flat_map f (entry_in p l) ≡ [] → flat_map f (entry_in p []) ≡ []
  here_none (Made e) l h = append-nil (f e) ∙ first_none (f e) (flat_map f l) h
  here_none Look l h = refl

  entry_first : (p : Passage E) (l m : List E) → flat_map f l ≡ flat_map f m → flat_map f (entry_in p l) ≡ flat_map f (entry_in p m)
  entry_first (Made e) l m h = ap (λ (x : List R). f e ++ x) h
  entry_first Look l m h = h

  entry_none : (p : Passage E) (l m : List E) → flat_map f (entry_in p []) ≡ [] → flat_map f l ≡ flat_map f m → flat_map f (entry_in p l) ≡ flat_map f m
  entry_none (Made e) l m none h = (λ i. (sym (append-nil (f e)) ∙ none) i ++ flat_map f l) ∙ h
  entry_none Look l m none h = h

  one_step : (p : Passage E) (a b both : Bool) (la lb lc : List E) → both ≡ cond a true b → flat_map f (cond b (entry_in p lb) lb) ≡ [] → flat_map f lc ≡ flat_map f la → flat_map f (cond both (entry_in p lc) lc) ≡ flat_map f (cond a (entry_in p la) la)
  one_step p true b both la lb lc is none rest = ap (λ (c : Bool). flat_map f (cond c (entry_in p lc) lc)) is ∙ entry_first p lc la rest
  one_step p false true both la lb lc is none rest = ap (λ (c : Bool). flat_map f (cond c (entry_in p lc) lc)) is ∙ entry_none p lc la (here_none p lb none) rest
  one_step p false false both la lb lc is none rest = ap (λ (c : Bool). flat_map f (cond c (entry_in p lc) lc)) is ∙ rest

  -- where the second made nothing, all is the first one's, in order
  entries_left : (a b : List ℕ) (log : Log E) → flat_map f (entries_by b log) ≡ [] → flat_map f (entries_by (a ++ b) log) ≡ flat_map f (entries_by a log)
  entries_left a b [] none = refl
  entries_left a b (p ∷ ps) none =
      one_step p.1 (is_in p.0 a) (is_in p.0 b) (is_in p.0 (a ++ b)) (entries_by a ps) (entries_by b ps) (entries_by (a ++ b) ps) (in_both p.0 a b) none
      (entries_left a b ps (after_none (is_in p.0 b) p.1 (entries_by b ps) none))

  entries_right : (a b : List ℕ) (log : Log E) → flat_map f (entries_by a log) ≡ [] → flat_map f (entries_by (a ++ b) log) ≡ flat_map f (entries_by b log)
  entries_right a b [] none = refl
  entries_right a b (p ∷ ps) none =
      one_step p.1 (is_in p.0 b) (is_in p.0 a) (is_in p.0 (a ++ b)) (entries_by b ps) (entries_by a ps) (entries_by (a ++ b) ps) (in_both p.0 a b ∙ either_way (is_in p.0 a) (is_in p.0 b)) none
      (entries_right a b ps (after_none (is_in p.0 a) p.1 (entries_by a ps) none))

module _ {E : Type 0} where
  by_others : (numbers : List ℕ) (l : Log E) → NoneBy numbers l → entries_by numbers l ≡ []
  by_others numbers [] h = refl
  by_others numbers (p ∷ ps) h = ap (λ (b : Bool). cond b (entry_in p.1 (entries_by numbers ps)) (entries_by numbers ps)) (not_in p.0 numbers h.0) ∙ by_others numbers ps h.1

  entry_both : (c : Bool) (p : Passage E) (a b : List E) → cond c (entry_in p (a ++ b)) (a ++ b) ≡ cond c (entry_in p a) a ++ b
  entry_both true (Made e) a b = refl
  entry_both true Look a b = refl
  entry_both false p a b = refl

  entries_append : (numbers : List ℕ) (a b : Log E) → entries_by numbers (a ++ b) ≡ entries_by numbers a ++ entries_by numbers b
  entries_append numbers [] b = refl
  entries_append numbers (p ∷ ps) b = ap (λ (l : List E). cond (is_in p.0 numbers) (entry_in p.1 l) l) (entries_append numbers ps b) ∙ entry_both (is_in p.0 numbers) p.1 (entries_by numbers ps) (entries_by numbers b)

  entries_go_on : (numbers : List ℕ) (start log : Log E) → Continues numbers start log → entries_by numbers log ≡ entries_by numbers start
  entries_go_on numbers start log goes =
      ap (entries_by numbers) goes.is
      ∙ (entries_append numbers start goes.more
      ∙ (ap (λ (l : List E). entries_by numbers start ++ l) (by_others numbers goes.more goes.by_others) ∙ append-nil (entries_by numbers start)))

-- ---- what is called for

module _ {D X R : Type 0} (due : ℕ → Event → Track → List D) (asks : ℕ → ℕ → D → List R) (does : ℕ → ℕ → X → List R) where
  asks_both : (k place : ℕ) (a b : List D) → flat_map (asks k place) (a ++ b) ≡ flat_map (asks k place) a ++ flat_map (asks k place) b
  asks_both k place a b = flat_map-append (asks k place) a b

  -- another seat's passages call for nothing by that entry
  absent : (n k place : ℕ) (a : List ℕ) (x : Track) (log : Log Event) → AuthorIs due asks does n k place x log → IsNotIn n a → flat_map (asks k place) (dues_by due k a x log) ≡ []
  absent n k place a x [] author outside = refl
  absent n k place a x ((m, Look) ∷ ps) author outside = asks_both k place (cond (is_in m a) [] []) (dues_by due k a x ps) ∙ (λ i. none_if (asks k place) (is_in m a) [] refl i ++ absent n k place a x ps author outside i)
  absent n k place a x ((m, Made e) ∷ ps) author outside = asks_both k place (cond (is_in m a) (due k e x) []) (dues_by due k a (track_made m e x) ps) ∙ (λ i. here author.0 i ++ absent n k place a (track_made m e x) ps author.1 outside i)
    where
      here : (m ≡ n) ⊎ (flat_map (asks k place) (due k e x) ≡ []) → flat_map (asks k place) (cond (is_in m a) (due k e x) []) ≡ []
      here (inl same) = ap (λ (c : Bool). flat_map (asks k place) (cond c (due k e x) [])) (ap (λ (i : ℕ). is_in i a) same ∙ not_in n a outside)
      here (inr none) = none_if (asks k place) (is_in m a) (due k e x) none

  -- two seats' passages call for what those of the one do that has the author
  present : (n k place : ℕ) (a both : List ℕ) (x : Track) (log : Log Event) → AuthorIs due asks does n k place x log → is_in n both ≡ is_in n a → flat_map (asks k place) (dues_by due k both x log) ≡ flat_map (asks k place) (dues_by due k a x log)
  present n k place a both x [] author same = refl
  present n k place a both x ((m, Look) ∷ ps) author same =
      asks_both k place (cond (is_in m both) [] []) (dues_by due k both x ps)
      ∙ ((λ i. (none_if (asks k place) (is_in m both) [] refl ∙ sym (none_if (asks k place) (is_in m a) [] refl)) i ++ present n k place a both x ps author same i)
      ∙ sym (asks_both k place (cond (is_in m a) [] []) (dues_by due k a x ps)))
  present n k place a both x ((m, Made e) ∷ ps) author same =
      asks_both k place (cond (is_in m both) (due k e x) []) (dues_by due k both (track_made m e x) ps)
      ∙ ((λ i. here author.0 i ++ present n k place a both (track_made m e x) ps author.1 same i)
      ∙ sym (asks_both k place (cond (is_in m a) (due k e x) []) (dues_by due k a (track_made m e x) ps)))
    where
      here : (m ≡ n) ⊎ (flat_map (asks k place) (due k e x) ≡ []) → flat_map (asks k place) (cond (is_in m both) (due k e x) []) ≡ flat_map (asks k place) (cond (is_in m a) (due k e x) [])
      here (inl is) = ap (λ (c : Bool). flat_map (asks k place) (cond c (due k e x) [])) (ap (λ (i : ℕ). is_in i both) is ∙ (same ∙ sym (ap (λ (i : ℕ). is_in i a) is)))
      here (inr none) = none_if (asks k place) (is_in m both) (due k e x) none ∙ sym (none_if (asks k place) (is_in m a) (due k e x) none)

  dues_go_on : (k : ℕ) (o : Opening) (numbers : List ℕ) (start log : Log Event) → Continues numbers start log → dues_by due k numbers (opening_track o) log ≡ dues_by due k numbers (opening_track o) start
  dues_go_on k o numbers start log goes =
      ap (dues_by due k numbers (opening_track o)) goes.is
      ∙ (due_append due k numbers (opening_track o) start goes.more
      ∙ (ap (λ (l : List D). dues_by due k numbers (opening_track o) start ++ l) (none_due due k numbers (track_from (opening_track o) start) goes.more goes.by_others) ∙ append-nil (dues_by due k numbers (opening_track o) start)))

  joined_order : HaveAuthors due asks does → (k : ℕ) (o : Opening) (v w u : View Event) (a b c : View X) → AreJoined v w u → AreJoined a b c → IsLog k o u.log → IsInOrder due asks does k o v (made_by a) → IsInOrder due asks does k o w (made_by b)
      → IsInOrder due asks does k o u (made_by c)
  joined_order authors k o v w u a b c join took legal first second place =
      let author = authors k o u.log place legal in
      let n = author.0 in
      let x : Track = opening_track o in
      let sum : dues_of due k o u ≡ dues_by due k (v.numbers ++ w.numbers) x u.log = ap (λ (l : List ℕ). dues_by due k l x u.log) join.numbers in
      let all : made_by c ≡ entries_by (a.numbers ++ b.numbers) c.log = ap (λ (l : List ℕ). entries_by l c.log) took.numbers in
      let mine : dues_by due k v.numbers x u.log ≡ dues_of due k o v = dues_go_on k o v.numbers v.log u.log join.one in
      let theirs : dues_by due k w.numbers x u.log ≡ dues_of due k o w = dues_go_on k o w.numbers w.log u.log join.other in
      let made : entries_by a.numbers c.log ≡ made_by a = entries_go_on a.numbers a.log c.log took.one in
      let other : entries_by b.numbers c.log ≡ made_by b = entries_go_on b.numbers b.log c.log took.other in
      elim (where_is n w.numbers) [
        | inr outside ↦ (
            let none : flat_map (does k place) (entries_by b.numbers c.log) ≡ [] = ap (flat_map (does k place)) other ∙ (sym (second place) ∙ (ap (flat_map (asks k place)) (sym theirs) ∙ absent n k place w.numbers x u.log author.1 outside)) in
            ap (flat_map (asks k place)) sum
            ∙ (present n k place v.numbers (v.numbers ++ w.numbers) x u.log author.1 (in_left n v.numbers w.numbers outside)
            ∙ (ap (flat_map (asks k place)) mine
            ∙ (first place
            ∙ (ap (flat_map (does k place)) (sym made)
            ∙ (sym (entries_left (does k place) a.numbers b.numbers c.log none) ∙ ap (flat_map (does k place)) (sym all))))))
            )
        | inl there ↦ (
            let outside = apart_from n v.numbers w.numbers join.apart there in
            let none : flat_map (does k place) (entries_by a.numbers c.log) ≡ [] = ap (flat_map (does k place)) made ∙ (sym (first place) ∙ (ap (flat_map (asks k place)) (sym mine) ∙ absent n k place v.numbers x u.log author.1 outside)) in
            ap (flat_map (asks k place)) sum
            ∙ (present n k place w.numbers (v.numbers ++ w.numbers) x u.log author.1 (in_right n v.numbers w.numbers outside)
            ∙ (ap (flat_map (asks k place)) theirs
            ∙ (second place
            ∙ (ap (flat_map (does k place)) (sym other)
            ∙ (sym (entries_right (does k place) a.numbers b.numbers c.log none) ∙ ap (flat_map (does k place)) (sym all))))))
            )
      ]

  pub order_kept : HaveAuthors due asks does → OrderIsKept due asks does
  order_kept authors = record {
    begins = λ k o v none place. ap (flat_map (asks k place)) none;
    more = λ k o v w es made new adds owed same is place. (ap (flat_map (asks k place)) (adds.grow k o v w es owed)
        ∙ (flat_map-append (asks k place) (dues_of due k o v) es
        ∙ ((λ i. is place i ++ same place i) ∙ sym (flat_map-append (does k place) made new))));
    others = λ k o v made new none is place. (is place ∙ (sym (append-nil (flat_map (does k place) made)) ∙ ((λ i. flat_map (does k place) made ++ sym (none place) i) ∙ sym (flat_map-append (does k place) made new))));
    joined = λ k o v w u a b c join took legal first second. joined_order authors k o v w u a b c join took legal first second;
  }

-- ---- the pool

media_past : (k p : ℕ) (n : ℕ) (x : Track) (log : Log Event) → p < x.holds.place → AuthorIs media_dues asked_at done_at n k p x log
media_past k p n x [] lt = tt
media_past k p n x ((m, Look) ∷ ps) lt = media_past k p n x ps lt
media_past k p n x ((m, Made e) ∷ ps) lt =
    let next = place_by (act_in e x) (box_of (acquires_of e.acquires)) x.holds in
    (inr (event_other k p e x (λ same. omega (arith, lt, same))), media_past k p n (track_made m e x) ps (omega (arith, lt, next)))

media_author : (k p : ℕ) (x : Track) (log : Log Event) → (n : ℕ) × AuthorIs media_dues asked_at done_at n k p x log
media_author k p x [] = (0, tt)
media_author k p x ((m, Look) ∷ ps) = media_author k p x ps
media_author k p x ((m, Made e) ∷ ps) = cases (cases_eq p x.holds.place) (media_author k p (track_made m e x) ps)
  where
    cases : (p ≡ x.holds.place) ⊎ (p ≢ x.holds.place) → ((n : ℕ) × AuthorIs media_dues asked_at done_at n k p (track_made m e x) ps) → (n : ℕ) × AuthorIs media_dues asked_at done_at n k p x ((m, Made e) ∷ ps)
    cases (inl same) rest =
        let next = place_by (act_in e x) (box_of (acquires_of e.acquires)) x.holds in
        (m, (inl refl, media_past k p m (track_made m e x) ps (omega (arith, same, next))))
    cases (inr other) rest = (rest.0, (inr (event_other k p e x (λ same. other (sym same))), rest.1))

pub media_order : MediaOrderIsKept
media_order = order_kept media_dues asked_at done_at (λ k o log place legal. media_author k place (opening_track o) log)

-- ---- the registry

flat_none : (k p : ℕ) (a b : List SlotEntry) → flat_map (slot_at k p) a ≡ [] → flat_map (slot_at k p) b ≡ [] → flat_map (slot_at k p) (a ++ b) ≡ []
flat_none k p a b x y = flat_map-append (slot_at k p) a b ∙ (λ i. x i ++ y i)

gives_elsewhere : (k p place : ℕ) (bs : List (ℕ × Box)) → p ≢ place → flat_map (slot_at k p) (map (give_by k place) bs) ≡ []
gives_elsewhere k p place [] other = refl
gives_elsewhere k p place (b ∷ bs) other =
    let here : slot_at k p (give_by k place b) ≡ [] = ap (λ (c : Bool). cond c (give_by k place b ∷ []) []) (other_place k p place other) in
    let rest = gives_elsewhere k p place bs other in
    λ i. here i ++ rest i

acquires_elsewhere : (k p : ℕ) (h : Holds Box) (es : List SlotEntry) → ((q : ℕ) → h.waits ≡ true → h.since ≡ Some q → p ≢ q) → AreAsked k es h → flat_map (slot_at k p) es ≡ []
acquires_elsewhere k p h [] other asked = refl
acquires_elsewhere k p h (a ∷ rest) other asked =
    let apart = other asked.0.0 asked.0.1 asked.0.2 in
    let here : slot_at k p a ≡ [] = ap (λ (c : Bool). cond c (a ∷ []) []) (ap (is_cause (by.Codec k p)) asked.0.3 ∙ other_place k p asked.0.0 apart) in
    let later = acquires_elsewhere k p h rest other asked.1 in
    λ i. here i ++ later i

told_elsewhere : (k p : ℕ) (a : Act) (h : Holds Box) (es : List SlotEntry) → ((q : ℕ) → h.waits ≡ true → h.since ≡ Some q → p ≢ q) → Tells k a es h → flat_map (slot_at k p) es ≡ []
told_elsewhere k p (Asks id) h es other tells = ap (flat_map (slot_at k p)) tells
told_elsewhere k p Begins h es other tells = ap (flat_map (slot_at k p)) tells
told_elsewhere k p Ends h es other tells = acquires_elsewhere k p h es other tells.0
told_elsewhere k p Removes h es other tells = ap (flat_map (slot_at k p)) tells
told_elsewhere k p Other h es other tells = ap (flat_map (slot_at k p)) tells

-- an event at another place, of no item that waits for a box by a start here, calls for nothing by it
slots_elsewhere : (k p n : ℕ) (e : Event) (x : Track) → MayMake k n e x → p ≢ x.holds.place → ((q : ℕ) → x.holds.waits ≡ true → x.holds.since ≡ Some q → p ≢ q) → flat_map (slot_at k p) (slot_dues k e x) ≡ []
slots_elsewhere k p n e x may place other =
    flat_none k p (acquires_of e.acquires) (map (give_by k x.holds.place) (lets_go_by (act_in e x) (box_of (acquires_of e.acquires)) x.holds))
    (told_elsewhere k p (act_in e x) x.holds (acquires_of e.acquires) other may.acquires)
    (gives_elsewhere k p x.holds.place (lets_go_by (act_in e x) (box_of (acquires_of e.acquires)) x.holds) place)

some_same : (a b : ℕ) → Some a ≡ Some b → a ≡ b
some_same a b h = cc

not_true : {X : Type 0} → false ≡ true → X
not_true h = absurd cc

step_place : (m : ℕ) (e : Event) (x : Track) → (track_made m e x).holds.place ≡ suc x.holds.place
step_place m e x = place_by (act_in e x) (box_of (acquires_of e.acquires)) x.holds

only_next : (n m p : ℕ) (a : Act) (b : Option Box) (h : Holds Box) (r : Option ℕ) → p < h.place → ((q : ℕ) → h.waits ≡ true → h.since ≡ Some q → p ≡ q → r ≡ Some n)
    → (q : ℕ) → (holds_by a b h).waits ≡ true → (holds_by a b h).since ≡ Some q → p ≡ q → runner_by a m r ≡ Some n
only_next n m p (Asks id) b h r lt only q waits since same = (let e = some_same h.place q since in absurd (omega (arith, lt, e, same)))
only_next n m p Begins b h r lt only q waits since same = not_true waits
only_next n m p Ends b h r lt only q waits since same = cases h.old waits
  where
    cases : (old : Bool) → (holds_after_end old b h).waits ≡ true → None ≡ Some n
    cases true w = not_true w
    cases false w = not_true w
only_next n m p Removes b h r lt only q waits since same = cases h.runs waits since
  where
    cases : (runs : Bool) → (holds_removed runs h).waits ≡ true → (holds_removed runs h).since ≡ Some q → r ≡ Some n
    cases true w s = only q w s same
    cases false w s = absurd cc
only_next n m p Other b h r lt only q waits since same = only q waits since same

-- the start at a place is of the seat that makes it
only_now : (m : ℕ) (a : Act) (b : Option Box) (h : Holds Box) (r : Option ℕ) → ((q : ℕ) → h.since ≡ Some q → q < h.place)
    → (q : ℕ) → (holds_by a b h).waits ≡ true → (holds_by a b h).since ≡ Some q → h.place ≡ q → runner_by a m r ≡ Some m
only_now m (Asks id) b h r before q waits since same = refl
only_now m Begins b h r before q waits since same = refl
only_now m Ends b h r before q waits since same = cases h.old waits
  where
    cases : (old : Bool) → (holds_after_end old b h).waits ≡ true → None ≡ Some m
    cases true w = not_true w
    cases false w = not_true w
only_now m Removes b h r before q waits since same = cases h.runs since
  where
    cases : (runs : Bool) → (holds_removed runs h).since ≡ Some q → r ≡ Some m
    cases true s = (let lt = before q s in absurd (omega (arith, lt, same)))
    cases false s = absurd cc
only_now m Other b h r before q waits since same = (let lt = before q since in absurd (omega (arith, lt, same)))

before_next : (a : Act) (b : Option Box) (h : Holds Box) → ((q : ℕ) → h.since ≡ Some q → q < h.place) → (q : ℕ) → (holds_by a b h).since ≡ Some q → q < suc h.place
before_next (Asks id) b h before q since = (let e = some_same h.place q since in omega (arith, e))
before_next Begins b h before q since = (let lt = before q since in omega (arith, lt))
before_next Ends b h before q since = cases h.old since
  where
    cases : (old : Bool) → (holds_after_end old b h).since ≡ Some q → q < suc h.place
    cases true s = absurd cc
    cases false s = (let lt = before q s in omega (arith, lt))
before_next Removes b h before q since = cases h.runs since
  where
    cases : (runs : Bool) → (holds_removed runs h).since ≡ Some q → q < suc h.place
    cases true s = (let lt = before q s in omega (arith, lt))
    cases false s = absurd cc
before_next Other b h before q since = (let lt = before q since in omega (arith, lt))

-- whether the box that is waited for was asked for at this place
waits_here : (p : ℕ) (w : Bool) (s : Option ℕ) → ((w ≡ true) × (s ≡ Some p)) ⊎ ((q : ℕ) → w ≡ true → s ≡ Some q → p ≢ q)
waits_here p false s = inr (λ q w is same. not_true w)
waits_here p true None = inr (λ q w is same. absurd cc)
waits_here p true (Some r) = cases (cases_eq r p)
  where
    cases : (r ≡ p) ⊎ (r ≢ p) → ((true ≡ true) × (Some r ≡ Some p)) ⊎ ((q : ℕ) → true ≡ true → Some r ≡ Some q → p ≢ q)
    cases (inl same) = inl (refl, ap (λ (i : ℕ). Some i) same)
    cases (inr other) = inr (λ q w is same. other (some_same r q is ∙ sym same))

own_or_none : (k n m p : ℕ) (a : Act) (es : List SlotEntry) (h : Holds Box) (r : Option ℕ) → IsOwn a m r → Tells k a es h → ((q : ℕ) → h.waits ≡ true → h.since ≡ Some q → p ≡ q → r ≡ Some n) → (m ≡ n) ⊎ (flat_map (slot_at k p) es ≡ [])
own_or_none k n m p (Asks id) es h r own tells only = inr (ap (flat_map (slot_at k p)) tells)
own_or_none k n m p Begins es h r own tells only = inr (ap (flat_map (slot_at k p)) tells)
own_or_none k n m p Ends es h r own tells only = elim (waits_here p h.waits h.since) [
  | inl here ↦ inl (some_same m n (sym own ∙ only p here.0 here.1 refl))
  | inr other ↦ inr (acquires_elsewhere k p h es other tells.0)
]
own_or_none k n m p Removes es h r own tells only = inr (ap (flat_map (slot_at k p)) tells)
own_or_none k n m p Other es h r own tells only = inr (ap (flat_map (slot_at k p)) tells)

slot_past : (k n p : ℕ) (x : Track) (log : Log Event) → Follows k x log → p < x.holds.place → ((q : ℕ) → x.holds.waits ≡ true → x.holds.since ≡ Some q → p ≡ q → x.runner ≡ Some n) → AuthorIs slot_dues slot_at slot_at n k p x log
slot_past k n p x [] f lt only = tt
slot_past k n p x ((m, Look) ∷ ps) f lt only = slot_past k n p x ps f.1 lt only
slot_past k n p x ((m, Made e) ∷ ps) f lt only =
    let next = step_place m e x in
    let gives = gives_elsewhere k p x.holds.place (lets_go_by (act_in e x) (box_of (acquires_of e.acquires)) x.holds) (λ same. omega (arith, lt, same)) in (
      here gives (own_or_none k n m p (act_in e x) (acquires_of e.acquires) x.holds x.runner f.0.own f.0.acquires only),
      slot_past k n p (track_made m e x) ps f.1 (omega (arith, lt, next)) (only_next n m p (act_in e x) (box_of (acquires_of e.acquires)) x.holds x.runner lt only),
    )
  where
    here : flat_map (slot_at k p) (map (give_by k x.holds.place) (lets_go_by (act_in e x) (box_of (acquires_of e.acquires)) x.holds)) ≡ [] → (m ≡ n) ⊎ (flat_map (slot_at k p) (acquires_of e.acquires) ≡ [])
        → (m ≡ n) ⊎ (flat_map (slot_at k p) (slot_dues k e x) ≡ [])
    here gives (inl same) = inl same
    here gives (inr none) = inr (flat_none k p (acquires_of e.acquires) (map (give_by k x.holds.place) (lets_go_by (act_in e x) (box_of (acquires_of e.acquires)) x.holds)) none gives)

slot_author : (k p : ℕ) (x : Track) (log : Log Event) → Follows k x log → x.holds.place ≤ p → ((q : ℕ) → x.holds.since ≡ Some q → q < x.holds.place) → (n : ℕ) × AuthorIs slot_dues slot_at slot_at n k p x log
slot_author k p x [] f le before = (0, tt)
slot_author k p x ((m, Look) ∷ ps) f le before = slot_author k p x ps f.1 le before
slot_author k p x ((m, Made e) ∷ ps) f le before = cases (cases_eq p x.holds.place) (λ low. slot_author k p (track_made m e x) ps f.1 low later)
  where
    next : (track_made m e x).holds.place ≡ suc x.holds.place
    next = step_place m e x

    later : (q : ℕ) → (track_made m e x).holds.since ≡ Some q → q < (track_made m e x).holds.place
    later q since = (let lt = before_next (act_in e x) (box_of (acquires_of e.acquires)) x.holds before q since in omega (arith, lt, next))

    cases : (p ≡ x.holds.place) ⊎ (p ≢ x.holds.place) → ((track_made m e x).holds.place ≤ p → (n : ℕ) × AuthorIs slot_dues slot_at slot_at n k p (track_made m e x) ps) → (n : ℕ) × AuthorIs slot_dues slot_at slot_at n k p x ((m, Made e) ∷ ps)
    cases (inl same) more = (
      m,
      (
        inl refl,
        slot_past k m p (track_made m e x) ps f.1 (omega (arith, same, next))
            (λ q waits since is. only_now m (act_in e x) (box_of (acquires_of e.acquires)) x.holds x.runner before q waits since (sym same ∙ is)),
      ),
    )
    cases (inr other) more =
        let rest = more (omega (arith, le, other, next)) in
        (rest.0, (inr (slots_elsewhere k p m e x f.0 other (λ q waits since is. (let lt = before q since in omega (arith, lt, le, is)))), rest.1))

pub slot_order : SlotOrderIsKept
slot_order = order_kept slot_dues slot_at slot_at (λ k o log place legal. slot_author k place (opening_track o) log legal (omega arith) (λ q bad. absurd cc))
