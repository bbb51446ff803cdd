-- One entry more of a codec.
use Rattle.std.proofs.Common.{ℕ, zero, suc, ◌≡◌, ◌≢◌, ◌<◌, ◌+◌, inl, inr, List, [], ◌∷◌, ◌++◌, length, Option, Some, refl, ap, sym, subst, ◌∙◌, arith}
use Rattle.std.specs.Prelude.{map, slice_get}
use Rattle.std.proofs.lemmas.Bool.{cases_eq}
use Rattle.std.proofs.lemmas.List.{map-append}
use Rattle.std.proofs.lemmas.Option.{slice_get_within}
use Rattle.wc_base.specs.declared.who.By.{By}
use Rattle.wc_pool.specs.{declared.entry.PoolEntry.PoolEntry, declared.entry.PoolOp.PoolOp, Bag.resource_of, Bag.references_made}
use Rattle.wc_pool.specs.Laws.{LiveAreNumbered}
use Rattle.codec_model.specs.{declared.entry.Handed.Handed, declared.entry.Call.Call, declared.entry.Entry.Entry, declared.entry.Pair.Pair, Replay.State}
use Rattle.codec_model.specs.Held.{adds_held, lets_go, leaves_held}
use Rattle.script_types.specs.declared.steps.{MediaStep.MediaStep, Step.Step}
use Rattle.media_variables.specs.Variables.{Medium, Media, Brought}
use Rattle.media_variables.specs.Held.{AreHeld, AreApart}
use Rattle.media_accounts.specs.Accounts.{is_by_step, ops_where, is_by_entry, ops_of_entry, without_last, pool_by, came_in, variables_in, MediaAreIn, Lending, MediaStand, MayAdd, AreParts, EntryMore, EntryStands, EntriesStand}
use Rattle.media_accounts.proofs.Pools.{get_either, by_one, by_place, own_place, other_place, ops_more, ops_all, ops_kept, own_kept, of_same, legal_from}
use Rattle.media_accounts.proofs.Steps.{ComesToo, variables_stay, came_stays, comes_too}
use Rattle.media_accounts.proofs.Ends.{Grows, clone_grows, ends_grow, all_done}

-- ---- lists

get_first : {X : Type 0} (a b : List X) (n : ℕ) (x : X) → slice_get a n ≡ Some x → slice_get (a ++ b) n ≡ Some x
get_first [] b n x is = absurd cc
get_first (y ∷ ys) b zero x is = is
get_first (y ∷ ys) b (suc n) x is = get_first ys b n x is

get_second : {X : Type 0} (a b : List X) (n : ℕ) → slice_get (a ++ b) (length a + n) ≡ slice_get b n
get_second [] b n = ap (slice_get b) (let none : 0 + n ≡ n = omega arith in none)
get_second (y ∷ ys) b n = ap (slice_get (y ∷ ys ++ b)) (let one : suc (length ys) + n ≡ suc (length ys + n) = omega arith in one) ∙ get_second ys b n

-- ---- what a codec holds, in two parts

-- where each element of a part stands in the whole
record Part (held part : List Pair) : Type 0 where
  place : ℕ → ℕ
  at : (i : ℕ) (p : Pair) → slice_get part i ≡ Some p → slice_get held (place i) ≡ Some p
  one : (i j : ℕ) → place i ≡ place j → i ≡ j

record Parts (held gone kept : List Pair) : Type 0 where
  goes : Part held gone
  keeps : Part held kept
  other : (i j : ℕ) (p q : Pair) → slice_get kept i ≡ Some p → slice_get gone j ≡ Some q → keeps.place i ≢ goes.place j

parts_at : (gone kept : List Pair) → Parts (gone ++ kept) gone kept
parts_at gone kept = record {
  goes = record { place = λ i. i; at = get_first gone kept; one = λ i j same. same };
  keeps = record { place = λ i. length gone + i; at = λ i p at. get_second gone kept i ∙ at; one = λ i j same. omega (arith, same) };
  other = λ i j p q one two same. (let lt = slice_get_within gone j q two in omega (arith, lt, same));
}

parts_of : (held gone kept : List Pair) → AreParts held gone kept → Parts held gone kept
parts_of held gone kept (inl is) = subst (λ (l : List Pair). Parts l gone kept) (sym is) (parts_at gone kept)
parts_of held gone kept (inr is) = subst (λ (l : List Pair). Parts l gone kept) (sym is)
    (let parts = parts_at kept gone in record { goes = parts.keeps; keeps = parts.goes; other = λ i j p q one two same. parts.other j i q p two one (sym same) })

-- what is known of the whole is known of a part
part_apart : (pool : List PoolEntry) (callers : List (List (Option Medium))) (held part : List Pair) → Part held part → AreApart pool callers held → AreApart pool callers part
part_apart pool callers held part w h = record {
  lives = λ i p at. h.lives (w.place i) p (w.at i p at);
  once = λ i j p q one two same. w.one i j (h.once (w.place i) (w.place j) p q (w.at i p one) (w.at j q two) same);
  elsewhere = λ i k j p r at. h.elsewhere (w.place i) k j p r (w.at i p at);
}

-- ---- an entry adds or lets go, and never both

grows_by : (cause : By) (pool : List PoolEntry) (callers : List (List (Option Medium))) (e : Entry) (s : State) → ((f r : ℕ) → resource_of f pool ≡ Some r → f < references_made pool)
    → ((i : ℕ) (p : Pair) → slice_get (adds_held e) i ≡ Some p → MayAdd pool p) → AreApart pool callers (lets_go e s) → Grows cause pool (pool_by cause e s pool) (lets_go e s) (adds_held e)
grows_by cause pool callers (Entry.Call who (Call.Encode (Handed.Cloned medium))) s numbered may ends = clone_grows cause pool medium.pair (may 0 medium.pair refl) numbered
grows_by cause pool callers e s numbered may ends = ends_grow cause pool callers (lets_go e s) ends

-- ---- all of it

module _ (numbered : LiveAreNumbered) (steps : ℕ → List Step) (brought : ℕ → ℕ → MediaStep → Brought) (codecs later : Lending) (made : ℕ → ℕ) (callers k place : ℕ) (e : Entry) (s : State) (m : Media) (st : MediaStand steps brought codecs made callers m) (more : EntryMore codecs later k place e s m.pool) where
  abbrev cause : By
  cause = By.Codec k place

  abbrev new : List PoolEntry
  new = pool_by cause e s m.pool

  abbrev longer : List PoolEntry
  longer = m.pool ++ new

  below : (f r : ℕ) → resource_of f m.pool ≡ Some r → f < references_made m.pool
  below f r lives = (numbered m.pool f r st.accounted.legal lives).0

  abbrev old : AreApart m.pool m.variables (codecs.holds k)
  old = st.lent.apart k

  parts : Parts (codecs.holds k) (lets_go e s) (leaves_held e s)
  parts = parts_of (codecs.holds k) (lets_go e s) (leaves_held e s) more.parts

  gone : AreApart m.pool m.variables (lets_go e s)
  gone = part_apart m.pool m.variables (codecs.holds k) (lets_go e s) parts.goes old

  kept : AreApart m.pool m.variables (leaves_held e s)
  kept = part_apart m.pool m.variables (codecs.holds k) (leaves_held e s) parts.keeps old

  grows : Grows cause m.pool new (lets_go e s) (adds_held e)
  grows = grows_by cause m.pool m.variables e s below more.adds gone

  -- ---- the account

  comes_still : (c j : ℕ) → ComesToo steps brought brought m.pool longer c j
  comes_still c j = comes_too steps brought m.pool longer c j (ops_kept (is_by_step c j) cause m.pool new grows.its refl)

  came_same : (c j : ℕ) → came_in steps brought longer c j ≡ came_in steps brought m.pool c j
  came_same c j = came_stays steps brought brought m.pool longer c j (λ i le. comes_still c i)

  variables_same : (c j : ℕ) → variables_in steps brought longer c j ≡ variables_in steps brought m.pool c j
  variables_same c j = variables_stay steps brought brought m.pool longer c j (λ i lt. comes_still c i)

  lent_other : (l n : ℕ) → ((l ≡ k) → (n ≡ place) → ⊥) → ops_of_entry l n longer ≡ later.lends l n
  lent_other l n apart =
      ap (map without_last) (ops_kept (is_by_entry l n) cause m.pool new grows.its (other_place k l place n apart)) ∙ (st.accounted.codecs l n ∙ sym (more.other_lends l n apart))

  lent_here : ops_of_entry k place longer ≡ later.lends k place
  lent_here =
      let was = ops_where (is_by_entry k place) m.pool in
      let now = ops_where (is_by_entry k place) new in
      ap (map without_last) (ops_more (is_by_entry k place) m.pool new)
      ∙ (map-append without_last was now
      ∙ (ap (λ (o : List PoolOp). o ++ map without_last now) (st.accounted.codecs k place ∙ more.fresh)
      ∙ (ap (map without_last) (ops_all (is_by_entry k place) cause new grows.its (own_place k place)) ∙ (all_done cause m.pool (adds_held e) (lets_go e s) ∙ sym more.lends))))

  accounted : MediaAreIn steps brought later.lends made longer
  accounted = record {
    legal = legal_from [] m.pool new st.accounted.legal grows.legal;
    own = λ c. own_kept c cause m.pool new grows.its (λ o. refl) ∙ (st.accounted.own c ∙ of_same (came_in steps brought m.pool c) (came_in steps brought longer c) (made c) (λ j lt. sym (came_same c j)));
    codecs = by_place (λ l n. ops_of_entry l n longer ≡ later.lends l n) k place lent_here lent_other;
  }

  -- ---- references

  held : AreHeld longer m.variables
  held = record {
    live = λ l j r at. grows.stays r.number r.resource (st.held.live l j r at) (λ i q out. gone.elsewhere i l j q r out at);
    apart = st.held.apart;
  }

  -- what is added is none of what was live
  is_new : (i : ℕ) (p : Pair) (f r : ℕ) → slice_get (adds_held e) i ≡ Some p → resource_of f m.pool ≡ Some r → p.reference ≢ f
  is_new i p f r added lives same = (let at = (grows.adds i p added).1 in let lt = below f r lives in omega (arith, at, lt, same))

  abbrev left : List Pair
  left = leaves_held e s ++ adds_held e

  -- what holds of what is kept, and of what is added, holds of what is left
  left_each : (P : Pair → Type 0) → ((i : ℕ) (p : Pair) → slice_get (leaves_held e s) i ≡ Some p → P p) → ((i : ℕ) (p : Pair) → slice_get (adds_held e) i ≡ Some p → P p)
      → (i : ℕ) (p : Pair) → slice_get left i ≡ Some p → P p
  left_each P keeps adds i p at = elim (get_either (leaves_held e s) (adds_held e) i p at) [
    | inl first ↦ keeps i p first.0
    | inr added ↦ adds added.0 p added.2
  ]

  left_once : (i j : ℕ) (p q : Pair) → slice_get left i ≡ Some p → slice_get left j ≡ Some q → p.reference ≡ q.reference → i ≡ j
  left_once i j p q one two same = elim (get_either (leaves_held e s) (adds_held e) i p one) [
    | inl first ↦ elim (get_either (leaves_held e s) (adds_held e) j q two) [
      | inl second ↦ kept.once i j p q first.0 second.0 same
      | inr added ↦ absurd (is_new added.0 q p.reference p.resource added.2 (kept.lives i p first.0) (sym same))
    ]
    | inr added ↦ elim (get_either (leaves_held e s) (adds_held e) j q two) [
      | inl second ↦ absurd (is_new added.0 p q.reference q.resource added.2 (kept.lives j q second.0) same)
      | inr added_too ↦ added.1 ∙ (ap (λ (n : ℕ). length (leaves_held e s) + n) ((grows.adds added.0 p added.2).0 ∙ sym (grows.adds added_too.0 q added_too.2).0) ∙ sym added_too.1)
    ]
  ]

  left_apart : AreApart longer m.variables left
  left_apart = record {
    lives = left_each (λ p. resource_of p.reference longer ≡ Some p.resource)
        (λ i p at. grows.stays p.reference p.resource (kept.lives i p at)
        (λ j q out same. parts.other i j p q at out (old.once (parts.keeps.place i) (parts.goes.place j) p q (parts.keeps.at i p at) (parts.goes.at j q out) (sym same))))
        (λ i p at. (grows.adds i p at).2);
    once = left_once;
    elsewhere = λ i l j p r at there. left_each (λ q. q.reference ≢ r.number)
        (λ i q first. kept.elsewhere i l j q r first there)
        (λ i q added. is_new i q r.number r.resource added (st.held.live l j r there)) i p at;
  }

  other_apart : (l : ℕ) → l ≢ k → AreApart longer m.variables (codecs.holds l)
  other_apart l other = record {
    lives = λ i p at. (
        grows.stays p.reference p.resource ((st.lent.apart l).lives i p at)
        (λ j q out. st.lent.between k l (parts.goes.place j) i q p (λ same. other (sym same)) (parts.goes.at j q out) at)
        );
    once = (st.lent.apart l).once;
    elsewhere = (st.lent.apart l).elsewhere;
  }

  all_apart : (l : ℕ) → AreApart longer m.variables (later.holds l)
  all_apart = by_one (λ l. AreApart longer m.variables (later.holds l)) k
      (subst (AreApart longer m.variables) (sym more.holds) left_apart) (λ l other. subst (AreApart longer m.variables) (sym (more.other_holds l other)) (other_apart l other))

  -- the codec holds nothing that another one does
  left_between : (l i j : ℕ) (p q : Pair) → l ≢ k → slice_get left i ≡ Some p → slice_get (codecs.holds l) j ≡ Some q → p.reference ≢ q.reference
  left_between l i j p q other at there = left_each (λ x. x.reference ≢ q.reference)
      (λ i x first. st.lent.between k l (parts.keeps.place i) j x q (λ same. other (sym same)) (parts.keeps.at i x first) there)
      (λ i x added. is_new i x q.reference q.resource added ((st.lent.apart l).lives j q there)) i p at

  all_between : (a b i j : ℕ) (p q : Pair) → a ≢ b → slice_get (later.holds a) i ≡ Some p → slice_get (later.holds b) j ≡ Some q → p.reference ≢ q.reference
  all_between a b i j p q apart at there same = elim (cases_eq a k) [
    | inl here ↦ left_between b i j p q (λ e. apart (here ∙ sym e)) (rw (here, more.holds) at at) (rw (more.other_holds b (λ e. apart (here ∙ sym e))) at there) same
    | inr other ↦ elim (cases_eq b k) [
      | inl here ↦ left_between a j i q p other (rw (here, more.holds) at there) (rw (more.other_holds a other) at at) (sym same)
      | inr other_too ↦ st.lent.between a b i j p q apart (rw (more.other_holds a other) at at) (rw (more.other_holds b other_too) at there) same
    ]
  ]

  entry_after : EntryStands steps brought later made callers k place e s m
  entry_after = record {
    stands = record {
      accounted = accounted;
      variables = λ c. st.variables c ∙ sym (variables_same c (made c));
      held = held;
      lent = record { apart = all_apart; between = all_between };
      there = st.there;
    };
    same = came_same;
    variables = variables_same;
  }

pub entry_stands : LiveAreNumbered → EntriesStand
entry_stands numbered steps brought codecs later made callers k place e s m st more = entry_after numbered steps brought codecs later made callers k place e s m st more
