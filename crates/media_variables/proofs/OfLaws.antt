-- The references that one caller's variables hold are of their pool.
use Rattle.std.proofs.Common.{ℕ, zero, suc, ◌≡◌, ◌≢◌, ◌<◌, inl, inr, List, [], ◌∷◌, length, get_or, Option, Some, None, refl, ap, sym, subst, ◌∙◌}
use Rattle.std.specs.Prelude.{slice_set, option_map, IfSome}
use Rattle.std.proofs.lemmas.Bool.{cases_eq}
use Rattle.std.proofs.lemmas.Option.{same_Some}
use Rattle.wc_pool.specs.declared.reference.MediaRef.{MediaRef}
use Rattle.wc_pool.specs.Pools.{KeepsAll}
use Rattle.wc_audio.specs.Sound.{KeepsButHeld}
use Rattle.media_variables.specs.declared.given.Given.{Given}
use Rattle.media_variables.specs.Variables.{Reference, changed_at, medium_at, with_medium}
use Rattle.media_variables.specs.Held.{WholeMedium, AreOf, StayOf, reference_of, seen, seen_in, without_reference, whole_held, held_by}
use Rattle.media_variables.specs.Given.{given_to, transferred, transferred_at}
use Rattle.media_variables.proofs.Places.{medium_read, medium_here, medium_else, changed_here, changed_else, seen_at}

if_kept : (was now : MediaRef → Type 0) → KeepsAll was now → (o : Option MediaRef) → IfSome o was → IfSome o now
if_kept was now keeps None h = tt
if_kept was now keeps (Some r) h = keeps.stay r h

pub kept_of : (was now : MediaRef → Type 0) (vs : List (Option WholeMedium)) → KeepsAll was now → AreOf was vs → AreOf now vs
kept_of was now vs keeps h = record { each = λ j. if_kept was now keeps (whole_held (medium_at vs j)) (h.each j) }

-- the same variables, and the same where a pool keeps all
pub same_of : (is_of : MediaRef → Type 0) (vs now : List (Option WholeMedium)) → now ≡ vs → AreOf is_of vs → AreOf is_of now
same_of is_of vs now is h = subst (AreOf is_of) (sym is) h

pub kept_same_of : (was is_of : MediaRef → Type 0) (vs now : List (Option WholeMedium)) → now ≡ vs → KeepsAll was is_of → AreOf was vs → AreOf is_of now
kept_same_of was is_of vs now is keeps h = same_of is_of vs now is (kept_of was is_of vs keeps h)

-- what is of the pool in any case
pub stay_of : (was now : MediaRef → Type 0) (vs after : List (Option WholeMedium)) → AreOf now after → StayOf was now vs after
stay_of was now vs after h premise = h

module _ (is_of : MediaRef → Type 0) where
  abbrev HeldOf : Option WholeMedium → Type 0
  HeldOf v = IfSome (whole_held v) is_of

  -- the one that was read
  pub read_of : (vs : List (Option WholeMedium)) (j : ℕ) (v : Option WholeMedium) → j < length vs → v ≡ get_or vs j v → AreOf is_of vs → HeldOf v
  read_of vs j v lt is h = subst HeldOf (medium_read vs j v lt is) (h.each j)

  with_of : (j : ℕ) (m : WholeMedium) (vs : List (Option WholeMedium)) → AreOf is_of vs → IfSome m.held is_of → (i : ℕ) → HeldOf (medium_at (with_medium j m vs) i)
  with_of j m vs h own i = elim (cases_eq i j) [
    | inl same ↦ subst (λ (n : ℕ). HeldOf (medium_at (with_medium j m vs) n)) (sym same) (subst HeldOf (sym (medium_here j m vs)) own)
    | inr other ↦ subst HeldOf (sym (medium_else j m vs i other)) (h.each i)
  ]

  -- a variable holds what is given, if something is
  pub given_of : (j : ℕ) (m : Option WholeMedium) (vs now : List (Option WholeMedium)) → now ≡ given_to j m vs → AreOf is_of vs → IfSome m (λ x. IfSome x.held is_of) → AreOf is_of now
  given_of j None vs now is h own = subst (AreOf is_of) (sym is) h
  given_of j (Some m) vs now is h own = subst (AreOf is_of) (sym is) (record { each = with_of j m vs h own })

  set_of : (vs : List (Option WholeMedium)) (j : ℕ) (new : Option WholeMedium) (i : ℕ) → HeldOf (medium_at vs i) → HeldOf new → HeldOf (medium_at (slice_set vs j new) i)
  set_of [] j new i h own = h
  set_of (v ∷ vs) zero new zero h own = own
  set_of (v ∷ vs) zero new (suc i) h own = h
  set_of (v ∷ vs) (suc j) new zero h own = h
  set_of (v ∷ vs) (suc j) new (suc i) h own = set_of vs j new i h own

  -- one variable is put back
  pub put_of : (vs : List (Option WholeMedium)) (j : ℕ) (new : Option WholeMedium) → AreOf is_of vs → HeldOf new → AreOf is_of (slice_set vs j new)
  put_of vs j new h own = record { each = λ i. set_of vs j new i (h.each i) own }

  detached_of : (v : Option WholeMedium) → HeldOf (option_map without_reference v)
  detached_of None = tt
  detached_of (Some m) = tt

  -- one variable is detached
  pub without_of : (j : ℕ) (vs : List (Option WholeMedium)) → ((i : ℕ) → i ≢ j → HeldOf (medium_at vs i)) → AreOf is_of (changed_at without_reference j vs)
  without_of j vs h = record {
    each = λ i. elim (cases_eq i j) [
      | inl same ↦ subst (λ (n : ℕ). HeldOf (medium_at (changed_at without_reference j vs) n)) (sym same) (subst HeldOf (sym (changed_here without_reference j vs)) (detached_of (medium_at vs j)))
      | inr other ↦ subst HeldOf (sym (changed_else without_reference j vs i other)) (h i other)
    ];
  }

  handed_on : (m : WholeMedium) (o : Option MediaRef) → IfSome m.held is_of → IfSome (transferred m o).medium (λ x. IfSome x.held is_of)
  handed_on m None h = tt
  handed_on m (Some r) h = h

  -- what is handed on
  pub transferred_of : (v : Option WholeMedium) → HeldOf v → IfSome (transferred_at v).medium (λ x. IfSome x.held is_of)
  transferred_of None h = tt
  transferred_of (Some m) h = handed_on m m.held h

-- ---- a close

whole_seen : (v : Option WholeMedium) (q : MediaRef) → whole_held v ≡ Some q → held_by (option_map seen v) ≡ Some (reference_of q)
whole_seen None q is = absurd cc
whole_seen (Some m) q is = ap (option_map reference_of) is

-- what is held as it is seen, whole
seen_held_whole : (o : Option MediaRef) (s : Reference) → option_map reference_of o ≡ Some s → (q : MediaRef) × ((o ≡ Some q) × (reference_of q ≡ s))
seen_held_whole None s e = absurd cc
seen_held_whole (Some q) s e = (q, (refl, same_Some (reference_of q) s e))

pub seen_whole : (v : Option WholeMedium) (s : Reference) → held_by (option_map seen v) ≡ Some s → (q : MediaRef) × ((whole_held v ≡ Some q) × (reference_of q ≡ s))
seen_whole None s e = absurd cc
seen_whole (Some m) s e = seen_held_whole m.held s e

seen_held_at : (vs : List (Option WholeMedium)) (i : ℕ) (q : MediaRef) → whole_held (medium_at vs i) ≡ Some q → held_by (medium_at (seen_in vs) i) ≡ Some (reference_of q)
seen_held_at vs i q is = ap held_by (seen_at vs i) ∙ whole_seen (medium_at vs i) q is

others_kept : (was now : MediaRef → Type 0) (held : Option MediaRef) → KeepsButHeld held was now → (o : Option MediaRef) → ((r q : MediaRef) → held ≡ Some r → o ≡ Some q → q.number ≢ r.number) → IfSome o was → IfSome o now
others_kept was now None keeps o apart h = if_kept was now keeps o h
others_kept was now (Some r) keeps None apart h = tt
others_kept was now (Some r) keeps (Some q) apart h = keeps.stay q (apart r q refl refl) h

closed_of : (was now : MediaRef → Type 0) (vs : List (Option WholeMedium)) (of : ℕ) (v : Option WholeMedium) → medium_at vs of ≡ v → AreOf was vs → KeepsButHeld (whole_held v) was now → StayOf was now vs (changed_at without_reference of vs)
closed_of was now vs of v at h keeps (inr all) = without_of now of vs (λ i other. if_kept was now all (whole_held (medium_at vs i)) (h.each i))
closed_of was now vs of v at h keeps (inl once) = without_of now of vs (λ i other.
    others_kept was now (whole_held v) keeps (whole_held (medium_at vs i))
    (λ r q held here same. other (once.once i of (reference_of q) (reference_of r) (seen_held_at vs i q here) (seen_held_at vs of r (ap whole_held at ∙ held)) same))
    (h.each i))

pub closed_stay : (was now : MediaRef → Type 0) (vs after : List (Option WholeMedium)) (of : ℕ) (v : Option WholeMedium) → medium_at vs of ≡ v → after ≡ changed_at without_reference of vs → AreOf was vs → KeepsButHeld (whole_held v) was now → StayOf was now vs after
closed_stay was now vs after of v at is h keeps premise = subst (AreOf now) (sym is) (closed_of was now vs of v at h keeps premise)

-- where nothing was done
pub same_stay : (was now : MediaRef → Type 0) (vs : List (Option WholeMedium)) → AreOf now vs → StayOf was now vs vs
same_stay was now vs h premise = h

-- ---- a transfer

pub transfer_of : (is_of : MediaRef → Type 0) (j of : ℕ) (vs now : List (Option WholeMedium)) (g : Given) → g ≡ transferred_at (medium_at vs of) → now ≡ given_to j g.medium (changed_at without_reference of vs) → AreOf is_of vs → AreOf is_of now
transfer_of is_of j of vs now g is after h =
    given_of is_of j g.medium (changed_at without_reference of vs) now after (without_of is_of of vs (λ i other. h.each i))
    (subst (λ (x : Given). IfSome x.medium (λ m. IfSome m.held is_of)) (sym is) (transferred_of is_of (medium_at vs of) (h.each of)))
