-- Lists with partners, of which the last element comes or goes.
use Rattle.std.proofs.Common.{ℕ, zero, suc, ◌≡◌, ◌+◌, ◌<◌, List, [], ◌∷◌, ◌++◌, Option, Some, length, refl, subst, arith}
use Rattle.std.specs.Prelude.{slice_get}
use Rattle.atomic_table.specs.declared.shared.Seat.{Seat}
use Rattle.wc_base.specs.declared.seat.View.{View}
use Rattle.codec_desk.specs.Each.{Pairs}
use Rattle.desk_threads.specs.Parts.{EachHas}

module _ {X A : Type 0} (Q : ℕ → X → A → Type 0) where
  -- one more
  pub pairs_add : (k n : ℕ) (xs : List X) (us : List A) (x : X) (u : A) → Pairs Q k xs us → n ≡ k + length xs → Q n x u → Pairs Q k (xs ++ x ∷ []) (us ++ u ∷ [])
  pairs_add k n [] [] x u h is q =
      let e : n ≡ k = omega (arith, is) in
      (subst (λ (m : ℕ). Q m x u) e q, tt)
  pairs_add k n [] (v ∷ us) x u h is q = absurd h
  pairs_add k n (y ∷ xs) [] x u h is q = absurd h
  pairs_add k n (y ∷ xs) (v ∷ us) x u h is q = (h.0, pairs_add (suc k) n xs us x u h.1 (omega (arith, is)) q)

  -- one less
  pub pairs_last : (k : ℕ) (xs : List X) (us : List A) (x : X) (u : A) → Pairs Q k (xs ++ x ∷ []) (us ++ u ∷ []) → Pairs Q k xs us × ((m : ℕ) × Q m x u)
  pairs_last k [] [] x u h = (tt, (k, h.0))
  pairs_last k [] (v ∷ []) x u h = absurd h.1
  pairs_last k [] (v ∷ (w ∷ us)) x u h = absurd h.1
  pairs_last k (y ∷ []) [] x u h = absurd h.1
  pairs_last k (y ∷ (z ∷ xs)) [] x u h = absurd h.1
  pairs_last k (y ∷ xs) (v ∷ us) x u h =
      let r = pairs_last (suc k) xs us x u h.1 in
      ((h.0, r.0), r.1)

  -- no partner is left over
  pub pairs_none : (k : ℕ) (us : List A) → Pairs Q k [] us → us ≡ []
  pairs_none k [] h = refl
  pairs_none k (u ∷ us) h = absurd h

  pub pairs_short : (k : ℕ) (xs : List X) (x : X) → Pairs Q k (xs ++ x ∷ []) [] → ⊥
  pairs_short k [] x h = h
  pairs_short k (y ∷ xs) x h = h

module _ {S E : Type 0} where
  pub has_last : (n : ℕ) (us : List (Seat (Option S) (View E))) (u : Seat (Option S) (View E)) → EachHas n (us ++ u ∷ []) → EachHas n us × (u.me.0.parts ≡ n)
  has_last n [] u h = (tt, h.0)
  has_last n (v ∷ us) u h =
      let r = has_last n us u h.1 in
      ((h.0, r.0), r.1)

module _ {X : Type 0} where
  -- no more elements
  pub no_items : (xs : List X) → length xs ≡ 0 → xs ≡ []
  no_items [] none = refl
  no_items (x ∷ xs) none = absurd (omega (arith, none))

  -- the element at a place
  pub get_there : (xs : List X) (i : ℕ) → i < length xs → (x : X) × (slice_get xs i ≡ Some x)
  get_there [] i lt = absurd (omega (arith, lt))
  get_there (x ∷ xs) zero lt = (x, refl)
  get_there (x ∷ xs) (suc i) lt = get_there xs i (omega (arith, lt))

  -- whatever is so of each of none
  pub none_of_none : (P : X → Type 0) (xs : List X) → xs ≡ [] → (i : ℕ) (y : X) → slice_get xs i ≡ Some y → P y
  none_of_none P [] none i y at = absurd cc
  none_of_none P (x ∷ xs) none i y at = absurd cc

  -- what is so of each, and of one more
  pub snoc_each : (P : X → Type 0) (xs : List X) (x : X) → P x → ((i : ℕ) (y : X) → slice_get xs i ≡ Some y → P y) → (i : ℕ) (y : X) → slice_get (xs ++ x ∷ []) i ≡ Some y → P y
  snoc_each P [] x h before zero y at =
      let e : x ≡ y = cc in
      subst P e h
  snoc_each P [] x h before (suc i) y at = absurd cc
  snoc_each P (z ∷ xs) x h before zero y at = before zero y at
  snoc_each P (z ∷ xs) x h before (suc i) y at = snoc_each P xs x h (λ m w there. before (suc m) w there) i y at
