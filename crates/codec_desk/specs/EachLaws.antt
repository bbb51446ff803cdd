-- Laws of lists whose elements have partners.
use Rattle.std.proofs.Common.{ℕ, zero, suc, ◌≡◌, ◌≢◌, ◌<◌, ◌+◌, ◌≤◌, inl, inr, List, [], ◌∷◌, ◌++◌, Some, length, refl, ap, sym, subst, arith, set}
use Rattle.std.specs.Prelude.{slice_get}
use Rattle.std.specs.List.{sum_by}
use Rattle.std.proofs.lemmas.List.Sums.{sum_by-append}
use Rattle.codec_accounts.specs.Bags.{SameBag}
use Rattle.codec_desk.specs.Each.{Pairs, Each, First, AtSome, OneAt, IsAt, total_of}

-- the element that was set
pub set_there : {A : Type 0} (i : ℕ) (us : List A) (u v : A) → slice_get us i ≡ Some u → slice_get (set us i v) i ≡ Some v
set_there i [] u v h = absurd cc
set_there zero (w ∷ us) u v h = refl
set_there (suc i) (w ∷ us) u v h = set_there i us u v h

module _ {X A : Type 0} where
  -- there are as many of both
  pub pairs_length : (Q : ℕ → X → A → Type 0) (n : ℕ) (xs : List X) (us : List A) → Pairs Q n xs us → length xs ≡ length us
  pairs_length Q n [] [] h = refl
  pairs_length Q n [] (u ∷ us) h = absurd h
  pairs_length Q n (x ∷ xs) [] h = absurd h
  pairs_length Q n (x ∷ xs) (u ∷ us) h = ap suc (pairs_length Q (suc n) xs us h.1)

  -- what is so of an element and its partner
  pub pairs_get : (Q : ℕ → X → A → Type 0) (n m i : ℕ) (xs : List X) (us : List A) (x : X) (u : A) → Pairs Q n xs us → m ≡ n + i → slice_get xs i ≡ Some x → slice_get us i ≡ Some u → Q m x u
  pairs_get Q n m i [] [] x u h is at there = absurd cc
  pairs_get Q n m i [] (v ∷ us) x u h is at there = absurd h
  pairs_get Q n m i (y ∷ xs) [] x u h is at there = absurd h
  pairs_get Q n m zero (y ∷ xs) (v ∷ us) x u h is at there =
      let e : y ≡ x = cc in
      let f : v ≡ u = cc in
      let k : n ≡ m = omega (arith, is) in
      subst (λ (z : ℕ × X × A). Q z.0 z.1 z.2) (λ i. (k i, e i, f i)) h.0
  pairs_get Q n m (suc i) (y ∷ xs) (v ∷ us) x u h is at there = pairs_get Q (suc n) m i xs us x u h.1 (omega (arith, is)) at there

  module _ (Q : ℕ → X → A → Type 0) (R : X → A → A → Type 0) where
    -- it stays so as each goes on
    pub pairs_after : ((n : ℕ) (x : X) (u v : A) → Q n x u → R x u v → Q n x v) → (n : ℕ) (xs : List X) (us vs : List A) → Pairs Q n xs us → Each R xs us vs → Pairs Q n xs vs
    pairs_after step n [] [] [] h e = tt
    pairs_after step n [] [] (v ∷ vs) h e = absurd e
    pairs_after step n [] (u ∷ us) vs h e = absurd h
    pairs_after step n (x ∷ xs) [] vs h e = absurd h
    pairs_after step n (x ∷ xs) (u ∷ us) [] h e = absurd e
    pairs_after step n (x ∷ xs) (u ∷ us) (v ∷ vs) h e = (step n x u v h.0 e.0, pairs_after step (suc n) xs us vs h.1 e.1)

    -- each, with nothing done
    pub each_same : ((n : ℕ) (x : X) (u : A) → Q n x u → R x u u) → (n : ℕ) (xs : List X) (us : List A) → Pairs Q n xs us → Each R xs us us
    each_same same n [] [] h = tt
    each_same same n [] (u ∷ us) h = absurd h
    each_same same n (x ∷ xs) [] h = absurd h
    each_same same n (x ∷ xs) (u ∷ us) h = (same n x u h.0, each_same same (suc n) xs us h.1)

    -- each behind one, with nothing done
    each_behind : (m : ℕ) → ((j : ℕ) (x : X) (u : A) → j ≢ m → Q j x u → R x u u) → (n : ℕ) → m < n → (xs : List X) (us : List A) → Pairs Q n xs us → Each R xs us us
    each_behind m same n more [] [] h = tt
    each_behind m same n more [] (u ∷ us) h = absurd h
    each_behind m same n more (x ∷ xs) [] h = absurd h
    each_behind m same n more (x ∷ xs) (u ∷ us) h = (same n x u (λ e. omega (arith, e, more)) h.0, each_behind m same (suc n) (omega (arith, more)) xs us h.1)

    -- each, where the m-th has gone on, and this is so of each other with nothing done
    pub each_other : (m : ℕ) → ((j : ℕ) (x : X) (u : A) → j ≢ m → Q j x u → R x u u) → (n i : ℕ) → m ≡ n + i → (xs : List X) (us : List A) (x : X) (u v : A) → Pairs Q n xs us → slice_get xs i ≡ Some x → slice_get us i ≡ Some u → R x u v → Each R xs us (set us i v)
    each_other m same n i is [] [] x u v h at there r = absurd cc
    each_other m same n i is [] (w ∷ us) x u v h at there r = absurd h
    each_other m same n i is (y ∷ xs) [] x u v h at there r = absurd h
    each_other m same n zero is (y ∷ xs) (w ∷ us) x u v h at there r =
        let e : x ≡ y = cc in
        let f : u ≡ w = cc in
        (subst (λ (z : X × A). R z.0 z.1 v) (λ i. (e i, f i)) r, each_behind m same (suc n) (omega (arith, is)) xs us h.1)
    each_other m same n (suc i) is (y ∷ xs) (w ∷ us) x u v h at there r =
        (same n y w (λ e. omega (arith, e, is)) h.0, each_other m same (suc n) i (omega (arith, is)) xs us x u v h.1 at there r)

    -- each, where one has gone on
    pub each_one : ((n : ℕ) (x : X) (u : A) → Q n x u → R x u u) → (n i : ℕ) (xs : List X) (us : List A) (x : X) (u v : A) → Pairs Q n xs us → slice_get xs i ≡ Some x → slice_get us i ≡ Some u → R x u v → Each R xs us (set us i v)
    each_one same n i = each_other (n + i) (λ j y w other q. same j y w q) n i refl

  -- what an element was before
  pub each_back : (R : X → A → A → Type 0) (i : ℕ) (xs : List X) (us vs : List A) (x : X) (v : A) → Each R xs us vs → slice_get xs i ≡ Some x → slice_get vs i ≡ Some v → (u : A) × (slice_get us i ≡ Some u) × R x u v
  each_back R i [] us vs x v h at there = absurd cc
  each_back R i (y ∷ xs) us [] x v h at there = absurd cc
  each_back R i (y ∷ xs) [] (z ∷ vs) x v h at there = absurd h
  each_back R zero (y ∷ xs) (w ∷ us) (z ∷ vs) x v h at there =
      let e : y ≡ x = cc in
      let f : z ≡ v = cc in
      (w, refl, subst (λ (p : X × A). R p.0 w p.1) (λ i. (e i, f i)) h.0)
  each_back R (suc i) (y ∷ xs) (w ∷ us) (z ∷ vs) x v h at there = each_back R i xs us vs x v h.1 at there

  module _ (P Q : X → A → A → Type 0) where
    -- more is so of the one that has changed
    pub one_so : ((x : X) (u v : A) → P x u v → Q x u v) → (place : ℕ) (xs : List X) (us vs : List A) → OneAt place P xs us vs → OneAt place Q xs us vs
    one_so step place xs us vs o = record {
      partner = o.partner;
      before = o.before;
      after = o.after;
      partner_is = o.partner_is;
      before_is = o.before_is;
      after_is = o.after_is;
      so = step o.partner o.before o.after o.so;
    }

  module _ (R P Q : X → A → A → Type 0) where
    -- the one that has changed, as it was earlier
    pub one_earlier : ((x : X) (u v w : A) → R x u v → P x v w → Q x u w) → (place : ℕ) (xs : List X) (us vs ws : List A) → Each R xs us vs → OneAt place P xs vs ws → IsAt place Q xs us ws
    one_earlier step place xs us vs ws each o =
        let back = each_back R place xs us vs o.partner o.before each o.partner_is o.before_is in
        record {
          partner = o.partner;
          before = back.0;
          after = o.after;
          partner_is = o.partner_is;
          before_is = back.1;
          after_is = subst (λ (l : List A). slice_get l place ≡ Some o.after) (sym o.after_is) (set_there place vs o.before o.after o.before_is);
          so = step o.partner back.0 o.before o.after back.2 o.so;
        }

  some_set : (R : X → A → A → Type 0) (i : ℕ) (xs : List X) (us : List A) (x : X) (u v : A) → slice_get xs i ≡ Some x → slice_get us i ≡ Some u → R x u v → AtSome R xs us (set us i v)
  some_set R i [] us x u v h at r = absurd cc
  some_set R i (y ∷ xs) [] x u v h at r = absurd cc
  some_set R zero (y ∷ xs) (w ∷ us) x u v h at r =
      let e : x ≡ y = cc in
      let f : u ≡ w = cc in
      inl (subst (λ (z : X × A). R z.0 z.1 v) (λ i. (e i, f i)) r)
  some_set R (suc i) (y ∷ xs) (w ∷ us) x u v h at r = inr (some_set R i xs us x u v h at r)

  module _ (P Q : X → A → A → Type 0) where
    -- the one that has changed is one of them
    pub some_one : ((x : X) (u v : A) → P x u v → Q x u v) → (place : ℕ) (xs : List X) (us vs : List A) → OneAt place P xs us vs → AtSome Q xs us vs
    some_one step place xs us vs o =
        subst (λ (l : List A). AtSome Q xs us l) (sym o.after_is)
        (some_set Q place xs us o.partner o.before o.after o.partner_is o.before_is (step o.partner o.before o.after o.so))

  module _ (R S T : X → A → A → Type 0) where
    -- one of them, and then each
    pub some_then : ((x : X) (u v w : A) → R x u v → S x v w → T x u w) → (xs : List X) (us vs ws : List A) → AtSome R xs us vs → Each S xs vs ws → AtSome T xs us ws
    some_then step [] us vs ws h e = absurd h
    some_then step (x ∷ xs) [] vs ws h e = absurd h
    some_then step (x ∷ xs) (u ∷ us) [] ws h e = absurd h
    some_then step (x ∷ xs) (u ∷ us) (v ∷ vs) [] h e = absurd e
    some_then step (x ∷ xs) (u ∷ us) (v ∷ vs) (w ∷ ws) (inl h) e = inl (step x u v w h e.0)
    some_then step (x ∷ xs) (u ∷ us) (v ∷ vs) (w ∷ ws) (inr h) e = inr (some_then step xs us vs ws h e.1)

    -- each, and then one of them
    pub some_later : ((x : X) (u v w : A) → R x u v → S x v w → T x u w) → (xs : List X) (us vs ws : List A) → Each R xs us vs → AtSome S xs vs ws → AtSome T xs us ws
    some_later step [] us vs ws e h = absurd h
    some_later step (x ∷ xs) [] vs ws e h = absurd e
    some_later step (x ∷ xs) (u ∷ us) [] ws e h = absurd e
    some_later step (x ∷ xs) (u ∷ us) (v ∷ vs) [] e h = absurd h
    some_later step (x ∷ xs) (u ∷ us) (v ∷ vs) (w ∷ ws) e (inl h) = inl (step x u v w e.0 h)
    some_later step (x ∷ xs) (u ∷ us) (v ∷ vs) (w ∷ ws) e (inr h) = inr (some_later step xs us vs ws e.1 h)

  module _ (R S T : X → A → A → Type 0) where
    -- each, one step after another
    pub each_then : ((x : X) (u v w : A) → R x u v → S x v w → T x u w) → (xs : List X) (us vs ws : List A) → Each R xs us vs → Each S xs vs ws → Each T xs us ws
    each_then step [] [] [] [] h e = tt
    each_then step [] [] [] (w ∷ ws) h e = absurd e
    each_then step [] [] (v ∷ vs) ws h e = absurd h
    each_then step [] (u ∷ us) vs ws h e = absurd h
    each_then step (x ∷ xs) [] vs ws h e = absurd h
    each_then step (x ∷ xs) (u ∷ us) [] ws h e = absurd h
    each_then step (x ∷ xs) (u ∷ us) (v ∷ vs) [] h e = absurd e
    each_then step (x ∷ xs) (u ∷ us) (v ∷ vs) (w ∷ ws) h e = (step x u v w h.0 e.0, each_then step xs us vs ws h.1 e.1)

  module _ (R S : X → A → A → Type 0) where
    -- none of the first
    pub first_none : (xs : List X) (us vs : List A) → Each S xs us vs → First R S zero xs us vs
    first_none [] [] [] h = tt
    first_none [] [] (v ∷ vs) h = absurd h
    first_none [] (u ∷ us) vs h = absurd h
    first_none (x ∷ xs) [] vs h = absurd h
    first_none (x ∷ xs) (u ∷ us) [] h = absurd h
    first_none (x ∷ xs) (u ∷ us) (v ∷ vs) h = (h.0, first_none xs us vs h.1)

    -- one more of the first
    pub first_more : (n : ℕ) (xs : List X) (us vs : List A) (x : X) (v w : A) → ((u : A) → S x u v → R x u w) → slice_get xs n ≡ Some x → slice_get vs n ≡ Some v → First R S n xs us vs → First R S (suc n) xs us (set vs n w)
    first_more n [] us vs x v w step at there h = absurd cc
    first_more n (y ∷ xs) us [] x v w step at there h = absurd cc
    first_more zero (y ∷ xs) [] (z ∷ vs) x v w step at there h = absurd h
    first_more (suc n) (y ∷ xs) [] (z ∷ vs) x v w step at there h = absurd h
    first_more zero (y ∷ xs) (u ∷ us) (z ∷ vs) x v w step at there h =
        let e : y ≡ x = cc in
        let f : z ≡ v = cc in
        let here : S x u v = subst (λ (p : X × A). S p.0 u p.1) (λ i. (e i, f i)) h.0 in
        (subst (λ (p : X). R p u w) (sym e) (step u here), h.1)
    first_more (suc n) (y ∷ xs) (u ∷ us) (z ∷ vs) x v w step at there h = (h.0, first_more n xs us vs x v w step at there h.1)

    -- the same, where only that one has changed
    pub first_one : ((x : X) (u v w : A) → S x u v → R x v w → R x u w) → (n : ℕ) (xs : List X) (us vs ws : List A) → First R S n xs us vs → OneAt n R xs vs ws → First R S (n + 1) xs us ws
    first_one step n xs us vs ws h o =
        let next : suc n ≡ n + 1 = omega arith in
        subst (λ (m : ℕ). First R S m xs us ws) next
        (subst (λ (l : List A). First R S (suc n) xs us l) (sym o.after_is)
        (first_more n xs us vs o.partner o.before o.after (λ u was. step o.partner u o.before o.after was o.so) o.partner_is o.before_is h))

    -- all of them
    pub first_all : (n : ℕ) (xs : List X) (us vs : List A) → length xs ≤ n → First R S n xs us vs → Each R xs us vs
    first_all n [] [] [] long h = tt
    first_all n [] [] (v ∷ vs) long h = absurd h
    first_all n [] (u ∷ us) vs long h = absurd h
    first_all zero (x ∷ xs) us vs long h = absurd (omega (arith, long))
    first_all (suc n) (x ∷ xs) [] vs long h = absurd h
    first_all (suc n) (x ∷ xs) (u ∷ us) [] long h = absurd h
    first_all (suc n) (x ∷ xs) (u ∷ us) (v ∷ vs) long h = (h.0, first_all n xs us vs (omega (arith, long)) h.1)

  module _ (R S T P : X → A → A → Type 0) where
    -- the first are as they were, and the others too, as each goes on
    pub first_keep : ((x : X) (u v w : A) → R x u v → T x v w → R x u w) → ((x : X) (u v w : A) → S x u v → T x v w → S x u w) → (n : ℕ) (xs : List X) (us vs ws : List A) → First R S n xs us vs → Each T xs vs ws → First R S n xs us ws
    first_keep rt st n [] [] [] [] h e = h
    first_keep rt st n [] [] [] (w ∷ ws) h e = absurd e
    first_keep rt st n [] [] (v ∷ vs) ws h e = absurd h
    first_keep rt st n [] (u ∷ us) vs ws h e = absurd h
    first_keep rt st zero (x ∷ xs) [] vs ws h e = absurd h
    first_keep rt st (suc n) (x ∷ xs) [] vs ws h e = absurd h
    first_keep rt st zero (x ∷ xs) (u ∷ us) [] ws h e = absurd h
    first_keep rt st (suc n) (x ∷ xs) (u ∷ us) [] ws h e = absurd h
    first_keep rt st n (x ∷ xs) (u ∷ us) (v ∷ vs) [] h e = absurd e
    first_keep rt st zero (x ∷ xs) (u ∷ us) (v ∷ vs) (w ∷ ws) h e = (st x u v w h.0 e.0, first_keep rt st zero xs us vs ws h.1 e.1)
    first_keep rt st (suc n) (x ∷ xs) (u ∷ us) (v ∷ vs) (w ∷ ws) h e = (rt x u v w h.0 e.0, first_keep rt st n xs us vs ws h.1 e.1)

    -- one more of the first, of which more is so
    pub first_step : ((x : X) (u v w : A) → R x u v → T x v w → R x u w) → ((x : X) (u v w : A) → S x u v → T x v w → S x u w) → ((x : X) (u v w : A) → S x u v → T x v w → P x v w → R x u w)
        → (n : ℕ) (xs : List X) (us vs ws : List A) → First R S n xs us vs → Each T xs vs ws → IsAt n P xs vs ws → First R S (suc n) xs us ws
    first_step rt st sp n [] us vs ws h e o = absurd (let bad = o.partner_is in cc)
    first_step rt st sp zero (x ∷ xs) [] vs ws h e o = absurd h
    first_step rt st sp (suc n) (x ∷ xs) [] vs ws h e o = absurd h
    first_step rt st sp zero (x ∷ xs) (u ∷ us) [] ws h e o = absurd h
    first_step rt st sp (suc n) (x ∷ xs) (u ∷ us) [] ws h e o = absurd h
    first_step rt st sp n (x ∷ xs) (u ∷ us) (v ∷ vs) [] h e o = absurd e
    first_step rt st sp zero (x ∷ xs) (u ∷ us) (v ∷ vs) (w ∷ ws) h e o =
        let a : x ≡ o.partner = (let is = o.partner_is in cc) in
        let b : v ≡ o.before = (let is = o.before_is in cc) in
        let c : w ≡ o.after = (let is = o.after_is in cc) in
        let so : P x v w = subst (λ (z : X × A × A). P z.0 z.1 z.2) (λ i. (sym a i, sym b i, sym c i)) o.so in
        (sp x u v w h.0 e.0 so, first_keep rt st zero xs us vs ws h.1 e.1)
    first_step rt st sp (suc n) (x ∷ xs) (u ∷ us) (v ∷ vs) (w ∷ ws) h e o =
        (rt x u v w h.0 e.0, first_step rt st sp n xs us vs ws h.1 e.1 (record { partner = o.partner; before = o.before; after = o.after; partner_is = o.partner_is; before_is = o.before_is; after_is = o.after_is; so = o.so }))

  -- the one of which this is so is one of them
  pub some_at : (P : X → A → A → Type 0) (n : ℕ) (xs : List X) (us vs : List A) → IsAt n P xs us vs → AtSome P xs us vs
  some_at P n [] us vs o = absurd (let bad = o.partner_is in cc)
  some_at P n (x ∷ xs) [] vs o = absurd (let bad = o.before_is in cc)
  some_at P n (x ∷ xs) (u ∷ us) [] o = absurd (let bad = o.after_is in cc)
  some_at P zero (x ∷ xs) (u ∷ us) (v ∷ vs) o =
      let a : x ≡ o.partner = (let is = o.partner_is in cc) in
      let b : u ≡ o.before = (let is = o.before_is in cc) in
      let c : v ≡ o.after = (let is = o.after_is in cc) in
      inl (subst (λ (z : X × A × A). P z.0 z.1 z.2) (λ i. (sym a i, sym b i, sym c i)) o.so)
  some_at P (suc n) (x ∷ xs) (u ∷ us) (v ∷ vs) o =
      inr (some_at P n xs us vs (record { partner = o.partner; before = o.before; after = o.after; partner_is = o.partner_is; before_is = o.before_is; after_is = o.after_is; so = o.so }))

  module _ (P Q : X → A → A → Type 0) where
    -- what is so of the one that has changed
    pub one_at : ((x : X) (u v : A) → P x u v → Q x u v) → (place : ℕ) (xs : List X) (us vs : List A) → OneAt place P xs us vs → IsAt place Q xs us vs
    one_at step place xs us vs o = record {
      partner = o.partner;
      before = o.before;
      after = o.after;
      partner_is = o.partner_is;
      before_is = o.before_is;
      after_is = subst (λ (l : List A). slice_get l place ≡ Some o.after) (sym o.after_is) (set_there place us o.before o.after o.before_is);
      so = step o.partner o.before o.after o.so;
    }

  -- what an element is now
  pub each_forth : (R : X → A → A → Type 0) (i : ℕ) (xs : List X) (us vs : List A) (x : X) (u : A) → Each R xs us vs → slice_get xs i ≡ Some x → slice_get us i ≡ Some u → (v : A) × (slice_get vs i ≡ Some v) × R x u v
  each_forth R i [] us vs x u h at there = absurd cc
  each_forth R i (y ∷ xs) [] vs x u h at there = absurd cc
  each_forth R i (y ∷ xs) (w ∷ us) [] x u h at there = absurd h
  each_forth R zero (y ∷ xs) (w ∷ us) (z ∷ vs) x u h at there =
      let e : y ≡ x = cc in
      let f : w ≡ u = cc in
      (z, refl, subst (λ (p : X × A). R p.0 p.1 z) (λ i. (e i, f i)) h.0)
  each_forth R (suc i) (y ∷ xs) (w ∷ us) (z ∷ vs) x u h at there = each_forth R i xs us vs x u h.1 at there

  module _ (P Q : X → A → A → Type 0) where
    -- more is so of the one at a place
    pub at_so : ((x : X) (u v : A) → P x u v → Q x u v) → (place : ℕ) (xs : List X) (us vs : List A) → IsAt place P xs us vs → IsAt place Q xs us vs
    at_so step place xs us vs o = record { partner = o.partner; before = o.before; after = o.after; partner_is = o.partner_is; before_is = o.before_is; after_is = o.after_is; so = step o.partner o.before o.after o.so }

  module _ (P T R : X → A → A → Type 0) where
    -- the one at a place, as each goes on
    pub at_then : ((x : X) (u v w : A) → P x u v → T x v w → R x u w) → (place : ℕ) (xs : List X) (us vs ws : List A) → IsAt place P xs us vs → Each T xs vs ws → IsAt place R xs us ws
    at_then step place xs us vs ws o each =
        let next = each_forth T place xs vs ws o.partner o.after each o.partner_is o.after_is in
        record { partner = o.partner; before = o.before; after = next.0; partner_is = o.partner_is; before_is = o.before_is; after_is = next.1; so = step o.partner o.before o.after next.0 o.so next.2 }

  module _ (P Q : X → A → A → Type 0) where
    -- more is so of each
    pub each_so : ((x : X) (u v : A) → P x u v → Q x u v) → (xs : List X) (us vs : List A) → Each P xs us vs → Each Q xs us vs
    each_so step [] [] [] h = tt
    each_so step [] [] (v ∷ vs) h = absurd h
    each_so step [] (u ∷ us) vs h = absurd h
    each_so step (x ∷ xs) [] vs h = absurd h
    each_so step (x ∷ xs) (u ∷ us) [] h = absurd h
    each_so step (x ∷ xs) (u ∷ us) (v ∷ vs) h = (step x u v h.0, each_so step xs us vs h.1)

  module _ {D : Type 0} (f : X → A → List D) where
    -- what one comes to besides is what all come to besides
    pub total_one : (i : ℕ) (xs : List X) (us : List A) (x : X) (u v : A) (more : List D) → slice_get xs i ≡ Some x → slice_get us i ≡ Some u → SameBag (f x v) (f x u ++ more) → SameBag (total_of f xs (set us i v)) (total_of f xs us ++ more)
    total_one i [] us x u v more at there is t = absurd cc
    total_one i (y ∷ xs) [] x u v more at there is t = absurd cc
    total_one zero (y ∷ xs) (w ∷ us) x u v more at there is t =
        let e : x ≡ y = cc in
        let g : u ≡ w = cc in
        let m : sum_by t (f y v) ≡ sum_by t (f y w ++ more) = subst (λ (z : X × A). sum_by t (f z.0 v) ≡ sum_by t (f z.0 z.1 ++ more)) (λ i. (e i, g i)) (is t) in
        let a = sum_by-append t (f y v) (total_of f xs us) in
        let b = sum_by-append t (f y w) more in
        let c = sum_by-append t (f y w) (total_of f xs us) in
        let d = sum_by-append t (f y w ++ total_of f xs us) more in
        omega (arith, m, a, b, c, d)
    total_one (suc i) (y ∷ xs) (w ∷ us) x u v more at there is t =
        let m = total_one i xs us x u v more at there is t in
        let a = sum_by-append t (f y w) (total_of f xs (set us i v)) in
        let b = sum_by-append t (f y w) (total_of f xs us) in
        let c = sum_by-append t (total_of f xs us) more in
        let d = sum_by-append t (f y w ++ total_of f xs us) more in
        omega (arith, m, a, b, c, d)
