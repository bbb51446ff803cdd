-- Laws of seats that are split off and joined.
use Rattle.std.proofs.Common.{ℕ, zero, suc, ◌≡◌, ◌+◌, ◌-◌, List, [], ◌∷◌, ◌++◌, Option, Some, refl, ap, subst, ◌∙◌, arith}
use Rattle.std.specs.Prelude.{slice_get}
use Rattle.std.proofs.lemmas.List.Sums.{sum_by-append}
use Rattle.atomic_table.specs.Seated.{TableId}
use Rattle.atomic_table.specs.declared.shared.Seat.{Seat}
use Rattle.wc_base.specs.declared.seat.View.{View}
use Rattle.codec_accounts.specs.Bags.{SameBag}
use Rattle.seat_lock.specs.Seats.{Sitting, IsIdleAt}
use Rattle.codec_logs.specs.declared.event.Event.{Event}
use Rattle.shared_codec.specs.Shared.{Shared}
use Rattle.codec_desk.specs.declared.desk.Desk.{Desk}
use Rattle.codec_desk.specs.declared.desk.Seats.{Seats}
use Rattle.codec_desk.specs.Desks.{SitsAt, SeesMore, SitAt, Settled}
use Rattle.codec_desk.specs.Each.{Pairs, Each, total_of}
use Rattle.desk_threads.specs.Parts.{EachOfThree, IsSplit, IsJoin, EachHas, HaveParts, AreSplit, AreTakenIn}

-- ---- lists

module _ {X A : Type 0} (R : X → A → A → A → Type 0) (Q : ℕ → X → A → Type 0) where
  -- what holds of a first element holds of the second, or of the third
  pub second_of : ((n : ℕ) (x : X) (u v w : A) → Q n x u → R x u v w → Q n x v) → (n : ℕ) (xs : List X) (us vs ws : List A) → Pairs Q n xs us → EachOfThree R xs us vs ws → Pairs Q n xs vs
  second_of step n [] [] [] [] p h = tt
  second_of step n [] [] [] (w ∷ ws) p h = absurd h
  second_of step n [] [] (v ∷ vs) ws p h = absurd h
  second_of step n [] (u ∷ us) vs ws p h = absurd h
  second_of step n (x ∷ xs) [] vs ws p h = absurd h
  second_of step n (x ∷ xs) (u ∷ us) [] ws p h = absurd h
  second_of step n (x ∷ xs) (u ∷ us) (v ∷ vs) [] p h = absurd h
  second_of step n (x ∷ xs) (u ∷ us) (v ∷ vs) (w ∷ ws) p h = (step n x u v w p.0 h.0, second_of step (suc n) xs us vs ws p.1 h.1)

  pub third_of : ((n : ℕ) (x : X) (u v w : A) → Q n x u → R x u v w → Q n x w) → (n : ℕ) (xs : List X) (us vs ws : List A) → Pairs Q n xs us → EachOfThree R xs us vs ws → Pairs Q n xs ws
  third_of step n [] [] [] [] p h = tt
  third_of step n [] [] [] (w ∷ ws) p h = absurd h
  third_of step n [] [] (v ∷ vs) ws p h = absurd h
  third_of step n [] (u ∷ us) vs ws p h = absurd h
  third_of step n (x ∷ xs) [] vs ws p h = absurd h
  third_of step n (x ∷ xs) (u ∷ us) [] ws p h = absurd h
  third_of step n (x ∷ xs) (u ∷ us) (v ∷ vs) [] p h = absurd h
  third_of step n (x ∷ xs) (u ∷ us) (v ∷ vs) (w ∷ ws) p h = (step n x u v w p.0 h.0, third_of step (suc n) xs us vs ws p.1 h.1)

module _ {X A D : Type 0} (R : X → A → A → A → Type 0) (f : X → A → List D) where
  -- what all of them come to, where the second ones come to the same as the first
  pub total_second : ((x : X) (u v w : A) → R x u v w → f x v ≡ f x u) → (xs : List X) (us vs ws : List A) → EachOfThree R xs us vs ws → total_of f xs vs ≡ total_of f xs us
  total_second same [] us vs ws h = refl
  total_second same (x ∷ xs) [] [] ws h = refl
  total_second same (x ∷ xs) [] (v ∷ vs) ws h = absurd h
  total_second same (x ∷ xs) (u ∷ us) [] ws h = absurd h
  total_second same (x ∷ xs) (u ∷ us) (v ∷ vs) [] h = absurd h
  total_second same (x ∷ xs) (u ∷ us) (v ∷ vs) (w ∷ ws) h = (λ i. same x u v w h.0 i ++ total_second same xs us vs ws h.1 i)

  -- where the third ones come to nothing
  pub total_third : ((x : X) (u v w : A) → R x u v w → f x w ≡ []) → (xs : List X) (us vs ws : List A) → EachOfThree R xs us vs ws → total_of f xs ws ≡ []
  total_third none [] us vs ws h = refl
  total_third none (x ∷ xs) us vs [] h = refl
  total_third none (x ∷ xs) [] vs (w ∷ ws) h = absurd h
  total_third none (x ∷ xs) (u ∷ us) [] (w ∷ ws) h = absurd h
  total_third none (x ∷ xs) (u ∷ us) (v ∷ vs) (w ∷ ws) h = (λ i. none x u v w h.0 i ++ total_third none xs us vs ws h.1 i)

  -- where each third one comes to what the other two come to
  pub total_both : ((x : X) (u v w : A) → R x u v w → SameBag (f x w) (f x u ++ f x v)) → (xs : List X) (us vs ws : List A) → EachOfThree R xs us vs ws → SameBag (total_of f xs ws) (total_of f xs us ++ total_of f xs vs)
  total_both step [] us vs ws h t = refl
  total_both step (x ∷ xs) [] [] [] h t = refl
  total_both step (x ∷ xs) [] [] (w ∷ ws) h t = absurd h
  total_both step (x ∷ xs) [] (v ∷ vs) ws h t = absurd h
  total_both step (x ∷ xs) (u ∷ us) [] ws h t = absurd h
  total_both step (x ∷ xs) (u ∷ us) (v ∷ vs) [] h t = absurd h
  total_both step (x ∷ xs) (u ∷ us) (v ∷ vs) (w ∷ ws) h t =
      let one = step x u v w h.0 t in
      let rest = total_both step xs us vs ws h.1 t in
      let a = sum_by-append t (f x u) (f x v) in
      let b = sum_by-append t (total_of f xs us) (total_of f xs vs) in
      let c = sum_by-append t (f x w) (total_of f xs ws) in
      let d = sum_by-append t (f x u) (total_of f xs us) in
      let e = sum_by-append t (f x v) (total_of f xs vs) in
      let g = sum_by-append t (f x u ++ total_of f xs us) (f x v ++ total_of f xs vs) in
      omega (arith, one, rest, a, b, c, d, e, g)

-- ---- one seat

module _ {S E : Type 0} where
  pub left_idle : (id : TableId) (a b n : Seat (Option S) (View E)) → IsIdleAt id a → IsSplit id a b n → IsIdleAt id b
  left_idle id a b n idle split =
      let m : b.me ≡ _ = split.left.1 in
      (split.left.0.0 ∙ idle.0, (ap (λ (x : Sitting S E). x.0.phase) m ∙ idle.1.0, ap (λ (x : Sitting S E). x.1) m))

  pub new_idle : (id : TableId) (a b n : Seat (Option S) (View E)) → IsSplit id a b n → IsIdleAt id n
  new_idle id a b n split =
      let m = split.new.view in
      (split.at, (ap (λ (x : Sitting S E). x.0.phase) m, ap (λ (x : Sitting S E). x.1) m))

  pub left_claims : (id : TableId) (a b n : Seat (Option S) (View E)) → a.me.0.claims ≡ [] → IsSplit id a b n → b.me.0.claims ≡ []
  left_claims id a b n none split = ap (λ (x : Sitting S E). x.0.claims) split.left.1 ∙ none

  pub new_claims : (id : TableId) (a b n : Seat (Option S) (View E)) → IsSplit id a b n → n.me.0.claims ≡ []
  new_claims id a b n split = ap (λ (x : Sitting S E). x.0.claims) split.new.view

  pub join_idle : (id : TableId) (a o b : Seat (Option S) (View E)) → IsIdleAt id a → IsJoin a o b → IsIdleAt id b
  join_idle id a o b idle join =
      let m = join.both.view in
      (join.same.0 ∙ idle.0, (ap (λ (x : Sitting S E). x.0.phase) m, ap (λ (x : Sitting S E). x.1) m))

  pub join_claims : (a o b : Seat (Option S) (View E)) → a.me.0.claims ≡ [] → o.me.0.claims ≡ [] → IsJoin a o b → b.me.0.claims ≡ []
  join_claims a o b none other join = ap (λ (x : Sitting S E). x.0.claims) join.both.view ∙ (λ i. none i ++ other i)

  pub left_parts : (id : TableId) (n : ℕ) (a b c : Seat (Option S) (View E)) → a.me.0.parts ≡ n → IsSplit id a b c → b.me.0.parts ≡ n - 1
  left_parts id n a b c is split = ap (λ (x : Sitting S E). x.0.parts) split.left.1 ∙ ap (λ (k : ℕ). k - 1) is

  pub new_parts : (id : TableId) (a b n : Seat (Option S) (View E)) → IsSplit id a b n → n.me.0.parts ≡ 1
  new_parts id a b n split = ap (λ (x : Sitting S E). x.0.parts) split.new.view

  pub join_parts : (m n : ℕ) (a o b : Seat (Option S) (View E)) → a.me.0.parts ≡ m → o.me.0.parts ≡ n → IsJoin a o b → b.me.0.parts ≡ m + n
  join_parts m n a o b is other join = ap (λ (x : Sitting S E). x.0.parts) join.both.view ∙ (λ i. is i + other i)

  -- the parts of one of some seats
  pub has_get : (n i : ℕ) (us : List (Seat (Option S) (View E))) (u : Seat (Option S) (View E)) → EachHas n us → slice_get us i ≡ Some u → u.me.0.parts ≡ n
  has_get n i [] u h at = absurd cc
  has_get n zero (w ∷ us) u h at = let e : w ≡ u = cc in subst (λ (s : Seat (Option S) (View E)). s.me.0.parts ≡ n) e h.0
  has_get n (suc i) (w ∷ us) u h at = has_get n i us u h.1 at

module _ {S : Type 0} where
  each_left : (n : ℕ) (xs : List Shared) (us vs ws : List (Seat (Option S) (View Event))) → EachHas n us → EachOfThree (λ s u v w. IsSplit s.id u v w) xs us vs ws → EachHas (n - 1) vs
  each_left n [] [] [] [] p h = tt
  each_left n [] [] [] (w ∷ ws) p h = absurd h
  each_left n [] [] (v ∷ vs) ws p h = absurd h
  each_left n [] (u ∷ us) vs ws p h = absurd h
  each_left n (x ∷ xs) [] vs ws p h = absurd h
  each_left n (x ∷ xs) (u ∷ us) [] ws p h = absurd h
  each_left n (x ∷ xs) (u ∷ us) (v ∷ vs) [] p h = absurd h
  each_left n (x ∷ xs) (u ∷ us) (v ∷ vs) (w ∷ ws) p h = (left_parts x.id n u v w p.0 h.0, each_left n xs us vs ws p.1 h.1)

  each_new : (xs : List Shared) (us vs ws : List (Seat (Option S) (View Event))) → EachOfThree (λ s u v w. IsSplit s.id u v w) xs us vs ws → EachHas 1 ws
  each_new [] [] [] [] h = tt
  each_new [] [] [] (w ∷ ws) h = absurd h
  each_new [] [] (v ∷ vs) ws h = absurd h
  each_new [] (u ∷ us) vs ws h = absurd h
  each_new (x ∷ xs) [] vs ws h = absurd h
  each_new (x ∷ xs) (u ∷ us) [] ws h = absurd h
  each_new (x ∷ xs) (u ∷ us) (v ∷ vs) [] h = absurd h
  each_new (x ∷ xs) (u ∷ us) (v ∷ vs) (w ∷ ws) h = (new_parts x.id u v w h.0, each_new xs us vs ws h.1)

  each_join : (m n : ℕ) (xs : List Shared) (us vs ws : List (Seat (Option S) (View Event))) → EachHas m us → EachHas n vs → EachOfThree (λ s u v w. IsJoin u v w) xs us vs ws → EachHas (m + n) ws
  each_join m n [] [] [] [] p q h = tt
  each_join m n [] [] [] (w ∷ ws) p q h = absurd h
  each_join m n [] [] (v ∷ vs) ws p q h = absurd h
  each_join m n [] (u ∷ us) vs ws p q h = absurd h
  each_join m n (x ∷ xs) [] vs ws p q h = absurd h
  each_join m n (x ∷ xs) (u ∷ us) [] ws p q h = absurd h
  each_join m n (x ∷ xs) (u ∷ us) (v ∷ vs) [] p q h = absurd h
  each_join m n (x ∷ xs) (u ∷ us) (v ∷ vs) (w ∷ ws) p q h = (join_parts m n u v w p.0 q.0 h.0, each_join m n xs us vs ws p.1 q.1 h.1)

  each_keeps : (n : ℕ) (xs : List Shared) (us vs : List (Seat (Option S) (View Event))) → EachHas n us → Each SeesMore xs us vs → EachHas n vs
  each_keeps n [] [] [] p h = tt
  each_keeps n [] [] (v ∷ vs) p h = absurd h
  each_keeps n [] (u ∷ us) vs p h = absurd h
  each_keeps n (x ∷ xs) [] vs p h = absurd h
  each_keeps n (x ∷ xs) (u ∷ us) [] p h = absurd h
  each_keeps n (x ∷ xs) (u ∷ us) (v ∷ vs) p h = (h.0.kept.parts ∙ p.0, each_keeps n xs us vs p.1 h.1)

  left_sits : (pool slots : TableId) (n : ℕ) (s : Shared) (u v w : Seat (Option S) (View Event)) → SitsAt pool slots n s u → IsSplit s.id u v w → SitsAt pool slots n s v
  left_sits pool slots n s u v w at split = record { number = at.number; pool_is = at.pool_is; slots_is = at.slots_is; idle = left_idle s.id u v w at.idle split }

  new_sits : (pool slots : TableId) (n : ℕ) (s : Shared) (u v w : Seat (Option S) (View Event)) → SitsAt pool slots n s u → IsSplit s.id u v w → SitsAt pool slots n s w
  new_sits pool slots n s u v w at split = record { number = at.number; pool_is = at.pool_is; slots_is = at.slots_is; idle = new_idle s.id u v w split }

  join_sits : (pool slots : TableId) (n : ℕ) (s : Shared) (u v w : Seat (Option S) (View Event)) → SitsAt pool slots n s u → IsJoin u v w → SitsAt pool slots n s w
  join_sits pool slots n s u v w at join = record { number = at.number; pool_is = at.pool_is; slots_is = at.slots_is; idle = join_idle s.id u v w at.idle join }

-- ---- a thread's seats

module _ {C : Type 0} where
  pub sit_left : (desk : Desk C) (a b n : Seats C) → SitAt desk a → AreSplit desk a b n → SitAt desk b
  sit_left desk a b n at split = record {
    codecs = second_of (λ s u v w. IsSplit s.id u v w) (SitsAt desk.pool desk.slots.id) (left_sits desk.pool desk.slots.id) 0 desk.codecs.items a.codecs.items b.codecs.items n.codecs.items at.codecs split.codecs;
    pool = (left_idle desk.pool a.pool b.pool n.pool at.pool.0 split.pool, left_claims desk.pool a.pool b.pool n.pool at.pool.1 split.pool);
    slots = (left_idle desk.slots.id a.slots b.slots n.slots at.slots.0 split.slots, left_claims desk.slots.id a.slots b.slots n.slots at.slots.1 split.slots);
  }

  pub sit_new : (desk : Desk C) (a b n : Seats C) → SitAt desk a → AreSplit desk a b n → SitAt desk n
  sit_new desk a b n at split = record {
    codecs = third_of (λ s u v w. IsSplit s.id u v w) (SitsAt desk.pool desk.slots.id) (new_sits desk.pool desk.slots.id) 0 desk.codecs.items a.codecs.items b.codecs.items n.codecs.items at.codecs split.codecs;
    pool = (new_idle desk.pool a.pool b.pool n.pool split.pool, new_claims desk.pool a.pool b.pool n.pool split.pool);
    slots = (new_idle desk.slots.id a.slots b.slots n.slots split.slots, new_claims desk.slots.id a.slots b.slots n.slots split.slots);
  }

  pub sit_joined : (desk : Desk C) (a o b : Seats C) → SitAt desk a → SitAt desk o → AreTakenIn desk a o b → SitAt desk b
  sit_joined desk a o b at other join = record {
    codecs = third_of (λ s u v w. IsJoin u v w) (SitsAt desk.pool desk.slots.id) (join_sits desk.pool desk.slots.id) 0 desk.codecs.items a.codecs.items o.codecs.items b.codecs.items at.codecs join.codecs;
    pool = (join_idle desk.pool a.pool o.pool b.pool at.pool.0 join.pool, join_claims a.pool o.pool b.pool at.pool.1 other.pool.1 join.pool);
    slots = (join_idle desk.slots.id a.slots o.slots b.slots at.slots.0 join.slots, join_claims a.slots o.slots b.slots at.slots.1 other.slots.1 join.slots);
  }

  pub parts_left : (desk : Desk C) (k : ℕ) (a b n : Seats C) → HaveParts k a → AreSplit desk a b n → HaveParts (k - 1) b
  parts_left desk k a b n has split = record {
    codecs = each_left k desk.codecs.items a.codecs.items b.codecs.items n.codecs.items has.codecs split.codecs;
    pool = left_parts desk.pool k a.pool b.pool n.pool has.pool split.pool;
    slots = left_parts desk.slots.id k a.slots b.slots n.slots has.slots split.slots;
  }

  pub parts_new : (desk : Desk C) (a b n : Seats C) → AreSplit desk a b n → HaveParts 1 n
  parts_new desk a b n split = record {
    codecs = each_new desk.codecs.items a.codecs.items b.codecs.items n.codecs.items split.codecs;
    pool = new_parts desk.pool a.pool b.pool n.pool split.pool;
    slots = new_parts desk.slots.id a.slots b.slots n.slots split.slots;
  }

  pub parts_joined : (desk : Desk C) (k l : ℕ) (a o b : Seats C) → HaveParts k a → HaveParts l o → AreTakenIn desk a o b → HaveParts (k + l) b
  parts_joined desk k l a o b has other join = record {
    codecs = each_join k l desk.codecs.items a.codecs.items o.codecs.items b.codecs.items has.codecs other.codecs join.codecs;
    pool = join_parts k l a.pool o.pool b.pool has.pool other.pool join.pool;
    slots = join_parts k l a.slots o.slots b.slots has.slots other.slots join.slots;
  }

  -- whatever a thread settles, its seats have as many parts
  pub parts_after : (desk : Desk C) (k : ℕ) (a b : Seats C) → HaveParts k a → Settled desk a b → HaveParts k b
  parts_after desk k a b has x = record {
    codecs = each_keeps k desk.codecs.items a.codecs.items b.codecs.items has.codecs x.seats;
    pool = x.pool_seat.parts ∙ has.pool;
    slots = x.slot_seat.parts ∙ has.slots;
  }
