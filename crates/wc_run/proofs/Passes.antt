-- Passes of ports that are split, joined and finished, one port after the other.
use Rattle.std.proofs.Common.{ℕ, zero, suc, ◌≡◌, ◌+◌, ◌-◌, ◌<◌, ◌≤◌, ◌⊎◌, inl, inr, List, [], ◌∷◌, ◌++◌, Some, length, length-append, length-set, set, refl, ap, sym, subst, ◌∙◌, arith}
use Rattle.std.specs.Prelude.{slice_get}
use Rattle.std.proofs.lemmas.Bool.{cases_lt}
use Rattle.std.proofs.lemmas.Option.{slice_get_within}
use Rattle.atomic_table.specs.Seated.{TableId}
use Rattle.codec_accounts.specs.ListLaws.{get_end, get_kept, get_more, get_some}
use Rattle.desk_callers.specs.Passes.{ArePasses, AreUnused, KeepParts}
use Rattle.shared_variables.specs.Ports.{WholeParcel}
use Rattle.shared_port.specs.declared.port.PortPass.{PortPass}
use Rattle.shared_port.specs.declared.rule.PortView.{PortView}
use Rattle.shared_port.specs.Ports.{PortId, IsPassOf, seen}
use Rattle.shared_port.specs.Views.{joined, less_part, one_part}
use Rattle.wc_base.specs.Options.{some_same}
use Rattle.wc_run.specs.Ports.{SplitPasses, JoinedPasses, PassesHave}

-- ---- lists of which one element after the other changes

module _ {A : Type 0} where
  -- the elements before this place became what they are by this, and the others are as they were
  pub record FirstDone (R : ℕ → A → A → Type 0) (k : ℕ) (us vs : List A) : Type 0 where
    pub many : length vs ≡ length us
    pub done : (q : ℕ) (u v : A) → q < k → slice_get us q ≡ Some u → slice_get vs q ≡ Some v → R q u v
    pub rest : (q : ℕ) → k ≤ q → slice_get vs q ≡ slice_get us q

  pub first_none : (R : ℕ → A → A → Type 0) (us : List A) → FirstDone R 0 us us
  first_none R us = record { many = refl; done = λ q u v lt at there. absurd (omega (arith, lt)); rest = λ q le. refl }

  set_here : (vs : List A) (k : ℕ) (u v : A) → slice_get vs k ≡ Some u → slice_get (set vs k v) k ≡ Some v
  set_here [] k u v there = absurd cc
  set_here (w ∷ vs) zero u v there = refl
  set_here (w ∷ vs) (suc k) u v there = set_here vs k u v there

  set_before : (vs : List A) (k q : ℕ) (v : A) → q < k → slice_get (set vs k v) q ≡ slice_get vs q
  set_before [] k q v lt = refl
  set_before (w ∷ vs) zero q v lt = absurd (omega (arith, lt))
  set_before (w ∷ vs) (suc k) zero v lt = refl
  set_before (w ∷ vs) (suc k) (suc q) v lt = set_before vs k q v (omega (arith, lt))

  set_behind : (vs : List A) (k q : ℕ) (v : A) → k < q → slice_get (set vs k v) q ≡ slice_get vs q
  set_behind [] k q v lt = refl
  set_behind (w ∷ vs) zero zero v lt = absurd (omega (arith, lt))
  set_behind (w ∷ vs) zero (suc q) v lt = refl
  set_behind (w ∷ vs) (suc k) zero v lt = absurd (omega (arith, lt))
  set_behind (w ∷ vs) (suc k) (suc q) v lt = set_behind vs k q v (omega (arith, lt))

  -- the element at this place was not changed yet
  pub first_there : (R : ℕ → A → A → Type 0) (k : ℕ) (us vs : List A) (u : A) → FirstDone R k us vs → slice_get vs k ≡ Some u → slice_get us k ≡ Some u
  first_there R k us vs u h there = sym (h.rest k (omega arith)) ∙ there

  -- one more
  pub first_more : (R : ℕ → A → A → Type 0) (k : ℕ) (us vs : List A) (u v : A) → FirstDone R k us vs → slice_get vs k ≡ Some u → R k u v → FirstDone R (k + 1) us (set vs k v)
  first_more R k us vs u v h there r = record {
    many = length-set vs k v ∙ h.many;
    done = λ q a b lt at now. (elim (cases_lt q k) [
      | inl before ↦ h.done q a b before at (sym (set_before vs k q v before) ∙ now)
      | inr past ↦ (
          let place : q ≡ k = omega (arith, lt, past) in
          let was : u ≡ a = some_same u a (sym (first_there R k us vs u h there) ∙ (ap (slice_get us) (sym place) ∙ at)) in
          let is : v ≡ b = some_same v b (sym (set_here vs k u v there) ∙ (ap (slice_get (set vs k v)) (sym place) ∙ now)) in
          subst (λ (z : ℕ × (A × A)). R z.0 z.1.0 z.1.1) (λ i. (sym place i, (was i, is i))) r
          )
    ]);
    rest = λ q le. set_behind vs k q v (omega (arith, le)) ∙ h.rest q (omega (arith, le));
  }

  -- all of them
  pub first_all : (R : ℕ → A → A → Type 0) (k : ℕ) (us vs : List A) → FirstDone R k us vs → length us ≤ k → (q : ℕ) (u v : A) → slice_get us q ≡ Some u → slice_get vs q ≡ Some v → R q u v
  first_all R k us vs h long q u v at there = (let lt = slice_get_within us q u at in h.done q u v (omega (arith, lt, long)) at there)

  -- the elements from this place on became what they are by this, and the others are as they were
  pub record LastDone (R : ℕ → A → A → Type 0) (k : ℕ) (us vs : List A) : Type 0 where
    pub many : length vs ≡ length us
    pub done : (q : ℕ) (u v : A) → k ≤ q → slice_get us q ≡ Some u → slice_get vs q ≡ Some v → R q u v
    pub rest : (q : ℕ) → q < k → slice_get vs q ≡ slice_get us q

  pub last_none : (R : ℕ → A → A → Type 0) (k : ℕ) (us : List A) → length us ≤ k → LastDone R k us us
  last_none R k us long = record { many = refl; done = λ q u v le at there. (let lt = slice_get_within us q u at in absurd (omega (arith, lt, le, long))); rest = λ q lt. refl }

  pub last_less : (R : ℕ → A → A → Type 0) (k n : ℕ) (us vs : List A) (u v : A) → n ≡ suc k → LastDone R n us vs → slice_get vs k ≡ Some u → R k u v → LastDone R k us (set vs k v)
  last_less R k n us vs u v next h there r = record {
    many = length-set vs k v ∙ h.many;
    done = λ q a b le at now. (elim (cases_lt k q) [
      | inl behind ↦ h.done q a b (omega (arith, next, behind)) at (sym (set_behind vs k q v behind) ∙ now)
      | inr here ↦ (
          let place : q ≡ k = omega (arith, le, here) in
          let was : u ≡ a = some_same u a (sym there ∙ (h.rest k (omega (arith, next)) ∙ (ap (slice_get us) (sym place) ∙ at))) in
          let is : v ≡ b = some_same v b (sym (set_here vs k u v there) ∙ (ap (slice_get (set vs k v)) (sym place) ∙ now)) in
          subst (λ (z : ℕ × (A × A)). R z.0 z.1.0 z.1.1) (λ i. (sym place i, (was i, is i))) r
          )
    ]);
    rest = λ q lt. set_before vs k q v lt ∙ h.rest q (omega (arith, next, lt));
  }

  -- the last element, and those before it
  pub end_there : (all front : List A) (x : A) → all ≡ front ++ x ∷ [] → slice_get all (length front) ≡ Some x
  end_there all front x is = ap (λ (l : List A). slice_get l (length front)) is ∙ get_end front x

  pub front_there : (all front : List A) (x : A) (q : ℕ) (u : A) → all ≡ front ++ x ∷ [] → slice_get front q ≡ Some u → slice_get all q ≡ Some u
  front_there all front x q u is at = ap (λ (l : List A). slice_get l q) is ∙ get_kept front (x ∷ []) q u at

  pub nothing_there : (xs : List A) (q : ℕ) (x : A) → length xs ≡ 0 → slice_get xs q ≡ Some x → ⊥
  nothing_there xs q x none at = (let lt = slice_get_within xs q x at in omega (arith, lt, none))

  -- the element at the same place of a list that is as long
  pub partner : {B : Type 0} (bs : List B) (us : List A) (q : ℕ) (b : B) → length us ≡ length bs → slice_get bs q ≡ Some b → (u : A) × (slice_get us q ≡ Some u)
  partner bs us q b many at = (let lt = slice_get_within bs q b at in get_some us q (omega (arith, lt, many)))

  -- what is so of each place and element, and of one more
  pub one_more : (P : ℕ → A → Type 0) (us : List A) (x : A) → ((q : ℕ) (u : A) → slice_get us q ≡ Some u → P q u) → P (length us) x → (q : ℕ) (u : A) → slice_get (us ++ x ∷ []) q ≡ Some u → P q u
  one_more P us x before new q u at = elim (get_more us x q u at) [
    | inl there ↦ before q u there
    | inr end ↦ subst (λ (z : ℕ × A). P z.0 z.1) (λ i. (sym end.0 i, sym end.1 i)) new
  ]

-- ---- passes

abbrev Pass : Type 0
Pass = PortPass WholeParcel

-- a port's pass, of which one part was split off, and the one that took in another
abbrev pub IsLeft : PortId → Pass → Pass → Type 0
IsLeft port p r = IsPassOf port r × (seen r ≡ less_part (seen p))

abbrev pub IsJoined : PortId → Pass → Pass → Pass → Type 0
IsJoined port o p r = IsPassOf port r × (seen r ≡ joined (seen p) (seen o))

-- the same of the port at a place
abbrev pub LeftAt : List PortId → ℕ → Pass → Pass → Type 0
LeftAt ports q p r = (port : PortId) → slice_get ports q ≡ Some port → IsLeft port p r

abbrev pub NewAt : List PortId → List Pass → ℕ → Pass → Type 0
NewAt ports was q r = (port : PortId) (p : Pass) → slice_get ports q ≡ Some port → slice_get was q ≡ Some p → IsPassOf port r × (seen r ≡ one_part (seen p))

abbrev pub JoinedAt : List PortId → List Pass → ℕ → Pass → Pass → Type 0
JoinedAt ports others q p r = (port : PortId) (o : Pass) → slice_get ports q ≡ Some port → slice_get others q ≡ Some o → IsJoined port o p r

module _ (pool : TableId) where
  pub no_passes : (ports : List PortId) (passes : List Pass) → ports ≡ [] → passes ≡ [] → ArePasses pool ports passes
  no_passes ports passes bare none = record {
    many = ap (λ (l : List Pass). length l) none ∙ sym (ap (λ (l : List PortId). length l) bare);
    each = λ q port p at there. absurd (nothing_there ports q port (ap (λ (l : List PortId). length l) bare) at);
    pool_is = λ q port at. absurd (nothing_there ports q port (ap (λ (l : List PortId). length l) bare) at);
  }

  -- one port more, with its pass
  pub passes_more : (ports : List PortId) (passes : List Pass) (port : PortId) (pass : Pass) → port.pool ≡ pool → IsPassOf port pass → ArePasses pool ports passes → ArePasses pool (ports ++ port ∷ []) (passes ++ pass ∷ [])
  passes_more ports passes port pass of new x = record {
    many = (let a = length-append passes (pass ∷ []) in let b = length-append ports (port ∷ []) in let c = x.many in omega (arith, a, b, c));
    each = λ q y p at there. one_more (λ r z. (t : Pass) → slice_get (passes ++ pass ∷ []) r ≡ Some t → IsPassOf z t) ports port (λ r z here t now. old r z here t (get_more passes pass r t now)) (λ t now. last t (get_more passes pass (length ports) t now)) q y at p there;
    pool_is = one_more (λ q y. y.pool ≡ pool) ports port x.pool_is of;
  }
    where
      old : (q : ℕ) (y : PortId) → slice_get ports q ≡ Some y → (p : Pass) → (slice_get passes q ≡ Some p) ⊎ ((q ≡ length passes) × (p ≡ pass)) → IsPassOf y p
      old q y at p (inl there) = x.each q y p at there
      old q y at p (inr end) = (let lt = slice_get_within ports q y at in let place = end.0 in let many = x.many in absurd (omega (arith, lt, place, many)))

      last : (p : Pass) → (slice_get passes (length ports) ≡ Some p) ⊎ ((length ports ≡ length passes) × (p ≡ pass)) → IsPassOf port p
      last p (inl there) = (let lt = slice_get_within passes (length ports) p there in let many = x.many in absurd (omega (arith, lt, many)))
      last p (inr end) = subst (IsPassOf port) (sym end.1) new

module _ (pool : TableId) (ports : List PortId) where
  -- where each is still a pass of its port
  pub passes_stay : (a b : List Pass) → ArePasses pool ports a → length b ≡ length ports → ((q : ℕ) (port : PortId) (p r : Pass) → slice_get ports q ≡ Some port → slice_get a q ≡ Some p → slice_get b q ≡ Some r → IsPassOf port r) → ArePasses pool ports b
  passes_stay a b x many h = record {
    many = many;
    each = λ q port r at there. (
        let as_long : length a ≡ length b = x.many ∙ sym many in
        let p = partner b a q r as_long there in
        h q port p.0 r at p.1 there
        );
    pool_is = x.pool_is;
  }

pub parts_left : (k : ℕ) (a b n : List Pass) → length a ≡ length b → SplitPasses a b n → PassesHave k a → PassesHave (k - 1) b
parts_left k a b n many x has q r at =
    let p = partner b a q r many at in
    ap (λ (v : PortView WholeParcel). v.parts) (x.left q p.0 r p.1 at) ∙ ap (λ (m : ℕ). m - 1) (has q p.0 p.1)

pub parts_new : (a b n : List Pass) → length a ≡ length n → SplitPasses a b n → PassesHave 1 n
parts_new a b n many x q r at =
    let p = partner n a q r many at in
    ap (λ (v : PortView WholeParcel). v.parts) (x.new q p.0 r p.1 at)

pub unused_left : (a b n : List Pass) → length a ≡ length b → SplitPasses a b n → AreUnused a → AreUnused b
unused_left a b n many x none q r at =
    let p = partner b a q r many at in
    let was = none q p.0 p.1 in
    let is = x.left q p.0 r p.1 at in
    (ap (λ (v : PortView WholeParcel). v.posted) is ∙ was.0, ap (λ (v : PortView WholeParcel). v.received) is ∙ was.1)

pub unused_new : (a b n : List Pass) → length a ≡ length n → SplitPasses a b n → AreUnused n
unused_new a b n many x q r at =
    let p = partner n a q r many at in
    let is = x.new q p.0 r p.1 at in
    (ap (λ (v : PortView WholeParcel). v.posted) is, ap (λ (v : PortView WholeParcel). v.received) is)

pub parts_joined : (k m : ℕ) (a o b : List Pass) → length a ≡ length b → length o ≡ length b → JoinedPasses a o b → PassesHave k a → PassesHave m o → PassesHave (k + m) b
parts_joined k m a o b many others x has other q u at =
    let p = partner b a q u many at in
    let r = partner b o q u others at in
    ap (λ (v : PortView WholeParcel). v.parts) (x.both q p.0 r.0 u p.1 r.1 at) ∙ (λ i. has q p.0 p.1 i + other q r.0 r.1 i)

pub parts_kept : (n : ℕ) (a b : List Pass) → length a ≡ length b → KeepParts a b → PassesHave n a → PassesHave n b
parts_kept n a b many x has q r at =
    let p = partner b a q r many at in
    x.parts q p.0 r p.1 at ∙ has q p.0 p.1

-- ---- of all ports

module _ (pool : TableId) (ports : List PortId) (a : List Pass) (x : ArePasses pool ports a) where
  -- the port of a pass
  port_of : (q : ℕ) (p : Pass) → slice_get a q ≡ Some p → (port : PortId) × (slice_get ports q ≡ Some port)
  port_of q p at = partner a ports q p (sym x.many) at

  pub left_at : (q : ℕ) (port : PortId) (p r : Pass) → slice_get ports q ≡ Some port → IsLeft port p r → LeftAt ports q p r
  left_at q port p r at h y there = subst (λ (z : PortId). IsLeft z p r) (some_same port y (sym at ∙ there)) h

  pub new_at : (q : ℕ) (port : PortId) (p r : Pass) → slice_get ports q ≡ Some port → slice_get a q ≡ Some p → IsPassOf port r × (seen r ≡ one_part (seen p)) → NewAt ports a q r
  new_at q port p r at was h y t there now = subst (λ (z : PortId × Pass). IsPassOf z.0 r × (seen r ≡ one_part (seen z.1))) (λ i. (some_same port y (sym at ∙ there) i, some_same p t (sym was ∙ now) i)) h

  pub joined_at : (others : List Pass) (q : ℕ) (port : PortId) (o p r : Pass) → slice_get ports q ≡ Some port → slice_get others q ≡ Some o → IsJoined port o p r → JoinedAt ports others q p r
  joined_at others q port o p r at other h y t there now = subst (λ (z : PortId × Pass). IsJoined z.0 z.1 p r) (λ i. (some_same port y (sym at ∙ there) i, some_same o t (sym other ∙ now) i)) h

  -- one part of each was split off
  module _ (b n : List Pass) (left : (q : ℕ) (p r : Pass) → slice_get a q ≡ Some p → slice_get b q ≡ Some r → LeftAt ports q p r) (new : (q : ℕ) (r : Pass) → slice_get n q ≡ Some r → NewAt ports a q r) where
    pub left_passes : length b ≡ length ports → ArePasses pool ports b
    left_passes many = passes_stay pool ports a b x many (λ q port p r at was now. (left q p r was now port at).0)

    pub new_passes : length n ≡ length ports → ArePasses pool ports n
    new_passes many = passes_stay pool ports a n x many (λ q port p r at was now. (new q r now port p at was).0)

    pub are_split : SplitPasses a b n
    are_split = record {
      left = λ q p r was now. (let y = port_of q p was in (left q p r was now y.0 y.1).1);
      new = λ q p r was now. (let y = port_of q p was in (new q r now y.0 p y.1 was).1);
    }

  -- each took in the other one
  module _ (o b : List Pass) (others : length o ≡ length ports) (both : (q : ℕ) (p r : Pass) → slice_get a q ≡ Some p → slice_get b q ≡ Some r → JoinedAt ports o q p r) where
    pub joined_passes : length b ≡ length ports → ArePasses pool ports b
    joined_passes many = passes_stay pool ports a b x many (λ q port p r at was now. (let w = partner a o q p (others ∙ sym x.many) was in (both q p r was now port w.0 at w.1).0))

    pub are_joined : JoinedPasses a o b
    are_joined = record { both = λ q p r u was other now. (let y = port_of q p was in (both q p u was now y.0 r y.1 other).1) }
