-- What the passes of one port know together: which deed received what which deed posted.
use Rattle.std.proofs.Common.{ℕ, zero, suc, ◌<◌, ◌≡◌, inl, inr, List, [], ◌∷◌, ◌++◌, length, Option, Some, None, refl, ap, sym, subst, ◌∙◌, arith}
use Rattle.std.specs.Prelude.{slice_get}
use Rattle.std.specs.List.{sum_by, flat_map}
use Rattle.std.proofs.lemmas.Bool.{cases_lt}
use Rattle.wc_base.specs.Options.{some_same}
use Rattle.wc_base.specs.declared.who.Who.{Who}
use Rattle.wc_chunk.specs.declared.chunk.Chunk.{Chunk}
use Rattle.codec_accounts.specs.Bags.{SameBag}
use Rattle.codec_accounts.specs.ListLaws.{get_kept, get_within, get_some, there}
use Rattle.codec_accounts.specs.Owed.{at}
use Rattle.script_types.specs.declared.script.ScriptData.{ScriptData}
use Rattle.media_variables.specs.Variables.{Received}
use Rattle.shared_port.specs.declared.rule.PortView.{PortView}
use Rattle.shared_port.specs.Views.{Posted, Placed, placed_from}
use Rattle.shared_variables.specs.Ports.{WholeParcel}
use Rattle.desk_callers.specs.Deeds.{Deed}
use Rattle.desk_callers.specs.PortDeeds.{KnowsDeeds, Gets, PostedAt, GotAt, FoundNothingAt, IsPlaced, carried}
use Rattle.port_laws.specs.PortAccounts.{PortMade}
use Rattle.port_laws.proofs.Weights.{IsAsHeavy, Stands, in_line, in_parts, in_one}
use Rattle.port_laws.proofs.Told.{numbers, told}

get_below : {X : Type 0} (l : List X) (n : ℕ) (x : X) → slice_get l n ≡ Some x → n < length l
get_below [] n x h = absurd cc
get_below (y ∷ ys) zero x h = omega arith
get_below (y ∷ ys) (suc n) x h = let r = get_below ys n x h in omega (arith, r)

-- ---- lines

abbrev View : Type 0
View = PortView WholeParcel

abbrev Line : Type 0
Line = List (Posted WholeParcel)

-- this stands in a line at this place
abbrev InLine : Line → ℕ → Received → Type 0
InLine line n p = (y : Who × WholeParcel) × ((slice_get line n ≡ Some y) × (carried y ≡ p))

same_carried : (x y : Who × WholeParcel) → IsAsHeavy x y → carried x ≡ carried y
same_carried x y h = told (carried x) (carried y) (λ t. h (λ z. t (carried z)))

same_time : (x y : Who × WholeParcel) → IsAsHeavy x y → x.1.time ≡ y.1.time
same_time x y h = numbers x.1.time y.1.time (λ t. h (λ z. t z.1.time))

-- `part` is what a view has of the line, as what it posted
module _ (part : View → List (Placed WholeParcel)) (views : List View) (line : Line) (bag : SameBag (flat_map part views) (placed_from 0 line)) where
  standing : (n : ℕ) (p : Received) (c : ℕ) (u : View) → slice_get views c ≡ Some u → (h : IsPlaced n p (part u)) → Stands part views line bag n h.1.0 c u
  standing n p c u has h = record { has = has; index = h.0; stands = h.1.1.0 }

  to_line : (n : ℕ) (p : Received) (c : ℕ) (u : View) → slice_get views c ≡ Some u → IsPlaced n p (part u) → InLine line n p
  to_line n p c u has h =
      let l = in_line part views line bag n h.1.0 c u (standing n p c u has h) in
      (l.0, (l.1.0, sym (same_carried h.1.0 l.0 l.1.1) ∙ h.1.1.1))

  -- it stands in one of the views
  from_line : (n : ℕ) (p : Received) → InLine line n p → (c : ℕ) × ((u : View) × ((slice_get views c ≡ Some u) × IsPlaced n p (part u)))
  from_line n p h =
      let f = in_parts part views line bag n h.0 h.1.0 in
      let s = f.1.1.1.0 in
      (f.0, (f.1.0, (s.has, (s.index, (f.1.1.0, (s.stands, same_carried f.1.1.0 h.0 f.1.1.1.1 ∙ h.1.1))))))

  only_one : (n : ℕ) (p r : Received) (c d : ℕ) (u v : View) → slice_get views c ≡ Some u → IsPlaced n p (part u) → slice_get views d ≡ Some v → IsPlaced n r (part v) → c ≡ d
  only_one n p r c d u v a h b k = elim (cases_lt c d) [
    | inl lt ↦ absurd (in_one part views line bag n h.1.0 k.1.0 c d u v (standing n p c u a h) (standing n r d v b k) lt)
    | inr le ↦ elim (cases_lt d c) [
      | inl lt ↦ absurd (in_one part views line bag n k.1.0 h.1.0 d c v u (standing n r d v b k) (standing n p c u a h) lt)
      | inr ge ↦ omega (arith, le, ge)
    ]
  ]

-- ---- deeds

module _ (s : ScriptData) (media : List (List Chunk)) (q : ℕ) (deeds : List (List Deed)) where
  -- by caller and step: a deed posted this, or received it; or it found nothing
  abbrev pub PostedBy : ℕ → ℕ → Received → Type 0
  PostedBy c i p = PostedAt s media q (at c deeds) i p

  abbrev pub GotBy : ℕ → ℕ → Received → Type 0
  GotBy c j p = GotAt s media q (at c deeds) j p

  abbrev pub FoundNothingBy : ℕ → ℕ → Type 0
  FoundNothingBy c j = FoundNothingAt s media q (at c deeds) j

  -- Each deed that posts or receives has its place in the port's line; those before `count` were received.
  pub record Matches : Type 0 where
    pub place : ℕ → ℕ → ℕ
    pub count : ℕ
    pub gave : (c j : ℕ) (p : Received) → GotBy c j p → (d : ℕ) × ((i : ℕ) × (PostedBy d i p × (place d i ≡ place c j)))
    pub within : (c j : ℕ) (p : Received) → GotBy c j p → place c j < count
    pub were : (c i : ℕ) (p : Received) → PostedBy c i p → place c i < count → (d : ℕ) × ((j : ℕ) × GotBy d j p)
    pub once : (c j d i : ℕ) (p r : Received) → GotBy c j p → GotBy d i r → place c j ≡ place d i → (c ≡ d) × (j ≡ i)
    pub posts_rise : (c i j : ℕ) (p r : Received) → i < j → PostedBy c i p → PostedBy c j r → place c i < place c j
    pub gets_rise : (c i j : ℕ) (p r : Received) → i < j → GotBy c i p → GotBy c j r → place c i < place c j
    pub nothing : (c i j : ℕ) (p : Received) → i < j → PostedBy c i p → FoundNothingBy c j → place c i < count

  -- what holds of a caller's pass, if there is one
  abbrev KnownBy : ℕ → Option View → Type 0
  KnownBy c None = Unit {0}
  KnownBy c (Some u) = KnowsDeeds s media q (at c deeds) u

  abbrev place_in : (c : ℕ) (o : Option View) → KnownBy c o → ℕ → ℕ
  place_in c None k j = 0
  place_in c (Some u) k j = k.place j

  -- a view knows the deeds by these places
  abbrev KnowsBy : ℕ → (ℕ → ℕ) → View → Type 0
  KnowsBy c place u = (k : KnowsDeeds s media q (at c deeds) u) × ((j : ℕ) → k.place j ≡ place j)

  known_in : (c : ℕ) (o : Option View) (k : KnownBy c o) (u : View) → o ≡ Some u → KnowsBy c (place_in c o k) u
  known_in c None k u is = absurd cc
  known_in c (Some v) k u is = subst (λ (w : View). KnowsBy c k.place w) (some_same v u is) (k, λ j. refl)

  module _ (made : PortMade s media q deeds) where
    found : (c : ℕ) (o : Option View) → slice_get made.views c ≡ o → KnownBy c o
    found c None e = tt
    found c (Some u) e = made.each c u e

    place_of : ℕ → ℕ → ℕ
    place_of c j = place_in c (slice_get made.views c) (found c (slice_get made.views c) refl) j

    known : (c : ℕ) (u : View) → slice_get made.views c ≡ Some u → KnowsBy c (place_of c) u
    unfolding place_of
    known c u is = known_in c (slice_get made.views c) (found c (slice_get made.views c) refl) u is

    -- a caller with a deed has a view
    view_of : (c j : ℕ) (d : Deed) → slice_get (at c deeds) j ≡ Some d → (u : View) × (slice_get made.views c ≡ Some u)
    view_of c j d is = elim (there c deeds) [
      | inl lt ↦ get_some made.views c (let m = made.many in omega (arith, lt, m))
      | inr none ↦ absurd (let e : slice_get {X = Deed} [] j ≡ Some d = subst (λ (l : List Deed). slice_get l j ≡ Some d) none is in cc)
    ]

    bag_posted : SameBag (flat_map (λ (u : View). u.posted) made.views) (placed_from 0 (made.got ++ made.left))
    bag_posted t = ap (sum_by t) (sym made.joined.posted) ∙ made.account.posted t

    bag_received : SameBag (flat_map (λ (u : View). u.received) made.views) (placed_from 0 made.got)
    bag_received t = ap (sum_by t) (sym made.joined.received) ∙ made.account.received t

    -- what a caller received and posted, in its view and in the line
    record GotThere (c j : ℕ) (p : Received) : Type 0 where
      pub view : View
      pub has : slice_get made.views c ≡ Some view
      pub placed : IsPlaced (place_of c j) p view.received

    got_there : (c j : ℕ) (p : Received) → GotBy c j p → GotThere c j p
    got_there c j p h =
        let v = view_of c j h.0 h.1.0 in
        let k = known c v.0 v.1 in
        record { view = v.0; has = v.1; placed = subst (λ (n : ℕ). IsPlaced n p v.0.received) (k.1 j) (k.0.gets j p h) }

    got_line : (c j : ℕ) (p : Received) → GotBy c j p → InLine made.got (place_of c j) p
    got_line c j p h =
        let g = got_there c j p h in
        to_line (λ (u : View). u.received) made.views made.got bag_received (place_of c j) p c g.view g.has g.placed

    posted_line : (c i : ℕ) (p : Received) → PostedBy c i p → InLine (made.got ++ made.left) (place_of c i) p
    posted_line c i p h =
        let v = view_of c i h.0 h.1.0 in
        let k = known c v.0 v.1 in
        let placed = subst (λ (n : ℕ). IsPlaced n p v.0.posted) (k.1 i) (k.0.posts i p h) in
        to_line (λ (u : View). u.posted) made.views (made.got ++ made.left) bag_posted (place_of c i) p c v.0 v.1 placed

    -- and back
    line_posted : (n : ℕ) (p : Received) → InLine (made.got ++ made.left) n p → (d : ℕ) × ((i : ℕ) × (PostedBy d i p × (place_of d i ≡ n)))
    line_posted n p h =
        let f = from_line (λ (u : View). u.posted) made.views (made.got ++ made.left) bag_posted n p h in
        let k = known f.0 f.1.0 f.1.1.0 in
        let d = k.0.posted n p f.1.1.1 in
        (f.0, (d.0, (d.1.0, sym (k.1 d.0) ∙ d.1.1)))

    line_got : (n : ℕ) (p : Received) → InLine made.got n p → (d : ℕ) × ((j : ℕ) × GotBy d j p)
    line_got n p h =
        let f = from_line (λ (u : View). u.received) made.views made.got bag_received n p h in
        let k = known f.0 f.1.0 f.1.1.0 in
        let d = k.0.got n p f.1.1.1 in
        (f.0, (d.0, d.1.0))

    gets_rising : (c i j : ℕ) (p r : Received) → i < j → GotBy c i p → GotBy c j r → place_of c i < place_of c j
    gets_rising c i j p r lt h k =
        let v = view_of c i h.0 h.1.0 in
        let m = known c v.0 v.1 in
        let a = m.0.gets_rise i j p r lt h k in
        let b = m.1 i in
        let e = m.1 j in
        omega (arith, a, b, e)

    once_by_caller : (c j i : ℕ) (p r : Received) → GotBy c j p → GotBy c i r → place_of c j ≡ place_of c i → j ≡ i
    once_by_caller c j i p r g h e = elim (cases_lt j i) [
      | inl lt ↦ absurd (let a = gets_rising c j i p r lt g h in omega (arith, a, e))
      | inr le ↦ elim (cases_lt i j) [
        | inl lt ↦ absurd (let a = gets_rising c i j r p lt h g in omega (arith, a, e))
        | inr ge ↦ omega (arith, le, ge)
      ]
    ]

    got_once : (c j d i : ℕ) (p r : Received) → GotBy c j p → GotBy d i r → place_of c j ≡ place_of d i → (c ≡ d) × (j ≡ i)
    got_once c j d i p r g h e =
        let a = got_there c j p g in
        let b = got_there d i r h in
        let same = only_one (λ (u : View). u.received) made.views made.got bag_received (place_of c j) p r c d a.view b.view a.has a.placed b.has (subst (λ (n : ℕ). IsPlaced n r b.view.received) (sym e) b.placed) in
        (same, once_by_caller c j i p r g (subst (λ (n : ℕ). GotBy n i r) (sym same) h) (e ∙ ap (λ (n : ℕ). place_of n i) (sym same)))

    -- a deed received this, and one at an earlier time had posted it
    pub record IsEarlier (c : ℕ) (p : Received) : Type 0 where
      pub caller : ℕ
      pub step : ℕ
      pub post : Deed
      pub post_is : slice_get (at caller deeds) step ≡ Some post
      pub poster : post.who ≡ p.poster
      pub at_step : ℕ
      pub receipt : Deed
      pub receipt_is : slice_get (at c deeds) at_step ≡ Some receipt
      pub gets : Gets q receipt p
      pub earlier : post.time < receipt.time

    pub posted_earlier : (c j : ℕ) (p : Received) → GotBy c j p → IsEarlier c p
    posted_earlier c j p h =
        let g = got_there c j p h in
        let x = g.placed.1.0 in
        let n = place_of c j in
        let s : Stands (λ (u : View). u.received) made.views made.got bag_received n x c g.view = record { has = g.has; index = g.placed.0; stands = g.placed.1.1.0 } in
        let r = (known c g.view g.has).0.later g.placed.0 n x g.placed.1.1.0 in
        let y = in_line (λ (u : View). u.received) made.views made.got bag_received n x c g.view s in
        let f = in_parts (λ (u : View). u.posted) made.views (made.got ++ made.left) bag_posted n y.0 (get_kept made.got made.left n y.0 y.1.0) in
        let z = f.1.1.0 in
        let t = f.1.1.1.0 in
        let d = (known f.0 f.1.0 t.has).0.timed t.index n z t.stands in
        let whole : carried x ≡ p = g.placed.1.1.1 in
        let one : carried x ≡ carried y.0 = same_carried x y.0 y.1.1 in
        let two : carried z ≡ carried y.0 = same_carried z y.0 f.1.1.1.1 in
        let post : carried z ≡ p = two ∙ (sym one ∙ whole) in
        let early : z.1.time ≡ d.1.0.time = d.1.1.1.time in
        let late : x.1.time < r.1.0.time = r.1.1.1.later in
        let same : z.1.time ≡ x.1.time = same_time z y.0 f.1.1.1.1 ∙ sym (same_time x y.0 y.1.1) in
        record {
          caller = f.0;
          step = d.0;
          post = d.1.0;
          post_is = d.1.1.0;
          poster = d.1.1.1.who ∙ ap (λ (w : Received). w.poster) post;
          at_step = r.0;
          receipt = r.1.0;
          receipt_is = r.1.1.0;
          gets = subst (Gets q r.1.0) whole r.1.1.1.gets;
          earlier = omega (arith, early, late, same);
        }

    pub matches : Matches
    matches = record {
      place = place_of;
      count = length made.got;
      gave = λ c j p g. (let l = got_line c j p g in line_posted (place_of c j) p (l.0, (get_kept made.got made.left (place_of c j) l.0 l.1.0, l.1.1)));
      within = λ c j p g. (let l = got_line c j p g in get_below made.got (place_of c j) l.0 l.1.0);
      were = λ c i p h lt. (
          let l = posted_line c i p h in
          line_got (place_of c i) p (l.0, (sym (get_within made.got made.left (place_of c i) lt) ∙ l.1.0, l.1.1)));
      once = got_once;
      posts_rise = λ c i j p r lt h k. (
          let v = view_of c i h.0 h.1.0 in
          let m = known c v.0 v.1 in
          let a = m.0.posts_rise i j p r lt h k in
          let b = m.1 i in
          let e = m.1 j in
          omega (arith, a, b, e));
      gets_rise = gets_rising;
      nothing = λ c i j p lt h k. (
          let v = view_of c i h.0 h.1.0 in
          let m = known c v.0 v.1 in
          let a = m.0.nothing i j p lt h k in
          let b = m.1 i in
          let e = made.joined.known c v.0 v.1 in
          let f = made.account.known in
          omega (arith, a, b, e, f));
    }
