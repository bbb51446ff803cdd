-- Coders that go out, and come back to their places.
use Rattle.std.proofs.Common.{ℕ, zero, suc, ◌≡◌, ◌<◌, Bool, true, false, List, [], ◌∷◌, length, map, take, drop, get_or, Option, Some, None, refl, ap, sym, ◌∙◌, arith}
use Rattle.std.specs.Prelude.{slice_get, option_map, ◌||◌, IfNone}
use Rattle.std.specs.List.{insert, remove}
use Rattle.std.proofs.lemmas.List.{map-append, take-map, drop-map}
use Rattle.wc_config.specs.declared.codec.CoderId.{CoderId}
use Rattle.coder_api.specs.Meaning.{is_id}
use Rattle.coder_api.specs.Lent.{Lent}
use Rattle.slot_registry.specs.IdLaws.{id_same, id_is}
use Rattle.codec_judge.specs.declared.lender.Away.{Away}
use Rattle.codec_judge.specs.Lawful.{has_coder}
use Rattle.codec_judge.specs.Lender.{LenderValue, whole, settled}

-- ---- lists

map_insert : {X : Type 0} (f : X → CoderId) (xs : List X) (i : ℕ) (x : X) → map f (insert xs i x) ≡ insert (map f xs) i (f x)
map_insert f xs i x = map-append f (take i xs) (x ∷ drop i xs) ∙ rw (take-map f i xs, drop-map f i xs) refl

put_again : {X : Type 0} (f : X → CoderId) (xs : List X) (i : ℕ) (id : CoderId) → slice_get (map f xs) i ≡ Some id → insert (map f (remove xs i)) i id ≡ map f xs
put_again f [] i id at = absurd cc
put_again f (x ∷ xs) zero id at = let same : f x ≡ id = cc in ap (λ (j : CoderId). j ∷ map f xs) (sym same)
put_again f (x ∷ xs) (suc i) id at = ap (λ (l : List CoderId). f x ∷ l) (put_again f xs i id at)

-- ---- a coder of an id

-- the coder at a place is of the id
pub is_at : {X : Type 0} (f : X → CoderId) (xs : List X) (i : ℕ) (x : X) (id : CoderId) → i < length xs → x ≡ get_or xs i x → is_id id (f x) ≡ true → slice_get (map f xs) i ≡ Some id
is_at f [] i x id low at same = absurd (omega (arith, low))
is_at f (y ∷ ys) zero x id low at same = let e : x ≡ y = at in ap (λ (j : CoderId). Some j) (ap f (sym e) ∙ sym (id_is id (f x) same))
is_at f (y ∷ ys) (suc i) x id low at same = is_at f ys i x id (omega (arith, low)) at same

or_true : (b : Bool) → (b || true) ≡ true
or_true true = refl
or_true false = refl

pub has_at : (ids : List CoderId) (i : ℕ) (id : CoderId) → slice_get ids i ≡ Some id → has_coder id ids ≡ true
has_at [] i id at = absurd cc
has_at (j ∷ js) zero id at = let same : j ≡ id = cc in rw (same, id_same id) refl
has_at (j ∷ js) (suc i) id at = ap (λ (b : Bool). is_id id j || b) (has_at js i id at) ∙ or_true (is_id id j)

-- ---- a lender

none_away : (a : Option Away) → option_map (λ x. x.id) a ≡ None → a ≡ None
none_away None h = refl
none_away (Some a) h = absurd cc

-- with none out, the ids are those of all coders
pub all_home : (a : Option Away) (ids : List CoderId) → option_map (λ x. x.id) a ≡ None → whole a ids ≡ ids
all_home a ids h = ap (λ (o : Option Away). whole o ids) (none_away a h)

abbrev pub seen : {X : Type 0} → (X → CoderId) → Option Away → List X → LenderValue
seen f a xs = record { home = whole a (map f xs); out = option_map (λ x. x.id) a }

-- a coder went out
pub went_out : {X : Type 0} (f : X → CoderId) (a : Option Away) (xs ys : List X) (i : ℕ) (id : CoderId) → option_map (λ x. x.id) a ≡ None → slice_get (map f xs) i ≡ Some id → ys ≡ remove xs i
    → seen f (Some (record { place = i; id = id })) ys ≡ record { home = whole a (map f xs); out = Some id }
went_out f a xs ys i id none at left =
    let home : insert (map f ys) i id ≡ whole a (map f xs) = rw (left, put_again f xs i id at, all_home a (map f xs) none) refl in
    λ k. record { home = home k; out = Some id }

-- a coder came back
pub came_back : {X : Type 0} (f : X → CoderId) (away : Away) (xs ys : List X) (x : X) (lent : Lent) → f x ≡ lent.id → Some away.id ≡ Some lent.id → ys ≡ insert xs away.place x → seen f None ys ≡ settled (Some lent) (seen f (Some away) xs)
came_back f away xs ys x lent is same put =
    let ids : away.id ≡ lent.id = cc in
    let home : map f ys ≡ insert (map f xs) away.place away.id = rw (put, map_insert f xs away.place x, is, ids) refl in
    λ k. record { home = home k; out = None }

-- ---- what contracts see of a lender with none out

module _ {X : Type 0} (f : X → CoderId) (a : Option Away) (xs : List X) (v : LenderValue) (is : seen f a xs ≡ v) (none : v.out ≡ None) where
  pub home_is : map f xs ≡ v.home
  home_is = sym (all_home a (map f xs) (ap (λ (w : LenderValue). w.out) is ∙ none)) ∙ ap (λ (w : LenderValue). w.home) is

  pub none_home : (id : CoderId) → has_coder id (map f xs) ≡ false → has_coder id v.home ≡ false
  none_home id h = ap (has_coder id) (sym home_is) ∙ h

  pub has_home : (i : ℕ) (id : CoderId) → slice_get (map f xs) i ≡ Some id → has_coder id v.home ≡ true
  has_home i id at = ap (has_coder id) (sym home_is) ∙ has_at (map f xs) i id at

  pub lent_out : (i : ℕ) (id : CoderId) (ys : List X) → slice_get (map f xs) i ≡ Some id → ys ≡ remove xs i → seen f (Some (record { place = i; id = id })) ys ≡ record { home = v.home; out = Some id }
  lent_out i id ys at left =
      let whole_is : whole a (map f xs) ≡ v.home = ap (λ (w : LenderValue). w.home) is in
      went_out f a xs ys i id (ap (λ (w : LenderValue). w.out) is ∙ none) at left ∙ (λ k. record { home = whole_is k; out = Some id })

-- the coder that is out comes back
pub settled_again : {X : Type 0} (f : X → CoderId) (away : Away) (xs ys : List X) (x : X) (lent : Lent) (v : LenderValue) → seen f (Some away) xs ≡ v → v.out ≡ Some lent.id → f x ≡ lent.id → ys ≡ insert xs away.place x → seen f None ys ≡ settled (Some lent) v
settled_again f away xs ys x lent v is out same put = came_back f away xs ys x lent same (ap (λ (w : LenderValue). w.out) is ∙ out) put ∙ ap (settled (Some lent)) is

pub for_none : {X : Type 0} (o : Option X) (P : Type 0) → P → IfNone o P
for_none None P h = h
for_none (Some x) P h = tt
