-- Lists in segments, from their end and by their places.
use Rattle.std.proofs.Common.{ℕ, zero, suc, ◌≡◌, ◌≤◌, ◌<◌, ◌+◌, ◌-◌, ◌*◌, ◌/◌, ◌%◌, List, [], ◌∷◌, ◌++◌, length, length-append, append-nil, append_assoc, inl, inr, refl, sym, ap, ◌∙◌, arith}
use Rattle.std.specs.Prelude.{slice_get, slice_index_or, slice_set}
use Rattle.std.proofs.lemmas.Bool.{cases_lt}
use Rattle.std.proofs.lemmas.Option.{slice_get_past}
use Rattle.segmented_list.specs.Segments.{Run, AreCut, joined, item_in}

-- the segments from a place on, each full
abbrev pub AreFull : {X : Type 0} → ℕ → List (Run X) → Type 0
AreFull place [] = Unit {0}
AreFull place (r ∷ rs) = (r.first ≡ place) × (length r.items ≡ 1024) × AreFull (place + 1024) rs

abbrev pub IsLast : {X : Type 0} → ℕ → Run X → Type 0
IsLast place r = (r.first ≡ place) × (1 ≤ length r.items) × (length r.items ≤ 1024)

-- ---- from the end

-- a list whose item at n is its last one
pub last_at : {X : Type 0} (xs : List X) (n : ℕ) (q : X) → length xs ≡ suc n → q ≡ slice_index_or xs n q → (ys : List X) × (xs ≡ ys ++ q ∷ []) × ((y : X) → slice_set xs n y ≡ ys ++ y ∷ [])
last_at [] n q h is = absurd (omega (arith, h))
last_at (x ∷ []) zero q h is = ([], ap (λ z. z ∷ []) (sym is), λ y. refl)
last_at (x ∷ []) (suc n) q h is = absurd (omega (arith, h))
last_at (x ∷ x2 ∷ xs) zero q h is = absurd (omega (arith, h))
last_at (x ∷ x2 ∷ xs) (suc n) q h is =
    let m = last_at (x2 ∷ xs) n q (omega (arith, h)) is in
    (x ∷ m.0, ap (λ zs. x ∷ zs) m.1, λ y. ap (λ zs. x ∷ zs) (m.2 y))

-- one more item in the last segment
pub joined_more : {X : Type 0} (rs : List (Run X)) (n : ℕ) (q r : Run X) (x : X) → length rs ≡ suc n → q ≡ slice_index_or rs n q → r.items ≡ q.items ++ x ∷ [] → joined (slice_set rs n r) ≡ joined rs ++ x ∷ []
joined_more [] n q r x h is more = absurd (omega (arith, h))
joined_more {X = X} (p ∷ []) zero q r x h is more = append-nil r.items ∙ (more ∙ ap (λ (z : Run X). z.items ++ x ∷ []) is ∙ ap (λ zs. zs ++ x ∷ []) (sym (append-nil p.items)))
joined_more (p ∷ []) (suc n) q r x h is more = absurd (omega (arith, h))
joined_more (p ∷ p2 ∷ ps) zero q r x h is more = absurd (omega (arith, h))
joined_more (p ∷ p2 ∷ ps) (suc n) q r x h is more =
    ap (λ zs. p.items ++ zs) (joined_more (p2 ∷ ps) n q r x (omega (arith, h)) is more) ∙ sym (append_assoc p.items (joined (p2 ∷ ps)) (x ∷ []))

pub full_joined : {X : Type 0} (p : ℕ) (rs : List (Run X)) → AreFull p rs → length (joined rs) ≡ 1024 * length rs
full_joined p [] h = refl
full_joined p (r ∷ rs) h = omega (arith, length-append r.items (joined rs), h.1, full_joined (p + 1024) rs h.2)

pub full_then : {X : Type 0} (p : ℕ) (rs : List (Run X)) (r : Run X) → AreFull p rs → IsLast (p + 1024 * length rs) r → AreCut p (rs ++ r ∷ [])
full_then p [] r h l = (l.0 ∙ omega arith, l.1, l.2)
full_then p (q ∷ []) r h l = (h.0, h.1, (l.0 ∙ omega arith, l.1, l.2))
full_then p (q ∷ q2 ∷ rs) r h l = (h.0, h.1, full_then (p + 1024) (q2 ∷ rs) r h.2 (l.0 ∙ omega arith, l.1, l.2))

pub then_full : {X : Type 0} (p : ℕ) (rs : List (Run X)) (r : Run X) → AreCut p (rs ++ r ∷ []) → AreFull p rs × IsLast (p + 1024 * length rs) r
then_full p [] r h = (tt, (h.0 ∙ omega arith, h.1, h.2))
then_full p (q ∷ []) r h = ((h.0, h.1, tt), (h.2.0 ∙ omega arith, h.2.1, h.2.2))
then_full p (q ∷ q2 ∷ rs) r h =
    let more = then_full (p + 1024) (q2 ∷ rs) r h.2 in
    ((h.0, h.1, more.0), (more.1.0 ∙ omega arith, more.1.1, more.1.2))

pub full_if_whole : {X : Type 0} (p : ℕ) (rs : List (Run X)) → AreCut p rs → length (joined rs) % 1024 ≡ 0 → AreFull p rs
full_if_whole p [] h whole = tt
full_if_whole p (r ∷ []) h whole = (h.0, omega (arith, h.1, h.2, whole, length-append r.items []), tt)
full_if_whole p (r ∷ q ∷ rs) h whole = (h.0, h.1, full_if_whole (p + 1024) (q ∷ rs) h.2 (omega (arith, whole, h.1, length-append r.items (joined (q ∷ rs)))))

pub joined_length : {X : Type 0} (p : ℕ) (rs : List (Run X)) (r : Run X) → AreFull p rs → length (joined (rs ++ r ∷ [])) ≡ 1024 * length rs + length r.items
joined_length p [] r h = length-append r.items [] ∙ omega arith
joined_length p (q ∷ rs) r h = omega (arith, length-append q.items (joined (rs ++ r ∷ [])), h.1, joined_length (p + 1024) rs r h.2)

-- behind segments that are full, there is room only in others
pub has_empty : {X : Type 0} (rs : List (Run X)) (n : ℕ) → AreCut 0 rs → length (joined rs) % 1024 ≡ 0 → length (joined rs) < 1024 * (length rs + n) → 1 ≤ n
has_empty rs n cut whole room = omega (arith, room, full_joined 0 rs (full_if_whole 0 rs cut whole))

-- ---- by places

get_left : {X : Type 0} (xs ys : List X) (n : ℕ) → n < length xs → slice_get (xs ++ ys) n ≡ slice_get xs n
get_left [] ys n h = absurd (omega (arith, h))
get_left (x ∷ xs) ys zero h = refl
get_left (x ∷ xs) ys (suc n) h = get_left xs ys n (omega (arith, h))

get_right : {X : Type 0} (xs ys : List X) (n : ℕ) → slice_get (xs ++ ys) (length xs + n) ≡ slice_get ys n
get_right [] ys n =
    let k : 0 + n ≡ n = omega arith in
    rw k refl
get_right (x ∷ xs) ys n =
    let k : suc (length xs) + n ≡ suc (length xs + n) = omega arith in
    rw k (get_right xs ys n)

near : {X : Type 0} (r : Run X) (rs : List (Run X)) (n : ℕ) → n < 1024 → item_in (slice_get (r ∷ rs) (n / 1024)) (n % 1024) ≡ slice_get r.items n
near r rs n h =
    let first : n / 1024 ≡ 0 = omega (arith, h) in
    let same : n % 1024 ≡ n = omega (arith, h) in
    rw (first, same) refl

far : {X : Type 0} (r : Run X) (rs : List (Run X)) (n : ℕ) → 1024 ≤ n → item_in (slice_get (r ∷ rs) (n / 1024)) (n % 1024) ≡ item_in (slice_get rs ((n - 1024) / 1024)) ((n - 1024) % 1024)
far r rs n h =
    let later : n / 1024 ≡ suc ((n - 1024) / 1024) = omega (arith, h) in
    let same : n % 1024 ≡ (n - 1024) % 1024 = omega (arith, h) in
    rw (later, same) refl

behind : {X : Type 0} (xs ys : List X) (n : ℕ) → length xs ≡ 1024 → 1024 ≤ n → slice_get (xs ++ ys) n ≡ slice_get ys (n - 1024)
behind xs ys n whole h =
    let k : n ≡ length xs + (n - 1024) = omega (arith, whole, h) in
    ap (slice_get (xs ++ ys)) k ∙ get_right xs ys (n - 1024)

pub item_at : {X : Type 0} (p : ℕ) (rs : List (Run X)) (n : ℕ) → AreCut p rs → item_in (slice_get rs (n / 1024)) (n % 1024) ≡ slice_get (joined rs) n
item_at p [] n h = refl
item_at p (r ∷ []) n h = elim (cases_lt n 1024) [
  | inl low ↦ near r [] n low ∙ ap (λ xs. slice_get xs n) (sym (append-nil r.items))
  | inr high ↦ far r [] n high ∙ sym (slice_get_past (r.items ++ []) n (omega (arith, high, h.2, length-append r.items [])))
]
item_at p (r ∷ q ∷ rs) n h = elim (cases_lt n 1024) [
  | inl low ↦ near r (q ∷ rs) n low ∙ sym (get_left r.items (joined (q ∷ rs)) n (omega (arith, low, h.1)))
  | inr high ↦ far r (q ∷ rs) n high ∙ (item_at (p + 1024) (q ∷ rs) (n - 1024) h.2 ∙ sym (behind r.items (joined (q ∷ rs)) n h.1 high))
]
