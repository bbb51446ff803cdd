-- A list of lists of which one grows at its end, and single elements of a list.
use Rattle.std.proofs.Common.{ℕ, zero, suc, ◌≡◌, ◌≢◌, ◌<◌, ◌⊎◌, inl, inr, List, [], ◌∷◌, ◌++◌, map, length, take, Some, refl, ap, sym, ◌∙◌, arith, append-nil}
use Rattle.std.specs.Prelude.{slice_get}
use Rattle.codec_accounts.specs.Owed.{at, append_at}

pub append_at_length : {X : Type 0} (d : ℕ) (x : X) (ls : List (List X)) → length (append_at d x ls) ≡ length ls
append_at_length d x [] = refl
append_at_length zero x (l ∷ ls) = refl
append_at_length (suc d) x (l ∷ ls) = ap suc (append_at_length d x ls)

-- the list that grows
pub at_same : {X : Type 0} (d : ℕ) (x : X) (ls : List (List X)) → d < length ls → at d (append_at d x ls) ≡ at d ls ++ x ∷ []
at_same d x [] h = absurd (omega arith)
at_same zero x (l ∷ ls) h = refl
at_same (suc d) x (l ∷ ls) h = at_same d x ls (omega arith)

-- another list
pub at_other : {X : Type 0} (c d : ℕ) (x : X) (ls : List (List X)) → c ≢ d → at c (append_at d x ls) ≡ at c ls
at_other c d x [] h = refl
at_other zero zero x (l ∷ ls) h = absurd (h refl)
at_other zero (suc d) x (l ∷ ls) h = refl
at_other (suc c) zero x (l ∷ ls) h = refl
at_other (suc c) (suc d) x (l ∷ ls) h = at_other c d x ls (λ e. h (ap suc e))

-- a list is as it was, or is the one that grew
pub data Growth {X : Type 0} (c d : ℕ) (x : X) (ls : List (List X)) : Type 0 where
  Same : at c (append_at d x ls) ≡ at c ls → Growth c d x ls
  Longer : c ≡ d → at c (append_at d x ls) ≡ at c ls ++ x ∷ [] → Growth c d x ls

pub growth : {X : Type 0} (c d : ℕ) (x : X) (ls : List (List X)) → Growth c d x ls
growth c d x [] = Same refl
growth zero zero x (l ∷ ls) = Longer refl refl
growth zero (suc d) x (l ∷ ls) = Same refl
growth (suc c) zero x (l ∷ ls) = Same refl
growth (suc c) (suc d) x (l ∷ ls) = elim (growth c d x ls) [ Same e ↦ Same e | Longer p e ↦ Longer (ap suc p) e ]

-- a list grows by what is appended to it
pub at_grows : {X : Type 0} (c d : ℕ) (x : X) (ls : List (List X)) → (more : List X) × (at c (append_at d x ls) ≡ at c ls ++ more)
at_grows c d x ls = elim (growth c d x ls) [ Same e ↦ ([], e ∙ sym (append-nil (at c ls))) | Longer p e ↦ (x ∷ [], e) ]

pub get_kept : {X : Type 0} (xs ys : List X) (j : ℕ) (r : X) → slice_get xs j ≡ Some r → slice_get (xs ++ ys) j ≡ Some r
get_kept [] ys j r h = absurd cc
get_kept (x ∷ xs) ys zero r h = h
get_kept (x ∷ xs) ys (suc j) r h = get_kept xs ys j r h

pub get_end : {X : Type 0} (xs : List X) (x : X) → slice_get (xs ++ x ∷ []) (length xs) ≡ Some x
get_end [] x = refl
get_end (y ∷ ys) x = get_end ys x

-- an element of the longer list: one that was there, or the last
pub get_more : {X : Type 0} (xs : List X) (x : X) (j : ℕ) (r : X) → slice_get (xs ++ x ∷ []) j ≡ Some r → (slice_get xs j ≡ Some r) ⊎ ((j ≡ length xs) × (r ≡ x))
get_more [] x zero r h = inr (refl, cc)
get_more [] x (suc j) r h = absurd cc
get_more (y ∷ ys) x zero r h = inl h
get_more (y ∷ ys) x (suc j) r h = elim (get_more ys x j r h) [ inl k ↦ inl k | inr k ↦ inr (ap suc k.0, k.1) ]

pub get_within : {X : Type 0} (xs ys : List X) (j : ℕ) → j < length xs → slice_get (xs ++ ys) j ≡ slice_get xs j
get_within [] ys j h = absurd (omega arith)
get_within (x ∷ xs) ys zero h = refl
get_within (x ∷ xs) ys (suc j) h = get_within xs ys j (omega arith)

pub get_some : {X : Type 0} (xs : List X) (j : ℕ) → j < length xs → (x : X) × (slice_get xs j ≡ Some x)
get_some [] j h = absurd (omega arith)
get_some (x ∷ xs) zero h = (x, refl)
get_some (x ∷ xs) (suc j) h = get_some xs j (omega arith)

-- what was there stays
pub result_kept : {X : Type 0} (c d j : ℕ) (x r : X) (ls : List (List X)) → slice_get (at c ls) j ≡ Some r → slice_get (at c (append_at d x ls)) j ≡ Some r
result_kept c d j x r ls h =
    let g = at_grows c d x ls in
    ap (λ xs. slice_get xs j) g.1 ∙ get_kept (at c ls) g.0 j r h

-- what is new stands at the end
pub result_new : {X : Type 0} (d : ℕ) (x : X) (ls : List (List X)) → d < length ls → slice_get (at d (append_at d x ls)) (length (at d ls)) ≡ Some x
result_new d x ls h = ap (λ xs. slice_get xs (length (at d ls))) (at_same d x ls h) ∙ get_end (at d ls) x

-- the place and the value of what is new
pub record IsNew {X : Type 0} (d : ℕ) (x : X) (ls : List (List X)) (c j : ℕ) (r : X) : Type 0 where
  pub number : c ≡ d
  pub place : j ≡ length (at c ls)
  pub value : r ≡ x

-- nothing else is new
pub result_more : {X : Type 0} (c d j : ℕ) (x r : X) (ls : List (List X)) → slice_get (at c (append_at d x ls)) j ≡ Some r → (slice_get (at c ls) j ≡ Some r) ⊎ IsNew d x ls c j r
result_more c d j x r ls h =
    elim (growth c d x ls) [
      | Same e ↦ inl (ap (λ xs. slice_get xs j) (sym e) ∙ h)
      | Longer p e ↦ elim (get_more (at c ls) x j r (ap (λ xs. slice_get xs j) (sym e) ∙ h)) [
        | inl k ↦ inl k
        | inr k ↦ inr (record { number = p; place = k.0; value = k.1 })
      ]
    ]

-- a list is there, or it is empty
pub there : {X : Type 0} (k : ℕ) (ls : List (List X)) → (k < length ls) ⊎ (at k ls ≡ [])
there k [] = inr refl
there zero (l ∷ ls) = inl (omega arith)
there (suc k) (l ∷ ls) = elim (there k ls) [ inl lt ↦ inl (omega arith) | inr e ↦ inr e ]

-- lists that are all empty
pub at_empty : {X Y : Type 0} (c : ℕ) (ys : List Y) → at {X = X} c (map (λ y. []) ys) ≡ []
at_empty c [] = refl
at_empty zero (y ∷ ys) = refl
at_empty (suc c) (y ∷ ys) = at_empty c ys

-- an element of a front
pub get_from_front : {X : Type 0} (xs : List X) (n m : ℕ) (x : X) → slice_get (take n xs) m ≡ Some x → slice_get xs m ≡ Some x
get_from_front [] zero m x h = absurd cc
get_from_front [] (suc n) m x h = absurd cc
get_from_front (y ∷ ys) zero m x h = absurd cc
get_from_front (y ∷ ys) (suc n) zero x h = h
get_from_front (y ∷ ys) (suc n) (suc m) x h = get_from_front ys n m x h

-- it stands before the front's end
pub taken_before : {X : Type 0} (xs : List X) (n m : ℕ) (x : X) → slice_get (take n xs) m ≡ Some x → m < n
taken_before [] zero m x h = absurd cc
taken_before [] (suc n) m x h = absurd cc
taken_before (y ∷ ys) zero m x h = absurd cc
taken_before (y ∷ ys) (suc n) zero x h = omega arith
taken_before (y ∷ ys) (suc n) (suc m) x h = omega (arith, taken_before ys n m x h)
