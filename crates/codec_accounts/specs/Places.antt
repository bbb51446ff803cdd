-- What a list of lists has at a number, and how it grows there.
use Rattle.std.proofs.Common.{ℕ, zero, suc, ◌≡◌, ◌<◌, ◌≤◌, List, [], ◌∷◌, ◌++◌, length, get_or, Some, None, refl, ap, ◌∙◌}
use Rattle.std.proofs.lemmas.Option.{slice_get_read, slice_get_past}
use Rattle.std.specs.Prelude.{slice_get, slice_set}
use Rattle.codec_accounts.specs.Owed.{at, append_at}

at_within : {X : Type 0} (c : ℕ) (ls : List (List X)) (l : List X) → slice_get ls c ≡ Some l → at c ls ≡ l
at_within c [] l h = absurd cc
at_within zero (x ∷ ls) l h = cc
at_within (suc c) (x ∷ ls) l h = at_within c ls l h

at_beyond : {X : Type 0} (c : ℕ) (ls : List (List X)) → slice_get ls c ≡ None → at c ls ≡ []
at_beyond c [] h = refl
at_beyond zero (x ∷ ls) h = absurd cc
at_beyond (suc c) (x ∷ ls) h = at_beyond c ls h

set_within : {X : Type 0} (c : ℕ) (x : X) (ls : List (List X)) (l : List X) → slice_get ls c ≡ Some l → slice_set ls c (l ++ x ∷ []) ≡ append_at c x ls
set_within c x [] l h = absurd cc
set_within zero x (y ∷ ls) l h = let same : y ≡ l = cc in cc
set_within (suc c) x (y ∷ ls) l h = let rest = set_within c x ls l h in cc

append_beyond : {X : Type 0} (c : ℕ) (x : X) (ls : List (List X)) → slice_get ls c ≡ None → ls ≡ append_at c x ls
append_beyond c x [] h = refl
append_beyond zero x (y ∷ ls) h = absurd cc
append_beyond (suc c) x (y ∷ ls) h = let rest = append_beyond c x ls h in cc

-- the list that was read there is longer by one
pub append_is_set : {X : Type 0} (c : ℕ) (x : X) (ls : List (List X)) (l new : List X) → c < length ls → l ≡ get_or ls c l → new ≡ l ++ x ∷ [] → slice_set ls c new ≡ append_at c x ls
append_is_set {X} c x ls l new lt is made =
    let there = slice_get_read ls (length ls) c l refl lt is in
    ap (λ (z : List X). slice_set ls c z) made ∙ set_within c x ls l there

-- none is there to grow
pub append_past : {X : Type 0} (c : ℕ) (x : X) (ls : List (List X)) → length ls ≤ c → ls ≡ append_at c x ls
append_past c x ls beyond = append_beyond c x ls (slice_get_past ls c beyond)

pub at_read : {X : Type 0} (c : ℕ) (ls : List (List X)) (l : List X) → c < length ls → l ≡ get_or ls c l → at c ls ≡ l
at_read c ls l lt is = at_within c ls l (slice_get_read ls (length ls) c l refl lt is)

pub at_past : {X : Type 0} (c : ℕ) (ls : List (List X)) → length ls ≤ c → at c ls ≡ []
at_past c ls beyond = at_beyond c ls (slice_get_past ls c beyond)
