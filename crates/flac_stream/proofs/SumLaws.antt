-- One sample more of those that are summed up.
use Rattle.std.proofs.Common.{◌≡◌, ℕ, ℤ, pos, ◌+◌, ◌<◌, List, [], ◌∷◌, ◌++◌, take, length, get_or, flat_map, refl, sym, ap, ◌∙◌, arith, append-nil, append_assoc}
use Rattle.std.proofs.lemmas.List.{take_more}
use Rattle.std.proofs.lemmas.Grind.{flat_map-append}

pub next_sample : (f : ℤ → List ℕ) (message : List ℕ) (xs : List ℤ) (i : ℕ) (v : ℤ) → i < length xs → v ≡ get_or xs i (pos 0) → (message ++ flat_map f (take i xs)) ++ f v ≡ message ++ flat_map f (take (i + 1) xs)
next_sample f message xs i v lt e =
    let x = get_or xs i (pos 0) in
    let one : flat_map f (take (i + 1) xs) ≡ flat_map f (take i xs) ++ f x =
    ap (flat_map f) (take_more xs i (pos 0) lt) ∙ flat_map-append f (take i xs) (x ∷ []) ∙ ap (λ (l : List ℕ). flat_map f (take i xs) ++ l) (append-nil (f x)) in
    append_assoc message (flat_map f (take i xs)) (f v) ∙ ap (λ (l : List ℕ). message ++ l) (ap (λ (z : ℤ). flat_map f (take i xs) ++ f z) e ∙ sym one)
