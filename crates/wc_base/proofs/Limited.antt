-- What a reader gave up to a limit that was not reached is all that it had.
use Rattle.std.proofs.Common.{◌≡◌, ◌<◌, ℕ, suc, zero, List, [], ◌∷◌, ◌++◌, length, take, Option, Some, None, IfSome, option_map, arith, refl, sym, ap, ◌∙◌}

short_take : (n : ℕ) (xs : List ℕ) → length (take n xs) < n → take n xs ≡ xs
short_take zero xs h = absurd (omega arith)
short_take (suc n) [] h = refl
short_take (suc n) (x ∷ xs) h = ap (λ z. x ∷ z) (short_take n xs (omega arith))

-- the bytes of a reader, read behind nothing
pub whole_below : (known : Option (List ℕ)) (n : ℕ) (start bytes : List ℕ) → start ≡ [] → IfSome (option_map (take n) known) (λ xs. bytes ≡ start ++ xs) → length bytes < n → IfSome known (λ xs. bytes ≡ xs)
whole_below None n start bytes p e h = tt
whole_below (Some xs) n start bytes p e h =
    let taken : bytes ≡ take n xs = e ∙ ap (λ z. z ++ take n xs) p in
    taken ∙ short_take n xs (rw (sym taken) h)
