-- Parts of bytes: the one at a place, and those behind it.
use Rattle.std.proofs.Common.{◌≡◌, ℕ, zero, suc, ◌+◌, ◌-◌, ◌<◌, ◌≤◌, List, [], ◌∷◌, drop, length, get_or, refl, sym, ap, subst, ◌∙◌, arith}
use Rattle.std.proofs.lemmas.List.{drop_more, drop-drop}
use Rattle.wc_demux.specs.Parts.{Part, parts_in}

skips : (size : List ℕ → ℕ) (n at : ℕ) (bytes : List ℕ) → parts_in size n at bytes ≡ parts_in size 0 (at + n) (drop n bytes)
skips size zero at [] = refl
skips size (suc n) at [] = refl
skips size zero at (b ∷ bs) = ap (λ k. parts_in size 0 k (b ∷ bs)) (let e : at ≡ at + 0 = omega arith in e)
skips size (suc n) at (b ∷ bs) = skips size n (at + 1) bs ∙ ap (λ k. parts_in size 0 k (drop n bs)) (let e : at + 1 + n ≡ at + suc n = omega arith in e)

behind : (size : List ℕ → ℕ) (at b : ℕ) (bs : List ℕ) (s : ℕ) → 1 ≤ s → parts_in size (s - 1) (at + 1) bs ≡ parts_in size 0 (at + s) (drop s (b ∷ bs))
behind size at b bs zero h = absurd (omega arith)
behind size at b bs (suc m) h =
    ap (λ k. parts_in size k (at + 1) bs) (let e : suc m - 1 ≡ m = omega arith in e)
    ∙ skips size m (at + 1) bs ∙ ap (λ k. parts_in size 0 k (drop m bs)) (let e : at + 1 + m ≡ at + suc m = omega arith in e)

first_part : (size : List ℕ → ℕ) (at b : ℕ) (bs part : List ℕ) → part ≡ b ∷ bs → 1 ≤ size part → parts_in size 0 at part ≡ record { at = at; bytes = part } ∷ parts_in size 0 (at + size part) (drop (size part) part)
first_part size at b bs part e =
    let P : List ℕ → Type 0 = λ p. 1 ≤ size p → parts_in size 0 at p ≡ record { at = at; bytes = p } ∷ parts_in size 0 (at + size p) (drop (size p) p) in
    subst P (sym e) (λ h. ap (λ (ps : List Part). record { at = at; bytes = b ∷ bs } ∷ ps) (behind size at b bs (size (b ∷ bs)) h))

pub next_part : (size : List ℕ → ℕ) (bytes : List ℕ) (at : ℕ) → at < length bytes → 1 ≤ size (drop at bytes)
    → parts_in size 0 at (drop at bytes) ≡ record { at = at; bytes = drop at bytes } ∷ parts_in size 0 (at + size (drop at bytes)) (drop (at + size (drop at bytes)) bytes)
next_part size bytes at lt some =
    first_part size at (get_or bytes at 0) (drop (at + 1) bytes) (drop at bytes) (drop_more bytes at 0 lt) some
    ∙ ap (λ (xs : List ℕ). record { at = at; bytes = drop at bytes } ∷ parts_in size 0 (at + size (drop at bytes)) xs) (drop-drop (size (drop at bytes)) at bytes)
