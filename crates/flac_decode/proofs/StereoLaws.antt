-- Channels computed from two, in a loop that decides at its end whether all samples fitted.
use Rattle.std.proofs.Common.{◌≡◌, ℕ, ◌+◌, ◌^◌, ◌<◌, ◌≤◌, ℤ, pos, true, false, List, ◌∷◌, None, ◌⊎◌, inl, inr, length, length-set, take, drop, set, get_or, sym, ◌∙◌, arith, drop-cons, add-one}
use Rattle.std.specs.Prelude.{bit_or, unsigned_abs}
use Rattle.std.proofs.lemmas.Bool.{cases_lt}
use Rattle.std.proofs.lemmas.Nat.{le_or_l, le_or_r, or_lt}
use Rattle.std.proofs.lemmas.List.{drop-set-lt}
use Rattle.flac_definitions.specs.Prediction.{one_after_other, fits_depth}
use Rattle.flac_definitions.specs.Stereo.{channel_by}
use Rattle.flac_decode.specs.Bounds.{AreSmall}
use Rattle.flac_decode.proofs.RestoreLaws.{combined_next, combined_fails, small_more}

-- A channel that is computed in the place of `ys`, so far: `cur`. All samples fitted where `lifted` is below 2 ^ depth.
pub record IsSoFar (f : ℤ → ℤ → ℤ) (depth i : ℕ) (xs ys cur : List ℤ) (lifted : ℕ) : Type 0 where
  pub size : length cur ≡ length ys
  pub rest : drop i cur ≡ drop i ys
  pub small : lifted < 2 ^ depth → AreSmall 32 (take i cur)
  pub read : lifted < 2 ^ depth → one_after_other (take i cur) (channel_by f depth (drop i xs) (drop i ys)) ≡ channel_by f depth xs ys

rest_next : (ys cur : List ℤ) (i : ℕ) (v : ℤ) → i < length ys → length cur ≡ length ys → drop i cur ≡ drop i ys → drop (i + 1) (set cur i v) ≡ drop (i + 1) ys
rest_next ys cur i v h l rest =
    let cy : drop i ys ≡ get_or ys i (pos 0) ∷ drop (i + 1) ys = rw add-one (drop-cons ys i (pos 0) h) in
    let cc' : drop i cur ≡ get_or cur i (pos 0) ∷ drop (i + 1) cur = rw add-one (drop-cons cur i (pos 0) (omega arith)) in
    let heads : get_or cur i (pos 0) ∷ drop (i + 1) cur ≡ get_or ys i (pos 0) ∷ drop (i + 1) ys = sym cc' ∙ rest ∙ cy in
    let tails : drop (i + 1) cur ≡ drop (i + 1) ys = cc in
    drop-set-lt (i + 1) cur i v (omega arith) ∙ tails

pub so_far_next : (f : ℤ → ℤ → ℤ) (depth i : ℕ) (xs ys cur : List ℤ) (v : ℤ) (lifted new : ℕ) → i < length xs → i < length ys → IsSoFar f depth i xs ys cur lifted
    → v ≡ f (get_or xs i (pos 0)) (get_or cur i (pos 0)) → (new < 2 ^ depth → lifted < 2 ^ depth) → (new < 2 ^ depth → fits_depth depth v ≡ true) → (new < 2 ^ depth → unsigned_abs v ≤ 2 ^ 32)
    → IsSoFar f depth (i + 1) xs ys (set cur i v) new
so_far_next f depth i xs ys cur v lifted new hx hy so e before good small = record {
  size = length-set cur i v ∙ so.size;
  rest = rest_next ys cur i v hy so.size so.rest;
  small = λ h. small_more 32 cur i v (omega (arith, so.size)) (so.small (before h)) (small h);
  read = λ h. (combined_next f depth i xs ys cur v hx hy so.size so.rest e (good h)).0 ∙ so.read (before h);
}

pub so_far_bad : (f : ℤ → ℤ → ℤ) (depth i : ℕ) (xs ys cur : List ℤ) (v : ℤ) (lifted : ℕ) → i < length xs → i < length ys → IsSoFar f depth i xs ys cur lifted
    → v ≡ f (get_or xs i (pos 0)) (get_or cur i (pos 0)) → lifted < 2 ^ depth → fits_depth depth v ≡ false → channel_by f depth xs ys ≡ None
so_far_bad f depth i xs ys cur v lifted hx hy so e h bad =
    sym (so.read h) ∙ combined_fails f depth i xs ys cur v hx hy so.size so.rest e bad

-- a union of bits is wide where one of its parts is
pub one_wide : (d all a : ℕ) → 2 ^ d ≤ bit_or all a → all < 2 ^ d → 2 ^ d ≤ a
one_wide d all a h l = elim (cases_lt a (2 ^ d)) [
  | inr g ↦ g
  | inl m ↦ absurd (omega (arith, h, or_lt d all a l m))
]

pub one_narrow : (d all a : ℕ) → bit_or all a < 2 ^ d → (all < 2 ^ d) × (a < 2 ^ d)
one_narrow d all a h = (omega (arith, h, le_or_l all a), omega (arith, h, le_or_r all a))

pub union_wide : (d all a b : ℕ) → 2 ^ d ≤ bit_or all (bit_or a b) → (2 ^ d ≤ all) ⊎ (2 ^ d ≤ a) ⊎ (2 ^ d ≤ b)
union_wide d all a b h = elim (cases_lt all (2 ^ d)) [
  | inr g ↦ inl g
  | inl l ↦ elim (cases_lt a (2 ^ d)) [
    | inr g ↦ inr (inl g)
    | inl m ↦ elim (cases_lt b (2 ^ d)) [
      | inr g ↦ inr (inr g)
      | inl n ↦ absurd (omega (arith, h, or_lt d all (bit_or a b) l (or_lt d a b m n)))
    ]
  ]
]

pub union_narrow : (d all a b : ℕ) → bit_or all (bit_or a b) < 2 ^ d → (all < 2 ^ d) × (a < 2 ^ d) × (b < 2 ^ d)
union_narrow d all a b h = (
  omega (arith, h, le_or_l all (bit_or a b)),
  omega (arith, h, le_or_r all (bit_or a b), le_or_l a b),
  omega (arith, h, le_or_r all (bit_or a b), le_or_r a b),
)
