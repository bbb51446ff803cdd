-- The coded channels of a block give its samples back.
use Rattle.std.proofs.Common.{ℕ, suc, ℤ, pos, negsuc, ◌≡◌, ◌≤◌, ◌-◌, ◌%◌, ◌^◌, ◌+ℤ◌, ◌-ℤ◌, ◌*ℤ◌, Bool, true, false, cond, List, [], ◌∷◌, ◌++◌, length, take, drop, Option, Some, None, refl, ap, sym, subst, ◌∙◌, arith}
use Rattle.std.specs.Prelude.{neg_ℤ, ◌≤ℤ◌, ◌<ℤ◌, ◌&&◌, int_le, int_lt}
use Rattle.std.specs.Int.{int_div_euclid, int_rem_euclid}
use Rattle.std.proofs.Math.Seq.{take-append_seam, drop-append_seam}
use Rattle.std.proofs.lemmas.Bool.{ne_eqb, lt-ltb, le-leb}
use Rattle.std.proofs.lemmas.Int.{ints}
use Rattle.std.proofs.lemmas.List.{take-append-drop}
use Rattle.flac_definitions.specs.Prediction.{fits_depth, with_sample, one_after_other}
use Rattle.flac_definitions.specs.Stereo.{right_of_side, left_of_side, twice_of, left_of_mid, right_of_mid, channel_by, channel_pair, plain_channels}
use Rattle.flac_definitions.specs.SubframeWriting.{HasDepth, HaveDepth}
use Rattle.flac_definitions.specs.Modes.{pairwise, side_of, mid_of, coded_of, assignment_of, IsModeOf, IsFormat, IsBlock}
use Rattle.flac_blocks.specs.CodedLaws.{length-pairwise, left_length, right_length, take_fits, drop_fits}
use Rattle.flac_definitions.specs.declared.mode.BlockFormat.{BlockFormat}
use Rattle.flac_definitions.specs.declared.mode.ChannelMode.{ChannelMode}
use Rattle.flac_definitions.specs.declared.mode.ChannelMode.TheVariants.{Independent, LeftSide, SideRight, MidSide}

-- ---- samples that fit

at_most : (a b : ℤ) → a ≤ℤ b → int_le a b ≡ true
at_most (pos m) (pos n) h = le-leb m n (omega (arith, ints, h))
at_most (pos m) (negsuc n) h = absurd (omega (arith, ints, h))
at_most (negsuc m) (pos n) h = refl
at_most (negsuc m) (negsuc n) h = le-leb n m (omega (arith, ints, h))

below : (a b : ℤ) → a <ℤ b → int_lt a b ≡ true
below (pos m) (pos n) h = lt-ltb m n (omega (arith, ints, h))
below (pos m) (negsuc n) h = absurd (omega (arith, ints, h))
below (negsuc m) (pos n) h = refl
below (negsuc m) (negsuc n) h = lt-ltb n m (omega (arith, ints, h))

both : (a b : Bool) → a ≡ true → b ≡ true → (a && b) ≡ true
both true true x y = refl
both true false x y = absurd (let n : ⊥ = cc in n)
both false b x y = absurd (let n : ⊥ = cc in n)

fitting : (depth : ℕ) (v : ℤ) → HasDepth depth v → fits_depth depth v ≡ true
fitting depth v h = both (int_le (neg_ℤ (pos (2 ^ (depth - 1)))) v) (int_lt v (pos (2 ^ (depth - 1)))) (at_most (neg_ℤ (pos (2 ^ (depth - 1)))) v h.low) (below v (pos (2 ^ (depth - 1))) h.high)

-- ---- two channels, sample by sample

abbrev left_one : ℤ → ℤ → ℤ
left_one x y = x

abbrev right_one : ℤ → ℤ → ℤ
right_one x y = y

all_left : (xs ys : List ℤ) → length xs ≡ length ys → pairwise left_one xs ys ≡ xs
all_left [] ys e = refl
all_left (x ∷ xs) [] e = absurd (omega (arith, e))
all_left (x ∷ xs) (y ∷ ys) e = ap (λ (l : List ℤ). x ∷ l) (all_left xs ys (omega (arith, e)))

all_right : (xs ys : List ℤ) → length xs ≡ length ys → pairwise right_one xs ys ≡ ys
all_right [] [] e = refl
all_right [] (y ∷ ys) e = absurd (omega (arith, e))
all_right (x ∷ xs) [] e = absurd (omega (arith, e))
all_right (x ∷ xs) (y ∷ ys) e = ap (λ (l : List ℤ). y ∷ l) (all_right xs ys (omega (arith, e)))

-- a channel that is computed from two others, which were computed from a pair
channel_back : (g p q o : ℤ → ℤ → ℤ) (depth : ℕ) (xs ys : List ℤ) → length xs ≡ length ys → ((x y : ℤ) → g (p x y) (q x y) ≡ o x y) → HaveDepth depth (pairwise o xs ys)
    → channel_by g depth (pairwise p xs ys) (pairwise q xs ys) ≡ Some (pairwise o xs ys)
channel_back g p q o depth [] ys e is h = refl
channel_back g p q o depth (x ∷ xs) [] e is h = absurd (omega (arith, e))
channel_back g p q o depth (x ∷ xs) (y ∷ ys) e is h =
    let rest : channel_by g depth (pairwise p xs ys) (pairwise q xs ys) ≡ Some (pairwise o xs ys) = channel_back g p q o depth xs ys (omega (arith, e)) is (λ j l. h (suc j) (omega (arith, l))) in
    let fine : fits_depth depth (o x y) ≡ true = fitting depth (o x y) (h 0 (omega arith)) in
    ap (λ (v : ℤ). cond (fits_depth depth v) (with_sample v (channel_by g depth (pairwise p xs ys) (pairwise q xs ys))) None) (is x y)
    ∙ (ap (λ (t : Bool). cond t (with_sample (o x y) (channel_by g depth (pairwise p xs ys) (pairwise q xs ys))) None) fine ∙ ap (with_sample (o x y)) rest)

-- ---- the middle, with the bit that it lost

pub record Halves (s : ℤ) : Type 0 where
  pub rest : ℕ
  pub small : rest ≤ 1
  pub whole : s ≡ (pos 2 *ℤ int_div_euclid s (pos 2)) +ℤ pos rest
  pub lost : int_rem_euclid s (pos 2) ≡ pos rest

halves : (s : ℤ) → Halves s
halves (pos n) = record { rest = n % 2; small = omega arith; whole = omega (arith, ints); lost = refl }
halves (negsuc n) = record { rest = 1 - n % 2; small = omega arith; whole = omega (arith, ints); lost = refl }

half_of : (s q : ℤ) → s ≡ pos 2 *ℤ q → int_div_euclid s (pos 2) ≡ q
half_of s q e = let h = halves s in omega (arith, ints, e, h.small, h.whole)

twice_is : (x y : ℤ) → twice_of (mid_of x y) (side_of x y) ≡ x +ℤ y
twice_is x y =
    let a = halves (x +ℤ y) in
    let b = halves (x -ℤ y) in
    omega (arith, ints, a.small, a.whole, b.small, b.whole, b.lost)

left_is : (x y : ℤ) → left_of_mid (side_of x y) (mid_of x y) ≡ x
left_is x y = half_of (twice_of (mid_of x y) (side_of x y) +ℤ side_of x y) x (omega (arith, ints, twice_is x y))

right_is : (x y : ℤ) → right_of_mid (mid_of x y) (side_of x y) ≡ y
right_is x y = half_of (twice_of (mid_of x y) (side_of x y) -ℤ side_of x y) y (omega (arith, ints, twice_is x y))

-- ---- each mode

-- both coded channels, taken apart
one_after : (block : ℕ) (a b : List ℤ) → length a ≡ block → (take block (a ++ b) ≡ a) × (drop block (a ++ b) ≡ b)
one_after block a b e = (ap (λ (k : ℕ). take k (a ++ b)) (sym e) ∙ take-append_seam a b, ap (λ (k : ℕ). drop k (a ++ b)) (sym e) ∙ drop-append_seam a b)

plain_by : (n depth block : ℕ) (xs : List ℤ) → n ≤ 7 → plain_channels n depth block xs ≡ Some xs
unfolding plain_channels
plain_by n depth block xs few = rw (ne_eqb n 8 (λ e. omega (arith, e, few)), ne_eqb n 9 (λ e. omega (arith, e, few)), ne_eqb n 10 (λ e. omega (arith, e, few))) refl

left_side : (depth block : ℕ) (coded : List ℤ) → plain_channels 8 depth block coded ≡ one_after_other (take block coded) (channel_by right_of_side depth (take block coded) (drop block coded))
unfolding plain_channels
left_side depth block coded = refl

side_right : (depth block : ℕ) (coded : List ℤ) → plain_channels 9 depth block coded ≡ channel_pair (channel_by left_of_side depth (drop block coded) (take block coded)) (Some (drop block coded))
unfolding plain_channels
side_right depth block coded = refl

mid_side : (depth block : ℕ) (coded : List ℤ) → plain_channels 10 depth block coded ≡ channel_pair (channel_by left_of_mid depth (drop block coded) (take block coded)) (channel_by right_of_mid depth (take block coded) (drop block coded))
unfolding plain_channels
mid_side depth block coded = refl

-- two channels of one length
pub record ArePair (depth block : ℕ) (l r : List ℤ) : Type 0 where
  pub left : length l ≡ block
  pub right : length r ≡ block
  pub left_fits : HaveDepth depth l
  pub right_fits : HaveDepth depth r

same_length : (depth block : ℕ) (l r : List ℤ) → ArePair depth block l r → length l ≡ length r
same_length depth block l r h = h.left ∙ sym h.right

right_back : (depth block : ℕ) (l r : List ℤ) → ArePair depth block l r → channel_by right_of_side depth l (pairwise side_of l r) ≡ Some r
right_back depth block l r h =
    let e = same_length depth block l r h in
    ap (λ (v : List ℤ). channel_by right_of_side depth v (pairwise side_of l r)) (sym (all_left l r e))
    ∙ (channel_back right_of_side left_one side_of right_one depth l r e (λ x y. omega (arith, ints)) (subst (HaveDepth depth) (sym (all_right l r e)) h.right_fits) ∙ ap (λ (v : List ℤ). Some v) (all_right l r e))

left_back : (depth block : ℕ) (l r : List ℤ) → ArePair depth block l r → channel_by left_of_side depth r (pairwise side_of l r) ≡ Some l
left_back depth block l r h =
    let e = same_length depth block l r h in
    ap (λ (v : List ℤ). channel_by left_of_side depth v (pairwise side_of l r)) (sym (all_right l r e))
    ∙ (channel_back left_of_side right_one side_of left_one depth l r e (λ x y. omega (arith, ints)) (subst (HaveDepth depth) (sym (all_left l r e)) h.left_fits) ∙ ap (λ (v : List ℤ). Some v) (all_left l r e))

left_of_both : (depth block : ℕ) (l r : List ℤ) → ArePair depth block l r → channel_by left_of_mid depth (pairwise side_of l r) (pairwise mid_of l r) ≡ Some l
left_of_both depth block l r h =
    let e = same_length depth block l r h in
    channel_back left_of_mid side_of mid_of left_one depth l r e left_is (subst (HaveDepth depth) (sym (all_left l r e)) h.left_fits) ∙ ap (λ (v : List ℤ). Some v) (all_left l r e)

right_of_both : (depth block : ℕ) (l r : List ℤ) → ArePair depth block l r → channel_by right_of_mid depth (pairwise mid_of l r) (pairwise side_of l r) ≡ Some r
right_of_both depth block l r h =
    let e = same_length depth block l r h in
    channel_back right_of_mid mid_of side_of right_one depth l r e right_is (subst (HaveDepth depth) (sym (all_right l r e)) h.right_fits) ∙ ap (λ (v : List ℤ). Some v) (all_right l r e)

channels_of_block : (f : BlockFormat) (block : ℕ) (xs : List ℤ) → f.channels ≡ 2 → IsBlock f block xs → ArePair f.depth block (take block xs) (drop block xs)
channels_of_block f block xs two b = record {
  left = left_length f block xs two b;
  right = right_length f block xs two b;
  left_fits = take_fits f.depth block xs b.samples;
  right_fits = drop_fits f.depth block xs b.samples;
}

left_side_back : (depth block : ℕ) (l r : List ℤ) → ArePair depth block l r → plain_channels 8 depth block (l ++ pairwise side_of l r) ≡ Some (l ++ r)
left_side_back depth block l r h =
    let s = pairwise side_of l r in
    let cut = one_after block l s h.left in
    left_side depth block (l ++ s) ∙ (rw (cut.0, cut.1) (ap (one_after_other l) (right_back depth block l r h)))

side_right_back : (depth block : ℕ) (l r : List ℤ) → ArePair depth block l r → plain_channels 9 depth block (pairwise side_of l r ++ r) ≡ Some (l ++ r)
side_right_back depth block l r h =
    let s = pairwise side_of l r in
    let cut = one_after block s r (length-pairwise side_of l r (same_length depth block l r h) ∙ h.left) in
    side_right depth block (s ++ r) ∙ (rw (cut.0, cut.1) (ap (λ (o : Option (List ℤ)). channel_pair o (Some r)) (left_back depth block l r h)))

mid_side_back : (depth block : ℕ) (l r : List ℤ) → ArePair depth block l r → plain_channels 10 depth block (pairwise mid_of l r ++ pairwise side_of l r) ≡ Some (l ++ r)
mid_side_back depth block l r h =
    let s = pairwise side_of l r in
    let t = pairwise mid_of l r in
    let cut = one_after block t s (length-pairwise mid_of l r (same_length depth block l r h) ∙ h.left) in
    mid_side depth block (t ++ s) ∙ (rw (cut.0, cut.1)
    (ap (λ (o : Option (List ℤ)). channel_pair o (channel_by right_of_mid depth t s)) (left_of_both depth block l r h) ∙ ap (one_after_other l) (right_of_both depth block l r h)))

pub samples_back : (f : BlockFormat) (m : ChannelMode) (block : ℕ) (xs : List ℤ) → IsFormat f → IsModeOf f m → IsBlock f block xs → plain_channels (assignment_of f.channels m) f.depth block (coded_of m block xs) ≡ Some xs
samples_back f Independent block xs h o b = plain_by (f.channels - 1) f.depth block xs (omega (arith, h.few))
samples_back f LeftSide block xs h o b = left_side_back f.depth block (take block xs) (drop block xs) (channels_of_block f block xs o b) ∙ ap (λ (v : List ℤ). Some v) (take-append-drop block xs)
samples_back f SideRight block xs h o b = side_right_back f.depth block (take block xs) (drop block xs) (channels_of_block f block xs o b) ∙ ap (λ (v : List ℤ). Some v) (take-append-drop block xs)
samples_back f MidSide block xs h o b = mid_side_back f.depth block (take block xs) (drop block xs) (channels_of_block f block xs o b) ∙ ap (λ (v : List ℤ). Some v) (take-append-drop block xs)
