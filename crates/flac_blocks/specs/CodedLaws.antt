-- Coded channels: how many samples they have, and that these have their depth.
use Rattle.std.proofs.Common.{ℕ, zero, suc, ℤ, pos, negsuc, neg_ℤ, ◌≡◌, ◌<◌, ◌≤◌, ◌+◌, ◌-◌, ◌*◌, ◌^◌, ◌+ℤ◌, ◌-ℤ◌, ◌≤ℤ◌, ◌<ℤ◌, Bool, true, false, cond, ◌==◌, ◌||◌, IsTrue, nat_lt, min, List, [], ◌∷◌, ◌++◌, length, take, drop, inl, inr, eqb, refl, ap, sym, subst, ◌∙◌, arith, length-append, length-take, length-drop, length-take-le}
use Rattle.std.specs.Int.{int_div_euclid}
use Rattle.std.proofs.Math.Nat.{pow-suc}
use Rattle.std.proofs.Math.Seq.{take-append_seam, drop-append_seam}
use Rattle.std.proofs.lemmas.Bool.{ne_eqb, cases_lt, lt-ltb, le-ltb, eqb-true, and_parts}
use Rattle.std.specs.List.{AllByRecursion, flat_map, range_with_len}
use Rattle.std.proofs.lemmas.Int.{ints}
use Rattle.std.proofs.lemmas.List.{take-append-drop, take_all, get_or-take, get_or-drop}
use Rattle.flac_definitions.specs.FixedPredictors.{at}
use Rattle.flac_definitions.specs.SubframeWriting.{HasDepth, HaveDepth}
use Rattle.flac_definitions.specs.Candidates.{candidate_bits, best_candidate, shorter, first_shortest, shortest_of, is_constant, fixed_candidates}
use Rattle.flac_definitions.specs.declared.candidate.Candidate.{Candidate}
use Rattle.flac_definitions.specs.declared.candidate.Candidate.TheVariants.{Constant, Verbatim}
use Rattle.flac_definitions.specs.Stereo.{channel_depth}
use Rattle.flac_definitions.specs.declared.mode.BlockFormat.{BlockFormat}
use Rattle.flac_definitions.specs.declared.mode.ChannelMode.{ChannelMode}
use Rattle.flac_definitions.specs.declared.mode.ChannelMode.TheVariants.{Independent, LeftSide, SideRight, MidSide}
use Rattle.flac_definitions.specs.HeaderWriting.{IsWritable}
use Rattle.flac_definitions.specs.FrameWriting.{header_of}
use Rattle.flac_definitions.specs.Modes.{channel_of, pairwise, side_of, mid_of, coded_of, assignment_of, coded_depth, mode_bits, has_pairs, pair_modes, best_mode, IsModeOf, IsFormat, IsBlock}
use Rattle.flac_blocks.specs.Search.{first_of, second_of, AreFitting}

pub pairwise_filled : (f : ℤ → ℤ → ℤ) (xs ys out : List ℤ) → length xs ≡ length ys → length out ≡ length xs → ((k : ℕ) → k < length xs → at out k ≡ f (at xs k) (at ys k)) → out ≡ pairwise f xs ys
pairwise_filled f [] ys [] e l h = refl
pairwise_filled f [] ys (o ∷ out) e l h = absurd (omega (arith, l))
pairwise_filled f (x ∷ xs) [] out e l h = absurd (omega (arith, e))
pairwise_filled f (x ∷ xs) (y ∷ ys) [] e l h = absurd (omega (arith, l))
pairwise_filled f (x ∷ xs) (y ∷ ys) (o ∷ out) e l h =
    ap (λ (z : ℤ). z ∷ out) (h 0 (omega arith)) ∙ ap (λ (zs : List ℤ). f x y ∷ zs) (pairwise_filled f xs ys out (omega (arith, e)) (omega (arith, l)) (λ k s. h (suc k) (omega (arith, s))))

pub length-pairwise : (f : ℤ → ℤ → ℤ) (xs ys : List ℤ) → length xs ≡ length ys → length (pairwise f xs ys) ≡ length xs
length-pairwise f [] ys e = refl
length-pairwise f (x ∷ xs) [] e = absurd (omega (arith, e))
length-pairwise f (x ∷ xs) (y ∷ ys) e = ap suc (length-pairwise f xs ys (omega (arith, e)))

pub at-pairwise : (f : ℤ → ℤ → ℤ) (xs ys : List ℤ) (k : ℕ) → length xs ≡ length ys → k < length xs → at (pairwise f xs ys) k ≡ f (at xs k) (at ys k)
at-pairwise f [] ys k e l = absurd (omega (arith, l))
at-pairwise f (x ∷ xs) [] k e l = absurd (omega (arith, e))
at-pairwise f (x ∷ xs) (y ∷ ys) zero e l = refl
at-pairwise f (x ∷ xs) (y ∷ ys) (suc k) e l = at-pairwise f xs ys k (omega (arith, e)) (omega (arith, l))

-- ---- depths

side_within : (p q : ℕ) (a b : ℤ) → q ≡ 2 * p → neg_ℤ (pos p) ≤ℤ a → a <ℤ pos p → neg_ℤ (pos p) ≤ℤ b → b <ℤ pos p → (neg_ℤ (pos q) ≤ℤ (a -ℤ b)) × ((a -ℤ b) <ℤ pos q)
side_within p q a b e al ah bl bh = (omega (arith, ints, e, al, bh), omega (arith, ints, e, ah, bl))

pub side_fits : (depth : ℕ) (a b : ℤ) → 1 ≤ depth → HasDepth depth a → HasDepth depth b → HasDepth (depth + 1) (side_of a b)
side_fits depth a b some x y =
    let wide : 2 ^ (depth + 1 - 1) ≡ 2 * 2 ^ (depth - 1) = ap (λ (n : ℕ). 2 ^ n) (let s : depth + 1 - 1 ≡ suc (depth - 1) = omega (arith, some) in s) ∙ (pow-suc 2 (depth - 1) ∙ omega arith) in
    let w = side_within (2 ^ (depth - 1)) (2 ^ (depth + 1 - 1)) a b wide x.low x.high y.low y.high in
    record { low = w.0; high = w.1 }

half_within : (p : ℕ) (s : ℤ) → neg_ℤ (pos (2 * p)) ≤ℤ s → s <ℤ pos (2 * p) → (neg_ℤ (pos p) ≤ℤ int_div_euclid s (pos 2)) × (int_div_euclid s (pos 2) <ℤ pos p)
half_within p (pos n) l h = (omega (arith, ints, h), omega (arith, ints, h))
half_within p (negsuc n) l h = (omega (arith, ints, l), omega (arith, ints, l))

pub mid_fits : (depth : ℕ) (a b : ℤ) → HasDepth depth a → HasDepth depth b → HasDepth depth (mid_of a b)
mid_fits depth a b x y =
    let w = half_within (2 ^ (depth - 1)) (a +ℤ b) (omega (arith, ints, x.low, y.low)) (omega (arith, ints, x.high, y.high)) in
    record { low = w.0; high = w.1 }

pub sides_fit : (depth : ℕ) (xs ys : List ℤ) → 1 ≤ depth → length xs ≡ length ys → HaveDepth depth xs → HaveDepth depth ys → HaveDepth (depth + 1) (pairwise side_of xs ys)
sides_fit depth xs ys some e x y = λ j l.
    let less : j < length xs = omega (arith, l, length-pairwise side_of xs ys e) in
    subst (HasDepth (depth + 1)) (sym (at-pairwise side_of xs ys j e less)) (side_fits depth (at xs j) (at ys j) some (x j less) (y j (omega (arith, less, e))))

pub mids_fit : (depth : ℕ) (xs ys : List ℤ) → length xs ≡ length ys → HaveDepth depth xs → HaveDepth depth ys → HaveDepth depth (pairwise mid_of xs ys)
mids_fit depth xs ys e x y = λ j l.
    let less : j < length xs = omega (arith, l, length-pairwise mid_of xs ys e) in
    subst (HasDepth depth) (sym (at-pairwise mid_of xs ys j e less)) (mid_fits depth (at xs j) (at ys j) (x j less) (y j (omega (arith, less, e))))

-- ---- the two channels of a pair

pub channel_first : (block : ℕ) (a b : List ℤ) → length a ≡ block → channel_of block (a ++ b) 0 ≡ a
channel_first block a b e =
    let z : 0 * block ≡ 0 = omega arith in
    ap (λ (k : ℕ). take block (drop k (a ++ b))) z ∙ (ap (λ (k : ℕ). take k (a ++ b)) (sym e) ∙ take-append_seam a b)

pub channel_second : (block : ℕ) (a b : List ℤ) → length a ≡ block → length b ≡ block → channel_of block (a ++ b) 1 ≡ b
channel_second block a b e h =
    let z : 1 * block ≡ length a = omega (arith, e) in
    ap (λ (k : ℕ). take block (drop k (a ++ b))) z ∙ (ap (take block) (drop-append_seam a b) ∙ take_all block b (omega (arith, h)))

pub first_each : {A : Type 0} (P : A → Type 0) (l r s t : A) (m : ChannelMode) → P l → P r → P s → P t → P (first_of l r s t m)
first_each P l r s t Independent pl pr ps pt = pl
first_each P l r s t LeftSide pl pr ps pt = pl
first_each P l r s t SideRight pl pr ps pt = ps
first_each P l r s t MidSide pl pr ps pt = pt

pub second_each : {A : Type 0} (P : A → Type 0) (l r s t : A) (m : ChannelMode) → P l → P r → P s → P t → P (second_of l r s t m)
second_each P l r s t Independent pl pr ps pt = pr
second_each P l r s t LeftSide pl pr ps pt = ps
second_each P l r s t SideRight pl pr ps pt = pr
second_each P l r s t MidSide pl pr ps pt = ps

-- the coded channels of a mode, by those of which they are made
pub coded_parts : (m : ChannelMode) (block : ℕ) (xs : List ℤ) →
    let l = take block xs in let r = drop block xs in let s = pairwise side_of l r in let t = pairwise mid_of l r in
    coded_of m block xs ≡ first_of l r s t m ++ second_of l r s t m
coded_parts Independent block xs = sym (take-append-drop block xs)
coded_parts LeftSide block xs = refl
coded_parts SideRight block xs = refl
coded_parts MidSide block xs = refl

-- ---- depths of coded channels

plain_depth_by : (n depth c : ℕ) → 1 ≤ n → n ≤ 8 → channel_depth (n - 1) depth c ≡ depth
plain_depth_by n depth zero some few = ap (λ (t : Bool). cond t (depth + 1) depth) (ne_eqb (n - 1) 9 (λ e. omega (arith, e, some, few)))
plain_depth_by n depth (suc zero) some few =
    ap (λ (t : Bool). cond (cond t true (eqb (n - 1) 10)) (depth + 1) depth) (ne_eqb (n - 1) 8 (λ e. omega (arith, e, some, few)))
    ∙ ap (λ (t : Bool). cond t (depth + 1) depth) (ne_eqb (n - 1) 10 (λ e. omega (arith, e, some, few)))
plain_depth_by n depth (suc (suc c)) some few = rw (ne_eqb (suc (suc c)) 0 (λ e. omega (arith, e)), ne_eqb (suc (suc c)) 1 (λ e. omega (arith, e))) refl

pub plain_depth : (f : BlockFormat) (c : ℕ) → IsFormat f → coded_depth f Independent c ≡ f.depth
plain_depth f c h = plain_depth_by f.channels f.depth c h.some h.few

pub first_depth : (f : BlockFormat) (m : ChannelMode) → IsFormat f → coded_depth f m 0 ≡ first_of f.depth f.depth (f.depth + 1) f.depth m
first_depth f Independent h = plain_depth f 0 h
first_depth f LeftSide h = refl
first_depth f SideRight h = refl
first_depth f MidSide h = refl

pub second_depth : (f : BlockFormat) (m : ChannelMode) → IsFormat f → coded_depth f m 1 ≡ second_of f.depth f.depth (f.depth + 1) f.depth m
second_depth f Independent h = plain_depth f 1 h
second_depth f LeftSide h = refl
second_depth f SideRight h = refl
second_depth f MidSide h = refl

pub take_fits : (depth n : ℕ) (xs : List ℤ) → HaveDepth depth xs → HaveDepth depth (take n xs)
take_fits depth n xs h = λ j l.
    let less : j < n = omega (arith, l, length-take n xs) in
    subst (HasDepth depth) (sym (get_or-take n xs j (pos 0) less)) (h j (omega (arith, l, length-take n xs)))

pub drop_fits : (depth n : ℕ) (xs : List ℤ) → HaveDepth depth xs → HaveDepth depth (drop n xs)
drop_fits depth n xs h = λ j l.
    subst (HasDepth depth) (sym (get_or-drop n xs j (pos 0))) (h (n + j) (omega (arith, l, length-drop n xs)))

-- both channels of a block of two, and what is coded of them
pub left_length : (f : BlockFormat) (block : ℕ) (xs : List ℤ) → f.channels ≡ 2 → IsBlock f block xs → length (take block xs) ≡ block
left_length f block xs e h =
    let n : length xs ≡ 2 * block = h.count ∙ ap (λ (k : ℕ). k * block) e in
    length-take-le block xs (omega (arith, n))

pub right_length : (f : BlockFormat) (block : ℕ) (xs : List ℤ) → f.channels ≡ 2 → IsBlock f block xs → length (drop block xs) ≡ block
right_length f block xs e h =
    let n : length xs ≡ 2 * block = h.count ∙ ap (λ (k : ℕ). k * block) e in
    omega (arith, n, length-drop block xs)

pub depth_is : (d : ℕ) → IsTrue ((d == 8) || (d == 16) || (d == 24) || (d == 32)) → (1 ≤ d) × (d ≤ 32) × (d < 32 → d ≤ 24)
depth_is d t = by (d == 8) (d == 16) (d == 24) (d == 32) refl refl refl refl t
  where
    by : (i j k l : Bool) → (d == 8) ≡ i → (d == 16) ≡ j → (d == 24) ≡ k → (d == 32) ≡ l → IsTrue (i || j || k || l) → (1 ≤ d) × (d ≤ 32) × (d < 32 → d ≤ 24)
    by true j k l ei ej ek el t = (let e = eqb-true d 8 ei in (omega (arith, e), omega (arith, e), λ s. omega (arith, e)))
    by false true k l ei ej ek el t = (let e = eqb-true d 16 ej in (omega (arith, e), omega (arith, e), λ s. omega (arith, e)))
    by false false true l ei ej ek el t = (let e = eqb-true d 24 ek in (omega (arith, e), omega (arith, e), λ s. omega (arith, e)))
    by false false false true ei ej ek el t = (let e = eqb-true d 32 el in (omega (arith, e), omega (arith, e), λ s. absurd (omega (arith, e, s))))
    by false false false false ei ej ek el t = absurd (let n : ⊥ = cc in n)

pub depth_some : (f : BlockFormat) → IsFormat f → 1 ≤ f.depth
depth_some f h = (depth_is f.depth h.depth).0

pub pair_fits : (f : BlockFormat) (m : ChannelMode) (block : ℕ) (xs : List ℤ) → f.channels ≡ 2 → IsFormat f → IsBlock f block xs → AreFitting f m block (coded_of m block xs)
pair_fits f m block xs e h b = λ c less. at_channel c (omega (arith, less, e))
  where
    d : ℕ
    d = f.depth

    l : List ℤ
    l = take block xs

    r : List ℤ
    r = drop block xs

    s : List ℤ
    s = pairwise side_of l r

    t : List ℤ
    t = pairwise mid_of l r

    ll : length l ≡ block
    ll = left_length f block xs e b

    lr : length r ≡ block
    lr = right_length f block xs e b

    same : length l ≡ length r
    same = ll ∙ sym lr

    ls : length s ≡ block
    ls = length-pairwise side_of l r same ∙ ll

    lt : length t ≡ block
    lt = length-pairwise mid_of l r same ∙ ll

    fl : HaveDepth d l
    fl = take_fits d block xs b.samples

    fr : HaveDepth d r
    fr = drop_fits d block xs b.samples

    fs : HaveDepth (d + 1) s
    fs = sides_fit d l r (depth_some f h) same fl fr

    ft : HaveDepth d t
    ft = mids_fit d l r same fl fr

    has_block : (x : List ℤ) → Type 0
    has_block x = length x ≡ block

    one : List ℤ
    one = first_of l r s t m

    other : List ℤ
    other = second_of l r s t m

    l1 : length one ≡ block
    l1 = first_each (λ x. length x ≡ block) l r s t m ll lr ls lt

    l2 : length other ≡ block
    l2 = second_each (λ x. length x ≡ block) l r s t m ll lr ls lt

    first_fits : (m : ChannelMode) → HaveDepth (first_of d d (d + 1) d m) (first_of l r s t m)
    first_fits Independent = fl
    first_fits LeftSide = fl
    first_fits SideRight = fs
    first_fits MidSide = ft

    second_fits : (m : ChannelMode) → HaveDepth (second_of d d (d + 1) d m) (second_of l r s t m)
    second_fits Independent = fr
    second_fits LeftSide = fs
    second_fits SideRight = fr
    second_fits MidSide = fs

    here : (c k : ℕ) (x : List ℤ) → coded_depth f m c ≡ k → channel_of block (coded_of m block xs) c ≡ x → HaveDepth k x → HaveDepth (coded_depth f m c) (channel_of block (coded_of m block xs) c)
    here c k x p q z = subst (λ (n : ℕ). HaveDepth n (channel_of block (coded_of m block xs) c)) (sym p) (subst (HaveDepth k) (sym q) z)

    at_channel : (c : ℕ) → c < 2 → HaveDepth (coded_depth f m c) (channel_of block (coded_of m block xs) c)
    at_channel zero less = here 0 (first_of d d (d + 1) d m) one (first_depth f m h) (ap (λ (x : List ℤ). channel_of block x 0) (coded_parts m block xs) ∙ channel_first block one other l1) (first_fits m)
    at_channel (suc zero) less = here 1 (second_of d d (d + 1) d m) other (second_depth f m h) (ap (λ (x : List ℤ). channel_of block x 1) (coded_parts m block xs) ∙ channel_second block one other l1 l2) (second_fits m)
    at_channel (suc (suc c)) less = absurd (omega (arith, less))

pub plain_fits : (f : BlockFormat) (block : ℕ) (xs : List ℤ) → IsFormat f → IsBlock f block xs → AreFitting f Independent block xs
plain_fits f block xs h b = λ c less.
    subst (λ (n : ℕ). HaveDepth n (channel_of block xs c)) (sym (plain_depth f c h)) (take_fits f.depth block (drop (c * block) xs) (drop_fits f.depth (c * block) xs b.samples))

pub coded_fits : (f : BlockFormat) (m : ChannelMode) (block : ℕ) (xs : List ℤ) → IsModeOf f m → IsFormat f → IsBlock f block xs → AreFitting f m block (coded_of m block xs)
coded_fits f Independent block xs o h b = plain_fits f block xs h b
coded_fits f LeftSide block xs o h b = pair_fits f LeftSide block xs o h b
coded_fits f SideRight block xs o h b = pair_fits f SideRight block xs o h b
coded_fits f MidSide block xs o h b = pair_fits f MidSide block xs o h b

pub pair_count : (f : BlockFormat) (m : ChannelMode) (block : ℕ) (xs : List ℤ) → f.channels ≡ 2 → IsBlock f block xs → length (coded_of m block xs) ≡ f.channels * block
pair_count f m block xs e b =
    let l = take block xs in
    let r = drop block xs in
    let s = pairwise side_of l r in
    let t = pairwise mid_of l r in
    let ll = left_length f block xs e b in
    let lr = right_length f block xs e b in
    let ls : length s ≡ block = length-pairwise side_of l r (ll ∙ sym lr) ∙ ll in
    let lt : length t ≡ block = length-pairwise mid_of l r (ll ∙ sym lr) ∙ ll in
    let l1 : length (first_of l r s t m) ≡ block = first_each (λ x. length x ≡ block) l r s t m ll lr ls lt in
    let l2 : length (second_of l r s t m) ≡ block = second_each (λ x. length x ≡ block) l r s t m ll lr ls lt in
    ap (λ (x : List ℤ). length x) (coded_parts m block xs) ∙ (length-append (first_of l r s t m) (second_of l r s t m) ∙ omega (arith, l1, l2, ap (λ (k : ℕ). k * block) e))

pub coded_count : (f : BlockFormat) (m : ChannelMode) (block : ℕ) (xs : List ℤ) → IsModeOf f m → IsBlock f block xs → length (coded_of m block xs) ≡ f.channels * block
coded_count f Independent block xs o b = b.count
coded_count f LeftSide block xs o b = pair_count f LeftSide block xs o b
coded_count f SideRight block xs o b = pair_count f SideRight block xs o b
coded_count f MidSide block xs o b = pair_count f MidSide block xs o b

-- ---- the first of least length

pub shortest_each : {A : Type 0} (P : A → Type 0) (g : A → ℕ) (a : A) (bs : List A) → P a → AllByRecursion P bs → P (first_shortest g a bs)
unfolding first_shortest
shortest_each P g a [] own h = own
shortest_each P g a (b ∷ bs) own h = shortest_each P g (cond (nat_lt (g b) (g a)) b a) bs (by (nat_lt (g b) (g a))) h.1
  where
    by : (t : Bool) → P (cond t b a)
    by true = h.0
    by false = own

pub shortest_same : {A : Type 0} (f g : A → ℕ) (a : A) (bs : List A) → ((x : A) → f x ≡ g x) → first_shortest f a bs ≡ first_shortest g a bs
unfolding first_shortest
shortest_same f g a [] e = refl
shortest_same {A} f g a (b ∷ bs) e =
    let same : shorter f a b ≡ shorter g a b = ap (λ (n : ℕ). cond (nat_lt n (f a)) b a) (e b) ∙ ap (λ (n : ℕ). cond (nat_lt (g b) n) b a) (e a) in
    ap (λ (x : A). first_shortest f x bs) same ∙ shortest_same f g (shorter g a b) bs e

shorter_both : {A : Type 0} (g : A → ℕ) (a b : A) → (g (shorter g a b) ≤ g a) × (g (shorter g a b) ≤ g b)
shorter_both {A} g a b = elim (cases_lt (g b) (g a)) [
  | inl l ↦ (let e : shorter g a b ≡ b = ap (λ (t : Bool). cond t b a) (lt-ltb (g b) (g a) l) in (omega (arith, l, ap g e), omega (arith, ap g e)))
  | inr n ↦ (let e : shorter g a b ≡ a = ap (λ (t : Bool). cond t b a) (le-ltb (g b) (g a) n) in (omega (arith, ap g e), omega (arith, n, ap g e)))
]

pub shortest_at_most : {A : Type 0} (g : A → ℕ) (a : A) (bs : List A) → g (first_shortest g a bs) ≤ g a
unfolding first_shortest
shortest_at_most g a [] = omega arith
shortest_at_most g a (b ∷ bs) = omega (arith, shortest_at_most g (shorter g a b) bs, (shorter_both g a b).0)

-- no more bits than verbatim
pub few_bits : (depth level : ℕ) (xs : List ℤ) → candidate_bits depth xs (best_candidate depth level xs) ≤ 8 + depth * length xs
unfolding first_shortest
few_bits depth level xs = by (is_constant xs)
  where
    g : Candidate → ℕ
    g = candidate_bits depth xs

    rest : List Candidate
    rest = flat_map (fixed_candidates (min level 6) xs) (range_with_len 0 (min level 4 + 1))

    by : (t : Bool) → candidate_bits depth xs (shortest_of (candidate_bits depth xs) (cond t (Constant ∷ []) [] ++ Verbatim ∷ rest)) ≤ 8 + depth * length xs
    by true = omega (arith, shortest_at_most g (shorter g Constant Verbatim) rest, (shorter_both g Constant Verbatim).1)
    by false = shortest_at_most g Verbatim rest

pub best_is_mode : (f : BlockFormat) (block : ℕ) (xs : List ℤ) → IsModeOf f (best_mode f block xs)
best_is_mode f block xs = by (has_pairs f) refl
  where
    by : (t : Bool) → has_pairs f ≡ t → IsModeOf f (first_shortest (mode_bits f block xs) Independent (cond t pair_modes []))
    by true e =
        let two : f.channels ≡ 2 = eqb-true f.channels 2 (and_parts (f.channels == 2) _ e).0 in
        shortest_each (IsModeOf f) (mode_bits f block xs) Independent pair_modes tt (two, (two, (two, tt)))
    by false e = shortest_each (IsModeOf f) (mode_bits f block xs) Independent [] tt tt

-- ---- the header

few_channels : (f : BlockFormat) (m : ChannelMode) → IsFormat f → assignment_of f.channels m ≤ 10
few_channels f Independent h = omega (arith, h.few)
few_channels f LeftSide h = omega arith
few_channels f SideRight h = omega arith
few_channels f MidSide h = omega arith

pub header_writable : (f : BlockFormat) (m : ChannelMode) (block number : ℕ) → IsFormat f → 0 < block → block ≤ 65535 → number < 2 ^ 31 → IsWritable (header_of f m block number)
header_writable f m block number h some few small = record { some = some; few = few; depth = h.depth; assignment = few_channels f m h; number = small }
