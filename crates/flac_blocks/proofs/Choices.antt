-- The choices of a block's channels.
use Rattle.std.proofs.Common.{ℕ, zero, suc, ℤ, ◌≡◌, ◌<◌, ◌≤◌, ◌+◌, ◌-◌, ◌*◌, ◌^◌, ◌==◌, Bool, true, false, cond, nat_lt, List, [], ◌∷◌, ◌++◌, length, take, drop, get_or, sum_by, inl, inr, Result, Ok, Err, refl, ap, sym, subst, ◌∙◌, arith, lit<}
use Rattle.std.specs.Prelude.{slice_index_or}
use Rattle.std.specs.Result.{IfOk}
use Rattle.wc_base.specs.declared.error.NoMemory.{NoMemory}
use Rattle.std.specs.List.{range_with_len}
use Rattle.std.proofs.Math.Nat.{pow-le-pow_right, mul-le-mul_right}
use Rattle.std.proofs.Math.ListN.{get_or-append}
use Rattle.std.proofs.Math.Seq.{get_or-append_seam}
use Rattle.std.proofs.lemmas.Bool.{cases_lt, and_parts, eqb-true, ltb-true}
use Rattle.std.proofs.lemmas.Int.{ints}
use Rattle.std.proofs.lemmas.List.{take-append-drop}
use Rattle.flac_definitions.specs.Candidates.{shorter, first_shortest}
use Rattle.flac_subframes.specs.Search.{AreWithin}
use Rattle.flac_definitions.specs.SubframeWriting.{HaveDepth}
use Rattle.flac_definitions.specs.declared.candidate.Choice.{Choice}
use Rattle.flac_definitions.specs.declared.mode.BlockFormat.{BlockFormat}
use Rattle.flac_definitions.specs.declared.mode.ChannelMode.{ChannelMode}
use Rattle.flac_definitions.specs.declared.mode.ChannelMode.TheVariants.{Independent, LeftSide, SideRight, MidSide}
use Rattle.flac_definitions.specs.declared.mode.BlockChoice.{BlockChoice}
use Rattle.flac_definitions.specs.Modes.{channel_of, pairwise, side_of, mid_of, coded_of, coded_depth, channel_bits, mode_bits, has_pairs, pair_modes, best_mode, IsFormat, IsBlock, AreChoices, IsBestBlock}
use Rattle.flac_blocks.specs.Search.{first_of, second_of, pair_bits, IsBest}
use Rattle.flac_blocks.specs.CodedLaws.{length-pairwise, left_length, right_length, channel_first, channel_second, first_each, second_each, first_depth, second_depth, plain_depth, depth_is, shortest_same, few_bits}

-- ---- one choice more

pub choice_more : (P : ℕ → Choice → Type 0) (items : List Choice) (x : Choice) (n : ℕ) → length items ≡ n → ((k : ℕ) (d : Choice) → k < n → P k (slice_index_or items k d)) → P n x
    → (k : ℕ) (d : Choice) → k < n + 1 → P k (slice_index_or (items ++ x ∷ []) k d)
choice_more P items x n e h own = λ k d less. elim (cases_lt k n) [
  | inl l ↦ subst (P k) (sym (get_or-append items (x ∷ []) d k (omega (arith, l, e)))) (h k d l)
  | inr g ↦ (
      let same : n ≡ k = omega (arith, g, less) in
      let place : k ≡ length items = omega (arith, same, e) in
      let here : slice_index_or (items ++ x ∷ []) k d ≡ x = ap (λ (m : ℕ). get_or (items ++ x ∷ []) m d) place ∙ get_or-append_seam items x [] d in
      subst (P k) (sym here) (subst (λ (m : ℕ). P m x) same own))
]

-- choices for channels that are coded each by itself
pub plain_choices : (f : BlockFormat) (block : ℕ) (xs : List ℤ) (items : List Choice) → IsFormat f → ((k : ℕ) (d : Choice) → k < f.channels → IsBest f.depth f.level (channel_of block xs k) (slice_index_or items k d)) → AreChoices f Independent block xs items
plain_choices f block xs items h own = λ c d less.
    subst (λ (n : ℕ). IsBest n f.level (channel_of block xs c) (slice_index_or items c d)) (sym (plain_depth f c h)) (own c d less)

pub plain_mode : (f : BlockFormat) (block : ℕ) (xs : List ℤ) → has_pairs f ≡ false → best_mode f block xs ≡ Independent
unfolding first_shortest
plain_mode f block xs e = ap (λ (t : Bool). first_shortest (mode_bits f block xs) Independent (cond t pair_modes [])) e

-- ---- pairs

pub three_modes : (g : ChannelMode → ℕ) (a b c : ChannelMode) → a ≡ shorter g Independent LeftSide → b ≡ shorter g a SideRight → c ≡ shorter g b MidSide → c ≡ first_shortest g Independent pair_modes
unfolding first_shortest
three_modes g a b c x y z = z ∙ ap (λ (m : ChannelMode). shorter g m MidSide) (y ∙ ap (λ (m : ChannelMode). shorter g m SideRight) x)

pub pair_is : (f : BlockFormat) → has_pairs f ≡ true → (f.channels ≡ 2) × (f.depth < 32)
pair_is f e =
    let parts = and_parts (f.channels == 2) _ e in
    (eqb-true f.channels 2 parts.0, ltb-true f.depth 32 (and_parts (nat_lt f.depth 32) _ parts.1).0)

pub depth_small : (f : BlockFormat) → IsFormat f → has_pairs f ≡ true → f.depth ≤ 24
depth_small f h e = (depth_is f.depth h.depth).2 (pair_is f e).1

pub within : (depth : ℕ) (xs : List ℤ) → depth ≤ 24 → HaveDepth depth xs → AreWithin (2 ^ 24) xs
within depth xs few h = λ j l.
    let up : 2 ^ (depth - 1) ≤ 2 ^ 24 = pow-le-pow_right (lit< tt) (let s : depth - 1 ≤ 24 = omega (arith, few) in s) in
    let own = h j l in
    record { low = omega (arith, ints, own.low, up); high = omega (arith, ints, own.high, up) }

pub small_bits : (depth level : ℕ) (xs : List ℤ) (choice : Choice) → depth ≤ 33 → length xs ≤ 65535 → IsBest depth level xs choice → choice.bits < 2 ^ 32
small_bits depth level xs choice d n h =
    let a : depth * length xs ≤ 33 * length xs = mul-le-mul_right (length xs) d in
    omega (arith, h.bits, few_bits depth level xs, a, n)

pub parts_of : (block : ℕ) (xs l r s t : List ℤ) → l ≡ take block xs → r ≡ drop block xs → s ≡ pairwise side_of l r → t ≡ pairwise mid_of l r → (m : ChannelMode) → coded_of m block xs ≡ first_of l r s t m ++ second_of l r s t m
parts_of block xs l r s t el er es et Independent = rw (el, er) (sym (take-append-drop block xs))
parts_of block xs l r s t el er es et LeftSide = rw (es, el, er) refl
parts_of block xs l r s t el er es et SideRight = rw (es, el, er) refl
parts_of block xs l r s t el er es et MidSide = rw (et, es, el, er) refl

first_bits : (a b c d : Choice) (m : ChannelMode) → (first_of a b c d m).bits ≡ first_of a.bits b.bits c.bits d.bits m
first_bits a b c d Independent = refl
first_bits a b c d LeftSide = refl
first_bits a b c d SideRight = refl
first_bits a b c d MidSide = refl

second_bits : (a b c d : Choice) (m : ChannelMode) → (second_of a b c d m).bits ≡ second_of a.bits b.bits c.bits d.bits m
second_bits a b c d Independent = refl
second_bits a b c d LeftSide = refl
second_bits a b c d SideRight = refl
second_bits a b c d MidSide = refl

two_bits : (n : ℕ) (g : ℕ → ℕ) → n ≡ 2 → sum_by g (range_with_len 0 n) ≡ g 0 + g 1
two_bits n g e = ap (λ (k : ℕ). sum_by g (range_with_len 0 k)) e ∙ omega arith

-- the choices for what a pair may be coded as
pub record ArePair (f : BlockFormat) (block : ℕ) (xs l r s t : List ℤ) (cl cr cs ct : Choice) : Type 0 where
  pub parts : (m : ChannelMode) → coded_of m block xs ≡ first_of l r s t m ++ second_of l r s t m
  pub left_length : length l ≡ block
  pub right_length : length r ≡ block
  pub side_length : length s ≡ block
  pub mid_length : length t ≡ block
  pub left : IsBest f.depth f.level l cl
  pub right : IsBest f.depth f.level r cr
  pub side : IsBest (f.depth + 1) f.level s cs
  pub mid : IsBest f.depth f.level t ct

pub first_best : (f : BlockFormat) (block : ℕ) (xs l r s t : List ℤ) (cl cr cs ct : Choice) (m : ChannelMode) → IsFormat f → ArePair f block xs l r s t cl cr cs ct
    → IsBest (coded_depth f m 0) f.level (channel_of block (coded_of m block xs) 0) (first_of cl cr cs ct m)
first_best f block xs l r s t cl cr cs ct m h p =
    let x = first_of l r s t m in
    let y = second_of l r s t m in
    let long : length x ≡ block = first_each (λ v. length v ≡ block) l r s t m p.left_length p.right_length p.side_length p.mid_length in
    let there : channel_of block (coded_of m block xs) 0 ≡ x = ap (λ (v : List ℤ). channel_of block v 0) (p.parts m) ∙ channel_first block x y long in
    subst (λ (n : ℕ). IsBest n f.level (channel_of block (coded_of m block xs) 0) (first_of cl cr cs ct m)) (sym (first_depth f m h))
    (subst (λ (v : List ℤ). IsBest (first_of f.depth f.depth (f.depth + 1) f.depth m) f.level v (first_of cl cr cs ct m)) (sym there) (by m))
  where
    by : (m : ChannelMode) → IsBest (first_of f.depth f.depth (f.depth + 1) f.depth m) f.level (first_of l r s t m) (first_of cl cr cs ct m)
    by Independent = p.left
    by LeftSide = p.left
    by SideRight = p.side
    by MidSide = p.mid

pub second_best : (f : BlockFormat) (block : ℕ) (xs l r s t : List ℤ) (cl cr cs ct : Choice) (m : ChannelMode) → IsFormat f → ArePair f block xs l r s t cl cr cs ct
    → IsBest (coded_depth f m 1) f.level (channel_of block (coded_of m block xs) 1) (second_of cl cr cs ct m)
second_best f block xs l r s t cl cr cs ct m h p =
    let x = first_of l r s t m in
    let y = second_of l r s t m in
    let one : length x ≡ block = first_each (λ v. length v ≡ block) l r s t m p.left_length p.right_length p.side_length p.mid_length in
    let other : length y ≡ block = second_each (λ v. length v ≡ block) l r s t m p.left_length p.right_length p.side_length p.mid_length in
    let there : channel_of block (coded_of m block xs) 1 ≡ y = ap (λ (v : List ℤ). channel_of block v 1) (p.parts m) ∙ channel_second block x y one other in
    subst (λ (n : ℕ). IsBest n f.level (channel_of block (coded_of m block xs) 1) (second_of cl cr cs ct m)) (sym (second_depth f m h))
    (subst (λ (v : List ℤ). IsBest (second_of f.depth f.depth (f.depth + 1) f.depth m) f.level v (second_of cl cr cs ct m)) (sym there) (by m))
  where
    by : (m : ChannelMode) → IsBest (second_of f.depth f.depth (f.depth + 1) f.depth m) f.level (second_of l r s t m) (second_of cl cr cs ct m)
    by Independent = p.right
    by LeftSide = p.side
    by SideRight = p.right
    by MidSide = p.side

bits_are : (f : BlockFormat) (block : ℕ) (xs l r s t : List ℤ) (cl cr cs ct : Choice) (m : ChannelMode) → f.channels ≡ 2 → IsFormat f → ArePair f block xs l r s t cl cr cs ct
    → mode_bits f block xs m ≡ pair_bits cl.bits cr.bits cs.bits ct.bits m
bits_are f block xs l r s t cl cr cs ct m two h p =
    let g = channel_bits f m block (coded_of m block xs) in
    let a = (first_best f block xs l r s t cl cr cs ct m h p).bits in
    let b = (second_best f block xs l r s t cl cr cs ct m h p).bits in
    two_bits f.channels g two ∙ (ap (λ (k : ℕ). k + g 1) (sym a ∙ first_bits cl cr cs ct m) ∙ ap (λ (k : ℕ). first_of cl.bits cr.bits cs.bits ct.bits m + k) (sym b ∙ second_bits cl cr cs ct m))

pub pair_is_best : (f : BlockFormat) (block : ℕ) (xs l r s t : List ℤ) (cl cr cs ct : Choice) (b : BlockChoice) → IsFormat f → has_pairs f ≡ true → ArePair f block xs l r s t cl cr cs ct
    → b.mode ≡ first_shortest (pair_bits cl.bits cr.bits cs.bits ct.bits) Independent pair_modes
    → b.coded.items ≡ first_of l r s t b.mode ++ second_of l r s t b.mode
    → b.choices.items ≡ first_of cl cr cs ct b.mode ∷ second_of cl cr cs ct b.mode ∷ []
    → IsBestBlock f block xs b
pair_is_best f block xs l r s t cl cr cs ct b h e p mode coded choices =
    record {
      mode = mode ∙ sym (ap (λ (t : Bool). first_shortest (mode_bits f block xs) Independent (cond t pair_modes [])) e ∙ shortest_same (mode_bits f block xs) (pair_bits cl.bits cr.bits cs.bits ct.bits) Independent pair_modes (λ m. bits_are f block xs l r s t cl cr cs ct m two h p));
      coded = is;
      count = ap (λ (v : List Choice). length v) choices ∙ sym two;
      choices = λ c d less. at_channel c d (omega (arith, less, two));
    }
  where
    two : f.channels ≡ 2
    two = (pair_is f e).0

    is : b.coded.items ≡ coded_of b.mode block xs
    is = coded ∙ sym (p.parts b.mode)

    here : (c : ℕ) (d x : Choice) → slice_index_or b.choices.items c d ≡ x → IsBest (coded_depth f b.mode c) f.level (channel_of block (coded_of b.mode block xs) c) x
        → IsBest (coded_depth f b.mode c) f.level (channel_of block b.coded.items c) (slice_index_or b.choices.items c d)
    here c d x q z =
        subst (λ (v : List ℤ). IsBest (coded_depth f b.mode c) f.level (channel_of block v c) (slice_index_or b.choices.items c d)) (sym is)
        (subst (IsBest (coded_depth f b.mode c) f.level (channel_of block (coded_of b.mode block xs) c)) (sym q) z)

    at_channel : (c : ℕ) (d : Choice) → c < 2 → IsBest (coded_depth f b.mode c) f.level (channel_of block b.coded.items c) (slice_index_or b.choices.items c d)
    at_channel zero d less = here 0 d (first_of cl cr cs ct b.mode) (ap (λ (v : List Choice). slice_index_or v 0 d) choices) (first_best f block xs l r s t cl cr cs ct b.mode h p)
    at_channel (suc zero) d less = here 1 d (second_of cl cr cs ct b.mode) (ap (λ (v : List Choice). slice_index_or v 1 d) choices) (second_best f block xs l r s t cl cr cs ct b.mode h p)
    at_channel (suc (suc c)) d less = absurd (omega (arith, less))

pub if_best : (f : BlockFormat) (block : ℕ) (xs l r s t : List ℤ) (cl cr cs ct : Choice) (result : Result BlockChoice NoMemory) → IsFormat f → has_pairs f ≡ true → ArePair f block xs l r s t cl cr cs ct
    → IfOk result (λ b. b.mode ≡ first_shortest (pair_bits cl.bits cr.bits cs.bits ct.bits) Independent pair_modes)
    → IfOk result (λ b. b.coded.items ≡ first_of l r s t b.mode ++ second_of l r s t b.mode)
    → IfOk result (λ b. b.choices.items ≡ first_of cl cr cs ct b.mode ∷ second_of cl cr cs ct b.mode ∷ [])
    → IfOk result (IsBestBlock f block xs)
if_best f block xs l r s t cl cr cs ct (Ok b) h e p mode coded choices = pair_is_best f block xs l r s t cl cr cs ct b h e p mode coded choices
if_best f block xs l r s t cl cr cs ct (Err x) h e p mode coded choices = tt

-- the channels of a pair, with what is coded of them
pub record AreParts (f : BlockFormat) (block : ℕ) (xs l r s t : List ℤ) : Type 0 where
  pub parts : (m : ChannelMode) → coded_of m block xs ≡ first_of l r s t m ++ second_of l r s t m
  pub left : length l ≡ block
  pub right : length r ≡ block
  pub side : length s ≡ block
  pub mid : length t ≡ block

pub are_parts : (f : BlockFormat) (block : ℕ) (xs l r s t : List ℤ) → has_pairs f ≡ true → IsBlock f block xs → l ≡ take block xs → r ≡ drop block xs → s ≡ pairwise side_of l r → t ≡ pairwise mid_of l r → AreParts f block xs l r s t
are_parts f block xs l r s t e b el er es et =
    let two = (pair_is f e).0 in
    let ll : length l ≡ block = ap (λ (v : List ℤ). length v) el ∙ left_length f block xs two b in
    let lr : length r ≡ block = ap (λ (v : List ℤ). length v) er ∙ right_length f block xs two b in
    record {
      parts = parts_of block xs l r s t el er es et;
      left = ll;
      right = lr;
      side = ap (λ (v : List ℤ). length v) es ∙ (length-pairwise side_of l r (ll ∙ sym lr) ∙ ll);
      mid = ap (λ (v : List ℤ). length v) et ∙ (length-pairwise mid_of l r (ll ∙ sym lr) ∙ ll);
    }

pub are_pair : (f : BlockFormat) (block : ℕ) (xs l r s t : List ℤ) (cl cr cs ct : Choice) → AreParts f block xs l r s t → IsBest f.depth f.level l cl → IsBest f.depth f.level r cr → IsBest (f.depth + 1) f.level s cs → IsBest f.depth f.level t ct → ArePair f block xs l r s t cl cr cs ct
are_pair f block xs l r s t cl cr cs ct p a b c d = record {
  parts = p.parts;
  left_length = p.left;
  right_length = p.right;
  side_length = p.side;
  mid_length = p.mid;
  left = a;
  right = b;
  side = c;
  mid = d;
}
