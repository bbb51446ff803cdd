-- What both laws have alike: 128 codes of each sign, whose intervals lie one behind another from 0 on.
use Rattle.std.proofs.Common.{ℕ, zero, suc, ◌≡◌, ◌≤◌, ◌<◌, ◌==◌, nat_le, nat_lt, Bool, true, false, not, ◌&&◌, inl, inr, ap, sym, subst, get_or, ◌∙◌, arith}
use Rattle.std.proofs.lemmas.Bool.{cases_lt, cases_order, and_parts, and_from, le-leb, lt-ltb, leb-true, ltb-true, false_from_ne_true}
use Rattle.std.proofs.lemmas.List.Sums.{position_or_len_is}
use Rattle.std.proofs.lemmas.List.FromFn.{get_or-range_with_len}
use Rattle.std.proofs.Math.Nat.{zero-add, le_refl}
use Rattle.std.proofs.lemmas.Bool.Decides.{nat_tests}
use Rattle.std.specs.List.{range_with_len, position_or_len}
use Rattle.codec_definitions.specs.G711.{is_same_sign}

-- each number below passes a test
unfoldable pub all_below : ℕ → (ℕ → Bool) → Bool
all_below zero test = true
all_below (suc n) test = test n && all_below n test

pub each_below : (n k : ℕ) (test : ℕ → Bool) → all_below n test ≡ true → k < n → test k ≡ true
unfolding all_below
each_below zero k test h less = absurd (omega arith)
each_below (suc n) k test h less = elim (cases_lt k n) [
  | inl below ↦ each_below n k test (and_parts (test n) (all_below n test) h).1 below
  | inr above ↦ (let last : k ≡ n = omega arith in rw last (and_parts (test n) (all_below n test) h).0)
]

-- what a law makes of a code: its sign, its interval and the interval's place among those of its sign; and the code of a place
pub record Coding : Type 0 where
  pub sign : ℕ → Bool
  pub low : ℕ → ℕ
  pub high : ℕ → ℕ
  pub place : ℕ → ℕ
  pub code : Bool → ℕ → ℕ

-- where the interval of a place starts: where the one before it ends
abbrev pub start : Coding → ℕ → ℕ
start l zero = 0
start l (suc i) = l.high (l.code false i)

abbrev pub is_in_place : Coding → ℕ → Bool
is_in_place l c = (l.code (l.sign c) (l.place c) == c) && (nat_lt (l.place c) 128 && ((l.low c == start l (l.place c)) && (l.high c == start l (suc (l.place c)))))

abbrev is_of : Coding → Bool → ℕ → Bool
is_of l negative i = let c = l.code negative i in nat_lt c 256 && (is_same_sign negative (l.sign c) && ((l.low c == start l i) && (l.high c == start l (suc i))))

abbrev pub has_codes : Coding → ℕ → Bool
has_codes l i = nat_le (start l i) (start l (suc i)) && (is_of l true i && is_of l false i)

-- the test of a code
abbrev pub holds : Coding → Bool → ℕ → ℕ → Bool
holds l negative k c = is_same_sign negative (l.sign c) && nat_le (l.low c) k && nat_lt k (l.high c)

same_sign : (a b : Bool) → is_same_sign a b ≡ true → b ≡ a
same_sign false false e = cc
same_sign false true e = cc
same_sign true b e = e

sign_same : (a b : Bool) → b ≡ a → is_same_sign a b ≡ true
sign_same false b e = ap not e
sign_same true b e = e

passes : (l : Coding) (negative : Bool) (k c : ℕ) → l.sign c ≡ negative → l.low c ≤ k → k < l.high c → holds l negative k c ≡ true
passes l negative k c same from below = and_from _ _ (and_from _ _ (sign_same negative (l.sign c) same) (le-leb (l.low c) k from)) (lt-ltb k (l.high c) below)

-- a law's codes, by the test and by the record of a code
pub record IsLaw (l : Coding) (Is : Bool → ℕ → ℕ → Type 0) : Type 0 where
  pub codes : all_below 256 (is_in_place l) ≡ true
  pub places : all_below 128 (has_codes l) ≡ true
  pub tells : (negative : Bool) (k c : ℕ) → c < 256 → (l.sign c ≡ negative) × (l.low c ≤ k) × (k < l.high c) → Is negative k c
  pub told : (negative : Bool) (k c : ℕ) → Is negative k c → (c < 256) × (l.sign c ≡ negative) × (l.low c ≤ k) × (k < l.high c)

module _ {l : Coding} {Is : Bool → ℕ → ℕ → Type 0} (m : IsLaw l Is) where
  pub passing : (negative : Bool) (k c : ℕ) → c < 256 → holds l negative k c ≡ true → Is negative k c
  passing negative k c byte works =
      let outer = and_parts (is_same_sign negative (l.sign c) && nat_le (l.low c) k) (nat_lt k (l.high c)) works in
      let inner = and_parts (is_same_sign negative (l.sign c)) (nat_le (l.low c) k) outer.0 in
      m.tells negative k c byte (same_sign negative (l.sign c) inner.0, leb-true (l.low c) k inner.1, ltb-true k (l.high c) outer.1)

  in_place : (c : ℕ) → c < 256 → (l.code (l.sign c) (l.place c) ≡ c) × (l.place c < 128) × (l.low c ≡ start l (l.place c)) × (l.high c ≡ start l (suc (l.place c)))
  in_place c byte = let h = each_below 256 c (is_in_place l) m.codes byte in grind (arith, nat_tests, h)

  code_in : (negative : Bool) (i : ℕ) → i < 128 → (l.code negative i < 256) × (l.sign (l.code negative i) ≡ negative) × (l.low (l.code negative i) ≡ start l i) × (l.high (l.code negative i) ≡ start l (suc i))
  code_in true i small = let h = each_below 128 i (has_codes l) m.places small in grind (arith, nat_tests, h)
  code_in false i small = let h = each_below 128 i (has_codes l) m.places small in grind (arith, nat_tests, h)

  behind : (i j : ℕ) → i < j → j < 128 → start l (suc i) ≤ start l j
  behind i zero less small = absurd (omega arith)
  behind i (suc j) less small =
      let rises = leb-true _ _ (and_parts (nat_le (start l j) (start l (suc j))) _ (each_below 128 j (has_codes l) m.places (omega arith))).0 in
      elim (cases_lt i j) [
        | inl before ↦ omega (arith, behind i j before (omega arith), rises)
        | inr same ↦ (let last : i ≡ j = omega (arith, less, same) in rw last (le_refl _))
      ]

  place_of : (n k : ℕ) → n ≤ 128 → k < start l n → (i : ℕ) × (i < n) × (start l i ≤ k) × (k < start l (suc i))
  place_of zero k few less = absurd (omega arith)
  place_of (suc n) k few less = elim (cases_lt k (start l n)) [
    | inl before ↦ (let p = place_of n k (omega arith) before in (p.0, omega (arith, p.1), p.2, p.3))
    | inr from ↦ (n, omega arith, from, less)
  ]

  pub apart : (negative : Bool) (k c d : ℕ) → Is negative k c → Is negative k d → c ≡ d
  apart negative k c d x y =
      let p = m.told negative k c x in
      let q = m.told negative k d y in
      let a = in_place c p.0 in
      let b = in_place d q.0 in
      elim (cases_order (l.place c) (l.place d)) [
        | inl same ↦ cc
        | inr o ↦ elim o [ inl less ↦ absurd (omega (arith, behind _ _ less b.1)) | inr more ↦ absurd (omega (arith, behind _ _ more a.1)) ]
      ]

  pub cover : (negative : Bool) (k : ℕ) → k < start l 128 → (c : ℕ) × Is negative k c
  cover negative k small =
      let p = place_of 128 k (omega arith) small in
      let o = code_in negative p.0 p.1 in
      (l.code negative p.0, m.tells negative k _ o.0 (o.1, omega (arith, o.2, p.2), omega (arith, o.3, p.3)))

  -- the byte that passes is the first that passes
  pub encodes_once : (negative : Bool) (k c : ℕ) → Is negative k c → c ≡ position_or_len (holds l negative k) (range_with_len 0 256)
  encodes_once negative k c x =
      let p = m.told negative k c x in
      let at : (i : ℕ) → i < 256 → get_or (range_with_len 0 256) i 0 ≡ i = λ i byte. get_or-range_with_len 0 256 i 0 byte ∙ zero-add i in
      let test = holds l negative k in
      sym (position_or_len_is test (range_with_len 0 256) c 0 (omega (arith, p.0))
      (λ i less. rw (at i (omega (arith, less, p.0))) (false_from_ne_true (test i) (λ works. omega (arith, less, apart negative k i c (passing negative k i (omega (arith, less, p.0)) works) x))))
      (λ within. rw (at c p.0) (passes l negative k c p.1 p.2 p.3)))

  pub encodes : (negative : Bool) (k : ℕ) → k < start l 128 → Is negative k (position_or_len (holds l negative k) (range_with_len 0 256))
  encodes negative k small = let found = cover negative k small in subst (Is negative k) (encodes_once negative k found.0 found.1) found.1
