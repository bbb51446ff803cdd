-- Bits of numbers, one behind another, and bits that were begun.
use Rattle.std.proofs.Common.{ℕ, zero, suc, ◌≡◌, ◌<◌, ◌+◌, ◌*◌, ◌/◌, ◌%◌, ◌^◌, ◌==◌, Bool, true, false, List, [], ◌∷◌, ◌++◌, replicate, refl, ap, sym, subst, ◌∙◌, append_assoc, append-nil, zero-add, arith}
use Rattle.std.proofs.Math.Nat.{pow-suc, mul-add-div_right, zero-div}
use Rattle.std.proofs.lemmas.Nat.{pow_pos, shr-shr, shr_high, shr_split, mod_below}
use Rattle.std.proofs.lemmas.List.{replicate-append-replicate}
use Rattle.flac_definitions.specs.Bits.{bits_of}
use Rattle.flac_write.specs.Writer.{IsBegun}

pub bits_more : (n v : ℕ) → bits_of (suc n) v ≡ (v / 2 ^ n % 2 == 1) ∷ bits_of n v
unfolding bits_of
bits_more n v = refl

pub bits_none : (v : ℕ) → bits_of 0 v ≡ []
unfolding bits_of
bits_none v = refl

cons_same : (a b : ℕ) (l m : List Bool) → a ≡ b → l ≡ m → (a == 1) ∷ l ≡ (b == 1) ∷ m
cons_same a b l m e f = ap (λ (x : ℕ). (x == 1) ∷ l) e ∙ ap (λ (x : List Bool). (b == 1) ∷ x) f

-- the low bits do not depend on what stands above them
pub bits_low : (b x y : ℕ) → bits_of b (x * 2 ^ b + y) ≡ bits_of b y
bits_low zero x y = bits_none (x * 2 ^ zero + y) ∙ sym (bits_none y)
bits_low (suc b) x y =
    let wide : x * 2 ^ suc b + y ≡ (2 * x) * 2 ^ b + y = omega (arith, ap (λ (n : ℕ). x * n) (pow-suc 2 b)) in
    let head : (x * 2 ^ suc b + y) / 2 ^ b % 2 ≡ y / 2 ^ b % 2 = ap (λ (n : ℕ). n / 2 ^ b % 2) wide ∙ (ap (λ (n : ℕ). n % 2) (mul-add-div_right {m = 2 ^ b} (pow_pos b) (2 * x) y) ∙ omega arith) in
    bits_more b (x * 2 ^ suc b + y) ∙ (cons_same _ _ _ _ head (ap (bits_of b) wide ∙ bits_low b (2 * x) y) ∙ sym (bits_more b y))

-- the bits of two numbers that stand one behind the other in a number
pub bits_cat : (a b x y : ℕ) → y < 2 ^ b → bits_of (a + b) (x * 2 ^ b + y) ≡ bits_of a x ++ bits_of b y
bits_cat zero b x y small = ap (λ (n : ℕ). bits_of n (x * 2 ^ b + y)) (zero-add b) ∙ (bits_low b x y ∙ ap (λ (l : List Bool). l ++ bits_of b y) (sym (bits_none x)))
bits_cat (suc a) b x y small =
    let v = x * 2 ^ b + y in
    let same : suc a + b ≡ suc (a + b) = omega arith in
    let high : v / 2 ^ (a + b) ≡ x / 2 ^ a = ap (λ (n : ℕ). v / 2 ^ n) (omega arith) ∙ (sym (shr-shr v b a) ∙ ap (λ (n : ℕ). n / 2 ^ a) (shr_high x b y small)) in
    ap (λ (n : ℕ). bits_of n v) same ∙ (bits_more (a + b) v ∙ (cons_same _ _ _ _ (ap (λ (n : ℕ). n % 2) high) (bits_cat a b x y small) ∙ ap (λ (l : List Bool). l ++ bits_of b y) (sym (bits_more a x))))

-- the high bits and the low ones
pub bits_split : (a b v : ℕ) → bits_of (a + b) v ≡ bits_of a (v / 2 ^ b) ++ bits_of b (v % 2 ^ b)
bits_split a b v = ap (bits_of (a + b)) (sym (shr_split v b)) ∙ bits_cat a b (v / 2 ^ b) (v % 2 ^ b) (mod_below v (2 ^ b) (pow_pos b))

-- the low bits of a number are those of what it leaves
pub bits_mod : (b v : ℕ) → bits_of b (v % 2 ^ b) ≡ bits_of b v
bits_mod b v = sym (bits_low b (v / 2 ^ b) (v % 2 ^ b)) ∙ ap (bits_of b) (shr_split v b)

pub bits_zero : (n : ℕ) → bits_of n 0 ≡ replicate n false
bits_zero zero = bits_none 0
bits_zero (suc n) =
    let head : 0 / 2 ^ n % 2 ≡ 0 = omega (arith, zero-div (2 ^ n)) in
    bits_more n 0 ∙ cons_same (0 / 2 ^ n % 2) 0 (bits_of n 0) (replicate n false) head (bits_zero n)

pub bit_one : bits_of 1 1 ≡ true ∷ []
unfolding bits_of
bit_one = refl

pub zeros_more : (before : List Bool) (m n : ℕ) → (before ++ bits_of m 0) ++ bits_of n 0 ≡ before ++ bits_of (m + n) 0
zeros_more before m n = append_assoc before (bits_of m 0) (bits_of n 0) ∙ ap (λ (l : List Bool). before ++ l) (ap (λ (l : List Bool). l ++ bits_of n 0) (bits_zero m) ∙ (ap (λ (l : List Bool). replicate m false ++ l) (bits_zero n) ∙ (replicate-append-replicate m n false ∙ sym (bits_zero (m + n)))))

-- ---- what a want of memory leaves

pub nothing_begun : (before bits after : List Bool) → after ≡ before → IsBegun before bits after
nothing_begun before bits after e = record { front = []; back = bits; whole = refl; kept = e ∙ sym (append-nil before) }

pub begun_first : (before a b after : List Bool) → IsBegun before a after → IsBegun before (a ++ b) after
begun_first before a b after h = record { front = h.front; back = h.back ++ b; whole = ap (λ (l : List Bool). l ++ b) h.whole ∙ append_assoc h.front h.back b; kept = h.kept }

pub begun_then : (before a b middle after : List Bool) → middle ≡ before ++ a → IsBegun middle b after → IsBegun before (a ++ b) after
begun_then before a b middle after e h = record {
  front = a ++ h.front;
  back = h.back;
  whole = ap (λ (l : List Bool). a ++ l) h.whole ∙ sym (append_assoc a h.front h.back);
  kept = h.kept ∙ (ap (λ (l : List Bool). l ++ h.front) e ∙ append_assoc before a h.front);
}

pub begun_as : (before a b after : List Bool) → a ≡ b → IsBegun before a after → IsBegun before b after
begun_as before a b after e h = subst (λ (l : List Bool). IsBegun before l after) e h
