-- Coded numbers, byte by byte.
use Rattle.std.proofs.Common.{ℕ, zero, suc, ◌≡◌, ◌<◌, ◌≤◌, ◌+◌, ◌-◌, ◌*◌, ◌/◌, ◌%◌, ◌^◌, Bool, List, [], ◌++◌, length, cond, ltb, eqb, true, false, refl, sym, ap, ◌∙◌, arith, append_assoc, length-append}
use Rattle.std.proofs.lemmas.Nat.{one_shl}
use Rattle.std.proofs.lemmas.Bool.{lt-ltb, le-ltb}
use Rattle.flac_definitions.specs.Bits.{bits_of}
use Rattle.flac_definitions.specs.BitLaws.{length-bits_of}
use Rattle.flac_definitions.specs.HeaderWriting.{further_bits, further_count, long_number_bits, number_bits, size_bits, code_bits, front_bits, header_bits, block_size_code}
use Rattle.flac_definitions.specs.declared.header.FrameHeader.{FrameHeader}
use Rattle.flac_definitions.specs.Sums.{bits_sum}

-- one more byte of those that are left
pub further_more : (before whole : List Bool) (k j n : ℕ) → k ≡ j + 1 → before ++ further_bits k n ≡ whole → (before ++ bits_of 8 (128 + n / 2 ^ (6 * j) % 64)) ++ further_bits j n ≡ whole
further_more before whole k j n s e =
    let same : further_bits (suc j) n ≡ further_bits k n = ap (λ (m : ℕ). further_bits m n) (let t : suc j ≡ k = omega (arith, s) in t) in
    append_assoc before (bits_of 8 (128 + n / 2 ^ (6 * j) % 64)) (further_bits j n) ∙ (ap (λ (l : List Bool). before ++ l) same ∙ e)

-- the first byte is one
pub first_fits : (k n : ℕ) → 1 ≤ k → k ≤ 5 → n < 2 ^ (5 * k + 6) → (256 - 2 ^ (7 - k)) + n / 2 ^ (6 * k) < 2 ^ 8
first_fits zero n a b h = absurd (omega (arith, a))
first_fits (suc zero) n a b h = omega (arith, h)
first_fits (suc (suc zero)) n a b h = omega (arith, h)
first_fits (suc (suc (suc zero))) n a b h = omega (arith, h)
first_fits (suc (suc (suc (suc zero)))) n a b h = omega (arith, h)
first_fits (suc (suc (suc (suc (suc zero))))) n a b h = omega (arith, h)
first_fits (suc (suc (suc (suc (suc (suc k)))))) n a b h = absurd (omega (arith, b))

pub first_value : (k n : ℕ) → (256 - 1 * 2 ^ (7 - k) % 2 ^ 64) + n / 2 ^ (6 * k) ≡ (256 - 2 ^ (7 - k)) + n / 2 ^ (6 * k)
first_value k n = ap (λ (x : ℕ). (256 - x) + n / 2 ^ (6 * k)) (one_shl (7 - k) 64 (omega arith))

pub first_below : (k n : ℕ) → 1 ≤ k → k ≤ 5 → n < 2 ^ (5 * k + 6) → (256 - 1 * 2 ^ (7 - k) % 2 ^ 64) + n / 2 ^ (6 * k) < 2 ^ 8
first_below k n a b h = omega (arith, first_value k n, first_fits k n a b h)

pub short_number : (n : ℕ) → n < 128 → bits_of 8 n ≡ number_bits n
unfolding number_bits
short_number n h = sym (ap (λ (t : Bool). cond t (bits_of 8 n) (long_number_bits (further_count n) n)) (lt-ltb n 128 h))

pub long_number : (n : ℕ) → 128 ≤ n → long_number_bits (further_count n) n ≡ number_bits n
unfolding number_bits
long_number n h = sym (ap (λ (t : Bool). cond t (bits_of 8 n) (long_number_bits (further_count n) n)) (le-ltb n 128 h))

length_further : (k n : ℕ) → length (further_bits k n) ≡ 8 * k
length_further zero n = refl
length_further (suc k) n = length-append (bits_of 8 (128 + n / 2 ^ (6 * k) % 64)) (further_bits k n) ∙ omega (arith, length-bits_of 8 (128 + n / 2 ^ (6 * k) % 64), length_further k n)

length_long : (k n : ℕ) → length (long_number_bits k n) ≡ 8 * (k + 1)
length_long k n = let b = (256 - 2 ^ (7 - k)) + n / 2 ^ (6 * k) in length-append (bits_of 8 b) (further_bits k n) ∙ omega (arith, length-bits_of 8 b, length_further k n)

whole_choice : (t : Bool) (a b : List Bool) → length a % 8 ≡ 0 → length b % 8 ≡ 0 → length (cond t a b) % 8 ≡ 0
whole_choice true a b e f = e
whole_choice false a b e f = f

whole_number : (n : ℕ) → length (number_bits n) % 8 ≡ 0
unfolding number_bits
whole_number n =
    let k = further_count n in
    whole_choice (ltb n 128) (bits_of 8 n) (long_number_bits k n) (ap (λ (m : ℕ). m % 8) (length-bits_of 8 n)) (omega (arith, length_long k n))

whole_size : (code n : ℕ) → length (size_bits code n) % 8 ≡ 0
whole_size code n =
    whole_choice (eqb code 6) (bits_of 8 (n - 1)) (cond (eqb code 7) (bits_of 16 (n - 1)) []) (ap (λ (m : ℕ). m % 8) (length-bits_of 8 (n - 1)))
    (whole_choice (eqb code 7) (bits_of 16 (n - 1)) [] (ap (λ (m : ℕ). m % 8) (length-bits_of 16 (n - 1))) refl)

length_codes : (h : FrameHeader) → length (code_bits h) ≡ 32
length_codes h = simp (length-append, length-bits_of) refl

pub whole_front : (h : FrameHeader) → length (front_bits h) % 8 ≡ 0
whole_front h =
    let a = code_bits h in
    let b = number_bits h.number in
    let c = size_bits (block_size_code h.block) h.block in
    omega (arith, length-append (a ++ b) c, length-append a b, length_codes h, whole_number h.number, whole_size (block_size_code h.block) h.block)

-- the parts, one behind another
pub three_parts : (w a b c x y z : List Bool) → w ≡ [] → x ≡ w ++ a → y ≡ x ++ b → z ≡ y ++ c → z ≡ a ++ b ++ c
three_parts w a b c x y z e f g h =
    h ∙ (ap (λ (l : List Bool). l ++ c) (g ∙ ap (λ (l : List Bool). l ++ b) (f ∙ ap (λ (l : List Bool). l ++ a) e)))

pub with_sum : (h : FrameHeader) (z y : List Bool) (s : ℕ) → z ≡ front_bits h → y ≡ z → s ≡ bits_sum 8 0x07 z → y ++ bits_of 8 s ≡ header_bits h
unfolding header_bits
with_sum h z y s e f g = ap (λ (l : List Bool). l ++ bits_of 8 s) (f ∙ e) ∙ ap (λ (k : ℕ). front_bits h ++ bits_of 8 k) (g ∙ ap (λ (l : List Bool). bits_sum 8 0x07 l) e)
