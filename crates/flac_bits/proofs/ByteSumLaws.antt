-- Sums byte by byte, and several bytes at once.
use Rattle.std.proofs.Common.{◌≡◌, ℕ, zero, suc, ◌+◌, ◌*◌, ◌/◌, ◌%◌, ◌^◌, ◌<◌, ◌≤◌, Bool, true, false, cond, eqb, List, [], ◌∷◌, ◌++◌, length, get_or, refl, sym, ap, ◌∙◌, arith, append_assoc, mod-eq_of_lt, length-append, append-nil, map}
use Rattle.std.proofs.Math.Nat.{pow-suc, pow-le-pow_right, mul-le-mul_left, zero-div, zero-mod, div-eq_of_lt}
use Rattle.std.proofs.lemmas.Nat.{pow_pos, xor_block, xor_mod, xor_shr, xor_lt, xor_comm}
use Rattle.std.specs.Int.Bits.{bit_xor, xor_assoc, xor_self, xor_zero_l, xor_zero_r}
use Rattle.std.specs.List.{range_with_len}
use Rattle.std.proofs.lemmas.List.FromFn.{get_or-map-range_with_len}
use Rattle.flac_definitions.specs.Bits.{bits_of, number_of, bits_in}
use Rattle.flac_definitions.specs.Sums.{remainder_with, coefficient, remainder_after, sum_of}
use Rattle.flac_definitions.specs.SumLaws.{longer_top, remainder_with-lt, coefficient_lt, remainder-lt}
use Rattle.flac_bits.specs.ByteSums.{after_zeros, after_byte, after_bytes}
use Rattle.flac_definitions.specs.BitLaws.{same_number, length-bits_of, number_of-bits_of, number_of-append, bits_in-append}

xor_four : (a b c d : ℕ) → bit_xor (bit_xor a b) (bit_xor c d) ≡ bit_xor (bit_xor a c) (bit_xor b d)
xor_four a b c d =
    xor_assoc a b (bit_xor c d)
    ∙ ap (λ n. bit_xor a n) (sym (xor_assoc b c d) ∙ ap (λ n. bit_xor n d) (xor_comm b c) ∙ xor_assoc c b d)
    ∙ sym (xor_assoc a c (bit_xor b d))

-- a coefficient times a polynomial
times_bit : (x y low : ℕ) → x < 2 → y < 2 → bit_xor x y * low ≡ bit_xor (x * low) (y * low)
times_bit zero y low p q = rw (xor_zero_l y) (let e : zero * low ≡ zero = omega arith in rw e (sym (xor_zero_l (y * low))))
times_bit (suc zero) zero low p q = rw (xor_zero_r 1) (let e : zero * low ≡ zero = omega arith in rw e (sym (xor_zero_r (1 * low))))
times_bit (suc zero) (suc zero) low p q = let e : bit_xor 1 1 * low ≡ 0 = omega arith in e ∙ sym (xor_self (1 * low))
times_bit (suc zero) (suc (suc y)) low p q = absurd (omega arith)
times_bit (suc (suc x)) y low p q = absurd (omega arith)

-- coefficients add up one by one
remainder_with_apart : (w low r s b : ℕ) → r < 2 ^ w → s < 2 ^ w → b < 2 → remainder_with w low (bit_xor r s) b ≡ bit_xor (remainder_with w low r b) (remainder_with w low s 0)
remainder_with_apart w low r s b h k l =
    let x = 2 * r + b in let y = 2 * s + 0 in
    let block : bit_xor (r * 2 ^ 1 + b) (s * 2 ^ 1 + 0) ≡ bit_xor r s * 2 ^ 1 + bit_xor b 0 = xor_block 1 r s b 0 l (omega arith) in
    let ex : r * 2 ^ 1 + b ≡ x = omega arith in
    let ey : s * 2 ^ 1 + 0 ≡ y = omega arith in
    let e : 2 * bit_xor r s + b ≡ bit_xor x y = omega (arith, block, xor_zero_r b, ap (λ n. bit_xor n (s * 2 ^ 1 + 0)) ex, ap (λ n. bit_xor x n) ey) in
    ap (λ n. bit_xor (n % 2 ^ w) ((n / 2 ^ w) * low)) e
    ∙ ap (λ n. bit_xor n ((bit_xor x y / 2 ^ w) * low)) (xor_mod x y w)
    ∙ ap (λ n. bit_xor (bit_xor (x % 2 ^ w) (y % 2 ^ w)) (n * low)) (xor_shr x y w)
    ∙ ap (λ n. bit_xor (bit_xor (x % 2 ^ w) (y % 2 ^ w)) n) (times_bit (x / 2 ^ w) (y / 2 ^ w) low (longer_top w r b h l) (longer_top w s 0 k (omega arith)))
    ∙ xor_four (x % 2 ^ w) (y % 2 ^ w) ((x / 2 ^ w) * low) ((y / 2 ^ w) * low)

pub remainder-append : (w low r : ℕ) (xs ys : List Bool) → remainder_after w low r (xs ++ ys) ≡ remainder_after w low (remainder_after w low r xs) ys
unfolding remainder_after
remainder-append w low r [] ys = refl
remainder-append w low r (x ∷ xs) ys = remainder-append w low (remainder_with w low r (coefficient x)) xs ys

zero_bit : (n : ℕ) → bits_of (suc n) 0 ≡ false ∷ bits_of n 0
unfolding bits_of
zero_bit n = ap (λ k. eqb (k % 2) 1 ∷ bits_of n 0) (zero-div (2 ^ n))

-- the remainder of a sum is that of both parts
remainder_apart : (w low r s : ℕ) (bs : List Bool) → low < 2 ^ w → r < 2 ^ w → s < 2 ^ w → remainder_after w low (bit_xor r s) bs ≡ bit_xor (remainder_after w low r bs) (after_zeros w low (length bs) s)
unfolding remainder_after bits_of
remainder_apart w low r s [] l h k = refl
remainder_apart w low r s (b ∷ bs) l h k =
    ap (λ n. remainder_after w low n bs) (remainder_with_apart w low r s (coefficient b) h k (coefficient_lt b))
    ∙ remainder_apart w low (remainder_with w low r (coefficient b)) (remainder_with w low s 0) bs l (remainder_with-lt w low r (coefficient b) l h (coefficient_lt b)) (remainder_with-lt w low s 0 l k (omega arith))
    ∙ ap (λ (z : List Bool). bit_xor (remainder_after w low (remainder_with w low r (coefficient b)) bs) (remainder_after w low s z)) (sym (zero_bit (length bs)))

joined : (b : Bool) (r l n : ℕ) → r * 2 ^ suc l + (cond b (2 ^ l) 0 + n) ≡ (2 * r + coefficient b) * 2 ^ l + n
joined true r l n = omega (arith, ap (λ k. r * k) (pow-suc 2 l))
joined false r l n = omega (arith, ap (λ k. r * k) (pow-suc 2 l))

below_product : (x p n m : ℕ) → 0 < p → x * p + n < m → x < m
below_product x p n m h k = omega (arith, mul-le-mul_left x (let q : 1 ≤ p = omega arith in q))

-- where all fits below the divisor nothing is taken off
remainder_small : (w low r : ℕ) (bs : List Bool) → r * 2 ^ length bs + number_of bs < 2 ^ w → remainder_after w low r bs ≡ r * 2 ^ length bs + number_of bs
unfolding remainder_after number_of
remainder_small w low r [] h = omega arith
remainder_small w low r (b ∷ bs) h =
    let e : r * 2 ^ suc (length bs) + (cond b (2 ^ length bs) 0 + number_of bs) ≡ (2 * r + coefficient b) * 2 ^ length bs + number_of bs = joined b r (length bs) (number_of bs) in
    let below : 2 * r + coefficient b < 2 ^ w = below_product (2 * r + coefficient b) (2 ^ length bs) (number_of bs) (2 ^ w) (pow_pos (length bs)) (omega (arith, e, h)) in
    let d : remainder_with w low r (coefficient b) ≡ 2 * r + coefficient b =
    ap (λ n. bit_xor n (((2 * r + coefficient b) / 2 ^ w) * low)) (mod-eq_of_lt below)
    ∙ ap (λ n. bit_xor (2 * r + coefficient b) (n * low)) (div-eq_of_lt below)
    ∙ ap (λ n. bit_xor (2 * r + coefficient b) n) (let z : 0 * low ≡ 0 = omega arith in z)
    ∙ xor_zero_r (2 * r + coefficient b) in
    ap (λ n. remainder_after w low n bs) d ∙ remainder_small w low (2 * r + coefficient b) bs (omega (arith, e, h)) ∙ sym e

number_of_zeros : (n : ℕ) → number_of (bits_of n 0) ≡ 0
number_of_zeros n = number_of-bits_of n 0 ∙ zero-mod (2 ^ n)

zeros_split : (m n : ℕ) → bits_of (m + n) 0 ≡ bits_of m 0 ++ bits_of n 0
zeros_split m n =
    same_number (bits_of (m + n) 0) (bits_of m 0 ++ bits_of n 0)
    (omega (arith, length-bits_of (m + n) 0, length-append (bits_of m 0) (bits_of n 0), length-bits_of m 0, length-bits_of n 0))
    (number_of_zeros (m + n) ∙ sym (number_of-append (bits_of m 0) (bits_of n 0) ∙ rw (number_of_zeros m) (rw (number_of_zeros n) (omega arith))))

pub zeros_twice : (w low m n r : ℕ) → after_zeros w low (m + n) r ≡ after_zeros w low n (after_zeros w low m r)
zeros_twice w low m n r = ap (λ (z : List Bool). remainder_after w low r z) (zeros_split m n) ∙ remainder-append w low r (bits_of m 0) (bits_of n 0)

-- zeros behind a sum of two
pub zeros_apart : (w low n r s : ℕ) → low < 2 ^ w → r < 2 ^ w → s < 2 ^ w → after_zeros w low n (bit_xor r s) ≡ bit_xor (after_zeros w low n r) (after_zeros w low n s)
zeros_apart w low n r s l h k =
    remainder_apart w low r s (bits_of n 0) l h k ∙ ap (λ m. bit_xor (after_zeros w low n r) (after_zeros w low m s)) (length-bits_of n 0)

-- zeros behind what stays small
pub zeros_small : (w low n r : ℕ) → r * 2 ^ n < 2 ^ w → after_zeros w low n r ≡ r * 2 ^ n
zeros_small w low n r h =
    let l : r * 2 ^ length (bits_of n 0) ≡ r * 2 ^ n = ap (λ k. r * 2 ^ k) (length-bits_of n 0) in
    remainder_small w low r (bits_of n 0) (omega (arith, l, number_of_zeros n)) ∙ omega (arith, l, number_of_zeros n)

-- the eight bits of a byte are the byte
byte_alone : (w low b : ℕ) → 8 ≤ w → b < 256 → remainder_after w low 0 (bits_of 8 b) ≡ b
byte_alone w low b h k =
    let n : number_of (bits_of 8 b) ≡ b = number_of-bits_of 8 b ∙ mod-eq_of_lt k in
    let p : 2 ^ 8 ≤ 2 ^ w = pow-le-pow_right {n = 2} (omega arith) h in
    let z : 0 * 2 ^ length (bits_of 8 b) ≡ 0 = omega arith in
    remainder_small w low 0 (bits_of 8 b) (omega (arith, n, p, z)) ∙ omega (arith, n, z)

-- one more byte behind a sum
pub sum_more : (w low : ℕ) (bytes : List ℕ) (b : ℕ) → 8 ≤ w → low < 2 ^ w → b < 256 → sum_of w low (bytes ++ b ∷ []) ≡ after_byte w low (sum_of w low bytes) b
unfolding bits_in
sum_more w low bytes b eight l fits =
    let r = remainder_after w low 0 (bits_in bytes) in
    let small : r < 2 ^ w = remainder-lt w low 0 (bits_in bytes) l (pow_pos w) in
    let tail = bits_of 8 b ++ bits_of w 0 in
    let whole : bits_in (bytes ++ b ∷ []) ++ bits_of w 0 ≡ bits_in bytes ++ tail =
    ap (λ (z : List Bool). z ++ bits_of w 0) (bits_in-append bytes (b ∷ []) ∙ ap (λ (z : List Bool). bits_in bytes ++ z) (append-nil (bits_of 8 b)))
    ∙ append_assoc (bits_in bytes) (bits_of 8 b) (bits_of w 0) in
    let ltail : length tail ≡ w + 8 = omega (arith, length-append (bits_of 8 b) (bits_of w 0), length-bits_of 8 b, length-bits_of w 0) in
    let split : remainder_after w low 0 (bits_in bytes ++ tail) ≡ remainder_after w low r tail = remainder-append w low 0 (bits_in bytes) tail in
    let apart : remainder_after w low r tail ≡ bit_xor (remainder_after w low 0 tail) (after_zeros w low (length tail) r) =
    ap (λ n. remainder_after w low n tail) (sym (xor_zero_l r)) ∙ remainder_apart w low 0 r tail l (pow_pos w) small in
    let low_part : remainder_after w low 0 tail ≡ after_zeros w low w b = remainder-append w low 0 (bits_of 8 b) (bits_of w 0) ∙ ap (λ n. after_zeros w low w n) (byte_alone w low b eight fits) in
    let high_part : after_zeros w low (length tail) r ≡ after_zeros w low 8 (sum_of w low bytes) =
    ap (λ n. after_zeros w low n r) ltail ∙ zeros_twice w low w 8 r ∙ ap (λ n. after_zeros w low 8 n) (sym (remainder-append w low 0 (bits_in bytes) (bits_of w 0))) in
    ap (λ (z : List Bool). remainder_after w low 0 z) whole ∙ split ∙ apart
    ∙ ap (λ n. bit_xor n (after_zeros w low (length tail) r)) low_part ∙ ap (λ n. bit_xor (after_zeros w low w b) n) high_part
    ∙ xor_comm (after_zeros w low w b) (after_zeros w low 8 (sum_of w low bytes))

pub sum_nothing : (w low : ℕ) → 0 ≡ sum_of w low []
unfolding bits_in
sum_nothing w low = sym (zeros_small w low w 0 (omega (arith, pow_pos w)) ∙ omega arith)

-- of eight coefficients: a byte behind a sum is a byte of both
pub next_byte_8 : (low sum b : ℕ) → low < 256 → sum < 256 → b < 256 → after_zeros 8 low 8 (bit_xor sum b) ≡ after_byte 8 low sum b
next_byte_8 low sum b l h k = zeros_apart 8 low 8 sum b l h k

-- of sixteen: the upper byte joins the new one, and the lower one moves up
pub next_byte_16 : (low sum b : ℕ) → low < 2 ^ 16 → sum < 2 ^ 16 → b < 256 → bit_xor ((sum % 256) * 256) (after_zeros 16 low 16 (bit_xor (sum / 256) b)) ≡ after_byte 16 low sum b
next_byte_16 low sum b l h k =
    let hi = sum / 256 in let lo = sum % 256 in
    let cut : sum ≡ bit_xor (hi * 256) lo = let x = xor_block 8 hi 0 0 lo (omega arith) (omega arith) in
    omega (arith, x, xor_zero_r hi, xor_zero_l lo, ap (λ n. bit_xor n (0 * 2 ^ 8 + lo)) (let q : hi * 2 ^ 8 + 0 ≡ hi * 256 = omega arith in q), ap (λ n. bit_xor (hi * 256) n) (let q : 0 * 2 ^ 8 + lo ≡ lo = omega arith in q)) in
    let z8 : after_zeros 16 low 8 sum ≡ bit_xor (after_zeros 16 low 8 (hi * 256)) (after_zeros 16 low 8 lo) = ap (λ n. after_zeros 16 low 8 n) cut ∙ zeros_apart 16 low 8 (hi * 256) lo l (omega arith) (omega arith) in
    let zlo : after_zeros 16 low 8 lo ≡ lo * 256 = zeros_small 16 low 8 lo (omega arith) in
    let zhi : after_zeros 16 low 8 (hi * 256) ≡ after_zeros 16 low 16 hi = ap (λ n. after_zeros 16 low 8 n) (sym (zeros_small 16 low 8 hi (omega arith))) ∙ sym (zeros_twice 16 low 8 8 hi) in
    let both : after_zeros 16 low 16 (bit_xor hi b) ≡ bit_xor (after_zeros 16 low 16 hi) (after_zeros 16 low 16 b) = zeros_apart 16 low 16 hi b l (omega arith) (omega arith) in
    sym (ap (λ n. bit_xor n (after_zeros 16 low 16 b)) (z8 ∙ ap (λ n. bit_xor n (after_zeros 16 low 8 lo)) zhi ∙ ap (λ n. bit_xor (after_zeros 16 low 16 hi) n) zlo ∙ xor_comm (after_zeros 16 low 16 hi) (lo * 256))
    ∙ xor_assoc (lo * 256) (after_zeros 16 low 16 hi) (after_zeros 16 low 16 b)
    ∙ ap (λ n. bit_xor (lo * 256) n) (sym both))

pub table_at : (f : ℕ → ℕ) (n i : ℕ) → i < n → get_or (map f (range_with_len 0 n)) i 0 ≡ f i
table_at f n i h = get_or-map-range_with_len f 0 n i i 0 h (omega arith)

-- several bytes at once
byte_below : (w b : ℕ) → 8 ≤ w → b < 256 → b < 2 ^ w
byte_below w b e h = let p : 2 ^ 8 ≤ 2 ^ w = pow-le-pow_right {n = 2} (omega arith) e in omega (arith, p)

-- what bytes add to a sum
abbrev pub parts : ℕ → ℕ → List ℕ → ℕ
parts w low [] = 0
parts w low (b ∷ bs) = bit_xor (after_zeros w low (w + 8 * length bs) b) (parts w low bs)

pub byte_lt : (w low sum b : ℕ) → 8 ≤ w → low < 2 ^ w → sum < 2 ^ w → b < 256 → after_byte w low sum b < 2 ^ w
byte_lt w low sum b e l h k =
    xor_lt w (after_zeros w low 8 sum) (after_zeros w low w b) (remainder-lt w low sum (bits_of 8 0) l h) (remainder-lt w low b (bits_of w 0) l (byte_below w b e k))

abbrev pub AllBytes : List ℕ → Type 0
AllBytes [] = Unit {0}
AllBytes (b ∷ bs) = (b < 256) × AllBytes bs

pub after_parts : (w low sum : ℕ) (bs : List ℕ) → 8 ≤ w → low < 2 ^ w → sum < 2 ^ w → AllBytes bs → after_bytes w low sum bs ≡ bit_xor (after_zeros w low (8 * length bs) sum) (parts w low bs)
unfolding bits_of remainder_after
after_parts w low sum [] e l h all = sym (xor_zero_r sum)
after_parts w low sum (b ∷ bs) e l h all =
    let z = λ (n x : ℕ). after_zeros w low n x in
    let n = 8 * length bs in
    let l8 : z 8 sum < 2 ^ w = remainder-lt w low sum (bits_of 8 0) l h in
    let lw : z w b < 2 ^ w = remainder-lt w low b (bits_of w 0) l (byte_below w b e all.0) in
    after_parts w low (after_byte w low sum b) bs e l (byte_lt w low sum b e l h all.0) all.1
    ∙ ap (λ x. bit_xor x (parts w low bs)) (zeros_apart w low n (z 8 sum) (z w b) l l8 lw)
    ∙ xor_assoc (z n (z 8 sum)) (z n (z w b)) (parts w low bs)
    ∙ ap (λ x. bit_xor x (bit_xor (z n (z w b)) (parts w low bs))) (sym (zeros_twice w low 8 n sum) ∙ ap (λ k. z k sum) (let q : 8 + n ≡ 8 * suc (length bs) = omega arith in q))
    ∙ ap (λ x. bit_xor (z (8 * suc (length bs)) sum) (bit_xor x (parts w low bs))) (sym (zeros_twice w low w n b))

-- four bytes behind a sum of one byte, which joins the first
pub four_bytes : (sum a : ℕ) (bs : List ℕ) → length bs ≡ 3 → sum < 256 → a < 256 → AllBytes bs
    → bit_xor (after_zeros 8 0x07 32 (bit_xor sum a)) (parts 8 0x07 bs) ≡ after_bytes 8 0x07 sum (a ∷ bs)
four_bytes sum a bs l h ha all =
    let z = λ (n x : ℕ). after_zeros 8 0x07 n x in
    let n8 : 8 * length (a ∷ bs) ≡ 32 = omega arith in
    let na : 8 + 8 * length bs ≡ 32 = omega arith in
    let right : after_bytes 8 0x07 sum (a ∷ bs) ≡ bit_xor (z 32 sum) (bit_xor (z 32 a) (parts 8 0x07 bs)) =
    after_parts 8 0x07 sum (a ∷ bs) (omega arith) (omega arith) h (ha, all)
    ∙ ap (λ n. bit_xor (z n sum) (bit_xor (z (8 + 8 * length bs) a) (parts 8 0x07 bs))) n8
    ∙ ap (λ n. bit_xor (z 32 sum) (bit_xor (z n a) (parts 8 0x07 bs))) na in
    ap (λ x. bit_xor x (parts 8 0x07 bs)) (zeros_apart 8 0x07 32 sum a (omega arith) h ha)
    ∙ xor_assoc (z 32 sum) (z 32 a) (parts 8 0x07 bs)
    ∙ sym right

-- eight bytes: the sum's two bytes join the first two
pub eight_bytes : (sum a b : ℕ) (bs : List ℕ) → length bs ≡ 6 → sum < 2 ^ 16 → a < 256 → b < 256 → AllBytes bs
    → bit_xor (after_zeros 16 0x8005 72 (bit_xor (sum / 256) a)) (bit_xor (after_zeros 16 0x8005 64 (bit_xor (sum % 256) b)) (parts 16 0x8005 bs)) ≡ after_bytes 16 0x8005 sum (a ∷ b ∷ bs)
eight_bytes sum a b bs l h ha hb all =
    let z = λ (n x : ℕ). after_zeros 16 0x8005 n x in
    let hi = sum / 256 in let lo = sum % 256 in
    let cut : sum ≡ bit_xor (hi * 256) lo = let x = xor_block 8 hi 0 0 lo (omega arith) (omega arith) in
    omega (arith, x, xor_zero_r hi, xor_zero_l lo, ap (λ n. bit_xor n (0 * 2 ^ 8 + lo)) (let q : hi * 2 ^ 8 + 0 ≡ hi * 256 = omega arith in q), ap (λ n. bit_xor (hi * 256) n) (let q : 0 * 2 ^ 8 + lo ≡ lo = omega arith in q)) in
    let up : z 64 (hi * 256) ≡ z 72 hi = ap (λ x. z 64 x) (sym (zeros_small 16 0x8005 8 hi (omega arith))) ∙ sym (zeros_twice 16 0x8005 8 64 hi) in
    let zs : z 64 sum ≡ bit_xor (z 72 hi) (z 64 lo) = ap (λ x. z 64 x) cut ∙ zeros_apart 16 0x8005 64 (hi * 256) lo (omega arith) (omega arith) (omega arith) ∙ ap (λ x. bit_xor x (z 64 lo)) up in
    let n8 : 8 * length (a ∷ b ∷ bs) ≡ 64 = omega arith in
    let na : 16 + 8 * length (b ∷ bs) ≡ 72 = omega arith in
    let nb : 16 + 8 * length bs ≡ 64 = omega arith in
    let right : after_bytes 16 0x8005 sum (a ∷ b ∷ bs) ≡ bit_xor (bit_xor (z 72 hi) (z 64 lo)) (bit_xor (z 72 a) (bit_xor (z 64 b) (parts 16 0x8005 bs))) =
    after_parts 16 0x8005 sum (a ∷ b ∷ bs) (omega arith) (omega arith) h (ha, (hb, all))
    ∙ ap (λ n. bit_xor (z n sum) (bit_xor (z (16 + 8 * length (b ∷ bs)) a) (bit_xor (z (16 + 8 * length bs) b) (parts 16 0x8005 bs)))) n8
    ∙ ap (λ n. bit_xor (z 64 sum) (bit_xor (z n a) (bit_xor (z (16 + 8 * length bs) b) (parts 16 0x8005 bs)))) na
    ∙ ap (λ n. bit_xor (z 64 sum) (bit_xor (z 72 a) (bit_xor (z n b) (parts 16 0x8005 bs)))) nb
    ∙ ap (λ x. bit_xor x (bit_xor (z 72 a) (bit_xor (z 64 b) (parts 16 0x8005 bs)))) zs in
    ap (λ x. bit_xor x (bit_xor (z 64 (bit_xor lo b)) (parts 16 0x8005 bs))) (zeros_apart 16 0x8005 72 hi a (omega arith) (omega arith) (omega arith))
    ∙ ap (λ x. bit_xor (bit_xor (z 72 hi) (z 72 a)) (bit_xor x (parts 16 0x8005 bs))) (zeros_apart 16 0x8005 64 lo b (omega arith) (omega arith) (omega arith))
    ∙ ap (λ x. bit_xor (bit_xor (z 72 hi) (z 72 a)) x) (xor_assoc (z 64 lo) (z 64 b) (parts 16 0x8005 bs))
    ∙ xor_four (z 72 hi) (z 72 a) (z 64 lo) (bit_xor (z 64 b) (parts 16 0x8005 bs))
    ∙ sym right

pub sum_bytes : (w low : ℕ) (front bs : List ℕ) → 8 ≤ w → low < 2 ^ w → AllBytes bs → sum_of w low (front ++ bs) ≡ after_bytes w low (sum_of w low front) bs
sum_bytes w low front [] e l all = ap (λ (xs : List ℕ). sum_of w low xs) (append-nil front)
sum_bytes w low front (b ∷ bs) e l all =
    ap (λ (xs : List ℕ). sum_of w low xs) (sym (append_assoc front (b ∷ []) bs)) ∙ sum_bytes w low (front ++ b ∷ []) bs e l all.1 ∙ ap (λ s. after_bytes w low s bs) (sum_more w low front b e l all.0)

pub all_bytes : (bs : List ℕ) → ((i : ℕ) → get_or bs i 0 < 256) → AllBytes bs
all_bytes [] h = tt
all_bytes (b ∷ bs) h = (h 0, all_bytes bs (λ i. h (suc i)))
