-- Remainders are below x ^ width, and sums of bytes are sums of their bits.
use Rattle.std.proofs.Common.{◌≡◌, ℕ, zero, suc, ◌+◌, ◌*◌, ◌/◌, ◌%◌, ◌^◌, ◌<◌, Bool, true, false, List, [], ◌∷◌, ◌++◌, length, take, drop, sym, ap, ◌∙◌, arith, length-append, length-take, take-append-drop}
use Rattle.std.proofs.Math.Seq.{take-append_seam}
use Rattle.std.proofs.lemmas.Nat.{pow-add, pow_pos, xor_lt, shr_below}
use Rattle.flac_definitions.specs.Bits.{bits_of, bits_in}
use Rattle.flac_definitions.specs.BitLaws.{length-bits_in, bits_in-append}
use Rattle.flac_definitions.specs.Sums.{remainder_with, coefficient, remainder_after, bits_sum, sum_of, crc16_of}

pub longer_top : (w r b : ℕ) → r < 2 ^ w → b < 2 → (2 * r + b) / 2 ^ w < 2
longer_top w r b h l =
    shr_below (2 * r + b) 1 w (let p : 2 ^ (1 + w) ≡ 2 * 2 ^ w = pow-add 2 1 w in omega (arith, p))

pub times_bit_lt : (x low w : ℕ) → x < 2 → low < 2 ^ w → x * low < 2 ^ w
times_bit_lt zero low w h k = omega (arith, pow_pos w)
times_bit_lt (suc zero) low w h k = omega arith
times_bit_lt (suc (suc x)) low w h k = absurd (omega arith)

pub remainder_with-lt : (w low r b : ℕ) → low < 2 ^ w → r < 2 ^ w → b < 2 → remainder_with w low r b < 2 ^ w
remainder_with-lt w low r b l h k =
    xor_lt w ((2 * r + b) % 2 ^ w) (((2 * r + b) / 2 ^ w) * low) (omega (arith, pow_pos w)) (times_bit_lt ((2 * r + b) / 2 ^ w) low w (longer_top w r b h k) l)

pub coefficient_lt : (b : Bool) → coefficient b < 2
coefficient_lt true = omega arith
coefficient_lt false = omega arith

pub remainder-lt : (w low r : ℕ) (bs : List Bool) → low < 2 ^ w → r < 2 ^ w → remainder_after w low r bs < 2 ^ w
unfolding remainder_after
remainder-lt w low r [] l h = h
remainder-lt w low r (b ∷ bs) l h = remainder-lt w low (remainder_with w low r (coefficient b)) bs l (remainder_with-lt w low r (coefficient b) l h (coefficient_lt b))

pub sum-lt : (w low : ℕ) (bytes : List ℕ) → low < 2 ^ w → sum_of w low bytes < 2 ^ w
sum-lt w low bytes l = remainder-lt w low 0 (bits_in bytes ++ bits_of w 0) l (pow_pos w)

-- the bytes whose bits stand in front
pub front_bytes : (bytes : List ℕ) (bits rest : List Bool) → bits_in bytes ≡ bits ++ rest → length bits % 8 ≡ 0 → bits_in (take (length bits / 8) bytes) ≡ bits
front_bytes bytes bits rest e h =
    let k = length bits / 8 in
    let a = bits_in (take k bytes) in let b = bits_in (drop k bytes) in
    let split : bits_in bytes ≡ a ++ b = ap bits_in (sym (take-append-drop k bytes)) ∙ bits_in-append (take k bytes) (drop k bytes) in
    let total : 8 * length bytes ≡ length bits + length rest = sym (length-bits_in bytes) ∙ ap length e ∙ length-append bits rest in
    let la : length a ≡ length bits = omega (arith, length-bits_in (take k bytes), length-take k bytes, total, h) in
    sym (take-append_seam a b) ∙ ap (λ n. take n (a ++ b)) la ∙ ap (λ (xs : List Bool). take (length bits) xs) (sym split ∙ e) ∙ take-append_seam bits rest

pub sum_16 : (bytes : List ℕ) (bits rest : List Bool) (at : ℕ) → bits_in bytes ≡ bits ++ rest → length bits % 8 ≡ 0 → at ≡ length bits → crc16_of (take (at / 8) bytes) ≡ bits_sum 16 0x8005 bits
sum_16 bytes bits rest at e h l =
    ap (λ n. crc16_of (take n bytes)) (let q : at / 8 ≡ length bits / 8 = omega (arith, l) in q) ∙ ap (λ (xs : List Bool). bits_sum 16 0x8005 xs) (front_bytes bytes bits rest e h)
