-- Bits and the numbers that they spell.
use Rattle.std.proofs.Common.{◌≡◌, ◌≢◌, Option, Some, None, ℕ, zero, suc, ◌+◌, ◌-◌, ◌*◌, ◌/◌, ◌%◌, ◌^◌, ◌<◌, ◌≤◌, Bool, true, false, cond, eqb, List, [], ◌∷◌, ◌++◌, length, take, drop, get_or, refl, sym, ap, ◌∙◌, arith, length-append, take-append-drop, length-take, length-drop, mod-eq_of_lt, drop-cons, add-one, take-add, drop-drop}
use Rattle.std.proofs.Math.Seq.{drop-append-add}
use Rattle.std.proofs.Math.Nat.{pow-suc, pow-le-pow_right}
use Rattle.std.proofs.lemmas.Nat.{pow-add, and_mask, mod-pow-add, shr_high, mod_low}
use Rattle.std.proofs.lemmas.List.Concat.{flat_map-append}
use Rattle.std.proofs.lemmas.List.{take-append-le, drop-append-le, drop_all}
use Rattle.std.specs.List.{flat_map}
use Rattle.std.specs.Int.{w64, from_be_bytes}
use Rattle.std.specs.Prelude.{bit_and}
use Rattle.flac_definitions.specs.Bits.{bits_of, number_of, bits_in, zeros_before}

pub length-bits_of : (n v : ℕ) → length (bits_of n v) ≡ n
unfolding bits_of
length-bits_of zero v = refl
length-bits_of (suc n) v = ap suc (length-bits_of n v)

pub number_of-append : (xs ys : List Bool) → number_of (xs ++ ys) ≡ number_of xs * 2 ^ length ys + number_of ys
unfolding number_of
number_of-append [] ys = omega arith
number_of-append (true ∷ xs) ys =
    let h : number_of (xs ++ ys) ≡ number_of xs * 2 ^ length ys + number_of ys = number_of-append xs ys in
    let p : 2 ^ length (xs ++ ys) ≡ 2 ^ length xs * 2 ^ length ys = ap (λ k. 2 ^ k) (length-append xs ys) ∙ pow-add 2 (length xs) (length ys) in
    omega (arith, h, p)
number_of-append (false ∷ xs) ys = omega (arith, number_of-append xs ys)

pub number_of-lt : (xs : List Bool) → number_of xs < 2 ^ length xs
unfolding number_of
number_of-lt [] = omega arith
number_of-lt (true ∷ xs) = omega (arith, number_of-lt xs, pow-suc 2 (length xs))
number_of-lt (false ∷ xs) = omega (arith, number_of-lt xs, pow-suc 2 (length xs))

-- lists of one length that spell one number are one
pub same_number : (xs ys : List Bool) → length xs ≡ length ys → number_of xs ≡ number_of ys → xs ≡ ys
unfolding number_of
same_number [] [] l e = refl
same_number [] (y ∷ ys) l e = absurd (omega arith)
same_number (x ∷ xs) [] l e = absurd (omega arith)
same_number (true ∷ xs) (true ∷ ys) l e =
    let h : length xs ≡ length ys = omega arith in
    let p : 2 ^ length xs ≡ 2 ^ length ys = ap (λ k. 2 ^ k) h in
    ap (λ zs. true ∷ zs) (same_number xs ys h (omega (arith, e, p)))
same_number (false ∷ xs) (false ∷ ys) l e = ap (λ zs. false ∷ zs) (same_number xs ys (omega arith) (omega (arith, e)))
same_number (true ∷ xs) (false ∷ ys) l e =
    let h : length xs ≡ length ys = omega arith in
    let p : 2 ^ length xs ≡ 2 ^ length ys = ap (λ k. 2 ^ k) h in
    absurd (omega (arith, e, p, number_of-lt ys))
same_number (false ∷ xs) (true ∷ ys) l e =
    let h : length xs ≡ length ys = omega arith in
    let p : 2 ^ length xs ≡ 2 ^ length ys = ap (λ k. 2 ^ k) h in
    absurd (omega (arith, e, p, number_of-lt xs))

digit : (d p : ℕ) → d < 2 → cond (eqb d 1) p 0 ≡ d * p
digit zero p h = omega arith
digit (suc zero) p h = omega arith
digit (suc (suc d)) p h = absurd (omega arith)

pub number_of-bits_of : (n v : ℕ) → number_of (bits_of n v) ≡ v % 2 ^ n
unfolding bits_of number_of
number_of-bits_of zero v = omega arith
number_of-bits_of (suc n) v =
    let h : number_of (bits_of n v) ≡ v % 2 ^ n = number_of-bits_of n v in
    let l : 2 ^ length (bits_of n v) ≡ 2 ^ n = ap (λ k. 2 ^ k) (length-bits_of n v) in
    let m : v % 2 ^ (1 + n) ≡ (v / 2 ^ n % 2 ^ 1) * 2 ^ n + v % 2 ^ n = mod-pow-add v 1 n in
    let d : cond (eqb (v / 2 ^ n % 2) 1) (2 ^ length (bits_of n v)) 0 ≡ (v / 2 ^ n % 2) * 2 ^ length (bits_of n v) = digit (v / 2 ^ n % 2) (2 ^ length (bits_of n v)) (omega arith) in
    let s : 2 ^ (1 + n) ≡ 2 ^ (suc n) = ap (λ k. 2 ^ k) (omega arith) in
    rw h (rw d (rw l (sym (rw (sym s) m))))

pub bits_of-number_of : (xs : List Bool) → bits_of (length xs) (number_of xs) ≡ xs
bits_of-number_of xs =
    same_number (bits_of (length xs) (number_of xs)) xs (length-bits_of (length xs) (number_of xs))
    (number_of-bits_of (length xs) (number_of xs) ∙ mod-eq_of_lt (number_of-lt xs))

-- the middle one of three
pub number_of-middle : (xs ys zs : List Bool) → number_of (xs ++ (ys ++ zs)) / 2 ^ length zs % 2 ^ length ys ≡ number_of ys
number_of-middle xs ys zs =
    let a = number_of xs in let b = number_of ys in let c = number_of zs in
    let whole : number_of (xs ++ (ys ++ zs)) ≡ (a * 2 ^ length ys + b) * 2 ^ length zs + c =
    number_of-append xs (ys ++ zs) ∙ omega (arith, number_of-append ys zs, ap (λ k. a * 2 ^ k) (length-append ys zs), ap (λ k. a * k) (pow-add 2 (length ys) (length zs))) in
    rw whole (rw (shr_high (a * 2 ^ length ys + b) (length zs) c (number_of-lt zs)) (mod_low a (length ys) b (number_of-lt ys)))

pub number_of-part : (w : List Bool) (r n : ℕ) → r + n ≤ length w → number_of (take n (drop r w)) ≡ number_of w / 2 ^ (length w - r - n) % 2 ^ n
number_of-part w r n h =
    let ys = take n (drop r w) in let zs = drop n (drop r w) in
    let lys : length ys ≡ n = omega (arith, length-take n (drop r w), length-drop r w) in
    let lzs : length zs ≡ length w - r - n = omega (arith, length-drop n (drop r w), length-drop r w) in
    let e : take r w ++ (ys ++ zs) ≡ w = ap (λ (t : List Bool). take r w ++ t) (take-append-drop n (drop r w)) ∙ take-append-drop r w in
    sym (rw e at (rw lzs at (rw lys at (number_of-middle (take r w) ys zs))))

pub length-bits_in : (bytes : List ℕ) → length (bits_in bytes) ≡ 8 * length bytes
unfolding bits_in
length-bits_in [] = refl
length-bits_in (b ∷ bs) = omega (arith, length-append (bits_of 8 b) (flat_map (bits_of 8) bs), length-bits_of 8 b, length-bits_in bs)

pub bits_in-append : (xs ys : List ℕ) → bits_in (xs ++ ys) ≡ bits_in xs ++ bits_in ys
unfolding bits_in
bits_in-append xs ys = flat_map-append (bits_of 8) xs ys

pub drop-bits_in : (bytes : List ℕ) (i r : ℕ) → i ≤ length bytes → drop (8 * i + r) (bits_in bytes) ≡ drop r (bits_in (drop i bytes))
drop-bits_in bytes i r h =
    let e : bits_in bytes ≡ bits_in (take i bytes) ++ bits_in (drop i bytes) = ap bits_in (sym (take-append-drop i bytes)) ∙ bits_in-append (take i bytes) (drop i bytes) in
    let l : length (bits_in (take i bytes)) ≡ 8 * i = omega (arith, length-bits_in (take i bytes), length-take i bytes) in
    rw e (rw (sym l) (drop-append-add (bits_in (take i bytes)) (bits_in (drop i bytes)) r))

abbrev pub IsBytes : List ℕ → Type 0
IsBytes bytes = (i : ℕ) → get_or bytes i 0 < 256

front_at : (bytes : List ℕ) (i j n : ℕ) → j ≡ i + 1 → i < length bytes → take (suc n) (drop i bytes) ≡ get_or bytes i 0 ∷ take n (drop j bytes)
front_at bytes i j n e h = rw (drop-cons bytes i 0) (rw e (rw add-one refl))

front_number : (bytes : List ℕ) (i j n : ℕ) → j ≡ i + 1 → i + suc n ≤ length bytes → IsBytes bytes → number_of (bits_in (take (suc n) (drop i bytes))) ≡ get_or bytes i 0 * 2 ^ (8 * n) + number_of (bits_in (take n (drop j bytes)))
unfolding bits_in
front_number bytes i j n e h fits =
    let rest = take n (drop j bytes) in
    let b = get_or bytes i 0 in
    let l : length (bits_in rest) ≡ 8 * n = omega (arith, length-bits_in rest, length-take n (drop j bytes), length-drop j bytes) in
    ap (λ (xs : List ℕ). number_of (bits_in xs)) (front_at bytes i j n e (omega arith))
    ∙ number_of-append (bits_of 8 b) (bits_in rest)
    ∙ omega (arith, ap (λ k. number_of (bits_of 8 b) * 2 ^ k) l, ap (λ k. k * 2 ^ (8 * n)) (number_of-bits_of 8 b ∙ mod-eq_of_lt (fits i)))

pub word_number : (bytes : List ℕ) (i : ℕ) → i + 8 ≤ length bytes → IsBytes bytes → from_be_bytes w64 (get_or bytes i 0 ∷ get_or bytes (i + 1) 0 ∷ get_or bytes (i + 2) 0 ∷ get_or bytes (i + 3) 0 ∷ get_or bytes (i + 4) 0 ∷ get_or bytes (i + 5) 0 ∷ get_or bytes (i + 6) 0 ∷ get_or bytes (i + 7) 0 ∷ []) ≡ number_of (bits_in (take 8 (drop i bytes)))
unfolding bits_in number_of
word_number bytes i h fits =
    let n = λ (xs : List ℕ). number_of (bits_in xs) in
    let a0 = front_number bytes i (i + 1) 7 refl (omega arith) fits in
    let a1 = front_number bytes (i + 1) (i + 2) 6 (omega arith) (omega arith) fits in
    let a2 = front_number bytes (i + 2) (i + 3) 5 (omega arith) (omega arith) fits in
    let a3 = front_number bytes (i + 3) (i + 4) 4 (omega arith) (omega arith) fits in
    let a4 = front_number bytes (i + 4) (i + 5) 3 (omega arith) (omega arith) fits in
    let a5 = front_number bytes (i + 5) (i + 6) 2 (omega arith) (omega arith) fits in
    let a6 = front_number bytes (i + 6) (i + 7) 1 (omega arith) (omega arith) fits in
    let a7 = front_number bytes (i + 7) (i + 8) 0 (omega arith) (omega arith) fits in
    omega (arith, a0, a1, a2, a3, a4, a5, a6, a7)

-- a field of the bytes in which it lies
pub field_in : (bytes : List ℕ) (at m n : ℕ) → at % 8 + n ≤ 8 * m → at / 8 + m ≤ length bytes → number_of (bits_in (take m (drop (at / 8) bytes))) / 2 ^ (8 * m - at % 8 - n) % 2 ^ n ≡ number_of (take n (drop at (bits_in bytes)))
field_in bytes at m n h there =
    let i = at / 8 in let r = at % 8 in
    let w = bits_in (take m (drop i bytes)) in
    let rest = bits_in (drop m (drop i bytes)) in
    let lw : length w ≡ 8 * m = omega (arith, length-bits_in (take m (drop i bytes)), length-take m (drop i bytes), length-drop i bytes) in
    let split : bits_in (drop i bytes) ≡ w ++ rest = ap bits_in (sym (take-append-drop m (drop i bytes))) ∙ bits_in-append (take m (drop i bytes)) (drop m (drop i bytes)) in
    let here : drop at (bits_in bytes) ≡ drop r (w ++ rest) = ap (λ k. drop k (bits_in bytes)) (let q : at ≡ 8 * i + r = omega arith in q) ∙ drop-bits_in bytes i r (omega arith) ∙ ap (λ (xs : List Bool). drop r xs) split in
    let le : r ≤ length w = omega arith in
    let dl : n ≤ length (drop r w) = omega (arith, length-drop r w) in
    let front : take n (drop at (bits_in bytes)) ≡ take n (drop r w) = ap (λ (xs : List Bool). take n xs) (here ∙ drop-append-le r w rest le) ∙ take-append-le n (drop r w) rest dl in
    sym (ap number_of front ∙ number_of-part w r n (omega arith) ∙ ap (λ k. number_of w / 2 ^ (k - r - n) % 2 ^ n) lw)

byte_number : (bytes : List ℕ) (i : ℕ) → i < length bytes → IsBytes bytes → number_of (bits_in (take 1 (drop i bytes))) ≡ get_or bytes i 0
unfolding bits_in number_of
byte_number bytes i h fits = omega (arith, front_number bytes i (i + 1) 0 refl (omega arith) fits)

pub bit_in : (bytes : List ℕ) (at : ℕ) → at < 8 * length bytes → IsBytes bytes → bit_and (get_or bytes (at / 8) 0 / 2 ^ (7 - at % 8)) 1 ≡ number_of (take 1 (drop at (bits_in bytes)))
bit_in bytes at h fits =
    let e : 8 * 1 - at % 8 - 1 ≡ 7 - at % 8 = omega arith in
    and_mask (get_or bytes (at / 8) 0 / 2 ^ (7 - at % 8)) 1
    ∙ rw e at (rw (byte_number bytes (at / 8) (omega arith) fits) at (field_in bytes at 1 1 (omega arith) (omega arith)))

-- one more bit
pub bit_more : (bits : List Bool) (at i : ℕ) → at + i < length bits → number_of (take (i + 1) (drop at bits)) ≡ 2 * number_of (take i (drop at bits)) + number_of (take 1 (drop (at + i) bits))
bit_more bits at i h =
    let xs = drop at bits in
    let l : length (take 1 (drop i xs)) ≡ 1 = omega (arith, length-take 1 (drop i xs), length-drop i xs, length-drop at bits) in
    ap number_of (take-add i 1 xs) ∙ number_of-append (take i xs) (take 1 (drop i xs))
    ∙ omega (arith, ap (λ k. number_of (take i xs) * 2 ^ k) l, ap (λ (ys : List Bool). number_of (take 1 ys)) (drop-drop i at bits))

pub number_of_take-lt : (n : ℕ) (bits : List Bool) → number_of (take n bits) < 2 ^ n
number_of_take-lt n bits =
    let l : 2 ^ length (take n bits) ≤ 2 ^ n = pow-le-pow_right {n = 2} (omega arith) (let q : length (take n bits) ≤ n = omega (arith, length-take n bits) in q) in
    omega (arith, l, number_of-lt (take n bits))

pub take_nothing : (bits : List Bool) → 0 ≡ number_of (take 0 bits)
unfolding number_of
take_nothing bits = refl

-- the number so far and one more bit fit where the bits are at most 64
pub number_fits : (bits : List Bool) (i n b : ℕ) → i < n → n ≤ 64 → b < 2 → 2 * number_of (take i bits) + b < 2 ^ 64
number_fits bits i n b h k l =
    let p : 2 ^ (suc i) ≤ 2 ^ 64 = pow-le-pow_right {n = 2} (omega arith) (let q : suc i ≤ 64 = omega arith in q) in
    omega (arith, p, number_of_take-lt i bits, pow-suc 2 i)

-- as many more zeros in front
abbrev pub with_zeros : ℕ → Option ℕ → Option ℕ
with_zeros k None = None
with_zeros k (Some n) = Some (k + n)

single : (b : Bool) → number_of (b ∷ []) ≡ cond b 1 0
unfolding number_of
single true = refl
single false = refl

zeros_cons : (b : Bool) (bits : List Bool) → zeros_before (b ∷ bits) ≡ cond b (Some 0) (with_zeros 1 (zeros_before bits))
unfolding zeros_before
zeros_cons true bits = refl
zeros_cons false bits = elim (zeros_before bits) as (λ z. elim z as (λ _. Option ℕ) [ None ↦ None | Some n ↦ Some (n + 1) ] ≡ with_zeros 1 z) [ None ↦ refl | Some n ↦ ap Some (omega arith) ]

pub with_zeros_twice : (k j : ℕ) (z : Option ℕ) → with_zeros k (with_zeros j z) ≡ with_zeros (k + j) z
with_zeros_twice k j None = refl
with_zeros_twice k j (Some n) = ap Some (omega arith)

-- the next bit of what is left
next_bit : (bits : List Bool) (i : ℕ) → i < length bits → zeros_before (drop i bits) ≡ cond (eqb (number_of (take 1 (drop i bits))) 1) (Some 0) (with_zeros 1 (zeros_before (drop (i + 1) bits)))
next_bit bits i h =
    let b = get_or bits i false in
    let e : drop i bits ≡ b ∷ drop (i + 1) bits = rw add-one (drop-cons bits i false h) in
    rw e (zeros_cons b (drop (i + 1) bits) ∙ rw (single b) (elim b as (λ v. cond v (Some 0) (with_zeros 1 (zeros_before (drop (i + 1) bits))) ≡ cond (eqb (cond v 1 0) 1) (Some 0) (with_zeros 1 (zeros_before (drop (i + 1) bits)))) [ true ↦ refl | false ↦ refl ]))

pub zeros_here : (bits : List Bool) (i k : ℕ) → i < length bits → number_of (take 1 (drop i bits)) ≡ 1 → with_zeros k (zeros_before (drop i bits)) ≡ Some k
zeros_here bits i k h e = rw (next_bit bits i h) (rw e (ap Some (omega arith)))

pub zeros_past : (bits : List Bool) (i k : ℕ) → i < length bits → number_of (take 1 (drop i bits)) < 2 → number_of (take 1 (drop i bits)) ≢ 1 → with_zeros k (zeros_before (drop i bits)) ≡ with_zeros (k + 1) (zeros_before (drop (i + 1) bits))
zeros_past bits i k h l e =
    let z : number_of (take 1 (drop i bits)) ≡ 0 = omega arith in
    rw (next_bit bits i h) (rw z (with_zeros_twice k 1 (zeros_before (drop (i + 1) bits))))

pub zeros_none : (bits : List Bool) (i k : ℕ) → length bits ≤ i → with_zeros k (zeros_before (drop i bits)) ≡ None
unfolding zeros_before
zeros_none bits i k h = rw (drop_all i bits h) refl

pub zeros_start : (z : Option ℕ) → z ≡ with_zeros 0 z
zeros_start None = refl
zeros_start (Some n) = ap Some (omega arith)
