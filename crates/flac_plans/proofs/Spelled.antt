-- Parts and values, one behind another.
use Rattle.std.proofs.Common.{ℕ, ℤ, pos, zero, suc, ◌≡◌, ◌<◌, ◌≤◌, ◌+◌, ◌-◌, ◌*◌, ◌/◌, ◌%◌, ◌^◌, bit_and, Bool, true, false, List, [], ◌∷◌, ◌++◌, length, take, drop, get_or, replicate, map, ap, sym, ◌∙◌, append_assoc, append-nil, arith, lit<, take-append-drop, drop-cons, zero-add, add-one}
use Rattle.std.specs.List.{flat_map, range_with_len}
use Rattle.std.specs.Result.{OnErr}
use Rattle.std.specs.Prelude.{Result, Ok, Err}
use Rattle.std.proofs.Math.Nat.{pow-le-pow_right}
use Rattle.std.proofs.lemmas.Nat.{pow_pos, pow-add, mod_below, one_shl, and_mask}
use Rattle.std.proofs.lemmas.List.Concat.{flat_map-append}
use Rattle.std.proofs.lemmas.List.{map-append, take_more}
use Rattle.flac_definitions.specs.ResidualSpelling.{folded_value}
use Rattle.flac_definitions.specs.Bits.{bits_of}
use Rattle.flac_write.specs.Writer.{IsBegun}
use Rattle.flac_write.specs.WriterLaws.{bits_cat, bits_mod, bits_zero, bit_one, zeros_more, nothing_begun, begun_first, begun_then, begun_as}
use Rattle.flac_definitions.specs.ResidualWriting.{rice_bits}

-- what holds anyway
pub on_err : {T E P : Type 0} (r : Result T E) → P → OnErr r P
on_err (Ok x) p = tt
on_err (Err e) p = p

-- ---- values

pub low_value : (v n w : ℕ) → n < w → bit_and v (1 * 2 ^ n % 2 ^ w - 1) ≡ v % 2 ^ n
low_value v n w fits = ap (λ (x : ℕ). bit_and v (x - 1)) (one_shl n w fits) ∙ and_mask v n

pub tail_value : (k z : ℕ) → k ≤ 14 → 1 * 2 ^ k % 2 ^ 64 + bit_and z (1 * 2 ^ k % 2 ^ 32 - 1) ≡ 2 ^ k + z % 2 ^ k
tail_value k z small = ap (λ (x : ℕ). x + bit_and z (1 * 2 ^ k % 2 ^ 32 - 1)) (one_shl k 64 (omega (arith, small))) ∙ ap (λ (x : ℕ). 2 ^ k + x) (low_value z k 32 (omega (arith, small)))

-- a 1 and the low bits
tail_bits : (k z : ℕ) → bits_of (k + 1) (2 ^ k + z % 2 ^ k) ≡ (true ∷ []) ++ bits_of k z
tail_bits k z =
    let e : bits_of (1 + k) (1 * 2 ^ k + z % 2 ^ k) ≡ bits_of 1 1 ++ bits_of k (z % 2 ^ k) = bits_cat 1 k 1 (z % 2 ^ k) (mod_below z (2 ^ k) (pow_pos k)) in
    let n : k + 1 ≡ 1 + k = omega arith in
    let v : 2 ^ k + z % 2 ^ k ≡ 1 * 2 ^ k + z % 2 ^ k = omega arith in
    ap (λ (m : ℕ). bits_of m (2 ^ k + z % 2 ^ k)) n ∙ (ap (bits_of (1 + k)) v ∙ (e ∙ (ap (λ (l : List Bool). l ++ bits_of k (z % 2 ^ k)) bit_one ∙ ap (λ (l : List Bool). (true ∷ []) ++ l) (bits_mod k z))))

pub zeros_and_tail : (k z : ℕ) → bits_of (z / 2 ^ k) 0 ++ bits_of (k + 1) (2 ^ k + z % 2 ^ k) ≡ rice_bits k z
zeros_and_tail k z =
    let q = z / 2 ^ k in
    ap (λ (l : List Bool). l ++ bits_of (k + 1) (2 ^ k + z % 2 ^ k)) (bits_zero q)
    ∙ (ap (λ (l : List Bool). replicate q false ++ l) (tail_bits k z) ∙ sym (append_assoc (replicate q false) (true ∷ []) (bits_of k z)))

pub rice_short : (k z : ℕ) → bits_of (z / 2 ^ k + k + 1) (2 ^ k + z % 2 ^ k) ≡ rice_bits k z
rice_short k z =
    let q = z / 2 ^ k in
    let tail = 2 ^ k + z % 2 ^ k in
    let small : tail < 2 ^ (k + 1) = omega (arith, mod_below z (2 ^ k) (pow_pos k), pow-add 2 k 1) in
    let e : bits_of (q + (k + 1)) (0 * 2 ^ (k + 1) + tail) ≡ bits_of q 0 ++ bits_of (k + 1) tail = bits_cat q (k + 1) 0 tail small in
    let n : q + k + 1 ≡ q + (k + 1) = omega arith in
    let v : tail ≡ 0 * 2 ^ (k + 1) + tail = omega arith in
    ap (λ (m : ℕ). bits_of m tail) n ∙ (ap (bits_of (q + (k + 1))) v ∙ (e ∙ zeros_and_tail k z))

pub rice_long : (before : List Bool) (k z : ℕ) → (before ++ bits_of (z / 2 ^ k) 0) ++ bits_of (k + 1) (2 ^ k + z % 2 ^ k) ≡ before ++ rice_bits k z
rice_long before k z = append_assoc before (bits_of (z / 2 ^ k) 0) (bits_of (k + 1) (2 ^ k + z % 2 ^ k)) ∙ ap (λ (l : List Bool). before ++ l) (zeros_and_tail k z)

pub tail_fits : (k q tail : ℕ) → tail < 2 ^ (k + 1) → tail < 2 ^ (q + k + 1)
tail_fits k q tail small = let up : 2 ^ (k + 1) ≤ 2 ^ (q + k + 1) = pow-le-pow_right (lit< tt) (omega arith) in omega (arith, small, up)

-- a want of memory in the zeros, or behind them
pub begun_zeros : (before after : List Bool) (k z : ℕ) → IsBegun before (bits_of (z / 2 ^ k) 0) after → IsBegun before (rice_bits k z) after
begun_zeros before after k z h =
    begun_as before (bits_of (z / 2 ^ k) 0 ++ bits_of (k + 1) (2 ^ k + z % 2 ^ k)) (rice_bits k z) after (zeros_and_tail k z)
    (begun_first before (bits_of (z / 2 ^ k) 0) (bits_of (k + 1) (2 ^ k + z % 2 ^ k)) after h)

pub begun_tail : (before middle after : List Bool) (k z : ℕ) → middle ≡ before ++ bits_of (z / 2 ^ k) 0 → after ≡ middle → IsBegun before (rice_bits k z) after
begun_tail before middle after k z e f =
    begun_as before (bits_of (z / 2 ^ k) 0 ++ bits_of (k + 1) (2 ^ k + z % 2 ^ k)) (rice_bits k z) after (zeros_and_tail k z)
    (begun_then before (bits_of (z / 2 ^ k) 0) (bits_of (k + 1) (2 ^ k + z % 2 ^ k)) middle after e (nothing_begun middle (bits_of (k + 1) (2 ^ k + z % 2 ^ k)) after f))

-- zeros of which some are there
pub some_zeros : (before middle after : List Bool) (m n : ℕ) → m ≤ n → middle ≡ before ++ bits_of m 0 → after ≡ middle → IsBegun before (bits_of n 0) after
some_zeros before middle after m n few e f =
    let rest = n - m in
    let sum : m + rest ≡ n = omega (arith, few) in
    let whole : bits_of m 0 ++ bits_of rest 0 ≡ bits_of n 0 = zeros_more [] m rest ∙ ap (λ (k : ℕ). bits_of k 0) sum in
    begun_as before (bits_of m 0 ++ bits_of rest 0) (bits_of n 0) after whole (begun_then before (bits_of m 0) (bits_of rest 0) middle after e (nothing_begun middle (bits_of rest 0) after f))

-- ---- lists of them

flat_more : {A : Type 0} (f : A → List Bool) (ys : List A) (x : A) → flat_map f (ys ++ x ∷ []) ≡ flat_map f ys ++ f x
flat_more f ys x = flat_map-append f ys (x ∷ []) ∙ ap (λ (l : List Bool). flat_map f ys ++ l) (append-nil (f x))

-- one more of them
pub each_more : {A : Type 0} (f : A → List Bool) (first head now next got : List Bool) (ys zs : List A) (x : A) → zs ≡ ys ++ x ∷ [] → now ≡ first ++ (head ++ flat_map f ys) → next ≡ now ++ got → got ≡ f x → next ≡ first ++ (head ++ flat_map f zs)
each_more {A} f first head now next got ys zs x list so_far added is =
    added ∙ (ap (λ (l : List Bool). l ++ got) so_far ∙ (append_assoc first (head ++ flat_map f ys) got ∙ ap (λ (l : List Bool). first ++ l) (append_assoc head (flat_map f ys) got
    ∙ ap (λ (l : List Bool). head ++ l) (ap (λ (l : List Bool). flat_map f ys ++ l) is ∙ (sym (flat_more f ys x) ∙ ap (λ (l : List A). flat_map f l) (sym list))))))

-- a want of memory in one of them
pub each_begun : {A : Type 0} (f : A → List Bool) (first head now after got : List Bool) (xs ys zs : List A) (x : A) → xs ≡ ys ++ x ∷ zs → now ≡ first ++ (head ++ flat_map f ys) → got ≡ f x → IsBegun now got after → IsBegun first (head ++ flat_map f xs) after
each_begun {A} f first head now after got xs ys zs x list so_far is h =
    let rest = flat_map f zs in
    let whole : (head ++ flat_map f ys) ++ (got ++ rest) ≡ head ++ flat_map f xs =
    append_assoc head (flat_map f ys) (got ++ rest) ∙ ap (λ (l : List Bool). head ++ l) (ap (λ (l : List Bool). flat_map f ys ++ (l ++ rest)) is ∙ (sym (flat_map-append f ys (x ∷ zs)) ∙ ap (λ (l : List A). flat_map f l) (sym list))) in
    begun_as first ((head ++ flat_map f ys) ++ (got ++ rest)) (head ++ flat_map f xs) after whole
    (begun_then first (head ++ flat_map f ys) (got ++ rest) now after so_far (begun_first now got rest after h))

-- folded values, at one of them
pub values_at : (xs : List ℤ) (i : ℕ) → i < length xs → map folded_value xs ≡ map folded_value (take i xs) ++ folded_value (get_or xs i (pos 0)) ∷ map folded_value (drop (i + 1) xs)
values_at xs i h =
    let here : drop i xs ≡ get_or xs i (pos 0) ∷ drop (i + 1) xs = rw add-one (drop-cons xs i (pos 0) h) in
    ap (map folded_value) (sym (take-append-drop i xs) ∙ ap (λ (l : List ℤ). take i xs ++ l) here) ∙ map-append folded_value (take i xs) (get_or xs i (pos 0) ∷ drop (i + 1) xs)

pub values_more : (f : ℕ → List Bool) (xs : List ℤ) (i : ℕ) → i < length xs → flat_map f (map folded_value (take (i + 1) xs)) ≡ flat_map f (map folded_value (take i xs)) ++ f (folded_value (get_or xs i (pos 0)))
values_more f xs i h =
    ap (λ (l : List ℤ). flat_map f (map folded_value l)) (take_more xs i (pos 0) h)
    ∙ (ap (flat_map f) (map-append folded_value (take i xs) (get_or xs i (pos 0) ∷ [])) ∙ flat_more f (map folded_value (take i xs)) (folded_value (get_or xs i (pos 0))))

pub values_split : (f : ℕ → List Bool) (xs : List ℤ) (i : ℕ) → i < length xs → flat_map f (map folded_value xs) ≡ flat_map f (map folded_value (take i xs)) ++ (f (folded_value (get_or xs i (pos 0))) ++ flat_map f (map folded_value (drop (i + 1) xs)))
values_split f xs i h = ap (flat_map f) (values_at xs i h) ∙ flat_map-append f (map folded_value (take i xs)) (folded_value (get_or xs i (pos 0)) ∷ map folded_value (drop (i + 1) xs))

-- numbers in order, at one of them
range_from : (a n j b : ℕ) → j < n → a + j ≡ b → range_with_len a n ≡ range_with_len a j ++ b ∷ range_with_len (b + 1) (n - j - 1)
range_from a zero j b h e = absurd (omega (arith, h))
range_from a (suc n) zero b h e =
    let same : a ≡ b = omega (arith, e) in
    let count : n ≡ suc n - 0 - 1 = omega arith in
    ap (λ (x : ℕ). x ∷ range_with_len (x + 1) n) same ∙ ap (λ (k : ℕ). b ∷ range_with_len (b + 1) k) count
range_from a (suc n) (suc j) b h e =
    let count : n - j - 1 ≡ suc n - suc j - 1 = omega arith in
    ap (λ (l : List ℕ). a ∷ l) (range_from (a + 1) n j b (omega (arith, h)) (omega (arith, e)) ∙ ap (λ (k : ℕ). range_with_len (a + 1) j ++ b ∷ range_with_len (b + 1) k) count)

pub range_at : (n j : ℕ) → j < n → range_with_len 0 n ≡ range_with_len 0 j ++ j ∷ range_with_len (j + 1) (n - j - 1)
range_at n j h = range_from 0 n j j h (zero-add j)

pub range_more : (j : ℕ) → range_with_len 0 (j + 1) ≡ range_with_len 0 j ++ j ∷ []
range_more j =
    let none : j + 1 - j - 1 ≡ 0 = omega arith in
    range_at (j + 1) j (omega arith) ∙ ap (λ (k : ℕ). range_with_len 0 j ++ j ∷ range_with_len (j + 1) k) none
