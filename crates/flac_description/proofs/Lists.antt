-- Lists with fronts of one length, bytes of bits, and numbers of bytes.
use Rattle.std.proofs.Common.{ℕ, zero, suc, ◌≡◌, ◌<◌, ◌+◌, ◌*◌, ◌^◌, Bool, List, [], ◌∷◌, ◌++◌, length, take, drop, refl, sym, ap, ◌∙◌, arith, append_assoc, take-append-drop, mod-eq_of_lt, take-add}
use Rattle.std.proofs.lemmas.Nat.{pow-add}
use Rattle.std.proofs.lemmas.List.{drop-drop}
use Rattle.flac_definitions.specs.Bits.{bits_of, number_of, bits_in}
use Rattle.flac_definitions.specs.BitLaws.{IsBytes, length-bits_of, number_of-bits_of, number_of-append, length-bits_in, bits_in-append}
use Rattle.wc_config.specs.Streams.{big_endian, big_endian_after}

same_front : {A : Type 0} (x y : A) (a c : List A) → x ∷ a ≡ y ∷ c → x ≡ y
same_front x y a c e = cc

same_rest : {A : Type 0} (x y : A) (a c : List A) → x ∷ a ≡ y ∷ c → a ≡ c
same_rest x y a c e = cc

cons_both : {A : Type 0} (x y : A) (a c : List A) → x ≡ y → a ≡ c → x ∷ a ≡ y ∷ c
cons_both x y a c e f = cc

-- fronts of one length, and what stands behind them
pub halves : {A : Type 0} (a c b d : List A) → length a ≡ length c → a ++ b ≡ c ++ d → (a ≡ c) × (b ≡ d)
halves [] [] b d l e = (refl, e)
halves [] (y ∷ c) b d l e = absurd (omega arith)
halves (x ∷ a) [] b d l e = absurd (omega arith)
halves (x ∷ a) (y ∷ c) b d l e =
    let r = halves a c b d (omega arith) (same_rest x y (a ++ b) (c ++ d) e) in
    (cons_both x y a c (same_front x y (a ++ b) (c ++ d) e) r.0, r.1)

bits_in_cons : (b : ℕ) (bytes : List ℕ) → bits_in (b ∷ bytes) ≡ bits_of 8 b ++ bits_in bytes
unfolding bits_in
bits_in_cons b bytes = refl

same_byte : (x y : ℕ) → x < 256 → y < 256 → bits_of 8 x ≡ bits_of 8 y → x ≡ y
same_byte x y h k e =
    sym (number_of-bits_of 8 x ∙ mod-eq_of_lt h) ∙ (ap number_of e ∙ (number_of-bits_of 8 y ∙ mod-eq_of_lt k))

-- bytes of one list of bits are one
pub same_bytes : (xs ys : List ℕ) → IsBytes xs → IsBytes ys → bits_in xs ≡ bits_in ys → xs ≡ ys
same_bytes [] [] f g e = refl
same_bytes [] (y ∷ ys) f g e = absurd (omega (arith, length-bits_in [], length-bits_in (y ∷ ys), ap (λ (bits : List Bool). length bits) e))
same_bytes (x ∷ xs) [] f g e = absurd (omega (arith, length-bits_in [], length-bits_in (x ∷ xs), ap (λ (bits : List Bool). length bits) e))
same_bytes (x ∷ xs) (y ∷ ys) f g e =
    let both : bits_of 8 x ++ bits_in xs ≡ bits_of 8 y ++ bits_in ys = sym (bits_in_cons x xs) ∙ (e ∙ bits_in_cons y ys) in
    let r = halves (bits_of 8 x) (bits_of 8 y) (bits_in xs) (bits_in ys) (length-bits_of 8 x ∙ sym (length-bits_of 8 y)) both in
    cons_both x y xs ys (same_byte x y (f 0) (g 0) r.0) (same_bytes xs ys (λ i. f (suc i)) (λ i. g (suc i)) r.1)

-- parts of bytes are bytes
pub take_fits : (n : ℕ) (xs : List ℕ) → IsBytes xs → IsBytes (take n xs)
take_fits zero xs f i = omega arith
take_fits (suc n) [] f i = f i
take_fits (suc n) (x ∷ xs) f zero = f 0
take_fits (suc n) (x ∷ xs) f (suc i) = take_fits n xs (λ j. f (suc j)) i

pub drop_fits : (n : ℕ) (xs : List ℕ) → IsBytes xs → IsBytes (drop n xs)
drop_fits zero xs f i = f i
drop_fits (suc n) [] f i = f i
drop_fits (suc n) (x ∷ xs) f i = drop_fits n xs (λ j. f (suc j)) i

number_after : (n : ℕ) (xs : List ℕ) → IsBytes xs → big_endian_after n xs ≡ n * 2 ^ (8 * length xs) + number_of (bits_in xs)
unfolding bits_in number_of
number_after n [] f = omega arith
number_after n (b ∷ bs) f =
    let m = 256 * n + b in
    let more : big_endian_after m bs ≡ m * 2 ^ (8 * length bs) + number_of (bits_in bs) = number_after m bs (λ i. f (suc i)) in
    let front : number_of (bits_of 8 b) ≡ b = number_of-bits_of 8 b ∙ mod-eq_of_lt (f 0) in
    let both : number_of (bits_of 8 b ++ bits_in bs) ≡ number_of (bits_of 8 b) * 2 ^ length (bits_in bs) + number_of (bits_in bs) = number_of-append (bits_of 8 b) (bits_in bs) in
    let long : number_of (bits_of 8 b) * 2 ^ length (bits_in bs) ≡ b * 2 ^ (8 * length bs) = ap (λ (k : ℕ). k * 2 ^ length (bits_in bs)) front ∙ ap (λ (k : ℕ). b * 2 ^ k) (length-bits_in bs) in
    let power : 2 ^ (8 * suc (length bs)) ≡ 256 * 2 ^ (8 * length bs) = ap (λ (k : ℕ). 2 ^ k) (let e : 8 * suc (length bs) ≡ 8 + 8 * length bs = omega arith in e) ∙ pow-add 2 8 (8 * length bs) in
    omega (arith, more, both, long, ap (λ (k : ℕ). n * k) power)

-- the number of bytes is that of their bits
pub spelled_number : (xs : List ℕ) → IsBytes xs → big_endian xs ≡ number_of (bits_in xs)
spelled_number xs f = omega (arith, number_after 0 xs f)

-- a description in its parts: the mark, the block's header, its fields, and the sum
pub parts : (bytes : List ℕ) → take 42 bytes ≡ take 4 bytes ++ (take 4 (drop 4 bytes) ++ (take 18 (take 34 (drop 8 bytes)) ++ drop 18 (take 34 (drop 8 bytes))))
parts bytes =
    let block : take 18 (take 34 (drop 8 bytes)) ++ drop 18 (take 34 (drop 8 bytes)) ≡ take 34 (drop 8 bytes) = take-append-drop 18 (take 34 (drop 8 bytes)) in
    let rest : drop 4 (drop 4 bytes) ≡ drop 8 bytes = drop-drop 4 4 bytes in
    take-add 4 38 bytes ∙ ap (λ (l : List ℕ). take 4 bytes ++ l)
    (take-add 4 34 (drop 4 bytes) ∙ ap (λ (l : List ℕ). take 4 (drop 4 bytes) ++ l) (ap (λ (l : List ℕ). take 34 l) rest ∙ sym block))

pub bits_of_parts : (a b c d : List ℕ) → bits_in (a ++ (b ++ (c ++ d))) ≡ bits_in a ++ (bits_in b ++ (bits_in c ++ bits_in d))
bits_of_parts a b c d =
    bits_in-append a (b ++ (c ++ d)) ∙ ap (λ (l : List Bool). bits_in a ++ l)
    (bits_in-append b (c ++ d) ∙ ap (λ (l : List Bool). bits_in b ++ l) (bits_in-append c d))

-- a description's parts
pub regroup : (m l s k f t : List Bool) → (m ++ l ++ s ++ k) ++ f ++ t ≡ m ++ ((l ++ s ++ k) ++ (f ++ t))
regroup m l s k f t = simp append_assoc refl
