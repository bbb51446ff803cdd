-- What the front bits of a window say of the bits ahead.
use Rattle.std.proofs.Common.{◌≡◌, ℕ, zero, suc, ◌+◌, ◌-◌, ◌*◌, ◌/◌, ◌%◌, ◌^◌, ◌<◌, ◌≤◌, Bool, List, ◌++◌, length, take, drop, Option, Some, None, refl, sym, ap, ◌∙◌, subst, arith, length-take, length-drop, mod-eq_of_lt, take-add, drop-drop, take-append-drop, cond}
use Rattle.std.proofs.Math.Nat.{pow-suc, pow-le-pow_right, mul_assoc, mul-mod_left, zero-mod, div-eq_of_lt, div-eq_of_lt-le}
use Rattle.std.proofs.lemmas.Nat.{pow-add, pow_pos, shl-shr, shr-shr, field_of, mod-pow-add, mul-mod_first, leading_top, mul-le, le-div, shr_below, shl_below}
use Rattle.std.proofs.lemmas.List.{drop-take, take-append-le}
use Rattle.std.specs.Int.Count.{count_leading_zeros, leading_of_zero}
use Rattle.std.proofs.lemmas.Bool.{le-ltb}
use Rattle.flac_definitions.specs.Bits.{Place, ahead, left, forward, bits_in, number_of, number_at, zeros_before, zeros_at, behind_one}
use Rattle.flac_definitions.specs.BitLaws.{field_in, number_of-part, number_of-append, length-bits_in, with_zeros, with_zeros_twice, zeros_here, zeros_past, zeros_start}
use Rattle.flac_bits.specs.Window.{IsWindow}

-- of a number that was moved up, what is left of its top
shifted_mod : (n m s : ℕ) → n * 2 ^ s % 2 ^ (m + s) ≡ (n % 2 ^ m) * 2 ^ s
shifted_mod n m s =
    mod-pow-add (n * 2 ^ s) m s
    ∙ ap (λ k. (k % 2 ^ m) * 2 ^ s + n * 2 ^ s % 2 ^ s) (shl-shr n s)
    ∙ omega (arith, mul-mod_left n (2 ^ s))

-- a field of a number that stands at the top of a word
field_on_top : (n s f m : ℕ) → n * 2 ^ s / 2 ^ (s + f) % 2 ^ m ≡ n / 2 ^ f % 2 ^ m
field_on_top n s f m = ap (λ k. k % 2 ^ m) (sym (shr-shr (n * 2 ^ s) s f) ∙ ap (λ k. k / 2 ^ f) (shl-shr n s))

take_front : (m k : ℕ) (xs : List Bool) → m ≤ k → k ≤ length xs → take m (take k xs) ≡ take m xs
take_front m k xs h l =
    sym (take-append-le m (take k xs) (drop k xs) (omega (arith, length-take k xs))) ∙ ap (λ (ys : List Bool). take m ys) (take-append-drop k xs)

-- `m` bits that are `r` bits behind the window's front
pub part_of_window : (bytes : List ℕ) (at word valid r m : ℕ) → IsWindow bytes at word valid → r + m ≤ valid → word / 2 ^ (64 - r - m) % 2 ^ m ≡ number_of (take m (drop (at + r) (bits_in bytes)))
part_of_window bytes at word valid r m w h =
    let bits = bits_in bytes in
    let v = take valid (drop at bits) in
    let lv : length v ≡ valid = omega (arith, length-take valid (drop at bits), length-drop at bits, length-bits_in bytes, w.there) in
    let n = number_of v in
    let here : take m (drop r v) ≡ take m (drop (at + r) bits) =
    ap (λ k. take m (drop r (take k (drop at bits)))) (let q : valid ≡ r + (valid - r) = omega arith in q)
    ∙ ap (λ (xs : List Bool). take m xs) (drop-take r (valid - r) (drop at bits))
    ∙ take_front m (valid - r) (drop r (drop at bits)) (omega arith) (omega (arith, length-drop r (drop at bits), length-drop at bits, length-bits_in bytes, w.there))
    ∙ ap (λ (xs : List Bool). take m xs) (drop-drop r at bits) in
    let e : 64 - r - m ≡ (64 - valid) + (valid - r - m) = omega (arith, w.within) in
    ap (λ k. k / 2 ^ (64 - r - m) % 2 ^ m) w.front
    ∙ ap (λ k. n * 2 ^ (64 - valid) / 2 ^ k % 2 ^ m) e
    ∙ field_on_top n (64 - valid) (valid - r - m) m
    ∙ sym (ap (λ k. n / 2 ^ (k - r - m) % 2 ^ m) lv)
    ∙ sym (number_of-part v r m (omega arith))
    ∙ ap number_of here

-- the front bits of eight bytes
pub fresh_window : (bytes : List ℕ) (at word : ℕ) → at / 8 + 8 ≤ length bytes → word ≡ number_of (bits_in (take 8 (drop (at / 8) bytes))) → IsWindow bytes at (word * 2 ^ (at % 8) % 2 ^ 64) (64 - at % 8)
fresh_window bytes at word there e =
    let r = at % 8 in
    let f : word / 2 ^ (64 - r - (64 - r)) % 2 ^ (64 - r) ≡ number_of (take (64 - r) (drop at (bits_in bytes))) =
    ap (λ n. n / 2 ^ (64 - r - (64 - r)) % 2 ^ (64 - r)) e ∙ field_in bytes at 8 (64 - r) (omega arith) there in
    let z : 64 - r - (64 - r) ≡ 0 = omega arith in
    let g : word % 2 ^ (64 - r) ≡ number_of (take (64 - r) (drop at (bits_in bytes))) = ap (λ n. n % 2 ^ (64 - r)) (let q : word ≡ word / 2 ^ 0 = omega arith in q ∙ ap (λ k. word / 2 ^ k) (sym z)) ∙ f in
    let p : 64 ≡ (64 - r) + r = omega arith in
    let q : r ≡ 64 - (64 - r) = omega arith in
    record {
      within = omega arith;
      there = omega arith;
      front = ap (λ k. word * 2 ^ r % 2 ^ k) p ∙ shifted_mod word (64 - r) r ∙ ap (λ k. k * 2 ^ r) g ∙ ap (λ k. number_of (take (64 - r) (drop at (bits_in bytes))) * 2 ^ k) q;
    }

-- no front bits are a window
pub no_window : (bytes : List ℕ) (at : ℕ) → at ≤ 8 * length bytes → IsWindow bytes at 0 0
unfolding number_of
no_window bytes at h = record { within = omega arith; there = omega arith; front = refl }

-- a window further on
pub later_window : (bytes : List ℕ) (at word valid u : ℕ) → IsWindow bytes at word valid → u ≤ valid → IsWindow bytes (at + u) (word * 2 ^ u % 2 ^ 64) (valid - u)
later_window bytes at word valid u w h =
    let bits = bits_in bytes in
    let n = number_of (take valid (drop at bits)) in
    let m = valid - u in
    let part : word / 2 ^ (64 - u - m) % 2 ^ m ≡ number_of (take m (drop (at + u) bits)) = part_of_window bytes at word valid u m w (omega arith) in
    let s = 64 - valid in
    let low : word / 2 ^ (64 - u - m) ≡ n = ap (λ k. k / 2 ^ (64 - u - m)) w.front ∙ ap (λ k. n * 2 ^ s / 2 ^ k) (let q : 64 - u - m ≡ s = omega (arith, w.within) in q) ∙ shl-shr n s in
    let rest : n % 2 ^ m ≡ number_of (take m (drop (at + u) bits)) = ap (λ k. k % 2 ^ m) (sym low) ∙ part in
    let whole : word * 2 ^ u ≡ n * 2 ^ (s + u) = ap (λ k. k * 2 ^ u) w.front ∙ mul_assoc n (2 ^ s) (2 ^ u) ∙ ap (λ k. n * k) (sym (pow-add 2 s u)) in
    let p : 64 ≡ m + (s + u) = omega (arith, w.within) in
    record {
      within = omega (arith, w.within);
      there = omega (arith, w.there);
      front = ap (λ k. k % 2 ^ 64) whole ∙ ap (λ k. n * 2 ^ (s + u) % 2 ^ k) p ∙ shifted_mod n m (s + u) ∙ ap (λ k. k * 2 ^ (s + u)) rest ∙ ap (λ k. number_of (take m (drop (at + u) bits)) * 2 ^ k) (let q : s + u ≡ 64 - m = omega (arith, w.within) in q);
    }

-- the number in a window's front
pub front_number : (bytes : List ℕ) (at word valid n : ℕ) → IsWindow bytes at word valid → n ≤ valid → word / 2 ^ (64 - n) % 2 ^ n ≡ number_of (take n (drop at (bits_in bytes)))
front_number bytes at word valid n w h =
    ap (λ k. word / 2 ^ k % 2 ^ n) (let s : 64 - n ≡ 64 - 0 - n = omega arith in s)
    ∙ part_of_window bytes at word valid 0 n w (omega arith)
    ∙ ap (λ k. number_of (take n (drop k (bits_in bytes)))) (let s : at + 0 ≡ at = omega arith in s)

-- a window, and the bits behind it from another one
pub joined_window : (bytes : List ℕ) (at word valid next more : ℕ) → IsWindow bytes at word valid → IsWindow bytes (at + valid) next more → next < 2 ^ 64 → 64 ≤ valid + more → IsWindow bytes at (word + next / 2 ^ valid) 64
joined_window bytes at word valid next more w v fits h =
    let bits = bits_in bytes in
    let n = 64 - valid in
    let behind = take n (drop (at + valid) bits) in
    let e : 64 - n ≡ valid = omega (arith, w.within) in
    let small : next / 2 ^ valid < 2 ^ n = shr_below next n valid (subst (λ (k : ℕ). next < 2 ^ k) (let s : 64 ≡ n + valid = omega (arith, w.within) in s) fits) in
    let low : next / 2 ^ valid ≡ number_of behind =
    sym (mod-eq_of_lt small) ∙ ap (λ k. next / 2 ^ k % 2 ^ n) (sym e) ∙ front_number bytes (at + valid) next more n v (omega arith) in
    let l : length behind ≡ n = omega (arith, length-take n (drop (at + valid) bits), length-drop (at + valid) bits, length-bits_in bytes, v.there, h) in
    let cut : take 64 (drop at bits) ≡ take valid (drop at bits) ++ behind =
    ap (λ k. take k (drop at bits)) (let s : 64 ≡ valid + n = omega (arith, w.within) in s)
    ∙ take-add valid n (drop at bits)
    ∙ ap (λ (xs : List Bool). take valid (drop at bits) ++ take n xs) (drop-drop valid at bits) in
    let whole : number_of (take 64 (drop at bits)) ≡ number_of (take valid (drop at bits)) * 2 ^ n + number_of behind =
    ap number_of cut ∙ number_of-append (take valid (drop at bits)) behind
    ∙ ap (λ k. number_of (take valid (drop at bits)) * 2 ^ k + number_of behind) l in
    record {
      within = omega arith;
      there = omega (arith, v.there, h);
      front = omega (arith, w.front, low, whole);
    }

no_product : (a b c : ℕ) → 0 < b → a * b + c ≡ 0 → a ≡ 0
no_product zero b c h e = refl
no_product (suc a) b c h e = absurd (omega arith)

some_bit : (word : ℕ) → count_leading_zeros 64 word < 64 → 0 < word
some_bit zero h = absurd (omega (arith, leading_of_zero 64))
some_bit (suc n) h = omega arith

one_low : (word a j : ℕ) → j ≡ a → 2 ^ j ≤ word → 1 * 2 ^ a ≤ word
one_low word a j e h = omega (arith, h, ap (λ n. 2 ^ n) e)

one_high : (word a j : ℕ) → j ≡ a → word < 2 ^ suc j → word < (1 + 1) * 2 ^ a
one_high word a j e h = omega (arith, h, ap (λ n. 2 ^ n) e, pow-suc 2 j)

-- the top bits of a word that was moved up
top_field : (word q m : ℕ) → q + m ≤ 64 → (f : ℕ) → f + m ≡ 64 → word * 2 ^ q % 2 ^ 64 / 2 ^ f ≡ word / 2 ^ (64 - q - m) % 2 ^ m
top_field word q m h f e =
    let p : 64 ≡ m + f = omega arith in
    let s : f ≡ q + (64 - q - m) = omega arith in
    ap (λ n. word * 2 ^ q % 2 ^ n / 2 ^ f) p ∙ field_of (word * 2 ^ q) m f
    ∙ ap (λ n. word * 2 ^ q / 2 ^ n % 2 ^ m) s ∙ field_on_top word q (64 - q - m) m

-- as many bits 0, and the 1 behind them
zeros_run : (bits : List Bool) (q at : ℕ) → at + q ≤ length bits → number_of (take q (drop at bits)) ≡ 0 → zeros_before (drop at bits) ≡ with_zeros q (zeros_before (drop (at + q) bits))
zeros_run bits zero at h e = zeros_start (zeros_before (drop at bits)) ∙ ap (λ k. with_zeros 0 (zeros_before (drop k bits))) (let q : at ≡ at + zero = omega arith in q)
zeros_run bits (suc q) at h e =
    let xs = drop at bits in
    let cut : number_of (take (1 + q) xs) ≡ number_of (take 1 xs) * 2 ^ length (take q (drop 1 xs)) + number_of (take q (drop 1 xs)) =
    ap number_of (take-add 1 q xs) ∙ number_of-append (take 1 xs) (take q (drop 1 xs)) in
    let e2 : number_of (take (1 + q) xs) ≡ 0 = ap (λ k. number_of (take k xs)) (let s : 1 + q ≡ suc q = omega arith in s) ∙ e in
    let first : number_of (take 1 xs) ≡ 0 = no_product (number_of (take 1 xs)) (2 ^ length (take q (drop 1 xs))) (number_of (take q (drop 1 xs))) (pow_pos (length (take q (drop 1 xs)))) (sym cut ∙ e2) in
    let next : drop 1 xs ≡ drop (at + 1) bits = drop-drop 1 at bits in
    let rest : number_of (take q (drop (at + 1) bits)) ≡ 0 = ap (λ (ys : List Bool). number_of (take q ys)) (sym next) ∙ omega (arith, cut, e2) in
    let one : zeros_before xs ≡ with_zeros 1 (zeros_before (drop (at + 1) bits)) =
    zeros_start (zeros_before xs) ∙ zeros_past bits at 0 (omega arith) (omega arith) (omega arith) in
    one ∙ ap (λ (z : Option ℕ). with_zeros 1 z) (zeros_run bits q (at + 1) (omega arith) rest)
    ∙ with_zeros_twice 1 q (zeros_before (drop (at + 1 + q) bits))
    ∙ ap (λ k. with_zeros k (zeros_before (drop (at + 1 + q) bits))) (let s : 1 + q ≡ suc q = omega arith in s)
    ∙ ap (λ k. with_zeros (suc q) (zeros_before (drop k bits))) (let s : at + 1 + q ≡ at + suc q = omega arith in s)

-- the code of a value at a window's front
pub record IsCode (bytes : List ℕ) (at q k low : ℕ) : Type 0 where
  pub zeros : zeros_before (drop at (bits_in bytes)) ≡ Some q
  pub one : at + q < 8 * length bytes
  pub behind : low ≡ number_of (take k (drop (at + q + 1) (bits_in bytes)))

pub code_at_front : (bytes : List ℕ) (at word valid k : ℕ) → IsWindow bytes at word valid → word < 2 ^ 64 → count_leading_zeros 64 word + 1 + k ≤ valid
    → IsCode bytes at (count_leading_zeros 64 word) k (word * 2 ^ count_leading_zeros 64 word % 2 ^ 64 / 2 ^ (63 - k) - 2 ^ k)
code_at_front bytes at word valid k w fits h =
    let q = count_leading_zeros 64 word in
    let bits = bits_in bytes in
    let lb : length bits ≡ 8 * length bytes = length-bits_in bytes in
    let some : 0 < word = some_bit word (omega (arith, w.within)) in
    let top = leading_top 64 word some fits in
    let j = top.0 in
    let jq : j ≡ 63 - q = omega (arith, top.1) in
    -- the zeros
    let lz : word / 2 ^ (64 - 0 - q) ≡ 0 = div-eq_of_lt (let s : word < 2 ^ (64 - 0 - q) = subst (λ (n : ℕ). word < 2 ^ n) (let s : suc j ≡ 64 - 0 - q = omega (arith, top.1) in s) top.3 in s) in
    let z0 : number_of (take q (drop (at + 0) bits)) ≡ 0 = sym (part_of_window bytes at word valid 0 q w (omega arith)) ∙ ap (λ n. n % 2 ^ q) lz ∙ zero-mod (2 ^ q) in
    let z : number_of (take q (drop at bits)) ≡ 0 = ap (λ n. number_of (take q (drop n bits))) (let s : at ≡ at + 0 = omega arith in s) ∙ z0 in
    -- the 1
    let lo : word / 2 ^ (64 - q - 1) ≡ 1 = div-eq_of_lt-le (2 ^ (64 - q - 1)) (one_low word (64 - q - 1) j (omega (arith, top.1)) top.2) (one_high word (64 - q - 1) j (omega (arith, top.1)) top.3) in
    let o : number_of (take 1 (drop (at + q) bits)) ≡ 1 = sym (part_of_window bytes at word valid q 1 w (omega arith)) ∙ ap (λ n. n % 2 ^ 1) lo in
    -- the bits behind it, with the 1
    let e : 63 - k ≡ 64 - (k + 1) = omega (arith, w.within) in
    let field : word * 2 ^ q % 2 ^ 64 / 2 ^ (63 - k) ≡ number_of (take (1 + k) (drop (at + q) bits)) =
    top_field word q (1 + k) (omega (arith, w.within)) (63 - k) (omega (arith, w.within)) ∙ part_of_window bytes at word valid q (1 + k) w (omega arith) in
    let lk : length (take k (drop (at + q + 1) bits)) ≡ k = omega (arith, length-take k (drop (at + q + 1) bits), length-drop (at + q + 1) bits, w.there) in
    let cut : number_of (take (1 + k) (drop (at + q) bits)) ≡ 2 ^ k + number_of (take k (drop (at + q + 1) bits)) =
    ap number_of (take-add 1 k (drop (at + q) bits) ∙ ap (λ (ys : List Bool). take 1 (drop (at + q) bits) ++ take k ys) (drop-drop 1 (at + q) bits))
    ∙ number_of-append (take 1 (drop (at + q) bits)) (take k (drop (at + q + 1) bits))
    ∙ omega (arith, ap (λ n. n * 2 ^ length (take k (drop (at + q + 1) bits))) o, ap (λ n. 2 ^ n) lk) in
    record {
      zeros = zeros_run bits q at (omega (arith, w.there)) z ∙ zeros_here bits (at + q) q (omega (arith, w.there)) o;
      one = omega (arith, w.there);
      behind = omega (arith, field, cut);
    }

-- a word from its first 1 on, cut to that and `k` bits behind it
pub from_one : (word k : ℕ) → word < 2 ^ 64 → count_leading_zeros 64 word + 1 + k ≤ 64
    → (2 ^ k ≤ word * 2 ^ count_leading_zeros 64 word % 2 ^ 64 / 2 ^ (63 - k)) × (word * 2 ^ count_leading_zeros 64 word % 2 ^ 64 / 2 ^ (63 - k) < 2 ^ (k + 1))
from_one word k fits h =
    let q = count_leading_zeros 64 word in
    let top = leading_top 64 word (some_bit word (omega arith)) fits in
    let j = top.0 in
    let below : word * 2 ^ q < 2 ^ 64 = subst (λ (n : ℕ). word * 2 ^ q < 2 ^ n) (let s : suc j + q ≡ 64 = omega (arith, top.1) in s) (shl_below word (suc j) q top.3) in
    let least : 2 ^ j * 2 ^ q ≤ word * 2 ^ q = mul-le (2 ^ j) (2 ^ q) word (2 ^ q) top.2 (omega arith) in
    let size : 2 ^ j * 2 ^ q ≡ 2 ^ k * 2 ^ (63 - k) = sym (pow-add 2 j q) ∙ ap (λ n. 2 ^ n) (let s : j + q ≡ k + (63 - k) = omega (arith, top.1) in s) ∙ pow-add 2 k (63 - k) in
    let same : word * 2 ^ q % 2 ^ 64 ≡ word * 2 ^ q = mod-eq_of_lt below in
    let fit : word * 2 ^ q % 2 ^ 64 < 2 ^ (k + 1 + (63 - k)) = subst (λ (n : ℕ). word * 2 ^ q % 2 ^ 64 < 2 ^ n) (let s : 64 ≡ k + 1 + (63 - k) = omega arith in s) (omega arith) in (
      le-div (2 ^ k) (word * 2 ^ q % 2 ^ 64) (2 ^ (63 - k)) (pow_pos (63 - k)) (omega (arith, least, size, same)),
      shr_below (word * 2 ^ q % 2 ^ 64) (k + 1) (63 - k) fit,
    )

pub moved_twice : (word a b : ℕ) → word * 2 ^ a % 2 ^ 64 * 2 ^ b % 2 ^ 64 ≡ word * 2 ^ (a + b) % 2 ^ 64
moved_twice word a b = mul-mod_first (word * 2 ^ a) (2 ^ b) (2 ^ 64) ∙ ap (λ n. n % 2 ^ 64) (mul_assoc word (2 ^ a) (2 ^ b) ∙ ap (λ n. word * n) (sym (pow-add 2 a b)))

-- the shift of a small number
pub small_shift : (q k : ℕ) → q < 64 → k ≤ 30 → (q * 2 ^ k % 2 ^ 64 ≡ q * 2 ^ k) × (q * 2 ^ k < 2 ^ 36)
small_shift q k h l =
    let b : q * 2 ^ k < 2 ^ 36 =
    let p : 2 ^ k ≤ 2 ^ 30 = pow-le-pow_right {n = 2} (omega arith) l in
    omega (arith, mul-le q (2 ^ k) 63 (2 ^ 30) (omega arith) p) in
    (mod-eq_of_lt (omega (arith, b)), b)

pub number_in_window : (p : Place) (word valid n : ℕ) → IsWindow p.bytes p.at word valid → n ≤ valid → number_at n p ≡ Some (word / 2 ^ (64 - n) % 2 ^ n, forward n p)
number_in_window p word valid n w h =
    ap (λ t. cond {A = Option (ℕ × Place)} t None (Some (number_of (take n (ahead p)), forward n p))) (le-ltb (left p) n (omega (arith, w.there, h)))
    ∙ ap (λ (v : ℕ). Some (v, forward n p)) (sym (front_number p.bytes p.at word valid n w h))

-- the zeros before a 1 in a window
pub zeros_in_window : (p : Place) (word valid : ℕ) → IsWindow p.bytes p.at word valid → word < 2 ^ 64 → count_leading_zeros 64 word < valid
    → zeros_at p ≡ Some (count_leading_zeros 64 word, forward (count_leading_zeros 64 word + 1) p)
zeros_in_window p word valid w fits h =
    ap (λ (o : Option ℕ). behind_one p o) (code_at_front p.bytes p.at word valid 0 w fits (omega arith)).zeros
