-- A sample in another size: the first bits of 32, of which the last ones are cut.
use Rattle.std.proofs.Common.{ℕ, suc, zero, pos, negsuc, ◌≡◌, ◌≤◌, ◌<◌, ◌^◌, ◌*◌, ◌+◌, ◌-◌, ◌/◌, ◌%◌, ◌==◌, ◌+ℤ◌, ◌-ℤ◌, inl, inr, nat_lt, cond, true, false, List, [], ◌∷◌, length, drop, ap, sym, ◌∙◌, refl, arith, rules, subst, lit<}
use Rattle.std.proofs.lemmas.Int.{ints}
use Rattle.std.proofs.lemmas.Bool.{cases_lt, lt-ltb, le-ltb, or_left}
use Rattle.std.proofs.lemmas.Bool.Decides.{nat_tests}
use Rattle.std.proofs.lemmas.List.Elements.{All-cons, All-drop, All-nil}
use Rattle.std.proofs.Math.Nat.{mod-eq_of_lt}
use Rattle.codec_definitions.specs.Pcm.{signed, unsigned, converted, bytes_of, spelled, little_endian, sample_of, format_size}
use Rattle.wc_base.specs.declared.media.SampleFormat.{SampleFormat}
use Rattle.sample_conversion.specs.declared.size.SampleSize.{SampleSize}
use Rattle.sample_conversion.specs.Sizes.{AreBytes, SixteenBitsComeBack, size_of, padded_of, is_format_size}
use Rattle.sample_conversion.specs.Layouts.{is_sample_size, last_bytes, resized_sample}
use Rattle.sample_conversion.proofs.Samples.{IsSame, bound_of, bytes_of_little}

abbrev bits : SampleSize → ℕ
bits s = 8 * size_of s

-- a number of a size in another one
abbrev brought : SampleSize → SampleSize → ℕ → ℕ
brought s t n = n * 2 ^ (32 - bits s) / 2 ^ (32 - bits t)

by_sign : (from to n m : ℕ) → (n < 2 ^ (from - 1) → (converted from to (pos n) ≡ pos m) × (m < 2 ^ (to - 1)))
    → (2 ^ (from - 1) ≤ n → (converted from to (negsuc (2 ^ from - 1 - n)) ≡ negsuc (2 ^ to - 1 - m)) × (2 ^ (to - 1) ≤ m)) → converted from to (signed from n) ≡ signed to m
by_sign from to n m below above = elim (cases_lt n (2 ^ (from - 1))) [
  | inl low ↦ rw (lt-ltb n (2 ^ (from - 1)) low, lt-ltb m (2 ^ (to - 1)) (below low).1) (below low).0
  | inr high ↦ rw (le-ltb n (2 ^ (from - 1)) high, le-ltb m (2 ^ (to - 1)) (above high).1) (above high).0
]

converted_as : (s t : SampleSize) (n : ℕ) → n < 2 ^ bits s → converted (bits s) (bits t) (signed (bits s) n) ≡ signed (bits t) (brought s t n)
converted_as SampleSize.One SampleSize.One n small = by_sign 8 8 n _ (λ low. (omega (arith, ints), omega arith)) (λ high. (omega (arith, ints), omega arith))
converted_as s SampleSize.One n small = by_sign (bits s) 8 n _ (λ low. (omega (arith, ints), omega arith)) (λ high. (omega (arith, ints), omega arith))
converted_as s t n small = by_sign (bits s) (bits t) n _ (λ low. (omega (arith, ints), omega arith)) (λ high. (omega (arith, ints), omega arith))

unsigned_signed : (b m : ℕ) → m < 2 ^ b → unsigned b (signed b m) ≡ m
unsigned_signed b m small = elim (nat_lt m (2 ^ (b - 1))) as (λ v. unsigned b (cond v (pos m) (negsuc (2 ^ b - 1 - m))) ≡ m) [
  | true ↦ mod-eq_of_lt small
  | false ↦ (let less : 2 ^ b - 1 - m < 2 ^ b = omega (arith, small) in rw (mod-eq_of_lt less) (omega (arith, small)))
]

-- a byte with its middle at 128 is one in two's complement with its first bit turned
from_middle : (a : ℕ) → a < 256 → pos a -ℤ pos 128 ≡ signed 8 ((a + 128) % 256)
from_middle a small = elim (cases_lt ((a + 128) % 256) 128) [
  | inl low ↦ rw (lt-ltb ((a + 128) % 256) 128 low) (omega (arith, ints, low))
  | inr high ↦ rw (le-ltb ((a + 128) % 256) 128 high) (omega (arith, ints, high))
]

to_middle : (m : ℕ) → m < 256 → unsigned 8 (signed 8 m +ℤ pos 128) ≡ (m + 128) % 256
to_middle m small = elim (cases_lt m 128) [
  | inl low ↦ rw (lt-ltb m 128 low) (omega arith)
  | inr high ↦ (let v : signed 8 m +ℤ pos 128 ≡ pos (m - 128) = rw (le-ltb m 128 high) (omega (arith, ints, high)) in rw v (omega arith))
]

spelled_as : (t : SampleSize) (a b c e : ℕ) → a < 256 → b < 256 → c < 256 → e < 256 → spelled (size_of t) (signed (bits t) (little_endian (a ∷ b ∷ c ∷ e ∷ []) / 2 ^ (32 - bits t))) ≡ last_bytes (size_of t) (a ∷ b ∷ c ∷ e ∷ [])
spelled_as SampleSize.One a b c e ha hb hc he =
    let last : little_endian (a ∷ b ∷ c ∷ e ∷ []) / 2 ^ 24 ≡ e = omega arith in
    rw (last, to_middle e he) (ap (λ (x : ℕ). x ∷ []) (omega arith))
spelled_as t a b c e ha hb hc he =
    let wide : List ℕ = a ∷ b ∷ c ∷ e ∷ [] in
    let small : AreBytes wide = search (rules, All-cons (λ (x : ℕ). x < 256), All-nil (λ (x : ℕ). x < 256)) in
    ap (bytes_of (size_of t)) (unsigned_signed (bits t) (little_endian wide / 2 ^ (32 - bits t)) (omega arith) ∙ omega arith) ∙ bytes_of_little (drop (4 - size_of t) wide) (All-drop (λ (x : ℕ). x < 256) (4 - size_of t) wide small)

resized_as : (s t : SampleSize) (n a b c e : ℕ) → n < 2 ^ bits s → n * 2 ^ (32 - bits s) ≡ little_endian (a ∷ b ∷ c ∷ e ∷ []) → a < 256 → b < 256 → c < 256 → e < 256 → spelled (size_of t) (converted (bits s) (bits t) (signed (bits s) n)) ≡ last_bytes (size_of t) (a ∷ b ∷ c ∷ e ∷ [])
resized_as s t n a b c e small same ha hb hc he = rw (converted_as s t n small, same) (spelled_as t a b c e ha hb hc he)

-- the number that stands for a sample
numbered : (s : SampleSize) (xs : List ℕ) → AreBytes xs → length xs ≤ size_of s → (n : ℕ) × (n < 2 ^ bits s) × (sample_of (size_of s) xs ≡ signed (bits s) n)
numbered SampleSize.One xs a short = ((little_endian xs + 128) % 256, omega arith, from_middle (little_endian xs) (omega (arith, bound_of xs 1 a short)))
numbered s xs a short = (little_endian xs, omega (arith, bound_of xs (size_of s) a short), refl)

sized : (n : ℕ) → is_sample_size n ≡ true → (t : SampleSize) × (n ≡ size_of t)
sized (suc zero) h = (SampleSize.One, refl)
sized (suc (suc zero)) h = (SampleSize.Two, refl)
sized (suc (suc (suc zero))) h = (SampleSize.Three, refl)
sized (suc (suc (suc (suc zero)))) h = (SampleSize.Four, refl)
sized n h = absurd (grind (arith, nat_tests, h))

resized_to : (xs : List ℕ) (t : SampleSize) → AreBytes xs → is_format_size (length xs) ≡ true → last_bytes (size_of t) (padded_of xs) ≡ resized_sample (length xs) (size_of t) xs
resized_to (a ∷ []) t f h =
    let ha : a < 256 = f 0 0 (lit< tt) in
    rw (from_middle (little_endian (a ∷ [])) (omega arith)) (sym (resized_as SampleSize.One t ((little_endian (a ∷ []) + 128) % 256) 0 0 0 ((a + 128) % 256) (omega arith) (omega arith) (omega arith) (omega arith) (omega arith) (omega arith)))
resized_to (a ∷ b ∷ []) t f h =
    let ha : a < 256 = f 0 0 (lit< tt) in
    let hb : b < 256 = f 1 0 (lit< tt) in
    sym (resized_as SampleSize.Two t (little_endian (a ∷ b ∷ [])) 0 0 a b (omega arith) (omega arith) (omega arith) (omega arith) ha hb)
resized_to (a ∷ b ∷ c ∷ e ∷ []) t f h =
    let hc : c < 256 = f 2 0 (lit< tt) in
    let he : e < 256 = f 3 0 (lit< tt) in
    sym (resized_as SampleSize.Four t (little_endian (a ∷ b ∷ c ∷ e ∷ [])) a b c e (omega (arith, f 0 0 (lit< tt), f 1 0 (lit< tt))) (omega arith) (f 0 0 (lit< tt)) (f 1 0 (lit< tt)) hc he)
resized_to xs t f h = absurd (grind (arith, nat_tests, h))

pub converted_one : (xs : List ℕ) (d : ℕ) → AreBytes xs → is_format_size (length xs) ≡ true → is_sample_size d ≡ true → last_bytes d (padded_of xs) ≡ resized_sample (length xs) d xs
converted_one xs d f h to = let t = sized d to in rw t.1 (resized_to xs t.0 f h)

-- the bytes of a number that bytes spell
own : (size : ℕ) (xs : List ℕ) → length xs ≡ size → AreBytes xs → bytes_of size (little_endian xs) ≡ xs
own size xs long f = subst (λ (k : ℕ). bytes_of k (little_endian xs) ≡ xs) long (bytes_of_little xs f)

pub same : (t : SampleSize) → IsSame (size_of t)
same SampleSize.One xs long f =
    let n = little_endian xs in
    let small : n < 256 = omega (arith, bound_of xs 1 f (omega (arith, long))) in
    rw (from_middle n small, converted_as SampleSize.One SampleSize.One ((n + 128) % 256) (omega arith), to_middle (brought SampleSize.One SampleSize.One ((n + 128) % 256)) (omega arith)) (ap (bytes_of 1) (omega arith) ∙ own 1 xs long f)
same t xs long f =
    let n = little_endian xs in
    let bound = bound_of xs (size_of t) f (omega (arith, long)) in
    rw (converted_as t t n (omega (arith, bound))) (ap (bytes_of (size_of t)) (unsigned_signed (bits t) (brought t t n) (omega (arith, bound)) ∙ omega arith) ∙ own (size_of t) xs long f)

pub same_size : (s : ℕ) → is_format_size s ≡ true → IsSame s
same_size s h = let t = sized s (or_left (is_format_size s) (s == 3) h) in subst IsSame (sym t.1) (same t.0)

-- 24 bits in 32
pub widened_sample : (xs : List ℕ) → length xs ≡ 3 → AreBytes xs → spelled 4 (converted 24 32 (sample_of 3 xs)) ≡ 0 ∷ xs
widened_sample xs three f =
    let n = little_endian xs in
    let bound = bound_of xs 3 f (omega (arith, three)) in
    let low : n * 2 ^ 8 / 2 ^ 0 % 256 ≡ 0 = omega arith in
    let high : n * 2 ^ 8 / 2 ^ 0 / 256 ≡ n = omega arith in
    rw (converted_as SampleSize.Three SampleSize.Four n (omega (arith, bound)), unsigned_signed 32 (n * 2 ^ 8 / 2 ^ 0) (omega (arith, bound)), low, high, own 3 xs three f) refl

-- a value of 16 bits is what its two bytes spell
again_as : (m : ℕ) → m < 2 ^ 16 → sample_of 2 (spelled 2 (signed 16 m)) ≡ signed 16 m
again_as m small = let bytes : little_endian (bytes_of 2 m) ≡ m = omega arith in rw (unsigned_signed 16 m small, bytes) refl

again : (s : SampleSize) (n : ℕ) → n < 2 ^ bits s → sample_of 2 (spelled 2 (converted (bits s) 16 (signed (bits s) n))) ≡ converted (bits s) 16 (signed (bits s) n)
again SampleSize.One n small = rw (converted_as SampleSize.One SampleSize.Two n small) (again_as (brought SampleSize.One SampleSize.Two n) (omega arith))
again s n small = rw (converted_as s SampleSize.Two n small) (again_as (brought s SampleSize.Two n) (omega arith))

pub format_sized : (f : SampleFormat) → is_format_size (format_size f) ≡ true
format_sized SampleFormat.U8 = refl
format_sized f = refl

come_back_as : (s : SampleSize) (size : ℕ) (xs : List ℕ) → size ≡ size_of s → AreBytes xs → length xs ≤ size → sample_of 2 (spelled 2 (converted (8 * size) 16 (sample_of size xs))) ≡ converted (8 * size) 16 (sample_of size xs)
come_back_as s size xs e f short =
    let n = numbered s xs f (omega (arith, short, e)) in
    rw (e, n.2) (again s n.0 n.1)

pub come_back : SixteenBitsComeBack
come_back format xs f short = let s = sized (format_size format) (or_left _ _ (format_sized format)) in come_back_as s.0 (format_size format) xs s.1 f short
