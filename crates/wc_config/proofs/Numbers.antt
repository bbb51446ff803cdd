-- Numbers that bytes spell.
use Rattle.std.proofs.Common.{ℕ, take, drop, ap, ◌∙◌, ◌≡◌, ◌≤◌, ◌<◌, ◌^◌, ◌*◌, ◌+◌, ◌/◌, ◌%◌, List, [], ◌∷◌, ◌++◌, length, lit<, arith, add-one, zero-add, add_assoc, refl}
use Rattle.std.proofs.Math.Nat.{pow-le-pow_right, pow-suc, add-mul, mul_comm, mul_assoc}
use Rattle.std.proofs.Math.Seq.{take-add, take-length}
use Rattle.std.proofs.lemmas.List.{drop-drop}
use Rattle.std.proofs.lemmas.Grind.{common_steps}
use Rattle.wc_config.specs.Streams.{big_endian, big_endian_after, bits_of, stream_info_of}

-- a number of fewer than eight bytes leaves room for one more
pub room_for_byte : (n i : ℕ) → n < 256 ^ i → i < 8 → n * 256 + 255 < 2 ^ 64
room_for_byte n i bound small =
    let few : i ≤ 7 = omega (arith, small) in
    let p : 256 ^ i ≤ 256 ^ 7 = pow-le-pow_right (lit< tt) few in
    omega (arith, p, bound)

-- a number of one byte more
pub next_bound : (n b i : ℕ) → n < 256 ^ i → b < 256 → n * 256 + b < 256 ^ (i + 1)
next_bound n b i bound small = rw (add-one i, pow-suc) (omega (arith, bound, small))

pub times_byte : (n b p : ℕ) → (256 * n + b) * p ≡ n * (p * 256) + b * p
times_byte n b p = rw (add-mul (256 * n) b p, mul_comm 256 n, mul_assoc n 256 p, mul_comm p 256) refl

-- a number and the bytes after it
pub big_endian_after_sum : (n : ℕ) (xs : List ℕ) → big_endian_after n xs ≡ n * 256 ^ length xs + big_endian_after 0 xs
big_endian_after_sum n [] = grind arith
big_endian_after_sum n (b ∷ bs) =
    let left : big_endian_after (256 * n + b) bs ≡ (256 * n + b) * 256 ^ length bs + big_endian_after 0 bs = big_endian_after_sum (256 * n + b) bs in
    let right : big_endian_after (0 + b) bs ≡ (0 + b) * 256 ^ length bs + big_endian_after 0 bs = big_endian_after_sum (0 + b) bs in
    let step = times_byte n b (256 ^ length bs) in
    rw (left, right, pow-suc 256 (length bs), step, zero-add) (add_assoc (n * (256 ^ length bs * 256)) (b * 256 ^ length bs) (big_endian_after 0 bs))

pub big_endian_append : (n : ℕ) (xs ys : List ℕ) → big_endian_after n (xs ++ ys) ≡ big_endian_after (big_endian_after n xs) ys
big_endian_append n [] ys = refl
big_endian_append n (b ∷ bs) ys = big_endian_append (256 * n + b) bs ys

-- the fields of 144 bits in 32, 48 and 64
pub first_fields : (n a b c : ℕ) → b < 2 ^ 48 → c < 2 ^ 64 → n ≡ a * 2 ^ 112 + b * 2 ^ 64 + c → a < 2 ^ 32 → (bits_of 144 0 16 n ≡ a / 65536) × (bits_of 144 16 16 n ≡ a % 65536)
first_fields n a b c x y e z = (omega (arith, x, y, e, z), omega (arith, x, y, e, z))

pub frame_fields : (n a b c : ℕ) → b < 2 ^ 48 → c < 2 ^ 64 → n ≡ a * 2 ^ 112 + b * 2 ^ 64 + c → (bits_of 144 32 24 n ≡ b / 16777216) × (bits_of 144 56 24 n ≡ b % 16777216)
frame_fields n a b c x y e = (omega (arith, x, y, e), omega (arith, x, y, e))

pub last_fields : (n a b c : ℕ) → b < 2 ^ 48 → c < 2 ^ 64 → n ≡ a * 2 ^ 112 + b * 2 ^ 64 + c → (bits_of 144 80 20 n ≡ c / 17592186044416) × (bits_of 144 100 3 n ≡ c / 2199023255552 % 8) × (bits_of 144 103 5 n ≡ c / 68719476736 % 32) × (bits_of 144 108 36 n ≡ c % 68719476736)
last_fields n a b c x y e = (omega (arith, x, y, e), omega (arith, x, y, e), omega (arith, x, y, e), omega (arith, x, y, e))

-- eighteen bytes in three parts
pub three_parts : (x y z : List ℕ) → length y ≡ 6 → length z ≡ 8 → big_endian (x ++ (y ++ z)) ≡ big_endian x * 2 ^ 112 + big_endian y * 2 ^ 64 + big_endian z
three_parts x y z ly lz =
    let first = big_endian_after 0 x in
    let both = big_endian_after first y in
    let whole : big_endian_after 0 (x ++ (y ++ z)) ≡ big_endian_after both z = big_endian_append 0 x (y ++ z) ∙ big_endian_append first y z in
    let left : both ≡ first * 256 ^ 6 + big_endian_after 0 y = rw ly at (big_endian_after_sum first y) in
    let right : big_endian_after both z ≡ both * 256 ^ 8 + big_endian_after 0 z = rw lz at (big_endian_after_sum both z) in
    omega (arith, whole, left, right)

pub split_block : (block : List ℕ) → take 18 block ≡ take 4 block ++ (take 6 (drop 4 block) ++ take 8 (drop 10 block))
split_block block =
    let rest : drop 6 (drop 4 block) ≡ drop 10 block = drop-drop 6 4 block in
    take-add 4 14 block ∙ ap (λ (l : List ℕ). take 4 block ++ l) (take-add 6 8 (drop 4 block) ∙ ap (λ (l : List ℕ). take 6 (drop 4 block) ++ take 8 l) rest)

pub block_number : (block : List ℕ) → length block ≡ 34 → big_endian (take 18 block) ≡ big_endian (take 4 block) * 2 ^ 112 + big_endian (take 6 (drop 4 block)) * 2 ^ 64 + big_endian (take 8 (drop 10 block))
block_number block long = ap big_endian (split_block block) ∙ three_parts (take 4 block) (take 6 (drop 4 block)) (take 8 (drop 10 block)) (grind (arith, common_steps, long)) (grind (arith, common_steps, long))

pub stream_fields : (block : List ℕ) (a b c : ℕ) (md5 : List ℕ) → length block ≡ 34 → md5 ≡ take 16 (drop 18 block) → a ≡ big_endian (take 4 block) → b ≡ big_endian (take 6 (drop 4 block)) → c ≡ big_endian (take 8 (drop 10 block)) → a < 2 ^ 32 → b < 2 ^ 48 → c < 2 ^ 64 →
    record { min_block = a / 65536; max_block = a % 65536; min_frame = b / 16777216; max_frame = b % 16777216; rate = c / 17592186044416; channels = c / 2199023255552 % 8 + 1; depth = c / 68719476736 % 32 + 1; total = c % 68719476736; md5 = md5 } ≡ stream_info_of block
stream_fields block a b c md5 long sums first second third x y z =
    let md5_whole : md5 ≡ drop 18 block = sums ∙ let tail : length (drop 18 block) ≡ 16 = grind (arith, common_steps, long) in (rw tail at (take-length (drop 18 block))) in
    let n = big_endian (take 18 block) in
    let sum : n ≡ a * 2 ^ 112 + b * 2 ^ 64 + c = rw (first, second, third) (block_number block long) in
    let blocks = first_fields n a b c y z sum x in
    let frames = frame_fields n a b c y z sum in
    let last = last_fields n a b c y z sum in
    rw (blocks.0, blocks.1, frames.0, frames.1, last.0, last.1, last.2, last.3, md5_whole) refl
