-- Numbers written into bytes.
use Rattle.std.proofs.Common.{ℕ, zero, suc, ◌≡◌, ◌<◌, ◌≤◌, ◌+◌, ◌-◌, ◌*◌, ◌/◌, ◌%◌, ◌^◌, Bool, true, List, [], ◌∷◌, ◌++◌, length, take, drop, refl, sym, ap, ◌∙◌, arith, append_assoc, zero-add}
use Rattle.std.proofs.Math.Nat.{pow-suc}
use Rattle.std.proofs.lemmas.Nat.{pow-add}
use Rattle.std.proofs.lemmas.List.{take_all}
use Rattle.std.specs.Int.{w64, to_be_bytes, bytes_high_first, byte_at}
use Rattle.flac_definitions.specs.Bits.{bits_of, bits_in}
use Rattle.flac_definitions.specs.BitLaws.{bits_in-append}
use Rattle.flac_write.specs.WriterLaws.{bits_cat, bits_split, bits_mod, bits_none}
use Rattle.wc_config.specs.declared.stream_info.StreamInfo.{StreamInfo}
use Rattle.flac_definitions.specs.Descriptions.{head_bits, description_bits}

byte_power : (k : ℕ) → 256 ^ k ≡ 2 ^ (8 * k)
byte_power zero = refl
byte_power (suc k) = pow-suc 256 k ∙ omega (arith, byte_power k, ap (λ (n : ℕ). 2 ^ n) (let e : 8 * suc k ≡ 8 + 8 * k = omega arith in e), pow-add 2 8 (8 * k))

byte_there : (k n : ℕ) → byte_at k n ≡ n / 2 ^ (8 * k) % 2 ^ 8
byte_there zero n = omega arith
byte_there (suc k) n = ap (λ (m : ℕ). n / m % 256) (byte_power (suc k))

bits_in_byte : (b : ℕ) (bytes : List ℕ) → bits_in (b ∷ bytes) ≡ bits_of 8 b ++ bits_in bytes
unfolding bits_in
bits_in_byte b bytes = refl

bits_in_none : bits_in [] ≡ []
unfolding bits_in
bits_in_none = refl

high_bytes : (k n : ℕ) → bits_in (bytes_high_first k n) ≡ bits_of (8 * k) n
high_bytes zero n = bits_in_none ∙ sym (bits_none n)
high_bytes (suc k) n =
    let x = n / 2 ^ (8 * k) in
    let head : bits_of 8 (byte_at k n) ≡ bits_of 8 x = ap (bits_of 8) (byte_there k n) ∙ bits_mod 8 x in
    let split : bits_of (8 + 8 * k) n ≡ bits_of 8 x ++ bits_of (8 * k) n = bits_split 8 (8 * k) n ∙ ap (λ (l : List Bool). bits_of 8 x ++ l) (bits_mod (8 * k) n) in
    bits_in_byte (byte_at k n) (bytes_high_first k n)
    ∙ (ap (λ (l : List Bool). l ++ bits_in (bytes_high_first k n)) head ∙ (ap (λ (l : List Bool). bits_of 8 x ++ l) (high_bytes k n) ∙ (sym split ∙ ap (λ (m : ℕ). bits_of m n) (omega arith))))

low_ones : (m k n : ℕ) → drop m (bytes_high_first (m + k) n) ≡ bytes_high_first k n
low_ones zero k n = ap (λ (j : ℕ). bytes_high_first j n) (zero-add k)
low_ones (suc m) k n = ap (λ (j : ℕ). drop (suc m) (bytes_high_first j n)) (let e : suc m + k ≡ suc (m + k) = omega arith in e) ∙ low_ones m k n

-- the low bytes of a number
pub low_bytes : (size n : ℕ) → size ≤ 8 → bits_in (drop (8 - size) (to_be_bytes w64 n)) ≡ bits_of (8 * size) n
low_bytes size n h =
    let all : 8 ≡ (8 - size) + size = omega arith in
    ap (λ (j : ℕ). bits_in (drop (8 - size) (bytes_high_first j n))) all ∙ (ap bits_in (low_ones (8 - size) size n) ∙ high_bytes size n)

-- bytes behind what stood there, as bits
pub behind_bits : (after before bytes : List ℕ) (bits : List Bool) → after ≡ before ++ bytes → bits_in bytes ≡ bits → bits_in after ≡ bits_in before ++ bits
behind_bits after before bytes bits e f = ap bits_in e ∙ (bits_in-append before bytes ∙ ap (λ (l : List Bool). bits_in before ++ l) f)

pub mark_bits : bits_in (102 ∷ 76 ∷ 97 ∷ 67 ∷ 128 ∷ 0 ∷ 0 ∷ 34 ∷ []) ≡ head_bits true
unfolding bits_of bits_in
mark_bits = refl

-- two fields in one number
pub two_fields : (a b x y : ℕ) → y < 2 ^ b → bits_of (a + b) (x * 2 ^ b + y) ≡ bits_of a x ++ bits_of b y
two_fields a b x y small = bits_cat a b x y small

-- rate, channels, depth and total
pub sound_fields : (rate channels depth total : ℕ) → channels < 8 → depth < 32 → total < 2 ^ 36 → bits_of 64 (((rate * 8 + channels) * 32 + depth) * 68719476736 + total) ≡ bits_of 20 rate ++ bits_of 3 channels ++ bits_of 5 depth ++ bits_of 36 total
sound_fields rate channels depth total c d t =
    bits_cat 28 36 ((rate * 8 + channels) * 32 + depth) total t
    ∙ ap (λ (l : List Bool). l ++ bits_of 36 total)
    (bits_cat 23 5 (rate * 8 + channels) depth d ∙ ap (λ (l : List Bool). l ++ bits_of 5 depth) (bits_cat 20 3 rate channels c))

-- the parts that are written are a description
pub written : (info : StreamInfo) (a b c d f : List ℕ) (blocks frames sound : ℕ) → length f ≡ 42 →
    take 8 a ≡ [] ++ (102 ∷ 76 ∷ 97 ∷ 67 ∷ 128 ∷ 0 ∷ 0 ∷ 34 ∷ []) →
    bits_in (take 12 b) ≡ bits_in (take 8 a) ++ bits_of 32 blocks →
    bits_in (take 18 c) ≡ bits_in (take 12 b) ++ bits_of 48 frames →
    bits_in (take 26 d) ≡ bits_in (take 18 c) ++ bits_of 64 sound →
    take 42 f ≡ take 26 d ++ info.md5 →
    bits_of 32 blocks ≡ bits_of 16 info.min_block ++ bits_of 16 info.max_block →
    bits_of 48 frames ≡ bits_of 24 info.min_frame ++ bits_of 24 info.max_frame →
    bits_of 64 sound ≡ bits_of 20 info.rate ++ bits_of 3 (info.channels - 1) ++ bits_of 5 (info.depth - 1) ++ bits_of 36 info.total →
    bits_in f ≡ description_bits true info
written info a b c d f blocks frames sound long ha hb hc hd hf pb pf ps =
    let whole : f ≡ take 26 d ++ info.md5 = sym (take_all 42 f (omega arith)) ∙ hf in
    let head : bits_in (take 8 a) ≡ head_bits true = ap bits_in ha ∙ mark_bits in
    let spelled : bits_in f ≡ (((bits_in (take 8 a) ++ bits_of 32 blocks) ++ bits_of 48 frames) ++ bits_of 64 sound) ++ bits_in info.md5 =
    ap bits_in whole ∙ (bits_in-append (take 26 d) info.md5 ∙ ap (λ (l : List Bool). l ++ bits_in info.md5)
    (hd ∙ ap (λ (l : List Bool). l ++ bits_of 64 sound) (hc ∙ ap (λ (l : List Bool). l ++ bits_of 48 frames) hb))) in
    spelled ∙ (rw (head, pb, pf, ps) (simp append_assoc refl))
