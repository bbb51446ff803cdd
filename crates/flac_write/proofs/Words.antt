-- Words behind the bits that were written.
use Rattle.std.proofs.Common.{ℕ, zero, suc, ◌≡◌, ◌<◌, ◌≤◌, ◌+◌, ◌-◌, ◌*◌, ◌/◌, ◌%◌, ◌^◌, List, [], ◌∷◌, ◌++◌, length, refl, ap, sym, subst, ◌∙◌, append_assoc, append-nil, arith, length-append, Bool, take}
use Rattle.std.proofs.Math.Nat.{pow-suc}
use Rattle.std.proofs.lemmas.Nat.{shl_whole, pow_pos, pow-add, shr_below}
use Rattle.std.specs.Int.{w64, to_be_bytes, bytes_high_first, byte_at}
use Rattle.flac_definitions.specs.Bits.{bits_of, bits_in, bits_to_byte}
use Rattle.flac_definitions.specs.BitLaws.{bits_in-append, length-bits_in, length-bits_of}
use Rattle.flac_definitions.specs.SumLaws.{front_bytes}
use Rattle.flac_write.specs.Writer.{written}
use Rattle.flac_write.specs.WriterLaws.{bits_cat, bits_split, bits_mod, bits_none}

byte_power : (k : ℕ) → 256 ^ k ≡ 2 ^ (8 * k)
byte_power zero = refl
byte_power (suc k) = pow-suc 256 k ∙ omega (arith, byte_power k, ap (λ (n : ℕ). 2 ^ n) (let e : 8 * suc k ≡ 8 + 8 * k = omega arith in e), pow-add 2 8 (8 * k))

byte_there : (k n : ℕ) → byte_at k n ≡ n / 2 ^ (8 * k) % 2 ^ 8
byte_there zero n = omega arith
byte_there (suc k) n = ap (λ (m : ℕ). n / m % 256) (byte_power (suc k))

bits_in_byte : (b : ℕ) (bytes : List ℕ) → bits_in (b ∷ bytes) ≡ bits_of 8 b ++ bits_in bytes
unfolding bits_in
bits_in_byte b bytes = refl

bits_in_none : bits_in [] ≡ []
unfolding bits_in
bits_in_none = refl

high_bytes : (k n : ℕ) → bits_in (bytes_high_first k n) ≡ bits_of (8 * k) n
high_bytes zero n = bits_in_none ∙ sym (bits_none n)
high_bytes (suc k) n =
    let x = n / 2 ^ (8 * k) in
    let head : bits_of 8 (byte_at k n) ≡ bits_of 8 x = ap (bits_of 8) (byte_there k n) ∙ bits_mod 8 x in
    let split : bits_of (8 + 8 * k) n ≡ bits_of 8 x ++ bits_of (8 * k) n = bits_split 8 (8 * k) n ∙ ap (λ (l : List Bool). bits_of 8 x ++ l) (bits_mod (8 * k) n) in
    bits_in_byte (byte_at k n) (bytes_high_first k n)
    ∙ (ap (λ (l : List Bool). l ++ bits_in (bytes_high_first k n)) head ∙ (ap (λ (l : List Bool). bits_of 8 x ++ l) (high_bytes k n) ∙ (sym split ∙ ap (λ (m : ℕ). bits_of m n) (omega arith))))

pub word_bits : (n : ℕ) → bits_in (to_be_bytes w64 n) ≡ bits_of 64 n
word_bits n = high_bytes 8 n

-- bits that fit behind those that are pending
pub put_fits : (bytes : List ℕ) (used last n v : ℕ) → v < 2 ^ n → written bytes (used + n) (last * 2 ^ n + v) ≡ written bytes used last ++ bits_of n v
put_fits bytes used last n v small =
    ap (λ (l : List Bool). bits_in bytes ++ l) (bits_cat used n last v small) ∙ sym (append_assoc (bits_in bytes) (bits_of used last) (bits_of n v))

regroup : (a b c d : List Bool) → (a ++ (b ++ c)) ++ d ≡ (a ++ b) ++ (c ++ d)
regroup a b c d = simp append_assoc

-- bits of which some fill a word
pub put_fills : (bytes : List ℕ) (used last n v free rest : ℕ) → used + free ≡ 64 → free + rest ≡ n → v < 2 ^ n → written (bytes ++ to_be_bytes w64 (last * 2 ^ free + v / 2 ^ rest)) rest (v % 2 ^ rest) ≡ written bytes used last ++ bits_of n v
put_fills bytes used last n v free rest whole split small =
    let before = bits_in bytes in
    let word = last * 2 ^ free + v / 2 ^ rest in
    let top : v / 2 ^ rest < 2 ^ free = shr_below v free rest (subst (λ (m : ℕ). v < 2 ^ m) (sym split) small) in
    let filled : bits_of 64 word ≡ bits_of used last ++ bits_of free (v / 2 ^ rest) = ap (λ (m : ℕ). bits_of m word) (sym whole) ∙ bits_cat used free last (v / 2 ^ rest) top in
    let parts : bits_of n v ≡ bits_of free (v / 2 ^ rest) ++ bits_of rest (v % 2 ^ rest) = ap (λ (m : ℕ). bits_of m v) (sym split) ∙ bits_split free rest v in
    let more : bits_in (bytes ++ to_be_bytes w64 word) ≡ before ++ bits_of 64 word = bits_in-append bytes (to_be_bytes w64 word) ∙ ap (λ (l : List Bool). before ++ l) (word_bits word) in
    ap (λ (l : List Bool). l ++ bits_of rest (v % 2 ^ rest)) (more ∙ ap (λ (l : List Bool). before ++ l) filled)
    ∙ (regroup before (bits_of used last) (bits_of free (v / 2 ^ rest)) (bits_of rest (v % 2 ^ rest)) ∙ ap (λ (l : List Bool). (before ++ bits_of used last) ++ l) (sym parts))

pub length_written : (bytes : List ℕ) (used last : ℕ) → length (written bytes used last) ≡ 8 * length bytes + used
length_written bytes used last = length-append (bits_in bytes) (bits_of used last) ∙ omega (arith, length-bits_in bytes, length-bits_of used last)

pub to_byte : (view : List Bool) (bytes : List ℕ) (used last : ℕ) → written bytes used last ≡ view → bits_to_byte (length view) ≡ bits_to_byte used
to_byte view bytes used last e = ap (λ (n : ℕ). (8 - n) % 8) (ap (λ (n : ℕ). n % 8) (ap (λ (l : List Bool). length l) (sym e) ∙ length_written bytes used last) ∙ omega arith)

-- the first bytes of a word that begins with so many bits
pub front_word : (last used : ℕ) → 0 < used → used ≤ 63 → last < 2 ^ used → used % 8 ≡ 0 → bits_in (take (used / 8) (to_be_bytes w64 (last * 2 ^ (64 - used) % 2 ^ 64))) ≡ bits_of used last
front_word last used some few small whole =
    let n = 64 - used in
    let word = last * 2 ^ n in
    let bytes = to_be_bytes w64 word in
    let sum : used + n ≡ 64 = omega (arith, few) in
    let split : bits_in bytes ≡ bits_of used last ++ bits_of n 0 =
    word_bits word ∙ (ap (λ (m : ℕ). bits_of m word) (sym sum) ∙ (ap (bits_of (used + n)) (omega arith) ∙ bits_cat used n last 0 (pow_pos n))) in
    let count = length-bits_of used last in
    ap (λ (m : ℕ). bits_in (take (used / 8) (to_be_bytes w64 m))) (shl_whole last used n 64 small (omega (arith, few)))
    ∙ (ap (λ (m : ℕ). bits_in (take (m / 8) bytes)) (sym count) ∙ front_bytes bytes (bits_of used last) (bits_of n 0) split (ap (λ (m : ℕ). m % 8) count ∙ whole))

pub appended_bits : (items before bytes : List ℕ) (last used : ℕ) → items ≡ before ++ bytes → bits_in bytes ≡ bits_of used last → bits_in items ≡ written before used last
appended_bits items before bytes last used e f = ap bits_in e ∙ (bits_in-append before bytes ∙ ap (λ (l : List Bool). bits_in before ++ l) f)

pub no_bits : (items : List ℕ) (last : ℕ) → bits_in items ≡ written items 0 last
no_bits items last = sym (ap (λ (l : List Bool). bits_in items ++ l) (bits_none last) ∙ append-nil (bits_in items))

pub whole_bytes : (view : List Bool) (bytes : List ℕ) (used last : ℕ) → written bytes used last ≡ view → length view % 8 ≡ 0 → used % 8 ≡ 0
whole_bytes view bytes used last e h = omega (arith, ap (λ (l : List Bool). length l) e, length_written bytes used last, h)

-- zeros fill up a byte
pub padded : (view after : List Bool) (bytes : List ℕ) (used last : ℕ) → written bytes used last ≡ view → after ≡ view ++ bits_of (bits_to_byte used) 0 → length after % 8 ≡ 0
padded view after bytes used last e f =
    let n = bits_to_byte used in
    omega (arith, ap (λ (l : List Bool). length l) f, length-append view (bits_of n 0), length-bits_of n 0, ap (λ (l : List Bool). length l) e, length_written bytes used last)
