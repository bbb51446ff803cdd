-- Samples, one behind another.
use Rattle.std.proofs.Common.{ℕ, ℤ, pos, ◌≡◌, ◌<◌, ◌≤◌, ◌+◌, ◌*◌, ◌%◌, ◌^◌, bit_or, Bool, List, [], ◌∷◌, ◌++◌, length, take, ap, sym, ◌∙◌, append_assoc, append-nil, arith}
use Rattle.std.specs.List.{flat_map}
use Rattle.std.proofs.Math.Nat.{mul-le-mul_right}
use Rattle.std.proofs.lemmas.Nat.{pow-add, shl_whole, or_shifted}
use Rattle.std.proofs.lemmas.List.{take_more}
use Rattle.std.proofs.lemmas.List.Concat.{flat_map-append}
use Rattle.flac_definitions.specs.FixedPredictors.{at}
use Rattle.flac_definitions.specs.Bits.{bits_of}
use Rattle.flac_definitions.specs.SubframeWriting.{twos_complement, sample_bits}
use Rattle.flac_write.specs.WriterLaws.{bits_cat}

pub sample_more : (before now next : List Bool) (depth i : ℕ) (xs : List ℤ) → i < length xs → now ≡ before ++ flat_map (sample_bits depth) (take i xs) → next ≡ now ++ sample_bits depth (at xs i)
    → next ≡ before ++ flat_map (sample_bits depth) (take (i + 1) xs)
sample_more before now next depth i xs less so_far added =
    let f = sample_bits depth in
    let more : flat_map f (take (i + 1) xs) ≡ flat_map f (take i xs) ++ f (at xs i) =
    ap (flat_map f) (take_more xs i (pos 0) less) ∙ (flat_map-append f (take i xs) (at xs i ∷ []) ∙ ap (λ (l : List Bool). flat_map f (take i xs) ++ l) (append-nil (f (at xs i)))) in
    added ∙ (ap (λ (l : List Bool). l ++ f (at xs i)) so_far ∙ (append_assoc before (flat_map f (take i xs)) (f (at xs i)) ∙ ap (λ (l : List Bool). before ++ l) (sym more)))

-- ---- samples that are held in a word

pub joined_value : (last used n v : ℕ) → last < 2 ^ used → used + n ≤ 64 → v < 2 ^ n → bit_or (last * 2 ^ n % 2 ^ 64) v ≡ last * 2 ^ n + v
joined_value last used n v small room fits = ap (λ (x : ℕ). bit_or x v) (shl_whole last used n 64 small room) ∙ or_shifted last n v fits

pub joined_bound : (last used n v : ℕ) → last < 2 ^ used → v < 2 ^ n → last * 2 ^ n + v < 2 ^ (used + n)
joined_bound last used n v small fits =
    let up : (last + 1) * 2 ^ n ≤ 2 ^ used * 2 ^ n = mul-le-mul_right (2 ^ n) (omega (arith, small)) in
    omega (arith, up, fits, pow-add 2 used n)

-- one more beside what is held
pub held_sample : (now : List Bool) (count depth word number both : ℕ) (v : ℤ) → both ≡ word * 2 ^ depth + number → number < 2 ^ depth → number ≡ twos_complement depth v
    → now ++ bits_of (count + depth) both ≡ (now ++ bits_of count word) ++ sample_bits depth v
held_sample now count depth word number both v e small is =
    ap (λ (x : ℕ). now ++ bits_of (count + depth) x) e
    ∙ (ap (λ (l : List Bool). now ++ l) (bits_cat count depth word number small)
    ∙ (sym (append_assoc now (bits_of count word) (bits_of depth number)) ∙ ap (λ (x : ℕ). (now ++ bits_of count word) ++ bits_of depth x) is))

-- one more, where what was held is written
pub next_sample : (now next : List Bool) (depth count word number : ℕ) (v : ℤ) → next ≡ now ++ bits_of count word → number ≡ twos_complement depth v
    → next ++ bits_of depth number ≡ (now ++ bits_of count word) ++ sample_bits depth v
next_sample now next depth count word number v e is = ap (λ (l : List Bool). l ++ bits_of depth number) e ∙ ap (λ (x : ℕ). (now ++ bits_of count word) ++ bits_of depth x) is

pub samples_end : (before now : List Bool) (depth i count : ℕ) (xs : List ℤ) → i ≡ count → now ≡ before ++ flat_map (sample_bits depth) (take i xs) → now ≡ before ++ flat_map (sample_bits depth) (take count xs)
samples_end before now depth i count xs e h = h ∙ ap (λ (k : ℕ). before ++ flat_map (sample_bits depth) (take k xs)) e
