-- Subframes have the lengths by which they are chosen.
use Rattle.std.proofs.Common.{ℕ, zero, suc, ℤ, ◌≡◌, ◌<◌, ◌≤◌, ◌+◌, ◌*◌, ◌/◌, ◌%◌, ◌^◌, ◌==◌, Bool, true, false, nat_lt, List, [], ◌∷◌, ◌++◌, length, take, replicate, slice_index, sum_by, refl, ap, ◌∙◌, arith, length-append, length-take-le}
use Rattle.std.specs.List.{flat_map, range_with_len}
use Rattle.std.proofs.Math.Nat.{div-le_self}
use Rattle.std.proofs.Math.ListN.{length-replicate}
use Rattle.std.proofs.lemmas.Bool.{and_parts, ltb-true}
use Rattle.std.proofs.lemmas.List.Sums.{sum_by-cons}
use Rattle.std.proofs.lemmas.List.FromFn.{get_or-map-range_with_len}
use Rattle.flac_definitions.specs.Bits.{bits_of}
use Rattle.flac_definitions.specs.BitLaws.{length-bits_of}
use Rattle.flac_definitions.specs.Plans.{value_size, cost, part_of, best_parameter, part_bits, plan_parameters, plan_bits}
use Rattle.flac_definitions.specs.ResidualWriting.{rice_bits, part_spelled, residual_bits}
use Rattle.flac_definitions.specs.FixedPredictors.{at, folded_residual}
use Rattle.flac_definitions.specs.SubframeWriting.{twos_complement, sample_bits, subframe_bits}
use Rattle.flac_definitions.specs.Candidates.{candidate_bits, best_candidate}
use Rattle.flac_definitions.specs.declared.candidate.Candidate.{Candidate}
use Rattle.flac_definitions.specs.declared.candidate.Candidate.TheVariants.{Constant, Verbatim, Fixed}
use Rattle.flac_subframe_laws.specs.Laws.{IsCandidate}
use Rattle.flac_definitions.specs.Modes.{channel_of, coded_depth, coded_of, channel_bits, mode_bits}
use Rattle.flac_definitions.specs.FrameWriting.{channel_spelled, channels_spelled}
use Rattle.flac_definitions.specs.declared.mode.BlockFormat.{BlockFormat}
use Rattle.flac_definitions.specs.declared.mode.ChannelMode.{ChannelMode}

length_each : {X : Type 0} (g : X → List Bool) (f : X → ℕ) (xs : List X) → ((x : X) → length (g x) ≡ f x) → length (flat_map g xs) ≡ sum_by f xs
length_each g f [] h = refl
length_each g f (x ∷ xs) h =
    let e : sum_by f (x ∷ xs) ≡ f x + sum_by f xs = sum_by-cons f x xs in
    length-append (g x) (flat_map g xs) ∙ omega (arith, e, h x, length_each g f xs h)

pub length_parts : (g : ℕ → List Bool) (f : ℕ → ℕ) (a n : ℕ) → ((j : ℕ) → j < a + n → length (g j) ≡ f j) → length (flat_map g (range_with_len a n)) ≡ sum_by f (range_with_len a n)
length_parts g f a zero h = refl
length_parts g f a (suc n) h =
    let e : sum_by f (range_with_len a (suc n)) ≡ f a + sum_by f (range_with_len (a + 1) n) = sum_by-cons f a (range_with_len (a + 1) n) in
    length-append (g a) (flat_map g (range_with_len (a + 1) n)) ∙ omega (arith, e, h a (omega arith), length_parts g f (a + 1) n (λ j l. h j (omega (arith, l))))

samples_length : (depth : ℕ) (xs : List ℤ) → length (flat_map (sample_bits depth) xs) ≡ depth * length xs
samples_length depth [] = omega arith
samples_length depth (x ∷ xs) =
    length-append (sample_bits depth x) (flat_map (sample_bits depth) xs) ∙ omega (arith, length-bits_of depth (twos_complement depth x), samples_length depth xs)

rice_length : (k z : ℕ) → length (rice_bits k z) ≡ value_size k z
rice_length k z =
    length-append (replicate (z / 2 ^ k) false ++ true ∷ []) (bits_of k z)
    ∙ omega (arith, length-append (replicate (z / 2 ^ k) false) (true ∷ []), length-replicate (z / 2 ^ k) false, length-bits_of k z)

part_length : (k : ℕ) (zs : List ℕ) → length (part_spelled k zs) ≡ 4 + cost k zs
part_length k zs =
    length-append (bits_of 4 k) (flat_map (rice_bits k) zs) ∙ omega (arith, length-bits_of 4 k, length_each (rice_bits k) (value_size k) zs (rice_length k))

residual_length : (block order : ℕ) (zs : List ℕ) (p : ℕ) → length (residual_bits block order zs p (plan_parameters block order zs p)) ≡ plan_bits block order zs p
residual_length block order zs p =
    let part : ℕ → List ℕ = λ j. part_of (block / 2 ^ p) order zs j in
    let best : ℕ → ℕ = λ j. best_parameter (part j) in
    let ks = plan_parameters block order zs p in
    let g : ℕ → List Bool = λ j. part_spelled (slice_index ks j) (part j) in
    let each : (j : ℕ) → j < 0 + 2 ^ p → length (g j) ≡ part_bits (part j) = λ j l.
    ap (λ (k : ℕ). length (part_spelled k (part j))) (get_or-map-range_with_len best 0 (2 ^ p) j j 0 (omega (arith, l)) (omega arith)) ∙ part_length (best j) (part j) in
    length-append (bits_of 2 0 ++ bits_of 4 p) (flat_map g (range_with_len 0 (2 ^ p)))
    ∙ omega (arith, length-append (bits_of 2 0) (bits_of 4 p), length-bits_of 2 0, length-bits_of 4 p, length_parts g (λ j. part_bits (part j)) 0 (2 ^ p) each)

pub subframe_length : (depth : ℕ) (xs : List ℤ) (c : Candidate) → IsCandidate xs c → length (subframe_bits depth xs c) ≡ candidate_bits depth xs c
subframe_length depth xs Constant own =
    length-append (bits_of 8 0) (sample_bits depth (at xs 0)) ∙ omega (arith, length-bits_of 8 0, length-bits_of depth (twos_complement depth (at xs 0)))
subframe_length depth xs Verbatim own =
    length-append (bits_of 8 2) (flat_map (sample_bits depth) xs) ∙ omega (arith, length-bits_of 8 2, samples_length depth xs)
subframe_length depth xs (Fixed order p) own =
    let n = length xs in
    let zs = folded_residual order xs in
    let ks = plan_parameters n order zs p in
    let part = ltb-true order (n / 2 ^ p) (and_parts (n % 2 ^ p == 0) (nat_lt order (n / 2 ^ p)) own.2).1 in
    let below : order ≤ n = omega (arith, part, div-le_self n (2 ^ p)) in
    let front = flat_map (sample_bits depth) (take order xs) in
    let plain : length front ≡ depth * order = samples_length depth (take order xs) ∙ ap (λ (k : ℕ). depth * k) (length-take-le order xs below) in
    length-append (bits_of 8 (16 + 2 * order) ++ front) (residual_bits n order zs p ks)
    ∙ omega (arith, length-append (bits_of 8 (16 + 2 * order)) front, length-bits_of 8 (16 + 2 * order), plain, residual_length n order zs p)

-- those of all channels of a block
pub channels_length : ((depth level : ℕ) (xs : List ℤ) → IsCandidate xs (best_candidate depth level xs)) → (f : BlockFormat) (m : ChannelMode) (block : ℕ) (xs : List ℤ)
    → length (channels_spelled f m block (coded_of m block xs) f.channels) ≡ mode_bits f block xs m
channels_length best f m block xs =
    length_parts (channel_spelled f m block (coded_of m block xs)) (channel_bits f m block (coded_of m block xs)) 0 f.channels (λ c l. (let d = coded_depth f m c in let ys = channel_of block (coded_of m block xs) c in
    subframe_length d ys (best_candidate d f.level ys) (best d f.level ys)))
