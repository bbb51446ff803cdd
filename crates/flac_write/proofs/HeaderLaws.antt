-- What is written of a header spells it.
use Rattle.std.proofs.Common.{ℕ, zero, suc, ◌≡◌, ◌<◌, ◌≤◌, ◌+◌, ◌-◌, ◌*◌, ◌/◌, ◌%◌, ◌^◌, ◌||◌, not, Bool, true, false, cond, eqb, ltb, leb, List, [], ◌∷◌, ◌++◌, Some, ◌⊎◌, inl, inr, refl, sym, ap, subst, ◌∙◌, arith, append_assoc}
use Rattle.std.proofs.lemmas.Bool.{ltb-true, ltb-false, leb-true, eqb-true, eqb-false, lt-ltb, le-ltb, eq-eqb}
use Rattle.std.proofs.lemmas.Nat.{mod-pow-add, pow-add}
use Rattle.wc_config.specs.declared.stream_info.StreamInfo.{StreamInfo}
use Rattle.flac_definitions.specs.Bits.{bits_of}
use Rattle.flac_definitions.specs.Grammar.{IsNumber, IsGiven, IsNothing, InOrder, Either}
use Rattle.flac_definitions.specs.Header.{is_block_size_code, is_long_block_size, is_sample_rate_code, is_channel_code, is_depth_code, common_block_size, common_sample_rate, depth_of}
use Rattle.flac_definitions.specs.HeaderSpelling.{IsTested, AreCodes, AreFurtherBytes, IsBehindFirstByte, IsCodedNumber, IsBlockSize, IsSampleRate, IsFront, IsDescribed, IsHeader}
use Rattle.flac_definitions.specs.declared.header.FrameHeader.{FrameHeader}
use Rattle.flac_definitions.specs.declared.header.HeaderCodes.{HeaderCodes}
use Rattle.flac_definitions.specs.HeaderWriting.{code_for, block_size_code, sample_rate_code, depth_code, further_bits, further_count, long_number_bits, number_bits, size_bits, code_bits, front_bits, header_bits, IsWritable}
use Rattle.flac_write.specs.SpellingLaws.{in_order, in_order_given, one_of, other_of}

-- ---- codes

abbrev all_good : (ℕ → Bool) → List ℕ → Bool
all_good good [] = true
all_good good (c ∷ cs) = cond (good c) (all_good good cs) false

both_first : (a b : Bool) → cond a b false ≡ true → a ≡ true
both_first true b e = refl
both_first false b e = absurd (let n : ⊥ = cc in n)

both_second : (a b : Bool) → cond a b false ≡ true → b ≡ true
both_second true b e = e
both_second false b e = absurd (let n : ⊥ = cc in n)

good_choice : (good : ℕ → Bool) (t : Bool) (a b : ℕ) → good a ≡ true → good b ≡ true → good (cond t a b) ≡ true
good_choice good true a b e f = e
good_choice good false a b e f = f

code_good : (good : ℕ → Bool) (meaning : ℕ → ℕ) (n other : ℕ) (cs : List ℕ) → good other ≡ true → all_good good cs ≡ true → good (code_for meaning n other cs) ≡ true
code_good good meaning n other [] e f = e
code_good good meaning n other (c ∷ cs) e f =
    good_choice good (eqb (meaning c) n) c (code_for meaning n other cs) (both_first (good c) (all_good good cs) f) (code_good good meaning n other cs e (both_second (good c) (all_good good cs) f))

right_choice : (meaning : ℕ → ℕ) (n other c x : ℕ) (t : Bool) → eqb (meaning c) n ≡ t → (meaning x ≡ n) ⊎ (x ≡ other) → (meaning (cond t c x) ≡ n) ⊎ (cond t c x ≡ other)
right_choice meaning n other c x true e h = inl (eqb-true (meaning c) n e)
right_choice meaning n other c x false e h = h

code_right : (meaning : ℕ → ℕ) (n other : ℕ) (cs : List ℕ) → (meaning (code_for meaning n other cs) ≡ n) ⊎ (code_for meaning n other cs ≡ other)
code_right meaning n other [] = inr refl
code_right meaning n other (c ∷ cs) = right_choice meaning n other c (code_for meaning n other cs) (eqb (meaning c) n) refl (code_right meaning n other cs)

-- ---- fields

tested : (good : ℕ → Bool) (n x : ℕ) → x < 2 ^ n → good x ≡ true → IsTested good n x (bits_of n x)
tested good n x h e = in_order_given (IsNumber n) (λ y. Either (good y) (IsGiven (Some y)) IsNothing) x x (bits_of n x) (h, refl) (one_of (good x) (IsGiven (Some x)) IsNothing x [] e (refl, refl))

block_code_good : (good : ℕ → Bool) (n : ℕ) → all_good good (1 ∷ 2 ∷ 3 ∷ 4 ∷ 5 ∷ 8 ∷ 9 ∷ 10 ∷ 11 ∷ 12 ∷ 13 ∷ 14 ∷ 15 ∷ []) ≡ true → good (cond (leb n 256) 6 7) ≡ true → good (block_size_code n) ≡ true
block_code_good good n e f = code_good good common_block_size n (cond (leb n 256) 6 7) (1 ∷ 2 ∷ 3 ∷ 4 ∷ 5 ∷ 8 ∷ 9 ∷ 10 ∷ 11 ∷ 12 ∷ 13 ∷ 14 ∷ 15 ∷ []) f e

block_code_small : (n : ℕ) → ltb (block_size_code n) 16 ≡ true
block_code_small n = block_code_good (λ c. ltb c 16) n refl (good_choice (λ c. ltb c 16) (leb n 256) 6 7 refl refl)

block_code_some : (n : ℕ) → ltb 0 (block_size_code n) ≡ true
block_code_some n = block_code_good (λ c. ltb 0 c) n refl (good_choice (λ c. ltb 0 c) (leb n 256) 6 7 refl refl)

-- the code for a byte stands for up to 256 frames
six_choice : (t : Bool) → cond (eqb (cond t 6 7) 6) t true ≡ true
six_choice true = refl
six_choice false = refl

block_code_six : (n : ℕ) → cond (eqb (block_size_code n) 6) (leb n 256) true ≡ true
block_code_six n = block_code_good (λ c. cond (eqb c 6) (leb n 256) true) n refl (six_choice (leb n 256))

rate_code_good : (good : ℕ → Bool) (n : ℕ) → all_good good (1 ∷ 2 ∷ 3 ∷ 4 ∷ 5 ∷ 6 ∷ 7 ∷ 8 ∷ 9 ∷ 10 ∷ 11 ∷ []) ≡ true → good 0 ≡ true → good (sample_rate_code n) ≡ true
rate_code_good good n e f = code_good good common_sample_rate n 0 (1 ∷ 2 ∷ 3 ∷ 4 ∷ 5 ∷ 6 ∷ 7 ∷ 8 ∷ 9 ∷ 10 ∷ 11 ∷ []) f e

depth_choice : (good : ℕ → Bool) (n : ℕ) → good 1 ≡ true → good 4 ≡ true → good 6 ≡ true → good 7 ≡ true → good (depth_code n) ≡ true
depth_choice good n a b c d = good_choice good (eqb n 8) 1 _ a (good_choice good (eqb n 16) 4 _ b (good_choice good (eqb n 24) 6 7 c d))

abbrev codes_of : FrameHeader → HeaderCodes
codes_of h = record { block = block_size_code h.block; rate = sample_rate_code h.rate; assignment = h.assignment; depth = depth_code h.depth }

regroup : (a b c d e f g : List Bool) → a ++ (b ++ (c ++ (d ++ (e ++ (f ++ g))))) ≡ a ++ b ++ c ++ d ++ e ++ f ++ g
regroup a b c d e f g = simp append_assoc

codes_spelled : (h : FrameHeader) → IsWritable h → AreCodes (codes_of h) (code_bits h)
codes_spelled h w =
    let b = block_size_code h.block in
    let r = sample_rate_code h.rate in
    let d = depth_code h.depth in
    subst (λ (l : List Bool). AreCodes (codes_of h) l) (regroup (bits_of 15 0x7ffc) (bits_of 1 0) (bits_of 4 b) (bits_of 4 r) (bits_of 4 h.assignment) (bits_of 3 d) (bits_of 1 0))
    (in_order (IsTested (λ n. eqb n 0x7ffc) 15) _ 0x7ffc (codes_of h) _ _ (tested (λ n. eqb n 0x7ffc) 15 0x7ffc (omega arith) refl)
    (in_order (IsNumber 1) _ 0 (codes_of h) _ _ (omega arith, refl)
    (in_order (IsTested is_block_size_code 4) _ b (codes_of h) _ _ (tested is_block_size_code 4 b (ltb-true b 16 (block_code_small h.block)) (block_code_some h.block))
    (in_order (IsTested is_sample_rate_code 4) _ r (codes_of h) _ _ (tested is_sample_rate_code 4 r (ltb-true r 16 (rate_code_good (λ c. ltb c 16) h.rate refl refl)) (rate_code_good (λ c. ltb c 15) h.rate refl refl))
    (in_order (IsTested is_channel_code 4) _ h.assignment (codes_of h) _ _ (tested is_channel_code 4 h.assignment (omega (arith, w.assignment)) (lt-ltb h.assignment 11 (omega (arith, w.assignment))))
    (in_order (IsTested is_depth_code 3) _ d (codes_of h) _ _ (tested is_depth_code 3 d (ltb-true d 8 (depth_choice (λ c. ltb c 8) h.depth refl refl refl refl)) (depth_choice is_depth_code h.depth refl refl refl refl))
    (in_order_given (IsTested (λ n. eqb n 0) 1) _ 0 (codes_of h) _ (tested (λ n. eqb n 0) 1 0 (omega arith) refl) (refl, refl))))))))

-- ---- the coded number

two_bits : (x : ℕ) → x < 64 → eqb ((128 + x) / 64) 2 ≡ true
two_bits x h = eq-eqb ((128 + x) / 64) 2 (omega (arith, h))

further_spelled : (k m n v : ℕ) → v ≡ m * 2 ^ (6 * k) + n % 2 ^ (6 * k) → AreFurtherBytes k m v (further_bits k n)
further_spelled zero m n v e = (ap Some (let s : m ≡ v = omega (arith, e) in s), refl)
further_spelled (suc k) m n v e =
    let x = n / 2 ^ (6 * k) % 64 in
    let b = 128 + x in
    let small : x < 64 = omega arith in
    let low : b % 64 ≡ x = omega arith in
    let wide : 2 ^ (6 * suc k) ≡ 64 * 2 ^ (6 * k) = ap (λ (j : ℕ). 2 ^ j) (let s : 6 * suc k ≡ 6 + 6 * k = omega arith in s) ∙ pow-add 2 6 (6 * k) in
    let part : n % 2 ^ (6 + 6 * k) ≡ x * 2 ^ (6 * k) + n % 2 ^ (6 * k) = mod-pow-add n 6 (6 * k) in
    let same : 2 ^ (6 * suc k) ≡ 2 ^ (6 + 6 * k) = ap (λ (j : ℕ). 2 ^ j) (omega arith) in
    let whole : v ≡ (64 * m + b % 64) * 2 ^ (6 * k) + n % 2 ^ (6 * k) =
    e ∙ (omega (arith, ap (λ (j : ℕ). m * j) wide, ap (λ (j : ℕ). n % j) same, part, ap (λ (j : ℕ). j * 2 ^ (6 * k)) low)) in
    in_order (IsNumber 8) (λ b. Either (eqb (b / 64) 2) (AreFurtherBytes k (64 * m + b % 64)) IsNothing) b v (bits_of 8 b) (further_bits k n) (omega arith, refl)
    (one_of (eqb (b / 64) 2) (AreFurtherBytes k (64 * m + b % 64)) IsNothing v (further_bits k n) (two_bits x small) (further_spelled k (64 * m + b % 64) n v whole))

behind_1 : (n b : ℕ) → b ≡ 192 + n / 2 ^ 6 → 128 ≤ n → n < 2 ^ 11 → IsBehindFirstByte b n (further_bits 1 n)
behind_1 n b e some few =
    other_of (ltb b 128) _ _ n _ (le-ltb b 128 (omega (arith, e)))
    (other_of (ltb b 192) _ _ n _ (le-ltb b 192 (omega (arith, e)))
    (one_of (ltb b 224) _ _ n _ (lt-ltb b 224 (omega (arith, e, few)))
    (further_spelled 1 (b - 192) n n (omega (arith, e)))))

behind_2 : (n b : ℕ) → b ≡ 224 + n / 2 ^ 12 → n < 2 ^ 16 → IsBehindFirstByte b n (further_bits 2 n)
behind_2 n b e few =
    other_of (ltb b 128) _ _ n _ (le-ltb b 128 (omega (arith, e)))
    (other_of (ltb b 192) _ _ n _ (le-ltb b 192 (omega (arith, e)))
    (other_of (ltb b 224) _ _ n _ (le-ltb b 224 (omega (arith, e)))
    (one_of (ltb b 240) _ _ n _ (lt-ltb b 240 (omega (arith, e, few)))
    (further_spelled 2 (b - 224) n n (omega (arith, e))))))

behind_3 : (n b : ℕ) → b ≡ 240 + n / 2 ^ 18 → n < 2 ^ 21 → IsBehindFirstByte b n (further_bits 3 n)
behind_3 n b e few =
    other_of (ltb b 128) _ _ n _ (le-ltb b 128 (omega (arith, e)))
    (other_of (ltb b 192) _ _ n _ (le-ltb b 192 (omega (arith, e)))
    (other_of (ltb b 224) _ _ n _ (le-ltb b 224 (omega (arith, e)))
    (other_of (ltb b 240) _ _ n _ (le-ltb b 240 (omega (arith, e)))
    (one_of (ltb b 248) _ _ n _ (lt-ltb b 248 (omega (arith, e, few)))
    (further_spelled 3 (b - 240) n n (omega (arith, e)))))))

behind_4 : (n b : ℕ) → b ≡ 248 + n / 2 ^ 24 → n < 2 ^ 26 → IsBehindFirstByte b n (further_bits 4 n)
behind_4 n b e few =
    other_of (ltb b 128) _ _ n _ (le-ltb b 128 (omega (arith, e)))
    (other_of (ltb b 192) _ _ n _ (le-ltb b 192 (omega (arith, e)))
    (other_of (ltb b 224) _ _ n _ (le-ltb b 224 (omega (arith, e)))
    (other_of (ltb b 240) _ _ n _ (le-ltb b 240 (omega (arith, e)))
    (other_of (ltb b 248) _ _ n _ (le-ltb b 248 (omega (arith, e)))
    (one_of (ltb b 252) _ _ n _ (lt-ltb b 252 (omega (arith, e, few)))
    (further_spelled 4 (b - 248) n n (omega (arith, e))))))))

behind_5 : (n b : ℕ) → b ≡ 252 + n / 2 ^ 30 → n < 2 ^ 31 → IsBehindFirstByte b n (further_bits 5 n)
behind_5 n b e few =
    other_of (ltb b 128) _ _ n _ (le-ltb b 128 (omega (arith, e)))
    (other_of (ltb b 192) _ _ n _ (le-ltb b 192 (omega (arith, e)))
    (other_of (ltb b 224) _ _ n _ (le-ltb b 224 (omega (arith, e)))
    (other_of (ltb b 240) _ _ n _ (le-ltb b 240 (omega (arith, e)))
    (other_of (ltb b 248) _ _ n _ (le-ltb b 248 (omega (arith, e)))
    (other_of (ltb b 252) _ _ n _ (le-ltb b 252 (omega (arith, e)))
    (one_of (ltb b 254) _ _ n _ (lt-ltb b 254 (omega (arith, e, few)))
    (further_spelled 5 (b - 252) n n (omega (arith, e)))))))))

-- the number of further bytes, by its tests
by_tests : (P : ℕ → Type 0) (a b c d : Bool) → (a ≡ true → P 1) → (b ≡ true → P 2) → (c ≡ true → P 3) → (d ≡ true → P 4) → P 5 → P (cond a 1 (cond b 2 (cond c 3 (cond d 4 5))))
by_tests P true b c d p1 p2 p3 p4 p5 = p1 refl
by_tests P false true c d p1 p2 p3 p4 p5 = p2 refl
by_tests P false false true d p1 p2 p3 p4 p5 = p3 refl
by_tests P false false false true p1 p2 p3 p4 p5 = p4 refl
by_tests P false false false false p1 p2 p3 p4 p5 = p5

abbrev IsLong : ℕ → ℕ → Type 0
IsLong n k = IsBehindFirstByte ((256 - 2 ^ (7 - k)) + n / 2 ^ (6 * k)) n (further_bits k n)

abbrev Follows : ℕ → ℕ → Type 0
Follows n k = (((256 - 2 ^ (7 - k)) + n / 2 ^ (6 * k)) < 2 ^ 8) × IsLong n k

long_follows : (n : ℕ) → 128 ≤ n → n < 2 ^ 31 → Follows n (further_count n)
long_follows n some few =
    by_tests (Follows n) (ltb n (2 ^ 11)) (ltb n (2 ^ 16)) (ltb n (2 ^ 21)) (ltb n (2 ^ 26))
    (λ e. let l : n < 2 ^ 11 = ltb-true n (2 ^ 11) e in (omega (arith, l), behind_1 n (192 + n / 2 ^ 6) refl some l))
    (λ e. let l : n < 2 ^ 16 = ltb-true n (2 ^ 16) e in (omega (arith, l), behind_2 n (224 + n / 2 ^ 12) refl l))
    (λ e. let l : n < 2 ^ 21 = ltb-true n (2 ^ 21) e in (omega (arith, l), behind_3 n (240 + n / 2 ^ 18) refl l))
    (λ e. let l : n < 2 ^ 26 = ltb-true n (2 ^ 26) e in (omega (arith, l), behind_4 n (248 + n / 2 ^ 24) refl l))
    (omega (arith, few), behind_5 n (252 + n / 2 ^ 30) refl few)

number_choice : (n : ℕ) (t : Bool) → ltb n 128 ≡ t → n < 2 ^ 31 → IsCodedNumber n (cond t (bits_of 8 n) (long_number_bits (further_count n) n))
number_choice n true e few =
    let l : n < 128 = ltb-true n 128 e in
    in_order_given (IsNumber 8) IsBehindFirstByte n n (bits_of 8 n) (omega (arith, l), refl) (one_of (ltb n 128) _ _ n [] e (refl, refl))
number_choice n false e few =
    let h = long_follows n (ltb-false n 128 e) few in
    let k = further_count n in
    let b = (256 - 2 ^ (7 - k)) + n / 2 ^ (6 * k) in
    in_order (IsNumber 8) IsBehindFirstByte b n (bits_of 8 b) (further_bits k n) (h.0, refl) h.1

pub number_spelled : (n : ℕ) → n < 2 ^ 31 → IsCodedNumber n (number_bits n)
unfolding number_bits
number_spelled n few = number_choice n (ltb n 128) refl few

-- ---- the block size and the rate

size_choice : (n c : ℕ) (six seven : Bool) → 0 < n → n ≤ 65535 → (six ≡ true → n ≤ 256) → (six ≡ false → seven ≡ false → c ≡ n)
    → Either six (InOrder (IsNumber 8) (λ x. IsGiven (Some (x + 1)))) (Either seven (InOrder (IsTested is_long_block_size 16) (λ x. IsGiven (Some (x + 1)))) (IsGiven (Some c))) n
    (cond six (bits_of 8 (n - 1)) (cond seven (bits_of 16 (n - 1)) []))
size_choice n c true seven some few one other =
    let l : n ≤ 256 = one refl in
    in_order_given (IsNumber 8) (λ x. IsGiven (Some (x + 1))) (n - 1) n (bits_of 8 (n - 1)) (omega (arith, l), refl) (ap Some (let e : n - 1 + 1 ≡ n = omega (arith, some) in e), refl)
size_choice n c false true some few one other =
    in_order_given (IsTested is_long_block_size 16) (λ x. IsGiven (Some (x + 1))) (n - 1) n (bits_of 16 (n - 1)) (tested is_long_block_size 16 (n - 1) (omega (arith, few)) (lt-ltb (n - 1) 65535 (omega (arith, some, few)))) (ap Some (let e : n - 1 + 1 ≡ n = omega (arith, some) in e), refl)
size_choice n c false false some few one other = (ap Some (other refl refl), refl)

kept_test : (s t : Bool) → cond s t true ≡ true → s ≡ true → t ≡ true
kept_test true t e f = e
kept_test false t e f = absurd (let n : ⊥ = cc in n)

is_other : (c : ℕ) (t : Bool) → c ≡ cond t 6 7 → eqb c 6 ≡ false → eqb c 7 ≡ false → ⊥
is_other c true e f g = eqb-false c 6 f e
is_other c false e f g = eqb-false c 7 g e

table_size : (n : ℕ) → eqb (block_size_code n) 6 ≡ false → eqb (block_size_code n) 7 ≡ false → common_block_size (block_size_code n) ≡ n
table_size n e f =
    elim (code_right common_block_size n (cond (leb n 256) 6 7) (1 ∷ 2 ∷ 3 ∷ 4 ∷ 5 ∷ 8 ∷ 9 ∷ 10 ∷ 11 ∷ 12 ∷ 13 ∷ 14 ∷ 15 ∷ [])) [
      | inl h ↦ h
      | inr h ↦ absurd (is_other (block_size_code n) (leb n 256) h e f)
    ]

pub size_spelled : (n : ℕ) → 0 < n → n ≤ 65535 → IsBlockSize (block_size_code n) n (size_bits (block_size_code n) n)
size_spelled n some few =
    let c = block_size_code n in
    size_choice n (common_block_size c) (eqb c 6) (eqb c 7) some few (λ e. leb-true n 256 (kept_test (eqb c 6) (leb n 256) (block_code_six n) e)) (table_size n)

rate_choice : (described n c code : ℕ) (zero_is : Bool) → described ≡ n → eqb code 0 ≡ zero_is → eqb code 12 ≡ false → eqb code 13 ≡ false → eqb code 14 ≡ false → (zero_is ≡ false → c ≡ n)
    → Either zero_is (IsGiven (Some described)) (Either (eqb code 12) (InOrder (IsNumber 8) (λ x. IsGiven (Some (1000 * x)))) (Either (eqb code 13) (IsNumber 16) (Either (eqb code 14) (InOrder (IsNumber 16) (λ x. IsGiven (Some (10 * x)))) (IsGiven (Some c))))) n []
rate_choice described n c code true same z a b d h = (ap Some same, refl)
rate_choice described n c code false same z a b d h =
    other_of (eqb code 12) _ _ n [] a (other_of (eqb code 13) _ _ n [] b (other_of (eqb code 14) _ _ n [] d (ap Some (h refl), refl)))

not_it : (t : Bool) → not t ≡ true → t ≡ false
not_it true e = absurd (let n : ⊥ = cc in n)
not_it false e = refl

table_rate : (n : ℕ) → eqb (sample_rate_code n) 0 ≡ false → common_sample_rate (sample_rate_code n) ≡ n
table_rate n e =
    elim (code_right common_sample_rate n 0 (1 ∷ 2 ∷ 3 ∷ 4 ∷ 5 ∷ 6 ∷ 7 ∷ 8 ∷ 9 ∷ 10 ∷ 11 ∷ [])) [
      | inl h ↦ h
      | inr h ↦ absurd (eqb-false (sample_rate_code n) 0 e h)
    ]

pub rate_spelled : (described n : ℕ) → n ≡ described → IsSampleRate described (sample_rate_code n) n []
rate_spelled described n same =
    let c = sample_rate_code n in
    rate_choice described n (common_sample_rate c) c (eqb c 0) (sym same) refl
    (not_it (eqb c 12) (rate_code_good (λ c. not (eqb c 12)) n refl refl)) (not_it (eqb c 13) (rate_code_good (λ c. not (eqb c 13)) n refl refl)) (not_it (eqb c 14) (rate_code_good (λ c. not (eqb c 14)) n refl refl)) (table_rate n)

-- ---- the whole

one_depth : (a b c d : Bool) → (a || b || c || d) ≡ true → (a ≡ false) → (b ≡ false) → (c ≡ false) → d ≡ true
one_depth true b c d e f g h = absurd (let n : ⊥ = cc in n)
one_depth false true c d e f g h = absurd (let n : ⊥ = cc in n)
one_depth false false true d e f g h = absurd (let n : ⊥ = cc in n)
one_depth false false false d e f g h = e

depth_by : (described n : ℕ) (a b c d : Bool) → eqb n 8 ≡ a → eqb n 16 ≡ b → eqb n 24 ≡ c → eqb n 32 ≡ d → (a || b || c || d) ≡ true → depth_of described (cond a 1 (cond b 4 (cond c 6 7))) ≡ n
depth_by described n true b c d p q r s e = sym (eqb-true n 8 p)
depth_by described n false true c d p q r s e = sym (eqb-true n 16 q)
depth_by described n false false true d p q r s e = sym (eqb-true n 24 r)
depth_by described n false false false d p q r s e = sym (eqb-true n 32 (s ∙ e))

abbrev with_depth : FrameHeader → ℕ → FrameHeader
with_depth h d = record { block = h.block; rate = h.rate; assignment = h.assignment; depth = d; number = h.number }

regroup_3 : (a b c : List Bool) → a ++ (b ++ c) ≡ a ++ b ++ c
regroup_3 a b c = simp append_assoc

pub front_spelled : (info : StreamInfo) (h : FrameHeader) → IsWritable h → IsDescribed info h → IsFront info h (front_bits h)
front_spelled info h w d =
    let code = block_size_code h.block in
    let depth : depth_of info.depth (depth_code h.depth) ≡ h.depth = depth_by info.depth h.depth (eqb h.depth 8) (eqb h.depth 16) (eqb h.depth 24) (eqb h.depth 32) refl refl refl refl w.depth in
    subst (λ (l : List Bool). IsFront info h l) (regroup_3 (code_bits h) (number_bits h.number) (size_bits code h.block))
    (in_order AreCodes _ (codes_of h) h (code_bits h) (number_bits h.number ++ size_bits code h.block) (codes_spelled h w)
    (in_order IsCodedNumber _ h.number h (number_bits h.number) (size_bits code h.block) (number_spelled h.number w.number)
    (in_order_given (IsBlockSize code) _ h.block h (size_bits code h.block) (size_spelled h.block w.some w.few)
    (in_order_given (IsSampleRate info.rate (sample_rate_code h.rate)) _ h.rate h [] (rate_spelled info.rate h.rate d.0)
    (ap (λ (x : ℕ). Some (with_depth h x)) depth, refl)))))

pub header_spelled : (info : StreamInfo) (h : FrameHeader) → IsWritable h → IsDescribed info h → IsHeader info h (header_bits h)
unfolding header_bits
header_spelled info h w d = record { front = front_bits h; fields = front_spelled info h w d; summed = refl; described = d }
