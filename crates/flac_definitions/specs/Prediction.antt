-- Samples from a prediction and a residual (RFC 9639, sections 4.3, 9.2.5 and 9.2.6).
use Rattle.std.specs.Prelude.{ℕ, ℤ, pos, ◌+ℤ◌, ◌*ℤ◌, ◌-◌, ◌^◌, ◌==◌, neg_ℤ, negsuc, int_le, int_lt, ◌&&◌, Bool, List, [], ◌∷◌, ◌++◌, Option, Some, None, if◌then◌else◌}
use Rattle.std.specs.Int.{int_shr}

-- the sum of the products of coefficients and past samples, of which the last one comes first
abbrev pub sum_of_products : List ℤ → List ℤ → ℤ
sum_of_products [] past = pos 0
sum_of_products (c ∷ cs) [] = pos 0
sum_of_products (c ∷ cs) (s ∷ past) = (c *ℤ s) +ℤ sum_of_products cs past

-- the prediction: the sum, shifted right arithmetically
abbrev pub prediction : List ℤ → ℕ → List ℤ → ℤ
prediction coefficients shift past = int_shr (sum_of_products coefficients past) shift

-- a sample is one of so many bits in two's complement
abbrev pub fits_depth : ℕ → ℤ → Bool
fits_depth depth s = int_le (neg_ℤ (pos (2 ^ (depth - 1)))) s && int_lt s (pos (2 ^ (depth - 1)))

-- a sample in front of others, of which a fault leaves none
abbrev pub with_sample : ℤ → Option (List ℤ) → Option (List ℤ)
with_sample s None = None
with_sample s (Some xs) = Some (s ∷ xs)

-- The samples behind those of the past, of which the last one comes first: each is its prediction plus its residual. None
-- where one does not fit the depth (our choice).
abbrev pub samples_behind : List ℤ → ℕ → ℕ → List ℤ → List ℤ → Option (List ℤ)
samples_behind coefficients shift depth past [] = Some []
samples_behind coefficients shift depth past (r ∷ rs) =
    let s = prediction coefficients shift past +ℤ r in
    if fits_depth depth s
    then with_sample s (samples_behind coefficients shift depth (s ∷ past) rs)
    else None

-- the coefficients of the fixed predictors, the one for the last sample first; their shift is 0
abbrev pub fixed_coefficients : ℕ → List ℤ
fixed_coefficients order =
    if order == 0 then []
    else if order == 1 then pos 1 ∷ []
    else if order == 2 then pos 2 ∷ negsuc 0 ∷ []
    else if order == 3 then pos 3 ∷ negsuc 2 ∷ pos 1 ∷ []
    else pos 4 ∷ negsuc 5 ∷ pos 4 ∷ negsuc 0 ∷ []

-- samples and those behind them, of which a fault leaves none
abbrev pub one_after_other : List ℤ → Option (List ℤ) → Option (List ℤ)
one_after_other front None = None
one_after_other front (Some xs) = Some (front ++ xs)
