-- Subframes are read exactly where they are spelled.
use Rattle.std.proofs.Common.{◌≡◌, ℕ, zero, suc, ℤ, ◌+◌, ◌-◌, ◌/◌, ◌%◌, Bool, cond, eqb, ltb, not, ◌&&◌, List, [], ◌∷◌, ◌++◌, Option, Some, None, Result, Ok, Err, length, replicate, reverse, refl, sym, ap, subst, ◌∙◌, arith}
use Rattle.flac_definitions.specs.Bits.{Place, forward, number_at, zeros_at}
use Rattle.flac_definitions.specs.declared.fault.ResidualFault.{ResidualFault}
use Rattle.flac_definitions.specs.Residual.{residual_at, signed_number}
use Rattle.flac_definitions.specs.Prediction.{samples_behind, one_after_other}
use Rattle.flac_definitions.specs.Options.{◌>>=◌}
use Rattle.flac_definitions.specs.Subframe.{signed_at, samples_at, in_front_of, with_place, predictor_at, fixed_at, coefficients_at, linear_at, constant_at, body_at, wasted_bits_at, with_wasted_bits, subframe_at, channels_at}
use Rattle.flac_definitions.specs.Results.{without_fault}
use Rattle.flac_definitions.specs.Prediction.{fixed_coefficients}
use Rattle.flac_definitions.specs.Stereo.{channel_depth}
use Rattle.flac_definitions.specs.Bits.{Begins}
use Rattle.flac_definitions.specs.PlaceLaws.{zeros_read, zeros_spelled, unary_bits}
use Rattle.flac_definitions.specs.Grammar.{IsNumber, IsGiven, IsNothing, InOrder, Either, Reads}
use Rattle.flac_definitions.specs.ResidualSpelling.{IsSigned, IsResidual}
use Rattle.flac_definitions.specs.SubframeSpelling.{IsPredictor, AreSamples, IsFixed, AreCoefficients, IsLinear, IsConstant, IsBody, IsWastedBits, IsSubframe, AreChannels}
use Rattle.flac_definitions.specs.Grammar.{IsUnary}
use Rattle.flac_definitions.specs.GrammarLaws.{then, reads_as, given_at, given, fails, chosen, number}
use Rattle.flac_rice.specs.ResidualLaws.{residual}

no_fault_ok : (r : Result (List ℤ × Place) ResidualFault) (x : List ℤ × Place) → without_fault r ≡ Some x → r ≡ Ok x
no_fault_ok (Err e) x h = absurd (let n : ⊥ = cc in n)
no_fault_ok (Ok y) x h = let s : y ≡ x = cc in ap Ok s

residual_reads : (block order : ℕ) → Reads (λ p. without_fault (residual_at block order p)) (IsResidual block order)
residual_reads block order = record {
  sound = λ p q x h. (residual block order).sound p q x (no_fault_ok (residual_at block order p) (x, q) h);
  whole = λ p x bits h n. ap without_fault ((residual block order).whole p x bits h n);
}

signed_reads : (size : ℕ) → Reads (signed_at size) (IsSigned size)
signed_reads size = then (number_at size) (λ x p. given_at (Some (signed_number size x)) p) (IsNumber size) (λ n. IsGiven (Some (signed_number size n))) (number size) (λ x. given (Some (signed_number size x)))

fronted_is : (front : List ℤ) (r : Option (List ℤ × Place)) → in_front_of front r ≡ (r >>= λ x. given_at (Some (front ++ x.0)) x.1)
fronted_is front (Some x) = refl
fronted_is front None = refl

front_reads : (front : List ℤ) (read : Place → Option (List ℤ × Place)) (is : List ℤ → List Bool → Type 0) → Reads read is → Reads (λ p. in_front_of front (read p)) (InOrder is (λ ys. IsGiven (Some (front ++ ys))))
front_reads front read is f =
    reads_as (λ p. read p >>= λ x. given_at (Some (front ++ x.0)) x.1) (λ p. in_front_of front (read p)) (InOrder is (λ ys. IsGiven (Some (front ++ ys)))) (λ p. fronted_is front (read p))
    (then read (λ x p. given_at (Some (front ++ x)) p) is (λ ys. IsGiven (Some (front ++ ys))) f (λ x. given (Some (front ++ x))))

samples_read : (depth n : ℕ) → Reads (samples_at depth n) (AreSamples depth n)
samples_read depth zero = given (Some [])
samples_read depth (suc n) =
    then (signed_at depth) (λ x p. in_front_of (x ∷ []) (samples_at depth n p)) (IsSigned depth) (λ x. InOrder (AreSamples depth n) (λ xs. IsGiven (Some (x ∷ xs)))) (signed_reads depth)
    (λ x. front_reads (x ∷ []) (samples_at depth n) (AreSamples depth n) (samples_read depth n))

behind_is : (front : List ℤ) (p : Place) (o : Option (List ℤ)) → with_place front p o ≡ given_at (one_after_other front o) p
behind_is front p None = refl
behind_is front p (Some xs) = refl

predicted_reads : (coefficients : List ℤ) (shift depth block : ℕ) (front : List ℤ) → Reads (predictor_at coefficients shift depth block front) (IsPredictor coefficients shift depth block front)
predicted_reads coefficients shift depth block front =
    then (λ p. without_fault (residual_at block (length coefficients) p)) (λ xs p. with_place front p (samples_behind coefficients shift depth (reverse front) xs)) (IsResidual block (length coefficients))
    (λ xs. IsGiven (one_after_other front (samples_behind coefficients shift depth (reverse front) xs))) (residual_reads block (length coefficients))
    (λ xs. reads_as (given_at (one_after_other front (samples_behind coefficients shift depth (reverse front) xs))) (λ p. with_place front p (samples_behind coefficients shift depth (reverse front) xs)) (IsGiven (one_after_other front (samples_behind coefficients shift depth (reverse front) xs)))
    (λ p. behind_is front p (samples_behind coefficients shift depth (reverse front) xs)) (given (one_after_other front (samples_behind coefficients shift depth (reverse front) xs))))

fixed_reads : (order depth block : ℕ) → Reads (fixed_at order depth block) (IsFixed order depth block)
unfolding fixed_at
fixed_reads order depth block =
    chosen (ltb block order) (λ p. None) (λ p. samples_at depth order p >>= λ front. predictor_at (fixed_coefficients order) 0 depth block front.0 front.1) IsNothing
    (InOrder (AreSamples depth order) (λ front. IsPredictor (fixed_coefficients order) 0 depth block front)) fails
    (then (samples_at depth order) (λ front p. predictor_at (fixed_coefficients order) 0 depth block front p) (AreSamples depth order) (λ front. IsPredictor (fixed_coefficients order) 0 depth block front) (samples_read depth order)
    (λ front. predicted_reads (fixed_coefficients order) 0 depth block front))

coefficients_read : (order : ℕ) → Reads (coefficients_at order) (AreCoefficients order)
coefficients_read order =
    then (number_at 4) (λ a p. number_at 5 p >>= λ b. cond (ltb a 15 && ltb b.0 16) (samples_at (a + 1) order b.1 >>= λ x. Some ((x.0, b.0), x.1)) None) (IsNumber 4)
    (λ a. InOrder (IsNumber 5) (λ b. Either (ltb a 15 && ltb b 16) (InOrder (AreSamples (a + 1) order) (λ xs. IsGiven (Some (xs, b)))) IsNothing)) (number 4)
    (λ a. then (number_at 5) (λ b p. cond (ltb a 15 && ltb b 16) (samples_at (a + 1) order p >>= λ x. Some ((x.0, b), x.1)) None) (IsNumber 5)
    (λ b. Either (ltb a 15 && ltb b 16) (InOrder (AreSamples (a + 1) order) (λ xs. IsGiven (Some (xs, b)))) IsNothing) (number 5)
    (λ b. chosen (ltb a 15 && ltb b 16) (λ p. samples_at (a + 1) order p >>= λ x. Some ((x.0, b), x.1)) (λ p. None) (InOrder (AreSamples (a + 1) order) (λ xs. IsGiven (Some (xs, b)))) IsNothing
    (then (samples_at (a + 1) order) (λ xs p. given_at (Some (xs, b)) p) (AreSamples (a + 1) order) (λ xs. IsGiven (Some (xs, b))) (samples_read (a + 1) order) (λ xs. given (Some (xs, b)))) fails))

linear_reads : (order depth block : ℕ) → Reads (linear_at order depth block) (IsLinear order depth block)
unfolding linear_at
linear_reads order depth block =
    chosen (ltb block order) (λ p. None) (λ p. samples_at depth order p >>= λ front. coefficients_at order front.1 >>= λ c. predictor_at c.0.0 c.0.1 depth block front.0 c.1) IsNothing
    (InOrder (AreSamples depth order) (λ front. InOrder (AreCoefficients order) (λ c. IsPredictor c.0 c.1 depth block front))) fails
    (then (samples_at depth order) (λ front p. coefficients_at order p >>= λ c. predictor_at c.0.0 c.0.1 depth block front c.1) (AreSamples depth order) (λ front. InOrder (AreCoefficients order) (λ c. IsPredictor c.0 c.1 depth block front)) (samples_read depth order)
    (λ front. then (coefficients_at order) (λ c p. predictor_at c.0 c.1 depth block front p) (AreCoefficients order) (λ c. IsPredictor c.0 c.1 depth block front) (coefficients_read order) (λ c. predicted_reads c.0 c.1 depth block front)))

constant_reads : (depth block : ℕ) → Reads (constant_at depth block) (IsConstant depth block)
unfolding constant_at
constant_reads depth block = then (signed_at depth) (λ x p. given_at (Some (replicate block x)) p) (IsSigned depth) (λ x. IsGiven (Some (replicate block x))) (signed_reads depth) (λ x. given (Some (replicate block x)))

body_reads : (kind depth block : ℕ) → Reads (body_at kind depth block) (IsBody kind depth block)
body_reads kind depth block =
    let e = linear_reads (kind - 31) depth block in
    let d = chosen (ltb kind 32) (λ p. None) (linear_at (kind - 31) depth block) IsNothing (IsLinear (kind - 31) depth block) fails e in
    let c = chosen (ltb kind 13) (fixed_at (kind - 8) depth block) (λ p. cond (ltb kind 32) None (linear_at (kind - 31) depth block p)) (IsFixed (kind - 8) depth block) (Either (ltb kind 32) IsNothing (IsLinear (kind - 31) depth block)) (fixed_reads (kind - 8) depth block) d in
    let b = chosen (ltb kind 8) (λ p. None) (λ p. cond (ltb kind 13) (fixed_at (kind - 8) depth block p) (cond (ltb kind 32) None (linear_at (kind - 31) depth block p))) IsNothing (Either (ltb kind 13) (IsFixed (kind - 8) depth block) (Either (ltb kind 32) IsNothing (IsLinear (kind - 31) depth block))) fails c in
    let a = chosen (eqb kind 1) (samples_at depth block) (λ p. cond (ltb kind 8) None (cond (ltb kind 13) (fixed_at (kind - 8) depth block p) (cond (ltb kind 32) None (linear_at (kind - 31) depth block p)))) (AreSamples depth block) (Either (ltb kind 8) IsNothing (Either (ltb kind 13) (IsFixed (kind - 8) depth block) (Either (ltb kind 32) IsNothing (IsLinear (kind - 31) depth block)))) (samples_read depth block) b in
    chosen (eqb kind 0) (constant_at depth block) (λ p. cond (eqb kind 1) (samples_at depth block p) (cond (ltb kind 8) None (cond (ltb kind 13) (fixed_at (kind - 8) depth block p) (cond (ltb kind 32) None (linear_at (kind - 31) depth block p))))) (IsConstant depth block)
    (Either (eqb kind 1) (AreSamples depth block) (Either (ltb kind 8) IsNothing (Either (ltb kind 13) (IsFixed (kind - 8) depth block) (Either (ltb kind 32) IsNothing (IsLinear (kind - 31) depth block))))) (constant_reads depth block) a

length_of : (n : ℕ) → length (unary_bits n) ≡ n + 1
length_of zero = refl
length_of (suc n) = omega (arith, length_of n)

unary_reads : Reads zeros_at IsUnary
unary_reads = record {
  sound = λ p q n e. let r = zeros_read p q n e in record { bits = unary_bits n; fine = refl; place = r.0 ∙ ap (λ k. forward k p) (sym (length_of n)); next = r.1 };
  whole = λ p n bits h b. zeros_spelled p n (subst (λ (z : List Bool). Begins p z) h b) ∙ ap (λ k. Some (n, forward k p)) (sym (ap length h ∙ length_of n));
}

wasted_reads : (flag : ℕ) → Reads (wasted_bits_at flag) (IsWastedBits flag)
wasted_reads flag =
    chosen (eqb flag 0) (given_at (Some 0)) (λ p. zeros_at p >>= λ k. Some (k.0 + 1, k.1)) (IsGiven (Some 0)) (InOrder IsUnary (λ k. IsGiven (Some (k + 1)))) (given (Some 0))
    (then zeros_at (λ k p. given_at (Some (k + 1)) p) IsUnary (λ k. IsGiven (Some (k + 1))) unary_reads (λ k. given (Some (k + 1))))

pub subframe_reads : (depth block : ℕ) → Reads (subframe_at depth block) (IsSubframe depth block)
unfolding subframe_at
subframe_reads depth block =
    then (number_at 8) (λ head p. cond (not (ltb head 128)) None (wasted_bits_at (head % 2) p >>= λ wasted. cond (not (ltb wasted.0 depth)) None (body_at (head / 2) (depth - wasted.0) block wasted.1 >>= λ x. Some (with_wasted_bits wasted.0 x.0, x.1)))) (IsNumber 8)
    (λ head. Either (not (ltb head 128)) IsNothing (InOrder (IsWastedBits (head % 2)) (λ wasted. Either (not (ltb wasted depth)) IsNothing (InOrder (IsBody (head / 2) (depth - wasted) block) (λ xs. IsGiven (Some (with_wasted_bits wasted xs))))))) (number 8)
    (λ head. chosen (not (ltb head 128)) (λ p. None) (λ p. wasted_bits_at (head % 2) p >>= λ wasted. cond (not (ltb wasted.0 depth)) None (body_at (head / 2) (depth - wasted.0) block wasted.1 >>= λ x. Some (with_wasted_bits wasted.0 x.0, x.1))) IsNothing
    (InOrder (IsWastedBits (head % 2)) (λ wasted. Either (not (ltb wasted depth)) IsNothing (InOrder (IsBody (head / 2) (depth - wasted) block) (λ xs. IsGiven (Some (with_wasted_bits wasted xs)))))) fails
    (then (wasted_bits_at (head % 2)) (λ wasted p. cond (not (ltb wasted depth)) None (body_at (head / 2) (depth - wasted) block p >>= λ x. Some (with_wasted_bits wasted x.0, x.1))) (IsWastedBits (head % 2))
    (λ wasted. Either (not (ltb wasted depth)) IsNothing (InOrder (IsBody (head / 2) (depth - wasted) block) (λ xs. IsGiven (Some (with_wasted_bits wasted xs))))) (wasted_reads (head % 2))
    (λ wasted. chosen (not (ltb wasted depth)) (λ p. None) (λ p. body_at (head / 2) (depth - wasted) block p >>= λ x. Some (with_wasted_bits wasted x.0, x.1)) IsNothing (InOrder (IsBody (head / 2) (depth - wasted) block) (λ xs. IsGiven (Some (with_wasted_bits wasted xs)))) fails
    (then (body_at (head / 2) (depth - wasted) block) (λ xs p. given_at (Some (with_wasted_bits wasted xs)) p) (IsBody (head / 2) (depth - wasted) block) (λ xs. IsGiven (Some (with_wasted_bits wasted xs))) (body_reads (head / 2) (depth - wasted) block) (λ xs. given (Some (with_wasted_bits wasted xs)))))))

pub channels_read : (assignment depth block channel n : ℕ) → Reads (channels_at assignment depth block channel n) (AreChannels assignment depth block channel n)
channels_read assignment depth block channel zero = given (Some [])
channels_read assignment depth block channel (suc n) =
    then (subframe_at (channel_depth assignment depth channel) block) (λ xs p. in_front_of xs (channels_at assignment depth block (channel + 1) n p)) (IsSubframe (channel_depth assignment depth channel) block)
    (λ xs. InOrder (AreChannels assignment depth block (channel + 1) n) (λ ys. IsGiven (Some (xs ++ ys)))) (subframe_reads (channel_depth assignment depth channel) block)
    (λ xs. front_reads xs (channels_at assignment depth block (channel + 1) n) (AreChannels assignment depth block (channel + 1) n) (channels_read assignment depth block (channel + 1) n))
