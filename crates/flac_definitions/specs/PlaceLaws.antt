-- Places, and numbers and zeros: what is read is spelled, and what is spelled is read.
use Rattle.std.proofs.Common.{◌≡◌, ℕ, zero, suc, ◌+◌, ◌^◌, ◌<◌, Bool, true, false, cond, ltb, List, [], ◌∷◌, ◌++◌, Option, Some, None, length, take, drop, replicate, refl, sym, ap, ◌∙◌, arith, append_assoc, length-append, length-take, length-drop, take-append-drop, drop-drop, mod-eq_of_lt}
use Rattle.std.proofs.Math.Seq.{take-append_seam, drop-append_seam}
use Rattle.std.proofs.lemmas.Bool.{ltb-false, le-ltb}
use Rattle.flac_definitions.specs.Bits.{Place, ahead, left, forward, bits_in, bits_of, number_of, number_at, zeros_before, zeros_at, behind_one, Begins}
use Rattle.flac_definitions.specs.BitLaws.{length-bits_in, length-bits_of, number_of-bits_of, bits_of-number_of, number_of_take-lt}

-- a place further on has the bits behind
pub ahead_forward : (n : ℕ) (p : Place) → ahead (forward n p) ≡ drop n (ahead p)
ahead_forward n p = sym (drop-drop n p.at (bits_in p.bytes))

pub length_ahead : (p : Place) → length (ahead p) ≡ left p
length_ahead p = omega (arith, length-drop p.at (bits_in p.bytes), length-bits_in p.bytes)

pub begins_first : (p : Place) (xs ys : List Bool) → Begins p (xs ++ ys) → Begins p xs
begins_first p xs ys b = record { rest = ys ++ b.rest; whole = b.whole ∙ append_assoc xs ys b.rest }

pub begins_second : (p : Place) (xs ys : List Bool) → Begins p (xs ++ ys) → Begins (forward (length xs) p) ys
begins_second p xs ys b = record {
  rest = b.rest;
  whole = ahead_forward (length xs) p ∙ ap (λ (zs : List Bool). drop (length xs) zs) (b.whole ∙ append_assoc xs ys b.rest) ∙ drop-append_seam xs (ys ++ b.rest);
}

pub begins_both : (p : Place) (xs ys : List Bool) → Begins p xs → Begins (forward (length xs) p) ys → Begins p (xs ++ ys)
begins_both p xs ys a b = record {
  rest = b.rest;
  whole =
      let r : a.rest ≡ ys ++ b.rest = sym (drop-append_seam xs a.rest) ∙ ap (λ (zs : List Bool). drop (length xs) zs) (sym a.whole) ∙ sym (ahead_forward (length xs) p) ∙ b.whole in
      a.whole ∙ ap (λ (zs : List Bool). xs ++ zs) r ∙ sym (append_assoc xs ys b.rest);
}

pub forward_twice : (m n : ℕ) (p : Place) → forward n (forward m p) ≡ forward (m + n) p
forward_twice m n p = ap (λ (k : ℕ). record { bytes = p.bytes; at = k }) (omega arith)

same_some : (x y : ℕ × Place) → Some x ≡ Some y → x ≡ y
same_some x y e = cc

-- numbers
number_cases : (t : Bool) (n : ℕ) (p q : Place) (v : ℕ) → ltb (left p) n ≡ t → cond {A = Option (ℕ × Place)} t None (Some (number_of (take n (ahead p)), forward n p)) ≡ Some (v, q) → (v < 2 ^ n) × (q ≡ forward n p) × Begins p (bits_of n v)
number_cases true n p q v t e = absurd (let z : ⊥ = cc in z)
number_cases false n p q v t e =
    let pe = same_some (number_of (take n (ahead p)), forward n p) (v, q) e in
    let ev : number_of (take n (ahead p)) ≡ v = ap (λ (z : ℕ × Place). z.0) pe in
    let eq : forward n p ≡ q = ap (λ (z : ℕ × Place). z.1) pe in
    let l : length (take n (ahead p)) ≡ n = omega (arith, length-take n (ahead p), length_ahead p, ltb-false (left p) n t) in
    let b : bits_of n v ≡ take n (ahead p) = ap (λ m. bits_of n m) (sym ev) ∙ ap (λ m. bits_of m (number_of (take n (ahead p)))) (sym l) ∙ bits_of-number_of (take n (ahead p)) in
    (omega (arith, ev, number_of_take-lt n (ahead p)), sym eq, record { rest = drop n (ahead p); whole = sym (ap (λ (xs : List Bool). xs ++ drop n (ahead p)) b ∙ take-append-drop n (ahead p)) })

pub number_read : (n : ℕ) (p q : Place) (v : ℕ) → number_at n p ≡ Some (v, q) → (v < 2 ^ n) × (q ≡ forward n p) × Begins p (bits_of n v)
number_read n p q v e = number_cases (ltb (left p) n) n p q v refl e

pub number_spelled : (n : ℕ) (p : Place) (v : ℕ) → v < 2 ^ n → Begins p (bits_of n v) → number_at n p ≡ Some (v, forward n p)
number_spelled n p v h b =
    let l : length (ahead p) ≡ n + length b.rest = ap length b.whole ∙ length-append (bits_of n v) b.rest ∙ ap (λ m. m + length b.rest) (length-bits_of n v) in
    let front : take n (ahead p) ≡ bits_of n v = ap (λ (xs : List Bool). take n xs) b.whole ∙ ap (λ m. take m (bits_of n v ++ b.rest)) (sym (length-bits_of n v)) ∙ take-append_seam (bits_of n v) b.rest in
    let value : number_of (take n (ahead p)) ≡ v = ap number_of front ∙ number_of-bits_of n v ∙ mod-eq_of_lt h in
    ap (λ t. cond t None (Some (number_of (take n (ahead p)), forward n p))) (le-ltb (left p) n (omega (arith, l, length_ahead p)))
    ∙ ap (λ (m : ℕ). Some (m, forward n p)) value

-- zeros and a 1
abbrev pub unary_bits : ℕ → List Bool
unary_bits q = replicate q false ++ true ∷ []

zeros_of : (q : ℕ) (rest : List Bool) → zeros_before (unary_bits q ++ rest) ≡ Some q
unfolding zeros_before
zeros_of zero rest = refl
zeros_of (suc q) rest = ap (λ (z : Option ℕ). elim z as (λ _. Option ℕ) [ None ↦ None | Some n ↦ Some (n + 1) ]) (zeros_of q rest) ∙ ap Some (omega arith)

zeros_more : (bits : List Bool) (q : ℕ) (z : Option ℕ) → ((n : ℕ) → zeros_before bits ≡ Some n → (rest : List Bool) × (bits ≡ unary_bits n ++ rest)) → zeros_before bits ≡ z → elim z as (λ _. Option ℕ) [ None ↦ None | Some n ↦ Some (n + 1) ] ≡ Some q → (rest : List Bool) × (false ∷ bits ≡ unary_bits q ++ rest)
zeros_more bits q None before h e = absurd (let z : ⊥ = cc in z)
zeros_more bits q (Some n) before h e =
    let r = before n h in
    let s : n + 1 ≡ q = cc in
    (r.0, ap (λ (xs : List Bool). false ∷ xs) r.1 ∙ ap (λ m. unary_bits m ++ r.0) (let t : suc n ≡ q = omega arith in t))

zeros_are : (bits : List Bool) (q : ℕ) → zeros_before bits ≡ Some q → (rest : List Bool) × (bits ≡ unary_bits q ++ rest)
unfolding zeros_before
zeros_are [] q e = absurd (let z : ⊥ = cc in z)
zeros_are (true ∷ bits) q e = let z : 0 ≡ q = cc in (bits, ap (λ n. unary_bits n ++ bits) z)
zeros_are (false ∷ bits) q e = zeros_more bits q (zeros_before bits) (zeros_are bits) refl e

pub length_unary : (q : ℕ) → length (unary_bits q) ≡ q + 1
length_unary zero = refl
length_unary (suc q) = omega (arith, length_unary q)

zeros_cases : (z : Option ℕ) (p q : Place) (n : ℕ) → zeros_before (ahead p) ≡ z → behind_one p z ≡ Some (n, q) → (q ≡ forward (n + 1) p) × Begins p (unary_bits n)
zeros_cases None p q n h e = absurd (let z : ⊥ = cc in z)
zeros_cases (Some m) p q n h e =
    let pe = same_some (m, forward (m + 1) p) (n, q) e in
    let s : m ≡ n = ap (λ (z : ℕ × Place). z.0) pe in
    let t : forward (m + 1) p ≡ q = ap (λ (z : ℕ × Place). z.1) pe in
    let r = zeros_are (ahead p) n (h ∙ ap Some s) in
    (sym t ∙ ap (λ k. forward (k + 1) p) s, record { rest = r.0; whole = r.1 })

pub zeros_read : (p q : Place) (n : ℕ) → zeros_at p ≡ Some (n, q) → (q ≡ forward (n + 1) p) × Begins p (unary_bits n)
zeros_read p q n e = zeros_cases (zeros_before (ahead p)) p q n refl e

pub zeros_spelled : (p : Place) (n : ℕ) → Begins p (unary_bits n) → zeros_at p ≡ Some (n, forward (n + 1) p)
zeros_spelled p n b = ap (λ (z : Option ℕ). behind_one p z) (ap zeros_before b.whole ∙ zeros_of n b.rest)
