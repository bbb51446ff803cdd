-- Where two texts differ.
use Rattle.std.proofs.Common.{◌≡◌, ◌≢◌, ℕ, ◌+◌, ◌≤◌, Bool, true, false, cond, eqb, List, [], ◌∷◌, length, drop, Option, Some, None, refl, subst, sym, arith, eq-eqb, ◌⊎◌}
use Rattle.std.specs.Prelude.{IfNone, IfSome}
use Rattle.std.proofs.lemmas.List.{length-drop}
use Rattle.std.proofs.lemmas.Bool.{eqb-true}
use Rattle.report_reader.specs.Fault.{common, feeds, line_of_difference, difference_from}

end_differs : (line : ℕ) (xs ys : List ℕ) → (length xs ≡ length ys → ⊥) → (length xs ≤ 0) ⊎ (length ys ≤ 0) → difference_from line xs ys ≡ Some line
end_differs line [] [] h z = absurd (h refl)
end_differs line (x ∷ xs) (y ∷ ys) h z = absurd (omega arith)
end_differs line _ _ h z = refl

pub differs_at_end : (line i : ℕ) (a b : List ℕ) → i ≤ length a → i ≤ length b → (length a ≡ length b → ⊥) → (length a ≤ i) ⊎ (length b ≤ i) → difference_from line (drop i a) (drop i b) ≡ Some line
differs_at_end line i a b wa wb h z = end_differs line (drop i a) (drop i b) (λ e. h (omega (arith, length-drop i a, length-drop i b, e))) (grind (arith, length-drop i a, length-drop i b, z))

-- what is told of two texts by where they first differ, if they do, and by the number of that line
abbrev Tells : List ℕ → List ℕ → ℕ → Option ℕ → Type 0
Tells a b line o = IfNone o (a ≡ b) × IfSome o (λ n. a ≢ b) × IfSome o (λ n. n ≡ line)

one_more : (m n x y : ℕ) (a b : List ℕ) (q : Bool) (o : Option ℕ) → eqb x y ≡ q → m ≡ cond (eqb x 10) (n + 1) n → Tells a b (feeds (common a b) + m) o → Tells (x ∷ a) (y ∷ b) (feeds (cond q (x ∷ common a b) []) + n) (cond q o (Some n))
one_more m n x y a b true None is from told = let head = eqb-true x y is in let tail : a ≡ b = told.0 in (cc, tt, tt)
one_more m n x y a b true (Some k) is from told = (tt, λ e. told.1 (cc), grind (arith, told.2, from))
one_more m n x y a b false o is from told = (tt, λ e. (let head : x ≡ y = cc in grind (arith, head, is, eq-eqb x y)), omega arith)

tells : (n : ℕ) (a b : List ℕ) → Tells a b (feeds (common a b) + n) (difference_from n a b)
tells n [] [] = (refl, tt, tt)
tells n [] (y ∷ b) = (tt, λ e. cc, omega arith)
tells n (x ∷ a) [] = (tt, λ e. cc, omega arith)
tells n (x ∷ a) (y ∷ b) = let m = cond (eqb x 10) (n + 1) n in one_more m n x y a b (eqb x y) (difference_from m a b) refl refl (tells m a b)

pub difference_told : (o : Option ℕ) (a b : List ℕ) → o ≡ difference_from 1 a b → Tells a b (line_of_difference a b) o
difference_told o a b e = subst (Tells a b (line_of_difference a b)) (sym e) (tells 1 a b)
