-- Lists with the same elements.
use Rattle.std.proofs.Common.{ℕ, ◌+◌, ◌≡◌, List, [], ◌∷◌, ◌++◌, refl, sym, ◌∙◌, arith}
use Rattle.std.specs.List.{sum_by, flat_map}
use Rattle.std.proofs.lemmas.List.Sums.{sum_by-cons, sum_by-append}
use Rattle.codec_accounts.specs.Bags.{SameBag}

pub weigh_append : {X : Type 0} (t : X → ℕ) (a b : List X) → sum_by t (a ++ b) ≡ sum_by t a + sum_by t b
weigh_append t a b = sum_by-append t a b

pub sum_flat_map : {X Y : Type 0} (t : Y → ℕ) (f : X → List Y) (xs : List X) → sum_by t (flat_map f xs) ≡ sum_by (λ x. sum_by t (f x)) xs
sum_flat_map t f [] = refl
sum_flat_map t f (x ∷ xs) =
    let a = weigh_append t (f x) (flat_map f xs) in
    let b = sum_flat_map t f xs in
    let c = sum_by-cons (λ y. sum_by t (f y)) x xs in
    omega (arith, a, b, c)

-- what the same elements call for is the same
pub same_flat_map : {X Y : Type 0} (f : X → List Y) (xs ys : List X) → SameBag xs ys → SameBag (flat_map f xs) (flat_map f ys)
same_flat_map f xs ys h t = sum_flat_map t f xs ∙ (h (λ x. sum_by t (f x)) ∙ sym (sum_flat_map t f ys))

pub same_refl : {X : Type 0} (a : List X) → SameBag a a
same_refl a t = refl

pub same_trans : {X : Type 0} (a b c : List X) → SameBag a b → SameBag b c → SameBag a c
same_trans a b c h k t = h t ∙ k t

pub same_append : {X : Type 0} (a b c d : List X) → SameBag a b → SameBag c d → SameBag (a ++ c) (b ++ d)
same_append a b c d h k t =
    let l = weigh_append t a c in
    let r = weigh_append t b d in
    let e = h t in
    let f = k t in
    omega (arith, l, r, e, f)
