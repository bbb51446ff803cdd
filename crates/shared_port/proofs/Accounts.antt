-- The account of a port, once one pass has all parts.
use Rattle.std.proofs.Common.{◌≡◌, ℕ, suc, ◌+◌, List, [], ◌∷◌, ◌++◌, length, refl, ap, arith}
use Rattle.std.specs.List.{sum_by}
use Rattle.std.proofs.lemmas.List.Sums.{sum_by-cons}
use Rattle.codec_accounts.specs.Bags.{SameBag}
use Rattle.codec_accounts.specs.BagsLaws.{weigh_append}
use Rattle.shared_port.specs.Accounts.{LastPassesAccount}
use Rattle.shared_port.specs.Views.{placed_from}

-- a line in two parts
weigh_parts : {X : Type 0} (t : ℕ × X → ℕ) (k : ℕ) (a b : List X) → sum_by t (placed_from k (a ++ b)) ≡ sum_by t (placed_from k a) + sum_by t (placed_from (k + length a) b)
weigh_parts t k [] b =
    let n : k ≡ k + 0 = omega arith in
    let d : sum_by t (placed_from k b) ≡ sum_by t (placed_from (k + 0) b) = ap (λ (m : ℕ). sum_by t (placed_from m b)) n in
    omega (arith, d)
weigh_parts t k (x ∷ xs) b =
    let p = sum_by-cons t (k, x) (placed_from (suc k) (xs ++ b)) in
    let q = sum_by-cons t (k, x) (placed_from (suc k) xs) in
    let r = weigh_parts t (suc k) xs b in
    let n : suc k + length xs ≡ k + length (x ∷ xs) = omega arith in
    let d : sum_by t (placed_from (suc k + length xs) b) ≡ sum_by t (placed_from (k + length (x ∷ xs)) b) = ap (λ (m : ℕ). sum_by t (placed_from m b)) n in
    omega (arith, p, q, r, d)

none_more : {X : Type 0} (a b c : List X) → b ≡ [] → SameBag (a ++ b) c → SameBag a c
none_more a b c is h t =
    let l = weigh_append t a b in
    let e : sum_by t b ≡ sum_by t [] = ap (sum_by t) is in
    let s = h t in
    let z : sum_by t [] ≡ 0 = refl in
    omega (arith, l, e, s, z)

pub accounts : (M : Type 0) → LastPassesAccount M
accounts M v got left s all =
    let posted = none_more v.posted s.others_posted (placed_from 0 (got ++ left)) (s.alone all).0 s.posts in
    let received = none_more v.received s.others_received (placed_from 0 got) (s.alone all).1 s.receipts in
    record {
      posted = posted;
      received = received;
      balanced = λ t.
          let a = posted t in
          let b = received t in
          let c = weigh_parts t 0 got left in
          let d = weigh_append t v.received (placed_from (length got) left) in
          let n : 0 + length got ≡ length got = omega arith in
          let e : sum_by t (placed_from (0 + length got) left) ≡ sum_by t (placed_from (length got) left) = ap (λ (m : ℕ). sum_by t (placed_from m left)) n in
          omega (arith, a, b, c, d, e);
      known = s.known;
    }
