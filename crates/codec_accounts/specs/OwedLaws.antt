-- What the entries of histories call for, as a history grows at its end.
use Rattle.std.proofs.Common.{ℕ, zero, suc, ◌+◌, ◌<◌, ◌≡◌, List, [], ◌∷◌, ◌++◌, length, refl, ap, sym, ◌∙◌, arith, append_assoc, append-nil}
use Rattle.std.specs.List.{sum_by}
use Rattle.codec_accounts.specs.Bags.{SameBag}
use Rattle.codec_accounts.specs.Owed.{state_on, owed, owed_from, due_next, at, append_at}
use Rattle.codec_accounts.specs.BagsLaws.{weigh_append}

pub state_append : {E S : Type 0} (after : E → S → S) (s : S) (xs ys : List E) → state_on after s (xs ++ ys) ≡ state_on after (state_on after s xs) ys
state_append after s [] ys = refl
state_append after s (x ∷ xs) ys = state_append after (after x s) xs ys

module _ {E S D : Type 0} (after : E → S → S) (due : ℕ → E → S → List D) where
  pub owed_append : (place n : ℕ) (s : S) (xs ys : List E) → n ≡ place + length xs → owed after due place s (xs ++ ys) ≡ owed after due place s xs ++ owed after due n (state_on after s xs) ys
  owed_append place n s [] ys h = let e : place ≡ n = omega (arith, h) in ap (λ (m : ℕ). owed after due m s ys) e
  owed_append place n s (x ∷ xs) ys h =
      ap (λ (l : List D). due place x s ++ l) (owed_append (suc place) n (after x s) xs ys (omega (arith, h)))
      ∙ sym (append_assoc (due place x s) (owed after due (suc place) (after x s) xs) (owed after due n (state_on after (after x s) xs) ys))

  -- one entry more
  pub owed_more : (s : S) (xs : List E) (e : E) → owed after due 0 s (xs ++ e ∷ []) ≡ owed after due 0 s xs ++ due (length xs) e (state_on after s xs)
  owed_more s xs e = owed_append 0 (length xs) s xs (e ∷ []) (omega arith) ∙ ap (λ (l : List D). owed after due 0 s xs ++ l) (append-nil (due (length xs) e (state_on after s xs)))

module _ {E S D : Type 0} (after : E → S → S) (due : ℕ → ℕ → E → S → List D) (opening : ℕ → S) where
  pub owed_next : (first k : ℕ) (e : E) (hs : List (List E)) → k < length hs → SameBag (owed_from after due opening first (append_at k e hs)) (owed_from after due opening first hs ++ due_next after due opening first k e hs)
  owed_next first k e [] lt t = absurd (omega (arith, lt))
  owed_next first zero e (h ∷ hs) lt t =
      let z : first + 0 ≡ first = omega arith in
      let d = due first (length h) e (state_on after (opening first) h) in
      let more = ap (λ (l : List D). sum_by t (l ++ owed_from after due opening (suc first) hs)) (owed_more after (due first) (opening first) h e) in
      let a = weigh_append t (owed after (due first) 0 (opening first) h ++ d) (owed_from after due opening (suc first) hs) in
      let b = weigh_append t (owed after (due first) 0 (opening first) h) d in
      let c = weigh_append t (owed after (due first) 0 (opening first) h) (owed_from after due opening (suc first) hs) in
      let f = weigh_append t (owed_from after due opening first (h ∷ hs)) (due (first + 0) (length h) e (state_on after (opening (first + 0)) h)) in
      let g = ap (λ (n : ℕ). sum_by t (due n (length h) e (state_on after (opening n) h))) z in
      omega (arith, more, a, b, c, f, g)
  owed_next first (suc k) e (h ∷ hs) lt t =
      let z : first + suc k ≡ suc first + k = omega arith in
      let rest = owed_next (suc first) k e hs (omega (arith, lt)) t in
      let a = weigh_append t (owed after (due first) 0 (opening first) h) (owed_from after due opening (suc first) (append_at k e hs)) in
      let b = weigh_append t (owed_from after due opening (suc first) hs) (due_next after due opening (suc first) k e hs) in
      let c = weigh_append t (owed after (due first) 0 (opening first) h) (owed_from after due opening (suc first) hs) in
      let f = weigh_append t (owed_from after due opening first (h ∷ hs)) (due_next after due opening first (suc k) e (h ∷ hs)) in
      let g = ap (λ (n : ℕ). sum_by t (due n (length (at k hs)) e (state_on after (opening n) (at k hs)))) z in
      omega (arith, rest, a, b, c, f, g)

  -- A step of a replay: the pool gets what the entry calls for, so it has what all entries call for.
  pub paid_next : (k : ℕ) (e : E) (hs : List (List E)) (pool more : List D) → k < length hs → SameBag pool (owed_from after due opening 0 hs) → SameBag more (due_next after due opening 0 k e hs) → SameBag (pool ++ more) (owed_from after due opening 0 (append_at k e hs))
  paid_next k e hs pool more lt paid due_is t =
      let n = owed_next 0 k e hs lt t in
      let a = weigh_append t pool more in
      let b = weigh_append t (owed_from after due opening 0 hs) (due_next after due opening 0 k e hs) in
      let p = paid t in
      let d = due_is t in
      omega (arith, n, a, b, p, d)
