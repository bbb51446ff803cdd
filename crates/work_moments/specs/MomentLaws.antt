-- Laws of what clocks tell.
use Rattle.std.proofs.Common.{ℕ, ◌≡◌, ◌⊎◌, inl, inr, List, [], ◌∷◌, ◌++◌, Option, Some, None, refl, ap, sym, subst, ◌∙◌, append-nil, append_assoc}
use Rattle.work_moments.specs.Moments.{Telling, AllMay, Behind, Given}

-- nothing was given
behind_none : (a : Option (List ℕ)) → Behind a [] a
behind_none None = refl
behind_none (Some l) = inr (ap (λ (x : List ℕ). Some x) (sym (append-nil l)))

pub given_none : (t : Telling) → Given t [] t
given_none t = (refl, tt, behind_none t.gave)

-- what was given, and then more
behind_then : (a b c : Option (List ℕ)) (m n : List ℕ) → Behind a m b → Behind b n c → Behind a (m ++ n) c
behind_then None b c m n g h = subst (λ (o : Option (List ℕ)). Behind o n c) g h
behind_then (Some l) b c m n (inl g) h = inl (subst (λ (o : Option (List ℕ)). Behind o n c) g h)
behind_then (Some l) b c m n (inr g) h = by_last (subst (λ (o : Option (List ℕ)). Behind o n c) g h)
  where
    by_last : (c ≡ None) ⊎ (c ≡ Some ((l ++ m) ++ n)) → (c ≡ None) ⊎ (c ≡ Some (l ++ (m ++ n)))
    by_last (inl x) = inl x
    by_last (inr x) = inr (x ∙ ap (λ (y : List ℕ). Some y) (append_assoc l m n))

may_both : (may : Option (List ℕ)) (m n : List ℕ) → AllMay may m → AllMay may n → AllMay may (m ++ n)
may_both may [] n g h = h
may_both may (x ∷ m) n g h = (g.0, may_both may m n g.1 h)

pub given_then : (a b c : Telling) (m n : List ℕ) → Given a m b → Given b n c → Given a (m ++ n) c
given_then a b c m n g h = (
  h.0 ∙ g.0,
  may_both a.may m n g.1 (subst (λ (o : Option (List ℕ)). AllMay o n) g.0 h.1),
  behind_then a.gave b.gave c.gave m n g.2 h.2,
)
