-- The number beside each passage is among those of a seat.
use Rattle.std.proofs.Common.{◌≡◌, ℕ, inl, inr, List, [], ◌∷◌, ◌++◌, set, sym, refl, ap, ◌∙◌, subst, ⊎_elim}
use mathlib.Core.Logic.{dite}
use mathlib.Core.Option.{some, some-injective}
use native.Mathlib.Decide.{ℕ_discrete}
use lib.ListN.{get_elem?}
use Rattle.atomic_table.proofs.Lists.{set_here, set_else, at_longer}
use Rattle.seat_lock.proofs.Logs.{inside}
use Rattle.seat_lock.proofs.Unions.{owner_after, owner_after_else, owner_after_other}
use Rattle.seat_lock.specs.Logs.{AllBy, Has}
use Rattle.seat_lock.specs.Rule.{HasAuthors, HasNumber}
use Rattle.wc_base.specs.Views.{Log}
use Rattle.wc_base.specs.declared.seat.Passage.{Passage}
use Rattle.wc_base.specs.declared.seat.View.{View}

module _ (E : Type 0) where
  abbrev W : Type 0
  W = View E

  same_at : (vs : List W) (i j : ℕ) (v w : W) → get_elem? vs i ≡ some v → get_elem? vs j ≡ some w → i ≡ j → v ≡ w
  same_at vs i j v w a b e = some-injective v w (sym a ∙ ap (get_elem? vs) e ∙ b)

  own_set : (vs : List W) (id j n : ℕ) (v w : W) → get_elem? vs id ≡ some v → (Has n v.numbers → Has n w.numbers) → HasNumber j n vs → HasNumber j n (set vs id w)
  own_set vs id j n v w at more o = dite (ℕ_discrete j id)
      (λ e. record { view = w; at = ap (get_elem? (set vs id w)) e ∙ set_here vs id w (inside vs id v at); has = more (subst (λ (x : W). Has n x.numbers) (same_at vs j id o.view v o.at at e) o.has) })
      (λ d. record { view = o.view; at = set_else vs id j w d ∙ o.at; has = o.has })

  pub covers_set : (owner : ℕ → ℕ) (vs : List W) (id : ℕ) (v w : W) (log : Log E) → get_elem? vs id ≡ some v → ((n : ℕ) → Has n v.numbers → Has n w.numbers) → HasAuthors owner vs log → HasAuthors owner (set vs id w) log
  covers_set owner vs id v w [] at more c = tt
  covers_set owner vs id v w (p ∷ ps) at more c = (own_set vs id (owner p.0) p.0 v w at (more p.0) c.0, covers_set owner vs id v w ps at more c.1)

  pub covers_longer : (owner : ℕ → ℕ) (vs : List W) (w : W) (log : Log E) → HasAuthors owner vs log → HasAuthors owner (vs ++ w ∷ []) log
  covers_longer owner vs w [] c = tt
  covers_longer owner vs w (p ∷ ps) c = (record { view = c.0.view; at = at_longer vs (w ∷ []) (owner p.0) c.0.view c.0.at; has = c.0.has }, covers_longer owner vs w ps c.1)

  pub covers_snoc : (owner : ℕ → ℕ) (vs : List W) (log : Log E) (n : ℕ) (p : Passage E) → HasAuthors owner vs log → HasNumber (owner n) n vs → HasAuthors owner vs (log ++ (n, p) ∷ [])
  covers_snoc owner vs [] n p c o = (o, tt)
  covers_snoc owner vs (x ∷ xs) n p c o = (c.0, covers_snoc owner vs xs n p c.1 o)

  leave_ends : (n : ℕ) (a b : List ℕ) → Has n a → Has n (a ++ b)
  leave_ends n [] b h = absurd h
  leave_ends n (x ∷ xs) b h = ⊎_elim (λ e. inl e) (λ i. inr (leave_ends n xs b i)) h

  has_right : (n : ℕ) (a b : List ℕ) → Has n b → Has n (a ++ b)
  has_right n [] b h = h
  has_right n (x ∷ xs) b h = inr (has_right n xs b h)

  pub has_front : (n : ℕ) (a b : List ℕ) → Has n a → Has n (a ++ b)
  has_front = leave_ends

  -- a union has the numbers of both seats, so the authors stay
  pub covers_join : (owner : ℕ → ℕ) (vs : List W) (id other : ℕ) (v u both spent : W) (log : Log E) → get_elem? vs id ≡ some v → get_elem? vs other ≡ some u → ¬ (other ≡ id) → both.numbers ≡ v.numbers ++ u.numbers → HasAuthors owner vs log
      → HasAuthors (owner_after owner other id) (set (set vs id both) other spent) log
  covers_join owner vs id other v u both spent [] at there apart is c = tt
  covers_join owner vs id other v u both spent (p ∷ ps) at there apart is c =
      let rest = covers_join owner vs id other v u both spent ps at there apart is c.1 in
      let o = c.0 in
      let vs' : List W = set (set vs id both) other spent in
      let here : get_elem? vs' id ≡ some both = set_else (set vs id both) other id spent (λ e. apart (sym e)) ∙ set_here vs id both (inside vs id v at) in
      let mine : Has p.0 both.numbers → owner_after owner other id p.0 ≡ id → HasNumber (owner_after owner other id p.0) p.0 vs' = (λ h e. record { view = both; at = ap (get_elem? vs') e ∙ here; has = h }) in (
        dite (ℕ_discrete (owner p.0) other)
            (λ e. mine (subst (λ (ns : List ℕ). Has p.0 ns) (sym is) (has_right p.0 v.numbers u.numbers (subst (λ (x : W). Has p.0 x.numbers) (same_at vs (owner p.0) other o.view u o.at there e) o.has))) (owner_after_other owner other id p.0 e))
            (λ n. dite (ℕ_discrete (owner p.0) id)
            (λ e. mine (subst (λ (ns : List ℕ). Has p.0 ns) (sym is) (leave_ends p.0 v.numbers u.numbers (subst (λ (x : W). Has p.0 x.numbers) (same_at vs (owner p.0) id o.view v o.at at e) o.has))) (owner_after_else owner other id p.0 id e (λ f. apart (sym f))))
            (λ m. record { view = o.view; at = ap (get_elem? vs') (owner_after_else owner other id p.0 (owner p.0) refl n) ∙ (set_else (set vs id both) other (owner p.0) spent n ∙ (set_else vs id (owner p.0) both m ∙ o.at)); has = o.has })),
        rest,
      )

  pub all_of : (owner : ℕ → ℕ) (vs : List W) (numbers : List ℕ) (log : Log E) → ((j : ℕ) (w : W) (n : ℕ) → get_elem? vs j ≡ some w → Has n w.numbers → Has n numbers) → HasAuthors owner vs log → AllBy numbers log
  all_of owner vs numbers [] f c = tt
  all_of owner vs numbers (p ∷ ps) f c = (f (owner p.0) c.0.view p.0 c.0.at c.0.has, all_of owner vs numbers ps f c.1)
