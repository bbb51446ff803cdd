-- One more entry in a pool's history.
use Rattle.std.proofs.Common.{ℕ, suc, ◌+◌, ◌<◌, ◌≤◌, ◌≡◌, ◌≢◌, ◌==◌, Bool, true, false, cond, not, List, [], ◌∷◌, ◌++◌, Option, Some, None, is_some, refl, ap, sym, subst, ◌∙◌, arith, inl, inr, append_assoc, append-nil, eq-eqb}
use Rattle.std.proofs.lemmas.Bool.{and_parts, and_from, eqb-true, false_from_ne_true, cases_eq}
use Rattle.std.proofs.lemmas.List.Sums.{fold_push, sum_by_push}
use Rattle.wc_base.specs.declared.who.By.{By}
use Rattle.wc_pool.specs.declared.entry.PoolEntry.{PoolEntry}
use Rattle.wc_pool.specs.declared.entry.PoolOp.TheVariants as op
use Rattle.wc_pool.specs.Bag.{resource_after, resource_of, is_number, is_live, makes, mints, resources_made, references_made, count_below, references_of, is_held, held_in, live_in, is_legal_next, is_legal_from, is_legal_pool}
use Rattle.wc_pool.proofs.Counts.{one_if, count_same, count_less, count_some, count_none, count_more}

pub resource_more : (f : ℕ) (h : List PoolEntry) (e : PoolEntry) → resource_of f (h ++ e ∷ []) ≡ resource_after f (resource_of f h) e
resource_more f h e = fold_push (resource_after f) None h e

pub minted_more : (h : List PoolEntry) (e : PoolEntry) → references_made (h ++ e ∷ []) ≡ references_made h + one_if (mints e)
minted_more h e = sum_by_push (λ x. one_if (mints x)) h e

pub makes_more : (h : List PoolEntry) (e : PoolEntry) → resources_made (h ++ e ∷ []) ≡ resources_made h + one_if (makes e)
makes_more h e = sum_by_push (λ x. one_if (makes x)) h e

legal_from_more : (before h : List PoolEntry) (e : PoolEntry) → is_legal_from before h ≡ true → is_legal_next (before ++ h) e ≡ true → is_legal_from before (h ++ e ∷ []) ≡ true
legal_from_more before [] e legal next =
    let P : List PoolEntry → Type 0 = λ l. is_legal_next l e ≡ true in
    and_from (is_legal_next before e) true (subst P (append-nil before) next) refl
legal_from_more before (x ∷ rest) e legal next =
    let parts = and_parts (is_legal_next before x) (is_legal_from (before ++ x ∷ []) rest) legal in
    let P : List PoolEntry → Type 0 = λ l. is_legal_next l e ≡ true in
    let later = subst P (sym (append_assoc before (x ∷ []) rest)) next in
    and_from (is_legal_next before x) (is_legal_from (before ++ x ∷ []) (rest ++ e ∷ [])) parts.0 (legal_from_more (before ++ x ∷ []) rest e parts.1 later)

-- a legal history with a legal entry after it
pub legal_more : (h : List PoolEntry) (e : PoolEntry) → is_legal_pool h ≡ true → is_legal_next h e ≡ true → is_legal_pool (h ++ e ∷ []) ≡ true
legal_more h e legal next = legal_from_more [] h e legal next

-- the live references are below the number of those that were made
pub record AreNumbered (h : List PoolEntry) : Type 0 where
  pub references : (f r : ℕ) → resource_of f h ≡ Some r → f < references_made h
  pub resources : (f r : ℕ) → resource_of f h ≡ Some r → r < resources_made h

-- a reference to a resource is made
pub record Mints (h new : List PoolEntry) (r f : ℕ) : Type 0 where
  pub next : f ≡ references_made h
  pub more : references_made new ≡ suc (references_made h)
  pub after : (g : ℕ) → resource_of g new ≡ cond (f == g) (Some r) (resource_of g h)

-- a reference to a resource ends
pub record Ends (h new : List PoolEntry) (r f : ℕ) : Type 0 where
  pub was : resource_of f h ≡ Some r
  pub made : f < references_made h
  pub same : references_made new ≡ references_made h
  pub after : (g : ℕ) → resource_of g new ≡ cond (f == g) None (resource_of g h)

pub apart_eqb : (a b : ℕ) → a ≢ b → (a == b) ≡ false
apart_eqb a b apart = false_from_ne_true (a == b) (λ same. apart (eqb-true a b same))

pub same_eqb : (a : ℕ) → (a == a) ≡ true
same_eqb a = eq-eqb a a refl

-- what a mint makes of one reference
pub minted_here : (h new : List PoolEntry) (r f : ℕ) → Mints h new r f → resource_of f new ≡ Some r
minted_here h new r f m = m.after f ∙ ap (λ (b : Bool). cond b (Some r) (resource_of f h)) (same_eqb f)

pub minted_else : (h new : List PoolEntry) (r f g : ℕ) → Mints h new r f → g ≢ f → resource_of g new ≡ resource_of g h
minted_else h new r f g m apart = m.after g ∙ ap (λ (b : Bool). cond b (Some r) (resource_of g h)) (apart_eqb f g (λ e. apart (sym e)))

pub ended_here : (h new : List PoolEntry) (r f : ℕ) → Ends h new r f → resource_of f new ≡ None
ended_here h new r f m = m.after f ∙ ap (λ (b : Bool). cond b None (resource_of f h)) (same_eqb f)

pub ended_else : (h new : List PoolEntry) (r f g : ℕ) → Ends h new r f → g ≢ f → resource_of g new ≡ resource_of g h
ended_else h new r f g m apart = m.after g ∙ ap (λ (b : Bool). cond b None (resource_of g h)) (apart_eqb f g (λ e. apart (sym e)))

-- a test of the references that are live, after a mint and after an end
count_minted : (t : Option ℕ → Bool) (h new : List PoolEntry) (r f : ℕ) → Mints h new r f → count_below (λ g. t (resource_of g new)) (references_made new) ≡ count_below (λ g. t (resource_of g h)) (references_made h) + one_if (t (Some r))
count_minted t h new r f m =
    let n = references_made h in
    let p : ℕ → Bool = λ g. t (resource_of g new) in
    let q : ℕ → Bool = λ g. t (resource_of g h) in
    let at : p n ≡ t (Some r) = ap p (sym m.next) ∙ ap t (minted_here h new r f m) in
    let whole : count_below p (references_made new) ≡ count_below p (suc n) = ap (count_below p) m.more in
    let step = count_more p n (t (Some r)) at in
    let rest = count_same p q n (λ g lt. ap t (minted_else h new r f g m (λ e. omega (arith, e, m.next)))) in
    whole ∙ step ∙ ap (λ k. k + one_if (t (Some r))) rest

count_ended : (t : Option ℕ → Bool) (h new : List PoolEntry) (r f : ℕ) → Ends h new r f → t (Some r) ≡ true → t None ≡ false → count_below (λ g. t (resource_of g new)) (references_made new) + 1 ≡ count_below (λ g. t (resource_of g h)) (references_made h)
count_ended t h new r f m holds none =
    let n = references_made h in
    let p : ℕ → Bool = λ g. t (resource_of g new) in
    let q : ℕ → Bool = λ g. t (resource_of g h) in
    let whole : count_below p (references_made new) ≡ count_below p n = ap (count_below p) m.same in
    ap (λ k. k + 1) whole ∙ count_less q p n f m.made (ap t m.was ∙ holds) (ap t (ended_here h new r f m) ∙ none) (λ g apart. ap t (sym (ended_else h new r f g m apart)))

count_kept : (t : Option ℕ → Bool) (h new : List PoolEntry) (r f : ℕ) → Ends h new r f → t (Some r) ≡ t None → count_below (λ g. t (resource_of g new)) (references_made new) ≡ count_below (λ g. t (resource_of g h)) (references_made h)
count_kept t h new r f m same =
    let n = references_made h in
    let p : ℕ → Bool = λ g. t (resource_of g new) in
    let q : ℕ → Bool = λ g. t (resource_of g h) in
    ap (count_below p) m.same ∙ count_same p q n (λ g lt. elim (cases_eq g f) [
      | inl here ↦ ap p here ∙ ap t (ended_here h new r f m) ∙ sym same ∙ ap t (sym m.was) ∙ ap q (sym here)
      | inr apart ↦ ap t (ended_else h new r f g m apart)
    ])

-- how many references a resource has then
pub mint_counts : (h new : List PoolEntry) (r f : ℕ) → Mints h new r f → references_of r new ≡ references_of r h + 1
mint_counts h new r f m = count_minted (λ o. is_number o r) h new r f m ∙ ap (λ (b : Bool). references_of r h + one_if b) (same_eqb r)

pub mint_keeps : (h new : List PoolEntry) (r f s : ℕ) → Mints h new r f → s ≢ r → references_of s new ≡ references_of s h
mint_keeps h new r f s m apart = count_minted (λ o. is_number o s) h new r f m ∙ (let e = ap one_if (apart_eqb r s (λ x. apart (sym x))) in omega (arith, e))

pub end_counts : (h new : List PoolEntry) (r f : ℕ) → Ends h new r f → references_of r new + 1 ≡ references_of r h
end_counts h new r f m = count_ended (λ o. is_number o r) h new r f m (same_eqb r) refl

pub end_keeps : (h new : List PoolEntry) (r f s : ℕ) → Ends h new r f → s ≢ r → references_of s new ≡ references_of s h
end_keeps h new r f s m apart = count_kept (λ o. is_number o s) h new r f m (apart_eqb r s (λ x. apart (sym x)))

-- how many are live
pub mint_live : (h new : List PoolEntry) (r f : ℕ) → Mints h new r f → live_in new ≡ live_in h + 1
mint_live h new r f m = count_minted is_some h new r f m

pub end_live : (h new : List PoolEntry) (r f : ℕ) → Ends h new r f → live_in new + 1 ≡ live_in h
end_live h new r f m = count_ended is_some h new r f m refl refl

-- a reference that is live has a resource that is held
pub live_held : (h : List PoolEntry) (r f : ℕ) → AreNumbered h → resource_of f h ≡ Some r → 0 < references_of r h
live_held h r f numbered live =
    count_some (λ g. is_live r g h) (references_made h) f (numbered.references f r live) (ap (λ (o : Option ℕ). is_number o r) live ∙ same_eqb r)

number_past : (o : Option ℕ) (r n : ℕ) → ((s : ℕ) → o ≡ Some s → s < n) → n ≤ r → is_number o r ≡ false
number_past None r n h past = refl
number_past (Some s) r n h past = let lt = h s refl in apart_eqb s r (λ e. omega arith)

-- a resource that is not made has none
pub none_held : (h : List PoolEntry) (r : ℕ) → AreNumbered h → resources_made h ≤ r → references_of r h ≡ 0
none_held h r numbered past =
    count_none (λ g. is_live r g h) (references_made h) (λ g lt. number_past (resource_of g h) r (resources_made h) (λ s e. numbered.resources g s e) past)

pub held_if : (h : List PoolEntry) (r : ℕ) → 0 < references_of r h → is_held r h ≡ true
held_if h r some = ap not (apart_eqb (references_of r h) 0 (λ e. omega arith))

pub not_held : (h : List PoolEntry) (r : ℕ) → references_of r h ≡ 0 → is_held r h ≡ false
not_held h r none = ap (λ n. not (n == 0)) none

pub mints_of_make : (h : List PoolEntry) (cause : By) (r f : ℕ) → f ≡ references_made h → Mints h (h ++ record { by = cause; op = op.Make r f } ∷ []) r f
mints_of_make h cause r f next = record {
  next = next;
  more = let m = minted_more h (record { by = cause; op = op.Make r f }) in omega (arith, m);
  after = λ g. resource_more g h (record { by = cause; op = op.Make r f });
}

pub mints_of_clone : (h : List PoolEntry) (cause : By) (r f : ℕ) → f ≡ references_made h → Mints h (h ++ record { by = cause; op = op.Clone r f } ∷ []) r f
mints_of_clone h cause r f next = record {
  next = next;
  more = let m = minted_more h (record { by = cause; op = op.Clone r f }) in omega (arith, m);
  after = λ g. resource_more g h (record { by = cause; op = op.Clone r f });
}

pub ends_of_end : (h : List PoolEntry) (cause : By) (r f : ℕ) (last : Bool) → AreNumbered h → resource_of f h ≡ Some r → Ends h (h ++ record { by = cause; op = op.End r f last } ∷ []) r f
ends_of_end h cause r f last numbered was = record {
  was = was;
  made = numbered.references f r was;
  same = let m = minted_more h (record { by = cause; op = op.End r f last }) in omega (arith, m);
  after = λ g. resource_more g h (record { by = cause; op = op.End r f last });
}

some_inj : (a b : ℕ) → Some a ≡ Some b → a ≡ b
some_inj a b e = cc

pub numbered_mint : (h new : List PoolEntry) (r f : ℕ) → AreNumbered h → Mints h new r f → resources_made h ≤ resources_made new → r < resources_made new → AreNumbered new
numbered_mint h new r f numbered m grows within = record {
  references = λ g s live. elim (cases_eq g f) [
    | inl same ↦ omega (arith, same, m.next, m.more)
    | inr apart ↦ (let lt = numbered.references g s (sym (minted_else h new r f g m apart) ∙ live) in omega (arith, lt, m.more))
  ];
  resources = λ g s live. elim (cases_eq g f) [
    | inl same ↦ (let e = some_inj s r (sym live ∙ ap (λ (k : ℕ). resource_of k new) same ∙ minted_here h new r f m) in omega (arith, e, within))
    | inr apart ↦ (let lt = numbered.resources g s (sym (minted_else h new r f g m apart) ∙ live) in omega (arith, lt, grows))
  ];
}

none_is_none : (o : Option ℕ) (s : ℕ) → o ≡ None → o ≡ Some s → ⊥
none_is_none o s a b = cc

pub numbered_end : (h new : List PoolEntry) (r f : ℕ) → AreNumbered h → Ends h new r f → resources_made new ≡ resources_made h → AreNumbered new
numbered_end h new r f numbered m stays = record {
  references = λ g s live. elim (cases_eq g f) [
    | inl same ↦ absurd (none_is_none (resource_of g new) s (ap (λ (k : ℕ). resource_of k new) same ∙ ended_here h new r f m) live)
    | inr apart ↦ (let lt = numbered.references g s (sym (ended_else h new r f g m apart) ∙ live) in omega (arith, lt, m.same))
  ];
  resources = λ g s live. elim (cases_eq g f) [
    | inl same ↦ absurd (none_is_none (resource_of g new) s (ap (λ (k : ℕ). resource_of k new) same ∙ ended_here h new r f m) live)
    | inr apart ↦ (let lt = numbered.resources g s (sym (ended_else h new r f g m apart) ∙ live) in omega (arith, lt, stays))
  ];
}

-- how many resources are held
pub held_make : (h new : List PoolEntry) (r f : ℕ) → AreNumbered h → Mints h new r f → r ≡ resources_made h → resources_made new ≡ resources_made h + 1 → held_in new ≡ held_in h + 1
held_make h new r f numbered m next more =
    let n = resources_made h in
    let p : ℕ → Bool = λ s. is_held s new in
    let q : ℕ → Bool = λ s. is_held s h in
    let some : 0 < references_of r new = omega (arith, mint_counts h new r f m) in
    let at : p n ≡ true = ap p (sym next) ∙ held_if new r some in
    let up : resources_made new ≡ suc n = omega (arith, more) in
    ap (count_below p) up ∙ count_more p n true at ∙ ap (λ k. k + 1) (count_same p q n (λ s lt. ap (λ k. not (k == 0)) (mint_keeps h new r f s m (λ e. omega (arith, e, next)))))

pub held_same : (h new : List PoolEntry) (r : ℕ) → ((s : ℕ) → s ≢ r → references_of s new ≡ references_of s h) → resources_made new ≡ resources_made h → is_held r new ≡ is_held r h → held_in new ≡ held_in h
held_same h new r others same here =
    let p : ℕ → Bool = λ s. is_held s new in
    let q : ℕ → Bool = λ s. is_held s h in
    ap (count_below p) same ∙ count_same p q (resources_made h) (λ s lt. elim (cases_eq s r) [
      | inl equal ↦ ap p equal ∙ here ∙ ap q (sym equal)
      | inr apart ↦ ap (λ k. not (k == 0)) (others s apart)
    ])

pub held_less : (h new : List PoolEntry) (r : ℕ) → ((s : ℕ) → s ≢ r → references_of s new ≡ references_of s h) → resources_made new ≡ resources_made h → r < resources_made h → is_held r h ≡ true → is_held r new ≡ false → held_in new + 1 ≡ held_in h
held_less h new r others same within was gone =
    let p : ℕ → Bool = λ s. is_held s h in
    let q : ℕ → Bool = λ s. is_held s new in
    ap (λ k. count_below q k + 1) same ∙ count_less p q (resources_made h) r within was gone (λ s apart. ap (λ k. not (k == 0)) (sym (others s apart)))
