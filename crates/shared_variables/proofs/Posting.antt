-- What variables hold as media go into ports and come out of them.
use Rattle.std.proofs.Common.{ℕ, zero, suc, ◌≡◌, ◌<◌, ◌≤◌, inl, inr, List, [], ◌∷◌, length, Option, Some, None, refl, ap, sym, subst, ◌∙◌, arith}
use Rattle.std.specs.Prelude.{IfSome, IfOk, OnOk, OnErr, Result, Ok, Err, option_map}
use Rattle.std.proofs.lemmas.Bool.{cases_eq}
use Rattle.atomic_table.specs.Seated.{TableId}
use Rattle.wc_base.specs.declared.error.NoMemory.{NoMemory}
use Rattle.wc_base.specs.declared.who.Who.{Who}
use Rattle.wc_pool.specs.declared.reference.MediaRef.{MediaRef}
use Rattle.report_text.specs.declared.result.StepResult.{StepResult}
use Rattle.shared_pool.specs.Refs.{IsPoolRef}
use Rattle.shared_port.specs.declared.rule.PortView.{PortView}
use Rattle.shared_port.specs.Steps.{Receives}
use Rattle.media_variables.specs.Given.{transferred, transferred_at}
use Rattle.media_variables.specs.Held.{WholeMedium, AreOf, seen, seen_in, whole_held, without_reference}
use Rattle.media_variables.specs.Variables.{Medium, Reference, changed_at, detached, if_there, medium_at, post_came, post_held, with_medium, without}
use Rattle.shared_variables.specs.Ports.{HasReceived, IsParcelOf, WholeParcel, whole_posted}

seen_without : (j : ℕ) (vs : List (Option WholeMedium)) → seen_in (changed_at without_reference j vs) ≡ without j (seen_in vs)
seen_without j [] = refl
seen_without zero (None ∷ vs) = refl
seen_without zero (Some m ∷ vs) = refl
seen_without (suc j) (v ∷ vs) = ap (λ (l : List (Option Medium)). option_map seen v ∷ l) (seen_without j vs)

-- nothing changes where nothing is held
without_same : (vs : List (Option Medium)) (j : ℕ) → option_map detached (medium_at vs j) ≡ medium_at vs j → without j vs ≡ vs
without_same [] j h = refl
without_same (w ∷ vs) zero h = ap (λ (x : Option Medium). x ∷ vs) h
without_same (w ∷ vs) (suc j) h = ap (λ (l : List (Option Medium)). w ∷ l) (without_same vs j h)

-- ---- a post

held_went : (of : ℕ) (vs : List (Option Medium)) (m : Medium) → medium_at vs of ≡ Some m → without of vs ≡ (post_held of m.held vs).variables
held_went of vs m there = by m.held refl
  where
    by : (o : Option Reference) → m.held ≡ o → without of vs ≡ (post_held of o vs).variables
    by None none = without_same vs of (ap (option_map detached) there ∙ (ap (λ x. Some (record { shape = m.shape; held = x })) (sym none) ∙ sym there))
    by (Some r) is = refl

post_went : (of : ℕ) (vs : List (Option Medium)) (v : Option Medium) → medium_at vs of ≡ v → without of vs ≡ (if_there v vs (λ m. post_held of m.held vs)).variables
post_went of vs None there = without_same vs of (ap (option_map detached) there ∙ sym there)
post_went of vs (Some m) there = held_went of vs m there

-- and what the variables hold then
pub posted_variables : (of : ℕ) (vs after : List (Option WholeMedium)) → after ≡ changed_at without_reference of vs → seen_in after ≡ (post_came of (seen_in vs)).variables
posted_variables of vs after is = ap seen_in is ∙ (seen_without of vs ∙ post_went of (seen_in vs) (medium_at (seen_in vs) of) refl)

-- ---- what is given to the port

held_given : (v : Option WholeMedium) (m : WholeMedium) → (transferred_at v).medium ≡ Some m → v ≡ Some m
held_given None m gave = absurd cc
held_given (Some w) m gave = by w.held gave
  where
    by : (o : Option MediaRef) → (transferred w o).medium ≡ Some m → Some w ≡ Some m
    by None gave = absurd cc
    by (Some r) gave = gave

-- the medium was the variable's
pub given_there : (vs : List (Option WholeMedium)) (of : ℕ) (m : WholeMedium) → whole_posted vs of ≡ Some m → medium_at vs of ≡ Some m
given_there vs of m gave = held_given (medium_at vs of) m gave

-- and its reference is of the pool
pub given_of : (pool : TableId) (vs : List (Option WholeMedium)) (of : ℕ) (m : WholeMedium) → AreOf (IsPoolRef pool) vs → whole_posted vs of ≡ Some m → IfSome m.held (IsPoolRef pool)
given_of pool vs of m held gave = subst (λ (v : Option WholeMedium). IfSome (whole_held v) (IsPoolRef pool)) (given_there vs of m gave) (held.each of)

-- its variable is there
pub there_within : (vs : List (Option WholeMedium)) (of : ℕ) (m : WholeMedium) → medium_at vs of ≡ Some m → of < length (changed_at without_reference of vs)
there_within [] of m there = absurd cc
there_within (v ∷ vs) zero m there = omega arith
there_within (v ∷ vs) (suc of) m there = omega (arith, there_within vs of m there)

-- put back, it is as it was
pub back_again : (vs : List (Option WholeMedium)) (of : ℕ) (m : WholeMedium) → medium_at vs of ≡ Some m → with_medium of m (changed_at without_reference of vs) ≡ vs
back_again [] of m there = absurd cc
back_again (v ∷ vs) zero m there = ap (λ (x : Option WholeMedium). x ∷ vs) (sym there)
back_again (v ∷ vs) (suc of) m there = ap (λ (l : List (Option WholeMedium)). v ∷ l) (back_again vs of m there)

-- ---- of one pool

medium_here : (j : ℕ) (m : WholeMedium) (vs : List (Option WholeMedium)) → medium_at (with_medium j m vs) j ≡ Some m
medium_here zero m [] = refl
medium_here zero m (v ∷ vs) = refl
medium_here (suc j) m [] = medium_here j m []
medium_here (suc j) m (v ∷ vs) = medium_here j m vs

medium_else : (j : ℕ) (m : WholeMedium) (vs : List (Option WholeMedium)) (i : ℕ) → (i ≡ j → ⊥) → medium_at (with_medium j m vs) i ≡ medium_at vs i
medium_else zero m [] zero apart = absurd (apart refl)
medium_else zero m [] (suc i) apart = refl
medium_else zero m (v ∷ vs) zero apart = absurd (apart refl)
medium_else zero m (v ∷ vs) (suc i) apart = refl
medium_else (suc j) m [] zero apart = refl
medium_else (suc j) m [] (suc i) apart = medium_else j m [] i (λ e. apart (ap suc e))
medium_else (suc j) m (v ∷ vs) zero apart = refl
medium_else (suc j) m (v ∷ vs) (suc i) apart = medium_else j m vs i (λ e. apart (ap suc e))

changed_here : (j : ℕ) (vs : List (Option WholeMedium)) → medium_at (changed_at without_reference j vs) j ≡ option_map without_reference (medium_at vs j)
changed_here j [] = refl
changed_here zero (v ∷ vs) = refl
changed_here (suc j) (v ∷ vs) = changed_here j vs

changed_else : (j : ℕ) (vs : List (Option WholeMedium)) (i : ℕ) → (i ≡ j → ⊥) → medium_at (changed_at without_reference j vs) i ≡ medium_at vs i
changed_else j [] i apart = refl
changed_else zero (v ∷ vs) zero apart = absurd (apart refl)
changed_else zero (v ∷ vs) (suc i) apart = refl
changed_else (suc j) (v ∷ vs) zero apart = refl
changed_else (suc j) (v ∷ vs) (suc i) apart = changed_else j vs i (λ e. apart (ap suc e))

module _ (is_of : MediaRef → Type 0) where
  abbrev HeldOf : Option WholeMedium → Type 0
  HeldOf v = IfSome (whole_held v) is_of

  detached_of : (v : Option WholeMedium) → HeldOf (option_map without_reference v)
  detached_of None = tt
  detached_of (Some m) = tt

  -- one variable is detached
  pub without_of : (j : ℕ) (vs after : List (Option WholeMedium)) → after ≡ changed_at without_reference j vs → AreOf is_of vs → AreOf is_of after
  without_of j vs after is h = subst (AreOf is_of) (sym is) (record {
    each = λ i. elim (cases_eq i j) [
      | inl same ↦ subst (λ (n : ℕ). HeldOf (medium_at (changed_at without_reference j vs) n)) (sym same) (subst HeldOf (sym (changed_here j vs)) (detached_of (medium_at vs j)))
      | inr other ↦ subst HeldOf (sym (changed_else j vs i other)) (h.each i)
    ];
  })

  -- one variable holds a medium of the pool
  pub with_of : (j : ℕ) (m : WholeMedium) (vs : List (Option WholeMedium)) → IfSome m.held is_of → AreOf is_of vs → AreOf is_of (with_medium j m vs)
  with_of j m vs own h = record {
    each = λ i. elim (cases_eq i j) [
      | inl same ↦ subst (λ (n : ℕ). HeldOf (medium_at (with_medium j m vs) n)) (sym same) (subst HeldOf (sym (medium_here j m vs)) own)
      | inr other ↦ subst HeldOf (sym (medium_else j m vs i other)) (h.each i)
    ];
  }

-- ---- a receive

not_some : {X : Type 0} (o : Option X) → ((x : X) → o ≡ Some x → ⊥) → o ≡ None
not_some None none = refl
not_some (Some x) none = absurd (none x refl)

-- where a post gives nothing
pub none_given : (vs : List (Option WholeMedium)) (of : ℕ) (o : Option WholeMedium) → o ≡ whole_posted vs of → ((m : WholeMedium) → o ≡ Some m → ⊥) → whole_posted vs of ≡ None
none_given vs of o is none = sym is ∙ not_some o none

module _ (who : Who) (x : Who × WholeParcel) (m : WholeMedium) (vs room after : List (Option WholeMedium)) (m_is : m ≡ x.1.medium) (room_is : room ≡ vs) where
  -- what was received went into the step's variable
  pub got_received : (v w : PortView WholeParcel) (early late : ℕ) (r : Result StepResult NoMemory) → Receives IsParcelOf x v w → (early ≤ late) × (x.1.time < late) → IfOk r (λ a. a ≡ StepResult.From x.0) → OnOk r (after ≡ with_medium who.step m room) → IfOk r (HasReceived who vs after v w early late)
  got_received v w early late (Ok a) receives later answer put = record { received = Some x; told = receives; later = later; taken = (answer, put ∙ (λ i. with_medium who.step (m_is i) (room_is i))) }
  got_received v w early late (Err e) receives later answer put = tt

  -- or, for want of memory, nothing did
  pub got_same : (r : Result StepResult NoMemory) → OnErr r (after ≡ room) → OnErr r (after ≡ vs)
  got_same (Ok a) same = tt
  got_same (Err e) same = same ∙ room_is

  pub got_held : (pool : TableId) (r : Result StepResult NoMemory) → IfSome x.1.medium.held (IsPoolRef pool) → AreOf (IsPoolRef pool) vs → OnOk r (after ≡ with_medium who.step m room) → OnErr r (after ≡ room) → AreOf (IsPoolRef pool) after
  got_held pool (Ok a) own held put same = subst (AreOf (IsPoolRef pool)) (sym (put ∙ (λ i. with_medium who.step (m_is i) (room_is i)))) (with_of (IsPoolRef pool) who.step x.1.medium vs own held)
  got_held pool (Err e) own held put same = subst (AreOf (IsPoolRef pool)) (sym (same ∙ room_is)) held
