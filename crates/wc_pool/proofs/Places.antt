-- The resources that a pool keeps stay in step with its history.
use Rattle.std.proofs.Common.{ℕ, ◌<◌, ◌≡◌, ◌≢◌, true, List, Option, Some, None, ap, sym, subst, ◌∙◌, arith, inl, inr}
use Rattle.std.proofs.lemmas.Bool.{cases_eq}
use Rattle.slab.specs.Slab.{Slab, get, Updates}
use Rattle.wc_pool.specs.declared.entry.PoolEntry.{PoolEntry}
use Rattle.wc_pool.specs.declared.pool.Resource.{Resource}
use Rattle.wc_pool.specs.Bag.{references_of, is_legal_pool}
use Rattle.wc_pool.specs.Shared.{KeyOf, IsKept}
use Rattle.wc_pool.proofs.Steps.{AreNumbered}

-- what a key has of a resource after a change
abbrev pub FitsSlot : Option Resource → ℕ → List PoolEntry → Type 0
FitsSlot None r new = references_of r new ≡ 0
FitsSlot (Some x) r new = (x.number ≡ r) × (x.count ≡ references_of r new) × (0 < x.count)

-- the history went on, and the key of the resource changes so
pub record Moves (s : Slab Resource) (h new : List PoolEntry) (k r : ℕ) (slot : Option Resource) : Type 0 where
  pub others : (q : ℕ) → q ≢ r → references_of q new ≡ references_of q h
  pub numbered : AreNumbered new
  pub legal : is_legal_pool new ≡ true
  pub was : (y : Resource) → get s k ≡ Some y → y.number ≡ r
  pub only : (j : ℕ) (y : Resource) → get s j ≡ Some y → y.number ≡ r → j ≡ k
  pub fits : FitsSlot slot r new

slot_is : (slot : Option Resource) (r : ℕ) (new : List PoolEntry) (x : Resource) → FitsSlot slot r new → slot ≡ Some x → (x.number ≡ r) × (x.count ≡ references_of r new) × (0 < x.count)
slot_is slot r new x fits is = let P : Option Resource → Type 0 = λ o. FitsSlot o r new in subst P is fits

slot_there : (slot : Option Resource) (r : ℕ) (new : List PoolEntry) (s : Slab Resource) (k : ℕ) → FitsSlot slot r new → 0 < references_of r new → get s k ≡ slot → KeyOf s r
slot_there None r new s k fits some at = absurd (omega arith)
slot_there (Some x) r new s k fits some at = record { key = k; kept = x; there = at; same = fits.0 }

pub moves_keep : (s t : Slab Resource) (h new : List PoolEntry) (k r : ℕ) (slot : Option Resource) → IsKept s h → Moves s h new k r slot → Updates s t k slot → IsKept t new
moves_keep s t h new k r slot kept m updates = record {
  references = m.numbered.references;
  resources = m.numbered.resources;
  counts = λ j x at. elim (cases_eq j k) [
    | inl same ↦ (let fits = slot_is slot r new x m.fits (sym updates.changed ∙ ap (get t) (sym same) ∙ at) in fits.1 ∙ ap (λ (q : ℕ). references_of q new) (sym fits.0))
    | inr apart ↦ (let was = sym (updates.others j apart) ∙ at in kept.counts j x was ∙ sym (m.others x.number (λ e. apart (m.only j x was e))))
  ];
  some = λ j x at. elim (cases_eq j k) [
    | inl same ↦ (slot_is slot r new x m.fits (sym updates.changed ∙ ap (get t) (sym same) ∙ at)).2
    | inr apart ↦ kept.some j x (sym (updates.others j apart) ∙ at)
  ];
  once = λ i j x y left right equal. elim (cases_eq i k) [
    | inl first ↦ elim (cases_eq j k) [
      | inl second ↦ first ∙ sym second
      | inr apart ↦
          let fits = slot_is slot r new x m.fits (sym updates.changed ∙ ap (get t) (sym first) ∙ left) in
          absurd (apart (m.only j y (sym (updates.others j apart) ∙ right) (sym equal ∙ fits.0)))
    ]
    | inr apart ↦ elim (cases_eq j k) [
      | inl second ↦
          let fits = slot_is slot r new y m.fits (sym updates.changed ∙ ap (get t) (sym second) ∙ right) in
          absurd (apart (m.only i x (sym (updates.others i apart) ∙ left) (equal ∙ fits.0)))
      | inr other ↦ kept.once i j x y (sym (updates.others i apart) ∙ left) (sym (updates.others j other) ∙ right) equal
    ]
  ];
  found = λ q some. elim (cases_eq q r) [
    | inl same ↦
        let P : ℕ → Type 0 = λ n. KeyOf t n in
        let N : ℕ → Type 0 = λ n. 0 < references_of n new in
        subst P (sym same) (slot_there slot r new t k m.fits (subst N same some) updates.changed)
    | inr apart ↦
        let N : ℕ → Type 0 = λ n. 0 < n in
        let old = kept.found q (subst N (m.others q apart) some) in
        record {
          key = old.key;
          kept = old.kept;
          there = updates.others old.key (λ e. apart (sym old.same ∙ m.was old.kept (ap (get s) (sym e) ∙ old.there))) ∙ old.there;
          same = old.same;
        }
  ];
  legal = m.legal;
}
