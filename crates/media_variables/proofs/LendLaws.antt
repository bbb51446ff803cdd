-- References that codecs are lent, and let go: what stands of those that variables hold.
use Rattle.std.proofs.Common.{ℕ, zero, suc, ◌≡◌, ◌≢◌, ◌≤◌, ◌==◌, Bool, true, false, if◌then◌else◌, List, [], ◌∷◌, ◌++◌, length, Option, Some, None, Result, Ok, Err, IfOk, OnErr, refl, ap, sym, subst, ◌∙◌, append_assoc, append-nil, arith}
use Rattle.std.specs.Prelude.{slice_get, slice_set, IfSome}
use Rattle.std.proofs.lemmas.Bool.{and_parts, eqb-true, false_from_ne_true}
use Rattle.wc_base.specs.declared.who.By.{By}
use Rattle.wc_base.specs.declared.error.NoMemory.{NoMemory}
use Rattle.codec_model.specs.declared.entry.Pair.{Pair}
use Rattle.codec_model.specs.declared.entry.HeldMedium.{HeldMedium}
use Rattle.codec_model.specs.declared.entry.Handed.TheVariants as handed
use Rattle.wc_pool.specs.declared.entry.PoolEntry.{PoolEntry}
use Rattle.wc_pool.specs.declared.entry.PoolOp.TheVariants as op
use Rattle.wc_pool.specs.declared.reference.MediaRef.{MediaRef}
use Rattle.wc_pool.specs.Bag.{resource_of, references_made, is_held, is_legal_pool}
use Rattle.wc_pool.specs.Pools.{Adds}
use Rattle.wc_pool.specs.Laws.{LiveAreNumbered}
use Rattle.media_variables.specs.declared.lending.MediumFound.TheVariants as found
use Rattle.media_variables.specs.Variables.{Medium, Lendable, handed_of, variables_of, lendable_at, is_last_of}
use Rattle.media_variables.specs.Held.{pair_of, medium_found, ends_behind, AreHeld, AreApart, IsLent}
use Rattle.media_variables.specs.Given.{Lends}
use Rattle.media_variables.proofs.Ends.{resource_more}
use Rattle.media_variables.proofs.HeldLaws.{Mints, carried, minted_live, minted_held, fresh}
use Rattle.media_variables.proofs.Places.{variables_back, variables_past}

-- ---- ends

abbrev end_entry : By → List PoolEntry → Pair → PoolEntry
end_entry cause pool p = record { by = cause; op = op.End p.resource p.reference (is_last_of cause p.resource p.reference pool) }

-- other references are as they were
others_same : (cause : By) (pool : List PoolEntry) (p : Pair) (f : ℕ) → p.reference ≢ f → resource_of f (pool ++ end_entry cause pool p ∷ []) ≡ resource_of f pool
others_same cause pool p f apart =
    let differ : (p.reference == f) ≡ false = false_from_ne_true (p.reference == f) (λ same. apart (eqb-true p.reference f same)) in
    resource_more f pool (end_entry cause pool p) ∙ ap (λ (b : Bool). if b then None else resource_of f pool) differ

-- those behind the one that ended stand apart still
pub apart_next : (cause : By) (pool : List PoolEntry) (all : List (List (Option Medium))) (p : Pair) (ps : List Pair) → AreApart pool all (p ∷ ps) → AreApart (pool ++ end_entry cause pool p ∷ []) all ps
apart_next cause pool all p ps h = record {
  lives = λ i q at.
      let differ : p.reference ≢ q.reference = λ same. let place = h.once 0 (suc i) p q refl at same in absurd (omega (arith, place)) in
      others_same cause pool p q.reference differ ∙ h.lives (suc i) q at;
  once = λ i j q r here there same. let place = h.once (suc i) (suc j) q r here there same in omega (arith, place);
  elsewhere = λ i k j q r at held. h.elsewhere (suc i) k j q r at held;
}

-- the variables hold what they held
next_held : (cause : By) (pool : List PoolEntry) (all : List (List (Option Medium))) (p : Pair) (ps : List Pair) → AreApart pool all (p ∷ ps) → AreHeld pool all → AreHeld (pool ++ end_entry cause pool p ∷ []) all
next_held cause pool all p ps h held =
    carried pool (pool ++ end_entry cause pool p ∷ []) all (λ k j r at lives. others_same cause pool p r.number (h.elsewhere 0 k j p r refl at) ∙ lives) held

pub ended_held : (cause : By) (pool : List PoolEntry) (all : List (List (Option Medium))) (ps : List Pair) → AreApart pool all ps → AreHeld pool all → AreHeld (pool ++ ends_behind cause pool ps) all
ended_held cause pool all [] h held = subst (λ (x : List PoolEntry). AreHeld x all) (sym (append-nil pool)) held
ended_held cause pool all (p ∷ ps) h held =
    let e = end_entry cause pool p in
    let rest = ended_held cause (pool ++ e ∷ []) all ps (apart_next cause pool all p ps h) (next_held cause pool all p ps h held) in
    subst (λ (x : List PoolEntry). AreHeld x all) (append_assoc pool (e ∷ []) (ends_behind cause (pool ++ e ∷ []) ps)) rest

-- without the variables
pub apart_alone : (pool : List PoolEntry) (all : List (List (Option Medium))) (ps : List Pair) → AreApart pool all ps → AreApart pool [] ps
apart_alone pool all ps h = record { lives = h.lives; once = h.once; elsewhere = λ i k j p r at none. absurd cc }

-- what is done, with what is left
pub goes_on : (cause : By) (pool new : List PoolEntry) (p : Pair) (ps : List Pair) (whole : List PoolEntry) → new ≡ pool ++ ends_behind cause pool (p ∷ []) → pool ++ ends_behind cause pool (p ∷ ps) ≡ whole → new ++ ends_behind cause new ps ≡ whole
goes_on cause pool new p ps whole ended so_far =
    let e = end_entry cause pool p in
    ap (λ (l : List PoolEntry). l ++ ends_behind cause l ps) ended ∙ append_assoc pool (e ∷ []) (ends_behind cause (pool ++ e ∷ []) ps) ∙ so_far

pub none_left : (rs : List MediaRef) → length rs ≡ 0 → rs ≡ []
none_left [] e = refl
none_left (r ∷ rs) e = absurd (omega (arith, e))

-- ---- clones

-- what any pool lends, of one for one thread
lent_by : (cause : By) (pool new : List PoolEntry) (medium : Option Lendable) (x : HeldMedium × MediaRef) → Lends (Adds pool new) cause medium x → IsLent cause pool new medium x
lent_by cause pool new medium x h =
    let parts = and_parts (is_held x.1.resource pool) (x.1.number == references_made pool) h.added.next in
    let next = eqb-true x.1.number (references_made pool) parts.1 in
    record {
      handed = subst (λ (n : ℕ). IfSome medium (λ m. handed_of n true m ≡ handed.Cloned x.0)) next h.handed;
      pair = h.pair;
      history = h.added.longer;
      may = parts.0;
      next = next;
    }

pub lent_as : (cause : By) (pool new : List PoolEntry) (medium : Option Lendable) (r : Result (HeldMedium × MediaRef) NoMemory) → IfOk r (Lends (Adds pool new) cause medium) → IfOk r (IsLent cause pool new medium)
lent_as cause pool new medium (Ok x) h = lent_by cause pool new medium x h
lent_as cause pool new medium (Err e) h = tt

abbrev lent_entry : By → MediaRef → PoolEntry
lent_entry cause r = record { by = cause; op = op.Clone r.resource r.number }

lent_mints : (pool new : List PoolEntry) (cause : By) (medium : Option Lendable) (x : HeldMedium × MediaRef) → IsLent cause pool new medium x → Mints (lent_entry cause x.1) x.1.resource (references_made pool)
lent_mints pool new cause medium x h =
    let own : Mints (lent_entry cause x.1) x.1.resource x.1.number = λ g held. refl in
    subst (λ (f : ℕ). Mints (lent_entry cause x.1) x.1.resource f) h.next own

-- what was lent leaves the variables as they were
lent_new : LiveAreNumbered → (pool new : List PoolEntry) (all : List (List (Option Medium))) (cause : By) (medium : Option Lendable) (x : HeldMedium × MediaRef) → is_legal_pool pool ≡ true → AreHeld pool all → IsLent cause pool new medium x → AreHeld new all
lent_new numbered pool new all cause medium x legal held h =
    let mints = lent_mints pool new cause medium x h in
    subst (λ (l : List PoolEntry). AreHeld l all) (sym h.history) (minted_held numbered pool (lent_entry cause x.1) x.1.resource all legal mints held)

pub only_one : (p q : Pair) (i : ℕ) → slice_get (p ∷ []) i ≡ Some q → (i ≡ 0) × (q ≡ p)
only_one p q zero h = (refl, cc)
only_one p q (suc i) h = absurd cc

-- no variable holds what was lent
lent_alone : LiveAreNumbered → (pool new : List PoolEntry) (all : List (List (Option Medium))) (cause : By) (medium : Option Lendable) (x : HeldMedium × MediaRef) → is_legal_pool pool ≡ true → AreHeld pool all → IsLent cause pool new medium x → AreApart new all (pair_of x.1 ∷ [])
lent_alone numbered pool new all cause medium x legal held h =
    let p = pair_of x.1 in
    let live = minted_live pool (lent_entry cause x.1) x.1.resource (references_made pool) (lent_mints pool new cause medium x h) in
    let here : resource_of x.1.number new ≡ Some x.1.resource = ap (λ (f : ℕ). resource_of f new) h.next ∙ ap (resource_of (references_made pool)) h.history ∙ live in
    let free = fresh numbered pool all legal held in
    record {
      lives = λ i q at. subst (λ (y : Pair). resource_of y.reference new ≡ Some y.resource) (sym (only_one p q i at).1) here;
      once = λ i j q r at there same. (only_one p q i at).0 ∙ sym (only_one p r j there).0;
      elsewhere = λ i k j q r at there same. free.none k j r there (sym same ∙ ap (λ (y : Pair). y.reference) (only_one p q i at).1 ∙ h.next);
    }

pub lent_held : LiveAreNumbered → (pool new : List PoolEntry) (all : List (List (Option Medium))) (k : ℕ) (vs after : List (Option Medium)) (cause : By) (medium : Option Lendable) (r : Result (HeldMedium × MediaRef) NoMemory) → is_legal_pool pool ≡ true → AreHeld pool all → variables_of k all ≡ vs → after ≡ vs → IfOk r (IsLent cause pool new medium) → OnErr r (new ≡ pool) → AreHeld new (slice_set all k after)
lent_held numbered pool new all k vs after cause medium r legal held is same ok err =
    let back = ap (slice_set all k) (same ∙ sym is) ∙ variables_back k all in
    subst (λ (l : List (List (Option Medium))). AreHeld new l) (sym back) (either r ok err)
  where
    either : (r : Result (HeldMedium × MediaRef) NoMemory) → IfOk r (IsLent cause pool new medium) → OnErr r (new ≡ pool) → AreHeld new all
    either (Ok x) ok err = lent_new numbered pool new all cause medium x legal held ok
    either (Err e) ok err = subst (λ (l : List PoolEntry). AreHeld l all) (sym err) held

pub lent_apart : LiveAreNumbered → (pool new : List PoolEntry) (all : List (List (Option Medium))) (k : ℕ) (vs after : List (Option Medium)) (cause : By) (medium : Option Lendable) (r : Result (HeldMedium × MediaRef) NoMemory) → is_legal_pool pool ≡ true → AreHeld pool all → variables_of k all ≡ vs → after ≡ vs → IfOk r (IsLent cause pool new medium) → IfOk r (λ x. AreApart new (slice_set all k after) (pair_of x.1 ∷ []))
lent_apart numbered pool new all k vs after cause medium (Ok x) legal held is same ok =
    let back = ap (slice_set all k) (same ∙ sym is) ∙ variables_back k all in
    subst (λ (l : List (List (Option Medium))). AreApart new l (pair_of x.1 ∷ [])) (sym back) (lent_alone numbered pool new all cause medium x legal held ok)
lent_apart numbered pool new all k vs after cause medium (Err e) legal held is same ok = tt

-- no caller with this number has open data
pub none_open : (all : List (List (Option Medium))) (k of : ℕ) → length all ≤ k → medium_found (lendable_at (variables_of k all) of) ≡ found.Open → ⊥
none_open all k of beyond there =
    let none : found.Absent ≡ found.Open = sym (ap (λ (vs : List (Option Medium)). medium_found (lendable_at vs of)) (variables_past k all beyond)) ∙ there in absurd cc
