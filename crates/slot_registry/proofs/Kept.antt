-- The places stay in step with the history.
use Rattle.std.proofs.Common.{ℕ, zero, suc, ◌+◌, ◌<◌, ◌≡◌, ◌≢◌, ◌==◌, Bool, true, false, cond, not, List, [], ◌∷◌, ◌++◌, Option, Some, None, take, length, get_or, set, slice_get, ap, sym, ◌∙◌, arith, inl, inr}
use Rattle.std.specs.List.{count_by}
use Rattle.std.proofs.lemmas.Bool.{and_parts, eqb-true, false_from_ne_true, cases_order, cases_Bool, cases_eq}
use Rattle.std.proofs.lemmas.List.{get_or-set_same, get_or-set_other, length-set, length-map}
use Rattle.std.proofs.lemmas.Option.{slice_get-get_or, slice_get-map, slice_get_within}
use Rattle.std.proofs.lemmas.List.Sums.{sum_by-set, sum_by-cons, sum_by_push}
use Rattle.wc_base.specs.declared.who.By.{By}
use Rattle.wc_config.specs.declared.codec.CoderId.{CoderId}
use Rattle.coder_api.specs.{declared.slot.SlotEntry.SlotEntry, declared.slot.SlotOp.SlotOp, Meaning.is_id}
use Rattle.slot_registry.specs.Boxes.{is_box, holder_of, is_out, made_of, out_of, least_free}
use Rattle.slot_registry.specs.Slots.{is_legal_next, is_later}
use Rattle.slot_registry.specs.Places.{Placed, ids_of, is_away, IsKept}
use Rattle.slot_registry.specs.IdLaws.{id_is, number_made, number_rises, ids_of-set}
use Rattle.slot_registry.specs.HistoryLaws.{legal_more, goes_out, comes_back, stays_at_acquire, stays_at_give, stays_at_refusal, acquire_is_legal, refusal_is_legal, give_is_legal}

-- a place of an id, which has the box with this number
pub record IsPlaceOf (places : List Placed) (id : CoderId) (k number : ℕ) : Type 0 where
  pub at : slice_get (ids_of places) k ≡ Some id
  pub before : number ≡ made_of id (take k (ids_of places))

-- an entry that sends out or brings back this box alone, whose coder is at home after it or not
pub record Moves (ids : List CoderId) (history : List SlotEntry) (id : CoderId) (number : ℕ) (home : Bool) (e : SlotEntry) : Type 0 where
  pub this : home ≡ not (is_out id number (history ++ e ∷ []))
  pub others : (other : CoderId) (m : ℕ) → is_box other m id number ≡ false → is_out other m (history ++ e ∷ []) ≡ is_out other m history
  pub legal : is_legal_next ids history e ≡ true

-- the free box of least number goes out
pub goes : (ids : List CoderId) (history : List SlotEntry) (id : CoderId) (number : ℕ) (cause : By) → least_free id ids history ≡ Some number → Moves ids history id number false (record { by = cause; op = SlotOp.Acquire id number })
goes ids history id number cause least = record { this = ap not (sym (goes_out id number history cause)); others = stays_at_acquire id number history cause; legal = acquire_is_legal ids history cause id number least }

-- a box comes back
pub comes : (ids : List CoderId) (history : List SlotEntry) (id : CoderId) (number : ℕ) (holder cause : By) → holder_of id number history ≡ Some holder → is_later holder cause ≡ true → Moves ids history id number true (record { by = cause; op = SlotOp.Give id number })
comes ids history id number holder cause held later = record { this = ap not (sym (comes_back id number history cause)); others = stays_at_give id number history cause; legal = give_is_legal ids history holder cause id number held later }

-- the id and the number of a box
pub box_is : (a b : CoderId) (m n : ℕ) → is_box a m b n ≡ true → (a ≡ b) × (m ≡ n)
box_is a b m n same = let parts = and_parts (is_id a b) (m == n) same in (id_is a b parts.0, eqb-true m n parts.1)

-- another place has another box
box_apart : (ids : List CoderId) (j k number : ℕ) (a b : CoderId) → j ≢ k → slice_get ids j ≡ Some a → slice_get ids k ≡ Some b → number ≡ made_of b (take k ids) → is_box a (made_of a (take j ids)) b number ≡ false
box_apart ids j k number a b apart at_j at_k before = false_from_ne_true (is_box a (made_of a (take j ids)) b number) (λ (same : is_box a (made_of a (take j ids)) b number ≡ true).
    let parts = box_is a b (made_of a (take j ids)) number same in
    let here : made_of b (take j ids) ≡ made_of b (take k ids) = ap (λ (x : CoderId). made_of x (take j ids)) (sym parts.0) ∙ parts.1 ∙ before in
    let at : slice_get ids j ≡ Some b = at_j ∙ ap Some parts.0 in
    elim (cases_order j k) [ inl e ↦ apart e | inr o ↦ elim o [ inl low ↦ (let less = number_rises b ids j k low at in omega (arith, less, here)) | inr high ↦ (let less = number_rises b ids k j high at_k in omega (arith, less, here)) ] ])

-- the id of a place
pub place_id : (places : List Placed) (j : ℕ) (d : Placed) → j < length places → slice_get (ids_of places) j ≡ Some (get_or places j d).id
place_id places j d within = slice_get-map (λ (q : Placed). q.id) places j ∙ ap (λ (o : Option Placed). elim o [ Some q ↦ Some q.id | None ↦ None ]) (slice_get-get_or places j d within)

module _ {places : List Placed} {id : CoderId} {k number : ℕ} {p : Placed} (place : IsPlaceOf places id k number) (here : p ≡ get_or places k p) where
  within : k < length places
  within = omega (arith, slice_get_within (ids_of places) k id place.at, length-map places (λ (q : Placed). q.id))

  -- the id of a place is the one that is looked for
  pub same_id : id ≡ p.id
  same_id = let at = place_id places k p within in let is = place.at in cc

  -- the place has its coder where its box is not out
  pub home_at : {history : List SlotEntry} → IsKept places history → p.is_home ≡ not (is_out id number history)
  home_at kept = let at = kept.in_step k p within in let same = same_id in let before = place.before in cc

-- the place of a box that goes out or comes back is written, and the history has the entry
module _ {places : List Placed} {id : CoderId} {k number : ℕ} {p q : Placed} {home : Bool} (place : IsPlaceOf places id k number) (here : p ≡ get_or places k p) (change : q ≡ record p { is_home = home }) where
  written_id : id ≡ q.id
  written_id = same_id place here ∙ ap (λ (r : Placed). r.id) (sym change)

  pub ids_stay : ids_of (set places k q) ≡ ids_of places
  ids_stay = ids_of-set places k q (place.at ∙ ap Some written_id)

  -- the places are in step then
  pub moves_keep : {history new : List SlotEntry} {e : SlotEntry} → new ≡ history ++ e ∷ [] → IsKept places history → Moves (ids_of places) history id number home e → IsKept (set places k q) new
  moves_keep {history} {e = e} more kept moves = rw more (record {
    in_step = λ j d low.
        let within_old : j < length places = omega (arith, low, length-set places k q) in
        let other = (get_or places j d).id in
        let apart_is = λ (apart : j ≢ k). moves.others other _ (box_apart (ids_of places) j k number other id apart (place_id places j d within_old) place.at place.before) in
        rw ids_stay (elim (cases_eq j k) [
          | inl same ↦ rw (same, get_or-set_same places k q d (within place here), ← written_id, ← place.before) (ap (λ (r : Placed). r.is_home) change ∙ moves.this)
          | inr apart ↦ rw (get_or-set_other places k j q d apart) (kept.in_step j d within_old ∙ ap not (sym (apart_is apart)))
        ]);
    made = λ other m out. rw ids_stay (elim (cases_Bool (is_box other m id number)) [
      | inl same ↦ (let parts = box_is other id m number same in rw (parts.0, parts.1, place.before) (number_made id (ids_of places) k place.at))
      | inr apart ↦ kept.made other m (sym (moves.others other m apart) ∙ out)
    ]);
    legal = rw ids_stay (legal_more (ids_of places) history e kept.legal moves.legal);
  })

  -- one box less is out once it came back
  pub away_after : {history : List SlotEntry} → IsKept places history → is_out id number history ≡ true → home ≡ true → count_by is_away (set places k q) + 1 ≡ count_by is_away places
  away_after kept out back =
      let away : p.is_home ≡ false = home_at place here kept ∙ ap not out in
      let home : q.is_home ≡ true = ap (λ (r : Placed). r.is_home) change ∙ back in
      let change = rw (← here) at (sum_by-set (λ r. cond (is_away r) 1 0) places k q p (within place here)) in
      grind (arith, change, away, home)

-- a refusal leaves all boxes where they are
pub refusal_keeps : (places : List Placed) (history : List SlotEntry) (id : CoderId) (all : ℕ) (cause : By) → IsKept places history → out_of id (ids_of places) history ≡ all → made_of id (ids_of places) ≡ all → IsKept places (history ++ record { by = cause; op = SlotOp.Refused id all all } ∷ [])
refusal_keeps places history id all cause kept out made = record {
  in_step = λ j d within. kept.in_step j d within ∙ ap not (sym (stays_at_refusal id all all history cause (get_or places j d).id (made_of (get_or places j d).id (take j (ids_of places)))));
  made = λ other number is. kept.made other number (sym (stays_at_refusal id all all history cause other number) ∙ is);
  legal = legal_more (ids_of places) history (record { by = cause; op = SlotOp.Refused id all all }) kept.legal (refusal_is_legal (ids_of places) history cause id all out made);
}

-- where no coder is out all are at home
pub all_home : (places : List Placed) (k : ℕ) (d : Placed) → count_by is_away places ≡ 0 → k < length places → (get_or places k d).is_home ≡ true
all_home [] k d none low = absurd (omega (arith, low))
all_home (p ∷ ps) zero d none low = grind (arith, none, sum_by-cons (λ q. cond (is_away q) 1 0) p ps)
all_home (p ∷ ps) (suc k) d none low = all_home ps k d (omega (arith, none, sum_by-cons (λ q. cond (is_away q) 1 0) p ps)) (omega (arith, low))

pub none_away : (places : List Placed) (id : CoderId) → count_by is_away places ≡ 0 → count_by is_away (places ++ record { id = id; is_home = true } ∷ []) ≡ 0
none_away places id none = omega (arith, none, sum_by_push (λ q. cond (is_away q) 1 0) places (record { id = id; is_home = true }))
