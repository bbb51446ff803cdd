-- A walk over the places, which counts those of an id.
use Rattle.std.proofs.Common.{ℕ, ◌+◌, ◌<◌, ◌≤◌, ◌≡◌, true, false, not, List, Some, take, length, get_or, slice_get, ap, sym, ◌∙◌, arith, below_more}
use Rattle.std.proofs.lemmas.List.{take_all, length-map}
use Rattle.std.proofs.lemmas.Option.{get_or_from_slice_get, slice_get_within}
use Rattle.std.proofs.lemmas.Bool.{not-false, not-true}
use Rattle.std.proofs.lemmas.List.Sums.{count_by_more_no}
use Rattle.wc_config.specs.declared.codec.CoderId.{CoderId}
use Rattle.coder_api.specs.Meaning.{is_id}
use Rattle.slot_registry.specs.{Boxes.is_out, Boxes.made_of, Slots.SlotsValue}
use Rattle.slot_registry.specs.Places.{Placed, ids_of, IsKept, IsFreeAt, AreAllOut}
use Rattle.slot_registry.specs.IdLaws.{id_is, made_of_more, number_made}
use Rattle.slot_registry.specs.NumberLaws.{find-all, find-first, count_by-all}
use Rattle.slot_registry.proofs.Kept.{place_id, home_at}

-- the walk has come to a place, and so many places of the id stand before it
pub record IsWalk (places : List Placed) (s : SlotsValue) (id : CoderId) (k n : ℕ) : Type 0 where
  pub same : ids_of places ≡ s.made
  pub count : n ≡ made_of id (take k s.made)
  pub within : n ≤ k

module _ {places : List Placed} {s : SlotsValue} {id : CoderId} {k n : ℕ} {p : Placed} (walk : IsWalk places s id k n) (low : k < length places) (here : p ≡ get_or places k p) where
  id_at : slice_get s.made k ≡ Some p.id
  id_at = rw (← walk.same) (place_id places k p low ∙ ap (λ (q : Placed). Some q.id) (sym here))

  -- a place of the id that is looked for
  pub found_at : is_id id p.id ≡ true → slice_get s.made k ≡ Some id
  found_at is = id_at ∙ ap Some (sym (id_is id p.id is))

  pub counts_yes : is_id id p.id ≡ true → IsWalk places s id (k + 1) (n + 1)
  counts_yes is = record { same = walk.same; count = omega (arith, walk.count, made_of_more id s.made k (found_at is)); within = omega (arith, walk.within) }

  pub counts_no : is_id id p.id ≡ false → IsWalk places s id (k + 1) n
  counts_no other =
      let here = ap (is_id id) (get_or_from_slice_get s.made k p.id p.id id_at) ∙ other in
      record { same = walk.same; count = walk.count ∙ sym (count_by_more_no (is_id id) s.made k p.id (slice_get_within s.made k p.id id_at) here); within = omega (arith, walk.within) }

  -- its box is out where its coder is not there
  home_here : IsKept places s.history → is_id id p.id ≡ true → p.is_home ≡ not (is_out id n s.history)
  home_here kept is = home_at (record { at = rw walk.same (found_at is); before = rw walk.same walk.count }) here kept

  -- one more box that is out
  pub one_more_out : IsKept places s.history → is_id id p.id ≡ true → p.is_home ≡ false → ((m : ℕ) → m < n → is_out id m s.history ≡ true) → (m : ℕ) → m < n + 1 → is_out id m s.history ≡ true
  one_more_out kept is away before = below_more (λ m. is_out id m s.history ≡ true) n before (not-false (is_out id n s.history) (sym (home_here kept is) ∙ away))

  -- the first place of the id whose box is not out
  pub is_free_at : IsKept places s.history → is_id id p.id ≡ true → p.is_home ≡ true → ((m : ℕ) → m < n → is_out id m s.history ≡ true) → IsFreeAt id s k n
  is_free_at kept is home before = record {
    at = found_at is;
    before = walk.count;
    least = find-first (λ m. is_out id m s.history) (made_of id s.made) n (omega (arith, number_made id s.made k (found_at is), walk.count)) before (not-true (is_out id n s.history) (sym (home_here kept is) ∙ home));
  }

-- no box of the id is free at the end
pub are_all_out : {places : List Placed} {s : SlotsValue} {id : CoderId} {k n : ℕ} → IsWalk places s id k n → length places ≤ k → ((m : ℕ) → m < n → is_out id m s.history ≡ true) → AreAllOut id s n
are_all_out {places} {s} {id} {k} {n} walk past out =
    let long = ap length (sym walk.same) ∙ length-map places (λ (p : Placed). p.id) in
    let all : made_of id s.made ≡ n = ap (made_of id) (sym (take_all k s.made (omega (arith, long, past)))) ∙ sym walk.count in
    let before = λ (m : ℕ) (low : m < made_of id s.made). out m (omega (arith, low, all)) in
    record {
      none = find-all (λ m. is_out id m s.history) (made_of id s.made) before;
      out = count_by-all (λ m. is_out id m s.history) (made_of id s.made) before ∙ all;
      made = all;
    }
