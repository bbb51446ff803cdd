use Rattle.std.proofs.Common.{◌≡◌, not, refl, sym, ap, ◌∙◌, arith, is_some, ◌+◌, ◌≤◌, rules, vec_len, vec_capacity, set}
use Rattle.std.proofs.lemmas.List.{length-set, Sums.count_by-le-length}
use Rattle.std.proofs.lemmas.Bool.{false≢true}
use Rattle.slot_registry.specs.Places.{ids_of, is_away, IsFreeAt, AreAllOut}
use Rattle.slot_registry.proofs.{Kept.IsPlaceOf, Kept.same_id, Kept.home_at, Kept.moves_keep, Kept.ids_stay, Kept.goes, Kept.refusal_keeps, Holders.acquired_is_held, Holders.acquire_keeps_boxes}
use Rattle.slot_registry.specs.{Boxes.is_out, Boxes.made_of, NumberLaws.find_fails}
use Rattle.slot_registry.proofs.slots.Slots.acquire.Given.{Over}
use Rattle.slot_registry.proofs.slots.Slots.acquire.Goals.{In-Free}
use Rattle.slot_registry.proofs.slots.Slots.acquire.Goals as goal

-- the free box that the search found, in the history before the room was made
free : (g : Over) (c : In-Free g) → IsFreeAt c.args.id (record { made = ids_of c.self.inside.places.items; history = c.self.inside.entries.items }) c.in-Free.place c.in-Free.number
free g c = rw c.reserve.ensures.items at c.in-Free.ensures

at : (g : Over) (c : In-Free g) → IsPlaceOf c.self.inside.places.items c.args.id c.in-Free.place c.in-Free.number
at g c = record { at = (free g c).at; before = (free g c).before }

pub unreachable-requires : goal.unreachable-requires
unreachable-requires g c =
    let i = c.self.inside in
    let p = (goal.at.unreachable-requires g c).In-Free in
    let fails = find_fails (λ m. is_out c.args.id m i.entries.items) (made_of c.args.id (ids_of i.places.items)) c.in-Free.number (free g p).least in
    false≢true (sym (ap is_some c.in_default.is) ∙ c.take.ensures.some ∙ home_at (at g p) c.index_mut.ensures.value c.self.invariant.0 ∙ ap not fails)

pub invariant_of-self-in-Free : goal.invariant_of-self-in-Free
invariant_of-self-in-Free g c =
    let places = c.self.inside.places.items in
    let p = (goal.at.invariant_of-self-in-Free g c).In-Free in
    let enough : c.in_ok-needed.needed ≡ c.len.result + 1 = search rules in
    let ok : vec_len c.reserve.new.self + c.in_ok-needed.needed ≤ vec_capacity c.reserve.new.self = c.in_ok-reserve.ensures.ok in
    (moves_keep (at g p) c.index_mut.ensures.value c.take.ensures.left (rw c.reserve.ensures.items at c.push_reserved.ensures.items) c.self.invariant.0 (goes _ c.self.inside.entries.items c.args.id c.in-Free.number c.args.by (free g p).least), omega (arith, count_by-le-length is_away (set places c.in-Free.place c.take.new.self), length-set places c.in-Free.place c.take.new.self, enough, ok, c.push_reserved.ensures.len, c.push_reserved.ensures.capacity))

pub invariant_of-self-in-AllOut : goal.invariant_of-self-in-AllOut
invariant_of-self-in-AllOut g c =
    let places = c.self.inside.places.items in
    let all : AreAllOut c.args.id (record { made = ids_of places; history = c.self.inside.entries.items }) c.in-AllOut.made = rw c.reserve.ensures.items at c.in-AllOut.ensures in
    let enough : c.in_ok-needed.needed ≡ c.len.result + 1 = search rules in
    let ok : vec_len c.reserve.new.self + c.in_ok-needed.needed ≤ vec_capacity c.reserve.new.self = c.in_ok-reserve.ensures.ok in
    rw (c.push_reserved-in-AllOut.ensures.items, c.reserve.ensures.items) (refusal_keeps places c.self.inside.entries.items c.args.id c.in-AllOut.made c.args.by c.self.invariant.0 all.out all.made, omega (arith, count_by-le-length is_away places, enough, ok, c.push_reserved-in-AllOut.ensures.len, c.push_reserved-in-AllOut.ensures.capacity))

pub returns-in-Some-clause-least : goal.returns-in-Some-clause-least
returns-in-Some-clause-least g c =
    let p = (goal.at.returns-in-Some-clause-least g c).In-Free in
    let told : g.C.Coder.coder c.in-Some.coder ≡ c.index_mut.result.now.id = c.in-Some.ensures.id in
    rw (← c.self.view_is, c.new.ensures) (record {
      id = told ∙ sym (same_id (at g p) c.index_mut.ensures.value);
      by = refl;
      number = (free g p).least;
      free = find_fails (λ m. is_out c.args.id m c.self.inside.entries.items) (made_of c.args.id (ids_of c.self.inside.places.items)) c.in-Free.number (free g p).least;
    })

pub returns-in-Some-clause-acquired : goal.returns-in-Some-clause-acquired
returns-in-Some-clause-acquired g c =
    let p = (goal.at.returns-in-Some-clause-acquired g c).In-Free in
    rw (← c.self.view_is, ids_stay (at g p) c.index_mut.ensures.value c.take.ensures.left, c.push_reserved.ensures.items, c.reserve.ensures.items, (free g p).least) refl

pub returns-in-Some-clause-held : goal.returns-in-Some-clause-held
returns-in-Some-clause-held g c = acquired_is_held c.args.self.now _ c.args.by c.args.id c.new.result (returns-in-Some-clause-least g c) (returns-in-Some-clause-acquired g c)

pub returns-in-Some-clause-kept : goal.returns-in-Some-clause-kept
returns-in-Some-clause-kept g c = rw (returns-in-Some-clause-acquired g c) (acquire_keeps_boxes c.args.by c.args.id c.args.self.now)
