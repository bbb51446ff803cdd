use Rattle.std.proofs.Common.{◌≡◌, refl, ap, arith, Some, is_some}
use Rattle.slot_registry.proofs.{Kept.IsPlaceOf, Kept.moves_keep, Kept.ids_stay, Kept.away_after, Kept.comes, Holders.give_keeps_others}
use Rattle.slot_registry.specs.Boxes.{holder_of}
use Rattle.slot_registry.proofs.slots.Slots.give_back.Given.{Over}
use Rattle.slot_registry.proofs.slots.Slots.give_back.Goals.{After-put}
use Rattle.slot_registry.proofs.slots.Slots.give_back.Goals as goal

at : (g : Over) (c : After-put g) → IsPlaceOf c.self.inside.places.items c.id-id.result c.place_of-place.result c.number-number.result
at g c = record { at = rw (← c.self.view_is) at c.place_of-place.ensures.at; before = rw (← c.self.view_is) at c.place_of-place.ensures.before }

held : (g : Over) (c : After-put g) → holder_of c.id-id.result c.number-number.result c.self.inside.entries.items ≡ Some c.args.slot.by
held g c = rw (c.id-id.ensures, c.number-number.ensures) (rw (← c.self.view_is) at c.requires.out)

pub push_reserved-requires : goal.push_reserved-requires
push_reserved-requires g c =
    let p = (goal.at.push_reserved-requires g c).After-put in
    omega (arith, away_after (at g p) c.index_mut.ensures.value c.put.ensures c.self.invariant.0 (ap is_some (held g p)) refl, c.self.invariant.1)

pub invariant_of-self : goal.invariant_of-self
invariant_of-self g c =
    let here = c.index_mut.ensures.value in
    let p = (goal.at.invariant_of-self g c).After-put in
    let less = away_after (at g p) here c.put.ensures c.self.invariant.0 (ap is_some (held g p)) refl in
    (moves_keep (at g p) here c.put.ensures c.push_reserved.ensures.items c.self.invariant.0 (comes _ c.self.inside.entries.items c.id-id.result c.number-number.result c.args.slot.by c.args.by (held g p) c.requires.later), omega (arith, less, c.self.invariant.1, c.push_reserved.ensures.len, c.push_reserved.ensures.capacity))

pub returns-clause-given : goal.returns-clause-given
returns-clause-given g c =
    rw (← c.self.view_is, ids_stay (at g (goal.at.returns-clause-given g c).After-put) c.index_mut.ensures.value c.put.ensures, c.push_reserved.ensures.items, c.id-id.ensures, c.number-number.ensures) refl

pub returns-clause-kept : goal.returns-clause-kept
returns-clause-kept g c = rw (returns-clause-given g c) (give_keeps_others c.args.self.now c.args.by c.args.slot.id c.args.slot.number)
