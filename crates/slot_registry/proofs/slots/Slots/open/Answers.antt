use Rattle.std.proofs.Common.{◌≡◌, refl, sym, ap, ◌∙◌, arith, length, append_assoc, append-nil, ◌∷◌}
use Rattle.std.specs.Vec.Iter.{into_iter_items}
use Rattle.slot_registry.proofs.Kept.{all_home, none_away}
use Rattle.std.proofs.lemmas.{Bool.false≢true, List.nil_from_length, List.map_push}
use Rattle.slot_registry.proofs.slots.Slots.open.Goals as goal

pub loop-coder-preserved : goal.loop-coder-preserved
loop-coder-preserved g c =
    let known = c.loop-coder.invariant in
    let steps : into_iter_items c.loop-coder.coder-iterator ≡ c.in-Some.coder ∷ into_iter_items c.next.new.self = c.in-Some.ensures.steps.0 in
    let short = ap length steps in
    record {
      ids = rw (c.push_reserved.ensures.items, c.of.ensures, map_push, append_assoc) (rw steps at known.ids);
      long = omega (arith, short, c.in-Some.ensures.steps.1, known.long);
      home = rw (c.push_reserved.ensures.items, c.of.ensures) (none_away c.loop-coder.places.items (g.C.Coder.coder c.in-Some.coder) known.home);
      room = omega (arith, short, known.room, c.push_reserved.ensures.len, c.push_reserved.ensures.capacity);
    }

pub invariant_of-result : goal.invariant_of-result
invariant_of-result g c =
    let home = c.loop-coder.invariant.home in
    rw c.new.ensures.items (record { in_step = λ k d low. all_home _ k d home low; made = λ id number out. absurd (false≢true out); legal = refl }, omega (arith, home, c.new.ensures.len))

pub returns : goal.returns
returns g c =
    let known = c.loop-coder.invariant in
    let none = nil_from_length (into_iter_items c.loop-coder.coder-iterator) (sym known.long ∙ c.in-None.ensures.steps.0) in
    rw (← rw (none, append-nil) at known.ids, c.new.ensures.items) refl
