use Rattle.std.proofs.Common.{rules, arith, ◌≡◌, ◌≤◌, ◌+◌, [], ◌∷◌, length, length-append, map, ap, refl}
use Rattle.std.specs.Prelude.{vec_len}
use Rattle.std.proofs.lemmas.List.{map_push, length-map}
use Rattle.codec_model.specs.Shown.{shown_of, ends_shown}
use Rattle.codec_core.specs.Trace.{TraceValue}
use Rattle.codec_core.proofs.{Outputs.within_more, Promises.one_pending, Promises.ends_more}
use Rattle.codec_core.proofs.trace.Trace.push.Goals as goal

pub invariant_of-self : goal.invariant_of-self
invariant_of-self c =
    let i = c.self.inside in
    let ends = ends_shown (map shown_of i.shown.items) in
    let place : i.next_entry ≤ length i.shown.items = search rules in
    let shown_one : length c.push.new.self.items ≡ length i.shown.items + 1 = rw c.push.ensures (length-append i.shown.items (c.args.showing ∷ [])) in
    let entries_one : length c.push-2.new.self.items ≡ length i.entries.items + 1 = rw c.push-2.ensures (length-append i.entries.items (c.args.entry ∷ [])) in
    let shown_places : c.push.new.self.places ≡ i.shown.places = rw c.push.ensures refl in
    let entries_places : c.push-2.new.self.places ≡ i.entries.places = rw c.push-2.ensures refl in
    let promises_one : vec_len c.end_promises.new.states ≡ vec_len i.promises + 1 = search rules in
    record {
      as_many_shown = omega (arith, shown_one, entries_one, c.self.invariant.as_many_shown);
      as_many_promises = omega (arith, promises_one, entries_one, c.self.invariant.as_many_promises);
      entries_fit = omega (arith, entries_one, entries_places, c.requires.place, c.self.invariant.entries_fit, ap (λ (v : TraceValue). v.free) c.self.view_is);
      shown_fit = omega (arith, shown_one, shown_places, c.requires.place, c.self.invariant.shown_fit, ap (λ (v : TraceValue). v.free) c.self.view_is);
      promises_fit = search rules;
      next_entry = omega (arith, place, shown_one);
      next_unit = rw (c.push.ensures, map_push) (within_more i.next_entry i.next_unit _ (shown_of c.args.showing) (omega (arith, place, length-map i.shown.items shown_of)) c.self.invariant.next_unit);
      states = rw (c.push.ensures, map_push, ends_more) (c.end_promises.ensures.states ends (rw c.push_reserved.ensures.items (one_pending i.promises.items ends c.self.invariant.states)));
    }
