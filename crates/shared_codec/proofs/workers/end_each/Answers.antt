use Rattle.std.proofs.Common.{◌≡◌, ◌∷◌, [], ◌++◌, ◌∙◌, List, ap, sym, subst, refl, length, arith, append-nil, append_assoc, rules}
use Rattle.std.proofs.lemmas.List.{nil_from_length}
use Rattle.std.specs.Vec.Iter.{into_iter_items, into_iter_len}
use Rattle.wc_pool.specs.declared.reference.MediaRef.{MediaRef}
use Rattle.shared_pool.specs.Refs.{AreOf}
use Rattle.shared_codec.specs.Workers.{EndsAll}
use Rattle.shared_codec.proofs.Ending.{ends_none, ends_next}
use Rattle.shared_codec.proofs.workers.end_each.Goals as goal

pub end_if-requires-clause-of : goal.end_if-requires-clause-of
end_if-requires-clause-of g c =
    let at = c.loop-medium in
    (subst (AreOf c.args.pool.now) c.in-Some.ensures.steps.0 at.invariant.of).0

pub loop-medium-init : goal.loop-medium-init
loop-medium-init g c =
    let gives = c.into_iter-medium-iterator.ensures.into_iter_gives in
    let long : into_iter_len c.into_iter-medium-iterator.result ≡ length (into_iter_items c.into_iter-medium-iterator.result) = search rules in
    record {
      long = long;
      of = subst (AreOf c.args.pool.now) (sym gives.0) c.requires.of;
      same = (refl, refl);
      free = c.requires.seat;
      done = ([], sym gives.0, ends_none c.args.codec c.args.place c.args.seat.now.me.0);
    }

pub loop-medium-preserved : goal.loop-medium-preserved
loop-medium-preserved g c =
    let at = c.loop-medium in
    let r = c.in-Some.medium in
    let rs = into_iter_items c.next.new.self in
    let steps : into_iter_items at.medium-iterator ≡ r ∷ rs = c.in-Some.ensures.steps.0 in
    let short = ap length steps in
    let d = at.invariant.done in
    let ends = c.end_if.ensures.ends in
    record {
      long = omega (arith, short, c.in-Some.ensures.steps.1, at.invariant.long);
      of = (subst (AreOf c.args.pool.now) steps at.invariant.of).1;
      same = (c.end_if.ensures.same.0 ∙ at.invariant.same.0, c.end_if.ensures.same.1 ∙ at.invariant.same.1);
      free = c.end_if.ensures.free;
      done = (d.0 ++ r ∷ [], d.1 ∙ (ap (λ (l : List MediaRef). d.0 ++ l) steps ∙ sym (append_assoc d.0 (r ∷ []) rs)), ends_next c.args.codec c.args.place d.0 r ends.0 c.args.seat.now.me.0 at.seat.me.0 c.end_if.new.seat.me.0 d.2 ends.1);
    }

pub returns-clause-ends : goal.returns-clause-ends
returns-clause-ends g c =
    let at = c.loop-medium in
    let d = at.invariant.done in
    let none : into_iter_items at.medium-iterator ≡ [] = nil_from_length (into_iter_items at.medium-iterator) (sym at.invariant.long ∙ c.in-None.ensures.steps.0) in
    let all = d.1 ∙ (ap (λ (l : List MediaRef). d.0 ++ l) none ∙ append-nil d.0) in
    subst (λ (l : List MediaRef). EndsAll c.args.codec c.args.place l c.args.seat.now.me.0 at.seat.me.0) (sym all) d.2
