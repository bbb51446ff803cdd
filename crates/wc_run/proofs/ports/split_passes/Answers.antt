use Rattle.std.proofs.Common.{◌≡◌, ◌+◌, ◌∙◌, ◌∷◌, [], ℕ, List, Some, length, vec_len, length-append, refl, sym, ap, subst, arith}
use Rattle.std.specs.Prelude.{slice_get}
use Rattle.std.proofs.lemmas.Option.{slice_get_read}
use Rattle.shared_variables.specs.Ports.{WholeParcel}
use Rattle.shared_port.specs.declared.port.PortPass.{PortPass}
use Rattle.wc_run.proofs.Passes.{LeftAt, NewAt, first_none, first_there, first_more, first_all, one_more, nothing_there, left_at, new_at, left_passes, new_passes, are_split}
use Rattle.wc_run.proofs.ports.split_passes.Goals as goal

pub loop-place-init : goal.loop-place-init
loop-place-init c =
    let P = PortPass WholeParcel in
    let none = ap (λ (l : List P). length l) c.requires.empty in
    record {
      first = first_none (LeftAt c.args.ports.now) c.args.passes.now.items;
      new = λ q r at. absurd (nothing_there c.args.parts.items q r none at);
      many = none;
      end = refl;
      below = omega arith;
      room = refl;
    }

pub port_at-requires : goal.port_at-requires
port_at-requires c =
    let t = c.loop-place-test.true in
    let n = c.loop-place.invariant.end in
    omega (arith, t, n)

pub index_mut-requires : goal.index_mut-requires
index_mut-requires c =
    let i = c.loop-place.invariant in
    let l = i.first.many in
    let p = c.requires.passes.1.many in
    let t = c.loop-place-test.true in
    let n = i.end in
    let e : vec_len c.loop-place.passes ≡ length c.loop-place.passes.items = c.loop-place.passes.ok.0 in
    omega (arith, l, p, t, n, e)

pub split-part-requires-clause-pass : goal.split-part-requires-clause-pass
split-part-requires-clause-pass c =
    let i = c.loop-place.invariant in
    let l = i.first.many in
    let p = c.requires.passes.1.many in
    let t = c.loop-place-test.true in
    let n = i.end in
    c.requires.passes.1.each c.loop-place.place c.port_at.result.now c.index_mut.result.now
    c.port_at.ensures
    (first_there (LeftAt c.args.ports.now) c.loop-place.place c.args.passes.now.items c.loop-place.passes.items c.index_mut.result.now i.first (slice_get_read _ _ c.loop-place.place c.index_mut.result.now refl (omega (arith, l, p, t, n)) c.index_mut.ensures.value))

pub split-part-requires-clause-parts : goal.split-part-requires-clause-parts
split-part-requires-clause-parts c =
    let i = c.loop-place.invariant in
    let l = i.first.many in
    let p = c.requires.passes.1.many in
    let t = c.loop-place-test.true in
    let n = i.end in
    let at = first_there (LeftAt c.args.ports.now) c.loop-place.place c.args.passes.now.items c.loop-place.passes.items c.index_mut.result.now i.first (slice_get_read _ _ c.loop-place.place c.index_mut.result.now refl (omega (arith, l, p, t, n)) c.index_mut.ensures.value) in
    let has = c.requires.parts.1 c.loop-place.place c.index_mut.result.now at in
    let two = c.requires.parts.2 in
    omega (arith, has, two)

pub loop-place-preserved : goal.loop-place-preserved
loop-place-preserved c =
    let P = PortPass WholeParcel in
    let i = c.loop-place.invariant in
    let pool = c.requires.passes.0 in
    let are = c.requires.passes.1 in
    let ports = c.args.ports.now in
    let was = c.args.passes.now.items in
    let k = c.loop-place.place in
    let l = i.first.many in
    let p = are.many in
    let t = c.loop-place-test.true in
    let n = i.end in
    let port = c.port_at.result.now in
    let old = c.index_mut.result.now in
    let e = c.split-part.ensures in
    let push = c.push_reserved.ensures in
    let here = c.port_at.ensures in
    let there = slice_get_read _ _ k old refl (omega (arith, l, p, t, n)) c.index_mut.ensures.value in
    let before = first_there (LeftAt ports) k was c.loop-place.passes.items old i.first there in
    let part = c.split-part.result in
    let new = new_at pool ports was are k port old part here before e.new in
    record {
      first = first_more (LeftAt ports) k was c.loop-place.passes.items old c.split-part.new.pass i.first there (left_at pool ports was are k port old c.split-part.new.pass here e.old);
      new = subst (λ (x : List P). (q : ℕ) (r : P) → slice_get x q ≡ Some r → NewAt ports was q r) (sym push.items) (one_more (NewAt ports was) c.loop-place.parts.items part i.new (subst (λ (m : ℕ). NewAt ports was m part) (sym i.many) new));
      many = ap (λ (x : List P). length x) push.items ∙ (length-append c.loop-place.parts.items (part ∷ []) ∙ ap (λ (m : ℕ). m + 1) i.many);
      end = n;
      below = omega (arith, t);
      room = push.capacity ∙ i.room;
    }

pub returns-clause-passes : goal.returns-clause-passes
returns-clause-passes c pool are =
    let i = c.loop-place.invariant in
    let ports = c.args.ports.now in
    let was = c.args.passes.now.items in
    let long = are.many in
    let t = c.loop-place-test.false in
    let n = i.end in
    left_passes pool ports was are c.loop-place.passes.items c.loop-place.parts.items (first_all (LeftAt ports) c.loop-place.place was c.loop-place.passes.items i.first (omega (arith, long, t, n))) i.new (i.first.many ∙ long)

pub returns-clause-result : goal.returns-clause-result
returns-clause-result c pool are =
    let i = c.loop-place.invariant in
    let ports = c.args.ports.now in
    let was = c.args.passes.now.items in
    let long = are.many in
    let t = c.loop-place-test.false in
    let n = i.end in
    let below = i.below in
    let many = i.many in
    new_passes pool ports was are c.loop-place.passes.items c.loop-place.parts.items (first_all (LeftAt ports) c.loop-place.place was c.loop-place.passes.items i.first (omega (arith, long, t, n))) i.new (omega (arith, many, t, n, below))

pub returns-clause-split : goal.returns-clause-split
returns-clause-split c =
    let i = c.loop-place.invariant in
    let pool = c.requires.passes.0 in
    let are = c.requires.passes.1 in
    let ports = c.args.ports.now in
    let was = c.args.passes.now.items in
    let long = are.many in
    let t = c.loop-place-test.false in
    let n = i.end in
    are_split pool ports was are c.loop-place.passes.items c.loop-place.parts.items (first_all (LeftAt ports) c.loop-place.place was c.loop-place.passes.items i.first (omega (arith, long, t, n))) i.new
