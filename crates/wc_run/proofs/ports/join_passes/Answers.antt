use Rattle.std.proofs.Common.{suc, ◌≡◌, ◌∙◌, ◌∷◌, [], ℕ, List, length, vec_len, length-append, set, refl, sym, ap, subst, arith}
use Rattle.std.specs.Prelude.{slice_get}
use Rattle.std.proofs.lemmas.Option.{slice_get_read, slice_get_within}
use Rattle.shared_variables.specs.Ports.{WholeParcel}
use Rattle.shared_port.specs.declared.port.PortPass.{PortPass}
use Rattle.wc_run.proofs.Passes.{JoinedAt, LastDone, last_none, last_less, end_there, front_there, joined_at, joined_passes, are_joined}
use Rattle.wc_run.proofs.ports.join_passes.Goals as goal

pub loop-other-init : goal.loop-other-init
loop-other-init c =
    let long = c.requires.passes.1.many in
    let many = c.requires.passes.2.many in
    record {
      last = last_none (JoinedAt c.args.ports.now c.args.others.items) (length c.args.others.items) c.args.passes.now.items (omega (arith, long, many));
      left = λ q o at. at;
    }

pub port_at-requires : goal.port_at-requires
port_at-requires c =
    let P = PortPass WholeParcel in
    let i = c.loop-other.invariant in
    let are = c.requires.passes.1 in
    let others = c.requires.passes.2 in
    let front = c.pop.new.self.items in
    let k = c.len-place.result in
    let m : length front ≡ k = sym c.pop.new.self.ok.0 ∙ sym c.len-place.ensures in
    let last = end_there c.loop-other.others.items front c.in-Some.other c.in-Some.ensures.items in
    let other = i.left (length front) c.in-Some.other last in
    let lt = slice_get_within c.args.others.items (length front) c.in-Some.other other in
    let long = are.many in
    let many = others.many in
    omega (arith, m, lt, many)

pub index_mut-requires : goal.index_mut-requires
index_mut-requires c =
    let P = PortPass WholeParcel in
    let i = c.loop-other.invariant in
    let are = c.requires.passes.1 in
    let others = c.requires.passes.2 in
    let front = c.pop.new.self.items in
    let k = c.len-place.result in
    let m : length front ≡ k = sym c.pop.new.self.ok.0 ∙ sym c.len-place.ensures in
    let last = end_there c.loop-other.others.items front c.in-Some.other c.in-Some.ensures.items in
    let other = i.left (length front) c.in-Some.other last in
    let lt = slice_get_within c.args.others.items (length front) c.in-Some.other other in
    let long = are.many in
    let many = others.many in
    let same = i.last.many in
    let e : vec_len c.loop-other.passes ≡ length c.loop-other.passes.items = c.loop-other.passes.ok.0 in
    omega (arith, m, lt, many, long, same, e)

pub join-requires-clause-into : goal.join-requires-clause-into
join-requires-clause-into c =
    let P = PortPass WholeParcel in
    let i = c.loop-other.invariant in
    let are = c.requires.passes.1 in
    let others = c.requires.passes.2 in
    let front = c.pop.new.self.items in
    let k = c.len-place.result in
    let m : length front ≡ k = sym c.pop.new.self.ok.0 ∙ sym c.len-place.ensures in
    let last = end_there c.loop-other.others.items front c.in-Some.other c.in-Some.ensures.items in
    let other = i.left (length front) c.in-Some.other last in
    let lt = slice_get_within c.args.others.items (length front) c.in-Some.other other in
    let long = are.many in
    let many = others.many in
    let same = i.last.many in
    let here = c.port_at.ensures in
    let there = slice_get_read _ _ k c.index_mut.result.now refl (omega (arith, m, lt, many, long, same)) c.index_mut.ensures.value in
    let longer = ap (λ (l : List P). length l) c.in-Some.ensures.items ∙ length-append front (c.in-Some.other ∷ []) in
    are.each k c.port_at.result.now c.index_mut.result.now here (sym (i.last.rest k (omega (arith, m, longer))) ∙ there)

pub join-requires-clause-from : goal.join-requires-clause-from
join-requires-clause-from c =
    let P = PortPass WholeParcel in
    let i = c.loop-other.invariant in
    let are = c.requires.passes.1 in
    let others = c.requires.passes.2 in
    let front = c.pop.new.self.items in
    let k = c.len-place.result in
    let m : length front ≡ k = sym c.pop.new.self.ok.0 ∙ sym c.len-place.ensures in
    let last = end_there c.loop-other.others.items front c.in-Some.other c.in-Some.ensures.items in
    let other = i.left (length front) c.in-Some.other last in
    let lt = slice_get_within c.args.others.items (length front) c.in-Some.other other in
    let long = are.many in
    let many = others.many in
    let here = c.port_at.ensures in
    others.each k c.port_at.result.now c.in-Some.other here (ap (slice_get c.args.others.items) (sym m) ∙ other)

pub loop-other-preserved : goal.loop-other-preserved
loop-other-preserved c =
    let P = PortPass WholeParcel in
    let i = c.loop-other.invariant in
    let are = c.requires.passes.1 in
    let others = c.requires.passes.2 in
    let front = c.pop.new.self.items in
    let k = c.len-place.result in
    let m : length front ≡ k = sym c.pop.new.self.ok.0 ∙ sym c.len-place.ensures in
    let last = end_there c.loop-other.others.items front c.in-Some.other c.in-Some.ensures.items in
    let other = i.left (length front) c.in-Some.other last in
    let lt = slice_get_within c.args.others.items (length front) c.in-Some.other other in
    let long = are.many in
    let many = others.many in
    let same = i.last.many in
    let pool = c.requires.passes.0 in
    let ports = c.args.ports.now in
    let was = c.args.passes.now.items in
    let port = c.port_at.result.now in
    let old = c.index_mut.result.now in
    let here = c.port_at.ensures in
    let there = slice_get_read _ _ k old refl (omega (arith, m, lt, many, long, same)) c.index_mut.ensures.value in
    let longer = ap (λ (l : List P). length l) c.in-Some.ensures.items ∙ length-append front (c.in-Some.other ∷ []) in
    let new = joined_at pool ports was are c.args.others.items k port c.in-Some.other old c.join.new.into here (ap (slice_get c.args.others.items) (sym m) ∙ other) (c.join.ensures.pass, c.join.ensures.both) in
    let next : length c.loop-other.others.items ≡ suc k = omega (arith, m, longer) in
    record {
      last = subst (λ (n : ℕ). LastDone (JoinedAt ports c.args.others.items) n was (set c.loop-other.passes.items k c.join.new.into)) (sym m) (last_less (JoinedAt ports c.args.others.items) k (length c.loop-other.others.items) was c.loop-other.passes.items old c.join.new.into next i.last there new);
      left = λ q o at. i.left q o (front_there c.loop-other.others.items front c.in-Some.other q o c.in-Some.ensures.items at);
    }

pub returns-clause-passes : goal.returns-clause-passes
returns-clause-passes c pool are =
    let i = c.loop-other.invariant in
    let ports = c.args.ports.now in
    let was = c.args.passes.now.items in
    let none : length c.loop-other.others.items ≡ 0 = sym c.loop-other.others.ok.0 ∙ c.in_default.ensures.cases.0 in
    joined_passes pool ports was are c.args.others.items c.loop-other.passes.items c.requires.passes.2.many (λ q p r at now. i.last.done q p r (omega (arith, none)) at now) (i.last.many ∙ are.many)

pub returns-clause-joined : goal.returns-clause-joined
returns-clause-joined c =
    let i = c.loop-other.invariant in
    let ports = c.args.ports.now in
    let was = c.args.passes.now.items in
    let none : length c.loop-other.others.items ≡ 0 = sym c.loop-other.others.ok.0 ∙ c.in_default.ensures.cases.0 in
    are_joined c.requires.passes.0 ports was c.requires.passes.1 c.args.others.items c.loop-other.passes.items c.requires.passes.2.many (λ q p r at now. i.last.done q p r (omega (arith, none)) at now)
