use Rattle.std.proofs.Common.{◌≡◌, Some, length, vec_len, refl, sym, subst, arith}
use Rattle.std.specs.Prelude.{slice_get}
use Rattle.std.proofs.lemmas.Option.{slice_get_read}
use Rattle.atomic_table.specs.Seated.{TableId}
use Rattle.shared_pool.specs.Refs.{IsPoolRef}
use Rattle.media_variables.specs.Held.{AreOf}
use Rattle.desk_callers.proofs.PortActs.{did_post, same_seen}
use Rattle.desk_callers.proofs.PortSteps.{set_passes, set_parts}
use Rattle.desk_callers.proofs.ports.post_step.Goals as goal

pub index_mut-pass-requires : goal.index_mut-pass-requires
index_mut-pass-requires g c =
    let many = c.requires.passes.many in
    let lt = c.requires.port in
    let e : vec_len c.args.passes.now ≡ length c.args.passes.now.items = c.args.passes.now.ok.0 in
    omega (arith, many, lt, e)

pub post_at-requires-clause-pass : goal.post_at-requires-clause-pass
post_at-requires-clause-pass g c =
    let many = c.requires.passes.many in
    let lt = c.requires.port in
    let port_is : slice_get c.args.ports.now c.args.to ≡ Some c.index-ports-to.result = slice_get_read _ _ c.args.to c.index-ports-to.result refl lt c.index-ports-to.is in
    let pass_is : slice_get c.args.passes.now.items c.args.to ≡ Some c.index_mut-pass.result.now = slice_get_read _ _ c.args.to c.index_mut-pass.result.now refl (omega (arith, many, lt)) c.index_mut-pass.ensures.value in
    c.requires.passes.each c.args.to c.index-ports-to.result c.index_mut-pass.result.now port_is pass_is

pub post_at-requires-clause-held : goal.post_at-requires-clause-held
post_at-requires-clause-held g c =
    let lt = c.requires.port in
    let port_is : slice_get c.args.ports.now c.args.to ≡ Some c.index-ports-to.result = slice_get_read _ _ c.args.to c.index-ports-to.result refl lt c.index-ports-to.is in
    subst (λ (t : TableId). AreOf (IsPoolRef t) c.args.variables.now) (sym (c.requires.passes.pool_is c.args.to c.index-ports-to.result port_is)) c.requires.held

pub returns-clause-passes : goal.returns-clause-passes
returns-clause-passes g c =
    let many = c.requires.passes.many in
    let lt = c.requires.port in
    let port_is : slice_get c.args.ports.now c.args.to ≡ Some c.index-ports-to.result = slice_get_read _ _ c.args.to c.index-ports-to.result refl lt c.index-ports-to.is in
    let pass_is : slice_get c.args.passes.now.items c.args.to ≡ Some c.index_mut-pass.result.now = slice_get_read _ _ c.args.to c.index_mut-pass.result.now refl (omega (arith, many, lt)) c.index_mut-pass.ensures.value in
    set_passes c.args.desk.now.pool c.args.ports.now c.args.passes.now.items c.args.to c.index-ports-to.result c.index_mut-pass.result.now c.post_at.new.pass c.requires.passes port_is pass_is c.post_at.ensures.pass

pub returns-clause-parts : goal.returns-clause-parts
returns-clause-parts g c =
    let many = c.requires.passes.many in
    let lt = c.requires.port in
    let pass_is : slice_get c.args.passes.now.items c.args.to ≡ Some c.index_mut-pass.result.now = slice_get_read _ _ c.args.to c.index_mut-pass.result.now refl (omega (arith, many, lt)) c.index_mut-pass.ensures.value in
    set_parts c.args.passes.now.items c.args.to c.index_mut-pass.result.now c.post_at.new.pass pass_is c.post_at.ensures.parts

pub returns-clause-held : goal.returns-clause-held
returns-clause-held g c =
    let lt = c.requires.port in
    let port_is : slice_get c.args.ports.now c.args.to ≡ Some c.index-ports-to.result = slice_get_read _ _ c.args.to c.index-ports-to.result refl lt c.index-ports-to.is in
    subst (λ (t : TableId). AreOf (IsPoolRef t) c.post_at.new.variables) (c.requires.passes.pool_is c.args.to c.index-ports-to.result port_is) c.post_at.ensures.held

pub returns-clause-did : goal.returns-clause-did
returns-clause-did g c =
    let many = c.requires.passes.many in
    let lt = c.requires.port in
    let pass_is : slice_get c.args.passes.now.items c.args.to ≡ Some c.index_mut-pass.result.now = slice_get_read _ _ c.args.to c.index_mut-pass.result.now refl (omega (arith, many, lt)) c.index_mut-pass.ensures.value in
    did_post c.args.script.now c.args.media.now c.args.desk.now c.args.results.now c.args.seats.now c.args.variables.now c.post_at.new.variables c.args.who c.args.to c.args.content.now c.args.time c.post_at.result c.args.passes.now.items c.index_mut-pass.result.now c.post_at.new.pass c.requires.sits pass_is c.post_at.ensures.posted

pub returns-clause-same : goal.returns-clause-same
returns-clause-same g c = same_seen c.args.variables.now c.post_at.new.variables c.post_at.result c.post_at.ensures.same
