use Rattle.std.proofs.Common.{ℕ, Option, List, None, refl, ap, sym, subst, arith}
use Rattle.shared_pool.specs.Refs.{IsPoolRef}
use Rattle.shared_port.specs.declared.rule.PortView.{PortView}
use Rattle.shared_port.specs.Ports.{seen}
use Rattle.media_variables.specs.Held.{AreOf, WholeMedium}
use Rattle.shared_variables.specs.Ports.{WholeParcel}
use Rattle.shared_variables.proofs.Posting.{got_received, got_same, got_held}
use Rattle.shared_variables.proofs.ports.receive_at.Goals as goal

pub returns-in_err-make_room-clause-held : goal.returns-in_err-make_room-clause-held
returns-in_err-make_room-clause-held g c = subst (λ (l : List (Option WholeMedium)). AreOf (IsPoolRef c.args.port.now.pool) l) (sym c.make_room.ensures) c.requires.held

pub time_behind-requires : goal.time_behind-requires
time_behind-requires g c =
    let is = ap (λ (p : WholeParcel). p.time) c.parcel.view_is in
    let few = c.in-Some.ensures.of.1 in
    omega (arith, is, few)

pub returns-in-Some-clause-parts : goal.returns-in-Some-clause-parts
returns-in-Some-clause-parts g c = ap (λ (v : PortView WholeParcel). v.parts) c.in-Some.ensures.received.view

pub returns-in-Some-clause-received : goal.returns-in-Some-clause-received
returns-in-Some-clause-received g c =
    got_received c.args.who c.in-Some.posted _ c.args.variables.now _ _ (ap (λ (p : WholeParcel). p.medium) c.parcel.view_is) c.make_room.ensures (seen c.args.pass.now) (seen c.receive-received.new.pass) c.args.time.now _ c.receive.result c.in-Some.ensures.received (let sent : ℕ = c.in-Some.posted.1.time in let is = ap (λ (p : WholeParcel). p.time) c.parcel.view_is in let behind = c.time_behind.ensures in (behind.0, omega (arith, behind.1, is))) c.receive.ensures.ok c.receive.ensures.variables

pub returns-in-Some-clause-held : goal.returns-in-Some-clause-held
returns-in-Some-clause-held g c =
    got_held c.args.who c.in-Some.posted _ c.args.variables.now _ _ (ap (λ (p : WholeParcel). p.medium) c.parcel.view_is) c.make_room.ensures c.args.port.now.pool c.receive.result c.in-Some.ensures.of.0 c.requires.held c.receive.ensures.variables c.receive.ensures.err

pub returns-in-Some-clause-same : goal.returns-in-Some-clause-same
returns-in-Some-clause-same g c = got_same c.args.who c.in-Some.posted _ c.args.variables.now _ _ (ap (λ (p : WholeParcel). p.medium) c.parcel.view_is) c.make_room.ensures c.receive.result c.receive.ensures.err

pub returns-in-None-clause-parts : goal.returns-in-None-clause-parts
returns-in-None-clause-parts g c = ap (λ (v : PortView WholeParcel). v.parts) c.in-None.ensures.received.view

pub returns-in-None-clause-received : goal.returns-in-None-clause-received
returns-in-None-clause-received g c = record { received = None; told = c.in-None.ensures.received; later = refl; taken = (refl, c.make_room.ensures) }

pub returns-in-None-clause-held : goal.returns-in-None-clause-held
returns-in-None-clause-held g c = subst (λ (l : List (Option WholeMedium)). AreOf (IsPoolRef c.args.port.now.pool) l) (sym c.make_room.ensures) c.requires.held
