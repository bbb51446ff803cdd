use Rattle.std.proofs.Common.{◌^◌}
use Rattle.std.proofs.lemmas.Result.{IfOk-weaker}
use Rattle.desk_threads.specs.PartLaws.{parts_after}
use Rattle.port_laws.specs.PortAccounts.{PortsMade}
use Rattle.wc_run.specs.Threads.{RunsFrom}
use Rattle.wc_run.proofs.Together.{run_settled}
use Rattle.wc_run.proofs.threads.run_desk.Goals as goal

pub returns-clause-parts : goal.returns-clause-parts
returns-clause-parts g c = parts_after c.args.desk.now (2 ^ 32) c.run_ports-traces.new.seats c.settle_desk.new.seats c.run_ports-traces.ensures.parts c.settle_desk.ensures.settled

pub returns-clause-runs : goal.returns-clause-runs
returns-clause-runs g c none = c.settle_desk.ensures.runs (c.run_ports-traces.ensures.runs none)

pub returns-clause-rested : goal.returns-clause-rested
returns-clause-rested g c = (c.run_ports-traces.new.seats, c.settle_desk.ensures.rested)

pub returns-clause-ran : goal.returns-clause-ran
returns-clause-ran g c =
    let s = c.args.script.now in
    let media = c.args.media.now in
    let desk = c.args.desk.now in
    let a = c.args.seats.now in
    let m = c.run_ports-traces.new.seats in
    let b = c.settle_desk.new.seats in
    let e = c.settle_desk.ensures in
    IfOk-weaker c.run_ports-traces.result (λ ts. RunsFrom s media (PortsMade s media) desk a ts.items m) (λ ts. RunsFrom s media (PortsMade s media) desk a ts.items b)
    (λ ts x paid none own. (let y = x paid none own in
    run_settled s media (PortsMade s media) desk ts.items m b e.settled e.calls (record { balanced = c.accounts_are_kept.ensures.kept desk m b e.settled y.paid.balanced; ordered = c.order_stands.ensures.kept desk m b e.settled y.paid.ordered }) y))
    c.run_ports-traces.ensures.ran

pub returns-clause-timed : goal.returns-clause-timed
returns-clause-timed g c fits fit each x =
    let desk = c.args.desk.now in
    let m = c.run_ports-traces.new.seats in
    let b = c.settle_desk.new.seats in
    c.time_stands.ensures.kept fits desk m b (g.K.Clock.told c.args.clock.now) (g.K.Clock.told c.settle_desk.new.clock) c.settle_desk.ensures.timed fit (c.run_ports-traces.ensures.timed fits each x)
