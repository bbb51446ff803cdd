use Rattle.std.proofs.Common.{List, length, sym, ap, subst, ◌∙◌}
use Rattle.std.proofs.lemmas.Result.{IfOk-weaker}
use Rattle.desk_callers.specs.Passes.{ArePasses}
use Rattle.port_laws.specs.PortAccounts.{PortsMade}
use Rattle.script_types.specs.declared.script.PortItem.{PortItem}
use Rattle.shared_port.specs.Ports.{PortId}
use Rattle.wc_run.specs.Ports.{KnowAll}
use Rattle.wc_run.specs.Threads.{RunsFrom}
use Rattle.wc_run.proofs.Delivered.{ports_made}
use Rattle.wc_run.proofs.Together.{run_known}
use Rattle.wc_run.proofs.threads.run_ports.Goals as goal

pub finish_ports-requires-clause-passes : goal.finish_ports-requires-clause-passes
finish_ports-requires-clause-passes g c = (c.args.desk.now.pool, c.open_ports.ensures.passes)

pub run_threads-traces-requires-clause-ports : goal.run_threads-traces-requires-clause-ports
run_threads-traces-requires-clause-ports g c κs within =
    sym (ap (λ (l : List PortItem). length l) c.as_slice-count.ensures) ∙ (sym c.in-Ok-open_ports.ensures.all ∙ sym (ap (λ (l : List PortId). length l) c.as_slice.ensures.value))

pub run_threads-traces-requires-clause-passes : goal.run_threads-traces-requires-clause-passes
run_threads-traces-requires-clause-passes g c κs within = subst (λ (l : List PortId). ArePasses c.args.desk.now.pool l c.open_ports.new.passes.items) (sym c.as_slice.ensures.value) c.open_ports.ensures.passes

pub run_threads-traces-requires-clause-unused : goal.run_threads-traces-requires-clause-unused
run_threads-traces-requires-clause-unused g c κs within = c.open_ports.ensures.unused

pub run_threads-traces-requires-clause-parts : goal.run_threads-traces-requires-clause-parts
run_threads-traces-requires-clause-parts g c κs within = record { seats = c.requires.parts; passes = c.open_ports.ensures.parts }

pub finish_ports-requires-2-clause-passes : goal.finish_ports-requires-2-clause-passes
finish_ports-requires-2-clause-passes g c =
    (c.args.desk.now.pool, subst (λ (l : List PortId). ArePasses c.args.desk.now.pool l c.run_threads-traces.new.passes.items) c.as_slice.ensures.value c.run_threads-traces.ensures.passes)

pub finish_ports-requires-2-clause-parts : goal.finish_ports-requires-2-clause-parts
finish_ports-requires-2-clause-parts g c = c.run_threads-traces.ensures.parts.passes

pub returns-clause-parts : goal.returns-clause-parts
returns-clause-parts g c = c.run_threads-traces.ensures.parts.seats

pub returns-clause-ran : goal.returns-clause-ran
returns-clause-ran g c =
    let s = c.args.script.now in
    let media = c.args.media.now in
    let desk = c.args.desk.now in
    let a = c.args.seats.now in
    let b = c.run_threads-traces.new.seats in
    let ps = c.run_threads-traces.new.passes.items in
    let e = c.run_threads-traces.ensures in
    let many = e.passes.many ∙ (ap (λ (l : List PortId). length l) c.as_slice.ensures.value ∙ (c.in-Ok-open_ports.ensures.all ∙ ap (λ (l : List PortItem). length l) c.as_slice-count.ensures)) in
    IfOk-weaker c.run_threads-traces.result (λ ts. RunsFrom s media (KnowAll s media ps) desk a ts.items b) (λ ts. RunsFrom s media (PortsMade s media) desk a ts.items b)
    (λ ts x paid none own. run_known s media (KnowAll s media ps) (PortsMade s media) desk ts.items b (λ deeds. ports_made s media ps deeds many c.finish_ports-2.ensures) (x paid none own)) e.ran
