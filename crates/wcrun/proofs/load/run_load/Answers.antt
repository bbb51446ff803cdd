use Rattle.std.proofs.Common.{sym, subst}
use Rattle.wcrun.specs.Headline.{writing}
use Rattle.wcrun.specs.Load.{IsLoaded}
use Rattle.wcrun.proofs.Headlines.{headline_of_memory}
use Rattle.wcrun.proofs.Loads.{headline_of_load, decides_load, complete_load, ends_whole, ends_cut}
use Rattle.wcrun.proofs.load.run_load.Goals as goal

pub returns-in-Ok-clause-headline : goal.returns-in-Ok-clause-headline
returns-in-Ok-clause-headline g c r asked =
    headline_of_load r _ _ c.args.load c.as_str.result.now asked (subst (IsLoaded c.args.load _) (sym c.as_str.ensures.value) c.in-Ok.ensures) c.tell.ensures

pub returns-in-Ok-clause-decided : goal.returns-in-Ok-clause-decided
returns-in-Ok-clause-decided g c r asked = decides_load r _ _ c.args.load asked (ends_whole _ _ c.tell.ensures)

pub returns-in-Ok-clause-complete : goal.returns-in-Ok-clause-complete
returns-in-Ok-clause-complete g c r asked =
    complete_load r (writing (g.S.Sink.told c.args.sink.now) (g.S.Sink.told c.tell.new.sink) (g.S.Sink.faults c.args.sink.now) (g.S.Sink.faults c.tell.new.sink) c.tell.result) c.args.load
    (ends_whole _ _ c.tell.ensures) c.tell.ensures.failed

pub returns-in-Err-clause-headline : goal.returns-in-Err-clause-headline
returns-in-Err-clause-headline g c r asked = headline_of_memory r _ _ c.want_memory.ensures

pub returns-in-Err-clause-decided : goal.returns-in-Err-clause-decided
returns-in-Err-clause-decided g c r asked = decides_load r _ _ c.args.load asked (ends_cut _ c.want_memory.ensures)

pub returns-in-Err-clause-complete : goal.returns-in-Err-clause-complete
returns-in-Err-clause-complete g c r asked =
    complete_load r (writing (g.S.Sink.told c.args.sink.now) (g.S.Sink.told c.want_memory.new.sink) (g.S.Sink.faults c.args.sink.now) (g.S.Sink.faults c.want_memory.new.sink) c.want_memory.result) c.args.load
    (ends_cut _ c.want_memory.ensures) c.want_memory.ensures.failed
