use Rattle.std.proofs.Common.{refl, sym}
use Rattle.run_model.proofs.Places.{steps_read, steps_past}
use Rattle.run_model.proofs.chunks.steps_of.Goals as goal

pub returns-in-Some : goal.returns-in-Some
returns-in-Some c =
    let read = c.in-Some.ensures.lookup in
    rw (c.as_slice-in-Some.ensures, sym c.as_slice.ensures, steps_read c.args.caller c.as_slice.result.now c.in-Some.caller.now read.3.0 read.1) refl

pub returns-in-None : goal.returns-in-None
returns-in-None c = rw (sym c.as_slice.ensures, steps_past c.args.caller c.as_slice.result.now c.in-None.ensures.lookup.3) refl
