use Rattle.std.proofs.Common.{Option, subst}
use Rattle.desk_callers.specs.declared.takes.FoundOutput.{FoundOutput}
use Rattle.desk_callers.specs.Takes.{IsTried}
use Rattle.desk_callers.proofs.Acting.{helped_none}
use Rattle.desk_callers.proofs.Growing.{stay_then}
use Rattle.desk_callers.proofs.Staying.{stay_helped}
use Rattle.desk_callers.proofs.Taking.{helped_then, found_since}
use Rattle.desk_callers.proofs.Ends.{no_ends, ends_more}
use Rattle.desk_callers.proofs.takes.find_output.Goals as goal

pub loop-init : goal.loop-init
loop-init g c = (tt, tt, c.requires.sits, helped_none c.args.desk.now c.args.seats.now c.requires.sits, λ none. none, no_ends c.args.desk.now c.args.seats.now c.requires.sits)

pub loop-preserved : goal.loop-preserved
loop-preserved g c = (
  tt,
  tt,
  c.in-Ok.ensures.sits,
  helped_then c.args.desk.now c.args.seats.now c.loop.seats c.try_output.new.seats c.loop.invariant.3
      (subst (λ (o : Option FoundOutput). IsTried c.args.desk.now c.args.who c.args.codec c.loop.seats c.try_output.new.seats o) c.in-None-tried.is c.in-Ok.ensures.tried),
  λ none. c.in-Ok.ensures.runs (c.loop.invariant.4 none),
  ends_more c.args.desk.now c.args.seats.now c.loop.seats c.try_output.new.seats c.loop.invariant.5 c.in-Ok.ensures.ends,
)

pub returns-in-Err-clause-stay : goal.returns-in-Err-clause-stay
returns-in-Err-clause-stay g c = stay_then c.args.desk.now c.args.seats.now c.loop.seats c.try_output.new.seats (stay_helped c.args.desk.now c.args.seats.now c.loop.seats c.loop.invariant.3) c.in-Err.ensures.stay

pub returns-in-Some-tried-clause-stay : goal.returns-in-Some-tried-clause-stay
returns-in-Some-tried-clause-stay g c = stay_then c.args.desk.now c.args.seats.now c.loop.seats c.try_output.new.seats (stay_helped c.args.desk.now c.args.seats.now c.loop.seats c.loop.invariant.3) c.in-Ok.ensures.stay

pub returns-in-Some-tried-clause-found : goal.returns-in-Some-tried-clause-found
returns-in-Some-tried-clause-found g c =
    found_since c.args.desk.now c.args.who c.args.codec c.in-Some-tried.found c.args.seats.now c.loop.seats c.try_output.new.seats c.loop.invariant.3
    (subst (λ (o : Option FoundOutput). IsTried c.args.desk.now c.args.who c.args.codec c.loop.seats c.try_output.new.seats o) c.in-Some-tried.is c.in-Ok.ensures.tried)

pub returns-in-Err-clause-ends : goal.returns-in-Err-clause-ends
returns-in-Err-clause-ends g c = ends_more c.args.desk.now c.args.seats.now c.loop.seats c.try_output.new.seats c.loop.invariant.5 c.in-Err.ensures.ends

pub returns-in-Some-tried-clause-ends : goal.returns-in-Some-tried-clause-ends
returns-in-Some-tried-clause-ends g c = ends_more c.args.desk.now c.args.seats.now c.loop.seats c.try_output.new.seats c.loop.invariant.5 c.in-Ok.ensures.ends
