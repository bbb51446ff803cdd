use Rattle.std.proofs.Common.{◌≡◌, ◌++◌, List, map, take}
use Rattle.std.specs.Prelude.{vec_len, vec_capacity}
use Rattle.codec_model.specs.declared.entry.PromiseEnd.{PromiseEnd}
use Rattle.codec_core.specs.Trace.{AreStates, rejected}
use Rattle.codec_core.proofs.trace.reject_promises.Given as goal

abbrev pub invariant-loop-promise : goal.invariant-loop-promise
invariant-loop-promise l = record {
  states : (ends : List PromiseEnd) → AreStates l.initial.states.items ends → AreStates l.states.items (ends ++ map (rejected l.error) (take l.promise-index l.promises));
  len : vec_len l.states ≡ vec_len l.initial.states;
  capacity : vec_capacity l.states ≡ vec_capacity l.initial.states;
}
