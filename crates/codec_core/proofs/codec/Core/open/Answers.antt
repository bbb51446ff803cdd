use Rattle.std.proofs.Common.{refl, arith}
use Rattle.codec_model.specs.Replay.{opening_state}
use Rattle.codec_core.proofs.codec.Core.open.Goals as goal

pub invariant_of-result : goal.invariant_of-result
invariant_of-result g c = rw (c.in_ok-trace.ensures.empty, c.in_ok-machine.ensures) (record {
  kept = record {
    state = opening_state (record { kind = c.args.kind; saturation = c.args.saturation });
    replays = refl;
    is_control = refl;
    is_place = refl;
    home = record { idle = λ _ _. refl; out = λ r h. refl; busy = λ r h e. refl; stale = λ r h l. refl; older = λ r h. absurd cc };
    some_saturate = c.requires.low;
  };
  shows = refl;
  outputs = record { counted = refl; took = omega arith; others = refl };
  own = tt;
  lent = λ runs. absurd cc;
  places = omega (arith, c.in_ok-places.ensures);
  fits = rw c.in_ok-trace.ensures.empty at c.in_ok-trace.ensures.fits;
})
