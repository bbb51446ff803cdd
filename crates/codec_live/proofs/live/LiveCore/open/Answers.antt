use Rattle.std.proofs.Common.{refl}
use Rattle.codec_model.specs.Replay.{opening_state}
use Rattle.codec_live.proofs.live.LiveCore.open.Goals as goal

pub returns-clause-stands : goal.returns-clause-stands
returns-clause-stands g c = rw c.in_ok-machine.ensures (record {
  state = opening_state (record { kind = c.args.kind; saturation = c.args.saturation });
  replays = refl;
  is_control = refl;
  is_place = refl;
  home = record { idle = λ _ _. refl; out = λ r h. refl; busy = λ r h e. refl; stale = λ r h l. refl; older = λ r h. absurd cc };
  some_saturate = c.requires.low;
})
