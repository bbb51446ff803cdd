use Rattle.std.proofs.Common.{◌∙◌}
use Rattle.lock_speed.proofs.make_passes.Goals as goal

pub pass-requires : goal.pass-requires
pass-requires g c = (c.loop.invariant.0.0 ∙ c.requires.0, c.loop.invariant.0.1)
