use Rattle.std.proofs.Common.{◌≡◌}
use Rattle.wc_config.specs.declared.codec.Role.TheVariants as role
use Rattle.coder_api.specs.Meaning.{IsConfigured}
use Rattle.raw_speed.proofs.encode.Given as goal

abbrev pub invariant-loop-round : goal.invariant-loop-round
invariant-loop-round g l = record {
  ready : IsConfigured (g.C.Coder.meaning l.coder);
  encodes : (g.C.Coder.coder l.coder).role ≡ role.Encode;
}
