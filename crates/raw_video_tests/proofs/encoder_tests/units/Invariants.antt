use Rattle.std.proofs.Common.{◌≡◌}
use Rattle.wc_config.specs.declared.codec.Role.TheVariants as role
use Rattle.coder_api.specs.Meaning.{IsConfigured}
use Rattle.raw_video_tests.proofs.encoder_tests.units.Given as goal

abbrev pub invariant-loop-number : goal.invariant-loop-number
invariant-loop-number g l = record {
  ready : IsConfigured (g.C.Coder.meaning l.coder);
  encodes : (g.C.Coder.coder l.coder).role ≡ role.Encode;
}
