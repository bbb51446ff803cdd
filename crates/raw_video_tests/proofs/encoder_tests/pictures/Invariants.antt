use Rattle.std.proofs.Common.{◌≡◌}
use Rattle.wc_config.specs.declared.codec.Role.TheVariants as role
use Rattle.coder_api.specs.Meaning.{IsConfigured}
use Rattle.raw_video_tests.proofs.encoder_tests.pictures.Given as goal

abbrev pub invariant-loop-unit : goal.invariant-loop-unit
invariant-loop-unit g l = record {
  ready : IsConfigured (g.C.Coder.meaning l.coder);
  decodes : (g.C.Coder.coder l.coder).role ≡ role.Decode;
}
