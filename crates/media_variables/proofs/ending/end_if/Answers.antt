use Rattle.std.proofs.Common.{Option, ap, map}
use Rattle.std.specs.Prelude.{slice_get}
use Rattle.codec_model.specs.Held.{in_order}
use Rattle.wc_pool.specs.declared.reference.MediaRef.{MediaRef}
use Rattle.media_variables.specs.Held.{pair_of}
use Rattle.media_variables.proofs.ending.end_if.Goals as goal

pub end_reference-requires : goal.end_reference-requires
end_reference-requires c =
    c.requires.lives 0 (pair_of c.in-Some.r) (ap (λ (o : Option MediaRef). slice_get (map pair_of (in_order o)) 0) c.in-Some.is)
