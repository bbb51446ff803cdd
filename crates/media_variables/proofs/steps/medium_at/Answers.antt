use Rattle.std.proofs.Common.{◌∙◌, ap, sym}
use Rattle.std.specs.Prelude.{option_map}
use Rattle.media_variables.specs.Held.{seen}
use Rattle.media_variables.proofs.Places.{seen_at, map_twice}
use Rattle.media_variables.proofs.steps.medium_at.Goals as goal

pub returns : goal.returns
returns c = map_twice seen _ c.whole_at.result ∙ (ap (option_map seen) c.whole_at.ensures ∙ sym (seen_at c.args.variables.now c.args.of))
