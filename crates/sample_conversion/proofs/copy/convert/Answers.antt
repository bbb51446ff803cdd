use Rattle.std.proofs.Common.{ap, ◌∙◌, List, ℕ, length}
use Rattle.sample_conversion.specs.Layouts.{last_bytes}
use Rattle.sample_conversion.proofs.{Shared.are_bytes, Sizes.converted_one}
use Rattle.sample_conversion.proofs.copy.convert.Goals as goal

pub returns : goal.returns
returns c = c.put.ensures ∙ (ap (λ (w : List ℕ). last_bytes (length c.args.to.now) w) c.padded.ensures ∙ converted_one c.args.from.now (length c.args.to.now) (are_bytes c.args.from.now c.type_inv.from) c.requires.from c.requires.to)
