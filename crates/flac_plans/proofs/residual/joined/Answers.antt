use Rattle.flac_plans.proofs.HeldLaws.{joined_bits, joined_word}
use Rattle.flac_plans.proofs.residual.joined.Goals as goal

pub returns-clause-bits : goal.returns-clause-bits
returns-clause-bits c = joined_bits c.args.held c.args.count c.args.value c.requires.held c.requires.room c.requires.value

pub returns-clause-word : goal.returns-clause-word
returns-clause-word c = joined_word c.args.held c.args.count c.args.value c.requires.held c.requires.room c.requires.value
