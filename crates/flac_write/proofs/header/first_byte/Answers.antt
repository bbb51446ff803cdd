use Rattle.flac_write.proofs.NumberLaws.{first_value, first_below}
use Rattle.flac_write.proofs.header.first_byte.Goals as goal

pub returns-clause-value : goal.returns-clause-value
returns-clause-value c = first_value c.args.count c.args.n

pub returns-clause-bound : goal.returns-clause-bound
returns-clause-bound c = first_below c.args.count c.args.n c.requires.some c.requires.few c.requires.fits
