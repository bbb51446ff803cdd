use Rattle.run_model.specs.FitsLaws as laws
use Rattle.run_model.proofs.laws.fits_by_places.Goals as goal

pub returns-clause-calls : goal.returns-clause-calls
returns-clause-calls c = laws.calls_by_places

pub returns-clause-order : goal.returns-clause-order
returns-clause-order c = laws.order_by_places
