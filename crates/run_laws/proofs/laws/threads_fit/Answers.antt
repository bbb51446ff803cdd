use Rattle.run_laws.proofs.Fitting.{fits_as_tried}
use Rattle.run_laws.proofs.laws.threads_fit.Goals as goal

pub returns : goal.returns
returns c = fits_as_tried
