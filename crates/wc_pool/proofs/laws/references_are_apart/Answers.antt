use Rattle.wc_pool.proofs.Legal.{legal_numbered}
use Rattle.wc_pool.proofs.Once.{made_are_new}
use Rattle.wc_pool.proofs.laws.references_are_apart.Goals as goal

pub returns-clause-made : goal.returns-clause-made
returns-clause-made c = made_are_new

pub returns-clause-live : goal.returns-clause-live
returns-clause-live c = λ h f r legal live. ((legal_numbered h legal).references f r live, (legal_numbered h legal).resources f r live)
