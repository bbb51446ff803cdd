use Rattle.std.proofs.Common.{refl}
use Rattle.row_tests.proofs.follow_rows.ordinary_followed.Goals as goal

pub returns-clause-fills : goal.returns-clause-fills
returns-clause-fills c = refl
