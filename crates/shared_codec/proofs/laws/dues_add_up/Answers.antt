use Rattle.shared_codec.specs.Dues.{slot_dues, media_dues, call_dues}
use Rattle.shared_codec.specs.Told.{end_dues}
use Rattle.shared_codec.specs.SumLaws as sums
use Rattle.shared_codec.proofs.laws.dues_add_up.Goals as goal

pub returns-clause-slots : goal.returns-clause-slots
returns-clause-slots c = sums.dues_add_up slot_dues

pub returns-clause-media : goal.returns-clause-media
returns-clause-media c = sums.dues_add_up media_dues

pub returns-clause-calls : goal.returns-clause-calls
returns-clause-calls c = sums.dues_add_up call_dues

pub returns-clause-ends : goal.returns-clause-ends
returns-clause-ends c = sums.dues_add_up end_dues
