use Rattle.desk_threads.specs.AccountLaws.{balanced_first, balanced_after, balanced_all}
use Rattle.desk_threads.proofs.laws.accounts_are_kept.Goals as goal

pub returns-clause-first : goal.returns-clause-first
returns-clause-first g c = balanced_first

pub returns-clause-kept : goal.returns-clause-kept
returns-clause-kept g c = balanced_after

pub returns-clause-all : goal.returns-clause-all
returns-clause-all g c desk a = balanced_all desk a c.dues_add_up.ensures.slots c.dues_add_up.ensures.media
