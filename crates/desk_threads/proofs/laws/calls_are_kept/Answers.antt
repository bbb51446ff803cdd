use Rattle.desk_threads.specs.CallLaws.{named_first, named_after, named_all}
use Rattle.desk_threads.proofs.laws.calls_are_kept.Goals as goal

pub returns-clause-first : goal.returns-clause-first
returns-clause-first g c = named_first

pub returns-clause-kept : goal.returns-clause-kept
returns-clause-kept g c = named_after

pub returns-clause-all : goal.returns-clause-all
returns-clause-all g c = named_all
