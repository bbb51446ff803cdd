use Rattle.call_laws.specs.CallLaws.{calls_are_in, arguments_are_in}
use Rattle.call_laws.proofs.laws.calls_stand_once.Goals as goal

pub returns-clause-calls : goal.returns-clause-calls
returns-clause-calls c = calls_are_in

pub returns-clause-arguments : goal.returns-clause-arguments
returns-clause-arguments c = arguments_are_in
