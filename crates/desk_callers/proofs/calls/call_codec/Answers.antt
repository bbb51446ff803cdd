use Rattle.shared_codec.specs.Settled.{AnswerTells}
use Rattle.codec_desk.specs.StepLaws.{ends_answered}
use Rattle.desk_callers.proofs.Calling.{called_as}
use Rattle.desk_callers.proofs.Ends.{ends_at}
use Rattle.desk_callers.proofs.calls.call_codec.Goals as goal

pub returns-in-Ok-clause-called : goal.returns-in-Ok-clause-called
returns-in-Ok-clause-called g c =
    called_as c.args.desk.now c.args.who c.args.codec c.args.call c.in-Ok.answer c.args.seats.now c.call_once.new.seats c.in-Ok.ensures.settled c.in-Ok.ensures.calls c.in-Ok.ensures.called

pub returns-in-Err-clause-err : goal.returns-in-Err-clause-err
returns-in-Err-clause-err g c = record { settled = c.in-Err.ensures.settled; calls = c.in-Err.ensures.calls }

pub returns-in-Ok-clause-ends : goal.returns-in-Ok-clause-ends
returns-in-Ok-clause-ends g c =
    ends_at c.args.desk.now c.args.seats.now _ c.requires.sits c.args.codec (λ s a b. AnswerTells s c.args.who c.args.call c.call_once.result a b) (ends_answered c.args.who c.args.call c.call_once.result) c.call_once.ensures.called

pub returns-in-Err-clause-ends : goal.returns-in-Err-clause-ends
returns-in-Err-clause-ends g c =
    ends_at c.args.desk.now c.args.seats.now _ c.requires.sits c.args.codec (λ s a b. AnswerTells s c.args.who c.args.call c.call_once.result a b) (ends_answered c.args.who c.args.call c.call_once.result) c.call_once.ensures.called
