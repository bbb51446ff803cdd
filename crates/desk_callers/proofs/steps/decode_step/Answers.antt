use Rattle.std.proofs.Common.{refl, ap, sym, subst, ◌∙◌}
use Rattle.codec_model.specs.declared.entry.Call.{Call}
use Rattle.script_types.specs.declared.steps.Step.{Step}
use Rattle.script_types.specs.Names.{called}
use Rattle.media_accounts.specs.Accounts.{media_of}
use Rattle.media_variables.specs.Held.{seen_in}
use Rattle.run_model.specs.Fits.{HasArguments}
use Rattle.run_model.specs.Recorded.{chunk_for}
use Rattle.report_text.specs.declared.result.StepResult.{StepResult}
use Rattle.desk_callers.specs.Acts.{Did}
use Rattle.desk_callers.proofs.Acting.{absent_acted}
use Rattle.desk_callers.proofs.Staying.{stay_none}
use Rattle.desk_callers.proofs.Ends.{no_ends}
use Rattle.desk_callers.proofs.steps.decode_step.Goals as goal

pub returns-in_err-found-clause-stay : goal.returns-in_err-found-clause-stay
returns-in_err-found-clause-stay g c = stay_none c.args.desk.now c.args.seats.now c.requires.sits

pub called_step-requires-clause-plain : goal.called_step-requires-clause-plain
called_step-requires-clause-plain g c κs within = ap media_of c.requires.asked

pub called_step-requires-clause-called : goal.called_step-requires-clause-called
called_step-requires-clause-called g c κs within = ap called c.requires.asked

pub called_step-requires-clause-arguments : goal.called_step-requires-clause-arguments
called_step-requires-clause-arguments g c κs within =
    let vs = seen_in c.args.variables.now in
    subst (λ (x : Step). HasArguments c.args.script.now c.args.media.now vs c.args.who.caller (Call.Decode c.in-Some.value) x) (sym c.requires.asked)
    (c.in-Some.value, ap (λ l. chunk_for c.args.media.now l vs c.args.chunk.now.step) c.requires.steps ∙ (sym c.in_ok-found.ensures ∙ c.in-Some.is), refl)

pub returns-in-None-clause-stay : goal.returns-in-None-clause-stay
returns-in-None-clause-stay g c = stay_none c.args.desk.now c.args.seats.now c.requires.sits

pub returns-in-None-clause-did : goal.returns-in-None-clause-did
returns-in-None-clause-did g c =
    let vs = seen_in c.args.variables.now in
    subst (λ (x : Step). Did c.args.script.now c.args.media.now c.args.desk.now c.args.who x c.args.results.now c.args.seats.now c.args.seats.now vs vs StepResult.Absent) (sym c.requires.asked)
    (absent_acted c.args.script.now c.args.media.now c.args.desk.now c.args.results.now c.args.seats.now vs c.args.who c.args.codec c.args.chunk.now c.requires.sits (ap (λ l. chunk_for c.args.media.now l vs c.args.chunk.now.step) c.requires.steps ∙ (sym c.in_ok-found.ensures ∙ c.in-None.is)))

pub returns-in_err-found-clause-ends : goal.returns-in_err-found-clause-ends
returns-in_err-found-clause-ends g c = no_ends c.args.desk.now c.args.seats.now c.requires.sits

pub returns-in-None-clause-ends : goal.returns-in-None-clause-ends
returns-in-None-clause-ends g c = no_ends c.args.desk.now c.args.seats.now c.requires.sits
