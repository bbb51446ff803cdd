use Rattle.std.proofs.Common.{Some, subst}
use Rattle.codec_accounts.specs.ListLaws.{get_some}
use Rattle.report_text.specs.declared.result.StepResult.{StepResult}
use Rattle.media_variables.specs.Held.{seen_in}
use Rattle.media_variables.specs.Variables.{unit_came}
use Rattle.desk_callers.specs.declared.takes.FoundOutput.{FoundOutput}
use Rattle.desk_callers.specs.Acts.{TookAs}
use Rattle.desk_callers.specs.Takes.{IsFound}
use Rattle.desk_callers.proofs.Growing.{stay_then}
use Rattle.desk_callers.proofs.Own.{stay_pool}
use Rattle.desk_callers.proofs.TakeActs.{keeps_taken, did_take, none_acted}
use Rattle.desk_callers.proofs.takes.take_step.Goals as goal

pub take_at-requires-clause-seat : goal.take_at-requires-clause-seat
take_at-requires-clause-seat g c = c.find_output.ensures.sits.pool

pub take_at-requires-clause-enough : goal.take_at-requires-clause-enough
take_at-requires-clause-enough g c = (let took : TookAs c.args.desk.now c.args.who c.args.codec c.in-Taken.place c.in-Taken.number c.in-Taken.unit c.args.seats.now c.find_output.new.seats = (subst (λ (f : FoundOutput). IsFound c.args.desk.now c.args.who c.args.codec c.args.seats.now c.find_output.new.seats f) c.in-Taken.is c.in_ok-found.ensures.found) in took.enough)

pub returns-in-Taken-clause-stay : goal.returns-in-Taken-clause-stay
returns-in-Taken-clause-stay g c =
    let answer = StepResult.Unit c.args.codec c.in-Taken.place c.in-Taken.number in
    let kept = keeps_taken c.args.desk.now c.find_output.new.seats.pool c.take_at.new.seat c.args.who (λ n. Some (unit_came n c.args.who.step answer c.in-Taken.unit (seen_in c.args.variables.now))) (seen_in c.args.variables.now) (seen_in c.take_at.new.variables) c.take_at.result
    c.take_at.ensures.seat c.take_at.ensures.free c.take_at.ensures.acts c.take_at.ensures.err in
    stay_then c.args.desk.now c.args.seats.now c.find_output.new.seats _ c.find_output.ensures.stay (stay_pool c.args.desk.now c.find_output.new.seats c.take_at.new.seat c.find_output.ensures.sits kept)

pub returns-in-Taken-clause-sits : goal.returns-in-Taken-clause-sits
returns-in-Taken-clause-sits g c = record { codecs = c.find_output.ensures.sits.codecs; pool = c.take_at.ensures.free; slots = c.find_output.ensures.sits.slots }

pub returns-in-Taken-clause-did : goal.returns-in-Taken-clause-did
returns-in-Taken-clause-did g c =
    let answer = StepResult.Unit c.args.codec c.in-Taken.place c.in-Taken.number in
    let kept = keeps_taken c.args.desk.now c.find_output.new.seats.pool c.take_at.new.seat c.args.who (λ n. Some (unit_came n c.args.who.step answer c.in-Taken.unit (seen_in c.args.variables.now))) (seen_in c.args.variables.now) (seen_in c.take_at.new.variables) c.take_at.result
    c.take_at.ensures.seat c.take_at.ensures.free c.take_at.ensures.acts c.take_at.ensures.err in
    did_take c.args.script.now c.args.media.now c.args.desk.now c.args.results.now c.args.seats.now c.find_output.new.seats c.take_at.new.seat (seen_in c.args.variables.now) (seen_in c.take_at.new.variables) c.args.who c.args.codec c.args.bind.now c.args.kind
    c.in-Taken.place c.in-Taken.number c.in-Taken.unit c.take_at.result c.requires.codec c.requires.opened c.find_output.ensures.sits (subst (λ (f : FoundOutput). IsFound c.args.desk.now c.args.who c.args.codec c.args.seats.now c.find_output.new.seats f) c.in-Taken.is c.in_ok-found.ensures.found) kept c.take_at.ensures.acts

pub returns-in-Nothing-clause-did : goal.returns-in-Nothing-clause-did
returns-in-Nothing-clause-did g c =
    let there = get_some c.args.desk.now.codecs.items c.args.codec c.requires.codec in
    none_acted c.args.script.now c.args.media.now c.args.desk.now c.args.results.now c.args.seats.now c.find_output.new.seats (seen_in c.args.variables.now) c.args.who c.args.codec c.args.bind.now c.args.kind c.in-Nothing.length there.0 there.1 c.requires.opened (subst (λ (f : FoundOutput). IsFound c.args.desk.now c.args.who c.args.codec c.args.seats.now c.find_output.new.seats f) c.in-Nothing.is c.in_ok-found.ensures.found)
