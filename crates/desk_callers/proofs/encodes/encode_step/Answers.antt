use Rattle.std.proofs.Common.{sym}
use Rattle.codec_accounts.specs.ListLaws.{get_some}
use Rattle.media_variables.specs.Held.{seen_in}
use Rattle.media_variables.specs.Variables.{lendable_at}
use Rattle.desk_callers.proofs.Encoding.{absent_medium}
use Rattle.desk_callers.proofs.Staying.{stay_none}
use Rattle.desk_callers.proofs.TakeActs.{did_encode, no_encode}
use Rattle.desk_callers.proofs.Ends.{no_ends}
use Rattle.desk_callers.proofs.encodes.encode_step.Goals as goal

pub returns-in-Absent-clause-stay : goal.returns-in-Absent-clause-stay
returns-in-Absent-clause-stay g c = stay_none c.args.desk.now c.args.seats.now c.requires.sits

pub returns-in-Absent-clause-did : goal.returns-in-Absent-clause-did
returns-in-Absent-clause-did g c =
    let vs = seen_in c.args.variables.now in
    no_encode c.args.script.now c.args.media.now c.args.desk.now c.args.results.now c.args.seats.now vs c.args.who c.args.codec c.args.content.now c.requires.sits (absent_medium (lendable_at vs c.args.content.now.step) (sym c.in-Absent.ensures))

pub encode_gone-requires-clause-gone : goal.encode_gone-requires-clause-gone
encode_gone-requires-clause-gone g c κs within = sym c.in-Detached.ensures

pub returns-in-Detached-clause-did : goal.returns-in-Detached-clause-did
returns-in-Detached-clause-did g c =
    let there = get_some c.args.desk.now.codecs.items c.args.codec c.requires.codec in
    did_encode c.args.script.now c.args.media.now c.args.desk.now c.args.results.now c.args.seats.now c.encode_gone.new.seats (seen_in c.args.variables.now) c.args.who c.args.codec c.args.content.now c.encode_gone.result there.0 there.1 c.requires.opened c.encode_gone.ensures.encoded

pub encode_open-requires-clause-open : goal.encode_open-requires-clause-open
encode_open-requires-clause-open g c κs within = sym c.in-Open.ensures

pub returns-in-Open-clause-did : goal.returns-in-Open-clause-did
returns-in-Open-clause-did g c =
    let there = get_some c.args.desk.now.codecs.items c.args.codec c.requires.codec in
    did_encode c.args.script.now c.args.media.now c.args.desk.now c.args.results.now c.args.seats.now c.encode_open.new.seats (seen_in c.args.variables.now) c.args.who c.args.codec c.args.content.now c.encode_open.result there.0 there.1 c.requires.opened c.encode_open.ensures.encoded

pub returns-in-Absent-clause-ends : goal.returns-in-Absent-clause-ends
returns-in-Absent-clause-ends g c = no_ends c.args.desk.now c.args.seats.now c.requires.sits
