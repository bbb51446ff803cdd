use Rattle.std.proofs.Common.{map, ap, ◌∙◌}
use Rattle.media_variables.specs.Variables.{variables_of}
use Rattle.media_variables.specs.Held.{seen_in}
use Rattle.media_variables.proofs.Places.{seen_read, seen_without}
use Rattle.media_variables.proofs.PortLaws.{posted_answer, posted_medium, posted_set}
use Rattle.media_variables.proofs.callers.caller_post.Goals as goal

pub returns-clause-came : goal.returns-clause-came
returns-clause-came c =
    let all = c.args.callers.now.items in
    let k = c.args.who.caller in
    let vs = c.in-Some.variables.now in
    let read = seen_read k all vs c.requires c.in-Some.ensures.value in
    let went = ap seen_in c.post.ensures.detached ∙ seen_without c.args.variable vs in
    (posted_answer c.args.variable (variables_of k (map seen_in all)) vs _ read c.post.ensures.answer, posted_set k c.args.variable all vs c.post.new.self read went)

pub returns-clause-posted : goal.returns-clause-posted
returns-clause-posted c =
    let all = c.args.callers.now.items in
    let k = c.args.who.caller in
    let vs = c.in-Some.variables.now in
    posted_medium c.args.variable (variables_of k (map seen_in all)) vs _ (seen_read k all vs c.requires c.in-Some.ensures.value) c.post.ensures.medium
