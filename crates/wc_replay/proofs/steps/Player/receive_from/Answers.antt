use Rattle.std.proofs.Common.{◌≡◌, Some, None, refl, ap, sym, subst, ◌∙◌}
use Rattle.std.proofs.lemmas.Result.{on_ok_weaker}
use Rattle.codec_accounts.specs.Owed.{at, append_at}
use Rattle.report_text.specs.declared.result.StepResult.{StepResult}
use Rattle.media_variables.specs.Variables.{Received, received_came, variables_of}
use Rattle.media_variables.specs.Held.{AreApart}
use Rattle.media_accounts.specs.Accounts.{AreLent}
use Rattle.run_model.specs.Follow.{Course, after_move, front_of, get_move, waiting_at}
use Rattle.order_laws.specs.Course.{held_by_all, pairs_waiting}
use Rattle.wc_replay.proofs.PortMoves.{answer_leaves, front_apart, get_moves, pairs_whole}
use Rattle.wc_replay.proofs.steps.Player.receive_from.Goals as goal

pub receive-requires-clause-apart : goal.receive-requires-clause-apart
receive-requires-clause-apart g c =
    let p = c.self.inside in
    let v : Course = record { callers = p.callers.items; codecs = p.desks.items; media = p.media; slots = p.slots; ports = p.ports.items } in
    let lent = subst (λ (u : Course). AreLent u.media.pool u.media.variables (held_by_all u)) (sym c.self.view_is) c.requires.lent in
    let front : Some c.in-Some.posted ≡ front_of (at c.args.port v.ports) = sym c.in-Some.is ∙ c.take_at.ensures.front in
    subst (AreApart p.media.pool p.media.variables) (ap (λ (q : Received). pairs_waiting q.medium.held) (sym c.posted.view_is) ∙ pairs_whole c.posted.inside.medium) (front_apart v c.args.port c.in-Some.posted front lent)

pub returns-in-None : goal.returns-in-None
returns-in-None g c =
    let p = c.self.inside in
    let who = c.args.who in
    let port = c.args.port in
    let v : Course = record { callers = p.callers.items; codecs = p.desks.items; media = p.media; slots = p.slots; ports = p.ports.items } in
    let none : None ≡ waiting_at port v = sym c.in-None.is ∙ c.take_at.ensures.front in
    let move = get_moves v who port StepResult.Nothing None v.media (append_at who.caller StepResult.Nothing v.callers) c.take_at.new.ports.items none (refl, sym (answer_leaves who StepResult.Nothing v.media)) c.take_at.ensures.rest refl in
    let seen = ap (λ (u : Course). after_move (get_move who port (Some (received_came who.step (waiting_at port u) (variables_of who.caller u.media.variables)))) u) c.self.view_is in
    on_ok_weaker c.answer.result (λ told. told ∙ (move ∙ seen)) c.answer.ensures
