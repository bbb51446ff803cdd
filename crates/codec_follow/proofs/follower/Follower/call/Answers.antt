use Rattle.std.proofs.Common.{rules, ap, ◌∙◌, Some}
use Rattle.codec_model.specs.declared.entry.Shown.{Shown}
use Rattle.codec_follow.proofs.Moves.{call_follows}
use Rattle.codec_follow.proofs.follower.Follower.call.Goals as goal

pub returns-clause-follows : goal.returns-clause-follows
returns-clause-follows c =
    λ who. rw (← c.self.view_is)
    (call_follows who c.args.call.now _ _ _ _ (search rules) (ap (λ (x : Shown). Some x) (c.in_ok-shown.ensures ∙ c.in_ok-answer.ensures.answer.is_shown)) c.in_ok-answer.ensures.ok (search rules))
