use Rattle.std.proofs.Common.{rules, ap, sym, Some}
use Rattle.codec_model.specs.declared.entry.Shown.{Shown}
use Rattle.codec_follow.proofs.Moves.{start_follows}
use Rattle.codec_follow.proofs.follower.Follower.start.Goals as goal

pub returns-clause-follows : goal.returns-clause-follows
returns-clause-follows c =
    rw (← c.self.view_is)
    (start_follows c.args.epoch c.args.item c.in-Some.next.now _ _ _ _ (sym c.in-Some.ensures) (search rules) (search rules) (ap (λ (x : Shown). Some x) c.in_ok-into_shown.ensures) c.start.ensures.after c.known_after_item-known.ensures)
