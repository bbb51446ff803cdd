use Rattle.std.proofs.Common.{◌≡◌, refl, true, false, not, is_none, ◌&&◌, arith}
use Rattle.codec_model.specs.Replay.{may_call, removes, call_error}
use Rattle.codec_model.specs.StepLaws.{senders_stay}
use Rattle.codec_core.specs.Codec.{kept_box}
use Rattle.codec_core.proofs.Steps.{sent_moves, message_there, senders_take_none, most_reclaims}
use Rattle.codec_core.proofs.{Owning.keeps_called, Owning.control_at, Replies.core_called, Replies.replied}
use Rattle.codec_core.proofs.codec.Core.send.Given.{Over}
use Rattle.codec_core.proofs.codec.Core.send.Goals as goal

may : (g : Over) (c : goal.After-push g) → may_call c.args.call c.self.inside.machine ≡ true
may g c = rw (control_at c.self.invariant c.self.view_is) at c.requires.may

stays : (g : Over) (c : goal.After-push g) → removes c.args.call ≡ false
stays g c = let w = message_there c.args.call c.requires.sends in senders_stay c.args.call w.0 w.1

box : (g : Over) (c : goal.After-push g) → c.self.inside.slot ≡ kept_box (not (removes c.args.call && is_none (call_error c.args.call c.self.inside.machine))) c.self.inside.slot
box g c = rw (stays g c) refl

pub invariant_of-self-2 : goal.invariant_of-self-2
invariant_of-self-2 g c =
    let m = sent_moves c.self.invariant.kept c.args.who c.args.call c.requires.sends (may g c) c.in_ok-answer.ensures.ok in
    rw (c.push.ensures, c.in_ok-reserve.ensures.ok)
    (core_called c.self.invariant c.args.who c.args.call m c.self.inside.spare (box g c) _ _ c.in_ok-answer.ensures.answer.is_shown (senders_take_none c.args.call c.requires.sends) (
      omega (arith, c.in_ok-answer.ensures.left, c.in_ok-places.ensures, most_reclaims c.call-2.new.self.phase),
      rw c.in_ok-reserve.ensures.ok at c.in_ok-reserve.ensures.fits,
    ))

pub returns-clause-replied : goal.returns-clause-replied
returns-clause-replied g c =
    let m = sent_moves c.self.invariant.kept c.args.who c.args.call c.requires.sends (may g c) c.in_ok-answer.ensures.ok in
    rw (← c.self.view_is, c.push.ensures, c.in_ok-reserve.ensures.ok)
    (replied c.self.invariant c.args.who c.args.call m c.self.inside.spare (box g c) _ _ _ _ c.in_ok-answer.ensures.answer.is_place c.in_ok-answer.ensures.answer.is_exception (rw c.place.ensures at c.promise-promise.ensures) (rw (stays g c) refl) (rw c.requires.sends (omega arith)))

pub returns-clause-running : goal.returns-clause-running
returns-clause-running g c = keeps_called (returns-clause-replied g c).made
