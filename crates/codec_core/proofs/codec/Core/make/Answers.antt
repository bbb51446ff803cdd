use Rattle.std.proofs.Common.{◌≡◌, ◌-◌, ap, true, not, is_none, ◌&&◌, arith}
use Rattle.codec_model.specs.Replay.{may_call, removes, call_error}
use Rattle.codec_accounts.specs.Boxes.{removal_act}
use Rattle.codec_core.specs.Codec.{Codec, kept_box}
use Rattle.codec_core.proofs.Steps.{made_moves, place_kept}
use Rattle.codec_core.proofs.Recorded.{call_ends}
use Rattle.codec_core.proofs.Owning.{at_home, control_at, keeps_called, back_removal}
use Rattle.codec_core.specs.ReplyLaws.{removes_by_exception}
use Rattle.codec_core.proofs.Replies.{core_called, replied, twice}
use Rattle.codec_core.proofs.codec.Core.make.Given.{Over}
use Rattle.codec_core.proofs.codec.Core.make.Goals as goal

pub push-requires-clause-ends : goal.push-requires-clause-ends
push-requires-clause-ends g c = call_ends c.never_stuck.ensures.facts c.self.invariant.kept c.args.call _ c.in-Ok.ensures.answer.is_shown

may : (g : Over) (c : goal.After-push g) → may_call c.args.call c.self.inside.machine ≡ true
may g c = rw (control_at c.self.invariant c.self.view_is) at c.requires.may

stays : (g : Over) (c : goal.After-push g) → c.box_stays-stays.result ≡ not (removes c.args.call && is_none (call_error c.args.call c.self.inside.machine))
stays g c = rw (c.box_stays-stays.ensures, c.removes-removes.ensures, c.in-Ok.ensures.answer.is_exception) (ap not (removes_by_exception c.args.call _))

box : (g : Over) (c : goal.After-push g) → c.hand_back-coder.new.slot ≡ kept_box (not (removes c.args.call && is_none (call_error c.args.call c.self.inside.machine))) c.self.inside.slot
box g c = rw (stays g c) at c.hand_back-coder.ensures.left

pub invariant_of-self : goal.invariant_of-self
invariant_of-self g c =
    let m = made_moves c.self.invariant.kept c.args.who c.args.call c.requires.sends c.requires.takes (may g c) (box g c) c.in-Ok.ensures.ok in
    rw c.push.ensures
    (core_called c.self.invariant c.args.who c.args.call m (c.self.inside.spare - 1) (box g c) _ _ c.in-Ok.ensures.answer.is_shown c.requires.takes (
      omega (arith, c.in-Ok.ensures.kept c.requires.sends, c.requires.spare, ap (λ (v : Codec). v.spare) c.self.view_is, c.self.invariant.places, place_kept c.self.invariant.kept m),
      c.self.invariant.fits,
    ))

pub returns-clause-replied : goal.returns-clause-replied
returns-clause-replied g c =
    let m = made_moves c.self.invariant.kept c.args.who c.args.call c.requires.sends c.requires.takes (may g c) (box g c) c.in-Ok.ensures.ok in
    rw (← c.self.view_is, c.push.ensures)
    (replied c.self.invariant c.args.who c.args.call m (c.self.inside.spare - 1) (box g c) _ _ _ _ c.in-Ok.ensures.answer.is_place c.in-Ok.ensures.answer.is_exception (rw c.place.ensures at c.promise-promise.ensures) (rw (stays g c) at c.hand_back-coder.ensures.taken) (rw c.requires.sends (omega (arith, c.requires.spare, ap (λ (v : Codec). v.spare) c.self.view_is))))

pub returns-clause-running : goal.returns-clause-running
returns-clause-running g c = keeps_called (returns-clause-replied g c).made

pub returns-clause-lets : goal.returns-clause-lets
returns-clause-lets g c =
    let r = returns-clause-replied g c in
    back_removal c.args.self.now _ _ _ _ _ r.made (ap removal_act (twice _)) (at_home c.self.invariant c.self.view_is) r.is_place r.coder
