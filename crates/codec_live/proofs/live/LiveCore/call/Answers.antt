use Rattle.std.proofs.Common.{◌≡◌, ◌&&◌, not, is_none, ap}
use Rattle.codec_model.specs.Replay.{removes, call_error}
use Rattle.codec_live.specs.Live.{kept_box}
use Rattle.codec_live.specs.LiveLaws.{call_goes, removes_by_exception}
use Rattle.codec_live.proofs.{Ready.ready_called, live.LiveCore.call.Given.Over}
use Rattle.codec_live.proofs.live.LiveCore.call.Goals as goal

stays : (g : Over) (c : goal.After-hand_back-coder g) → c.box_stays-stays.result ≡ not (removes c.args.call.now && is_none (call_error c.args.call.now c.self.inside.machine))
stays g c = rw (c.box_stays-stays.ensures, c.removes-removes.ensures, c.in_ok-answer.ensures.answer.is_exception) (ap not (removes_by_exception c.args.call.now _))

box : (g : Over) (c : goal.After-hand_back-coder g) → c.hand_back-coder.new.slot ≡ kept_box (not (removes c.args.call.now && is_none (call_error c.args.call.now c.self.inside.machine))) c.self.inside.slot
box g c = rw (stays g c) at c.hand_back-coder.ensures.left

pub invariant_of-self-2 : goal.invariant_of-self-2
invariant_of-self-2 g c = ready_called c.self.inside.slot _ c.self.inside.machine _ c.args.call.now c.self.invariant (box g c) c.in_ok-answer.ensures.ok

pub returns-clause-made : goal.returns-clause-made
returns-clause-made g c =
    rw (← c.self.view_is) (λ who h stands. call_goes stands who c.args.call.now _ (rw (← c.self.view_is) at c.requires.may) (box g c) c.in_ok-answer.ensures.ok c.in_ok-answer.ensures.answer.is_shown)

pub returns-clause-coder : goal.returns-clause-coder
returns-clause-coder g c =
    rw (← c.self.view_is) (record { slot = box g c; coder = rw (stays g c) at c.hand_back-coder.ensures.taken })
