-- What calls and starts do to a follower.
use Rattle.std.proofs.Common.{ℕ, ◌≡◌, true, [], Option, Some, None, arith}
use Rattle.wc_base.specs.declared.{error.DomError.DomError, who.Who.Who}
use Rattle.codec_model.specs.declared.entry.{Call.Call, Entry.Entry, Item.Item, Shown.Shown, Work.Work}
use Rattle.codec_model.specs.Control.{Control, start_item, after_start}
use Rattle.codec_model.specs.Replay.{State, Given, given_more, may_call, called, after_call, call_error, start_step}
use Rattle.codec_model.specs.{StepLaws.begun, Shown.call_shows}
use Rattle.codec_follow.specs.{declared.known.Known.Known, Follow.known_of}
use Rattle.codec_follow.specs.Followed.{FollowerValue, Follows, known_with, known_after}

known_past : (o : Option DomError) (x : Call) (s : State) → known_of (called o x s).given.config ≡ known_after o x (known_of s.given.config)
known_past o x s = grind arith

pub call_follows : (who : Who) (x : Call) (v : FollowerValue) (shown : Option Shown) (new : Control) (known : Known) → may_call x v.control ≡ true → shown ≡ Some (record { turn = None; events = call_shows x v.control.place v.control.pending (call_error x v.control) }) → new ≡ after_call (call_error x v.control) x v.control → known ≡ known_after (call_error x v.control) x v.known → Follows (Entry.Call who x) v shown (record v { control = new; known = known })
call_follows who x v shown new known may told moved more = record {
  answer = λ s is. grind (arith, may, told, is);
  after = λ s is. grind (arith, known_past, may, moved, more, is);
}

known_more : (w : Work) (g : Given) → known_of (given_more w g).config ≡ known_with w (known_of g.config)
known_more w g = grind arith

start_moves : (epoch item : ℕ) (i : Item) (s : State) → start_item s.control ≡ Some i → epoch ≡ s.control.epoch → item ≡ i.number → start_step s.control.work epoch item s ≡ Some (begun s.control.work i s)
start_moves epoch item i s there now own = grind (arith, there, now, own)

pub start_follows : (epoch item : ℕ) (i : Item) (v : FollowerValue) (shown : Option Shown) (new : Control) (known : Known) → start_item v.control ≡ Some i → epoch ≡ v.control.epoch → item ≡ i.number → shown ≡ Some (record { turn = None; events = [] }) → new ≡ after_start v.control → known ≡ known_with i.work v.known → Follows (Entry.Start epoch item) v shown (record { control = new; known = known; running_known = known })
start_follows epoch item i v shown new known there now own told moved more = record {
  answer = λ s is. grind (arith, start_moves epoch item i s, there, now, own, told, is);
  after = λ s is. grind (arith, start_moves epoch item i s, known_more i.work s.given, there, now, own, moved, more, is);
}
