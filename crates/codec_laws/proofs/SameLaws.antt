-- What a calm history shows that ends quiet follows from its calls alone.
use Rattle.std.proofs.Common.{◌≡◌, ◌≤◌, Bool, true, false, List, [], ◌++◌, append-nil, count_by, None, refl, ap, sym, ◌∙◌, arith}
use Rattle.codec_definitions.specs.declared.unit.Unit as media
use Rattle.codec_model.specs.declared.entry.{Call.Call, Entry.Entry, Work.Work, Opening.Opening, Task.Task, Item.Item, Message.Message, CodecState.CodecState}
use Rattle.codec_model.specs.Control.{is_close}
use Rattle.codec_model.specs.Replay.{nothing_given, opening_state}
use Rattle.codec_model.specs.Shown.{shown, outputs_of}
use Rattle.codec_model.specs.Facts.{bit, IsNeverStuck, EndsQuiet, Always}
use Rattle.codec_laws.specs.Laws.{calls_alone, EndsCalm}
use Rattle.codec_laws.proofs.Course.{Asked, items_asked, messages_asked}
use Rattle.codec_laws.proofs.FlowLaws.{mid_free}
use Rattle.codec_laws.proofs.OutLaws.{parts, task_parts, shows_all}
use Rattle.codec_laws.proofs.OldLaws.{opening_course, opening_flow, opening_outs}
use Rattle.codec_laws.proofs.HearLaws.{alone, parts_alone, parts_are, heard, Led, leads}

awake_of : (b : Bool) → 0 ≡ bit b → b ≡ false
awake_of true h = absurd (omega (arith, h))
awake_of false h = refl

module _ (facts : Always IsNeverStuck) (quiet : Always EndsQuiet) (o : Opening) (some : 1 ≤ o.saturation) where
  pub led : (h : List Entry) (k : EndsCalm o h) → Led o h (opening_state o) opening_course k.state
  led h k = leads o h (opening_state o) k.state opening_course refl (opening_flow o) (opening_outs o) k.replays k.calm

  -- all that was asked for ran
  all_ran : (h : List Entry) (k : EndsCalm o h) → (led h k).y.works ≡ (led h k).y.past
  all_ran h k =
      let l = led h k in
      let c = k.state.control in
      let awake : c.halted ≡ false = awake_of c.halted (ap (λ (ts : List Task). count_by is_close ts) (sym k.quiet.no_tasks) ∙ (facts o h k.state some k.replays).halts.closes) in
      let owes = quiet o h k.state some k.replays k.quiet in
      let mid = mid_free l.y.mid _ k.state k.quiet.idle awake l.flow.mid in
      l.flow.works ∙ (ap (λ (qs : List Asked). (l.y.past ++ qs) ++ (items_asked c.work ++ messages_asked c.messages)) mid ∙ (ap (λ (is : List Item). (l.y.past ++ []) ++ (items_asked is ++ messages_asked c.messages)) k.quiet.no_work ∙ (ap (λ (ms : List Message). (l.y.past ++ []) ++ messages_asked ms) owes.no_messages ∙ (append-nil (l.y.past ++ []) ∙ append-nil l.y.past))))

  shows_its_calls : (h : List Entry) (k : EndsCalm o h) → outputs_of (shown o h) ≡ shows_all (parts_alone (heard o CodecState.Unconfigured true (calls_alone h)) nothing_given) None
  shows_its_calls h k =
      let l = led h k in
      let ran = all_ran h k in
      let works : alone l.y.past ≡ heard o CodecState.Unconfigured true (calls_alone h) = ap alone (sym ran) ∙ l.works in
      let shown : l.y.units ++ shows_all (task_parts []) k.state.control.active ≡ shows_all (parts l.y.past nothing_given) None = sym (ap (λ (ts : List Task). l.y.units ++ shows_all (task_parts ts) k.state.control.active) k.quiet.no_tasks) ∙ l.outs.shown in
      sym l.units ∙ (sym (append-nil l.y.units) ∙ (shown ∙ (ap (λ (ps : List (List media.Unit)). shows_all ps None) (parts_are l.y.past nothing_given) ∙ ap (λ (ws : List Work). shows_all (parts_alone ws nothing_given) None) works)))

  pub same_outputs : (g h : List Entry) → EndsCalm o g → EndsCalm o h → calls_alone g ≡ calls_alone h → outputs_of (shown o g) ≡ outputs_of (shown o h)
  same_outputs g h j k same = shows_its_calls g j ∙ (ap (λ (ys : List Call). shows_all (parts_alone (heard o CodecState.Unconfigured true ys) nothing_given) None) same ∙ sym (shows_its_calls h k))
