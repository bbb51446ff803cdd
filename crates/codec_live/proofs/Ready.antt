-- The box at home may be asked for more, unless the codec is halted.
use Rattle.std.proofs.Common.{ℕ, ◌≡◌, ◌+◌, ◌&&◌, not, Bool, true, false, eqb, List, [], ◌∷◌, Option, Some, None, is_none, refl, ap, sym, subst, eq-eqb, ◌∙◌}
use Rattle.std.specs.Prelude.{IfNone}
use Rattle.std.proofs.lemmas.Bool.{and_parts, eqb-true, not-true}
use Rattle.wc_base.specs.{declared.error.DomError.DomError}
use Rattle.wc_config.specs.declared.{config.Config.Config, config.AudioDecoderConfig.AudioDecoderConfig}
use Rattle.coder_api.specs.Lent.{Lent}
use Rattle.codec_model.specs.declared.entry.{Call.Call, Handed.Handed, Work.Work, Item.Item, Running.Running, Task.Task, Ended.Ended}
use Rattle.codec_model.specs.Control.{Control, at_next_place, turn_closes, kind_of, after_done, after_turn, start_item, after_start}
use Rattle.codec_model.specs.Replay.{after_call, call_error, message_of, removes, accepted, config_asked}
use Rattle.codec_model.specs.StepLaws.{asked, call_sends}
use Rattle.codec_live.specs.Job.{IsReady, IsReadyBox, ReadyAfter, IsDone}
use Rattle.codec_live.specs.Live.{IsReadyHome, is_at_work, kept_box}
use Rattle.codec_live.specs.LiveLaws.{Rest, rest_of, queued_keeps, run_keeps, done_fine, can_start}

-- a box that stays may be asked for more as before
pub ready_kept : (slot next : Option Lent) (k k' : Control) (stays : Bool) → IsReadyHome slot k → next ≡ kept_box stays slot → (stays ≡ true → k'.halted ≡ k.halted) → IsReadyHome next k'
ready_kept slot next k k' true home is same = record { ready = λ fine. rw is (home.ready (sym (same refl) ∙ fine)) }
ready_kept slot next k k' false home is same = record { ready = λ fine. rw is tt }

pub ready_none : (next : Option Lent) (k : Control) → next ≡ None → IsReadyHome next k
ready_none next k is = record { ready = λ fine. rw is tt }

sent_halted : (x : Call) (w : Work) (k : Control) → message_of x ≡ Some w → (accepted x k).halted ≡ k.halted
sent_halted x w k m =
    let s = call_sends x w k m in
    ap (λ (c : Control). c.halted) s.is ∙ ap (λ (r : Rest). r.halted) (queued_keeps k.place w (asked k s.phase s.key_required s.size s.pending))

call_halted : (x : Call) (k : Control) (o : Option DomError) → call_error x k ≡ o → not (removes x && is_none o) ≡ true → (after_call o x k).halted ≡ k.halted
call_halted x k (Some error) e stays = refl
call_halted Call.Reset k None e stays = absurd cc
call_halted Call.Close k None e stays = absurd cc
call_halted (Call.Ground to) k None e stays = refl
call_halted (Call.Take n) k None e stays = refl
call_halted (Call.Configure config) k None e stays = sent_halted (Call.Configure config) _ k refl
call_halted (Call.Decode chunk) k None e stays = sent_halted (Call.Decode chunk) _ k refl
call_halted (Call.Encode (Handed.Cloned medium)) k None e stays = sent_halted (Call.Encode (Handed.Cloned medium)) _ k refl
call_halted (Call.Encode Handed.Gone) k None e stays = refl
call_halted (Call.Encode Handed.Kept) k None e stays = refl
call_halted Call.Flush k None e stays = sent_halted Call.Flush _ k refl

-- after a call
pub ready_called : (slot next : Option Lent) (k k' : Control) (x : Call) → IsReadyHome slot k → next ≡ kept_box (not (removes x && is_none (call_error x k))) slot → k' ≡ after_call (call_error x k) x k → IsReadyHome next k'
ready_called slot next k k' x home is after =
    ready_kept slot next k k' (not (removes x && is_none (call_error x k))) home is (λ stays. ap (λ (c : Control). c.halted) after ∙ call_halted x k (call_error x k) refl stays)

turn_halted : (k : Control) (ts : List Task) (b : Bool) → k.tasks ≡ ts → turn_closes ts ≡ Some b → not b ≡ true → (after_turn k).halted ≡ k.halted
turn_halted k [] b e h stays = absurd cc
turn_halted k (Task.Close x ∷ ts) true e h stays = absurd cc
turn_halted k (Task.Close x ∷ ts) false e h stays = absurd cc
turn_halted k (t ∷ ts) true e h stays = absurd cc
turn_halted k (t ∷ ts) false e h stays =
    let same : rest_of (after_turn k) ≡ rest_of (at_next_place k) = rw e (run_keeps t (record (at_next_place k) { tasks = ts }) refl) in
    ap (λ (r : Rest). r.halted) same

-- after a turn
pub ready_turned : (slot next : Option Lent) (k k' : Control) (b : Bool) → IsReadyHome slot k → turn_closes k.tasks ≡ Some b → next ≡ kept_box (not b) slot → k' ≡ after_turn k → IsReadyHome next k'
ready_turned slot next k k' b home closes is after =
    ready_kept slot next k k' (not b) home is (λ stays. ap (λ (c : Control). c.halted) after ∙ turn_halted k k.tasks b refl closes stays)

ran_ready : (end : Ended) (coder : Option Lent) (units : _) → end ≡ Ended.Ran units → ReadyAfter end coder → IsReadyBox coder
ran_ready end coder units is ready = subst (λ (e : Ended). ReadyAfter e coder) is ready

-- after the end of an item
pub ready_done : (end : Ended) (label : Option AudioDecoderConfig) (coder next : Option Lent) (epoch number moment : ℕ) (k k' : Control) → IsDone end label coder → is_at_work k.running epoch number ≡ true → next ≡ kept_box (eqb epoch k.epoch) coder → k' ≡ after_done end moment k → IsReadyHome next k'
ready_done end label coder next epoch number moment k k' done work is after = record { ready = λ fine. by k.running refl work (eqb epoch k.epoch) refl is (ap (λ (c : Control). c.halted) (sym after) ∙ fine) }
  where
    by : (o : Option Running) → k.running ≡ o → is_at_work o epoch number ≡ true → (b : Bool) → eqb epoch k.epoch ≡ b → next ≡ kept_box b coder → (after_done end moment k).halted ≡ false → IsReadyBox next
    by None r work b e is fine = absurd cc
    by (Some run) r work false e is fine = rw is tt
    by (Some run) r work true e is fine =
        let own = and_parts (eqb run.epoch epoch) (eqb run.number number) work in
        let same : run.epoch ≡ k.epoch = eqb-true run.epoch epoch own.0 ∙ eqb-true epoch k.epoch e in
        let ran = done_fine run end moment (at_next_place k) same (rw r at fine) in
        rw is (ran_ready end coder ran.0 ran.1 done.ready)

-- the box that goes with a job
pub ready_job : (slot : Option Lent) (k : Control) (i : Item) → IsReadyHome slot k → start_item k ≡ Some i → IsReady i.work slot
ready_job slot k i home item =
    let free = and_parts (is_none k.running) (not k.halted) (can_start k i item).0 in
    let ready = home.ready (not-true k.halted free.1) in
    elim (config_asked i.work) as (λ (o : Option Config). IfNone o (IsReadyBox slot)) [ None ↦ ready | Some config ↦ tt ]

-- the item that began is at work
pub begun_at_work : (k k' : Control) (i : Item) → start_item k ≡ Some i → k' ≡ after_start k → is_at_work k'.running k.epoch i.number ≡ true
begun_at_work k k' i item after =
    let can = can_start k i item in
    let run : Running = record { epoch = k.epoch; number = i.number; place = i.place; kind = kind_of i.work } in
    let is : (after_start k).running ≡ Some run = rw (can.0, can.1) refl in
    rw (after, is, eq-eqb k.epoch k.epoch refl, eq-eqb i.number i.number refl) refl

pub begun_next : (k k' : Control) (i : Item) → start_item k ≡ Some i → k' ≡ after_start k → k'.place ≡ k.place + 1
begun_next k k' i item after =
    let can = can_start k i item in
    let is : (after_start k).place ≡ k.place + 1 = rw (can.0, can.1) refl in
    ap (λ (c : Control). c.place) after ∙ is
