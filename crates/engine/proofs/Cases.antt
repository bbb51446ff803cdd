-- What steps answer, case by case.
use Rattle.std.proofs.Common.{ℕ, ◌≡◌, ◌≤◌, ◌==◌, true, false, List, [], ◌∷◌, ◌++◌}
use Rattle.std.proofs.Common.{Option, Some, None, refl, ap, sym, ◌∙◌, inl, inr, arith}
use Rattle.wc_base.specs.declared.error.DomError.{DomError}
use Rattle.codec_definitions.specs.declared.unit.Unit as media
use Rattle.codec_model.specs.declared.entry.{Call.Call, Entry.Entry, Showing.Showing, Ended.Ended}
use Rattle.codec_model.specs.Control.{start_item, kind_of, after_done}
use Rattle.codec_model.specs.Replay.{State, Given, sends, answer_to}
use Rattle.codec_live.specs.Job.{JobValue, DoneValue, IsJob, IsJobOf, IsEndOf, EndsBy}
use Rattle.codec_live.specs.Job.{outcome_of, done_with}
use Rattle.codec_live.specs.Live.{Live, StandsAfter, GoesOn, nothing_shown, is_at_work, kept_box}
use Rattle.engine.specs.declared.answers.{Reply.Reply, Turn.Turn}
use Rattle.engine.specs.Codes.{status_of}
use Rattle.engine.specs.Told.{no_reply, no_turn}
use Rattle.engine.specs.Steps.{IsUsedUp, MadeCall, Called, MadeTurn, Turned}
use Rattle.engine.specs.Steps.{Worked, IsServed, IsStarted, IsEndOfJob, EndsFrom, Returned}

-- ---- calls

status_few : (o : Option DomError) → status_of o ≤ 1
status_few None = omega arith
status_few (Some e) = omega arith

pub called_made : (x : Call) (old new : Live) (before kept : Showing) (r : Reply)
    → MadeCall x old new kept r → Called x old new before kept r
called_made x old new before kept r m =
    let few : r.status ≤ 1 = rw m.status_is (status_few _) in
    record {
      made = λ h. m;
      stays = λ h. absurd (omega (arith, h, few));
      memory = λ h. absurd (omega (arith, h, few));
      ended = λ h. absurd (omega (arith, h, few));
      status = inl few;
    }

pub called_out_of_memory : (x : Call) (old new : Live) (before kept : Showing) (r : Reply)
    → r ≡ no_reply 2 → sends x ≡ true → new ≡ old → kept ≡ before → Called x old new before kept r
called_out_of_memory x old new before kept r is sent same shown =
    let at : r.status ≡ 2 = ap (λ (y : Reply). y.status) is in
    record {
      made = λ h. absurd (omega (arith, h, at));
      stays = λ h. (same, shown, is ∙ ap no_reply (sym at));
      memory = λ h. sent;
      ended = λ h. absurd (omega (arith, h, at));
      status = inr (inl at);
    }

pub called_used_up : (x : Call) (old new : Live) (before kept : Showing) (r : Reply)
    → r ≡ no_reply 7 → IsUsedUp old → new ≡ old → kept ≡ before → Called x old new before kept r
called_used_up x old new before kept r is ended same shown =
    let at : r.status ≡ 7 = ap (λ (y : Reply). y.status) is in
    record {
      made = λ h. absurd (omega (arith, h, at));
      stays = λ h. (same, shown, is ∙ ap no_reply (sym at));
      memory = λ h. absurd (omega (arith, h, at));
      ended = λ h. ended;
      status = inr (inr at);
    }

-- ---- turns

pub turned_made : (old new : Live) (before kept : Showing) (t : Turn)
    → t.status ≡ 0 → MadeTurn old new kept t → Turned old new before kept t
turned_made old new before kept t is m = record {
  made = λ h. m;
  stays = λ h. absurd (omega (arith, h, is));
  rests = λ h. absurd (omega (arith, h, is));
  ended = λ h. absurd (omega (arith, h, is));
  status = inl is;
}

pub turned_idle : (old new : Live) (before kept : Showing) (t : Turn)
    → t ≡ no_turn 5 → old.control.tasks ≡ [] → new ≡ old → kept ≡ before
    → Turned old new before kept t
turned_idle old new before kept t is none same shown =
    let at : t.status ≡ 5 = ap (λ (y : Turn). y.status) is in
    record {
      made = λ h. absurd (omega (arith, h, at));
      stays = λ h. (same, shown, is ∙ ap no_turn (sym at));
      rests = λ h. none;
      ended = λ h. absurd (omega (arith, h, at));
      status = inr (inl at);
    }

pub turned_used_up : (old new : Live) (before kept : Showing) (t : Turn)
    → t ≡ no_turn 7 → IsUsedUp old → new ≡ old → kept ≡ before → Turned old new before kept t
turned_used_up old new before kept t is ended same shown =
    let at : t.status ≡ 7 = ap (λ (y : Turn). y.status) is in
    record {
      made = λ h. absurd (omega (arith, h, at));
      stays = λ h. (same, shown, is ∙ ap no_turn (sym at));
      rests = λ h. absurd (omega (arith, h, at));
      ended = λ h. ended;
      status = inr (inr at);
    }

-- ---- work

-- the start of an item, its end, and the two together
pub worked_made : (moment : ℕ) (old middle new : Live) (j : JobValue) (d : DoneValue)
    → GoesOn old middle (Entry.Start j.epoch j.number) nothing_shown
    → ((h : List Entry) → StandsAfter h old → IsStarted h middle j)
    → IsEndOfJob j d → EndsFrom moment d middle new → Worked moment old new 0
worked_made moment old middle new j d goes job end ends = record {
  made = λ z h stands. (
      let began = goes h stands in
      let of_it = job h stands in
      let fin = ends (h ++ Entry.Start j.epoch j.number ∷ []) began.stands (end.end _ of_it) in
      record {
        epoch = j.epoch;
        number = j.number;
        outcome = outcome_of d.ended;
        stands = rw (end.epoch, end.number) at fin.stands;
        served = end.served _ of_it;
      }
      );
  stays = λ h. absurd (omega (arith, h));
  rests = λ h. absurd (omega (arith, h));
  ended = λ h. absurd (omega (arith, h));
  status = inl refl;
}

pub worked_idle : (moment : ℕ) (old new : Live)
    → start_item old.control ≡ None → new ≡ old → Worked moment old new 5
worked_idle moment old new none same = record {
  made = λ h. absurd (omega (arith, h));
  stays = λ h. same;
  rests = λ h. none;
  ended = λ h. absurd (omega (arith, h));
  status = inr (inl refl);
}

pub worked_used_up : (moment : ℕ) (old new : Live)
    → IsUsedUp old → new ≡ old → Worked moment old new 7
worked_used_up moment old new ended same = record {
  made = λ h. absurd (omega (arith, h));
  stays = λ h. same;
  rests = λ h. absurd (omega (arith, h));
  ended = λ h. ended;
  status = inr (inr refl);
}

-- ---- ends of jobs

served_by : (o : Option (List media.Unit)) (e : Ended) → EndsBy o e → IsServed (outcome_of e)
served_by o (Ended.Ran units) h = tt
served_by o Ended.Refused h = tt
served_by o (Ended.NoSlot entry) h = h
served_by o Ended.NoMemory h = tt

-- a job with a coder of its own is done
pub performed_end : (j with_own : JobValue) (d : DoneValue)
    → ((s : State) → IsJobOf s j → IsJobOf s with_own)
    → ((s : State) → IsJobOf s with_own → IsEndOf s d)
    → ((g : Given) → IsJob g with_own → EndsBy (answer_to (kind_of with_own.work) g) d.ended)
    → with_own.epoch ≡ j.epoch → with_own.number ≡ j.number
    → d.epoch ≡ with_own.epoch → d.number ≡ with_own.number → IsEndOfJob j d
performed_end j with_own d stays ends answers same_epoch same_number epoch number = record {
  end = λ s h. ends s (stays s h);
  served = λ s h. served_by _ d.ended (answers s.running_given (stays s h).given);
  epoch = epoch ∙ same_epoch;
  number = number ∙ same_number;
}

-- no coder could be made
pub unmade_end : (j with_own : JobValue) (d : DoneValue)
    → ((s : State) → IsJobOf s j → IsJobOf s with_own)
    → ((s : State) → IsJobOf s with_own → IsEndOf s d)
    → d ≡ done_with Ended.NoMemory with_own
    → with_own.epoch ≡ j.epoch → with_own.number ≡ j.number → IsEndOfJob j d
unmade_end j with_own d stays ends is same_epoch same_number = record {
  end = λ s h. ends s (stays s h);
  served = λ s h. rw is tt;
  epoch = ap (λ (y : DoneValue). y.epoch) is ∙ same_epoch;
  number = ap (λ (y : DoneValue). y.number) is ∙ same_number;
}

-- ---- ends of items at work

pub returned_made : (moment : ℕ) (d : DoneValue) (old new : Live)
    → is_at_work old.control.running d.epoch d.number ≡ true
    → new.control ≡ after_done d.ended moment old.control
    → new.slot ≡ kept_box (d.epoch == old.control.epoch) d.coder
    → EndsFrom moment d old new → Returned moment d old new 0
returned_made moment d old new own control slot ends = record {
  own = λ z. own;
  control_is = λ z. control;
  slot_is = λ z. slot;
  made = λ z. ends;
  stays = λ h. absurd (omega (arith, h));
  other = λ h. absurd (omega (arith, h));
  ended = λ h. absurd (omega (arith, h));
  status = inl refl;
}

pub returned_other : (moment : ℕ) (d : DoneValue) (old new : Live)
    → is_at_work old.control.running d.epoch d.number ≡ false → new ≡ old
    → Returned moment d old new 1
returned_other moment d old new other same = record {
  own = λ h. absurd (omega (arith, h));
  control_is = λ h. absurd (omega (arith, h));
  slot_is = λ h. absurd (omega (arith, h));
  made = λ h. absurd (omega (arith, h));
  stays = λ h. same;
  other = λ h. other;
  ended = λ h. absurd (omega (arith, h));
  status = inr (inl refl);
}

pub returned_used_up : (moment : ℕ) (d : DoneValue) (old new : Live)
    → IsUsedUp old → new ≡ old → Returned moment d old new 7
returned_used_up moment d old new ended same = record {
  own = λ h. absurd (omega (arith, h));
  control_is = λ h. absurd (omega (arith, h));
  slot_is = λ h. absurd (omega (arith, h));
  made = λ h. absurd (omega (arith, h));
  stays = λ h. same;
  other = λ h. absurd (omega (arith, h));
  ended = λ h. ended;
  status = inr (inr refl);
}
