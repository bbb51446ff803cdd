-- A removal rejects what is pending, once.
use Rattle.std.proofs.Common.{ℕ, zero, suc, ◌≡◌, ◌+◌, ◌≤◌, ◌<◌, Bool, true, false, eqb, eq-eqb, List, [], ◌∷◌, ◌++◌, append-nil, take, slice_get, Option, Some, None, refl, ap, sym, subst, ◌∙◌, arith}
use Rattle.std.specs.Prelude.{option_map}
use Rattle.std.proofs.lemmas.Option.{option_and_then_some}
use Rattle.std.proofs.lemmas.List.Sums.{sum_by-cons}
use Rattle.wc_base.specs.{declared.error.DomError.DomError, Options.some_same, Options.cond_is}
use Rattle.codec_model.specs.declared.entry.{Call.Call, Handed.Handed, WorkKind.WorkKind, Entry.Entry, Event.Event, Task.Task, PromiseEnd.PromiseEnd, PromiseState.PromiseState}
use Rattle.codec_model.specs.Control.{Control, kind_of}
use Rattle.codec_model.specs.Replay.{State, call_error, removes, step, replay_from, opening_state}
use Rattle.codec_model.specs.Shown.{shows, shown_at, ends_of, rejections, call_shows, turn_shows, turn_word}
use Rattle.codec_model.specs.StepLaws.{by_removals}
use Rattle.codec_model.specs.Facts.{bit}
use Rattle.codec_laws.specs.declared.sight.Sight.{Sight}
use Rattle.codec_laws.specs.Sights.{asked_for, asks_at, rejects_with, aborts, sight_of, sights_from}
use Rattle.codec_laws.specs.Sources.{end_at, own_ends, ends_in}
use Rattle.codec_laws.specs.Laws.{RemovalsReject}
use Rattle.codec_laws.proofs.Course.{Course, course_after}
use Rattle.codec_laws.proofs.FlowLaws.{Flow, step_flow}
use Rattle.codec_laws.proofs.PlaceLaws.{step_phases}
use Rattle.codec_laws.proofs.PromiseLaws.{Promises, count, flushed_at, not_here, flushes_from, none_before, step_promises, step_conserves}
use Rattle.codec_laws.proofs.OldLaws.{opening_course, opening_flow}
use Rattle.codec_laws.proofs.EndLaws.{legal_state, opening_promises}

-- a removal shows one end of each pending promise, with its error
pub record Rejects (p q : ℕ) (error : DomError) (pending : List ℕ) (xs : List Event) : Type 0 where
  pub number : own_ends p (ends_of xs) ≡ count p pending
  pub ends : 1 ≤ count p pending → end_at p q (ends_of xs) ≡ Some (q, PromiseState.Rejected error)

rejects : (p q : ℕ) (error : DomError) (ps : List ℕ) (xs : List Event) → ends_of xs ≡ [] → Rejects p q error ps (rejections error ps ++ xs)
rejects p q error [] xs none = record { number = ap (λ (l : List PromiseEnd). own_ends p l) none; ends = λ some. absurd (omega (arith, some)) }
rejects p q error (r ∷ ps) xs none = by (eqb r p) refl (rejects p q error ps xs none)
  where
    by : (b : Bool) → eqb r p ≡ b → Rejects p q error ps (rejections error ps ++ xs) → Rejects p q error (r ∷ ps) (rejections error (r ∷ ps) ++ xs)
    by true is k = record { number = let n = k.number in omega (arith, n, sum_by-cons (λ (n : ℕ). bit (eqb n p)) r ps); ends = λ some. rw is refl }
    by false is k = record { number = let n = k.number in omega (arith, n, sum_by-cons (λ (n : ℕ). bit (eqb n p)) r ps); ends = λ some. rw is (k.ends (omega (arith, some, sum_by-cons (λ (n : ℕ). bit (eqb n p)) r ps, ap bit is))) }

reset_rejects : (p q : ℕ) (error : DomError) (o : Option DomError) (place : ℕ) (y : Call) (ps : List ℕ) → removes y ≡ true → aborts (call_shows y place ps o) ≡ Some error → Rejects p q error ps (call_shows y place ps o)
reset_rejects p q error o place y ps removal is = by_removals (λ y. aborts (call_shows y place ps o) ≡ Some error → Rejects p q error ps (call_shows y place ps o)) (by o ps) (by o ps) y removal is
  where
    by : (o : Option DomError) (ps : List ℕ) → aborts (call_shows Call.Reset place ps o) ≡ Some error → Rejects p q error ps (call_shows Call.Reset place ps o)
    by (Some x) ps is = absurd cc
    by None [] is = record { number = refl; ends = λ some. absurd (omega (arith, some)) }
    by None (r ∷ ps) is = let same : DomError.Abort ≡ error = cc in subst (λ (x : DomError). Rejects p q x (r ∷ ps) (rejections DomError.Abort (r ∷ ps))) same (subst (λ (xs : List Event). Rejects p q DomError.Abort (r ∷ ps) xs) (append-nil (rejections DomError.Abort (r ∷ ps))) (rejects p q DomError.Abort (r ∷ ps) [] refl))

turn_rejects : (p q : ℕ) (error : DomError) (ts : List Task) (c : Control) → rejects_with Entry.Turn (record { turn = turn_word ts; events = turn_shows ts c }) ≡ Some error → Rejects p q error c.pending (turn_shows ts c)
turn_rejects p q error (Task.Close x ∷ ts) c is = let same : x ≡ error = cc in subst (λ (y : DomError). Rejects p q y c.pending (rejections x c.pending ++ Event.ErrorCall x ∷ [])) same (rejects p q x c.pending (Event.ErrorCall x ∷ []) refl)
turn_rejects p q error [] c is = absurd cc
turn_rejects p q error (t ∷ ts) c is = absurd cc

pub removal_rejects : (p q : ℕ) (error : DomError) (e : Entry) (s : State) → rejects_with e (shown_at e s) ≡ Some error → Rejects p q error s.control.pending (shows e s)
removal_rejects p q error (Entry.Call who y) s is = let k = cond_is (removes y) (aborts (call_shows y s.control.place s.control.pending (call_error y s.control))) error is in reset_rejects p q error (call_error y s.control) s.control.place y s.control.pending k.0 k.1
removal_rejects p q error Entry.Turn s is = turn_rejects p q error s.control.tasks s.control is
removal_rejects p q error (Entry.Reclaim moment) s is = let same : DomError.QuotaExceeded ≡ error = cc in subst (λ (y : DomError). Rejects p q y s.control.pending (rejections DomError.QuotaExceeded s.control.pending ++ Event.ErrorCall DomError.QuotaExceeded ∷ [])) same (rejects p q DomError.QuotaExceeded s.control.pending (Event.ErrorCall DomError.QuotaExceeded ∷ []) refl)
removal_rejects p q error e s is = absurd cc

-- ---- the walk

pub record Rejected (p k : ℕ) (error : DomError) (before : List Sight) (v : Sight) (due : ℕ) : Type 0 where
  pub balance : ends_in p before + own_ends p v.ends ≡ due
  pub ends : ends_in p before + 1 ≤ due → end_at p k v.ends ≡ Some (k, PromiseState.Rejected error)

pub rejected_at : (p k : ℕ) (error : DomError) (es : List Entry) (s t : State) (x : Course) (j : ℕ) (v : Sight) → Flow x s → Promises x s.control → replay_from es s ≡ Some t → slice_get (sights_from es s) j ≡ Some v → v.removes ≡ Some error
    → Rejected p k error (take j (sights_from es s)) v (count p s.control.pending + flushes_from p (take j es) s.control.place)
rejected_at p k error [] s t x j v f h legal at is = absurd cc
rejected_at p k error (e ∷ es) s t x zero v f h legal at is = option_and_then_some (replay_from es) (step e s) t legal (λ r steps more.
    let same : sight_of e (shown_at e s) r.control.size ≡ v = some_same _ v (rw steps at at) in
    let removal : rejects_with e (shown_at e s) ≡ Some error = ap (λ (y : Sight). y.removes) same ∙ is in
    let k_is = removal_rejects p k error e s removal in
    let ends : ends_of (shows e s) ≡ v.ends = ap (λ (y : Sight). y.ends) same in
    record {
      balance = let n = k_is.number in omega (arith, n, ap (λ (l : List PromiseEnd). own_ends p l) ends);
      ends = λ due. ap (λ (l : List PromiseEnd). end_at p k l) (sym ends) ∙ k_is.ends (omega (arith, due));
    })
rejected_at p k error (e ∷ es) s t x (suc j) v f h legal at is = option_and_then_some (replay_from es) (step e s) t legal (λ r steps more.
    let rest = rejected_at p k error es r t (course_after e s x) j v (step_flow e s r steps x f) (step_promises e s r steps x f h) more (rw steps at at) is in
    let here = step_conserves p e s r steps x h in
    let place = ap (λ (n : ℕ). flushes_from p (take j es) n) (step_phases e s r steps).place in
    rw steps (record {
      balance = let b = rest.balance in omega (arith, b, here, place);
      ends = λ due. rest.ends (omega (arith, due, here, place));
    }))

-- ---- a flush that is seen stands there

flush_bit : (e : Entry) (xs : List Event) (p place : ℕ) → option_map kind_of (asked_for e xs) ≡ Some WorkKind.Flush → flushed_at p e place ≡ bit (eqb place p)
flush_bit (Entry.Call who Call.Flush) xs p place h = refl
flush_bit (Entry.Call who (Call.Configure config)) [] p place h = absurd cc
flush_bit (Entry.Call who (Call.Decode chunk)) [] p place h = absurd cc
flush_bit (Entry.Call who (Call.Encode Handed.Gone)) [] p place h = absurd cc
flush_bit (Entry.Call who (Call.Encode Handed.Kept)) [] p place h = absurd cc
flush_bit (Entry.Call who (Call.Encode (Handed.Cloned medium))) [] p place h = absurd cc
flush_bit (Entry.Call who y) [] p place h = absurd cc
flush_bit e xs p place h = absurd cc

flush_there : (es : List Entry) (s t : State) (p i j : ℕ) → p ≡ s.control.place + i → i < j → replay_from es s ≡ Some t → asks_at (sights_from es s) i ≡ Some WorkKind.Flush → flushes_from p (take j es) s.control.place ≡ 1
flush_there [] s t p i j at lt legal h = absurd cc
flush_there (e ∷ es) s t p i zero at lt legal h = absurd (omega (arith, lt))
flush_there (e ∷ es) s t p zero (suc j) at lt legal h = option_and_then_some (replay_from es) (step e s) t legal (λ r steps more.
    let asks : option_map kind_of (asked_for e (shows e s)) ≡ Some WorkKind.Flush = rw steps at h in
    let same : s.control.place ≡ p = omega (arith, at) in
    omega (arith, flush_bit e (shows e s) p s.control.place asks, ap bit (eq-eqb s.control.place p same), none_before p (take j es) (s.control.place + 1) (omega (arith, same))))
flush_there (e ∷ es) s t p (suc i) (suc j) at lt legal h = option_and_then_some (replay_from es) (step e s) t legal (λ r steps more.
    let place = (step_phases e s r steps).place in
    let rest = flush_there es r t p i j (omega (arith, at, place)) (omega (arith, lt)) more (rw steps at h) in
    omega (arith, rest, not_here e p s.control.place (omega (arith, at)), ap (λ (n : ℕ). flushes_from p (take j es) n) place))

pub removals_reject : RemovalsReject
removals_reject o h legal p k v error asks lt none at is =
    let some = legal_state o h legal in
    let s = some.0 in
    let legal = some.1 in
    let r = rejected_at p k error h (opening_state o) s opening_course k v (opening_flow o) (opening_promises o) legal at is in
    let one = flush_there h (opening_state o) s p p k (omega arith) lt legal asks in
    let b = r.balance in
    (omega (arith, b, one, none), r.ends (omega (arith, one, none)))
