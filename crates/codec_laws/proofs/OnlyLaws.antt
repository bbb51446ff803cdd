-- What rejects a promise: its flush is refused, or the first removal behind it.
use Rattle.std.proofs.Common.{ℕ, ◌≡◌, ◌+◌, ◌≤◌, ◌<◌, ◌&&◌, eq-eqb, List, [], ◌∷◌, slice_get, Option, Some, None, is_some, refl, ap, sym, subst, ◌∙◌, inl, inr, arith}
use Rattle.std.specs.Prelude.{option_map, option_and_then}
use Rattle.std.proofs.lemmas.Bool.{cases_lt, ne_eqb}
use Rattle.std.proofs.lemmas.Option.{option_and_then_some}
use Rattle.wc_base.specs.{declared.error.DomError.DomError, Options.some_same}
use Rattle.codec_model.specs.declared.entry.{Call.Call, Entry.Entry, PromiseState.PromiseState}
use Rattle.codec_model.specs.Control.{kind_of}
use Rattle.codec_model.specs.Replay.{State, flush_error, opening_state, step, replay_from}
use Rattle.codec_model.specs.Shown.{shows, shown_at, ends_of}
use Rattle.codec_model.specs.Facts.{bit}
use Rattle.codec_laws.specs.declared.sight.Sight.{Sight}
use Rattle.codec_laws.specs.Sights.{asked_for, rejects_with, removes_at, asks_at, sight_of, sights, sights_from}
use Rattle.codec_laws.specs.Sources.{end_at, end_from, first_of, ends_in}
use Rattle.codec_laws.specs.Laws.{IsRejected, RejectedOnly}
use Rattle.codec_laws.proofs.Course.{Course, course_after}
use Rattle.codec_laws.proofs.FlowLaws.{Flow, step_flow}
use Rattle.codec_laws.proofs.PlaceLaws.{Here, here_first, here_rest, step_phases}
use Rattle.codec_laws.proofs.PromiseLaws.{Promises, count, flushed_at, not_here, none_before, below, own_none, step_promises, step_conserves, ends_balance}
use Rattle.codec_laws.proofs.AlikeLaws.{IsFine, Kind, refusal_at, kinds_of, none_own}
use Rattle.codec_laws.proofs.RejectLaws.{removal_rejects}
use Rattle.codec_laws.proofs.OldLaws.{opening_course, opening_flow}
use Rattle.codec_laws.proofs.EndLaws.{legal_state, opening_promises}

-- a promise that has no end has no first one
pub none_found : (p n : ℕ) (xs : List Sight) → ends_in p xs ≡ 0 → end_from p n xs ≡ None
none_found p n [] h = refl
none_found p n (x ∷ xs) h = rw (none_own p n x.ends (omega (arith, h))) (none_found p (n + 1) xs (omega (arith, h)))

-- behind its own place an entry that is no removal may only resolve a promise
kind_fine : (p : ℕ) (e : Entry) (s : State) → p < s.control.place → Kind p s.control.place e s → IsFine (end_at p s.control.place (ends_of (shows e s)))
kind_fine p (Entry.Call who Call.Flush) s lt k = subst IsFine (sym (k ∙ ap (λ b. refusal_at p s.control.place (b && is_some (flush_error s.control))) (ne_eqb s.control.place p (omega (arith, lt))))) tt
kind_fine p e s lt k = k

module _ (whole : List Sight) (p t : ℕ) (error : DomError) where
  -- from this place on, the first end of the promise is that it is rejected there, with this error
  abbrev Found : ℕ → List Sight → Type 0
  Found place xs = end_from p place xs ≡ Some (t, PromiseState.Rejected error)

  -- from this place on, the first removal stands there, and rejects with this error
  record Removed (place : ℕ) : Type 0 where
    late : place ≤ t
    none_removes : (k : ℕ) → place ≤ k → k < t → removes_at whole k ≡ None
    removes : removes_at whole t ≡ Some error

  removes_here : (place : ℕ) (v : Sight) → slice_get whole place ≡ Some v → removes_at whole place ≡ v.removes
  removes_here place v here = ap (λ (o : Option Sight). option_and_then (λ (y : Sight). y.removes) o) here

  asks_here : (place : ℕ) (v : Sight) → slice_get whole place ≡ Some v → asks_at whole place ≡ v.asks
  asks_here place v here = ap (λ (o : Option Sight). option_and_then (λ (y : Sight). y.asks) o) here

  -- this end is the one that was found
  record Is (place : ℕ) (found : DomError) : Type 0 where
    at : place ≡ t
    same : found ≡ error

  is_found : (place : ℕ) (found : DomError) (a b : Option (ℕ × PromiseState)) → a ≡ Some (place, PromiseState.Rejected found) → first_of a b ≡ Some (t, PromiseState.Rejected error) → Is place found
  is_found place found a b own now =
      let pair : (place, PromiseState.Rejected found) ≡ (t, PromiseState.Rejected error) = some_same _ _ (sym (ap (λ o. first_of o b) own) ∙ now) in
      let state : PromiseState.Rejected found ≡ PromiseState.Rejected error = ap (λ (q : ℕ × PromiseState). q.1) pair in
      record { at = ap (λ (q : ℕ × PromiseState). q.0) pair; same = cc }

  passes_none : (a b : Option (ℕ × PromiseState)) → a ≡ None → first_of a b ≡ Some (t, PromiseState.Rejected error) → b ≡ Some (t, PromiseState.Rejected error)
  passes_none a b none now = sym (ap (λ o. first_of o b) none) ∙ now

  fine_none : (a b : Option (ℕ × PromiseState)) → IsFine a → first_of a b ≡ Some (t, PromiseState.Rejected error) → a ≡ None
  fine_none None b fine now = refl
  fine_none (Some q) b fine now = absurd (let state : PromiseState.Resolved ≡ PromiseState.Rejected error = sym fine ∙ ap (λ (r : ℕ × PromiseState). r.1) (some_same q _ now) in cc)

  next_found : (n m : ℕ) (xs : List Sight) → m ≡ n → Found n xs → Found m xs
  next_found n m xs e h = subst (λ (k : ℕ). Found k xs) (sym e) h

  removed_more : (place next : ℕ) (v : Sight) → next ≡ place + 1 → slice_get whole place ≡ Some v → v.removes ≡ None → Removed next → Removed place
  removed_more place next v e here none k = record {
    late = let l = k.late in omega (arith, l, e);
    none_removes = λ n low high. elim (cases_lt place n) [
      | inl lt ↦ k.none_removes n (omega (arith, lt, e)) high
      | inr ge ↦ (let same : place ≡ n = omega (arith, low, ge) in ap (λ (m : ℕ). removes_at whole m) (sym same) ∙ (removes_here place v here ∙ none))
    ];
    removes = k.removes;
  }

  -- a promise that is pending
  pending_removed : (es : List Entry) (s u : State) (x : Course) → Flow x s → Promises x s.control → replay_from es s ≡ Some u → Here whole s.control.place (sights_from es s) → 1 ≤ count p s.control.pending → Found s.control.place (sights_from es s) → Removed s.control.place
  pending_removed [] s u x f h legal here some found = absurd cc
  pending_removed (e ∷ es) s u x f h legal here some found = option_and_then_some (replay_from es) (step e s) u legal (λ r is more.
      let v = sight_of e (shown_at e s) r.control.size in
      let place = (step_phases e s r is).place in
      let here_now : Here whole s.control.place (v ∷ sights_from es r) = λ n. rw is at (here n) in
      let first = here_first whole s.control.place v (sights_from es r) here_now in
      let now : first_of (end_at p s.control.place (ends_of (shows e s))) (end_from p (s.control.place + 1) (sights_from es r)) ≡ Some (t, PromiseState.Rejected error) = rw is at found in
      let conserves = step_conserves p e s r is x h in
      by (rejects_with e (shown_at e s)) refl v first refl _ now (λ none.
      let kind = kind_fine p e s (early s h some) (kinds_of p s.control.place e s none) in
      let own = fine_none _ _ kind now in
      let count_more : 1 ≤ count p r.control.pending = omega (arith, conserves, some, own_none p s.control.place (ends_of (shows e s)) own) in
      let rest = pending_removed es r u (course_after e s x) (step_flow e s r is x f) (step_promises e s r is x f h) more (here_rest whole s.control.place r.control.place v (sights_from es r) place here_now) count_more (next_found (s.control.place + 1) r.control.place (sights_from es r) place (passes_none _ _ own now)) in
      removed_more s.control.place r.control.place v place first none rest))
    where
      -- it is named by an earlier entry
      early : (s : State) → Promises x s.control → 1 ≤ count p s.control.pending → p < s.control.place
      early s h some = elim (cases_lt p s.control.place) [
        | inl lt ↦ lt
        | inr ge ↦ absurd (omega (arith, some, below p 0 s.control.place s.control.pending h.rises ge))
      ]

      by : (o : Option DomError) → rejects_with e (shown_at e s) ≡ o → (v : Sight) → slice_get whole s.control.place ≡ Some v → v.removes ≡ rejects_with e (shown_at e s) → (b : Option (ℕ × PromiseState)) → first_of (end_at p s.control.place (ends_of (shows e s))) b ≡ Some (t, PromiseState.Rejected error) → (rejects_with e (shown_at e s) ≡ None → Removed s.control.place) → Removed s.control.place
      by None none v here seen b now rest = rest none
      by (Some found) removal v here seen b now rest =
          let k = is_found s.control.place found _ _ ((removal_rejects p s.control.place found e s removal).ends some) now in
          record {
            late = let a = k.at in omega (arith, a);
            none_removes = λ n low high. absurd (let a = k.at in omega (arith, a, low, high));
            removes = subst (λ (n : ℕ). removes_at whole n ≡ Some error) k.at (removes_here s.control.place v here ∙ (seen ∙ (removal ∙ ap (λ (d : DomError). Some d) k.same)));
          }

  -- what is neither pending nor to come has no end
  gone : (es : List Entry) (s u : State) (x : Course) → Flow x s → Promises x s.control → replay_from es s ≡ Some u → count p s.control.pending ≡ 0 → p < s.control.place → Found s.control.place (sights_from es s) → ⊥
  gone es s u x f h legal none lt found =
      let balance = (ends_balance p es s u x f h legal).balance in
      let nowhere = none_found p s.control.place (sights_from es s) (omega (arith, balance, none, none_before p es s.control.place lt)) in
      let e : None ≡ Some (t, PromiseState.Rejected error) = sym nowhere ∙ found in absurd cc

  -- a promise whose flush is to come
  ahead : (es : List Entry) (s u : State) (x : Course) → Flow x s → Promises x s.control → replay_from es s ≡ Some u → Here whole s.control.place (sights_from es s) → s.control.place ≤ p → count p s.control.pending ≡ 0 → Found s.control.place (sights_from es s) → IsRejected whole p t error
  ahead [] s u x f h legal here le none found = absurd cc
  ahead (e ∷ es) s u x f h legal here le none found = option_and_then_some (replay_from es) (step e s) u legal (λ r is more.
      let v = sight_of e (shown_at e s) r.control.size in
      let place = (step_phases e s r is).place in
      let g = step_flow e s r is x f in
      let k = step_promises e s r is x f h in
      let here_now : Here whole s.control.place (v ∷ sights_from es r) = λ n. rw is at (here n) in
      let first = here_first whole s.control.place v (sights_from es r) here_now in
      let next = here_rest whole s.control.place r.control.place v (sights_from es r) place here_now in
      let now : first_of (end_at p s.control.place (ends_of (shows e s))) (end_from p (s.control.place + 1) (sights_from es r)) ≡ Some (t, PromiseState.Rejected error) = rw is at found in
      let conserves = step_conserves p e s r is x h in
      let passes : flushed_at p e s.control.place ≡ 0 → Found r.control.place (sights_from es r) = λ no. next_found (s.control.place + 1) r.control.place (sights_from es r) place (passes_none _ _ (none_own p s.control.place (ends_of (shows e s)) (omega (arith, conserves, none, no))) now) in
      elim (cases_lt s.control.place p) [
        | inl lt ↦ (let no = not_here e p s.control.place lt in ahead es r u (course_after e s x) g k more next (omega (arith, lt, place)) (omega (arith, conserves, none, no)) (passes no))
        | inr ge ↦ by e (omega (arith, le, ge)) v first refl
            (λ no. gone es r u (course_after e s x) g k more (omega (arith, conserves, none, no)) (omega (arith, place, ge)) (passes no))
            _ now
            (λ flush own. let count_more : 1 ≤ count p r.control.pending = omega (arith, conserves, flush, own_none p s.control.place (ends_of (shows e s)) own) in
            removed_next r.control.place place (pending_removed es r u (course_after e s x) g k more next count_more (next_found (s.control.place + 1) r.control.place (sights_from es r) place (passes_none _ _ own now))))
      ])
    where
      -- the removal that was found stands behind this place
      removed_next : (n : ℕ) → n ≡ s.control.place + 1 → Removed n → Removed (s.control.place + 1)
      removed_next n e k = subst Removed e k

      by : (e : Entry) → s.control.place ≡ p → (v : Sight) → slice_get whole s.control.place ≡ Some v → v.asks ≡ option_map kind_of (asked_for e (shows e s)) → (flushed_at p e s.control.place ≡ 0 → ⊥) → (b : Option (ℕ × PromiseState)) → first_of (end_at p s.control.place (ends_of (shows e s))) b ≡ Some (t, PromiseState.Rejected error)
          → (flushed_at p e s.control.place ≡ 1 → end_at p s.control.place (ends_of (shows e s)) ≡ None → Removed (s.control.place + 1)) → IsRejected whole p t error
      by (Entry.Call who Call.Flush) same v here asks not b now later = accepted (flush_error s.control) refl
        where
          kind : end_at p s.control.place (ends_of (shows (Entry.Call who Call.Flush) s)) ≡ refusal_at p s.control.place (is_some (flush_error s.control))
          kind = kinds_of p s.control.place (Entry.Call who Call.Flush) s refl ∙ ap (λ b. refusal_at p s.control.place (b && is_some (flush_error s.control))) (eq-eqb s.control.place p same)

          accepted : (o : Option DomError) → flush_error s.control ≡ o → IsRejected whole p t error
          accepted (Some x) is =
              let own : end_at p s.control.place (ends_of (shows (Entry.Call who Call.Flush) s)) ≡ Some (s.control.place, PromiseState.Rejected DomError.InvalidState) = kind ∙ ap (λ (o : Option DomError). refusal_at p s.control.place (is_some o)) is in
              let k = is_found s.control.place DomError.InvalidState _ b own now in
              inl (record {
                own = sym k.at ∙ same;
                refused = ap (λ (n : ℕ). asks_at whole n) (sym same) ∙ (asks_here s.control.place v here ∙ (asks ∙ rw is refl));
                invalid = sym k.same;
              })
          accepted None is =
              let own : end_at p s.control.place (ends_of (shows (Entry.Call who Call.Flush) s)) ≡ None = kind ∙ ap (λ (o : Option DomError). refusal_at p s.control.place (is_some o)) is in
              let k = later (ap bit (eq-eqb s.control.place p same)) own in
              inr (record {
                accepted = ap (λ (n : ℕ). asks_at whole n) (sym same) ∙ (asks_here s.control.place v here ∙ (asks ∙ rw is refl));
                after = let l = k.late in omega (arith, l, same);
                none_removes = λ n low high. k.none_removes n (omega (arith, low, same)) high;
                removes = k.removes;
              })
      by e same v here asks not b now later = absurd (not refl)

pub rejected_only : RejectedOnly
rejected_only o h legal p t error found =
    let s = legal_state o h legal in
    ahead (sights o h) p t error h (opening_state o) s.0 opening_course (opening_flow o) (opening_promises o) s.1 (λ k. ap (λ (n : ℕ). slice_get (sights o h) n) (omega arith)) (omega arith) refl found
