-- How the flushes of a calm history end that ends quiet.
use Rattle.std.proofs.Common.{ℕ, ◌≡◌, ◌+◌, ◌&&◌, ◌||◌, Bool, true, false, eqb, cond, List, [], ◌∷◌, ◌++◌, append-nil, Option, Some, None, is_some, is_none, refl, ap, sym, subst, ◌∙◌, arith}
use Rattle.std.proofs.lemmas.Bool.{and_parts}
use Rattle.std.proofs.lemmas.Option.{option_and_then_some}
use Rattle.wc_base.specs.{declared.error.DomError.DomError}
use Rattle.codec_definitions.specs.declared.unit.Unit as media
use Rattle.codec_model.specs.declared.entry.{Call.Call, Entry.Entry, Event.Event, Task.Task, Opening.Opening, CodecState.CodecState, PromiseEnd.PromiseEnd, PromiseState.PromiseState}
use Rattle.codec_model.specs.Control.{Control, carried}
use Rattle.codec_model.specs.Replay.{State, call_error, flush_error, removes, step, replay_from}
use Rattle.codec_model.specs.Shown.{shows, shown_at, promise_of, ends_of, call_shows, accepted_shows, outputs_from, turn_shows, turn_word}
use Rattle.codec_model.specs.Facts.{bit}
use Rattle.codec_laws.specs.Sights.{rejects_with, aborts, sight_of, sights_from}
use Rattle.codec_laws.specs.Sources.{end_at, end_from, first_of, own_ends}
use Rattle.codec_laws.specs.Laws.{is_calm}
use Rattle.codec_laws.proofs.PlaceLaws.{step_phases}
use Rattle.codec_laws.proofs.HearLaws.{as_control, phase_after, key_after, calm_none, step_hears}

-- no end, or that the promise is resolved
abbrev pub IsFine : Option (ℕ × PromiseState) → Type 0
IsFine None = Unit {0}
IsFine (Some e) = e.1 ≡ PromiseState.Resolved

abbrev pub refusal_at : ℕ → ℕ → Bool → Option (ℕ × PromiseState)
refusal_at p q b = cond b (Some (q, PromiseState.Rejected DomError.InvalidState)) None

-- what an entry that is no removal shows of a promise
abbrev pub Kind : ℕ → ℕ → Entry → State → Type 0
Kind p q (Entry.Call who Call.Flush) s = end_at p q (ends_of (shows (Entry.Call who Call.Flush) s)) ≡ refusal_at p q (eqb s.control.place p && is_some (flush_error s.control))
Kind p q e s = IsFine (end_at p q (ends_of (shows e s)))

outputs_none : (n : ℕ) (us : List media.Unit) (xs : List Event) → ends_of (outputs_from n us ++ xs) ≡ ends_of xs
outputs_none n [] xs = refl
outputs_none n (u ∷ us) xs = outputs_none (n + 1) us xs

resolved_fine : (p q r : ℕ) → IsFine (end_at p q (record { promise = r; error = None } ∷ []))
resolved_fine p q r = by (eqb r p)
  where
    by : (b : Bool) → IsFine (cond b (Some (q, PromiseState.Resolved)) None)
    by true = refl
    by false = tt

turn_fine : (p q : ℕ) (ts : List Task) (c : Control) → rejects_with Entry.Turn (record { turn = turn_word ts; events = turn_shows ts c }) ≡ None → IsFine (end_at p q (ends_of (turn_shows ts c)))
turn_fine p q [] c none = tt
turn_fine p q (Task.Output us ∷ ts) c none = subst (λ (l : List PromiseEnd). IsFine (end_at p q l)) (sym (ap ends_of (sym (append-nil (outputs_from c.shown (carried c.active us)))) ∙ outputs_none c.shown (carried c.active us) [])) tt
turn_fine p q (Task.Flushed r us ∷ ts) c none = subst (λ (l : List PromiseEnd). IsFine (end_at p q l)) (sym (outputs_none c.shown (carried c.active us) (Event.Resolve r ∷ []))) (resolved_fine p q r)
turn_fine p q (Task.Close x ∷ ts) c none = absurd cc
turn_fine p q (t ∷ ts) c none = tt

removal_fine : (p q : ℕ) (o : Option DomError) (ps : List ℕ) → aborts (call_shows Call.Reset 0 ps o) ≡ None → IsFine (end_at p q (ends_of (call_shows Call.Reset 0 ps o)))
removal_fine p q None [] none = tt
removal_fine p q None (r ∷ ps) none = absurd cc
removal_fine p q (Some x) ps none = tt

-- a call that gives no promise and removes nothing ends none
call_fine : (p q place : ℕ) (y : Call) (ps : List ℕ) (o : Option DomError) → removes y ≡ false → promise_of y place ≡ None → IsFine (end_at p q (ends_of (call_shows y place ps o)))
call_fine p q place y ps None stays none = subst (λ (l : List Event). IsFine (end_at p q (ends_of l))) (sym (by y stays)) tt
  where
    by : (y : Call) → removes y ≡ false → accepted_shows y ps ≡ []
    by Call.Reset stays = absurd cc
    by Call.Close stays = absurd cc
    by y stays = refl
call_fine p q place y ps (Some x) stays none = rw none tt

flush_kind : (p q place : ℕ) (ph : CodecState) (c : Control) → c.phase ≡ ph → end_at p q (ends_of (call_shows Call.Flush place c.pending (flush_error c))) ≡ refusal_at p q (eqb place p && is_some (flush_error c))
flush_kind p q place CodecState.Configured c e = rw e (by (eqb place p))
  where
    by : (b : Bool) → None ≡ refusal_at p q (b && false)
    by true = refl
    by false = refl
flush_kind p q place CodecState.Unconfigured c e = rw e (by (eqb place p))
  where
    by : (b : Bool) → cond b (Some (q, PromiseState.Rejected DomError.InvalidState)) None ≡ refusal_at p q (b && true)
    by true = refl
    by false = refl
flush_kind p q place CodecState.Closed c e = rw e (by (eqb place p))
  where
    by : (b : Bool) → cond b (Some (q, PromiseState.Rejected DomError.InvalidState)) None ≡ refusal_at p q (b && true)
    by true = refl
    by false = refl

pub kinds_of : (p q : ℕ) (e : Entry) (s : State) → rejects_with e (shown_at e s) ≡ None → Kind p q e s
kinds_of p q (Entry.Call who Call.Flush) s none = flush_kind p q s.control.place s.control.phase s.control refl
kinds_of p q (Entry.Call who Call.Reset) s none = removal_fine p q (call_error Call.Reset s.control) s.control.pending none
kinds_of p q (Entry.Call who Call.Close) s none = removal_fine p q (call_error Call.Close s.control) s.control.pending none
kinds_of p q (Entry.Call who y) s none = call_fine p q s.control.place y s.control.pending (call_error y s.control) refl refl
kinds_of p q Entry.Turn s none = turn_fine p q s.control.tasks s.control none
kinds_of p q (Entry.Reclaim moment) s none = absurd cc
kinds_of p q e s none = tt

-- a flush that is refused stands at a place
abbrev pub refuses : ℕ → Opening → ℕ → CodecState → Bool → List Entry → Bool
refuses p o place ph k [] = false
refuses p o place ph k (Entry.Call who Call.Flush ∷ es) = (eqb place p && is_some (flush_error (as_control o ph k))) || refuses p o (place + 1) (phase_after o ph k (Entry.Call who Call.Flush)) (key_after o ph k (Entry.Call who Call.Flush)) es
refuses p o place ph k (e ∷ es) = refuses p o (place + 1) (phase_after o ph k e) (key_after o ph k e) es

pub none_own : (p q : ℕ) (es : List PromiseEnd) → own_ends p es ≡ 0 → end_at p q es ≡ None
none_own p q [] h = refl
none_own p q (e ∷ es) h = by (eqb e.promise p) refl (none_own p q es (omega (arith, h)))
  where
    by : (b : Bool) → eqb e.promise p ≡ b → end_at p q es ≡ None → end_at p q (e ∷ es) ≡ None
    by true is rest = absurd (omega (arith, h, ap bit is))
    by false is rest = rw is rest

first_fine : (a b : Option (ℕ × PromiseState)) → IsFine a → IsFine b → IsFine (first_of a b)
first_fine None b h k = k
first_fine (Some e) b h k = h

or_parts : (a b : Bool) → (a || b) ≡ false → (a ≡ false) × (b ≡ false)
or_parts true b h = absurd cc
or_parts false b h = (refl, h)

-- how a promise ends, after a state
pub record Tells (p : ℕ) (o : Opening) (es : List Entry) (s : State) : Type 0 where
  pub fine : refuses p o s.control.place s.control.phase s.control.key_required es ≡ false → IsFine (end_from p s.control.place (sights_from es s))

pub tells : (p : ℕ) (o : Opening) (es : List Entry) (s t : State) → s.control.opening ≡ o → replay_from es s ≡ Some t → is_calm (sights_from es s) ≡ true → Tells p o es s
tells p o [] s t opened legal calm = record { fine = λ none. tt }
tells p o (e ∷ es) s t opened legal calm = option_and_then_some (replay_from es) (step e s) t legal (λ r is more.
    let v = sight_of e (shown_at e s) r.control.size in
    let both = and_parts (is_none v.removes) (is_calm (sights_from es r)) (rw is at calm) in
    let none : rejects_with e (shown_at e s) ≡ None = calm_none v.removes both.0 in
    let hears = step_hears e s r is none in
    let rest = tells p o es r t (hears.opening ∙ opened) more both.1 in
    let place = (step_phases e s r is).place in
    let next : refuses p o r.control.place r.control.phase r.control.key_required es ≡ refuses p o (s.control.place + 1) (phase_after o s.control.phase s.control.key_required e) (key_after o s.control.phase s.control.key_required e) es = rw (place, hears.is_phase, hears.is_key, opened) refl in
    record { fine = λ no_refusal. rw is (by e r (kinds_of p s.control.place e s none) next no_refusal (subst (λ (n : ℕ). refuses p o r.control.place r.control.phase r.control.key_required es ≡ false → IsFine (end_from p n (sights_from es r))) place rest.fine)) })
  where
    by : (e : Entry) (r : State) → Kind p s.control.place e s → refuses p o r.control.place r.control.phase r.control.key_required es ≡ refuses p o (s.control.place + 1) (phase_after o s.control.phase s.control.key_required e) (key_after o s.control.phase s.control.key_required e) es
        → refuses p o s.control.place s.control.phase s.control.key_required (e ∷ es) ≡ false
        → (refuses p o r.control.place r.control.phase r.control.key_required es ≡ false → IsFine (end_from p (s.control.place + 1) (sights_from es r)))
        → IsFine (first_of (end_at p s.control.place (ends_of (shows e s))) (end_from p (s.control.place + 1) (sights_from es r)))
    by (Entry.Call who Call.Flush) r kind next none rest =
        let parts = or_parts (eqb s.control.place p && is_some (flush_error s.control)) (refuses p o (s.control.place + 1) (phase_after o s.control.phase s.control.key_required (Entry.Call who Call.Flush)) (key_after o s.control.phase s.control.key_required (Entry.Call who Call.Flush)) es) none in
        let off = kind ∙ ap (λ (b : Bool). refusal_at p s.control.place b) parts.0 in
        subst (λ (o : Option (ℕ × PromiseState)). IsFine (first_of o (end_from p (s.control.place + 1) (sights_from es r)))) (sym off) (rest (next ∙ parts.1))
    by e r kind next none rest = first_fine (end_at p s.control.place (ends_of (shows e s))) (end_from p (s.control.place + 1) (sights_from es r)) kind (rest (next ∙ none))
