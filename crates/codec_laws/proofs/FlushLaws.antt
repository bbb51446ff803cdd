-- The flushes of a calm history that ends quiet end as its calls say.
use Rattle.std.proofs.Common.{ℕ, ◌≡◌, ◌+◌, ◌≤◌, ◌<◌, ◌&&◌, ◌||◌, Bool, true, false, eqb, cond, eq-eqb, List, [], ◌∷◌, ◌++◌, Option, Some, None, is_some, is_none, refl, ap, sym, subst, ◌∙◌, arith}
use Rattle.std.specs.Prelude.{option_map, unwrap_or}
use Rattle.std.proofs.lemmas.Bool.{and_parts, eqb-true}
use Rattle.std.proofs.lemmas.Option.{option_and_then_some}
use Rattle.codec_model.specs.declared.entry.{Call.Call, Handed.Handed, Entry.Entry, Opening.Opening, CodecState.CodecState, PromiseState.PromiseState}
use Rattle.codec_model.specs.Replay.{State, flush_error, opening_state, step, replay_from}
use Rattle.codec_model.specs.Shown.{shows, shown_at, ends_of}
use Rattle.codec_model.specs.Facts.{bit, IsNeverStuck, EndsQuiet, Always}
use Rattle.wc_base.specs.{declared.error.DomError.DomError}
use Rattle.codec_laws.specs.declared.sight.Sight.{Sight}
use Rattle.codec_laws.specs.Sights.{rejects_with, sight_of, sights, sights_from}
use Rattle.codec_laws.specs.Sources.{end_at, end_from, first_of, own_ends, ends_in}
use Rattle.codec_laws.specs.Laws.{call_alone, calls_alone, is_calm, flush_ends, flush_ends_from, EndsCalm, SameShown}
use Rattle.codec_laws.proofs.Course.{Course, course_after}
use Rattle.codec_laws.proofs.FlowLaws.{Flow, step_flow}
use Rattle.codec_laws.proofs.PlaceLaws.{step_phases}
use Rattle.codec_laws.proofs.HearLaws.{as_control, phase_by, key_by, phase_after, key_after, calm_none, step_hears}
use Rattle.codec_laws.proofs.PromiseLaws.{Promises, count, flushed_at, not_here, none_before, below, own_none, step_promises, step_conserves, ends_balance}
use Rattle.codec_laws.proofs.AlikeLaws.{IsFine, Kind, refusal_at, kinds_of, none_own, refuses, tells}
use Rattle.codec_laws.proofs.OldLaws.{opening_course, opening_flow}
use Rattle.codec_laws.proofs.EndLaws.{opening_promises}
use Rattle.codec_laws.proofs.SameLaws.{same_outputs}

-- ---- lists

first_none : (a b : Option (ℕ × PromiseState)) → first_of a b ≡ None → (a ≡ None) × (b ≡ None)
first_none None b h = (refl, h)
first_none (Some e) b h = absurd cc

none_in : (p n : ℕ) (xs : List Sight) → end_from p n xs ≡ None → ends_in p xs ≡ 0
none_in p n [] h = refl
none_in p n (x ∷ xs) h = let k = first_none (end_at p n x.ends) (end_from p (n + 1) xs) h in omega (arith, own_none p n x.ends k.0, none_in p (n + 1) xs k.1)

late : (p : ℕ) (o : Opening) (es : List Entry) (place : ℕ) (ph : CodecState) (k : Bool) → refuses p o place ph k es ≡ true → place ≤ p
late p o [] place ph k h = absurd cc
late p o (Entry.Call who Call.Flush ∷ es) place ph k h = by (eqb place p) refl h (late p o es (place + 1) (phase_after o ph k (Entry.Call who Call.Flush)) (key_after o ph k (Entry.Call who Call.Flush)))
  where
    by : (b : Bool) → eqb place p ≡ b → ((b && is_some (flush_error (as_control o ph k))) || refuses p o (place + 1) (phase_after o ph k (Entry.Call who Call.Flush)) (key_after o ph k (Entry.Call who Call.Flush)) es) ≡ true → (refuses p o (place + 1) (phase_after o ph k (Entry.Call who Call.Flush)) (key_after o ph k (Entry.Call who Call.Flush)) es ≡ true → place + 1 ≤ p) → place ≤ p
    by true is h rest = let e = eqb-true place p is in omega (arith, e)
    by false is h rest = let k = rest h in omega (arith, k)
late p o (e ∷ es) place ph k h = let r = late p o es (place + 1) (phase_after o ph k e) (key_after o ph k e) h in omega (arith, r)

never_earlier : (p : ℕ) (o : Opening) (es : List Entry) (place : ℕ) (ph : CodecState) (k : Bool) → p < place → refuses p o place ph k es ≡ false
never_earlier p o es place ph k lt = by (refuses p o place ph k es) refl
  where
    by : (b : Bool) → refuses p o place ph k es ≡ b → b ≡ false
    by true e = absurd (let r = late p o es place ph k e in omega (arith, r, lt))
    by false e = refl

-- ---- the walk

abbrev pub answer : Bool → PromiseState
answer refused = cond refused (PromiseState.Rejected DomError.InvalidState) PromiseState.Resolved

abbrev pub told : Opening → CodecState → Bool → List Call → List PromiseState
told o ph k [] = []
told o ph k (Call.Flush ∷ ys) = answer (is_some (flush_error (as_control o ph k))) ∷ told o (phase_by o ph k Call.Flush) (key_by o ph k Call.Flush) ys
told o ph k (y ∷ ys) = told o (phase_by o ph k y) (key_by o ph k y) ys

-- what an entry that is no flush adds
told_more : (o : Opening) (ph : CodecState) (k : Bool) (e : Entry) (ys : List Call) → flushed_at 0 e 0 ≡ 0 → told o ph k (call_alone e ++ ys) ≡ told o (phase_after o ph k e) (key_after o ph k e) ys
told_more o ph k (Entry.Call who (Call.Configure config)) ys none = refl
told_more o ph k (Entry.Call who (Call.Decode chunk)) ys none = refl
told_more o ph k (Entry.Call who (Call.Encode Handed.Gone)) ys none = refl
told_more o ph k (Entry.Call who (Call.Encode Handed.Kept)) ys none = refl
told_more o ph k (Entry.Call who (Call.Encode (Handed.Cloned medium))) ys none = refl
told_more o ph k (Entry.Call who Call.Flush) ys none = absurd (omega (arith, none))
told_more o ph k e ys none = refl

abbrev state_in : Option (ℕ × PromiseState) → PromiseState
state_in f = unwrap_or (option_map (λ (e : ℕ × PromiseState). e.1) f) PromiseState.Pending

-- an end that is there and fine
fine_state : (f : Option (ℕ × PromiseState)) → IsFine f → (f ≡ None → ⊥) → state_in f ≡ PromiseState.Resolved
fine_state None fine there = absurd (there refl)
fine_state (Some e) fine there = fine

-- how this flush ends
flush_state : (p : ℕ) (f : Option (ℕ × PromiseState)) (refused : Bool) → (refused ≡ false → IsFine f × (f ≡ None → ⊥)) → state_in (first_of (refusal_at p p refused) f) ≡ answer refused
flush_state p f true later = refl
flush_state p f false later = let k = later refl in fine_state f k.0 k.1

module _ (o : Opening) (whole : List Sight) where
  pub alike : (es : List Entry) (s t : State) (x : Course) → s.control.opening ≡ o → Flow x s → Promises x s.control → replay_from es s ≡ Some t → is_calm (sights_from es s) ≡ true → t.control.pending ≡ []
      → ((p : ℕ) → s.control.place ≤ p → end_from p 0 whole ≡ end_from p s.control.place (sights_from es s))
      → flush_ends_from s.control.place es whole ≡ told o s.control.phase s.control.key_required (calls_alone es)
  alike [] s t x opened f h legal calm quiet here = refl
  alike (e ∷ es) s t x opened f h legal calm quiet here = option_and_then_some (replay_from es) (step e s) t legal (λ r is more.
      let v = sight_of e (shown_at e s) r.control.size in
      let both = and_parts (is_none v.removes) (is_calm (sights_from es r)) (rw is at calm) in
      let none : rejects_with e (shown_at e s) ≡ None = calm_none v.removes both.0 in
      let hears = step_hears e s r is none in
      let place = (step_phases e s r is).place in
      let g = step_flow e s r is x f in
      let k = step_promises e s r is x f h in
      let conserves = λ (p : ℕ). step_conserves p e s r is x h in
      let now : (p : ℕ) → s.control.place ≤ p → end_from p 0 whole ≡ first_of (end_at p s.control.place (ends_of (shows e s))) (end_from p (s.control.place + 1) (sights_from es r)) = λ p le. rw is at (here p le) in
      let later : (p : ℕ) → r.control.place ≤ p → end_from p 0 whole ≡ end_from p r.control.place (sights_from es r) = λ p le.
      let early : own_ends p (ends_of (shows e s)) ≡ 0 = (let c = conserves p in omega (arith, c, below p 0 s.control.place s.control.pending h.rises (omega (arith, le, place)), not_here e p s.control.place (omega (arith, le, place)))) in
      now p (omega (arith, le, place)) ∙ (ap (λ (a : Option (ℕ × PromiseState)). first_of a (end_from p (s.control.place + 1) (sights_from es r))) (none_own p s.control.place (ends_of (shows e s)) early) ∙ ap (λ (n : ℕ). end_from p n (sights_from es r)) (sym place)) in
      let rest = alike es r t (course_after e s x) (hears.opening ∙ opened) g k more both.1 quiet later in
      let rest_is : flush_ends_from (s.control.place + 1) es whole ≡ told o (phase_after o s.control.phase s.control.key_required e) (key_after o s.control.phase s.control.key_required e) (calls_alone es) = ap (λ (n : ℕ). flush_ends_from n es whole) (sym place) ∙ (rest ∙ rw (hears.is_phase, hears.is_key, opened) refl) in
      let own = s.control.place in
      let fine = (tells own o es r t (hears.opening ∙ opened) more both.1).fine (never_earlier own o es r.control.place r.control.phase r.control.key_required (omega (arith, place))) in
      let balance = (ends_balance own es r t (course_after e s x) g k more).balance in
      let there : flushed_at own e own ≡ 1 → own_ends own (ends_of (shows e s)) ≡ 0 → end_from own (own + 1) (sights_from es r) ≡ None → ⊥ = λ flush no_own gone.
      (let c = conserves own in omega (arith, c, balance, flush, no_own, none_in own (own + 1) (sights_from es r) gone, below own 0 own s.control.pending h.rises (omega arith), none_before own es r.control.place (omega (arith, place)), ap (λ (ps : List ℕ). count own ps) quiet)) in
      by e r (kinds_of own own e s none) (now own (omega arith)) rest_is (subst (λ (n : ℕ). IsFine (end_from own n (sights_from es r))) place fine) there)
    where
      by : (e : Entry) (r : State) → Kind s.control.place s.control.place e s
          → end_from s.control.place 0 whole ≡ first_of (end_at s.control.place s.control.place (ends_of (shows e s))) (end_from s.control.place (s.control.place + 1) (sights_from es r))
          → flush_ends_from (s.control.place + 1) es whole ≡ told o (phase_after o s.control.phase s.control.key_required e) (key_after o s.control.phase s.control.key_required e) (calls_alone es)
          → IsFine (end_from s.control.place (s.control.place + 1) (sights_from es r))
          → (flushed_at s.control.place e s.control.place ≡ 1 → own_ends s.control.place (ends_of (shows e s)) ≡ 0 → end_from s.control.place (s.control.place + 1) (sights_from es r) ≡ None → ⊥)
          → flush_ends_from s.control.place (e ∷ es) whole ≡ told o s.control.phase s.control.key_required (call_alone e ++ calls_alone es)
      by (Entry.Call who Call.Flush) r kind now rest fine there =
          let p = s.control.place in
          let refused = is_some (flush_error s.control) in
          let own : end_at p p (ends_of (shows (Entry.Call who Call.Flush) s)) ≡ refusal_at p p refused = kind ∙ ap (λ (b : Bool). refusal_at p p (b && refused)) (eq-eqb p p refl) in
          let state : state_in (end_from p 0 whole) ≡ answer refused = ap state_in (now ∙ ap (λ (a : Option (ℕ × PromiseState)). first_of a (end_from p (p + 1) (sights_from es r))) own) ∙ flush_state p (end_from p (p + 1) (sights_from es r)) refused (λ off. (fine, there (ap bit (eq-eqb p p refl)) (own_none p p _ (own ∙ ap (λ (b : Bool). refusal_at p p b) off)))) in
          ap (λ (a : PromiseState). a ∷ flush_ends_from (p + 1) es whole) state ∙ ap (λ (l : List PromiseState). answer refused ∷ l) rest
      by e r kind now rest fine there = rest ∙ sym (told_more o s.control.phase s.control.key_required e (calls_alone es) refl)

pub ends_as_told : (quiet : Always EndsQuiet) (o : Opening) (h : List Entry) → 1 ≤ o.saturation → (k : EndsCalm o h) → flush_ends o h ≡ told o CodecState.Unconfigured true (calls_alone h)
ends_as_told quiet o h some k = alike o (sights o h) h (opening_state o) k.state opening_course refl (opening_flow o) (opening_promises o) k.replays k.calm (quiet o h k.state some k.replays k.quiet).no_promises (λ p le. refl)

pub same_shown : Always IsNeverStuck → Always EndsQuiet → SameShown
same_shown facts quiet o g h some j k same = record {
  outputs = same_outputs facts quiet o some g h j k same;
  ends = ends_as_told quiet o g some j ∙ (ap (λ (ys : List Call). told o CodecState.Unconfigured true ys) same ∙ sym (ends_as_told quiet o h some k));
}
