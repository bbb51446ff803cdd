-- Outputs of one configuration are shown in the order of their indexes.
use Rattle.std.proofs.Common.{ℕ, zero, suc, ◌≡◌, ◌+◌, ◌≤◌, ◌<◌, Bool, true, false, eqb, cond, eq-eqb, List, [], ◌∷◌, ◌++◌, append_assoc, append-nil, length, take, drop, slice_get, Option, Some, None, is_some, refl, ap, sym, subst, ◌∙◌, arith}
use Rattle.std.specs.Prelude.{option_map, unwrap_or}
use Rattle.std.specs.List.{AllByRecursion}
use Rattle.std.proofs.lemmas.Bool.{ne_eqb}
use Rattle.codec_model.specs.declared.entry.{Work.Work, Entry.Entry, CodecState.CodecState}
use Rattle.codec_model.specs.Facts.{bit}
use Rattle.codec_model.specs.Replay.{State, Given, given_more, nothing_given, opening_state, step}
use Rattle.codec_model.specs.Shown.{shown_at}
use Rattle.codec_laws.specs.declared.source.{Source.Source, Output.Output}
use Rattle.codec_laws.specs.declared.sight.Sight.{Sight}
use Rattle.codec_laws.specs.Sights.{sight_of, sights, sights_from}
use Rattle.codec_laws.specs.Sources.{Book, given_by, shown_by, outputs, outputs_from, book_after, kept, removed}
use Rattle.codec_laws.specs.Laws.{count_of, IndexesRise}
use Rattle.codec_laws.proofs.Course.{Asked, Course, course_after, fresh}
use Rattle.codec_laws.proofs.FlowLaws.{Flow, step_flow}
use Rattle.codec_laws.proofs.OutLaws.{Outs, yields, sources_of, step_outs, take_and_drop}
use Rattle.codec_laws.proofs.PlaceLaws.{Rising, rising_high, Begins, Calls, Fine, Here, here_first, here_rest, since_after, calls_more, step_phases, all_front, all_back, all_both, all_take, epoch_here, next_book}
use Rattle.codec_laws.proofs.OldLaws.{opening_course, opening_flow, opening_outs}

-- how many of these sources are of a configuration
abbrev of : ℕ → List Source → ℕ
of f [] = 0
of f (y ∷ ys) = bit (eqb y.configure f) + of f ys

-- each has the next index of its configuration, where these come before
abbrev AreNext : List Source → List Source → Type 0
AreNext es [] = Unit {0}
AreNext es (y ∷ ys) = (y.index ≡ of y.configure es) × AreNext (es ++ y ∷ []) ys

abbrev AreShownNext : List Source → List Output → Type 0
AreShownNext es [] = Unit {0}
AreShownNext es (y ∷ ys) = (y.source.index ≡ of y.source.configure es) × AreShownNext (es ++ y.source ∷ []) ys

of_append : (f : ℕ) (xs ys : List Source) → of f (xs ++ ys) ≡ of f xs + of f ys
of_append f [] ys = omega arith
of_append f (x ∷ xs) ys = omega (arith, of_append f xs ys)

next_both : (es us vs : List Source) → AreNext es us → AreNext (es ++ us) vs → AreNext es (us ++ vs)
next_both es [] vs h k = subst (λ l. AreNext l vs) (append-nil es) k
next_both es (u ∷ us) vs h k = (h.0, next_both (es ++ u ∷ []) us vs h.1 (subst (λ l. AreNext l vs) (sym (append_assoc es (u ∷ []) us)) k))

next_front : (es us vs : List Source) → AreNext es (us ++ vs) → AreNext es us
next_front es [] vs h = tt
next_front es (u ∷ us) vs h = (h.0, next_front (es ++ u ∷ []) us vs h.1)

next_back : (es us vs : List Source) → AreNext es (us ++ vs) → AreNext (es ++ us) vs
next_back es [] vs h = subst (λ l. AreNext l vs) (sym (append-nil es)) h
next_back es (u ∷ us) vs h = subst (λ l. AreNext l vs) (append_assoc es (u ∷ []) us) (next_back (es ++ u ∷ []) us vs h.1)

-- what is of other configurations does not count
abbrev IsBelow : ℕ → Source → Type 0
IsBelow n y = y.configure < n

abbrev IsFrom : ℕ → Source → Type 0
IsFrom n y = n ≤ y.configure

of_below : (f n : ℕ) (es : List Source) → AllByRecursion (IsBelow n) es → n ≤ f → of f es ≡ 0
of_below f n [] h le = refl
of_below f n (e ∷ es) h le = let lt : e.configure < n = h.0 in omega (arith, of_below f n es h.1 le, ap bit (ne_eqb e.configure f (omega (arith, lt, le))))

next_old : (n : ℕ) (old es ys : List Source) → AllByRecursion (IsBelow n) old → AllByRecursion (IsFrom n) ys → AreNext es ys → AreNext (old ++ es) ys
next_old n old es [] below from h = tt
next_old n old es (y ∷ ys) below from h =
    let le : n ≤ y.configure = from.0 in
    (h.0 ∙ omega (arith, of_append y.configure old es, of_below y.configure n old below le), subst (λ l. AreNext l ys) (sym (append_assoc old es (y ∷ []))) (next_old n old (es ++ y ∷ []) ys below from.1 h.1))

-- ---- what items give

given_next : (p f n k : ℕ) (es : List Source) → of f es ≡ n → AreNext es (given_by p f n k)
given_next p f n zero es h = tt
given_next p f n (suc k) es h = (sym h, given_next p f (n + 1) k (es ++ record { call = p; configure = f; index = n } ∷ []) (omega (arith, h, of_append f es (record { call = p; configure = f; index = n } ∷ []), ap bit (eq-eqb f f refl))))

of_given : (p f n k : ℕ) → of f (given_by p f n k) ≡ k
of_given p f n zero = refl
of_given p f n (suc k) = omega (arith, of_given p f (n + 1) k, ap bit (eq-eqb f f refl))

given_below : (p f n k m : ℕ) → f < m → AllByRecursion (IsBelow m) (given_by p f n k)
given_below p f n zero m lt = tt
given_below p f n (suc k) m lt = (lt, given_below p f (n + 1) k m lt)

below_more : (n m : ℕ) (es : List Source) → n ≤ m → AllByRecursion (IsBelow n) es → AllByRecursion (IsBelow m) es
below_more n m [] le h = tt
below_more n m (e ∷ es) le h = ((let lt : e.configure < n = h.0 in omega (arith, lt, le)), below_more n m es le h.1)

indexed : (qs : List Asked) (g : Given) (f n low high : ℕ) (es : List Source) → f < low → Rising low qs high → of f es ≡ n → AllByRecursion (IsBelow (f + 1)) es → AreNext es (sources_of qs g f n)
indexed [] g f n low high es lt rises count below = tt
indexed ((p, Work.Configure c) ∷ qs) g f n low high es lt rises count below =
    let le : low ≤ p = rises.0 in
    indexed qs (given_more (Work.Configure c) g) p 0 (p + 1) high es (omega arith) rises.1 (of_below p (f + 1) es below (omega (arith, lt, le))) (below_more (f + 1) (p + 1) es (omega (arith, lt, le)) below)
indexed ((p, Work.Coded input) ∷ qs) g f n low high es lt rises count below = gives (Work.Coded input) (length (yields (Work.Coded input) g)) (λ k more. indexed qs (given_more (Work.Coded input) g) f k (p + 1) high more (let le : low ≤ p = rises.0 in omega (arith, lt, le)) rises.1)
  where
    gives : (w : Work) (k : ℕ) → ((m : ℕ) (more : List Source) → of f more ≡ m → AllByRecursion (IsBelow (f + 1)) more → AreNext more (sources_of qs (given_more w g) f m)) → AreNext es (given_by p f n k ++ sources_of qs (given_more w g) f (n + k))
    gives w k rest = next_both es (given_by p f n k) _ (given_next p f n k es count) (rest (n + k) (es ++ given_by p f n k) (omega (arith, count, of_append f es (given_by p f n k), of_given p f n k)) (all_both (IsBelow (f + 1)) es (given_by p f n k) below (given_below p f n k (f + 1) (omega arith))))
indexed ((p, Work.Flush) ∷ qs) g f n low high es lt rises count below = gives Work.Flush (length (yields Work.Flush g)) (λ k more. indexed qs (given_more Work.Flush g) f k (p + 1) high more (let le : low ≤ p = rises.0 in omega (arith, lt, le)) rises.1)
  where
    gives : (w : Work) (k : ℕ) → ((m : ℕ) (more : List Source) → of f more ≡ m → AllByRecursion (IsBelow (f + 1)) more → AreNext more (sources_of qs (given_more w g) f m)) → AreNext es (given_by p f n k ++ sources_of qs (given_more w g) f (n + k))
    gives w k rest = next_both es (given_by p f n k) _ (given_next p f n k es count) (rest (n + k) (es ++ given_by p f n k) (omega (arith, count, of_append f es (given_by p f n k), of_given p f n k)) (all_both (IsBelow (f + 1)) es (given_by p f n k) below (given_below p f n k (f + 1) (omega arith))))

epoch_indexed : (since high : ℕ) (qs : List Asked) (phase : CodecState) → Begins qs phase → Rising since qs high → AreNext [] (sources_of qs nothing_given 0 0)
epoch_indexed since high [] phase begins rises = tt
epoch_indexed since high ((p, Work.Configure c) ∷ qs) phase begins rises = indexed qs (given_more (Work.Configure c) nothing_given) p 0 (p + 1) high [] (omega arith) rises.1 refl tt
epoch_indexed since high ((p, Work.Coded input) ∷ qs) phase begins rises = absurd cc
epoch_indexed since high ((p, Work.Flush) ∷ qs) phase begins rises = absurd cc

-- ---- what is shown

shown_both : (turn : ℕ) (es ss : List Source) (rest : List Output) → AreNext es ss → AreShownNext (es ++ ss) rest → AreShownNext es (shown_by turn ss ++ rest)
shown_both turn es [] rest h k = subst (λ l. AreShownNext l rest) (append-nil es) k
shown_both turn es (s ∷ ss) rest h k = (h.0, shown_both turn (es ++ s ∷ []) ss rest h.1 (subst (λ l. AreShownNext l rest) (sym (append_assoc es (s ∷ []) ss)) k))

module _ (whole : List Sight) where
  from_fine : (since high : ℕ) (ys : List Source) → AllByRecursion (Fine whole since high) ys → AllByRecursion (IsFrom since) ys
  from_fine since high [] h = tt
  from_fine since high (y ∷ ys) h = (h.0.late, from_fine since high ys h.1)

  below_fine : (since high : ℕ) (ys : List Source) → AllByRecursion (Fine whole since high) ys → AllByRecursion (IsBelow (high + 1)) ys
  below_fine since high [] h = tt
  below_fine since high (y ∷ ys) h = ((let a = h.0.before in let b = h.0.below in omega (arith, a, b)), below_fine since high ys h.1)

  -- what came before the epoch
  abbrev old_after : Sight → List Source → Course → List Source
  old_after v old x = cond (is_some v.removes) (old ++ (x.sources ++ take v.outputs x.book.waiting)) old

  next_from : (es : List Entry) (s : State) (since : ℕ) (x : Course) (old : List Source) → Flow x s → Outs x s.control → Calls whole since x s → Here whole s.control.place (sights_from es s) → AllByRecursion (IsBelow since) old → AreShownNext (old ++ x.sources) (outputs_from (sights_from es s) x.book)
  next_from [] s since x old f o c here below = tt
  next_from (e ∷ es) s since x old f o c here below = by (step e s) refl here (λ t is. next_from es t (since_after whole (sight_of e (shown_at e s) t.control.size) s.control.place since) (course_after e s x) (old_after (sight_of e (shown_at e s) t.control.size) old x) (step_flow e s t is x f) (step_outs e s t is x f o))
    where
      next : (t : State) → List Sight
      next t = sight_of e (shown_at e s) t.control.size ∷ sights_from es t

      by : (u : Option State) → step e s ≡ u → Here whole s.control.place (unwrap_or (option_map next u) [])
          → ((t : State) → step e s ≡ Some t → Calls whole (since_after whole (sight_of e (shown_at e s) t.control.size) s.control.place since) (course_after e s x) t → Here whole t.control.place (sights_from es t) → AllByRecursion (IsBelow (since_after whole (sight_of e (shown_at e s) t.control.size) s.control.place since)) (old_after (sight_of e (shown_at e s) t.control.size) old x) → AreShownNext (old_after (sight_of e (shown_at e s) t.control.size) old x ++ (course_after e s x).sources) (outputs_from (sights_from es t) (course_after e s x).book))
          → AreShownNext (old ++ x.sources) (outputs_from (unwrap_or (option_map next u) []) x.book)
      by None is here rest = tt
      by (Some t) is here rest =
          let v = sight_of e (shown_at e s) t.control.size in
          let p = step_phases e s t is in
          let now = take v.outputs x.book.waiting in
          let epoch = epoch_here whole since x s f o c in
          let fine : AllByRecursion (Fine whole since s.control.place) (x.sources ++ now) = all_both (Fine whole since s.control.place) x.sources now (all_front (Fine whole since s.control.place) x.sources x.book.waiting epoch.fine) (all_take (Fine whole since s.control.place) v.outputs x.book.waiting (all_back (Fine whole since s.control.place) x.sources x.book.waiting epoch.fine)) in
          let order : AreNext [] (x.sources ++ x.book.waiting) = subst (λ l. AreNext [] l) (sym o.sources) (epoch_indexed since s.control.place x.past CodecState.Unconfigured epoch.begins epoch.rises) in
          let waits : AreNext x.sources now = next_front x.sources now (drop v.outputs x.book.waiting) (subst (λ l. AreNext x.sources l) (sym (take_and_drop v.outputs x.book.waiting)) (next_back [] x.sources x.book.waiting order)) in
          let here_next : AreNext (old ++ x.sources) now = next_old since old x.sources now below (from_fine since s.control.place now (all_back (Fine whole since s.control.place) x.sources now fine)) waits in
          let calls = calls_more whole e s t v since x p refl refl (here_first whole s.control.place v (sights_from es t) here) f.place c in
          let both = by_removed (is_some v.removes) below (all_both (IsBelow (s.control.place + 1)) old (x.sources ++ now) (below_more since (s.control.place + 1) old (since_low since x s c) below) (below_fine since s.control.place (x.sources ++ now) fine)) in
          let more = rest t is calls (here_rest whole s.control.place t.control.place v (sights_from es t) p.place here) both in
          let book : (course_after e s x).book ≡ book_after v x.book = next_book whole (is_some v.removes) (fresh x) _ (removed x.book) (kept v x.book) refl refl in
          let sources : old_after v old x ++ (course_after e s x).sources ≡ (old ++ x.sources) ++ now = same_sources (is_some v.removes) _ now refl in
          shown_both x.book.place (old ++ x.sources) now (outputs_from (sights_from es t) (book_after v x.book)) here_next (subst (λ l. AreShownNext l (outputs_from (sights_from es t) (book_after v x.book))) sources (subst (λ (b : Book). AreShownNext (old_after v old x ++ (course_after e s x).sources) (outputs_from (sights_from es t) b)) book more))
        where
          by_removed : (b : Bool) → AllByRecursion (IsBelow since) old → AllByRecursion (IsBelow (s.control.place + 1)) (old ++ (x.sources ++ take (sight_of e (shown_at e s) t.control.size).outputs x.book.waiting)) → AllByRecursion (IsBelow (cond b (s.control.place + 1) since)) (cond b (old ++ (x.sources ++ take (sight_of e (shown_at e s) t.control.size).outputs x.book.waiting)) old)
          by_removed true h k = k
          by_removed false h k = h

          same_sources : (b : Bool) (y : Course) (now : List Source) → y.sources ≡ x.sources ++ now → cond b (old ++ (x.sources ++ now)) old ++ (cond b (fresh x) y).sources ≡ (old ++ x.sources) ++ now
          same_sources true y now is = append-nil (old ++ (x.sources ++ now)) ∙ sym (append_assoc old x.sources now)
          same_sources false y now is = ap (λ (l : List Source). old ++ l) is ∙ sym (append_assoc old x.sources now)

          since_low : (since : ℕ) (x : Course) (s : State) → Calls whole since x s → since ≤ s.control.place + 1
          since_low since x s c = let low = rising_high since s.control.place x.works c.rises in omega (arith, low)

-- ---- by its number

next_at : (es : List Source) (ys : List Output) (n : ℕ) (y : Output) → AreShownNext es ys → slice_get ys n ≡ Some y → y.source.index ≡ of y.source.configure es + count_of y.source.configure (take n ys)
next_at es [] n y h is = absurd cc
next_at es (z ∷ zs) zero y h is = let same : z ≡ y = cc in subst (λ (u : Output). u.source.index ≡ of u.source.configure es + 0) same (h.0 ∙ omega arith)
next_at es (z ∷ zs) (suc n) y h is = let rest = next_at (es ++ z.source ∷ []) zs n y h.1 is in omega (arith, rest, of_append y.source.configure es (z.source ∷ []))

pub indexes_rise : IndexesRise
indexes_rise o h legal n y is =
    let all = next_from (sights o h) h (opening_state o) 0 opening_course [] (opening_flow o) (opening_outs o)
    (record { none_removes = λ k low high. absurd (omega (arith, high)); rises = omega arith; begins = λ e. absurd cc; there = tt })
    (λ k. ap (λ (m : ℕ). slice_get (sights o h) m) (omega arith)) tt in
    let at = next_at [] (outputs (sights o h)) n y all is in omega (arith, at)
