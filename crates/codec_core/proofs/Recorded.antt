-- A step is recorded, with what it shows.
use Rattle.std.proofs.Common.{ℕ, not, ◌≡◌, ◌+◌, ◌-◌, ◌^◌, ◌<◌, ◌≤◌, Bool, false, true, eqb, slice_get, List, [], ◌∷◌, ◌++◌, drop, length, length-append, Option, Some, None, is_some, refl, ap, sym, append-nil, eq-eqb, ◌∙◌, arith}
use Rattle.std.specs.Prelude.{nat_lt, IfSome}
use Rattle.std.specs.List.{AllByRecursion}
use Rattle.std.proofs.lemmas.Bool.{and_parts, eqb-true}
use Rattle.std.proofs.lemmas.List.{drop-append-le, drop-drop, length-drop}
use Rattle.std.proofs.lemmas.Bool.Decides.{nat_tests}
use Rattle.wc_base.specs.declared.{error.DomError.DomError, error.DomError.TheVariants.Abort, who.Who.Who}
use Rattle.codec_definitions.specs.declared.unit.Unit as media
use Rattle.coder_api.specs.Lent.{Lent}
use Rattle.codec_model.specs.declared.entry.{Call.Call, Entry.Entry, Event.Event, Shown.Shown, Task.Task, PromiseEnd.PromiseEnd}
use Rattle.codec_model.specs.Control.{Control, carried, left, front, may_take, after_take, at_next_place}
use Rattle.codec_model.specs.{Replay.with_control, Replay.call_error, ShownLaws.each_more, Earlier.pending_below, Earlier.resolved_below}
use Rattle.codec_model.specs.Facts.{Always, IsNeverStuck, NamesEarlier}
use Rattle.codec_model.specs.StepLaws.{own_promise}
use Rattle.codec_model.specs.Shown.{shows as events_of, units_in, units_shown, ends_of, shown, outputs_of, shown_at, promise_of, refused_shows, call_shows, close_shows, rejections, turn_shows}
use Rattle.codec_accounts.specs.{Asked.asked_at, Boxes.act_of, Boxes.removal_act}
use Rattle.history_laws.specs.CountLaws.{step_counts}
use Rattle.codec_core.specs.declared.out.Out.{Out}
use Rattle.codec_core.specs.Codec.{IsAskedAt, IsOutOf, IsKept, IsCore, OutputsWait, kept_box, reclaims}
use Rattle.codec_core.specs.Trace.{TraceValue, EndsBelow}
use Rattle.codec_core.proofs.{Promises.task_ends, Owning.own_more, Owning.out_more}
use Rattle.codec_core.proofs.Outputs.{outputs_more, outputs_shown, front_drop}
use Rattle.codec_core.proofs.Steps.{Moved, kept_more, takes_one}

-- ---- the outputs that wait after one more entry

-- so many of those that waited were taken, and the entry's own come behind them
outputs_go : (xs : List Shown) (waiting : List media.Unit) (k k' : Control) (x : Shown) (n : ℕ) → OutputsWait xs waiting k → k'.shown ≡ k.shown + length (units_in x.events) → k'.taken ≡ k.taken + n → k.taken + n ≤ k.shown → OutputsWait (xs ++ x ∷ []) (drop n waiting ++ units_in x.events) k'
outputs_go xs waiting k k' x n outputs shown taken some = record {
  counted = omega (arith, outputs.counted, shown, ap length (outputs_more xs x), length-append (units_shown xs) (units_in x.events));
  took = omega (arith, shown, taken, some);
  others =
      ap (λ us. us ++ units_in x.events) (ap (drop n) outputs.others ∙ drop-drop n k.taken (units_shown xs))
      ∙ (sym (drop-append-le (k.taken + n) (units_shown xs) (units_in x.events) (omega (arith, some, outputs.counted)))
      ∙ (ap (drop (k.taken + n)) (sym (outputs_more xs x)) ∙ ap (λ m. drop m (units_shown (xs ++ x ∷ []))) (sym taken)));
}

-- ---- one more entry

module _ {t : TraceValue} {slot : Option Lent} {out : Out} {k : Control} {spare : ℕ} (is : IsCore t slot out k spare) (free spare' : ℕ) {next : Option Lent} {k' : Control} {e : Entry} (x : Shown) (m : Moved next e is.kept.state k') (shows : x ≡ shown_at e (with_control k is.kept.state)) where
  shown_here : x ≡ shown_at e is.kept.state
  shown_here = shows ∙ ap (λ (c : Control). shown_at e (with_control c is.kept.state)) (sym is.kept.is_control)

  -- there is a place for it
  abbrev HasPlace : Type 0
  HasPlace = (left k' + spare' + reclaims k'.phase + 1 ≤ free) × (length t.entries + free < 2 ^ 63)

  core_by : (waiting : List media.Unit) (out' : Out) → OutputsWait (t.shown ++ x ∷ []) waiting k' → HasPlace → IsAskedAt (asked_at k'.opening (t.entries ++ e ∷ [])) next → (is_some k'.running ≡ true → IsOutOf out' (asked_at k'.opening (t.entries ++ e ∷ []))) → IsCore (record { entries = t.entries ++ e ∷ []; shown = t.shown ++ x ∷ []; waiting = waiting; free = free - 1 }) next out' k' spare'
  core_by waiting out' outputs place own lent =
      let same : k'.opening ≡ k.opening = m.leaves.same_opening ∙ ap (λ (c : Control). c.opening) is.kept.is_control in
      record {
        kept = kept_more is.kept m;
        shows = rw (is.shows, shown_here, same) (sym (each_more k.opening t.entries e is.kept.state is.kept.replays));
        outputs = outputs;
        own = own;
        lent = lent;
        places = omega (arith, place.0);
        fits = omega (arith, place.0, place.1, length-append t.entries (e ∷ []));
      }

  -- an entry that takes no output adds its own to those that wait
  outputs_kept : takes_one e ≡ false → OutputsWait (t.shown ++ x ∷ []) (t.waiting ++ units_in x.events) k'
  outputs_kept none =
      let now = ap (λ (c : Control). c.shown) m.is_control in
      let own : length (units_in x.events) ≡ length (units_in (events_of e is.kept.state)) = ap (λ (y : Shown). length (units_in y.events)) shown_here in
      outputs_go t.shown t.waiting k k' x 0 is.outputs (omega (arith, step_counts e is.kept.state m.after m.steps, ap (λ (c : Control). c.shown) is.kept.is_control, now, own)) (omega (arith, m.leaves.taken none, ap (λ (c : Control). c.taken) is.kept.is_control)) (omega (arith, is.outputs.took))

  -- the trace with one more entry is that of the codec after it
  pub core_more : (out' : Out) → takes_one e ≡ false → HasPlace → IsAskedAt (asked_at k'.opening (t.entries ++ e ∷ [])) next → (is_some k'.running ≡ true → IsOutOf out' (asked_at k'.opening (t.entries ++ e ∷ []))) → IsCore (record { entries = t.entries ++ e ∷ []; shown = t.shown ++ x ∷ []; waiting = t.waiting ++ units_in x.events; free = free - 1 }) next out' k' spare'
  core_more out' none place own lent = core_by (t.waiting ++ units_in x.events) out' (outputs_kept none) place own lent

  -- and of an entry that is neither the start nor the end of an item
  pub core_next : takes_one e ≡ false → HasPlace → (stays : Bool) → act_of e is.kept.state ≡ removal_act (not stays) → next ≡ kept_box stays slot → IsCore (record { entries = t.entries ++ e ∷ []; shown = t.shown ++ x ∷ []; waiting = t.waiting ++ units_in x.events; free = free - 1 }) next out k' spare'
  core_next none place stays act box = core_more out none place (own_more is.kept stays m act box is.own) (out_more out is.kept stays m act is.lent)

-- ---- a take

-- an output waits exactly where one may be taken
pub waits : (xs : List Shown) (waiting : List media.Unit) (k : Control) → OutputsWait xs waiting k → may_take k.taken k ≡ nat_lt 0 (length waiting)
waits xs waiting k outputs =
    let long : length waiting ≡ length (units_shown xs) - k.taken = ap length outputs.others ∙ length-drop k.taken (units_shown xs) in
    rw (eq-eqb k.taken k.taken refl) (grind (arith, nat_tests, long, outputs.counted))

none_waits : (xs : List Shown) (waiting : List media.Unit) (k : Control) → OutputsWait xs waiting k → front waiting ≡ None → may_take k.taken k ≡ false
none_waits xs [] k outputs none = waits xs [] k outputs
none_waits xs (u ∷ us) k outputs none = absurd cc

-- the trace after a take is that of the codec after it
pub core_taken : {t : TraceValue} {slot : Option Lent} {out : Out} {k k' : Control} {spare : ℕ} (is : IsCore t slot out k spare) (free spare' : ℕ) (who : Who) (n : ℕ) → may_take n k ≡ true → k' ≡ after_take (at_next_place k) → Moved slot (Entry.Call who (Call.Take n)) is.kept.state k' → left k' + spare' + reclaims k'.phase + 1 ≤ free → length t.entries + free < 2 ^ 63
    → IsCore (record { entries = t.entries ++ Entry.Call who (Call.Take n) ∷ []; shown = t.shown ++ record { turn = None; events = [] } ∷ []; waiting = drop 1 t.waiting ++ []; free = free - 1 }) slot out k' spare'
core_taken {t = t} {out = out} {k = k} {k' = k'} is free spare' who n may after m place fits =
    let x : Shown = record { turn = None; events = [] } in
    let parts = and_parts (eqb n k.taken) (nat_lt n k.shown) may in
    let some : k.taken < k.shown = grind (arith, nat_tests, eqb-true n k.taken parts.0, parts.1) in
    let outputs = outputs_go t.shown t.waiting k k' x 1 is.outputs (omega (arith, ap (λ (c : Control). c.shown) after)) (ap (λ (c : Control). c.taken) after) (omega (arith, some)) in
    core_by is free spare' x m refl (drop 1 t.waiting ++ []) out outputs (place, fits) (own_more is.kept true m refl refl is.own) (out_more out is.kept true m refl is.lent)

-- the output that is taken is the one with its number
pub taken_is : {t : TraceValue} {slot : Option Lent} {out : Out} {k : Control} {spare : ℕ} (is : IsCore t slot out k spare) (n : ℕ) (u : media.Unit) → n ≡ k.taken → front t.waiting ≡ Some u → slice_get (outputs_of (shown k.opening t.entries)) n ≡ Some u
taken_is {t = t} {k = k} is n u same found =
    rw (outputs_shown k.opening t.entries, ← is.shows, same, ← front_drop k.taken (units_shown t.shown), ← is.outputs.others) found

pub next_fits : {t : TraceValue} {slot : Option Lent} {out : Out} {k : Control} {spare : ℕ} → IsCore t slot out k spare → k.place + 1 < 2 ^ 64
next_fits is = omega (arith, is.fits, is.kept.is_place)

-- ---- the promises that an entry ends are named by entries up to it

rejected_below : (error : DomError) (n : ℕ) (ps : List ℕ) (more : List Event) → EndsBelow n more → AllByRecursion (λ p. p < n) ps → EndsBelow n (rejections error ps ++ more)
rejected_below error n [] more rest h = rest
rejected_below error n (p ∷ ps) more rest h = (h.0, rejected_below error n ps more rest h.1)

higher : (n m : ℕ) (ends : List PromiseEnd) → n ≤ m → AllByRecursion (λ (e : PromiseEnd). e.promise < n) ends → AllByRecursion (λ (e : PromiseEnd). e.promise < m) ends
higher n m [] le h = tt
higher n m (e ∷ es) le h = (omega (arith, h.0, le), higher n m es le h.1)

pub close_below : (error : DomError) (k : Control) → NamesEarlier k → EndsBelow k.place (close_shows error k.pending)
close_below error k names = rejected_below error k.place k.pending (Event.ErrorCall error ∷ []) tt (pending_below k names)

pub turn_below : (ts : List Task) (k : Control) → k.tasks ≡ ts → NamesEarlier k → EndsBelow k.place (turn_shows ts k)
turn_below (Task.Output units ∷ ts) k is names = rw (task_ends (Task.Output (carried k.active units)) k.shown) tt
turn_below (Task.Flushed p units ∷ ts) k is names = rw (task_ends (Task.Flushed p (carried k.active units)) k.shown) (resolved_below k p units ts names is, tt)
turn_below (Task.Close x ∷ ts) k is names = close_below x k names
turn_below ts k is names = tt

-- the bound that the history's length gives
pub ends_below : Always IsNeverStuck → {h : List Entry} {slot : Option Lent} {k : Control} (kept : IsKept h slot k) (x y : Shown) → x ≡ y → (NamesEarlier k → EndsBelow k.place y.events) → EndsBelow (length h + 1) x.events
ends_below always {h = h} {k = k} kept x y is below =
    let names : NamesEarlier k = rw (← kept.is_control) (always k.opening h kept.state kept.some_saturate kept.replays).names in
    rw (is, ← kept.is_place) (higher k.place (k.place + 1) (ends_of y.events) (omega arith) (below names))

-- what a call shows ends its own promise, or those that are pending
call_below : (x : Call) (k : Control) (o : Option DomError) → NamesEarlier k → EndsBelow (k.place + 1) (call_shows x k.place k.pending o)
call_below x k (Some error) names = by (promise_of x k.place) (own_promise x k.place)
  where
    by : (p : Option ℕ) → ((q : ℕ) → p ≡ Some q → q ≡ k.place) → EndsBelow (k.place + 1) (refused_shows p error)
    by None own = tt
    by (Some q) own = (omega (arith, own q refl), tt)
call_below Call.Reset k None names = higher k.place (k.place + 1) _ (omega arith) (rw append-nil at (rejected_below Abort k.place k.pending [] tt (pending_below k names)))
call_below Call.Close k None names = higher k.place (k.place + 1) _ (omega arith) (rw append-nil at (rejected_below Abort k.place k.pending [] tt (pending_below k names)))
call_below x k None names = tt

pub call_ends : Always IsNeverStuck → {h : List Entry} {slot : Option Lent} {k : Control} (kept : IsKept h slot k) (x : Call) (y : Shown) → y ≡ record { turn = None; events = call_shows x k.place k.pending (call_error x k) } → EndsBelow (length h + 1) y.events
call_ends always {h = h} {k = k} kept x y is =
    let names : NamesEarlier k = rw (← kept.is_control) (always k.opening h kept.state kept.some_saturate kept.replays).names in
    rw (ap (λ (z : Shown). z.events) is, ← kept.is_place) (call_below x k (call_error x k) names)

-- the next output that may be taken, if there is one, is the first of those that wait
pub next_is : {t : TraceValue} {slot : Option Lent} {out : Out} {k : Control} {spare : ℕ} (is : IsCore t slot out k spare) → IfSome (front t.waiting) (λ u. slice_get (outputs_of (shown k.opening t.entries)) k.taken ≡ Some u)
next_is {t = t} {k = k} is = by (front t.waiting) refl
  where
    by : (o : Option media.Unit) → front t.waiting ≡ o → IfSome o (λ u. slice_get (outputs_of (shown k.opening t.entries)) k.taken ≡ Some u)
    by None found = tt
    by (Some u) found = taken_is is k.taken u refl found

pub some_waits : (xs : List Shown) (waiting : List media.Unit) (k : Control) → OutputsWait xs waiting k → is_some (front waiting) ≡ may_take k.taken k
some_waits xs [] k outputs = sym (waits xs [] k outputs)
some_waits xs (u ∷ us) k outputs = rw (waits xs (u ∷ us) k outputs) (grind (arith, nat_tests))
