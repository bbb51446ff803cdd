-- The lines of one codec's legal history are within their types.
use Rattle.std.proofs.Common.{ℕ, ◌≡◌, ◌<◌, ◌≤◌, ◌+◌, ◌^◌, ◌&&◌, true, eqb, List, [], ◌∷◌, ◌++◌, length, Option, Some, None, IfSome, is_some, refl, subst, ◌∙◌, arith, lit<}
use Rattle.std.specs.Prelude.{flat_map}
use Rattle.std.specs.List.{AllByRecursion, zip}
use Rattle.std.proofs.lemmas.Bool.{and_parts, eqb-true}
use Rattle.wc_base.specs.{Options.cond_is, declared.error.DomError.DomError}
use Rattle.codec_definitions.specs.declared.unit.Unit as media
use Rattle.codec_definitions.specs.declared.unit.Unit.TheVariants as unit
use Rattle.wc_config.specs.declared.config.AudioDecoderConfig.{AudioDecoderConfig}
use Rattle.codec_model.specs.declared.entry.{Opening.Opening, Call.Call, Entry.Entry, Event.Event, Shown.Shown, WorkKind.WorkKind}
use Rattle.codec_model.specs.{declared.entry.Task.Task, declared.entry.Ended.Ended, declared.entry.Outcome.Outcome, ShownLaws.replay_append, StepLaws.EachStep, StepLaws.by_steps}
use Rattle.codec_model.specs.Control.{Control, may_start, carried}
use Rattle.codec_model.specs.Replay.{State, Given, call_error, step, replay, replay_from, ended_of, ended_run, answer_to, decoder_config, labelled}
use Rattle.codec_model.specs.Shown.{rejections, refused_shows, promise_of, call_shows, outputs_from, turn_shows, shows, units_in, shown_at, each_shown_from}
use Rattle.codec_model.specs.Facts.{NamesEarlier, IsNeverStuck, Always}
use Rattle.codec_model.specs.Earlier.{pending_below, resolved_below}
use Rattle.script_types.specs.declared.script.ScriptData.{ScriptData}
use Rattle.trace_text.specs.Report.{call_line_of, entry_line_of, output_lines, event_lines, lines_from, entry_lines}
use Rattle.report_lines.specs.Fits.{FitsOutcome, FitsEntryLine, FitsLine}
use Rattle.history_laws.specs.{Answers.answer_where, Numbers.AreItemsUpTo, Numbers.IsUpTo, NumberLaws.step_up, Outputs.HoldsOwn}
use Rattle.history_laws.specs.OutputLaws.{all_append, IsOwn, IsOwnGiven, Own, step_own}
use Rattle.run_ranges.proofs.{Cases.by_option, Cases.comes_after, CodeRanges.CodesAreBytes}
use Rattle.run_ranges.proofs.UnitRanges.{IsUnitWithin, are_given, judge}

-- ---- what a history does not tell

abbrev pub IsOutcomeWithin : Outcome → Type 0
IsOutcomeWithin (Outcome.NoSlot n) = n < 2 ^ 64
IsOutcomeWithin o = Unit {0}

-- a call's line fits, whatever its exception; the moment and the refusal of another entry are within their types
abbrev pub IsEntryWithin : ScriptData → Entry → Type 0
IsEntryWithin s (Entry.Call who x) = (o : Option DomError) → FitsEntryLine s (call_line_of who x o)
IsEntryWithin s (Entry.Done epoch item moment o) = (moment < 2 ^ 64) × IsOutcomeWithin o
IsEntryWithin s (Entry.Reclaim moment) = moment < 2 ^ 64
IsEntryWithin s e = Unit {0}

-- ---- starts and ends

-- there are as many units where the first carries a config
labelled_few : (o : Option AudioDecoderConfig) (us : List media.Unit) → length us < 2 ^ 64 → length (labelled o us) < 2 ^ 64
labelled_few (Some c) (unit.Coded chunk config ∷ us) few = few
labelled_few _ _ few = few

-- an item that ran gave fewer units than 2^64, by what its coder was given
outcome_small : (laws : CodesAreBytes) (k : WorkKind) (g : Given) (x : Outcome) (e : Ended) → ended_of k g x ≡ Some e → IsOwnGiven (judge laws) g → IsOutcomeWithin x → FitsOutcome x
outcome_small laws k g (Outcome.Ran units) e is given own = by_option (λ a. ended_run units a ≡ Some e → units < 2 ^ 64) (answer_to k g) (λ made. absurd cc) (λ us same made.
    let few : length us < 2 ^ 64 = answer_where (IsOwn (judge laws)) (λ vs. length vs < 2 ^ 64) k g us (lit< tt) (λ id before x vs fine h. (are_given id g.config before x vs h).few fine) (λ vs some few. labelled_few (decoder_config g.config) vs few) given.1 same in
    omega (arith, eqb-true units (length us) (cond_is (eqb units (length us)) (Some (Ended.Ran us)) e made).0, few)) is
outcome_small laws k g (Outcome.NoSlot n) e is given own = own
outcome_small laws k g _ e is given own = tt

abbrev IsLineWithin : CodesAreBytes → ScriptData → ℕ → Entry → State → State → Type 0
IsLineWithin laws script n e s t = IsUpTo n s.control → IsOwnGiven (judge laws) s.running_given → n < 2 ^ 64 → IsEntryWithin script e → FitsEntryLine script (entry_line_of e (shown_at e s))

-- an entry tells what it was given, or numbers of the state
each_fits : (laws : CodesAreBytes) (script : ScriptData) (n : ℕ) → EachStep (IsLineWithin laws script n)
each_fits laws script n = record {
  refused = λ who x error s may e h given few own. own _;
  sent = λ who x w s m may e h given few own. own _;
  removes_all = λ who x s is e h given few own. own _;
  takes = λ who unit s may h given few own. own None;
  grounds = λ who to s h given few own. own None;
  start = λ i is epoch number s first may h given few own. (
      let last = and_parts (may_start s.control && eqb epoch s.control.epoch) (eqb number i.number) may in
      let items : AreItemsUpTo n (i ∷ is) = subst (AreItemsUpTo n) first h.queued in
      (omega (arith, few, h.epoch, eqb-true epoch s.control.epoch (and_parts (may_start s.control) (eqb epoch s.control.epoch) last.0).1), omega (arith, few, items.0, eqb-true number i.number last.1))
      );
  done = λ r e epoch number moment x s running its ended h given few own. (
      let same = and_parts (eqb r.epoch epoch) (eqb r.number number) its in
      let small = h.running r running in
      (omega (arith, few, small.0, eqb-true r.epoch epoch same.0), omega (arith, few, small.1, eqb-true r.number number same.1), own.0, outcome_small laws r.kind s.running_given x e ended given own.1)
      );
  turn = λ x ts s first h given few own. tt;
  reclaim = λ moment s may h given few own. own;
}

-- ---- events

abbrev IsPromiseWithin : Event → Type 0
IsPromiseWithin (Event.Resolve promise) = promise < 2 ^ 64
IsPromiseWithin (Event.Reject promise error) = promise < 2 ^ 64
IsPromiseWithin x = Unit {0}

abbrev ArePromises : List Event → Type 0
ArePromises xs = AllByRecursion IsPromiseWithin xs

rejected_within : (n : ℕ) (error : DomError) (ps : List ℕ) → n < 2 ^ 64 → AllByRecursion (λ p. p < n) ps → ArePromises (rejections error ps)
rejected_within n error [] few h = tt
rejected_within n error (p ∷ ps) few h = (omega (arith, h.0, few), rejected_within n error ps few h.1)

closed_within : (n : ℕ) (x y : DomError) (ps : List ℕ) → n < 2 ^ 64 → AllByRecursion (λ p. p < n) ps → ArePromises (rejections x ps ++ Event.ErrorCall y ∷ [])
closed_within n x y ps few h = all_append IsPromiseWithin (rejections x ps) (Event.ErrorCall y ∷ []) (rejected_within n x ps few h) (tt, tt)

outputs_within : (n : ℕ) (us : List media.Unit) → ArePromises (outputs_from n us)
outputs_within n [] = tt
outputs_within n (u ∷ us) = (tt, outputs_within (n + 1) us)

refused_within : (promise : Option ℕ) (error : DomError) → IfSome promise (λ p. p < 2 ^ 64) → ArePromises (refused_shows promise error)
refused_within None error few = (tt, tt)
refused_within (Some promise) error few = (few, tt)

-- a flush's promise is named by its place
promise_within : (x : Call) (place : ℕ) → place < 2 ^ 64 → IfSome (promise_of x place) (λ p. p < 2 ^ 64)
promise_within Call.Flush place few = few
promise_within x place few = tt

called_within : (x : Call) (place : ℕ) (ps : List ℕ) (o : Option DomError) → place < 2 ^ 64 → AllByRecursion (λ p. p < place) ps → ArePromises (call_shows x place ps o)
called_within x place ps (Some error) few h = refused_within (promise_of x place) error (promise_within x place few)
called_within Call.Reset place ps None few h = rejected_within place DomError.Abort ps few h
called_within Call.Close place ps None few h = rejected_within place DomError.Abort ps few h
called_within x place ps None few h = tt

turned_within : (ts : List Task) (c : Control) → c.tasks ≡ ts → c.place < 2 ^ 64 → NamesEarlier c → ArePromises (turn_shows ts c)
turned_within (Task.Output units ∷ ts) c is few h = outputs_within c.shown (carried c.active units)
turned_within (Task.Flushed promise units ∷ ts) c is few h =
    all_append IsPromiseWithin (outputs_from c.shown (carried c.active units)) (Event.Resolve promise ∷ []) (outputs_within c.shown (carried c.active units)) (omega (arith, resolved_below c promise units ts h is, few), tt)
turned_within (Task.Dequeue ∷ ts) c is few h = (tt, tt)
turned_within (Task.Close error ∷ ts) c is few h = closed_within c.place error error c.pending few (pending_below c h)
turned_within _ c is few h = tt

shown_promises : (e : Entry) (s : State) → s.control.place < 2 ^ 64 → NamesEarlier s.control → AllByRecursion (λ p. p < s.control.place) s.control.pending → ArePromises (shows e s)
shown_promises Entry.Turn s few names below = turned_within s.control.tasks s.control refl few names
shown_promises (Entry.Call who x) s few names below = called_within x s.control.place s.control.pending (call_error x s.control) few below
shown_promises e s few names below = search closed_within

-- a unit, and the config that stands behind a chunk
output_fits : (script : ScriptData) (u : media.Unit) → IsUnitWithin u → AllByRecursion (FitsLine script) (output_lines u)
output_fits script (unit.Sound samples) own = (own, tt)
output_fits script (unit.Image picture) own = (own, tt)
output_fits script (unit.Coded chunk None) own = (own.0, tt)
output_fits script (unit.Coded chunk (Some d)) own = (own.0, ((own.1.word.0, own.1.word.1, own.1.rate, own.1.channels, own.1.description), tt))

events_fit : (script : ScriptData) (xs : List Event) → ArePromises xs → AllByRecursion IsUnitWithin (units_in xs) → AllByRecursion (FitsLine script) (flat_map event_lines xs)
events_fit script [] promises units = tt
events_fit script (Event.Refusal error ∷ xs) promises units = events_fit script xs promises.1 units
events_fit script (Event.Output number u ∷ xs) promises units = all_append (FitsLine script) (output_lines u) (flat_map event_lines xs) (output_fits script u units.0) (events_fit script xs promises.1 units.1)
events_fit script (x ∷ xs) promises units = (promises.0, events_fit script xs promises.1 units)

-- ---- a history

abbrev AreUnits : List Shown → Type 0
AreUnits xs = AllByRecursion (λ x. AllByRecursion IsUnitWithin (units_in x.events)) xs

-- the entries behind others of a legal history, from the place of the first on
pub lines_within : (laws : CodesAreBytes) (script : ScriptData) (o : Opening) → Always IsNeverStuck → 1 ≤ o.saturation → (before es : List Entry) (s : State) (n : ℕ) → replay o before ≡ Some s → is_some (replay_from es s) ≡ true → IsUpTo n s.control → Own (judge laws) s → n + length es < 2 ^ 64
    → AllByRecursion (IsEntryWithin script) es → AllByRecursion (HoldsOwn (judge laws)) es → AreUnits (each_shown_from es s) → AllByRecursion (FitsLine script) (lines_from entry_lines n (zip es (each_shown_from es s)))
lines_within laws script o always some before [] s n r legal h given few own inputs units = tt
lines_within laws script o always some before (e ∷ es) s n r legal h given few own inputs units =
    let made = comes_after (replay_from es) (step e s) legal in
    let t = made.0 in
    let small : n < 2 ^ 64 = omega (arith, few) in
    let names = (always o before s some r).names in
    let promises = shown_promises e s (omega (arith, h.place, small)) names (pending_below s.control names) in
    let rest = lines_within laws script o always some (before ++ e ∷ []) es t (n + 1) (replay_append o before e s r ∙ made.1) made.2 (step_up n e s t made.1 h) (step_own (judge laws) e s t made.1 inputs.0 given) (omega (arith, few)) own.1 inputs.1 (rw made.1 at units.1) in
    rw made.1 ((small, by_steps (IsLineWithin laws script n) (each_fits laws script n) e s t made.1 h given.busy small own.0), all_append (FitsLine script) (flat_map event_lines (shows e s)) _ (events_fit script (shows e s) promises units.0) rest)
