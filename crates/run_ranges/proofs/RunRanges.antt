-- The lines of a legal run that fits its script are within their types, and name callers and codecs that are there.
use Rattle.std.proofs.Common.{◌≡◌, ℕ, zero, suc, ◌+◌, ◌*◌, ◌<◌, ◌≤◌, ◌^◌, ◌&&◌, true, List, [], ◌∷◌, length, map, take, Option, Some, refl, ap, sym, subst, ◌∙◌, arith}
use Rattle.std.specs.Prelude.{nat_le, unwrap_or}
use Rattle.std.specs.List.{AllByRecursion, zip, slice_get, sum_by}
use Rattle.std.proofs.Math.Nat.{mul-le-mul}
use Rattle.std.proofs.lemmas.Bool.{and_parts, leb-true}
use Rattle.std.proofs.lemmas.List.{length-map, length-take}
use Rattle.std.proofs.lemmas.Option.{option_and_then_some, slice_get_within}
use Rattle.wc_base.specs.{Options.some_same, declared.error.DomError.DomError, declared.who.Who.Who, declared.who.By.By}
use Rattle.wc_config.specs.declared.codec.CoderId.{CoderId}
use Rattle.wc_chunk.specs.declared.chunk.Chunk.{Chunk}
use Rattle.wc_pool.specs.Laws.{LiveAreNumbered}
use Rattle.coder_api.specs.declared.slot.{SlotEntry.SlotEntry, SlotOp.SlotOp}
use Rattle.codec_model.specs.declared.entry.{Opening.Opening, Call.Call, Entry.Entry, Outcome.Outcome, Shown.Shown}
use Rattle.codec_model.specs.Replay.{State, opening_state, step as legal_step, replay, replay_from}
use Rattle.codec_model.specs.{Held.HeldStays, Facts.IsNeverStuck, Facts.Always}
use Rattle.script_types.specs.declared.{script.ScriptData.ScriptData, script.CodecItem.CodecItem, steps.Step.Step}
use Rattle.script_types.specs.Names.{is_name, names_codec}
use Rattle.script_types.specs.Sound.{is_sound, is_sound_order, most_order, most_codecs, most_callers, most_steps}
use Rattle.script_types.specs.SoundLaws.{parts_of, codec_at, step_at, named_within, taken_is_named, few_steps}
use Rattle.report_text.specs.declared.{result.StepResult.StepResult, line.Line.Line}
use Rattle.run_model.specs.declared.run.CallerTrace.{CallerTrace}
use Rattle.run_model.specs.declared.run.CodecTrace.{CodecTrace}
use Rattle.run_model.specs.declared.run.Run.{Run}
use Rattle.trace_text.specs.Report.{lines_from, result_lines, caller_lines, entry_lines, codec_lines, pool_lines, slot_lines, lines_of}
use Rattle.media_variables.specs.Variables.{Received}
use Rattle.media_accounts.specs.Accounts.{called_at, lent_at}
use Rattle.run_model.specs.Recorded.{Recorded, opening_at, steps_of}
use Rattle.run_model.specs.Follow.{record_of, order_items}
use Rattle.run_model.specs.FitsLaws.{look_of, calls_by_places, order_by_places}
use Rattle.run_model.specs.Fits.{recorded_of, mark_of, result_in, entry_in, step_in, CallsAreIn, LookShows, LooksAreIn, brought_to, made_steps, lends_in, FitsInOrder, IsLegalTrace, AreLegalTraces, IsLegalRun}
use Rattle.codec_accounts.specs.{ListLaws.get_some, Owed.at, Codec.state_after, Registry.BoxesAccounted, Registry.EndSays}
use Rattle.codec_accounts.specs.Calls as mark
use Rattle.codec_accounts.specs.SlotPlaces.{IsOfCodec, cause_there}
use Rattle.report_lines.specs.Fits.{IsCodec, FitsWho, FitsResult, FitsBy, FitsOp, FitsLine}
use Rattle.history_laws.specs.{Outputs.HoldsOwn, Numbers.IsUpTo, NumberLaws.step_up, NumberLaws.opening_up}
use Rattle.history_laws.specs.OutputLaws.{all_append, opening_own, outputs_are}
use Rattle.run_ranges.specs.Counts.{traces_count, caller_of_step, all_from}
use Rattle.run_ranges.specs.Ranges.{AreWithin}
use Rattle.run_ranges.proofs.{Cases.by_option, Cases.by_default, CodeRanges.CodesAreBytes, UnitRanges.judge, TakenRanges.IsTakeUpTo, TakenRanges.takes_small, TakenRanges.call_fits}
use Rattle.run_ranges.proofs.PoolRanges.{held_up_to, ops_fit, IsMadeBy, entry_made}
use Rattle.run_ranges.proofs.EntryRanges.{IsOutcomeWithin, IsEntryWithin, lines_within}
use Rattle.run_ranges.proofs.CourseRanges.{IsOwnEntry, IsByUpTo, IsOpUpTo, by_up, holds_own, course_up}

-- ---- what was recorded

-- no more of anything than the order has items, and no more in the pool than each item adds; what callers' own steps answered fits
pub record IsRecordedUpTo (s : ScriptData) (most : ℕ) (w : Recorded) : Type 0 where
  entries : (k : ℕ) → length (at k w.codecs) ≤ most_order
  slots : length w.slots ≤ 2 * most_order
  pool : length w.pool < 2 ^ 64
  own : (k p : ℕ) (e : Entry) → entry_in w k p ≡ Some e → IsOwnEntry e
  ops : (i : ℕ) (e : SlotEntry) → slice_get w.slots i ≡ Some e → IsByUpTo most_order e.by × IsOpUpTo most e.op
  answers : (c j : ℕ) (r : StepResult) → result_in w c j ≡ Some r → mark_of r ≡ mark.Local → FitsResult s r

-- what was recorded has the script's callers and codecs, which are few, and takes that are numbered
pub record IsKnown (s : ScriptData) (made : List CoderId) (w : Recorded) : Type 0 where
  callers : length w.callers ≡ length s.callers
  codecs : length w.codecs ≡ length s.codecs
  few_callers : length s.callers ≤ most_callers
  few_codecs : length s.codecs ≤ most_codecs
  takes : (k p : ℕ) (who : Who) (x : Call) → entry_in w k p ≡ Some (Entry.Call who x) → IsTakeUpTo p x
  recorded : IsRecordedUpTo s (length made) w
  open recorded use *

known : CodesAreBytes → HeldStays → (s : ScriptData) (media : List (List Chunk)) (made : List CoderId) (got : ℕ → ℕ → Option Received) (run : Run) → is_sound s ≡ true → AreWithin s media made → IsLegalRun s run → FitsInOrder s media made run → IsKnown s made (recorded_of got run)
known laws stays s media made got run sound within legal fits =
    let parts = parts_of s sound in
    let few = and_parts (nat_le (length s.codecs) most_codecs) _ parts.few in
    let order : length (order_items s) ≤ most_order =
    by_option (λ o. is_sound_order (length s.codecs) s.callers o ≡ true → length (unwrap_or o []) ≤ most_order) s.order (λ fine. omega arith) (λ items is fine. leb-true (length items) most_order (and_parts (nat_le (length items) most_order) _ fine).0) parts.order in
    let course = fits.follows.course in
    let both = course_up laws stays s media made course sound within fits.follows.follows in
    let up = both.0 in
    let is : recorded_of got run ≡ record_of got course = ap (λ (w : Recorded). record w { received = got }) fits.follows.is_recorded in
    record {
      callers = length-map run.callers _ ∙ legal.callers;
      codecs = length-map run.codecs _ ∙ traces_count s.codecs run.codecs legal.codecs;
      few_callers = leb-true (length s.callers) most_callers (and_parts (nat_le (length s.callers) most_callers) (nat_le (sum_by (λ c. length c.steps) s.callers) most_steps) few.1).0;
      few_codecs = leb-true (length s.codecs) most_codecs few.0;
      takes = takes_small s.codecs run.codecs legal.codecs;
      recorded = subst (IsRecordedUpTo s (length made)) (sym is) (record {
        entries = λ k. omega (arith, up.few k, order);
        slots = omega (arith, up.slots.long_at_most, order);
        pool = omega (arith, up.media, order, mul-le-mul order order);
        own = up.own.entries;
        ops = λ i e is. (by_up (length (order_items s)) most_order e.by order (up.slots.ops i e is).0, (up.slots.ops i e is).1);
        answers = both.1.answers;
      });
    }

at_some : {X : Type 0} (k j : ℕ) (ls : List (List X)) → j < length (at k ls) → k < length ls
at_some k j [] lt = absurd (omega (arith, lt))
at_some zero j (l ∷ ls) lt = omega arith
at_some (suc k) j (l ∷ ls) lt = omega (arith, at_some k j ls lt)

-- the size after a history is at most its length
replay_up : (h : List Entry) (s t : State) (n : ℕ) → replay_from h s ≡ Some t → IsUpTo n s.control → IsUpTo (n + length h) t.control
replay_up [] s t n r up = subst (λ (u : State). IsUpTo (n + 0) u.control) (some_same s t r) (subst (λ (m : ℕ). IsUpTo m s.control) (omega arith) up)
replay_up (e ∷ es) s t n r up = option_and_then_some (replay_from es) (legal_step e s) t r (λ u made rest. subst (λ (m : ℕ). IsUpTo m t.control) (omega arith) (replay_up es u t (n + 1) rest (step_up n e s u made up)))

size_small : (o : Opening) (h : List Entry) → (state_after o h).control.size ≤ length h
size_small o h = by_default (λ t. t.control.size ≤ length h) (replay o h) (opening_state o) (omega arith) (λ t is. omega (arith, (replay_up h (opening_state o) t 0 is (opening_up o)).size))

op_fits : (most : ℕ) (op : SlotOp) → most < 2 ^ 64 → IsOpUpTo most op → FitsOp op
op_fits most (SlotOp.Refused id out all) few up = (omega (arith, few, up.0), omega (arith, few, up.1))
op_fits most _ few up = omega (arith, few, up)

-- an entry that calls for something is there
lent_there : (o : Opening) (h : List Entry) (place : ℕ) → (lent_at o h place ≡ [] → ⊥) → (e : Entry) × (slice_get h place ≡ Some e)
lent_there o h place some = by_option (λ x. (called_at o h place x ≡ [] → ⊥) → (e : Entry) × (x ≡ Some e)) (slice_get h place) (λ lent. absurd (lent refl)) (λ e is lent. (e, refl)) some

-- ---- what a run is known to have recorded

module _ (laws : CodesAreBytes) (s : ScriptData) (media : List (List Chunk)) (made : List CoderId) (w : Recorded) (sound : is_sound s ≡ true) (within : AreWithin s media made) (h : IsKnown s made w) (calls : CallsAreIn s w) where
  codec_known : (k : ℕ) → k < length w.codecs → IsCodec s k
  codec_known k lt = (omega (arith, lt, h.codecs), omega (arith, lt, h.codecs, h.few_codecs))

  -- the codec and the place of an entry
  entry_known : (k p : ℕ) (e : Entry) → entry_in w k p ≡ Some e → IsCodec s k × (p < 2 ^ 64)
  entry_known k p e is =
      let lt = slice_get_within (at k w.codecs) p e is in
      (codec_known k (at_some k p w.codecs lt), omega (arith, lt, h.entries k))

  -- a caller's step that was made is one of the script's
  step_known : (who : Who) (r : StepResult) → result_in w who.caller who.step ≡ Some r → FitsWho s who
  step_known who r is =
      let step = calls.made who.caller who.step r is in
      let caller = caller_of_step s.callers who.caller who.step step.0 step.1 in
      let there = slice_get_within s.callers who.caller caller.0 caller.1 in
      ((there, omega (arith, there, h.few_callers)), omega (arith, slice_get_within caller.0.steps who.step step.0 caller.2, few_steps s who.caller caller.0 sound caller.1))

  -- ---- results

  call_known : (c j k p : ℕ) (error : Option DomError) → result_in w c j ≡ Some (StepResult.Call k p error) → IsCodec s k × (p < 2 ^ 64)
  call_known c j k p error is = let kept = (calls_by_places s w calls).kept c j k p error is in entry_known k p _ kept.stands

  take_fits : (c j k p unit : ℕ) → result_in w c j ≡ Some (StepResult.Unit k p unit) → FitsResult s (StepResult.Unit k p unit)
  take_fits c j k p unit is =
      let stands = (calls_by_places s w calls).taken c j k p unit is in
      let known = entry_known k p _ stands in
      let up : unit ≤ p = h.takes k p _ _ stands in
      (known.0, known.1, omega (arith, known.1, up))

  -- a codec that a step names
  codec_named : (c j k : ℕ) (x : Step) → step_in s c j ≡ Some x → names_codec x ≡ Some k → IsCodec s k
  codec_named c j k x is names =
      let caller = caller_of_step s.callers c j x is in
      let there = named_within s.codecs (take j caller.0.steps) x k (step_at s c j caller.0 x sound caller.1 caller.2) names in
      (there, omega (arith, there, h.few_codecs))

  -- a look, by the step that looks
  look_fits : (c j l m : ℕ) (x : Step) (r : StepResult) → step_in s c j ≡ Some x
      → mark_of r ≡ mark.Look l m → ((k n : ℕ) → look_of r ≡ Some (k, n) → n ≤ length (at k w.codecs)) → LookShows s w c x r → FitsResult s r
  look_fits c j l m (Step.Await promise) (StepResult.Look k n end) is looks seen shows = ((call_known c promise.step k shows.0 shows.1 shows.2).0, omega (arith, seen k n refl, h.entries k))
  look_fits c j l m (Step.Poll promise) (StepResult.Look k n end) is looks seen shows = ((call_known c promise.step k shows.0 shows.1 shows.2).0, omega (arith, seen k n refl, h.entries k))
  look_fits c j l m (Step.State on) (StepResult.State k n state size) is looks seen shows =
      (codec_named c j k (Step.State on) is (ap (λ (i : ℕ). Some i) shows.0), omega (arith, seen k n refl, h.entries k), omega (arith, shows.2, size_small (opening_at s k) (take n (at k w.codecs)), length-take n (at k w.codecs), h.entries k))
  look_fits c j l m x (StepResult.NoUnit k n) is looks seen shows = (codec_named c j k x is (taken_is_named x k shows.0), omega (arith, seen k n refl, h.entries k))
  look_fits c j l m x r is looks seen shows = grind arith

  results_fit : LooksAreIn s w → (c j : ℕ) (r : StepResult) → result_in w c j ≡ Some r → FitsResult s r
  results_fit looks c j (StepResult.Call k p error) is = call_known c j k p error is
  results_fit looks c j (StepResult.Unit k p n) is = take_fits c j k p n is
  results_fit looks c j r is =
      let step = calls.made c j r is in
      elim (mark_of r) as (λ m. mark_of r ≡ m → FitsResult s r) [
        | mark.Call k p ↦ λ its. absurd cc
        | mark.Look k n ↦ λ its. look_fits c j k n step.0 r step.1 its (λ l m same. (order_by_places w looks.climbs).within c j l m r is same) (looks.shows c j step.0 r step.1 is)
        | mark.Local ↦ λ its. h.answers c j r is its
      ] refl

  -- ---- entries

  outcome_within : (cause : By) (o : Outcome) → EndSays w.slots cause o → IsOutcomeWithin o
  outcome_within cause (Outcome.NoSlot n) says = omega (arith, slice_get_within w.slots n _ says.stands, h.slots)
  outcome_within cause _ says = tt

  caller_known : (k p : ℕ) (who : Who) (x : Call) → entry_in w k p ≡ Some (Entry.Call who x) → FitsWho s who
  caller_known k p who x is = let kept = (calls_by_places s w calls).only k p who x is in step_known who kept.0 kept.1

  entry_within : BoxesAccounted made (opening_at s) w.codecs w.slots → (k p : ℕ) (e : Entry) → entry_in w k p ≡ Some e → IsEntryWithin s e
  entry_within boxes k p (Entry.Call who x) is = λ o. call_fits s who x o p (caller_known k p who x is) (h.takes k p who x is) (entry_known k p _ is).1
  entry_within boxes k p (Entry.Done epoch item moment o) is = (h.own k p (Entry.Done epoch item moment o) is, outcome_within _ o (boxes.ends k p epoch item moment o is).says)
  entry_within boxes k p (Entry.Reclaim moment) is = h.own k p (Entry.Reclaim moment) is
  entry_within boxes k p e is = tt

  -- ---- the registry

  by_fits : (b : By) → IsOfCodec (length w.codecs) b → IsByUpTo most_order b → FitsBy s b
  by_fits (By.Caller who) there up = absurd there
  by_fits (By.Codec k p) there up = (codec_known k there, omega (arith, up))

  -- ---- the pool

  pool_by_fits : (b : By) → IsMadeBy (lends_in s w) (made_steps w) b → FitsBy s b
  pool_by_fits (By.Codec k place) some = let there = lent_there (opening_at s k) (at k w.codecs) place some in entry_known k place there.0 there.1
  pool_by_fits (By.Caller who) step = let there = get_some (at who.caller w.callers) who.step step in step_known who there.0 there.1

-- ---- the lines of a run

-- what holds of the lines of each item holds of all
each_lines : {X : Type 0} (P : Line → Type 0) (lines : ℕ → X → List Line) (n : ℕ) (xs : List X) → ((i : ℕ) (x : X) → slice_get xs i ≡ Some x → AllByRecursion P (lines (n + i) x)) → AllByRecursion P (lines_from lines n xs)
each_lines P lines n [] h = tt
each_lines P lines n (x ∷ xs) h =
    let at = λ (m : ℕ) (y : _). AllByRecursion P (lines m y) in
    all_append P (lines n x) (lines_from lines (n + 1) xs) (subst (λ (m : ℕ). at m x) (omega arith) (h 0 x refl)) (each_lines P lines (n + 1) xs (λ i y is. subst (λ (m : ℕ). at m y) (omega arith) (h (suc i) y is)))

at_item : {X Y : Type 0} (f : X → List Y) (xs : List X) (i : ℕ) (x : X) → slice_get xs i ≡ Some x → at i (map f xs) ≡ f x
at_item f [] i x is = absurd cc
at_item f (y ∷ ys) zero x is = ap f (some_same y x is)
at_item f (y ∷ ys) (suc i) x is = at_item f ys i x is

legal_at : (cs : List CodecItem) (ts : List CodecTrace) → AreLegalTraces cs ts → (k : ℕ) (t : CodecTrace) → slice_get ts k ≡ Some t → (c : CodecItem) × (slice_get cs k ≡ Some c) × IsLegalTrace c t
legal_at cs [] legal k u is = absurd cc
legal_at [] (t ∷ ts) legal k u is = absurd legal
legal_at (c ∷ cs) (t ∷ ts) legal zero u is = (c, refl, subst (IsLegalTrace c) (some_same t u is) legal.0)
legal_at (c ∷ cs) (t ∷ ts) legal (suc k) u is = legal_at cs ts legal.1 k u is

trace_lines_fit : (laws : CodesAreBytes) (s : ScriptData) (c : CodecItem) (t : CodecTrace) → Always IsNeverStuck → IsLegalTrace c t → (1 ≤ c.saturation) × (c.saturation ≤ 64) → length t.entries ≤ most_order
    → ((p : ℕ) (e : Entry) → slice_get t.entries p ≡ Some e → IsEntryWithin s e × HoldsOwn (judge laws) e) → AllByRecursion (FitsLine s) (lines_from entry_lines 0 (zip t.entries t.shown))
trace_lines_fit laws s c t always legal some long h =
    let own : AllByRecursion (HoldsOwn (judge laws)) t.entries = all_from (HoldsOwn (judge laws)) t.entries (λ p e is. (h p e is).1) in
    let units = outputs_are (judge laws) t.opening t.entries own in
    let open_for : 1 ≤ t.opening.saturation = subst (λ (o : Opening). 1 ≤ o.saturation) (sym legal.opening) some.0 in
    subst (λ (xs : List Shown). AllByRecursion (FitsLine s) (lines_from entry_lines 0 (zip t.entries xs))) (sym legal.shown)
    (lines_within laws s t.opening always open_for [] t.entries (opening_state t.opening) 0 refl legal.legal (opening_up t.opening) (opening_own (judge laws) t.opening) (omega (arith, long)) (all_from (IsEntryWithin s) t.entries (λ p e is. (h p e is).0)) own units)

saturations : (s : ScriptData) → is_sound s ≡ true → (i : ℕ) (c : CodecItem) → slice_get s.codecs i ≡ Some c → (1 ≤ c.saturation) × (c.saturation ≤ 64)
saturations s sound i c is =
    let fine = codec_at s i c sound is in
    let named = and_parts (is_name c.name) _ fine in
    let apart = and_parts _ (nat_le 1 c.saturation && nat_le c.saturation 64) named.1 in
    let range = and_parts (nat_le 1 c.saturation) (nat_le c.saturation 64) apart.1 in
    (leb-true 1 c.saturation range.0, leb-true c.saturation 64 range.1)

pub lines_fit : CodesAreBytes → HeldStays → Always IsNeverStuck → LiveAreNumbered → (s : ScriptData) (media : List (List Chunk)) (made : List CoderId) (run : Run) → is_sound s ≡ true → AreWithin s media made → IsLegalRun s run → FitsInOrder s media made run → AllByRecursion (FitsLine s) (lines_of run)
lines_fit laws stays always numbered s media made run sound within legal replayed =
    let fits = replayed.fits in
    let got = fits.received in
    let w = recorded_of got run in
    let h = known laws stays s media made got run sound within legal replayed in
    let count = traces_count s.codecs run.codecs legal.codecs in
    let callers = each_lines (FitsLine s) caller_lines 0 run.callers (λ c t is. (
    let there = slice_get_within run.callers c t is in
    let rs = at_item (λ (x : CallerTrace). x.results) run.callers c t is in (
      (omega (arith, there, legal.callers), omega (arith, there, legal.callers, h.few_callers)),
      each_lines (FitsLine s) result_lines 0 t.results
          (λ j r got. (let here : result_in w c j ≡ Some r = rw rs got in ((omega (arith, (step_known laws s media made w sound within h fits.calls (record { caller = c; step = j }) r here).1), results_fit laws s media made w sound within h fits.calls fits.looks c j r here), tt))),
    ))) in
    let codecs = each_lines (FitsLine s) codec_lines 0 run.codecs (λ k t is. (
    let there = slice_get_within run.codecs k t is in
    let own = legal_at s.codecs run.codecs legal.codecs k t is in
    let some = saturations s sound k own.0 own.1 in
    let es = at_item (λ (x : CodecTrace). x.entries) run.codecs k t is in (
      ((omega (arith, there, count), omega (arith, there, count, h.few_codecs)), rw own.2.opening (omega (arith, some.1))),
      trace_lines_fit laws s own.0 t always own.2 some (omega (arith, h.entries k, ap length es))
          (λ p e got. (let here : entry_in w k p ≡ Some e = rw es got in (entry_within laws s media made w sound within h fits.calls fits.boxes k p e here, holds_own laws e (h.own k p e here)))),
    ))) in
    let pool = each_lines (FitsLine s) pool_lines 0 run.pool (λ n e is. (
    let own = entry_made (steps_of s) (brought_to s media w) (lends_in s w) (made_steps w) w.pool fits.accounted n e is in
    ((omega (arith, h.pool, slice_get_within run.pool n e is), pool_by_fits laws s media made w sound within h fits.calls e.by own, ops_fit numbered [] run.pool (omega (arith, h.pool)) refl fits.accounted.legal n e is), tt))) in
    let slots = each_lines (FitsLine s) slot_lines 0 run.slots (λ i e is. (let op = h.ops i e is in
    ((omega (arith, h.slots, slice_get_within run.slots i e is), by_fits laws s media made w sound within h fits.calls e.by (cause_there made (opening_at s) w.codecs w.slots i e fits.boxes is) op.0, op_fits (length made) e.op within.boxes op.1), tt))) in (
      tt,
      all_append (FitsLine s) (lines_from caller_lines 0 run.callers) _ callers
          (all_append (FitsLine s) (lines_from codec_lines 0 run.codecs) _ codecs
          (tt, all_append (FitsLine s) (lines_from pool_lines 0 run.pool) _ pool (tt, all_append (FitsLine s) (lines_from slot_lines 0 run.slots) _ slots (omega (arith, legal.held, held_up_to run.pool, h.pool), (tt, tt))))),
    )
