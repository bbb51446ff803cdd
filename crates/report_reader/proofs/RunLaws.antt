-- The lines of a run that is told show that run, and what lines show is told.
use Rattle.std.proofs.Common.{◌≡◌, ℕ, zero, suc, ◌+◌, true, List, [], ◌∷◌, ◌++◌, length, map, drop, Some, None, is_some, refl, sym, ap, subst, ◌∙◌, arith, append_assoc}
use Rattle.std.specs.Prelude.{flat_map}
use Rattle.std.specs.List.{AllByRecursion, zip}
use Rattle.wc_chunk.specs.declared.chunk.Chunk.{Chunk}
use Rattle.wc_pool.specs.declared.entry.PoolEntry.{PoolEntry}
use Rattle.codec_definitions.specs.declared.unit.Unit as media
use Rattle.codec_definitions.specs.declared.unit.Unit.TheVariants as unit
use Rattle.coder_api.specs.declared.slot.SlotEntry.{SlotEntry}
use Rattle.wc_config.specs.declared.kind.Kind.{Kind}
use Rattle.codec_model.specs.{declared.entry.Opening.Opening, declared.entry.Entry.Entry, declared.entry.Event.Event, declared.entry.Shown.Shown, Replay.State, Replay.opening_state}
use Rattle.codec_model.specs.Shown.{shows, units_in, units_shown}
use Rattle.codec_follow.specs.Follow.{follow_step, follow_from, filled, each_filled_from}
use Rattle.script_types.specs.declared.script.ScriptData.{ScriptData}
use Rattle.report_text.specs.declared.{result.StepResult.StepResult, line.EntryLine.EntryLine, line.Line.Line}
use Rattle.run_model.specs.declared.run.CallerTrace.{CallerTrace}
use Rattle.run_model.specs.declared.run.CodecTrace.{CodecTrace}
use Rattle.run_model.specs.declared.run.Run.{Run}
use Rattle.trace_text.specs.Report.{entry_line_of, event_lines, lines_from, result_lines, caller_lines, entry_lines, codec_lines, pool_lines, slot_lines, end_lines, lines_of}
use Rattle.report_reader.specs.declared.known.Known.{Known}
use Rattle.report_reader.specs.Read.{results_in, behind_results, callers_in, entries_from, entry_lines_in, behind_entries, config_in, outputs_in, trace_of, codecs_in, all_outputs_in, pool_in, behind_pool, slots_in, held_in, run_of}
use Rattle.report_reader.specs.Told.{known_of, HoldAll, IsPlainTrace, IsToldTrace, AreToldTraces, IsToldRun}
use Rattle.codec_follow.specs.Outputs.{IsOutputOf}
use Rattle.report_reader.proofs.{KindLaws.outputs_events, TraceLaws.by_next, CallLaws.told_holds}

-- What is read of the lines of items, in front of others, is what is told by the items, where the lines of each add what it tells.
read_again : {X Y : Type 0} (read : List Line → Y) (told : List X → Y) (lines : ℕ → X → List Line) (rest : List Line) → ((n : ℕ) (x : X) (xs : List X) (ls : List Line) → read ls ≡ told xs → read (lines n x ++ ls) ≡ told (x ∷ xs))
    → read rest ≡ told [] → (n : ℕ) (xs : List X) → read (lines_from lines n xs ++ rest) ≡ told xs
read_again read told lines rest each end n [] = end
read_again read told lines rest each end n (x ∷ xs) =
    rw (append_assoc (lines n x) (lines_from lines (n + 1) xs) rest) (each n x xs (lines_from lines (n + 1) xs ++ rest) (read_again read told lines rest each end (n + 1) xs))

-- items, each in a line of its own, and what is read behind them
abbrev with_item : {X Y : Type 0} → X → List X × Y → List X × Y
with_item x p = (x ∷ p.0, p.1)

-- ---- callers

abbrev results_read : List Line → List StepResult × List Line
results_read ls = (results_in ls, behind_results ls)

-- no result stands in front
abbrev EndsResults : List Line → Type 0
EndsResults ls = results_read ls ≡ ([], ls)

results_again : (rs : List StepResult) (rest : List Line) → EndsResults rest → results_read (lines_from result_lines 0 rs ++ rest) ≡ (rs, rest)
results_again rs rest ends = read_again results_read (λ xs. (xs, rest)) result_lines rest (λ n r xs ls same. ap (with_item r) same) ends 0 rs

callers_end : (i : ℕ) (cs : List CallerTrace) (rest : List Line) → EndsResults rest → EndsResults (lines_from caller_lines i cs ++ rest)
callers_end i [] rest ends = ends
callers_end i (c ∷ cs) rest ends = refl

callers_again : (i : ℕ) (cs : List CallerTrace) (rest : List Line) → EndsResults rest → callers_in (length cs) (lines_from caller_lines i cs ++ rest) ≡ (cs, rest)
callers_again i [] rest ends = refl
callers_again i (c ∷ cs) rest ends =
    let tail = lines_from caller_lines (i + 1) cs in
    let own = results_again c.results (tail ++ rest) (callers_end (i + 1) cs rest ends) in
    rw (append_assoc (lines_from result_lines 0 c.results) tail rest, ap (λ (p : List StepResult × List Line). p.1) own, ap (λ (p : List StepResult × List Line). p.0) own, callers_again (i + 1) cs rest ends) refl

-- ---- entries

abbrev entries_read : List Line → List EntryLine × List Line
entries_read ls = (entry_lines_in ls, behind_entries ls)

-- what an entry showed is passed
behind_events : (es : List Event) (ls : List Line) → entries_read (flat_map event_lines es ++ ls) ≡ entries_read ls
behind_events [] ls = refl
behind_events (Event.Output n (unit.Coded chunk (Some c)) ∷ es) ls = behind_events es ls
behind_events (e ∷ es) ls = behind_events es ls

-- no entry, and nothing that one showed, stands in front
pub record EndsEntries (ls : List Line) : Type 0 where
  pub told : entries_read ls ≡ ([], ls)
  pub outputs : (k : Kind) → outputs_in k ls ≡ []
  pub config : config_in ls ≡ None

abbrev entry_line_of_pair : Entry × Shown → EntryLine
entry_line_of_pair made = entry_line_of made.0 made.1

entries_told : (made : List (Entry × Shown)) (rest : List Line) → EndsEntries rest → entries_read (lines_from entry_lines 0 made ++ rest) ≡ (map entry_line_of_pair made, rest)
entries_told made rest ends =
    read_again entries_read (λ xs. (map entry_line_of_pair xs, rest)) entry_lines rest (λ n m xs ls same. ap (with_item (entry_line_of_pair m)) (behind_events m.1.events ls ∙ same)) ends.told 0 made

config_entries : (n : ℕ) (made : List (Entry × Shown)) (rest : List Line) → EndsEntries rest → config_in (lines_from entry_lines n made ++ rest) ≡ None
config_entries n [] rest ends = ends.config
config_entries n (m ∷ made) rest ends = refl

pub all_left : {X : Type 0} (P : X → Type 0) (xs ys : List X) → AllByRecursion P (xs ++ ys) → AllByRecursion P xs
all_left P [] ys all = tt
all_left P (x ∷ xs) ys all = (all.0, all_left P xs ys all.1)

pub all_right : {X : Type 0} (P : X → Type 0) (xs ys : List X) → AllByRecursion P (xs ++ ys) → AllByRecursion P ys
all_right P [] ys all = all
all_right P (x ∷ xs) ys all = all_right P xs ys all.1

abbrev shown_of_pair : Entry × Shown → Shown
shown_of_pair made = made.1

outputs_again : (k : Kind) (n : ℕ) (made : List (Entry × Shown)) (rest : List Line) → EndsEntries rest → AllByRecursion (IsOutputOf k) (units_shown (map shown_of_pair made))
    → outputs_in k (lines_from entry_lines n made ++ rest) ≡ units_shown (map shown_of_pair made)
outputs_again k n [] rest ends plain = ends.outputs k
outputs_again k n (m ∷ made) rest ends plain =
    let tail = lines_from entry_lines (n + 1) made in
    rw (
      append_assoc (flat_map event_lines m.1.events) tail rest,
      outputs_events k m.1.events (tail ++ rest) (config_entries (n + 1) made rest ends) (all_left (IsOutputOf k) (units_in m.1.events) (units_shown (map shown_of_pair made)) plain),
      outputs_again k (n + 1) made rest ends (all_right (IsOutputOf k) (units_in m.1.events) (units_shown (map shown_of_pair made)) plain),
    ) refl

pub shown_again : (es : List Entry) (xs : List Shown) → length xs ≡ length es → map shown_of_pair (zip es xs) ≡ xs
shown_again [] [] same = refl
shown_again (e ∷ es) (x ∷ xs) same = ap (λ (ys : List Shown). x ∷ ys) (shown_again es xs (omega arith))
shown_again _ _ same = absurd (omega arith)

-- ---- histories

-- the state after an entry that follows with those behind it
pub step_of_followed : (e : Entry) (es : List Entry) (s : State) → is_some (follow_from (e ∷ es) s) ≡ true → (t : State) × (follow_step e s ≡ Some t) × (is_some (follow_from es t) ≡ true)
step_of_followed e es s some = grind (arith, some)

pub filled_length : (k : Kind) → (es : List Entry) (s : State) (us : List media.Unit) → is_some (follow_from es s) ≡ true → length (each_filled_from k es s us) ≡ length es
filled_length k [] s us some = refl
filled_length k (e ∷ es) s us some = grind (arith, filled_length k es, step_of_followed e es s some)

entries_again : (script : ScriptData) (media_of : List (List Chunk)) (known : Known) (k place : ℕ) (s : State) (es : List Entry) (xs : List Shown) → length xs ≡ length es → HoldAll script media_of known k place (zip es xs) → is_some (follow_from es s) ≡ true
    → entries_from script media_of known k place s (map entry_line_of_pair (zip es xs)) ≡ es
entries_again script media_of known k place s [] [] same holds some = refl
entries_again script media_of known k place s (e ∷ es) (x ∷ xs) same holds some =
    let next = step_of_followed e es s some in
    rw (holds.0, next.1, entries_again script media_of known k (place + 1) next.0 es xs (omega arith) holds.1 next.2) refl
entries_again script media_of known k place s _ _ same holds some = absurd (omega arith)

-- ---- codecs

abbrev pub shown_units_of : CodecTrace → List media.Unit
shown_units_of c = units_shown c.shown

even_told : (script : ScriptData) (media_of : List (List Chunk)) (known : Known) (k : ℕ) (c : CodecTrace) → IsToldTrace script media_of known k c → length c.shown ≡ length c.entries
even_told script media_of known k c told = ap (λ (xs : List Shown). length xs) told.shows ∙ filled_length c.opening.kind c.entries (opening_state c.opening) (units_shown c.shown) told.follows

trace_again : (script : ScriptData) (media_of : List (List Chunk)) (known : Known) (k : ℕ) (c : CodecTrace) → IsToldTrace script media_of known k c
    → trace_of script media_of known k c.opening (map entry_line_of_pair (zip c.entries c.shown)) (units_shown (map shown_of_pair (zip c.entries c.shown))) ≡ c
trace_again script media_of known k c told =
    let same = even_told script media_of known k c told in
    rw (shown_again c.entries c.shown same, entries_again script media_of known k 0 (opening_state c.opening) c.entries c.shown same told.arguments told.follows, ← told.shows) refl

codecs_end : (i : ℕ) (cs : List CodecTrace) (rest : List Line) → EndsEntries rest → EndsEntries (lines_from codec_lines i cs ++ rest)
codecs_end i [] rest ends = ends
codecs_end i (c ∷ cs) rest ends = record { told = refl; outputs = λ k. refl; config = refl }

-- these codecs, and their outputs, are read again, and these lines are left
abbrev AreAgain : ScriptData → List (List Chunk) → Known → ℕ → List CodecTrace → List Line → List Line → Type 0
AreAgain script media_of known i cs ls rest = (codecs_in script media_of known i (length cs) ls ≡ cs) × (all_outputs_in (length cs) ls ≡ (map shown_units_of cs, rest))

codecs_again : (script : ScriptData) (media_of : List (List Chunk)) (known : Known) (i : ℕ) (cs : List CodecTrace) (rest : List Line) → EndsEntries rest → AreToldTraces script media_of known i cs → AllByRecursion IsPlainTrace cs
    → AreAgain script media_of known i cs (lines_from codec_lines i cs ++ rest) rest
codecs_again script media_of known i [] rest ends told plain = (refl, refl)
codecs_again script media_of known i (c ∷ cs) rest ends told plain =
    let tail = lines_from codec_lines (i + 1) cs in
    let made = zip c.entries c.shown in
    let again = shown_again c.entries c.shown (even_told script media_of known i c told.0) in
    let ends_more = codecs_end (i + 1) cs rest ends in
    let read = entries_told made (tail ++ rest) ends_more in
    let lines = ap (λ (p : List EntryLine × List Line). p.0) read in
    let behind = ap (λ (p : List EntryLine × List Line). p.1) read in
    let own = outputs_again c.opening.kind 0 made (tail ++ rest) ends_more (subst (λ (xs : List Shown). AllByRecursion (IsOutputOf c.opening.kind) (units_shown xs)) (sym again) plain.0) in
    let more = codecs_again script media_of known (i + 1) cs rest ends told.1 plain.1 in (
      rw (append_assoc (lines_from entry_lines 0 made) tail rest, behind, lines, own, trace_again script media_of known i c told.0, more.0) refl,
      rw (append_assoc (lines_from entry_lines 0 made) tail rest, behind, own, again, more.1) refl,
    )

-- ---- the run

pool_ends : (rest : List Line) → EndsEntries (Line.Pool ∷ rest)
pool_ends rest = grind arith

codecs_end_results : (i : ℕ) (cs : List CodecTrace) (rest : List Line) → EndsResults (lines_from codec_lines i cs ++ Line.Pool ∷ rest)
codecs_end_results i [] rest = refl
codecs_end_results i _ rest = refl

abbrev pool_read : List Line → List PoolEntry × List Line
pool_read ls = (pool_in ls, behind_pool ls)

abbrev slots_read : List Line → List SlotEntry × ℕ
slots_read ls = (slots_in ls, held_in ls)

-- the outputs that lines show, of so many codecs behind so many callers
abbrev pub outputs_behind : ℕ → ℕ → List Line → List (List media.Unit)
outputs_behind callers codecs ls = (all_outputs_in codecs (callers_in callers (drop 1 ls)).1).0

-- the lines of a run whose codecs are told show its outputs
pub run_outputs : (script : ScriptData) (media_of : List (List Chunk)) (known : Known) (run : Run) → AreToldTraces script media_of known 0 run.codecs → AllByRecursion IsPlainTrace run.codecs
    → outputs_behind (length run.callers) (length run.codecs) (lines_of run) ≡ map shown_units_of run.codecs
run_outputs script media_of known run told plain =
    let end = lines_from slot_lines 0 run.slots ++ end_lines run.held in
    let pool = lines_from pool_lines 0 run.pool ++ Line.Slots ∷ end in
    ap (λ (x : List CallerTrace × List Line). (all_outputs_in (length run.codecs) x.1).0) (callers_again 0 run.callers (lines_from codec_lines 0 run.codecs ++ Line.Pool ∷ pool) (codecs_end_results 0 run.codecs pool))
    ∙ ap (λ (x : List (List media.Unit) × List Line). x.0) (codecs_again script media_of known 0 run.codecs (Line.Pool ∷ pool) (pool_ends pool) told plain).1

-- the lines of a run that is told show that run
pub run_again : (script : ScriptData) (media_of : List (List Chunk)) (run : Run) → IsToldRun script media_of run → AllByRecursion IsPlainTrace run.codecs → run_of script media_of (lines_of run) ≡ run
unfolding run_of
run_again script media_of run told plain =
    let end = lines_from slot_lines 0 run.slots ++ end_lines run.held in
    let pool = lines_from pool_lines 0 run.pool ++ Line.Slots ∷ end in
    let codecs = codecs_again script media_of (known_of run) 0 run.codecs (Line.Pool ∷ pool) (pool_ends pool) told.traces plain in
    let entries : pool_read pool ≡ (run.pool, Line.Slots ∷ end) = read_again pool_read (λ es. (es, Line.Slots ∷ end)) pool_lines (Line.Slots ∷ end) (λ n e es ls same. ap (with_item e) same) refl 0 run.pool in
    let slots : slots_read end ≡ (run.slots, run.held) = read_again slots_read (λ es. (es, run.held)) slot_lines (end_lines run.held) (λ n e es ls same. ap (with_item e) same) refl 0 run.slots in
    rw (
      sym told.callers,
      sym told.codecs,
      callers_again 0 run.callers (lines_from codec_lines 0 run.codecs ++ Line.Pool ∷ pool) (codecs_end_results 0 run.codecs pool),
      codecs.1,
      ap (λ (p : List PoolEntry × List Line). p.0) entries,
      codecs.0,
      ap (λ (p : List PoolEntry × List Line). p.1) entries,
      ap (λ (p : List SlotEntry × ℕ). p.0) slots,
      ap (λ (p : List SlotEntry × ℕ). p.1) slots,
    ) refl

-- ---- the entries of a history that lines show

all_hold : (script : ScriptData) (files : List (List Chunk)) (known : Known) (k place : ℕ) (kind : Kind) (ts : List EntryLine) (s : State) (us : List media.Unit) → HoldAll script files known k place (zip (entries_from script files known k place s ts) (each_filled_from kind (entries_from script files known k place s ts) s us))
all_hold script files known k place kind [] s us = tt
all_hold script files known k place kind (t ∷ ts) s us =
    by_next script files known k place t ts s (λ es. HoldAll script files known k place (zip es (each_filled_from kind es s us))) tt
    (λ e u is step. rw step (told_holds script files known k place t e kind s us is, all_hold script files known k (place + 1) kind ts u (filled kind (shows e s) us).1))

all_follow : (script : ScriptData) (files : List (List Chunk)) (known : Known) (k place : ℕ) (ts : List EntryLine) (s : State) → is_some (follow_from (entries_from script files known k place s ts) s) ≡ true
all_follow script files known k place [] s = refl
all_follow script files known k place (t ∷ ts) s =
    by_next script files known k place t ts s (λ es. is_some (follow_from es s) ≡ true) refl (λ e u is step. rw step (all_follow script files known k (place + 1) ts u))

-- ---- shown with its own outputs

filled_again : (k : Kind) → (xs : List Event) (us rest : List media.Unit) → filled k xs (units_in (filled k xs us).0 ++ rest) ≡ ((filled k xs us).0, rest)
filled_again k [] us rest = refl
filled_again k (x ∷ xs) us rest = grind (arith, filled_again k xs)

each_again : (k : Kind) → (es : List Entry) (s : State) (us : List media.Unit) → is_some (follow_from es s) ≡ true → each_filled_from k es s (units_shown (each_filled_from k es s us)) ≡ each_filled_from k es s us
each_again k [] s us some = refl
each_again k (e ∷ es) s us some =
    let next = step_of_followed e es s some in
    rw (next.1, filled_again k (shows e s) us (units_shown (each_filled_from k es next.0 (filled k (shows e s) us).1)), each_again k es next.0 (filled k (shows e s) us).1 next.2) refl

-- ---- the run that lines show

trace_told : (script : ScriptData) (files : List (List Chunk)) (known : Known) (k : ℕ) (o : Opening) (ts : List EntryLine) (us : List media.Unit) → IsToldTrace script files known k (trace_of script files known k o ts us)
trace_told script files known k o ts us = record {
  arguments = all_hold script files known k 0 o.kind ts (opening_state o) us;
  follows = all_follow script files known k 0 ts (opening_state o);
  shows = sym (each_again o.kind (entries_from script files known k 0 (opening_state o) ts) (opening_state o) us (all_follow script files known k 0 ts (opening_state o)));
}

pub callers_count : (n : ℕ) (ls : List Line) → length (callers_in n ls).0 ≡ n
callers_count zero ls = refl
callers_count (suc n) ls = ap (λ (k : ℕ). suc k) (callers_count n (behind_results (drop 1 ls)))

pub codecs_count : (script : ScriptData) (files : List (List Chunk)) (known : Known) (k n : ℕ) (ls : List Line) → length (codecs_in script files known k n ls) ≡ n
codecs_count script files known k zero ls = refl
codecs_count script files known k (suc n) ls = ap (λ (m : ℕ). suc m) (codecs_count script files known (k + 1) n (behind_entries (drop 1 ls)))

codecs_told : (script : ScriptData) (files : List (List Chunk)) (known : Known) (k n : ℕ) (ls : List Line) → AreToldTraces script files known k (codecs_in script files known k n ls)
codecs_told script files known k zero ls = tt
codecs_told script files known k (suc n) ls = (trace_told script files known k _ _ _, codecs_told script files known (k + 1) n (behind_entries (drop 1 ls)))

-- what the lines show of arguments
abbrev known_in : ScriptData → List Line → Known
known_in script ls =
    let callers = callers_in (length script.callers) (drop 1 ls) in
    let outputs = all_outputs_in (length script.codecs) callers.1 in
    record { callers = callers.0; outputs = outputs.0; pool = pool_in (drop 1 outputs.1) }

-- The lines show so many callers and codecs. Where the lines of the run that they show are these lines, and its outputs are of
-- their codecs' kinds, the run is told.
pub run_callers : (script : ScriptData) (files : List (List Chunk)) (ls : List Line) → length (run_of script files ls).callers ≡ length script.callers
unfolding run_of
run_callers script files ls = callers_count (length script.callers) (drop 1 ls)

pub run_codecs : (script : ScriptData) (files : List (List Chunk)) (ls : List Line) → length (run_of script files ls).codecs ≡ length script.codecs
unfolding run_of
run_codecs script files ls = codecs_count script files (known_in script ls) 0 (length script.codecs) (callers_in (length script.callers) (drop 1 ls)).1

traces_told : (script : ScriptData) (files : List (List Chunk)) (ls : List Line) → AreToldTraces script files (known_in script ls) 0 (run_of script files ls).codecs
unfolding run_of
traces_told script files ls = codecs_told script files (known_in script ls) 0 (length script.codecs) (callers_in (length script.callers) (drop 1 ls)).1

known_same : (script : ScriptData) (files : List (List Chunk)) (ls : List Line) → outputs_behind (length script.callers) (length script.codecs) ls ≡ map shown_units_of (run_of script files ls).codecs → known_in script ls ≡ known_of (run_of script files ls)
unfolding run_of
known_same script files ls same =
    let known = known_in script ls in
    ap (λ (os : List (List media.Unit)). let k : Known = record { callers = known.callers; outputs = os; pool = known.pool } in k) same

pub run_told : (script : ScriptData) (files : List (List Chunk)) (ls : List Line) → ls ≡ lines_of (run_of script files ls) → AllByRecursion IsPlainTrace (run_of script files ls).codecs → IsToldRun script files (run_of script files ls)
run_told script files ls same plain =
    let run = run_of script files ls in
    let traces = traces_told script files ls in
    let callers = run_callers script files ls in
    let codecs = run_codecs script files ls in
    let outputs = ap (outputs_behind (length script.callers) (length script.codecs)) same ∙ rw (callers, codecs) at (run_outputs script files (known_in script ls) run traces plain) in
    record {
      callers = callers;
      codecs = codecs;
      traces = subst (λ (known : Known). AreToldTraces script files known 0 run.codecs) (known_same script files ls outputs) traces;
    }
