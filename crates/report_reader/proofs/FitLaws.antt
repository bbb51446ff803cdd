-- The run that lines show is written without loss where the lines fit the script and are few.
use Rattle.std.proofs.Common.{◌≡◌, ℕ, zero, suc, ◌+◌, ◌^◌, ◌<◌, ◌≤◌, true, List, [], ◌∷◌, ◌++◌, length, drop, Option, Some, None, sym, ap, subst, ◌∙◌, arith}
use Rattle.std.specs.Prelude.{IfSome, flat_map, unwrap_or, option_map, option_to_list}
use Rattle.std.specs.List.{AllByRecursion, zip}
use Rattle.wc_chunk.specs.declared.chunk.Chunk.{Chunk}
use Rattle.wc_pool.specs.declared.entry.PoolEntry.{PoolEntry}
use Rattle.codec_definitions.specs.declared.unit.Unit as media
use Rattle.coder_api.specs.declared.slot.SlotEntry.{SlotEntry}
use Rattle.wc_config.specs.declared.kind.Kind.{Kind}
use Rattle.codec_model.specs.{declared.entry.Entry.Entry, declared.entry.Event.Event, declared.entry.Shown.Shown, Replay.State, Replay.opening_state}
use Rattle.codec_model.specs.Shown.{shows, event_units, units_in, units_shown}
use Rattle.codec_follow.specs.Follow.{follow_step, filled, filled_at, each_filled_from}
use Rattle.history_laws.specs.OutputLaws.{all_append}
use Rattle.script_types.specs.{declared.script.ScriptData.ScriptData, SoundLaws.parts_of}
use Rattle.script_types.specs.Sound.{is_sound}
use Rattle.report_text.specs.declared.{result.StepResult.StepResult, line.EntryLine.EntryLine, line.Line.Line}
use Rattle.run_model.specs.declared.run.CallerTrace.{CallerTrace}
use Rattle.run_model.specs.declared.run.CodecTrace.{CodecTrace}
use Rattle.run_model.specs.declared.run.Run.{Run}
use Rattle.trace_text.specs.Report.{entry_line_of, event_lines, lines_from, result_lines, caller_lines, entry_lines, codec_lines, pool_lines, slot_lines, end_lines, lines_of, report_of}
use Rattle.report_lines.specs.Fits.{FitsResult, FitsEntryLine, FitsBy, FitsOp, FitsPoolOp, FitsLine}
use Rattle.report_lines.specs.Laws.{LineFits, LineAgain}
use Rattle.report_reader.specs.{declared.forms.Section.Section, Form.Reads, Form.AreForms, declared.known.Known.Known, Arguments.entry_of}
use Rattle.report_reader.specs.Read.{results_in, behind_results, callers_in, entries_from, entry_lines_in, behind_entries, config_in, unit_of, outputs_in, opening_of, codec_in, codecs_in, all_outputs_in, pool_in, behind_pool, slots_in, held_in, run_of}
use Rattle.report_reader.specs.Told.{IsPlainTrace, IsWithoutLoss, IsTold}
use Rattle.codec_follow.specs.Outputs.{IsOutputOf, empty_output}
use Rattle.report_reader.specs.Fits.{FitsEvent, FitsShown, FitsTrace}
use Rattle.report_reader.proofs.KindLaws.{AreFit, FitsUnit, unit_fits, empty_fits}
use Rattle.report_reader.proofs.RunLaws.{all_left, all_right, run_told, callers_count, codecs_count, run_callers, run_codecs}
use Rattle.report_reader.proofs.{FormLaws.form_parts, FormLaws.forms_once, FormLaws.text_read, FormLaws.run_passes}
use Rattle.report_reader.proofs.{NameLaws.sound_names, TraceLaws.by_next, CallLaws.line_with, CallLaws.entry_told}

-- ---- lists

pub all_more : {X : Type 0} (P : X → Type 0) (xs : List X) (x : X) → AllByRecursion P xs → P x → AllByRecursion P (xs ++ x ∷ [])
all_more P xs x all own = all_append P xs (x ∷ []) all (own, tt)

all_behind : {X : Type 0} (P : X → Type 0) (xs : List X) → AllByRecursion P xs → AllByRecursion P (drop 1 xs)
all_behind P xs all = grind (arith, all)

few_behind : {X : Type 0} (xs : List X) → length (drop 1 xs) ≤ length xs
few_behind xs = grind arith

all_both : {X : Type 0} (P Q : X → Type 0) (xs : List X) → AllByRecursion P xs → AllByRecursion Q xs → AllByRecursion (λ x. P x × Q x) xs
all_both P Q [] p q = tt
all_both P Q (x ∷ xs) p q = ((p.0, q.0), all_both P Q xs p.1 q.1)

all_weaker : {X : Type 0} (P Q : X → Type 0) → ((x : X) → P x → Q x) → (xs : List X) → AllByRecursion P xs → AllByRecursion Q xs
all_weaker P Q f [] p = tt
all_weaker P Q f (x ∷ xs) p = (f x p.0, all_weaker P Q f xs p.1)

-- ---- lines in front

-- lines that fit, and are no more than some others
record IsLeft (script : ScriptData) (ls left : List Line) : Type 0 where
  fits : AreFit script left
  few : length left ≤ length ls

further : (script : ScriptData) (ls mid left : List Line) → IsLeft script ls mid → IsLeft script mid left → IsLeft script ls left
further script ls mid left first then = grind (arith, first, then)

-- what is read in front of some lines, each once, and the lines behind
record AreInFront (script : ScriptData) (X : Type 0) (P : X → Type 0) (ls : List Line) (xs : List X) (left : List Line) : Type 0 where
  items : AllByRecursion P xs
  count : length xs ≤ length ls
  behind : IsLeft script ls left

-- behind the line that begins them
begun : (script : ScriptData) (X : Type 0) (P : X → Type 0) (items : List Line → List X) (behind : List Line → List Line) → ((ls : List Line) → AreFit script ls → AreInFront script X P ls (items ls) (behind ls))
    → (ls : List Line) → AreFit script ls → AreInFront script X P ls (items (drop 1 ls)) (behind (drop 1 ls))
begun script X P items behind each [] fits = each [] fits
begun script X P items behind each (l ∷ ls) fits = grind (arith, each ls, fits)

-- the lines of items that fit, numbered up to a bound
lines_fit : {X : Type 0} (script : ScriptData) (P : X → Type 0) (bound : ℕ) (lines : ℕ → X → List Line) → ((n : ℕ) (x : X) → n < bound → P x → AreFit script (lines n x))
    → (n : ℕ) (xs : List X) → n + length xs ≤ bound → AllByRecursion P xs → AreFit script (lines_from lines n xs)
lines_fit script P bound lines each n [] le all = tt
lines_fit script P bound lines each n (x ∷ xs) le all =
    all_append (FitsLine script) (lines n x) (lines_from lines (n + 1) xs) (each n x (omega arith) all.0) (lines_fit script P bound lines each (n + 1) xs (omega arith) all.1)

-- ---- lines that are read

pub reads_fit : LineFits → (script : ScriptData) (s : Section) (bs : List ℕ) (ls : List Line) (end : Section) (left : List ℕ) → Reads script s bs ls end left → AllByRecursion (FitsLine script) ls
reads_fit fits script s bs [] end left r = tt
reads_fit fits script s bs (l ∷ ls) end left r =
    let read = (form_parts script s bs l r.0 r.1 r.2).0 in
    (subst (λ (o : Option (Line × List ℕ)). IfSome o (λ x. FitsLine script x.0)) read (fits script bs), reads_fit fits script r.1 r.0 ls end left r.3)

-- ---- callers

results_front : (script : ScriptData) (ls : List Line) → AreFit script ls → AreInFront script StepResult (FitsResult script) ls (results_in ls) (behind_results ls)
results_front script [] fits = grind (arith, fits)
results_front script (l ∷ ls) fits = grind (arith, results_front script ls, fits)

record FitsCaller (script : ScriptData) (c : CallerTrace) : Type 0 where
  few : length c.results < 2 ^ 64
  fits : AllByRecursion (FitsResult script) c.results

callers_front : (script : ScriptData) (n : ℕ) (ls : List Line) → length ls < 2 ^ 64 → AreFit script ls → AllByRecursion (FitsCaller script) (callers_in n ls).0 × IsLeft script ls (callers_in n ls).1
callers_front script zero ls few fits = (tt, record { fits = fits; few = omega arith })
callers_front script (suc n) ls few fits =
    let own = begun script _ _ results_in behind_results (results_front script) ls fits in
    let more = callers_front script n (behind_results (drop 1 ls)) (omega (arith, own.behind.few)) own.behind.fits in
    ((record { few = omega (arith, own.count); fits = own.items }, more.0), further script ls (behind_results (drop 1 ls)) _ own.behind more.1)

caller_lines_fit : (script : ScriptData) (cs : List CallerTrace) → length cs ≡ length script.callers → length script.callers < 2 ^ 32 → AllByRecursion (FitsCaller script) cs → AreFit script (lines_from caller_lines 0 cs)
caller_lines_fit script cs le small =
    lines_fit script (FitsCaller script) (length script.callers) caller_lines
    (λ n c lt own. ((lt, omega (arith, lt, small)), lines_fit script (FitsResult script) (2 ^ 64) result_lines (λ i r below fits. ((below, fits), tt)) 0 c.results (omega (arith, own.few)) own.fits)) 0 cs (omega (arith, le))

-- ---- outputs

outputs_fit : (script : ScriptData) (k : Kind) (ls : List Line) → AreFit script ls → AllByRecursion (FitsUnit script k) (outputs_in k ls)
outputs_fit script k (Line.Entry place t ∷ ls) fits = outputs_fit script k ls fits.1
outputs_fit script k (Line.Event s ∷ ls) fits =
    all_append (FitsUnit script k) (option_to_list (unit_of k s (config_in ls))) (outputs_in k ls) (unit_fits script k s ls fits.0 fits.1) (outputs_fit script k ls fits.1)
outputs_fit script k _ fits = tt

-- each output that is filled in is one of the units, or has nothing in it
abbrev AreFilled : Kind → (media.Unit → Type 0) → List Event → List media.Unit → Type 0
AreFilled k P xs us = AllByRecursion P (units_in (filled k xs us).0) × AllByRecursion P (filled k xs us).1

fill_fits : (k : Kind) (P : media.Unit → Type 0) → P (empty_output k) → (xs : List Event) (us : List media.Unit) → AllByRecursion P us → AreFilled k P xs us
fill_fits k P none [] us all = (tt, all)
fill_fits k P none (x ∷ xs) us all = grind (arith, fill_fits k P none xs, none, all)

each_fits : (k : Kind) (P : media.Unit → Type 0) → P (empty_output k) → (es : List Entry) (s : State) (us : List media.Unit) → AllByRecursion P us → AllByRecursion P (units_shown (each_filled_from k es s us))
each_fits k P none [] s us all = tt
each_fits k P none (e ∷ es) s us all = by (follow_step e s) (λ t vs more. each_fits k P none es t vs more)
  where
    here : AreFilled k P (shows e s) us
    here = fill_fits k P none (shows e s) us all

    by : (o : Option State) → ((t : State) (vs : List media.Unit) → AllByRecursion P vs → AllByRecursion P (units_shown (each_filled_from k es t vs)))
        → AllByRecursion P (units_shown (unwrap_or (option_map (λ t. filled_at k e s us ∷ each_filled_from k es t (filled k (shows e s) us).1) o) []))
    by None later = tt
    by (Some t) later = all_append P (units_in (filled k (shows e s) us).0) (units_shown (each_filled_from k es t (filled k (shows e s) us).1)) here.0 (later t (filled k (shows e s) us).1 here.1)

-- ---- entries

entries_front : (script : ScriptData) (ls : List Line) → AreFit script ls → AreInFront script EntryLine (FitsEntryLine script) ls (entry_lines_in ls) (behind_entries ls)
entries_front script [] fits = grind (arith, fits)
entries_front script (l ∷ ls) fits = grind (arith, entries_front script ls, fits)

-- whatever the entry shows, its line fits
abbrev FitsEntry : ScriptData → Entry → Type 0
FitsEntry script e = (x : Shown) → FitsEntryLine script (entry_line_of e x)

line_fits : (script : ScriptData) (t : EntryLine) (x : Shown) → FitsEntryLine script t → FitsEntryLine script (line_with t x)
line_fits script t x fits = grind (arith, fits)

entry_fits : (script : ScriptData) (files : List (List Chunk)) (known : Known) (k place : ℕ) (t : EntryLine) (e : Entry) → FitsEntryLine script t → entry_of script files known k place t ≡ Some e → FitsEntry script e
entry_fits script files known k place t e fits is x = subst (FitsEntryLine script) (sym (entry_told script files known k place t x e is)) (line_fits script t x fits)

-- entries that fit, and are no more than those that are told
abbrev AreEntries : ScriptData → List EntryLine → List Entry → Type 0
AreEntries script ts es = AllByRecursion (FitsEntry script) es × (length es ≤ length ts)

entries_fit : (script : ScriptData) (files : List (List Chunk)) (known : Known) (k place : ℕ) (ts : List EntryLine) (s : State) → AllByRecursion (FitsEntryLine script) ts → AreEntries script ts (entries_from script files known k place s ts)
entries_fit script files known k place [] s fits = (tt, omega arith)
entries_fit script files known k place (t ∷ ts) s fits =
    by_next script files known k place t ts s (AreEntries script (t ∷ ts)) (tt, omega arith)
    (λ e u is step. (let more = entries_fit script files known k (place + 1) ts u fits.1 in ((entry_fits script files known k place t e fits.0 is, more.0), omega (arith, more.1))))

event_fits : (script : ScriptData) (k : Kind) (e : Event) → FitsEvent e → AllByRecursion (FitsUnit script k) (event_units e) → AreFit script (event_lines e)
event_fits script k e fits units = grind (arith, fits, units)

events_fit : (script : ScriptData) (k : Kind) (es : List Event) → AllByRecursion FitsEvent es → AllByRecursion (FitsUnit script k) (units_in es) → AreFit script (flat_map event_lines es)
events_fit script k [] fits units = tt
events_fit script k (e ∷ es) fits units =
    all_append (FitsLine script) (event_lines e) (flat_map event_lines es) (event_fits script k e fits.0 (all_left (FitsUnit script k) (event_units e) (units_in es) units))
    (events_fit script k es fits.1 (all_right (FitsUnit script k) (event_units e) (units_in es) units))

entry_lines_fit : (script : ScriptData) (k : Kind) (n : ℕ) (es : List Entry) (xs : List Shown) → n + length es < 2 ^ 64 → AllByRecursion (FitsEntry script) es → AllByRecursion FitsShown xs → AllByRecursion (FitsUnit script k) (units_shown xs)
    → AreFit script (lines_from entry_lines n (zip es xs))
entry_lines_fit script k n (e ∷ es) (x ∷ xs) few fits promises units =
    let here = units_in x.events in
    grind (arith, all_append (FitsLine script), events_fit script k x.events, all_left (FitsUnit script k) here (units_shown xs), all_right (FitsUnit script k) here (units_shown xs), entry_lines_fit script k (n + 1) es xs, few, fits.0 x, fits.1, promises, units)
entry_lines_fit script k n _ _ few fits promises units = tt

-- ---- codecs

record FitsCodec (script : ScriptData) (c : CodecTrace) : Type 0 where
  opening : c.opening.saturation < 2 ^ 32
  few : length c.entries < 2 ^ 64
  entries : AllByRecursion (FitsEntry script) c.entries
  units : AllByRecursion (FitsUnit script c.opening.kind) (units_shown c.shown)

opening_fits : (script : ScriptData) (ls : List Line) → AreFit script ls → (opening_of ls).saturation < 2 ^ 32
opening_fits script ls fits = grind (arith, fits)

codecs_front : (script : ScriptData) (files : List (List Chunk)) (known : Known) (k n : ℕ) (ls : List Line) → length ls < 2 ^ 64 → AreFit script ls
    → AllByRecursion (FitsCodec script) (codecs_in script files known k n ls) × IsLeft script ls (all_outputs_in n ls).1
codecs_front script files known k zero ls few fits = (tt, record { fits = fits; few = omega arith })
codecs_front script files known k (suc n) ls few fits =
    let told = begun script _ _ entry_lines_in behind_entries (entries_front script) ls fits in
    let kind = (opening_of ls).kind in
    let start = opening_state (opening_of ls) in
    let made = entries_fit script files known k 0 (entry_lines_in (drop 1 ls)) start told.items in
    let own : FitsCodec script (codec_in script files known k ls) = record {
      opening = opening_fits script ls fits;
      few = omega (arith, made.1, told.count);
      entries = made.0;
      units = each_fits kind (FitsUnit script kind) (empty_fits script kind) (entries_from script files known k 0 start (entry_lines_in (drop 1 ls))) start (outputs_in kind (drop 1 ls)) (outputs_fit script kind (drop 1 ls) (all_behind (FitsLine script) ls fits));
    } in
    let more = codecs_front script files known (k + 1) n (behind_entries (drop 1 ls)) (omega (arith, told.behind.few)) told.behind.fits in
    ((own, more.0), further script ls (behind_entries (drop 1 ls)) _ told.behind more.1)

codec_lines_fit : (script : ScriptData) (cs : List CodecTrace) → length cs ≡ length script.codecs → length script.codecs < 2 ^ 32 → AllByRecursion (λ c. FitsCodec script c × FitsTrace c) cs → AreFit script (lines_from codec_lines 0 cs)
codec_lines_fit script cs le small =
    lines_fit script (λ c. FitsCodec script c × FitsTrace c) (length script.codecs) codec_lines
    (λ n c lt own. (((lt, omega (arith, lt, small)), own.0.opening), entry_lines_fit script c.opening.kind 0 c.entries c.shown (omega (arith, own.0.few)) own.0.entries own.1 own.0.units)) 0 cs (omega (arith, le))

codec_plain : (script : ScriptData) (c : CodecTrace) → FitsCodec script c → IsPlainTrace c
codec_plain script c fits = all_weaker (FitsUnit script c.opening.kind) (IsOutputOf c.opening.kind) (λ u own. own.plain) (units_shown c.shown) fits.units

-- ---- the pool of media, and the registry

abbrev FitsReference : ScriptData → PoolEntry → Type 0
FitsReference script e = FitsBy script e.by × FitsPoolOp e.op

references_front : (script : ScriptData) (ls : List Line) → AreFit script ls → AreInFront script PoolEntry (FitsReference script) ls (pool_in ls) (behind_pool ls)
references_front script [] fits = grind (arith, fits)
references_front script (l ∷ ls) fits = grind (arith, references_front script ls, fits)

abbrev FitsSlot : ScriptData → SlotEntry → Type 0
FitsSlot script e = FitsBy script e.by × FitsOp e.op

-- whatever lines stand behind, none of them is kept here
slots_front : (script : ScriptData) (ls : List Line) → AreFit script ls → AreInFront script SlotEntry (FitsSlot script) ls (slots_in ls) []
slots_front script [] fits = grind (arith, fits)
slots_front script (l ∷ ls) fits = grind (arith, slots_front script ls, fits)

held_fits : (script : ScriptData) (ls : List Line) → AreFit script ls → held_in ls < 2 ^ 64
held_fits script [] fits = grind (arith, fits)
held_fits script (l ∷ ls) fits = grind (arith, held_fits script ls, fits)

-- ---- the run

-- a script with nothing at fault has few callers and codecs
few_in : (script : ScriptData) → is_sound script ≡ true → (length script.callers < 2 ^ 32) × (length script.codecs < 2 ^ 32)
few_in script sound = grind (arith, (parts_of script sound).few)

run_fits : (script : ScriptData) (files : List (List Chunk)) (ls : List Line) → is_sound script ≡ true → length ls < 2 ^ 64 → AreFit script ls → AllByRecursion FitsTrace (run_of script files ls).codecs → IsWithoutLoss script (run_of script files ls)
unfolding run_of
run_fits script files ls sound few fits promises =
    let small = few_in script sound in
    let n = length script.callers in
    let m = length script.codecs in
    let callers = callers_in n (drop 1 ls) in
    let outputs = all_outputs_in m callers.1 in
    let pool = drop 1 outputs.1 in
    let slots = drop 1 (behind_pool pool) in
    let known : Known = record { callers = callers.0; outputs = outputs.0; pool = pool_in pool } in
    let codecs = codecs_in script files known 0 m callers.1 in
    let less = few_behind ls in
    let front = callers_front script n (drop 1 ls) (omega (arith, less)) (all_behind (FitsLine script) ls fits) in
    let made = codecs_front script files known 0 m callers.1 (omega (arith, front.1.few, less)) front.1.fits in
    let references = begun script _ _ pool_in behind_pool (references_front script) outputs.1 made.1.fits in
    let entries = begun script _ _ slots_in (λ _. []) (slots_front script) (behind_pool pool) references.behind.fits in
    let end = all_append (FitsLine script) (lines_from slot_lines 0 (slots_in slots)) (end_lines (held_in slots))
    (lines_fit script (FitsSlot script) (2 ^ 64) slot_lines (λ i e lt own. ((lt, own.0, own.1), tt)) 0 (slots_in slots) (omega (arith, entries.count, references.behind.few, front.1.few, made.1.few, less)) entries.items)
    (held_fits script slots (all_behind (FitsLine script) (behind_pool pool) references.behind.fits), (tt, tt)) in
    let back = all_append (FitsLine script) (lines_from pool_lines 0 (pool_in pool)) _
    (lines_fit script (FitsReference script) (2 ^ 64) pool_lines (λ i e lt own. ((lt, own.0, own.1), tt)) 0 (pool_in pool) (omega (arith, references.count, front.1.few, made.1.few, less)) references.items) (tt, end) in
    record {
      plain = all_weaker (FitsCodec script) IsPlainTrace (codec_plain script) codecs made.0;
      fits = (
        tt,
        all_append (FitsLine script) (lines_from caller_lines 0 callers.0) _ (caller_lines_fit script callers.0 (callers_count n (drop 1 ls)) small.0 front.0)
            (all_append (FitsLine script) (lines_from codec_lines 0 codecs) _ (codec_lines_fit script codecs (codecs_count script files known 0 m callers.1) small.1 (all_both (FitsCodec script) FitsTrace codecs made.0 promises)) (tt, back)),
      );
    }

-- what lines in their forms show is told, where they are the report of what they show
pub forms_told : LineFits → LineAgain → (script : ScriptData) (files : List (List Chunk)) (bs : List ℕ) (ls : List Line) (run : Run) → is_sound script ≡ true → AreForms script bs ls → length ls < 2 ^ 64
    → run ≡ run_of script files ls → AllByRecursion FitsTrace run.codecs → bs ≡ report_of script run → IsTold script files run
forms_told fits again script files bs ls run sound forms few is promises text =
    let own : AllByRecursion FitsTrace (run_of script files ls).codecs = subst (λ (x : Run). AllByRecursion FitsTrace x.codecs) is promises in
    let whole = run_fits script files ls sound few (reads_fit fits script Section.Start bs ls Section.Ended [] forms) own in
    let passes = run_passes script (run_of script files ls) (run_callers script files ls) (run_codecs script files ls) in
    let same = forms_once script bs ls (lines_of (run_of script files ls)) forms (rw (text ∙ ap (report_of script) is) (text_read again script (sound_names script sound) Section.Start (lines_of (run_of script files ls)) Section.Ended passes whole.fits)) in
    let told : IsTold script files (run_of script files ls) = record { told = run_told script files ls same whole.plain; whole = whole } in
    subst (λ (x : Run). IsTold script files x) (sym is) told
