-- Legal runs that fit their scripts are told.
use Rattle.std.proofs.Common.{◌≡◌, ℕ, zero, suc, ◌+◌, true, false, List, [], ◌∷◌, ◌++◌, length, map, Option, Some, None, refl, sym, ap, subst, ◌∙◌, arith}
use Rattle.std.specs.Prelude.{take, option_map, unwrap_or}
use Rattle.std.specs.Option.{option_or}
use Rattle.std.specs.List.{zip, slice_get}
use Rattle.wc_config.specs.declared.codec.CoderId.{CoderId}
use Rattle.wc_chunk.specs.declared.chunk.Chunk.{Chunk}
use Rattle.wc_pool.specs.declared.entry.{PoolEntry.PoolEntry, PoolOp.PoolOp}
use Rattle.codec_definitions.specs.declared.unit.Unit as media
use Rattle.codec_model.specs.{declared.entry.Pair.Pair, declared.entry.Entry.Entry, declared.entry.Shown.Shown, Held.lets_go}
use Rattle.codec_model.specs.Replay.{State, opening_state, step as legal_step}
use Rattle.codec_model.specs.Shown.{shows, units_in, outputs_of, shown, shown_from, each_shown_from, units_shown}
use Rattle.codec_follow.specs.Follow.{each_filled}
use Rattle.codec_follow.specs.Laws.{LegalFollows, LegalFills, OutputsAreOfKind}
use Rattle.history_laws.specs.CountLaws.{outputs_tagged}
use Rattle.codec_accounts.specs.{Owed.at, Codec.state_after}
use Rattle.script_types.specs.declared.{script.ScriptData.ScriptData, script.CodecItem.CodecItem}
use Rattle.script_types.specs.Sound.{is_sound}
use Rattle.report_text.specs.declared.result.StepResult.{StepResult}
use Rattle.media_variables.specs.Variables.{Taken, Received}
use Rattle.media_accounts.specs.Accounts.{without_last, ops_of_entry, called_for, called_at}
use Rattle.media_accounts.specs.Contents.{ContentsAreKept, ChunksAreGiven}
use Rattle.run_model.specs.declared.run.CallerTrace.{CallerTrace}
use Rattle.run_model.specs.declared.run.CodecTrace.{CodecTrace}
use Rattle.run_model.specs.declared.run.Run.{Run}
use Rattle.run_model.specs.FitsLaws.{calls_by_places}
use Rattle.run_model.specs.Recorded.{Recorded, opening_in, opening_at}
use Rattle.run_model.specs.Follow.{order_items}
use Rattle.run_model.specs.Fits.{Fits, FitsInOrder, IsLegalTrace, AreLegalTraces, IsLegalRun, recorded_of, entry_in, result_in, taken_by}
use Rattle.run_ranges.specs.{Counts.traces_count, Ranges.AreWithin, Ranges.LegalRunsFit}
use Rattle.report_reader.specs.declared.known.Known.{Known}
use Rattle.report_reader.specs.Arguments.{results_of, results_in, output_of, taken_in, cloned, pair_for}
use Rattle.report_reader.specs.Told.{known_of, HoldAll, IsToldTrace, AreToldTraces, IsTold}
use Rattle.report_reader.proofs.{RunLaws.shown_units_of, KindLaws.legal_plain, PortLaws.Grown, PortLaws.total, PortLaws.order_grows, FoundLaws.IsRun, FoundLaws.all_found}
use Rattle.report_reader.proofs.CallLaws.{AreFound, HasPair, GetsArguments, IsMade, IsGiven, entry_holds}

-- ---- outputs

units_then : (es : List Entry) (o : Option State) → ((t : State) → outputs_of (shown_from es t) ≡ units_shown (each_shown_from es t))
    → outputs_of (unwrap_or (option_map (shown_from es) o) []) ≡ units_shown (unwrap_or (option_map (each_shown_from es) o) [])
units_then es o later = grind (arith, later)

shown_units : (es : List Entry) (s : State) → outputs_of (shown_from es s) ≡ units_shown (each_shown_from es s)
shown_units [] s = refl
shown_units (e ∷ es) s =
    outputs_tagged s.control.place (shows e s) (unwrap_or (option_map (shown_from es) (legal_step e s)) [])
    ∙ ap (λ (us : List media.Unit). units_in (shows e s) ++ us) (units_then es (legal_step e s) (λ t. shown_units es t))

-- the outputs that a legal run's codecs showed are those of their histories
outputs_are : (cs : List CodecItem) (ts : List CodecTrace) → AreLegalTraces cs ts → (k : ℕ) → outputs_of (shown (opening_in cs k) (at k (map (λ t. t.entries) ts))) ≡ at k (map shown_units_of ts)
outputs_are [] [] legal k = refl
outputs_are (c ∷ cs) (t ∷ ts) legal zero =
    ap (λ o. outputs_of (shown o t.entries)) (sym legal.0.opening) ∙ shown_units t.entries (opening_state t.opening) ∙ ap units_shown (sym legal.0.shown)
outputs_are (c ∷ cs) (t ∷ ts) legal (suc k) = outputs_are cs ts legal.1 k
outputs_are _ _ legal k = absurd legal

-- ---- outputs that were taken

results_at : (callers : List CallerTrace) (c : ℕ) → at c (map (λ t. t.results) callers) ≡ results_of callers c
results_at (t ∷ ts) (suc c) = results_at ts c
results_at _ _ = refl

unit_of_taken : (answer : StepResult) (o : Option media.Unit) (t : Taken) → option_map (λ u. let y : Taken = record { unit = u; answer = answer } in y) o ≡ Some t → o ≡ Some t.unit
unit_of_taken answer o t e = grind (arith, e)

taken_output : (script : ScriptData) (received : ℕ → ℕ → Option Received) (run : Run) → AreLegalTraces script.codecs run.codecs → (o : Option StepResult) (t : Taken) → taken_by script (recorded_of received run) o ≡ Some t → output_of (map shown_units_of run.codecs) o ≡ Some t.unit
taken_output script received run legal o t e = grind (arith, outputs_are, unit_of_taken, legal, e)

-- what a report shows of taken outputs is what the run brings to its callers' steps
taken_is : (script : ScriptData) (received : ℕ → ℕ → Option Received) (run : Run) → AreLegalTraces script.codecs run.codecs → (c j : ℕ) (t : Taken) → taken_by script (recorded_of received run) (result_in (recorded_of received run) c j) ≡ Some t → taken_in (known_of run) c j ≡ Some t.unit
taken_is script received run legal c j t brought = grind (arith, results_at run.callers c, taken_output script received run legal (result_in (recorded_of received run) c j) t, brought)

-- ---- what arguments are found in

total_results : (callers : List CallerTrace) → total (map (λ t. t.results) callers) ≡ results_in callers
total_results [] = refl
total_results (t ∷ ts) = ap (λ (n : ℕ). length t.results + n) (total_results ts)

-- what a legal replay's variables hold is found in its report
legal_found : ContentsAreKept → ChunksAreGiven → (script : ScriptData) (files : List (List Chunk)) (made : List CoderId) (run : Run) → is_sound script ≡ true → IsLegalRun script run → (replayed : FitsInOrder script files made run)
    → AreFound script files (recorded_of replayed.fits.received run) (known_of run)
legal_found kept chunks script files made run sound legal replayed =
    let fits = replayed.fits in
    let w = recorded_of fits.received run in
    let course = replayed.follows.course in
    let same : w.callers ≡ course.callers = ap (λ (x : Recorded). x.callers) replayed.follows.is_recorded in
    let is_run : IsRun script files w (known_of run) = record {
      results = λ c. results_at run.callers c;
      taken = λ c j t is. taken_is script fits.received run legal.codecs c j t is;
      sound = sound;
      calls = fits.calls;
      locals = fits.locals;
      ports = fits.ports;
      grown = subst (Grown script) (sym same) (order_grows script files made (order_items script) course replayed.follows.follows);
      deep = let count = total_results run.callers in omega (arith, count);
    } in
    all_found kept chunks script files w (known_of run) is_run

-- ---- clones

clone_first : (o : PoolOp) (p : Pair) → without_last o ≡ PoolOp.Clone p.resource p.reference → (rest : Option Pair) → option_or (cloned o) rest ≡ Some p
clone_first o p e rest = grind (arith, e)

-- the first clone that an entry made is the only one
pair_is : (k place : ℕ) (pool : List PoolEntry) (p : Pair) (rest : List PoolOp) → ops_of_entry k place pool ≡ PoolOp.Clone p.resource p.reference ∷ rest → pair_for k place pool ≡ Some p
pair_is k place [] p rest e = absurd cc
pair_is k place (x ∷ xs) p rest e = grind (arith, clone_first, pair_is k place xs p rest, e)

-- an entry's clone is found
pair_found : (script : ScriptData) (files : List (List Chunk)) (made : List CoderId) (run : Run) (fits : Fits script files made run) (k place : ℕ) (e : Entry) → entry_in (recorded_of fits.received run) k place ≡ Some e → HasPair (known_of run) k place e
pair_found script files made run fits k place e is p adds =
    let o = opening_at script k in
    let h = at k (recorded_of fits.received run).codecs in
    let s = state_after o (take place h) in
    let ends = map (λ (x : Pair). PoolOp.End x.resource x.reference false) (lets_go e s) in
    let ops : ops_of_entry k place run.pool ≡ called_for e s = fits.accounted.codecs k place ∙ ap (called_at o h place) is in
    pair_is k place run.pool p ends (ops ∙ ap (λ (ps : List Pair). map (λ (x : Pair). PoolOp.Clone x.resource x.reference) ps ++ ends) adds)

-- ---- entries

none_hold : (script : ScriptData) (files : List (List Chunk)) (known : Known) (k place : ℕ) (es : List Entry) → HoldAll script files known k place (zip es [])
none_hold script files known k place [] = tt
none_hold script files known k place (e ∷ es) = tt

-- each entry shows its own, and so is told again
entries_hold : (script : ScriptData) (files : List (List Chunk)) (w : Recorded) (known : Known) (k place : ℕ) (es : List Entry) (s : State) → AreFound script files w known
    → ((p n : ℕ) (e : Entry) → n ≡ place + p → slice_get es p ≡ Some e → IsGiven script files w known k n e) → HoldAll script files known k place (zip es (each_shown_from es s))
entries_hold script files w known k place [] s found h = tt
entries_hold script files w known k place (e ∷ es) s found h = (
  entry_holds script files w known k place e s found (h 0 place e (omega arith) refl),
  elim (legal_step e s) as (λ o. HoldAll script files known k (place + 1) (zip es (unwrap_or (option_map (each_shown_from es) o) []))) [
    | None ↦ none_hold script files known k (place + 1) es
    | Some t ↦ entries_hold script files w known k (place + 1) es t found (λ p n d same is. h (suc p) n d (omega (arith, same)) is)
  ],
)

-- what is known of legal histories, and of what variables hold
pub record HistoryLaws : Type 0 where
  pub follow : LegalFollows
  pub fill : LegalFills
  pub kinds : OutputsAreOfKind
  pub lines : LegalRunsFit
  pub kept : ContentsAreKept
  pub given : ChunksAreGiven

-- ---- codecs

trace_told : HistoryLaws → (script : ScriptData) (files : List (List Chunk)) (w : Recorded) (known : Known) (k : ℕ) (c : CodecItem) (t : CodecTrace) → AreFound script files w known → IsLegalTrace c t
    → ((p : ℕ) (e : Entry) → slice_get t.entries p ≡ Some e → IsGiven script files w known k p e) → IsToldTrace script files known k t
trace_told laws script files w known k c t found legal h = record {
  arguments = subst (λ (xs : List Shown). HoldAll script files known k 0 (zip t.entries xs)) (sym legal.shown)
      (entries_hold script files w known k 0 t.entries (opening_state t.opening) found
      (λ p n e same is. let here : n ≡ p = omega (arith, same) in subst (λ (m : ℕ). IsGiven script files w known k m e) (sym here) (h p e is)));
  follows = laws.follow t.opening t.entries legal.legal;
  shows = legal.shown ∙ laws.fill t.opening t.entries legal.legal ∙ ap (each_filled t.opening t.entries) (shown_units t.entries (opening_state t.opening) ∙ ap units_shown (sym legal.shown));
}

traces_told : HistoryLaws → (script : ScriptData) (files : List (List Chunk)) (w : Recorded) (known : Known) (k : ℕ) (cs : List CodecItem) (ts : List CodecTrace) → AreFound script files w known → AreLegalTraces cs ts
    → ((i n p : ℕ) (e : Entry) → n ≡ k + i → slice_get (at i (map (λ t. t.entries) ts)) p ≡ Some e → IsGiven script files w known n p e) → AreToldTraces script files known k ts
traces_told laws script files w known k [] [] found legal h = tt
traces_told laws script files w known k (c ∷ cs) (t ∷ ts) found legal h = (
  trace_told laws script files w known k c t found legal.0 (λ p e is. h 0 k p e (omega arith) is),
  traces_told laws script files w known (k + 1) cs ts found legal.1 (λ i n p e same is. h (suc i) n p e (omega (arith, same)) is),
)
traces_told laws script files w known k _ _ found legal h = absurd legal

-- the entry of a call has its step's arguments, and that step was made
arguments_at : (script : ScriptData) (files : List (List Chunk)) (made : List CoderId) (run : Run) (fits : Fits script files made run) (k p : ℕ) (e : Entry) → entry_in (recorded_of fits.received run) k p ≡ Some e
    → GetsArguments script files (recorded_of fits.received run) e × IsMade (recorded_of fits.received run) e
arguments_at script files made run fits k p (Entry.Call who x) is =
    let by_place = (calls_by_places script (recorded_of fits.received run) fits.calls).only k p who x is in
    (fits.arguments k p who x is, (by_place.0, by_place.1))
arguments_at script files made run fits k p e is = (tt, tt)

given_at : (script : ScriptData) (files : List (List Chunk)) (made : List CoderId) (run : Run) (fits : Fits script files made run) (k p : ℕ) (e : Entry) → entry_in (recorded_of fits.received run) k p ≡ Some e
    → IsGiven script files (recorded_of fits.received run) (known_of run) k p e
given_at script files made run fits k p e is =
    let calls = arguments_at script files made run fits k p e is in
    record { arguments = calls.0; pair = pair_found script files made run fits k p e is; made = calls.1 }

pub legal_told : HistoryLaws → (script : ScriptData) (files : List (List Chunk)) (made : List CoderId) (run : Run) → is_sound script ≡ true → AreWithin script files made → IsLegalRun script run → FitsInOrder script files made run → IsTold script files run
legal_told laws script files made run sound within legal replayed =
    let fits = replayed.fits in
    let w = recorded_of fits.received run in
    let known = known_of run in
    let found = legal_found laws.kept laws.given script files made run sound legal replayed in
    record {
      told = record {
        callers = legal.callers;
        codecs = traces_count script.codecs run.codecs legal.codecs;
        traces = traces_told laws script files w known 0 script.codecs run.codecs found legal.codecs
            (λ i n p e same is. let here : n ≡ i = omega (arith, same) in subst (λ (m : ℕ). IsGiven script files w known m p e) (sym here) (given_at script files made run fits i p e is));
      };
      whole = record { plain = legal_plain laws.kinds script files made run sound legal fits; fits = laws.lines script files made run sound within legal replayed };
    }
