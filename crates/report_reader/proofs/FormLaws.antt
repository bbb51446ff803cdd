-- The lines of a text that has its forms are read, and no others; those of a run stand in their places.
use Rattle.std.proofs.Common.{◌≡◌, ℕ, suc, ◌+◌, ◌<◌, ◌≤◌, List, [], ◌∷◌, ◌++◌, length, Option, Some, None, refl, sym, ap, subst, ◌∙◌, arith, eq-eqb}
use Rattle.std.specs.Prelude.{flat_map, IfSome}
use Rattle.std.specs.List.{AllByRecursion, zip}
use Rattle.std.proofs.lemmas.{List.length-append, Bool.lt-ltb}
use Rattle.codec_definitions.specs.declared.unit.Unit.TheVariants as unit
use Rattle.codec_model.specs.declared.entry.{Opening.Opening, Event.Event}
use Rattle.script_types.specs.declared.script.ScriptData.{ScriptData}
use Rattle.run_model.specs.declared.run.CallerTrace.{CallerTrace}
use Rattle.run_model.specs.declared.run.CodecTrace.{CodecTrace}
use Rattle.run_model.specs.declared.run.Run.{Run}
use Rattle.trace_text.specs.Report.{event_lines, lines_from, result_lines, caller_lines, entry_lines, codec_lines, pool_lines, slot_lines, end_lines, lines_of}
use Rattle.report_lines.specs.{Words.◌>>=◌, Reading.line_at, Fits.AreNames, Fits.FitsLine, Laws.LineAgain, Laws.LineSound}
use Rattle.report_text.specs.{declared.line.Line.Line, Text.line_text}
use Rattle.report_reader.specs.declared.forms.Section.{Section}
use Rattle.report_reader.specs.Form.{next_part, next, next_in, form_at, Reads, AreForms, Passes, next_number}

-- ---- the loop

pub reads_more : (script : ScriptData) (s : Section) (bs : List ℕ) (ls : List Line) (mid : Section) (left : List ℕ) (l : Line) (rest : List ℕ) (end : Section)
    → Reads script s bs ls mid left → form_at script mid left ≡ Some (l, rest, end) → Reads script s bs (ls ++ (l ∷ [])) end rest
reads_more script s bs [] mid left l rest end r e = (rest, end, rw (r.0, r.1) e, (refl, refl))
reads_more script s bs (x ∷ ls) mid left l rest end r e = (r.0, r.1, r.2, reads_more script r.1 r.0 ls mid left l rest end r.3 e)

abbrev some : {A : Type 0} → A → Option A
some x = Some x

some_is : {A : Type 0} (x y : A) → some x ≡ some y → x ≡ y
some_is x y e = cc

-- ---- a line is not empty

line_long : (script : ScriptData) (l : Line) → 0 < length (line_text script l)
line_long script l = grind (arith, length-append)

parts : (o : Option (Line × List ℕ)) (behind : Line → Option Section) (l : Line) (rest : List ℕ) (end : Section)
    → (o >>= λ x. behind x.0 >>= λ t. (let made : Line × List ℕ × Section = (x.0, x.1, t) in Some made)) ≡ Some (l, rest, end) → (o ≡ Some (l, rest)) × (behind l ≡ Some end)
parts o behind l rest end e = grind (arith, e)

pub form_parts : (script : ScriptData) (s : Section) (bs : List ℕ) (l : Line) (rest : List ℕ) (end : Section) → form_at script s bs ≡ Some (l, rest, end) → (line_at script bs ≡ Some (l, rest)) × (next_in script s l ≡ Some end)
unfolding form_at
form_parts script s bs l rest end e = parts (line_at script bs) (next_in script s) l rest end e

pub form_shorter : LineSound → (script : ScriptData) (s : Section) (bs : List ℕ) (l : Line) (rest : List ℕ) (end : Section) → form_at script s bs ≡ Some (l, rest, end) → length rest < length bs
form_shorter sound script s bs l rest end e =
    omega (arith, line_long script l, ap (λ (x : List ℕ). length x) (sound script bs (l, rest) (form_parts script s bs l rest end e).0), length-append (line_text script l) rest)

-- ---- a text of lines in their forms

form_again : LineAgain → (script : ScriptData) → AreNames script → (s : Section) (l : Line) (rest : List ℕ) (mid : Section) → FitsLine script l → next_in script s l ≡ Some mid
    → form_at script s (line_text script l ++ rest) ≡ Some (l, rest, mid)
unfolding form_at
form_again again script names s l rest mid fits e = rw (again script l rest names fits, e) refl

pub none_at_end : (script : ScriptData) (bs : List ℕ) → form_at script Section.Ended bs ≡ None
unfolding form_at
none_at_end script bs = grind arith

not_some : {A : Type 0} {x : A} → ◌≡◌ {A = Option A} None (Some x) → ⊥
not_some e = cc

-- reading stops at one place
abbrev IsSame : List Line → List Line → Section → Section → List ℕ → List ℕ → Type 0
IsSame ls ms at there left behind = (ls ≡ ms) × (at ≡ there) × (left ≡ behind)

pub stops_once : (script : ScriptData) (s : Section) (bs : List ℕ) (ls ms : List Line) (at there : Section) (left behind : List ℕ)
    → Reads script s bs ls at left → form_at script at left ≡ None → Reads script s bs ms there behind → form_at script there behind ≡ None → IsSame ls ms at there left behind
stops_once script s bs [] [] at there left behind r none q stop = (refl, sym r.0 ∙ q.0, sym r.1 ∙ q.1)
stops_once script s bs [] (y ∷ ms) at there left behind r none q stop = absurd (not_some (sym (rw (r.0, r.1) none) ∙ q.2))
stops_once script s bs (x ∷ ls) [] at there left behind r none q stop = absurd (not_some (sym (rw (q.0, q.1) stop) ∙ r.2))
stops_once script s bs (x ∷ ls) (y ∷ ms) at there left behind r none q stop =
    let read : Line × List ℕ × Section = (x, r.0, r.1) in
    let same = some_is read (y, q.0, q.1) (sym r.2 ∙ q.2) in
    let moved : Reads script q.1 q.0 ls at left = subst (λ (z : Line × List ℕ × Section). Reads script z.2 z.1 ls at left) same r.3 in
    let more = stops_once script q.1 q.0 ls ms at there left behind moved none q.3 stop in
    (cc (ap (λ (z : Line × List ℕ × Section). z.0) same, more.0), more.1, more.2)

pub forms_once : (script : ScriptData) (bs : List ℕ) (ls ms : List Line) → AreForms script bs ls → AreForms script bs ms → ls ≡ ms
forms_once script bs ls ms r q = (stops_once script Section.Start bs ls ms Section.Ended Section.Ended [] [] r (none_at_end script []) q (none_at_end script [])).0

abbrev pub text_of : ScriptData → List Line → List ℕ
text_of script ls = flat_map (line_text script) ls

-- lines that fit and stand in their places are read of their text
pub text_read : LineAgain → (script : ScriptData) → AreNames script → (s : Section) (ls : List Line) (end : Section) → Passes script s ls end → AllByRecursion (FitsLine script) ls → Reads script s (text_of script ls) ls end []
text_read again script names s [] end passes fits = (passes, refl)
text_read again script names s (l ∷ ls) end passes fits =
    (text_of script ls, passes.0, form_again again script names s l (text_of script ls) passes.0 fits.0 passes.1, text_read again script names passes.0 ls end passes.2 fits.1)

-- ---- numbers rise by one at most

rises : (callers codecs : ℕ) (s : Section) (l : Line) → IfSome (next callers codecs s l) (λ t. next_number t ≤ next_number s + 1)
rises callers codecs s l = grind arith

pub form_numbered : (script : ScriptData) (s : Section) (bs : List ℕ) (l : Line) (rest : List ℕ) (t : Section) → form_at script s bs ≡ Some (l, rest, t) → next_number t ≤ next_number s + 1
form_numbered script s bs l rest t e = subst (λ (o : Option Section). IfSome o (λ x. next_number x ≤ next_number s + 1)) (form_parts script s bs l rest t e).1 (rises (length script.callers) (length script.codecs) s l)

-- ---- lines that stand one behind another

passes_on : (script : ScriptData) (s : Section) (a b : List Line) (mid end : Section) → Passes script s a mid → Passes script mid b end → Passes script s (a ++ b) end
passes_on script s [] b mid end p q = subst (λ (x : Section). Passes script x b end) (sym p) q
passes_on script s (l ∷ a) b mid end p q = (p.0, p.1, passes_on script p.0 a b mid end p.2 q)

-- these lines lead to a section of this kind
abbrev Leads : ScriptData → Section → List Line → (Section → Type 0) → Type 0
Leads script s ls P = (t : Section) × P t × Passes script s ls t

leads_on : (script : ScriptData) (s : Section) (a b : List Line) (P Q : Section → Type 0) → Leads script s a P → ((t : Section) → P t → Leads script t b Q) → Leads script s (a ++ b) Q
leads_on script s a b P Q first then = let more = then first.0 first.1 in (more.0, more.1, passes_on script s a b first.0 more.0 first.2 more.2)

-- so do those of items, one by one, up to a bound
items_lead : {X : Type 0} (script : ScriptData) (at : ℕ → Section → Type 0) (lines : ℕ → X → List Line) (bound : ℕ) → ((n : ℕ) (x : X) (s : Section) → n < bound → at n s → Leads script s (lines n x) (at (n + 1)))
    → (n : ℕ) (xs : List X) (s : Section) → n + length xs ≤ bound → at n s → Leads script s (lines_from lines n xs) (at (n + length xs))
items_lead script at lines bound each n [] s le here = let same : n ≡ n + 0 = omega arith in (s, subst (λ (m : ℕ). at m s) same here, refl)
items_lead script at lines bound each n (x ∷ xs) s le here =
    let same : n + 1 + length xs ≡ n + suc (length xs) = omega arith in
    leads_on script s (lines n x) (lines_from lines (n + 1) xs) (at (n + 1)) (at (n + suc (length xs))) (each n x s (omega arith) here)
    (λ t there. subst (λ (m : ℕ). Leads script t (lines_from lines (n + 1) xs) (at m)) same (items_lead script at lines bound each (n + 1) xs t (omega arith) there))

-- and those that are numbered from 0 in a section of their own
numbered_lead : {X : Type 0} (script : ScriptData) (at : ℕ → Section) (lines : ℕ → X → List Line) → ((n : ℕ) (x : X) → Passes script (at n) (lines n x) (at (n + 1))) → (xs : List X) → Passes script (at 0) (lines_from lines 0 xs) (at (length xs))
numbered_lead script at lines each xs =
    let all = items_lead script (λ n s. s ≡ at n) lines (length xs) (λ n x s lt here. (at (n + 1), refl, rw here (each n x))) 0 xs (at 0) (omega arith) refl in
    let same : 0 + length xs ≡ length xs = omega arith in
    subst (λ (t : Section). Passes script (at 0) (lines_from lines 0 xs) t) (all.1 ∙ ap at same) all.2

abbrev IsCallers : ℕ → Section → Type 0
IsCallers k s = (n : ℕ) × (s ≡ Section.Callers k n)

events_pass : (script : ScriptData) (k n : ℕ) (es : List Event) → Passes script (Section.Codecs k n) (flat_map event_lines es) (Section.Codecs k n)
events_pass script k n [] = refl
events_pass script k n (Event.Refusal x ∷ es) = events_pass script k n es
events_pass script k n (Event.Output m (unit.Coded chunk (Some c)) ∷ es) = (Section.Codecs k n, refl, (Section.Codecs k n, refl, events_pass script k n es))
events_pass script k n (e ∷ es) = (Section.Codecs k n, refl, events_pass script k n es)

-- in this section the next codec, or the pool, may stand
pub record IsReady (script : ScriptData) (s : Section) (k : ℕ) : Type 0 where
  pub codec : (i : ℕ) (o : Opening) → next_in script s (Line.Codec i o) ≡ next_part (length script.codecs) k (Line.Codec i o)
  pub pool : next_in script s Line.Pool ≡ next_part (length script.codecs) k Line.Pool

codec_leads : (script : ScriptData) (k : ℕ) (c : CodecTrace) (s : Section) → k < length script.codecs → IsReady script s k → Leads script s (codec_lines k c) (λ t. IsReady script t (k + 1))
codec_leads script k c s lt ready =
    let made = zip c.entries c.shown in
    let entries = numbered_lead script (Section.Codecs (k + 1)) entry_lines (λ n m. (Section.Codecs (k + 1) (n + 1), rw (eq-eqb n n refl) refl, events_pass script (k + 1) (n + 1) m.1.events)) made in
    (Section.Codecs (k + 1) (length made), record { codec = λ i o. refl; pool = refl }, (Section.Codecs (k + 1) 0, ready.codec k c.opening ∙ rw (eq-eqb k k refl, lt-ltb k (length script.codecs) lt) refl, entries))

caller_leads : (script : ScriptData) (k : ℕ) (c : CallerTrace) (s : Section) → k < length script.callers → IsCallers k s → Leads script s (caller_lines k c) (IsCallers (k + 1))
caller_leads script k c s lt here =
    let results = numbered_lead script (Section.Callers (k + 1)) result_lines (λ n r. (Section.Callers (k + 1) (n + 1), rw (lt-ltb 0 (k + 1) (omega arith), eq-eqb n n refl) refl, refl)) c.results in
    (Section.Callers (k + 1) (length c.results), (length c.results, refl), (Section.Callers (k + 1) 0, rw (here.1, eq-eqb k k refl, lt-ltb k (length script.callers) lt) refl, results))

-- the lines of a run with the script's callers and codecs stand in their places
pub run_passes : (script : ScriptData) (run : Run) → length run.callers ≡ length script.callers → length run.codecs ≡ length script.codecs → Passes script Section.Start (lines_of run) Section.Ended
run_passes script run callers_are codecs_are =
    let end = lines_from slot_lines 0 run.slots ++ end_lines run.held in
    let pool = lines_from pool_lines 0 run.pool ++ Line.Slots ∷ end in
    let callers = lines_from caller_lines 0 run.callers in
    let codecs = lines_from codec_lines 0 run.codecs in
    let n = length script.callers in
    let m = length script.codecs in
    let front = items_lead script IsCallers caller_lines n (caller_leads script) 0 run.callers (Section.Callers 0 0) (omega (arith, callers_are)) (0, refl) in
    let there : front.0 ≡ Section.Callers n front.1.0 = let same : 0 + length run.callers ≡ n = omega (arith, callers_are) in front.1.1 ∙ ap (λ (k : ℕ). Section.Callers k front.1.0) same in
    let ready : IsReady script front.0 0 = rw there (record { codec = λ i o. rw (eq-eqb n n refl) refl; pool = rw (eq-eqb n n refl) refl }) in
    let middle = items_lead script (λ k s. IsReady script s k) codec_lines m (codec_leads script) 0 run.codecs front.0 (omega (arith, codecs_are)) ready in
    let all_codecs : 0 + length run.codecs ≡ m = omega (arith, codecs_are) in
    let slots = passes_on script (Section.Slots 0) _ (end_lines run.held) _ Section.Ended (numbered_lead script Section.Slots slot_lines (λ i e. (Section.Slots (i + 1), rw (eq-eqb i i refl) refl, refl)) run.slots) (Section.Held, refl, (Section.Ended, refl, refl)) in
    let back = passes_on script (Section.Pool 0) _ (Line.Slots ∷ end) _ Section.Ended (numbered_lead script Section.Pool pool_lines (λ i e. (Section.Pool (i + 1), rw (eq-eqb i i refl) refl, refl)) run.pool) (Section.Slots 0, refl, slots) in
    let rest : Passes script middle.0 (Line.Pool ∷ pool) Section.Ended = (Section.Pool 0, middle.1.pool ∙ rw (eq-eqb (0 + length run.codecs) m all_codecs) refl, back) in
    (Section.Callers 0 0, refl, passes_on script (Section.Callers 0 0) callers (codecs ++ Line.Pool ∷ pool) front.0 Section.Ended front.2 (passes_on script front.0 codecs (Line.Pool ∷ pool) middle.0 Section.Ended middle.2 rest))
