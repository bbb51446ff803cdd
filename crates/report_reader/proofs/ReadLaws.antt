-- What was read is the report's run, or names its line at fault; a fault has one place.
use Rattle.std.proofs.Common.{◌≡◌, ℕ, List, [], sym, ap, ◌∙◌, refl, inl, inr}
use Rattle.std.specs.Prelude.{Result, Ok, Err, IfOk, IfErr}
use Rattle.wc_chunk.specs.declared.chunk.Chunk.{Chunk}
use Rattle.script_types.specs.declared.script.ScriptData.{ScriptData}
use Rattle.run_model.specs.declared.run.Run.{Run}
use Rattle.trace_text.specs.Report.{report_of, lines_of}
use Rattle.report_text.specs.declared.line.Line.{Line}
use Rattle.report_lines.specs.{Fits.AreNames, Laws.LineAgain}
use Rattle.report_reader.specs.{declared.forms.Section.Section, declared.fault.ReportFault.ReportFault, Form.AreForms, Read.run_of, Told.IsTold}
use Rattle.report_reader.specs.Fault.{IsRead, IsBadForm, IsFault, Gives, line_of_difference}
use Rattle.report_reader.proofs.{RunLaws.run_again, FormLaws.stops_once, FormLaws.forms_once, FormLaws.none_at_end, FormLaws.text_read, FormLaws.run_passes}

-- a text of lines in their forms has no place without a form
never_bad : (script : ScriptData) (bs : List ℕ) (n : ℕ) (ls : List Line) → IsBadForm script bs n → AreForms script bs ls → ⊥
never_bad script bs n ls f forms =
    let same = stops_once script Section.Start bs f.before ls f.at Section.Ended f.left [] f.reads f.none forms (none_at_end script []) in
    f.not_all same.1 same.2

pub fault_is_one : (script : ScriptData) (files : List (List Chunk)) (bs : List ℕ) (m n : ℕ) → IsFault script files bs (ReportFault.BadLine m) → IsFault script files bs (ReportFault.BadLine n) → m ≡ n
fault_is_one script files bs m n (inl f) (inl g) =
    let same = stops_once script Section.Start bs f.before g.before f.at g.at f.left g.left f.reads f.none g.reads g.none in
    f.number ∙ rw same.0 (sym g.number)
fault_is_one script files bs m n (inl f) (inr d) = absurd (never_bad script bs m d.lines f d.forms)
fault_is_one script files bs m n (inr d) (inl f) = absurd (never_bad script bs n d.lines f d.forms)
fault_is_one script files bs m n (inr d) (inr e) =
    d.number ∙ ap (λ (ls : List Line). line_of_difference (report_of script (run_of script files ls)) bs) (forms_once script bs d.lines e.lines d.forms e.forms) ∙ sym e.number

-- ---- a run that is told

module _ (again : LineAgain) (script : ScriptData) (files : List (List Chunk)) (names : AreNames script) (run : Run) (told : IsTold script files run) where
  -- its report has the forms of its lines
  told_forms : (bs : List ℕ) → bs ≡ report_of script run → AreForms script bs (lines_of run)
  told_forms bs e = rw e (text_read again script names Section.Start (lines_of run) Section.Ended (run_passes script run told.told.callers told.told.codecs) told.whole.fits)

  -- and shows it
  forms_show : (bs : List ℕ) (ls : List Line) → bs ≡ report_of script run → AreForms script bs ls → run_of script files ls ≡ run
  forms_show bs ls e forms = ap (run_of script files) (forms_once script bs ls (lines_of run) forms (told_forms bs e)) ∙ run_again script files run told.told told.whole.plain

  -- so it is read
  pub read_again : (bs : List ℕ) (result : Result Run ReportFault) → IfOk result (IsRead script files bs) → IfErr result (IsFault script files bs) → bs ≡ report_of script run → Gives result run
  read_again bs (Ok x) ok bad e = ok.shown ∙ forms_show bs ok.lines e ok.forms
  read_again bs (Err ReportFault.NoMemory) ok bad e = tt
  read_again bs (Err (ReportFault.BadLine n)) ok (inl form) e = never_bad script bs n (lines_of run) form (told_forms bs e)
  read_again bs (Err (ReportFault.BadLine n)) ok (inr d) e = d.differs (ap (report_of script) (forms_show bs d.lines e d.forms) ∙ sym e)

-- Of one script, two runs that are told are equal where their reports are.
pub report_tells : LineAgain → (script : ScriptData) (files : List (List Chunk)) (a b : Run) → AreNames script → IsTold script files a → IsTold script files b → report_of script a ≡ report_of script b → a ≡ b
report_tells again script files a b names ta tb e =
    sym (run_again script files a ta.told ta.whole.plain) ∙ forms_show again script files names b tb (report_of script a) (lines_of a) e (told_forms again script files names a ta (report_of script a) refl)
