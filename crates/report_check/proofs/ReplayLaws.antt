-- What the replay of a script tells of a report.
use Rattle.std.proofs.Common.{ℕ, ◌≡◌, List, map, Result, IsTrue, ap, sym, subst, ◌∙◌}
use Rattle.wc_config.specs.declared.codec.CoderId.{CoderId}
use Rattle.wc_chunk.specs.declared.chunk.Chunk.{Chunk}
use Rattle.script_types.specs.{Sound.is_sound, declared.script.ScriptData.ScriptData}
use Rattle.run_model.specs.declared.run.{CodecTrace.CodecTrace, Run.Run}
use Rattle.run_model.specs.Fits.{FitsInOrder, FollowsTheOrder, IsLegalRun, recorded_of}
use Rattle.run_model.specs.Follow.{nothing_yet, order_items, record_of}
use Rattle.run_model.specs.Recorded.{none_received}
use Rattle.order_laws.specs.Ends.{AreListed, course_with}
use Rattle.run_ranges.specs.Ranges.{AreWithin}
use Rattle.trace_text.specs.Report.{report_of}
use Rattle.report_reader.specs.{Fault.Gives, Laws.LegalRunsAreTold, Told.IsTold, declared.fault.ReportFault.ReportFault}
use Rattle.report_check.specs.Ends.{all_ends}
use Rattle.report_check.specs.Verdict.{IsRight}
use Rattle.report_check.proofs.EndLaws.{all_listed}

-- with the ends that say so in a run, the order makes that run
abbrev pub OneRun : Type 0
OneRun = (s : ScriptData) (media : List (List Chunk)) (made : List CoderId) (listed : List (ℕ × ℕ)) (run again : Run)
    → AreListed listed (recorded_of none_received run).codecs → FollowsTheOrder s media made run → recorded_of none_received again ≡ record_of none_received (course_with listed s media (order_items s) (nothing_yet s made)) → IsLegalRun s run → IsLegalRun s again → run ≡ again

-- a legal run that follows the order is the replay, so its report is the replay's
pub same_report : OneRun → (s : ScriptData) (media : List (List Chunk)) (made used : List CoderId) (ends listed : List (ℕ × ℕ)) (run again : Run) (text bs : List ℕ)
    → used ≡ made → listed ≡ ends → ends ≡ all_ends 0 (map (λ (c : CodecTrace). c.entries) run.codecs) → recorded_of none_received again ≡ record_of none_received (course_with listed s media (order_items s) (nothing_yet s used)) → IsLegalRun s again
    → text ≡ report_of s again → bs ≡ report_of s run → IsLegalRun s run → FitsInOrder s media made run → text ≡ bs
same_report law s media made used ends listed run again text bs same_made same_ends collected recorded legal_again is is_run legal fits =
    let are_listed : AreListed ends (recorded_of none_received run).codecs = subst (λ (l : List (ℕ × ℕ)). AreListed l (recorded_of none_received run).codecs) (sym collected) (all_listed (recorded_of none_received run).codecs) in
    let made_so : recorded_of none_received again ≡ record_of none_received (course_with ends s media (order_items s) (nothing_yet s made)) =
    recorded ∙ (ap (λ (l : List (ℕ × ℕ)). record_of none_received (course_with l s media (order_items s) (nothing_yet s used))) same_ends
    ∙ ap (λ (m : List CoderId). record_of none_received (course_with ends s media (order_items s) (nothing_yet s m))) same_made) in
    let same = law s media made ends run again are_listed fits.follows made_so legal legal_again in
    is ∙ (ap (report_of s) (sym same) ∙ sym is_run)

-- a run that is right is the one that is read
pub right_is_read : LegalRunsAreTold → (s : ScriptData) (media : List (List Chunk)) (made : List CoderId) (bs : List ℕ) (o : Result Run ReportFault)
    → IsTrue (is_sound s) → AreWithin s media made → ((run : Run) → IsTold s media run → bs ≡ report_of s run → Gives o run) → (right : IsRight s media made bs) → Gives o right.run
right_is_read told s media made bs o sound within only right = only right.run (told s media made right.run sound within right.legal right.fits) right.text
