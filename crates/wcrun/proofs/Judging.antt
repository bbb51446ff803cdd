-- How a script and a report are read, to be judged.
use Rattle.std.proofs.Common.{◌≡◌, ◌≢◌, ◌<◌, ◌≤◌, ◌^◌, inl, inr, ℕ, List, [], ◌∷◌, ◌++◌, length, Bool, true, false, Option, Some, None, IfSome, Result, Ok, Err, refl, sym, ap, subst, ◌∙◌, arith}
use Rattle.std.specs.Prelude.{IsSomeAnd, MatchOption, nat_lt, if◌then◌else◌}
use Rattle.std.proofs.lemmas.Bool.Decides.{nat_tests}
use Rattle.wc_base.specs.Causes.{Rose, RoseBy}
use Rattle.wc_chunk.specs.declared.chunk.Chunk.{Chunk}
use Rattle.wc_config.specs.declared.codec.CoderId.{CoderId}
use Rattle.chunk_files.specs.declared.fault.Stop.{Stop}
use Rattle.script_types.specs.{declared.fault.Counted.Counted, declared.fault.Fault.Fault, declared.fault.Place.Place, declared.script.ScriptData.ScriptData, declared.script.OrderItem.OrderItem, Limits.most_report}
use Rattle.media_files.specs.{Media.Answers, Media.GivesMedia, Within.HoldBytes}
use Rattle.wc_script.specs.Read.{script_of}
use Rattle.bytes_laws.specs.Runs.{SpelledIsWithin}
use Rattle.run_model.specs.Missing.{missing_in}
use Rattle.run_ranges.specs.Ranges.{AreWithin}
use Rattle.report_check.specs.Verdict.{IsRight, IsLineAtFault, IfWrong}
use Rattle.report_check.specs.declared.verdict.Verdict.{Verdict}
use Rattle.wcrun.specs.Headline.{Reading, Writing, reading, Holding, HoldBytesIn, ComesTo, Comes, IsAsked, Headline, Decides, IsComplete}
use Rattle.wcrun.specs.Judged.{IsJudgedAs}
use Rattle.wcrun.specs.Outcome.{Ready, Runs, Judges, Outcome, Playable, playable_of, if_playable, if_spelled, if_there, ready_of, judged_of, judged_by, Becomes, IsJudged, IsOutcome}
use Rattle.wcrun.specs.Stops.{MayStop, MayStopReport}
use Rattle.wcrun.specs.Words.{to_run, to_check}
use Rattle.wcrun.specs.Writing.{WritesText, WritesLine}
use Rattle.wcrun.specs.Load.{Supply}
use Rattle.wcrun.specs.Refusals.{right_line, wrong_line}
use Rattle.wcrun.specs.Laws.{OneOutcome, SomeOutcome}
use Rattle.wcrun.specs.declared.command.Mode.{Mode}
use Rattle.wcrun.specs.declared.command.Verb.{Verb}
use Rattle.wcrun.proofs.Files.{told_more, there_more, rose_since}
use Rattle.wcrun.proofs.Headlines.{headline_of_whole, headline_of_wrong}
use Rattle.wcrun.proofs.Loads.{ends_whole}
use Rattle.wcrun.proofs.Outcomes.{IsVerdictStatus, decides_verdict, complete_verdict}

-- what a script comes to that is replayed, it comes to as well where a report of it is judged, unless it is run
judged_fault : (files : Holding) (bytes report : List ℕ) (e : Stop Fault) → Becomes files (playable_of Mode.InOrder bytes) (Err e) → IsJudged files bytes report (Err e)
judged_fault files bytes report e h = record { script = Err e; becomes = h; judged = refl }

fault_comes : (content : Option Holding) (name report : List ℕ) (e : Stop Fault) (P : Type 0)
    → MatchOption content P (λ files. IsSomeAnd (files name) (λ bytes. Becomes files (playable_of Mode.InOrder bytes) (Err e)))
    → MatchOption content P (λ files. IsSomeAnd (files name) (λ bytes. IsJudged files bytes report (Err e)))
fault_comes content name report e P h = told_more P _ _ content (λ files. there_more _ _ (files name) (λ bytes b. judged_fault files bytes report e b)) h

-- a fault of a script that is replayed comes as well where a report of it is judged
as_judged : (content : Option Holding) (name report : List ℕ) (fa fc ba bc : ℕ) (xa xc : List (List ℕ)) (x : Fault) → Comes (reading (to_run Mode.InOrder name) content fa fc ba bc xa xc) x → Comes (reading (to_check name report) content fa fc ba bc xa xc) x
as_judged content name report fa fc ba bc xa xc (Fault.Unread n) (inl h, failed) = (inl h, failed)
as_judged content name report fa fc ba bc xa xc (Fault.Unread n) (inr (inl h), failed) = (inr (inl h), failed)
as_judged content name report fa fc ba bc xa xc (Fault.Unread n) (inr (inr h), failed) = absurd (is_run h.0)
  where
    is_run : ◌≡◌ {A = Option Verb} (Some (Verb.Run Mode.InOrder)) (Some Verb.Check) → ⊥
    is_run e = cc
as_judged content name report fa fc ba bc xa xc (Fault.TooMany Counted.Script) h = fault_comes content name report (Stop.Fault (Fault.TooMany Counted.Script)) _ h
as_judged content name report fa fc ba bc xa xc (Fault.TooMany Counted.File) h = fault_comes content name report (Stop.Fault (Fault.TooMany Counted.File)) _ h
as_judged content name report fa fc ba bc xa xc (Fault.TooMany Counted.Report) h = absurd (is_run h.0)
  where
    is_run : ◌≡◌ {A = Option Verb} (Some (Verb.Run Mode.InOrder)) (Some Verb.Check) → ⊥
    is_run e = cc
as_judged content name report fa fc ba bc xa xc x h = fault_comes content name report (Stop.Fault x) (Unit {0}) h

pub script_fails : (content : Option Holding) (name report : List ℕ) (fa fc ba bc : ℕ) (xa xc : List (List ℕ)) (e : Stop Fault) → MayStop (reading (to_run Mode.InOrder name) content fa fc ba bc xa xc) e → MayStop (reading (to_check name report) content fa fc ba bc xa xc) e
script_fails content name report fa fc ba bc xa xc (Stop.Fault x) h = as_judged content name report fa fc ba bc xa xc x h
script_fails content name report fa fc ba bc xa xc Stop.NoMemory h = tt

-- ---- a script that can be replayed, with its chunks

-- the script in the file of this name can be replayed, and these are its chunks
abbrev pub IsReady : Option Holding → List ℕ → Ready → Type 0
IsReady content name ready = IfSome content (λ files. IsSomeAnd (files name) (λ bytes. Becomes files (playable_of Mode.InOrder bytes) (Ok (Runs ready))))

-- the report was not read
pub report_fails : (content : Option Holding) (name report : List ℕ) (ready : Ready) (fa fb fc ba bb bc : ℕ) (xa xb xc : List (List ℕ)) (e : Stop Fault) → fa ≤ fb → ba ≤ bb → xb ≡ xa → IsReady content name ready
    → MayStopReport content report fb fc bb bc xb xc e → MayStop (reading (to_check name report) content fa fc ba bc xa xc) e
report_fails content name report ready fa fb fc ba bb bc xa xb xc Stop.NoMemory le le' same h k = tt
report_fails content name report ready fa fb fc ba bb bc xa xb xc (Stop.Fault (Fault.Unread n)) le le' same h (is, (rose, failed)) =
    (inr (inr (refl, told_more (Unit {0}) _ _ content (λ files. there_more _ _ (files name) (λ bytes b. (sym is, (ready, b)))) h)), (rose_since 1 fa fb fc le rose, failed ∙ ap (λ (l : List (List ℕ)). l ++ n ∷ []) same))
report_fails content name report ready fa fb fc ba bb bc xa xb xc (Stop.Fault (Fault.TooMany Counted.Report)) le le' same h k = (refl, long content h k)
  where
    long_report : (files : Holding) (bytes : List ℕ) (b : Option (List ℕ)) → files report ≡ b → Becomes files (playable_of Mode.InOrder bytes) (Ok (Runs ready)) → IsSomeAnd b (λ rb. most_report < length rb)
        → IsJudged files bytes report (Err (Stop.Fault (Fault.TooMany Counted.Report)))
    long_report files bytes None is becomes lt = absurd lt
    long_report files bytes (Some rb) is becomes lt =
        let many : nat_lt most_report (length rb) ≡ true = grind (arith, nat_tests) in
        record {
          script = Ok (Runs ready);
          becomes = becomes;
          judged = sym (ap (λ (o : Option (List ℕ)). judged_by report o ready) is ∙ ap (λ (t : Bool). if t then Err (Stop.Fault (Fault.TooMany Counted.Report)) else Ok (Judges ready rb)) many);
        }

    long : (content : Option Holding) → IsReady content name ready → MatchOption content (RoseBy 268435457 bb bc) (λ files. IsSomeAnd (files report) (λ bytes. most_report < length bytes))
        → MatchOption content (RoseBy 268435457 ba bc) (λ files. IsSomeAnd (files name) (λ bytes. IsJudged files bytes report (Err (Stop.Fault (Fault.TooMany Counted.Report)))))
    long None h k = rose_since 268435457 ba bb bc le' k
    long (Some files) h k = there_more _ _ (files name) (λ bytes becomes. long_report files bytes (files report) refl becomes k) h
report_fails content name report ready fa fb fc ba bb bc xa xb xc e le le' same h k = elim k [ ]

-- the report was read
pub report_comes : (content : Option Holding) (name report bytes : List ℕ) (ready : Ready) (fa fc ba bc : ℕ) (xa xc : List (List ℕ)) → IsReady content name ready → IfSome content (λ held. held report ≡ Some bytes) → length bytes ≤ most_report
    → ComesTo (reading (to_check name report) content fa fc ba bc xa xc) (Ok (Judges ready bytes))
report_comes None name report bytes ready fa fc ba bc xa xc h held short = tt
report_comes (Some files) name report bytes ready fa fc ba bc xa xc h held short =
    let few : nat_lt most_report (length bytes) ≡ false = grind (arith, nat_tests) in
    there_more _ _ (files name) (λ script becomes. record {
      script = Ok (Runs ready);
      becomes = becomes;
      judged = sym (ap (λ (o : Option (List ℕ)). judged_by report o ready) held ∙ ap (λ (t : Bool). if t then Err (Stop.Fault (Fault.TooMany Counted.Report)) else Ok (Judges ready bytes)) few);
    }) h

-- ---- what is within its types

same_ready : (a b : Ready) → ◌≡◌ {A = Outcome} (Ok (Runs a)) (Ok (Runs b)) → a ≡ b
same_ready a b is = cc

given_there : (files : Holding) (s : ScriptData) (media : List (List Chunk)) (ready : Ready) (o : Option (ℕ × Place)) → Ok (Runs ready) ≡ if_there s media o → ready ≡ record { script = s; media = media }
given_there files s media ready None is = same_ready ready _ is
given_there files s media ready (Some lack) is = cc

given : (files : Holding) (s : ScriptData) (answers : Answers) (ready : Ready) → GivesMedia files s answers → Ok (Runs ready) ≡ ready_of s answers → GivesMedia files ready.script (Ok ready.media) × (ready.script ≡ s)
given files s (Ok media) ready gives is =
    let e : ready ≡ record { script = s; media = media } = given_there files s media ready (missing_in s media) is in
    (subst (λ (r : Ready). GivesMedia files r.script (Ok r.media)) (sym e) gives, ap (λ (r : Ready). r.script) e)
given files s (Err e) ready gives is = cc

played : (s t : ScriptData) (order : Option (List OrderItem)) → if_playable Mode.InOrder order t ≡ Ok s → t ≡ s
played s t None is = cc
played s t (Some items) is = cc

spelled : (s : ScriptData) (p : Playable) → if_spelled Mode.InOrder p ≡ Ok s → p ≡ Ok s
spelled s (Ok t) is = ap (λ (x : ScriptData). Ok x) (played s t t.order is)
spelled s (Err e) is = cc

read_as : (s : ScriptData) (bytes : List ℕ) (many : Bool) → (if many then Err (Stop.Fault (Fault.TooMany Counted.Script)) else if_spelled Mode.InOrder (script_of bytes)) ≡ Ok s → script_of bytes ≡ Ok s
read_as s bytes true is = cc
read_as s bytes false is = spelled s (script_of bytes) is

ready_within : SpelledIsWithin → (files : Holding) (bytes : List ℕ) (p : Playable) (ready : Ready) (made : List CoderId) → HoldBytes files → playable_of Mode.InOrder bytes ≡ p → Becomes files p (Ok (Runs ready)) → length made < 2 ^ 64 → AreWithin ready.script ready.media made
ready_within law files bytes (Ok s) ready made hold is (answers, gives, same) few =
    let g = given files s answers ready gives same in
    law files bytes ready.script ready.media made (record { hold = hold; reads = read_as s bytes (nat_lt 16777216 (length bytes)) is ∙ ap (λ (x : ScriptData). Ok x) (sym g.1); gives = g.0 }) few
ready_within law files bytes (Err e) ready made hold is same few = cc

pub within : SpelledIsWithin → (content : Option Holding) (name : List ℕ) (ready : Ready) (made : List CoderId) → IsSomeAnd content HoldBytes → IsReady content name ready → length made < 2 ^ 64 → AreWithin ready.script ready.media made
within law None name ready made hold h few = absurd hold
within law (Some files) name ready made hold h few = in_file (files name) h
  where
    in_file : (b : Option (List ℕ)) → IsSomeAnd b (λ bytes. Becomes files (playable_of Mode.InOrder bytes) (Ok (Runs ready))) → AreWithin ready.script ready.media made
    in_file None there = absurd there
    in_file (Some bytes) there = ready_within law files bytes (playable_of Mode.InOrder bytes) ready made hold refl there few

-- the verdict on a report that was read
pub judged : SpelledIsWithin → (content : Option Holding) (name report bytes : List ℕ) (ready : Ready) (made : List CoderId) (v : Verdict) (fa fc ba bc : ℕ) (xa xc : List (List ℕ)) → IsReady content name ready
    → IfSome content (λ held. held report ≡ Some bytes) → length bytes ≤ most_report → length made < 2 ^ 64 → (v ≡ Verdict.Right → IsRight ready.script ready.media made bytes)
    → (AreWithin ready.script ready.media made → IsRight ready.script ready.media made bytes → v ≡ Verdict.Right) → IfWrong v (IsLineAtFault ready.script ready.media made bytes)
    → IsJudgedAs (reading (to_check name report) content fa fc ba bc xa xc) made v
judged law content name report bytes ready made v fa fc ba bc xa xc h held short few right only line = record {
  ready = ready;
  report = bytes;
  asked = record { asked = refl; held = report_comes content name report bytes ready fa fc ba bc xa xc h held short };
  right = right;
  only = λ hold is. only (within law content name ready made hold h few) is;
  line = line;
}

-- ---- what is written of a verdict

pub headline_of_right : (r : Reading) (supply : Supply) (w : Writing) (v : Verdict) → v ≡ Verdict.Right → IsJudgedAs r supply.coders v → WritesText right_line w → Headline r supply w
headline_of_right r supply w v is j p = headline_of_whole r supply w right_line (inr (inr (inr (record { ready = j.ready; report = j.report; asked = j.asked; right = j.right is; whole = refl })))) p

not_right : (line : ℕ) → Verdict.Wrong line ≡ Verdict.Right → ⊥
not_right line e = cc

pub headline_of_fault_in : (r : Reading) (supply : Supply) (w : Writing) (v : Verdict) (line : ℕ) → v ≡ Verdict.Wrong line → IsJudgedAs r supply.coders v → WritesLine 1 (wrong_line line) w → Headline r supply w
headline_of_fault_in r supply w v line is j p =
    headline_of_wrong r supply w (wrong_line line)
    (record {
      ready = j.ready;
      report = j.report;
      asked = j.asked;
      line = line;
      at_fault = subst (λ (x : Verdict). IfWrong x (IsLineAtFault j.ready.script j.ready.media supply.coders j.report)) is j.line;
      wrong = λ hold right. not_right line (sym is ∙ j.only hold right);
      is_status = refl;
      whole = refl;
    }) p

ends_right : (w : Writing) (v : Verdict) → v ≡ Verdict.Right → WritesText right_line w → w.answer ≢ 5 → w.answer ≢ 6 → IsVerdictStatus v w.answer
ends_right w v is p n5 n6 = subst (λ (x : Verdict). IsVerdictStatus x w.answer) (sym is) (ends_whole right_line w p n5 n6)

ends_wrong : (w : Writing) (v : Verdict) (line : ℕ) → v ≡ Verdict.Wrong line → WritesLine 1 (wrong_line line) w → w.answer ≢ 5 → w.answer ≢ 6 → IsVerdictStatus v w.answer
ends_wrong w v line is p n5 n6 = subst (λ (x : Verdict). IsVerdictStatus x w.answer) (sym is) (p.done n5 n6)

pub decides_right : OneOutcome → SomeOutcome → (r : Reading) (supply : Supply) (w : Writing) (v : Verdict) → v ≡ Verdict.Right → IsJudgedAs r supply.coders v → WritesText right_line w → Decides r supply w
decides_right one some r supply w v is j p = decides_verdict one some r supply w v j (ends_right w v is p)

pub decides_wrong : OneOutcome → SomeOutcome → (r : Reading) (supply : Supply) (w : Writing) (v : Verdict) (line : ℕ) → v ≡ Verdict.Wrong line → IsJudgedAs r supply.coders v → WritesLine 1 (wrong_line line) w → Decides r supply w
decides_wrong one some r supply w v line is j p = decides_verdict one some r supply w v j (ends_wrong w v line is p)

pub complete_right : OneOutcome → (r : Reading) (supply : Supply) (w : Writing) (v : Verdict) → v ≡ Verdict.Right → IsJudgedAs r supply.coders v → WritesText right_line w → IsComplete r w
complete_right one r supply w v is j p = complete_verdict one r supply w v j (ends_right w v is p) p.failed

pub complete_wrong : OneOutcome → (r : Reading) (supply : Supply) (w : Writing) (v : Verdict) (line : ℕ) → v ≡ Verdict.Wrong line → IsJudgedAs r supply.coders v → WritesLine 1 (wrong_line line) w → IsComplete r w
complete_wrong one r supply w v line is j p = complete_verdict one r supply w v j (ends_wrong w v line is p) p.failed
