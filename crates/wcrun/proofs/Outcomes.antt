-- The bytes of a command's file come to one outcome, and so the status is decided.
use Rattle.std.proofs.Common.{◌≡◌, ◌≢◌, ◌⊎◌, inl, inr, subst, ℕ, zero, suc, List, Option, Some, None, Ok, Err, refl, sym, ap, ◌∙◌, arith}
use Rattle.std.specs.Prelude.{IsSomeAnd}
use Rattle.wc_base.specs.Causes.{Rose}
use Rattle.script_types.specs.declared.{fault.Counted.Counted, fault.Fault.Fault}
use Rattle.chunk_files.specs.declared.fault.Stop.{Stop}
use Rattle.wcrun.specs.Refusals.{status_of, line_of, usage_line, memory_line}
use Rattle.report_check.specs.declared.verdict.Verdict.{Verdict}
use Rattle.media_files.specs.Within.{HoldBytes}
use Rattle.wcrun.specs.Outcome.{Ready, Ending, Runs, Tells, Loads, Judges, Outcome, IsOutcome}
use Rattle.wcrun.specs.Headline.{Reading, Writing, Holding, IfFile, file_in, HoldBytesIn, ComesTo, Comes, Decides, IsComplete, IsStatusFor, IsVerdict, IsEnd}
use Rattle.wcrun.specs.Judged.{IsJudgedAs}
use Rattle.wcrun.specs.Load.{Supply}
use Rattle.wcrun.specs.Laws.{OneOutcome, SomeOutcome}
use Rattle.wcrun.specs.Words.{Command}
use Rattle.wcrun.specs.Writing.{WritesText, WritesLine}
use Rattle.wcrun.proofs.Files.{if_file, of_file}

-- the bytes of the file come to something
some_outcome : SomeOutcome → (r : Reading) → IfFile r (λ c files bytes. (outcome : Outcome) × IsOutcome c files bytes outcome)
some_outcome some r = if_file r _ (λ c files bytes is holds there. some c files bytes)

not_none : (r : Reading) (c : Command) → r.command ≡ None → r.command ≡ Some c → ⊥
not_none r c none is = let e : ◌≡◌ {A = Option Command} None (Some c) = sym none ∙ is in absurd cc

-- a fault that may come is that of a read, or what the file's bytes come to
abbrev Caused : Reading → Fault → Command → Holding → List ℕ → Type 0
Caused r x c files bytes = ((status_of x ≡ 4) × Rose r.faults_before r.faults_after) ⊎ IsOutcome c files bytes (Err (Stop.Fault x))

caused : (r : Reading) (x : Fault) (c : Command) (files : Holding) (bytes : List ℕ) → Comes r x
    → r.command ≡ Some c → r.content ≡ Some files → files c.file ≡ Some bytes → Caused r x c files bytes
caused r (Fault.Unread n) c files bytes (named, failed) is holds there = inl (refl, failed.0)
caused r (Fault.TooMany Counted.Script) c files bytes h is holds there = inr (of_file r _ _ c files bytes h is holds there)
caused r (Fault.TooMany Counted.Report) c files bytes h is holds there = inr (of_file r _ _ c files bytes h.1 is holds there)
caused r x c files bytes h is holds there = inr (of_file r _ _ c files bytes h is holds there)

zero_of : (n : ℕ) → (n ≢ 0 → n ≢ 6 → n ≡ 5) → n ≢ 5 → n ≢ 6 → n ≡ 0
zero_of zero only n5 n6 = refl
zero_of (suc n) only n5 n6 = absurd (n5 (only (λ e. omega arith) n6))

-- what comes to something has a command
no_usage : (P : Command → Type 0) (command : Option Command) → IsSomeAnd command P → command ≡ None → ⊥
no_usage P None h none = h
no_usage P (Some c) h none = absurd cc

-- ---- what a command writes

-- all but a verdict
abbrev pub IsPlain : Ending → Type 0
IsPlain (Judges ready report) = ⊥
IsPlain ending = Unit {0}

plain_status : (supply : Supply) (files : Holding) (ending : Ending) (n : ℕ) → IsPlain ending → n ≡ 0 → IsStatusFor supply files (Ok ending) n
plain_status supply files (Runs ready) n plain is = is
plain_status supply files (Tells text) n plain is = is
plain_status supply files Loads n plain is = is
plain_status supply files (Judges ready report) n plain is = absurd plain

pub end_zero : (ending : Ending) (n : ℕ) → n ≡ 0 → IsEnd ending n
end_zero (Runs ready) n is = is
end_zero (Tells text) n is = is
end_zero Loads n is = is
end_zero (Judges ready report) n is = inl is

pub decides_whole : OneOutcome → SomeOutcome → (r : Reading) (supply : Supply) (w : Writing) (ending : Ending) (text : List ℕ) → IsPlain ending → ComesTo r (Ok ending) → WritesText text w → Decides r supply w
decides_whole one some r supply w ending text plain k p = record {
  words = λ none n5 n6. absurd (no_usage _ r.command k none);
  file = if_file r _ (λ c files bytes is holds there outcome h n4 n5 n6.
      subst (λ (o : Outcome). IsStatusFor supply files o w.answer) (sym (one c files bytes outcome (Ok ending) h (of_file r _ _ c files bytes k is holds there)))
      (plain_status supply files ending w.answer plain (zero_of w.answer p.only n5 n6)));
  some = some_outcome some r;
}

pub complete_whole : (r : Reading) (w : Writing) (text : List ℕ) → WritesText text w → IsComplete r w
complete_whole r w text p = if_file r _ (λ c files bytes is holds there ending h reads writes n6. end_zero ending w.answer (zero_of w.answer p.only (λ e. writes (p.failed e)) n6))

-- ---- a verdict

-- the status of this verdict
abbrev pub IsVerdictStatus : Verdict → ℕ → Type 0
IsVerdictStatus Verdict.Right n = n ≡ 0
IsVerdictStatus (Verdict.Wrong line) n = n ≡ 1

verdict_status : (supply : Supply) (r : Reading) (files : Holding) (v : Verdict) (n : ℕ) (j : IsJudgedAs r supply.coders v) → r.content ≡ Some files → IsVerdictStatus v n → IsVerdict supply files j.ready j.report n
verdict_status supply r files Verdict.Right n j holds is = record { right = λ e. j.right refl; only = λ bytes right. is; wrong = λ e. absurd (e is) }
verdict_status supply r files (Verdict.Wrong line) n j holds is = record {
  right = λ e. absurd (omega (arith, e, is));
  only = λ bytes right. absurd (is_wrong line (j.only (subst (λ (o : Option Holding). IsSomeAnd o HoldBytes) (sym holds) bytes) right));
  wrong = λ e. is;
}
  where
    is_wrong : (line : ℕ) → Verdict.Wrong line ≡ Verdict.Right → ⊥
    is_wrong line e = cc

zero_or_one : (v : Verdict) (n : ℕ) → IsVerdictStatus v n → (n ≡ 0) ⊎ (n ≡ 1)
zero_or_one Verdict.Right n is = inl is
zero_or_one (Verdict.Wrong line) n is = inr is

pub decides_verdict : OneOutcome → SomeOutcome → (r : Reading) (supply : Supply) (w : Writing) (v : Verdict) → IsJudgedAs r supply.coders v → (w.answer ≢ 5 → w.answer ≢ 6 → IsVerdictStatus v w.answer) → Decides r supply w
decides_verdict one some r supply w v j ends = record {
  words = λ none n5 n6. absurd (no_usage _ r.command j.asked.held none);
  file = if_file r _ (λ c files bytes is holds there outcome h n4 n5 n6.
      subst (λ (o : Outcome). IsStatusFor supply files o w.answer) (sym (one c files bytes outcome (Ok (Judges j.ready j.report)) h (of_file r _ _ c files bytes j.asked.held is holds there)))
      (verdict_status supply r files v w.answer j holds (ends n5 n6)));
  some = some_outcome some r;
}

end_of : (ending : Ending) (ready : Ready) (report : List ℕ) (n : ℕ) → ending ≡ Judges ready report → (n ≡ 0) ⊎ (n ≡ 1) → IsEnd ending n
end_of ending ready report n is either = subst (λ (e : Ending). IsEnd e n) (sym is) either

same_ending : (a b : Ending) → ◌≡◌ {A = Outcome} (Ok a) (Ok b) → a ≡ b
same_ending a b is = cc

pub complete_verdict : OneOutcome → (r : Reading) (supply : Supply) (w : Writing) (v : Verdict) → IsJudgedAs r supply.coders v → (w.answer ≢ 5 → w.answer ≢ 6 → IsVerdictStatus v w.answer) → (w.answer ≡ 5 → Rose w.faults_before w.faults_after) → IsComplete r w
complete_verdict one r supply w v j ends failed = if_file r _ (λ c files bytes is holds there ending h reads writes n6.
    end_of ending j.ready j.report w.answer
    (same_ending ending (Judges j.ready j.report) (one c files bytes (Ok ending) (Ok (Judges j.ready j.report)) h (of_file r _ _ c files bytes j.asked.held is holds there)))
    (zero_or_one v w.answer (ends (λ five. writes (failed five)) n6)))

-- ---- a fault

decided : (r : Reading) (supply : Supply) (w : Writing) (x : Fault) (one : OneOutcome) (c : Command) (files : Holding) (bytes : List ℕ) (outcome : Outcome) → IsOutcome c files bytes outcome
    → Caused r x c files bytes → w.answer ≡ status_of x → w.answer ≢ 4 → IsStatusFor supply files outcome w.answer
decided r supply w x one c files bytes outcome h (inl k) is n4 = absurd (n4 (is ∙ k.0))
decided r supply w x one c files bytes outcome h (inr k) is n4 =
    subst (λ (o : Outcome). IsStatusFor supply files o w.answer) (sym (one c files bytes outcome (Err (Stop.Fault x)) h k)) is

not_file : (command : Option Command) (name : List ℕ) → file_in command ≡ Some name → command ≡ None → ⊥
not_file None name is none = absurd cc
not_file (Some c) name is none = absurd cc

has_command : (r : Reading) (x : Fault) → Comes r x → r.command ≡ None → ⊥
has_command r (Fault.Unread n) (inl c, rose) none = not_file r.command n c none
has_command r (Fault.Unread n) (inr (inl c), rose) none = no_usage _ r.command c.1.1 none
has_command r (Fault.Unread n) (inr (inr c), rose) none = no_usage _ r.command c.1 none
has_command r (Fault.TooMany Counted.Script) c none = no_usage _ r.command c none
has_command r (Fault.TooMany Counted.Report) c none = no_usage _ r.command c.1 none
has_command r x c none = no_usage _ r.command c none

pub decides_fault : OneOutcome → SomeOutcome → (r : Reading) (supply : Supply) (w : Writing) (x : Fault) → Comes r x → WritesLine (status_of x) (line_of x) w → Decides r supply w
decides_fault one some r supply w x k p = record {
  words = λ none n5 n6. absurd (has_command r x k none);
  file = if_file r _ (λ c files bytes is holds there outcome h n4 n5 n6.
      decided r supply w x one c files bytes outcome h (caused r x c files bytes k is holds there) (p.done n5 n6) n4);
  some = some_outcome some r;
}

not_faulty : (r : Reading) (x : Fault) (one : OneOutcome) (c : Command) (files : Holding) (bytes : List ℕ) (ending : Ending) → IsOutcome c files bytes (Ok ending)
    → Caused r x c files bytes → (Rose r.faults_before r.faults_after → ⊥) → ⊥
not_faulty r x one c files bytes ending h (inl k) none = none k.1
not_faulty r x one c files bytes ending h (inr k) none = let is = one c files bytes (Ok ending) (Err (Stop.Fault x)) h k in absurd cc

pub complete_fault : OneOutcome → (r : Reading) (w : Writing) (x : Fault) → Comes r x → IsComplete r w
complete_fault one r w x k = if_file r _ (λ c files bytes is holds there ending h reads writes n6.
    absurd (not_faulty r x one c files bytes ending h (caused r x c files bytes k is holds there) reads))

-- ---- no command

pub decides_usage : (r : Reading) (supply : Supply) (w : Writing) → r.command ≡ None → WritesLine 2 usage_line w → Decides r supply w
decides_usage r supply w none p = record {
  words = λ no_word n5 n6. p.done n5 n6;
  file = if_file r _ (λ c files bytes is holds there outcome h n4 n5 n6. absurd (not_none r c none is));
  some = if_file r _ (λ c files bytes is holds there. absurd (not_none r c none is));
}

pub complete_usage : (r : Reading) (w : Writing) → r.command ≡ None → IsComplete r w
complete_usage r w none = if_file r _ (λ c files bytes is holds there ending h reads writes n6. absurd (not_none r c none is))

-- ---- want of memory

no_answer : (w : Writing) → WritesLine 6 memory_line w → w.answer ≢ 5 → w.answer ≢ 6 → ⊥
no_answer w p n5 n6 = n6 (p.done n5 n6)

pub decides_memory : SomeOutcome → (r : Reading) (supply : Supply) (w : Writing) → WritesLine 6 memory_line w → Decides r supply w
decides_memory some r supply w p = record {
  words = λ none n5 n6. absurd (no_answer w p n5 n6);
  file = if_file r _ (λ c files bytes is holds there outcome h n4 n5 n6. absurd (no_answer w p n5 n6));
  some = some_outcome some r;
}

pub complete_memory : (r : Reading) (w : Writing) → WritesLine 6 memory_line w → IsComplete r w
complete_memory r w p = if_file r _ (λ c files bytes is holds there ending h reads writes n6. absurd (no_answer w p (λ e. writes (p.failed e)) n6))
