-- The bytes of a script file, and of a media file, come to one outcome.
use Rattle.std.proofs.Common.{◌≡◌, ◌<◌, ◌≤◌, inl, inr, ℕ, Bool, true, false, List, length, Ok, Err, nat_lt, refl, sym, ap, ◌∙◌, arith}
use Rattle.std.proofs.lemmas.Bool.Decides.{nat_tests}
use Rattle.chunk_files.specs.declared.fault.{MediaFault.MediaFault, Stop.Stop}
use Rattle.script_types.specs.{declared.fault.Counted.Counted, declared.fault.Fault.Fault, Limits.most_file}
use Rattle.media_files.specs.Laws.{OneReading, SomeReading}
use Rattle.wc_demux.specs.Media.{IsMediaFile, IsMediaFault, IsMediaRead}
use Rattle.wc_demux.specs.declared.media.MediaFile.{MediaFile}
use Rattle.wcrun.specs.Outcome.{Outcome, Tells, Loads, Playable, playable_of, ready_of, judged_of, Becomes, ComesBy, IsJudged, IsProbed}
use Rattle.wcrun.specs.Headline.{Holding}
use Rattle.wcrun.specs.Laws.{OneOutcome, SomeOutcome}
use Rattle.wcrun.specs.Probe.{media_line, IsMediaLine}
use Rattle.wcrun.specs.declared.command.Mode.{Mode}
use Rattle.wcrun.specs.declared.command.Verb.{Verb}

-- ---- scripts

same_becomes : OneReading → (files : Holding) (p : Playable) (a b : Outcome) → Becomes files p a → Becomes files p b → a ≡ b
same_becomes one files (Ok s) a b (m, h, is) (n, g, js) = is ∙ (ap (ready_of s) (one files s m n h g) ∙ sym js)
same_becomes one files (Err e) a b is js = is ∙ sym js

some_becomes : SomeReading → (files : Holding) (p : Playable) → (outcome : Outcome) × Becomes files p outcome
some_becomes some files (Ok s) = let media = some files s in (ready_of s media.0, (media.0, media.1, refl))
some_becomes some files (Err e) = (Err e, refl)

-- ---- a script and a report

same_judged : OneReading → (files : Holding) (bytes name : List ℕ) (a b : Outcome) → IsJudged files bytes name a → IsJudged files bytes name b → a ≡ b
same_judged one files bytes name a b p q =
    p.judged ∙ (ap (judged_of name (files name)) (same_becomes one files (playable_of Mode.InOrder bytes) p.script q.script p.becomes q.becomes) ∙ sym q.judged)

some_judged : SomeReading → (files : Holding) (bytes name : List ℕ) → (outcome : Outcome) × IsJudged files bytes name outcome
some_judged some files bytes name =
    let o = some_becomes some files (playable_of Mode.InOrder bytes) in
    (judged_of name (files name) o.0, record { script = o.0; becomes = o.1; judged = refl })

-- ---- media files

-- what is known of the bytes of a media file
pub record MediaLaws : Type 0 where
  pub media : (bytes : List ℕ) (one other : MediaFile) → IsMediaFile one bytes → IsMediaFile other bytes → one ≡ other
  pub fault : (bytes : List ℕ) (one other : MediaFault) → IsMediaFault bytes one → IsMediaFault bytes other → one ≡ other
  pub apart : (bytes : List ℕ) (medium : MediaFile) (e : MediaFault) → IsMediaFile medium bytes → IsMediaFault bytes e → ⊥
  pub some : (bytes : List ℕ) → IsMediaRead bytes

one_line : MediaLaws → (bytes a b : List ℕ) → IsMediaLine bytes a → IsMediaLine bytes b → a ≡ b
one_line laws bytes a b p q = p.whole ∙ (ap (λ m. media_line m bytes) (laws.media bytes p.medium q.medium p.file q.file) ∙ sym q.whole)

same_fault : (m n : List ℕ) (e f : MediaFault) → m ≡ n → e ≡ f → ◌≡◌ {A = Outcome} (Err (Stop.Fault (Fault.Chunks m e))) (Err (Stop.Fault (Fault.Chunks n f)))
same_fault m n e f p q = cc

same_probed : MediaLaws → (name bytes : List ℕ) (a b : Outcome) → IsProbed name bytes a → IsProbed name bytes b → a ≡ b
same_probed laws name bytes (Ok (Tells x)) (Ok (Tells y)) p q = ap (λ (t : List ℕ). Ok (Tells t)) (one_line laws bytes x y p q)
same_probed laws name bytes (Ok (Tells x)) (Err (Stop.Fault (Fault.TooMany Counted.File))) p q = absurd (omega (arith, p.short))
same_probed laws name bytes (Ok (Tells x)) (Err (Stop.Fault (Fault.Chunks n e))) p (is, le, h) = absurd (laws.apart bytes p.medium e p.file h)
same_probed laws name bytes (Ok (Tells x)) b p q = elim q [ ]
same_probed laws name bytes (Err (Stop.Fault (Fault.TooMany Counted.File))) (Ok (Tells y)) p q = absurd (omega (arith, q.short))
same_probed laws name bytes (Err (Stop.Fault (Fault.TooMany Counted.File))) (Err (Stop.Fault (Fault.TooMany Counted.File))) p q = refl
same_probed laws name bytes (Err (Stop.Fault (Fault.TooMany Counted.File))) (Err (Stop.Fault (Fault.Chunks n e))) p (is, le, h) = absurd (omega arith)
same_probed laws name bytes (Err (Stop.Fault (Fault.TooMany Counted.File))) b p q = elim q [ ]
same_probed laws name bytes (Err (Stop.Fault (Fault.Chunks m e))) (Ok (Tells y)) (is, le, h) q = absurd (laws.apart bytes q.medium e q.file h)
same_probed laws name bytes (Err (Stop.Fault (Fault.Chunks m e))) (Err (Stop.Fault (Fault.TooMany Counted.File))) (is, le, h) q = absurd (omega arith)
same_probed laws name bytes (Err (Stop.Fault (Fault.Chunks m e))) (Err (Stop.Fault (Fault.Chunks n f))) (is, le, h) (js, le', g) = same_fault m n e f (is ∙ sym js) (laws.fault bytes e f h g)
same_probed laws name bytes (Err (Stop.Fault (Fault.Chunks m e))) b p q = elim q [ ]
same_probed laws name bytes a b p q = elim p [ ]

is_more : (a b : ℕ) → nat_lt a b ≡ true → a < b
is_more a b h = grind (arith, nat_tests)

not_more : (a b : ℕ) → nat_lt a b ≡ false → b ≤ a
not_more a b h = grind (arith, nat_tests)

by_read : (name bytes : List ℕ) → length bytes ≤ most_file → IsMediaRead bytes → (outcome : Outcome) × IsProbed name bytes outcome
by_read name bytes short (inl r) = (Ok (Tells (media_line r.0 bytes)), record { short = short; medium = r.0; file = r.1; whole = refl })
by_read name bytes short (inr r) = (Err (Stop.Fault (Fault.Chunks name r.0)), (refl, short, r.1))

by_length : (name bytes : List ℕ) → IsMediaRead bytes → (b : Bool) → nat_lt most_file (length bytes) ≡ b → (outcome : Outcome) × IsProbed name bytes outcome
by_length name bytes read true h = (Err (Stop.Fault (Fault.TooMany Counted.File)), is_more most_file (length bytes) h)
by_length name bytes read false h = by_read name bytes (not_more most_file (length bytes) h) read

-- ---- both

by_verb : OneReading → MediaLaws → (v : Verb) (name report : List ℕ) (files : Holding) (bytes : List ℕ) (a b : Outcome) → ComesBy v name report files bytes a → ComesBy v name report files bytes b → a ≡ b
by_verb one laws (Verb.Run mode) name report files bytes a b p q = same_becomes one files (playable_of mode bytes) a b p q
by_verb one laws Verb.Probe name report files bytes a b p q = same_probed laws name bytes a b p q
by_verb one laws (Verb.Load load) name report files bytes a b p q = p ∙ sym q
by_verb one laws Verb.Check name report files bytes a b p q = same_judged one files bytes report a b p q

some_by : SomeReading → MediaLaws → (v : Verb) (name report : List ℕ) (files : Holding) (bytes : List ℕ) → (outcome : Outcome) × ComesBy v name report files bytes outcome
some_by some laws (Verb.Run mode) name report files bytes = some_becomes some files (playable_of mode bytes)
some_by some laws Verb.Probe name report files bytes = by_length name bytes (laws.some bytes) (nat_lt most_file (length bytes)) refl
some_by some laws (Verb.Load load) name report files bytes = (Ok Loads, refl)
some_by some laws Verb.Check name report files bytes = some_judged some files bytes report

pub one_outcome : OneReading → MediaLaws → OneOutcome
one_outcome one laws c files bytes a b p q = by_verb one laws c.verb c.file c.report files bytes a b p q

pub some_outcome : SomeReading → MediaLaws → SomeOutcome
some_outcome some laws c files bytes = some_by some laws c.verb c.file c.report files bytes
