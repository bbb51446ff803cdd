-- How a script is read, from its file and its chunk files.
use Rattle.std.proofs.Common.{◌≡◌, ◌≢◌, ◌<◌, ◌≤◌, inl, inr, ℕ, List, [], ◌∷◌, ◌++◌, length, Bool, true, Option, Some, None, IfSome, Ok, Err, refl, sym, ap, subst, ◌∙◌, arith}
use Rattle.std.specs.Prelude.{IsSomeAnd, MatchOption, nat_lt, if◌then◌else◌}
use Rattle.wc_base.specs.Causes.{RoseBy}
use Rattle.script_types.specs.declared.{fault.Counted.Counted, fault.Fault.Fault, script.ScriptData.ScriptData}
use Rattle.chunk_files.specs.declared.fault.Stop.{Stop}
use Rattle.media_files.specs.Media.{FailedBy, GivesMedia, IsReached, MayFail}
use Rattle.wc_script.specs.{Faults.IsOfScript, Read.script_of}
use Rattle.wcrun.specs.Headline.{Reading, reading, Holding, ComesTo, Comes}
use Rattle.wc_chunk.specs.declared.chunk.Chunk.{Chunk}
use Rattle.run_model.specs.Missing.{missing_in}
use Rattle.wcrun.specs.Outcome.{Outcome, Runs, playable_of, if_spelled, if_there, Becomes, IsOutcome}
use Rattle.wcrun.specs.Stops.{MayStop, MayStopFor}
use Rattle.wcrun.specs.Words.{command, to_run}
use Rattle.wcrun.specs.declared.command.Mode.{Mode}
use Rattle.wcrun.specs.declared.command.Verb.{Verb}
use Rattle.wcrun.proofs.Files.{told_more, there_more, rose_since}

-- the script of the named file, where it can be run so
abbrev pub Spells : Mode → Option Holding → List ℕ → ScriptData → Type 0
Spells mode content name s = IfSome content (λ held. IsSomeAnd (held name) (λ bytes. playable_of mode bytes ≡ Ok s))

comes_to : (mode : Mode) (content : Option Holding) (name : List ℕ) (s : ScriptData) (outcome : Outcome) (P Q : Type 0) → (P → Q) → Spells mode content name s → MatchOption content P (λ held. Becomes held (Ok s) outcome) → MatchOption content Q (λ files. IsSomeAnd (files name) (λ bytes. IsOutcome (command (Verb.Run mode) name) files bytes outcome))
comes_to mode None name s outcome P Q f h g = f g
comes_to mode (Some held) name s outcome P Q f h g = there_more _ _ (held name) (λ bytes e. subst (λ p. Becomes held p outcome) (sym e) g) h

named_in : (mode : Mode) (content : Option Holding) (file name : List ℕ) (s : ScriptData) → Spells mode content file s → IsReached content s name → IfSome content (λ held. IsSomeAnd (held file) (λ bytes. (t : ScriptData) × (playable_of mode bytes ≡ Ok t) × IsReached content t name))
named_in mode content file name s h m = told_more (Unit {0}) (λ held. IsSomeAnd (held file) (λ bytes. playable_of mode bytes ≡ Ok s)) _ content (λ held. there_more _ _ (held file) (λ bytes e. (s, e, m))) h

-- what is known of names after an error, whatever else the answer could have held
pub failed_as : (T : Type 0) (xb xc : List (List ℕ)) (e : Stop Fault) → FailedBy {T = T} xb xc (Err e) → FailedBy {T = Unit {0}} xb xc (Err e)
failed_as T xb xc (Stop.Fault (Fault.Unread n)) h = h
failed_as T xb xc _ h = h

-- why there is no run of a script that can be run so
pub stops : (mode : Mode) (content : Option Holding) (name : List ℕ) (s : ScriptData) (fa fb fc ba bb bc : ℕ) (xa xb xc : List (List ℕ)) (e : Stop Fault) → fa ≤ fb → ba ≤ bb → xb ≡ xa → Spells mode content name s
    → MayStopFor content s fb fc bb bc e → FailedBy {T = Unit {0}} xb xc (Err e) → MayStop (reading (to_run mode name) content fa fc ba bc xa xc) e
stops mode content name s fa fb fc ba bb bc xa xb xc Stop.NoMemory le le' same h g f = tt
stops mode content name s fa fb fc ba bb bc xa xb xc (Stop.Fault (Fault.Unread n)) le le' same h (m, rose) f =
    (inr (inl (mode, (refl, named_in mode content name n s h m))), (rose_since 1 fa fb fc le rose, f ∙ ap (λ (l : List (List ℕ)). l ++ n ∷ []) same))
stops mode content name s fa fb fc ba bb bc xa xb xc (Stop.Fault (Fault.TooMany Counted.Script)) le le' same h g f = elim g [ ]
stops mode content name s fa fb fc ba bb bc xa xb xc (Stop.Fault (Fault.TooMany Counted.File)) le le' same h g f = comes_to mode content name s _ _ _ (rose_since 268435457 ba bb bc le') h g
stops mode content name s fa fb fc ba bb bc xa xb xc (Stop.Fault (Fault.TooMany Counted.Report)) le le' same h g f = elim g [ ]
stops mode content name s fa fb fc ba bb bc xa xb xc (Stop.Fault x) le le' same h g f = comes_to mode content name s _ (Unit {0}) (Unit {0}) (λ u. u) h g

-- ---- the chunk files

becomes : (content : Option Holding) (s : ScriptData) (e : Stop Fault) (P : Type 0) → MatchOption content P (λ files. GivesMedia files s (Err e)) → MatchOption content P (λ files. Becomes files (Ok s) (Err e))
becomes content s e P h = told_more P _ _ content (λ files m. (Err e, m, refl)) h

-- a fault of the chunk files
pub media_stops : (content : Option Holding) (s : ScriptData) (fb fc bb bc : ℕ) (e : Stop Fault) → MayFail content s fb fc bb bc e → MayStopFor content s fb fc bb bc e
media_stops content s fb fc bb bc Stop.NoMemory h = tt
media_stops content s fb fc bb bc (Stop.Fault (Fault.Unread n)) h = h
media_stops content s fb fc bb bc (Stop.Fault (Fault.TooMany Counted.File)) h = becomes content s _ _ h
media_stops content s fb fc bb bc (Stop.Fault (Fault.Chunks n f)) h = becomes content s _ (Unit {0}) h
media_stops content s fb fc bb bc (Stop.Fault (Fault.TooMany Counted.Chunk)) h = becomes content s _ (Unit {0}) h
media_stops content s fb fc bb bc (Stop.Fault (Fault.TooMany Counted.Media)) h = becomes content s _ (Unit {0}) h
media_stops content s fb fc bb bc e h = elim h [ ]

-- each chunk that a step takes is there
pub chunk_files_read : (content : Option Holding) (s : ScriptData) (media : List (List Chunk)) → IfSome content (λ files. GivesMedia files s (Ok media)) → missing_in s media ≡ None → IfSome content (λ files. Becomes files (Ok s) (Ok (Runs (record { script = s; media = media }))))
chunk_files_read content s media h none = told_more _ _ _ content (λ files g. (Ok media, g, ap (if_there s media) (sym none))) h

-- ---- a script that can not be run so

refused_at : (mode : Mode) (held : Holding) (name : List ℕ) (e : Stop Fault) (bytes : List ℕ) (b : Option (List ℕ)) → b ≡ Some bytes → playable_of mode bytes ≡ Err e → IsSomeAnd b (λ bytes. IsOutcome (command (Verb.Run mode) name) held bytes (Err e))
refused_at mode held name e bytes b is q = subst (λ o. IsSomeAnd o (λ bytes. IsOutcome (command (Verb.Run mode) name) held bytes (Err e))) (sym is) (subst (λ p. Becomes held p (Err e)) (sym q) refl)

refused_in : (mode : Mode) (content : Option Holding) (name bytes : List ℕ) (e : Stop Fault) → IfSome content (λ held. held name ≡ Some bytes) → playable_of mode bytes ≡ Err e
    → IfSome content (λ files. IsSomeAnd (files name) (λ bytes. IsOutcome (command (Verb.Run mode) name) files bytes (Err e)))
refused_in mode content name bytes e h q = told_more _ _ _ content (λ held is. refused_at mode held name e bytes (held name) is q) h

by_script : (r : Reading) (x : Fault) → IsOfScript (Stop.Fault x) → ComesTo r (Err (Stop.Fault x)) → Comes r x
by_script r (Fault.Unread n) o h = elim o [ ]
by_script r (Fault.TooMany Counted.Script) o h = elim o [ ]
by_script r (Fault.TooMany Counted.File) o h = elim o [ ]
by_script r (Fault.TooMany Counted.Report) o h = elim o [ ]
by_script r x o h = h

-- a script that was read can not be run so
pub script_stops : (mode : Mode) (content : Option Holding) (name bytes : List ℕ) (fa fc ba bc : ℕ) (xa xc : List (List ℕ)) (e : Stop Fault) → IfSome content (λ held. held name ≡ Some bytes)
    → IsOfScript e → (e ≢ Stop.NoMemory → playable_of mode bytes ≡ Err e) → MayStop (reading (to_run mode name) content fa fc ba bc xa xc) e
script_stops mode content name bytes fa fc ba bc xa xc Stop.NoMemory h o k = tt
script_stops mode content name bytes fa fc ba bc xa xc (Stop.Fault x) h o k =
    by_script (reading (to_run mode name) content fa fc ba bc xa xc) x o (refused_in mode content name bytes (Stop.Fault x) h (k (λ is. absurd cc)))

long : (mode : Mode) (bytes : List ℕ) → 16777216 < length bytes → playable_of mode bytes ≡ Err (Stop.Fault (Fault.TooMany Counted.Script))
long mode bytes lt =
    let many : nat_lt 16777216 (length bytes) ≡ true = search arith in
    ap (λ (b : Bool). if b then Err (Stop.Fault (Fault.TooMany Counted.Script)) else if_spelled mode (script_of bytes)) many

-- a script file that is too long
pub script_is_long : (mode : Mode) (content : Option Holding) (name : List ℕ) (b c : ℕ) → MatchOption content (RoseBy 16777217 b c) (λ files. IsSomeAnd (files name) (λ bytes. 16777216 < length bytes)) → MatchOption content (RoseBy 16777217 b c) (λ files. IsSomeAnd (files name) (λ bytes. IsOutcome (command (Verb.Run mode) name) files bytes (Err (Stop.Fault (Fault.TooMany Counted.Script)))))
script_is_long mode content name b c h =
    let e : Outcome = Err (Stop.Fault (Fault.TooMany Counted.Script)) in
    told_more _ _ _ content (λ held. there_more _ _ (held name) (λ bytes lt. subst (λ p. Becomes held p e) (sym (long mode bytes lt)) refl)) h
