-- How a media file is read.
use Rattle.std.proofs.Common.{◌≡◌, ◌<◌, ◌≤◌, ℕ, List, length, Option, Some, IfSome, Ok, Err, refl, sym, subst}
use Rattle.std.specs.Prelude.{IsSomeAnd, MatchOption}
use Rattle.wc_base.specs.Causes.{RoseBy}
use Rattle.script_types.specs.{declared.fault.Counted.Counted, declared.fault.Fault.Fault, Limits.most_file}
use Rattle.chunk_files.specs.declared.fault.Stop.{Stop}
use Rattle.wcrun.specs.Headline.{reading, Holding, ComesTo, IsProbe}
use Rattle.wcrun.specs.Outcome.{Tells, IsOutcome, IsProbed}
use Rattle.wcrun.specs.Probe.{IsMediaLine}
use Rattle.wcrun.specs.Stops.{MayStop, MayStopProbe}
use Rattle.wcrun.specs.Words.{command, to_probe}
use Rattle.wcrun.specs.declared.command.Verb.{Verb}
use Rattle.wcrun.proofs.Files.{told_more, there_more}

-- the file of this name is there, with these bytes
held_at : (bytes : List ℕ) (o : Option (List ℕ)) → o ≡ Some bytes → IsSomeAnd o (λ content. content ≡ bytes)
held_at bytes o is = subst (λ x. IsSomeAnd x (λ content. content ≡ bytes)) (sym is) refl

held_in : (content : Option Holding) (name bytes : List ℕ) → IfSome content (λ held. held name ≡ Some bytes) → IfSome content (λ files. IsSomeAnd (files name) (λ content. content ≡ bytes))
held_in content name bytes h = told_more _ _ _ content (λ held is. held_at bytes (held name) is) h

-- a line was made of the file's bytes
pub probed_line : (content : Option Holding) (name bytes text : List ℕ) (fa fc ba bc : ℕ) (xa xc : List (List ℕ)) → IfSome content (λ held. held name ≡ Some bytes) → IsMediaLine bytes text
    → IsProbe (reading (to_probe name) content fa fc ba bc xa xc) text
probed_line content name bytes text fa fc ba bc xa xc h line = record { asked = refl; bytes = bytes; held = held_in content name bytes h; line = line }

-- and so the file comes to it
pub probe_comes : (content : Option Holding) (name text : List ℕ) (fa fc ba bc : ℕ) (xa xc : List (List ℕ)) → IsProbe (reading (to_probe name) content fa fc ba bc xa xc) text
    → ComesTo (reading (to_probe name) content fa fc ba bc xa xc) (Ok (Tells text))
probe_comes content name text fa fc ba bc xa xc k =
    told_more _ _ _ content (λ files. there_more _ _ (files name) (λ bytes is. subst (λ (b : List ℕ). IsMediaLine b text) (sym is) k.line)) k.held

-- the bytes of a file that was read are no media file
pub probe_stops : (content : Option Holding) (name bytes : List ℕ) (fa fc ba bc : ℕ) (xa xc : List (List ℕ)) (e : Stop Fault) → IfSome content (λ held. held name ≡ Some bytes) → length bytes ≤ most_file
    → MayStopProbe name bytes e → MayStop (reading (to_probe name) content fa fc ba bc xa xc) e
probe_stops content name bytes fa fc ba bc xa xc Stop.NoMemory h short k = tt
probe_stops content name bytes fa fc ba bc xa xc (Stop.Fault (Fault.Chunks n e)) h short k =
    told_more _ _ _ content
    (λ files. there_more _ _ (files name) (λ content is. subst (λ (b : List ℕ). IsProbed name b (Err (Stop.Fault (Fault.Chunks n e)))) (sym is) (k.0, short, k.1)))
    (held_in content name bytes h)
probe_stops content name bytes fa fc ba bc xa xc e h short k = elim k [ ]

-- a media file that is too long
pub media_is_long : (content : Option Holding) (name : List ℕ) (b c : ℕ) → MatchOption content (RoseBy 268435457 b c) (λ files. IsSomeAnd (files name) (λ bytes. 268435456 < length bytes)) → MatchOption content (RoseBy 268435457 b c) (λ files. IsSomeAnd (files name) (λ bytes. IsOutcome (command Verb.Probe name) files bytes (Err (Stop.Fault (Fault.TooMany Counted.File)))))
media_is_long content name b c h = h
