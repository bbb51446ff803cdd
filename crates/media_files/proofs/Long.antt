-- A file that is too long.
use Rattle.std.proofs.Common.{ℕ, ◌<◌, List, length, Option, Some, None, Err}
use Rattle.std.specs.Prelude.{MatchOption, IsSomeAnd}
use Rattle.wc_base.specs.Causes.{RoseBy}
use Rattle.script_types.specs.declared.fault.{Counted.Counted, Fault.Fault}
use Rattle.chunk_files.specs.declared.fault.Stop.{Stop}
use Rattle.media_files.specs.Media.{Answer, FileGives}

abbrev pub long_file : Answer
long_file = Err (Stop.Fault (Fault.TooMany Counted.File))

long_bytes : (room : ℕ) (name : List ℕ) (bytes : Option (List ℕ)) → IsSomeAnd bytes (λ b. 268435456 < length b)
    → FileGives room name bytes long_file
long_bytes room name None h = elim h [ ]
long_bytes room name (Some bytes) h = h

pub too_long : (content : Option (List ℕ → Option (List ℕ))) (room : ℕ) (name : List ℕ) (a b : ℕ)
    → MatchOption content (RoseBy 268435457 a b) (λ files. IsSomeAnd (files name) (λ bytes. 268435456 < length bytes))
    → MatchOption content (RoseBy 268435457 a b) (λ files. FileGives room name (files name) long_file)
too_long None room name a b h = h
too_long (Some files) room name a b h = long_bytes room name (files name) h
