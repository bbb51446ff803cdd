-- Files in memory, and what a read of them answers and leaves.
use Rattle.std.specs.Prelude.{ℕ, nat_lt, nat_eq, List, [], ◌∷◌, length, Option, Some, None, Result, Ok, Err, if◌then◌else◌, string_bytes, String, Vec}
use Rattle.std.specs.List.{list_any}
use Rattle.std.specs.Cmp.Lexicographic.{pointwise}
use Rattle.std.specs.declared.alloc.Global.{Global}
use Rattle.wc_base.specs.declared.files.FileFault.{FileFault}
use Rattle.wc_base.specs.declared.files.FileFault.TheVariants.{Failed, TooLong}
use Rattle.wc_base.specs.Up.{up}

-- a name and its bytes, as they are handed in, and as lists
abbrev pub File : Type 0
File = String Global × Vec ℕ Global

abbrev pub plain : File → List ℕ × List ℕ
plain file = (string_bytes file.0, file.1.items)

-- the bytes under a name, by the first file that has it
abbrev pub found : List (List ℕ × List ℕ) → List ℕ → Option (List ℕ)
found [] name = None
found (file ∷ files) name = if pointwise nat_eq file.0 name then Some file.1 else found files name

-- the files, the numbers of the reads that fail, how many reads were made, failed, and brought how many bytes, and the
-- names whose read failed
pub record Held : Type 0 where
  pub files : List (List ℕ × List ℕ)
  pub fails : List ℕ
  pub calls : ℕ
  pub faults : ℕ
  pub bytes_read : ℕ
  pub failed : List (List ℕ)

-- the bytes, where they are there and not too many
abbrev pub within : ℕ → Option (List ℕ) → Result (List ℕ) FileFault
within limit None = Err Failed
within limit (Some bytes) = if nat_lt limit (length bytes) then Err TooLong else Ok bytes

-- what the next read answers, where memory is there
abbrev pub answer_of : Held → List ℕ → ℕ → Result (List ℕ) FileFault
answer_of s name limit = if list_any (λ k. nat_eq k s.calls) s.fails then Err Failed else within limit (found s.files name)

-- how the answer changes the count of faults
abbrev pub faults_after : ℕ → Result (List ℕ) FileFault → ℕ
faults_after n (Ok bytes) = n
faults_after n (Err Failed) = up n
faults_after n (Err e) = n

-- of files that do not tell what they hold: how many reads failed, how many bytes were brought, and the names whose read
-- failed
pub record Counts : Type 0 where
  pub faults : ℕ
  pub bytes_read : ℕ
  pub failed : List (List ℕ)
