-- The words of a command line (our choice).
use Rattle.std.specs.Prelude.{◌≡◌, ◌≢◌, ℕ, suc, ◌≤◌, Bool, false, ◌==◌, List, [], ◌∷◌, ◌++◌, codes, bytes_eq, Option, Some, None, option_map, if◌then◌else◌, String, string_bytes, map}
use Rattle.std.specs.declared.alloc.Global.{Global}
use Rattle.load_script.specs.Words.{load_of}
use Rattle.load_script.specs.declared.words.Load.{Load}
use Rattle.wcrun.specs.declared.command.Mode.{Mode}
use Rattle.wcrun.specs.declared.command.Mode.TheVariants as mode
use Rattle.wcrun.specs.declared.command.Verb.{Verb}
use Rattle.wcrun.specs.declared.command.Verb.TheVariants as verb

-- the bytes of the words
abbrev pub words_of : List (String Global) → List (List ℕ)
words_of words = map (λ w. string_bytes w) words

-- the word begins with a dash
abbrev pub is_dashed : List ℕ → Bool
is_dashed [] = false
is_dashed (c ∷ rest) = c == 45

-- A command, the file that it names, and the report that `check` names beside its script. What a command does not name is an empty
-- name.
pub record Command : Type 0 where
  pub verb : Verb
  pub file : List ℕ
  pub report : List ℕ

abbrev pub command_on : Verb → List ℕ → List ℕ → Command
command_on verb file report = record { verb = verb; file = file; report = report }

-- only a check names a report
abbrev pub NamesReport : Verb → List ℕ → Type 0
NamesReport v report = v ≢ verb.Check → report ≡ []

abbrev pub command : Verb → List ℕ → Command
command verb file = command_on verb file []

abbrev pub to_run : Mode → List ℕ → Option Command
to_run mode file = Some (command (verb.Run mode) file)

abbrev pub to_probe : List ℕ → Option Command
to_probe file = Some (command verb.Probe file)

abbrev pub to_check : List ℕ → List ℕ → Option Command
to_check script report = Some (command_on verb.Check script report)

abbrev pub is_word : List ℕ → List ℕ → Bool
is_word word wanted = bytes_eq word wanted

-- what is to be done with a file of which the words say no more: a run has four workers
abbrev pub verb_of : List ℕ → Option Verb
verb_of word =
    if is_word word (codes "replay") then Some (verb.Run mode.InOrder)
    else if is_word word (codes "run") then Some (verb.Run (mode.Threads 4))
    else if is_word word (codes "probe") then Some verb.Probe
    else None

-- the numbers of workers, from 1 on
abbrev pub numbers : List (List ℕ)
numbers =
    codes "1" ∷ codes "2" ∷ codes "3" ∷ codes "4" ∷ codes "5" ∷ codes "6" ∷ codes "7" ∷ codes "8" ∷ codes "9" ∷ codes "10" ∷ codes "11"
    ∷ codes "12" ∷ codes "13" ∷ codes "14" ∷ codes "15" ∷ codes "16" ∷ []

-- the number of a word in a list, whose first word has this number
abbrev pub numbered : ℕ → List (List ℕ) → List ℕ → Option ℕ
numbered n [] word = None
numbered n (w ∷ ws) word = if is_word word w then Some n else numbered (suc n) ws word

-- a run with threads has 1 to 16 workers, and a load 1 to 5,000 chunks for each caller
abbrev pub IsInRange : Verb → Type 0
IsInRange (verb.Run (mode.Threads n)) = (1 ≤ n) × (n ≤ 16)
IsInRange (verb.Load load) = (1 ≤ load.chunks) × (load.chunks ≤ 5000)
IsInRange _ = Unit {0}

-- the number of workers that a word spells
unfoldable pub workers_of : List ℕ → Option ℕ
workers_of word = numbered 1 numbers word

-- the same in one word with the option
unfoldable pub option_of : List ℕ → Option ℕ
option_of word = numbered 1 (map (λ n. codes "--workers=" ++ n) numbers) word

abbrev pub with_file : List ℕ → Option Verb → Option Command
with_file file None = None
with_file file (Some v) = Some (command v file)

-- a command on a file, which no word is that begins with a dash
abbrev pub on_file : List ℕ → Option Verb → Option Command
on_file file v = if is_dashed file then None else with_file file v

abbrev pub threads : ℕ → Verb
threads workers = verb.Run (mode.Threads workers)

-- a run of a file with the option as one word, in any order
unfoldable pub with_one : List ℕ → List ℕ → Option Command
with_one first second =
    if is_dashed first then on_file second (option_map threads (option_of first))
    else on_file first (option_map threads (option_of second))

-- a run of a file with the option as two words, in any order
unfoldable pub with_two : List ℕ → List ℕ → List ℕ → Option Command
with_two first second third =
    if is_word first (codes "--workers") then on_file third (option_map threads (workers_of second))
    else if is_word second (codes "--workers") then on_file first (option_map threads (workers_of third))
    else None

-- a load, which names no file
abbrev pub load_command : Option Load → Option Command
load_command None = None
load_command (Some load) = Some (command (verb.Load load) [])

-- a check of a script and a report, neither of whose words begins with a dash
abbrev pub check_command : List ℕ → List ℕ → Option Command
check_command script report = if is_dashed script then None else if is_dashed report then None else to_check script report

abbrev pub with_three : List ℕ → List ℕ → List ℕ → Option Command
with_three word first second =
    if is_word word (codes "run") then with_one first second
    else if is_word word (codes "load") then load_command (load_of first second)
    else if is_word word (codes "check") then check_command first second
    else None

-- the command, where the words are `replay FILE`, `probe FILE`, `run FILE --workers N`, `load START N` or `check SCRIPT REPORT`
abbrev pub command_of : List (List ℕ) → Option Command
command_of [] = None
command_of (word ∷ []) = None
command_of (word ∷ file ∷ []) = on_file file (verb_of word)
command_of (word ∷ first ∷ second ∷ []) = with_three word first second
command_of (word ∷ first ∷ second ∷ third ∷ []) = if is_word word (codes "run") then with_two first second third else None
command_of (word ∷ first ∷ second ∷ third ∷ other ∷ rest) = None
