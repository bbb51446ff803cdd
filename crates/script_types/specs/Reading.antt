-- What a reader answers, where a definition says what is spelled: just that, or want of memory.
use Rattle.std.specs.Prelude.{◌≡◌, ◌≢◌, MatchResult, Result, Ok, Err}
use Rattle.chunk_files.specs.declared.fault.Stop.{Stop}
use Rattle.chunk_files.specs.declared.fault.Stop.TheVariants as stop

abbrev pub Gives : {A F : Type 0} → Result A (Stop F) → Result A (Stop F) → Type 0
Gives answer spelled = MatchResult answer (λ a. spelled ≡ Ok a) (λ e. e ≢ stop.NoMemory → spelled ≡ Err e)

-- the same, of values that stand for what is spelled
abbrev pub GivesAs : {A B F : Type 0} → (B → A) → Result B (Stop F) → Result A (Stop F) → Type 0
GivesAs meaning answer spelled =
    MatchResult answer (λ b. spelled ≡ Ok (meaning b)) (λ e. e ≢ stop.NoMemory → spelled ≡ Err e)
