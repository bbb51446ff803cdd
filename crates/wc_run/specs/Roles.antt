-- What the thread at each place does: a turner, then so many workers, then the callers.
use Rattle.std.specs.Prelude.{ℕ, zero, suc, List, [], ◌∷◌, ◌++◌}
use Rattle.report_text.specs.declared.result.StepResult.{StepResult}
use Rattle.run_model.specs.declared.run.CallerTrace.{CallerTrace}
use Rattle.wc_run.specs.declared.jobs.Role.{Role}
use Rattle.wc_run.specs.declared.jobs.Role.TheVariants as role

-- so many workers, and then the callers
abbrev pub behind_turner : ℕ → ℕ → Role
behind_turner zero n = role.Caller n
behind_turner (suc workers) zero = role.Worker
behind_turner (suc workers) (suc n) = behind_turner workers n

abbrev pub role_at : ℕ → ℕ → Role
role_at workers zero = role.Turner
role_at workers (suc n) = behind_turner workers n

-- what the callers' steps came to, with that of one job more
abbrev pub noted : Role → List StepResult → List CallerTrace → List CallerTrace
noted role.Turner results traces = traces
noted role.Worker results traces = traces
noted (role.Caller c) results traces = traces ++ record { results = results } ∷ []
