-- A step on media leaves as many callers as there were.
use Rattle.std.proofs.Common.{ℕ, ◌≡◌, List, Option, Some, None, ap, ◌∙◌}
use Rattle.std.specs.Prelude.{length}
use Rattle.std.proofs.lemmas.List.{length-set}
use Rattle.wc_base.specs.declared.who.Who.{Who}
use Rattle.report_text.specs.declared.result.StepResult.{StepResult}
use Rattle.media_variables.specs.Variables.{Media, Came, IsCome}

pub callers_kept : (old new : Media) (who : Who) (c : Option Came) (answer : Option StepResult) → IsCome old new who c answer → length new.variables ≡ length old.variables
callers_kept old new who None answer is = ap (λ (m : Media). length m.variables) is.1
callers_kept old new who (Some c) answer is = ap (λ (m : Media). length m.variables) is.1 ∙ length-set old.variables who.caller c.variables
