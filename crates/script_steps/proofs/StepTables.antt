-- The table of the variables after one more step.
use Rattle.std.proofs.Common.{◌≡◌, ℕ, List, [], ◌∷◌, ◌++◌, length, bytes_eq, Some, None, is_some, ap, ◌∙◌, arith}
use Rattle.std.proofs.lemmas.Slice.Eq.{bytes_eq-Decides}
use Rattle.std.specs.List.{position}
use Rattle.std.specs.BTreeMap.{get_by_text}
use Rattle.std.specs.Map.{update}
use Rattle.script_types.specs.declared.steps.{Step.Step, VariableKind.VariableKind}
use Rattle.script_types.specs.Names.{binds, defines, is_bound_as, is_variable_name}
use Rattle.script_steps.specs.Places.{IsTable}
use Rattle.script_steps.proofs.PlaceLaws.{Table, table_put, table_kept}
use Rattle.script_steps.proofs.Positions.{found_or_not}

abbrev pub IsNoted : Table → List Step → Type 0
IsNoted m steps = IsTable m (λ q. position (λ s. defines q s) steps)

pub step_put : (steps : List Step) (s : Step) (m n : Table) (name : List ℕ) (kind : VariableKind) → IsNoted m steps → binds s ≡ Some (name, kind)
    → get_by_text m name ≡ None → IsTable n (update bytes_eq (get_by_text m) name (Some (length steps))) → IsNoted n (steps ++ s ∷ [])
step_put steps s m n name kind t b free puts = table_put defines steps s m n name t free (λ q. ap (is_bound_as q) b) puts

pub step_old : (steps : List Step) (s : Step) (m : Table) (name : List ℕ) (kind : VariableKind) (k : ℕ) → IsNoted m steps → binds s ≡ Some (name, kind)
    → get_by_text m name ≡ Some k → IsNoted m (steps ++ s ∷ [])
step_old steps s m name kind k t b there = table_kept defines steps s m t (λ q e. grind (arith, e, b, there, bytes_eq-Decides name q))

pub step_same : (steps : List Step) (s : Step) (m : Table) → IsNoted m steps → binds s ≡ None → IsNoted m (steps ++ s ∷ [])
step_same steps s m t b = table_kept defines steps s m t (λ q e. grind (arith, e, b))

-- whether the table has a name is whether a step defines it
pub is_noted : (m : Table) (steps : List Step) (name : List ℕ) → IsNoted m steps → is_some (get_by_text m name) ≡ is_variable_name steps name
is_noted m steps name t = ap is_some (t.at name) ∙ found_or_not (λ s. defines name s) steps
