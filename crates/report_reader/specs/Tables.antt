-- Tables in which what encodes were given is looked up.
use Rattle.std.specs.Prelude.{ℕ, zero, suc, ◌≡◌, ◌==◌, ◌&&◌, Bool, false, List, nat_lt, Option, Some, None, if◌then◌else◌}
use Rattle.std.specs.List.{list_any}
use Rattle.std.specs.Option.{option_or}
use Rattle.std.specs.declared.cmp.Ordering.{Ordering}
use Rattle.std.specs.Ordering.{nat_cmp, ordering_then}
use Rattle.std.specs.BTreeMap.{get}
use Rattle.script_types.specs.declared.script.ScriptData.{ScriptData}
use Rattle.script_types.specs.declared.steps.Step.{Step}
use Rattle.report_text.specs.declared.result.StepResult.{StepResult}
use Rattle.run_model.specs.Recorded.{steps_of}
use Rattle.report_reader.specs.declared.known.Known.{Known}
use Rattle.report_reader.specs.declared.tables.Tables.{Tables}
use Rattle.report_reader.specs.Arguments.{results_of, pair_for, detached_by, is_detached, depth_of}

-- the order of keys: of a codec and a place, or of a caller and a step
abbrev pub key_cmp : ℕ × ℕ → ℕ × ℕ → Ordering
key_cmp a b = ordering_then (nat_cmp a.0 b.0) (nat_cmp a.1 b.1)

-- one of these is j
abbrev pub is_named : ℕ → List ℕ → Bool
is_named j names = list_any (λ i. i == j) names

-- the first number below n among whose names this one is, if there is one
abbrev pub first_named : (ℕ → List ℕ) → ℕ → ℕ → Option ℕ
first_named named zero j = None
first_named named (suc n) j = option_or (first_named named n j) (if is_named j (named n) then Some n else None)

-- that this step detached a variable of the caller with number c, by a key of caller and step
abbrev pub named_at : ℕ → ℕ → Bool → ℕ → Option ℕ
named_at c k named n = if (c == k) && named then Some n else None

-- the first of the first n steps of the caller with number c that detached the data of a variable, by a key of caller and step
abbrev pub end_of : ℕ → List Step → List StepResult → ℕ → ℕ → ℕ → Option ℕ
end_of c steps results n k j = if c == k then first_named (detached_by steps results) n j else None

abbrev pub is_before : Option ℕ → ℕ → Bool
is_before None n = false
is_before (Some i) n = nat_lt i n

-- what a report shows: of an entry its first clone; of a variable, after how many steps its data is detached; and how many results
-- there are
pub record AreTables (script : ScriptData) (known : Known) (t : Tables) : Type 0 where
  pub clones : (k place : ℕ) → get key_cmp t.clones (k, place) ≡ pair_for k place known.pool
  pub ends : (c n j : ℕ) → is_before (get key_cmp t.ends (c, j)) n ≡ is_detached (steps_of script c) (results_of known.callers c) n j
  pub depth : t.depth ≡ depth_of known
