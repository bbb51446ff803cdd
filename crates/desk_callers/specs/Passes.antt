-- A caller's passes of the ports.
use Rattle.std.specs.Prelude.{ℕ, ◌≡◌, List, [], length, slice_get, Some}
use Rattle.atomic_table.specs.Seated.{TableId}
use Rattle.wc_chunk.specs.declared.chunk.Chunk.{Chunk}
use Rattle.script_types.specs.declared.script.ScriptData.{ScriptData}
use Rattle.shared_port.specs.declared.port.PortPass.{PortPass}
use Rattle.shared_port.specs.Ports.{PortId, IsPassOf, seen}
use Rattle.shared_variables.specs.Ports.{WholeParcel}
use Rattle.desk_callers.specs.Deeds.{Deed}
use Rattle.desk_callers.specs.PortDeeds.{KnowsDeeds}

-- Each pass is of the port with its number, and all ports carry media of one pool.
pub record ArePasses (pool : TableId) (ports : List PortId) (passes : List (PortPass WholeParcel)) : Type 0 where
  pub many : length passes ≡ length ports
  pub each : (q : ℕ) (port : PortId) (pass : PortPass WholeParcel) → slice_get ports q ≡ Some port → slice_get passes q ≡ Some pass → IsPassOf port pass
  pub pool_is : (q : ℕ) (port : PortId) → slice_get ports q ≡ Some port → port.pool ≡ pool

-- each pass has the parts that it had
pub record KeepParts (a b : List (PortPass WholeParcel)) : Type 0 where
  pub parts : (q : ℕ) (p r : PortPass WholeParcel) → slice_get a q ≡ Some p → slice_get b q ≡ Some r → (seen r).parts ≡ (seen p).parts

-- nothing was posted and nothing received with these passes
abbrev pub AreUnused : List (PortPass WholeParcel) → Type 0
AreUnused passes = (q : ℕ) (p : PortPass WholeParcel) → slice_get passes q ≡ Some p → ((seen p).posted ≡ []) × ((seen p).received ≡ [])

-- each pass knows what these deeds did to its port
abbrev pub KnowPorts : ScriptData → List (List Chunk) → List Deed → List (PortPass WholeParcel) → Type 0
KnowPorts s media deeds passes = (q : ℕ) (p : PortPass WholeParcel) → slice_get passes q ≡ Some p → KnowsDeeds s media q deeds (seen p)
