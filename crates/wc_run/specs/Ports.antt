-- Passes of the ports of a run, and what they know of callers' deeds.
use Rattle.std.specs.Prelude.{ℕ, ◌≡◌, List, length, slice_get, Some}
use Rattle.atomic_table.specs.Seated.{TableId}
use Rattle.codec_accounts.specs.Owed.{at}
use Rattle.codec_desk.specs.declared.desk.Seats.{Seats}
use Rattle.desk_callers.specs.Deeds.{Deed}
use Rattle.desk_callers.specs.Passes.{ArePasses}
use Rattle.desk_callers.specs.PortDeeds.{KnowsDeeds}
use Rattle.desk_threads.specs.Parts.{HaveParts}
use Rattle.shared_variables.specs.Ports.{WholeParcel}
use Rattle.port_laws.specs.PortAccounts.{AreJoined}
use Rattle.script_types.specs.declared.script.ScriptData.{ScriptData}
use Rattle.shared_port.specs.Accounts.{IsAccount}
use Rattle.shared_port.specs.declared.port.PortPass.{PortPass}
use Rattle.shared_port.specs.declared.rule.PortView.{PortView}
use Rattle.shared_port.specs.Ports.{PortId, seen}
use Rattle.shared_port.specs.Views.{Posted, joined, less_part, one_part}
use Rattle.wc_chunk.specs.declared.chunk.Chunk.{Chunk}

-- these are passes of these ports, of whatever pool
abbrev pub OfPorts : List PortId → List (PortPass WholeParcel) → Type 0
OfPorts ports passes = (pool : TableId) × ArePasses pool ports passes

-- of the ports of each pool these are passes where those are
abbrev pub StayPasses : List PortId → List (PortPass WholeParcel) → List (PortPass WholeParcel) → Type 0
StayPasses ports a b = (pool : TableId) → ArePasses pool ports a → ArePasses pool ports b

-- each pass has so many parts
abbrev pub PassesHave : ℕ → List (PortPass WholeParcel) → Type 0
PassesHave n passes = (q : ℕ) (p : PortPass WholeParcel) → slice_get passes q ≡ Some p → (seen p).parts ≡ n

-- each seat and each pass of a thread has so many parts
pub record HoldParts {C : Type 0} (n : ℕ) (a : Seats C) (ps : List (PortPass WholeParcel)) : Type 0 where
  pub seats : HaveParts n a
  pub passes : PassesHave n ps

-- one part of each pass became a pass of its own
pub record SplitPasses (a b n : List (PortPass WholeParcel)) : Type 0 where
  pub left : (q : ℕ) (p r : PortPass WholeParcel) → slice_get a q ≡ Some p → slice_get b q ≡ Some r → seen r ≡ less_part (seen p)
  pub new : (q : ℕ) (p r : PortPass WholeParcel) → slice_get a q ≡ Some p → slice_get n q ≡ Some r → seen r ≡ one_part (seen p)

-- each pass took in the other one of its port
pub record JoinedPasses (a o b : List (PortPass WholeParcel)) : Type 0 where
  pub both : (q : ℕ) (p r u : PortPass WholeParcel) → slice_get a q ≡ Some p → slice_get o q ≡ Some r → slice_get b q ≡ Some u → seen u ≡ joined (seen p) (seen r)

-- What callers with these deeds did to the port with this number is what is known to a pass that took in those of all of them.
pub record KnowsAll (s : ScriptData) (media : List (List Chunk)) (q : ℕ) (deeds : List (List Deed)) (v : PortView WholeParcel) : Type 0 where
  pub views : List (PortView WholeParcel)
  pub many : length views ≡ length deeds
  pub each : (c : ℕ) (u : PortView WholeParcel) → slice_get views c ≡ Some u → KnowsDeeds s media q (at c deeds) u
  pub joined : AreJoined views v

abbrev pub KnowAll : ScriptData → List (List Chunk) → List (PortPass WholeParcel) → List (List Deed) → Type 0
KnowAll s media passes deeds = (q : ℕ) (p : PortPass WholeParcel) → slice_get passes q ≡ Some p → KnowsAll s media q deeds (seen p)

-- what is known to have been posted was received or is left
abbrev pub HasAccount : PortView WholeParcel → Type 0
HasAccount v = (got : List (Posted WholeParcel)) × ((left : List (Posted WholeParcel)) × IsAccount v got left)

abbrev pub HaveAccounts : List (PortPass WholeParcel) → Type 0
HaveAccounts passes = (q : ℕ) (p : PortPass WholeParcel) → slice_get passes q ≡ Some p → HasAccount (seen p)
