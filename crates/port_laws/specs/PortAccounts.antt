-- What ports delivered, by the passes of all callers.
use Rattle.std.specs.Prelude.{ℕ, ◌≡◌, ◌<◌, ◌≤◌, List, length, slice_get, take, Some}
use Rattle.std.specs.List.{flat_map}
use Rattle.wc_chunk.specs.declared.chunk.Chunk.{Chunk}
use Rattle.codec_accounts.specs.Owed.{at}
use Rattle.codec_model.specs.declared.entry.Entry.{Entry}
use Rattle.script_types.specs.declared.script.ScriptData.{ScriptData}
use Rattle.shared_port.specs.declared.rule.PortView.{PortView}
use Rattle.shared_port.specs.Accounts.{IsAccount}
use Rattle.shared_port.specs.Views.{Posted}
use Rattle.shared_variables.specs.Ports.{WholeParcel}
use Rattle.run_model.specs.Recorded.{Recorded}
use Rattle.run_model.specs.Fits.{variables_at}
use Rattle.desk_callers.specs.Deeds.{Deed, AreDeeds, results_of, variables_after}
use Rattle.desk_callers.specs.PortDeeds.{KnowsDeeds, received_in}

-- One view has what these views have together, one after the other, and knows as much as each of them.
pub record AreJoined (views : List (PortView WholeParcel)) (v : PortView WholeParcel) : Type 0 where
  pub posted : v.posted ≡ flat_map (λ u. u.posted) views
  pub received : v.received ≡ flat_map (λ u. u.received) views
  pub known : (c : ℕ) (u : PortView WholeParcel) → slice_get views c ≡ Some u → u.known ≤ v.known

-- The account of the port with this number: what all passes know together, once they were joined, and of each caller's deeds what its
-- own pass knew.
pub record PortMade (s : ScriptData) (media : List (List Chunk)) (q : ℕ) (deeds : List (List Deed)) : Type 0 where
  pub views : List (PortView WholeParcel)
  pub many : length views ≡ length deeds
  pub each : (c : ℕ) (u : PortView WholeParcel) → slice_get views c ≡ Some u → KnowsDeeds s media q (at c deeds) u
  pub all : PortView WholeParcel
  pub joined : AreJoined views all
  pub got : List (Posted WholeParcel)
  pub left : List (Posted WholeParcel)
  pub account : IsAccount all got left

-- All ports of the script have their accounts.
abbrev pub PortsMade : ScriptData → List (List Chunk) → List (List Deed) → Type 0
PortsMade s media deeds = (q : ℕ) → q < length s.ports → PortMade s media q deeds

-- What was recorded of the callers is what their deeds were: their results, what they received, and what their variables held.
pub record CallersMade (s : ScriptData) (media : List (List Chunk)) (hs : List (List Entry)) (deeds : List (List Deed)) (w : Recorded) : Type 0 where
  pub are : (c : ℕ) → AreDeeds s media c hs (at c deeds)
  pub results : (c : ℕ) → at c w.callers ≡ results_of (at c deeds)
  pub received : (c j : ℕ) → w.received c j ≡ received_in deeds c j
  pub variables : (c j : ℕ) (d : Deed) → slice_get (at c deeds) j ≡ Some d → variables_at s media w c j ≡ variables_after s media (take j (at c deeds))
