-- The table of the ports after one more.
use Rattle.std.proofs.Common.{◌≡◌, ℕ, List, [], ◌∷◌, ◌++◌, length, bytes_eq, Option, Some, None, ap, ◌∙◌, arith}
use Rattle.std.proofs.lemmas.Slice.Eq.{bytes_eq-Decides}
use Rattle.std.specs.List.{position}
use Rattle.std.specs.BTreeMap.{get_by_text}
use Rattle.std.specs.Map.{update}
use Rattle.script_types.specs.declared.script.PortItem.{PortItem}
use Rattle.script_steps.specs.Places.{IsTable}
use Rattle.script_steps.specs.Ports.{has_name}
use Rattle.script_steps.proofs.PlaceLaws.{Table, table_put, table_kept}

abbrev pub AreNoted : Table → List (Option PortItem) → Type 0
AreNoted m items = IsTable m (λ q. position (λ x. has_name q x) items)

pub port_put : (items : List (Option PortItem)) (item : Option PortItem) (p : PortItem) (m n : Table) (name : List ℕ) → AreNoted m items → item ≡ Some p → p.name ≡ name
    → get_by_text m name ≡ None → IsTable n (update bytes_eq (get_by_text m) name (Some (length items))) → AreNoted n (items ++ item ∷ [])
port_put items item p m n name t is same free puts = table_put has_name items item m n name t free (λ q. ap (has_name q) is ∙ ap (λ x. bytes_eq x q) same) puts

pub port_old : (items : List (Option PortItem)) (item : Option PortItem) (p : PortItem) (m : Table) (name : List ℕ) (k : ℕ) → AreNoted m items → item ≡ Some p → p.name ≡ name
    → get_by_text m name ≡ Some k → AreNoted m (items ++ item ∷ [])
port_old items item p m name k t is same there = table_kept has_name items item m t (λ q e. grind (arith, e, is, same, there, bytes_eq-Decides name q))

pub port_none : (items : List (Option PortItem)) (m : Table) → AreNoted m items → AreNoted m (items ++ None ∷ [])
port_none items m t = table_kept has_name items None m t (λ q e. grind (arith, e))
