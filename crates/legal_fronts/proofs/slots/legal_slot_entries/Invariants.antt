use Rattle.std.proofs.Common.{◌≡◌, ◌+◌, take, drop}
use Rattle.slot_registry.specs.Slots.{is_legal_next}
use Rattle.legal_fronts.specs.{Fronts.legal_after, Fronts.legal_entries, Boxes.IsLedger}
use Rattle.legal_fronts.proofs.slots.legal_slot_entries.Given as goal

abbrev pub invariant-loop-place : goal.invariant-loop-place
invariant-loop-place l = IsLedger (take l.place l.history) l.ledger.boxes.items × (l.place + legal_after (is_legal_next l.made) (take l.place l.history) (drop l.place l.history) ≡ legal_entries (is_legal_next l.made) l.history)
