use Rattle.std.proofs.Common.{ℕ, ◌≡◌, ◌<◌, List, true}
use Rattle.coder_api.specs.declared.slot.SlotEntry.{SlotEntry}
use Rattle.slot_registry.specs.Boxes.{is_out}
use Rattle.legal_fronts.specs.Boxes.{IsLedger}
use Rattle.legal_fronts.proofs.ledger.Ledger.first_free.Given as goal

abbrev pub invariant-loop-number : goal.invariant-loop-number
invariant-loop-number l = (h : List SlotEntry) → IsLedger h l.self.boxes.items → (m : ℕ) → m < l.number → is_out l.id m h ≡ true
