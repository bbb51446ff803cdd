use Rattle.std.proofs.Common.{List, take, sym, ◌∙◌}
use Rattle.coder_api.specs.declared.slot.SlotEntry.{SlotEntry}
use Rattle.slot_registry.specs.Slots.{is_legal_next}
use Rattle.legal_fronts.specs.Boxes.{IsLedger}
use Rattle.legal_fronts.proofs.Walks.{goes_on, refused}
use Rattle.legal_fronts.proofs.slots.legal_slot_entries.Goals as goal

pub returns-then-not-admits : goal.returns-then-not-admits
returns-then-not-admits c =
    let history = c.args.history.now in
    let i = c.loop-place.place in
    refused (is_legal_next c.args.made.now) history i _ c.loop-place-test.true c.loop-place.invariant.1 (sym (c.admits.ensures (take i history) c.loop-place.invariant.0) ∙ c.if-not-admits.true)

pub loop-place-preserved : goal.loop-place-preserved
loop-place-preserved c =
    let history = c.args.history.now in
    let i = c.loop-place.place in
    let front = take i history in
    let legal = sym (c.admits.ensures front c.loop-place.invariant.0) ∙ c.if-not-admits.false in
    goes_on (is_legal_next c.args.made.now) history i _ c.loop-place-test.true c.loop-place.invariant.1 (λ (l : List SlotEntry). IsLedger l c.record.new.self.boxes.items) legal (c.in_ok-record.ensures front c.loop-place.invariant.0)
