use Rattle.std.proofs.Common.{◌++◌, ◌∷◌, []}
use Rattle.std.proofs.lemmas.Result.{on_ok_weaker}
use Rattle.legal_fronts.proofs.Ledgers.{acquires, gives, goes_to}
use Rattle.legal_fronts.proofs.ledger.Ledger.record.Goals as goal

pub returns-in-Acquire : goal.returns-in-Acquire
returns-in-Acquire c = on_ok_weaker c.put.result (λ is h ledger. goes_to (h ++ c.args.entry.now ∷ []) _ _ is (acquires h c.args.entry.now c.args.self.now.boxes.items c.in-Acquire.id c.in-Acquire.number c.in-Acquire.is ledger)) c.put.ensures

pub returns-in-Give : goal.returns-in-Give
returns-in-Give c = on_ok_weaker c.put-in-Give.result (λ is h ledger. goes_to (h ++ c.args.entry.now ∷ []) _ _ is (gives h c.args.entry.now c.args.self.now.boxes.items c.in-Give.id c.in-Give.number c.in-Give.is ledger)) c.put-in-Give.ensures
