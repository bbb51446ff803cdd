use Rattle.std.proofs.Common.{◌∙◌, ap, eq-eqb}
use Rattle.std.specs.Prelude.{is_none}
use Rattle.legal_fronts.proofs.Ledgers.{refusal_admits, not_some}
use Rattle.legal_fronts.proofs.ledger.Ledger.admits.Goals as goal

pub returns-then-out-all : goal.returns-then-out-all
returns-then-out-all c = λ h ledger.
    let r = c.in-Refused in
    not_some c.first_free.result c.is_none.result c.is_none.ensures
    ∙ (ap is_none (c.first_free.ensures h ledger)
    ∙ refusal_admits c.args.made.now h c.args.entry.now r.id r.out r.all r.is (eq-eqb r.all _ (c.if-out-all.true.0 ∙ c.count_of.ensures)) (eq-eqb r.out r.all c.if-out-all.true.1))
