use Rattle.std.proofs.Common.{sym, ◌∙◌}
use Rattle.legal_fronts.proofs.Bags.{end_admits}
use Rattle.legal_fronts.proofs.bag.Bag.admits.Goals as goal

pub returns-then-is_live : goal.returns-then-is_live
returns-then-is_live c = λ h bag.
    let self = c.args.self.now in
    c.is_end.ensures ∙ end_admits h c.args.entry.now self.holders.items self.counts.items c.in-End.resource c.in-End.reference c.in-End.last c.in-End.is (sym c.is_live.ensures ∙ c.if-is_live.true) bag
