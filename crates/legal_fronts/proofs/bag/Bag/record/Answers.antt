use Rattle.std.proofs.Common.{◌≡◌, ◌++◌, ◌∷◌, []}
use Rattle.std.proofs.lemmas.Result.{on_ok_weaker}
use Rattle.legal_fronts.proofs.Bags.{bag_make, bag_clone, bag_end}
use Rattle.legal_fronts.proofs.bag.Bag.record.Goals as goal

pub returns-in_ok-try_push-in-Make : goal.returns-in_ok-try_push-in-Make
returns-in_ok-try_push-in-Make c =
    let self = c.args.self.now in
    on_ok_weaker c.try_push-in-Make.result
    (λ pushed h bag legal.
    let counts : c.try_push-in-Make.new.items.items ≡ self.counts.items ++ 1 ∷ [] = pushed in
    rw (c.in_ok-try_push-in-Make.ensures.ok, counts) (bag_make h c.args.entry.now self.holders.items self.counts.items c.in-Make.resource c.in-Make.reference c.in-Make.is bag legal))
    c.try_push-in-Make.ensures.ok

pub returns-in-Clone : goal.returns-in-Clone
returns-in-Clone c =
    let self = c.args.self.now in
    on_ok_weaker c.add.result
    (λ added h bag legal. rw (added.0, added.1) (bag_clone h c.args.entry.now self.holders.items self.counts.items c.in-Clone.resource c.in-Clone.reference c.in-Clone.is bag legal))
    c.add.ensures

pub returns-in-End : goal.returns-in-End
returns-in-End c = λ h bag legal.
    let self = c.args.self.now in
    rw (c.drop_reference.ensures.holders, c.drop_reference.ensures.counts) (bag_end h c.args.entry.now self.holders.items self.counts.items c.in-End.resource c.in-End.reference c.in-End.last c.in-End.is bag legal)
