use Rattle.std.proofs.Common.{◌≡◌, ◌+◌, take, drop}
use Rattle.wc_pool.specs.Bag.{is_legal_next}
use Rattle.legal_fronts.specs.{Fronts.legal_after, Fronts.legal_entries, Pools.IsBag}
use Rattle.legal_fronts.proofs.pool.legal_pool_entries.Given as goal

abbrev pub invariant-loop-place : goal.invariant-loop-place
invariant-loop-place l = IsBag (take l.place l.history) l.bag.holders.items l.bag.counts.items × (l.place + legal_after is_legal_next (take l.place l.history) (drop l.place l.history) ≡ legal_entries is_legal_next l.history)
