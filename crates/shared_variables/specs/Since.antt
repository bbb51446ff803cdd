-- What the steps of a caller do at a seat of a shared pool.
use Rattle.std.specs.Prelude.{◌≡◌, Bool, List, [], ◌∷◌}
use Rattle.wc_base.specs.declared.seat.View.{View}
use Rattle.wc_base.specs.declared.who.Who.{Who}
use Rattle.wc_pool.specs.declared.entry.PoolEntry.{PoolEntry}
use Rattle.wc_pool.specs.declared.entry.PoolOp.{PoolOp}
use Rattle.seat_lock.specs.Since.{MadeSince}
use Rattle.media_variables.specs.Variables.{entry_of}

-- the entries of what a step does, in order; an end's says of its resource what the pool knew
abbrev pub EntriesBy : Who → List PoolOp → List PoolEntry → Type 0
EntriesBy who [] [] = Unit {0}
EntriesBy who (o ∷ os) (e ∷ es) = ((last : Bool) × (e ≡ entry_of who last o)) × EntriesBy who os es
EntriesBy who os es = ⊥

-- these were made at a seat between two views of it, and no others
abbrev pub DidSince : Who → View PoolEntry → View PoolEntry → List PoolOp → Type 0
DidSince who u v os = (es : List PoolEntry) × (EntriesBy who os es × MadeSince u v es)
