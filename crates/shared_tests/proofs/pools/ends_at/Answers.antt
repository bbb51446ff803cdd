use Rattle.std.proofs.Common.{[], ◌∷◌}
use Rattle.wc_pool.specs.Pools.{made_by, cloned_by}
use Rattle.shared_tests.specs.Resting.{IsLater}
use Rattle.shared_tests.proofs.PoolLaws.{later_then, later_faulted, later_closed}
use Rattle.shared_tests.proofs.pools.ends_at.Goals as goal

-- src/pools.rt:49:9
pub returns-in_default-clone_data : goal.returns-in_default-clone_data
returns-in_default-clone_data g c =
    let made = c.in-Ok.ensures.ok in
    let first : IsLater c.args.at.now c.new.new.pool = record { entries = made_by _ made.reference ∷ []; made = made.added } in
    later_then c.args.at.now c.new.new.pool c.clone_data.new.pool first (later_faulted c.new.new.pool c.clone_data.new.pool c.in-Ok-transfer.data c.in_default-clone_data.field-0 c.in_default-clone_data.ensures.err)

-- src/pools.rt:37:1
pub returns : goal.returns
returns g c =
    let made = c.in-Ok.ensures.ok in
    let first : IsLater c.args.at.now c.new.new.pool = record { entries = made_by _ made.reference ∷ []; made = made.added } in
    let cloned = c.in-Ok-clone_data.ensures.ok in
    let second : IsLater c.new.new.pool c.clone_data.new.pool = record { entries = cloned_by _ cloned.reference ∷ []; made = cloned.added } in
    let third = later_closed c.clone_data.new.pool c.close_data.new.pool _ _ _ c.close_data.ensures.closes in
    let fourth = later_closed c.close_data.new.pool c.close_data-3.new.pool _ _ _ c.close_data-3.ensures.closes in
    let both = later_then c.args.at.now c.new.new.pool c.clone_data.new.pool first second in
    let three = later_then c.args.at.now c.clone_data.new.pool c.close_data.new.pool both third in
    later_then c.args.at.now c.close_data.new.pool c.close_data-3.new.pool three fourth
