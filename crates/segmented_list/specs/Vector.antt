-- Lists in segments that grow.
use Rattle.std.specs.Prelude.{◌≡◌, ◌≤◌, ◌<◌, ◌+◌, ◌*◌, ◌^◌, length, vec_len, vec_capacity}
use Rattle.std.specs.List.{AllByRecursion}
use Rattle.segmented_list.specs.Segments.{AreCut, IsEmpty, joined}
use Rattle.segmented_list.specs.declared.vector.SegmentedVec.TheInside.{Inside}

-- The segments are cut, and as long as said; the others are empty, and have a place behind them.
pub record IsSegmented {T : Type 0} (v : Inside T) : Type 0 where
  pub cut : AreCut 0 v.segments.items
  pub len : v.len ≡ length (joined v.segments.items)
  pub empty : AllByRecursion IsEmpty v.spare.items
  pub fits : vec_len v.segments + vec_len v.spare ≤ vec_capacity v.segments
  pub small : 1024 * (vec_len v.segments + vec_len v.spare) < 2 ^ 63
