use Rattle.std.proofs.Common.{ℕ, ◌≤◌, ◌<◌, slice_index}
use Rattle.flac_subframes.proofs.leasts.least_place.Given as goal

abbrev pub invariant-loop-order : goal.invariant-loop-order
invariant-loop-order l = record {
  place : l.best < l.order;
  least : (order : ℕ) → order < l.order → slice_index l.lengths l.best ≤ slice_index l.lengths order;
}
