use Rattle.std.proofs.Common.{◌≡◌, ◌-◌, ◌*◌, ◌^◌, ◌≤◌, length, take, drop, reverse}
use Rattle.std.specs.Prelude.{unsigned_abs}
use Rattle.flac_definitions.specs.Prediction.{sum_of_products}
use Rattle.flac_decode.proofs.prediction.sum_of_any_products.Given as goal

abbrev pub invariant-loop-j : goal.invariant-loop-j
invariant-loop-j l =
    let n = length l.coefficients in
    record {
      sum : l.sum ≡ sum_of_products (drop (n - l.j) l.coefficients) (drop (n - l.j) (reverse (take l.place l.samples)));
      small : unsigned_abs l.sum ≤ l.j * 2 ^ 46;
    }
