use Rattle.std.proofs.Common.{◌≡◌, ◌-◌, ◌<◌, pos, length, take, drop, reverse, get_or}
use Rattle.flac_definitions.specs.Prediction.{samples_behind, one_after_other}
use Rattle.flac_decode.specs.Bounds.{AreSmall}
use Rattle.flac_decode.proofs.prediction.restore_in.Given as goal

abbrev pub invariant-loop-i : goal.invariant-loop-i
invariant-loop-i g l =
    let n = g.row.N in
    record {
      size : length l.samples ≡ length l.fn.samples;
      kept : take n l.samples ≡ take n l.fn.samples;
      small : AreSmall 32 (take l.i l.samples);
      last : 0 < n → l.last ≡ get_or l.samples (l.i - 1) (pos 0);
      before : 1 < n → l.before ≡ get_or l.samples (l.i - 2) (pos 0);
      narrow : AreSmall (l.depth - 1) (take l.i l.samples);
      read : one_after_other (drop n (take l.i l.samples)) (samples_behind l.coefficients l.shift l.depth (reverse (take l.i l.samples)) (drop (l.i - n) l.residual)) ≡ samples_behind l.coefficients l.shift l.depth (reverse (take n l.fn.samples)) l.residual;
    }
