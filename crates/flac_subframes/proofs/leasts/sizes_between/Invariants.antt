use Rattle.std.proofs.Common.{◌-◌, ◌*◌}
use Rattle.flac_subframes.proofs.LeastLaws.{IsSize}
use Rattle.flac_subframes.proofs.leasts.sizes_between.Given as goal

abbrev pub invariant-loop-i : goal.invariant-loop-i
invariant-loop-i l = record {
  none : IsSize 0 l.samples l.from (l.i - l.from) l.most l.none;
  one : IsSize 1 l.samples l.from (l.i - l.from) (2 * l.most) l.one;
  two : IsSize 2 l.samples l.from (l.i - l.from) (4 * l.most) l.two;
  three : IsSize 3 l.samples l.from (l.i - l.from) (8 * l.most) l.three;
  four : IsSize 4 l.samples l.from (l.i - l.from) (16 * l.most) l.four;
}
