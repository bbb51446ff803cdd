use Rattle.std.proofs.Common.{refl, arith}
use Rattle.std.proofs.lemmas.Nat.{one_shl}
use Rattle.flac_plans.specs.FitLaws.{finest_most, finest_fewer, fits_for}
use Rattle.flac_subframes.proofs.leasts.parts_of.Goals as goal

pub returns : goal.returns
returns c = λ long.
    let n = c.args.count in
    let p = c.finest-partition.result in
    record {
      partition = p;
      size = refl;
      number = one_shl p 64 (omega (arith, finest_most n 0 c.args.most, c.finest-partition.ensures.value, c.requires.most));
      few = omega (arith, finest_most n 0 c.args.most, c.finest-partition.ensures.value);
      fitting = fits_for n 0 4 p c.finest-partition.ensures.fits long;
      finest = λ order few. omega (arith, finest_fewer n 0 order c.args.most (omega arith), c.finest-partition.ensures.value);
    }
