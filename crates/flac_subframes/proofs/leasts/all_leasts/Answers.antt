use Rattle.std.proofs.Common.{ℕ, ◌≡◌, subst, arith}
use Rattle.flac_subframes.specs.Leasts.{AreLeasts}
use Rattle.flac_subframes.proofs.LeastLaws.{no_parts}
use Rattle.flac_subframes.proofs.leasts.all_leasts.Goals as goal

pub loop-j-init : goal.loop-j-init
loop-j-init c =
    let xs = c.args.samples.now in
    let size = c.args.parts.size in
    record {
      none = no_parts xs size 0;
      one = no_parts xs size 1;
      two = no_parts xs size 2;
      three = no_parts xs size 3;
      four = no_parts xs size 4;
    }

pub returns : goal.returns
returns c =
    let end : c.loop-j.j ≡ c.args.parts.count = omega arith in
    subst (λ (n : ℕ). AreLeasts c.args.samples.now c.args.parts.size n c.loop-j.sums) end c.loop-j.invariant
