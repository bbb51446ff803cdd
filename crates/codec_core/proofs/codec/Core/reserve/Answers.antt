use Rattle.std.proofs.Common.{arith}
use Rattle.codec_core.proofs.Steps.{most_reclaims}
use Rattle.codec_core.proofs.codec.Core.reserve.Goals as goal

pub invariant_of-self-2 : goal.invariant_of-self-2
invariant_of-self-2 g c =
    let is = c.self.invariant in
    rw c.in_ok-reserve.ensures.ok (record {
      kept = is.kept;
      shows = is.shows;
      outputs = is.outputs;
      own = is.own;
      lent = is.lent;
      places = omega (arith, c.in_ok-places.ensures, most_reclaims c.self.inside.machine.phase);
      fits = rw c.in_ok-reserve.ensures.ok at c.in_ok-reserve.ensures.fits;
    })
