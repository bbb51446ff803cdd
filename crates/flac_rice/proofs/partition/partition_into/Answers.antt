use Rattle.std.proofs.Common.{◌≤◌, ◌^◌, arith}
use Rattle.std.proofs.Math.Nat.{pow-le-pow_right}
use Rattle.std.proofs.lemmas.Nat.{one_shl}
use Rattle.flac_rice.proofs.partition.partition_into.Goals as goal

pub values_into-requires-clause-parameter : goal.values_into-requires-clause-parameter
values_into-requires-clause-parameter c =
    let p : 2 ^ c.args.size ≤ 2 ^ 5 = pow-le-pow_right {n = 2} (omega arith) c.requires.size in
    omega (arith, p, one_shl c.args.size 32 (omega arith))
