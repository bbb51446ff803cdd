use Rattle.std.proofs.Common.{◌≡◌, ◌≤◌, ◌%◌, ◌*◌, ◌^◌, arith}
use Rattle.std.proofs.Math.Nat.{pow-le-pow_right}
use Rattle.std.proofs.lemmas.Nat.{one_shl}
use Rattle.std.proofs.lemmas.Int.{ints}
use Rattle.flac_decode.proofs.fields.signed_number.Goals as goal

pub overflow_sub-result : goal.overflow_sub-result
overflow_sub-result c =
    let p : 2 ^ c.args.size ≤ 2 ^ 33 = pow-le-pow_right {n = 2} (omega arith) c.requires.size in
    let s : 1 * 2 ^ c.args.size % 2 ^ 64 ≡ 2 ^ c.args.size = one_shl c.args.size 64 (omega arith) in
    omega (arith, ints, p, s)
