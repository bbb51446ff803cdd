use Rattle.std.proofs.Common.{◌≡◌, ◌*◌, ◌/◌, ◌%◌, arith, ap, ◌∙◌}
use Rattle.std.specs.Prelude.{bit_and}
use Rattle.std.specs.Int.Bits.{bit_xor}
use Rattle.std.proofs.lemmas.Nat.{and_mask}
use Rattle.flac_bits.specs.ByteSums.{after_zeros}
use Rattle.flac_bits.proofs.ByteSumLaws.{next_byte_16}
use Rattle.flac_bits.proofs.sums.next_16.Goals as goal

pub returns : goal.returns
returns c =
    let s = c.args.sum in
    let k = bit_xor (s / 256) c.args.byte in
    let low : bit_and s 255 * 256 % 65536 ≡ (s % 256) * 256 = omega (arith, and_mask s 8) in
    ap (λ n. bit_xor (bit_and s 255 * 256 % 65536) n) c.part_0.ensures
    ∙ ap (λ n. bit_xor n (after_zeros 16 0x8005 16 k)) low
    ∙ next_byte_16 0x8005 s c.args.byte (omega arith) (omega arith) (omega arith)
