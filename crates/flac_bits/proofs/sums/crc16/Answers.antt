use Rattle.std.proofs.Common.{[], arith, ap, sym, ◌∙◌}
use Rattle.flac_bits.specs.ByteSums.{after_bytes}
use Rattle.flac_bits.proofs.ByteSumLaws.{sum_bytes, sum_nothing, all_bytes}
use Rattle.flac_bits.proofs.sums.crc16.Goals as goal

pub returns : goal.returns
returns c =
    let bytes = c.args.bytes.now in
    c.few_16.ensures ∙ c.loop-rest.invariant
    ∙ ap (λ s. after_bytes 16 0x8005 s bytes) (sum_nothing 16 0x8005)
    ∙ sym (sum_bytes 16 0x8005 [] bytes (omega arith) (omega arith) (all_bytes bytes (λ i. omega (arith, c.type_inv.bytes i))))
