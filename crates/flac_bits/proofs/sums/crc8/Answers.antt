use Rattle.std.proofs.Common.{[], arith, ap, sym, ◌∙◌}
use Rattle.flac_bits.specs.ByteSums.{after_bytes}
use Rattle.flac_bits.proofs.ByteSumLaws.{sum_bytes, sum_nothing, all_bytes}
use Rattle.flac_bits.proofs.sums.crc8.Goals as goal

pub returns : goal.returns
returns c =
    let bytes = c.args.bytes.now in
    c.few_8.ensures ∙ c.loop-rest.invariant
    ∙ ap (λ s. after_bytes 8 0x07 s bytes) (sum_nothing 8 0x07)
    ∙ sym (sum_bytes 8 0x07 [] bytes (omega arith) (omega arith) (all_bytes bytes (λ i. omega (arith, c.type_inv.bytes i))))
