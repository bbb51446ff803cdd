use Rattle.std.proofs.Common.{◌≡◌, ◌+◌, ℤ, Ok, length-set, arith, ap, sym, ◌∙◌}
use Rattle.flac_definitions.specs.Bits.{Place}
use mir.Val.{to_z, of_z}
use Rattle.std.proofs.lemmas.Int.{to_z-of_z}
use mir.Syntax.{w32}
use Rattle.flac_definitions.specs.Residual.{plain_at}
use Rattle.flac_rice.proofs.ValueLaws.{each_next, plain_there}
use Rattle.flac_rice.proofs.partition.plain_values_into.Goals as goal

pub loop-place-preserved : goal.loop-place-preserved
loop-place-preserved c =
    let k = c.args.width in
    let here : Place = record { bytes = c.args.bytes.now; at = c.loop-place.here } in
    let next : Place = record { bytes = c.args.bytes.now; at = c.loop-place.here + k } in
    let stored : to_z w32 (of_z w32 c.signed_number.result) ≡ c.signed_number.result = grind (arith, to_z-of_z) in
    let one : plain_at k here ≡ Ok (to_z w32 (of_z w32 c.signed_number.result), next) =
    plain_there c.args.bytes.now c.loop-place.here k c.number_at.result (omega arith) c.number_at.ensures.number ∙ ap (λ (x : ℤ). Ok (x, next)) (sym (stored ∙ c.signed_number.ensures)) in
    record {
      there = omega arith;
      read = rw length-set (each_next (plain_at k) c.loop-place.out c.loop-place.place-index here next (to_z w32 (of_z w32 c.signed_number.result)) (omega arith) one ∙ c.loop-place.invariant.read);
    }
