use Rattle.std.proofs.Common.{◌≡◌, ◌≤◌, ◌<◌, ◌+◌, ◌-◌, ◌*◌, ℕ, ℤ, List, Result, Ok, Err, length, take, drop, length-take, length-drop, ◌++◌, arith, ap, sym, ◌∙◌}
use Rattle.std.proofs.lemmas.Slice.{take-put_mid}
use Rattle.std.proofs.lemmas.List.{take_all}
use Rattle.std.proofs.lemmas.Nat.{mul-le}
use borrow.Rule.Slice.PartMut.{put_mid, same_len_mid}
use Rattle.flac_definitions.specs.Bits.{Place}
use Rattle.flac_definitions.specs.declared.fault.ResidualFault.{ResidualFault}
use Rattle.flac_definitions.specs.Residual.{partition_at}
use Rattle.flac_rice.proofs.ValueLaws.{parts_next, parts_fault, parts_done}
use Rattle.flac_rice.proofs.partition.all_partitions_into.Goals as goal

same_partition : (size m n : ℕ) (p : Place) (r : Result (List ℤ × Place) ResidualFault) → m ≡ n → partition_at size m p ≡ r → partition_at size n p ≡ r
same_partition size m n p r e h = ap (λ k. partition_at size k p) (sym e) ∙ h

part_length : (out : List ℤ) (first i each rest done : ℕ) → done ≡ first + i * each → i < rest → length out ≡ first + rest * each → length (take (done + each - done) (drop done out)) ≡ each
part_length out first i each rest done d h l =
    omega (arith, length-take (done + each - done) (drop done out), length-drop done out, mul-le (i + 1) each rest each (omega arith) (omega arith))

pub returns-in-Err-partition_into-clause-filled : goal.returns-in-Err-partition_into-clause-filled
returns-in-Err-partition_into-clause-filled c =
    let here : Place = record { bytes = c.args.bytes.now; at = c.loop-i.here } in
    sym c.loop-i.invariant.read ∙ parts_fault c.args.size c.args.each (c.args.rest - c.loop-i._i) (c.args.rest - c.loop-i._i - 1) (take c.loop-i.done c.loop-i.out) here c.in-Err-partition_into.e (omega arith)
    (same_partition c.args.size _ c.args.each here (Err c.in-Err-partition_into.e) (part_length c.loop-i.out c.args.first c.loop-i._i c.args.each c.args.rest c.loop-i.done c.loop-i.invariant.done (omega arith) c.loop-i.invariant.size) c.in-Err-partition_into.ensures.filled)

pub loop-i-preserved : goal.loop-i-preserved
loop-i-preserved c =
    let here : Place = record { bytes = c.args.bytes.now; at = c.loop-i.here } in
    let next : Place = record { bytes = c.args.bytes.now; at = c.in-Ok-partition_into.at } in
    let out = c.loop-i.out in let values = c.partition_into-in-loop-i.new.out in let done = c.loop-i.done in let each = c.args.each in
    let part = part_length out c.args.first c.loop-i._i each c.args.rest done c.loop-i.invariant.done (omega arith) c.loop-i.invariant.size in
    let within : done + each ≤ length out = omega (arith, c.loop-i.invariant.done, c.loop-i.invariant.size, mul-le (c.loop-i._i + 1) each c.args.rest each (omega arith) (omega arith)) in
    let lv : length values ≡ each = c.partition_into-in-loop-i.auto.out ∙ part in
    let front : take (done + each) (put_mid done (done + each - done) out values) ≡ take done out ++ values = take-put_mid done (done + each - done) out values (done + each) (omega arith) (omega arith) in
    record {
      there = c.in-Ok-partition_into.ensures.there;
      done = omega (arith, c.loop-i.invariant.done);
      size = same_len_mid done (done + each - done) out values (c.partition_into-in-loop-i.auto.out) ∙ c.loop-i.invariant.size;
      read = rw front (parts_next c.args.size each (c.args.rest - c.loop-i._i) (c.args.rest - (c.loop-i._i + 1)) (take done out) values here next (omega arith)
          (same_partition c.args.size _ each here (Ok (values, next)) part c.in-Ok-partition_into.ensures.filled) ∙ c.loop-i.invariant.read);
    }

pub returns-clause-filled : goal.returns-clause-filled
returns-clause-filled c =
    let here : Place = record { bytes = c.args.bytes.now; at = c.loop-i.here } in
    sym c.loop-i.invariant.read ∙ parts_done c.args.size c.args.each (c.args.rest - c.loop-i._i) (take c.loop-i.done c.loop-i.out) c.loop-i.out here (omega arith)
    (take_all c.loop-i.done c.loop-i.out (omega (arith, c.loop-i.invariant.done, c.loop-i.invariant.size, mul-le c.args.rest c.args.each c.loop-i._i c.args.each (omega arith) (omega arith))))
