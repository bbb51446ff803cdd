use Rattle.std.proofs.Common.{ℕ, List, Bool, ap, ◌∙◌, ◌++◌, ◌/◌, ◌^◌, ◌≡◌, ◌<◌, ◌+◌, ◌-◌, map, length, slice_index, rules, subst}
use Rattle.std.specs.List.{range_with_len}
use Rattle.std.proofs.lemmas.List.{get_or_read}
use Rattle.flac_definitions.specs.Bits.{bits_of}
use Rattle.flac_definitions.specs.ResidualSpelling.{folded_value}
use Rattle.flac_definitions.specs.Plans.{part_of}
use Rattle.flac_definitions.specs.ResidualWriting.{part_spelled}
use Rattle.flac_plans.proofs.Spelled.{on_err, each_more, each_begun, range_at, range_more}
use Rattle.flac_plans.proofs.residual.write_residual.Goals as goal

pub loop-j-preserved : goal.loop-j-preserved
loop-j-preserved c =
    let a = c.args in
    let zs = map folded_value a.residual.now in
    let plan = a.plan.now in
    let size = a.block / 2 ^ plan.partition in
    let j = c.loop-j.j in
    let f : ℕ → List Bool = λ (j : ℕ). part_spelled (slice_index plan.parameters.items j) (part_of size a.order zs j) in
    let short : j < length plan.parameters.items = search rules in
    let k : c.index.result.now ≡ slice_index plan.parameters.items j = get_or_read plan.parameters.items j c.index.result.now short c.index.ensures 0 in
    let got : part_spelled c.index.result.now (map folded_value c.part_of.result.now) ≡ f j = ap (λ (x : ℕ). part_spelled x (map folded_value c.part_of.result.now)) k ∙ ap (part_spelled (slice_index plan.parameters.items j)) c.part_of.ensures.value in
    each_more f a.w.now (bits_of 2 0 ++ bits_of 4 plan.partition) c.loop-j.w c.write_part.new.w (part_spelled c.index.result.now (map folded_value c.part_of.result.now)) (range_with_len 0 j) (range_with_len 0 (j + 1)) j (range_more j) c.loop-j.invariant c.in_ok-write_part.ensures.ok got

pub returns-in_err-write_part-clause-err : goal.returns-in_err-write_part-clause-err
returns-in_err-write_part-clause-err c =
    let a = c.args in
    let zs = map folded_value a.residual.now in
    let plan = a.plan.now in
    let size = a.block / 2 ^ plan.partition in
    let j = c.loop-j.j in
    let n = 2 ^ plan.partition in
    let f : ℕ → List Bool = λ (j : ℕ). part_spelled (slice_index plan.parameters.items j) (part_of size a.order zs j) in
    let short : j < length plan.parameters.items = search rules in
    let less : j < n = subst (λ (m : ℕ). j < m) c.requires.usable.parameters short in
    let k : c.index.result.now ≡ slice_index plan.parameters.items j = get_or_read plan.parameters.items j c.index.result.now short c.index.ensures 0 in
    let got : part_spelled c.index.result.now (map folded_value c.part_of.result.now) ≡ f j = ap (λ (x : ℕ). part_spelled x (map folded_value c.part_of.result.now)) k ∙ ap (part_spelled (slice_index plan.parameters.items j)) c.part_of.ensures.value in
    on_err c.from_residual-in_err-write_part.result
    (each_begun f a.w.now (bits_of 2 0 ++ bits_of 4 plan.partition) c.loop-j.w c.write_part.new.w (part_spelled c.index.result.now (map folded_value c.part_of.result.now)) (range_with_len 0 n) (range_with_len 0 j) (range_with_len (j + 1) (n - j - 1)) j (range_at n j less) c.loop-j.invariant got c.in_err-write_part.ensures.err)
