use Rattle.std.proofs.Common.{◌≡◌, ◌+◌, ◌-◌, ◌^◌, ℤ, pos, get_or, arith, rules, ap, ◌∙◌}
use Rattle.std.specs.Prelude.{◌*ℤ◌}
use mir.Val.{SFits}
use mir.Syntax.{w64}
use Rattle.std.proofs.lemmas.Int.{to_z-of_z}
use Rattle.flac_decode.proofs.RestoreLaws.{change_next, push_small}
use Rattle.flac_decode.proofs.subframe.add_wasted_bits.Goals as goal

pub loop-s-preserved : goal.loop-s-preserved
loop-s-preserved c =
    let xs = c.args.samples.now in let cur = c.loop-s.samples in let i = c.loop-s.s-index in let v = c.sample_with_wasted_bits.result in
    let x = get_or cur i (pos 0) in
    let f : ℤ → ℤ = λ s. s *ℤ pos (2 ^ c.args.wasted) in
    let fx : SFits w64 x = search rules in
    let fv : SFits w64 v = record { sfits = c.sample_with_wasted_bits.type_inv } in
    let ev : v ≡ f x = c.sample_with_wasted_bits.ensures.sample ∙ ap f (to_z-of_z w64 x fx) in
    let n = change_next f xs cur i v (omega arith) c.loop-s.invariant.done ev in
    record {
      done = rw (to_z-of_z w64 v fv) n.0;
      narrow = rw n.1 (push_small (c.args.depth + c.args.wasted - 1) _ v c.loop-s.invariant.narrow c.sample_with_wasted_bits.ensures.narrow);
    }
