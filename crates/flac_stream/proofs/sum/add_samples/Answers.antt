use Rattle.std.proofs.Common.{ℕ, ℤ, pos, List, ◌++◌, take, get_or, subst, rules}
use Rattle.std.specs.List.{flat_map}
use mir.Val.{SFits}
use mir.Syntax.{w32}
use Rattle.std.proofs.lemmas.Int.{to_z-of_z}
use Rattle.md5.specs.Md5.{Holds}
use Rattle.flac_stream.specs.Sums.{sample_bytes}
use Rattle.flac_stream.proofs.SumLaws.{next_sample}
use Rattle.flac_stream.proofs.sum.add_samples.Goals as goal

pub loop-i-preserved : goal.loop-i-preserved
loop-i-preserved c = λ message held.
    let xs = c.args.samples.now in
    let i = c.loop-i.i in
    let x = get_or xs i (pos 0) in
    let fx : SFits w32 x = search rules in
    let f = sample_bytes c.args.size in
    subst (λ (l : List ℕ). Holds c.add_sample.new.hasher l) (next_sample f message xs i _ c.loop-i-test.true (to_z-of_z w32 x fx)) (c.add_sample.ensures (message ++ flat_map f (take i xs)) (c.loop-i.invariant message held))
