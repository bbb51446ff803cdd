use Rattle.std.proofs.Common.{length, ◌<◌, ◌∙◌, arith}
use mir.Syntax.{w32}
use mir.Val.{SFits}
use Rattle.std.proofs.lemmas.Int.{to_z-of_z}
use Rattle.std.proofs.Common.{to_z, of_z}
use Rattle.c_library.specs.Frames.{sample_in}
use Rattle.c_library.proofs.Filled.{one_more}
use Rattle.c_library.proofs.frames.unpack.Goals as goal

pub loop-i-preserved : goal.loop-i-preserved
loop-i-preserved c =
    let value = c.sample_in.result in
    let fits : SFits w32 value = record { sfits = c.sample_in.type_inv } in
    let there : c.loop-i.i < length c.loop-i.room = omega (arith, c.loop-i-test.true, c.loop-i.auto.room) in
    one_more (sample_in c.args.depth c.args.bytes.now) c.loop-i.room c.loop-i.i (to_z w32 (of_z w32 value)) there (to_z-of_z w32 value fits ∙ c.sample_in.ensures) c.loop-i.invariant
