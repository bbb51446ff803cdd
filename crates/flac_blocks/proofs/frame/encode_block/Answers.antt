use Rattle.std.proofs.Common.{Bool, List, ◌≡◌, subst}
use Rattle.std.specs.Result.{IfOk}
use Rattle.flac_definitions.specs.Bits.{bits_in}
use Rattle.flac_blocks.proofs.Written.{best_has_mode, best_fits, best_count, best_frame}
use Rattle.flac_blocks.proofs.frame.encode_block.Goals as goal

pub write_frame-requires-clause-mode : goal.write_frame-requires-clause-mode
write_frame-requires-clause-mode c = best_has_mode c.args.format c.args.block c.args.samples.now c.in_ok-choice.choice c.in_ok-choice.ensures

pub write_frame-requires-clause-count : goal.write_frame-requires-clause-count
write_frame-requires-clause-count c = best_count c.args.format c.args.block c.args.samples.now c.in_ok-choice.choice c.requires.block c.in_ok-choice.ensures

pub write_frame-requires-clause-fit : goal.write_frame-requires-clause-fit
write_frame-requires-clause-fit c = best_fits c.args.format c.args.block c.args.samples.now c.in_ok-choice.choice c.requires.format c.requires.block c.in_ok-choice.ensures

pub returns : goal.returns
returns c =
    subst (λ (l : List Bool). IfOk c.write_frame.result (λ v. bits_in v.items ≡ l)) (best_frame c.args.format c.args.block c.args.number c.args.samples.now c.in_ok-choice.choice c.in_ok-choice.ensures) c.write_frame.ensures
