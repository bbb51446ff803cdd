use Rattle.std.proofs.Common.{ℤ, List, subst}
use Rattle.std.specs.Result.{IfOk}
use Rattle.flac_blocks.specs.Search.{IsBest}
use Rattle.flac_blocks.proofs.choice.plain_choice.Goals as goal

pub returns : goal.returns
returns c =
    subst (λ (l : List ℤ). IfOk c.best_choice.result (IsBest c.args.format.depth c.args.format.level l)) c.channel_of-channel.ensures c.best_choice.ensures
