use Rattle.std.proofs.Common.{ℤ, List, sym, subst}
use Rattle.flac_definitions.specs.Modes.{AreChoices}
use Rattle.flac_definitions.specs.declared.mode.ChannelMode.TheVariants.{Independent}
use Rattle.flac_blocks.proofs.Choices.{plain_mode}
use Rattle.flac_blocks.proofs.choice.independent_block.Goals as goal

pub returns : goal.returns
returns c =
    let f = c.args.format in
    let choices = c.in_ok-choices.choices.items in
    record {
      mode = sym (plain_mode f c.args.block c.args.samples.now c.requires.alone);
      coded = c.in_ok-coded.ensures.items;
      count = c.in_ok-choices.ensures.count;
      choices = subst (λ (l : List ℤ). AreChoices f Independent c.args.block l choices) (sym c.in_ok-coded.ensures.items) c.in_ok-choices.ensures.best;
    }
