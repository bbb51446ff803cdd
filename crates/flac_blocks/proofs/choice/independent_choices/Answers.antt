use Rattle.std.proofs.Common.{ℕ, ◌≡◌, ◌<◌, ◌+◌, List, [], ◌∷◌, ◌++◌, length, subst, sym, ap, arith, rules, ◌∙◌, length-append}
use Rattle.std.specs.Prelude.{slice_index_or}
use Rattle.flac_definitions.specs.declared.candidate.Choice.{Choice}
use Rattle.flac_definitions.specs.Modes.{channel_of}
use Rattle.flac_blocks.specs.Search.{IsBest}
use Rattle.flac_blocks.proofs.Choices.{choice_more, plain_choices}
use Rattle.flac_blocks.proofs.choice.independent_choices.Goals as goal

pub loop-c-preserved : goal.loop-c-preserved
loop-c-preserved c =
    let f = c.args.format in
    let items = c.loop-c.choices.items in
    let x = c.in_ok-choice.choice in
    let added : c.push.new.self.items ≡ items ++ x ∷ [] = search rules in
    record {
      count = ap (λ (l : List Choice). length l) added ∙ (length-append items (x ∷ []) ∙ omega (arith, c.loop-c.invariant.count));
      best = subst (λ (l : List Choice). (k : ℕ) (d : Choice) → k < c.loop-c.c + 1 → IsBest f.depth f.level (channel_of c.args.block c.args.samples.now k) (slice_index_or l k d)) (sym added)
          (choice_more (λ k y. IsBest f.depth f.level (channel_of c.args.block c.args.samples.now k) y) items x c.loop-c.c c.loop-c.invariant.count c.loop-c.invariant.best c.in_ok-choice.ensures);
    }

pub returns-clause-best : goal.returns-clause-best
returns-clause-best c =
    plain_choices c.args.format c.args.block c.args.samples.now c.loop-c.choices.items c.requires.format
    (λ k d less. c.loop-c.invariant.best k d (omega (arith, less, c.loop-c-test.false)))
