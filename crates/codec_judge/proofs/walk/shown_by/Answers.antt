use Rattle.std.proofs.Common.{◌≡◌, ◌∙◌, map, List, take}
use Rattle.codec_model.specs.Shown.{shown_of}
use Rattle.codec_model.specs.declared.entry.Shown.{Shown}
use Rattle.codec_judge.specs.Lawful.{lawful_shown}
use Rattle.codec_judge.proofs.Walking.{always_ok, each_ok, lawfully_shown, opened, same_lender}
use Rattle.codec_judge.proofs.walk.shown_by.Goals as goal

pub walk-requires-clause-stands : goal.walk-requires-clause-stands
walk-requires-clause-stands g c κs within = opened c.in_ok-core.core c.args.lender.now c.in_ok-core.ensures.history c.in_ok-core.ensures.slot c.requires.back

pub returns-clause-shown : goal.returns-clause-shown
returns-clause-shown g c =
    let l = c.args.lender.now in
    let shown = map shown_of c.in_ok-showings.showings in
    each_ok (λ (xs : List Shown). xs ≡ take c.in_ok-count.count shown) (λ (xs : List Shown). xs ≡ lawful_shown l.home c.args.opening c.args.entries.now) c.first_shown.result
    (λ xs is. lawfully_shown l c.in_ok-core.core c.args.opening c.args.entries.now c.in_ok-count.count c.walk.new.judge.core c.walk.new.judge.job c.walk.new.lender shown xs c.in_ok-count.ensures c.in_ok-core.ensures.opening c.in_ok-showings.ensures.shows is)
    c.first_shown.ensures

pub returns-clause-same : goal.returns-clause-same
returns-clause-same g c =
    always_ok c.first_shown.result _ (same_lender c.args.lender.now c.finish.new.lender (c.in_ok-showings.ensures.home ∙ c.in_ok-count.ensures.home) c.in_ok-showings.ensures.back c.requires.back)
