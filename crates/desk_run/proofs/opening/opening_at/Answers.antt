use Rattle.std.proofs.Common.{◌∙◌, Some, ap, sym}
use Rattle.std.proofs.lemmas.Option.{get_or_from_slice_get}
use Rattle.codec_model.specs.declared.entry.Opening.{Opening}
use Rattle.desk_run.proofs.Lists.{get_there}
use Rattle.desk_run.proofs.opening.opening_at.Goals as goal

pub returns-clause-at : goal.returns-clause-at
returns-clause-at c =
    let w = get_there c.args.openings.now c.args.place c.requires.place in
    w.1 ∙ ap (λ (o : Opening). Some o) (sym (get_or_from_slice_get c.args.openings.now c.args.place w.0 _ w.1))

pub returns-clause-low : goal.returns-clause-low
returns-clause-low c = (c.requires.may c.args.place _ (returns-clause-at c)).0

pub returns-clause-high : goal.returns-clause-high
returns-clause-high c = (c.requires.may c.args.place _ (returns-clause-at c)).1
