use Rattle.std.proofs.Common.{rules, ◌∷◌, [], ◌∙◌, List, length, length-append, sym, ap, subst, arith}
use Rattle.codec_model.specs.declared.entry.Opening.{Opening}
use Rattle.desk_run.specs.Opened.{MayOpen}
use Rattle.desk_tests.proofs.Openings.{no_openings, one_more}
use Rattle.desk_tests.proofs.desks.openings.Goals as goal

pub loop-init : goal.loop-init
loop-init c = record {
  may = no_openings _ (search rules);
  many = search rules;
  below = omega arith;
  room = search rules;
}

pub loop-preserved : goal.loop-preserved
loop-preserved c =
    let i = c.loop.invariant in
    let p = c.push_reserved.ensures in
    let o = c.opening.result in
    let xs = c.loop.openings.items in
    let is = c.opening.ensures in
    let longer = ap (λ (l : List Opening). length l) p.items ∙ length-append xs (o ∷ []) in
    record {
      may = subst (λ (l : List Opening). MayOpen l) (sym p.items) (one_more xs o (omega (arith, is), omega (arith, is)) i.may);
      many = omega (arith, longer, i.many);
      below = omega arith;
      room = omega (arith, p.capacity, i.room);
    }
