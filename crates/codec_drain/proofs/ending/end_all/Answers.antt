use Rattle.std.proofs.Common.{◌≡◌, ◌∷◌, List, is_some, ap, subst, length, arith}
use Rattle.std.specs.Vec.Iter.{into_iter_items}
use Rattle.wc_pool.specs.declared.reference.MediaRef.{MediaRef}
use Rattle.codec_drain.proofs.DrainLaws.{Ending, ending_live, ending_more}
use Rattle.codec_drain.proofs.ending.end_all.Goals as goal

pub end-requires : goal.end-requires
end-requires c =
    let at = c.loop-r in
    let r = c.in-Some.r in
    let rest = into_iter_items c.next.new.self in
    let steps : into_iter_items at.r-iterator ≡ r ∷ rest = c.in-Some.ensures.steps.0 in
    ending_live c.args.codec c.args.media.items r rest c.args.pool.now at.pool c.requires (subst (λ (l : List MediaRef). Ending c.args.codec c.args.media.items l c.args.pool.now at.pool) steps at.invariant.ending)

pub loop-r-preserved-in-Some : goal.loop-r-preserved-in-Some
loop-r-preserved-in-Some c =
    let at = c.loop-r in
    let r = c.in-Some.r in
    let rest = into_iter_items c.next.new.self in
    let steps : into_iter_items at.r-iterator ≡ r ∷ rest = c.in-Some.ensures.steps.0 in
    let short = ap length steps in
    record {
      long = omega (arith, short, c.in-Some.ensures.steps.1, at.invariant.long);
      ending = ending_more c.args.codec c.args.place (is_some c.end.result) c.args.media.items r rest c.args.pool.now at.pool c.end.new.self (subst (λ (l : List MediaRef). Ending c.args.codec c.args.media.items l c.args.pool.now at.pool) steps at.invariant.ending) c.end.ensures.ended c.end.ensures.kept;
    }

pub loop-r-preserved-in-Some-2 : goal.loop-r-preserved-in-Some-2
loop-r-preserved-in-Some-2 c =
    let at = c.loop-r in
    let r = c.in-Some.r in
    let rest = into_iter_items c.next.new.self in
    let steps : into_iter_items at.r-iterator ≡ r ∷ rest = c.in-Some.ensures.steps.0 in
    let short = ap length steps in
    record {
      long = omega (arith, short, c.in-Some.ensures.steps.1, at.invariant.long);
      ending = ending_more c.args.codec c.args.place (is_some c.end.result) c.args.media.items r rest c.args.pool.now at.pool c.end.new.self (subst (λ (l : List MediaRef). Ending c.args.codec c.args.media.items l c.args.pool.now at.pool) steps at.invariant.ending) c.end.ensures.ended c.end.ensures.kept;
    }

pub loop-r-preserved : goal.loop-r-preserved
loop-r-preserved c =
    let at = c.loop-r in
    let r = c.in-Some.r in
    let rest = into_iter_items c.next.new.self in
    let steps : into_iter_items at.r-iterator ≡ r ∷ rest = c.in-Some.ensures.steps.0 in
    let short = ap length steps in
    record {
      long = omega (arith, short, c.in-Some.ensures.steps.1, at.invariant.long);
      ending = ending_more c.args.codec c.args.place (is_some c.end.result) c.args.media.items r rest c.args.pool.now at.pool c.end.new.self (subst (λ (l : List MediaRef). Ending c.args.codec c.args.media.items l c.args.pool.now at.pool) steps at.invariant.ending) c.end.ensures.ended c.end.ensures.kept;
    }
