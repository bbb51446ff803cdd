use Rattle.std.proofs.Common.{◌≡◌, ◌≤◌, ◌++◌, ◌∷◌, ◌∙◌, ap, sym, subst, map, length, take, List, rules}
use Rattle.std.specs.Vec.Iter.{into_iter_items}
use Rattle.std.proofs.lemmas.List.{map-append}
use Rattle.codec_model.specs.Shown.{shown_of}
use Rattle.codec_model.specs.declared.entry.Shown.{Shown}
use Rattle.segmented_list.specs.Segments.{joined}
use Rattle.codec_judge.proofs.Walking.{few_taken, taken_on}
use Rattle.codec_judge.proofs.shown.first_shown.Goals as goal

pub loop-segment-preserved : goal.loop-segment-preserved
loop-segment-preserved c =
    let most = c.args.most in
    let was = c.loop-segment.shown.items in
    let here = map shown_of c.in-Some.segment.items in
    let rest = into_iter_items c.next.new.self in
    let behind = map shown_of (joined rest) in
    let new = c.push_shown.new.shown.items in
    let pushed : new ≡ take most (was ++ here) = c.in_ok-push_shown.ensures ∙ ap (λ xs. take most (was ++ map shown_of xs)) c.into_items.ensures in
    let next : into_iter_items c.loop-segment.segment-iterator ≡ c.in-Some.segment ∷ rest = search rules in
    let all : map shown_of (joined (into_iter_items c.loop-segment.segment-iterator)) ≡ here ++ behind = ap (λ xs. map shown_of (joined xs)) next ∙ map-append shown_of c.in-Some.segment.items (joined rest) in
    record {
      all = taken_on most was here behind new pushed ∙ (ap (λ xs. take most (was ++ xs)) (sym all) ∙ c.loop-segment.invariant.all);
      few = subst (λ (xs : List Shown). length xs ≤ most) (sym pushed) (few_taken most (was ++ here));
      long = search rules;
    }
