use Rattle.std.proofs.Common.{◌≡◌, List, ap, sym, ◌∙◌}
use Rattle.codec_laws.specs.declared.sight.Sight.{Sight}
use Rattle.codec_laws.specs.Seen.{fall_from}
use Rattle.codec_laws.specs.Sights.{sights}
use Rattle.codec_laws.proofs.FoundLaws.{is_fall, never_falls}
use Rattle.segmented_list.specs.Segments.{joined}
use Rattle.codec_laws.proofs.falls.fall_between.Goals as goal

pub unreachable-requires : goal.unreachable-requires
unreachable-requires c =
    let seen : c.deref.result.now ≡ sights c.args.opening (joined c.args.history.now) = c.deref.ensures.value ∙ c.in_ok-seen.ensures in
    never_falls (sights c.args.opening (joined c.args.history.now)) c.args.after c.args.before (ap (λ (xs : List Sight). fall_from c.args.after c.args.before 0 0 xs) (sym seen) ∙ (sym c.first_fall.ensures ∙ c.in-None.is)) (c.size_falls_between.ensures c.args.opening (joined c.args.history.now) c.requires.saturation c.requires.legal c.args.after c.args.before c.requires.order c.requires.first c.requires.last)

pub returns : goal.returns
returns c =
    let seen : c.deref.result.now ≡ sights c.args.opening (joined c.args.history.now) = c.deref.ensures.value ∙ c.in_ok-seen.ensures in
    is_fall (sights c.args.opening (joined c.args.history.now)) c.args.after c.args.before c.in-Some.place (ap (λ (xs : List Sight). fall_from c.args.after c.args.before 0 0 xs) (sym seen) ∙ (sym c.first_fall.ensures ∙ c.in-Some.is))
