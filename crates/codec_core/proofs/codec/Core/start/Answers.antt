use Rattle.std.proofs.Common.{◌≡◌, ◌∙◌, ◌++◌, ◌∷◌, [], Some, None, is_some, refl, ap, sym, arith}
use Rattle.codec_model.specs.{declared.entry.Entry.Entry, Control.start_item}
use Rattle.codec_accounts.specs.Boxes.{lacking}
use Rattle.codec_core.specs.Job.{JobValue, missing_id}
use Rattle.codec_core.specs.Codec.{Codec, Makes, state_at, went_out}
use Rattle.codec_core.proofs.Steps.{start_moves, start_job, start_lacks, state_is, makes_more, place_kept}
use Rattle.codec_core.proofs.{Recorded.core_more, Recorded.next_fits, codec.Core.start.Given.Over}
use Rattle.codec_core.proofs.Owning.{seen, out_start, own_job, back_start}
use Rattle.codec_core.proofs.codec.Core.start.Goals as goal

pub start-requires : goal.start-requires
start-requires g c = next_fits c.self.invariant

item_is : (g : Over) (c : goal.After-push g) → start_item c.self.inside.machine ≡ Some c.in_ok-item.item
item_is g c = sym c.start.ensures.item ∙ c.in_ok-item.was

abbrev job : (g : Over) (c : goal.After-push g) → JobValue
job g c = record { epoch = c.self.inside.machine.epoch; number = c.in_ok-item.item.number; place = c.self.inside.machine.place; work = c.in_ok-item.item.work; coder = c.self.inside.slot }

abbrev new : (g : Over) (c : goal.After-push g) → Codec
new g c = record { opening = c.start.new.self.opening; history = c.self.inside.trace.entries ++ Entry.Start c.self.inside.machine.epoch c.in_ok-item.item.number ∷ []; spare = c.self.inside.spare; slot = None; out = c.went_out-self-inside.result }

made : (g : Over) (c : goal.After-push g) → Makes (seen c.self.invariant) (new g c) (Entry.Start c.self.inside.machine.epoch c.in_ok-item.item.number)
made g c = makes_more c.self.invariant.kept (start_moves c.self.invariant.kept c.in_ok-item.item (item_is g c) c.start.ensures.after) c.self.inside.spare c.self.inside.spare c.self.inside.out c.went_out-self-inside.result

lacks : (g : Over) (c : goal.After-push g) → missing_id (job g c) ≡ lacking (state_at (seen c.self.invariant)).given (start_item (state_at (seen c.self.invariant)).control)
lacks g c =
    let kept = c.self.invariant.kept in
    rw (state_is kept c.self.inside.spare c.self.inside.out) (start_lacks kept c.in_ok-item.item (item_is g c) ∙ ap (lacking kept.state.given) (sym (ap start_item kept.is_control ∙ item_is g c)))

went : (g : Over) (c : goal.After-push g) → c.went_out-self-inside.result ≡ went_out (is_some (missing_id (job g c))) c.self.inside.machine.place c.self.inside.slot
went g c = rw (c.went_out-self-inside.ensures, c.is_some-asks.ensures, c.missing_id.ensures, c.replace-coder.ensures.value, c.place-place.ensures) refl

pub invariant_of-self-2 : goal.invariant_of-self-2
invariant_of-self-2 g c =
    let kept = c.self.invariant.kept in
    let m = start_moves kept c.in_ok-item.item (item_is g c) c.start.ensures.after in
    rw (c.push.ensures, c.replace-coder.ensures.after, c.epoch-epoch.ensures)
    (core_more c.self.invariant _ c.self.inside.spare _ m refl c.went_out-self-inside.result refl (omega (arith, c.in_ok-item.ensures.left, c.self.invariant.places, place_kept kept m), c.self.invariant.fits) tt
    (λ runs. rw (went g c) (out_start (seen c.self.invariant) (new g c) (job g c) (made g c) (lacks g c) kept.is_place refl c.self.invariant.own)))

pub returns-clause-some : goal.returns-clause-some
returns-clause-some g c = rw (← c.self.view_is, c.push.ensures, c.replace-coder.ensures.after, c.epoch-epoch.ensures) (made g c)

pub returns-clause-job : goal.returns-clause-job
returns-clause-job g c =
    let kept = c.self.invariant.kept in
    rw (c.push.ensures, c.epoch-epoch.ensures, c.replace-coder.ensures.value) (start_job kept c.in_ok-item.item _ _ (item_is g c) (rw (state_is kept c.self.inside.spare c.self.inside.out) at (made g c).steps))

pub returns-clause-lacks : goal.returns-clause-lacks
returns-clause-lacks g c =
    rw (c.replace-coder.ensures.value, ← c.self.view_is, state_is c.self.invariant.kept c.self.inside.spare c.self.inside.out) (start_lacks c.self.invariant.kept c.in_ok-item.item (item_is g c))

pub returns-clause-out : goal.returns-clause-out
returns-clause-out g c = rw (c.replace-coder.ensures.value, c.place-place.ensures) (went g c)

pub returns-clause-own : goal.returns-clause-own
returns-clause-own g c = own_job _ _ (returns-clause-out g c)

pub returns-clause-lets : goal.returns-clause-lets
returns-clause-lets g c =
    rw (c.push.ensures, c.replace-coder.ensures.value, c.place-place.ensures, c.epoch-epoch.ensures, c.replace-coder.ensures.after)
    (back_start (seen c.self.invariant) (new g c) (job g c) (made g c) (lacks g c) c.self.invariant.kept.is_place refl c.self.invariant.own)
