use Rattle.std.proofs.Common.{◌≡◌, ◌++◌, ◌∷◌, [], None, is_some, true, eqb, refl, rules, arith}
use Rattle.codec_model.specs.{declared.entry.Entry.Entry}
use Rattle.codec_accounts.specs.ActLaws.{act_makes}
use Rattle.codec_core.specs.declared.out.Out.{Out}
use Rattle.codec_core.specs.Job.{DoneValue, outcome_of, IsEndOf}
use Rattle.codec_core.specs.Codec.{Codec, Makes, state_at, IsAskedAt, kept_box}
use Rattle.codec_core.specs.Owning.{asked_of}
use Rattle.codec_core.proofs.Steps.{done_moves, makes_more, place_kept}
use Rattle.codec_core.proofs.{Recorded.core_more, Recorded.next_fits, codec.Core.done.Given.Over}
use Rattle.codec_core.proofs.Owning.{seen, control_at, own_done, back_done, back_asked}
use Rattle.codec_core.proofs.codec.Core.done.Goals as goal

pub done-requires-clause-place : goal.done-requires-clause-place
done-requires-clause-place g c = next_fits c.self.invariant

abbrev job : (g : Over) (c : goal.After-push g) → DoneValue
job g c = record { epoch = c.d.inside.epoch; number = c.d.inside.number; kind = c.d.inside.kind; ended = c.d.inside.ended; coder = c.d.inside.coder }

abbrev made_entry : (g : Over) (c : goal.After-push g) → Entry
made_entry g c = Entry.Done c.d.inside.epoch c.d.inside.number c.args.moment (outcome_of c.d.inside.ended)

abbrev old : (g : Over) (c : goal.After-push g) → Codec
old g c = seen c.self.invariant

abbrev new : (g : Over) (c : goal.After-push g) → Codec
new g c = record { opening = c.done.new.self.opening; history = c.self.inside.trace.entries ++ made_entry g c ∷ []; spare = c.self.inside.spare; slot = c.hand_back-back.new.slot; out = Out.With None }

end_is : (g : Over) (c : goal.After-push g) → IsEndOf (state_at (old g c)) (job g c)
end_is g c = rw (← c.self.view_is, ← c.d.view_is) at c.requires.end

own_is : (g : Over) (c : goal.After-push g) → IsAskedAt (asked_of (old g c)) c.d.inside.coder
own_is g c =
    let ran : is_some c.self.inside.machine.running ≡ true = rw (← control_at c.self.invariant refl, (end_is g c).is_running) refl in
    back_asked c.self.inside.out _ c.d.inside.coder (c.self.invariant.lent ran) (rw (← c.self.view_is, ← c.d.view_is) at c.requires.own)

current : (g : Over) (c : goal.After-push g) → eqb c.d.inside.epoch (state_at (old g c)).control.epoch ≡ eqb c.d.inside.epoch c.self.inside.machine.epoch
current g c = rw (control_at c.self.invariant refl) refl

left : (g : Over) (c : goal.After-push g) → c.hand_back-back.new.slot ≡ kept_box (eqb c.d.inside.epoch c.self.inside.machine.epoch) c.d.inside.coder
left g c = rw (← c.epoch.ensures) c.hand_back-back.ensures.left

made : (g : Over) (c : goal.After-push g) → Makes (old g c) (new g c) (made_entry g c)
made g c = makes_more c.self.invariant.kept (done_moves c.self.invariant.kept (job g c) c.args.moment c.self.inside.spare c.self.inside.out (end_is g c) (left g c) c.done.ensures.after) c.self.inside.spare c.self.inside.spare c.self.inside.out (Out.With None)

pub invariant_of-self : goal.invariant_of-self
invariant_of-self g c =
    let m = done_moves c.self.invariant.kept (job g c) c.args.moment c.self.inside.spare c.self.inside.out (end_is g c) (left g c) c.done.ensures.after in
    rw (c.push.ensures, c.outcome_of_end-outcome.ensures)
    (core_more c.self.invariant _ c.self.inside.spare _ m refl (Out.With None) refl (omega (arith, c.done.ensures.left, c.self.invariant.places, place_kept c.self.invariant.kept m), c.self.invariant.fits)
    (rw (left g c) (own_done (old g c) (new g c) (job g c) c.args.moment (eqb c.d.inside.epoch c.self.inside.machine.epoch) (made g c) (end_is g c) (current g c) (own_is g c))) (λ runs. tt))

pub returns-clause-made : goal.returns-clause-made
returns-clause-made g c =
    rw (← c.d.view_is, ← c.self.view_is, c.push.ensures, c.outcome_of_end-outcome.ensures) (made g c)

pub returns-clause-idle : goal.returns-clause-idle
returns-clause-idle g c = (act_makes (Entry.Done c.args.d.epoch c.args.d.number c.args.moment (outcome_of c.args.d.ended)) (state_at c.args.self.now) _ (returns-clause-made g c).steps).1

pub returns-clause-lets : goal.returns-clause-lets
returns-clause-lets g c =
    rw (c.push.ensures, c.outcome_of_end-outcome.ensures)
    (back_done (old g c) (new g c) (job g c) c.args.moment (eqb c.d.inside.epoch c.self.inside.machine.epoch) _ _ (made g c) (end_is g c) (current g c) (own_is g c) (search rules) (rw (← c.epoch.ensures) c.hand_back-back.ensures.taken))
