use Rattle.std.proofs.Common.{ℕ, ◌≡◌, ◌∙◌, ◌∷◌, [], List, Option, Some, length, length-append, sym, refl, ap, subst, arith}
use Rattle.std.specs.Prelude.{slice_get}
use Rattle.std.proofs.lemmas.Option.{slice_get_read}
use Rattle.codec_desk.specs.TallyLaws.{clocked_none, clocked_then}
use Rattle.script_types.specs.declared.steps.Step.{Step}
use Rattle.script_types.specs.Names.{looked_at}
use Rattle.report_text.specs.declared.result.StepResult.{StepResult}
use Rattle.shared_pool.specs.Refs.{IsPoolRef}
use Rattle.media_variables.specs.Held.{AreOf, WholeMedium, seen_in}
use Rattle.run_model.specs.Fits.{step_in}
use Rattle.desk_callers.specs.Acts.{DidAtPorts, IsPromised}
use Rattle.desk_callers.proofs.Doing.{HasDoneUntil, done_none, done_more, holds_none, names_next, ports_next, promised_next}
use Rattle.desk_callers.proofs.PortSteps.{keep_same, keep_then}
use Rattle.desk_callers.proofs.Growing.{stay_then}
use Rattle.desk_callers.proofs.Staying.{stay_none}
use Rattle.desk_callers.proofs.running.caller_steps.Goals as goal

pub returns-in_err-reserve-clause-stay : goal.returns-in_err-reserve-clause-stay
returns-in_err-reserve-clause-stay g c = stay_none c.args.desk.now c.args.seats.now c.requires.sits

pub loop-number-init : goal.loop-number-init
loop-number-init g c =
    let none : c.reserve.new.self.items ≡ [] = c.in_ok-reserve.ensures.items ∙ c.requires.first.0 in
    record {
      sits = c.requires.sits;
      runs = λ none. none;
      timed = clocked_none c.args.desk.now c.args.seats.now (g.K.Clock.told c.args.clock.now) c.requires.sits;
      stay = stay_none c.args.desk.now c.args.seats.now c.requires.sits;
      held = subst (λ (l : List (Option WholeMedium)). AreOf (IsPoolRef c.args.desk.now.pool) l) (sym c.requires.first.1) (holds_none (IsPoolRef c.args.desk.now.pool));
      passes = c.requires.passes;
      parts = keep_same c.args.passes.now.items;
      done = subst (λ (z : List StepResult × List (Option WholeMedium)). HasDoneUntil c.args.script.now c.args.media.now c.args.desk.now c.args.caller z.0 c.args.seats.now c.args.seats.now (seen_in z.1) c.args.passes.now.items 0) (λ i. (sym none i, sym c.requires.first.1 i))
          (done_none c.args.script.now c.args.media.now c.args.desk.now c.args.caller c.args.seats.now c.args.passes.now.items c.requires.sits c.requires.unused);
      many = sym (ap (λ (l : List StepResult). length l) none);
      below = omega arith;
      end = refl;
      room = (let ok = c.in_ok-reserve.ensures.ok in omega (arith, ok));
    }

pub returns-in-Err-clause-stay : goal.returns-in-Err-clause-stay
returns-in-Err-clause-stay g c = stay_then c.args.desk.now c.args.seats.now c.loop-number.seats c.caller_step.new.seats c.loop-number.invariant.stay c.caller_step.ensures.stay

pub caller_step-requires-clause-names : goal.caller_step-requires-clause-names
caller_step-requires-clause-names g c κs within =
    let t = c.loop-number-test.true in
    let n = c.loop-number.invariant.end in
    let read : slice_get c.steps_of-steps.result.now c.loop-number.number ≡ Some c.index-steps-number.result = slice_get_read _ _ c.loop-number.number c.index-steps-number.result refl t c.index-steps-number.is in
    names_next c.args.script.now (length c.args.desk.now.codecs.items) c.args.caller c.loop-number.number c.index-steps-number.result c.requires.sound c.requires.codecs (ap (λ (l : List Step). slice_get l c.loop-number.number) (sym c.steps_of-steps.ensures) ∙ read)

pub caller_step-requires-clause-ports : goal.caller_step-requires-clause-ports
caller_step-requires-clause-ports g c κs within =
    let t = c.loop-number-test.true in
    let n = c.loop-number.invariant.end in
    let read : slice_get c.steps_of-steps.result.now c.loop-number.number ≡ Some c.index-steps-number.result = slice_get_read _ _ c.loop-number.number c.index-steps-number.result refl t c.index-steps-number.is in
    ports_next c.args.script.now (length c.args.ports.now) c.args.caller c.loop-number.number c.index-steps-number.result c.requires.sound c.requires.ports (ap (λ (l : List Step). slice_get l c.loop-number.number) (sym c.steps_of-steps.ensures) ∙ read)

pub returns-in_err-reserve-clause-parts : goal.returns-in_err-reserve-clause-parts
returns-in_err-reserve-clause-parts g c = keep_same c.args.passes.now.items

pub returns-in-Err-clause-parts : goal.returns-in-Err-clause-parts
returns-in-Err-clause-parts g c = keep_then c.args.passes.now.items c.loop-number.passes.items c.caller_step.new.passes.items (c.loop-number.invariant.passes.many ∙ sym c.requires.passes.many) c.loop-number.invariant.parts c.caller_step.ensures.parts

pub caller_step-requires-clause-promised : goal.caller_step-requires-clause-promised
caller_step-requires-clause-promised g c κs within =
    let i = c.loop-number.invariant in
    let t = c.loop-number-test.true in
    let n = i.end in
    let rs = c.loop-number.results.items in
    let read : slice_get c.steps_of-steps.result.now c.loop-number.number ≡ Some c.index-steps-number.result = slice_get_read _ _ c.loop-number.number c.index-steps-number.result refl t c.index-steps-number.is in
    let step : step_in c.args.script.now c.args.caller (length rs) ≡ Some c.index-steps-number.result =
    ap (λ (l : List Step). slice_get l (length rs)) (sym c.steps_of-steps.ensures) ∙ (ap (λ (m : ℕ). slice_get c.steps_of-steps.result.now m) (sym i.many) ∙ read) in
    subst (λ (l : List StepResult). IsPromised (length c.args.desk.now.codecs.items) l (looked_at c.index-steps-number.result)) (sym c.as_slice.ensures.value)
    (promised_next c.args.script.now c.args.media.now c.args.desk.now (length c.args.desk.now.codecs.items) c.args.caller rs c.args.seats.now c.loop-number.seats (seen_in c.loop-number.variables) c.loop-number.passes.items c.index-steps-number.result c.requires.sound c.requires.codecs i.done.done step)

pub loop-number-preserved : goal.loop-number-preserved
loop-number-preserved g c =
    let i = c.loop-number.invariant in
    let e = c.in-Ok.ensures in
    let t = c.loop-number-test.true in
    let n = i.end in
    let rs = c.loop-number.results.items in
    let push = c.push_reserved.ensures in
    let early : ℕ = c.in_ok-time.time in
    let next = c.in_ok-time.ensures.0 in
    let desk = c.args.desk.now in
    let read : slice_get c.steps_of-steps.result.now c.loop-number.number ≡ Some c.index-steps-number.result = slice_get_read _ _ c.loop-number.number c.index-steps-number.result refl t c.index-steps-number.is in
    let step : step_in c.args.script.now c.args.caller (length rs) ≡ Some c.index-steps-number.result =
    ap (λ (l : List Step). slice_get l (length rs)) (sym c.steps_of-steps.ensures) ∙ (ap (λ (m : ℕ). slice_get c.steps_of-steps.result.now m) (sym i.many) ∙ read) in
    let did = subst (λ (z : ℕ × List StepResult). DidAtPorts c.args.script.now c.args.media.now desk (record { caller = c.args.caller; step = z.0 }) c.index-steps-number.result z.1 c.loop-number.seats c.caller_step.new.seats (seen_in c.loop-number.variables) (seen_in c.caller_step.new.variables) c.loop-number.passes.items c.caller_step.new.passes.items early c.caller_step.new.time c.in-Ok.result) (λ k. (i.many k, c.as_slice.ensures.value k)) e.did in
    record {
      sits = e.sits;
      runs = λ none. e.runs (i.runs none);
      timed = clocked_then desk c.args.seats.now c.loop-number.seats c.caller_step.new.seats (g.K.Clock.told c.args.clock.now) (g.K.Clock.told c.loop-number.clock) (g.K.Clock.told c.caller_step.new.clock) i.timed e.timed;
      stay = stay_then desk c.args.seats.now c.loop-number.seats c.caller_step.new.seats i.stay e.stay;
      passes = e.passes;
      parts = keep_then c.args.passes.now.items c.loop-number.passes.items c.caller_step.new.passes.items (i.passes.many ∙ sym c.requires.passes.many) i.parts e.parts;
      held = e.held;
      done = subst (λ (l : List StepResult). HasDoneUntil c.args.script.now c.args.media.now desk c.args.caller l c.args.seats.now c.caller_step.new.seats (seen_in c.caller_step.new.variables) c.caller_step.new.passes.items c.caller_step.new.time) (sym push.items)
          (done_more c.args.script.now c.args.media.now desk c.args.caller rs c.args.seats.now c.loop-number.seats c.caller_step.new.seats (seen_in c.loop-number.variables) (seen_in c.caller_step.new.variables) c.loop-number.passes.items c.caller_step.new.passes.items c.index-steps-number.result c.in-Ok.result c.loop-number.time early c.caller_step.new.time i.done (omega (arith, next)) step did);
      many = (let more = ap (λ (l : List StepResult). length l) push.items ∙ length-append rs (c.in-Ok.result ∷ []) in let was = i.many in omega (arith, more, was));
      below = omega (arith, t);
      end = n;
      room = (let same = push.capacity in let was = i.room in omega (arith, same, was));
    }

pub returns-in_err-reserve-clause-timed : goal.returns-in_err-reserve-clause-timed
returns-in_err-reserve-clause-timed g c = clocked_none c.args.desk.now c.args.seats.now (g.K.Clock.told c.args.clock.now) c.requires.sits

pub returns-in-Err-clause-timed : goal.returns-in-Err-clause-timed
returns-in-Err-clause-timed g c =
    clocked_then c.args.desk.now c.args.seats.now c.loop-number.seats c.caller_step.new.seats (g.K.Clock.told c.args.clock.now) (g.K.Clock.told c.loop-number.clock) (g.K.Clock.told c.caller_step.new.clock) c.loop-number.invariant.timed c.caller_step.ensures.timed

pub caller_step-requires-clause-time : goal.caller_step-requires-clause-time
caller_step-requires-clause-time g c κs within = c.in_ok-time.ensures.1

pub returns-clause-done : goal.returns-clause-done
returns-clause-done g c = c.loop-number.invariant.done.done
