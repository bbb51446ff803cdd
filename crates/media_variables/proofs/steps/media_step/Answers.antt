use Rattle.std.proofs.Common.{◌≡◌, None, refl}
use Rattle.media_variables.specs.Variables.{Brought}
use Rattle.media_variables.specs.Held.{seen_in}
use Rattle.media_variables.specs.Given.{DoesAll}
use Rattle.media_variables.proofs.StepLaws.{step_acts, copied_acts, sized_acts}
use Rattle.media_variables.proofs.steps.media_step.Goals.{in-Audio+in_ok-answer-in-Audio, in-Frame+in_ok-answer-in-Frame, in-Buffer+in_ok-answer-in-Buffer, in-Buffered+in_ok-answer-in-Buffered, in-Clone+in_ok-answer-in-Clone, in-Transfer+in_ok-answer-in-Transfer, in-CloseData, in-Copy+in_ok-answer-in-Copy, in-Size+in_ok-answer-in-Size}
use Rattle.media_variables.proofs.steps.media_step.Goals as goal

pub returns-clause-ok : goal.returns-clause-ok
returns-clause-ok g c =
    let pool = c.args.pool.now in
    let items = c.args.variables.now.items in
    let all = c.match-step.variables.items in
    let b : Brought = record { chunk = c.args.chunk.now; taken = None; received = None } in
    elim c.match-step.branch [
      | in-Audio+in_ok-answer-in-Audio w ↦
          let after : seen_in all ≡ seen_in w.audio_step.new.variables.items = rw w.variables-is refl in
          step_acts (DoesAll g.P.RefPool.adds c.args.who pool) c.args.who b (seen_in items) c.args.step.now _ c.match-step.pool w.audio_step.new.pool (seen_in all) (seen_in w.audio_step.new.variables.items) c.match-step.answer _ w.in-Audio.is w.pool-is after w.answer-is w.in_ok-answer-in-Audio.ensures.ok
      | in-Frame+in_ok-answer-in-Frame w ↦
          let after : seen_in all ≡ seen_in w.frame_step.new.variables.items = rw w.variables-is refl in
          step_acts (DoesAll g.P.RefPool.adds c.args.who pool) c.args.who b (seen_in items) c.args.step.now _ c.match-step.pool w.frame_step.new.pool (seen_in all) (seen_in w.frame_step.new.variables.items) c.match-step.answer _ w.in-Frame.is w.pool-is after w.answer-is w.in_ok-answer-in-Frame.ensures.ok
      | in-Buffer+in_ok-answer-in-Buffer w ↦
          let after : seen_in all ≡ seen_in w.buffer_step.new.variables.items = rw w.variables-is refl in
          let content = w.as_slice.ensures in
          step_acts (DoesAll g.P.RefPool.adds c.args.who pool) c.args.who b (seen_in items) c.args.step.now _ c.match-step.pool w.buffer_step.new.pool (seen_in all) (seen_in w.buffer_step.new.variables.items) c.match-step.answer _ w.in-Buffer.is w.pool-is after w.answer-is (rw content at w.in_ok-answer-in-Buffer.ensures.ok)
      | in-Buffered+in_ok-answer-in-Buffered w ↦
          let after : seen_in all ≡ seen_in w.buffered_step.new.variables.items = rw w.variables-is refl in
          step_acts (DoesAll g.P.RefPool.adds c.args.who pool) c.args.who b (seen_in items) c.args.step.now _ c.match-step.pool w.buffered_step.new.pool (seen_in all) (seen_in w.buffered_step.new.variables.items) c.match-step.answer _ w.in-Buffered.is w.pool-is after w.answer-is w.in_ok-answer-in-Buffered.ensures.ok
      | in-Clone+in_ok-answer-in-Clone w ↦
          let after : seen_in all ≡ seen_in w.clone_step.new.variables.items = rw w.variables-is refl in
          step_acts (DoesAll g.P.RefPool.adds c.args.who pool) c.args.who b (seen_in items) c.args.step.now _ c.match-step.pool w.clone_step.new.pool (seen_in all) (seen_in w.clone_step.new.variables.items) c.match-step.answer _ w.in-Clone.is w.pool-is after w.answer-is w.in_ok-answer-in-Clone.ensures.ok
      | in-Transfer+in_ok-answer-in-Transfer w ↦
          let after : seen_in all ≡ seen_in w.transfer_step.new.variables.items = rw w.variables-is refl in
          step_acts (DoesAll g.P.RefPool.adds c.args.who pool) c.args.who b (seen_in items) c.args.step.now _ c.match-step.pool w.transfer_step.new.pool (seen_in all) (seen_in w.transfer_step.new.variables.items) c.match-step.answer _ w.in-Transfer.is w.pool-is after w.answer-is w.in_ok-answer-in-Transfer.ensures.ok
      | in-CloseData w ↦
          let after : seen_in all ≡ seen_in w.close_step-answer.new.variables.items = rw w.variables-is refl in
          step_acts (DoesAll g.P.RefPool.adds c.args.who pool) c.args.who b (seen_in items) c.args.step.now _ c.match-step.pool w.close_step-answer.new.pool (seen_in all) (seen_in w.close_step-answer.new.variables.items) c.match-step.answer _ w.in-CloseData.is w.pool-is after w.answer-is w.close_step-answer.ensures.acts
      | in-Copy+in_ok-answer-in-Copy w ↦
          let after : seen_in all ≡ seen_in items = rw w.variables-is refl in
          step_acts (DoesAll g.P.RefPool.adds c.args.who pool) c.args.who b (seen_in items) c.args.step.now _ c.match-step.pool pool (seen_in all) (seen_in items) c.match-step.answer _ w.in-Copy.is w.pool-is after w.answer-is
          (copied_acts c.args.who (DoesAll g.P.RefPool.adds c.args.who pool pool) items w.deref.result.now c.args.chunk.now w.in-Copy.of.step w.in-Copy.options w.in-Copy.size _ refl w.deref.ensures.value w.in_ok-answer-in-Copy.ensures)
      | in-Size+in_ok-answer-in-Size w ↦
          let after : seen_in all ≡ seen_in items = rw w.variables-is refl in
          step_acts (DoesAll g.P.RefPool.adds c.args.who pool) c.args.who b (seen_in items) c.args.step.now _ c.match-step.pool pool (seen_in all) (seen_in items) c.match-step.answer _ w.in-Size.is w.pool-is after w.answer-is
          (sized_acts c.args.who (DoesAll g.P.RefPool.adds c.args.who pool pool) items w.deref-in-Size.result.now w.in-Size.of.step w.in-Size.options _ refl w.deref-in-Size.ensures.value w.in_ok-answer-in-Size.ensures)
    ]
