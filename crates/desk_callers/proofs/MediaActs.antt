-- What steps of callers on media of their own did.
use Rattle.std.proofs.Common.{ℕ, ◌≡◌, List, [], map, Option, Some, None, refl, ap, sym, subst, ◌∙◌}
use Rattle.std.specs.Prelude.{Result, Ok, Err, IfOk, OnErr}
use Rattle.atomic_table.specs.declared.shared.Seat.{Seat}
use Rattle.wc_base.specs.Options.{some_same}
use Rattle.wc_base.specs.declared.error.NoMemory.{NoMemory}
use Rattle.wc_base.specs.declared.seat.View.{View}
use Rattle.wc_base.specs.declared.who.Who.{Who}
use Rattle.wc_chunk.specs.declared.chunk.Chunk.{Chunk}
use Rattle.wc_pool.specs.declared.entry.{PoolEntry.PoolEntry, PoolOp.PoolOp}
use Rattle.codec_model.specs.declared.entry.Entry.{Entry}
use Rattle.seat_lock.specs.Seats.{IsSameSeat}
use Rattle.seat_lock.specs.Since.{MadeSince}
use Rattle.script_types.specs.declared.script.ScriptData.{ScriptData}
use Rattle.script_types.specs.declared.steps.MediaStep.{MediaStep}
use Rattle.script_types.specs.declared.steps.Step.{Step}
use Rattle.script_types.specs.Names.{called, taken_from}
use Rattle.shared_pool.specs.declared.pool.LockedPool.{LockedPool}
use Rattle.shared_pool.specs.Steps as pools
use Rattle.shared_codec.specs.Keeps.{Keeps, keeps_since}
use Rattle.codec_desk.specs.declared.desk.Desk.{Desk}
use Rattle.codec_desk.specs.declared.desk.Seats.{Seats}
use Rattle.codec_desk.specs.Desks.{SitAt}
use Rattle.report_text.specs.declared.result.StepResult.{StepResult}
use Rattle.media_variables.specs.Variables.{Medium, Numbers, Came, Received, Brought, media_came}
use Rattle.media_variables.specs.Given.{Acts, CameBy}
use Rattle.shared_variables.specs.Since.{DidSince}
use Rattle.media_accounts.specs.Accounts.{step_op, done_by, variables_by}
use Rattle.run_model.specs.Recorded.{Recorded, copied_chunk, steps_of}
use Rattle.run_model.specs.Fits.{mark_of, port_received, received_by, IsResultOf, IsResultBy, IsLocalAnswer, IsMediaAnswer}
use Rattle.desk_callers.specs.Deeds.{Deed, came_of, known_by, StandsAs}
use Rattle.codec_desk.specs.NamedLaws.{calls_none}
use Rattle.desk_callers.specs.Acts.{histories_in, SettledBy, Did}
use Rattle.desk_callers.proofs.Histories.{go_same, between_none}
use Rattle.desk_callers.proofs.MediaSteps.{IsOwn, without_output, media_own, own_answer, own_shows, own_made, own_takes}
use Rattle.desk_callers.proofs.Own.{with_pool, settled_own}

-- a step on media that is no codec's comes to something
pub media_answers : (n : Numbers) (who : Who) (b : Brought) (x : MediaStep) (vs : List (Option Medium)) → taken_from (Step.Media x) ≡ None → called (Step.Media x) ≡ None → (y : Came) × (media_came n who b x vs ≡ Some y)
media_answers n who b (MediaStep.Audio bind init) vs takes calls = (_, refl)
media_answers n who b (MediaStep.Frame bind init) vs takes calls = (_, refl)
media_answers n who b (MediaStep.Buffer bind bytes) vs takes calls = (_, refl)
media_answers n who b (MediaStep.Buffered bind i) vs takes calls = (_, refl)
media_answers n who b (MediaStep.Post to content) vs takes calls = (_, refl)
media_answers n who b (MediaStep.Receive from bind kind) vs takes calls = (_, refl)
media_answers n who b (MediaStep.Encode on content) vs takes calls = absurd cc
media_answers n who b (MediaStep.Take on bind kind) vs takes calls = absurd cc
media_answers n who b (MediaStep.Clone of bind) vs takes calls = (_, refl)
media_answers n who b (MediaStep.Transfer of bind) vs takes calls = (_, refl)
media_answers n who b (MediaStep.CloseData of) vs takes calls = (_, refl)
media_answers n who b (MediaStep.Copy of o size) vs takes calls = (_, refl)
media_answers n who b (MediaStep.Size of o) vs takes calls = (_, refl)

-- where nothing was received nothing is brought
nothing_received : (x : MediaStep) → received_by x None ≡ None
nothing_received (MediaStep.Receive from bind kind) = refl
nothing_received x = refl

-- ---- what was made at a seat of the pool

came_made : (v w : View PoolEntry) (who : Who) (vs after : List (Option Medium)) (o : Option Came) (answer : Option StepResult) → CameBy (DidSince who v w) vs after o answer → (es : List PoolEntry) × MadeSince v w es
came_made v w who vs after None answer came = (came.1.0, came.1.1.1)
came_made v w who vs after (Some c) answer came = (came.1.0, came.1.1.1)

pub acts_made : (v w : View PoolEntry) (who : Who) (came : Numbers → Option Came) (vs after : List (Option Medium)) (answer : Option StepResult) → Acts (DidSince who v w) came vs after answer → (es : List PoolEntry) × MadeSince v w es
acts_made v w who came vs after answer acts = came_made v w who vs after (came acts.numbers) answer acts.came_by

module _ {C : Type 0} where
  -- the pool's seat stays, whatever a step answers
  pub keeps_made : (desk : Desk C) (a p : Seat (Option LockedPool) (View PoolEntry)) (who : Who) (came : Numbers → Option Came) (vs after : List (Option Medium)) (r : Result (Option StepResult) NoMemory) → IsSameSeat a p → pools.IsFree desk.pool p
      → IfOk r (Acts (DidSince who a.me.0 p.me.0) came vs after) → OnErr r (MadeSince a.me.0 p.me.0 []) → Keeps desk.pool a p
  keeps_made desk a p who came vs after (Ok answer) same free acts err = let m = acts_made a.me.0 p.me.0 who came vs after answer acts in keeps_since desk.pool a p m.0 same free.0 m.1
  keeps_made desk a p who came vs after (Err e) same free acts err = keeps_since desk.pool a p [] same free.0 err

  pub does_settle : (desk : Desk C) (a : Seats C) (p : Seat (Option LockedPool) (View PoolEntry)) (who : Who) (os : List PoolOp) → SitAt desk a → Keeps desk.pool a.pool p → DidSince who a.pool.me.0 p.me.0 os
      → SettledBy who.caller (map (step_op who.step) os) desk a (with_pool a p)
  does_settle desk a p who os sits kept does = settled_own desk a p who os does.0 does.1.0 sits kept does.1.1

  pub media_acted : (s : ScriptData) (media : List (List Chunk)) (desk : Desk C) (rs : List StepResult) (a : Seats C) (p : Seat (Option LockedPool) (View PoolEntry)) (vs after : List (Option Medium)) (who : Who) (x : MediaStep) (r : StepResult) (received : Option Received)
      → SitAt desk a → Keeps desk.pool a.pool p → taken_from (Step.Media x) ≡ None → called (Step.Media x) ≡ None → (port_received (Step.Media x) ≡ None → received ≡ None)
      → Acts (DidSince who a.pool.me.0 p.me.0) (λ n. media_came n who (without_output (copied_chunk media (steps_of s who.caller) x) (received_by x received)) x vs) vs after (Some r)
      → (did : Did s media desk who (Step.Media x) rs a (with_pool a p) vs after r) × (did.deed.received ≡ received)
  media_acted s media desk rs a p vs after who x r received sits kept takes calls receives acts =
      let n : Numbers = acts.numbers in
      let b : Brought = without_output (copied_chunk media (steps_of s who.caller) x) (received_by x received) in
      let answers = media_answers n who b x vs takes calls in
      let y : Came = answers.0 in
      let came = subst (λ (o : Option Came). CameBy (DidSince who a.pool.me.0 p.me.0) vs after o (Some r)) answers.1 acts.came_by in
      let is : r ≡ y.answer = some_same r y.answer came.0 in
      let own : IsOwn r = subst IsOwn (sym is) (media_own n who (copied_chunk media (steps_of s who.caller) x) (received_by x received) x vs y answers.1) in
      let d : Deed = record { who = who; step = Step.Media x; result = r; call = None; numbers = n; taken = None; received = received; time = 0 } in
      let hs : List (List Entry) = histories_in a.codecs.items in
      let w : Recorded = known_by who.caller rs hs in
      let made : IsResultOf s w who (Step.Media x) r = subst (λ (o : Option ℕ). IsResultBy s w who o (called (Step.Media x)) r) (sym takes) (subst (λ (o : Option ℕ). IsResultBy s w who None o r) (sym calls) (own_answer s w r own)) in
      let answer : IsLocalAnswer s media vs (came_of s media d vs) who.caller (Step.Media x) r =
      subst (λ (o : Option Came). IsMediaAnswer vs o (taken_from (Step.Media x)) (called (Step.Media x)) x r) (sym answers.1)
      (subst (λ (o : Option ℕ). IsMediaAnswer vs (Some y) o (called (Step.Media x)) x r) (sym takes) (subst (λ (o : Option ℕ). IsMediaAnswer vs (Some y) None o x r) (sym calls) is)) in (
        record {
          deed = d;
          who_is = refl;
          step_is = refl;
          result_is = refl;
          acted = record {
            settled = subst (λ (o : Option Came). SettledBy who.caller (map (step_op who.step) (done_by o)) desk a (with_pool a p)) (sym answers.1) (does_settle desk a p who y.does sits kept came.1);
            calls = calls_none desk a;
            variables = came.2 ∙ sym (ap (λ (o : Option Came). variables_by o vs) answers.1);
            between = between_none (mark_of r) hs hs own (go_same hs);
            is = record {
              result = made;
              shows = own_shows s w who.caller x r own;
              answers = answer;
              waited = tt;
              stands = subst (StandsAs hs who None) (sym (own_made r own)) refl;
              arguments = tt;
              taken = sym (own_takes s w r own);
              received = receives;
            };
          };
        },
        refl,
      )

  -- the same, with the chunk that was copied
  pub copied_acted : (s : ScriptData) (media : List (List Chunk)) (desk : Desk C) (rs : List StepResult) (a : Seats C) (p : Seat (Option LockedPool) (View PoolEntry)) (vs after : List (Option Medium)) (who : Who) (x : MediaStep) (answer : Option StepResult) (r : StepResult) (steps : List Step) (chunk : Option Chunk)
      → SitAt desk a → Keeps desk.pool a.pool p → taken_from (Step.Media x) ≡ None → called (Step.Media x) ≡ None → steps_of s who.caller ≡ steps → chunk ≡ copied_chunk media steps x → answer ≡ Some r
      → Acts (DidSince who a.pool.me.0 p.me.0) (λ n. media_came n who (without_output chunk None) x vs) vs after answer
      → Did s media desk who (Step.Media x) rs a (with_pool a p) vs after r
  copied_acted s media desk rs a p vs after who x answer r steps chunk sits kept takes calls steps_are is gave acts =
      (media_acted s media desk rs a p vs after who x r None sits kept takes calls (λ none. refl)
      (subst (λ (z : Option Chunk × (Option Received × Option StepResult)). Acts (DidSince who a.pool.me.0 p.me.0) (λ n. media_came n who (without_output z.0 z.1.0) x vs) vs after z.1.1)
      (λ i. ((is ∙ ap (λ (l : List Step). copied_chunk media l x) (sym steps_are)) i, (sym (nothing_received x) i, gave i))) acts)).0

-- a step on media that is no codec's has an answer
pub has_answered : (did : List PoolOp → Type 0) (who : Who) (b : Brought) (x : MediaStep) (vs after : List (Option Medium)) (answer : Option StepResult) → taken_from (Step.Media x) ≡ None → called (Step.Media x) ≡ None → answer ≡ None → Acts did (λ n. media_came n who b x vs) vs after answer → ⊥
has_answered did who b x vs after answer takes calls gave acts =
    let answers = media_answers acts.numbers who b x vs takes calls in
    let came = subst (λ (o : Option Came). CameBy did vs after o answer) answers.1 acts.came_by in
    none_is_some answers.0.answer (sym gave ∙ came.0)
  where
    none_is_some : (r : StepResult) → None ≡ Some r → ⊥
    none_is_some r is = cc
