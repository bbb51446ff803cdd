-- What posts and receives of callers did.
use Rattle.std.proofs.Common.{ℕ, ◌≡◌, arith, List, [], set, Option, Some, None, refl, ap, sym, subst, ◌∙◌}
use Rattle.std.specs.Prelude.{slice_get, option_map, Result, Ok, Err, IfOk, OnErr}
use Rattle.wc_base.specs.declared.error.NoMemory.{NoMemory}
use Rattle.wc_base.specs.declared.who.Who.{Who}
use Rattle.wc_chunk.specs.declared.chunk.Chunk.{Chunk}
use Rattle.codec_desk.specs.declared.desk.Desk.{Desk}
use Rattle.codec_desk.specs.declared.desk.Seats.{Seats}
use Rattle.codec_desk.specs.Desks.{SitAt}
use Rattle.script_types.specs.declared.script.ScriptData.{ScriptData}
use Rattle.script_types.specs.declared.steps.MediaStep.{MediaStep}
use Rattle.script_types.specs.declared.steps.Step.{Step}
use Rattle.script_types.specs.declared.steps.Variable.{Variable}
use Rattle.script_types.specs.declared.steps.VariableKind.{VariableKind}
use Rattle.script_types.specs.Names.{called, taken_from}
use Rattle.seat_lock.specs.SinceLaws.{made_none}
use Rattle.shared_codec.specs.Keeps.{keeps_none}
use Rattle.report_text.specs.declared.result.StepResult.{StepResult}
use Rattle.media_variables.specs.Given.{Acts, CameBy}
use Rattle.media_variables.specs.Held.{WholeMedium, seen_in}
use Rattle.media_variables.specs.Variables.{Reference, Medium, Numbers, Came, Received, if_there, media_came, medium_at, post_came, post_held, received_came}
use Rattle.run_model.specs.Fits.{port_posted, port_received, received_by}
use Rattle.run_model.specs.Recorded.{copied_chunk, steps_of}
use Rattle.shared_port.specs.Ports.{seen}
use Rattle.shared_port.specs.declared.port.PortPass.{PortPass}
use Rattle.shared_variables.specs.PortLaws.{seen_with}
use Rattle.shared_variables.specs.Ports.{HasPosted, HasReceived, HasTaken, WholeParcel}
use Rattle.shared_variables.specs.Since.{DidSince}
use Rattle.desk_callers.specs.Acts.{Did, DidAtPorts}
use Rattle.desk_callers.specs.Deeds.{Deed}
use Rattle.desk_callers.specs.PortDeeds.{carried}
use Rattle.desk_callers.proofs.MediaActs.{media_acted}
use Rattle.desk_callers.proofs.MediaSteps.{without_output}
use Rattle.desk_callers.proofs.PortSteps.{posts_there, posts_elsewhere, receives_there, receives_elsewhere, not_before, set_acts, acts_nowhere}

-- ---- neither makes an entry of the pool

held_does : (of : ℕ) (vs : List (Option Medium)) (o : Option Reference) → (post_held of o vs).does ≡ []
held_does of vs None = refl
held_does of vs (Some r) = refl

there_does : (of : ℕ) (vs : List (Option Medium)) (v : Option Medium) → (if_there v vs (λ m. post_held of m.held vs)).does ≡ []
there_does of vs None = refl
there_does of vs (Some m) = held_does of vs m.held

-- what a receive comes to, by what was taken
pub record IsTaken (who : Who) (o : Option (Who × WholeParcel)) (vs after : List (Option WholeMedium)) (r : StepResult) : Type 0 where
  pub answer : r ≡ (received_came who.step (option_map carried o) (seen_in vs)).answer
  pub variables : seen_in after ≡ (received_came who.step (option_map carried o) (seen_in vs)).variables
  pub does : (received_came who.step (option_map carried o) (seen_in vs)).does ≡ []

taken_came : (who : Who) (o : Option (Who × WholeParcel)) (vs after : List (Option WholeMedium)) (r : StepResult) → HasTaken who o vs after r → IsTaken who o vs after r
taken_came who None vs after r taken = record { answer = taken.0; variables = ap seen_in taken.1; does = refl }
taken_came who (Some x) vs after r taken = record { answer = taken.0; variables = ap seen_in taken.1 ∙ seen_with who.step x.1.medium vs; does = refl }

-- where variables are as they were, they are seen so
pub same_seen : (vs after : List (Option WholeMedium)) (r : Result StepResult NoMemory) → OnErr r (after ≡ vs) → OnErr r (seen_in after ≡ seen_in vs)
same_seen vs after (Ok a) same = tt
same_seen vs after (Err e) same = ap seen_in same

-- a deed at this time
abbrev at_time : ℕ → Deed → Deed
at_time t d = record { who = d.who; step = d.step; result = d.result; call = d.call; numbers = d.numbers; taken = d.taken; received = d.received; time = t }

module _ {C : Type 0} where
  -- what was done was done at some time
  abbrev timed : (t : ℕ) (s : ScriptData) (media : List (List Chunk)) (desk : Desk C) (who : Who) (x : Step) (rs : List StepResult) (a b : Seats C) (vs after : List (Option Medium)) (r : StepResult) → Did s media desk who x rs a b vs after r → Did s media desk who x rs a b vs after r
  timed t s media desk who x rs a b vs after r did =
      let acted = did.acted in
      let is = acted.is in
      record {
        deed = at_time t did.deed;
        who_is = did.who_is;
        step_is = did.step_is;
        result_is = did.result_is;
        acted = record {
          settled = acted.settled;
          calls = acted.calls;
          variables = acted.variables;
          between = acted.between;
          is = record { result = is.result; shows = is.shows; answers = is.answers; waited = is.waited; stands = is.stands; arguments = is.arguments; taken = is.taken; received = is.received };
        };
      }

  -- a step on media that makes no entry of the pool
  port_acted : (s : ScriptData) (media : List (List Chunk)) (desk : Desk C) (rs : List StepResult) (a : Seats C) (vs after : List (Option Medium)) (who : Who) (x : MediaStep) (r : StepResult) (received : Option Received) (y : Came)
      → SitAt desk a → taken_from (Step.Media x) ≡ None → called (Step.Media x) ≡ None → (port_received (Step.Media x) ≡ None → received ≡ None)
      → ((n : Numbers) → media_came n who (without_output (copied_chunk media (steps_of s who.caller) x) (received_by x received)) x vs ≡ Some y) → y.does ≡ [] → r ≡ y.answer → after ≡ y.variables
      → (did : Did s media desk who (Step.Media x) rs a a vs after r) × (did.deed.received ≡ received)
  port_acted s media desk rs a vs after who x r received y sits takes calls receives came none answer variables =
      let n : Numbers = record { resource = 0; reference = 0 } in
      let u = a.pool.me.0 in
      let acts : Acts (DidSince who u u) (λ n. media_came n who (without_output (copied_chunk media (steps_of s who.caller) x) (received_by x received)) x vs) vs after (Some r) =
      record {
        numbers = n;
        came_by = subst (λ (o : Option Came). CameBy (DidSince who u u) vs after o (Some r)) (sym (came n)) (ap (λ (z : StepResult). Some z) answer, subst (DidSince who u u) (sym none) ([], (tt, made_none u)), variables);
      } in
      media_acted s media desk rs a a.pool vs after who x r received sits (keeps_none desk.pool a.pool sits.pool.0) takes calls receives acts

  post_acted : (s : ScriptData) (media : List (List Chunk)) (desk : Desk C) (rs : List StepResult) (a : Seats C) (vs after : List (Option WholeMedium)) (who : Who) (to : ℕ) (content : Variable) (time : ℕ) (r : StepResult) (ps : List (PortPass WholeParcel)) (p q : PortPass WholeParcel)
      → SitAt desk a → slice_get ps to ≡ Some p → HasPosted who content.step time vs after (seen p) (seen q) r → DidAtPorts s media desk who (Step.Media (MediaStep.Post to content)) rs a a (seen_in vs) (seen_in after) ps (set ps to q) time time r
  post_acted s media desk rs a vs after who to content time r ps p q sits there has =
      let x : MediaStep = MediaStep.Post to content in
      let d = port_acted s media desk rs a (seen_in vs) (seen_in after) who x r None (post_came content.step (seen_in vs)) sits refl refl (λ none. refl) (λ n. refl) (there_does content.step (seen_in vs) (medium_at (seen_in vs) content.step)) has.answer has.variables in
      let e : Deed = at_time time d.0.deed in
      record {
        did = timed time s media desk who (Step.Media x) rs a a (seen_in vs) (seen_in after) r d.0;
        ports = set_acts e (seen_in vs) ps to p q there
            (posts_there e who to content time r vs after (seen p) (seen q) d.0.who_is d.0.step_is d.0.result_is refl has)
            (λ i z other. posts_elsewhere e to content (seen_in vs) i (seen z) (seen z) d.0.step_is other refl);
        later = omega arith;
        time = refl;
      }

  receive_acted : (s : ScriptData) (media : List (List Chunk)) (desk : Desk C) (rs : List StepResult) (a : Seats C) (vs after : List (Option WholeMedium)) (who : Who) (from : ℕ) (bind : List ℕ) (kind : VariableKind) (early late : ℕ) (r : StepResult) (ps : List (PortPass WholeParcel)) (p q : PortPass WholeParcel)
      → SitAt desk a → slice_get ps from ≡ Some p → HasReceived who vs after (seen p) (seen q) early late r → DidAtPorts s media desk who (Step.Media (MediaStep.Receive from bind kind)) rs a a (seen_in vs) (seen_in after) ps (set ps from q) early late r
  receive_acted s media desk rs a vs after who from bind kind early late r ps p q sits there has =
      let x : MediaStep = MediaStep.Receive from bind kind in
      let o : Option Received = option_map carried has.received in
      let t = taken_came who has.received vs after r has.taken in
      let d = port_acted s media desk rs a (seen_in vs) (seen_in after) who x r o (received_came who.step o (seen_in vs)) sits refl refl (λ none. absurd cc) (λ n. refl) t.does t.answer t.variables in
      let e : Deed = at_time late d.0.deed in
      record {
        did = timed late s media desk who (Step.Media x) rs a a (seen_in vs) (seen_in after) r d.0;
        ports = set_acts e (seen_in vs) ps from p q there
            (receives_there e who from bind kind r vs after (seen p) (seen q) early late has d.0.step_is d.0.result_is d.1 refl)
            (λ i z other. receives_elsewhere e from bind kind (seen_in vs) i (seen z) (seen z) d.0.step_is other refl);
        later = not_before early late has.received has.later;
        time = refl;
      }

  -- ---- whatever they answer

  pub did_post : (s : ScriptData) (media : List (List Chunk)) (desk : Desk C) (rs : List StepResult) (a : Seats C) (vs after : List (Option WholeMedium)) (who : Who) (to : ℕ) (content : Variable) (time : ℕ) (r : Result StepResult NoMemory) (ps : List (PortPass WholeParcel)) (p q : PortPass WholeParcel)
      → SitAt desk a → slice_get ps to ≡ Some p → IfOk r (HasPosted who content.step time vs after (seen p) (seen q)) → IfOk r (DidAtPorts s media desk who (Step.Media (MediaStep.Post to content)) rs a a (seen_in vs) (seen_in after) ps (set ps to q) time time)
  did_post s media desk rs a vs after who to content time (Ok r) ps p q sits there has = post_acted s media desk rs a vs after who to content time r ps p q sits there has
  did_post s media desk rs a vs after who to content time (Err e) ps p q sits there has = tt

  pub did_receive : (s : ScriptData) (media : List (List Chunk)) (desk : Desk C) (rs : List StepResult) (a : Seats C) (vs after : List (Option WholeMedium)) (who : Who) (from : ℕ) (bind : List ℕ) (kind : VariableKind) (early late : ℕ) (r : Result StepResult NoMemory) (ps : List (PortPass WholeParcel)) (p q : PortPass WholeParcel)
      → SitAt desk a → slice_get ps from ≡ Some p → IfOk r (HasReceived who vs after (seen p) (seen q) early late) → IfOk r (DidAtPorts s media desk who (Step.Media (MediaStep.Receive from bind kind)) rs a a (seen_in vs) (seen_in after) ps (set ps from q) early late)
  did_receive s media desk rs a vs after who from bind kind early late (Ok r) ps p q sits there has = receive_acted s media desk rs a vs after who from bind kind early late r ps p q sits there has
  did_receive s media desk rs a vs after who from bind kind early late (Err e) ps p q sits there has = tt

  -- a step that names no port
  pub did_nowhere : (s : ScriptData) (media : List (List Chunk)) (desk : Desk C) (rs : List StepResult) (a b : Seats C) (vs after : List (Option Medium)) (who : Who) (x : Step) (time : ℕ) (r : Result StepResult NoMemory) (ps : List (PortPass WholeParcel))
      → port_posted x ≡ None → port_received x ≡ None → IfOk r (Did s media desk who x rs a b vs after) → IfOk r (DidAtPorts s media desk who x rs a b vs after ps ps time time)
  did_nowhere s media desk rs a b vs after who x time (Ok r) ps posts receives did = record {
    did = timed time s media desk who x rs a b vs after r did;
    ports = acts_nowhere (at_time time did.deed) vs ps (ap port_posted did.step_is ∙ posts) (ap port_received did.step_is ∙ receives);
    later = omega arith;
    time = refl;
  }
  did_nowhere s media desk rs a b vs after who x time (Err e) ps posts receives did = tt
