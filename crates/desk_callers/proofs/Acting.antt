-- Steps of callers are deeds.
use Rattle.std.proofs.Common.{ℕ, zero, suc, ◌≡◌, List, map, Option, Some, None, refl, ap, sym, subst, ◌∙◌}
use Rattle.std.specs.Prelude.{slice_get, take}
use Rattle.wc_base.specs.declared.error.DomError.{DomError}
use Rattle.wc_base.specs.declared.who.Who.{Who}
use Rattle.wc_chunk.specs.declared.chunk.Chunk.{Chunk}
use Rattle.codec_model.specs.declared.entry.{Opening.Opening, Entry.Entry, Call.Call}
use Rattle.codec_accounts.specs.Calls as mark
use Rattle.codec_accounts.specs.Owed.{at}
use Rattle.script_types.specs.declared.script.ScriptData.{ScriptData}
use Rattle.script_types.specs.declared.steps.ChunkSource.{ChunkSource}
use Rattle.script_types.specs.declared.steps.Step.{Step}
use Rattle.script_types.specs.declared.steps.Variable.{Variable}
use Rattle.script_types.specs.Names.{called, taken_from}
use Rattle.shared_codec.specs.Shared.{Shared}
use Rattle.codec_desk.specs.declared.desk.Desk.{Desk}
use Rattle.codec_desk.specs.declared.desk.Seats.{Seats}
use Rattle.codec_desk.specs.Desks.{SitAt, Settled}
use Rattle.codec_desk.specs.DeskLaws.{settled_none}
use Rattle.report_text.specs.declared.result.StepResult.{StepResult}
use Rattle.media_variables.specs.Variables.{Medium, Came}
use Rattle.media_accounts.specs.Accounts.{StepOp, step_op, done_by, variables_by}
use Rattle.run_model.specs.Recorded.{Recorded, opening_at, promise_after, source_error, chunk_for, steps_of}
use Rattle.run_model.specs.Fits.{exception_at, IsResultOf, IsResultBy, LookShows, HasArguments, IsLocalAnswer}
use Rattle.desk_callers.specs.Deeds.{Deed, HasEnded, HasWaited, came_of, after_deed, known_by, own_due, results_alone}
use Rattle.codec_desk.specs.NamedLaws.{calls_none}
use Rattle.desk_callers.specs.Acts.{histories_in, AreOpened, StateIs, SettledBy, Did, Helped, SawState, SawPromise, CalledAs, IsBetween}
use Rattle.desk_callers.proofs.Histories.{go_same, between_none}
use Rattle.desk_callers.proofs.Own.{settled_by}

-- of a step that made no call, no entry of the pool, and took nothing
abbrev pub plain_deed : Who → Step → StepResult → Deed
plain_deed who x r = record { who = who; step = x; result = r; call = None; numbers = record { resource = 0; reference = 0 }; taken = None; received = None; time = 0 }

abbrev pub call_deed : Who → Step → StepResult → Call → Deed
call_deed who x r y = record { who = who; step = x; result = r; call = Some y; numbers = record { resource = 0; reference = 0 }; taken = None; received = None; time = 0 }

-- a caller's own results are those that it knows
alone_at : (c : ℕ) (rs : List StepResult) → at c (results_alone c rs) ≡ rs
alone_at zero rs = refl
alone_at (suc c) rs = alone_at c rs

after_none : (s : ScriptData) (media : List (List Chunk)) (d : Deed) (vs : List (Option Medium)) → came_of s media d vs ≡ None → vs ≡ after_deed s media d vs
after_none s media d vs none = sym (ap (λ (o : Option Came). variables_by o vs) none)

-- a step looks at this promise
abbrev pub Looks : Step → Variable → Type 0
Looks (Step.Poll promise) v = promise ≡ v
Looks (Step.Await promise) v = promise ≡ v
Looks _ v = ⊥

module _ {C : Type 0} where
  -- nothing was done
  pub helped_none : (desk : Desk C) (a : Seats C) → SitAt desk a → Helped desk a a
  helped_none desk a sits = record { settled = settled_none desk a sits; calls = calls_none desk a }

  -- nothing by a step that came to nothing
  own_none : (s : ScriptData) (media : List (List Chunk)) (desk : Desk C) (a b : Seats C) (d : Deed) (vs : List (Option Medium)) → came_of s media d vs ≡ None → Settled desk a b → SettledBy d.who.caller (own_due s media 0 d vs) desk a b
  own_none s media desk a b d vs none settled =
      subst (λ (l : List StepOp). SettledBy d.who.caller l desk a b) (sym (ap (λ (o : Option Came). map (step_op d.who.step) (done_by o)) none)) (settled_by d.who.caller desk a b settled)

  -- ---- looks

  pub state_acted : (s : ScriptData) (media : List (List Chunk)) (desk : Desk C) (rs : List StepResult) (a b : Seats C) (vs : List (Option Medium)) (who : Who) (on : ℕ) (r : StepResult) (x : Shared) → slice_get desk.codecs.items on ≡ Some x → AreOpened s desk.codecs.items
      → Helped desk a b → SawState desk on r a b → Did s media desk who (Step.State on) rs a b vs vs r
  state_acted s media desk rs a b vs who on r x there opened helped saw =
      let hs : List (List Entry) = histories_in b.codecs.items in
      let known : StateIs (opening_at s on) (take saw.seen (at on hs)) saw.state saw.size = subst (λ (o : Opening). StateIs o (take saw.seen (at on hs)) saw.state saw.size) (opened on x there) (saw.shows x there) in
      let d : Deed = plain_deed who (Step.State on) (StepResult.State on saw.seen saw.state saw.size) in
      record {
        deed = d;
        who_is = refl;
        step_is = refl;
        result_is = sym saw.is;
        acted = record {
          settled = settled_by who.caller desk a b helped.settled;
          calls = helped.calls;
          variables = refl;
          between = subst (λ (q : StepResult). IsBetween q a b) saw.is saw.between;
          is = record { result = tt; shows = (refl, known.0, known.1); answers = tt; waited = tt; stands = refl; arguments = tt; taken = refl; received = λ none. refl };
        };
      }

  pub promise_acted : (s : ScriptData) (media : List (List Chunk)) (desk : Desk C) (rs : List StepResult) (a b : Seats C) (vs : List (Option Medium)) (who : Who) (y : Step) (promise : Variable) (k p : ℕ) (error : Option DomError) (r : StepResult) (x : Shared) → Looks y promise
      → slice_get rs promise.step ≡ Some (StepResult.Call k p error) → slice_get desk.codecs.items k ≡ Some x → AreOpened s desk.codecs.items → Helped desk a b → SawPromise desk k p r a b → HasWaited y r → Did s media desk who y rs a b vs vs r
  promise_acted s media desk rs a b vs who y promise k p error r x looks flush there opened helped saw waited = by y looks waited
    where
      hs : List (List Entry)
      hs = histories_in b.codecs.items

      shown : saw.end ≡ promise_after (opening_at s k) (take saw.seen (at k hs)) p
      shown = saw.shows x there ∙ ap (λ (o : Opening). promise_after o (take saw.seen (at k hs)) p) (opened k x there)

      came : slice_get (at who.caller (results_alone who.caller rs)) promise.step ≡ Some (StepResult.Call k p error)
      came = ap (λ (l : List StepResult). slice_get l promise.step) (alone_at who.caller rs) ∙ flush

      between : IsBetween (StepResult.Look k saw.seen saw.end) a b
      between = subst (λ (q : StepResult). IsBetween q a b) saw.is saw.between

      by : (y : Step) → Looks y promise → HasWaited y r → Did s media desk who y rs a b vs vs r
      by (Step.Poll v) is ended = record {
        deed = plain_deed who (Step.Poll v) (StepResult.Look k saw.seen saw.end);
        who_is = refl;
        step_is = refl;
        result_is = sym saw.is;
        acted = record {
          settled = settled_by who.caller desk a b helped.settled;
          calls = helped.calls;
          variables = refl;
          between = between;
          is = record { result = tt; shows = (p, error, ap (λ (w : Variable). slice_get (at who.caller (results_alone who.caller rs)) w.step) is ∙ came, shown); answers = tt; waited = tt; stands = refl; arguments = tt; taken = refl; received = λ none. refl };
        };
      }
      by (Step.Await v) is ended = record {
        deed = plain_deed who (Step.Await v) (StepResult.Look k saw.seen saw.end);
        who_is = refl;
        step_is = refl;
        result_is = sym saw.is;
        acted = record {
          settled = settled_by who.caller desk a b helped.settled;
          calls = helped.calls;
          variables = refl;
          between = between;
          is = record { result = tt; shows = (p, error, ap (λ (w : Variable). slice_get (at who.caller (results_alone who.caller rs)) w.step) is ∙ came, shown); answers = tt; waited = subst HasEnded saw.is ended; stands = refl; arguments = tt; taken = refl; received = λ none. refl };
        };
      }
      by _ is ended = absurd is

  -- ---- calls

  pub call_acted : (s : ScriptData) (media : List (List Chunk)) (desk : Desk C) (rs : List StepResult) (a b : Seats C) (vs : List (Option Medium)) (who : Who) (y : Step) (k : ℕ) (x : Call) (r : StepResult) (c : Shared) → slice_get desk.codecs.items k ≡ Some c → AreOpened s desk.codecs.items
      → CalledAs desk who k x a b r → taken_from y ≡ None → called y ≡ Some k
      → ((q : StepResult) → came_of s media (call_deed who y q x) vs ≡ None)
      → ((p : ℕ) (e : Option DomError) (w : Recorded) → LookShows s w who.caller y (StepResult.Call k p e))
      → ((p : ℕ) (e : Option DomError) (o : Option Came) → IsLocalAnswer s media vs o who.caller y (StepResult.Call k p e))
      → ((p : ℕ) (e : Option DomError) → HasWaited y (StepResult.Call k p e))
      → HasArguments s media vs who.caller x y → Did s media desk who y rs a b vs vs r
  call_acted s media desk rs a b vs who y k x r c there opened done takes calls none shows answers waited arguments =
      let hs : List (List Entry) = histories_in b.codecs.items in
      let w : Recorded = known_by who.caller rs hs in
      let r1 : StepResult = StepResult.Call k done.place done.error in
      let d : Deed = call_deed who y r1 x in
      let error : done.error ≡ exception_at (opening_at s k) (at k hs) done.place = done.shows c there ∙ ap (λ (o : Opening). exception_at o (at k hs) done.place) (opened k c there) in
      let made : IsResultOf s w who y r1 = subst (λ (o : Option ℕ). IsResultBy s w who o (called y) r1) (sym takes) (subst (λ (o : Option ℕ). IsResultBy s w who None o r1) (sym calls) (refl, error)) in
      record {
        deed = d;
        who_is = refl;
        step_is = refl;
        result_is = sym done.is;
        acted = record {
          settled = own_none s media desk a b d vs (none r1) done.settled;
          calls = done.calls;
          variables = after_none s media d vs (none r1);
          between = subst (λ (q : StepResult). IsBetween q a b) done.is done.between;
          is = record { result = made; shows = shows done.place done.error w; answers = answers done.place done.error (came_of s media d vs); waited = waited done.place done.error; stands = (x, refl, done.stands); arguments = arguments; taken = refl; received = λ none. refl };
        };
      }

  -- ---- steps that call no codec

  -- a decode whose chunk is absent
  pub absent_acted : (s : ScriptData) (media : List (List Chunk)) (desk : Desk C) (rs : List StepResult) (a : Seats C) (vs : List (Option Medium)) (who : Who) (on : ℕ) (chunk : Variable) → SitAt desk a → chunk_for media (steps_of s who.caller) vs chunk.step ≡ None → Did s media desk who (Step.Decode on chunk) rs a a vs vs StepResult.Absent
  absent_acted s media desk rs a vs who on chunk sits none =
      let hs : List (List Entry) = histories_in a.codecs.items in
      record {
        deed = plain_deed who (Step.Decode on chunk) StepResult.Absent;
        who_is = refl;
        step_is = refl;
        result_is = refl;
        acted = record {
          settled = settled_by who.caller desk a a (settled_none desk a sits);
          calls = calls_none desk a;
          variables = refl;
          between = between_none mark.Local hs hs refl (go_same hs);
          is = record { result = tt; shows = tt; answers = none; waited = tt; stands = refl; arguments = tt; taken = refl; received = λ none. refl };
        };
      }

  pub chunk_acted : (s : ScriptData) (media : List (List Chunk)) (desk : Desk C) (rs : List StepResult) (a : Seats C) (vs : List (Option Medium)) (who : Who) (bind : List ℕ) (source : ChunkSource) → SitAt desk a → Did s media desk who (Step.Chunk bind source) rs a a vs vs (StepResult.Local (source_error source))
  chunk_acted s media desk rs a vs who bind source sits =
      let hs : List (List Entry) = histories_in a.codecs.items in
      record {
        deed = plain_deed who (Step.Chunk bind source) (StepResult.Local (source_error source));
        who_is = refl;
        step_is = refl;
        result_is = refl;
        acted = record {
          settled = settled_by who.caller desk a a (settled_none desk a sits);
          calls = calls_none desk a;
          variables = refl;
          between = between_none mark.Local hs hs refl (go_same hs);
          is = record { result = tt; shows = tt; answers = refl; waited = tt; stands = refl; arguments = tt; taken = refl; received = λ none. refl };
        };
      }
