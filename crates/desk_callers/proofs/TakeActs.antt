-- What takes and encodes of callers did.
use Rattle.std.proofs.Common.{ℕ, ◌≡◌, ◌<◌, List, [], map, length, take, Option, Some, None, refl, ap, sym, subst, ◌∙◌}
use Rattle.std.specs.Prelude.{slice_get, option_map, Result, Ok, Err, IfOk, OnErr}
use Rattle.atomic_table.specs.declared.shared.Seat.{Seat}
use Rattle.wc_base.specs.Options.{some_same}
use Rattle.wc_base.specs.declared.error.NoMemory.{NoMemory}
use Rattle.wc_base.specs.declared.seat.View.{View}
use Rattle.wc_base.specs.declared.who.Who.{Who}
use Rattle.wc_chunk.specs.declared.chunk.Chunk.{Chunk}
use Rattle.wc_pool.specs.declared.entry.PoolEntry.{PoolEntry}
use Rattle.codec_definitions.specs.declared.unit.Unit as output
use Rattle.codec_definitions.specs.declared.unit.Unit.TheVariants as unit
use Rattle.codec_model.specs.declared.entry.{Entry.Entry, Call.Call, Opening.Opening}
use Rattle.codec_accounts.specs.Calls as mark
use Rattle.codec_accounts.specs.ListLaws.{get_some}
use Rattle.codec_accounts.specs.Owed.{at}
use Rattle.seat_lock.specs.Seats.{IsSameSeat}
use Rattle.seat_lock.specs.Since.{MadeSince}
use Rattle.script_types.specs.declared.script.ScriptData.{ScriptData}
use Rattle.script_types.specs.declared.steps.MediaStep.{MediaStep}
use Rattle.script_types.specs.declared.steps.Step.{Step}
use Rattle.script_types.specs.declared.steps.Variable.{Variable}
use Rattle.script_types.specs.declared.steps.VariableKind.{VariableKind}
use Rattle.shared_codec.specs.Shared.{Shared}
use Rattle.shared_codec.specs.Keeps.{Keeps, keeps_since}
use Rattle.shared_pool.specs.declared.pool.LockedPool.{LockedPool}
use Rattle.shared_pool.specs.Steps as pools
use Rattle.codec_desk.specs.declared.desk.Desk.{Desk}
use Rattle.codec_desk.specs.declared.desk.Seats.{Seats}
use Rattle.codec_desk.specs.Desks.{SitAt}
use Rattle.codec_desk.specs.DeskLaws.{settled_none}
use Rattle.codec_desk.specs.NamedLaws.{calls_none}
use Rattle.report_text.specs.declared.result.StepResult.{StepResult}
use Rattle.media_variables.specs.Variables.{Medium, Numbers, Came, unit_came, lendable_at}
use Rattle.media_variables.specs.Given.{Acts}
use Rattle.shared_variables.specs.Since.{DidSince}
use Rattle.media_accounts.specs.Accounts.{step_op, done_by}
use Rattle.run_model.specs.Recorded.{opening_at, output_at}
use Rattle.desk_callers.specs.Deeds.{taken_as}
use Rattle.desk_callers.specs.Acts.{histories_in, AreOpened, NoOutput, TookAs, TookNone, EncodedAs, Did}
use Rattle.desk_callers.proofs.Acting.{plain_deed, call_acted}
use Rattle.desk_callers.proofs.Growing.{settled_by_then}
use Rattle.desk_callers.proofs.Histories.{go_same, between_none}
use Rattle.desk_callers.proofs.MediaActs.{acts_made, does_settle}
use Rattle.desk_callers.proofs.Own.{with_pool, settled_by}

unit_answers : (n : Numbers) (j : ℕ) (answer : StepResult) (u : output.Unit) (vs : List (Option Medium)) → (unit_came n j answer u vs).answer ≡ answer
unit_answers n j answer (unit.Sound s) vs = refl
unit_answers n j answer (unit.Image p) vs = refl
unit_answers n j answer (unit.Coded chunk config) vs = refl

module _ {C : Type 0} where
  -- a take that found an output, and what went into the step's variable
  pub took_acted : (s : ScriptData) (media : List (List Chunk)) (desk : Desk C) (rs : List StepResult) (a m : Seats C) (p : Seat (Option LockedPool) (View PoolEntry)) (vs after : List (Option Medium)) (who : Who) (on : ℕ) (bind : List ℕ) (kind : VariableKind) (place number : ℕ) (u : output.Unit) (r : StepResult) (x : Shared)
      → slice_get desk.codecs.items on ≡ Some x → AreOpened s desk.codecs.items → SitAt desk m → TookAs desk who on place number u a m → Keeps desk.pool m.pool p
      → Acts (DidSince who m.pool.me.0 p.me.0) (λ n. Some (unit_came n who.step (StepResult.Unit on place number) u vs)) vs after (Some r)
      → Did s media desk who (Step.Media (MediaStep.Take on bind kind)) rs a (with_pool m p) vs after r
  took_acted s media desk rs a m p vs after who on bind kind place number u r x there opened sits took kept acts =
      let n : Numbers = acts.numbers in
      let answer : StepResult = StepResult.Unit on place number in
      let y : Came = unit_came n who.step answer u vs in
      let came = acts.came_by in
      let hs : List (List Entry) = histories_in m.codecs.items in
      let shown : output_at (opening_at s on) (at on hs) number ≡ Some u = ap (λ (o : Opening). output_at o (at on hs) number) (sym (opened on x there)) ∙ took.shows x there in
      record {
        deed = record { who = who; step = Step.Media (MediaStep.Take on bind kind); result = answer; call = Some (Call.Take number); numbers = n; taken = Some u; received = None; time = 0 };
        who_is = refl;
        step_is = refl;
        result_is = sym (some_same r y.answer came.0 ∙ unit_answers n who.step answer u vs);
        acted = record {
          settled = settled_by_then who.caller [] (map (step_op who.step) (done_by (Some y))) desk a m (with_pool m p) (settled_by who.caller desk a m took.settled) (does_settle desk m p who y.does sits kept came.1);
          calls = took.calls;
          variables = came.2;
          between = took.between;
          is = record {
            result = (refl, took.stands);
            shows = tt;
            answers = tt;
            waited = tt;
            stands = (Call.Take number, refl, took.stands);
            arguments = (number, refl);
            taken = sym (ap (option_map (taken_as answer)) shown);
            received = λ none. refl;
          };
        };
      }

  -- a take that found none
  pub none_acted : (s : ScriptData) (media : List (List Chunk)) (desk : Desk C) (rs : List StepResult) (a b : Seats C) (vs : List (Option Medium)) (who : Who) (on : ℕ) (bind : List ℕ) (kind : VariableKind) (seen : ℕ) (x : Shared)
      → slice_get desk.codecs.items on ≡ Some x → AreOpened s desk.codecs.items → TookNone desk on seen a b → Did s media desk who (Step.Media (MediaStep.Take on bind kind)) rs a b vs vs (StepResult.NoUnit on seen)
  none_acted s media desk rs a b vs who on bind kind seen x there opened took =
      let hs : List (List Entry) = histories_in b.codecs.items in
      let none : NoOutput (opening_at s on) (take seen (at on hs)) = subst (λ (o : Opening). NoOutput o (take seen (at on hs))) (opened on x there) (took.shows x there) in
      record {
        deed = plain_deed who (Step.Media (MediaStep.Take on bind kind)) (StepResult.NoUnit on seen);
        who_is = refl;
        step_is = refl;
        result_is = refl;
        acted = record {
          settled = settled_by who.caller desk a b took.helped.settled;
          calls = took.helped.calls;
          variables = refl;
          between = took.between;
          is = record { result = refl; shows = (refl, none); answers = tt; waited = tt; stands = refl; arguments = tt; taken = refl; received = λ none. refl };
        };
      }

  -- ---- encodes

  encode_acted : (s : ScriptData) (media : List (List Chunk)) (desk : Desk C) (rs : List StepResult) (a b : Seats C) (vs : List (Option Medium)) (who : Who) (on : ℕ) (content : Variable) (r : StepResult) (x : Shared)
      → slice_get desk.codecs.items on ≡ Some x → AreOpened s desk.codecs.items → EncodedAs desk who on (lendable_at vs content.step) a b r → Did s media desk who (Step.Media (MediaStep.Encode on content)) rs a b vs vs r
  encode_acted s media desk rs a b vs who on content r x there opened done =
      call_acted s media desk rs a b vs who (Step.Media (MediaStep.Encode on content)) on _ r x there opened done.called refl refl (λ q. refl) (λ p e w. tt) (λ p e o. tt) (λ p e. tt)
      (done.lent, done.number, done.accepts, done.lent_is, refl)

  pub did_encode : (s : ScriptData) (media : List (List Chunk)) (desk : Desk C) (rs : List StepResult) (a b : Seats C) (vs : List (Option Medium)) (who : Who) (on : ℕ) (content : Variable) (r : Result StepResult NoMemory) (x : Shared)
      → slice_get desk.codecs.items on ≡ Some x → AreOpened s desk.codecs.items → IfOk r (EncodedAs desk who on (lendable_at vs content.step) a b) → IfOk r (Did s media desk who (Step.Media (MediaStep.Encode on content)) rs a b vs vs)
  did_encode s media desk rs a b vs who on content (Ok r) x there opened done = encode_acted s media desk rs a b vs who on content r x there opened done
  did_encode s media desk rs a b vs who on content (Err e) x there opened done = tt

  -- an encode whose variable is absent
  pub no_encode : (s : ScriptData) (media : List (List Chunk)) (desk : Desk C) (rs : List StepResult) (a : Seats C) (vs : List (Option Medium)) (who : Who) (on : ℕ) (content : Variable) → SitAt desk a → lendable_at vs content.step ≡ None → Did s media desk who (Step.Media (MediaStep.Encode on content)) rs a a vs vs StepResult.Absent
  no_encode s media desk rs a vs who on content sits none =
      let hs : List (List Entry) = histories_in a.codecs.items in
      record {
        deed = plain_deed who (Step.Media (MediaStep.Encode on content)) StepResult.Absent;
        who_is = refl;
        step_is = refl;
        result_is = refl;
        acted = record {
          settled = settled_by who.caller desk a a (settled_none desk a sits);
          calls = calls_none desk a;
          variables = refl;
          between = between_none mark.Local hs hs refl (go_same hs);
          is = record { result = tt; shows = tt; answers = none; waited = tt; stands = refl; arguments = tt; taken = refl; received = λ none. refl };
        };
      }

  -- ---- takes, whatever they answer

  -- the pool's seat stays
  pub keeps_taken : (desk : Desk C) (a p : Seat (Option LockedPool) (View PoolEntry)) (who : Who) (came : Numbers → Option Came) (vs after : List (Option Medium)) (r : Result StepResult NoMemory) → IsSameSeat a p → pools.IsFree desk.pool p
      → IfOk r (λ q. Acts (DidSince who a.me.0 p.me.0) came vs after (Some q)) → OnErr r (MadeSince a.me.0 p.me.0 []) → Keeps desk.pool a p
  keeps_taken desk a p who came vs after (Ok answer) same free acts err = let m = acts_made a.me.0 p.me.0 who came vs after (Some answer) acts in keeps_since desk.pool a p m.0 same free.0 m.1
  keeps_taken desk a p who came vs after (Err e) same free acts err = keeps_since desk.pool a p [] same free.0 err

  pub did_take : (s : ScriptData) (media : List (List Chunk)) (desk : Desk C) (rs : List StepResult) (a m : Seats C) (p : Seat (Option LockedPool) (View PoolEntry)) (vs after : List (Option Medium)) (who : Who) (on : ℕ) (bind : List ℕ) (kind : VariableKind) (place number : ℕ) (u : output.Unit) (r : Result StepResult NoMemory)
      → on < length desk.codecs.items → AreOpened s desk.codecs.items → SitAt desk m → TookAs desk who on place number u a m → Keeps desk.pool m.pool p
      → IfOk r (λ q. Acts (DidSince who m.pool.me.0 p.me.0) (λ n. Some (unit_came n who.step (StepResult.Unit on place number) u vs)) vs after (Some q))
      → IfOk r (Did s media desk who (Step.Media (MediaStep.Take on bind kind)) rs a (with_pool m p) vs after)
  did_take s media desk rs a m p vs after who on bind kind place number u (Ok r) lt opened sits took kept acts =
      let there = get_some desk.codecs.items on lt in
      took_acted s media desk rs a m p vs after who on bind kind place number u r there.0 there.1 opened sits took kept acts
  did_take s media desk rs a m p vs after who on bind kind place number u (Err e) lt opened sits took kept acts = tt
