-- What is recorded grows: what was there stays, and what it says of the script too.
use Rattle.std.proofs.Common.{ℕ, zero, suc, ◌≡◌, ◌≤◌, ◌<◌, ◌++◌, List, take, length, Option, Some, None, refl, ap, ◌∙◌, arith}
use Rattle.std.proofs.lemmas.List.{take-append-le}
use Rattle.std.proofs.lemmas.Option.{slice_get_within}
use Rattle.wc_base.specs.declared.{who.Who.Who}
use Rattle.wc_chunk.specs.declared.chunk.Chunk.{Chunk}
use Rattle.codec_definitions.specs.declared.unit.Unit as media
use Rattle.codec_model.specs.{declared.entry.Entry.Entry, Replay.IsLegal}
use Rattle.history_laws.specs.CountLaws.{outputs_stay}
use Rattle.codec_accounts.specs.{Owed.at, ListLaws.get_some, ListLaws.get_kept}
use Rattle.script_types.specs.declared.{script.ScriptData.ScriptData, steps.Step.Step}
use Rattle.script_types.specs.Names.{called, taken_from}
use Rattle.report_text.specs.declared.result.StepResult.{StepResult}
use Rattle.run_model.specs.Recorded.{Recorded, opening_at, output_at, take_entry}
use Rattle.run_model.specs.Fits.{result_in, step_in, made_steps, taken_by, brought_to, came_at, variables_at, IsResultBy, IsResultOf, LookShows, IsLocalAnswer, MarksClimb}
use Rattle.media_variables.specs.Variables.{Came, Taken, Received, Brought}
use Rattle.media_accounts.specs.Accounts.{variables_by, IsBroughtToo}
use Rattle.run_model.specs.FitsLaws.{made_at, look_of, order_by_places}
use Rattle.order_laws.proofs.Entries.{shown_kept}

-- each codec's history is legal
abbrev pub Legals : ScriptData → Recorded → Type 0
Legals s w = (k : ℕ) → IsLegal (opening_at s k) (at k w.codecs)

-- the results stay, with what their steps received, and each history goes on
pub record Grows (w v : Recorded) : Type 0 where
  pub stays : (c j : ℕ) (r : StepResult) → result_in w c j ≡ Some r → result_in v c j ≡ Some r
  pub received : (c j : ℕ) → j < made_steps w c → v.received c j ≡ w.received c j
  pub more : (k : ℕ) → (more : List Entry) × (at k v.codecs ≡ at k w.codecs ++ more)

-- what the steps on media that were made come to is told as before
abbrev pub SameMedia : ScriptData → List (List Chunk) → Recorded → Recorded → Type 0
SameMedia s media w v = (c j : ℕ) → j < made_steps w c → came_at s media v c j ≡ came_at s media w c j

-- a caller's variables are the same where its steps so far came to the same
pub same_variables : (s : ScriptData) (media : List (List Chunk)) (w v : Recorded) (c n : ℕ) → ((j : ℕ) → j < n → came_at s media v c j ≡ came_at s media w c j) → variables_at s media v c n ≡ variables_at s media w c n
same_variables s media w v c zero same = refl
same_variables s media w v c (suc n) same =
    ap (λ (o : Option Came). variables_by o (variables_at s media v c n)) (same n (omega arith))
    ∙ ap (variables_by (came_at s media w c n)) (same_variables s media w v c n (λ j lt. same j (omega (arith, lt))))

-- before each of its steps that were made, and before its next one
pub variables_stay : (s : ScriptData) (media : List (List Chunk)) (w v : Recorded) (c n : ℕ) → SameMedia s media w v → n ≤ made_steps w c → variables_at s media v c n ≡ variables_at s media w c n
variables_stay s media w v c n same le = same_variables s media w v c n (λ j lt. same c j (omega (arith, lt, le)))

-- the output that a result names was shown
abbrev pub IsFound : ScriptData → Recorded → StepResult → Type 0
IsFound s w (StepResult.Unit k p n) = (u : media.Unit) × (output_at (opening_at s k) (at k w.codecs) n ≡ Some u)
IsFound s w _ = Unit {0}

-- A result fits: the script's step that it answers, and what it shows.
pub record ResultFits (s : ScriptData) (media : List (List Chunk)) (w : Recorded) (c j : ℕ) (r : StepResult) : Type 0 where
  pub step : Step
  pub is_step : step_in s c j ≡ Some step
  pub made : IsResultOf s w (record { caller = c; step = j }) step r
  pub found : IsFound s w r
  pub shows : LookShows s w c step r
  pub answers : IsLocalAnswer s media (variables_at s media w c j) (came_at s media w c j) c step r

-- this output is taken, by a step that answers so
abbrev pub taken_as : StepResult → media.Unit → Taken
taken_as answer u = record { unit = u; answer = answer }

-- this chunk and this output are brought to a step, and this from a port
abbrev pub brought : Option Chunk → Option Taken → Option Received → Brought
brought chunk taken received = record { chunk = chunk; taken = taken; received = received }

module _ (s : ScriptData) (w v : Recorded) (g : Grows w v) where
  made_stays : Legals s w → (who : Who) (t o : Option ℕ) (r : StepResult) → ((k p : ℕ) → made_at r ≡ Some (k, p) → p < length (at k w.codecs)) → IsResultBy s w who t o r → IsResultBy s v who t o r
  made_stays legal who None (Some k) (StepResult.Call other p error) within h =
      let m = g.more k in (h.0, rw (m.1, shown_kept (opening_at s k) (at k w.codecs) m.0 p (legal k) (rw h.0 at (within other p refl))) h.1)
  made_stays legal who (Some k) o (StepResult.Unit other p n) within h = (let m = g.more k in (h.0, rw m.1 (get_kept (at k w.codecs) m.0 p (take_entry who n) h.1)))
  made_stays legal who t o StepResult.Absent within h = h
  made_stays legal who t o r within h = h

  -- ---- outputs

  pub output_stays : (k n : ℕ) (u : media.Unit) → output_at (opening_at s k) (at k w.codecs) n ≡ Some u → output_at (opening_at s k) (at k v.codecs) n ≡ Some u
  output_stays k n u is = let m = g.more k in rw m.1 (outputs_stay (opening_at s k) (at k w.codecs) m.0 n u is)

  found_stays : (r : StepResult) → IsFound s w r → IsFound s v r
  found_stays (StepResult.Unit k p n) found = (found.0, output_stays k n found.0 found.1)
  found_stays r found = found

  taken_stays : (r : StepResult) → IsFound s w r → taken_by s v (Some r) ≡ taken_by s w (Some r)
  taken_stays (StepResult.Unit k p n) found = rw (output_stays k n found.0 found.1, found.1) refl
  taken_stays r found = refl

  -- what is brought to a step that was made is the same when what is recorded grows
  pub brought_stays : (media : List (List Chunk)) → ((c j : ℕ) (r : StepResult) → result_in w c j ≡ Some r → IsFound s w r) → IsBroughtToo (made_steps w) (brought_to s media w) (brought_to s media v)
  brought_stays media found c j x lt =
      let there = get_some (at c w.callers) j lt in
      rw (g.stays c j there.0 there.1, there.1, taken_stays there.0 (found c j there.0 there.1), g.received c j lt) refl

  -- ---- looks

  front_stays : (k n : ℕ) → n ≤ length (at k w.codecs) → take n (at k v.codecs) ≡ take n (at k w.codecs)
  front_stays k n within = let m = g.more k in rw m.1 (take-append-le n (at k w.codecs) m.0 within)

  shows_stays : (c : ℕ) (x : Step) (r : StepResult) → ((k n : ℕ) → look_of r ≡ Some (k, n) → n ≤ length (at k w.codecs)) → LookShows s w c x r → LookShows s v c x r
  shows_stays c (Step.Await promise) (StepResult.Look k n end) within h = (h.0, h.1, g.stays c promise.step (StepResult.Call k h.0 h.1) h.2, rw (front_stays k n (within k n refl)) h.3)
  shows_stays c (Step.Poll promise) (StepResult.Look k n end) within h = (h.0, h.1, g.stays c promise.step (StepResult.Call k h.0 h.1) h.2, rw (front_stays k n (within k n refl)) h.3)
  shows_stays c (Step.State on) (StepResult.State k n state size) within h = rw (front_stays k n (within k n refl)) h
  shows_stays c x (StepResult.NoUnit k n) within h = rw (front_stays k n (within k n refl)) h
  shows_stays c x StepResult.Absent within h = h
  shows_stays c x r within h = h

  -- a result that fits does so still
  pub result_stays : (media : List (List Chunk)) → Legals s w → MarksClimb w → SameMedia s media w v → (c j : ℕ) (r : StepResult) → result_in w c j ≡ Some r → ResultFits s media w c j r → ResultFits s media v c j r
  result_stays media legal climbs same c j r is fits =
      let order = order_by_places w climbs in
      let made : j < made_steps w c = slice_get_within (at c w.callers) j r is in
      record {
        step = fits.step;
        is_step = fits.is_step;
        made = made_stays legal (record { caller = c; step = j }) (taken_from fits.step) (called fits.step) r (λ k p call. order.stands c j k p r is call) fits.made;
        found = found_stays r fits.found;
        shows = shows_stays c fits.step r (λ k n l. order.within c j k n r is l) fits.shows;
        answers = rw (same c j made, variables_stay s media w v c j same (omega (arith, made))) fits.answers;
      }
