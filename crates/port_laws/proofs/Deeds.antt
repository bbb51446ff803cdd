-- What is recorded of a step that posts or receives, by its deed, and the deed by what is recorded.
use Rattle.std.proofs.Common.{ℕ, zero, suc, ◌≡◌, List, [], ◌∷◌, length, take, Option, Some, None, refl, ap, sym, subst, ◌∙◌}
use Rattle.std.specs.Prelude.{slice_get, option_and_then}
use Rattle.wc_base.specs.Options.{some_same}
use Rattle.wc_base.specs.declared.who.Who.{Who}
use Rattle.wc_chunk.specs.declared.chunk.Chunk.{Chunk}
use Rattle.codec_model.specs.declared.entry.Entry.{Entry}
use Rattle.codec_accounts.specs.Owed.{at}
use Rattle.script_types.specs.declared.script.ScriptData.{ScriptData}
use Rattle.script_types.specs.declared.steps.Step.{Step}
use Rattle.script_types.specs.declared.steps.Step.TheVariants as step
use Rattle.script_types.specs.declared.steps.MediaStep.{MediaStep}
use Rattle.script_types.specs.declared.steps.MediaStep.TheVariants as on_media
use Rattle.report_text.specs.declared.result.StepResult.{StepResult}
use Rattle.report_text.specs.declared.result.StepResult.TheVariants as result
use Rattle.media_variables.specs.Variables.{Reference, Medium, Numbers, Received, Brought, medium_at, if_held, if_there, post_held, media_came}
use Rattle.media_accounts.specs.Accounts.{media_of, step_by}
use Rattle.run_model.specs.Fits.{Gets, Posts, IsPosted, IsLocalAnswer, step_in, result_in, received_from, variables_at, medium_of, medium_posted, port_posted, port_received}
use Rattle.run_model.specs.Recorded.{Recorded}
use Rattle.desk_callers.specs.Deeds.{Deed, IsDeedAfter, brought_by, results_of, variables_after}
use Rattle.desk_callers.specs.PortDeeds.{GotAt, PostedAt, FoundNothingAt}
use Rattle.port_laws.specs.PortAccounts.{CallersMade}

length_front : {X : Type 0} (xs : List X) (j : ℕ) (x : X) → slice_get xs j ≡ Some x → length (take j xs) ≡ j
length_front [] j x h = absurd cc
length_front (y ∷ ys) zero x h = refl
length_front (y ∷ ys) (suc j) x h = ap suc (length_front ys j x h)

result_of : (ds : List Deed) (j : ℕ) (d : Deed) → slice_get ds j ≡ Some d → slice_get (results_of ds) j ≡ Some d.result
result_of [] j d h = absurd cc
result_of (e ∷ ds) zero d h = ap (λ (x : Deed). Some x.result) (some_same e d h)
result_of (e ∷ ds) (suc j) d h = result_of ds j d h

deed_of : (ds : List Deed) (j : ℕ) (r : StepResult) → slice_get (results_of ds) j ≡ Some r → (d : Deed) × ((slice_get ds j ≡ Some d) × (d.result ≡ r))
deed_of [] j r h = absurd cc
deed_of (d ∷ ds) zero r h = (d, (refl, some_same d.result r h))
deed_of (d ∷ ds) (suc j) r h = deed_of ds j r h

who_received : (o : Option Deed) (p : Received) → option_and_then (λ d. d.received) o ≡ Some p → (d : Deed) × ((o ≡ Some d) × (d.received ≡ Some p))
who_received None p h = absurd cc
who_received (Some d) p h = (d, (refl, h))

-- ---- what a post that succeeded posted

held_there : (m : Medium) (of : ℕ) (vs : List (Option Medium)) (held : Option Reference) → (post_held of held vs).answer ≡ result.Local None → (n : Medium) × (if_held m held ≡ Some n)
held_there m of vs None h = absurd cc
held_there m of vs (Some r) h = (m, refl)

medium_there : (of : ℕ) (vs : List (Option Medium)) (o : Option Medium) → (if_there o vs (λ m. post_held of m.held vs)).answer ≡ result.Local None → (n : Medium) × (option_and_then (λ m. if_held m m.held) o ≡ Some n)
medium_there of vs None h = absurd cc
medium_there of vs (Some m) h = held_there m of vs m.held h

posts_medium : (s : ScriptData) (media : List (List Chunk)) (brought : MediaStep → Brought) (n : Numbers) (who : Who) (c q : ℕ) (vs : List (Option Medium)) (r : StepResult) (x : Step) →
    IsLocalAnswer s media vs (option_and_then (λ y. media_came n who (brought y) y vs) (media_of x)) c x r → port_posted x ≡ Some q → r ≡ result.Local None → (m : Medium) × (medium_posted x vs ≡ Some m)
posts_medium s media brought n who c q vs r (step.Media (on_media.Post to content)) answers port is = medium_there content.step vs (medium_at vs content.step) (sym answers ∙ is)
posts_medium s media brought n who c q vs r (step.Media x) answers port is = absurd cc
posts_medium s media brought n who c q vs r x answers port is = absurd cc

-- ---- deeds

module _ (s : ScriptData) (media : List (List Chunk)) (hs : List (List Entry)) (deeds : List (List Deed)) (run : Recorded) (made : CallersMade s media hs deeds run) where
  -- what is recorded where a deed stands
  pub record IsRecorded (c j : ℕ) (d : Deed) : Type 0 where
    pub after : IsDeedAfter s media c hs (take j (at c deeds)) d
    pub who : d.who ≡ step_by c j
    pub step : step_in s c j ≡ Some d.step
    pub result : result_in run c j ≡ Some d.result
    pub received : run.received c j ≡ d.received
    pub variables : variables_at s media run c j ≡ variables_after s media (take j (at c deeds))

  pub recorded : (c j : ℕ) (d : Deed) → slice_get (at c deeds) j ≡ Some d → IsRecorded c j d
  recorded c j d is =
      let after = (made.are c).each j d is in
      let long = length_front (at c deeds) j d is in
      record {
        after = after;
        who = after.who ∙ ap (step_by c) long;
        step = ap (step_in s c) (sym long) ∙ after.step;
        result = ap (λ (l : List StepResult). slice_get l j) (made.results c) ∙ result_of (at c deeds) j d is;
        received = made.received c j ∙ ap (option_and_then (λ (e : Deed). e.received)) is;
        variables = made.variables c j d is;
      }

  -- what a step received, its deed did, from some port
  pub received_at : (c j : ℕ) (p : Received) → run.received c j ≡ Some p → (q : ℕ) × GotAt s media q (at c deeds) j p
  received_at c j p is = by (port_received d.0.step) refl
    where
      d : (d : Deed) × ((slice_get (at c deeds) j ≡ Some d) × (d.received ≡ Some p))
      d = who_received (slice_get (at c deeds) j) p (sym (made.received c j) ∙ is)

      by : (o : Option ℕ) → port_received d.0.step ≡ o → (q : ℕ) × GotAt s media q (at c deeds) j p
      by None e =
          let none = (recorded c j d.0 d.1.0).after.is.received e in
          absurd (let both : None ≡ Some p = sym none ∙ d.1.1 in cc)
      by (Some q) e = (q, (d.0, (d.1.0, record { port = e; received = d.1.1 })))

  pub got_by : (q c j : ℕ) (p : Received) → Gets s run q c j p → GotAt s media q (at c deeds) j p
  got_by q c j p g =
      let d = who_received (slice_get (at c deeds) j) p (sym (made.received c j) ∙ g.0) in
      let is = recorded c j d.0 d.1.0 in
      (d.0, (d.1.0, record { port = sym (ap (option_and_then port_received) is.step) ∙ g.1; received = d.1.1 }))

  pub gets : (q c j : ℕ) (p : Received) → GotAt s media q (at c deeds) j p → Gets s run q c j p
  gets q c j p h =
      let is = recorded c j h.0 h.1.0 in
      (is.received ∙ h.1.1.received, ap (option_and_then port_received) is.step ∙ h.1.1.port)

  pub posted_by : (q c i : ℕ) → Posts s run q c i → (p : Received) × PostedAt s media q (at c deeds) i p
  posted_by q c i posts =
      let ds = at c deeds in
      let d = deed_of (at c deeds) i (result.Local None) (ap (λ (l : List StepResult). slice_get l i) (sym (made.results c)) ∙ posts.0) in
      let is = recorded c i d.0 d.1.0 in
      let port = sym (ap (option_and_then port_posted) is.step) ∙ posts.1 in
      let vs = variables_after s media (take i ds) in
      let m = posts_medium s media (brought_by s media d.0) d.0.numbers d.0.who d.0.who.caller q vs d.0.result d.0.step is.after.is.answers port d.1.1 in
      (record { poster = d.0.who; medium = m.0 }, (d.0, (d.1.0, record { port = port; result = d.1.1; poster = refl; medium = m.1 })))

  pub poster_of : (q c i : ℕ) (p : Received) → PostedAt s media q (at c deeds) i p → p.poster ≡ step_by c i
  poster_of q c i p h = h.1.1.poster ∙ (recorded c i h.0 h.1.0).who

  pub is_posted : (q c i : ℕ) (p : Received) → PostedAt s media q (at c deeds) i p → IsPosted s media run q p
  is_posted q c i p h =
      let is = recorded c i h.0 h.1.0 in
      let posts : Posts s run q c i = (is.result ∙ ap (λ (r : StepResult). Some r) h.1.1.result, ap (option_and_then port_posted) is.step ∙ h.1.1.port) in
      let vs = variables_at s media run c i in
      let medium : medium_of s c i vs ≡ Some p.medium = ap (option_and_then (λ (x : Step). medium_posted x vs)) is.step ∙ (ap (medium_posted h.0.step) is.variables ∙ h.1.1.medium) in
      subst (λ (w : Who). Posts s run q w.caller w.step × (medium_of s w.caller w.step (variables_at s media run w.caller w.step) ≡ Some p.medium)) (sym (poster_of q c i p h)) (posts, medium)

  pub found_nothing : (q c j : ℕ) → result_in run c j ≡ Some result.Nothing → received_from s c j ≡ Some q → FoundNothingAt s media q (at c deeds) j
  found_nothing q c j nothing from =
      let d = deed_of (at c deeds) j result.Nothing (ap (λ (l : List StepResult). slice_get l j) (sym (made.results c)) ∙ nothing) in
      let is = recorded c j d.0 d.1.0 in
      (d.0, (d.1.0, record { port = sym (ap (option_and_then port_received) is.step) ∙ from; result = d.1.1 }))
