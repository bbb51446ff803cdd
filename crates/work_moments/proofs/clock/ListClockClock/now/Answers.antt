use Rattle.std.proofs.Common.{refl, ap, sym, subst, ◌∙◌, ◌≡◌, [], ◌∷◌, ℕ, true, List}
use Rattle.work_moments.specs.Moments.{Behind, is_among, last_of, answer_of, gave_of}
use Rattle.work_moments.proofs.ListLaws.{is_given, one_more}
use Rattle.work_moments.proofs.clock.ListClockClock.now.Goals as goal

-- src/clock.rt:52:5
pub returns : goal.returns
returns c =
    let moments : List ℕ = c.args.self.now.moments.items in
    let is : c.answer-moment.result ≡ answer_of moments c.args.self.now.count = c.answer-moment.ensures ∙ ap (λ (l : List ℕ). answer_of l c.args.self.now.count) c.as_slice.ensures.value in (
      refl,
      (subst (λ (m : ℕ). is_among m (last_of moments ∷ moments) ≡ true) (sym is) (is_given (last_of moments) moments c.args.self.now.count), tt),
      subst (λ (m : ℕ). Behind (gave_of moments c.args.self.now.count) (m ∷ []) (gave_of moments c.saturating_add-self.result)) (sym is) (one_more moments c.args.self.now.count c.saturating_add-self.result c.saturating_add-self.ensures),
    )
