-- What the posts and receives of a caller do at a pass of a port.
use Rattle.std.specs.Prelude.{ℕ, ◌≡◌, ◌<◌, ◌≤◌, ◌^◌, List, Option, Some, None, IfSome}
use Rattle.atomic_table.specs.Seated.{TableId}
use Rattle.wc_base.specs.declared.who.Who.{Who}
use Rattle.report_text.specs.declared.result.StepResult.{StepResult}
use Rattle.report_text.specs.declared.result.StepResult.TheVariants as result
use Rattle.shared_pool.specs.Refs.{IsPoolRef}
use Rattle.shared_port.specs.declared.rule.PortView.{PortView}
use Rattle.shared_port.specs.Steps.{Posts, ReceiveTells}
use Rattle.media_variables.specs.Given.{transferred_at}
use Rattle.media_variables.specs.Held.{WholeMedium, seen_in}
use Rattle.media_variables.specs.Variables.{medium_at, post_came, with_medium}

-- a medium on its way through a port, and the time of the step that posted it
pub record WholeParcel : Type 0 where
  pub medium : WholeMedium
  pub time : ℕ

-- the reference that it holds, if it holds one, is of this pool, and there are times behind its own
abbrev pub IsParcelOf : TableId → WholeParcel → Type 0
IsParcelOf pool p = IfSome p.medium.held (IsPoolRef pool) × (p.time ≤ 2 ^ 63)

-- what a post of a variable gives a port, if it gives something
abbrev pub whole_posted : List (Option WholeMedium) → ℕ → Option WholeMedium
whole_posted vs variable = (transferred_at (medium_at vs variable)).medium

-- a pass posted it by this step, at this time, or knows what it knew
abbrev pub PostsIf : Who → ℕ → Option WholeMedium → PortView WholeParcel → PortView WholeParcel → Type 0
PostsIf who time None v w = w ≡ v
PostsIf who time (Some m) v w = Posts (who, record { medium = m; time = time }) v w

-- A post of a variable at this time came to what it comes to, and its pass knew v before it and knows w.
pub record HasPosted (who : Who) (variable time : ℕ) (vs after : List (Option WholeMedium)) (v w : PortView WholeParcel) (r : StepResult) : Type 0 where
  pub answer : r ≡ (post_came variable (seen_in vs)).answer
  pub variables : seen_in after ≡ (post_came variable (seen_in vs)).variables
  pub posted : PostsIf who time (whole_posted vs variable) v w

-- what was received, with the step that posted it, is what the step's variable holds
abbrev pub HasTaken : Who → Option (Who × WholeParcel) → List (Option WholeMedium) → List (Option WholeMedium) → StepResult → Type 0
HasTaken who None vs after r = (r ≡ result.Nothing) × (after ≡ vs)
HasTaken who (Some x) vs after r = (r ≡ result.From x.0) × (after ≡ with_medium who.step x.1.medium vs)

-- a receive that began at the time `early` has the time `late`, which is behind that of what it received
abbrev pub IsLater : ℕ → Option (Who × WholeParcel) → ℕ → Type 0
IsLater early None late = late ≡ early
IsLater early (Some x) late = (early ≤ late) × (x.1.time < late)

-- A receive came to what its pass received, which knew v before it and knows w. It began at one time, and has the other.
pub record HasReceived (who : Who) (vs after : List (Option WholeMedium)) (v w : PortView WholeParcel) (early late : ℕ) (r : StepResult) : Type 0 where
  pub received : Option (Who × WholeParcel)
  pub told : ReceiveTells IsParcelOf received v w
  pub later : IsLater early received late
  pub taken : HasTaken who received vs after r
