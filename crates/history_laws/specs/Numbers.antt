-- How great the numbers of a codec's state are after so many entries.
use Rattle.std.specs.Prelude.{ℕ, ◌≡◌, ◌≤◌, ◌+◌, List, length, Some}
use Rattle.std.specs.List.{AllByRecursion}
use Rattle.codec_model.specs.declared.entry.Item.{Item}
use Rattle.codec_model.specs.declared.entry.Running.{Running}
use Rattle.codec_model.specs.Control.{Control}

-- the numbers of queued items
abbrev pub AreItemsUpTo : ℕ → List Item → Type 0
AreItemsUpTo n is = AllByRecursion (λ i. i.number ≤ n) is

-- no number of a state is above this one
pub record IsUpTo (n : ℕ) (c : Control) : Type 0 where
  pub place : c.place ≤ n
  pub epoch : c.epoch ≤ n
  pub size : c.size ≤ n
  -- how many outputs were taken
  pub taken : c.taken ≤ n
  -- each message becomes an item at most
  pub next : c.next_item + length c.messages ≤ n
  pub queued : AreItemsUpTo n c.work
  pub running : (r : Running) → c.running ≡ Some r → (r.epoch ≤ n) × (r.number ≤ n)
