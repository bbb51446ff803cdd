-- What each step on the lock's words tells its seat.
use Rattle.std.specs.Prelude.{◌≡◌, ℕ, ◌^◌, ◌<◌, List, [], ◌∷◌, Option, Some, Bool}
use Rattle.atomic_table.specs.Table.{Step, rest}
use Rattle.wc_base.specs.Views.{Log}
use Rattle.wc_base.specs.declared.seat.Passage.{Passage}
use Rattle.wc_base.specs.declared.seat.Phase.TheVariants.{Idle, Waiting, Holding, Union}
use Rattle.seat_lock.specs.Claims.{AreLive}
use Rattle.seat_lock.specs.Logs.{Has, NoneBy, Continues, AreApart, AreDistinct}
use Rattle.seat_lock.specs.Seats.{Sitting, with_number, with_phase, after_passage}

module _ {S E : Type 0} where
  -- a new seat takes its number, of which the log has no passage yet
  abbrev pub TakesNumber : Step (Option S) → Sitting S E → ℕ → Sitting S E → Type 0
  TakesNumber st m r m' = (n : ℕ) × NoneBy (n ∷ []) m.0.log × (m' ≡ (with_number m.0 n, m.1))

  -- a seat that was joined with another is idle again, and learns what the two have in common
  abbrev pub Settles : Step (Option S) → Sitting S E → ℕ → Sitting S E → Type 0
  Settles st m r m' = (m' ≡ (with_phase m.0 Idle, m.1)) × AreDistinct m.0.claims
      × ((a b : List ℕ) (x y : Log E) → m.0.phase ≡ Union a x b y → Continues a x m.0.log × Continues b y m.0.log × AreApart a b)

  -- a seat draws a ticket
  abbrev pub Draws : Step (Option S) → Sitting S E → ℕ → Sitting S E → Type 0
  Draws st m r m' = m' ≡ (with_phase m.0 (Waiting r), m.1)

  module _ (mints : E → Bool) (spends : List E → E → Option ℕ) where
    -- the value that was taken, and the log that it stands for
    pub record Takes (tells : S → Log E → Type 0) (m : Sitting S E) (ticket : ℕ) (m' : Sitting S E) : Type 0 where
      pub value : S
      pub log : Log E
      pub stands : tells value log
      pub continues : Continues m.0.numbers m.0.log log
      pub has_number : Has m.0.number m.0.numbers
      pub live : AreLive mints spends log m.0.claims
      pub view : m' ≡ (with_phase m.0 (Holding ticket log), (0, Some value) ∷ m.1)

    -- at its turn, and not at a ticket of 2^63 or more, a seat takes the value
    abbrev pub TakesTurn : (S → Log E → Type 0) → Step (Option S) → Sitting S E → ℕ → Sitting S E → Type 0
    TakesTurn tells st m r m' = (t : ℕ) → m.0.phase ≡ Waiting t → (r ≡ t → t < 2 ^ 63 → Takes tells m t m') × (¬ ((r ≡ t) × (t < 2 ^ 63)) → m' ≡ m)

    -- a seat ends its passage
    abbrev pub Publishes : Passage E → Step (Option S) → Sitting S E → ℕ → Sitting S E → Type 0
    Publishes p st m r m' = (t : ℕ) (l : Log E) → m.0.phase ≡ Holding t l → m' ≡ (after_passage mints spends m.0 l p, rest m.1)

-- the value stands for the log, by what the lock was opened about, where that was picked
abbrev pub tells_by : {A S E : Type 0} → (A → S → Log E → Type 0) → Option A → S → Log E → Type 0
tells_by {A} tells about value log = (a : A) → about ≡ Some a → tells a value log
