-- Claims that are minted and spent.
use Rattle.std.specs.Prelude.{◌≡◌, ℕ, Bool, true, false, List, [], ◌∷◌, ◌++◌, MatchOption, Option, Some, None}
use Rattle.atomic_table.specs.declared.shared.Seat.{Seat}
use Rattle.wc_base.specs.declared.seat.Passage.{Passage}
use Rattle.wc_base.specs.declared.seat.Passage.TheVariants.{Made, Look}
use Rattle.wc_base.specs.declared.seat.View.{View}
use Rattle.seat_lock.specs.Claims.{mint_count}
use Rattle.seat_lock.specs.Passages.{Passes}
use Rattle.seat_lock.specs.Seats.{IsIdleAt}
use Rattle.wc_base.specs.Views.{Log}
use Rattle.lock_tests.specs.declared.stock.Order.{Order}
use Rattle.lock_tests.specs.declared.stock.Order.TheVariants.{Mint, Spend}

abbrev pub mints_claim : Order → Bool
mints_claim Mint = true
mints_claim (Spend claim) = false

abbrev pub claim_spent : List Order → Order → Option ℕ
claim_spent orders Mint = None
claim_spent orders (Spend claim) = Some claim

module _ {S : Type 0} where
  abbrev pub Passed : Passage Order → Seat (Option S) (View Order) → Seat (Option S) (View Order) → Type 0
  Passed p a b = Passes mints_claim claim_spent p a b

  -- a passage minted the claim with this number
  pub record Mints (claim : ℕ) (a b : Seat (Option S) (View Order)) : Type 0 where
    pub passes : Passes mints_claim claim_spent (Made Mint) a b
    pub number : claim ≡ mint_count mints_claim claim_spent passes.log

  -- a claim was minted, or none where there are no more numbers
  abbrev pub MintsOrLooks : Option ℕ → Seat (Option S) (View Order) → Seat (Option S) (View Order) → Type 0
  MintsOrLooks result a b = MatchOption result (Passed Look a b) (λ claim. Mints claim a b)

  -- the seat is idle at its lock again, with as many parts
  abbrev pub Rests : Seat (Option S) (View Order) → Seat (Option S) (View Order) → Type 0
  Rests a b = IsIdleAt a.table_id b × (b.me.0.parts ≡ a.me.0.parts)

  -- the last passage that the seat has seen is its own, by which a claim was spent
  pub record EndsInSpend (a : Seat (Option S) (View Order)) : Type 0 where
    pub log : Log Order
    pub claim : ℕ
    pub is : a.me.0.log ≡ log ++ (a.me.0.number, Made (Spend claim)) ∷ []
