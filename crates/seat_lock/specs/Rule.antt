-- The rule that a lock keeps between any two steps.
-- Word 0 counts the tickets that were drawn, word 1 the passages that ended. The slot has the value, and none while a seat has it.
use Rattle.std.specs.Prelude.{◌≡◌, ℕ, ◌+◌, ◌^◌, ◌<◌, ◌≤◌, ◌⊎◌, List, [], ◌∷◌, length, Option, Some, Bool, true}
use mathlib.Core.Option.{some, none}
use mathlib.Core.Option as maybe
use lib.ListN.{get_elem?}
use Rattle.atomic_table.specs.Table.{State}
use Rattle.wc_base.specs.Views.{Log}
use Rattle.wc_base.specs.declared.seat.Phase.{Phase}
use Rattle.wc_base.specs.declared.seat.Phase.TheVariants.{New, Idle, Token, Waiting, Holding, Union, Empty}
use Rattle.wc_base.specs.declared.seat.View.{View}
use Rattle.seat_lock.specs.Claims.{HoldsClaims, mint_count, is_unspent}
use Rattle.seat_lock.specs.Logs.{Has, NoneBy, Continues, AreApart, AreBelow}

abbrev pub total : {X : Type 0} → (X → ℕ) → List X → ℕ
total f [] = 0
total f (x ∷ xs) = f x + total f xs

-- each of these numbers belongs to the seat j
abbrev pub BelongTo : (ℕ → ℕ) → ℕ → List ℕ → Type 0
BelongTo owner j [] = Unit {0}
BelongTo owner j (n ∷ ns) = (owner n ≡ j) × BelongTo owner j ns

-- 1 for a seat that drew a ticket and has not ended its passage
abbrev pub busy_in : {E : Type 0} → Phase E → ℕ
busy_in New = 0
busy_in Idle = 0
busy_in Token = 0
busy_in (Waiting t) = 1
busy_in (Holding t l) = 1
busy_in (Union a b c d) = 0
busy_in Empty = 0

module _ {E : Type 0} where
  abbrev pub parts_of : View E → ℕ
  parts_of v = v.parts

  abbrev pub busy : View E → ℕ
  busy v = busy_in v.phase

  -- what holds of the seat j in each phase, where `log` is the lock's, `owner` names the seat of a number and `bearer` that of a ticket
  module _ (log : Log E) (drawn : ℕ) (owner bearer : ℕ → ℕ) (j : ℕ) where
    abbrev pub PhaseRule : View E → Phase E → Type 0
    PhaseRule v New = (0 < v.parts) × Continues v.numbers v.log log × BelongTo owner j v.numbers × (v.numbers ≡ []) × (owner j ≡ j) × NoneBy (j ∷ []) log
    PhaseRule v Idle = (0 < v.parts) × Continues v.numbers v.log log × BelongTo owner j v.numbers × (owner v.number ≡ j)
    PhaseRule v Token = (v.parts ≡ 0) × Continues v.numbers v.log log × (v.numbers ≡ [])
    PhaseRule v (Waiting t) = (0 < v.parts) × Continues v.numbers v.log log × BelongTo owner j v.numbers × (owner v.number ≡ j) × (bearer t ≡ j) × (length log ≤ t) × (t < drawn)
    PhaseRule v (Holding t l) = (0 < v.parts) × Continues v.numbers v.log log × BelongTo owner j v.numbers × (owner v.number ≡ j) × (bearer t ≡ j) × (t ≡ length log) × (t < drawn) × (t < 2 ^ 63) × (l ≡ log)
    PhaseRule v (Union a x b y) = (0 < v.parts) × Continues v.numbers v.log log × BelongTo owner j v.numbers × (owner v.number ≡ j) × Continues a x v.log × Continues b y v.log × AreApart a b
    PhaseRule v Empty = v.parts ≡ 0

  -- a seat has the value
  pub record IsOut (log : Log E) (views : List (View E)) : Type 0 where
    pub seat : ℕ
    pub view : View E
    pub ticket : ℕ
    pub list : Log E
    pub at : get_elem? views seat ≡ some view
    pub holds : view.phase ≡ Holding ticket list

  -- a seat has seen the whole log
  pub record HasWitness (log : Log E) (views : List (View E)) : Type 0 where
    pub seat : ℕ
    pub view : View E
    pub at : get_elem? views seat ≡ some view
    pub has_parts : 0 < view.parts
    pub has_log : view.log ≡ log

  -- a seat's own number is among its numbers
  abbrev pub NumberRule : View E → Phase E → Type 0
  NumberRule v New = Unit {0}
  NumberRule v Token = Unit {0}
  NumberRule v Empty = v.numbers ≡ []
  NumberRule v Idle = Has v.number v.numbers
  NumberRule v (Waiting t) = Has v.number v.numbers
  NumberRule v (Holding t l) = Has v.number v.numbers
  NumberRule v (Union a x b y) = Has v.number v.numbers

  -- the seat j has this number
  pub record HasNumber (j n : ℕ) (views : List (View E)) : Type 0 where
    pub view : View E
    pub at : get_elem? views j ≡ some view
    pub has : Has n view.numbers

  -- each passage is of a number that its owner has
  abbrev pub HasAuthors : (ℕ → ℕ) → List (View E) → Log E → Type 0
  HasAuthors owner views [] = Unit {0}
  HasAuthors owner views (p ∷ ps) = HasNumber (owner p.0) p.0 views × HasAuthors owner views ps

  module _ {S : Type 0} (tells : S → Log E → Type 0) where
    -- the value is in the slot, and stands for the log
    pub record IsHome (log : Log E) (homes : List (maybe.Option (Option S))) : Type 0 where
      pub value : S
      pub here : homes ≡ some (Some value) ∷ []
      pub stands : tells value log

  module _ {S : Type 0} (mints : E → Bool) (spends : List E → E → Option ℕ) (tells : S → Log E → Type 0) where
    -- the rule
    pub record LockRule (s : State (Option S) (View E)) : Type 0 where
      pub log : Log E
      pub drawn : ℕ
      pub owner : ℕ → ℕ
      pub bearer : ℕ → ℕ
      pub words : s.words ≡ drawn ∷ length log ∷ []
      pub bound : length log ≤ 2 ^ 63
      pub busy_sum : drawn ≡ length log + total busy s.views
      pub parts_sum : total parts_of s.views ≡ 2 ^ 32
      pub numbers : AreBelow (length s.views) log
      pub later_seats : (n : ℕ) → length s.views ≤ n → owner n ≡ n
      pub slot : IsHome tells log s.homes ⊎ ((s.homes ≡ none ∷ []) × IsOut log s.views)
      pub seats : (j : ℕ) (v : View E) → get_elem? s.views j ≡ some v → PhaseRule log drawn owner bearer j v v.phase
      pub witness : HasWitness log s.views
      pub own_numbers : (j : ℕ) (v : View E) → get_elem? s.views j ≡ some v → NumberRule v v.phase
      pub authors : HasAuthors owner s.views log
      pub holder : ℕ → ℕ
      pub claims : (j : ℕ) (v : View E) → get_elem? s.views j ≡ some v → HoldsClaims mints spends holder j log v.claims
      pub later_claims : (k : ℕ) → mint_count mints spends log ≤ k → is_unspent mints spends k [] log ≡ true
