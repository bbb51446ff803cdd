-- Claims: each is minted by an entry, numbered in that order from 0, and live until an entry spends it.
use Rattle.std.specs.Prelude.{◌≡◌, ℕ, ◌+◌, ◌<◌, List, [], ◌∷◌, ◌++◌, Option, Some, None, Bool, true, false, eqb, cond}
use Rattle.wc_base.specs.Views.{Log}
use Rattle.wc_base.specs.declared.seat.Passage.{Passage}
use Rattle.wc_base.specs.declared.seat.Passage.TheVariants.{Made, Look}
use Rattle.seat_lock.specs.Logs.{Has, IsNotIn, entries_of}

abbrev pub is_claim : Option ℕ → ℕ → Bool
is_claim None k = false
is_claim (Some claim) k = eqb claim k

-- the claim that is spent, if one is, is among these
abbrev pub HasClaim : Option ℕ → List ℕ → Type 0
HasClaim None claims = Unit {0}
HasClaim (Some claim) claims = Has claim claims

abbrev pub remove_claim : ℕ → List ℕ → List ℕ
remove_claim claim [] = []
remove_claim claim (k ∷ ks) = cond (eqb claim k) ks (k ∷ remove_claim claim ks)

abbrev pub without_claim : Option ℕ → List ℕ → List ℕ
without_claim None claims = claims
without_claim (Some claim) claims = remove_claim claim claims

abbrev pub with_claim : Bool → ℕ → List ℕ → List ℕ
with_claim true claim claims = claim ∷ claims
with_claim false claim claims = claims

-- of an entry: whether it mints a claim, and which claim it spends after these entries
module _ {E : Type 0} (mints : E → Bool) (spends : List E → E → Option ℕ) where
  -- whether the passage mints a claim
  abbrev pub mints_in : Passage E → Bool
  mints_in (Made e) = mints e
  mints_in Look = false

  -- how many claims the passages minted, which is the number of the next one
  abbrev pub mint_count : Log E → ℕ
  mint_count [] = 0
  mint_count (p ∷ ps) = cond (mints_in p.1) 1 0 + mint_count ps

  -- the claim that the passage spends after this log
  abbrev pub spends_in : Log E → Passage E → Option ℕ
  spends_in log (Made e) = spends (entries_of log) e
  spends_in log Look = None

  -- no passage of the second log, which follows the first, spends the claim
  abbrev pub is_unspent : ℕ → Log E → Log E → Bool
  is_unspent k before [] = true
  is_unspent k before (p ∷ ps) = cond (is_claim (spends_in before p.1) k) false (is_unspent k (before ++ p ∷ []) ps)

  -- the claim was minted, and no passage has spent it
  pub record IsLive (k : ℕ) (log : Log E) : Type 0 where
    pub below : k < mint_count log
    pub unspent : is_unspent k [] log ≡ true

  abbrev pub AreLive : Log E → List ℕ → Type 0
  AreLive log [] = Unit {0}
  AreLive log (k ∷ ks) = IsLive k log × AreLive log ks

  -- these claims are live, none stands twice, and the seat j has them
  abbrev pub HoldsClaims : (ℕ → ℕ) → ℕ → Log E → List ℕ → Type 0
  HoldsClaims holder j log [] = Unit {0}
  HoldsClaims holder j log (k ∷ ks) = IsLive k log × (holder k ≡ j) × IsNotIn k ks × HoldsClaims holder j log ks

  -- what is held after a passage that follows this log: the claim that it spends goes, the one that it mints comes
  abbrev pub claims_after : List ℕ → Log E → Passage E → List ℕ
  claims_after claims log p = with_claim (mints_in p) (mint_count log) (without_claim (spends_in log p) claims)
