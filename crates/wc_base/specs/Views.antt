-- Logs of passages, and tokens.
use Rattle.std.specs.Prelude.{◌≡◌, ℕ, List, [], ◌∷◌}
use Rattle.atomic_table.specs.declared.badge.Badge.{Badge}
use Rattle.wc_base.specs.declared.seat.Passage.{Passage}
use Rattle.wc_base.specs.declared.seat.Phase.TheVariants.{Token}
use Rattle.wc_base.specs.declared.seat.View.{View}

-- passages, each with the number of its seat
abbrev pub Log : Type 0 → Type 0
Log E = List (ℕ × Passage E)

-- a token's view, of the claim with this number; the log is that of the seat which it was cut from
abbrev pub token_view : {E : Type 0} → ℕ → View E → View E
token_view claim v = record { number = 0; numbers = []; log = v.log; parts = 0; claims = claim ∷ []; phase = Token }

-- it is a token, and this is its view
abbrev pub IsTokenWith : {E : Type 0} → View E → Badge (View E) → Type 0
IsTokenWith view token = (token.views ≡ view ∷ []) × (view.phase ≡ Token)
