-- Which lists of buffers may be transferred (HTML, 'StructuredSerializeWithTransfer').
use Rattle.std.specs.Prelude.{ℕ, ◌==◌, ◌&&◌, not, Bool, true, List, [], ◌∷◌, slice_get, Option, is_some, option_and_then}
use Rattle.std.specs.List.{list_any}
use Rattle.wc_pool.specs.declared.reference.MediaRef.{MediaRef}

-- each number of the list is that of an open buffer, and stands once
abbrev pub may_transfer : (ℕ → Bool) → List ℕ → Bool
may_transfer is_open [] = true
may_transfer is_open (n ∷ ns) = (is_open n && not (list_any (λ m. m == n) ns)) && may_transfer is_open ns

-- the buffer with this number is there, and open
abbrev pub is_open_at : List (Option MediaRef) → ℕ → Bool
is_open_at buffers n = is_some (option_and_then (λ b. b) (slice_get buffers n))
