-- The ends of items that say that memory was wanted, by their codec's number and their place.
use Rattle.std.specs.Prelude.{ℕ, ◌+◌, List, [], ◌∷◌, ◌++◌, Some, if◌then◌else◌}
use Rattle.codec_model.specs.declared.entry.Entry.{Entry}
use Rattle.order_laws.specs.Same.{wants_memory}

-- the end at this place of this codec, if it says so
abbrev pub end_at : ℕ → ℕ → Entry → List (ℕ × ℕ)
end_at codec place e = if wants_memory (Some e) then (codec, place) ∷ [] else []

-- those of the entries of a codec from this place on
abbrev pub ends_from : ℕ → ℕ → List Entry → List (ℕ × ℕ)
ends_from codec place [] = []
ends_from codec place (e ∷ es) = end_at codec place e ++ ends_from codec (place + 1) es

-- those of the codecs from this number on
abbrev pub all_ends : ℕ → List (List Entry) → List (ℕ × ℕ)
all_ends codec [] = []
all_ends codec (h ∷ hs) = ends_from codec 0 h ++ all_ends (codec + 1) hs
