-- Following an order where it is said which ends say that memory was wanted.
use Rattle.std.specs.Prelude.{ℕ, ◌≡◌, ◌==◌, ◌&&◌, Bool, false, List, [], ◌∷◌, length, slice_get}
use Rattle.std.specs.List.{list_any}
use Rattle.wc_chunk.specs.declared.chunk.Chunk.{Chunk}
use Rattle.codec_model.specs.declared.entry.Entry.{Entry}
use Rattle.codec_accounts.specs.Owed.{at}
use Rattle.codec_accounts.specs.Codec.{codec_at}
use Rattle.script_types.specs.declared.script.ScriptData.{ScriptData}
use Rattle.script_types.specs.declared.script.OrderItem.{OrderItem}
use Rattle.script_types.specs.declared.script.OrderItem.TheVariants as item
use Rattle.run_model.specs.Follow.{Course, follow_item}
use Rattle.order_laws.specs.Same.{wants_memory}

-- the entry at this place of the codec with this number is listed
abbrev pub is_listed : List (ℕ × ℕ) → ℕ → ℕ → Bool
is_listed listed codec place = list_any (λ x. (x.0 == codec) && (x.1 == place)) listed

-- the item of the order is an end, whose entry would be a listed one
abbrev pub is_listed_end : List (ℕ × ℕ) → OrderItem → Course → Bool
is_listed_end listed (item.Done k moment) v = is_listed listed k (length (codec_at k v.codecs).history)
is_listed_end listed x v = false

-- The course that items of the order make from another on, where the listed ends say that memory was wanted and no other does.
-- `media` has the chunks of each chunk file.
abbrev pub course_with : List (ℕ × ℕ) → ScriptData → List (List Chunk) → List OrderItem → Course → Course
course_with listed s media [] v = v
course_with listed s media (x ∷ xs) v = course_with listed s media xs (follow_item s media (is_listed_end listed x v) x v)

-- of all entries of these histories the listed ones are the ends that say that memory was wanted
abbrev pub AreListed : List (ℕ × ℕ) → List (List Entry) → Type 0
AreListed listed codecs = (k n : ℕ) → wants_memory (slice_get (at k codecs) n) ≡ is_listed listed k n
