-- The next entry of a codec that is followed.
use Rattle.std.specs.Prelude.{ℕ, ◌≡◌, List, Option, Some, option_map}
use Rattle.wc_chunk.specs.declared.chunk.Chunk.{Chunk}
use Rattle.codec_model.specs.declared.entry.Entry.{Entry}
use Rattle.codec_model.specs.declared.entry.Shown.{Shown}
use Rattle.codec_model.specs.Replay.{State}
use Rattle.codec_model.specs.Shown.{shown_at}
use Rattle.codec_follow.specs.Followed.{FollowerValue, follower_of}
use Rattle.script_types.specs.declared.script.ScriptData.{ScriptData}
use Rattle.report_text.specs.declared.line.EntryLine.{EntryLine}
use Rattle.report_reader.specs.declared.known.Known.{Known}
use Rattle.report_reader.specs.Read.{next_of}

-- the entry that is told, with what it shows, where it has its arguments and follows
abbrev pub shown_next : ScriptData → List (List Chunk) → Known → ℕ → ℕ → State → EntryLine → Option (Entry × Shown)
shown_next script media known k place s t = option_map (λ x. (x.0, shown_at x.0 s)) (next_of script media known k place s t)

-- After any state of which this is the follower: the entry and what it shows, and the follower after it.
pub record NextIs (script : ScriptData) (media : List (List Chunk)) (known : Known) (k place : ℕ) (t : EntryLine) (old : FollowerValue) (found : Option (Entry × Shown)) (new : FollowerValue) : Type 0 where
  pub answer : (s : State) → follower_of s ≡ old → shown_next script media known k place s t ≡ found
  pub after : (s : State) → follower_of s ≡ old → (e : Entry) (u : State) → next_of script media known k place s t ≡ Some (e, u) → follower_of u ≡ new
