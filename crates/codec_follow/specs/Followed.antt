-- What a follower keeps of a state, and what an entry does to it.
use Rattle.std.specs.Prelude.{◌≡◌, Option, Some, None, option_map, unwrap_or, if◌then◌else◌}
use Rattle.wc_base.specs.declared.error.DomError.{DomError}
use Rattle.codec_model.specs.declared.entry.Work.{Work}
use Rattle.codec_model.specs.declared.entry.Call.{Call}
use Rattle.codec_model.specs.declared.entry.Entry.{Entry}
use Rattle.codec_model.specs.declared.entry.Shown.{Shown}
use Rattle.codec_model.specs.Control.{Control}
use Rattle.codec_model.specs.Replay.{State, nothing_given, config_asked, removes}
use Rattle.codec_model.specs.Shown.{shown_at}
use Rattle.codec_follow.specs.declared.known.Known.{Known}
use Rattle.codec_follow.specs.Follow.{known_of, follow_step}

pub record FollowerValue : Type 0 where
  pub control : Control
  -- of the config that was last given in this epoch
  pub known : Known
  -- of the config that was last given up to the running item
  pub running_known : Known

-- the follower of a state
abbrev pub follower_of : State → FollowerValue
follower_of s = record { control = s.control; known = known_of s.given.config; running_known = known_of s.running_given.config }

-- what an entry shows where it follows
abbrev pub shown_where : Entry → State → Option Shown
shown_where e s = option_map (λ t. shown_at e s) (follow_step e s)

-- the state after an entry, or the same one where it does not follow
abbrev pub state_after : Entry → State → State
state_after e s = unwrap_or (follow_step e s) s

-- An entry after any state of which this is the follower: what it shows where it follows, and the follower after it.
pub record Follows (e : Entry) (old : FollowerValue) (shown : Option Shown) (new : FollowerValue) : Type 0 where
  pub answer : (s : State) → follower_of s ≡ old → shown_where e s ≡ shown
  pub after : (s : State) → follower_of s ≡ old → follower_of (state_after e s) ≡ new

-- what is known of the config that was last given, with one more item
abbrev pub known_with : Work → Known → Known
known_with w before = unwrap_or (option_map known_of (config_asked w)) before

-- what is known where nothing was given
abbrev pub nothing_known : Known
nothing_known = known_of nothing_given.config

-- what is known after a call, refused with this error or made: nothing of what it removed
abbrev pub known_after : Option DomError → Call → Known → Known
known_after None x before = if removes x then nothing_known else before
known_after (Some error) x before = before
