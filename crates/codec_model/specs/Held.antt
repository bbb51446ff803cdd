-- The references that a codec holds, and by which entry it lets them go (our choice).
use Rattle.std.specs.Prelude.{◌≡◌, ◌&&◌, Bool, true, false, List, [], ◌∷◌, ◌++◌, Option, Some, None, is_none, if◌then◌else◌}
use Rattle.codec_model.specs.declared.entry.Pair.{Pair}
use Rattle.codec_model.specs.declared.entry.Handed.TheVariants as handed
use Rattle.codec_model.specs.declared.entry.Running.{Running}
use Rattle.codec_model.specs.declared.entry.Item.{Item}
use Rattle.codec_model.specs.declared.entry.Message.{Message}
use Rattle.codec_model.specs.declared.entry.Task.{Task}
use Rattle.codec_model.specs.declared.entry.Entry.{Entry}
use Rattle.codec_model.specs.declared.entry.Entry.TheVariants as entry
use Rattle.codec_model.specs.Control.{Control, held_of, is_close}
use Rattle.codec_model.specs.declared.entry.Call.TheVariants as call
use Rattle.codec_model.specs.Replay.{State, step, removes, call_error}

abbrev pub in_order : {X : Type 0} → Option X → List X
in_order None = []
in_order (Some x) = x ∷ []

-- the reference that the running item holds
abbrev pub held_by : Option Running → Option Pair → List Pair
held_by None held = []
held_by (Some r) held = in_order held

abbrev pub running_pairs : State → List Pair
running_pairs s = held_by s.control.running s.running_held

abbrev pub items_held : List Item → List Pair
items_held [] = []
items_held (i ∷ is) = in_order (held_of i.work) ++ items_held is

abbrev pub messages_held : List Message → List Pair
messages_held [] = []
messages_held (m ∷ ms) = in_order (held_of m.work) ++ messages_held ms

-- what waits behind the running item
abbrev pub waiting_held : Control → List Pair
waiting_held c = items_held c.work ++ messages_held c.messages

-- all references that a codec holds, in the order of its encodes
abbrev pub held_in : State → List Pair
held_in s = running_pairs s ++ waiting_held s.control

abbrev pub closes_codec : List Task → Bool
closes_codec [] = false
closes_codec (t ∷ ts) = is_close t

-- an entry that removes what waits: a reset or close that is not refused, a turn that closes the codec, a reclaim
abbrev pub is_removal : Entry → State → Bool
is_removal (entry.Call who x) s = removes x && is_none (call_error x s.control)
is_removal entry.Turn s = closes_codec s.control.tasks
is_removal (entry.Reclaim moment) s = true
is_removal _ s = false

abbrev pub is_done : Entry → Bool
is_done (entry.Done epoch item moment outcome) = true
is_done _ = false

-- an entry lets go what the running item holds where it ends the item, and what waits where it is a removal
abbrev pub lets_go : Entry → State → List Pair
lets_go e s = if is_done e then running_pairs s else (if is_removal e s then waiting_held s.control else [])

-- what it leaves
abbrev pub leaves_held : Entry → State → List Pair
leaves_held e s = if is_done e then waiting_held s.control else (if is_removal e s then running_pairs s else held_in s)

-- an encode that is accepted adds the reference of its clone
abbrev pub adds_held : Entry → List Pair
adds_held (entry.Call who (call.Encode (handed.Cloned medium))) = medium.pair ∷ []
adds_held _ = []

-- after each entry a codec holds what the entry leaves, and what it adds
abbrev pub HeldStays : Type 0
HeldStays = (e : Entry) (s t : State) → step e s ≡ Some t → held_in t ≡ leaves_held e s ++ adds_held e

-- what waits behind the front item
abbrev pub behind_held : List Item → List Pair
behind_held [] = []
behind_held (i ∷ is) = items_held is

-- what the front item holds
abbrev pub front_held : List Item → List Pair
front_held [] = []
front_held (i ∷ is) = in_order (held_of i.work)

-- what waits, and what the running item holds, after an entry: a start hands on what the front item holds, the end of an item
-- lets it go, a removal lets go what waits
abbrev pub waiting_after : Entry → State → List Pair
waiting_after (entry.Start epoch item) s = behind_held s.control.work ++ messages_held s.control.messages
waiting_after e s = (if is_removal e s then [] else waiting_held s.control) ++ adds_held e

abbrev pub running_after : Entry → State → List Pair
running_after (entry.Start epoch item) s = front_held s.control.work
running_after (entry.Done epoch item moment outcome) s = []
running_after e s = running_pairs s

pub record HeldApart (e : Entry) (s t : State) : Type 0 where
  pub waits : waiting_held t.control ≡ waiting_after e s
  pub runs : running_pairs t ≡ running_after e s

abbrev pub HeldMoves : Type 0
HeldMoves = (e : Entry) (s t : State) → step e s ≡ Some t → HeldApart e s t
