-- The boxes of one codec: which entries ask for one, and by which it goes back (our choice).
use Rattle.std.specs.Prelude.{ℕ, suc, ◌≡◌, nat_le, Bool, true, false, cond, List, [], ◌∷◌, ◌++◌, map, slice_get, Option, Some, None, is_some, option_and_then, unwrap_or}
use Rattle.std.specs.List.{flat_map}
use Rattle.wc_config.specs.declared.codec.CoderId.{CoderId}
use Rattle.codec_model.specs.declared.entry.Opening.{Opening}
use Rattle.codec_model.specs.declared.entry.Item.{Item}
use Rattle.codec_model.specs.declared.entry.Entry.{Entry}
use Rattle.codec_model.specs.declared.entry.Entry.TheVariants as entry
use Rattle.codec_model.specs.Control.{start_item}
use Rattle.codec_model.specs.Held.{is_removal}
use Rattle.codec_model.specs.Replay.{State, Given, step, opening_state, missing_coder}
use Rattle.codec_accounts.specs.Owed.{state_on, owed}

-- What an entry is to its codec's box: the start of an item that lacks a box of this coder, or of another item; the end of
-- an item; a removal; or neither of these.
pub data Act : Type 0 where
  Asks : CoderId → Act
  Begins : Act
  Ends : Act
  Removes : Act
  Other : Act

-- the coder of which an item needs a box that its codec does not hold, if there is an item
abbrev pub lacking : Given → Option Item → Option CoderId
lacking given None = None
lacking given (Some i) = missing_coder given i.work

abbrev pub start_act : Option CoderId → Act
start_act None = Begins
start_act (Some id) = Asks id

abbrev pub removal_act : Bool → Act
removal_act true = Removes
removal_act false = Other

-- what an entry is to its codec's box, by the state before it
abbrev pub act_of : Entry → State → Act
act_of (entry.Start epoch item) t = start_act (lacking t.given (start_item t.control))
act_of (entry.Done epoch item moment outcome) t = Ends
act_of e t = removal_act (is_removal e t)

-- the state after an entry; an entry that is not legal leaves it
abbrev pub after : Entry → State → State
after e t = unwrap_or (step e t) t

-- what the entries of a history are to their codec's box
abbrev pub acts_of : Opening → List Entry → List Act
acts_of o history = owed after (λ place e t. act_of e t ∷ []) 0 (opening_state o) history

abbrev pub asks_of : Act → Option CoderId
asks_of (Asks id) = Some id
asks_of Begins = None
asks_of Ends = None
asks_of Removes = None
asks_of Other = None

-- the coder of which the act at a place asks for a box, if it asks for one
abbrev pub asks_in : List Act → ℕ → Option CoderId
asks_in acts place = option_and_then asks_of (slice_get acts place)

-- the coder of which the entry at a place of a history asks for a box, if it asks for one
abbrev pub asks_at : Opening → List Entry → ℕ → Option CoderId
asks_at o history place = asks_in (acts_of o history) place

-- ---- the entry that lets a box go

-- What became of a box that was asked for: its codec keeps it; it is to leave once the item that is at work with it ends;
-- or it has left by the entry at a place.
pub data Stay : Type 0 where
  Kept : Stay
  Leaving : Stay
  Left : ℕ → Stay

-- whether an item is at work after an entry
abbrev pub runs_after : Act → Bool → Bool
runs_after (Asks id) runs = true
runs_after Begins runs = true
runs_after Ends runs = false
runs_after Removes runs = runs
runs_after Other runs = runs

-- A box that is kept leaves where another is asked for, and at a removal; there an item that is at work keeps it until its
-- end.
abbrev pub stay_at : Act → Bool → ℕ → Stay → Stay
stay_at (Asks id) runs place Kept = Left place
stay_at Removes runs place Kept = cond runs Leaving (Left place)
stay_at Ends runs place Leaving = Left place
stay_at act runs place stay = stay

-- What became of the box that was asked for at a place, after the entries from another place on; those up to its own place
-- leave it.
abbrev pub stays : ℕ → ℕ → Bool → List Act → Stay → Stay
stays p place runs [] stay = stay
stays p place runs (a ∷ rest) stay = stays p (suc place) (runs_after a runs) rest (cond (nat_le place p) stay (stay_at a runs place stay))

abbrev pub left_by : Stay → Option ℕ
left_by Kept = None
left_by Leaving = None
left_by (Left place) = Some place

-- the place at which the box goes back that was asked for at this place, if it does
abbrev pub lets_in : List Act → ℕ → Option ℕ
lets_in acts p = left_by (stays p 0 false acts Kept)

-- the place of the entry by which the box leaves that the entry at this place asked for, if it leaves
abbrev pub lets : Opening → List Entry → ℕ → Option ℕ
lets o history place = lets_in (acts_of o history) place

-- the place of the start whose item is at work, if one is
abbrev pub start_after : Act → ℕ → Option ℕ → Option ℕ
start_after (Asks id) place since = Some place
start_after Begins place since = Some place
start_after Ends place since = None
start_after Removes place since = since
start_after Other place since = since

abbrev pub start_from : ℕ → Option ℕ → List Act → Option ℕ
start_from place since [] = since
start_from place since (a ∷ rest) = start_from (suc place) (start_after a place since) rest

abbrev pub start_in : List Act → Option ℕ
start_in acts = start_from 0 None acts

-- ---- the same, by the state before each entry

-- An entry, and the box that went out for it: at a start that asks for one, or at the end of its item.
pub record Event (B : Type 0) : Type 0 where
  pub act : Act
  pub box : Option B

-- A codec's box, if it has one: the place of the entry that asked for it, whether the item at work asked for it, and
-- whether it leaves when that item ends.
pub record Holds (B : Type 0) : Type 0 where
  pub place : ℕ
  pub runs : Bool
  pub old : Bool
  pub waits : Bool
  pub since : Option ℕ
  pub box : Option B

-- the place at which the box was asked for that an entry gets
abbrev pub gets_since : Act → ℕ → Option ℕ → Option ℕ
gets_since (Asks id) place since = Some place
gets_since Begins place since = since
gets_since Ends place since = since
gets_since Removes place since = since
gets_since Other place since = since

module _ {B : Type 0} where
  abbrev pub holds_nothing : Holds B
  holds_nothing = record { place = 0; runs = false; old = false; waits = false; since = None; box = None }

  abbrev pub newer : Option B → Option B → Option B
  newer None b = b
  newer (Some a) b = Some a

  abbrev pub holds_after_end : Bool → Option B → Holds B → Holds B
  holds_after_end true b x = record { place = suc x.place; runs = false; old = false; waits = false; since = None; box = None }
  holds_after_end false b x = record { place = suc x.place; runs = false; old = false; waits = false; since = x.since; box = newer b x.box }

  abbrev pub holds_removed : Bool → Holds B → Holds B
  holds_removed true x = record { place = suc x.place; runs = x.runs; old = true; waits = x.waits; since = x.since; box = x.box }
  holds_removed false x = record { place = suc x.place; runs = x.runs; old = x.old; waits = x.waits; since = None; box = None }

  abbrev pub holds_by : Act → Option B → Holds B → Holds B
  holds_by (Asks id) b x = record { place = suc x.place; runs = true; old = false; waits = true; since = Some x.place; box = b }
  holds_by Begins b x = record { place = suc x.place; runs = true; old = false; waits = false; since = x.since; box = x.box }
  holds_by Ends b x = holds_after_end x.old b x
  holds_by Removes b x = holds_removed x.runs x
  holds_by Other b x = record { place = suc x.place; runs = x.runs; old = x.old; waits = x.waits; since = x.since; box = x.box }

  abbrev pub holds_after : Event B → Holds B → Holds B
  holds_after e x = holds_by e.act e.box x

  -- a box, with the place at which it was asked for
  abbrev pub box_with : Option ℕ → Option B → List (ℕ × B)
  box_with (Some p) (Some b) = (p, b) ∷ []
  box_with _ _ = []

  abbrev pub lets_go_by : Act → Option B → Holds B → List (ℕ × B)
  lets_go_by (Asks id) b x = box_with x.since x.box
  lets_go_by Begins b x = []
  lets_go_by Ends b x = cond x.old (box_with x.since (newer b x.box)) []
  lets_go_by Removes b x = cond x.runs [] (box_with x.since x.box)
  lets_go_by Other b x = []

  -- the boxes that an entry lets go, each with the entry's place
  abbrev pub lets_go : ℕ → Event B → Holds B → List (ℕ × (ℕ × B))
  lets_go place e x = map (λ b. (place, b)) (lets_go_by e.act e.box x)

  -- the box that went out for an entry
  abbrev pub gets : ℕ → Event B → Holds B → List (ℕ × B)
  gets place e x = box_with (gets_since e.act place x.since) e.box

  abbrev pub all_let_go : List (Event B) → List (ℕ × (ℕ × B))
  all_let_go es = owed holds_after lets_go 0 holds_nothing es

  abbrev pub all_gets : List (Event B) → List (ℕ × B)
  all_gets es = owed holds_after gets 0 holds_nothing es

  abbrev pub acts_in : List (Event B) → List Act
  acts_in es = map (λ e. e.act) es

  abbrev pub goes_at : Option ℕ → ℕ × B → List (ℕ × (ℕ × B))
  goes_at None b = []
  goes_at (Some q) b = (q, b) ∷ []

  -- the returns that these boxes call for
  abbrev pub returns_of : List Act → List (ℕ × B) → List (ℕ × (ℕ × B))
  returns_of acts bs = flat_map (λ b. goes_at (lets_in acts b.0) b) bs

  -- An entry may come next. A box went out only for a start that asks for one, or for the end of an item that asked for one
  -- and has none.
  abbrev pub MayCome : Act → Option B → Holds B → Type 0
  MayCome (Asks id) b x = x.runs ≡ false
  MayCome Begins b x = (x.runs ≡ false) × (b ≡ None)
  MayCome Ends b x = (x.runs ≡ true) × (is_some b ≡ true → (x.waits ≡ true) × (x.box ≡ None))
  MayCome Removes b x = b ≡ None
  MayCome Other b x = b ≡ None

  pub data Legal : List (Event B) → Type 0 where
    Nothing : Legal []
    More : (es : List (Event B)) (e : Event B) → Legal es → MayCome e.act e.box (state_on holds_after holds_nothing es) → Legal (es ++ e ∷ [])
