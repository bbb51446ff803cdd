-- Which entries of a codec's history are lawful (our choice): each is legal after those before it, and an item that lacked a box
-- ends as it can with the coders that there are.
use Rattle.std.specs.Prelude.{Bool, true, false, ◌&&◌, List, [], ◌∷◌, take, Option, Some, None, is_some}
use Rattle.std.specs.List.{list_any}
use Rattle.wc_config.specs.declared.codec.CoderId.{CoderId}
use Rattle.coder_api.specs.Meaning.{is_id}
use Rattle.codec_model.specs.declared.entry.Opening.{Opening}
use Rattle.codec_model.specs.declared.entry.Shown.{Shown}
use Rattle.codec_model.specs.declared.entry.Entry.{Entry}
use Rattle.codec_model.specs.declared.entry.Entry.TheVariants as entry
use Rattle.codec_model.specs.declared.entry.Outcome.{Outcome}
use Rattle.codec_model.specs.declared.entry.Outcome.TheVariants as outcome
use Rattle.codec_model.specs.Control.{start_item}
use Rattle.codec_model.specs.Replay.{State, opening_state, replay, step}
use Rattle.codec_model.specs.Shown.{each_shown}
use Rattle.codec_accounts.specs.Boxes.{after, lacking}
use Rattle.legal_fronts.specs.Fronts.{legal_entries}

-- ---- the box that an item lacks

-- A start tells which coder its item needs that its codec has no box of; none where it lacks none.
abbrev pub lack_after : Entry → State → Option CoderId → Option CoderId
lack_after (entry.Start epoch item) s before = lacking s.given (start_item s.control)
lack_after _ s before = before

abbrev pub lack_from : List Entry → State → Option CoderId → Option CoderId
lack_from [] s before = before
lack_from (e ∷ es) s before = lack_from es (after e s) (lack_after e s before)

-- the coder of which the item that started last lacked a box, if it lacked one
abbrev pub lack_at : Opening → List Entry → Option CoderId
lack_at o history = lack_from history (opening_state o) None

-- ---- lawful entries

abbrev pub has_coder : CoderId → List CoderId → Bool
has_coder id made = list_any (λ other. is_id id other) made

-- An item that lacked no box is not refused one; one whose work was done had the coder that it needed.
abbrev pub box_allows : List CoderId → Option CoderId → Outcome → Bool
box_allows made None (outcome.NoSlot e) = false
box_allows made None _ = true
box_allows made (Some id) (outcome.Ran units) = has_coder id made
box_allows made (Some id) outcome.Refused = has_coder id made
box_allows made (Some id) _ = true

abbrev pub boxes_allow : List CoderId → Option CoderId → Entry → Bool
boxes_allow made lack (entry.Done epoch item moment o) = box_allows made lack o
boxes_allow made lack _ = true

abbrev pub lawful_after : List CoderId → Option CoderId → Entry → Option State → Bool
lawful_after made lack e None = false
lawful_after made lack e (Some s) = is_some (step e s) && boxes_allow made lack e

-- the entry is lawful after those before it; `made` has the ids of the coders that there are
abbrev pub is_lawful_next : List CoderId → Opening → List Entry → Entry → Bool
is_lawful_next made o before e = lawful_after made (lack_at o before) e (replay o before)

-- the entries before the first that is not lawful
abbrev pub lawful_front : List CoderId → Opening → List Entry → List Entry
lawful_front made o history = take (legal_entries (is_lawful_next made o) history) history

-- what they show by the codec's definition
abbrev pub lawful_shown : List CoderId → Opening → List Entry → List Shown
lawful_shown made o history = each_shown o (lawful_front made o history)
