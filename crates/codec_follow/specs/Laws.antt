-- What holds between legal histories and histories that follow.
use Rattle.std.specs.Prelude.{◌≡◌, ◌≤◌, List, length, take, Some}
use Rattle.std.specs.List.{AllByRecursion}
use Rattle.codec_definitions.specs.declared.unit.Unit as media
use Rattle.codec_model.specs.declared.entry.Opening.{Opening}
use Rattle.codec_model.specs.declared.entry.Entry.{Entry}
use Rattle.codec_model.specs.Replay.{State, step, replay, IsLegal}
use Rattle.codec_model.specs.Shown.{shown, outputs_of, each_shown, units_shown}
use Rattle.codec_follow.specs.Follow.{follow_step, IsFollowed, each_filled}
use Rattle.codec_follow.specs.Erased.{erased_state}
use Rattle.codec_follow.specs.Outputs.{IsOutputOf, ConfiguresAs}

-- a legal history follows
abbrev pub LegalFollows : Type 0
LegalFollows = (o : Opening) (h : List Entry) → IsLegal o h → IsFollowed o h

-- what a legal history shows is what it shows as one that follows, with its own outputs
abbrev pub LegalFills : Type 0
LegalFills = (o : Opening) (h : List Entry) → IsLegal o h → each_shown o h ≡ each_filled o h (outputs_of (shown o h))

-- each step of a legal history is followed, with blanks for the outputs
abbrev pub StepsErased : Type 0
StepsErased = (o : Opening) (h : List Entry) (s : State) (e : Entry) (t : State) → replay o h ≡ Some s → step e s ≡ Some t → follow_step e (erased_state s) ≡ Some (erased_state t)

-- the units are shown in their order, where they are as many as the outputs or more
abbrev pub UnitsInOrder : Type 0
UnitsInOrder = (o : Opening) (h : List Entry) (us : List media.Unit) → length (units_shown (each_filled o h us)) ≤ length us → units_shown (each_filled o h us) ≡ take (length (units_shown (each_filled o h us))) us

-- the outputs that a history shows are of its codec's kind, where the configs that it keeps are
abbrev pub OutputsAreOfKind : Type 0
OutputsAreOfKind = (o : Opening) (h : List Entry) → AllByRecursion (ConfiguresAs o.kind) h → AllByRecursion (IsOutputOf o.kind) (units_shown (each_shown o h))
