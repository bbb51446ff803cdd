-- Calls and takes: what their lines tell, and what the steps of their callers give.
use Rattle.std.proofs.Common.{arith, ◌≡◌, ◌≤◌, ℕ, length, Bool, true, false, List, [], ◌∷◌, Option, Some, None, refl, sym, ap, subst, ◌∙◌}
use Rattle.std.specs.Prelude.{option_map, option_and_then}
use Rattle.std.specs.List.{slice_get}
use Rattle.std.proofs.lemmas.Option.{slice_get_within}
use Rattle.codec_accounts.specs.Owed.{at}
use Rattle.wc_base.specs.{declared.error.DomError.DomError, declared.who.Who.Who, declared.ground.Ground.Ground, Grounds.own_ground_same}
use Rattle.wc_config.specs.declared.kind.Kind.{Kind}
use Rattle.wc_chunk.specs.declared.chunk.Chunk.{Chunk}
use Rattle.codec_definitions.specs.declared.unit.Unit as media
use Rattle.codec_model.specs.declared.entry.{Pair.Pair, Handed.Handed, Call.Call, Entry.Entry, Shown.Shown}
use Rattle.codec_model.specs.{Replay.State, Replay.handed_error, Held.adds_held, Shown.shown_at}
use Rattle.codec_follow.specs.Follow.{filled_at}
use Rattle.script_types.specs.declared.{script.ScriptData.ScriptData, steps.Step.Step, steps.MediaStep.MediaStep}
use Rattle.report_text.specs.declared.{result.StepResult.StepResult, line.CallWord.CallWord, line.EntryLine.EntryLine}
use Rattle.media_variables.specs.Variables.{Reference, Lendable, content_in, lendable_at, handed_by, handed_of}
use Rattle.codec_model.specs.declared.entry.Content.{Content}
use Rattle.media_accounts.specs.Contents.{content_before}
use Rattle.run_model.specs.Recorded.{Recorded, steps_of, chunk_for}
use Rattle.run_model.specs.Fits.{HasArguments, result_in, variables_at}
use Rattle.run_model.specs.Fits.{refusal_in}
use Rattle.trace_text.specs.Report.{entry_line_of}
use Rattle.report_reader.specs.declared.known.Known.{Known}
use Rattle.report_reader.specs.Arguments.{results_of, from_in, depth_of, chunk_found, pair_for, clone_of, handed_for, is_given, is_detached, handed_in, call_of, take_of, ground_of, entry_of}
use Rattle.report_reader.proofs.StandingLaws.{IsStanding}

-- ---- what a step makes

-- what holds of each call that the step makes holds of the entry
made_holds : (P : Entry → Type 0) (who : Who) (f : Step → Option Call) (o : Option Step) → ((s : Step) (x : Call) → o ≡ Some s → f s ≡ Some x → P (Entry.Call who x)) → (e : Entry) → option_map (λ x. Entry.Call who x) (option_and_then f o) ≡ Some e → P e
made_holds P who f o each e h = grind (arith, each, h)

where_mapped : {X Y : Type 0} (P : Y → Type 0) (f : X → Y) (o : Option X) → ((x : X) → o ≡ Some x → P (f x)) → (y : Y) → option_map f o ≡ Some y → P y
where_mapped P f o each y h = grind (arith, each, h)

-- ---- an entry's line tells the entry

-- a line of an entry, where the entry shows this
abbrev pub line_with : EntryLine → Shown → EntryLine
line_with (EntryLine.Call who word error) x = EntryLine.Call who word (refusal_in x.events)
line_with (EntryLine.Turn word) x = EntryLine.Turn x.turn
line_with told x = told

abbrev IsToldBy : EntryLine → Shown → Entry → Type 0
IsToldBy told x e = entry_line_of e x ≡ line_with told x

call_told : (script : ScriptData) (files : List (List Chunk)) (known : Known) (steps : List Step) (k place : ℕ) (who : Who) (word : CallWord) (error : Option DomError) (shown : Shown) (s : Step) (x : Call) → call_of script files known steps k place who word error s ≡ Some x → IsToldBy (EntryLine.Call who word error) shown (Entry.Call who x)
call_told script files known steps k place who CallWord.Decode error shown (Step.Decode on chunk) x h =
    where_mapped (λ (y : Call). IsToldBy (EntryLine.Call who CallWord.Decode error) shown (Entry.Call who y)) (λ (c : Chunk). Call.Decode c)
    (chunk_found files steps (results_of known.callers who.caller) (from_in script known (depth_of known) who.caller) chunk.step) (λ c is. refl) x h
call_told script files known steps k place who CallWord.Encode error shown (Step.Media (MediaStep.Encode on content)) x h =
    where_mapped (λ (y : Call). IsToldBy (EntryLine.Call who CallWord.Encode error) shown (Entry.Call who y)) (λ (c : Handed). Call.Encode c)
    (handed_in script known steps k place who error content.step) (λ c is. refl) x h
call_told script files known steps k place who word error shown s x h = grind (arith, h)

take_told : (who : Who) (n : ℕ) (shown : Shown) (s : Step) (x : Call) → take_of n s ≡ Some x → IsToldBy (EntryLine.Take who n) shown (Entry.Call who x)
take_told who n shown s x h = grind (arith, h)

ground_told : (who : Who) (to : Ground) (shown : Shown) (s : Step) (x : Call) → ground_of to s ≡ Some x → IsToldBy (EntryLine.Ground who to) shown (Entry.Call who x)
ground_told who to shown s x h = grind (arith, h)

-- an entry that a line tells has that line, but for what it shows
pub entry_told : (script : ScriptData) (files : List (List Chunk)) (known : Known) (k place : ℕ) (told : EntryLine) (x : Shown) (e : Entry) → entry_of script files known k place told ≡ Some e → IsToldBy told x e
entry_told script files known k place (EntryLine.Call who word error) x e h =
    made_holds (IsToldBy (EntryLine.Call who word error) x) who _ _ (λ s y there is. call_told script files known (steps_of script who.caller) k place who word error x s y is) e h
entry_told script files known k place (EntryLine.Take who n) x e h = made_holds (IsToldBy (EntryLine.Take who n) x) who _ _ (λ s y there is. take_told who n x s y is) e h
entry_told script files known k place (EntryLine.Ground who to) x e h = made_holds (IsToldBy (EntryLine.Ground who to) x) who _ _ (λ s y there is. ground_told who to x s y is) e h
entry_told script files known k place told x e h = cc

-- ---- the exception of an encode

-- what became of data that is not detached tells the exception
handed_told : (error : Option DomError) (a : Option Content) (b : Option Pair) (h : Handed) → handed_for true false error (clone_of a b) ≡ Some h → handed_error h ≡ error
handed_told error a b h e = grind (arith, e)

-- so what became of data is read again from the exception that it tells
handed_again : (given gone : Bool) (error : Option DomError) (a : Option Content) (b : Option Pair) (h : Handed) → handed_for given gone error (clone_of a b) ≡ Some h → handed_for given gone (handed_error h) (clone_of a b) ≡ Some h
handed_again given gone error a b h e = grind (arith, handed_told error a b h, e)

-- an encode shows the exception that what became of its data tells
refusal_filled : (kind : Kind) (who : Who) (h : Handed) (t : State) (us : List media.Unit) → refusal_in (filled_at kind (Entry.Call who (Call.Encode h)) t us).events ≡ handed_error h
refusal_filled kind who h t us = grind arith

-- ---- the entry that its line tells

-- a call is made again from the exception that it shows: that of an encode tells what became of its data, and no other says which
-- call is made
call_again : (kind : Kind) (script : ScriptData) (files : List (List Chunk)) (known : Known) (steps : List Step) (k place : ℕ) (who : Who) (word : CallWord) (error : Option DomError) (t : State) (us : List media.Unit) (s : Step) (x : Call) → call_of script files known steps k place who word error s ≡ Some x
    → call_of script files known steps k place who word (refusal_in (filled_at kind (Entry.Call who x) t us).events) s ≡ Some x
call_again kind script files known steps k place who CallWord.Encode error t us (Step.Media (MediaStep.Encode on content)) x is =
    let given = is_given (results_of known.callers who.caller) content.step in
    let gone = is_detached steps (results_of known.callers who.caller) who.step content.step in
    let a = content_before steps (from_in script known (depth_of known) who.caller) who.step content.step in
    let b = pair_for k place known.pool in
    where_mapped (λ (y : Call). option_map (λ h. Call.Encode h) (handed_for given gone (refusal_in (filled_at kind (Entry.Call who y) t us).events) (clone_of a b)) ≡ Some y) (λ (h : Handed). Call.Encode h) (handed_for given gone error (clone_of a b))
    (λ h found. rw (refusal_filled kind who h t us, handed_again given gone error a b h found) refl) x is
call_again kind script files known steps k place who word error t us s x is = is

line_again : (script : ScriptData) (files : List (List Chunk)) (known : Known) (k place : ℕ) (told : EntryLine) (e : Entry) (kind : Kind) (t : State) (us : List media.Unit) → entry_of script files known k place told ≡ Some e
    → entry_of script files known k place (line_with told (filled_at kind e t us)) ≡ Some e
line_again script files known k place (EntryLine.Call who word error) e kind t us h =
    let steps = steps_of script who.caller in
    made_holds (λ (z : Entry). entry_of script files known k place (EntryLine.Call who word (refusal_in (filled_at kind z t us).events)) ≡ Some z) who (call_of script files known steps k place who word error) (slice_get steps who.step)
    (λ s x there is. rw (there, call_again kind script files known steps k place who word error t us s x is) refl) e h
line_again script files known k place told e kind t us h = h

pub told_holds : (script : ScriptData) (files : List (List Chunk)) (known : Known) (k place : ℕ) (told : EntryLine) (e : Entry) (kind : Kind) (t : State) (us : List media.Unit) → entry_of script files known k place told ≡ Some e
    → entry_of script files known k place (entry_line_of e (filled_at kind e t us)) ≡ Some e
told_holds script files known k place told e kind t us h =
    ap (entry_of script files known k place) (entry_told script files known k place told (filled_at kind e t us) e h) ∙ line_again script files known k place told e kind t us h

-- ---- what a step's arguments are found in

-- what a run's variables hold is found in what its report shows
pub record AreFound (script : ScriptData) (files : List (List Chunk)) (w : Recorded) (known : Known) : Type 0 where
  pub chunks : (c n j : ℕ) (value : Chunk) → n ≤ length (at c w.callers) → chunk_for files (steps_of script c) (variables_at script files w c n) j ≡ Some value
      → chunk_found files (steps_of script c) (results_of known.callers c) (from_in script known (depth_of known) c) j ≡ Some value
  pub contents : (c n j : ℕ) (x : Lendable) (r : Reference) → n ≤ length (at c w.callers) → lendable_at (variables_at script files w c n) j ≡ Some x → x.held ≡ Some r
      → content_before (steps_of script c) (from_in script known (depth_of known) c) n j ≡ Some (record { shape = x.shape; bytes = content_in x.shape r.bytes })
  pub standing : (c n j : ℕ) (r : StepResult) (x : Lendable) → result_in w c n ≡ Some r → lendable_at (variables_at script files w c n) j ≡ Some x → IsStanding (steps_of script c) (results_of known.callers c) n j x

-- an encode's clone is the first that the pool has of its entry
abbrev pub HasPair : Known → ℕ → ℕ → Entry → Type 0
HasPair known k place e = (p : Pair) → adds_held e ≡ p ∷ [] → pair_for k place known.pool ≡ Some p

-- the step that an entry names was made
abbrev pub IsMadeBy : Recorded → Who → Type 0
IsMadeBy w who = (r : StepResult) × (result_in w who.caller who.step ≡ Some r)

-- so it stands among the results of its caller
made_within : (w : Recorded) (who : Who) → IsMadeBy w who → who.step ≤ length (at who.caller w.callers)
made_within w who made = (let lt = slice_get_within (at who.caller w.callers) who.step made.0 made.1 in omega (arith, lt))

handed_made : (script : ScriptData) (files : List (List Chunk)) (w : Recorded) (known : Known) (k place : ℕ) (who : Who) (j number : ℕ) (accepts : Bool) (x : Lendable) → AreFound script files w known
    → HasPair known k place (Entry.Call who (Call.Encode (handed_of number accepts x))) → IsMadeBy w who → lendable_at (variables_at script files w who.caller who.step) j ≡ Some x
    → handed_in script known (steps_of script who.caller) k place who (handed_error (handed_of number accepts x)) j ≡ Some (handed_of number accepts x)
handed_made script files w known k place who j number accepts x found pair made there =
    let stand = found.standing who.caller who.step j made.0 x made.1 there in
    let within = made_within w who made in
    let handed : Option Reference → Handed = λ o. handed_by number accepts x.shape o in
    elim x.held as (λ o. x.held ≡ o → HasPair known k place (Entry.Call who (Call.Encode (handed o))) → handed_in script known (steps_of script who.caller) k place who (handed_error (handed o)) j ≡ Some (handed o)) [
      | None ↦ λ is own. grind (arith, stand.given, stand.gone, is)
      | Some r ↦ λ is own. grind (arith, stand.given, stand.gone, is, found.contents who.caller who.step j x r within there is, own (record { resource = r.resource; reference = number }))
    ] refl pair

-- ---- the call that a step makes

-- an encode shows the exception that what became of its data tells
abbrev pub ShowsOwn : Call → Shown → Type 0
ShowsOwn (Call.Encode h) shown = refusal_in shown.events ≡ handed_error h
ShowsOwn _ shown = Unit {0}

shows_own : (who : Who) (x : Call) (s : State) → ShowsOwn x (shown_at (Entry.Call who x) s)
shows_own who x s = grind arith

-- its line tells it again
abbrev IsAgain : ScriptData → List (List Chunk) → Known → ℕ → ℕ → Shown → Entry → Type 0
IsAgain script files known k place shown e = entry_of script files known k place (entry_line_of e shown) ≡ Some e

step_again : (script : ScriptData) (files : List (List Chunk)) (w : Recorded) (known : Known) (k place : ℕ) (who : Who) (shown : Shown) (s : Step) (x : Call) → AreFound script files w known → IsMadeBy w who → slice_get (steps_of script who.caller) who.step ≡ Some s
    → HasPair known k place (Entry.Call who x) → ShowsOwn x shown → HasArguments script files (variables_at script files w who.caller who.step) who.caller x s → IsAgain script files known k place shown (Entry.Call who x)
step_again script files w known k place who shown (Step.Decode on chunk) x found made is pair own has = rw (has.2, is, found.chunks who.caller who.step chunk.step has.0 (made_within w who made) has.1) refl
step_again script files w known k place who shown (Step.Media (MediaStep.Encode on content)) x found made is pair own has =
    subst (λ (y : Call). HasPair known k place (Entry.Call who y) → ShowsOwn y shown → IsAgain script files known k place shown (Entry.Call who y)) (sym has.4)
    (λ pair own. rw (own, is, handed_made script files w known k place who content.step has.1 has.2 has.0 found pair made has.3) refl) pair own
step_again script files w known k place who shown (Step.Ground on to) x found made is pair own has = rw (has, is, own_ground_same to) refl
step_again script files w known k place who shown _ x found made is pair own has = grind (arith, has, is)

-- the entry of a call has a step, and what that gives
abbrev pub GetsArguments : ScriptData → List (List Chunk) → Recorded → Entry → Type 0
GetsArguments script files w (Entry.Call who x) =
    (s : Step) × (slice_get (steps_of script who.caller) who.step ≡ Some s) × HasArguments script files (variables_at script files w who.caller who.step) who.caller x s
GetsArguments script files w _ = Unit {0}

-- and that step was made
abbrev pub IsMade : Recorded → Entry → Type 0
IsMade w (Entry.Call who x) = IsMadeBy w who
IsMade w _ = Unit {0}

-- what is known of the entry at a place
pub record IsGiven (script : ScriptData) (files : List (List Chunk)) (w : Recorded) (known : Known) (k place : ℕ) (e : Entry) : Type 0 where
  pub arguments : GetsArguments script files w e
  pub pair : HasPair known k place e
  pub made : IsMade w e

-- each entry shows its own, and so its line tells it again
pub entry_holds : (script : ScriptData) (files : List (List Chunk)) (w : Recorded) (known : Known) (k place : ℕ) (e : Entry) (s : State) → AreFound script files w known → IsGiven script files w known k place e
    → IsAgain script files known k place (shown_at e s) e
entry_holds script files w known k place (Entry.Call who x) s found h =
    step_again script files w known k place who (shown_at (Entry.Call who x) s) h.arguments.0 x found h.made h.arguments.1 h.pair (shows_own who x s) h.arguments.2
entry_holds script files w known k place e s found h = refl
