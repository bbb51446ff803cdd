-- What is found at a place where a medium is looked for.
use Rattle.std.proofs.Common.{ℕ, zero, suc, ◌≡◌, ◌<◌, ◌≤◌, ◌-◌, List, length, get_or, Option, Some, None, refl, ap, sym, ◌∙◌, arith}
use Rattle.std.specs.Prelude.{option_map, option_and_then, slice_get}
use Rattle.codec_definitions.specs.declared.unit.Unit as output
use Rattle.codec_model.specs.declared.entry.Content.{Content}
use Rattle.script_types.specs.declared.{script.ScriptData.ScriptData, steps.BufferedInit.BufferedInit, steps.InitData.InitData, steps.MediaStep.MediaStep, steps.Step.Step}
use Rattle.media_accounts.specs.Contents.{Kept, MediumOf, From, medium_kept, bytes_of_init, content_of_init, kept_by, kept_before}
use Rattle.run_model.specs.Recorded.{steps_of}
use Rattle.report_reader.specs.declared.{known.Known.Known, clones.Place.Place}
use Rattle.report_reader.specs.Arguments.{results_of, taken_in, poster_of, posted_by, from_in}
use Rattle.report_reader.specs.Places.{content_at, content_by, received_at, from_at, only_bytes, own_content}
use Rattle.report_reader.proofs.TableLaws.{defined_read, defined_past, undefined_at}

-- what its step gives
pub place_read : (s : ScriptData) (known : Known) (at : Place) (x : Step) → at.number < at.end → at.number < length (steps_of s at.caller) → x ≡ get_or (steps_of s at.caller) at.number x → content_at s known at ≡ content_by s known at x
place_read s known at x lt within is = ap (option_and_then medium_kept) (defined_read (steps_of s at.caller) (from_at s known at) at.end at.number x lt within is)

pub place_past : (s : ScriptData) (known : Known) (at : Place) → at.number < at.end → length (steps_of s at.caller) ≤ at.number → content_at s known at ≡ None
place_past s known at lt beyond = ap (option_and_then medium_kept) (defined_past (steps_of s at.caller) (from_at s known at) at.end at.number lt beyond)

pub place_undefined : (s : ScriptData) (known : Known) (at : Place) → at.end ≤ at.number → content_at s known at ≡ None
place_undefined s known at le = ap (option_and_then medium_kept) (undefined_at (steps_of s at.caller) (from_at s known at) at.end at.number le)

-- what its step received, where receives may be followed
received_in : (s : ScriptData) (known : Known) (left c j : ℕ) → 0 < left → (from_in s known left c j).received ≡ option_and_then (posted_by s (from_in s known (left - 1))) (poster_of (slice_get (results_of known.callers c) j))
received_in s known zero c j lt = absurd (omega (arith, lt))
received_in s known (suc d) c j lt = let same : suc d - 1 ≡ d = omega arith in rw same refl

pub received_on : (s : ScriptData) (known : Known) (at : Place) → 0 < at.left → received_at s known at ≡ option_and_then (posted_by s (from_in s known (at.left - 1))) (poster_of (slice_get (results_of known.callers at.caller) at.number))
received_on s known at lt = received_in s known at.left at.caller at.number lt

none_received : (s : ScriptData) (known : Known) (left c j : ℕ) → left ≡ 0 → (from_in s known left c j).received ≡ None
none_received s known left c j none = rw none refl

-- where none may be followed
pub received_none : (s : ScriptData) (known : Known) (at : Place) → at.left ≡ 0 → received_at s known at ≡ None
received_none s known at none = none_received s known at.left at.caller at.number none

-- ---- what a step gives

-- the output that a step took, whatever it received
pub taken_at : (s : ScriptData) (known : Known) (left c j : ℕ) → (from_in s known left c j).taken ≡ taken_in known c j
taken_at s known zero c j = refl
taken_at s known (suc left) c j = refl

-- the bytes of an init are those of buffers alone
pub bytes_same : (earlier : ℕ → Option Kept) (content : InitData) → bytes_of_init earlier content ≡ bytes_of_init (only_bytes earlier) content
bytes_same earlier (InitData.Hex bytes) = refl
bytes_same earlier (InitData.Buffer v) = refl

medium_only : (o : Option Content) → option_and_then medium_kept (option_map MediumOf o) ≡ o
medium_only None = refl
medium_only (Some content) = refl

pub buffered_own : (s : ScriptData) (known : Known) (at : Place) (bind : List ℕ) (i : BufferedInit) → own_content s known at (Step.Media (MediaStep.Buffered bind i)) ≡ content_of_init i.shape (bytes_of_init (kept_before (steps_of s at.caller) (from_at s known at) at.number) i.content)
buffered_own s known at bind i =
    medium_only (content_of_init i.shape (bytes_of_init (only_bytes (kept_before (steps_of s at.caller) (from_at s known at) at.number)) i.content))
    ∙ ap (content_of_init i.shape) (sym (bytes_same (kept_before (steps_of s at.caller) (from_at s known at) at.number) i.content))

-- by where it has it from
pub from_earlier : (s : ScriptData) (known : Known) (at : Place) (x : Step) (j : ℕ) → ((earlier : ℕ → Option Kept) (from : From) → kept_by earlier from x ≡ earlier j) → content_by s known at x ≡ content_at s known (record at { end = at.number; number = j })
from_earlier s known at x j h = ap (option_and_then medium_kept) (h (kept_before (steps_of s at.caller) (from_at s known at) at.number) (from_at s known at at.number))

pub from_port : (s : ScriptData) (known : Known) (at : Place) (x : Step) → ((earlier : ℕ → Option Kept) (from : From) → kept_by earlier from x ≡ option_map MediumOf from.received) → content_by s known at x ≡ received_at s known at
from_port s known at x h = ap (option_and_then medium_kept) (h (kept_before (steps_of s at.caller) (from_at s known at) at.number) (from_at s known at at.number)) ∙ medium_only (from_at s known at at.number).received

pub from_own : (s : ScriptData) (known : Known) (at : Place) (x : Step) → ((earlier : ℕ → Option Kept) (from : From) → kept_by earlier from x ≡ kept_by (only_bytes earlier) (record { taken = from.taken; received = None }) x) → content_by s known at x ≡ own_content s known at x
from_own s known at x h =
    let earlier = kept_before (steps_of s at.caller) (from_at s known at) at.number in
    ap (option_and_then medium_kept) (h earlier (from_at s known at at.number))
    ∙ ap (λ (o : Option output.Unit). option_and_then medium_kept (kept_by (only_bytes earlier) (record { taken = o; received = None }) x)) (taken_at s known at.left at.caller at.number)

-- so where a step has it from a port and receives nothing, it has nothing of its own
pub port_own : (s : ScriptData) (known : Known) (at : Place) (x : Step) → ((earlier : ℕ → Option Kept) (from : From) → kept_by earlier from x ≡ option_map MediumOf from.received) → received_at s known at ≡ None → content_by s known at x ≡ own_content s known at x
port_own s known at x h none =
    from_port s known at x h ∙ none
    ∙ sym (ap (option_and_then medium_kept) (h (only_bytes (kept_before (steps_of s at.caller) (from_at s known at) at.number)) (record { taken = taken_in known at.caller at.number; received = None })))
