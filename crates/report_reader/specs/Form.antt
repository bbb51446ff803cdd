-- Which line of a report may stand behind which, and the lines that stand in front of some bytes, each in its form.
use Rattle.std.specs.Prelude.{ℕ, ◌≡◌, ◌+◌, nat_lt, ◌==◌, ◌&&◌, if◌then◌else◌, List, [], ◌∷◌, length, Option, Some, None}
use Rattle.script_types.specs.declared.script.ScriptData.{ScriptData}
use Rattle.report_lines.specs.Words.{◌>>=◌}
use Rattle.report_text.specs.declared.line.Line.{Line}
use Rattle.report_text.specs.declared.line.Line.TheVariants as line
use Rattle.report_lines.specs.Reading.{line_at}
use Rattle.report_reader.specs.declared.forms.Section.{Section}
use Rattle.report_reader.specs.declared.forms.Section.TheVariants as section

-- Behind all lines of so many codecs stands the next codec, or the pool where there is none.
abbrev pub next_part : ℕ → ℕ → Line → Option Section
next_part codecs k (line.Codec n opening) = if (n == k) && nat_lt k codecs then Some (section.Codecs (k + 1) 0) else None
next_part codecs k line.Pool = if k == codecs then Some (section.Pool 0) else None
next_part codecs k _ = None

-- The section behind a line of a report with so many callers and codecs, where the line may stand. Callers and codecs
-- stand in the script's order; the results of a caller, and the entries of a codec, of the pool of media and of the
-- registry, are numbered from 0.
abbrev pub next : ℕ → ℕ → Section → Line → Option Section
next callers codecs section.Start line.Header = Some (section.Callers 0 0)
next callers codecs section.Start _ = None
next callers codecs (section.Callers k n) (line.Caller i) = if (i == k) && nat_lt k callers then Some (section.Callers (k + 1) 0) else None
next callers codecs (section.Callers k n) (line.Result step found) = if nat_lt 0 k && (step == n) then Some (section.Callers k (n + 1)) else None
next callers codecs (section.Callers k n) l = if k == callers then next_part codecs 0 l else None
next callers codecs (section.Codecs k n) (line.Entry place told) = if place == n then Some (section.Codecs k (n + 1)) else None
next callers codecs (section.Codecs k n) (line.Event shown) = Some (section.Codecs k n)
next callers codecs (section.Codecs k n) l = next_part codecs k l
next callers codecs (section.Pool n) (line.Reference place entry) = if place == n then Some (section.Pool (n + 1)) else None
next callers codecs (section.Pool n) line.Slots = Some (section.Slots 0)
next callers codecs (section.Pool n) _ = None
next callers codecs (section.Slots n) (line.Slot place entry) = if place == n then Some (section.Slots (n + 1)) else None
next callers codecs (section.Slots n) (line.Held held) = Some section.Held
next callers codecs (section.Slots n) _ = None
next callers codecs section.Held line.End = Some section.Ended
next callers codecs section.Held _ = None
next callers codecs section.Ended _ = None

-- the section behind a line of a report of a run of this script
abbrev pub next_in : ScriptData → Section → Line → Option Section
next_in script s l = next (length script.callers) (length script.codecs) s l

-- The line in front, the bytes behind it, and the section there, where it is a line that may stand in this section.
unfoldable pub form_at : ScriptData → Section → List ℕ → Option (Line × List ℕ × Section)
form_at script s bs = do
  found ← line_at script bs
  behind ← next_in script s found.0
  Some (found.0, found.1, behind)

-- These lines stand in front, each in its form, and lead from one section to another; these bytes are left.
abbrev pub Reads : ScriptData → Section → List ℕ → List Line → Section → List ℕ → Type 0
Reads script s bs [] end left = (s ≡ end) × (bs ≡ left)
Reads script s bs (l ∷ ls) end left = (rest : List ℕ) × (mid : Section) × (form_at script s bs ≡ Some (l, rest, mid)) × Reads script mid rest ls end left

-- The bytes are these lines, each in its form, from the first to the last.
abbrev pub AreForms : ScriptData → List ℕ → List Line → Type 0
AreForms script bs ls = Reads script section.Start bs ls section.Ended []

-- These lines may stand one behind another, from one section to another.
abbrev pub Passes : ScriptData → Section → List Line → Section → Type 0
Passes script s [] end = s ≡ end
Passes script s (l ∷ ls) end = (mid : Section) × (next_in script s l ≡ Some mid) × Passes script mid ls end

-- the number that the next result or entry of a section has
abbrev pub next_number : Section → ℕ
next_number (section.Callers k n) = n
next_number (section.Codecs k n) = n
next_number (section.Pool n) = n
next_number (section.Slots n) = n
next_number _ = 0
