-- The lines that are left behind one that was made.
use Rattle.std.specs.Prelude.{ℕ, ◌≡◌, ◌<◌, List, [], ◌∷◌, ◌++◌, length, flat_map, Option, Some, None}
use Rattle.std.specs.Option.{option_to_list}
use Rattle.script_types.specs.declared.script.ScriptData.{ScriptData}
use Rattle.report_text.specs.declared.line.Line.{Line}
use Rattle.report_text.specs.declared.line.Line.TheVariants as line
use Rattle.report_text.specs.Text.{line_text}
use Rattle.trace_text.specs.declared.lines.Section.{Section}
use Rattle.trace_text.specs.declared.lines.Section.TheVariants as section
use Rattle.trace_text.specs.Report.{end_lines}

-- no line, or one and maybe another
abbrev pub lines_in : Option (Line × Option Line) → List Line
lines_in None = []
lines_in (Some x) = x.0 ∷ option_to_list x.1

-- the lines behind a section of a run, by those that are left of its callers and codecs, of its pool's entries, and of its
-- registry's
abbrev pub lines_behind : Section → List Line → List Line → List Line → ℕ → List Line
lines_behind section.Start traces pool slots held = line.Header ∷ (traces ++ (line.Pool ∷ pool ++ (line.Slots ∷ (slots ++ end_lines held))))
lines_behind section.Traces traces pool slots held = traces ++ (line.Pool ∷ pool ++ (line.Slots ∷ (slots ++ end_lines held)))
lines_behind section.Pool traces pool slots held = pool ++ (line.Slots ∷ (slots ++ end_lines held))
lines_behind section.Slots traces pool slots held = slots ++ end_lines held
lines_behind section.Held traces pool slots held = line.End ∷ []
lines_behind section.End traces pool slots held = []

-- the text of a line is taken from the front, and fewer lines are left, or none was left
abbrev pub TakesText : ScriptData → List Line → Option (List ℕ) → List Line → Type 0
TakesText script old None new = old ≡ []
TakesText script old (Some text) new = (flat_map (line_text script) old ≡ text ++ flat_map (line_text script) new) × (length new < length old)
