-- The status and the line of each answer that comes in place of a report (our choice).
use Rattle.std.specs.Prelude.{ℕ, List, codes, decimal}
use Rattle.chunk_files.specs.declared.fault.ChunkFault.{ChunkFault}
use Rattle.chunk_files.specs.declared.fault.ChunkFault.TheVariants as chunks
use Rattle.chunk_files.specs.declared.fault.DemuxFault.{DemuxFault}
use Rattle.chunk_files.specs.declared.fault.DemuxFault.TheVariants as sound
use Rattle.chunk_files.specs.declared.fault.MediaFault.{MediaFault}
use Rattle.chunk_files.specs.declared.fault.MediaFault.TheVariants as media
use Rattle.script_types.specs.declared.fault.Counted.{Counted}
use Rattle.script_types.specs.declared.fault.Counted.TheVariants as counted
use Rattle.script_types.specs.declared.fault.Fault.{Fault}
use Rattle.script_types.specs.declared.fault.Fault.TheVariants as fault
use Rattle.script_types.specs.declared.fault.Place.{Place}
use Rattle.script_types.specs.declared.fault.Wrong.{Wrong}
use Rattle.script_types.specs.declared.fault.Wrong.TheVariants as wrong
use Rattle.script_types.specs.Places.{place_text}
use Rattle.report_text.specs.Words.{◌<>◌}

abbrev pub status_of : Fault → ℕ
status_of fault.NotJson = 3
status_of (fault.At place w) = 3
status_of (fault.TooMany what) = 7
status_of (fault.Unread name) = 4
status_of (fault.Chunks name e) = 3
status_of (fault.NoIndex name place) = 3

-- what is limited, and its limit and 1
abbrev pub limit_text : Counted → List ℕ
limit_text counted.Script = codes "script 16777217"
limit_text counted.Codecs = codes "codecs 65"
limit_text counted.Callers = codes "callers 17"
limit_text counted.Steps = codes "steps 100001"
limit_text counted.Order = codes "order 1000001"
limit_text counted.Chunk = codes "chunk 16777217"
limit_text counted.File = codes "file 268435457"
limit_text counted.Media = codes "media 268435457"
limit_text counted.Report = codes "report 268435457"

-- what is wrong at a place
abbrev pub wrong_text : Wrong → List ℕ
wrong_text wrong.Shape = codes "shape"
wrong_text wrong.Twice = codes "twice"
wrong_text wrong.UnknownName = codes "unknown name"

-- the first fault of a chunk file
abbrev pub chunk_fault_text : ChunkFault → List ℕ
chunk_fault_text (chunks.BadMark at) = codes "bad mark at " <> decimal at
chunk_fault_text (chunks.BadKind at found) = codes "bad kind at " <> decimal at
chunk_fault_text (chunks.Short at) = codes "short at " <> decimal at

-- the first fault of a WAV file or a native FLAC file
abbrev pub sound_fault_text : DemuxFault → List ℕ
sound_fault_text (sound.BadWav at) = codes "bad wav at " <> decimal at
sound_fault_text (sound.Unsupported tag bits) = codes "wav tag " <> decimal tag <> codes " bits " <> decimal bits
sound_fault_text (sound.BadFlac at) = codes "bad flac at " <> decimal at

-- the first fault of a media file
abbrev pub fault_text : MediaFault → List ℕ
fault_text (media.Chunks e) = chunk_fault_text e
fault_text (media.Sound e) = sound_fault_text e

-- the place of a step whose chunk its file lacks
abbrev pub lack_text : Place → List ℕ
lack_text place = codes "no index at " <> place_text place

abbrev pub line_of : Fault → List ℕ
line_of fault.NotJson = codes "script: not json\n"
line_of (fault.At place w) = codes "script: " <> wrong_text w <> codes " at " <> place_text place <> codes "\n"
line_of (fault.TooMany what) = codes "limit: " <> limit_text what <> codes "\n"
line_of (fault.Unread name) = codes "read fault: " <> name <> codes "\n"
line_of (fault.Chunks name e) = codes "script: chunks " <> name <> codes " " <> fault_text e <> codes "\n"
line_of (fault.NoIndex name place) = codes "script: chunks " <> name <> codes " " <> lack_text place <> codes "\n"

-- the line where the words are no command, whose status is 2
abbrev pub usage_line : List ℕ
usage_line = codes "usage: wcrun replay FILE | run FILE --workers N | load START N | check SCRIPT REPORT | probe FILE\n"

-- the line for want of memory, whose status is 6
abbrev pub memory_line : List ℕ
memory_line = codes "out of memory\n"

-- the line of a report that is right, whose status is 0
abbrev pub right_line : List ℕ
right_line = codes "right\n"

-- the line of a report that is wrong, whose status is 1
abbrev pub wrong_line : ℕ → List ℕ
wrong_line line = codes "wrong: line " <> decimal line <> codes "\n"
