-- The promises whose ends are shown have numbers of 64 bits.
use Rattle.std.specs.Prelude.{◌<◌, ◌^◌}
use Rattle.std.specs.List.{AllByRecursion}
use Rattle.codec_model.specs.declared.entry.Event.{Event}
use Rattle.codec_model.specs.declared.entry.Event.TheVariants as event
use Rattle.codec_model.specs.declared.entry.Shown.{Shown}
use Rattle.run_model.specs.declared.run.CodecTrace.{CodecTrace}

abbrev pub FitsEvent : Event → Type 0
FitsEvent (event.Resolve promise) = promise < 2 ^ 64
FitsEvent (event.Reject promise error) = promise < 2 ^ 64
FitsEvent _ = Unit {0}

abbrev pub FitsShown : Shown → Type 0
FitsShown shown = AllByRecursion FitsEvent shown.events

abbrev pub FitsTrace : CodecTrace → Type 0
FitsTrace trace = AllByRecursion FitsShown trace.shown
