use Rattle.std.proofs.Common.{◌≡◌, ◌++◌, ◌-◌}
use Rattle.std.specs.List.{AllByRecursion}
use Rattle.report_reader.specs.{Read.codecs_in, Fits.FitsTrace}
use Rattle.report_reader.proofs.trace.codecs_of.Given as goal

abbrev pub invariant-loop-codec : goal.invariant-loop-codec
invariant-loop-codec l = record {
  codecs : codecs_in l.script l.media l.known 0 l.count l.lines ≡ l.codecs.items ++ codecs_in l.script l.media l.known l.codec (l.count - l.codec) l.rest;
  fits : AllByRecursion FitsTrace l.codecs.items;
}
