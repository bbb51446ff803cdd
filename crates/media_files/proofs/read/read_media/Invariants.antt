use Rattle.std.proofs.Common.{◌≡◌, ◌≤◌, ◌-◌, length}
use Rattle.media_files.proofs.Reading.{Continues}
use Rattle.media_files.proofs.read.read_media.Given as goal

abbrev pub invariant-loop-n : goal.invariant-loop-n
invariant-loop-n g l = record {
  kept : g.F.Files.content l.files ≡ g.F.Files.content l.fn.files;
  faults : g.F.Files.faults l.fn.files ≤ g.F.Files.faults l.files;
  bytes : g.F.Files.bytes_read l.fn.files ≤ g.F.Files.bytes_read l.files;
  each : length l.made.items ≡ l.n;
  names : g.F.Files.failed_names l.files ≡ g.F.Files.failed_names l.fn.files;
  continues : Continues (g.F.Files.content l.fn.files) (268435456 - l.fn.script.inline) l.fn.script.chunk_files l.room l.n l.made.items;
}
