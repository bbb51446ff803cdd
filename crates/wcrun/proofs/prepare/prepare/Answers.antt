use Rattle.std.proofs.Common.{List, subst}
use Rattle.std.specs.Prelude.{Vec}
use Rattle.std.specs.declared.alloc.Global.{Global}
use Rattle.wc_chunk.specs.declared.chunk.Chunk.{Chunk}
use Rattle.wcrun.specs.Stops.{MayStopFor}
use Rattle.wcrun.proofs.Stopping.{stops, failed_as}
use Rattle.wcrun.proofs.prepare.prepare.Goals as goal

pub returns-in-Err-clause-stop : goal.returns-in-Err-clause-stop
returns-in-Err-clause-stop g c =
    stops c.args.mode (g.F.Files.content c.args.files.now) c.args.name.now c.in_ok-script.script
    (g.F.Files.faults c.args.files.now) (g.F.Files.faults c.read_named.new.files) (g.F.Files.faults c.read_chunk_files.new.files)
    (g.F.Files.bytes_read c.args.files.now) (g.F.Files.bytes_read c.read_named.new.files) (g.F.Files.bytes_read c.read_chunk_files.new.files)
    (g.F.Files.failed_names c.args.files.now) (g.F.Files.failed_names c.read_named.new.files) (g.F.Files.failed_names c.read_chunk_files.new.files)
    c.in-Err.stop c.read_named.ensures.faults c.read_named.ensures.bytes c.in_ok-script.ensures.names c.in_ok-script.ensures.ok
    (subst (λ o. MayStopFor o c.in_ok-script.script (g.F.Files.faults c.read_named.new.files) (g.F.Files.faults c.read_chunk_files.new.files) (g.F.Files.bytes_read c.read_named.new.files) (g.F.Files.bytes_read c.read_chunk_files.new.files) c.in-Err.stop) c.read_named.ensures.kept c.in-Err.ensures.stop)
    (failed_as (Vec (List Chunk) Global) (g.F.Files.failed_names c.read_named.new.files) (g.F.Files.failed_names c.read_chunk_files.new.files) c.in-Err.stop c.in-Err.ensures.names)
