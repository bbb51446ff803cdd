use Rattle.std.proofs.Common.{◌≡◌, inl, refl}
use Rattle.chunk_files.specs.declared.fault.Stop.{Stop}
use Rattle.wcrun.specs.Headline.{Reading, reading, writing}
use Rattle.wcrun.specs.{Outcome.Runs, Words.to_run}
use Rattle.wcrun.proofs.Headlines.{headline_of_whole, headline_of_fault, headline_of_memory, stop_comes}
use Rattle.wcrun.proofs.Outcomes.{decides_whole, complete_whole, decides_fault, complete_fault, decides_memory, complete_memory}
use Rattle.wcrun.proofs.calls.run_named.Goals as goal

pub returns-in-Ok-clause-headline : goal.returns-in-Ok-clause-headline
returns-in-Ok-clause-headline g c =
    headline_of_whole _ _ _ _ (inl (record { mode = c.args.mode; asked = refl; ready = record { script = c.in-Ok.done.prepared.script; media = c.in-Ok.done.prepared.media.items }; run = c.in-Ok.done.run; ran = c.in-Ok.ensures.ok; whole = refl })) c.report.ensures

pub returns-in-Ok-clause-decided : goal.returns-in-Ok-clause-decided
returns-in-Ok-clause-decided g c = decides_whole c.files_have_one_outcome.ensures.one c.files_have_one_outcome.ensures.some _ _ _ (Runs (record { script = c.in-Ok.done.prepared.script; media = c.in-Ok.done.prepared.media.items })) _ tt c.in-Ok.ensures.ok.spelled c.report.ensures

pub returns-in-Ok-clause-complete : goal.returns-in-Ok-clause-complete
returns-in-Ok-clause-complete g c = complete_whole (reading (to_run c.args.mode c.args.name.now) (g.F.Files.content c.args.files.now) (g.F.Files.faults c.args.files.now) (g.F.Files.faults c.ran.new.files) (g.F.Files.bytes_read c.args.files.now) (g.F.Files.bytes_read c.ran.new.files) (g.F.Files.failed_names c.args.files.now) (g.F.Files.failed_names c.ran.new.files)) (writing (g.S.Sink.told c.args.sink.now) (g.S.Sink.told c.report.new.sink) (g.S.Sink.faults c.args.sink.now) (g.S.Sink.faults c.report.new.sink) c.report.result) _ c.report.ensures

pub returns-in-Err-Fault-clause-headline : goal.returns-in-Err-Fault-clause-headline
returns-in-Err-Fault-clause-headline g c =
    let h = c.in-Err-Fault.field-0-is in
    let q : c.in-Err-Fault.field-0 ≡ Stop.Fault c.in-Err-Fault.fault = cc in
    let r : Reading = reading (to_run c.args.mode c.args.name.now) (g.F.Files.content c.args.files.now) (g.F.Files.faults c.args.files.now) (g.F.Files.faults c.ran.new.files) (g.F.Files.bytes_read c.args.files.now) (g.F.Files.bytes_read c.ran.new.files) (g.F.Files.failed_names c.args.files.now) (g.F.Files.failed_names c.ran.new.files) in
    headline_of_fault r _ _ c.in-Err-Fault.fault (stop_comes r c.in-Err-Fault.field-0 c.in-Err-Fault.fault q c.in-Err-Fault.ensures.stop) c.refuse.ensures

pub returns-in-Err-Fault-clause-decided : goal.returns-in-Err-Fault-clause-decided
returns-in-Err-Fault-clause-decided g c =
    let h = c.in-Err-Fault.field-0-is in
    let q : c.in-Err-Fault.field-0 ≡ Stop.Fault c.in-Err-Fault.fault = cc in
    let r : Reading = reading (to_run c.args.mode c.args.name.now) (g.F.Files.content c.args.files.now) (g.F.Files.faults c.args.files.now) (g.F.Files.faults c.ran.new.files) (g.F.Files.bytes_read c.args.files.now) (g.F.Files.bytes_read c.ran.new.files) (g.F.Files.failed_names c.args.files.now) (g.F.Files.failed_names c.ran.new.files) in
    decides_fault c.files_have_one_outcome.ensures.one c.files_have_one_outcome.ensures.some r _ _ c.in-Err-Fault.fault (stop_comes r c.in-Err-Fault.field-0 c.in-Err-Fault.fault q c.in-Err-Fault.ensures.stop) c.refuse.ensures

pub returns-in-Err-Fault-clause-complete : goal.returns-in-Err-Fault-clause-complete
returns-in-Err-Fault-clause-complete g c =
    let h = c.in-Err-Fault.field-0-is in
    let q : c.in-Err-Fault.field-0 ≡ Stop.Fault c.in-Err-Fault.fault = cc in
    let r : Reading = reading (to_run c.args.mode c.args.name.now) (g.F.Files.content c.args.files.now) (g.F.Files.faults c.args.files.now) (g.F.Files.faults c.ran.new.files) (g.F.Files.bytes_read c.args.files.now) (g.F.Files.bytes_read c.ran.new.files) (g.F.Files.failed_names c.args.files.now) (g.F.Files.failed_names c.ran.new.files) in
    complete_fault c.files_have_one_outcome.ensures.one r (writing (g.S.Sink.told c.args.sink.now) (g.S.Sink.told c.refuse.new.sink) (g.S.Sink.faults c.args.sink.now) (g.S.Sink.faults c.refuse.new.sink) c.refuse.result) c.in-Err-Fault.fault (stop_comes r c.in-Err-Fault.field-0 c.in-Err-Fault.fault q c.in-Err-Fault.ensures.stop)

pub returns-in-Err-NoMemory-clause-headline : goal.returns-in-Err-NoMemory-clause-headline
returns-in-Err-NoMemory-clause-headline g c = headline_of_memory _ _ _ c.want_memory.ensures

pub returns-in-Err-NoMemory-clause-decided : goal.returns-in-Err-NoMemory-clause-decided
returns-in-Err-NoMemory-clause-decided g c = decides_memory c.files_have_one_outcome.ensures.some _ _ _ c.want_memory.ensures

pub returns-in-Err-NoMemory-clause-complete : goal.returns-in-Err-NoMemory-clause-complete
returns-in-Err-NoMemory-clause-complete g c = complete_memory (reading (to_run c.args.mode c.args.name.now) (g.F.Files.content c.args.files.now) (g.F.Files.faults c.args.files.now) (g.F.Files.faults c.ran.new.files) (g.F.Files.bytes_read c.args.files.now) (g.F.Files.bytes_read c.ran.new.files) (g.F.Files.failed_names c.args.files.now) (g.F.Files.failed_names c.ran.new.files)) (writing (g.S.Sink.told c.args.sink.now) (g.S.Sink.told c.want_memory.new.sink) (g.S.Sink.faults c.args.sink.now) (g.S.Sink.faults c.want_memory.new.sink) c.want_memory.result) c.want_memory.ensures
