use Rattle.std.proofs.Common.{◌≡◌, inl, inr, ℕ, List, sym, subst}
use Rattle.std.specs.Prelude.{string_bytes}
use Rattle.chunk_files.specs.declared.fault.Stop.{Stop}
use Rattle.wcrun.specs.{Outcome.Tells, Words.to_probe}
use Rattle.wcrun.specs.Headline.{Reading, reading, writing, IsProbe}
use Rattle.wcrun.proofs.Headlines.{headline_of_whole, headline_of_fault, headline_of_memory, stop_comes}
use Rattle.wcrun.proofs.Outcomes.{decides_whole, complete_whole, decides_fault, complete_fault, decides_memory, complete_memory}
use Rattle.wcrun.proofs.Probing.{probe_comes}
use Rattle.wcrun.proofs.calls.probe_named.Goals as goal

pub returns-in-Ok-clause-headline : goal.returns-in-Ok-clause-headline
returns-in-Ok-clause-headline g c supply =
    headline_of_whole _ supply _ c.as_str.result.now
    (inr (inl (subst (λ (t : List ℕ). IsProbe (reading (to_probe c.args.name.now) (g.F.Files.content c.args.files.now) (g.F.Files.faults c.args.files.now) (g.F.Files.faults c.probe.new.files) (g.F.Files.bytes_read c.args.files.now) (g.F.Files.bytes_read c.probe.new.files) (g.F.Files.failed_names c.args.files.now) (g.F.Files.failed_names c.probe.new.files)) t) (sym c.as_str.ensures.value) c.in-Ok.ensures.line))) c.tell.ensures

pub returns-in-Ok-clause-decided : goal.returns-in-Ok-clause-decided
returns-in-Ok-clause-decided g c supply =
    decides_whole c.files_have_one_outcome.ensures.one c.files_have_one_outcome.ensures.some (reading (to_probe c.args.name.now) (g.F.Files.content c.args.files.now) (g.F.Files.faults c.args.files.now) (g.F.Files.faults c.probe.new.files) (g.F.Files.bytes_read c.args.files.now) (g.F.Files.bytes_read c.probe.new.files) (g.F.Files.failed_names c.args.files.now) (g.F.Files.failed_names c.probe.new.files)) supply (writing (g.S.Sink.told c.args.sink.now) (g.S.Sink.told c.tell.new.sink) (g.S.Sink.faults c.args.sink.now) (g.S.Sink.faults c.tell.new.sink) c.tell.result) (Tells (string_bytes c.in-Ok.line)) _ tt
    (probe_comes (g.F.Files.content c.args.files.now) c.args.name.now (string_bytes c.in-Ok.line) (g.F.Files.faults c.args.files.now) (g.F.Files.faults c.probe.new.files) (g.F.Files.bytes_read c.args.files.now) (g.F.Files.bytes_read c.probe.new.files) (g.F.Files.failed_names c.args.files.now) (g.F.Files.failed_names c.probe.new.files) c.in-Ok.ensures.line) c.tell.ensures

pub returns-in-Ok-clause-complete : goal.returns-in-Ok-clause-complete
returns-in-Ok-clause-complete g c = complete_whole (reading (to_probe c.args.name.now) (g.F.Files.content c.args.files.now) (g.F.Files.faults c.args.files.now) (g.F.Files.faults c.probe.new.files) (g.F.Files.bytes_read c.args.files.now) (g.F.Files.bytes_read c.probe.new.files) (g.F.Files.failed_names c.args.files.now) (g.F.Files.failed_names c.probe.new.files)) (writing (g.S.Sink.told c.args.sink.now) (g.S.Sink.told c.tell.new.sink) (g.S.Sink.faults c.args.sink.now) (g.S.Sink.faults c.tell.new.sink) c.tell.result) _ c.tell.ensures

pub returns-in-Err-Fault-clause-headline : goal.returns-in-Err-Fault-clause-headline
returns-in-Err-Fault-clause-headline g c supply =
    let h = c.in-Err-Fault.field-0-is in
    let q : c.in-Err-Fault.field-0 ≡ Stop.Fault c.in-Err-Fault.fault = cc in
    let r : Reading = reading (to_probe c.args.name.now) (g.F.Files.content c.args.files.now) (g.F.Files.faults c.args.files.now) (g.F.Files.faults c.probe.new.files) (g.F.Files.bytes_read c.args.files.now) (g.F.Files.bytes_read c.probe.new.files) (g.F.Files.failed_names c.args.files.now) (g.F.Files.failed_names c.probe.new.files) in
    headline_of_fault r supply _ c.in-Err-Fault.fault (stop_comes r c.in-Err-Fault.field-0 c.in-Err-Fault.fault q c.in-Err-Fault.ensures.stop) c.refuse.ensures

pub returns-in-Err-Fault-clause-decided : goal.returns-in-Err-Fault-clause-decided
returns-in-Err-Fault-clause-decided g c supply =
    let h = c.in-Err-Fault.field-0-is in
    let q : c.in-Err-Fault.field-0 ≡ Stop.Fault c.in-Err-Fault.fault = cc in
    let r : Reading = reading (to_probe c.args.name.now) (g.F.Files.content c.args.files.now) (g.F.Files.faults c.args.files.now) (g.F.Files.faults c.probe.new.files) (g.F.Files.bytes_read c.args.files.now) (g.F.Files.bytes_read c.probe.new.files) (g.F.Files.failed_names c.args.files.now) (g.F.Files.failed_names c.probe.new.files) in
    decides_fault c.files_have_one_outcome.ensures.one c.files_have_one_outcome.ensures.some r supply _ c.in-Err-Fault.fault (stop_comes r c.in-Err-Fault.field-0 c.in-Err-Fault.fault q c.in-Err-Fault.ensures.stop) c.refuse.ensures

pub returns-in-Err-Fault-clause-complete : goal.returns-in-Err-Fault-clause-complete
returns-in-Err-Fault-clause-complete g c =
    let h = c.in-Err-Fault.field-0-is in
    let q : c.in-Err-Fault.field-0 ≡ Stop.Fault c.in-Err-Fault.fault = cc in
    let r : Reading = reading (to_probe c.args.name.now) (g.F.Files.content c.args.files.now) (g.F.Files.faults c.args.files.now) (g.F.Files.faults c.probe.new.files) (g.F.Files.bytes_read c.args.files.now) (g.F.Files.bytes_read c.probe.new.files) (g.F.Files.failed_names c.args.files.now) (g.F.Files.failed_names c.probe.new.files) in
    complete_fault c.files_have_one_outcome.ensures.one r (writing (g.S.Sink.told c.args.sink.now) (g.S.Sink.told c.refuse.new.sink) (g.S.Sink.faults c.args.sink.now) (g.S.Sink.faults c.refuse.new.sink) c.refuse.result) c.in-Err-Fault.fault (stop_comes r c.in-Err-Fault.field-0 c.in-Err-Fault.fault q c.in-Err-Fault.ensures.stop)

pub returns-in-Err-NoMemory-clause-headline : goal.returns-in-Err-NoMemory-clause-headline
returns-in-Err-NoMemory-clause-headline g c supply = headline_of_memory _ supply _ c.want_memory.ensures

pub returns-in-Err-NoMemory-clause-decided : goal.returns-in-Err-NoMemory-clause-decided
returns-in-Err-NoMemory-clause-decided g c supply = decides_memory c.files_have_one_outcome.ensures.some _ supply _ c.want_memory.ensures

pub returns-in-Err-NoMemory-clause-complete : goal.returns-in-Err-NoMemory-clause-complete
returns-in-Err-NoMemory-clause-complete g c = complete_memory (reading (to_probe c.args.name.now) (g.F.Files.content c.args.files.now) (g.F.Files.faults c.args.files.now) (g.F.Files.faults c.probe.new.files) (g.F.Files.bytes_read c.args.files.now) (g.F.Files.bytes_read c.probe.new.files) (g.F.Files.failed_names c.args.files.now) (g.F.Files.failed_names c.probe.new.files)) (writing (g.S.Sink.told c.args.sink.now) (g.S.Sink.told c.want_memory.new.sink) (g.S.Sink.faults c.args.sink.now) (g.S.Sink.faults c.want_memory.new.sink) c.want_memory.result) c.want_memory.ensures
