use Rattle.std.proofs.Common.{◌≡◌, List, [], map}
use Rattle.chunk_files.specs.declared.fault.Stop.{Stop}
use Rattle.report_check.specs.declared.verdict.Verdict.{Verdict}
use Rattle.wcrun.specs.Headline.{Reading, Writing, reading, writing}
use Rattle.wcrun.specs.Load.{supply_of}
use Rattle.wcrun.specs.Words.{to_check}
use Rattle.wcrun.proofs.Headlines.{headline_of_fault, headline_of_memory, stop_comes}
use Rattle.wcrun.proofs.Judging.{headline_of_right, headline_of_fault_in, decides_right, decides_wrong, complete_right, complete_wrong}
use Rattle.wcrun.proofs.Outcomes.{decides_fault, complete_fault, decides_memory, complete_memory}
use Rattle.wcrun.proofs.calls.check_named.Goals as goal

pub returns-in-Ok-Right-clause-headline : goal.returns-in-Ok-Right-clause-headline
returns-in-Ok-Right-clause-headline g c clocks =
    let h = c.in-Ok-Right.field-0-is in
    let q : c.in-Ok-Right.field-0 ≡ Verdict.Right = cc in
    headline_of_right (reading (to_check c.args.name.now c.args.report.now) (g.F.Files.content c.args.files.now) (g.F.Files.faults c.args.files.now) (g.F.Files.faults c.judge.new.files) (g.F.Files.bytes_read c.args.files.now) (g.F.Files.bytes_read c.judge.new.files) (g.F.Files.failed_names c.args.files.now) (g.F.Files.failed_names c.judge.new.files)) (supply_of (map g.C.Coder.coder c.args.coders.items) clocks) (writing (g.S.Sink.told c.args.sink.now) (g.S.Sink.told c.tell.new.sink) (g.S.Sink.faults c.args.sink.now) (g.S.Sink.faults c.tell.new.sink) c.tell.result) c.in-Ok-Right.field-0 q c.in-Ok-Right.ensures.ok c.tell.ensures

pub returns-in-Ok-Right-clause-decided : goal.returns-in-Ok-Right-clause-decided
returns-in-Ok-Right-clause-decided g c clocks =
    let h = c.in-Ok-Right.field-0-is in
    let q : c.in-Ok-Right.field-0 ≡ Verdict.Right = cc in
    decides_right c.files_have_one_outcome.ensures.one c.files_have_one_outcome.ensures.some (reading (to_check c.args.name.now c.args.report.now) (g.F.Files.content c.args.files.now) (g.F.Files.faults c.args.files.now) (g.F.Files.faults c.judge.new.files) (g.F.Files.bytes_read c.args.files.now) (g.F.Files.bytes_read c.judge.new.files) (g.F.Files.failed_names c.args.files.now) (g.F.Files.failed_names c.judge.new.files)) (supply_of (map g.C.Coder.coder c.args.coders.items) clocks) (writing (g.S.Sink.told c.args.sink.now) (g.S.Sink.told c.tell.new.sink) (g.S.Sink.faults c.args.sink.now) (g.S.Sink.faults c.tell.new.sink) c.tell.result) c.in-Ok-Right.field-0 q c.in-Ok-Right.ensures.ok c.tell.ensures

pub returns-in-Ok-Right-clause-complete : goal.returns-in-Ok-Right-clause-complete
returns-in-Ok-Right-clause-complete g c =
    let h = c.in-Ok-Right.field-0-is in
    let q : c.in-Ok-Right.field-0 ≡ Verdict.Right = cc in
    complete_right c.files_have_one_outcome.ensures.one (reading (to_check c.args.name.now c.args.report.now) (g.F.Files.content c.args.files.now) (g.F.Files.faults c.args.files.now) (g.F.Files.faults c.judge.new.files) (g.F.Files.bytes_read c.args.files.now) (g.F.Files.bytes_read c.judge.new.files) (g.F.Files.failed_names c.args.files.now) (g.F.Files.failed_names c.judge.new.files)) (supply_of (map g.C.Coder.coder c.args.coders.items) []) (writing (g.S.Sink.told c.args.sink.now) (g.S.Sink.told c.tell.new.sink) (g.S.Sink.faults c.args.sink.now) (g.S.Sink.faults c.tell.new.sink) c.tell.result) c.in-Ok-Right.field-0 q c.in-Ok-Right.ensures.ok c.tell.ensures

pub returns-in-Ok-Wrong-clause-headline : goal.returns-in-Ok-Wrong-clause-headline
returns-in-Ok-Wrong-clause-headline g c clocks =
    let h = c.in-Ok-Wrong.field-0-is in
    let q : c.in-Ok-Wrong.field-0 ≡ Verdict.Wrong c.in-Ok-Wrong.line = cc in
    headline_of_fault_in (reading (to_check c.args.name.now c.args.report.now) (g.F.Files.content c.args.files.now) (g.F.Files.faults c.args.files.now) (g.F.Files.faults c.judge.new.files) (g.F.Files.bytes_read c.args.files.now) (g.F.Files.bytes_read c.judge.new.files) (g.F.Files.failed_names c.args.files.now) (g.F.Files.failed_names c.judge.new.files)) (supply_of (map g.C.Coder.coder c.args.coders.items) clocks) (writing (g.S.Sink.told c.args.sink.now) (g.S.Sink.told c.tell_fault.new.sink) (g.S.Sink.faults c.args.sink.now) (g.S.Sink.faults c.tell_fault.new.sink) c.tell_fault.result) c.in-Ok-Wrong.field-0 c.in-Ok-Wrong.line q c.in-Ok-Wrong.ensures.ok c.tell_fault.ensures

pub returns-in-Ok-Wrong-clause-decided : goal.returns-in-Ok-Wrong-clause-decided
returns-in-Ok-Wrong-clause-decided g c clocks =
    let h = c.in-Ok-Wrong.field-0-is in
    let q : c.in-Ok-Wrong.field-0 ≡ Verdict.Wrong c.in-Ok-Wrong.line = cc in
    decides_wrong c.files_have_one_outcome.ensures.one c.files_have_one_outcome.ensures.some (reading (to_check c.args.name.now c.args.report.now) (g.F.Files.content c.args.files.now) (g.F.Files.faults c.args.files.now) (g.F.Files.faults c.judge.new.files) (g.F.Files.bytes_read c.args.files.now) (g.F.Files.bytes_read c.judge.new.files) (g.F.Files.failed_names c.args.files.now) (g.F.Files.failed_names c.judge.new.files)) (supply_of (map g.C.Coder.coder c.args.coders.items) clocks) (writing (g.S.Sink.told c.args.sink.now) (g.S.Sink.told c.tell_fault.new.sink) (g.S.Sink.faults c.args.sink.now) (g.S.Sink.faults c.tell_fault.new.sink) c.tell_fault.result) c.in-Ok-Wrong.field-0 c.in-Ok-Wrong.line q c.in-Ok-Wrong.ensures.ok c.tell_fault.ensures

pub returns-in-Ok-Wrong-clause-complete : goal.returns-in-Ok-Wrong-clause-complete
returns-in-Ok-Wrong-clause-complete g c =
    let h = c.in-Ok-Wrong.field-0-is in
    let q : c.in-Ok-Wrong.field-0 ≡ Verdict.Wrong c.in-Ok-Wrong.line = cc in
    complete_wrong c.files_have_one_outcome.ensures.one (reading (to_check c.args.name.now c.args.report.now) (g.F.Files.content c.args.files.now) (g.F.Files.faults c.args.files.now) (g.F.Files.faults c.judge.new.files) (g.F.Files.bytes_read c.args.files.now) (g.F.Files.bytes_read c.judge.new.files) (g.F.Files.failed_names c.args.files.now) (g.F.Files.failed_names c.judge.new.files)) (supply_of (map g.C.Coder.coder c.args.coders.items) []) (writing (g.S.Sink.told c.args.sink.now) (g.S.Sink.told c.tell_fault.new.sink) (g.S.Sink.faults c.args.sink.now) (g.S.Sink.faults c.tell_fault.new.sink) c.tell_fault.result) c.in-Ok-Wrong.field-0 c.in-Ok-Wrong.line q c.in-Ok-Wrong.ensures.ok c.tell_fault.ensures

pub returns-in-Err-Fault-clause-headline : goal.returns-in-Err-Fault-clause-headline
returns-in-Err-Fault-clause-headline g c clocks =
    let h = c.in-Err-Fault.field-0-is in
    let q : c.in-Err-Fault.field-0 ≡ Stop.Fault c.in-Err-Fault.fault = cc in
    let r : Reading = (reading (to_check c.args.name.now c.args.report.now) (g.F.Files.content c.args.files.now) (g.F.Files.faults c.args.files.now) (g.F.Files.faults c.judge.new.files) (g.F.Files.bytes_read c.args.files.now) (g.F.Files.bytes_read c.judge.new.files) (g.F.Files.failed_names c.args.files.now) (g.F.Files.failed_names c.judge.new.files)) in
    headline_of_fault r (supply_of (map g.C.Coder.coder c.args.coders.items) clocks) (writing (g.S.Sink.told c.args.sink.now) (g.S.Sink.told c.refuse.new.sink) (g.S.Sink.faults c.args.sink.now) (g.S.Sink.faults c.refuse.new.sink) c.refuse.result) c.in-Err-Fault.fault (stop_comes r c.in-Err-Fault.field-0 c.in-Err-Fault.fault q c.in-Err-Fault.ensures.stop) c.refuse.ensures

pub returns-in-Err-Fault-clause-decided : goal.returns-in-Err-Fault-clause-decided
returns-in-Err-Fault-clause-decided g c clocks =
    let h = c.in-Err-Fault.field-0-is in
    let q : c.in-Err-Fault.field-0 ≡ Stop.Fault c.in-Err-Fault.fault = cc in
    let r : Reading = (reading (to_check c.args.name.now c.args.report.now) (g.F.Files.content c.args.files.now) (g.F.Files.faults c.args.files.now) (g.F.Files.faults c.judge.new.files) (g.F.Files.bytes_read c.args.files.now) (g.F.Files.bytes_read c.judge.new.files) (g.F.Files.failed_names c.args.files.now) (g.F.Files.failed_names c.judge.new.files)) in
    decides_fault c.files_have_one_outcome.ensures.one c.files_have_one_outcome.ensures.some r (supply_of (map g.C.Coder.coder c.args.coders.items) clocks) (writing (g.S.Sink.told c.args.sink.now) (g.S.Sink.told c.refuse.new.sink) (g.S.Sink.faults c.args.sink.now) (g.S.Sink.faults c.refuse.new.sink) c.refuse.result) c.in-Err-Fault.fault (stop_comes r c.in-Err-Fault.field-0 c.in-Err-Fault.fault q c.in-Err-Fault.ensures.stop) c.refuse.ensures

pub returns-in-Err-Fault-clause-complete : goal.returns-in-Err-Fault-clause-complete
returns-in-Err-Fault-clause-complete g c =
    let h = c.in-Err-Fault.field-0-is in
    let q : c.in-Err-Fault.field-0 ≡ Stop.Fault c.in-Err-Fault.fault = cc in
    let r : Reading = (reading (to_check c.args.name.now c.args.report.now) (g.F.Files.content c.args.files.now) (g.F.Files.faults c.args.files.now) (g.F.Files.faults c.judge.new.files) (g.F.Files.bytes_read c.args.files.now) (g.F.Files.bytes_read c.judge.new.files) (g.F.Files.failed_names c.args.files.now) (g.F.Files.failed_names c.judge.new.files)) in
    complete_fault c.files_have_one_outcome.ensures.one r (writing (g.S.Sink.told c.args.sink.now) (g.S.Sink.told c.refuse.new.sink) (g.S.Sink.faults c.args.sink.now) (g.S.Sink.faults c.refuse.new.sink) c.refuse.result) c.in-Err-Fault.fault (stop_comes r c.in-Err-Fault.field-0 c.in-Err-Fault.fault q c.in-Err-Fault.ensures.stop)

pub returns-in-Err-NoMemory-clause-headline : goal.returns-in-Err-NoMemory-clause-headline
returns-in-Err-NoMemory-clause-headline g c clocks =
    headline_of_memory (reading (to_check c.args.name.now c.args.report.now) (g.F.Files.content c.args.files.now) (g.F.Files.faults c.args.files.now) (g.F.Files.faults c.judge.new.files) (g.F.Files.bytes_read c.args.files.now) (g.F.Files.bytes_read c.judge.new.files) (g.F.Files.failed_names c.args.files.now) (g.F.Files.failed_names c.judge.new.files)) (supply_of (map g.C.Coder.coder c.args.coders.items) clocks) (writing (g.S.Sink.told c.args.sink.now) (g.S.Sink.told c.want_memory.new.sink) (g.S.Sink.faults c.args.sink.now) (g.S.Sink.faults c.want_memory.new.sink) c.want_memory.result) c.want_memory.ensures

pub returns-in-Err-NoMemory-clause-decided : goal.returns-in-Err-NoMemory-clause-decided
returns-in-Err-NoMemory-clause-decided g c clocks =
    decides_memory c.files_have_one_outcome.ensures.some (reading (to_check c.args.name.now c.args.report.now) (g.F.Files.content c.args.files.now) (g.F.Files.faults c.args.files.now) (g.F.Files.faults c.judge.new.files) (g.F.Files.bytes_read c.args.files.now) (g.F.Files.bytes_read c.judge.new.files) (g.F.Files.failed_names c.args.files.now) (g.F.Files.failed_names c.judge.new.files)) (supply_of (map g.C.Coder.coder c.args.coders.items) clocks) (writing (g.S.Sink.told c.args.sink.now) (g.S.Sink.told c.want_memory.new.sink) (g.S.Sink.faults c.args.sink.now) (g.S.Sink.faults c.want_memory.new.sink) c.want_memory.result) c.want_memory.ensures

pub returns-in-Err-NoMemory-clause-complete : goal.returns-in-Err-NoMemory-clause-complete
returns-in-Err-NoMemory-clause-complete g c =
    complete_memory (reading (to_check c.args.name.now c.args.report.now) (g.F.Files.content c.args.files.now) (g.F.Files.faults c.args.files.now) (g.F.Files.faults c.judge.new.files) (g.F.Files.bytes_read c.args.files.now) (g.F.Files.bytes_read c.judge.new.files) (g.F.Files.failed_names c.args.files.now) (g.F.Files.failed_names c.judge.new.files)) (writing (g.S.Sink.told c.args.sink.now) (g.S.Sink.told c.want_memory.new.sink) (g.S.Sink.faults c.args.sink.now) (g.S.Sink.faults c.want_memory.new.sink) c.want_memory.result) c.want_memory.ensures
