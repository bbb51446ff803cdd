use Rattle.std.proofs.Common.{drop, arith, length-drop}
use Rattle.chunk_files.proofs.{Faults.fault_here, Faults.marks_agree, Chunks.read_more}
use Rattle.chunk_files.proofs.read.read_all.Goals as goal

pub returns-in-Some-clause-fault : goal.returns-in-Some-clause-fault
returns-in-Some-clause-fault c =
    let bytes = c.args.bytes.now in
    let marked = marks_agree bytes (omega (arith, c.if-agreeing-lt4.false, c.agreeing-agreeing.ensures)) in
    fault_here bytes _ (drop c.loop-at.at bytes) c.loop-at.at _ marked c.loop-at.invariant.before (omega (arith, c.loop-at.invariant.within, length-drop c.loop-at.at bytes)) (cc (c.in-Some.ensures))

pub loop-at-preserved : goal.loop-at-preserved
loop-at-preserved c =
    let more = read_more c.loop-at.chunks.items c.in_ok-chunk.chunk c.args.bytes.now c.tail-rest.result.now c.loop-at.at c.len.result c.tail-rest.ensures c.len.ensures.value c.loop-at.invariant.before c.in_ok-chunk.ensures in
    record { past_mark = omega arith; within = more.0; before = rw (c.push_reserved.ensures.items, c.in_ok-reserve.ensures.items) more.1 }
