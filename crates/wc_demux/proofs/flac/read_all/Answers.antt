use Rattle.std.proofs.Common.{◌≡◌, arith, sym, None}
use Rattle.chunk_files.specs.declared.fault.DemuxFault.{DemuxFault}
use Rattle.chunk_files.specs.declared.fault.DemuxFault.TheVariants as fault
use Rattle.flac_decode.specs.FrameEnd.{EndsAt}
use Rattle.wc_demux.specs.Flac.{IsFlacFault}
use Rattle.wc_demux.proofs.FlacLaws.{follows, front_fault}
use Rattle.wc_demux.proofs.FrameLaws.{read_more}
use Rattle.wc_demux.proofs.flac.read_all.Goals as goal

pub returns-in-Err-front_at-clause-fault : goal.returns-in-Err-front_at-clause-fault
returns-in-Err-front_at-clause-fault c =
    let bytes = c.args.bytes.now in
    let info = c.in-Ok.head.0 in
    let rest = c.tail-rest.result.now in
    follows c.in-Err-front_at.stop (λ (f : DemuxFault). (f ≡ fault.BadFlac c.loop-at.at) × EndsAt info rest None) (IsFlacFault bytes)
    (front_fault bytes rest info c.in-Ok.head.1 c.loop-at.at c.loop-at.frames c.loop-at.chunks.items c.tail-rest.ensures c.loop-at-test.true (sym c.in-Ok.ensures.head) c.loop-at.invariant.before)
    c.in-Err-front_at.ensures.none

pub loop-at-preserved : goal.loop-at-preserved
loop-at-preserved c =
    let front = c.in-Ok-front_at.front in
    let more = read_more c.frames_are_found.ensures c.in-Ok.head.0 c.loop-at.chunks.items c.in_ok-chunk.chunk c.args.bytes.now c.tail-rest.result.now c.in-Ok.head.1 c.loop-at.at c.loop-at.frames front
    c.tail-rest.ensures c.loop-at.invariant.within c.in-Ok-front_at.ensures.found c.in_ok-chunk.ensures c.loop-at.invariant.before in
    record { within = more.within; few = omega (arith, c.loop-at.invariant.few, more.some, more.short); before = rw (c.push_reserved.ensures.items, c.in_ok-reserve.ensures.items) more.begins }
