use Rattle.std.proofs.Common.{length-take, sym, arith}
use Rattle.std.proofs.lemmas.List.{take_all}
use Rattle.flac_decode.specs.FrameEnd.{most}
use Rattle.flac_stream.proofs.next.front.Goals as goal

pub slice_bounds-result-length : goal.slice_bounds-result-length
slice_bounds-result-length c = omega (arith, length-take most c.args.bytes.now, c.if-bytes.false)

pub returns-then-bytes : goal.returns-then-bytes
returns-then-bytes c = sym (take_all most c.args.bytes.now (omega (arith, c.if-bytes.true)))
