use Rattle.std.proofs.Common.{◌<◌, length, drop, ◌∙◌, arith}
use Rattle.wc_demux.specs.Flac.{block_size}
use Rattle.flac_stream.proofs.BlockLaws.{no_place, same_step, table_step}
use Rattle.flac_stream.proofs.head.find_blocks.Goals as goal
use Rattle.flac_stream.proofs.head.find_blocks.Goals.{then-block-lt4-via-then-block-lt4, then-block-lt4-via-else-block-lt4+then-block-block_size}

pub returns-then-block-lt4 : goal.returns-then-block-lt4
returns-then-block-lt4 c = λ place is.
    let bytes = c.args.bytes.now in
    let at = c.loop-at.at in
    let e = c.tail-block.ensures in
    let cut : length (drop at bytes) < block_size (drop at bytes) = elim c.then-block-lt4.branch [
      | then-block-lt4-via-then-block-lt4 w ↦ omega (arith, rw e at w.if-block-lt4.true)
      | then-block-lt4-via-else-block-lt4+then-block-block_size w ↦ rw (w.block_size.ensures, e) at w.if-block-block_size.true
    ] in
    no_place bytes at place _ c.loop-at.invariant.same c.loop-at-test.true cut is

pub loop-at-preserved : goal.loop-at-preserved
loop-at-preserved c =
    let bytes = c.args.bytes.now in
    let at = c.loop-at.at in
    let e = c.tail-block.ensures in
    record {
      same = c.loop-at.invariant.same ∙ same_step bytes _ at _ e c.block_size-in-loop-at.ensures c.loop-at-test.true (rw c.block_size.ensures at c.if-block-block_size.false) c.if-block-ge128.false;
      table = c.loop-at.invariant.table ∙ table_step bytes _ at _ c.loop-at.seek_table _ e c.block_size-in-loop-at.ensures c.with_block-seek_table.ensures c.loop-at-test.true c.if-block-ge128.false;
    }
