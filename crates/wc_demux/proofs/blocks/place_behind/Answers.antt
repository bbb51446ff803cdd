use Rattle.std.proofs.Common.{◌+◌, ◌<◌, length, drop, sym, ap, ◌∙◌, arith}
use Rattle.wc_demux.specs.Flac.{block_size, blocks_from, place_behind}
use Rattle.wc_demux.proofs.BlockLaws.{block_cut, block_next}
use Rattle.wc_demux.proofs.blocks.place_behind.Goals as goal
use Rattle.wc_demux.proofs.blocks.place_behind.Goals.{then-block-lt4-via-then-block-lt4, then-block-lt4-via-else-block-lt4+then-block-block_size}

pub returns-then-block-lt4-clause-place : goal.returns-then-block-lt4-clause-place
returns-then-block-lt4-clause-place c =
    let bytes = c.args.bytes.now in
    let at = c.loop-at.at in
    let e = c.tail-block.ensures in
    let cut : length (drop at bytes) < block_size (drop at bytes) = elim c.then-block-lt4.branch [
      | then-block-lt4-via-then-block-lt4 w ↦ omega (arith, rw e at w.if-block-lt4.true)
      | then-block-lt4-via-else-block-lt4+then-block-block_size w ↦ rw (w.block_size.ensures, e) at w.if-block-block_size.true
    ] in
    sym (c.loop-at.invariant.same ∙ block_cut bytes at c.loop-at-test.true cut)

pub loop-at-preserved : goal.loop-at-preserved
loop-at-preserved c =
    let bytes = c.args.bytes.now in
    let at = c.loop-at.at in
    let e = c.tail-block.ensures in
    record {
      same = c.loop-at.invariant.same ∙ block_next bytes at c.loop-at-test.true (rw (c.block_size.ensures, e) at c.if-block-block_size.false) (rw e at c.if-block-ge128.false)
          ∙ ap (λ k. place_behind (length bytes) (blocks_from bytes (at + k))) (sym (rw e at c.block_size-at.ensures));
    }
