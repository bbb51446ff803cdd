use Rattle.std.proofs.Common.{◌≡◌, ap, ◌∙◌, List, ℕ, ◌++◌, take}
use Rattle.chunk_files.specs.{Written.written, Written.written_chunk}
use Rattle.std.proofs.lemmas.List.{take_all}
use Rattle.chunk_files.proofs.WrittenLaws.{written_more, begun_more, written_is_file}
use Rattle.chunk_files.proofs.write.write_chunks.Goals as goal

pub loop-chunk-preserved : goal.loop-chunk-preserved
loop-chunk-preserved c =
    let chunk = c.chunk-item.result in
    let next = written_more c.args.chunks.now c.loop-chunk.chunk-index chunk c.loop-chunk-test.true c.chunk-item.is in
    record {
      written = rw (next, c.in-Ok.ensures.bytes) (ap (λ (l : List ℕ). l ++ written_chunk chunk) c.loop-chunk.invariant.written);
      begun = begun_more c.args.chunks.now c.loop-chunk.chunk-index chunk c.loop-chunk-test.true c.chunk-item.is c.loop-chunk.invariant.begun c.in-Ok.ensures.begun;
    }

pub returns-clause-file : goal.returns-clause-file
returns-clause-file c =
    let all : take c.loop-chunk.chunk-index c.args.chunks.now ≡ c.args.chunks.now = take_all c.loop-chunk.chunk-index c.args.chunks.now c.loop-chunk-test.false in
    written_is_file c.args.chunks.now c.loop-chunk.out.items (c.loop-chunk.invariant.written ∙ ap written all) (rw all at c.loop-chunk.invariant.begun)
