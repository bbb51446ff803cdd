use Rattle.std.proofs.Common.{◌≡◌, ◌++◌, List, ℕ, take}
use Rattle.chunk_files.specs.{Grammar.BeginsWithAll, Written.written, Written.written_chunk}
use Rattle.std.specs.List.{flat_map}
use Rattle.chunk_files.proofs.write.write_chunks.Given as goal

abbrev pub invariant-loop-chunk : goal.invariant-loop-chunk
invariant-loop-chunk l =
    record {
      written : l.out.items ≡ written (take l.chunk-index l.chunks);
      begun : (rest : List ℕ) → BeginsWithAll (take l.chunk-index l.chunks) (flat_map written_chunk (take l.chunk-index l.chunks) ++ rest) rest;
    }
