-- The metadata blocks of a FLAC file, block by block.
use Rattle.std.proofs.Common.{◌≡◌, ℕ, ◌+◌, ◌<◌, ◌≤◌, List, ◌∷◌, Err, drop, length, refl, arith}
use Rattle.std.specs.Prelude.{slice_index}
use Rattle.std.proofs.lemmas.Bool.{lt-ltb, le-ltb, lt-leb}
use Rattle.chunk_files.specs.declared.fault.DemuxFault.TheVariants as fault
use Rattle.wc_demux.specs.Flac.{block_size, blocks_from, place_behind}
use Rattle.wc_demux.proofs.PartLaws.{next_part}

block_here : (bytes : List ℕ) (at : ℕ) → at < length bytes → blocks_from bytes at ≡ record { at = at; bytes = drop at bytes } ∷ blocks_from bytes (at + block_size (drop at bytes))
block_here bytes at lt = next_part block_size bytes at lt (omega arith)

pub block_cut : (bytes : List ℕ) (at : ℕ) → at < length bytes → length (drop at bytes) < block_size (drop at bytes) → place_behind (length bytes) (blocks_from bytes at) ≡ Err (fault.BadFlac at)
block_cut bytes at lt cut = rw (block_here bytes at lt, lt-ltb (length (drop at bytes)) (block_size (drop at bytes)) cut) refl

pub block_next : (bytes : List ℕ) (at : ℕ) → at < length bytes → block_size (drop at bytes) ≤ length (drop at bytes) → slice_index (drop at bytes) 0 < 128
    → place_behind (length bytes) (blocks_from bytes at) ≡ place_behind (length bytes) (blocks_from bytes (at + block_size (drop at bytes)))
block_next bytes at lt whole more =
    rw (block_here bytes at lt, le-ltb (length (drop at bytes)) (block_size (drop at bytes)) whole, lt-leb 128 (slice_index (drop at bytes) 0) more) refl
