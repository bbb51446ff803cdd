-- The head of a stream, by its description and its metadata blocks.
use Rattle.std.proofs.Common.{◌≡◌, ℕ, ◌+◌, ◌<◌, ◌≤◌, Bool, true, false, is_some, List, [], ◌++◌, Option, Some, None, Result, Ok, Err, drop, length, refl, sym, ap, ◌∙◌, arith, append-nil, append_assoc}
use Rattle.chunk_files.specs.declared.fault.DemuxFault.{DemuxFault}
use Rattle.flac_definitions.specs.BitLaws.{IsBytes}
use Rattle.wc_config.specs.Streams.{streaminfo_of}
use Rattle.wc_config.specs.declared.stream_info.StreamInfo.{StreamInfo}
use Rattle.wc_demux.specs.Flac.{head_of, head_by, with_info, place_behind, blocks_from}
use Rattle.flac_stream.specs.Head.{GoesOn}
use Rattle.flac_stream.specs.Reading.{all_ones, is_begun}
use Rattle.flac_stream.proofs.BlockLaws.{completed}
use Rattle.flac_stream.proofs.DescriptionLaws.{begun, filled_long, ones_after, same_description, too_few, fits_both}

-- a head has a description
described : (bytes : List ℕ) (h : StreamInfo × ℕ) → head_of bytes ≡ Ok h → (info : StreamInfo) × (streaminfo_of bytes ≡ Some info)
described bytes h e = by (streaminfo_of bytes) refl e
  where
    by : (o : Option StreamInfo) → streaminfo_of bytes ≡ o → head_by bytes o ≡ Ok h → (info : StreamInfo) × (streaminfo_of bytes ≡ Some info)
    by None is g = absurd (let n : ⊥ = cc in n)
    by (Some info) is g = (info, is)

-- and its blocks end
placed : (bytes : List ℕ) (info : StreamInfo) (h : StreamInfo × ℕ) → streaminfo_of bytes ≡ Some info → head_of bytes ≡ Ok h → (place : ℕ) × (place_behind (length bytes) (blocks_from bytes 4) ≡ Ok place)
placed bytes info h is e = by (place_behind (length bytes) (blocks_from bytes 4)) refl (sym (ap (head_by bytes) is) ∙ e)
  where
    by : (r : Result ℕ DemuxFault) → place_behind (length bytes) (blocks_from bytes 4) ≡ r → with_info info r ≡ Ok h → (place : ℕ) × (place_behind (length bytes) (blocks_from bytes 4) ≡ Ok place)
    by (Err f) same g = absurd (let n : ⊥ = cc in n)
    by (Ok place) same g = (place, same)

pub is_head : (bytes : List ℕ) (info : StreamInfo) (place : ℕ) → streaminfo_of bytes ≡ Some info → place_behind (length bytes) (blocks_from bytes 4) ≡ Ok place → head_of bytes ≡ Ok (info, place)
is_head bytes info place d p = ap (head_by bytes) d ∙ ap (with_info info) p

-- bytes with a description go on to a head
pub goes_on : (bytes : List ℕ) (info : StreamInfo) → 42 ≤ length bytes → streaminfo_of bytes ≡ Some info → GoesOn bytes
goes_on bytes info long d =
    let c = completed (length bytes) bytes 4 (omega (arith, long)) (omega arith) in
    let g : GoesOn bytes = record { more = c.more; are_bytes = c.are_bytes; head = (info, c.place); whole = is_head (bytes ++ c.more) info c.place (same_description bytes c.more long ∙ d) c.whole } in g

-- so do fewer bytes that begin one
pub begun_goes_on : (bytes : List ℕ) → length bytes < 42 → is_begun bytes ≡ true → GoesOn bytes
begun_goes_on bytes lt e = by (streaminfo_of (bytes ++ drop (length bytes) all_ones)) refl e
  where
    by : (o : Option StreamInfo) → streaminfo_of (bytes ++ drop (length bytes) all_ones) ≡ o → is_some o ≡ true → GoesOn bytes
    by None is h = absurd (let n : ⊥ = cc in n)
    by (Some info) is h =
        let rest = drop (length bytes) all_ones in
        let g = goes_on (bytes ++ rest) info (omega (arith, filled_long bytes lt)) is in
        let r : GoesOn bytes = record { more = rest ++ g.more; are_bytes = fits_both rest g.more (ones_after (length bytes)) g.are_bytes; head = g.head; whole = ap head_of (sym (append_assoc bytes rest g.more)) ∙ g.whole } in r

pub no_head : (bytes : List ℕ) → length bytes < 42 → (h : StreamInfo × ℕ) → head_of bytes ≡ Ok h → ⊥
no_head bytes lt h e = let d = described bytes h e in too_few bytes d.0 lt d.1

pub never : (bytes : List ℕ) → length bytes < 42 → IsBytes bytes → is_begun bytes ≡ false → GoesOn bytes → ⊥
never bytes lt own not_begun g =
    let d = described (bytes ++ g.more) g.head g.whole in
    let yes : is_begun bytes ≡ true = begun bytes g.more d.0 lt own g.are_bytes d.1 in
    let n : ⊥ = cc in n

pub never_later : (bytes : List ℕ) → 42 ≤ length bytes → streaminfo_of bytes ≡ None → GoesOn bytes → ⊥
never_later bytes long not_one g =
    let d = described (bytes ++ g.more) g.head g.whole in
    let same : streaminfo_of bytes ≡ Some d.0 = sym (same_description bytes g.more long) ∙ d.1 in
    let n : ⊥ = cc in n

pub blocks_cut : (bytes : List ℕ) (info : StreamInfo) → streaminfo_of bytes ≡ Some info → ((place : ℕ) → place_behind (length bytes) (blocks_from bytes 4) ≡ Ok place → ⊥) → (h : StreamInfo × ℕ) → head_of bytes ≡ Ok h → ⊥
blocks_cut bytes info d cut h e = let p = placed bytes info h d e in cut p.0 p.1
