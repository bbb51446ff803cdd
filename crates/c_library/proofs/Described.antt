-- A description at the front of some room.
use Rattle.std.proofs.Common.{ℕ, Bool, true, false, cond, ◌≡◌, ◌≤◌, ◌+◌, List, ◌++◌, length, take, drop, Some, refl, ◌∙◌, arith, length-append, length-drop}
use Rattle.std.specs.Prelude.{nat_le}
use Rattle.std.proofs.lemmas.Bool.{le-leb}
use Rattle.std.proofs.lemmas.List.{take-append-le, drop-append-le}
use Rattle.wc_config.specs.Streams.{streaminfo_of}
use Rattle.wc_config.specs.declared.stream_info.StreamInfo.{StreamInfo}
use Rattle.c_library.specs.Status.{done, too_small, fill_status, filled}

part_same : (w r : List ℕ) (m n : ℕ) → m + n ≤ length w → take n (drop m (w ++ r)) ≡ take n (drop m w)
part_same w r m n h = rw (drop-append-le m w r (omega arith)) (take-append-le n (drop m w) r (omega (arith, length-drop m w)))

-- what follows is not read
longer_is_read : (w r : List ℕ) → 42 ≤ length w → streaminfo_of (w ++ r) ≡ streaminfo_of w
longer_is_read w r h =
    let long = le-leb 42 (length (w ++ r)) (omega (arith, length-append w r)) in
    rw (long, le-leb 42 (length w) h, take-append-le 4 w r (omega arith), part_same w r 4 4 (omega arith), part_same w r 8 34 h) refl

read_where : (t : Bool) (w old : List ℕ) (info : StreamInfo) (status : ℕ) → status ≡ cond t done too_small → status ≡ done → 42 ≤ length w → streaminfo_of w ≡ Some info
    → streaminfo_of (cond t (w ++ drop (length w) old) old) ≡ Some info
read_where true w old info status e d h r = longer_is_read w (drop (length w) old) h ∙ r
read_where false w old info status e d h r = absurd (omega (arith, e, d))

-- where a description fits some room it is read there
pub read_in_room : (w old : List ℕ) (info : StreamInfo) (status : ℕ) → status ≡ fill_status w old → status ≡ done → 42 ≤ length w → streaminfo_of w ≡ Some info
    → streaminfo_of (filled w old) ≡ Some info
read_in_room w old info status e d h r = read_where (nat_le (length w) (length old)) w old info status e d h r
