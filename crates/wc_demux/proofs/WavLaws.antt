-- What the parts of a WAV file say, part by part.
use Rattle.std.proofs.Common.{◌≡◌, ℕ, ◌+◌, ◌*◌, ◌/◌, ◌<◌, ◌≤◌, true, false, List, ◌∷◌, Ok, Err, codes, drop, take, length, refl, ap, arith}
use Rattle.std.proofs.lemmas.Bool.{lt-ltb, le-ltb}
use Rattle.std.proofs.Math.Nat.{mul-le-mul}
use Rattle.chunk_files.specs.declared.fault.DemuxFault.TheVariants as fault
use Rattle.wc_demux.specs.Parts.{Part}
use Rattle.wc_demux.specs.Wav.{has_id, size_of, whole_size, least_size, tag_of, bits_in, codec_of, format_by, format_of, with_rest, format_in, data_in, parts_from}
use Rattle.wc_demux.proofs.PartLaws.{next_part, no_part}

-- the parts from a place on, where one stands there
pub part_here : (bytes : List ℕ) (at : ℕ) → at < length bytes → parts_from bytes at ≡ record { at = at; bytes = drop at bytes } ∷ parts_from bytes (at + whole_size (drop at bytes))
part_here bytes at lt = next_part whole_size bytes at lt (omega arith)

pub format_none : (bytes : List ℕ) (at : ℕ) → length bytes ≤ at → format_in (length bytes) (parts_from bytes at) ≡ Err (fault.BadWav (length bytes))
format_none bytes at h = ap (λ (ps : List Part). format_in (length bytes) ps) (no_part whole_size bytes at h)

pub data_none : (bytes : List ℕ) (at : ℕ) → length bytes ≤ at → data_in (length bytes) (parts_from bytes at) ≡ Err (fault.BadWav (length bytes))
data_none bytes at h = ap (λ (ps : List Part). data_in (length bytes) ps) (no_part whole_size bytes at h)

-- ---- one part, by what it is

pub format_cut : (bytes : List ℕ) (at : ℕ) → at < length bytes → length (drop at bytes) < 8 → format_in (length bytes) (parts_from bytes at) ≡ Err (fault.BadWav at)
format_cut bytes at lt cut = rw (part_here bytes at lt, lt-ltb (length (drop at bytes)) 8 cut) refl

pub format_here : (bytes : List ℕ) (at : ℕ) → at < length bytes → 8 ≤ length (drop at bytes) → has_id (codes "fmt ") (drop at bytes) ≡ true
    → format_in (length bytes) (parts_from bytes at) ≡ with_rest (parts_from bytes (at + whole_size (drop at bytes))) (format_of at (drop at bytes))
format_here bytes at lt whole is = rw (part_here bytes at lt, le-ltb (length (drop at bytes)) 8 whole, is) refl

pub format_late : (bytes : List ℕ) (at : ℕ) → at < length bytes → 8 ≤ length (drop at bytes) → has_id (codes "fmt ") (drop at bytes) ≡ false → has_id (codes "data") (drop at bytes) ≡ true
    → format_in (length bytes) (parts_from bytes at) ≡ Err (fault.BadWav at)
format_late bytes at lt whole not is = rw (part_here bytes at lt, le-ltb (length (drop at bytes)) 8 whole, not, is) refl

pub format_next : (bytes : List ℕ) (at : ℕ) → at < length bytes → 8 ≤ length (drop at bytes) → has_id (codes "fmt ") (drop at bytes) ≡ false → has_id (codes "data") (drop at bytes) ≡ false
    → format_in (length bytes) (parts_from bytes at) ≡ format_in (length bytes) (parts_from bytes (at + whole_size (drop at bytes)))
format_next bytes at lt whole not other = rw (part_here bytes at lt, le-ltb (length (drop at bytes)) 8 whole, not, other) refl

pub data_cut : (bytes : List ℕ) (at : ℕ) → at < length bytes → length (drop at bytes) < 8 → data_in (length bytes) (parts_from bytes at) ≡ Err (fault.BadWav at)
data_cut bytes at lt cut = rw (part_here bytes at lt, lt-ltb (length (drop at bytes)) 8 cut) refl

pub data_here : (bytes : List ℕ) (at : ℕ) → at < length bytes → 8 ≤ length (drop at bytes) → has_id (codes "data") (drop at bytes) ≡ true
    → data_in (length bytes) (parts_from bytes at) ≡ Ok (take (size_of (drop at bytes)) (drop 8 (drop at bytes)))
data_here bytes at lt whole is = rw (part_here bytes at lt, le-ltb (length (drop at bytes)) 8 whole, is) refl

pub data_next : (bytes : List ℕ) (at : ℕ) → at < length bytes → 8 ≤ length (drop at bytes) → has_id (codes "data") (drop at bytes) ≡ false
    → data_in (length bytes) (parts_from bytes at) ≡ data_in (length bytes) (parts_from bytes (at + whole_size (drop at bytes)))
data_next bytes at lt whole not = rw (part_here bytes at lt, le-ltb (length (drop at bytes)) 8 whole, not) refl

-- a frame of some channels and 8 bits or more has a byte
pub some_bytes : (channels bits : ℕ) → 1 ≤ channels → 8 ≤ bits → 1 ≤ channels * bits / 8
some_bytes channels bits c b = let m : 1 * 8 ≤ channels * bits = mul-le-mul c b in omega (arith, m)

-- a part `fmt ` that is whole and long enough
pub whole_format : (at size : ℕ) (part : List ℕ) → size ≡ size_of part → size ≤ length (drop 8 part) → least_size (drop 8 part) ≤ size
    → format_of at part ≡ format_by at (drop 8 part) (codec_of (tag_of (drop 8 part)) (bits_in (drop 8 part)))
whole_format at size part is long least =
    rw (le-ltb (length (drop 8 part)) (size_of part) (omega (arith, is, long)), le-ltb (size_of part) (least_size (drop 8 part)) (omega (arith, is, least))) refl
