-- The metadata blocks of a stream, block by block; and that blocks that are cut go on to whole ones.
use Rattle.std.proofs.Common.{◌≡◌, ◌⊎◌, inl, inr, ⊎_elim, lit<, ℕ, zero, suc, ◌+◌, ◌-◌, ◌<◌, ◌≤◌, List, [], ◌∷◌, ◌++◌, Option, Some, None, Result, Ok, Err, replicate, drop, length, get_or, refl, sym, ap, subst, ◌∙◌, arith, append-nil, append_assoc, length-append, length-drop}
use Rattle.std.specs.Prelude.{slice_index}
use Rattle.std.proofs.lemmas.Bool.{lt-ltb, le-ltb, lt-leb, le-leb}
use Rattle.std.proofs.lemmas.List.{length-replicate, drop_all, drop-append-le, drop_at, get_or-drop, get_or_append_left, get_or-append_right, get_or-replicate, get_or_past}
use Rattle.chunk_files.specs.declared.fault.DemuxFault.{DemuxFault}
use Rattle.chunk_files.specs.declared.fault.DemuxFault.TheVariants as fault
use Rattle.flac_definitions.specs.BitLaws.{IsBytes}
use Rattle.wc_demux.specs.Parts.{Part}
use Rattle.wc_demux.specs.Flac.{block_size, blocks_from, place_behind}
use Rattle.flac_stream.specs.declared.head.SeekTable.{SeekTable}
use Rattle.flac_stream.specs.Head.{seek_table_at, seek_table_in, first_of}
use Rattle.flac_stream.proofs.PartLaws.{next_part}

block_here : (bytes : List ℕ) (at : ℕ) → at < length bytes → blocks_from bytes at ≡ record { at = at; bytes = drop at bytes } ∷ blocks_from bytes (at + block_size (drop at bytes))
block_here bytes at lt = next_part block_size bytes at lt (omega arith)

no_block : (bytes : List ℕ) (at : ℕ) → length bytes ≤ at → blocks_from bytes at ≡ []
no_block bytes at le = let none : drop at bytes ≡ [] = drop_all at bytes le in rw none refl

-- ---- one block

pub behind_none : (bytes : List ℕ) (at : ℕ) → length bytes ≤ at → place_behind (length bytes) (blocks_from bytes at) ≡ Err (fault.BadFlac (length bytes))
behind_none bytes at le = ap (place_behind (length bytes)) (no_block bytes at le)

pub behind_cut : (bytes : List ℕ) (at : ℕ) → at < length bytes → length (drop at bytes) < block_size (drop at bytes) → place_behind (length bytes) (blocks_from bytes at) ≡ Err (fault.BadFlac at)
behind_cut bytes at lt cut = rw (block_here bytes at lt, lt-ltb (length (drop at bytes)) (block_size (drop at bytes)) cut) refl

pub behind_last : (bytes : List ℕ) (at : ℕ) → at < length bytes → block_size (drop at bytes) ≤ length (drop at bytes) → 128 ≤ slice_index (drop at bytes) 0
    → place_behind (length bytes) (blocks_from bytes at) ≡ Ok (at + block_size (drop at bytes))
behind_last bytes at lt whole last =
    rw (block_here bytes at lt, le-ltb (length (drop at bytes)) (block_size (drop at bytes)) whole, le-leb 128 (slice_index (drop at bytes) 0) last) refl

pub behind_next : (bytes : List ℕ) (at : ℕ) → at < length bytes → block_size (drop at bytes) ≤ length (drop at bytes) → slice_index (drop at bytes) 0 < 128
    → place_behind (length bytes) (blocks_from bytes at) ≡ place_behind (length bytes) (blocks_from bytes (at + block_size (drop at bytes)))
behind_next bytes at lt whole more =
    rw (block_here bytes at lt, le-ltb (length (drop at bytes)) (block_size (drop at bytes)) whole, lt-leb 128 (slice_index (drop at bytes) 0) more) refl

first_none : (found : Option SeekTable) → first_of found None ≡ found
first_none None = refl
first_none (Some t) = refl

first_again : (a b c : Option SeekTable) → first_of a (first_of b c) ≡ first_of (first_of a b) c
first_again None b c = refl
first_again (Some t) b c = refl

pub table_last : (bytes : List ℕ) (at : ℕ) (found : Option SeekTable) → at < length bytes → 128 ≤ slice_index (drop at bytes) 0
    → first_of found (seek_table_in (blocks_from bytes at)) ≡ first_of found (seek_table_at (record { at = at; bytes = drop at bytes }))
table_last bytes at found lt last =
    let here : seek_table_in (blocks_from bytes at) ≡ first_of (seek_table_at (record { at = at; bytes = drop at bytes })) None = rw (block_here bytes at lt, le-leb 128 (slice_index (drop at bytes) 0) last) refl in
    ap (first_of found) (here ∙ first_none (seek_table_at (record { at = at; bytes = drop at bytes })))

pub table_next : (bytes : List ℕ) (at : ℕ) (found : Option SeekTable) → at < length bytes → slice_index (drop at bytes) 0 < 128
    → first_of found (seek_table_in (blocks_from bytes at)) ≡ first_of (first_of found (seek_table_at (record { at = at; bytes = drop at bytes }))) (seek_table_in (blocks_from bytes (at + block_size (drop at bytes))))
table_next bytes at found lt more =
    let here : seek_table_in (blocks_from bytes at) ≡ first_of (seek_table_at (record { at = at; bytes = drop at bytes })) (seek_table_in (blocks_from bytes (at + block_size (drop at bytes)))) =
    rw (block_here bytes at lt, lt-leb 128 (slice_index (drop at bytes) 0) more) refl in
    ap (first_of found) here ∙ first_again found (seek_table_at (record { at = at; bytes = drop at bytes })) (seek_table_in (blocks_from bytes (at + block_size (drop at bytes))))

-- the same of a block that is read at a place, as the loop over them has it
pub same_step : (bytes block : List ℕ) (at size : ℕ) → block ≡ drop at bytes → size ≡ block_size block → at < length bytes → block_size block ≤ length block → slice_index block 0 < 128
    → place_behind (length bytes) (blocks_from bytes at) ≡ place_behind (length bytes) (blocks_from bytes (at + size))
same_step bytes block at size e s lt whole next =
    behind_next bytes at lt (rw e at whole) (rw e at next) ∙ ap (λ k. place_behind (length bytes) (blocks_from bytes (at + k))) (sym (s ∙ ap block_size e))

pub table_step : (bytes block : List ℕ) (at size : ℕ) (found new : Option SeekTable) → block ≡ drop at bytes → size ≡ block_size block → new ≡ first_of found (seek_table_at (record { at = at; bytes = block }))
    → at < length bytes → slice_index block 0 < 128 → first_of found (seek_table_in (blocks_from bytes at)) ≡ first_of new (seek_table_in (blocks_from bytes (at + size)))
table_step bytes block at size found new e s n lt next =
    let whole : new ≡ first_of found (seek_table_at (record { at = at; bytes = drop at bytes })) = n ∙ ap (λ (xs : List ℕ). first_of found (seek_table_at (record { at = at; bytes = xs }))) e in
    table_next bytes at found lt (rw e at next)
    ∙ (ap (λ (t : Option SeekTable). first_of t (seek_table_in (blocks_from bytes (at + block_size (drop at bytes))))) (sym whole)
    ∙ ap (λ k. first_of new (seek_table_in (blocks_from bytes (at + k)))) (sym (s ∙ ap block_size e)))

pub no_place : (bytes : List ℕ) (at place : ℕ) (r : Result ℕ DemuxFault) → r ≡ place_behind (length bytes) (blocks_from bytes at) → at < length bytes → length (drop at bytes) < block_size (drop at bytes) → r ≡ Ok place → ⊥
no_place bytes at place r e lt cut is = let none : place_behind (length bytes) (blocks_from bytes at) ≡ Err (fault.BadFlac at) = behind_cut bytes at lt cut in let end : ⊥ = cc in end

-- ---- more bytes

-- an empty block of padding, marked as the last
abbrev ending : List ℕ
ending = 129 ∷ 0 ∷ 0 ∷ 0 ∷ []

ending_fits : IsBytes ending
ending_fits zero = lit< tt
ending_fits (suc zero) = lit< tt
ending_fits (suc (suc zero)) = lit< tt
ending_fits (suc (suc (suc zero))) = lit< tt
ending_fits (suc (suc (suc (suc i)))) = lit< tt

-- bytes that make blocks from a place on whole
pub record Completes (bytes : List ℕ) (at : ℕ) : Type 0 where
  pub more : List ℕ
  pub are_bytes : IsBytes more
  pub place : ℕ
  pub whole : place_behind (length (bytes ++ more)) (blocks_from (bytes ++ more) at) ≡ Ok place

ended : (ys : List ℕ) (at : ℕ) → at ≡ length ys → place_behind (length (ys ++ ending)) (blocks_from (ys ++ ending) at) ≡ Ok (at + 4)
ended ys at e =
    let all : drop at (ys ++ ending) ≡ ending = drop_at ys ending at (sym e) in
    let lt : at < length (ys ++ ending) = omega (arith, e, length-append ys ending) in
    let size : block_size (drop at (ys ++ ending)) ≡ 4 = rw all refl in
    let long : length (drop at (ys ++ ending)) ≡ 4 = rw all refl in
    let first : slice_index (drop at (ys ++ ending)) 0 ≡ 129 = rw all refl in
    behind_last (ys ++ ending) at lt (omega (arith, size, long)) (omega (arith, first)) ∙ ap (λ k. let r : Result ℕ DemuxFault = Ok (at + k) in r) size

-- bytes behind a block do not change its size
same_size : (block more : List ℕ) → 4 ≤ length block → block_size (block ++ more) ≡ block_size block
same_size block more long =
    let one : slice_index (drop 1 (block ++ more)) 0 ≡ slice_index (drop 1 block) 0 = get_or-drop 1 (block ++ more) 0 0 ∙ get_or_append_left block more 0 1 (omega (arith, long)) ∙ sym (get_or-drop 1 block 0 0) in
    let two : slice_index (drop 1 (block ++ more)) 1 ≡ slice_index (drop 1 block) 1 = get_or-drop 1 (block ++ more) 1 0 ∙ get_or_append_left block more 0 2 (omega (arith, long)) ∙ sym (get_or-drop 1 block 1 0) in
    let three : slice_index (drop 1 (block ++ more)) 2 ≡ slice_index (drop 1 block) 2 = get_or-drop 1 (block ++ more) 2 0 ∙ get_or_append_left block more 0 3 (omega (arith, long)) ∙ sym (get_or-drop 1 block 2 0) in
    omega (arith, one, two, three)

pub split : (a b : ℕ) → (a < b) ⊎ (b ≤ a)
split a zero = inr (omega arith)
split zero (suc b) = inl (omega arith)
split (suc a) (suc b) = ⊎_elim (λ lt. inl (omega (arith, lt))) (λ le. inr (omega (arith, le))) (split a b)

-- nor do zeros in place of bytes of its head that lack
zeros_same : (block more : List ℕ) (k i : ℕ) → i < length block + k → get_or (block ++ (replicate k 0 ++ more)) i 0 ≡ get_or block i 0
zeros_same block more k i lt =
    ⊎_elim
    (λ inside. get_or_append_left block (replicate k 0 ++ more) 0 i inside)
    (λ behind. get_or-append_right block (replicate k 0 ++ more) (length block) i 0 refl behind
    ∙ get_or_append_left (replicate k 0) more 0 (i - length block) (omega (arith, lt, behind, length-replicate {A = ℕ} k 0))
    ∙ get_or-replicate k (i - length block) 0 0 (omega (arith, lt, behind))
    ∙ sym (get_or_past block i 0 behind))
    (split i (length block))

zeros_size : (block more : List ℕ) (k : ℕ) → 0 < length block → 4 ≤ length block + k → block_size (block ++ (replicate k 0 ++ more)) ≡ block_size block
zeros_size block more k some long =
    let one : slice_index (drop 1 (block ++ (replicate k 0 ++ more))) 0 ≡ slice_index (drop 1 block) 0 = get_or-drop 1 (block ++ (replicate k 0 ++ more)) 0 0 ∙ zeros_same block more k 1 (omega (arith, long)) ∙ sym (get_or-drop 1 block 0 0) in
    let two : slice_index (drop 1 (block ++ (replicate k 0 ++ more))) 1 ≡ slice_index (drop 1 block) 1 = get_or-drop 1 (block ++ (replicate k 0 ++ more)) 1 0 ∙ zeros_same block more k 2 (omega (arith, long)) ∙ sym (get_or-drop 1 block 1 0) in
    let three : slice_index (drop 1 (block ++ (replicate k 0 ++ more))) 2 ≡ slice_index (drop 1 block) 2 = get_or-drop 1 (block ++ (replicate k 0 ++ more)) 2 0 ∙ zeros_same block more k 3 (omega (arith, long)) ∙ sym (get_or-drop 1 block 2 0) in
    omega (arith, one, two, three)

zeros_fit : (k : ℕ) (more : List ℕ) → IsBytes more → IsBytes (replicate k 0 ++ more)
zeros_fit zero more fits i = fits i
zeros_fit (suc k) more fits zero = lit< tt
zeros_fit (suc k) more fits (suc i) = zeros_fit k more fits i

-- a block that is cut is made whole by zeros, and the ending then stands behind it
cut_completed : (bytes : List ℕ) (at : ℕ) → at < length bytes → length (drop at bytes) < block_size (drop at bytes) → Completes bytes at
cut_completed bytes at lt cut =
    let block = drop at bytes in
    let k = block_size block - length block in
    let more = replicate k 0 ++ ending in
    let all = bytes ++ more in
    let some : 0 < length block = omega (arith, lt, length-drop at bytes) in
    let here : drop at all ≡ block ++ more = drop-append-le at bytes more (omega (arith, lt)) in
    let size : block_size (drop at all) ≡ block_size block = ap block_size here ∙ zeros_size block ending k some (omega (arith, cut)) in
    let first : slice_index (drop at all) 0 ≡ slice_index block 0 = ap (λ (xs : List ℕ). slice_index xs 0) here ∙ get_or_append_left block more 0 0 some in
    let long : length all ≡ length bytes + (k + 4) = length-append bytes more ∙ ap (λ n. length bytes + n) (length-append (replicate k 0) ending ∙ ap (λ n. n + 4) (length-replicate {A = ℕ} k 0)) in
    let inside : at < length all = omega (arith, lt, long) in
    let whole : block_size (drop at all) ≤ length (drop at all) = omega (arith, size, cut, long, lt, length-drop at all, length-drop at bytes) in
    let fits = zeros_fit k ending ending_fits in
    ⊎_elim
    (λ (next : slice_index block 0 < 128).
    let ys = bytes ++ replicate k 0 in
    let same : all ≡ ys ++ ending = sym (append_assoc bytes (replicate k 0) ending) in
    let end : at + block_size (drop at all) ≡ length ys = omega (arith, size, cut, lt, length-drop at bytes, length-append bytes (replicate k 0), length-replicate {A = ℕ} k 0) in
    let stop : place_behind (length all) (blocks_from all (at + block_size (drop at all))) ≡ Ok (at + block_size (drop at all) + 4) = subst (λ (xs : List ℕ). place_behind (length xs) (blocks_from xs (at + block_size (drop at all))) ≡ Ok (at + block_size (drop at all) + 4)) (sym same) (ended ys (at + block_size (drop at all)) end) in
    let c : Completes bytes at = record { more = more; are_bytes = fits; place = at + block_size (drop at all) + 4; whole = behind_next all at inside whole (omega (arith, first, next)) ∙ stop } in c)
    (λ (last : 128 ≤ slice_index block 0).
    let c : Completes bytes at = record { more = more; are_bytes = fits; place = at + block_size (drop at all); whole = behind_last all at inside whole (omega (arith, first, last)) } in c)
    (split (slice_index block 0) 128)

-- blocks from a place on always go on to whole ones
pub completed : (n : ℕ) (bytes : List ℕ) (at : ℕ) → at ≤ length bytes → length bytes ≤ at + n → Completes bytes at
completed zero bytes at le far = record { more = ending; are_bytes = ending_fits; place = at + 4; whole = ended bytes at (omega (arith, le, far)) }
completed (suc n) bytes at le far =
    ⊎_elim
    (λ (lt : at < length bytes).
    let block = drop at bytes in
    let count = length-drop at bytes in
    ⊎_elim (λ cut. cut_completed bytes at lt cut)
    (λ (whole : block_size block ≤ length block).
    let r = completed n bytes (at + block_size block) (omega (arith, whole, count, lt)) (omega (arith, far)) in
    let all = bytes ++ r.more in
    let here : drop at all ≡ block ++ r.more = drop-append-le at bytes r.more le in
    let size : block_size (drop at all) ≡ block_size block = ap block_size here ∙ same_size block r.more (omega (arith, whole)) in
    let first : slice_index (drop at all) 0 ≡ slice_index block 0 = ap (λ (xs : List ℕ). slice_index xs 0) here ∙ get_or_append_left block r.more 0 0 (omega (arith, whole)) in
    let inside : at < length all = omega (arith, lt, length-append bytes r.more) in
    let fits : block_size (drop at all) ≤ length (drop at all) = omega (arith, size, whole, lt, count, length-drop at all, length-append bytes r.more) in
    ⊎_elim
    (λ (next : slice_index block 0 < 128).
    let c : Completes bytes at = record { more = r.more; are_bytes = r.are_bytes; place = r.place; whole = behind_next all at inside fits (omega (arith, first, next)) ∙ (ap (λ k. place_behind (length all) (blocks_from all (at + k))) size ∙ r.whole) } in c)
    (λ (last : 128 ≤ slice_index block 0).
    let c : Completes bytes at = record { more = r.more; are_bytes = r.are_bytes; place = at + block_size (drop at all); whole = behind_last all at inside fits (omega (arith, first, last)) } in c)
    (split (slice_index block 0) 128))
    (split (length block) (block_size block)))
    (λ (past : length bytes ≤ at). let c : Completes bytes at = record { more = ending; are_bytes = ending_fits; place = at + 4; whole = ended bytes at (omega (arith, le, past)) } in c)
    (split at (length bytes))
