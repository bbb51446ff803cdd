-- A picture less the last one, piece by piece.
use Rattle.std.proofs.Common.{ℕ, ◌≡◌, ◌<◌, ◌≤◌, ◌+◌, ◌-◌, ◌%◌, List, ◌++◌, take, drop, length, get_or, inl, inr, ap, sym, ◌∙◌, arith, append_assoc, append-nil}
use Rattle.std.proofs.lemmas.Bool.{cases_lt}
use Rattle.std.proofs.lemmas.List.{length-append, ext_get_or, get_or_append_left, get_or-append_right, get_or-take, get_or-drop, length-take-le, length-drop, take_all}
use Rattle.std.proofs.lemmas.List.FromFn.{length-map-range_with_len, get_or-map-range_with_len}
use Rattle.codec_definitions.specs.RawVideoEncoder.{less_bytes}

abbrev byte_less : List ℕ → List ℕ → ℕ → ℕ
byte_less picture last j = (get_or picture j 0 + 256 - get_or last j 0) % 256

length_less : (picture last : List ℕ) → length (less_bytes picture last) ≡ length picture
length_less picture last = length-map-range_with_len (byte_less picture last) 0 (length picture)

less_at : (picture last : List ℕ) (j : ℕ) → j < length picture → get_or (less_bytes picture last) j 0 ≡ byte_less picture last j
less_at picture last j below = get_or-map-range_with_len (byte_less picture last) 0 (length picture) j j 0 below (omega arith)

byte_same : (a b c d : List ℕ) (j k : ℕ) → get_or a j 0 ≡ get_or c k 0 → get_or b j 0 ≡ get_or d k 0 → byte_less a b j ≡ byte_less c d k
byte_same a b c d j k p q = ap (λ (n : ℕ). (n + 256 - get_or b j 0) % 256) p ∙ ap (λ (n : ℕ). (get_or c k 0 + 256 - n) % 256) q

-- the bytes before a place, and one more piece behind them
less_next : (picture last : List ℕ) (from to : ℕ) → from ≤ to → to ≤ length picture
    → less_bytes (take from picture) (take from last) ++ less_bytes (take (to - from) (drop from picture)) (take (to - from) (drop from last)) ≡ less_bytes (take to picture) (take to last)
less_next picture last from to low high =
    let front = less_bytes (take from picture) (take from last) in
    let piece = less_bytes (take (to - from) (drop from picture)) (take (to - from) (drop from last)) in
    let front_long : length front ≡ from = length_less (take from picture) (take from last) ∙ length-take-le from picture (omega (arith, low, high)) in
    let part_long : length (take (to - from) (drop from picture)) ≡ to - from = length-take-le (to - from) (drop from picture) (omega (arith, length-drop from picture, low, high)) in
    let piece_long : length piece ≡ to - from = length_less (take (to - from) (drop from picture)) (take (to - from) (drop from last)) ∙ part_long in
    let all_long : length (less_bytes (take to picture) (take to last)) ≡ to = length_less (take to picture) (take to last) ∙ length-take-le to picture high in
    let to_long : length (take to picture) ≡ to = length-take-le to picture high in
    let long : length (front ++ piece) ≡ to = omega (arith, length-append front piece, front_long, piece_long, low) in
    ext_get_or 0 (front ++ piece) (less_bytes (take to picture) (take to last)) (long ∙ sym all_long)
    (λ j below.
    let under : j < to = omega (arith, below, long) in
    let whole : get_or (less_bytes (take to picture) (take to last)) j 0 ≡ byte_less picture last j =
    less_at (take to picture) (take to last) j (omega (arith, under, to_long)) ∙ byte_same (take to picture) (take to last) picture last j j (get_or-take to picture j 0 under) (get_or-take to last j 0 under) in
    elim (cases_lt j from) [
      | inl before ↦
          get_or_append_left front piece 0 j (omega (arith, before, front_long))
          ∙ (less_at (take from picture) (take from last) j (omega (arith, before, length-take-le from picture (omega (arith, low, high))))
          ∙ (byte_same (take from picture) (take from last) picture last j j (get_or-take from picture j 0 before) (get_or-take from last j 0 before) ∙ sym whole))
      | inr after ↦
          let k = j - from in
          let in_piece : k < to - from = omega (arith, after, under) in
          let place : from + k ≡ j = omega (arith, after) in
          let byte_at : (bytes : List ℕ) → get_or (take (to - from) (drop from bytes)) k 0 ≡ get_or bytes j 0 =
          λ bytes. get_or-take (to - from) (drop from bytes) k 0 in_piece ∙ (get_or-drop from bytes k 0 ∙ ap (λ (n : ℕ). get_or bytes n 0) place) in
          get_or-append_right front piece from j 0 front_long after
          ∙ (less_at (take (to - from) (drop from picture)) (take (to - from) (drop from last)) k (omega (arith, in_piece, part_long))
          ∙ (byte_same (take (to - from) (drop from picture)) (take (to - from) (drop from last)) picture last k j (byte_at picture) (byte_at last) ∙ sym whole))
    ])

pub piece_more : (bytes old picture last : List ℕ) (from to : ℕ) → from ≤ to → to ≤ length picture → bytes ≡ old ++ less_bytes (take from picture) (take from last)
    → bytes ++ less_bytes (take (to - from) (drop from picture)) (take (to - from) (drop from last)) ≡ old ++ less_bytes (take to picture) (take to last)
piece_more bytes old picture last from to low high h =
    ap (λ (l : List ℕ). l ++ less_bytes (take (to - from) (drop from picture)) (take (to - from) (drop from last))) h
    ∙ (append_assoc old (less_bytes (take from picture) (take from last)) (less_bytes (take (to - from) (drop from picture)) (take (to - from) (drop from last)))
    ∙ ap (λ (l : List ℕ). old ++ l) (less_next picture last from to low high))

pub no_piece : (old picture last : List ℕ) → old ≡ old ++ less_bytes (take 0 picture) (take 0 last)
no_piece old picture last = sym (append-nil old)

pub all_pieces : (bytes old picture last : List ℕ) (from : ℕ) → length picture ≤ from → from ≤ length picture → length last ≡ length picture
    → bytes ≡ old ++ less_bytes (take from picture) (take from last) → bytes ≡ old ++ less_bytes picture last
all_pieces bytes old picture last from low high same h =
    h ∙ ap (λ (l : List ℕ). old ++ l) (ap (λ (l : List ℕ). less_bytes l (take from last)) (take_all from picture low) ∙ ap (less_bytes picture) (take_all from last (omega (arith, low, same))))
