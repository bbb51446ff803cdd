-- Rows that are copied into a destination.
use Rattle.std.proofs.Common.{ℕ, ◌≡◌, ◌≤◌, ◌<◌, ◌*◌, ◌+◌, ◌-◌, ◌/◌, ◌%◌, Bool, true, false, cond, List, [], ◌∷◌, ◌++◌, length, take, drop, map, get_or, refl, ap, sym, ◌∙◌, arith, inl, inr}
use Rattle.std.specs.Prelude.{◌&&◌, nat_le, nat_lt}
use Rattle.std.specs.List.{range_with_len}
use Rattle.std.proofs.lemmas.Bool.{ltb-true, leb-true, lt-ltb, le-leb, cases_lt, cases_eq, and_parts, and_from, cond-true, cond-false, false_from_ne_true}
use Rattle.std.proofs.lemmas.List.{length-append, ext_get_or, get_or_append_left, get_or-append_right, get_or-take, get_or-drop, length-take-le, length-drop}
use Rattle.std.proofs.lemmas.List.FromFn.{length-map-range_with_len, get_or-map-range_with_len}
use Rattle.std.proofs.lemmas.Nat.{div-mul-add, mod-mul-add, mod_below, div_below}
use Rattle.std.proofs.Math.Nat.{div-add-mod, mul-le-mul_left, mul_comm, mul-add, mul-one}
use borrow.Rule.Slice.PartMut.{put_mid}
use Rattle.wc_video.specs.declared.layout.PlaneCopy.{PlaneCopy}
use Rattle.wc_video.specs.Layouts.{end_of}
use Rattle.wc_video.specs.Copies.{source_of, byte_after, copy_of, IsThere}

-- bytes one by one
pub by_bytes : (f : ℕ → ℕ) (old to : List ℕ) → length to ≡ length old → ((j : ℕ) → j < length to → get_or to j 0 ≡ f j) → to ≡ map f (range_with_len 0 (length old))
by_bytes f old to long each =
    ext_get_or 0 to (map f (range_with_len 0 (length old))) (long ∙ sym (length-map-range_with_len f 0 (length old)))
    (λ j below. each j below ∙ sym (get_or-map-range_with_len f 0 (length old) j j 0 (omega (arith, below, long)) (omega arith)))

-- a byte of a part that was written, and one beside it
pub in_part : (at k : ℕ) (to piece : List ℕ) (j : ℕ) → length piece ≡ k → at + k ≤ length to → at ≤ j → j < at + k → get_or (put_mid at k to piece) j 0 ≡ get_or piece (j - at) 0
in_part at k to piece j long room low high =
    get_or-append_right (take at to) (piece ++ drop k (drop at to)) at j 0 (length-take-le at to (omega (arith, room))) low
    ∙ get_or_append_left piece (drop k (drop at to)) 0 (j - at) (omega (arith, long, low, high))

pub beside_part : (at k : ℕ) (to piece : List ℕ) (j : ℕ) → length piece ≡ k → at + k ≤ length to → (at ≤ j → j < at + k → ⊥) → get_or (put_mid at k to piece) j 0 ≡ get_or to j 0
beside_part at k to piece j long room out = elim (cases_lt j at) [
  | inl before ↦ get_or_append_left (take at to) (piece ++ drop k (drop at to)) 0 j (let l = length-take-le at to (let w : at ≤ length to = omega (arith, room) in w) in omega (arith, l, before)) ∙ get_or-take at to j 0 before
  | inr low ↦ elim (cases_lt j (at + k)) [
    | inl high ↦ absurd (out low high)
    | inr after ↦
        let place : at + (k + (j - at - k)) ≡ j = omega (arith, after) in
        get_or-append_right (take at to) (piece ++ drop k (drop at to)) at j 0 (length-take-le at to (omega (arith, room))) low
        ∙ (get_or-append_right piece (drop k (drop at to)) k (j - at) 0 long (omega (arith, after))
        ∙ (get_or-drop k (drop at to) (j - at - k) 0 ∙ (get_or-drop at to (k + (j - at - k)) 0 ∙ ap (λ (n : ℕ). get_or to n 0) place)))
  ]
]

-- a part of the picture's bytes
pub part_byte : (bytes : List ℕ) (from n i : ℕ) → i < n → get_or (take n (drop from bytes)) i 0 ≡ get_or bytes (from + i) 0
part_byte bytes from n i below = get_or-take n (drop from bytes) i 0 below ∙ get_or-drop from bytes i 0

-- the row and the column of a place
pub row_column : (o s k x j : ℕ) → j ≡ o + s * k + x → x < s → ((j - o) / s ≡ k) × ((j - o) % s ≡ x)
row_column o s k x j is below =
    let at : j - o ≡ k * s + x = omega (arith, is, mul_comm s k) in
    (ap (λ (n : ℕ). n / s) at ∙ div-mul-add k s x below, ap (λ (n : ℕ). n % s) at ∙ mod-mul-add k s x below)

abbrev pub reaches : ℕ → ℕ → ℕ → ℕ → ℕ → Bool
reaches o s k row j = nat_le o j && nat_lt ((j - o) / s) k && nat_lt ((j - o) % s) row

pub reach_parts : (o s k row j : ℕ) → reaches o s k row j ≡ true → (o ≤ j) × ((j - o) / s < k) × ((j - o) % s < row)
reach_parts o s k row j h =
    let two = and_parts (nat_le o j && nat_lt ((j - o) / s) k) (nat_lt ((j - o) % s) row) h in
    let one = and_parts (nat_le o j) (nat_lt ((j - o) / s) k) two.0 in
    (leb-true o j one.0, ltb-true ((j - o) / s) k one.1, ltb-true ((j - o) % s) row two.1)

pub reach_from : (o s k row j : ℕ) → o ≤ j → (j - o) / s < k → (j - o) % s < row → reaches o s k row j ≡ true
reach_from o s k row j low rows columns =
    and_from (nat_le o j && nat_lt ((j - o) / s) k) (nat_lt ((j - o) % s) row) (and_from (nat_le o j) (nat_lt ((j - o) / s) k) (le-leb o j low) (lt-ltb ((j - o) / s) k rows)) (lt-ltb ((j - o) % s) row columns)

same_tests : (a b : Bool) → (a ≡ true → b ≡ true) → (b ≡ true → a ≡ true) → a ≡ b
same_tests true b f g = sym (f refl)
same_tests false b f g = sym (false_from_ne_true b (λ e. let h : false ≡ true = g e in cc))

-- beside its last row, one row more writes what the rows before it write
pub reach_more : (o s k row j : ℕ) → 1 ≤ s → (o + s * k ≤ j → j < o + s * k + row → ⊥) → reaches o s (k + 1) row j ≡ reaches o s k row j
reach_more o s k row j some out =
    same_tests (reaches o s (k + 1) row j) (reaches o s k row j)
    (λ h. let (low, rows, columns) = reach_parts o s (k + 1) row j h in
    elim (cases_eq ((j - o) / s) k) [
      | inl last ↦
          let whole = div-add-mod (j - o) s in
          let at : s * ((j - o) / s) ≡ s * k = ap (λ (n : ℕ). s * n) last in
          absurd (out (omega (arith, whole, at, low)) (omega (arith, whole, at, low, columns)))
      | inr other ↦ reach_from o s k row j low (let n : (j - o) / s < k = omega (arith, rows, other) in n) columns
    ])
    (λ h. let (low, rows, columns) = reach_parts o s k row j h in reach_from o s (k + 1) row j low (omega (arith, rows)) columns)

pub reach_none : (o s row j : ℕ) → reaches o s 0 row j ≡ false
reach_none o s row j = false_from_ne_true (reaches o s 0 row j) (λ h. let (low, rows, columns) = reach_parts o s 0 row j h in omega (arith, rows))

-- before the first row nothing is written
pub no_rows : (c : PlaneCopy) (bytes old : List ℕ) (j : ℕ) → get_or old j 0 ≡ byte_after (record c { rows = 0 } ∷ []) bytes old j
no_rows c bytes old j = sym (cond-false (reaches c.layout.offset c.layout.stride 0 c.row j) (get_or bytes (source_of c j) 0) (get_or old j 0) (reach_none c.layout.offset c.layout.stride c.row j))

-- one row more
pub row_more : (c : PlaneCopy) (bytes old to piece : List ℕ) (k at len from m : ℕ) → c.row ≤ c.layout.stride → 1 ≤ c.row → at ≡ c.layout.offset + c.layout.stride * k → len ≡ c.row → from ≡ c.from + c.step * k → m ≡ c.row → from + c.row ≤ length bytes → at + c.row ≤ length to →
    piece ≡ take m (drop from bytes) → ((j : ℕ) → get_or to j 0 ≡ byte_after (record c { rows = k } ∷ []) bytes old j) → (j : ℕ) → get_or (put_mid at len to piece) j 0 ≡ byte_after (record c { rows = k + 1 } ∷ []) bytes old j
row_more c bytes old to piece k at len from m fits some is_at is_len is_from is_m there room is before j =
    let o : ℕ = c.layout.offset in
    let s : ℕ = c.layout.stride in
    let long : length piece ≡ len = ap length is ∙ (length-take-le m (drop from bytes) (let d = length-drop from bytes in omega (arith, d, is_m, there)) ∙ (is_m ∙ sym is_len)) in
    elim (cases_lt j at) [
      | inl out ↦ beside c bytes old to piece k at len some fits is_at is_len long room before j (λ low high. omega (arith, low, out))
      | inr low ↦ elim (cases_lt j (at + len)) [
        | inr out ↦ beside c bytes old to piece k at len some fits is_at is_len long room before j (λ a high. omega (arith, high, out))
        | inl high ↦
            let x : ℕ = j - at in
            let small : x < c.row = omega (arith, low, high, is_len) in
            let place : j ≡ o + s * k + x = omega (arith, low, is_at) in
            let (row, column) = row_column o s k x j place (omega (arith, small, fits)) in
            let written : reaches o s (k + 1) c.row j ≡ true = reach_from o s (k + 1) c.row j (omega (arith, low, is_at)) (omega (arith, row)) (omega (arith, column, small)) in
            let source : from + x ≡ c.from + c.step * ((j - o) / s) + (j - o) % s = let e : c.step * ((j - o) / s) ≡ c.step * k = ap (λ (n : ℕ). c.step * n) row in omega (arith, e, column, is_from) in
            in_part at len to piece j long (omega (arith, room, is_len)) low high
            ∙ (ap (λ (l : List ℕ). get_or l x 0) is ∙ (part_byte bytes from m x (omega (arith, small, is_m))
            ∙ (ap (λ (n : ℕ). get_or bytes n 0) source ∙ sym (cond-true (reaches o s (k + 1) c.row j) (get_or bytes (source_of c j) 0) (get_or old j 0) written))))
      ]
    ]
  where
    beside : (c : PlaneCopy) (bytes old to piece : List ℕ) (k at len : ℕ) → 1 ≤ c.row → c.row ≤ c.layout.stride → at ≡ c.layout.offset + c.layout.stride * k → len ≡ c.row → length piece ≡ len → at + c.row ≤ length to → ((j : ℕ) → get_or to j 0 ≡ byte_after (record c { rows = k } ∷ []) bytes old j) → (j : ℕ) → (at ≤ j → j < at + len → ⊥) → get_or (put_mid at len to piece) j 0 ≡ byte_after (record c { rows = k + 1 } ∷ []) bytes old j
    beside c bytes old to piece k at len some fits is_at is_len long room before j out =
        let same = reach_more c.layout.offset c.layout.stride k c.row j (omega (arith, some, fits)) (λ low high. out (omega (arith, low, is_at)) (omega (arith, high, is_at, is_len))) in
        beside_part at len to piece j long (omega (arith, room, is_len)) out ∙ (before j ∙ ap (λ (b : Bool). cond b (get_or bytes (source_of c j) 0) (get_or old j 0)) (sym same))

-- after the last row
pub all_rows : (c : PlaneCopy) (bytes old to : List ℕ) (k : ℕ) → k ≡ c.rows → length to ≡ length old → ((j : ℕ) → get_or to j 0 ≡ byte_after (record c { rows = k } ∷ []) bytes old j) → to ≡ copy_of (c ∷ []) bytes old
all_rows c bytes old to k last long each =
    by_bytes (byte_after (c ∷ []) bytes old) old to long (λ j below. each j ∙ ap (λ (n : ℕ). byte_after (record c { rows = n } ∷ []) bytes old j) last)

-- a byte that a plane's rows write lies in its range
pub reach_within : (o s k row j : ℕ) → row ≤ s → reaches o s k row j ≡ true → (o ≤ j) × (j < o + s * k)
reach_within o s k row j fits h =
    let (low, rows, columns) = reach_parts o s k row j h in
    let whole = div-add-mod (j - o) s in
    let more : s * ((j - o) / s + 1) ≤ s * k = mul-le-mul_left s (omega (arith, rows)) in
    let next = mul-add s ((j - o) / s) 1 in
    let one = mul-one s in
    (low, omega (arith, whole, more, next, one, columns, fits, low))

pub long_part : (at k : ℕ) (to piece : List ℕ) → length piece ≡ k → at + k ≤ length to → length (put_mid at k to piece) ≡ length to
long_part at k to piece long room =
    let front = length-take-le at to (let w : at ≤ length to = omega (arith, room) in w) in
    let all = length-append (take at to) (piece ++ drop k (drop at to)) in
    let back = length-append piece (drop k (drop at to)) in
    let rest = length-drop k (drop at to) in
    let behind = length-drop at to in
    omega (arith, front, all, back, rest, behind, long, room)

-- rows without space between them, in one piece
pub one_piece : (c : PlaneCopy) (bytes to piece : List ℕ) (n len from m : ℕ) → c.row ≡ c.layout.stride → c.row ≡ c.step → 1 ≤ c.row → len ≡ c.row * c.rows → n ≡ c.layout.offset → from ≡ c.from → m ≡ c.row * c.rows → from + m ≤ length bytes → end_of c ≤ length to → piece ≡ take m (drop from bytes) → put_mid n len to piece ≡ copy_of (c ∷ []) bytes to
one_piece c bytes to piece n len from m whole tight some is_len is_n is_from is_m there room is =
    let o : ℕ = c.layout.offset in
    let s : ℕ = c.layout.stride in
    let long : length piece ≡ len = ap length is ∙ (length-take-le m (drop from bytes) (let d = length-drop from bytes in omega (arith, d, there)) ∙ (is_m ∙ sym is_len)) in
    let size : c.row * c.rows ≡ s * c.rows = ap (λ (k : ℕ). k * c.rows) whole in
    let fits : n + len ≤ length to = omega (arith, room, size, is_len, is_n) in
    by_bytes (byte_after (c ∷ []) bytes to) to (put_mid n len to piece) (long_part n len to piece long fits) (λ j below. elim (cases_lt j n) [
      | inl before ↦ outside c bytes to piece n len j whole long fits (λ low high. omega (arith, low, before)) (λ low high. omega (arith, low, before, is_n))
      | inr low ↦ elim (cases_lt j (n + len)) [
        | inr after ↦ outside c bytes to piece n len j whole long fits (λ a high. omega (arith, high, after)) (λ a high. omega (arith, high, after, is_n, is_len, size))
        | inl high ↦
            let place : j - o < c.rows * s = omega (arith, high, low, is_len, is_n, size, mul_comm s c.rows) in
            let positive : 0 < s = omega (arith, some, whole) in
            let row : (j - o) / s < c.rows = div_below (j - o) s c.rows positive place in
            let column : (j - o) % s < c.row = omega (arith, mod_below (j - o) s positive, whole) in
            let written : reaches o s c.rows c.row j ≡ true = reach_from o s c.rows c.row j (omega (arith, low, is_n)) row column in
            let steps : c.step * ((j - o) / s) ≡ s * ((j - o) / s) = ap (λ (k : ℕ). k * ((j - o) / s)) (sym tight ∙ whole) in
            let source : from + (j - n) ≡ c.from + c.step * ((j - o) / s) + (j - o) % s = omega (arith, steps, div-add-mod (j - o) s, is_from, is_n) in
            in_part n len to piece j long fits low high
            ∙ (ap (λ (l : List ℕ). get_or l (j - n) 0) is ∙ (part_byte bytes from m (j - n) (omega (arith, low, high, is_len, is_m))
            ∙ (ap (λ (k : ℕ). get_or bytes k 0) source ∙ sym (cond-true (reaches o s c.rows c.row j) (get_or bytes (source_of c j) 0) (get_or to j 0) written))))
      ]
    ])
  where
    outside : (c : PlaneCopy) (bytes to piece : List ℕ) (n len j : ℕ) → c.row ≡ c.layout.stride → length piece ≡ len → n + len ≤ length to → (n ≤ j → j < n + len → ⊥) → (c.layout.offset ≤ j → j < c.layout.offset + c.layout.stride * c.rows → ⊥) → get_or (put_mid n len to piece) j 0 ≡ byte_after (c ∷ []) bytes to j
    outside c bytes to piece n len j whole long fits out beyond =
        let none : reaches c.layout.offset c.layout.stride c.rows c.row j ≡ false = false_from_ne_true (reaches c.layout.offset c.layout.stride c.rows c.row j) (λ h. let (low, high) = reach_within c.layout.offset c.layout.stride c.rows c.row j (omega (arith, whole)) h in beyond low high) in
        beside_part n len to piece j long fits out ∙ sym (cond-false (reaches c.layout.offset c.layout.stride c.rows c.row j) (get_or bytes (source_of c j) 0) (get_or to j 0) none)

-- the rows of a plane without space between them end where the last one does
pub piece_there : (c : PlaneCopy) (count : ℕ) → c.row ≡ c.step → IsThere count c → c.from + c.row * c.rows ≤ count
piece_there c count tight t =
    let k : ℕ = c.rows - 1 in
    let last : c.from + c.step * k + c.row ≤ count = t.each k (omega (arith, t.any)) in
    let steps : c.step * k ≡ c.row * k = ap (λ (n : ℕ). n * k) (sym tight) in
    let all : c.row * c.rows ≡ c.row * k + c.row = ap (λ (n : ℕ). c.row * n) (let e : c.rows ≡ k + 1 = omega (arith, t.any) in e) ∙ (mul-add c.row k 1 ∙ ap (λ (n : ℕ). c.row * k + n) (mul-one c.row)) in
    omega (arith, last, steps, all)

-- the last byte of a row that is written
pub last_room : (s row k rows : ℕ) → row ≤ s → k < rows → s * k + row ≤ s * rows
last_room s row k rows fits below =
    let more : s * (k + 1) ≤ s * rows = mul-le-mul_left s (omega (arith, below)) in
    let next = mul-add s k 1 in
    let one = mul-one s in
    omega (arith, more, next, one, fits)
