-- Parts, rows and tables.
use Rattle.std.proofs.Common.{ℕ, zero, suc, ◌≡◌, ◌<◌, ◌≤◌, ◌+◌, ◌-◌, ◌*◌, List, [], ◌∷◌, ◌++◌, length, take, drop, map, true, false, cond, inl, inr, refl, ap, sym, subst, ◌∙◌, append_assoc, append-nil, add-zero, zero-add, sum_by, arith, Bool}
use Rattle.std.specs.List.{flat_map, range_with_len}
use Rattle.std.proofs.Math.Nat.{mul-le-mul_right}
use Rattle.std.proofs.lemmas.Bool.{cases_lt}
use Rattle.std.proofs.lemmas.List.{take_at, drop_at, drop-drop, length-append}
use Rattle.std.proofs.lemmas.List.FromFn.{length-map-range_with_len, map-range_with_len_more}
use Rattle.std.proofs.lemmas.List.Sums.{sum_by-append}
use Rattle.flac_definitions.specs.Plans.{fits, finest, part_of}
use Rattle.flac_plans.specs.Search.{row, table, quotients, IsWindow}
use Rattle.flac_plans.proofs.Windows.{window_wider, window_joined}

-- ---- partition orders

finest_more : (b o p : ℕ) → finest b o (suc p) ≡ cond (fits b o (suc p)) (suc p) (finest b o p)
unfolding finest
finest_more b o p = refl

pub finest_none : (b o : ℕ) → finest b o 0 ≡ 0
unfolding finest
finest_none b o = refl

pub finest_here : (b o p : ℕ) → 0 < p → fits b o p ≡ true → p ≡ finest b o p
finest_here b o zero some e = absurd (omega (arith, some))
finest_here b o (suc p) some e = sym (finest_more b o p ∙ ap (λ (t : Bool). cond t (suc p) (finest b o p)) e)

pub finest_below : (b o p : ℕ) → 0 < p → fits b o p ≡ false → finest b o (p - 1) ≡ finest b o p
finest_below b o zero some e = absurd (omega (arith, some))
finest_below b o (suc p) some e = ap (finest b o) (omega arith) ∙ sym (finest_more b o p ∙ ap (λ (t : Bool). cond t (suc p) (finest b o p)) e)

-- ---- rows

pub rows_more : {A : Type 0} (f : ℕ → List A) (a n j : ℕ) → a + n ≡ j → flat_map f (range_with_len a (suc n)) ≡ flat_map f (range_with_len a n) ++ f j
rows_more f a zero j e = append-nil (f a) ∙ ap f (sym (add-zero a) ∙ e)
rows_more {A} f a (suc n) j e = ap (λ (l : List A). f a ++ l) (rows_more f (a + 1) n j (omega (arith, e))) ∙ sym (append_assoc (f a) (flat_map f (range_with_len (a + 1) n)) (f j))

pub one_more : {A : Type 0} (f : ℕ → List A) (n : ℕ) → flat_map f (range_with_len 0 (n + 1)) ≡ flat_map f (range_with_len 0 n) ++ f n
one_more {A} f n = (let e : n + 1 ≡ suc n = omega arith in ap (λ (k : ℕ). flat_map f (range_with_len 0 k)) e) ∙ rows_more f 0 n n (zero-add n)

rows_at : (f : ℕ → List ℕ) (w : ℕ) → ((j : ℕ) → length (f j) ≡ w) → (a n j : ℕ) → j < n → take w (drop (j * w) (flat_map f (range_with_len a n))) ≡ f (a + j)
rows_at f w e a zero j l = absurd (omega (arith, l))
rows_at f w e a (suc n) zero l =
    let rest = flat_map f (range_with_len (a + 1) n) in
    let none : zero * w ≡ 0 = omega arith in
    ap (λ (k : ℕ). take w (drop k (f a ++ rest))) none ∙ (take_at (f a) rest w (e a) ∙ ap f (sym (add-zero a)))
rows_at f w e a (suc n) (suc j) l =
    let rest = flat_map f (range_with_len (a + 1) n) in
    let split : suc j * w ≡ w + j * w = omega arith in
    let here : a + 1 + j ≡ a + suc j = omega arith in
    ap (λ (k : ℕ). take w (drop k (f a ++ rest))) split ∙ (ap (take w) (sym (drop-drop (j * w) w (f a ++ rest)) ∙ ap (drop (j * w)) (drop_at (f a) rest w (e a))) ∙ (rows_at f w e (a + 1) n j (omega (arith, l)) ∙ ap f here))

length_rows : (f : ℕ → List ℕ) (w : ℕ) → ((j : ℕ) → length (f j) ≡ w) → (a n : ℕ) → length (flat_map f (range_with_len a n)) ≡ n * w
length_rows f w e a zero = omega arith
length_rows f w e a (suc n) = length-append (f a) (flat_map f (range_with_len (a + 1) n)) ∙ omega (arith, e a, length_rows f w e (a + 1) n)

row_length : (low w size order : ℕ) (zs : List ℕ) (j : ℕ) → length (row low w (part_of size order zs j)) ≡ w
row_length low w size order zs j = length-map-range_with_len (λ (c : ℕ). quotients (low + c) (part_of size order zs j)) 0 w

pub table_length : (low w size order : ℕ) (zs sums : List ℕ) (parts : ℕ) → sums ≡ table low w size order zs parts → length sums ≡ parts * w
table_length low w size order zs sums parts e = ap (λ (l : List ℕ). length l) e ∙ length_rows (λ (j : ℕ). row low w (part_of size order zs j)) w (row_length low w size order zs) 0 parts

pub row_there : (low w size order : ℕ) (zs sums got : List ℕ) (parts j : ℕ) → sums ≡ table low w size order zs parts → j < parts → got ≡ take w (drop (j * w) sums) → got ≡ row low w (part_of size order zs j)
row_there low w size order zs sums got parts j e l is =
    is ∙ (ap (λ (s : List ℕ). take w (drop (j * w) s)) e ∙ (rows_at (λ (j : ℕ). row low w (part_of size order zs j)) w (row_length low w size order zs) 0 parts j l ∙ ap (λ (i : ℕ). row low w (part_of size order zs i)) (zero-add j)))

pub row_room : (w parts j count : ℕ) → count ≡ parts * w → j < parts → (j + 1) * w ≤ count
row_room w parts j count e l = (let up : (j + 1) * w ≤ parts * w = mul-le-mul_right w (omega (arith, l)) in omega (arith, up, e))

-- ---- parts

take_nil : (n : ℕ) → take n (let none : List ℕ = [] in none) ≡ []
take_nil zero = refl
take_nil (suc n) = refl

take-add : (m n : ℕ) (ys : List ℕ) → take (m + n) ys ≡ take m ys ++ take n (drop m ys)
take-add zero n ys = ap (λ (k : ℕ). take k ys) (zero-add n)
take-add (suc m) n [] = (let e : suc m + n ≡ suc (m + n) = omega arith in ap (λ (k : ℕ). take k []) e) ∙ sym (take_nil n)
take-add (suc m) n (y ∷ ys) = (let e : suc m + n ≡ suc (m + n) = omega arith in ap (λ (k : ℕ). take k (y ∷ ys)) e) ∙ ap (λ (l : List ℕ). y ∷ l) (take-add m n ys)

pieces : (b m e : ℕ) (zs : List ℕ) → b ≤ m → m ≤ e → take (e - b) (drop b zs) ≡ take (m - b) (drop b zs) ++ take (e - m) (drop m zs)
pieces b m e zs l h =
    let ys = drop b zs in
    let at : b + (m - b) ≡ m = omega (arith, l) in
    let rest : drop (m - b) ys ≡ drop m zs = drop-drop (m - b) b zs ∙ ap (λ (k : ℕ). drop k zs) at in
    let count : e - b ≡ (m - b) + (e - m) = omega (arith, l, h) in
    ap (λ (k : ℕ). take k ys) count ∙ (take-add (m - b) (e - m) ys ∙ ap (λ (l : List ℕ). take (m - b) ys ++ take (e - m) l) rest)

pub part_joined : (size order : ℕ) (zs : List ℕ) (j : ℕ) → part_of (2 * size) order zs j ≡ part_of size order zs (2 * j) ++ part_of size order zs (2 * j + 1)
part_joined size order zs j =
    let b = 2 * j * size - order in
    let m = (2 * j + 1) * size - order in
    let e = (2 * j + 1 + 1) * size - order in
    let begin : j * (2 * size) - order ≡ b = omega arith in
    let end : (j + 1) * (2 * size) - order ≡ e = omega arith in
    let up : b ≤ m = omega arith in
    let over : m ≤ e = omega arith in
    ap (λ (k : ℕ). take ((j + 1) * (2 * size) - order - k) (drop k zs)) begin ∙ (ap (λ (k : ℕ). take (k - b) (drop b zs)) end ∙ pieces b m e zs up over)

-- ---- windows of all parts

pub windows_more : (low high a b size order : ℕ) (zs got : List ℕ) (n : ℕ) → ((j : ℕ) → j < n → IsWindow low high (part_of size order zs j)) → a ≤ low → high ≤ b → IsWindow a b got → got ≡ part_of size order zs n → (j : ℕ) → j < n + 1 → IsWindow a b (part_of size order zs j)
windows_more low high a b size order zs got n so_far l h here is j less = elim (cases_lt j n) [
  | inl s ↦ window_wider low high a b (part_of size order zs j) (so_far j s) l h
  | inr g ↦ (let same : n ≡ j = omega (arith, g, less) in subst (λ (ys : List ℕ). IsWindow a b ys) (is ∙ ap (part_of size order zs) same) here)
]

pub windows_joined : (low high size order : ℕ) (zs : List ℕ) (parts : ℕ) → ((j : ℕ) → j < 2 * parts → IsWindow low high (part_of size order zs j)) → (j : ℕ) → j < parts → IsWindow low high (part_of (2 * size) order zs j)
windows_joined low high size order zs parts w j l =
    subst (λ (ys : List ℕ). IsWindow low high ys) (sym (part_joined size order zs j)) (window_joined low high (part_of size order zs (2 * j)) (part_of size order zs (2 * j + 1)) (w (2 * j) (omega (arith, l))) (w (2 * j + 1) (omega (arith, l))))

pub table_joined : (low w size order : ℕ) (zs : List ℕ) (j : ℕ) (left right : List ℕ) → left ≡ part_of size order zs (2 * j) → right ≡ part_of size order zs (2 * j + 1) → row low w (left ++ right) ≡ row low w (part_of (2 * size) order zs j)
table_joined low w size order zs j left right a b = ap (row low w) (ap (λ (l : List ℕ). l ++ right) a ∙ (ap (λ (l : List ℕ). part_of size order zs (2 * j) ++ l) b ∙ sym (part_joined size order zs j)))

-- ---- sums over parts

pub sum_more : (f : ℕ → ℕ) (a n j : ℕ) → a + n ≡ j → sum_by f (range_with_len a (suc n)) ≡ sum_by f (range_with_len a n) + f j
sum_more f a zero j e = sum_by-append f (a ∷ []) [] ∙ omega (arith, ap f (sym (add-zero a) ∙ e))
sum_more f a (suc n) j e = sum_by-append f (a ∷ []) (range_with_len (a + 1) (suc n)) ∙ omega (arith, sum_more f (a + 1) n j (omega (arith, e)), sum_by-append f (a ∷ []) (range_with_len (a + 1) n))

pub one_more_sum : (f : ℕ → ℕ) (n : ℕ) → sum_by f (range_with_len 0 (n + 1)) ≡ sum_by f (range_with_len 0 n) + f n
one_more_sum f n = (let e : n + 1 ≡ suc n = omega arith in ap (λ (k : ℕ). sum_by f (range_with_len 0 k)) e) ∙ sum_more f 0 n n (zero-add n)

pub parameters_more : (f : ℕ → ℕ) (now next : List ℕ) (j x : ℕ) → now ≡ map f (range_with_len 0 j) → next ≡ now ++ x ∷ [] → x ≡ f j → next ≡ map f (range_with_len 0 (j + 1))
parameters_more f now next j x so_far added is =
    added ∙ (ap (λ (l : List ℕ). l ++ x ∷ []) so_far ∙ (ap (λ (y : ℕ). map f (range_with_len 0 j) ++ y ∷ []) is ∙ sym (map-range_with_len_more f 0 j j (zero-add j))))

pub bits_more : (f : ℕ → ℕ) (now x j : ℕ) → now ≡ 6 + sum_by f (range_with_len 0 j) → 4 + x ≡ f j → now + (4 + x) ≡ 6 + sum_by f (range_with_len 0 (j + 1))
bits_more f now x j so_far is = omega (arith, so_far, is, one_more_sum f j)
