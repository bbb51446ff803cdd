-- Where the parameter with the fewest bits is.
use Rattle.std.proofs.Common.{ℕ, zero, suc, ◌≡◌, ◌<◌, ◌≤◌, ◌+◌, ◌-◌, ◌*◌, ◌/◌, ◌%◌, ◌^◌, List, [], ◌∷◌, ◌++◌, length, take, drop, nat_lt, cond, inl, inr, refl, ap, sym, subst, ◌∙◌, zero-add, sum_by, arith, lit<}
use Rattle.std.proofs.Math.Nat.{mul-le-mul_left, div-add-mod, pow-le-pow_right}
use Rattle.std.proofs.Common.{get_or, append_assoc, Fits, w32}
use Rattle.std.proofs.Math.Facts.{Fits-lt-pow}
use Rattle.std.specs.List.{All}
use Rattle.std.proofs.lemmas.List.Elements.{All-from_get_or}
use Rattle.std.proofs.lemmas.List.FromFn.{get_or-map-range_with_len, map-range_with_len_more}
use Rattle.std.proofs.lemmas.Bool.{cases_lt, lt-ltb, le-ltb}
use Rattle.std.proofs.lemmas.Nat.{pow_pos, shr-shr, shr_le, mod_below}
use Rattle.std.proofs.lemmas.List.{length-append, take-append-drop, drop_more}
use Rattle.std.proofs.lemmas.List.Sums.{sum_by-append}
use Rattle.flac_definitions.specs.Plans.{value_size, cost, first_least}
use Rattle.flac_plans.specs.Search.{quotients, total, IsFirstLeast, IsWindow, row}

-- ---- sums over lists, taken apart

pub sum_cons : (f : ℕ → ℕ) (z : ℕ) (zs : List ℕ) → sum_by f (z ∷ zs) ≡ f z + sum_by f zs
sum_cons f z zs = sum_by-append f (z ∷ []) zs ∙ omega arith

pub cost_is : (k : ℕ) (zs : List ℕ) → cost k zs ≡ quotients k zs + length zs * (1 + k)
cost_is k [] = omega arith
cost_is k (z ∷ zs) = sum_cons (value_size k) z zs ∙ omega (arith, cost_is k zs, sum_cons (λ (x : ℕ). x / 2 ^ k) z zs)

-- ---- the next parameter has fewer bits where the sum is large, and no fewer where it is small

halved : (k z : ℕ) → z / 2 ^ suc k ≡ z / 2 ^ k / 2
halved k z = ap (λ (n : ℕ). z / 2 ^ n) (omega arith) ∙ sym (shr-shr z k 1)

-- with p = 2^k, x = z / p and y = x / 2
large_one : (p x y z r : ℕ) → z ≡ p * x + r → r < p → y ≡ x / 2 → z + 1 + 2 * p * y ≤ p + 2 * p * x
large_one p x y z r e small h =
    let half : 2 * y ≤ x = omega (arith, h) in
    let up : p * (2 * y) ≤ p * x = mul-le-mul_left p half in
    omega (arith, up, e, small)

small_one : (p x y z r : ℕ) → z ≡ p * x + r → y ≡ x / 2 → 2 * p * x ≤ z + p + 2 * p * y
small_one p x y z r e h =
    let half : x ≤ 2 * y + 1 = omega (arith, h) in
    let up : p * x ≤ p * (2 * y + 1) = mul-le-mul_left p half in
    omega (arith, up, e)

split : (k z : ℕ) → z ≡ 2 ^ k * (z / 2 ^ k) + z % 2 ^ k
split k z = sym (div-add-mod z (2 ^ k))

large : (k : ℕ) (zs : List ℕ) → total zs + length zs + 2 * 2 ^ k * quotients (suc k) zs ≤ length zs * 2 ^ k + 2 * 2 ^ k * quotients k zs
large k [] = omega arith
large k (z ∷ zs) =
    let p = 2 ^ k in
    let x = z / 2 ^ k in
    let y = z / 2 ^ suc k in
    let one = large_one p x y z (z % 2 ^ k) (split k z) (mod_below z (2 ^ k) (pow_pos k)) (halved k z) in
    let rest = large k zs in
    let a : total (z ∷ zs) ≡ z + total zs = sum_cons (λ (v : ℕ). v) z zs in
    let b : 2 * p * quotients (suc k) (z ∷ zs) ≡ 2 * p * y + 2 * p * quotients (suc k) zs = ap (λ (n : ℕ). 2 * p * n) (sum_cons (λ (v : ℕ). v / 2 ^ suc k) z zs) ∙ omega arith in
    let c : 2 * p * quotients k (z ∷ zs) ≡ 2 * p * x + 2 * p * quotients k zs = ap (λ (n : ℕ). 2 * p * n) (sum_cons (λ (v : ℕ). v / 2 ^ k) z zs) ∙ omega arith in
    let d : length (z ∷ zs) * p ≡ length zs * p + p = omega arith in
    omega (arith, one, rest, a, b, c, d)

small : (k : ℕ) (zs : List ℕ) → 2 * 2 ^ k * quotients k zs ≤ total zs + length zs * 2 ^ k + 2 * 2 ^ k * quotients (suc k) zs
small k [] = omega arith
small k (z ∷ zs) =
    let p = 2 ^ k in
    let x = z / 2 ^ k in
    let y = z / 2 ^ suc k in
    let one = small_one p x y z (z % 2 ^ k) (split k z) (halved k z) in
    let rest = small k zs in
    let a : total (z ∷ zs) ≡ z + total zs = sum_cons (λ (v : ℕ). v) z zs in
    let b : 2 * p * quotients (suc k) (z ∷ zs) ≡ 2 * p * y + 2 * p * quotients (suc k) zs = ap (λ (n : ℕ). 2 * p * n) (sum_cons (λ (v : ℕ). v / 2 ^ suc k) z zs) ∙ omega arith in
    let c : 2 * p * quotients k (z ∷ zs) ≡ 2 * p * x + 2 * p * quotients k zs = ap (λ (n : ℕ). 2 * p * n) (sum_cons (λ (v : ℕ). v / 2 ^ k) z zs) ∙ omega arith in
    let d : length (z ∷ zs) * p ≡ length zs * p + p = omega arith in
    omega (arith, one, rest, a, b, c, d)

-- numbers: a product by 2 * p is cancelled
fewer : (p n x y t : ℕ) → 0 < n → 3 * n * p ≤ t → t + n + 2 * p * y ≤ n * p + 2 * p * x → y + n < x
fewer p n x y t some much sum = elim (cases_lt (y + n) x) [
  | inl l ↦ l
  | inr g ↦ (let up : 2 * p * x ≤ 2 * p * (y + n) = mul-le-mul_left (2 * p) g in absurd (omega (arith, up, much, sum, some)))
]

no_fewer : (p n x y t : ℕ) → 0 < p → t ≤ n * p → 2 * p * x ≤ t + n * p + 2 * p * y → x ≤ y + n
no_fewer p n x y t pos little sum = elim (cases_lt (y + n) x) [
  | inl l ↦ (let up : 2 * p * (y + n + 1) ≤ 2 * p * x = mul-le-mul_left (2 * p) (omega (arith, l)) in absurd (omega (arith, up, little, sum, pos)))
  | inr g ↦ g
]

-- below the window each next parameter has fewer bits, from its end on no fewer
falls : (k : ℕ) (zs : List ℕ) → 0 < length zs → 3 * length zs * 2 ^ k ≤ total zs → cost (suc k) zs < cost k zs
falls k zs some much =
    let n = length zs in
    let less : quotients (suc k) zs + n < quotients k zs = fewer (2 ^ k) n (quotients k zs) (quotients (suc k) zs) (total zs) some much (large k zs) in
    omega (arith, less, cost_is k zs, cost_is (suc k) zs)

rises : (k : ℕ) (zs : List ℕ) → total zs ≤ length zs * 2 ^ k → cost k zs ≤ cost (suc k) zs
rises k zs little =
    let n = length zs in
    let more : quotients k zs ≤ quotients (suc k) zs + n = no_fewer (2 ^ k) n (quotients k zs) (quotients (suc k) zs) (total zs) (pow_pos k) little (small k zs) in
    omega (arith, more, cost_is k zs, cost_is (suc k) zs)

-- ---- chains

same_le : (f : ℕ → ℕ) (b a k : ℕ) → a ≡ k → f b ≤ f a → f b ≤ f k
same_le f b a k e l = subst (λ (n : ℕ). f b ≤ f n) e l

same_lt : (f : ℕ → ℕ) (b a k : ℕ) → a ≡ k → f b < f a → f b < f k
same_lt f b a k e l = subst (λ (n : ℕ). f b < f n) e l

falls_to : (f : ℕ → ℕ) (low k d : ℕ) → ((j : ℕ) → j < low → f (suc j) < f j) → k + d ≡ low → 0 < d → f low < f k
falls_to f low k zero step e some = absurd (omega (arith, some))
falls_to f low k (suc zero) step e some = (let same : suc k ≡ low = omega (arith, e) in subst (λ (n : ℕ). f n < f k) same (step k (omega (arith, e))))
falls_to f low k (suc (suc d)) step e some =
    let next = falls_to f low (suc k) (suc d) step (omega (arith, e)) (omega arith) in
    omega (arith, next, step k (omega (arith, e)))

rises_to : (f : ℕ → ℕ) (high d : ℕ) → ((j : ℕ) → high ≤ j → j < high + d → f j ≤ f (suc j)) → f high ≤ f (high + d)
rises_to f high zero step = same_le f high high (high + zero) (omega arith) (omega arith)
rises_to f high (suc d) step =
    let before = rises_to f high d (λ j a b. step j a (omega (arith, b))) in
    let last : f (high + d) ≤ f (suc (high + d)) = step (high + d) (omega arith) (omega arith) in
    same_le f high (suc (high + d)) (high + suc d) (omega arith) (omega (arith, before, last))

pub widened : (f : ℕ → ℕ) (low high most best : ℕ) → ((j : ℕ) → j < low → f (suc j) < f j) → ((j : ℕ) → high ≤ j → j < most → f j ≤ f (suc j)) → low ≤ high → high ≤ most → IsFirstLeast f low high best → IsFirstLeast f 0 most best
widened f low high most best down up order within b = record {
  from_le = omega arith;
  to_ge = omega (arith, b.to_ge, within);
  least = λ k z m. elim (cases_lt k low) [
    | inl l ↦ (let fall = falls_to f low k (low - k) down (omega (arith, l)) (omega (arith, l)) in omega (arith, fall, b.least low (omega arith) order))
    | inr g ↦ elim (cases_lt high k) [
      | inl a ↦ (let rise = rises_to f high (k - high) (λ j p q. up j p (omega (arith, q, m, a))) in
          let here : f high ≤ f k = same_le f high (high + (k - high)) k (omega (arith, a)) rise in
          omega (arith, here, b.least high order (omega arith)))
      | inr c ↦ b.least k g c
    ]
  ];
  first = λ k z m. elim (cases_lt k low) [
    | inl l ↦ (let fall = falls_to f low k (low - k) down (omega (arith, l)) (omega (arith, l)) in omega (arith, fall, b.least low (omega arith) order))
    | inr g ↦ b.first k g m
  ];
}

-- ---- the first least

one_best : (f : ℕ → ℕ) (from to a b : ℕ) → IsFirstLeast f from to a → IsFirstLeast f from to b → a ≡ b
one_best f from to a b p q = elim (cases_lt a b) [
  | inl l ↦ absurd (omega (arith, q.first a p.from_le l, p.least b q.from_le q.to_ge))
  | inr g ↦ elim (cases_lt b a) [
    | inl m ↦ absurd (omega (arith, p.first b q.from_le m, q.least a p.from_le p.to_ge))
    | inr h ↦ omega (arith, g, h)
  ]
]

first_none : (f : ℕ → ℕ) → first_least f 0 ≡ 0
unfolding first_least
first_none f = refl

pub first_more : (f : ℕ → ℕ) (n : ℕ) → first_least f (suc n) ≡ cond (nat_lt (f (suc n)) (f (first_least f n))) (suc n) (first_least f n)
unfolding first_least
first_more f n = refl

pub one_first : (f : ℕ → ℕ) (a : ℕ) → IsFirstLeast f a a a
one_first f a = record {
  from_le = omega arith;
  to_ge = omega arith;
  least = λ k l m. same_le f a a k (omega (arith, l, m)) (omega arith);
  first = λ k l m. absurd (omega (arith, l, m));
}

pub takes_next : (f : ℕ → ℕ) (from to best : ℕ) → IsFirstLeast f from to best → f (suc to) < f best → IsFirstLeast f from (suc to) (suc to)
takes_next f from to best b less = record {
  from_le = omega (arith, b.from_le, b.to_ge);
  to_ge = omega arith;
  least = λ k l m. elim (cases_lt k (suc to)) [
    | inl s ↦ omega (arith, b.least k l (omega (arith, s)), less)
    | inr g ↦ same_le f (suc to) (suc to) k (omega (arith, m, g)) (omega arith)
  ];
  first = λ k l m. omega (arith, b.least k l (omega (arith, m)), less);
}

pub keeps_best : (f : ℕ → ℕ) (from to best : ℕ) → IsFirstLeast f from to best → f best ≤ f (suc to) → IsFirstLeast f from (suc to) best
keeps_best f from to best b more = record {
  from_le = b.from_le;
  to_ge = omega (arith, b.to_ge);
  least = λ k l m. elim (cases_lt k (suc to)) [
    | inl s ↦ b.least k l (omega (arith, s))
    | inr g ↦ same_le f best (suc to) k (omega (arith, m, g)) more
  ];
  first = b.first;
}

-- one more in front
pub takes_front : (f : ℕ → ℕ) (from to best : ℕ) → IsFirstLeast f (suc from) to best → f from ≤ f best → IsFirstLeast f from to from
takes_front f from to best b less = record {
  from_le = omega arith;
  to_ge = omega (arith, b.from_le, b.to_ge);
  least = λ k l m. elim (cases_lt from k) [
    | inl s ↦ omega (arith, b.least k (omega (arith, s)) m, less)
    | inr g ↦ same_le f from from k (omega (arith, l, g)) (omega arith)
  ];
  first = λ k l m. absurd (omega (arith, l, m));
}

pub keeps_front : (f : ℕ → ℕ) (from to best : ℕ) → IsFirstLeast f (suc from) to best → f best < f from → IsFirstLeast f from to best
keeps_front f from to best b more = record {
  from_le = omega (arith, b.from_le);
  to_ge = b.to_ge;
  least = λ k l m. elim (cases_lt from k) [
    | inl s ↦ b.least k (omega (arith, s)) m
    | inr g ↦ same_le f best from k (omega (arith, l, g)) (omega (arith, more))
  ];
  first = λ k l m. elim (cases_lt from k) [
    | inl s ↦ b.first k (omega (arith, s)) m
    | inr g ↦ same_lt f best from k (omega (arith, l, g)) more
  ];
}

pub is_first : (f : ℕ → ℕ) (n : ℕ) → IsFirstLeast f 0 n (first_least f n)
is_first f zero = subst (λ (b : ℕ). IsFirstLeast f 0 0 b) (sym (first_none f)) (one_first f 0)
is_first f (suc n) = elim (cases_lt (f (suc n)) (f (first_least f n))) [
  | inl l ↦ rw (first_more f n, lt-ltb (f (suc n)) (f (first_least f n)) l) (takes_next f 0 n (first_least f n) (is_first f n) l)
  | inr g ↦ rw (first_more f n, le-ltb (f (suc n)) (f (first_least f n)) g) (keeps_best f 0 n (first_least f n) (is_first f n) g)
]

pub first_is : (f : ℕ → ℕ) (n best : ℕ) → IsFirstLeast f 0 n best → first_least f n ≡ best
first_is f n best b = one_best f 0 n (first_least f n) best (is_first f n) b

-- ---- windows

pub in_window : (low high : ℕ) (zs : List ℕ) (best : ℕ) → IsWindow low high zs → low ≤ high → high ≤ 14 → IsFirstLeast (λ (k : ℕ). cost k zs) low high best → first_least (λ (k : ℕ). cost k zs) 14 ≡ best
in_window low high zs best w order most b =
    first_is (λ (k : ℕ). cost k zs) 14 best (widened (λ (k : ℕ). cost k zs) low high 14 best
    (λ j l. falls j zs w.some (let up : 3 * length zs * 2 ^ j ≤ 3 * length zs * 2 ^ (low - 1) = mul-le-mul_left (3 * length zs) (pow-le-pow_right (lit< tt) (omega (arith, l))) in omega (arith, up, w.above (omega (arith, l)))))
    (λ j l m. rises j zs (let up : length zs * 2 ^ high ≤ length zs * 2 ^ j = mul-le-mul_left (length zs) (pow-le-pow_right (lit< tt) l) in omega (arith, up, w.below (omega (arith, l, m)))))
    order most b)

pub window_wider : (low high a b : ℕ) (zs : List ℕ) → IsWindow low high zs → a ≤ low → high ≤ b → IsWindow a b zs
window_wider low high a b zs w l h = record {
  some = w.some;
  above = λ s. let up : 3 * length zs * 2 ^ (a - 1) ≤ 3 * length zs * 2 ^ (low - 1) = mul-le-mul_left (3 * length zs) (pow-le-pow_right (lit< tt) (omega (arith, l))) in omega (arith, up, w.above (omega (arith, s, l)));
  below = λ s. let up : length zs * 2 ^ high ≤ length zs * 2 ^ b = mul-le-mul_left (length zs) (pow-le-pow_right (lit< tt) h) in omega (arith, up, w.below (omega (arith, s, h)));
}

pub window_joined : (low high : ℕ) (xs ys : List ℕ) → IsWindow low high xs → IsWindow low high ys → IsWindow low high (xs ++ ys)
window_joined low high xs ys v w =
    let n : length (xs ++ ys) ≡ length xs + length ys = length-append xs ys in
    let t : total (xs ++ ys) ≡ total xs + total ys = sum_by-append (λ (z : ℕ). z) xs ys in
    record {
      some = omega (arith, n, v.some);
      above = λ s. rw (n, t) (omega (arith, v.above s, w.above s));
      below = λ s. rw (n, t) (omega (arith, v.below s, w.below s));
    }

-- ---- bounds

abbrev pub AreWords : List ℕ → Type 0
AreWords zs = All (λ (z : ℕ). z < 2 ^ 32) zs

pub are_words : (zs : List ℕ) → ((i : ℕ) → Fits w32 (get_or zs i 0)) → AreWords zs
are_words zs fit = All-from_get_or (λ (z : ℕ). z < 2 ^ 32) zs 0 (λ i short. Fits-lt-pow (fit i))

pub quotients_bound : (k : ℕ) (zs : List ℕ) → AreWords zs → quotients k zs ≤ length zs * 2 ^ 32
quotients_bound k [] w = omega arith
quotients_bound k (z ∷ zs) w =
    let first : z < 2 ^ 32 = w 0 0 (omega arith) in
    let rest : quotients k zs ≤ length zs * 2 ^ 32 = quotients_bound k zs (λ i d l. w (suc i) d (omega (arith, l))) in
    let low : z / 2 ^ k ≤ z = shr_le z k in
    omega (arith, first, rest, low, sum_cons (λ (v : ℕ). v / 2 ^ k) z zs)

-- what a row has at a place
pub row_at : (low width : ℕ) (zs sums : List ℕ) (c x : ℕ) → sums ≡ row low width zs → c < width → x ≡ get_or sums c 0 → x ≡ quotients (low + c) zs
row_at low width zs sums c x e l is = is ∙ (ap (λ (s : List ℕ). get_or s c 0) e ∙ get_or-map-range_with_len (λ (i : ℕ). quotients (low + i) zs) 0 width c c 0 l (omega arith))

pub row_more : (low c : ℕ) (zs first now next : List ℕ) (x : ℕ) → now ≡ first ++ row low c zs → next ≡ now ++ x ∷ [] → x ≡ quotients (low + c) zs → next ≡ first ++ row low (c + 1) zs
row_more low c zs first now next x so_far added is =
    added ∙ (ap (λ (l : List ℕ). l ++ x ∷ []) so_far ∙ (append_assoc first (row low c zs) (x ∷ []) ∙ ap (λ (l : List ℕ). first ++ l) (ap (λ (y : ℕ). row low c zs ++ y ∷ []) is ∙ sym (map-range_with_len_more (λ (i : ℕ). quotients (low + i) zs) 0 c c (zero-add c)))))

pub quotients_none : (zs : List ℕ) → quotients 0 zs ≡ total zs
quotients_none [] = refl
quotients_none (z ∷ zs) = sum_cons (λ (x : ℕ). x / 2 ^ 0) z zs ∙ omega (arith, quotients_none zs, sum_cons (λ (x : ℕ). x) z zs)

lower : (low k : ℕ) (zs : List ℕ) → low ≤ k → quotients k zs ≤ quotients low zs
lower low k [] l = omega arith
lower low k (z ∷ zs) l =
    let step : low + (k - low) ≡ k = omega (arith, l) in
    let same : z / 2 ^ k ≡ z / 2 ^ low / 2 ^ (k - low) = ap (λ (n : ℕ). z / 2 ^ n) (sym step) ∙ sym (shr-shr z low (k - low)) in
    omega (arith, same, shr_le (z / 2 ^ low) (k - low), lower low k zs l, sum_cons (λ (x : ℕ). x / 2 ^ k) z zs, sum_cons (λ (x : ℕ). x / 2 ^ low) z zs)

-- a part of a sum that fits 32 bits fits
pub prefix_small : (low k i : ℕ) (zs : List ℕ) → low ≤ k → quotients low zs < 2 ^ 32 → i < length zs → quotients k (take i zs) + get_or zs i 0 / 2 ^ k < 2 ^ 32
prefix_small low k i zs l small less =
    let f : ℕ → ℕ = λ (x : ℕ). x / 2 ^ k in
    let split : take i zs ++ drop i zs ≡ zs = take-append-drop i zs in
    let whole : quotients k zs ≡ quotients k (take i zs) + quotients k (drop i zs) = ap (quotients k) (sym split) ∙ sum_by-append f (take i zs) (drop i zs) in
    let rest : quotients k (drop i zs) ≡ get_or zs i 0 / 2 ^ k + quotients k (drop (i + 1) zs) = ap (quotients k) (drop_more zs i 0 less) ∙ sum_cons f (get_or zs i 0) (drop (i + 1) zs) in
    omega (arith, whole, rest, lower low k zs l, small)
