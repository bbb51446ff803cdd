-- The place at which a codec asked last for a box.
use Rattle.std.proofs.Common.{ℕ, zero, suc, ◌+◌, ◌≡◌, ◌≤◌, ◌<◌, true, List, [], ◌∷◌, ◌++◌, length, take, Option, is_some, refl, ap, ◌∙◌, arith}
use Rattle.std.specs.Prelude.{slice_get, option_and_then}
use Rattle.codec_accounts.specs.Boxes.{Act, Asks, Begins, Ends, Removes, Other, asks_of, asks_in}

abbrev pub ask_after : Act → ℕ → ℕ → ℕ
ask_after (Asks id) place best = place
ask_after Begins place best = best
ask_after Ends place best = best
ask_after Removes place best = best
ask_after Other place best = best

abbrev pub latest_from : ℕ → ℕ → List Act → ℕ
latest_from place best [] = best
latest_from place best (a ∷ rest) = latest_from (suc place) (ask_after a place best) rest

-- the last place at which a box was asked for; 0 if none was
abbrev pub latest : List Act → ℕ
latest acts = latest_from 0 0 acts

ask_between : (a : Act) (place best : ℕ) → best ≤ place → (best ≤ ask_after a place best) × (ask_after a place best ≤ suc place)
ask_between (Asks id) place best le = (le, omega (arith, le))
ask_between Begins place best le = (omega (arith, le), omega (arith, le))
ask_between Ends place best le = (omega (arith, le), omega (arith, le))
ask_between Removes place best le = (omega (arith, le), omega (arith, le))
ask_between Other place best le = (omega (arith, le), omega (arith, le))

latest_ge : (place best : ℕ) (l : List Act) → best ≤ place → best ≤ latest_from place best l
latest_ge place best [] le = omega (arith, le)
latest_ge place best (a ∷ l) le =
    let m = ask_between a place best le in
    let low = m.0 in
    let high = m.1 in
    let r = latest_ge (suc place) (ask_after a place best) l high in
    omega (arith, low, r)

-- each place at which a box is asked for is at or before the last
at_ask : (place best : ℕ) (l : List Act) (i : ℕ) → best ≤ place → is_some (asks_in l i) ≡ true → place + i ≤ latest_from place best l
at_ask place best [] i le is = absurd cc
at_ask place best (Asks id ∷ l) zero le is = let r = latest_ge (suc place) place l (omega arith) in omega (arith, r)
at_ask place best (Begins ∷ l) zero le is = absurd cc
at_ask place best (Ends ∷ l) zero le is = absurd cc
at_ask place best (Removes ∷ l) zero le is = absurd cc
at_ask place best (Other ∷ l) zero le is = absurd cc
at_ask place best (a ∷ l) (suc i) le is =
    let high = (ask_between a place best le).1 in
    let r = at_ask (suc place) (ask_after a place best) l i high is in
    omega (arith, r)

latest_take : (place best q : ℕ) (l : List Act) → best ≤ place → latest_from place best (take q l) ≤ latest_from place best l
latest_take place best zero [] le = omega arith
latest_take place best (suc q) [] le = omega arith
latest_take place best zero (a ∷ l) le = latest_ge place best (a ∷ l) le
latest_take place best (suc q) (a ∷ l) le = latest_take (suc place) (ask_after a place best) q l (ask_between a place best le).1

get_take : (q p : ℕ) (l : List Act) → p < q → slice_get (take q l) p ≡ slice_get l p
get_take zero p l lt = absurd (omega (arith, lt))
get_take (suc q) p [] lt = refl
get_take (suc q) zero (a ∷ l) lt = refl
get_take (suc q) (suc p) (a ∷ l) lt = get_take q p l (omega (arith, lt))

pub last_before : (acts : List Act) (p q : ℕ) → is_some (asks_in acts p) ≡ true → p < q → p ≤ latest (take q acts)
last_before acts p q asks lt =
    let there : is_some (asks_in (take q acts) p) ≡ true = ap (λ (o : Option Act). is_some (option_and_then asks_of o)) (get_take q p acts lt) ∙ asks in
    let r = at_ask 0 0 (take q acts) p (omega arith) there in
    omega (arith, r)

pub last_below : (acts : List Act) (q : ℕ) → latest (take q acts) ≤ latest acts
last_below acts q = latest_take 0 0 q acts (omega arith)

latest_snoc : (place n best : ℕ) (l : List Act) (a : Act) → n ≡ place + length l → latest_from place best (l ++ a ∷ []) ≡ ask_after a n (latest_from place best l)
latest_snoc place n best [] a h = let e : place ≡ n = omega (arith, h) in ap (λ (m : ℕ). ask_after a m best) e
latest_snoc place n best (b ∷ l) a h = latest_snoc (suc place) n (ask_after b place best) l a (omega (arith, h))

-- one entry more
pub latest_more : (l : List Act) (a : Act) (n : ℕ) → length l ≡ n → latest (l ++ a ∷ []) ≡ ask_after a n (latest l)
latest_more l a n h = latest_snoc 0 n 0 l a (omega (arith, h))
