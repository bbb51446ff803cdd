-- Samples restored one after another.
use Rattle.std.proofs.Common.{◌≡◌, ℕ, zero, suc, ◌+◌, ◌-◌, ◌*◌, ◌^◌, ◌<◌, ◌≤◌, ℤ, pos, true, false, cond, List, [], ◌∷◌, ◌++◌, Option, Some, None, length, take, drop, set, get_or, reverse, refl, sym, ap, ◌∙◌, arith, length-take, length-drop, drop-cons, append_assoc, append-nil, add-one, map}
use Rattle.std.specs.Prelude.{◌+ℤ◌, unsigned_abs}
use Rattle.std.proofs.lemmas.List.{take_more_set, take_all, drop-append-le, drop_all, reverse-append, take_more, map-append, drop-set-lt}
use Rattle.std.proofs.Math.Nat.{pow-le-pow_right}
use Rattle.std.proofs.lemmas.Nat.{mul-le}
use Rattle.std.proofs.Math.Seq.{take-append_seam, get_or-append_seam}
use Rattle.std.proofs.Math.ListN.{length-map}
use Rattle.flac_definitions.specs.Bits.{Place}
use Rattle.flac_definitions.specs.Options.{◌>>=◌}
use Rattle.flac_definitions.specs.Subframe.{signed_at, samples_at, in_front_of, subframe_at, channels_at}
use Rattle.flac_definitions.specs.Stereo.{channel_depth}
use Rattle.flac_definitions.specs.Prediction.{prediction, samples_behind, with_sample, one_after_other, fits_depth}
use Rattle.flac_definitions.specs.Stereo.{channel_by}
use Rattle.flac_decode.specs.Bounds.{AreSmall}

pub joined_next : (front : List ℤ) (s : ℤ) (r : Option (List ℤ)) → one_after_other front (with_sample s r) ≡ one_after_other (front ++ s ∷ []) r
joined_next front s None = refl
joined_next front s (Some xs) = ap Some (sym (append_assoc front (s ∷ []) xs))

reverse_push : (xs : List ℤ) (s : ℤ) → reverse (xs ++ s ∷ []) ≡ s ∷ reverse xs
reverse_push xs s = reverse-append xs (s ∷ [])

-- one more sample
pub restore_next : (cs : List ℤ) (shift depth n i : ℕ) (samples residual : List ℤ) (s : ℤ) → n ≤ i → i < length samples → i - n < length residual
    → s ≡ prediction cs shift (reverse (take i samples)) +ℤ get_or residual (i - n) (pos 0) → fits_depth depth s ≡ true
    → one_after_other (drop n (take (i + 1) (set samples i s))) (samples_behind cs shift depth (reverse (take (i + 1) (set samples i s))) (drop (i + 1 - n) residual))
    ≡ one_after_other (drop n (take i samples)) (samples_behind cs shift depth (reverse (take i samples)) (drop (i - n) residual))
restore_next cs shift depth n i samples residual s h there left e good =
    let past = reverse (take i samples) in
    let r = get_or residual (i - n) (pos 0) in
    let rest = drop (i + 1 - n) residual in
    let head : drop (i - n) residual ≡ r ∷ rest = drop-cons residual (i - n) (pos 0) left ∙ ap (λ k. r ∷ drop k residual) (let q : suc (i - n) ≡ i + 1 - n = omega arith in q) in
    let pushed : take (i + 1) (set samples i s) ≡ take i samples ++ s ∷ [] = take_more_set samples i s there in
    let le : n ≤ length (take i samples) = omega (arith, length-take i samples) in
    let step : samples_behind cs shift depth past (r ∷ rest) ≡ with_sample s (samples_behind cs shift depth (s ∷ past) rest) =
    ap (λ (x : ℤ). cond (fits_depth depth x) (with_sample x (samples_behind cs shift depth (x ∷ past) rest)) None) (sym e)
    ∙ ap (λ b. cond b (with_sample s (samples_behind cs shift depth (s ∷ past) rest)) None) good in
    ap (λ (xs : List ℤ). one_after_other (drop n xs) (samples_behind cs shift depth (reverse xs) rest)) pushed
    ∙ ap (λ (xs : List ℤ). one_after_other (drop n (take i samples ++ s ∷ [])) (samples_behind cs shift depth xs rest)) (reverse_push (take i samples) s)
    ∙ ap (λ (xs : List ℤ). one_after_other xs (samples_behind cs shift depth (s ∷ past) rest)) (drop-append-le n (take i samples) (s ∷ []) le)
    ∙ sym (joined_next (drop n (take i samples)) s (samples_behind cs shift depth (s ∷ past) rest))
    ∙ sym (ap (λ (xs : List ℤ). one_after_other (drop n (take i samples)) (samples_behind cs shift depth past xs)) head ∙ ap (λ (o : Option (List ℤ)). one_after_other (drop n (take i samples)) o) step)

-- one that does not fit
pub restore_fails : (cs : List ℤ) (shift depth n i : ℕ) (samples residual : List ℤ) (s : ℤ) → n ≤ i → i - n < length residual
    → s ≡ prediction cs shift (reverse (take i samples)) +ℤ get_or residual (i - n) (pos 0) → fits_depth depth s ≡ false
    → one_after_other (drop n (take i samples)) (samples_behind cs shift depth (reverse (take i samples)) (drop (i - n) residual)) ≡ None
restore_fails cs shift depth n i samples residual s h left e bad =
    let past = reverse (take i samples) in
    let r = get_or residual (i - n) (pos 0) in
    let rest = drop (suc (i - n)) residual in
    let step : samples_behind cs shift depth past (r ∷ rest) ≡ None =
    ap (λ (x : ℤ). cond (fits_depth depth x) (with_sample x (samples_behind cs shift depth (x ∷ past) rest)) None) (sym e)
    ∙ ap (λ b. cond b (with_sample s (samples_behind cs shift depth (s ∷ past) rest)) None) bad in
    ap (λ (xs : List ℤ). one_after_other (drop n (take i samples)) (samples_behind cs shift depth past xs)) (drop-cons residual (i - n) (pos 0) left)
    ∙ ap (λ (o : Option (List ℤ)). one_after_other (drop n (take i samples)) o) step

-- all were restored
pub restore_done : (cs : List ℤ) (shift depth n i : ℕ) (samples residual : List ℤ) → length residual + n ≡ length samples → length samples ≤ i
    → one_after_other (drop n (take i samples)) (samples_behind cs shift depth (reverse (take i samples)) (drop (i - n) residual)) ≡ Some (drop n samples)
restore_done cs shift depth n i samples residual l h =
    ap (λ (xs : List ℤ). one_after_other (drop n (take i samples)) (samples_behind cs shift depth (reverse (take i samples)) xs)) (drop_all (i - n) residual (omega arith))
    ∙ ap Some (append-nil (drop n (take i samples)) ∙ ap (λ (xs : List ℤ). drop n xs) (take_all i samples h))

small_push : (n : ℕ) (xs : List ℤ) (s : ℤ) → AreSmall n xs → unsigned_abs s ≤ 2 ^ n → AreSmall n (xs ++ s ∷ [])
small_push n [] s h hs zero = hs
small_push n [] s h hs (suc k) = omega arith
small_push n (x ∷ xs) s h hs zero = h 0
small_push n (x ∷ xs) s h hs (suc k) = small_push n xs s (λ i. h (suc i)) hs k

pub small_more : (n : ℕ) (samples : List ℤ) (i : ℕ) (s : ℤ) → i < length samples → AreSmall n (take i samples) → unsigned_abs s ≤ 2 ^ n → AreSmall n (take (i + 1) (set samples i s))
small_more n samples i s h small hs k =
    let pushed : take (i + 1) (set samples i s) ≡ take i samples ++ s ∷ [] = take_more_set samples i s h in
    let l : length (take i samples) ≡ i = omega (arith, length-take i samples) in
    rw pushed (small_push n (take i samples) s small hs k)

pub fronted_twice : (xs ys : List ℤ) (r : Option (List ℤ × Place)) → in_front_of xs (in_front_of ys r) ≡ in_front_of (xs ++ ys) r
fronted_twice xs ys (Some x) = ap (λ (zs : List ℤ). Some (zs, x.1)) (sym (append_assoc xs ys x.0))
fronted_twice xs ys None = refl

-- one more plain sample
pub samples_next : (depth : ℕ) (out : List ℤ) (i : ℕ) (p next : Place) (v : ℤ) → i < length out → signed_at depth p ≡ Some (v, next)
    → in_front_of (take (i + 1) (set out i v)) (samples_at depth (length out - (i + 1)) next) ≡ in_front_of (take i out) (samples_at depth (length out - i) p)
samples_next depth out i p next v h e =
    let n : length out - i ≡ suc (length out - (i + 1)) = omega arith in
    sym (ap (λ k. in_front_of (take i out) (samples_at depth k p)) n
    ∙ ap (λ (r : Option (ℤ × Place)). in_front_of (take i out) (r >>= λ x. in_front_of (x.0 ∷ []) (samples_at depth (length out - (i + 1)) x.1))) e
    ∙ fronted_twice (take i out) (v ∷ []) (samples_at depth (length out - (i + 1)) next)
    ∙ ap (λ (xs : List ℤ). in_front_of xs (samples_at depth (length out - (i + 1)) next)) (sym (take_more_set out i v h)))

-- plain samples in front of others
pub warm_front : (front rest : List ℤ) (depth n : ℕ) → length front ≡ n → depth ≤ 33 → AreSmall (depth - 1) front → AreSmall 32 (take n (front ++ rest))
warm_front front rest depth n l d small i =
    let e : take n (front ++ rest) ≡ front = ap (λ k. take k (front ++ rest)) (sym l) ∙ take-append_seam front rest in
    let p : 2 ^ (depth - 1) ≤ 2 ^ 32 = pow-le-pow_right {n = 2} (omega arith) (let s : depth - 1 ≤ 32 = omega arith in s) in
    omega (arith, p, small i, ap (λ (xs : List ℤ). unsigned_abs (get_or xs i (pos 0))) e)

set_seam : (xs : List ℤ) (y : ℤ) (ys : List ℤ) (v : ℤ) → set (xs ++ y ∷ ys) (length xs) v ≡ xs ++ v ∷ ys
set_seam [] y ys v = refl
set_seam (x ∷ xs) y ys v = ap (λ (zs : List ℤ). x ∷ zs) (set_seam xs y ys v)

-- one more element of a list is changed in its place
pub change_next : (f : ℤ → ℤ) (xs cur : List ℤ) (i : ℕ) (v : ℤ) → i < length xs → cur ≡ map f (take i xs) ++ drop i xs → v ≡ f (get_or cur i (pos 0))
    → (set cur i v ≡ map f (take (i + 1) xs) ++ drop (i + 1) xs) × (map f (take (i + 1) xs) ≡ map f (take i xs) ++ v ∷ []) × (get_or cur i (pos 0) ≡ get_or xs i (pos 0))
change_next f xs cur i v h e ev =
    let front = map f (take i xs) in
    let x = get_or xs i (pos 0) in
    let rest = drop (i + 1) xs in
    let lf : length front ≡ i = omega (arith, length-map (take i xs) f, length-take i xs) in
    let cut : drop i xs ≡ x ∷ rest = rw add-one (drop-cons xs i (pos 0) h) in
    let here : get_or cur i (pos 0) ≡ x =
    ap (λ (ys : List ℤ). get_or ys i (pos 0)) (e ∙ ap (λ (ys : List ℤ). front ++ ys) cut)
    ∙ ap (λ k. get_or (front ++ x ∷ rest) k (pos 0)) (sym lf) ∙ get_or-append_seam front x rest (pos 0) in
    let value : v ≡ f x = ev ∙ ap f here in
    let mapped : map f (take (i + 1) xs) ≡ front ++ v ∷ [] =
    ap (λ (ys : List ℤ). map f ys) (take_more xs i (pos 0) h) ∙ map-append f (take i xs) (x ∷ []) ∙ ap (λ (y : ℤ). front ++ y ∷ []) (sym value) in
    let written : set cur i v ≡ front ++ (v ∷ rest) =
    ap (λ (ys : List ℤ). set ys i v) (e ∙ ap (λ (ys : List ℤ). front ++ ys) cut) ∙ ap (λ k. set (front ++ x ∷ rest) k v) (sym lf) ∙ set_seam front x rest v in
    (written ∙ sym (ap (λ (ys : List ℤ). ys ++ rest) mapped ∙ append_assoc front (v ∷ []) rest), mapped, here)

pub push_small : (n : ℕ) (xs : List ℤ) (s : ℤ) → AreSmall n xs → unsigned_abs s ≤ 2 ^ n → AreSmall n (xs ++ s ∷ [])
push_small n xs s h k = small_push n xs s h k

-- one more channel
pub channels_next : (a d block channel n m : ℕ) (front values : List ℤ) (p next : Place) → n ≡ suc m → subframe_at (channel_depth a d channel) block p ≡ Some (values, next)
    → in_front_of (front ++ values) (channels_at a d block (channel + 1) m next) ≡ in_front_of front (channels_at a d block channel n p)
channels_next a d block channel n m front values p next h e =
    sym (ap (λ k. in_front_of front (channels_at a d block channel k p)) h
    ∙ ap (λ (r : Option (List ℤ × Place)). in_front_of front (r >>= λ x. in_front_of x.0 (channels_at a d block (channel + 1) m x.1))) e
    ∙ fronted_twice front values (channels_at a d block (channel + 1) m next))

pub channels_fail : (a d block channel n m : ℕ) (front : List ℤ) (p : Place) → n ≡ suc m → subframe_at (channel_depth a d channel) block p ≡ None
    → in_front_of front (channels_at a d block channel n p) ≡ None
channels_fail a d block channel n m front p h e =
    ap (λ k. in_front_of front (channels_at a d block channel k p)) h
    ∙ ap (λ (r : Option (List ℤ × Place)). in_front_of front (r >>= λ x. in_front_of x.0 (channels_at a d block (channel + 1) m x.1))) e

pub channels_done : (a d block channel n : ℕ) (front out : List ℤ) (p : Place) → n ≡ 0 → front ≡ out → in_front_of front (channels_at a d block channel n p) ≡ Some (out, p)
channels_done a d block channel n front out p h e = ap (λ k. in_front_of front (channels_at a d block channel k p)) h ∙ ap (λ (xs : List ℤ). Some (xs, p)) (append-nil front ∙ e)

pub fronted_none : (r : Option (List ℤ × Place)) → in_front_of [] r ≡ r
fronted_none (Some x) = refl
fronted_none None = refl

pub part_length : (out : List ℤ) (i each rest : ℕ) → i < rest → length out ≡ rest * each → (length (take (i * each + each - i * each) (drop (i * each) out)) ≡ each) × (i * each + each ≤ length out)
part_length out i each rest h l = (
  omega (arith, length-take (i * each + each - i * each) (drop (i * each) out), length-drop (i * each) out, mul-le (i + 1) each rest each (omega arith) (omega arith)),
  omega (arith, mul-le (i + 1) each rest each (omega arith) (omega arith)),
)

drop_set_past : (xs : List ℤ) (i : ℕ) (v : ℤ) → drop (i + 1) (set xs i v) ≡ drop (i + 1) xs
drop_set_past xs i v = drop-set-lt (i + 1) xs i v (omega arith)

-- one more sample of a computed channel; `ys` are as they were, `cur` as they are so far
pub combined_next : (f : ℤ → ℤ → ℤ) (depth i : ℕ) (xs ys cur : List ℤ) (v : ℤ) → i < length xs → i < length ys → length cur ≡ length ys → drop i cur ≡ drop i ys
    → v ≡ f (get_or xs i (pos 0)) (get_or cur i (pos 0)) → fits_depth depth v ≡ true
    → (one_after_other (take (i + 1) (set cur i v)) (channel_by f depth (drop (i + 1) xs) (drop (i + 1) ys)) ≡ one_after_other (take i cur) (channel_by f depth (drop i xs) (drop i ys))) × (drop (i + 1) (set cur i v) ≡ drop (i + 1) ys)
combined_next f depth i xs ys cur v hx hy l rest e good =
    let x = get_or xs i (pos 0) in let y = get_or ys i (pos 0) in
    let hc : i < length cur = omega arith in
    let cx : drop i xs ≡ x ∷ drop (i + 1) xs = rw add-one (drop-cons xs i (pos 0) hx) in
    let cy : drop i ys ≡ y ∷ drop (i + 1) ys = rw add-one (drop-cons ys i (pos 0) hy) in
    let cc' : drop i cur ≡ get_or cur i (pos 0) ∷ drop (i + 1) cur = rw add-one (drop-cons cur i (pos 0) hc) in
    let heads : get_or cur i (pos 0) ∷ drop (i + 1) cur ≡ y ∷ drop (i + 1) ys = sym cc' ∙ rest ∙ cy in
    let same : get_or cur i (pos 0) ≡ y = cc in
    let tails : drop (i + 1) cur ≡ drop (i + 1) ys = cc in
    let value : v ≡ f x y = e ∙ ap (λ (z : ℤ). f x z) same in
    let step : channel_by f depth (x ∷ drop (i + 1) xs) (y ∷ drop (i + 1) ys) ≡ with_sample v (channel_by f depth (drop (i + 1) xs) (drop (i + 1) ys)) =
    ap (λ (z : ℤ). cond (fits_depth depth z) (with_sample z (channel_by f depth (drop (i + 1) xs) (drop (i + 1) ys))) None) (sym value)
    ∙ ap (λ b. cond b (with_sample v (channel_by f depth (drop (i + 1) xs) (drop (i + 1) ys))) None) good in (
      ap (λ (zs : List ℤ). one_after_other zs (channel_by f depth (drop (i + 1) xs) (drop (i + 1) ys))) (take_more_set cur i v hc)
          ∙ sym (joined_next (take i cur) v (channel_by f depth (drop (i + 1) xs) (drop (i + 1) ys)))
          ∙ sym (ap (λ (zs : List ℤ). one_after_other (take i cur) (channel_by f depth zs (drop i ys))) cx ∙ ap (λ (zs : List ℤ). one_after_other (take i cur) (channel_by f depth (x ∷ drop (i + 1) xs) zs)) cy ∙ ap (λ (o : Option (List ℤ)). one_after_other (take i cur) o) step),
      drop_set_past cur i v ∙ tails,
    )

pub combined_fails : (f : ℤ → ℤ → ℤ) (depth i : ℕ) (xs ys cur : List ℤ) (v : ℤ) → i < length xs → i < length ys → length cur ≡ length ys → drop i cur ≡ drop i ys
    → v ≡ f (get_or xs i (pos 0)) (get_or cur i (pos 0)) → fits_depth depth v ≡ false → one_after_other (take i cur) (channel_by f depth (drop i xs) (drop i ys)) ≡ None
combined_fails f depth i xs ys cur v hx hy l rest e bad =
    let x = get_or xs i (pos 0) in let y = get_or ys i (pos 0) in
    let hc : i < length cur = omega arith in
    let cx : drop i xs ≡ x ∷ drop (i + 1) xs = rw add-one (drop-cons xs i (pos 0) hx) in
    let cy : drop i ys ≡ y ∷ drop (i + 1) ys = rw add-one (drop-cons ys i (pos 0) hy) in
    let cc' : drop i cur ≡ get_or cur i (pos 0) ∷ drop (i + 1) cur = rw add-one (drop-cons cur i (pos 0) hc) in
    let heads : get_or cur i (pos 0) ∷ drop (i + 1) cur ≡ y ∷ drop (i + 1) ys = sym cc' ∙ rest ∙ cy in
    let same : get_or cur i (pos 0) ≡ y = cc in
    let value : v ≡ f x y = e ∙ ap (λ (z : ℤ). f x z) same in
    let step : channel_by f depth (x ∷ drop (i + 1) xs) (y ∷ drop (i + 1) ys) ≡ None =
    ap (λ (z : ℤ). cond (fits_depth depth z) (with_sample z (channel_by f depth (drop (i + 1) xs) (drop (i + 1) ys))) None) (sym value)
    ∙ ap (λ b. cond b (with_sample v (channel_by f depth (drop (i + 1) xs) (drop (i + 1) ys))) None) bad in
    ap (λ (zs : List ℤ). one_after_other (take i cur) (channel_by f depth zs (drop i ys))) cx ∙ ap (λ (zs : List ℤ). one_after_other (take i cur) (channel_by f depth (x ∷ drop (i + 1) xs) zs)) cy ∙ ap (λ (o : Option (List ℤ)). one_after_other (take i cur) o) step

pub combined_done : (f : ℤ → ℤ → ℤ) (depth i : ℕ) (xs ys cur : List ℤ) → length xs ≤ i → length cur ≤ i → one_after_other (take i cur) (channel_by f depth (drop i xs) (drop i ys)) ≡ Some cur
combined_done f depth i xs ys cur h l =
    ap (λ (zs : List ℤ). one_after_other (take i cur) (channel_by f depth zs (drop i ys))) (drop_all i xs h) ∙ ap Some (append-nil (take i cur) ∙ take_all i cur l)

pub same_head : (xs ys : List ℤ) (i : ℕ) → i < length xs → i < length ys → drop i xs ≡ drop i ys → get_or xs i (pos 0) ≡ get_or ys i (pos 0)
same_head xs ys i h k e =
    let heads : get_or xs i (pos 0) ∷ drop (suc i) xs ≡ get_or ys i (pos 0) ∷ drop (suc i) ys = sym (drop-cons xs i (pos 0) h) ∙ e ∙ drop-cons ys i (pos 0) k in cc
