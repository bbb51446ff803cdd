-- What is known of a walk that ended well.
use Rattle.std.proofs.Common.{◌≡◌, ℕ, ◌+◌, Bool, true, false, ◌&&◌, if◌then◌else◌, List, [], ◌∷◌, ◌++◌, length, Option, Some, option_and_then, Result, Ok, Err, IfOk, refl, sym, arith}
use Rattle.std.proofs.lemmas.List.{append_assoc, append-nil, length_push}
use Rattle.std.proofs.lemmas.Result.{IfOk-at_ok, IfOk-weaker}
use Rattle.std.specs.List.{list_all}
use Rattle.serde_json.specs.Data.{Data, Items, no_items, item}
use Rattle.script_types.specs.declared.fault.{Place.Place, Fault.Fault, Wrong.Wrong}
use Rattle.chunk_files.specs.declared.fault.Stop.{Stop}
use Rattle.script_steps.specs.Counts.{count_of}
use Rattle.wc_script.specs.{Faults.at, Faults.proceed}

-- the rest goes on with what the first part gives, as in `and_then` and `proceed`
abbrev Next : {A B E : Type 0} → Result A E → (A → Result B E) → Result B E
Next (Err e) f = Err e
Next (Ok a) f = f a

-- what holds of all that the rest may give, whatever the first part gives
pub by_part : {A B E : Type 0} → (r : Result A E) (f : A → Result B E) (P : B → Type 0) → ((a : A) → r ≡ Ok a → IfOk (f a) P) → IfOk (Next r f) P
by_part (Ok a) f P h = h a refl
by_part (Err e) f P h = tt

pub by_read : {A B : Type 0} → (p : Place) (r : Result A (Stop Wrong)) (f : A → Result B (Stop Fault)) (P : B → Type 0) → ((a : A) → r ≡ Ok a → IfOk (f a) P) → IfOk (proceed (at p r) f) P
by_read p (Ok a) f P h = h a refl
by_read p (Err w) f P h = tt

pub by_top : {A : Type 0} → (p : Place) (r : Result A (Stop Wrong)) (P : A → Type 0) → IfOk r P → IfOk (at p r) P
by_top p (Ok a) P h = h
by_top p (Err w) P h = tt

-- what holds behind a test that is passed, and behind one that is failed
pub only_if : {A E : Type 0} → (b : Bool) (e : E) (r : Result A E) (P : A → Type 0) → (b ≡ true → IfOk r P) → IfOk (if b then r else Err e) P
only_if true e r P h = h refl
only_if false e r P h = tt

pub unless : {A E : Type 0} → (b : Bool) (e : E) (r : Result A E) (P : A → Type 0) → (b ≡ false → IfOk r P) → IfOk (if b then Err e else r) P
unless true e r P h = tt
unless false e r P h = h refl

-- what holds of each element after those before it, with one more at the end
pub each_more : {X : Type 0} (ok : List X → X → Bool) (all : List X → List X → Bool) → ((before : List X) → all before [] ≡ true)
    → ((before : List X) (x : X) (xs : List X) → all before (x ∷ xs) ≡ (ok before x && all (before ++ x ∷ []) xs))
    → (before xs : List X) (x : X) → all before xs ≡ true → ok (before ++ xs) x ≡ true → all before (xs ++ x ∷ []) ≡ true
each_more ok all none next before [] x h k = grind (arith, none, next before x [], rw (append-nil before) at k)
each_more ok all none next before (y ∷ ys) x h k =
    grind (arith, next before y, h, each_more ok all none next (before ++ y ∷ []) ys x, rw (sym (append_assoc before (y ∷ []) ys)) at k)

pub all_more : {X : Type 0} (p : X → Bool) (xs : List X) (x : X) → list_all p xs ≡ true → p x ≡ true → list_all p (xs ++ x ∷ []) ≡ true
all_more p xs x h k = each_more (λ b. p) (λ b. list_all p) (λ b. refl) (λ b y ys. refl) [] xs x h k

-- what each element makes of a value, with one more at the end
pub fold_more : {A X : Type 0} → (one : A → X → Option A) (all : A → List X → Option A) → ((n : A) → all n [] ≡ Some n)
    → ((n : A) (x : X) (xs : List X) → all n (x ∷ xs) ≡ option_and_then (λ i. all i xs) (one n x))
    → (n : A) (xs : List X) (x : X) (m k : A) → all n xs ≡ Some m → one m x ≡ Some k → all n (xs ++ x ∷ []) ≡ Some k
fold_more one all none next n [] x m k h e = grind (arith, none, next n x [], h, e)
fold_more {A = A} one all none next n (y ∷ ys) x m k h e =
    let rest : (i : A) → all i ys ≡ Some m → all i (ys ++ x ∷ []) ≡ Some k = λ i g. fold_more one all none next i ys x m k g e in
    grind (arith, next n y, h, rest)

-- the items of an array were read, each after those before it
pub record IsWalked {X : Type 0} (Good : List X → Type 0) (before : List X) (ds : Items) (xs : List X) : Type 0 where
  pub sound : Good xs
  pub count : length xs ≡ length before + count_of ds

pub walked : {X : Type 0} → (Good : List X → Type 0) (place : ℕ → Place) (one : List X → Data → Result X (Stop Wrong)) (walk : ℕ → List X → Items → Result (List X) (Stop Fault))
    → ((i : ℕ) (b : List X) → walk i b no_items ≡ Ok b) → ((i : ℕ) (b : List X) (d : Data) (ds : Items) → walk i b (item d ds) ≡ proceed (at (place i) (one b d)) (λ x. walk (i + 1) (b ++ x ∷ []) ds))
    → ((b : List X) (d : Data) → Good b → IfOk (one b d) (λ x. Good (b ++ x ∷ []))) → (i : ℕ) (before : List X) (ds : Items) → Good before → IfOk (walk i before ds) (IsWalked Good before ds)
walked Good place one walk none next more i before no_items s = rw (none i before) (record { sound = s; count = omega arith })
walked Good place one walk none next more i before (item d ds) s =
    rw (next i before d ds) (by_read (place i) (one before d) _ _ (λ x e.
    let rest = walked Good place one walk none next more (i + 1) (before ++ x ∷ []) ds (IfOk-at_ok (λ y. Good (before ++ y ∷ [])) e (more before d s)) in
    IfOk-weaker (walk (i + 1) (before ++ x ∷ []) ds) _ _ (λ xs t. record { sound = t.sound; count = omega (arith, length_push before x, t.count) }) rest))
