-- Jobs, by their places.
use Rattle.std.proofs.Common.{ℕ, zero, suc, ◌≡◌, ◌+◌, ◌-◌, ◌<◌, ◌≤◌, List, [], ◌∷◌, ◌++◌, Some, length, length-append, map, refl, ap, sym, subst, ◌∙◌, append-nil, append_assoc, arith}
use Rattle.std.specs.Prelude.{slice_get}
use Rattle.codec_desk.specs.DeskLaws.{map_both}
use Rattle.report_text.specs.declared.result.StepResult.{StepResult}
use Rattle.run_model.specs.declared.run.CallerTrace.{CallerTrace}
use Rattle.wc_run.specs.declared.jobs.Role.TheVariants as role
use Rattle.wc_run.specs.Roles.{behind_turner, role_at, noted}

-- ---- roles

worker_behind : (w n : ℕ) → n < w → behind_turner w n ≡ role.Worker
worker_behind zero n lt = absurd (omega (arith, lt))
worker_behind (suc w) zero lt = refl
worker_behind (suc w) (suc n) lt = worker_behind w n (omega (arith, lt))

caller_behind : (w n : ℕ) → w ≤ n → behind_turner w n ≡ role.Caller (n - w)
caller_behind zero n le =
    let e : n ≡ n - 0 = omega arith in
    ap role.Caller e
caller_behind (suc w) zero le = absurd (omega (arith, le))
caller_behind (suc w) (suc n) le =
    let e : n - w ≡ suc n - suc w = omega arith in
    subst (λ (m : ℕ). behind_turner w n ≡ role.Caller m) e (caller_behind w n (omega (arith, le)))

pub is_worker : (w n : ℕ) → 0 < n → n ≤ w → role_at w n ≡ role.Worker
is_worker w zero some le = absurd (omega (arith, some))
is_worker w (suc n) some le = worker_behind w n (omega (arith, le))

pub is_caller : (w n : ℕ) → w < n → role_at w n ≡ role.Caller (n - w - 1)
is_caller w zero lt = absurd (omega (arith, lt))
is_caller w (suc n) lt =
    let e : n - w ≡ suc n - w - 1 = omega (arith, lt) in
    subst (λ (m : ℕ). behind_turner w n ≡ role.Caller m) e (caller_behind w n (omega (arith, lt)))

number_behind : (w n c : ℕ) → behind_turner w n ≡ role.Caller c → c ≡ n - w
number_behind zero n c is = let e : n ≡ c = cc in omega (arith, e)
number_behind (suc w) zero c is = absurd cc
number_behind (suc w) (suc n) c is = let e = number_behind w n c is in omega (arith, e)

-- the callers are numbered in order
pub caller_number : (w n c : ℕ) → role_at w n ≡ role.Caller c → c ≡ n - (w + 1)
caller_number w zero c is = absurd cc
caller_number w (suc n) c is = let e = number_behind w n c is in omega (arith, e)

-- ---- what the callers' steps came to

noted_behind : (w n : ℕ) (rs : List StepResult) (ts : List CallerTrace) → length ts ≡ n - w → length (noted (behind_turner w n) rs ts) ≡ suc n - w
noted_behind zero n rs ts many = let e = length-append ts ((record { results = rs }) ∷ []) in omega (arith, e, many)
noted_behind (suc w) zero rs ts many = omega (arith, many)
noted_behind (suc w) (suc n) rs ts many = let e = noted_behind w n rs ts (omega (arith, many)) in omega (arith, e)

pub noted_many : (w n : ℕ) (rs : List StepResult) (ts : List CallerTrace) → length ts ≡ n - (w + 1) → length (noted (role_at w n) rs ts) ≡ suc n - (w + 1)
noted_many w zero rs ts many = omega (arith, many)
noted_many w (suc n) rs ts many = let e = noted_behind w n rs ts (omega (arith, many)) in omega (arith, e)

-- ---- what elements tell

-- one element more is told of in one list, and one less in the other
pub told_more : {A B T : Type 0} (f : A → T) (h : B → T) (xs ys : List A) (x : A) (us vs : List B) (u : B) (all : List T) → ys ≡ xs ++ x ∷ [] → us ≡ u ∷ vs → f x ≡ h u → map f xs ++ map h us ≡ all → map f ys ++ map h vs ≡ all
told_more {A} {B} {T} f h xs ys x us vs u all more less same tell =
    ap (λ (l : List A). map f l ++ map h vs) more
    ∙ (ap (λ (l : List T). l ++ map h vs) (map_both f xs (x ∷ []))
    ∙ (append_assoc (map f xs) (f x ∷ []) (map h vs)
    ∙ (ap (λ (t : T). map f xs ++ t ∷ map h vs) same
    ∙ (ap (λ (l : List B). map f xs ++ map h l) (sym less) ∙ tell))))

-- nothing is left of the other list
pub told_all : {A B T : Type 0} (f : A → T) (h : B → T) (xs : List A) (us : List B) (all : List T) → length us ≡ 0 → map f xs ++ map h us ≡ all → map f xs ≡ all
told_all f h xs [] all none tell = sym (append-nil (map f xs)) ∙ tell
told_all f h xs (u ∷ us) all none tell = absurd (omega (arith, none))

-- ---- lists by places

module _ {X : Type 0} where
  -- what is so of each place and its element, from this place on
  abbrev pub From : (ℕ → X → Type 0) → ℕ → List X → Type 0
  From P n [] = Unit {0}
  From P n (x ∷ xs) = P n x × From P (n + 1) xs

  from_all : (P : ℕ → X → Type 0) (n : ℕ) (xs : List X) → ((i : ℕ) (x : X) → slice_get xs i ≡ Some x → P (n + i) x) → From P n xs
  from_all P n [] h = tt
  from_all P n (x ∷ xs) h =
      let e : n + 0 ≡ n = omega arith in
      (subst (λ (m : ℕ). P m x) e (h 0 x refl), from_all P (n + 1) xs (λ i y at. (let f : n + suc i ≡ n + 1 + i = omega arith in subst (λ (m : ℕ). P m y) f (h (suc i) y at))))

  pub from_start : (P : ℕ → X → Type 0) (xs : List X) → ((i : ℕ) (x : X) → slice_get xs i ≡ Some x → P i x) → From P 0 xs
  from_start P xs h = from_all P 0 xs (λ i y at. (let e : i ≡ 0 + i = omega arith in subst (λ (m : ℕ). P m y) e (h i y at)))

  -- the element at a place
  pub get_there : (xs : List X) (i : ℕ) → i < length xs → (x : X) × (slice_get xs i ≡ Some x)
  get_there [] i lt = absurd (omega (arith, lt))
  get_there (x ∷ xs) zero lt = (x, refl)
  get_there (x ∷ xs) (suc i) lt = get_there xs i (omega (arith, lt))

  -- what is so of each place of none, and of one place more
  pub none_at : (P : ℕ → X → Type 0) (xs : List X) → xs ≡ [] → (i : ℕ) (y : X) → slice_get xs i ≡ Some y → P i y
  none_at P [] none i y at = absurd cc
  none_at P (x ∷ xs) none i y at = absurd cc

  pub more_at : (P : ℕ → X → Type 0) (xs : List X) (x : X) → P (length xs) x → ((i : ℕ) (y : X) → slice_get xs i ≡ Some y → P i y) → (i : ℕ) (y : X) → slice_get (xs ++ x ∷ []) i ≡ Some y → P i y
  more_at P [] x h before zero y at =
      let e : x ≡ y = cc in
      subst (P 0) e h
  more_at P [] x h before (suc i) y at = absurd cc
  more_at P (z ∷ xs) x h before zero y at = before zero y at
  more_at P (z ∷ xs) x h before (suc i) y at = more_at (λ m. P (suc m)) xs x h (λ m w there. before (suc m) w there) i y at
