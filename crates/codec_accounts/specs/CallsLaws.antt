-- The marks of a caller's results.
use Rattle.std.proofs.Common.{ℕ, zero, suc, ◌+◌, ◌<◌, ◌≤◌, ◌≡◌, ◌==◌, ◌&&◌, ◌⊎◌, inl, inr, eq-eqb, Bool, true, false, cond, List, [], ◌∷◌, ◌++◌, length, Option, Some, None, refl, ap, sym, subst, ◌∙◌, arith, append_assoc, append-nil}
use Rattle.std.specs.Prelude.{slice_get, nat_le}
use Rattle.std.specs.List.{sum_by}
use Rattle.std.proofs.lemmas.Bool.{cases_Bool, and_parts, eqb-true, leb-true, leb-false}
use Rattle.wc_base.specs.declared.who.Who.{Who}
use Rattle.codec_model.specs.declared.entry.Entry.{Entry}
use Rattle.codec_accounts.specs.Bags.{SameBag}
use Rattle.codec_accounts.specs.BagsLaws.{weigh_append}
use Rattle.codec_accounts.specs.Owed.{owed, at, append_at}
use Rattle.codec_accounts.specs.OwedLaws.{owed_more}
use Rattle.codec_accounts.specs.Calls.{who_of, Mark, Call, Look, Local, reach, Climbs, call_in, calls_on, all_calls, named_at, named, CallsAreIn}

-- what a list of results that begins with one says, by its reach
abbrev Reaches : ℕ → ℕ → Option (ℕ × ℕ) → List Mark → ℕ → Type 0
Reaches k low o rs high = elim o [ None ↦ Climbs k low rs high | Some m ↦ (low ≤ m.0) × Climbs k m.1 rs high ]

pub climbs_high : (k low : ℕ) (rs : List Mark) (high : ℕ) → Climbs k low rs high → ((m : ℕ × ℕ) (r : Mark) → reach k r ≡ Some m → m.0 ≤ m.1) → low ≤ high
climbs_high k low [] high h f = h
climbs_high k low (r ∷ rs) high h f = by_reach (reach k r) refl h (λ l c. climbs_high k l rs high c f)
  where
    by_reach : (o : Option (ℕ × ℕ)) → reach k r ≡ o → Reaches k low o rs high → ((l : ℕ) → Climbs k l rs high → l ≤ high) → low ≤ high
    by_reach None is h rest = rest low h
    by_reach (Some m) is h rest = let a = rest m.1 h.1 in let b = f m r is in omega (arith, a, b, h.0)

pub reach_rises : (k : ℕ) (m : ℕ × ℕ) (r : Mark) → reach k r ≡ Some m → m.0 ≤ m.1
reach_rises k m (Call on p) h = by_codec (on == k) h
  where
    by_codec : (b : Bool) → cond b (Some (p, suc p)) None ≡ Some m → m.0 ≤ m.1
    by_codec true is = let e : p ≡ m.0 = cc in let f : suc p ≡ m.1 = cc in omega (arith, e, f)
    by_codec false is = absurd cc
reach_rises k m (Look on n) h = by_codec (on == k) h
  where
    by_codec : (b : Bool) → cond b (Some (n, n)) None ≡ Some m → m.0 ≤ m.1
    by_codec true is = let e : n ≡ m.0 = cc in let f : n ≡ m.1 = cc in omega (arith, e, f)
    by_codec false is = absurd cc
reach_rises k m Local h = absurd cc

pub climbs_up : (k low : ℕ) (rs : List Mark) (high : ℕ) → Climbs k low rs high → low ≤ high
climbs_up k low rs high h = climbs_high k low rs high h (reach_rises k)

-- one result more, where the history went on
pub climbs_more : (k low : ℕ) (rs : List Mark) (high : ℕ) (r : Mark) (m : ℕ × ℕ) (next : ℕ) → Climbs k low rs high → reach k r ≡ Some m → high ≤ m.0 → m.1 ≤ next → Climbs k low (rs ++ r ∷ []) next
climbs_more k low [] high r m next h is up top = subst (λ (o : Option (ℕ × ℕ)). Reaches k low o [] next) (sym is) (omega (arith, h, up), top)
climbs_more k low (x ∷ xs) high r m next h is up top = by_reach (reach k x) h (λ l c. climbs_more k l xs high r m next c is up top)
  where
    by_reach : (o : Option (ℕ × ℕ)) → Reaches k low o xs high → ((l : ℕ) → Climbs k l xs high → Climbs k l (xs ++ r ∷ []) next) → Reaches k low o (xs ++ r ∷ []) next
    by_reach None h rest = rest low h
    by_reach (Some n) h rest = (h.0, rest n.1 h.1)

-- a result with no reach on the codec, where the history went on or did not
pub climbs_on : (k low : ℕ) (rs : List Mark) (high next : ℕ) → high ≤ next → Climbs k low rs high → Climbs k low rs next
climbs_on k low [] high next up h = omega (arith, h, up)
climbs_on k low (x ∷ xs) high next up h = by_reach (reach k x) h (λ l c. climbs_on k l xs high next up c)
  where
    by_reach : (o : Option (ℕ × ℕ)) → Reaches k low o xs high → ((l : ℕ) → Climbs k l xs high → Climbs k l xs next) → Reaches k low o xs next
    by_reach None h rest = rest low h
    by_reach (Some n) h rest = (h.0, rest n.1 h.1)

-- what one result more asks for: where it has no mark the history may have gone on, and else it begins at its end
abbrev pub MayClimb : Option (ℕ × ℕ) → ℕ → ℕ → Type 0
MayClimb None high next = high ≤ next
MayClimb (Some m) high next = (high ≤ m.0) × (m.1 ≤ next)

climbs_by : (k low : ℕ) (rs : List Mark) (high : ℕ) (r : Mark) (o : Option (ℕ × ℕ)) (next : ℕ) → Climbs k low rs high → reach k r ≡ o → MayClimb o high next → Climbs k low (rs ++ r ∷ []) next
climbs_by k low rs high r (Some m) next h is may = climbs_more k low rs high r m next h is may.0 may.1
climbs_by k low [] high r None next h is may = subst (λ (o : Option (ℕ × ℕ)). Reaches k low o [] next) (sym is) (omega (arith, h, may))
climbs_by k low (x ∷ xs) high r None next h is may = by_reach (reach k x) h (λ l c. climbs_by k l xs high r None next c is may)
  where
    by_reach : (o : Option (ℕ × ℕ)) → Reaches k low o xs high → ((l : ℕ) → Climbs k l xs high → Climbs k l (xs ++ r ∷ []) next) → Reaches k low o (xs ++ r ∷ []) next
    by_reach None h rest = rest low h
    by_reach (Some n) h rest = (h.0, rest n.1 h.1)

-- one result more
pub climbs_add : (k low : ℕ) (rs : List Mark) (high : ℕ) (r : Mark) (next : ℕ) → Climbs k low rs high → MayClimb (reach k r) high next → Climbs k low (rs ++ r ∷ []) next
climbs_add k low rs high r next h may = climbs_by k low rs high r (reach k r) next h refl may

-- no result goes beyond the end, and none before the start
pub climbs_within : (k low : ℕ) (rs : List Mark) (high j : ℕ) (r : Mark) (m : ℕ × ℕ) → Climbs k low rs high → slice_get rs j ≡ Some r → reach k r ≡ Some m → (low ≤ m.0) × (m.1 ≤ high)
climbs_within k low [] high j r m h at is = absurd cc
climbs_within k low (x ∷ xs) high zero r m h at is =
    let same : x ≡ r = cc in
    let P = λ (o : Option (ℕ × ℕ)). Reaches k low o xs high in
    let here = subst P (ap (reach k) same ∙ is) h in
    (here.0, climbs_up k m.1 xs high here.1)
climbs_within k low (x ∷ xs) high (suc j) r m h at is = by_reach (reach k x) refl h (λ l c. climbs_within k l xs high j r m c at is)
  where
    by_reach : (o : Option (ℕ × ℕ)) → reach k x ≡ o → Reaches k low o xs high → ((l : ℕ) → Climbs k l xs high → (l ≤ m.0) × (m.1 ≤ high)) → (low ≤ m.0) × (m.1 ≤ high)
    by_reach None e h rest = rest low h
    by_reach (Some n) e h rest = let a = rest n.1 h.1 in let b = reach_rises k n x e in (let c = a.0 in let d = h.0 in omega (arith, b, c, d), a.1)

-- An earlier result ends before a later one starts: places of calls rise; a look sees what its caller did before, as much as an
-- earlier look, and nothing that its caller does afterwards.
pub climbs_between : (k low : ℕ) (rs : List Mark) (high i j : ℕ) (q r : Mark) (m n : ℕ × ℕ) → Climbs k low rs high → i < j → slice_get rs i ≡ Some q → slice_get rs j ≡ Some r → reach k q ≡ Some m → reach k r ≡ Some n → m.1 ≤ n.0
climbs_between k low [] high i j q r m n h lt at there is other = absurd cc
climbs_between k low (x ∷ xs) high i zero q r m n h lt at there is other = absurd (omega (arith, lt))
climbs_between k low (x ∷ xs) high zero (suc j) q r m n h lt at there is other =
    let same : x ≡ q = cc in
    let here = subst (λ (o : Option (ℕ × ℕ)). Reaches k low o xs high) (ap (reach k) same ∙ is) h in
    (climbs_within k m.1 xs high j r n here.1 there other).0
climbs_between k low (x ∷ xs) high (suc i) (suc j) q r m n h lt at there is other = by_reach (reach k x) h (λ l c. climbs_between k l xs high i j q r m n c (omega (arith, lt)) at there is other)
  where
    by_reach : (o : Option (ℕ × ℕ)) → Reaches k low o xs high → ((l : ℕ) → Climbs k l xs high → m.1 ≤ n.0) → m.1 ≤ n.0
    by_reach None h rest = rest low h
    by_reach (Some p) h rest = rest p.1 h.1

-- one step more of a caller's calls
pub calls_more : (k c j n : ℕ) (rs : List Mark) (r : Mark) → n ≡ j + length rs → calls_on k c j (rs ++ r ∷ []) ≡ calls_on k c j rs ++ call_in k (record { caller = c; step = n }) r
calls_more k c j n [] r h = let e : j ≡ n = omega (arith, h) in append-nil (call_in k (record { caller = c; step = j }) r) ∙ ap (λ (i : ℕ). call_in k (record { caller = c; step = i }) r) e
calls_more k c j n (x ∷ xs) r h =
    ap (λ (l : List (ℕ × Who)). call_in k (record { caller = c; step = j }) x ++ l) (calls_more k c (suc j) n xs r (omega (arith, h)))
    ∙ sym (append_assoc (call_in k (record { caller = c; step = j }) x) (calls_on k c (suc j) xs) (call_in k (record { caller = c; step = n }) r))

-- ---- bags of calls

-- one entry more
pub named_more : (h : List Entry) (e : Entry) → named (h ++ e ∷ []) ≡ named h ++ named_at (length h) (who_of e)
named_more h e = owed_more (λ e (s : Unit {0}). s) (λ place e s. named_at place (who_of e)) tt h e

-- one result more of a caller
all_more : (k first c : ℕ) (r : Mark) (results : List (List Mark)) → c < length results → SameBag (all_calls k first (append_at c r results)) (all_calls k first results ++ call_in k (record { caller = first + c; step = length (at c results) }) r)
all_more k first c r [] lt t = absurd (omega (arith, lt))
all_more k first zero r (l ∷ ls) lt t =
    let z : first ≡ first + 0 = omega arith in
    let more = ap (λ (x : List (ℕ × Who)). sum_by t (x ++ all_calls k (suc first) ls)) (calls_more k first 0 (length l) l r (omega arith)) in
    let a = weigh_append t (calls_on k first 0 l ++ call_in k (record { caller = first; step = length l }) r) (all_calls k (suc first) ls) in
    let b = weigh_append t (calls_on k first 0 l) (call_in k (record { caller = first; step = length l }) r) in
    let c = weigh_append t (calls_on k first 0 l) (all_calls k (suc first) ls) in
    let f = weigh_append t (all_calls k first (l ∷ ls)) (call_in k (record { caller = first + 0; step = length l }) r) in
    let g = ap (λ (n : ℕ). sum_by t (call_in k (record { caller = n; step = length l }) r)) z in
    omega (arith, more, a, b, c, f, g)
all_more k first (suc c) r (l ∷ ls) lt t =
    let z : suc first + c ≡ first + suc c = omega arith in
    let rest = all_more k (suc first) c r ls (omega (arith, lt)) t in
    let a = weigh_append t (calls_on k first 0 l) (all_calls k (suc first) (append_at c r ls)) in
    let b = weigh_append t (all_calls k (suc first) ls) (call_in k (record { caller = suc first + c; step = length (at c ls) }) r) in
    let d = weigh_append t (calls_on k first 0 l) (all_calls k (suc first) ls) in
    let f = weigh_append t (all_calls k first (l ∷ ls)) (call_in k (record { caller = first + suc c; step = length (at c ls) }) r) in
    let g = ap (λ (n : ℕ). sum_by t (call_in k (record { caller = n; step = length (at c ls) }) r)) z in
    omega (arith, rest, a, b, d, f, g)

-- A history and the results that are longer by what names the same calls.
pub calls_in_more : (k c : ℕ) (r : Mark) (results : List (List Mark)) (h more : List Entry) → c < length results → CallsAreIn k h results → SameBag (named (h ++ more)) (named h ++ call_in k (record { caller = c; step = length (at c results) }) r)
    → CallsAreIn k (h ++ more) (append_at c r results)
calls_in_more k c r results h more lt calls same t =
    let z : 0 + c ≡ c = omega arith in
    let a = all_more k 0 c r results lt t in
    let b = weigh_append t (all_calls k 0 results) (call_in k (record { caller = 0 + c; step = length (at c results) }) r) in
    let d = weigh_append t (named h) (call_in k (record { caller = c; step = length (at c results) }) r) in
    let e = ap (λ (n : ℕ). sum_by t (call_in k (record { caller = n; step = length (at c results) }) r)) z in
    let f = calls t in
    let g = same t in
    omega (arith, a, b, d, e, f, g)

-- ---- places

le_cases : (a b : ℕ) → (a ≤ b) ⊎ (b < a)
le_cases a b = elim (cases_Bool (nat_le a b)) [ inl h ↦ inl (le_is a b h) | inr h ↦ inr (le_not a b h) ]
  where
    le_is : (m n : ℕ) → nat_le m n ≡ true → m ≤ n
    le_is m n h = leb-true m n h

    le_not : (m n : ℕ) → nat_le m n ≡ false → n < m
    le_not m n h = leb-false m n h

abbrev same_call : ℕ × Who → ℕ × Who → Bool
same_call a b = (a.0 == b.0) && ((a.1.caller == b.1.caller) && (a.1.step == b.1.step))

abbrev one_if : Bool → ℕ
one_if b = cond b 1 0

abbrev times : ℕ × Who → List (ℕ × Who) → ℕ
times x l = sum_by (λ y. one_if (same_call x y)) l

itself : (x : ℕ × Who) → same_call x x ≡ true
itself x = rw (eq-eqb x.0 x.0 refl, eq-eqb x.1.caller x.1.caller refl, eq-eqb x.1.step x.1.step refl) refl

once : (x : ℕ × Who) (b : Bool) → same_call x x ≡ b → times x (x ∷ []) ≡ one_if b
once x b is = let e = ap one_if is in omega (arith, e)

-- what is counted in a list of one is that one
one_there : (x y : ℕ × Who) → 1 ≤ times x (y ∷ []) → (y.0 ≡ x.0) × (y.1 ≡ x.1)
one_there x y h = elim (cases_Bool (same_call x y)) [
  | inl same ↦ (
      let parts = and_parts (x.0 == y.0) _ same in
      let names = and_parts (x.1.caller == y.1.caller) (x.1.step == y.1.step) parts.1 in
      let caller = eqb-true x.1.caller y.1.caller names.0 in
      let step = eqb-true x.1.step y.1.step names.1 in
      (sym (eqb-true x.0 y.0 parts.0), λ i. record { caller = sym caller i; step = sym step i })
      )
  | inr other ↦ absurd (let e = ap one_if other in omega (arith, h, e))
]

-- an entry that names a caller's step is counted
named_counts : (place : ℕ) (h : List Entry) (p : ℕ) (e : Entry) (who : Who) → slice_get h p ≡ Some e → who_of e ≡ Some who
    → 1 ≤ times (place + p, who) (owed (λ e (s : Unit {0}). s) (λ place e s. named_at place (who_of e)) place tt h)
named_counts place [] p e who is names = absurd cc
named_counts place (x ∷ xs) zero e who is names =
    let same : x ≡ e = cc in
    let z : place + 0 ≡ place = omega arith in
    let rest = owed (λ e (s : Unit {0}). s) (λ place e s. named_at place (who_of e)) (suc place) tt xs in
    let split = weigh_append (λ y. one_if (same_call (place + 0, who) y)) (named_at place (who_of x)) rest in
    let first : times (place + 0, who) (named_at place (who_of x)) ≡ 1 =
    ap (λ (o : Option Who). times (place + 0, who) (named_at place o)) (ap who_of same ∙ names)
    ∙ (ap (λ (n : ℕ). times (place + 0, who) ((n, who) ∷ [])) (sym z) ∙ once (place + 0, who) true (itself (place + 0, who))) in
    omega (arith, split, first)
named_counts place (x ∷ xs) (suc p) e who is names =
    let z : suc place + p ≡ place + suc p = omega arith in
    let rest = owed (λ e (s : Unit {0}). s) (λ place e s. named_at place (who_of e)) (suc place) tt xs in
    let split = weigh_append (λ y. one_if (same_call (place + suc p, who) y)) (named_at place (who_of x)) rest in
    let r = named_counts (suc place) xs p e who is names in
    let s = ap (λ (n : ℕ). times (n, who) rest) z in
    omega (arith, split, r, s)

-- an entry of a history that names this step, at this place
pub record NamesAt (h : List Entry) (p : ℕ) (who : Who) : Type 0 where
  pub entry : Entry
  pub stands : slice_get h p ≡ Some entry
  pub names : who_of entry ≡ Some who

counts_named : (place : ℕ) (h : List Entry) (p : ℕ) (who : Who) → 1 ≤ times (p, who) (owed (λ e (s : Unit {0}). s) (λ place e s. named_at place (who_of e)) place tt h) → (i : ℕ) × (p ≡ place + i) × NamesAt h i who
counts_named place [] p who h = absurd (omega (arith, h))
counts_named place (x ∷ xs) p who h = by_name (who_of x) refl (λ r. counts_named (suc place) xs p who r)
  where
    rest : List (ℕ × Who)
    rest = owed (λ e (s : Unit {0}). s) (λ place e s. named_at place (who_of e)) (suc place) tt xs

    later : (i : ℕ) × (p ≡ suc place + i) × NamesAt xs i who → (i : ℕ) × (p ≡ place + i) × NamesAt (x ∷ xs) i who
    later r = (suc r.0, (let e = r.1 in omega (arith, e)), record { entry = r.2.entry; stands = r.2.stands; names = r.2.names })

    by_name : (o : Option Who) → who_of x ≡ o → (1 ≤ times (p, who) rest → (i : ℕ) × (p ≡ suc place + i) × NamesAt xs i who) → (i : ℕ) × (p ≡ place + i) × NamesAt (x ∷ xs) i who
    by_name None is more =
        later (more (let e = ap (λ (o : Option Who). times (p, who) (named_at place o ++ rest)) is in omega (arith, h, e)))
    by_name (Some name) is more =
        let e = ap (λ (o : Option Who). times (p, who) (named_at place o ++ rest)) is in
        let split = weigh_append (λ y. one_if (same_call (p, who) y)) ((place, name) ∷ []) rest in
        elim (le_cases 1 (times (p, who) rest)) [
          | inl more_there ↦ later (more more_there)
          | inr none ↦ (
              let here = one_there (p, who) (place, name) (omega (arith, h, e, split, none)) in
              (zero, (let s = here.0 in omega (arith, s)), record { entry = x; stands = refl; names = is ∙ ap (λ w. Some w) here.1 })
              )
        ]

-- the calls of one caller, and of all
on_counts : (k c j : ℕ) (rs : List Mark) (i p : ℕ) → slice_get rs i ≡ Some (Call k p) → 1 ≤ times (p, record { caller = c; step = j + i }) (calls_on k c j rs)
on_counts k c j [] i p is = absurd cc
on_counts k c j (x ∷ xs) zero p is =
    let same : x ≡ Call k p = cc in
    let z : j + 0 ≡ j = omega arith in
    let it : ℕ × Who = (p, record { caller = c; step = j + 0 }) in
    let split = weigh_append (λ y. one_if (same_call it y)) (call_in k (record { caller = c; step = j }) x) (calls_on k c (suc j) xs) in
    let first : times it (call_in k (record { caller = c; step = j }) x) ≡ 1 =
    ap (λ (m : Mark). times it (call_in k (record { caller = c; step = j }) m)) same
    ∙ (ap (λ (b : Bool). times it (cond b ((p, record { caller = c; step = j }) ∷ []) [])) (eq-eqb k k refl)
    ∙ (ap (λ (n : ℕ). times it ((p, record { caller = c; step = n }) ∷ [])) (sym z) ∙ once it true (itself it))) in
    omega (arith, split, first)
on_counts k c j (x ∷ xs) (suc i) p is =
    let z : suc j + i ≡ j + suc i = omega arith in
    let it : ℕ × Who = (p, record { caller = c; step = j + suc i }) in
    let split = weigh_append (λ y. one_if (same_call it y)) (call_in k (record { caller = c; step = j }) x) (calls_on k c (suc j) xs) in
    let r = on_counts k c (suc j) xs i p is in
    let s = ap (λ (n : ℕ). times (p, record { caller = c; step = n }) (calls_on k c (suc j) xs)) z in
    omega (arith, split, r, s)

all_counts : (k first c : ℕ) (results : List (List Mark)) (i p : ℕ) → slice_get (at c results) i ≡ Some (Call k p) → 1 ≤ times (p, record { caller = first + c; step = i }) (all_calls k first results)
all_counts k first c [] i p is = absurd cc
all_counts k first zero (l ∷ ls) i p is =
    let z : first ≡ first + 0 = omega arith in
    let w : 0 + i ≡ i = omega arith in
    let it : ℕ × Who = (p, record { caller = first + 0; step = i }) in
    let split = weigh_append (λ y. one_if (same_call it y)) (calls_on k first 0 l) (all_calls k (suc first) ls) in
    let r = on_counts k first 0 l i p is in
    let s = ap (λ (n : ℕ). times (p, record { caller = n; step = 0 + i }) (calls_on k first 0 l)) z in
    let u = ap (λ (n : ℕ). times (p, record { caller = first + 0; step = n }) (calls_on k first 0 l)) w in
    omega (arith, split, r, s, u)
all_counts k first (suc c) (l ∷ ls) i p is =
    let z : suc first + c ≡ first + suc c = omega arith in
    let it : ℕ × Who = (p, record { caller = first + suc c; step = i }) in
    let split = weigh_append (λ y. one_if (same_call it y)) (calls_on k first 0 l) (all_calls k (suc first) ls) in
    let r = all_counts k (suc first) c ls i p is in
    let s = ap (λ (n : ℕ). times (p, record { caller = n; step = i }) (all_calls k (suc first) ls)) z in
    omega (arith, split, r, s)

one_call : (k : ℕ) (who name : Who) (m : Mark) (p : ℕ) → 1 ≤ times (p, who) (call_in k name m) → (m ≡ Call k p) × (name ≡ who)
one_call k who name (Look on n) p h = absurd (omega (arith, h))
one_call k who name Local p h = absurd (omega (arith, h))
one_call k who name (Call on q) p h = elim (cases_Bool (on == k)) [
  | inl same ↦ (
      let here = one_there (p, who) (q, name) (let e = ap (λ (b : Bool). times (p, who) (cond b ((q, name) ∷ []) [])) same in omega (arith, h, e)) in
      ((ap (λ (n : ℕ). Call n q) (eqb-true on k same) ∙ ap (λ (n : ℕ). Call k n) here.0), here.1)
      )
  | inr other ↦ absurd (let e = ap (λ (b : Bool). times (p, who) (cond b ((q, name) ∷ []) [])) other in omega (arith, h, e))
]

counts_on : (k c j : ℕ) (rs : List Mark) (p : ℕ) (who : Who) → 1 ≤ times (p, who) (calls_on k c j rs) → (i : ℕ) × (who.caller ≡ c) × (who.step ≡ j + i) × (slice_get rs i ≡ Some (Call k p))
counts_on k c j [] p who h = absurd (omega (arith, h))
counts_on k c j (x ∷ xs) p who h =
    let split = weigh_append (λ y. one_if (same_call (p, who) y)) (call_in k (record { caller = c; step = j }) x) (calls_on k c (suc j) xs) in
    elim (le_cases 1 (times (p, who) (calls_on k c (suc j) xs))) [
      | inl later ↦ (let r = counts_on k c (suc j) xs p who later in (suc r.0, r.1, (let e = r.2 in omega (arith, e)), r.3))
      | inr none ↦ (
          let here = one_call k who (record { caller = c; step = j }) x p (omega (arith, h, split, none)) in
          (zero, sym (ap (λ (w : Who). w.caller) here.1), (let e = ap (λ (w : Who). w.step) here.1 in omega (arith, e)), ap (λ m. Some m) here.0)
          )
    ]

counts_all : (k first : ℕ) (results : List (List Mark)) (p : ℕ) (who : Who) → 1 ≤ times (p, who) (all_calls k first results) → (c : ℕ) × (who.caller ≡ first + c) × (slice_get (at c results) who.step ≡ Some (Call k p))
counts_all k first [] p who h = absurd (omega (arith, h))
counts_all k first (l ∷ ls) p who h =
    let split = weigh_append (λ y. one_if (same_call (p, who) y)) (calls_on k first 0 l) (all_calls k (suc first) ls) in
    elim (le_cases 1 (times (p, who) (all_calls k (suc first) ls))) [
      | inl later ↦ (let r = counts_all k (suc first) ls p who later in (suc r.0, (let e = r.1 in omega (arith, e)), r.2))
      | inr none ↦ (
          let here = counts_on k first 0 l p who (omega (arith, h, split, none)) in
          let z : here.0 ≡ who.step = (let e = here.2 in omega (arith, e)) in
          (zero, (let e = here.1 in omega (arith, e)), subst (λ (n : ℕ). slice_get l n ≡ Some (Call k p)) z here.3)
          )
    ]

-- The entry of a call stands at its place and names its step.
pub call_stands : (k : ℕ) (h : List Entry) (results : List (List Mark)) (c j p : ℕ) → CallsAreIn k h results → slice_get (at c results) j ≡ Some (Call k p) → NamesAt h p (record { caller = c; step = j })
call_stands k h results c j p calls is =
    let who : Who = record { caller = 0 + c; step = j } in
    let e = calls (λ y. one_if (same_call (p, who) y)) in
    let n = all_counts k 0 c results j p is in
    let found = counts_named 0 h p who (omega (arith, e, n)) in
    let z : found.0 ≡ p = (let s = found.1 in omega (arith, s)) in
    let w : 0 + c ≡ c = omega arith in
    subst (λ (m : ℕ). NamesAt h p (record { caller = m; step = j })) w (subst (λ (m : ℕ). NamesAt h m who) z found.2)

-- An entry that names a caller's step is that step's call.
pub names_call : (k : ℕ) (h : List Entry) (results : List (List Mark)) (p : ℕ) (e : Entry) (who : Who) → CallsAreIn k h results → slice_get h p ≡ Some e → who_of e ≡ Some who → slice_get (at who.caller results) who.step ≡ Some (Call k p)
names_call k h results p e who calls is names =
    let same = calls (λ y. one_if (same_call (0 + p, who) y)) in
    let n = named_counts 0 h p e who is names in
    let found = counts_all k 0 results (0 + p) who (omega (arith, same, n)) in
    let z : found.0 ≡ who.caller = (let s = found.1 in omega (arith, s)) in
    let w : 0 + p ≡ p = omega arith in
    subst (λ (m : ℕ). slice_get (at who.caller results) who.step ≡ Some (Call k m)) w (subst (λ (m : ℕ). slice_get (at m results) who.step ≡ Some (Call k (0 + p))) z found.2)
