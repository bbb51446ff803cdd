-- The references that are live after one more entry.
use Rattle.std.proofs.Common.{ℕ, zero, suc, ◌+◌, ◌-◌, ◌<◌, ◌≤◌, ◌≡◌, ◌≢◌, ◌==◌, ◌&&◌, Bool, true, false, cond, not, List, [], ◌∷◌, ◌++◌, length, get_or, set, Option, Some, None, refl, ap, sym, ◌∙◌, arith, inl, inr, eq-eqb}
use Rattle.std.proofs.lemmas.Bool.{and_parts, eqb-true, false_from_ne_true, cases_eq, cases_order, false≢true}
use Rattle.std.proofs.lemmas.List.{length-append, length-set, get_or-set_same, get_or-set_other}
use Rattle.std.proofs.lemmas.List.Sums.{fold_push, sum_by_push}
use Rattle.wc_base.specs.declared.who.By.{By}
use Rattle.wc_pool.specs.declared.entry.PoolEntry.{PoolEntry}
use Rattle.wc_pool.specs.declared.entry.PoolOp.{PoolOp}
use Rattle.wc_pool.specs.declared.entry.PoolOp.TheVariants as op
use Rattle.wc_pool.specs.Bag.{resource_after, resource_of, is_number, is_live, makes, mints, resources_made, references_made, count_below, references_of, is_held, is_legal_next}
use Rattle.legal_fronts.specs.Pools.{IsBag, is_end}
use Rattle.legal_fronts.proofs.Counts.{one_if, count_same, count_less, count_more}

-- ---- numbers and lists

apart_eqb : (a b : ℕ) → a ≢ b → (a == b) ≡ false
apart_eqb a b apart = false_from_ne_true (a == b) (λ same. apart (eqb-true a b same))

same_eqb : (a : ℕ) → (a == a) ≡ true
same_eqb a = eq-eqb a a refl

-- what a list has at its end and past it
past : {X : Type 0} → (xs : List X) (n : ℕ) (d : X) → length xs ≤ n → get_or xs n d ≡ d
past [] n d le = refl
past (x ∷ xs) zero d le = absurd (omega (arith, le))
past (x ∷ xs) (suc n) d le = past xs n d (omega (arith, le))

pushed_here : {X : Type 0} → (xs : List X) (x d : X) → get_or (xs ++ x ∷ []) (length xs) d ≡ x
pushed_here [] x d = refl
pushed_here (y ∷ ys) x d = pushed_here ys x d

pushed_else : {X : Type 0} → (xs : List X) (x d : X) (n : ℕ) → n ≢ length xs → get_or (xs ++ x ∷ []) n d ≡ get_or xs n d
pushed_else [] x d zero apart = absurd (apart refl)
pushed_else [] x d (suc n) apart = refl
pushed_else (y ∷ ys) x d zero apart = refl
pushed_else (y ∷ ys) x d (suc n) apart = pushed_else ys x d n (λ same. apart (omega (arith, same)))

-- ---- one more entry

more_resource : (f : ℕ) (h : List PoolEntry) (e : PoolEntry) → resource_of f (h ++ e ∷ []) ≡ resource_after f (resource_of f h) e
more_resource f h e = fold_push (resource_after f) None h e

more_minted : (h : List PoolEntry) (e : PoolEntry) → references_made (h ++ e ∷ []) ≡ references_made h + one_if (mints e)
more_minted h e = sum_by_push (λ x. one_if (mints x)) h e

more_made : (h : List PoolEntry) (e : PoolEntry) → resources_made (h ++ e ∷ []) ≡ resources_made h + one_if (makes e)
more_made h e = sum_by_push (λ x. one_if (makes x)) h e

-- a reference to a resource is made
record Mints (h new : List PoolEntry) (r f : ℕ) : Type 0 where
  next : f ≡ references_made h
  more : references_made new ≡ suc (references_made h)
  after : (g : ℕ) → resource_of g new ≡ cond (f == g) (Some r) (resource_of g h)

-- a reference to a resource ends
record Ends (h new : List PoolEntry) (r f : ℕ) : Type 0 where
  was : resource_of f h ≡ Some r
  made : f < references_made h
  same : references_made new ≡ references_made h
  after : (g : ℕ) → resource_of g new ≡ cond (f == g) None (resource_of g h)

minted_here : (h new : List PoolEntry) (r f : ℕ) → Mints h new r f → resource_of f new ≡ Some r
minted_here h new r f m = m.after f ∙ ap (λ (b : Bool). cond b (Some r) (resource_of f h)) (same_eqb f)

minted_else : (h new : List PoolEntry) (r f g : ℕ) → Mints h new r f → g ≢ f → resource_of g new ≡ resource_of g h
minted_else h new r f g m apart = m.after g ∙ ap (λ (b : Bool). cond b (Some r) (resource_of g h)) (apart_eqb f g (λ e. apart (sym e)))

ended_here : (h new : List PoolEntry) (r f : ℕ) → Ends h new r f → resource_of f new ≡ None
ended_here h new r f m = m.after f ∙ ap (λ (b : Bool). cond b None (resource_of f h)) (same_eqb f)

ended_else : (h new : List PoolEntry) (r f g : ℕ) → Ends h new r f → g ≢ f → resource_of g new ≡ resource_of g h
ended_else h new r f g m apart = m.after g ∙ ap (λ (b : Bool). cond b None (resource_of g h)) (apart_eqb f g (λ e. apart (sym e)))

-- how many references a resource has then
mint_count : (s : ℕ) (h new : List PoolEntry) (r f : ℕ) → Mints h new r f → references_of s new ≡ references_of s h + one_if (r == s)
mint_count s h new r f m =
    let n = references_made h in
    let p : ℕ → Bool = λ g. is_live s g new in
    let q : ℕ → Bool = λ g. is_live s g h in
    let at : p n ≡ (r == s) = ap p (sym m.next) ∙ ap (λ (o : Option ℕ). is_number o s) (minted_here h new r f m) in
    let rest = count_same p q n (λ g lt. ap (λ (o : Option ℕ). is_number o s) (minted_else h new r f g m (λ e. omega (arith, e, lt, m.next)))) in
    ap (count_below p) m.more ∙ (count_more p n (r == s) at ∙ ap (λ (k : ℕ). k + one_if (r == s)) rest)

end_count : (h new : List PoolEntry) (r f : ℕ) → Ends h new r f → references_of r new + 1 ≡ references_of r h
end_count h new r f m =
    let n = references_made h in
    let t : Option ℕ → Bool = λ o. is_number o r in
    let p : ℕ → Bool = λ g. is_live r g new in
    let q : ℕ → Bool = λ g. is_live r g h in
    ap (λ (k : ℕ). count_below p k + 1) m.same ∙ count_less q p n f m.made (ap t m.was ∙ same_eqb r) (ap t (ended_here h new r f m)) (λ g apart. ap t (sym (ended_else h new r f g m apart)))

end_keeps : (s : ℕ) (h new : List PoolEntry) (r f : ℕ) → Ends h new r f → s ≢ r → references_of s new ≡ references_of s h
end_keeps s h new r f m apart =
    let n = references_made h in
    let t : Option ℕ → Bool = λ o. is_number o s in
    let p : ℕ → Bool = λ g. is_live s g new in
    let q : ℕ → Bool = λ g. is_live s g h in
    ap (count_below p) m.same ∙ count_same p q n (λ g lt. elim (cases_eq g f) [
      | inl here ↦ ap p here ∙ (ap t (ended_here h new r f m) ∙ (sym (apart_eqb r s (λ x. apart (sym x))) ∙ (ap t (sym m.was) ∙ ap q (sym here))))
      | inr other ↦ ap t (ended_else h new r f g m other)
    ])

some_is : (a b : ℕ) → Some a ≡ Some b → a ≡ b
some_is a b e = cc

live_is : (o : Option ℕ) (r : ℕ) → is_number o r ≡ true → o ≡ Some r
live_is None r h = absurd cc
live_is (Some k) r h = ap Some (eqb-true k r h)

-- ---- what is kept, after one more entry

module _ {h : List PoolEntry} {holders : List (Option ℕ)} {counts : List ℕ} (bag : IsBag h holders counts) where
  -- a live reference was made
  live_made : (f r : ℕ) → resource_of f h ≡ Some r → f < references_made h
  live_made f r live = elim (cases_order f (references_made h)) [
    | inl same ↦ absurd (let none = past holders f None (omega (arith, same, bag.minted)) in let at = bag.holds f in cc)
    | inr o ↦ elim o [ inl low ↦ low | inr high ↦ absurd (let none = past holders f None (omega (arith, high, bag.minted)) in let at = bag.holds f in cc) ]
  ]

  -- a resource that has references was made
  held_made : (r : ℕ) → references_of r h ≢ 0 → r < length counts
  held_made r some = elim (cases_order r (length counts)) [
    | inl same ↦ absurd (some (sym (bag.counted r) ∙ past counts r 0 (omega (arith, same))))
    | inr o ↦ elim o [ inl low ↦ low | inr high ↦ absurd (some (sym (bag.counted r) ∙ past counts r 0 (omega (arith, high)))) ]
  ]

-- a reference more, with a resource's count one higher
bag_mint : (h new : List PoolEntry) (holders : List (Option ℕ)) (counts others : List ℕ) (r f : ℕ) → IsBag h holders counts → Mints h new r f → length others ≡ resources_made new → r < resources_made new → resources_made h ≤ resources_made new
    → ((s : ℕ) → get_or others s 0 ≡ get_or counts s 0 + one_if (r == s)) → IsBag new (holders ++ Some r ∷ []) others
bag_mint h new holders counts others r f bag m made within grows count = record {
  minted = omega (arith, length-append holders (Some r ∷ []), bag.minted, m.more);
  made = made;
  holds = λ g. elim (cases_eq g f) [
    | inl same ↦ rw same (let end : f ≡ length holders = m.next ∙ sym bag.minted in ap (λ (k : ℕ). get_or (holders ++ Some r ∷ []) k None) end ∙ (pushed_here holders (Some r) None ∙ sym (minted_here h new r f m)))
    | inr apart ↦ pushed_else holders (Some r) None g (λ e. apart (omega (arith, e, bag.minted, m.next))) ∙ (bag.holds g ∙ sym (minted_else h new r f g m apart))
  ];
  counted = λ s. count s ∙ (ap (λ (k : ℕ). k + one_if (r == s)) (bag.counted s) ∙ sym (mint_count s h new r f m));
  numbered = λ g s live. elim (cases_eq g f) [
    | inl same ↦ (let e = some_is s r (sym live ∙ (ap (λ (k : ℕ). resource_of k new) same ∙ minted_here h new r f m)) in omega (arith, e, within))
    | inr apart ↦ (let lt = bag.numbered g s (sym (minted_else h new r f g m apart) ∙ live) in omega (arith, lt, grows))
  ];
}

count_at_end : (counts : List ℕ) (r s : ℕ) → r ≡ length counts → get_or (counts ++ 1 ∷ []) s 0 ≡ get_or counts s 0 + one_if (r == s)
count_at_end counts r s end = elim (cases_eq s r) [
  | inl same ↦ rw (same, end, pushed_here counts 1 0, past counts (length counts) 0 (omega arith), same_eqb (length counts)) refl
  | inr apart ↦ (let other = ap one_if (apart_eqb r s (λ e. apart (sym e))) in let at = pushed_else counts 1 0 s (λ e. apart (omega (arith, e, end))) in omega (arith, other, at))
]

count_one_more : (counts : List ℕ) (r s : ℕ) → r < length counts → get_or (set counts r (get_or counts r 0 + 1)) s 0 ≡ get_or counts s 0 + one_if (r == s)
count_one_more counts r s within = elim (cases_eq s r) [
  | inl same ↦ rw same (let at = get_or-set_same counts r (get_or counts r 0 + 1) 0 within in let here = ap one_if (same_eqb r) in omega (arith, at, here))
  | inr apart ↦ (let other = ap one_if (apart_eqb r s (λ e. apart (sym e))) in let at = get_or-set_other counts r s (get_or counts r 0 + 1) 0 apart in omega (arith, other, at))
]

-- an entry of a cause
abbrev entry_by : By → PoolOp → PoolEntry
entry_by cause o = record { by = cause; op = o }

pub bag_make : (h : List PoolEntry) (e : PoolEntry) (holders : List (Option ℕ)) (counts : List ℕ) (r f : ℕ) → e.op ≡ op.Make r f → IsBag h holders counts → is_legal_next h e ≡ true → IsBag (h ++ e ∷ []) (holders ++ Some r ∷ []) (counts ++ 1 ∷ [])
bag_make h e holders counts r f is bag legal =
    let parts = and_parts (r == resources_made h) (f == references_made h) (rw is at legal) in
    let first = eqb-true r (resources_made h) parts.0 in
    let second = eqb-true f (references_made h) parts.1 in
    let made = more_made h e in
    let one = ap (λ (o : PoolOp). one_if (makes (entry_by e.by o))) is in
    let minted = more_minted h e in
    let two = ap (λ (o : PoolOp). one_if (mints (entry_by e.by o))) is in
    bag_mint h (h ++ e ∷ []) holders counts (counts ++ 1 ∷ []) r f bag
    (record { next = second; more = omega (arith, minted, two); after = λ g. more_resource g h e ∙ ap (λ (o : PoolOp). resource_after g (resource_of g h) (entry_by e.by o)) is })
    (omega (arith, length-append counts (1 ∷ []), bag.made, made, one)) (omega (arith, first, made, one)) (omega (arith, made))
    (λ s. count_at_end counts r s (omega (arith, first, bag.made)))

pub bag_clone : (h : List PoolEntry) (e : PoolEntry) (holders : List (Option ℕ)) (counts : List ℕ) (r f : ℕ) → e.op ≡ op.Clone r f → IsBag h holders counts → is_legal_next h e ≡ true → IsBag (h ++ e ∷ []) (holders ++ Some r ∷ []) (set counts r (get_or counts r 0 + 1))
bag_clone h e holders counts r f is bag legal =
    let parts = and_parts (is_held r h) (f == references_made h) (rw is at legal) in
    let second = eqb-true f (references_made h) parts.1 in
    let within = held_made bag r (λ none. false≢true (sym (ap (λ (n : ℕ). not (n == 0)) none) ∙ parts.0)) in
    let made = more_made h e in
    let one = ap (λ (o : PoolOp). one_if (makes (entry_by e.by o))) is in
    let minted = more_minted h e in
    let two = ap (λ (o : PoolOp). one_if (mints (entry_by e.by o))) is in
    bag_mint h (h ++ e ∷ []) holders counts (set counts r (get_or counts r 0 + 1)) r f bag
    (record { next = second; more = omega (arith, minted, two); after = λ g. more_resource g h e ∙ ap (λ (o : PoolOp). resource_after g (resource_of g h) (entry_by e.by o)) is })
    (omega (arith, length-set counts r (get_or counts r 0 + 1), bag.made, made, one)) (omega (arith, within, bag.made, made)) (omega (arith, made))
    (λ s. count_one_more counts r s within)

ends : (h : List PoolEntry) (e : PoolEntry) (holders : List (Option ℕ)) (counts : List ℕ) (r f : ℕ) (last : Bool) → e.op ≡ op.End r f last → IsBag h holders counts → resource_of f h ≡ Some r → Ends h (h ++ e ∷ []) r f
ends h e holders counts r f last is bag was =
    let minted = more_minted h e in
    let none = ap (λ (o : PoolOp). one_if (mints (entry_by e.by o))) is in
    record { was = was; made = live_made bag f r was; same = omega (arith, minted, none); after = λ g. more_resource g h e ∙ ap (λ (o : PoolOp). resource_after g (resource_of g h) (entry_by e.by o)) is }

-- what makes an entry legal, by what it does
abbrev next_by : List PoolEntry → List PoolEntry → PoolOp → Bool
next_by h new (op.Make r f) = (r == resources_made h) && (f == references_made h)
next_by h new (op.Clone r f) = is_held r h && (f == references_made h)
next_by h new (op.End r f last) = is_live r f h && cond last (not (is_held r new)) (is_held r new)

next_is : (h : List PoolEntry) (cause : By) (o : PoolOp) → is_legal_next h (entry_by cause o) ≡ next_by h (h ++ entry_by cause o ∷ []) o
next_is h cause (op.Make r f) = refl
next_is h cause (op.Clone r f) = refl
next_is h cause (op.End r f last) = refl

end_next : (h : List PoolEntry) (e : PoolEntry) (r f : ℕ) (last : Bool) → e.op ≡ op.End r f last → is_legal_next h e ≡ next_by h (h ++ e ∷ []) (op.End r f last)
end_next h e r f last is = next_is h e.by e.op ∙ ap (next_by h (h ++ e ∷ [])) is

bag_less : (h new : List PoolEntry) (holders : List (Option ℕ)) (counts : List ℕ) (r f : ℕ) → IsBag h holders counts → Ends h new r f → resources_made new ≡ resources_made h → IsBag new (set holders f None) (set counts r (get_or counts r 0 - 1))
bag_less h new holders counts r f bag m made =
    let low : f < length holders = omega (arith, m.made, bag.minted) in
    let within : r < length counts = omega (arith, bag.numbered f r m.was, bag.made) in
    record {
      minted = omega (arith, length-set holders f None, bag.minted, m.same);
      made = omega (arith, length-set counts r (get_or counts r 0 - 1), bag.made, made);
      holds = λ g. elim (cases_eq g f) [
        | inl same ↦ rw same (get_or-set_same holders f None None low ∙ sym (ended_here h new r f m))
        | inr apart ↦ get_or-set_other holders f g None None apart ∙ (bag.holds g ∙ sym (ended_else h new r f g m apart))
      ];
      counted = λ s. elim (cases_eq s r) [
        | inl same ↦ rw same (let at = get_or-set_same counts r (get_or counts r 0 - 1) 0 within in let was = bag.counted r in let less = end_count h new r f m in omega (arith, at, was, less))
        | inr apart ↦ get_or-set_other counts r s (get_or counts r 0 - 1) 0 apart ∙ (bag.counted s ∙ sym (end_keeps s h new r f m apart))
      ];
      numbered = λ g s live. elim (cases_eq g f) [
        | inl same ↦ absurd (let none = ap (λ (k : ℕ). resource_of k new) same ∙ ended_here h new r f m in cc)
        | inr apart ↦ (let lt = bag.numbered g s (sym (ended_else h new r f g m apart) ∙ live) in omega (arith, lt, made))
      ];
    }

pub bag_end : (h : List PoolEntry) (e : PoolEntry) (holders : List (Option ℕ)) (counts : List ℕ) (r f : ℕ) (last : Bool) → e.op ≡ op.End r f last → IsBag h holders counts → is_legal_next h e ≡ true → IsBag (h ++ e ∷ []) (set holders f None) (set counts r (get_or counts r 0 - 1))
bag_end h e holders counts r f last is bag legal =
    let new = h ++ e ∷ [] in
    let parts = and_parts (is_live r f h) (cond last (not (is_held r new)) (is_held r new)) (sym (end_next h e r f last is) ∙ legal) in
    let made = more_made h e in
    let none = ap (λ (o : PoolOp). one_if (makes (entry_by e.by o))) is in
    bag_less h new holders counts r f bag (ends h e holders counts r f last is bag (live_is (resource_of f h) r parts.0)) (omega (arith, made, none))

-- ---- whether an end is legal

one_left : (last : Bool) (n c : ℕ) → n + 1 ≡ c → is_end last c ≡ cond last (not (not (n == 0))) (not (n == 0))
one_left true zero c is = eq-eqb c 1 (omega (arith, is))
one_left true (suc n) c is = rw (apart_eqb c 1 (λ e. omega (arith, is, e)), apart_eqb (suc n) 0 (λ e. omega (arith, e))) refl
one_left false zero c is = ap not (eq-eqb c 1 (omega (arith, is)))
one_left false (suc n) c is = rw (apart_eqb c 1 (λ e. omega (arith, is, e)), apart_eqb (suc n) 0 (λ e. omega (arith, e))) refl

pub end_admits : (h : List PoolEntry) (e : PoolEntry) (holders : List (Option ℕ)) (counts : List ℕ) (r f : ℕ) (last : Bool) → e.op ≡ op.End r f last → is_number (get_or holders f None) r ≡ true → IsBag h holders counts → is_end last (get_or counts r 0) ≡ is_legal_next h e
end_admits h e holders counts r f last is live bag =
    let new = h ++ e ∷ [] in
    let was : is_number (resource_of f h) r ≡ true = ap (λ (o : Option ℕ). is_number o r) (sym (bag.holds f)) ∙ live in
    let m = ends h e holders counts r f last is bag (live_is (resource_of f h) r was) in
    let less = end_count h new r f m in
    let one = one_left last (references_of r new) (get_or counts r 0) (less ∙ sym (bag.counted r)) in
    one ∙ (ap (λ (b : Bool). b && cond last (not (is_held r new)) (is_held r new)) (sym was) ∙ sym (end_next h e r f last is))
