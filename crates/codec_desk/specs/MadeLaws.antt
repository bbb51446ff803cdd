-- Laws of the entries that seats made.
use Rattle.std.proofs.Common.{ℕ, ◌≡◌, ◌+◌, Bool, true, false, cond, eqb, eqb-true, List, [], ◌∷◌, ◌++◌, refl, ap, sym, subst, ◌∙◌, append-nil, arith}
use Rattle.std.specs.List.{sum_by}
use Rattle.std.proofs.lemmas.List.Sums.{sum_by-append}
use Rattle.wc_base.specs.Views.{Log}
use Rattle.wc_base.specs.declared.seat.Passage.{Passage}
use Rattle.wc_base.specs.declared.seat.Passage.TheVariants.{Made, Look}
use Rattle.wc_base.specs.declared.seat.View.{View}
use Rattle.codec_accounts.specs.Bags.{SameBag}
use Rattle.seat_lock.specs.Logs.{AreApart, NoneBy, AllBy, Continues, entry_in, entries_of}
use Rattle.seat_lock.specs.Own.{is_in}
use Rattle.seat_lock.specs.Since.{entries_by, MadeSince}
use Rattle.shared_codec.specs.DueLaws.{not_in, has_in}
use Rattle.shared_codec.specs.Order.{made_by}

-- ---- numbers of two lists

pub in_first : (n : ℕ) (a b : List ℕ) → is_in n a ≡ true → is_in n (a ++ b) ≡ true
in_first n [] b h = absurd cc
in_first n (m ∷ ms) b h = by (in_first n ms b) (eqb n m) h
  where
    by : (is_in n ms ≡ true → is_in n (ms ++ b) ≡ true) → (t : Bool) → cond t true (is_in n ms) ≡ true → cond t true (is_in n (ms ++ b)) ≡ true
    by rest true is = refl
    by rest false is = rest is

pub in_second : (n : ℕ) (a b : List ℕ) → is_in n a ≡ false → is_in n (a ++ b) ≡ is_in n b
in_second n [] b h = refl
in_second n (m ∷ ms) b h = by (in_second n ms b) (eqb n m) h
  where
    by : (is_in n ms ≡ false → is_in n (ms ++ b) ≡ is_in n b) → (t : Bool) → cond t true (is_in n ms) ≡ false → cond t true (is_in n (ms ++ b)) ≡ is_in n b
    by rest true is = absurd cc
    by rest false is = rest is

pub in_one : (n : ℕ) (a b : List ℕ) → AreApart a b → is_in n a ≡ true → is_in n b ≡ false
in_one n [] b apart h = absurd cc
in_one n (m ∷ ms) b apart h = by (in_one n ms b apart.1) (eqb n m) refl h
  where
    by : (is_in n ms ≡ true → is_in n b ≡ false) → (t : Bool) → eqb n m ≡ t → cond t true (is_in n ms) ≡ true → is_in n b ≡ false
    by rest true same is = subst (λ (x : ℕ). is_in x b ≡ false) (sym (eqb-true n m same)) (not_in m b apart.0)
    by rest false same is = rest is

module _ {E : Type 0} where
  -- ---- one log after another

  in_both : (p : Passage E) (a b : List E) → entry_in p (a ++ b) ≡ entry_in p a ++ b
  in_both (Made e) a b = refl
  in_both Look a b = refl

  cond_both : (c : Bool) (p : Passage E) (a b : List E) → cond c (entry_in p (a ++ b)) (a ++ b) ≡ cond c (entry_in p a) a ++ b
  cond_both true p a b = in_both p a b
  cond_both false p a b = refl

  pub entries_append : (numbers : List ℕ) (a b : Log E) → entries_by numbers (a ++ b) ≡ entries_by numbers a ++ entries_by numbers b
  entries_append numbers [] b = refl
  entries_append numbers (p ∷ ps) b = ap (λ (l : List E). cond (is_in p.0 numbers) (entry_in p.1 l) l) (entries_append numbers ps b) ∙ cond_both (is_in p.0 numbers) p.1 (entries_by numbers ps) (entries_by numbers b)

  -- passages of others make none of a seat's entries
  pub entries_none : (numbers : List ℕ) (l : Log E) → NoneBy numbers l → entries_by numbers l ≡ []
  entries_none numbers [] h = refl
  entries_none numbers (p ∷ ps) h = ap (λ (b : Bool). cond b (entry_in p.1 (entries_by numbers ps)) (entries_by numbers ps)) (not_in p.0 numbers h.0) ∙ entries_none numbers ps h.1

  pub entries_continue : (numbers : List ℕ) (a b : Log E) → Continues numbers a b → entries_by numbers b ≡ entries_by numbers a
  entries_continue numbers a b goes =
      ap (entries_by numbers) goes.is
      ∙ (entries_append numbers a goes.more
      ∙ (ap (λ (l : List E). entries_by numbers a ++ l) (entries_none numbers goes.more goes.by_others)
      ∙ append-nil (entries_by numbers a)))

  -- what a seat made grows by what it made since
  pub made_more : (v w : View E) (es : List E) → MadeSince v w es → made_by w ≡ made_by v ++ es
  made_more v w es since =
      (λ i. entries_by (since.numbers i) (since.longer i))
      ∙ (entries_append v.numbers v.log since.more ∙ ap (λ (l : List E). made_by v ++ l) since.made)

  -- ---- two seats

  weigh_in : (t : E → ℕ) (p : Passage E) (l : List E) → sum_by t (entry_in p l) ≡ sum_by t (entry_in p []) + sum_by t l
  weigh_in t (Made e) l = sum_by-append t (e ∷ []) l
  weigh_in t Look l = omega arith

  one_more : (t : E → ℕ) (p : Passage E) (a b ab : List E) (one other both : Bool) → (one ≡ true → other ≡ false) → (one ≡ true → both ≡ true) → (one ≡ false → both ≡ other)
      → sum_by t ab ≡ sum_by t a + sum_by t b → sum_by t (cond both (entry_in p ab) ab) ≡ sum_by t (cond one (entry_in p a) a) + sum_by t (cond other (entry_in p b) b)
  one_more t p a b ab true other both apart up same e =
      let l = weigh_in t p ab in
      let r = weigh_in t p a in
      let core : sum_by t (entry_in p ab) ≡ sum_by t (entry_in p a) + sum_by t b = omega (arith, l, r, e) in
      (λ i. sum_by t (cond (up refl i) (entry_in p ab) ab)) ∙ (core ∙ (λ i. sum_by t (entry_in p a) + sum_by t (cond (sym (apart refl) i) (entry_in p b) b)))
  one_more t p a b ab false true both apart up same e =
      let l = weigh_in t p ab in
      let r = weigh_in t p b in
      let core : sum_by t (entry_in p ab) ≡ sum_by t a + sum_by t (entry_in p b) = omega (arith, l, r, e) in
      (λ i. sum_by t (cond (same refl i) (entry_in p ab) ab)) ∙ core
  one_more t p a b ab false false both apart up same e = (λ i. sum_by t (cond (same refl i) (entry_in p ab) ab)) ∙ e

  both_made : (t : E → ℕ) (one other : List ℕ) (l : Log E) → AreApart one other → sum_by t (entries_by (one ++ other) l) ≡ sum_by t (entries_by one l) + sum_by t (entries_by other l)
  both_made t one other [] apart = refl
  both_made t one other (p ∷ ps) apart =
      one_more t p.1 (entries_by one ps) (entries_by other ps) (entries_by (one ++ other) ps) (is_in p.0 one) (is_in p.0 other) (is_in p.0 (one ++ other))
      (in_one p.0 one other apart) (in_first p.0 one other) (in_second p.0 one other) (both_made t one other ps apart)

  -- of seats that are joined it adds up
  pub made_joined : (v w u : View E) → u.numbers ≡ v.numbers ++ w.numbers → Continues v.numbers v.log u.log → Continues w.numbers w.log u.log → AreApart v.numbers w.numbers → SameBag (made_by u) (made_by v ++ made_by w)
  made_joined v w u numbers one other apart t =
      let all = both_made t v.numbers w.numbers u.log apart in
      let split = sum_by-append t (made_by v) (made_by w) in
      ap (λ (l : List ℕ). sum_by t (entries_by l u.log)) numbers
      ∙ (all
      ∙ ((λ i. sum_by t (entries_continue v.numbers v.log u.log one i) + sum_by t (entries_continue w.numbers w.log u.log other i))
      ∙ sym split))

  -- ---- all passages

  pub made_all : (numbers : List ℕ) (l : Log E) → AllBy numbers l → entries_by numbers l ≡ entries_of l
  made_all numbers [] h = refl
  made_all numbers (p ∷ ps) h = ap (λ (b : Bool). cond b (entry_in p.1 (entries_by numbers ps)) (entries_by numbers ps)) (has_in p.0 numbers h.0) ∙ ap (entry_in p.1) (made_all numbers ps h.1)
