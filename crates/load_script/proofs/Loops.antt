-- Bytes and steps that a loop appends, one round after another.
use Rattle.std.proofs.Common.{ℕ, zero, suc, ◌≡◌, ◌+◌, ◌-◌, ◌*◌, ◌<◌, ◌≤◌, List, [], ◌∷◌, ◌++◌, refl, sym, ap, subst, ◌∙◌, arith, append_assoc, append-nil, codes}
use Rattle.script_types.specs.declared.script.CallerItem.{CallerItem}
use Rattle.script_types.specs.declared.steps.Step.{Step}
use Rattle.load_script.specs.Draws.{drawn, top_byte, state_after, bytes_drawn}
use Rattle.load_script.specs.Script.{makes, decodes, chunk_steps, takes, take_steps, caller_from, callers}

-- so many draws, and then so many more
pub state_after-add : (m n x : ℕ) → state_after (m + n) x ≡ state_after n (state_after m x)
unfolding state_after
state_after-add zero n x = let same : 0 + n ≡ n = omega arith in ap (λ k. state_after k x) same
state_after-add (suc m) n x = let same : suc m + n ≡ suc (m + n) = omega arith in ap (λ k. state_after k x) same ∙ state_after-add m n (drawn x)

one_less : (count n : ℕ) → n < count → count - n ≡ suc (count - (n + 1))
one_less count n lt = omega (arith, lt)

pub bytes_next : (count n x y b : ℕ) (items more all : List ℕ) → n < count → y ≡ drawn x → b ≡ top_byte y → more ≡ items ++ b ∷ []
    → items ++ bytes_drawn (count - n) x ≡ all → more ++ bytes_drawn (count - (n + 1)) y ≡ all
unfolding bytes_drawn
bytes_next count n x y b items more all lt s t m h =
    rw (m, t, s, append_assoc) (subst (λ k. items ++ bytes_drawn k x ≡ all) (one_less count n lt) h)

pub state_next : (count n x y all : ℕ) → n < count → y ≡ drawn x → state_after (count - n) x ≡ all → state_after (count - (n + 1)) y ≡ all
unfolding state_after
state_next count n x y all lt s h = rw s (subst (λ k. state_after k x ≡ all) (one_less count n lt) h)

pub chunk_next : (on count n x y : ℕ) (m d : Step) (items more most all : List Step) → n < count → y ≡ state_after 160 x → m ≡ makes n x → d ≡ decodes on n
    → more ≡ items ++ m ∷ [] → most ≡ more ++ d ∷ []
    → items ++ chunk_steps on (count - n) n x ≡ all → most ++ chunk_steps on (count - (n + 1)) (n + 1) y ≡ all
unfolding chunk_steps
chunk_next on count n x y m d items more most all lt s p q a b h =
    let next : suc n ≡ n + 1 = omega arith in
    let unfolded : items ++ chunk_steps on (suc (count - (n + 1))) n x ≡ all = subst (λ k. items ++ chunk_steps on k n x ≡ all) (one_less count n lt) h in
    rw (b, a, p, q, s, append_assoc, append_assoc)
    (subst (λ k. items ++ makes n x ∷ decodes on n ∷ chunk_steps on (count - (n + 1)) k (state_after 160 x) ≡ all) next unfolded)

pub draws_next : (count n x y all : ℕ) → n < count → y ≡ state_after 160 x → state_after ((count - n) * 160) x ≡ all → state_after ((count - (n + 1)) * 160) y ≡ all
draws_next count n x y all lt s h =
    let split : (count - n) * 160 ≡ 160 + (count - (n + 1)) * 160 = omega (arith, lt) in
    rw s (sym (state_after-add 160 ((count - (n + 1)) * 160) x) ∙ (ap (λ k. state_after k x) (sym split) ∙ h))

pub take_next : (on count n first : ℕ) (s : Step) (items more all : List Step) → n < count → s ≡ takes on (first + n) → more ≡ items ++ s ∷ []
    → items ++ take_steps on (count - n) (first + n) ≡ all → more ++ take_steps on (count - (n + 1)) (first + (n + 1)) ≡ all
unfolding take_steps
take_next on count n first s items more all lt p m h =
    let next : first + (n + 1) ≡ suc (first + n) = omega arith in
    rw (m, p, append_assoc, next) (subst (λ k. items ++ take_steps on k (first + n) ≡ all) (one_less count n lt) h)

-- ---- the end of a loop

pub all_bytes : (count n x : ℕ) (items : List ℕ) → count ≤ n → items ++ bytes_drawn (count - n) x ≡ items
unfolding bytes_drawn
all_bytes count n x items le = let none : count - n ≡ 0 = omega (arith, le) in rw (none, append-nil) refl

pub all_states : (count n x : ℕ) → count ≤ n → state_after (count - n) x ≡ x
unfolding state_after
all_states count n x le = let none : count - n ≡ 0 = omega (arith, le) in rw none refl

pub all_chunks : (on count n m x : ℕ) (items : List Step) → count ≤ n → items ++ chunk_steps on (count - n) m x ≡ items
unfolding chunk_steps
all_chunks on count n m x items le = let none : count - n ≡ 0 = omega (arith, le) in rw (none, append-nil) refl

pub all_draws : (count n x : ℕ) → count ≤ n → state_after ((count - n) * 160) x ≡ x
unfolding state_after
all_draws count n x le = let none : (count - n) * 160 ≡ 0 = omega (arith, le) in rw none refl

pub all_takes : (on count n number : ℕ) (items : List Step) → count ≤ n → items ++ take_steps on (count - n) number ≡ items
unfolding take_steps
all_takes on count n number items le = let none : count - n ≡ 0 = omega (arith, le) in rw (none, append-nil) refl

-- ---- the callers, one after the other

from_none : (m x : ℕ) → state_after (0 * m) x ≡ x
unfolding state_after
from_none m x = let none : 0 * m ≡ 0 = omega arith in rw none refl

pub four_callers : (n start s t u : ℕ) (a b c d : CallerItem) (none one two three four : List CallerItem)
    → a ≡ caller_from 0 (codes "c0") (codes "ulaw") n start → b ≡ caller_from 1 (codes "c1") (codes "alaw") n s
    → c ≡ caller_from 2 (codes "c2") (codes "pcm-s16") n t → d ≡ caller_from 3 (codes "c3") (codes "pcm-u8") n u
    → s ≡ state_after (n * 160) start → t ≡ state_after (n * 160) s → u ≡ state_after (n * 160) t
    → none ≡ [] → one ≡ none ++ a ∷ [] → two ≡ one ++ b ∷ [] → three ≡ two ++ c ∷ [] → four ≡ three ++ d ∷ [] → four ≡ callers start n
four_callers n start s t u a b c d none one two three four ia ib ic id is it iu i0 i1 i2 i3 i4 =
    let at0 : state_after (0 * (n * 160)) start ≡ start = from_none (n * 160) start in
    let at1 : state_after (1 * (n * 160)) start ≡ s = (let same : 1 * (n * 160) ≡ n * 160 = omega arith in ap (λ k. state_after k start) same ∙ sym is) in
    let at2 : state_after (2 * (n * 160)) start ≡ t = (let same : 2 * (n * 160) ≡ 1 * (n * 160) + n * 160 = omega arith in
    ap (λ k. state_after k start) same ∙ (state_after-add (1 * (n * 160)) (n * 160) start ∙ (ap (λ x. state_after (n * 160) x) at1 ∙ sym it))) in
    let at3 : state_after (3 * (n * 160)) start ≡ u = (let same : 3 * (n * 160) ≡ 2 * (n * 160) + n * 160 = omega arith in
    ap (λ k. state_after k start) same ∙ (state_after-add (2 * (n * 160)) (n * 160) start ∙ (ap (λ x. state_after (n * 160) x) at2 ∙ sym iu))) in
    rw (i4, i3, i2, i1, i0, ia, ib, ic, id, at0, at1, at2, at3) refl
