-- That the ends that are collected are all that say that memory was wanted.
use Rattle.std.proofs.Common.{ℕ, zero, suc, ◌≡◌, ◌<◌, ◌+◌, Bool, true, false, List, [], ◌∷◌, ◌++◌, length, map, take, get_or, ◌≤◌, Some, refl, ap, sym, ◌∙◌, eq-eqb, arith, append_assoc, append-nil}
use Rattle.std.specs.Prelude.{slice_get, ◌==◌, ◌&&◌, ◌||◌}
use Rattle.std.proofs.lemmas.Bool.{ne_eqb}
use Rattle.std.proofs.lemmas.List.{map_more, length-map, length-take-le}
use Rattle.codec_model.specs.declared.entry.Entry.{Entry}
use Rattle.run_model.specs.declared.run.CodecTrace.{CodecTrace}
use Rattle.codec_accounts.specs.Owed.{at}
use Rattle.order_laws.specs.Same.{wants_memory}
use Rattle.order_laws.specs.Ends.{is_listed, AreListed}
use Rattle.report_check.specs.Ends.{end_at, ends_from, all_ends}

-- ---- truth values

or_false : (b : Bool) → (b || false) ≡ b
or_false true = refl
or_false false = refl

or_assoc : (a b c : Bool) → (a || (b || c)) ≡ ((a || b) || c)
or_assoc true b c = refl
or_assoc false b c = refl

and_false : (b : Bool) → (b && false) ≡ false
and_false true = refl
and_false false = refl

-- ---- lists of ends

listed_both : (xs ys : List (ℕ × ℕ)) (k n : ℕ) → is_listed (xs ++ ys) k n ≡ (is_listed xs k n || is_listed ys k n)
listed_both [] ys k n = refl
listed_both (x ∷ xs) ys k n =
    let b = (x.0 == k) && (x.1 == n) in
    ap (λ (r : Bool). b || r) (listed_both xs ys k n) ∙ or_assoc b (is_listed xs k n) (is_listed ys k n)

-- an end is listed at its own codec and place, where it says that memory was wanted
end_here : (k n : ℕ) (e : Entry) → is_listed (end_at k n e) k n ≡ wants_memory (Some e)
end_here k n e = by (wants_memory (Some e)) refl where
  by : (b : Bool) → wants_memory (Some e) ≡ b → is_listed (end_at k n e) k n ≡ b
  by true is = rw (is, eq-eqb k k refl, eq-eqb n n refl) refl
  by false is = rw is refl

-- and nowhere else
end_other : (k n j m : ℕ) (e : Entry) → ((k == j) && (n == m)) ≡ false → is_listed (end_at k n e) j m ≡ false
end_other k n j m e apart = by (wants_memory (Some e)) refl where
  by : (b : Bool) → wants_memory (Some e) ≡ b → is_listed (end_at k n e) j m ≡ false
  by true is = rw (is, apart) refl
  by false is = rw is refl

other_place : (k n j m : ℕ) → (n ≡ m → ⊥) → ((k == j) && (n == m)) ≡ false
other_place k n j m apart = rw (ne_eqb n m apart) (and_false (k == j))

other_codec : (k n j m : ℕ) → (k ≡ j → ⊥) → ((k == j) && (n == m)) ≡ false
other_codec k n j m apart = rw (ne_eqb k j apart) refl

-- ---- the ends of one codec

module _ (k : ℕ) where
  before_place : (p j m : ℕ) (h : List Entry) → m < p → is_listed (ends_from k p h) j m ≡ false
  before_place p j m [] lt = refl
  before_place p j m (e ∷ es) lt =
      rw (listed_both (end_at k p e) (ends_from k (p + 1) es) j m, end_other k p j m e (other_place k p j m (λ same. omega (arith, same, lt))))
      (before_place (p + 1) j m es (omega (arith, lt)))

  other_codecs : (p j m : ℕ) (h : List Entry) → (k ≡ j → ⊥) → is_listed (ends_from k p h) j m ≡ false
  other_codecs p j m [] apart = refl
  other_codecs p j m (e ∷ es) apart =
      rw (listed_both (end_at k p e) (ends_from k (p + 1) es) j m, end_other k p j m e (other_codec k p j m apart)) (other_codecs (p + 1) j m es apart)

  at_place : (p m n : ℕ) (h : List Entry) → m ≡ p + n → is_listed (ends_from k p h) k m ≡ wants_memory (slice_get h n)
  at_place p m n [] is = refl
  at_place p m zero (e ∷ es) is =
      let same : m ≡ p = omega (arith, is) in
      listed_both (end_at k p e) (ends_from k (p + 1) es) k m
      ∙ (ap (λ (b : Bool). is_listed (end_at k p e) k m || b) (before_place (p + 1) k m es (omega (arith, same)))
      ∙ (or_false (is_listed (end_at k p e) k m) ∙ (ap (is_listed (end_at k p e) k) same ∙ end_here k p e)))
  at_place p m (suc n) (e ∷ es) is =
      rw (listed_both (end_at k p e) (ends_from k (p + 1) es) k m, end_other k p k m e (other_place k p k m (λ same. omega (arith, same, is))))
      (at_place (p + 1) m n es (omega (arith, is)))

-- ---- the ends of all codecs

before_codec : (k j m : ℕ) (hs : List (List Entry)) → j < k → is_listed (all_ends k hs) j m ≡ false
before_codec k j m [] lt = refl
before_codec k j m (h ∷ hs) lt =
    rw (listed_both (ends_from k 0 h) (all_ends (k + 1) hs) j m, other_codecs k 0 j m h (λ same. omega (arith, same, lt))) (before_codec (k + 1) j m hs (omega (arith, lt)))

at_codec : (k i j n : ℕ) (hs : List (List Entry)) → i ≡ k + j → is_listed (all_ends k hs) i n ≡ wants_memory (slice_get (at j hs) n)
at_codec k i j n [] is = refl
at_codec k i zero n (h ∷ hs) is =
    let same : i ≡ k = omega (arith, is) in
    listed_both (ends_from k 0 h) (all_ends (k + 1) hs) i n
    ∙ (ap (λ (b : Bool). is_listed (ends_from k 0 h) i n || b) (before_codec (k + 1) i n hs (omega (arith, same)))
    ∙ (or_false (is_listed (ends_from k 0 h) i n) ∙ (ap (λ (c : ℕ). is_listed (ends_from k 0 h) c n) same ∙ at_place k 0 n n h (omega arith))))
at_codec k i (suc j) n (h ∷ hs) is =
    rw (listed_both (ends_from k 0 h) (all_ends (k + 1) hs) i n, other_codecs k 0 i n h (λ same. omega (arith, same, is))) (at_codec (k + 1) i j n hs (omega (arith, is)))

-- of all entries of these histories those that are collected are the ends that say that memory was wanted
pub all_listed : (hs : List (List Entry)) → AreListed (all_ends 0 hs) hs
all_listed hs = λ k n. sym (at_codec 0 k k n hs (omega arith))

-- ---- one more

-- one entry more was looked at
pub ends_more : (k place : ℕ) (e : Entry) (left rest : List Entry) (old new all : List (ℕ × ℕ)) → left ≡ e ∷ rest → new ≡ old ++ end_at k place e → old ++ ends_from k place left ≡ all → new ++ ends_from k (place + 1) rest ≡ all
ends_more k place e left rest old new all is pushed so_far =
    rw (pushed, append_assoc old (end_at k place e) (ends_from k (place + 1) rest)) (ap (λ (l : List Entry). old ++ ends_from k place l) (sym is) ∙ so_far)

-- one codec more was looked at
pub all_more : (k : ℕ) (hs : List (List Entry)) (h : List Entry) (n : ℕ) → n ≡ k + length hs → all_ends k (hs ++ h ∷ []) ≡ all_ends k hs ++ ends_from n 0 h
all_more k [] h n is = append-nil (ends_from k 0 h) ∙ ap (λ (c : ℕ). ends_from c 0 h) (omega (arith, is))
all_more k (x ∷ hs) h n is =
    ap (λ (l : List (ℕ × ℕ)). ends_from k 0 x ++ l) (all_more (k + 1) hs h n (omega (arith, is))) ∙ sym (append_assoc (ends_from k 0 x) (all_ends (k + 1) hs) (ends_from n 0 h))

-- one codec more of a run was looked at
pub ends_further : (xs : List CodecTrace) (i codec : ℕ) (x : CodecTrace) (old new : List (ℕ × ℕ)) → i < length xs → x ≡ get_or xs i x → codec ≡ i → old ≡ all_ends 0 (map (λ (c : CodecTrace). c.entries) (take i xs)) → new ≡ old ++ ends_from codec 0 x.entries → new ≡ all_ends 0 (map (λ (c : CodecTrace). c.entries) (take (i + 1) xs))
ends_further xs i codec x old new low is at so_far pushed =
    let f = λ (c : CodecTrace). c.entries in
    let le : i ≤ length xs = omega (arith, low) in
    let number : codec ≡ 0 + length (map f (take i xs)) = omega (arith, at, length-map (take i xs) f, length-take-le i xs le) in
    pushed
    ∙ (ap (λ (l : List (ℕ × ℕ)). l ++ ends_from codec 0 x.entries) so_far
    ∙ (sym (all_more 0 (map f (take i xs)) x.entries codec number)
    ∙ ap (all_ends 0) (ap (λ (c : CodecTrace). map f (take i xs) ++ f c ∷ []) is ∙ sym (map_more f xs i x low))))
