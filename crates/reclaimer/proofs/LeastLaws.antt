-- The least of the holders that are wanted.
use Rattle.std.proofs.Common.{ℕ, zero, suc, ◌≡◌, Bool, true, false, cond, List, [], ◌∷◌, ◌++◌, Option, Some, None, refl, sym, subst, ◌<◌, length, ◌∙◌, arith}
use Rattle.std.specs.Prelude.{◌==◌, ◌&&◌, ◌||◌, nat_le, nat_lt, slice_get, option_to_list, IfNone, IfSome}
use Rattle.std.specs.List.{AllByRecursion}
use Rattle.reclaimer.specs.declared.holder.Holder.{Holder}
use Rattle.reclaimer.specs.Picks.{comes_before, first_of, NoneIs, IsLeast}

-- ---- the order

abbrev before : ℕ → ℕ → ℕ → ℕ → Bool
before p a q b = nat_lt p q || ((p == q) && nat_le a b)

transitive : (p a q b r c : ℕ) → before p a q b ≡ true → before q b r c ≡ true → before p a r c ≡ true
transitive p a q b r c h k = grind arith

total : (p a q b : ℕ) → before p a q b ≡ false → before q b p a ≡ true
total p a q b h = grind arith

itself : (p a : ℕ) → before p a p a ≡ true
itself p a = grind arith

-- ---- the list

-- the least of these that are wanted, where this one is the least of those before
abbrev pub least_of : (Holder → Bool) → Option Holder → List Holder → Option Holder
least_of wanted best [] = best
least_of wanted best (h ∷ hs) = least_of wanted (cond (wanted h) (Some (first_of best h)) best) hs

-- what a search finds
abbrev pub Found : (Holder → Bool) → List Holder → Option Holder → Type 0
Found wanted list None = NoneIs wanted list
Found wanted list (Some h) = IsLeast wanted list h

-- it comes before all that are wanted of a list
abbrev ComesFirst : (Holder → Bool) → Holder → List Holder → Type 0
ComesFirst wanted h list = AllByRecursion (λ other. wanted other ≡ true → comes_before h other ≡ true) list

both_first : (wanted : Holder → Bool) (r a b : Holder) → comes_before r (first_of (Some a) b) ≡ true → (comes_before r a ≡ true) × (comes_before r b ≡ true)
both_first wanted r a b h = by (comes_before a b) refl h
  where
    by : (t : Bool) → comes_before a b ≡ t → comes_before r (cond t a b) ≡ true → (comes_before r a ≡ true) × (comes_before r b ≡ true)
    by true is k = (k, transitive r.progress r.codec a.progress a.codec b.progress b.codec k is)
    by false is k = (transitive r.progress r.codec b.progress b.codec a.progress a.codec k (total a.progress a.codec b.progress b.codec is), k)

-- the two where one of them stands
both_stand : (wanted : Holder → Bool) (a b : Holder) (hs : List Holder) (o : Option Holder) → wanted a ≡ true → wanted b ≡ true → Found wanted (first_of (Some a) b ∷ hs) o → Found wanted (a ∷ b ∷ hs) o
both_stand wanted a b hs None wa wb f = absurd (let no = by (comes_before a b) f.0 in cc)
  where
    by : (t : Bool) → wanted (cond t a b) ≡ false → false ≡ true
    by true h = sym h ∙ wa
    by false h = sym h ∙ wb
both_stand wanted a b hs (Some r) wa wb f = record { place = at.0; at = at.1; is = f.is; first = (λ w. firsts.0, (λ w. firsts.1, f.first.1)) }
  where
    by_both : (t : Bool) → wanted (cond t a b) ≡ true
    by_both true = wa
    by_both false = wb

    firsts : (comes_before r a ≡ true) × (comes_before r b ≡ true)
    firsts = both_first wanted r a b (f.first.0 (by_both (comes_before a b)))

    front : (t : Bool) → Some (cond t a b) ≡ Some r → (k : ℕ) × (slice_get (a ∷ b ∷ hs) k ≡ Some r)
    front true h = (0, h)
    front false h = (1, h)

    place : (k : ℕ) → slice_get (first_of (Some a) b ∷ hs) k ≡ Some r → (n : ℕ) × (slice_get (a ∷ b ∷ hs) n ≡ Some r)
    place zero h = front (comes_before a b) h
    place (suc k) h = (suc (suc k), h)

    at : (n : ℕ) × (slice_get (a ∷ b ∷ hs) n ≡ Some r)
    at = place f.place f.at

-- one that is not wanted changes nothing
unwanted : (wanted : Holder → Bool) (best : Option Holder) (h : Holder) (hs : List Holder) (o : Option Holder) → wanted h ≡ false → Found wanted (option_to_list best ++ hs) o → Found wanted (option_to_list best ++ h ∷ hs) o
unwanted wanted None h hs None unmet f = (unmet, f)
unwanted wanted (Some b) h hs None unmet f = (f.0, (unmet, f.1))
unwanted wanted None h hs (Some r) unmet f = record { place = suc f.place; at = f.at; is = f.is; first = (λ w. absurd (let two = sym unmet ∙ w in cc), f.first) }
unwanted wanted (Some b) h hs (Some r) unmet f = record { place = at.0; at = at.1; is = f.is; first = (f.first.0, (λ w. absurd (let two = sym unmet ∙ w in cc), f.first.1)) }
  where
    place : (k : ℕ) → slice_get (b ∷ hs) k ≡ Some r → (n : ℕ) × (slice_get (b ∷ h ∷ hs) n ≡ Some r)
    place zero e = (0, e)
    place (suc k) e = (suc (suc k), e)

    at : (n : ℕ) × (slice_get (b ∷ h ∷ hs) n ≡ Some r)
    at = place f.place f.at

-- a search of a list that begins with what was found before finds what is found among both
abbrev Finds : (Holder → Bool) → List Holder → Option Holder → Type 0
Finds wanted list best = IfSome best (λ b. wanted b ≡ true) → Found wanted (option_to_list best ++ list) (least_of wanted best list)

finds : (wanted : Holder → Bool) (best : Option Holder) (list : List Holder) → Finds wanted list best
finds wanted None [] is = tt
finds wanted (Some b) [] is = record { place = 0; at = refl; is = is; first = (λ w. itself b.progress b.codec, tt) }
finds wanted best (h ∷ hs) is = by (wanted h) refl (finds wanted (Some (first_of best h)) hs) (finds wanted best hs)
  where
    more : (best : Option Holder) → IfSome best (λ b. wanted b ≡ true) → wanted h ≡ true → (o : Option Holder) → o ≡ least_of wanted (Some (first_of best h)) hs → Found wanted (first_of best h ∷ hs) o → Found wanted (option_to_list best ++ h ∷ hs) o
    more None is w o e f = f
    more (Some b) is w o e f = both_stand wanted b h hs o is w f

    kept : (best : Option Holder) → IfSome best (λ b. wanted b ≡ true) → wanted h ≡ true → wanted (first_of best h) ≡ true
    kept None is w = w
    kept (Some b) is w = either (comes_before b h)
      where
        either : (t : Bool) → wanted (cond t b h) ≡ true
        either true = is
        either false = w

    by : (t : Bool) → wanted h ≡ t → Finds wanted hs (Some (first_of best h)) → Finds wanted hs best → Found wanted (option_to_list best ++ h ∷ hs) (least_of wanted (cond t (Some (first_of best h)) best) hs)
    by true w with_first with_best = more best is w (least_of wanted (Some (first_of best h)) hs) refl (with_first (kept best is w))
    by false w with_first with_best = unwanted wanted best h hs (least_of wanted best hs) w (with_best is)

-- what a search through all found
pub found_none : (wanted : Holder → Bool) (list rest : List Holder) (best : Option Holder) → length rest < 1 → least_of wanted best rest ≡ least_of wanted None list → IfNone best (NoneIs wanted list)
found_none wanted list [] None short is = by (least_of wanted None list) is (finds wanted None list tt)
  where
    by : (o : Option Holder) → None ≡ o → Found wanted list o → NoneIs wanted list
    by None e f = f
    by (Some r) e f = absurd cc
found_none wanted list [] (Some r) short is = tt
found_none wanted list (h ∷ hs) best short is = absurd (omega arith)

pub found_some : (wanted : Holder → Bool) (list rest : List Holder) (best : Option Holder) → length rest < 1 → least_of wanted best rest ≡ least_of wanted None list → IfSome best (λ r. IsLeast wanted list r)
found_some wanted list [] None short is = tt
found_some wanted list [] (Some r) short is = by (least_of wanted None list) is (finds wanted None list tt)
  where
    by : (o : Option Holder) → Some r ≡ o → Found wanted list o → IsLeast wanted list r
    by None e f = absurd cc
    by (Some q) e f = let same : q ≡ r = cc in subst (IsLeast wanted list) same f
found_some wanted list (h ∷ hs) best short is = absurd (omega arith)
