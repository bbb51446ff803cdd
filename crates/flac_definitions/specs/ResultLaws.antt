-- Readers that name a fault, made of readers, read exactly what is spelled.
use Rattle.std.proofs.Common.{◌≡◌, Bool, true, false, cond, List, [], ◌++◌, Option, Some, None, Result, Ok, Err, length, refl, sym, ap, subst, ◌∙◌, length-append}
use Rattle.flac_definitions.specs.Bits.{Place, forward, Begins}
use Rattle.flac_definitions.specs.Results.{◌>>=◌, or_fault}
use Rattle.flac_definitions.specs.PlaceLaws.{begins_first, begins_second, forward_twice}
use Rattle.flac_definitions.specs.Grammar.{IsGiven, IsNothing, InOrder, Either, Found, Reads, ReadsOr}
use Rattle.flac_definitions.specs.GrammarLaws.{found_both, begins_nothing, stays}

pub same_ok : {A E : Type 0} (x y : A) → (let r : Result A E = Ok x in r) ≡ Ok y → x ≡ y
same_ok x y e = cc

some_of : {A E : Type 0} (e : E) (o : Option A) (x : A) → or_fault e o ≡ Ok x → o ≡ Some x
some_of e None x h = absurd (let n : ⊥ = cc in n)
some_of e (Some y) x h = ap Some (same_ok y x h)

-- a reader that names a fault where it reads nothing
pub or_reads : {X E : Type 0} (e : Place → E) (read : Place → Option (X × Place)) (is : X → List Bool → Type 0) → Reads read is → ReadsOr (λ p. or_fault (e p) (read p)) is
or_reads {X} e read is f = record {
  sound = λ p q x h. f.sound p q x (some_of (e p) (read p) (x, q) h);
  whole = λ p x bits h n. ap (λ (o : Option (X × Place)). or_fault (e p) o) (f.whole p x bits h n);
}

second_found : {X Y E : Type 0} (one : X → List Bool → Type 0) (other : X → Y → List Bool → Type 0) (second : X → Place → Result (Y × Place) E) (p q : Place) (y : Y) (r : Result (X × Place) E)
    → ((m : Place) (x : X) → r ≡ Ok (x, m) → Found one p m x) → ((x : X) → ReadsOr (second x) (other x)) → (r >>= λ x. second x.0 x.1) ≡ Ok (y, q) → Found (InOrder one other) p q y
second_found one other second p q y (Err e) f g h = absurd (let n : ⊥ = cc in n)
second_found one other second p q y (Ok x) f g h = found_both one other p x.1 q x.0 y (f x.1 x.0 refl) ((g x.0).sound x.1 q y h)

pub or_then_by : {X Y E : Type 0} (first : Place → Result (X × Place) E) (second : Place → X → Place → Result (Y × Place) E) (one : X → List Bool → Type 0) (other : X → Y → List Bool → Type 0)
    → ReadsOr first one → ((p : Place) (x : X) → ReadsOr (second p x) (other x)) → ReadsOr (λ p. first p >>= λ x. second p x.0 x.1) (InOrder one other)
or_then_by {X} {Y} {E} first second one other f g = record {
  sound = λ p q y e. second_found one other (second p) p q y (first p) (λ m x h. f.sound p m x h) (λ x. g p x) e;
  whole = λ p y bits h n.
      let b : Begins p (h.front ++ h.back) = subst (λ (z : List Bool). Begins p z) h.whole n in
      let a = f.whole p h.value h.front h.first (begins_first p h.front h.back b) in
      let c = (g p h.value).whole (forward (length h.front) p) y h.back h.second (begins_second p h.front h.back b) in
      ap (λ (r : Result (X × Place) E). r >>= λ x. second p x.0 x.1) a ∙ c
      ∙ ap (λ (s : Place). Ok (y, s)) (forward_twice (length h.front) (length h.back) p ∙ ap (λ k. forward k p) (sym (ap length h.whole ∙ length-append h.front h.back)));
}

pub or_then : {X Y E : Type 0} (first : Place → Result (X × Place) E) (second : X → Place → Result (Y × Place) E) (one : X → List Bool → Type 0) (other : X → Y → List Bool → Type 0)
    → ReadsOr first one → ((x : X) → ReadsOr (second x) (other x)) → ReadsOr (λ p. first p >>= λ x. second x.0 x.1) (InOrder one other)
or_then first second one other f g = or_then_by first (λ p x. second x) one other f (λ p x. g x)

pub or_as : {X E : Type 0} (read other : Place → Result (X × Place) E) (is : X → List Bool → Type 0) → ((p : Place) → other p ≡ read p) → ReadsOr read is → ReadsOr other is
or_as read other is e f = record {
  sound = λ p q x h. f.sound p q x (sym (e p) ∙ h);
  whole = λ p x bits h n. e p ∙ f.whole p x bits h n;
}

abbrev pub given_or : {X E : Type 0} → X → Place → Result (X × Place) E
given_or x p = Ok (x, p)

pub or_given : {X E : Type 0} (y : X) → ReadsOr (λ p. given_or {E = E} y p) (IsGiven (Some y))
or_given {X} {E} y = record {
  sound = λ p q x e.
      let s = same_ok {E = E} (y, p) (x, q) e in
      record { bits = []; fine = (ap Some (ap (λ (z : X × Place). z.0) s), refl); place = sym (ap (λ (z : X × Place). z.1) s) ∙ stays p; next = begins_nothing p };
  whole = λ p x bits h n.
      let s : y ≡ x = (let f : Some y ≡ Some x = h.0 in cc) in
      ap (λ (z : X). given_or {E = E} z p) s ∙ ap (λ (s : Place). Ok (x, s)) (stays p ∙ ap (λ k. forward k p) (sym (ap length h.1)));
}

pub or_fails : {X E : Type 0} (e : Place → E) → ReadsOr (λ p. (let r : Result (X × Place) E = Err (e p) in r)) (λ (x : X) bits. IsNothing x bits)
or_fails {X} e = record {
  sound = λ p q x h. absurd (let n : ⊥ = cc in n);
  whole = λ p x bits h n. absurd h;
}

pub or_chosen : {X E : Type 0} (t : Bool) (f g : Place → Result (X × Place) E) (one other : X → List Bool → Type 0) → ReadsOr f one → ReadsOr g other → ReadsOr (λ p. cond t (f p) (g p)) (Either t one other)
or_chosen true f g one other h k = record { sound = λ p q x e. h.sound p q x e; whole = λ p x bits i n. h.whole p x bits i n }
or_chosen false f g one other h k = record { sound = λ p q x e. k.sound p q x e; whole = λ p x bits i n. k.whole p x bits i n }
