-- Readers made of readers read exactly what is spelled.
use Rattle.std.proofs.Common.{◌≡◌, ℕ, ◌+◌, Bool, true, false, cond, List, [], ◌++◌, Option, Some, None, length, refl, sym, ap, subst, ◌∙◌, arith, length-append, append-nil}
use Rattle.flac_definitions.specs.Bits.{Place, ahead, forward, number_at, bits_of, Begins}
use Rattle.flac_definitions.specs.BitLaws.{length-bits_of}
use Rattle.flac_definitions.specs.PlaceLaws.{begins_first, begins_second, begins_both, forward_twice, number_read, number_spelled}
use Rattle.flac_definitions.specs.Options.{◌>>=◌}
use Rattle.flac_definitions.specs.Grammar.{IsNumber, IsGiven, IsNothing, InOrder, Either, Found, Reads}

pub same_some : {A : Type 0} (x y : A) → Some x ≡ Some y → x ≡ y
same_some x y e = cc

pub begins_nothing : (p : Place) → Begins p []
begins_nothing p = record { rest = ahead p; whole = refl }

pub stays : (p : Place) → p ≡ forward 0 p
stays p = ap (λ (k : ℕ). record { bytes = p.bytes; at = k }) (let s : p.at ≡ p.at + 0 = omega arith in s)

pub found_both : {X Y : Type 0} (one : X → List Bool → Type 0) (other : X → Y → List Bool → Type 0) (p m q : Place) (x : X) (y : Y)
    → Found one p m x → Found (other x) m q y → Found (InOrder one other) p q y
found_both one other p m q x y f g = record {
  bits = f.bits ++ g.bits;
  fine = record { value = x; front = f.bits; back = g.bits; first = f.fine; second = g.fine; whole = refl };
  place = g.place ∙ ap (λ (z : Place). forward (length g.bits) z) f.place ∙ forward_twice (length f.bits) (length g.bits) p ∙ ap (λ k. forward k p) (sym (length-append f.bits g.bits));
  next = begins_both p f.bits g.bits f.next (subst (λ (z : Place). Begins z g.bits) f.place g.next);
}

second_found : {X Y : Type 0} (one : X → List Bool → Type 0) (other : X → Y → List Bool → Type 0) (second : Place → X → Place → Option (Y × Place)) (p q : Place) (y : Y) (o : Option (X × Place))
    → ((m : Place) (x : X) → o ≡ Some (x, m) → Found one p m x) → ((x : X) → Reads (second p x) (other x)) → (o >>= λ x. second p x.0 x.1) ≡ Some (y, q) → Found (InOrder one other) p q y
second_found one other second p q y None f g e = absurd (let n : ⊥ = cc in n)
second_found one other second p q y (Some x) f g e = found_both one other p x.1 q x.0 y (f x.1 x.0 refl) ((g x.0).sound x.1 q y e)

-- one reader after another; the second may know the place of the first
pub then_by : {X Y : Type 0} (first : Place → Option (X × Place)) (second : Place → X → Place → Option (Y × Place)) (one : X → List Bool → Type 0) (other : X → Y → List Bool → Type 0)
    → Reads first one → ((p : Place) (x : X) → Reads (second p x) (other x)) → Reads (λ p. first p >>= λ x. second p x.0 x.1) (InOrder one other)
then_by {X} {Y} first second one other f g = record {
  sound = λ p q y e. second_found one other second p q y (first p) (λ m x h. f.sound p m x h) (λ x. g p x) e;
  whole = λ p y bits h n.
      let b : Begins p (h.front ++ h.back) = subst (λ (z : List Bool). Begins p z) h.whole n in
      let a = f.whole p h.value h.front h.first (begins_first p h.front h.back b) in
      let c = (g p h.value).whole (forward (length h.front) p) y h.back h.second (begins_second p h.front h.back b) in
      ap (λ (o : Option (X × Place)). o >>= λ x. second p x.0 x.1) a ∙ c
      ∙ ap (λ (s : Place). Some (y, s)) (forward_twice (length h.front) (length h.back) p ∙ ap (λ k. forward k p) (sym (ap length h.whole ∙ length-append h.front h.back)));
}

pub then : {X Y : Type 0} (first : Place → Option (X × Place)) (second : X → Place → Option (Y × Place)) (one : X → List Bool → Type 0) (other : X → Y → List Bool → Type 0)
    → Reads first one → ((x : X) → Reads (second x) (other x)) → Reads (λ p. first p >>= λ x. second x.0 x.1) (InOrder one other)
then first second one other f g = then_by first (λ p x. second x) one other f (λ p x. g x)

-- a reader that is another
pub reads_as : {X : Type 0} (read other : Place → Option (X × Place)) (is : X → List Bool → Type 0) → ((p : Place) → other p ≡ read p) → Reads read is → Reads other is
reads_as read other is e f = record {
  sound = λ p q x h. f.sound p q x (sym (e p) ∙ h);
  whole = λ p x bits h n. e p ∙ f.whole p x bits h n;
}

-- a value that is given
abbrev pub given_at : {X : Type 0} → Option X → Place → Option (X × Place)
given_at None p = None
given_at (Some x) p = Some (x, p)

now_found : {X : Type 0} (o : Option X) (p q : Place) (x : X) → given_at o p ≡ Some (x, q) → (o ≡ Some x) × (q ≡ p)
now_found None p q x e = absurd (let n : ⊥ = cc in n)
now_found {X} (Some y) p q x e =
    let s = same_some (y, p) (x, q) e in
    (ap Some (ap (λ (z : X × Place). z.0) s), sym (ap (λ (z : X × Place). z.1) s))

pub given : {X : Type 0} (o : Option X) → Reads (given_at o) (IsGiven o)
given {X} o = record {
  sound = λ p q x e.
      let f = now_found o p q x e in
      record { bits = []; fine = (f.0, refl); place = f.1 ∙ stays p; next = begins_nothing p };
  whole = λ p x bits h n. ap (λ (a : Option X). given_at a p) h.0 ∙ ap (λ (s : Place). Some (x, s)) (stays p ∙ ap (λ k. forward k p) (sym (ap length h.1)));
}

pub fails : {X : Type 0} → Reads (λ p. None) (λ (x : X) bits. IsNothing x bits)
fails {X} = record {
  sound = λ p q x e. absurd (let n : ⊥ = cc in n);
  whole = λ p x bits h n. absurd h;
}

pub chosen : {X : Type 0} (t : Bool) (f g : Place → Option (X × Place)) (one other : X → List Bool → Type 0) → Reads f one → Reads g other → Reads (λ p. cond t (f p) (g p)) (Either t one other)
chosen true f g one other h k = record { sound = λ p q x e. h.sound p q x e; whole = λ p x bits i n. h.whole p x bits i n }
chosen false f g one other h k = record { sound = λ p q x e. k.sound p q x e; whole = λ p x bits i n. k.whole p x bits i n }

pub number : (n : ℕ) → Reads (number_at n) (IsNumber n)
number n = record {
  sound = λ p q v e. let r = number_read n p q v e in record { bits = bits_of n v; fine = (r.0, refl); place = r.1 ∙ ap (λ k. forward k p) (sym (length-bits_of n v)); next = r.2 };
  whole = λ p v bits h b. number_spelled n p v h.0 (subst (λ (z : List Bool). Begins p z) h.1 b) ∙ ap (λ k. Some (v, forward k p)) (sym (ap length h.1 ∙ length-bits_of n v));
}

-- bits with none behind them
pub nothing_behind : (xs ys zs : List Bool) → zs ≡ xs ++ ys → ys ≡ [] → zs ≡ xs
nothing_behind xs ys zs e h = e ∙ ap (λ (y : List Bool). xs ++ y) h ∙ append-nil xs
