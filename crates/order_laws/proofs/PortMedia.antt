-- The references of what waits in ports: live, and held by no variable, no codec and no other that waits.
use Rattle.std.proofs.Common.{ℕ, zero, suc, ◌≡◌, ◌≢◌, ◌<◌, ◌+◌, ◌-◌, ◌⊎◌, inl, inr, Bool, true, false, cond, List, [], ◌∷◌, ◌++◌, drop, length, Option, Some, None, refl, ap, sym, subst, ◌∙◌, arith, append_assoc}
use Rattle.std.specs.Prelude.{IfSome, nat_lt, slice_get, slice_set}
use Rattle.std.proofs.lemmas.Bool.{cases_eq, cases_lt, le-ltb, lt-ltb}
use Rattle.wc_pool.specs.{declared.entry.PoolEntry.PoolEntry, Bag.resource_of}
use Rattle.codec_model.specs.declared.entry.Pair.{Pair}
use Rattle.codec_accounts.specs.{Owed.at, Owed.append_at}
use Rattle.codec_accounts.specs.ListLaws.{at_same, at_other, get_more}
use Rattle.codec_accounts.specs.Codec.{CodecValue}
use Rattle.media_variables.specs.Variables.{Reference, Medium, Media, Received, medium_at, variables_of, detached, without}
use Rattle.media_variables.specs.Held.{held_by, reference_at, IsLiveIn, AreHeld, IsFree, AreApart}
use Rattle.media_accounts.specs.Accounts.{IsNoneOf, AreLent, MayTakeIn}
use Rattle.run_model.specs.Follow.{front_of}
use Rattle.order_laws.specs.Course.{pairs_waiting, held_by_codecs, held_by_port, held_by_holders}
use Rattle.order_laws.specs.HolderLaws.{holder_port}
use Rattle.order_laws.proofs.Ports.{at_set, at_unset}

-- ---- fewer are held

-- some at the front are held no more
pub record Fewer (ps qs : List Pair) : Type 0 where
  pub gone : ℕ
  pub was : (i : ℕ) (p : Pair) → slice_get qs i ≡ Some p → (k : ℕ) × (slice_get ps k ≡ Some p) × (k ≡ i + gone)

pub lent_fewer : (pool : List PoolEntry) (callers : List (List (Option Medium))) (holds fewer : ℕ → List Pair) → ((k : ℕ) → Fewer (holds k) (fewer k)) → AreLent pool callers holds → AreLent pool callers fewer
lent_fewer pool callers holds fewer less lent = record {
  apart = λ k. (let f = less k in let a = lent.apart k in record {
    lives = λ i p is. (let w = f.was i p is in a.lives w.0 p w.1);
    once = λ i j p q is there same. (let w = f.was i p is in let x = f.was j q there in let e = a.once w.0 x.0 p q w.1 x.1 same in let b = w.2 in let c = x.2 in omega (arith, e, b, c));
    elsewhere = λ i l j p r is there. (let w = f.was i p is in a.elsewhere w.0 l j p r w.1 there);
  });
  between = λ k l i j p q other is there. (let w = (less k).was i p is in let x = (less l).was j q there in lent.between k l w.0 x.0 p q other w.1 x.1);
}

same_held : (ps : List Pair) → Fewer ps ps
same_held ps = record { gone = 0; was = λ i p is. (i, is, omega arith) }

fewer_behind : (held : Option Reference) (ps : List Pair) → Fewer (pairs_waiting held ++ ps) ps
fewer_behind None ps = same_held ps
fewer_behind (Some r) ps = record { gone = 1; was = λ i p is. (suc i, is, omega arith) }

fewer_rest : (l : List Received) → Fewer (held_by_port l) (held_by_port (drop 1 l))
fewer_rest [] = same_held []
fewer_rest (p ∷ ps) = fewer_behind p.medium.held (held_by_port ps)

-- ---- one more is held

pub lent_more : (pool : List PoolEntry) (callers : List (List (Option Medium))) (holds more : ℕ → List Pair) (k : ℕ) (x : Pair) → more k ≡ holds k ++ x ∷ [] → ((l : ℕ) → l ≢ k → more l ≡ holds l)
    → resource_of x.reference pool ≡ Some x.resource → IsFree callers x.reference → IsNoneOf holds x.reference → AreLent pool callers holds → AreLent pool callers more
lent_more pool callers holds more k x here others live free none lent = record {
  apart = λ l. record {
    lives = λ i p is. elim (held_there l i p is) [ inl was ↦ (lent.apart l).lives i p was | inr new ↦ rw new.2 live ];
    once = λ i j p q is there same. elim (held_there l i p is) [
      | inl was ↦ elim (held_there l j q there) [ inl too ↦ (lent.apart l).once i j p q was too same | inr new ↦ absurd (none l i p was (same ∙ ap (λ (y : Pair). y.reference) new.2)) ]
      | inr new ↦ elim (held_there l j q there) [ inl too ↦ absurd (none l j q too (sym same ∙ ap (λ (y : Pair). y.reference) new.2)) | inr last ↦ new.1 ∙ sym last.1 ]
    ];
    elsewhere = λ i m j p r is there. elim (held_there l i p is) [ inl was ↦ (lent.apart l).elsewhere i m j p r was there | inr new ↦ (λ same. free.none m j r there (sym same ∙ ap (λ (y : Pair). y.reference) new.2)) ];
  };
  between = λ l m i j p q other is there. elim (held_there l i p is) [
    | inl was ↦ elim (held_there m j q there) [ inl too ↦ lent.between l m i j p q other was too | inr new ↦ (λ same. none l i p was (same ∙ ap (λ (y : Pair). y.reference) new.2)) ]
    | inr new ↦ elim (held_there m j q there) [ inl too ↦ (λ same. none m j q too (sym same ∙ ap (λ (y : Pair). y.reference) new.2)) | inr last ↦ (λ same. other (new.0 ∙ sym last.0)) ]
  ];
}
  where
    held_there : (l i : ℕ) (p : Pair) → slice_get (more l) i ≡ Some p → (slice_get (holds l) i ≡ Some p) ⊎ ((l ≡ k) × (i ≡ length (holds k)) × (p ≡ x))
    held_there l i p is = elim (cases_eq l k) [
      | inl same ↦ elim (get_more (holds k) x i p (ap (λ (ps : List Pair). slice_get ps i) (sym here) ∙ (ap (λ (m : ℕ). slice_get (more m) i) (sym same) ∙ is))) [
        | inl was ↦ inl (ap (λ (m : ℕ). slice_get (holds m) i) same ∙ was)
        | inr new ↦ inr (same, new.0, new.1)
      ]
      | inr other ↦ inl (ap (λ (ps : List Pair). slice_get ps i) (sym (others l other)) ∙ is)
    ]

-- ---- holders: codecs, and ports behind them

-- what is so of the same codecs with other ports is so of each holder
by_holder : (codecs : List CodecValue) (ports others : List (List Received)) (P : List Pair → List Pair → Type 0) → ((ps : List Pair) → P ps ps) → ((port : ℕ) → P (held_by_port (at port ports)) (held_by_port (at port others)))
    → (k : ℕ) → P (held_by_holders codecs ports k) (held_by_holders codecs others k)
by_holder codecs ports others P same each k = by_bool (nat_lt k (length codecs))
  where
    by_bool : (b : Bool) → P (cond b (held_by_codecs codecs k) (held_by_port (at (k - length codecs) ports))) (cond b (held_by_codecs codecs k) (held_by_port (at (k - length codecs) others)))
    by_bool true = same (held_by_codecs codecs k)
    by_bool false = each (k - length codecs)

-- another holder than a port
by_other : (codecs : List CodecValue) (ports others : List (List Received)) (to : ℕ) → ((port : ℕ) → port ≢ to → held_by_port (at port others) ≡ held_by_port (at port ports))
    → (k : ℕ) → k ≢ length codecs + to → held_by_holders codecs others k ≡ held_by_holders codecs ports k
by_other codecs ports others to each k other = elim (cases_lt k (length codecs)) [
  | inl lt ↦ rw (lt-ltb k (length codecs) lt) refl
  | inr le ↦ rw (le-ltb k (length codecs) le) (each (k - length codecs) (λ e. other (omega (arith, e, le))))
]

-- ---- a receive

-- the front of a port goes out
pub lent_without : (pool : List PoolEntry) (callers : List (List (Option Medium))) (codecs : List CodecValue) (ports : List (List Received)) (from : ℕ) → from < length ports → AreLent pool callers (held_by_holders codecs ports)
    → AreLent pool callers (held_by_holders codecs (slice_set ports from (drop 1 (at from ports))))
lent_without pool callers codecs ports from lt lent = lent_fewer pool callers _ _ (by_holder codecs ports (slice_set ports from (drop 1 (at from ports))) Fewer same_held each) lent
  where
    each : (port : ℕ) → Fewer (held_by_port (at port ports)) (held_by_port (at port (slice_set ports from (drop 1 (at from ports)))))
    each port = elim (cases_eq port from) [
      | inl same ↦ subst (λ (m : ℕ). Fewer (held_by_port (at m ports)) (held_by_port (at m (slice_set ports from (drop 1 (at from ports)))))) (sym same)
          (subst (λ (l : List Received). Fewer (held_by_port (at from ports)) (held_by_port l)) (sym (at_set from (drop 1 (at from ports)) ports lt)) (fewer_rest (at from ports)))
      | inr other ↦ subst (λ (l : List Received). Fewer (held_by_port (at port ports)) (held_by_port l)) (sym (at_unset port from (drop 1 (at from ports)) ports other)) (same_held (held_by_port (at port ports)))
    ]

-- its reference is live, and in no variable, and no longer held
record IsAlone (pool : List PoolEntry) (callers : List (List (Option Medium))) (rest : List Pair) (r : Reference) : Type 0 where
  live : IsLiveIn pool r
  free : IsFree callers r.number
  none : (i : ℕ) (p : Pair) → slice_get rest i ≡ Some p → p.reference ≢ r.number

front_alone : (pool : List PoolEntry) (callers : List (List (Option Medium))) (held : Option Reference) (rest : List Pair) → AreApart pool callers (pairs_waiting held ++ rest) → IfSome held (IsAlone pool callers rest)
front_alone pool callers None rest apart = tt
front_alone pool callers (Some r) rest apart =
    let x : Pair = record { resource = r.resource; reference = r.number } in
    record {
      live = apart.lives 0 x refl;
      free = record { none = λ k j q is same. apart.elsewhere 0 k j x q refl is (sym same) };
      none = λ i p is same. (let e = apart.once 0 (suc i) x p refl is (sym same) in omega (arith, e));
    }

-- it may be taken in by a step
module _ (m : Media) (codecs : List CodecValue) (ports : List (List Received)) (from : ℕ) (lt : from < length ports) (lent : AreLent m.pool m.variables (held_by_holders codecs ports)) where
  abbrev after : ℕ → List Pair
  after = held_by_holders codecs (slice_set ports from (drop 1 (at from ports)))

  none_of : (p : Received) (ps : List Received) (r : Reference) → at from ports ≡ p ∷ ps → p.medium.held ≡ Some r → IsAlone m.pool m.variables (held_by_port ps) r → IsNoneOf after r.number
  none_of p ps r is holds alone k i q there = elim (cases_eq k (length codecs + from)) [
    | inl same ↦ alone.none i q (
        ap (λ (l : List Received). slice_get (held_by_port (drop 1 l)) i) (sym is)
        ∙ (ap (λ (l : List Received). slice_get (held_by_port l) i) (sym (at_set from (drop 1 (at from ports)) ports lt))
        ∙ (ap (λ (l : List Pair). slice_get l i) (sym (holder_port codecs (slice_set ports from (drop 1 (at from ports))) from))
        ∙ (ap (λ (n : ℕ). slice_get (after n) i) (sym same) ∙ there))))
    | inr other ↦ (
        let x : Pair = record { resource = r.resource; reference = r.number } in
        let was : after k ≡ held_by_holders codecs ports k = by_other codecs ports (slice_set ports from (drop 1 (at from ports))) from (λ port apart. ap held_by_port (at_unset port from (drop 1 (at from ports)) ports apart)) k other in
        let first : slice_get (held_by_holders codecs ports (length codecs + from)) 0 ≡ Some x =
        ap (λ (l : List Pair). slice_get l 0) (holder_port codecs ports from) ∙ (ap (λ (l : List Received). slice_get (held_by_port l) 0) is ∙ ap (λ (o : Option Reference). slice_get (pairs_waiting o ++ held_by_port ps) 0) holds) in
        lent.between k (length codecs + from) i 0 q x other (ap (λ (l : List Pair). slice_get l i) (sym was) ∙ there) first)
  ]

  by_held : (p : Received) (ps : List Received) → at from ports ≡ p ∷ ps → (held : Option Reference) → p.medium.held ≡ held → IfSome held (IsAlone m.pool m.variables (held_by_port ps))
      → IfSome held (λ r. IsLiveIn m.pool r × IsFree m.variables r.number) × IfSome held (λ r. IsNoneOf after r.number)
  by_held p ps is None holds alone = (tt, tt)
  by_held p ps is (Some r) holds alone = ((alone.live, alone.free), none_of p ps r is holds alone)

  by_front : (l : List Received) → at from ports ≡ l → MayTakeIn m after (front_of l)
  by_front [] is = (tt, tt)
  by_front (p ∷ ps) is =
      let apart : AreApart m.pool m.variables (held_by_port (p ∷ ps)) = subst (λ (l : List Received). AreApart m.pool m.variables (held_by_port l)) is (subst (AreApart m.pool m.variables) (holder_port codecs ports from) (lent.apart (length codecs + from))) in
      by_held p ps is p.medium.held refl (front_alone m.pool m.variables p.medium.held (held_by_port ps) apart)

  pub may_take : MayTakeIn m after (front_of (at from ports))
  may_take = by_front (at from ports) refl

-- ---- a post

variables_here : (k : ℕ) (vs : List (Option Medium)) (all : List (List (Option Medium))) → k < length all → variables_of k (slice_set all k vs) ≡ vs
variables_here k vs [] lt = absurd (omega (arith, lt))
variables_here zero vs (x ∷ all) lt = refl
variables_here (suc k) vs (x ∷ all) lt = variables_here k vs all (omega (arith, lt))

variables_else : (k : ℕ) (vs : List (Option Medium)) (all : List (List (Option Medium))) (l : ℕ) → l ≢ k → variables_of l (slice_set all k vs) ≡ variables_of l all
variables_else k vs [] l other = refl
variables_else zero vs (x ∷ all) zero other = absurd (other refl)
variables_else zero vs (x ∷ all) (suc l) other = refl
variables_else (suc k) vs (x ∷ all) zero other = refl
variables_else (suc k) vs (x ∷ all) (suc l) other = variables_else k vs all l (λ e. other (ap suc e))

detached_here : (j : ℕ) (vs : List (Option Medium)) → held_by (medium_at (without j vs) j) ≡ None
detached_here j [] = refl
detached_here zero (None ∷ vs) = refl
detached_here zero (Some m ∷ vs) = refl
detached_here (suc j) (v ∷ vs) = detached_here j vs

detached_else : (j : ℕ) (vs : List (Option Medium)) (i : ℕ) → i ≢ j → medium_at (without j vs) i ≡ medium_at vs i
detached_else j [] i other = refl
detached_else zero (v ∷ vs) zero other = absurd (other refl)
detached_else zero (v ∷ vs) (suc i) other = refl
detached_else (suc j) (v ∷ vs) zero other = refl
detached_else (suc j) (v ∷ vs) (suc i) other = detached_else j vs i (λ e. other (ap suc e))

-- the reference of a variable that is detached is in no variable
pub free_without : (pool : List PoolEntry) (all : List (List (Option Medium))) (c j : ℕ) (r : Reference) → c < length all → AreHeld pool all → reference_at all c j ≡ Some r → IsFree (slice_set all c (without j (variables_of c all))) r.number
free_without pool all c j r lt held is = record {
  none = λ k i q there same. elim (cases_eq k c) [
    | inl caller ↦ (
        let here : held_by (medium_at (without j (variables_of c all)) i) ≡ Some q = ap (λ (vs : List (Option Medium)). held_by (medium_at vs i)) (sym (variables_here c (without j (variables_of c all)) all lt)) ∙ (ap (λ (n : ℕ). reference_at (slice_set all c (without j (variables_of c all))) n i) (sym caller) ∙ there) in
        elim (cases_eq i j) [
          | inl step ↦ (let bad : None ≡ Some q = sym (detached_here j (variables_of c all)) ∙ (ap (λ (n : ℕ). held_by (medium_at (without j (variables_of c all)) n)) (sym step) ∙ here) in cc)
          | inr other ↦ other (held.apart c i c j q r (ap held_by (sym (detached_else j (variables_of c all) i other)) ∙ here) is same).1
        ])
    | inr other ↦ other (held.apart k i c j q r (ap (λ (vs : List (Option Medium)). held_by (medium_at vs i)) (sym (variables_else c (without j (variables_of c all)) all k other)) ∙ there) is same).0
  ];
}

held_append : (l : List Received) (p : Received) (r : Reference) → p.medium.held ≡ Some r → held_by_port (l ++ p ∷ []) ≡ held_by_port l ++ record { resource = r.resource; reference = r.number } ∷ []
held_append [] p r holds = ap (λ (o : Option Reference). pairs_waiting o ++ []) holds
held_append (q ∷ qs) p r holds = ap (λ (ps : List Pair). pairs_waiting q.medium.held ++ ps) (held_append qs p r holds) ∙ sym (append_assoc (pairs_waiting q.medium.held) (held_by_port qs) (record { resource = r.resource; reference = r.number } ∷ []))

-- a medium that is in no variable and held by none goes into a port
pub lent_posted : (pool : List PoolEntry) (callers : List (List (Option Medium))) (codecs : List CodecValue) (ports : List (List Received)) (to : ℕ) (p : Received) (r : Reference) → to < length ports → p.medium.held ≡ Some r
    → IsLiveIn pool r → IsFree callers r.number → IsNoneOf (held_by_holders codecs ports) r.number → AreLent pool callers (held_by_holders codecs ports) → AreLent pool callers (held_by_holders codecs (append_at to p ports))
lent_posted pool callers codecs ports to p r lt holds live free none lent =
    lent_more pool callers (held_by_holders codecs ports) (held_by_holders codecs (append_at to p ports)) (length codecs + to) (record { resource = r.resource; reference = r.number })
    (holder_port codecs (append_at to p ports) to ∙ (ap held_by_port (at_same to p ports lt) ∙ (held_append (at to ports) p r holds ∙ ap (λ (ps : List Pair). ps ++ record { resource = r.resource; reference = r.number } ∷ []) (sym (holder_port codecs ports to)))))
    (by_other codecs ports (append_at to p ports) to (λ port other. ap held_by_port (at_other port to p ports other)))
    live free none lent
