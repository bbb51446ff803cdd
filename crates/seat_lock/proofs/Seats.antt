-- Split, number, join, settle and cut keep the rule; open begins with it, and close ends with it.
use Rattle.std.proofs.Common.{◌≡◌, Bool, ℕ, zero, suc, ◌+◌, ◌^◌, ◌<◌, ◌≤◌, ◌⊎◌, inl, inr, eqb, cond, List, [], ◌∷◌, ◌++◌, length, get_or, set, sym, refl, ap, ◌∙◌, subst, ⊎_elim, arith, length-set, length-append, Option, Some}
use mathlib.Core.Logic.{dite}
use mathlib.Core.Option.{some, none, some-injective, some-ne-none}
use mathlib.Core.Option as maybe
use native.Mathlib.Decide.{ℕ_discrete}
use lib.ListN.{get_elem?}
use lib.Seq.{set-get_or}
use Rattle.atomic_table.specs.Table.{State, step, keeps, stepped, Allows, Splits, Joins, Final, Seen, opening}
use Rattle.atomic_table.proofs.Lists.{set_here, set_else, at_longer}
use Rattle.seat_lock.proofs.Claims.{distinct, claims_else, claims_union, claims_cut, claims_except, claims_one}
use Rattle.seat_lock.proofs.Authors.{covers_set, covers_longer, covers_join, has_front, all_of}
use Rattle.seat_lock.proofs.Logs.{inside, total_set, total_snoc, total_one, free_end}
use Rattle.seat_lock.proofs.Unions.{at_snoc_at, free_none, free_front, below_more, below_free, Both, longer_is, owner_after, owner_after_else, owns_else, owns_both}
use Rattle.seat_lock.proofs.Passages.{seats_stay, same_view, known_stays, held_stays}
use Rattle.seat_lock.specs.Claims.{HoldsClaims}
use Rattle.seat_lock.specs.Logs.{AllBy, AreApart, AreBelow, Continues, Has, IsNotIn, NoneBy, longer}
use Rattle.seat_lock.specs.Rule.{BelongTo, HasWitness, IsHome, IsOut, LockRule, NumberRule, PhaseRule, busy, busy_in, parts_of}
use Rattle.seat_lock.specs.Seats.{Sitting, empty_view, first_view, less_claim, less_part, one_part, union_view, with_number, with_phase}
use Rattle.seat_lock.specs.Seen.{NoneHasSeenMore}
use Rattle.seat_lock.specs.Steps.{Settles, TakesNumber}
use Rattle.wc_base.specs.Views.{Log, token_view}
use Rattle.wc_base.specs.declared.seat.Phase.{Phase}
use Rattle.wc_base.specs.declared.seat.Phase.TheVariants.{Empty, Holding, Idle, New, Token, Union, Waiting}
use Rattle.wc_base.specs.declared.seat.View.{View}

-- two seats have no number in common
not_of_other : (owner : ℕ → ℕ) (i j n : ℕ) (b : List ℕ) → owner n ≡ i → BelongTo owner j b → ¬ (j ≡ i) → IsNotIn n b
not_of_other owner i j n [] e o d = tt
not_of_other owner i j n (m ∷ ms) e o d = (λ same. d (sym o.0 ∙ (ap owner (sym same) ∙ e)), not_of_other owner i j n ms e o.1 d)

numbers_apart : (owner : ℕ → ℕ) (i j : ℕ) (a b : List ℕ) → BelongTo owner i a → BelongTo owner j b → ¬ (j ≡ i) → AreApart a b
numbers_apart owner i j [] b p q d = tt
numbers_apart owner i j (n ∷ ns) b p q d = (not_of_other owner i j n b p.0 q d, numbers_apart owner i j ns b p.1 q d)

module _ (E : Type 0) where
  abbrev W : Type 0
  W = View E

  held_longer : (log : Log E) (vs : List W) (w : W) → IsOut log vs → IsOut log (vs ++ w ∷ [])
  held_longer log vs w h = record { seat = h.seat; view = h.view; ticket = h.ticket; list = h.list; at = at_longer vs (w ∷ []) h.seat h.view h.at; holds = h.holds }

  known_longer : (log : Log E) (vs : List W) (w : W) → HasWitness log vs → HasWitness log (vs ++ w ∷ [])
  known_longer log vs w h = record { seat = h.seat; view = h.view; at = at_longer vs (w ∷ []) h.seat h.view h.at; has_parts = h.has_parts; has_log = h.has_log }

  module _ (S : Type 0) (mints : E → Bool) (spends : List E → E → Option ℕ) (tells : S → Log E → Type 0) where
    abbrev St : Type 0
    St = State (Option S) W

    abbrev Rule : St → Type 0
    Rule = LockRule mints spends tells

    -- the rule after a load by which an idle seat changes its numbers or its phase
    quiet : (s : St) (r : Rule s) (i id : ℕ) (c : List (ℕ × Option S)) (v w : W) → get_elem? s.views id ≡ some v → busy v ≡ 0 → ((t : ℕ) (l : Log E) → ¬ (v.phase ≡ Holding t l)) → busy w ≡ 0 → w.parts ≡ v.parts → w.log ≡ v.log → w.claims ≡ v.claims → NumberRule w w.phase → ((n : ℕ) → Has n v.numbers → Has n w.numbers)
        → PhaseRule r.log r.drawn r.owner r.bearer id w w.phase → Rule (stepped s i (get_or s.words i 0) id c w keeps)
    quiet s r i id c v w at still not still' parts start claims numbered more stands = record {
      log = r.log;
      drawn = r.drawn;
      owner = r.owner;
      bearer = r.bearer;
      words = set-get_or s.words i 0 ∙ r.words;
      bound = r.bound;
      busy_sum = let c = r.busy_sum in let t = total_set busy s.views id v w at in omega arith;
      parts_sum = let t = total_set parts_of s.views id v w at in let p = r.parts_sum in omega arith;
      numbers = subst (λ n. AreBelow n r.log) (sym (length-set s.views id w)) r.numbers;
      later_seats = λ n h. r.later_seats n (subst (λ k. k ≤ n) (length-set s.views id w) h);
      slot = ⊎_elim (λ h. inl h) (λ h. inr (h.0, held_stays E r.log s.views id v w h.1 at not)) r.slot;
      seats = seats_stay E (λ j x. PhaseRule r.log r.drawn r.owner r.bearer j x x.phase) s.views id w stands (λ j x _ e. r.seats j x e);
      witness = known_stays E r.log s.views id v w r.witness at (λ a b. (subst (λ n. 0 < n) (sym parts) a, start ∙ b));
      holder = r.holder;
      claims = seats_stay E (λ j x. HoldsClaims mints spends r.holder j r.log x.claims) s.views id w (subst (λ (ks : List ℕ). HoldsClaims mints spends r.holder id r.log ks) (sym claims) (r.claims id v at)) (λ j x _ e. r.claims j x e);
      later_claims = r.later_claims;
      own_numbers = seats_stay E (λ j x. NumberRule x x.phase) s.views id w numbered (λ j x _ e. r.own_numbers j x e);
      authors = covers_set E r.owner s.views id v w r.log at more r.authors;
    }

    pub takes_number : (slots id : ℕ) (me : Sitting S E) → me.0.phase ≡ New → Allows Rule slots id me 0 (λ n. n) (TakesNumber (step slots 0 0 0 none) me)
    takes_number slots id me new s r _ at _ =
        let v : W = me.0 in
        let w : W = with_number v id in
        let mine = subst (λ p. PhaseRule r.log r.drawn r.owner r.bearer id v p) new (r.seats id v at) in
        let a = mine.1 in
        let still : busy v ≡ 0 = ap busy_in new in (
          w,
          keeps,
          tt,
          quiet s r 0 id me.1 v w at still (λ t l e. let x = sym new ∙ e in cc) refl refl refl refl (inl refl) (λ n h. absurd (subst (λ (ns : List ℕ). Has n ns) mine.3 h))
              (mine.0, record { more = a.more; is = a.is; by_others = free_end (id ∷ []) v.log a.more (subst (λ (l : Log E). NoneBy (id ∷ []) l) a.is mine.5) }, (mine.4, tt), mine.4),
          (id, free_front (id ∷ []) v.log a.more (subst (λ (l : Log E). NoneBy (id ∷ []) l) a.is mine.5), refl),
        )

    pub settles : (slots id : ℕ) (a b : List ℕ) (x y : Log E) (me : Sitting S E) → me.0.phase ≡ Union a x b y → Allows Rule slots id me 0 (λ n. n) (Settles (step slots 0 0 0 none) me)
    settles slots id a b x y me joined s r _ at _ =
        let v : W = me.0 in
        let w : W = with_phase v Idle in
        let mine = subst (λ p. PhaseRule r.log r.drawn r.owner r.bearer id v p) joined (r.seats id v at) in
        let still : busy v ≡ 0 = ap busy_in joined in (
          w,
          keeps,
          tt,
          quiet s r 0 id me.1 v w at still (λ t l e. let x = sym joined ∙ e in cc) refl refl refl refl (subst (λ p. NumberRule v p) joined (r.own_numbers id v at)) (λ n h. h) (mine.0, mine.1, mine.2, mine.3),
          (
            refl,
            distinct E mints spends r.holder id r.log v.claims (r.claims id v at),
            λ a' b' x' y' e. let q : Union a x b y ≡ Union a' x' b' y' = sym joined ∙ e in
                let qa : a ≡ a' = cc in let qb : b ≡ b' = cc in let qx : x ≡ x' = cc in let qy : y ≡ y' = cc in (
                  subst (λ (z : List ℕ × Log E). Continues z.0 z.1 v.log) (λ i. (qa i, qx i)) mine.4,
                  subst (λ (z : List ℕ × Log E). Continues z.0 z.1 v.log) (λ i. (qb i, qy i)) mine.5,
                  subst (λ (z : List ℕ × List ℕ). AreApart z.0 z.1) (λ i. (qa i, qb i)) mine.6,
                ),
          ),
        )

    pub splits : (id : ℕ) (v : W) → v.phase ≡ Idle → 2 ≤ v.parts → Splits Rule id v (less_part v) (one_part v)
    splits id v idle some_parts s r at =
        let left : W = less_part v in
        let right : W = one_part v in
        let vs : List W = set s.views id left in
        let mine = subst (λ p. PhaseRule r.log r.drawn r.owner r.bearer id v p) idle (r.seats id v at) in
        let len : length vs ≡ length s.views = length-set s.views id left in
        let len' : length (vs ++ right ∷ []) ≡ length s.views + 1 = length-append vs (right ∷ []) ∙ ap (λ n. n + 1) len in
        record {
          log = r.log;
          drawn = r.drawn;
          owner = r.owner;
          bearer = r.bearer;
          words = r.words;
          bound = r.bound;
          busy_sum = let c = r.busy_sum in let t = total_set busy s.views id v left at in let u = total_snoc busy vs right in omega arith;
          parts_sum = let t = total_set parts_of s.views id v left at in let u = total_snoc parts_of vs right in let p = r.parts_sum in omega arith;
          numbers = below_more (length s.views) _ r.log (omega arith) r.numbers;
          later_seats = λ n h. r.later_seats n (omega arith);
          slot = ⊎_elim (λ h. inl h) (λ h. inr (h.0, held_longer r.log vs right (held_stays E r.log s.views id v left h.1 at (λ t l e. let x = sym idle ∙ e in cc)))) r.slot;
          seats = λ j x e. ⊎_elim
              (seats_stay E (λ j x. PhaseRule r.log r.drawn r.owner r.bearer j x x.phase) s.views id left
              (subst (λ p. PhaseRule r.log r.drawn r.owner r.bearer id left p) (sym idle) (omega arith, mine.1, mine.2, mine.3))
              (λ j x _ e. r.seats j x e) j x)
              (λ (t : (j ≡ length vs) × (right ≡ x)).
              let new : length s.views ≤ j = (let n = t.0 in omega arith) in
              subst (λ (z : W). PhaseRule r.log r.drawn r.owner r.bearer j z z.phase) t.1
              (omega arith, record { more = mine.1.more; is = mine.1.is; by_others = free_none mine.1.more }, tt, refl, r.later_seats j new, below_free (length s.views) j r.log new r.numbers))
              (at_snoc_at vs right x j e);
          witness = known_longer r.log vs right (known_stays E r.log s.views id v left r.witness at (λ a b. (omega arith, b)));
          holder = r.holder;
          claims = λ j x e. ⊎_elim
              (seats_stay E (λ j x. HoldsClaims mints spends r.holder j r.log x.claims) s.views id left (r.claims id v at) (λ j x _ e. r.claims j x e) j x)
              (λ (t : (j ≡ length vs) × (right ≡ x)). subst (λ (z : W). HoldsClaims mints spends r.holder j r.log z.claims) t.1 tt)
              (at_snoc_at vs right x j e);
          later_claims = r.later_claims;
          own_numbers = λ j x e. ⊎_elim
              (seats_stay E (λ j x. NumberRule x x.phase) s.views id left (subst (λ p. NumberRule left p) (sym idle) (subst (λ p. NumberRule v p) idle (r.own_numbers id v at))) (λ j x _ e. r.own_numbers j x e) j x)
              (λ (t : (j ≡ length vs) × (right ≡ x)). subst (λ (z : W). NumberRule z z.phase) t.1 tt)
              (at_snoc_at vs right x j e);
          authors = covers_longer E r.owner vs right r.log (covers_set E r.owner s.views id v left r.log at (λ n h. h) r.authors);
        }

    pub cuts : (id k : ℕ) (v : W) → v.phase ≡ Idle → Has k v.claims → Splits Rule id v (less_claim k v) (token_view k v)
    cuts id k v idle has s r at =
        let left : W = less_claim k v in
        let right : W = token_view k v in
        let vs : List W = set s.views id left in
        let mine = subst (λ p. PhaseRule r.log r.drawn r.owner r.bearer id v p) idle (r.seats id v at) in
        let len : length vs ≡ length s.views = length-set s.views id left in
        let len' : length (vs ++ right ∷ []) ≡ length s.views + 1 = length-append vs (right ∷ []) ∙ ap (λ n. n + 1) len in
        let held = r.claims id v at in
        let holder : ℕ → ℕ = λ x. cond (eqb x k) (length vs) (r.holder x) in
        record {
          log = r.log;
          drawn = r.drawn;
          owner = r.owner;
          bearer = r.bearer;
          words = r.words;
          bound = r.bound;
          busy_sum = let c = r.busy_sum in let t = total_set busy s.views id v left at in let u = total_snoc busy vs right in omega arith;
          parts_sum = let t = total_set parts_of s.views id v left at in let u = total_snoc parts_of vs right in let p = r.parts_sum in omega arith;
          numbers = below_more (length s.views) _ r.log (omega arith) r.numbers;
          later_seats = λ n h. r.later_seats n (omega arith);
          slot = ⊎_elim (λ h. inl h) (λ h. inr (h.0, held_longer r.log vs right (held_stays E r.log s.views id v left h.1 at (λ t l e. let x = sym idle ∙ e in cc)))) r.slot;
          seats = λ j x e. ⊎_elim
              (seats_stay E (λ j x. PhaseRule r.log r.drawn r.owner r.bearer j x x.phase) s.views id left
              (subst (λ p. PhaseRule r.log r.drawn r.owner r.bearer id left p) (sym idle) (mine.0, mine.1, mine.2, mine.3))
              (λ j x _ e. r.seats j x e) j x)
              (λ (t : (j ≡ length vs) × (right ≡ x)).
              subst (λ (z : W). PhaseRule r.log r.drawn r.owner r.bearer j z z.phase) t.1
              (refl, record { more = mine.1.more; is = mine.1.is; by_others = free_none mine.1.more }, refl))
              (at_snoc_at vs right x j e);
          witness = known_longer r.log vs right (known_stays E r.log s.views id v left r.witness at (λ a b. (a, b)));
          holder = holder;
          claims = λ j x e. ⊎_elim
              (seats_stay E (λ j x. HoldsClaims mints spends holder j r.log x.claims) s.views id left (claims_cut E mints spends r.holder id (length vs) r.log k v.claims held)
              (λ j x n e. claims_except E mints spends r.holder id j (length vs) r.log k x.claims v.claims n (r.claims j x e) held has) j x)
              (λ (t : (j ≡ length vs) × (right ≡ x)). subst (λ (z : W). HoldsClaims mints spends holder j r.log z.claims) t.1
              (subst (λ (i : ℕ). HoldsClaims mints spends holder i r.log (k ∷ [])) (sym t.0) (claims_one E mints spends r.holder id (length vs) r.log k v.claims held has)))
              (at_snoc_at vs right x j e);
          later_claims = r.later_claims;
          own_numbers = λ j x e. ⊎_elim
              (seats_stay E (λ j x. NumberRule x x.phase) s.views id left (subst (λ p. NumberRule left p) (sym idle) (subst (λ p. NumberRule v p) idle (r.own_numbers id v at))) (λ j x _ e. r.own_numbers j x e) j x)
              (λ (t : (j ≡ length vs) × (right ≡ x)). subst (λ (z : W). NumberRule z z.phase) t.1 tt)
              (at_snoc_at vs right x j e);
          authors = covers_longer E r.owner vs right r.log (covers_set E r.owner s.views id v left r.log at (λ n h. h) r.authors);
        }

    others_join : (log : Log E) (drawn other id : ℕ) (owner bearer : ℕ → ℕ) (j : ℕ) (v : W) (p : Phase E) → ¬ (j ≡ other) → PhaseRule log drawn owner bearer j v p → PhaseRule log drawn (owner_after owner other id) bearer j v p
    others_join log drawn other id owner bearer j v New n s = (s.0, s.1, owns_else owner other id j v.numbers n s.2, s.3, owner_after_else owner other id j j s.4 n, s.5)
    others_join log drawn other id owner bearer j v Idle n s = (s.0, s.1, owns_else owner other id j v.numbers n s.2, owner_after_else owner other id v.number j s.3 n)
    others_join log drawn other id owner bearer j v Token n s = s
    others_join log drawn other id owner bearer j v (Waiting t) n s = (s.0, s.1, owns_else owner other id j v.numbers n s.2, owner_after_else owner other id v.number j s.3 n, s.4, s.5, s.6)
    others_join log drawn other id owner bearer j v (Holding t l) n s = (s.0, s.1, owns_else owner other id j v.numbers n s.2, owner_after_else owner other id v.number j s.3 n, s.4, s.5, s.6, s.7, s.8)
    others_join log drawn other id owner bearer j v (Union a x b y) n s = (s.0, s.1, owns_else owner other id j v.numbers n s.2, owner_after_else owner other id v.number j s.3 n, s.4, s.5, s.6)
    others_join log drawn other id owner bearer j v Empty n s = s

    known_joins : (log : Log E) (vs : List W) (id other : ℕ) (v u both : W) → get_elem? vs id ≡ some v → get_elem? (set vs id both) other ≡ some u → ¬ (other ≡ id) → (v.log ≡ log → both.log ≡ log) → (u.log ≡ log → both.log ≡ log) → 0 < both.parts
        → HasWitness log vs → HasWitness log (set (set vs id both) other empty_view)
    known_joins log vs id other v u both at there apart one two parts k =
        let here : get_elem? (set (set vs id both) other empty_view) id ≡ some both = set_else (set vs id both) other id empty_view (λ e. apart (sym e)) ∙ set_here vs id both (inside vs id v at) in
        let first : both.log ≡ log → HasWitness log (set (set vs id both) other empty_view) = (λ e. record { seat = id; view = both; at = here; has_parts = parts; has_log = e }) in
        dite (ℕ_discrete k.seat id)
        (λ e. first (one (ap (λ (x : W). x.log) (sym (same_view E vs k.seat id k.view v k.at at e)) ∙ k.has_log)))
        (λ n. dite (ℕ_discrete k.seat other)
        (λ e. first (two (ap (λ (x : W). x.log) (sym (same_view E vs k.seat other k.view u k.at (sym (set_else vs id other both apart) ∙ there) e)) ∙ k.has_log)))
        (λ m. record { seat = k.seat; view = k.view; at = set_else (set vs id both) other k.seat empty_view m ∙ (set_else vs id k.seat both n ∙ k.at); has_parts = k.has_parts; has_log = k.has_log }))

    record Resting (log : Log E) (owner : ℕ → ℕ) (j : ℕ) (u : W) : Type 0 where
      pub continues : Continues u.numbers u.log log
      pub owns : BelongTo owner j u.numbers
      pub still : busy u ≡ 0
      pub free : (t : ℕ) (l : Log E) → ¬ (u.phase ≡ Holding t l)

    resting : (log : Log E) (drawn : ℕ) (owner bearer : ℕ → ℕ) (j : ℕ) (u : W) → (u.phase ≡ Idle) ⊎ (u.phase ≡ Token) → PhaseRule log drawn owner bearer j u u.phase → Resting log owner j u
    resting log drawn owner bearer j u is s = ⊎_elim
        (λ e. let m = subst (λ p. PhaseRule log drawn owner bearer j u p) e s in record { continues = m.1; owns = m.2; still = ap busy_in e; free = λ t l f. let x = sym e ∙ f in cc })
        (λ e. let m = subst (λ p. PhaseRule log drawn owner bearer j u p) e s in record { continues = m.1; owns = subst (λ (ns : List ℕ). BelongTo owner j ns) (sym m.2) tt; still = ap busy_in e; free = λ t l f. let x = sym e ∙ f in cc })
        is

    pub joins : (id other : ℕ) (v u : W) → v.phase ≡ Idle → (u.phase ≡ Idle) ⊎ (u.phase ≡ Token) → Joins Rule id v other u (union_view v u) empty_view
    joins id other v u idle idle' s r at apart there' =
        let both : W = union_view v u in
        let vs : List W = set s.views id both in
        let vs' : List W = set vs other empty_view in
        let there : get_elem? s.views other ≡ some u = sym (set_else s.views id other both apart) ∙ there' in
        let mine = subst (λ p. PhaseRule r.log r.drawn r.owner r.bearer id v p) idle (r.seats id v at) in
        let theirs = resting r.log r.drawn r.owner r.bearer other u idle' (r.seats other u there) in
        let l : Both v.numbers u.numbers v.log u.log (longer v.log u.log) r.log = longer_is v.numbers u.numbers v.log u.log r.log mine.1 theirs.continues in
        let apart' : ¬ (id ≡ other) = (λ e. apart (sym e)) in
        let still : busy v ≡ 0 = ap busy_in idle in
        let still' : busy u ≡ 0 = theirs.still in
        let owner : ℕ → ℕ = owner_after r.owner other id in
        let len : length vs' ≡ length s.views = length-set vs other empty_view ∙ length-set s.views id both in
        record {
          log = r.log;
          drawn = r.drawn;
          owner = owner;
          bearer = r.bearer;
          words = r.words;
          bound = r.bound;
          busy_sum = let c = r.busy_sum in let t = total_set busy s.views id v both at in let t' = total_set busy vs other u empty_view there' in omega arith;
          parts_sum = let t = total_set parts_of s.views id v both at in let t' = total_set parts_of vs other u empty_view there' in let p = r.parts_sum in omega arith;
          numbers = subst (λ n. AreBelow n r.log) (sym len) r.numbers;
          later_seats = λ n h. owner_after_else r.owner other id n n (r.later_seats n (omega arith)) (λ e. let i = inside s.views other u there in omega arith);
          slot = ⊎_elim (λ h. inl h)
              (λ h. inr (h.0, held_stays E r.log vs other u empty_view (held_stays E r.log s.views id v both h.1 at (λ t l e. let x = sym idle ∙ e in cc)) there' theirs.free)) r.slot;
          seats = seats_stay E (λ j x. PhaseRule r.log r.drawn owner r.bearer j x x.phase) vs other empty_view refl
              (λ j x n e. seats_stay E (λ j x. ¬ (j ≡ other) → PhaseRule r.log r.drawn owner r.bearer j x x.phase) s.views id both
              (λ _. (omega arith, l.all, owns_both r.owner other id v.numbers u.numbers apart' mine.2 theirs.owns, owner_after_else r.owner other id v.number id mine.3 apart', l.one, l.other, numbers_apart r.owner id other v.numbers u.numbers mine.2 theirs.owns apart))
              (λ j x _ e n. others_join r.log r.drawn other id r.owner r.bearer j x x.phase n (r.seats j x e)) j x e n);
          holder = owner_after r.holder other id;
          claims = seats_stay E (λ j x. HoldsClaims mints spends (owner_after r.holder other id) j r.log x.claims) vs other empty_view tt
              (λ j x n e. seats_stay E (λ j x. ¬ (j ≡ other) → HoldsClaims mints spends (owner_after r.holder other id) j r.log x.claims) s.views id both
              (λ _. claims_union E mints spends r.holder other id r.log v.claims u.claims apart' (r.claims id v at) (r.claims other u there))
              (λ j x _ e n. claims_else E mints spends r.holder other id j r.log x.claims n (r.claims j x e)) j x e n);
          later_claims = r.later_claims;
          own_numbers = seats_stay E (λ j x. NumberRule x x.phase) vs other empty_view refl
              (λ j x _ e. seats_stay E (λ j x. NumberRule x x.phase) s.views id both (has_front E v.number v.numbers u.numbers (subst (λ p. NumberRule v p) idle (r.own_numbers id v at))) (λ j x _ e. r.own_numbers j x e) j x e);
          authors = covers_join E r.owner s.views id other v u both empty_view r.log at there apart refl r.authors;
          witness = known_joins r.log s.views id other v u both at there' apart (λ e. l.one_knows e) (λ e. l.other_knows e) (omega arith) r.witness;
        }

    first_stands : (j : ℕ) (v : W) → get_elem? (first_view ∷ []) j ≡ some v → PhaseRule [] 0 (λ n. n) (λ t. 0) j v v.phase
    first_stands zero v e = subst (λ (z : W). PhaseRule [] 0 (λ n. n) (λ t. 0) 0 z z.phase) (some-injective first_view v e) (omega arith, record { more = []; is = refl; by_others = tt }, (refl, tt), refl)
    first_stands (suc j) v e = absurd (some-ne-none v (sym e))

    first_claims : (j : ℕ) (v : W) → get_elem? (first_view ∷ []) j ≡ some v → HoldsClaims mints spends (λ k. 0) j [] v.claims
    first_claims zero v e = subst (λ (z : W). HoldsClaims mints spends (λ k. 0) 0 [] z.claims) (some-injective first_view v e) tt
    first_claims (suc j) v e = absurd (some-ne-none v (sym e))

    first_numbered : (j : ℕ) (v : W) → get_elem? (first_view ∷ []) j ≡ some v → NumberRule v v.phase
    first_numbered zero v e = subst (λ (z : W). NumberRule z z.phase) (some-injective first_view v e) (inl refl)
    first_numbered (suc j) v e = absurd (some-ne-none v (sym e))

    pub makes : (value : S) → tells value [] → Rule (opening (0 ∷ 0 ∷ []) (Some value ∷ []) first_view)
    makes value says = record {
      log = [];
      drawn = 0;
      owner = λ n. n;
      bearer = λ t. 0;
      words = refl;
      bound = omega arith;
      busy_sum = refl;
      parts_sum = refl;
      numbers = tt;
      later_seats = λ n h. refl;
      slot = inl record { value = value; here = refl; stands = says };
      seats = first_stands;
      holder = λ k. 0;
      claims = first_claims;
      later_claims = λ k h. refl;
      own_numbers = first_numbered;
      authors = tt;
      witness = record { seat = 0; view = first_view; at = refl; has_parts = omega arith; has_log = refl };
    }

    -- beside a seat with all parts no other has any
    only : (s : St) (r : Rule s) (id j : ℕ) (v w : W) → get_elem? s.views id ≡ some v → v.parts ≡ 2 ^ 32 → get_elem? s.views j ≡ some w → 0 < w.parts → j ≡ id
    only s r id j v w at all there some_part = dite (ℕ_discrete j id) (λ e. e)
        (λ n. let t = total_one parts_of s.views id j v w at there n in let p = r.parts_sum in absurd (omega arith))

    end_home : (s : St) (r : Rule s) (id : ℕ) (v : W) → get_elem? s.views id ≡ some v → v.parts ≡ 2 ^ 32 → v.phase ≡ Idle → IsHome tells r.log s.homes
    end_home s r id v at all idle = ⊎_elim (λ h. h)
        (λ h. let k = h.1 in
        let theirs = subst (λ p. PhaseRule r.log r.drawn r.owner r.bearer k.seat k.view p) k.holds (r.seats k.seat k.view k.at) in
        let same : k.view ≡ v = same_view E s.views k.seat id k.view v k.at at (only s r id k.seat v k.view at all k.at theirs.0) in
        let q : Idle ≡ Holding k.ticket k.list = sym idle ∙ (ap (λ (x : W). x.phase) (sym same) ∙ k.holds) in absurd cc)
        r.slot

    pub record Ends (v : W) (xs : List (Option S)) : Type 0 where
      pub value : S
      pub here : get_elem? xs 0 ≡ some (Some value)
      pub stands : tells value v.log
      pub all : AllBy v.numbers v.log

    -- a seat with a number has a part
    parts_above : (log : Log E) (drawn : ℕ) (owner bearer : ℕ → ℕ) (j n : ℕ) (w : W) (p : Phase E) → PhaseRule log drawn owner bearer j w p → NumberRule w p → Has n w.numbers → 0 < w.parts
    parts_above log drawn owner bearer j n w New s q h = s.0
    parts_above log drawn owner bearer j n w Idle s q h = s.0
    parts_above log drawn owner bearer j n w Token s q h = absurd (subst (λ (ns : List ℕ). Has n ns) s.2 h)
    parts_above log drawn owner bearer j n w (Waiting t) s q h = s.0
    parts_above log drawn owner bearer j n w (Holding t l) s q h = s.0
    parts_above log drawn owner bearer j n w (Union a x b y) s q h = s.0
    parts_above log drawn owner bearer j n w Empty s q h = absurd (subst (λ (ns : List ℕ). Has n ns) q h)

    all_mine : (s : St) (r : Rule s) (id : ℕ) (v : W) → get_elem? s.views id ≡ some v → v.parts ≡ 2 ^ 32 → AllBy v.numbers r.log
    all_mine s r id v at all = all_of E r.owner s.views v.numbers r.log
        (λ j w n there has. subst (λ (x : W). Has n x.numbers)
        (same_view E s.views j id w v there at (only s r id j v w at all there (parts_above r.log r.drawn r.owner r.bearer j n w w.phase (r.seats j w there) (r.own_numbers j w there) has))) has)
        r.authors

    pub ends : (id : ℕ) (v : W) (ws : List ℕ) (xs : List (Option S)) → v.parts ≡ 2 ^ 32 → v.phase ≡ Idle → Final (Seen Rule id v) ws xs → Ends v xs
    ends id v ws xs all idle f =
        let s = f.0 in
        let r = f.1.0 in
        let at = f.1.1 in
        let home = end_home s r id v at all idle in
        let k = r.witness in
        let same : k.view ≡ v = same_view E s.views k.seat id k.view v k.at at (only s r id k.seat v k.view at all k.at k.has_parts) in
        record {
          value = home.value;
          here = f.4 0 (Some home.value) (subst (λ (hs : List (maybe.Option (Option S))). get_elem? hs 0 ≡ some (some (Some home.value))) (sym home.here) refl);
          stands = subst (λ (l : Log E). tells home.value l) (sym k.has_log ∙ ap (λ (x : W). x.log) same) home.stands;
          all = subst (λ (l : Log E). AllBy v.numbers l) (sym k.has_log ∙ ap (λ (x : W). x.log) same) (all_mine s r id v at all);
        }

    -- a seat or a token has seen a beginning of the log
    seen_in : (log : Log E) (drawn : ℕ) (owner bearer : ℕ → ℕ) (j : ℕ) (w : W) (p : Phase E) → PhaseRule log drawn owner bearer j w p → ¬ (p ≡ Empty) → Continues w.numbers w.log log
    seen_in log drawn owner bearer j w New s n = s.1
    seen_in log drawn owner bearer j w Idle s n = s.1
    seen_in log drawn owner bearer j w Token s n = s.1
    seen_in log drawn owner bearer j w (Waiting t) s n = s.1
    seen_in log drawn owner bearer j w (Holding t l) s n = s.1
    seen_in log drawn owner bearer j w (Union a x b y) s n = s.1
    seen_in log drawn owner bearer j w Empty s n = absurd (n refl)

    -- beside a seat with all parts none has seen more
    pub none_more : NoneHasSeenMore mints spends tells
    none_more s id j v w r at all there is =
        let k = r.witness in
        let same : k.view ≡ v = same_view E s.views k.seat id k.view v k.at at (only s r id k.seat v k.view at all k.at k.has_parts) in
        subst (λ (l : Log E). Continues w.numbers w.log l) (sym k.has_log ∙ ap (λ (x : W). x.log) same)
        (seen_in r.log r.drawn r.owner r.bearer j w w.phase (r.seats j w there) is)
