-- Laws of what a seat has made since.
use Rattle.std.proofs.Common.{ℕ, ◌≡◌, ◌+◌, Bool, true, false, cond, eqb, List, [], ◌∷◌, ◌++◌, Option, refl, ap, sym, subst, ◌∙◌, append-nil, append_assoc, arith, ⊎_elim, ne_eqb, eq-eqb}
use Rattle.atomic_table.specs.declared.shared.Seat.{Seat}
use Rattle.wc_base.specs.Views.{Log}
use Rattle.wc_base.specs.declared.seat.Passage.{Passage}
use Rattle.wc_base.specs.declared.seat.Passage.TheVariants.{Made, Look}
use Rattle.wc_base.specs.declared.seat.View.{View}
use Rattle.seat_lock.specs.Logs.{Has, IsNotIn, NoneBy, Continues, entries_of, entry_in}
use Rattle.seat_lock.specs.Own.{is_in}
use Rattle.seat_lock.specs.Passages.{IsUnion}
use Rattle.seat_lock.specs.Seats.{Sitting, IsIdle, HasView, after_passage, less_claim}
use Rattle.seat_lock.specs.Since.{entries_by, MadeSince}

not_in : (n : ℕ) (l : List ℕ) → IsNotIn n l → is_in n l ≡ false
not_in n [] h = refl
not_in n (m ∷ ms) h = subst (λ b. cond b true (is_in n ms) ≡ false) (sym (ne_eqb n m h.0)) (not_in n ms h.1)

either_true : (b : Bool) → cond b true true ≡ true
either_true true = refl
either_true false = refl

has_in : (n : ℕ) (l : List ℕ) → Has n l → is_in n l ≡ true
has_in n [] h = absurd h
has_in n (m ∷ ms) h = ⊎_elim (λ e. ap (λ b. cond b true (is_in n ms)) (eq-eqb n m e)) (λ i. ap (λ b. cond (eqb n m) true b) (has_in n ms i) ∙ either_true (eqb n m)) h

module _ {E : Type 0} where
  none_by : (numbers : List ℕ) (l : Log E) → NoneBy numbers l → entries_by numbers l ≡ []
  none_by numbers [] h = refl
  none_by numbers (p ∷ ps) h = subst (λ b. cond b (entry_in p.1 (entries_by numbers ps)) (entries_by numbers ps) ≡ []) (sym (not_in p.0 numbers h.0)) (none_by numbers ps h.1)

  by_snoc : (numbers : List ℕ) (l : Log E) (n : ℕ) (p : Passage E) → NoneBy numbers l → is_in n numbers ≡ true → entries_by numbers (l ++ (n, p) ∷ []) ≡ entry_in p []
  by_snoc numbers [] n p none here = ap (λ b. cond b (entry_in p []) []) here
  by_snoc numbers (q ∷ qs) n p none here = subst (λ b. cond b (entry_in q.1 (entries_by numbers (qs ++ (n, p) ∷ []))) (entries_by numbers (qs ++ (n, p) ∷ [])) ≡ entry_in p []) (sym (not_in q.0 numbers none.0)) (by_snoc numbers qs n p none.1 here)

  in_both : (p : Passage E) (a b : List E) → entry_in p (a ++ b) ≡ entry_in p a ++ b
  in_both (Made e) a b = refl
  in_both Look a b = refl

  cond_both : (c : Bool) (p : Passage E) (a b : List E) → cond c (entry_in p (a ++ b)) (a ++ b) ≡ cond c (entry_in p a) a ++ b
  cond_both true p a b = in_both p a b
  cond_both false p a b = refl

  by_append : (numbers : List ℕ) (a b : Log E) → entries_by numbers (a ++ b) ≡ entries_by numbers a ++ entries_by numbers b
  by_append numbers [] b = refl
  by_append numbers (p ∷ ps) b = ap (λ (l : List E). cond (is_in p.0 numbers) (entry_in p.1 l) l) (by_append numbers ps b) ∙ cond_both (is_in p.0 numbers) p.1 (entries_by numbers ps) (entries_by numbers b)

  -- with no call a seat has made nothing since
  pub made_none : (v : View E) → MadeSince v v []
  made_none v = record { number = refl; numbers = refl; parts = refl; more = []; longer = sym (append-nil v.log); made = refl }

  -- what was made since, and then since
  pub made_then : (u v w : View E) (es fs : List E) → MadeSince u v es → MadeSince v w fs → MadeSince u w (es ++ fs)
  made_then u v w es fs a b = record {
    number = b.number ∙ a.number;
    numbers = b.numbers ∙ a.numbers;
    parts = b.parts ∙ a.parts;
    more = a.more ++ b.more;
    longer = b.longer ∙ (ap (λ (l : Log E). l ++ b.more) a.longer ∙ append_assoc u.log a.more b.more);
    made = by_append u.numbers a.more b.more ∙ (λ i. a.made i ++ ((λ j. entries_by (sym a.numbers j) b.more) ∙ b.made) i);
  }

  -- two continuations, one after the other
  none_both : (numbers : List ℕ) (a b : Log E) → NoneBy numbers a → NoneBy numbers b → NoneBy numbers (a ++ b)
  none_both numbers [] b x y = y
  none_both numbers (p ∷ ps) b x y = (x.0, none_both numbers ps b x.1 y)

  pub continues_then : (numbers : List ℕ) (a b c : Log E) → Continues numbers a b → Continues numbers b c → Continues numbers a c
  continues_then numbers a b c x y = record {
    more = x.more ++ y.more;
    is = y.is ∙ (ap (λ (l : Log E). l ++ y.more) x.is ∙ append_assoc a x.more y.more);
    by_others = none_both numbers x.more y.more x.by_others y.by_others;
  }

  module _ {S : Type 0} where
    -- one passage of the seat
    pub made_by_passage : (mints : E → Bool) (spends : List E → E → Option ℕ) (a c : Seat (Option S) (View E)) (log : Log E) (p : Passage E) → HasView (after_passage mints spends a.me.0 log p) c → Continues a.me.0.numbers a.me.0.log log → Has a.me.0.number a.me.0.numbers → MadeSince a.me.0 c.me.0 (entry_in p [])
    made_by_passage mints spends a c log p view goes has = record {
      number = ap (λ (m : Sitting S E). m.0.number) view;
      numbers = ap (λ (m : Sitting S E). m.0.numbers) view;
      parts = ap (λ (m : Sitting S E). m.0.parts) view;
      more = goes.more ++ (a.me.0.number, p) ∷ [];
      longer = ap (λ (m : Sitting S E). m.0.log) view ∙ (ap (λ (l : Log E). l ++ (a.me.0.number, p) ∷ []) goes.is ∙ append_assoc a.me.0.log goes.more ((a.me.0.number, p) ∷ []));
      made = by_snoc a.me.0.numbers goes.more a.me.0.number p goes.by_others (has_in a.me.0.number a.me.0.numbers has);
    }

    pub idle_after : (mints : E → Bool) (spends : List E → E → Option ℕ) (a c : Seat (Option S) (View E)) (log : Log E) (p : Passage E) → HasView (after_passage mints spends a.me.0 log p) c → IsIdle c
    idle_after mints spends a c log p view = (ap (λ (m : Sitting S E). m.0.phase) view, ap (λ (m : Sitting S E). m.1) view)

    -- a claim was cut
    pub cut_since : (n : ℕ) (a b : Seat (Option S) (View E)) → HasView (less_claim n a.me.0) b → MadeSince a.me.0 b.me.0 []
    cut_since n a b view = record {
      number = ap (λ (m : Sitting S E). m.0.number) view;
      numbers = ap (λ (m : Sitting S E). m.0.numbers) view;
      parts = ap (λ (m : Sitting S E). m.0.parts) view;
      more = [];
      longer = ap (λ (m : Sitting S E). m.0.log) view ∙ sym (append-nil a.me.0.log);
      made = refl;
    }

    -- a token was joined
    pub token_since : (v : View E) (a b : Seat (Option S) (View E)) → v.numbers ≡ [] → v.parts ≡ 0 → IsUnion a.me.0 v b → MadeSince a.me.0 b.me.0 []
    token_since v a b bare weightless u = record {
      number = ap (λ (m : Sitting S E). m.0.number) u.view;
      numbers = ap (λ (m : Sitting S E). m.0.numbers) u.view ∙ (ap (λ (l : List ℕ). a.me.0.numbers ++ l) bare ∙ append-nil a.me.0.numbers);
      parts = ap (λ (m : Sitting S E). m.0.parts) u.view ∙ (ap (λ (n : ℕ). a.me.0.parts + n) weightless ∙ (omega arith));
      more = u.continues_one.more;
      longer = u.continues_one.is;
      made = none_by a.me.0.numbers u.continues_one.more u.continues_one.by_others;
    }

    pub idle_union : (v : View E) (a b : Seat (Option S) (View E)) → IsUnion a.me.0 v b → IsIdle b
    idle_union v a b u = (ap (λ (m : Sitting S E). m.0.phase) u.view, ap (λ (m : Sitting S E). m.1) u.view)
