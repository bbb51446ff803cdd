-- A seat's own passages, and what a caller of `enter` and `leave` knows of them.
use Rattle.std.proofs.Common.{◌≡◌, ℕ, ◌+◌, Bool, true, false, cond, eqb, List, [], ◌∷◌, ◌++◌, Option, sym, refl, ap, ◌∙◌, subst, ⊎_elim, append-nil, eq-eqb, ne_eqb}
use Rattle.std.proofs.Math.Nat.{add_assoc, add_comm}
use Rattle.seat_lock.specs.Claims.{mint_count, mints_in}
use Rattle.atomic_table.specs.declared.shared.Seat.{Seat}
use Rattle.wc_base.specs.Views.{Log}
use Rattle.wc_base.specs.declared.seat.Passage.{Passage}
use Rattle.wc_base.specs.declared.seat.Passage.TheVariants.{Made, Look}
use Rattle.wc_base.specs.declared.seat.View.{View}
use Rattle.seat_lock.specs.Logs.{Has, IsNotIn, NoneBy, Continues, entry_in, entries_of}
use Rattle.seat_lock.specs.Passages.{GoesIn, IsInside, Enters, Leaves, Passes}
use Rattle.seat_lock.specs.Seats.{Sitting, HasView, after_passage}

-- whether the number stands in the list
abbrev pub is_in : ℕ → List ℕ → Bool
is_in n [] = false
is_in n (m ∷ ms) = cond (eqb n m) true (is_in n ms)

-- the passages of seats with one of these numbers, in order
abbrev pub own : {E : Type 0} → List ℕ → Log E → List (Passage E)
own numbers [] = []
own numbers (p ∷ ps) = cond (is_in p.0 numbers) (p.1 ∷ own numbers ps) (own numbers ps)

either_true : (b : Bool) → cond b true true ≡ true
either_true true = refl
either_true false = refl

is_in_has : (n : ℕ) (numbers : List ℕ) → Has n numbers → is_in n numbers ≡ true
is_in_has n [] h = absurd h
is_in_has n (m ∷ ms) h = ⊎_elim
    (λ e. ap (λ b. cond b true (is_in n ms)) (eq-eqb n m e))
    (λ i. ap (λ b. cond (eqb n m) true b) (is_in_has n ms i) ∙ either_true (eqb n m)) h

is_in_not : (n : ℕ) (numbers : List ℕ) → IsNotIn n numbers → is_in n numbers ≡ false
is_in_not n [] h = refl
is_in_not n (m ∷ ms) h = subst (λ b. cond b true (is_in n ms) ≡ false) (sym (ne_eqb n m h.0)) (is_in_not n ms h.1)

module _ {E : Type 0} where
  in_append : (p : Passage E) (a b : List E) → entry_in p (a ++ b) ≡ entry_in p a ++ b
  in_append (Made e) a b = refl
  in_append Look a b = refl

  -- one more passage has one more entry, or none
  pub entries_of-append : (log : Log E) (n : ℕ) (p : Passage E) → entries_of (log ++ (n, p) ∷ []) ≡ entries_of log ++ entry_in p []
  entries_of-append [] n p = refl
  entries_of-append (x ∷ xs) n p = ap (λ es. entry_in x.1 es) (entries_of-append xs n p) ∙ in_append x.1 (entries_of xs) (entry_in p [])

  cond_append : (b : Bool) (x : Passage E) (xs ys : List (Passage E)) → cond b (x ∷ (xs ++ ys)) (xs ++ ys) ≡ cond b (x ∷ xs) xs ++ ys
  cond_append true x xs ys = refl
  cond_append false x xs ys = refl

  pub own-append : (numbers : List ℕ) (a b : Log E) → own numbers (a ++ b) ≡ own numbers a ++ own numbers b
  own-append numbers [] b = refl
  own-append numbers (p ∷ ps) b =
      ap (λ (l : List (Passage E)). cond (is_in p.0 numbers) (p.1 ∷ l) l) (own-append numbers ps b)
      ∙ cond_append (is_in p.0 numbers) p.1 (own numbers ps) (own numbers b)

  own-none : (numbers : List ℕ) (log : Log E) → NoneBy numbers log → own numbers log ≡ []
  own-none numbers [] none_by = refl
  own-none numbers (p ∷ ps) none_by =
      subst (λ b. cond b (p.1 ∷ own numbers ps) (own numbers ps) ≡ []) (sym (is_in_not p.0 numbers none_by.0)) (own-none numbers ps none_by.1)

  -- of a seat's own passages a log that goes on with others' has just those that the seat had seen
  pub own-continues : (numbers : List ℕ) (start log : Log E) → Continues numbers start log → own numbers log ≡ own numbers start
  own-continues numbers start log a =
      ap (own numbers) a.is
      ∙ (own-append numbers start a.more
      ∙ (ap (λ (l : List (Passage E)). own numbers start ++ l) (own-none numbers a.more a.by_others) ∙ append-nil (own numbers start)))

  module _ (mints : E → Bool) (spends : List E → E → Option ℕ) where
    -- one more passage mints one more claim, or none
    pub mint_count-append : (log : Log E) (n : ℕ) (p : Passage E) → mint_count mints spends (log ++ (n, p) ∷ []) ≡ mint_count mints spends log + cond (mints_in mints spends p) 1 0
    mint_count-append [] n p = add_comm (cond (mints_in mints spends p) 1 0) 0
    mint_count-append (x ∷ xs) n p =
        ap (λ (k : ℕ). cond (mints_in mints spends x.1) 1 0 + k) (mint_count-append xs n p)
        ∙ sym (add_assoc (cond (mints_in mints spends x.1) 1 0) (mint_count mints spends xs) (cond (mints_in mints spends p) 1 0))

  module _ {S : Type 0} where
    -- a seat that went in is inside
    pub inside_of : (log : Log E) (a b : Seat (Option S) (View E)) → GoesIn log a b → IsInside log b
    inside_of log a b goes = record {
      ticket = goes.ticket;
      phase = ap (λ (m : Sitting S E). m.0.phase) goes.me;
      early = goes.early;
      slot = ap (λ (m : Sitting S E). m.1) goes.me;
    }

    -- and has its number
    pub number_of : (log : Log E) (a b : Seat (Option S) (View E)) → GoesIn log a b → b.me.0.number ≡ a.me.0.number
    number_of log a b goes = ap (λ (m : Sitting S E). m.0.number) goes.me

    -- and its claims
    pub claims_of : (log : Log E) (a b : Seat (Option S) (View E)) → GoesIn log a b → b.me.0.claims ≡ a.me.0.claims
    claims_of log a b goes = ap (λ (m : Sitting S E). m.0.claims) goes.me

    module _ (mints : E → Bool) (spends : List E → E → Option ℕ) (p : Passage E) where
      -- the view of who entered and left
      pub view_of_passage : (log : Log E) (a b c : Seat (Option S) (View E)) → GoesIn log a b → Leaves mints spends p b c → HasView (after_passage mints spends a.me.0 log p) c
      view_of_passage log a b c goes leaves =
          leaves log (inside_of log a b goes) ∙ ap (λ (m : Sitting S E). (after_passage mints spends m.0 log p, [])) goes.me

      -- who enters and leaves makes a passage
      pub passes_of : (tells : S → Log E → Type 0) (value : S) (a b c : Seat (Option S) (View E)) → Enters mints spends tells value a b → Leaves mints spends p b c → Passes mints spends p a c
      passes_of tells value a b c enters leaves = record {
        log = enters.log;
        continues = enters.continues;
        has_number = enters.has_number;
        live = enters.live;
        view = view_of_passage enters.log a b c enters.goes_in leaves;
      }

      -- a seat's own passages are those that it had made, and the one that it makes
      pub own_of_passage : (a b : Seat (Option S) (View E)) → Passes mints spends p a b → own b.me.0.numbers b.me.0.log ≡ own a.me.0.numbers a.me.0.log ++ p ∷ []
      own_of_passage a b passes =
          let v : View E = a.me.0 in
          ap (λ (m : Sitting S E). own m.0.numbers m.0.log) passes.view
          ∙ (own-append v.numbers passes.log ((v.number, p) ∷ [])
          ∙ (ap (λ b. own v.numbers passes.log ++ cond b (p ∷ []) []) (is_in_has v.number v.numbers passes.has_number)
          ∙ ap (λ (l : List (Passage E)). l ++ p ∷ []) (own-continues v.numbers v.log passes.log passes.continues)))
