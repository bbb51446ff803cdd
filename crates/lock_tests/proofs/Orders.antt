-- How many claims were minted after one passage more.
use Rattle.std.proofs.Common.{◌≡◌, ℕ, ◌+◌, List, [], ◌∷◌, ◌++◌, sym, ap, ◌∙◌, subst, arith, Option, Some, None, MatchOption, inl, inr, refl}
use Rattle.wc_base.specs.Views.{Log, token_view}
use Rattle.wc_base.specs.declared.seat.Passage.{Passage}
use Rattle.wc_base.specs.declared.seat.Passage.TheVariants.{Made, Look}
use Rattle.seat_lock.specs.Claims.{HasClaim, mint_count, spends_in}
use Rattle.atomic_table.specs.declared.shared.Seat.{Seat}
use Rattle.wc_base.specs.declared.seat.View.{View}
use Rattle.seat_lock.specs.Own.{mint_count-append, claims_of, view_of_passage}
use Rattle.seat_lock.specs.Passages.{Enters, GoesIn, IsUnion, Leaves, Passes}
use Rattle.seat_lock.specs.Logs.{Has}
use Rattle.seat_lock.specs.Seats.{HasView, Sitting, after_passage, less_claim}
use Rattle.lock_tests.specs.declared.stock.Order.{Order}
use Rattle.lock_tests.specs.declared.stock.Order.TheVariants.{Mint, Spend}
use Rattle.lock_tests.specs.Stock.{mints_claim, claim_spent, Mints, EndsInSpend, Passed, Rests}

-- so many were minted
abbrev pub count : Log Order → ℕ
count log = mint_count mints_claim claim_spent log

pub after_look : (log : Log Order) (n : ℕ) → count log ≡ count (log ++ (n, Look) ∷ [])
after_look log n = let e = mint_count-append mints_claim claim_spent log n Look in omega arith

pub after_mint : (log : Log Order) (n : ℕ) (order : Order) → order ≡ Mint → count log + 1 ≡ count (log ++ (n, Made order) ∷ [])
after_mint log n order is = let e = mint_count-append mints_claim claim_spent log n (Made Mint) in
    subst (λ (o : Order). count log + 1 ≡ count (log ++ (n, Made o) ∷ [])) (sym is) (sym e)

pub after_spend : (log : Log Order) (n claim : ℕ) (order : Order) → order ≡ Spend claim → count log ≡ count (log ++ (n, Made order) ∷ [])
after_spend log n claim order is = let e = mint_count-append mints_claim claim_spent log n (Made (Spend claim)) in
    subst (λ (o : Order). count log ≡ count (log ++ (n, Made o) ∷ [])) (sym is) (sym (e ∙ (omega arith)))

-- a mint spends nothing
pub mint_spends : (log : Log Order) (order : Order) (claims : List ℕ) → order ≡ Mint → HasClaim (spends_in mints_claim claim_spent log (Made order)) claims
mint_spends log order claims is = subst (λ (o : Order). HasClaim (spends_in mints_claim claim_spent log (Made o)) claims) (sym is) tt

module _ {S : Type 0} (tells : S → Log Order → Type 0) (value : S) (a b c : Seat (Option S) (View Order)) where
  -- who enters and leaves by a mint mints the claim whose number is how many there were
  pub mints_of : (claim : ℕ) (order : Order) → order ≡ Mint → (enters : Enters mints_claim claim_spent tells value a b) → Leaves mints_claim claim_spent (Made order) b c → claim ≡ count enters.log → Mints claim a c
  mints_of claim order is enters leaves number = record {
    passes = record {
      log = enters.log;
      continues = enters.continues;
      has_number = enters.has_number;
      live = enters.live;
      view = subst (λ (o : Order). HasView (after_passage mints_claim claim_spent a.me.0 enters.log (Made o)) c) is
          (view_of_passage mints_claim claim_spent (Made order) enters.log a b c enters.goes_in leaves);
    };
    number = number;
  }

-- a claim of a seat may be spent by it once it is inside
pub spend_has : {S : Type 0} (log : Log Order) (a b : Seat (Option S) (View Order)) (claim : ℕ) (order : Order) → order ≡ Spend claim → GoesIn log a b → Has claim a.me.0.claims → HasClaim (spends_in mints_claim claim_spent log (Made order)) b.me.0.claims
spend_has log a b claim order is goes has = subst (λ (z : Order × List ℕ). HasClaim (spends_in mints_claim claim_spent log (Made z.0)) z.1) (λ i. (sym is i, sym (claims_of log a b goes) i)) has

pub has_end : (n : ℕ) (l : List ℕ) → Has n (l ++ n ∷ [])
has_end n [] = inl refl
has_end n (x ∷ xs) = inr (has_end n xs)

-- who spent a claim has seen that passage last
pub ends_in_spend : {S : Type 0} (claim : ℕ) (a b : Seat (Option S) (View Order)) → Passes mints_claim claim_spent (Made (Spend claim)) a b → EndsInSpend b
ends_in_spend {S} claim a b passes =
    let log = ap (λ (m : Sitting S Order). m.0.log) passes.view in
    let number = ap (λ (m : Sitting S Order). m.0.number) passes.view in
    record { log = passes.log; claim = claim; is = log ∙ ap (λ (n : ℕ). passes.log ++ (n, Made (Spend claim)) ∷ []) (sym number) }

module _ {S : Type 0} where
  -- who makes a passage rests after it
  pub rests_after : (p : Passage Order) (a b : Seat (Option S) (View Order)) → b.table_id ≡ a.table_id → Passes mints_claim claim_spent p a b → Rests a b
  rests_after p a b same passes = ((same, (ap (λ (m : Sitting S Order). m.0.phase) passes.view, ap (λ (m : Sitting S Order). m.1) passes.view)), ap (λ (m : Sitting S Order). m.0.parts) passes.view)

  -- who asked for a claim rests after it
  pub rests_mint : (r : Option ℕ) (a b : Seat (Option S) (View Order)) → b.table_id ≡ a.table_id → MatchOption r (Passed Look a b) (λ n. Mints n a b) → Rests a b
  rests_mint None a b same m = rests_after Look a b same m
  rests_mint (Some n) a b same m = rests_after (Made Mint) a b same m.passes

  -- and after a claim of it went
  pub rests_less : (claim : ℕ) (a b c : Seat (Option S) (View Order)) → Rests a b → c.table_id ≡ b.table_id → HasView (less_claim claim b.me.0) c → Rests a c
  rests_less claim a b c rests same view = (
    (same ∙ rests.0.0, (ap (λ (m : Sitting S Order). m.0.phase) view ∙ rests.0.1.0, ap (λ (m : Sitting S Order). m.1) view)),
    ap (λ (m : Sitting S Order). m.0.parts) view ∙ rests.1,
  )

  -- a seat rests once it took in a token, and after its next passage
  pub rests_with : (claim : ℕ) (from : View Order) (p : Passage Order) (a b c : Seat (Option S) (View Order)) → b.table_id ≡ a.table_id → IsUnion a.me.0 (token_view claim from) b → c.table_id ≡ b.table_id → Passes mints_claim claim_spent p b c → Rests a c
  rests_with claim from p a b c same union same' passes =
      let one = ap (λ (m : Sitting S Order). m.0.parts) passes.view in
      let two = ap (λ (m : Sitting S Order). m.0.parts) union.view in (
        (same' ∙ same, (ap (λ (m : Sitting S Order). m.0.phase) passes.view, ap (λ (m : Sitting S Order). m.1) passes.view)),
        omega arith,
      )
