-- Draw, turn and publish keep the rule.
use Rattle.std.proofs.Common.{◌≡◌, Bool, ℕ, ◌+◌, ◌^◌, ◌%◌, ◌<◌, ◌≤◌, ◌≢◌, inl, inr, eqb, cond, List, [], ◌∷◌, ◌++◌, length, get_or, set, sym, refl, ap, ◌∙◌, subst, ⊎_elim, arith, length-set, length-append, Option, Some, eq-eqb, ne_eqb}
use mathlib.Core.Logic.{dite}
use mathlib.Core.Option.{some, none, some-injective}
use mathlib.Core.Option as maybe
use native.Mathlib.Decide.{dec_lt, ℕ_discrete}
use lib.ListN.{get_elem?}
use lib.Seq.{set-get_or}
use Rattle.atomic_table.specs.Table.{State, Act, step, keeps, takes, gives, carried_after, Valid, stepped, Allows}
use Rattle.atomic_table.proofs.Lists.{at_set, set_again, set_here, set_else}
use Rattle.seat_lock.proofs.Claims.{are_live, holder_after, mine_after, others_keep, later_stay, minted_snoc}
use Rattle.seat_lock.proofs.Authors.{covers_set, covers_snoc}
use Rattle.seat_lock.proofs.Logs.{inside, total_set, total_le, free_snoc, ahead_snoc, ahead_whole, below_snoc, owns_apart}
use Rattle.seat_lock.specs.Claims.{HasClaim, HoldsClaims, claims_after, mint_count, spends_in}
use Rattle.seat_lock.specs.Logs.{AreBelow, Continues, IsNotIn}
use Rattle.seat_lock.specs.Own.{own}
use Rattle.seat_lock.specs.Rule.{HasWitness, IsHome, IsOut, LockRule, NumberRule, PhaseRule, busy, busy_in, parts_of, total}
use Rattle.seat_lock.specs.Seats.{Sitting, after_passage, with_phase}
use Rattle.seat_lock.specs.Steps.{Draws, Publishes, Takes, TakesTurn}
use Rattle.wc_base.specs.Views.{Log}
use Rattle.wc_base.specs.declared.seat.Passage.{Passage}
use Rattle.wc_base.specs.declared.seat.Phase.{Phase}
use Rattle.wc_base.specs.declared.seat.Phase.TheVariants.{Empty, Holding, Idle, New, Token, Union, Waiting}
use Rattle.wc_base.specs.declared.seat.View.{View}

module _ (E : Type 0) where
  abbrev pub W : Type 0
  W = View E

  pub seats_stay : (P : ℕ → W → Type 0) (vs : List W) (me : ℕ) (w : W) → P me w → ((j : ℕ) (v : W) → j ≢ me → get_elem? vs j ≡ some v → P j v) → (j : ℕ) (v : W) → get_elem? (set vs me w) j ≡ some v → P j v
  seats_stay P vs me w mine others j v e = ⊎_elim (λ (t : (j ≡ me) × (w ≡ v)). subst (λ (x : ℕ × W). P x.0 x.1) (λ i. (sym t.0 i, t.1 i)) mine) (λ (t : (j ≢ me) × (get_elem? vs j ≡ some v)). others j v t.0 t.1) (at_set vs me j w v e)

  pub same_view : (vs : List W) (i j : ℕ) (v w : W) → get_elem? vs i ≡ some v → get_elem? vs j ≡ some w → i ≡ j → v ≡ w
  same_view vs i j v w a b e = some-injective v w (sym a ∙ ap (get_elem? vs) e ∙ b)

  pub known_stays : (log : Log E) (vs : List W) (id : ℕ) (v w : W) → HasWitness log vs → get_elem? vs id ≡ some v → (0 < v.parts → v.log ≡ log → (0 < w.parts) × (w.log ≡ log)) → HasWitness log (set vs id w)
  known_stays log vs id v w k at more = dite (ℕ_discrete k.seat id)
      (λ (e : k.seat ≡ id). let same : k.view ≡ v = same_view vs k.seat id k.view v k.at at e in
      let m = more (subst (λ (x : W). 0 < x.parts) same k.has_parts) (ap (λ (x : W). x.log) (sym same) ∙ k.has_log) in
      record { seat = id; view = w; at = set_here vs id w (inside vs id v at); has_parts = m.0; has_log = m.1 })
      (λ n. record { seat = k.seat; view = k.view; at = set_else vs id k.seat w n ∙ k.at; has_parts = k.has_parts; has_log = k.has_log })

  pub held_stays : (log : Log E) (vs : List W) (id : ℕ) (v w : W) → IsOut log vs → get_elem? vs id ≡ some v → ((t : ℕ) (l : Log E) → ¬ (v.phase ≡ Holding t l)) → IsOut log (set vs id w)
  held_stays log vs id v w h at not = record {
    seat = h.seat;
    view = h.view;
    ticket = h.ticket;
    list = h.list;
    at = set_else vs id h.seat w (λ e. not h.ticket h.list (ap (λ (x : W). x.phase) (sym (same_view vs h.seat id h.view v h.at at e)) ∙ h.holds)) ∙ h.at;
    holds = h.holds;
  }

  busy_below : (log : Log E) (drawn : ℕ) (owner bearer : ℕ → ℕ) (j : ℕ) (v : W) (p : Phase E) → PhaseRule log drawn owner bearer j v p → busy_in p ≤ v.parts
  busy_below log drawn owner bearer j v New s = omega arith
  busy_below log drawn owner bearer j v Idle s = omega arith
  busy_below log drawn owner bearer j v Token s = omega arith
  busy_below log drawn owner bearer j v (Waiting t) s = let a = s.0 in omega arith
  busy_below log drawn owner bearer j v (Holding t l) s = let a = s.0 in omega arith
  busy_below log drawn owner bearer j v (Union a x b y) s = omega arith
  busy_below log drawn owner bearer j v Empty s = omega arith

  -- the other seats, at a draw
  others_draw : (log : Log E) (drawn id : ℕ) (owner bearer : ℕ → ℕ) (j : ℕ) (v : W) (p : Phase E) → PhaseRule log drawn owner bearer j v p → PhaseRule log (drawn + 1) owner (λ t. cond (eqb t drawn) id (bearer t)) j v p
  others_draw log drawn id owner bearer j v New s = s
  others_draw log drawn id owner bearer j v Idle s = s
  others_draw log drawn id owner bearer j v Token s = s
  others_draw log drawn id owner bearer j v (Waiting t) s = let h = s.6 in
      (s.0, s.1, s.2, s.3, subst (λ b. cond b id (bearer t) ≡ j) (sym (ne_eqb t drawn (λ e. omega arith))) s.4, s.5, omega arith)
  others_draw log drawn id owner bearer j v (Holding t l) s = let h = s.6 in
      (s.0, s.1, s.2, s.3, subst (λ b. cond b id (bearer t) ≡ j) (sym (ne_eqb t drawn (λ e. omega arith))) s.4, s.5, omega arith, s.7, s.8)
  others_draw log drawn id owner bearer j v (Union a x b y) s = s
  others_draw log drawn id owner bearer j v Empty s = s

  module _ (S : Type 0) (mints : E → Bool) (spends : List E → E → Option ℕ) (tells : S → Log E → Type 0) where
    abbrev pub St : Type 0
    St = State (Option S) W

    abbrev pub Rule : St → Type 0
    Rule = LockRule mints spends tells

    busy_room : (s : St) (r : Rule s) → total busy s.views ≤ 2 ^ 32
    busy_room s r = subst (λ n. total busy s.views ≤ n) r.parts_sum (total_le busy parts_of s.views (λ i v e. busy_below r.log r.drawn r.owner r.bearer i v v.phase (r.seats i v e)))

    pub draws : (slots id : ℕ) (me : Sitting S E) → me.0.phase ≡ Idle → Allows Rule slots id me 0 (λ n. (n + 1) % 2 ^ 64) (Draws (step slots 0 1 0 none) me)
    draws slots id me idle s r _ at _ =
        let v : W = me.0 in
        let found : ℕ = get_or s.words 0 0 in
        let w : W = with_phase v (Waiting found) in
        let is : found ≡ r.drawn = ap (λ (ws : List ℕ). get_or ws 0 0) r.words in
        let room = busy_room s r in
        let c = r.busy_sum in
        let short = r.bound in
        let next : (found + 1) % 2 ^ 64 ≡ r.drawn + 1 = omega arith in
        let quiet : busy v ≡ 0 = ap busy_in idle in
        let mine = subst (λ p. PhaseRule r.log r.drawn r.owner r.bearer id v p) idle (r.seats id v at) in (
          w,
          keeps,
          tt,
          record {
            log = r.log;
            drawn = r.drawn + 1;
            owner = r.owner;
            bearer = λ t. cond (eqb t r.drawn) id (r.bearer t);
            words = subst (λ (ws : List ℕ). set ws 0 ((found + 1) % 2 ^ 64) ≡ (r.drawn + 1) ∷ length r.log ∷ []) (sym r.words) (ap (λ n. n ∷ length r.log ∷ []) next);
            bound = r.bound;
            busy_sum = let t = total_set busy s.views id v w at in omega arith;
            parts_sum = let t = total_set parts_of s.views id v w at in let p = r.parts_sum in omega arith;
            numbers = subst (λ n. AreBelow n r.log) (sym (length-set s.views id w)) r.numbers;
            later_seats = λ n h. r.later_seats n (subst (λ k. k ≤ n) (length-set s.views id w) h);
            slot = ⊎_elim (λ h. inl h) (λ h. inr (h.0, held_stays r.log s.views id v w h.1 at (λ t l e. let x = sym idle ∙ e in cc))) r.slot;
            seats = seats_stay (λ j x. PhaseRule r.log (r.drawn + 1) r.owner (λ t. cond (eqb t r.drawn) id (r.bearer t)) j x x.phase) s.views id w
                (mine.0, mine.1, mine.2, mine.3, subst (λ b. cond b id (r.bearer found) ≡ id) (sym (eq-eqb found r.drawn is)) refl, omega arith, omega arith)
                (λ j x _ e. others_draw r.log r.drawn id r.owner r.bearer j x x.phase (r.seats j x e));
            witness = known_stays r.log s.views id v w r.witness at (λ a b. (a, b));
            holder = r.holder;
            claims = seats_stay (λ j x. HoldsClaims mints spends r.holder j r.log x.claims) s.views id w (r.claims id v at) (λ j x _ e. r.claims j x e);
            later_claims = r.later_claims;
            own_numbers = seats_stay (λ j x. NumberRule x x.phase) s.views id w (subst (λ p. NumberRule v p) idle (r.own_numbers id v at)) (λ j x _ e. r.own_numbers j x e);
            authors = covers_set E r.owner s.views id v w r.log at (λ n h. h) r.authors;
          },
          refl,
        )

    -- the rule after a load that changes no view
    unmoved : (s : St) (r : Rule s) (i id : ℕ) (me : Sitting S E) → get_elem? s.views id ≡ some me.0 → Rule (stepped s i (get_or s.words i 0) id me.1 me.0 keeps)
    unmoved s r i id me at = subst (λ (x : List ℕ × List W). Rule record { words = x.0; homes = s.homes; views = x.1 }) (λ k. (sym (set-get_or s.words i 0) k, sym (set_again s.views id me.0 at) k)) r

    -- when the turn of a waiting seat comes, no other seat has the value
    comes_home : (s : St) (r : Rule s) (id t : ℕ) (v : W) → get_elem? s.views id ≡ some v → v.phase ≡ Waiting t → t ≡ length r.log → IsHome tells r.log s.homes
    comes_home s r id t v at waits is = ⊎_elim (λ h. h)
        (λ h. let k = h.1 in
        let theirs = subst (λ p. PhaseRule r.log r.drawn r.owner r.bearer k.seat k.view p) k.holds (r.seats k.seat k.view k.at) in
        let mine = subst (λ p. PhaseRule r.log r.drawn r.owner r.bearer id v p) waits (r.seats id v at) in
        let one : k.seat ≡ id = sym theirs.4 ∙ (ap r.bearer (theirs.5 ∙ sym is) ∙ mine.4) in
        let same : k.view ≡ v = same_view s.views k.seat id k.view v k.at at one in
        let p : Waiting t ≡ Holding k.ticket k.list = sym waits ∙ (ap (λ (x : W). x.phase) (sym same) ∙ k.holds) in absurd (cc))
        r.slot

    takes_turn : (says : S → Log E → Type 0) → ((x : S) (l : Log E) → tells x l → says x l) → (s : St) (r : Rule s) (id t : ℕ) (me : Sitting S E) → get_elem? s.views id ≡ some me.0 → me.0.phase ≡ Waiting t → length r.log ≡ t → t < 2 ^ 63 → IsHome tells r.log s.homes
        → (w : W) × (a : Act (Option S)) × Valid s.homes me.1 a × Rule (stepped s 1 (get_or s.words 1 0) id me.1 w a) × Takes mints spends says me t (w, carried_after me.1 a)
    takes_turn says more s r id t me at waits is early home =
        let v : W = me.0 in
        let w : W = with_phase v (Holding t r.log) in
        let mine = subst (λ p. PhaseRule r.log r.drawn r.owner r.bearer id v p) waits (r.seats id v at) in
        let stands : busy v ≡ 1 = ap busy_in waits in (
          w,
          takes 0 (Some home.value),
          subst (λ (hs : List (maybe.Option (Option S))). get_elem? hs 0 ≡ some (some (Some home.value))) (sym home.here) refl,
          record {
            log = r.log;
            drawn = r.drawn;
            owner = r.owner;
            bearer = r.bearer;
            words = set-get_or s.words 1 0 ∙ r.words;
            bound = r.bound;
            busy_sum = let c = r.busy_sum in let t = total_set busy s.views id v w at in omega arith;
            parts_sum = let t = total_set parts_of s.views id v w at in let p = r.parts_sum in omega arith;
            numbers = subst (λ n. AreBelow n r.log) (sym (length-set s.views id w)) r.numbers;
            later_seats = λ n h. r.later_seats n (subst (λ k. k ≤ n) (length-set s.views id w) h);
            slot = inr (
              subst (λ (hs : List (maybe.Option (Option S))). set hs 0 none ≡ none ∷ []) (sym home.here) refl,
              record { seat = id; view = w; ticket = t; list = r.log; at = set_here s.views id w (inside s.views id v at); holds = refl },
            );
            seats = seats_stay (λ j x. PhaseRule r.log r.drawn r.owner r.bearer j x x.phase) s.views id w
                (mine.0, mine.1, mine.2, mine.3, mine.4, sym is, mine.6, early, refl)
                (λ j x _ e. r.seats j x e);
            witness = known_stays r.log s.views id v w r.witness at (λ a b. (a, b));
            holder = r.holder;
            claims = seats_stay (λ j x. HoldsClaims mints spends r.holder j r.log x.claims) s.views id w (r.claims id v at) (λ j x _ e. r.claims j x e);
            later_claims = r.later_claims;
            own_numbers = seats_stay (λ j x. NumberRule x x.phase) s.views id w (subst (λ p. NumberRule v p) waits (r.own_numbers id v at)) (λ j x _ e. r.own_numbers j x e);
            authors = covers_set E r.owner s.views id v w r.log at (λ n h. h) r.authors;
          },
          record {
            value = home.value;
            log = r.log;
            stands = more home.value r.log home.stands;
            continues = mine.1;
            has_number = subst (λ p. NumberRule v p) waits (r.own_numbers id v at);
            live = are_live E mints spends r.holder id r.log v.claims (r.claims id v at);
            view = refl;
          },
        )

    pub turns : (says : S → Log E → Type 0) → ((x : S) (l : Log E) → tells x l → says x l) → (slots id t : ℕ) (me : Sitting S E) → me.0.phase ≡ Waiting t → Allows Rule slots id me 1 (λ n. n) (TakesTurn mints spends says (step slots 1 0 0 none) me)
    turns says more slots id t me waits s r _ at _ =
        let found : ℕ = get_or s.words 1 0 in
        let is : found ≡ length r.log = ap (λ (ws : List ℕ). get_or ws 1 0) r.words in
        let none_yet : ¬ ((found ≡ t) × (t < 2 ^ 63)) → (w : W) × (a : Act (Option S)) × Valid s.homes me.1 a × Rule (stepped s 1 found id me.1 w a) × TakesTurn mints spends says (step slots 1 0 0 none) me found (w, carried_after me.1 a)
        = λ no. (
          me.0,
          keeps,
          tt,
          unmoved s r 1 id me at,
          λ t' w'. let same : t ≡ t' = (let e : Waiting t ≡ Waiting t' = sym waits ∙ w' in cc) in
              (λ a b. absurd (no (a ∙ sym same, subst (λ (k : ℕ). k < 2 ^ 63) (sym same) b)), λ _. refl),
        ) in
        dite (ℕ_discrete found t)
        (λ e. dite (dec_lt t (2 ^ 63))
        (λ early. let g = takes_turn says more s r id t me at waits (sym is ∙ e) early (comes_home s r id t me.0 at waits (sym e ∙ is)) in (
          g.0,
          g.1,
          g.2,
          g.3,
          λ t' w'. let same : t ≡ t' = (let e : Waiting t ≡ Waiting t' = sym waits ∙ w' in cc) in (
            λ _ _. subst (λ (k : ℕ). Takes mints spends says me k (g.0, carried_after me.1 g.1)) same g.4,
            λ no. absurd (no (e ∙ same, subst (λ (k : ℕ). k < 2 ^ 63) same early)),
          ),
        ))
        (λ late. none_yet (λ p. late p.1)))
        (λ n. none_yet (λ p. n p.0))

    -- what is put into the slot
    one_place : (s : St) (r : Rule s) (x : Option S) → set s.homes 0 (some x) ≡ some x ∷ []
    one_place s r x = ⊎_elim (λ h. subst (λ (hs : List (maybe.Option (Option S))). set hs 0 (some x) ≡ some x ∷ []) (sym h.here) refl)
        (λ h. subst (λ (hs : List (maybe.Option (Option S))). set hs 0 (some x) ≡ some x ∷ []) (sym h.0) refl) r.slot

    -- the other seats, at a publish
    others_publish : (log : Log E) (drawn id n : ℕ) (p : Passage E) (owner bearer : ℕ → ℕ) → owner n ≡ id → bearer (length log) ≡ id → (j : ℕ) → ¬ (j ≡ id) → (v : W) (ph : Phase E)
        → PhaseRule log drawn owner bearer j v ph → PhaseRule (log ++ (n, p) ∷ []) drawn owner bearer j v ph
    others_publish log drawn id n p owner bearer own bears j apart v New s = (
      s.0,
      ahead_snoc v.numbers v.log log n p s.1 (owns_apart owner j id n v.numbers s.2 own apart),
      s.2,
      s.3,
      s.4,
      free_snoc (j ∷ []) log n p s.5 ((λ e. apart (sym s.4 ∙ (ap owner (sym e) ∙ own))), tt),
    )
    others_publish log drawn id n p owner bearer own bears j apart v Idle s = (s.0, ahead_snoc v.numbers v.log log n p s.1 (owns_apart owner j id n v.numbers s.2 own apart), s.2, s.3)
    others_publish log drawn id n p owner bearer own bears j apart v Token s = (s.0, ahead_snoc v.numbers v.log log n p s.1 (subst (λ (ns : List ℕ). IsNotIn n ns) (sym s.2) tt), s.2)
    others_publish log drawn id n p owner bearer own bears j apart v (Waiting t) s =
        let not : ¬ (t ≡ length log) = (λ e. apart (sym s.4 ∙ (ap bearer e ∙ bears))) in
        let l = length-append log ((n, p) ∷ []) in
        let h = s.5 in
        (s.0, ahead_snoc v.numbers v.log log n p s.1 (owns_apart owner j id n v.numbers s.2 own apart), s.2, s.3, s.4, omega arith, s.6)
    others_publish log drawn id n p owner bearer own bears j apart v (Holding t l) s = absurd (apart (sym s.4 ∙ (ap bearer s.5 ∙ bears)))
    others_publish log drawn id n p owner bearer own bears j apart v (Union a x b y) s = (s.0, ahead_snoc v.numbers v.log log n p s.1 (owns_apart owner j id n v.numbers s.2 own apart), s.2, s.3, s.4, s.5, s.6)
    others_publish log drawn id n p owner bearer own bears j apart v Empty s = s

    pub publishes : (slots id t : ℕ) (l : Log E) (p : Passage E) (v : W) (y : S) → v.phase ≡ Holding t l → tells y (l ++ (v.number, p) ∷ []) → HasClaim (spends_in mints spends l p) v.claims
        → Allows Rule slots id (v, (0, Some y) ∷ []) 1 (λ n. (n + 1) % 2 ^ 64) (Publishes mints spends p (step slots 1 1 0 none) (v, (0, Some y) ∷ []))
    publishes slots id t l p v y holds says spent s r _ at _ =
        let found : ℕ = get_or s.words 1 0 in
        let is : found ≡ length r.log = ap (λ (ws : List ℕ). get_or ws 1 0) r.words in
        let mine = subst (λ ph. PhaseRule r.log r.drawn r.owner r.bearer id v ph) holds (r.seats id v at) in
        let log : Log E = r.log ++ (v.number, p) ∷ [] in
        let w : W = after_passage mints spends v l p in
        let same : l ≡ r.log = mine.8 in
        let longer = length-append r.log ((v.number, p) ∷ []) in
        let spent' = subst (λ (x : Log E). HasClaim (spends_in mints spends x p) v.claims) same spent in
        let early : t < 2 ^ 63 = mine.7 in
        let here : t ≡ length r.log = mine.5 in
        let next : (found + 1) % 2 ^ 64 ≡ length log = omega arith in
        let stands : busy v ≡ 1 = ap busy_in holds in
        let bears : r.bearer (length r.log) ≡ id = ap r.bearer (sym here) ∙ mine.4 in
        let sees : w.log ≡ log = ap (λ (x : Log E). x ++ (v.number, p) ∷ []) same in
        let number : v.number < length s.views = dite (dec_lt v.number (length s.views)) (λ h. h)
        (λ h. let o : v.number ≡ id = sym (r.later_seats v.number (omega arith)) ∙ mine.3 in let i = inside s.views id v at in absurd (omega arith)) in (
          w,
          gives,
          tt,
          record {
            log = log;
            drawn = r.drawn;
            owner = r.owner;
            bearer = r.bearer;
            words = subst (λ (ws : List ℕ). set ws 1 ((found + 1) % 2 ^ 64) ≡ r.drawn ∷ length log ∷ []) (sym r.words) (ap (λ n. r.drawn ∷ n ∷ []) next);
            bound = omega arith;
            busy_sum = let c = r.busy_sum in let t = total_set busy s.views id v w at in omega arith;
            parts_sum = let t = total_set parts_of s.views id v w at in let p = r.parts_sum in omega arith;
            numbers = subst (λ n. AreBelow n log) (sym (length-set s.views id w)) (below_snoc (length s.views) r.log v.number p r.numbers number);
            later_seats = λ n h. r.later_seats n (subst (λ k. k ≤ n) (length-set s.views id w) h);
            slot = inl record {
              value = y;
              here = one_place s r (Some y);
              stands = subst (λ (x : Log E). tells y (x ++ (v.number, p) ∷ [])) same says;
            };
            seats = seats_stay (λ j x. PhaseRule log r.drawn r.owner r.bearer j x x.phase) s.views id w
                (mine.0, subst (λ (x : Log E). Continues v.numbers x log) (sym sees) (ahead_whole v.numbers log), mine.2, mine.3)
                (λ j x other e. others_publish r.log r.drawn id v.number p r.owner r.bearer mine.3 bears j other x x.phase (r.seats j x e));
            witness = record { seat = id; view = w; at = set_here s.views id w (inside s.views id v at); has_parts = mine.0; has_log = sees };
            holder = holder_after E mints spends r.holder (mint_count mints spends r.log) id;
            claims = seats_stay (λ j x. HoldsClaims mints spends (holder_after E mints spends r.holder (mint_count mints spends r.log) id) j log x.claims) s.views id w
                (subst (λ (x : Log E). HoldsClaims mints spends (holder_after E mints spends r.holder (mint_count mints spends r.log) id) id log (claims_after mints spends v.claims x p)) (sym same) (mine_after E mints spends r.holder id r.log v.number p v.claims r.later_claims (r.claims id v at) spent'))
                (λ j x other e. others_keep E mints spends r.holder id j r.log v.number p x.claims v.claims other (r.claims j x e) (r.claims id v at) spent');
            own_numbers = seats_stay (λ j x. NumberRule x x.phase) s.views id w (subst (λ ph. NumberRule v ph) holds (r.own_numbers id v at)) (λ j x _ e. r.own_numbers j x e);
            authors = covers_snoc E r.owner (set s.views id w) r.log v.number p (covers_set E r.owner s.views id v w r.log at (λ n h. h) r.authors)
                (record { view = w; at = ap (get_elem? (set s.views id w)) mine.3 ∙ set_here s.views id w (inside s.views id v at); has = subst (λ ph. NumberRule v ph) holds (r.own_numbers id v at) });
            later_claims = λ k h. later_stay E mints spends r.holder id r.log v.number p v.claims r.later_claims (r.claims id v at) spent' k (let m = minted_snoc E mints spends r.log v.number p in omega arith);
          },
          λ t' l' e. let q : Holding t l ≡ Holding t' l' = sym holds ∙ e in let same' : l ≡ l' = cc in ap (λ (x : Log E). (after_passage mints spends v x p, [])) same',
        )
