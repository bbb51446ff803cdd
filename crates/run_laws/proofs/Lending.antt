-- What codecs' logs call for in the pool, entry by entry.
use Rattle.std.proofs.Common.{ℕ, zero, suc, ◌+◌, ◌≡◌, ◌≤◌, ◌<◌, inl, inr, Bool, false, cond, List, [], ◌∷◌, ◌++◌, ◌⊎◌, map, length, take, Option, Some, None, refl, ap, sym, subst, ◌∙◌, arith, append-nil, eq-eqb}
use Rattle.std.specs.Prelude.{slice_get, option_and_then, unwrap_or}
use Rattle.wc_base.specs.Views.{Log}
use Rattle.wc_base.specs.declared.seat.Passage.TheVariants.{Made, Look}
use Rattle.wc_pool.specs.declared.entry.PoolEntry.{PoolEntry}
use Rattle.wc_pool.specs.declared.entry.PoolOp.{PoolOp}
use Rattle.wc_pool.specs.declared.entry.PoolOp.TheVariants as op
use Rattle.codec_model.specs.declared.entry.Opening.{Opening}
use Rattle.codec_model.specs.declared.entry.Entry.{Entry}
use Rattle.codec_model.specs.declared.entry.Pair.{Pair}
use Rattle.codec_model.specs.Held.{adds_held, lets_go}
use Rattle.codec_model.specs.Replay.{State, step, opening_state, replay_from}
use Rattle.codec_accounts.specs.AskedLaws.{step_of}
use Rattle.codec_accounts.specs.Boxes as boxes
use Rattle.codec_accounts.specs.Codec.{state_after}
use Rattle.codec_accounts.specs.Owed.{at}
use Rattle.codec_logs.specs.declared.event.Event.{Event}
use Rattle.codec_logs.specs.Logs.{Track, opening_track, entry_of, history_of, act_in, acquires_of, box_of, track_made, track, IsLog}
use Rattle.codec_logs.specs.LogLaws.{legal_log}
use Rattle.media_accounts.specs.Accounts.{called_for, called_at, lent_at}
use Rattle.shared_codec.specs.Dues.{clones_at, ends_at, media_dues}
use Rattle.shared_codec.specs.Sums.{all_dues}
use Rattle.shared_codec.specs.Order.{ops_at}
use Rattle.shared_codec.specs.OrderLaws.{place_by, ops_append, event_other}
use Rattle.run_laws.specs.PoolPaid.{media_of, PoolIsPaid, CodecsArePaid}
use Rattle.run_laws.proofs.Together.{history_here}

-- ---- one entry

clones_here : (p : ℕ) (ps : List Pair) → ops_at p (clones_at p ps) ≡ map (λ q. op.Clone q.resource q.reference) ps
clones_here p [] = refl
clones_here p (q ∷ qs) = ap (λ (b : Bool). cond b (op.Clone q.resource q.reference ∷ []) [] ++ ops_at p (clones_at p qs)) (eq-eqb p p refl) ∙ ap (λ (l : List PoolOp). op.Clone q.resource q.reference ∷ l) (clones_here p qs)

ends_here : (p : ℕ) (ps : List Pair) → ops_at p (ends_at p ps) ≡ map (λ q. op.End q.resource q.reference false) ps
ends_here p [] = refl
ends_here p (q ∷ qs) = ap (λ (b : Bool). cond b (op.End q.resource q.reference false ∷ []) [] ++ ops_at p (ends_at p qs)) (eq-eqb p p refl) ∙ ap (λ (l : List PoolOp). op.End q.resource q.reference false ∷ l) (ends_here p qs)

event_here : (k : ℕ) (e : Event) (x : Track) → ops_at x.holds.place (media_dues k e x) ≡ called_for (entry_of e) x.state
event_here k e x =
    let p = x.holds.place in
    let a = clones_here p (adds_held (entry_of e)) in
    let b = ends_here p (lets_go (entry_of e) x.state) in
    ops_append p (clones_at p (adds_held (entry_of e))) (ends_at p (lets_go (entry_of e) x.state)) ∙ (λ i. a i ++ b i)

-- ---- a log

next_place : (n : ℕ) (e : Event) (x : Track) → (track_made n e x).holds.place ≡ suc x.holds.place
next_place n e x = place_by (act_in e x) (box_of (acquires_of e.acquires)) x.holds

pub past : (k p : ℕ) (x : Track) (log : Log Event) → p < x.holds.place → ops_at p (all_dues media_dues k x log) ≡ []
past k p x [] lt = refl
past k p x ((n, Look) ∷ ps) lt = past k p x ps lt
past k p x ((n, Made e) ∷ ps) lt =
    let next = next_place n e x in
    let a = event_other k p e x (λ same. omega (arith, lt, same)) in
    let b = past k p (track_made n e x) ps (omega (arith, lt, next)) in
    ops_append p (media_dues k e x) (all_dues media_dues k (track_made n e x) ps) ∙ (λ i. a i ++ b i)

-- what the entry with this number calls for, from a state on
abbrev called_from : State → List Entry → ℕ → List PoolOp
called_from t [] i = []
called_from t (e ∷ es) zero = called_for e t
called_from t (e ∷ es) (suc i) = called_from (boxes.after e t) es i

from_here : (k p i : ℕ) (x : Track) (log : Log Event) → p ≡ x.holds.place + i → ops_at p (all_dues media_dues k x log) ≡ called_from x.state (history_of log) i
from_here k p i x [] is = refl
from_here k p i x ((n, Look) ∷ ps) is = from_here k p i x ps is
from_here k p zero x ((n, Made e) ∷ ps) is =
    let here : x.holds.place ≡ p = omega (arith, is) in
    let next = next_place n e x in
    let a = subst (λ (q : ℕ). ops_at q (media_dues k e x) ≡ called_for (entry_of e) x.state) here (event_here k e x) in
    let b = past k p (track_made n e x) ps (omega (arith, here, next)) in
    ops_append p (media_dues k e x) (all_dues media_dues k (track_made n e x) ps) ∙ ((λ i. a i ++ b i) ∙ append-nil (called_for (entry_of e) x.state))
from_here k p (suc i) x ((n, Made e) ∷ ps) is =
    let next = next_place n e x in
    let a = event_other k p e x (λ same. omega (arith, is, same)) in
    let b = from_here k p i (track_made n e x) ps (omega (arith, is, next)) in
    ops_append p (media_dues k e x) (all_dues media_dues k (track_made n e x) ps) ∙ (λ i. a i ++ b i)

-- ---- by the history alone

abbrev called_of : Option Entry → State → List PoolOp
called_of None s = []
called_of (Some e) s = called_for e s

by_history : (t z u : State) (h : List Entry) (i : ℕ) → replay_from h t ≡ Some u → called_from t h i ≡ called_of (slice_get h i) (unwrap_or (replay_from (take i h) t) z)
by_history t z u [] i is = refl
by_history t z u (e ∷ h) zero is = refl
by_history t z u (e ∷ h) (suc i) is =
    let d = step_of (replay_from h) (step e t) u is in
    let next : boxes.after e t ≡ d.0 = ap (λ (o : Option State). unwrap_or o t) d.1 in
    ap (λ (v : State). called_from v h i) next
    ∙ (by_history d.0 z u h i d.2
    ∙ ap (λ (o : Option State). called_of (slice_get h i) (unwrap_or (option_and_then (replay_from (take i h)) o) z)) (sym d.1))

lent_is : (o : Opening) (h : List Entry) (p : ℕ) → called_of (slice_get h p) (state_after o (take p h)) ≡ lent_at o h p
lent_is o h p = cases (slice_get h p)
  where
    cases : (e : Option Entry) → called_of e (state_after o (take p h)) ≡ called_at o h p e
    cases None = refl
    cases (Some e) = refl

log_lends : (k : ℕ) (o : Opening) (log : Log Event) (p : ℕ) → IsLog k o log → ops_at p (all_dues media_dues k (opening_track o) log) ≡ lent_at o (history_of log) p
log_lends k o log p legal =
    from_here k p p (opening_track o) log (omega arith)
    ∙ (by_history (opening_state o) (opening_state o) (codec_logs_state o log) (history_of log) p (legal_log k o log legal).replays ∙ lent_is o (history_of log) p)
  where
    codec_logs_state : Opening → Log Event → State
    codec_logs_state o log = (track o log).state

nothing_lent : (o : Opening) (p : ℕ) → lent_at o [] p ≡ []
nothing_lent o p = refl

-- ---- all codecs

le_or_lt : (a b : ℕ) → (a ≤ b) ⊎ (b < a)
le_or_lt zero b = inl (omega arith)
le_or_lt (suc a) zero = inr (omega arith)
le_or_lt (suc a) (suc b) = elim (le_or_lt a b) [ inl h ↦ inl (omega (arith, h)) | inr h ↦ inr (omega (arith, h)) ]

past_list : {X : Type 0} (k : ℕ) (ls : List (List X)) → length ls ≤ k → at k ls ≡ []
past_list k [] h = refl
past_list zero (l ∷ ls) h = absurd (omega (arith, h))
past_list (suc k) (l ∷ ls) h = past_list k ls (omega (arith, h))

here_lent : (opening : ℕ → Opening) (logs : List (Log Event)) (k place : ℕ) → ((k : ℕ) → k < length logs → IsLog k (opening k) (at k logs)) → ops_at place (media_of opening k (at k logs)) ≡ lent_at (opening k) (history_of (at k logs)) place
here_lent opening logs k place legal = elim (le_or_lt (length logs) k) [
  | inl le ↦ ap (λ (l : Log Event). ops_at place (media_of opening k l)) (past_list k logs le) ∙ ap (λ (l : Log Event). lent_at (opening k) (history_of l) place) (sym (past_list k logs le))
  | inr lt ↦ log_lends k (opening k) (at k logs) place (legal k lt)
]

pub codecs_are_paid : (opening : ℕ → Opening) (logs : List (Log Event)) (pool : List PoolEntry) → PoolIsPaid opening logs pool → CodecsArePaid opening logs pool
codecs_are_paid opening logs pool paid k place =
    sym (paid.causes k place) ∙ (here_lent opening logs k place paid.logs_are ∙ ap (λ (h : List Entry). lent_at (opening k) h place) (sym (history_here k logs)))
