-- What posts and receives of callers make.
use Rattle.std.proofs.Common.{ℕ, zero, suc, ◌≡◌, ◌+◌, List, [], ◌∷◌, ◌++◌, drop, length, map, Option, Some, None, refl, ap, sym, subst, ◌∙◌, arith, append-nil}
use Rattle.std.specs.Prelude.{option_map, slice_set}
use Rattle.std.specs.Option.{option_to_list}
use Rattle.wc_base.specs.{Options.some_same, declared.who.Who.Who}
use Rattle.wc_pool.specs.declared.{reference.MediaRef.MediaRef}
use Rattle.codec_model.specs.{Held.in_order}
use Rattle.codec_accounts.specs.{Owed.at, Owed.append_at, ListLaws.get_kept}
use Rattle.report_text.specs.declared.result.StepResult.{StepResult}
use Rattle.media_variables.specs.Variables.{Medium, Media, Came, Received, IsCome, after_came, only_answers, post_came, posted_from, received_came, variables_of}
use Rattle.media_variables.specs.Held.{WholeMedium, AreApart, pair_of, pairs_in, reference_of, seen}
use Rattle.media_accounts.specs.Accounts.{AreLent}
use Rattle.run_model.specs.Follow.{Course, after_move, front_of, waiting_at, posted_as, post_move, get_move}
use Rattle.order_laws.specs.{Course.held_by_all, Course.held_by_port, Course.pairs_waiting, HolderLaws.holder_port}
use Rattle.wc_replay.proofs.Lent.{apart_part}

-- a step that posts, and its answer
pub post_moves : (v : Course) (who : Who) (port of : ℕ) (r : StepResult) (m : Option Medium) (after : Media) (callers : List (List StepResult)) (ports : List (List Received)) → let vs = variables_of who.caller v.media.variables in
    IsCome v.media after who (Some (post_came of vs)) (Some r) → m ≡ posted_from vs of → ports ≡ posted_as who port m v.ports → callers ≡ append_at who.caller r v.callers
    → ◌≡◌ {A = Course} (record { callers = callers; codecs = v.codecs; media = after; slots = v.slots; ports = ports }) (after_move (post_move who port (posted_from vs of) (Some (post_came of vs))) v)
post_moves v who port of r m after callers ports come medium put noted =
    let y : Came = post_came of (variables_of who.caller v.media.variables) in
    let results = noted ∙ ap (λ (x : StepResult). append_at who.caller x v.callers) (some_same r y.answer come.0) in
    let waiting = put ∙ ap (λ (o : Option Medium). posted_as who port o v.ports) medium in
    λ i. record { callers = results i; codecs = v.codecs; media = come.1 i; slots = v.slots; ports = waiting i }

-- a step that receives
pub get_moves : (v : Course) (who : Who) (port : ℕ) (r : StepResult) (o : Option Received) (after : Media) (callers : List (List StepResult)) (ports : List (List Received)) → let vs = variables_of who.caller v.media.variables in
    o ≡ waiting_at port v → IsCome v.media after who (Some (received_came who.step o vs)) (Some r) → ports ≡ slice_set v.ports port (drop 1 (at port v.ports)) → callers ≡ append_at who.caller r v.callers
    → ◌≡◌ {A = Course} (record { callers = callers; codecs = v.codecs; media = after; slots = v.slots; ports = ports }) (after_move (get_move who port (Some (received_came who.step (waiting_at port v) vs))) v)
get_moves v who port r o after callers ports waits come out noted =
    let vs = variables_of who.caller v.media.variables in
    let y : Came = received_came who.step o vs in
    let results = noted ∙ ap (λ (x : StepResult). append_at who.caller x v.callers) (some_same r y.answer come.0) in
    (λ i. record { callers = results i; codecs = v.codecs; media = come.1 i; slots = v.slots; ports = out i })
    ∙ ap (λ (p : Option Received). after_move (get_move who port (Some (received_came who.step p vs))) v) waits

variables_back : (k : ℕ) (all : List (List (Option Medium))) → slice_set all k (variables_of k all) ≡ all
variables_back k [] = refl
variables_back zero (vs ∷ all) = refl
variables_back (suc k) (vs ∷ all) = ap (λ (l : List (List (Option Medium))). vs ∷ l) (variables_back k all)

-- a step that only answers leaves the callers' media
pub answer_leaves : (who : Who) (r : StepResult) (m : Media) → after_came who (only_answers r (variables_of who.caller m.variables)) m ≡ m
answer_leaves who r m = let all = variables_back who.caller m.variables in let pool = append-nil m.pool in λ i. record { variables = all i; pool = pool i }

-- ---- the oldest that waits

-- as a queue gives it out
pub popped : (o : Option Received) (old new : List Received) → old ≡ option_to_list o ++ new → new ≡ drop 1 old → o ≡ front_of old
popped (Some p) old new is rest = rw is refl
popped None [] new is rest = refl
popped None (p ∷ old) new is rest = absurd (let l = ap length is in let m = ap length rest in omega (arith, l, m))

front_is : (l : List Received) (p : Received) → front_of l ≡ Some p → l ≡ p ∷ drop 1 l
front_is [] p is = absurd cc
front_is (q ∷ qs) p is = ap (λ (x : Received). x ∷ qs) (some_same q p is)

-- its reference is live, and in no variable
pub front_apart : (v : Course) (port : ℕ) (p : Received) → Some p ≡ front_of (at port v.ports) → AreLent v.media.pool v.media.variables (held_by_all v) → AreApart v.media.pool v.media.variables (pairs_waiting p.medium.held)
front_apart v port p is lent =
    let rest = held_by_port (drop 1 (at port v.ports)) in
    let whole = subst (AreApart v.media.pool v.media.variables) (holder_port v.codecs v.ports port ∙ ap held_by_port (front_is (at port v.ports) p (sym is))) (lent.apart (length v.codecs + port)) in
    apart_part v.media.pool v.media.variables (pairs_waiting p.medium.held ++ rest) (pairs_waiting p.medium.held) (λ i. i) (λ i j e. e) (get_kept (pairs_waiting p.medium.held) rest) whole

-- of a whole medium
pub pairs_whole : (w : WholeMedium) → pairs_waiting (seen w).held ≡ pairs_in (Some w)
pairs_whole w = by_held w.held
  where
    by_held : (h : Option MediaRef) → pairs_waiting (option_map reference_of h) ≡ map pair_of (in_order h)
    by_held None = refl
    by_held (Some r) = refl
