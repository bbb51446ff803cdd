-- A follower of a whole history, and what is left by it.
use Rattle.std.proofs.Common.{ℕ, ◌≡◌, ◌==◌, true, List, [], ◌∷◌, ◌++◌, append_assoc, append-nil, map, Option, Some, None, is_some, refl, ap, sym, subst, ◌∙◌, arith}
use Rattle.std.specs.Prelude.{option_and_then, Decides}
use Rattle.std.specs.List.{sum_by}
use Rattle.std.proofs.lemmas.Bool.{eqb-true, eq-eqb}
use Rattle.std.proofs.lemmas.List.Sums.{sum_by-cons}
use Rattle.codec_model.specs.declared.entry.{Opening.Opening, Entry.Entry, Shown.Shown, Task.Task}
use Rattle.codec_model.specs.Control.{left, task_weight, Control}
use Rattle.codec_model.specs.Replay.{State, opening_state, step, replay, replay_from, IsLegal}
use Rattle.codec_model.specs.ShownLaws.{replay_append}
use Rattle.codec_follow.specs.Erased.{erased_task, erased, erased_state}
use Rattle.codec_follow.specs.Followed.{FollowerValue, follower_of}
use Rattle.codec_follow.specs.Laws.{StepsErased}
use Rattle.codec_laws.specs.Left.{left_after, IsQuietAfter, IsNotStuck}
use Rattle.codec_laws.specs.Seen.{Goes, Went, IsFollowing, IsAfter}
use Rattle.codec_laws.proofs.StuckLaws.{left_is}

pub following_start : (o : Opening) (h : List Entry) → IsLegal o h → IsFollowing o h (follower_of (opening_state o)) h
following_start o h legal = record { done = []; state = opening_state o; replays = refl; legal = legal; at = refl; all = refl }

-- the state after the next entry
record NextOf (o : Opening) (h : List Entry) (f : FollowerValue) (e : Entry) (es : List Entry) : Type 0 where
  done : List Entry
  state : State
  next : State
  replays : replay o done ≡ Some state
  is : step e state ≡ Some next
  legal : is_some (replay_from es next) ≡ true
  at : follower_of (erased_state state) ≡ f
  all : done ++ e ∷ es ≡ h

next_of : (o : Opening) (h : List Entry) (f : FollowerValue) (e : Entry) (es : List Entry) → IsFollowing o h f (e ∷ es) → NextOf o h f e es
next_of o h f e es k = by (step e k.state) refl k.legal
  where
    by : (u : Option State) → step e k.state ≡ u → is_some (option_and_then (replay_from es) u) ≡ true → NextOf o h f e es
    by None is legal = absurd cc
    by (Some t) is legal = record { done = k.done; state = k.state; next = t; replays = k.replays; is = is; legal = legal; at = k.at; all = k.all }

pub following_goes : (o : Opening) (h : List Entry) (f : FollowerValue) (e : Entry) (rest more : List Entry) → StepsErased → rest ≡ e ∷ more → IsFollowing o h f rest → Goes e f
following_goes o h f e rest more erases is k = let n = next_of o h f e more (subst (λ (l : List Entry). IsFollowing o h f l) is k) in record { state = n.state; next = n.next; at = n.at; steps = erases o n.done n.state e n.next n.replays n.is }

pub following_more : (o : Opening) (h : List Entry) (f g : FollowerValue) (e : Entry) (shown : Shown) (rest more : List Entry) → StepsErased → rest ≡ e ∷ more → IsFollowing o h f rest → Went e f shown g → IsFollowing o h g more
following_more o h f g e shown rest more erases is k w =
    let n = next_of o h f e more (subst (λ (l : List Entry). IsFollowing o h f l) is k) in
    record {
      done = n.done ++ e ∷ [];
      state = n.next;
      replays = replay_append o n.done e n.state n.replays ∙ n.is;
      legal = n.legal;
      at = w.after n.state n.next n.at (erases o n.done n.state e n.next n.replays n.is);
      all = append_assoc n.done _ _ ∙ n.all;
    }

pub following_ends : (o : Opening) (h : List Entry) (f : FollowerValue) (rest : List Entry) → rest ≡ [] → IsFollowing o h f rest → IsAfter o h f
following_ends o h f rest none k =
    let all : k.done ≡ h = sym (append-nil k.done) ∙ (ap (λ (l : List Entry). k.done ++ l) (sym none) ∙ k.all) in
    record { state = k.state; replays = ap (replay o) (sym all) ∙ k.replays; at = k.at }

weights_erased : (ts : List Task) → sum_by task_weight (map erased_task ts) ≡ sum_by task_weight ts
weights_erased [] = refl
weights_erased (t ∷ ts) =
    sum_by-cons task_weight (erased_task t) (map erased_task ts) ∙ (omega (arith, by t, weights_erased ts) ∙ sym (sum_by-cons task_weight t ts))
  where
    by : (t : Task) → task_weight (erased_task t) ≡ task_weight t
    by (Task.Output units) = refl
    by (Task.Flushed promise units) = refl
    by t = refl

left_erased : (c : Control) → left (erased c) ≡ left c
left_erased c = omega (arith, weights_erased c.tasks)

-- what is left of a follower is what is left after its history
pub left_followed : (o : Opening) (h : List Entry) (f : FollowerValue) (n : ℕ) → IsAfter o h f → n ≡ left f.control → n ≡ left_after o h
left_followed o h f n k is = is ∙ (ap (λ (v : FollowerValue). left v.control) (sym k.at) ∙ (left_erased k.state.control ∙ sym (left_is o h k.state k.replays)))

-- nothing is left exactly where the codec is quiet
pub quiet_by_left : (o : Opening) (h : List Entry) (n : ℕ) → IsNotStuck o h → n ≡ left_after o h → Decides (n == 0) (IsQuietAfter o h)
quiet_by_left o h n k is = (λ none. k.quiet (sym is ∙ eqb-true n 0 none), λ quiet. eq-eqb n 0 (is ∙ k.nothing quiet))
