-- A codec whose outputs are blank is seen alike.
use Rattle.std.proofs.Common.{ℕ, suc, ◌≡◌, ◌+◌, true, List, [], ◌∷◌, ◌++◌, append_assoc, append-nil, length, map, Option, Some, None, is_some, refl, ap, sym, subst, ◌∙◌, arith}
use Rattle.std.specs.Prelude.{option_and_then}
use Rattle.std.proofs.lemmas.List.{length-replicate}
use Rattle.wc_base.specs.{declared.error.DomError.DomError, Options.some_same}
use Rattle.codec_definitions.specs.declared.unit.Unit as media
use Rattle.codec_model.specs.declared.entry.{Opening.Opening, Call.Call, Entry.Entry, Event.Event, Shown.Shown, Task.Task}
use Rattle.codec_model.specs.Control.{Control, carried}
use Rattle.codec_model.specs.Replay.{State, call_error, opening_state, step, replay, replay_from, IsLegal}
use Rattle.codec_model.specs.Shown.{call_shows, outputs_from, turn_shows, turn_word, units_in, ends_of, shown_at}
use Rattle.codec_model.specs.ShownLaws.{replay_append}
use Rattle.history_laws.specs.CountLaws.{length-carried}
use Rattle.codec_follow.specs.Erased.{erased_task, erased, erased_state}
use Rattle.codec_follow.specs.Follow.{blank, blanks}
use Rattle.codec_follow.specs.Followed.{FollowerValue, Follows, follower_of}
use Rattle.codec_follow.specs.Laws.{StepsErased}
use Rattle.codec_laws.specs.declared.sight.Sight.{Sight}
use Rattle.codec_laws.specs.Sights.{sight_of, sights, sights_from, dequeues}
use Rattle.codec_laws.specs.Seen.{Goes, Went, IsSeeing}

-- events that are seen alike
record Alike (xs ys : List Event) : Type 0 where
  outputs : length (units_in xs) ≡ length (units_in ys)
  ends : ends_of xs ≡ ends_of ys
  dequeue : dequeues xs ≡ dequeues ys

outputs_alike : (n : ℕ) (us vs : List media.Unit) (xs : List Event) → length us ≡ length vs → Alike (outputs_from n us ++ xs) (outputs_from n vs ++ xs)
outputs_alike n [] [] xs e = record { outputs = refl; ends = refl; dequeue = refl }
outputs_alike n [] (v ∷ vs) xs e = absurd (omega (arith, e))
outputs_alike n (u ∷ us) [] xs e = absurd (omega (arith, e))
outputs_alike n (u ∷ us) (v ∷ vs) xs e = let k = outputs_alike (n + 1) us vs xs (omega (arith, e)) in record { outputs = ap (λ (m : ℕ). suc m) k.outputs; ends = k.ends; dequeue = k.dequeue }

turn_alike : (ts : List Task) (c : Control) → Alike (turn_shows (map erased_task ts) (erased c)) (turn_shows ts c)
turn_alike (Task.Output us ∷ ts) c =
    let long : length (carried None (blanks (length us))) ≡ length (carried c.active us) = length-carried None (blanks (length us)) ∙ (length-replicate (length us) blank ∙ sym (length-carried c.active us)) in
    let k = outputs_alike c.shown (carried None (blanks (length us))) (carried c.active us) [] long in
    subst (λ (xs : List Event). Alike xs (outputs_from c.shown (carried c.active us))) (append-nil (outputs_from c.shown (carried None (blanks (length us))))) (subst (λ (ys : List Event). Alike (outputs_from c.shown (carried None (blanks (length us))) ++ []) ys) (append-nil (outputs_from c.shown (carried c.active us))) k)
turn_alike (Task.Flushed p us ∷ ts) c =
    let long : length (carried None (blanks (length us))) ≡ length (carried c.active us) = length-carried None (blanks (length us)) ∙ (length-replicate (length us) blank ∙ sym (length-carried c.active us)) in
    outputs_alike c.shown (carried None (blanks (length us))) (carried c.active us) (Event.Resolve p ∷ []) long
turn_alike [] c = record { outputs = refl; ends = refl; dequeue = refl }
turn_alike (t ∷ ts) c = record { outputs = refl; ends = refl; dequeue = refl }

word_alike : (ts : List Task) → turn_word (map erased_task ts) ≡ turn_word ts
word_alike [] = refl
word_alike (Task.Output us ∷ ts) = refl
word_alike (Task.Flushed p us ∷ ts) = refl
word_alike (t ∷ ts) = refl

error_alike : (y : Call) (c : Control) → call_error y (erased c) ≡ call_error y c
error_alike Call.Flush c = refl
error_alike y c = refl

pub sight_erased : (e : Entry) (s : State) (n : ℕ) → sight_of e (shown_at e (erased_state s)) n ≡ sight_of e (shown_at e s) n
sight_erased Entry.Turn s n = let k = turn_alike s.control.tasks s.control in rw (k.outputs, k.ends, k.dequeue, word_alike s.control.tasks) refl
sight_erased (Entry.Call who y) s n = ap (λ (o : Option DomError). sight_of (Entry.Call who y) (record { turn = None; events = call_shows y s.control.place s.control.pending o }) n) (error_alike y s.control)
sight_erased e s n = refl

-- ---- following

pub follows_some : (e : Entry) (old new : FollowerValue) (k : Goes e old) → Follows e old None new → ⊥
follows_some e old new k f = let none = f.answer (erased_state k.state) k.at in let some = k.steps in (let is : Some (shown_at e (erased_state k.state)) ≡ None = rw some at none in cc)

pub went : (e : Entry) (old new : FollowerValue) (shown : Shown) → Follows e old (Some shown) new → Went e old shown new
went e old new shown f = record {
  shows = λ s t at steps. some_same (shown_at e (erased_state s)) shown (rw steps at (f.answer (erased_state s) at));
  after = λ s t at steps. rw steps at (f.after (erased_state s) at);
}

-- ---- the walk

pub seeing_start : (o : Opening) (h : List Entry) → IsLegal o h → IsSeeing o h (follower_of (opening_state o)) [] h
seeing_start o h legal = record { done = []; state = opening_state o; replays = refl; legal = legal; at = refl; sights = refl }

record NextOf (o : Opening) (h : List Entry) (f : FollowerValue) (seen : List Sight) (e : Entry) (es : List Entry) : Type 0 where
  done : List Entry
  state : State
  next : State
  replays : replay o done ≡ Some state
  is : step e state ≡ Some next
  legal : is_some (replay_from es next) ≡ true
  at : follower_of (erased_state state) ≡ f
  sights_are : seen ++ sights_from (e ∷ es) state ≡ sights o h

next_of : (o : Opening) (h : List Entry) (f : FollowerValue) (seen : List Sight) (e : Entry) (es : List Entry) → IsSeeing o h f seen (e ∷ es) → NextOf o h f seen e es
next_of o h f seen e es k = by (step e k.state) refl k.legal
  where
    by : (u : Option State) → step e k.state ≡ u → is_some (option_and_then (replay_from es) u) ≡ true → NextOf o h f seen e es
    by None is legal = absurd cc
    by (Some t) is legal = record { done = k.done; state = k.state; next = t; replays = k.replays; is = is; legal = legal; at = k.at; sights_are = k.sights }

pub seeing_goes : (o : Opening) (h : List Entry) (f : FollowerValue) (seen : List Sight) (e : Entry) (es : List Entry) → StepsErased → IsSeeing o h f seen (e ∷ es) → Goes e f
seeing_goes o h f seen e es erases k = let n = next_of o h f seen e es k in record { state = n.state; next = n.next; at = n.at; steps = erases o n.done n.state e n.next n.replays n.is }

pub seeing_more : (o : Opening) (h : List Entry) (f g : FollowerValue) (seen : List Sight) (e : Entry) (es : List Entry) (shown : Shown) → StepsErased → IsSeeing o h f seen (e ∷ es) → Went e f shown g → IsSeeing o h g (seen ++ sight_of e shown g.control.size ∷ []) es
seeing_more o h f g seen e es shown erases k w =
    let n = next_of o h f seen e es k in
    let steps = erases o n.done n.state e n.next n.replays n.is in
    let at = w.after n.state n.next n.at steps in
    let shows = w.shows n.state n.next n.at steps in
    let one : sight_of e shown g.control.size ≡ sight_of e (shown_at e n.state) n.next.control.size =
    ap (λ (x : Shown). sight_of e x g.control.size) (sym shows) ∙ (ap (λ (v : FollowerValue). sight_of e (shown_at e (erased_state n.state)) v.control.size) (sym at) ∙ sight_erased e n.state n.next.control.size) in
    record {
      done = n.done ++ e ∷ [];
      state = n.next;
      replays = replay_append o n.done e n.state n.replays ∙ n.is;
      legal = n.legal;
      at = at;
      sights = append_assoc seen _ _ ∙ (ap (λ (x : Sight). seen ++ x ∷ sights_from es n.next) one ∙ (rw n.is at n.sights_are));
    }

-- ---- the same, by what the loop has at hand

pub goes_at : (o : Opening) (h : List Entry) (f : FollowerValue) (seen : List Sight) (e : Entry) (rest more : List Entry) → StepsErased → rest ≡ e ∷ more → IsSeeing o h f seen rest → Goes e f
goes_at o h f seen e rest more erases is k = seeing_goes o h f seen e more erases (subst (λ (l : List Entry). IsSeeing o h f seen l) is k)

pub more_at : (o : Opening) (h : List Entry) (f g : FollowerValue) (seen made : List Sight) (e : Entry) (shown : Shown) (size : ℕ) (one : Sight) (rest left : List Entry) → StepsErased → rest ≡ e ∷ left → IsSeeing o h f seen rest → Went e f shown g → size ≡ g.control.size → one ≡ sight_of e shown size → made ≡ seen ++ one ∷ [] → IsSeeing o h g made left
more_at o h f g seen made e shown size one rest left erases first k w now is more =
    let next = seeing_more o h f g seen e left shown erases (subst (λ (l : List Entry). IsSeeing o h f seen l) first k) w in
    let made_is : made ≡ seen ++ sight_of e shown g.control.size ∷ [] = more ∙ ap (λ (y : Sight). seen ++ y ∷ []) (is ∙ ap (λ (n : ℕ). sight_of e shown n) now) in
    subst (λ (l : List Sight). IsSeeing o h g l left) (sym made_is) next

pub ends_at : (o : Opening) (h : List Entry) (f : FollowerValue) (seen : List Sight) (rest : List Entry) → rest ≡ [] → IsSeeing o h f seen rest → seen ≡ sights o h
ends_at o h f seen rest none k = sym (append-nil seen) ∙ (subst (λ (l : List Entry). IsSeeing o h f seen l) none k).sights
