-- The references that a codec holds after one more entry.
use Rattle.std.proofs.Common.{ℕ, ◌≡◌, Bool, true, false, cond, not, List, [], ◌∷◌, ◌++◌, length, map, Option, Some, None, is_none, is_some, refl, ap, sym, ◌∙◌, append_assoc, append-nil, arith}
use Rattle.std.specs.Prelude.{unwrap_or, option_map, IfSome}
use Rattle.std.proofs.lemmas.Bool.{and_parts}
use Rattle.std.proofs.lemmas.List.{map_push}
use Rattle.wc_base.specs.declared.who.Who.{Who}
use Rattle.wc_pool.specs.declared.reference.MediaRef.{MediaRef}
use Rattle.codec_model.specs.declared.entry.{Pair.Pair, Handed.Handed, Call.Call, Task.Task, Work.Work, Item.Item}
use Rattle.coder_api.specs.Lent.{Lent}
use Rattle.codec_model.specs.{declared.entry.Running.Running, declared.entry.Entry.Entry, Replay.State, Replay.sends, Held.HeldMoves}
use Rattle.codec_model.specs.Control.{held_of, front, may_start, start_item, turn_closes}
use Rattle.codec_model.specs.Held.{in_order, held_by, items_held, messages_held, waiting_held, front_held, behind_held, waiting_after, running_after, closes_codec, adds_held, lets_go, is_removal}
use Rattle.codec_core.specs.Codec.{Codec, state_at, Makes, item_parts, closes_now, removed_if, RemovedValue}
use Rattle.codec_media.specs.Holding.{pair_of, IsHolding, TakesIf, without_media}
use Rattle.codec_media.specs.Holding as holding

-- an entry that was made, with what the codec holds after it
pub holds_after : HeldMoves → (old new : Codec) (e : Entry) (working : Option MediaRef) (waiting : List MediaRef) → Makes old new e → map pair_of (in_order working) ≡ running_after e (state_at old) → map pair_of waiting ≡ waiting_after e (state_at old) → IsHolding new working waiting
holds_after held_moves old new e working waiting m r w =
    let moves = held_moves e (state_at old) (state_at new) m.steps in
    record { runs = r ∙ sym moves.runs; waits = w ∙ sym moves.waits }

-- a call leaves what runs, lets go what waits where it removes, and adds what it brings
pub call_holds : HeldMoves → (old new : Codec) (who : Who) (x : Call) (removed : Bool) (working : Option MediaRef) (waiting after : List MediaRef) → Makes old new (Entry.Call who x) → removed ≡ is_removal (Entry.Call who x) (state_at old) → adds_held (Entry.Call who x) ≡ [] → after ≡ cond removed [] waiting → IsHolding old working waiting → IsHolding new working after
call_holds moves old new who x removed working waiting after m is none left h =
    holds_after moves old new (Entry.Call who x) working after m h.runs (rw (left, none, append-nil, ← is) (by removed))
  where
    by : (b : Bool) → map pair_of (cond b [] waiting) ≡ cond b [] (waiting_held (state_at old).control)
    by true = refl
    by false = h.waits

-- a call that adds a reference sends a message, and removes nothing
pub adds_sends : (who : Who) (x : Call) (p : Pair) → adds_held (Entry.Call who x) ≡ p ∷ [] → sends x ≡ true
adds_sends who (Call.Encode (Handed.Cloned medium)) p h = refl
adds_sends who x p h = absurd cc

pub adds_stays : (who : Who) (x : Call) (p : Pair) (s : State) → adds_held (Entry.Call who x) ≡ p ∷ [] → is_removal (Entry.Call who x) s ≡ false
adds_stays who (Call.Encode (Handed.Cloned medium)) p s h = refl
adds_stays who x p s h = absurd cc

-- an encode adds its reference behind those that wait
pub more_holds : HeldMoves → (old new : Codec) (who : Who) (x : Call) (r : MediaRef) (working : Option MediaRef) (waiting : List MediaRef) → Makes old new (Entry.Call who x) → adds_held (Entry.Call who x) ≡ pair_of r ∷ [] → IsHolding old working waiting → IsHolding new working (waiting ++ r ∷ [])
more_holds moves old new who x r working waiting m adds h =
    holds_after moves old new (Entry.Call who x) working (waiting ++ r ∷ []) m h.runs (rw (adds, adds_stays who x (pair_of r) (state_at old) adds, map_push, h.waits) refl)

-- what a call lets go are the pairs of those that wait, where it removes
pub gone_pairs : (old : Codec) (who : Who) (x : Call) (removed : Bool) (working : Option MediaRef) (waiting media : List MediaRef) → removed ≡ is_removal (Entry.Call who x) (state_at old) → media ≡ cond removed waiting [] → IsHolding old working waiting → map pair_of media ≡ lets_go (Entry.Call who x) (state_at old)
gone_pairs old who x removed working waiting media is same h = rw (same, ← is) (by removed)
  where
    by : (b : Bool) → map pair_of (cond b waiting []) ≡ cond b (waiting_held (state_at old).control) []
    by true = h.waits
    by false = refl

-- a start
front_at : (b : Bool) (is : List Item) (n : ℕ) (w : Work) → option_map item_parts (cond b (front is) None) ≡ Some (n, w) → (b ≡ true) × (front_held is ≡ in_order (held_of w)) × (items_held is ≡ in_order (held_of w) ++ behind_held is)
front_at false is n w h = absurd cc
front_at true [] n w h = absurd cc
front_at true (i ∷ is) n w h =
    let pair : item_parts i ≡ (n, w) = cc in
    let same : i.work ≡ w = ap (λ p. p.1) pair in
    rw same (refl, refl, refl)

no_pairs : (o : Option Running) (held : Option Pair) → is_none o ≡ true → held_by o held ≡ []
no_pairs None held h = refl
no_pairs (Some r) held h = absurd cc

-- the item that starts holds the front reference, or nothing
takes_at : (held : Option Pair) (was now : Option MediaRef) (before after : List MediaRef) (rest : List Pair) → TakesIf (is_some held) before after was now → map pair_of (in_order was) ≡ [] → map pair_of before ≡ in_order held ++ rest → (map pair_of (in_order now) ≡ in_order held) × (map pair_of after ≡ rest)
takes_at None was now before after rest takes idle h = (rw takes.1 idle, rw takes.0 h)
takes_at (Some p) was now [] after rest takes idle h = absurd cc
takes_at (Some p) was None (r ∷ rs) after rest takes idle h = absurd (omega (arith, ap (λ (l : List MediaRef). length l) (takes.0 ∙ takes.1)))
takes_at (Some p) was (Some r) before after rest takes idle h =
    let whole : pair_of r ∷ map pair_of after ≡ p ∷ rest = ap (map pair_of) (sym takes.0) ∙ h in
    ((let same : pair_of r ≡ p = cc in ap (λ x. x ∷ []) same), cc)

-- a start, with what it takes: nothing ran, and the front item is the one that starts
pub start_holds : HeldMoves → (held : Option Pair) (old new : Codec) (epoch number : ℕ) (w : Work) (working now : Option MediaRef) (waiting after : List MediaRef) → held ≡ held_of w → Makes old new (Entry.Start epoch number) → option_map item_parts (start_item (state_at old).control) ≡ Some (number, w) → TakesIf (is_some held) waiting after working now → IsHolding old working waiting → IsHolding new now after
start_holds moves held old new epoch number w working now waiting after is m starts takes h =
    let s = state_at old in
    let messages = messages_held s.control.messages in
    let at = front_at (may_start s.control) s.control.work number w starts in
    let idle = no_pairs s.control.running s.running_held (and_parts (is_none s.control.running) (not s.control.halted) at.0).0 in
    let queue : waiting_held s.control ≡ in_order held ++ (behind_held s.control.work ++ messages) = rw (at.2, is, append_assoc) refl in
    let taken = takes_at held working now waiting after (behind_held s.control.work ++ messages) takes (h.runs ∙ idle) (h.waits ∙ queue) in
    holds_after moves old new _ now after m (rw (at.1, ← is) taken.0) taken.1

closes_same : (ts : List Task) → unwrap_or (turn_closes ts) false ≡ closes_codec ts
closes_same [] = refl
closes_same (t ∷ ts) = refl

some_if : (b : Bool) (at : ℕ) (coder : Option Lent) (waiting : List MediaRef) → map pair_of (cond (is_some (removed_if b at coder)) [] waiting) ≡ cond b [] (map pair_of waiting)
some_if true at coder waiting = refl
some_if false at coder waiting = refl

-- a turn removes where its task closes the codec
pub turn_holds : HeldMoves → (old new : Codec) (removed : Option RemovedValue) (at : ℕ) (coder : Option Lent) (working : Option MediaRef) (waiting after : List MediaRef) → removed ≡ removed_if (closes_now (state_at old).control) at coder → Makes old new Entry.Turn → after ≡ cond (is_some removed) [] waiting → IsHolding old working waiting → IsHolding new working after
turn_holds moves old new removed at coder working waiting after is m left h =
    holds_after moves old new _ working after m h.runs (rw (append-nil, left, is, some_if, h.waits, closes_same (state_at old).control.tasks) refl)

-- what such a turn leaves beside the references
pub box_if : (b : Bool) (at : ℕ) (coder : Option Lent) → IfSome (removed_if b at coder) (λ r. (r.place ≡ at) × (r.coder ≡ coder))
box_if true at coder = (refl, refl)
box_if false at coder = tt

pub with_box : (P : ℕ → Option Lent → Type 0) (x : Option holding.RemovedValue) (removed : Option RemovedValue) → option_map without_media x ≡ removed → IfSome removed (λ r. P r.place r.coder) → IfSome x (λ r. P r.place r.coder)
with_box P None removed e back = tt
with_box P (Some r) removed e back = rw (← e) at back
