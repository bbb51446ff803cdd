-- What steps of callers made at a seat of a shared pool.
use Rattle.std.proofs.Common.{◌≡◌, ◌∷◌, [], List, Option, Some, None, inr, refl, sym, subst, ◌∙◌}
use Rattle.std.specs.Prelude.{Result, Ok, Err, IfOk, OnErr}
use Rattle.atomic_table.specs.Seated.{TableId}
use Rattle.atomic_table.specs.declared.shared.Seat.{Seat}
use Rattle.wc_base.specs.declared.error.NoMemory.{NoMemory}
use Rattle.wc_base.specs.declared.seat.View.{View}
use Rattle.wc_base.specs.declared.who.Who.{Who}
use Rattle.wc_pool.specs.declared.entry.PoolEntry.{PoolEntry}
use Rattle.wc_pool.specs.declared.entry.PoolOp.{PoolOp}
use Rattle.wc_pool.specs.declared.reference.MediaRef.{MediaRef}
use Rattle.seat_lock.specs.Seats.{IsSameSeat}
use Rattle.seat_lock.specs.Since.{MadeSince}
use Rattle.shared_pool.specs.declared.at.PoolAt.{PoolAt}
use Rattle.shared_pool.specs.declared.pool.LockedPool.{LockedPool}
use Rattle.shared_pool.specs.At.{MadeAt, AddsAt, IsRefAt, at_none, at_then}
use Rattle.shared_pool.specs.Refs.{IsPoolRef}
use Rattle.shared_pool.specs.Steps.{IsFree}
use Rattle.report_text.specs.declared.result.StepResult.{StepResult}
use Rattle.media_variables.specs.Given.{Acts, CameBy, DoesAll, Lasts}
use Rattle.media_variables.specs.Held.{AreOf, StayOf, WholeMedium}
use Rattle.media_variables.specs.Variables.{Medium, Numbers, Came, entry_of}
use Rattle.shared_variables.specs.Since.{EntriesBy, DidSince}

-- ---- over another pool

came_through : (did later : List PoolOp → Type 0) (vs after : List (Option Medium)) → ((os : List PoolOp) → did os → later os) → (o : Option Came) (answer : Option StepResult) → CameBy did vs after o answer → CameBy later vs after o answer
came_through did later vs after f None answer came = (came.0, f [] came.1, came.2)
came_through did later vs after f (Some c) answer came = (came.0, f c.does came.1, came.2)

acts_through : (did later : List PoolOp → Type 0) (came : Numbers → Option Came) (vs after : List (Option Medium)) (answer : Option StepResult) → ((os : List PoolOp) → did os → later os) → Acts did came vs after answer → Acts later came vs after answer
acts_through did later came vs after answer f acts = record { numbers = acts.numbers; came_by = came_through did later vs after f (came acts.numbers) answer acts.came_by }

module _ {R : Type 0} where
  -- ---- what was made

  none_made : (p q : PoolAt R) → q ≡ p → MadeAt [] p q
  none_made p q same = subst (MadeAt [] p) (sym same) (at_none p)

  -- a reference of a pool is one of the same pool at its seat, whatever was made since
  pub lasts_at : Lasts (AddsAt {R = R}) (IsRefAt {R = R})
  lasts_at p q e made = record { stay = λ r is. subst (λ (t : TableId). IsPoolRef t r) (sym made.pool_is) is }

  does_made : (p q : PoolAt R) (who : Who) (os : List PoolOp) → DoesAll AddsAt who p q os → (es : List PoolEntry) × (EntriesBy who os es × MadeAt es p q)
  does_made p q who [] same = ([], (tt, none_made p q same))
  does_made p q who (o ∷ os) does =
      let e = entry_of who does.0 o in
      let between = does.1.0 in
      let rest = does_made between q who os does.1.1.1 in
      (e ∷ rest.0, (((does.0, refl), rest.1.0), at_then p between q (e ∷ []) rest.0 does.1.1.0 rest.1.1))

  came_made : (p q : PoolAt R) (who : Who) (vs after : List (Option Medium)) (o : Option Came) (answer : Option StepResult) → CameBy (DoesAll AddsAt who p q) vs after o answer → (es : List PoolEntry) × MadeAt es p q
  came_made p q who vs after None answer came = ([], none_made p q came.1)
  came_made p q who vs after (Some c) answer came = let x = does_made p q who c.does came.1 in (x.0, x.1.1)

  -- whatever a step answers, its pool is the same, at the same seat
  pub step_made : (p q : PoolAt R) (who : Who) (came : Numbers → Option Came) (vs after : List (Option Medium)) (r : Result (Option StepResult) NoMemory) → IfOk r (Acts (DoesAll AddsAt who p q) came vs after) → OnErr r (MadeAt [] p q) → (es : List PoolEntry) × MadeAt es p q
  step_made p q who came vs after (Ok answer) acts err = came_made p q who vs after (came acts.numbers) answer acts.came_by
  step_made p q who came vs after (Err e) acts err = ([], err)

  -- a take of an output, or where memory was wanted
  pub take_made : (p q : PoolAt R) (who : Who) (came : Numbers → Option Came) (vs after : List (Option Medium)) (r : Result StepResult NoMemory) → IfOk r (λ a. Acts (DoesAll AddsAt who p q) came vs after (Some a)) → OnErr r (MadeAt [] p q) → (es : List PoolEntry) × MadeAt es p q
  take_made p q who came vs after (Ok answer) acts err = came_made p q who vs after (came acts.numbers) (Some answer) acts.came_by
  take_made p q who came vs after (Err e) acts err = ([], err)

  -- ---- at the seat itself

  pub same_at : (p q : PoolAt R) (u v : Seat (Option LockedPool) (View PoolEntry)) (es : List PoolEntry) → p.seat.now ≡ u → v ≡ q.seat.now → MadeAt es p q → IsSameSeat u v
  same_at p q u v es first last made = subst (λ (x : Seat (Option LockedPool) (View PoolEntry)). IsSameSeat u x) (sym last) (subst (λ (x : Seat (Option LockedPool) (View PoolEntry)). IsSameSeat x q.seat.now) first made.same)

  pub free_at : (p q : PoolAt R) (pool : TableId) (v : Seat (Option LockedPool) (View PoolEntry)) (es : List PoolEntry) → p.pool.now ≡ pool → v ≡ q.seat.now → MadeAt es p q → IsFree q.pool.now q.seat.now → IsFree pool v
  free_at p q pool v es of last made free = subst (IsFree pool) (sym last) (subst (λ (t : TableId). IsFree t q.seat.now) (made.pool_is ∙ of) free)

  since_at : (p q : PoolAt R) (u v : Seat (Option LockedPool) (View PoolEntry)) (es : List PoolEntry) → p.seat.now ≡ u → v ≡ q.seat.now → MadeAt es p q → MadeSince u.me.0 v.me.0 es
  since_at p q u v es first last made = subst (λ (x : Seat (Option LockedPool) (View PoolEntry)). MadeSince u.me.0 x.me.0 es) (sym last) (subst (λ (x : Seat (Option LockedPool) (View PoolEntry)). MadeSince x.me.0 q.seat.now.me.0 es) first made.made)

  did_at : (p q : PoolAt R) (u v : Seat (Option LockedPool) (View PoolEntry)) (who : Who) → p.seat.now ≡ u → v ≡ q.seat.now → (os : List PoolOp) → DoesAll AddsAt who p q os → DidSince who u.me.0 v.me.0 os
  did_at p q u v who first last os does = let x = does_made p q who os does in (x.0, (x.1.0, since_at p q u v x.0 first last x.1.1))

  pub acts_at : (p q : PoolAt R) (u v : Seat (Option LockedPool) (View PoolEntry)) (who : Who) (came : Numbers → Option Came) (vs after : List (Option Medium)) (r : Result (Option StepResult) NoMemory) → p.seat.now ≡ u → v ≡ q.seat.now → IfOk r (Acts (DoesAll AddsAt who p q) came vs after)
      → IfOk r (Acts (DidSince who u.me.0 v.me.0) came vs after)
  acts_at p q u v who came vs after (Ok answer) first last acts = acts_through (DoesAll AddsAt who p q) (DidSince who u.me.0 v.me.0) came vs after answer (did_at p q u v who first last) acts
  acts_at p q u v who came vs after (Err e) first last acts = tt

  pub take_acts_at : (p q : PoolAt R) (u v : Seat (Option LockedPool) (View PoolEntry)) (who : Who) (came : Numbers → Option Came) (vs after : List (Option Medium)) (r : Result StepResult NoMemory) → p.seat.now ≡ u → v ≡ q.seat.now → IfOk r (λ a. Acts (DoesAll AddsAt who p q) came vs after (Some a))
      → IfOk r (λ a. Acts (DidSince who u.me.0 v.me.0) came vs after (Some a))
  take_acts_at p q u v who came vs after (Ok answer) first last acts = acts_through (DoesAll AddsAt who p q) (DidSince who u.me.0 v.me.0) came vs after (Some answer) (did_at p q u v who first last) acts
  take_acts_at p q u v who came vs after (Err e) first last acts = tt

  pub held_at : (p q : PoolAt R) (pool : TableId) (vs after : List (Option WholeMedium)) (es : List PoolEntry) → p.pool.now ≡ pool → MadeAt es p q → StayOf (IsRefAt p) (IsRefAt q) vs after → AreOf (IsPoolRef pool) after
  held_at p q pool vs after es of made stay =
      let kept : (r : MediaRef) → IsRefAt p r → IsRefAt q r = λ r is. subst (λ (t : TableId). IsPoolRef t r) (sym made.pool_is) is in
      subst (λ (t : TableId). AreOf (IsPoolRef t) after) (made.pool_is ∙ of) (stay (inr (record { stay = kept })))
