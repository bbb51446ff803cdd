-- What steps do to a pool for one thread: what they come to with the numbers that are next, and the entries behind its history.
use Rattle.std.proofs.Common.{◌≡◌, Bool, List, [], ◌∷◌, ◌++◌, Option, Some, None, ap, sym, subst, ◌∙◌, append_assoc, append-nil}
use Rattle.std.proofs.lemmas.Bool.{and_parts, eqb-true}
use Rattle.wc_base.specs.declared.who.By.TheVariants as by
use Rattle.wc_base.specs.declared.who.Who.{Who}
use Rattle.wc_pool.specs.declared.entry.PoolEntry.{PoolEntry}
use Rattle.wc_pool.specs.declared.entry.PoolOp.{PoolOp}
use Rattle.wc_pool.specs.declared.entry.PoolOp.TheVariants as op
use Rattle.wc_pool.specs.Bag.{resources_made, references_made, is_held}
use Rattle.wc_pool.specs.Pools.{Adds}
use Rattle.report_text.specs.declared.result.StepResult.{StepResult}
use Rattle.media_variables.specs.Variables.{Medium, Numbers, Came, next_numbers, entry_of, entry_behind, entries_of}
use Rattle.media_variables.specs.CameLaws.{HasNumbers, ByNumbers, does_of}
use Rattle.media_variables.specs.Given.{DoesAll, CameBy, Acts}
use Rattle.media_variables.proofs.Ends.{flag_is}

-- a step on one caller's variables came to this; one that is the codec's changes nothing
abbrev pub Reaches : Who → List PoolEntry → List PoolEntry → List (Option Medium) → List (Option Medium) → Option Came → Option StepResult → Type 0
Reaches who pool new vs after None answer = (answer ≡ None) × (new ≡ pool) × (after ≡ vs)
Reaches who pool new vs after (Some c) answer = (answer ≡ Some c.answer) × (new ≡ pool ++ entries_of pool who c.does) × (after ≡ c.variables)

-- the entries of what is done, with one more
pub entries_split : (pool : List PoolEntry) (who : Who) (os : List PoolOp) (o : PoolOp) → entries_of pool who (os ++ o ∷ []) ≡ entries_of pool who os ++ entry_behind (pool ++ entries_of pool who os) who o ∷ []
entries_split pool who [] o = ap (λ (x : List PoolEntry). entry_behind x who o ∷ []) (sym (append-nil pool))
entries_split pool who (x ∷ xs) o =
    let e = entry_behind pool who x in
    let rest = entries_of (pool ++ e ∷ []) who xs in
    ap (λ (l : List PoolEntry). e ∷ l) (entries_split (pool ++ e ∷ []) who xs o ∙ ap (λ (x : List PoolEntry). rest ++ entry_behind x who o ∷ []) (append_assoc pool (e ∷ []) rest))

pub entries_more : (pool : List PoolEntry) (who : Who) (os : List PoolOp) (o : PoolOp) → pool ++ entries_of pool who (os ++ o ∷ []) ≡ (pool ++ entries_of pool who os) ++ entry_behind (pool ++ entries_of pool who os) who o ∷ []
entries_more pool who os o =
    let now = entries_of pool who os in
    ap (λ (l : List PoolEntry). pool ++ l) (entries_split pool who os o) ∙ sym (append_assoc pool now (entry_behind (pool ++ now) who o ∷ []))

module _ (who : Who) where
  added_numbers : (pool new : List PoolEntry) (last : Bool) (o : PoolOp) (os : List PoolOp) → Adds pool new (entry_of who last o) → HasNumbers (next_numbers pool) (o ∷ os)
  added_numbers pool new last (op.Make r f) os h = let parts = and_parts _ _ h.next in (sym (eqb-true r (resources_made pool) parts.0), sym (eqb-true f (references_made pool) parts.1))
  added_numbers pool new last (op.Clone r f) os h = let parts = and_parts (is_held r pool) _ h.next in sym (eqb-true f (references_made pool) parts.1)
  added_numbers pool new last (op.End r f any) os h = tt

  added_entry : (pool new : List PoolEntry) (last : Bool) (o : PoolOp) → Adds pool new (entry_of who last o) → new ≡ pool ++ entry_behind pool who o ∷ []
  added_entry pool new last (op.Make r f) h = h.longer
  added_entry pool new last (op.Clone r f) h = h.longer
  added_entry pool new last (op.End r f any) h = h.longer ∙ ap (λ (b : Bool). pool ++ entry_of who b (op.End r f any) ∷ []) (flag_is (by.Caller who) r f last pool h.next)

  does_numbers : (pool new : List PoolEntry) (os : List PoolOp) → DoesAll Adds who pool new os → HasNumbers (next_numbers pool) os
  does_numbers pool new [] h = tt
  does_numbers pool new (o ∷ os) h = added_numbers pool h.1.0 h.0 o os h.1.1.0

  does_entries : (pool new : List PoolEntry) (os : List PoolOp) → DoesAll Adds who pool new os → new ≡ pool ++ entries_of pool who os
  does_entries pool new [] h = h ∙ sym (append-nil pool)
  does_entries pool new (o ∷ os) h =
      let between = h.1.0 in
      let e = entry_behind pool who o in
      let first : between ≡ pool ++ e ∷ [] = added_entry pool between h.0 o h.1.1.0 in
      does_entries between new os h.1.1.1 ∙ (ap (λ (x : List PoolEntry). x ++ entries_of x who os) first ∙ append_assoc pool (e ∷ []) (entries_of (pool ++ e ∷ []) who os))

  module _ (pool new : List PoolEntry) (vs after : List (Option Medium)) where
    came_numbers : (y : Option Came) (answer : Option StepResult) → CameBy (DoesAll Adds who pool new) vs after y answer → HasNumbers (next_numbers pool) (does_of y)
    came_numbers None answer h = tt
    came_numbers (Some y) answer h = does_numbers pool new y.does h.1

    came_reaches : (y : Option Came) (answer : Option StepResult) → CameBy (DoesAll Adds who pool new) vs after y answer → Reaches who pool new vs after y answer
    came_reaches None answer h = h
    came_reaches (Some y) answer h = (h.0, does_entries pool new y.does h.1, h.2)

    pub act_reaches : (came : Numbers → Option Came) (answer : Option StepResult) → ByNumbers came → Acts (DoesAll Adds who pool new) came vs after answer → Reaches who pool new vs after (came (next_numbers pool)) answer
    act_reaches came answer numbers h =
        let y = came h.numbers in
        let same : came (next_numbers pool) ≡ y = numbers h.numbers (next_numbers pool) (came_numbers y answer h.came_by) in
        subst (λ (z : Option Came). Reaches who pool new vs after z answer) (sym same) (came_reaches y answer h.came_by)
