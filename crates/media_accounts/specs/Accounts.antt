-- What the steps of callers, and the entries of codecs, call for in the history of the pool of media (W3C WebCodecs, 'Memory
-- Model'; in what order a step's entries stand, and what numbers stand in them, are our choice).
use Rattle.std.specs.Prelude.{ℕ, zero, suc, ◌≡◌, ◌≢◌, ◌<◌, ◌==◌, ◌&&◌, ◌⊎◌, Bool, true, false, List, [], ◌∷◌, ◌++◌, length, map, take, slice_get, Option, Some, None, IfSome, option_and_then, if◌then◌else◌}
use Rattle.wc_base.specs.declared.who.By.{By}
use Rattle.wc_base.specs.declared.who.By.TheVariants as by
use Rattle.wc_base.specs.declared.who.Who.{Who}
use Rattle.wc_pool.specs.declared.entry.PoolEntry.{PoolEntry}
use Rattle.wc_pool.specs.declared.entry.PoolOp.{PoolOp}
use Rattle.wc_pool.specs.declared.entry.PoolOp.TheVariants as op
use Rattle.wc_pool.specs.Bag.{is_legal_pool, is_held, references_made}
use Rattle.codec_model.specs.declared.entry.Opening.{Opening}
use Rattle.codec_model.specs.declared.entry.Entry.{Entry}
use Rattle.codec_model.specs.declared.entry.Pair.{Pair}
use Rattle.codec_model.specs.Replay.{State}
use Rattle.codec_model.specs.Held.{adds_held, lets_go, leaves_held}
use Rattle.codec_accounts.specs.Codec.{state_after}
use Rattle.script_types.specs.declared.steps.MediaStep.{MediaStep}
use Rattle.script_types.specs.declared.steps.Step.{Step}
use Rattle.script_types.specs.declared.steps.Step.TheVariants as step
use Rattle.script_types.specs.declared.script.CallerItem.{CallerItem}
use Rattle.media_variables.specs.Variables.{Medium, Media, Numbers, Came, Received, Brought, next_numbers, with_last, media_came, variables_of, after_came}
use Rattle.media_variables.specs.Held.{AreHeld, AreApart, MayReceive, clones_of, ends_behind}

-- the step with this number of the caller with this number
abbrev pub step_by : ℕ → ℕ → Who
step_by c j = record { caller = c; step = j }

-- an entry is that step's
abbrev pub is_by_step : ℕ → ℕ → By → Bool
is_by_step c j (by.Caller who) = (who.caller == c) && (who.step == j)
is_by_step c j (by.Codec k place) = false

-- what was done to the pool by causes that pass this test, in order
abbrev pub ops_where : (By → Bool) → List PoolEntry → List PoolOp
ops_where test [] = []
ops_where test (e ∷ es) = if test e.by then e.op ∷ ops_where test es else ops_where test es

-- what a step did to the pool
abbrev pub ops_by : ℕ → ℕ → List PoolEntry → List PoolOp
ops_by c j pool = ops_where (is_by_step c j) pool

-- the numbers that stand in what was done
abbrev pub numbers_in : PoolOp → Numbers
numbers_in (op.Make r f) = record { resource = r; reference = f }
numbers_in (op.Clone r f) = record { resource = r; reference = f }
numbers_in (op.End r f last) = record { resource = r; reference = f }

-- the numbers in what a step did; a step that did nothing has none, and these are of no account
abbrev pub numbers_of : List PoolOp → Numbers
numbers_of [] = record { resource = 0; reference = 0 }
numbers_of (o ∷ os) = numbers_in o

-- an entry is that of this codec at this place
abbrev pub is_by_entry : ℕ → ℕ → By → Bool
is_by_entry k place (by.Caller who) = false
is_by_entry k place (by.Codec codec n) = (codec == k) && (n == place)

-- the same, where an end does not say whether its reference was the last of its resource
abbrev pub without_last : PoolOp → PoolOp
without_last o = with_last false o

-- what the entry of a codec at a place did to the pool
abbrev pub ops_of_entry : ℕ → ℕ → List PoolEntry → List PoolOp
ops_of_entry k place pool = map without_last (ops_where (is_by_entry k place) pool)

-- What an entry calls for, by the state before it: one clone of the resource of an encode that is accepted, and an end of each
-- reference that it lets go.
abbrev pub called_for : Entry → State → List PoolOp
called_for e s = map (λ p. op.Clone p.resource p.reference) (adds_held e) ++ map (λ p. op.End p.resource p.reference false) (lets_go e s)

-- the entries of that, behind a pool's history
abbrev pub pool_by : By → Entry → State → List PoolEntry → List PoolEntry
pool_by cause e s pool = clones_of cause (adds_held e) ++ ends_behind cause pool (lets_go e s)

abbrev pub called_at : Opening → List Entry → ℕ → Option Entry → List PoolOp
called_at o h place None = []
called_at o h place (Some e) = called_for e (state_after o (take place h))

-- what the entry at a place of a codec's history calls for; nothing where there is none
abbrev pub lent_at : Opening → List Entry → ℕ → List PoolOp
lent_at o h place = called_at o h place (slice_get h place)

abbrev pub media_of : Step → Option MediaStep
media_of (step.Media x) = Some x
media_of _ = None

-- a step that is none on media leaves the variables of media as they were
abbrev pub variables_by : Option Came → List (Option Medium) → List (Option Medium)
variables_by None vs = vs
variables_by (Some y) vs = y.variables

-- what a step does to the pool, in order
abbrev pub done_by : Option Came → List PoolOp
done_by None = []
done_by (Some y) = y.does

-- what was done by a caller's step with this number, where an end does not say whether it was the last
pub record StepOp : Type 0 where
  pub step : ℕ
  pub op : PoolOp

abbrev pub step_op : ℕ → PoolOp → StepOp
step_op j o = record { step = j; op = without_last o }

-- what the steps of the caller with this number did, in order
abbrev pub own_by : ℕ → By → PoolOp → List StepOp
own_by c (by.Caller who) o = if who.caller == c then step_op who.step o ∷ [] else []
own_by c (by.Codec k place) o = []

abbrev pub own_in : ℕ → List PoolEntry → List StepOp
own_in c [] = []
own_in c (e ∷ es) = own_by c e.by e.op ++ own_in c es

-- what the first n steps of a caller call for, in order, by what each comes to
abbrev pub own_of : (ℕ → Option Came) → ℕ → List StepOp
own_of came zero = []
own_of came (suc n) = own_of came n ++ map (step_op n) (done_by (came n))

-- `steps` has the steps of each caller, and `brought` what is given from elsewhere to a caller's step on media
module _ (steps : ℕ → List Step) (brought : ℕ → ℕ → MediaStep → Brought) where
  -- What a step on media comes to, after these variables of its caller: numbers of resources and references are those in the
  -- step's own first entry.
  abbrev pub came_on : List PoolEntry → ℕ → ℕ → List (Option Medium) → Option Came
  came_on pool c j vs =
      option_and_then (λ x. media_came (numbers_of (ops_by c j pool)) (step_by c j) (brought c j x) x vs) (option_and_then media_of (slice_get (steps c) j))

  -- the variables of a caller after so many of its steps
  abbrev pub variables_in : List PoolEntry → ℕ → ℕ → List (Option Medium)
  variables_in pool c zero = []
  variables_in pool c (suc j) = variables_by (came_on pool c j (variables_in pool c j)) (variables_in pool c j)

  -- what a step on media comes to, after its caller's earlier steps; none of any other step
  abbrev pub came_in : List PoolEntry → ℕ → ℕ → Option Came
  came_in pool c j = came_on pool c j (variables_in pool c j)

  -- A pool can have this history; the entries of each caller are those that the steps which it made call for, in order; each
  -- entry of a codec has what it calls for, by its place, in order; and nothing else is in it. `lends` is what the entries of
  -- codecs call for, and `made` says how many steps each caller made.
  pub record MediaAreIn (lends : ℕ → ℕ → List PoolOp) (made : ℕ → ℕ) (pool : List PoolEntry) : Type 0 where
    pub legal : is_legal_pool pool ≡ true
    pub own : (c : ℕ) → own_in c pool ≡ own_of (came_in pool c) (made c)
    pub codecs : (k place : ℕ) → ops_of_entry k place pool ≡ lends k place

-- one caller made one step more
pub record OneMore (made more : ℕ → ℕ) (c : ℕ) : Type 0 where
  pub here : more c ≡ suc (made c)
  pub others : (d : ℕ) → d ≢ c → more d ≡ made d

-- The step is none on media, or one that came to nothing, whatever the numbers and the variables.
abbrev pub IsQuiet : (ℕ → List Step) → (ℕ → ℕ → MediaStep → Brought) → ℕ → ℕ → Type 0
IsQuiet steps brought c j = (x : MediaStep) (n : Numbers) (vs : List (Option Medium)) →
    option_and_then media_of (slice_get (steps c) j) ≡ Some x → media_came n (step_by c j) (brought c j x) x vs ≡ None

-- What codecs call for in the pool's history, by their entries, and the references that each holds.
pub record Lending : Type 0 where
  pub lends : ℕ → ℕ → List PoolOp
  pub holds : ℕ → List Pair

-- no codec holds a reference of this number
abbrev pub IsNoneOf : (ℕ → List Pair) → ℕ → Type 0
IsNoneOf holds number = (k i : ℕ) (p : Pair) → slice_get (holds k) i ≡ Some p → p.reference ≢ number

abbrev pub nothing_lent : Lending
nothing_lent = record { lends = λ k place. []; holds = λ k. [] }

-- each reference that a codec holds is live, and no variable and no other codec holds it
pub record AreLent (pool : List PoolEntry) (callers : List (List (Option Medium))) (holds : ℕ → List Pair) : Type 0 where
  pub apart : (k : ℕ) → AreApart pool callers (holds k)
  pub between : (k l i j : ℕ) (p q : Pair) → k ≢ l → slice_get (holds k) i ≡ Some p → slice_get (holds l) j ≡ Some q → p.reference ≢ q.reference

-- What stands of all media after so many steps of each caller: the pool's history has what those steps and the codecs'
-- entries call for, each variable holds what its caller's steps left, and each reference that a variable or a codec holds is
-- live and held by no other. There are so many callers.
pub record MediaStand (steps : ℕ → List Step) (brought : ℕ → ℕ → MediaStep → Brought) (codecs : Lending) (made : ℕ → ℕ) (callers : ℕ) (m : Media) : Type 0 where
  pub accounted : MediaAreIn steps brought codecs.lends made m.pool
  pub variables : (c : ℕ) → variables_of c m.variables ≡ variables_in steps brought m.pool c (made c)
  pub held : AreHeld m.pool m.variables
  pub lent : AreLent m.pool m.variables codecs.holds
  pub there : length m.variables ≡ callers

-- all stands before any step and any entry
abbrev pub NothingStands : Type 0
NothingStands = (steps : ℕ → List Step) (brought : ℕ → ℕ → MediaStep → Brought) (callers : List CallerItem) →
    MediaStand steps brought nothing_lent (λ c. 0) (length callers) (record { variables = map (λ c. []) callers; pool = [] })

-- The next step of a caller is this one on media, and comes to this; what it came to is told by the pool's history, and what
-- all earlier steps came to is told as before.
pub record StepStands (steps : ℕ → List Step) (brought : ℕ → ℕ → MediaStep → Brought) (codecs : Lending) (made more : ℕ → ℕ) (callers : ℕ) (m : Media) (c : ℕ) (y : Came) : Type 0 where
  pub stands : MediaStand steps brought codecs more callers (after_came (step_by c (made c)) y m)
  pub here : came_in steps brought (after_came (step_by c (made c)) y m).pool c (made c) ≡ Some y
  pub earlier : (d j : ℕ) → j < made d → came_in steps brought (after_came (step_by c (made c)) y m).pool d j ≡ came_in steps brought m.pool d j

-- what a step receives holds no reference, or one that is live, and that no variable and no codec holds
abbrev pub MayTakeIn : Media → (ℕ → List Pair) → Option Received → Type 0
MayTakeIn m holds o = MayReceive m.pool m.variables o × IfSome o (λ p. IfSome p.medium.held (λ r. IsNoneOf holds r.number))

abbrev pub StepsStand : Type 0
StepsStand = (steps : ℕ → List Step) (brought : ℕ → ℕ → MediaStep → Brought) (codecs : Lending) (made more : ℕ → ℕ) (callers : ℕ) (m : Media) (c : ℕ) (x : MediaStep) (y : Came) →
    MediaStand steps brought codecs made callers m → c < callers → OneMore made more c → slice_get (steps c) (made c) ≡ Some (step.Media x) →
    MayTakeIn m codecs.holds (brought c (made c) x).received → media_came (next_numbers m.pool) (step_by c (made c)) (brought c (made c) x) x (variables_of c m.variables) ≡ Some y →
    StepStands steps brought codecs made more callers m c y

abbrev pub OthersStand : Type 0
OthersStand = (steps : ℕ → List Step) (brought : ℕ → ℕ → MediaStep → Brought) (codecs : Lending) (made more : ℕ → ℕ) (callers : ℕ) (m : Media) (c : ℕ) →
    MediaStand steps brought codecs made callers m → OneMore made more c → IsQuiet steps brought c (made c) → MediaStand steps brought codecs more callers m

-- what is brought to each step that was made is the same
abbrev pub IsBroughtToo : (ℕ → ℕ) → (ℕ → ℕ → MediaStep → Brought) → (ℕ → ℕ → MediaStep → Brought) → Type 0
IsBroughtToo made brought later = (c j : ℕ) (x : MediaStep) → j < made c → later c j x ≡ brought c j x

-- then all stands as it did, and each of those steps came to the same
pub record LaterStands (steps : ℕ → List Step) (brought later : ℕ → ℕ → MediaStep → Brought) (codecs : Lending) (made : ℕ → ℕ) (callers : ℕ) (m : Media) : Type 0 where
  pub stands : MediaStand steps later codecs made callers m
  pub same : (c j : ℕ) → j < made c → came_in steps later m.pool c j ≡ came_in steps brought m.pool c j

abbrev pub LaterStand : Type 0
LaterStand = (steps : ℕ → List Step) (brought later : ℕ → ℕ → MediaStep → Brought) (codecs : Lending) (made : ℕ → ℕ) (callers : ℕ) (m : Media) →
    MediaStand steps brought codecs made callers m → IsBroughtToo made brought later → LaterStands steps brought later codecs made callers m

-- ---- an entry of a codec

-- an encode that is accepted clones a resource that is held, and its reference has the next number
abbrev pub MayAdd : List PoolEntry → Pair → Type 0
MayAdd pool p = (is_held p.resource pool ≡ true) × (p.reference ≡ references_made pool)

-- what a codec holds is what it lets go and what it keeps, in one order or the other
abbrev pub AreParts : List Pair → List Pair → List Pair → Type 0
AreParts held gone kept = (held ≡ gone ++ kept) ⊎ (held ≡ kept ++ gone)

-- The codec with this number has one entry more, at this place: what it adds may be added, and the codec holds what the entry
-- leaves and what it adds.
pub record EntryMore (codecs later : Lending) (k place : ℕ) (e : Entry) (s : State) (pool : List PoolEntry) : Type 0 where
  pub adds : (i : ℕ) (p : Pair) → slice_get (adds_held e) i ≡ Some p → MayAdd pool p
  pub parts : AreParts (codecs.holds k) (lets_go e s) (leaves_held e s)
  pub holds : later.holds k ≡ leaves_held e s ++ adds_held e
  pub fresh : codecs.lends k place ≡ []
  pub lends : later.lends k place ≡ called_for e s
  pub other_lends : (l n : ℕ) → ((l ≡ k) → (n ≡ place) → ⊥) → later.lends l n ≡ codecs.lends l n
  pub other_holds : (l : ℕ) → l ≢ k → later.holds l ≡ codecs.holds l

abbrev pub after_entry_of : ℕ → ℕ → Entry → State → Media → Media
after_entry_of k place e s m = record m { pool = m.pool ++ pool_by (by.Codec k place) e s m.pool }

-- then all stands after it, and each step comes to what it came to, after the same variables
pub record EntryStands (steps : ℕ → List Step) (brought : ℕ → ℕ → MediaStep → Brought) (later : Lending) (made : ℕ → ℕ) (callers : ℕ) (k place : ℕ) (e : Entry) (s : State) (m : Media) : Type 0 where
  pub stands : MediaStand steps brought later made callers (after_entry_of k place e s m)
  pub same : (c j : ℕ) → came_in steps brought (after_entry_of k place e s m).pool c j ≡ came_in steps brought m.pool c j
  pub variables : (c j : ℕ) → variables_in steps brought (after_entry_of k place e s m).pool c j ≡ variables_in steps brought m.pool c j

abbrev pub EntriesStand : Type 0
EntriesStand = (steps : ℕ → List Step) (brought : ℕ → ℕ → MediaStep → Brought) (codecs later : Lending) (made : ℕ → ℕ) (callers : ℕ) (k place : ℕ) (e : Entry) (s : State) (m : Media) →
    MediaStand steps brought codecs made callers m → EntryMore codecs later k place e s m.pool → EntryStands steps brought later made callers k place e s m
