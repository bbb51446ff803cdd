-- Where outputs come from, and how promises end, by the places of entries.
use Rattle.std.specs.Prelude.{ℕ, zero, suc, ◌+◌, ◌==◌, List, [], ◌∷◌, ◌++◌, take, drop, slice_get, Option, Some, None, is_some, if◌then◌else◌}
use Rattle.codec_model.specs.declared.entry.WorkKind.{WorkKind}
use Rattle.codec_model.specs.declared.entry.WorkKind.TheVariants as kind
use Rattle.codec_model.specs.declared.entry.PromiseEnd.{PromiseEnd}
use Rattle.codec_model.specs.declared.entry.PromiseState.{PromiseState}
use Rattle.codec_model.specs.Shown.{promise_ended}
use Rattle.codec_laws.specs.declared.sight.Ran.{Ran}
use Rattle.codec_laws.specs.declared.sight.Sight.{Sight}
use Rattle.codec_laws.specs.declared.source.Source.{Source}
use Rattle.codec_laws.specs.declared.source.Output.{Output}

-- What is kept of the entries before a place: how many of them were removals, what was asked for since the last of these, by
-- the places of the calls, the configure whose item ran last and how many outputs its configuration gave, and where the
-- outputs that were given and not yet shown come from.
pub record Book : Type 0 where
  pub place : ℕ
  pub epoch : ℕ
  pub calls : List (ℕ × WorkKind)
  pub configure : ℕ
  pub given : ℕ
  pub waiting : List Source

-- so many outputs that a call's item gave, the first of this index
abbrev pub given_by : ℕ → ℕ → ℕ → ℕ → List Source
given_by call configure index zero = []
given_by call configure index (suc n) = record { call = call; configure = configure; index = index } ∷ given_by call configure (index + 1) n

-- a call's item gave so many outputs
abbrev pub gave : ℕ → ℕ → Book → Book
gave call units b = record b { given = b.given + units; waiting = b.waiting ++ given_by call b.configure b.given units }

-- an item ran whose call stands at this place: a configure begins a configuration
abbrev pub after_item : ℕ → Option (ℕ × WorkKind) → Book → Book
after_item units None b = b
after_item units (Some (call, kind.Configure)) b = record b { configure = call; given = 0 }
after_item units (Some (call, k)) b = gave call units b

-- The items of an epoch are its accepted calls, in order; those of an older epoch give nothing.
abbrev pub after_ran : Option Ran → Book → Book
after_ran None b = b
after_ran (Some r) b = if r.epoch == b.epoch then after_item r.units (slice_get b.calls r.item) b else b

abbrev pub after_asked : Option WorkKind → Book → Book
after_asked None b = b
after_asked (Some k) b = record b { calls = b.calls ++ (b.place, k) ∷ [] }

abbrev pub removed : Book → Book
removed b = record { place = b.place + 1; epoch = b.epoch + 1; calls = []; configure = 0; given = 0; waiting = [] }

-- outputs are shown in the order in which they were given
abbrev pub kept : Sight → Book → Book
kept x b = let c = after_asked x.asks (after_ran x.ran (record b { waiting = drop x.outputs b.waiting })) in record c { place = c.place + 1 }

abbrev pub book_after : Sight → Book → Book
book_after x b = if is_some x.removes then removed b else kept x b

abbrev pub empty_book : Book
empty_book = record { place = 0; epoch = 0; calls = []; configure = 0; given = 0; waiting = [] }

abbrev pub shown_by : ℕ → List Source → List Output
shown_by turn [] = []
shown_by turn (s ∷ ss) = record { source = s; turn = turn } ∷ shown_by turn ss

abbrev pub outputs_at : Sight → Book → List Output
outputs_at x b = shown_by b.place (take x.outputs b.waiting)

abbrev pub outputs_from : List Sight → Book → List Output
outputs_from [] b = []
outputs_from (x ∷ xs) b = outputs_at x b ++ outputs_from xs (book_after x b)

-- all outputs that these entries show, in order
abbrev pub outputs : List Sight → List Output
outputs xs = outputs_from xs empty_book

-- what an entry gives that is the end of an item
abbrev pub given_at : Sight → Book → List Source
given_at x b = (after_ran x.ran (record b { waiting = [] })).waiting

abbrev pub given_from : List Sight → Book → List Source
given_from [] b = []
given_from (x ∷ xs) b = given_at x b ++ given_from xs (book_after x b)

-- where all outputs come from that the items of these entries give, shown or not
abbrev pub given : List Sight → List Source
given xs = given_from xs empty_book

-- the first of these ends that is the promise's, at this place
abbrev pub end_at : ℕ → ℕ → List PromiseEnd → Option (ℕ × PromiseState)
end_at p place [] = None
end_at p place (e ∷ es) = if e.promise == p then Some (place, promise_ended e.error) else end_at p place es

abbrev pub first_of : {X : Type 0} → Option X → Option X → Option X
first_of None o = o
first_of (Some x) o = Some x

-- the first end of a promise, with its place, from this place on
abbrev pub end_from : ℕ → ℕ → List Sight → Option (ℕ × PromiseState)
end_from p place [] = None
end_from p place (x ∷ xs) = first_of (end_at p place x.ends) (end_from p (place + 1) xs)

-- how many ends a promise has
abbrev pub own_ends : ℕ → List PromiseEnd → ℕ
own_ends p [] = 0
own_ends p (e ∷ es) = (if e.promise == p then 1 else 0) + own_ends p es

abbrev pub ends_in : ℕ → List Sight → ℕ
ends_in p [] = 0
ends_in p (x ∷ xs) = own_ends p x.ends + ends_in p xs
