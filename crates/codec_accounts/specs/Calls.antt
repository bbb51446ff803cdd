-- The calls of callers in the codecs' histories.
use Rattle.std.specs.Prelude.{ℕ, suc, ◌≤◌, ◌==◌, cond, List, [], ◌∷◌, ◌++◌, Option, Some, None}
use Rattle.wc_base.specs.declared.who.Who.{Who}
use Rattle.codec_model.specs.declared.entry.Entry.{Entry}
use Rattle.codec_model.specs.declared.entry.Entry.TheVariants as entry
use Rattle.codec_accounts.specs.Bags.{SameBag}
use Rattle.codec_accounts.specs.Owed.{owed}

-- the caller whose call an entry keeps, with its step
abbrev pub who_of : Entry → Option Who
who_of (entry.Call who x) = Some who
who_of (entry.Start epoch item) = None
who_of (entry.Done epoch item moment o) = None
who_of entry.Turn = None
who_of (entry.Reclaim moment) = None

-- what the result of a step says of a codec's history: a call whose entry stands at a place, a look at so many entries, or
-- nothing
pub data Mark : Type 0 where
  Call : ℕ → ℕ → Mark
  Look : ℕ → ℕ → Mark
  Local : Mark

-- From where to where a mark reaches on a codec: no earlier result reaches beyond its start, and no later one begins before
-- its end.
abbrev pub reach : ℕ → Mark → Option (ℕ × ℕ)
reach k (Call on p) = cond (on == k) (Some (p, suc p)) None
reach k (Look on n) = cond (on == k) (Some (n, n)) None
reach k Local = None

-- the marks of a caller's results on a codec rise, from one length of its history to another
abbrev pub Climbs : ℕ → ℕ → List Mark → ℕ → Type 0
Climbs k low [] high = low ≤ high
Climbs k low (r ∷ rs) high = elim (reach k r) [ None ↦ Climbs k low rs high | Some m ↦ (low ≤ m.0) × Climbs k m.1 rs high ]

-- the place and the name of a call on a codec
abbrev pub call_in : ℕ → Who → Mark → List (ℕ × Who)
call_in k who (Call on p) = cond (on == k) ((p, who) ∷ []) []
call_in k who (Look on n) = []
call_in k who Local = []

-- the calls of a caller on a codec, from its step with this number on
abbrev pub calls_on : ℕ → ℕ → ℕ → List Mark → List (ℕ × Who)
calls_on k c j [] = []
calls_on k c j (r ∷ rs) = call_in k (record { caller = c; step = j }) r ++ calls_on k c (suc j) rs

-- those of all callers, from the caller with this number on
abbrev pub all_calls : ℕ → ℕ → List (List Mark) → List (ℕ × Who)
all_calls k c [] = []
all_calls k c (rs ∷ rest) = calls_on k c 0 rs ++ all_calls k (suc c) rest

abbrev pub named_at : ℕ → Option Who → List (ℕ × Who)
named_at place None = []
named_at place (Some who) = (place, who) ∷ []

-- the entries of a history that name a caller's step, each with its place
abbrev pub named : List Entry → List (ℕ × Who)
named h = owed (λ e (s : Unit {0}). s) (λ place e s. named_at place (who_of e)) 0 tt h

-- The entries of a codec's history that name a caller's step are those of the calls in the callers' results, each once.
abbrev pub CallsAreIn : ℕ → List Entry → List (List Mark) → Type 0
CallsAreIn k h results = SameBag (named h) (all_calls k 0 results)
