-- What a step of a caller does with its seats at a desk.
use Rattle.std.specs.Prelude.{ℕ, ◌≡◌, ◌≢◌, ◌<◌, ◌≤◌, IfSome, Bool, List, [], ◌∷◌, ◌++◌, length, map, take, Option, Some, None, slice_get}
use Rattle.atomic_table.specs.declared.shared.Seat.{Seat}
use Rattle.wc_base.specs.declared.error.DomError.{DomError}
use Rattle.wc_base.specs.declared.seat.View.{View}
use Rattle.wc_base.specs.declared.who.Who.{Who}
use Rattle.wc_chunk.specs.declared.chunk.Chunk.{Chunk}
use Rattle.codec_definitions.specs.declared.unit.Unit as output
use Rattle.wc_pool.specs.declared.entry.PoolEntry.{PoolEntry}
use Rattle.coder_api.specs.declared.slot.SlotEntry.{SlotEntry}
use Rattle.codec_model.specs.declared.entry.{Opening.Opening, Entry.Entry, Call.Call, CodecState.CodecState, PromiseState.PromiseState}
use Rattle.codec_model.specs.declared.entry.Entry.TheVariants as entry
use Rattle.codec_model.specs.declared.entry.Call.TheVariants as call
use Rattle.codec_accounts.specs.Codec.{state_after}
use Rattle.codec_accounts.specs.Bags.{SameBag}
use Rattle.codec_accounts.specs.Calls.{reach}
use Rattle.codec_accounts.specs.CallsLaws.{MayClimb}
use Rattle.codec_accounts.specs.Owed.{at}
use Rattle.seat_lock.specs.Since.{MadeSince}
use Rattle.codec_logs.specs.declared.event.Event.{Event}
use Rattle.codec_logs.specs.Logs.{history_of}
use Rattle.script_types.specs.declared.script.ScriptData.{ScriptData}
use Rattle.script_types.specs.declared.steps.Step.{Step}
use Rattle.script_types.specs.declared.steps.Variable.{Variable}
use Rattle.script_types.specs.Names.{names_codec}
use Rattle.report_text.specs.declared.result.StepResult.{StepResult}
use Rattle.report_text.specs.declared.result.StepResult.TheVariants as result
use Rattle.shared_codec.specs.Keeps.{Keeps}
use Rattle.shared_codec.specs.Shared.{Shared}
use Rattle.shared_port.specs.declared.port.PortPass.{PortPass}
use Rattle.codec_desk.specs.declared.desk.Desk.{Desk}
use Rattle.codec_desk.specs.declared.desk.Seats.{Seats}
use Rattle.codec_desk.specs.Desks.{SeesMore, InOrderSince, TellsSince, slot_calls, pool_calls, Settled}
use Rattle.codec_desk.specs.Each.{Each}
use Rattle.desk_threads.specs.Accounts.{for_codecs}
use Rattle.media_variables.specs.Variables.{Medium, Lendable, handed_of}
use Rattle.media_variables.specs.Held.{IsEnoughUnit}
use Rattle.media_accounts.specs.Accounts.{StepOp, own_in}
use Rattle.run_model.specs.Recorded.{opening_at, output_at, promise_after, take_entry}
use Rattle.run_model.specs.Fits.{exception_at, mark_of}
use Rattle.codec_desk.specs.Named.{Calls}
use Rattle.shared_variables.specs.Ports.{WholeParcel}
use Rattle.desk_callers.specs.Deeds.{Deed, AreDeeds, IsDeed, after_deed, calls_by, calls_of, own_due, owns_of, results_of, variables_after}
use Rattle.desk_callers.specs.Passes.{KnowPorts}
use Rattle.desk_callers.specs.PortActs.{ActsAtPorts}

-- the codecs' histories, as far as these seats have seen them
abbrev pub histories_in : {S : Type 0} → List (Seat (Option S) (View Event)) → List (List Entry)
histories_in seats = map (λ a. history_of a.me.0.log) seats

-- a codec is in this state after this history, with so many coded messages in its queue
abbrev pub StateIs : Opening → List Entry → CodecState → ℕ → Type 0
StateIs o h state size = (state ≡ (state_after o h).control.phase) × (size ≡ (state_after o h).control.size)

-- by this history no output is there to be taken
abbrev pub NoOutput : Opening → List Entry → Type 0
NoOutput o h = output_at o h (state_after o h).control.taken ≡ None

-- the codec with each number is opened as the script says
abbrev pub AreOpened : ScriptData → List Shared → Type 0
AreOpened s codecs = (k : ℕ) (x : Shared) → slice_get codecs k ≡ Some x → x.opening ≡ opening_at s k

module _ {C : Type 0} where
  -- the seats are the same, each with its parts, and have seen more
  pub record StaySeats (desk : Desk C) (a b : Seats C) : Type 0 where
    pub codecs : Each SeesMore desk.codecs.items a.codecs.items b.codecs.items
    pub slots : Keeps desk.slots.id a.slots b.slots
    pub pool : Keeps desk.pool a.pool b.pool

  -- What one thread did with its seats at a desk, where it also made entries of the pool by steps of the caller with this number:
  -- these, in order. What it made for codecs is what all entries that it made at the codecs call for: in any order, and by each entry
  -- of a codec in that entry's order. It made nothing for other callers.
  pub record SettledBy (c : ℕ) (mine : List StepOp) (desk : Desk C) (a b : Seats C) : Type 0 where
    pub seats : StaySeats desk a b
    pub entries : List SlotEntry
    pub made : MadeSince a.slots.me.0 b.slots.me.0 entries
    pub owed : SameBag (slot_calls desk.codecs.items b.codecs.items) (slot_calls desk.codecs.items a.codecs.items ++ entries)
    pub does : List PoolEntry
    pub pool : MadeSince a.pool.me.0 b.pool.me.0 does
    pub lends : SameBag (pool_calls desk.codecs.items b.codecs.items) (pool_calls desk.codecs.items a.codecs.items ++ for_codecs does)
    pub order : Each (InOrderSince entries does) desk.codecs.items a.codecs.items b.codecs.items
    pub told : Each (TellsSince b.slots.me.0.log) desk.codecs.items a.codecs.items b.codecs.items
    pub own : own_in c does ≡ mine
    pub others : (d : ℕ) → d ≢ c → own_in d does ≡ []

  -- a result is of the time between what the seats had seen of each codec and what they have seen
  abbrev pub IsBetween : StepResult → Seats C → Seats C → Type 0
  IsBetween r a b = (k : ℕ) → MayClimb (reach k (mark_of r)) (length (at k (histories_in a.codecs.items))) (length (at k (histories_in b.codecs.items)))

  -- The thread settled what it made, and named no caller.
  pub record Helped (desk : Desk C) (a b : Seats C) : Type 0 where
    pub settled : Settled desk a b
    pub calls : Calls desk [] a b

  -- the result of a look at a codec's state, as the codec's history was that the seats have seen
  pub record SawState (desk : Desk C) (codec : ℕ) (r : StepResult) (a b : Seats C) : Type 0 where
    pub seen : ℕ
    pub state : CodecState
    pub size : ℕ
    pub is : r ≡ result.State codec seen state size
    pub between : IsBetween r a b
    pub shows : (x : Shared) → slice_get desk.codecs.items codec ≡ Some x → StateIs x.opening (take seen (at codec (histories_in b.codecs.items))) state size

  -- the result of a look at the promise of the flush at this place of a codec's history
  pub record SawPromise (desk : Desk C) (codec place : ℕ) (r : StepResult) (a b : Seats C) : Type 0 where
    pub seen : ℕ
    pub end : PromiseState
    pub is : r ≡ result.Look codec seen end
    pub between : IsBetween r a b
    pub shows : (x : Shared) → slice_get desk.codecs.items codec ≡ Some x → end ≡ promise_after x.opening (take seen (at codec (histories_in b.codecs.items))) place

  -- The result of a call of a caller: its entry stands where that says, and shows its exception. What the thread made is settled, and
  -- it named nothing else.
  pub record CalledAs (desk : Desk C) (who : Who) (codec : ℕ) (x : Call) (a b : Seats C) (r : StepResult) : Type 0 where
    pub place : ℕ
    pub error : Option DomError
    pub is : r ≡ result.Call codec place error
    pub settled : Settled desk a b
    pub calls : Calls desk (record { codec = codec; place = place; who = who; call = x } ∷ []) a b
    pub between : IsBetween r a b
    pub stands : slice_get (at codec (histories_in b.codecs.items)) place ≡ Some (entry.Call who x)
    pub shows : (s : Shared) → slice_get desk.codecs.items codec ≡ Some s → error ≡ exception_at s.opening (at codec (histories_in b.codecs.items)) place

  -- The result of an encode of this medium: the call that was made, by what the codec was handed.
  pub record EncodedAs (desk : Desk C) (who : Who) (codec : ℕ) (medium : Option Lendable) (a b : Seats C) (r : StepResult) : Type 0 where
    pub lent : Lendable
    pub lent_is : medium ≡ Some lent
    pub number : ℕ
    pub accepts : Bool
    pub called : CalledAs desk who codec (call.Encode (handed_of number accepts lent)) a b r

  -- The result of a take that found this output: its entry stands where that says, and the codec showed the output with that
  -- number. What the thread made is settled, and it named nothing else.
  pub record TookAs (desk : Desk C) (who : Who) (codec place number : ℕ) (u : output.Unit) (a b : Seats C) : Type 0 where
    pub settled : Settled desk a b
    pub calls : Calls desk (record { codec = codec; place = place; who = who; call = call.Take number } ∷ []) a b
    pub between : IsBetween (result.Unit codec place number) a b
    pub stands : slice_get (at codec (histories_in b.codecs.items)) place ≡ Some (take_entry who number)
    pub shows : (s : Shared) → slice_get desk.codecs.items codec ≡ Some s → output_at s.opening (at codec (histories_in b.codecs.items)) number ≡ Some u
    pub enough : IsEnoughUnit u

  -- The result of a take that found none, by a look at a codec after so many entries.
  pub record TookNone (desk : Desk C) (codec seen : ℕ) (a b : Seats C) : Type 0 where
    pub helped : Helped desk a b
    pub between : IsBetween (result.NoUnit codec seen) a b
    pub shows : (s : Shared) → slice_get desk.codecs.items codec ≡ Some s → NoOutput s.opening (take seen (at codec (histories_in b.codecs.items)))

  -- A step of a caller with these results so far, and with these variables before it and those after it: its deed.
  pub record Acted (s : ScriptData) (media : List (List Chunk)) (desk : Desk C) (rs : List StepResult) (a b : Seats C) (vs after : List (Option Medium)) (d : Deed) : Type 0 where
    pub settled : SettledBy d.who.caller (own_due s media 0 d vs) desk a b
    pub calls : Calls desk (calls_by d) a b
    pub variables : after ≡ after_deed s media d vs
    pub between : IsBetween d.result a b
    pub is : IsDeed s media (histories_in b.codecs.items) rs vs d

  -- What a step of a caller with these results so far came to, with these variables before it and those after it.
  pub record Did (s : ScriptData) (media : List (List Chunk)) (desk : Desk C) (who : Who) (x : Step) (rs : List StepResult) (a b : Seats C) (vs after : List (Option Medium)) (r : StepResult) : Type 0 where
    pub deed : Deed
    pub who_is : deed.who ≡ who
    pub step_is : deed.step ≡ x
    pub result_is : deed.result ≡ r
    pub acted : Acted s media desk rs a b vs after deed

  -- The same, with its passes of the ports before it and those after it. It began at one time, and its own is the other.
  pub record DidAtPorts (s : ScriptData) (media : List (List Chunk)) (desk : Desk C) (who : Who) (x : Step) (rs : List StepResult) (a b : Seats C) (vs after : List (Option Medium)) (ps qs : List (PortPass WholeParcel)) (early late : ℕ) (r : StepResult) : Type 0 where
    pub did : Did s media desk who x rs a b vs after r
    pub ports : ActsAtPorts did.deed vs ps qs
    pub later : early ≤ late
    pub time : did.deed.time ≡ late

  -- What a caller did with its first steps, these being its results, this what its variables hold and these its passes of the ports:
  -- its deeds, in order, and what they call for.
  pub record HasDone (s : ScriptData) (media : List (List Chunk)) (desk : Desk C) (c : ℕ) (rs : List StepResult) (a b : Seats C) (vs : List (Option Medium)) (ps : List (PortPass WholeParcel)) : Type 0 where
    pub deeds : List Deed
    pub results : rs ≡ results_of deeds
    pub variables : vs ≡ variables_after s media deeds
    pub are : AreDeeds s media c (histories_in b.codecs.items) deeds
    pub settled : SettledBy c (owns_of s media deeds) desk a b
    pub calls : Calls desk (calls_of deeds) a b
    pub ports : KnowPorts s media deeds ps

-- the flush that is the step with this number was made, as an entry of this codec at this place
abbrev pub HasFlushed : List StepResult → ℕ → ℕ → ℕ → Type 0
HasFlushed rs j k p = (error : Option DomError) × (slice_get rs j ≡ Some (result.Call k p error))

abbrev pub IsFlushed : List StepResult → ℕ → Type 0
IsFlushed rs j = (k : ℕ) × (p : ℕ) × HasFlushed rs j k p

-- where a step looks at a promise, it is of a flush that was made, of one of so many codecs
abbrev pub IsPromised : ℕ → List StepResult → Option Variable → Type 0
IsPromised n rs None = Unit {0}
IsPromised n rs (Some promise) = (k : ℕ) × (p : ℕ) × (k < n) × HasFlushed rs promise.step k p

-- where a step names a codec, it is one of so many
abbrev pub NamesWithin : ℕ → Step → Type 0
NamesWithin n x = IfSome (names_codec x) (λ k. k < n)
