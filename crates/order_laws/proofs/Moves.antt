-- What stands of a course of a sound script stands after each item of its order.
use Rattle.std.proofs.Common.{ℕ, zero, suc, is_some, ◌≡◌, ◌≤◌, ◌<◌, ◌==◌, ◌&&◌, ◌⊎◌, ◌++◌, inl, inr, Bool, true, false, not, if◌then◌else◌, eq-eqb, List, [], ◌∷◌, take, drop, length, length-append, map, Option, Some, None, refl, ap, sym, subst, ◌∙◌, arith, append-nil, rules}
use Rattle.std.proofs.Math.Seq.{take-length}
use Rattle.std.specs.Prelude.{slice_get, slice_set, unwrap_or, option_map, option_and_then}
use Rattle.std.specs.List.{sum_by}
use Rattle.std.proofs.lemmas.Bool.{cases_eq, cases_lt, ne_eqb}
use Rattle.std.proofs.lemmas.List.{map-append, length-map}
use Rattle.std.proofs.lemmas.Option.{slice_get_past, slice_get_within, cond_some}
use Rattle.wc_base.specs.{Options.some_same, declared.error.DomError.DomError, declared.who.Who.Who}
use Rattle.wc_pool.specs.{declared.entry.PoolEntry.PoolEntry, Laws.LiveAreNumbered}
use Rattle.wc_pool.specs.Bag.{resource_of, is_number, is_live, references_made, references_of, count_below, is_held, is_legal_pool}
use Rattle.codec_model.specs.declared.entry.MediaShape.{MediaShape}
use Rattle.wc_config.specs.declared.codec.CoderId.{CoderId}
use Rattle.slot_registry.specs.Slots.{SlotsValue}
use Rattle.wc_chunk.specs.declared.chunk.Chunk.{Chunk}
use Rattle.codec_definitions.specs.declared.unit.Unit as output
use Rattle.codec_definitions.specs.declared.unit.Unit.TheVariants as unit
use Rattle.codec_model.specs.declared.entry.{Pair.Pair, Opening.Opening, Call.Call, Entry.Entry, Item.Item, Running.Running, Task.Task}
use Rattle.codec_model.specs.{Control.Control, Control.start_item, Control.may_reclaim, Held.HeldStays, StepLaws.turn_made}
use Rattle.codec_model.specs.Replay.{State, step as entry_step, call_error, may_call, may_hand, is_configured, answer_to}
use Rattle.codec_model.specs.Shown.{call_shows, shows, shown, outputs_of, exception_of}
use Rattle.history_laws.specs.CountLaws.{shown_counted}
use Rattle.codec_accounts.specs.{Owed.at, Owed.append_at, StartLaws.EndFits}
use Rattle.codec_accounts.specs.ListLaws.{append_at_length, at_same, at_other, at_grows, get_some, get_end, result_kept, result_new, result_more}
use Rattle.codec_accounts.specs.Calls.{who_of, Mark, Climbs, reach, named, call_in}
use Rattle.codec_accounts.specs.Calls as mark
use Rattle.codec_accounts.specs.CallsLaws.{names_call, named_more, calls_in_more, climbs_on, climbs_add, MayClimb}
use Rattle.codec_accounts.specs.Codec.{CodecValue, after_entry, new_codec, state_after, state_of, codec_at, histories}
use Rattle.codec_accounts.specs.AccountLaws.{Accounted, EntryFits, accounted_more, history_at, set_count}
use Rattle.script_types.specs.declared.{script.OrderItem.OrderItem, script.ScriptData.ScriptData, steps.Step.Step, steps.MediaStep.MediaStep, steps.Variable.Variable, steps.VariableKind.VariableKind}
use Rattle.report_text.specs.declared.result.StepResult.{StepResult}
use Rattle.run_model.specs.Fits.{refusal_in}
use Rattle.media_variables.specs.Held.{held_by, reference_at}
use Rattle.media_variables.specs.Variables.{Reference, Shape, SoundOf, PictureOf, ChunkOf, BufferOf, Medium, Media, Numbers, Came, Received, Brought, Lendable, medium_at, after_came, only_answers, if_there, if_held, post_held, posted_from, received_came, lendable_in, lendable_at, handed_by, next_numbers, media_came, taken_came, unit_came, variables_of}
use Rattle.media_accounts.specs.Accounts.{media_of, Lending, AreLent, MayTakeIn, OneMore, IsQuiet, MediaStand, StepStands, NothingStands, StepsStand, OthersStand, LaterStand, LaterStands, EntryStands, EntriesStand}
use Rattle.run_model.specs.Recorded.{Recorded, opening_at, promise_after, steps_of, chunk_for, source_error, output_at, copied_chunk}
use Rattle.run_model.specs.Follow.{Course, record_of, with_result, with_entry, Move, Answer, Ask, Handle, Receive, Post, Get, after_move, received_after, waiting_at, post_move, item_move, follow_item, handle_move, take_move, outcome_for, end_of, turn_on, item_entry, advance, call_move, encode_of, result_of, look_of_state, step_move, next_move}
use Rattle.run_model.specs.Fits.{received_by, port_posted, port_received, medium_posted, result_in, entry_in, step_in, exception_at, mark_of, marks_of, taken_by, brought_to, made_steps, came_at, variables_at, IsResultOf, LookShows, IsLocalAnswer, HasArguments, ArgumentsAreIn, MarksClimb}
use Rattle.script_types.specs.{Names.called, Names.taken_from, Names.looked_at, Names.IsFlush, SoundLaws.called_is_named}
use Rattle.order_laws.specs.Sound.{IsSound}
use Rattle.order_laws.specs.Course.{held_by_holders, held_by_all}
use Rattle.order_laws.specs.SoundSteps.{stands_in}
use Rattle.order_laws.proofs.Entries.{Steps, some_is, MayBeRefused, shown_last, take_legal, start_legal, done_legal, opened_still, call_fits, history_there, entries_new, longer_history, made_stays, same_history, this_history, lending_of, MayAddAll, entry_more, nobody_adds}
use Rattle.order_laws.proofs.Grown.{Legals, Grows, SameMedia, variables_stay, IsFound, ResultFits, taken_as, brought, output_stays, brought_stays, result_stays}
use Rattle.order_laws.proofs.Answers.{IsOwn, own_facts, media_own}
use Rattle.order_laws.proofs.Ports.{PortsStand, OneStep, ports_stay, ports_next, UsesNone, names_none, rests, puts_in, takes_out}
use Rattle.order_laws.proofs.PortMedia.{lent_without, may_take, free_without, lent_posted}

-- the laws of media
pub record MediaLaws : Type 0 where
  pub nothing : NothingStands
  pub media : StepsStand
  pub others : OthersStand
  pub later : LaterStand
  pub codecs : EntriesStand
  pub held : HeldStays
  pub numbered : LiveAreNumbered

-- what steps received, by caller and step
abbrev pub Got : Type 0
Got = ℕ → ℕ → Option Received

-- what stands of all media of a course
abbrev pub MediaAt : ScriptData → List (List Chunk) → Got → Course → Type 0
MediaAt s media got v = MediaStand (steps_of s) (brought_to s media (record_of got v)) (lending_of s v) (made_steps (record_of got v)) (length s.callers) v.media

-- What stands of codecs and of their registry.
pub record CodecsStand (s : ScriptData) (made : List CoderId) (codecs : List CodecValue) (slots : SlotsValue) : Type 0 where
  pub count : length codecs ≡ length s.codecs
  pub opened : (k : ℕ) → (codec_at k codecs).opening ≡ opening_at s k
  pub same_made : slots.made ≡ made
  pub boxes : Accounted codecs slots

-- What stands of a course that followed a script's order so far.
pub record Stands (s : ScriptData) (media : List (List Chunk)) (made : List CoderId) (got : Got) (v : Course) : Type 0 where
  pub callers : length v.callers ≡ length s.callers
  pub codecs : CodecsStand s made v.codecs v.slots
  pub results : (c j : ℕ) (r : StepResult) → result_in (record_of got v) c j ≡ Some r → ResultFits s media (record_of got v) c j r
  pub arguments : ArgumentsAreIn s media (record_of got v)
  pub once : (k : ℕ) → mark.CallsAreIn k (at k (histories v.codecs)) (marks_of (record_of got v))
  pub climbs : MarksClimb (record_of got v)
  pub stand : MediaAt s media got v
  pub ports : PortsStand s media (record_of got v) v.ports

-- ---- results and marks

marks_append : (c : ℕ) (r : StepResult) (ls : List (List StepResult)) → map (λ rs. map mark_of rs) (append_at c r ls) ≡ append_at c (mark_of r) (map (λ rs. map mark_of rs) ls)
marks_append c r [] = refl
marks_append zero r (l ∷ ls) = ap (λ (x : List Mark). x ∷ map (λ rs. map mark_of rs) ls) (map-append mark_of l (r ∷ []))
marks_append (suc c) r (l ∷ ls) = ap (λ (m : List (List Mark)). map mark_of l ∷ m) (marks_append c r ls)

marks_long : (c : ℕ) (ls : List (List StepResult)) → length (at c (map (λ rs. map mark_of rs) ls)) ≡ length (at c ls)
marks_long c [] = refl
marks_long zero (l ∷ ls) = length-map l mark_of
marks_long (suc c) (l ∷ ls) = marks_long c ls

-- ---- the next step of a caller

abbrev pub next_who : Course → ℕ → Who
next_who v c = record { caller = c; step = length (at c v.callers) }

-- the place at which a caller's entry stands, and the results of a call and of a take of this output
abbrev pub next_place : Course → ℕ → ℕ
next_place v k = length (codec_at k v.codecs).history

abbrev call_result : Course → ℕ → Option DomError → StepResult
call_result v k error = StepResult.Call k (next_place v k) error

abbrev pub take_result : Course → ℕ → ℕ → StepResult
take_result v k n = StepResult.Unit k (next_place v k) n

-- the variables of its caller's media before it, as a course that goes on has them, are those of the course
abbrev pub SameBefore : ScriptData → List (List Chunk) → Course → Recorded → ℕ → Type 0
SameBefore s media v w c = variables_at s media w c (length (at c v.callers)) ≡ variables_of c v.media.variables

-- what a result of a caller says of each codec begins where its history ended, and names the entry that is new
abbrev pub IsMarked : Course → Course → ℕ → StepResult → Type 0
IsMarked v u c r = (k : ℕ) → MayClimb (reach k (mark_of r)) (length (at k (histories v.codecs))) (length (at k (histories u.codecs)))
    × (named (at k (histories u.codecs)) ≡ named (at k (histories v.codecs)) ++ call_in k (next_who v c) (mark_of r))

pub local_marked : (v : Course) (c : ℕ) (r : StepResult) → IsOwn r → IsMarked v v c r
local_marked v c r own k = rw own (omega arith, sym (append-nil (named (at k (histories v.codecs)))))

-- a result whose entry is the codec's next, and names the caller's next step
call_marked : (v : Course) (c k : ℕ) (e : Entry) (r : StepResult) → k < length v.codecs → who_of e ≡ Some (next_who v c) → mark_of r ≡ mark.Call k (next_place v k) → IsMarked v (with_entry k e v) c r
call_marked v c k e r lt names marks n = rw marks (elim (cases_eq n k) [
  | inr other ↦ rw (ne_eqb k n (λ h. other (sym h)), same_history v k n e other) (omega arith, sym (append-nil (named (at n (histories v.codecs)))))
  | inl same ↦ (
      let here = at k (histories v.codecs) in
      let l = length-append here (e ∷ []) in
      let long = history_there v k in
      rw (same, eq-eqb k k refl, this_history v k e lt) ((omega (arith, long), omega (arith, long, l)), named_more here e ∙ rw (names, long) refl)
      )
])

-- a call has what its caller's step gives
abbrev HasStep : ScriptData → List (List Chunk) → Recorded → Who → Call → Type 0
HasStep s media w who x = (y : Step) × (step_in s who.caller who.step ≡ Some y) × HasArguments s media (variables_at s media w who.caller who.step) who.caller x y

-- ---- what grows

-- one result more, with these media
abbrev told_by : ℕ → StepResult → Media → Course → Course
told_by c r m v = record (with_result c r v) { media = m }

result_grows : (got : Got) (v : Course) (c : ℕ) (r : StepResult) (m : Media) → Grows (record_of got v) (record_of got (told_by c r m v))
result_grows got v c r m = record { stays = λ b j q h. result_kept b c j r q v.callers h; received = λ b j lt. refl; more = λ k. ([], sym (append-nil (at k (histories v.codecs)))) }

-- one entry more, and the result of its caller
both_grow : (got : Got) (v : Course) (c k : ℕ) (e : Entry) (r : StepResult) (m : Media) → Grows (record_of got v) (record_of got (told_by c r m (with_entry k e v)))
both_grow got v c k e r m = record { stays = λ b j q h. result_kept b c j r q v.callers h; received = λ b j lt. refl; more = λ n. longer_history v k n e }

-- one caller has one result more
one_more : (got now : Got) (v u : Course) (c : ℕ) (r : StepResult) → u.callers ≡ append_at c r v.callers → c < length v.callers → OneMore (made_steps (record_of got v)) (made_steps (record_of now u)) c
one_more got now v u c r callers lt = record {
  here = rw (callers, at_same c r v.callers lt) (let n = length-append (at c v.callers) (r ∷ []) in omega (arith, n));
  others = λ d other. rw (callers, at_other d c r v.callers other) refl;
}

-- ---- quiet steps

-- a step that is none on media is quiet
pub none_quiet : (s : ScriptData) (brought : ℕ → ℕ → MediaStep → Brought) (c j : ℕ) → option_and_then media_of (step_in s c j) ≡ None → IsQuiet (steps_of s) brought c j
none_quiet s brought c j none x pool vs is = absurd (let bad : None ≡ Some x = sym none ∙ is in cc)

-- a step that calls a codec is quiet: it is none on media, or one that encodes
pub call_quiet : (s : ScriptData) (brought : ℕ → ℕ → MediaStep → Brought) (c j k : ℕ) (x : Step) → step_in s c j ≡ Some x → called x ≡ Some k → IsQuiet (steps_of s) brought c j
call_quiet s brought c j k (Step.Media (MediaStep.Encode on content)) is h = λ y pool vs named. (
    let same = some_same (MediaStep.Encode on content) y (sym (ap (option_and_then media_of) is) ∙ named) in rw (sym same) refl
    )
call_quiet s brought c j k (Step.Media x) is h = absurd cc
call_quiet s brought c j k x is h = none_quiet s brought c j (ap (option_and_then media_of) is)

-- a call's result is no take, and no look, and absent from nothing
no_look : (s : ScriptData) (media : List (List Chunk)) (w : Recorded) (c k p : ℕ) (x : Step) (error : Option DomError) → called x ≡ Some k
    → (taken_from x ≡ None) × LookShows s w c x (StepResult.Call k p error) × ((vs : List (Option Medium)) (o : Option Came) → IsLocalAnswer s media vs o c x (StepResult.Call k p error))
no_look s media w c k p (Step.Media (MediaStep.Encode on content)) error h = (refl, tt, λ vs o. tt)
no_look s media w c k p x error h = search rules

unit_answer : (numbers : Numbers) (j : ℕ) (r : StepResult) (u : output.Unit) (vs : List (Option Medium)) → (unit_came numbers j r u vs).answer ≡ r
unit_answer numbers j r (unit.Sound samples) vs = refl
unit_answer numbers j r u vs = refl

-- the caller's next step
abbrev IsNext : ScriptData → Course → ℕ → Step → Type 0
IsNext s v c x = step_in s c (length (at c v.callers)) ≡ Some x

-- a legal entry has a state after it
legal_after : (e : Entry) (t : State) → Steps e t → (u : State) × (entry_step e t ≡ Some u)
legal_after e t steps = (unwrap_or (entry_step e t) t, some_is (entry_step e t) t steps)

-- ---- calls

-- a call's exception is what it shows
exception_shown : (x : Call) (place : ℕ) (pending : List ℕ) (o : Option DomError) → exception_of x o ≡ refusal_in (call_shows x place pending o)
exception_shown Call.Reset place (p ∷ ps) None = refl
exception_shown Call.Close place (p ∷ ps) None = refl
exception_shown x place pending None = refl
exception_shown Call.Flush place pending (Some error) = refl
exception_shown x place pending (Some error) = refl

-- ---- looks

-- the earlier flush came to a call
flush_came : (s : ScriptData) (media : List (List Chunk)) (w : Recorded) (who : Who) (vs : List (Option Medium)) (o : Option Came) (c : ℕ) (y : Step) (r : StepResult) → IsFlush y → IsResultOf s w who y r → IsLocalAnswer s media vs o c y r → (k : ℕ) × (p : ℕ) × (error : Option DomError) × (r ≡ StepResult.Call k p error)
flush_came s media w who vs o c (Step.Flush on bind) (StepResult.Call k p error) flush made answers = (k, p, error, refl)
flush_came s media w who vs o c x r flush made answers = absurd (search rules)

-- what a look sees of a codec's whole history
all_there : {X : Type 0} (F : Opening → List Entry → X) (s : ScriptData) (media : List (List Chunk)) (made : List CoderId) (got : Got) (v : Course) (k : ℕ) → Stands s media made got v
    → F (codec_at k v.codecs).opening (codec_at k v.codecs).history ≡ F (opening_at s k) (take (length (codec_at k v.codecs).history) (at k (histories v.codecs)))
all_there F s media made got v k st = rw (history_at k v.codecs, take-length (codec_at k v.codecs).history, sym (st.codecs.opened k)) refl

-- a look at a codec sees its whole history
look_marked : (v : Course) (c k : ℕ) (r : StepResult) → mark_of r ≡ mark.Look k (length (codec_at k v.codecs).history) → IsMarked v v c r
look_marked v c k r is n = rw is (elim (cases_eq n k) [
  | inr other ↦ rw (ne_eqb k n (λ e. other (sym e))) (omega arith, sym (append-nil (named (at n (histories v.codecs)))))
  | inl same ↦ (let h = history_there v k in rw (same, eq-eqb k k refl) ((omega (arith, h), omega (arith, h)), sym (append-nil (named (at k (histories v.codecs))))))
])

-- what a look at a promise comes to
abbrev look_at : Course → ℕ → ℕ → StepResult
look_at v k p = let d = codec_at k v.codecs in StepResult.Look k (length d.history) (promise_after d.opening d.history p)

-- ---- encodes

-- what stands behind a value that was mapped
mapped : {X Y : Type 0} (f : X → Y) (o : Option X) (y : Y) → option_map f o ≡ Some y → (x : X) × (o ≡ Some x) × (f x ≡ y)
mapped f None y is = absurd cc
mapped f (Some x) y is = (x, refl, some_same (f x) y is)

only_one : {X : Type 0} (x : X) (i : ℕ) (p : X) → slice_get (x ∷ []) i ≡ Some p → p ≡ x
only_one x zero p is = cc
only_one x (suc i) p is = absurd cc

-- what is handed over may be where it tells whether the codec is configured, and a clone adds a reference to what is held
handed_may : (pool : List PoolEntry) (who : Who) (shape : MediaShape) (held : Option Reference) (c : Control) (b : Bool) → is_configured c ≡ b → ((r : Reference) → held ≡ Some r → is_held r.resource pool ≡ true)
    → let h = handed_by (references_made pool) b shape held in (may_hand h c ≡ true) × MayAddAll pool (Entry.Call who (Call.Encode h))
handed_may pool who shape None c b is lives = (refl, λ i p at. absurd cc)
handed_may pool who shape (Some r) c false is lives = (rw is refl, λ i p at. absurd cc)
handed_may pool who shape (Some r) c true is lives = (is, λ i p at. rw (only_one (record { resource = r.resource; reference = references_made pool }) i p at) (lives r refl, refl))

-- the reference of what an encode is given is that of its variable
lendable_held : (m : Option Medium) (x : Lendable) (r : Reference) → option_and_then lendable_in m ≡ Some x → x.held ≡ Some r → held_by m ≡ Some r
lendable_held None x r is holds = absurd cc
lendable_held (Some m) x r is holds = by_shape m.shape m.held is
  where
    same_held : (shape : MediaShape) (held : Option Reference) → ◌≡◌ {A = Option Lendable} (Some (record { shape = shape; held = held })) (Some x) → held ≡ Some r
    same_held shape held is = (let y : Lendable = record { shape = shape; held = held } in ap (λ (z : Lendable). z.held) (some_same y x is) ∙ holds)

    by_shape : (shape : Shape) (held : Option Reference) → lendable_in (record { shape = shape; held = held }) ≡ Some x → held ≡ Some r
    by_shape (SoundOf shape) held is = same_held (MediaShape.Sound shape) held is
    by_shape (PictureOf shape) held is = same_held (MediaShape.Image shape) held is
    by_shape (ChunkOf chunk) held is = absurd cc
    by_shape BufferOf held is = absurd cc

abbrev one_if : Bool → ℕ
one_if b = if b then 1 else 0

-- some number passes
count_some : (p : ℕ → Bool) (n i : ℕ) → i < n → p i ≡ true → 1 ≤ count_below p n
count_some p zero i lt is = absurd (omega (arith, lt))
count_some p (suc n) i lt is = elim (cases_eq i n) [
  | inl same ↦ (let here = ap one_if (ap p (sym same) ∙ is) in omega (arith, here))
  | inr other ↦ (let rest = count_some p n i (omega (arith, lt, other)) is in omega (arith, rest))
]

-- a resource with a live reference is held
live_held : LiveAreNumbered → (pool : List PoolEntry) (number resource : ℕ) → is_legal_pool pool ≡ true → resource_of number pool ≡ Some resource → is_held resource pool ≡ true
live_held numbered pool number resource legal lives =
    let some = count_some (λ f. is_live resource f pool) (references_made pool) number (numbered pool number resource legal lives).0 (ap (λ (o : Option ℕ). is_number o resource) lives ∙ eq-eqb resource resource refl) in
    ap not (ne_eqb (references_of resource pool) 0 (λ e. omega (arith, some, e)))

-- ---- entries of no caller

-- an entry that an item makes is legal there, of no caller, and says how its start's acquire went
record Own (d : CodecValue) (e : Entry) : Type 0 where
  legal : Steps e (state_of d)
  nobody : who_of e ≡ None
  fits : EntryFits e d.holding.refusal

end_says : (wants : Bool) (refusal : Option ℕ) (answer : Option (List output.Unit)) → EndFits refusal (outcome_for wants refusal answer)
end_says false None (Some units) = refl
end_says wants refusal answer = search rules

turn_own : (d : CodecValue) (ts : List Task) (e : Entry) → (state_of d).control.tasks ≡ ts → turn_on ts ≡ Some e → Own d e
turn_own d [] e is made = absurd cc
turn_own d (x ∷ ts) e is made = subst (Own d) (some_same Entry.Turn e made) (record { legal = ap is_some (turn_made x ts (state_of d) is); nobody = refl; fits = tt })

-- ---- steps on media, and what holders hold

-- a step of a caller came to this, and its ports hold this
abbrev own_after : Course → ℕ → Came → List (List Received) → Course
own_after v c y ports = record v { callers = append_at c y.answer v.callers; media = after_came (next_who v c) y v.media; ports = ports }

abbrev lent_to : Lending → (ℕ → List Pair) → Lending
lent_to codecs holds = record { lends = codecs.lends; holds = holds }

holds_this : (steps : ℕ → List Step) (brought : ℕ → ℕ → MediaStep → Brought) (codecs : Lending) (made : ℕ → ℕ) (callers : ℕ) (m : Media) (holds : ℕ → List Pair) → MediaStand steps brought codecs made callers m → AreLent m.pool m.variables holds
    → MediaStand steps brought (lent_to codecs holds) made callers m
holds_this steps brought codecs made callers m holds st lent = record { accounted = st.accounted; variables = st.variables; held = st.held; lent = lent; there = st.there }

-- ---- what one step received

chosen_here : {X : Type 0} (c n : ℕ) (x y : X) → (if (c == c) && (n == n) then x else y) ≡ x
chosen_here c n x y = rw (eq-eqb c c refl, eq-eqb n n refl) refl

chosen_else : {X : Type 0} (b j c n : ℕ) (x y : X) → ((b ≡ c) → (j ≡ n) → ⊥) → (if (b == c) && (j == n) then x else y) ≡ y
chosen_else b j c n x y other = elim (cases_eq b c) [
  | inr apart ↦ rw (ne_eqb b c apart) refl
  | inl same ↦ elim (cases_eq j n) [ inr apart ↦ rw (eq-eqb b c same, ne_eqb j n apart) refl | inl too ↦ absurd (other same too) ]
]

chosen_or : {X : Type 0} (b j c n : ℕ) (x y : Option X) (p : X) → (if (b == c) && (j == n) then x else y) ≡ Some p → (y ≡ Some p) ⊎ ((b ≡ c) × (j ≡ n) × (x ≡ Some p))
chosen_or {X} b j c n x y p is = elim (cases_eq b c) [
  | inr apart ↦ inl (sym (chosen_else {X = Option X} b j c n x y (λ same too. apart same)) ∙ is)
  | inl same ↦ elim (cases_eq j n) [
    | inr apart ↦ inl (sym (chosen_else {X = Option X} b j c n x y (λ equal too. apart too)) ∙ is)
    | inl too ↦ (let chosen : (if (b == c) && (j == n) then x else y) ≡ x = rw (eq-eqb b c same, eq-eqb j n too) refl in inr (same, too, sym chosen ∙ is))
  ]
]

-- a receive that gets nothing says so
nothing_waits : (n : ℕ) (o : Option Received) (vs : List (Option Medium)) → (received_came n o vs).answer ≡ StepResult.Nothing → o ≡ None
nothing_waits n None vs is = refl
nothing_waits n (Some p) vs is = absurd cc

-- ---- each kind of move, of a course of which this stands

module _ (laws : MediaLaws) (s : ScriptData) (media : List (List Chunk)) (made : List CoderId) (got : Got) (v : Course) (st : Stands s media made got v) where
  -- a codec's history, as the script opened it
  pub legals : Legals s (record_of got v)
  legals k = rw (history_at k v.codecs, sym (st.codecs.opened k)) (ap is_some (st.codecs.boxes.each k).replays)

  -- what is brought to each step that was made is so still
  later_stands : (w : Recorded) → Grows (record_of got v) w → LaterStands (steps_of s) (brought_to s media (record_of got v)) (brought_to s media w) (lending_of s v) (made_steps (record_of got v)) (length s.callers) v.media
  later_stands w g = laws.later _ _ _ _ _ _ _ st.stand (brought_stays s (record_of got v) w g media (λ c j r is. (st.results c j r is).found))

  -- the variables of a caller before its next step are those of the course
  same_before : (w : Recorded) (c : ℕ) → SameMedia s media (record_of got v) w → SameBefore s media v w c
  same_before w c told = variables_stay s media (record_of got v) w c (length (at c v.callers)) told (omega arith) ∙ sym (st.stand.variables c)

  -- a call has what its step gives still; its caller made that step
  arguments_stay : (w : Recorded) → SameMedia s media (record_of got v) w → (k p : ℕ) (who : Who) (x : Call) → entry_in (record_of got v) k p ≡ Some (Entry.Call who x) → HasStep s media w who x
  arguments_stay w told k p who x is =
      let had = st.arguments k p who x is in
      let marks = marks_of (record_of got v) in
      let lt = slice_get_within (at who.caller marks) who.step (mark.Call k p) (names_call k (at k (histories v.codecs)) marks p (Entry.Call who x) who (st.once k) is refl) in
      let long = marks_long who.caller v.callers in
      (had.0, had.1, rw (variables_stay s media (record_of got v) w who.caller who.step told (omega (arith, lt, long))) had.2)

  -- what the results say climbs still where only histories go on
  climbs_still : (w : Recorded) → Grows (record_of got v) w → (c k : ℕ) → Climbs k 0 (map mark_of (at c v.callers)) (length (at k w.codecs))
  climbs_still w g c k =
      let m = g.more k in
      let l = ap length m.1 in
      let a = length-append (at k (histories v.codecs)) m.0 in
      climbs_on k 0 (map mark_of (at c v.callers)) (length (at k (histories v.codecs))) (length (at k w.codecs)) (omega (arith, l, a)) (st.climbs c k)

  -- ---- a result of a caller that is there

  module _ (c : ℕ) (caller : c < length v.callers) where
    -- the step of this caller, with its result and with what it received
    one_step : (now : Got) (u : Course) (r : StepResult) (o : Option Received) → u.callers ≡ append_at c r v.callers → SameMedia s media (record_of got v) (record_of now u) → ((b j : ℕ) (p : Received) → got b j ≡ Some p → now b j ≡ Some p)
        → ((b j : ℕ) (p : Received) → now b j ≡ Some p → (got b j ≡ Some p) ⊎ ((b ≡ c) × (j ≡ length (at c v.callers)) × (o ≡ Some p))) → OneStep s media (record_of got v) (record_of now u) c (length (at c v.callers)) r o
    one_step now u r o callers told still received = record {
      made = refl;
      more = λ b. (let g = at_grows b c r v.callers in let l = ap length (ap (at b) callers ∙ g.1) in let a = length-append (at b v.callers) g.0 in omega (arith, l, a));
      here = (let l = ap length (ap (at c) callers ∙ at_same c r v.callers caller) in let a = length-append (at c v.callers) (r ∷ []) in omega (arith, l, a));
      kept = λ b j q is. ap (λ (ls : List (List StepResult)). slice_get (at b ls) j) callers ∙ result_kept b c j r q v.callers is;
      results = λ b j q is. elim (result_more b c j r q v.callers (ap (λ (ls : List (List StepResult)). slice_get (at b ls) j) (sym callers) ∙ is)) [
        | inl was ↦ inl was
        | inr new ↦ inr (new.number, new.place ∙ ap (λ (m : ℕ). length (at m v.callers)) new.number, new.value)
      ];
      still = still;
      received = received;
      variables = λ b j q is. variables_stay s media (record_of got v) (record_of now u) b j told (let lt = slice_get_within (at b v.callers) j q is in omega (arith, lt));
    }

    -- the ports, where the step uses none
    ports_rest : (u : Course) (r : StepResult) → u.callers ≡ append_at c r v.callers → SameMedia s media (record_of got v) (record_of got u) → UsesNone s c (length (at c v.callers)) r → PortsStand s media (record_of got u) v.ports
    ports_rest u r callers told none =
        ports_next s media (record_of got v) (record_of got u) c (length (at c v.callers)) r None v.ports v.ports st.ports
        (one_step got u r None callers told (λ b j p is. is) (λ b j p is. inl is)) (rests s media (record_of got u) c (length (at c v.callers)) r v.ports none)

    -- what stands after it
    told_stands : (now : Got) (u : Course) (r : StepResult) → u.callers ≡ append_at c r v.callers → Grows (record_of got v) (record_of now u) → IsMarked v u c r → CodecsStand s made u.codecs u.slots → SameMedia s media (record_of got v) (record_of now u)
        → ArgumentsAreIn s media (record_of now u) → ResultFits s media (record_of now u) c (length (at c v.callers)) r → MediaAt s media now u → PortsStand s media (record_of now u) u.ports → Stands s media made now u
    told_stands now u r callers g marked codecs told arguments fits stand ports = record {
      callers = ap length callers ∙ (append_at_length c r v.callers ∙ st.callers);
      codecs = codecs;
      results = λ b j q is. elim (result_more b c j r q v.callers (ap (λ (ls : List (List StepResult)). slice_get (at b ls) j) (sym callers) ∙ is)) [
        | inl was ↦ result_stays s (record_of got v) (record_of now u) g media legals st.climbs told b j q was (st.results b j q was)
        | inr new ↦ rw (new.place, new.value, new.number) fits
      ];
      arguments = arguments;
      once = λ k. (
          let m = g.more k in
          let here = at k (histories v.codecs) in
          let marks = marks_of (record_of got v) in
          let there : c < length marks = (let n = length-map v.callers (λ rs. map mark_of rs) in omega (arith, caller, n)) in
          let same : named (here ++ m.0) ≡ named here ++ call_in k (record { caller = c; step = length (at c marks) }) (mark_of r) = rw (marks_long c v.callers, sym m.1) (marked k).1 in
          rw (callers, marks_append c r v.callers, m.1) (calls_in_more k c (mark_of r) marks here m.0 there (st.once k) (λ t. ap (sum_by t) same))
          );
      climbs = λ b k. elim (cases_eq b c) [
        | inr other ↦ rw (callers, at_other b c r v.callers other) (climbs_still (record_of now u) g b k)
        | inl same ↦ rw (same, callers, at_same c r v.callers caller, map-append mark_of (at c v.callers) (r ∷ [])) (climbs_add k 0 (map mark_of (at c v.callers)) (length (at k (histories v.codecs))) (mark_of r) (length (at k (histories u.codecs))) (st.climbs c k) (marked k).0)
      ];
      stand = stand;
      ports = ports;
    }

    -- and without an entry, with these media
    result_stands : (r : StepResult) (m : Media) → let u = told_by c r m v in IsMarked v v c r → SameMedia s media (record_of got v) (record_of got u) → ResultFits s media (record_of got u) c (length (at c v.callers)) r → MediaAt s media got u → UsesNone s c (length (at c v.callers)) r → Stands s media made got u
    result_stands r m marked told fits stand none = let u = told_by c r m v in told_stands got u r refl (result_grows got v c r m) marked st.codecs told (arguments_stay (record_of got u) told) fits stand (ports_rest u r refl told none)

    -- of a step that has no part in media
    answer_stands : (r : StepResult) → let w = record_of got (with_result c r v) in IsMarked v v c r → (SameBefore s media v w c → ResultFits s media w c (length (at c v.callers)) r) → IsQuiet (steps_of s) (brought_to s media w) c (length (at c v.callers)) → UsesNone s c (length (at c v.callers)) r → Stands s media made got (with_result c r v)
    answer_stands r marked fits quiet none =
        let u = with_result c r v in
        let later = later_stands (record_of got u) (result_grows got v c r v.media) in
        result_stands r v.media marked later.same (fits (same_before (record_of got u) c later.same)) (laws.others _ _ _ _ _ _ _ c later.stands (one_more got got v u c r refl caller) quiet) none

    -- of a step on media that takes no output, where holders hold this before it, and ports have this after it
    own_stands : (now : Got) (ports : List (List Received)) (holds : ℕ → List Pair) (x : MediaStep) (y : Came) → let u = own_after v c y ports in let w = record_of now u in let received = received_by x (now c (length (at c v.callers))) in
        Grows (record_of got v) w → step_in s c (length (at c v.callers)) ≡ Some (Step.Media x)
        → media_came (next_numbers v.media.pool) (next_who v c) (brought (copied_chunk media (steps_of s c) x) None received) x (variables_of c v.media.variables) ≡ Some y
        → AreLent v.media.pool v.media.variables holds → MayTakeIn v.media holds received → (AreLent u.media.pool u.media.variables holds → AreLent u.media.pool u.media.variables (held_by_all u))
        → (SameMedia s media (record_of got v) w → PortsStand s media w ports) → Stands s media made now u
    own_stands now ports holds x y grows is_step comes lent may after stand =
        let u = own_after v c y ports in
        let w = record_of now u in
        let r = y.answer in
        let chunk = copied_chunk media (steps_of s c) x in
        let received = received_by x (now c (length (at c v.callers))) in
        let vs = variables_at s media w c (length (at c v.callers)) in
        let own : IsOwn r = media_own (next_numbers v.media.pool) (next_who v c) chunk received x (variables_of c v.media.variables) y comes in
        let facts = own_facts s media w (next_numbers v.media.pool) (next_who v c) chunk received vs (variables_of c v.media.variables) y c x r comes own refl in
        let none : taken_by s w (result_in w c (length (at c v.callers))) ≡ None = ap (taken_by s w) (result_new c r v.callers caller) ∙ facts.took in
        let later = later_stands w grows in
        let told : StepStands (steps_of s) (brought_to s media w) (lent_to (lending_of s v) holds) (made_steps (record_of got v)) (made_steps w) (length s.callers) v.media c y =
        laws.media _ _ _ _ _ _ _ c x y (holds_this _ _ _ _ _ _ holds later.stands lent) (rw (sym st.callers) caller) (one_more got now v u c r refl caller) is_step may (rw none comes) in
        let answers = subst (λ (o : Option Came). IsLocalAnswer s media vs o c (Step.Media x) r) (sym told.here) facts.answers in
        let same : SameMedia s media (record_of got v) w = λ d j lt. told.earlier d j lt ∙ later.same d j lt in
        told_stands now u r refl grows (local_marked v c r own) st.codecs same (arguments_stay w same)
        (record { step = Step.Media x; is_step = is_step; made = facts.made; found = facts.found; shows = facts.shows; answers = answers })
        (holds_this _ _ _ _ _ _ (held_by_all u) told.stands (after told.stands.lent)) (stand same)

    -- of one that uses no port
    handled_stands : (x : MediaStep) (y : Came) → step_in s c (length (at c v.callers)) ≡ Some (Step.Media x) → received_by x (got c (length (at c v.callers))) ≡ None
        → media_came (next_numbers v.media.pool) (next_who v c) (brought (copied_chunk media (steps_of s c) x) None None) x (variables_of c v.media.variables) ≡ Some y
        → UsesNone s c (length (at c v.callers)) y.answer → Stands s media made got (after_move (Handle (next_who v c) y) v)
    handled_stands x y is_step nothing comes none =
        own_stands got v.ports (held_by_all v) x y (result_grows got v c y.answer (own_after v c y v.ports).media) is_step (rw nothing comes) st.stand.lent (rw nothing (tt, tt)) (λ lent. lent)
        (λ told. ports_rest (own_after v c y v.ports) y.answer refl told none)

    -- of a post
    posted_stands : (to : ℕ) (content : Variable) (m : Medium) (r : Reference) → let x = MediaStep.Post to content in let y = post_held content.step (Some r) (variables_of c v.media.variables) in
        to < length v.ports → step_in s c (length (at c v.callers)) ≡ Some (Step.Media x) → medium_at (variables_of c v.media.variables) content.step ≡ Some m → m.held ≡ Some r → Stands s media made got (after_move (Post (next_who v c) to (Some m) y) v)
    posted_stands to content m r lt is_step is holds =
        let x = MediaStep.Post to content in
        let before = variables_of c v.media.variables in
        let y = post_held content.step (Some r) before in
        let p : Received = record { poster = next_who v c; medium = m } in
        let u = own_after v c y (append_at to p v.ports) in
        let w = record_of got u in
        let comes = ap (λ (o : Option Medium). Some (if_there o before (λ z. post_held content.step z.held before))) is ∙ ap (λ (h : Option Reference). Some (post_held content.step h before)) holds in
        let reference : reference_at v.media.variables c content.step ≡ Some r = ap held_by is ∙ holds in
        let there : c < length v.media.variables = (let n = st.callers in let l = st.stand.there in omega (arith, n, l, caller)) in
        let posts : posted_from before content.step ≡ Some m = ap (λ (o : Option Medium). option_and_then (λ z. if_held z z.held) o) is ∙ ap (if_held m) holds in
        own_stands got (append_at to p v.ports) (held_by_all v) x y (result_grows got v c y.answer u.media) is_step comes st.stand.lent (tt, tt)
        (lent_posted u.media.pool u.media.variables v.codecs v.ports to p r lt holds (rw (append-nil v.media.pool) (st.stand.held.live c content.step r reference)) (free_without v.media.pool v.media.variables c content.step r there st.stand.held reference)
        (λ k i q at_holder same. (st.stand.lent.apart k).elsewhere i c content.step q r at_holder reference same))
        (λ told. ports_next s media (record_of got v) w c (length (at c v.callers)) y.answer None v.ports (append_at to p v.ports) st.ports (one_step got u y.answer None refl told (λ b j q was. was) (λ b j q was. inl was))
        (puts_in s media w c (length (at c v.callers)) to (Step.Media x) p v.ports lt is_step refl refl refl
        ((result_new c y.answer v.callers caller, ap (option_and_then port_posted) is_step), ap (option_and_then (λ z. medium_posted z (variables_at s media w c (length (at c v.callers))))) is_step ∙ (ap (λ (vs : List (Option Medium)). posted_from vs content.step) (same_before w c told) ∙ posts))))

    -- of a receive
    gotten_stands : (from : ℕ) (bind : List ℕ) (kind : VariableKind) → let y = received_came (length (at c v.callers)) (waiting_at from v) (variables_of c v.media.variables) in let move = Get (next_who v c) from y in
        from < length v.ports → step_in s c (length (at c v.callers)) ≡ Some (Step.Media (MediaStep.Receive from bind kind)) → Stands s media made (received_after move v got) (after_move move v)
    gotten_stands from bind kind lt is_step =
        let x = MediaStep.Receive from bind kind in
        let n = length (at c v.callers) in
        let y = received_came n (waiting_at from v) (variables_of c v.media.variables) in
        let now = received_after (Get (next_who v c) from y) v got in
        let ports = slice_set v.ports from (drop 1 (at from v.ports)) in
        let u = own_after v c y ports in
        let here : now c n ≡ waiting_at from v = chosen_here c n (waiting_at from v) (got c n) in
        let else_was : (b j : ℕ) → j < length (at b v.callers) → now b j ≡ got b j = λ b j within. chosen_else b j c n (waiting_at from v) (got b j) (λ caller_is step_is. (let at_end = ap (λ (m : ℕ). length (at m v.callers)) caller_is in omega (arith, within, at_end, step_is))) in
        let grows : Grows (record_of got v) (record_of now u) = record { stays = λ b j q h. result_kept b c j y.answer q v.callers h; received = else_was; more = λ k. ([], sym (append-nil (at k (histories v.codecs)))) } in
        own_stands now ports (held_by_holders v.codecs ports) x y grows is_step (ap (λ (o : Option Received). Some (received_came n o (variables_of c v.media.variables))) here) (lent_without v.media.pool v.media.variables v.codecs v.ports from lt st.stand.lent)
        (subst (MayTakeIn v.media (held_by_holders v.codecs ports)) (sym here) (may_take v.media v.codecs v.ports from lt st.stand.lent)) (λ lent. lent)
        (λ told. ports_next s media (record_of got v) (record_of now u) c n y.answer (waiting_at from v) v.ports ports st.ports
        (one_step now u y.answer (waiting_at from v) refl told (λ b j p was. else_was b j (st.ports.gets b j p was).0 ∙ was) (λ b j p is. chosen_or b j c n (waiting_at from v) (got b j) p is))
        (takes_out s media (record_of now u) c n from (Step.Media x) y.answer v.ports lt is_step refl refl (nothing_waits n (waiting_at from v) (variables_of c v.media.variables)) (λ p is. here ∙ is)))

  -- ---- an entry of a codec that is there, with its state after it

  module _ (k : ℕ) (e : Entry) (t : State) (codec : k < length v.codecs) (steps : entry_step e (state_of (codec_at k v.codecs)) ≡ Some t) where
    -- what stands of the codecs
    codecs_more : EntryFits e (codec_at k v.codecs).holding.refusal → CodecsStand s made (with_entry k e v).codecs (with_entry k e v).slots
    codecs_more fits = record {
      count = set_count k (after_entry k e v.slots (codec_at k v.codecs)) v.codecs ∙ st.codecs.count;
      opened = λ j. opened_still v k j e codec ∙ st.codecs.opened j;
      same_made = made_stays v k e ∙ st.codecs.same_made;
      boxes = accounted_more v.codecs v.slots k e t st.codecs.boxes codec steps fits;
    }

    -- all media stand, where the course goes on to u
    entry_stands : (u : Course) → MayAddAll v.media.pool e → Grows (record_of got v) (record_of got u)
        → EntryStands (steps_of s) (brought_to s media (record_of got u)) (lending_of s (with_entry k e v)) (made_steps (record_of got v)) (length s.callers) k (next_place v k) e (state_of (codec_at k v.codecs)) v.media
    entry_stands u may g = laws.codecs _ _ _ _ _ _ _ _ _ _ _ (later_stands (record_of got u) g).stands (entry_more laws.held s v k e t codec (st.codecs.opened k) (st.codecs.boxes.each k).replays steps may)

    -- calls have what their steps give still, where this entry has
    entry_arguments : (u : Course) → u.codecs ≡ (with_entry k e v).codecs → SameMedia s media (record_of got v) (record_of got u) → ((who : Who) (x : Call) → e ≡ Entry.Call who x → HasStep s media (record_of got u) who x) → ArgumentsAreIn s media (record_of got u)
    entry_arguments u codecs told has n q who x is =
        elim (entries_new v k q n e (Entry.Call who x) (ap (λ (ds : List CodecValue). slice_get (at n (histories ds)) q) (sym codecs) ∙ is)) [
          | inl was ↦ arguments_stay (record_of got u) told n q who x was
          | inr new ↦ has who x (sym new.value)
        ]

    -- an entry of no caller
    advance_stands : who_of e ≡ None → EntryFits e (codec_at k v.codecs).holding.refusal → Stands s media made got (with_entry k e v)
    advance_stands nobody fits =
        let u = with_entry k e v in
        let grows : Grows (record_of got v) (record_of got u) = record { stays = λ b j q h. h; received = λ b j lt. refl; more = λ n. longer_history v k n e } in
        let stands = entry_stands u (nobody_adds v.media.pool e nobody) grows in
        let told : SameMedia s media (record_of got v) (record_of got u) = λ d j lt. stands.same d j ∙ (later_stands (record_of got u) grows).same d j lt in
        let here = at k (histories v.codecs) in
        let still : named (here ++ e ∷ []) ≡ named here = rw (named_more here e, nobody, append-nil (named here)) refl in
        record {
          callers = st.callers;
          codecs = codecs_more fits;
          results = λ b j q is. result_stays s (record_of got v) (record_of got u) grows media legals st.climbs told b j q is (st.results b j q is);
          arguments = entry_arguments u refl told (λ who x is. absurd (let bad = sym nobody ∙ ap who_of is in cc));
          once = λ n. elim (cases_eq n k) [
            | inr other ↦ rw (same_history v k n e other) (st.once n)
            | inl same ↦ rw (same, this_history v k e codec) (λ t. ap (sum_by t) still ∙ st.once k t)
          ];
          climbs = climbs_still (record_of got u) grows;
          stand = stands.stands;
          ports = ports_stay s media (record_of got v) (record_of got u) v.ports refl refl (λ c j r is. variables_stay s media (record_of got v) (record_of got u) c j told (let lt = slice_get_within (at c v.callers) j r is in omega (arith, lt))) st.ports;
        }

  -- ---- a call of a caller that is there, with the codec's state after it

  module _ (c k : ℕ) (x : Call) (t : State) (caller : c < length v.callers) (codec : k < length v.codecs) (steps : entry_step (Entry.Call (next_who v c) x) (state_of (codec_at k v.codecs)) ≡ Some t) where
    abbrev e : Entry
    e = Entry.Call (next_who v c) x

    -- its entry and its result, with these media
    entered_stands : (r : StepResult) (m : Media) (y : Step) → let u = told_by c r m (with_entry k e v) in mark_of r ≡ mark.Call k (next_place v k) → step_in s c (length (at c v.callers)) ≡ Some y
        → HasArguments s media (variables_of c v.media.variables) c x y → SameMedia s media (record_of got v) (record_of got u) → ResultFits s media (record_of got u) c (length (at c v.callers)) r → MediaAt s media got u → UsesNone s c (length (at c v.callers)) r → Stands s media made got u
    entered_stands r m y marks is_step has told fits stand none =
        let u = told_by c r m (with_entry k e v) in
        told_stands c caller got u r refl (both_grow got v c k e r m) (call_marked v c k e r codec refl marks) (codecs_more k e t codec steps (call_fits e (next_who v c) (codec_at k v.codecs).holding.refusal refl)) told
        (entry_arguments k e t codec steps u refl told (λ who z is. (
        let same : who ≡ next_who v c = cc in
        let its : z ≡ x = cc in
        rw (same, its) (y, is_step, rw (same_before (record_of got u) c told) has)
        ))) fits stand (ports_rest c caller u r refl told none)

    -- the exception that it shows
    shown_there : (u : Course) (error : Option DomError) → u.codecs ≡ (with_entry k e v).codecs → error ≡ refusal_in (shows e (state_of (codec_at k v.codecs))) → error ≡ exception_at (opening_at s k) (at k (histories u.codecs)) (next_place v k)
    shown_there u error codecs shows_error = rw (codecs, this_history v k e codec, sym (history_there v k), shown_last (opening_at s k) (at k (histories v.codecs)) e (legals k), history_at k v.codecs, sym (st.codecs.opened k)) shows_error

    -- a step that calls a codec and takes nothing of it
    ask_stands : (y : Step) → step_in s c (length (at c v.callers)) ≡ Some y → called y ≡ Some k → HasArguments s media (variables_of c v.media.variables) c x y → MayAddAll v.media.pool e → Stands s media made got (after_move (Ask (next_who v c) k x) v)
    ask_stands y is_step calls has adds =
        let u = after_move (Ask (next_who v c) k x) v in
        let before = (state_of (codec_at k v.codecs)).control in
        let error = exception_of x (call_error x before) in
        let r = result_of k x (codec_at k v.codecs) in
        let p = next_place v k in
        let grows = both_grow got v c k e r u.media in
        let stands = entry_stands k e t codec steps u adds grows in
        let shown = shown_there u error refl (exception_shown x before.place before.pending (call_error x before)) in
        let none = no_look s media (record_of got u) c k p y error calls in
        entered_stands r u.media y refl is_step has (λ d j lt. stands.same d j ∙ (later_stands (record_of got u) grows).same d j lt)
        (record { step = y; is_step = is_step; made = rw (none.0, calls) (refl, shown); found = tt; shows = none.1; answers = none.2 _ _ })
        (laws.others _ _ _ _ _ _ _ c stands.stands (one_more got got v u c r refl caller) (call_quiet s (brought_to s media (record_of got u)) c (length (at c v.callers)) k y is_step calls))
        (record { posts = λ port same h. absurd cc; receives = λ port same h. absurd cc })

  -- a take of the output with this number, which was shown: all but its caller's media are as after a call
  received_stands : (c k n : ℕ) (y : Came) (bind : List ℕ) (holds : VariableKind) (t : State) (o : output.Unit) → let x = MediaStep.Take k bind holds in c < length v.callers → k < length v.codecs → step_in s c (length (at c v.callers)) ≡ Some (Step.Media x)
      → entry_step (Entry.Call (next_who v c) (Call.Take n)) (state_of (codec_at k v.codecs)) ≡ Some t → output_at (opening_at s k) (at k (histories v.codecs)) n ≡ Some o
      → media_came (next_numbers v.media.pool) (next_who v c) (brought None (Some (taken_as (take_result v k n) o)) None) x (variables_of c v.media.variables) ≡ Some y → Stands s media made got (after_move (Receive (next_who v c) k n y) v)
  received_stands c k n y bind holds t o caller codec is_step steps there comes =
      let e = Entry.Call (next_who v c) (Call.Take n) in
      let x = MediaStep.Take k bind holds in
      let u = after_move (Receive (next_who v c) k n y) v in
      let w = record_of got u in
      let r = take_result v k n in
      let vs = variables_of c v.media.variables in
      let answers : y.answer ≡ r = ap (λ (z : Came). z.answer) (sym (some_same (unit_came (next_numbers v.media.pool) (length (at c v.callers)) r o vs) y comes)) ∙ unit_answer (next_numbers v.media.pool) (length (at c v.callers)) r o vs in
      let grows = both_grow got v c k e y.answer u.media in
      let shown : output_at (opening_at s k) (at k (histories u.codecs)) n ≡ Some o = output_stays s (record_of got v) w grows k n o there in
      let stood : entry_in w k (next_place v k) ≡ Some e = rw (this_history v k e codec, sym (history_there v k)) (get_end (at k (histories v.codecs)) e) in
      let took : taken_by s w (result_in w c (length (at c v.callers))) ≡ Some (taken_as r o) = rw (result_new c y.answer v.callers caller, answers, shown) refl in
      let stands = entry_stands k e t codec steps u (λ i p is. absurd cc) grows in
      let told : StepStands (steps_of s) (brought_to s media w) (lending_of s u) (made_steps (record_of got v)) (made_steps w) (length s.callers) (with_entry k e v).media c y =
      laws.media _ _ _ _ _ _ _ c x y stands.stands (rw (sym st.callers) caller) (one_more got got v u c y.answer refl caller) is_step (tt, tt) (rw (took, append-nil v.media.pool) comes) in
      entered_stands c k (Call.Take n) t caller codec steps y.answer u.media (Step.Media x) (ap mark_of answers) is_step (n, refl) (λ d j lt. told.earlier d j lt ∙ (stands.same d j ∙ (later_stands (record_of got u) grows).same d j lt))
      (rw answers (record { step = Step.Media x; is_step = is_step; made = (refl, stood); found = (o, shown); shows = tt; answers = tt })) told.stands
      (names_none s c (length (at c v.callers)) (Step.Media x) y.answer is_step refl refl)

  -- ---- the next step of a caller, where the script is sound

  module _ (c : ℕ) (sound : IsSound s) where
    -- what stands after this move
    abbrev After : Move → Type 0
    After m = Stands s media made (received_after m v got) (after_move m v)

    caller_there : (x : Step) → IsNext s v c x → c < length v.callers
    caller_there x is =
        let there = stands_in s.callers c (length (at c v.callers)) x is in omega (arith, slice_get_within s.callers c there.caller there.is_caller, st.callers)

    -- a caller's step on a codec, and its call
    asks : (k : ℕ) (y : Step) (x : Call) → IsNext s v c y → called y ≡ Some k → may_call x (state_of (codec_at k v.codecs)).control ≡ true → MayAddAll v.media.pool (Entry.Call (next_who v c) x)
        → HasArguments s media (variables_of c v.media.variables) c x y → After (Ask (next_who v c) k x)
    asks k y x is calls may adds has =
        let after = legal_after (Entry.Call (next_who v c) x) (state_of (codec_at k v.codecs)) (rw may refl) in
        ask_stands c k x after.0 (caller_there y is) (omega (arith, sound.names c (length (at c v.callers)) k y is (called_is_named y k calls), st.codecs.count)) after.1 y is calls has adds

    answered : (x : Step) (r : StepResult) → IsNext s v c x → IsMarked v v c r → IsResultOf s (record_of got (with_result c r v)) (next_who v c) x r → IsFound s (record_of got (with_result c r v)) r
        → LookShows s (record_of got (with_result c r v)) c x r → ((o : Option Came) → IsLocalAnswer s media (variables_of c v.media.variables) o c x r) → IsQuiet (steps_of s) (brought_to s media (record_of got (with_result c r v))) c (length (at c v.callers)) → port_posted x ≡ None → port_received x ≡ None → After (Answer c r)
    answered x r is marked made_of found looks answers quiet posts receives =
        let w = record_of got (with_result c r v) in
        answer_stands c (caller_there x is) r marked
        (λ before. record { step = x; is_step = is; made = made_of; found = found; shows = looks; answers = (let came = came_at s media w c (length (at c v.callers)) in subst (λ (vs : List (Option Medium)). IsLocalAnswer s media vs came c x r) (sym before) (answers came)) }) quiet
        (names_none s c (length (at c v.callers)) x r is posts receives)

    -- a step that is none on media
    still : (x : Step) (r : StepResult) → IsNext s v c x → IsMarked v v c r → IsResultOf s (record_of got (with_result c r v)) (next_who v c) x r → IsFound s (record_of got (with_result c r v)) r
        → LookShows s (record_of got (with_result c r v)) c x r → ((o : Option Came) → IsLocalAnswer s media (variables_of c v.media.variables) o c x r) → media_of x ≡ None → port_posted x ≡ None → port_received x ≡ None → After (Answer c r)
    still x r is marked made_of found looks answers other posts receives =
        answered x r is marked made_of found looks answers (none_quiet s (brought_to s media (record_of got (with_result c r v))) c (length (at c v.callers)) (ap (option_and_then media_of) is ∙ other)) posts receives

    decodes : (k : ℕ) (chunk : Variable) (o : Option Chunk) → IsNext s v c (Step.Decode k chunk) → chunk_for media (steps_of s c) (variables_of c v.media.variables) chunk.step ≡ o → After (call_move (next_who v c) k (option_map Call.Decode o))
    decodes k chunk None is none = still (Step.Decode k chunk) StepResult.Absent is (local_marked v c StepResult.Absent refl) tt tt tt (λ o. none) refl refl refl
    decodes k chunk (Some value) is some =
        asks k (Step.Decode k chunk) (Call.Decode value) is refl refl (λ i p at. absurd cc) (value, some, refl)

    -- a step that looks at an earlier promise finds the call of its flush
    promise_call : (x : Step) (promise : Variable) → IsNext s v c x → looked_at x ≡ Some promise → (k : ℕ) × (p : ℕ) × (error : Option DomError) × (result_in (record_of got v) c promise.step ≡ Some (StepResult.Call k p error))
    promise_call x promise is looks =
        let before : promise.step < length (at c v.callers) = sound.earlier c (length (at c v.callers)) x promise is looks in
        let there = get_some (at c v.callers) promise.step before in
        let flush = sound.promised c (length (at c v.callers)) x promise is looks in
        let fits = st.results c promise.step there.0 there.1 in
        let same : fits.step ≡ flush.0 = some_same fits.step flush.0 (sym fits.is_step ∙ flush.1) in
        let came = flush_came s media (record_of got v) (record { caller = c; step = promise.step }) (variables_at s media (record_of got v) c promise.step) (came_at s media (record_of got v) c promise.step) c flush.0 there.0 flush.2 (rw same at fits.made) (rw same at fits.answers) in
        (came.0, came.1, came.2, there.1 ∙ ap (λ (q : StepResult). Some q) came.3)

    look_shows : (promise : Variable) (r : StepResult) (k p : ℕ) (error : Option DomError) → result_in (record_of got v) c promise.step ≡ Some (StepResult.Call k p error) → let w = record_of got (with_result c r v) in let d = codec_at k v.codecs in
        (q : ℕ) × (e : Option DomError) × (result_in w c promise.step ≡ Some (StepResult.Call k q e)) × (promise_after d.opening d.history p ≡ promise_after (opening_at s k) (take (length d.history) (at k w.codecs)) q)
    look_shows promise r k p error was = (p, error, result_kept c c promise.step r (StepResult.Call k p error) v.callers was, all_there (λ o h. promise_after o h p) s media made got v k st)

    -- a step on media that takes no output and uses no port
    handles : (x : MediaStep) (o : Option Came) → IsNext s v c (Step.Media x) → received_by x (got c (length (at c v.callers))) ≡ None → port_posted (Step.Media x) ≡ None → port_received (Step.Media x) ≡ None
        → media_came (next_numbers v.media.pool) (next_who v c) (brought (copied_chunk media (steps_of s c) x) None None) x (variables_of c v.media.variables) ≡ o → After (handle_move (next_who v c) o)
    handles x None is nothing posts receives comes = st
    handles x (Some y) is nothing posts receives comes = handled_stands c (caller_there (Step.Media x) is) x y is nothing comes (names_none s c (length (at c v.callers)) (Step.Media x) y.answer is posts receives)

    -- a post, by what its variable holds
    posts_held : (to : ℕ) (content : Variable) (m : Medium) (held : Option Reference) → IsNext s v c (Step.Media (MediaStep.Post to content)) → medium_at (variables_of c v.media.variables) content.step ≡ Some m → m.held ≡ held
        → After (post_move (next_who v c) to (if_held m held) (Some (post_held content.step held (variables_of c v.media.variables))))
    posts_held to content m None is there holds =
        let before = variables_of c v.media.variables in
        let y = post_held content.step None before in
        handled_stands c (caller_there (Step.Media (MediaStep.Post to content)) is) (MediaStep.Post to content) y is refl
        (ap (λ (o : Option Medium). Some (if_there o before (λ z. post_held content.step z.held before))) there ∙ ap (λ (h : Option Reference). Some (post_held content.step h before)) holds)
        (record { posts = λ port same h. absurd cc; receives = λ port same h. absurd cc })
    posts_held to content m (Some r) is there holds =
        let x = Step.Media (MediaStep.Post to content) in
        let lt = sound.posts c (length (at c v.callers)) to x is refl in
        let count = st.ports.count in
        posted_stands c (caller_there x is) to content m r (omega (arith, lt, count)) is there holds

    posts_from : (to : ℕ) (content : Variable) (o : Option Medium) → IsNext s v c (Step.Media (MediaStep.Post to content)) → medium_at (variables_of c v.media.variables) content.step ≡ o
        → After (post_move (next_who v c) to (option_and_then (λ m. if_held m m.held) o) (Some (if_there o (variables_of c v.media.variables) (λ m. post_held content.step m.held (variables_of c v.media.variables)))))
    posts_from to content None is there =
        let before = variables_of c v.media.variables in
        handled_stands c (caller_there (Step.Media (MediaStep.Post to content)) is) (MediaStep.Post to content) (only_answers StepResult.Absent before) is refl
        (ap (λ (o : Option Medium). Some (if_there o before (λ z. post_held content.step z.held before))) there)
        (record { posts = λ port same h. absurd cc; receives = λ port same h. absurd cc })
    posts_from to content (Some m) is there = posts_held to content m m.held is there refl

    gets : (from : ℕ) (bind : List ℕ) (kind : VariableKind) → IsNext s v c (Step.Media (MediaStep.Receive from bind kind))
        → After (Get (next_who v c) from (received_came (length (at c v.callers)) (waiting_at from v) (variables_of c v.media.variables)))
    gets from bind kind is =
        let x = Step.Media (MediaStep.Receive from bind kind) in
        let lt = sound.receives c (length (at c v.callers)) from x is refl in
        let count = st.ports.count in
        gotten_stands c (caller_there x is) from bind kind (omega (arith, lt, count)) is

    takes : (k : ℕ) (bind : List ℕ) (holds : VariableKind) (o : Option output.Unit) → IsNext s v c (Step.Media (MediaStep.Take k bind holds)) → output_at (codec_at k v.codecs).opening (codec_at k v.codecs).history (state_of (codec_at k v.codecs)).control.taken ≡ o
        → After (take_move (next_who v c) k (codec_at k v.codecs) (taken_came (next_numbers v.media.pool) (length (at c v.callers)) (option_map (taken_as (take_result v k (state_of (codec_at k v.codecs)).control.taken)) o) (variables_of c v.media.variables)))
    takes k bind holds None is none =
        let x = Step.Media (MediaStep.Take k bind holds) in
        let n = next_place v k in
        answered x (StepResult.NoUnit k n) is (look_marked v c k (StepResult.NoUnit k n) refl) refl tt
        (refl, sym (all_there (λ o h. output_at o h (state_after o h).control.taken) s media made got v k st) ∙ none) (λ o. tt) (λ z pool vs named.
        (let w = record_of got (with_result c (StepResult.NoUnit k n) v) in rw (sym (some_same (MediaStep.Take k bind holds) z (sym (ap (option_and_then media_of) is) ∙ named)), ap (taken_by s w) (result_new c (StepResult.NoUnit k n) v.callers (caller_there x is))) refl)) refl refl
    takes k bind holds (Some u) is some =
        let x = Step.Media (MediaStep.Take k bind holds) in
        let d = codec_at k v.codecs in
        let n = (state_of d).control.taken in
        let counted : (state_of d).control.shown ≡ length (outputs_of (shown d.opening d.history)) = shown_counted d.opening d.history (state_of d) (st.codecs.boxes.each k).replays in
        let below : n < length (outputs_of (shown d.opening d.history)) = slice_get_within (outputs_of (shown d.opening d.history)) n u some in
        let after = legal_after (Entry.Call (next_who v c) (Call.Take n)) (state_of d) (take_legal (next_who v c) (state_of d) (omega (arith, counted, below))) in
        received_stands c k n _ bind holds after.0 u (caller_there x is) (omega (arith, sound.names c (length (at c v.callers)) k x is refl, st.codecs.count)) is after.1
        (rw (history_at k v.codecs, sym (st.codecs.opened k)) some) refl

    encodes : (k : ℕ) (content : Variable) (o : Option Lendable) → IsNext s v c (Step.Media (MediaStep.Encode k content)) → lendable_at (variables_of c v.media.variables) content.step ≡ o → After (call_move (next_who v c) k (option_map (encode_of v.media.pool (codec_at k v.codecs)) o))
    encodes k content None is none =
        answered (Step.Media (MediaStep.Encode k content)) StepResult.Absent is (local_marked v c StepResult.Absent refl) tt tt tt (λ o. none)
        (call_quiet s (brought_to s media (record_of got (with_result c StepResult.Absent v))) c (length (at c v.callers)) k (Step.Media (MediaStep.Encode k content)) is refl) refl refl
    encodes k content (Some x) is some =
        let before = (state_of (codec_at k v.codecs)).control in
        let may = handed_may v.media.pool (next_who v c) x.shape x.held before (is_configured before) refl lives in
        asks k (Step.Media (MediaStep.Encode k content)) (encode_of v.media.pool (codec_at k v.codecs) x) is refl may.0 may.1 (x, references_made v.media.pool, is_configured before, some, refl)
      where
        lives : (r : Reference) → x.held ≡ Some r → is_held r.resource v.media.pool ≡ true
        lives r holds =
            live_held laws.numbered v.media.pool r.number r.resource st.stand.accounted.legal
            (st.stand.held.live c content.step r (lendable_held (medium_at (variables_of c v.media.variables) content.step) x r some holds))

    steps : (x : Step) → IsNext s v c x → After (step_move s media (next_who v c) x v)
    steps (Step.Configure on config) is = asks on (Step.Configure on config) (Call.Configure config) is refl refl (λ i p at. absurd cc) refl
    steps (Step.Chunk bind source) is = still (Step.Chunk bind source) (StepResult.Local (source_error source)) is (local_marked v c (StepResult.Local (source_error source)) refl) tt tt tt (λ o. refl) refl refl refl
    steps (Step.Decode on chunk) is = decodes on chunk (chunk_for media (steps_of s c) (variables_of c v.media.variables) chunk.step) is refl
    steps (Step.Flush on bind) is = asks on (Step.Flush on bind) Call.Flush is refl refl (λ i p at. absurd cc) refl
    steps (Step.Poll promise) is =
        let found = promise_call (Step.Poll promise) promise is refl in
        let r = look_at v found.0 found.1 in
        rw found.3 (still (Step.Poll promise) r is (look_marked v c found.0 r refl) tt tt (look_shows promise r found.0 found.1 found.2 found.3) (λ o. tt) refl refl refl)
    steps (Step.Await promise) is =
        let found = promise_call (Step.Await promise) promise is refl in
        let r = look_at v found.0 found.1 in
        rw found.3 (still (Step.Await promise) r is (look_marked v c found.0 r refl) tt tt (look_shows promise r found.0 found.1 found.2 found.3) (λ o. tt) refl refl refl)
    steps (Step.Reset on) is = asks on (Step.Reset on) Call.Reset is refl refl (λ i p at. absurd cc) refl
    steps (Step.Close on) is = asks on (Step.Close on) Call.Close is refl refl (λ i p at. absurd cc) refl
    steps (Step.Ground on to) is = asks on (Step.Ground on to) (Call.Ground to) is refl refl (λ i p at. absurd cc) refl
    steps (Step.State on) is =
        let r = look_of_state on (codec_at on v.codecs) in
        still (Step.State on) r is (look_marked v c on r refl) tt tt
        (refl, all_there (λ o h. (state_after o h).control.phase) s media made got v on st, all_there (λ o h. (state_after o h).control.size) s media made got v on st) (λ o. tt) refl refl refl
    steps (Step.Media (MediaStep.Take on bind kind)) is = takes on bind kind (output_at (codec_at on v.codecs).opening (codec_at on v.codecs).history (state_of (codec_at on v.codecs)).control.taken) is refl
    steps (Step.Media (MediaStep.Encode on content)) is = encodes on content (lendable_at (variables_of c v.media.variables) content.step) is refl
    steps (Step.Media (MediaStep.Post to content)) is = posts_from to content (medium_at (variables_of c v.media.variables) content.step) is refl
    steps (Step.Media (MediaStep.Receive from bind kind)) is = gets from bind kind is
    steps (Step.Media x) is = handles x (media_came (next_numbers v.media.pool) (next_who v c) (brought (copied_chunk media (steps_of s c) x) None None) x (variables_of c v.media.variables)) is refl refl refl refl

    next : (o : Option Step) → step_in s c (length (at c v.callers)) ≡ o → After (next_move s media (next_who v c) o v)
    next None is = st
    next (Some x) is = steps x is

  -- ---- an item of the order that names a codec

  module _ (k : ℕ) where
    -- what is known of an item whose box was refused
    refused_item : (r : Running) (q : Option ℕ) → (state_of (codec_at k v.codecs)).control.running ≡ Some r → (codec_at k v.codecs).holding.refusal ≡ q → MayBeRefused r (state_of (codec_at k v.codecs)) q
    refused_item r None is refusal = tt
    refused_item r (Some n) is refusal =
        let needs = (st.codecs.boxes.each k).has.needs n refusal in
        let same : needs.running ≡ r = some_same needs.running r (sym needs.is_running ∙ is) in
        subst (λ (x : Running). MayBeRefused x (state_of (codec_at k v.codecs)) (Some n)) same (needs.refusable n)

    item_own : (wants : Bool) (x : OrderItem) (e : Entry) → item_entry wants x (codec_at k v.codecs) ≡ Some e → Own (codec_at k v.codecs) e
    item_own wants (OrderItem.Caller c) e is = absurd cc
    item_own wants (OrderItem.Start n) e is =
        let t = state_of (codec_at k v.codecs) in
        let found = mapped (λ (i : Item). Entry.Start t.control.epoch i.number) (start_item t.control) e is in
        subst (Own (codec_at k v.codecs)) found.2 (record { legal = start_legal t found.0 found.1; nobody = refl; fits = tt })
    item_own wants (OrderItem.Done n moment) e is =
        let d = codec_at k v.codecs in
        let t = state_of d in
        let found = mapped (end_of wants moment d.holding.refusal t.running_given) t.control.running e is in
        let r = found.0 in
        subst (Own d) found.2 (record {
          legal = done_legal t r moment wants d.holding.refusal found.1 (refused_item r d.holding.refusal found.1 refl);
          nobody = refl;
          fits = end_says wants d.holding.refusal (answer_to r.kind t.running_given);
        })
    item_own wants (OrderItem.Turn n) e is = turn_own (codec_at k v.codecs) (state_of (codec_at k v.codecs)).control.tasks e refl is
    item_own wants (OrderItem.Reclaim n moment) e is =
        let found = cond_some (may_reclaim moment (state_of (codec_at k v.codecs)).control) (Entry.Reclaim moment) e is in
        subst (Own (codec_at k v.codecs)) found.1 (record { legal = rw found.0 refl; nobody = refl; fits = tt })

    -- a codec that is not there has nothing to do
    none_past : (wants : Bool) (x : OrderItem) (o : Opening) → item_entry wants x (new_codec o) ≡ None
    none_past wants (OrderItem.Caller c) o = refl
    none_past wants x o = refl

    advances : (wants : Bool) (x : OrderItem) (o : Option Entry) → item_entry wants x (codec_at k v.codecs) ≡ o → Stands s media made (received_after (advance k o) v got) (after_move (advance k o) v)
    advances wants x None is = st
    advances wants x (Some e) is =
        let own = item_own wants x e is in
        let after = legal_after e (state_of (codec_at k v.codecs)) own.legal in
        let there : k < length v.codecs = elim (cases_lt k (length v.codecs)) [ inl lt ↦ lt | inr le ↦ absurd (let bad = sym (none_past wants x _) ∙ (rw (slice_get_past v.codecs k le) at is) in cc) ] in
        advance_stands k e after.0 there after.1 own.nobody own.fits

-- What stands of a course of a sound script stands after each item of its order.
pub item_stands : MediaLaws → (s : ScriptData) (media : List (List Chunk)) (made : List CoderId) (got : Got) (v : Course) (wants : Bool) (x : OrderItem) → IsSound s → Stands s media made got v
    → Stands s media made (received_after (item_move s media wants x v) v got) (follow_item s media wants x v)
item_stands laws s media made got v wants (OrderItem.Caller c) sound st = next laws s media made got v st c sound (step_in s c (length (at c v.callers))) refl
item_stands laws s media made got v wants x sound st = advances laws s media made got v st _ wants x _ refl
