-- A course that follows a script's order has no more of anything than the order has items, and what its variables hold and its
-- codecs were given is within its types.
use Rattle.std.proofs.Common.{ℕ, zero, suc, ◌≡◌, ◌<◌, ◌≤◌, ◌+◌, ◌*◌, ◌^◌, ◌⊎◌, inl, inr, not, Bool, true, false, cond, List, [], ◌∷◌, ◌++◌, length, length-append, Option, Some, None, refl, ap, sym, subst, ◌∙◌, add-mul, arith}
use Rattle.std.specs.Prelude.{IfSome, nat_le, slice_get, slice_set, option_map, option_and_then, drop, take, map}
use Rattle.std.specs.List.{find, range_with_len, sum_by}
use Rattle.std.proofs.Math.Nat.{mul-add, mul-one, one-mul}
use Rattle.std.proofs.lemmas.Bool.{and_parts, cond_both, leb-true}
use Rattle.std.proofs.lemmas.List.{append-nil, length-map}
use Rattle.std.proofs.lemmas.Option.{option_and_then_some, slice_get_within}
use Rattle.std.proofs.lemmas.List.FromFn.{length-range_with_len}
use Rattle.std.proofs.lemmas.List.Sums.{count_by-le-length}
use Rattle.hex.specs.Hex.{IsBytes}
use Rattle.wc_base.specs.{Options.some_same, declared.who.Who.Who, declared.who.By.By}
use Rattle.wc_config.specs.{Configs.is_valid, declared.codec.CoderId.CoderId}
use Rattle.wc_chunk.specs.declared.chunk.Chunk.{Chunk}
use Rattle.picture_planes.specs.Planes.{picture_size}
use Rattle.wc_audio.specs.Sound.{needed}
use Rattle.wc_pool.specs.{declared.entry.PoolEntry.PoolEntry, declared.entry.PoolOp.PoolOp, Bag.references_made}
use Rattle.coder_api.specs.{Meaning.is_id, declared.slot.SlotEntry.SlotEntry, declared.slot.SlotOp.SlotOp}
use Rattle.slot_registry.specs.Boxes.{is_out, made_of, out_of, least_free}
use Rattle.slot_registry.specs.Slots.{SlotsValue, acquire_op, acquire_entry}
use Rattle.codec_definitions.specs.declared.unit.Unit as output
use Rattle.codec_model.specs.declared.entry.{Opening.Opening, Pair.Pair, MediaShape.MediaShape, Handed.Handed, Call.Call, Entry.Entry}
use Rattle.codec_model.specs.{Control.start_item, Control.may_reclaim, Shown.shown, Shown.outputs_of}
use Rattle.codec_model.specs.Replay.{State, medium_command, opening_state, step as legal_step, replay, replay_from, is_configured}
use Rattle.codec_model.specs.Held.{running_pairs, waiting_held, held_in, is_removal, is_done, lets_go, leaves_held, adds_held, HeldStays}
use Rattle.codec_accounts.specs.{Owed.at, Owed.append_at, Registry.BoxOut, AccountLaws.history_at, AccountLaws.histories_more}
use Rattle.codec_accounts.specs.Calls as mark
use Rattle.codec_accounts.specs.ListLaws.{Same, Longer, growth, get_more, at_empty}
use Rattle.codec_accounts.specs.Codec.{CodecValue, Holding, new_codec, BoxStep, Keep, Give, Renew, after_give, holding_by, slots_after, holding_after, step_by, next_by, state_after, state_of, after_entry, codec_at, histories}
use Rattle.script_types.specs.declared.script.{CallerItem.CallerItem, CodecItem.CodecItem, OrderItem.OrderItem, ScriptData.ScriptData}
use Rattle.script_types.specs.declared.steps.{MediaStep.MediaStep, Step.Step}
use Rattle.script_types.specs.Sound.{is_sound, is_sound_media, most_codecs, most_callers, most_steps}
use Rattle.script_types.specs.SoundLaws.{parts_of, step_at, few_steps}
use Rattle.report_text.specs.declared.result.StepResult.{StepResult}
use Rattle.media_variables.specs.Variables.{Medium, Media, Came, Received, Brought, Reference, chunk_in, if_held, medium_at, taken_came, lendable_at, content_in, handed_by, next_numbers, entries_of, media_came, variables_of}
use Rattle.media_variables.specs.Held.{ends_behind, clones_of}
use Rattle.media_accounts.specs.Accounts.{pool_by}
use Rattle.run_model.specs.Fits.{mark_of}
use Rattle.run_model.specs.Follow.{Course, Move, Idle, Answer, Advance, Ask, Handle, Receive, Post, Get, front_of, look_of_flush, result_of, with_entry, with_media, after_move, turn_on, advance, call_move, encode_of, found_at, handle_move, take_move, media_move, step_move, next_move, item_move, follow_item, Follows, nothing_yet, order_items}
use Rattle.run_model.specs.Recorded.{opening_of, steps_of, output_at, chunk_by, chunk_at, chunk_for, take_entry, copied_chunk}
use Rattle.history_laws.specs.{Outputs.HoldsOwn, OutputLaws.outputs_are, CountLaws.outputs_each}
use Rattle.report_lines.specs.Fits.{FitsWho, FitsResult}
use Rattle.run_ranges.specs.Counts.{all_from, all_at, caller_of_step}
use Rattle.run_ranges.specs.Ranges.{IsMoment, IsConfigWithin, IsChunkWithin, AreWithin}
use Rattle.run_ranges.proofs.{Cases.by_option, Cases.by_default, ByteRanges.take_small, CodeRanges.CodesAreBytes}
use Rattle.run_ranges.proofs.UnitRanges.{IsInputWithin, IsUnitWithin, judge}
use Rattle.run_ranges.proofs.MediaRanges.{AreVariables, IsChunkThere, chunk_found, IsHeldWithin, IsMediumShapeWithin, IsMediumThere, medium_found, IsVariableWithin, medium_within, IsContentWithin, IsReceivedWithin, FitsReceived, IsOutputWithin, size_small_of, few_of, IsFine, IsNamed, came_fine, take_fine}

-- ---- what stands of a course

-- what a call was given is within its types; a config that is not valid is not looked at
abbrev pub IsOwnCall : Call → Type 0
IsOwnCall (Call.Configure config) = is_valid config ≡ true → IsConfigWithin config
IsOwnCall (Call.Decode chunk) = IsChunkWithin chunk
IsOwnCall (Call.Encode (Handed.Cloned medium)) = IsInputWithin (medium_command medium.shape medium.bytes)
IsOwnCall x = Unit {0}

-- and so is an entry's moment
abbrev pub IsOwnEntry : Entry → Type 0
IsOwnEntry (Entry.Call who x) = IsOwnCall x
IsOwnEntry (Entry.Done epoch number moment o) = moment < 2 ^ 64
IsOwnEntry (Entry.Reclaim moment) = moment < 2 ^ 64
IsOwnEntry e = Unit {0}

abbrev pub IsByUpTo : ℕ → By → Type 0
IsByUpTo n (By.Caller who) = Unit {0}
IsByUpTo n (By.Codec k place) = place ≤ n

abbrev pub IsOpUpTo : ℕ → SlotOp → Type 0
IsOpUpTo most (SlotOp.Acquire id number) = number ≤ most
IsOpUpTo most (SlotOp.Refused id out made) = (out ≤ most) × (made ≤ most)
IsOpUpTo most (SlotOp.Give id number) = number ≤ most

abbrev IsBoxUpTo : ℕ → Option BoxOut → Type 0
IsBoxUpTo most o = IfSome o (λ b. b.number ≤ most)

-- so much of a registry
pub record AreSlotsUpTo (n most long : ℕ) (s : SlotsValue) : Type 0 where
  pub long_at_most : length s.history ≤ long
  pub made : length s.made ≤ most
  pub ops : (i : ℕ) (e : SlotEntry) → slice_get s.history i ≡ Some e → IsByUpTo n e.by × IsOpUpTo most e.op

-- what codecs were given, and what callers' variables hold, are within their types
pub record IsCourseOwn (cs : List CodecValue) (m : Media) : Type 0 where
  pub entries : (k p : ℕ) (e : Entry) → slice_get (at k (histories cs)) p ≡ Some e → IsOwnEntry e
  pub variables : (c : ℕ) → AreVariables (variables_of c m.variables)

-- with so many entries of each codec, so much in the pool and so many boxes made
pub record IsCourseUpTo (n pool most : ℕ) (cs : List CodecValue) (s : SlotsValue) (m : Media) : Type 0 where
  pub few : (k : ℕ) → length (at k (histories cs)) ≤ n
  pub slots : AreSlotsUpTo n most (2 * n) s
  pub boxes : (k : ℕ) → IsBoxUpTo most (codec_at k cs).holding.box
  pub media : length m.pool ≤ pool
  pub own : IsCourseOwn cs m

-- After so many items. Each item adds to the pool what its codec lets go, which is at most one reference for each of the codec's
-- entries, one entry more, and what a step on media does.
abbrev pub IsCourseAfter : ℕ → ℕ → Course → Type 0
IsCourseAfter n most v = IsCourseUpTo n (n * n + 19 * n) most v.codecs v.slots v.media

-- What callers were answered by their own steps fits the script, and what waits in ports is within its types.
pub record IsToldWithin (s : ScriptData) (v : Course) : Type 0 where
  pub answers : (c j : ℕ) (r : StepResult) → slice_get (at c v.callers) j ≡ Some r → mark_of r ≡ mark.Local → FitsResult s r
  pub waits : (port i : ℕ) (p : Received) → slice_get (at port v.ports) i ≡ Some p → IsVariableWithin (Some p.medium) × FitsWho s p.poster

pub by_up : (n m : ℕ) (b : By) → n ≤ m → IsByUpTo n b → IsByUpTo m b
by_up n m (By.Caller who) le h = tt
by_up n m (By.Codec k place) le h = omega (arith, le, h)

slots_raised : (n m most long more : ℕ) (s : SlotsValue) → n ≤ m → long ≤ more → AreSlotsUpTo n most long s → AreSlotsUpTo m most more s
slots_raised n m most long more s le longer h = record { long_at_most = omega (arith, h.long_at_most, longer); made = h.made; ops = λ i e is. (by_up n m e.by le (h.ops i e is).0, (h.ops i e is).1) }

-- ---- media

variables_set : (c k : ℕ) (vs : List (Option Medium)) (all : List (List (Option Medium))) → AreVariables vs → ((i : ℕ) → AreVariables (variables_of i all)) → AreVariables (variables_of c (slice_set all k vs))
variables_set c k vs [] own h = tt
variables_set zero zero vs (ws ∷ all) own h = own
variables_set (suc c) zero vs (ws ∷ all) own h = h (suc c)
variables_set zero (suc k) vs (ws ∷ all) own h = h 0
variables_set (suc c) (suc k) vs (ws ∷ all) own h = variables_set c k vs all own (λ i. h (suc i))

entries_count : (who : Who) (ops : List PoolOp) (pool : List PoolEntry) → length (entries_of pool who ops) ≡ length ops
entries_count who [] pool = refl
entries_count who (o ∷ os) pool = ap suc (entries_count who os _)

media_up : (n p most : ℕ) (who : Who) (y : Came) (s : ScriptData) (v : Course) → IsFine s y → IsCourseUpTo n p most v.codecs v.slots v.media → IsCourseUpTo n (p + 17) most v.codecs v.slots (with_media who y v).media
media_up n p most who y s v own h = let count = entries_count who y.does v.media.pool in let few = own.few in record {
  few = h.few;
  slots = h.slots;
  boxes = h.boxes;
  media = omega (arith, length-append v.media.pool (entries_of v.media.pool who y.does), count, few, h.media);
  own = record { entries = h.own.entries; variables = λ c. variables_set c who.caller y.variables v.media.variables own.variables h.own.variables };
}

-- ---- references that codecs hold

parts_few : (s : State) → (length (running_pairs s) ≤ length (held_in s)) × (length (waiting_held s.control) ≤ length (held_in s))
parts_few s = let both = length-append (running_pairs s) (waiting_held s.control) in (omega (arith, both), omega (arith, both))

either_few : (a b : Bool) (xs ys zs : List Pair) (n : ℕ) → length xs ≤ n → length ys ≤ n → length zs ≤ n → length (cond a xs (cond b ys zs)) ≤ n
either_few a b xs ys zs n x y z = cond_both a xs (cond b ys zs) (λ ps. length ps ≤ n) (λ is. x) (λ is. cond_both b ys zs (λ ps. length ps ≤ n) (λ is. y) (λ is. z))

adds_few : (e : Entry) → length (adds_held e) ≤ 1
adds_few (Entry.Call who (Call.Encode (Handed.Cloned medium))) = omega arith
adds_few e = omega arith

replay_few : HeldStays → (h : List Entry) (s t : State) → replay_from h s ≡ Some t → length (held_in t) ≤ length (held_in s) + length h
replay_few stays [] s t is = omega (arith, ap (λ (x : State). length (held_in x)) (some_same s t is))
replay_few stays (e ∷ es) s t is = option_and_then_some (replay_from es) (legal_step e s) t is (λ u made rest.
    let leaves = either_few (is_done e) (is_removal e s) _ _ (held_in s) (length (held_in s)) (parts_few s).1 (parts_few s).0 (omega arith) in
    omega (arith, replay_few stays es u t rest, ap length (stays e s u made), length-append (leaves_held e s) (adds_held e), leaves, adds_few e))

-- a codec holds at most one reference for each of its entries
held_few : HeldStays → (o : Opening) (h : List Entry) → length (held_in (state_after o h)) ≤ length h
held_few stays o h = by_default (λ t. length (held_in t) ≤ length h) (replay o h) (opening_state o) (omega arith) (λ t is. omega (arith, replay_few stays h (opening_state o) t is))

ends_count : (cause : By) (ps : List Pair) (pool : List PoolEntry) → length (ends_behind cause pool ps) ≡ length ps
ends_count cause [] pool = refl
ends_count cause (p ∷ ps) pool = ap suc (ends_count cause ps _)

-- so an entry adds at most one more to the pool than its codec has
pool_few : HeldStays → (cause : By) (e : Entry) (d : CodecValue) (pool : List PoolEntry) (n : ℕ) → length d.history ≤ n → length (pool ++ pool_by cause e (state_of d) pool) ≤ length pool + n + 1
pool_few stays cause e d pool n few =
    let clones = clones_of cause (adds_held e) in
    let ends = ends_behind cause pool (lets_go e (state_of d)) in
    let goes = either_few (is_done e) (is_removal e (state_of d)) _ _ [] (length (held_in (state_of d))) (parts_few (state_of d)).0 (parts_few (state_of d)).1 (omega arith) in
    omega (arith, few, length-append pool (clones ++ ends), length-append clones ends, length-map (adds_held e) (λ p. let x : PoolEntry = record { by = cause; op = PoolOp.Clone p.resource p.reference } in x), adds_few e, ends_count cause (lets_go e (state_of d)) pool, goes, held_few stays d.opening d.history)

-- ---- the registry

found_below : (p : ℕ → Bool) (a n x : ℕ) → find p (range_with_len a n) ≡ Some x → x < a + n
found_below p a zero x h = absurd cc
found_below p a (suc n) x h =
    cond_both (p a) (Some a) (find p (range_with_len (a + 1) n)) (λ o. o ≡ Some x → x < a + suc n)
    (λ is e. omega (arith, some_same a x e)) (λ is e. omega (arith, found_below p (a + 1) n x e)) h

-- a box that is free has a number, and how many are out of how many
free_few : (most : ℕ) (id : CoderId) (s : SlotsValue) (number : ℕ) → length s.made ≤ most → least_free id s.made s.history ≡ Some number → number ≤ most
free_few most id s number few is = omega (arith, found_below (λ k. not (is_out id k s.history)) 0 (made_of id s.made) number is, count_by-le-length (is_id id) s.made, few)

op_up : (most : ℕ) (id : CoderId) (s : SlotsValue) → length s.made ≤ most → IsOpUpTo most (acquire_op id (out_of id s.made s.history) (made_of id s.made) (least_free id s.made s.history))
op_up most id s few =
    let all : made_of id s.made ≤ most = omega (arith, count_by-le-length (is_id id) s.made, few) in
    by_option (λ o. IsOpUpTo most (acquire_op id (out_of id s.made s.history) (made_of id s.made) o)) (least_free id s.made s.history)
    (omega (arith, count_by-le-length (λ number. is_out id number s.history) (range_with_len 0 (made_of id s.made)), length-range_with_len 0 (made_of id s.made), all), all) (λ number is. free_few most id s number few is)

-- a registry's history grows by an entry of a cause
slot_more : (n most long : ℕ) (x : SlotEntry) (s : SlotsValue) → IsByUpTo n x.by × IsOpUpTo most x.op → AreSlotsUpTo n most long s → AreSlotsUpTo n most (long + 1) (record s { history = s.history ++ x ∷ [] })
slot_more n most long x s own h = record {
  long_at_most = omega (arith, length-append s.history (x ∷ []), h.long_at_most);
  made = h.made;
  ops = λ i e is. elim (get_more s.history x i e is) [ inl old ↦ h.ops i e old | inr new ↦ subst (λ (y : SlotEntry). IsByUpTo n y.by × IsOpUpTo most y.op) (sym new.1) own ];
}

given_up : (n most long : ℕ) (cause : By) (box : Option BoxOut) (s : SlotsValue) → IsByUpTo n cause → IsBoxUpTo most box → AreSlotsUpTo n most long s → AreSlotsUpTo n most (long + 1) (after_give cause box s)
given_up n most long cause None s own few h = rw (append-nil s.history) (slots_raised n n most long (long + 1) s (omega arith) (omega arith) h)
given_up n most long cause (Some b) s own few h = slot_more n most long (record { by = cause; op = SlotOp.Give b.id b.number }) s (own, few) h

slots_up : (n most long : ℕ) (cause : By) (change : BoxStep) (box : Option BoxOut) (s : SlotsValue) → IsByUpTo n cause → IsBoxUpTo most box → AreSlotsUpTo n most long s → AreSlotsUpTo n most (long + 1 + 1) (slots_after cause change box s)
slots_up n most long cause Keep box s own few h = slots_raised n n most long (long + 1 + 1) s (omega arith) (omega arith) h
slots_up n most long cause Give box s own few h = slots_raised n n most (long + 1) (long + 1 + 1) (after_give cause box s) (omega arith) (omega arith) (given_up n most long cause box s own few h)
slots_up n most long cause (Renew id) box s own few h =
    let g = given_up n most long cause box s own few h in
    slot_more n most (long + 1) (acquire_entry cause id (after_give cause box s)) (after_give cause box s) (own, op_up most id (after_give cause box s) g.made) g

held_up : (most : ℕ) (cause : By) (change : BoxStep) (x : Holding) (s : SlotsValue) → length s.made ≤ most → IsBoxUpTo most x.box → IsBoxUpTo most (holding_after cause change x s).box
held_up most cause Keep x s few own = own
held_up most cause Give x s few own = tt
held_up most cause (Renew id) x s few own =
    let t = after_give cause x.box s in
    by_option (λ o. IsBoxUpTo most (holding_by cause id (length t.history) o).box) (least_free id t.made t.history) tt (λ number is. free_few most id t number few is)

-- ---- entries

set_either : (j k : ℕ) (d : CodecValue) (ds : List CodecValue) → (codec_at j (slice_set ds k d) ≡ codec_at j ds) ⊎ (codec_at j (slice_set ds k d) ≡ d)
set_either j k d [] = inl refl
set_either zero zero d (c ∷ ds) = inr refl
set_either zero (suc k) d (c ∷ ds) = inl refl
set_either (suc j) zero d (c ∷ ds) = inl refl
set_either (suc j) (suc k) d (c ∷ ds) = set_either j k d ds

own_more : (k : ℕ) (e : Entry) (hs : List (List Entry)) → ((j p : ℕ) (x : Entry) → slice_get (at j hs) p ≡ Some x → IsOwnEntry x) → IsOwnEntry e → (j p : ℕ) (x : Entry) → slice_get (at j (append_at k e hs)) p ≡ Some x → IsOwnEntry x
own_more k e hs all own j p x is = elim (growth j k e hs) [
  | Same same ↦ all j p x (rw same at is)
  | Longer here more ↦ elim (get_more (at j hs) e p x (rw more at is)) [ inl old ↦ all j p x old | inr new ↦ subst IsOwnEntry (sym new.1) own ]
]

entry_up : HeldStays → (n p most k : ℕ) (e : Entry) (v : Course) → IsOwnEntry e → IsCourseUpTo n p most v.codecs v.slots v.media → IsCourseUpTo (n + 1) (p + n + 1) most (with_entry k e v).codecs (with_entry k e v).slots (with_entry k e v).media
entry_up stays n p most k e v own h =
    let d = codec_at k v.codecs in
    let few : length d.history ≤ n = omega (arith, h.few k, ap length (history_at k v.codecs)) in
    let slots = slots_raised n (n + 1) most (2 * n) (2 * n) v.slots (omega arith) (omega arith) h.slots in
    record {
      few = λ j. rw (histories_more k e v.slots v.codecs) (elim (growth j k e (histories v.codecs)) [
        | Same same ↦ omega (arith, ap length same, h.few j)
        | Longer here more ↦ omega (arith, ap length more, length-append (at j (histories v.codecs)) (e ∷ []), h.few j)
      ]);
      slots = slots_raised (n + 1) (n + 1) most (2 * n + 1 + 1) (2 * (n + 1)) _ (omega arith) (omega arith) (slots_up (n + 1) most (2 * n) (next_by k d) (step_by e d) d.holding.box v.slots (omega (arith, few)) (h.boxes k) slots);
      boxes = λ j. elim (set_either j k (after_entry k e v.slots d) v.codecs) [
        | inl old ↦ subst (λ (x : CodecValue). IsBoxUpTo most x.holding.box) (sym old) (h.boxes j)
        | inr new ↦ subst (λ (x : CodecValue). IsBoxUpTo most x.holding.box) (sym new) (held_up most (next_by k d) (step_by e d) d.holding v.slots slots.made (h.boxes k))
      ];
      media = omega (arith, pool_few stays (By.Codec k (length d.history)) e d v.media.pool n few, h.media);
      own = record { entries = rw (histories_more k e v.slots v.codecs) (own_more k e (histories v.codecs) h.own.entries own); variables = h.own.variables };
    }

-- ---- moves

abbrev MoveHolds : ScriptData → Move → Type 0
MoveHolds s Idle = Unit {0}
MoveHolds s (Answer c r) = mark_of r ≡ mark.Local → FitsResult s r
MoveHolds s (Advance k e) = IsOwnEntry e
MoveHolds s (Ask who k x) = IsOwnCall x
MoveHolds s (Handle who y) = IsFine s y
MoveHolds s (Receive who k n y) = IsFine s y
MoveHolds s (Post who port m y) = IsFine s y × IfSome m (λ x. IsVariableWithin (Some x)) × FitsWho s who
MoveHolds s (Get who port y) = IsFine s y

-- an item adds an entry of a codec at most, and so much to the pool
settled : (n b q most : ℕ) (u : Course) → b ≤ n + 1 → q ≤ n * n + 19 * n + n + 1 + 17 → IsCourseUpTo b q most u.codecs u.slots u.media → IsCourseAfter (n + 1) most u
settled n b q most u entries pool h = record {
  few = λ k. omega (arith, h.few k, entries);
  slots = slots_raised b (n + 1) most (2 * b) (2 * (n + 1)) u.slots entries (omega (arith, entries)) h.slots;
  boxes = h.boxes;
  media = omega (arith, h.media, pool, mul-add (n + 1) n 1, mul-one (n + 1), add-mul n 1 n, one-mul n);
  own = h.own;
}

move_up : HeldStays → (n most : ℕ) (s : ScriptData) (m : Move) (v : Course) → MoveHolds s m → IsCourseAfter n most v → IsCourseAfter (n + 1) most (after_move m v)
move_up stays n most s (Advance k e) v own h = settled n _ _ most (with_entry k e v) (omega arith) (omega arith) (entry_up stays n _ most k e v own h)
move_up stays n most s (Ask who k x) v own h = let e = Entry.Call who x in settled n _ _ most (with_entry k e v) (omega arith) (omega arith) (entry_up stays n _ most k e v own h)
move_up stays n most s (Handle who y) v own h = settled n _ _ most (with_media who y v) (omega arith) (omega arith) (media_up n _ most who y s v own h)
move_up stays n most s (Post who port m y) v own h = settled n _ _ most (with_media who y v) (omega arith) (omega arith) (media_up n _ most who y s v own.0 h)
move_up stays n most s (Get who port y) v own h = settled n _ _ most (with_media who y v) (omega arith) (omega arith) (media_up n _ most who y s v own h)
move_up stays n most s (Receive who k number y) v own h =
    let e = take_entry who number in
    settled n _ _ most (with_media who y (with_entry k e v)) (omega arith) (omega arith) (media_up (n + 1) _ most who y s (with_entry k e v) own (entry_up stays n _ most k e v tt h))
move_up stays n most s _ v own h = settled n _ _ most v (omega arith) (omega arith) h

-- ---- what callers were answered, and what waits

answer_more : (s : ScriptData) (callers : List (List StepResult)) (d : ℕ) (q : StepResult) → (mark_of q ≡ mark.Local → FitsResult s q) → ((c j : ℕ) (r : StepResult) → slice_get (at c callers) j ≡ Some r → mark_of r ≡ mark.Local → FitsResult s r)
    → (c j : ℕ) (r : StepResult) → slice_get (at c (append_at d q callers)) j ≡ Some r → mark_of r ≡ mark.Local → FitsResult s r
answer_more s callers d q fits all c j r is local = elim (growth c d q callers) [
  | Same same ↦ all c j r (rw same at is) local
  | Longer here more ↦ elim (get_more (at c callers) q j r (rw more at is)) [ inl old ↦ all c j r old local | inr new ↦ rw new.1 (fits (rw new.1 at local)) ]
]

-- what waits still, waited
rest_in : (l : List Received) (i : ℕ) (p : Received) → slice_get (drop 1 l) i ≡ Some p → (n : ℕ) × (slice_get l n ≡ Some p)
rest_in [] i p is = absurd cc
rest_in (x ∷ xs) i p is = (suc i, is)

rest_at : (j k : ℕ) (ports : List (List Received)) (i : ℕ) (p : Received) → slice_get (at j (slice_set ports k (drop 1 (at k ports)))) i ≡ Some p → (n : ℕ) × (slice_get (at j ports) n ≡ Some p)
rest_at j k [] i p is = absurd cc
rest_at zero zero (l ∷ ls) i p is = rest_in l i p is
rest_at zero (suc k) (l ∷ ls) i p is = (i, is)
rest_at (suc j) zero (l ∷ ls) i p is = (i, is)
rest_at (suc j) (suc k) (l ∷ ls) i p is = rest_at j k ls i p is

told_up : (s : ScriptData) (m : Move) (v : Course) → MoveHolds s m → IsToldWithin s v → IsToldWithin s (after_move m v)
told_up s Idle v own h = h
told_up s (Answer c r) v own h = record { answers = answer_more s v.callers c r own h.answers; waits = h.waits }
told_up s (Advance k e) v own h = record { answers = h.answers; waits = h.waits }
told_up s (Ask who k x) v own h = record { answers = answer_more s v.callers who.caller (result_of k x (codec_at k v.codecs)) (λ local. absurd cc) h.answers; waits = h.waits }
told_up s (Handle who y) v own h = record { answers = answer_more s v.callers who.caller y.answer own.answers h.answers; waits = h.waits }
told_up s (Receive who k n y) v own h = record { answers = answer_more s v.callers who.caller y.answer own.answers h.answers; waits = h.waits }
told_up s (Post who port None y) v own h = record { answers = answer_more s v.callers who.caller y.answer own.0.answers h.answers; waits = h.waits }
told_up s (Post who port (Some m) y) v own h = record {
  answers = answer_more s v.callers who.caller y.answer own.0.answers h.answers;
  waits = λ other i p is. elim (growth other port (record { poster = who; medium = m }) v.ports) [
    | Same same ↦ h.waits other i p (rw same at is)
    | Longer here more ↦ elim (get_more (at other v.ports) (record { poster = who; medium = m }) i p (rw more at is)) [
      | inl old ↦ h.waits other i p old
      | inr new ↦ subst (λ (q : Received). IsVariableWithin (Some q.medium) × FitsWho s q.poster) (sym new.1) (own.1, own.2)
    ]
  ];
}
told_up s (Get who port y) v own h = record {
  answers = answer_more s v.callers who.caller y.answer own.answers h.answers;
  waits = λ other i p is. (let there = rest_at other port v.ports i p is in h.waits other there.0 p there.1);
}

-- ---- what steps are given

pub chunk_made : (s : ScriptData) (media : List (List Chunk)) (made : List CoderId) → AreWithin s media made → (c j : ℕ) → IsChunkThere (chunk_at media (steps_of s c) j)
chunk_made s media made within c j = by_option IsChunkThere (chunk_at media (steps_of s c) j) tt (λ chunk is.
    option_and_then_some (chunk_by media) (slice_get (steps_of s c) j) chunk is (λ x there made. within.chunks c j x chunk there made))

pub contents_within : (s : ScriptData) (media : List (List Chunk)) (made : List CoderId) (c j : ℕ) (x : MediaStep) → AreWithin s media made → slice_get (steps_of s c) j ≡ Some (Step.Media x) → IsContentWithin x
contents_within s media made c j (MediaStep.Audio bind (Some init)) within is = within.sounds c j bind init is
contents_within s media made c j (MediaStep.Frame bind (Some init)) within is = within.frames c j bind init is
contents_within s media made c j (MediaStep.Buffer bind bytes) within is = within.buffers c j bind bytes is
contents_within s media made c j (MediaStep.Buffered bind i) within is = within.inits c j bind i is
contents_within s media made c j x within is = tt

-- what an encode hands over
medium_own : (shape : MediaShape) (bytes : List ℕ) → IsMediumShapeWithin shape → IsBytes bytes → IsInputWithin (medium_command shape bytes)
medium_own (MediaShape.Sound shape) bytes own small = (own, small)
medium_own (MediaShape.Image shape) bytes own small = (own, small)

-- which is cut to what its shape needs
cut_small : (shape : MediaShape) (bytes : List ℕ) → IsBytes bytes → IsBytes (content_in shape bytes)
cut_small (MediaShape.Sound shape) bytes small = take_small (needed shape) bytes small
cut_small (MediaShape.Image shape) bytes small = take_small (picture_size shape) bytes small

handed_own : (number : ℕ) (accepts : Bool) (shape : MediaShape) (held : Option Reference) → IsMediumShapeWithin shape → IsHeldWithin held → IsOwnCall (Call.Encode (handed_by number accepts shape held))
handed_own number true shape (Some r) own small = medium_own shape (content_in shape r.bytes) own (cut_small shape r.bytes small)
handed_own number false shape (Some r) own small = tt
handed_own number accepts shape None own small = tt

-- ---- outputs

-- so an entry passes with the judge of outputs
pub holds_own : (laws : CodesAreBytes) (e : Entry) → IsOwnEntry e → HoldsOwn (judge laws) e
holds_own laws (Entry.Call who (Call.Configure config)) own = own
holds_own laws (Entry.Call who (Call.Decode chunk)) own = own
holds_own laws (Entry.Call who (Call.Encode (Handed.Cloned medium))) own = own
holds_own laws _ own = tt

-- each output of a history
pub output_own : CodesAreBytes → (o : Opening) (h : List Entry) → ((p : ℕ) (e : Entry) → slice_get h p ≡ Some e → IsOwnEntry e) → (n : ℕ) (u : output.Unit) → output_at o h n ≡ Some u → IsUnitWithin u
output_own laws o h each n u is =
    let own = all_from (HoldsOwn (judge laws)) h (λ p e there. holds_own laws e (each p e there)) in
    all_at IsUnitWithin (outputs_of (shown o h)) n u (outputs_each IsUnitWithin o h (outputs_are (judge laws) o h own)) is

found_own : CodesAreBytes → (k : ℕ) (v : Course) → IsCourseOwn v.codecs v.media → IsOutputWithin (found_at k (codec_at k v.codecs))
found_own laws k v h =
    let d = codec_at k v.codecs in
    let n = (state_of d).control.taken in
    by_option (λ o. IsOutputWithin (option_map (λ u. record { unit = u; answer = StepResult.Unit k (length d.history) n }) o)) (output_at d.opening d.history n) tt
    (λ u is. output_own laws d.opening d.history (λ p e there. h.entries k p e (rw (← history_at k v.codecs) at there)) n u is)

-- ---- steps

-- the oldest that waits in a port
front_within : (s : ScriptData) (l : List Received) → ((i : ℕ) (p : Received) → slice_get l i ≡ Some p → IsVariableWithin (Some p.medium) × FitsWho s p.poster) → IsReceivedWithin (front_of l) × FitsReceived s (front_of l)
front_within s [] all = (tt, tt)
front_within s (p ∷ ps) all = all 0 p refl

-- what a step posts
posted_within : (o : Option Medium) → IsVariableWithin o → IfSome (option_and_then (λ m. if_held m m.held) o) (λ x. IsVariableWithin (Some x))
posted_within None own = tt
posted_within (Some m) own = elim m.held as (λ held. IfSome (if_held m held) (λ x. IsVariableWithin (Some x))) [ None ↦ tt | Some r ↦ own ]

module _ (laws : CodesAreBytes) (s : ScriptData) (media : List (List Chunk)) (made : List CoderId) (sound : is_sound s ≡ true) (within : AreWithin s media made) (v : Course) (h : IsCourseOwn v.codecs v.media) (told : IsToldWithin s v) where
  -- a caller's step that is there
  step_who : (who : Who) (x : Step) → slice_get (steps_of s who.caller) who.step ≡ Some x → FitsWho s who
  step_who who x is =
      let few = and_parts (nat_le (length s.codecs) most_codecs) _ (parts_of s sound).few in
      let few_callers = leb-true (length s.callers) most_callers (and_parts (nat_le (length s.callers) most_callers) (nat_le (sum_by (λ c. length c.steps) s.callers) most_steps) few.1).0 in
      let caller = caller_of_step s.callers who.caller who.step x is in
      let there = slice_get_within s.callers who.caller caller.0 caller.1 in
      ((there, omega (arith, there, few_callers)), omega (arith, slice_get_within caller.0.steps who.step x caller.2, few_steps s who.caller caller.0 sound caller.1))

  sound_media : (who : Who) (x : MediaStep) → slice_get (steps_of s who.caller) who.step ≡ Some (Step.Media x) → (before : List Step) × (is_sound_media s.codecs before x ≡ true)
  sound_media who x is =
      let caller = caller_of_step s.callers who.caller who.step (Step.Media x) is in
      (take who.step caller.0.steps, step_at s who.caller who.step caller.0 (Step.Media x) sound caller.1 caller.2)

  -- what a step comes to that takes no output
  own_fine : (who : Who) (b : Brought) (x : MediaStep) → slice_get (steps_of s who.caller) who.step ≡ Some (Step.Media x) → b.taken ≡ None → IsChunkThere b.chunk → IsReceivedWithin b.received → FitsReceived s b.received
      → IfSome (media_came (next_numbers v.media.pool) who b x (variables_of who.caller v.media.variables)) (IsFine s)
  own_fine who b x is none chunk got by =
      let sure = sound_media who x is in
      came_fine s (next_numbers v.media.pool) who b x (variables_of who.caller v.media.variables) (contents_within s media made who.caller who.step x within is) (few_of s.codecs sure.0 x sure.1) (size_small_of s.codecs sure.0 x sure.1) none chunk got by (h.variables who.caller)

  copied_there : (c : ℕ) (x : MediaStep) → IsChunkThere (copied_chunk media (steps_of s c) x)
  copied_there c x = by_option (λ o. IsChunkThere (option_and_then (chunk_at media (steps_of s c)) o)) (chunk_in x) tt (λ i is. chunk_made s media made within c i)

  handle_holds : (who : Who) (o : Option Came) → IfSome o (IsFine s) → MoveHolds s (handle_move who o)
  handle_holds who None fine = tt
  handle_holds who (Some y) fine = fine

  media_holds : (who : Who) (x : MediaStep) → slice_get (steps_of s who.caller) who.step ≡ Some (Step.Media x) → MoveHolds s (media_move s media who x v)
  media_holds who (MediaStep.Take on bind kind) is =
      let vs = variables_of who.caller v.media.variables in
      let d = codec_at on v.codecs in
      let n = (state_of d).control.taken in
      let found : IsNamed (found_at on d) = by_option (λ o. IsNamed (option_map (λ u. record { unit = u; answer = StepResult.Unit on (length d.history) n }) o)) (output_at d.opening d.history n) tt (λ u there local. absurd cc) in
      by_option (λ o. IfSome o (IsFine s) → MoveHolds s (take_move who on d o)) (taken_came (next_numbers v.media.pool) who.step (found_at on d) vs) (λ none local. absurd cc) (λ y there fine. fine)
      (take_fine s (next_numbers v.media.pool) who.step (found_at on d) vs found (found_own laws on v h) (h.variables who.caller))
  media_holds who (MediaStep.Encode on variable) is =
      let vs = variables_of who.caller v.media.variables in
      by_option (λ o. IsMediumThere o → MoveHolds s (call_move who on (option_map (encode_of v.media.pool (codec_at on v.codecs)) o))) (lendable_at vs variable.step) (λ none local. tt)
      (λ x there fine. handed_own (references_made v.media.pool) (is_configured (state_of (codec_at on v.codecs)).control) x.shape x.held fine.0 fine.1) (medium_found vs variable.step (h.variables who.caller))
  media_holds who (MediaStep.Post to content) is =
      let vs = variables_of who.caller v.media.variables in
      (own_fine who (record { chunk = None; taken = None; received = None }) (MediaStep.Post to content) is refl tt tt tt, posted_within (medium_at vs content.step) (medium_within vs content.step (h.variables who.caller)), step_who who (Step.Media (MediaStep.Post to content)) is)
  media_holds who (MediaStep.Receive from bind kind) is =
      let front = front_within s (at from v.ports) (λ i p there. told.waits from i p there) in
      own_fine who (record { chunk = None; taken = None; received = front_of (at from v.ports) }) (MediaStep.Receive from bind kind) is refl tt front.0 front.1
  media_holds who x is =
      let b : Brought = record { chunk = copied_chunk media (steps_of s who.caller) x; taken = None; received = None } in
      handle_holds who (media_came (next_numbers v.media.pool) who b x (variables_of who.caller v.media.variables)) (own_fine who b x is refl (copied_there who.caller x) tt tt)

  look_holds : (o : Option StepResult) → mark_of (look_of_flush v.codecs o) ≡ mark.Local → FitsResult s (look_of_flush v.codecs o)
  look_holds None local = tt
  look_holds (Some (StepResult.Call k place error)) local = absurd cc
  look_holds (Some r) local = tt

  step_holds : (who : Who) (x : Step) → slice_get (steps_of s who.caller) who.step ≡ Some x → MoveHolds s (step_move s media who x v)
  step_holds who (Step.Configure on config) is = λ valid. within.configs who.caller who.step on config is
  step_holds who (Step.Decode on chunk) is =
      let vs = variables_of who.caller v.media.variables in
      let steps = steps_of s who.caller in
      by_option (λ o. IsChunkThere o → MoveHolds s (call_move who on (option_map Call.Decode o))) (chunk_for media steps vs chunk.step) (λ none local. tt) (λ x there fine. fine) (chunk_found (chunk_at media steps chunk.step) vs chunk.step (chunk_made s media made within who.caller chunk.step) (h.variables who.caller))
  step_holds who (Step.Media x) is = media_holds who x is
  step_holds who (Step.Poll promise) is = look_holds (slice_get (at who.caller v.callers) promise.step)
  step_holds who (Step.Await promise) is = look_holds (slice_get (at who.caller v.callers) promise.step)
  step_holds who (Step.State on) is = λ local. absurd cc
  step_holds who (Step.Chunk bind source) is = λ local. tt
  step_holds who _ is = tt

  -- ---- items

  advance_holds : {X : Type 0} (k : ℕ) (f : X → Entry) (o : Option X) → ((x : X) → IsOwnEntry (f x)) → MoveHolds s (advance k (option_map f o))
  advance_holds k f None own = tt
  advance_holds k f (Some x) own = own x

  item_holds : (wants : Bool) (x : OrderItem) → IsMoment x → MoveHolds s (item_move s media wants x v)
  item_holds wants (OrderItem.Caller c) own =
      let who : Who = record { caller = c; step = length (at c v.callers) } in
      by_option (λ o. MoveHolds s (next_move s media who o v)) (slice_get (steps_of s c) who.step) tt (λ x is. step_holds who x is)
  item_holds wants (OrderItem.Start k) own = advance_holds k _ (start_item (state_of (codec_at k v.codecs)).control) (λ i. tt)
  item_holds wants (OrderItem.Done k moment) own = advance_holds k _ (state_of (codec_at k v.codecs)).control.running (λ r. own)
  item_holds wants (OrderItem.Turn k) own = elim (state_of (codec_at k v.codecs)).control.tasks as (λ ts. MoveHolds s (advance k (turn_on ts))) [ [] ↦ tt | t ∷ ts ↦ tt ]
  item_holds wants (OrderItem.Reclaim k moment) own = cond_both (may_reclaim moment (state_of (codec_at k v.codecs)).control) _ _ (λ o. MoveHolds s (advance k o)) (λ is. own) (λ is. tt)

-- ---- the order

follows_up : CodesAreBytes → HeldStays → (s : ScriptData) (media : List (List Chunk)) (made : List CoderId) (most : ℕ) (xs : List OrderItem) (v u : Course) (n : ℕ) → is_sound s ≡ true → AreWithin s media made → ((i : ℕ) (x : OrderItem) → slice_get xs i ≡ Some x → IsMoment x)
    → IsCourseAfter n most v → IsToldWithin s v → Follows s media xs v u → IsCourseAfter (n + length xs) most u × IsToldWithin s u
follows_up laws stays s media made most [] v u n sound within all h told follows = (rw follows (subst (λ (m : ℕ). IsCourseAfter m most v) (omega arith) h), rw follows told)
follows_up laws stays s media made most (x ∷ xs) v u n sound within all h told follows =
    let move = item_move s media follows.0 x v in
    let own = item_holds laws s media made sound within v h.own told follows.0 x (all 0 x refl) in
    let next = move_up stays n most s move v own h in
    let rest = follows_up laws stays s media made most xs (follow_item s media follows.0 x v) u (n + 1) sound within (λ i y is. all (suc i) y is) next (told_up s move v own told) follows.1 in
    (subst (λ (m : ℕ). IsCourseAfter m most u) (omega arith) rest.0, rest.1)

no_codec : (most : ℕ) (cs : List CodecItem) (k : ℕ) → (at k (histories (map (λ c. new_codec (opening_of c)) cs)) ≡ []) × IsBoxUpTo most (codec_at k (map (λ c. new_codec (opening_of c)) cs)).holding.box
no_codec most (c ∷ cs) (suc k) = no_codec most cs k
no_codec _ _ _ = (refl, tt)

no_variables : (cs : List CallerItem) (c : ℕ) → AreVariables (variables_of c (map (λ x. []) cs))
no_variables (x ∷ cs) (suc c) = no_variables cs c
no_variables _ _ = tt

pub course_up : CodesAreBytes → HeldStays → (s : ScriptData) (media : List (List Chunk)) (made : List CoderId) (u : Course) → is_sound s ≡ true → AreWithin s media made → Follows s media (order_items s) (nothing_yet s made) u
    → IsCourseAfter (length (order_items s)) (length made) u × IsToldWithin s u
course_up laws stays s media made u sound within follows =
    let up = follows_up laws stays s media made (length made) (order_items s) (nothing_yet s made) u 0 sound within within.moments begun untold follows in
    (subst (λ (m : ℕ). IsCourseAfter m (length made) u) (omega arith) up.0, up.1)
  where
    begun : IsCourseAfter 0 (length made) (nothing_yet s made)
    begun = record {
      few = λ k. omega (arith, ap length (no_codec 0 s.codecs k).0);
      slots = record { long_at_most = omega arith; made = omega arith; ops = λ i e is. absurd cc };
      boxes = λ k. (no_codec (length made) s.codecs k).1;
      media = omega arith;
      own = record { entries = λ k p e is. absurd (let none : None ≡ Some e = rw (no_codec 0 s.codecs k).0 at is in cc); variables = no_variables s.callers };
    }

    untold : IsToldWithin s (nothing_yet s made)
    untold = record {
      answers = λ c j r is local. absurd (let none : None ≡ Some r = ap (λ (l : List StepResult). slice_get l j) (sym (at_empty c s.callers)) ∙ is in cc);
      waits = λ port i p is. absurd (let none : None ≡ Some p = ap (λ (l : List Received). slice_get l i) (sym (at_empty port s.ports)) ∙ is in cc);
    }
