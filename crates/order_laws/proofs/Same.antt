-- Following an order makes one run, where the same ends want memory and as many boxes of each id are there.
use Rattle.std.proofs.Common.{ℕ, zero, suc, ◌≡◌, ◌<◌, Bool, false, List, [], ◌∷◌, ◌++◌, length, map, Option, Some, None, refl, ap, sym, subst, ◌∙◌, arith, append_assoc, append-nil, map-id}
use mathlib.Core.List.{map-map}
use Rattle.std.specs.Prelude.{slice_get, option_map}
use Rattle.wc_base.specs.declared.who.{By.By, Who.Who}
use Rattle.wc_config.specs.declared.codec.CoderId.{CoderId}
use Rattle.wc_chunk.specs.declared.chunk.Chunk.{Chunk}
use Rattle.wc_pool.specs.Bag.{held_in}
use Rattle.slot_registry.specs.Slots.{SlotsValue}
use Rattle.codec_definitions.specs.declared.unit.Unit as media
use Rattle.codec_model.specs.{declared.entry.Entry.Entry, declared.entry.Opening.Opening, declared.entry.Running.Running, Replay.answer_to}
use Rattle.codec_model.specs.Shown.{each_shown}
use Rattle.codec_accounts.specs.{Owed.at, ListLaws.get_kept, ListLaws.get_end}
use Rattle.codec_accounts.specs.AccountLaws.{history_at}
use Rattle.codec_accounts.specs.Codec.{Holding, CodecValue, state_of, codec_at, histories, BoxStep, Renew, slots_after, holding_after, next_by, step_by}
use Rattle.script_types.specs.declared.{script.CodecItem.CodecItem, script.OrderItem.OrderItem, script.ScriptData.ScriptData, steps.Step.Step}
use Rattle.script_types.specs.declared.steps.MediaStep.{MediaStep}
use Rattle.report_text.specs.declared.result.StepResult.{StepResult}
use Rattle.run_model.specs.declared.run.CallerTrace.{CallerTrace}
use Rattle.run_model.specs.declared.run.CodecTrace.{CodecTrace}
use Rattle.run_model.specs.declared.run.Run.{Run}
use Rattle.run_model.specs.Recorded.{Recorded, none_received, take_entry, steps_of}
use Rattle.run_model.specs.Follow.{Course, record_of, Move, Advance, Ask, Receive, result_of, after_move, with_result, with_entry, with_media, order_items, item_move, next_move, step_move, done_entry, end_of, outcome_for, follow_item, Follows, nothing_yet}
use Rattle.run_model.specs.Fits.{recorded_of, IsLegalTrace, AreLegalTraces, IsLegalRun, FollowsTheOrder}
use Rattle.order_laws.specs.Same.{is_want, wants_memory, SameWants, SameBoxes}
use Rattle.order_laws.specs.Ends.{is_listed, is_listed_end, course_with, AreListed}
use Rattle.order_laws.proofs.Entries.{longer_history, made_stays, this_history}

-- ---- registries of as many boxes

-- the same registry of other boxes
abbrev with_boxes : List CoderId → SlotsValue → SlotsValue
with_boxes others s = record s { made = others }

boxes_same : (others : List CoderId) (c : By) (st : BoxStep) (h : Holding) (s : SlotsValue) → SameBoxes s.made others
    → (holding_after c st h (with_boxes others s) ≡ holding_after c st h s) × (slots_after c st h.box (with_boxes others s) ≡ with_boxes others (slots_after c st h.box s))
boxes_same others c (Renew id) h s same = rw (same id) (refl, refl)
boxes_same others c st h s same = (refl, refl)

-- ---- courses with a registry of other boxes

abbrev with_made : List CoderId → Course → Course
with_made others v = record v { slots = with_boxes others v.slots }

entry_same : (others : List CoderId) (k : ℕ) (e : Entry) (v : Course) → SameBoxes v.slots.made others → with_entry k e (with_made others v) ≡ with_made others (with_entry k e v)
entry_same others k e v same = let d = codec_at k v.codecs in let b = boxes_same others (next_by k d) (step_by e d) d.holding v.slots same in rw (b.0, b.1) refl

move_same : (others : List CoderId) (m : Move) (v : Course) → SameBoxes v.slots.made others → after_move m (with_made others v) ≡ with_made others (after_move m v)
move_same others (Advance k e) v same = entry_same others k e v same
move_same others (Ask who k x) v same = ap (with_result who.caller (result_of k x (codec_at k v.codecs))) (entry_same others k (Entry.Call who x) v same)
move_same others (Receive who k n y) v same = ap (λ (w : Course). with_result who.caller y.answer (with_media who y w)) (entry_same others k (take_entry who n) v same)
move_same others m v same = refl

-- a move leaves the boxes that were made, and histories grow at their end
move_keeps : (m : Move) (v : Course) (k : ℕ) → ((after_move m v).slots.made ≡ v.slots.made) × ((more : List Entry) × (at k (histories (after_move m v).codecs) ≡ at k (histories v.codecs) ++ more))
move_keeps (Advance j e) v k = (made_stays v j e, longer_history v j k e)
move_keeps (Ask who j x) v k = (made_stays v j (Entry.Call who x), longer_history v j k (Entry.Call who x))
move_keeps (Receive who j n y) v k = (made_stays v j (take_entry who n), longer_history v j k (take_entry who n))
move_keeps m v k = (refl, ([], sym (append-nil (at k (histories v.codecs)))))

in_range : (ds : List CodecValue) (k : ℕ) (r : Running) → (state_of (codec_at k ds)).control.running ≡ Some r → k < length ds
in_range [] k r h = absurd cc
in_range (d ∷ ds) zero r h = omega arith
in_range (d ∷ ds) (suc k) r h = let lt = in_range ds k r h in omega (arith, lt)

wanted_by : (wants : Bool) (refusal : Option ℕ) (answer : Option (List media.Unit)) → is_want (outcome_for wants refusal answer) ≡ wants
wanted_by false None (Some units) = refl
wanted_by wants refusal answer = refl

module _ (s : ScriptData) (media : List (List Chunk)) (others : List CoderId) where
  step_same : (who : Who) (x : Step) (v : Course) → step_move s media who x (with_made others v) ≡ step_move s media who x v
  step_same who (Step.Media (MediaStep.CloseData of)) v = refl
  step_same who x v = refl

  item_same : (wants : Bool) (x : OrderItem) (v : Course) → item_move s media wants x (with_made others v) ≡ item_move s media wants x v
  item_same wants (OrderItem.Caller c) v =
      let who : Who = record { caller = c; step = length (at c v.callers) } in
      elim (slice_get (steps_of s c) who.step) as (λ (o : Option Step). next_move s media who o (with_made others v) ≡ next_move s media who o v) [ None ↦ refl | Some x ↦ step_same who x v ]
  item_same wants x v = refl

  follow_same : (wants : Bool) (x : OrderItem) (v : Course) → SameBoxes v.slots.made others → follow_item s media wants x (with_made others v) ≡ with_made others (follow_item s media wants x v)
  follow_same wants x v same = ap (λ (m : Move). after_move m (with_made others v)) (item_same wants x v) ∙ move_same others (item_move s media wants x v) v same

  -- ---- histories grow at their end

  grows : (xs : List OrderItem) (v w : Course) → Follows s media xs v w → (k : ℕ) → (more : List Entry) × (at k (histories w.codecs) ≡ at k (histories v.codecs) ++ more)
  grows [] v w f k = ([], ap (λ (c : Course). at k (histories c.codecs)) f ∙ sym (append-nil (at k (histories v.codecs))))
  grows (x ∷ xs) v w f k =
      let one = (move_keeps (item_move s media f.0 x v) v k).1 in
      let rest = grows xs (follow_item s media f.0 x v) w f.1 k in
      (one.0 ++ rest.0, rest.1 ∙ (ap (λ (l : List Entry). l ++ rest.0) one.1 ∙ append_assoc (at k (histories v.codecs)) one.0 rest.0))

  -- an entry that was made stands in what follows
  stays_there : (xs : List OrderItem) (v w : Course) (k : ℕ) (e : Entry) → k < length v.codecs → Follows s media xs (with_entry k e v) w → slice_get (at k (histories w.codecs)) (length (at k (histories v.codecs))) ≡ Some e
  stays_there xs v w k e lt f =
      let h = at k (histories v.codecs) in
      let rest = grows xs (with_entry k e v) w f k in
      rw (rest.1, this_history v k e lt) (get_kept (h ++ e ∷ []) rest.0 (length h) e (get_end h e))

  -- ---- ends

  -- two ends of the same item that are not idle want memory both or neither
  wants_agree : (xs : List OrderItem) (k moment : ℕ) (a b : Bool) (v w z : Course) (r : Running) → SameWants (histories w.codecs) (histories z.codecs) → (state_of (codec_at k v.codecs)).control.running ≡ Some r
      → Follows s media xs (follow_item s media a (OrderItem.Done k moment) v) w → Follows s media xs (follow_item s media b (OrderItem.Done k moment) (with_made others v)) z → a ≡ b
  wants_agree xs k moment a b v w z r same runs f g =
      let d = codec_at k v.codecs in
      let refusal = d.holding.refusal in
      let answer = answer_to r.kind (state_of d).running_given in
      let lt = in_range v.codecs k r runs in
      let e : Bool → Entry = λ c. end_of c moment refusal (state_of d).running_given r in
      let ends : (c : Bool) → done_entry c moment d ≡ Some (e c) = λ c. ap (option_map (end_of c moment refusal (state_of d).running_given)) runs in
      let there = stays_there xs v w k (e a) lt (rw (ends a) at f) in
      let here = stays_there xs (with_made others v) z k (e b) lt (rw (ends b) at g) in
      sym (wanted_by a refusal answer) ∙ (ap wants_memory (sym there) ∙ (same k (length (at k (histories v.codecs))) ∙ (ap wants_memory here ∙ wanted_by b refusal answer)))

  done_same : (xs : List OrderItem) (k moment : ℕ) (a b : Bool) (v w z : Course) → SameBoxes v.slots.made others → SameWants (histories w.codecs) (histories z.codecs)
      → Follows s media xs (follow_item s media a (OrderItem.Done k moment) v) w → Follows s media xs (follow_item s media b (OrderItem.Done k moment) (with_made others v)) z → (o : Option Running) → (state_of (codec_at k v.codecs)).control.running ≡ o
      → follow_item s media b (OrderItem.Done k moment) (with_made others v) ≡ with_made others (follow_item s media a (OrderItem.Done k moment) v)
  done_same xs k moment a b v w z boxes same f g None none = rw none refl
  done_same xs k moment a b v w z boxes same f g (Some r) runs = rw (sym (wants_agree xs k moment a b v w z r same runs f g)) (follow_same a (OrderItem.Done k moment) v boxes)

  item_alike : (xs : List OrderItem) (x : OrderItem) (a b : Bool) (v w z : Course) → SameBoxes v.slots.made others → SameWants (histories w.codecs) (histories z.codecs)
      → Follows s media xs (follow_item s media a x v) w → Follows s media xs (follow_item s media b x (with_made others v)) z → follow_item s media b x (with_made others v) ≡ with_made others (follow_item s media a x v)
  item_alike xs (OrderItem.Done k moment) a b v w z boxes same f g = done_same xs k moment a b v w z boxes same f g (state_of (codec_at k v.codecs)).control.running refl
  item_alike xs x a b v w z boxes same f g = follow_same a x v boxes

  order_same : (xs : List OrderItem) (v w z : Course) → SameBoxes v.slots.made others → SameWants (histories w.codecs) (histories z.codecs) → Follows s media xs v w → Follows s media xs (with_made others v) z → z ≡ with_made others w
  order_same [] v w z boxes same f g = g ∙ ap (with_made others) (sym f)
  order_same (x ∷ xs) v w z boxes same f g =
      order_same xs (follow_item s media f.0 x v) w z (rw (move_keeps (item_move s media f.0 x v) v 0).0 boxes) same f.1 (subst (λ (u : Course). Follows s media xs u z) (item_alike xs x f.0 g.0 v w z boxes same f.1 g.1) g.1)

  -- ---- ends that are listed

  -- an end that is not idle wants memory where its entry is listed
  listed_end : (listed : List (ℕ × ℕ)) (xs : List OrderItem) (k moment : ℕ) (a : Bool) (v w : Course) (r : Running) → AreListed listed (histories w.codecs) → (state_of (codec_at k v.codecs)).control.running ≡ Some r
      → Follows s media xs (follow_item s media a (OrderItem.Done k moment) v) w → a ≡ is_listed_end listed (OrderItem.Done k moment) v
  listed_end listed xs k moment a v w r are runs f =
      let d = codec_at k v.codecs in
      let refusal = d.holding.refusal in
      let answer = answer_to r.kind (state_of d).running_given in
      let e : Entry = end_of a moment refusal (state_of d).running_given r in
      let ends : done_entry a moment d ≡ Some e = ap (option_map (end_of a moment refusal (state_of d).running_given)) runs in
      let there = stays_there xs v w k e (in_range v.codecs k r runs) (rw ends at f) in
      let place = length (at k (histories v.codecs)) in
      sym (wanted_by a refusal answer) ∙ (ap wants_memory (sym there) ∙ (are k place ∙ ap (λ (h : List Entry). is_listed listed k (length h)) (history_at k v.codecs)))

  done_listed : (listed : List (ℕ × ℕ)) (xs : List OrderItem) (k moment : ℕ) (a : Bool) (v w : Course) → AreListed listed (histories w.codecs) → Follows s media xs (follow_item s media a (OrderItem.Done k moment) v) w
      → (o : Option Running) → (state_of (codec_at k v.codecs)).control.running ≡ o → follow_item s media a (OrderItem.Done k moment) v ≡ follow_item s media (is_listed_end listed (OrderItem.Done k moment) v) (OrderItem.Done k moment) v
  done_listed listed xs k moment a v w are f None none = rw none refl
  done_listed listed xs k moment a v w are f (Some r) runs = ap (λ (b : Bool). follow_item s media b (OrderItem.Done k moment) v) (listed_end listed xs k moment a v w r are runs f)

  item_listed : (listed : List (ℕ × ℕ)) (xs : List OrderItem) (x : OrderItem) (a : Bool) (v w : Course) → AreListed listed (histories w.codecs) → Follows s media xs (follow_item s media a x v) w
      → follow_item s media a x v ≡ follow_item s media (is_listed_end listed x v) x v
  item_listed listed xs (OrderItem.Done k moment) a v w are f = done_listed listed xs k moment a v w are f (state_of (codec_at k v.codecs)).control.running refl
  item_listed listed xs x a v w are f = refl

  -- what follows an order is what the order makes with its own ends
  order_listed : (listed : List (ℕ × ℕ)) (xs : List OrderItem) (v w : Course) → AreListed listed (histories w.codecs) → Follows s media xs v w → w ≡ course_with listed s media xs v
  order_listed listed [] v w are f = f
  order_listed listed (x ∷ xs) v w are f = order_listed listed xs (follow_item s media f.0 x v) w are f.1 ∙ ap (course_with listed s media xs) (item_listed listed xs x f.0 v w are f.1)

-- ---- whole runs

callers_same : (ts bs : List CallerTrace) → map (λ (c : CallerTrace). c.results) ts ≡ map (λ (c : CallerTrace). c.results) bs → ts ≡ bs
callers_same ts bs h =
    let traces : List (List StepResult) → List CallerTrace = map (λ (rs : List StepResult). record { results = rs }) in
    let back : (l : List CallerTrace) → traces (map (λ (c : CallerTrace). c.results) l) ≡ l = λ l. map-map (λ (rs : List StepResult). record { results = rs }) (λ (c : CallerTrace). c.results) l ∙ map-id l in
    sym (back ts) ∙ (ap traces h ∙ back bs)

trace_same : (c : CodecItem) (a b : CodecTrace) → IsLegalTrace c a → IsLegalTrace c b → a.entries ≡ b.entries → a ≡ b
trace_same c a b p q entries =
    let opening : a.opening ≡ b.opening = p.opening ∙ sym q.opening in
    let shown : a.shown ≡ b.shown = p.shown ∙ (ap (λ (o : Opening). each_shown o a.entries) opening ∙ (ap (each_shown b.opening) entries ∙ sym q.shown)) in
    λ i. record { opening = opening i; entries = entries i; shown = shown i }

traces_same : (cs : List CodecItem) (ts bs : List CodecTrace) → AreLegalTraces cs ts → AreLegalTraces cs bs → map (λ (t : CodecTrace). t.entries) ts ≡ map (λ (t : CodecTrace). t.entries) bs → ts ≡ bs
traces_same [] [] [] p q h = refl
traces_same (c ∷ cs) (a ∷ ts) (b ∷ bs) p q h =
    let one : a.entries ≡ b.entries = cc in
    let rest : map (λ (t : CodecTrace). t.entries) ts ≡ map (λ (t : CodecTrace). t.entries) bs = cc in
    rw (trace_same c a b p.0 q.0 one, traces_same cs ts bs p.1 q.1 rest) refl
traces_same cs ts bs p q h = absurd search

-- legal runs that recorded the same are one
recorded_once : (s : ScriptData) (run again : Run) → IsLegalRun s run → IsLegalRun s again → recorded_of none_received run ≡ recorded_of none_received again → run ≡ again
recorded_once s run again p q is =
    let callers = callers_same run.callers again.callers (ap (λ (r : Recorded). r.callers) is) in
    let codecs = traces_same s.codecs run.codecs again.codecs p.codecs q.codecs (ap (λ (r : Recorded). r.codecs) is) in
    let pool : run.pool ≡ again.pool = ap (λ (r : Recorded). r.pool) is in
    let held : run.held ≡ again.held = p.held ∙ (ap held_in pool ∙ sym q.held) in
    λ i. record { callers = callers i; codecs = codecs i; pool = pool i; slots = (is i).slots; held = held i }

pub one_run : (s : ScriptData) (media : List (List Chunk)) (made others : List CoderId) (run again : Run) → SameBoxes made others → FollowsTheOrder s media made run → FollowsTheOrder s media others again
    → IsLegalRun s run → IsLegalRun s again → SameWants (recorded_of none_received run).codecs (recorded_of none_received again).codecs → run ≡ again
one_run s media made others run again boxes f g p q same =
    let wants : SameWants (histories f.course.codecs) (histories g.course.codecs) = rw (sym (ap (λ (w : Recorded). w.codecs) f.is_recorded), sym (ap (λ (w : Recorded). w.codecs) g.is_recorded)) same in
    let is = f.is_recorded ∙ (ap (record_of none_received) (sym (order_same s media others (order_items s) (nothing_yet s made) f.course g.course boxes wants f.follows g.follows)) ∙ sym g.is_recorded) in
    recorded_once s run again p q is

pub one_run_with : (s : ScriptData) (media : List (List Chunk)) (made : List CoderId) (listed : List (ℕ × ℕ)) (run again : Run) → AreListed listed (recorded_of none_received run).codecs → FollowsTheOrder s media made run
    → recorded_of none_received again ≡ record_of none_received (course_with listed s media (order_items s) (nothing_yet s made)) → IsLegalRun s run → IsLegalRun s again → run ≡ again
one_run_with s media made listed run again are f with_ends p q =
    let wants : AreListed listed (histories f.course.codecs) = rw (sym (ap (λ (w : Recorded). w.codecs) f.is_recorded)) are in
    let is = f.is_recorded ∙ (ap (record_of none_received) (order_listed s media made listed (order_items s) (nothing_yet s made) f.course wants f.follows) ∙ sym with_ends) in
    recorded_once s run again p q is
