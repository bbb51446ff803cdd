-- What the ends of items tell is what the log of their codec and the registry's history have.
use Rattle.std.proofs.Common.{ℕ, suc, ◌≡◌, ◌≤◌, ◌&&◌, not, Bool, true, false, cond, List, [], ◌∷◌, ◌++◌, length, Option, Some, None, is_some, refl, ap, sym, subst, ◌∙◌, arith, append_assoc, length-append}
use Rattle.std.proofs.lemmas.List.{nil_from_length}
use Rattle.std.specs.Prelude.{option_to_list}
use Rattle.std.specs.List.{flat_map}
use Rattle.wc_base.specs.declared.who.By.{By}
use Rattle.wc_base.specs.declared.who.By.TheVariants as by
use Rattle.wc_base.specs.Views.{Log}
use Rattle.wc_base.specs.declared.seat.Passage.TheVariants.{Made, Look}
use Rattle.wc_config.specs.declared.codec.CoderId.{CoderId}
use Rattle.wc_config.specs.Configs.{coder_id_of, is_supported}
use Rattle.coder_api.specs.declared.slot.SlotEntry.{SlotEntry}
use Rattle.coder_api.specs.declared.slot.SlotOp.{SlotOp}
use Rattle.coder_api.specs.declared.slot.SlotOp.TheVariants as slot
use Rattle.codec_model.specs.declared.entry.Opening.{Opening}
use Rattle.codec_model.specs.declared.entry.Outcome.{Outcome}
use Rattle.codec_model.specs.declared.entry.Outcome.TheVariants as outcome
use Rattle.codec_model.specs.declared.entry.Entry.{Entry}
use Rattle.codec_model.specs.declared.entry.Entry.TheVariants as entry
use Rattle.codec_model.specs.declared.entry.Call.TheVariants as call
use Rattle.codec_model.specs.declared.entry.Item.{Item}
use Rattle.codec_model.specs.declared.entry.Work.{Work}
use Rattle.codec_model.specs.declared.entry.Work.TheVariants as work
use Rattle.codec_model.specs.Control.{front, may_start, start_item}
use Rattle.codec_model.specs.Held.{is_removal}
use Rattle.codec_model.specs.Replay.{State, Given, given_more, missing_coder, serves_too}
use Rattle.codec_model.specs.StepLaws.{EachStep, by_steps, begins_free}
use Rattle.codec_accounts.specs.Boxes.{Act, Asks, Begins, Ends, Removes, Other, Holds, holds_by, holds_after_end, holds_removed, newer, lacking, start_act, removal_act, act_of, MayCome}
use Rattle.codec_accounts.specs.ActLaws.{ActMakes, act_makes}
use Rattle.codec_accounts.specs.Registry.{Box, is_cause, acquire_of}
use Rattle.codec_logs.specs.declared.event.Event.{Event}
use Rattle.codec_logs.specs.Logs.{Track, entry_of, act_in, acquires_of, box_by, box_of, opening_track, track_made, Follows, IsLog, MayMake, AreAsked, AreTries, Tells}
use Rattle.shared_codec.specs.Dues.{slot_dues}
use Rattle.shared_codec.specs.Sums.{all_dues}
use Rattle.shared_codec.specs.Told.{asked_in, ending_in, ending_of, end_dues, AreAcquires, AreOfAsked, StandIn, IsRefusalAt, SaysSo, IsTold, AreTold}
use Rattle.shared_codec.specs.ToldLaws.{told_first, told_rest}
use Rattle.run_laws.specs.Paid.{by_cause}
use Rattle.run_laws.specs.Told.{Started, nothing_started, started_by, ops_of, EndIsTold, IsRefusalTold, EntryIsTold, EndsAreTold, LogTellsEnds}
use Rattle.run_laws.specs.Tries.{try_of, tries_by, IsRefusalOf, MayTry, IsGranted}
use Rattle.run_laws.proofs.Dues as dues
use Rattle.run_laws.proofs.Trying.{Working, work_more, itself, tries_append, tries_in, tries_split, past_event, longer_place, end_tries, done_is_end, next_here, next_tries, ops, no_true}

-- ---- what the start of an item asked for

wanted_is : (b : Bool) (wanted : Option CoderId) (id : CoderId) → cond b wanted None ≡ Some id → wanted ≡ Some id
wanted_is true wanted id h = h
wanted_is false wanted id h = absurd cc

wants : (w : Work) (g : Given) (id : CoderId) → missing_coder g w ≡ Some id → coder_id_of (given_more w g).config ≡ Some id
wants (work.Configure config) g id h = wanted_is (is_supported config && not (serves_too (coder_id_of g.config) config)) (coder_id_of config) id h
wants (work.Coded input) g id h = absurd cc
wants work.Flush g id h = absurd cc

no_ask : {X : Type 0} (b : Bool) (id : CoderId) → removal_act b ≡ Asks id → X
no_ask true id h = absurd cc
no_ask false id h = absurd cc

asks_some : (o : Option CoderId) (id : CoderId) → start_act o ≡ Asks id → o ≡ Some id
asks_some None id h = absurd cc
asks_some (Some other) id h = cc

start_wants : (i : Item) (is : List Item) (s : State) (id : CoderId) → s.control.work ≡ i ∷ is → may_start s.control ≡ true → start_act (lacking s.given (start_item s.control)) ≡ Asks id → coder_id_of (given_more i.work s.given).config ≡ Some id
start_wants i is s id first may asks =
    let front_is : start_item s.control ≡ Some i = ap (λ (b : Bool). cond b (front s.control.work) None) may ∙ ap front first in
    wants i.work s.given id (asks_some (missing_coder s.given i.work) id (subst (λ (o : Option Item). start_act (lacking s.given o) ≡ Asks id) front_is asks))

ends_no_ask : {X : Type 0} (id : CoderId) → Ends ≡ Asks id → X
ends_no_ask id h = absurd cc

each_wants : EachStep (λ e s t. (id : CoderId) → act_of e s ≡ Asks id → coder_id_of t.running_given.config ≡ Some id)
each_wants = record {
  refused = λ who x error s may e id asks. no_ask (is_removal (entry.Call who x) s) id asks;
  sent = λ who x w s m may e id asks. no_ask (is_removal (entry.Call who x) s) id asks;
  removes_all = λ who x s is e id asks. no_ask (is_removal (entry.Call who x) s) id asks;
  takes = λ who unit s may id asks. no_ask (is_removal (entry.Call who (call.Take unit)) s) id asks;
  grounds = λ who to s id asks. no_ask (is_removal (entry.Call who (call.Ground to)) s) id asks;
  start = λ i is epoch item s first may id asks. start_wants i is s id first (begins_free epoch item i s.control may) asks;
  done = λ r e epoch item moment o s running own is id asks. ends_no_ask id asks;
  turn = λ x ts s first id asks. no_ask (is_removal entry.Turn s) id asks;
  reclaim = λ moment s may id asks. no_ask (is_removal (entry.Reclaim moment) s) id asks;
}

-- what a state says that an item asked for, where it waits for a box or not
abbrev asked_by : Bool → State → Option CoderId
asked_by waits t = cond waits (coder_id_of t.running_given.config) None

wants_by : (a : Act) (b : Option Box) (h : Holds Box) (u t : State) (s : Started) → ActMakes a u t → ((id : CoderId) → a ≡ Asks id → coder_id_of t.running_given.config ≡ Some id) → (h.runs ≡ true → asked_by h.waits u ≡ s.asked) → (holds_by a b h).runs ≡ true → asked_by (holds_by a b h).waits t ≡ (started_by a h.place s).asked
wants_by (Asks id) b h u t s makes wanted was runs = wanted id refl
wants_by Begins b h u t s makes wanted was runs = refl
wants_by Ends b h u t s makes wanted was runs = cases h.old runs
  where
    cases : (old : Bool) → (holds_after_end old b h).runs ≡ true → asked_by (holds_after_end old b h).waits t ≡ s.asked
    cases true r = no_true r
    cases false r = no_true r
wants_by Removes b h u t s makes wanted was runs = cases h.runs runs
  where
    same : h.runs ≡ true → asked_by h.waits t ≡ s.asked
    same r = ap (λ (g : Given). cond h.waits (coder_id_of g.config) None) makes.0.given ∙ was r

    cases : (r : Bool) → (holds_removed r h).runs ≡ true → asked_by (holds_removed r h).waits t ≡ s.asked
    cases true r = same r
    cases false r = same r
wants_by Other b h u t s makes wanted was runs = ap (λ (g : Given). cond h.waits (coder_id_of g.config) None) makes.0.given ∙ was runs

wants_more : (k n : ℕ) (e : Event) (x : Track) (s : Started) → MayMake k n e x → (x.holds.runs ≡ true → asked_in x ≡ s.asked) → (track_made n e x).holds.runs ≡ true → asked_in (track_made n e x) ≡ (started_by (act_in e x) x.holds.place s).asked
wants_more k n e x s may was =
    let t : State = (track_made n e x).state in
    wants_by (act_in e x) (box_of (acquires_of e.acquires)) x.holds x.state t s (act_makes (entry_of e) x.state t may.legal) (by_steps _ each_wants (entry_of e) x.state t may.legal) was

-- ---- the acquires that an end tells

refused_of : (op : SlotOp) (id : CoderId) → acquire_of op ≡ id ∷ [] → box_by op ≡ None → IsRefusalOf id op
refused_of (slot.Acquire other number) id is none = absurd cc
refused_of (slot.Refused other out made) id is none = cc
refused_of (slot.Give other number) id is none = absurd cc

may_try : (asked : Option CoderId) (es : List SlotEntry) → AreOfAsked asked es → (asked ≡ None → es ≡ []) → AreTries es → length es ≤ 2 → MayTry asked (ops es)
may_try None es ids none tries few = ap ops (none refl)
may_try (Some id) [] ids none tries few = tt
may_try (Some id) (a ∷ []) ids none tries few = ids.0
may_try (Some id) (a ∷ b ∷ []) ids none tries few = (refused_of a.op id ids.0 tries.0, ids.1.0)
may_try (Some id) (a ∷ b ∷ c ∷ rest) ids none tries few = absurd (omega (arith, few))

few_acquires : (first second : Option SlotEntry) → length (option_to_list first ++ option_to_list second) ≤ 2
few_acquires None None = omega arith
few_acquires None (Some b) = omega arith
few_acquires (Some a) None = omega arith
few_acquires (Some a) (Some b) = omega arith

newer_some : (u v : Option Box) → v ≡ None → is_some (newer u v) ≡ true → is_some u ≡ true
newer_some None v none h = absurd (let bad = sym h ∙ ap is_some none in cc)
newer_some (Some b) v none h = refl

one_granted : (op : SlotOp) (id : CoderId) → acquire_of op ≡ id ∷ [] → is_some (box_by op) ≡ true → IsGranted id (op ∷ [])
one_granted (slot.Acquire other number) id is h = (let same : other ≡ id = cc in record { before = []; number = number; is = ap (λ (i : CoderId). slot.Acquire i number ∷ []) same })
one_granted (slot.Refused other out made) id is h = absurd cc
one_granted (slot.Give other number) id is h = absurd cc

granted : (id : CoderId) (es : List SlotEntry) → AreAcquires id es → AreTries es → is_some (box_of es) ≡ true → IsGranted id (ops es)
granted id [] ids tries h = absurd cc
granted id (a ∷ []) ids tries h = one_granted a.op id ids.0 h
granted id (a ∷ b ∷ rest) ids tries h =
    let more = granted id (b ∷ rest) ids.1 tries.1 (newer_some (box_of (b ∷ rest)) (box_by a.op) tries.0 h) in
    record { before = a.op ∷ more.before; number = more.number; is = ap (λ (l : List SlotOp). a.op ∷ l) more.is }

-- these acquires are all by this cause
abbrev AreMine : By → List SlotEntry → Type 0
AreMine cause [] = Unit {0}
AreMine cause (a ∷ rest) = (a.by ≡ cause) × AreMine cause rest

mine_front : (cause : By) (es fs : List SlotEntry) → AreMine cause (es ++ fs) → AreMine cause es
mine_front cause [] fs h = tt
mine_front cause (e ∷ es) fs h = (h.0, mine_front cause es fs h.1)

mine_last : (cause : By) (es : List SlotEntry) (e : SlotEntry) → AreMine cause (es ++ e ∷ []) → e.by ≡ cause
mine_last cause [] e h = h.0
mine_last cause (a ∷ es) e h = mine_last cause es e h.1

acquires_front : (id : CoderId) (es fs : List SlotEntry) → AreAcquires id (es ++ fs) → AreAcquires id es
acquires_front id [] fs h = tt
acquires_front id (e ∷ es) fs h = (h.0, acquires_front id es fs h.1)

try_is : (op : SlotOp) (id : CoderId) → acquire_of op ≡ id ∷ [] → try_of op ≡ op ∷ []
try_is (slot.Acquire other number) id is = refl
try_is (slot.Refused other out made) id is = refl
try_is (slot.Give other number) id is = absurd cc

tries_here : (cause : By) (e : SlotEntry) (rest : List SlotEntry) → e.by ≡ cause → try_of e.op ≡ e.op ∷ [] → tries_by cause (e ∷ rest) ≡ e.op ∷ tries_by cause rest
tries_here cause e rest mine is =
    ap (λ (b : Bool). cond b (try_of e.op) [] ++ tries_by cause rest) (ap (is_cause cause) mine ∙ itself cause) ∙ ap (λ (l : List SlotOp). l ++ tries_by cause rest) is

-- as many tries stand in a history as acquires of a cause stand in it
stand_few : (cause : By) (id : CoderId) (es slots : List SlotEntry) → StandIn es slots → AreMine cause es → AreAcquires id es → length es ≤ length (tries_by cause slots)
stand_few cause id [] slots h mine are = omega arith
stand_few cause id (e ∷ rest) slots h mine are =
    let before : List SlotEntry = h.0 in
    let behind : List SlotEntry = h.1 in
    let few = stand_few cause id rest behind h.3 mine.1 are.1 in
    let is : tries_by cause slots ≡ tries_by cause before ++ e.op ∷ tries_by cause behind =
    ap (tries_by cause) h.2 ∙ (tries_append cause before (e ∷ behind) ∙ ap (λ (l : List SlotOp). tries_by cause before ++ l) (tries_here cause e behind mine.0 (try_is e.op id are.0))) in
    let long = ap (λ (l : List SlotOp). length l) is ∙ length-append (tries_by cause before) (e.op ∷ tries_by cause behind) in
    omega (arith, few, long)

ops_long : (es : List SlotEntry) → length (ops es) ≡ length es
ops_long [] = refl
ops_long (e ∷ es) = ap suc (ops_long es)

ops_last : (es : List SlotEntry) (e : SlotEntry) → length (ops (es ++ e ∷ [])) ≡ suc (length es)
ops_last [] e = refl
ops_last (a ∷ es) e = ap suc (ops_last es e)

-- behind the refusal that is told its cause tried no more
refusal_told : (slots : List SlotEntry) (cause : By) (n : ℕ) (id : CoderId) (es : List SlotEntry) → IsRefusalAt slots n id es → AreAcquires id es → AreMine cause es → tries_by cause slots ≡ ops es → IsRefusalTold slots n cause id (ops es)
refusal_told slots cause n id es r are mine all =
    let op : SlotOp = slot.Refused id r.out r.all in
    let e : SlotEntry = record { by = cause; op = op } in
    let told : SlotEntry = record { by = r.cause; op = op } in
    let mine_all : AreMine cause (r.earlier ++ told ∷ []) = subst (AreMine cause) r.told mine in
    let are_all : AreAcquires id (r.earlier ++ told ∷ []) = subst (AreAcquires id) r.told are in
    let same : r.cause ≡ cause = mine_last cause r.earlier told mine_all in
    let is : slots ≡ r.before ++ e ∷ r.behind = r.is ∙ ap (λ (c : By). r.before ++ record { by = c; op = op } ∷ r.behind) same in
    let here : tries_by cause (e ∷ r.behind) ≡ op ∷ tries_by cause r.behind = tries_here cause e r.behind refl refl in
    let whole : tries_by cause r.before ++ op ∷ tries_by cause r.behind ≡ ops es =
    sym (ap (tries_by cause) is ∙ (tries_append cause r.before (e ∷ r.behind) ∙ ap (λ (l : List SlotOp). tries_by cause r.before ++ l) here)) ∙ all in
    let few = stand_few cause id r.earlier r.before r.stand (mine_front cause r.earlier (told ∷ []) mine_all) (acquires_front id r.earlier (told ∷ []) are_all) in
    let long : length (ops es) ≡ suc (length r.earlier) = ap (λ (l : List SlotEntry). length (ops l)) r.told ∙ ops_last r.earlier told in
    let sizes = sym (length-append (tries_by cause r.before) (op ∷ tries_by cause r.behind)) ∙ (ap (λ (l : List SlotOp). length l) whole ∙ long) in
    let none : tries_by cause r.behind ≡ [] = nil_from_length (tries_by cause r.behind) (omega (arith, few, sizes)) in
    record { out = r.out; made = r.all; before = r.before; behind = r.behind; is = is; place = r.place; last = ap (λ (l : List SlotOp). tries_by cause r.before ++ op ∷ l) (sym none) ∙ whole }

end_told : (slots : List SlotEntry) (cause : By) (asked : Option CoderId) (es : List SlotEntry) (o : Outcome) → AreOfAsked asked es → SaysSo slots asked es o → AreTries es → AreMine cause es → tries_by cause slots ≡ ops es
    → EndIsTold slots cause asked (ops es) o
end_told slots cause None es (outcome.NoSlot n) ids says tries mine all = says
end_told slots cause None es outcome.NoMemory ids says tries mine all = tt
end_told slots cause None es outcome.Refused ids says tries mine all = tt
end_told slots cause None es (outcome.Ran units) ids says tries mine all = tt
end_told slots cause (Some id) es (outcome.NoSlot n) ids says tries mine all = refusal_told slots cause n id es says ids mine all
end_told slots cause (Some id) es outcome.NoMemory ids says tries mine all = tt
end_told slots cause (Some id) es outcome.Refused ids says tries mine all = granted id es ids tries says
end_told slots cause (Some id) es (outcome.Ran units) ids says tries mine all = granted id es ids tries says

-- ---- an end of an item

none_told : (k : ℕ) (es : List SlotEntry) (h : Holds Box) (asked : Option CoderId) → AreAsked k es h → (h.waits ≡ true → is_some asked ≡ true) → asked ≡ None → es ≡ []
none_told k [] h asked are asks none = refl
none_told k (a ∷ rest) h asked are asks none = absurd (let some = asks are.0.1 in let bad = sym some ∙ ap is_some none in cc)

some_same : (a b : ℕ) → Some a ≡ Some b → a ≡ b
some_same a b h = cc

all_mine : (k p : ℕ) (es : List SlotEntry) (h : Holds Box) → AreAsked k es h → (h.waits ≡ true → h.since ≡ Some p) → AreMine (by.Codec k p) es
all_mine k p [] h are since = tt
all_mine k p (a ∷ rest) h are since =
    (are.0.3 ∙ ap (λ (q : ℕ). by.Codec k q) (some_same are.0.0 p (sym are.0.2 ∙ since are.0.1)), all_mine k p rest h are.1 since)

module _ (k n : ℕ) (slots : List SlotEntry) (e : Event) (x : Track) (l : List Act) (s : Started) (ps : Log Event) (w : Working l x s) (wanted : x.holds.runs ≡ true → asked_in x ≡ s.asked) (f : Follows k x ((n, Made e) ∷ ps)) where
  acquires_mine : (id : CoderId) (es : List SlotEntry) → AreAcquires id es → dues.AreAcquires es
  acquires_mine id [] h = tt
  acquires_mine id (a ∷ rest) h = ((id, h.0), acquires_mine id rest h.1)

  any_acquires : (asked : Option CoderId) (es : List SlotEntry) → AreOfAsked asked es → (asked ≡ None → es ≡ []) → dues.AreAcquires es
  any_acquires None es ids none = subst dues.AreAcquires (sym (none refl)) tt
  any_acquires (Some id) es ids none = acquires_mine id es ids

  entry_told : (y : Entry) → entry_of e ≡ y → AreTold slots (ending_in y (acquires_of e.acquires) x) → (x.holds.runs ≡ true → dues.AreAcquires (acquires_of e.acquires) → act_in e x ≡ Ends → tries_by (by.Codec k s.place) slots ≡ ops_of e) → EntryIsTold slots (by.Codec k s.place) s.asked (ops_of e) y
  entry_told (entry.Call who c) is told all = tt
  entry_told (entry.Start epoch number) is told all = tt
  entry_told entry.Turn is told all = tt
  entry_told (entry.Reclaim moment) is told all = tt
  entry_told (entry.Done epoch number moment o) is told all =
      let es : List SlotEntry = acquires_of e.acquires in
      let ends = done_is_end k e x epoch number moment o is in
      let runs : x.holds.runs ≡ true = (subst (λ (a : Act). MayCome a (box_of es) x.holds) ends f.0.box).0 in
      let tells = subst (λ (a : Act). Tells k a es x.holds) ends f.0.acquires in
      let mine : IsTold slots (ending_of s.asked es o) = subst (λ (z : Option CoderId). IsTold slots (ending_of z es o)) (wanted runs) told.0 in
      let none = none_told k es x.holds s.asked tells.0 w.asks in
      let are = any_acquires s.asked es mine.ids none in (
        may_try s.asked es mine.ids none tells.1 (few_acquires e.acquires.first e.acquires.second),
        end_told slots (by.Codec k s.place) s.asked es o mine.ids mine.says tells.1 (all_mine k s.place es x.holds tells.0 w.since) (all runs are ends),
      )

-- ---- a whole log; `so_far` has what was tried before

log_tells : (k : ℕ) (slots : List SlotEntry) (x : Track) (log : Log Event) (l : List Act) (s : Started) (so_far : ℕ → List SlotOp) → Working l x s → (x.holds.runs ≡ true → asked_in x ≡ s.asked) → Follows k x log → AreTold slots (all_dues end_dues k x log)
    → ((p : ℕ) → tries_by (by.Codec k p) slots ≡ so_far p ++ tries_in k p x log) → ((p : ℕ) → x.holds.place ≤ p → so_far p ≡ []) → (x.holds.runs ≡ true → so_far s.place ≡ []) → EndsAreTold k slots (λ n. true) s x log
log_tells k slots x [] l s so_far w wanted f told whole later here = tt
log_tells k slots x ((n, Look) ∷ ps) l s so_far w wanted f told whole later here = log_tells k slots x ps l s so_far w wanted f.1 told whole later here
log_tells k slots x ((n, Made e) ∷ ps) l s so_far w wanted f told whole later here =
    let y = track_made n e x in
    let place = longer_place l x s n e w in
    let now = told_first slots (end_dues k e x) (all_dues end_dues k y ps) told in
    let rest = log_tells k slots y ps (l ++ act_in e x ∷ []) (started_by (act_in e x) x.holds.place s) (λ p. so_far p ++ tries_by (by.Codec k p) (acquires_of e.acquires)) (work_more l x s n e w) (wants_more k n e x s f.0 wanted) f.1 (told_rest slots (end_dues k e x) (all_dues end_dues k y ps) told)
    (λ p. whole p ∙ (ap (λ (t : List SlotOp). so_far p ++ t) (tries_split k p n e x ps) ∙ sym (append_assoc (so_far p) (tries_by (by.Codec k p) (acquires_of e.acquires)) (tries_in k p y ps))))
    (λ p le. (let none = later p (omega (arith, le, place)) in let past = past_event k p n e x l s w f.0 (λ waits same. (let lt = w.below (w.runs waits) in omega (arith, lt, le, place, same))) in λ i. none i ++ past i))
    (λ runs. (let none = next_here (act_in e x) (box_of (acquires_of e.acquires)) x.holds s so_far later here runs in
    let next = next_tries k (started_by (act_in e x) x.holds.place s).place (act_in e x) (box_of (acquires_of e.acquires)) (acquires_of e.acquires) x.holds f.0.acquires runs in
    λ i. none i ++ next i)) in (
      λ mine. entry_told k n slots e x l s ps w wanted f (entry_of e) refl now (λ runs are ends. whole s.place ∙ ((λ i. here runs i ++ tries_in k s.place x ((n, Made e) ∷ ps)) ∙ end_tries k n e x ps l s w f ends runs are)),
      rest,
    )

pub opening_working : (o : Opening) → Working [] (opening_track o) nothing_started
opening_working o = record { long = refl; starts = λ h. no_true h; asked = λ h. no_true h; below = λ h. no_true h; runs = λ h. no_true h; since = λ h. no_true h; asks = λ h. no_true h }

-- the acquires by a cause are those of its entries
tries_cause : (c : By) (l : List SlotEntry) → tries_by c l ≡ flat_map (λ e. try_of e.op) (by_cause c l)
tries_cause c [] = refl
tries_cause c (e ∷ es) = cases (is_cause c e.by) (tries_cause c es)
  where
    cases : (b : Bool) → tries_by c es ≡ flat_map (λ (e : SlotEntry). try_of e.op) (by_cause c es) → cond b (try_of e.op) [] ++ tries_by c es ≡ flat_map (λ (e : SlotEntry). try_of e.op) (cond b (e ∷ []) [] ++ by_cause c es)
    cases true rest = ap (λ (r : List SlotOp). try_of e.op ++ r) rest
    cases false rest = rest

pub log_told : (k : ℕ) (o : Opening) (log : Log Event) (slots : List SlotEntry) → IsLog k o log → AreTold slots (all_dues end_dues k (opening_track o) log) → ((place : ℕ) → by_cause (by.Codec k place) (all_dues slot_dues k (opening_track o) log) ≡ by_cause (by.Codec k place) slots) → LogTellsEnds k o slots log
log_told k o log slots legal told causes =
    log_tells k slots (opening_track o) log [] nothing_started (λ p. []) (opening_working o) (λ h. no_true h) legal told
    (λ p. tries_cause (by.Codec k p) slots ∙ (sym (ap (flat_map (λ (e : SlotEntry). try_of e.op)) (causes p)) ∙ sym (tries_cause (by.Codec k p) (all_dues slot_dues k (opening_track o) log))))
    (λ p le. refl) (λ h. refl)
