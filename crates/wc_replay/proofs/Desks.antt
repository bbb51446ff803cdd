-- What a desk keeps as its codec's history grows, and what becomes of its box.
use Rattle.std.proofs.Common.{ℕ, ◌≡◌, Bool, true, false, not, cond, List, [], ◌∷◌, ◌++◌, length, Option, Some, None, is_some, refl, ap, sym, subst, ◌∙◌, option_map, append-nil}
use Rattle.std.specs.Prelude.{◌==◌, ◌||◌}
use Rattle.wc_base.specs.{Options.some_same, Options.cond_is, declared.who.By.By}
use Rattle.wc_config.specs.declared.codec.CoderId.{CoderId}
use Rattle.coder_api.specs.{Lent.Lent, declared.slot.SlotEntry.SlotEntry}
use Rattle.codec_definitions.specs.declared.unit.Unit as media
use Rattle.slot_registry.specs.Slots.{SlotsValue, acquired}
use Rattle.codec_model.specs.declared.entry.{Ended.Ended, Entry.Entry, Item.Item, Task.Task, Work.Work, Pair.Pair}
use Rattle.codec_model.specs.Control.{Control, kind_of, front, start_item, may_start}
use Rattle.codec_model.specs.Replay.{State, missing_coder, answer_to, turn_step}
use Rattle.codec_core.specs.Codec.{Codec, item_parts, state_at, Makes, kept_box, handed_back}
use Rattle.codec_core.specs.Job.{JobValue, DoneValue, EndsBy, outcome_of, wants, stopped_box, missing_id}
use Rattle.codec_accounts.specs.Boxes.{Act, act_of, start_act, removal_act}
use Rattle.codec_model.specs.Held.{running_pairs}
use Rattle.media_variables.specs.Variables.{Media}
use Rattle.codec_accounts.specs.Registry.{BoxOut}
use Rattle.codec_accounts.specs.Codec.{Holding, CodecValue, next_by, Keep, Give, box_step, after_give, slots_after, holding_after, step_by, after_entry, slots_by}
use Rattle.run_model.specs.Follow.{outcome_for, start_entry, done_entry, turn_on, media_by}
use Rattle.wc_replay.specs.Desk as desk
use Rattle.wc_replay.specs.Desk.{box_out, holding_with, box_of, holding_of, JobMatches, LacksBox, IsRefused, OwnsJob, IsDesk, renewal, codec_by, registry_by, media_by_option, media_without}
use Rattle.wc_replay.proofs.Lent.{media_same, ended_media}

-- what contracts see
abbrev pub seen : Codec → Option JobValue → Option ℕ → CodecValue
seen core job refusal = record { opening = core.opening; history = core.history; holding = holding_of core.slot job refusal }

-- one more entry
pub seen_more : (old new : Codec) (e : Entry) (job job' : Option JobValue) (refusal refusal' : Option ℕ) (h : Holding) → Makes old new e → holding_of new.slot job' refusal' ≡ h → seen new job' refusal' ≡ record { opening = old.opening; history = old.history ++ e ∷ []; holding = h }
seen_more old new e job job' refusal refusal' h made is = λ i. record { opening = made.same_opening i; history = made.longer i; holding = is i }

-- ---- boxes that stay or go back

stopped_out : (slot : Option Lent) → option_map box_out (stopped_box slot) ≡ option_map box_out slot
stopped_out None = refl
stopped_out (Some lent) = refl

-- a box that stays where it is makes no entry
none_given : (cause : By) (s : SlotsValue) → after_give cause None s ≡ s
none_given cause s = ap (λ (l : List SlotEntry). record s { history = l }) (append-nil s.history)

-- a removal, where it is one
part_box : (goes : Bool) (slot : Option Lent) (job : Option JobValue) (refusal : Option ℕ) (s : State) (cause : By) (slots : SlotsValue) → JobMatches s job → IsRefused job refusal → (is_some job ≡ true → slot ≡ None) → let step = box_step (removal_act goes) s.control refusal in
    (holding_of (kept_box (not goes) slot) job refusal ≡ holding_after cause step (holding_of slot job refusal) slots) × (after_give cause (option_map box_out (handed_back (not goes) slot)) slots ≡ slots_after cause step (box_of slot job) slots)
part_box false slot job refusal s cause slots matches refused away = (refl, none_given cause slots)
part_box true slot None refusal s cause slots matches refused away = rw (matches, refused, stopped_out slot) (refl, refl)
part_box true slot (Some job) refusal s cause slots matches refused away = rw (matches.is_running, away refl) (refl, none_given cause slots)

-- what becomes of a codec and of the registry by an entry that is a removal or leaves its box alone
pub parts_of : (k : ℕ) (e : Entry) (old new : Codec) (job : Option JobValue) (refusal : Option ℕ) (goes : Bool) (s : SlotsValue) (place : ℕ) (box : Option BoxOut) → IsDesk old job refusal → Makes old new e → act_of e (state_at old) ≡ removal_act goes → new.slot ≡ kept_box (not goes) old.slot
    → place ≡ length old.history → box ≡ option_map box_out (handed_back (not goes) old.slot) → (seen new job refusal ≡ after_entry k e s (seen old job refusal)) × (after_give (By.Codec k place) box s ≡ slots_by k e s (seen old job refusal))
parts_of k e old new job refusal goes s place box d made act slot at is =
    let t = state_at old in
    let v = seen old job refusal in
    let step : step_by e v ≡ box_step (removal_act goes) t.control refusal = ap (λ (a : Act). box_step a t.control refusal) act in
    let box_is = part_box goes old.slot job refusal t (next_by k v) s d.matches d.refused d.away in
    (seen_more old new e job job refusal refusal (holding_after (next_by k v) (step_by e v) v.holding s) made (rw (slot, step) box_is.0), rw (at, is, step) box_is.1)

-- ---- turns

-- a turn that was made is of a task
pub turn_there : (ts : List Task) (s t : State) → turn_step ts s ≡ Some t → turn_on ts ≡ Some Entry.Turn
turn_there [] s t is = absurd cc
turn_there (x ∷ ts) s t is = refl

-- ---- what a desk made

pub makes_some : (k : ℕ) (o : Option Entry) (e : Entry) (s next : SlotsValue) (m after : Media) (d new : CodecValue) → o ≡ Some e → new ≡ after_entry k e s d → next ≡ slots_by k e s d → after ≡ media_by k e d m → desk.Makes k o s next m after d new
makes_some k o e s next m after d new is codec registry media = record { codec = rw is codec; registry = rw is registry; media = rw is media }

-- what a desk made, said of what contracts see of it
pub makes_seen : (k : ℕ) (o : CodecValue → Option Entry) (s next : SlotsValue) (m after : Media) (c d new : CodecValue) → c ≡ d → desk.Makes k (o c) s next m after c new → desk.Makes k (o d) s next m after d new
makes_seen k o s next m after c d new is made = subst (λ (x : CodecValue). desk.Makes k (o x) s next m after x new) is made

-- ---- ends

-- an end by the definition's answer is the outcome of that answer, or memory was wanted
pub outcome_is : (answer : Option (List media.Unit)) (e : Ended) → EndsBy answer e → outcome_of e ≡ outcome_for (wants e) None answer
outcome_is answer (Ended.Ran units) is = rw is refl
outcome_is answer Ended.Refused is = rw is refl
outcome_is answer (Ended.NoSlot entry) is = absurd is
outcome_is answer Ended.NoMemory is = refl

abbrev with_box : Option BoxOut → Holding
with_box x = record { box = x; refusal = None }

-- the box of an end: it stays with its codec, unless a new epoch began or it was refused
end_box : (b : Bool) (refusal : Option ℕ) (slot coder : Option Lent) (job : JobValue) (cause : By) (s : SlotsValue) → option_map box_out coder ≡ option_map box_out job.coder → LacksBox job refusal → let step = cond (not b || is_some refusal) Give Keep in
    (holding_of (kept_box b coder) None None ≡ holding_after cause step (holding_of slot (Some job) refusal) s) × (after_give cause (option_map box_out (handed_back b coder)) s ≡ slots_after cause step (option_map box_out job.coder) s)
end_box false refusal slot coder job cause s is lacks = (refl, rw (stopped_out coder, is) refl)
end_box true None slot coder job cause s is lacks = (ap with_box is, none_given cause s)
end_box true (Some n) slot coder job cause s is lacks = (ap with_box (is ∙ ap (option_map box_out) lacks.1), rw lacks.1 refl)

-- the end of the running item
pub ended_makes : (k : ℕ) (old new : Codec) (job : JobValue) (d : DoneValue) (refusal : Option ℕ) (moment : ℕ) (wants : Bool) (s next : SlotsValue) (m after : Media) (ps : List Pair) (place : ℕ) (back : Option Lent) → IsDesk old (Some job) refusal → d.epoch ≡ job.epoch → d.number ≡ job.number
    → outcome_of d.ended ≡ outcome_for wants refusal (answer_to (kind_of job.work) (state_at old).running_given) → option_map box_out d.coder ≡ option_map box_out job.coder → Makes old new (Entry.Done d.epoch d.number moment (outcome_of d.ended))
    → new.slot ≡ kept_box (d.epoch == (state_at old).control.epoch) d.coder → place ≡ length old.history → back ≡ handed_back (d.epoch == (state_at old).control.epoch) d.coder → next ≡ after_give (By.Codec k place) (option_map box_out back) s
    → ps ≡ running_pairs (state_at old) → after ≡ media_without (By.Codec k place) ps m
    → desk.Makes k (done_entry wants moment (seen old (Some job) refusal)) s next m after (seen old (Some job) refusal) (seen new None None)
ended_makes k old new job d refusal moment wants s next m after ps place back is epoch number ends box made slot at handed gave_back pairs ended =
    let t = state_at old in
    let v = seen old (Some job) refusal in
    let b = d.epoch == t.control.epoch in
    let e = Entry.Done d.epoch d.number moment (outcome_of d.ended) in
    let runs = is.matches in
    let entry_is : done_entry wants moment v ≡ Some e = rw (runs.is_running, runs.same_epoch, runs.same_number, runs.same_kind, epoch, number, ends) refl in
    let step : step_by e v ≡ cond (not b || is_some refusal) Give Keep = rw (runs.is_running, runs.same_epoch, epoch) refl in
    let box_is = end_box b refusal old.slot d.coder job (next_by k v) s box is.refused in
    makes_some k (done_entry wants moment v) e s next m after v (seen new None None) entry_is (seen_more old new e (Some job) None refusal None (holding_after (next_by k v) (step_by e v) v.holding s) made (rw (slot, step) box_is.0))
    (rw (gave_back, at, handed, step) box_is.1) (ended ∙ ended_media k e v place ps m refl at pairs)

-- ---- starts

pub idle_job : (s : State) (job : Option JobValue) (i : Item) → JobMatches s job → start_item s.control ≡ Some i → job ≡ None
idle_job s None i matches is = refl
idle_job s (Some job) i matches is =
    let busy : may_start s.control ≡ false = rw matches.is_running refl in absurd (let no = sym busy ∙ (cond_is (may_start s.control) (front s.control.work) i is).0 in cc)

pub some_item : (o : Option Item) (n : ℕ) (w : Work) → option_map item_parts o ≡ Some (n, w) → (i : Item) × (o ≡ Some i) × (i.number ≡ n) × (i.work ≡ w)
some_item None n w is = absurd cc
some_item (Some i) n w is = let same = some_same (item_parts i) (n, w) is in (i, refl, ap (λ x. x.0) same, ap (λ x. x.1) same)

start_step_is : (o : Option CoderId) (c : Control) (refusal : Option ℕ) → box_step (start_act o) c refusal ≡ renewal o
start_step_is None c refusal = refl
start_step_is (Some id) c refusal = refl

pub started_makes : (k : ℕ) (old new : Codec) (job0 : Option JobValue) (refusal r : Option ℕ) (job job' : JobValue) (place : ℕ) (s next : SlotsValue) (m : Media) → IsDesk old job0 refusal → job.epoch ≡ (state_at old).control.epoch → job.place ≡ length old.history
    → option_map item_parts (start_item (state_at old).control) ≡ Some (job.number, job.work) → job.coder ≡ old.slot → missing_id job ≡ missing_coder (state_at old).given job.work → place ≡ job.place → Makes old new (Entry.Start job.epoch job.number)
    → holding_with job'.coder r ≡ holding_after (By.Codec k place) (renewal (missing_id job)) (holding_with job.coder None) s → next ≡ slots_after (By.Codec k place) (renewal (missing_id job)) (option_map box_out job.coder) s
    → desk.Makes k (start_entry (seen old job0 refusal)) s next m m (seen old job0 refusal) (seen new (Some job') r)
started_makes k old new job0 refusal r job job' place s next m is epoch started item coder lacks at made holding slots =
    let t = state_at old in
    let v = seen old job0 refusal in
    let i = some_item (start_item t.control) job.number job.work item in
    let idle : job0 ≡ None = idle_job t job0 i.0 is.matches i.1 in
    let none : refusal ≡ None = subst (λ (o : Option JobValue). IsRefused o refusal) idle is.refused in
    let e = Entry.Start job.epoch job.number in
    let entry_is : start_entry v ≡ Some e = rw (i.1, i.2, epoch) refl in
    let step : step_by e v ≡ renewal (missing_id job) = rw (i.1, i.3, lacks) (start_step_is (missing_coder t.given job.work) t.control refusal) in
    makes_some k (start_entry v) e s next m m v (seen new (Some job') r) entry_is (seen_more old new e job0 (Some job') refusal r (holding_after (next_by k v) (step_by e v) v.holding s) made (rw (step, none, idle, sym coder, sym (at ∙ started)) holding))
    (rw (step, idle, sym coder, sym (at ∙ started)) slots) (sym (media_same m))

-- an item that lacked a box: the older one went back, and the registry was asked for one
pub renewed : (s t u : SlotsValue) (cause : By) (id : CoderId) (missing : Option CoderId) (box handed : Option BoxOut) → missing ≡ Some id → handed ≡ box → t ≡ after_give cause handed s → u ≡ acquired cause id t → u ≡ slots_after cause (renewal missing) box s
renewed s t u cause id missing box handed lacks same gave_back got = rw (got, gave_back, same, lacks) refl
