-- Laws of items at work.
use Rattle.std.proofs.Common.{ℕ, ◌≡◌, Bool, true, cond, List, [], ◌∷◌, ◌++◌, map, Option, Some, None, is_some, refl, ap, sym, subst, ◌∙◌, append_assoc}
use Rattle.atomic_table.specs.Seated.{TableId}
use Rattle.atomic_table.specs.declared.shared.Seat.{Seat}
use Rattle.wc_base.specs.Views.{Log}
use Rattle.wc_base.specs.declared.seat.Passage.TheVariants.{Made, Look}
use Rattle.wc_base.specs.declared.seat.View.{View}
use Rattle.wc_base.specs.declared.who.By.TheVariants as by
use Rattle.wc_config.specs.declared.codec.CoderId.{CoderId}
use Rattle.wc_config.specs.Configs.{coder_id_of}
use Rattle.wc_pool.specs.declared.reference.MediaRef.{MediaRef}
use Rattle.coder_api.specs.Lent.{Lent, stopped_lent}
use Rattle.coder_api.specs.declared.slot.SlotEntry.{SlotEntry}
use Rattle.codec_model.specs.declared.entry.{Entry.Entry, Ended.Ended, WorkKind.WorkKind}
use Rattle.codec_model.specs.declared.entry.Entry.TheVariants as entry
use Rattle.codec_model.specs.declared.entry.Ended.TheVariants as ended
use Rattle.codec_model.specs.Control.{kind_of}
use Rattle.codec_model.specs.Replay.{State, Given as Input, answer_to, step}
use Rattle.codec_accounts.specs.ActLaws.{ActMakes, act_makes}
use Rattle.codec_accounts.specs.Boxes.{Act, Removes, Holds, holds_by, holds_removed, lets_go_by, box_with, newer}
use Rattle.codec_accounts.specs.Boxes as boxes
use Rattle.codec_accounts.specs.Registry.{Box}
use Rattle.codec_core.specs.Job.{JobValue, DoneValue, IsJob, IsJobOf, IsEndOf, EndsBy, outcome_of, stopped_box, with_box}
use Rattle.seat_lock.specs.ClaimLaws.{entries_both}
use Rattle.seat_lock.specs.Logs.{Has, Continues, entries_of}
use Rattle.seat_lock.specs.Own.{entries_of-append}
use Rattle.seat_lock.specs.Seats.{Sitting}
use Rattle.seat_lock.specs.Since.{MadeSince}
use Rattle.codec_logs.specs.declared.event.Event.{Event}
use Rattle.codec_logs.specs.Logs.{Track, entry_of, acquires_of, act_in, box_by, box_of, BoxIs, AreAsked, AreTries, IsTry, SameItem, IsLog, runner_by, opening_track, track, track_made, track_from}
use Rattle.codec_logs.specs.LogLaws.{track_append, follows_rest, item_stays}
use Rattle.slot_registry.specs.Boxes.{holder_of}
use Rattle.shared_slots.specs.Boxes.{Registry, IsOut, IfOut, last_of}
use Rattle.shared_slots.specs.Steps.{refused}
use Rattle.shared_codec.specs.declared.workers.Lack.{Lack}
use Rattle.shared_codec.specs.declared.workers.Lack.TheVariants as lack
use Rattle.shared_codec.specs.Calls.{GaveIn}
use Rattle.shared_codec.specs.Dues.{OwedSince, slot_dues, give_by, gives_of}
use Rattle.shared_codec.specs.DueLaws.{owed_passage}
use Rattle.shared_codec.specs.Shared.{Shared, MayEnd, LookedIn, no_mint, no_spend}
use Rattle.shared_codec.specs.Told.{ending_of, asked_in, AreAcquires, StandIn, IsRefusalAt, SaysSo, IsTold}
use Rattle.shared_codec.specs.Workers.{AreBy, IsAtWork, IsGranted, IsRefused, LackIs, WorkEnds}

-- ---- the same box

box_same : (k : ℕ) (since : Option ℕ) (box : Option Box) (a b : Option Lent) → stopped_box b ≡ stopped_box a → BoxIs k since box a → BoxIs k since box b
box_same k since box None None is h = h
box_same k since box None (Some b) is h = absurd cc
box_same k since box (Some a) None is h = absurd cc
box_same k since box (Some a) (Some b) is h =
    let same : stopped_lent b ≡ stopped_lent a = cc in
    record {
      place = h.place;
      asked = h.asked;
      box_is = h.box_is ∙ (λ i. Some (record { id = (sym same i).id; number = (sym same i).number }));
      cause = ap (λ (l : Lent). l.by) same ∙ h.cause;
    }

is_out_same : (slots : TableId) (a b : Lent) → stopped_lent b ≡ stopped_lent a → IsOut slots a → IsOut slots b
is_out_same slots a b same h = record {
  token = h.token;
  view = h.view;
  claim = h.claim;
  has = ap (λ (l : Lent). l.token) same ∙ h.has;
  ours = h.ours;
  is_token = h.is_token;
  bare = h.bare;
  weightless = h.weightless;
  claims = h.claims;
  out = record {
    holder = (λ i. holder_of (same i).id (same i).number (entries_of h.view.log)) ∙ (h.out.holder ∙ ap (λ (l : Lent). Some l.by) (sym same));
    last = (λ i. last_of (same i).id (same i).number 0 None (entries_of h.view.log)) ∙ h.out.last;
  };
}

pub out_same : (slots : TableId) (a b : Option Lent) → stopped_box b ≡ stopped_box a → IfOut slots a → IfOut slots b
out_same slots None None is h = tt
out_same slots None (Some b) is h = absurd cc
out_same slots (Some a) None is h = absurd cc
out_same slots (Some a) (Some b) is h =
    let same : stopped_lent b ≡ stopped_lent a = cc in
    is_out_same slots a b same h

-- ---- its end

asked_of : (k : ℕ) (place : ℕ) (es : List SlotEntry) (x : Holds Box) → x.waits ≡ true → x.since ≡ Some place → AreBy k place es → AreAsked k es x
asked_of k place [] x waits since h = tt
asked_of k place (a ∷ rest) x waits since h = ((place, waits, since, h.0), asked_of k place rest x waits since h.1)

are_asked : (k place : ℕ) (asked : Option CoderId) (es : List SlotEntry) (x : Holds Box) → (is_some asked ≡ true → (x.waits ≡ true) × (x.since ≡ Some place) × (x.box ≡ None)) → (asked ≡ None → es ≡ []) → AreBy k place es → AreAsked k es x
are_asked k place None es x asks none h = subst (λ (l : List SlotEntry). AreAsked k l x) (sym (none refl)) tt
are_asked k place (Some id) es x asks none h = let a = asks refl in asked_of k place es x a.0 a.1 h

may_box : (place : ℕ) (asked : Option CoderId) (es : List SlotEntry) (x : Holds Box) → (is_some asked ≡ true → (x.waits ≡ true) × (x.since ≡ Some place) × (x.box ≡ None)) → (asked ≡ None → es ≡ []) → is_some (box_of es) ≡ true → (x.waits ≡ true) × (x.box ≡ None)
may_box place None es x asks none some = absurd (let bad = sym (ap (λ (l : List SlotEntry). is_some (box_of l)) (none refl)) ∙ some in cc)
may_box place (Some id) es x asks none some = let a = asks refl in (a.0, a.2)

-- an item at work may end by an end of its job
pub may_end : (s : Shared) (v : View Event) (asked : Option CoderId) (job : JobValue) (es : List SlotEntry) (d : DoneValue) → IsAtWork s v asked job es → ((t : State) → IsJobOf t job → IsEndOf t d) → stopped_box d.coder ≡ stopped_box job.coder → MayEnd s v d es
may_end s v asked job es d w end same = record {
  runner = w.runner;
  runs = w.runs;
  end = end (track s.opening v.log).state w.job_is;
  may = may_box job.place asked es (track s.opening v.log).holds w.asks w.none;
  box = box_same s.codec (track s.opening v.log).holds.since (newer (box_of es) (track s.opening v.log).holds.box) job.coder d.coder same w.box;
  asked = are_asked s.codec job.place asked es (track s.opening v.log).holds w.asks w.none w.caused;
  tries = w.tries;
  out = out_same s.slots job.coder d.coder same w.out;
}

performed_says : (slots : List SlotEntry) (asked : Option CoderId) (es : List SlotEntry) (end : Ended) (kind : WorkKind) (g : Input) → LackIs slots asked es None → EndsBy (answer_to kind g) end → SaysSo slots asked es (outcome_of end)
performed_says slots None es (ended.Ran units) kind g l h = tt
performed_says slots None es ended.Refused kind g l h = tt
performed_says slots None es (ended.NoSlot n) kind g l h = absurd h
performed_says slots None es ended.NoMemory kind g l h = tt
performed_says slots (Some id) es (ended.Ran units) kind g l h = l
performed_says slots (Some id) es ended.Refused kind g l h = l
performed_says slots (Some id) es (ended.NoSlot n) kind g l h = absurd h
performed_says slots (Some id) es ended.NoMemory kind g l h = tt

work_says : (slots : List SlotEntry) (asked : Option CoderId) (es : List SlotEntry) (l : Option Lack) (job : JobValue) (end : Ended) (g : Input) → IsJob g job → LackIs slots asked es l → WorkEnds l job end → SaysSo slots asked es (outcome_of end)
work_says slots asked es None job end g is l h = performed_says slots asked es end (kind_of job.work) g l (h g is)
work_says slots None es (Some l) job end g is lacks h = absurd lacks
work_says slots (Some id) es (Some (lack.NoSlot n)) job end g is l h = subst (λ (z : Ended). SaysSo slots (Some id) es (outcome_of z)) (sym h) l
work_says slots (Some id) es (Some lack.NoMemory) job end g is l h = subst (λ (z : Ended). SaysSo slots (Some id) es (outcome_of z)) (sym h) tt

-- what its end tells
pub end_told : (slots : List SlotEntry) (s : Shared) (v : View Event) (asked : Option CoderId) (job : JobValue) (es : List SlotEntry) (l : Option Lack) (d : DoneValue) → IsAtWork s v asked job es → LackIs slots asked es l → WorkEnds l job d.ended → IsTold slots (ending_of (asked_in (track s.opening v.log)) es (outcome_of d.ended))
end_told slots s v asked job es l d w lacks ends =
    subst (λ (z : Option CoderId). IsTold slots (ending_of z es (outcome_of d.ended))) (sym w.asked_is)
    (record { ids = w.ids; says = work_says slots asked es l job d.ended (track s.opening v.log).state.running_given w.job_is.given lacks ends })

-- ---- acquires

by_both : (k place : ℕ) (es fs : List SlotEntry) → AreBy k place es → AreBy k place fs → AreBy k place (es ++ fs)
by_both k place [] fs h i = i
by_both k place (e ∷ es) fs h i = (h.0, by_both k place es fs h.1 i)

acquires_both : (id : CoderId) (es fs : List SlotEntry) → AreAcquires id es → AreAcquires id fs → AreAcquires id (es ++ fs)
acquires_both id [] fs h i = i
acquires_both id (e ∷ es) fs h i = (h.0, acquires_both id es fs h.1 i)

newer_none : (a b : Option Box) → newer a b ≡ None → a ≡ None
newer_none None b h = refl
newer_none (Some a) b h = absurd cc

newer_last : (a b : Option Box) → newer a b ≡ None → b ≡ None
newer_last None b h = h
newer_last (Some a) b h = absurd cc

-- one acquire more, where none was granted before
tries_more : (es : List SlotEntry) (e : SlotEntry) → AreTries es → box_of es ≡ None → AreTries (es ++ e ∷ [])
tries_more [] e h none = (tt, tt)
tries_more (a ∷ rest) e h none =
    let last : box_by a.op ≡ None = newer_last (box_of rest) (box_by a.op) none in
    (is_try a rest e last, tries_more rest e h.1 (newer_none (box_of rest) (box_by a.op) none))
  where
    is_try : (a : SlotEntry) (rest : List SlotEntry) (e : SlotEntry) → box_by a.op ≡ None → IsTry a (rest ++ e ∷ [])
    is_try a [] e none = none
    is_try a (b ∷ rest) e none = none

pub box_granted : (es : List SlotEntry) (e : SlotEntry) (b : Box) → box_by e.op ≡ Some b → box_of (es ++ e ∷ []) ≡ Some b
box_granted [] e b h = h
box_granted (a ∷ rest) e b h = ap (λ (o : Option Box). newer o (box_by a.op)) (box_granted rest e b h)

box_refused : (es : List SlotEntry) (e : SlotEntry) → box_by e.op ≡ None → box_of (es ++ e ∷ []) ≡ box_of es
box_refused [] e h = h
box_refused (a ∷ rest) e h = ap (λ (o : Option Box). newer o (box_by a.op)) (box_refused rest e h)

no_id : {X : Type 0} (id : CoderId) → Some id ≡ None → X
no_id id h = absurd cc

-- where the job has no box none was granted
bare_box : (s : Shared) (v : View Event) (asked : Option CoderId) (job : JobValue) (es : List SlotEntry) → IsAtWork s v asked job es → job.coder ≡ None → box_of es ≡ None
bare_box s v asked job es w none =
    let x : Holds Box = (track s.opening v.log).holds in
    newer_none (box_of es) x.box (subst (λ (c : Option Lent). BoxIs s.codec x.since (newer (box_of es) x.box) c) none w.box)

-- a box went out for it
pub work_granted : (s : Shared) (v : View Event) (r : Registry) (id : CoderId) (job new : JobValue) (es : List SlotEntry) (e : SlotEntry) (c d : View SlotEntry) → r.id ≡ s.slots → IsAtWork s v (Some id) job es → job.coder ≡ None → IsGranted r s.codec id e job new c d → IsAtWork s v (Some id) new (es ++ e ∷ [])
work_granted s v r id job new es e c d same w none g =
    let x : Holds Box = (track s.opening v.log).holds in
    let lent : Lent = g.lent in
    let bare = bare_box s v (Some id) job es w none in
    let box : Box = record { id = id; number = lent.number } in
    let out : box_by e.op ≡ Some box = ap (λ (z : SlotEntry). box_by z.op) g.is in
    let now : newer (box_of (es ++ e ∷ [])) x.box ≡ Some box = ap (λ (o : Option Box). newer o x.box) (box_granted es e box out) in
    let asks = w.asks refl in
    let here : BoxIs s.codec x.since (newer (box_of (es ++ e ∷ [])) x.box) (Some lent) = record {
      place = job.place;
      asked = asks.1;
      box_is = now ∙ (λ i. Some (record { id = (sym g.after.is_of) i; number = lent.number }));
      cause = g.after.by;
    } in
    let own : IsAtWork s v (Some id) (with_box (Some lent) job) (es ++ e ∷ []) = record {
      runner = w.runner;
      runs = w.runs;
      job_is = subst (λ (z : JobValue). IsJobOf (track s.opening v.log).state z) g.job (g.stays (track s.opening v.log).state w.job_is);
      asked_is = w.asked_is;
      asks = w.asks;
      box = here;
      out = subst (λ (t : TableId). IfOut t (Some lent)) same g.out;
      caused = by_both s.codec job.place es (e ∷ []) w.caused (ap (λ (z : SlotEntry). z.by) g.is, tt);
      ids = acquires_both id es (e ∷ []) w.ids (subst (λ (z : SlotEntry). AreAcquires id (z ∷ [])) (sym g.is) (refl, tt));
      none = λ h. no_id id h;
      tries = tries_more es e w.tries bare;
    } in
    subst (λ (z : JobValue). IsAtWork s v (Some id) z (es ++ e ∷ [])) (sym g.job) own

-- none did
pub work_refused : (s : Shared) (v : View Event) (r : Registry) (id : CoderId) (job new : JobValue) (es : List SlotEntry) (e : SlotEntry) (n : ℕ) (c d : View SlotEntry) → IsAtWork s v (Some id) job es → job.coder ≡ None → IsRefused r s.codec id e n job new c d → IsAtWork s v (Some id) new (es ++ e ∷ [])
work_refused s v r id job new es e n c d w none g =
    let x : Holds Box = (track s.opening v.log).holds in
    let bare = bare_box s v (Some id) job es w none in
    let same : box_of (es ++ e ∷ []) ≡ box_of es = box_refused es e (ap (λ (z : SlotEntry). box_by z.op) g.is) in
    let own : IsAtWork s v (Some id) job (es ++ e ∷ []) = record {
      runner = w.runner;
      runs = w.runs;
      job_is = w.job_is;
      asked_is = w.asked_is;
      asks = w.asks;
      box = subst (λ (o : Option Box). BoxIs s.codec x.since (newer o x.box) job.coder) (sym same) w.box;
      out = w.out;
      caused = by_both s.codec job.place es (e ∷ []) w.caused (ap (λ (z : SlotEntry). z.by) g.is, tt);
      ids = acquires_both id es (e ∷ []) w.ids (subst (λ (z : SlotEntry). AreAcquires id (z ∷ [])) (sym g.is) (refl, tt));
      none = λ h. no_id id h;
      tries = tries_more es e w.tries bare;
    } in
    subst (λ (z : JobValue). IsAtWork s v (Some id) z (es ++ e ∷ [])) (sym g.same) own

-- ---- where acquires stand in the registry's history

pub stand_more : (es slots more : List SlotEntry) → StandIn es slots → StandIn es (slots ++ more)
stand_more [] slots more h = tt
stand_more (a ∷ rest) slots more h = (h.0, h.1 ++ more, ap (λ (l : List SlotEntry). l ++ more) h.2 ∙ append_assoc h.0 (a ∷ h.1) more, stand_more rest h.1 more h.3)

stand_last : (es slots : List SlotEntry) (e : SlotEntry) → StandIn es slots → StandIn (es ++ e ∷ []) (slots ++ e ∷ [])
stand_last [] slots e h = (slots, [], refl, tt)
stand_last (a ∷ rest) slots e h = (h.0, h.1 ++ e ∷ [], ap (λ (l : List SlotEntry). l ++ e ∷ []) h.2 ∙ append_assoc h.0 (a ∷ h.1) (e ∷ []), stand_last rest h.1 e h.3)

-- they do so by all that a seat has seen since
pub stand_since : (es fs : List SlotEntry) (v w : View SlotEntry) → MadeSince v w fs → StandIn es (entries_of v.log) → StandIn es (entries_of w.log)
stand_since es fs v w made h =
    subst (λ (l : List SlotEntry). StandIn es l) (sym (ap (λ (l : Log SlotEntry). entries_of l) made.longer ∙ entries_both v.log made.more)) (stand_more es (entries_of v.log) (entries_of made.more) h)

-- the refusal of the last one, and where it stands
pub refusal_at : (r : Registry) (k : ℕ) (id : CoderId) (es : List SlotEntry) (e : SlotEntry) (n : ℕ) (old new : JobValue) (v w : View SlotEntry) → IsRefused r k id e n old new v w → StandIn es (entries_of v.log) → IsRefusalAt (entries_of w.log) n id (es ++ e ∷ [])
refusal_at r k id es e n old new v w g stand =
    let made = g.after.entry in
    let f : SlotEntry = refused (by.Codec k old.place) id g.out g.all in
    record {
      cause = by.Codec k old.place;
      out = g.out;
      all = g.all;
      earlier = es;
      before = entries_of made.before;
      behind = [];
      told = ap (λ (z : SlotEntry). es ++ z ∷ []) g.is;
      is = ap (λ (l : Log SlotEntry). entries_of l) made.after ∙ entries_of-append made.before v.number (Made f);
      place = g.after.at;
      stand = subst (λ (l : List SlotEntry). StandIn es l) (sym (ap (λ (l : Log SlotEntry). entries_of l) made.begins.is ∙ entries_both v.log made.begins.more)) (stand_more es (entries_of v.log) (entries_of made.begins.more) stand);
    }

pub refusal_stands : (r : Registry) (k : ℕ) (id : CoderId) (es : List SlotEntry) (e : SlotEntry) (n : ℕ) (old new : JobValue) (v w : View SlotEntry) → IsRefused r k id e n old new v w → StandIn es (entries_of v.log) → StandIn (es ++ e ∷ []) (entries_of w.log)
refusal_stands r k id es e n old new v w g stand =
    let made = g.after.entry in
    let f : SlotEntry = refused (by.Codec k old.place) id g.out g.all in
    let all : entries_of w.log ≡ entries_of made.before ++ f ∷ [] = ap (λ (l : Log SlotEntry). entries_of l) made.after ∙ entries_of-append made.before v.number (Made f) in
    let is : entries_of made.before ≡ entries_of v.log ++ entries_of made.begins.more = ap (λ (l : Log SlotEntry). entries_of l) made.begins.is ∙ entries_both v.log made.begins.more in
    let before : StandIn es (entries_of made.before) = subst (λ (l : List SlotEntry). StandIn es l) (sym is) (stand_more es (entries_of v.log) (entries_of made.begins.more) stand) in
    subst (λ (l : List SlotEntry). StandIn (es ++ e ∷ []) l) (sym (all ∙ ap (λ (z : SlotEntry). entries_of made.before ++ z ∷ []) (sym g.is)))
    (stand_last es (entries_of made.before) e before)

-- ---- an item stays at work

work_stays : (s : Shared) (v w : View Event) (asked : Option CoderId) (job : JobValue) (es : List SlotEntry) → w.number ≡ v.number → SameItem (track s.opening v.log) (track s.opening w.log) → IsAtWork s v asked job es → IsAtWork s w asked job es
work_stays s v w asked job es number same h =
    let x : Track = track s.opening v.log in
    let y : Track = track s.opening w.log in
    record {
      runner = same.runner ∙ (h.runner ∙ ap (λ (n : ℕ). Some n) (sym number));
      runs = same.runs ∙ h.runs;
      job_is = record {
        running = h.job_is.running;
        is_running = same.running ∙ h.job_is.is_running;
        same_epoch = h.job_is.same_epoch;
        same_number = h.job_is.same_number;
        same_kind = h.job_is.same_kind;
        given = subst (λ (g : Input). IsJob g job) (sym same.given) h.job_is.given;
      };
      asked_is = asked_same x y same ∙ h.asked_is;
      asks = λ some. (let a = h.asks some in (same.waits ∙ a.0, same.since ∙ a.1, same.box ∙ a.2));
      box = subst (λ (z : Option ℕ × Option Box). BoxIs s.codec z.0 (newer (box_of es) z.1) job.coder) (λ i. (sym same.since i, sym same.box i)) h.box;
      out = h.out;
      caused = h.caused;
      ids = h.ids;
      none = h.none;
      tries = h.tries;
    }
  where
    asked_same : (x y : Track) → SameItem x y → asked_in y ≡ asked_in x
    asked_same x y same = (λ i. cond (same.waits i) (coder_id_of (same.given i).config) None)

item_then : (x y z : Track) → SameItem x y → SameItem y z → SameItem x z
item_then x y z a b = record {
  runner = b.runner ∙ a.runner;
  running = b.running ∙ a.running;
  given = b.given ∙ a.given;
  runs = b.runs ∙ a.runs;
  waits = b.waits ∙ a.waits;
  since = b.since ∙ a.since;
  box = b.box ∙ a.box;
}

same_is : (x y z : Track) → z ≡ y → SameItem x y → SameItem x z
same_is x y z is h = subst (λ (t : Track). SameItem x t) (sym is) h

-- a removal by its own seat leaves an item at work
removed_item : (n : ℕ) (e : Event) (x : Track) → act_in e x ≡ Removes → step (entry_of e) x.state ≡ Some (boxes.after (entry_of e) x.state) → x.holds.runs ≡ true → SameItem x (track_made n e x)
removed_item n e x is legal runs =
    let t : State = boxes.after (entry_of e) x.state in
    let makes : ActMakes Removes x.state t = subst (λ (a : Act). ActMakes a x.state t) is (act_makes (entry_of e) x.state t legal) in
    let holds : (track_made n e x).holds ≡ holds_removed true x.holds = ap (λ (a : Act). holds_by a (box_of (acquires_of e.acquires)) x.holds) is ∙ ap (λ (r : Bool). holds_removed r x.holds) runs in
    record {
      runner = ap (λ (a : Act). runner_by a n x.runner) is;
      running = makes.0.running;
      given = makes.0.given;
      runs = ap (λ (h : Holds Box). h.runs) holds;
      waits = ap (λ (h : Holds Box). h.waits) holds;
      since = ap (λ (h : Holds Box). h.since) holds;
      box = ap (λ (h : Holds Box). h.box) holds;
    }

module _ {S : Type 0} where
  -- up to where the seat made its next passage
  item_goes : (s : Shared) (a : Seat (Option S) (View Event)) (asked : Option CoderId) (job : JobValue) (es : List SlotEntry) (log : Log Event) → Has a.me.0.number a.me.0.numbers → Continues a.me.0.numbers a.me.0.log log → IsLog s.codec s.opening log → IsAtWork s a.me.0 asked job es → SameItem (track s.opening a.me.0.log) (track s.opening log)
  item_goes s a asked job es log has goes legal w =
      let was : Track = track s.opening a.me.0.log in
      let grown : track s.opening log ≡ track_from was goes.more = ap (track s.opening) goes.is ∙ track_append (opening_track s.opening) a.me.0.log goes.more in
      let rest = follows_rest s.codec (opening_track s.opening) a.me.0.log goes.more (subst (λ (l : Log Event). IsLog s.codec s.opening l) goes.is legal) in
      same_is was (track_from was goes.more) (track s.opening log) grown (item_stays s.codec a.me.0.number a.me.0.numbers was goes.more w.runner w.runs has goes.by_others rest)

  -- the seat looks at its codec
  pub work_seen : (s : Shared) (a b : Seat (Option S) (View Event)) (asked : Option CoderId) (job : JobValue) (es : List SlotEntry) → LookedIn s a b → IsAtWork s a.me.0 asked job es → IsAtWork s b.me.0 asked job es
  work_seen s a b asked job es looked w =
      let p = looked.passes in
      let number : b.me.0.number ≡ a.me.0.number = ap (λ (y : Sitting S Event). y.0.number) p.view in
      let log : b.me.0.log ≡ p.log ++ (a.me.0.number, Look) ∷ [] = ap (λ (y : Sitting S Event). y.0.log) p.view in
      let now : track s.opening b.me.0.log ≡ track s.opening p.log = ap (track s.opening) log ∙ track_append (opening_track s.opening) p.log ((a.me.0.number, Look) ∷ []) in
      work_stays s a.me.0 b.me.0 asked job es number (same_is (track s.opening a.me.0.log) (track s.opening p.log) (track s.opening b.me.0.log) now (item_goes s a asked job es p.log p.has_number p.continues looked.legal w)) w

  -- its codec is reclaimed through its own seat
  pub work_reclaimed : (s : Shared) (now place : ℕ) (media : List MediaRef) (coder : Option Lent) (a b : Seat (Option S) (View Event)) (asked : Option CoderId) (job : JobValue) (es : List SlotEntry) → GaveIn s (entry.Reclaim now) place media coder a b → IsAtWork s a.me.0 asked job es → IsAtWork s b.me.0 asked job es
  work_reclaimed s now place media coder a b asked job es gave w =
      let m = gave.made in
      let p = m.passes in
      let x : Track = track s.opening p.log in
      let l : Log Event = (a.me.0.number, Made m.event) ∷ [] in
      let number : b.me.0.number ≡ a.me.0.number = ap (λ (y : Sitting S Event). y.0.number) p.view in
      let log : b.me.0.log ≡ p.log ++ l = ap (λ (y : Sitting S Event). y.0.log) p.view in
      let goes = item_goes s a asked job es p.log p.has_number p.continues m.before w in
      let next : track s.opening b.me.0.log ≡ track_made a.me.0.number m.event x = ap (track s.opening) log ∙ track_append (opening_track s.opening) p.log l in
      let act : act_in m.event x ≡ Removes = ap (λ (e : Entry). boxes.act_of e x.state) m.entry_is in
      let legal = (follows_rest s.codec (opening_track s.opening) p.log l (subst (λ (g : Log Event). IsLog s.codec s.opening g) log m.legal)).0.legal in
      let removed = removed_item a.me.0.number m.event x act legal (goes.runs ∙ w.runs) in
      work_stays s a.me.0 b.me.0 asked job es number (item_then (track s.opening a.me.0.log) x (track s.opening b.me.0.log) goes (same_is x (track_made a.me.0.number m.event x) (track s.opening b.me.0.log) next removed)) w

  -- and gives back no box then
  pub reclaim_gives : (s : Shared) (now place : ℕ) (media : List MediaRef) (coder : Option Lent) (a b : Seat (Option S) (View Event)) (asked : Option CoderId) (job : JobValue) (es : List SlotEntry) → GaveIn s (entry.Reclaim now) place media coder a b → IsAtWork s a.me.0 asked job es → gives_of s.codec place coder ≡ []
  reclaim_gives s now place media coder a b asked job es gave w =
      let m = gave.made in
      let p = m.passes in
      let x : Track = track s.opening p.log in
      let goes = item_goes s a asked job es p.log p.has_number p.continues m.before w in
      let act : act_in m.event x ≡ Removes = ap (λ (e : Entry). boxes.act_of e x.state) m.entry_is in
      let lets : lets_go_by (act_in m.event x) (box_of (acquires_of m.event.acquires)) x.holds ≡ [] = ap (λ (y : Act). lets_go_by y (box_of (acquires_of m.event.acquires)) x.holds) act ∙ ap (λ (r : Bool). cond r [] (box_with x.holds.since x.holds.box)) (goes.runs ∙ w.runs) in
      let none : slot_dues s.codec m.event x ≡ [] = (λ i. m.acquires_are i ++ map (give_by s.codec x.holds.place) (lets i)) in
      sym gave.gives ∙ none

  -- so it calls for nothing in the registry
  pub reclaim_owes : (s : Shared) (now place : ℕ) (media : List MediaRef) (coder : Option Lent) (a b : Seat (Option S) (View Event)) (asked : Option CoderId) (job : JobValue) (es : List SlotEntry) → GaveIn s (entry.Reclaim now) place media coder a b → IsAtWork s a.me.0 asked job es → OwedSince slot_dues s.codec s.opening a.me.0 b.me.0 []
  reclaim_owes s now place media coder a b asked job es gave w =
      let m = gave.made in
      subst (λ (l : List SlotEntry). OwedSince slot_dues s.codec s.opening a.me.0 b.me.0 l) (gave.gives ∙ reclaim_gives s now place media coder a b asked job es gave w)
      (owed_passage slot_dues s.codec s.opening no_mint no_spend (Made m.event) a b m.passes)

  -- nor does a look
  pub look_owes : (s : Shared) (a b : Seat (Option S) (View Event)) → LookedIn s a b → OwedSince slot_dues s.codec s.opening a.me.0 b.me.0 []
  look_owes s a b looked = owed_passage slot_dues s.codec s.opening no_mint no_spend Look a b looked.passes
