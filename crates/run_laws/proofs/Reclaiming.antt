-- How many reclaims and refused starts the codecs of a run have, by their logs.
use Rattle.std.proofs.Common.{ℕ, zero, suc, ◌+◌, ◌≡◌, ◌≤◌, ◌<◌, ◌&&◌, Bool, true, false, cond, List, [], ◌∷◌, ◌++◌, map, length, Option, Some, None, refl, ap, sym, subst, ◌∙◌, append_assoc, arith}
use Rattle.std.specs.Prelude.{slice_get}
use Rattle.std.specs.List.{count_by, sum_by}
use Rattle.std.proofs.lemmas.List.Sums.{sum_by-cons}
use Rattle.wc_base.specs.Views.{Log}
use Rattle.wc_base.specs.declared.seat.Passage.TheVariants.{Made, Look}
use Rattle.wc_base.specs.declared.who.By.TheVariants as by
use Rattle.wc_config.specs.declared.codec.CoderId.{CoderId}
use Rattle.coder_api.specs.declared.slot.SlotEntry.{SlotEntry}
use Rattle.coder_api.specs.declared.slot.SlotOp.{SlotOp}
use Rattle.coder_api.specs.declared.slot.SlotOp.TheVariants as slot
use Rattle.codec_model.specs.declared.entry.Opening.{Opening}
use Rattle.codec_model.specs.declared.entry.Entry.{Entry}
use Rattle.codec_model.specs.declared.entry.Entry.TheVariants as entry
use Rattle.codec_model.specs.Control.{start_item}
use Rattle.codec_model.specs.Held.{is_removal}
use Rattle.codec_model.specs.Replay.{State}
use Rattle.codec_accounts.specs.Boxes.{Act, Asks, Begins, Ends, Removes, Other, Holds, holds_by, holds_after_end, holds_removed, lacking, start_act, removal_act, act_of, MayCome}
use Rattle.codec_accounts.specs.Owed.{at}
use Rattle.codec_accounts.specs.Registry.{Box}
use Rattle.seat_lock.specs.Logs.{entries_of}
use Rattle.codec_logs.specs.declared.event.Event.{Event}
use Rattle.codec_logs.specs.Logs.{Track, entry_of, history_of, acquires_of, box_of, act_in, opening_track, track_made, Follows}
use Rattle.shared_codec.specs.OrderLaws.{place_by}
use Rattle.shared_codec.specs.Tallies.{moment_of, unfit_moment, untimely, reclaim_in, reclaims, refusal, first_refusal, refusal_in, refusals}
use Rattle.run_laws.specs.Paid.{histories_of, RegistryIsPaid}
use Rattle.run_laws.specs.Reclaims.{is_reclaim, is_start, first_refused, all_reclaims, refused_starts, all_refused, HasFewReclaims, IsTimely, in_logs}
use Rattle.run_laws.specs.Told.{Started, nothing_started, started_by, ops_of, EndsAreTold}
use Rattle.run_laws.specs.Tries.{tries_by}
use Rattle.run_laws.proofs.Dues.{event_tells}
use Rattle.run_laws.proofs.Telling.{opening_working}
use Rattle.run_laws.proofs.Together.{EachLog, each_from, tries_same}
use Rattle.run_laws.proofs.Trying.{Working, work_more, tries_in, tries_split, past_event, longer_place, end_tries, next_here, next_tries}

-- ---- what an end tells is all that its start tried

abbrev HaveTried : ℕ → List SlotEntry → Started → Track → Log Event → Type 0
HaveTried k slots s x [] = Unit {0}
HaveTried k slots s x ((n, Look) ∷ ps) = HaveTried k slots s x ps
HaveTried k slots s x ((n, Made e) ∷ ps) =
    (act_in e x ≡ Ends → x.holds.runs ≡ true → tries_by (by.Codec k s.place) slots ≡ ops_of e)
    × HaveTried k slots (started_by (act_in e x) x.holds.place s) (track_made n e x) ps

-- `so_far` has what was tried before
have_tried : (k : ℕ) (slots : List SlotEntry) (x : Track) (log : Log Event) (l : List Act) (s : Started) (so_far : ℕ → List SlotOp) → Working l x s → Follows k x log → EndsAreTold k slots (λ n. true) s x log
    → ((p : ℕ) → tries_by (by.Codec k p) slots ≡ so_far p ++ tries_in k p x log) → ((p : ℕ) → x.holds.place ≤ p → so_far p ≡ []) → (x.holds.runs ≡ true → so_far s.place ≡ []) → HaveTried k slots s x log
have_tried k slots x [] l s so_far w f told whole later here = tt
have_tried k slots x ((n, Look) ∷ ps) l s so_far w f told whole later here = have_tried k slots x ps l s so_far w f.1 told whole later here
have_tried k slots x ((n, Made e) ∷ ps) l s so_far w f told whole later here =
    let y = track_made n e x in
    let place = longer_place l x s n e w in
    let are = event_tells k slots s n e x f.0 (told.0 refl) in
    let rest = have_tried k slots y ps (l ++ act_in e x ∷ []) (started_by (act_in e x) x.holds.place s) (λ p. so_far p ++ tries_by (by.Codec k p) (acquires_of e.acquires)) (work_more l x s n e w) f.1 told.1
    (λ p. whole p ∙ (ap (λ (t : List SlotOp). so_far p ++ t) (tries_split k p n e x ps) ∙ sym (append_assoc (so_far p) (tries_by (by.Codec k p) (acquires_of e.acquires)) (tries_in k p y ps))))
    (λ p le. (let none = later p (omega (arith, le, place)) in let past = past_event k p n e x l s w f.0 (λ waits same. (let lt = w.below (w.runs waits) in omega (arith, lt, le, place, same))) in λ i. none i ++ past i))
    (λ runs. (let none = next_here (act_in e x) (box_of (acquires_of e.acquires)) x.holds s so_far later here runs in
    let next = next_tries k (started_by (act_in e x) x.holds.place s).place (act_in e x) (box_of (acquires_of e.acquires)) (acquires_of e.acquires) x.holds f.0.acquires runs in
    λ i. none i ++ next i)) in (
      λ ends runs. whole s.place ∙ ((λ i. here runs i ++ tries_in k s.place x ((n, Made e) ∷ ps)) ∙ end_tries k n e x ps l s w f ends runs are),
      rest,
    )

-- ---- one event

abbrev bit : Bool → ℕ
bit b = cond b 1 0

-- What an entry counts for, by what it is to its codec's box: an end for its start if that was refused, and no other for any.
abbrev Counts : Act → Bool → Bool → ℕ → Type 0
Counts (Asks id) starts refused n = (starts ≡ true) × (n ≡ 0)
Counts Begins starts refused n = (starts ≡ true) × (n ≡ 0)
Counts Ends starts refused n = n ≡ bit refused
Counts Removes starts refused n = n ≡ 0
Counts Other starts refused n = n ≡ 0

counts_start : (o : Option CoderId) (refused : Bool) → Counts (start_act o) true refused 0
counts_start None refused = (refl, refl)
counts_start (Some id) refused = (refl, refl)

counts_other : (b : Bool) (refused : Bool) → Counts (removal_act b) false refused 0
counts_other true refused = refl
counts_other false refused = refl

-- the first of these acquires was refused, or was not
first_is : (es : List SlotEntry) → first_refusal es ≡ bit (first_refused (map (λ a. a.op) es))
first_is [] = refl
first_is (e ∷ es) = by e.op
  where
    by : (o : SlotOp) → refusal o ≡ bit (first_refused (o ∷ map (λ a. a.op) es))
    by (slot.Refused id out made) = refl
    by (slot.Acquire id number) = refl
    by (slot.Give id number) = refl

counts_entry : (e : Entry) (t : State) (told : List SlotEntry) (refused : Bool) → (act_of e t ≡ Ends → first_refused (map (λ a. a.op) told) ≡ refused) → Counts (act_of e t) (is_start e) refused (refusal_in e told)
counts_entry (entry.Call who x) t told refused is = counts_other (is_removal (entry.Call who x) t) refused
counts_entry (entry.Start epoch number) t told refused is = counts_start (lacking t.given (start_item t.control)) refused
counts_entry (entry.Done epoch number moment o) t told refused is = first_is told ∙ ap bit (is refl)
counts_entry entry.Turn t told refused is = counts_other (is_removal entry.Turn t) refused
counts_entry (entry.Reclaim moment) t told refused is = counts_other (is_removal (entry.Reclaim moment) t) refused

-- one for an item at work whose start was refused
abbrev at_work : (ℕ → Bool) → Bool → Started → ℕ
at_work refused runs s = cond runs (bit (refused s.place)) 0

counted : (a : Act) (b : Option Box) (h : Holds Box) (s : Started) (refused : ℕ → Bool) (starts : Bool) (n : ℕ) → (a ≡ Ends → h.runs ≡ true) → Counts a starts (refused s.place) n
    → n + at_work refused (holds_by a b h).runs (started_by a h.place s) ≤ at_work refused h.runs s + bit (starts && refused h.place)
counted (Asks id) b h s refused starts n runs are =
    let now : bit (starts && refused h.place) ≡ bit (refused h.place) = ap (λ (c : Bool). bit (c && refused h.place)) are.0 in
    let none = are.1 in
    omega (arith, now, none)
counted Begins b h s refused starts n runs are =
    let now : bit (starts && refused h.place) ≡ bit (refused h.place) = ap (λ (c : Bool). bit (c && refused h.place)) are.0 in
    let none = are.1 in
    omega (arith, now, none)
counted Ends b h s refused starts n runs are = by h.old
  where
    before : at_work refused h.runs s ≡ bit (refused s.place)
    before = ap (λ (r : Bool). at_work refused r s) (runs refl)

    by : (old : Bool) → n + at_work refused (holds_after_end old b h).runs s ≤ at_work refused h.runs s + bit (starts && refused h.place)
    by true = omega (arith, are, before)
    by false = omega (arith, are, before)
counted Removes b h s refused starts n runs are = by h.runs refl
  where
    by : (r : Bool) → h.runs ≡ r → n + at_work refused (holds_removed r h).runs s ≤ at_work refused h.runs s + bit (starts && refused h.place)
    by true is = omega (arith, are)
    by false is = omega (arith, are)
counted Other b h s refused starts n runs are = omega (arith, are)

-- ---- one log

abbrev was_refused : ℕ → List SlotEntry → ℕ → Bool
was_refused k slots place = first_refused (tries_by (by.Codec k place) slots)

refusals_in : (k : ℕ) (slots : List SlotEntry) (s : Started) (x : Track) (log : Log Event) → Follows k x log → HaveTried k slots s x log
    → sum_by refusals (entries_of log) ≤ at_work (was_refused k slots) x.holds.runs s + refused_starts slots k x.holds.place (history_of log)
refusals_in k slots s x [] f tried = omega arith
refusals_in k slots s x ((n, Look) ∷ ps) f tried = refusals_in k slots s x ps f.1 tried
refusals_in k slots s x ((n, Made e) ∷ ps) f tried =
    let a : Act = act_in e x in
    let b : Option Box = box_of (acquires_of e.acquires) in
    let refused : ℕ → Bool = was_refused k slots in
    let runs : a ≡ Ends → x.holds.runs ≡ true = λ ends. (subst (λ (c : Act). MayCome c b x.holds) ends f.0.box).0 in
    let one = counted a b x.holds s refused (is_start (entry_of e)) (refusals e) runs
    (counts_entry (entry_of e) x.state (acquires_of e.acquires) (refused s.place) (λ ends. ap first_refused (sym (tried.0 ends (runs ends))))) in
    let rest = refusals_in k slots (started_by a x.holds.place s) (track_made n e x) ps f.1 tried.1 in
    let next = ap (λ (p : ℕ). refused_starts slots k p (history_of ps)) (place_by a b x.holds) in
    let sum = sum_by-cons refusals e (entries_of ps) in
    omega (arith, one, rest, next, sum)

reclaim_is : (x : Entry) → reclaim_in x ≡ bit (is_reclaim x)
reclaim_is (entry.Call who call) = refl
reclaim_is (entry.Start epoch number) = refl
reclaim_is (entry.Done epoch number moment o) = refl
reclaim_is entry.Turn = refl
reclaim_is (entry.Reclaim moment) = refl

reclaims_in : (es : List Event) → sum_by reclaims es ≡ count_by is_reclaim (map entry_of es)
reclaims_in [] = refl
reclaims_in (e ∷ es) =
    let a = sum_by-cons reclaims e es in
    let b = sum_by-cons (λ (x : Entry). cond (is_reclaim x) 1 0) (entry_of e) (map entry_of es) in
    let c = reclaims_in es in
    let d = reclaim_is (entry_of e) in
    omega (arith, a, b, c, d)

-- ---- all logs

all_reclaims_in : (ls : List (Log Event)) → in_logs reclaims ls ≡ all_reclaims (histories_of ls)
all_reclaims_in [] = refl
all_reclaims_in (l ∷ ls) =
    let a = sum_by-cons (λ (log : Log Event). sum_by reclaims (entries_of log)) l ls in
    let b = sum_by-cons (count_by is_reclaim) (history_of l) (histories_of ls) in
    let c = reclaims_in (entries_of l) in
    let d = all_reclaims_in ls in
    omega (arith, a, b, c, d)

-- a log tells of no more refusals than its history has starts that were refused
abbrev FewRefusals : List SlotEntry → ℕ → Log Event → Type 0
FewRefusals slots k log = sum_by refusals (entries_of log) ≤ refused_starts slots k 0 (history_of log)

all_refusals_in : (slots : List SlotEntry) (k : ℕ) (ls : List (Log Event)) → EachLog (FewRefusals slots) k ls → in_logs refusals ls ≤ all_refused slots k (histories_of ls)
all_refusals_in slots k [] few = omega arith
all_refusals_in slots k (l ∷ ls) few =
    let a = sum_by-cons (λ (log : Log Event). sum_by refusals (entries_of log)) l ls in
    let b = all_refusals_in slots (suc k) ls few.1 in
    let c = few.0 in
    omega (arith, a, b, c)

module _ (made : List CoderId) (opening : ℕ → Opening) (logs : List (Log Event)) (slots : List SlotEntry) (paid : RegistryIsPaid made opening logs slots) where
  one_log : (k : ℕ) → k < length logs → FewRefusals slots k (at k logs)
  one_log k lt =
      let x : Track = opening_track (opening k) in
      let f = paid.logs_are k lt in
      let tried = have_tried k slots x (at k logs) [] nothing_started (λ p. []) (opening_working (opening k)) f (paid.told k lt) (λ p. sym (tries_same made opening logs slots paid k p lt)) (λ p le. refl) (λ h. refl) in
      let few = refusals_in k slots nothing_started x (at k logs) f tried in
      omega (arith, few)

  pub refusals_are_starts : in_logs refusals logs ≤ all_refused slots 0 (histories_of logs)
  refusals_are_starts = all_refusals_in slots 0 logs (each_from (FewRefusals slots) 0 logs (λ i lt. (let e : i ≡ 0 + i = omega arith in subst (λ (n : ℕ). FewRefusals slots n (at i logs)) e (one_log i lt))))

  pub few_reclaims : in_logs reclaims logs ≤ in_logs refusals logs → HasFewReclaims slots (histories_of logs)
  few_reclaims few =
      let a = all_reclaims_in logs in
      let b = refusals_are_starts in
      omega (arith, few, a, b)

-- ---- moments

fit_of : (fits : ℕ → Bool) (o : Option ℕ) (moment : ℕ) → o ≡ Some moment → unfit_moment fits o ≡ 0 → fits moment ≡ true
fit_of fits None moment is none = absurd cc
fit_of fits (Some m) moment is none = let same : m ≡ moment = cc in subst (λ (n : ℕ). fits n ≡ true) same (by (fits m) none)
  where
    by : (b : Bool) → ◌≡◌ {A = ℕ} (cond b 0 1) 0 → b ≡ true
    by true h = refl
    by false h = absurd (omega (arith, h))

timely_log : (fits : ℕ → Bool) (es : List Event) (place moment : ℕ) (e : Entry) → sum_by (untimely fits) es ≡ 0 → slice_get (map entry_of es) place ≡ Some e → moment_of e ≡ Some moment → fits moment ≡ true
timely_log fits [] place moment e none there is = absurd cc
timely_log fits (d ∷ es) zero moment e none there is =
    let a = sum_by-cons (untimely fits) d es in
    let same : entry_of d ≡ e = cc in
    fit_of fits (moment_of (entry_of d)) moment (ap moment_of same ∙ is) (omega (arith, a, none))
timely_log fits (d ∷ es) (suc place) moment e none there is =
    let a = sum_by-cons (untimely fits) d es in
    timely_log fits es place moment e (omega (arith, a, none)) there is

pub timely : (fits : ℕ → Bool) (logs : List (Log Event)) → in_logs (untimely fits) logs ≡ 0 → IsTimely fits (histories_of logs)
timely fits [] none k place moment e there is = absurd cc
timely fits (l ∷ ls) none zero place moment e there is =
    let a = sum_by-cons (λ (log : Log Event). sum_by (untimely fits) (entries_of log)) l ls in
    timely_log fits (entries_of l) place moment e (omega (arith, a, none)) there is
timely fits (l ∷ ls) none (suc k) place moment e there is =
    let a = sum_by-cons (λ (log : Log Event). sum_by (untimely fits) (entries_of log)) l ls in
    timely fits ls (omega (arith, a, none)) k place moment e there is
