-- Each entry that following an order makes is legal; and what one entry more makes of a course: of its codecs and their
-- histories, and of what codecs call for in the pool's history and hold of it.
use Rattle.std.proofs.Common.{ℕ, ◌≡◌, ◌≢◌, ◌≤◌, ◌<◌, ◌-◌, ◌++◌, ◌⊎◌, inl, inr, Bool, true, false, cond, if◌then◌else◌, eq-eqb, List, [], ◌∷◌, length, length-append, Option, Some, None, is_some, refl, ap, sym, subst, ◌∙◌, arith}
use Rattle.std.specs.Prelude.{nat_lt, slice_get, unwrap_or}
use Rattle.std.proofs.Math.Seq.{take-length}
use Rattle.std.proofs.lemmas.Bool.{cases_eq, cases_lt, lt-ltb}
use Rattle.std.proofs.lemmas.List.{take-append-le}
use Rattle.std.proofs.lemmas.Option.{slice_get_past}
use Rattle.wc_base.specs.{Options.some_same, Options.cond_is, declared.who.Who.Who}
use Rattle.wc_pool.specs.declared.entry.PoolEntry.{PoolEntry}
use Rattle.codec_definitions.specs.declared.unit.Unit as media
use Rattle.codec_model.specs.declared.entry.{Opening.Opening, Item.Item, Pair.Pair, Running.Running, Outcome.Outcome, Ended.Ended, Entry.Entry}
use Rattle.codec_model.specs.Control.{may_start, front, start_item}
use Rattle.codec_model.specs.Replay.{State, step as entry_step, opening_state, replay, answer_to, start_step, done_step, done_ended, ended_of, IsLegal}
use Rattle.codec_model.specs.Shown.{shown_at, each_shown, each_shown_from}
use Rattle.codec_model.specs.ShownLaws.{replay_append, each_append, each_more, each_length}
use Rattle.codec_model.specs.Held.{adds_held, lets_go, leaves_held, running_pairs, waiting_held, held_in, is_done, is_removal, HeldStays}
use Rattle.codec_accounts.specs.{Owed.at, Calls.who_of}
use Rattle.codec_accounts.specs.ListLaws.{IsNew, at_same, at_other, at_grows, get_end, get_within, result_more}
use Rattle.codec_accounts.specs.Codec.{CodecValue, state_after, state_of, codec_at, histories, after_entry, slots_after, next_by, step_by, BoxStep, Keep, Give, Renew}
use Rattle.codec_accounts.specs.AccountLaws.{EntryFits, histories_more, history_at, histories_count, set_count, set_here, set_other}
use Rattle.script_types.specs.declared.script.ScriptData.{ScriptData}
use Rattle.media_accounts.specs.Accounts.{called_at, lent_at, Lending, MayAdd, AreParts, EntryMore}
use Rattle.run_model.specs.Follow.{Course, with_entry, outcome_by, outcome_for}
use Rattle.run_model.specs.Recorded.{opening_at, take_entry}
use Rattle.order_laws.specs.Course.{held_by_codecs, held_by_port, held_by_all}

-- ---- legal entries

-- an entry is legal after a state
abbrev pub Steps : Entry → State → Type 0
Steps e s = is_some (entry_step e s) ≡ true

pub some_is : {X : Type 0} (o : Option X) (d : X) → is_some o ≡ true → o ≡ Some (unwrap_or o d)
some_is None d h = absurd cc
some_is (Some x) d h = refl

-- what the entries of a legal history show stays as it is
pub shown_kept : (o : Opening) (h more : List Entry) (p : ℕ) → IsLegal o h → p < length h → slice_get (each_shown o (h ++ more)) p ≡ slice_get (each_shown o h) p
shown_kept o h more p l lt =
    let r = some_is (replay o h) (opening_state o) l in
    rw (each_append o h more (state_after o h) r) (get_within (each_shown o h) (each_shown_from more (state_after o h)) p (omega (arith, lt, each_length o h (state_after o h) r)))

-- what the last entry of a history shows
pub shown_last : (o : Opening) (h : List Entry) (e : Entry) → IsLegal o h → slice_get (each_shown o (h ++ e ∷ [])) (length h) ≡ Some (shown_at e (state_after o h))
shown_last o h e l = let r = some_is (replay o h) (opening_state o) l in rw (each_more o h e (state_after o h) r, sym (each_length o h (state_after o h) r)) (get_end (each_shown o h) (shown_at e (state_after o h)))

-- a take of the first output that was shown and not taken yet
pub take_legal : (who : Who) (s : State) → s.control.taken < s.control.shown → Steps (take_entry who s.control.taken) s
take_legal who s lt = rw (eq-eqb s.control.taken s.control.taken refl, lt-ltb s.control.taken s.control.shown lt) refl

start_on : (is : List Item) (i : Item) (s : State) → may_start s.control ≡ true → front is ≡ Some i → is_some (start_step is s.control.epoch i.number s) ≡ true
start_on [] i s may f = absurd cc
start_on (j ∷ rest) i s may f =
    rw (may, eq-eqb s.control.epoch s.control.epoch refl, eq-eqb i.number j.number (ap (λ (x : Item). x.number) (sym (some_same j i f)))) refl

pub start_legal : (s : State) (i : Item) → start_item s.control ≡ Some i → Steps (Entry.Start s.control.epoch i.number) s
start_legal s i h =
    let may = cond_is (may_start s.control) (front s.control.work) i h in
    start_on s.control.work i s may.0 may.1

-- an end by the codec's definition
answered : (r : Running) (s : State) (moment : ℕ) (a : Option (List media.Unit)) → answer_to r.kind s.running_given ≡ a → is_some (done_ended r (ended_of r.kind s.running_given (outcome_by a)) moment s) ≡ true
answered r s moment None e = rw e refl
answered r s moment (Some us) e = rw (e, eq-eqb (length us) (length us) refl) refl

-- what is known of the running item where its end says that it was refused a box
abbrev pub MayBeRefused : Running → State → Option ℕ → Type 0
MayBeRefused r s None = Unit {0}
MayBeRefused r s (Some e) = ended_of r.kind s.running_given (Outcome.NoSlot e) ≡ Some (Ended.NoSlot e)

outcome_legal : (r : Running) (s : State) (moment : ℕ) (wants : Bool) (refusal : Option ℕ) → MayBeRefused r s refusal → is_some (done_ended r (ended_of r.kind s.running_given (outcome_for wants refusal (answer_to r.kind s.running_given))) moment s) ≡ true
outcome_legal r s moment true refusal may = refl
outcome_legal r s moment false None may = answered r s moment (answer_to r.kind s.running_given) refl
outcome_legal r s moment false (Some e) may = rw may refl

pub done_legal : (s : State) (r : Running) (moment : ℕ) (wants : Bool) (refusal : Option ℕ) → s.control.running ≡ Some r → MayBeRefused r s refusal → Steps (Entry.Done r.epoch r.number moment (outcome_for wants refusal (answer_to r.kind s.running_given))) s
done_legal s r moment wants refusal h may =
    subst (λ (o : Option Running). is_some (done_step o r.epoch r.number moment (outcome_for wants refusal (answer_to r.kind s.running_given)) s) ≡ true) (sym h)
    (rw (eq-eqb r.epoch r.epoch refl, eq-eqb r.number r.number refl) (outcome_legal r s moment wants refusal may))

-- ---- codecs and their histories

pub opened_still : (v : Course) (k j : ℕ) (e : Entry) → k < length v.codecs → (codec_at j (with_entry k e v).codecs).opening ≡ (codec_at j v.codecs).opening
opened_still v k j e lt = elim (cases_eq j k) [
  | inl same ↦ rw (same, set_here k (after_entry k e v.slots (codec_at k v.codecs)) v.codecs lt) refl
  | inr other ↦ rw (set_other j k (after_entry k e v.slots (codec_at k v.codecs)) v.codecs other) refl
]

pub call_fits : (e : Entry) (who : Who) (refusal : Option ℕ) → who_of e ≡ Some who → EntryFits e refusal
call_fits (Entry.Done epoch item moment o) who refusal names = absurd cc
call_fits e who refusal names = tt

-- the histories after an entry
pub history_there : (v : Course) (k : ℕ) → length (at k (histories v.codecs)) ≡ length (codec_at k v.codecs).history
history_there v k = ap length (history_at k v.codecs)

pub entries_new : (v : Course) (k p n : ℕ) (e f : Entry) → slice_get (at n (histories (with_entry k e v).codecs)) p ≡ Some f → (slice_get (at n (histories v.codecs)) p ≡ Some f) ⊎ IsNew k e (histories v.codecs) n p f
entries_new v k p n e f is = result_more n k p e f (histories v.codecs) (ap (λ (l : List (List Entry)). slice_get (at n l) p) (sym (histories_more k e v.slots v.codecs)) ∙ is)

pub longer_history : (v : Course) (k n : ℕ) (e : Entry) → (more : List Entry) × (at n (histories (with_entry k e v).codecs) ≡ at n (histories v.codecs) ++ more)
longer_history v k n e = let g = at_grows n k e (histories v.codecs) in (g.0, ap (at n) (histories_more k e v.slots v.codecs) ∙ g.1)

-- the registry is of the same boxes
pub made_stays : (v : Course) (k : ℕ) (e : Entry) → (with_entry k e v).slots.made ≡ v.slots.made
made_stays v k e =
    let d = codec_at k v.codecs in
    elim (step_by e d) as (λ (b : BoxStep). (slots_after (next_by k d) b d.holding.box v.slots).made ≡ v.slots.made) [ Keep ↦ refl | Give ↦ refl | Renew id ↦ refl ]

-- another history stays
pub same_history : (v : Course) (k n : ℕ) (e : Entry) → n ≢ k → at n (histories (with_entry k e v).codecs) ≡ at n (histories v.codecs)
same_history v k n e other = ap (at n) (histories_more k e v.slots v.codecs) ∙ at_other n k e (histories v.codecs) other

pub this_history : (v : Course) (k : ℕ) (e : Entry) → k < length v.codecs → at k (histories (with_entry k e v).codecs) ≡ at k (histories v.codecs) ++ e ∷ []
this_history v k e lt = ap (at k) (histories_more k e v.slots v.codecs) ∙ at_same k e (histories v.codecs) (let c = histories_count v.codecs in omega (arith, lt, c))

-- ---- what codecs call for in the pool's history, and hold

-- of a script's codecs with these histories, and what its ports hold
abbrev pub lending_of : ScriptData → Course → Lending
lending_of s v = record { lends = λ k place. lent_at (opening_at s k) (at k (histories v.codecs)) place; holds = held_by_all v }

-- the holder with a codec's number is the codec
codec_holds : (v : Course) (k : ℕ) → k < length v.codecs → held_by_all v k ≡ held_by_codecs v.codecs k
codec_holds v k lt = rw (lt-ltb k (length v.codecs) lt) refl

-- an entry of one codec leaves what all other holders hold
others_hold : (v : Course) (k : ℕ) (e : Entry) (l : ℕ) → l ≢ k → held_by_all (with_entry k e v) l ≡ held_by_all v l
others_hold v k e l other =
    ap (λ (n : ℕ). cond (nat_lt l n) (held_by_codecs (with_entry k e v).codecs l) (held_by_port (at (l - n) v.ports))) (set_count k (after_entry k e v.slots (codec_at k v.codecs)) v.codecs)
    ∙ ap (λ (ps : List Pair). cond (nat_lt l (length v.codecs)) ps (held_by_port (at (l - length v.codecs) v.ports))) (ap (λ (c : CodecValue). held_in (state_of c)) (set_other l k (after_entry k e v.slots (codec_at k v.codecs)) v.codecs other))

-- past the end of a history there is nothing
lent_past : (o : Opening) (h : List Entry) (n : ℕ) → length h ≤ n → lent_at o h n ≡ []
lent_past o h n le = ap (called_at o h n) (slice_get_past h n le)

-- each entry before the last one calls for what it did
lent_kept : (o : Opening) (h : List Entry) (e : Entry) (n : ℕ) → n ≢ length h → lent_at o (h ++ e ∷ []) n ≡ lent_at o h n
lent_kept o h e n other = elim (cases_lt n (length h)) [
  | inl lt ↦ rw (get_within h (e ∷ []) n lt)
      (elim (slice_get h n) as (λ (x : Option Entry). called_at o (h ++ e ∷ []) n x ≡ called_at o h n x) [ None ↦ refl | Some f ↦ rw (take-append-le n h (e ∷ []) (omega (arith, lt))) refl ])
  | inr le ↦ lent_past o (h ++ e ∷ []) n (let l = length-append h (e ∷ []) in omega (arith, le, l, other)) ∙ sym (lent_past o h n le)
]

-- what a codec holds is what an entry lets go and what it leaves
held_parts : (e : Entry) (s : State) → AreParts (held_in s) (lets_go e s) (leaves_held e s)
held_parts e s = by_kind (is_done e) (is_removal e s)
  where
    by_kind : (ends removes : Bool) → AreParts (held_in s) (if ends then running_pairs s else (if removes then waiting_held s.control else [])) (if ends then waiting_held s.control else (if removes then running_pairs s else held_in s))
    by_kind true removes = inl refl
    by_kind false true = inr refl
    by_kind false false = inl refl

-- what the entry adds may be added
abbrev pub MayAddAll : List PoolEntry → Entry → Type 0
MayAddAll pool e = (i : ℕ) (p : Pair) → slice_get (adds_held e) i ≡ Some p → MayAdd pool p

-- the codec with this number takes this entry, and is in this state after it
pub entry_more : HeldStays → (s : ScriptData) (v : Course) (k : ℕ) (e : Entry) (t : State) → k < length v.codecs → (codec_at k v.codecs).opening ≡ opening_at s k → replay (codec_at k v.codecs).opening (codec_at k v.codecs).history ≡ Some (state_of (codec_at k v.codecs))
    → entry_step e (state_of (codec_at k v.codecs)) ≡ Some t → MayAddAll v.media.pool e
    → EntryMore (lending_of s v) (lending_of s (with_entry k e v)) k (length (codec_at k v.codecs).history) e (state_of (codec_at k v.codecs)) v.media.pool
entry_more stays s v k e t lt opened replays steps may =
    let d = codec_at k v.codecs in
    let o = opening_at s k in
    let now : at k (histories v.codecs) ≡ d.history = history_at k v.codecs in
    let longer : at k (histories (with_entry k e v).codecs) ≡ d.history ++ e ∷ [] = this_history v k e lt ∙ ap (λ (l : List Entry). l ++ e ∷ []) now in
    let state : state_of (codec_at k (with_entry k e v).codecs) ≡ t = rw (set_here k (after_entry k e v.slots d) v.codecs lt, replay_append d.opening d.history e (state_of d) replays, steps) refl in
    record {
      adds = may;
      parts = rw (codec_holds v k lt) (held_parts e (state_of d));
      holds = codec_holds (with_entry k e v) k (let c = set_count k (after_entry k e v.slots d) v.codecs in omega (arith, c, lt)) ∙ (ap held_in state ∙ stays e (state_of d) t steps);
      fresh = rw now (lent_past o d.history (length d.history) (omega arith));
      lends = rw (longer, get_end d.history e, take-append-le (length d.history) d.history (e ∷ []) (omega arith), take-length d.history, opened) refl;
      other_lends = λ l n other. elim (cases_eq l k) [
        | inr apart ↦ ap (λ (h : List Entry). lent_at (opening_at s l) h n) (same_history v k l e apart)
        | inl same ↦ rw (same, longer, now) (lent_kept o d.history e n (λ place. other same place))
      ];
      other_holds = others_hold v k e;
    }

-- an entry of no caller adds nothing
pub nobody_adds : (pool : List PoolEntry) (e : Entry) → who_of e ≡ None → MayAddAll pool e
nobody_adds pool Entry.Turn nobody i p is = absurd cc
nobody_adds pool e nobody i p is = absurd cc
