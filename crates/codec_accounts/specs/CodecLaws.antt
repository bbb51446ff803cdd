-- A codec's history and the registry's, entry after entry.
use Rattle.std.proofs.Common.{ℕ, suc, ◌≡◌, ◌≢◌, List, [], ◌∷◌, ◌++◌, map, length, length-append, Option, Some, None, refl, ap, sym, subst, ◌∙◌, arith}
use Rattle.std.specs.Prelude.{unwrap_or, option_and_then}
use Rattle.wc_base.specs.declared.who.By.{By}
use Rattle.wc_base.specs.declared.who.By.TheVariants as by
use Rattle.wc_config.specs.declared.codec.CoderId.{CoderId}
use Rattle.coder_api.specs.declared.slot.SlotEntry.{SlotEntry}
use Rattle.slot_registry.specs.Slots.{SlotsValue}
use Rattle.codec_model.specs.declared.entry.Opening.{Opening}
use Rattle.codec_model.specs.declared.entry.Entry.{Entry}
use Rattle.codec_model.specs.Replay.{State, step, opening_state, replay, replay_from}
use Rattle.codec_accounts.specs.Owed.{state_on}
use Rattle.codec_accounts.specs.OwedLaws.{owed_more, state_append}
use Rattle.codec_accounts.specs.Boxes.{Act, after, act_of, acts_of, asks_of, Event, Holds, holds_nothing, holds_after, holds_by, box_with, lets_go_by, gets_since, acts_in, Legal, More}
use Rattle.codec_accounts.specs.BoxesLaws.{now, acts_more, place_is, before_is}
use Rattle.codec_accounts.specs.Registry.{BoxOut, Return, Box, IsRefusedAt, in_list, out_at, back_at}
use Rattle.codec_accounts.specs.Codec.{CodecValue, state_of, next_by, box_step, after_entry, slots_by, after_give, holding_after, slots_after}
use Rattle.codec_accounts.specs.ActLaws.{act_makes}
use Rattle.codec_accounts.specs.SlotLaws.{Moves}
use Rattle.codec_accounts.specs.HoldingLaws.{Has, has_more, place_of}
use Rattle.codec_accounts.specs.StartLaws.{Started, starts_more, refusal_stays}

-- ---- states

-- the replay goes on by one step
replay_more : (h : List Entry) (s : State) (e : Entry) → replay_from (h ++ e ∷ []) s ≡ option_and_then (step e) (replay_from h s)
replay_more [] s e = elim (step e s) as (λ o. option_and_then (replay_from []) o ≡ o) [ None ↦ refl | Some t ↦ refl ]
replay_more (x ∷ xs) s e = elim (step x s) as (λ o. option_and_then (replay_from (xs ++ e ∷ [])) o ≡ option_and_then (step e) (option_and_then (replay_from xs) o)) [ None ↦ refl | Some t ↦ replay_more xs t e ]

pub replay_next : (o : Opening) (h : List Entry) (e : Entry) (s : State) → replay o h ≡ Some s → replay o (h ++ e ∷ []) ≡ step e s
replay_next o h e s r = replay_more h (opening_state o) e ∙ ap (λ x. option_and_then (step e) x) r

-- the state by total steps is that of the replay
state_on_is : (h : List Entry) (s t : State) → replay_from h s ≡ Some t → state_on after s h ≡ t
state_on_is [] s t r = cc
state_on_is (e ∷ es) s t r = by_step (step e s) refl r (λ u q. state_on_is es u t q)
  where
    by_step : (o : Option State) → step e s ≡ o → option_and_then (replay_from es) o ≡ Some t → ((u : State) → replay_from es u ≡ Some t → state_on after u es ≡ t) → state_on after (after e s) es ≡ t
    by_step None is r rest = absurd cc
    by_step (Some u) is r rest = ap (λ o. state_on after (unwrap_or o s) es) is ∙ rest u r

pub acts_next : (o : Opening) (h : List Entry) (e : Entry) (t : State) → replay o h ≡ Some t → acts_of o (h ++ e ∷ []) ≡ acts_of o h ++ act_of e t ∷ []
acts_next o h e t r =
    owed_more after (λ place e t. act_of e t ∷ []) (opening_state o) h e
    ∙ ap (λ (u : State). acts_of o h ++ act_of e u ∷ []) (state_on_is h (opening_state o) t r)

-- ---- one codec

-- A codec's events are its history's, and what it has of the registry is what they say.
pub record Keeps (k : ℕ) (d : CodecValue) (es : List (Event Box)) (slots : List SlotEntry) : Type 0 where
  pub replays : replay d.opening d.history ≡ Some (state_of d)
  pub acts : acts_of d.opening d.history ≡ acts_in es
  pub count : length es ≡ length d.history
  pub events : Legal es
  pub has : Has k (state_of d) (now es) d.holding slots
  pub starts : Started k (acts_in es) (length es) (state_of d).control.running d.holding.refusal slots

-- one entry more, with its event
pub record KeepsMore (k : ℕ) (e : Entry) (d : CodecValue) (es : List (Event Box)) (s : SlotsValue) : Type 0 where
  pub event : Event Box
  pub act_is : event.act ≡ act_of e (state_of d)
  pub keeps : Keeps k (after_entry k e s d) (es ++ event ∷ []) (slots_by k e s d).history
  pub moves : Moves (next_by k d) (in_list (asks_of event.act)) (map (out_at k) (box_with (gets_since event.act (now es).place (now es).since) event.box)) (map (back_at k) (map (λ b. ((now es).place, b)) (lets_go_by event.act event.box (now es)))) s (slots_by k e s d)

longer : {X : Type 0} (xs : List X) (x : X) → length (xs ++ x ∷ []) ≡ suc (length xs)
longer xs x = let e = length-append xs (x ∷ []) in omega (arith, e)

acts_long : {B : Type 0} (es : List (Event B)) → length (acts_in es) ≡ length es
acts_long [] = refl
acts_long (x ∷ xs) = ap suc (acts_long xs)

pub keeps_more : (k : ℕ) (e : Entry) (d : CodecValue) (es : List (Event Box)) (s : SlotsValue) (u : State) → Keeps k d es s.history → step e (state_of d) ≡ Some u
    → ((n : ℕ) → IsRefusedAt (after_give (next_by k d) d.holding.box s).history n (next_by k d) → ⊥) → ((n : ℕ) → IsRefusedAt s.history n (next_by k d) → ⊥) → KeepsMore k e d es s
keeps_more k e d es s u kept steps given fresh =
    let t = state_of d in
    let a = act_of e t in
    let x = now es in
    let makes = act_makes e t u steps in
    let place : x.place ≡ length d.history = place_is es kept.events ∙ kept.count in
    let more = has_more k a t u x d.holding s kept.has (before_is es kept.events) makes in
    let ev : Event Box = record { act = a; box = more.box } in
    let cause_is : by.Codec k x.place ≡ next_by k d = ap (λ n. by.Codec k n) place in
    let replays : replay d.opening (d.history ++ e ∷ []) ≡ Some u = replay_next d.opening d.history e t kept.replays ∙ steps in
    let state_is : state_of (after_entry k e s d) ≡ u = ap (λ o. unwrap_or o (opening_state d.opening)) replays in
    let next : now (es ++ ev ∷ []) ≡ holds_by a more.box x = state_append holds_after holds_nothing es (ev ∷ []) in
    let len : length (acts_in es) ≡ x.place = acts_long es ∙ sym (place_is es kept.events) in
    let P : By → Type 0 = λ c. Has k u (holds_by a more.box x) (holding_after c (box_step a t.control d.holding.refusal) d.holding s) (slots_after c (box_step a t.control d.holding.refusal) d.holding.box s).history in
    let has = subst P cause_is more.has in
    let there = subst (λ (n : ℕ). Started k (acts_in es) n t.control.running d.holding.refusal s.history) (sym (place_is es kept.events)) kept.starts in
    let begun = starts_more k a t u x d.holding s (acts_in es) kept.has makes len
    (λ n. subst (λ (c : By). IsRefusedAt (after_give c d.holding.box s).history n c → ⊥) (sym cause_is) (given n))
    (λ n. subst (λ (c : By). IsRefusedAt s.history n c → ⊥) (sym cause_is) (fresh n)) there in
    let Q : By → Type 0 = λ c. Started k (acts_in es ++ a ∷ []) (suc x.place) u.control.running (holding_after c (box_step a t.control d.holding.refusal) d.holding s).refusal (slots_after c (box_step a t.control d.holding.refusal) d.holding.box s).history in
    let begins = subst Q cause_is begun in
    record {
      event = ev;
      act_is = refl;
      keeps = record {
        replays = replays ∙ ap (λ (v : State). Some v) (sym state_is);
        acts = acts_next d.opening d.history e t kept.replays ∙ (ap (λ (l : List Act). l ++ a ∷ []) kept.acts ∙ sym (acts_more es ev));
        count = longer es ev ∙ (ap suc kept.count ∙ sym (longer d.history e));
        events = More es ev kept.events more.may;
        has = subst (λ (v : State). Has k v (now (es ++ ev ∷ [])) (after_entry k e s d).holding (slots_by k e s d).history) (sym state_is)
            (subst (λ (y : Holds Box). Has k u y (after_entry k e s d).holding (slots_by k e s d).history) (sym next) has);
        starts = subst (λ (v : State). Started k (acts_in (es ++ ev ∷ [])) (length (es ++ ev ∷ [])) v.control.running (after_entry k e s d).holding.refusal (slots_by k e s d).history) (sym state_is)
            (subst (λ (l : List Act). Started k l (length (es ++ ev ∷ [])) u.control.running (after_entry k e s d).holding.refusal (slots_by k e s d).history) (sym (acts_more es ev))
            (subst (λ (n : ℕ). Started k (acts_in es ++ a ∷ []) n u.control.running (after_entry k e s d).holding.refusal (slots_by k e s d).history) (ap suc (place_is es kept.events) ∙ sym (longer es ev)) begins));
      };
      moves = subst (λ (c : By). Moves c (in_list (asks_of a)) (map (out_at k) (box_with (gets_since a x.place x.since) more.box)) (map (back_at k) (map (λ b. (x.place, b)) (lets_go_by a more.box x))) s
          (slots_after c (box_step a t.control d.holding.refusal) d.holding.box s)) cause_is more.moves;
    }

codec_of : (j k p q : ℕ) → ◌≡◌ {A = By} (by.Codec j p) (by.Codec k q) → j ≡ k
codec_of j k p q h = cc

-- another codec keeps what it had
pub keeps_others : (j k place : ℕ) (d : CodecValue) (es : List (Event Box)) (cause : By) (asks : List CoderId) (out : List BoxOut) (back : List Return) (s u : SlotsValue) → cause ≡ by.Codec k place → j ≢ k → Moves cause asks out back s u → Keeps j d es s.history → Keeps j d es u.history
keeps_others j k place d es cause asks out back s u is other m kept = record {
  replays = kept.replays;
  acts = kept.acts;
  count = kept.count;
  events = kept.events;
  has = record {
    runs = kept.has.runs;
    old = kept.has.old;
    epochs = kept.has.epochs;
    box = kept.has.box;
    out = λ b held. (let mine = place_of j b (now es).since (now es).box (ap in_list (sym held) ∙ kept.has.box) in
        m.others j k mine.0 place b.id b.number is other (kept.has.out b held ∙ ap (λ c. Some c) mine.2) ∙ ap (λ c. Some c) (sym mine.2));
    either = kept.has.either;
    needs = kept.has.needs;
  };
  starts = λ runs. (let at = kept.starts runs in record {
    place = at.place;
    starts = at.starts;
    below = at.below;
    refusal_is = refusal_stays cause (by.Codec j at.place) asks out back s u d.holding.refusal m (λ same. other (codec_of j k at.place place (same ∙ is))) at.refusal_is;
  });
}
