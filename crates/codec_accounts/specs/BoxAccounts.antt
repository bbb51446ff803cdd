-- From what codecs keep to what their histories call for, and back to single entries of the registry.
use Rattle.std.proofs.Common.{ℕ, zero, suc, ◌+◌, ◌≡◌, ◌<◌, inl, inr, List, [], ◌∷◌, map, take, length, refl, ap, sym, subst, ◌∙◌, arith}
use Rattle.std.specs.Prelude.{slice_get}
use Rattle.std.specs.List.{sum_by, flat_map}
use Rattle.wc_base.specs.declared.who.By.{By}
use Rattle.wc_base.specs.declared.who.By.TheVariants as by
use Rattle.wc_config.specs.declared.codec.CoderId.{CoderId}
use Rattle.slot_registry.specs.Slots.{SlotsValue}
use Rattle.codec_model.specs.declared.entry.Opening.{Opening}
use Rattle.codec_model.specs.declared.entry.Entry.{Entry}
use Rattle.codec_accounts.specs.Owed.{at, owed_from}
use Rattle.codec_accounts.specs.ListLaws.{there}
use Rattle.codec_accounts.specs.Boxes.{Act, Event, Holds, holds_nothing, holds_after, acts_of, acts_in, asks_in, start_in, Legal, Nothing}
use Rattle.codec_accounts.specs.RegistryLaws.{boxes_are_back}
use Rattle.codec_accounts.specs.Registry.{Return, Box, in_list, asks_by, outs, returns, return_of, acts_at, BoxesAccounted, gets_due, lets_go_due, AreOf}
use Rattle.codec_accounts.specs.Codec.{CodecValue, new_codec, codec_at, histories}
use Rattle.codec_accounts.specs.CodecLaws.{Keeps}
use Rattle.codec_accounts.specs.AccountLaws.{acts_on, Accounted, history_at, histories_count}

-- ---- at opening

new_at : (k : ℕ) (os : List Opening) → (o : Opening) × (codec_at k (map new_codec os) ≡ new_codec o)
new_at k [] = (_, refl)
new_at zero (o ∷ os) = (o, refl)
new_at (suc k) (o ∷ os) = new_at k os

no_events : (k : ℕ) (os : List Opening) → at {X = Event Box} k (map (λ o. []) os) ≡ []
no_events k [] = refl
no_events zero (o ∷ os) = refl
no_events (suc k) (o ∷ os) = no_events k os

no_history : (k : ℕ) (os : List Opening) → at k (histories (map new_codec os)) ≡ []
no_history k [] = refl
no_history zero (o ∷ os) = refl
no_history (suc k) (o ∷ os) = no_history k os

new_keeps : (k : ℕ) (o : Opening) → Keeps k (new_codec o) [] []
new_keeps k o = record {
  replays = refl;
  acts = refl;
  count = refl;
  events = Nothing;
  has = record { runs = refl; old = refl; epochs = λ r bad. absurd cc; box = refl; out = λ b bad. absurd cc; either = λ n bad. absurd cc; needs = λ n bad. absurd cc };
  starts = λ bad. absurd cc;
}

nothing_due : {D : Type 0} (due : ℕ → ℕ → Event Box → Holds Box → List D) (k : ℕ) (os : List Opening) → owed_from holds_after due (λ n. holds_nothing) k (map (λ o. []) os) ≡ []
nothing_due due k [] = refl
nothing_due due k (o ∷ os) = nothing_due due (suc k) os

count_map : {X Y : Type 0} (f : X → Y) (xs : List X) → length (map f xs) ≡ length xs
count_map f [] = refl
count_map f (x ∷ xs) = ap suc (count_map f xs)

-- Codecs that are opened, and a registry with no entry, are accounted for.
pub nothing_accounted : (os : List Opening) (made : List CoderId) → Accounted (map new_codec os) (record { made = made; history = [] })
nothing_accounted os made = record {
  events = map (λ o. []) os;
  count = count_map (λ o. []) os ∙ sym (count_map new_codec os);
  each = λ k. (let new = new_at k os in subst (λ (c : CodecValue). Keeps k c (at k (map (λ o. []) os)) []) (sym new.1) (subst (λ (l : List (Event Box)). Keeps k (new_codec new.0) l []) (sym (no_events k os)) (new_keeps k new.0)));
  legal = refl;
  acquires = λ c. none_by c;
  out = λ t. ap (sum_by t) (sym (nothing_due gets_due 0 os));
  back = λ t. ap (sum_by t) (sym (nothing_due lets_go_due 0 os));
  ends = λ j q epoch number moment o is. absurd (let none = sym (ap (λ (l : List Entry). slice_get l q) (no_history j os)) ∙ is in cc);
}
  where
    none_by : (c : By) → [] ≡ asks_by (acts_on (map new_codec os)) c
    none_by (by.Caller who) = refl
    none_by (by.Codec k p) = let new = new_at k os in ap (λ (c : CodecValue). in_list (asks_in (acts_of c.opening c.history) p)) (sym new.1)

-- ---- what the histories call for

-- the histories are legal, and their acts are those of the events
acts_same : (opening : ℕ → Opening) (ds : List CodecValue) → ((k : ℕ) → k < length ds → (codec_at k ds).opening ≡ opening k) → (k : ℕ) → acts_on ds k ≡ acts_at opening (histories ds) k
acts_same opening ds opened k = elim (there k (histories ds)) [
  | inl lt ↦ (let below : k < length ds = (let c = histories_count ds in omega (arith, lt, c)) in ap (λ o. acts_of o (codec_at k ds).history) (opened k below) ∙ ap (acts_of (opening k)) (sym (history_at k ds)))
  | inr none ↦ (ap (acts_of (codec_at k ds).opening) (sym (history_at k ds) ∙ none) ∙ sym (ap (acts_of (opening k)) none))
]

are_of : (acts : ℕ → List Act) (k : ℕ) (hs : List (List (Event Box))) → ((i : ℕ) → (acts (k + i) ≡ acts_in (at i hs)) × Legal (at i hs)) → AreOf acts k hs
are_of acts k [] h = tt
are_of acts k (x ∷ xs) h = (
  (let z : k + 0 ≡ k = omega arith in ap acts (sym z) ∙ (h 0).0),
  (h 0).1,
  are_of acts (suc k) xs (λ i. (let z : suc k + i ≡ k + suc i = omega arith in (ap acts z ∙ (h (suc i)).0, (h (suc i)).1))),
)

-- What codecs keep is what their histories call for.
pub boxes_accounted : (opening : ℕ → Opening) (ds : List CodecValue) (s : SlotsValue) → ((k : ℕ) → k < length ds → (codec_at k ds).opening ≡ opening k) → Accounted ds s → BoxesAccounted s.made opening (histories ds) s.history
boxes_accounted opening ds s opened a =
    let same : acts_on ds ≡ acts_at opening (histories ds) = λ i k. acts_same opening ds opened k i in
    record {
      legal = a.legal;
      acquires = λ c. a.acquires c ∙ ap (λ (acts : ℕ → List Act). asks_by acts c) same;
      back = subst (λ (acts : ℕ → List Act). (t : Return → ℕ) → sum_by t (returns s.history) ≡ sum_by t (flat_map (return_of acts) (outs s.history))) same
          (boxes_are_back (acts_on ds) a.events s.history (are_of (acts_on ds) 0 a.events (λ i. (let z : 0 + i ≡ i = omega arith in (ap (acts_on ds) z ∙ (a.each i).acts, (a.each i).events)))) a.out a.back);
      ends = λ k q epoch number moment o is. (let e = a.ends k q epoch number moment o is in record {
        place = e.place;
        started = ap (λ (acts : ℕ → List Act). start_in (take q (acts k))) (sym same) ∙ e.started;
        says = e.says;
      });
    }
