-- Following a script's order makes a run that fits the script.
use Rattle.std.proofs.Common.{ℕ, zero, suc, ◌≡◌, ◌-◌, Bool, true, false, cond, List, [], ◌∷◌, length, map, Some, None, is_some, refl, ap, sym, subst, ◌∙◌, arith}
use mathlib.Core.List.{map-map}
use Rattle.std.specs.Prelude.{nat_lt, slice_get}
use Rattle.std.specs.List.{sum_by}
use Rattle.std.proofs.lemmas.List.{length-map}
use Rattle.wc_base.specs.Options.{some_same}
use Rattle.wc_config.specs.declared.codec.CoderId.{CoderId}
use Rattle.wc_chunk.specs.declared.chunk.Chunk.{Chunk}
use Rattle.codec_model.specs.{declared.entry.Entry.Entry, Replay.IsLegal, Held.held_in}
use Rattle.codec_accounts.specs.{Owed.at, ListLaws.at_empty, Calls.Climbs, Registry.BoxesAccounted}
use Rattle.codec_accounts.specs.Calls as mark
use Rattle.codec_accounts.specs.Codec.{CodecValue, new_codec, state_of, codec_at, histories}
use Rattle.codec_accounts.specs.AccountLaws.{Accounted, are_givable, history_at}
use Rattle.codec_accounts.specs.BoxAccounts.{nothing_accounted, boxes_accounted}
use Rattle.script_types.specs.declared.script.{CallerItem.CallerItem, CodecItem.CodecItem, OrderItem.OrderItem, ScriptData.ScriptData}
use Rattle.report_text.specs.declared.result.StepResult.{StepResult}
use Rattle.run_model.specs.declared.run.Run.{Run}
use Rattle.run_model.specs.Recorded.{Recorded, none_received, opening_of, opening_in, opening_at, steps_of}
use Rattle.run_model.specs.Follow.{Course, record_of, order_items, item_move, received_after, follow_item, Follows, nothing_yet}
use Rattle.run_model.specs.Fits.{recorded_of, mark_of, marks_of, CallsAreIn, LooksAreIn, ArgumentsAreIn, LocalsAreIn, brought_to, made_steps, lends_in, PortsDeliver, FollowsTheOrder, Fits}
use Rattle.media_accounts.specs.Accounts.{lent_at, Lending, nothing_lent, MediaAreIn, MediaStand}
use Rattle.order_laws.specs.{Sound.IsSound, Course.IsCourse}
use Rattle.order_laws.specs.Course.{held_by_codecs, held_by_port, held_by_all}
use Rattle.order_laws.proofs.Entries.{lending_of}
use Rattle.order_laws.proofs.Moves.{MediaLaws, Got, Stands, legals, item_stands}
use Rattle.order_laws.proofs.Ports.{delivers, nothing_in_ports}

-- ---- the beginning

-- a new codec is opened as the script says
new_at : (cs : List CodecItem) (k : ℕ) → codec_at k (map (λ c. new_codec (opening_of c)) cs) ≡ new_codec (opening_in cs k)
new_at [] k = refl
new_at (c ∷ cs) zero = refl
new_at (c ∷ cs) (suc k) = new_at cs k

no_history : (cs : List CodecItem) (k : ℕ) → at k (histories (map (λ c. new_codec (opening_of c)) cs)) ≡ []
no_history cs k = history_at k (map (λ c. new_codec (opening_of c)) cs) ∙ ap (λ (d : CodecValue). d.history) (new_at cs k)

no_calls : (k first : ℕ) (cs : List CallerItem) → mark.all_calls k first (map (λ rs. map mark_of rs) (map (λ c. []) cs)) ≡ []
no_calls k first [] = refl
no_calls k first (c ∷ cs) = no_calls k (suc first) cs

-- no caller made a step
none_made : (s : ScriptData) (made : List CoderId) → (λ c. 0) ≡ made_steps (record_of none_received (nothing_yet s made))
none_made s made = λ i c. sym (ap length (at_empty {X = StepResult} c s.callers)) i

-- no codec and no port holds a reference
none_held : (s : ScriptData) (made : List CoderId) (k : ℕ) → held_by_all (nothing_yet s made) k ≡ []
none_held s made k = by_bool (nat_lt k (length (nothing_yet s made).codecs))
  where
    by_bool : (b : Bool) → cond b (held_by_codecs (nothing_yet s made).codecs k) (held_by_port (at (k - length (nothing_yet s made).codecs) (nothing_yet s made).ports)) ≡ []
    by_bool true = ap (λ (d : CodecValue). held_in (state_of d)) (new_at s.codecs k)
    by_bool false = ap held_by_port (at_empty (k - length (nothing_yet s made).codecs) s.ports)

none_lent : (s : ScriptData) (made : List CoderId) → nothing_lent ≡ lending_of s (nothing_yet s made)
none_lent s made = λ i. record {
  lends = λ k place. sym (ap (λ (h : List Entry). lent_at (opening_at s k) h place) (no_history s.codecs k)) i;
  holds = λ k. sym (none_held s made k) i;
}

module _ (laws : MediaLaws) (s : ScriptData) (media : List (List Chunk)) (made : List CoderId) where
  nothing_stands : Stands s media made none_received (nothing_yet s made)
  nothing_stands = record {
    callers = length-map s.callers _;
    codecs = record {
      count = length-map s.codecs _;
      opened = λ k. ap (λ (d : CodecValue). d.opening) (new_at s.codecs k);
      same_made = refl;
      boxes = subst (λ (ds : List CodecValue). Accounted ds (record { made = made; history = [] })) (map-map new_codec opening_of s.codecs) (nothing_accounted (map opening_of s.codecs) made);
    };
    results = λ c j r is. absurd (let none : None ≡ Some r = sym (ap (λ (xs : List StepResult). slice_get xs j) (at_empty c s.callers)) ∙ is in cc);
    arguments = λ k p who x is. absurd (let none : None ≡ Some (Entry.Call who x) = sym (ap (λ (xs : List Entry). slice_get xs p) (no_history s.codecs k)) ∙ is in cc);
    once = λ k. subst (λ (h : List Entry). mark.CallsAreIn k h (marks_of (record_of none_received (nothing_yet s made)))) (sym (no_history s.codecs k)) (λ t. ap (sum_by t) (sym (no_calls k 0 s.callers)));
    climbs = λ c k. subst (λ (l : List StepResult). Climbs k 0 (map mark_of l) (length (at k (histories (nothing_yet s made).codecs)))) (sym (at_empty c s.callers)) (omega arith);
    stand = subst (λ (l : Lending). MediaStand (steps_of s) (brought_to s media (record_of none_received (nothing_yet s made))) l (made_steps (record_of none_received (nothing_yet s made))) (length s.callers) (nothing_yet s made).media) (none_lent s made)
        (subst (λ (steps : ℕ → ℕ). MediaStand (steps_of s) (brought_to s media (record_of none_received (nothing_yet s made))) nothing_lent steps (length s.callers) (nothing_yet s made).media) (none_made s made) (laws.nothing (steps_of s) (brought_to s media (record_of none_received (nothing_yet s made))) s.callers));
    ports = nothing_in_ports s media (record_of none_received (nothing_yet s made)) refl refl;
  }

  -- ---- item after item

  order_stands : IsSound s → (xs : List OrderItem) (got : Got) (v u : Course) → Stands s media made got v → Follows s media xs v u → (now : Got) × Stands s media made now u
  order_stands sound [] got v u st follows = (got, subst (Stands s media made got) (sym follows) st)
  order_stands sound (x ∷ xs) got v u st follows =
      order_stands sound xs (received_after (item_move s media follows.0 x v) v got) (follow_item s media follows.0 x v) u (item_stands laws s media made got v follows.0 x sound st) follows.1

  stands_of : (items : List OrderItem) (v : Course) → IsSound s → Follows s media items (nothing_yet s made) v → (got : Got) × Stands s media made got v
  stands_of items v sound follows = order_stands sound items none_received (nothing_yet s made) v nothing_stands follows

  pub course_of : (items : List OrderItem) (v : Course) → IsSound s → Follows s media items (nothing_yet s made) v → IsCourse s made v
  course_of items v sound follows =
      let st = (stands_of items v sound follows).1 in
      record {
        callers = st.callers;
        codecs = st.codecs.count;
        openings = st.codecs.opened;
        legal = λ k. ap is_some (st.codecs.boxes.each k).replays;
        media = st.stand.there;
        ports = st.ports.count;
        boxes = st.codecs.same_made;
        givable = are_givable v.codecs v.slots st.codecs.boxes;
        lent = st.stand.lent;
      }

  -- ---- a whole run

  pub fits_of : (run : Run) → IsSound s → FollowsTheOrder s media made run → Fits s media made run
  fits_of run sound follows =
      let v = follows.course in
      let stood = stands_of (order_items s) v sound follows.follows in
      let got = stood.0 in
      let st = stood.1 in
      let is : record_of got v ≡ recorded_of got run = ap (λ (w : Recorded). record w { received = got }) (sym follows.is_recorded) in
      record {
        received = got;
        calls = subst (CallsAreIn s) is (record { made = λ c j r at. (let f = st.results c j r at in (f.step, f.is_step, f.made)); once = st.once });
        looks = subst (LooksAreIn s) is (record { climbs = st.climbs; shows = λ c j x r there at. (let f = st.results c j r at in rw (some_same f.step x (sym f.is_step ∙ there)) at f.shows) });
        arguments = subst (ArgumentsAreIn s media) is st.arguments;
        locals = subst (LocalsAreIn s media) is (λ c j x r there at. (let f = st.results c j r at in rw (some_same f.step x (sym f.is_step ∙ there)) at f.answers));
        accounted = subst (λ (w : Recorded). MediaAreIn (steps_of s) (brought_to s media w) (lends_in s w) (made_steps w) w.pool) is st.stand.accounted;
        ports = subst (PortsDeliver s media) is (delivers s media (record_of got v) v.ports st.ports);
        boxes = subst (λ (w : Recorded). BoxesAccounted made (opening_at s) w.codecs w.slots) is (rw st.codecs.same_made at (boxes_accounted (opening_at s) v.codecs v.slots (λ k lt. st.codecs.opened k) st.codecs.boxes));
      }

  pub legal_of : (run : Run) (k : ℕ) → IsSound s → FollowsTheOrder s media made run → IsLegal (opening_at s k) (at k (recorded_of none_received run).codecs)
  legal_of run k sound follows =
      let stood = stands_of (order_items s) follows.course sound follows.follows in
      subst (λ (w : Recorded). IsLegal (opening_at s k) (at k w.codecs)) (sym follows.is_recorded) (legals laws s media made stood.0 follows.course stood.1 k)
