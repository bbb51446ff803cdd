-- One deed after another.
use Rattle.std.proofs.Common.{ℕ, ◌≡◌, ◌<◌, ◌≤◌, inl, inr, List, [], ◌∷◌, ◌++◌, map, length, take, Option, Some, refl, ap, sym, subst, ◌∙◌, arith, append-nil, append_assoc}
use Rattle.std.specs.List.{filter, sum_by}
use Rattle.std.specs.Prelude.{slice_get}
use Rattle.std.proofs.Math.Seq.{take-length}
use Rattle.std.proofs.lemmas.List.{take-append-le}
use Rattle.std.proofs.lemmas.List.Concat.{flat_map-append}
use Rattle.std.proofs.lemmas.List.Elements.{filter-append}
use Rattle.std.proofs.lemmas.Option.{slice_get_within}
use Rattle.atomic_table.specs.declared.shared.Seat.{Seat}
use Rattle.wc_base.specs.Options.{some_same}
use Rattle.wc_base.specs.declared.seat.View.{View}
use Rattle.wc_chunk.specs.declared.chunk.Chunk.{Chunk}
use Rattle.wc_pool.specs.declared.entry.PoolEntry.{PoolEntry}
use Rattle.coder_api.specs.declared.slot.SlotEntry.{SlotEntry}
use Rattle.codec_model.specs.declared.entry.Entry.{Entry}
use Rattle.codec_accounts.specs.Bags.{SameBag}
use Rattle.codec_accounts.specs.BagsLaws.{weigh_append}
use Rattle.codec_accounts.specs.Calls.{Mark, Climbs, reach}
use Rattle.codec_accounts.specs.Calls as mark
use Rattle.codec_accounts.specs.CallsLaws.{MayClimb, climbs_add}
use Rattle.codec_accounts.specs.ListLaws.{get_more}
use Rattle.codec_accounts.specs.Owed.{state_on, at}
use Rattle.seat_lock.specs.SinceLaws.{made_then}
use Rattle.codec_logs.specs.declared.event.Event.{Event}
use Rattle.script_types.specs.declared.script.ScriptData.{ScriptData}
use Rattle.shared_codec.specs.Dues.{Called, slot_dues, media_dues}
use Rattle.shared_codec.specs.DueLaws.{owed_then}
use Rattle.shared_codec.specs.Keeps.{keeps_then}
use Rattle.shared_codec.specs.Order.{slot_at, asked_at, done_at}
use Rattle.shared_codec.specs.Shared.{Shared}
use Rattle.shared_codec.specs.ToldLaws.{ends_then}
use Rattle.codec_desk.specs.declared.desk.Desk.{Desk}
use Rattle.codec_desk.specs.declared.desk.Seats.{Seats}
use Rattle.codec_desk.specs.Desks.{told, SeesMore, InOrderSince, TellsSince, slot_calls, pool_calls}
use Rattle.codec_desk.specs.DeskLaws.{map_both, sees_then}
use Rattle.codec_desk.specs.EachLaws.{each_then}
use Rattle.desk_threads.specs.Accounts.{is_by_codec, for_codecs}
use Rattle.media_accounts.specs.Accounts.{StepOp, step_by, own_by, own_in}
use Rattle.report_text.specs.declared.result.StepResult.{StepResult}
use Rattle.report_text.specs.declared.result.StepResult.TheVariants as result
use Rattle.run_model.specs.Fits.{step_in, mark_of}
use Rattle.run_model.specs.FitsLaws.{look_of}
use Rattle.desk_callers.specs.Deeds.{Deed, GoOn, IsDeed, IsDeedAfter, AreDeeds, after_deed, calls_by, calls_of, results_of, variables_after}
use Rattle.desk_callers.specs.Acts.{StaySeats, SettledBy}
use Rattle.desk_callers.proofs.Histories.{go_same, go_then, look_reaches}

-- ---- deeds, and one more

state_more : {E S : Type 0} (after : E → S → S) (s : S) (es : List E) (e : E) → state_on after s (es ++ e ∷ []) ≡ after e (state_on after s es)
state_more after s [] e = refl
state_more after s (x ∷ xs) e = state_more after (after x s) xs e

pub variables_more : (s : ScriptData) (media : List (List Chunk)) (ds : List Deed) (d : Deed) → variables_after s media (ds ++ d ∷ []) ≡ after_deed s media d (variables_after s media ds)
variables_more s media ds d = state_more (after_deed s media) [] ds d

pub results_more : (ds : List Deed) (d : Deed) → results_of (ds ++ d ∷ []) ≡ results_of ds ++ d.result ∷ []
results_more ds d = map_both (λ (x : Deed). x.result) ds (d ∷ [])

pub calls_more : (ds : List Deed) (d : Deed) → calls_of (ds ++ d ∷ []) ≡ calls_of ds ++ calls_by d
calls_more [] d = append-nil (calls_by d)
calls_more (x ∷ xs) d = ap (λ (l : List Called). calls_by x ++ l) (calls_more xs d) ∙ sym (append_assoc (calls_by x) (calls_of xs) (calls_by d))

deed_after : (s : ScriptData) (media : List (List Chunk)) (c : ℕ) (hs later : List (List Entry)) (before : List Deed) (d : Deed) → GoOn hs later → IsDeedAfter s media c hs before d → IsDeedAfter s media c later before d
deed_after s media c hs later before d goes x = record { who = x.who; step = x.step; known = x.known; goes_on = go_then x.known hs later x.goes_on goes; sees = x.sees; is = x.is }

look_seen : (m q k n low high : ℕ) → ◌≡◌ {A = Option (ℕ × ℕ)} (Some (m, q)) (Some (k, n)) → MayClimb (reach k (mark.Look m q)) low high → n ≤ high
look_seen m q k n low high is may =
    let same : ◌≡◌ {A = ℕ × ℕ} (m, q) (k, n) = some_same (m, q) (k, n) is in
    let there : MayClimb (reach k (mark.Look k n)) low high = subst (λ (p : ℕ × ℕ). MayClimb (reach k (mark.Look p.0 p.1)) low high) same may in
    (subst (λ (o : Option (ℕ × ℕ)). MayClimb o low high) (look_reaches k n).0 there).1

-- a look that is between two ends saw no more than the later
look_within : (r : StepResult) (k n low high : ℕ) → look_of r ≡ Some (k, n) → MayClimb (reach k (mark_of r)) low high → n ≤ high
look_within (result.Look m q end) k n low high is may = look_seen m q k n low high is may
look_within (result.State m q state size) k n low high is may = look_seen m q k n low high is may
look_within (result.NoUnit m q) k n low high is may = look_seen m q k n low high is may
look_within r k n low high is may = absurd cc

-- all these deeds are at this time or earlier
abbrev pub AreUntil : List Deed → ℕ → Type 0
AreUntil ds time = (j : ℕ) (d : Deed) → slice_get ds j ≡ Some d → d.time ≤ time

-- one more, at a later time
pub until_more : (ds : List Deed) (d : Deed) (early late : ℕ) → AreUntil ds early → early ≤ late → d.time ≡ late → AreUntil (ds ++ d ∷ []) late
until_more ds d early late until later is j e there = elim (get_more ds d j e there) [
  | inl old ↦ (let before = until j e old in omega (arith, before, later))
  | inr new ↦ (let same : e.time ≡ d.time = ap (λ (x : Deed). x.time) new.1 in omega (arith, same, is))
]

times_rise : (ds : List Deed) (d : Deed) (early : ℕ) → ((i j : ℕ) (e f : Deed) → i < j → slice_get ds i ≡ Some e → slice_get ds j ≡ Some f → e.time < f.time) → AreUntil ds early → early < d.time
    → (i j : ℕ) (e f : Deed) → i < j → slice_get (ds ++ d ∷ []) i ≡ Some e → slice_get (ds ++ d ∷ []) j ≡ Some f → e.time < f.time
times_rise ds d early rise until later i j e f lt one two = elim (get_more ds d j f two) [
  | inl last ↦ elim (get_more ds d i e one) [
    | inl first ↦ rise i j e f lt first last
    | inr new ↦ absurd (let below = slice_get_within ds j f last in let end = new.0 in omega (arith, below, end, lt))
  ]
  | inr here ↦ (
      let same : f.time ≡ d.time = ap (λ (x : Deed). x.time) here.1 in
      let end = here.0 in
      elim (get_more ds d i e one) [
        | inl first ↦ (let before = until i e first in omega (arith, before, later, same))
        | inr new ↦ absurd (let also = new.0 in omega (arith, end, also, lt))
      ])
]

-- the next step of a caller
pub deeds_more : (s : ScriptData) (media : List (List Chunk)) (c : ℕ) (hs later : List (List Entry)) (ds : List Deed) (d : Deed) (early : ℕ) → AreDeeds s media c hs ds → AreUntil ds early → early < d.time → GoOn hs later → d.who ≡ step_by c (length ds) → step_in s c (length ds) ≡ Some d.step
    → IsDeed s media later (results_of ds) (variables_after s media ds) d → ((k : ℕ) → MayClimb (reach k (mark_of d.result)) (length (at k hs)) (length (at k later))) → AreDeeds s media c later (ds ++ d ∷ [])
deeds_more s media c hs later ds d early are until behind goes who step is may = record {
  each = λ j e there. (elim (get_more ds d j e there) [
    | inl old ↦ (let lt = slice_get_within ds j e old in
        subst (λ (l : List Deed). IsDeedAfter s media c later l e) (sym (take-append-le j ds (d ∷ []) (omega (arith, lt)))) (deed_after s media c hs later (take j ds) e goes (are.each j e old)))
    | inr new ↦ (
        let front : take j (ds ++ d ∷ []) ≡ ds = (λ i. take (new.0 i) (ds ++ d ∷ [])) ∙ (take-append-le (length ds) ds (d ∷ []) (omega arith) ∙ take-length ds) in
        let here : IsDeedAfter s media c later ds d = record { who = who; step = step; known = later; goes_on = go_same later; sees = λ k n looks. look_within d.result k n (length (at k hs)) (length (at k later)) looks (may k); is = is } in
        subst (λ (l : List Deed). IsDeedAfter s media c later l e) (sym front) (subst (IsDeedAfter s media c later ds) (sym new.1) here)
        )
  ]);
  climbs = λ k. subst (λ (l : List Mark). Climbs k 0 l (length (at k later))) (sym (ap (map mark_of) (results_more ds d) ∙ map_both mark_of (results_of ds) (d.result ∷ [])))
      (climbs_add k 0 (map mark_of (results_of ds)) (length (at k hs)) (mark_of d.result) (length (at k later)) (are.climbs k) (may k));
  rise = times_rise ds d early are.rise until behind;
}

-- ---- what was settled, and then more

-- what grew, and grew again
grown : {X : Type 0} (u v w m n : List X) → SameBag v (u ++ m) → SameBag w (v ++ n) → SameBag w (u ++ (m ++ n))
grown u v w m n x y t =
    let a = x t in
    let b = y t in
    let c = weigh_append t v n in
    let d = weigh_append t u m in
    let e = weigh_append t u (m ++ n) in
    let f = weigh_append t m n in
    omega (arith, a, b, c, d, e, f)

own_both : (c : ℕ) (a b : List PoolEntry) → own_in c (a ++ b) ≡ own_in c a ++ own_in c b
own_both c [] b = refl
own_both c (e ∷ es) b = ap (λ (l : List StepOp). own_by c e.by e.op ++ l) (own_both c es b) ∙ sym (append_assoc (own_by c e.by e.op) (own_in c es) (own_in c b))

codecs_both : (a b : List PoolEntry) → for_codecs (a ++ b) ≡ for_codecs a ++ for_codecs b
codecs_both a b = ap (map told) (filter-append (λ (e : PoolEntry). is_by_codec e.by) a b) ∙ map_both told (filter (λ e. is_by_codec e.by) a) (filter (λ e. is_by_codec e.by) b)

module _ {S : Type 0} where
  order_then : (es fs : List SlotEntry) (ds gs : List PoolEntry) (s : Shared) (a b c : Seat (Option S) (View Event)) → InOrderSince es ds s a b → InOrderSince fs gs s b c → InOrderSince (es ++ fs) (ds ++ gs) s a c
  order_then es fs ds gs s a b c x y = record {
    slots = x.slots ++ y.slots;
    asked = owed_then slot_dues s.codec s.opening a.me.0 b.me.0 c.me.0 x.slots y.slots x.asked y.asked;
    slot_order = λ place.
        flat_map-append (slot_at s.codec place) x.slots y.slots ∙ ((λ i. x.slot_order place i ++ y.slot_order place i) ∙ sym (flat_map-append (slot_at s.codec place) es fs));
    media = x.media ++ y.media;
    lent = owed_then media_dues s.codec s.opening a.me.0 b.me.0 c.me.0 x.media y.media x.lent y.lent;
    media_order = λ place.
        flat_map-append (asked_at s.codec place) x.media y.media ∙ ((λ i. x.media_order place i ++ y.media_order place i) ∙ sym (flat_map-append (done_at s.codec place) ds gs));
  }

module _ {C : Type 0} where
  pub stay_then : (desk : Desk C) (a b d : Seats C) → StaySeats desk a b → StaySeats desk b d → StaySeats desk a d
  stay_then desk a b d x y = record {
    codecs = each_then SeesMore SeesMore SeesMore sees_then desk.codecs.items a.codecs.items b.codecs.items d.codecs.items x.codecs y.codecs;
    slots = keeps_then desk.slots.id a.slots b.slots d.slots x.slots y.slots;
    pool = keeps_then desk.pool a.pool b.pool d.pool x.pool y.pool;
  }

  pub settled_by_then : (c : ℕ) (m n : List StepOp) (desk : Desk C) (a b d : Seats C) → SettledBy c m desk a b → SettledBy c n desk b d → SettledBy c (m ++ n) desk a d
  settled_by_then c m n desk a b d x y =
      let lends = grown (pool_calls desk.codecs.items a.codecs.items) (pool_calls desk.codecs.items b.codecs.items) (pool_calls desk.codecs.items d.codecs.items) (for_codecs x.does) (for_codecs y.does) x.lends y.lends in
      record {
        seats = stay_then desk a b d x.seats y.seats;
        entries = x.entries ++ y.entries;
        made = made_then a.slots.me.0 b.slots.me.0 d.slots.me.0 x.entries y.entries x.made y.made;
        owed = grown (slot_calls desk.codecs.items a.codecs.items) (slot_calls desk.codecs.items b.codecs.items) (slot_calls desk.codecs.items d.codecs.items) x.entries y.entries x.owed y.owed;
        does = x.does ++ y.does;
        pool = made_then a.pool.me.0 b.pool.me.0 d.pool.me.0 x.does y.does x.pool y.pool;
        lends = λ t. lends t ∙ ap (λ (l : List PoolEntry). sum_by t (pool_calls desk.codecs.items a.codecs.items ++ l)) (sym (codecs_both x.does y.does));
        order = each_then (InOrderSince x.entries x.does) (InOrderSince y.entries y.does) (InOrderSince (x.entries ++ y.entries) (x.does ++ y.does)) (order_then x.entries y.entries x.does y.does) desk.codecs.items a.codecs.items b.codecs.items d.codecs.items x.order y.order;
        told = each_then (TellsSince b.slots.me.0.log) (TellsSince d.slots.me.0.log) (TellsSince d.slots.me.0.log) (λ s u v w p q. ends_then b.slots.me.0.log y.made.more d.slots.me.0.log s.codec s.opening u.me.0 v.me.0 w.me.0 y.made.longer p q) desk.codecs.items a.codecs.items b.codecs.items d.codecs.items x.told y.told;
        own = own_both c x.does y.does ∙ (λ i. x.own i ++ y.own i);
        others = λ e other. own_both e x.does y.does ∙ (λ i. x.others e other i ++ y.others e other i);
      }
