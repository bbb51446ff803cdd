-- What a thread made in a pool for codecs, and what by steps of callers.
use Rattle.std.proofs.Common.{ℕ, ◌≡◌, ◌≢◌, Bool, false, cond, List, [], ◌∷◌, ◌++◌, map, Option, refl, ap, sym, ◌∙◌, arith, append-nil, eq-eqb, ne_eqb}
use Rattle.std.specs.List.{sum_by, filter, flat_map}
use Rattle.std.proofs.lemmas.List.Sums.{sum_by-cons, sum_by-append}
use Rattle.atomic_table.specs.declared.shared.Seat.{Seat}
use Rattle.wc_base.specs.declared.seat.View.{View}
use Rattle.wc_base.specs.declared.who.By.{By}
use Rattle.wc_base.specs.declared.who.By.TheVariants as by
use Rattle.wc_base.specs.declared.who.Who.{Who}
use Rattle.wc_pool.specs.declared.entry.{PoolEntry.PoolEntry, PoolOp.PoolOp}
use Rattle.wc_pool.specs.declared.entry.PoolOp.TheVariants as op
use Rattle.seat_lock.specs.Since.{MadeSince}
use Rattle.seat_lock.specs.SinceLaws.{made_none}
use Rattle.codec_logs.specs.declared.event.Event.{Event}
use Rattle.shared_pool.specs.declared.pool.LockedPool.{LockedPool}
use Rattle.shared_codec.specs.Dues.{slot_dues, media_dues}
use Rattle.shared_codec.specs.DueLaws.{owed_none}
use Rattle.shared_codec.specs.Keeps.{Keeps, keeps_none}
use Rattle.shared_codec.specs.Order.{done_at}
use Rattle.shared_codec.specs.Shared.{Shared}
use Rattle.shared_codec.specs.Sums.{dues_of}
use Rattle.shared_codec.specs.ToldLaws.{ends_none}
use Rattle.codec_desk.specs.declared.desk.Desk.{Desk}
use Rattle.codec_desk.specs.declared.desk.Seats.{Seats}
use Rattle.codec_desk.specs.Desks.{told, entry_for, SitsAt, SeesMore, InOrderSince, TellsSince, SitAt, slot_calls, pool_calls, Settled}
use Rattle.codec_desk.specs.DeskLaws.{sees_same}
use Rattle.codec_desk.specs.Each.{Each}
use Rattle.codec_desk.specs.EachLaws.{each_same}
use Rattle.desk_threads.specs.Accounts.{is_by_codec, for_codecs}
use Rattle.media_variables.specs.Variables.{with_last}
use Rattle.media_accounts.specs.Accounts.{StepOp, step_op, own_by, own_in}
use Rattle.shared_variables.specs.Since.{EntriesBy}
use Rattle.desk_callers.specs.Acts.{StaySeats, SettledBy}

-- whether a caller's step made the entry
abbrev by_caller : By → ℕ
by_caller (by.Caller who) = 1
by_caller (by.Codec k place) = 0

abbrev weight : PoolEntry → ℕ
weight e = by_caller e.by

no_caller : (k : ℕ) (ps : List (ℕ × PoolOp)) → sum_by weight (map (entry_for k) ps) ≡ 0
no_caller k [] = refl
no_caller k (p ∷ ps) =
    let a = sum_by-cons weight (entry_for k p) (map (entry_for k) ps) in
    let b = no_caller k ps in
    let c : weight (entry_for k p) ≡ 0 = refl in
    omega (arith, a, b, c)

no_callers : {S : Type 0} (xs : List Shared) (us : List (Seat (Option S) (View Event))) → sum_by weight (pool_calls xs us) ≡ 0
no_callers [] us = refl
no_callers (x ∷ xs) [] = refl
no_callers (x ∷ xs) (u ∷ us) =
    let a = no_caller x.codec (dues_of media_dues x.codec x.opening u.me.0) in
    let b = no_callers xs us in
    let c = sum_by-append weight (map (entry_for x.codec) (dues_of media_dues x.codec x.opening u.me.0)) (pool_calls xs us) in
    omega (arith, a, b, c)

own_one : (c : ℕ) (cause : By) (o : PoolOp) (rest : List StepOp) → by_caller cause ≡ 0 → own_by c cause o ++ rest ≡ rest
own_one c (by.Caller who) o rest none = absurd (omega (arith, none))
own_one c (by.Codec k place) o rest none = refl

-- entries of which none is of a caller
none_own : (c : ℕ) (es : List PoolEntry) → sum_by weight (map told es) ≡ 0 → own_in c es ≡ []
none_own c [] none = refl
none_own c (e ∷ es) none =
    let a = sum_by-cons weight (told e) (map told es) in
    let one : weight (told e) ≡ by_caller e.by = refl in
    own_one c e.by e.op (own_in c es) (omega (arith, a, one, none)) ∙ none_own c es (omega (arith, a, none))

for_one : (cause : By) (e : PoolEntry) (l m : List PoolEntry) → by_caller cause ≡ 0 → map told l ≡ map told m → map told (cond (is_by_codec cause) (e ∷ l) l) ≡ map told (e ∷ m)
for_one (by.Caller who) e l m none same = absurd (omega (arith, none))
for_one (by.Codec k place) e l m none same = ap (λ (x : List PoolEntry). told e ∷ x) same

all_codecs : (es : List PoolEntry) → sum_by weight (map told es) ≡ 0 → for_codecs es ≡ map told es
all_codecs [] none = refl
all_codecs (e ∷ es) none =
    let a = sum_by-cons weight (told e) (map told es) in
    let one : weight (told e) ≡ by_caller e.by = refl in
    for_one e.by e (filter (λ e. is_by_codec e.by) es) es (omega (arith, a, one, none)) (all_codecs es (omega (arith, a, none)))

abbrev op_at : ℕ → PoolOp → StepOp
op_at j o = record { step = j; op = o }

last_twice : (last : Bool) (o : PoolOp) → with_last false (with_last last o) ≡ with_last false o
last_twice last (op.Make r f) = refl
last_twice last (op.Clone r f) = refl
last_twice last (op.End r f any) = refl

-- the entries of a caller's step are its own
own_first : (who : Who) (last : Bool) (o : PoolOp) (rest : List StepOp) → own_by who.caller (by.Caller who) (with_last last o) ++ rest ≡ step_op who.step o ∷ rest
own_first who last o rest =
    ap (λ (b : Bool). cond b (step_op who.step (with_last last o) ∷ []) [] ++ rest) (eq-eqb who.caller who.caller refl)
    ∙ ap (λ (p : PoolOp). op_at who.step p ∷ rest) (last_twice last o)

own_here : (who : Who) (os : List PoolOp) (es : List PoolEntry) → EntriesBy who os es → own_in who.caller es ≡ map (step_op who.step) os
own_here who [] [] by = refl
own_here who (o ∷ os) (e ∷ es) by =
    ap (λ (x : PoolEntry). own_by who.caller x.by x.op ++ own_in who.caller es) by.0.1
    ∙ (own_first who by.0.0 o (own_in who.caller es) ∙ ap (λ (l : List StepOp). step_op who.step o ∷ l) (own_here who os es by.1))
own_here who [] (e ∷ es) by = absurd by
own_here who (o ∷ os) [] by = absurd by

-- and no other caller's
own_other : (who : Who) (last : Bool) (o : PoolOp) (d : ℕ) (rest : List StepOp) → d ≢ who.caller → own_by d (by.Caller who) (with_last last o) ++ rest ≡ rest
own_other who last o d rest other = ap (λ (b : Bool). cond b (step_op who.step (with_last last o) ∷ []) [] ++ rest) (ne_eqb who.caller d (λ e. other (sym e)))

own_elsewhere : (who : Who) (os : List PoolOp) (es : List PoolEntry) (d : ℕ) → EntriesBy who os es → d ≢ who.caller → own_in d es ≡ []
own_elsewhere who [] [] d by other = refl
own_elsewhere who (o ∷ os) (e ∷ es) d by other =
    ap (λ (x : PoolEntry). own_by d x.by x.op ++ own_in d es) by.0.1 ∙ (own_other who by.0.0 o d (own_in d es) other ∙ own_elsewhere who os es d by.1 other)
own_elsewhere who [] (e ∷ es) d by other = absurd by
own_elsewhere who (o ∷ os) [] d by other = absurd by

-- nor are they of codecs
none_for_codecs : (who : Who) (os : List PoolOp) (es : List PoolEntry) → EntriesBy who os es → [] ≡ for_codecs es
none_for_codecs who [] [] by = refl
none_for_codecs who (o ∷ os) (e ∷ es) by = none_for_codecs who os es by.1 ∙ sym (ap (λ (x : PoolEntry). for_codecs (x ∷ es)) by.0.1)
none_for_codecs who [] (e ∷ es) by = absurd by
none_for_codecs who (o ∷ os) [] by = absurd by

none_done : (k place : ℕ) (who : Who) (os : List PoolOp) (es : List PoolEntry) → EntriesBy who os es → flat_map (done_at k place) es ≡ []
none_done k place who [] [] by = refl
none_done k place who (o ∷ os) (e ∷ es) by = ap (λ (x : PoolEntry). flat_map (done_at k place) (x ∷ es)) by.0.1 ∙ none_done k place who os es by.1
none_done k place who [] (e ∷ es) by = absurd by
none_done k place who (o ∷ os) [] by = absurd by

module _ {C : Type 0} where
  -- what is settled for codecs alone is so with nothing by a caller's steps
  pub settled_by : (c : ℕ) (desk : Desk C) (a b : Seats C) → Settled desk a b → SettledBy c [] desk a b
  settled_by c desk a b x =
      let before = no_callers desk.codecs.items a.codecs.items in
      let after = no_callers desk.codecs.items b.codecs.items in
      let same = x.lends weight in
      let both = sum_by-append weight (pool_calls desk.codecs.items a.codecs.items) (map told x.does) in
      let none : sum_by weight (map told x.does) ≡ 0 = omega (arith, before, after, same, both) in
      record {
        seats = record { codecs = x.seats; slots = x.slot_seat; pool = x.pool_seat };
        entries = x.entries;
        made = x.made;
        owed = x.owed;
        does = x.does;
        pool = x.pool;
        lends = λ t. x.lends t ∙ ap (λ (l : List PoolEntry). sum_by t (pool_calls desk.codecs.items a.codecs.items ++ l)) (sym (all_codecs x.does none));
        order = x.order;
        told = x.told;
        own = none_own c x.does none;
        others = λ d other. none_own d x.does none;
      }

  -- the pool's seat alone went on
  abbrev pub with_pool : Seats C → Seat (Option LockedPool) (View PoolEntry) → Seats C
  with_pool a p = record { codecs = a.codecs; pool = p; slots = a.slots }

  pub stay_pool : (desk : Desk C) (a : Seats C) (p : Seat (Option LockedPool) (View PoolEntry)) → SitAt desk a → Keeps desk.pool a.pool p → StaySeats desk a (with_pool a p)
  stay_pool desk a p sits kept = record {
    codecs = each_same (SitsAt desk.pool desk.slots.id) SeesMore (λ n t w h. sees_same t w h.idle) 0 desk.codecs.items a.codecs.items sits.codecs;
    slots = keeps_none desk.slots.id a.slots sits.slots.0;
    pool = kept;
  }

  -- entries that are of no codec are of none in order
  order_rests : (desk : Desk C) (a : Seats C) (es : List PoolEntry) → SitAt desk a → ((k place : ℕ) → flat_map (done_at k place) es ≡ []) → Each (InOrderSince [] es) desk.codecs.items a.codecs.items a.codecs.items
  order_rests desk a es sits none =
      each_same (SitsAt desk.pool desk.slots.id) (InOrderSince [] es)
      (λ n t w h. record {
        slots = [];
        asked = owed_none slot_dues t.codec t.opening w.me.0;
        slot_order = λ place. refl;
        media = [];
        lent = owed_none media_dues t.codec t.opening w.me.0;
        media_order = λ place. sym (none t.codec place);
      }) 0 desk.codecs.items a.codecs.items sits.codecs

  -- no item ended
  told_rests : (desk : Desk C) (a : Seats C) → SitAt desk a → Each (TellsSince a.slots.me.0.log) desk.codecs.items a.codecs.items a.codecs.items
  told_rests desk a sits = each_same (SitsAt desk.pool desk.slots.id) (TellsSince a.slots.me.0.log) (λ n t w h. ends_none a.slots.me.0.log t.codec t.opening w.me.0) 0 desk.codecs.items a.codecs.items sits.codecs

  -- the entries of a caller's step
  pub settled_own : (desk : Desk C) (a : Seats C) (p : Seat (Option LockedPool) (View PoolEntry)) (who : Who) (os : List PoolOp) (es : List PoolEntry) → EntriesBy who os es → SitAt desk a → Keeps desk.pool a.pool p → MadeSince a.pool.me.0 p.me.0 es
      → SettledBy who.caller (map (step_op who.step) os) desk a (with_pool a p)
  settled_own desk a p who os es by sits kept since =
      let calls = pool_calls desk.codecs.items a.codecs.items in
      record {
        seats = stay_pool desk a p sits kept;
        entries = [];
        made = made_none a.slots.me.0;
        owed = λ t. ap (sum_by t) (sym (append-nil (slot_calls desk.codecs.items a.codecs.items)));
        does = es;
        pool = since;
        lends = λ t. ap (sum_by t) (sym (append-nil calls) ∙ ap (λ (l : List PoolEntry). calls ++ l) (none_for_codecs who os es by));
        order = order_rests desk a es sits (λ k place. none_done k place who os es by);
        told = told_rests desk a sits;
        own = own_here who os es by;
        others = λ d other. own_elsewhere who os es d by other;
      }
