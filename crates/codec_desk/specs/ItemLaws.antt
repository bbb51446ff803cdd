-- Laws of an item of one codec of a desk, between its start and its end.
use Rattle.std.proofs.Common.{ℕ, zero, suc, ◌+◌, ◌<◌, ◌≤◌, ◌≡◌, ◌≢◌, ◌⊎◌, inl, inr, Bool, length, List, [], ◌∷◌, ◌++◌, map, Option, Some, None, is_some, true, ap, sym, subst, ◌∙◌, append-nil, append_assoc, length-append, arith, set}
use Rattle.std.proofs.lemmas.Bool.{cases_eq}
use Rattle.std.specs.Prelude.{slice_get}
use Rattle.std.specs.List.{sum_by, flat_map}
use Rattle.std.proofs.lemmas.List.Concat.{flat_map-append}
use Rattle.atomic_table.specs.declared.shared.Seat.{Seat}
use Rattle.wc_base.specs.Views.{Log}
use Rattle.wc_base.specs.declared.{seat.View.View, ground.Ground.Ground}
use Rattle.wc_config.specs.declared.{codec.CoderId.CoderId, kind.Kind.Kind}
use Rattle.wc_pool.specs.declared.entry.{PoolEntry.PoolEntry}
use Rattle.coder_api.specs.declared.slot.SlotEntry.{SlotEntry}
use Rattle.codec_model.specs.declared.entry.Entry.TheVariants as entry
use Rattle.codec_core.specs.Job.{JobValue, DoneValue, IsJobOf, IsEndOf, missing_id, outcome_of, stopped_box}
use Rattle.codec_model.specs.Replay.{State}
use Rattle.codec_accounts.specs.Bags.{SameBag}
use Rattle.codec_accounts.specs.BagsLaws.{weigh_append}
use Rattle.seat_lock.specs.Since.{MadeSince}
use Rattle.seat_lock.specs.SinceLaws.{made_none, made_then}
use Rattle.codec_logs.specs.declared.event.Event.{Event}
use Rattle.codec_logs.specs.Logs.{box_by, track}
use Rattle.seat_lock.specs.ClaimLaws.{entries_both}
use Rattle.work_moments.specs.Moments.{Telling, Given}
use Rattle.codec_accounts.specs.Registry.{Box}
use Rattle.shared_pool.specs.Steps as pools
use Rattle.seat_lock.specs.Logs.{entries_of}
use Rattle.shared_codec.specs.declared.codec.Locked.{Locked}
use Rattle.shared_codec.specs.Dues.{OwedSince, slot_dues, media_dues}
use Rattle.shared_codec.specs.DueLaws.{owed_none, owed_then, owed_once}
use Rattle.shared_codec.specs.Keeps.{Keeps, keeps_then}
use Rattle.shared_codec.specs.Looks.{HoldingTells}
use Rattle.shared_codec.specs.Order.{slot_at}
use Rattle.shared_codec.specs.Settled.{ReclaimOnceTells}
use Rattle.shared_codec.specs.Settles.{SettlesAfter, AreOfCodec}
use Rattle.shared_codec.specs.Shared.{Shared, MayEnd, LookedIn}
use Rattle.shared_codec.specs.Sums.{dues_of, DuesAddUp}
use Rattle.shared_codec.specs.declared.workers.Lack.{Lack}
use Rattle.shared_codec.specs.declared.workers.Lack.TheVariants as lack
use Rattle.shared_codec.specs.Names.{Names}
use Rattle.shared_codec.specs.Told.{StandIn, IsRefusalAt, IsTold, asked_in, ending_of}
use Rattle.shared_codec.specs.ToldLaws.{refusal_later, told_later, ends_none, ends_then}
use Rattle.shared_codec.specs.declared.workers.Acquired.{Acquired}
use Rattle.shared_codec.specs.declared.workers.Acquired.TheVariants as acquired
use Rattle.shared_codec.specs.Workers.{AreBy, IsAtWork, AcquireGives, MayWork, LackIs, WorkEnds}
use Rattle.shared_codec.specs.WorkLaws.{box_granted, may_end, end_told, work_granted, work_refused, refusal_at, refusal_stands, stand_since, work_seen, work_reclaimed, reclaim_owes, look_owes}
use Rattle.reclaimer.specs.declared.holder.Holder.{Holder}
use Rattle.reclaimer.specs.Picks.{IsLeastCodec, IsPicked, is_inactive, is_background_decoder}
use Rattle.codec_desk.specs.declared.desk.Desk.{Desk}
use Rattle.codec_desk.specs.declared.desk.Seats.{Seats}
use Rattle.codec_desk.specs.Desks.{told, entry_for, SitsAt, SeesMore, InOrderSince, TellsSince, slot_calls, pool_calls, SitAt, Settled}
use Rattle.codec_desk.specs.DeskLaws.{map_both, grown, slots_grow, calls_grow, slots_apart, do_apart, order_apart, order_for, order_then, sees_same, sees_then, settled_none, settled_then}
use Rattle.codec_desk.specs.Each.{Pairs, Each, OneAt}
use Rattle.codec_desk.specs.EachLaws.{set_there, pairs_get, each_forth, each_same, each_one, each_other, each_so, each_then, total_one}
use Rattle.codec_desk.specs.Items.{LeavesItems, Begun, EndsIn, WorksAt, MayEndAt, Meanwhile, SettledBut, OnlySlots, Seeks, Sought, SawFirst, SawHolders, holder_if, holders_from, made_by, lack_of}
use Rattle.codec_desk.specs.Clocks.{EndsAt}
use Rattle.codec_desk.specs.ClockLaws.{ends_one, timed_none, timed_then}
use Rattle.codec_desk.specs.Named.{calls_made}
use Rattle.codec_desk.specs.NamedLaws.{named_one, calls_none, calls_then}
use Rattle.codec_desk.specs.RunLaws.{none_looked, none_reclaimed, none_finished, none_each}
use Rattle.codec_desk.specs.Runs.{RunsNone, EachRunsNone}

-- ---- items that stay at work

module _ {S : Type 0} where
  pub leaves_none : (s : Shared) (a : Seat (Option S) (View Event)) → LeavesItems s a a
  leaves_none s a = record { runs = λ none. none; work = λ asked job es w. w; owes = λ asked job es w. owed_none slot_dues s.codec s.opening a.me.0 }

  pub leaves_then : (s : Shared) (a b c : Seat (Option S) (View Event)) → LeavesItems s a b → LeavesItems s b c → LeavesItems s a c
  leaves_then s a b c x y = record {
    runs = λ none. y.runs (x.runs none);
    work = λ asked job es w. y.work asked job es (x.work asked job es w);
    owes = λ asked job es w. owed_then slot_dues s.codec s.opening a.me.0 b.me.0 c.me.0 [] [] (x.owes asked job es w) (y.owes asked job es (x.work asked job es w));
  }

  pub leaves_looked : (s : Shared) (a b : Seat (Option S) (View Event)) → LookedIn s a b → LeavesItems s a b
  leaves_looked s a b x = record {
    runs = λ none. none_looked s a b x none;
    work = λ asked job es w. work_seen s a b asked job es x w;
    owes = λ asked job es w. look_owes s a b x;
  }

  pub leaves_reclaimed : (now : ℕ) (result : Option ℕ) (s : Shared) (a b : Seat (Option S) (View Event)) → ReclaimOnceTells s now result a b → LeavesItems s a b
  leaves_reclaimed now (Some place) s a b told = record {
    runs = λ none. none_reclaimed s now (Some place) a b told none;
    work = λ asked job es w. work_reclaimed s now told.0.place told.0.media told.0.coder a b asked job es told.2 w;
    owes = λ asked job es w. reclaim_owes s now told.0.place told.0.media told.0.coder a b asked job es told.2 w;
  }
  leaves_reclaimed now None s a b told = leaves_looked s a b told.looked

-- ---- what is settled but for some acquires

swap : {X : Type 0} (a b c : List X) → (b ≡ []) ⊎ (c ≡ []) → (a ++ b) ++ c ≡ (a ++ c) ++ b
swap a b c (inl none) =
    (λ i. (a ++ none i) ++ c) ∙ (ap (λ l. l ++ c) (append-nil a) ∙ (sym (append-nil (a ++ c)) ∙ (λ i. (a ++ c) ++ sym none i)))
swap a b c (inr none) =
    (λ i. (a ++ b) ++ none i) ∙ (append-nil (a ++ b) ∙ (ap (λ l. l ++ b) (sym (append-nil a)) ∙ (λ i. (a ++ sym none i) ++ b)))

tells_later : {S : Type 0} (l more m : Log SlotEntry) (s : Shared) (a b : Seat (Option S) (View Event)) → m ≡ l ++ more → TellsSince l s a b → TellsSince m s a b
tells_later l more m s a b is x = record { ends = x.ends; owed = x.owed; told = told_later l more m x.ends is x.told }

-- entries as a bag, in other orders
moved : (entries called ahead more : List SlotEntry) → SameBag entries (called ++ ahead) → SameBag (entries ++ more) ((called ++ more) ++ ahead)
moved entries called ahead more is t =
    let a = is t in
    let b = weigh_append t entries more in
    let c = weigh_append t called ahead in
    let d = weigh_append t called more in
    let e = weigh_append t (called ++ more) ahead in
    omega (arith, a, b, c, d, e)

added : (entries called ahead more : List SlotEntry) → SameBag entries (called ++ ahead) → SameBag (entries ++ more) (called ++ (ahead ++ more))
added entries called ahead more is t =
    let a = is t in
    let b = weigh_append t entries more in
    let c = weigh_append t called ahead in
    let d = weigh_append t ahead more in
    let e = weigh_append t called (ahead ++ more) in
    omega (arith, a, b, c, d, e)

paid : (u v w entries called ahead more : List SlotEntry) → SameBag v (u ++ called) → SameBag w (v ++ (ahead ++ more)) → SameBag entries (called ++ ahead) → SameBag w (u ++ (entries ++ more))
paid u v w entries called ahead more x y is t =
    let a = x t in
    let b = y t in
    let c = is t in
    let d = weigh_append t u called in
    let e = weigh_append t v (ahead ++ more) in
    let f = weigh_append t ahead more in
    let g = weigh_append t called ahead in
    let h = weigh_append t u (entries ++ more) in
    let j = weigh_append t entries more in
    omega (arith, a, b, c, d, e, f, g, h, j)

module _ {S : Type 0} where
  -- in the order of other entries, which are the same for each entry of a codec
  order_as : (es fs : List SlotEntry) (ds : List PoolEntry) (s : Shared) (a b : Seat (Option S) (View Event)) → ((place : ℕ) → flat_map (slot_at s.codec place) es ≡ flat_map (slot_at s.codec place) fs) → InOrderSince es ds s a b → InOrderSince fs ds s a b
  order_as es fs ds s a b same x = record {
    slots = x.slots;
    asked = x.asked;
    slot_order = λ place. x.slot_order place ∙ same place;
    media = x.media;
    lent = x.lent;
    media_order = x.media_order;
  }

  -- what a seat's own entries call for is all that was made by them
  order_none : (es : List SlotEntry) (ds : List PoolEntry) (s : Shared) (a b : Seat (Option S) (View Event)) → InOrderSince es ds s a b → OwedSince slot_dues s.codec s.opening a.me.0 b.me.0 [] → (place : ℕ) → flat_map (slot_at s.codec place) es ≡ []
  order_none es ds s a b x owes place =
      let none : x.slots ≡ [] = owed_once slot_dues s.codec s.opening a.me.0 b.me.0 x.slots [] x.asked owes in
      sym (x.slot_order place) ∙ ap (flat_map (slot_at s.codec place)) none

module _ {C : Type 0} where
  pub but_settled : (desk : Desk C) (a b : Seats C) → Settled desk a b → SettledBut desk [] a b
  but_settled desk a b x = record {
    seats = x.seats;
    slot_seat = x.slot_seat;
    pool_seat = x.pool_seat;
    entries = x.entries;
    made = x.made;
    called = x.entries;
    owed = x.owed;
    rest = λ t. ap (sum_by t) (sym (append-nil x.entries));
    places = λ k place. ap (flat_map (slot_at k place)) (sym (append-nil x.entries));
    does = x.does;
    pool = x.pool;
    lends = x.lends;
    order = x.order;
    told = x.told;
  }

  pub but_none : (desk : Desk C) (a : Seats C) → SitAt desk a → SettledBut desk [] a a
  but_none desk a at = but_settled desk a a (settled_none desk a at)

  -- acquires more
  pub but_more : (desk : Desk C) (ahead es : List SlotEntry) (a b c : Seats C) → SettledBut desk ahead a b → OnlySlots desk b c → MadeSince b.slots.me.0 c.slots.me.0 es → SettledBut desk (ahead ++ es) a c
  but_more desk ahead es a b c x o made =
      let xs : List Shared = desk.codecs.items in
      let back : b.codecs.items ≡ c.codecs.items = sym o.codecs in
      record {
        seats = subst (λ (l : List (Seat (Option (Locked C)) (View Event))). Each SeesMore xs a.codecs.items l) back x.seats;
        slot_seat = keeps_then desk.slots.id a.slots b.slots c.slots x.slot_seat o.slots;
        pool_seat = subst (λ z. Keeps desk.pool a.pool z) (sym o.pool) x.pool_seat;
        entries = x.entries ++ es;
        made = made_then a.slots.me.0 b.slots.me.0 c.slots.me.0 x.entries es x.made made;
        called = x.called;
        owed = λ t. ap (λ (l : List (Seat (Option (Locked C)) (View Event))). sum_by t (slot_calls xs l)) o.codecs ∙ x.owed t;
        rest = added x.entries x.called ahead es x.rest;
        places = λ k place. flat_map-append (slot_at k place) x.entries es ∙ (ap (λ (l : List SlotEntry). l ++ flat_map (slot_at k place) es) (x.places k place)
            ∙ (sym (flat_map-append (slot_at k place) (x.called ++ ahead) es) ∙ ap (flat_map (slot_at k place)) (append_assoc x.called ahead es)));
        does = x.does;
        pool = subst (λ z. MadeSince a.pool.me.0 z x.does) (ap (λ z. z.me.0) (sym o.pool)) x.pool;
        lends = λ t. ap (λ (l : List (Seat (Option (Locked C)) (View Event))). sum_by t (pool_calls xs l)) o.codecs ∙ x.lends t;
        order = subst (λ (l : List (Seat (Option (Locked C)) (View Event))). Each (InOrderSince x.called x.does) xs a.codecs.items l) back x.order;
        told = each_so (TellsSince b.slots.me.0.log) (TellsSince c.slots.me.0.log) (λ s u v. tells_later b.slots.me.0.log made.more c.slots.me.0.log s u v made.longer) xs a.codecs.items c.codecs.items
            (subst (λ (l : List (Seat (Option (Locked C)) (View Event))). Each (TellsSince b.slots.me.0.log) xs a.codecs.items l) back x.told);
      }

  -- more is settled, by other entries than these acquires
  pub but_then : (desk : Desk C) (ahead : List SlotEntry) (a b c : Seats C) → SettledBut desk ahead a b → (y : Settled desk b c) → ((k place : ℕ) → (flat_map (slot_at k place) ahead ≡ []) ⊎ (flat_map (slot_at k place) y.entries ≡ [])) → SettledBut desk ahead a c
  but_then desk ahead a b c x y apart =
      let xs : List Shared = desk.codecs.items in
      let calls = grown (pool_calls xs a.codecs.items) (pool_calls xs b.codecs.items) (pool_calls xs c.codecs.items) (map told x.does) (map told y.does) x.lends y.lends in
      record {
        seats = each_then SeesMore SeesMore SeesMore sees_then xs a.codecs.items b.codecs.items c.codecs.items x.seats y.seats;
        slot_seat = keeps_then desk.slots.id a.slots b.slots c.slots x.slot_seat y.slot_seat;
        pool_seat = keeps_then desk.pool a.pool b.pool c.pool x.pool_seat y.pool_seat;
        entries = x.entries ++ y.entries;
        made = made_then a.slots.me.0 b.slots.me.0 c.slots.me.0 x.entries y.entries x.made y.made;
        called = x.called ++ y.entries;
        owed = grown (slot_calls xs a.codecs.items) (slot_calls xs b.codecs.items) (slot_calls xs c.codecs.items) x.called y.entries x.owed y.owed;
        rest = moved x.entries x.called ahead y.entries x.rest;
        places = λ k place. flat_map-append (slot_at k place) x.entries y.entries ∙ (ap (λ (l : List SlotEntry). l ++ flat_map (slot_at k place) y.entries) (x.places k place ∙ flat_map-append (slot_at k place) x.called ahead)
            ∙ (swap (flat_map (slot_at k place) x.called) (flat_map (slot_at k place) ahead) (flat_map (slot_at k place) y.entries) (apart k place)
            ∙ (ap (λ (l : List SlotEntry). l ++ flat_map (slot_at k place) ahead) (sym (flat_map-append (slot_at k place) x.called y.entries)) ∙ sym (flat_map-append (slot_at k place) (x.called ++ y.entries) ahead))));
        does = x.does ++ y.does;
        pool = made_then a.pool.me.0 b.pool.me.0 c.pool.me.0 x.does y.does x.pool y.pool;
        lends = λ t. calls t ∙ ap (λ (l : List PoolEntry). sum_by t (pool_calls xs a.codecs.items ++ l)) (sym (map_both told x.does y.does));
        order = each_then (InOrderSince x.called x.does) (InOrderSince y.entries y.does) (InOrderSince (x.called ++ y.entries) (x.does ++ y.does)) (order_then x.called y.entries x.does y.does) xs a.codecs.items b.codecs.items c.codecs.items x.order y.order;
        told = each_then (TellsSince b.slots.me.0.log) (TellsSince c.slots.me.0.log) (TellsSince c.slots.me.0.log) (λ s u v w p q. ends_then b.slots.me.0.log y.made.more c.slots.me.0.log s.codec s.opening u.me.0 v.me.0 w.me.0 y.made.longer p q) xs a.codecs.items b.codecs.items c.codecs.items x.told y.told;
      }

  -- the end of the item calls for its acquires, and for what it lets go
  pub but_ends : (desk : Desk C) (es : List SlotEntry) (a b c : Seats C) (k moment place : ℕ) (d : DoneValue) → DuesAddUp slot_dues → DuesAddUp media_dues → SitAt desk b → SettledBut desk es a b
      → Keeps desk.slots.id b.slots c.slots → Keeps desk.pool b.pool c.pool → OneAt k (EndsIn es d moment place b.slots.me.0 c.slots.me.0 b.pool.me.0 c.pool.me.0) desk.codecs.items b.codecs.items c.codecs.items → Settled desk a c
  but_ends desk es a b c k moment place d slots_add media_add at x slot_kept pool_kept one =
      let xs : List Shared = desk.codecs.items in
      let Q : ℕ → Shared → Seat (Option (Locked C)) (View Event) → Type 0 = SitsAt desk.pool desk.slots.id in
      let s : Shared = one.partner in
      let u : Seat (Option (Locked C)) (View Event) = one.before in
      let v : Seat (Option (Locked C)) (View Event) = one.after in
      let z : SettlesAfter es s u.me.0 v.me.0 b.slots.me.0 c.slots.me.0 b.pool.me.0 c.pool.me.0 = one.so.settles in
      let all : List SlotEntry = es ++ z.entries in
      let set_is : List (Seat (Option (Locked C)) (View Event)) = set b.codecs.items k v in
      let here : SitsAt desk.pool desk.slots.id k s u = pairs_get Q 0 k k xs b.codecs.items s u at.codecs (omega arith) one.partner_is one.before_is in
      let others : (j : ℕ) (t : Shared) (w : Seat (Option (Locked C)) (View Event)) → j ≢ k → Q j t w → InOrderSince all z.does t w w =
      (λ j t w other h.
      let apart : t.codec ≢ s.codec = (λ e. other (sym h.number ∙ (e ∙ here.number))) in
      order_apart all z.does t w (λ p. slots_apart t.codec s.codec p all apart z.own) (λ p. do_apart t.codec s.codec p z.calls z.does apart z.are)) in
      let more : SeesMore s u v = record { kept = one.so.kept; more = z.owes.slots.more; longer = z.owes.slots.longer } in
      let calls : SameBag (slot_calls xs set_is) (slot_calls xs b.codecs.items ++ all) =
      total_one (λ (t : Shared) (w : Seat (Option (Locked C)) (View Event)). dues_of slot_dues t.codec t.opening w.me.0) k xs b.codecs.items s u v all one.partner_is one.before_is
      (slots_grow s u.me.0 v.me.0 all (slots_add.grow s.codec s.opening u.me.0 v.me.0 all z.owes.slots)) in
      let lends : SameBag (pool_calls xs set_is) (pool_calls xs b.codecs.items ++ map told z.does) =
      total_one (λ (t : Shared) (w : Seat (Option (Locked C)) (View Event)). map (entry_for t.codec) (dues_of media_dues t.codec t.opening w.me.0)) k xs b.codecs.items s u v (map told z.does) one.partner_is one.before_is
      (calls_grow s u.me.0 v.me.0 z.calls z.does (media_add.grow s.codec s.opening u.me.0 v.me.0 z.calls z.owes.pool) z.are) in
      let owed : SameBag (slot_calls xs c.codecs.items) (slot_calls xs b.codecs.items ++ all) = (λ t. ap (λ (l : List (Seat (Option (Locked C)) (View Event))). sum_by t (slot_calls xs l)) one.after_is ∙ calls t) in
      let lent : SameBag (pool_calls xs c.codecs.items) (pool_calls xs b.codecs.items ++ map told z.does) = (λ t. ap (λ (l : List (Seat (Option (Locked C)) (View Event))). sum_by t (pool_calls xs l)) one.after_is ∙ lends t) in
      let both = grown (pool_calls xs a.codecs.items) (pool_calls xs b.codecs.items) (pool_calls xs c.codecs.items) (map told x.does) (map told z.does) x.lends lent in
      let seats : Each SeesMore xs b.codecs.items c.codecs.items = subst (λ (l : List (Seat (Option (Locked C)) (View Event))). Each SeesMore xs b.codecs.items l) (sym one.after_is)
      (each_one Q SeesMore (λ n t w h. sees_same t w h.idle) 0 k xs b.codecs.items s u v at.codecs one.partner_is one.before_is more) in
      let order : Each (InOrderSince all z.does) xs b.codecs.items c.codecs.items = subst (λ (l : List (Seat (Option (Locked C)) (View Event))). Each (InOrderSince all z.does) xs b.codecs.items l) (sym one.after_is)
      (each_other Q (InOrderSince all z.does) k others 0 k (omega arith) xs b.codecs.items s u v at.codecs one.partner_is one.before_is (order_for s u v all z.calls z.ends z.does z.owes z.are)) in
      let tells : Each (TellsSince c.slots.me.0.log) xs b.codecs.items c.codecs.items = subst (λ (l : List (Seat (Option (Locked C)) (View Event))). Each (TellsSince c.slots.me.0.log) xs b.codecs.items l) (sym one.after_is)
      (each_one Q (TellsSince c.slots.me.0.log) (λ n t w h. ends_none c.slots.me.0.log t.codec t.opening w.me.0) 0 k xs b.codecs.items s u v at.codecs one.partner_is one.before_is (record { ends = z.ends; owed = z.owes.ended; told = z.told })) in
      let together : Each (InOrderSince (x.called ++ all) (x.does ++ z.does)) xs a.codecs.items c.codecs.items =
      each_then (InOrderSince x.called x.does) (InOrderSince all z.does) (InOrderSince (x.called ++ all) (x.does ++ z.does)) (order_then x.called all x.does z.does) xs a.codecs.items b.codecs.items c.codecs.items x.order order in
      let same : (n p : ℕ) → flat_map (slot_at n p) (x.called ++ all) ≡ flat_map (slot_at n p) (x.entries ++ z.entries) =
      (λ n p. ap (flat_map (slot_at n p)) (sym (append_assoc x.called es z.entries)) ∙ (flat_map-append (slot_at n p) (x.called ++ es) z.entries
      ∙ (ap (λ (l : List SlotEntry). l ++ flat_map (slot_at n p) z.entries) (sym (x.places n p)) ∙ sym (flat_map-append (slot_at n p) x.entries z.entries)))) in
      record {
        seats = each_then SeesMore SeesMore SeesMore sees_then xs a.codecs.items b.codecs.items c.codecs.items x.seats seats;
        slot_seat = keeps_then desk.slots.id a.slots b.slots c.slots x.slot_seat slot_kept;
        pool_seat = keeps_then desk.pool a.pool b.pool c.pool x.pool_seat pool_kept;
        entries = x.entries ++ z.entries;
        made = made_then a.slots.me.0 b.slots.me.0 c.slots.me.0 x.entries z.entries x.made z.made;
        owed = paid (slot_calls xs a.codecs.items) (slot_calls xs b.codecs.items) (slot_calls xs c.codecs.items) x.entries x.called es z.entries x.owed owed x.rest;
        does = x.does ++ z.does;
        pool = made_then a.pool.me.0 b.pool.me.0 c.pool.me.0 x.does z.does x.pool z.pool;
        lends = λ t. both t ∙ ap (λ (l : List PoolEntry). sum_by t (pool_calls xs a.codecs.items ++ l)) (sym (map_both told x.does z.does));
        order = each_so (InOrderSince (x.called ++ all) (x.does ++ z.does)) (InOrderSince (x.entries ++ z.entries) (x.does ++ z.does)) (λ t w y. order_as (x.called ++ all) (x.entries ++ z.entries) (x.does ++ z.does) t w y (λ p. same t.codec p)) xs a.codecs.items c.codecs.items together;
        told = each_then (TellsSince b.slots.me.0.log) (TellsSince c.slots.me.0.log) (TellsSince c.slots.me.0.log) (λ t w y v p q. ends_then b.slots.me.0.log z.made.more c.slots.me.0.log t.codec t.opening w.me.0 y.me.0 v.me.0 z.made.longer p q) xs a.codecs.items b.codecs.items c.codecs.items x.told tells;
      }

-- ---- holders of coders

pub holders_more : (n : ℕ) (seens : List (Option ℕ × Ground × Kind)) (seen : Option ℕ × Ground × Kind) → holders_from n (seens ++ seen ∷ []) ≡ holders_from n seens ++ holder_if (n + length seens) seen.0 seen.1 seen.2
holders_more n [] seen =
    let same : n ≡ n + 0 = omega arith in
    append-nil (holder_if n seen.0 seen.1 seen.2) ∙ ap (λ (m : ℕ). holder_if m seen.0 seen.1 seen.2) same
holders_more n (q ∷ qs) seen =
    let same : suc n + length qs ≡ n + length (q ∷ qs) = omega arith in
    ap (λ (l : List Holder). holder_if n q.0 q.1 q.2 ++ l) (holders_more (suc n) qs seen ∙ ap (λ (m : ℕ). holders_from (suc n) qs ++ holder_if m seen.0 seen.1 seen.2) same)
    ∙ sym (append_assoc (holder_if n q.0 q.1 q.2) (holders_from (suc n) qs) (holder_if (n + length (q ∷ qs)) seen.0 seen.1 seen.2))

codec_of_holder : ℕ → Option Holder → ℕ
codec_of_holder k None = k
codec_of_holder k (Some h) = h.codec

few_holders : (k : ℕ) (progress : Option ℕ) (ground : Ground) (kind : Kind) → length (holder_if k progress ground kind) ≤ 1
few_holders k None ground kind = omega arith
few_holders k (Some progress) ground kind = omega arith

pub holders_few : (n : ℕ) (seens : List (Option ℕ × Ground × Kind)) → length (holders_from n seens) ≤ length seens
holders_few n [] = omega arith
holders_few n (q ∷ qs) =
    let one = few_holders n q.0 q.1 q.2 in
    let rest = holders_few (suc n) qs in
    let both = length-append (holder_if n q.0 q.1 q.2) (holders_from (suc n) qs) in
    omega (arith, one, rest, both)

-- the number of a holder is that of a codec which was looked at
holder_in : (k place : ℕ) (progress : Option ℕ) (ground : Ground) (kind : Kind) (rest : List Holder) (h : Holder) (m : ℕ) → slice_get (holder_if k progress ground kind ++ rest) place ≡ Some h → ((p : ℕ) → slice_get rest p ≡ Some h → h.codec < suc k + m) → h.codec < k + suc m
unfolding codec_of_holder
holder_in k place None ground kind rest h m at behind = (let less = behind place at in omega (arith, less))
holder_in k zero (Some progress) ground kind rest h m at behind = (let same : k ≡ h.codec = (ap (λ (o : Option Holder). codec_of_holder k o) at) in omega (arith, same))
holder_in k (suc p) (Some progress) ground kind rest h m at behind = (let less = behind p at in omega (arith, less))

pub holder_within : (n : ℕ) (seens : List (Option ℕ × Ground × Kind)) (place : ℕ) (h : Holder) → slice_get (holders_from n seens) place ≡ Some h → h.codec < n + length seens
holder_within n [] place h at = absurd cc
holder_within n (q ∷ qs) place h at = holder_in n place q.0 q.1 q.2 (holders_from (suc n) qs) h (length qs) at (λ p there. holder_within (suc n) qs p h there)

least_within : (wanted : Holder → Bool) (seens : List (Option ℕ × Ground × Kind)) (k : ℕ) → IsLeastCodec wanted (holders_from 0 seens) k → k < length seens
least_within wanted seens k x = (let less = holder_within 0 seens x.least.place x.holder x.least.at in let same = x.own in omega (arith, less, same))

module _ {S : Type 0} where
  saw_set : (seens : List (Option ℕ × Ground × Kind)) (seen : Option ℕ × Ground × Kind) (i : ℕ) (xs : List Shared) (us vs : List (Seat (Option S) (View Event))) (x : Shared) (v w : Seat (Option S) (View Event)) → length seens ≡ i → slice_get xs i ≡ Some x → slice_get vs i ≡ Some v → HoldingTells x seen v w → SawFirst seens xs us vs → SawFirst (seens ++ seen ∷ []) xs us (set vs i w)
  saw_set [] seen i [] us vs x v w long at there told h = absurd cc
  saw_set [] seen i (y ∷ xs) us [] x v w long at there told h = absurd cc
  saw_set [] seen i (y ∷ xs) [] (z ∷ vs) x v w long at there told h = absurd cc
  saw_set [] seen zero (y ∷ xs) (u ∷ us) (z ∷ vs) x v w long at there told h =
      let e : x ≡ y = cc in
      let f : v ≡ u = cc in
      let g : vs ≡ us = cc in
      (subst (λ (p : Shared × Seat (Option S) (View Event)). HoldingTells p.0 seen p.1 w) (λ i. (e i, f i)) told, g)
  saw_set [] seen (suc i) (y ∷ xs) (u ∷ us) (z ∷ vs) x v w long at there told h = absurd (omega (arith, long))
  saw_set (q ∷ qs) seen i [] us vs x v w long at there told h = absurd cc
  saw_set (q ∷ qs) seen i (y ∷ xs) [] vs x v w long at there told h = absurd h
  saw_set (q ∷ qs) seen i (y ∷ xs) (u ∷ us) [] x v w long at there told h = absurd h
  saw_set (q ∷ qs) seen zero (y ∷ xs) (u ∷ us) (z ∷ vs) x v w long at there told h = absurd (omega (arith, long))
  saw_set (q ∷ qs) seen (suc i) (y ∷ xs) (u ∷ us) (z ∷ vs) x v w long at there told h = (h.0, saw_set qs seen i xs us vs x v w (omega (arith, long)) at there told h.1)

  -- one codec more was looked at
  pub saw_more : (seens : List (Option ℕ × Ground × Kind)) (seen : Option ℕ × Ground × Kind) (i : ℕ) (xs : List Shared) (us vs ws : List (Seat (Option S) (View Event))) → length seens ≡ i → SawFirst seens xs us vs → OneAt i (λ s a b. HoldingTells s seen a b) xs vs ws → SawFirst (seens ++ seen ∷ []) xs us ws
  saw_more seens seen i xs us vs ws long h one =
      subst (λ (l : List (Seat (Option S) (View Event))). SawFirst (seens ++ seen ∷ []) xs us l) (sym one.after_is)
      (saw_set seens seen i xs us vs one.partner one.before one.after long one.partner_is one.before_is one.so h)

  -- the codec that is picked is one of them
  pub picked_within : (xs : List Shared) (us vs : List (Seat (Option S) (View Event))) (holders : List Holder) (now k : ℕ) → SawHolders xs us vs holders → IsPicked now holders k → k < length xs
  picked_within xs us vs holders now k x picked = subst (λ (n : ℕ). k < n) x.all (by_reason (subst (λ (l : List Holder). IsPicked now l k) x.are picked))
    where
      by_reason : IsPicked now (holders_from 0 x.seen) k → k < length x.seen
      by_reason (inl y) = least_within (is_inactive now) x.seen k y
      by_reason (inr y) = least_within is_background_decoder x.seen k y.background

of_by : (k place : ℕ) (es : List SlotEntry) → AreBy k place es → AreOfCodec k es
of_by k place [] h = tt
of_by k place (e ∷ es) h = ((place, h.0), of_by k place es h.1)

pub same_some : {X : Type 0} (x y : X) → Some x ≡ Some y → x ≡ y
same_some x y h = cc

-- ---- a thread's own item at work

module _ {S : Type 0} where
  -- no item is at work of the seat's own, at codecs but the one with this number, and at that one too
  abbrev NoneBut : ℕ → Shared → Seat (Option S) (View Event) → Seat (Option S) (View Event) → Type 0
  NoneBut k s u v = s.codec ≢ k → RunsNone s u → RunsNone s v

  abbrev NoneNow : ℕ → Shared → Seat (Option S) (View Event) → Seat (Option S) (View Event) → Type 0
  NoneNow k s u v = (s.codec ≢ k → RunsNone s u → RunsNone s v) × (s.codec ≡ k → RunsNone s v)

module _ {C : Type 0} where
  pub works_stay : (desk : Desk C) (place : ℕ) (asked : Option CoderId) (job : JobValue) (es : List SlotEntry) (a b : Seats C) → WorksAt desk place asked job es a → Each LeavesItems desk.codecs.items a.codecs.items b.codecs.items → WorksAt desk place asked job es b
  works_stay desk place asked job es a b w leaves =
      let next = each_forth LeavesItems place desk.codecs.items a.codecs.items b.codecs.items w.codec w.seat leaves w.codec_is w.seat_is in
      record { codec = w.codec; seat = next.0; codec_is = w.codec_is; seat_is = next.1; work = next.2.work asked job es w.work }

  -- none of its acquires is by an entry by which something else was made meanwhile
  works_apart : (desk : Desk C) (place : ℕ) (asked : Option CoderId) (job : JobValue) (es : List SlotEntry) (a b : Seats C) → WorksAt desk place asked job es a → Each LeavesItems desk.codecs.items a.codecs.items b.codecs.items → (y : Settled desk a b) → (k p : ℕ) → (flat_map (slot_at k p) es ≡ []) ⊎ (flat_map (slot_at k p) y.entries ≡ [])
  works_apart desk place asked job es a b w leaves y k p = cases (cases_eq k w.codec.codec)
    where
      next : (v : Seat (Option (Locked C)) (View Event)) × (slice_get b.codecs.items place ≡ Some v) × LeavesItems w.codec w.seat v
      next = each_forth LeavesItems place desk.codecs.items a.codecs.items b.codecs.items w.codec w.seat leaves w.codec_is w.seat_is

      other : (v : Seat (Option (Locked C)) (View Event)) × (slice_get b.codecs.items place ≡ Some v) × InOrderSince y.entries y.does w.codec w.seat v
      other = each_forth (InOrderSince y.entries y.does) place desk.codecs.items a.codecs.items b.codecs.items w.codec w.seat y.order w.codec_is w.seat_is

      same : other.0 ≡ next.0
      same = (let x = other.1 in let z = next.1 in cc)

      owes : OwedSince slot_dues w.codec.codec w.codec.opening w.seat.me.0 other.0.me.0 []
      owes = subst (λ (v : Seat (Option (Locked C)) (View Event)). OwedSince slot_dues w.codec.codec w.codec.opening w.seat.me.0 v.me.0 []) (sym same) (next.2.owes asked job es w.work)

      cases : (k ≡ w.codec.codec) ⊎ (k ≢ w.codec.codec) → (flat_map (slot_at k p) es ≡ []) ⊎ (flat_map (slot_at k p) y.entries ≡ [])
      cases (inl is) = inr (subst (λ (n : ℕ). flat_map (slot_at n p) y.entries ≡ []) (sym is) (order_none y.entries y.does w.codec w.seat other.0 other.2 owes p))
      cases (inr apart) = inl (slots_apart k w.codec.codec p es apart (of_by w.codec.codec job.place es w.work.caused))

  -- what a job seeks a box with, while items at work stay
  pub seeks_meanwhile : (desk : Desk C) (place : ℕ) (asked : Option CoderId) (job : JobValue) (es : List SlotEntry) (t u v : Telling) (a b c : Seats C) → Seeks desk place asked job es t u a b → Meanwhile desk u v b c → Seeks desk place asked job es t v a c
  seeks_meanwhile desk place asked job es t u v a b c x m = record {
    sits = m.sits;
    work = works_stay desk place asked job es b c x.work m.leaves;
    but = but_then desk es a b c x.but m.settled (works_apart desk place asked job es b c x.work m.leaves m.settled);
    calls = calls_then desk a b c [] [] x.calls m.calls;
    timed = timed_then desk a b c t u v x.timed m.timed;
    leaves = each_then LeavesItems LeavesItems LeavesItems leaves_then desk.codecs.items a.codecs.items b.codecs.items c.codecs.items x.leaves m.leaves;
  }

  -- nothing was sought so far
  pub seeks_none : (desk : Desk C) (place : ℕ) (asked : Option CoderId) (job : JobValue) (t : Telling) (a : Seats C) → SitAt desk a → WorksAt desk place asked job [] a → Seeks desk place asked job [] t t a a
  seeks_none desk place asked job t a at w = record {
    sits = at;
    work = w;
    but = but_none desk a at;
    calls = calls_none desk a;
    timed = timed_none desk a t at;
    leaves = each_same (SitsAt desk.pool desk.slots.id) LeavesItems (λ n s u h. leaves_none s u) 0 desk.codecs.items a.codecs.items at.codecs;
  }

  pub sought_none : (desk : Desk C) (place : ℕ) (asked : Option CoderId) (job : JobValue) (es : List SlotEntry) (t : Telling) (a : Seats C) → es ≡ [] → asked ≡ None → missing_id job ≡ None → SitAt desk a → WorksAt desk place asked job [] a → Sought desk place asked job es None t t a a
  sought_none desk place asked job es t a is none lacks at w =
      subst (λ (l : List SlotEntry). Sought desk place asked job l None t t a a) (sym is)
      (record { seeks = seeks_none desk place asked job t a at w; may = lacks; lacks = subst (λ (o : Option CoderId). LackIs (entries_of a.slots.me.0.log) o [] None) (sym none) tt })

  -- an acquire more
  pub acquire_made : (desk : Desk C) (k : ℕ) (id : CoderId) (r : Acquired) (job new : JobValue) (v w : View SlotEntry) → AcquireGives desk.slots k id r job new v w → MadeSince v w (made_by r)
  acquire_made desk k id (acquired.Granted e) job new v w g = subst (λ (l : SlotEntry). MadeSince v w (l ∷ [])) (sym g.is) g.after.entry.since
  acquire_made desk k id (acquired.Refused e n) job new v w g = subst (λ (l : SlotEntry). MadeSince v w (l ∷ [])) (sym g.is) g.after.entry.since
  acquire_made desk k id acquired.NoMemory job new v w g = g.0

  acquire_works : (s : Shared) (v : View Event) (desk : Desk C) (id : CoderId) (r : Acquired) (job new : JobValue) (es : List SlotEntry) (c d : View SlotEntry) → desk.slots.id ≡ s.slots → IsAtWork s v (Some id) job es → job.coder ≡ None → AcquireGives desk.slots s.codec id r job new c d → IsAtWork s v (Some id) new (es ++ made_by r)
  acquire_works s v desk id (acquired.Granted e) job new es c d same w none g = work_granted s v desk.slots id job new es e c d same w none g
  acquire_works s v desk id (acquired.Refused e n) job new es c d same w none g = work_refused s v desk.slots id job new es e n c d w none g
  acquire_works s v desk id acquired.NoMemory job new es c d same w none g =
      subst (λ (z : JobValue × List SlotEntry). IsAtWork s v (Some id) z.0 z.1) (λ i. (sym g.1 i, sym (append-nil es) i)) w

  acquire_may : (desk : Desk C) (k : ℕ) (id : CoderId) (r : Acquired) (job new : JobValue) (v w : View SlotEntry) → job.coder ≡ None → missing_id job ≡ Some id → AcquireGives desk.slots k id r job new v w → MayWork (lack_of r) new
  acquire_may desk k id (acquired.Granted e) job new v w none lacks g = g.serves
  acquire_may desk k id (acquired.Refused e n) job new v w none lacks g =
      subst (λ (z : JobValue). (is_some (missing_id z) ≡ true) × (z.coder ≡ None)) (sym g.same) (ap is_some lacks, none)
  acquire_may desk k id acquired.NoMemory job new v w none lacks g =
      subst (λ (z : JobValue). (is_some (missing_id z) ≡ true) × (z.coder ≡ None)) (sym g.1) (ap is_some lacks, none)

  acquire_lacks : (desk : Desk C) (k : ℕ) (id : CoderId) (r : Acquired) (job new : JobValue) (es : List SlotEntry) (v w : View SlotEntry) → StandIn es (entries_of v.log) → AcquireGives desk.slots k id r job new v w → LackIs (entries_of w.log) (Some id) (es ++ made_by r) (lack_of r)
  acquire_lacks desk k id (acquired.Granted e) job new es v w stand g =
      ap (λ (o : Option Box). is_some o) (box_granted es e (record { id = id; number = g.lent.number }) (ap (λ (z : SlotEntry). box_by z.op) g.is))
  acquire_lacks desk k id (acquired.Refused e n) job new es v w stand g = refusal_at desk.slots k id es e n job new v w g stand
  acquire_lacks desk k id acquired.NoMemory job new es v w stand g = tt

  pub sought_acquired : (desk : Desk C) (place : ℕ) (id : CoderId) (r : Acquired) (job new : JobValue) (es : List SlotEntry) (t u : Telling) (a b c : Seats C) → job.coder ≡ None → missing_id job ≡ Some id → StandIn es (entries_of b.slots.me.0.log) → Seeks desk place (Some id) job es t u a b → OnlySlots desk b c
      → ((s : Shared) → slice_get desk.codecs.items place ≡ Some s → AcquireGives desk.slots s.codec id r job new b.slots.me.0 c.slots.me.0) → Sought desk place (Some id) new (es ++ made_by r) (lack_of r) t u a c
  sought_acquired desk place id r job new es t u a b c none lacks stand x o gives =
      let xs : List Shared = desk.codecs.items in
      let w = x.work in
      let g = gives w.codec w.codec_is in
      let sits : SitsAt desk.pool desk.slots.id place w.codec w.seat = pairs_get (SitsAt desk.pool desk.slots.id) 0 place place xs b.codecs.items w.codec w.seat x.sits.codecs (omega arith) w.codec_is w.seat_is in
      let back : b.codecs.items ≡ c.codecs.items = sym o.codecs in
      let made = acquire_made desk w.codec.codec id r job new b.slots.me.0 c.slots.me.0 g in
      record {
        seeks = record {
          sits = record {
            codecs = subst (λ (l : List (Seat (Option (Locked C)) (View Event))). Pairs (SitsAt desk.pool desk.slots.id) 0 xs l) back x.sits.codecs;
            pool = subst (λ z. pools.IsFree desk.pool z) (sym o.pool) x.sits.pool;
            slots = o.free;
          };
          work = record {
            codec = w.codec;
            seat = w.seat;
            codec_is = w.codec_is;
            seat_is = ap (λ (l : List (Seat (Option (Locked C)) (View Event))). slice_get l place) o.codecs ∙ w.seat_is;
            work = acquire_works w.codec w.seat.me.0 desk id r job new es b.slots.me.0 c.slots.me.0 sits.slots_is w.work none g;
          };
          but = but_more desk es (made_by r) a b c x.but o made;
          calls = λ t. ap (λ (l : List (Seat (Option (Locked C)) (View Event))). sum_by t (calls_made xs l)) o.codecs ∙ x.calls t;
          timed = record { moments = x.timed.moments; given = x.timed.given; ends = subst (λ (l : List (Seat (Option (Locked C)) (View Event))). Each (EndsAt x.timed.moments) xs a.codecs.items l) back x.timed.ends };
          leaves = subst (λ (l : List (Seat (Option (Locked C)) (View Event))). Each LeavesItems xs a.codecs.items l) back x.leaves;
        };
        may = acquire_may desk w.codec.codec id r job new b.slots.me.0 c.slots.me.0 none lacks g;
        lacks = acquire_lacks desk w.codec.codec id r job new es b.slots.me.0 c.slots.me.0 stand g;
      }

  pub sits_only : (desk : Desk C) (a b : Seats C) → SitAt desk a → OnlySlots desk a b → SitAt desk b
  sits_only desk a b at o = record {
    codecs = subst (λ (l : List (Seat (Option (Locked C)) (View Event))). Pairs (SitsAt desk.pool desk.slots.id) 0 desk.codecs.items l) (sym o.codecs) at.codecs;
    pool = subst (λ z. pools.IsFree desk.pool z) (sym o.pool) at.pool;
    slots = o.free;
  }

  -- the first acquire
  pub sought_first : (desk : Desk C) (place : ℕ) (asked : Option CoderId) (id : CoderId) (r : Acquired) (job new : JobValue) (es : List SlotEntry) (t : Telling) (a c : Seats C) → asked ≡ Some id → es ≡ made_by r → job.coder ≡ None → missing_id job ≡ Some id → SitAt desk a → WorksAt desk place asked job [] a → OnlySlots desk a c
      → ((s : Shared) → slice_get desk.codecs.items place ≡ Some s → AcquireGives desk.slots s.codec id r job new a.slots.me.0 c.slots.me.0) → Sought desk place asked new es (lack_of r) t t a c
  sought_first desk place asked id r job new es t a c is made none lacks at w o gives =
      let works : WorksAt desk place (Some id) job [] a = subst (λ (z : Option CoderId). WorksAt desk place z job [] a) is w in
      subst (λ (z : Option CoderId × List SlotEntry). Sought desk place z.0 new z.1 (lack_of r) t t a c) (λ i. (sym is i, sym made i))
      (sought_acquired desk place id r job new [] t t a a c none lacks tt (seeks_none desk place (Some id) job t a at works) o gives)

  -- a refusal stands, and it stays so
  pub first_stands : (desk : Desk C) (place : ℕ) (asked : Option CoderId) (id : CoderId) (e : SlotEntry) (n : ℕ) (job new : JobValue) (a c : Seats C) → WorksAt desk place asked job [] a
      → ((s : Shared) → slice_get desk.codecs.items place ≡ Some s → AcquireGives desk.slots s.codec id (acquired.Refused e n) job new a.slots.me.0 c.slots.me.0) → StandIn (e ∷ []) (entries_of c.slots.me.0.log)
  first_stands desk place asked id e n job new a c w gives = refusal_stands desk.slots w.codec.codec id [] e n job new a.slots.me.0 c.slots.me.0 (gives w.codec w.codec_is) tt

  pub stand_meanwhile : (desk : Desk C) (t u : Telling) (es : List SlotEntry) (a b : Seats C) → Meanwhile desk t u a b → StandIn es (entries_of a.slots.me.0.log) → StandIn es (entries_of b.slots.me.0.log)
  stand_meanwhile desk t u es a b m h = stand_since es m.settled.entries a.slots.me.0 b.slots.me.0 m.settled.made h

  -- no second acquire was made
  pub sought_unpicked : (desk : Desk C) (place : ℕ) (id : CoderId) (job : JobValue) (es fs : List SlotEntry) (n : ℕ) (t u v : Telling) (a b c : Seats C) → fs ≡ es → Sought desk place (Some id) job es (Some (lack.NoSlot n)) t u a b → Meanwhile desk u v b c → Sought desk place (Some id) job fs (Some (lack.NoSlot n)) t v a c
  sought_unpicked desk place id job es fs n t u v a b c is x m =
      let made = m.settled.made in
      subst (λ (l : List SlotEntry). Sought desk place (Some id) job l (Some (lack.NoSlot n)) t v a c) (sym is) (record {
        seeks = seeks_meanwhile desk place (Some id) job es t u v a b c x.seeks m;
        may = x.may;
        lacks = subst (λ (l : List SlotEntry). IsRefusalAt l n id es) (sym (ap (λ (l : Log SlotEntry). entries_of l) made.longer ∙ entries_both b.slots.me.0.log made.more)) (refusal_later (entries_of b.slots.me.0.log) (entries_of made.more) n id es x.lacks);
      })

  pub sought_wanting : (desk : Desk C) (place : ℕ) (id : CoderId) (job : JobValue) (es fs : List SlotEntry) (n : ℕ) (t u v : Telling) (a b c : Seats C) → fs ≡ es → Sought desk place (Some id) job es (Some (lack.NoSlot n)) t u a b → Meanwhile desk u v b c → Sought desk place (Some id) job fs (Some lack.NoMemory) t v a c
  sought_wanting desk place id job es fs n t u v a b c is x m =
      subst (λ (l : List SlotEntry). Sought desk place (Some id) job l (Some lack.NoMemory) t v a c) (sym is) (record {
        seeks = seeks_meanwhile desk place (Some id) job es t u v a b c x.seeks m;
        may = x.may;
        lacks = tt;
      })

  ends_still : (moments : List ℕ) (s : Shared) (a : Seat (Option (Locked C)) (View Event)) → EndsAt moments s a a
  ends_still moments s a = record { events = []; made = made_none a.me.0; at = tt }

  -- ---- steps at one codec, while items at work stay

  pub meanwhile_at : (P : Shared → Seat (Option (Locked C)) (View Event) → Seat (Option (Locked C)) (View Event) → Type 0) (moments : List ℕ)
      → ((s : Shared) (u v : Seat (Option (Locked C)) (View Event)) → P s u v → Names s [] u.me.0 v.me.0)
      → ((s : Shared) (u v : Seat (Option (Locked C)) (View Event)) → P s u v → EndsAt moments s u v)
      → ((s : Shared) (u v : Seat (Option (Locked C)) (View Event)) → P s u v → LeavesItems s u v)
      → (desk : Desk C) (t now : Telling) (a b : Seats C) (place : ℕ) → SitAt desk a → SitAt desk b → Settled desk a b → OneAt place P desk.codecs.items a.codecs.items b.codecs.items → Given t moments now → Meanwhile desk t now a b
  meanwhile_at P moments names ends leaves desk t now a b place at sits settled one given = record {
    sits = sits;
    settled = settled;
    calls = named_one [] P names place desk.codecs.items a.codecs.items b.codecs.items one;
    timed = record { moments = moments; given = given; ends = ends_one moments P ends desk.pool desk.slots.id place desk.codecs.items a.codecs.items b.codecs.items at.codecs one };
    leaves = subst (λ (l : List (Seat (Option (Locked C)) (View Event))). Each LeavesItems desk.codecs.items a.codecs.items l) (sym one.after_is)
        (each_one (SitsAt desk.pool desk.slots.id) LeavesItems (λ n s u h. leaves_none s u) 0 place desk.codecs.items a.codecs.items one.partner one.before one.after at.codecs one.partner_is one.before_is (leaves one.partner one.before one.after one.so));
  }

  pub meanwhile_none : (desk : Desk C) (t : Telling) (a : Seats C) → SitAt desk a → Meanwhile desk t t a a
  meanwhile_none desk t a at = record {
    sits = at;
    settled = settled_none desk a at;
    calls = calls_none desk a;
    timed = timed_none desk a t at;
    leaves = each_same (SitsAt desk.pool desk.slots.id) LeavesItems (λ n s u h. leaves_none s u) 0 desk.codecs.items a.codecs.items at.codecs;
  }

  pub meanwhile_then : (desk : Desk C) (t u v : Telling) (a b c : Seats C) → Meanwhile desk t u a b → Meanwhile desk u v b c → Meanwhile desk t v a c
  meanwhile_then desk t u v a b c x y = record {
    sits = y.sits;
    settled = settled_then desk a b c x.settled y.settled;
    calls = calls_then desk a b c [] [] x.calls y.calls;
    timed = timed_then desk a b c t u v x.timed y.timed;
    leaves = each_then LeavesItems LeavesItems LeavesItems leaves_then desk.codecs.items a.codecs.items b.codecs.items c.codecs.items x.leaves y.leaves;
  }

  -- a clock gave a moment by which nothing was done
  pub meanwhile_given : (desk : Desk C) (t u : Telling) (moment : ℕ) (a : Seats C) → SitAt desk a → Given t (moment ∷ []) u → Meanwhile desk t u a a
  meanwhile_given desk t u moment a at given = record {
    sits = at;
    settled = settled_none desk a at;
    calls = calls_none desk a;
    timed = record { moments = moment ∷ []; given = given; ends = each_same (SitsAt desk.pool desk.slots.id) (EndsAt (moment ∷ [])) (λ n s u h. ends_still (moment ∷ []) s u) 0 desk.codecs.items a.codecs.items at.codecs };
    leaves = each_same (SitsAt desk.pool desk.slots.id) LeavesItems (λ n s u h. leaves_none s u) 0 desk.codecs.items a.codecs.items at.codecs;
  }

  -- a codec has its place as its number
  pub number_at : (desk : Desk C) (a : Seats C) (place : ℕ) (s : Shared) → SitAt desk a → slice_get desk.codecs.items place ≡ Some s → s.codec ≡ place
  number_at desk a place s at codec = (let k = numbers 0 place desk.codecs.items a.codecs.items at.codecs codec in omega (arith, k))
    where
      numbers : (n i : ℕ) (xs : List Shared) (us : List (Seat (Option (Locked C)) (View Event))) → Pairs (SitsAt desk.pool desk.slots.id) n xs us → slice_get xs i ≡ Some s → s.codec ≡ n + i
      numbers n i [] us h there = absurd cc
      numbers n i (x ∷ xs) [] h there = absurd h
      numbers n zero (x ∷ xs) (u ∷ us) h there = (let same : x ≡ s = cc in let is = ap (λ (z : Shared). z.codec) same in let k = h.0.number in omega (arith, is, k))
      numbers n (suc i) (x ∷ xs) (u ∷ us) h there = (let k = numbers (suc n) i xs us h.1 there in omega (arith, k))

  -- ---- the whole item

  -- after a start
  pub works_begun : (desk : Desk C) (place : ℕ) (job : JobValue) (a b : Seats C) → OneAt place (Begun job) desk.codecs.items a.codecs.items b.codecs.items → WorksAt desk place (missing_id job) job [] b
  works_begun desk place job a b one = record {
    codec = one.partner;
    seat = one.after;
    codec_is = one.partner_is;
    seat_is = subst (λ (l : List (Seat (Option (Locked C)) (View Event))). slice_get l place ≡ Some one.after) (sym one.after_is) (set_there place a.codecs.items one.before one.after one.before_is);
    work = one.so.work;
  }

  -- its job has no box where it lacks one
  pub begun_bare : (desk : Desk C) (place : ℕ) (job : JobValue) (a b : Seats C) → OneAt place (Begun job) desk.codecs.items a.codecs.items b.codecs.items → is_some (missing_id job) ≡ true → job.coder ≡ None
  begun_bare desk place job a b one some = one.so.bare.none (ap is_some (sym one.so.bare.lacks) ∙ some)

  -- it may end
  pub may_end_at : (desk : Desk C) (place : ℕ) (asked : Option CoderId) (job : JobValue) (es : List SlotEntry) (l : Option Lack) (t u : Telling) (a b : Seats C) (d : DoneValue) → Sought desk place asked job es l t u a b → ((s : State) → IsJobOf s job → IsEndOf s d) → stopped_box d.coder ≡ stopped_box job.coder → WorkEnds l job d.ended → MayEndAt desk place d es b
  may_end_at desk place asked job es l t u a b d x end same ends =
      let w = x.seeks.work in
      record {
        codec = w.codec;
        seat = w.seat;
        codec_is = w.codec_is;
        seat_is = w.seat_is;
        may = may_end w.codec w.seat.me.0 asked job es d w.work end same;
        told = end_told (entries_of b.slots.me.0.log) w.codec w.seat.me.0 asked job es l d w.work x.lacks ends;
      }

  pub may_end_here : (desk : Desk C) (place : ℕ) (d : DoneValue) (es : List SlotEntry) (a : Seats C) (s : Shared) (u : Seat (Option (Locked C)) (View Event)) → MayEndAt desk place d es a → slice_get desk.codecs.items place ≡ Some s → slice_get a.codecs.items place ≡ Some u → MayEnd s u.me.0 d es × IsTold (entries_of a.slots.me.0.log) (ending_of (asked_in (track s.opening u.me.0.log)) es (outcome_of d.ended))
  may_end_here desk place d es a s u m codec seat =
      let c = same_some m.codec s (sym m.codec_is ∙ codec) in
      let v = same_some m.seat u (sym m.seat_is ∙ seat) in
      subst (λ (z : Shared × Seat (Option (Locked C)) (View Event)). MayEnd z.0 z.1.me.0 d es × IsTold (entries_of a.slots.me.0.log) (ending_of (asked_in (track z.0.opening z.1.me.0.log)) es (outcome_of d.ended))) (λ i. (c i, v i)) (m.may, m.told)

  -- none of the thread's own items is at work after it
  pub runs_ended : (desk : Desk C) (k : ℕ) (job : JobValue) (es : List SlotEntry) (d : DoneValue) (moment place : ℕ) (v w : View SlotEntry) (p q : View PoolEntry) (a b c e : Seats C) → SitAt desk a → SitAt desk c → OneAt k (Begun job) desk.codecs.items a.codecs.items b.codecs.items → Each LeavesItems desk.codecs.items b.codecs.items c.codecs.items
      → OneAt k (EndsIn es d moment place v w p q) desk.codecs.items c.codecs.items e.codecs.items → EachRunsNone desk.codecs.items a.codecs.items → EachRunsNone desk.codecs.items e.codecs.items
  runs_ended desk k job es d moment place v w p q a b c e at sits begins leaves ends none =
      let xs : List Shared = desk.codecs.items in
      let Q : ℕ → Shared → Seat (Option (Locked C)) (View Event) → Type 0 = SitsAt desk.pool desk.slots.id in
      let first : Each (NoneBut k) xs a.codecs.items b.codecs.items = subst (λ (l : List (Seat (Option (Locked C)) (View Event))). Each (NoneBut k) xs a.codecs.items l) (sym begins.after_is)
      (each_other Q (NoneBut k) k (λ j t u other h apart none. none) 0 k (omega arith) xs a.codecs.items begins.partner begins.before begins.after at.codecs begins.partner_is begins.before_is
      (λ apart none. absurd (apart (pairs_get Q 0 k k xs a.codecs.items begins.partner begins.before at.codecs (omega arith) begins.partner_is begins.before_is).number))) in
      let middle : Each (NoneBut k) xs a.codecs.items c.codecs.items = each_then (NoneBut k) LeavesItems (NoneBut k) (λ s u v w h l apart none. l.runs (h apart none)) xs a.codecs.items b.codecs.items c.codecs.items first leaves in
      let last : Each (NoneNow k) xs c.codecs.items e.codecs.items = subst (λ (l : List (Seat (Option (Locked C)) (View Event))). Each (NoneNow k) xs c.codecs.items l) (sym ends.after_is)
      (each_other Q (NoneNow k) k (λ j t u other h. (λ apart none. none, λ is. absurd (other (sym h.number ∙ is)))) 0 k (omega arith) xs c.codecs.items ends.partner ends.before ends.after sits.codecs ends.partner_is ends.before_is
      (λ apart none. none_finished ends.partner d es moment place ends.before ends.after ends.so.finish, λ is. none_finished ends.partner d es moment place ends.before ends.after ends.so.finish)) in
      none_each xs a.codecs.items e.codecs.items
      (each_then (NoneBut k) (NoneNow k) (λ s u w. RunsNone s u → RunsNone s w) (λ s u v w h l none. by_number s u v w h l none (cases_eq s.codec k)) xs a.codecs.items c.codecs.items e.codecs.items middle last) none
    where
      by_number : (s : Shared) (u v w : Seat (Option (Locked C)) (View Event)) → NoneBut k s u v → NoneNow k s v w → RunsNone s u → (s.codec ≡ k) ⊎ (s.codec ≢ k) → RunsNone s w
      by_number s u v w h l none (inl is) = l.1 is
      by_number s u v w h l none (inr apart) = l.0 apart (h apart none)
