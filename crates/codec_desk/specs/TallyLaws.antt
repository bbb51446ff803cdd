-- Laws of what is counted of the entries that seats made.
use Rattle.std.proofs.Common.{ℕ, ◌+◌, ◌≡◌, ◌≤◌, List, [], ◌∷◌, ◌++◌, Option, Some, None, refl, ap, sym, subst, ◌∙◌, arith}
use Rattle.std.specs.Prelude.{slice_get}
use Rattle.std.specs.List.{sum_by}
use Rattle.std.proofs.lemmas.List.Sums.{sum_by-append}
use Rattle.atomic_table.specs.declared.shared.Seat.{Seat}
use Rattle.wc_base.specs.declared.{seat.View.View, ground.Ground.Ground}
use Rattle.wc_config.specs.declared.{codec.CoderId.CoderId, kind.Kind.Kind}
use Rattle.coder_api.specs.declared.slot.SlotEntry.{SlotEntry}
use Rattle.codec_model.specs.declared.entry.Entry.{Entry}
use Rattle.codec_model.specs.declared.entry.Entry.TheVariants as entry
use Rattle.codec_core.specs.Job.{JobValue, missing_id, outcome_of}
use Rattle.seat_lock.specs.Since.{MadeSince}
use Rattle.codec_logs.specs.declared.event.Event.{Event}
use Rattle.codec_logs.specs.Logs.{entry_of, acquires_of}
use Rattle.work_moments.specs.Moments.{Telling}
use Rattle.shared_codec.specs.declared.codec.Locked.{Locked}
use Rattle.shared_codec.specs.declared.workers.Acquired.{Acquired}
use Rattle.shared_codec.specs.declared.workers.Acquired.TheVariants as acquired
use Rattle.shared_codec.specs.declared.workers.Lack.{Lack}
use Rattle.shared_codec.specs.Order.{made_by}
use Rattle.shared_codec.specs.Settled.{ReclaimOnceTells}
use Rattle.shared_codec.specs.Shared.{Shared, MadeIn}
use Rattle.shared_codec.specs.Tallies.{moment_of, reclaim_in, reclaims, refusal, first_refusal, refusal_in, refusals}
use Rattle.shared_codec.specs.Workers.{AcquireGives}
use Rattle.codec_desk.specs.declared.desk.Desk.{Desk}
use Rattle.codec_desk.specs.declared.desk.Seats.{Seats}
use Rattle.codec_desk.specs.declared.rooms.Room.{Room}
use Rattle.codec_desk.specs.declared.rooms.Room.TheVariants as room
use Rattle.codec_desk.specs.Clocks.{IfAmong, AllAt, EndsAt, tally, FewReclaims, Clocked}
use Rattle.codec_desk.specs.ClockLaws.{timed_none, timed_then, timed_rest}
use Rattle.codec_desk.specs.Desks.{SitAt}
use Rattle.codec_desk.specs.Each.{Each, OneAt, total_of}
use Rattle.codec_desk.specs.EachLaws.{total_one}
use Rattle.codec_desk.specs.Items.{Begun, SawFirst, EndsIn, ReclaimedIf, LookedForRoom}
use Rattle.codec_desk.specs.MadeLaws.{made_more}
use Rattle.codec_desk.specs.Rooms.{RoomTells, AgainIf, AfterFirst, BoxSought, ItemWorked}
use Rattle.codec_desk.specs.StepLaws.{made_one, made_look}

-- ---- entries at no moment

no_reclaim : (e : Entry) → IfAmong [] (moment_of e) → reclaim_in e ≡ 0
no_reclaim (entry.Call who call) h = refl
no_reclaim (entry.Start epoch item) h = refl
no_reclaim (entry.Done epoch item moment outcome) h = absurd h
no_reclaim entry.Turn h = refl
no_reclaim (entry.Reclaim moment) h = absurd h

no_refusal : (e : Entry) (es : List SlotEntry) → IfAmong [] (moment_of e) → refusal_in e es ≡ 0
no_refusal (entry.Call who call) es h = refl
no_refusal (entry.Start epoch item) es h = refl
no_refusal (entry.Done epoch item moment outcome) es h = absurd h
no_refusal entry.Turn es h = refl
no_refusal (entry.Reclaim moment) es h = absurd h

no_reclaims : (es : List Event) → AllAt [] es → sum_by reclaims es ≡ 0
no_reclaims [] h = refl
no_reclaims (e ∷ es) h = (let a = sum_by-append reclaims (e ∷ []) es in let b = no_reclaim (entry_of e) h.0 in let c = no_reclaims es h.1 in omega (arith, a, b, c))

no_refusals : (es : List Event) → AllAt [] es → sum_by refusals es ≡ 0
no_refusals [] h = refl
no_refusals (e ∷ es) h = (let a = sum_by-append refusals (e ∷ []) es in let b = no_refusal (entry_of e) (acquires_of e.acquires) h.0 in let c = no_refusals es h.1 in omega (arith, a, b, c))

-- ---- at one codec, and at each

module _ {S : Type 0} (count : Event → ℕ) where
  seat_more : (a b : Seat (Option S) (View Event)) (es : List Event) → MadeSince a.me.0 b.me.0 es → sum_by count (made_by b.me.0) ≡ sum_by count (made_by a.me.0) + sum_by count es
  seat_more a b es made = ap (sum_by count) (made_more a.me.0 b.me.0 es made) ∙ sum_by-append count (made_by a.me.0) es

  both_more : (x : Shared) (u v : Seat (Option S) (View Event)) (xs : List Shared) (us vs : List (Seat (Option S) (View Event))) (m n : ℕ) → sum_by count (made_by v.me.0) ≡ sum_by count (made_by u.me.0) + m → tally count xs vs ≡ tally count xs us + n
      → tally count (x ∷ xs) (v ∷ vs) ≡ tally count (x ∷ xs) (u ∷ us) + (m + n)
  both_more x u v xs us vs m n one rest =
      let a = sum_by-append count (made_by v.me.0) (total_of (λ s a. made_by a.me.0) xs vs) in
      let b = sum_by-append count (made_by u.me.0) (total_of (λ s a. made_by a.me.0) xs us) in
      omega (arith, a, b, one, rest)

  -- none of these entries counts
  pub tally_same : (moments : List ℕ) → ((es : List Event) → AllAt moments es → sum_by count es ≡ 0) → (xs : List Shared) (us vs : List (Seat (Option S) (View Event))) → Each (EndsAt moments) xs us vs → tally count xs vs ≡ tally count xs us
  tally_same moments none [] [] [] h = refl
  tally_same moments none [] [] (v ∷ vs) h = absurd h
  tally_same moments none [] (u ∷ us) vs h = absurd h
  tally_same moments none (x ∷ xs) [] vs h = absurd h
  tally_same moments none (x ∷ xs) (u ∷ us) [] h = absurd h
  tally_same moments none (x ∷ xs) (u ∷ us) (v ∷ vs) h =
      let a = seat_more u v h.0.events h.0.made in
      let b = none h.0.events h.0.at in
      let c = tally_same moments none xs us vs h.1 in
      let d = both_more x u v xs us vs 0 0 (omega (arith, a, b)) (omega (arith, c)) in
      omega (arith, d)

  -- a step at one codec
  tally_one : (place : ℕ) (P : Shared → Seat (Option S) (View Event) → Seat (Option S) (View Event) → Type 0) (xs : List Shared) (us vs : List (Seat (Option S) (View Event))) (one : OneAt place P xs us vs) (es : List Event) → MadeSince one.before.me.0 one.after.me.0 es → tally count xs vs ≡ tally count xs us + sum_by count es
  tally_one place P xs us vs one es made =
      let grown : (t : Event → ℕ) → sum_by t (made_by one.after.me.0) ≡ sum_by t (made_by one.before.me.0 ++ es) = λ t. ap (sum_by t) (made_more one.before.me.0 one.after.me.0 es made) in
      ap (λ (l : List (Seat (Option S) (View Event))). tally count xs l) one.after_is
      ∙ (total_one (λ (s : Shared) (a : Seat (Option S) (View Event)). made_by a.me.0) place xs us one.partner one.before one.after es one.partner_is one.before_is grown count
      ∙ sum_by-append count (total_of (λ s a. made_by a.me.0) xs us) es)

  -- looks at all codecs
  tally_seen : (seen : List (Option ℕ × Ground × Kind)) (xs : List Shared) (us vs : List (Seat (Option S) (View Event))) → SawFirst seen xs us vs → tally count xs vs ≡ tally count xs us
  tally_seen [] xs us vs h = ap (λ (l : List (Seat (Option S) (View Event))). tally count xs l) h
  tally_seen (p ∷ seen) [] us vs h = absurd h
  tally_seen (p ∷ seen) (x ∷ xs) [] vs h = absurd h
  tally_seen (p ∷ seen) (x ∷ xs) (u ∷ us) [] h = absurd h
  tally_seen (p ∷ seen) (x ∷ xs) (u ∷ us) (v ∷ vs) h =
      let a = seat_more u v [] (made_look x u v h.0.looked) in
      let c = tally_seen seen xs us vs h.1 in
      let d = both_more x u v xs us vs 0 0 a (omega (arith, c)) in
      omega (arith, d)

module _ {S : Type 0} where
  -- what was done with no end and no reclaim
  pub few_rest : (xs : List Shared) (us vs : List (Seat (Option S) (View Event))) → Each (EndsAt []) xs us vs → FewReclaims xs us vs
  few_rest xs us vs h =
      let a = tally_same reclaims [] no_reclaims xs us vs h in
      let b = tally_same refusals [] no_refusals xs us vs h in
      omega (arith, a, b)

  few_then : (xs : List Shared) (us vs ws : List (Seat (Option S) (View Event))) → FewReclaims xs us vs → FewReclaims xs vs ws → FewReclaims xs us ws
  few_then xs us vs ws a b = omega (arith, a, b)

module _ {C : Type 0} where
  pub clocked_rest : (desk : Desk C) (a b : Seats C) (told : Telling) → Each (EndsAt []) desk.codecs.items a.codecs.items b.codecs.items → Clocked desk a b told told
  clocked_rest desk a b told ends = record { timed = timed_rest desk a b told ends; few = few_rest desk.codecs.items a.codecs.items b.codecs.items ends }

  pub clocked_none : (desk : Desk C) (a : Seats C) (told : Telling) → SitAt desk a → Clocked desk a a told told
  clocked_none desk a told at = record { timed = timed_none desk a told at; few = omega arith }

  pub clocked_then : (desk : Desk C) (a b c : Seats C) (t u v : Telling) → Clocked desk a b t u → Clocked desk b c u v → Clocked desk a c t v
  clocked_then desk a b c t u v x y = record { timed = timed_then desk a b c t u v x.timed y.timed; few = few_then desk.codecs.items a.codecs.items b.codecs.items c.codecs.items x.few y.few }

-- ---- an item

-- what one entry counts
count_reclaim : (e : Event) (x : Entry) → entry_of e ≡ x → sum_by reclaims (e ∷ []) ≡ reclaim_in x
count_reclaim e x is = (let a : sum_by reclaims (e ∷ []) ≡ reclaims e = omega arith in a ∙ ap reclaim_in is)

count_refusal : (e : Event) (x : Entry) (es : List SlotEntry) → entry_of e ≡ x → acquires_of e.acquires ≡ es → sum_by refusals (e ∷ []) ≡ refusal_in x es
count_refusal e x es is are = (let a : sum_by refusals (e ∷ []) ≡ refusals e = omega arith in a ∙ (λ i. refusal_in (is i) (are i)))

module _ {S : Type 0} where
  -- an entry at one codec, made with these acquires
  one_made : (place : ℕ) (P : Shared → Seat (Option S) (View Event) → Seat (Option S) (View Event) → Type 0) (xs : List Shared) (us vs : List (Seat (Option S) (View Event))) (one : OneAt place P xs us vs) (x : Entry) (es : List SlotEntry)
      → MadeIn one.partner x es one.before one.after → (tally reclaims xs vs ≡ tally reclaims xs us + reclaim_in x) × (tally refusals xs vs ≡ tally refusals xs us + refusal_in x es)
  one_made place P xs us vs one x es m =
      let since = made_one one.partner x es one.before one.after m in
      let a = tally_one reclaims place P xs us vs one (m.event ∷ []) since in
      let b = tally_one refusals place P xs us vs one (m.event ∷ []) since in
      let c = count_reclaim m.event x m.entry_is in
      let d = count_refusal m.event x es m.entry_is m.acquires_are in
      (omega (arith, a, c), omega (arith, b, d))

  -- a reclaim at one codec, if it could be
  one_reclaimed : (place moment : ℕ) (made : Option ℕ) (xs : List Shared) (us vs : List (Seat (Option S) (View Event))) → OneAt place (λ s u v. ReclaimOnceTells s moment made u v) xs us vs
      → (tally reclaims xs vs ≤ tally reclaims xs us + 1) × (tally refusals xs vs ≡ tally refusals xs us)
  one_reclaimed place moment (Some n) xs us vs one = (let h = one_made place (λ s u v. ReclaimOnceTells s moment (Some n) u v) xs us vs one (entry.Reclaim moment) [] one.so.2.made in (omega (arith, h.0), omega (arith, h.1)))
  one_reclaimed place moment None xs us vs one =
      let since = made_look one.partner one.before one.after one.so.looked in
      let a = tally_one reclaims place (λ s u v. ReclaimOnceTells s moment None u v) xs us vs one [] since in
      let b = tally_one refusals place (λ s u v. ReclaimOnceTells s moment None u v) xs us vs one [] since in
      (omega (arith, a), omega (arith, b))

module _ {C : Type 0} where
  -- at most so many reclaims, and no end with a refusal
  abbrev AtMost : Desk C → ℕ → Seats C → Seats C → Type 0
  AtMost desk n a b = (tally reclaims desk.codecs.items b.codecs.items ≤ tally reclaims desk.codecs.items a.codecs.items + n) × (tally refusals desk.codecs.items b.codecs.items ≡ tally refusals desk.codecs.items a.codecs.items)

  most_as : (desk : Desk C) (n : ℕ) (a b : Seats C) → b.codecs.items ≡ a.codecs.items → AtMost desk n a b
  most_as desk n a b is =
      let r = ap (λ (l : List (Seat (Option (Locked C)) (View Event))). tally reclaims desk.codecs.items l) is in
      let f = ap (λ (l : List (Seat (Option (Locked C)) (View Event))). tally refusals desk.codecs.items l) is in
      (omega (arith, r), omega (arith, f))

  most_same : (desk : Desk C) (n : ℕ) (a b : Seats C) → b ≡ a → AtMost desk n a b
  most_same desk n a b is = most_as desk n a b (ap (λ (x : Seats C). x.codecs.items) is)

  most_then : (desk : Desk C) (m n : ℕ) (a b c : Seats C) → AtMost desk m a b → AtMost desk n b c → AtMost desk (m + n) a c
  most_then desk m n a b c x y = (let i = x.0 in let j = y.0 in let k = x.1 in let l = y.1 in (omega (arith, i, j), omega (arith, k, l)))

  most_after : (desk : Desk C) (n : ℕ) (a b c : Seats C) → b.codecs.items ≡ a.codecs.items → AtMost desk n b c → AtMost desk n a c
  most_after desk n a b c is x = subst (λ (l : List (Seat (Option (Locked C)) (View Event))). (tally reclaims desk.codecs.items c.codecs.items ≤ tally reclaims desk.codecs.items l + n) × (tally refusals desk.codecs.items c.codecs.items ≡ tally refusals desk.codecs.items l)) is x

  -- where room was looked for, at most one reclaim was made
  few_looked : (desk : Desk C) (picked : Option ℕ) (old now : Telling) (a b : Seats C) → LookedForRoom desk picked old now a b → AtMost desk 1 a b
  few_looked desk picked old now a b x = most_then desk 0 1 a x.looked b saw (by picked x.reclaimed)
    where
      xs : List Shared
      xs = desk.codecs.items

      saw : AtMost desk 0 a x.looked
      saw =
          let r = tally_seen reclaims x.saw.seen xs a.codecs.items x.looked.codecs.items x.saw.saw in
          let f = tally_seen refusals x.saw.seen xs a.codecs.items x.looked.codecs.items x.saw.saw in
          (omega (arith, r), omega (arith, f))

      by : (o : Option ℕ) → ReclaimedIf desk o x.moment x.holders x.looked b → AtMost desk 1 x.looked b
      by None h = most_same desk 1 x.looked b h.1
      by (Some k) h = one_reclaimed k x.moment h.1.0 xs x.looked.codecs.items b.codecs.items h.1.1

  few_room : (desk : Desk C) (found : Room) (old now : Telling) (a b : Seats C) → RoomTells desk found old now a b → AtMost desk 1 a b
  few_room desk (room.Picked k) old now a b x = few_looked desk (Some k) old now a b x
  few_room desk room.Unpicked old now a b x = few_looked desk None old now a b x
  few_room desk room.NoMemory old now a b x = most_same desk 1 a b x.0

  -- what follows the first acquire, which stands at the front
  few_again : (desk : Desk C) (found : Room) (place n : ℕ) (id : CoderId) (e : SlotEntry) (job new : JobValue) (es : List SlotEntry) (l : Option Lack) (a b : Seats C) → AgainIf found desk place id e n job new es l a b
      → AtMost desk 0 a b × (first_refusal es ≡ first_refusal (e ∷ []))
  few_again desk (room.Picked k) place n id e job new es l a b x = (most_as desk 0 a b x.1.only.codecs, ap first_refusal x.2)
  few_again desk room.Unpicked place n id e job new es l a b x = (most_same desk 0 a b x.0, ap first_refusal x.2)
  few_again desk room.NoMemory place n id e job new es l a b x = (most_same desk 0 a b x.0, ap first_refusal x.2)

  few_first : (desk : Desk C) (r : Acquired) (place : ℕ) (id : CoderId) (job new : JobValue) (es : List SlotEntry) (l : Option Lack) (old now : Telling) (a b : Seats C) (s : Shared) (was middle : JobValue) (first : Seats C) → AcquireGives desk.slots s.codec id r was middle first.slots.me.0 a.slots.me.0
      → AfterFirst r desk place id job new es l old now a b → AtMost desk (first_refusal es) a b
  few_first desk (acquired.Granted e) place id job new es l old now a b s was middle first gives x = most_same desk (first_refusal es) a b x.0
  few_first desk acquired.NoMemory place id job new es l old now a b s was middle first gives x = most_same desk (first_refusal es) a b x.0
  few_first desk (acquired.Refused e n) place id job new es l old now a b s was middle first gives x =
      let room = few_room desk x.found old now a x.looked x.tells in
      let again = few_again desk x.found place n id e job new es l x.looked b x.again in
      let one : first_refusal (e ∷ []) ≡ 1 = ap (λ (z : SlotEntry). refusal z.op) gives.is in
      let is : first_refusal es ≡ 1 = again.1 ∙ one in
      subst (λ (m : ℕ). AtMost desk m a b) (sym is) (most_then desk 1 0 a x.looked b room again.0)

  few_box : (desk : Desk C) (asked : Option CoderId) (place : ℕ) (job new : JobValue) (es : List SlotEntry) (l : Option Lack) (old now : Telling) (a b : Seats C) (s : Shared) → slice_get desk.codecs.items place ≡ Some s → BoxSought asked desk place job new es l old now a b → AtMost desk (first_refusal es) a b
  few_box desk None place job new es l old now a b s at x = most_same desk (first_refusal es) a b x.0
  few_box desk (Some id) place job new es l old now a b s at (r, middle, tried, acquires, after) =
      most_after desk (first_refusal es) a tried b acquires.only.codecs (few_first desk r place id middle new es l old now tried b s job middle a (acquires.gives s at) after)

  -- one item makes at most as many reclaims as its first acquire was refused
  pub few_item : (desk : Desk C) (codec place : ℕ) (old now : Telling) (a b : Seats C) → ItemWorked desk codec place old now a b → FewReclaims desk.codecs.items a.codecs.items b.codecs.items
  few_item desk codec place old now a b x =
      let xs : List Shared = desk.codecs.items in
      let start = one_made codec (Begun x.job) xs a.codecs.items x.begun.codecs.items x.begins (entry.Start x.begins.so.came.epoch x.begins.so.came.number) [] x.begins.so.started.made in
      let box = few_box desk (missing_id x.job) codec x.job x.new x.acquires x.lacking old x.sought x.begun x.ready x.begins.partner x.begins.partner_is x.box in
      let done = one_made codec (EndsIn x.acquires x.done x.moment place x.ready.slots.me.0 b.slots.me.0 x.ready.pool.me.0 b.pool.me.0) xs x.ready.codecs.items b.codecs.items x.ends (entry.Done x.done.epoch x.done.number x.moment (outcome_of x.done.ended)) x.acquires x.ends.so.finish.2.made in
      let s0 = start.0 in
      let s1 = start.1 in
      let b0 = box.0 in
      let b1 = box.1 in
      let d0 = done.0 in
      let d1 = done.1 in
      omega (arith, s0, s1, b0, b1, d0, d1)
