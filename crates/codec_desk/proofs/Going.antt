-- Steps at one codec of a desk, and rounds over all.
use Rattle.std.proofs.Common.{ℕ, suc, ◌≡◌, ◌+◌, List, [], Option, Some, None, length, sym, subst, ◌∙◌, arith}
use Rattle.std.specs.Prelude.{slice_get}
use Rattle.atomic_table.specs.Seated.{TableId}
use Rattle.atomic_table.specs.declared.shared.Seat.{Seat}
use Rattle.wc_base.specs.Views.{Log}
use Rattle.wc_base.specs.declared.seat.View.{View}
use Rattle.codec_model.specs.declared.entry.PromiseState.{PromiseState}
use Rattle.seat_lock.specs.Since.{entries_by}
use Rattle.seat_lock.specs.SinceLaws.{made_none}
use Rattle.codec_logs.specs.declared.event.Event.{Event}
use Rattle.shared_codec.specs.declared.codec.Locked.{Locked}
use Rattle.shared_codec.specs.Looks.{PromiseTells}
use Rattle.shared_codec.specs.Settled.{TurnOnceTells}
use Rattle.shared_codec.specs.Shared.{Shared, NoneIn}
use Rattle.shared_codec.specs.Workers.{WorkTells}
use Rattle.flush_promise.specs.declared.promise.FlushEnd.{FlushEnd}
use Rattle.flush_promise.specs.Ends.{ended_state}
use Rattle.flush_promise.specs.Promises.{EndsAs}
use Rattle.codec_desk.specs.declared.desk.Desk.{Desk}
use Rattle.codec_desk.specs.declared.desk.Seats.{Seats}
use Rattle.codec_desk.specs.Each.{Pairs, Each, First, AtSome, OneAt, IsAt}
use Rattle.codec_desk.specs.EachLaws.{pairs_length, pairs_get, each_same, each_one, each_so, each_then, first_none, first_one, first_step, first_all, one_earlier, some_at, some_one, some_then, some_later}
use Rattle.codec_desk.specs.Clocks.{EndsAt}
use Rattle.codec_desk.specs.ClockLaws.{ends_none, ends_then, ends_one}
use Rattle.codec_desk.specs.DeskLaws.{sees_same, sees_then}
use Rattle.work_moments.specs.Moments.{Telling, Given}
use Rattle.codec_desk.specs.Desks.{SitsAt, SeesMore, SitAt}
use Rattle.codec_desk.specs.Rests.{Looked, Rested, Served, Still, Stirred, NoTask}
use Rattle.codec_desk.specs.RestLaws.{rested_look, rested_earlier, looked_earlier}
use Rattle.codec_desk.specs.StepLaws.{made_more, stirred_later, stirred_then, served_earlier, served_then, served_since, ends_worked, ends_turned, ends_seen}

module _ {C : Type 0} where
  -- a thread has a seat at each codec
  pub sit_length : (desk : Desk C) (a : Seats C) → SitAt desk a → length desk.codecs.items ≡ length a.codecs.items
  sit_length desk a at = pairs_length (SitsAt desk.pool desk.slots.id) 0 desk.codecs.items a.codecs.items at.codecs

  pub sit_get : (desk : Desk C) (a : Seats C) (place : ℕ) (s : Shared) (u : Seat (Option (Locked C)) (View Event)) → SitAt desk a → slice_get desk.codecs.items place ≡ Some s → slice_get a.codecs.items place ≡ Some u → SitsAt desk.pool desk.slots.id place s u
  sit_get desk a place s u at codec seat = pairs_get (SitsAt desk.pool desk.slots.id) 0 place place desk.codecs.items a.codecs.items s u at.codecs (omega arith) codec seat

module _ {S : Type 0} where
  -- ---- a step that found nothing

  pub no_task : (result : Option ℕ) → result ≡ None → (s : Shared) (a b : Seat (Option S) (View Event)) → TurnOnceTells s result a b → Rested NoTask s a b
  no_task result none s a b told =
      let x : NoneIn s (λ d. d.tasks ≡ []) a b = subst (λ (o : Option ℕ). TurnOnceTells s o a b) none told in
      rested_look NoTask s a b x.looked x.none

  -- a look that saw an end
  pub saw_end : (place : ℕ) (seen : ℕ × PromiseState) (end : FlushEnd) → ended_state end ≡ seen.1 → (s : Shared) (a b : Seat (Option S) (View Event)) → PromiseTells s place seen a b → Looked (EndsAs place end) s a b
  saw_end place seen end is s a b told = (rested_look (EndsAs place end) s a b told.looked (is ∙ told.is.1)).looked

  pub saw_earlier : (codec place : ℕ) (seen : ℕ × PromiseState) (end : FlushEnd) (xs : List Shared) (us vs ws : List (Seat (Option S) (View Event))) → ended_state end ≡ seen.1 → Each SeesMore xs us vs → OneAt codec (λ s a b. PromiseTells s place seen a b) xs vs ws → IsAt codec (Looked (EndsAs place end)) xs us ws
  saw_earlier codec place seen end xs us vs ws is sees one =
      one_earlier SeesMore (λ s a b. PromiseTells s place seen a b) (Looked (EndsAs place end)) (λ s a b c more told. looked_earlier (EndsAs place end) s a b c more (saw_end place seen end is s b c told)) codec xs us vs ws sees one

  -- ---- rounds

  module _ (P : Shared → Log Event → Type 0) where
    pub round_none : (pool slots : TableId) (xs : List Shared) (us : List (Seat (Option S) (View Event))) → Pairs (SitsAt pool slots) 0 xs us → First (Rested P) Still 0 xs us us
    round_none pool slots xs us at = first_none (Rested P) Still xs us us (each_same (SitsAt pool slots) Still (λ n x u h. made_none u.me.0) 0 xs us at)

    pub round_more : (place : ℕ) (xs : List Shared) (us vs ws : List (Seat (Option S) (View Event))) → First (Rested P) Still place xs us vs → OneAt place (Rested P) xs vs ws → First (Rested P) Still (place + 1) xs us ws
    round_more place xs us vs ws first one = first_one (Rested P) Still (rested_earlier P) place xs us vs ws first one

    pub round_all : (place : ℕ) (xs : List Shared) (us vs : List (Seat (Option S) (View Event))) → length xs ≡ place → First (Rested P) Still place xs us vs → Each (Rested P) xs us vs
    round_all place xs us vs over first = first_all (Rested P) Still place xs us vs (omega (arith, over)) first

    -- what was served, codec by codec
    pub serve_none : (pool slots : TableId) (xs : List Shared) (us : List (Seat (Option S) (View Event))) → Pairs (SitsAt pool slots) 0 xs us → First (Served P) Still 0 xs us us
    serve_none pool slots xs us at = first_none (Served P) Still xs us us (each_same (SitsAt pool slots) Still (λ n x u h. made_none u.me.0) 0 xs us at)

    pub serve_more : (place : ℕ) (xs : List Shared) (us vs ws : List (Seat (Option S) (View Event))) → First (Served P) Still place xs us vs → OneAt place (Served P) xs vs ws → First (Served P) Still (place + 1) xs us ws
    serve_more place xs us vs ws first one = first_one (Served P) Still (served_earlier P) place xs us vs ws first one

    pub serve_all : (place : ℕ) (xs : List Shared) (us vs : List (Seat (Option S) (View Event))) → length xs ≡ place → First (Served P) Still place xs us vs → Each (Served P) xs us vs
    serve_all place xs us vs over first = first_all (Served P) Still place xs us vs (omega (arith, over)) first

    -- the same where each may have made entries meanwhile
    abbrev pub Serves : Shared → Seat (Option S) (View Event) → Seat (Option S) (View Event) → Type 0
    Serves s a b = SeesMore s a b × Served P s a b

    pub serves_none : (pool slots : TableId) (xs : List Shared) (us : List (Seat (Option S) (View Event))) → Pairs (SitsAt pool slots) 0 xs us → First Serves SeesMore 0 xs us us
    serves_none pool slots xs us at = first_none Serves SeesMore xs us us (each_same (SitsAt pool slots) SeesMore (λ n x u h. sees_same x u h.idle) 0 xs us at)

    pub serves_more : (place : ℕ) (xs : List Shared) (us vs ws : List (Seat (Option S) (View Event))) → First Serves SeesMore place xs us vs → Each SeesMore xs vs ws → IsAt place (Served P) xs vs ws → First Serves SeesMore (place + 1) xs us ws
    serves_more place xs us vs ws first each here =
        let next : suc place ≡ place + 1 = omega arith in
        subst (λ (m : ℕ). First Serves SeesMore m xs us ws) next
        (first_step Serves SeesMore SeesMore (Served P)
        (λ s a b c was more. (sees_then s a b c was.0 more, served_then P s a b c was.0 was.1 more))
        (λ s a b c was more. sees_then s a b c was more)
        (λ s a b c was more x. (sees_then s a b c was more, served_since P s a b c was more x))
        place xs us vs ws first each here)

    pub serves_all : (place : ℕ) (xs : List Shared) (us vs : List (Seat (Option S) (View Event))) → length xs ≡ place → First Serves SeesMore place xs us vs → Each (Served P) xs us vs
    serves_all place xs us vs over first = each_so Serves (Served P) (λ s a b x. x.1) xs us vs (first_all Serves SeesMore place xs us vs (omega (arith, over)) first)

    -- a round, seen from what was done before it
    pub looked_each : (xs : List Shared) (us vs ws : List (Seat (Option S) (View Event))) → Each SeesMore xs us vs → Each (Rested P) xs vs ws → Each (Looked P) xs us ws
    looked_each xs us vs ws sees rested = each_then SeesMore (Rested P) (Looked P) (λ x u v w m r. looked_earlier P x u v w m r.looked) xs us vs ws sees rested

  -- ---- whether a round made an entry

  -- one was made before
  pub stir_then : (xs : List Shared) (us vs ws : List (Seat (Option S) (View Event))) → AtSome Stirred xs us vs → Each SeesMore xs vs ws → AtSome Stirred xs us ws
  stir_then xs us vs ws some sees = some_then Stirred SeesMore Stirred stirred_then xs us vs ws some sees

  -- this step made one
  pub stir_one : (P : Shared → Seat (Option S) (View Event) → Seat (Option S) (View Event) → Type 0) → ((s : Shared) (a b : Seat (Option S) (View Event)) → P s a b → Stirred s a b) → (place : ℕ) (xs : List Shared) (us vs ws : List (Seat (Option S) (View Event))) → Each SeesMore xs us vs → OneAt place P xs vs ws → AtSome Stirred xs us ws
  stir_one P step place xs us vs ws sees one =
      some_later SeesMore Stirred Stirred (λ s a b c more x. stirred_later s a b c (entries_by a.me.0.numbers more.more) (made_more s a b more) x) xs us vs ws sees
      (some_one P Stirred step place xs vs ws one)

  -- this one did
  pub stir_at : (place : ℕ) (xs : List Shared) (us vs ws : List (Seat (Option S) (View Event))) → Each SeesMore xs us vs → IsAt place Stirred xs vs ws → AtSome Stirred xs us ws
  stir_at place xs us vs ws sees here =
      some_later SeesMore Stirred Stirred (λ s a b c more x. stirred_later s a b c (entries_by a.me.0.numbers more.more) (made_more s a b more) x) xs us vs ws sees
      (some_at Stirred place xs vs ws here)

  -- steps that make no end, one after another
  pub ends_more : (xs : List Shared) (us vs ws : List (Seat (Option S) (View Event))) → Each (EndsAt []) xs us vs → Each (EndsAt []) xs vs ws → Each (EndsAt []) xs us ws
  ends_more xs us vs ws x y = each_then (EndsAt []) (EndsAt []) (EndsAt []) (ends_then [] []) xs us vs ws x y

  -- ---- what a turn, a look and an item are timed by

  pub turn_ends : (pool slots : TableId) (place : ℕ) (result : Option ℕ) (xs : List Shared) (us vs : List (Seat (Option S) (View Event))) → Pairs (SitsAt pool slots) 0 xs us → OneAt place (λ s a b. TurnOnceTells s result a b) xs us vs → Each (EndsAt []) xs us vs
  turn_ends pool slots place result xs us vs at one = ends_one [] (λ s a b. TurnOnceTells s result a b) (ends_turned result) pool slots place xs us vs at one

  pub look_ends : (pool slots : TableId) (place promise : ℕ) (seen : ℕ × PromiseState) (xs : List Shared) (us vs : List (Seat (Option S) (View Event))) → Pairs (SitsAt pool slots) 0 xs us → OneAt place (λ s a b. PromiseTells s promise seen a b) xs us vs → Each (EndsAt []) xs us vs
  look_ends pool slots place promise seen xs us vs at one = ends_one [] (λ s a b. PromiseTells s promise seen a b) (ends_seen promise seen) pool slots place xs us vs at one

  pub item_ends : (pool slots : TableId) (place : ℕ) (result : Option ℕ) (old now : Telling) (xs : List Shared) (us vs : List (Seat (Option S) (View Event))) → Pairs (SitsAt pool slots) 0 xs us → OneAt place (λ s a b. WorkTells s result old now a b) xs us vs → (moments : List ℕ) × Given old moments now × Each (EndsAt moments) xs us vs
  item_ends pool slots place result old now xs us vs at one =
      let told = ends_worked result old now one.partner one.before one.after one.so in (
        told.0,
        told.1,
        subst (λ (l : List (Seat (Option S) (View Event))). Each (EndsAt told.0) xs us l) (sym one.after_is)
            (each_one (SitsAt pool slots) (EndsAt told.0) (λ n s u h. ends_none told.0 s u) 0 place xs us one.partner one.before one.after at one.partner_is one.before_is told.2),
      )
