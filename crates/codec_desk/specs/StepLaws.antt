-- Laws of what steps at one codec made.
use Rattle.std.proofs.Common.{ℕ, ◌≡◌, inl, inr, true, List, [], ◌∷◌, ◌++◌, Option, Some, None, refl, sym, subst}
use Rattle.std.specs.Prelude.{is_some, Result, Ok, Err}
use Rattle.atomic_table.specs.declared.shared.Seat.{Seat}
use Rattle.wc_base.specs.Views.{Log}
use Rattle.wc_base.specs.declared.error.NoMemory.{NoMemory}
use Rattle.wc_base.specs.declared.seat.Passage.TheVariants.{Made, Look}
use Rattle.wc_base.specs.declared.{seat.View.View, ground.Ground.Ground}
use Rattle.wc_config.specs.declared.kind.Kind.{Kind}
use Rattle.codec_core.specs.Job.{JobValue, DoneValue}
use Rattle.wc_base.specs.declared.who.Who.{Who}
use Rattle.coder_api.specs.declared.slot.SlotEntry.{SlotEntry}
use Rattle.codec_model.specs.declared.entry.{Entry.Entry, Call.Call, PromiseState.PromiseState}
use Rattle.seat_lock.specs.Since.{entries_by, MadeSince}
use Rattle.seat_lock.specs.SinceLaws.{made_then, made_by_passage}
use Rattle.codec_logs.specs.declared.event.Event.{Event}
use Rattle.shared_codec.specs.declared.settling.Answer.{Answer}
use Rattle.shared_codec.specs.Looks.{PromiseTells, HoldingTells}
use Rattle.shared_codec.specs.Settled.{AnswerTells, TurnOnceTells, ReclaimOnceTells}
use Rattle.shared_codec.specs.Shared.{Shared, MadeIn, LookedIn, no_mint, no_spend}
use Rattle.shared_codec.specs.Workers.{BeginsIn, BeginTells, FinishTells, WorkedIn, WorkTells}
use Rattle.work_moments.specs.Moments.{Telling, Given}
use Rattle.work_moments.specs.MomentLaws.{given_none}
use Rattle.shared_codec.specs.Tallies.{moment_of}
use Rattle.codec_desk.specs.Clocks.{IfAmong, EndsAt}
use Rattle.codec_desk.specs.Desks.{SeesMore}
use Rattle.codec_desk.specs.Rests.{Still, Stirred, Rested, Served, NoItem, NoTask}
use Rattle.codec_desk.specs.RestLaws.{rested_look, rested_earlier, rested_later, still_rested}

module _ {S : Type 0} where
  -- ---- what a passage made

  pub made_one : (s : Shared) (e : Entry) (acquires : List SlotEntry) (a b : Seat (Option S) (View Event)) (m : MadeIn s e acquires a b) → MadeSince a.me.0 b.me.0 (m.event ∷ [])
  made_one s e acquires a b m = made_by_passage no_mint no_spend a b m.passes.log (Made m.event) m.passes.view m.passes.continues m.passes.has_number

  pub made_look : (s : Shared) (a b : Seat (Option S) (View Event)) → LookedIn s a b → MadeSince a.me.0 b.me.0 []
  made_look s a b x = made_by_passage no_mint no_spend a b x.passes.log Look x.passes.view x.passes.continues x.passes.has_number

  pub made_more : (s : Shared) (a b : Seat (Option S) (View Event)) (x : SeesMore s a b) → MadeSince a.me.0 b.me.0 (entries_by a.me.0.numbers x.more)
  made_more s a b x = record {
    number = x.kept.number;
    numbers = x.kept.numbers;
    parts = x.kept.parts;
    more = x.more;
    longer = x.longer;
    made = refl;
  }

  -- ---- whether a seat made an entry

  pub stirred_later : (s : Shared) (a b c : Seat (Option S) (View Event)) (es : List Event) → MadeSince a.me.0 b.me.0 es → Stirred s b c → Stirred s a c
  stirred_later s a b c [] made x = (x.0, x.1, made_then a.me.0 b.me.0 c.me.0 [] (x.0 ∷ x.1) made x.2)
  stirred_later s a b c (e ∷ es) made x = (e, es ++ x.0 ∷ x.1, made_then a.me.0 b.me.0 c.me.0 (e ∷ es) (x.0 ∷ x.1) made x.2)

  pub stirred_then : (s : Shared) (a b c : Seat (Option S) (View Event)) → Stirred s a b → SeesMore s b c → Stirred s a c
  stirred_then s a b c x more = (x.0, x.1 ++ entries_by b.me.0.numbers more.more, made_then a.me.0 b.me.0 c.me.0 (x.0 ∷ x.1) (entries_by b.me.0.numbers more.more) x.2 (made_more s b c more))

  pub served_earlier : (P : Shared → Log Event → Type 0) (s : Shared) (a b c : Seat (Option S) (View Event)) → Still s a b → Served P s b c → Served P s a c
  served_earlier P s a b c still (inl r) = inl (rested_earlier P s a b c still r)
  served_earlier P s a b c still (inr x) = inr (stirred_later s a b c [] still x)

  -- more was seen since
  pub served_then : (P : Shared → Log Event → Type 0) (s : Shared) (a b c : Seat (Option S) (View Event)) → SeesMore s a b → Served P s a b → SeesMore s b c → Served P s a c
  served_then P s a b c was (inr x) more = inr (stirred_then s a b c x more)
  served_then P s a b c was (inl r) more = cases (entries_by b.me.0.numbers more.more) (made_more s b c more)
    where
      cases : (es : List Event) → MadeSince b.me.0 c.me.0 es → Served P s a c
      cases [] still = inl (rested_later P s a b c was.kept.numbers r still)
      cases (e ∷ es) made = inr (stirred_later s a b c [] (still_rested P s a b was.kept r) (e, es, made))

  -- more was seen before
  pub served_since : (P : Shared → Log Event → Type 0) (s : Shared) (a b c : Seat (Option S) (View Event)) → SeesMore s a b → SeesMore s b c → Served P s b c → Served P s a c
  served_since P s a b c was more (inr x) = inr (stirred_later s a b c (entries_by a.me.0.numbers was.more) (made_more s a b was) x)
  served_since P s a b c was more (inl r) = cases (entries_by a.me.0.numbers was.more) (made_more s a b was)
    where
      cases : (es : List Event) → MadeSince a.me.0 b.me.0 es → Served P s a c
      cases [] still = inl (rested_earlier P s a b c still r)
      cases (e ∷ es) made = inr (e, es ++ [], made_then a.me.0 b.me.0 c.me.0 (e ∷ es) [] made (still_rested P s b c more.kept r))

  -- ---- steps of threads

  -- an item, from its start to its end
  pub worked_made : (s : Shared) (place : ℕ) (old now : Telling) (a b : Seat (Option S) (View Event)) (told : WorkedIn s place old now a b) → MadeSince a.me.0 b.me.0 (told.begins.started.made.event ∷ told.finish.2.made.event ∷ [])
  worked_made s place old now a b told =
      let m = told.begins.started.made in
      let n = told.finish.2.made in
      made_then a.me.0 told.middle.me.0 b.me.0 (m.event ∷ []) (n.event ∷ []) (made_one s _ [] a told.middle m) (made_one s _ told.acquires told.middle b n)

  pub stirred_worked : (result : Option ℕ) (old now : Telling) → is_some result ≡ true → (s : Shared) (a b : Seat (Option S) (View Event)) → WorkTells s result old now a b → Stirred s a b
  stirred_worked None old now some s a b told = absurd cc
  stirred_worked (Some place) old now some s a b told = (told.begins.started.made.event, told.finish.2.made.event ∷ [], worked_made s place old now a b told)

  pub stirred_turned : (result : Option ℕ) → is_some result ≡ true → (s : Shared) (a b : Seat (Option S) (View Event)) → TurnOnceTells s result a b → Stirred s a b
  stirred_turned None some s a b told = absurd cc
  stirred_turned (Some place) some s a b told = (told.2.gave.made.event, [], made_one s _ [] a b told.2.gave.made)

  pub rested_worked : (result : Option ℕ) (old now : Telling) → result ≡ None → (s : Shared) (a b : Seat (Option S) (View Event)) → WorkTells s result old now a b → Rested NoItem s a b
  rested_worked None old now none s a b told = rested_look NoItem s a b told.0.looked told.0.none
  rested_worked (Some place) old now none s a b told = absurd cc

  pub served_worked : (result : Option ℕ) (old now : Telling) (s : Shared) (a b : Seat (Option S) (View Event)) → WorkTells s result old now a b → Served NoItem s a b
  served_worked None old now s a b told = inl (rested_worked None old now refl s a b told)
  served_worked (Some place) old now s a b told = inr (stirred_worked (Some place) old now refl s a b told)

  pub served_turned : (result : Option ℕ) (s : Shared) (a b : Seat (Option S) (View Event)) → TurnOnceTells s result a b → Served NoTask s a b
  served_turned None s a b told = inl (rested_look NoTask s a b told.looked told.none)
  served_turned (Some place) s a b told = inr (stirred_turned (Some place) refl s a b told)

  -- ---- the moments of their ends

  ends_made : (moments : List ℕ) (s : Shared) (e : Entry) (acquires : List SlotEntry) (a b : Seat (Option S) (View Event)) → MadeIn s e acquires a b → IfAmong moments (moment_of e) → EndsAt moments s a b
  ends_made moments s e acquires a b m among = record {
    events = m.event ∷ [];
    made = made_one s e acquires a b m;
    at = (subst (λ (e : Entry). IfAmong moments (moment_of e)) (sym m.entry_is) among, tt);
  }

  ends_looked : (moments : List ℕ) (s : Shared) (a b : Seat (Option S) (View Event)) → LookedIn s a b → EndsAt moments s a b
  ends_looked moments s a b x = record { events = []; made = made_look s a b x; at = tt }

  pub ends_worked : (result : Option ℕ) (old now : Telling) (s : Shared) (a b : Seat (Option S) (View Event)) → WorkTells s result old now a b → (moments : List ℕ) × Given old moments now × EndsAt moments s a b
  ends_worked None old now s a b told = ([], subst (λ (o : Telling). Given old [] o) (sym told.1) (given_none old), ends_looked [] s a b told.0.looked)
  ends_worked (Some place) old now s a b told =
      let m = told.begins.started.made in
      let n = told.finish.2.made in
      let moments : List ℕ = told.moment ∷ [] in (
        moments,
        told.given,
        record {
          events = m.event ∷ n.event ∷ [];
          made = worked_made s place old now a b told;
          at = (
            subst (λ (e : Entry). IfAmong moments (moment_of e)) (sym m.entry_is) tt,
            (subst (λ (e : Entry). IfAmong moments (moment_of e)) (sym n.entry_is) (inl refl), tt),
          );
        },
      )

  pub ends_turned : (result : Option ℕ) (s : Shared) (a b : Seat (Option S) (View Event)) → TurnOnceTells s result a b → EndsAt [] s a b
  ends_turned None s a b told = ends_looked [] s a b told.looked
  ends_turned (Some place) s a b told = ends_made [] s _ [] a b told.2.gave.made tt

  pub ends_answered : (who : Who) (call : Call) (result : Result Answer NoMemory) (s : Shared) (a b : Seat (Option S) (View Event)) → AnswerTells s who call result a b → EndsAt [] s a b
  ends_answered who call (Ok answer) s a b told = ends_made [] s _ [] a b told.2.gave.made tt
  ends_answered who call (Err e) s a b told = ends_looked [] s a b told.looked

  pub ends_seen : (promise : ℕ) (seen : ℕ × PromiseState) (s : Shared) (a b : Seat (Option S) (View Event)) → PromiseTells s promise seen a b → EndsAt [] s a b
  ends_seen promise seen s a b told = ends_looked [] s a b told.looked

  -- ---- the parts of an item

  pub stirred_begun : (job : JobValue) (s : Shared) (a b : Seat (Option S) (View Event)) → BeginsIn s job a b → Stirred s a b
  stirred_begun job s a b told = (told.started.made.event, [], made_one s _ [] a b told.started.made)

  pub ends_begun : (result : Option JobValue) (s : Shared) (a b : Seat (Option S) (View Event)) → BeginTells s result a b → EndsAt [] s a b
  ends_begun (Some job) s a b told = ends_made [] s _ [] a b told.started.made tt
  ends_begun None s a b told = ends_looked [] s a b told.looked

  pub ends_held : (seen : Option ℕ × Ground × Kind) (s : Shared) (a b : Seat (Option S) (View Event)) → HoldingTells s seen a b → EndsAt [] s a b
  ends_held seen s a b told = ends_looked [] s a b told.looked

  pub ends_reclaimed : (now : ℕ) (result : Option ℕ) (s : Shared) (a b : Seat (Option S) (View Event)) → ReclaimOnceTells s now result a b → EndsAt (now ∷ []) s a b
  ends_reclaimed now (Some place) s a b told = ends_made (now ∷ []) s _ [] a b told.2.made (inl refl)
  ends_reclaimed now None s a b told = ends_looked (now ∷ []) s a b told.looked

  pub ends_finished : (d : DoneValue) (acquires : List SlotEntry) (moment place : ℕ) (s : Shared) (a b : Seat (Option S) (View Event)) → FinishTells s d acquires moment place a b → EndsAt (moment ∷ []) s a b
  ends_finished d acquires moment place s a b told = ends_made (moment ∷ []) s _ acquires a b told.2.made (inl refl)
