-- What takes of outputs of codecs of a desk told.
use Rattle.std.proofs.Common.{ℕ, zero, suc, ◌≡◌, ◌≤◌, false, List, [], ◌∷◌, ◌++◌, length, take, Option, Some, None, refl, ap, sym, subst, ◌∙◌, arith, eq-eqb}
use Rattle.std.specs.Prelude.{slice_get, option_map, IfOk, Result, Ok, Err}
use Rattle.std.specs.List.{AllByRecursion}
use Rattle.std.proofs.Math.Seq.{take-length}
use Rattle.std.proofs.lemmas.Bool.{ltb-false}
use Rattle.std.proofs.lemmas.Option.{slice_get_past}
use Rattle.atomic_table.specs.Seated.{TableId}
use Rattle.atomic_table.specs.declared.shared.Seat.{Seat}
use Rattle.wc_base.specs.Options.{some_same}
use Rattle.wc_base.specs.Views.{Log}
use Rattle.wc_base.specs.declared.error.NoMemory.{NoMemory}
use Rattle.wc_base.specs.declared.seat.View.{View}
use Rattle.wc_base.specs.declared.who.Who.{Who}
use Rattle.codec_definitions.specs.declared.unit.Unit as output
use Rattle.codec_definitions.specs.declared.unit.Unit.TheVariants as unit
use Rattle.codec_model.specs.declared.entry.{Opening.Opening, Entry.Entry, Call.Call}
use Rattle.codec_model.specs.Control.{may_take}
use Rattle.codec_model.specs.Replay.{State, replay}
use Rattle.codec_model.specs.Shown.{shown, outputs_of}
use Rattle.codec_accounts.specs.Bags.{SameBag}
use Rattle.codec_accounts.specs.Calls as mark
use Rattle.codec_accounts.specs.Calls.{reach}
use Rattle.codec_accounts.specs.Codec.{state_after}
use Rattle.codec_accounts.specs.Owed.{at}
use Rattle.history_laws.specs.Outputs.{IsWholeUnit}
use Rattle.history_laws.specs.CountLaws.{shown_counted, outputs_stay}
use Rattle.history_laws.specs.WholeLaws.{outputs_are_whole}
use Rattle.codec_logs.specs.declared.event.Event.{Event}
use Rattle.codec_logs.specs.Logs.{history_of, track}
use Rattle.codec_logs.specs.LogLaws.{legal_log}
use Rattle.shared_codec.specs.declared.takes.NextOutput.{NextOutput}
use Rattle.shared_codec.specs.Gives.{taken_at}
use Rattle.shared_codec.specs.Names.{Names, taken_calls}
use Rattle.shared_codec.specs.NameLaws.{take_names}
use Rattle.shared_codec.specs.Shared.{Shared, state_in}
use Rattle.shared_codec.specs.Takes.{NextIs, OutputTells, TakeTells}
use Rattle.codec_desk.specs.declared.desk.Desk.{Desk}
use Rattle.codec_desk.specs.declared.desk.Seats.{Seats}
use Rattle.codec_desk.specs.Desks.{SitsAt, SitAt, SeesMore, Settled}
use Rattle.codec_desk.specs.Each.{Pairs, OneAt, Each}
use Rattle.codec_desk.specs.EachLaws.{pairs_get}
use Rattle.codec_desk.specs.Named.{calls_made, Calls}
use Rattle.codec_desk.specs.DeskLaws.{settled_none, settled_then}
use Rattle.codec_desk.specs.NamedLaws.{named_one, calls_then}
use Rattle.media_variables.specs.Held.{IsEnoughUnit}
use Rattle.report_text.specs.declared.result.StepResult.{StepResult}
use Rattle.run_model.specs.Fits.{mark_of}
use Rattle.run_model.specs.Recorded.{output_at}
use Rattle.desk_callers.specs.Deeds.{GoOn}
use Rattle.desk_callers.specs.Acts.{histories_in, NoOutput, TookAs, TookNone, Helped}
use Rattle.desk_callers.specs.declared.takes.FoundOutput.{FoundOutput}
use Rattle.desk_callers.specs.Takes.{IsFound, IsSighted, IsTried}
use Rattle.desk_callers.proofs.Calling.{Stands, stood}
use Rattle.desk_callers.proofs.Histories.{each_goes_on, go_longer, call_reaches, look_reaches, between_on}
use Rattle.desk_callers.proofs.Seen.{found, state_known, earlier}

-- ---- outputs

at_each : {X : Type 0} (P : X → Type 0) (xs : List X) (n : ℕ) (x : X) → AllByRecursion P xs → slice_get xs n ≡ Some x → P x
at_each P [] n x all is = absurd cc
at_each P (y ∷ ys) zero x all is = subst P (some_same y x is) all.0
at_each P (y ∷ ys) (suc n) x all is = at_each P ys n x all.1 is

enough : (u : output.Unit) → IsWholeUnit u → IsEnoughUnit u
enough (unit.Coded chunk config) h = tt
enough u h = omega (arith, h)

-- an output of a history has the bytes that its shape needs
shown_enough : (o : Opening) (h : List Entry) (n : ℕ) (u : output.Unit) → output_at o h n ≡ Some u → IsEnoughUnit u
shown_enough o h n u is = enough u (at_each IsWholeUnit (outputs_of (shown o h)) n u (outputs_are_whole o h) is)

-- where none may be taken, none is left
none_left : (o : Opening) (h : List Entry) (s : State) → replay o h ≡ Some s → may_take s.control.taken s.control ≡ false → output_at o h s.control.taken ≡ None
none_left o h s r may =
    let less : s.control.shown ≤ s.control.taken = ltb-false s.control.taken s.control.shown (rw (eq-eqb s.control.taken s.control.taken refl) at may) in
    let count = shown_counted o h s r in
    slice_get_past (outputs_of (shown o h)) s.control.taken (omega (arith, less, count))

-- by this log a look for an output tells this
abbrev pub NextSeen : ℕ → Option NextOutput → Shared → Log Event → Type 0
NextSeen n next s log = (n ≡ length (history_of log)) × NextIs s.opening (history_of log) (state_in s log).control next

module _ {C : Type 0} where
  -- a look found none
  pub took_none : (desk : Desk C) (codec seen : ℕ) (a b : Seats C) → Helped desk a b → OneAt codec (λ s u v. OutputTells s (Ok (seen, None)) u v) desk.codecs.items a.codecs.items b.codecs.items → TookNone desk codec seen a b
  took_none desk codec seen a b helped one =
      let f = found (NextSeen seen None) codec desk.codecs.items a.codecs.items b.codecs.items one in
      let h : List Entry = history_of f.log in
      let o : Opening = f.partner.opening in
      let n : seen ≡ length h = f.so.0 in
      let now : length (at codec (histories_in b.codecs.items)) ≡ length h = ap length f.now in
      let long = f.long in
      let all : take seen (at codec (histories_in b.codecs.items)) ≡ h = (λ i. take (n i) (f.now i)) ∙ take-length h in
      let state : state_after o h ≡ state_in f.partner f.log = state_known f.partner f.log f.legal in
      let none : output_at o h (state_in f.partner f.log).control.taken ≡ None = none_left o h (track o f.log).state (legal_log f.partner.codec o f.log f.legal).replays f.so.1 in
      let is : NoOutput o h = subst (λ (t : State). output_at o h t.control.taken ≡ None) (sym state) none in
      record {
        helped = helped;
        between = between_on codec (seen, seen) (mark.Look codec seen) (histories_in a.codecs.items) (histories_in b.codecs.items) (look_reaches codec seen)
            (each_goes_on desk.codecs.items a.codecs.items b.codecs.items helped.settled.seats) (omega (arith, long, n)) (omega (arith, now, n));
        shows = λ x there. subst (λ (y : Shared). NoOutput y.opening (take seen (at codec (histories_in b.codecs.items)))) (some_same f.partner x (sym f.partner_is ∙ there)) (subst (NoOutput o) (sym all) is);
      }

  -- what a look found is the codec's output, as far as its seat has seen
  pub sighted : (desk : Desk C) (codec seen : ℕ) (next : NextOutput) (a b : Seats C) → OneAt codec (λ s u v. OutputTells s (Ok (seen, Some next)) u v) desk.codecs.items a.codecs.items b.codecs.items
      → (x : Shared) → slice_get desk.codecs.items codec ≡ Some x → output_at x.opening (at codec (histories_in b.codecs.items)) next.number ≡ Some next.unit
  sighted desk codec seen next a b one x there =
      let f = found (NextSeen seen (Some next)) codec desk.codecs.items a.codecs.items b.codecs.items one in
      let is : output_at f.partner.opening (history_of f.log) next.number ≡ Some next.unit = f.so.1.2 in
      let same : f.partner ≡ x = some_same f.partner x (sym f.partner_is ∙ there) in
      (λ i. output_at (sym same i).opening (f.now i) next.number) ∙ is

  -- a take of what a look found
  pub took_as : (desk : Desk C) (who : Who) (codec place number : ℕ) (u : output.Unit) (z a b : Seats C) → Settled desk z b → Calls desk (taken_calls codec who number (Ok (Some place))) z b → Each SeesMore desk.codecs.items z.codecs.items a.codecs.items → Each SeesMore desk.codecs.items a.codecs.items b.codecs.items
      → ((x : Shared) → slice_get desk.codecs.items codec ≡ Some x → output_at x.opening (at codec (histories_in a.codecs.items)) number ≡ Some u)
      → OneAt codec (λ s u v. TakeTells s who number (Ok (Some place)) u v) desk.codecs.items a.codecs.items b.codecs.items → TookAs desk who codec place number u z b
  took_as desk who codec place number u z a b settled calls first then sight one =
      let st : Stands who codec place (Call.Take number) None desk.codecs.items a.codecs.items b.codecs.items = stood who codec (Call.Take number) (taken_at place) desk.codecs.items a.codecs.items b.codecs.items one in
      let goes : GoOn (histories_in z.codecs.items) (histories_in b.codecs.items) = each_goes_on desk.codecs.items z.codecs.items b.codecs.items settled.seats in
      let after = each_goes_on desk.codecs.items a.codecs.items b.codecs.items then codec in
      let shorter : length (at codec (histories_in z.codecs.items)) ≤ length (at codec (histories_in a.codecs.items)) = go_longer (histories_in z.codecs.items) (histories_in a.codecs.items) (each_goes_on desk.codecs.items z.codecs.items a.codecs.items first) codec in
      let low = st.low in
      let shows : (x : Shared) → slice_get desk.codecs.items codec ≡ Some x → output_at x.opening (at codec (histories_in b.codecs.items)) number ≡ Some u =
      λ x there. (ap (λ (l : List Entry). output_at x.opening l number) after.1 ∙ outputs_stay x.opening (at codec (histories_in a.codecs.items)) after.0 number u (sight x there)) in
      record {
        settled = settled;
        calls = calls;
        between = between_on codec (place, suc place) (mark.Call codec place) (histories_in z.codecs.items) (histories_in b.codecs.items) (call_reaches codec place) goes (omega (arith, shorter, low)) st.high;
        stands = st.stands;
        shows = shows;
        enough = shown_enough st.partner.opening (at codec (histories_in b.codecs.items)) number u (shows st.partner st.partner_is);
      }

-- ---- the calls that takes are

module _ {S : Type 0} where
  pub took_at : (pool slots : TableId) (place : ℕ) (who : Who) (number : ℕ) (result : Result (Option ℕ) NoMemory) (xs : List Shared) (us vs : List (Seat (Option S) (View Event))) → Pairs (SitsAt pool slots) 0 xs us → OneAt place (λ s u v. TakeTells s who number result u v) xs us vs → SameBag (calls_made xs vs) (calls_made xs us ++ taken_calls place who number result)
  took_at pool slots place who number result xs us vs sits one =
      let codec : one.partner.codec ≡ place = (pairs_get (SitsAt pool slots) 0 place place xs us one.partner one.before sits (omega arith) one.partner_is one.before_is).number in
      let here : OneAt place (λ s u v. Names s (taken_calls place who number result) u.me.0 v.me.0) xs us vs =
      record {
        partner = one.partner;
        before = one.before;
        after = one.after;
        partner_is = one.partner_is;
        before_is = one.before_is;
        after_is = one.after_is;
        so = subst (λ (n : ℕ). Names one.partner (taken_calls n who number result) one.before.me.0 one.after.me.0) codec (take_names one.partner who number result one.before one.after one.so);
      } in
      named_one (taken_calls place who number result) (λ s u v. Names s (taken_calls place who number result) u.me.0 v.me.0) (λ s u v names. names) place xs us vs here

-- ---- after other steps

module _ {C : Type 0} where
  pub helped_then : (desk : Desk C) (a b d : Seats C) → Helped desk a b → Helped desk b d → Helped desk a d
  helped_then desk a b d x y = record { settled = settled_then desk a b d x.settled y.settled; calls = calls_then desk a b d [] [] x.calls y.calls }

  -- a look that found none, from before what was done first
  pub none_since : (desk : Desk C) (codec seen : ℕ) (z a b : Seats C) → Helped desk z a → TookNone desk codec seen a b → TookNone desk codec seen z b
  none_since desk codec seen z a b first took = record {
    helped = helped_then desk z a b first took.helped;
    between = λ k. earlier (reach k (mark_of (StepResult.NoUnit codec seen))) (length (at k (histories_in z.codecs.items))) (length (at k (histories_in a.codecs.items))) (length (at k (histories_in b.codecs.items)))
        (go_longer (histories_in z.codecs.items) (histories_in a.codecs.items) (each_goes_on desk.codecs.items z.codecs.items a.codecs.items first.settled.seats) k) (took.between k);
    shows = took.shows;
  }

  -- a take, from before what was done first
  took_later : (desk : Desk C) (who : Who) (codec place number : ℕ) (u : output.Unit) (z a b : Seats C) → Helped desk z a → TookAs desk who codec place number u a b → TookAs desk who codec place number u z b
  took_later desk who codec place number u z a b first took = record {
    settled = settled_then desk z a b first.settled took.settled;
    calls = calls_then desk z a b [] (record { codec = codec; place = place; who = who; call = Call.Take number } ∷ []) first.calls took.calls;
    between = λ k. earlier (reach k (mark_of (StepResult.Unit codec place number))) (length (at k (histories_in z.codecs.items))) (length (at k (histories_in a.codecs.items))) (length (at k (histories_in b.codecs.items)))
        (go_longer (histories_in z.codecs.items) (histories_in a.codecs.items) (each_goes_on desk.codecs.items z.codecs.items a.codecs.items first.settled.seats) k) (took.between k);
    stands = took.stands;
    shows = took.shows;
    enough = took.enough;
  }

  pub found_since : (desk : Desk C) (who : Who) (codec : ℕ) (f : FoundOutput) (z a b : Seats C) → Helped desk z a → IsFound desk who codec a b f → IsFound desk who codec z b f
  found_since desk who codec (FoundOutput.Taken place number u) z a b first took = took_later desk who codec place number u z a b first took
  found_since desk who codec (FoundOutput.Nothing seen) z a b first took = none_since desk codec seen z a b first took

  tried_since : (desk : Desk C) (who : Who) (codec : ℕ) (o : Option FoundOutput) (z a b : Seats C) → Helped desk z a → IsTried desk who codec a b o → IsTried desk who codec z b o
  tried_since desk who codec None z a b first helped = helped_then desk z a b first helped
  tried_since desk who codec (Some f) z a b first took = found_since desk who codec f z a b first took

  pub if_tried_since : (desk : Desk C) (who : Who) (codec : ℕ) (r : Result (Option FoundOutput) NoMemory) (z a b : Seats C) → Helped desk z a → IfOk r (IsTried desk who codec a b) → IfOk r (IsTried desk who codec z b)
  if_tried_since desk who codec (Ok o) z a b first tried = tried_since desk who codec o z a b first tried
  if_tried_since desk who codec (Err e) z a b first tried = tt

  -- by what a look told
  pub none_found : (desk : Desk C) (codec : ℕ) (seen : ℕ × Option NextOutput) (a b : Seats C) → Helped desk a b → OneAt codec (λ s u v. OutputTells s (Ok seen) u v) desk.codecs.items a.codecs.items b.codecs.items → seen.1 ≡ None → TookNone desk codec seen.0 a b
  none_found desk codec seen a b helped look is =
      took_none desk codec seen.0 a b helped (subst (λ (o : Option NextOutput). OneAt codec (λ s u v. OutputTells s (Ok (seen.0, o)) u v) desk.codecs.items a.codecs.items b.codecs.items) is look)

  pub some_found : (desk : Desk C) (codec : ℕ) (seen : ℕ × Option NextOutput) (next : NextOutput) (a b : Seats C) → OneAt codec (λ s u v. OutputTells s (Ok seen) u v) desk.codecs.items a.codecs.items b.codecs.items → seen.1 ≡ Some next → IsSighted desk codec b next
  some_found desk codec seen next a b look is =
      sighted desk codec seen.0 next a b (subst (λ (o : Option NextOutput). OneAt codec (λ s u v. OutputTells s (Ok (seen.0, o)) u v) desk.codecs.items a.codecs.items b.codecs.items) is look)

  -- by what a take told
  pub tried_by : (desk : Desk C) (who : Who) (codec : ℕ) (taken : Option ℕ) (next : NextOutput) (o : Option FoundOutput) (a b : Seats C) → SitAt desk a → IsSighted desk codec a next → Settled desk a b → Calls desk (taken_calls codec who next.number (Ok taken)) a b
      → OneAt codec (λ s u v. TakeTells s who next.number (Ok taken) u v) desk.codecs.items a.codecs.items b.codecs.items → o ≡ option_map (λ p. FoundOutput.Taken p next.number next.unit) taken → IsTried desk who codec a b o
  tried_by desk who codec None next o a b sits sight settled calls told is = subst (IsTried desk who codec a b) (sym is) (record { settled = settled; calls = calls })
  tried_by desk who codec (Some place) next o a b sits sight settled calls told is =
      subst (IsTried desk who codec a b) (sym is)
      (took_as desk who codec place next.number next.unit a a b settled calls (settled_none desk a sits).seats settled.seats sight told)
