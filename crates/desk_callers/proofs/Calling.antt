-- What calls on codecs of a desk told.
use Rattle.std.proofs.Common.{ℕ, suc, ◌≡◌, ◌≤◌, List, [], ◌∷◌, ◌++◌, length, Option, Some, None, refl, ap, sym, subst, ◌∙◌, arith, length-append}
use Rattle.std.specs.Prelude.{slice_get, option_and_then, Ok}
use Rattle.atomic_table.specs.declared.shared.Seat.{Seat}
use Rattle.wc_base.specs.Options.{some_same}
use Rattle.wc_base.specs.declared.error.DomError.{DomError}
use Rattle.wc_base.specs.declared.seat.Passage.TheVariants.{Made}
use Rattle.wc_base.specs.declared.seat.View.{View}
use Rattle.wc_base.specs.declared.who.Who.{Who}
use Rattle.codec_model.specs.declared.entry.{Opening.Opening, Entry.Entry, Call.Call, Shown.Shown}
use Rattle.codec_model.specs.Replay.{State, call_error, replay}
use Rattle.codec_model.specs.Shown.{call_shows, exception_of, each_shown, shown_at}
use Rattle.codec_model.specs.ShownLaws.{each_more, each_length}
use Rattle.codec_accounts.specs.Calls as mark
use Rattle.codec_accounts.specs.ListLaws.{get_end}
use Rattle.codec_accounts.specs.Owed.{at}
use Rattle.codec_logs.specs.declared.event.Event.{Event}
use Rattle.codec_logs.specs.Logs.{history_of}
use Rattle.codec_logs.specs.LogLaws.{legal_log}
use Rattle.codec_media.specs.Holding.{ReplyValue}
use Rattle.shared_codec.specs.declared.settling.Answer.{Answer}
use Rattle.shared_codec.specs.Calls.{RepliedIn}
use Rattle.shared_codec.specs.Names.{called}
use Rattle.shared_codec.specs.Settled.{AnswerTells}
use Rattle.shared_codec.specs.Shared.{Shared, state_in}
use Rattle.codec_desk.specs.declared.desk.Desk.{Desk}
use Rattle.codec_desk.specs.declared.desk.Seats.{Seats}
use Rattle.codec_desk.specs.Desks.{Settled}
use Rattle.codec_desk.specs.Each.{OneAt}
use Rattle.codec_desk.specs.Named.{Calls}
use Rattle.report_text.specs.declared.result.StepResult.TheVariants as result
use Rattle.run_model.specs.Fits.{exception_at, refusal_in}
use Rattle.desk_callers.specs.Deeds.{GoOn}
use Rattle.desk_callers.specs.Acts.{histories_in, CalledAs}
use Rattle.desk_callers.proofs.Histories.{found_after, made_history, history_at, history_set, each_goes_on, call_reaches, between_on}

-- a call's exception is what it shows
exception_shown : (x : Call) (place : ℕ) (pending : List ℕ) (o : Option DomError) → exception_of x o ≡ refusal_in (call_shows x place pending o)
exception_shown Call.Reset place (p ∷ ps) None = refl
exception_shown Call.Close place (p ∷ ps) None = refl
exception_shown x place pending None = refl
exception_shown Call.Flush place pending (Some error) = refl
exception_shown x place pending (Some error) = refl

-- what the last entry of a history shows
shown_last : (o : Opening) (h : List Entry) (e : Entry) (s : State) → replay o h ≡ Some s → slice_get (each_shown o (h ++ e ∷ [])) (length h) ≡ Some (shown_at e s)
shown_last o h e s r =
    (λ i. slice_get (each_more o h e s r i) (sym (each_length o h s r) i)) ∙ get_end (each_shown o h) (shown_at e s)

-- the exception that a call at the end of a history shows
exception_last : (o : Opening) (h : List Entry) (who : Who) (x : Call) (s : State) → replay o h ≡ Some s → exception_of x (call_error x s.control) ≡ exception_at o (h ++ Entry.Call who x ∷ []) (length h)
exception_last o h who x s r =
    exception_shown x s.control.place s.control.pending (call_error x s.control)
    ∙ sym (ap (λ (y : Option Shown). option_and_then (λ z. refusal_in z.events) y) (shown_last o h (Entry.Call who x) s r))

module _ {S : Type 0} where
  -- One entry more of a codec's history that the seats have seen: where it stands, and what it shows.
  pub record Stands (who : Who) (codec place : ℕ) (x : Call) (error : Option DomError) (xs : List Shared) (us vs : List (Seat (Option S) (View Event))) : Type 0 where
    pub partner : Shared
    pub partner_is : slice_get xs codec ≡ Some partner
    pub stands : slice_get (at codec (histories_in vs)) place ≡ Some (Entry.Call who x)
    pub shows : error ≡ exception_at partner.opening (at codec (histories_in vs)) place
    pub low : length (at codec (histories_in us)) ≤ place
    pub high : suc place ≤ length (at codec (histories_in vs))

  pub stood : (who : Who) (codec : ℕ) (x : Call) (r : ReplyValue) (xs : List Shared) (us vs : List (Seat (Option S) (View Event))) → OneAt codec (λ s u v. RepliedIn s who x r u v) xs us vs → Stands who codec r.place x r.exception xs us vs
  stood who codec x r xs us vs one =
      let s = one.partner in
      let u = one.before in
      let v = one.after in
      let told = one.so in
      let made = told.gave.made in
      let h : List Entry = history_of made.passes.log in
      let st : State = state_in s made.passes.log in
      let legal = legal_log s.codec s.opening made.passes.log made.before in
      let now : at codec (histories_in vs) ≡ h ++ Entry.Call who x ∷ [] =
      ap (λ (l : List (Seat (Option S) (View Event))). at codec (histories_in l)) one.after_is ∙ (history_set codec us u v one.before_is ∙ made_history s (Entry.Call who x) [] u v made) in
      let place : r.place ≡ length h = told.gave.is_place in
      let error : r.exception ≡ exception_of x (call_error x st.control) = sym told.exception in
      let grown = found_after (Made made.event) u v made.passes in
      let was : length (at codec (histories_in us)) ≡ length (history_of u.me.0.log) = ap length (history_at codec us u one.before_is) in
      let long : length h ≡ length (history_of u.me.0.log ++ grown.0) = ap length grown.1 in
      let both = length-append (history_of u.me.0.log) grown.0 in
      let all : length (at codec (histories_in vs)) ≡ length (h ++ Entry.Call who x ∷ []) = ap length now in
      let last = length-append h (Entry.Call who x ∷ []) in
      let one_long : length (Entry.Call who x ∷ []) ≡ 1 = refl in
      record {
        partner = s;
        partner_is = one.partner_is;
        stands = (λ i. slice_get (now i) (place i)) ∙ get_end h (Entry.Call who x);
        shows = error ∙ (exception_last s.opening h who x st legal.replays ∙ (λ i. exception_at s.opening (sym now i) (sym place i)));
        low = omega (arith, place, was, long, both);
        high = omega (arith, place, all, last, one_long);
      }

  pub replied : (who : Who) (codec : ℕ) (x : Call) (answer : Answer) (xs : List Shared) (us vs : List (Seat (Option S) (View Event))) → OneAt codec (λ s u v. AnswerTells s who x (Ok answer) u v) xs us vs → Stands who codec answer.place x answer.exception xs us vs
  replied who codec x answer xs us vs one =
      let r : ReplyValue = one.so.0 in
      let here : OneAt codec (λ s u v. RepliedIn s who x r u v) xs us vs = record {
        partner = one.partner;
        before = one.before;
        after = one.after;
        partner_is = one.partner_is;
        before_is = one.before_is;
        after_is = one.after_is;
        so = one.so.2;
      } in
      subst (λ (z : Answer). Stands who codec z.place x z.exception xs us vs) (sym one.so.1) (stood who codec x r xs us vs here)

module _ {C : Type 0} where
  pub stood_as : (desk : Desk C) (who : Who) (codec : ℕ) (x : Call) (place : ℕ) (error : Option DomError) (a b : Seats C) → Settled desk a b → Calls desk (called codec place who x) a b → Stands who codec place x error desk.codecs.items a.codecs.items b.codecs.items
      → CalledAs desk who codec x a b (result.Call codec place error)
  stood_as desk who codec x place error a b settled calls st =
      let goes : GoOn (histories_in a.codecs.items) (histories_in b.codecs.items) = each_goes_on desk.codecs.items a.codecs.items b.codecs.items settled.seats in
      record {
        place = place;
        error = error;
        is = refl;
        settled = settled;
        calls = calls;
        between = between_on codec (place, suc place) (mark.Call codec place) (histories_in a.codecs.items) (histories_in b.codecs.items) (call_reaches codec place) goes st.low st.high;
        stands = st.stands;
        shows = λ s there. subst (λ (y : Shared). error ≡ exception_at y.opening (at codec (histories_in b.codecs.items)) place) (some_same st.partner s (sym st.partner_is ∙ there)) st.shows;
      }

  pub called_as : (desk : Desk C) (who : Who) (codec : ℕ) (x : Call) (answer : Answer) (a b : Seats C) → Settled desk a b → Calls desk (called codec answer.place who x) a b → OneAt codec (λ s u v. AnswerTells s who x (Ok answer) u v) desk.codecs.items a.codecs.items b.codecs.items
      → CalledAs desk who codec x a b (result.Call codec answer.place answer.exception)
  called_as desk who codec x answer a b settled calls one =
      stood_as desk who codec x answer.place answer.exception a b settled calls (replied who codec x answer desk.codecs.items a.codecs.items b.codecs.items one)
