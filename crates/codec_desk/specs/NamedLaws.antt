-- Laws of the calls that a thread's entries at a desk are.
use Rattle.std.proofs.Common.{ℕ, ◌≡◌, List, [], ◌++◌, Option, ap, sym, subst, ◌∙◌, append-nil, arith}
use Rattle.std.specs.Prelude.{Result}
use Rattle.std.specs.List.{sum_by}
use Rattle.atomic_table.specs.Seated.{TableId}
use Rattle.atomic_table.specs.declared.shared.Seat.{Seat}
use Rattle.wc_base.specs.declared.error.NoMemory.{NoMemory}
use Rattle.wc_base.specs.declared.seat.View.{View}
use Rattle.wc_base.specs.declared.who.Who.{Who}
use Rattle.codec_model.specs.declared.entry.{Call.Call, PromiseState.PromiseState}
use Rattle.codec_accounts.specs.Bags.{SameBag}
use Rattle.codec_accounts.specs.BagsLaws.{weigh_append}
use Rattle.codec_logs.specs.declared.event.Event.{Event}
use Rattle.work_moments.specs.Moments.{Telling}
use Rattle.shared_codec.specs.declared.settling.Answer.{Answer}
use Rattle.shared_codec.specs.Dues.{Called, call_dues}
use Rattle.shared_codec.specs.Looks.{PromiseTells}
use Rattle.shared_codec.specs.Names.{Names, answered_calls}
use Rattle.shared_codec.specs.NameLaws.{saw_names, answer_names, turn_once_names, work_names}
use Rattle.shared_codec.specs.Settled.{AnswerTells, TurnOnceTells}
use Rattle.shared_codec.specs.Shared.{Shared}
use Rattle.shared_codec.specs.SumLaws.{dues_add_up}
use Rattle.shared_codec.specs.Sums.{dues_of}
use Rattle.shared_codec.specs.Workers.{WorkTells}
use Rattle.codec_desk.specs.declared.desk.Desk.{Desk}
use Rattle.codec_desk.specs.declared.desk.Seats.{Seats}
use Rattle.codec_desk.specs.Desks.{SitsAt}
use Rattle.codec_desk.specs.Each.{Pairs, OneAt}
use Rattle.codec_desk.specs.EachLaws.{pairs_get, total_one}
use Rattle.codec_desk.specs.Named.{calls_made, Calls}

-- calls that were made, and then more
pub named_more : (u v w xs ys : List Called) → SameBag v (u ++ xs) → SameBag w (v ++ ys) → SameBag w (u ++ (xs ++ ys))
named_more u v w xs ys x y t =
    let a = x t in
    let b = y t in
    let c = weigh_append t v ys in
    let d = weigh_append t u xs in
    let e = weigh_append t u (xs ++ ys) in
    let f = weigh_append t xs ys in
    omega (arith, a, b, c, d, e, f)

module _ {S : Type 0} where
  -- what a step at one codec of a desk names
  pub named_one : (calls : List Called) (P : Shared → Seat (Option S) (View Event) → Seat (Option S) (View Event) → Type 0) → ((s : Shared) (a b : Seat (Option S) (View Event)) → P s a b → Names s calls a.me.0 b.me.0)
      → (place : ℕ) (xs : List Shared) (us vs : List (Seat (Option S) (View Event))) → OneAt place P xs us vs → SameBag (calls_made xs vs) (calls_made xs us ++ calls)
  named_one calls P step place xs us vs one t =
      let s : Shared = one.partner in
      let grow = (dues_add_up call_dues).grow s.codec s.opening one.before.me.0 one.after.me.0 calls (step s one.before one.after one.so) in
      ap (λ (l : List (Seat (Option S) (View Event))). sum_by t (calls_made xs l)) one.after_is
      ∙ total_one (λ (s : Shared) (a : Seat (Option S) (View Event)). dues_of call_dues s.codec s.opening a.me.0) place xs us s one.before one.after calls one.partner_is one.before_is (λ w. ap (sum_by w) grow) t

  -- ---- steps at one codec

  -- an item, a turn and a look are no calls of callers
  pub worked_calls : (place : ℕ) (result : Option ℕ) (old now : Telling) (xs : List Shared) (us vs : List (Seat (Option S) (View Event))) → OneAt place (λ s u v. WorkTells s result old now u v) xs us vs → SameBag (calls_made xs vs) (calls_made xs us ++ [])
  worked_calls place result old now xs us vs one =
      named_one [] (λ s u v. WorkTells s result old now u v) (λ s u v told. work_names s result old now u v told) place xs us vs one

  pub turned_calls : (place : ℕ) (result : Option ℕ) (xs : List Shared) (us vs : List (Seat (Option S) (View Event))) → OneAt place (λ s u v. TurnOnceTells s result u v) xs us vs → SameBag (calls_made xs vs) (calls_made xs us ++ [])
  turned_calls place result xs us vs one =
      named_one [] (λ s u v. TurnOnceTells s result u v) (λ s u v told. turn_once_names s result u v told) place xs us vs one

  pub looked_calls : (place promise : ℕ) (seen : ℕ × PromiseState) (xs : List Shared) (us vs : List (Seat (Option S) (View Event))) → OneAt place (λ s u v. PromiseTells s promise seen u v) xs us vs → SameBag (calls_made xs vs) (calls_made xs us ++ [])
  looked_calls place promise seen xs us vs one =
      named_one [] (λ s u v. PromiseTells s promise seen u v) (λ s u v told. saw_names s _ u v told) place xs us vs one

  -- a call of a caller is that call, at the codec of this place
  pub answered_at : (pool slots : TableId) (place : ℕ) (who : Who) (x : Call) (result : Result Answer NoMemory) (xs : List Shared) (us vs : List (Seat (Option S) (View Event))) → Pairs (SitsAt pool slots) 0 xs us → OneAt place (λ s u v. AnswerTells s who x result u v) xs us vs → SameBag (calls_made xs vs) (calls_made xs us ++ answered_calls place who x result)
  answered_at pool slots place who x result xs us vs at one =
      let number : one.partner.codec ≡ place = (pairs_get (SitsAt pool slots) 0 place place xs us one.partner one.before at (omega arith) one.partner_is one.before_is).number in
      let here : OneAt place (λ s u v. Names s (answered_calls place who x result) u.me.0 v.me.0) xs us vs =
      record {
        partner = one.partner;
        before = one.before;
        after = one.after;
        partner_is = one.partner_is;
        before_is = one.before_is;
        after_is = one.after_is;
        so = subst (λ (n : ℕ). Names one.partner (answered_calls n who x result) one.before.me.0 one.after.me.0) number (answer_names one.partner who x result one.before one.after one.so);
      } in
      named_one (answered_calls place who x result) (λ s u v. Names s (answered_calls place who x result) u.me.0 v.me.0) (λ s u v names. names) place xs us vs here

module _ {C : Type 0} where
  pub calls_none : (desk : Desk C) (a : Seats C) → Calls desk [] a a
  calls_none desk a t = ap (sum_by t) (sym (append-nil (calls_made desk.codecs.items a.codecs.items)))

  -- calls that were made, and then more
  pub calls_then : (desk : Desk C) (a b c : Seats C) (xs ys : List Called) → Calls desk xs a b → Calls desk ys b c → Calls desk (xs ++ ys) a c
  calls_then desk a b c xs ys x y =
      named_more (calls_made desk.codecs.items a.codecs.items) (calls_made desk.codecs.items b.codecs.items) (calls_made desk.codecs.items c.codecs.items) xs ys x y
