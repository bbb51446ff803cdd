-- What looks at codecs of a desk saw.
use Rattle.std.proofs.Common.{ℕ, ◌≡◌, ◌≤◌, List, ◌∷◌, ◌++◌, length, take, Option, Some, None, refl, ap, sym, subst, ◌∙◌, arith, length-append, append_assoc}
use Rattle.std.specs.Prelude.{slice_get, unwrap_or}
use Rattle.std.proofs.Math.Seq.{take-length}
use Rattle.atomic_table.specs.declared.shared.Seat.{Seat}
use Rattle.wc_base.specs.Options.{some_same}
use Rattle.wc_base.specs.Views.{Log}
use Rattle.wc_base.specs.declared.seat.Passage.TheVariants.{Look}
use Rattle.wc_base.specs.declared.seat.View.{View}
use Rattle.codec_model.specs.declared.entry.{Entry.Entry, CodecState.CodecState, PromiseState.PromiseState}
use Rattle.codec_model.specs.declared.entry.PromiseState.TheVariants as promise
use Rattle.codec_model.specs.Replay.{State, opening_state}
use Rattle.codec_accounts.specs.Calls as mark
use Rattle.codec_accounts.specs.Calls.{reach}
use Rattle.codec_accounts.specs.CallsLaws.{MayClimb}
use Rattle.codec_accounts.specs.Codec.{state_after}
use Rattle.codec_accounts.specs.Owed.{at}
use Rattle.codec_logs.specs.declared.event.Event.{Event}
use Rattle.codec_logs.specs.Logs.{history_of, track, IsLog}
use Rattle.codec_logs.specs.LogLaws.{legal_log}
use Rattle.shared_codec.specs.Looks.{Saw, LookTells, PromiseTells}
use Rattle.shared_codec.specs.Shared.{Shared, state_in}
use Rattle.codec_desk.specs.declared.desk.Desk.{Desk}
use Rattle.codec_desk.specs.declared.desk.Seats.{Seats}
use Rattle.codec_desk.specs.Desks.{SeesMore}
use Rattle.codec_desk.specs.Each.{Each, OneAt, IsAt}
use Rattle.codec_desk.specs.Rests.{Looked}
use Rattle.flush_promise.specs.declared.promise.FlushEnd.{FlushEnd}
use Rattle.flush_promise.specs.declared.promise.FlushEnd.TheVariants.{Resolved, Rejected}
use Rattle.flush_promise.specs.Ends.{ended_state}
use Rattle.flush_promise.specs.Promises.{EndsAs}
use Rattle.report_text.specs.declared.result.StepResult.{StepResult}
use Rattle.report_text.specs.declared.result.StepResult.TheVariants as result
use Rattle.run_model.specs.Recorded.{promise_after}
use Rattle.run_model.specs.Fits.{mark_of}
use Rattle.desk_callers.specs.Deeds.{HasEnded}
use Rattle.desk_callers.specs.Acts.{histories_in, StateIs, SawState, SawPromise}
use Rattle.desk_callers.proofs.Histories.{found_after, looked_history, history_at, history_both, history_set, each_goes_on, go_longer, look_reaches, between_on}
use Rattle.desk_callers.proofs.Promises.{ended_stays}

-- the state by a legal log is that after its history
pub state_known : (s : Shared) (log : Log Event) → IsLog s.codec s.opening log → state_after s.opening (history_of log) ≡ state_in s log
state_known s log legal = ap (λ (o : Option State). unwrap_or o (opening_state s.opening)) (legal_log s.codec s.opening log legal).replays

module _ {S : Type 0} where
  -- A look at this codec: the history that its seat has seen since is of this log, of which this is so.
  pub record Found (P : Shared → Log Event → Type 0) (codec : ℕ) (xs : List Shared) (us vs : List (Seat (Option S) (View Event))) : Type 0 where
    pub partner : Shared
    pub partner_is : slice_get xs codec ≡ Some partner
    pub log : Log Event
    pub legal : IsLog partner.codec partner.opening log
    pub so : P partner log
    pub now : at codec (histories_in vs) ≡ history_of log
    pub long : length (at codec (histories_in us)) ≤ length (history_of log)

  pub found : (P : Shared → Log Event → Type 0) (codec : ℕ) (xs : List Shared) (us vs : List (Seat (Option S) (View Event))) → OneAt codec (λ s u v. Saw s (P s) u v) xs us vs → Found P codec xs us vs
  found P codec xs us vs one =
      let s = one.partner in
      let u = one.before in
      let v = one.after in
      let looked = one.so.looked in
      let log : Log Event = looked.passes.log in
      let grown = found_after Look u v looked.passes in
      let was : at codec (histories_in us) ≡ history_of u.me.0.log = history_at codec us u one.before_is in
      let long : length (history_of log) ≡ length (history_of u.me.0.log ++ grown.0) = ap length grown.1 in
      let both = length-append (history_of u.me.0.log) grown.0 in
      let before : length (at codec (histories_in us)) ≡ length (history_of u.me.0.log) = ap length was in
      record {
        partner = s;
        partner_is = one.partner_is;
        log = log;
        legal = looked.legal;
        so = one.so.is;
        now = ap (λ (l : List (Seat (Option S) (View Event))). at codec (histories_in l)) one.after_is ∙ (history_set codec us u v one.before_is ∙ looked_history s u v looked);
        long = omega (arith, long, both, before);
      }

-- by this log a look tells this
abbrev pub LookIs : ℕ × CodecState × ℕ → Shared → Log Event → Type 0
LookIs seen s log = (seen.0 ≡ length (history_of log)) × (seen.1 ≡ (state_in s log).control.phase) × (seen.2 ≡ (state_in s log).control.size)

abbrev pub EndIs : ℕ → ℕ × PromiseState → Shared → Log Event → Type 0
EndIs place seen s log = (seen.0 ≡ length (history_of log)) × (seen.1 ≡ promise_after s.opening (history_of log) place)

pub not_pending : (end : FlushEnd) → ended_state end ≡ promise.Pending → ⊥
not_pending Resolved is = cc
not_pending (Rejected error) is = cc

-- what is between two ends is between an earlier one and the later
pub earlier : (o : Option (ℕ × ℕ)) (y low high : ℕ) → y ≤ low → MayClimb o low high → MayClimb o y high
earlier None y low high le up = omega (arith, le, up)
earlier (Some m) y low high le between = (omega (arith, le, between.0), between.1)

pub has_ended : (codec n : ℕ) (end : FlushEnd) → HasEnded (result.Look codec n (ended_state end))
has_ended codec n Resolved = tt
has_ended codec n (Rejected error) = tt

module _ {C : Type 0} where
  pub saw_state : (desk : Desk C) (codec : ℕ) (seen : ℕ × CodecState × ℕ) (a b : Seats C) → OneAt codec (λ s u v. LookTells s seen u v) desk.codecs.items a.codecs.items b.codecs.items → Each SeesMore desk.codecs.items a.codecs.items b.codecs.items → SawState desk codec (result.State codec seen.0 seen.1 seen.2) a b
  saw_state desk codec seen a b one more =
      let f = found (LookIs seen) codec desk.codecs.items a.codecs.items b.codecs.items one in
      let h : List Entry = history_of f.log in
      let n : seen.0 ≡ length h = f.so.0 in
      let now : length (at codec (histories_in b.codecs.items)) ≡ length h = ap length f.now in
      let long = f.long in
      let all : take seen.0 (at codec (histories_in b.codecs.items)) ≡ h = (λ i. take (n i) (f.now i)) ∙ take-length h in
      let known = state_known f.partner f.log f.legal in
      let is : StateIs f.partner.opening (take seen.0 (at codec (histories_in b.codecs.items))) seen.1 seen.2 =
      subst (λ (l : List Entry). StateIs f.partner.opening l seen.1 seen.2) (sym all)
      (subst (λ (t : State). (seen.1 ≡ t.control.phase) × (seen.2 ≡ t.control.size)) (sym known) (f.so.1, f.so.2)) in
      record {
        seen = seen.0;
        state = seen.1;
        size = seen.2;
        is = refl;
        between = between_on codec (seen.0, seen.0) (mark.Look codec seen.0) (histories_in a.codecs.items) (histories_in b.codecs.items) (look_reaches codec seen.0)
            (each_goes_on desk.codecs.items a.codecs.items b.codecs.items more) (omega (arith, long, n)) (omega (arith, now, n));
        shows = λ x there. subst (λ (y : Shared). StateIs y.opening (take seen.0 (at codec (histories_in b.codecs.items))) seen.1 seen.2) (some_same f.partner x (sym f.partner_is ∙ there)) is;
      }

  pub saw_promise : (desk : Desk C) (codec place : ℕ) (seen : ℕ × PromiseState) (a b : Seats C) → OneAt codec (λ s u v. PromiseTells s place seen u v) desk.codecs.items a.codecs.items b.codecs.items → Each SeesMore desk.codecs.items a.codecs.items b.codecs.items → SawPromise desk codec place (result.Look codec seen.0 seen.1) a b
  saw_promise desk codec place seen a b one more =
      let f = found (EndIs place seen) codec desk.codecs.items a.codecs.items b.codecs.items one in
      let h : List Entry = history_of f.log in
      let n : seen.0 ≡ length h = f.so.0 in
      let now : length (at codec (histories_in b.codecs.items)) ≡ length h = ap length f.now in
      let long = f.long in
      let all : take seen.0 (at codec (histories_in b.codecs.items)) ≡ h = (λ i. take (n i) (f.now i)) ∙ take-length h in
      record {
        seen = seen.0;
        end = seen.1;
        is = refl;
        between = between_on codec (seen.0, seen.0) (mark.Look codec seen.0) (histories_in a.codecs.items) (histories_in b.codecs.items) (look_reaches codec seen.0)
            (each_goes_on desk.codecs.items a.codecs.items b.codecs.items more) (omega (arith, long, n)) (omega (arith, now, n));
        shows = λ x there. f.so.1 ∙ sym (λ i. promise_after (some_same x f.partner (sym there ∙ f.partner_is) i).opening (all i) place);
      }

  -- The same from before other steps.
  pub saw_since : (desk : Desk C) (codec place : ℕ) (r : StepResult) (z a b : Seats C) → Each SeesMore desk.codecs.items z.codecs.items a.codecs.items → SawPromise desk codec place r a b → SawPromise desk codec place r z b
  saw_since desk codec place r z a b first saw = record {
    seen = saw.seen;
    end = saw.end;
    is = saw.is;
    between = λ k. earlier (reach k (mark_of r)) (length (at k (histories_in z.codecs.items))) (length (at k (histories_in a.codecs.items))) (length (at k (histories_in b.codecs.items)))
        (go_longer (histories_in z.codecs.items) (histories_in a.codecs.items) (each_goes_on desk.codecs.items z.codecs.items a.codecs.items first) k) (saw.between k);
    shows = saw.shows;
  }

  -- what was seen to have ended has ended at a later look
  pub saw_ended : (desk : Desk C) (codec place : ℕ) (seen : ℕ × PromiseState) (end : FlushEnd) (z a b : Seats C) → IsAt codec (Looked (EndsAs place end)) desk.codecs.items z.codecs.items a.codecs.items
      → OneAt codec (λ s u v. PromiseTells s place seen u v) desk.codecs.items a.codecs.items b.codecs.items → Each SeesMore desk.codecs.items a.codecs.items b.codecs.items → seen.1 ≡ ended_state end
  saw_ended desk codec place seen end z a b wait look more =
      let f = found (EndIs place seen) codec desk.codecs.items a.codecs.items b.codecs.items look in
      let x = wait.so in
      let s : Shared = wait.partner in
      let log : Log Event = wait.before.me.0.log ++ x.before in
      let rest : Log Event = (wait.before.me.0.number, Look) ∷ x.after in
      let m = each_goes_on desk.codecs.items a.codecs.items b.codecs.items more codec in
      let begins : at codec (histories_in a.codecs.items) ≡ history_of log ++ history_of rest = history_at codec a.codecs.items wait.after wait.after_is ∙ (ap history_of x.seen ∙ history_both log rest) in
      let whole : history_of f.log ≡ history_of log ++ (history_of rest ++ m.0) =
      sym f.now ∙ (m.1 ∙ (ap (λ (l : List Entry). l ++ m.0) begins ∙ append_assoc (history_of log) (history_of rest) m.0)) in
      let same : f.partner ≡ s = some_same f.partner s (sym f.partner_is ∙ wait.partner_is) in
      f.so.1 ∙ ((λ i. promise_after (same i).opening (whole i) place)
      ∙ ended_stays s.opening (history_of log) (history_of rest ++ m.0) (track s.opening log).state place (ended_state end) (legal_log s.codec s.opening log x.legal).replays (sym x.so) (not_pending end))
