-- That none of a thread's own items is at work stays so, as callers encode and take.
use Rattle.std.proofs.Common.{ℕ, Bool, true, false, List, [], Option, Some, None}
use Rattle.std.specs.Prelude.{Result, Ok, Err}
use Rattle.atomic_table.specs.declared.shared.Seat.{Seat}
use Rattle.wc_base.specs.declared.error.NoMemory.{NoMemory}
use Rattle.wc_base.specs.declared.seat.View.{View}
use Rattle.wc_base.specs.declared.who.Who.{Who}
use Rattle.wc_pool.specs.declared.entry.PoolEntry.{PoolEntry}
use Rattle.wc_pool.specs.declared.reference.MediaRef.{MediaRef}
use Rattle.codec_model.specs.declared.entry.{Entry.Entry, Call.Call, HeldMedium.HeldMedium}
use Rattle.codec_model.specs.Held.{is_removal}
use Rattle.codec_accounts.specs.Boxes.{removal_act}
use Rattle.codec_media.specs.Holding.{ReplyValue}
use Rattle.codec_logs.specs.declared.event.Event.{Event}
use Rattle.codec_logs.specs.Logs.{runner_by, track}
use Rattle.shared_codec.specs.Calls.{RepliedIn}
use Rattle.shared_codec.specs.Encodes.{EncodeTells}
use Rattle.shared_codec.specs.Shared.{Shared, state_in}
use Rattle.shared_codec.specs.Takes.{TakeTells}
use Rattle.codec_desk.specs.Runs.{IsNoneOf, RunsNone}
use Rattle.codec_desk.specs.RunLaws.{none_looked, none_made}

removal_leaves : (b : Bool) (n : ℕ) (r : Option ℕ) (numbers : List ℕ) → IsNoneOf r numbers → IsNoneOf (runner_by (removal_act b) n r) numbers
removal_leaves true n r numbers none = none
removal_leaves false n r numbers none = none

module _ {S : Type 0} where
  none_replied : (s : Shared) (who : Who) (x : Call) (r : ReplyValue) (a b : Seat (Option S) (View Event)) → RepliedIn s who x r a b → RunsNone s a → RunsNone s b
  none_replied s who x r a b told none =
      let m = told.gave.made in
      none_made s (Entry.Call who x) [] a b m (λ h. removal_leaves (is_removal (Entry.Call who x) (state_in s m.passes.log)) a.me.0.number (track s.opening m.passes.log).runner a.me.0.numbers h) none

  pub none_took : (s : Shared) (who : Who) (number : ℕ) (result : Result (Option ℕ) NoMemory) (a b : Seat (Option S) (View Event)) → TakeTells s who number result a b → RunsNone s a → RunsNone s b
  none_took s who number (Ok (Some place)) a b told none = none_replied s who (Call.Take number) _ a b told none
  none_took s who number (Ok None) a b told none = none_looked s a b told.looked none
  none_took s who number (Err e) a b told none = none_looked s a b told.looked none

  pub none_encoded : (s : Shared) (who : Who) (lends : HeldMedium → MediaRef → Type 0) (result : Result ReplyValue NoMemory) (a b : Seat (Option S) (View Event)) (v w : View PoolEntry) → EncodeTells s who lends result a b v w → RunsNone s a → RunsNone s b
  none_encoded s who lends (Ok r) a b v w told none = none_replied s who (Call.Encode told.given) r a b told.replied none
  none_encoded s who lends (Err e) a b v w told none = none_looked s a b told.looked none
