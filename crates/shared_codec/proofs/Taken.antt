-- What the locked value stands for after a take, or after any call that brings nothing.
use Rattle.std.proofs.Common.{ℕ, ◌≡◌, ◌<◌, true, List, [], ◌∷◌, ◌++◌, length, Option, Some, None, refl, ap, sym, subst, ◌∙◌}
use Rattle.std.specs.Prelude.{Result, Ok, Err, IfOk}
use Rattle.std.specs.Result.{is_ok}
use Rattle.atomic_table.specs.Seated.{TableId}
use Rattle.atomic_table.specs.declared.shared.Seat.{Seat}
use Rattle.wc_base.specs.declared.error.NoMemory.{NoMemory}
use Rattle.wc_base.specs.declared.who.Who.{Who}
use Rattle.wc_base.specs.Views.{Log}
use Rattle.wc_base.specs.declared.seat.Passage.{Passage}
use Rattle.wc_base.specs.declared.seat.View.{View}
use Rattle.codec_model.specs.declared.entry.{Opening.Opening, Entry.Entry, Call.Call, Handed.Handed}
use Rattle.codec_model.specs.Control.{opening_control, may_take}
use Rattle.codec_model.specs.Held.{adds_held}
use Rattle.codec_model.specs.Replay.{State}
use Rattle.codec_media.specs.Holding.{Holding, ReplyValue}
use Rattle.seat_lock.specs.Passages.{Passes}
use Rattle.codec_logs.specs.declared.event.Acquires.{Acquires}
use Rattle.codec_logs.specs.declared.event.Event.{Event}
use Rattle.codec_core.specs.Codec.{Codec, state_at}
use Rattle.codec_logs.specs.Logs.{acquires_of, history_of}
use Rattle.shared_codec.specs.declared.takes.NextOutput.{NextOutput}
use Rattle.shared_codec.specs.Shared.{Shared, no_mint, no_spend, StandsFor, PassageIs, state_in}
use Rattle.shared_codec.specs.Calls.{MayAlways}
use Rattle.shared_codec.specs.Gives.{Calls, CallGives, TakeGives, taken_at}
use Rattle.shared_codec.specs.Takes.{NextIs, TakeTells, took}
use Rattle.shared_codec.proofs.Stands.{StandsAt, looked_in}
use Rattle.shared_codec.proofs.Gave.{more_than, call_gives, stands_gave, stands_same, replied_in, full_at}

-- a call that can be made in each state brings no reference
pub brings_none : (o : Opening) (who : Who) (x : Call) → MayAlways x → adds_held (Entry.Call who x) ≡ []
brings_none o who (Call.Configure config) may = refl
brings_none o who (Call.Decode chunk) may = refl
brings_none o who (Call.Encode Handed.Gone) may = refl
brings_none o who (Call.Encode Handed.Kept) may = refl
brings_none o who (Call.Encode (Handed.Cloned held)) may = absurd (let bad = may (opening_control o) in cc)
brings_none o who Call.Flush may = refl
brings_none o who Call.Reset may = refl
brings_none o who Call.Close may = refl
brings_none o who (Call.Take unit) may = refl
brings_none o who (Call.Ground to) may = refl

-- what a take hands back
pub taken_as : (old new : Holding) (who : Who) (number : ℕ) (r : ReplyValue) → Calls old new who (Call.Take number) r [] → Calls old new who (Call.Take number) (taken_at r.place) []
taken_as old new who number r g =
    let same : r ≡ taken_at r.place = (λ i. record { place = r.place; exception = sym g.replied.exception i; promise = sym g.replied.promise i; media = g.gone i; coder = g.replied.coder i }) in
    subst (λ (z : ReplyValue). Calls old new who (Call.Take number) z []) same g

pub take_some : (old new : Holding) (who : Who) (number : ℕ) (result : Result (Option ℕ) NoMemory) → TakeGives old new who number result → took result ≡ true → 0 < length new.codec.history
take_some old new who number (Ok (Some place)) g made = more_than old.codec new.codec (Entry.Call who (Call.Take number)) g.replied.made
take_some old new who number (Ok None) g made = absurd cc
take_some old new who number (Err e) g made = absurd cc

pub call_some : (old new : Holding) (who : Who) (x : Call) (result : Result ReplyValue NoMemory) → CallGives old new who x result → is_ok result ≡ true → 0 < length new.codec.history
call_some old new who x (Ok r) g made = more_than old.codec new.codec (Entry.Call who x) g.replied.made
call_some old new who x (Err e) g made = absurd cc

pub stands_take : (k : ℕ) (o : Opening) (calls : ℕ) (pool slots : TableId) (n : ℕ) (who : Who) (number : ℕ) (result : Result (Option ℕ) NoMemory) (old new : Holding) (log : Log Event) (p : Passage Event) (acq : Acquires) → acquires_of acq ≡ [] → TakeGives old new who number result
    → PassageIs (took result) new.codec.history acq p → StandsFor k o calls pool slots old log → StandsFor k o calls pool slots new (log ++ (n, p) ∷ [])
stands_take k o calls pool slots n who number (Ok (Some place)) old new log p acq none gives is st =
    stands_gave k o calls pool slots n old new (Entry.Call who (Call.Take number)) place [] None [] log p acq none (call_gives old new who (Call.Take number) (taken_at place) [] gives) tt is st
stands_take k o calls pool slots n who number (Ok None) old new log p acq none gives is st = stands_same k o calls pool slots n old new log p gives.1 is st
stands_take k o calls pool slots n who number (Err e) old new log p acq none gives is st = stands_same k o calls pool slots n old new log p gives.0 is st

-- how many entries were made and the next output, by the log
pub output_at : (s : Shared) (h : Holding) (c : Codec) (log : Log Event) (seen : Result (ℕ × Option NextOutput) NoMemory) → StandsAt s h log → c ≡ h.codec → IfOk seen (λ x. x.0 ≡ length c.history) → IfOk seen (λ x. NextIs c.opening c.history (state_at c).control x.1)
    → IfOk seen (λ x. (x.0 ≡ length (history_of log)) × NextIs s.opening (history_of log) (state_in s log).control x.1)
output_at s h c log (Ok x) st same count next =
    let here : NextIs h.codec.opening h.codec.history (state_at h.codec).control x.1 = subst (λ (d : Codec). NextIs d.opening d.history (state_at d).control x.1) same next in (
      count ∙ (ap (λ (d : Codec). length d.history) same ∙ ap length st.history),
      subst (λ (z : Opening × (List Entry × State)). NextIs z.0 z.1.0 z.1.1.control x.1) (λ i. (st.opening i, (st.history i, st.state i))) here,
    )
output_at s h c log (Err e) st same count next = tt

module _ {S : Type 0} (s : Shared) where
  pub tells_take : (who : Who) (number : ℕ) (result : Result (Option ℕ) NoMemory) (old new : Holding) (p : Passage Event) (acq : Acquires) (a c : Seat (Option S) (View Event)) (passes : Passes no_mint no_spend p a c) → acquires_of acq ≡ [] → TakeGives old new who number result → PassageIs (took result) new.codec.history acq p
      → StandsAt s old passes.log → StandsAt s new (passes.log ++ (a.me.0.number, p) ∷ []) → TakeTells s who number result a c
  tells_take who number (Ok (Some place)) old new p acq a c passes none gives is st next =
      replied_in s who (Call.Take number) (taken_at place) [] old new p acq a c passes none gives is st next
  tells_take who number (Ok None) old new p acq a c passes none gives is st next = record {
    looked = looked_in s p a c passes is st.legal;
    none = ap (λ (t : State). may_take number t.control) (sym st.state) ∙ gives.0;
  }
  tells_take who number (Err e) old new p acq a c passes none gives is st next = record {
    looked = looked_in s p a c passes is st.legal;
    full = λ quiet. full_at s old passes.log st gives.1;
  }
