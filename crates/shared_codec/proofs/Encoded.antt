-- What the locked value stands for after an encode.
use Rattle.std.proofs.Common.{ℕ, ◌≡◌, ◌<◌, true, List, [], ◌∷◌, ◌++◌, length, map, Bool, Option, Some, ap, sym, subst, ◌∙◌, inr, append-nil, refl}
use Rattle.std.specs.Prelude.{Result, Ok, Err, OnOk, OnErr}
use Rattle.std.specs.Result.{is_ok}
use Rattle.atomic_table.specs.Seated.{TableId}
use Rattle.atomic_table.specs.declared.shared.Seat.{Seat}
use Rattle.wc_base.specs.declared.error.NoMemory.{NoMemory}
use Rattle.wc_base.specs.declared.who.By.TheVariants as by
use Rattle.wc_base.specs.declared.who.Who.{Who}
use Rattle.wc_base.specs.Views.{Log}
use Rattle.wc_base.specs.declared.seat.Passage.{Passage}
use Rattle.wc_base.specs.declared.seat.View.{View}
use Rattle.wc_pool.specs.declared.entry.{PoolEntry.PoolEntry, PoolOp.PoolOp}
use Rattle.wc_pool.specs.declared.reference.MediaRef.{MediaRef}
use Rattle.wc_pool.specs.Pools.{cloned_by, ended_by}
use Rattle.codec_model.specs.declared.entry.{Opening.Opening, Entry.Entry, Call.Call, Handed.Handed, HeldMedium.HeldMedium, Pair.Pair}
use Rattle.codec_model.specs.Held.{adds_held}
use Rattle.codec_model.specs.Replay.{State, is_configured}
use Rattle.codec_accounts.specs.Boxes.{act_of, lets_go_by}
use Rattle.codec_media.specs.Holding.{Holding, ReplyValue}
use Rattle.codec_core.specs.Codec.{state_at}
use Rattle.seat_lock.specs.Passages.{Passes}
use Rattle.seat_lock.specs.Since.{MadeSince}
use Rattle.seat_lock.specs.SinceLaws.{made_none, made_then}
use Rattle.codec_logs.specs.declared.event.Acquires.{Acquires}
use Rattle.codec_logs.specs.declared.event.Event.{Event}
use Rattle.codec_logs.specs.Logs.{Track, acquires_of, box_of, track}
use Rattle.shared_codec.specs.Calls.{RepliedIn}
use Rattle.shared_codec.specs.Dues.{give_by, slot_dues, media_dues, clones_at, ends_at, DoFor}
use Rattle.shared_codec.specs.Owes.{Owes}
use Rattle.shared_codec.specs.Settles.{SettlesInPool}
use Rattle.shared_codec.specs.Shared.{Shared, no_mint, no_spend, StandsFor, PassageIs}
use Rattle.shared_codec.specs.Encodes.{Hands, NoneKept, EncodeTells}
use Rattle.shared_codec.specs.Gives.{EncodeGives}
use Rattle.shared_codec.proofs.Stands.{StandsAt, looked_in}
use Rattle.shared_codec.proofs.Gave.{more_than, call_gives, stands_gave, stands_same, replied_in, full_at}
use Rattle.shared_codec.proofs.Owing.{made_owes, look_owes}

pub encode_some : (k : ℕ) (pool : TableId) (old new : Holding) (who : Who) (lends : HeldMedium → MediaRef → Type 0) (result : Result ReplyValue NoMemory) (v w : View PoolEntry) → EncodeGives k pool old new who lends result v w → is_ok result ≡ true → 0 < length new.codec.history
encode_some k pool old new who lends (Ok r) v w gives made = more_than old.codec new.codec (Entry.Call who (Call.Encode gives.given)) gives.calls.replied.made
encode_some k pool old new who lends (Err e) v w gives made = absurd cc

-- a clone that was made and not kept was ended
pub not_kept : (k : ℕ) (pool : TableId) (old new : Holding) (who : Who) (lends : HeldMedium → MediaRef → Type 0) (q r : MediaRef) (at : ℕ) (last : Bool) (e : NoMemory) (u v w : View PoolEntry) → is_configured (state_at old.codec).control ≡ true → at ≡ length old.codec.history → new ≡ old → Some r ≡ Some q
    → MadeSince u v (cloned_by (by.Codec k at) q ∷ []) → MadeSince v w (ended_by (by.Codec k at) r last ∷ []) → EncodeGives k pool old new who lends (Err e) u w
not_kept k pool old new who lends q r at last e u v w accepted is same back cloned ended =
    let is_q : r ≡ q = cc in
    let both : MadeSince u w (cloned_by (by.Codec k at) q ∷ ended_by (by.Codec k at) q last ∷ []) = made_then u v w (cloned_by (by.Codec k at) q ∷ []) (ended_by (by.Codec k at) q last ∷ []) cloned (subst (λ (z : MediaRef). MadeSince v w (ended_by (by.Codec k at) z last ∷ [])) is_q ended) in
    let none : NoneKept k at u w = inr (q, last, both) in
    (same, subst (λ (n : ℕ). NoneKept k n u w) is none, λ idle. absurd (let bad = sym idle ∙ accepted in cc))

pub stands_encode : (k : ℕ) (o : Opening) (calls : ℕ) (pool slots : TableId) (n : ℕ) (who : Who) (lends : HeldMedium → MediaRef → Type 0) (result : Result ReplyValue NoMemory) (old new : Holding) (v w : View PoolEntry) (log : Log Event) (p : Passage Event) (acq : Acquires) → acquires_of acq ≡ [] → EncodeGives k pool old new who lends result v w
    → PassageIs (is_ok result) new.codec.history acq p → StandsFor k o calls pool slots old log → StandsFor k o calls pool slots new (log ++ (n, p) ∷ [])
stands_encode k o calls pool slots n who lends (Ok r) old new v w log p acq none gives is st =
    stands_gave k o calls pool slots n old new (Entry.Call who (Call.Encode gives.given)) r.place r.media r.coder gives.brought log p acq none (call_gives old new who (Call.Encode gives.given) r gives.brought gives.calls) gives.of is st
stands_encode k o calls pool slots n who lends (Err e) old new v w log p acq none gives is st = stands_same k o calls pool slots n old new log p gives.0 is st

module _ {S : Type 0} (s : Shared) where
  pub tells_encode : (who : Who) (lends : HeldMedium → MediaRef → Type 0) (result : Result ReplyValue NoMemory) (old new : Holding) (v w : View PoolEntry) (p : Passage Event) (acq : Acquires) (a c : Seat (Option S) (View Event)) (passes : Passes no_mint no_spend p a c) → acquires_of acq ≡ [] → EncodeGives s.codec s.pool old new who lends result v w
      → PassageIs (is_ok result) new.codec.history acq p → StandsAt s old passes.log → StandsAt s new (passes.log ++ (a.me.0.number, p) ∷ []) → EncodeTells s who lends result a c v w
  tells_encode who lends (Ok r) old new v w p acq a c passes none gives is st next = record {
    given = gives.given;
    replied = replied_in s who (Call.Encode gives.given) r gives.brought old new p acq a c passes none gives.calls is st next;
    hands = gives.hands;
  }
  tells_encode who lends (Err e) old new v w p acq a c passes none gives is st next = record {
    looked = looked_in s p a c passes is st.legal;
    none = subst (λ (h : List Entry). NoneKept s.codec (length h) v w) st.history gives.1;
    full = λ idle. full_at s old passes.log st (gives.2 (ap (λ (t : State). is_configured t.control) st.state ∙ idle));
  }

  -- what an encode that was made calls for, which was done
  encoded_settles : (who : Who) (lends : HeldMedium → MediaRef → Type 0) (r : ReplyValue) (given : Handed) (a c : Seat (Option S) (View Event)) (v w : View PoolEntry) → RepliedIn s who (Call.Encode given) r a c → Hands s.codec r.place lends given v w → SettlesInPool s a.me.0 c.me.0 v w
  encoded_settles who lends r given a c v w replied hands = λ u.
      let e : Entry = Entry.Call who (Call.Encode given) in
      let m = replied.gave.made in
      let x : Track = track s.opening m.passes.log in
      let none : slot_dues s.codec m.event x ≡ [] = (λ i. m.acquires_are i ++ map (give_by s.codec x.holds.place) (lets_go_by (act_of (m.entry_is i) x.state) (box_of (m.acquires_are i)) x.holds)) in
      let clones : media_dues s.codec m.event x ≡ clones_at r.place (adds_held e) = replied.gave.ends ∙ (ap (λ (l : List Pair). clones_at r.place (adds_held e) ++ ends_at r.place l) replied.gave.pairs ∙ append-nil (clones_at r.place (adds_held e))) in
      let done = made given hands in
      record {
        entries = [];
        calls = clones_at r.place (adds_held e);
        ends = [];
        owes = made_owes s e [] [] (clones_at r.place (adds_held e)) [] a c m none clones refl;
        made = made_none u;
        own = tt;
        does = done.0;
        pool = done.1;
        are = done.2;
        told = tt;
      }
    where
      made : (given : Handed) → Hands s.codec r.place lends given v w → (es : List PoolEntry) × MadeSince v w es × DoFor s.codec (clones_at r.place (adds_held (Entry.Call who (Call.Encode given)))) es
      made (Handed.Cloned held) h = (cloned_by (by.Codec s.codec r.place) h.0 ∷ [], h.3, (ap (λ (z : Pair). record { by = by.Codec s.codec r.place; op = PoolOp.Clone z.resource z.reference }) (sym h.2), tt))
      made Handed.Kept h = ([], h, tt)
      made Handed.Gone h = absurd h

  pub encode_settles : (who : Who) (lends : HeldMedium → MediaRef → Type 0) (result : Result ReplyValue NoMemory) (a c : Seat (Option S) (View Event)) (v w : View PoolEntry) → EncodeTells s who lends result a c v w → OnOk result (SettlesInPool s a.me.0 c.me.0 v w)
  encode_settles who lends (Ok r) a c v w told = encoded_settles who lends r told.given a c v w told.replied told.hands
  encode_settles who lends (Err e) a c v w told = tt

  pub wanted_owes : (who : Who) (lends : HeldMedium → MediaRef → Type 0) (result : Result ReplyValue NoMemory) (a c : Seat (Option S) (View Event)) (v w : View PoolEntry) → EncodeTells s who lends result a c v w → OnErr result (Owes s [] [] [] a.me.0 c.me.0)
  wanted_owes who lends (Ok r) a c v w told = tt
  wanted_owes who lends (Err e) a c v w told = look_owes s a c told.looked
