-- What callers do with no clock ends no item, and reclaims nothing.
use Rattle.std.proofs.Common.{ℕ, List, [], ◌∷◌, Option, Some, None, sym, subst}
use Rattle.std.specs.Prelude.{Result, Ok, Err}
use Rattle.atomic_table.specs.declared.shared.Seat.{Seat}
use Rattle.wc_base.specs.declared.error.NoMemory.{NoMemory}
use Rattle.wc_base.specs.declared.seat.View.{View}
use Rattle.wc_base.specs.declared.who.Who.{Who}
use Rattle.wc_pool.specs.declared.entry.PoolEntry.{PoolEntry}
use Rattle.wc_pool.specs.declared.reference.MediaRef.{MediaRef}
use Rattle.codec_model.specs.declared.entry.{Entry.Entry, Call.Call, HeldMedium.HeldMedium}
use Rattle.codec_logs.specs.declared.event.Event.{Event}
use Rattle.codec_media.specs.Holding.{ReplyValue}
use Rattle.shared_codec.specs.declared.codec.Locked.{Locked}
use Rattle.shared_codec.specs.Encodes.{EncodeTells}
use Rattle.shared_codec.specs.Shared.{Shared, MadeIn, LookedIn}
use Rattle.shared_codec.specs.Takes.{TakeTells}
use Rattle.shared_codec.specs.Tallies.{moment_of}
use Rattle.codec_desk.specs.declared.desk.Desk.{Desk}
use Rattle.codec_desk.specs.declared.desk.Seats.{Seats}
use Rattle.codec_desk.specs.Clocks.{IfAmong, EndsAt}
use Rattle.codec_desk.specs.ClockLaws.{ends_none, ends_one, ends_then}
use Rattle.codec_desk.specs.Desks.{SitsAt, SitAt}
use Rattle.codec_desk.specs.Each.{Each, OneAt}
use Rattle.codec_desk.specs.EachLaws.{each_same, each_then}
use Rattle.codec_desk.specs.StepLaws.{made_one, made_look}

-- ---- at one codec

module _ {S : Type 0} where
  called_ends : (s : Shared) (who : Who) (x : Call) (a b : Seat (Option S) (View Event)) → MadeIn s (Entry.Call who x) [] a b → EndsAt [] s a b
  called_ends s who x a b m = record {
    events = m.event ∷ [];
    made = made_one s (Entry.Call who x) [] a b m;
    at = (subst (λ (e : Entry). IfAmong [] (moment_of e)) (sym m.entry_is) tt, tt);
  }

  pub looked_ends : (s : Shared) (a b : Seat (Option S) (View Event)) → LookedIn s a b → EndsAt [] s a b
  looked_ends s a b x = record { events = []; made = made_look s a b x; at = tt }

  pub took_ends : (who : Who) (number : ℕ) (r : Result (Option ℕ) NoMemory) (s : Shared) (a b : Seat (Option S) (View Event)) → TakeTells s who number r a b → EndsAt [] s a b
  took_ends who number (Ok (Some place)) s a b told = called_ends s who (Call.Take number) a b told.gave.made
  took_ends who number (Ok None) s a b told = looked_ends s a b told.looked
  took_ends who number (Err e) s a b told = looked_ends s a b told.looked

  pub encoded_ends : (who : Who) (lends : HeldMedium → MediaRef → Type 0) (r : Result ReplyValue NoMemory) (v w : View PoolEntry) (s : Shared) (a b : Seat (Option S) (View Event)) → EncodeTells s who lends r a b v w → EndsAt [] s a b
  encoded_ends who lends (Ok r) v w s a b told = called_ends s who (Call.Encode told.given) a b told.replied.gave.made
  encoded_ends who lends (Err e) v w s a b told = looked_ends s a b told.looked

-- ---- at a desk

module _ {C : Type 0} where
  -- a step at one codec
  pub ends_at : (desk : Desk C) (a : Seats C) (vs : List (Seat (Option (Locked C)) (View Event))) → SitAt desk a → (codec : ℕ) (P : Shared → Seat (Option (Locked C)) (View Event) → Seat (Option (Locked C)) (View Event) → Type 0)
      → ((s : Shared) (u v : Seat (Option (Locked C)) (View Event)) → P s u v → EndsAt [] s u v) → OneAt codec P desk.codecs.items a.codecs.items vs → Each (EndsAt []) desk.codecs.items a.codecs.items vs
  ends_at desk a vs sits codec P step one = ends_one [] P step desk.pool desk.slots.id codec desk.codecs.items a.codecs.items vs sits.codecs one

  -- nothing was done at the codecs
  pub no_ends : (desk : Desk C) (a : Seats C) → SitAt desk a → Each (EndsAt []) desk.codecs.items a.codecs.items a.codecs.items
  no_ends desk a sits = each_same (SitsAt desk.pool desk.slots.id) (EndsAt []) (λ n s u h. ends_none [] s u) 0 desk.codecs.items a.codecs.items sits.codecs

  -- one step after another
  pub ends_more : (desk : Desk C) (a b c : Seats C) → Each (EndsAt []) desk.codecs.items a.codecs.items b.codecs.items → Each (EndsAt []) desk.codecs.items b.codecs.items c.codecs.items → Each (EndsAt []) desk.codecs.items a.codecs.items c.codecs.items
  ends_more desk a b c x y = each_then (EndsAt []) (EndsAt []) (EndsAt []) (ends_then [] []) desk.codecs.items a.codecs.items b.codecs.items c.codecs.items x y
