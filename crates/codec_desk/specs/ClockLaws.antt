-- Laws of what clocks tell, and of what is timed by them.
use Rattle.std.proofs.Common.{ℕ, inl, inr, List, [], ◌∷◌, ◌++◌, Option, Some, None, sym, subst}
use Rattle.atomic_table.specs.Seated.{TableId}
use Rattle.atomic_table.specs.declared.shared.Seat.{Seat}
use Rattle.wc_base.specs.declared.seat.View.{View}
use Rattle.seat_lock.specs.Logs.{Has}
use Rattle.seat_lock.specs.SinceLaws.{made_none, made_then}
use Rattle.codec_logs.specs.declared.event.Event.{Event}
use Rattle.codec_logs.specs.Logs.{entry_of}
use Rattle.work_moments.specs.Moments.{Telling, Given}
use Rattle.work_moments.specs.MomentLaws.{given_none, given_then}
use Rattle.shared_codec.specs.Shared.{Shared}
use Rattle.shared_codec.specs.Tallies.{moment_of}
use Rattle.codec_desk.specs.declared.desk.Desk.{Desk}
use Rattle.codec_desk.specs.declared.desk.Seats.{Seats}
use Rattle.codec_desk.specs.Each.{Pairs, Each, OneAt}
use Rattle.codec_desk.specs.EachLaws.{each_same, each_one, each_then}
use Rattle.codec_desk.specs.Desks.{SitsAt, SitAt}
use Rattle.codec_desk.specs.Clocks.{IfAmong, AllAt, EndsAt, Timed}

-- ---- moments

has_left : (n : ℕ) (a b : List ℕ) → Has n a → Has n (a ++ b)
has_left n [] b h = absurd h
has_left n (m ∷ ms) b (inl h) = inl h
has_left n (m ∷ ms) b (inr h) = inr (has_left n ms b h)

has_right : (n : ℕ) (a b : List ℕ) → Has n b → Has n (a ++ b)
has_right n [] b h = h
has_right n (m ∷ ms) b h = inr (has_right n ms b h)

if_left : (a b : List ℕ) (o : Option ℕ) → IfAmong a o → IfAmong (a ++ b) o
if_left a b None h = tt
if_left a b (Some m) h = has_left m a b h

if_right : (a b : List ℕ) (o : Option ℕ) → IfAmong b o → IfAmong (a ++ b) o
if_right a b None h = tt
if_right a b (Some m) h = has_right m a b h

pub all_left : (a b : List ℕ) (es : List Event) → AllAt a es → AllAt (a ++ b) es
all_left a b [] h = tt
all_left a b (e ∷ es) h = (if_left a b (moment_of (entry_of e)) h.0, all_left a b es h.1)

pub all_right : (a b : List ℕ) (es : List Event) → AllAt b es → AllAt (a ++ b) es
all_right a b [] h = tt
all_right a b (e ∷ es) h = (if_right a b (moment_of (entry_of e)) h.0, all_right a b es h.1)

pub all_both : (a : List ℕ) (es fs : List Event) → AllAt a es → AllAt a fs → AllAt a (es ++ fs)
all_both a [] fs h k = k
all_both a (e ∷ es) fs h k = (h.0, all_both a es fs h.1 k)

-- ---- seats

module _ {S : Type 0} where
  pub ends_none : (moments : List ℕ) (s : Shared) (a : Seat (Option S) (View Event)) → EndsAt moments s a a
  ends_none moments s a = record { events = []; made = made_none a.me.0; at = tt }

  pub ends_then : (m n : List ℕ) (s : Shared) (a b c : Seat (Option S) (View Event)) → EndsAt m s a b → EndsAt n s b c → EndsAt (m ++ n) s a c
  ends_then m n s a b c x y = record {
    events = x.events ++ y.events;
    made = made_then a.me.0 b.me.0 c.me.0 x.events y.events x.made y.made;
    at = all_both (m ++ n) x.events y.events (all_left m n x.events x.at) (all_right m n y.events y.at);
  }

  -- a step at one codec of a desk
  pub ends_one : (moments : List ℕ) (P : Shared → Seat (Option S) (View Event) → Seat (Option S) (View Event) → Type 0) → ((s : Shared) (a b : Seat (Option S) (View Event)) → P s a b → EndsAt moments s a b)
      → (pool slots : TableId) (place : ℕ) (xs : List Shared) (us vs : List (Seat (Option S) (View Event))) → Pairs (SitsAt pool slots) 0 xs us → OneAt place P xs us vs → Each (EndsAt moments) xs us vs
  ends_one moments P step pool slots place xs us vs at one =
      subst (λ (l : List (Seat (Option S) (View Event))). Each (EndsAt moments) xs us l) (sym one.after_is)
      (each_one (SitsAt pool slots) (EndsAt moments) (λ n s u h. ends_none moments s u) 0 place xs us one.partner one.before one.after at one.partner_is one.before_is (step one.partner one.before one.after one.so))

-- ---- desks

module _ {C : Type 0} where
  pub timed_none : (desk : Desk C) (a : Seats C) (told : Telling) → SitAt desk a → Timed desk a a told told
  timed_none desk a told at = record {
    moments = [];
    given = given_none told;
    ends = each_same (SitsAt desk.pool desk.slots.id) (EndsAt []) (λ n s u h. ends_none [] s u) 0 desk.codecs.items a.codecs.items at.codecs;
  }

  pub timed_then : (desk : Desk C) (a b c : Seats C) (t u v : Telling) → Timed desk a b t u → Timed desk b c u v → Timed desk a c t v
  timed_then desk a b c t u v x y = record {
    moments = x.moments ++ y.moments;
    given = given_then t u v x.moments y.moments x.given y.given;
    ends = each_then (EndsAt x.moments) (EndsAt y.moments) (EndsAt (x.moments ++ y.moments)) (ends_then x.moments y.moments) desk.codecs.items a.codecs.items b.codecs.items c.codecs.items x.ends y.ends;
  }

  -- what was done with no clock made no end
  pub timed_rest : (desk : Desk C) (a b : Seats C) (told : Telling) → Each (EndsAt []) desk.codecs.items a.codecs.items b.codecs.items → Timed desk a b told told
  timed_rest desk a b told ends = record { moments = []; given = given_none told; ends = ends }

  -- what was done by one answer of a clock
  pub timed_by : (desk : Desk C) (a b : Seats C) (t u : Telling) (moment : ℕ) → Given t (moment ∷ []) u → Each (EndsAt (moment ∷ [])) desk.codecs.items a.codecs.items b.codecs.items → Timed desk a b t u
  timed_by desk a b t u moment given ends = record { moments = moment ∷ []; given = given; ends = ends }
