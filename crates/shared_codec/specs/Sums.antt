-- How what seats' entries call for adds up.
use Rattle.std.specs.Prelude.{ℕ, ◌≡◌, List, [], ◌∷◌, ◌++◌}
use Rattle.wc_base.specs.Views.{Log}
use Rattle.wc_base.specs.declared.seat.View.{View}
use Rattle.codec_model.specs.declared.entry.Opening.{Opening}
use Rattle.codec_accounts.specs.Bags.{SameBag}
use Rattle.seat_lock.specs.Logs.{AllBy, AreApart, Continues}
use Rattle.codec_logs.specs.declared.event.Event.{Event}
use Rattle.codec_logs.specs.Logs.{Track, opening_track, track_by}
use Rattle.shared_codec.specs.Dues.{dues_in, dues_by, OwedSince}

-- a seat with this view took in one with that: it has the passages of both, and no passage is of both
pub record AreJoined {E : Type 0} (v w u : View E) : Type 0 where
  pub numbers : u.numbers ≡ v.numbers ++ w.numbers
  pub one : Continues v.numbers v.log u.log
  pub other : Continues w.numbers w.log u.log
  pub apart : AreApart v.numbers w.numbers

module _ {D : Type 0} (due : ℕ → Event → Track → List D) where
  -- what all passages of a seat, and of those that it took in, call for
  abbrev pub dues_of : ℕ → Opening → View Event → List D
  dues_of k o v = dues_by due k v.numbers (opening_track o) v.log

  -- what all passages of a log call for
  abbrev pub all_dues : ℕ → Track → Log Event → List D
  all_dues k x [] = []
  all_dues k x (p ∷ ps) = dues_in due k p.1 x ++ all_dues k (track_by p.0 p.1 x) ps

  -- What a seat's passages call for grows by what those call for that it made since; of seats that are joined it adds up; and
  -- of a seat that has all passages of a log it is what the log calls for.
  pub record DuesAddUp : Type 0 where
    pub grow : (k : ℕ) (o : Opening) (v w : View Event) (es : List D) → OwedSince due k o v w es → dues_of k o w ≡ dues_of k o v ++ es
    pub joined : (k : ℕ) (o : Opening) (v w u : View Event) → AreJoined v w u → SameBag (dues_of k o u) (dues_of k o v ++ dues_of k o w)
    pub all : (k : ℕ) (o : Opening) (v : View Event) → AllBy v.numbers v.log → dues_of k o v ≡ all_dues k (opening_track o) v.log
