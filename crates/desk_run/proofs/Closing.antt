-- Desks as they are finished.
use Rattle.std.proofs.Common.{List, [], ◌∷◌, Option}
use Rattle.atomic_table.specs.declared.shared.Seat.{Seat}
use Rattle.wc_base.specs.declared.seat.View.{View}
use Rattle.codec_media.specs.Holding.{Holding}
use Rattle.codec_logs.specs.declared.event.Event.{Event}
use Rattle.shared_codec.specs.Shared.{Shared}
use Rattle.desk_threads.specs.Accounts.{EachByAll}
use Rattle.desk_run.specs.Finished.{AreFinished}

module _ {S : Type 0} where
  -- each passage that the seats have seen is of them, or of seats that they took in
  pub finished_all : (xs : List Shared) (us : List (Seat (Option S) (View Event))) (hs : List Holding) → AreFinished xs us hs → EachByAll us
  finished_all [] [] [] f = tt
  finished_all [] [] (h ∷ hs) f = absurd f
  finished_all [] (u ∷ us) hs f = absurd f
  finished_all (x ∷ xs) [] hs f = absurd f
  finished_all (x ∷ xs) (u ∷ us) [] f = absurd f
  finished_all (x ∷ xs) (u ∷ us) (h ∷ hs) f = (f.0.all, finished_all xs us hs f.1)
