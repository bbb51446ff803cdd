-- What is recorded of codecs that were finished.
use Rattle.std.specs.Prelude.{◌≡◌, map}
use Rattle.codec_media.specs.Holding.{Holding}
use Rattle.codec_model.specs.Shown.{each_shown}
use Rattle.wc_pool.specs.Bag.{held_in, is_legal_pool}
use Rattle.slot_registry.specs.Slots.{is_legal_slots}
use Rattle.run_model.specs.declared.run.CodecTrace.{CodecTrace}
use Rattle.run_model.specs.declared.run.Run.{Run}
use Rattle.desk_run.specs.declared.finishing.Finished.{Finished}
use Rattle.std.specs.Prelude.{true, List}
use Rattle.run_model.specs.declared.run.CallerTrace.{CallerTrace}

abbrev pub trace_of : Holding → CodecTrace
trace_of h = record { opening = h.codec.opening; entries = h.codec.history; shown = each_shown h.codec.opening h.codec.history }

-- The run holds what a desk left, with what the callers' steps came to.
pub record IsLeftBy {C : Type 0} (callers : List CallerTrace) (f : Finished C) (run : Run) : Type 0 where
  pub callers_are : run.callers ≡ callers
  pub codecs : run.codecs ≡ map trace_of f.codecs.items
  pub pool : run.pool ≡ f.pool
  pub pool_is_legal : is_legal_pool f.pool ≡ true
  pub slots : run.slots ≡ f.slots.history
  pub slots_are_legal : is_legal_slots f.slots.made f.slots.history ≡ true
  pub held : run.held ≡ held_in f.pool
