-- The part of a run that is lawful (our choice).
use Rattle.std.specs.Prelude.{ℕ, List, [], ◌∷◌, Some, None, take, slice_get, slice_set}
use Rattle.wc_config.specs.declared.codec.CoderId.{CoderId}
use Rattle.wc_pool.specs.declared.entry.PoolEntry.{PoolEntry}
use Rattle.coder_api.specs.declared.slot.SlotEntry.{SlotEntry}
use Rattle.wc_pool.specs.Bag.{is_legal_next as pool_next}
use Rattle.slot_registry.specs.Slots.{is_legal_next as slots_next}
use Rattle.script_types.specs.declared.script.CodecItem.{CodecItem}
use Rattle.script_types.specs.declared.script.ScriptData.{ScriptData}
use Rattle.run_model.specs.declared.run.CodecTrace.{CodecTrace}
use Rattle.run_model.specs.declared.run.Run.{Run}
use Rattle.run_model.specs.Recorded.{opening_of}
use Rattle.legal_fronts.specs.Fronts.{legal_entries}
use Rattle.codec_judge.specs.Lawful.{lawful_shown}

-- a codec's entries with what its definition shows for them, up to the first that is not legal
abbrev pub lawful_trace : List CoderId → CodecItem → CodecTrace → CodecTrace
lawful_trace made item trace = record trace { shown = lawful_shown made (opening_of item) trace.entries }

abbrev pub lawful_traces : List CoderId → List CodecItem → List CodecTrace → List CodecTrace
lawful_traces made (i ∷ is) (t ∷ ts) = lawful_trace made i t ∷ lawful_traces made is ts
lawful_traces made [] ts = ts
lawful_traces made (i ∷ is) [] = []

-- with the codec at this place judged, if it is there
abbrev pub lawful_at : List CoderId → CodecItem → ℕ → List CodecTrace → List CodecTrace
lawful_at made item place traces = elim (slice_get traces place) [ None ↦ traces | Some t ↦ slice_set traces place (lawful_trace made item t) ]

-- the entries of a pool and of a registry before the first that is not legal
abbrev pub pool_part : List PoolEntry → List PoolEntry
pool_part history = take (legal_entries pool_next history) history

abbrev pub slots_part : List CoderId → List SlotEntry → List SlotEntry
slots_part made history = take (legal_entries (slots_next made) history) history

-- Of each codec the entries before the first that is not legal, since no more is shown; of the pool and of the registry the entries
-- before the first that is not legal.
abbrev pub lawful : ScriptData → List CoderId → Run → Run
lawful script made run = record run {
  codecs = lawful_traces made script.codecs run.codecs;
  pool = pool_part run.pool;
  slots = slots_part made run.slots;
}
