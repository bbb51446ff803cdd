-- A run that was played follows the order of its script, and is legal.
use Rattle.std.proofs.Common.{ℕ, zero, suc, ◌≡◌, List, [], ◌∷◌, map, map-id, length, refl, ap, sym, subst, ◌∙◌, arith}
use mathlib.Core.List.{map-map}
use Rattle.std.proofs.lemmas.List.{length-map}
use Rattle.wc_chunk.specs.declared.chunk.Chunk.{Chunk}
use Rattle.wc_pool.specs.Bag.{held_in}
use Rattle.codec_model.specs.Replay.{IsLegal}
use Rattle.wc_config.specs.declared.codec.CoderId.{CoderId}
use Rattle.script_types.specs.declared.script.{ScriptData.ScriptData, CodecItem.CodecItem}
use Rattle.run_model.specs.declared.run.Run.{Run}
use Rattle.run_model.specs.declared.run.CodecTrace.{CodecTrace}
use Rattle.run_model.specs.declared.run.CallerTrace.{CallerTrace}
use Rattle.run_model.specs.Recorded.{none_received, opening_in}
use Rattle.codec_accounts.specs.Codec.{CodecValue, codec_at, histories}
use Rattle.run_model.specs.Fits.{FollowsTheOrder, AreLegalTraces, IsLegalRun, recorded_of}
use Rattle.run_model.specs.Follow.{Course, record_of}
use Rattle.order_laws.specs.Course.{IsCourse}
use Rattle.wc_replay.specs.Player.{IsPlayed, IsRunOf, trace_of, caller_trace}

-- what a run recorded is what its course made
pub played_recorded : (course : Course) (run : Run) → IsRunOf course run → recorded_of none_received run ≡ record_of none_received course
played_recorded course run is =
    let callers : map (λ (c : CallerTrace). c.results) run.callers ≡ course.callers = ap (map (λ (c : CallerTrace). c.results)) is.callers ∙ (map-map (λ (c : CallerTrace). c.results) caller_trace course.callers ∙ map-id course.callers) in
    let codecs : map (λ (t : CodecTrace). t.entries) run.codecs ≡ histories course.codecs = ap (map (λ (t : CodecTrace). t.entries)) is.codecs ∙ map-map (λ (t : CodecTrace). t.entries) trace_of course.codecs in
    λ i. record { callers = callers i; codecs = codecs i; pool = is.pool i; slots = is.slots i; received = none_received }

pub played_follows : (s : ScriptData) (media : List (List Chunk)) (made : List CoderId) (run : Run) → IsPlayed s media made run → FollowsTheOrder s media made run
played_follows s media made run p = record { course = p.course; follows = p.follows; is_recorded = played_recorded p.course run p.holds }

legal_traces : (cs : List CodecItem) (ds : List CodecValue) → length ds ≡ length cs → ((k : ℕ) → (codec_at k ds).opening ≡ opening_in cs k) → ((k : ℕ) → IsLegal (codec_at k ds).opening (codec_at k ds).history) → AreLegalTraces cs (map trace_of ds)
legal_traces [] [] long openings legal = tt
legal_traces (c ∷ cs) (d ∷ ds) long openings legal = (
  record { opening = openings zero; legal = legal zero; shown = refl },
  legal_traces cs ds (omega (arith, long)) (λ k. openings (suc k)) (λ k. legal (suc k)),
)
legal_traces cs ds long openings legal = absurd (omega (arith, long))

pub played_legal : (s : ScriptData) (media : List (List Chunk)) (made : List CoderId) (run : Run) (p : IsPlayed s media made run) → IsCourse s made p.course → IsLegalRun s run
played_legal s media made run p is = record {
  callers = ap length p.holds.callers ∙ (length-map p.course.callers caller_trace ∙ is.callers);
  codecs = subst (AreLegalTraces s.codecs) (sym p.holds.codecs) (legal_traces s.codecs p.course.codecs is.codecs is.openings is.legal);
  held = p.holds.held ∙ ap held_in (sym p.holds.pool);
}
