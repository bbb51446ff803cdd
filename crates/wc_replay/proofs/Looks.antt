-- One codec among all: what looks show of it, and what becomes of it by an item.
use Rattle.std.proofs.Common.{ℕ, zero, suc, ◌≡◌, List, [], ◌∷◌, length, Option, Some, None, refl, ap, ◌∙◌}
use Rattle.std.specs.Prelude.{slice_set}
use Rattle.std.proofs.lemmas.Option.{some_pair_parts}
use Rattle.slot_registry.specs.Slots.{SlotsValue}
use Rattle.codec_model.specs.declared.entry.{Entry.Entry}
use Rattle.codec_accounts.specs.Codec.{CodecValue, codec_at}
use Rattle.media_variables.specs.Variables.{Media}
use Rattle.report_text.specs.declared.result.StepResult.{StepResult}
use Rattle.run_model.specs.Follow.{Course, after_move, advance, look_of_flush}
use Rattle.run_model.specs.Recorded.{promise_after}
use Rattle.wc_replay.specs.Desk.{codec_by, registry_by, media_by_option}
use Rattle.wc_replay.specs.Player.{call_in}

-- what a look shows of a codec
abbrev look_at : List CodecValue → ℕ → ℕ → StepResult
look_at ds k place = let d = codec_at k ds in StepResult.Look k (length d.history) (promise_after d.opening d.history place)

pub look_of_call : (ds : List CodecValue) (flush : Option StepResult) (k place : ℕ) → call_in flush ≡ Some (k, place) → look_at ds k place ≡ look_of_flush ds flush
look_of_call ds (Some (StepResult.Call n p error)) k place is = let parts = some_pair_parts n k p place is in rw (parts.0, parts.1) refl
look_of_call ds r k place is = absurd cc

pub set_same : (ds : List CodecValue) (k : ℕ) → slice_set ds k (codec_at k ds) ≡ ds
set_same [] k = refl
set_same (d ∷ ds) zero = refl
set_same (d ∷ ds) (suc k) = ap (λ (l : List CodecValue). d ∷ l) (set_same ds k)

-- an entry of one codec, or none, is the move that it makes
pub advance_is : (v : Course) (k : ℕ) (o : Option Entry) (codecs : List CodecValue) (m : Media) (slots : SlotsValue) → codecs ≡ slice_set v.codecs k (codec_by k o v.slots (codec_at k v.codecs)) → slots ≡ registry_by k o v.slots (codec_at k v.codecs)
    → m ≡ media_by_option k o (codec_at k v.codecs) v.media → ◌≡◌ {A = Course} (record { callers = v.callers; codecs = codecs; media = m; slots = slots; ports = v.ports }) (after_move (advance k o) v)
advance_is v k None codecs m slots is went left = λ i. record { callers = v.callers; codecs = (is ∙ set_same v.codecs k) i; media = left i; slots = went i; ports = v.ports }
advance_is v k (Some e) codecs m slots is went left = λ i. record { callers = v.callers; codecs = is i; media = left i; slots = went i; ports = v.ports }
