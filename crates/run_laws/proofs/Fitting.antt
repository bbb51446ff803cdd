-- All together.
use Rattle.std.proofs.Common.{ℕ, suc, ◌≡◌, ◌<◌, List, [], ◌∷◌, length, Option, refl, ap, sym, subst, ◌∙◌}
use Rattle.std.specs.Prelude.{unwrap_or}
use Rattle.wc_base.specs.Views.{Log}
use Rattle.wc_config.specs.declared.codec.CoderId.{CoderId}
use Rattle.wc_chunk.specs.declared.chunk.Chunk.{Chunk}
use Rattle.codec_model.specs.declared.entry.Opening.{Opening}
use Rattle.codec_model.specs.declared.entry.Entry.{Entry}
use Rattle.codec_model.specs.Replay.{State, opening_state}
use Rattle.codec_accounts.specs.Codec.{state_after}
use Rattle.codec_accounts.specs.Owed.{at}
use Rattle.codec_logs.specs.declared.event.Event.{Event}
use Rattle.codec_logs.specs.Logs.{IsLog, history_of}
use Rattle.codec_logs.specs.LogLaws.{legal_log}
use Rattle.media_accounts.specs.Accounts.{lent_at}
use Rattle.script_types.specs.declared.script.ScriptData.{ScriptData}
use Rattle.run_model.specs.Recorded.{Recorded, opening_at}
use Rattle.run_laws.specs.Tries.{BoxesAreTried}
use Rattle.run_laws.specs.Paid.{histories_of}
use Rattle.run_laws.specs.Quiet.{IsAtRest, LogRests}
use Rattle.run_laws.specs.Fits.{FitsAsTried, ThreadsMade, AreAtRest}
use Rattle.run_laws.proofs.Together.{boxes_are_tried, history_here}
use Rattle.run_laws.proofs.Lending.{codecs_are_paid}
use Rattle.call_laws.specs.CallLaws.{calls_are_in, arguments_are_in}

pub fits_as_tried : (s : ScriptData) (media : List (List Chunk)) (made : List CoderId) (logs : List (Log Event)) (w : Recorded) → ThreadsMade s media made logs w → FitsAsTried s media made w
fits_as_tried s media made logs w all = record {
  calls = calls_are_in s media w all.callers;
  looks = all.looks;
  arguments = arguments_are_in s media w all.callers;
  locals = all.locals;
  accounted = record {
    legal = all.pool_is_legal;
    own = all.own;
    codecs = λ k place. (codecs_are_paid (opening_at s) logs w.pool all.pool k place ∙ ap (λ (hs : List (List Entry)). lent_at (opening_at s k) (at k hs) place) (sym all.codecs));
  };
  boxes = subst (λ (hs : List (List Entry)). BoxesAreTried made (opening_at s) hs w.slots) (sym all.codecs) (boxes_are_tried made (opening_at s) logs w.slots all.registry);
}

pub log_rests : (k : ℕ) (o : Opening) (log : Log Event) → IsLog k o log → LogRests o log → IsAtRest (state_after o (history_of log)).control
log_rests k o log legal rests = subst (λ (t : State). IsAtRest t.control) (sym (ap (λ (u : Option State). unwrap_or u (opening_state o)) (legal_log k o log legal).replays)) rests

count : (logs : List (Log Event)) → length (histories_of logs) ≡ length logs
count [] = refl
count (l ∷ ls) = ap suc (count ls)

pub codecs_rest : (s : ScriptData) (logs : List (Log Event)) (w : Recorded) → w.codecs ≡ histories_of logs → ((k : ℕ) → k < length logs → IsLog k (opening_at s k) (at k logs)) → AreAtRest s logs
    → (k : ℕ) → k < length w.codecs → IsAtRest (state_after (opening_at s k) (at k w.codecs)).control
codecs_rest s logs w is legal rests k lt =
    let within : k < length logs = subst (λ (n : ℕ). k < n) (ap length is ∙ count logs) lt in
    subst (λ (h : List Entry). IsAtRest (state_after (opening_at s k) h).control) (sym (ap (at k) is ∙ history_here k logs)) (log_rests k (opening_at s k) (at k logs) (legal k within) (rests k within))
