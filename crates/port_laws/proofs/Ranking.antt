-- The ranks of steps, by the times of their deeds.
use Rattle.std.proofs.Common.{ℕ, ◌<◌, ◌≡◌, Option, Some, None, List, length, ap, sym, ◌∙◌, arith}
use Rattle.std.specs.Prelude.{slice_get}
use Rattle.std.proofs.lemmas.List.{length-map}
use Rattle.wc_base.specs.declared.who.Who.{Who}
use Rattle.wc_chunk.specs.declared.chunk.Chunk.{Chunk}
use Rattle.codec_accounts.specs.ListLaws.{get_some}
use Rattle.codec_accounts.specs.Owed.{at}
use Rattle.codec_model.specs.declared.entry.Entry.{Entry}
use Rattle.script_types.specs.declared.script.ScriptData.{ScriptData}
use Rattle.report_text.specs.declared.result.StepResult.{StepResult}
use Rattle.media_accounts.specs.Accounts.{step_by}
use Rattle.media_variables.specs.Variables.{Received}
use Rattle.order_laws.specs.Sound.{IsSound}
use Rattle.run_model.specs.Recorded.{Recorded}
use Rattle.desk_callers.specs.Deeds.{Deed}
use Rattle.port_laws.specs.PortAccounts.{CallersMade, PortsMade}
use Rattle.port_laws.specs.Ranks.{IsRanked}
use Rattle.port_laws.proofs.Deeds.{recorded, received_at}
use Rattle.port_laws.proofs.Delivering.{once}
use Rattle.port_laws.proofs.Matching.{posted_earlier}

abbrev time_of : Option Deed → ℕ
time_of None = 0
time_of (Some d) = d.time

abbrev rank_in : List (List Deed) → ℕ → ℕ → ℕ
rank_in deeds c j = time_of (slice_get (at c deeds) j)

module _ (s : ScriptData) (media : List (List Chunk)) (hs : List (List Entry)) (deeds : List (List Deed)) (run : Recorded) (sound : IsSound s) (ports : PortsMade s media deeds) (made : CallersMade s media hs deeds run) where
  rises : (c i j : ℕ) → i < j → j < length (at c run.callers) → rank_in deeds c i < rank_in deeds c j
  rises c i j lt within =
      let long : length (at c run.callers) ≡ length (at c deeds) = ap (λ (l : List StepResult). length l) (made.results c) ∙ length-map (at c deeds) (λ (d : Deed). d.result) in
      let first = get_some (at c deeds) i (omega (arith, lt, within, long)) in
      let last = get_some (at c deeds) j (omega (arith, within, long)) in
      let before = (made.are c).rise i j first.0 last.0 lt first.1 last.1 in
      let here : rank_in deeds c i ≡ first.0.time = ap time_of first.1 in
      let there : rank_in deeds c j ≡ last.0.time = ap time_of last.1 in
      omega (arith, before, here, there)

  posts : (c j : ℕ) (p : Received) → run.received c j ≡ Some p → rank_in deeds p.poster.caller p.poster.step < rank_in deeds c j
  posts c j p is =
      let g = received_at s media hs deeds run made c j p is in
      let port = ports g.0 (sound.receives c j g.0 g.1.0.step (recorded s media hs deeds run made c j g.1.0 g.1.1.0).step g.1.1.1.port) in
      let e = posted_earlier s media g.0 deeds port c j p g.1 in
      let who : p.poster ≡ step_by e.caller e.step = sym e.poster ∙ (recorded s media hs deeds run made e.caller e.step e.post e.post_is).who in
      let again : run.received c e.at_step ≡ Some p = (recorded s media hs deeds run made c e.at_step e.receipt e.receipt_is).received ∙ e.gets.received in
      let same : j ≡ e.at_step = (once s media hs deeds run sound ports made c j c e.at_step p p is again (λ k. p.poster)).1 in
      let first : rank_in deeds p.poster.caller p.poster.step ≡ e.post.time = ap (λ (w : Who). rank_in deeds w.caller w.step) who ∙ ap time_of e.post_is in
      let last : rank_in deeds c j ≡ e.receipt.time = ap (rank_in deeds c) same ∙ ap time_of e.receipt_is in
      let before = e.earlier in
      omega (arith, before, first, last)

  pub ranked : IsRanked run
  ranked = record { rank = rank_in deeds; rises = rises; posts = posts }
