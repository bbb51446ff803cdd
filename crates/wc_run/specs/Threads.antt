-- What the threads of a run did together.
use Rattle.std.specs.Prelude.{List, []}
use Rattle.wc_chunk.specs.declared.chunk.Chunk.{Chunk}
use Rattle.codec_desk.specs.declared.desk.Desk.{Desk}
use Rattle.codec_desk.specs.declared.desk.Seats.{Seats}
use Rattle.desk_threads.specs.Accounts.{Named}
use Rattle.desk_callers.specs.Acts.{histories_in}
use Rattle.desk_callers.specs.Deeds.{Deed}
use Rattle.script_types.specs.declared.script.ScriptData.{ScriptData}
use Rattle.run_model.specs.declared.run.CallerTrace.{CallerTrace}
use Rattle.wc_run.specs.Acted.{HaveActed, calls_of_all}
use Rattle.wc_run.specs.Owned.{Owned, none_owned, owns_at}
use Rattle.wc_run.specs.Paid.{IsPaid}

-- Each caller made all its steps, with these results. The calls that the seats have made are those of their deeds, and what they
-- made in the pool by callers' steps is what the deeds did to it; what they made for codecs is what is called for. This is known of
-- what the deeds did to ports.
pub record HaveRun {C : Type 0} (s : ScriptData) (media : List (List Chunk)) (known : List (List Deed) → Type 0) (desk : Desk C) (traces : List CallerTrace) (a : Seats C) : Type 0 where
  pub paid : IsPaid desk a
  pub deeds : List (List Deed)
  pub acted : HaveActed s media (histories_in a.codecs.items) 0 traces deeds
  pub calls : Named desk (calls_of_all deeds) a
  pub own : Owned (owns_at s media deeds) a
  pub ports : known deeds

-- The same, where the seats of the beginning had an account with no call, and had made nothing by callers' steps.
abbrev pub RunsFrom : {C : Type 0} → ScriptData → List (List Chunk) → (List (List Deed) → Type 0) → Desk C → Seats C → List CallerTrace → Seats C → Type 0
RunsFrom s media known desk a traces b = IsPaid desk a → Named desk [] a → Owned none_owned a → HaveRun s media known desk traces b
