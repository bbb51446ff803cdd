-- The outputs and the ends of promises of what is kept of an entry's showing.
use Rattle.std.proofs.Common.{ℕ, ◌≡◌, ◌+◌, List, [], ◌∷◌, ◌++◌, append-nil, map, length}
use Rattle.std.proofs.Common.{slice_get, Some, refl, ap, ◌∙◌}
use Rattle.std.specs.Prelude.{option_map}
use Rattle.std.proofs.lemmas.{List.length-map, Option.slice_get-map}
use Rattle.wc_base.specs.declared.error.DomError.{DomError}
use Rattle.codec_definitions.specs.declared.unit.Unit as media
use Rattle.codec_model.specs.declared.entry.{Event.Event, Task.Task, PromiseEnd.PromiseEnd}
use Rattle.codec_model.specs.Shown.{units_in, ends_of, rejections, close_shows, outputs_from}
use Rattle.codec_model.specs.Shown.{task_shows}
use Rattle.engine.specs.Told.{task_outputs, resolved_by}

-- ---- outputs

rejected_outputs : (error : DomError) (ps : List ℕ) (more : List Event)
    → units_in (rejections error ps ++ more) ≡ units_in more
rejected_outputs error [] more = refl
rejected_outputs error (p ∷ ps) more = rejected_outputs error ps more

pub none_rejected : (error : DomError) (ps : List ℕ) → units_in (rejections error ps) ≡ []
none_rejected error ps = rw append-nil at (rejected_outputs error ps [])

pub none_closed : (error : DomError) (ps : List ℕ) → units_in (close_shows error ps) ≡ []
none_closed error ps = rejected_outputs error ps (Event.ErrorCall error ∷ [])

numbered : (n : ℕ) (us : List media.Unit) (more : List Event)
    → units_in more ≡ [] → units_in (outputs_from n us ++ more) ≡ us
numbered n [] more none = none
numbered n (u ∷ us) more none = ap (λ vs. u ∷ vs) (numbered (n + 1) us more none)

pub task_shown : (t : Task) (n : ℕ) → units_in (task_shows t n []) ≡ task_outputs t
task_shown (Task.Output us) n = rw append-nil at (numbered n us [] refl)
task_shown (Task.Flushed p us) n = numbered n us (Event.Resolve p ∷ []) refl
task_shown t n = refl

-- ---- the ends of promises

abbrev pub rejected : DomError → ℕ → PromiseEnd
rejected error p = record { promise = p; error = Some error }

rejected_ends : (error : DomError) (ps : List ℕ) (more : List Event)
    → ends_of more ≡ [] → ends_of (rejections error ps ++ more) ≡ map (rejected error) ps
rejected_ends error [] more none = none
rejected_ends error (p ∷ ps) more none =
    ap (λ es. rejected error p ∷ es) (rejected_ends error ps more none)

pub removal_ends : (error : DomError) (ps : List ℕ)
    → ends_of (rejections error ps) ≡ map (rejected error) ps
removal_ends error ps = rw append-nil at (rejected_ends error ps [] refl)

pub closing_ends : (error : DomError) (ps : List ℕ)
    → ends_of (close_shows error ps) ≡ map (rejected error) ps
closing_ends error ps = rejected_ends error ps (Event.ErrorCall error ∷ []) refl

output_ends : (n : ℕ) (us : List media.Unit) (more : List Event)
    → ends_of (outputs_from n us ++ more) ≡ ends_of more
output_ends n [] more = refl
output_ends n (u ∷ us) more = output_ends (n + 1) us more

pub task_ends : (t : Task) (n : ℕ) → ends_of (task_shows t n []) ≡ resolved_by t
task_ends (Task.Output us) n = rw append-nil at (output_ends n us [])
task_ends (Task.Flushed p us) n = output_ends n us (Event.Resolve p ∷ [])
task_ends t n = refl

pub removal_count : (error : DomError) (ps : List ℕ)
    → length (ends_of (rejections error ps)) ≡ length ps
removal_count error ps = ap length (removal_ends error ps) ∙ length-map ps _

pub closing_count : (error : DomError) (ps : List ℕ)
    → length (ends_of (close_shows error ps)) ≡ length ps
closing_count error ps = ap length (closing_ends error ps) ∙ length-map ps _

pub removal_at : (error : DomError) (ps : List ℕ) (n : ℕ)
    → slice_get (ends_of (rejections error ps)) n ≡ option_map (rejected error) (slice_get ps n)
removal_at error ps n =
    ap (λ es. slice_get es n) (removal_ends error ps) ∙ slice_get-map _ ps n

pub closing_at : (error : DomError) (ps : List ℕ) (n : ℕ)
    → slice_get (ends_of (close_shows error ps)) n ≡ option_map (rejected error) (slice_get ps n)
closing_at error ps n =
    ap (λ es. slice_get es n) (closing_ends error ps) ∙ slice_get-map _ ps n
