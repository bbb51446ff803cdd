-- The outputs that wait to be taken, as entries are added and outputs are passed.
use Rattle.std.proofs.Common.{ℕ, zero, suc, ◌≡◌, ◌+◌, ◌-◌, ◌≤◌, ◌<◌, List, [], ◌∷◌, ◌++◌, drop, length, length-append, append-nil, slice_get, Option, Some, None, refl, ap, sym, ◌∙◌, arith}
use Rattle.std.specs.Prelude.{option_map, unwrap_or}
use Rattle.std.proofs.lemmas.List.{drop-drop, drop-append-le, drop_all}
use Rattle.std.proofs.lemmas.List.Concat.{flat_map-append}
use Rattle.std.proofs.Math.Seq.{drop-append-add}
use Rattle.std.proofs.lemmas.Option.{slice_get_cases}
use Rattle.wc_base.specs.declared.error.DomError.{DomError}
use Rattle.codec_definitions.specs.declared.unit.Unit as media
use Rattle.codec_model.specs.declared.entry.{Opening.Opening, Entry.Entry, Shown.Shown, Event.Event, Task.Task}
use Rattle.codec_model.specs.Control.{front}
use Rattle.codec_model.specs.Replay.{State, step, opening_state}
use Rattle.codec_model.specs.Shown.{shows, shown, shown_from, each_shown, each_shown_from, outputs_of, units_in, units_shown, rejections, close_shows, outputs_from, task_shows}
use Rattle.history_laws.specs.CountLaws.{outputs_tagged}
use Rattle.codec_core.specs.Trace.{outputs_behind, task_outputs}

-- the outputs of a history are those that its entries show
outputs_from_state : (h : List Entry) (s : State) → outputs_of (shown_from h s) ≡ units_shown (each_shown_from h s)
outputs_from_state [] s = refl
outputs_from_state (e ∷ es) s = rw (outputs_tagged s.control.place (shows e s) _, rest (step e s) (outputs_from_state es)) refl
  where
    rest : (o : Option State) → ((t : State) → outputs_of (shown_from es t) ≡ units_shown (each_shown_from es t)) → outputs_of (unwrap_or (option_map (shown_from es) o) []) ≡ units_shown (unwrap_or (option_map (each_shown_from es) o) [])
    rest None more = refl
    rest (Some t) more = more t

pub outputs_shown : (o : Opening) (h : List Entry) → outputs_of (shown o h) ≡ units_shown (each_shown o h)
outputs_shown o h = outputs_from_state h (opening_state o)

pub outputs_more : (xs : List Shown) (x : Shown) → units_shown (xs ++ x ∷ []) ≡ units_shown xs ++ units_in x.events
outputs_more xs x = flat_map-append (λ y. units_in y.events) xs (x ∷ []) ∙ ap (λ us. units_shown xs ++ us) (append-nil (units_in x.events))

-- ---- what is kept of an entry's showing

rejected_outputs : (error : DomError) (ps : List ℕ) (more : List Event) → units_in (rejections error ps ++ more) ≡ units_in more
rejected_outputs error [] more = refl
rejected_outputs error (p ∷ ps) more = rejected_outputs error ps more

pub none_rejected : (error : DomError) (ps : List ℕ) → units_in (rejections error ps) ≡ []
none_rejected error ps = rw append-nil at (rejected_outputs error ps [])

pub none_closed : (error : DomError) (ps : List ℕ) → units_in (close_shows error ps) ≡ []
none_closed error ps = rejected_outputs error ps (Event.ErrorCall error ∷ [])

numbered : (n : ℕ) (us : List media.Unit) (more : List Event) → units_in more ≡ [] → units_in (outputs_from n us ++ more) ≡ us
numbered n [] more none = none
numbered n (u ∷ us) more none = ap (λ vs. u ∷ vs) (numbered (n + 1) us more none)

pub task_shown : (t : Task) (n : ℕ) → units_in (task_shows t n []) ≡ task_outputs t
task_shown (Task.Output us) n = rw append-nil at (numbered n us [] refl)
task_shown (Task.Flushed p us) n = numbered n us (Event.Resolve p ∷ []) refl
task_shown t n = refl

-- ---- the outputs from a place on

pub within_more : (entry unit : ℕ) (xs : List Shown) (x : Shown) → entry ≤ length xs → unit ≤ length (units_shown (drop entry xs)) → unit ≤ length (units_shown (drop entry (xs ++ x ∷ [])))
within_more entry unit xs x place within = rw (drop-append-le, outputs_more, length-append) (omega (arith, within))

pub front_drop : {X : Type 0} (n : ℕ) (xs : List X) → front (drop n xs) ≡ slice_get xs n
front_drop zero [] = refl
front_drop (suc n) [] = refl
front_drop zero (x ∷ xs) = refl
front_drop (suc n) (x ∷ xs) = front_drop n xs

-- the entry at a place, and those behind it
drop_next : {X : Type 0} (n : ℕ) (xs : List X) (x : X) → slice_get xs n ≡ Some x → drop n xs ≡ x ∷ drop (n + 1) xs
drop_next {X} n xs x is = by (drop n xs) (front_drop n xs ∙ is) ∙ ap (λ (ys : List X). x ∷ ys) (drop-drop 1 n xs)
  where
    by : (ys : List X) → front ys ≡ Some x → ys ≡ x ∷ drop 1 ys
    by [] first = absurd cc
    by (y ∷ ys) first = cc

-- an entry is passed whose outputs were all taken
pub behind_next : (entry unit : ℕ) (xs : List Shown) (x : Shown) → slice_get xs entry ≡ Some x → length (units_in x.events) ≤ unit → outputs_behind (entry + 1) (unit - length (units_in x.events)) xs ≡ outputs_behind entry unit xs
behind_next entry unit xs x is past =
    let more = drop-append-add (units_in x.events) (units_shown (drop (entry + 1) xs)) (unit - length (units_in x.events)) in
    let parts : length (units_in x.events) + (unit - length (units_in x.events)) ≡ unit = omega (arith, past) in
    rw (drop_next entry xs x is) (sym (rw parts at more))

pub within_next : (entry unit : ℕ) (xs : List Shown) (x : Shown) → slice_get xs entry ≡ Some x → unit ≤ length (units_shown (drop entry xs)) → unit - length (units_in x.events) ≤ length (units_shown (drop (entry + 1) xs))
within_next entry unit xs x is within = omega (arith, rw (drop_next entry xs x is, length-append) at within)

-- the first output that waits is the entry's own
pub front_at : (entry unit : ℕ) (xs : List Shown) (x : Shown) → slice_get xs entry ≡ Some x → unit < length (units_in x.events) → front (outputs_behind entry unit xs) ≡ slice_get (units_in x.events) unit
front_at entry unit xs x is lt = rw (drop_next entry xs x is, front_drop) (within (units_in x.events) (units_shown (drop (entry + 1) xs)) unit lt)
  where
    within : (us vs : List media.Unit) (n : ℕ) → n < length us → slice_get (us ++ vs) n ≡ slice_get us n
    within [] vs n low = absurd (omega (arith, low))
    within (u ∷ us) vs zero low = refl
    within (u ∷ us) vs (suc n) low = within us vs n (omega (arith, low))

-- behind all entries none waits
pub front_past : (entry unit : ℕ) (xs : List Shown) → length xs ≤ entry → front (outputs_behind entry unit xs) ≡ None
front_past entry unit xs le = rw (drop_all entry xs le, front_drop) refl

-- there is none from the end on
pub none_past : {X : Type 0} (xs : List X) (n : ℕ) → slice_get xs n ≡ None → length xs ≤ n
none_past xs n is = grind (arith, slice_get_cases, is)

-- the first output that waits is passed
pub behind_passed : (entry unit : ℕ) (xs : List Shown) → outputs_behind entry (unit + 1) xs ≡ drop 1 (outputs_behind entry unit xs)
behind_passed entry unit xs = sym (drop-drop 1 unit (units_shown (drop entry xs)))
