-- What one more entry does and shows.
use Rattle.std.proofs.Common.{ℕ, suc, ◌≡◌, map, List, [], ◌∷◌, ◌++◌, append_assoc, length, Option, Some, None, refl, ap, sym, ◌∙◌}
use Rattle.std.specs.Prelude.{option_and_then, option_map, unwrap_or}
use Rattle.codec_model.specs.declared.entry.Opening.{Opening}
use Rattle.codec_model.specs.declared.entry.Entry.{Entry}
use Rattle.codec_model.specs.Replay.{State, opening_state, step, replay, replay_from}
use Rattle.codec_model.specs.declared.entry.Event.{Event}
use Rattle.codec_model.specs.Shown.{shows, shown, shown_from, shown_at, each_shown, each_shown_from, event_ends, ends_in, ends_of, ends_shown}

-- the replay goes on by one step
pub replay_more : (h : List Entry) (s : State) (e : Entry) → replay_from (h ++ e ∷ []) s ≡ option_and_then (step e) (replay_from h s)
replay_more [] s e = elim (step e s) as (λ o. option_and_then (replay_from []) o ≡ o) [ None ↦ refl | Some t ↦ refl ]
replay_more (x ∷ xs) s e = elim (step x s) as (λ o. option_and_then (replay_from (xs ++ e ∷ [])) o ≡ option_and_then (step e) (option_and_then (replay_from xs) o)) [ None ↦ refl | Some t ↦ replay_more xs t e ]

pub replay_append : (o : Opening) (h : List Entry) (e : Entry) (s : State) → replay o h ≡ Some s → replay o (h ++ e ∷ []) ≡ step e s
replay_append o h e s r = replay_more h (opening_state o) e ∙ ap (λ x. option_and_then (step e) x) r

rest_from : (es more : List Entry) (t : State) (o : Option State) → option_and_then (replay_from es) o ≡ Some t → ((u : State) → replay_from es u ≡ Some t → each_shown_from (es ++ more) u ≡ each_shown_from es u ++ each_shown_from more t) → unwrap_or (option_map (each_shown_from (es ++ more)) o) [] ≡ unwrap_or (option_map (each_shown_from es) o) [] ++ each_shown_from more t
rest_from es more t None r ih = absurd cc
rest_from es more t (Some u) r ih = ih u r

each_from : (h more : List Entry) (s t : State) → replay_from h s ≡ Some t → each_shown_from (h ++ more) s ≡ each_shown_from h s ++ each_shown_from more t
each_from [] more s t r = let same : s ≡ t = cc in ap (each_shown_from more) same
each_from (e ∷ es) more s t r = ap (λ xs. shown_at e s ∷ xs) (rest_from es more t (step e s) r (λ u k. each_from es more u t k))

-- what a history's entries show stays as it is
pub each_append : (o : Opening) (h more : List Entry) (s : State) → replay o h ≡ Some s → each_shown o (h ++ more) ≡ each_shown o h ++ each_shown_from more s
each_append o h more s r = each_from h more (opening_state o) s r

pub each_one : (e : Entry) (s : State) → each_shown_from (e ∷ []) s ≡ shown_at e s ∷ []
each_one e s = ap (λ xs. shown_at e s ∷ xs) (rest (step e s))
  where
    rest : (o : Option State) → unwrap_or (option_map (each_shown_from []) o) [] ≡ []
    rest None = refl
    rest (Some u) = refl

-- the last entry shows what it shows at the state before it
pub each_more : (o : Opening) (h : List Entry) (e : Entry) (s : State) → replay o h ≡ Some s → each_shown o (h ++ e ∷ []) ≡ each_shown o h ++ shown_at e s ∷ []
each_more o h e s r = each_append o h (e ∷ []) s r ∙ ap (λ xs. each_shown o h ++ xs) (each_one e s)

rest_long : (es : List Entry) (t : State) (o : Option State) → option_and_then (replay_from es) o ≡ Some t → ((u : State) → replay_from es u ≡ Some t → length (each_shown_from es u) ≡ length es) → length (unwrap_or (option_map (each_shown_from es) o) []) ≡ length es
rest_long es t None r ih = absurd cc
rest_long es t (Some u) r ih = ih u r

each_long : (h : List Entry) (s t : State) → replay_from h s ≡ Some t → length (each_shown_from h s) ≡ length h
each_long [] s t r = refl
each_long (e ∷ es) s t r = ap suc (rest_long es t (step e s) r (λ u k. each_long es u t k))

-- each entry of a legal history shows something, be it nothing at all
pub each_length : (o : Opening) (h : List Entry) (s : State) → replay o h ≡ Some s → length (each_shown o h) ≡ length h
each_length o h s r = each_long h (opening_state o) s r

-- the promise ends of a history are those that its entries show
ends_placed : (place : ℕ) (xs : List Event) (rest : List (ℕ × Event)) → ends_in (map (λ x. (place, x)) xs ++ rest) ≡ ends_of xs ++ ends_in rest
ends_placed place [] rest = refl
ends_placed place (x ∷ xs) rest = ap (λ us. event_ends x ++ us) (ends_placed place xs rest) ∙ sym (append_assoc (event_ends x) (ends_of xs) (ends_in rest))

ends_rest : (es : List Entry) (o : Option State) → ((t : State) → ends_in (shown_from es t) ≡ ends_shown (each_shown_from es t)) → ends_in (unwrap_or (option_map (shown_from es) o) []) ≡ ends_shown (unwrap_or (option_map (each_shown_from es) o) [])
ends_rest es None more = refl
ends_rest es (Some t) more = more t

ends_from : (h : List Entry) (s : State) → ends_in (shown_from h s) ≡ ends_shown (each_shown_from h s)
ends_from [] s = refl
ends_from (e ∷ es) s = ends_placed s.control.place (shows e s) _ ∙ ap (λ us. ends_of (shows e s) ++ us) (ends_rest es (step e s) (ends_from es))

pub ends_each : (o : Opening) (h : List Entry) → ends_in (shown o h) ≡ ends_shown (each_shown o h)
ends_each o h = ends_from h (opening_state o)
