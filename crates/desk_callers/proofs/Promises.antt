-- How promises stand as histories go on.
use Rattle.std.proofs.Common.{ℕ, ◌≡◌, ◌==◌, Bool, true, false, cond, List, [], ◌∷◌, ◌++◌, Some, refl, ap, sym, ◌∙◌, append_assoc}
use Rattle.codec_model.specs.declared.entry.{Opening.Opening, Entry.Entry, PromiseEnd.PromiseEnd, PromiseState.PromiseState, Shown.Shown}
use Rattle.codec_model.specs.declared.entry.PromiseState.TheVariants as promise
use Rattle.codec_model.specs.Replay.{State, replay}
use Rattle.codec_model.specs.Shown.{shown, each_shown, each_shown_from, ends_in, ends_of, ends_shown, promise_ended, promise_state}
use Rattle.codec_model.specs.ShownLaws.{each_append, ends_each}
use Rattle.run_model.specs.Recorded.{promise_after}

ends_both : (xs ys : List Shown) → ends_shown (xs ++ ys) ≡ ends_shown xs ++ ends_shown ys
ends_both [] ys = refl
ends_both (x ∷ xs) ys = ap (λ (l : List PromiseEnd). ends_of x.events ++ l) (ends_both xs ys) ∙ sym (append_assoc (ends_of x.events) (ends_shown xs) (ends_shown ys))

-- the ends of a legal history that goes on are those, and more
ends_more : (o : Opening) (h more : List Entry) (s : State) → replay o h ≡ Some s → ends_in (shown o (h ++ more)) ≡ ends_in (shown o h) ++ ends_shown (each_shown_from more s)
ends_more o h more s r =
    ends_each o (h ++ more)
    ∙ (ap ends_shown (each_append o h more s r)
    ∙ (ends_both (each_shown o h) (each_shown_from more s)
    ∙ ap (λ (l : List PromiseEnd). l ++ ends_shown (each_shown_from more s)) (sym (ends_each o h))))

kept_if : (b : Bool) (there before after st : PromiseState) → (before ≡ st → after ≡ st) → cond b there before ≡ st → cond b there after ≡ st
kept_if true there before after st kept h = h
kept_if false there before after st kept h = kept h

state_kept : (xs ys : List PromiseEnd) (p : ℕ) (st : PromiseState) → promise_state xs p ≡ st → (st ≡ promise.Pending → ⊥) → promise_state (xs ++ ys) p ≡ st
state_kept [] ys p st is ended = absurd (ended (sym is))
state_kept (x ∷ xs) ys p st is ended = kept_if (x.promise == p) (promise_ended x.error) (promise_state xs p) (promise_state (xs ++ ys) p) st (λ h. state_kept xs ys p st h ended) is

-- what has ended stays so
pub ended_stays : (o : Opening) (h more : List Entry) (s : State) (p : ℕ) (st : PromiseState) → replay o h ≡ Some s → promise_after o h p ≡ st → (st ≡ promise.Pending → ⊥) → promise_after o (h ++ more) p ≡ st
ended_stays o h more s p st r is ended =
    ap (λ (l : List PromiseEnd). promise_state l p) (ends_more o h more s r) ∙ state_kept (ends_in (shown o h)) (ends_shown (each_shown_from more s)) p st is ended
