-- What steps see of variables as media go into ports and come out of them.
use Rattle.std.proofs.Common.{ℕ, zero, suc, ◌≡◌, List, [], ◌∷◌, Option, Some, None, refl, ap, sym, ◌∙◌}
use Rattle.std.specs.Prelude.{option_map, option_and_then}
use Rattle.wc_pool.specs.declared.reference.MediaRef.{MediaRef}
use Rattle.report_text.specs.declared.result.StepResult.TheVariants as result
use Rattle.media_variables.specs.Given.{transferred, transferred_at}
use Rattle.media_variables.specs.Held.{WholeMedium, reference_of, seen, seen_in}
use Rattle.media_variables.specs.Variables.{Medium, if_held, if_there, medium_at, post_came, post_held, posted_from, with_medium}
use Rattle.shared_variables.specs.Ports.{whole_posted}

pub seen_at : (vs : List (Option WholeMedium)) (j : ℕ) → medium_at (seen_in vs) j ≡ option_map seen (medium_at vs j)
seen_at [] j = refl
seen_at (v ∷ vs) zero = refl
seen_at (v ∷ vs) (suc j) = seen_at vs j

pub seen_with : (j : ℕ) (m : WholeMedium) (vs : List (Option WholeMedium)) → seen_in (with_medium j m vs) ≡ with_medium j (seen m) (seen_in vs)
seen_with zero m [] = refl
seen_with zero m (v ∷ vs) = refl
seen_with (suc j) m [] = ap (λ (l : List (Option Medium)). None ∷ l) (seen_with j m [])
seen_with (suc j) m (v ∷ vs) = ap (λ (l : List (Option Medium)). option_map seen v ∷ l) (seen_with j m vs)

-- ---- what a post gives

held_answer : (of : ℕ) (vs : List (Option Medium)) (m : WholeMedium) (o : Option MediaRef) → (transferred m o).answer ≡ (post_held of (option_map reference_of o) vs).answer
held_answer of vs m None = refl
held_answer of vs m (Some r) = refl

post_answer : (of : ℕ) (vs : List (Option Medium)) (v : Option WholeMedium) → (transferred_at v).answer ≡ (if_there (option_map seen v) vs (λ m. post_held of m.held vs)).answer
post_answer of vs None = refl
post_answer of vs (Some m) = held_answer of vs m m.held

-- its answer, by what its variable held
pub posted_answer : (of : ℕ) (vs : List (Option WholeMedium)) → (transferred_at (medium_at vs of)).answer ≡ (post_came of (seen_in vs)).answer
posted_answer of vs =
    post_answer of (seen_in vs) (medium_at vs of) ∙ ap (λ (v : Option Medium). (if_there v (seen_in vs) (λ m. post_held of m.held (seen_in vs))).answer) (sym (seen_at vs of))

held_medium : (m : WholeMedium) (o : Option MediaRef) → option_map seen (transferred m o).medium ≡ if_held (seen m) (option_map reference_of o)
held_medium m None = refl
held_medium m (Some r) = refl

post_medium : (v : Option WholeMedium) → option_map seen (transferred_at v).medium ≡ option_and_then (λ m. if_held m m.held) (option_map seen v)
post_medium None = refl
post_medium (Some m) = held_medium m m.held

-- and its medium
pub posted_medium : (of : ℕ) (vs : List (Option WholeMedium)) → option_map seen (whole_posted vs of) ≡ posted_from (seen_in vs) of
posted_medium of vs = post_medium (medium_at vs of) ∙ ap (option_and_then (λ m. if_held m m.held)) (sym (seen_at vs of))

held_done : (w m : WholeMedium) (o : Option MediaRef) → (transferred w o).medium ≡ Some m → (transferred w o).answer ≡ result.Local None
held_done w m None gave = absurd cc
held_done w m (Some r) gave = refl

post_done : (v : Option WholeMedium) (m : WholeMedium) → (transferred_at v).medium ≡ Some m → (transferred_at v).answer ≡ result.Local None
post_done None m gave = absurd cc
post_done (Some w) m gave = held_done w m w.held gave

-- where it gives a medium it went through
pub posted_done : (of : ℕ) (vs : List (Option WholeMedium)) (m : WholeMedium) → whole_posted vs of ≡ Some m → (post_came of (seen_in vs)).answer ≡ result.Local None
posted_done of vs m gave = sym (posted_answer of vs) ∙ post_done (medium_at vs of) m gave
