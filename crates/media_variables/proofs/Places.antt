-- What a caller's variables hold as one of them changes.
use Rattle.std.proofs.Common.{ℕ, zero, suc, ◌≡◌, ◌<◌, ◌≤◌, List, [], ◌∷◌, ◌++◌, length, map, get_or, Option, Some, None, refl, ap, sym, ◌∙◌, arith}
use Rattle.std.proofs.lemmas.Option.{slice_get_read, slice_get_past}
use Rattle.std.specs.Prelude.{slice_get, slice_set, option_map, option_and_then}
use Rattle.media_variables.specs.Variables.{Medium, changed_at, without, medium_at, variables_of, with_medium, detached, lendable_in, lendable_at}
use Rattle.media_variables.specs.Held.{WholeMedium, seen, seen_in, without_reference, lendable_of_variable}
use Rattle.media_variables.specs.Given.{given_to}

pub medium_read : {X : Type 0} (vs : List (Option X)) (j : ℕ) (v : Option X) → j < length vs → v ≡ get_or vs j v → medium_at vs j ≡ v
medium_read {X} vs j v lt is = ap (option_and_then (λ (w : Option X). w)) (slice_get_read vs (length vs) j v refl lt is)

pub medium_past : {X : Type 0} (vs : List (Option X)) (j : ℕ) → length vs ≤ j → medium_at vs j ≡ None
medium_past {X} vs j beyond = ap (option_and_then (λ (w : Option X). w)) (slice_get_past vs j beyond)

set_changed : {X : Type 0} (f : X → X) (vs : List (Option X)) (j : ℕ) (v : Option X) → slice_get vs j ≡ Some v → slice_set vs j (option_map f v) ≡ changed_at f j vs
set_changed f [] j v h = absurd cc
set_changed {X} f (w ∷ vs) zero v h = let same : w ≡ v = cc in ap (λ (x : Option X). option_map f x ∷ vs) (sym same)
set_changed {X} f (w ∷ vs) (suc j) v h = ap (λ (l : List (Option X)). w ∷ l) (set_changed f vs j v h)

-- the variable that was read is changed
pub changed_there : {X : Type 0} (f : X → X) (vs : List (Option X)) (j : ℕ) (v new : Option X) → j < length vs → v ≡ get_or vs j v → new ≡ option_map f v → slice_set vs j new ≡ changed_at f j vs
changed_there f vs j v new lt is made =
    ap (slice_set vs j) made ∙ set_changed f vs j v (slice_get_read vs (length vs) j v refl lt is)

set_same : {X : Type 0} (vs : List (Option X)) (j : ℕ) (v : Option X) → slice_get vs j ≡ Some v → slice_set vs j v ≡ vs
set_same [] j v h = refl
set_same {X} (w ∷ vs) zero v h = let same : w ≡ v = cc in ap (λ (x : Option X). x ∷ vs) (sym same)
set_same {X} (w ∷ vs) (suc j) v h = ap (λ (l : List (Option X)). w ∷ l) (set_same vs j v h)

-- the variable that was read is put back
pub set_back : {X : Type 0} (vs : List (Option X)) (j : ℕ) (v new : Option X) → j < length vs → v ≡ get_or vs j v → new ≡ v → slice_set vs j new ≡ vs
set_back vs j v new lt is same =
    ap (slice_set vs j) same ∙ set_same vs j v (slice_get_read vs (length vs) j v refl lt is)

pub changed_past : {X : Type 0} (f : X → X) (vs : List (Option X)) (j : ℕ) → length vs ≤ j → changed_at f j vs ≡ vs
changed_past f [] j beyond = refl
changed_past f (w ∷ vs) zero beyond = absurd (omega arith)
changed_past {X} f (w ∷ vs) (suc j) beyond = ap (λ (l : List (Option X)). w ∷ l) (changed_past f vs j (omega arith))

pub without_there : (vs : List (Option Medium)) (j : ℕ) (m : Medium) → medium_at vs j ≡ Some m → without j vs ≡ with_medium j (detached m) vs
without_there [] j m h = absurd cc
without_there (w ∷ vs) zero m h = ap (λ (x : Option Medium). option_map detached x ∷ vs) h
without_there (w ∷ vs) (suc j) m h = ap (λ (l : List (Option Medium)). w ∷ l) (without_there vs j m h)

-- nothing changes where nothing is held
pub without_same : (vs : List (Option Medium)) (j : ℕ) → option_map detached (medium_at vs j) ≡ medium_at vs j → without j vs ≡ vs
without_same [] j h = refl
without_same (w ∷ vs) zero h = ap (λ (x : Option Medium). x ∷ vs) h
without_same (w ∷ vs) (suc j) h = ap (λ (l : List (Option Medium)). w ∷ l) (without_same vs j h)

pub with_padded : {X : Type 0} (j : ℕ) (m : X) (vs : List (Option X)) → length vs ≤ j → with_medium j m (vs ++ None ∷ []) ≡ with_medium j m vs
with_padded zero m [] h = refl
with_padded zero m (v ∷ vs) h = absurd (omega arith)
with_padded (suc j) m [] h = refl
with_padded {X} (suc j) m (v ∷ vs) h = ap (λ (l : List (Option X)). v ∷ l) (with_padded j m vs (omega arith))

pub set_with : {X : Type 0} (j : ℕ) (m : X) (vs : List (Option X)) → j < length vs → slice_set vs j (Some m) ≡ with_medium j m vs
set_with j m [] h = absurd (omega arith)
set_with zero m (v ∷ vs) h = refl
set_with {X} (suc j) m (v ∷ vs) h = ap (λ (l : List (Option X)). v ∷ l) (set_with j m vs (omega arith))

pub medium_here : {X : Type 0} (j : ℕ) (m : X) (vs : List (Option X)) → medium_at (with_medium j m vs) j ≡ Some m
medium_here zero m [] = refl
medium_here zero m (v ∷ vs) = refl
medium_here (suc j) m [] = medium_here j m []
medium_here (suc j) m (v ∷ vs) = medium_here j m vs

pub medium_else : {X : Type 0} (j : ℕ) (m : X) (vs : List (Option X)) (i : ℕ) → (i ≡ j → ⊥) → medium_at (with_medium j m vs) i ≡ medium_at vs i
medium_else zero m [] zero apart = absurd (apart refl)
medium_else zero m [] (suc i) apart = refl
medium_else zero m (v ∷ vs) zero apart = absurd (apart refl)
medium_else zero m (v ∷ vs) (suc i) apart = refl
medium_else (suc j) m [] zero apart = refl
medium_else (suc j) m [] (suc i) apart = medium_else j m [] i (λ e. apart (ap suc e))
medium_else (suc j) m (v ∷ vs) zero apart = refl
medium_else (suc j) m (v ∷ vs) (suc i) apart = medium_else j m vs i (λ e. apart (ap suc e))

pub changed_here : {X : Type 0} (f : X → X) (j : ℕ) (vs : List (Option X)) → medium_at (changed_at f j vs) j ≡ option_map f (medium_at vs j)
changed_here f j [] = refl
changed_here f zero (v ∷ vs) = refl
changed_here f (suc j) (v ∷ vs) = changed_here f j vs

pub changed_else : {X : Type 0} (f : X → X) (j : ℕ) (vs : List (Option X)) (i : ℕ) → (i ≡ j → ⊥) → medium_at (changed_at f j vs) i ≡ medium_at vs i
changed_else f j [] i apart = refl
changed_else f zero (v ∷ vs) zero apart = absurd (apart refl)
changed_else f zero (v ∷ vs) (suc i) apart = refl
changed_else f (suc j) (v ∷ vs) zero apart = refl
changed_else f (suc j) (v ∷ vs) (suc i) apart = changed_else f j vs i (λ e. apart (ap suc e))

-- ---- as steps see them

pub map_twice : {A B C : Type 0} (f : B → C) (g : A → B) (o : Option A) → option_map (λ x. f (g x)) o ≡ option_map f (option_map g o)
map_twice f g None = refl
map_twice f g (Some x) = refl

pub seen_at : (vs : List (Option WholeMedium)) (j : ℕ) → medium_at (seen_in vs) j ≡ option_map seen (medium_at vs j)
seen_at [] j = refl
seen_at (v ∷ vs) zero = refl
seen_at (v ∷ vs) (suc j) = seen_at vs j

lendable_seen : (v : Option WholeMedium) → option_and_then lendable_in (option_map seen v) ≡ lendable_of_variable v
lendable_seen None = refl
lendable_seen (Some m) = refl

-- what is lent of the variable that was read
pub lendable_read : (vs : List (Option WholeMedium)) (j : ℕ) (v : Option WholeMedium) → medium_at vs j ≡ v → lendable_at (seen_in vs) j ≡ lendable_of_variable v
lendable_read vs j v at = ap (option_and_then lendable_in) (seen_at vs j ∙ ap (option_map seen) at) ∙ lendable_seen v

pub seen_with : (j : ℕ) (m : WholeMedium) (vs : List (Option WholeMedium)) → seen_in (with_medium j m vs) ≡ with_medium j (seen m) (seen_in vs)
seen_with zero m [] = refl
seen_with zero m (v ∷ vs) = refl
seen_with (suc j) m [] = ap (λ (l : List (Option Medium)). None ∷ l) (seen_with j m [])
seen_with (suc j) m (v ∷ vs) = ap (λ (l : List (Option Medium)). option_map seen v ∷ l) (seen_with j m vs)

pub seen_given : (j : ℕ) (m : Option WholeMedium) (vs : List (Option WholeMedium)) → seen_in (given_to j m vs) ≡ given_to j (option_map seen m) (seen_in vs)
seen_given j None vs = refl
seen_given j (Some m) vs = seen_with j m vs

pub seen_without : (j : ℕ) (vs : List (Option WholeMedium)) → seen_in (changed_at without_reference j vs) ≡ without j (seen_in vs)
seen_without j [] = refl
seen_without zero (None ∷ vs) = refl
seen_without zero (Some m ∷ vs) = refl
seen_without (suc j) (v ∷ vs) = ap (λ (l : List (Option Medium)). option_map seen v ∷ l) (seen_without j vs)

set_seen : (vs : List (Option WholeMedium)) (j : ℕ) (v new : Option WholeMedium) → slice_get vs j ≡ Some v → option_map seen new ≡ option_map seen v → seen_in (slice_set vs j new) ≡ seen_in vs
set_seen [] j v new there same = refl
set_seen (w ∷ vs) zero v new there same = let is : w ≡ v = cc in ap (λ (x : Option Medium). x ∷ seen_in vs) (same ∙ ap (option_map seen) (sym is))
set_seen (w ∷ vs) (suc j) v new there same = ap (λ (l : List (Option Medium)). option_map seen w ∷ l) (set_seen vs j v new there same)

-- the variable that was read is seen as it was
pub seen_there : (vs : List (Option WholeMedium)) (j : ℕ) (v new : Option WholeMedium) → j < length vs → v ≡ get_or vs j v → option_map seen new ≡ option_map seen v → seen_in (slice_set vs j new) ≡ seen_in vs
seen_there vs j v new lt is same = set_seen vs j v new (slice_get_read vs (length vs) j v refl lt is) same

pub variables_here : (k : ℕ) (vs : List (Option Medium)) (all : List (List (Option Medium))) → k < length all → variables_of k (slice_set all k vs) ≡ vs
variables_here k vs [] h = absurd (omega arith)
variables_here zero vs (l ∷ ls) h = refl
variables_here (suc k) vs (l ∷ ls) h = variables_here k vs ls (omega arith)

pub variables_else : (k : ℕ) (vs : List (Option Medium)) (all : List (List (Option Medium))) (l : ℕ) → (l ≡ k → ⊥) → variables_of l (slice_set all k vs) ≡ variables_of l all
variables_else k vs [] l apart = refl
variables_else zero vs (x ∷ xs) zero apart = absurd (apart refl)
variables_else zero vs (x ∷ xs) (suc l) apart = refl
variables_else (suc k) vs (x ∷ xs) zero apart = refl
variables_else (suc k) vs (x ∷ xs) (suc l) apart = variables_else k vs xs l (λ e. apart (ap suc e))

-- the variables that were read, put back
pub variables_back : (k : ℕ) (all : List (List (Option Medium))) → slice_set all k (variables_of k all) ≡ all
variables_back k [] = refl
variables_back zero (x ∷ xs) = refl
variables_back (suc k) (x ∷ xs) = ap (λ (l : List (List (Option Medium))). x ∷ l) (variables_back k xs)

pub set_again : (k : ℕ) (a b : List (Option Medium)) (all : List (List (Option Medium))) → slice_set (slice_set all k a) k b ≡ slice_set all k b
set_again k a b [] = refl
set_again zero a b (x ∷ xs) = refl
set_again (suc k) a b (x ∷ xs) = ap (λ (l : List (List (Option Medium))). x ∷ l) (set_again k a b xs)

-- a caller that is not there has no variables
pub variables_past : (k : ℕ) (all : List (List (Option Medium))) → length all ≤ k → variables_of k all ≡ []
variables_past k [] beyond = refl
variables_past zero (x ∷ xs) beyond = absurd (omega arith)
variables_past (suc k) (x ∷ xs) beyond = variables_past k xs (omega arith)

-- the variables of all, as steps see them
pub callers_set : (k : ℕ) (vs : List (Option WholeMedium)) (all : List (List (Option WholeMedium))) → map seen_in (slice_set all k vs) ≡ slice_set (map seen_in all) k (seen_in vs)
callers_set k vs [] = refl
callers_set zero vs (x ∷ xs) = refl
callers_set (suc k) vs (x ∷ xs) = ap (λ (l : List (List (Option Medium))). seen_in x ∷ l) (callers_set k vs xs)

seen_within : (k : ℕ) (all : List (List (Option WholeMedium))) (vs : List (Option WholeMedium)) → slice_get all k ≡ Some vs → variables_of k (map seen_in all) ≡ seen_in vs
seen_within k [] vs h = absurd cc
seen_within zero (x ∷ xs) vs h = (let same : x ≡ vs = cc in ap seen_in same)
seen_within (suc k) (x ∷ xs) vs h = seen_within k xs vs h

-- what one of them reads
pub seen_read : (k : ℕ) (all : List (List (Option WholeMedium))) (vs : List (Option WholeMedium)) → k < length all → vs ≡ get_or all k vs → variables_of k (map seen_in all) ≡ seen_in vs
seen_read k all vs lt is = seen_within k all vs (slice_get_read all (length all) k vs refl lt is)
