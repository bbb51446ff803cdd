-- Which variables hold media, and which of these are detached, by the results of their callers' steps.
use Rattle.std.proofs.Common.{ℕ, zero, suc, ◌≡◌, ◌<◌, ◌≤◌, ◌⊎◌, inl, inr, Bool, true, false, cond, List, [], ◌∷◌, length, Option, Some, None, is_some, refl, ap, sym, subst, ◌∙◌, arith}
use Rattle.std.specs.Prelude.{IfSome, slice_get, option_and_then, option_map, unwrap_or, filter, not, ◌==◌, ◌&&◌, ◌||◌}
use Rattle.std.specs.Option.{is_none}
use Rattle.std.proofs.lemmas.{Bool.and_parts, Bool.eqb-true, Bool.eq-eqb, Option.same_Some}
use Rattle.array_buffers.specs.Transfers.{may_transfer}
use Rattle.wc_base.specs.declared.who.Who.{Who}
use Rattle.codec_definitions.specs.declared.unit.Unit as output
use Rattle.codec_definitions.specs.declared.unit.Unit.TheVariants as unit
use Rattle.script_types.specs.{declared.options.Options.Options, declared.steps.MediaStep.MediaStep, declared.steps.Step.Step, declared.steps.InitShape.InitShape, declared.steps.InitData.InitData, declared.steps.BufferedInit.BufferedInit, Names.taken_from}
use Rattle.report_text.specs.declared.result.StepResult.{StepResult}
use Rattle.media_variables.specs.CameLaws.{EachCame, by_came, made_answer}
use Rattle.media_variables.specs.Variables.{Reference, Shape, SoundOf, PictureOf, ChunkOf, BufferOf, Medium, Numbers, Came, Brought, Received, Lendable, buffer_of, buffer_at, is_open_buffer, bytes_in, steps_in, adopted_of, adopted_in, listed_source, all_but, shape_over, takes_buffers, init_makes, init_made, gone_at, lets_go, lets_all, without, medium_at, with_medium, detached, refused, unit_came, lendable_in, media_came}
use Rattle.codec_accounts.specs.Owed.{at}
use Rattle.script_types.specs.declared.script.ScriptData.{ScriptData}
use Rattle.wc_chunk.specs.declared.chunk.Chunk.{Chunk}
use Rattle.media_accounts.specs.Accounts.{step_by, numbers_of, ops_by, media_of, variables_by}
use Rattle.run_model.specs.Recorded.{Recorded, steps_of}
use Rattle.run_model.specs.Fits.{LocalsAreIn, result_in, brought_to, variables_at}
use Rattle.report_reader.proofs.NameLaws.{there}
use Rattle.report_reader.specs.Arguments.{is_ok, gives, is_given, detached_in, is_detached}
use Rattle.report_reader.specs.Tables.{is_named}

-- the bytes of the buffer that a step makes, if it makes one
abbrev pub buffer_made : Step → Option (List ℕ)
buffer_made (Step.Media (MediaStep.Buffer bind bytes)) = Some bytes
buffer_made x = None

-- a buffer that is open has the bytes that its step gave it
abbrev pub IsBuffer : Option (List ℕ) → Option Reference → Type 0
IsBuffer None held = ⊥
IsBuffer (Some bytes) None = Unit {0}
IsBuffer (Some bytes) (Some r) = r.bytes ≡ bytes

-- Of what a variable holds: that its step gave it, whether it is detached, and whether its step made a buffer.
abbrev pub IsSo : Bool → Bool → Option (List ℕ) → Shape → Option Reference → Type 0
IsSo given gone own (SoundOf shape) held = (given ≡ true) × (gone ≡ is_none held) × (own ≡ None)
IsSo given gone own (PictureOf shape) held = (given ≡ true) × (gone ≡ is_none held) × (own ≡ None)
IsSo given gone own (ChunkOf chunk) held = (given ≡ true) × (held ≡ None) × (own ≡ None)
IsSo given gone own BufferOf held = (given ≡ true) × (gone ≡ is_none held) × IsBuffer own held

-- A variable that holds something is one of n steps, and is so; one that holds nothing is not detached, and its step made no buffer.
abbrev pub IsAt : Bool → Bool → Option (List ℕ) → ℕ → ℕ → Option Medium → Type 0
IsAt given gone own j n None = (gone ≡ false) × (j < n → own ≡ None)
IsAt given gone own j n (Some m) = (j < n) × IsSo given gone own m.shape m.held

abbrev pub AreAll : (ℕ → Bool) → (ℕ → Bool) → (ℕ → Option (List ℕ)) → ℕ → List (Option Medium) → Type 0
AreAll given gone own n vs = (j : ℕ) → IsAt (given j) (gone j) (own j) j n (medium_at vs j)

-- what a step detaches beside what was detached
abbrev pub more : (ℕ → Bool) → List ℕ → ℕ → Bool
more gone js j = cond (gone j) true (is_named j js)

-- ---- one variable changes

with_at : (i : ℕ) (m : Medium) (vs : List (Option Medium)) (j : ℕ) → medium_at (with_medium i m vs) j ≡ cond (i == j) (Some m) (medium_at vs j)
with_at zero m [] zero = refl
with_at zero m (v ∷ vs) zero = refl
with_at (suc i) m [] (suc j) = grind (arith, with_at i m [] j)
with_at (suc i) m (v ∷ vs) (suc j) = grind (arith, with_at i m vs j)
with_at _ m [] j = grind arith
with_at _ m (v ∷ vs) j = grind arith

without_at : (i : ℕ) (vs : List (Option Medium)) (j : ℕ) → medium_at (without i vs) j ≡ cond (i == j) (option_map detached (medium_at vs j)) (medium_at vs j)
without_at i [] j = grind arith
without_at zero (None ∷ vs) zero = refl
without_at zero (Some m ∷ vs) zero = refl
without_at zero (v ∷ vs) (suc j) = grind arith
without_at (suc i) (v ∷ vs) zero = grind arith
without_at (suc i) (v ∷ vs) (suc j) = grind (arith, without_at i vs j)

-- what holds of each variable, where the one at a place is changed
either : {A : Type 0} (Q : A → Type 0) (b : Bool) (x y : A) → (b ≡ true → Q x) → (b ≡ false → Q y) → Q (cond b x y)
either Q true x y h k = h refl
either Q false x y h k = k refl

pub within : (c n : ℕ) → (c < n) ⊎ (n ≤ c)
within c zero = inr (omega arith)
within zero (suc n) = inl (omega arith)
within (suc c) (suc n) = elim (within c n) [ inl lt ↦ inl (omega (arith, lt)) | inr le ↦ inr (omega (arith, le)) ]

lt-suc : (j n : ℕ) → j < suc n → (j < n) ⊎ (j ≡ n)
lt-suc j n lt = elim (within j n) [ inl less ↦ inl less | inr le ↦ inr (omega (arith, lt, le)) ]

-- a variable that stays as it was, where one step more is counted
kept : (given gone more : Bool) (own : Option (List ℕ)) (j n : ℕ) (o : Option Medium) → more ≡ gone → (j ≡ n → own ≡ None) → IsAt given gone own j n o → IsAt given more own j (suc n) o
kept given gone more own j n None same new at = (same ∙ at.0, λ lt. elim (lt-suc j n lt) [ inl less ↦ at.1 less | inr is ↦ new is ])
kept given gone more own j n (Some m) same new at = (omega (arith, at.0), subst (λ (b : Bool). IsSo given b own m.shape m.held) (sym same) at.1)

unnamed : (g : Bool) (q : Bool) → q ≡ false → cond g true q ≡ g
unnamed true q h = refl
unnamed false q h = h

-- a detached medium
detached_so : (given gone : Bool) (own : Option (List ℕ)) (shape : Shape) (held : Option Reference) → IsSo given gone own shape held → IsSo given true own shape None
detached_so given gone own (SoundOf shape) held at = (at.0, refl, at.2)
detached_so given gone own (PictureOf shape) held at = (at.0, refl, at.2)
detached_so given gone own (ChunkOf chunk) held at = (at.0, refl, at.2)
detached_so given gone own BufferOf held at = (at.0, refl, buffer_still own held at.2)
  where
    buffer_still : (own : Option (List ℕ)) (held : Option Reference) → IsBuffer own held → IsBuffer own None
    buffer_still None held h = h
    buffer_still (Some bytes) held h = tt

-- ---- tests

by_bool : (A : Type 0) (b : Bool) → (b ≡ true → A) → (b ≡ false → A) → A
by_bool A true h k = h refl
by_bool A false h k = k refl

apart : (i j : ℕ) → (i == j) ≡ false → j ≡ i → ⊥
apart i j other same = (let bad : true ≡ false = sym (eq-eqb i j (sym same)) ∙ other in absurd cc)

named_here : (i : ℕ) (js : List ℕ) → is_named i (i ∷ js) ≡ true
named_here i js = rw (eq-eqb i i refl) refl

named_later : (j i : ℕ) (js : List ℕ) → is_named j js ≡ true → is_named j (i ∷ js) ≡ true
named_later j i js h = rw h (or_true (i == j))
  where
    or_true : (b : Bool) → (b || true) ≡ true
    or_true true = refl
    or_true false = refl

one_named : (i j : ℕ) → (i == j) ≡ true → is_named j (i ∷ []) ≡ true
one_named i j is = rw is refl

one_other : (i j : ℕ) → (i == j) ≡ false → is_named j (i ∷ []) ≡ false
one_other i j is = rw is refl

named_cons : (j i : ℕ) (js : List ℕ) → is_named j (i ∷ js) ≡ true → (i ≡ j) ⊎ (is_named j js ≡ true)
named_cons j i js h = by_bool ((i ≡ j) ⊎ (is_named j js ≡ true)) (i == j) (λ is. inl (eqb-true i j is)) (λ is. inr (rw is at h))

both_named : (g a r : Bool) → cond (cond g true (a || false)) true r ≡ cond g true (a || r)
both_named true a r = refl
both_named false true r = refl
both_named false false r = refl

always : (g : Bool) → cond g true true ≡ true
always true = refl
always false = refl

-- one that holds something, detached where it stands
without_found : (i : ℕ) (vs : List (Option Medium)) (m : Medium) → medium_at vs i ≡ Some m → (j : ℕ) → medium_at (without i vs) j ≡ cond (i == j) (Some (detached m)) (medium_at vs j)
without_found i vs m is j =
    without_at i vs j ∙ by_bool (cond (i == j) (option_map detached (medium_at vs j)) (medium_at vs j) ≡ cond (i == j) (Some (detached m)) (medium_at vs j)) (i == j)
    (λ here. let there : medium_at vs j ≡ Some m = subst (λ (k : ℕ). medium_at vs k ≡ Some m) (eqb-true i j here) is in rw (here, there) refl)
    (λ other. rw other refl)

-- ---- all variables

module _ (given : ℕ → Bool) (own : ℕ → Option (List ℕ)) where
  as_gone : (f g : ℕ → Bool) (n : ℕ) (vs : List (Option Medium)) → ((j : ℕ) → f j ≡ g j) → AreAll given f own n vs → AreAll given g own n vs
  as_gone f g n vs same all j = subst (λ (b : Bool). IsAt (given j) b (own j) j n (medium_at vs j)) (same j) (all j)

  none_more : (f : ℕ → Bool) (n : ℕ) (vs : List (Option Medium)) → AreAll given f own n vs → AreAll given (more f []) own n vs
  none_more f n vs all = as_gone f (more f []) n vs (λ j. sym (unnamed (f j) false refl)) all

  -- the step makes no buffer, and leaves all as they were
  same_all : (f : ℕ → Bool) (n : ℕ) (vs : List (Option Medium)) → own n ≡ None → AreAll given f own n vs → AreAll given f own (suc n) vs
  same_all f n vs none all j = kept (given j) (f j) (f j) (own j) j n (medium_at vs j) refl (λ is. ap own is ∙ none) (all j)

  -- it gives its variable this
  put_all : (f : ℕ → Bool) (n : ℕ) (vs : List (Option Medium)) (m : Medium) → IsSo (given n) (f n) (own n) m.shape m.held → AreAll given f own n vs → AreAll given f own (suc n) (with_medium n m vs)
  put_all f n vs m new all j =
      let At : Option Medium → Type 0 = λ o. IsAt (given j) (f j) (own j) j (suc n) o in
      subst (λ (o : Option Medium). IsAt (given j) (f j) (own j) j (suc n) o) (sym (with_at n m vs j)) (either (λ (o : Option Medium). IsAt (given j) (f j) (own j) j (suc n) o) (n == j) (Some m) (medium_at vs j)
      (λ is. subst (λ (k : ℕ). (k < suc n) × IsSo (given k) (f k) (own k) m.shape m.held) (eqb-true n j is) (omega arith, new))
      (λ is. kept (given j) (f j) (f j) (own j) j n (medium_at vs j) refl (λ same. absurd (apart n j is same)) (all j)))

  -- nothing stands yet where the step's own goes
  new_gone : (f : ℕ → Bool) (n : ℕ) (vs : List (Option Medium)) → AreAll given f own n vs → f n ≡ false
  new_gone f n vs all = nothing_there (medium_at vs n) (all n)
    where
      nothing_there : (o : Option Medium) → IsAt (given n) (f n) (own n) n n o → f n ≡ false
      nothing_there None at = at.0
      nothing_there (Some m) at = absurd (omega (arith, at.0))

  -- a variable is detached
  detach_all : (f : ℕ → Bool) (n i : ℕ) (vs ws : List (Option Medium)) (m : Medium) → medium_at vs i ≡ Some m → ((j : ℕ) → medium_at ws j ≡ cond (i == j) (Some (detached m)) (medium_at vs j)) → AreAll given f own n vs
      → AreAll given (more f (i ∷ [])) own n ws
  detach_all f n i vs ws m is changed all j =
      subst (λ (o : Option Medium). IsAt (given j) (more f (i ∷ []) j) (own j) j n o) (sym (changed j)) (either (λ (o : Option Medium). IsAt (given j) (more f (i ∷ []) j) (own j) j n o) (i == j) (Some (detached m)) (medium_at vs j)
      (λ here.
      let there : medium_at vs j ≡ Some m = subst (λ (k : ℕ). medium_at vs k ≡ Some m) (eqb-true i j here) is in
      let old : (j < n) × IsSo (given j) (f j) (own j) m.shape m.held = subst (λ (o : Option Medium). IsAt (given j) (f j) (own j) j n o) there (all j) in
      let gone : more f (i ∷ []) j ≡ true = ap (λ (b : Bool). cond (f j) true b) (one_named i j here) ∙ always (f j) in
      (old.0, subst (λ (b : Bool). IsSo (given j) b (own j) m.shape None) (sym gone) (detached_so (given j) (f j) (own j) m.shape m.held old.1)))
      (λ other. subst (λ (b : Bool). IsAt (given j) b (own j) j n (medium_at vs j)) (sym (unnamed (f j) (is_named j (i ∷ [])) (one_other i j other))) (all j)))

  -- one that holds no reference is detached as it stands
  ended_all : (f : ℕ → Bool) (n i : ℕ) (vs : List (Option Medium)) (m : Medium) → medium_at vs i ≡ Some m → m.held ≡ None → AreAll given f own n vs → AreAll given (more f (i ∷ [])) own n vs
  ended_all f n i vs m is none all j =
      by_bool (IsAt (given j) (more f (i ∷ []) j) (own j) j n (medium_at vs j)) (i == j)
      (λ here.
      let there : medium_at vs j ≡ Some m = subst (λ (k : ℕ). medium_at vs k ≡ Some m) (eqb-true i j here) is in
      let old : (j < n) × IsSo (given j) (f j) (own j) m.shape m.held = subst (λ (o : Option Medium). IsAt (given j) (f j) (own j) j n o) there (all j) in
      let gone : more f (i ∷ []) j ≡ true = ap (λ (b : Bool). cond (f j) true b) (one_named i j here) ∙ always (f j) in
      let new : IsSo (given j) true (own j) m.shape None = detached_so (given j) (f j) (own j) m.shape m.held old.1 in
      let held : IsSo (given j) (more f (i ∷ []) j) (own j) m.shape m.held =
      subst (λ (b : Bool). IsSo (given j) b (own j) m.shape m.held) (sym gone) (subst (λ (o : Option Reference). IsSo (given j) true (own j) m.shape o) (sym none) new) in
      subst (λ (o : Option Medium). IsAt (given j) (more f (i ∷ []) j) (own j) j n o) (sym there) (old.0, held))
      (λ other. subst (λ (b : Bool). IsAt (given j) b (own j) j n (medium_at vs j)) (sym (unnamed (f j) (is_named j (i ∷ [])) (one_other i j other))) (all j))

  -- ---- buffers that are let go

  -- a variable whose step made a buffer
  abbrev MadeBuffer : ℕ → ℕ → Type 0
  MadeBuffer n i = (bytes : List ℕ) × ((own i ≡ Some bytes) × (i < n))

  let_one : (f : ℕ → Bool) (n i : ℕ) (vs : List (Option Medium)) → MadeBuffer n i → AreAll given f own n vs → AreAll given (more f (i ∷ [])) own n (gone_at (buffer_at vs i) i vs)
  let_one f n i vs made all = found (medium_at vs i) refl (all i)
    where
      other : (own i ≡ None) → ⊥
      other none = let bad : None ≡ Some made.0 = sym none ∙ made.1.0 in absurd cc

      held_by : (m : Medium) (shape : Shape) (held : Option Reference) → m.held ≡ held → medium_at vs i ≡ Some m → IsSo (given i) (f i) (own i) shape held → AreAll given (more f (i ∷ [])) own n (gone_at (buffer_of shape held) i vs)
      held_by m BufferOf None holds is at = ended_all f n i vs m is holds all
      held_by m BufferOf (Some r) holds is at = detach_all f n i vs (without i vs) m is (without_found i vs m is) all
      held_by m (SoundOf shape) held holds is at = absurd (other at.2)
      held_by m (PictureOf shape) held holds is at = absurd (other at.2)
      held_by m (ChunkOf chunk) held holds is at = absurd (other at.2)

      found : (o : Option Medium) → medium_at vs i ≡ o → IsAt (given i) (f i) (own i) i n o → AreAll given (more f (i ∷ [])) own n (gone_at (option_and_then (λ (m : Medium). buffer_of m.shape m.held) o) i vs)
      found None is at = absurd (other (at.1 made.1.1))
      found (Some m) is at = held_by m m.shape m.held refl is at.1

  let_all : (f : ℕ → Bool) (n : ℕ) (js : List ℕ) (c : Came) → ((i : ℕ) → is_named i js ≡ true → MadeBuffer n i) → AreAll given f own n c.variables → AreAll given (more f js) own n (lets_all js c).variables
  let_all f n [] c made all = none_more f n c.variables all
  let_all f n (i ∷ js) c made all =
      as_gone (more (more f (i ∷ [])) js) (more f (i ∷ js)) n (lets_all js (lets_go i c)).variables (λ j. both_named (f j) (i == j) (is_named j js))
      (let_all (more f (i ∷ [])) n js (lets_go i c) (λ j is. made j (named_later j i js is)) (let_one f n i c.variables (made i (named_here i js)) all))

  -- a buffer that is open was made as one
  open_made : (f : ℕ → Bool) (n i : ℕ) (vs : List (Option Medium)) → AreAll given f own n vs → is_open_buffer vs i ≡ true → (m : Medium) × ((r : Reference) × ((medium_at vs i ≡ Some m) × (buffer_at vs i ≡ Some r))) × MadeBuffer n i
  open_made f n i vs all opens = found (medium_at vs i) refl (all i) opens
    where
      Found : Type 0
      Found = (m : Medium) × ((r : Reference) × ((medium_at vs i ≡ Some m) × (buffer_at vs i ≡ Some r))) × MadeBuffer n i

      made_of : (o : Option (List ℕ)) (r : Reference) → own i ≡ o → IsBuffer o (Some r) → i < n → MadeBuffer n i
      made_of None r is h lt = absurd h
      made_of (Some bytes) r is h lt = (bytes, (is, lt))

      held_by : (m : Medium) (shape : Shape) (held : Option Reference) → m.shape ≡ shape → m.held ≡ held → medium_at vs i ≡ Some m → i < n → IsSo (given i) (f i) (own i) shape held → is_some (buffer_of shape held) ≡ true → Found
      held_by m BufferOf (Some r) formed holds is lt at opens =
          (m, (r, (is, ap (option_and_then (λ (x : Medium). buffer_of x.shape x.held)) is ∙ ap (λ (s : Shape). buffer_of s m.held) formed ∙ holds)), made_of (own i) r refl at.2 lt)
      held_by m BufferOf None formed holds is lt at opens = absurd cc
      held_by m (SoundOf shape) held formed holds is lt at opens = absurd cc
      held_by m (PictureOf shape) held formed holds is lt at opens = absurd cc
      held_by m (ChunkOf chunk) held formed holds is lt at opens = absurd cc

      found : (o : Option Medium) → medium_at vs i ≡ o → IsAt (given i) (f i) (own i) i n o → is_some (option_and_then (λ (m : Medium). buffer_of m.shape m.held) o) ≡ true → Found
      found None is at opens = absurd cc
      found (Some m) is at opens = held_by m m.shape m.held refl refl is at.0 at.1 opens

-- ---- lists of buffers

open_named : (is_open : ℕ → Bool) (js : List ℕ) → may_transfer is_open js ≡ true → (i : ℕ) → is_named i js ≡ true → is_open i ≡ true
open_named is_open [] may i named = absurd cc
open_named is_open (j ∷ js) may i named =
    let both = and_parts (is_open j && not (is_named j js)) (may_transfer is_open js) may in
    elim (named_cons i j js named) [
      | inl same ↦ subst (λ (k : ℕ). is_open k ≡ true) same (and_parts (is_open j) (not (is_named j js)) both.0).0
      | inr later ↦ open_named is_open js both.1 i later
    ]

abbrev one : Option ℕ → List ℕ
one None = []
one (Some k) = k ∷ []

but_one : (k j : ℕ) (js : List ℕ) → is_named j (filter (λ i. not (i == k)) js) ≡ true → is_named j js ≡ true
but_one k j [] h = h
but_one k j (i ∷ js) h = by_bool (is_named j (i ∷ js) ≡ true) (i == k)
    (λ here. named_later j i js (but_one k j js (rw here at h)))
    (λ other. elim (named_cons j i (filter (λ x. not (x == k)) js) (rw other at h)) [
      | inl same ↦ subst (λ (n : ℕ). is_named n (i ∷ js) ≡ true) same (named_here i js)
      | inr later ↦ named_later j i js (but_one k j js later)
    ])

but_named : (k : Option ℕ) (j : ℕ) (js : List ℕ) → is_named j (all_but k js) ≡ true → is_named j js ≡ true
but_named None j js h = h
but_named (Some k) j js h = but_one k j js h

filter_named : (k j : ℕ) (js : List ℕ) → (k == j) ≡ false → is_named j (filter (λ i. not (i == k)) js) ≡ is_named j js
filter_named k j [] other = refl
filter_named k j (i ∷ js) other = by_bool (is_named j (filter (λ x. not (x == k)) (i ∷ js)) ≡ is_named j (i ∷ js)) (i == k)
    (λ here. let last : (i == j) ≡ false = subst (λ (n : ℕ). (n == j) ≡ false) (sym (eqb-true i k here)) other in rw (here, last) (filter_named k j js other))
    (λ there. rw there (ap (λ (b : Bool). (i == j) || b) (filter_named k j js other)))

-- the buffer that is taken over, and the others, are those of the list
split : (k : Option ℕ) (js : List ℕ) (g : Bool) (j : ℕ) → ((x : ℕ) → k ≡ Some x → is_named x js ≡ true) → cond (cond g true (is_named j (one k))) true (is_named j (all_but k js)) ≡ cond g true (is_named j js)
split None js true j named = refl
split None js false j named = refl
split (Some k) js g j named = by_bool (cond (cond g true (is_named j (k ∷ []))) true (is_named j (filter (λ i. not (i == k)) js)) ≡ cond g true (is_named j js)) (k == j)
    (λ here. let there : is_named j js ≡ true = subst (λ (n : ℕ). is_named n js ≡ true) (eqb-true k j here) (named k refl) in rw (one_named k j here, there) (twice g (is_named j (filter (λ i. not (i == k)) js))))
    (λ other. rw (one_other k j other, filter_named k j js other) (none_first g (is_named j js)))
  where
    twice : (g r : Bool) → cond (cond g true true) true r ≡ cond g true true
    twice true r = refl
    twice false r = refl

    none_first : (g r : Bool) → cond (cond g true false) true r ≡ cond g true r
    none_first true r = refl
    none_first false r = refl

listed : (v k : ℕ) (js : List ℕ) (b : Bool) → is_named v js ≡ b → cond b (Some v) None ≡ Some k → is_named k js ≡ true
listed v k js true here is = subst (λ (n : ℕ). is_named n js ≡ true) (same_Some v k is) here
listed v k js false here is = absurd cc

source_named : (js : List ℕ) (content : InitData) (k : ℕ) → listed_source js content ≡ Some k → is_named k js ≡ true
source_named js (InitData.Hex bytes) k is = absurd cc
source_named js (InitData.Buffer v) k is = listed v.step k js (is_named v.step js) refl is

-- what is taken over is on the list, by audio data or a frame
source_listed : (shape : InitShape) (js : List ℕ) (content : InitData) (k : ℕ) → adopted_of shape (listed_source js content) ≡ Some k → (is_named k js ≡ true) × (takes_buffers shape ≡ true)
source_listed (InitShape.Chunk key timestamp duration) js content k is = absurd cc
source_listed (InitShape.Sound shape) js content k is = (source_named js content k is, refl)
source_listed (InitShape.Picture shape) js content k is = (source_named js content k is, refl)

lets_answer : (js : List ℕ) (c : Came) → (lets_all js c).answer ≡ c.answer
lets_answer [] c = refl
lets_answer (j ∷ js) c = lets_answer js (lets_go j c)

-- ---- every step

-- What is known of the result of a step on media: what it gives its variable where an output was taken, and else its answer.
abbrev IsAnswered : Brought → MediaStep → StepResult → StepResult → Type 0
IsAnswered b x answer r = elim (taken_from (Step.Media x)) [ None ↦ r ≡ answer | Some on ↦ IfSome b.taken (λ t. gives r ≡ true) ]

-- a buffer is made without an exception
abbrev IsMade : MediaStep → StepResult → Type 0
IsMade (MediaStep.Buffer bind bytes) answer = is_ok answer ≡ true
IsMade x answer = Unit {0}

-- no step made a buffer that is cloned or handed on
abbrev pub IsUsed : (ℕ → Option (List ℕ)) → MediaStep → Type 0
IsUsed own (MediaStep.Clone of bind) = own of.step ≡ None
IsUsed own (MediaStep.Transfer of bind) = own of.step ≡ None
IsUsed own x = Unit {0}

-- what a step with this result detaches
abbrev gone_by : Step → StepResult → List ℕ
gone_by x r = cond (is_ok r) (detached_in x) []

none_either : (b : Bool) → ◌≡◌ {A = List ℕ} (cond b [] []) []
none_either true = refl
none_either false = refl

-- a step that is refused detaches nothing
stays : (b : Brought) (x : MediaStep) (answer r : StepResult) → is_ok answer ≡ false → IsAnswered b x answer r → gone_by (Step.Media x) r ≡ []
stays b (MediaStep.Take on bind kind) answer r fails k = none_either (is_ok r)
stays b x answer r fails k = rw (k, fails) refl

-- nor does it make a buffer
makes_none : (x : MediaStep) (answer : StepResult) → is_ok answer ≡ false → IsMade x answer → buffer_made (Step.Media x) ≡ None
makes_none (MediaStep.Buffer bind bytes) answer fails made = (let bad : true ≡ false = sym made ∙ fails in absurd cc)
makes_none x answer fails made = refl

-- what goes on in another variable, where it is no buffer
goes_on : (given gone given_on gone_on : Bool) (own own_on : Option (List ℕ)) (shape : Shape) (held : Option Reference) (q r : Reference) → held ≡ Some q → own ≡ None → IsSo given gone own shape held → given_on ≡ true → gone_on ≡ false → own_on ≡ None → IsSo given_on gone_on own_on shape (Some r)
goes_on given gone given_on gone_on own own_on (SoundOf shape) held q r holds none at gave left new = (gave, left, new)
goes_on given gone given_on gone_on own own_on (PictureOf shape) held q r holds none at gave left new = (gave, left, new)
goes_on given gone given_on gone_on own own_on (ChunkOf chunk) held q r holds none at gave left new = (let bad : None ≡ Some q = sym at.1 ∙ holds in absurd cc)
goes_on given gone given_on gone_on own own_on BufferOf held q r holds none at gave left new = absurd (subst (λ (o : Option (List ℕ)). IsBuffer o held) none at.2)

over_so : (given gone : Bool) (own : Option (List ℕ)) (shape : InitShape) (held : Option Reference) (r : Reference) → takes_buffers shape ≡ true → held ≡ Some r → given ≡ true → gone ≡ false → own ≡ None → IsSo given gone own (shape_over shape) held
over_so given gone own (InitShape.Sound shape) held r takes holds gave left new = (gave, left ∙ ap (λ (o : Option Reference). is_none o) (sym holds), new)
over_so given gone own (InitShape.Picture shape) held r takes holds gave left new = (gave, left ∙ ap (λ (o : Option Reference). is_none o) (sym holds), new)
over_so given gone own (InitShape.Chunk key timestamp duration) held r takes holds gave left new = absurd cc

buffer_so : (bytes : List ℕ) (own : Option (List ℕ)) (r : Reference) → own ≡ Some bytes → r.bytes ≡ bytes → IsBuffer own (Some r)
buffer_so bytes own r new same = subst (λ (o : Option (List ℕ)). IsBuffer o (Some r)) (sym new) same

-- what is received is open, and no buffer
abbrev pub IsGot : Brought → Type 0
IsGot b = (q : Received) → b.received ≡ Some q → IsSo true false None q.medium.shape q.medium.held

module _ (p : Numbers) (who : Who) (b : Brought) (given : ℕ → Bool) (own : ℕ → Option (List ℕ)) (f : ℕ → Bool) (vs : List (Option Medium)) (r : StepResult) (all : AreAll given f own who.step vs) where
  -- what is to be shown of a step that leaves these variables
  abbrev After : MediaStep → List (Option Medium) → Type 0
  After x ws = AreAll given (more f (gone_by (Step.Media x) r)) own (suc who.step) ws

  after_gone : (x : MediaStep) (js : List ℕ) (ws : List (Option Medium)) → gone_by (Step.Media x) r ≡ js → AreAll given (more f js) own (suc who.step) ws → After x ws
  after_gone x js ws is h = subst (λ (ks : List ℕ). AreAll given (more f ks) own (suc who.step) ws) (sym is) h

  after_none : (x : MediaStep) (ws : List (Option Medium)) → gone_by (Step.Media x) r ≡ [] → AreAll given f own (suc who.step) ws → After x ws
  after_none x ws is h = after_gone x [] ws is (none_more given own f (suc who.step) ws h)

  quiet : (x : MediaStep) → gone_by (Step.Media x) r ≡ [] → own who.step ≡ None → After x vs
  quiet x is none = after_none x vs is (same_all given own f who.step vs none all)

  refused_all : (x : MediaStep) (answer : StepResult) → is_ok answer ≡ false → IsAnswered b x answer r → IsMade x answer → own who.step ≡ buffer_made (Step.Media x) → After x vs
  refused_all x answer fails k made new = quiet x (stays b x answer r fails k) (new ∙ makes_none x answer fails made)

  -- the step gives its variable this
  gives_all : (x : MediaStep) (m : Medium) → gone_by (Step.Media x) r ≡ [] → IsSo (given who.step) (f who.step) (own who.step) m.shape m.held → After x (with_medium who.step m vs)
  gives_all x m is new = after_none x (with_medium who.step m vs) is (put_all given own f who.step vs m new all)

  left : f who.step ≡ false
  left = new_gone given own f who.step vs all

  left_more : (i : ℕ) → i < who.step → more f (i ∷ []) who.step ≡ false
  left_more i lt = by_bool (more f (i ∷ []) who.step ≡ false) (i == who.step)
      (λ here. absurd (omega (arith, eqb-true i who.step here, lt)))
      (λ other. unnamed (f who.step) (is_named who.step (i ∷ [])) (one_other i who.step other) ∙ left)

  unit_all : (x : MediaStep) (answer : StepResult) (u : output.Unit) → gone_by (Step.Media x) r ≡ [] → given who.step ≡ true → own who.step ≡ None → After x (unit_came p who.step answer u vs).variables
  unit_all x answer (unit.Sound s) is gave none = gives_all x _ is (gave, left, none)
  unit_all x answer (unit.Image s) is gave none = gives_all x _ is (gave, left, none)
  unit_all x answer (unit.Coded chunk config) is gave none = gives_all x _ is (gave, refl, none)

  medium_so : (i : ℕ) (m : Medium) → medium_at vs i ≡ Some m → (i < who.step) × IsSo (given i) (f i) (own i) m.shape m.held
  medium_so i m is = subst (λ (o : Option Medium). IsAt (given i) (f i) (own i) i who.step o) is (all i)

  moved_all : (i : ℕ) (m : Medium) (q : Reference) → medium_at vs i ≡ Some m → m.held ≡ Some q → own i ≡ None → given who.step ≡ true → own who.step ≡ None
      → AreAll given (more f (i ∷ [])) own (suc who.step) (with_medium who.step m (with_medium i (detached m) vs))
  moved_all i m q is holds unmade gave none =
      let at = medium_so i m is in
      let new = goes_on (given i) (f i) (given who.step) (more f (i ∷ []) who.step) (own i) (own who.step) m.shape m.held q q holds unmade at.1 gave (left_more i at.0) none in
      put_all given own (more f (i ∷ [])) who.step (with_medium i (detached m) vs) m
      (subst (λ (o : Option Reference). IsSo (given who.step) (more f (i ∷ []) who.step) (own who.step) m.shape o) (sym holds) new)
      (detach_all given own f who.step i vs (with_medium i (detached m) vs) m is (with_at i (detached m) vs) all)

  -- ---- an init

  init_one : (shape : InitShape) (bytes : List ℕ) → given who.step ≡ true → own who.step ≡ None → AreAll given f own (suc who.step) (init_makes p who.step shape bytes vs).variables
  init_one (InitShape.Chunk key timestamp duration) bytes gave none = put_all given own f who.step vs _ (gave, refl, none) all
  init_one (InitShape.Sound shape) bytes gave none = put_all given own f who.step vs _ (gave, left, none) all
  init_one (InitShape.Picture shape) bytes gave none = put_all given own f who.step vs _ (gave, left, none) all

  module _ (i : BufferedInit) (may : may_transfer (is_open_buffer vs) (steps_in i.transfer) ≡ true) (gave : given who.step ≡ true) (none : own who.step ≡ None) where
    opened : (j : ℕ) → is_named j (steps_in i.transfer) ≡ true → (m : Medium) × ((q : Reference) × ((medium_at vs j ≡ Some m) × (buffer_at vs j ≡ Some q))) × MadeBuffer given own who.step j
    opened j named = open_made given own f who.step j vs all (open_named (is_open_buffer vs) (steps_in i.transfer) may j named)

    made_one : (k : Option ℕ) → adopted_in i ≡ k → AreAll given (more f (one k)) own (suc who.step) (init_made p who.step i k vs).variables
    made_one None is = none_more given own f (suc who.step) (init_made p who.step i None vs).variables (init_one i.shape (bytes_in i.content vs) gave none)
    made_one (Some k) is =
        let source = source_listed i.shape (steps_in i.transfer) i.content k is in
        let o = opened k source.0 in
        put_all given own (more f (k ∷ [])) who.step (without k vs) (record { shape = shape_over i.shape; held = buffer_at vs k })
        (over_so (given who.step) (more f (k ∷ []) who.step) (own who.step) i.shape (buffer_at vs k) o.1.0 source.1 o.1.1.1 gave (left_more k o.2.1.1) none)
        (detach_all given own f who.step k vs (without k vs) o.0 o.1.1.0 (without_found k vs o.0 o.1.1.0) all)

    init_all : (k : Option ℕ) → adopted_in i ≡ k → AreAll given (more f (steps_in i.transfer)) own (suc who.step) (lets_all (all_but k (steps_in i.transfer)) (init_made p who.step i k vs)).variables
    init_all k is =
        let js = steps_in i.transfer in
        as_gone given own (more (more f (one k)) (all_but k js)) (more f js) (suc who.step) (lets_all (all_but k js) (init_made p who.step i k vs)).variables
        (λ j. split k js (f j) j (λ x same. (source_listed i.shape js i.content x (is ∙ same)).0))
        (let_all given own (more f (one k)) (suc who.step) (all_but k js) (init_made p who.step i k vs)
        (λ j named. let o = (opened j (but_named k j js named)).2 in (o.0, (o.1.0, omega (arith, o.1.1)))) (made_one k is))

  -- each kind of step
  each_all : given who.step ≡ gives r → IsGot b
      → EachCame p who b vs (λ x y. IsAnswered b x y.answer r → IsMade x y.answer → IsUsed own x → own who.step ≡ buffer_made (Step.Media x) → After x y.variables)
  each_all gave got = record {
    refuses = λ x e k made used new. refused_all x (refused e) refl k made new;
    absent = λ x k made used new. refused_all x StepResult.Absent refl k made new;
    audio = λ bind i k made used new. gives_all (MediaStep.Audio bind (Some i)) _ (none_either (is_ok r)) (gave ∙ ap gives k, left, new);
    frame = λ bind i k made used new. gives_all (MediaStep.Frame bind (Some i)) _ (none_either (is_ok r)) (gave ∙ ap gives k, left, new);
    buffer = λ bind bytes k made used new. gives_all (MediaStep.Buffer bind bytes) _ (none_either (is_ok r)) (gave ∙ ap gives k, left, buffer_so bytes (own who.step) _ new refl);
    buffered = λ bind i valid may k made used new.
        let answer = k ∙ lets_answer (all_but (adopted_in i) (steps_in i.transfer)) (init_made p who.step i (adopted_in i) vs) ∙ made_answer p who.step i (adopted_in i) vs in
        after_gone (MediaStep.Buffered bind i) (steps_in i.transfer) (lets_all (all_but (adopted_in i) (steps_in i.transfer)) (init_made p who.step i (adopted_in i) vs)).variables
        (ap (λ (x : StepResult). gone_by (Step.Media (MediaStep.Buffered bind i)) x) answer) (init_all i may (gave ∙ ap gives answer) new (adopted_in i) refl);
    posts = λ to content m q is holds k made used new.
        after_gone (MediaStep.Post to content) (content.step ∷ []) (without content.step vs) (ap (λ (x : StepResult). gone_by (Step.Media (MediaStep.Post to content)) x) k)
        (same_all given own (more f (content.step ∷ [])) who.step (without content.step vs) new (detach_all given own f who.step content.step vs (without content.step vs) m is (without_found content.step vs m is) all));
    receives_none = λ from bind kind is k made used new. quiet (MediaStep.Receive from bind kind) (none_either (is_ok r)) new;
    receives = λ from bind kind q is k made used new.
        let so = got q is in
        let gave_this : given who.step ≡ true = gave ∙ ap gives k in
        gives_all (MediaStep.Receive from bind kind) q.medium (none_either (is_ok r))
        (subst (λ (x : Bool). IsSo x (f who.step) (own who.step) q.medium.shape q.medium.held) (sym gave_this)
        (subst (λ (x : Bool). IsSo true x (own who.step) q.medium.shape q.medium.held) (sym left)
        (subst (λ (x : Option (List ℕ)). IsSo true false x q.medium.shape q.medium.held) (sym new) so)));
    takes = λ on bind kind t is k made used new. unit_all (MediaStep.Take on bind kind) t.answer t.unit (none_either (is_ok r)) (gave ∙ rw is at k) new;
    clones = λ of bind m q is holds k made used new.
        let at = medium_so of.step m is in
        gives_all (MediaStep.Clone of bind) _ (none_either (is_ok r)) (goes_on (given of.step) (f of.step) (given who.step) (f who.step) (own of.step) (own who.step) m.shape m.held q _ holds used at.1 (gave ∙ ap gives k) left new);
    transfers = λ of bind m q is holds k made used new.
        after_gone (MediaStep.Transfer of bind) (of.step ∷ []) (with_medium who.step m (with_medium of.step (detached m) vs)) (ap (λ (x : StepResult). gone_by (Step.Media (MediaStep.Transfer of bind)) x) k)
        (moved_all of.step m q is holds used (gave ∙ ap gives k) new);
    closed = λ of m is holds k made used new.
        after_gone (MediaStep.CloseData of) (of.step ∷ []) vs (ap (λ (x : StepResult). gone_by (Step.Media (MediaStep.CloseData of)) x) k)
        (same_all given own (more f (of.step ∷ [])) who.step vs new (ended_all given own f who.step of.step vs m is holds all));
    closes = λ of m q is holds k made used new.
        after_gone (MediaStep.CloseData of) (of.step ∷ []) (with_medium of.step (detached m) vs) (ap (λ (x : StepResult). gone_by (Step.Media (MediaStep.CloseData of)) x) k)
        (same_all given own (more f (of.step ∷ [])) who.step (with_medium of.step (detached m) vs) new (detach_all given own f who.step of.step vs (with_medium of.step (detached m) vs) m is (with_at of.step (detached m) vs) all));
    copies_chunk = λ of size k made used new. quiet (MediaStep.Copy of Options.Nothing size) (none_either (is_ok r)) new;
    copies = λ of o size m is k made used new. quiet (MediaStep.Copy of o size) (none_either (is_ok r)) new;
    sizes = λ of o m is k made used new. quiet (MediaStep.Size of o) (none_either (is_ok r)) new;
  }

  -- a step that comes to nothing here, as an encode or a take that found no output
  comes_to_none : (x : MediaStep) → media_came p who b x vs ≡ None → (detached_in (Step.Media x) ≡ []) × (buffer_made (Step.Media x) ≡ None)
  comes_to_none (MediaStep.Buffer bind bytes) is = absurd cc
  comes_to_none (MediaStep.Buffered bind i) is = absurd cc
  comes_to_none (MediaStep.Transfer of bind) is = absurd cc
  comes_to_none (MediaStep.CloseData of) is = absurd cc
  comes_to_none (MediaStep.Post to content) is = absurd cc
  comes_to_none x is = (refl, refl)

  made_by : (x : MediaStep) (y : Came) → media_came p who b x vs ≡ Some y → IsMade x y.answer
  made_by (MediaStep.Buffer bind bytes) y is = sym (ap (λ (c : Came). is_ok c.answer) (same_Some _ y is))
  made_by x y is = tt

  came_all : (x : MediaStep) → given who.step ≡ gives r → IsGot b → ((y : Came) → media_came p who b x vs ≡ Some y → IsAnswered b x y.answer r) → IsUsed own x → own who.step ≡ buffer_made (Step.Media x)
      → (o : Option Came) → media_came p who b x vs ≡ o → After x (variables_by o vs)
  came_all x gave got a used new None is =
      let none = comes_to_none x is in
      quiet x (ap (λ (js : List ℕ). cond (is_ok r) js []) none.0 ∙ none_either (is_ok r)) (new ∙ none.1)
  came_all x gave got a used new (Some y) is = by_came p who b vs _ (each_all gave got) x y is (a y is) (made_by x y is) used new

-- what is known of a step that has this result
abbrev HasResult : Numbers → Who → (MediaStep → Brought) → Option Step → List (Option Medium) → StepResult → Type 0
HasResult p who brings o vs r = (x : MediaStep) → o ≡ Some (Step.Media x) → (y : Came) → media_came p who (brings x) x vs ≡ Some y → IsAnswered (brings x) x y.answer r

-- what is known of a step on media beside
abbrev pub IsKnown : (ℕ → Option (List ℕ)) → (MediaStep → Brought) → Option Step → Type 0
IsKnown own brings o = (x : MediaStep) → o ≡ Some (Step.Media x) → IsGot (brings x) × IsUsed own x

-- the variables that a step with this result detaches
abbrev gone_of : Option StepResult → Option Step → List ℕ
gone_of result o = unwrap_or (option_and_then (λ x. option_map (λ answer. cond (is_ok answer) (detached_in x) []) result) o) []

step_all : (p : Numbers) (who : Who) (brings : MediaStep → Brought) (o : Option Step) (given : ℕ → Bool) (own : ℕ → Option (List ℕ)) (f : ℕ → Bool) (vs : List (Option Medium)) (r : StepResult)
    → given who.step ≡ gives r → HasResult p who brings o vs r → IsKnown own brings o → own who.step ≡ option_and_then buffer_made o → AreAll given f own who.step vs
    → AreAll given (more f (gone_of (Some r) o)) own (suc who.step) (variables_by (option_and_then (λ y. media_came p who (brings y) y vs) (option_and_then media_of o)) vs)
step_all p who brings None given own f vs r gave a known new all = none_more given own f (suc who.step) vs (same_all given own f who.step vs new all)
step_all p who brings (Some (Step.Media x)) given own f vs r gave a known new all = came_all p who (brings x) given own f vs r all x gave (known x refl).0 (a x refl) (known x refl).1 new _ refl
step_all p who brings (Some x) given own f vs r gave a known new all =
    subst (λ (js : List ℕ). AreAll given (more f js) own (suc who.step) vs) (sym (none_either (is_ok r))) (none_more given own f (suc who.step) vs (same_all given own f who.step vs new all))

-- ---- what is known of a run

-- the bytes of the buffers that a caller's steps make
abbrev pub buffers_of : ScriptData → ℕ → ℕ → Option (List ℕ)
buffers_of s c j = option_and_then buffer_made (slice_get (steps_of s c) j)

-- what a report's results tell of what the variables hold after n steps
abbrev pub AreStanding : ScriptData → List (List Chunk) → Recorded → ℕ → ℕ → Type 0
AreStanding s files w c n = AreAll (is_given (at c w.callers)) (is_detached (steps_of s c) (at c w.callers) n) (buffers_of s c) n (variables_at s files w c n)

module _ (s : ScriptData) (files : List (List Chunk)) (w : Recorded) (locals : LocalsAreIn s files w) (c : ℕ) where
  -- each step that has a result is so
  made_so : (n : ℕ) (r : StepResult) → result_in w c n ≡ Some r → HasResult (numbers_of (ops_by c n w.pool)) (step_by c n) (brought_to s files w c n) (slice_get (steps_of s c) n) (variables_at s files w c n) r
  made_so n r there x is y comes = grind (arith, locals c n (Step.Media x) r is there, there, is, comes)

  -- the results of a caller, up to a step that was made, tell of its variables whether they are detached
  pub all_stand : (n : ℕ) → ((m : ℕ) (r : StepResult) → m < n → result_in w c m ≡ Some r → IsKnown (buffers_of s c) (brought_to s files w c m) (slice_get (steps_of s c) m)) → n ≤ length (at c w.callers) → AreStanding s files w c n
  all_stand zero known le = λ j. (refl, λ lt. absurd (omega (arith, lt)))
  all_stand (suc n) known le =
      let results = at c w.callers in
      let here = there results n (omega (arith, le)) in
      subst (λ (o : Option StepResult). AreAll (is_given results) (more (is_detached (steps_of s c) results n) (gone_of o (slice_get (steps_of s c) n))) (buffers_of s c) (suc n) (variables_at s files w c (suc n))) (sym here.1)
      (step_all (numbers_of (ops_by c n w.pool)) (step_by c n) (brought_to s files w c n) (slice_get (steps_of s c) n) (is_given results) (buffers_of s c) (is_detached (steps_of s c) results n) (variables_at s files w c n) here.0
      (ap (λ (o : Option StepResult). elim o [ None ↦ false | Some answer ↦ gives answer ]) here.1) (made_so n here.0 here.1) (known n here.0 (omega arith) here.1) refl (all_stand n (λ m r lt. known m r (omega (arith, lt))) (omega (arith, le))))

-- what a report's results tell of audio data or a frame that a variable holds after n steps
pub record IsStanding (steps : List Step) (results : List StepResult) (n j : ℕ) (x : Lendable) : Type 0 where
  pub given : is_given results j ≡ true
  pub gone : is_detached steps results n j ≡ is_none x.held

pub lendable_stands : (given gone : Bool) (own : Option (List ℕ)) (j n : ℕ) (o : Option Medium) (x : Lendable) → IsAt given gone own j n o → option_and_then lendable_in o ≡ Some x → (given ≡ true) × (gone ≡ is_none x.held)
lendable_stands given gone own j n o x at lent = grind (arith, at, lent)
