-- What variables hold, step after step: what their audio data, frames and buffers are, and the chunks that were taken or made.
use Rattle.std.proofs.Common.{ℕ, zero, suc, ◌≡◌, ◌<◌, inl, inr, ◌⊎◌, Bool, true, false, cond, List, [], ◌∷◌, length, take, Option, Some, None, refl, ap, sym, subst, ◌∙◌, arith}
use Rattle.std.specs.Prelude.{◌||◌, ◌==◌, nat_lt, slice_get, IfSome, option_map, option_and_then}
use Rattle.std.proofs.lemmas.Bool.{eq-eqb, ltb-false, ne_eqb}
use Rattle.std.proofs.lemmas.Option.{option_and_then_some, same_Some}
use Rattle.wc_base.specs.declared.who.Who.{Who}
use Rattle.wc_chunk.specs.declared.chunk.Chunk.{Chunk}
use Rattle.picture_planes.specs.Planes.{picture_size}
use Rattle.wc_audio.specs.Sound.{needed}
use Rattle.codec_definitions.specs.declared.unit.Unit as output
use Rattle.codec_definitions.specs.declared.unit.Unit.TheVariants as unit
use Rattle.wc_pool.specs.declared.entry.PoolEntry.{PoolEntry}
use Rattle.codec_model.specs.declared.entry.MediaShape.{MediaShape}
use Rattle.script_types.specs.declared.steps.{VariableKind.VariableKind, MediaStep.MediaStep, Step.Step, InitShape.InitShape, InitData.InitData, BufferedInit.BufferedInit}
use Rattle.report_text.specs.declared.result.StepResult.{StepResult}
use Rattle.media_variables.specs.CameLaws.{EachCame, came_each}
use Rattle.media_variables.specs.Variables.{Reference, Shape, SoundOf, PictureOf, ChunkOf, BufferOf, Medium, Numbers, Came, Taken, Received, Brought, Lendable, buffer_of, buffer_at, bytes_held, bytes_in, is_invalid_init, steps_in, adopted_of, adopted_in, listed_source, is_listed, all_but, shape_over, init_makes, init_made, gone_at, lets_go, lets_all, without, content_in, medium_at, with_medium, detached, unit_came, chunk_in_medium, lendable_in, media_came}
use Rattle.media_accounts.specs.Accounts.{step_by, ops_by, numbers_of, media_of, variables_by, variables_in}
use Rattle.media_accounts.specs.Contents.{Kept, MediumOf, BytesOf, medium_kept, bytes_kept, content_of_unit, chunk_of_unit, content_of_init, chunk_of_init, bytes_of_init, From, kept_by, kept_before, chunk_made, IsOf, IsKept, IsFrom, ContentsAreKept, ChunksAreGiven}

abbrev Is : Option Kept → (Chunk → Type 0) → Medium → Type 0
Is kept gave m = IsOf kept gave m.shape m.held

-- each of the variables of n steps is what was kept of it; a chunk was given by its own step
abbrev AreAll : (ℕ → Option Kept) → (ℕ → Chunk → Type 0) → ℕ → List (Option Medium) → Type 0
AreAll kept gave n vs = (j : ℕ) (m : Medium) → medium_at vs j ≡ Some m → (j < n) × Is (kept j) (gave j) m

-- ---- one variable changes

with_at : (i : ℕ) (m : Medium) (vs : List (Option Medium)) (j : ℕ) (x : Medium) → medium_at (with_medium i m vs) j ≡ Some x → ((j ≡ i) × (x ≡ m)) ⊎ (medium_at vs j ≡ Some x)
with_at zero m [] zero x h = inl (refl, cc)
with_at zero m (v ∷ vs) zero x h = inl (refl, cc)
with_at zero m (v ∷ vs) (suc j) x h = inr h
with_at (suc i) m [] (suc j) x h = elim (with_at i m [] j x h) [ inl e ↦ inl (ap suc e.0, e.1) | inr e ↦ inr e ]
with_at (suc i) m (v ∷ vs) zero x h = inr h
with_at (suc i) m (v ∷ vs) (suc j) x h = elim (with_at i m vs j x h) [ inl e ↦ inl (ap suc e.0, e.1) | inr e ↦ inr e ]
with_at _ m _ _ x h = absurd cc

put_one : (f : ℕ → Option Kept) (gave : ℕ → Chunk → Type 0) (n : ℕ) (vs : List (Option Medium)) (i : ℕ) (m : Medium) → i < n → Is (f i) (gave i) m → AreAll f gave n vs → AreAll f gave n (with_medium i m vs)
put_one f gave n vs i m lt new all j x is = elim (with_at i m vs j x is) [
  | inl e ↦ rw (e.0, e.1) (lt, new)
  | inr e ↦ all j x e
]

-- what is detached holds no reference
without_held : (s : Option Kept) (gave : Chunk → Type 0) (shape : Shape) (held : Option Reference) → IsOf s gave shape held → IsOf s gave shape None
without_held s gave (ChunkOf chunk) held old = (refl, old.1)
without_held s gave (SoundOf shape) held old = tt
without_held s gave (PictureOf shape) held old = tt
without_held s gave BufferOf held old = tt

detached_one : (f : ℕ → Option Kept) (gave : ℕ → Chunk → Type 0) (n : ℕ) (vs : List (Option Medium)) (i : ℕ) (m : Medium) → medium_at vs i ≡ Some m → AreAll f gave n vs → AreAll f gave n (with_medium i (detached m) vs)
detached_one f gave n vs i m there all = let old = all i m there in put_one f gave n vs i (detached m) old.0 (without_held (f i) (gave i) m.shape m.held old.1) all

-- a variable that is detached where it stands
changed_from : (i : ℕ) (vs : List (Option Medium)) (j : ℕ) (x : Medium) → medium_at (without i vs) j ≡ Some x → (m : Medium) × ((medium_at vs j ≡ Some m) × ((x ≡ m) ⊎ (x ≡ detached m)))
changed_from i [] j x h = absurd cc
changed_from zero (None ∷ vs) zero x h = absurd cc
changed_from zero (Some m ∷ vs) zero x h = (m, (refl, inr (sym (same_Some (detached m) x h))))
changed_from zero (v ∷ vs) (suc j) x h = (x, (h, inl refl))
changed_from (suc i) (v ∷ vs) zero x h = (x, (h, inl refl))
changed_from (suc i) (v ∷ vs) (suc j) x h = changed_from i vs j x h

without_one : (f : ℕ → Option Kept) (gave : ℕ → Chunk → Type 0) (n : ℕ) (vs : List (Option Medium)) (i : ℕ) → AreAll f gave n vs → AreAll f gave n (without i vs)
without_one f gave n vs i all j x is =
    let was = changed_from i vs j x is in
    let old = all j was.0 was.1.0 in
    elim (was.1.1) [
      | inl same ↦ (old.0, subst (λ (m : Medium). Is (f j) (gave j) m) (sym same) old.1)
      | inr gone ↦ (old.0, subst (λ (m : Medium). Is (f j) (gave j) m) (sym gone) (without_held (f j) (gave j) was.0.shape was.0.held old.1))
    ]

gone_one : (f : ℕ → Option Kept) (gave : ℕ → Chunk → Type 0) (n : ℕ) (vs : List (Option Medium)) (i : ℕ) (o : Option Reference) → AreAll f gave n vs → AreAll f gave n (gone_at o i vs)
gone_one f gave n vs i None all = all
gone_one f gave n vs i (Some r) all = without_one f gave n vs i all

all_gone : (f : ℕ → Option Kept) (gave : ℕ → Chunk → Type 0) (n : ℕ) (js : List ℕ) (c : Came) → AreAll f gave n c.variables → AreAll f gave n (lets_all js c).variables
all_gone f gave n [] c all = all
all_gone f gave n (j ∷ js) c all = all_gone f gave n js (lets_go j c) (gone_one f gave n c.variables j (buffer_at c.variables j) all)

-- what is handed on, or cloned, is what it was; a chunk holds no reference, and is neither
handed_on : (s t : Option Kept) (u v : Chunk → Type 0) (shape : Shape) (held : Option Reference) (r q : Reference) → t ≡ s → q.bytes ≡ r.bytes → held ≡ Some r → IsOf s u shape held → IsOf t v shape (Some q)
handed_on s t u v (SoundOf shape) (Some x) r q gives same holds old = (let its : q.bytes ≡ x.bytes = cc in gives ∙ old ∙ ap (λ (b : List ℕ). Some (MediumOf (record { shape = MediaShape.Sound shape; bytes = take (needed shape) b }))) (sym its))
handed_on s t u v (PictureOf shape) (Some x) r q gives same holds old = (let its : q.bytes ≡ x.bytes = cc in gives ∙ old ∙ ap (λ (b : List ℕ). Some (MediumOf (record { shape = MediaShape.Image shape; bytes = take (picture_size shape) b }))) (sym its))
handed_on s t u v BufferOf (Some x) r q gives same holds old = (let its : q.bytes ≡ x.bytes = cc in gives ∙ old ∙ ap (λ (b : List ℕ). Some (BytesOf b)) (sym its))
handed_on s t u v (ChunkOf chunk) held r q gives same holds old = (let none = old.0 in absurd cc)
handed_on s t u v (SoundOf shape) None r q gives same holds old = absurd cc
handed_on s t u v (PictureOf shape) None r q gives same holds old = absurd cc
handed_on s t u v BufferOf None r q gives same holds old = absurd cc

-- what is received, which is no chunk
got_one : (s : Option Kept) (gave : Chunk → Type 0) (shape : Shape) (held : Option Reference) → IsOf s (λ chunk. ⊥) shape held → IsOf s gave shape held
got_one s gave (ChunkOf chunk) held old = absurd old.1
got_one s gave (SoundOf shape) None old = tt
got_one s gave (SoundOf shape) (Some r) old = old
got_one s gave (PictureOf shape) None old = tt
got_one s gave (PictureOf shape) (Some r) old = old
got_one s gave BufferOf None old = tt
got_one s gave BufferOf (Some r) old = old

-- ---- the bytes of an init

take_again : (n : ℕ) (l : List ℕ) → take n (take n l) ≡ take n l
take_again zero l = refl
take_again (suc n) [] = refl
take_again (suc n) (x ∷ l) = ap (λ (k : List ℕ). x ∷ k) (take_again n l)

or_last : (a b : Bool) → (a || b) ≡ false → b ≡ false
or_last true b h = absurd cc
or_last false b h = h

-- where an init of no bytes is valid, it needs none
none_needed : (n : ℕ) (l : List ℕ) → nat_lt 0 n ≡ false → [] ≡ take n l
none_needed zero l h = refl
none_needed (suc n) l h = (let none = ltb-false 0 (suc n) h in absurd (omega (arith, none)))

-- the bytes that an open buffer has are those that its step gave it
buffer_kept : (s : Option Kept) (gave : Chunk → Type 0) (shape : Shape) (held : Option Reference) (r : Reference) → IsOf s gave shape held → buffer_of shape held ≡ Some r → bytes_kept s ≡ r.bytes
buffer_kept s gave BufferOf (Some q) r known is = ap bytes_kept known ∙ ap (λ (x : Reference). x.bytes) (same_Some q r is)
buffer_kept s gave BufferOf None r known is = absurd cc
buffer_kept s gave (SoundOf shape) held r known is = absurd cc
buffer_kept s gave (PictureOf shape) held r known is = absurd cc
buffer_kept s gave (ChunkOf chunk) held r known is = absurd cc

module _ (f : ℕ → Option Kept) (gave : ℕ → Chunk → Type 0) (n : ℕ) (vs : List (Option Medium)) (all : AreAll f gave n vs) where
  open_kept : (j : ℕ) (v : Option Medium) (r : Reference) → medium_at vs j ≡ v → buffer_at vs j ≡ Some r → bytes_kept (f j) ≡ r.bytes
  open_kept j None r there is = (let none : None ≡ Some r = sym (ap (option_and_then (λ (m : Medium). buffer_of m.shape m.held)) there) ∙ is in absurd cc)
  open_kept j (Some m) r there is = buffer_kept (f j) (gave j) m.shape m.held r (all j m there).1 (sym (ap (option_and_then (λ (x : Medium). buffer_of x.shape x.held)) there) ∙ is)

  held_bytes : (j k : ℕ) (o : Option Reference) → buffer_at vs j ≡ o → nat_lt (length (bytes_held o)) k ≡ false → take k (bytes_held o) ≡ take k (bytes_kept (f j))
  held_bytes j k None is valid = sym (none_needed k [] valid) ∙ none_needed k (bytes_kept (f j)) valid
  held_bytes j k (Some r) is valid = ap (take k) (sym (open_kept j (medium_at vs j) r refl is))

  -- cut to what is needed, the bytes of a valid init are those that the buffer's step gave it
  init_bytes : (content : InitData) (k : ℕ) → nat_lt (length (bytes_in content vs)) k ≡ false → take k (bytes_in content vs) ≡ take k (bytes_of_init f content)
  init_bytes (InitData.Hex bytes) k valid = refl
  init_bytes (InitData.Buffer v) k valid = held_bytes v.step k (buffer_at vs v.step) refl valid

-- ---- every step

-- what is known of earlier variables stays where one step more is counted
abbrev Later : (ℕ → Option Kept) → (ℕ → Option Kept) → ℕ → Type 0
Later f g n = (j : ℕ) → j < n → g j ≡ f j

-- what is known of a step: what is brought to it, and what it gives its variable
record IsStep (f g : ℕ → Option Kept) (from : ℕ → From) (gave : ℕ → Chunk → Type 0) (n : ℕ) (b : Brought) (vs : List (Option Medium)) (x : MediaStep) : Type 0 where
  took : (on : ℕ) (bind : List ℕ) (kind : VariableKind) (t : Taken) → x ≡ MediaStep.Take on bind kind → b.taken ≡ Some t → (from n).taken ≡ Some t.unit
  got : (port : ℕ) (bind : List ℕ) (kind : VariableKind) (p : Received) → x ≡ MediaStep.Receive port bind kind → b.received ≡ Some p → IsKept (option_map MediumOf (from n).received) p.medium
  gives : g n ≡ kept_by f (from n) (Step.Media x)
  takes : (chunk : Chunk) → option_and_then chunk_of_unit (from n).taken ≡ Some chunk → gave n chunk
  makes : (chunk : Chunk) → chunk_made vs (Step.Media x) ≡ Some chunk → gave n chunk

module _ (p : Numbers) (who : Who) (f g : ℕ → Option Kept) (from : ℕ → From) (gave : ℕ → Chunk → Type 0) (later : Later f g who.step) where
  abbrev After : List (Option Medium) → Type 0
  After ws = AreAll g gave (suc who.step) ws

  module _ (vs : List (Option Medium)) (all : AreAll f gave who.step vs) where
    one_more : After vs
    one_more j m is =
        let old = all j m is in
        let lt : j < suc who.step = omega (arith, old.0) in
        (lt, subst (λ (s : Option Kept). Is s (gave j) m) (sym (later j old.0)) old.1)

    -- the step gives its variable this
    given_one : (m : Medium) → Is (g who.step) (gave who.step) m → After (with_medium who.step m vs)
    given_one m new = put_one g gave (suc who.step) vs who.step m (omega arith) new one_more

    unit_all : (answer : StepResult) (u : output.Unit) → (from who.step).taken ≡ Some u → g who.step ≡ option_map MediumOf (option_and_then content_of_unit (from who.step).taken)
        → ((chunk : Chunk) → option_and_then chunk_of_unit (from who.step).taken ≡ Some chunk → gave who.step chunk) → After (unit_came p who.step answer u vs).variables
    unit_all answer (unit.Sound x) is gives takes = given_one _ (gives ∙ ap (λ (o : Option output.Unit). option_map MediumOf (option_and_then content_of_unit o)) is)
    unit_all answer (unit.Image x) is gives takes = given_one _ (gives ∙ ap (λ (o : Option output.Unit). option_map MediumOf (option_and_then content_of_unit o)) is)
    unit_all answer (unit.Coded chunk config) is gives takes = given_one _ (refl, takes chunk (ap (option_and_then chunk_of_unit) is))

    -- what an init makes, of its bytes
    init_all : (shape : InitShape) (content : InitData) → is_invalid_init shape (length (bytes_in content vs)) ≡ false → g who.step ≡ option_map MediumOf (content_of_init shape (bytes_of_init f content))
        → ((chunk : Chunk) → chunk_of_init shape (bytes_in content vs) ≡ Some chunk → gave who.step chunk) → After (init_makes p who.step shape (bytes_in content vs) vs).variables
    init_all (InitShape.Chunk key timestamp duration) content valid gives makes = given_one _ (refl, makes _ refl)
    init_all (InitShape.Sound shape) content valid gives makes =
        let bytes = bytes_in content vs in
        let enough = or_last ((shape.rate == 0) || (shape.frames == 0) || (shape.channels == 0)) (nat_lt (length bytes) (needed shape)) valid in
        let same = take_again (needed shape) bytes ∙ init_bytes f gave who.step vs all content (needed shape) enough in
        given_one _ (gives ∙ ap (λ (b : List ℕ). Some (MediumOf (record { shape = MediaShape.Sound shape; bytes = b }))) (sym same))
    init_all (InitShape.Picture shape) content valid gives makes =
        let bytes = bytes_in content vs in
        let enough = or_last ((shape.width == 0) || (shape.height == 0)) (nat_lt (length bytes) (picture_size shape)) valid in
        let same = take_again (picture_size shape) bytes ∙ init_bytes f gave who.step vs all content (picture_size shape) enough in
        given_one _ (gives ∙ ap (λ (b : List ℕ). Some (MediumOf (record { shape = MediaShape.Image shape; bytes = b }))) (sym same))

    -- over the reference of a buffer
    over_all : (shape : InitShape) (k : ℕ) (o : Option Reference) → buffer_at vs k ≡ o → adopted_of shape (Some k) ≡ Some k → g who.step ≡ option_map MediumOf (content_of_init shape (bytes_kept (f k)))
        → Is (g who.step) (gave who.step) (record { shape = shape_over shape; held = o })
    over_all (InitShape.Chunk key timestamp duration) k o is medium gives = absurd cc
    over_all (InitShape.Sound shape) k None is medium gives = tt
    over_all (InitShape.Sound shape) k (Some r) is medium gives = gives ∙ ap (λ (b : List ℕ). Some (MediumOf (record { shape = MediaShape.Sound shape; bytes = take (needed shape) b }))) (open_kept f gave who.step vs all k (medium_at vs k) r refl is)
    over_all (InitShape.Picture shape) k None is medium gives = tt
    over_all (InitShape.Picture shape) k (Some r) is medium gives = gives ∙ ap (λ (b : List ℕ). Some (MediumOf (record { shape = MediaShape.Image shape; bytes = take (picture_size shape) b }))) (open_kept f gave who.step vs all k (medium_at vs k) r refl is)

  -- the buffer that is taken over is the data
  source_is : (shape : InitShape) (js : List ℕ) (content : InitData) (k : ℕ) → adopted_of shape (listed_source js content) ≡ Some k → (adopted_of shape (Some k) ≡ Some k) × (bytes_of_init f content ≡ bytes_kept (f k))
  source_is shape js (InitData.Hex bytes) k is = none_adopted shape k is
    where
      none_adopted : (shape : InitShape) (k : ℕ) → adopted_of shape None ≡ Some k → (adopted_of shape (Some k) ≡ Some k) × (bytes_of_init f (InitData.Hex bytes) ≡ bytes_kept (f k))
      none_adopted (InitShape.Chunk key timestamp duration) k is = absurd cc
      none_adopted (InitShape.Sound shape) k is = absurd cc
      none_adopted (InitShape.Picture shape) k is = absurd cc
  source_is shape js (InitData.Buffer v) k is = listed (is_listed v.step js) shape is
    where
      listed : (b : Bool) (shape : InitShape) → adopted_of shape (cond b (Some v.step) None) ≡ Some k → (adopted_of shape (Some k) ≡ Some k) × (bytes_kept (f v.step) ≡ bytes_kept (f k))
      listed false (InitShape.Chunk key timestamp duration) is = absurd cc
      listed false (InitShape.Sound shape) is = absurd cc
      listed false (InitShape.Picture shape) is = absurd cc
      listed true (InitShape.Chunk key timestamp duration) is = absurd cc
      listed true (InitShape.Sound shape) is = (refl, ap (λ (n : ℕ). bytes_kept (f n)) (same_Some v.step k is))
      listed true (InitShape.Picture shape) is = (refl, ap (λ (n : ℕ). bytes_kept (f n)) (same_Some v.step k is))

  made_all : (vs : List (Option Medium)) (all : AreAll f gave who.step vs) (i : BufferedInit) (k : Option ℕ) → adopted_in i ≡ k → is_invalid_init i.shape (length (bytes_in i.content vs)) ≡ false → g who.step ≡ option_map MediumOf (content_of_init i.shape (bytes_of_init f i.content))
      → ((chunk : Chunk) → chunk_of_init i.shape (bytes_in i.content vs) ≡ Some chunk → gave who.step chunk) → After (init_made p who.step i k vs).variables
  made_all vs all i None is valid gives makes = init_all vs all i.shape i.content valid gives makes
  made_all vs all i (Some k) is valid gives makes =
      let source = source_is i.shape (steps_in i.transfer) i.content k is in
      given_one (without k vs) (without_one f gave who.step vs k all) (record { shape = shape_over i.shape; held = buffer_at vs k })
      (over_all vs all i.shape k (buffer_at vs k) refl source.0 (gives ∙ ap (λ (b : List ℕ). option_map MediumOf (content_of_init i.shape b)) source.1))

  module _ (vs : List (Option Medium)) (all : AreAll f gave who.step vs) where
    each_all : (b : Brought) → EachCame p who b vs (λ x y. IsStep f g from gave who.step b vs x → After y.variables)
    each_all b = record {
      refuses = λ x e k. one_more vs all;
      absent = λ x k. one_more vs all;
      audio = λ bind i k. given_one vs all _ (k.gives ∙ ap (λ (l : List ℕ). Some (MediumOf (record { shape = MediaShape.Sound i.shape; bytes = l }))) (sym (take_again (needed i.shape) i.content)));
      frame = λ bind i k. given_one vs all _ (k.gives ∙ ap (λ (l : List ℕ). Some (MediumOf (record { shape = MediaShape.Image i.shape; bytes = l }))) (sym (take_again (picture_size i.shape) i.content)));
      buffer = λ bind bytes k. given_one vs all _ k.gives;
      buffered = λ bind i valid may k. all_gone g gave (suc who.step) (all_but (adopted_in i) (steps_in i.transfer)) _ (made_all vs all i (adopted_in i) refl valid k.gives k.makes);
      posts = λ to content m r is holds k. one_more (without content.step vs) (without_one f gave who.step vs content.step all);
      receives_none = λ port bind kind is k. one_more vs all;
      receives = λ port bind kind q is k. given_one vs all q.medium (subst (λ (s : Option Kept). Is s (gave who.step) q.medium) (sym k.gives) (got_one (option_map MediumOf (from who.step).received) (gave who.step) q.medium.shape q.medium.held (k.got port bind kind q refl is)));
      takes = λ on bind kind t is k. unit_all vs all t.answer t.unit (k.took on bind kind t refl is) k.gives k.takes;
      clones = λ of bind m r is holds k.
          given_one vs all _ (handed_on (f of.step) (g who.step) (gave of.step) (gave who.step) m.shape m.held r (record r { number = p.reference }) k.gives refl holds (all of.step m is).1);
      transfers = λ of bind m r is holds k.
          given_one (with_medium of.step (detached m) vs) (detached_one f gave who.step vs of.step m is all) m
          (subst (IsOf (g who.step) (gave who.step) m.shape) (sym holds) (handed_on (f of.step) (g who.step) (gave of.step) (gave who.step) m.shape m.held r r k.gives refl holds (all of.step m is).1));
      closed = λ of m is holds k. one_more vs all;
      closes = λ of m r is holds k. one_more (with_medium of.step (detached m) vs) (detached_one f gave who.step vs of.step m is all);
      copies_chunk = λ of size k. one_more vs all;
      copies = λ of o size m is k. one_more vs all;
      sizes = λ of o m is k. one_more vs all;
    }

    came_all : (o : Option Came) (K : Type 0) → IfSome o (λ y. K → After y.variables) → K → After (variables_by o vs)
    came_all None K each k = one_more vs all
    came_all (Some y) K each k = each k

    -- what is known of the step that was made, if it is on media
    record Knows (brings : MediaStep → Brought) (o : Option Step) : Type 0 where
      took : (on : ℕ) (bind : List ℕ) (kind : VariableKind) (t : Taken) → o ≡ Some (Step.Media (MediaStep.Take on bind kind)) → (brings (MediaStep.Take on bind kind)).taken ≡ Some t → (from who.step).taken ≡ Some t.unit
      got : (port : ℕ) (bind : List ℕ) (kind : VariableKind) (q : Received) → o ≡ Some (Step.Media (MediaStep.Receive port bind kind)) → (brings (MediaStep.Receive port bind kind)).received ≡ Some q → IsKept (option_map MediumOf (from who.step).received) q.medium
      gives : g who.step ≡ option_and_then (kept_by f (from who.step)) o
      takes : (chunk : Chunk) → option_and_then chunk_of_unit (from who.step).taken ≡ Some chunk → gave who.step chunk
      makes : (chunk : Chunk) → option_and_then (chunk_made vs) o ≡ Some chunk → gave who.step chunk

    step_all : (brings : MediaStep → Brought) (o : Option Step) → Knows brings o → After (variables_by (option_and_then (λ y. media_came p who (brings y) y vs) (option_and_then media_of o)) vs)
    step_all brings None k = one_more vs all
    step_all brings (Some (Step.Media x)) k =
        came_all (media_came p who (brings x) x vs) (IsStep f g from gave who.step (brings x) vs x) (came_each p who (brings x) vs _ (each_all (brings x)) x)
        (record {
          took = λ on bind kind t is has. k.took on bind kind t (ap (λ (y : MediaStep). Some (Step.Media y)) is) (subst (λ (y : MediaStep). (brings y).taken ≡ Some t) is has);
          got = λ port bind kind q is has. k.got port bind kind q (ap (λ (y : MediaStep). Some (Step.Media y)) is) (subst (λ (y : MediaStep). (brings y).received ≡ Some q) is has);
          gives = k.gives;
          takes = k.takes;
          makes = k.makes;
        })
    step_all brings (Some _) k = one_more vs all

-- ---- all steps

module _ (steps : ℕ → List Step) (brought : ℕ → ℕ → MediaStep → Brought) (pool : List PoolEntry) (c : ℕ) (from : ℕ → From) (known : IsFrom steps brought c from) where
  -- a chunk was taken by a step, or made by its init
  abbrev Gave : ℕ → Chunk → Type 0
  Gave j chunk = (option_and_then chunk_of_unit (from j).taken ≡ Some chunk) ⊎ (option_and_then (chunk_made (variables_in steps brought pool c j)) (slice_get (steps c) j) ≡ Some chunk)

  all_steps : (n : ℕ) → AreAll (kept_before (steps c) from n) Gave n (variables_in steps brought pool c n)
  all_steps zero = λ j m is. absurd cc
  all_steps (suc n) =
      let before : Later (kept_before (steps c) from n) (kept_before (steps c) from (suc n)) n = λ j lt. rw (ne_eqb j n (λ is. omega (arith, lt, is))) refl in
      step_all (numbers_of (ops_by c n pool)) (step_by c n) (kept_before (steps c) from n) (kept_before (steps c) from (suc n)) from Gave before (variables_in steps brought pool c n) (all_steps n)
      (brought c n) (slice_get (steps c) n) (record {
        took = λ on bind kind t is has. known.taken n on bind kind t is has;
        got = λ port bind kind q is has. known.received n port bind kind q is has;
        gives = rw (eq-eqb n n refl) refl;
        takes = λ chunk is. inl is;
        makes = λ chunk is. inr is;
      })

-- ---- the laws

-- audio data, a frame and a chunk, by the medium that a variable holds
lent_kept : (s : Option Kept) (is : MediaShape) (q : Reference) (x : Lendable) (r : Reference) → s ≡ Some (MediumOf (record { shape = is; bytes = content_in is q.bytes })) → ◌≡◌ {A = Option Lendable} (Some (record { shape = is; held = Some q })) (Some x) → x.held ≡ Some r
    → option_and_then medium_kept s ≡ Some (record { shape = x.shape; bytes = content_in x.shape r.bytes })
lent_kept s is q x r known lent holds =
    let y : Lendable = record { shape = is; held = Some q } in
    let same : y ≡ x = same_Some y x lent in
    let held : Some q ≡ Some r = ap (λ (z : Lendable). z.held) same ∙ holds in
    let ref : q ≡ r = same_Some q r held in
    ap (option_and_then medium_kept) known ∙ (λ i. Some (record { shape = (same i).shape; bytes = content_in (same i).shape (ref i).bytes }))

content_kept : (s : Option Kept) (gave : Chunk → Type 0) (shape : Shape) (h : Option Reference) (x : Lendable) (r : Reference) → IsOf s gave shape h
    → lendable_in (record { shape = shape; held = h }) ≡ Some x → x.held ≡ Some r → option_and_then medium_kept s ≡ Some (record { shape = x.shape; bytes = content_in x.shape r.bytes })
content_kept s gave (SoundOf a) (Some q) x r known lent holds = lent_kept s (MediaShape.Sound a) q x r known lent holds
content_kept s gave (PictureOf a) (Some q) x r known lent holds = lent_kept s (MediaShape.Image a) q x r known lent holds
content_kept s gave (SoundOf a) None x r known lent holds = absurd cc
content_kept s gave (PictureOf a) None x r known lent holds = absurd cc
content_kept s gave (ChunkOf chunk) h x r known lent holds = absurd cc
content_kept s gave BufferOf h x r known lent holds = absurd cc

chunk_kept : (s : Option Kept) (gave : Chunk → Type 0) (shape : Shape) (h : Option Reference) (chunk : Chunk) → IsOf s gave shape h → chunk_in_medium (record { shape = shape; held = h }) ≡ Some chunk → gave chunk
chunk_kept s gave (ChunkOf x) h chunk known is = subst gave (same_Some x chunk is) known.1
chunk_kept s gave (SoundOf a) h chunk known is = absurd cc
chunk_kept s gave (PictureOf a) h chunk known is = absurd cc
chunk_kept s gave BufferOf h chunk known is = absurd cc

pub media_are_kept : ContentsAreKept
media_are_kept steps brought pool c from n j x r known lent is =
    option_and_then_some lendable_in (medium_at (variables_in steps brought pool c n) j) x lent
    (λ m there has. content_kept (kept_before (steps c) from n j) (Gave steps brought pool c from known j) m.shape m.held x r (all_steps steps brought pool c from known n j m there).1 has is)

pub chunks_are_given : ChunksAreGiven
chunks_are_given steps brought pool c from n j chunk known is =
    option_and_then_some chunk_in_medium (medium_at (variables_in steps brought pool c n) j) chunk is
    (λ m there has. chunk_kept (kept_before (steps c) from n j) (Gave steps brought pool c from known j) m.shape m.held chunk (all_steps steps brought pool c from known n j m there).1 has)
