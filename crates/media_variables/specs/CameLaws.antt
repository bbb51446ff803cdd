-- What a step on media comes to, case by case: what holds in each case holds of each step; and with other numbers.
use Rattle.std.proofs.Common.{ℕ, ◌≡◌, Bool, true, false, cond, List, [], ◌∷◌, ◌++◌, length, take, Option, Some, None, refl, ap, subst}
use Rattle.std.proofs.lemmas.Option.{same_Some}
use Rattle.std.specs.Prelude.{IfSome}
use Rattle.wc_base.specs.declared.error.DomError.{DomError}
use Rattle.wc_base.specs.declared.error.DomError.TheVariants as dom
use Rattle.wc_base.specs.declared.who.Who.{Who}
use Rattle.codec_definitions.specs.declared.unit.Unit as output
use Rattle.codec_definitions.specs.declared.unit.Unit.TheVariants as unit
use Rattle.wc_pool.specs.declared.entry.PoolOp.{PoolOp}
use Rattle.wc_pool.specs.declared.entry.PoolOp.TheVariants as op
use Rattle.picture_planes.specs.Planes.{picture_size}
use Rattle.wc_audio.specs.Sound as sound
use Rattle.wc_video.specs.Frames as frames
use Rattle.script_types.specs.declared.options.Options.{Options}
use Rattle.script_types.specs.declared.options.Options.TheVariants as options
use Rattle.script_types.specs.declared.steps.SoundInit.{SoundInit}
use Rattle.script_types.specs.declared.steps.PictureInit.{PictureInit}
use Rattle.script_types.specs.declared.steps.Variable.{Variable}
use Rattle.script_types.specs.declared.steps.VariableKind.{VariableKind}
use Rattle.script_types.specs.declared.steps.MediaStep.{MediaStep}
use Rattle.script_types.specs.declared.steps.MediaStep.TheVariants as media
use Rattle.report_text.specs.declared.result.StepResult.{StepResult}
use Rattle.report_text.specs.declared.result.StepResult.TheVariants as result
use Rattle.array_buffers.specs.Transfers.{may_transfer}
use Rattle.script_types.specs.declared.steps.InitShape.{InitShape}
use Rattle.script_types.specs.declared.steps.InitShape.TheVariants as init_shape
use Rattle.script_types.specs.declared.steps.BufferedInit.{BufferedInit}
use Rattle.media_variables.specs.Variables.{Reference, Shape, SoundOf, PictureOf, BufferOf, Medium, Numbers, Came, Taken, Received, Brought, bytes_in, is_invalid_init, is_open_buffer, buffer_at, steps_in, adopted_in, all_but, init_makes, init_made, end_of, lets_go, lets_all, post_held, received_came, medium_at, only_answers, refused, makes, clone_held, transfer_held, close_held, if_there, copy_chunk, chunk_of_variable, copy_medium, size_of_medium, unit_came, taken_came, media_came}

-- What has to be shown of each kind of step.
pub record EachCame (n : Numbers) (who : Who) (b : Brought) (vs : List (Option Medium)) (P : MediaStep → Came → Type 0) : Type 0 where
  pub refuses : (x : MediaStep) (e : DomError) → P x (only_answers (refused e) vs)
  pub absent : (x : MediaStep) → P x (only_answers result.Absent vs)
  pub audio : (bind : List ℕ) (i : SoundInit) → P (media.Audio bind (Some i)) (makes n who.step (SoundOf i.shape) (take (sound.needed i.shape) i.content) vs)
  pub frame : (bind : List ℕ) (i : PictureInit) → P (media.Frame bind (Some i)) (makes n who.step (PictureOf i.shape) (take (picture_size i.shape) i.content) vs)
  pub buffer : (bind bytes : List ℕ) → P (media.Buffer bind bytes) (makes n who.step BufferOf bytes vs)
  -- an init that names buffers, which is valid and lists open buffers, each once
  pub buffered : (bind : List ℕ) (i : BufferedInit) → is_invalid_init i.shape (length (bytes_in i.content vs)) ≡ false → may_transfer (is_open_buffer vs) (steps_in i.transfer) ≡ true
      → P (media.Buffered bind i) (lets_all (all_but (adopted_in i) (steps_in i.transfer)) (init_made n who.step i (adopted_in i) vs))
  pub posts : (to : ℕ) (content : Variable) (m : Medium) (r : Reference) → medium_at vs content.step ≡ Some m → m.held ≡ Some r → P (media.Post to content) (post_held content.step (Some r) vs)
  pub receives_none : (from : ℕ) (bind : List ℕ) (kind : VariableKind) → b.received ≡ None → P (media.Receive from bind kind) (only_answers result.Nothing vs)
  pub receives : (from : ℕ) (bind : List ℕ) (kind : VariableKind) (p : Received) → b.received ≡ Some p → P (media.Receive from bind kind) (received_came who.step (Some p) vs)
  pub takes : (on : ℕ) (bind : List ℕ) (kind : VariableKind) (t : Taken) → b.taken ≡ Some t → P (media.Take on bind kind) (unit_came n who.step t.answer t.unit vs)
  pub clones : (of : Variable) (bind : List ℕ) (m : Medium) (r : Reference) → medium_at vs of.step ≡ Some m → m.held ≡ Some r → P (media.Clone of bind) (clone_held n who.step m.shape (Some r) vs)
  pub transfers : (of : Variable) (bind : List ℕ) (m : Medium) (r : Reference) → medium_at vs of.step ≡ Some m → m.held ≡ Some r → P (media.Transfer of bind) (transfer_held who.step of.step m (Some r) vs)
  pub closed : (of : Variable) (m : Medium) → medium_at vs of.step ≡ Some m → m.held ≡ None → P (media.CloseData of) (only_answers (result.Local None) vs)
  pub closes : (of : Variable) (m : Medium) (r : Reference) → medium_at vs of.step ≡ Some m → m.held ≡ Some r → P (media.CloseData of) (close_held of.step m (Some r) vs)
  pub copies_chunk : (of : Variable) (size : ℕ) → P (media.Copy of options.Nothing size) (only_answers (copy_chunk (chunk_of_variable b.chunk vs of.step) size) vs)
  pub copies : (of : Variable) (o : Options) (size : ℕ) (m : Medium) → medium_at vs of.step ≡ Some m → P (media.Copy of o size) (only_answers (copy_medium m o size) vs)
  pub sizes : (of : Variable) (o : Options) (m : Medium) → medium_at vs of.step ≡ Some m → P (media.Size of o) (only_answers (size_of_medium m o) vs)

module _ (n : Numbers) (who : Who) (b : Brought) (vs : List (Option Medium)) (P : MediaStep → Came → Type 0) (each : EachCame n who b vs P) where
  init_each : (x : MediaStep) (invalid : Bool) (y : Came) → P x y → P x (cond invalid (only_answers (refused dom.TypeErr) vs) y)
  init_each x true y h = each.refuses x dom.TypeErr
  init_each x false y h = h

  may_each : (bind : List ℕ) (i : BufferedInit) (may : Bool) → is_invalid_init i.shape (length (bytes_in i.content vs)) ≡ false → may_transfer (is_open_buffer vs) (steps_in i.transfer) ≡ may
      → P (media.Buffered bind i) (cond may (lets_all (all_but (adopted_in i) (steps_in i.transfer)) (init_made n who.step i (adopted_in i) vs)) (only_answers (refused dom.DataClone) vs))
  may_each bind i true valid is = each.buffered bind i valid is
  may_each bind i false valid is = each.refuses (media.Buffered bind i) dom.DataClone

  valid_each : (bind : List ℕ) (i : BufferedInit) (invalid : Bool) → is_invalid_init i.shape (length (bytes_in i.content vs)) ≡ invalid
      → P (media.Buffered bind i) (cond invalid (only_answers (refused dom.TypeErr) vs)
      (cond (may_transfer (is_open_buffer vs) (steps_in i.transfer)) (lets_all (all_but (adopted_in i) (steps_in i.transfer)) (init_made n who.step i (adopted_in i) vs)) (only_answers (refused dom.DataClone) vs)))
  valid_each bind i true is = each.refuses (media.Buffered bind i) dom.TypeErr
  valid_each bind i false is = may_each bind i (may_transfer (is_open_buffer vs) (steps_in i.transfer)) is refl

  post_each : (to : ℕ) (content : Variable) (m : Medium) (held : Option Reference) → medium_at vs content.step ≡ Some m → m.held ≡ held → P (media.Post to content) (post_held content.step held vs)
  post_each to content m None is holds = each.refuses (media.Post to content) dom.DataClone
  post_each to content m (Some r) is holds = each.posts to content m r is holds

  received_each : (from : ℕ) (bind : List ℕ) (kind : VariableKind) (o : Option Received) → b.received ≡ o → P (media.Receive from bind kind) (received_came who.step o vs)
  received_each from bind kind None is = each.receives_none from bind kind is
  received_each from bind kind (Some p) is = each.receives from bind kind p is

  there_each : (x : MediaStep) (o : Option Medium) (f : Medium → Came) → ((m : Medium) → o ≡ Some m → P x (f m)) → P x (if_there o vs f)
  there_each x None f h = each.absent x
  there_each x (Some m) f h = h m refl

  clone_each : (of : Variable) (bind : List ℕ) (m : Medium) (held : Option Reference) → medium_at vs of.step ≡ Some m → m.held ≡ held → P (media.Clone of bind) (clone_held n who.step m.shape held vs)
  clone_each of bind m None is holds = each.refuses (media.Clone of bind) dom.InvalidState
  clone_each of bind m (Some r) is holds = each.clones of bind m r is holds

  transfer_each : (of : Variable) (bind : List ℕ) (m : Medium) (held : Option Reference) → medium_at vs of.step ≡ Some m → m.held ≡ held → P (media.Transfer of bind) (transfer_held who.step of.step m held vs)
  transfer_each of bind m None is holds = each.refuses (media.Transfer of bind) dom.DataClone
  transfer_each of bind m (Some r) is holds = each.transfers of bind m r is holds

  close_each : (of : Variable) (m : Medium) (held : Option Reference) → medium_at vs of.step ≡ Some m → m.held ≡ held → P (media.CloseData of) (close_held of.step m held vs)
  close_each of m None is holds = each.closed of m is holds
  close_each of m (Some r) is holds = each.closes of m r is holds

  taken_each : (on : ℕ) (bind : List ℕ) (kind : VariableKind) (o : Option Taken) → b.taken ≡ o → IfSome (taken_came n who.step o vs) (P (media.Take on bind kind))
  taken_each on bind kind None is = tt
  taken_each on bind kind (Some t) is = each.takes on bind kind t is

  -- what holds of each kind of step holds of what a step comes to
  pub came_each : (x : MediaStep) → IfSome (media_came n who b x vs) (P x)
  came_each (media.Audio bind None) = each.refuses (media.Audio bind None) dom.TypeErr
  came_each (media.Audio bind (Some i)) = init_each (media.Audio bind (Some i)) (sound.is_invalid i.shape (length i.content)) _ (each.audio bind i)
  came_each (media.Frame bind None) = each.refuses (media.Frame bind None) dom.TypeErr
  came_each (media.Frame bind (Some i)) = init_each (media.Frame bind (Some i)) (frames.is_invalid i.shape (length i.content)) _ (each.frame bind i)
  came_each (media.Buffer bind content) = each.buffer bind content
  came_each (media.Buffered bind i) = valid_each bind i (is_invalid_init i.shape (length (bytes_in i.content vs))) refl
  came_each (media.Encode on content) = tt
  came_each (media.Take on bind kind) = taken_each on bind kind b.taken refl
  came_each (media.Clone of bind) = there_each (media.Clone of bind) (medium_at vs of.step) _ (λ m is. clone_each of bind m m.held is refl)
  came_each (media.Transfer of bind) = there_each (media.Transfer of bind) (medium_at vs of.step) _ (λ m is. transfer_each of bind m m.held is refl)
  came_each (media.CloseData of) = there_each (media.CloseData of) (medium_at vs of.step) _ (λ m is. close_each of m m.held is refl)
  came_each (media.Copy of options.Nothing size) = each.copies_chunk of size
  came_each (media.Copy of o size) = there_each (media.Copy of o size) (medium_at vs of.step) _ (λ m is. each.copies of o size m is)
  came_each (media.Size of o) = there_each (media.Size of o) (medium_at vs of.step) _ (λ m is. each.sizes of o m is)
  came_each (media.Post to content) = there_each (media.Post to content) (medium_at vs content.step) _ (λ m is. post_each to content m m.held is refl)
  came_each (media.Receive from bind kind) = received_each from bind kind b.received refl

  pub by_came : (x : MediaStep) (y : Came) → media_came n who b x vs ≡ Some y → P x y
  by_came x y is = subst (λ (o : Option Came). IfSome o (P x)) is (came_each x)

-- ---- steps whose inits name buffers

-- what stays as each buffer is let go
pub lets_each : (P : Came → Type 0) → ((j : ℕ) (c : Came) → P c → P (lets_go j c)) → (js : List ℕ) (c : Came) → P c → P (lets_all js c)
lets_each P each [] c h = h
lets_each P each (j ∷ js) c h = lets_each P each js (lets_go j c) (each j c h)

-- what the init makes is answered without an exception
pub made_answer : (n : Numbers) (j : ℕ) (i : BufferedInit) (k : Option ℕ) (vs : List (Option Medium)) → (init_made n j i k vs).answer ≡ result.Local None
made_answer n j i (Some k) vs = refl
made_answer n j i None vs = by_shape i.shape (bytes_in i.content vs)
  where
    by_shape : (shape : InitShape) (bytes : List ℕ) → (init_makes n j shape bytes vs).answer ≡ result.Local None
    by_shape (init_shape.Chunk key timestamp duration) bytes = refl
    by_shape (init_shape.Sound shape) bytes = refl
    by_shape (init_shape.Picture shape) bytes = refl

-- ---- with other numbers

-- these numbers stand in what is done to a pool, where numbers of what is made do: what is made is made first
abbrev pub HasNumbers : Numbers → List PoolOp → Type 0
HasNumbers n [] = Unit {0}
HasNumbers n (op.Make r f ∷ os) = (n.resource ≡ r) × (n.reference ≡ f)
HasNumbers n (op.Clone r f ∷ os) = n.reference ≡ f
HasNumbers n (op.End r f last ∷ os) = Unit {0}

abbrev pub does_of : Option Came → List PoolOp
does_of None = []
does_of (Some y) = y.does

-- it comes to the same with other numbers, where they stand in what it does
abbrev pub ByNumbers : (Numbers → Option Came) → Type 0
ByNumbers came = (n m : Numbers) → HasNumbers m (does_of (came n)) → came m ≡ came n

same_numbers : (n m : Numbers) → m.resource ≡ n.resource → m.reference ≡ n.reference → m ≡ n
same_numbers n m r f = λ i. record { resource = r i; reference = f i }

makes_by_numbers : (j : ℕ) (shape : Shape) (bytes : List ℕ) (answer : StepResult) (vs : List (Option Medium)) → ByNumbers (λ n. Some (record (makes n j shape bytes vs) { answer = answer }))
makes_by_numbers j shape bytes answer vs n m h = ap (λ (k : Numbers). Some (record (makes k j shape bytes vs) { answer = answer })) (same_numbers n m h.0 h.1)

-- ends behind what was done bring no numbers
ends_keep : (m : Numbers) (os : List PoolOp) (r : Option Reference) → HasNumbers m (os ++ end_of r) → HasNumbers m os
ends_keep m [] r h = tt
ends_keep m (op.Make x f ∷ os) r h = h
ends_keep m (op.Clone x f ∷ os) r h = h
ends_keep m (op.End x f last ∷ os) r h = tt

all_by_numbers : (js : List ℕ) (came : Numbers → Came) → ByNumbers (λ n. Some (came n)) → ByNumbers (λ n. Some (lets_all js (came n)))
all_by_numbers [] came by = by
all_by_numbers (j ∷ js) came by = all_by_numbers js (λ n. lets_go j (came n)) (λ n m h. (
    let same = same_Some (came m) (came n) (by n m (ends_keep m (came n).does (buffer_at (came n).variables j) h)) in
    ap (λ (c : Came). Some (lets_go j c)) same))

made_by_numbers : (j : ℕ) (i : BufferedInit) (k : Option ℕ) (vs : List (Option Medium)) → ByNumbers (λ n. Some (init_made n j i k vs))
made_by_numbers j i (Some k) vs = λ n m h. refl
made_by_numbers j i None vs = by_shape i.shape (bytes_in i.content vs)
  where
    by_shape : (shape : InitShape) (bytes : List ℕ) → ByNumbers (λ n. Some (init_makes n j shape bytes vs))
    by_shape (init_shape.Chunk key timestamp duration) bytes = λ n m h. refl
    by_shape (init_shape.Sound shape) bytes = makes_by_numbers j (SoundOf shape) (take (sound.needed shape) bytes) (result.Local None) vs
    by_shape (init_shape.Picture shape) bytes = makes_by_numbers j (PictureOf shape) (take (picture_size shape) bytes) (result.Local None) vs

may_by_numbers : (b : Bool) (other : Came) (came : Numbers → Came) → ByNumbers (λ n. Some (came n)) → ByNumbers (λ n. Some (cond b (came n) other))
may_by_numbers true other came by = by
may_by_numbers false other came by = λ n m h. refl

init_by_numbers : (b : Bool) (other : Came) (came : Numbers → Came) → ByNumbers (λ n. Some (came n)) → ByNumbers (λ n. Some (cond b other (came n)))
init_by_numbers true other came by = λ n m h. refl
init_by_numbers false other came by = by

there_by_numbers : (o : Option Medium) (vs : List (Option Medium)) (came : Numbers → Medium → Came) → ((x : Medium) → ByNumbers (λ n. Some (came n x))) → ByNumbers (λ n. Some (if_there o vs (came n)))
there_by_numbers None vs came by = λ n m h. refl
there_by_numbers (Some x) vs came by = by x

clone_by_numbers : (j : ℕ) (shape : Shape) (o : Option Reference) (vs : List (Option Medium)) → ByNumbers (λ n. Some (clone_held n j shape o vs))
clone_by_numbers j shape None vs = λ n m h. refl
clone_by_numbers j shape (Some r) vs = λ n m h. ap (λ (f : ℕ). Some (clone_held (record { resource = 0; reference = f }) j shape (Some r) vs)) h

unit_by_numbers : (j : ℕ) (answer : StepResult) (u : output.Unit) (vs : List (Option Medium)) → ByNumbers (λ n. Some (unit_came n j answer u vs))
unit_by_numbers j answer (unit.Sound s) vs = makes_by_numbers j (SoundOf s.shape) s.bytes answer vs
unit_by_numbers j answer (unit.Image p) vs = makes_by_numbers j (PictureOf p.shape) p.bytes answer vs
unit_by_numbers j answer (unit.Coded chunk config) vs = λ n m h. refl

pub taken_by_numbers : (j : ℕ) (t : Option Taken) (vs : List (Option Medium)) → ByNumbers (λ n. taken_came n j t vs)
taken_by_numbers j None vs = λ n m h. refl
taken_by_numbers j (Some t) vs = unit_by_numbers j t.answer t.unit vs

pub came_by_numbers : (who : Who) (b : Brought) (x : MediaStep) (vs : List (Option Medium)) → ByNumbers (λ n. media_came n who b x vs)
came_by_numbers who b (media.Audio bind (Some i)) vs = init_by_numbers (sound.is_invalid i.shape (length i.content)) _ _ (makes_by_numbers who.step (SoundOf i.shape) (take (sound.needed i.shape) i.content) _ vs)
came_by_numbers who b (media.Frame bind (Some i)) vs = init_by_numbers (frames.is_invalid i.shape (length i.content)) _ _ (makes_by_numbers who.step (PictureOf i.shape) (take (picture_size i.shape) i.content) _ vs)
came_by_numbers who b (media.Buffer bind bytes) vs = makes_by_numbers who.step BufferOf bytes (result.Local None) vs
came_by_numbers who b (media.Buffered bind i) vs =
    init_by_numbers (is_invalid_init i.shape (length (bytes_in i.content vs))) _ _ (
    may_by_numbers (may_transfer (is_open_buffer vs) (steps_in i.transfer)) _ _ (
    all_by_numbers (all_but (adopted_in i) (steps_in i.transfer)) _ (made_by_numbers who.step i (adopted_in i) vs)))
came_by_numbers who b (media.Take on bind kind) vs = taken_by_numbers who.step b.taken vs
came_by_numbers who b (media.Clone of bind) vs = there_by_numbers (medium_at vs of.step) vs _ (λ m. clone_by_numbers who.step m.shape m.held vs)
came_by_numbers who b _ vs = λ n m h. refl
