-- What making, cloning and closing a medium does to a pool, whichever pool that is.
use Rattle.std.proofs.Common.{ℕ, ◌≡◌, Bool, true, false, if◌then◌else◌, List, length, take, Option, Some, None, Result, IfOk, refl, ap, sym, subst, ◌∙◌}
use Rattle.std.specs.Prelude.{option_map}
use Rattle.wc_base.specs.declared.who.Who.{Who}
use Rattle.wc_base.specs.declared.who.By.TheVariants as by
use Rattle.wc_base.specs.declared.error.NoMemory.{NoMemory}
use Rattle.wc_base.specs.declared.error.DomError.{DomError}
use Rattle.wc_base.specs.declared.error.DomError.TheVariants as dom
use Rattle.codec_definitions.specs.declared.unit.Unit.TheVariants as unit
use Rattle.wc_base.specs.declared.media.Samples.{Samples}
use Rattle.wc_base.specs.declared.media.Picture.{Picture}
use Rattle.wc_chunk.specs.declared.chunk.Chunk.{Chunk}
use Rattle.picture_planes.specs.Planes.{picture_size}
use Rattle.wc_pool.specs.declared.entry.PoolEntry.{PoolEntry}
use Rattle.wc_pool.specs.declared.entry.PoolOp.TheVariants as op
use Rattle.wc_pool.specs.declared.reference.MediaRef.{MediaRef}
use Rattle.wc_pool.specs.Pools.{made_by, cloned_by, with_token, IsCloneOf}
use Rattle.wc_audio.specs.Sound as sound
use Rattle.wc_video.specs.Frames as frames
use Rattle.array_buffers.specs.Buffers as buffers
use Rattle.wc_base.specs.declared.media.SoundShape.{SoundShape}
use Rattle.wc_base.specs.declared.media.PictureShape.{PictureShape}
use Rattle.script_types.specs.declared.steps.InitShape.{InitShape}
use Rattle.script_types.specs.declared.steps.InitShape.TheVariants as init_shape
use Rattle.script_types.specs.declared.steps.SoundInit.{SoundInit}
use Rattle.script_types.specs.declared.steps.PictureInit.{PictureInit}
use Rattle.report_text.specs.declared.result.StepResult.{StepResult}
use Rattle.report_text.specs.declared.result.StepResult.TheVariants as result
use Rattle.media_variables.specs.declared.given.Given.{Given}
use Rattle.media_variables.specs.declared.medium.Kind.TheVariants as kind
use Rattle.media_variables.specs.Variables.{Reference, Shape, SoundOf, PictureOf, ChunkOf, BufferOf, Medium, Numbers, chunk_medium, refused, shape_over}
use Rattle.media_variables.specs.Held.{WholeMedium, reference_of, whole_of, seen}
use Rattle.media_variables.specs.Given.{Done, Does, Gives, gives, gives_nothing, made_done, with_answer, audio_done, frame_done, buffer_done, init_done, adopted_done, taken_done, cloned_done, clone_done, closed_op}

-- ---- references, without the token and the key of a pool

seen_held : (lasting : MediaRef → MediaRef) → ((r q : MediaRef) → lasting r ≡ lasting q → with_token None r ≡ with_token None q) → (a b : Option MediaRef) → option_map lasting a ≡ option_map lasting b → option_map reference_of a ≡ option_map reference_of b
seen_held lasting lasts None None same = refl
seen_held lasting lasts (Some r) (Some q) same = let inner : lasting r ≡ lasting q = cc in ap (λ (x : MediaRef). Some (reference_of x)) (lasts r q inner)
seen_held lasting lasts None (Some q) same = absurd cc
seen_held lasting lasts (Some r) None same = absurd cc

module _ (lasting : MediaRef → MediaRef) (lasts : (r q : MediaRef) → lasting r ≡ lasting q → with_token None r ≡ with_token None q) where
  pub seen_sound_same : (s t : sound.Sound) → sound.held_as lasting s ≡ sound.held_as lasting t → seen (whole_of (kind.Audio s)) ≡ seen (whole_of (kind.Audio t))
  seen_sound_same s t same =
      let held : option_map reference_of s.held ≡ option_map reference_of t.held = seen_held lasting lasts s.held t.held (ap (λ (x : sound.Sound). x.held) same) in
      λ i. record { shape = SoundOf ((same i).shape); held = held i }

  pub seen_frame_same : (s t : frames.Frame) → frames.held_as lasting s ≡ frames.held_as lasting t → seen (whole_of (kind.Frame s)) ≡ seen (whole_of (kind.Frame t))
  seen_frame_same s t same =
      let held : option_map reference_of s.held ≡ option_map reference_of t.held = seen_held lasting lasts s.held t.held (ap (λ (x : frames.Frame). x.held) same) in
      λ i. record { shape = PictureOf ((same i).shape); held = held i }

  pub seen_buffer_same : (s t : Option MediaRef) → option_map lasting s ≡ option_map lasting t → seen (whole_of (kind.Buffer s)) ≡ seen (whole_of (kind.Buffer t))
  seen_buffer_same s t same = ap (λ (o : Option Reference). record { shape = BufferOf; held = o }) (seen_held lasting lasts s t same)

-- ---- what is given

abbrev pub given_of : StepResult → Option WholeMedium → Given
given_of r m = record { answer = r; medium = m }

module _ (adds : PoolEntry → Type 0) (same : Type 0) (who : Who) where
  same_given : (f : Numbers → Done) (g h : Given) → g ≡ h → Gives adds same who f h → Gives adds same who f g
  same_given f g h is x = subst (Gives adds same who f) (sym is) x

  -- where nothing is given, nothing was done
  pub nothing_gives : (r : StepResult) → same → Gives adds same who (λ n. gives_nothing r) (given_of r None)
  nothing_gives r here = record { numbers = record { resource = 0; reference = 0 }; answered = refl; medium = refl; does = here }

  -- a variable that is absent
  pub absent_gives : (v : Option Medium) (g : Given) → v ≡ None → g ≡ given_of result.Absent None → same → Gives adds same who (clone_done v) g
  absent_gives v g none is here =
      subst (Gives adds same who (clone_done v)) (sym is) (subst (λ (w : Option Medium). Gives adds same who (clone_done w) (given_of result.Absent None)) (sym none) (nothing_gives result.Absent here))

  -- of a variable that was read
  pub clone_gives : (v w : Option Medium) (g : Given) → v ≡ w → Gives adds same who (clone_done v) g → Gives adds same who (clone_done w) g
  clone_gives v w g is x = subst (λ (o : Option Medium). Gives adds same who (clone_done o) g) is x

  pub clone_if : (v w : Option Medium) (r : Result Given NoMemory) → v ≡ w → IfOk r (Gives adds same who (clone_done v)) → IfOk r (Gives adds same who (clone_done w))
  clone_if v w r is x = subst (λ (o : Option Medium). IfOk r (Gives adds same who (clone_done o))) is x

  gives_as : (f h : Numbers → Done) (g : Given) → ((n : Numbers) → f n ≡ h n) → Gives adds same who f g → Gives adds same who h g
  gives_as f h g is x = record {
    numbers = x.numbers;
    answered = x.answered ∙ ap (λ (d : Done). d.answer) (is x.numbers);
    medium = x.medium ∙ ap (λ (d : Done). d.medium) (is x.numbers);
    does = subst (λ (d : Done). Does adds same who d.does) (is x.numbers) x.does;
  }

  -- a reference was made
  pub made_gives : (answer : StepResult) (shape : Shape) (bytes : List ℕ) (r : MediaRef) → adds (made_by (by.Caller who) r) → r.bytes ≡ bytes
      → Gives adds same who (λ n. with_answer answer (made_done n shape bytes)) (given_of answer (Some (record { shape = shape; held = Some r })))
  made_gives answer shape bytes r added is = record {
    numbers = record { resource = r.resource; reference = r.number };
    answered = refl;
    medium = λ i. Some (record { shape = shape; held = Some (record { resource = r.resource; number = r.number; bytes = is i }) });
    does = (false, added);
  }

  -- ---- an init

  audio_is : (i : SoundInit) (b : Bool) → sound.is_invalid i.shape (length i.content) ≡ b → (d : Done) (n : Numbers) → d ≡ (if b then gives_nothing (refused dom.TypeErr) else made_done n (SoundOf i.shape) (take (sound.needed i.shape) i.content)) → d ≡ audio_done (Some i) n
  audio_is i b valid d n is = is ∙ ap (λ (c : Bool). if c then gives_nothing (refused dom.TypeErr) else made_done n (SoundOf i.shape) (take (sound.needed i.shape) i.content)) (sym valid)

  frame_is : (i : PictureInit) (b : Bool) → frames.is_invalid i.shape (length i.content) ≡ b → (d : Done) (n : Numbers) → d ≡ (if b then gives_nothing (refused dom.TypeErr) else made_done n (PictureOf i.shape) (take (picture_size i.shape) i.content)) → d ≡ frame_done (Some i) n
  frame_is i b valid d n is = is ∙ ap (λ (c : Bool). if c then gives_nothing (refused dom.TypeErr) else made_done n (PictureOf i.shape) (take (picture_size i.shape) i.content)) (sym valid)

  pub audio_refused : (i : SoundInit) → sound.is_invalid i.shape (length i.content) ≡ true → same → Gives adds same who (audio_done (Some i)) (given_of (refused dom.TypeErr) None)
  audio_refused i invalid here = gives_as _ _ _ (λ n. audio_is i true invalid _ n refl) (nothing_gives (refused dom.TypeErr) here)

  pub frame_refused : (i : PictureInit) → frames.is_invalid i.shape (length i.content) ≡ true → same → Gives adds same who (frame_done (Some i)) (given_of (refused dom.TypeErr) None)
  frame_refused i invalid here = gives_as _ _ _ (λ n. frame_is i true invalid _ n refl) (nothing_gives (refused dom.TypeErr) here)

  pub audio_made : (i : SoundInit) (s : sound.Sound) → sound.is_invalid i.shape (length i.content) ≡ false → sound.IsMadeBy adds (by.Caller who) i.shape (take (sound.needed i.shape) i.content) s
      → Gives adds same who (audio_done (Some i)) (given_of (result.Local None) (Some (whole_of (kind.Audio s))))
  audio_made i s valid made =
      subst (λ (x : sound.Sound). Gives adds same who (audio_done (Some i)) (given_of (result.Local None) (Some (whole_of (kind.Audio x))))) (sym made.is)
      (gives_as _ _ _ (λ n. audio_is i false valid _ n refl) (made_gives (result.Local None) (SoundOf i.shape) (take (sound.needed i.shape) i.content) made.reference made.added made.same_bytes))

  pub frame_made : (i : PictureInit) (s : frames.Frame) → frames.is_invalid i.shape (length i.content) ≡ false → frames.IsMadeBy adds (by.Caller who) i.shape (take (picture_size i.shape) i.content) s
      → Gives adds same who (frame_done (Some i)) (given_of (result.Local None) (Some (whole_of (kind.Frame s))))
  frame_made i s valid made =
      subst (λ (x : frames.Frame). Gives adds same who (frame_done (Some i)) (given_of (result.Local None) (Some (whole_of (kind.Frame x))))) (sym made.is)
      (gives_as _ _ _ (λ n. frame_is i false valid _ n refl) (made_gives (result.Local None) (PictureOf i.shape) (take (picture_size i.shape) i.content) made.reference made.added made.same_bytes))

  pub buffer_made : (bytes : List ℕ) (b : Option MediaRef) (g : Given) → g ≡ given_of (result.Local None) (Some (whole_of (kind.Buffer b))) → buffers.IsMadeBy adds (by.Caller who) bytes b → Gives adds same who (buffer_done bytes) g
  buffer_made bytes b g is made =
      let given = subst (λ (x : Option MediaRef). Gives adds same who (buffer_done bytes) (given_of (result.Local None) (Some (whole_of (kind.Buffer x))))) (sym made.is)
      (made_gives (result.Local None) BufferOf bytes made.reference made.added made.same_bytes) in
      same_given (buffer_done bytes) g _ is given

  -- audio data and a frame of an init
  pub sound_init : (shape : SoundShape) (bytes : List ℕ) (s : sound.Sound) (g : Given) → g ≡ given_of (result.Local None) (Some (whole_of (kind.Audio s))) → sound.IsMadeBy adds (by.Caller who) shape (take (sound.needed shape) bytes) s
      → Gives adds same who (init_done (init_shape.Sound shape) bytes) g
  sound_init shape bytes s g is made =
      let given = subst (λ (x : sound.Sound). Gives adds same who (init_done (init_shape.Sound shape) bytes) (given_of (result.Local None) (Some (whole_of (kind.Audio x))))) (sym made.is)
      (made_gives (result.Local None) (SoundOf shape) (take (sound.needed shape) bytes) made.reference made.added made.same_bytes) in
      same_given (init_done (init_shape.Sound shape) bytes) g _ is given

  pub picture_init : (shape : PictureShape) (bytes : List ℕ) (s : frames.Frame) (g : Given) → g ≡ given_of (result.Local None) (Some (whole_of (kind.Frame s))) → frames.IsMadeBy adds (by.Caller who) shape (take (picture_size shape) bytes) s
      → Gives adds same who (init_done (init_shape.Picture shape) bytes) g
  picture_init shape bytes s g is made =
      let given = subst (λ (x : frames.Frame). Gives adds same who (init_done (init_shape.Picture shape) bytes) (given_of (result.Local None) (Some (whole_of (kind.Frame x))))) (sym made.is)
      (made_gives (result.Local None) (PictureOf shape) (take (picture_size shape) bytes) made.reference made.added made.same_bytes) in
      same_given (init_done (init_shape.Picture shape) bytes) g _ is given

  -- of a shape that was read
  pub init_as : (shape x : InitShape) (bytes : List ℕ) (g : Given) → shape ≡ x → Gives adds same who (init_done x bytes) g → Gives adds same who (init_done shape bytes) g
  init_as shape x bytes g is h = subst (λ (y : InitShape). Gives adds same who (init_done y bytes) g) (sym is) h

  -- a medium over the reference of a buffer
  pub adopted_gives : (shape : InitShape) (r : MediaRef) (held : Option Reference) (g : Given) → Some (reference_of r) ≡ held → g ≡ given_of (result.Local None) (Some (record { shape = shape_over shape; held = Some r })) → same → Gives adds same who (λ n. adopted_done shape held) g
  adopted_gives shape r held g is there here =
      same_given (λ n. adopted_done shape held) g _ there (record {
        numbers = record { resource = 0; reference = 0 };
        answered = refl;
        medium = ap (λ (o : Option Reference). Some (record { shape = shape_over shape; held = o })) is;
        does = here;
      })

  -- ---- a clone

  cloned_gives : (shape : Shape) (was r : MediaRef) → adds (cloned_by (by.Caller who) r) → IsCloneOf was r
      → Gives adds same who (cloned_done shape (Some (reference_of was))) (given_of (result.Local None) (Some (record { shape = shape; held = Some r })))
  cloned_gives shape was r added c = record {
    numbers = record { resource = r.resource; reference = r.number };
    answered = refl;
    medium = λ i. Some (record { shape = shape; held = Some (record { resource = c.same_resource i; number = r.number; bytes = c.same_bytes i }) });
    does = (false, subst (λ (x : ℕ). adds (record { by = by.Caller who; op = op.Clone x r.number })) c.same_resource added);
  }

  held_gives : (shape : Shape) (held : Option MediaRef) (was : MediaRef) (g : Given) → held ≡ Some was → Gives adds same who (cloned_done shape (Some (reference_of was))) g → Gives adds same who (cloned_done shape (option_map reference_of held)) g
  held_gives shape held was g is x = subst (λ (o : Option MediaRef). Gives adds same who (cloned_done shape (option_map reference_of o)) g) (sym is) x

  pub sound_cloned : (old s : sound.Sound) → sound.IsCloneBy adds (by.Caller who) old s
      → Gives adds same who (clone_done (Some (seen (whole_of (kind.Audio old))))) (given_of (result.Local None) (Some (whole_of (kind.Audio s))))
  sound_cloned old s made =
      subst (λ (x : sound.Sound). Gives adds same who (clone_done (Some (seen (whole_of (kind.Audio old))))) (given_of (result.Local None) (Some (whole_of (kind.Audio x))))) (sym made.is)
      (held_gives (SoundOf old.shape) old.held made.was _ made.held (cloned_gives (SoundOf old.shape) made.was made.reference made.added made.clone))

  pub frame_cloned : (old s : frames.Frame) → frames.IsCloneBy adds (by.Caller who) old s
      → Gives adds same who (clone_done (Some (seen (whole_of (kind.Frame old))))) (given_of (result.Local None) (Some (whole_of (kind.Frame s))))
  frame_cloned old s made =
      subst (λ (x : frames.Frame). Gives adds same who (clone_done (Some (seen (whole_of (kind.Frame old))))) (given_of (result.Local None) (Some (whole_of (kind.Frame x))))) (sym made.is)
      (held_gives (PictureOf old.shape) old.held made.was _ made.held (cloned_gives (PictureOf old.shape) made.was made.reference made.added made.clone))

  buffer_cloned : (old b : Option MediaRef) → buffers.IsCloneBy adds (by.Caller who) old b
      → Gives adds same who (clone_done (Some (seen (whole_of (kind.Buffer old))))) (given_of (result.Local None) (Some (whole_of (kind.Buffer b))))
  buffer_cloned old b made =
      subst (λ (x : Option MediaRef). Gives adds same who (clone_done (Some (seen (whole_of (kind.Buffer old))))) (given_of (result.Local None) (Some (whole_of (kind.Buffer x))))) (sym made.is)
      (held_gives BufferOf old made.was _ made.held (cloned_gives BufferOf made.was made.reference made.added made.clone))

  pub detached_gives : (shape : Shape) (held : Option MediaRef) → held ≡ None → same → Gives adds same who (cloned_done shape (option_map reference_of held)) (given_of (refused dom.InvalidState) None)
  detached_gives shape held is here = subst (λ (o : Option MediaRef). Gives adds same who (cloned_done shape (option_map reference_of o)) (given_of (refused dom.InvalidState) None)) (sym is) (nothing_gives (refused dom.InvalidState) here)

  -- ---- a close

  pub sound_closed : (held : Option MediaRef) (last : Bool) → sound.Closes adds same (by.Caller who) held last → Does adds same who (closed_op (option_map reference_of held))
  sound_closed None last h = h.0
  sound_closed (Some r) last h = (last, h)

  pub frame_closed : (held : Option MediaRef) (last : Bool) → frames.Closes adds same (by.Caller who) held last → Does adds same who (closed_op (option_map reference_of held))
  frame_closed None last h = h.0
  frame_closed (Some r) last h = (last, h)

  pub buffer_closed : (held : Option MediaRef) (last : Bool) → buffers.Closes adds same (by.Caller who) held last → Does adds same who (closed_op (option_map reference_of held))
  buffer_closed None last h = h.0
  buffer_closed (Some r) last h = (last, h)

  -- ---- as calls answer

  -- a refused step, whatever it was refused with
  refused_given : (f : Numbers → Done) (g : Given) (e d : DomError) → e ≡ d → g ≡ given_of (refused e) None → Gives adds same who f (given_of (refused d) None) → Gives adds same who f g
  refused_given f g e d why is x = same_given f g (given_of (refused d) None) (is ∙ ap (λ (z : DomError). given_of (refused z) None) why) x

  pub no_audio : (init : Option SoundInit) (g : Given) → init ≡ None → g ≡ given_of (refused dom.TypeErr) None → same → Gives adds same who (audio_done init) g
  no_audio init g none is here =
      subst (λ (o : Option SoundInit). Gives adds same who (audio_done o) g) (sym none) (same_given (audio_done None) g (given_of (refused dom.TypeErr) None) is (nothing_gives (refused dom.TypeErr) here))

  pub no_frame : (init : Option PictureInit) (g : Given) → init ≡ None → g ≡ given_of (refused dom.TypeErr) None → same → Gives adds same who (frame_done init) g
  no_frame init g none is here =
      subst (λ (o : Option PictureInit). Gives adds same who (frame_done o) g) (sym none) (same_given (frame_done None) g (given_of (refused dom.TypeErr) None) is (nothing_gives (refused dom.TypeErr) here))

  pub bad_audio : (init : Option SoundInit) (i : SoundInit) (content : List ℕ) (e : DomError) (g : Given) → init ≡ Some i → content ≡ i.content → g ≡ given_of (refused e) None → (e ≡ dom.TypeErr) × (sound.is_invalid i.shape (length content) ≡ true) × same → Gives adds same who (audio_done init) g
  bad_audio init i content e g there whole is why =
      subst (λ (o : Option SoundInit). Gives adds same who (audio_done o) g) (sym there) (refused_given (audio_done (Some i)) g e dom.TypeErr why.0 is (audio_refused i (ap (λ (l : List ℕ). sound.is_invalid i.shape (length l)) (sym whole) ∙ why.1) why.2))

  pub bad_frame : (init : Option PictureInit) (i : PictureInit) (content : List ℕ) (e : DomError) (g : Given) → init ≡ Some i → content ≡ i.content → g ≡ given_of (refused e) None → (e ≡ dom.TypeErr) × (frames.is_invalid i.shape (length content) ≡ true) × same → Gives adds same who (frame_done init) g
  bad_frame init i content e g there whole is why =
      subst (λ (o : Option PictureInit). Gives adds same who (frame_done o) g) (sym there) (refused_given (frame_done (Some i)) g e dom.TypeErr why.0 is (frame_refused i (ap (λ (l : List ℕ). frames.is_invalid i.shape (length l)) (sym whole) ∙ why.1) why.2))

  pub good_audio : (init : Option SoundInit) (i : SoundInit) (content : List ℕ) (s : sound.Sound) (g : Given) → init ≡ Some i → content ≡ i.content → g ≡ given_of (result.Local None) (Some (whole_of (kind.Audio s))) → sound.IsMadeBy adds (by.Caller who) i.shape (take (sound.needed i.shape) content) s → sound.is_invalid i.shape (length content) ≡ false
      → Gives adds same who (audio_done init) g
  good_audio init i content s g there whole is made valid =
      subst (λ (o : Option SoundInit). Gives adds same who (audio_done o) g) (sym there) (same_given (audio_done (Some i)) g _ is (audio_made i s (ap (λ (l : List ℕ). sound.is_invalid i.shape (length l)) (sym whole) ∙ valid) (subst (λ (l : List ℕ). sound.IsMadeBy adds (by.Caller who) i.shape (take (sound.needed i.shape) l) s) whole made)))

  pub good_frame : (init : Option PictureInit) (i : PictureInit) (content : List ℕ) (s : frames.Frame) (g : Given) → init ≡ Some i → content ≡ i.content → g ≡ given_of (result.Local None) (Some (whole_of (kind.Frame s))) → frames.IsMadeBy adds (by.Caller who) i.shape (take (picture_size i.shape) content) s → frames.is_invalid i.shape (length content) ≡ false
      → Gives adds same who (frame_done init) g
  good_frame init i content s g there whole is made valid =
      subst (λ (o : Option PictureInit). Gives adds same who (frame_done o) g) (sym there) (same_given (frame_done (Some i)) g _ is (frame_made i s (ap (λ (l : List ℕ). frames.is_invalid i.shape (length l)) (sym whole) ∙ valid) (subst (λ (l : List ℕ). frames.IsMadeBy adds (by.Caller who) i.shape (take (picture_size i.shape) l) s) whole made)))

  -- ---- an output that is taken

  pub samples_taken : (answer : StepResult) (u : Samples) (s : sound.Sound) → sound.IsMadeBy adds (by.Caller who) u.shape u.bytes s
      → Gives adds same who (taken_done answer (unit.Sound u)) (given_of answer (Some (whole_of (kind.Audio s))))
  samples_taken answer u s made =
      subst (λ (x : sound.Sound). Gives adds same who (taken_done answer (unit.Sound u)) (given_of answer (Some (whole_of (kind.Audio x))))) (sym made.is)
      (made_gives answer (SoundOf u.shape) u.bytes made.reference made.added made.same_bytes)

  pub picture_taken : (answer : StepResult) (u : Picture) (s : frames.Frame) → frames.IsMadeBy adds (by.Caller who) u.shape u.bytes s
      → Gives adds same who (taken_done answer (unit.Image u)) (given_of answer (Some (whole_of (kind.Frame s))))
  picture_taken answer u s made =
      subst (λ (x : frames.Frame). Gives adds same who (taken_done answer (unit.Image u)) (given_of answer (Some (whole_of (kind.Frame x))))) (sym made.is)
      (made_gives answer (PictureOf u.shape) u.bytes made.reference made.added made.same_bytes)

  -- a chunk is kept as it is
  pub chunk_given : (f : Numbers → Done) (answer : StepResult) (chunk : Chunk) (g : Given) → ((n : Numbers) → f n ≡ record { answer = answer; medium = Some (chunk_medium chunk); does = None }) → g ≡ given_of answer (Some (whole_of (kind.Chunk chunk))) → same → Gives adds same who f g
  chunk_given f answer chunk g is there here =
      let d : Done = record { answer = answer; medium = Some (chunk_medium chunk); does = None } in
      same_given f g (given_of answer (Some (whole_of (kind.Chunk chunk)))) there
      (gives_as (λ n. d) f (given_of answer (Some (whole_of (kind.Chunk chunk)))) (λ n. sym (is n)) (record { numbers = record { resource = 0; reference = 0 }; answered = refl; medium = refl; does = here }))

  -- a chunk of an init
  pub chunk_init : (shape : InitShape) (content : List ℕ) (chunk : Chunk) (g : Given) → shape ≡ init_shape.Chunk chunk.key chunk.timestamp chunk.duration → chunk.bytes ≡ content → g ≡ given_of (result.Local None) (Some (whole_of (kind.Chunk chunk))) → same → Gives adds same who (init_done shape content) g
  chunk_init shape content chunk g is bytes there here =
      chunk_given (init_done shape content) (result.Local None) chunk g (λ n. (
      let made = ap (λ (x : InitShape). init_done x content n) is in
      made ∙ ap (λ (l : List ℕ). gives (record { shape = ChunkOf (record { key = chunk.key; timestamp = chunk.timestamp; duration = chunk.duration; bytes = l }); held = None }) None) (sym bytes))) there here

  -- ---- clones

  pub sound_cloned_by : (old s : sound.Sound) (g : Given) → g ≡ given_of (result.Local None) (Some (whole_of (kind.Audio s))) → sound.IsCloneBy adds (by.Caller who) old s → Gives adds same who (clone_done (Some (seen (whole_of (kind.Audio old))))) g
  sound_cloned_by old s g is made = same_given _ g _ is (sound_cloned old s made)

  pub frame_cloned_by : (old s : frames.Frame) (g : Given) → g ≡ given_of (result.Local None) (Some (whole_of (kind.Frame s))) → frames.IsCloneBy adds (by.Caller who) old s → Gives adds same who (clone_done (Some (seen (whole_of (kind.Frame old))))) g
  frame_cloned_by old s g is made = same_given _ g _ is (frame_cloned old s made)

  pub buffer_cloned_by : (old b : Option MediaRef) (g : Given) → g ≡ given_of (result.Local None) (Some (whole_of (kind.Buffer b))) → buffers.IsCloneBy adds (by.Caller who) old b → Gives adds same who (clone_done (Some (seen (whole_of (kind.Buffer old))))) g
  buffer_cloned_by old b g is made = same_given _ g _ is (buffer_cloned old b made)

  -- what is detached already
  pub not_cloned : (m : WholeMedium) (e : DomError) (g : Given) → m.held ≡ None → e ≡ dom.InvalidState → g ≡ given_of (refused e) None → same → Gives adds same who (clone_done (Some (seen m))) g
  not_cloned m e g none why is here = refused_given (clone_done (Some (seen m))) g e dom.InvalidState why is (detached_gives m.shape m.held none here)
