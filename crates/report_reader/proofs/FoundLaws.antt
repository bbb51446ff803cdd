-- What a run's variables hold is found in what its report shows.
use Rattle.std.proofs.Common.{ℕ, zero, suc, ◌≡◌, ◌<◌, ◌≤◌, inl, inr, Bool, true, false, cond, List, [], ◌∷◌, take, length, Option, Some, None, refl, ap, sym, subst, ◌∙◌, arith}
use Rattle.std.specs.Prelude.{slice_get, option_map, option_and_then, ◌==◌}
use Rattle.std.specs.Option.{is_none, option_or}
use Rattle.std.proofs.lemmas.{Bool.and_parts, Option.same_Some, Option.slice_get_within}
use Rattle.wc_chunk.specs.declared.chunk.Chunk.{Chunk}
use Rattle.wc_pool.specs.declared.entry.PoolEntry.{PoolEntry}
use Rattle.codec_definitions.specs.declared.unit.Unit as media
use Rattle.codec_model.specs.declared.entry.{Content.Content, MediaShape.MediaShape}
use Rattle.codec_accounts.specs.{Owed.at, ListLaws.get_some, ListLaws.get_from_front, ListLaws.taken_before}
use Rattle.script_types.specs.declared.{script.ScriptData.ScriptData, steps.Variable.Variable, steps.VariableKind.VariableKind, steps.InitData.InitData, steps.BufferedInit.BufferedInit, steps.MediaStep.MediaStep, steps.Step.Step}
use Rattle.script_types.specs.Sound.{is_sound, is_sound_data, is_sound_init, is_free}
use Rattle.report_text.specs.declared.result.StepResult.{StepResult}
use Rattle.media_variables.specs.Variables.{Reference, Shape, SoundOf, PictureOf, ChunkOf, BufferOf, Medium, Taken, Received, Brought, Lendable, bytes_in, buffer_of, bytes_held, content_in, if_held, medium_at, lendable_in, lendable_at, chunk_in_medium}
use Rattle.media_accounts.specs.Accounts.{variables_in}
use Rattle.media_accounts.specs.Contents.{Kept, MediumOf, BytesOf, From, IsOf, IsKept, IsFrom, ContentsAreKept, ChunksAreGiven, bytes_kept, medium_kept, chunk_of_unit, chunk_made, kept_by, kept_before, content_before}
use Rattle.run_model.specs.Recorded.{Recorded, steps_of, chunk_at}
use Rattle.run_model.specs.Fits.{CallsAreIn, LocalsAreIn, PortsDeliver, IsAnswerOf, result_in, taken_by, brought_to, variables_at, port_received, port_posted, medium_posted}
use Rattle.report_reader.specs.declared.known.Known.{Known}
use Rattle.report_reader.specs.Arguments.{results_of, output_of, taken_in, is_given, is_detached, from_in, depth_of, bytes_told, chunk_made_by, chunk_found}
use Rattle.report_reader.proofs.StandingLaws.{IsSo, IsAt, IsBuffer, IsGot, IsUsed, IsStanding, AreStanding, buffer_made, buffers_of, all_stand, lendable_stands}
use Rattle.report_reader.proofs.PortLaws.{Grown, HoldsOfPosters, by_ports, total}
use Rattle.report_reader.proofs.SoundLaws.{sound_step, cloned_unmade, transferred_unmade, posted_unmade, source_made, source_before}
use Rattle.report_reader.proofs.{TableLaws.defined_at, PlaceLaws.taken_at}
use Rattle.report_reader.proofs.CallLaws.{AreFound}

-- ---- the first steps alone

get_front : {X : Type 0} (xs : List X) (n j : ℕ) → j < n → slice_get (take n xs) j ≡ slice_get xs j
get_front xs zero j lt = absurd (omega (arith, lt))
get_front [] (suc n) j lt = refl
get_front (x ∷ xs) (suc n) zero lt = refl
get_front (x ∷ xs) (suc n) (suc j) lt = get_front xs n j (omega (arith, lt))

abbrev front_steps : (ℕ → List Step) → ℕ → ℕ → List Step
front_steps steps n c = take n (steps c)

module _ (steps : ℕ → List Step) (brought : ℕ → ℕ → MediaStep → Brought) (pool : List PoolEntry) (c n : ℕ) where
  same_variables : (m : ℕ) → m ≤ n → variables_in (front_steps steps n) brought pool c m ≡ variables_in steps brought pool c m
  same_variables zero le = refl
  same_variables (suc m) le = rw (get_front (steps c) n m (omega (arith, le)), same_variables m (omega (arith, le))) refl

  same_kept : (from : ℕ → From) (m : ℕ) → m ≤ n → kept_before (take n (steps c)) from m ≡ kept_before (steps c) from m
  same_kept from zero le = refl
  same_kept from (suc m) le =
      let before = same_kept from m (omega (arith, le)) in
      let here = get_front (steps c) n m (omega (arith, le)) in
      λ i j. cond (j == m) (option_and_then (kept_by (before i) (from m)) (here i)) (before i j)

-- ---- what is known of a run

-- the report shows the results and the outputs that were taken; the run is one of a sound script, with receives behind their posts
pub record IsRun (s : ScriptData) (files : List (List Chunk)) (w : Recorded) (known : Known) : Type 0 where
  pub results : (c : ℕ) → at c w.callers ≡ results_of known.callers c
  pub taken : (c j : ℕ) (t : Taken) → taken_by s w (result_in w c j) ≡ Some t → taken_in known c j ≡ Some t.unit
  pub sound : is_sound s ≡ true
  pub calls : CallsAreIn s w
  pub locals : LocalsAreIn s files w
  pub ports : PortsDeliver s files w
  pub grown : Grown s w.callers
  pub deep : total w.callers ≤ depth_of known

-- what was received from a step: that step posts a variable which holds this medium, open
record IsPostOf (s : ScriptData) (files : List (List Chunk)) (w : Recorded) (q : Received) : Type 0 where
  to : ℕ
  content : Variable
  reference : Reference
  posts : slice_get (steps_of s q.poster.caller) q.poster.step ≡ Some (Step.Media (MediaStep.Post to content))
  stands : medium_at (variables_at s files w q.poster.caller q.poster.step) content.step ≡ Some q.medium
  held : q.medium.held ≡ Some reference

held_posted : (m q : Medium) (held : Option Reference) → m.held ≡ held → if_held m held ≡ Some q → (m ≡ q) × ((r : Reference) × (q.held ≡ Some r))
held_posted m q None holds is = absurd cc
held_posted m q (Some r) holds is = (let same = same_Some m q is in (same, (r, ap (λ (x : Medium). x.held) (sym same) ∙ holds)))

posted_found : (o : Option Medium) (q : Medium) → option_and_then (λ m. if_held m m.held) o ≡ Some q → (o ≡ Some q) × ((r : Reference) × (q.held ≡ Some r))
posted_found None q is = absurd cc
posted_found (Some m) q is = (let h = held_posted m q m.held refl is in (ap (λ (x : Medium). Some x) h.0, h.1))

-- a medium that was posted is audio data or a frame, and open
got_so : (given gone : Bool) (own : Option (List ℕ)) (shape : Shape) (held : Option Reference) (r : Reference) → held ≡ Some r → own ≡ None → IsSo given gone own shape held → IsSo true false None shape held
got_so given gone own (SoundOf shape) held r holds none at = (refl, ap (λ (o : Option Reference). is_none o) (sym holds), refl)
got_so given gone own (PictureOf shape) held r holds none at = (refl, ap (λ (o : Option Reference). is_none o) (sym holds), refl)
got_so given gone own (ChunkOf chunk) held r holds none at = (let bad : None ≡ Some r = sym at.1 ∙ holds in absurd cc)
got_so given gone own BufferOf held r holds none at = absurd (subst (λ (o : Option (List ℕ)). IsBuffer o held) none at.2)

module _ (kept : ContentsAreKept) (chunks : ChunksAreGiven) (s : ScriptData) (files : List (List Chunk)) (w : Recorded) (known : Known) (run : IsRun s files w known) where
  -- what is found of audio data and frames, where receives are followed so often
  abbrev Contents : ℕ → ℕ → ℕ → Type 0
  Contents d c n = (j : ℕ) (x : Lendable) (r : Reference) → lendable_at (variables_at s files w c n) j ≡ Some x → x.held ≡ Some r
      → content_before (steps_of s c) (from_in s known d c) n j ≡ Some (record { shape = x.shape; bytes = content_in x.shape r.bytes })

  -- what is given to the first n steps from elsewhere
  abbrev AreGiven : ℕ → ℕ → ℕ → Type 0
  AreGiven d c n = IsFrom (front_steps (steps_of s) n) (brought_to s files w) c (from_in s known d c)

  abbrev Holds : ℕ → ℕ → ℕ → Type 0
  Holds d c n = AreStanding s files w c n × Contents d c n × AreGiven d c n

  -- ---- what was received

  abbrev IsReceive : ℕ → ℕ → ℕ → List ℕ → VariableKind → Type 0
  IsReceive c j port bind kind = slice_get (steps_of s c) j ≡ Some (Step.Media (MediaStep.Receive port bind kind))

  by_post : (q : Received) (port : ℕ) (x : Step) → slice_get (steps_of s q.poster.caller) q.poster.step ≡ Some x → port_posted x ≡ Some port → medium_posted x (variables_at s files w q.poster.caller q.poster.step) ≡ Some q.medium → IsPostOf s files w q
  by_post q port (Step.Media (MediaStep.Post to content)) is to_port posted =
      let found = posted_found (medium_at (variables_at s files w q.poster.caller q.poster.step) content.step) q.medium posted in
      record { to = to; content = content; reference = found.1.0; posts = is; stands = found.0; held = found.1.1 }
  by_post q port (Step.Media x) is to_port posted = absurd cc
  by_post q port x is to_port posted = absurd cc

  was_posted : (c j port : ℕ) (bind : List ℕ) (kind : VariableKind) (q : Received) → IsReceive c j port bind kind → w.received c j ≡ Some q → IsPostOf s files w q
  was_posted c j port bind kind q is got =
      let vs = variables_at s files w q.poster.caller q.poster.step in
      let gave = run.ports.gave port c j q (got, ap (option_and_then port_received) is) in
      let made = run.calls.made q.poster.caller q.poster.step (StepResult.Local None) gave.0.0 in
      by_post q port made.0 made.1 (sym (ap (option_and_then port_posted) made.1) ∙ gave.0.1) (sym (ap (option_and_then (λ (x : Step). medium_posted x vs)) made.1) ∙ gave.1)

  -- the result names the post
  names_post : (c j port : ℕ) (bind : List ℕ) (kind : VariableKind) (q : Received) (r : StepResult) → IsReceive c j port bind kind → w.received c j ≡ Some q → result_in w c j ≡ Some r → r ≡ StepResult.From q.poster
  names_post c j port bind kind q r is got there =
      let answer = run.locals c j (Step.Media (MediaStep.Receive port bind kind)) r is there in
      rw (is, got) at answer

  posted_so : (d : ℕ) (q : Received) → IsPostOf s files w q → Holds d q.poster.caller q.poster.step → IsSo true false None q.medium.shape q.medium.held
  posted_so d q p holds =
      let k = q.poster.caller in
      let j = p.content.step in
      let none = posted_unmade s.codecs (steps_of s k) q.poster.step p.to p.content (sound_step s run.sound k q.poster.step (Step.Media (MediaStep.Post p.to p.content)) p.posts) in
      let stood : (j < q.poster.step) × IsSo (is_given (at k w.callers) j) (is_detached (steps_of s k) (at k w.callers) q.poster.step j) (buffers_of s k j) q.medium.shape q.medium.held =
      subst (λ (o : Option Medium). IsAt (is_given (at k w.callers) j) (is_detached (steps_of s k) (at k w.callers) q.poster.step j) (buffers_of s k j) j q.poster.step o) p.stands (holds.0 j) in
      got_so (is_given (at k w.callers) j) (is_detached (steps_of s k) (at k w.callers) q.poster.step j) (buffers_of s k j) q.medium.shape q.medium.held p.reference p.held none stood.1

  -- what is found of what was posted
  received_is : (d : ℕ) (q : Received) (c j : ℕ) (r : StepResult) → IsPostOf s files w q → result_in w c j ≡ Some r → r ≡ StepResult.From q.poster → (p : IsPostOf s files w q)
      → (from_in s known (suc d) c j).received ≡ content_before (steps_of s q.poster.caller) (from_in s known d q.poster.caller) q.poster.step p.content.step
  received_is d q c j r posted there names p =
      let shown : slice_get (results_of known.callers c) j ≡ Some (StepResult.From q.poster) = ap (λ (rs : List StepResult). slice_get rs j) (sym (run.results c)) ∙ there ∙ ap (λ (x : StepResult). Some x) names in
      rw (shown, p.posts) refl

  posted_kept : (d : ℕ) (q : Received) (p : IsPostOf s files w q) → Holds d q.poster.caller q.poster.step
      → IsKept (option_map MediumOf (content_before (steps_of s q.poster.caller) (from_in s known d q.poster.caller) q.poster.step p.content.step)) q.medium
  posted_kept d q p holds =
      subst (λ (held : Option Reference). IsOf (option_map MediumOf found) (λ chunk. ⊥) q.medium.shape held) (sym p.held)
      (by_shape q.medium.shape refl (subst (λ (held : Option Reference). IsSo true false None q.medium.shape held) p.held (posted_so d q p holds)))
    where
      found : Option Content
      found = content_before (steps_of s q.poster.caller) (from_in s known d q.poster.caller) q.poster.step p.content.step

      lent : (x : Lendable) → lendable_in q.medium ≡ Some x → lendable_at (variables_at s files w q.poster.caller q.poster.step) p.content.step ≡ Some x
      lent x is = ap (option_and_then lendable_in) p.stands ∙ is

      by_shape : (shape : Shape) → q.medium.shape ≡ shape → IsSo true false None shape (Some p.reference) → IsOf (option_map MediumOf found) (λ chunk. ⊥) shape (Some p.reference)
      by_shape (SoundOf shape) is so =
          let x : Lendable = record { shape = MediaShape.Sound shape; held = q.medium.held } in
          ap (option_map MediumOf) (holds.1 p.content.step x p.reference (lent x (rw is refl)) p.held)
      by_shape (PictureOf shape) is so =
          let x : Lendable = record { shape = MediaShape.Image shape; held = q.medium.held } in
          ap (option_map MediumOf) (holds.1 p.content.step x p.reference (lent x (rw is refl)) p.held)
      by_shape (ChunkOf chunk) is so = (let bad : Some p.reference ≡ None = so.1 in absurd cc)
      by_shape BufferOf is so = absurd so.2

  -- ---- all steps

  posters_hold : (d c n : ℕ) → n ≤ length (at c w.callers) → HoldsOfPosters s w.callers Holds d c n → (j port : ℕ) (bind : List ℕ) (kind : VariableKind) (q : Received) → j < n → IsReceive c j port bind kind → w.received c j ≡ Some q
      → (e : ℕ) × ((d ≡ suc e) × Holds e q.poster.caller q.poster.step)
  posters_hold d c n le posters j port bind kind q lt is got =
      let here = get_some (at c w.callers) j (omega (arith, lt, le)) in
      posters j here.0 q.poster lt here.1 (port, (bind, (kind, (is, names_post c j port bind kind q here.0 is got here.1))))

  -- what is known of each step
  uses : (c m : ℕ) (x : MediaStep) → slice_get (steps_of s c) m ≡ Some (Step.Media x) → IsUsed (buffers_of s c) x
  uses c m (MediaStep.Clone of bind) is = cloned_unmade s.codecs (steps_of s c) m of bind (sound_step s run.sound c m (Step.Media (MediaStep.Clone of bind)) is)
  uses c m (MediaStep.Transfer of bind) is = transferred_unmade s.codecs (steps_of s c) m of bind (sound_step s run.sound c m (Step.Media (MediaStep.Transfer of bind)) is)
  uses c m x is = tt

  gets : (d c n : ℕ) → n ≤ length (at c w.callers) → HoldsOfPosters s w.callers Holds d c n → (m : ℕ) (x : MediaStep) → m < n → slice_get (steps_of s c) m ≡ Some (Step.Media x) → IsGot (brought_to s files w c m x)
  gets d c n le posters m (MediaStep.Receive port bind kind) lt is = λ q got.
      let p = posters_hold d c n le posters m port bind kind q lt is got in
      posted_so p.0 q (was_posted c m port bind kind q is got) p.1.1
  gets d c n le posters m x lt is = λ q got. absurd cc

  each_stands : (d c n : ℕ) → n ≤ length (at c w.callers) → HoldsOfPosters s w.callers Holds d c n → AreStanding s files w c n
  each_stands d c n le posters = all_stand s files w run.locals c n (λ m r lt there x is. (gets d c n le posters m x lt is, uses c m x is)) le

  given_from : (d c n : ℕ) → n ≤ length (at c w.callers) → HoldsOfPosters s w.callers Holds d c n → AreGiven d c n
  given_from d c n le posters = record {
    taken = λ j on bind kind t is took. taken_at s known d c j ∙ run.taken c j t took;
    received = λ j port bind kind q is got.
        let lt = taken_before (steps_of s c) n j (Step.Media (MediaStep.Receive port bind kind)) is in
        let here = get_from_front (steps_of s c) n j (Step.Media (MediaStep.Receive port bind kind)) is in
        let p = posters_hold d c n le posters j port bind kind q lt here got in
        let posted = was_posted c j port bind kind q here got in
        let made = get_some (at c w.callers) j (omega (arith, lt, le)) in
        let found = received_is p.0 q c j made.0 posted made.1 (names_post c j port bind kind q made.0 here got made.1) posted in
        subst (λ (e : ℕ). IsKept (option_map MediumOf (from_in s known e c j).received) q.medium) (sym p.1.0)
        (subst (λ (o : Option Content). IsKept (option_map MediumOf o) q.medium) (sym found) (posted_kept p.0 q posted p.1.1));
  }

  each_holds : (d c n : ℕ) → n ≤ length (at c w.callers) → HoldsOfPosters s w.callers Holds d c n → Holds d c n
  each_holds d c n le posters = (
    each_stands d c n le posters,
    λ j x r lent held.
        let brought = brought_to s files w in
        let from = from_in s known d c in
        let same = same_variables (steps_of s) brought w.pool c n n (omega arith) in
        let front : lendable_at (variables_in (front_steps (steps_of s) n) brought w.pool c n) j ≡ Some x = ap (λ (vs : List (Option Medium)). lendable_at vs j) same ∙ lent in
        let found = kept (front_steps (steps_of s) n) brought w.pool c from n j x r (given_from d c n le posters) front held in
        ap (λ (f : ℕ → Option Kept). option_and_then medium_kept (f j)) (sym (same_kept (steps_of s) brought w.pool c n from n (omega arith))) ∙ found,
    given_from d c n le posters,
  )

  all_hold : (d c n : ℕ) → total w.callers ≤ d → n ≤ length (at c w.callers) → Holds d c n
  all_hold d c n enough le = by_ports s w.callers Holds each_holds run.grown d c n enough le

  -- ---- chunks that inits made

  -- a step that makes a buffer keeps its bytes
  made_kept : (x : Step) (bytes : List ℕ) (earlier : ℕ → Option Kept) (from : From) → buffer_made x ≡ Some bytes → kept_by earlier from x ≡ Some (BytesOf bytes)
  made_kept (Step.Media (MediaStep.Buffer bind own)) bytes earlier from is = ap (λ (b : List ℕ). Some (BytesOf b)) (same_Some own bytes is)
  made_kept (Step.Media x) bytes earlier from is = absurd cc
  made_kept x bytes earlier from is = absurd cc

  -- the bytes of a buffer, by what stands of its variable
  told_bytes : (given gone : Bool) (own : Option (List ℕ)) (j n : ℕ) (o : Option Medium) (bytes : List ℕ) → j < n → own ≡ Some bytes → IsAt given gone own j n o → cond gone [] bytes ≡ bytes_held (option_and_then (λ m. buffer_of m.shape m.held) o)
  told_bytes given gone own j n None bytes lt is stood = (let bad : None ≡ Some bytes = sym (stood.1 lt) ∙ is in absurd cc)
  told_bytes given gone own j n (Some m) bytes lt is stood = by_shape m.shape m.held stood.1
    where
      buffered : (held : Option Reference) → gone ≡ is_none held → IsBuffer (Some bytes) held → cond gone [] bytes ≡ bytes_held held
      buffered None left so = ap (λ (b : Bool). cond b [] bytes) left
      buffered (Some r) left so = ap (λ (b : Bool). cond b [] bytes) left ∙ sym so

      by_shape : (shape : Shape) (held : Option Reference) → IsSo given gone own shape held → cond gone [] bytes ≡ bytes_held (buffer_of shape held)
      by_shape BufferOf held so = buffered held so.1 (subst (λ (b : Option (List ℕ)). IsBuffer b held) is so.2)
      by_shape (SoundOf shape) held so = (let bad : None ≡ Some bytes = sym so.2 ∙ is in absurd cc)
      by_shape (PictureOf shape) held so = (let bad : None ≡ Some bytes = sym so.2 ∙ is in absurd cc)
      by_shape (ChunkOf chunk) held so = (let bad : None ≡ Some bytes = sym so.2 ∙ is in absurd cc)

  bytes_are : (c j : ℕ) (bind : List ℕ) (i : BufferedInit) (from : ℕ → From) → AreStanding s files w c j → slice_get (steps_of s c) j ≡ Some (Step.Media (MediaStep.Buffered bind i))
      → bytes_told (steps_of s c) (at c w.callers) from j i.content ≡ bytes_in i.content (variables_at s files w c j)
  bytes_are c j bind i from stands is =
      of_data i.content (and_parts (is_sound_data (take j (steps_of s c)) i.content) _ (and_parts (is_free (take j (steps_of s c)) bind) (is_sound_init (take j (steps_of s c)) i) (sound_step s run.sound c j (Step.Media (MediaStep.Buffered bind i)) is)).1).0
    where
      of_data : (content : InitData) → is_sound_data (take j (steps_of s c)) content ≡ true → bytes_told (steps_of s c) (at c w.callers) from j content ≡ bytes_in content (variables_at s files w c j)
      of_data (InitData.Hex bytes) sound = refl
      of_data (InitData.Buffer v) sound =
          let made = source_made s run.sound c j v sound in
          let own : buffers_of s c v.step ≡ Some made.1.0 = ap (option_and_then buffer_made) made.1.1.0 ∙ made.1.1.1 in
          let lt = source_before s c j v sound in
          let kept : kept_before (steps_of s c) from j v.step ≡ Some (BytesOf made.1.0) =
          defined_at (steps_of s c) from j v.step lt ∙ ap (option_and_then (kept_by (kept_before (steps_of s c) from v.step) (from v.step))) made.1.1.0 ∙ made_kept made.0 made.1.0 (kept_before (steps_of s c) from v.step) (from v.step) made.1.1.1 in
          ap (λ (o : Option Kept). cond (is_detached (steps_of s c) (at c w.callers) j v.step) [] (bytes_kept o)) kept
          ∙ told_bytes (is_given (at c w.callers) v.step) (is_detached (steps_of s c) (at c w.callers) j v.step) (buffers_of s c v.step) v.step j (medium_at (variables_at s files w c j) v.step) made.1.0 lt own (stands v.step)

  -- a step that is answered by no output took none
  no_output : (outputs : List (List media.Unit)) (r : StepResult) → IsAnswerOf s w None r → output_of outputs (Some r) ≡ None
  no_output outputs (StepResult.Unit k p n) h = absurd h
  no_output outputs r h = refl

  took_none : (c j : ℕ) (bind : List ℕ) (i : BufferedInit) → j < length (at c w.callers) → slice_get (steps_of s c) j ≡ Some (Step.Media (MediaStep.Buffered bind i)) → taken_in known c j ≡ None
  took_none c j bind i lt is =
      let here = get_some (at c w.callers) j lt in
      let made = run.calls.made c j here.0 here.1 in
      let same : made.0 ≡ Step.Media (MediaStep.Buffered bind i) = same_Some made.0 _ (sym made.1 ∙ is) in
      ap (λ (rs : List StepResult). output_of known.outputs (slice_get rs j)) (sym (run.results c)) ∙ ap (output_of known.outputs) here.1
      ∙ no_output known.outputs here.0 (rw same at made.2)

  chunk_given : (given gone : Bool) (own : Option (List ℕ)) (j n : ℕ) (o : Option Medium) (chunk : Chunk) → IsAt given gone own j n o → option_and_then chunk_in_medium o ≡ Some chunk → (given ≡ true) × (j < n)
  chunk_given given gone own j n None chunk at is = absurd cc
  chunk_given given gone own j n (Some m) chunk at is = (by_shape m.shape m.held at.1 is, at.0)
    where
      by_shape : (shape : Shape) (held : Option Reference) → IsSo given gone own shape held → elim shape [ SoundOf x ↦ None | PictureOf x ↦ None | ChunkOf c ↦ Some c | BufferOf ↦ None ] ≡ Some chunk → given ≡ true
      by_shape (SoundOf x) held so is = absurd cc
      by_shape (PictureOf x) held so is = absurd cc
      by_shape BufferOf held so is = absurd cc
      by_shape (ChunkOf x) held so is = so.0

  -- ---- what is found

  either_found : (made a b : Option Chunk) (value : Chunk) → ((c : Chunk) → a ≡ Some c → b ≡ Some c) → option_or made a ≡ Some value → option_or made b ≡ Some value
  either_found made a b value h e = grind (arith, h, e)

  init_found : (c n j : ℕ) (from : ℕ → From) (chunk : Chunk) (o : Option Step) → n ≤ length (at c w.callers) → j < n → (from j).taken ≡ taken_in known c j → is_given (at c w.callers) j ≡ true → AreStanding s files w c j → slice_get (steps_of s c) j ≡ o
      → option_and_then (chunk_made (variables_at s files w c j)) o ≡ Some chunk → option_or (option_and_then chunk_of_unit (from j).taken) (chunk_made_by (steps_of s c) (at c w.callers) from j) ≡ Some chunk
  init_found c n j from chunk (Some (Step.Media (MediaStep.Buffered bind i))) le lt took given stands is made =
      let none = took ∙ took_none c j bind i (omega (arith, le, lt)) is in
      rw (none, given, is, bytes_are c j bind i from stands is) made
  init_found c n j from chunk None le lt took given stands is made = absurd cc
  init_found c n j from chunk (Some (Step.Media x)) le lt took given stands is made = absurd cc
  init_found c n j from chunk (Some x) le lt took given stands is made = absurd cc

  chunk_is_found : (d c n j : ℕ) (chunk : Chunk) → total w.callers ≤ d → n ≤ length (at c w.callers) → option_and_then chunk_in_medium (medium_at (variables_at s files w c n) j) ≡ Some chunk
      → option_or (option_and_then chunk_of_unit (from_in s known d c j).taken) (chunk_made_by (steps_of s c) (at c w.callers) (from_in s known d c) j) ≡ Some chunk
  chunk_is_found d c n j chunk enough le is =
      let brought = brought_to s files w in
      let from = from_in s known d c in
      let front = front_steps (steps_of s) n in
      let standing = (all_hold d c n enough le).0 in
      let there = chunk_given (is_given (at c w.callers) j) (is_detached (steps_of s c) (at c w.callers) n j) (buffers_of s c j) j n (medium_at (variables_at s files w c n) j) chunk (standing j) is in
      let same = same_variables (steps_of s) brought w.pool c n in
      let lent : option_and_then chunk_in_medium (medium_at (variables_in front brought w.pool c n) j) ≡ Some chunk = ap (λ (vs : List (Option Medium)). option_and_then chunk_in_medium (medium_at vs j)) (same n (omega arith)) ∙ is in
      elim (chunks front brought w.pool c from n j chunk (all_hold d c n enough le).2 lent) [
        | inl took ↦ rw took refl
        | inr made ↦ init_found c n j from chunk (slice_get (steps_of s c) j) le there.1 (taken_at s known d c j) there.0 ((all_hold d c j enough (omega (arith, le, there.1))).0) refl
            (subst (λ (o : Option Step). option_and_then (chunk_made (variables_at s files w c j)) o ≡ Some chunk) (get_front (steps_of s c) n j there.1)
            (subst (λ (vs : List (Option Medium)). option_and_then (chunk_made vs) (slice_get (take n (steps_of s c)) j) ≡ Some chunk) (same j (omega (arith, there.1))) made))
      ]

  -- what variables hold is found
  pub all_found : AreFound s files w known
  all_found = record {
    chunks = λ c n j value le e.
        subst (λ (rs : List StepResult). chunk_found files (steps_of s c) rs (from_in s known (depth_of known) c) j ≡ Some value) (run.results c)
        (either_found (chunk_at files (steps_of s c) j) (option_and_then chunk_in_medium (medium_at (variables_at s files w c n) j))
        (option_or (option_and_then chunk_of_unit (from_in s known (depth_of known) c j).taken) (chunk_made_by (steps_of s c) (at c w.callers) (from_in s known (depth_of known) c) j)) value
        (λ chunk is. chunk_is_found (depth_of known) c n j chunk run.deep le is) e);
    contents = λ c n j x r le is held. (all_hold (depth_of known) c n run.deep le).1 j x r is held;
    standing = λ c n j r x there lent.
        let le : n ≤ length (at c w.callers) = omega (arith, slice_get_within (at c w.callers) n r there) in
        let both = lendable_stands (is_given (at c w.callers) j) (is_detached (steps_of s c) (at c w.callers) n j) (buffers_of s c j) j n (medium_at (variables_at s files w c n) j) x ((all_hold (depth_of known) c n run.deep le).0 j) lent in
        subst (λ (rs : List StepResult). IsStanding (steps_of s c) rs n j x) (run.results c) (record { given = both.0; gone = both.1 });
  }
