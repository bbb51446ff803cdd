-- What callers' variables hold, and what steps on media answer, is within its types.
use Rattle.std.proofs.Common.{ℕ, zero, suc, ◌≡◌, ◌≤◌, ◌<◌, ◌+◌, ◌^◌, not, length, length-append, lit<, true, List, [], ◌∷◌, Option, Some, None, IfSome, sym, subst, arith}
use Rattle.std.specs.Prelude.{nat_le, ◌==◌, option_map, option_and_then, unwrap_or}
use Rattle.std.specs.List.{AllByRecursion, list_all}
use Rattle.std.proofs.lemmas.List.{length-map}
use Rattle.std.proofs.lemmas.List.Sums.{count_by-le-length, length-filter}
use Rattle.std.proofs.lemmas.Bool.{and_parts, leb-true}
use Rattle.hex.specs.Hex.{IsBytes}
use Rattle.wc_base.specs.declared.{media.PictureShape.PictureShape, who.Who.Who}
use Rattle.wc_chunk.specs.declared.chunk.Chunk.{Chunk}
use Rattle.codec_definitions.specs.declared.unit.Unit as output
use Rattle.codec_definitions.specs.declared.unit.Unit.TheVariants as unit
use Rattle.picture_planes.specs.Planes.{picture_size}
use Rattle.codec_model.specs.declared.entry.MediaShape.{MediaShape}
use Rattle.wc_audio.specs.Sound as audio
use Rattle.wc_audio.specs.Copies as sound
use Rattle.wc_video.specs.Frames as frames
use Rattle.wc_video.specs.Copies as video
use Rattle.script_types.specs.declared.{script.CodecItem.CodecItem, script.ScriptData.ScriptData, options.Options.Options, steps.MediaStep.MediaStep, steps.InitShape.InitShape, steps.InitData.InitData, steps.BufferedInit.BufferedInit}
use Rattle.script_types.specs.{declared.steps.Step.Step, declared.steps.Variable.Variable, Names.is_copied, Names.is_buffer}
use Rattle.script_types.specs.Sound.{is_free, is_variable, are_options_of, is_sound_data, is_sound_init, is_sound_media, most_chunk, most_transfer}
use Rattle.report_text.specs.declared.result.StepResult.{StepResult}
use Rattle.media_variables.specs.CameLaws.{EachCame, by_came, lets_each, made_answer}
use Rattle.media_variables.specs.Variables.{Reference, Shape, SoundOf, PictureOf, ChunkOf, BufferOf, Received, buffer_of, buffer_in, buffer_at, bytes_held, bytes_in, steps_in, adopted_in, all_but, shape_over, init_makes, init_made, gone_at, without, Medium, Numbers, Came, Taken, Brought, Lendable, medium_at, with_medium, detached, zeros, sound_of, frame_of, copy_options, rect_of, layouts_in, copy_chunk, copy_medium, size_of_medium, chunk_in_medium, chunk_of_variable, chunk_medium, lendable_in, lendable_at, end_of, lets_go, lets_all, unit_came, taken_came, media_came}
use Rattle.codec_accounts.specs.Calls as mark
use Rattle.run_model.specs.Fits.{mark_of}
use Rattle.report_lines.specs.Fits.{FitsResult}
use Rattle.run_ranges.specs.Ranges.{IsChunkWithin, IsShapeWithin, IsPictureWithin, IsInitWithin, IsDataWithin}
use Rattle.run_ranges.proofs.{Cases.by_option, UnitRanges.IsUnitWithin}
use Rattle.run_ranges.proofs.ByteRanges.{nothing_small, take_small, zeros_small}
use Rattle.run_ranges.proofs.CopyRanges.{sound_copy_fits, sound_size_fits, chunk_copy_fits, plan_within, frame_copy_fits, frame_size_fits}

-- ---- what a variable holds

-- the shape of audio data or of a frame is within its types, and so is a chunk
abbrev pub IsKindWithin : Shape → Type 0
IsKindWithin (SoundOf shape) = IsShapeWithin shape
IsKindWithin (PictureOf shape) = IsPictureWithin shape
IsKindWithin (ChunkOf chunk) = IsChunkWithin chunk
IsKindWithin BufferOf = Unit {0}

-- a buffer has no more bytes than 64 bits count
abbrev pub IsCountWithin : Shape → Option Reference → Type 0
IsCountWithin BufferOf (Some r) = length r.bytes < 2 ^ 64
IsCountWithin shape held = Unit {0}

count_none : (shape : Shape) → IsCountWithin shape None
count_none (SoundOf shape) = tt
count_none (PictureOf shape) = tt
count_none (ChunkOf chunk) = tt
count_none BufferOf = tt

count_number : (shape : Shape) (r : Reference) (n : ℕ) → IsCountWithin shape (Some r) → IsCountWithin shape (Some (record r { number = n }))
count_number BufferOf r n h = h
count_number (SoundOf shape) r n h = tt
count_number (PictureOf shape) r n h = tt
count_number (ChunkOf chunk) r n h = tt

-- what is held is bytes
abbrev pub IsHeldWithin : Option Reference → Type 0
IsHeldWithin o = IfSome o (λ r. IsBytes r.bytes)

abbrev pub IsVariableWithin : Option Medium → Type 0
IsVariableWithin o = IfSome o (λ m. IsKindWithin m.shape × IsHeldWithin m.held × IsCountWithin m.shape m.held)

abbrev pub AreVariables : List (Option Medium) → Type 0
AreVariables vs = AllByRecursion IsVariableWithin vs

pub medium_within : (vs : List (Option Medium)) (j : ℕ) → AreVariables vs → IsVariableWithin (medium_at vs j)
medium_within [] j h = tt
medium_within (v ∷ vs) zero h = h.0
medium_within (v ∷ vs) (suc j) h = medium_within vs j h.1

with_within : (j : ℕ) (m : Medium) (vs : List (Option Medium)) → IsVariableWithin (Some m) → AreVariables vs → AreVariables (with_medium j m vs)
with_within zero m [] own h = (own, tt)
with_within zero m (v ∷ vs) own h = (own, h.1)
with_within (suc j) m [] own h = (tt, with_within j m [] own tt)
with_within (suc j) m (v ∷ vs) own h = (h.0, with_within j m vs own h.1)

-- ---- the chunk, and the audio data or frame, of a variable

abbrev pub IsChunkThere : Option Chunk → Type 0
IsChunkThere o = IfSome o IsChunkWithin

chunk_in_variable : (o : Option Medium) → IsVariableWithin o → IsChunkThere (option_and_then chunk_in_medium o)
chunk_in_variable None own = tt
chunk_in_variable (Some m) own = elim m.shape as (λ x. IsKindWithin x → IsChunkThere (chunk_in_medium (record m { shape = x }))) [ ChunkOf chunk ↦ λ h. h | _ ↦ λ h. tt ] own.0

pub chunk_found : (made : Option Chunk) (vs : List (Option Medium)) (j : ℕ) → IsChunkThere made → AreVariables vs → IsChunkThere (chunk_of_variable made vs j)
chunk_found None vs j own h = chunk_in_variable (medium_at vs j) (medium_within vs j h)
chunk_found (Some c) vs j own h = own

abbrev pub IsMediumShapeWithin : MediaShape → Type 0
IsMediumShapeWithin (MediaShape.Sound shape) = IsShapeWithin shape
IsMediumShapeWithin (MediaShape.Image shape) = IsPictureWithin shape

abbrev pub IsMediumThere : Option Lendable → Type 0
IsMediumThere o = IfSome o (λ x. IsMediumShapeWithin x.shape × IsHeldWithin x.held)

medium_in_variable : (o : Option Medium) → IsVariableWithin o → IsMediumThere (option_and_then lendable_in o)
medium_in_variable None own = tt
medium_in_variable (Some m) own = elim m.shape as (λ x. IsKindWithin x → IsMediumThere (lendable_in (record m { shape = x }))) [ SoundOf shape ↦ λ h. (h, own.1) | PictureOf shape ↦ λ h. (h, own.1) | ChunkOf chunk ↦ λ h. tt | BufferOf ↦ λ h. tt ] own.0

pub medium_found : (vs : List (Option Medium)) (j : ℕ) → AreVariables vs → IsMediumThere (lendable_at vs j)
medium_found vs j h = medium_in_variable (medium_at vs j) (medium_within vs j h)

-- ---- what steps leave in variables

-- the content of an init is bytes, and its shape is within its types
abbrev pub IsContentWithin : MediaStep → Type 0
IsContentWithin (MediaStep.Audio bind (Some init)) = IsShapeWithin init.shape × IsBytes init.content
IsContentWithin (MediaStep.Frame bind (Some init)) = IsPictureWithin init.shape × IsBytes init.content
IsContentWithin (MediaStep.Buffer bind bytes) = IsBytes bytes × (length bytes < 2 ^ 64)
IsContentWithin (MediaStep.Buffered bind i) = IsInitWithin i.shape × IsDataWithin i.content
IsContentWithin x = Unit {0}

-- what is received is within its type
abbrev pub IsReceivedWithin : Option Received → Type 0
IsReceivedWithin o = IfSome o (λ p. IsVariableWithin (Some p.medium))

-- an output that is taken is within its type
abbrev pub IsOutputWithin : Option Taken → Type 0
IsOutputWithin o = IfSome o (λ t. IsUnitWithin t.unit)

unit_within : (numbers : Numbers) (j : ℕ) (answer : StepResult) (u : output.Unit) (vs : List (Option Medium)) → IsUnitWithin u → AreVariables vs → AreVariables (unit_came numbers j answer u vs).variables
unit_within numbers j answer (unit.Sound samples) vs own h = with_within j _ vs ((own.frames, own.timestamp), own.are_bytes, tt) h
unit_within numbers j answer (unit.Image picture) vs own h = with_within j _ vs ((own.timestamp, own.duration), own.are_bytes, tt) h
unit_within numbers j answer (unit.Coded chunk config) vs own h = with_within j (chunk_medium chunk) vs (own.0, tt, tt) h

there_within : (vs : List (Option Medium)) (j : ℕ) (m : Medium) → AreVariables vs → medium_at vs j ≡ Some m → IsVariableWithin (Some m)
there_within vs j m h is = subst IsVariableWithin is (medium_within vs j h)

-- ---- buffers

-- a variable that is detached
without_within : (j : ℕ) (vs : List (Option Medium)) → AreVariables vs → AreVariables (without j vs)
without_within j [] h = tt
without_within zero (None ∷ vs) h = (tt, h.1)
without_within zero (Some m ∷ vs) h = ((h.0.0, tt, count_none m.shape), h.1)
without_within (suc j) (v ∷ vs) h = (h.0, without_within j vs h.1)

gone_within : (o : Option Reference) (j : ℕ) (vs : List (Option Medium)) → AreVariables vs → AreVariables (gone_at o j vs)
gone_within None j vs h = h
gone_within (Some r) j vs h = without_within j vs h

-- what a buffer holds
buffer_held : (shape : Shape) (held : Option Reference) → IsHeldWithin held → IsCountWithin shape held → IsHeldWithin (buffer_of shape held) × IsCountWithin BufferOf (buffer_of shape held)
buffer_held BufferOf held own size = (own, size)
buffer_held (SoundOf shape) held own size = (tt, tt)
buffer_held (PictureOf shape) held own size = (tt, tt)
buffer_held (ChunkOf chunk) held own size = (tt, tt)

buffer_in_variable : (v : Option Medium) → IsVariableWithin v → IsHeldWithin (option_and_then buffer_in v) × IsCountWithin BufferOf (option_and_then buffer_in v)
buffer_in_variable None own = (tt, tt)
buffer_in_variable (Some m) own = buffer_held m.shape m.held own.1 own.2

held_small : (o : Option Reference) → IsHeldWithin o → IsBytes (bytes_held o)
held_small None own = nothing_small
held_small (Some r) own = own

bytes_within : (content : InitData) (vs : List (Option Medium)) → IsDataWithin content → AreVariables vs → IsBytes (bytes_in content vs)
bytes_within (InitData.Hex bytes) vs own h = own
bytes_within (InitData.Buffer v) vs own h = held_small (buffer_at vs v.step) (buffer_in_variable (medium_at vs v.step) (medium_within vs v.step h)).0

makes_within : (numbers : Numbers) (j : ℕ) (shape : InitShape) (bytes : List ℕ) (vs : List (Option Medium)) → IsInitWithin shape → IsBytes bytes → AreVariables vs → AreVariables (init_makes numbers j shape bytes vs).variables
makes_within numbers j (InitShape.Chunk key timestamp duration) bytes vs own small h = with_within j _ vs ((own.0, own.1, small), tt, tt) h
makes_within numbers j (InitShape.Sound shape) bytes vs own small h = with_within j _ vs (own, take_small (audio.needed shape) bytes small, tt) h
makes_within numbers j (InitShape.Picture shape) bytes vs own small h = with_within j _ vs (own, take_small (picture_size shape) bytes small, tt) h

over_within : (shape : InitShape) (held : Option Reference) → IsInitWithin shape → IsHeldWithin held → IsCountWithin BufferOf held → IsVariableWithin (Some (record { shape = shape_over shape; held = held }))
over_within (InitShape.Chunk key timestamp duration) held own small size = (tt, small, size)
over_within (InitShape.Sound shape) held own small size = (own, small, tt)
over_within (InitShape.Picture shape) held own small size = (own, small, tt)

made_within : (numbers : Numbers) (j : ℕ) (i : BufferedInit) (k : Option ℕ) (vs : List (Option Medium)) → IsInitWithin i.shape × IsDataWithin i.content → AreVariables vs → AreVariables (init_made numbers j i k vs).variables
made_within numbers j i None vs small h = makes_within numbers j i.shape (bytes_in i.content vs) vs small.0 (bytes_within i.content vs small.1 h) h
made_within numbers j i (Some k) vs small h =
    let its = buffer_in_variable (medium_at vs k) (medium_within vs k h) in
    with_within j (record { shape = shape_over i.shape; held = buffer_at vs k }) (without k vs) (over_within i.shape (buffer_at vs k) small.0 its.0 its.1) (without_within k vs h)

-- ---- what steps answer

-- a destination's size is at most what a script may ask for
abbrev pub IsSizeSmall : MediaStep → Type 0
IsSizeSmall (MediaStep.Copy of o size) = size ≤ most_chunk
IsSizeSmall x = Unit {0}

pub size_small_of : (codecs : List CodecItem) (before : List Step) (x : MediaStep) → is_sound_media codecs before x ≡ true → IsSizeSmall x
size_small_of codecs before (MediaStep.Copy of o size) sound =
    let named = and_parts (is_variable before is_copied of) _ sound in
    leb-true size most_chunk (and_parts (are_options_of o of.kind) (nat_le size most_chunk) named.1).1
size_small_of codecs before x sound = tt

-- the bytes of a frame that its shape needs
frame_small : (shape : PictureShape) (held : Option Reference) → IsHeldWithin held → IsBytes (unwrap_or (frames.content_of (frame_of shape held)) [])
frame_small shape None h = nothing_small
frame_small shape (Some r) h = take_small (picture_size shape) r.bytes h

copies_fit : (s : ScriptData) (shape : Shape) (held : Option Reference) (o : Options) (size : ℕ) → size ≤ most_chunk → IsHeldWithin held → FitsResult s (copy_medium (record { shape = shape; held = held }) o size)
copies_fit s (SoundOf shape) held (Options.Audio (Some o)) size few own = sound_copy_fits s size shape (unwrap_or (audio.content_of (sound_of shape held)) []) (sound.plan_of (sound_of shape held) (copy_options o)) (omega (arith, few))
copies_fit s (PictureOf shape) held (Options.Frame (Some o)) size few own =
    let f = frame_of shape held in
    frame_copy_fits s (unwrap_or (frames.content_of f) []) (zeros size) (video.plan_for f (option_map rect_of o.rect) (layouts_in o)) (frame_small shape held own) (zeros_small size) (plan_within f (option_map rect_of o.rect) (layouts_in o))
copies_fit s _ held _ size few own = tt

sizes_fit : (s : ScriptData) (shape : Shape) (held : Option Reference) (o : Options) → IsCountWithin shape held → FitsResult s (size_of_medium (record { shape = shape; held = held }) o)
sizes_fit s (SoundOf shape) held (Options.Audio (Some o)) size = sound_size_fits s shape (sound.plan_of (sound_of shape held) (copy_options o))
sizes_fit s (PictureOf shape) held (Options.Frame (Some o)) size = frame_size_fits s (video.plan_for (frame_of shape held) (option_map rect_of o.rect) (layouts_in o)) (plan_within (frame_of shape held) (option_map rect_of o.rect) (layouts_in o))
sizes_fit s BufferOf None o size = lit< tt
sizes_fit s BufferOf (Some r) o size = size
sizes_fit s (SoundOf shape) held o size = tt
sizes_fit s (PictureOf shape) held o size = tt
sizes_fit s (ChunkOf chunk) held o size = tt

-- what a take that found an output answers
abbrev pub FitsTaken : ScriptData → Option Taken → Type 0
FitsTaken s o = IfSome o (λ t. FitsResult s t.answer)

abbrev pub FitsReceived : ScriptData → Option Received → Type 0
FitsReceived s o = IfSome o (λ p. FitsResult s (StepResult.From p.poster))

-- as buffers are let go, what the init makes stays within its types, and what it answers as it is
all_within : (js : List ℕ) (c : Came) → AreVariables c.variables → AreVariables (lets_all js c).variables
all_within js c h = lets_each (λ (d : Came). AreVariables d.variables) (λ j d within. gone_within (buffer_at d.variables j) j d.variables within) js c h

all_answer : (s : ScriptData) (js : List ℕ) (c : Came) → FitsResult s c.answer → FitsResult s (lets_all js c).answer
all_answer s js c h = lets_each (λ (d : Came). FitsResult s d.answer) (λ j d fits. fits) js c h

each_came : (s : ScriptData) (numbers : Numbers) (who : Who) (b : Brought) (vs : List (Option Medium)) → IsOutputWithin b.taken → IsReceivedWithin b.received → AreVariables vs → EachCame numbers who b vs (λ x y. (IsContentWithin x → AreVariables y.variables) × (IsChunkThere b.chunk → FitsTaken s b.taken → FitsReceived s b.received → IsSizeSmall x → FitsResult s y.answer))
each_came s numbers who b vs own got h = record {
  refuses = λ x e. (λ small. h, λ there told by few. tt);
  absent = λ x. (λ small. h, λ there told by few. tt);
  audio = λ bind i. (λ small. with_within who.step _ vs (small.0, take_small (audio.needed i.shape) i.content small.1, tt) h, λ there told by few. tt);
  frame = λ bind i. (λ small. with_within who.step _ vs (small.0, take_small (picture_size i.shape) i.content small.1, tt) h, λ there told by few. tt);
  buffer = λ bind bytes. (λ small. with_within who.step _ vs (tt, small.0, small.1) h, λ there told by few. tt);
  buffered = λ bind i valid may. (
    λ small. all_within (all_but (adopted_in i) (steps_in i.transfer)) (init_made numbers who.step i (adopted_in i) vs) (made_within numbers who.step i (adopted_in i) vs small h),
    λ there told by few. all_answer s (all_but (adopted_in i) (steps_in i.transfer)) (init_made numbers who.step i (adopted_in i) vs) (subst (FitsResult s) (sym (made_answer numbers who.step i (adopted_in i) vs)) tt),
  );
  posts = λ to content m r is holds. (λ small. without_within content.step vs h, λ there told by few. tt);
  receives_none = λ from bind kind is. (λ small. h, λ there told by few. tt);
  receives = λ from bind kind p is. (λ small. with_within who.step p.medium vs (subst IsReceivedWithin is got) h, λ there told by few. subst (FitsReceived s) is by);
  takes = λ on bind kind t is. (
    λ small. unit_within numbers who.step t.answer t.unit vs (subst IsOutputWithin is own) h,
    λ there told by few. elim t.unit as (λ u. FitsResult s (unit_came numbers who.step t.answer u vs).answer) [ unit.Image picture ↦ subst (FitsTaken s) is told | _ ↦ subst (FitsTaken s) is told ],
  );
  clones = λ of bind m r is holds. (λ small. (let its = there_within vs of.step m h is in with_within who.step _ vs (its.0, subst IsHeldWithin holds its.1, count_number m.shape r numbers.reference (subst (IsCountWithin m.shape) holds its.2)) h), λ there told by few. tt);
  transfers = λ of bind m r is holds. (λ small. (let its = there_within vs of.step m h is in with_within who.step m (with_medium of.step (detached m) vs) its (with_within of.step (detached m) vs (its.0, tt, count_none m.shape) h)), λ there told by few. tt);
  closed = λ of m is holds. (λ small. h, λ there told by few. tt);
  closes = λ of m r is holds. (λ small. with_within of.step (detached m) vs ((there_within vs of.step m h is).0, tt, count_none m.shape) h, λ there told by few. tt);
  copies_chunk = λ of size. (
    λ small. h,
    λ there told by few. by_option (λ o. IsChunkThere o → FitsResult s (copy_chunk o size)) (chunk_of_variable b.chunk vs of.step) (λ none. tt) (λ x is own. chunk_copy_fits s size x.bytes (omega (arith, few)) own.2) (chunk_found b.chunk vs of.step there h),
  );
  copies = λ of o size m is. (λ small. h, λ there told by few. copies_fit s m.shape m.held o size few (there_within vs of.step m h is).1);
  sizes = λ of o m is. (λ small. h, λ there told by few. sizes_fit s m.shape m.held o (there_within vs of.step m h is).2);
}

-- ---- how much a step does

-- a step lists at most so many buffers
abbrev pub IsFew : MediaStep → Type 0
IsFew (MediaStep.Buffered bind i) = length i.transfer ≤ most_transfer
IsFew x = Unit {0}

pub few_of : (codecs : List CodecItem) (before : List Step) (x : MediaStep) → is_sound_media codecs before x ≡ true → IsFew x
few_of codecs before (MediaStep.Buffered bind i) sound =
    let init = and_parts (is_free before bind) (is_sound_init before i) sound in
    let listed = and_parts (is_sound_data before i.content) _ init.1 in
    leb-true (length i.transfer) most_transfer (and_parts (nat_le (length i.transfer) most_transfer) (list_all (is_variable before is_buffer) i.transfer) listed.1).0
few_of codecs before x sound = tt

end_few : (o : Option Reference) → length (end_of o) ≤ 1
end_few None = omega arith
end_few (Some r) = omega arith

lets_few : (js : List ℕ) (c : Came) → length (lets_all js c).does ≤ length c.does + length js
lets_few [] c = omega arith
lets_few (j ∷ js) c =
    let rest = lets_few js (lets_go j c) in
    let both = length-append c.does (end_of (buffer_at c.variables j)) in
    let one = end_few (buffer_at c.variables j) in
    omega (arith, rest, both, one)

all_few : (k : Option ℕ) (js : List ℕ) → length (all_but k js) ≤ length js
all_few None js = omega arith
all_few (Some k) js = omega (arith, length-filter (λ (j : ℕ). not (j == k)) js, count_by-le-length (λ (j : ℕ). not (j == k)) js)

init_few : (numbers : Numbers) (j : ℕ) (shape : InitShape) (bytes : List ℕ) (vs : List (Option Medium)) → length (init_makes numbers j shape bytes vs).does ≤ 1
init_few numbers j (InitShape.Chunk key timestamp duration) bytes vs = omega arith
init_few numbers j (InitShape.Sound shape) bytes vs = omega arith
init_few numbers j (InitShape.Picture shape) bytes vs = omega arith

made_few : (numbers : Numbers) (j : ℕ) (i : BufferedInit) (k : Option ℕ) (vs : List (Option Medium)) → length (init_made numbers j i k vs).does ≤ 1
made_few numbers j i None vs = init_few numbers j i.shape (bytes_in i.content vs) vs
made_few numbers j i (Some k) vs = omega arith

does_each : (numbers : Numbers) (who : Who) (b : Brought) (vs : List (Option Medium)) → EachCame numbers who b vs (λ x y. IsFew x → length y.does ≤ most_transfer + 1)
does_each numbers who b vs = record {
  refuses = λ x e few. omega arith;
  absent = λ x few. omega arith;
  audio = λ bind i few. omega arith;
  frame = λ bind i few. omega arith;
  buffer = λ bind bytes few. omega arith;
  buffered = λ bind i valid may few. (
      let listed = lets_few (all_but (adopted_in i) (steps_in i.transfer)) (init_made numbers who.step i (adopted_in i) vs) in
      let made = made_few numbers who.step i (adopted_in i) vs in
      let fewer = all_few (adopted_in i) (steps_in i.transfer) in
      let long = length-map i.transfer (λ (v : Variable). v.step) in
      omega (arith, listed, made, fewer, long, few));
  posts = λ to content m r is holds few. omega arith;
  receives_none = λ from bind kind is few. omega arith;
  receives = λ from bind kind p is few. omega arith;
  takes = λ on bind kind t is few. elim t.unit as (λ u. length (unit_came numbers who.step t.answer u vs).does ≤ most_transfer + 1) [ unit.Image picture ↦ omega arith | _ ↦ omega arith ];
  clones = λ of bind m r is holds few. omega arith;
  transfers = λ of bind m r is holds few. omega arith;
  closed = λ of m is holds few. omega arith;
  closes = λ of m r is holds few. omega arith;
  copies_chunk = λ of size few. omega arith;
  copies = λ of o size m is few. omega arith;
  sizes = λ of o m is few. omega arith;
}

-- What a step on media comes to is within its types, does no more than so much, and answers what fits the script where it takes no
-- output.
pub record IsFine (s : ScriptData) (y : Came) : Type 0 where
  pub variables : AreVariables y.variables
  pub few : length y.does ≤ most_transfer + 1
  pub answers : mark_of y.answer ≡ mark.Local → FitsResult s y.answer

-- of a step that takes no output
pub came_fine : (s : ScriptData) (numbers : Numbers) (who : Who) (b : Brought) (x : MediaStep) (vs : List (Option Medium)) → IsContentWithin x → IsFew x → IsSizeSmall x → b.taken ≡ None → IsChunkThere b.chunk → IsReceivedWithin b.received → FitsReceived s b.received → AreVariables vs
    → IfSome (media_came numbers who b x vs) (IsFine s)
came_fine s numbers who b x vs small few sized none chunk got by h =
    let own : IsOutputWithin b.taken = subst IsOutputWithin (sym none) tt in
    let told : FitsTaken s b.taken = subst (FitsTaken s) (sym none) tt in
    by_option (λ o. IfSome o (IsFine s)) (media_came numbers who b x vs) tt (λ y is. (
    let fine = by_came numbers who b vs _ (each_came s numbers who b vs own got h) x y is in
    record { variables = fine.0 small; few = by_came numbers who b vs _ (does_each numbers who b vs) x y is few; answers = λ local. fine.1 chunk told by sized }))

-- a take answers with the output that it found
abbrev pub IsNamed : Option Taken → Type 0
IsNamed t = IfSome t (λ x. mark_of x.answer ≡ mark.Local → ⊥)

pub take_fine : (s : ScriptData) (numbers : Numbers) (j : ℕ) (t : Option Taken) (vs : List (Option Medium)) → IsNamed t → IsOutputWithin t → AreVariables vs → IfSome (taken_came numbers j t vs) (IsFine s)
take_fine s numbers j None vs named own h = tt
take_fine s numbers j (Some t) vs named own h = by_unit t.unit own
  where
    by_unit : (u : output.Unit) → IsUnitWithin u → IsFine s (unit_came numbers j t.answer u vs)
    by_unit (unit.Sound samples) fits = record { variables = unit_within numbers j t.answer (unit.Sound samples) vs fits h; few = omega arith; answers = λ local. absurd (named local) }
    by_unit (unit.Image picture) fits = record { variables = unit_within numbers j t.answer (unit.Image picture) vs fits h; few = omega arith; answers = λ local. absurd (named local) }
    by_unit (unit.Coded chunk config) fits = record { variables = unit_within numbers j t.answer (unit.Coded chunk config) vs fits h; few = omega arith; answers = λ local. absurd (named local) }
