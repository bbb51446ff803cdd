-- What is known of a script in which nothing is at fault: of its codecs, of each step, and of the items of its order.
use Rattle.std.proofs.Common.{ℕ, zero, suc, nat_le, ◌≡◌, ◌≤◌, ◌<◌, ◌&&◌, ◌==◌, Bool, true, false, List, [], ◌∷◌, ◌++◌, take, length, append_assoc, append-nil, Option, Some, None, refl, ap, sym, subst, ◌∙◌, arith}
use Rattle.std.specs.Prelude.{IfSome, option_and_then}
use Rattle.std.specs.List.{list_all, slice_get, sum_by}
use Rattle.std.proofs.lemmas.Bool.{and_parts, eqb-true, leb-true}
use Rattle.std.proofs.lemmas.Option.{slice_get_within, some_pair_parts}
use Rattle.std.proofs.lemmas.List.Sums.{sum_by-cons}
use Rattle.wc_config.specs.declared.kind.Kind.{Kind}
use Rattle.wc_config.specs.declared.kind.Kind.TheVariants as kind
use Rattle.script_types.specs.declared.script.CodecItem.{CodecItem}
use Rattle.script_types.specs.declared.script.CallerItem.{CallerItem}
use Rattle.script_types.specs.declared.script.PortItem.{PortItem}
use Rattle.script_types.specs.declared.script.OrderItem.{OrderItem}
use Rattle.script_types.specs.declared.script.ScriptData.{ScriptData}
use Rattle.script_types.specs.declared.found.FoundVariable.{FoundVariable}
use Rattle.script_types.specs.declared.steps.MediaStep.{MediaStep}
use Rattle.script_types.specs.declared.steps.MediaStep.TheVariants as media
use Rattle.script_types.specs.declared.steps.InitShape.{InitShape}
use Rattle.script_types.specs.declared.steps.InitShape.TheVariants as init_shape
use Rattle.script_types.specs.declared.steps.Variable.{Variable}
use Rattle.script_types.specs.declared.steps.VariableKind.{VariableKind}
use Rattle.script_types.specs.declared.steps.VariableKind.TheVariants as holds
use Rattle.script_types.specs.declared.steps.Step.{Step}
use Rattle.script_types.specs.declared.steps.Step.TheVariants as step
use Rattle.script_types.specs.Names.{decodes, names_codec, called, taken_from, looked_at, binds, variable_at, variable_named, is_promise, is_medium, made_of, posted_at}
use Rattle.script_types.specs.Sound.{is_sound, is_sound_codec, are_sound_codecs, is_codec, is_codec_kind, any_kind, takes, same_kind, suits, gives, is_found, is_variable, is_sound_step, are_sound_steps, are_sound_callers, are_few, is_sound_item, is_sound_order, is_small_media, are_sound_files, most_ports, are_sound_ports, are_sound_uses, is_sound_use, is_port_of}

first : (a b : Bool) → (a && b) ≡ true → a ≡ true
first a b h = (and_parts a b h).0

second : (a b : Bool) → (a && b) ≡ true → b ≡ true
second a b h = (and_parts a b h).1

-- what holds of all elements holds of each
pub all_at : {X : Type 0} (p : X → Bool) (xs : List X) (j : ℕ) (x : X) → list_all p xs ≡ true → slice_get xs j ≡ Some x → p x ≡ true
all_at p [] j x h is = absurd cc
all_at p (y ∷ ys) zero x h is = let same : y ≡ x = cc in ap p (sym same) ∙ first _ _ h
all_at p (y ∷ ys) (suc j) x h is = all_at p ys j x (second _ _ h) is

-- ---- the parts of a script

pub record Parts (s : ScriptData) : Type 0 where
  pub codecs : are_sound_codecs [] s.codecs ≡ true
  pub callers : are_sound_callers s.codecs [] s.callers ≡ true
  pub few : are_few s.codecs s.callers ≡ true
  pub small : is_small_media s.inline s.callers ≡ true
  pub files : are_sound_files s.chunk_files s.callers ≡ true
  pub order : is_sound_order (length s.codecs) s.callers s.order ≡ true
  pub few_ports : nat_le (length s.ports) most_ports ≡ true
  pub ports : are_sound_ports s.codecs s.callers [] s.ports ≡ true
  pub uses : are_sound_uses s.ports s.callers ≡ true

pub parts_of : (s : ScriptData) → is_sound s ≡ true → Parts s
parts_of s h =
    let a = and_parts (are_sound_codecs [] s.codecs) _ h in
    let b = and_parts (are_sound_callers s.codecs [] s.callers) _ a.1 in
    let c = and_parts (are_few s.codecs s.callers) _ b.1 in
    let d = and_parts (is_small_media s.inline s.callers) _ c.1 in
    let e = and_parts (are_sound_files s.chunk_files s.callers) _ d.1 in
    let f = and_parts (is_sound_order (length s.codecs) s.callers s.order) _ e.1 in
    let g = and_parts (nat_le (length s.ports) most_ports) _ f.1 in
    let p = and_parts (are_sound_ports s.codecs s.callers [] s.ports) _ g.1 in
    record { codecs = a.0; callers = b.0; few = c.0; small = d.0; files = e.0; order = f.0; few_ports = g.0; ports = p.0; uses = p.1 }

-- ---- codecs

-- each codec is sound after those before it
sound_codec_from : (before cs : List CodecItem) (n : ℕ) (c : CodecItem) → are_sound_codecs before cs ≡ true → slice_get cs n ≡ Some c → is_sound_codec (before ++ take n cs) c ≡ true
sound_codec_from before [] n c h is = absurd cc
sound_codec_from before (y ∷ ys) zero c h is =
    let same : y ≡ c = cc in
    ap (λ (x : CodecItem). is_sound_codec (before ++ []) x) (sym same) ∙ (ap (λ (b : List CodecItem). is_sound_codec b y) (append-nil before) ∙ first _ _ h)
sound_codec_from before (y ∷ ys) (suc n) c h is =
    ap (λ (b : List CodecItem). is_sound_codec b c) (sym (append_assoc before (y ∷ []) (take n ys))) ∙ sound_codec_from (before ++ y ∷ []) ys n c (second _ _ h) is

pub codec_at : (s : ScriptData) (n : ℕ) (c : CodecItem) → is_sound s ≡ true → slice_get s.codecs n ≡ Some c → is_sound_codec (take n s.codecs) c ≡ true
codec_at s n c h is = sound_codec_from [] s.codecs n c (parts_of s h).codecs is

-- a codec of the kind that is needed is there
codec_stands : (right : Kind → Bool) (codecs : List CodecItem) (on : ℕ) (o : Option CodecItem) → slice_get codecs on ≡ o → is_codec_kind right o ≡ true → (c : CodecItem) × (slice_get codecs on ≡ Some c) × (right c.kind ≡ true)
codec_stands right codecs on None is h = absurd cc
codec_stands right codecs on (Some c) is h = (c, is, h)

pub codec_there : (codecs : List CodecItem) (right : Kind → Bool) (on : ℕ) → is_codec codecs right on ≡ true → (c : CodecItem) × (slice_get codecs on ≡ Some c) × (right c.kind ≡ true)
codec_there codecs right on h = codec_stands right codecs on (slice_get codecs on) refl h

pub codec_within : (codecs : List CodecItem) (right : Kind → Bool) (on : ℕ) → is_codec codecs right on ≡ true → on < length codecs
codec_within codecs right on h = let c = codec_there codecs right on h in slice_get_within codecs on c.0 c.1

-- ---- steps

-- each step is sound after those before it
sound_step_from : (codecs : List CodecItem) (before ss : List Step) (j : ℕ) (x : Step) → are_sound_steps codecs before ss ≡ true → slice_get ss j ≡ Some x → is_sound_step codecs (before ++ take j ss) x ≡ true
sound_step_from codecs before [] j x h is = absurd cc
sound_step_from codecs before (y ∷ ys) zero x h is =
    let same : y ≡ x = cc in
    ap (λ (z : Step). is_sound_step codecs (before ++ []) z) (sym same) ∙ (ap (λ (b : List Step). is_sound_step codecs b y) (append-nil before) ∙ first _ _ h)
sound_step_from codecs before (y ∷ ys) (suc j) x h is =
    ap (λ (b : List Step). is_sound_step codecs b x) (sym (append_assoc before (y ∷ []) (take j ys))) ∙ sound_step_from codecs (before ++ y ∷ []) ys j x (second _ _ h) is

sound_caller_from : (codecs : List CodecItem) (before cs : List CallerItem) (i : ℕ) (c : CallerItem) → are_sound_callers codecs before cs ≡ true → slice_get cs i ≡ Some c → are_sound_steps codecs [] c.steps ≡ true
sound_caller_from codecs before [] i c h is = absurd cc
sound_caller_from codecs before (y ∷ ys) zero c h is =
    let same : y ≡ c = cc in
    ap (λ (x : CallerItem). are_sound_steps codecs [] x.steps) (sym same) ∙ second _ _ (second _ _ (first _ _ h))
sound_caller_from codecs before (y ∷ ys) (suc i) c h is = sound_caller_from codecs (before ++ y ∷ []) ys i c (second _ _ h) is

-- a step of a caller is sound after its earlier steps
pub step_at : (s : ScriptData) (i j : ℕ) (c : CallerItem) (x : Step) → is_sound s ≡ true → slice_get s.callers i ≡ Some c → slice_get c.steps j ≡ Some x → is_sound_step s.codecs (take j c.steps) x ≡ true
step_at s i j c x h is at = sound_step_from s.codecs [] c.steps j x (sound_caller_from s.codecs [] s.callers i c (parts_of s h).callers is) at

-- the codec that a sound step names is there
pub names_within : (codecs : List CodecItem) (before : List Step) (x : Step) → is_sound_step codecs before x ≡ true → IfSome (names_codec x) (λ k. k < length codecs)
names_within codecs before (step.Configure on config) h = codec_within codecs (suits config) on h
names_within codecs before (step.Decode on chunk) h = codec_within codecs decodes on (first _ _ h)
names_within codecs before (step.Flush on bind) h = codec_within codecs any_kind on (first _ _ h)
names_within codecs before (step.Reset on) h = codec_within codecs any_kind on h
names_within codecs before (step.Close on) h = codec_within codecs any_kind on h
names_within codecs before (step.State on) h = codec_within codecs any_kind on h
names_within codecs before (step.Ground on to) h = codec_within codecs any_kind on h
names_within codecs before (step.Media (media.Encode on content)) h = codec_within codecs (takes content.kind) on (first _ _ h)
names_within codecs before (step.Media (media.Take on bind kind)) h = codec_within codecs (gives kind) on (first _ _ h)
names_within codecs before (step.Media x) h = tt
names_within codecs before x h = tt

pub named_within : (codecs : List CodecItem) (before : List Step) (x : Step) (k : ℕ) → is_sound_step codecs before x ≡ true → names_codec x ≡ Some k → k < length codecs
named_within codecs before x k h is = subst (λ (o : Option ℕ). IfSome o (λ k. k < length codecs)) is (names_within codecs before x h)

-- the codec that a step calls, or takes an output of, is the one that it names
pub called_is_named : (x : Step) (k : ℕ) → called x ≡ Some k → names_codec x ≡ Some k
called_is_named (step.State on) k is = absurd cc
called_is_named (step.Media (media.Take on bind kind)) k is = absurd cc
called_is_named (step.Media y) k is = is
called_is_named x k is = is

pub taken_is_named : (x : Step) (k : ℕ) → taken_from x ≡ Some k → names_codec x ≡ Some k
taken_is_named (step.Media (media.Take on bind kind)) k is = is
taken_is_named x k is = absurd cc

-- an element's number is at most the sum's
among_sum : {X : Type 0} (f : X → ℕ) (xs : List X) (i : ℕ) (x : X) → slice_get xs i ≡ Some x → f x ≤ sum_by f xs
among_sum f [] i x is = absurd cc
among_sum f (y ∷ ys) zero x is = let same : y ≡ x = cc in omega (arith, ap f same, sum_by-cons f y ys)
among_sum f (y ∷ ys) (suc i) x is = omega (arith, among_sum f ys i x is, sum_by-cons f y ys)

-- a caller has at most 100,000 steps
pub few_steps : (s : ScriptData) (i : ℕ) (c : CallerItem) → is_sound s ≡ true → slice_get s.callers i ≡ Some c → length c.steps ≤ 100000
few_steps s i c h is =
    let few : sum_by (λ (c : CallerItem). length c.steps) s.callers ≤ 100000 = leb-true (sum_by (λ (c : CallerItem). length c.steps) s.callers) 100000 (second _ _ (second _ _ (parts_of s h).few)) in
    omega (arith, few, among_sum (λ (c : CallerItem). length c.steps) s.callers i c is)

-- ---- variables

pub kinds_same : (a b : VariableKind) → same_kind a b ≡ true → a ≡ b
kinds_same holds.Chunk holds.Chunk h = refl
kinds_same holds.Audio holds.Audio h = refl
kinds_same holds.Frame holds.Frame h = refl
kinds_same holds.Promise holds.Promise h = refl
kinds_same holds.Buffer holds.Buffer h = refl
kinds_same a b h = absurd cc

-- The step that defines what was found: it stands at the number that was found, and defines a variable of that kind.
pub record Defines (steps : List Step) (number : ℕ) (holds : VariableKind) : Type 0 where
  pub definer : Step
  pub name : List ℕ
  pub stands : slice_get steps number ≡ Some definer
  pub defines : binds definer ≡ Some (name, holds)

bound_at : (steps : List Step) (n : ℕ) (y : Step) (o : Option (List ℕ × VariableKind)) (f : FoundVariable) → slice_get steps n ≡ Some y → binds y ≡ o → variable_at n (Some y) ≡ Some f → Defines steps f.step f.kind
bound_at steps n y None f stands is found = absurd (let bad = found in cc)
bound_at steps n y (Some b) f stands is found =
    let made : Some (record { step = n; kind = b.1 }) ≡ Some f = cc in
    let number : n ≡ f.step = cc in
    let kind : b.1 ≡ f.kind = cc in
    record {
      definer = y;
      name = b.0;
      stands = ap (slice_get steps) (sym number) ∙ stands;
      defines = is ∙ ap (λ (k : VariableKind). Some (b.0, k)) kind;
    }

found_step : (steps : List Step) (n : ℕ) (o : Option Step) (f : FoundVariable) → slice_get steps n ≡ o → variable_at n o ≡ Some f → Defines steps f.step f.kind
found_step steps n None f is found = absurd cc
found_step steps n (Some y) f is found = bound_at steps n y (binds y) f is refl found

found_named : (steps : List Step) (o : Option ℕ) (f : FoundVariable) → option_and_then (λ n. variable_at n (slice_get steps n)) o ≡ Some f → Defines steps f.step f.kind
found_named steps None f found = absurd cc
found_named steps (Some n) f found = found_step steps n (slice_get steps n) f refl found

-- a variable that is found by its name is defined by the step of its number
pub variable_defined : (steps : List Step) (name : List ℕ) (f : FoundVariable) → variable_named steps name ≡ Some f → Defines steps f.step f.kind
variable_defined steps name f found = found_named steps _ f found

found_is : (steps : List Step) (v : Variable) (o : Option FoundVariable) → variable_named steps v.name ≡ o → is_found v o ≡ true → Defines steps v.step v.kind
found_is steps v None is h = absurd cc
found_is steps v (Some f) is h =
    let p = and_parts (f.step == v.step) (same_kind f.kind v.kind) h in
    subst (λ (n : ℕ). Defines steps n v.kind) (eqb-true f.step v.step p.0) (subst (Defines steps f.step) (kinds_same f.kind v.kind p.1) (variable_defined steps v.name f is))

-- the step of a variable's number defines it, as what it says that it holds
pub variable_is : (before : List Step) (right : VariableKind → Bool) (v : Variable) → is_variable before right v ≡ true → Defines before v.step v.kind × (right v.kind ≡ true)
variable_is before right v h =
    let p = and_parts (is_found v (variable_named before v.name)) (right v.kind) h in
    (found_is before v (variable_named before v.name) refl p.0, p.1)

-- ---- promises

pub promise_kind : (k : VariableKind) → is_promise k ≡ true → k ≡ holds.Promise
promise_kind holds.Promise h = refl
promise_kind holds.Chunk h = absurd cc
promise_kind holds.Audio h = absurd cc
promise_kind holds.Frame h = absurd cc
promise_kind holds.Buffer h = absurd cc

-- a sound step looks at a variable that is there, and is a promise
pub promise_there : (codecs : List CodecItem) (before : List Step) (x : Step) (v : Variable) → is_sound_step codecs before x ≡ true → looked_at x ≡ Some v → is_variable before is_promise v ≡ true
promise_there codecs before (step.Poll promise) v h is = let same : promise ≡ v = cc in subst (λ (u : Variable). is_variable before is_promise u ≡ true) same h
promise_there codecs before (step.Await promise) v h is = let same : promise ≡ v = cc in subst (λ (u : Variable). is_variable before is_promise u ≡ true) same h
promise_there codecs before x v h is = absurd cc

apart : (k : VariableKind) → is_promise k ≡ false → k ≡ holds.Promise → ⊥
apart k h is = let bad : true ≡ false = sym (ap is_promise is) ∙ h in absurd cc

no_promise : (k : VariableKind) → is_medium k ≡ true → k ≡ holds.Promise → ⊥
no_promise holds.Audio h is = absurd cc
no_promise holds.Frame h is = absurd cc
no_promise holds.Chunk h is = absurd cc
no_promise holds.Promise h is = absurd cc
no_promise holds.Buffer h is = absurd cc

no_output : (v : VariableKind) (k : Kind) → gives v k ≡ true → v ≡ holds.Promise → ⊥
no_output holds.Promise kind.AudioDecoder h is = absurd cc
no_output holds.Promise kind.AudioEncoder h is = absurd cc
no_output holds.Promise kind.VideoDecoder h is = absurd cc
no_output holds.Promise kind.VideoEncoder h is = absurd cc
no_output holds.Chunk k h is = absurd cc
no_output holds.Audio k h is = absurd cc
no_output holds.Frame k h is = absurd cc
no_output holds.Buffer k h is = absurd cc

no_made : (i : InitShape) → made_of i ≡ holds.Promise → ⊥
no_made (init_shape.Chunk key timestamp duration) is = absurd cc
no_made (init_shape.Sound shape) is = absurd cc
no_made (init_shape.Picture shape) is = absurd cc

media_promise : (codecs : List CodecItem) (before : List Step) (y : MediaStep) (name : List ℕ) → is_sound_step codecs before (step.Media y) ≡ true → binds (step.Media y) ≡ Some (name, holds.Promise) → ⊥
media_promise codecs before (media.Audio bind init) name h is = apart holds.Audio refl (some_pair_parts bind name holds.Audio holds.Promise is).1
media_promise codecs before (media.Frame bind init) name h is = apart holds.Frame refl (some_pair_parts bind name holds.Frame holds.Promise is).1
media_promise codecs before (media.Buffer bind content) name h is = apart holds.Buffer refl (some_pair_parts bind name holds.Buffer holds.Promise is).1
media_promise codecs before (media.Buffered bind init) name h is = no_made init.shape (some_pair_parts bind name (made_of init.shape) holds.Promise is).1
media_promise codecs before (media.Encode on content) name h is = absurd cc
media_promise codecs before (media.Take on bind k) name h is = no_output k _ (codec_there codecs (gives k) on (first _ _ h)).2 (some_pair_parts bind name k holds.Promise is).1
media_promise codecs before (media.Clone of bind) name h is = no_promise of.kind (variable_is before is_medium of (first _ _ h)).1 (some_pair_parts bind name of.kind holds.Promise is).1
media_promise codecs before (media.Transfer of bind) name h is = no_promise of.kind (variable_is before is_medium of (first _ _ h)).1 (some_pair_parts bind name of.kind holds.Promise is).1
media_promise codecs before (media.CloseData of) name h is = absurd cc
media_promise codecs before (media.Copy of options size) name h is = absurd cc
media_promise codecs before (media.Size of options) name h is = absurd cc
media_promise codecs before (media.Post to content) name h is = absurd cc
media_promise codecs before (media.Receive from bind kind) name h is = no_promise kind (second _ _ h) (some_pair_parts bind name kind holds.Promise is).1

-- only a flush defines a promise
pub promise_of_flush : (codecs : List CodecItem) (before : List Step) (y : Step) (name : List ℕ) → is_sound_step codecs before y ≡ true → binds y ≡ Some (name, holds.Promise) → (on : ℕ) × (y ≡ step.Flush on name)
promise_of_flush codecs before (step.Flush on bind) name h is = (on, ap (step.Flush on) (some_pair_parts bind name holds.Promise holds.Promise is).0)
promise_of_flush codecs before (step.Configure on config) name h is = absurd cc
promise_of_flush codecs before (step.Chunk bind source) name h is = absurd (apart holds.Chunk refl (some_pair_parts bind name holds.Chunk holds.Promise is).1)
promise_of_flush codecs before (step.Decode on chunk) name h is = absurd cc
promise_of_flush codecs before (step.Poll promise) name h is = absurd cc
promise_of_flush codecs before (step.Await promise) name h is = absurd cc
promise_of_flush codecs before (step.Reset on) name h is = absurd cc
promise_of_flush codecs before (step.Close on) name h is = absurd cc
promise_of_flush codecs before (step.State on) name h is = absurd cc
promise_of_flush codecs before (step.Ground on to) name h is = absurd cc
promise_of_flush codecs before (step.Media y) name h is = absurd (media_promise codecs before y name h is)

-- ---- ports

-- a port is there, of this kind
port_stands : (kind : VariableKind) (o : Option PortItem) → is_port_of kind o ≡ true → (p : PortItem) × (o ≡ Some p) × (posted_at p.of ≡ kind)
port_stands kind None h = absurd cc
port_stands kind (Some p) h = (p, refl, kinds_same (posted_at p.of) kind h)

-- each step that posts or receives does so at a port that is there
pub use_at : (s : ScriptData) (i j : ℕ) (c : CallerItem) (x : Step) → is_sound s ≡ true → slice_get s.callers i ≡ Some c → slice_get c.steps j ≡ Some x → is_sound_use s.ports x ≡ true
use_at s i j c x h is at =
    all_at (is_sound_use s.ports) c.steps j x (all_at (λ (d : CallerItem). list_all (is_sound_use s.ports) d.steps) s.callers i c (parts_of s h).uses is) at

pub port_there : (s : ScriptData) (kind : VariableKind) (n : ℕ) → is_port_of kind (slice_get s.ports n) ≡ true → (p : PortItem) × (slice_get s.ports n ≡ Some p) × (posted_at p.of ≡ kind)
port_there s kind n h = port_stands kind (slice_get s.ports n) h

-- ---- the order

items_from : (codecs : ℕ) (callers : List CallerItem) (o : Option (List OrderItem)) (items : List OrderItem) → o ≡ Some items → is_sound_order codecs callers o ≡ true → list_all (is_sound_item codecs (length callers)) items ≡ true
items_from codecs callers None items is h = absurd cc
items_from codecs callers (Some xs) items is h =
    let same : xs ≡ items = cc in
    subst (λ (ys : List OrderItem). list_all (is_sound_item codecs (length callers)) ys ≡ true) same (first _ _ (second _ _ h))

-- each item of an order names a codec or a caller that is there
pub item_at : (s : ScriptData) (items : List OrderItem) (i : ℕ) (x : OrderItem) → is_sound s ≡ true → s.order ≡ Some items → slice_get items i ≡ Some x → is_sound_item (length s.codecs) (length s.callers) x ≡ true
item_at s items i x h is at = all_at (is_sound_item (length s.codecs) (length s.callers)) items i x (items_from (length s.codecs) s.callers s.order items is (parts_of s h).order) at
