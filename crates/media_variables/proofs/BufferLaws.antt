-- Buffers that a step takes over or lets go.
use Rattle.std.proofs.Common.{ℕ, ◌≡◌, ◌≢◌, ◌==◌, ◌&&◌, ◌||◌, ◌<◌, ◌≤◌, ◌-◌, inl, inr, not, Bool, true, false, List, [], ◌∷◌, ◌++◌, length, get_or, take, drop, Option, Some, None, refl, ap, sym, subst, ◌∙◌, append_assoc, append-nil, arith}
use Rattle.std.specs.Prelude.{IfSome, is_some, option_and_then, option_map, slice_set, if◌then◌else◌}
use Rattle.std.proofs.lemmas.Bool.{and_parts, cases_eq, false≢true, ne_eqb}
use Rattle.std.proofs.lemmas.Option.{same_Some}
use Rattle.std.proofs.Math.Seq.{take-length}
use Rattle.wc_base.specs.Options.{cond_is, some_same}
use Rattle.wc_base.specs.declared.who.Who.{Who}
use Rattle.wc_base.specs.declared.who.By.TheVariants as by
use Rattle.wc_base.specs.declared.error.DomError.TheVariants as dom
use Rattle.picture_planes.specs.Planes.{picture_size}
use Rattle.wc_audio.specs.Sound.{KeepsButHeld, needed}
use Rattle.wc_pool.specs.declared.entry.PoolEntry.{PoolEntry}
use Rattle.wc_pool.specs.declared.entry.PoolOp.{PoolOp}
use Rattle.wc_pool.specs.declared.entry.PoolOp.TheVariants as op
use Rattle.wc_pool.specs.declared.reference.MediaRef.{MediaRef}
use Rattle.wc_pool.specs.Pools.{KeepsOthers, ended_by}
use Rattle.array_buffers.specs.Transfers.{may_transfer}
use Rattle.script_types.specs.declared.steps.InitShape.{InitShape}
use Rattle.script_types.specs.declared.steps.InitShape.TheVariants as init_shape
use Rattle.script_types.specs.declared.steps.BufferedInit.{BufferedInit}
use Rattle.script_types.specs.declared.steps.InitData.{InitData}
use Rattle.script_types.specs.declared.steps.InitData.TheVariants as init_data
use Rattle.report_text.specs.declared.result.StepResult.{StepResult}
use Rattle.report_text.specs.declared.result.StepResult.TheVariants as result
use Rattle.media_variables.specs.declared.given.Given.{Given}
use Rattle.media_variables.specs.Variables.{Reference, Shape, SoundOf, PictureOf, Medium, Numbers, Came, refused, medium_at, with_medium, detached, changed_at, without, only_answers, buffer_in, buffer_at, is_open_buffer, bytes_in, is_invalid_init, steps_in, is_listed, listed_source, adopted_of, adopted_in, takes_buffers, bytes_held, all_but, shape_over, init_makes, init_made, end_of, gone_at, lets_go, lets_all, buffered_came}
use Rattle.media_variables.specs.Held.{WholeMedium, AreOf, AreOnce, held_by, reference_of, seen, seen_in, whole_held, without_reference}
use Rattle.media_variables.specs.Given.{Does, DoesAll, Gives, CameBy, Acts, MakesNew, MayEnd, MayMakeAndEnd, made_done, init_done, made_or_adopted, before_given, given_to}
use Rattle.media_variables.proofs.HeldLaws.{buffer_holds, detached_none}
use Rattle.media_variables.proofs.OfLaws.{closed_stay, seen_whole}
use Rattle.media_variables.proofs.Places.{medium_here, medium_else, changed_there, changed_here, changed_else, seen_at, seen_without}
use Rattle.media_variables.proofs.StepLaws.{came_of, turned}

-- ---- lists of variables

-- a list by its first element
pub by_first : {X : Type 0} (xs : List X) (x : X) → 1 ≤ length xs → x ≡ get_or xs 0 x → xs ≡ x ∷ take (length xs - 1) (drop 1 xs)
by_first [] x long is = absurd (omega arith)
by_first {X} (y ∷ ys) x long is =
    let less : length (y ∷ ys) - 1 ≡ length ys = omega arith in
    let rest = ap (λ (n : ℕ). take n ys) less ∙ take-length ys in
    ap (λ (z : X). z ∷ ys) (sym is) ∙ ap (λ (l : List X). x ∷ l) (sym rest)

-- the first of a list, and the others
pub but_next : (k : Option ℕ) (j : ℕ) (js : List ℕ) → all_but k (j ∷ js) ≡ all_but k (j ∷ []) ++ all_but k js
but_next None j js = refl
but_next (Some k) j js = by_test (not (j == k))
  where
    by_test : (b : Bool) → (if b then j ∷ all_but (Some k) js else all_but (Some k) js) ≡ (if b then j ∷ [] else []) ++ all_but (Some k) js
    by_test true = refl
    by_test false = refl

-- the buffer of a variable that was read
pub buffer_read : (vs : List (Option WholeMedium)) (j : ℕ) (v : Option WholeMedium) (r : Option Reference) → medium_at vs j ≡ v → r ≡ option_and_then buffer_in (option_map seen v) → r ≡ buffer_at (seen_in vs) j
buffer_read vs j v r at is = is ∙ ap (option_and_then buffer_in) (sym (seen_at vs j ∙ ap (option_map seen) at))

-- it is detached
pub detached_there : (o : Option MediaRef) (vs : List (Option WholeMedium)) (j : ℕ) (v new : Option WholeMedium) → j < length vs → v ≡ get_or vs j v → IfSome o (λ r. new ≡ option_map without_reference v) → IfSome o (λ r. slice_set vs j new ≡ changed_at without_reference j vs)
detached_there None vs j v new lt is made = tt
detached_there (Some r) vs j v new lt is made = changed_there without_reference vs j v new lt is made

-- a listed buffer is open
listed_open : (is_open : ℕ → Bool) (k : ℕ) (js : List ℕ) → is_listed k js ≡ true → may_transfer is_open js ≡ true → is_open k ≡ true
listed_open is_open k [] listed may = absurd cc
listed_open is_open k (j ∷ js) listed may =
    let parts = and_parts (is_open j && not (is_listed j js)) (may_transfer is_open js) may in
    elim (cases_eq j k) [
      | inl same ↦ subst (λ (n : ℕ). is_open n ≡ true) same (and_parts (is_open j) (not (is_listed j js)) parts.0).0
      | inr other ↦ listed_open is_open k js (ap (λ (b : Bool). b || is_listed k js) (sym (ne_eqb j k other)) ∙ listed) parts.1
    ]

-- the data's buffer, where it is listed
source_is : (content : InitData) (js : List ℕ) (k : ℕ) → listed_source js content ≡ Some k → (is_listed k js ≡ true) × ((vs : List (Option Medium)) → bytes_in content vs ≡ bytes_held (buffer_at vs k))
source_is (init_data.Hex bytes) js k is = absurd cc
source_is (init_data.Buffer v) js k is =
    let both = cond_is (is_listed v.step js) (Some v.step) k is in
    let same = some_same v.step k both.1 in
    (subst (λ (n : ℕ). is_listed n js ≡ true) same both.0, λ vs. ap (λ (n : ℕ). bytes_held (buffer_at vs n)) same)

-- a buffer is taken over by audio data or a frame, where it is the data and is listed
adopted_is : (shape : InitShape) (content : InitData) (js : List ℕ) (k : ℕ) → adopted_of shape (listed_source js content) ≡ Some k → (takes_buffers shape ≡ true) × ((is_listed k js ≡ true) × ((vs : List (Option Medium)) → bytes_in content vs ≡ bytes_held (buffer_at vs k)))
adopted_is (init_shape.Chunk key timestamp duration) content js k is = absurd cc
adopted_is (init_shape.Sound shape) content js k is = (refl, source_is content js k is)
adopted_is (init_shape.Picture shape) content js k is = (refl, source_is content js k is)

pub adopted_takes : (i : BufferedInit) (a : Option ℕ) (k : ℕ) → a ≡ adopted_in i → a ≡ Some k → takes_buffers i.shape ≡ true
adopted_takes i a k of is = (adopted_is i.shape i.content (steps_in i.transfer) k (sym of ∙ is)).0

-- its bytes are those of the init
pub adopted_valid : (i : BufferedInit) (a : Option ℕ) (k : ℕ) (vs : List (Option Medium)) (r : MediaRef) → a ≡ adopted_in i → a ≡ Some k → Some (reference_of r) ≡ buffer_at vs k → is_invalid_init i.shape (length (bytes_in i.content vs)) ≡ false → is_invalid_init i.shape (length r.bytes) ≡ false
adopted_valid i a k vs r of is there valid =
    let bytes = (adopted_is i.shape i.content (steps_in i.transfer) k (sym of ∙ is)).1.1 vs ∙ ap bytes_held (sym there) in
    subst (λ (l : List ℕ). is_invalid_init i.shape (length l) ≡ false) bytes valid

-- and it is open
pub adopted_open : (i : BufferedInit) (a : Option ℕ) (k : ℕ) (vs : List (Option Medium)) → a ≡ adopted_in i → a ≡ Some k → may_transfer (is_open_buffer vs) (steps_in i.transfer) ≡ true → None ≡ buffer_at vs k → ⊥
adopted_open i a k vs of is may none =
    let is_open = listed_open (is_open_buffer vs) k (steps_in i.transfer) (adopted_is i.shape i.content (steps_in i.transfer) k (sym of ∙ is)).1.0 may in
    let closed = ap is_some none in
    false≢true (closed ∙ is_open)

-- a reference that a variable holds is of the pool
pub held_of : (is_of : MediaRef → Type 0) (items : List (Option WholeMedium)) (j : ℕ) (r : MediaRef) → AreOf is_of items → whole_held (medium_at items j) ≡ Some r → is_of r
held_of is_of items j r h is = subst (λ (o : Option MediaRef). IfSome o is_of) is (h.each j)

-- ---- what a step comes to where it lets buffers go

pub lets_answer : (js : List ℕ) (c : Came) → (lets_all js c).answer ≡ c.answer
lets_answer [] c = refl
lets_answer (j ∷ js) c = lets_answer js (lets_go j c)

pub lets_variables : (js : List ℕ) (c d : Came) → c.variables ≡ d.variables → (lets_all js c).variables ≡ (lets_all js d).variables
lets_variables [] c d same = same
lets_variables (j ∷ js) c d same = lets_variables js (lets_go j c) (lets_go j d) (ap (λ (vs : List (Option Medium)). gone_at (buffer_at vs j) j vs) same)

abbrev pub letting : List ℕ → List (Option Medium) → Came
letting js vs = lets_all js (only_answers result.Absent vs)

pub lets_does : (js : List ℕ) (c : Came) → (lets_all js c).does ≡ c.does ++ (letting js c.variables).does
lets_does [] c = sym (append-nil c.does)
lets_does (j ∷ js) c =
    let vs = c.variables in
    let end = end_of (buffer_at vs j) in
    let rest = (letting js (gone_at (buffer_at vs j) j vs)).does in
    lets_does js (lets_go j c) ∙ (append_assoc c.does end rest ∙ ap (λ (l : List PoolOp). c.does ++ l) (sym (lets_does js (lets_go j (only_answers result.Absent vs)))))

-- some are let go, then the others
lets_append : (xs ys : List ℕ) (c : Came) → lets_all (xs ++ ys) c ≡ lets_all ys (lets_all xs c)
lets_append [] ys c = refl
lets_append (x ∷ xs) ys c = lets_append xs ys (lets_go x c)

pub lets_first : (xs js : List ℕ) (vs : List (Option Medium)) → (letting (xs ++ js) vs).does ≡ (letting xs vs).does ++ (letting js (letting xs vs).variables).does
lets_first xs js vs = ap (λ (c : Came). c.does) (lets_append xs js (only_answers result.Absent vs)) ∙ lets_does js (letting xs vs)

pub does_then : {P : Type 0} (adds : P → P → PoolEntry → Type 0) (who : Who) (a b c : P) (xs ys : List PoolOp) → DoesAll adds who a b xs → DoesAll adds who b c ys → DoesAll adds who a c (xs ++ ys)
does_then {P} adds who a b c [] ys h g = subst (λ (x : P). DoesAll adds who x c ys) h g
does_then adds who a b c (x ∷ xs) ys h g = (h.0, (h.1.0, (h.1.1.0, does_then adds who h.1.0 b c xs ys h.1.1.1 g)))

given_is : (n : Numbers) (j : ℕ) (i : BufferedInit) (k : Option ℕ) (vs : List (Option Medium)) → came_of j (made_or_adopted i k vs n) (before_given k vs) ≡ init_made n j i k vs
given_is n j i (Some k) vs = refl
given_is n j i None vs = by_shape i.shape (bytes_in i.content vs)
  where
    by_shape : (shape : InitShape) (bytes : List ℕ) → came_of j (init_done shape bytes n) vs ≡ init_makes n j shape bytes vs
    by_shape (init_shape.Chunk key timestamp duration) bytes = refl
    by_shape (init_shape.Sound shape) bytes = refl
    by_shape (init_shape.Picture shape) bytes = refl

buffered_valid : (n : Numbers) (j : ℕ) (i : BufferedInit) (vs : List (Option Medium)) → is_invalid_init i.shape (length (bytes_in i.content vs)) ≡ false → may_transfer (is_open_buffer vs) (steps_in i.transfer) ≡ true
    → buffered_came n j i vs ≡ lets_all (all_but (adopted_in i) (steps_in i.transfer)) (init_made n j i (adopted_in i) vs)
buffered_valid n j i vs valid may =
    let made = lets_all (all_but (adopted_in i) (steps_in i.transfer)) (init_made n j i (adopted_in i) vs) in
    let transfers = may_transfer (is_open_buffer vs) (steps_in i.transfer) in
    ap (λ (b : Bool). if b then only_answers (refused dom.TypeErr) vs else if transfers then made else only_answers (refused dom.DataClone) vs) valid ∙ ap (λ (b : Bool). if b then made else only_answers (refused dom.DataClone) vs) may

pub buffered_acts : {P : Type 0} (adds : P → P → PoolEntry → Type 0) (who : Who) (old mid new : P) (i : BufferedInit) (vs between after : List (Option Medium)) (g : Given) (r : StepResult)
    → is_invalid_init i.shape (length (bytes_in i.content vs)) ≡ false → may_transfer (is_open_buffer vs) (steps_in i.transfer) ≡ true
    → Gives (adds old mid) (mid ≡ old) who (made_or_adopted i (adopted_in i) vs) g → r ≡ g.answer
    → between ≡ given_to who.step (option_map seen g.medium) (before_given (adopted_in i) vs)
    → after ≡ (letting (all_but (adopted_in i) (steps_in i.transfer)) between).variables → DoesAll adds who mid new (letting (all_but (adopted_in i) (steps_in i.transfer)) between).does
    → Acts (DoesAll adds who old new) (λ n. Some (buffered_came n who.step i vs)) vs after (Some r)
buffered_acts adds who old mid new i vs between after g r valid may h is put went does =
    let k = adopted_in i in
    let js = all_but k (steps_in i.transfer) in
    let n = h.numbers in
    let d = made_or_adopted i k vs n in
    let c = came_of who.step d (before_given k vs) in
    let held : between ≡ c.variables = put ∙ ap (λ (m : Option Medium). given_to who.step m (before_given k vs)) h.medium in
    let first = turned adds who old mid d.does h.does in
    let rest = subst (λ (l : List (Option Medium)). DoesAll adds who mid new (letting js l).does) held does in
    let all = subst (λ (l : List PoolOp). DoesAll adds who old new l) (sym (lets_does js c)) (does_then adds who old mid new c.does (letting js c.variables).does first rest) in
    let variables = went ∙ lets_variables js (only_answers result.Absent between) c held in
    record {
      numbers = n;
      came_by = subst (λ (x : Came). CameBy (DoesAll adds who old new) vs after (Some x) (Some r)) (ap (lets_all js) (given_is n who.step i k vs) ∙ sym (buffered_valid n who.step i vs valid may))
          (ap Some (is ∙ (h.answered ∙ sym (lets_answer js c))), all, variables);
    }

-- a step that is refused
pub invalid_acts : (did : List PoolOp → Type 0) (who : Who) (i : BufferedInit) (vs : List (Option Medium)) (r : StepResult) → did [] → is_invalid_init i.shape (length (bytes_in i.content vs)) ≡ true → r ≡ refused dom.TypeErr → Acts did (λ n. Some (buffered_came n who.step i vs)) vs vs (Some r)
invalid_acts did who i vs r here invalid is =
    let n : Numbers = record { resource = 0; reference = 0 } in
    let made = lets_all (all_but (adopted_in i) (steps_in i.transfer)) (init_made n who.step i (adopted_in i) vs) in
    let other = if may_transfer (is_open_buffer vs) (steps_in i.transfer) then made else only_answers (refused dom.DataClone) vs in
    let came = ap (λ (b : Bool). if b then only_answers (refused dom.TypeErr) vs else other) invalid in
    record { numbers = n; came_by = subst (λ (x : Came). CameBy did vs vs (Some x) (Some r)) (sym came) (ap Some is, here, refl) }

pub may_not_acts : (did : List PoolOp → Type 0) (who : Who) (i : BufferedInit) (vs : List (Option Medium)) (r : StepResult) → did [] → is_invalid_init i.shape (length (bytes_in i.content vs)) ≡ false → may_transfer (is_open_buffer vs) (steps_in i.transfer) ≡ false → r ≡ refused dom.DataClone
    → Acts did (λ n. Some (buffered_came n who.step i vs)) vs vs (Some r)
may_not_acts did who i vs r here valid may is =
    let n : Numbers = record { resource = 0; reference = 0 } in
    let made = lets_all (all_but (adopted_in i) (steps_in i.transfer)) (init_made n who.step i (adopted_in i) vs) in
    let transfers = may_transfer (is_open_buffer vs) (steps_in i.transfer) in
    let came = ap (λ (b : Bool). if b then only_answers (refused dom.TypeErr) vs else if transfers then made else only_answers (refused dom.DataClone) vs) valid ∙ ap (λ (b : Bool). if b then made else only_answers (refused dom.DataClone) vs) may in
    record { numbers = n; came_by = subst (λ (x : Came). CameBy did vs vs (Some x) (Some r)) (sym came) (ap Some is, here, refl) }

-- ---- no two references are one

once_less : (vs ws : List (Option Medium)) → ((i : ℕ) (r : Reference) → held_by (medium_at ws i) ≡ Some r → held_by (medium_at vs i) ≡ Some r) → AreOnce vs → AreOnce ws
once_less vs ws was h = record { once = λ i j r q a b same. h.once i j r q (was i r a) (was j q b) same }

without_was : (j : ℕ) (vs : List (Option Medium)) (i : ℕ) (r : Reference) → held_by (medium_at (without j vs) i) ≡ Some r → (i ≢ j) × (held_by (medium_at vs i) ≡ Some r)
without_was j vs i r e = elim (cases_eq i j) [
  | inl same ↦
      (let here = ap (λ (n : ℕ). held_by (medium_at (without j vs) n)) same ∙ (ap held_by (changed_here detached j vs) ∙ detached_none (medium_at vs j)) in
      let none = sym here ∙ e in absurd cc)
  | inr other ↦ (other, sym (ap held_by (changed_else detached j vs i other)) ∙ e)
]

pub once_without : (j : ℕ) (vs : List (Option Medium)) → AreOnce vs → AreOnce (without j vs)
once_without j vs h = once_less vs (without j vs) (λ i r e. (without_was j vs i r e).1) h

with_was : (j : ℕ) (m : Medium) (vs : List (Option Medium)) (i : ℕ) → i ≢ j → held_by (medium_at (with_medium j m vs) i) ≡ held_by (medium_at vs i)
with_was j m vs i other = ap held_by (medium_else j m vs i other)

with_here : (j : ℕ) (m : Medium) (vs : List (Option Medium)) (i : ℕ) → i ≡ j → held_by (medium_at (with_medium j m vs) i) ≡ m.held
with_here j m vs i same = ap (λ (n : ℕ). held_by (medium_at (with_medium j m vs) n)) same ∙ ap held_by (medium_here j m vs)

-- a variable holds a reference that is none of the others'
pub once_with : (j : ℕ) (m : Medium) (vs : List (Option Medium)) → ((r : Reference) → m.held ≡ Some r → (i : ℕ) (s : Reference) → held_by (medium_at vs i) ≡ Some s → s.number ≢ r.number) → AreOnce vs → AreOnce (with_medium j m vs)
once_with j m vs fresh h = record {
  once = λ a b r q at bt same. elim (cases_eq a j) [
    | inl here ↦ elim (cases_eq b j) [
      | inl there ↦ here ∙ sym there
      | inr other ↦ absurd (fresh r (sym (with_here j m vs a here) ∙ at) b q (sym (with_was j m vs b other) ∙ bt) (sym same))
    ]
    | inr apart ↦ elim (cases_eq b j) [
      | inl there ↦ absurd (fresh q (sym (with_here j m vs b there) ∙ bt) a r (sym (with_was j m vs a apart) ∙ at) same)
      | inr other ↦ h.once a b r q (sym (with_was j m vs a apart) ∙ at) (sym (with_was j m vs b other) ∙ bt) same
    ]
  ];
}

-- where a buffer is taken over
once_adopted : (j k : ℕ) (shape : Shape) (vs : List (Option Medium)) → AreOnce vs → AreOnce (with_medium j (record { shape = shape; held = buffer_at vs k }) (without k vs))
once_adopted j k shape vs h =
    once_with j (record { shape = shape; held = buffer_at vs k }) (without k vs)
    (λ r is i s e. let was = without_was k vs i s e in λ same. was.0 (h.once i k s r was.1 (buffer_holds (medium_at vs k) r is) same))
    (once_without k vs h)

-- a reference that was made is none of those that variables hold
not_made : (is_of : MediaRef → Type 0) (items : List (Option WholeMedium)) (f : ℕ) → AreOf is_of items → ((q : MediaRef) → is_of q → q.number ≢ f) → (i : ℕ) (s : Reference) → held_by (medium_at (seen_in items) i) ≡ Some s → s.number ≢ f
not_made is_of items f h apart i s e =
    let q = seen_whole (medium_at items i) s (sym (ap held_by (seen_at items i)) ∙ e) in
    let of : is_of q.0 = subst (λ (o : Option MediaRef). IfSome o is_of) q.1.0 (h.each i) in
    λ same. apart q.0 of (ap (λ (x : Reference). x.number) q.1.1 ∙ same)

module _ {P : Type 0} (adds : P → P → PoolEntry → Type 0) (is_of : P → MediaRef → Type 0) (who : Who) (old mid : P) (items : List (Option WholeMedium)) where
  made_once : (n : Numbers) (shape : Shape) (bytes : List ℕ) → AreOnce (seen_in items) → MakesNew adds is_of old → AreOf (is_of old) items → Does (adds old mid) (mid ≡ old) who (made_done n shape bytes).does → AreOnce (given_to who.step (made_done n shape bytes).medium (seen_in items))
  made_once n shape bytes once new of does =
      once_with who.step (record { shape = shape; held = Some (record { resource = n.resource; number = n.reference; bytes = bytes }) }) (seen_in items)
      (λ r is i s e. (let number = ap (λ (x : Reference). x.number) (same_Some (record { resource = n.resource; number = n.reference; bytes = bytes }) r is) in
      λ same. not_made (is_of old) items n.reference of (new mid (by.Caller who) n.resource n.reference does.1) i s e (same ∙ sym number)))
      once

  init_once : (n : Numbers) (shape : InitShape) (bytes : List ℕ) → AreOnce (seen_in items) → MakesNew adds is_of old → AreOf (is_of old) items → Does (adds old mid) (mid ≡ old) who (init_done shape bytes n).does → AreOnce (given_to who.step (init_done shape bytes n).medium (seen_in items))
  init_once n (init_shape.Chunk key timestamp duration) bytes once new of does = once_with who.step _ (seen_in items) (λ r is i s e. absurd cc) once
  init_once n (init_shape.Sound shape) bytes once new of does = made_once n (SoundOf shape) (take (needed shape) bytes) once new of does
  init_once n (init_shape.Picture shape) bytes once new of does = made_once n (PictureOf shape) (take (picture_size shape) bytes) once new of does

  done_once : (n : Numbers) (i : BufferedInit) (k : Option ℕ) → AreOnce (seen_in items) → MakesNew adds is_of old → AreOf (is_of old) items → Does (adds old mid) (mid ≡ old) who (made_or_adopted i k (seen_in items) n).does
      → AreOnce (given_to who.step (made_or_adopted i k (seen_in items) n).medium (before_given k (seen_in items)))
  done_once n i None once new of does = init_once n i.shape (bytes_in i.content (seen_in items)) once new of does
  done_once n i (Some k) once new of does = once_adopted who.step k (shape_over i.shape) (seen_in items) once

  -- after what is given, references may end
  pub may_end : (i : BufferedInit) (k : Option ℕ) (g : Given) (between : List (Option Medium)) → MayMakeAndEnd adds is_of old (seen_in items) → AreOf (is_of old) items → Gives (adds old mid) (mid ≡ old) who (made_or_adopted i k (seen_in items)) g
      → between ≡ given_to who.step (option_map seen g.medium) (before_given k (seen_in items)) → MayEnd adds is_of between
  may_end i k g between (inr lasts) of h put = inr lasts
  may_end i k g between (inl safe) of h put =
      let is = put ∙ ap (λ (m : Option Medium). given_to who.step m (before_given k (seen_in items))) h.medium in
      inl (subst AreOnce (sym is) (done_once h.numbers i k safe.0 safe.1 of h.does))

-- ---- one buffer is let go

module _ {P : Type 0} (adds : P → P → PoolEntry → Type 0) (is_of : P → MediaRef → Type 0) (who : Who) (old new : P) (items after : List (Option WholeMedium)) (j : ℕ) (r : MediaRef) (last : Bool)
    (given : Some (reference_of r) ≡ buffer_at (seen_in items) j) (whole : whole_held (medium_at items j) ≡ Some r) (detach : after ≡ changed_at without_reference j items) (added : adds old new (ended_by (by.Caller who) r last)) where
  pub gone_variables : seen_in after ≡ gone_at (buffer_at (seen_in items) j) j (seen_in items)
  gone_variables = ap seen_in detach ∙ (seen_without j items ∙ ap (λ (o : Option Reference). gone_at o j (seen_in items)) given)

  pub gone_does : DoesAll adds who old new (end_of (buffer_at (seen_in items) j))
  gone_does = subst (λ (o : Option Reference). DoesAll adds who old new (end_of o)) given (last, (new, (added, refl)))

  pub gone_of : MayEnd adds is_of (seen_in items) → AreOf (is_of old) items → KeepsOthers r.number (is_of old) (is_of new) → AreOf (is_of new) after
  gone_of (inl once) h keeps = closed_stay (is_of old) (is_of new) items after j (medium_at items j) refl detach h (subst (λ (o : Option MediaRef). KeepsButHeld o (is_of old) (is_of new)) (sym whole) keeps) (inl once)
  gone_of (inr lasts) h keeps = closed_stay (is_of old) (is_of new) items after j (medium_at items j) refl detach h (subst (λ (o : Option MediaRef). KeepsButHeld o (is_of old) (is_of new)) (sym whole) keeps) (inr (lasts old new _ added))

  pub gone_apart : MayEnd adds is_of (seen_in items) → MayEnd adds is_of (seen_in after)
  gone_apart (inr lasts) = inr lasts
  gone_apart (inl once) = inl (subst AreOnce (sym (ap seen_in detach ∙ seen_without j items)) (once_without j (seen_in items) once))

-- nothing is let go where no buffer is open
pub none_gone : (vs : List (Option Medium)) (j : ℕ) → None ≡ buffer_at vs j → vs ≡ gone_at (buffer_at vs j) j vs
none_gone vs j none = ap (λ (o : Option Reference). gone_at o j vs) none

-- ---- one after another

module _ {P : Type 0} (adds : P → P → PoolEntry → Type 0) (who : Who) where
  -- what was let go, with what is left
  abbrev pub IsGone : P → P → List ℕ → List (Option Medium) → Came → Type 0
  IsGone start now js vs whole = (so_far : List PoolOp) × (DoesAll adds who start now so_far × (so_far ++ (letting js vs).does ≡ whole.does))

  pub gone_first : (start now next : P) (k : Option ℕ) (j : ℕ) (js : List ℕ) (vs ws : List (Option Medium)) (whole : Came) → ws ≡ (letting (all_but k (j ∷ [])) vs).variables → DoesAll adds who now next (letting (all_but k (j ∷ [])) vs).does → IsGone start now (all_but k (j ∷ js)) vs whole → IsGone start next (all_but k js) ws whole
  gone_first start now next k j js vs ws whole went does h =
      let xs = all_but k (j ∷ []) in
      let ys = all_but k js in
      let done = (letting xs vs).does in
      let here : (letting (all_but k (j ∷ js)) vs).does ≡ done ++ (letting ys ws).does =
      ap (λ (l : List ℕ). (letting l vs).does) (but_next k j js) ∙ (lets_first xs ys vs ∙ ap (λ (l : List (Option Medium)). done ++ (letting ys l).does) (sym went)) in
      (h.0 ++ done, (does_then adds who start now next h.0 done h.1.0 does, append_assoc h.0 done (letting ys ws).does ∙ (ap (λ (l : List PoolOp). h.0 ++ l) (sym here) ∙ h.1.1)))

  pub gone_all : (start now : P) (vs : List (Option Medium)) (whole : Came) → IsGone start now [] vs whole → DoesAll adds who start now whole.does
  gone_all start now vs whole h = subst (λ (l : List PoolOp). DoesAll adds who start now l) (sym (append-nil h.0) ∙ h.1.1) h.1.0

pub first_variables : (k : Option ℕ) (j : ℕ) (js : List ℕ) (vs ws : List (Option Medium)) → ws ≡ (letting (all_but k (j ∷ [])) vs).variables → (letting (all_but k js) ws).variables ≡ (letting (all_but k (j ∷ js)) vs).variables
first_variables k j js vs ws went =
    let xs = all_but k (j ∷ []) in
    let ys = all_but k js in
    lets_variables ys (only_answers result.Absent ws) (letting xs vs) went ∙ (sym (ap (λ (c : Came). c.variables) (lets_append xs ys (only_answers result.Absent vs))) ∙ ap (λ (l : List ℕ). (letting l vs).variables) (sym (but_next k j js)))
