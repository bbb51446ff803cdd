-- What a step on media does to the pool is legal there.
use Rattle.std.proofs.Common.{ℕ, zero, suc, ◌<◌, ◌≤◌, ◌≡◌, ◌==◌, Bool, true, false, cond, not, if◌then◌else◌, List, [], ◌∷◌, ◌++◌, length, take, Option, Some, None, refl, ap, sym, subst, ◌∙◌, inl, inr, eq-eqb, arith, append_assoc, append-nil}
use Rattle.std.specs.Prelude.{◌&&◌}
use Rattle.std.proofs.lemmas.Bool.{and_parts, cases_eq, ne_eqb}
use Rattle.wc_base.specs.declared.who.Who.{Who}
use Rattle.wc_base.specs.declared.who.By.TheVariants as by
use Rattle.wc_base.specs.declared.error.DomError.TheVariants as dom
use Rattle.wc_chunk.specs.declared.chunk.Chunk.{Chunk}
use Rattle.codec_definitions.specs.declared.unit.Unit as output
use Rattle.codec_definitions.specs.declared.unit.Unit.TheVariants as unit
use Rattle.report_text.specs.declared.result.StepResult.{StepResult}
use Rattle.picture_planes.specs.Planes.{picture_size}
use Rattle.wc_pool.specs.declared.entry.PoolEntry.{PoolEntry}
use Rattle.wc_pool.specs.declared.entry.PoolOp.{PoolOp}
use Rattle.wc_pool.specs.declared.entry.PoolOp.TheVariants as op
use Rattle.wc_pool.specs.Bag.{is_number, is_live, references_of, references_made, resources_made, count_below, is_held, is_legal_next, is_legal_from, is_legal_pool}
use Rattle.wc_pool.specs.Laws.{LiveAreNumbered}
use Rattle.wc_audio.specs.Sound as sound
use Rattle.wc_video.specs.Frames as frames
use Rattle.array_buffers.specs.Transfers.{may_transfer}
use Rattle.script_types.specs.declared.steps.InitShape.{InitShape}
use Rattle.script_types.specs.declared.steps.InitShape.TheVariants as init_shape
use Rattle.script_types.specs.declared.steps.BufferedInit.{BufferedInit}
use Rattle.script_types.specs.declared.steps.SoundInit.{SoundInit}
use Rattle.script_types.specs.declared.steps.PictureInit.{PictureInit}
use Rattle.script_types.specs.declared.steps.MediaStep.{MediaStep}
use Rattle.script_types.specs.declared.steps.MediaStep.TheVariants as media
use Rattle.script_types.specs.declared.options.Options.{Options}
use Rattle.script_types.specs.declared.options.Options.TheVariants as options
use Rattle.media_variables.specs.Variables.{Reference, Shape, SoundOf, PictureOf, Medium, Came, next_numbers, refused, entry_behind, entries_of, medium_at, variables_of, only_answers, makes, audio_came, frame_came, clone_held, transfer_held, close_held, buffer_at, is_open_buffer, bytes_in, steps_in, is_invalid_init, adopted_in, all_but, init_makes, init_made, end_of, lets_go, lets_all, post_held, Received, received_came, if_there, copy_came, Taken, Brought, unit_came, taken_came, media_came}
use Rattle.media_variables.specs.Held.{held_by, IsLiveIn, AreHeld, DoLegally}
use Rattle.media_variables.proofs.Ends.{held_same}
use Rattle.media_variables.proofs.PoolLaws.{entries_split}
use Rattle.media_variables.proofs.HeldLaws.{Has, Keeps, buffer_there, keeps_init, keeps_go}

abbrev one_if : Bool → ℕ
one_if b = cond b 1 0

-- some number passes
count_some : (p : ℕ → Bool) (n i : ℕ) → i < n → p i ≡ true → 1 ≤ count_below p n
count_some p zero i lt is = absurd (omega (arith, lt))
count_some p (suc n) i lt is = elim (cases_eq i n) [
  | inl same ↦ (let here = ap one_if (ap p (sym same) ∙ is) in omega (arith, here))
  | inr other ↦ (let rest = count_some p n i (omega (arith, lt, other)) is in omega (arith, rest))
]

not_zero : (n : ℕ) → 1 ≤ n → not (n == 0) ≡ true
not_zero n some = ap not (ne_eqb n 0 (λ e. omega (arith, some, e)))

live_test : (pool : List PoolEntry) (r : Reference) → IsLiveIn pool r → is_live r.resource r.number pool ≡ true
live_test pool r lives = ap (λ (o : Option ℕ). is_number o r.resource) lives ∙ eq-eqb r.resource r.resource refl

-- a resource with a live reference is held
live_held : LiveAreNumbered → (pool : List PoolEntry) (r : Reference) → is_legal_pool pool ≡ true → IsLiveIn pool r → is_held r.resource pool ≡ true
live_held numbered pool r legal lives =
    not_zero (references_of r.resource pool) (count_some (λ f. is_live r.resource f pool) (references_made pool) r.number (numbered pool r.number r.resource legal lives).0 (live_test pool r lives))

-- what is done next is legal, and so is all that a step does, one after another
abbrev Next : List PoolEntry → Who → PoolOp → Type 0
Next pool who o = is_legal_next pool (entry_behind pool who o) ≡ true

abbrev Legally : List PoolEntry → Who → List PoolOp → Type 0
Legally pool who os = is_legal_from pool (entries_of pool who os) ≡ true

both : (a b : Bool) → a ≡ true → b ≡ true → (a && b) ≡ true
both true b p q = q
both false b p q = p

one : (pool : List PoolEntry) (who : Who) (o : PoolOp) → Next pool who o → Legally pool who (o ∷ [])
one pool who o h = both (is_legal_next pool (entry_behind pool who o)) true h refl

-- one more entry behind those that are legal
legal_more : (before es : List PoolEntry) (e : PoolEntry) → is_legal_from before es ≡ true → is_legal_next (before ++ es) e ≡ true → is_legal_from before (es ++ e ∷ []) ≡ true
legal_more before [] e h next = both (is_legal_next before e) true (subst (λ (l : List PoolEntry). is_legal_next l e ≡ true) (append-nil before) next) refl
legal_more before (x ∷ es) e h next =
    let parts = and_parts (is_legal_next before x) (is_legal_from (before ++ x ∷ []) es) h in
    let rest = legal_more (before ++ x ∷ []) es e parts.1 (subst (λ (l : List PoolEntry). is_legal_next l e ≡ true) (sym (append_assoc before (x ∷ []) es)) next) in
    both (is_legal_next before x) (is_legal_from (before ++ x ∷ []) (es ++ e ∷ [])) parts.0 rest

made_next : (pool : List PoolEntry) (who : Who) → Next pool who (op.Make (resources_made pool) (references_made pool))
made_next pool who = ap (λ (b : Bool). b && (references_made pool == references_made pool)) (eq-eqb (resources_made pool) (resources_made pool) refl) ∙ eq-eqb (references_made pool) (references_made pool) refl

made_legally : (pool : List PoolEntry) (who : Who) → Legally pool who (op.Make (resources_made pool) (references_made pool) ∷ [])
made_legally pool who = one pool who (op.Make (resources_made pool) (references_made pool)) (made_next pool who)

init_legally : (pool : List PoolEntry) (who : Who) (shape : Shape) (bytes : List ℕ) (vs : List (Option Medium)) (b : Bool) → Legally pool who (if b then only_answers (refused dom.TypeErr) vs else makes (next_numbers pool) who.step shape bytes vs).does
init_legally pool who shape bytes vs true = refl
init_legally pool who shape bytes vs false = made_legally pool who

audio_legally : (pool : List PoolEntry) (who : Who) (init : Option SoundInit) (vs : List (Option Medium)) → Legally pool who (audio_came (next_numbers pool) who.step init vs).does
audio_legally pool who None vs = refl
audio_legally pool who (Some i) vs = init_legally pool who (SoundOf i.shape) (take (sound.needed i.shape) i.content) vs (sound.is_invalid i.shape (length i.content))

frame_legally : (pool : List PoolEntry) (who : Who) (init : Option PictureInit) (vs : List (Option Medium)) → Legally pool who (frame_came (next_numbers pool) who.step init vs).does
frame_legally pool who None vs = refl
frame_legally pool who (Some i) vs = init_legally pool who (PictureOf i.shape) (take (picture_size i.shape) i.content) vs (frames.is_invalid i.shape (length i.content))

clone_legally : LiveAreNumbered → (pool : List PoolEntry) (who : Who) (shape : Shape) (held : Option Reference) (vs : List (Option Medium)) → is_legal_pool pool ≡ true → ((r : Reference) → held ≡ Some r → IsLiveIn pool r) → Legally pool who (clone_held (next_numbers pool) who.step shape held vs).does
clone_legally numbered pool who shape None vs legal lives = refl
clone_legally numbered pool who shape (Some r) vs legal lives =
    one pool who (op.Clone r.resource (references_made pool))
    (ap (λ (b : Bool). b && (references_made pool == references_made pool)) (live_held numbered pool r legal (lives r refl)) ∙ eq-eqb (references_made pool) (references_made pool) refl)

transfer_legally : (pool : List PoolEntry) (who : Who) (of : ℕ) (m : Medium) (held : Option Reference) (vs : List (Option Medium)) → Legally pool who (transfer_held who.step of m held vs).does
transfer_legally pool who of m None vs = refl
transfer_legally pool who of m (Some r) vs = refl

post_legally : (pool : List PoolEntry) (who : Who) (of : ℕ) (held : Option Reference) (vs : List (Option Medium)) → Legally pool who (post_held of held vs).does
post_legally pool who of None vs = refl
post_legally pool who of (Some r) vs = refl

receive_legally : (pool : List PoolEntry) (who : Who) (o : Option Received) (vs : List (Option Medium)) → Legally pool who (received_came who.step o vs).does
receive_legally pool who None vs = refl
receive_legally pool who (Some p) vs = refl

-- the flag of an end is what it says
flag_legally : (pool : List PoolEntry) (who : Who) (r : Reference) (b : Bool) → is_held r.resource (pool ++ record { by = by.Caller who; op = op.End r.resource r.number false } ∷ []) ≡ b
    → (if not b then not (is_held r.resource (pool ++ record { by = by.Caller who; op = op.End r.resource r.number (not b) } ∷ [])) else is_held r.resource (pool ++ record { by = by.Caller who; op = op.End r.resource r.number (not b) } ∷ [])) ≡ true
flag_legally pool who r true is = is
flag_legally pool who r false is = ap not (held_same (by.Caller who) r.resource r.number true false r.resource pool ∙ is)

-- the end of a live reference
end_next : (pool : List PoolEntry) (who : Who) (r : Reference) → IsLiveIn pool r → Next pool who (op.End r.resource r.number false)
end_next pool who r lives =
    let still = is_held r.resource (pool ++ record { by = by.Caller who; op = op.End r.resource r.number false } ∷ []) in
    let flag = flag_legally pool who r still refl in
    ap (λ (b : Bool). b && (if not still then not (is_held r.resource (pool ++ record { by = by.Caller who; op = op.End r.resource r.number (not still) } ∷ [])) else is_held r.resource (pool ++ record { by = by.Caller who; op = op.End r.resource r.number (not still) } ∷ []))) (live_test pool r lives) ∙ flag

close_legally : (pool : List PoolEntry) (who : Who) (of : ℕ) (m : Medium) (held : Option Reference) (vs : List (Option Medium)) → ((r : Reference) → held ≡ Some r → IsLiveIn pool r) → Legally pool who (close_held of m held vs).does
close_legally pool who of m None vs lives = refl
close_legally pool who of m (Some r) vs lives = one pool who (op.End r.resource r.number false) (end_next pool who r (lives r refl))

-- ---- buffers that a step lets go

ended_legally : (pool : List PoolEntry) (who : Who) (all : List (List (Option Medium))) (j : ℕ) (c : Came) (o : Option Reference) → who.caller < length all → buffer_at c.variables j ≡ o → Keeps pool who all c → Legally pool who c.does → Legally pool who (c.does ++ end_of o)
ended_legally pool who all j c None lt is keeps h = subst (λ (l : List PoolOp). Legally pool who l) (sym (append-nil c.does)) h
ended_legally pool who all j c (Some r) lt is keeps h =
    let now = pool ++ entries_of pool who c.does in
    let o = op.End r.resource r.number false in
    let lives : IsLiveIn now r = keeps.live who.caller j r (buffer_there all who.caller j c.variables r lt is) in
    subst (λ (l : List PoolEntry). is_legal_from pool l ≡ true) (sym (entries_split pool who c.does o))
    (legal_more pool (entries_of pool who c.does) (entry_behind now who o) h (end_next now who r lives))

all_legally : (pool : List PoolEntry) (who : Who) (all : List (List (Option Medium))) (js : List ℕ) (c : Came) → Has pool who all → Keeps pool who all c → Legally pool who c.does → Legally pool who (lets_all js c).does
all_legally pool who all [] c has keeps h = h
all_legally pool who all (j ∷ js) c has keeps h =
    all_legally pool who all js (lets_go j c) has (keeps_go pool who all j c has keeps) (ended_legally pool who all j c (buffer_at c.variables j) has.there refl keeps h)

makes_legally : (pool : List PoolEntry) (who : Who) (shape : InitShape) (bytes : List ℕ) (vs : List (Option Medium)) → Legally pool who (init_makes (next_numbers pool) who.step shape bytes vs).does
makes_legally pool who (init_shape.Chunk key timestamp duration) bytes vs = refl
makes_legally pool who (init_shape.Sound shape) bytes vs = made_legally pool who
makes_legally pool who (init_shape.Picture shape) bytes vs = made_legally pool who

init_made_legally : (pool : List PoolEntry) (who : Who) (i : BufferedInit) (k : Option ℕ) (vs : List (Option Medium)) → Legally pool who (init_made (next_numbers pool) who.step i k vs).does
init_made_legally pool who i None vs = makes_legally pool who i.shape (bytes_in i.content vs) vs
init_made_legally pool who i (Some k) vs = refl

buffered_legally : (pool : List PoolEntry) (who : Who) (all : List (List (Option Medium))) (i : BufferedInit) → Has pool who all → (invalid may : Bool)
    → Legally pool who (if invalid then only_answers (refused dom.TypeErr) (variables_of who.caller all)
    else if may then lets_all (all_but (adopted_in i) (steps_in i.transfer)) (init_made (next_numbers pool) who.step i (adopted_in i) (variables_of who.caller all)) else only_answers (refused dom.DataClone) (variables_of who.caller all)).does
buffered_legally pool who all i has true may = refl
buffered_legally pool who all i has false false = refl
buffered_legally pool who all i has false true =
    all_legally pool who all (all_but (adopted_in i) (steps_in i.transfer)) _ has (keeps_init pool who all i (adopted_in i) has) (init_made_legally pool who i (adopted_in i) (variables_of who.caller all))

-- ---- every step

there_legally : (pool : List PoolEntry) (who : Who) (v : Option Medium) (vs : List (Option Medium)) (came : Medium → Came) → ((m : Medium) → v ≡ Some m → Legally pool who (came m).does) → Legally pool who (if_there v vs came).does
there_legally pool who None vs came each = refl
there_legally pool who (Some m) vs came each = each m refl

copy_legally : (pool : List PoolEntry) (who : Who) (chunk : Option Chunk) (of : ℕ) (o : Options) (size : ℕ) (vs : List (Option Medium)) → Legally pool who (copy_came chunk of o size vs).does
copy_legally pool who chunk of options.Nothing size vs = refl
copy_legally pool who chunk of (options.Audio o) size vs = there_legally pool who (medium_at vs of) vs _ (λ m e. refl)
copy_legally pool who chunk of (options.Frame o) size vs = there_legally pool who (medium_at vs of) vs _ (λ m e. refl)

-- a variable's reference is live
its_live : (pool : List PoolEntry) (who : Who) (all : List (List (Option Medium))) (of : ℕ) (m : Medium) → AreHeld pool all → medium_at (variables_of who.caller all) of ≡ Some m → (r : Reference) → m.held ≡ Some r → IsLiveIn pool r
its_live pool who all of m h is r holds = h.live who.caller of r (ap held_by is ∙ holds)

abbrev LegallyIf : List PoolEntry → Who → Option Came → Type 0
LegallyIf pool who None = Unit {0}
LegallyIf pool who (Some y) = Legally pool who y.does

unit_legally : (pool : List PoolEntry) (who : Who) (answer : StepResult) (u : output.Unit) (vs : List (Option Medium)) → Legally pool who (unit_came (next_numbers pool) who.step answer u vs).does
unit_legally pool who answer (unit.Sound s) vs = made_legally pool who
unit_legally pool who answer (unit.Image p) vs = made_legally pool who
unit_legally pool who answer (unit.Coded chunk config) vs = refl

taken_legally : (pool : List PoolEntry) (who : Who) (t : Option Taken) (vs : List (Option Medium)) → LegallyIf pool who (taken_came (next_numbers pool) who.step t vs)
taken_legally pool who None vs = tt
taken_legally pool who (Some t) vs = unit_legally pool who t.answer t.unit vs

step_legally : (pool : List PoolEntry) (who : Who) (all : List (List (Option Medium))) (b : Brought) (x : MediaStep) → Has pool who all → LegallyIf pool who (media_came (next_numbers pool) who b x (variables_of who.caller all))
step_legally pool who all b (media.Audio bind init) h = audio_legally pool who init (variables_of who.caller all)
step_legally pool who all b (media.Frame bind init) h = frame_legally pool who init (variables_of who.caller all)
step_legally pool who all b (media.Buffer bind content) h = made_legally pool who
step_legally pool who all b (media.Buffered bind i) h =
    let vs = variables_of who.caller all in
    buffered_legally pool who all i h (is_invalid_init i.shape (length (bytes_in i.content vs))) (may_transfer (is_open_buffer vs) (steps_in i.transfer))
step_legally pool who all b (media.Encode on content) h = tt
step_legally pool who all b (media.Take on bind kind) h = taken_legally pool who b.taken (variables_of who.caller all)
step_legally pool who all b (media.Clone of bind) h =
    there_legally pool who (medium_at (variables_of who.caller all) of.step) (variables_of who.caller all) _ (λ m e. clone_legally h.numbered pool who m.shape m.held (variables_of who.caller all) h.legal (its_live pool who all of.step m h.held e))
step_legally pool who all b (media.Transfer of bind) h =
    there_legally pool who (medium_at (variables_of who.caller all) of.step) (variables_of who.caller all) _ (λ m e. transfer_legally pool who of.step m m.held (variables_of who.caller all))
step_legally pool who all b (media.CloseData of) h =
    there_legally pool who (medium_at (variables_of who.caller all) of.step) (variables_of who.caller all) _ (λ m e. close_legally pool who of.step m m.held (variables_of who.caller all) (its_live pool who all of.step m h.held e))
step_legally pool who all b (media.Copy of o size) h = copy_legally pool who b.chunk of.step o size (variables_of who.caller all)
step_legally pool who all b (media.Size of o) h =
    there_legally pool who (medium_at (variables_of who.caller all) of.step) (variables_of who.caller all) _ (λ m e. refl)
step_legally pool who all b (media.Post to content) h =
    there_legally pool who (medium_at (variables_of who.caller all) content.step) (variables_of who.caller all) _ (λ m e. post_legally pool who content.step m.held (variables_of who.caller all))
step_legally pool who all b (media.Receive from bind kind) h = receive_legally pool who b.received (variables_of who.caller all)

pub does_legally : LiveAreNumbered → DoLegally
does_legally numbered pool who all b x y legal there h is =
    subst (LegallyIf pool who) is (step_legally pool who all b x (record { numbered = numbered; legal = legal; there = there; held = h }))
