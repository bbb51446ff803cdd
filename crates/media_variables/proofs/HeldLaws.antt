-- The references that variables hold stay live and apart in each step.
use Rattle.std.proofs.Common.{ℕ, zero, suc, ◌<◌, ◌≡◌, ◌≢◌, ◌==◌, ◌⊎◌, Bool, true, false, if◌then◌else◌, List, [], ◌∷◌, ◌++◌, length, take, Option, Some, None, Result, Ok, Err, IfOk, OnErr, refl, ap, sym, subst, ◌∙◌, inl, inr, append-nil, eq-eqb, arith}
use Rattle.std.specs.Prelude.{map, slice_set, option_map, option_and_then, IfSome}
use Rattle.std.proofs.lemmas.Bool.{and_parts, cases_eq, eqb-true, false_from_ne_true}
use Rattle.std.proofs.lemmas.List.{length-map}
use Rattle.wc_base.specs.declared.who.Who.{Who}
use Rattle.wc_base.specs.declared.who.By.TheVariants as by
use Rattle.wc_base.specs.declared.error.DomError.TheVariants as dom
use Rattle.wc_base.specs.declared.error.NoMemory.{NoMemory}
use Rattle.wc_chunk.specs.declared.chunk.Chunk.{Chunk}
use Rattle.codec_definitions.specs.declared.unit.Unit as output
use Rattle.codec_definitions.specs.declared.unit.Unit.TheVariants as unit
use Rattle.picture_planes.specs.Planes.{picture_size}
use Rattle.wc_pool.specs.declared.entry.PoolEntry.{PoolEntry}
use Rattle.wc_pool.specs.declared.entry.PoolOp.{PoolOp}
use Rattle.wc_pool.specs.declared.entry.PoolOp.TheVariants as op
use Rattle.wc_pool.specs.Bag.{resource_of, resource_after, references_made, resources_made, is_legal_pool}
use Rattle.wc_pool.specs.declared.reference.MediaRef.{MediaRef}
use Rattle.wc_pool.specs.Pools.{Adds, IsLive}
use Rattle.wc_pool.specs.Laws.{LiveAreNumbered}
use Rattle.wc_audio.specs.Sound as sound
use Rattle.wc_video.specs.Frames as frames
use Rattle.script_types.specs.declared.script.CallerItem.{CallerItem}
use Rattle.array_buffers.specs.Transfers.{may_transfer}
use Rattle.script_types.specs.declared.steps.InitShape.{InitShape}
use Rattle.script_types.specs.declared.steps.InitShape.TheVariants as init_shape
use Rattle.script_types.specs.declared.steps.BufferedInit.{BufferedInit}
use Rattle.script_types.specs.declared.steps.SoundInit.{SoundInit}
use Rattle.script_types.specs.declared.steps.PictureInit.{PictureInit}
use Rattle.script_types.specs.declared.steps.MediaStep.{MediaStep}
use Rattle.script_types.specs.declared.steps.MediaStep.TheVariants as media
use Rattle.script_types.specs.declared.options.Options.{Options}
use Rattle.script_types.specs.declared.options.Options.TheVariants as options
use Rattle.report_text.specs.declared.result.StepResult.{StepResult}
use Rattle.report_text.specs.declared.result.StepResult.TheVariants as result
use Rattle.media_variables.specs.Variables.{Reference, Shape, SoundOf, PictureOf, ChunkOf, BufferOf, Medium, Media, Came, refused, entry_behind, entries_of, with_medium, detached, without, buffer_of, buffer_in, buffer_at, is_open_buffer, bytes_in, steps_in, is_invalid_init, adopted_in, all_but, shape_over, adopts, init_makes, init_made, end_of, gone_at, lets_go, lets_all, post_held, Received, received_came, medium_at, variables_of, only_answers, makes, audio_came, frame_came, clone_held, transfer_held, close_held, if_there, is_last_of, next_numbers, chunk_of_variable, chunk_medium, copy_came, copy_chunk, copy_medium, size_of_medium, Taken, Brought, unit_came, taken_came, media_came, IsCome, CameTo}
use Rattle.media_variables.specs.Held.{WholeMedium, AreOf, AreOnce, held_by, reference_at, reference_of, seen, seen_in, whole_held, IsLiveIn, AreHeld, IsFree, MayReceive, StayHeld, media_of}
use Rattle.media_variables.specs.CameLaws.{taken_by_numbers, came_by_numbers}
use Rattle.media_variables.specs.Given.{Acts, DoesAll, MakesNew}
use Rattle.media_variables.proofs.Ends.{resource_more}
use Rattle.media_variables.proofs.PoolLaws.{Reaches, act_reaches, entries_more}
use Rattle.media_variables.proofs.Places.{medium_here, medium_else, changed_here, changed_else, seen_at, variables_here, variables_else, variables_back, set_again, callers_set}

-- one variable of one caller changes
pub record Puts (old new : List (List (Option Medium))) (k j : ℕ) (held : Option Reference) : Type 0 where
  pub here : reference_at new k j ≡ held
  pub others : (l i : ℕ) → ((l ≡ k) × (i ≡ j) → ⊥) → reference_at new l i ≡ reference_at old l i

puts : (all : List (List (Option Medium))) (k j : ℕ) (m : Medium) → k < length all → Puts all (slice_set all k (with_medium j m (variables_of k all))) k j m.held
puts all k j m lt =
    let vs = variables_of k all in
    let new = slice_set all k (with_medium j m vs) in
    let there = variables_here k (with_medium j m vs) all lt in
    record {
      here = ap (λ (l : List (Option Medium)). held_by (medium_at l j)) there ∙ ap held_by (medium_here j m vs);
      others = λ l i apart. elim (cases_eq l k) [
        | inl same ↦
            let there_too : variables_of l new ≡ with_medium j m vs = ap (λ (n : ℕ). variables_of n new) same ∙ there in
            let else_ = medium_else j m vs i (λ e. apart (same, e)) in
            ap (λ (x : List (Option Medium)). held_by (medium_at x i)) there_too ∙ ap held_by else_ ∙ ap (λ (n : ℕ). held_by (medium_at (variables_of n all) i)) (sym same)
        | inr other ↦ ap (λ (x : List (Option Medium)). held_by (medium_at x i)) (variables_else k (with_medium j m vs) all l other)
      ];
    }

there_or : (l i k j : ℕ) → ((l ≡ k) × (i ≡ j)) ⊎ ((l ≡ k) × (i ≡ j) → ⊥)
there_or l i k j =
    elim (cases_eq l k) [
      | inl a ↦ elim (cases_eq i j) [ inl b ↦ inl (a, b) | inr b ↦ inr (λ h. b h.1) ]
      | inr a ↦ inr (λ h. a h.0)
    ]

at_place : (all : List (List (Option Medium))) (l i k j : ℕ) → (l ≡ k) × (i ≡ j) → reference_at all l i ≡ reference_at all k j
at_place all l i k j h = ap (λ (n : ℕ). reference_at all n i) h.0 ∙ ap (reference_at all k) h.1

-- other variables of one caller, one of which changes
puts_over : (all : List (List (Option Medium))) (k j : ℕ) (ws xs : List (Option Medium)) (held : Option Reference) → k < length all → held_by (medium_at xs j) ≡ held → ((i : ℕ) → (i ≡ j → ⊥) → medium_at xs i ≡ medium_at ws i) → Puts (slice_set all k ws) (slice_set all k xs) k j held
puts_over all k j ws xs held lt here others =
    let old = slice_set all k ws in
    let new = slice_set all k xs in
    record {
      here = ap (λ (l : List (Option Medium)). held_by (medium_at l j)) (variables_here k xs all lt) ∙ here;
      others = λ l i apart. elim (cases_eq l k) [
        | inl same ↦
            let now : variables_of l new ≡ xs = ap (λ (n : ℕ). variables_of n new) same ∙ variables_here k xs all lt in
            let was : variables_of l old ≡ ws = ap (λ (n : ℕ). variables_of n old) same ∙ variables_here k ws all lt in
            ap (λ (x : List (Option Medium)). held_by (medium_at x i)) now ∙ (ap held_by (others i (λ e. apart (same, e))) ∙ sym (ap (λ (x : List (Option Medium)). held_by (medium_at x i)) was))
        | inr other ↦ ap (λ (x : List (Option Medium)). held_by (medium_at x i)) (variables_else k xs all l other ∙ sym (variables_else k ws all l other))
      ];
    }

puts_medium : (all : List (List (Option Medium))) (k j : ℕ) (m : Medium) (ws : List (Option Medium)) → k < length all → Puts (slice_set all k ws) (slice_set all k (with_medium j m ws)) k j m.held
puts_medium all k j m ws lt = puts_over all k j ws (with_medium j m ws) m.held lt (ap held_by (medium_here j m ws)) (λ i apart. medium_else j m ws i apart)

pub detached_none : (v : Option Medium) → held_by (option_map detached v) ≡ None
detached_none None = refl
detached_none (Some m) = refl

puts_without : (all : List (List (Option Medium))) (k j : ℕ) (ws : List (Option Medium)) → k < length all → Puts (slice_set all k ws) (slice_set all k (without j ws)) k j None
puts_without all k j ws lt = puts_over all k j ws (without j ws) None lt (ap held_by (changed_here detached j ws) ∙ detached_none (medium_at ws j)) (λ i apart. changed_else detached j ws i apart)

-- a variable that holds nothing more leaves the others as they are
pub let_go : (pool : List PoolEntry) (old new : List (List (Option Medium))) (k j : ℕ) → Puts old new k j None → AreHeld pool old → AreHeld pool new
let_go pool old new k j p h =
    let was : (l i : ℕ) (r : Reference) → reference_at new l i ≡ Some r → reference_at old l i ≡ Some r = λ l i r e.
    elim (there_or l i k j) [
      | inl here ↦ (let none = sym (at_place new l i k j here ∙ p.here) ∙ e in absurd cc)
      | inr apart ↦ sym (p.others l i apart) ∙ e
    ] in
    record {
      live = λ l i r e. h.live l i r (was l i r e);
      apart = λ l i m n r s e f same. h.apart l i m n r s (was l i r e) (was m n s f) same;
    }

pub released : (pool : List PoolEntry) (old new : List (List (Option Medium))) (k j : ℕ) (r : Reference) → Puts old new k j None → AreHeld pool old → reference_at old k j ≡ Some r → IsFree new r.number
released pool old new k j r p h there = record {
  none = λ l i s e same. elim (there_or l i k j) [
    | inl here ↦ (let none = sym (at_place new l i k j here ∙ p.here) ∙ e in absurd cc)
    | inr apart ↦ apart (h.apart l i k j s r (sym (p.others l i apart) ∙ e) there same)
  ];
}

taken : (pool : List PoolEntry) (old new : List (List (Option Medium))) (k j : ℕ) (r : Reference) → Puts old new k j (Some r) → AreHeld pool old → IsLiveIn pool r → IsFree old r.number → AreHeld pool new
taken pool old new k j r p h lives free =
    let here_is : (l i : ℕ) (s : Reference) → (l ≡ k) × (i ≡ j) → reference_at new l i ≡ Some s → s ≡ r = λ l i s here e.
    let both : Some s ≡ Some r = sym e ∙ at_place new l i k j here ∙ p.here in cc in
    let was : (l i : ℕ) (s : Reference) → ((l ≡ k) × (i ≡ j) → ⊥) → reference_at new l i ≡ Some s → reference_at old l i ≡ Some s = λ l i s apart e. sym (p.others l i apart) ∙ e in
    record {
      live = λ l i s e. elim (there_or l i k j) [
        | inl here ↦ subst (λ (x : Reference). IsLiveIn pool x) (sym (here_is l i s here e)) lives
        | inr apart ↦ h.live l i s (was l i s apart e)
      ];
      apart = λ l i m n s t e f same. elim (there_or l i k j) [
        | inl here ↦ elim (there_or m n k j) [
          | inl there ↦ (here.0 ∙ sym there.0, here.1 ∙ sym there.1)
          | inr other ↦ absurd (free.none m n t (was m n t other f) (sym same ∙ ap (λ (x : Reference). x.number) (here_is l i s here e)))
        ]
        | inr apart ↦ elim (there_or m n k j) [
          | inl there ↦ absurd (free.none l i s (was l i s apart e) (same ∙ ap (λ (x : Reference). x.number) (here_is m n t there f)))
          | inr other ↦ h.apart l i m n s t (was l i s apart e) (was m n t other f) same
        ]
      ];
    }

-- the same variables after other histories
pub carried : (pool new : List PoolEntry) (all : List (List (Option Medium))) → ((l i : ℕ) (s : Reference) → reference_at all l i ≡ Some s → IsLiveIn pool s → IsLiveIn new s) → AreHeld pool all → AreHeld new all
carried pool new all keeps h = record { live = λ l i s e. keeps l i s e (h.live l i s e); apart = h.apart }

other_test : (a b : ℕ) → a ≢ b → (a == b) ≡ false
other_test a b apart = false_from_ne_true (a == b) (λ same. apart (eqb-true a b same))

-- an entry that makes this reference
abbrev mint : Who → PoolOp → PoolEntry
mint who o = record { by = by.Caller who; op = o }

abbrev pub Mints : PoolEntry → ℕ → ℕ → Type 0
Mints e r f = (g : ℕ) (held : Option ℕ) → resource_after g held e ≡ (if f == g then Some r else held)

pub minted_live : (pool : List PoolEntry) (e : PoolEntry) (r f : ℕ) → Mints e r f → resource_of f (pool ++ e ∷ []) ≡ Some r
minted_live pool e r f m = resource_more f pool e ∙ m f (resource_of f pool) ∙ ap (λ (b : Bool). if b then Some r else resource_of f pool) (eq-eqb f f refl)

minted_others : (pool : List PoolEntry) (e : PoolEntry) (r f g : ℕ) → Mints e r f → f ≢ g → resource_of g (pool ++ e ∷ []) ≡ resource_of g pool
minted_others pool e r f g m apart = resource_more g pool e ∙ m g (resource_of g pool) ∙ ap (λ (b : Bool). if b then Some r else resource_of g pool) (other_test f g apart)

pub fresh : LiveAreNumbered → (pool : List PoolEntry) (all : List (List (Option Medium))) → is_legal_pool pool ≡ true → AreHeld pool all → IsFree all (references_made pool)
fresh numbered pool all legal h = record {
  none = λ l i s e same. let lt = (numbered pool s.number s.resource legal (h.live l i s e)).0 in omega arith;
}

pub minted_held : LiveAreNumbered → (pool : List PoolEntry) (e : PoolEntry) (r : ℕ) (all : List (List (Option Medium))) → is_legal_pool pool ≡ true → Mints e r (references_made pool) → AreHeld pool all → AreHeld (pool ++ e ∷ []) all
minted_held numbered pool e r all legal m h =
    carried pool (pool ++ e ∷ []) all (λ l i s there lives.
    let lt = (numbered pool s.number s.resource legal lives).0 in
    minted_others pool e r (references_made pool) s.number m (λ same. omega arith) ∙ lives) h

-- what a step comes to keeps the references live and apart
abbrev pub Keeps : List PoolEntry → Who → List (List (Option Medium)) → Came → Type 0
Keeps pool who all c = AreHeld (pool ++ entries_of pool who c.does) (slice_set all who.caller c.variables)

pub record Has (pool : List PoolEntry) (who : Who) (all : List (List (Option Medium))) : Type 0 where
  pub numbered : LiveAreNumbered
  pub legal : is_legal_pool pool ≡ true
  pub there : who.caller < length all
  pub held : AreHeld pool all

keeps_all : (pool : List PoolEntry) (who : Who) (all : List (List (Option Medium))) (r : StepResult) → Has pool who all → Keeps pool who all (only_answers r (variables_of who.caller all))
keeps_all pool who all r h =
    let back = subst (λ (x : List (List (Option Medium))). AreHeld pool x) (sym (variables_back who.caller all)) h.held in
    subst (λ (p : List PoolEntry). AreHeld p (slice_set all who.caller (variables_of who.caller all))) (sym (append-nil pool)) back

-- a new reference in a variable
given_new : (pool : List PoolEntry) (who : Who) (all : List (List (Option Medium))) (o : PoolOp) (shape : Shape) (r : Reference) → Has pool who all → r.number ≡ references_made pool → Mints (mint who o) r.resource (references_made pool) → AreHeld (pool ++ mint who o ∷ []) (slice_set all who.caller (with_medium who.step (record { shape = shape; held = Some r }) (variables_of who.caller all)))
given_new pool who all o shape r h is m =
    let e = mint who o in
    let new = pool ++ e ∷ [] in
    let p = puts all who.caller who.step (record { shape = shape; held = Some r }) h.there in
    let held = minted_held h.numbered pool e r.resource all h.legal m h.held in
    let free = fresh h.numbered pool all h.legal h.held in
    let lives = subst (λ (f : ℕ). resource_of f new ≡ Some r.resource) (sym is) (minted_live pool e r.resource (references_made pool) m) in
    taken new all _ who.caller who.step r p held lives (record { none = λ l i s there same. free.none l i s there (same ∙ is) })

keeps_made : (pool : List PoolEntry) (who : Who) (all : List (List (Option Medium))) (shape : Shape) (bytes : List ℕ) → Has pool who all → Keeps pool who all (makes (next_numbers pool) who.step shape bytes (variables_of who.caller all))
keeps_made pool who all shape bytes h =
    given_new pool who all (op.Make (resources_made pool) (references_made pool)) shape (record { resource = resources_made pool; number = references_made pool; bytes = bytes }) h refl (λ g held. refl)

keeps_if : (b : Bool) (pool : List PoolEntry) (who : Who) (all : List (List (Option Medium))) (shape : Shape) (bytes : List ℕ) → Has pool who all → Keeps pool who all (if b then only_answers (refused dom.TypeErr) (variables_of who.caller all) else makes (next_numbers pool) who.step shape bytes (variables_of who.caller all))
keeps_if true pool who all shape bytes h = keeps_all pool who all (refused dom.TypeErr) h
keeps_if false pool who all shape bytes h = keeps_made pool who all shape bytes h

keeps_audio : (pool : List PoolEntry) (who : Who) (all : List (List (Option Medium))) (init : Option SoundInit) → Has pool who all → Keeps pool who all (audio_came (next_numbers pool) who.step init (variables_of who.caller all))
keeps_audio pool who all None h = keeps_all pool who all (refused dom.TypeErr) h
keeps_audio pool who all (Some i) h = keeps_if (sound.is_invalid i.shape (length i.content)) pool who all (SoundOf i.shape) (take (sound.needed i.shape) i.content) h

keeps_frame : (pool : List PoolEntry) (who : Who) (all : List (List (Option Medium))) (init : Option PictureInit) → Has pool who all → Keeps pool who all (frame_came (next_numbers pool) who.step init (variables_of who.caller all))
keeps_frame pool who all None h = keeps_all pool who all (refused dom.TypeErr) h
keeps_frame pool who all (Some i) h = keeps_if (frames.is_invalid i.shape (length i.content)) pool who all (PictureOf i.shape) (take (picture_size i.shape) i.content) h

keeps_clone : (pool : List PoolEntry) (who : Who) (all : List (List (Option Medium))) (shape : Shape) (held : Option Reference) → Has pool who all → Keeps pool who all (clone_held (next_numbers pool) who.step shape held (variables_of who.caller all))
keeps_clone pool who all shape None h = keeps_all pool who all (refused dom.InvalidState) h
keeps_clone pool who all shape (Some r) h =
    given_new pool who all (op.Clone r.resource (references_made pool)) shape (record r { number = references_made pool }) h refl (λ g held. refl)

keeps_transfer : (pool : List PoolEntry) (who : Who) (all : List (List (Option Medium))) (of : ℕ) (m : Medium) (held : Option Reference) → Has pool who all → m.held ≡ held → reference_at all who.caller of ≡ held → Keeps pool who all (transfer_held who.step of m held (variables_of who.caller all))
keeps_transfer pool who all of m None h is there = keeps_all pool who all (refused dom.DataClone) h
keeps_transfer pool who all of m (Some r) h is there =
    let k = who.caller in
    let vs = variables_of k all in
    let less = slice_set all k (with_medium of (detached m) vs) in
    let p = puts all k of (detached m) h.there in
    let rest = let_go pool all less k of p h.held in
    let free = released pool all less k of r p h.held there in
    let inner = variables_here k (with_medium of (detached m) vs) all h.there in
    let final = slice_set all k (with_medium who.step m (with_medium of (detached m) vs)) in
    let same : slice_set less k (with_medium who.step m (variables_of k less)) ≡ final =
    ap (λ (x : List (Option Medium)). slice_set less k (with_medium who.step m x)) inner ∙ set_again k (with_medium of (detached m) vs) (with_medium who.step m (with_medium of (detached m) vs)) all in
    let q = puts less k who.step m (subst (λ (n : ℕ). k < n) (sym (length-set_all k (with_medium of (detached m) vs) all)) h.there) in
    let q2 = subst (λ (x : Option Reference). Puts less (slice_set less k (with_medium who.step m (variables_of k less))) k who.step x) is q in
    let q3 = subst (λ (x : List (List (Option Medium))). Puts less x k who.step (Some r)) same q2 in
    let done = taken pool less final k who.step r q3 rest (h.held.live k of r there) free in
    subst (λ (x : List PoolEntry). AreHeld x final) (sym (append-nil pool)) done
  where
    length-set_all : (k : ℕ) (vs : List (Option Medium)) (all : List (List (Option Medium))) → length (slice_set all k vs) ≡ length all
    length-set_all k vs [] = refl
    length-set_all zero vs (x ∷ xs) = refl
    length-set_all (suc k) vs (x ∷ xs) = ap suc (length-set_all k vs xs)

keeps_close : (pool : List PoolEntry) (who : Who) (all : List (List (Option Medium))) (of : ℕ) (m : Medium) (held : Option Reference) → Has pool who all → reference_at all who.caller of ≡ held → Keeps pool who all (close_held of m held (variables_of who.caller all))
keeps_close pool who all of m None h there = keeps_all pool who all (result.Local None) h
keeps_close pool who all of m (Some r) h there =
    let k = who.caller in
    let less = slice_set all k (with_medium of (detached m) (variables_of k all)) in
    let p = puts all k of (detached m) h.there in
    let rest = let_go pool all less k of p h.held in
    let free = released pool all less k of r p h.held there in
    let e = mint who (op.End r.resource r.number (is_last_of (by.Caller who) r.resource r.number pool)) in
    carried pool (pool ++ e ∷ []) less (λ l i s at lives.
    resource_more s.number pool e ∙ ap (λ (b : Bool). if b then None else resource_of s.number pool) (other_test r.number s.number (λ same. free.none l i s at (sym same))) ∙ lives) rest

keeps_if_there : (pool : List PoolEntry) (who : Who) (all : List (List (Option Medium))) (v : Option Medium) (came : Medium → Came) → Has pool who all → ((m : Medium) → v ≡ Some m → Keeps pool who all (came m)) → Keeps pool who all (if_there v (variables_of who.caller all) came)
keeps_if_there pool who all None came h each = keeps_all pool who all result.Absent h
keeps_if_there pool who all (Some m) came h each = each m refl

keeps_copy : (pool : List PoolEntry) (who : Who) (all : List (List (Option Medium))) (chunk : Option Chunk) (of : ℕ) (o : Options) (size : ℕ) → Has pool who all → Keeps pool who all (copy_came chunk of o size (variables_of who.caller all))
keeps_copy pool who all chunk of options.Nothing size h = keeps_all pool who all (copy_chunk (chunk_of_variable chunk (variables_of who.caller all) of) size) h
keeps_copy pool who all chunk of (options.Audio o) size h =
    keeps_if_there pool who all (medium_at (variables_of who.caller all) of) _ h (λ m e. keeps_all pool who all (copy_medium m (options.Audio o) size) h)
keeps_copy pool who all chunk of (options.Frame o) size h =
    keeps_if_there pool who all (medium_at (variables_of who.caller all) of) _ h (λ m e. keeps_all pool who all (copy_medium m (options.Frame o) size) h)

-- of every step, by what it comes to; nothing where it is the codec's
abbrev KeepsIf : List PoolEntry → Who → List (List (Option Medium)) → Option Came → Type 0
KeepsIf pool who all None = Unit {0}
KeepsIf pool who all (Some c) = Keeps pool who all c

-- a chunk in a variable, which holds no reference
keeps_chunk : (pool : List PoolEntry) (who : Who) (all : List (List (Option Medium))) (answer : StepResult) (chunk : Chunk) → Has pool who all → Keeps pool who all (record { answer = answer; variables = with_medium who.step (chunk_medium chunk) (variables_of who.caller all); does = [] })
keeps_chunk pool who all answer chunk h =
    let new = slice_set all who.caller (with_medium who.step (chunk_medium chunk) (variables_of who.caller all)) in
    let p = puts all who.caller who.step (chunk_medium chunk) h.there in
    subst (λ (x : List PoolEntry). AreHeld x new) (sym (append-nil pool)) (let_go pool all new who.caller who.step p h.held)

keeps_unit : (pool : List PoolEntry) (who : Who) (all : List (List (Option Medium))) (answer : StepResult) (u : output.Unit) → Has pool who all → Keeps pool who all (unit_came (next_numbers pool) who.step answer u (variables_of who.caller all))
keeps_unit pool who all answer (unit.Sound s) h = keeps_made pool who all (SoundOf s.shape) s.bytes h
keeps_unit pool who all answer (unit.Image p) h = keeps_made pool who all (PictureOf p.shape) p.bytes h
keeps_unit pool who all answer (unit.Coded chunk config) h = keeps_chunk pool who all answer chunk h

-- ---- buffers

holds_in : (shape : Shape) (held : Option Reference) (r : Reference) → buffer_of shape held ≡ Some r → held ≡ Some r
holds_in BufferOf held r e = e
holds_in (SoundOf shape) held r e = absurd cc
holds_in (PictureOf shape) held r e = absurd cc
holds_in (ChunkOf chunk) held r e = absurd cc

-- a buffer's reference is its variable's
pub buffer_holds : (v : Option Medium) (r : Reference) → option_and_then buffer_in v ≡ Some r → held_by v ≡ Some r
buffer_holds None r e = absurd cc
buffer_holds (Some m) r e = holds_in m.shape m.held r e

pub buffer_there : (all : List (List (Option Medium))) (k j : ℕ) (ws : List (Option Medium)) (r : Reference) → k < length all → buffer_at ws j ≡ Some r → reference_at (slice_set all k ws) k j ≡ Some r
buffer_there all k j ws r lt is = ap (λ (x : List (Option Medium)). held_by (medium_at x j)) (variables_here k ws all lt) ∙ buffer_holds (medium_at ws j) r is

-- a buffer that is let go, if it was open
ended_go : (pool : List PoolEntry) (who : Who) (all : List (List (Option Medium))) (j : ℕ) (ws : List (Option Medium)) (os : List PoolOp) (o : Option Reference) → who.caller < length all → buffer_at ws j ≡ o
    → AreHeld (pool ++ entries_of pool who os) (slice_set all who.caller ws) → AreHeld (pool ++ entries_of pool who (os ++ end_of o)) (slice_set all who.caller (gone_at o j ws))
ended_go pool who all j ws os None lt is h = subst (λ (x : List PoolOp). AreHeld (pool ++ entries_of pool who x) (slice_set all who.caller ws)) (sym (append-nil os)) h
ended_go pool who all j ws os (Some r) lt is h =
    let k = who.caller in
    let now = pool ++ entries_of pool who os in
    let old = slice_set all k ws in
    let new = slice_set all k (without j ws) in
    let p = puts_without all k j ws lt in
    let rest = let_go now old new k j p h in
    let free = released now old new k j r p h (buffer_there all k j ws r lt is) in
    let o = op.End r.resource r.number false in
    let e = entry_behind now who o in
    let ended : AreHeld (now ++ e ∷ []) new = carried now (now ++ e ∷ []) new (λ l i s at lives.
    resource_more s.number now e ∙ ap (λ (b : Bool). if b then None else resource_of s.number now) (other_test r.number s.number (λ same. free.none l i s at (sym same))) ∙ lives) rest in
    subst (λ (x : List PoolEntry). AreHeld x new) (sym (entries_more pool who os o)) ended

pub keeps_go : (pool : List PoolEntry) (who : Who) (all : List (List (Option Medium))) (j : ℕ) (c : Came) → Has pool who all → Keeps pool who all c → Keeps pool who all (lets_go j c)
keeps_go pool who all j c h keeps = ended_go pool who all j c.variables c.does (buffer_at c.variables j) h.there refl keeps

keeps_all_go : (pool : List PoolEntry) (who : Who) (all : List (List (Option Medium))) (js : List ℕ) (c : Came) → Has pool who all → Keeps pool who all c → Keeps pool who all (lets_all js c)
keeps_all_go pool who all [] c h keeps = keeps
keeps_all_go pool who all (j ∷ js) c h keeps = keeps_all_go pool who all js (lets_go j c) h (keeps_go pool who all j c h keeps)

-- the variables of a caller without one reference
pub puts_less : (all : List (List (Option Medium))) (k j : ℕ) → k < length all → Puts all (slice_set all k (without j (variables_of k all))) k j None
puts_less all k j lt =
    subst (λ (x : List (List (Option Medium))). Puts x (slice_set all k (without j (variables_of k all))) k j None) (variables_back k all) (puts_without all k j (variables_of k all) lt)

-- a medium over the reference of a buffer, which is detached
adopted_held : (pool : List PoolEntry) (who : Who) (all : List (List (Option Medium))) (shape : Shape) (j : ℕ) (held : Option Reference) → Has pool who all → buffer_at (variables_of who.caller all) j ≡ held
    → AreHeld pool (slice_set all who.caller (with_medium who.step (record { shape = shape; held = held }) (without j (variables_of who.caller all))))
adopted_held pool who all shape j None h is =
    let k = who.caller in
    let vs = without j (variables_of k all) in
    let m : Medium = record { shape = shape; held = None } in
    let_go pool (slice_set all k vs) (slice_set all k (with_medium who.step m vs)) k who.step (puts_medium all k who.step m vs h.there) (let_go pool all (slice_set all k vs) k j (puts_less all k j h.there) h.held)
adopted_held pool who all shape j (Some r) h is =
    let k = who.caller in
    let vs = without j (variables_of k all) in
    let less = slice_set all k vs in
    let m : Medium = record { shape = shape; held = Some r } in
    let p = puts_less all k j h.there in
    let at : reference_at all k j ≡ Some r = buffer_holds (medium_at (variables_of k all) j) r is in
    taken pool less (slice_set all k (with_medium who.step m vs)) k who.step r (puts_medium all k who.step m vs h.there) (let_go pool all less k j p h.held) (h.held.live k j r at) (released pool all less k j r p h.held at)

keeps_makes : (pool : List PoolEntry) (who : Who) (all : List (List (Option Medium))) (shape : InitShape) (bytes : List ℕ) → Has pool who all → Keeps pool who all (init_makes (next_numbers pool) who.step shape bytes (variables_of who.caller all))
keeps_makes pool who all (init_shape.Chunk key timestamp duration) bytes h = keeps_chunk pool who all (result.Local None) (record { key = key; timestamp = timestamp; duration = duration; bytes = bytes }) h
keeps_makes pool who all (init_shape.Sound shape) bytes h = keeps_made pool who all (SoundOf shape) (take (sound.needed shape) bytes) h
keeps_makes pool who all (init_shape.Picture shape) bytes h = keeps_made pool who all (PictureOf shape) (take (picture_size shape) bytes) h

pub keeps_init : (pool : List PoolEntry) (who : Who) (all : List (List (Option Medium))) (i : BufferedInit) (k : Option ℕ) → Has pool who all → Keeps pool who all (init_made (next_numbers pool) who.step i k (variables_of who.caller all))
keeps_init pool who all i None h = keeps_makes pool who all i.shape (bytes_in i.content (variables_of who.caller all)) h
keeps_init pool who all i (Some k) h =
    let vs = variables_of who.caller all in
    subst (λ (x : List PoolEntry). AreHeld x (slice_set all who.caller (adopts who.step i.shape k vs).variables)) (sym (append-nil pool)) (adopted_held pool who all (shape_over i.shape) k (buffer_at vs k) h refl)

keeps_buffered : (pool : List PoolEntry) (who : Who) (all : List (List (Option Medium))) (i : BufferedInit) → Has pool who all → (invalid may : Bool)
    → Keeps pool who all (if invalid then only_answers (refused dom.TypeErr) (variables_of who.caller all)
    else if may then lets_all (all_but (adopted_in i) (steps_in i.transfer)) (init_made (next_numbers pool) who.step i (adopted_in i) (variables_of who.caller all)) else only_answers (refused dom.DataClone) (variables_of who.caller all))
keeps_buffered pool who all i h true may = keeps_all pool who all (refused dom.TypeErr) h
keeps_buffered pool who all i h false false = keeps_all pool who all (refused dom.DataClone) h
keeps_buffered pool who all i h false true = keeps_all_go pool who all (all_but (adopted_in i) (steps_in i.transfer)) _ h (keeps_init pool who all i (adopted_in i) h)

-- ---- ports

keeps_post : (pool : List PoolEntry) (who : Who) (all : List (List (Option Medium))) (of : ℕ) (held : Option Reference) → Has pool who all → Keeps pool who all (post_held of held (variables_of who.caller all))
keeps_post pool who all of None h = keeps_all pool who all (refused dom.DataClone) h
keeps_post pool who all of (Some r) h =
    let new = slice_set all who.caller (without of (variables_of who.caller all)) in
    subst (λ (x : List PoolEntry). AreHeld x new) (sym (append-nil pool)) (let_go pool all new who.caller of (puts_less all who.caller of h.there) h.held)

pub received_held : (pool : List PoolEntry) (k j : ℕ) (all : List (List (Option Medium))) (m : Medium) (held : Option Reference) → m.held ≡ held → k < length all → AreHeld pool all → IfSome held (λ r. IsLiveIn pool r × IsFree all r.number) → AreHeld pool (slice_set all k (with_medium j m (variables_of k all)))
received_held pool k j all m None is there h may =
    let new = slice_set all k (with_medium j m (variables_of k all)) in
    let_go pool all new k j (subst (Puts all new k j) is (puts all k j m there)) h
received_held pool k j all m (Some r) is there h may =
    let new = slice_set all k (with_medium j m (variables_of k all)) in
    taken pool all new k j r (subst (Puts all new k j) is (puts all k j m there)) h may.0 may.1

keeps_receive : (pool : List PoolEntry) (who : Who) (all : List (List (Option Medium))) (o : Option Received) → Has pool who all → MayReceive pool all o → Keeps pool who all (received_came who.step o (variables_of who.caller all))
keeps_receive pool who all None h may = keeps_all pool who all result.Nothing h
keeps_receive pool who all (Some p) h may =
    let new = slice_set all who.caller (with_medium who.step p.medium (variables_of who.caller all)) in
    subst (λ (x : List PoolEntry). AreHeld x new) (sym (append-nil pool)) (received_held pool who.caller who.step all p.medium p.medium.held refl h.there h.held may)

keeps_taken : (pool : List PoolEntry) (who : Who) (all : List (List (Option Medium))) (t : Option Taken) → Has pool who all → KeepsIf pool who all (taken_came (next_numbers pool) who.step t (variables_of who.caller all))
keeps_taken pool who all None h = tt
keeps_taken pool who all (Some t) h = keeps_unit pool who all t.answer t.unit h

keeps_step : (pool : List PoolEntry) (who : Who) (all : List (List (Option Medium))) (b : Brought) (step : MediaStep) → Has pool who all → MayReceive pool all b.received → KeepsIf pool who all (media_came (next_numbers pool) who b step (variables_of who.caller all))
keeps_step pool who all b (media.Audio bind init) h may = keeps_audio pool who all init h
keeps_step pool who all b (media.Frame bind init) h may = keeps_frame pool who all init h
keeps_step pool who all b (media.Buffer bind content) h may = keeps_made pool who all BufferOf content h
keeps_step pool who all b (media.Buffered bind i) h may =
    let vs = variables_of who.caller all in
    keeps_buffered pool who all i h (is_invalid_init i.shape (length (bytes_in i.content vs))) (may_transfer (is_open_buffer vs) (steps_in i.transfer))
keeps_step pool who all b (media.Encode on content) h may = tt
keeps_step pool who all b (media.Take on bind kind) h may = keeps_taken pool who all b.taken h
keeps_step pool who all b (media.Clone of bind) h may =
    keeps_if_there pool who all (medium_at (variables_of who.caller all) of.step) _ h (λ m e. keeps_clone pool who all m.shape m.held h)
keeps_step pool who all b (media.Transfer of bind) h may =
    keeps_if_there pool who all (medium_at (variables_of who.caller all) of.step) _ h (λ m e. keeps_transfer pool who all of.step m m.held h refl (ap held_by e))
keeps_step pool who all b (media.CloseData of) h may =
    keeps_if_there pool who all (medium_at (variables_of who.caller all) of.step) _ h (λ m e. keeps_close pool who all of.step m m.held h (ap held_by e))
keeps_step pool who all b (media.Copy of o size) h may = keeps_copy pool who all b.chunk of.step o size h
keeps_step pool who all b (media.Size of o) h may =
    keeps_if_there pool who all (medium_at (variables_of who.caller all) of.step) _ h (λ m e. keeps_all pool who all (size_of_medium m o) h)
keeps_step pool who all b (media.Post to content) h may =
    keeps_if_there pool who all (medium_at (variables_of who.caller all) content.step) _ h (λ m e. keeps_post pool who all content.step m.held h)
keeps_step pool who all b (media.Receive from bind kind) h may = keeps_receive pool who all b.received h may

unchanged : (pool new : List PoolEntry) (who : Who) (all : List (List (Option Medium))) (after : List (Option Medium)) → AreHeld pool all → new ≡ pool → after ≡ variables_of who.caller all → AreHeld new (slice_set all who.caller after)
unchanged pool new who all after h same back =
    let all_back = ap (slice_set all who.caller) back ∙ variables_back who.caller all in
    subst (λ (x : List (List (Option Medium))). AreHeld new x) (sym all_back) (subst (λ (x : List PoolEntry). AreHeld x all) (sym same) h)

reached_held : (pool new : List PoolEntry) (who : Who) (all : List (List (Option Medium))) (after : List (Option Medium)) (came : Option Came) (answer : Option StepResult) → AreHeld pool all → KeepsIf pool who all came → Reaches who pool new (variables_of who.caller all) after came answer → AreHeld new (slice_set all who.caller after)
reached_held pool new who all after None answer h keeps r = unchanged pool new who all after h r.1 r.2
reached_held pool new who all after (Some c) answer h keeps r =
    subst (λ (x : List (Option Medium)). AreHeld new (slice_set all who.caller x)) (sym r.2) (subst (λ (x : List PoolEntry). AreHeld x (slice_set all who.caller c.variables)) (sym r.1) keeps)

-- the references stay live and apart, whatever came of it
came_held : (pool new : List PoolEntry) (who : Who) (all : List (List (Option Medium))) (vs after : List (Option Medium)) (came : List (Option Medium) → Option Came) (r : Result (Option StepResult) NoMemory) → AreHeld pool all → KeepsIf pool who all (came (variables_of who.caller all)) → variables_of who.caller all ≡ vs → IfOk r (Reaches who pool new vs after (came vs)) → OnErr r (new ≡ pool) → OnErr r (after ≡ vs) → AreHeld new (slice_set all who.caller after)
came_held pool new who all vs after came (Ok answer) h keeps is ok same back =
    let reached = subst (λ (x : List (Option Medium)). Reaches who pool new x after (came x) answer) (sym is) ok in
    reached_held pool new who all after (came (variables_of who.caller all)) answer h keeps reached
came_held pool new who all vs after came (Err e) h keeps is ok same back = unchanged pool new who all after h same (back ∙ sym is)

-- a step was made, or memory was wanted
abbrev pub HasActed : Who → List PoolEntry → List PoolEntry → Brought → MediaStep → List (Option Medium) → List (Option Medium) → Option StepResult → Type 0
HasActed who pool new b step vs after answer = Acts (DoesAll Adds who pool new) (λ n. media_came n who b step vs) vs after answer

acted : (pool new : List PoolEntry) (who : Who) (vs after : List (Option Medium)) (b : Brought) (step : MediaStep) (r : Result (Option StepResult) NoMemory) → IfOk r (HasActed who pool new b step vs after) → IfOk r (Reaches who pool new vs after (media_came (next_numbers pool) who b step vs))
acted pool new who vs after b step (Ok answer) ok = act_reaches who pool new vs after _ answer (came_by_numbers who b step vs) ok
acted pool new who vs after b step (Err e) ok = tt

pub step_held : LiveAreNumbered → (pool new : List PoolEntry) (who : Who) (all : List (List (Option Medium))) (vs after : List (Option Medium)) (b : Brought) (step : MediaStep) (r : Result (Option StepResult) NoMemory) → is_legal_pool pool ≡ true → who.caller < length all → AreHeld pool all → MayReceive pool all b.received → variables_of who.caller all ≡ vs → IfOk r (HasActed who pool new b step vs after) → OnErr r (new ≡ pool) → OnErr r (after ≡ vs) → AreHeld new (slice_set all who.caller after)
step_held numbered pool new who all vs after b step r legal there h may is ok same back =
    let has : Has pool who all = record { numbered = numbered; legal = legal; there = there; held = h } in
    came_held pool new who all vs after (λ x. media_came (next_numbers pool) who b step x) r h (keeps_step pool who all b step has may) is (acted pool new who vs after b step r ok) same back

-- an output was taken, or memory was wanted
abbrev pub HasTaken : Who → List PoolEntry → List PoolEntry → Taken → List (Option Medium) → List (Option Medium) → StepResult → Type 0
HasTaken who pool new t vs after r = Acts (DoesAll Adds who pool new) (λ n. taken_came n who.step (Some t) vs) vs after (Some r)

took : (pool new : List PoolEntry) (who : Who) (vs after : List (Option Medium)) (t : Taken) (r : StepResult) → HasTaken who pool new t vs after r → Reaches who pool new vs after (taken_came (next_numbers pool) who.step (Some t) vs) (Some r)
took pool new who vs after t r h = act_reaches who pool new vs after _ (Some r) (taken_by_numbers who.step (Some t) vs) h

pub take_held : LiveAreNumbered → (pool new : List PoolEntry) (who : Who) (all : List (List (Option Medium))) (vs after : List (Option Medium)) (t : Taken) (r : Result StepResult NoMemory) → is_legal_pool pool ≡ true → who.caller < length all → AreHeld pool all → variables_of who.caller all ≡ vs → IfOk r (HasTaken who pool new t vs after) → OnErr r (new ≡ pool) → OnErr r (after ≡ vs) → AreHeld new (slice_set all who.caller after)
take_held numbered pool new who all vs after t (Ok answer) legal there h is ok same back =
    let has : Has pool who all = record { numbered = numbered; legal = legal; there = there; held = h } in
    came_held pool new who all vs after (λ x. taken_came (next_numbers pool) who.step (Some t) x) (Ok (Some answer)) h (keeps_taken pool who all (Some t) has) is (took pool new who vs after t answer ok) tt tt
take_held numbered pool new who all vs after t (Err e) legal there h is ok same back = unchanged pool new who all after h same (back ∙ sym is)

reached_came : (pool new : List PoolEntry) (who : Who) (all : List (List (Option Medium))) (after : List (Option Medium)) (came : Option Came) (answer : Option StepResult) → Reaches who pool new (variables_of who.caller all) after came answer → IsCome (record { variables = all; pool = pool }) (record { variables = slice_set all who.caller after; pool = new }) who came answer
reached_came pool new who all after None answer r =
    let back = ap (slice_set all who.caller) r.2 ∙ variables_back who.caller all in
    (r.0, ap (λ (x : List PoolEntry). record { variables = slice_set all who.caller after; pool = x }) r.1 ∙ ap (λ (x : List (List (Option Medium))). record { variables = x; pool = pool }) back)
reached_came pool new who all after (Some c) answer r =
    (r.0, ap (λ (x : List PoolEntry). record { variables = slice_set all who.caller after; pool = x }) r.1 ∙ ap (λ (x : List (Option Medium)). record { variables = slice_set all who.caller x; pool = pool ++ entries_of pool who c.does }) r.2)

came_came : (pool new : List PoolEntry) (who : Who) (all : List (List (Option Medium))) (vs after : List (Option Medium)) (came : List (Option Medium) → Option Came) (answer : Option StepResult) → variables_of who.caller all ≡ vs → Reaches who pool new vs after (came vs) answer → IsCome (record { variables = all; pool = pool }) (record { variables = slice_set all who.caller after; pool = new }) who (came (variables_of who.caller all)) answer
came_came pool new who all vs after came answer is ok =
    let reached = subst (λ (x : List (Option Medium)). Reaches who pool new x after (came x) answer) (sym is) ok in
    reached_came pool new who all after (came (variables_of who.caller all)) answer reached

pub step_came : (pool new : List PoolEntry) (who : Who) (all : List (List (Option Medium))) (vs after : List (Option Medium)) (b : Brought) (step : MediaStep) (r : Result (Option StepResult) NoMemory) → variables_of who.caller all ≡ vs → IfOk r (HasActed who pool new b step vs after) → IfOk r (CameTo (record { variables = all; pool = pool }) (record { variables = slice_set all who.caller after; pool = new }) who b step)
step_came pool new who all vs after b step (Ok answer) is ok = came_came pool new who all vs after (λ x. media_came (next_numbers pool) who b step x) answer is (acted pool new who vs after b step (Ok answer) ok)
step_came pool new who all vs after b step (Err e) is ok = tt

pub take_came : (pool new : List PoolEntry) (who : Who) (all : List (List (Option Medium))) (vs after : List (Option Medium)) (t : Taken) (r : Result StepResult NoMemory) → variables_of who.caller all ≡ vs → IfOk r (HasTaken who pool new t vs after)
    → IfOk r (λ a. IsCome (record { variables = all; pool = pool }) (record { variables = slice_set all who.caller after; pool = new }) who (taken_came (next_numbers pool) who.step (Some t) (variables_of who.caller all)) (Some a))
take_came pool new who all vs after t (Ok answer) is ok = came_came pool new who all vs after (λ x. taken_came (next_numbers pool) who.step (Some t) x) (Some answer) is (took pool new who vs after t answer ok)
take_came pool new who all vs after t (Err e) is ok = tt

-- the same of what a step on media came to
pub stays_held : LiveAreNumbered → StayHeld
stays_held numbered pool who all b step y legal there h may is =
    subst (KeepsIf pool who all) is (keeps_step pool who all b step (record { numbered = numbered; legal = legal; there = there; held = h }) may)

no_reference : (callers : List CallerItem) (k j : ℕ) → reference_at (map (λ c. []) callers) k j ≡ None
no_reference [] k j = refl
no_reference (c ∷ cs) zero j = refl
no_reference (c ∷ cs) (suc k) j = no_reference cs k j

pub none_seen : (callers : List CallerItem) (all : List (List (Option WholeMedium))) → all ≡ map (λ c. []) callers → map seen_in all ≡ map (λ c. []) callers
none_seen callers all is = ap (map seen_in) is ∙ each callers
  where
    each : (callers : List CallerItem) → map seen_in (map (λ c. []) callers) ≡ map (λ c. []) callers
    each [] = refl
    each (c ∷ cs) = ap (λ (l : List (List (Option Medium))). [] ∷ l) (each cs)

-- no variable holds anything at first
pub none_held : (pool : List PoolEntry) (all : List (List (Option Medium))) (callers : List CallerItem) → all ≡ map (λ c. []) callers → AreHeld pool all
none_held pool all callers is =
    let none : (k j : ℕ) (r : Reference) → reference_at all k j ≡ Some r → ⊥ = λ k j r e.
    let both = sym (ap (λ (x : List (List (Option Medium))). reference_at x k j) is ∙ no_reference callers k j) ∙ e in absurd cc in
    record {
      live = λ k j r e. absurd (none k j r e);
      apart = λ k j l i r s e f same. absurd (none k j r e);
    }

-- each reference of one caller is live
pub caller_live : (pool : List PoolEntry) (all : List (List (Option Medium))) (k : ℕ) (vs : List (Option WholeMedium)) → variables_of k all ≡ seen_in vs → AreHeld pool all → AreOf (IsLive pool) vs
caller_live pool all k vs is h = record {
  each = λ j. live_held pool (whole_held (medium_at vs j))
      (λ r holds. h.live k j (reference_of r) (ap (λ (x : List (Option Medium)). held_by (medium_at x j)) is ∙ (ap held_by (seen_at vs j) ∙ whole_held_as (medium_at vs j) r holds)));
}
  where
    live_held : (pool : List PoolEntry) (held : Option MediaRef) → ((r : MediaRef) → held ≡ Some r → IsLive pool r) → IfSome held (IsLive pool)
    live_held pool None h = tt
    live_held pool (Some r) h = h r refl

    whole_held_as : (v : Option WholeMedium) (r : MediaRef) → whole_held v ≡ Some r → held_by (option_map seen v) ≡ Some (reference_of r)
    whole_held_as None r e = absurd cc
    whole_held_as (Some m) r e = ap (option_map reference_of) e

-- and no two of them are one
pub caller_once : (pool : List PoolEntry) (all : List (List (Option Medium))) (k : ℕ) (vs : List (Option Medium)) → variables_of k all ≡ vs → AreHeld pool all → AreOnce vs
caller_once pool all k vs is h =
    let own : AreOnce (variables_of k all) = record { once = λ i j r q here there same. (h.apart k i k j r q here there same).1 } in
    subst AreOnce is own

-- a reference that a pool makes has another number than those that are live
pub made_new : LiveAreNumbered → (pool : List PoolEntry) → is_legal_pool pool ≡ true → MakesNew Adds IsLive pool
made_new numbered pool legal = λ new cause r f added q lives.
    let next = eqb-true f (references_made pool) (and_parts (r == resources_made pool) (f == references_made pool) added.next).1 in
    let lt = (numbered pool q.number q.resource legal lives).0 in
    λ same. omega (arith, next, lt, same)

-- what is seen as it was, put back
pub put_back : (k : ℕ) (all : List (List (Option WholeMedium))) (vs after : List (Option WholeMedium)) → variables_of k (map seen_in all) ≡ seen_in vs → seen_in after ≡ seen_in vs → map seen_in (slice_set all k after) ≡ map seen_in all
put_back k all vs after is same = callers_set k after all ∙ (ap (slice_set (map seen_in all) k) (same ∙ sym is) ∙ variables_back k (map seen_in all))

-- where memory was wanted all variables are seen as they were
pub seen_back : {X : Type 0} (r : Result X NoMemory) (k : ℕ) (all : List (List (Option WholeMedium))) (vs after : List (Option WholeMedium)) → variables_of k (map seen_in all) ≡ seen_in vs → OnErr r (seen_in after ≡ seen_in vs) → OnErr r (map seen_in (slice_set all k after) ≡ map seen_in all)
seen_back (Ok x) k all vs after is same = tt
seen_back (Err e) k all vs after is same = put_back k all vs after is same

pub within : (k : ℕ) (all : List (List (Option WholeMedium))) → k < length all → k < length (map seen_in all)
within k all lt = subst (λ (n : ℕ). k < n) (sym (length-map all seen_in)) lt

-- a caller that is there, as all media are seen
pub caller_there : (m : Media) (pool : List PoolEntry) (all : List (List (Option WholeMedium))) (k : ℕ) → media_of all pool ≡ m → k < length m.variables → k < length all
caller_there m pool all k is lt = subst (λ (n : ℕ). k < n) (length-map all seen_in) (subst (λ (x : Media). k < length x.variables) (sym is) lt)
