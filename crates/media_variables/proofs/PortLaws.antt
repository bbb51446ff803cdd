-- Media that callers post into ports and receive from them.
use Rattle.std.proofs.Common.{ℕ, ◌≡◌, ◌<◌, List, [], ◌∷◌, ◌++◌, length, Option, Some, None, Result, Ok, Err, IfOk, OnErr, refl, ap, sym, subst, ◌∙◌, append-nil}
use Rattle.std.specs.Prelude.{IfSome, OnOk, map, option_and_then, option_map, slice_set}
use Rattle.wc_base.specs.declared.who.Who.{Who}
use Rattle.wc_base.specs.declared.error.NoMemory.{NoMemory}
use Rattle.codec_model.specs.Held.{in_order}
use Rattle.codec_model.specs.declared.entry.Pair.{Pair}
use Rattle.wc_pool.specs.declared.entry.PoolEntry.{PoolEntry}
use Rattle.wc_pool.specs.declared.entry.PoolOp.{PoolOp}
use Rattle.wc_pool.specs.declared.reference.MediaRef.{MediaRef}
use Rattle.report_text.specs.declared.result.StepResult.{StepResult}
use Rattle.media_variables.specs.Variables.{Reference, Medium, Media, Came, medium_at, variables_of, without, with_medium, if_there, if_held, post_held, post_came, posted_from, entries_of, IsCome}
use Rattle.media_variables.specs.Held.{WholeMedium, held_by, reference_at, reference_of, seen, seen_in, pair_of, pairs_in, IsLiveIn, IsFree, AreHeld, AreApart}
use Rattle.media_variables.specs.Given.{transferred, transferred_at}
use Rattle.media_variables.proofs.HeldLaws.{let_go, released, puts_less, received_held}
use Rattle.media_variables.proofs.LendLaws.{only_one}
use Rattle.media_variables.proofs.Places.{seen_at, seen_with, callers_set}
use Rattle.media_variables.proofs.StepLaws.{without_absent, without_detached}

-- ---- what a post comes to

-- the variable is detached, if it was not
pub post_variables : (of : ℕ) (vs : List (Option Medium)) (v : Option Medium) → medium_at vs of ≡ v → (if_there v vs (λ m. post_held of m.held vs)).variables ≡ without of vs
post_variables of vs None is = sym (without_absent vs of is)
post_variables of vs (Some m) is = by_held m.held refl
  where
    by_held : (held : Option Reference) → m.held ≡ held → (post_held of held vs).variables ≡ without of vs
    by_held None none = sym (without_detached vs of m is none)
    by_held (Some r) there = refl

held_does : (of : ℕ) (vs : List (Option Medium)) (held : Option Reference) → (post_held of held vs).does ≡ []
held_does of vs None = refl
held_does of vs (Some r) = refl

-- it makes no entry
pub post_does : (of : ℕ) (vs : List (Option Medium)) (v : Option Medium) → (if_there v vs (λ m. post_held of m.held vs)).does ≡ []
post_does of vs None = refl
post_does of vs (Some m) = held_does of vs m.held

held_answer : (of : ℕ) (vs : List (Option Medium)) (m : WholeMedium) (o : Option MediaRef) → (transferred m o).answer ≡ (post_held of (option_map reference_of o) vs).answer
held_answer of vs m None = refl
held_answer of vs m (Some r) = refl

post_answer : (of : ℕ) (vs : List (Option Medium)) (v : Option WholeMedium) → (transferred_at v).answer ≡ (if_there (option_map seen v) vs (λ m. post_held of m.held vs)).answer
post_answer of vs None = refl
post_answer of vs (Some m) = held_answer of vs m m.held

-- the answer of the step, by what the variable held
pub posted_answer : (of : ℕ) (vs : List (Option Medium)) (items : List (Option WholeMedium)) (r : StepResult) → vs ≡ seen_in items → r ≡ (transferred_at (medium_at items of)).answer → r ≡ (post_came of vs).answer
posted_answer of vs items r is answer =
    let there = ap (λ (x : List (Option Medium)). medium_at x of) is ∙ seen_at items of in
    answer ∙ (post_answer of vs (medium_at items of) ∙ ap (λ (v : Option Medium). (if_there v vs (λ m. post_held of m.held vs)).answer) (sym there))

held_medium : (m : WholeMedium) (o : Option MediaRef) → option_map seen (transferred m o).medium ≡ if_held (seen m) (option_map reference_of o)
held_medium m None = refl
held_medium m (Some r) = refl

post_medium : (v : Option WholeMedium) → option_map seen (transferred_at v).medium ≡ option_and_then (λ m. if_held m m.held) (option_map seen v)
post_medium None = refl
post_medium (Some m) = held_medium m m.held

-- and the medium
pub posted_medium : (of : ℕ) (vs : List (Option Medium)) (items : List (Option WholeMedium)) (o : Option WholeMedium) → vs ≡ seen_in items → o ≡ (transferred_at (medium_at items of)).medium → option_map seen o ≡ posted_from vs of
posted_medium of vs items o is gave =
    let there = ap (λ (x : List (Option Medium)). medium_at x of) is ∙ seen_at items of in
    ap (option_map seen) gave ∙ (post_medium (medium_at items of) ∙ ap (option_and_then (λ m. if_held m m.held)) (sym there))

-- the variables of all
pub posted_set : (k of : ℕ) (all : List (List (Option WholeMedium))) (items after : List (Option WholeMedium)) → variables_of k (map seen_in all) ≡ seen_in items → seen_in after ≡ without of (seen_in items) → map seen_in (slice_set all k after) ≡ slice_set (map seen_in all) k (post_came of (variables_of k (map seen_in all))).variables
posted_set k of all items after is went =
    let vs = variables_of k (map seen_in all) in
    callers_set k after all ∙ ap (slice_set (map seen_in all) k) (went ∙ (ap (without of) (sym is) ∙ sym (post_variables of vs (medium_at vs of) refl)))

-- ---- a step that makes no entry

-- it came to this
pub came_quietly : (pool : List PoolEntry) (all new : List (List (Option Medium))) (who : Who) (c : Came) (r : StepResult) → c.does ≡ [] → r ≡ c.answer → new ≡ slice_set all who.caller c.variables
    → IsCome (record { variables = all; pool = pool }) (record { variables = new; pool = pool }) who (Some c) (Some r)
came_quietly pool all new who c r none answer is =
    let same = ap (λ (os : List PoolOp). pool ++ entries_of pool who os) none ∙ append-nil pool in
    let put = ap (λ (x : List (List (Option Medium))). record { variables = x; pool = pool }) is in
    (ap Some answer, put ∙ ap (λ (p : List PoolEntry). record { variables = slice_set all who.caller c.variables; pool = p }) (sym same))

-- ---- what goes into a port

pub post_kept : (pool : List PoolEntry) (all new : List (List (Option Medium))) (k of : ℕ) → k < length all → AreHeld pool all → new ≡ slice_set all k (post_came of (variables_of k all)).variables → AreHeld pool new
post_kept pool all new k of lt h is =
    let vs = variables_of k all in
    let gone = is ∙ ap (slice_set all k) (post_variables of vs (medium_at vs of) refl) in
    subst (AreHeld pool) (sym gone) (let_go pool all (slice_set all k (without of vs)) k of (puts_less all k of lt) h)

there_held : (v : Option Medium) (m : Medium) → option_and_then (λ x. if_held x x.held) v ≡ Some m → held_by v ≡ m.held
there_held None m e = absurd cc
there_held (Some x) m e = by_held x.held refl e
  where
    by_held : (held : Option Reference) → x.held ≡ held → if_held x held ≡ Some m → x.held ≡ m.held
    by_held None is e = absurd cc
    by_held (Some r) is e = (let same : x ≡ m = cc in ap (λ (y : Medium). y.held) same)

none_apart : (pool : List PoolEntry) (all : List (List (Option Medium))) → AreApart pool all []
none_apart pool all = record { lives = λ i p e. absurd cc; once = λ i j p q e f same. absurd cc; elsewhere = λ i k j p r e at. absurd cc }

-- a live reference that no variable holds
one_apart : (pool : List PoolEntry) (all : List (List (Option Medium))) (r : MediaRef) → IsLiveIn pool (reference_of r) → IsFree all r.number → AreApart pool all (pair_of r ∷ [])
one_apart pool all r lives free = record {
  lives = λ i q at. subst (λ (y : Pair). IsLiveIn pool (record { resource = y.resource; number = y.reference; bytes = [] })) (sym (only_one (pair_of r) q i at).1) lives;
  once = λ i j q s at there same. (only_one (pair_of r) q i at).0 ∙ sym (only_one (pair_of r) s j there).0;
  elsewhere = λ i k j q s at there same. free.none k j s there (sym same ∙ ap (λ (y : Pair). y.reference) (only_one (pair_of r) q i at).1);
}

-- no variable holds what was posted
pub post_apart : (pool : List PoolEntry) (all new : List (List (Option Medium))) (k of : ℕ) (o : Option WholeMedium) → k < length all → AreHeld pool all → new ≡ slice_set all k (post_came of (variables_of k all)).variables → option_map seen o ≡ posted_from (variables_of k all) of → AreApart pool new (pairs_in o)
post_apart pool all new k of None lt h is gave = none_apart pool new
post_apart pool all new k of (Some m) lt h is gave = by_held m.held refl
  where
    by_held : (held : Option MediaRef) → m.held ≡ held → AreApart pool new (map pair_of (in_order held))
    by_held None none = none_apart pool new
    by_held (Some r) there =
        let vs = variables_of k all in
        let less = slice_set all k (without of vs) in
        let gone = is ∙ ap (slice_set all k) (post_variables of vs (medium_at vs of) refl) in
        let at : reference_at all k of ≡ Some (reference_of r) = there_held (medium_at vs of) (seen m) (sym gave) ∙ ap (option_map reference_of) there in
        one_apart pool new r (h.live k of (reference_of r) at) (subst (λ (x : List (List (Option Medium))). IsFree x r.number) (sym gone) (released pool all less k of (reference_of r) (puts_less all k of lt) h at))

-- ---- what comes out of one

may_take : (pool : List PoolEntry) (all : List (List (Option Medium))) (held : Option MediaRef) → AreApart pool all (map pair_of (in_order held)) → IfSome (option_map reference_of held) (λ r. IsLiveIn pool r × IsFree all r.number)
may_take pool all None h = tt
may_take pool all (Some r) h = (h.lives 0 (pair_of r) refl, record { none = λ k j s there same. h.elsewhere 0 k j (pair_of r) s refl there (sym same) })

pub receive_kept : (pool : List PoolEntry) (all new : List (List (Option Medium))) (k j : ℕ) (m : WholeMedium) → k < length all → AreHeld pool all → AreApart pool all (pairs_in (Some m)) → new ≡ slice_set all k (with_medium j (seen m) (variables_of k all)) → AreHeld pool new
receive_kept pool all new k j m lt h apart is =
    subst (AreHeld pool) (sym is) (received_held pool k j all (seen m) (option_map reference_of m.held) refl lt h (may_take pool all m.held apart))

-- the variables of all, with what was received
pub received_set : (k j : ℕ) (m : WholeMedium) (all : List (List (Option WholeMedium))) (items after : List (Option WholeMedium)) → variables_of k (map seen_in all) ≡ seen_in items → after ≡ with_medium j m items → map seen_in (slice_set all k after) ≡ slice_set (map seen_in all) k (with_medium j (seen m) (variables_of k (map seen_in all)))
received_set k j m all items after is put =
    callers_set k after all ∙ ap (slice_set (map seen_in all) k) (ap seen_in put ∙ (seen_with j m items ∙ ap (with_medium j (seen m)) (sym is)))

pub receive_ok : (r : Result StepResult NoMemory) (a : StepResult) (k j : ℕ) (m : WholeMedium) (all : List (List (Option WholeMedium))) (items after : List (Option WholeMedium)) → variables_of k (map seen_in all) ≡ seen_in items → IfOk r (λ x. x ≡ a) → OnOk r (after ≡ with_medium j m items)
    → IfOk r (λ x. (x ≡ a) × (map seen_in (slice_set all k after) ≡ slice_set (map seen_in all) k (with_medium j (seen m) (variables_of k (map seen_in all)))))
receive_ok (Ok x) a k j m all items after is answer put = (answer, received_set k j m all items after is put)
receive_ok (Err e) a k j m all items after is answer put = tt

pub receive_err : (r : Result StepResult NoMemory) (items after : List (Option WholeMedium)) → OnErr r (after ≡ items) → OnErr r (seen_in after ≡ seen_in items)
receive_err (Ok x) items after same = tt
receive_err (Err e) items after same = ap seen_in same

-- it came to this, where memory was not wanted
pub quietly_if : (pool : List PoolEntry) (all new : List (List (Option Medium))) (who : Who) (c : Came) (r : Result StepResult NoMemory) → c.does ≡ [] → IfOk r (λ x. (x ≡ c.answer) × (new ≡ slice_set all who.caller c.variables))
    → IfOk r (λ x. IsCome (record { variables = all; pool = pool }) (record { variables = new; pool = pool }) who (Some c) (Some x))
quietly_if pool all new who c (Ok x) none h = came_quietly pool all new who c x none h.0 h.1
quietly_if pool all new who c (Err e) none h = tt

-- the variables are kept, whether memory was wanted or not
pub receive_held : (pool : List PoolEntry) (all new : List (List (Option Medium))) (k j : ℕ) (m : WholeMedium) (a : StepResult) (r : Result StepResult NoMemory) → k < length all → AreHeld pool all → AreApart pool all (pairs_in (Some m))
    → IfOk r (λ x. (x ≡ a) × (new ≡ slice_set all k (with_medium j (seen m) (variables_of k all)))) → OnErr r (new ≡ all) → AreHeld pool new
receive_held pool all new k j m a (Ok x) lt h apart ok err = receive_kept pool all new k j m lt h apart ok.1
receive_held pool all new k j m a (Err e) lt h apart ok err = subst (AreHeld pool) (sym err) h
