-- What steps of callers did at the ports.
use Rattle.std.proofs.Common.{ℕ, zero, suc, ◌≡◌, ◌≢◌, ◌<◌, ◌≤◌, false, inl, inr, List, [], ◌∷◌, ◌++◌, length, set, Option, Some, None, refl, ap, sym, subst, ◌∙◌, arith}
use Rattle.std.specs.Prelude.{slice_get, option_map}
use Rattle.std.proofs.lemmas.Bool.{cases_eq}
use Rattle.std.proofs.lemmas.Option.{slice_get_within}
use Rattle.atomic_table.specs.Seated.{TableId}
use Rattle.wc_base.specs.Options.{some_same}
use Rattle.wc_base.specs.declared.who.Who.{Who}
use Rattle.wc_chunk.specs.declared.chunk.Chunk.{Chunk}
use Rattle.codec_accounts.specs.ListLaws.{get_some}
use Rattle.codec_desk.specs.EachLaws.{set_there}
use Rattle.script_types.specs.declared.script.ScriptData.{ScriptData}
use Rattle.script_types.specs.declared.steps.MediaStep.{MediaStep}
use Rattle.script_types.specs.declared.steps.Step.{Step}
use Rattle.script_types.specs.declared.steps.Variable.{Variable}
use Rattle.script_types.specs.declared.steps.VariableKind.{VariableKind}
use Rattle.report_text.specs.declared.result.StepResult.{StepResult}
use Rattle.media_variables.specs.Held.{WholeMedium, seen_in}
use Rattle.media_variables.specs.Held as held
use Rattle.media_variables.specs.Variables.{Medium, uses_port}
use Rattle.media_accounts.specs.Accounts.{media_of}
use Rattle.run_model.specs.Fits.{medium_posted, port_posted, port_received}
use Rattle.shared_port.specs.Ports.{PortId, IsPassOf, seen}
use Rattle.shared_port.specs.Steps.{ReceiveTells}
use Rattle.shared_port.specs.declared.port.PortPass.{PortPass}
use Rattle.shared_port.specs.declared.rule.PortView.{PortView}
use Rattle.shared_variables.specs.PortLaws.{posted_medium, posted_done}
use Rattle.shared_variables.specs.Ports.{HasPosted, HasReceived, HasTaken, IsLater, IsParcelOf, PostsIf, WholeParcel, whole_posted}
use Rattle.desk_callers.specs.Deeds.{Deed, variables_after}
use Rattle.desk_callers.specs.Passes.{ArePasses, KeepParts, AreUnused, KnowPorts}
use Rattle.desk_callers.specs.PortActs.{ActsAt, ActsAtPorts}
use Rattle.desk_callers.specs.PortDeeds.{carried}
use Rattle.desk_callers.proofs.Knowing.{knows_more, knows_no_deeds}

-- ---- at one port

-- a deed does nothing at a port that its step does not name
not_there : (q : ℕ) (d : Deed) (vs : List (Option Medium)) (v w : PortView WholeParcel) → (port_posted d.step ≡ Some q → ⊥) → (port_received d.step ≡ Some q → ⊥) → w ≡ v → ActsAt q d vs v w
not_there q d vs v w posts receives same = ActsAt.UsedNot (λ p into. posts into.port) (λ p gets. receives gets.port) (λ none. receives none.port) same

none_named : (o : Option ℕ) (q : ℕ) → o ≡ None → o ≡ Some q → ⊥
none_named o q none some = cc

no_medium : (m : Medium) → None ≡ Some m → ⊥
no_medium m is = cc

-- a post
pub posts_there : (d : Deed) (who : Who) (to : ℕ) (content : Variable) (time : ℕ) (r : StepResult) (vs after : List (Option WholeMedium)) (v w : PortView WholeParcel) → d.who ≡ who → d.step ≡ Step.Media (MediaStep.Post to content) → d.result ≡ r → d.time ≡ time → HasPosted who content.step time vs after v w r → ActsAt to d (seen_in vs) v w
posts_there d who to content time r vs after v w who_is step_is result_is time_is has = by (whole_posted vs content.step) refl has.posted
  where
    gives : medium_posted d.step (seen_in vs) ≡ option_map held.seen (whole_posted vs content.step)
    gives = ap (λ (x : Step). medium_posted x (seen_in vs)) step_is ∙ sym (posted_medium content.step vs)

    by : (o : Option WholeMedium) → whole_posted vs content.step ≡ o → PostsIf who time o v w → ActsAt to d (seen_in vs) v w
    by None none same =
        ActsAt.UsedNot (λ p into. no_medium p.medium (sym (gives ∙ ap (option_map held.seen) none) ∙ into.medium))
        (λ p gets. none_named (port_received d.step) to (ap port_received step_is) gets.port)
        (λ finds. none_named (port_received d.step) to (ap port_received step_is) finds.port) same
    by (Some m) there posts =
        ActsAt.PostedOne (record { medium = m; time = time }) (sym time_is)
        (record { port = ap port_posted step_is; result = result_is ∙ (has.answer ∙ posted_done content.step vs m there); poster = refl; medium = gives ∙ ap (option_map held.seen) there })
        (subst (λ (x : Who). PostsIf x time (Some m) v w) (sym who_is) posts)

-- a receive
pub receives_there : (d : Deed) (who : Who) (from : ℕ) (bind : List ℕ) (kind : VariableKind) (r : StepResult) (vs after : List (Option WholeMedium)) (v w : PortView WholeParcel) (early late : ℕ) (has : HasReceived who vs after v w early late r) → d.step ≡ Step.Media (MediaStep.Receive from bind kind) → d.result ≡ r → d.received ≡ option_map carried has.received → d.time ≡ late → ActsAt from d (seen_in vs) v w
receives_there d who from bind kind r vs after v w early late has step_is result_is received_is time_is = by has.received received_is has.told has.later has.taken
  where
    by : (o : Option (Who × WholeParcel)) → d.received ≡ option_map carried o → ReceiveTells IsParcelOf o v w → IsLater early o late → HasTaken who o vs after r → ActsAt from d (seen_in vs) v w
    by None is told later taken = ActsAt.FoundNone (record { port = ap port_received step_is; result = result_is ∙ taken.0 }) is told
    by (Some x) is told later taken =
        (let behind = later.1 in
        ActsAt.GotOne x (record { port = ap port_received step_is; received = is }) (result_is ∙ taken.0) (omega (arith, behind, time_is)) told)

-- its time is not before that at which it began
pub not_before : (early late : ℕ) (o : Option (Who × WholeParcel)) → IsLater early o late → early ≤ late
not_before early late None later = omega (arith, later)
not_before early late (Some x) later = later.0

-- and each other port
pub posts_elsewhere : (d : Deed) (to : ℕ) (content : Variable) (vs : List (Option Medium)) (q : ℕ) (v w : PortView WholeParcel) → d.step ≡ Step.Media (MediaStep.Post to content) → q ≢ to → w ≡ v → ActsAt q d vs v w
posts_elsewhere d to content vs q v w step_is other same =
    not_there q d vs v w (λ posts. other (some_same q to (sym posts ∙ ap port_posted step_is))) (λ receives. none_named (port_received d.step) q (ap port_received step_is) receives) same

pub receives_elsewhere : (d : Deed) (from : ℕ) (bind : List ℕ) (kind : VariableKind) (vs : List (Option Medium)) (q : ℕ) (v w : PortView WholeParcel) → d.step ≡ Step.Media (MediaStep.Receive from bind kind) → q ≢ from → w ≡ v → ActsAt q d vs v w
receives_elsewhere d from bind kind vs q v w step_is other same =
    not_there q d vs v w (λ posts. none_named (port_posted d.step) q (ap port_posted step_is) posts) (λ receives. other (some_same q from (sym receives ∙ ap port_received step_is))) same

-- ---- at all ports

set_long : {X : Type 0} (xs : List X) (i : ℕ) (x : X) → length (set xs i x) ≡ length xs
set_long [] i x = refl
set_long (y ∷ ys) zero x = refl
set_long (y ∷ ys) (suc i) x = ap suc (set_long ys i x)

set_else : {X : Type 0} (xs : List X) (i j : ℕ) (x : X) → j ≢ i → slice_get (set xs i x) j ≡ slice_get xs j
set_else [] i j x other = refl
set_else (y ∷ ys) zero zero x other = absurd (other refl)
set_else (y ∷ ys) zero (suc j) x other = refl
set_else (y ∷ ys) (suc i) zero x other = refl
set_else (y ∷ ys) (suc i) (suc j) x other = set_else ys i j x (λ e. other (ap suc e))

-- what holds of the pass that was used, and of each pass as it was, holds of each
at_each : (P : ℕ → PortPass WholeParcel → PortPass WholeParcel → Type 0) (ps : List (PortPass WholeParcel)) (i : ℕ) (p r : PortPass WholeParcel) → slice_get ps i ≡ Some p → P i p r → ((q : ℕ) (x : PortPass WholeParcel) → q ≢ i → P q x x)
    → (q : ℕ) (x y : PortPass WholeParcel) → slice_get ps q ≡ Some x → slice_get (set ps i r) q ≡ Some y → P q x y
at_each P ps i p r there here rest q x y old new = elim (cases_eq q i) [
  | inl same ↦
      (let first : p ≡ x = some_same p x (sym there ∙ (ap (slice_get ps) (sym same) ∙ old)) in
      let last : r ≡ y = some_same r y (sym (set_there i ps p r there) ∙ (ap (slice_get (set ps i r)) (sym same) ∙ new)) in
      subst (λ (n : ℕ). P n x y) (sym same) (subst (λ (z : PortPass WholeParcel × PortPass WholeParcel). P i z.0 z.1) (λ k. (first k, last k)) here))
  | inr other ↦
      (let one : x ≡ y = some_same x y (sym old ∙ (sym (set_else ps i q r other) ∙ new)) in
      subst (P q x) one (rest q x other))
]

-- the passes are the ports' still
pub set_passes : (pool : TableId) (ports : List PortId) (ps : List (PortPass WholeParcel)) (i : ℕ) (port : PortId) (p r : PortPass WholeParcel) → ArePasses pool ports ps → slice_get ports i ≡ Some port → slice_get ps i ≡ Some p → IsPassOf port r → ArePasses pool ports (set ps i r)
set_passes pool ports ps i port p r are port_is there of = record {
  many = set_long ps i r ∙ are.many;
  each = λ q x y port_there new.
      (let old = get_some ps q (subst (λ (n : ℕ). q < n) (set_long ps i r) (slice_get_within (set ps i r) q y new)) in
      at_each (λ n a b. (z : PortId) → slice_get ports n ≡ Some z → IsPassOf z a → IsPassOf z b) ps i p r there
      (λ z z_is was. subst (λ (w : PortId). IsPassOf w r) (some_same port z (sym port_is ∙ z_is)) of)
      (λ n a other z z_is was. was) q old.0 y old.1 new x port_there (are.each q x old.0 port_there old.1));
  pool_is = are.pool_is;
}

pub set_parts : (ps : List (PortPass WholeParcel)) (i : ℕ) (p r : PortPass WholeParcel) → slice_get ps i ≡ Some p → (seen r).parts ≡ (seen p).parts → KeepParts ps (set ps i r)
set_parts ps i p r there same = record { parts = at_each (λ q x y. (seen y).parts ≡ (seen x).parts) ps i p r there same (λ q x other. refl) }

pub set_acts : (d : Deed) (vs : List (Option Medium)) (ps : List (PortPass WholeParcel)) (i : ℕ) (p r : PortPass WholeParcel) → slice_get ps i ≡ Some p → ActsAt i d vs (seen p) (seen r) → ((q : ℕ) (x : PortPass WholeParcel) → q ≢ i → ActsAt q d vs (seen x) (seen x)) → ActsAtPorts d vs ps (set ps i r)
set_acts d vs ps i p r there here rest = record { many = set_long ps i r; each = at_each (λ q x y. ActsAt q d vs (seen x) (seen y)) ps i p r there here rest }

-- where no port is named
pub acts_nowhere : (d : Deed) (vs : List (Option Medium)) (ps : List (PortPass WholeParcel)) → port_posted d.step ≡ None → port_received d.step ≡ None → ActsAtPorts d vs ps ps
acts_nowhere d vs ps posts receives = record {
  many = refl;
  each = λ q x y old new. not_there q d vs (seen x) (seen y) (none_named (port_posted d.step) q posts) (none_named (port_received d.step) q receives) (ap seen (some_same y x (sym new ∙ old)));
}

pub keep_same : (ps : List (PortPass WholeParcel)) → KeepParts ps ps
keep_same ps = record { parts = λ q p r old new. ap (λ (x : PortPass WholeParcel). (seen x).parts) (some_same r p (sym new ∙ old)) }

pub keep_then : (ps qs rs : List (PortPass WholeParcel)) → length qs ≡ length ps → KeepParts ps qs → KeepParts qs rs → KeepParts ps rs
keep_then ps qs rs many first then = record {
  parts = λ q p r old new.
      (let between = get_some qs q (subst (λ (n : ℕ). q < n) (sym many) (slice_get_within ps q p old)) in
      then.parts q between.0 r between.1 new ∙ first.parts q p between.0 old between.1);
}

-- ---- steps that name no port

pub plain_posts : (x : Step) → media_of x ≡ None → port_posted x ≡ None
plain_posts (Step.Media y) plain = absurd cc
plain_posts x plain = refl

pub plain_receives : (x : Step) → media_of x ≡ None → port_received x ≡ None
plain_receives (Step.Media y) plain = absurd cc
plain_receives x plain = refl

pub own_posts : (x : MediaStep) → uses_port x ≡ false → port_posted (Step.Media x) ≡ None
own_posts (MediaStep.Post to content) none = absurd cc
own_posts x none = refl

pub own_receives : (x : MediaStep) → uses_port x ≡ false → port_received (Step.Media x) ≡ None
own_receives (MediaStep.Receive from bind kind) none = absurd cc
own_receives x none = refl

-- ---- what passes know

pub know_none : (s : ScriptData) (media : List (List Chunk)) (ps : List (PortPass WholeParcel)) → AreUnused ps → KnowPorts s media [] ps
know_none s media ps unused q p there = (let u = unused q p there in knows_no_deeds s media q (seen p) u.0 u.1)

pub know_more : (s : ScriptData) (media : List (List Chunk)) (ds : List Deed) (d : Deed) (vs : List (Option Medium)) (ps qs : List (PortPass WholeParcel)) → KnowPorts s media ds ps → vs ≡ variables_after s media ds → ActsAtPorts d vs ps qs → KnowPorts s media (ds ++ d ∷ []) qs
know_more s media ds d vs ps qs known is acts q r there =
    let was = get_some ps q (subst (λ (n : ℕ). q < n) acts.many (slice_get_within qs q r there)) in
    knows_more s media q ds d (seen was.0) (seen r) (known q was.0 was.1) (subst (λ (l : List (Option Medium)). ActsAt q d l (seen was.0) (seen r)) is (acts.each q was.0 r was.1 there))
