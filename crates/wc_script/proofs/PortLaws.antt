-- The ports of a script that were read, and the steps that name them.
use Rattle.std.proofs.Common.{◌≡◌, ℕ, zero, suc, nat_le, Bool, true, false, if◌then◌else◌, codes, List, [], ◌∷◌, ◌++◌, length, map, append_assoc, Option, Some, None, IfOk, refl, ap, sym, subst, ◌∙◌, arith}
use Rattle.std.specs.Prelude.{slice_get, option_map, option_and_then}
use Rattle.std.specs.List.{list_all}
use Rattle.std.proofs.lemmas.List.{length-map}
use Rattle.std.proofs.lemmas.Option.{same_Some}
use Rattle.std.proofs.lemmas.Bool.{and_parts}
use Rattle.json.specs.declared.value.Value.{Value}
use Rattle.json_data.specs.View.{items_view}
use Rattle.serde_json.specs.Data.{Items, no_items, item}
use Rattle.script_types.specs.declared.{script.CodecItem.CodecItem, script.CallerItem.CallerItem, script.PortItem.PortItem, script.PortKind.PortKind, steps.Step.Step, steps.MediaStep.MediaStep}
use Rattle.script_types.specs.Names.{is_name, port_named}
use Rattle.script_types.specs.Sound.{is_port_of, most_ports, is_sound_port, are_sound_ports, is_sound_use, are_sound_uses}
use Rattle.script_steps.specs.Members.{needed, checked_name, text_in}
use Rattle.script_steps.specs.Ports.{port_with, joined, is_right_use}
use Rattle.script_steps.specs.Chains.{all_true, needed_some}
use Rattle.wc_script.specs.Ports.{items_of, named_ports, with_port, all_ports, few_ports, is_free_port, are_free_ports, ports_of}
use Rattle.wc_script.proofs.Proceeds.{by_part, only_if}

-- as many places as there are values
pub length_of_items : {A : Type 0} (xs : List (Value A)) → length (items_of (items_view xs)) ≡ length xs
length_of_items [] = refl
length_of_items (x ∷ xs) = grind (arith, length_of_items xs)

-- the ports that were read, in front of the others
abbrev pub ahead : List PortItem → Option (List PortItem) → Option (List PortItem)
ahead ps rest = option_map (λ qs. ps ++ qs) rest

-- one more is read, where those ahead are given
pub ahead_more : (ps : List PortItem) (p : PortItem) (rest : Option (List PortItem)) → ahead ps (with_port (Some p) rest) ≡ ahead (ps ++ p ∷ []) rest
ahead_more ps p None = refl
ahead_more ps p (Some qs) = ap (λ (l : List PortItem). Some l) (sym (append_assoc ps (p ∷ []) qs))

-- ---- their names are names

abbrev HasName : Option PortItem → Type 0
HasName None = Unit {0}
HasName (Some p) = is_name p.name ≡ true

checked_if : (text : List ℕ) (b : Bool) (of : Option PortKind) → is_name text ≡ b → HasName (port_with (if b then Some text else None) of)
checked_if text true (Some of) is = is
checked_if text true None is = tt
checked_if text false of is = tt

checked_is : (o : Option (List ℕ)) (of : Option PortKind) → HasName (port_with (option_and_then checked_name o) of)
checked_is None of = tt
checked_is (Some text) of = checked_if text (is_name text) of refl

abbrev AllNamed : List (Option PortItem) → Type 0
AllNamed [] = Unit {0}
AllNamed (p ∷ ps) = HasName p × AllNamed ps

all_named : (ds : Items) → AllNamed (items_of ds)
all_named no_items = tt
all_named (item d ds) = (checked_is (text_in (codes "name") d) (option_and_then port_named (text_in (codes "of") d)), all_named ds)

-- ---- all of them

abbrev pub spelled : List PortItem → List (Option PortItem)
spelled qs = map (λ q. Some q) qs

with_same : (p : Option PortItem) (ps : List (Option PortItem)) (o : Option (List PortItem)) (qs : List PortItem) → ((rs : List PortItem) → o ≡ Some rs → ps ≡ spelled rs) → with_port p o ≡ Some qs → p ∷ ps ≡ spelled qs
with_same None ps None qs rest h = absurd cc
with_same None ps (Some rs) qs rest h = absurd cc
with_same (Some p) ps None qs rest h = absurd cc
with_same (Some p) ps (Some rs) qs rest h =
    subst (λ (x : List PortItem). Some p ∷ ps ≡ spelled x) (same_Some (p ∷ rs) qs h) (ap (λ (t : List (Option PortItem)). Some p ∷ t) (rest rs refl))

all_same : (ps : List (Option PortItem)) (qs : List PortItem) → all_ports ps ≡ Some qs → ps ≡ spelled qs
all_same [] qs h = subst (λ (x : List PortItem). [] ≡ spelled x) (same_Some [] qs h) refl
all_same (p ∷ ps) qs h = with_same p ps (all_ports ps) qs (all_same ps) h

named_in : (qs : List PortItem) → AllNamed (spelled qs) → list_all (λ q. is_name q.name) qs ≡ true
named_in [] h = refl
named_in (q ∷ qs) h = all_true _ _ h.0 (named_in qs h.1)

sound_in : (codecs : List CodecItem) (callers : List CallerItem) (before qs : List PortItem) → list_all (λ q. is_name q.name) qs ≡ true → are_free_ports codecs callers before qs ≡ true → are_sound_ports codecs callers before qs ≡ true
sound_in codecs callers before [] n f = refl
sound_in codecs callers before (q ∷ qs) n f =
    let a = and_parts (is_name q.name) (list_all (λ q. is_name q.name) qs) n in
    let b = and_parts (is_free_port codecs callers before q) (are_free_ports codecs callers (before ++ q ∷ []) qs) f in
    all_true (is_sound_port codecs callers before q) _ (all_true (is_name q.name) _ a.0 b.0) (sound_in codecs callers (before ++ q ∷ []) qs a.1 b.1)

-- ---- the ports of a script

pub record SoundPorts (codecs : List CodecItem) (callers : List CallerItem) (named : List (Option PortItem)) (ps : List PortItem) : Type 0 where
  pub few : nat_le (length ps) most_ports ≡ true
  pub sound : are_sound_ports codecs callers [] ps ≡ true
  pub same : named ≡ spelled ps

few_if : (b : Bool) (ps : List (Option PortItem)) (qs : List PortItem) → nat_le (length ps) most_ports ≡ b → Path (Option (List PortItem)) (if b then all_ports ps else None) (Some qs) → (nat_le (length ps) most_ports ≡ true) × (all_ports ps ≡ Some qs)
few_if true ps qs is h = (is, h)
few_if false ps qs is h = absurd cc

of_items : (codecs : List CodecItem) (callers : List CallerItem) (ps : List (Option PortItem)) (qs : List PortItem) → AllNamed ps → few_ports ps ≡ Some qs → are_free_ports codecs callers [] qs ≡ true → SoundPorts codecs callers ps qs
of_items codecs callers ps qs named is free =
    let f = few_if (nat_le (length ps) most_ports) ps qs refl is in
    let same = all_same ps qs f.1 in
    record {
      few = ap (λ (n : ℕ). nat_le n most_ports) (sym (ap length same ∙ length-map qs (λ q. Some q))) ∙ f.0;
      sound = sound_in codecs callers [] qs (named_in qs (subst AllNamed same named)) free;
      same = same;
    }

pub ports_sound : (codecs : List CodecItem) (callers : List CallerItem) (there : Bool) (m : Option Items) → IfOk (ports_of codecs callers there m) (SoundPorts codecs callers (named_ports m))
ports_sound codecs callers there (Some ds) =
    by_part (needed (few_ports (items_of ds))) _ _ (λ qs e. only_if (are_free_ports codecs callers [] qs) _ _ _ (λ free.
    of_items codecs callers (items_of ds) qs (all_named ds) (needed_some (few_ports (items_of ds)) qs e) free))
ports_sound codecs callers true None = tt
ports_sound codecs callers false None = record { few = refl; sound = refl; same = refl }

-- ---- the steps that name them

port_at : (ps : List PortItem) (n : ℕ) → joined (slice_get (spelled ps) n) ≡ slice_get ps n
port_at [] n = refl
port_at (p ∷ ps) zero = refl
port_at (p ∷ ps) (suc n) = port_at ps n

use_right : (ps : List PortItem) (s : Step) → is_right_use (spelled ps) s ≡ true → is_sound_use ps s ≡ true
use_right ps (Step.Media (MediaStep.Post to content)) h = ap (is_port_of content.kind) (sym (port_at ps to)) ∙ h
use_right ps (Step.Media (MediaStep.Receive from bind kind)) h = ap (is_port_of kind) (sym (port_at ps from)) ∙ h
use_right ps (Step.Media x) h = refl
use_right ps s h = refl

steps_right : (ps : List PortItem) (ss : List Step) → list_all (is_right_use (spelled ps)) ss ≡ true → list_all (is_sound_use ps) ss ≡ true
steps_right ps [] h = refl
steps_right ps (s ∷ ss) h = let p = and_parts (is_right_use (spelled ps) s) (list_all (is_right_use (spelled ps)) ss) h in all_true _ _ (use_right ps s p.0) (steps_right ps ss p.1)

-- each step of each caller
abbrev pub AreRight : List (Option PortItem) → List CallerItem → Type 0
AreRight ports cs = list_all (λ c. list_all (is_right_use ports) c.steps) cs ≡ true

callers_right : (ps : List PortItem) (cs : List CallerItem) → AreRight (spelled ps) cs → are_sound_uses ps cs ≡ true
callers_right ps [] h = refl
callers_right ps (c ∷ cs) h =
    let p = and_parts (list_all (is_right_use (spelled ps)) c.steps) (list_all (λ (d : CallerItem). list_all (is_right_use (spelled ps)) d.steps) cs) h in
    all_true _ _ (steps_right ps c.steps p.0) (callers_right ps cs p.1)

pub uses_sound : (named : List (Option PortItem)) (ps : List PortItem) (cs : List CallerItem) → named ≡ spelled ps → AreRight named cs → are_sound_uses ps cs ≡ true
uses_sound named ps cs same h = callers_right ps cs (subst (λ (x : List (Option PortItem)). AreRight x cs) same h)
