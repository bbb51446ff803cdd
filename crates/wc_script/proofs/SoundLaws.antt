-- Nothing is at fault in a script that was read.
use Rattle.std.proofs.Common.{◌≡◌, ◌-◌, nat_le, true, List, [], length, codes, sum_by, Option, Some, None, Ok, IfOk, refl, ap, ◌∙◌, arith}
use Rattle.std.specs.List.{list_all}
use Rattle.std.proofs.lemmas.Bool.{le-leb, eq-eqb}
use Rattle.std.proofs.lemmas.Result.{IfOk-at_ok}
use Rattle.serde_json.specs.Data.{Data, Items}
use Rattle.script_types.specs.declared.{fault.Place.Place, fault.Counted.Counted, script.CodecItem.CodecItem, script.OrderItem.OrderItem, script.PortItem.PortItem}
use Rattle.script_types.specs.declared.script.{CallerItem.CallerItem, ScriptData.ScriptData}
use Rattle.script_types.specs.Sound.{most_codecs, most_callers, most_steps, most_order, most_media, are_sound_codecs, are_sound_callers, are_small, bytes_of_caller, are_apart, are_sound_files, counts_agree, is_sound_item, is_sound_order, are_few, is_small_media, most_ports, are_sound_ports, is_sound}
use Rattle.script_steps.specs.{Members.needed, Members.array_in, Sources.has, Soundness.StepsAreSound}
use Rattle.script_steps.specs.Chains.{all_true}
use Rattle.wc_script.specs.{Codecs.codecs_of, Callers.callers_of, Order.order_of}
use Rattle.script_steps.specs.Counts.{count_of}
use Rattle.wc_script.specs.Walk.{few, Parts, order_if_there, parts_with, parts_of, ordered, checked_order, whole_room, walk_of}
use Rattle.wc_script.specs.Ports.{named_ports, ports_of}
use Rattle.wc_script.proofs.PortLaws.{SoundPorts, ports_sound, uses_sound}
use Rattle.wc_script.proofs.Proceeds.{by_part, by_read, by_top, only_if, IsWalked}
use Rattle.wc_script.proofs.{CodecLaws.codecs_sound, CallerLaws.SoundCallers, CallerLaws.CallersRead, CallerLaws.callers_sound, OrderLaws.items_sound}

-- ---- the arrays

-- each array is within its limit
record AreFew (p : Parts) : Type 0 where
  pub codecs : nat_le (count_of p.codecs) most_codecs ≡ true
  pub callers : nat_le (count_of p.callers) most_callers ≡ true
  pub order : (ds : Items) → p.order ≡ Some ds → nat_le (count_of ds) most_order ≡ true

few_parts : (d : Data) → IfOk (parts_of d) AreFew
unfolding parts_of
few_parts d =
    by_part (few Counted.Codecs (array_in (codes "codecs") d)) _ _ (λ a e. by_part (few Counted.Callers (array_in (codes "callers") d)) _ _ (λ b f.
    by_part (few Counted.Order (array_in (codes "order") d)) _ _ (λ c g. by_top Place.Top (parts_with a b (has (codes "order") d) c (array_in (codes "ports") d)) AreFew (
    by_part (needed a) _ _ (λ codecs k. by_part (needed b) _ _ (λ callers l. by_part (order_if_there (has (codes "order") d) c) _ _ (λ order o. record {
      codecs = grind (arith, e, k);
      callers = grind (arith, f, l);
      order = λ ds is. grind (arith, g, o, is);
    })))))))

-- ---- the order

-- the items of the order, where there is one, are not too many, and each names what is there
abbrev AreItems : List CodecItem → List CallerItem → Option (List OrderItem) → Type 0
AreItems codecs callers None = Unit {0}
AreItems codecs callers (Some items) = (nat_le (length items) most_order ≡ true) × (list_all (is_sound_item (length codecs) (length callers)) items ≡ true)

items_read : (codecs : List CodecItem) (callers : List CallerItem) (m : Option Items) → ((ds : Items) → m ≡ Some ds → nat_le (count_of ds) most_order ≡ true) → IfOk (ordered codecs callers m) (AreItems codecs callers)
unfolding ordered
items_read codecs callers None k = tt
items_read codecs callers (Some ds) k =
    by_part (order_of codecs callers 0 [] ds) _ _ (λ items e.
    let t = IfOk-at_ok (IsWalked (λ l. list_all (is_sound_item (length codecs) (length callers)) l ≡ true) [] ds) e (items_sound codecs callers 0 [] ds refl) in
    let n : length items ≡ count_of ds = omega (arith, t.count) in
    (ap (λ x. nat_le x most_order) n ∙ k ds refl, t.sound))

order_sound : (codecs : List CodecItem) (callers : List CallerItem) (o : Option (List OrderItem)) → AreItems codecs callers o → IfOk (checked_order callers o) (λ p. is_sound_order (length codecs) callers p ≡ true)
order_sound codecs callers None t = refl
order_sound codecs callers (Some items) t = only_if (counts_agree 0 callers items) _ _ _ (λ agree. all_true (nat_le (length items) most_order) _ t.0 (all_true _ _ t.1 agree))

-- ---- the whole

no_callers : (codecs : List CodecItem) (ports : List (Option PortItem)) → SoundCallers codecs ports [] [] whole_room
no_callers codecs ports = record { callers = refl; steps = refl; small = refl; media = omega arith; files = refl; apart = refl; uses = refl }

pub walk_is_sound : StepsAreSound → (d : Data) (s : ScriptData) → walk_of d ≡ Ok s → is_sound s ≡ true
unfolding walk_of
walk_is_sound law d s h = IfOk-at_ok (λ x. is_sound x ≡ true) h (
    by_part (parts_of d) _ _ (λ parts p. by_part (codecs_of 0 [] parts.codecs) _ _ (λ codecs c.
    by_part (callers_of codecs (named_ports parts.ports) [] [] whole_room parts.callers) _ _ (λ r q. by_part (ordered codecs r.0 parts.order) _ _ (λ items i.
    by_read Place.Top (ports_of codecs r.0 (has (codes "ports") d) parts.ports) _ _ (λ ports l. by_part (checked_order r.0 items) _ _ (λ order o.
    let inline = most_media - r.1.1.media in
    let named = named_ports parts.ports in
    let few_are = IfOk-at_ok AreFew p (few_parts d) in
    let cs = IfOk-at_ok (IsWalked (λ l. are_sound_codecs [] l ≡ true) [] parts.codecs) c (codecs_sound 0 [] parts.codecs refl) in
    let t = IfOk-at_ok (CallersRead codecs named [] parts.callers) q (callers_sound law codecs named [] [] whole_room parts.callers (no_callers codecs named)) in
    let are = IfOk-at_ok (AreItems codecs r.0) i (items_read codecs r.0 parts.order few_are.order) in
    let last = IfOk-at_ok (λ x. is_sound_order (length codecs) r.0 x ≡ true) o (order_sound codecs r.0 items are) in
    let its = IfOk-at_ok (SoundPorts codecs r.0 named) l (ports_sound codecs r.0 (has (codes "ports") d) parts.ports) in
    let a : length codecs ≡ count_of parts.codecs = omega (arith, cs.count) in
    let b : length r.0 ≡ count_of parts.callers = omega (arith, t.count) in
    let steps : nat_le (sum_by (λ c. length c.steps) r.0) most_steps ≡ true = le-leb _ _ (omega (arith, t.sound.steps)) in
    let media : nat_le (sum_by bytes_of_caller r.0) inline ≡ true = le-leb _ _ (omega (arith, t.sound.media)) in
    all_true (are_sound_codecs [] codecs) _ cs.sound
    (all_true (are_sound_callers codecs [] r.0) _ t.sound.callers
    (all_true (are_few codecs r.0) _ (rw (a, b) (all_true _ _ few_are.codecs (all_true _ _ few_are.callers steps)))
    (all_true (is_small_media inline r.0) _ (all_true (list_all are_small r.0) _ t.sound.small (all_true _ _ media (le-leb _ _ (omega arith))))
    (all_true (are_sound_files r.1.0 r.0) _ (all_true (are_apart [] r.1.0) _ t.sound.apart (rw t.sound.files (eq-eqb (length r.1.0) _ refl)))
    (all_true (is_sound_order (length codecs) r.0 order) _ last
    (all_true (nat_le (length ports) most_ports) _ its.few
    (all_true (are_sound_ports codecs r.0 [] ports) _ its.sound (uses_sound named ports r.0 its.same t.sound.uses)))))))))))))))
