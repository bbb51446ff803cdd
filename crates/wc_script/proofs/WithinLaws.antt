-- What a script that was read holds is within its types.
use Rattle.std.proofs.Common.{◌≡◌, ◌<◌, ◌^◌, ◌+◌, ℕ, nat_le, List, [], ◌∷◌, ◌++◌, length, codes, Option, Some, None, option_and_then, Ok, IfOk, Bool, true, false}
use Rattle.std.specs.Option.{IfSome}
use Rattle.std.specs.List.{AllByRecursion}
use Rattle.std.proofs.lemmas.Result.{IfOk-at_ok}
use Rattle.serde_json.specs.Data.{Data, Items, no_items, item}
use Rattle.serde_json.specs.Find.{get, as_str}
use Rattle.json_data.specs.View.{value_of}
use Rattle.script_types.specs.declared.{fault.Place.Place, fault.Counted.Counted, script.CodecItem.CodecItem, script.CallerItem.CallerItem, script.OrderItem.OrderItem, script.PortItem.PortItem}
use Rattle.script_types.specs.declared.steps.Step.{Step}
use Rattle.script_types.specs.Names.{codec_named, caller_named}
use Rattle.chunk_files.specs.declared.fault.Stop.{Stop}
use Rattle.script_types.specs.declared.fault.Fault.{Fault}
use Rattle.script_types.specs.Limits.{limit_of}
use Rattle.script_types.specs.Sound.{counts_agree}
use Rattle.script_steps.specs.Members.{needed, known, checked_name, name_in, array_in, natural_of}
use Rattle.script_steps.specs.Sources.{has}
use Rattle.script_steps.specs.Steps.{step_of}
use Rattle.script_steps.specs.Words.{inline_data, byte_count}
use Rattle.script_steps.specs.Within.{IsStepWithin, StepsAreWithin}
use Rattle.wc_script.specs.{declared.callers.Room.Room, declared.callers.Walked.Walked, declared.order.OrderWord.OrderWord}
use Rattle.wc_script.specs.Callers.{room_after, counted_step_of, steps_of, heading_of, caller_of, callers_of}
use Rattle.wc_script.specs.Codecs.{codecs_of}
use Rattle.wc_script.specs.Order.{order_word_of, codec_in, codec_at, order_by, order_from, order_item_of, order_of}
use Rattle.script_steps.specs.Counts.{count_of}
use Rattle.wc_script.specs.Walk.{few, order_if_there, parts_with, parts_of, checked_order, ordered, whole_room, walk_of}
use Rattle.wc_script.specs.Ports.{named_ports, ports_of}
use Rattle.wc_script.specs.Read.{script_of_value}
use Rattle.wc_script.specs.Within.{HasSmallMoment, HasSmallSteps, IsScriptWithin, ScriptsAreWithin}
use Rattle.wc_script.proofs.Proceeds.{by_part, by_read, by_top, only_if}
use Rattle.wc_script.proofs.NumberLaws.{IsSmall, AreSmall, array_in_small, natural_in_small, value_small}

all_push : {X : Type 0} (P : X → Type 0) (xs : List X) (x : X) → AllByRecursion P xs → P x → AllByRecursion P (xs ++ x ∷ [])
all_push P [] x h p = (p, tt)
all_push P (y ∷ ys) x h p = (h.0, all_push P ys x h.1 p)

-- ---- callers

abbrev StepsWithin : Walked → Type 0
StepsWithin w = AllByRecursion IsStepWithin w.steps

one_step : StepsAreWithin → (codecs : List CodecItem) (ports : List (Option PortItem)) (i : ℕ) (w : Walked) (d : Data) → StepsWithin w → IfOk (counted_step_of codecs ports i w d) StepsWithin
unfolding counted_step_of
one_step law codecs ports i w d h =
    by_part (room_after w.room (byte_count (inline_data d))) _ _ (λ room r. by_read (Place.Step i (length w.steps)) (step_of codecs ports w.files w.steps d) _ _ (λ s e.
    all_push IsStepWithin w.steps s.0 h (law codecs ports w.files w.steps d s.0 s.1 e)))

all_steps : StepsAreWithin → (codecs : List CodecItem) (ports : List (Option PortItem)) (i : ℕ) (w : Walked) (ds : Items) → StepsWithin w → IfOk (steps_of codecs ports i w ds) StepsWithin
all_steps law codecs ports i w no_items h = h
all_steps law codecs ports i w (item d ds) h =
    by_part (counted_step_of codecs ports i w d) _ _ (λ v e. all_steps law codecs ports i v ds (IfOk-at_ok StepsWithin e (one_step law codecs ports i w d h)))

one_caller : StepsAreWithin → (codecs : List CodecItem) (ports : List (Option PortItem)) (before : List CallerItem) (files : List (List ℕ)) (room : Room) (d : Data) → IfOk (caller_of codecs ports before files room d) (λ h. HasSmallSteps h.caller)
unfolding caller_of
one_caller law codecs ports before files room d =
    let start : Walked = record { steps = []; files = files; room = room } in
    by_read (Place.Caller (length before)) (heading_of codecs before d) _ _ (λ h e. by_part (steps_of codecs ports (length before) start h.1) _ _ (λ w f.
    IfOk-at_ok StepsWithin f (all_steps law codecs ports (length before) start h.1 tt)))

all_callers : StepsAreWithin → (codecs : List CodecItem) (ports : List (Option PortItem)) (before : List CallerItem) (files : List (List ℕ)) (room : Room) (ds : Items) → AllByRecursion HasSmallSteps before
    → IfOk (callers_of codecs ports before files room ds) (λ r. AllByRecursion HasSmallSteps r.0)
all_callers law codecs ports before files room no_items h = h
all_callers law codecs ports before files room (item d ds) h =
    by_part (caller_of codecs ports before files room d) _ _ (λ c e.
    all_callers law codecs ports (before ++ c.caller ∷ []) c.files c.room ds (all_push HasSmallSteps before c.caller h (IfOk-at_ok (λ x. HasSmallSteps x.caller) e (one_caller law codecs ports before files room d))))

-- ---- the order

needed_if : {A : Type 0} (P : A → Type 0) (o : Option A) (a : A) → needed o ≡ Ok a → IfSome o P → P a
needed_if P None a e h = absurd cc
needed_if P (Some x) a e h = IfOk-at_ok P e h

at_small : (key : List ℕ) (codecs : List CodecItem) (d : Data) → IsSmall d → IfOk (codec_at key codecs d) (λ c. c.1 < 2 ^ 64)
at_small key codecs d t =
    by_part (name_in key d) _ _ (λ name n. by_part (needed (option_and_then natural_of (get (codes "at") d))) _ _ (λ moment m. by_part (known (codec_named codecs name)) _ _ (λ c k.
    needed_if (λ n. n < 2 ^ 64) (option_and_then natural_of (get (codes "at") d)) moment m (natural_in_small (codes "at") d t))))

by_word : (codecs : List CodecItem) (d : Data) (w : OrderWord) → IsSmall d → IfOk (order_by codecs d w) HasSmallMoment
by_word codecs d OrderWord.Start t = by_part (codec_in (codes "start") codecs d) _ _ (λ n e. tt)
by_word codecs d OrderWord.Done t = by_part (codec_at (codes "done") codecs d) _ _ (λ c e. IfOk-at_ok (λ x. x.1 < 2 ^ 64) e (at_small (codes "done") codecs d t))
by_word codecs d OrderWord.Turn t = by_part (codec_in (codes "turn") codecs d) _ _ (λ n e. tt)
by_word codecs d OrderWord.Reclaim t = by_part (codec_at (codes "reclaim") codecs d) _ _ (λ c e. IfOk-at_ok (λ x. x.1 < 2 ^ 64) e (at_small (codes "reclaim") codecs d t))

one_item : (codecs : List CodecItem) (callers : List CallerItem) (d : Data) → IsSmall d → IfOk (order_item_of codecs callers d) HasSmallMoment
unfolding order_item_of
one_item codecs callers d t = by_text (as_str d)
  where
    by_text : (o : Option (List ℕ)) → IfOk (order_from codecs callers d o) HasSmallMoment
    by_text (Some text) = by_part (needed (checked_name text)) _ _ (λ name n. by_part (known (caller_named callers name)) _ _ (λ i e. tt))
    by_text None = by_part (needed (order_word_of d)) _ _ (λ w e. by_word codecs d w t)

all_items : (codecs : List CodecItem) (callers : List CallerItem) (i : ℕ) (before : List OrderItem) (ds : Items) → AreSmall ds → AllByRecursion HasSmallMoment before → IfOk (order_of codecs callers i before ds) (AllByRecursion HasSmallMoment)
all_items codecs callers i before no_items t h = h
all_items codecs callers i before (item d ds) t h =
    by_read (Place.Order i) (order_item_of codecs callers d) _ _ (λ x e.
    all_items codecs callers (i + 1) (before ++ x ∷ []) ds t.1 (all_push HasSmallMoment before x h (IfOk-at_ok HasSmallMoment e (one_item codecs callers d t.0))))

abbrev HasSmallMoments : Option (List OrderItem) → Type 0
HasSmallMoments m = IfSome m (λ items. AllByRecursion HasSmallMoment items)

items_small : (codecs : List CodecItem) (callers : List CallerItem) (o : Option Items) → IfSome o AreSmall → IfOk (ordered codecs callers o) HasSmallMoments
unfolding ordered
items_small codecs callers None t = tt
items_small codecs callers (Some ds) t =
    by_part (order_of codecs callers 0 [] ds) _ _ (λ items e. IfOk-at_ok (AllByRecursion HasSmallMoment) e (all_items codecs callers 0 [] ds t tt))

order_small : (callers : List CallerItem) (o : Option (List OrderItem)) → HasSmallMoments o → IfOk (checked_order callers o) HasSmallMoments
order_small callers None t = tt
order_small callers (Some items) t = only_if (counts_agree 0 callers items) _ _ _ (λ agree. t)

-- ---- the whole

few_if : (what : Counted) (o : Option Items) → IfSome o AreSmall → IfOk (few what o) (λ x. IfSome x AreSmall)
few_if what None t = tt
few_if what (Some ds) t = only_if (nat_le (count_of ds) (limit_of what)) (Stop.Fault (Fault.TooMany what)) (Ok (Some ds)) (λ x. IfSome x AreSmall) (λ h. t)

few_small : (what : Counted) (o r : Option Items) → few what o ≡ Ok r → IfSome o AreSmall → IfSome r AreSmall
few_small what o r e t = IfOk-at_ok (λ x. IfSome x AreSmall) e (few_if what o t)

parts_small : (d : Data) → IsSmall d → IfOk (parts_of d) (λ p. IfSome p.order AreSmall)
unfolding parts_of
parts_small d t =
    by_part (few Counted.Codecs (array_in (codes "codecs") d)) _ _ (λ a e. by_part (few Counted.Callers (array_in (codes "callers") d)) _ _ (λ b f.
    by_part (few Counted.Order (array_in (codes "order") d)) _ _ (λ c g. by_top Place.Top (parts_with a b (has (codes "order") d) c (array_in (codes "ports") d)) (λ p. IfSome p.order AreSmall) (
    by_part (needed a) _ _ (λ codecs k. by_part (needed b) _ _ (λ callers l. by_part (order_if_there (has (codes "order") d) c) _ _ (λ order o.
    there (has (codes "order") d) c order o (few_small Counted.Order (array_in (codes "order") d) c g (array_in_small (codes "order") d t)))))))))
  where
    there : (b : Bool) (c order : Option Items) → order_if_there b c ≡ Ok order → IfSome c AreSmall → IfSome order AreSmall
    there b (Some ds) order e h = IfOk-at_ok (λ x. IfSome x AreSmall) e h
    there true None order e h = absurd cc
    there false None order e h = IfOk-at_ok (λ x. IfSome x AreSmall) e tt

walk_small : StepsAreWithin → (d : Data) → IsSmall d → IfOk (walk_of d) IsScriptWithin
unfolding walk_of
walk_small law d t =
    by_part (parts_of d) _ _ (λ parts p. by_part (codecs_of 0 [] parts.codecs) _ _ (λ codecs c.
    by_part (callers_of codecs (named_ports parts.ports) [] [] whole_room parts.callers) _ _ (λ r q. by_part (ordered codecs r.0 parts.order) _ _ (λ items i.
    by_read Place.Top (ports_of codecs r.0 (has (codes "ports") d) parts.ports) _ _ (λ ports l. by_part (checked_order r.0 items) _ _ (λ order o.
    let parts_are = IfOk-at_ok (λ x. IfSome x.order AreSmall) p (parts_small d t) in
    let items_are = IfOk-at_ok HasSmallMoments i (items_small codecs r.0 parts.order parts_are) in
    record {
      callers = IfOk-at_ok (λ x. AllByRecursion HasSmallSteps x.0) q (all_callers law codecs (named_ports parts.ports) [] [] whole_room parts.callers tt);
      order = IfOk-at_ok HasSmallMoments o (order_small r.0 items items_are);
    }))))))

pub script_small : StepsAreWithin → ScriptsAreWithin
script_small law bytes s h = IfOk-at_ok IsScriptWithin h (by (value_of bytes) (value_small bytes))
  where
    by : (o : Option Data) → IfSome o IsSmall → IfOk (script_of_value o) IsScriptWithin
    by None t = tt
    by (Some d) t = walk_small law d t
