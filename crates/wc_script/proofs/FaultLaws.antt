-- What is at fault in a script that is not read is the script's own.
use Rattle.std.proofs.Common.{◌≡◌, ◌≢◌, ℕ, ◌+◌, List, [], ◌∷◌, ◌++◌, length, codes, Option, Some, None, Result, Ok, Err, subst, arith}
use Rattle.serde_json.specs.Data.{Data, Items, no_items, item}
use Rattle.script_types.specs.declared.{fault.Counted.Counted, fault.Fault.Fault, fault.Place.Place, fault.Wrong.Wrong, script.CodecItem.CodecItem, script.PortItem.PortItem}
use Rattle.chunk_files.specs.declared.fault.Stop.{Stop}
use Rattle.script_types.specs.{declared.script.CallerItem.CallerItem, declared.script.OrderItem.OrderItem}
use Rattle.script_steps.specs.{Members.array_in, Sources.has, Steps.step_of, Words.inline_data, Words.byte_count}
use Rattle.wc_script.specs.{declared.callers.Room.Room, declared.callers.Walked.Walked, Codecs.codec_of, Codecs.codecs_of}
use Rattle.wc_script.specs.Faults.{at, proceed, IsOfScript}
use Rattle.wc_script.specs.Callers.{room_after, counted_step_of, steps_of, heading_of, caller_of, callers_of}
use Rattle.wc_script.specs.Order.{order_item_of, order_of}
use Rattle.wc_script.specs.Walk.{few, parts_with, parts_of, ordered, checked_order, whole_room, walk_of}
use Rattle.wc_script.specs.Ports.{named_ports, ports_of}

-- if there is a fault, it is the script's own
abbrev Own : {A : Type 0} → Result A (Stop Fault) → Type 0
Own (Ok a) = Unit {0}
Own (Err e) = IsOfScript e

own_proceed : {A B : Type 0} (r : Result A (Stop Fault)) (f : A → Result B (Stop Fault)) → Own r → ((a : A) → Own (f a)) → Own (proceed r f)
own_proceed (Ok a) f h k = k a
own_proceed (Err e) f h k = h

-- what is wrong at a place
own_at : {A : Type 0} (p : Place) (r : Result A (Stop Wrong)) → Own (at p r)
own_at p r = grind arith

own_then : {A B : Type 0} (p : Place) (r : Result A (Stop Wrong)) (f : A → Result B (Stop Fault)) → ((a : A) → Own (f a)) → Own (proceed (at p r) f)
own_then p r f = own_proceed (at p r) f (own_at p r)

-- ---- the arrays

own_few : {B : Type 0} (what : Counted) (o : Option Items) (f : Option Items → Result B (Stop Fault)) → IsOfScript (Stop.Fault (Fault.TooMany what)) → ((m : Option Items) → Own (f m)) → Own (proceed (few what o) f)
own_few what o f h k = grind (arith, h, k)

own_parts : (d : Data) → Own (parts_of d)
unfolding parts_of
own_parts d =
    own_few Counted.Codecs (array_in (codes "codecs") d) _ tt (λ a. own_few Counted.Callers (array_in (codes "callers") d) _ tt (λ b.
    own_few Counted.Order (array_in (codes "order") d) _ tt (λ c. own_at Place.Top (parts_with a b (has (codes "order") d) c (array_in (codes "ports") d)))))

-- ---- codecs

own_codecs : (i : ℕ) (before : List CodecItem) (ds : Items) → Own (codecs_of i before ds)
own_codecs i before no_items = tt
own_codecs i before (item d ds) = own_then (Place.Codec i) (codec_of before d) _ (λ c. own_codecs (i + 1) (before ++ c ∷ []) ds)

-- ---- callers

own_room : (room : Room) (bytes : ℕ) → Own (room_after room bytes)
own_room room bytes = grind arith

own_step : (codecs : List CodecItem) (ports : List (Option PortItem)) (i : ℕ) (w : Walked) (d : Data) → Own (counted_step_of codecs ports i w d)
unfolding counted_step_of
own_step codecs ports i w d =
    own_proceed (room_after w.room (byte_count (inline_data d))) _ (own_room w.room (byte_count (inline_data d))) (λ room.
    own_then (Place.Step i (length w.steps)) (step_of codecs ports w.files w.steps d) _ (λ s. tt))

own_steps : (codecs : List CodecItem) (ports : List (Option PortItem)) (i : ℕ) (w : Walked) (ds : Items) → Own (steps_of codecs ports i w ds)
own_steps codecs ports i w no_items = tt
own_steps codecs ports i w (item d ds) = own_proceed (counted_step_of codecs ports i w d) _ (own_step codecs ports i w d) (λ v. own_steps codecs ports i v ds)

own_caller : (codecs : List CodecItem) (ports : List (Option PortItem)) (before : List CallerItem) (files : List (List ℕ)) (room : Room) (d : Data) → Own (caller_of codecs ports before files room d)
unfolding caller_of
own_caller codecs ports before files room d =
    own_then (Place.Caller (length before)) (heading_of codecs before d) _ (λ h. own_proceed (steps_of codecs ports (length before) _ h.1) _ (own_steps codecs ports (length before) _ h.1) (λ w. tt))

own_callers : (codecs : List CodecItem) (ports : List (Option PortItem)) (before : List CallerItem) (files : List (List ℕ)) (room : Room) (ds : Items) → Own (callers_of codecs ports before files room ds)
own_callers codecs ports before files room no_items = tt
own_callers codecs ports before files room (item d ds) =
    own_proceed (caller_of codecs ports before files room d) _ (own_caller codecs ports before files room d) (λ h. own_callers codecs ports (before ++ h.caller ∷ []) h.files h.room ds)

-- ---- the order

own_items : (codecs : List CodecItem) (callers : List CallerItem) (i : ℕ) (before : List OrderItem) (ds : Items) → Own (order_of codecs callers i before ds)
own_items codecs callers i before no_items = tt
own_items codecs callers i before (item d ds) = own_then (Place.Order i) (order_item_of codecs callers d) _ (λ x. own_items codecs callers (i + 1) (before ++ x ∷ []) ds)

own_ordered : (codecs : List CodecItem) (callers : List CallerItem) (o : Option Items) → Own (ordered codecs callers o)
unfolding ordered
own_ordered codecs callers None = tt
own_ordered codecs callers (Some ds) = own_proceed (order_of codecs callers 0 [] ds) _ (own_items codecs callers 0 [] ds) (λ items. tt)

own_checked : (callers : List CallerItem) (o : Option (List OrderItem)) → Own (checked_order callers o)
own_checked callers None = tt
own_checked callers (Some items) = grind arith

-- ---- the whole

own_walk : (d : Data) → Own (walk_of d)
unfolding walk_of
own_walk d =
    own_proceed (parts_of d) _ (own_parts d) (λ parts.
    own_proceed (codecs_of 0 [] parts.codecs) _ (own_codecs 0 [] parts.codecs) (λ codecs.
    own_proceed (callers_of codecs (named_ports parts.ports) [] [] whole_room parts.callers) _ (own_callers codecs (named_ports parts.ports) [] [] whole_room parts.callers) (λ r.
    own_proceed (ordered codecs r.0 parts.order) _ (own_ordered codecs r.0 parts.order) (λ items.
    own_then Place.Top (ports_of codecs r.0 (has (codes "ports") d) parts.ports) _ (λ ports.
    own_proceed (checked_order r.0 items) _ (own_checked r.0 items) (λ order. tt))))))

pub walk_faults : (d : Data) (e : Stop Fault) → (e ≢ Stop.NoMemory → walk_of d ≡ Err e) → IsOfScript e
walk_faults d Stop.NoMemory h = tt
walk_faults d (Stop.Fault f) h = subst (λ x. Own x) (h (λ is. absurd cc)) (own_walk d)
