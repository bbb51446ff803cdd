-- Looking into a value finds what looking into its data finds.
use Rattle.std.proofs.Common.{◌≡◌, ℕ, List, [], ◌∷◌, map, cond, Option, Some, None, option_map, option_and_then, is_some, bytes_eq, Bor, refl, sym, ap, ◌∙◌, arith}
use Rattle.std.proofs.lemmas.Map.Text.{is_eq-slice_cmp}
use Rattle.std.proofs.lemmas.Slice.Eq.{bytes_eq-Decides}
use Rattle.std.proofs.lemmas.Cmp.{nat_list_eq_equiv}
use Rattle.json.specs.Json as json
use Rattle.json.specs.Find as found
use Rattle.json.specs.{Value.value_view, Value.items_of as json_items, declared.value.Value.Value}
use Rattle.serde_json.specs.Data.{Num, Data, item, Members, no_members, member, put}
use Rattle.serde_json.specs.Find.{get, get_member, as_array, as_number, as_object, as_str}
use Rattle.serde_json.specs.Read.{number_of}
use Rattle.json_data.specs.View.{data_of, items_data, members_data, view, items_view}

-- the first member, or one behind it
first_or : (k l : List ℕ) (d : Data) (ms : Members) → get_member k (member l d ms) ≡ cond (bytes_eq k l) (Some d) (get_member k ms)
first_or k l d ms = grind (arith, is_eq-slice_cmp k l)

-- a member that was put is found under its name, and the others as before
after_put : (k l : List ℕ) (d : Data) (ms : Members) → get_member k (put l d ms) ≡ cond (bytes_eq k l) (Some d) (get_member k ms)
after_put k l d no_members = first_or k l d no_members
after_put k l d (member m e ms) =
    grind (arith, after_put k l d ms, is_eq-slice_cmp k l, is_eq-slice_cmp k m, is_eq-slice_cmp l m, bytes_eq-Decides k l, bytes_eq-Decides k m, bytes_eq-Decides l m)

or_before : Option json.Json → Option Data → Option Data
or_before None before = before
or_before (Some j) before = Some (data_of j)

-- the members of an object among those that were put before
get_member-data : (k : List ℕ) (ms : json.Members) (before : Members) → get_member k (members_data ms before) ≡ or_before (found.get_member k ms) (get_member k before)
unfolding or_before
get_member-data k json.no_members before = refl
get_member-data k (json.member l j ms) before =
    grind (arith, get_member-data k ms (put l (data_of j) before), after_put k l (data_of j) before, nat_list_eq_equiv.symm k l)

get-data : (k : List ℕ) (j : json.Json) → get k (data_of j) ≡ option_map data_of (found.get k j)
unfolding or_before
get-data k (json.object ms) = grind (arith, get_member-data k ms no_members)
get-data k j = grind arith

pub items_data-json_items : {A : Type 0} → (vs : List (Value A)) → items_data (json_items (map value_view vs)) ≡ items_view vs
unfolding view
items_data-json_items [] = refl
items_data-json_items (v ∷ vs) = ap (item (data_of (value_view v))) (items_data-json_items vs)

-- the member that is found stands for the one that is wanted
pub same_member : {A : Type 0} → (r : Option (Bor (Value A))) (k : List ℕ) (v : Value A) → option_map (λ w. value_view w.now) r ≡ found.get k (value_view v) → option_map (λ w. view w.now) r ≡ get k (view v)
unfolding view
same_member r k v e =
    let seen : option_map (λ w. data_of (value_view w.now)) r ≡ option_map data_of (option_map (λ w. value_view w.now) r) = grind arith in
    seen ∙ ap (option_map data_of) e ∙ sym (get-data k (value_view v))

pub as_str-data : (j : json.Json) → as_str (data_of j) ≡ found.as_str j
as_str-data j = grind arith

as_array-data : (j : json.Json) → as_array (data_of j) ≡ option_map items_data (found.as_array j)
as_array-data j = grind arith

pub as_array-view : {A : Type 0} → (v : Value A) → as_array (view v) ≡ option_map items_data (found.as_array (value_view v))
unfolding view
as_array-view v = as_array-data (value_view v)

as_object-data : (j : json.Json) → is_some (as_object (data_of j)) ≡ is_some (found.as_object j)
as_object-data j = grind arith

pub as_object-view : {A : Type 0} → (v : Value A) → is_some (as_object (view v)) ≡ is_some (found.as_object (value_view v))
unfolding view
as_object-view v = as_object-data (value_view v)

number-data : {B : Type 0} (f : Num → Option B) (j : json.Json) → option_and_then (λ s. option_and_then f (number_of s)) (found.as_number j) ≡ option_and_then f (as_number (data_of j))
number-data f j = grind arith

-- what is read of a number is read of its text
pub number_read : {A B : Type 0} → (f : Num → Option B) (o : Option (List ℕ)) (v : Value A) → o ≡ found.as_number (value_view v) → option_and_then (λ s. option_and_then f (number_of s)) o ≡ option_and_then f (as_number (view v))
unfolding view
number_read f o v e = rw e (number-data f (value_view v))
