-- Where serde_json takes a value, its data are those that the value stands for.
use Rattle.std.proofs.Common.{◌≡◌, ℕ, List, true, Option, Some, None, is_some, option_and_then, refl, sym, ap, ◌∙◌, arith}
use Rattle.std.proofs.lemmas.Str.{IsUtf8-from_is_utf8, is_utf8-from_IsUtf8}
use Rattle.std.specs.Str.{IsUtf8}
use Rattle.json.specs.Json as json
use Rattle.json.specs.{Value.value_view, declared.value.Value.Value}
use Rattle.serde_json.specs.Data.{Members, no_members, put}
use Rattle.serde_json.specs.Read.{of_json, of_items, of_members, read}
use Rattle.json_data.specs.View.{data_of, items_data, members_data, view, value_of}

mutual
  data_taken : (j : json.Json) → is_some (of_json j) ≡ true → of_json j ≡ Some (data_of j)
  data_taken (json.number s) h = grind (arith, h)
  data_taken (json.array js) h = grind (arith, h, items_taken js)
  data_taken (json.object ms) h = grind (arith, h, members_taken ms no_members)
  data_taken _ h = refl

  items_taken : (js : json.Items) → is_some (of_items js) ≡ true → of_items js ≡ Some (items_data js)
  items_taken json.no_items h = refl
  items_taken (json.item j js) h = grind (arith, h, data_taken j, items_taken js)

  members_taken : (ms : json.Members) (found : Members) → is_some (of_members ms found) ≡ true → of_members ms found ≡ Some (members_data ms found)
  members_taken json.no_members found h = refl
  members_taken (json.member k j ms) found h = grind (arith, h, data_taken j, members_taken ms (put k (data_of j) found))

-- what is read of a tree whose numbers are in range
pub view-read : {A : Type 0} → (v : Value A) (tree : Option json.Json) → Some (value_view v) ≡ tree → is_some (of_json (value_view v)) ≡ true → Some (view v) ≡ option_and_then of_json tree
unfolding view
view-read v tree e there = sym (data_taken (value_view v) there) ∙ ap (option_and_then of_json) e

pub value_of-text : (bytes : List ℕ) → IsUtf8 bytes → value_of bytes ≡ read bytes
value_of-text bytes h = rw (is_utf8-from_IsUtf8 bytes h) refl

pub value_of-no_text : (bytes : List ℕ) → (IsUtf8 bytes → ⊥) → None ≡ value_of bytes
value_of-no_text bytes h = grind (arith, IsUtf8-from_is_utf8 bytes)
