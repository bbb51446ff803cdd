-- What a value of `json` stands for: the data that serde_json reads from the same text.
use Rattle.std.specs.Prelude.{ℕ, List, map, if◌then◌else◌, Option, Some, None}
use Rattle.std.specs.Str.{is_utf8}
use Rattle.json.specs.Json as json
use Rattle.json.specs.Value.{value_view}
use Rattle.json.specs.declared.value.Value.{Value}
use Rattle.serde_json.specs.Data.{Num, Data, null, boolean, number, string, array, object, Items, no_items, item, Members, no_members, put}
use Rattle.serde_json.specs.Read.{number_of, read}
use Rattle.serde_json.specs.View.{items_of}

-- A number out of range is refused before anyone looks at it. Here it is `null`, so that every value has data.
abbrev pub number_data : Option Num → Data
number_data None = null
number_data (Some n) = number n

-- The members go in one after another, so the last value of a key stays.
abbrev mutual
  pub data_of : json.Json → Data
  data_of json.null = null
  data_of (json.boolean b) = boolean b
  data_of (json.number s) = number_data (number_of s)
  data_of (json.string s) = string s
  data_of (json.array js) = array (items_data js)
  data_of (json.object ms) = object (members_data ms no_members)

  pub items_data : json.Items → Items
  items_data json.no_items = no_items
  items_data (json.item j js) = item (data_of j) (items_data js)

  pub members_data : json.Members → Members → Members
  members_data json.no_members found = found
  members_data (json.member k j ms) found = members_data ms (put k (data_of j) found)

unfoldable pub view : {A : Type 0} → Value A → Data
view v = data_of (value_view v)

abbrev pub items_view : {A : Type 0} → List (Value A) → Items
items_view vs = items_of (map view vs)

-- the value that bytes spell
abbrev pub value_of : List ℕ → Option Data
value_of bytes = if is_utf8 bytes then read bytes else None
