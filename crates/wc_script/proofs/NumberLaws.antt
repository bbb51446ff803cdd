-- The naturals in a JSON value that was read have 64 bits.
use Rattle.std.proofs.Common.{◌≡◌, ◌<◌, ◌^◌, ◌==◌, ◌&&◌, ℕ, Bool, true, false, nat_lt, List, drop, slice_index, length, if◌then◌else◌, Option, Some, None, option_map, option_and_then, Ordering, Less, Equal, Greater, arith}
use Rattle.std.specs.Option.{IfSome}
use Rattle.std.specs.Ordering.{nat_cmp, match_ordering}
use Rattle.std.specs.Cmp.Lexicographic.{slice_cmp}
use Rattle.std.specs.Str.{is_utf8}
use Rattle.fast_float.specs.Text.{minus, Parts, scan, digits_of}
use Rattle.json.specs.Json as json
use Rattle.json.specs.Lex.{tokens}
use Rattle.serde_json.specs.Data.{Num, unsigned, negative, float, Data, null, boolean, number, string, array, object, Items, no_items, item, Members, no_members, member, put}
use Rattle.serde_json.specs.Read.{is_integer, number_from, number_of, of_json, of_items, of_members, max_depth, read}
use Rattle.serde_json.specs.Find.{get_member, get, as_array, as_number, as_u64}
use Rattle.json_data.specs.View.{value_of}
use Rattle.script_steps.specs.Members.{natural_of, array_in}

abbrev pub IsSmallNum : Num → Type 0
IsSmallNum (unsigned n) = n < 2 ^ 64
IsSmallNum (negative z) = Unit {0}
IsSmallNum (float x) = Unit {0}

abbrev mutual
  pub IsSmall : Data → Type 0
  IsSmall null = Unit {0}
  IsSmall (boolean b) = Unit {0}
  IsSmall (number n) = IsSmallNum n
  IsSmall (string s) = Unit {0}
  IsSmall (array ds) = AreSmall ds
  IsSmall (object ms) = HasSmall ms

  pub AreSmall : Items → Type 0
  AreSmall no_items = Unit {0}
  AreSmall (item d ds) = IsSmall d × AreSmall ds

  pub HasSmall : Members → Type 0
  HasSmall no_members = Unit {0}
  HasSmall (member k d ms) = IsSmall d × HasSmall ms

-- ---- numbers

from_small : (sign : Bool) (p : Parts) → IfSome (number_from sign p) IsSmallNum
from_small false p = grind arith
from_small true p = grind arith

number_small : (s : List ℕ) → IfSome (number_of s) IsSmallNum
unfolding number_of
number_small s = by (slice_index s 0 == minus)
  where
    by : (b : Bool) → IfSome (if b then number_from true (scan (drop 1 s)) else number_from false (scan s)) IsSmallNum
    by true = from_small true (scan (drop 1 s))
    by false = from_small false (scan s)

-- ---- members

put_at : (o : Ordering) (k l : List ℕ) (d e : Data) (ms more : Members) → IsSmall d → IsSmall e → HasSmall ms → HasSmall more → HasSmall (match_ordering o (member k d (member l e ms)) (member l d ms) (member l e more))
put_at Less k l d e ms more a b c f = (a, (b, c))
put_at Equal k l d e ms more a b c f = (a, c)
put_at Greater k l d e ms more a b c f = (b, f)

put_small : (k : List ℕ) (d : Data) (ms : Members) → IsSmall d → HasSmall ms → HasSmall (put k d ms)
put_small k d no_members h t = (h, tt)
put_small k d (member l e ms) h t = put_at (slice_cmp nat_cmp k l) k l d e ms (put k d ms) h t.0 t.1 (put_small k d ms h t.1)

found_at : (o : Ordering) (e : Data) (more : Option Data) → IsSmall e → IfSome more IsSmall → IfSome (match_ordering o more (Some e) more) IsSmall
found_at Less e more a b = b
found_at Equal e more a b = a
found_at Greater e more a b = b

member_small : (k : List ℕ) (ms : Members) → HasSmall ms → IfSome (get_member k ms) IsSmall
member_small k no_members t = tt
member_small k (member l e ms) t = found_at (slice_cmp nat_cmp k l) e (get_member k ms) t.0 (member_small k ms t.1)

pub get_small : (k : List ℕ) (d : Data) → IsSmall d → IfSome (get k d) IsSmall
get_small k null t = tt
get_small k (boolean b) t = tt
get_small k (number n) t = tt
get_small k (string s) t = tt
get_small k (array ds) t = tt
get_small k (object ms) t = member_small k ms t

array_small : (d : Data) → IsSmall d → IfSome (as_array d) AreSmall
array_small null t = tt
array_small (boolean b) t = tt
array_small (number n) t = tt
array_small (string s) t = tt
array_small (array ds) t = t
array_small (object ms) t = tt

pub array_in_small : (key : List ℕ) (d : Data) → IsSmall d → IfSome (array_in key d) AreSmall
array_in_small key d t = by (get key d) (get_small key d t)
  where
    by : (o : Option Data) → IfSome o IsSmall → IfSome (option_and_then as_array o) AreSmall
    by None h = tt
    by (Some x) h = array_small x h

natural_small : (d : Data) → IsSmall d → IfSome (natural_of d) (λ n. n < 2 ^ 64)
natural_small null t = tt
natural_small (boolean b) t = tt
natural_small (number (unsigned n)) t = t
natural_small (number (negative z)) t = tt
natural_small (number (float x)) t = tt
natural_small (string s) t = tt
natural_small (array ds) t = tt
natural_small (object ms) t = tt

pub natural_in_small : (key : List ℕ) (d : Data) → IsSmall d → IfSome (option_and_then natural_of (get key d)) (λ n. n < 2 ^ 64)
natural_in_small key d t = by (get key d) (get_small key d t)
  where
    by : (o : Option Data) → IfSome o IsSmall → IfSome (option_and_then natural_of o) (λ n. n < 2 ^ 64)
    by None h = tt
    by (Some x) h = natural_small x h

-- ---- values that were read

mapped : {A B : Type 0} (f : A → B) (P : A → Type 0) (Q : B → Type 0) (o : Option A) → ((a : A) → P a → Q (f a)) → IfSome o P → IfSome (option_map f o) Q
mapped f P Q None k h = tt
mapped f P Q (Some a) k h = k a h

chained : {A B : Type 0} (f : A → Option B) (P : A → Type 0) (Q : B → Type 0) (o : Option A) → ((a : A) → P a → IfSome (f a) Q) → IfSome o P → IfSome (option_and_then f o) Q
chained f P Q None k h = tt
chained f P Q (Some a) k h = k a h

mutual
  json_small : (j : json.Json) → IfSome (of_json j) IsSmall
  json_small json.null = tt
  json_small (json.boolean b) = tt
  json_small (json.number s) = mapped number IsSmallNum IsSmall (number_of s) (λ n t. t) (number_small s)
  json_small (json.string s) = tt
  json_small (json.array js) = mapped array AreSmall IsSmall (of_items js) (λ ds t. t) (items_small js)
  json_small (json.object ms) = mapped object HasSmall IsSmall (of_members ms no_members) (λ m t. t) (members_small ms no_members tt)

  items_small : (js : json.Items) → IfSome (of_items js) AreSmall
  items_small json.no_items = tt
  items_small (json.item j js) = chained (λ d. option_map (item d) (of_items js)) IsSmall AreSmall (of_json j) (λ d t. mapped (item d) AreSmall AreSmall (of_items js) (λ ds u. (t, u)) (items_small js)) (json_small j)

  members_small : (ms : json.Members) (found : Members) → HasSmall found → IfSome (of_members ms found) HasSmall
  members_small json.no_members found t = t
  members_small (json.member k j ms) found t = chained (λ d. of_members ms (put k d found)) IsSmall HasSmall (of_json j) (λ d u. members_small ms (put k d found) (put_small k d found u t)) (json_small j)

pub value_small : (bytes : List ℕ) → IfSome (value_of bytes) IsSmall
value_small bytes = by (is_utf8 bytes)
  where
    of : (o : Option json.Json) → IfSome (option_and_then of_json o) IsSmall
    of None = tt
    of (Some j) = json_small j

    by : (b : Bool) → IfSome (if b then read bytes else None) IsSmall
    by true = of (option_and_then (λ p. json.if_last p.0 p.1) (json.value max_depth (tokens bytes)))
    by false = tt
