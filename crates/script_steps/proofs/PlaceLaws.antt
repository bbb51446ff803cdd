-- What a table has at each name after a name was put into it, and after its list has one item more.
use Rattle.std.proofs.Common.{◌≡◌, ◌+◌, ℕ, List, [], ◌∷◌, ◌++◌, length, Bool, true, cond, bytes_eq, Some, None, is_some, string_bytes, subst, nat_lt, arith}
use Rattle.std.specs.List.{position, position_or_len}
use Rattle.std.specs.declared.alloc.Global.{Global}
use Rattle.std.specs.declared.string.String.{String}
use Rattle.std.specs.String.{string_cmp}
use Rattle.std.specs.BTreeMap.{BTreeMap, get_by_text, Updates}
use Rattle.std.specs.Map.{update}
use Rattle.std.proofs.lemmas.List.{length_push}
use Rattle.std.proofs.lemmas.Map.Text.{btree_map_updates_text}
use Rattle.std.proofs.lemmas.Slice.Eq.{bytes_eq-Decides}
use Rattle.script_steps.specs.Places.{IsTable, first_of, place_if}

abbrev pub Table : Type 0
Table = BTreeMap (String Global) ℕ

pub put_table : (m n : Table) (key : String Global) (name : List ℕ) (place : ℕ) → string_bytes key ≡ name → Updates string_cmp m n key (Some place)
    → IsTable n (update bytes_eq (get_by_text m) name (Some place))
put_table m n key name place same h =
    record { at = subst (λ bs. (q : List ℕ) → get_by_text n q ≡ update bytes_eq (get_by_text m) bs (Some place) q) same (btree_map_updates_text (string_bytes key) m n (Some place) h) }

-- ---- places in a list with one item more

place_more : {X : Type 0} (p : X → Bool) (xs : List X) (y : X)
    → position_or_len p (xs ++ y ∷ []) ≡ cond (nat_lt (position_or_len p xs) (length xs)) (position_or_len p xs) (cond (p y) (length xs) (length xs + 1))
place_more p [] y = grind (arith)
place_more p (x ∷ xs) y = grind (arith, place_more p xs y)

-- the place in a list with one item more
place_push : {X : Type 0} (p : X → Bool) (xs : List X) (y : X) → position p (xs ++ y ∷ []) ≡ first_of (position p xs) (place_if (p y) (length xs))
place_push p xs y = grind (arith, place_more p xs y, length_push xs y)

-- ---- tables

-- the table of a list with one more item, which has a name that no item before has
pub table_put : {X : Type 0} (p : List ℕ → X → Bool) (xs : List X) (y : X) (m n : Table) (name : List ℕ)
    → IsTable m (λ q. position (p q) xs) → get_by_text m name ≡ None → ((q : List ℕ) → p q y ≡ bytes_eq name q)
    → IsTable n (update bytes_eq (get_by_text m) name (Some (length xs)))
    → IsTable n (λ q. position (p q) (xs ++ y ∷ []))
table_put p xs y m n name t free names puts = record {
  at = λ q. grind (arith, puts.at q, t.at q, t.at name, free, names q, bytes_eq-Decides name q, place_push (p q) xs y);
}

-- the table of a list with one more item, which has no name but those that are there
pub table_kept : {X : Type 0} (p : List ℕ → X → Bool) (xs : List X) (y : X) (m : Table)
    → IsTable m (λ q. position (p q) xs) → ((q : List ℕ) → p q y ≡ true → is_some (get_by_text m q) ≡ true) → IsTable m (λ q. position (p q) (xs ++ y ∷ []))
table_kept p xs y m t there = record { at = λ q. grind (arith, t.at q, there q, place_push (p q) xs y) }
