-- Whether serde_json takes a value, by its parts.
use Rattle.std.proofs.Common.{◌≡◌, ℕ, ◌+◌, ◌<◌, List, ◌∷◌, length, get_or, drop, true, is_some, Bor, refl, sym, ap, ◌∙◌, arith}
use Rattle.std.proofs.lemmas.List.{drop_more}
use Rattle.json.specs.Json as json
use Rattle.json.specs.{Value.value_view, Value.members_view, declared.value.Value.Value}
use Rattle.serde_json.specs.Data.{Members, no_members}
use Rattle.serde_json.specs.Read.{of_json, of_members}

-- what was put before does not matter
any_before : (ms : json.Members) (before : Members) → is_some (of_members ms before) ≡ is_some (of_members ms no_members)
any_before json.no_members before = refl
any_before (json.member k j ms) before = grind (arith, any_before ms)

-- one member more is taken
pub one_more_member : {A : Type 0} → (ms : List (Bor (List ℕ) × Value A)) (i : ℕ) (m : Bor (List ℕ) × Value A) → i < length ms → m ≡ get_or ms i m → is_some (of_json (value_view m.1)) ≡ true
    → is_some (of_members (members_view (drop (i + 1) ms)) no_members) ≡ is_some (of_members (members_view (drop i ms)) no_members)
one_more_member ms i m within is taken =
    let front : drop i ms ≡ m ∷ drop (i + 1) ms = drop_more ms i m within ∙ ap (λ x. x ∷ drop (i + 1) ms) (sym is) in
    rw front (grind (arith, taken, any_before (members_view (drop (i + 1) ms))))

pub is_some-object : (j : json.Json) (ms : json.Members) → j ≡ json.object ms → is_some (of_json j) ≡ is_some (of_members ms no_members)
is_some-object j ms e = grind (arith, e)
