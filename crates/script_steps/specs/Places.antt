-- Tables from names to places in a list: each name has the first place where it stands.
use Rattle.std.specs.Prelude.{◌≡◌, ℕ, List, Bool, if◌then◌else◌, Option, Some, None}
use Rattle.std.specs.declared.alloc.Global.{Global}
use Rattle.std.specs.declared.string.String.{String}
use Rattle.std.specs.BTreeMap.{BTreeMap, get_by_text}

-- the earlier place
abbrev pub first_of : Option ℕ → Option ℕ → Option ℕ
first_of None b = b
first_of (Some a) b = Some a

abbrev pub place_if : Bool → ℕ → Option ℕ
place_if stands place = if stands then Some place else None

-- the table has at each name what `place_of` says
pub record IsTable (places : BTreeMap (String Global) ℕ) (place_of : List ℕ → Option ℕ) : Type 0 where
  pub at : (name : List ℕ) → get_by_text places name ≡ place_of name
