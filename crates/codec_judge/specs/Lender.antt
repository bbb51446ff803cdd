-- A lender of coders as contracts see it.
use Rattle.std.specs.Prelude.{List, Option, None, Some, option_map}
use Rattle.std.specs.List.{insert}
use Rattle.wc_config.specs.declared.codec.CoderId.{CoderId}
use Rattle.coder_api.specs.Lent.{Lent}
use Rattle.codec_judge.specs.declared.lender.Away.{Away}

-- the ids of all coders, in order, and that of the one that is out, if one is
pub record LenderValue : Type 0 where
  pub home : List CoderId
  pub out : Option CoderId

-- the ids with the one that is out at its place
abbrev pub whole : Option Away → List CoderId → List CoderId
whole None ids = ids
whole (Some away) ids = insert ids away.place away.id

-- after a box came back, if one did
abbrev pub settled : Option Lent → LenderValue → LenderValue
settled None l = l
settled (Some lent) l = record l { out = None }

abbrev pub id_in : Option Lent → Option CoderId
id_in coder = option_map (λ lent. lent.id) coder
