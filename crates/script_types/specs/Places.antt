-- How a place in a script is written (our choice).
use Rattle.std.specs.Prelude.{ℕ, List, ◌++◌, codes, decimal}
use Rattle.script_types.specs.declared.fault.Place.{Place}
use Rattle.script_types.specs.declared.fault.Place.TheVariants as place

abbrev pub place_text : Place → List ℕ
place_text place.Top = codes "top"
place_text (place.Codec i) = codes "codec " ++ decimal i
place_text (place.Caller i) = codes "caller " ++ decimal i
place_text (place.Step i j) = codes "step " ++ (decimal i ++ (codes " " ++ decimal j))
place_text (place.Order i) = codes "order " ++ decimal i
