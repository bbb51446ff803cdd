-- What a fault leaves.
use Rattle.std.specs.Prelude.{◌≡◌, List, Option, Result, Ok, Err}
use Rattle.std.specs.Result.{OnErr}
use Rattle.codec_definitions.specs.declared.unit.Unit as unit
use Rattle.coder_api.specs.declared.coder.CoderFault.{CoderFault}
use Rattle.coder_api.specs.declared.coder.CoderFault.TheVariants as fault
use Rattle.coder_api.specs.Meaning.{Answers}

-- nothing was appended
pub kept_after : (a : Option (List unit.Unit)) (r : Result (Unit {0}) CoderFault) (old new : List unit.Unit) → Answers a r old new → OnErr r (new ≡ old)
kept_after a (Ok t) old new h = tt
kept_after a (Err fault.Refused) old new h = h.1
kept_after a (Err fault.NoMemory) old new h = h
