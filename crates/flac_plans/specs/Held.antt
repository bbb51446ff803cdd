-- Bits that are not written yet.
use Rattle.std.specs.Prelude.{◌≡◌, ◌≤◌, ◌<◌, ◌^◌, Bool, List, ◌++◌}
use Rattle.flac_definitions.specs.Bits.{bits_of}
use Rattle.flac_plans.specs.declared.residual.Held.{Held}

-- fewer bits than a word has
pub record IsHeldWord (held : Held) : Type 0 where
  pub short : held.count ≤ 63
  pub small : held.word < 2 ^ held.count

-- bits that were there, with all of those that were to follow but for the ones that are held
pub record IsHeld (before bits after : List Bool) (held : Held) : Type 0 where
  pub front : List Bool
  pub whole : bits ≡ front ++ bits_of held.count held.word
  pub kept : after ≡ before ++ front
