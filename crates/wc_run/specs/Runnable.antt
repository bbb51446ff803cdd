-- When a script can be run with threads on a desk.
use Rattle.std.specs.Prelude.{ℕ, ◌≡◌, ◌<◌, ◌^◌, length}
use Rattle.codec_desk.specs.declared.desk.Desk.{Desk}
use Rattle.script_types.specs.declared.script.ScriptData.{ScriptData}
use Rattle.run_model.specs.Recorded.{steps_of}
use Rattle.order_laws.specs.Sound.{IsSound}
use Rattle.desk_callers.specs.Acts.{AreOpened}

-- Each step has what it needs, and its number fits in 32 bits.
pub record IsRunnable (s : ScriptData) : Type 0 where
  pub sound : IsSound s
  pub few : (c : ℕ) → length (steps_of s c) < 2 ^ 32

-- the desk has the script's codecs, opened as the script says
pub record IsDeskOf {C : Type 0} (s : ScriptData) (desk : Desk C) : Type 0 where
  pub opened : AreOpened s desk.codecs.items
  pub codecs : length s.codecs ≡ length desk.codecs.items
