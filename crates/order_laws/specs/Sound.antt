-- What a script must hold so that each of its steps has what it needs.
use Rattle.std.specs.Prelude.{ℕ, ◌≡◌, ◌<◌, length, Some}
use Rattle.script_types.specs.declared.script.ScriptData.{ScriptData}
use Rattle.script_types.specs.declared.steps.Variable.{Variable}
use Rattle.script_types.specs.declared.steps.Step.{Step}
use Rattle.script_types.specs.Names.{names_codec, looked_at, IsFlush}
use Rattle.run_model.specs.Fits.{step_in, port_posted, port_received}

-- Each step that names a codec names one of the script's, and one that names a port one of its ports; each promise is that of an
-- earlier flush of the same caller.
pub record IsSound (s : ScriptData) : Type 0 where
  pub names : (c j k : ℕ) (x : Step) → step_in s c j ≡ Some x → names_codec x ≡ Some k → k < length s.codecs
  pub earlier : (c j : ℕ) (x : Step) (v : Variable) → step_in s c j ≡ Some x → looked_at x ≡ Some v → v.step < j
  pub promised : (c j : ℕ) (x : Step) (v : Variable) → step_in s c j ≡ Some x → looked_at x ≡ Some v → (y : Step) × (step_in s c v.step ≡ Some y) × IsFlush y
  pub posts : (c j port : ℕ) (x : Step) → step_in s c j ≡ Some x → port_posted x ≡ Some port → port < length s.ports
  pub receives : (c j port : ℕ) (x : Step) → step_in s c j ≡ Some x → port_received x ≡ Some port → port < length s.ports
