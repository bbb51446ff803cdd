-- What is known of a step that was read.
use Rattle.std.specs.Prelude.{◌≡◌, ◌≤◌, ℕ, true, List, [], length, Option, Some, Ok}
use Rattle.serde_json.specs.Data.{Data}
use Rattle.script_types.specs.declared.script.CodecItem.{CodecItem}
use Rattle.script_types.specs.declared.script.PortItem.{PortItem}
use Rattle.script_types.specs.declared.steps.Step.{Step}
use Rattle.script_types.specs.Sound.{is_sound_step, bytes_of_step, file_after, are_apart}
use Rattle.script_steps.specs.Words.{inline_data, byte_count}
use Rattle.script_steps.specs.Ports.{is_right_use}
use Rattle.script_steps.specs.Steps.{step_of}

-- nothing in the step is at fault, it holds no more than its inline data, and the files after it are those before it and
-- at most the one that it mentions, no two of one name; and the port that it names, if it names one, is of its kind
pub record IsSoundAfter (codecs : List CodecItem) (ports : List (Option PortItem)) (files : List (List ℕ)) (before : List Step) (d : Data) (s : Step) (after : List (List ℕ)) : Type 0 where
  pub step : is_sound_step codecs before s ≡ true
  pub bytes : bytes_of_step s ≤ byte_count (inline_data d)
  pub count : file_after (length files) s ≡ Some (length after)
  pub apart : are_apart [] files ≡ true → are_apart [] after ≡ true
  pub uses : is_right_use ports s ≡ true

abbrev pub StepsAreSound : Type 0
StepsAreSound =
    (codecs : List CodecItem) (ports : List (Option PortItem)) (files : List (List ℕ)) (before : List Step) (d : Data) (s : Step) (after : List (List ℕ))
    → step_of codecs ports files before d ≡ Ok (s, after) → IsSoundAfter codecs ports files before d s after
