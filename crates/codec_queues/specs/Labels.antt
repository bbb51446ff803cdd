-- The decoder config that outputs carry, which the first of an item's outputs alone can have.
use Rattle.std.specs.Prelude.{List, ◌∷◌, Option, None}
use Rattle.wc_config.specs.declared.config.AudioDecoderConfig.{AudioDecoderConfig}
use Rattle.codec_definitions.specs.declared.unit.Unit as media
use Rattle.codec_definitions.specs.declared.unit.Unit.TheVariants as unit_of
use Rattle.codec_model.specs.declared.entry.Task.{Task}
use Rattle.codec_model.specs.declared.entry.Task.TheVariants as task
use Rattle.codec_model.specs.declared.entry.Ended.{Ended}
use Rattle.codec_model.specs.declared.entry.Ended.TheVariants as ended

-- the config that the first of some outputs carries
abbrev pub first_config : List media.Unit → Option AudioDecoderConfig
first_config (unit_of.Coded chunk config ∷ us) = config
first_config us = None

-- the config that the outputs of a task carry
abbrev pub task_label : Task → Option AudioDecoderConfig
task_label (task.Output units) = first_config units
task_label (task.Flushed promise units) = first_config units
task_label t = None

-- the config that the outputs of an item carry that ended
abbrev pub label_of : Ended → Option AudioDecoderConfig
label_of (ended.Ran units) = first_config units
label_of e = None

-- outputs of which the first carries no config
abbrev pub without_config : List media.Unit → List media.Unit
without_config (unit_of.Coded chunk config ∷ us) = unit_of.Coded chunk None ∷ us
without_config us = us
