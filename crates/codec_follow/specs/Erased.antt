-- The state of a codec whose outputs are blank.
use Rattle.std.specs.Prelude.{length, map, None}
use Rattle.codec_model.specs.declared.entry.Task.{Task}
use Rattle.codec_model.specs.declared.entry.Task.TheVariants as task
use Rattle.codec_model.specs.Control.{Control}
use Rattle.codec_model.specs.Replay.{State}
use Rattle.codec_follow.specs.Follow.{blanks}

abbrev pub erased_task : Task → Task
erased_task (task.Output units) = task.Output (blanks (length units))
erased_task (task.Flushed promise units) = task.Flushed promise (blanks (length units))
erased_task t = t

-- blanks carry no config, so none is active
abbrev pub erased : Control → Control
erased c = record c { tasks = map erased_task c.tasks; active = None }

abbrev pub erased_state : State → State
erased_state s = record s { control = erased s.control }
