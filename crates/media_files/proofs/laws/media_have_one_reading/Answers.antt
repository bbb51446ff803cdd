use Rattle.script_types.specs.Sound.{most_media}
use Rattle.std.proofs.Common.{◌-◌}
use Rattle.media_files.proofs.{OneReading.one_media, SomeReading.files_give}
use Rattle.media_files.proofs.laws.media_have_one_reading.Goals as goal

pub returns-clause-one : goal.returns-clause-one
returns-clause-one c files s a b p q = one_media (record { file = c.files_have_one_reading.ensures.media; fault = c.files_have_one_reading.ensures.fault; apart = c.files_have_one_reading.ensures.apart }) files s.chunk_files (most_media - s.inline) a b p q

pub returns-clause-some : goal.returns-clause-some
returns-clause-some c files s = files_give c.files_have_one_reading.ensures.some files (most_media - s.inline) s.chunk_files
