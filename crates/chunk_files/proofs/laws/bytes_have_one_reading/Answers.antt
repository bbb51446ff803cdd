use Rattle.chunk_files.proofs.OneReading.{one_list, one_fault, not_both}
use Rattle.chunk_files.proofs.Whole.{each_is_read}
use Rattle.chunk_files.proofs.laws.bytes_have_one_reading.Goals as goal

pub returns : goal.returns
returns c = record { chunks = one_list; fault = one_fault; apart = not_both; some = each_is_read }
