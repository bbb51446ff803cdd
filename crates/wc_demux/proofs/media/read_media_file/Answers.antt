use Rattle.std.proofs.Common.{arith}
use Rattle.wc_demux.proofs.MediaLaws.{told, refused}
use Rattle.wc_demux.proofs.media.read_media_file.Goals as goal

pub returns-clause-same : goal.returns-clause-same
returns-clause-same c = λ m h. grind (arith, h, c.files_have_one_reading.ensures.media c.args.bytes.now, c.read_any.ensures.media)

pub returns-clause-file_is_read : goal.returns-clause-file_is_read
returns-clause-file_is_read c = λ m h. grind (arith, h, c.files_have_one_reading.ensures.apart c.args.bytes.now m, c.read_any.ensures.fault)

pub returns-clause-fault_is_told : goal.returns-clause-fault_is_told
returns-clause-fault_is_told c = λ x h. told c.read_any.result _ _ (λ f q. c.files_have_one_reading.ensures.fault c.args.bytes.now f x q h) c.read_any.ensures.fault

pub returns-clause-faulty_is_refused : goal.returns-clause-faulty_is_refused
returns-clause-faulty_is_refused c = λ x h. refused c.read_any.result _ (λ v p. c.files_have_one_reading.ensures.apart c.args.bytes.now v x p h) c.read_any.ensures.media
