use Rattle.std.proofs.Common.{◌≡◌, ℕ, List, Result, Ok, Err, IfOk, ◌++◌, take, arith}
use Rattle.chunk_files.specs.declared.fault.DemuxFault.{DemuxFault}
use Rattle.chunk_files.specs.declared.fault.Stop.{Stop}
use Rattle.wc_demux.specs.Wav.{joined}
use Rattle.wc_demux.specs.Flac.{head_of, IsFlacFile}
use Rattle.wc_demux.specs.declared.flac.Flac.{Flac}
use Rattle.wc_demux.proofs.FlacLaws.{one_file, one_fault, not_both, file_joined}
use Rattle.wc_demux.proofs.MediaLaws.{told, refused}
use Rattle.wc_demux.proofs.flac.read_flac.Goals as goal

all_joined : (bytes : List ℕ) (r : Result Flac (Stop DemuxFault)) → IfOk r (λ f. IsFlacFile f bytes) → IfOk r (λ f. (place : ℕ) × (head_of bytes ≡ Ok (f.info, place)) × (take place bytes ++ joined f.chunks ≡ bytes))
all_joined bytes (Ok f) h = file_joined bytes f h
all_joined bytes (Err e) h = tt

pub returns-clause-same : goal.returns-clause-same
returns-clause-same c = λ f h. grind (arith, h, one_file c.frames_are_found.ensures c.args.bytes.now, c.read_all.ensures.flac)

pub returns-clause-file_is_read : goal.returns-clause-file_is_read
returns-clause-file_is_read c = λ f h. grind (arith, h, not_both c.frames_are_found.ensures c.args.bytes.now f, c.read_all.ensures.fault)

pub returns-clause-fault_is_told : goal.returns-clause-fault_is_told
returns-clause-fault_is_told c = λ x h. told c.read_all.result _ _ (λ f q. one_fault c.frames_are_found.ensures c.args.bytes.now f x q h) c.read_all.ensures.fault

pub returns-clause-faulty_is_refused : goal.returns-clause-faulty_is_refused
returns-clause-faulty_is_refused c = λ x h. refused c.read_all.result _ (λ v p. not_both c.frames_are_found.ensures c.args.bytes.now v x p h) c.read_all.ensures.flac

pub returns-clause-joined : goal.returns-clause-joined
returns-clause-joined c = all_joined c.args.bytes.now c.read_all.result c.read_all.ensures.flac
