use Rattle.std.proofs.Common.{arith}
use Rattle.chunk_files.proofs.OneReading.{one_list, one_fault, not_both, told, refused}
use Rattle.chunk_files.proofs.read.read_chunks.Goals as goal

pub returns : goal.returns
returns c = record {
  chunks = c.read_all.ensures.chunks;
  fault = c.read_all.ensures.fault;
  file_is_read = λ chunks h. grind (arith, h, not_both c.args.bytes.now chunks, c.read_all.ensures.fault);
  fault_is_told = λ x h. told c.read_all.result _ _ (λ f q. one_fault c.args.bytes.now f x q h) c.read_all.ensures.fault;
  faulty_is_refused = λ x h. refused c.read_all.result _ (λ v p. not_both c.args.bytes.now v.items x p h) c.read_all.ensures.chunks;
  same_chunks = λ chunks h. grind (arith, h, one_list c.args.bytes.now, c.read_all.ensures.chunks);
}
