use Rattle.std.proofs.Common.{List, Bool, ℕ, ◌++◌, ◌≡◌, ◌∙◌, ap, subst, length, ◌%◌}
use Rattle.std.specs.Result.{OnOk}
use Rattle.flac_definitions.specs.HeaderWriting.{code_bits, number_bits, size_bits, front_bits, block_size_code}
use Rattle.flac_write.proofs.NumberLaws.{whole_front, three_parts, with_sum}
use Rattle.flac_write.proofs.header.write_fields.Goals as goal

pub crc8-sum-requires : goal.crc8-sum-requires
crc8-sum-requires c =
    let h = c.args.h.now in
    let code = block_size_code h.block in
    let z : c.write_size.new.w ≡ front_bits h =
    three_parts c.args.w.now (code_bits h) (number_bits h.number) (size_bits code h.block) c.write_codes.new.w c.write_number.new.w c.write_size.new.w c.requires.empty c.in_ok-write_codes.ensures c.in_ok-write_number.ensures (c.in_ok-write_size.ensures ∙ ap (λ (k : ℕ). c.write_number.new.w ++ size_bits k h.block) c.block_size_code.ensures.value) in
    ap (λ (l : List Bool). length l % 8) z ∙ whole_front h

pub returns : goal.returns
returns c =
    let h = c.args.h.now in
    let code = block_size_code h.block in
    let z : c.write_size.new.w ≡ front_bits h =
    three_parts c.args.w.now (code_bits h) (number_bits h.number) (size_bits code h.block) c.write_codes.new.w c.write_number.new.w c.write_size.new.w c.requires.empty c.in_ok-write_codes.ensures c.in_ok-write_number.ensures (c.in_ok-write_size.ensures ∙ ap (λ (k : ℕ). c.write_number.new.w ++ size_bits k h.block) c.block_size_code.ensures.value) in
    subst (λ (l : List Bool). OnOk c.put.result (c.put.new.self ≡ l)) (with_sum h c.write_size.new.w c.crc8-sum.new.self c.crc8-sum.result z c.crc8-sum.ensures.same c.crc8-sum.ensures.value) c.put.ensures.ok
