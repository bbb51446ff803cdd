use Rattle.std.proofs.Common.{rules, ◌≡◌, ◌+◌, ℕ, length, take, ap, sym, ◌∙◌}
use Rattle.flac_description.proofs.Writing.{written}
use Rattle.flac_description.proofs.description.write_streaminfo.Goals as goal

pub written_is_read-requires-clause-bits : goal.written_is_read-requires-clause-bits
written_is_read-requires-clause-bits c =
    let info = c.args.info.now in
    let sum : length info.md5 ≡ 16 = search rules in
    let long : length c.put-2.new.room ≡ 42 = search rules in
    written info c.put.new.room c.put_number.new.room c.put_number-2.new.room c.put_number-3.new.room c.put-2.new.room
    c.block_sizes.result c.frame_sizes.result c.sound.result long c.put.ensures c.put_number.ensures c.put_number-2.ensures c.put_number-3.ensures
    (ap (λ (k : ℕ). take (26 + k) c.put-2.new.room) (sym sum) ∙ c.put-2.ensures)
    c.block_sizes.ensures c.frame_sizes.ensures c.sound.ensures

pub returns-clause-bits : goal.returns-clause-bits
returns-clause-bits c =
    let info = c.args.info.now in
    let sum : length info.md5 ≡ 16 = search rules in
    let long : length c.put-2.new.room ≡ 42 = search rules in
    written info c.put.new.room c.put_number.new.room c.put_number-2.new.room c.put_number-3.new.room c.put-2.new.room
    c.block_sizes.result c.frame_sizes.result c.sound.result long c.put.ensures c.put_number.ensures c.put_number-2.ensures c.put_number-3.ensures
    (ap (λ (k : ℕ). take (26 + k) c.put-2.new.room) (sym sum) ∙ c.put-2.ensures)
    c.block_sizes.ensures c.frame_sizes.ensures c.sound.ensures
