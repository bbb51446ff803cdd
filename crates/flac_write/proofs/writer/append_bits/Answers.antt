use Rattle.std.proofs.Common.{ℕ, arith, rules, ◌≡◌, ◌++◌, ◌-◌, ◌*◌, ◌/◌, ◌%◌, ◌^◌, take, subst}
use Rattle.std.specs.Int.{w64, to_be_bytes}
use Rattle.flac_definitions.specs.Bits.{bits_in}
use Rattle.flac_write.specs.Writer.{written}
use Rattle.flac_write.proofs.Words.{front_word, appended_bits, no_bits}
use Rattle.flac_write.proofs.writer.append_bits.Goals as goal

pub returns-then-used-gt0 : goal.returns-then-used-gt0
returns-then-used-gt0 c =
    let last = c.args.last in
    let used = c.args.used in
    let before = c.args.bytes.now.items in
    let items : c.append.new.bytes.items ≡ before ++ take (used / 8) (to_be_bytes w64 (last * 2 ^ (64 - used) % 2 ^ 64)) = search rules in
    appended_bits c.append.new.bytes.items before (take (used / 8) (to_be_bytes w64 (last * 2 ^ (64 - used) % 2 ^ 64))) last used items
    (front_word last used c.if-used-gt0.true c.requires.pending.short c.requires.pending.small c.requires.whole)

pub returns-else-used-gt0 : goal.returns-else-used-gt0
returns-else-used-gt0 c =
    let last = c.args.last in
    let before = c.args.bytes.now.items in
    subst (λ (n : ℕ). bits_in before ≡ written before n last) (omega (arith, c.if-used-gt0.false)) (no_bits before last)
