use Rattle.std.proofs.Common.{◌≤◌, ◌*◌, length, rules}
use Rattle.flac_bits.specs.WindowLaws.{no_window}
use Rattle.flac_bits.proofs.reader.BitReader.move_to.Goals as goal

pub invariant_of-self : goal.invariant_of-self
invariant_of-self c =
    let h : c.args.at ≤ 8 * length c.self.inside.bytes.now = search rules in
    (c.self.invariant.0, h, no_window c.self.inside.bytes.now c.args.at h)
