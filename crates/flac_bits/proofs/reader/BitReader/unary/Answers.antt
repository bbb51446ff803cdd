use Rattle.std.proofs.Common.{◌≤◌, ◌+◌, ◌-◌, ◌*◌, ℕ, length, arith, rules, ap, sym, subst, ◌∙◌}
use Rattle.std.specs.Int.Count.{count_leading_zeros}
use Rattle.flac_definitions.specs.Bits.{Place, zeros_at}
use Rattle.flac_bits.specs.Window.{IsWindow}
use Rattle.flac_bits.specs.WindowLaws.{no_window, later_window, zeros_in_window}
use Rattle.flac_bits.proofs.reader.BitReader.unary.Goals as goal

pub invariant_of-self : goal.invariant_of-self
invariant_of-self c =
    let bytes = c.self.inside.bytes.now in let at = c.self.inside.at in
    let word = c.refill-window.result.word in let valid = c.refill-window.result.valid in
    let n = count_leading_zeros 64 word + 1 in
    (c.self.invariant.0, (omega (arith, c.refill-window.ensures.there)), subst (λ (w : ℕ). IsWindow bytes (at + n) w (valid - n)) (sym c.move_up.ensures) (later_window bytes at word valid n c.refill-window.ensures (omega arith)))

pub returns-then-zeros-window-clause-read : goal.returns-then-zeros-window-clause-read
returns-then-zeros-window-clause-read c =
    let p : Place = record { bytes = c.self.inside.bytes.now; at = c.self.inside.at } in
    ap (λ (q : Place). zeros_at q) (sym c.self.view_is)
    ∙ zeros_in_window p c.refill-window.result.word c.refill-window.result.valid c.refill-window.ensures (omega arith) (omega arith)

pub invariant_of-self-in-Some : goal.invariant_of-self-in-Some
invariant_of-self-in-Some c =
    let h : c.self.inside.at + (c.in-Some.n + 1) ≤ 8 * length c.self.inside.bytes.now = search rules in
    (c.self.invariant.0, h, no_window c.self.inside.bytes.now (c.self.inside.at + (c.in-Some.n + 1)) h)
