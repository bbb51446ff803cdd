use Rattle.std.proofs.Common.{◌≤◌, ◌+◌, ◌-◌, ◌*◌, ℕ, Some, length, arith, rules, ap, sym, subst, ◌∙◌}
use Rattle.flac_definitions.specs.Bits.{Place, forward, number_at}
use Rattle.flac_bits.specs.Window.{IsWindow}
use Rattle.flac_bits.specs.WindowLaws.{no_window, later_window, number_in_window}
use Rattle.flac_bits.proofs.reader.BitReader.take.Goals as goal

pub invariant_of-self : goal.invariant_of-self
invariant_of-self c =
    let bytes = c.self.inside.bytes.now in let at = c.self.inside.at in let n = c.args.n in
    let word = c.refill-window.result.word in let valid = c.refill-window.result.valid in
    (c.self.invariant.0, (omega (arith, c.refill-window.ensures.there)), subst (λ (w : ℕ). IsWindow bytes (at + n) w (valid - n)) (sym c.move_up.ensures) (later_window bytes at word valid n c.refill-window.ensures (omega arith)))

pub returns-then-n-window-clause-read : goal.returns-then-n-window-clause-read
returns-then-n-window-clause-read c =
    let n = c.args.n in
    let p : Place = record { bytes = c.self.inside.bytes.now; at = c.self.inside.at } in
    ap (λ (q : Place). number_at n q) (sym c.self.view_is)
    ∙ number_in_window p c.refill-window.result.word c.refill-window.result.valid n c.refill-window.ensures (omega arith)
    ∙ ap (λ (v : ℕ). Some (v, forward n p)) (sym c.front.ensures.number)

pub invariant_of-self-2 : goal.invariant_of-self-2
invariant_of-self-2 c =
    let h : c.self.inside.at + c.args.n ≤ 8 * length c.self.inside.bytes.now = search rules in
    (c.self.invariant.0, h, no_window c.self.inside.bytes.now (c.self.inside.at + c.args.n) h)
