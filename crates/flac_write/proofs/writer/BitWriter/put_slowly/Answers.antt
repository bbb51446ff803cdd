use Rattle.std.proofs.Common.{ℕ, List, ◌++◌, ap, ◌∙◌, ◌-◌, arith, rules, ◌≡◌, ◌/◌, ◌*◌, ◌+◌, ◌^◌, Bool}
use Rattle.std.specs.Int.{w64, to_be_bytes}
use Rattle.flac_definitions.specs.Bits.{bits_of}
use Rattle.flac_write.specs.Writer.{written}
use Rattle.flac_write.proofs.Words.{put_fits, put_fills}
use Rattle.flac_write.proofs.writer.BitWriter.put_slowly.Goals as goal

pub returns-then-n-free-clause-ok : goal.returns-then-n-free-clause-ok
returns-then-n-free-clause-ok c =
    let w = c.self.inside in
    let items : c.reserve.new.self.items ≡ w.bytes.items = search rules in
    ap (λ (l : List ℕ). written l (w.used + c.args.n) c.joined-self-inside.result) items
    ∙ (ap (written w.bytes.items (w.used + c.args.n)) c.joined-self-inside.ensures.value ∙ (put_fits w.bytes.items w.used w.last c.args.n c.args.v c.requires.v ∙ ap (λ (l : List Bool). l ++ bits_of c.args.n c.args.v) c.self.view_is))

pub returns-clause-ok : goal.returns-clause-ok
returns-clause-ok c =
    let w = c.self.inside in
    let n = c.args.n in
    let v = c.args.v in
    let free = 64 - w.used in
    let rest = n - free in
    let word = w.last * 2 ^ free + v / 2 ^ rest in
    let items : c.append.new.bytes.items ≡ w.bytes.items ++ to_be_bytes w64 word = search rules in
    ap (λ (l : List ℕ). written l rest c.low-self-inside.result) items
    ∙ (ap (written (w.bytes.items ++ to_be_bytes w64 word) rest) c.low-self-inside.ensures.value
    ∙ (put_fills w.bytes.items w.used w.last n v free rest (omega (arith, c.self.invariant)) (omega arith) c.requires.v ∙ ap (λ (l : List Bool). l ++ bits_of n v) c.self.view_is))
