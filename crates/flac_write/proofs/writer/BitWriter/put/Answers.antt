use Rattle.std.proofs.Common.{List, ◌++◌, ap, ◌∙◌, ◌+◌, Bool}
use Rattle.flac_definitions.specs.Bits.{bits_of}
use Rattle.flac_write.specs.Writer.{written}
use Rattle.flac_write.proofs.Words.{put_fits}
use Rattle.flac_write.proofs.writer.BitWriter.put.Goals as goal

pub returns-then-n-self-clause-ok : goal.returns-then-n-self-clause-ok
returns-then-n-self-clause-ok c =
    let w = c.self.inside in
    ap (written w.bytes.items (w.used + c.args.n)) c.joined-self-inside.ensures.value ∙ (put_fits w.bytes.items w.used w.last c.args.n c.args.v c.requires.v ∙ ap (λ (l : List Bool). l ++ bits_of c.args.n c.args.v) c.self.view_is)
