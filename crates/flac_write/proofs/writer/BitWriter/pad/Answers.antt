use Rattle.std.proofs.Common.{ℕ, ◌++◌, ◌≡◌, sym, subst, rules}
use Rattle.std.specs.Result.{OnOk}
use Rattle.std.proofs.lemmas.Result.{on_ok_weaker}
use Rattle.flac_definitions.specs.Bits.{bits_of}
use Rattle.flac_write.proofs.Words.{to_byte, padded}
use Rattle.flac_write.proofs.writer.BitWriter.pad.Goals as goal

pub returns-clause-ok : goal.returns-clause-ok
returns-clause-ok c =
    let w = c.self.inside in
    subst (λ (n : ℕ). OnOk c.put.result (c.put.new.self ≡ c.args.self.now ++ bits_of n 0)) (sym (to_byte c.args.self.now w.bytes.items w.used w.last c.self.view_is)) (search rules)

pub returns-clause-whole : goal.returns-clause-whole
returns-clause-whole c =
    let w = c.self.inside in
    on_ok_weaker c.put.result (λ e. padded c.args.self.now c.put.new.self w.bytes.items w.used w.last c.self.view_is e) c.put.ensures.ok
