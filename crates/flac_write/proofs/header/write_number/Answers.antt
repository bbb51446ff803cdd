use Rattle.std.proofs.Common.{List, Bool, ◌++◌, ◌≡◌, subst, ℕ, ap, ◌∙◌}
use Rattle.std.specs.Result.{OnOk}
use Rattle.flac_definitions.specs.HeaderWriting.{long_number_bits}
use Rattle.flac_write.proofs.NumberLaws.{short_number, long_number}
use Rattle.flac_write.proofs.header.write_number.Goals as goal

pub returns-then-n-lt128 : goal.returns-then-n-lt128
returns-then-n-lt128 c = subst (λ (l : List Bool). OnOk c.put.result (c.put.new.self ≡ c.args.w.now ++ l)) (short_number c.args.n c.if-n-lt128.true) c.put.ensures.ok

pub returns : goal.returns
returns c =
    subst (λ (l : List Bool). OnOk c.write_long_number.result (c.write_long_number.new.w ≡ c.args.w.now ++ l))
    (ap (λ (k : ℕ). long_number_bits k c.args.n) c.further_count.ensures.value ∙ long_number c.args.n c.if-n-lt128.false) c.write_long_number.ensures
