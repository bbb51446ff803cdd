use Rattle.std.proofs.Common.{sym, ◌∙◌}
use Rattle.codec_judge.proofs.Lending.{is_at}
use Rattle.codec_judge.proofs.lender.place_in.Goals as goal

pub returns-then-is_of-clause-some : goal.returns-then-is_of-clause-some
returns-then-is_of-clause-some g c = is_at g.C.Coder.coder c.args.coders.now c.loop-place.place _ c.args.id c.loop-place-test.true c.index-coders-place.is (sym c.is_of.ensures ∙ c.if-is_of.true)
