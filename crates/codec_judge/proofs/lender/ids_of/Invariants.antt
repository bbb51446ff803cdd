use Rattle.std.proofs.Common.{◌≡◌, map, take}
use Rattle.codec_judge.proofs.lender.ids_of.Given as goal

abbrev pub invariant-loop-coder : goal.invariant-loop-coder
invariant-loop-coder g l = l.ids.items ≡ map g.C.Coder.coder (take l.coder-index l.coders)
