use Rattle.std.proofs.Common.{◌≡◌, map, drop}
use Rattle.codec_judge.specs.Lawful.{has_coder}
use Rattle.codec_judge.proofs.lender.place_in.Given as goal

abbrev pub invariant-loop-place : goal.invariant-loop-place
invariant-loop-place g l = has_coder l.id (map g.C.Coder.coder l.coders) ≡ has_coder l.id (map g.C.Coder.coder (drop l.place l.coders))
