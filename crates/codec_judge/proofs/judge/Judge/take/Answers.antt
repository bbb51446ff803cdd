use Rattle.codec_judge.proofs.judge.Judge.take.Goals as goal

pub returns-in-Start : goal.returns-in-Start
returns-in-Start g c = rw c.in-Start.is (c.start.ensures c.args.lender.now c.requires)
