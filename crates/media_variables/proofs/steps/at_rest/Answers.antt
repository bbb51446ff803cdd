use Rattle.media_variables.proofs.steps.at_rest.Goals as goal

pub returns : goal.returns
returns g c = g.P.RefPool.rests c.args.pool.now
