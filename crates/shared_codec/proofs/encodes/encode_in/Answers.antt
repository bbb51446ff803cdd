use Rattle.shared_codec.proofs.encodes.encode_in.Goals as goal

pub returns-in-Some-clause-stays : goal.returns-in-Some-clause-stays
returns-in-Some-clause-stays g c = g.L.Lender.rests c.args.lender.now
